-- what a consumer acknowledges in the course of a line `down`
use Rattle.std.specs.Prelude.{◌&&◌, ◌≡◌, ◌<◌, ◌≤◌, ◌∷◌, ◌++◌, ◌^◌}
use Rattle.durability.specs.Pending.{due}
use Rattle.vb_calls.specs.Durable.{pending_prepares}
use Rattle.transcript_law.proofs.invariant.Agreement.{vb_of}
use Rattle.transcript_law.proofs.Words.{arith, eq-eqb, inl}
use Rattle.transcript_law.proofs.Words.{Some}
use Rattle.transcript_law.proofs.Words.{Plain}
use Rattle.transcript_law.proofs.Words.{ℕ, true, List, [], refl, ap, sym, ◌∙◌, subst, append_assoc, None, Frame, spelling, Event, Sound, fork_of, is_follower, States, after, after_job, after_job_lift, lift}
use Rattle.transcript_law.proofs.Words.{DialResult, Chronicle, after_lines, image_in}
use Rattle.transcript_law.proofs.invariant.Agreement.{AgreesAt, FollowsBy, Handing, VbAgrees, follows_in, taken_in, LinkAgrees, consumer_seat, AgreesIn}
use Rattle.transcript_law.proofs.{links.Acknowledging.{DueCame, ack_frame, acked_agrees, ack_lawful, due_came, handed_not}, invariant.LinkRows.{put_twice}}
use Rattle.transcript_law.proofs.{links.Downing.{Asker, Going, Line, Phase, Reached, busy_at, found_now, link_now, linked, now, so_far, vb_here}, lines.Lines.{after_more, lawful_more, quiet_more}, links.Onward.{Kept, onward_more}, links.Takes.{Took, took_more, takes_more}, verbs.Tellings.{same_place}}
use Rattle.takeover.specs.declared.take_over.TakeOver.{TakeOver}
use Rattle.transcript_law.specs.Lawfulness.{SavesThirds}
use Rattle.{dcp_consumer.specs.Machine.{is_streaming}, node_core.specs.Dials.{acknowledged_line, acknowledged_result, due_requested}}

-- a line `down` is in its course: what is due now
module _ (line : Line) (rest : List Frame) (states : Kept) (at : Asker) (events : List Event) (g : Going line rest states at events) (granted : is_streaming at.waiting ≡ true) (took : Took line.link.consumer.dialed events) (h : Handing) (taken : at.taking ≡ taken_in h) where
  open line use {w, r, link}
  open line.link.consumer.dialed use {node as n, vb as v, link as l}

  abbrev s : DialResult
  s = so_far line at None events

  abbrev told : Chronicle
  told = after_lines r events

  abbrev mine : LinkAgrees (now line states at) told g.cluster (link_now line at) [] rest
  mine = linked line rest states at events g

  -- it follows, as it did not take its branch over
  follows : is_follower mine.follower.role ≡ true
  follows = follows_in h mine.follower.role (subst (λ (t : TakeOver). FollowsBy t.last mine.follower.role) taken mine.follows)

  held : VbAgrees told n v (g.cluster.nodes (consumer_seat link)) mine.follower
  held = subst (AgreesAt told n v (g.cluster.nodes (consumer_seat link))) mine.follower_is (g.agrees.vbs n v)

  sound : Sound mine.follower
  sound = held.sound

  abbrev came : Kept × DialResult
  came = after_job (lift (due_requested s)) states.0 states.1

  came_is : (y : States × DialResult) → after (due_requested s) states.0 ≡ y → came ≡ ((y.0, states.1), y.1)
  came_is y e = after_job_lift (due_requested s) states.0 states.1 ∙ ap (λ y. ((y.0, states.1), y.1)) e

  -- what is due is no more than this
  met_by : (acked : ℕ) → due (pending_prepares mine.follower) (fork_of mine.follower.position) mine.follower.saved ≤ acked → (fv : Plain) → vb_of (now line states at) n v ≡ Some fv → due (pending_prepares fv) (fork_of fv.position) fv.saved ≤ acked
  met_by acked low fv is = let one : Some mine.follower ≡ Some fv = sym mine.follower_is ∙ is in let same : mine.follower ≡ fv = cc in subst (λ (x : Plain). due (pending_prepares x) (fork_of x.position) x.saved ≤ acked) same low

  -- nothing is, or it is acknowledged
  acked_on : (seq : ℕ) → due (pending_prepares mine.follower) (fork_of mine.follower.position) mine.follower.saved ≡ seq → seq < 2 ^ 64 → seq ≤ fork_of mine.follower.position → SavesThirds (image_in mine.follower) seq mine.follower.saved → after (due_requested s) states.0 ≡ (states.0, acknowledged_result seq s mine.follower.saved)
      → Reached line rest came
  acked_on seq is low shared thirds e =
      let saved : ℕ = mine.follower.saved in
      let bytes : List ℕ = spelling (ack_frame seq s.dial.consumer) in
      let at' : Asker = record { out = at.out ++ bytes; waiting = at.waiting; asked = at.asked; acked = seq; taking = at.taking } in
      let tell : Event = acknowledged_line link.consumer.dialed seq saved in
      record {
        states = states;
        at = at';
        over = None;
        events = events ++ tell ∷ [];
        same = came_is (states.0, acknowledged_result seq s saved) e;
        phase = Phase.Moving;
        stage = (
          record {
            lawful = lawful_more r events (tell ∷ []) g.quiet g.lawful (ack_lawful (busy_at line rest) (now line states at) told g.cluster g.agrees (link_now line at) [] rest mine seq granted follows shared thirds, tt);
            quiet = quiet_more events (tell ∷ []) g.quiet (tt, tt);
            onward = record { arm = g.onward.arm; lines = onward_more events tell g.onward.lines tt };
            takes = takes_more r link.consumer.dialed link.consumer.taking at.taking at.taking events tell refl refl g.takes;
            tells = inl (took_more link.consumer.dialed events tell took (λ i. eq-eqb l l refl i && same_place n v i));
            cluster = g.cluster;
            agrees = subst (λ x. AgreesIn (busy_at line rest) (now line states at') x g.cluster) (sym (after_more r events (tell ∷ [])))
                (acked_agrees (link_now line at) seq (link_now line at').up (sym (append_assoc link.up at.out bytes)) granted (handed_not (link_now line at).consumer h taken) low (busy_at line rest) (now line states at) (now line states at') told g.cluster
                g.agrees (found_now line states at)
                (record { powers = λ m. refl; vbs = λ m q. refl; shelves = λ m q. refl; uuids = refl; linked = sym (put_twice l w.links (link_now line at) (link_now line at') refl) }));
          },
          λ t. (granted, met_by seq (omega (arith, is))),
        );
      }

  pub due_going : Reached line rest came
  due_going = by (due_came states.0 mine.follower s (vb_here line states at mine.follower mine.follower_is) follows sound)
    where
      by : DueCame states.0 mine.follower s (after (due_requested s) states.0) → Reached line rest came
      by (DueCame.IsSilent low e) = record { states = states; at = at; over = None; events = events; same = came_is (states.0, s) e; phase = Phase.Moving; stage = (g, λ t. (granted, met_by at.acked (low granted))) }
      by (DueCame.IsAcked seq is granted low shared thirds e) = acked_on seq is low shared thirds e
