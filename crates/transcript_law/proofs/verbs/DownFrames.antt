-- the frames of a line `down`, one after another
use Rattle.std.specs.Prelude.{◌≡◌, ◌∷◌, ◌++◌}
use Rattle.transcript_law.proofs.Words.{ℕ, Bool, true, false, List, [], refl, ap, sym, ◌∙◌, subst, inl, inr, ⊎_elim, fold, Option, Some, None, Frame, EndReason, Event, Role, StaysSound, Ended, STATE_CHANGED}
use Rattle.transcript_law.proofs.Words.{Chronicle, Cluster, DialResult, Granted, Member, Move, Plain, PlainConsumer, PlainProducer, PlainWorld, StreamName, after_end, after_job, after_job_fold, after_lines, dcp_frame, frame_taken, frames_taken, happens, job_stepped, link_number, over_for, over_why, producer_node, row_at, row_out, row_put, unlinked, with_links}
use Rattle.transcript_law.proofs.invariant.Agreement.{Agrees, EndsStand, Handing, Heir, IsUnsaid, LinkAgrees, UpIs, Wants, consumer_seat, end_frames, end_reason, idle, is_refused_ack, spoken, taken_in, vb_of, wants_of}
use Rattle.transcript_law.proofs.invariant.{Carried.{one_but, one_here, one_idle, stream_end_lines, told_of_same}, Carrying.{BecameOver}, LinkRows.{put_is_found, put_out, put_twice}, OneLink.{carries_link, carries_over, mine as link_mine}, Seats.{seat}}
use Rattle.transcript_law.proofs.links.Downing.{Asker, Going, Line, Met, Noticed, OwnedAt, OwnedCame, Phase, Reached, Stage, StandsAt, StandsWith, answered_streams, busy_at, counted, end_of, ended, lifted_at, link_now, linked, next_downs, now, past, so_far}
use Rattle.transcript_law.proofs.links.{Breaking.{back_reached}, Cutting.{IsClosable, closable, unlinking}, DownAsks.{RefusedNext, asking_next, refused_next}, Onward.{Kept}, Owned.{own_next}, Pending.{pend_next}, Requests.{waits_open}, Spoken.{spoken_dropped, spoken_front}, Streaming.{Course, streaming_next}, Taken.{dropped_taken, end_done, end_taken, over_taken}}
use Rattle.transcript_law.proofs.{balance.Levels.{Has}, links.Downing.{EndCame, EndsSo}}
use Rattle.transcript_law.proofs.links.Takes.{is_own_end}
use Rattle.transcript_law.specs.{Chronicles.{after_noted}, LineAnswers.{IsNoted}}
use Rattle.dcp_consumer.specs.Machine.{answered as waited_for}
use Rattle.dcp_consumer.specs.declared.handshake.Handshake.TheVariants as waiting
use Rattle.mcbp_dcp.specs.declared.message.DcpMsg.TheVariants.{StreamEnd}
use Rattle.node_core.specs.Dials.{is_broken}
use Rattle.takeover.specs.declared.{take_over.TakeOver.{TakeOver}, take_over.TakeStep.TheVariants.{Own, Pend}}
use Rattle.vb_events.specs.declared.event.Answer.TheVariants as answer
use Rattle.vb_events.specs.declared.event.EndReason.TheVariants.{Disk, Done, Refused, State}

-- ---- an heir's link

-- while its consumer's follows, none was told active
none_owned : (h : Handing) → taken_in h ≡ record { last = Some Own } → ⊥
none_owned Handing.Unstated e = let z : None ≡ Some Own = ap (λ (t : TakeOver). t.last) e in cc
none_owned Handing.Offered e = let z : None ≡ Some Own = ap (λ (t : TakeOver). t.last) e in cc
none_owned Handing.Pended e = let z : Some Pend ≡ Some Own = ap (λ (t : TakeOver). t.last) e in cc
none_owned Handing.Due e = let z : Some Pend ≡ Some Own = ap (λ (t : TakeOver). t.last) e in cc
none_owned Handing.Ceded e = let z : Some Pend ≡ Some Own = ap (λ (t : TakeOver). t.last) e in cc
none_owned Handing.Stated e = let z : Some Pend ≡ Some Own = ap (λ (t : TakeOver). t.last) e in cc

-- a link whose consumer was told active is one
heir_of : {fv : Wants} {kn : Member} {pv : Option Plain} {leader : Member} {g : Option Granted} {stated : Option Role} {point : Option ℕ} {served : PlainProducer} {asker : PlainConsumer} {asked said : List Frame} → EndsStand fv kn pv leader g stated point served asker asked said
    → asker.taking ≡ record { last = Some Own } → Heir pv g served asker asked said
heir_of (EndsStand.IsAsking ask none x) own = let z : None ≡ Some Own = ap (λ (t : TakeOver). t.last) (sym x.untold ∙ own) in cc
heir_of (EndsStand.IsRefusedYet none x) own = let z : None ≡ Some Own = ap (λ (t : TakeOver). t.last) (sym x.untold ∙ own) in cc
heir_of (EndsStand.IsStreaming x told) own = absurd (none_owned x.serving.handing (sym x.taken_is ∙ own))
heir_of (EndsStand.IsHeir x told) own = x

-- why it is over once its end comes, by whether a change of role ended its stream
abbrev why_ended : Bool → EndReason
why_ended true = State
why_ended false = Done

calm_end : (turned : Bool) → is_own_end (why_ended turned) ≡ true
calm_end true = refl
calm_end false = refl

end_heard : (line : Line) (f : Frame) (at : Asker) (events : List Event) (turned : Bool) (more : List Frame) → at.waiting ≡ waiting.Streaming → f ∷ more ≡ end_frames at.asked line.link.consumer.dialed.vb (end_reason turned) true
    → frame_taken f (so_far line at None events) ≡ Ended (so_far line at (Some (why_ended turned)) events)
end_heard line f at events true more granted e =
    let same : f ≡ dcp_frame (StreamEnd STATE_CHANGED) at.asked line.link.consumer.dialed.vb = cc in
    subst (λ y. frame_taken y (so_far line at None events) ≡ Ended (over_for State (so_far line at None events))) (sym same) (end_taken at.asked line.link.consumer.dialed.vb (so_far line at None events) granted)
end_heard line f at events false more granted e =
    let same : f ≡ dcp_frame (StreamEnd 0) at.asked line.link.consumer.dialed.vb = cc in
    subst (λ y. frame_taken y (so_far line at None events) ≡ Ended (over_for Done (so_far line at None events))) (sym same) (end_done at.asked line.link.consumer.dialed.vb (so_far line at None events) granted)

-- so the end came
end_came : (line : Line) (f : Frame) → Has f line.all → (at : Asker) (events : List Event) (turned : Bool) (more : List Frame)
    → (gr : Granted) × ((after_lines line.r events).stream_of (StreamName.Link line.link.consumer.dialed.link) line.link.consumer.dialed.vb ≡ Some gr) × (gr.over ≡ true)
    → f ∷ more ≡ end_frames at.asked line.link.consumer.dialed.vb (end_reason turned) true → EndCame line turned events
end_came line f among at events turned more known e =
    let same : f ≡ dcp_frame (StreamEnd (end_reason turned)) at.asked line.link.consumer.dialed.vb = cc in
    record { opaque = at.asked; at_vb = line.link.consumer.dialed.vb; frame = subst (λ y. Has y line.all) same among; stream = known.0; told = known.1; over = known.2 }

ended_so : (line : Line) (turned : Bool) (events : List Event) → EndCame line turned events → EndsSo line (why_ended turned) events
ended_so line true events x = x
ended_so line false events x = x

-- ---- each frame

-- the frames that come whole are taken one after another
module _ (stays : StaysSound) (line : Line) (noticed : Noticed line) where
  open line use {w, r, link}

  module _ (f : Frame) (rest : List Frame) (among : Has f line.all) (states : Kept) (at : Asker) (events : List Event) (g : Going line (f ∷ rest) states at events) (met : Met line states at events) where
    abbrev at_frame : LinkAgrees (now line states at) (after_lines r events) g.cluster (link_now line at) [] (f ∷ rest)
    at_frame = linked line (f ∷ rest) states at events g

    abbrev frame_came : Kept × DialResult
    frame_came = after_job (frame_taken f (so_far line at None events)) states.0 states.1

    -- the frames behind it
    abbrev more : List Frame
    more = rest ++ at_frame.talk.downs.behind

    counted_on : frame_taken f (so_far line at None events) ≡ Ended (so_far line (past line.link.consumer.dialed.buffer at) None events) → StandsAt line (f ∷ rest) states at events g (past line.link.consumer.dialed.buffer at) more → Reached line rest frame_came
    counted_on e t = counted line f rest states at (waited_for line.link.consumer.dialed.buffer at.waiting) events g met (answered_streams line.link.consumer.dialed.buffer at.waiting) e t

    -- a frame of a link that was refused or sent back
    refused_on : IsUnsaid ((after_lines r events).stream_of (StreamName.Link link.consumer.dialed.link) link.consumer.dialed.vb) ((after_lines r events).stated_of link.consumer.dialed.link) → RefusedNext line f at events ((after_lines r events).point_of link.consumer.dialed.link) at_frame.talk.asked (spoken more) → Reached line rest frame_came
    refused_on none (RefusedNext.IsCounted e t) = counted_on e (EndsStand.IsRefusedYet none t)
    refused_on none (RefusedNext.IsOver e) = ended line stays f rest states states at at events Refused frame_came g refl tt (ap (λ p. after_job p states.0 states.1) e) (λ m q. refl) refl
    refused_on none (RefusedNext.IsBack to point e asks server no_stream fewer unstated none_asked none_said) =
        subst (λ p. Reached line rest (after_job p states.0 states.1)) (sym e) (back_reached line (record {
          before = record { stays = stays; noticed = noticed; f = f; among = among; rest = rest; states = states; at = at; events = events; going = g; met = met };
          named = to;
          point = point;
          asks = asks;
          server = server;
          untold = none;
          unstated = unstated;
          no_stream = no_stream;
          fewer = fewer;
          ups = subst (UpIs (link_now line at) []) none_asked at_frame.talk.ups;
          said = more;
          downs = next_downs line at at f rest at_frame.talk.said at_frame.talk.downs;
          none_said = none_said;
        }))

    -- the end of a stream whose consumer took the vBucket over: the link is over
    heir_next : at.waiting ≡ waiting.Streaming → (over turned : Bool) → (over ≡ true → (gr : Granted) × ((after_lines r events).stream_of (StreamName.Link link.consumer.dialed.link) link.consumer.dialed.vb ≡ Some gr) × (gr.over ≡ true))
        → f ∷ spoken more ≡ end_frames at.asked link.consumer.dialed.vb (end_reason turned) over → Reached line rest frame_came
    heir_next granted false turned known e = cc
    heir_next granted true turned known e = ended line stays f rest states states at at events (why_ended turned) frame_came g (calm_end turned) (ended_so line turned events (end_came line f among at events turned (spoken more) (known refl) e))
        (ap (λ p. after_job p states.0 states.1) (end_heard line f at events turned (spoken more) granted e)) (λ m q. refl) refl

    -- a frame that comes while the link is open, and that is not dropped
    stands_next : spoken at_frame.talk.said ≡ f ∷ spoken more → StandsAt line (f ∷ rest) states at events g at at_frame.talk.said → Reached line rest frame_came
    stands_next heard (EndsStand.IsAsking ask none x) =
        let y = asking_next line (wants_of at_frame.follower) ask f at events at_frame.talk.asked (spoken at_frame.talk.said) (spoken more) heard x in
        counted_on y.0 (EndsStand.IsAsking ask none y.1)
    stands_next heard (EndsStand.IsRefusedYet none x) =
        refused_on none (refused_next line f at events ((after_lines r events).point_of link.consumer.dialed.link) at_frame.talk.asked (spoken at_frame.talk.said) (spoken more) heard x)
    stands_next heard (EndsStand.IsStreaming x told) =
        let course : Course line = record { before = record { stays = stays; noticed = noticed; f = f; among = among; rest = rest; states = states; at = at; events = events; going = g; met = met }; heard = heard; streaming = x; stated = told } in
        streaming_next line course (pend_next line course) (own_next line course)
    stands_next heard (EndsStand.IsHeir x told) = heir_next x.granted x.granted_is.over x.stream.ended (λ over. (x.granted_is, x.told, over)) (sym heard ∙ x.end_is)

    -- the answer to an acknowledgement that was refused is dropped
    heard_next : (b : Bool) → is_refused_ack f ≡ b → Reached line rest frame_came
    heard_next true e = counted line f rest states at at.waiting events g met (λ streams. streams) (dropped_taken f (so_far line at None events) e)
        (subst (StandsWith line (f ∷ rest) states at events g at) (ap spoken at_frame.talk.downs.joined ∙ spoken_dropped f more e) at_frame.talk.stands)
    heard_next false e = stands_next (ap spoken at_frame.talk.downs.joined ∙ spoken_front f more e) at_frame.talk.stands

  -- the vBucket took its branch over: the link is an heir's
  module _ (f : Frame) (rest : List Frame) (among : Has f line.all) (states : Kept) (at : Asker) (events : List Event) (x : OwnedAt line (f ∷ rest) None states at events) where
    open link.consumer.dialed use {node as n, vb as v, link as l}

    abbrev own_world : PlainWorld
    own_world = with_links (lifted_at line states) (row_put link_number l (link_now line at) w.links)

    abbrev own_told : Chronicle
    own_told = after_noted (after_lines r events) n v Role.Active answer.Ok

    abbrev own_cluster : Cluster
    own_cluster = x.came.3

    abbrev own_came : Kept × DialResult
    own_came = after_job (frame_taken f (so_far line at None events)) states.0 states.1

    found_own : row_at link_number l own_world.links ≡ Some (link_now line at)
    found_own = put_is_found l w.links link (link_now line at) line.found refl

    own_link : LinkAgrees own_world own_told own_cluster (link_now line at) [] (f ∷ rest)
    own_link = subst (λ b. LinkAgrees own_world own_told own_cluster (link_now line at) b.0 b.1) (one_here l ([], f ∷ rest))
        (link_mine (busy_at line (f ∷ rest)) own_world own_told own_told own_cluster own_cluster l (link_now line at) x.came.4 found_own)

    abbrev own_more : List Frame
    own_more = rest ++ own_link.talk.downs.behind

    -- the link with other frames to come
    Ends : List Frame → Type 0
    Ends said = EndsStand (wants_of own_link.follower) (own_cluster.nodes (consumer_seat link)) (vb_of own_world (producer_node link) v) (own_cluster.nodes (seat (producer_node link) v)) (own_told.stream_of (StreamName.Link l) v) (own_told.stated_of l) (own_told.point_of l) link.server (end_of line at None) own_link.talk.asked said

    -- what is dropped changes nothing
    own_dropped : is_refused_ack f ≡ true → Reached line rest own_came
    unfolding Ends
    own_dropped e = record {
      states = states;
      at = at;
      over = None;
      events = events;
      same = ap (λ p. after_job p states.0 states.1) (dropped_taken f (so_far line at None events) e);
      phase = Phase.Owned;
      stage = record {
        lawful = x.lawful;
        quiet = x.quiet;
        heir = x.heir;
        pended = x.pended;
        takes_over = x.takes_over;
        uncut = x.uncut;
        beside = x.beside;
        ending = λ why q. cc;
        none_back = x.none_back;
        dials = x.dials;
        acked = x.acked;
        came = (
          x.came.0,
          x.came.1,
          x.came.2,
          own_cluster,
          carries_link (busy_at line (f ∷ rest)) (busy_at line rest) own_world own_world own_told own_told own_cluster l (link_now line at) (link_now line at) x.came.4 found_own (record { dialed = refl; desk = refl })
              (record { powers = λ m. refl; vbs = λ m q. refl; shelves = λ m q. refl; uuids = refl; linked = sym (put_twice l w.links (link_now line at) (link_now line at) refl) })
              (λ q id has. has) (told_of_same l own_told) (one_but l ([], f ∷ rest) ([], rest))
              (subst (λ b. LinkAgrees own_world own_told own_cluster (link_now line at) b.0 b.1) (sym (one_here l ([], rest))) (record {
                follower = own_link.follower;
                follower_is = own_link.follower_is;
                follows = own_link.follows;
                acks = own_link.acks;
                dial = own_link.dial;
                talk = record {
                  asked = own_link.talk.asked;
                  said = own_more;
                  stands = subst Ends (ap spoken own_link.talk.downs.joined ∙ spoken_dropped f own_more e) own_link.talk.stands;
                  ups = own_link.talk.ups;
                  downs = next_downs line at at f rest own_link.talk.said own_link.talk.downs;
                };
              })),
        );
      };
    }

    -- its end: the link is taken out
    own_gone : IsNoted (r.disk_at n v).closed line.node.arm.fuse answer.Ok × Agrees (unlinked link (lifted_at line states)) (after_noted (after_end (after_lines r events) l) n v Role.Active answer.Ok)
    own_gone =
        let same : row_out link_number l w.links ≡ row_out link_number l own_world.links = sym (put_out l w.links (link_now line at) refl) in
        let can : IsClosable own_world (link_now line at) = closable (busy_at line (f ∷ rest)) own_world own_told own_cluster (link_now line at) [] (f ∷ rest) x.came.4 own_link in
        let became : BecameOver own_world (unlinked link (lifted_at line states)) (link_now line at) = ⊎_elim
        (λ one. inl (record { powers = one.powers; vbs = one.vbs; shelves = one.shelves; uuids = one.uuids; linked = one.linked ∙ same }))
        (λ closed.
        let (id, pv, pv', opens, known, changed, one, at_it) = closed in
        inr (id, pv, pv', opens, known, changed, record { powers = one.powers; here = one.here; there = one.there; shelves = one.shelves; uuids = one.uuids; linked = one.linked ∙ same }, at_it))
        (unlinking stays (lifted_at line states) link can) in (
          x.came.2,
          (
            happens own_cluster (Move.Cut (consumer_seat link)),
            carries_over (busy_at line (f ∷ rest)) idle own_world (unlinked link (lifted_at line states)) own_told (after_noted (after_end (after_lines r events) l) n v Role.Active answer.Ok) own_cluster l (link_now line at) x.came.4 found_own became (stream_end_lines own_told l) (λ y ne. sym (one_idle l ([], f ∷ rest) y ne)),
          ),
        )

    own_over : (turned : Bool) → EndCame line turned events → own_came ≡ (states, so_far line at (Some (why_ended turned)) events) → Reached line rest own_came
    own_over false ending e = record {
      states = states;
      at = at;
      over = Some Done;
      events = events;
      same = e;
      phase = Phase.Owned;
      stage = record { lawful = x.lawful; quiet = x.quiet; heir = x.heir; pended = x.pended; takes_over = x.takes_over; uncut = λ q. cc; beside = x.beside; ending = λ why q. subst (λ y. EndsSo line y events) (let z : Some Done ≡ Some why = q in let d : Done ≡ why = cc in d) ending; none_back = x.none_back; dials = x.dials; acked = x.acked; came = own_gone };
    }
    own_over true ending e = record {
      states = states;
      at = at;
      over = Some State;
      events = events;
      same = e;
      phase = Phase.Owned;
      stage = record { lawful = x.lawful; quiet = x.quiet; heir = x.heir; pended = x.pended; takes_over = x.takes_over; uncut = λ q. cc; beside = x.beside; ending = λ why q. subst (λ y. EndsSo line y events) (let z : Some State ≡ Some why = q in let d : State ≡ why = cc in d) ending; none_back = x.none_back; dials = x.dials; acked = x.acked; came = own_gone };
    }

    own_end : (over turned : Bool) → at.waiting ≡ waiting.Streaming → (over ≡ true → (gr : Granted) × ((after_lines r events).stream_of (StreamName.Link l) v ≡ Some gr) × (gr.over ≡ true)) → f ∷ spoken own_more ≡ end_frames at.asked v (end_reason turned) over → Reached line rest own_came
    own_end false turned granted known e = cc
    own_end true turned granted known e = own_over turned (end_came line f among at events turned (spoken own_more) (known refl) e) (ap (λ p. after_job p states.0 states.1) (end_heard line f at events turned (spoken own_more) granted e))

    own_next_frame : (b : Bool) → is_refused_ack f ≡ b → Reached line rest own_came
    own_next_frame true e = own_dropped e
    own_next_frame false e =
        let h = heir_of own_link.talk.stands x.came.1 in
        own_end h.granted_is.over h.stream.ended h.granted (λ over. (h.granted_is, h.told, over)) (sym (ap spoken own_link.talk.downs.joined ∙ spoken_front f own_more e) ∙ h.end_is)

  -- once the link is over, the rest changes nothing
  owned_over : (busy busy' : List Frame) (why : EndReason) (states : Kept) (at : Asker) (events : List Event) → OwnedCame line busy (Some why) states at events → OwnedCame line busy' (Some why) states at events
  owned_over busy busy' Disk states at events x = x
  owned_over busy busy' other states at events x = x

  -- a frame; behind a rollback there is none that is not dropped
  pub one : (f : Frame) (rest : List Frame) → Has f line.all → (states : Kept) (at : Asker) (over : Option EndReason) (events : List Event) (phase : Phase) → Stage line phase (f ∷ rest) states at over events
      → Reached line rest (after_job (frame_taken f (so_far line at over events)) states.0 states.1)
  one f rest among states at None events Phase.Moving g = heard_next f rest among states at events g.0 g.1 (is_refused_ack f) refl
  one f rest among states at (Some why) events Phase.Moving g =
      record { states = states; at = at; over = Some why; events = events; same = ap (λ p. after_job p states.0 states.1) (over_taken f (so_far line at (Some why) events) why refl); phase = Phase.Moving; stage = g }
  one f rest among states at over events Phase.Rolled g = by (is_refused_ack f) refl
    where
      by : (b : Bool) → is_refused_ack f ≡ b → Reached line rest (after_job (frame_taken f (so_far line at over events)) states.0 states.1)
      by true e = record {
        states = states;
        at = at;
        over = over;
        events = events;
        same = ap (λ p. after_job p states.0 states.1) (dropped_taken f (so_far line at over events) e);
        phase = Phase.Rolled;
        stage = (sym (spoken_dropped f rest e) ∙ g.0, g.1);
      }
      by false e = let none : f ∷ spoken rest ≡ [] = sym (spoken_front f rest e) ∙ g.0 in cc
  one f rest among states at None events Phase.Owned g = own_next_frame f rest among states at events g (is_refused_ack f) refl
  one f rest among states at (Some why) events Phase.Owned g = record {
    states = states;
    at = at;
    over = Some why;
    events = events;
    same = ap (λ p. after_job p states.0 states.1) (over_taken f (so_far line at (Some why) events) why refl);
    phase = Phase.Owned;
    stage = record { lawful = g.lawful; quiet = g.quiet; heir = g.heir; pended = g.pended; takes_over = g.takes_over; uncut = g.uncut; beside = g.beside; ending = g.ending; none_back = g.none_back; dials = g.dials; acked = g.acked; came = owned_over (f ∷ rest) rest why states at events g.came };
  }

  all_frames : (frames : List Frame) → ((f : Frame) → Has f frames → Has f line.all) → (so_far : Kept × DialResult) → Reached line frames so_far → Reached line [] (fold (job_stepped frame_taken) so_far frames)
  all_frames [] among so_far x = x
  all_frames (f ∷ rest) among so_far x = all_frames rest (λ g has. among g (inr has)) (job_stepped frame_taken so_far f)
      (subst (λ y. Reached line rest (job_stepped frame_taken y f)) (sym x.same) (one f rest (among f (inl refl)) x.states x.at x.over x.events x.phase x.stage))

  -- the frames that come whole are taken
  pub frames_reached : (frames : List Frame) → ((f : Frame) → Has f frames → Has f line.all) → (states : Kept) (s : DialResult) → Reached line frames (states, s) → Reached line [] (after_job (frames_taken frames s) states.0 states.1)
  unfolding frames_taken
  frames_reached frames among states s x = subst (Reached line []) (sym (after_job_fold frame_taken frames (Ended s) states.0 states.1)) (all_frames frames among (states, s) x)

-- a link is not over while an answer or its stream is waited for
pub open_of : {fv : Wants} {kn : Member} {pv : Option Plain} {leader : Member} {g : Option Granted} {stated : Option Role} {point : Option ℕ} {served : PlainProducer} {asker : PlainConsumer} {asked said : List Frame} → EndsStand fv kn pv leader g stated point served asker asked said
    → over_why asker.handshake ≡ None
open_of {asker = asker} (EndsStand.IsAsking ask none x) = ap over_why x.consumer.waits ∙ waits_open asker.dialed x.seen
open_of {asker = asker} (EndsStand.IsRefusedYet none x) = ap over_why x.consumer.waits ∙ waits_open asker.dialed x.seen
open_of {asker = asker} (EndsStand.IsStreaming x told) = ap over_why x.consumer.waits ∙ waits_open asker.dialed x.seen
open_of (EndsStand.IsHeir x told) = ap over_why x.granted
