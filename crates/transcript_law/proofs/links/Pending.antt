-- a state pending that a consumer takes: its vBucket is about to take its branch over, and follows until then
use Rattle.std.specs.Prelude.{◌≡◌, ◌<◌, ◌≤◌, ◌∷◌, ◌++◌, ◌||◌, ◌^◌, if◌then◌else◌}
use Rattle.transcript_law.proofs.Words.{ℕ, Bool, true, false, List, [], list_any, list_any-append, drop, map, refl, ap, sym, ◌∙◌, subst, arith, inl, inr, ⊎_elim, append-nil, append_assoc, All-push, Option, Some, None, Frame, Readable, spelling, DcpMsg, dcp_frame, Event, Role}
use Rattle.transcript_law.proofs.Words.{Chronicle, Dial, Granted, Member, Plain, LawfulRole, StreamName, Done, Sound, after, after_job, after_job_lift, after_lines, after_role, ending_reply, fork_of, holds_fewer, image_in, in_role, is_follower, is_some, item_of_change, lift, link_number, newest_branch, plain_step, refusal_reply, row_put, with_line, with_seal, with_vb_at, DialResult, frame_taken, with_consumer, STATE_CHANGED}
use Rattle.transcript_law.proofs.invariant.Agreement.{AckedIs, AgreesAt, AgreesIn, DialAgrees, DiskIsIf, EndsStand, Handing, LinkAgrees, QueueIs, RestsIn, Streaming, StreamAgrees, UpwardIs, VbAgrees, VbHolds, answers_in, coming_items, consumer_seat, end_frames, flight_items, flight_marks, gives_in, is_granted, is_sending, marker_start, no_counts, no_lefts, no_times, own_history, shelf_of, state_answer, state_frames, stated_in, stream_frames, taken_in, vb_of, wants_of}
use Rattle.transcript_law.proofs.invariant.{Carried.{no_writer, one_but, one_here, talk_same}, Carrying.{Changed, MemberChanged, RoleOf, TakenOf}, Holdings.{OpenedAs}, LinkRows.{put_twice}, OneLink.{carries_turned, put_ends, role_rests}, Owed.{Fewer, fewer_idle}, Owing.{later_same}, JobSteps.{put_found, put_over}, Seats.{seat}, Wholes.{WholeTo, spanned_sealed, whole_sealed}}
use Rattle.transcript_law.proofs.disks.Disks.{sealed_disk}
use Rattle.transcript_law.proofs.lines.{Lines.{after_more, lawful_more, quiet_more}, Takeovers.{lines_takeovers}}
use Rattle.transcript_law.proofs.links.{Downing.{Asker, Line, Met, Phase, Reached, all_answers, busy_at, end_of, found_now, link_now, moved_agrees, next_downs, now, put_vb, same_powers, same_shelves, so_far, vb_others, vb_put}, Followed.{came_of, no_writes}, Frames.{readable, spelled_more}, Onward.{Kept, onward_all, onward_more}, Streaming.{Course, StateNext}, Taken.{go_frame, state_taken, stream_pended}, Takes.{TakesOn, took_of, untaken}, Upgoing.{upward_answered}}
use Rattle.transcript_law.proofs.links.Sent.{none_sourced}
use Rattle.transcript_law.proofs.links.Streaming as at_course
use Rattle.transcript_law.proofs.verbs.NodeLines.{role_here, role_row, role_there, writers_rest}
use Rattle.transcript_law.specs.{Heirs.{IsTaking}, Undone.{is_taking}}
use Rattle.dcp_consumer.specs.Machine.{is_streaming}
use Rattle.durability.specs.Pending.{due}
use Rattle.mcbp_dcp.specs.declared.shape.TheConstants.{SUCCESS}
use Rattle.node_core.specs.Dials.{is_pending, is_pending_answer, pend_called, pend_result, pended, role_line, state_met}
use Rattle.dcp_consumer.specs.States.{state_answered}
use Rattle.takeover.specs.{declared.{take_over.TakeOver.{TakeOver}, take_over.TakeStep.TheVariants.{Pend}}}
use Rattle.vb_calls.specs.Durable.{pending_prepares}
use Rattle.vb_calls.specs.State.{show_row}
use Rattle.vb_calls.specs.declared.calls.VbAnswer.TheVariants as answer
use Rattle.vb_calls.specs.declared.calls.VbCall.TheVariants as call
use Rattle.vb_types.specs.declared.status.Status.TheVariants as status
use Rattle.vb_events.specs.declared.event.Event.TheVariants as event
use Rattle.vb_events.specs.declared.event.StreamName.TheVariants.{Link}

-- ---- what is on its way up

-- one more frame behind others, and their bytes
pub queue_more : (heard moving moving' : List ℕ) (all : List Frame) (frame : Frame) → moving' ≡ moving ++ spelling frame → Readable frame → QueueIs heard moving [] all → QueueIs heard moving' [] (all ++ frame ∷ [])
queue_more heard moving moving' all frame wrote good x = record {
  behind = x.behind ++ frame ∷ [];
  joined = ap (λ fs. fs ++ frame ∷ []) x.joined;
  bytes = ap (λ b. heard ++ b) wrote ∙ spelled_more heard moving x.behind frame x.bytes;
  readable = All-push Readable all frame x.readable good;
}

-- the answer to a state is one
pub answer_readable : (o : ℕ) → o < 2 ^ 32 → Readable (state_answer o)
answer_readable o small = readable (DcpMsg.StateAnswer SUCCESS) o 0 tt (omega arith) small (omega arith) (omega arith)

-- the first of two lists is empty where both are
pub front_none : {A : Type 0} (xs ys : List A) → xs ++ ys ≡ [] → xs ≡ []
front_none [] ys e = refl
front_none (x ∷ xs) ys e = cc

-- ---- what is known where a state is next

-- one that stands in a state is dialed for a takeover
pub for_takeover : (b : Bool) (how : Handing) → (b ≡ false → how ≡ Handing.Unstated) → (how ≡ Handing.Unstated → ⊥) → b ≡ true
for_takeover true how so stated = refl
for_takeover false how so stated = absurd (stated (so refl))

-- what was put is told, so nothing of it is to come where nothing is
pub none_marked : (line : Line) (course : Course line) → course.streaming.feed.flight ≡ [] → course.streaming.granted_is.marks ≡ []
none_marked line course empty = course.streaming.streams.marks ∙ ap (flight_marks (marker_start (at_course.in_one line course) (at_course.kn line course).position)) empty

pub none_coming : (line : Line) (course : Course line) → (at_course.kn line course).coming ≡ Some [] → course.streaming.feed.flight ≡ [] → course.streaming.granted_is.coming ≡ []
none_coming line course none empty =
    let streaming = course.streaming in
    front_none streaming.granted_is.coming (map item_of_change (drop streaming.stream.next streaming.stream.items))
    (sym streaming.streams.coming.all ∙ (λ i. map item_of_change (coming_items (none i) ++ flight_items (empty i))))

-- a line that tells of no taking leaves what was taken as it was
taking_before : (events : List Event) (line : Event) → is_taking line ≡ false → list_any is_taking (events ++ line ∷ []) ≡ true → list_any is_taking events ≡ true
taking_before events line none t = left (list_any is_taking events) (sym (list_any-append is_taking events (line ∷ []) ∙ ap (λ b. list_any is_taking events || (b || false)) none) ∙ t)
  where
    left : (b : Bool) → (b || (false || false)) ≡ true → b ≡ true
    left true e = refl
    left false e = cc

-- a vBucket that is about to take over is told sealed, or may be told otherwise
opened_sealed : (told : Bool) → OpenedAs Role.Pending told false
opened_sealed true = tt
opened_sealed false = refl

module _ (line : Line) (course : Course line) where
  open line use {w, r, link}
  open line.link.consumer.dialed use {node as n, vb as v, link as l}
  open line.link.server.desk use {node as p}
  open course use {before.{stays, noticed, f, rest, states, at, events, met, going, at.{asked as o}, going.{cluster as c}}, streaming, streaming.{feed, granted_is.{over}}}

  abbrev k : ℕ
  k = consumer_seat link

  abbrev told : Chronicle
  told = after_lines r events

  abbrev mine : LinkAgrees (now line states at) told c (link_now line at) [] (f ∷ rest)
  mine = at_course.mine line course

  open mine use {follower as fv}

  abbrev kn : Member
  kn = c.nodes k

  abbrev s : DialResult
  s = so_far line at None events

  vb : VbAgrees told n v kn fv
  vb = at_course.vb line course

  follows : is_follower fv.role ≡ true
  follows = at_course.follows line course

  -- the vBucket then
  abbrev fv' : Plain
  fv' = in_role fv Role.Pending

  pend_is : plain_step fv call.Pend ≡ (fv', ending_reply fv answer.Done)
  pend_is = ap (λ b. if b then (in_role fv Role.Pending, ending_reply fv answer.Done) else (fv, refusal_reply status.NotMyVbucket)) follows

  abbrev states' : Kept
  states' = put_vb states v fv'

  -- the consumer's end then: it was told pending, and answers
  abbrev pended_at : Asker
  pended_at = record { out = at.out ++ state_answered o; waiting = at.waiting; asked = at.asked; acked = at.acked; taking = record { last = Some Pend } }

  abbrev told_it : DialResult
  told_it = with_consumer s (record s.dial.consumer { taking = record { last = Some Pend } })

  -- what the calls come to, by whether the vBucket was about to take over before
  abbrev met_with : Bool → DialResult
  met_with before = state_met o (if before then told_it else with_line told_it (role_line link.consumer.dialed Role.Pending))

  calls_came : after (pended o told_it) states.0 ≡ (with_vb_at states.0 v fv', met_with (is_pending (Some (show_row fv))))
  unfolding pended
  calls_came =
      came_of states.0 v call.Show (λ shown. pend_called o (is_pending shown) told_it) fv fv (show_row fv) (at_course.known line course) refl
      ∙ came_of (with_vb_at states.0 v fv) v call.Pend (λ reply. Done (pend_result o (is_pending (Some (show_row fv))) told_it reply)) fv fv' (ending_reply fv answer.Done) (put_found states.0 v fv) pend_is
      ∙ (λ i. (put_over states.0 v fv fv' i, met_with (is_pending (Some (show_row fv)))))

  sound : Sound fv'
  sound = subst Sound (ap (λ y. y.0) pend_is) (stays fv call.Pend vb.sound tt)

  holds : VbHolds told n v kn fv'
  holds = record {
    sound = sound;
    spanned = spanned_sealed fv.role Role.Pending fv.spans fv.position vb.spanned;
    keeps = vb.keeps;
    told = vb.told;
    member = record { active = vb.member.active ∙ no_writer fv.role follows; position = vb.member.position; log = vb.member.log };
    branch = vb.branch;
    holds = holds_fewer 0 (WholeTo fv.floor (with_seal fv.spans) fv.position) (WholeTo fv.floor fv.spans fv.position) kn.held (own_history told n v) (λ i x. (whole_sealed fv.spans i x.0, x.1, x.2)) vb.holds;
  }

  disk : DiskIsIf (told.disk_at n v) (c.disks k) (shelf_of (now line states' pended_at) n v) (Some fv')
  disk = subst (λ y. DiskIsIf (told.disk_at n v) (c.disks k) y (Some fv')) (sym (same_shelves line states' states refl n v))
      (sealed_disk (told.disk_at n v) (c.disks k) (shelf_of (now line states at) n v) fv fv' refl (subst (DiskIsIf (told.disk_at n v) (c.disks k) (shelf_of (now line states at) n v)) mine.follower_is (going.agrees.disks n v)))

  member : MemberChanged k c c
  member = record { tree = refl; others = λ j ne. refl; disks = λ j ne. refl }

  changed : Changed (now line states at) (now line states' pended_at) n v fv' (row_put link_number l (link_now line pended_at) (now line states at).links)
  changed = record {
    powers = same_powers line states states';
    here = vb_put line states states.1 pended_at fv';
    there = vb_others line states states.1 at pended_at fv';
    shelves = λ m q other. same_shelves line states' states refl m q;
    uuids = refl;
    linked = sym (put_twice l w.links (link_now line at) (link_now line pended_at) refl);
  }

  module _ (is : streaming.serving.handing ≡ Handing.Offered) (all : streaming.seen ≡ at_course.last line course) (none : kn.coming ≡ Some []) (empty : feed.flight ≡ [])
      (e : state_frames o v Handing.Offered ++ end_frames o v STATE_CHANGED over ≡ f ∷ (at_course.more line course ++ streaming.unput)) where
    unstated : streaming.serving.handing ≡ Handing.Unstated → ⊥
    unstated q = let z : Handing.Offered ≡ Handing.Unstated = sym is ∙ q in cc

    takes : link.consumer.dialed.takeover ≡ true
    takes = for_takeover link.consumer.dialed.takeover streaming.serving.handing streaming.serving.dialed_so unstated

    none_last : at.taking.last ≡ None
    none_last = ap (λ (t : TakeOver). t.last) (streaming.taken_is ∙ ap taken_in is)

    stated_before : r.stated_of l ≡ Some Role.Pending
    stated_before = sym (ap (λ (t : ℕ → Option Role). t l) (onward_all r events going.onward.lines).states) ∙ course.stated ∙ ap stated_in is

    -- it was told nothing before
    takes_now : (lines : List Event) → TakesOn r link.consumer.dialed link.consumer.taking pended_at.taking lines
    takes_now lines =
        let before : at.taking ≡ link.consumer.taking = (untaken r link.consumer.dialed link.consumer.taking at.taking events going.takes none_last).0 in
        inr (sym (ap (λ (t : TakeOver). t.last) before) ∙ none_last, refl, stated_before)

    frame_is : dcp_frame (DcpMsg.SetVbucketState Role.Pending) o v ≡ f
    frame_is = let q : dcp_frame (DcpMsg.SetVbucketState Role.Pending) o v ∷ end_frames o v STATE_CHANGED over ≡ f ∷ (at_course.more line course ++ streaming.unput) = e in cc

    behind : end_frames o v STATE_CHANGED over ≡ at_course.more line course ++ streaming.unput
    behind = ap (drop 1) e

    frame_came : after_job (frame_taken f s) states.0 states.1 ≡ (states', met_with (is_pending (Some (show_row fv))))
    frame_came =
        ap (λ j. after_job j states.0 states.1) (subst (λ y. frame_taken y s ≡ lift (pended o told_it)) frame_is (state_taken Pend o v s (at_course.granted_now line course all) takes (ap (λ (t : TakeOver). t.last) (streaming.taken_is ∙ ap taken_in is))))
        ∙ after_job_lift (pended o told_it) states.0 states.1 ∙ ap (λ y. ((y.0, states.1), y.1)) calls_came

    -- the stream goes on: its end is to come at most, behind an answer
    goes_on : Streaming (wants_of fv') kn (vb_of (now line states at) p v) (c.nodes (seat p v)) (told.stream_of (Link l) v) link.server (end_of line pended_at None) (mine.talk.asked ++ state_answer o ∷ []) (at_course.more line course)
    goes_on = record {
      granted_is = streaming.granted_is;
      told = streaming.told;
      serving = record {
        stream = streaming.stream;
        stream_is = streaming.stream_is;
        numbered = streaming.numbered;
        apart = streaming.apart;
        server = streaming.server;
        handing = Handing.Pended;
        gives_is = streaming.gives_is ∙ ap (gives_in link.consumer.dialed.takeover) is;
        dialed_so = λ q. absurd (unstated (streaming.serving.dialed_so q));
        acks = upward_answered streaming.granted_is.wrote o v [] mine.talk.asked (subst (λ fs. UpwardIs streaming.granted_is.wrote o v fs mine.talk.asked) (ap (answers_in o) is) streaming.serving.acks);
        unput = streaming.unput;
        unput_is = streaming.unput_is;
        all_put = streaming.all_put;
        stated_behind = λ q. streaming.stated_behind (ap is_sending is);
      };
      feed = feed;
      fed = streaming.fed;
      sources = streaming.sources;
      log_fits = streaming.log_fits;
      seen = streaming.seen;
      taking = record {
        not_more = streaming.not_more;
        consumer = record { waits = streaming.consumer.waits; small = streaming.consumer.small };
        adopted = streaming.adopted;
        taken_is = refl;
        flag_is = streaming.flag_is;
        granted_first = λ q. ap (is_granted link.consumer.dialed) all ∙ at_course.granted_last line course;
        asks = streaming.asks;
      };
      streams = stream_pended empty (ap coming_items none)
          (subst (StreamAgrees o v streaming.granted_is streaming.stream (vb_of (now line states at) p v) (c.nodes (seat p v)) feed kn (at_course.in_one line course)) is streaming.streams);
      all = (λ i. (ap (λ y. drop y (all_answers link.consumer.dialed (go_frame o feed))) all ∙ at_course.none_behind line course) i
          ++ stream_frames o v (end_frames o v STATE_CHANGED over) (at_course.in_one line course) kn.position (none i) (none_sourced streaming.snapshots (streaming.are ∙ empty) i)) ∙ behind;
    }

    -- the link agrees, where what lines tell of its stream, and of its vBucket's member, is the same
    link_agrees : (told' : Chronicle) → told'.dial_of ≡ told.dial_of → told'.stream_of ≡ told.stream_of → told'.stated_of ≡ told.stated_of → told'.point_of ≡ told.point_of → LinkAgrees (now line states' pended_at) told' c (link_now line pended_at) [] rest
    unfolding goes_on
    link_agrees told' dials streams stated points = record {
      follower = fv';
      follower_is = vb_put line states states.1 pended_at fv';
      follows = refl;
      dial = subst (λ (t : ℕ → Option Dial). DialAgrees (t l) link.server.desk link.consumer.dialed) (sym dials) mine.dial;
      acks = subst (λ (t : StreamName → ℕ → Option Granted). AckedIs (t (Link l) v) at.acked) (sym streams) mine.acks;
      talk = talk_same refl (vb_others line states states.1 at pended_at fv' p v (λ q t. streaming.apart q)) refl (ap (λ (t : StreamName → ℕ → Option Granted). t (Link l) v) streams) (ap (λ (t : ℕ → Option Role). t l) stated) (ap (λ (t : ℕ → Option ℕ). t l) points) (record {
        asked = mine.talk.asked ++ state_answer o ∷ [];
        said = rest ++ mine.talk.downs.behind;
        stands = EndsStand.IsStreaming goes_on (course.stated ∙ ap stated_in is);
        ups = queue_more link.up_heard (link.up ++ at.out) (link.up ++ pended_at.out) mine.talk.asked (state_answer o) (sym (append_assoc link.up at.out (state_answered o))) (answer_readable o streaming.consumer.small) mine.talk.ups;
        downs = next_downs line at pended_at f rest mine.talk.said mine.talk.downs;
      });
    }

    -- what is due was acknowledged
    still_met : (lines : List Event) → (list_any is_taking lines ≡ true → list_any is_taking events ≡ true) → Met line states' pended_at lines
    still_met lines so t = (
      ap is_streaming (at_course.granted_now line course all),
      λ x is_there.
          let one : Some fv' ≡ Some x = sym (vb_put line states states.1 pended_at fv') ∙ is_there in let same : fv' ≡ x = cc in
          subst (λ (y : Plain). due (pending_prepares y) (fork_of y.position) y.saved ≤ at.acked) same ((met (so t)).1 fv mine.follower_is),
    )

    -- it was about to take over before: no line tells of it
    again : fv.role ≡ Role.Pending → Reached line rest (states', met_with true)
    again pending = record {
      states = states';
      at = pended_at;
      over = None;
      events = events;
      same = refl;
      phase = Phase.Moving;
      stage = (
        record {
          lawful = going.lawful;
          quiet = going.quiet;
          onward = record { arm = going.onward.arm; lines = going.onward.lines };
          takes = takes_now events;
          tells = ⊎_elim (λ t. inl t) (λ p. let z : None ≡ Some Pend = sym none_last ∙ p.last in cc) going.tells;
          cluster = c;
          agrees = subst (λ es. AgreesIn (busy_at line rest) (now line states' pended_at) (after_lines r es) c) (append-nil events)
              (moved_agrees line f rest states states.1 at pended_at events fv fv' [] c going (λ q other. refl) mine.follower_is follows refl refl refl refl nothing member going.agrees.sound here disk rest (link_agrees told refl refl refl refl));
        },
        still_met events (λ t. t),
      );
    }
      where
        nothing : TakenOf l n v told told
        nothing = record { last = later_same _ _ refl refl; tree = refl; writer_of = λ u. refl; rows = λ m q ne. refl; clients = λ m d. refl; dials = λ j ne. refl; streams = λ j q ne other. refl; states = λ j ne. refl; points = λ j ne other. refl }

        here : VbAgrees told n v kn fv'
        here = record {
          kept = holds;
          role = vb.role ∙ ap (λ (x : Role). Some (Some x)) pending;
          opened = opened_sealed (told.open_at n v);
          writes = no_writes told n v kn.br Role.Pending refl;
          counts = no_counts Role.Pending (told.counts_at n v) fv'.others fv'.acks refl;
          lefts = no_lefts Role.Pending (told.counts_at n v).risen fv'.position.at fv'.waiting refl;
          times = no_times Role.Pending (told.counts_at n v).times fv'.waiting refl;
        }

    -- it was a replica: a line tells its role
    anew : fv.role ≡ Role.Replica → Reached line rest (states', met_with false)
    anew replica = record {
      states = states';
      at = pended_at;
      over = None;
      events = events ++ tell ∷ [];
      same = refl;
      phase = Phase.Moving;
      stage = (
        record {
          lawful = lawful_more r events (tell ∷ []) going.quiet going.lawful (lawful, tt);
          quiet = quiet_more events (tell ∷ []) going.quiet (tt, tt);
          onward = record { arm = going.onward.arm; lines = onward_more events tell going.onward.lines tt };
          takes = takes_now (events ++ tell ∷ []);
          tells = inr (record {
            front = events;
            together = refl;
            taken = took_of r link.consumer.dialed at.taking events going.tells (λ p. let z : None ≡ Some Pend = sym none_last ∙ p.last in cc);
            taking = is_taken_up;
            by_link = refl;
            last = refl;
            stated = stated_before;
            none = none_is;
          });
          cluster = c;
          agrees = subst (λ x. AgreesIn (busy_at line rest) (now line states' pended_at) x c) (sym (after_more r events (tell ∷ [])))
              (carries_turned (busy_at line (f ∷ rest)) (busy_at line rest) (now line states at) (now line states' pended_at) told told' c c l (link_now line at) (link_now line pended_at) fv fv'
              going.agrees (found_now line states at) (record { dialed = refl; desk = refl }) mine.follower_is follows fewer changed (λ q id has. has) role_of others member going.agrees.sound (one_but l ([], f ∷ rest) ([], rest)) here disk rests
              (subst (λ b. LinkAgrees (now line states' pended_at) told' c (link_now line pended_at) b.0 b.1) (sym (one_here l ([], rest))) (link_agrees told' refl refl refl refl)));
        },
        still_met (events ++ tell ∷ []) (taking_before events tell refl),
      );
    }
      where
        tell : Event
        tell = event.Role n v Role.Pending

        told' : Chronicle
        told' = after_role told n v Role.Pending

        role_of : RoleOf l n v told told'
        role_of = record {
          beside = record { rows = role_row told n v Role.Pending; dials = λ j ne. refl; streams = λ j q ne other. refl; states = λ j ne. refl; points = λ j ne other. refl };
          last = later_same _ _ refl refl;
          tree = refl;
          clients = λ m d. refl;
        }

        others : (m q : ℕ) → (m ≡ n → q ≡ v → ⊥) → AgreesAt told' m q (c.nodes (seat m q)) (vb_of (now line states at) m q)
        others m q other = role_there told n v Role.Pending m q (c.nodes (seat m q)) (vb_of (now line states at) m q) other (writers_rest told n v Role.Pending refl) (going.agrees.vbs m q)

        here : VbAgrees told' n v kn fv'
        here = role_here told n v Role.Pending kn fv' refl refl (λ q. cc) holds

        fewer : Fewer (Some fv) (Some fv')
        fewer = fewer_idle (Some fv) fv' sound refl

        rests : RestsIn (now line states' pended_at) told' c
        rests = role_rests (busy_at line (f ∷ rest)) (now line states at) (now line states' pended_at) told told' c c l (link_now line at) fv fv' (row_put link_number l (link_now line pended_at) (now line states at).links)
            going.agrees (found_now line states at) mine.follower_is follows changed role_of.beside others member here disk (λ m. refl) refl
            (put_ends (busy_at line (f ∷ rest)) (now line states at) (now line states' pended_at) told c l (link_now line at) (link_now line pended_at) going.agrees (found_now line states at) (record { dialed = refl; desk = refl }) changed.powers changed.linked)

        -- it is a replica, that pending was stated to
        is_taken_up : IsTaking told n v
        is_taken_up = record {
          replica = vb.role ∙ ap (λ (x : Role). Some (Some x)) replica;
          given = record {
            link = l;
            stream = streaming.granted_is;
            fed = (p, mine.dialed, streaming.told, at_course.on_it line course (ap is_some none));
            takeover = ap (λ t. (t l).dialed) (lines_takeovers r events) ∙ noticed.dialed_for ∙ takes;
            stated = course.stated ∙ ap stated_in is;
            marks = none_marked line course empty;
            items = none_coming line course none empty;
          };
        }

        -- nothing of its stream is to come
        none_is : (g : Granted) → (after_lines r (events ++ tell ∷ [])).stream_of (StreamName.Link l) v ≡ Some g → (g.coming ≡ []) × (g.marks ≡ [])
        none_is g has =
            let told_so : told.stream_of (StreamName.Link l) v ≡ Some g = sym (ap (λ (x : Chronicle). x.stream_of (StreamName.Link l) v) (after_more r events (tell ∷ []))) ∙ has in
            let same : streaming.granted_is ≡ g = (let z : Some streaming.granted_is ≡ Some g = sym streaming.told ∙ told_so in cc) in
            subst (λ (x : Granted). (x.coming ≡ []) × (x.marks ≡ [])) same (none_coming line course none empty, none_marked line course empty)

        lawful : LawfulRole told n v Role.Pending
        lawful = record {
          another = λ q. let z : ◌≡◌ {A = Option (Option Role)} (Some (Some Role.Replica)) (Some (Some Role.Pending)) = sym (vb.role ∙ ap (λ (x : Role). Some (Some x)) replica) ∙ q in cc;
          anew = λ q. cc;
          pending = λ q. is_taken_up;
        }

    -- so it showed
    shows : (x : Role) → fv.role ≡ x → is_pending (Some (show_row fv)) ≡ is_pending_answer (answer.Shown x (newest_branch fv.log) fv.position.ss fv.position.se fv.position.at (image_in fv))
    shows x q = ap (λ y. is_pending_answer (answer.Shown y (newest_branch fv.log) fv.position.ss fv.position.se fv.position.at (image_in fv))) q

    by_role : (x : Role) → fv.role ≡ x → Reached line rest (states', met_with (is_pending (Some (show_row fv))))
    by_role Role.Replica q = subst (λ b. Reached line rest (states', met_with b)) (sym (shows Role.Replica q)) (anew q)
    by_role Role.Pending q = subst (λ b. Reached line rest (states', met_with b)) (sym (shows Role.Pending q)) (again q)
    by_role other q = let z : true ≡ false = sym follows ∙ ap is_follower q in cc

    pub pended_next : Reached line rest (after_job (frame_taken f s) states.0 states.1)
    pended_next = subst (Reached line rest) (sym frame_came) (by_role fv.role refl)

  pub pend_next : StateNext line course Handing.Offered
  pend_next is all none empty e = pended_next is all none empty e
