-- a state active that a consumer takes: why its vBucket may take its branch over, and how the calls for that come out
use Rattle.std.specs.Prelude.{◌≡◌, ◌∷◌, ◌++◌, ◌==◌, if◌then◌else◌}
use Rattle.transcript_law.proofs.Words.{ℕ, Bool, true, false, [], drop, refl, ap, sym, ◌∙◌, subst, and_parts, append-nil, eqb-true, is_some, Option, Some, None, option_map, DcpMsg, dcp_frame, Role, Status}
use Rattle.transcript_law.proofs.Words.{Chronicle, Cluster, DialResult, Granted, Member, Move, Plain, Position, LawfulRole, SoundCluster, VbReply, Ended, States, after_job, after_job_bind, after_lines, ending_reply, flight_end, flight_from, frame_taken, front, ground, happens, hist, is_role, last_seq, plain_step, quiet_reply, refusal_reply, stream_branch, with_consumer, with_vb_at, STATE_CHANGED}
use Rattle.transcript_law.proofs.invariant.Agreement.{BranchAgrees, FollowsBy, GivenIn, Handing, LinkAgrees, VbAgrees, consumer_seat, end_frames, is_sending, state_frames, stated_in, taken_in, top}
use Rattle.transcript_law.proofs.invariant.{Noted.{IsFreed}, JobSteps.{ask_on, call_on, put_found, put_over}}
use Rattle.transcript_law.proofs.lines.Takeovers.{lines_takeovers}
use Rattle.transcript_law.proofs.links.{Downing.{Asker, Line, Reached, ended, link_now, now, put_vb, so_far, vb_moved}, Handed.{heir_given, heir_is, heir_lawful, heir_sound}, Heirs.{whole_branch}, Onward.{Kept, onward_all}, Pending.{for_takeover, none_coming, none_marked}, Streaming.{Course, StateNext}, Taken.{state_taken}, Takes.{owns_yet}}
use Rattle.transcript_law.proofs.links.Streaming as at_course
use Rattle.transcript_law.specs.Heirs.{IsHeir, IsStated, stream_history}
use Rattle.cluster_model.specs.Clusters.{IsGiven, IsOpen, Joined, Linked}
use Rattle.dcp_consumer.specs.States.{state_answered}
use Rattle.node_core.specs.Dials.{noted_for, heir_told, own_result, owned, state_met}
use Rattle.takeover.specs.declared.{take_over.TakeOver.{TakeOver}, take_over.TakeStep.TheVariants.{Own, Pend}}
use Rattle.vb_calls.specs.{Flushes.{note_role_job, role_job, role_told_job, wrote_of}, Roles.{is_heir, own_refusal, risen}, Settling.{Resolving, also_resolved, settled}}
use Rattle.vb_calls.specs.Roles.{owned as own_by}
use Rattle.vb_calls.specs.Shelves.{Append, Shelf, after_fate, fate_of, with_shelf_at}
use Rattle.vb_calls.specs.declared.calls.VbAnswer.TheVariants as answer
use Rattle.vb_calls.specs.declared.calls.VbCall.TheVariants as call
use Rattle.vb_calls.specs.declared.journals.Wrote.{Wrote}
use Rattle.vb_calls.specs.declared.journals.Wrote.TheVariants as wrote
use Rattle.vb_events.specs.declared.event.EndReason.TheVariants.{Protocol}
use Rattle.vb_events.specs.declared.event.StreamName.TheVariants.{Link}
use Rattle.vb_types.specs.declared.journal.Record.{Record}
use Rattle.vb_types.specs.declared.journal.Record.TheVariants as noted
use Rattle.vb_types.specs.declared.status.Status.TheVariants as status

-- a stream of this branch was told before
found_before : (o : Option Granted) (u : ℕ) → option_map stream_branch o ≡ Some u → (g : Granted) × (o ≡ Some g) × (stream_branch g ≡ u)
found_before None u e = cc
found_before (Some g) u e = (g, refl, cc)

-- a pending vBucket that is not refused is an heir
heir_whole : (vb : Plain) → vb.role ≡ Role.Pending → own_refusal vb ≡ None → is_heir vb ≡ true
heir_whole vb pending free = by (is_heir vb) refl
  where
    by : (b : Bool) → is_heir vb ≡ b → b ≡ true
    by true e = refl
    by false e = let z : Some status.Einval ≡ None = sym ((λ i. if is_role (pending i) Role.Pending then (if e i then None else Some status.Einval) else Some status.NotMyVbucket)) ∙ free in cc

module _ (line : Line) (course : Course line) where
  open line use {w, r, link}
  open line.link.consumer.dialed use {node as n, vb as v, link as l}
  open line.link.server.desk use {node as p}
  open course use {before.{stays, noticed, f, rest, states, at, events, met, going, at.{asked as o}, going.{cluster as c}}, streaming, streaming.{feed, granted_is.{over}}}

  abbrev k : ℕ
  k = consumer_seat link

  abbrev pub told : Chronicle
  told = after_lines r events

  abbrev pub mine : LinkAgrees (now line states at) told c (link_now line at) [] (f ∷ rest)
  mine = at_course.mine line course

  open mine use {follower as fv}

  abbrev pub kn : Member
  kn = c.nodes k

  abbrev s : DialResult
  s = so_far line at None events

  pub vb : VbAgrees told n v kn fv
  vb = at_course.vb line course

  -- the consumer's end then: it was told active, and answers
  abbrev pub owned_at : Asker
  owned_at = record { out = at.out ++ state_answered o; waiting = at.waiting; asked = at.asked; acked = at.acked; taking = record { last = Some Own } }

  -- or it does not
  abbrev refused_at : Asker
  refused_at = record { out = at.out; waiting = at.waiting; asked = at.asked; acked = at.acked; taking = record { last = Some Own } }

  abbrev pub told_it : DialResult
  told_it = with_consumer s (record s.dial.consumer { taking = record { last = Some Own } })

  -- what the vBucket commits once it is active
  abbrev pub made : Resolving
  made = settled (risen fv)

  abbrev pub reply : VbReply
  reply = (also_resolved (ending_reply fv answer.Done) made).1

  abbrev pub what : Record
  what = noted.State Role.Active made.vb.log

  module _ (is : streaming.serving.handing ≡ Handing.Stated) (all : streaming.seen ≡ at_course.last line course) (none : kn.coming ≡ Some []) (empty : feed.flight ≡ [])
      (e : state_frames o v Handing.Stated ++ end_frames o v STATE_CHANGED over ≡ f ∷ (at_course.more line course ++ streaming.unput)) where
    pub takes : link.consumer.dialed.takeover ≡ true
    takes = for_takeover link.consumer.dialed.takeover streaming.serving.handing streaming.serving.dialed_so (λ q. let z : Handing.Stated ≡ Handing.Unstated = sym is ∙ q in cc)

    frame_is : dcp_frame (DcpMsg.SetVbucketState Role.Active) o v ≡ f
    frame_is = let q : dcp_frame (DcpMsg.SetVbucketState Role.Active) o v ∷ end_frames o v STATE_CHANGED over ≡ f ∷ (at_course.more line course ++ streaming.unput) = e in cc

    -- all items were put, and nothing is to come but the stream's end
    pub all_put : streaming.unput ≡ []
    all_put = streaming.stated_behind (ap is_sending is)

    pub left_is : at_course.more line course ≡ end_frames o v STATE_CHANGED over
    left_is = sym (append-nil (at_course.more line course)) ∙ ap (λ fs. at_course.more line course ++ fs) (sym all_put) ∙ sym (ap (drop 1) e)

    -- it was told pending last, and is so
    pub taking_is : at.taking ≡ record { last = Some Pend }
    taking_is = streaming.taken_is ∙ ap taken_in is

    pub pending : fv.role ≡ Role.Pending
    pending = subst (λ (t : TakeOver). FollowsBy t.last fv.role) taking_is mine.follows

    frame_owned : frame_taken f s ≡ owned o told_it
    frame_owned = subst (λ y. frame_taken y s ≡ owned o told_it) frame_is (state_taken Own o v s (at_course.granted_now line course all) takes (ap (λ (t : TakeOver). t.last) taking_is))

    -- what the call comes to, by what its job does
    job_met : (y : Kept) (made_is : Option VbReply × Wrote) → after_job (role_job v call.Own) states.0 states.1 ≡ (y, made_is) → after_job (frame_taken f s) states.0 states.1 ≡ (y, own_result o told_it made_is.0 made_is.1)
    unfolding owned
    job_met y made_is came =
        ap (λ j. after_job j states.0 states.1) frame_owned
        ∙ after_job_bind (role_job v call.Own) (λ x. Ended (own_result o told_it x.0 x.1)) states.0 states.1
        ∙ ap (λ x. (x.0, own_result o told_it x.1.0 x.1.1)) came

    -- ---- it is refused, and the link is over

    refused_came : (st : Status) → own_refusal fv ≡ Some st → after_job (role_job v call.Own) states.0 states.1 ≡ (put_vb states v fv, (Some (refusal_reply st), wrote.NotAsked))
    unfolding role_job
    refused_came st why = call_on states.0 states.1 v call.Own (role_told_job v call.Own) fv fv (refusal_reply st) (at_course.known line course) (ap (λ x. own_by x fv) why)

    pub refused : (st : Status) → own_refusal fv ≡ Some st → Reached line rest (after_job (frame_taken f s) states.0 states.1)
    refused st why = ended line stays f rest states (put_vb states v fv) at refused_at events Protocol (after_job (frame_taken f s) states.0 states.1) going refl tt
        (job_met (put_vb states v fv) (Some (refusal_reply st), wrote.NotAsked) (refused_came st why))
        (λ m q. vb_moved line states states.1 at at fv m q (λ a b. sym (at_course.known line course) ∙ ap states.0 (sym b))) refl

    -- ---- it takes its branch over

    -- the branch that it is on
    pub on_it : told.branch_at n v ≡ Some (stream_branch streaming.granted_is)
    on_it = at_course.on_it line course (ap is_some none)

    pub branch_is : kn.br ≡ stream_branch streaming.granted_is
    branch_is = subst (λ (t : Option ℕ). BranchAgrees t kn.br) on_it vb.branch

    -- before the line nobody wrote on it
    pub freed : IsFreed r (stream_branch streaming.granted_is)
    freed =
        let same = onward_all r events going.onward.lines in
        let before = found_before (r.stream_of (Link l) v) (stream_branch streaming.granted_is) (sym (same.branches l v) ∙ ap (option_map stream_branch) streaming.told) in
        subst (IsFreed r) before.2 (noticed.free before.0 (sym (ap (λ (t : ℕ → Option Role). t l) same.states) ∙ course.stated ∙ ap stated_in is) before.1
        (λ q. let z : ◌≡◌ {A = TakeOver} (record { last = Some Pend }) (record { last = Some Own }) = sym taking_is ∙ owns_yet r link.consumer.dialed link.consumer.taking at.taking events going.takes q in owned_last z))
      where
        owned_last : ◌≡◌ {A = TakeOver} (record { last = Some Pend }) (record { last = Some Own }) → ⊥
        owned_last z = let y : Some Pend ≡ Some Own = ap (λ (t : TakeOver). t.last) z in cc

    -- its branch was given up for it where it is
    pub given : IsGiven kn.br kn.position.at kn.link
    given =
        let joined : kn.br ≡ feed.u = subst (Joined (ground c) kn feed) none (subst (Linked (ground c) kn kn.coming) streaming.fed (going.agrees.sound.stands k).linked).0 in
        let given_up : feed.given ≡ Some streaming.granted_is.place = subst (λ h. GivenIn h feed.given streaming.granted_is.place) is streaming.streams.given_in in
        let place : streaming.granted_is.place ≡ kn.position.at = streaming.streams.place_is ∙ (λ i. flight_end (flight_from kn (none i)) (empty i)) in
        subst (IsGiven kn.br kn.position.at) (sym streaming.fed) (given_up ∙ ap Some place, sym joined)

    module _ (free : own_refusal fv ≡ None) where
      pub complete : fv.position.at ≡ fv.position.se
      complete = eqb-true fv.position.at fv.position.se (and_parts (is_some (front fv.log)) (fv.position.at == fv.position.se) (heir_whole fv pending free)).1

      pub complete_there : kn.position.at ≡ kn.position.se
      complete_there = subst (λ (q : Position). q.at ≡ q.se) (sym vb.member.position) complete

      abbrev pub risen_cluster : Cluster
      risen_cluster = happens c (Move.Rise k)

      pub risen_sound : SoundCluster top risen_cluster
      risen_sound = heir_sound c k going.agrees.sound (at_course.quiet line course) (subst IsOpen (sym none) tt) complete_there given

      -- all of it is there
      whole : last_seq 0 (stream_history told streaming.granted_is) ≡ fv.position.at
      whole = ap (last_seq 0) (sym (going.agrees.hists (stream_branch streaming.granted_is)) ∙ ap (hist c.tree) (sym branch_is))
          ∙ whole_branch c k going.agrees.sound complete_there (vb.high ∙ ap (λ (q : Position). q.at) (sym vb.member.position)) given
          ∙ ap (λ (q : Position). q.at) vb.member.position

      is_stated : IsStated told n v Role.Active
      is_stated = record {
        link = l;
        stream = streaming.granted_is;
        fed = (p, mine.dialed, streaming.told, on_it);
        takeover = ap (λ t. (t l).dialed) (lines_takeovers r events) ∙ noticed.dialed_for ∙ takes;
        stated = course.stated ∙ ap stated_in is;
        marks = none_marked line course empty;
        items = none_coming line course none empty;
      }

      pub is_the_heir : IsHeir told n v
      unfolding is_stated
      is_the_heir = heir_is told n v kn fv is_stated vb pending ((onward_all r events going.onward.lines).writers (stream_branch streaming.granted_is) ∙ freed.free) complete whole

      pub heir_by : is_the_heir.given.link ≡ l
      unfolding is_stated is_the_heir
      heir_by = heir_given told n v kn fv is_stated vb pending ((onward_all r events going.onward.lines).writers (stream_branch streaming.granted_is) ∙ freed.free) complete whole

      -- so the line of its role is lawful
      pub role_lawful : LawfulRole told n v Role.Active
      unfolding is_stated
      role_lawful = heir_lawful told n v kn fv is_stated vb pending ((onward_all r events going.onward.lines).writers (stream_branch streaming.granted_is) ∙ freed.free) complete whole

      -- the calls, where its journal is this one
      own_is : plain_step fv call.Own ≡ (made.vb, reply)
      own_is = ap (λ x. own_by x fv) free

      module _ (shelf : Shelf) (has : states.1 v ≡ Some shelf) where
        abbrev pub left : Shelf
        left = after_fate shelf what (fate_of shelf)

        abbrev pub owned_kept : Kept
        owned_kept = (with_vb_at states.0 v made.vb, with_shelf_at states.1 v left)

        job_came : after_job (role_job v call.Own) states.0 states.1 ≡ (owned_kept, (Some reply, wrote_of (fate_of shelf)))
        unfolding role_job
        job_came =
            let st : States = with_vb_at states.0 v made.vb in
            call_on states.0 states.1 v call.Own (role_told_job v call.Own) fv made.vb reply (at_course.known line course) own_is
            ∙ call_on st states.1 v call.Log (note_role_job v Role.Active reply) made.vb made.vb (quiet_reply (answer.Logged made.vb.log)) (put_found states.0 v made.vb) refl
            ∙ ask_on (with_vb_at st v made.vb) states.1 v (Append what) (λ fate. Ended (Some reply, wrote_of fate)) shelf left (fate_of shelf) has refl
            ∙ (λ i. ((put_over states.0 v made.vb made.vb i, with_shelf_at states.1 v left), (Some reply, wrote_of (fate_of shelf))))

        pub own_came : after_job (frame_taken f s) states.0 states.1 ≡ (owned_kept, noted_for (wrote_of (fate_of shelf)) (state_met o (heir_told reply told_it)))
        own_came = job_met owned_kept (Some reply, wrote_of (fate_of shelf)) job_came
