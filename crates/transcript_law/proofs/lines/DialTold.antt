-- lines of a link's consumer tell of the vBucket that it was dialed for, and of that link alone, whatever the replies of vBuckets and journals
use Rattle.std.specs.Prelude.{◌≡◌, ◌∷◌, ◌++◌, ◌-◌, ◌^◌, nat_lt, if◌then◌else◌}
use Rattle.transcript_law.proofs.Words.{ℕ, Bool, true, false, List, [], refl, sym, ◌∙◌, subst, take, map, Option, Some, None, Event, EndReason, Change, Frame, FrameFault, front_fault, frames_in, LogEntry, StreamAsk, StreamName, VbReply, VbAnswer, PlainLink, PlainNode, States, after, dial_of, moved_len}
use Rattle.node_core.proofs.Dues.{due_always}
use Rattle.node_core.specs.Dials.{DialResult, PlainDial, acknowledged_line, adopt_result, again_result, bytes_counted, bytes_taken, call_made, dial_bytes, dial_due, due_requested, fault_met, follower_ask, frame_taken, frames_taken, go_on_with, got_line, granted_with, is_broken, is_done, is_over, message_result, over_for, passive_made, requested_once_more, rest_met as dial_met, roll_back, rolled_back, step_made, taken_as, untold, with_consumer, with_end_line, with_last_line}
use Rattle.node_core.specs.Dials.{with_left as with_heard}
use Rattle.dcp_consumer.specs.Machine.{PlainConsumer, again_by, consumer_step, ended_for, over_why, request_again, streaming}
use Rattle.dcp_consumer.specs.Counting.{bytes_acknowledged, counted_bytes}
use Rattle.dcp_consumer.specs.declared.handshake.ConsumerStep.{ConsumerStep}
use Rattle.dcp_consumer.specs.declared.handshake.ConsumerStep.TheVariants as step
use Rattle.dcp_consumer.specs.declared.handshake.Dialed.{Dialed}
use Rattle.dcp_consumer.specs.declared.handshake.Handshake.{Handshake}
use Rattle.dcp_consumer.specs.declared.handshake.Handshake.TheVariants as handshake
use Rattle.dcp_consumer.specs.declared.passive_stream.Passive.{Passive}
use Rattle.dcp_consumer.specs.declared.passive_stream.Passive.TheVariants as passive
use Rattle.node_world.specs.{Arms.{placed}, World.{down_in}}
use Rattle.transcript_law.proofs.lines.Calm.{AnyAsk, any_job, either, state_always}
use Rattle.transcript_law.proofs.{links.Unstated.{OfTakeover, step_of_takeover}, verbs.Tellings.{Are, are_cons, are_map, are_more}}
use Rattle.vb_types.specs.declared.role.Role.{Role}
use Rattle.vb_calls.specs.declared.calls.VbAnswer.TheVariants as answer
use Rattle.vb_calls.specs.declared.journals.Rolled.{Rolled}
use Rattle.vb_calls.specs.declared.journals.Rolled.TheVariants as rolled
use Rattle.vb_calls.specs.Flushes.{roll_job}
use Rattle.vb_calls.specs.Jobs.{AlwaysJob, Job, Ended, each_job, lift}
use Rattle.vb_calls.specs.Programs.{Always, AnyCall, AnyReply}
use Rattle.vb_calls.proofs.Conduct.{after_always}
use Rattle.vb_calls.proofs.JobConduct.{after_job_always, always_bind_job, always_each_job, always_lift}

-- one that asks again was dialed as before
again_dialed : (h : Handshake) (ask : StreamAsk) (c : PlainConsumer) → (again_by h ask c).0.dialed ≡ c.dialed
again_dialed handshake.Asking ask c = elim (nat_lt c.asked (2 ^ 32 - 1)) as (λ b. (let x : PlainConsumer × List ℕ = if b then request_again ask c else (ended_for EndReason.Protocol c, []) in x.0.dialed) ≡ c.dialed) [ true ↦ refl | false ↦ refl ]
again_dialed other ask c = refl

-- what each step of a consumer keeps of its handshake
pub record KeepsSo (E : Handshake → Type 0) : Type 0 where
  pub streams : (h : Handshake) → E h → E (streaming h)
  pub protocol : E (handshake.Over EndReason.Protocol)
  pub disk : E (handshake.Over EndReason.Disk)
  pub frame : (c : PlainConsumer) (f : Frame) → E c.handshake → E (consumer_step c f).0.handshake

again_keeps : (E : Handshake → Type 0) → KeepsSo E → (h : Handshake) (ask : StreamAsk) (c : PlainConsumer) → E c.handshake → E (again_by h ask c).0.handshake
again_keeps E keeps handshake.Asking ask c k = elim (nat_lt c.asked (2 ^ 32 - 1)) as (λ b. E (let x : PlainConsumer × List ℕ = if b then request_again ask c else (ended_for EndReason.Protocol c, []) in x.0.handshake)) [ true ↦ k | false ↦ keeps.protocol ]
again_keeps E keeps other ask c k = k

module _ (q : Event → Bool) (d : Dialed) (E : Handshake → Type 0) (acks : (seq saved : ℕ) → q (Event.Acknowledged (StreamName.Link d.link) d.node d.vb seq saved) ≡ true) where
  -- a consumer that was dialed so, whose lines all pass
  abbrev Dial : DialResult → Type 0
  Dial s = Are q s.events × (s.dial.consumer.dialed ≡ d) × E s.dial.consumer.handshake

  abbrev Takes : Job DialResult → Type 0
  Takes job = AlwaysJob AnyReply AnyCall AnyAsk Dial job

  line_more : (lines : List Event) (line : Dialed → Event) (dialed : Dialed) → Are q lines → dialed ≡ d → q (line d) ≡ true → Are q (lines ++ line dialed ∷ [])
  line_more lines line dialed a e p = are_more q lines (line dialed ∷ []) a (are_cons q (line dialed) [] (subst (λ (k : Dialed). q (line k) ≡ true) (sym e) p) refl)

  -- what it acknowledges
  asks_so : (s : DialResult) → Dial s → Always AnyCall Dial (due_requested s)
  asks_so s c = due_always Dial s (λ seq saved. (line_more s.events (λ (k : Dialed). acknowledged_line k seq saved) s.dial.consumer.dialed c.0 c.1 (acks seq saved), c.1, c.2)) c AnyCall tt

  -- once more is written down
  pub due_so : (dial : PlainDial) (states : States) → dial.consumer.dialed ≡ d → E dial.consumer.handshake → Are q (after (dial_due dial) states).1.events
  due_so dial states e k = (after_always AnyCall Dial (dial_due dial) states (asks_so (untold dial) (refl, e, k))).0

  module _ (keeps : KeepsSo E) (adopts : (log : List LogEntry) → q (Event.Adopted d.node d.vb log) ≡ true) (ranges : (ss se : ℕ) → q (Event.Ranged d.node d.vb ss se) ≡ true)
      (gets : (c : Change) → q (Event.Got d.node d.vb (StreamName.Link d.link) c) ≡ true) (rolls : (named to : ℕ) → q (Event.Rolled d.node d.vb named to) ≡ true) (ends : (why : EndReason) → E (handshake.Over why) → q (Event.Ended d.link why) ≡ true)
      (turns : d.takeover ≡ true → (new : Role) → q (Event.Role d.node d.vb new) ≡ true) (makes : d.takeover ≡ true → (uuid : ℕ) (c : Change) → q (Event.Changed d.node d.vb uuid c) ≡ true) where
    adopted_so : (log : List LogEntry) (s : DialResult) → Dial s → Always AnyCall Dial (go_on_with log s)
    unfolding go_on_with
    adopted_so log s c = (
      tt,
      λ reply any. asks_so (adopt_result log s reply) (either Dial (is_done reply) (granted_with log s) (over_for EndReason.Protocol s)
          (line_more s.events (λ (k : Dialed). Event.Adopted k.node k.vb log) s.dial.consumer.dialed c.0 c.1 (adopts log), c.1, keeps.streams s.dial.consumer.handshake c.2) (c.0, c.1, keeps.protocol)),
    )

    again_so : (s : DialResult) → Dial s → Always AnyCall Dial (requested_once_more s)
    again_so s c = (tt, λ reply any. by (follower_ask reply))
      where
        by : (o : Option StreamAsk) → Dial (again_result s o)
        by None = (c.0, c.1, keeps.protocol)
        by (Some ask) = (c.0, again_dialed s.dial.consumer.handshake ask s.dial.consumer ∙ c.1, again_keeps E keeps s.dial.consumer.handshake ask s.dial.consumer c.2)

    back_so : (point : ℕ) (s : DialResult) → Dial s → Takes (roll_back point s)
    unfolding roll_back
    back_so point s c = always_bind_job AnyReply AnyCall AnyAsk (λ came. Unit {0}) Dial (roll_job s.dial.consumer.dialed.vb point) (λ came. lift (rolled_back point s came)) (any_job (roll_job s.dial.consumer.dialed.vb point))
        (λ came any. always_lift AnyReply AnyCall AnyAsk Dial (rolled_back point s came) (by came))
      where
        by : (came : Rolled) → Always AnyCall Dial (rolled_back point s came)
        by (rolled.To to) = again_so _ (line_more s.events (λ (k : Dialed). Event.Rolled k.node k.vb point to) s.dial.consumer.dialed c.0 c.1 (rolls point to), c.1, c.2)
        by (rolled.Refused st) = (c.0, c.1, keeps.protocol)
        by rolled.Closed = (c.0, c.1, keeps.disk)
        by rolled.DiskFailed = (c.0, c.1, keeps.disk)
        by (rolled.Damaged place) = (c.0, c.1, keeps.disk)

    passive_so : (p : Passive) (s : DialResult) → Dial s → Always AnyCall Dial (passive_made p s)
    unfolding call_made
    passive_so (passive.Call x) s c = (tt, λ reply any. asks_so (message_result s reply) (by reply))
      where
        taken : (reply : VbReply) (a : VbAnswer) → Dial (taken_as reply s a)
        taken reply (answer.Range ss se) = (line_more s.events (λ (k : Dialed). Event.Ranged k.node k.vb ss se) s.dial.consumer.dialed c.0 c.1 (ranges ss se), c.1, c.2)
        taken reply answer.Done = (
          are_more q s.events (map (got_line s.dial.consumer.dialed) reply.changes) c.0
              (are_map q (got_line s.dial.consumer.dialed) reply.changes (λ y. subst (λ (k : Dialed). q (got_line k y) ≡ true) (sym c.1) (gets y))),
          c.1,
          c.2,
        )
        taken reply other = (c.0, c.1, keeps.protocol)

        by : (reply : Option VbReply) → Dial (message_result s reply)
        by None = (c.0, c.1, keeps.protocol)
        by (Some reply) = taken reply reply.answer
    passive_so other s c = c

    step_so : (t : ConsumerStep) (s : DialResult) → OfTakeover d t → Dial s → Takes (step_made t s)
    step_so (step.Adopt log) s of c = always_lift AnyReply AnyCall AnyAsk Dial (go_on_with log s) (adopted_so log s c)
    step_so (step.Roll point) s of c = back_so point s c
    step_so (step.Passive p) s of c = always_lift AnyReply AnyCall AnyAsk Dial (passive_made p s) (passive_so p s c)
    step_so (step.State take opaque) s takes c = state_always Dial (λ s new c. (line_more s.events (λ (k : Dialed). Event.Role k.node k.vb new) s.dial.consumer.dialed c.0 c.1 (turns takes new), c.1, c.2))
        (λ s uuid changes c. (
          are_more q s.events (map (Event.Changed s.dial.consumer.dialed.node s.dial.consumer.dialed.vb uuid) changes) c.0
              (are_map q (Event.Changed s.dial.consumer.dialed.node s.dial.consumer.dialed.vb uuid) changes (λ y. subst (λ (k : Dialed). q (Event.Changed k.node k.vb uuid y) ≡ true) (sym c.1) (makes takes uuid y))),
          c.1,
          c.2,
        )) (λ s opaque c. c) (λ s c. (c.0, c.1, keeps.protocol)) (λ s c. (c.0, c.1, keeps.disk)) take opaque s c
    step_so other s of c = c

    taken_so : (f : Frame) (s : DialResult) → Dial s → Takes (frame_taken f s)
    unfolding frame_taken
    taken_so f s c = step_so (consumer_step s.dial.consumer f).1 (with_consumer s (consumer_step s.dial.consumer f).0) (subst (λ (k : Dialed). OfTakeover k (consumer_step s.dial.consumer f).1) c.1 (step_of_takeover s.dial.consumer f)) (c.0, c.1, keeps.frame s.dial.consumer f c.2)

    written_so : (frames : List Frame) (s : DialResult) → Dial s → Dial (bytes_counted frames s)
    unfolding bytes_counted
    written_so frames s c = by _
      where
        by : (b : Bool) → Dial (if b then s else record s { out = s.out ++ bytes_acknowledged (counted_bytes frames) s.dial.consumer })
        by true = c
        by false = c

    met_so : (frames : List Frame) (s : DialResult) → Dial s → Takes (dial_met frames s)
    met_so frames s c =
        let t : DialResult = fault_met (front_fault s.dial.heard) s in last (bytes_counted frames t) (written_so frames t (fault (front_fault s.dial.heard)))
      where
        fault : (o : Option FrameFault) → Dial (fault_met o s)
        fault None = c
        fault (Some x) = either Dial (is_over s.dial) s (over_for EndReason.Protocol s) c (c.0, c.1, keeps.protocol)

        last : (t : DialResult) → Dial t → Dial (with_last_line t)
        last t e = by t.dial.consumer.handshake e.2
          where
            by : (h : Handshake) → E h → Dial (with_end_line (over_why h) t)
            by (handshake.Over why) k = either Dial (is_broken (Some why)) t _ e (line_more t.events (λ (j : Dialed). Event.Ended j.link why) t.dial.consumer.dialed e.0 e.1 (ends why k), e.1, e.2)
            by other k = e

    dial_so : (piece : List ℕ) (dial : PlainDial) → dial.consumer.dialed ≡ d → E dial.consumer.handshake → Takes (dial_bytes piece dial)
    unfolding bytes_taken frames_taken
    dial_so piece dial e k =
        let bytes : List ℕ = dial.heard ++ piece in let s : DialResult = with_heard (untold dial) bytes in
        always_bind_job AnyReply AnyCall AnyAsk Dial Dial (each_job frame_taken (frames_in bytes) s) (dial_met (frames_in bytes)) (always_each_job AnyReply AnyCall AnyAsk Dial frame_taken taken_so (frames_in bytes) (Ended s) (refl, e, k)) (met_so (frames_in bytes))

    pub down_so : (wanted : ℕ) (link : PlainLink) (node : PlainNode) → link.consumer.dialed ≡ d → E link.consumer.handshake → Are q (down_in wanted link node).1.1.events
    down_so wanted link node e k =
        let at : PlainNode = placed link.consumer.dialed.vb node in
        (after_job_always AnyCall AnyAsk Dial (dial_bytes (take (moved_len wanted link.down) link.down) (dial_of link)) at.vbs at.shelves (dial_so (take (moved_len wanted link.down) link.down) (dial_of link) e k)).0
