-- what a dial acknowledges, whatever its vBucket replies
use Rattle.std.proofs.Common.{◌≡◌, ℕ, Bool, true, false, List, [], ◌∷◌, ◌++◌, map, refl, sym, subst, ap, ◌∙◌, arith, append_assoc, append-nil, inl, inr, Option, Some, None}
use Rattle.std.specs.Prelude.{◌&&◌, ◌-◌, ◌^◌, nat_lt, if◌then◌else◌, is_some}
use Rattle.std.specs.List.{fold, All, filter_map}
use Rattle.std.proofs.lemmas.List.{map-append}
use Rattle.std.proofs.lemmas.List.Elements.{All-nil, filter_map-append}
use Rattle.mcbp_frame.specs.declared.frame.Frame.{Frame}
use Rattle.mcbp_frame.specs.declared.frame.FrameFault.{FrameFault}
use Rattle.mcbp_frame.specs.Cutting.{frames_in}
use Rattle.vb_types.specs.declared.change.Change.{Change}
use Rattle.vb_events.specs.declared.event.Event.{Event}
use Rattle.vb_events.specs.declared.event.Event.TheVariants as event
use Rattle.vb_events.specs.declared.event.EndReason.{EndReason}
use Rattle.vb_events.specs.declared.event.EndReason.TheVariants as reason
use Rattle.vb_types.specs.declared.journal.Record.{Record}
use Rattle.vb_types.specs.declared.role.LogEntry.{LogEntry}
use Rattle.vb_types.specs.declared.role.Role.TheVariants as role
use Rattle.takeover.specs.declared.take_over.TakeStep.{TakeStep}
use Rattle.takeover.specs.declared.take_over.TakeStep.TheVariants.{Pend, Own}
use Rattle.vb_types.specs.declared.stream.StreamAsk.{StreamAsk}
use Rattle.vb_calls.specs.declared.calls.VbCall.{VbCall}
use Rattle.vb_calls.specs.declared.calls.VbCall.TheVariants as call
use Rattle.vb_calls.specs.declared.calls.VbAnswer.{VbAnswer}
use Rattle.vb_calls.specs.declared.calls.VbAnswer.TheVariants as answer
use Rattle.vb_calls.specs.declared.calls.VbReply.{VbReply}
use Rattle.vb_calls.specs.declared.journals.Rolled.{Rolled}
use Rattle.vb_calls.specs.declared.journals.Rolled.TheVariants as rolled
use Rattle.vb_calls.specs.declared.journals.Wrote.{Wrote}
use Rattle.vb_calls.specs.declared.journals.Wrote.TheVariants as wrote
use Rattle.vb_calls.specs.Flushes.{is_refusal, note_role_job, role_of_call, role_told_job, role_job, rolled_job, read_job, may_roll_job, rollable_job, roll_job}
use Rattle.vb_calls.specs.Jobs.{Job, Ended, Call, Request, bind_job, next_job, lift}
use Rattle.vb_calls.specs.Programs.{Done}
use Rattle.vb_calls.specs.Programs as prog
use Rattle.vb_calls.specs.Shelves.{Fate, Stood, WasClosed, DiskFailed, Reading, Book, Shut, Unread, Broken}
use Rattle.dcp_consumer.specs.declared.handshake.ConsumerStep.{ConsumerStep}
use Rattle.dcp_consumer.specs.declared.handshake.ConsumerStep.TheVariants as step
use Rattle.dcp_consumer.specs.declared.handshake.Handshake.{Handshake}
use Rattle.dcp_consumer.specs.declared.handshake.Handshake.TheVariants as handshake
use Rattle.dcp_consumer.specs.declared.handshake.Dialed.{Dialed}
use Rattle.dcp_consumer.specs.declared.passive_stream.Passive.TheVariants as passive
use Rattle.dcp_consumer.specs.Dialing.{flagged}
use Rattle.dcp_consumer.specs.States.{state_answered}
use Rattle.dcp_consumer.specs.Machine.{PlainConsumer, with_handshake, over_why, stepped, frame_step, granted, streaming, ended_for, request_again, again_by, is_streaming, may_acknowledge, acknowledged}
use Rattle.dcp_consumer.specs.Noops.{noop_answered, IsNoop}
use Rattle.dcp_consumer.proofs.Noops.{answered as noop_answers, only as noop_only}
use Rattle.node_core.specs.Calls.{own_lines}
use Rattle.node_core.specs.Conduct.{Asks, Acknowledges, AnswersNoop, AnswersState, MayWrite, AnswersNoops, AreNoopsOf, noop_written, bytes_written, IsOfDial, KeepsLink, AnyOther, DueNext, Dues, said, log_behind, message_behind, due_behind, behind, CallsAs, seqno_written, seqnos_of_line, Acknowledged, begins}
use Rattle.node_core.specs.Dials.{PlainDial, DialResult, untold, is_over, with_consumer, with_line, with_left, over_for, adopted_line, granted_with, is_done_answer, adopt_result, acknowledged_line, acknowledged_result, dues_in, dues_of_reply, due_met, due_requested, dial_due, go_on_with, follower_ask, again_with, again_result, requested_once_more, rolled_line, rolled_back, roll_back, got_line, taken_as, message_result, call_made, noop_met, is_done, is_pending, role_line, state_met, pend_result, pended, heir_told, noted_for, own_result, owned, state_made, step_made, frame_taken, frames_taken, fault_met}
use Rattle.node_core.proofs.Conduct.{skipped, either, FollowsIf, Follows, Goes, IsMessage, step_goes, changed_own, role_told, over_keeps, lines_keep, wrote_keeps, silent_keeps, one_own, got_own}

-- one job after the other
pub calls_bind : {A B : Type 0} (between : Dues → A → Type 0) (ends : Dues → B → Type 0) (d : Dues) (job : Job A) (k : A → Job B)
    → CallsAs between d job → ((e : Dues) (a : A) → between e a → CallsAs ends e (k a)) → CallsAs ends d (bind_job job k)
calls_bind between ends d (Ended a) k first second = second d a first
calls_bind between ends d (Call v call next) k first second =
    (first.0, λ reply. calls_bind between ends (behind d call (said reply)) (next reply) k (first.1 reply) second)
calls_bind between ends d (Request v ask next) k first second = λ got. calls_bind between ends d (next got) k (first got) second

-- what holds at the end of a job, in other words
calls_map : {A : Type 0} (holds ends : Dues → A → Type 0) (d : Dues) (job : Job A) → ((e : Dues) (a : A) → holds e a → ends e a) → CallsAs holds d job → CallsAs ends d job
calls_map holds ends d (Ended a) turn calls = turn d a calls
calls_map holds ends d (Call v call next) turn calls = (calls.0, λ reply. calls_map holds ends (behind d call (said reply)) (next reply) turn (calls.1 reply))
calls_map holds ends d (Request v ask next) turn calls = λ got. calls_map holds ends d (next got) turn (calls got)

-- a job for each of a list, with what holds behind those before
calls_each : {X A : Type 0} (ends : List X → Dues → A → Type 0) (f : X → A → Job A)
    → ((before : List X) (x : X) (d : Dues) (a : A) → ends before d a → CallsAs (ends (before ++ x ∷ [])) d (f x a))
    → (d : Dues) (before xs : List X) (job : Job A) → CallsAs (ends before) d job → CallsAs (ends (before ++ xs)) d (fold (next_job f) job xs)
calls_each ends f keep d before [] job there = subst (λ l. CallsAs (ends l) d job) (sym (append-nil before)) there
calls_each ends f keep d before (x ∷ xs) job there =
    subst (λ l. CallsAs (ends l) d (fold (next_job f) (bind_job job (f x)) xs)) (append_assoc before (x ∷ []) xs)
    (calls_each ends f keep d (before ++ x ∷ []) xs (bind_job job (f x)) (calls_bind (ends before) (ends (before ++ x ∷ [])) d job (f x) there (keep before x)))

-- with the opaque of a NOOP, where the step answers one
abbrev with_noop : ConsumerStep → List ℕ → List ℕ
with_noop (step.Noop opaque) noops = noops ++ opaque ∷ []
with_noop other noops = noops

-- no reason
pub not_some : {A : Type 0} (o : Option A) → is_some o ≡ false → o ≡ None
not_some None e = refl
not_some (Some a) e = cc

-- neither Due nor Stat is left to come
abbrev free : ℕ → List (ℕ × ℕ) → Dues
free last met = record { next = AnyOther; last = last; met = met }

-- with lines that tell of no acknowledgement
unfoldable pub lines_told : {bytes noops : List ℕ} (old s : DialResult) (d : Dues) (events : List Event) → All (IsOfDial s.dial.consumer.dialed) events → filter_map seqnos_of_line events ≡ []
    → Acknowledged bytes noops old d s → Acknowledged bytes noops old d (record s { events = s.events ++ events })
lines_told old s d events own none m = record {
  next = m.next;
  last = m.last;
  link = lines_keep old s events own m.link;
  written = m.written;
  told = filter_map-append seqnos_of_line m.link.lines.0 events ∙ (λ i. m.told i ++ none i) ∙ append-nil d.met;
  counted = m.counted;
  answered = m.answered;
  heard = m.heard;
}

over_told : {noops : List ℕ} (old s : DialResult) (d : Dues) (why : EndReason) → Acknowledged [] noops old d s → Acknowledged [] noops old d (over_for why s)
over_told old s d why m = record { next = m.next; last = m.last; link = over_keeps old s why m.link; written = m.written; told = m.told; counted = m.counted; answered = m.answered; heard = m.heard }

moved_told : {noops : List ℕ} (old s : DialResult) (d : Dues) (h : Handshake) → Acknowledged [] noops old d s → Acknowledged [] noops old d (with_consumer s (with_handshake s.dial.consumer h))
moved_told old s d h m = record {
  next = m.next;
  last = m.last;
  link = record { dialed = m.link.dialed; writes = m.link.writes; lines = m.link.lines };
  written = m.written;
  told = m.told;
  counted = m.counted;
  answered = m.answered;
  heard = m.heard;
}

stepped_told : {noops : List ℕ} (old s : DialResult) (d : Dues) (t : ConsumerStep) → Acknowledged [] noops old d s → Acknowledged [] noops old d (with_consumer s (stepped t s.dial.consumer))
stepped_told old s d t m = record {
  next = m.next;
  last = m.last;
  link = record { dialed = m.link.dialed; writes = m.link.writes; lines = m.link.lines };
  written = m.written;
  told = m.told;
  counted = m.counted;
  answered = m.answered;
  heard = m.heard;
}

-- with one more request
asked_told : {noops : List ℕ} (old s : DialResult) (d : Dues) (ask : StreamAsk) → Acknowledged [] noops old d s → Acknowledged [] noops old d (again_with s (request_again ask s.dial.consumer))
asked_told old s d ask m =
    let c = s.dial.consumer in
    record {
      next = m.next;
      last = m.last;
      link = wrote_keeps old s (request_again ask c).0 (Asks (flagged c.dialed.takeover ask)) (request_again ask c).1 tt refl (omega arith) (sym (append-nil (request_again ask c).1)) m.link;
      written = filter_map-append seqno_written m.link.writes.0 (Asks (flagged c.dialed.takeover ask) ∷ []) ∙ append-nil (filter_map seqno_written m.link.writes.0) ∙ m.written;
      told = m.told;
      counted = filter_map-append bytes_written m.link.writes.0 (Asks (flagged c.dialed.takeover ask) ∷ []) ∙ append-nil (filter_map bytes_written m.link.writes.0) ∙ m.counted;
      answered = filter_map-append noop_written m.link.writes.0 (Asks (flagged c.dialed.takeover ask) ∷ []) ∙ append-nil (filter_map noop_written m.link.writes.0) ∙ m.answered;
      heard = m.heard;
    }

silent_told : {noops : List ℕ} (old s : DialResult) (d : Dues) (c : PlainConsumer) → c.dialed ≡ s.dial.consumer.dialed → c.asked ≡ s.dial.consumer.asked → s.dial.consumer.acked ≡ c.acked
    → Acknowledged [] noops old d s → Acknowledged [] noops old d (again_with s (c, []))
silent_told old s d c dialed asked acked m = record {
  next = m.next;
  last = m.last ∙ acked;
  link = silent_keeps old s c dialed asked m.link;
  written = m.written;
  told = m.told;
  counted = m.counted;
  answered = m.answered;
  heard = m.heard;
}

-- with one more acknowledgement
met_told : {noops : List ℕ} (old s : DialResult) (last : ℕ) (met : List (ℕ × ℕ)) (seq saved : ℕ) → Acknowledged [] noops old (free last met) s
    → Acknowledged [] noops old (free seq (met ++ (seq, saved) ∷ [])) (acknowledged_result seq s saved)
met_told old s last met seq saved m =
    let c = s.dial.consumer in
    let wrote : List ℕ = (acknowledged seq c).1 in
    let line : Event = acknowledged_line c.dialed seq saved in
    record {
      next = refl;
      last = refl;
      link = lines_keep old (again_with s (acknowledged seq c)) (line ∷ []) (one_own c.dialed line (refl, refl, refl))
          (wrote_keeps old s (acknowledged seq c).0 (Acknowledges seq) wrote tt refl (omega arith) (sym (append-nil wrote)) m.link);
      written = filter_map-append seqno_written m.link.writes.0 (Acknowledges seq ∷ []) ∙ ap (λ l. l ++ seq ∷ []) m.written
          ∙ sym (map-append (λ (p : ℕ × ℕ). p.0) met ((seq, saved) ∷ []));
      told = filter_map-append seqnos_of_line m.link.lines.0 (line ∷ []) ∙ ap (λ l. l ++ (seq, saved) ∷ []) m.told;
      counted = filter_map-append bytes_written m.link.writes.0 (Acknowledges seq ∷ []) ∙ append-nil (filter_map bytes_written m.link.writes.0) ∙ m.counted;
      answered = filter_map-append noop_written m.link.writes.0 (Acknowledges seq ∷ []) ∙ append-nil (filter_map noop_written m.link.writes.0) ∙ m.answered;
      heard = m.heard;
    }

-- with one more answer to a NOOP
noop_told : {noops : List ℕ} (old s : DialResult) (d : Dues) (opaque : ℕ) → Acknowledged [] noops old d s → Acknowledged [] (noops ++ opaque ∷ []) old d (noop_met opaque s)
noop_told old s d opaque m = record {
  next = m.next;
  last = m.last;
  link = wrote_keeps old s s.dial.consumer (AnswersNoop opaque) (noop_answered opaque) tt refl (omega arith) (sym (append-nil (noop_answered opaque))) m.link;
  written = filter_map-append seqno_written m.link.writes.0 (AnswersNoop opaque ∷ []) ∙ append-nil (filter_map seqno_written m.link.writes.0) ∙ m.written;
  told = m.told;
  counted = filter_map-append bytes_written m.link.writes.0 (AnswersNoop opaque ∷ []) ∙ append-nil (filter_map bytes_written m.link.writes.0) ∙ m.counted;
  answered = filter_map-append noop_written m.link.writes.0 (AnswersNoop opaque ∷ []) ∙ ap (λ l. l ++ opaque ∷ []) m.answered;
  heard = m.heard;
}

-- with one more answer to a state
state_told : {noops : List ℕ} (old s : DialResult) (d : Dues) (opaque : ℕ) → old.dial.consumer.dialed.takeover ≡ true → Acknowledged [] noops old d s → Acknowledged [] noops old d (state_met opaque s)
state_told old s d opaque takes m = record {
  next = m.next;
  last = m.last;
  link = wrote_keeps old s s.dial.consumer (AnswersState opaque) (state_answered opaque) takes refl (omega arith) (sym (append-nil (state_answered opaque))) m.link;
  written = filter_map-append seqno_written m.link.writes.0 (AnswersState opaque ∷ []) ∙ append-nil (filter_map seqno_written m.link.writes.0) ∙ m.written;
  told = m.told;
  counted = filter_map-append bytes_written m.link.writes.0 (AnswersState opaque ∷ []) ∙ append-nil (filter_map bytes_written m.link.writes.0) ∙ m.counted;
  answered = filter_map-append noop_written m.link.writes.0 (AnswersState opaque ∷ []) ∙ append-nil (filter_map noop_written m.link.writes.0) ∙ m.answered;
  heard = m.heard;
}

-- what a reply to Due says
module _ {noops : List ℕ} (old s : DialResult) (last : ℕ) (met : List (ℕ × ℕ)) (m : Acknowledged [] noops old (free last met) s) where
  -- what is due is met
  meets : (seq saved : ℕ) (b : Bool) → Acknowledged [] noops old (if b then free seq (met ++ (seq, saved) ∷ []) else free last met) (if b then acknowledged_result seq s saved else s)
  meets seq saved true = met_told old s last met seq saved m
  meets seq saved false = m

  module _ (streams : s.dial.consumer.handshake ≡ handshake.Streaming) where
    due_said : (a : VbAnswer) → Acknowledged [] noops old (due_behind (record { next = DueNext; last = last; met = met }) a) (due_met s (dues_in a))
    due_said (answer.Dues seq saved) =
        let may : nat_lt last seq ≡ may_acknowledge seq s.dial.consumer = λ i. is_streaming (sym streams i) && nat_lt (m.last i) seq in
        subst (λ b. Acknowledged [] noops old (if nat_lt last seq then free seq (met ++ (seq, saved) ∷ []) else free last met) (if b then acknowledged_result seq s saved else s)) may (meets seq saved (nat_lt last seq))
    due_said other = m

    due_replied : (reply : Option VbReply) → Acknowledged [] noops old (due_behind (record { next = DueNext; last = last; met = met }) (said reply)) (due_met s (dues_of_reply reply))
    due_replied None = m
    due_replied (Some r) = due_said r.answer

    -- what is due is asked
    pub asks_due : CallsAs (Acknowledged [] noops old) (record { next = DueNext; last = last; met = met }) (lift (due_requested s))
    unfolding due_requested
    asks_due =
        subst (λ b. CallsAs (Acknowledged [] noops old) (record { next = DueNext; last = last; met = met })
        (lift (if b then prog.Call s.dial.consumer.dialed.vb call.Due (λ reply. Done (due_met s (dues_of_reply reply))) else Done s)))
        (ap is_streaming (sym streams)) (tt, λ reply. due_replied reply)

-- a link that is over asks nothing
over_asks : {noops : List ℕ} (old s : DialResult) (d : Dues) (why : EndReason) → Acknowledged [] noops old d s → CallsAs (Acknowledged [] noops old) d (lift (due_requested (over_for why s)))
unfolding due_requested
over_asks old s d why m = over_told old s d why m

-- a message
none_told : (dialed : Dialed) (changes : List Change) → filter_map seqnos_of_line (map (got_line dialed) changes) ≡ []
none_told dialed [] = refl
none_told dialed (c ∷ changes) = none_told dialed changes

module _ {noops : List ℕ} (old s : DialResult) (last : ℕ) (met : List (ℕ × ℕ)) (m : Acknowledged [] noops old (free last met) s) where
  message_said : s.dial.consumer.handshake ≡ handshake.Streaming → (r : VbReply) (a : VbAnswer)
      → CallsAs (Acknowledged [] noops old) (message_behind (free last met) a) (lift (due_requested (taken_as r s a)))
  message_said streams r (answer.Range ss se) =
      let line : Event = event.Ranged s.dial.consumer.dialed.node s.dial.consumer.dialed.vb ss se in
      asks_due old (with_line s line) last met (lines_told old s (free last met) (line ∷ []) (one_own s.dial.consumer.dialed line (refl, refl)) refl m) streams
  message_said streams r answer.Done =
      let lines : List Event = map (got_line s.dial.consumer.dialed) r.changes in
      asks_due old (record s { events = s.events ++ lines }) last met
      (lines_told old s (free last met) lines (got_own s.dial.consumer.dialed r.changes) (none_told s.dial.consumer.dialed r.changes) m) streams
  message_said streams r other = over_asks old s (free last met) reason.Protocol m

  message_replied : s.dial.consumer.handshake ≡ handshake.Streaming → (reply : Option VbReply)
      → CallsAs (Acknowledged [] noops old) (message_behind (free last met) (said reply)) (lift (due_requested (message_result s reply)))
  message_replied streams None = over_asks old s (free last met) reason.Protocol m
  message_replied streams (Some r) = message_said streams r r.answer

  message_calls : s.dial.consumer.handshake ≡ handshake.Streaming → (c : VbCall) → IsMessage c → CallsAs (Acknowledged [] noops old) (free last met) (lift (call_made c s))
  unfolding call_made
  message_calls streams (call.Marker start end) message = (tt, λ reply. message_replied streams reply)
  message_calls streams (call.Receive change) message = (tt, λ reply. message_replied streams reply)
  message_calls streams other message = elim message [ ]

  -- a log
  granted_asks : s.dial.consumer.handshake ≡ handshake.Asking → (log : List LogEntry)
      → CallsAs (Acknowledged [] noops old) (record { next = DueNext; last = last; met = met }) (lift (due_requested (granted_with log s)))
  granted_asks asks log =
      let c = s.dial.consumer in
      let given : DialResult = with_consumer s (granted c) in
      let line : Event = adopted_line c.dialed log in
      asks_due old (granted_with log s) last met
      (lines_told old given (free last met) (line ∷ []) (one_own c.dialed line (refl, refl)) refl (moved_told old s (free last met) (streaming c.handshake) m)) (ap streaming asks)

  log_said : s.dial.consumer.handshake ≡ handshake.Asking → (log : List LogEntry) (a : VbAnswer)
      → CallsAs (Acknowledged [] noops old) (log_behind (free last met) a) (lift (due_requested (if is_done_answer a then granted_with log s else over_for reason.Protocol s)))
  log_said asks log answer.Done = granted_asks asks log
  log_said asks log other = over_asks old s (free last met) reason.Protocol m

  log_replied : s.dial.consumer.handshake ≡ handshake.Asking → (log : List LogEntry) (reply : Option VbReply)
      → CallsAs (Acknowledged [] noops old) (log_behind (free last met) (said reply)) (lift (due_requested (adopt_result log s reply)))
  log_replied asks log None = over_asks old s (free last met) reason.Protocol m
  log_replied asks log (Some r) = log_said asks log r.answer

  log_calls : s.dial.consumer.handshake ≡ handshake.Asking → (log : List LogEntry) → CallsAs (Acknowledged [] noops old) (free last met) (lift (go_on_with log s))
  unfolding go_on_with
  log_calls asks log = (tt, λ reply. log_replied asks log reply)

  -- a request once the vBucket went back
  again_result_so : (ask : StreamAsk) (h : Handshake) → Acknowledged [] noops old (free last met) (again_with s (again_by h ask s.dial.consumer))
  again_result_so ask handshake.Asking =
      let c = s.dial.consumer in
      either (λ a. Acknowledged [] noops old (free last met) (again_with s a)) (nat_lt c.asked (2 ^ 32 - 1)) (request_again ask c) (ended_for reason.Protocol c, [])
      (asked_told old s (free last met) ask m) (silent_told old s (free last met) (ended_for reason.Protocol c) refl refl refl m)
  again_result_so ask other = silent_told old s (free last met) s.dial.consumer refl refl refl m

  again_if_told : (ask : Option StreamAsk) → Acknowledged [] noops old (free last met) (again_result s ask)
  again_if_told None = over_told old s (free last met) reason.Protocol m
  again_if_told (Some ask) = again_result_so ask s.dial.consumer.handshake

  once_more_calls : CallsAs (Acknowledged [] noops old) (free last met) (lift (requested_once_more s))
  once_more_calls = (tt, λ reply. again_if_told (follower_ask reply))

-- a rollback leaves where the calls stand
Stays : Dues → Dues → Rolled → Type 0
Stays d e came = e ≡ d

module _ (v last : ℕ) (met : List (ℕ × ℕ)) where
  Rolls : Job Rolled → Type 0
  Rolls job = CallsAs (Stays (free last met)) (free last met) job

  went_back : (book : List Record) (to : ℕ) (fate : Fate) → Rolls (rolled_job v book to fate)
  unfolding Rolls Stays
  went_back book to Stood = λ got. (tt, λ reply. refl)
  went_back book to WasClosed = refl
  went_back book to DiskFailed = refl

  read_back : (named : ℕ) (reading : Reading) → Rolls (read_job v named reading)
  unfolding Rolls Stays
  read_back named (Book book) = λ fate. went_back book _ fate
  read_back named Shut = refl
  read_back named Unread = refl
  read_back named (Broken place) = refl

  may_go_back : (named : ℕ) (a : VbAnswer) → Rolls (may_roll_job v named a)
  unfolding Rolls Stays
  may_go_back named (answer.Named ask) = λ reading. read_back named reading
  may_go_back named (answer.Status st) = refl
  may_go_back named other = refl

  goes_back : (named : ℕ) (reply : Option VbReply) → Rolls (rollable_job v named reply)
  unfolding Rolls Stays
  goes_back named None = refl
  goes_back named (Some reply) = may_go_back named reply.answer

  rolls : (named : ℕ) → Rolls (roll_job v named)
  unfolding Rolls roll_job
  rolls named = (tt, λ reply. goes_back named reply)

-- a takeover leaves where the calls stand
Turned : Dues → Dues → Option VbReply × Wrote → Type 0
Turned d e made = e ≡ d

module _ (v last : ℕ) (met : List (ℕ × ℕ)) where
  turned_by : (reply : VbReply) (b : Bool) → CallsAs (Turned (free last met)) (free last met) (if b then Ended (Some reply, wrote.NotAsked) else Call v call.Log (note_role_job v (role_of_call call.Own) reply))
  unfolding Turned
  turned_by reply true = refl
  turned_by reply false = (tt, λ logged fate. refl)

  turned : (reply : Option VbReply) → CallsAs (Turned (free last met)) (free last met) (role_told_job v call.Own reply)
  unfolding Turned
  turned None = refl
  turned (Some reply) = turned_by reply (is_refusal reply.answer)

  turns : CallsAs (Turned (free last met)) (free last met) (role_job v call.Own)
  unfolding role_job
  turns = (tt, λ reply. turned reply)

none_changed : (n v uuid : ℕ) (changes : List Change) → filter_map seqnos_of_line (map (event.Changed n v uuid) changes) ≡ []
none_changed n v uuid [] = refl
none_changed n v uuid (c ∷ changes) = none_changed n v uuid changes

module _ {noops : List ℕ} (old s : DialResult) (last : ℕ) (met : List (ℕ × ℕ)) (opaque : ℕ) (takes : s.dial.consumer.dialed.takeover ≡ true) (m : Acknowledged [] noops old (free last met) s) where
  takes_old : old.dial.consumer.dialed.takeover ≡ true
  takes_old = ap (λ d. d.takeover) (sym m.link.dialed) ∙ takes

  pend_told : (before : Bool) (reply : Option VbReply) → Acknowledged [] noops old (free last met) (pend_result opaque before s reply)
  pend_told before reply =
      let line : Event = role_line s.dial.consumer.dialed role.Pending in
      either (Acknowledged [] noops old (free last met)) (is_done reply) (state_met opaque (if before then s else with_line s line)) (over_for reason.Protocol s)
      (state_told old (if before then s else with_line s line) (free last met) opaque takes_old
      (either (Acknowledged [] noops old (free last met)) before s (with_line s line) m (lines_told old s (free last met) (line ∷ []) (role_told s.dial.consumer.dialed role.Pending takes (inl refl)) refl m)))
      (over_told old s (free last met) reason.Protocol m)

  noted_told : (t : DialResult) (came : Wrote) → Acknowledged [] noops old (free last met) t → Acknowledged [] noops old (free last met) (noted_for came t)
  noted_told t wrote.Stood m = m
  noted_told t wrote.NotAsked m = m
  noted_told t wrote.Closed m = over_told old t (free last met) reason.Disk m
  noted_told t wrote.DiskFailed m = over_told old t (free last met) reason.Disk m

  heir_is_told : (reply : VbReply) → Acknowledged [] noops old (free last met) (heir_told reply s)
  heir_is_told reply =
      let d : Dialed = s.dial.consumer.dialed in
      let line : Event = role_line d role.Active in
      lines_told old (with_line s line) (free last met) (own_lines d.node d.vb reply) (changed_own d reply.branch reply.changes takes) (none_changed d.node d.vb reply.branch reply.changes)
      (lines_told old s (free last met) (line ∷ []) (role_told d role.Active takes (inr refl)) refl m)

  own_told : (came : Wrote) (reply : Option VbReply) → Acknowledged [] noops old (free last met) (own_result opaque s reply came)
  own_told came None = over_told old s (free last met) reason.Protocol m
  own_told came (Some reply) =
      let told : DialResult = state_met opaque (heir_told reply s) in
      either (Acknowledged [] noops old (free last met)) (is_done_answer reply.answer) (noted_for came told) (over_for reason.Protocol s)
      (noted_told told came (state_told old (heir_told reply s) (free last met) opaque takes_old (heir_is_told reply))) (over_told old s (free last met) reason.Protocol m)

  state_calls : (take : TakeStep) → CallsAs (Acknowledged [] noops old) (free last met) (state_made take opaque s)
  unfolding pended owned Turned
  state_calls Pend = (tt, λ shown. (tt, λ reply. pend_told (is_pending shown) reply))
  state_calls Own =
      calls_bind (Turned (free last met)) (Acknowledged [] noops old) (free last met) (role_job s.dial.consumer.dialed.vb call.Own) (λ made. Ended (own_result opaque s made.0 made.1))
      (turns s.dial.consumer.dialed.vb last met)
      (λ e made same. subst (λ d. Acknowledged [] noops old d (own_result opaque s made.0 made.1)) (sym same) (own_told made.1 made.0))

module _ {noops : List ℕ} (old s : DialResult) (last : ℕ) (met : List (ℕ × ℕ)) (m : Acknowledged [] noops old (free last met) s) where
  rolled_calls : (point : ℕ) (came : Rolled) → CallsAs (Acknowledged [] noops old) (free last met) (lift (rolled_back point s came))
  rolled_calls point (rolled.To to) =
      let line : Event = rolled_line s.dial.consumer.dialed point to in
      once_more_calls old (with_line s line) last met (lines_told old s (free last met) (line ∷ []) (one_own s.dial.consumer.dialed line (refl, refl)) refl m)
  rolled_calls point (rolled.Refused st) = over_told old s (free last met) reason.Protocol m
  rolled_calls point rolled.Closed = over_told old s (free last met) reason.Disk m
  rolled_calls point rolled.DiskFailed = over_told old s (free last met) reason.Disk m
  rolled_calls point (rolled.Damaged place) = over_told old s (free last met) reason.Disk m

  roll_calls : (point : ℕ) → CallsAs (Acknowledged [] noops old) (free last met) (roll_back point s)
  unfolding roll_back Rolls Stays
  roll_calls point =
      calls_bind (Stays (free last met)) (Acknowledged [] noops old) (free last met) (roll_job s.dial.consumer.dialed.vb point) (λ came. lift (rolled_back point s came))
      (rolls s.dial.consumer.dialed.vb last met point)
      (λ e came same. subst (λ d. CallsAs (Acknowledged [] noops old) d (lift (rolled_back point s came))) (sym same) (rolled_calls point came))

  -- a frame
  step_calls : (t : ConsumerStep) → Goes s.dial.consumer t → CallsAs (Acknowledged [] (with_noop t noops) old) (free last met) (step_made t (with_consumer s (stepped t s.dial.consumer)))
  unfolding Goes Follows FollowsIf
  step_calls (step.Adopt log) asks = log_calls old s last met m asks log
  step_calls (step.Roll point) follows = roll_calls point
  step_calls (step.Passive (passive.Call c)) follows = message_calls old s last met m follows.0 c follows.1
  step_calls (step.Passive p) follows = stepped_told old s (free last met) (step.Passive p) m
  step_calls (step.State take opaque) takes =
      let t : ConsumerStep = step.State take opaque in
      state_calls old (with_consumer s (stepped t s.dial.consumer)) last met opaque takes (stepped_told old s (free last met) t m) take
  step_calls (step.Noop opaque) follows = noop_told old s (free last met) opaque m
  step_calls t follows = stepped_told old s (free last met) t m

-- a frame of a link that is not over
going_calls : (old : DialResult) (noops : List ℕ) (f : Frame) (d : Dues) (s : DialResult) → Acknowledged [] noops old d s
    → CallsAs (Acknowledged [] (with_noop (frame_step s.dial.consumer f) noops) old) d (frame_taken f s)
unfolding frame_taken
going_calls old noops f d s m =
    let free_there : free d.last d.met ≡ d = λ i. record { next = sym m.next i; last = d.last; met = d.met } in
    let c = s.dial.consumer in
    subst (λ e. CallsAs (Acknowledged [] (with_noop (frame_step c f) noops) old) e (step_made (frame_step c f) (with_consumer s (stepped (frame_step c f) c)))) free_there
    (step_calls old s d.last d.met (subst (λ e. Acknowledged [] noops old e s) (sym free_there) m) (frame_step c f) (step_goes c f))

-- ---- which NOOPs are answered

-- the opaques of the NOOPs of some frames, and of one more
noop_behind : (before : List Frame) (noops : List ℕ) (f : Frame) (opaque : ℕ) → IsNoop f → f.opaque ≡ opaque → AreNoopsOf before noops → AreNoopsOf (before ++ f ∷ []) (noops ++ opaque ∷ [])
noop_behind [] noops f opaque is same are = inl (is, ([], (λ i. are i ++ sym same i ∷ []), refl))
noop_behind (g ∷ before) noops f opaque is same (inl (noop, (more, first, are))) =
    inl (noop, (more ++ opaque ∷ [], ap (λ l. l ++ opaque ∷ []) first, noop_behind before more f opaque is same are))
noop_behind (g ∷ before) noops f opaque is same (inr (none, are)) = inr (none, noop_behind before noops f opaque is same are)

other_behind : (before : List Frame) (noops : List ℕ) (f : Frame) → (IsNoop f → ⊥) → AreNoopsOf before noops → AreNoopsOf (before ++ f ∷ []) noops
other_behind [] noops f none are = inr (none, are)
other_behind (g ∷ before) noops f none (inl (noop, (more, first, are))) = inl (noop, (more, first, other_behind before more f none are))
other_behind (g ∷ before) noops f none (inr (never, are)) = inr (never, other_behind before noops f none are)

-- the calls of frames, of which these were taken
abbrev pub Taken : List Frame → DialResult → Dues → DialResult → Type 0
Taken frames old d s = (noops : List ℕ) × Acknowledged [] noops old d s × AnswersNoops frames s.dial noops

module _ (old : DialResult) (before : List Frame) (f : Frame) (s : DialResult) where
  -- a step answers a NOOP exactly where the frame is one
  noops_by : over_why s.dial.consumer.handshake ≡ None → (noops : List ℕ) → AreNoopsOf before noops → (t : ConsumerStep) → frame_step s.dial.consumer f ≡ t → AreNoopsOf (before ++ f ∷ []) (with_noop t noops)
  noops_by going noops are (step.Noop opaque) came = let is = noop_only s.dial.consumer f opaque came in noop_behind before noops f opaque is.1 is.2 are
  noops_by going noops are other came = other_behind before noops f (λ is. let noop : other ≡ step.Noop f.opaque = sym came ∙ ap (λ x. x.1) (noop_answers s.dial.consumer f going is) in cc) are

  taken_by : (d : Dues) (b : Bool) → is_over s.dial ≡ b → Taken before old d s → CallsAs (Taken (before ++ f ∷ []) old) d (frame_taken f s)
  taken_by d true over (noops, m, (taken, behind, are, own, all)) =
      subst (λ job. CallsAs (Taken (before ++ f ∷ []) old) d job) (sym (skipped f s over))
      (noops, m, (taken, behind ++ f ∷ [], ap (λ l. l ++ f ∷ []) are ∙ append_assoc taken behind (f ∷ []), own, λ none. let never : false ≡ true = sym (ap is_some none) ∙ over in cc))
  taken_by d false going (noops, m, (taken, behind, are, own, all)) =
      let c = s.dial.consumer in
      let none : over_why c.handshake ≡ None = not_some (over_why c.handshake) going in
      let whole : taken ≡ before = sym (append-nil taken) ∙ ap (λ l. taken ++ l) (sym (all none)) ∙ sym are in
      let now : List ℕ = with_noop (frame_step c f) noops in
      let noops_are : AreNoopsOf (before ++ f ∷ []) now = noops_by none noops (subst (λ l. AreNoopsOf l noops) whole own) (frame_step c f) refl in
      calls_map (Acknowledged [] now old) (Taken (before ++ f ∷ []) old) d (frame_taken f s) (λ e t told. (now, told, (before ++ f ∷ [], [], sym (append-nil (before ++ f ∷ [])), noops_are, λ any. refl)))
      (going_calls old noops f d s m)

pub fault_told : {noops : List ℕ} (old s : DialResult) (d : Dues) (fault : Option FrameFault) → Acknowledged [] noops old d s → Acknowledged [] noops old d (fault_met fault s)
fault_told old s d None m = m
fault_told {noops = noops} old s d (Some fault) m = either (Acknowledged [] noops old d) (is_over s.dial) s (over_for reason.Protocol s) m (over_told old s d reason.Protocol m)

-- the frames of a delivery
pub frames_acknowledge : (bytes : List ℕ) (dial : PlainDial)
    → CallsAs (Taken (frames_in bytes) (with_left (untold dial) bytes)) (begins AnyOther dial) (frames_taken (frames_in bytes) (with_left (untold dial) bytes))
unfolding frames_taken
frames_acknowledge bytes dial =
    let old : DialResult = with_left (untold dial) bytes in
    let link : KeepsLink old old = record { dialed = refl; writes = ([], refl, omega arith, All-nil (MayWrite dial.consumer.dialed)); lines = ([], refl, All-nil (IsOfDial dial.consumer.dialed)) } in
    let start : Acknowledged [] [] old (begins AnyOther dial) old = record { next = refl; last = refl; link = link; written = refl; told = refl; counted = refl; answered = refl; heard = refl } in
    calls_each (λ before. Taken before old) frame_taken (λ before f d s taken. taken_by old before f s d (is_over s.dial) refl taken) (begins AnyOther dial) [] (frames_in bytes) (Ended old)
    ([], start, ([], [], refl, refl, λ any. refl))

-- more is written down
pub due_acknowledges : (dial : PlainDial) → dial.consumer.handshake ≡ handshake.Streaming → CallsAs (Acknowledged [] [] (untold dial)) (begins DueNext dial) (lift (dial_due dial))
due_acknowledges dial streams =
    let old : DialResult = untold dial in
    let link : KeepsLink old old = record { dialed = refl; writes = ([], refl, omega arith, All-nil (MayWrite dial.consumer.dialed)); lines = ([], refl, All-nil (IsOfDial dial.consumer.dialed)) } in
    asks_due old old dial.consumer.acked [] (record { next = refl; last = refl; link = link; written = refl; told = refl; counted = refl; answered = refl; heard = refl }) streams

not_streaming : (h : Handshake) → (h ≡ handshake.Streaming → ⊥) → is_streaming h ≡ false
not_streaming handshake.Streaming idle = elim (idle refl) [ ]
not_streaming other idle = refl

pub idle_is_silent : (dial : PlainDial) → (dial.consumer.handshake ≡ handshake.Streaming → ⊥) → dial_due dial ≡ Done (untold dial)
unfolding due_requested
idle_is_silent dial idle =
    let s : DialResult = untold dial in
    ap (λ b. if b then prog.Call dial.consumer.dialed.vb call.Due (λ reply. Done (due_met s (dues_of_reply reply))) else Done s) (not_streaming dial.consumer.handshake idle)
