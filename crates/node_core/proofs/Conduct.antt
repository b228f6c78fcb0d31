-- what a dial may do, whatever its vBucket replies and its journal answers
use Rattle.std.proofs.Common.{◌≡◌, ◌⊎◌, ℕ, ◌+◌, Bool, true, false, List, [], ◌∷◌, ◌++◌, map, refl, sym, subst, ap, ◌∙◌, inl, inr, ⊎_elim, arith, append_assoc, append-nil, Option, Some, None, Result, Ok, Err}
use Rattle.std.specs.Prelude.{◌==◌, ◌||◌, ◌-◌, ◌^◌, nat_lt, min, if◌then◌else◌, is_some}
use Rattle.std.specs.List.{fold, All}
use Rattle.std.proofs.lemmas.List.Elements.{All-nil, All-cons, All-append}
use Rattle.std.specs.Option.{option_map}
use Rattle.mcbp_frame.specs.declared.frame.Frame.{Frame}
use Rattle.mcbp_frame.specs.declared.frame.FrameFault.{FrameFault}
use Rattle.mcbp_frame.specs.declared.frame.TheConstants.{RESPONSE}
use Rattle.mcbp_frame.specs.Cutting.{front_fault, frames_in, left_of}
use Rattle.mcbp_frame.specs.Spelling.{spelling}
use Rattle.mcbp_dcp.specs.declared.message.DcpMsg.{DcpMsg}
use Rattle.mcbp_dcp.specs.declared.message.DcpMsg.TheVariants as msg
use Rattle.mcbp_dcp.specs.declared.message.DcpFault.{DcpFault}
use Rattle.mcbp_dcp.specs.declared.message.StreamVerdict.{StreamVerdict}
use Rattle.mcbp_dcp.specs.declared.message.StreamVerdict.TheVariants as told
use Rattle.mcbp_dcp.specs.declared.shape.TheConstants.{SUCCESS}
use Rattle.mcbp_dcp.specs.DcpFrames.{dcp_frame}
use Rattle.vb_types.specs.Levels.{level_of}
use Rattle.mcbp_dcp.specs.Messages.{read_of}
use Rattle.vb_types.specs.Limits.{key_of, value_of}
use Rattle.vb_types.specs.declared.change.Act.TheVariants as act
use Rattle.vb_types.specs.declared.change.Change.{Change}
use Rattle.vb_events.specs.declared.event.Event.{Event}
use Rattle.vb_events.specs.declared.event.Event.TheVariants as event
use Rattle.vb_events.specs.declared.event.EndReason.{EndReason}
use Rattle.vb_events.specs.declared.event.EndReason.TheVariants as reason
use Rattle.vb_types.specs.declared.role.LogEntry.{LogEntry}
use Rattle.vb_types.specs.declared.role.Role.{Role}
use Rattle.vb_types.specs.declared.role.Role.TheVariants as role
use Rattle.vb_types.specs.declared.stream.StreamAsk.{StreamAsk}
use Rattle.vb_calls.specs.declared.calls.VbCall.{VbCall}
use Rattle.vb_calls.specs.declared.calls.VbCall.TheVariants as call
use Rattle.vb_calls.specs.declared.calls.VbAnswer.{VbAnswer}
use Rattle.vb_calls.specs.declared.calls.VbAnswer.TheVariants as answer
use Rattle.vb_calls.specs.declared.calls.VbReply.{VbReply}
use Rattle.vb_calls.specs.declared.journals.Rolled.{Rolled}
use Rattle.vb_calls.specs.declared.journals.Rolled.TheVariants as rolled
use Rattle.vb_calls.specs.declared.journals.Wrote.{Wrote}
use Rattle.vb_calls.specs.declared.journals.Wrote.TheVariants as wrote
use Rattle.takeover.specs.declared.take_over.TakeStep.{TakeStep}
use Rattle.takeover.specs.declared.take_over.TakeStep.TheVariants.{Pend, Own}
use Rattle.vb_calls.specs.Flushes.{is_refusal, note_role_job, role_of_call, role_told_job, role_job, rolled_job, read_job, may_roll_job, rollable_job, roll_job}
use Rattle.vb_calls.specs.Jobs as job
use Rattle.vb_calls.specs.Jobs.{Job, Ended, bind_job, next_job, each_job, lift, after_job, AlwaysJob}
use Rattle.vb_calls.specs.Programs.{Always, AnyReply}
use Rattle.vb_calls.specs.Shelves.{Ask, Fate, Stood, WasClosed, DiskFailed, Reading, Book, Shut, Unread, Broken, Shelves}
use Rattle.vb_calls.specs.States.{States}
use Rattle.vb_calls.proofs.JobConduct.{always_bind_job, always_lift, always_each_job, after_job_elsewhere, after_job_always}
use Rattle.vb_types.specs.declared.journal.Record.{Record}
use Rattle.dcp_consumer.specs.declared.handshake.ConsumerStep.{ConsumerStep}
use Rattle.dcp_consumer.specs.declared.handshake.ConsumerStep.TheVariants as step
use Rattle.dcp_consumer.specs.declared.handshake.Handshake.{Handshake}
use Rattle.dcp_consumer.specs.declared.handshake.Handshake.TheVariants as handshake
use Rattle.dcp_consumer.specs.declared.passive_stream.Passive.{Passive}
use Rattle.dcp_consumer.specs.declared.passive_stream.Passive.TheVariants as passive
use Rattle.dcp_consumer.specs.PassiveStreams.{set_change, remove_change, prepare_change, resolved_change, commit_act, flag_of, call_of_message, called, passive_of, passive_read}
use Rattle.dcp_consumer.specs.Counting.{counted_bytes, bytes_acknowledged}
use Rattle.dcp_consumer.specs.Noops.{noop_answered}
use Rattle.dcp_consumer.specs.Dialing.{flagged}
use Rattle.dcp_consumer.specs.States.{state_answered}
use Rattle.dcp_consumer.proofs.{Moves.{over_so}, States.{state_case}}
use Rattle.dcp_consumer.specs.Machine.{PlainConsumer, over_why, is_awaited, status_step, verdict_step, answered_with, stream_step, answer_step, response_step, is_noop, passive_step, message_step, unstated_step, frame_step, consumer_step, granted, ended_for, request_again, again_by, acknowledged}
use Rattle.dcp_consumer.specs.declared.handshake.Dialed.{Dialed}
use Rattle.node_core.specs.Calls.{own_lines}
use Rattle.node_core.specs.Conduct.{IsFollowing, FollowsAt, RollsAt, Writes, Asks, Acknowledges, AcknowledgesBytes, AnswersNoop, AnswersState, MayWrite, asks_in, writes_past, IsOfDial, KeepsLink}
use Rattle.node_core.proofs.Dues.{due_always}
use Rattle.node_core.specs.Dials.{PlainDial, DialResult, untold, is_broken, is_over, with_consumer, with_line, with_left, over_for, adopted_line, granted_with, is_done_answer, is_done, is_pending, role_line, state_met, pend_result, pended, heir_told, noted_for, own_result, owned, state_made, adopt_result, acknowledged_line, acknowledged_result, due_requested, go_on_with, follower_ask, again_with, again_result, requested_once_more, rolled_line, rolled_back, roll_back, got_line, taken_as, message_result, call_made, passive_made, step_made, frame_taken, frames_taken, fault_met, bytes_counted, with_end_line, with_last_line, rest_met, bytes_taken, dial_bytes}

-- one of two
pub either : {A : Type 0} (P : A → Type 0) (b : Bool) (x y : A) → P x → P y → P (if b then x else y)
either P true x y px py = px
either P false x y px py = py

-- the call of a message
abbrev pub IsMessage : VbCall → Type 0
IsMessage (call.Marker start end) = Unit {0}
IsMessage (call.Receive change) = Unit {0}
IsMessage other = ⊥

message_is_following : (c : VbCall) → IsMessage c → IsFollowing c
message_is_following (call.Marker start end) message = tt
message_is_following (call.Receive change) message = tt
message_is_following other message = elim message [ ]

-- the call that is asked for is that of a message, where there is one
unfoldable pub FollowsIf : Passive → Type 0
FollowsIf (passive.Call c) = IsMessage c
FollowsIf other = Unit {0}

-- a log comes to a consumer that asks for its stream, and a message to one whose stream is granted
unfoldable pub Follows : Handshake → ConsumerStep → Type 0
Follows h (step.Adopt log) = h ≡ handshake.Asking
Follows h (step.Passive (passive.Call c)) = (h ≡ handshake.Streaming) × FollowsIf (passive.Call c)
Follows h (step.State take opaque) = ⊥
Follows h other = Unit {0}

received : (o : Option Change) → FollowsIf (called (option_map call.Receive o))
unfolding FollowsIf
received None = tt
received (Some c) = tt

message_follows : (m : DcpMsg) → FollowsIf (passive_of m)
unfolding FollowsIf call_of_message
message_follows (msg.SnapshotMarker start end flags) = tt
message_follows (msg.Mutation m) = received (set_change m (key_of m.key) (value_of m.value))
message_follows (msg.Deletion d) = received (option_map (remove_change d) (key_of d.key))
message_follows (msg.Prepare p) = received (prepare_change p (key_of p.key) (value_of p.value) (level_of p.level) (flag_of p.deleted))
message_follows (msg.Commit r) = received (option_map (resolved_change r (commit_act r.prepared)) (key_of r.key))
message_follows (msg.Abort r) = received (option_map (resolved_change r (act.Abort r.prepared)) (key_of r.key))
message_follows other = tt

read_follows : (read : Option (Result DcpMsg DcpFault)) → FollowsIf (passive_read read)
unfolding FollowsIf
read_follows (Some (Ok m)) = message_follows m
read_follows (Some (Err fault)) = tt
read_follows None = tt

streaming_follows : (p : Passive) → FollowsIf p → Follows handshake.Streaming (step.Passive p)
unfolding Follows
streaming_follows (passive.Call c) message = (refl, message)
streaming_follows other message = tt

passive_step_follows : (h : Handshake) (read : Option (Result DcpMsg DcpFault)) → Follows h (passive_step h read)
unfolding Follows
passive_step_follows handshake.Streaming read = streaming_follows (passive_read read) (read_follows read)
passive_step_follows other read = tt

message_step_follows : (h : Handshake) (f : Frame) → Follows h (message_step h f)
unfolding Follows
message_step_follows h f = either (Follows h) (is_noop (read_of f)) (step.Noop f.opaque) (passive_step h (read_of f)) tt (passive_step_follows h (read_of f))

told_follows : (t : StreamVerdict) → Follows handshake.Asking (verdict_step t)
unfolding Follows
told_follows (told.Go log) = refl
told_follows (told.Roll point) = tt
told_follows (told.Refused code) = tt

stream_follows : (t : Result StreamVerdict EndReason) → Follows handshake.Asking (stream_step t)
unfolding Follows
stream_follows (Ok t) = told_follows t
stream_follows (Err why) = tt

status_follows : (h : Handshake) (code : ℕ) → Follows h (status_step code)
unfolding Follows
status_follows h code = either (Follows h) (code == SUCCESS) step.Answered (step.Over reason.Refused) tt tt

answer_follows : (h : Handshake) (f : Frame) → Follows h (answer_step h f)
answer_follows handshake.Asking f = stream_follows (answered_with f.vb_or_status (read_of f))
answer_follows other f = status_follows other f.vb_or_status

unstated_follows : (c : PlainConsumer) (f : Frame) → Follows c.handshake (unstated_step c f)
unfolding Follows unstated_step
unstated_follows c f =
    let h = c.handshake in
    let response = response_step c.dialed.buffer h c.asked f in
    let message = message_step h f in
    let any : ConsumerStep = if f.magic == RESPONSE then response else message in
    either (Follows h) (is_some (over_why h)) step.Dropped any tt
    (either (Follows h) (f.magic == RESPONSE) response message
    (either (Follows h) (is_awaited c.dialed.buffer h c.asked f) (answer_step h f) step.Dropped (answer_follows h f) tt)
    (message_step_follows h f))

-- so it is anyway, or a state is obeyed, on a link that takes the vBucket over
unfoldable pub Goes : PlainConsumer → ConsumerStep → Type 0
Goes c (step.State take opaque) = c.dialed.takeover ≡ true
Goes c other = Follows c.handshake other

any_goes : (c : PlainConsumer) (t : ConsumerStep) → Follows c.handshake t → Goes c t
unfolding Goes Follows
any_goes c (step.State take opaque) follows = absurd follows
any_goes c other follows = follows

pub step_goes : (c : PlainConsumer) (f : Frame) → Goes c (frame_step c f)
unfolding Goes
step_goes c f = ⊎_elim (λ x. subst (Goes c) (sym x.2) x.1.0.2) (λ x. subst (Goes c) (sym x.1) (any_goes c (unstated_step c f) (unstated_follows c f))) (state_case c f)

-- some writes, and then others
pub writes_append : (vb asked : ℕ) (more rest : List Writes) → writes_past vb asked (more ++ rest) ≡ writes_past vb asked more ++ writes_past vb (asked + asks_in more) rest
writes_append vb asked [] rest =
    let same : asked ≡ asked + 0 = omega arith in
    ap (λ n. writes_past vb n rest) same
writes_append vb asked (Asks ask ∷ more) rest =
    let first : List ℕ = spelling (dcp_frame (msg.StreamRequest ask) (asked + 1) vb) in
    let front : List ℕ = writes_past vb (asked + 1) more in
    let same : asked + 1 + asks_in more ≡ asked + (1 + asks_in more) = omega arith in
    ap (λ l. first ++ l) (writes_append vb (asked + 1) more rest ∙ ap (λ n. front ++ writes_past vb n rest) same)
    ∙ sym (append_assoc first front (writes_past vb (asked + (1 + asks_in more)) rest))
writes_append vb asked (Acknowledges seq ∷ more) rest =
    let first : List ℕ = spelling (dcp_frame (msg.SeqnoAcknowledged seq) asked vb) in
    ap (λ l. first ++ l) (writes_append vb asked more rest) ∙ sym (append_assoc first (writes_past vb asked more) (writes_past vb (asked + asks_in more) rest))
writes_append vb asked (AcknowledgesBytes bytes ∷ more) rest =
    let first : List ℕ = spelling (dcp_frame (msg.BufferAcknowledgement bytes) asked 0) in
    ap (λ l. first ++ l) (writes_append vb asked more rest) ∙ sym (append_assoc first (writes_past vb asked more) (writes_past vb (asked + asks_in more) rest))
writes_append vb asked (AnswersNoop opaque ∷ more) rest =
    let first : List ℕ = noop_answered opaque in
    ap (λ l. first ++ l) (writes_append vb asked more rest) ∙ sym (append_assoc first (writes_past vb asked more) (writes_past vb (asked + asks_in more) rest))
writes_append vb asked (AnswersState opaque ∷ more) rest =
    let first : List ℕ = state_answered opaque in
    ap (λ l. first ++ l) (writes_append vb asked more rest) ∙ sym (append_assoc first (writes_past vb asked more) (writes_past vb (asked + asks_in more) rest))

pub asks_append : (more rest : List Writes) → asks_in (more ++ rest) ≡ asks_in more + asks_in rest
asks_append [] rest = omega arith
asks_append (Asks ask ∷ more) rest = omega (arith, asks_append more rest)
asks_append (Acknowledges seq ∷ more) rest = asks_append more rest
asks_append (AcknowledgesBytes bytes ∷ more) rest = asks_append more rest
asks_append (AnswersNoop opaque ∷ more) rest = asks_append more rest
asks_append (AnswersState opaque ∷ more) rest = asks_append more rest

-- one more request, acknowledgement or answer
abbrev pub wrote_keeps : (old s : DialResult) (c : PlainConsumer) (w : Writes) (bytes : List ℕ) → MayWrite old.dial.consumer.dialed w → c.dialed ≡ s.dial.consumer.dialed → c.asked ≡ s.dial.consumer.asked + asks_in (w ∷ [])
    → bytes ≡ writes_past s.dial.consumer.dialed.vb s.dial.consumer.asked (w ∷ []) → KeepsLink old s → KeepsLink old (again_with s (c, bytes))
wrote_keeps old s c w bytes may dialed asked are kept =
    let more : List Writes = kept.writes.0 in
    let vb : ℕ = old.dial.consumer.dialed.vb in
    let first : ℕ = old.dial.consumer.asked in
    let own : s.dial.consumer.dialed.vb ≡ vb = ap (λ d. d.vb) kept.dialed in
    let before : List ℕ = writes_past vb first more in
    let last : List ℕ = writes_past vb (first + asks_in more) (w ∷ []) in
    let out : s.out ++ bytes ≡ (old.out ++ before) ++ last =
    λ i. kept.writes.1 i ++ (are ∙ (λ j. writes_past (own j) (kept.writes.2 j) (w ∷ []))) i in
    record {
      dialed = dialed ∙ kept.dialed;
      writes = (
        more ++ w ∷ [],
        out ∙ append_assoc old.out before last ∙ ap (λ l. old.out ++ l) (sym (writes_append vb first more (w ∷ []))),
        omega (arith, asked, kept.writes.2, asks_append more (w ∷ [])),
        All-append (MayWrite old.dial.consumer.dialed) more (w ∷ []) kept.writes.3 (All-cons (MayWrite old.dial.consumer.dialed) w [] may (All-nil (MayWrite old.dial.consumer.dialed))),
      );
      lines = kept.lines;
    }

-- one more request
pub asked_keeps : (old s : DialResult) (ask : StreamAsk) → KeepsLink old s → KeepsLink old (again_with s (request_again ask s.dial.consumer))
asked_keeps old s ask kept =
    let c = s.dial.consumer in
    wrote_keeps old s (request_again ask c).0 (Asks (flagged c.dialed.takeover ask)) (request_again ask c).1 tt refl (omega arith) (sym (append-nil (request_again ask c).1)) kept

-- nothing more is written
abbrev pub silent_keeps : (old s : DialResult) (c : PlainConsumer) → c.dialed ≡ s.dial.consumer.dialed → c.asked ≡ s.dial.consumer.asked → KeepsLink old s → KeepsLink old (again_with s (c, []))
silent_keeps old s c dialed asked kept = record {
  dialed = dialed ∙ kept.dialed;
  writes = (kept.writes.0, append-nil s.out ∙ kept.writes.1, asked ∙ kept.writes.2, kept.writes.3);
  lines = kept.lines;
}

abbrev pub over_keeps : (old s : DialResult) (why : EndReason) → KeepsLink old s → KeepsLink old (over_for why s)
over_keeps old s why kept = record { dialed = kept.dialed; writes = kept.writes; lines = kept.lines }

abbrev pub lines_keep : (old s : DialResult) (events : List Event) → All (IsOfDial s.dial.consumer.dialed) events → KeepsLink old s → KeepsLink old (record s { events = s.events ++ events })
lines_keep old s events own kept = record {
  dialed = kept.dialed;
  writes = kept.writes;
  lines = (
    kept.lines.0 ++ events,
    ap (λ es. es ++ events) kept.lines.1 ∙ append_assoc old.events kept.lines.0 events,
    All-append (IsOfDial old.dial.consumer.dialed) kept.lines.0 events kept.lines.2 (subst (λ d. All (IsOfDial d) events) kept.dialed own),
  );
}

-- one line
pub one_own : (d : Dialed) (line : Event) → IsOfDial d line → All (IsOfDial d) (line ∷ [])
one_own d line own = All-cons (IsOfDial d) line [] own (All-nil (IsOfDial d))

-- the lines of changes
pub got_own : (d : Dialed) (changes : List Change) → All (IsOfDial d) (map (got_line d) changes)
got_own d [] = All-nil (IsOfDial d)
got_own d (c ∷ changes) = All-cons (IsOfDial d) (got_line d c) (map (got_line d) changes) (refl, refl, refl) (got_own d changes)

pub granted_keeps : (old s : DialResult) (log : List LogEntry) → KeepsLink old s → KeepsLink old (granted_with log s)
granted_keeps old s log kept =
    let given : DialResult = with_consumer s (granted s.dial.consumer) in
    lines_keep old given (adopted_line s.dial.consumer.dialed log ∷ []) (one_own s.dial.consumer.dialed (adopted_line s.dial.consumer.dialed log) (refl, refl)) (record { dialed = kept.dialed; writes = kept.writes; lines = kept.lines })

-- an acknowledgement, with its line
pub acknowledged_keeps : (old s : DialResult) (seq saved : ℕ) → KeepsLink old s → KeepsLink old (acknowledged_result seq s saved)
acknowledged_keeps old s seq saved kept =
    let c = s.dial.consumer in
    let wrote : List ℕ = (acknowledged seq c).1 in
    let line : Event = acknowledged_line c.dialed seq saved in
    lines_keep old (again_with s (acknowledged seq c)) (line ∷ []) (one_own c.dialed line (refl, refl, refl))
    (wrote_keeps old s (acknowledged seq c).0 (Acknowledges seq) wrote tt refl (omega arith) (sym (append-nil wrote)) kept)

-- what is due
due_keeps : (old s : DialResult) → KeepsLink old s → Always (FollowsAt old.dial.consumer.dialed) (KeepsLink old) (due_requested s)
due_keeps old s kept = due_always (KeepsLink old) s (λ seq saved. acknowledged_keeps old s seq saved kept) kept (FollowsAt old.dial.consumer.dialed) (ap (λ d. d.vb) kept.dialed, inl tt)

-- the producer's log
log_follows : (old s : DialResult) (log : List LogEntry) → KeepsLink old s → Always (FollowsAt old.dial.consumer.dialed) (KeepsLink old) (go_on_with log s)
unfolding go_on_with
log_follows old s log kept = (
  (ap (λ d. d.vb) kept.dialed, inl tt),
  λ reply any. due_keeps old (adopt_result log s reply)
      (either (KeepsLink old) (is_done reply) (granted_with log s) (over_for reason.Protocol s) (granted_keeps old s log kept) (over_keeps old s reason.Protocol kept)),
)

pub again_keeps : (old s : DialResult) (ask : StreamAsk) (h : Handshake) → KeepsLink old s → KeepsLink old (again_with s (again_by h ask s.dial.consumer))
again_keeps old s ask handshake.Asking kept =
    let c = s.dial.consumer in
    either (λ a. KeepsLink old (again_with s a)) (nat_lt c.asked (2 ^ 32 - 1)) (request_again ask c) (ended_for reason.Protocol c, [])
    (asked_keeps old s ask kept) (silent_keeps old s (ended_for reason.Protocol c) refl refl kept)
again_keeps old s ask other kept = silent_keeps old s s.dial.consumer refl refl kept

pub again_if_keeps : (old s : DialResult) (ask : Option StreamAsk) → KeepsLink old s → KeepsLink old (again_result s ask)
again_if_keeps old s None kept = over_keeps old s reason.Protocol kept
again_if_keeps old s (Some ask) kept = again_keeps old s ask s.dial.consumer.handshake kept

once_more_keeps : (old s : DialResult) → KeepsLink old s → Always (FollowsAt old.dial.consumer.dialed) (KeepsLink old) (requested_once_more s)
once_more_keeps old s kept = ((ap (λ d. d.vb) kept.dialed, inl tt), λ reply any. again_if_keeps old s (follower_ask reply) kept)

-- a point to go back to
rolled_keeps : (old s : DialResult) (point : ℕ) (came : Rolled) → KeepsLink old s → Always (FollowsAt old.dial.consumer.dialed) (KeepsLink old) (rolled_back point s came)
rolled_keeps old s point (rolled.To to) kept =
    let line : Event = rolled_line s.dial.consumer.dialed point to in
    once_more_keeps old (with_line s line) (lines_keep old s (line ∷ []) (one_own s.dial.consumer.dialed line (refl, refl)) kept)
rolled_keeps old s point (rolled.Refused st) kept = over_keeps old s reason.Protocol kept
rolled_keeps old s point rolled.Closed kept = over_keeps old s reason.Disk kept
rolled_keeps old s point rolled.DiskFailed kept = over_keeps old s reason.Disk kept
rolled_keeps old s point (rolled.Damaged place) kept = over_keeps old s reason.Disk kept

AnyRolled : Rolled → Type 0
AnyRolled came = Unit {0}

-- a rollback of the vBucket v, where that is vb
module _ (dialed : Dialed) (v : ℕ) (own : v ≡ dialed.vb) where
  Rolls : Job Rolled → Type 0
  Rolls job = AlwaysJob AnyReply (FollowsAt dialed) (RollsAt dialed) AnyRolled job

  went_back : (book : List Record) (to : ℕ) (fate : Fate) → Rolls (rolled_job v book to fate)
  unfolding Rolls AnyRolled
  went_back book to Stood = ((own, inl tt), λ got. ((own, inl tt), λ reply any. tt))
  went_back book to WasClosed = tt
  went_back book to DiskFailed = tt

  read_back : (named : ℕ) (reading : Reading) → Rolls (read_job v named reading)
  unfolding Rolls AnyRolled
  read_back named (Book book) = ((own, inl tt), λ fate. went_back book _ fate)
  read_back named Shut = tt
  read_back named Unread = tt
  read_back named (Broken place) = tt

  may_go_back : (named : ℕ) (a : VbAnswer) → Rolls (may_roll_job v named a)
  unfolding Rolls AnyRolled
  may_go_back named (answer.Named ask) = ((own, inl tt), λ reading. read_back named reading)
  may_go_back named (answer.Status st) = tt
  may_go_back named other = tt

  goes_back : (named : ℕ) (reply : Option VbReply) → Rolls (rollable_job v named reply)
  unfolding Rolls AnyRolled
  goes_back named None = tt
  goes_back named (Some reply) = may_go_back named reply.answer

  rolls : (named : ℕ) → Rolls (roll_job v named)
  unfolding Rolls roll_job
  rolls named = ((own, inl tt), λ reply any. goes_back named reply)

roll_follows : (old s : DialResult) (point : ℕ) → KeepsLink old s
    → AlwaysJob AnyReply (FollowsAt old.dial.consumer.dialed) (RollsAt old.dial.consumer.dialed) (KeepsLink old) (roll_back point s)
unfolding roll_back Rolls
roll_follows old s point kept =
    let d : Dialed = old.dial.consumer.dialed in
    always_bind_job AnyReply (FollowsAt d) (RollsAt d) AnyRolled (KeepsLink old) (roll_job s.dial.consumer.dialed.vb point) (λ came. lift (rolled_back point s came))
    (rolls d s.dial.consumer.dialed.vb (ap (λ d. d.vb) kept.dialed) point)
    (λ came any. always_lift AnyReply (FollowsAt d) (RollsAt d) (KeepsLink old) (rolled_back point s came) (rolled_keeps old s point came kept))

-- a message
pub taken_keeps : (old s : DialResult) (r : VbReply) (a : VbAnswer) → KeepsLink old s → KeepsLink old (taken_as r s a)
taken_keeps old s r (answer.Range ss se) kept =
    let line : Event = event.Ranged s.dial.consumer.dialed.node s.dial.consumer.dialed.vb ss se in
    lines_keep old s (line ∷ []) (one_own s.dial.consumer.dialed line (refl, refl)) kept
taken_keeps old s r answer.Done kept = lines_keep old s (map (got_line s.dial.consumer.dialed) r.changes) (got_own s.dial.consumer.dialed r.changes) kept
taken_keeps old s r other kept = over_keeps old s reason.Protocol kept

pub told_keeps : (old s : DialResult) (reply : Option VbReply) → KeepsLink old s → KeepsLink old (message_result s reply)
told_keeps old s None kept = over_keeps old s reason.Protocol kept
told_keeps old s (Some r) kept = taken_keeps old s r r.answer kept

passive_keeps : (old s : DialResult) (p : Passive) → FollowsIf p → KeepsLink old s → Always (FollowsAt old.dial.consumer.dialed) (KeepsLink old) (passive_made p s)
unfolding FollowsIf call_made
passive_keeps old s (passive.Call c) follows kept = ((ap (λ d. d.vb) kept.dialed, inl (message_is_following c follows)), λ reply any. due_keeps old (message_result s reply) (told_keeps old s reply kept))
passive_keeps old s other follows kept = kept

passive_step_keeps : (old s : DialResult) (p : Passive) → FollowsIf p → KeepsLink old s
    → AlwaysJob AnyReply (FollowsAt old.dial.consumer.dialed) (RollsAt old.dial.consumer.dialed) (KeepsLink old) (lift (passive_made p s))
passive_step_keeps old s p follows kept =
    let d : Dialed = old.dial.consumer.dialed in
    always_lift AnyReply (FollowsAt d) (RollsAt d) (KeepsLink old) (passive_made p s) (passive_keeps old s p follows kept)

-- a state
role_own : (d : Dialed) (new : Role) → d.takeover ≡ true → (new ≡ role.Pending) ⊎ (new ≡ role.Active) → IsOfDial d (role_line d new)
role_own d new takes is = (takes, refl, refl, is)

pub changed_own : (d : Dialed) (uuid : ℕ) (changes : List Change) → d.takeover ≡ true → All (IsOfDial d) (map (event.Changed d.node d.vb uuid) changes)
changed_own d uuid [] takes = All-nil (IsOfDial d)
changed_own d uuid (c ∷ changes) takes = All-cons (IsOfDial d) (event.Changed d.node d.vb uuid c) (map (event.Changed d.node d.vb uuid) changes) (takes, refl, refl) (changed_own d uuid changes takes)

-- what a reply tells of a vBucket that took over, or is to
pub role_told : (d : Dialed) (new : Role) → d.takeover ≡ true → (new ≡ role.Pending) ⊎ (new ≡ role.Active) → All (IsOfDial d) (role_line d new ∷ [])
role_told d new takes is = one_own d (role_line d new) (role_own d new takes is)

module _ (old s : DialResult) (opaque : ℕ) (takes : s.dial.consumer.dialed.takeover ≡ true) (kept : KeepsLink old s) where
  obeys_old : old.dial.consumer.dialed.takeover ≡ true
  obeys_old = ap (λ d. d.takeover) (sym kept.dialed) ∙ takes

  obeys : FollowsAt old.dial.consumer.dialed s.dial.consumer.dialed.vb call.Show
  obeys = (ap (λ d. d.vb) kept.dialed, inr (obeys_old, tt))

  answered_keeps : (t : DialResult) → KeepsLink old t → KeepsLink old (state_met opaque t)
  answered_keeps t kept = wrote_keeps old t t.dial.consumer (AnswersState opaque) (state_answered opaque) obeys_old refl (omega arith) (sym (append-nil (state_answered opaque))) kept

  pend_keeps : (before : Bool) (reply : Option VbReply) → KeepsLink old (pend_result opaque before s reply)
  pend_keeps before reply =
      let line : Event = role_line s.dial.consumer.dialed role.Pending in
      either (KeepsLink old) (is_done reply) (state_met opaque (if before then s else with_line s line)) (over_for reason.Protocol s)
      (answered_keeps (if before then s else with_line s line)
      (either (KeepsLink old) before s (with_line s line) kept (lines_keep old s (line ∷ []) (role_told s.dial.consumer.dialed role.Pending takes (inl refl)) kept)))
      (over_keeps old s reason.Protocol kept)

  pended_keeps : Always (FollowsAt old.dial.consumer.dialed) (KeepsLink old) (pended opaque s)
  unfolding pended
  pended_keeps = (obeys, λ shown any. (obeys, λ reply any. pend_keeps (is_pending shown) reply))

  heir_keeps : (reply : VbReply) → KeepsLink old (heir_told reply s)
  heir_keeps reply =
      let d : Dialed = s.dial.consumer.dialed in
      let line : Event = role_line d role.Active in
      lines_keep old (with_line s line) (own_lines d.node d.vb reply) (changed_own d reply.branch reply.changes takes) (lines_keep old s (line ∷ []) (role_told d role.Active takes (inr refl)) kept)

  noted_keeps : (t : DialResult) (came : Wrote) → KeepsLink old t → KeepsLink old (noted_for came t)
  noted_keeps t wrote.Stood kept = kept
  noted_keeps t wrote.NotAsked kept = kept
  noted_keeps t wrote.Closed kept = over_keeps old t reason.Disk kept
  noted_keeps t wrote.DiskFailed kept = over_keeps old t reason.Disk kept

  own_keeps : (came : Wrote) (reply : Option VbReply) → KeepsLink old (own_result opaque s reply came)
  own_keeps came None = over_keeps old s reason.Protocol kept
  own_keeps came (Some reply) =
      let told : DialResult = state_met opaque (heir_told reply s) in
      either (KeepsLink old) (is_done_answer reply.answer) (noted_for came told) (over_for reason.Protocol s)
      (noted_keeps told came (answered_keeps (heir_told reply s) (heir_keeps reply))) (over_keeps old s reason.Protocol kept)

  Turns : {A : Type 0} → (A → Type 0) → Job A → Type 0
  Turns answers job = AlwaysJob AnyReply (FollowsAt old.dial.consumer.dialed) (RollsAt old.dial.consumer.dialed) answers job

  AnyMade : Option VbReply × Wrote → Type 0
  AnyMade made = Unit {0}

  noted_turns : (v : ℕ) → v ≡ s.dial.consumer.dialed.vb → (reply : Option VbReply) → Turns AnyMade (role_told_job v call.Own reply)
  unfolding Turns AnyMade
  noted_turns v is None = tt
  noted_turns v is (Some reply) =
      either (λ (job : Job (Option VbReply × Wrote)). AlwaysJob AnyReply (FollowsAt old.dial.consumer.dialed) (RollsAt old.dial.consumer.dialed) AnyMade job) (is_refusal reply.answer)
      (Ended (Some reply, wrote.NotAsked)) (job.Call v call.Log (note_role_job v (role_of_call call.Own) reply)) tt
      ((is ∙ obeys.0, obeys.1), λ logged any. ((is ∙ obeys.0, inr (obeys_old, tt)), λ fate. tt))

  owned_keeps : Turns (KeepsLink old) (owned opaque s)
  unfolding Turns AnyMade owned role_job
  owned_keeps =
      let d : Dialed = old.dial.consumer.dialed in
      let v : ℕ = s.dial.consumer.dialed.vb in
      always_bind_job AnyReply (FollowsAt d) (RollsAt d) AnyMade (KeepsLink old) (role_job v call.Own) (λ made. Ended (own_result opaque s made.0 made.1))
      (obeys, λ reply any. noted_turns v refl reply) (λ made any. own_keeps made.1 made.0)

  state_keeps : (take : TakeStep) → Turns (KeepsLink old) (state_made take opaque s)
  unfolding Turns
  state_keeps Pend = always_lift AnyReply (FollowsAt old.dial.consumer.dialed) (RollsAt old.dial.consumer.dialed) (KeepsLink old) (pended opaque s) pended_keeps
  state_keeps Own = owned_keeps

step_keeps : (old s : DialResult) (c : PlainConsumer) (t : ConsumerStep) → Goes c t → c.dialed ≡ s.dial.consumer.dialed → KeepsLink old s
    → AlwaysJob AnyReply (FollowsAt old.dial.consumer.dialed) (RollsAt old.dial.consumer.dialed) (KeepsLink old) (step_made t s)
unfolding Goes Follows FollowsIf Turns
step_keeps old s c (step.Adopt log) follows same kept =
    let d : Dialed = old.dial.consumer.dialed in
    always_lift AnyReply (FollowsAt d) (RollsAt d) (KeepsLink old) (go_on_with log s) (log_follows old s log kept)
step_keeps old s c (step.Roll point) follows same kept = roll_follows old s point kept
step_keeps old s c (step.Passive (passive.Call made)) follows same kept = passive_step_keeps old s (passive.Call made) follows.1 kept
step_keeps old s c (step.State take opaque) takes same kept = state_keeps old s opaque (ap (λ d. d.takeover) (sym same) ∙ takes) kept take
step_keeps old s c (step.Noop opaque) follows same kept =
    wrote_keeps old s s.dial.consumer (AnswersNoop opaque) (noop_answered opaque) tt refl (omega arith) (sym (append-nil (noop_answered opaque))) kept
step_keeps old s c other follows same kept = kept

-- a frame
frame_keeps : (old : DialResult) (f : Frame) (s : DialResult) → KeepsLink old s
    → AlwaysJob AnyReply (FollowsAt old.dial.consumer.dialed) (RollsAt old.dial.consumer.dialed) (KeepsLink old) (frame_taken f s)
unfolding frame_taken
frame_keeps old f s kept =
    let c = s.dial.consumer in
    step_keeps old (with_consumer s (consumer_step c f).0) c (consumer_step c f).1 (step_goes c f) refl (record { dialed = kept.dialed; writes = kept.writes; lines = kept.lines })

fault_keeps : (old s : DialResult) (fault : Option FrameFault) → KeepsLink old s → KeepsLink old (fault_met fault s)
fault_keeps old s None kept = kept
fault_keeps old s (Some fault) kept = either (KeepsLink old) (is_over s.dial) s (over_for reason.Protocol s) kept (over_keeps old s reason.Protocol kept)

-- an acknowledgement of bytes
counted_keeps : (old s : DialResult) (frames : List Frame) → KeepsLink old s → KeepsLink old (bytes_counted frames s)
unfolding bytes_counted
counted_keeps old s frames kept =
    let c = s.dial.consumer in
    let wrote : List ℕ = bytes_acknowledged (counted_bytes frames) c in
    either (KeepsLink old) (is_over s.dial || c.dialed.buffer == 0 || counted_bytes frames == 0) s (again_with s (c, wrote)) kept
    (wrote_keeps old s c (AcknowledgesBytes (min (counted_bytes frames) (2 ^ 32 - 1))) wrote tt refl (omega arith) (sym (append-nil wrote)) kept)

end_keeps : (old s : DialResult) (why : Option EndReason) → KeepsLink old s → KeepsLink old (with_end_line why s)
end_keeps old s None kept = kept
end_keeps old s (Some why) kept = either (KeepsLink old) (is_broken (Some why)) s (with_line s (event.Ended s.dial.consumer.dialed.link why)) kept
    (lines_keep old s (event.Ended s.dial.consumer.dialed.link why ∷ []) (one_own s.dial.consumer.dialed (event.Ended s.dial.consumer.dialed.link why) refl) kept)

all_keep : (old s : DialResult) → KeepsLink old s → KeepsLink old (with_last_line s)
all_keep old s kept = end_keeps old s (over_why s.dial.consumer.handshake) kept

-- bytes
pub bytes_follow : (piece : List ℕ) (dial : PlainDial)
    → AlwaysJob AnyReply (FollowsAt dial.consumer.dialed) (RollsAt dial.consumer.dialed) (KeepsLink (untold dial)) (dial_bytes piece dial)
unfolding bytes_taken frames_taken
bytes_follow piece dial =
    let bytes : List ℕ = dial.heard ++ piece in
    let s : DialResult = untold dial in
    let start : KeepsLink s (with_left s bytes) = record { dialed = refl; writes = ([], refl, omega arith, All-nil (MayWrite dial.consumer.dialed)); lines = ([], refl, All-nil (IsOfDial dial.consumer.dialed)) } in
    let calls : ℕ → VbCall → Type 0 = FollowsAt dial.consumer.dialed in
    let requests : ℕ → Ask → Type 0 = RollsAt dial.consumer.dialed in
    always_bind_job AnyReply calls requests (KeepsLink s) (KeepsLink s) (each_job frame_taken (frames_in bytes) (with_left s bytes)) (rest_met (frames_in bytes))
    (always_each_job AnyReply calls requests (KeepsLink s) frame_taken (λ f t kept. frame_keeps s f t kept) (frames_in bytes) (Ended (with_left s bytes)) start)
    (λ t kept.
    let met : DialResult = fault_met (front_fault t.dial.heard) t in
    all_keep s (bytes_counted (frames_in bytes) met) (counted_keeps s met (frames_in bytes) (fault_keeps s t (front_fault t.dial.heard) kept)))

-- a dial that is over takes no frame
not_none : (o : Option EndReason) → is_some o ≡ true → o ≡ None → ⊥
not_none None over none = cc
not_none (Some why) over none = cc

pub skipped : (f : Frame) (s : DialResult) → is_over s.dial ≡ true → frame_taken f s ≡ Ended s
unfolding frame_taken
skipped f s over =
    let c = s.dial.consumer in
    ap (λ (x : PlainConsumer × ConsumerStep). step_made x.1 (with_consumer s x.0)) (over_so c f (not_none (over_why c.handshake) over))

all_skipped : (fs : List Frame) (s : DialResult) → is_over s.dial ≡ true → each_job frame_taken fs s ≡ Ended s
all_skipped [] s over = refl
all_skipped (f ∷ fs) s over = ap (λ p. fold (next_job frame_taken) p fs) (skipped f s over) ∙ all_skipped fs s over

fault_skipped : (fault : Option FrameFault) (s : DialResult) → is_over s.dial ≡ true → fault_met fault s ≡ s
fault_skipped None s over = refl
fault_skipped (Some fault) s over = ap (λ b. if b then s else over_for reason.Protocol s) over

counted_skipped : (frames : List Frame) (s : DialResult) → is_over s.dial ≡ true → bytes_counted frames s ≡ s
unfolding bytes_counted
counted_skipped frames s over =
    let c = s.dial.consumer in
    ap (λ b. if b || c.dialed.buffer == 0 || counted_bytes frames == 0 then s else again_with s (c, bytes_acknowledged (counted_bytes frames) c)) over

pub bytes_skipped : (piece : List ℕ) (dial : PlainDial) → is_over dial ≡ true → dial_bytes piece dial ≡ Ended (with_last_line (with_left (untold dial) (dial.heard ++ piece)))
unfolding bytes_taken frames_taken
bytes_skipped piece dial over =
    let bytes : List ℕ = dial.heard ++ piece in
    let s : DialResult = with_left (untold dial) bytes in
    ap (λ p. bind_job p (rest_met (frames_in bytes))) (all_skipped (frames_in bytes) s over)
    ∙ ap (λ t. Ended (with_last_line (bytes_counted (frames_in bytes) t))) (fault_skipped (front_fault (left_of bytes)) s over)
    ∙ ap (λ t. Ended (with_last_line t)) (counted_skipped (frames_in bytes) s over)

pub others_stay : (piece : List ℕ) (dial : PlainDial) (states : States) (shelves : Shelves) (w : ℕ) → (w ≡ dial.consumer.dialed.vb → ⊥)
    → ((after_job (dial_bytes piece dial) states shelves).0.0 w ≡ states w) × ((after_job (dial_bytes piece dial) states shelves).0.1 w ≡ shelves w)
others_stay piece dial states shelves w other =
    let d : Dialed = dial.consumer.dialed in
    after_job_elsewhere (FollowsAt d) (RollsAt d) (KeepsLink (untold dial)) (dial_bytes piece dial) states shelves w (λ call follows. other follows.0) (λ ask rolls. other rolls.0) (bytes_follow piece dial)

pub link_stays : (piece : List ℕ) (dial : PlainDial) (states : States) (shelves : Shelves) → KeepsLink (untold dial) (after_job (dial_bytes piece dial) states shelves).1
link_stays piece dial states shelves =
    let d : Dialed = dial.consumer.dialed in
    after_job_always (FollowsAt d) (RollsAt d) (KeepsLink (untold dial)) (dial_bytes piece dial) states shelves (bytes_follow piece dial)
