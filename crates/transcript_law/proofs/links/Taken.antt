-- what a consumer makes of the frames that a producer writes, what stays of a stream when it takes one, and that what is on its way fits the frames that tell it
use Rattle.std.specs.Prelude.{◌≡◌, ◌<◌, ◌≤◌, ◌∷◌, ◌==◌, ◌&&◌, ◌-◌, ◌^◌, if◌then◌else◌, ◌++◌}
use Rattle.transcript_law.proofs.Words.{ℕ, true, false, List, [], length, drop, refl, ap, sym, ◌∙◌, subst, arith, Some, None, Ok, nat_le, is_some, All}
use Rattle.transcript_law.proofs.Words.{Frame, RESPONSE, DcpMsg, StreamVerdict, dcp_frame, IsVerdict, IsSpelled, EntryInRange, VerdictInRange, InRange, option_map, and_parts, eq-eqb, eqb-true, nat_tests, message_back, Act, Change}
use Rattle.transcript_law.proofs.Words.{EndReason, LogEntry, IsKey, IsValue, Ended, lift, act_message, STATE_CHANGED, PlainConsumer, with_handshake, over_why, DialResult, with_consumer, over_for, go_on_with, roll_back}
use Rattle.transcript_law.proofs.Words.{call_made, frame_taken, min, ⊎_elim, inl, inr, IsIn, last_seq, IsOf, Covers, hist, hist_rises, rises_in, Feed, Cluster, ground, Linked, Flight, flight_from, PlainWorld}
use Rattle.transcript_law.proofs.Words.{ItemLine, Granted, Chronicle, stream_branch, item_of_change, stream_history, LawfulRange, LawfulGot, Bool, map, Option, Member, adopted, marked_by, received, flight_end}
use Rattle.transcript_law.proofs.{Words.{Plain, PlainStream, past_next, past_mark}, invariant.Agreement.{answer_frame, DocFits, ActFits, ChangeFits, EntryFits, IsRefused, is_refused_ack, flight_marks, top, Busy}, links.Firsts.{first_answers, waits_after}, links.Requests.{first_counted}}
use Rattle.transcript_law.proofs.{invariant.Agreement.{AgreesIn, coming_items, flight_items, marker_start, ComingIs, StreamAgrees}, links.Sent.{act_told, fits_of}, links.Comings.{marker_comes, taken_comes}}
use Rattle.{branch_model.proofs.Images.{plain_stands}, cluster_model.specs.Clusters.{Comes}, dcp_consumer.specs.Machine.{verdict_step, answered_with, stream_step, is_awaited, answer_step, response_step, message_step, passive_step, is_noop, frame_step, state_in, stepped, unstated_step}, transcript_law.proofs.links.Unstated.{answer_unstated, message_unstated, over_dropped}}
use Rattle.{dcp_consumer.specs.Dialing.{stream_opaque}, dcp_consumer.specs.Machine.{answered}, dcp_consumer.specs.PassiveStreams.{set_change, remove_change, prepare_change, resolved_change, commit_act, call_of_message, called, passive_of}}
use Rattle.{dcp_consumer.specs.declared.handshake.ConsumerStep.{ConsumerStep}, dcp_consumer.specs.declared.handshake.Handshake.{Handshake as Waiting}, dcp_consumer.specs.declared.passive_stream.Passive.{Passive}}
use Rattle.{dcp_consumer.specs.declared.passive_stream.Passive.TheVariants.{Call, End}, mcbp_dcp.specs.declared.message.Deletion.{Deletion}, mcbp_dcp.specs.declared.message.Mutation.{Mutation}}
use Rattle.{node_core.specs.Dials.{step_made}, std.proofs.Math.Bool.{and-false}, std.proofs.lemmas.Bool.{true_from_ne_false}, vb_calls.specs.declared.calls.VbCall.TheVariants.{Marker, Receive}, vb_types.specs.Limits.{key_of, value_of}}
use Rattle.{vb_types.specs.declared.change.Act.TheVariants.{Remove, Set, Prepare, Commit, Abort}, vb_types.specs.declared.stream.AskAnswer.TheVariants.{Go}, vb_events.specs.declared.event.EndReason.TheVariants.{Done, Refused, State}}
use Rattle.vb_events.specs.declared.event.StreamName.TheVariants.{Link}
use Rattle.mcbp_dcp.specs.declared.message.DcpMsg.TheVariants as msg
use Rattle.mcbp_dcp.specs.declared.message.StreamVerdict.TheVariants as told
use Rattle.vb_types.specs.declared.stream.AskAnswer.TheVariants as ask_answer
use Rattle.dcp_consumer.specs.declared.handshake.Handshake.TheVariants as waiting
use Rattle.dcp_consumer.specs.declared.handshake.ConsumerStep.TheVariants as step
use Rattle.dcp_producer.specs.Frames.{flag_number, marker_flags, prepare_message}
use Rattle.vb_types.specs.Levels.{level_number, level_of}
use Rattle.vb_types.proofs.Levels.{level_back}
use Rattle.mcbp_dcp.specs.declared.message.Prepare.{Prepare as Prepared}
use Rattle.mcbp_dcp.specs.declared.message.Resolution.{Resolution}
use Rattle.transcript_law.proofs.Words.{Doc}
use Rattle.vb_types.specs.declared.change.Level.{Level}
use Rattle.{dcp_consumer.specs.Machine.{state_of as obeyed_as}, dcp_consumer.specs.States.{IsNextOf}, node_core.specs.Dials.{state_made}, node_core.proofs.Taking.{in_place}, takeover.specs.declared.take_over.TakeStep.{TakeStep}}
use Rattle.transcript_law.proofs.invariant.Agreement.{Handing}

-- what a frame comes to, by its step
pub as_step : (f : Frame) (s : DialResult) (x : ConsumerStep) → frame_step s.dial.consumer f ≡ x
    → frame_taken f s ≡ step_made x (with_consumer s (stepped x s.dial.consumer))
unfolding frame_taken
as_step f s x e = ap (λ y. step_made y (with_consumer s (stepped y s.dial.consumer))) e

-- once the link is over, nothing is taken
pub over_taken : (f : Frame) (s : DialResult) (why : EndReason) → over_why s.dial.consumer.handshake ≡ Some why → frame_taken f s ≡ Ended s
over_taken f s why e = as_step f s step.Dropped (over_dropped s.dial.consumer f why e)

-- the answer to an acknowledgement that was refused is none that is waited for, so it is dropped

unawaited : (buffer : ℕ) (h : Waiting) (asked : ℕ) (f : Frame) → f.opcode ≡ 0x61 → is_awaited buffer h asked f ≡ false
unawaited buffer waiting.Opening asked f e = ap (λ n. f.opaque == 1 && n == 0x50) e ∙ and-false (f.opaque == 1)
unawaited buffer waiting.Buffering asked f e = ap (λ n. f.opaque == 2 && n == 0x5e) e ∙ and-false (f.opaque == 2)
unawaited buffer waiting.SyncWrites asked f e = ap (λ n. f.opaque == stream_opaque buffer - 2 && n == 0x5e) e ∙ and-false (f.opaque == stream_opaque buffer - 2)
unawaited buffer waiting.Naming asked f e = ap (λ n. f.opaque == stream_opaque buffer - 1 && n == 0x5e) e ∙ and-false (f.opaque == stream_opaque buffer - 1)
unawaited buffer waiting.Asking asked f e = ap (λ n. f.opaque == asked && n == 0x53) e ∙ and-false (f.opaque == asked)
unawaited buffer other asked f e = refl

dropped_step : (c : PlainConsumer) (f : Frame) → is_refused_ack f ≡ true → frame_step c f ≡ step.Dropped
unfolding unstated_step
dropped_step c f e =
    let p = and_parts (f.magic == RESPONSE) (f.opcode == 0x61) e in
    answer_unstated c f p.0
    ∙ elim (is_some (over_why c.handshake)) as (λ b. (if b then step.Dropped else if f.magic == RESPONSE then response_step c.dialed.buffer c.handshake c.asked f else message_step c.handshake f) ≡ step.Dropped) [
      | true ↦ refl
      | false ↦ ap (λ b. if b then response_step c.dialed.buffer c.handshake c.asked f else message_step c.handshake f) p.0
          ∙ ap (λ b. if b then answer_step c.handshake f else step.Dropped) (unawaited c.dialed.buffer c.handshake c.asked f (eqb-true f.opcode 0x61 p.1))
    ]

pub dropped_taken : (f : Frame) (s : DialResult) → is_refused_ack f ≡ true → frame_taken f s ≡ Ended s
dropped_taken f s e = as_step f s step.Dropped (dropped_step s.dial.consumer f e)

-- the answers to the first requests are counted

pub first_taken : (seen : ℕ) (f : Frame) (more : List Frame) (s : DialResult) → drop seen (first_answers s.dial.consumer.dialed) ≡ f ∷ more → s.dial.consumer.handshake ≡ waits_after s.dial.consumer.dialed seen
    → frame_taken f s ≡ Ended (with_consumer s (with_handshake s.dial.consumer (answered s.dial.consumer.dialed.buffer s.dial.consumer.handshake)))
first_taken seen f more s e w = as_step f s step.Answered (first_counted s.dial.consumer seen f more e w)

-- the answer to a request for a stream

answer_head : (t : StreamVerdict) (o : ℕ) → let f : Frame = dcp_frame (msg.StreamAnswer t) o 0 in ((f.magic == RESPONSE) ≡ true) × (f.opcode ≡ 0x53) × (f.opaque ≡ o)
unfolding dcp_frame
answer_head (told.Go log) o = (refl, refl, refl)
answer_head other o = (refl, refl, refl)

answered_step : (t : StreamVerdict) (c : PlainConsumer) → IsVerdict t → VerdictInRange t → c.handshake ≡ waiting.Asking → frame_step c (dcp_frame (msg.StreamAnswer t) c.asked 0) ≡ verdict_step t
unfolding unstated_step
answered_step t c i r e =
    let n : ℕ = c.asked in let f : Frame = dcp_frame (msg.StreamAnswer t) n 0 in
    answer_unstated c f (answer_head t n).0
    ∙ ap (λ h. if is_some (over_why h) then step.Dropped else if f.magic == RESPONSE then response_step c.dialed.buffer h n f else message_step h f) e
    ∙ ap (λ b. if b then response_step c.dialed.buffer waiting.Asking n f else message_step waiting.Asking f) (answer_head t n).0
    ∙ ap (λ b. if b && f.opcode == 0x53 then answer_step waiting.Asking f else step.Dropped) (eq-eqb f.opaque n (answer_head t n).2)
    ∙ ap (λ b. if b then answer_step waiting.Asking f else step.Dropped) (eq-eqb f.opcode 0x53 (answer_head t n).1)
    ∙ ap (λ x. stream_step (answered_with f.vb_or_status x)) (message_back (msg.StreamAnswer t) n 0 i r)

answered_taken : (t : StreamVerdict) (s : DialResult) → IsVerdict t → VerdictInRange t → s.dial.consumer.handshake ≡ waiting.Asking
    → frame_taken (dcp_frame (msg.StreamAnswer t) s.dial.consumer.asked 0) s ≡ step_made (verdict_step t) (with_consumer s (stepped (verdict_step t) s.dial.consumer))
answered_taken t s i r w = as_step (dcp_frame (msg.StreamAnswer t) s.dial.consumer.asked 0) s (verdict_step t) (answered_step t s.dial.consumer i r w)

entries_in_range : (log : List LogEntry) → All EntryFits log → All EntryInRange log
entries_in_range log a = λ k d l. record { uuid = (a k d l).0; seq = (a k d l).1 }

-- the log is to be taken over
pub go_taken : (log : List LogEntry) (s : DialResult) → length log ≤ 25 → All EntryFits log → s.dial.consumer.handshake ≡ waiting.Asking → frame_taken (answer_frame s.dial.consumer.asked log ask_answer.Go) s ≡ lift (go_on_with log s)
go_taken log s short fits w = answered_taken (told.Go log) s (omega arith) (entries_in_range log fits) w

-- the vBucket is sent back
pub rolled_taken : (to : ℕ) (s : DialResult) → to < 2 ^ 64 → s.dial.consumer.handshake ≡ waiting.Asking → frame_taken (answer_frame s.dial.consumer.asked [] (ask_answer.Roll to)) s ≡ roll_back to s
rolled_taken to s r w = answered_taken (told.Roll to) s tt r w

-- the link is over
pub refused_taken : (code : ℕ) (s : DialResult) → IsRefused (ask_answer.Refuse code) → s.dial.consumer.handshake ≡ waiting.Asking
    → frame_taken (answer_frame s.dial.consumer.asked [] (ask_answer.Refuse code)) s ≡ Ended (over_for Refused s)
refused_taken code s r w = answered_taken (told.Refused code) s (r.0, r.1) r.2 w

-- a message of a stream that was granted
message_read : (m : DcpMsg) (p : Passive) (n v : ℕ) (s : DialResult) → IsSpelled m → InRange m → s.dial.consumer.handshake ≡ waiting.Streaming → ((dcp_frame m n v).magic == RESPONSE) ≡ false → is_noop (Some (Ok m)) ≡ false → state_in (Some (Ok m)) ≡ None → passive_of m ≡ p
    → frame_taken (dcp_frame m n v) s ≡ step_made (step.Passive p) (with_consumer s (stepped (step.Passive p) s.dial.consumer))
unfolding unstated_step
message_read m p n v s i r w q none stateless e =
    let f : Frame = dcp_frame m n v in let c : PlainConsumer = s.dial.consumer in
    as_step f s (step.Passive p)
    (message_unstated c f (ap state_in (message_back m n v i r) ∙ stateless)
    ∙ ap (λ h. if is_some (over_why h) then step.Dropped else if f.magic == RESPONSE then response_step c.dialed.buffer h c.asked f else message_step h f) w
    ∙ ap (λ b. if b then response_step c.dialed.buffer waiting.Streaming c.asked f else message_step waiting.Streaming f) q
    ∙ ap (λ x. if is_noop x then step.Noop f.opaque else passive_step waiting.Streaming x) (message_back m n v i r)
    ∙ ap (λ b. if b then step.Noop f.opaque else step.Passive (passive_of m)) none
    ∙ ap step.Passive e)

-- a marker, wherever its snapshot was taken from
pub marker_taken : (start end : ℕ) (disk : Bool) (n v : ℕ) (s : DialResult) → start < 2 ^ 64 → end < 2 ^ 64 → s.dial.consumer.handshake ≡ waiting.Streaming
    → frame_taken (dcp_frame (msg.SnapshotMarker start end (marker_flags disk)) n v) s ≡ lift (call_made (Marker start end) s)
unfolding dcp_frame call_of_message
marker_taken start end disk n v s a b w = message_read (msg.SnapshotMarker start end (marker_flags disk)) (Call (Marker start end)) n v s tt (a, b, flags_small disk) w refl refl refl refl
  where
    flags_small : (disk : Bool) → marker_flags disk < 2 ^ 32
    flags_small true = omega arith
    flags_small false = omega arith

-- the end of the stream, which a change of role at its producer's vBucket ended
pub end_taken : (n v : ℕ) (s : DialResult) → s.dial.consumer.handshake ≡ waiting.Streaming → frame_taken (dcp_frame (msg.StreamEnd STATE_CHANGED) n v) s ≡ Ended (over_for State s)
unfolding dcp_frame
end_taken n v s w = message_read (msg.StreamEnd STATE_CHANGED) (End State) n v s tt (omega arith) w refl refl refl refl

-- and the end of one whose consumer took the vBucket over
pub end_done : (n v : ℕ) (s : DialResult) → s.dial.consumer.handshake ≡ waiting.Streaming → frame_taken (dcp_frame (msg.StreamEnd 0) n v) s ≡ Ended (over_for Done s)
unfolding dcp_frame
end_done n v s w = message_read (msg.StreamEnd 0) (End Done) n v s tt (omega arith) w refl refl refl refl

-- a state that is in order is obeyed, and is answered with its opaque
pub state_taken : (take : TakeStep) (n v : ℕ) (s : DialResult) → s.dial.consumer.handshake ≡ waiting.Streaming → s.dial.consumer.dialed.takeover ≡ true → IsNextOf s.dial.consumer.taking.last take
    → frame_taken (dcp_frame (msg.SetVbucketState (obeyed_as take)) n v) s ≡ state_made take n (with_consumer s (record s.dial.consumer { taking = record { last = Some take } }))
unfolding dcp_frame
state_taken take n v s w takes next =
    (in_place (dcp_frame (msg.SetVbucketState (obeyed_as take)) n v) s).obeyed take
    ((((λ e. let z : false ≡ true = eq-eqb 0x80 0x81 e in cc), ap over_why w), w, takes), next, message_back (msg.SetVbucketState (obeyed_as take)) n v tt tt)

key_fits : (key : List ℕ) → IsKey key → key_of key ≡ Some key
key_fits key k = let b : (nat_le 1 (length key) && nat_le (length key) 250) ≡ true = grind (arith, nat_tests) in ap (λ x. if x then Some key else None) b

value_fits : (value : List ℕ) → IsValue value → value_of value ≡ Some value
value_fits value k = let b : nat_le (length value) 20971520 ≡ true = grind (arith, nat_tests) in ap (λ x. if x then Some value else None) b

-- the message of a prepare, as it is spelled
abbrev prepared_of : Change → Level → Doc → Bool → Prepared
prepared_of c level doc deleted = record {
  seq = c.seq;
  rev = doc.rev;
  cas = doc.cas;
  flags = doc.flags;
  expiry = doc.expiry;
  datatype = doc.datatype;
  deleted = flag_number deleted;
  level = level_number level;
  key = c.key;
  value = if deleted then [] else doc.value;
}

-- a prepare that is read, of a document and of a removal
prepare_read : (c : Change) (level : Level) (doc : Doc) (deleted : Bool) → IsKey c.key → IsValue doc.value → (deleted ≡ true → doc.value ≡ [])
    → call_of_message (prepare_message c level doc deleted) ≡ Some (Receive (record { seq = c.seq; key = c.key; act = Prepare level doc deleted }))
unfolding call_of_message
prepare_read c level doc false key value empty =
    ap (λ x. option_map Receive (prepare_change (prepared_of c level doc false) x (value_of doc.value) (level_of (level_number level)) (Some false))) (key_fits c.key key)
    ∙ ap (λ x. option_map Receive (prepare_change (prepared_of c level doc false) (Some c.key) x (level_of (level_number level)) (Some false))) (value_fits doc.value value)
    ∙ ap (λ x. option_map Receive (prepare_change (prepared_of c level doc false) (Some c.key) (Some doc.value) x (Some false))) (level_back level)
prepare_read c level doc true key value empty =
    ap (λ x. option_map Receive (prepare_change (prepared_of c level doc true) x (Some []) (level_of (level_number level)) (Some true))) (key_fits c.key key)
    ∙ ap (λ x. option_map Receive (prepare_change (prepared_of c level doc true) (Some c.key) (Some []) x (Some true))) (level_back level)
    ∙ (λ i. Some (Receive (record { seq = c.seq; key = c.key; act = Prepare level (record doc { value = sym (empty refl) i }) true })))

prepare_spelled : (c : Change) (level : Level) (doc : Doc) (deleted : Bool) → IsKey c.key → IsValue doc.value → IsSpelled (prepare_message c level doc deleted)
prepare_spelled c level doc true k v = let key : length c.key ≤ 250 = k.1 in (omega arith, omega arith, λ e. refl)
prepare_spelled c level doc false k v = let key : length c.key ≤ 250 = k.1 in let value : length doc.value ≤ 20971520 = v in (omega arith, omega arith, λ e. let z : 0 ≡ 1 = e in cc)

-- the change that a message tells
pub change_taken : (c : Change) (a : Act) (n v : ℕ) (s : DialResult) → ChangeFits c → c.act ≡ a → s.dial.consumer.handshake ≡ waiting.Streaming
    → frame_taken (dcp_frame (act_message c a) n v) s ≡ lift (call_made (Receive (record { seq = c.seq; key = c.key; act = act_told a })) s)
unfolding dcp_frame call_of_message
change_taken c (Set doc) n v s fits e w =
    let f : DocFits doc = subst ActFits e fits.act in
    let t : Mutation = record { seq = c.seq; rev = doc.rev; cas = doc.cas; flags = doc.flags; expiry = doc.expiry; datatype = doc.datatype; key = c.key; value = doc.value } in
    let told : Change = record { seq = c.seq; key = c.key; act = Set doc } in
    let is : call_of_message (msg.Mutation t) ≡ Some (Receive told) =
    ap (λ x. option_map Receive (set_change t x (value_of doc.value))) (key_fits c.key fits.key)
    ∙ ap (λ x. option_map Receive (set_change t (Some c.key) x)) (value_fits doc.value f.value) in
    let key : length c.key ≤ 250 = fits.key.1 in let value : length doc.value ≤ 20971520 = f.value in
    message_read (msg.Mutation t) (Call (Receive told)) n v s (omega arith, omega arith) (record { seq = fits.seq; rev = f.rev; cas = f.cas; flags = f.flags; expiry = f.expiry }) w refl refl refl (ap called is)
change_taken c (Remove cas rev) n v s fits e w =
    let f : (cas < 2 ^ 64) × (rev < 2 ^ 64) = subst ActFits e fits.act in
    let t : Deletion = record { seq = c.seq; rev = rev; cas = cas; key = c.key } in
    let told : Change = record { seq = c.seq; key = c.key; act = Remove cas rev } in
    let is : call_of_message (msg.Deletion t) ≡ Some (Receive told) = ap (λ x. option_map Receive (option_map (remove_change t) x)) (key_fits c.key fits.key) in
    let key : length c.key ≤ 250 = fits.key.1 in
    message_read (msg.Deletion t) (Call (Receive told)) n v s (omega arith) (record { seq = fits.seq; rev = f.1; cas = f.0 }) w refl refl refl (ap called is)
change_taken c (Prepare level doc deleted) n v s fits e w =
    let f : ActFits (Prepare level doc deleted) = subst ActFits e fits.act in
    let told : Change = record { seq = c.seq; key = c.key; act = Prepare level doc deleted } in
    message_read (prepare_message c level doc deleted) (Call (Receive told)) n v s (prepare_spelled c level doc deleted fits.key f.0.value)
    (record { seq = fits.seq; rev = f.0.rev; cas = f.0.cas; flags = f.0.flags; expiry = f.0.expiry }) w refl refl refl (ap called (prepare_read c level doc deleted fits.key f.0.value f.1))
change_taken c (Commit prepared doc deleted) n v s fits e w =
    let f : ActFits (Commit prepared doc deleted) = subst ActFits e fits.act in
    let t : Resolution = record { prepared = prepared; seq = c.seq; key = c.key } in
    let told : Change = record { seq = c.seq; key = c.key; act = commit_act prepared } in
    let is : call_of_message (msg.Commit t) ≡ Some (Receive told) = ap (λ x. option_map Receive (option_map (resolved_change t (commit_act prepared)) x)) (key_fits c.key fits.key) in
    let key : length c.key ≤ 250 = fits.key.1 in
    message_read (msg.Commit t) (Call (Receive told)) n v s (omega arith) (record { prepared = f.0; seq = fits.seq }) w refl refl refl (ap called is)
change_taken c (Abort prepared) n v s fits e w =
    let f : prepared < 2 ^ 64 = subst ActFits e fits.act in
    let t : Resolution = record { prepared = prepared; seq = c.seq; key = c.key } in
    let told : Change = record { seq = c.seq; key = c.key; act = Abort prepared } in
    let is : call_of_message (msg.Abort t) ≡ Some (Receive told) = ap (λ x. option_map Receive (option_map (resolved_change t (Abort prepared)) x)) (key_fits c.key fits.key) in
    let key : length c.key ≤ 250 = fits.key.1 in
    message_read (msg.Abort t) (Call (Receive told)) n v s (omega arith) (record { prepared = f; seq = fits.seq }) w refl refl refl (ap called is)

-- the frame that grants a stream
abbrev pub go_frame : ℕ → Feed → Frame
go_frame o feed = answer_frame o feed.log Go

pub is_none : {A : Type 0} (o : Option A) → is_some o ≡ false → o ≡ None
is_none None e = refl
is_none (Some x) e = cc

module _ {o vb : ℕ} {g : Granted} {stream : PlainStream} {pv : Option Plain} {leader : Member} {feed : Feed} {kn : Member} {h : Handing} where
  -- a log that is taken over
  pub stream_adopted : kn.coming ≡ None → StreamAgrees o vb g stream pv leader feed kn false h → StreamAgrees o vb g stream pv leader feed (adopted kn (Some feed)) false h
  stream_adopted e s = record {
    put = s.put;
    opens = s.opens;
    given_in = s.given_in;
    all_taken = λ q. ((s.all_taken q).0, refl);
    over_ended = s.over_ended;
    coming = let c = subst (ComingIs g.coming stream feed.flight) e s.coming in record { all = c.all; last = c.last };
    way = record {
      place_is = s.place_is ∙ ap (λ o. flight_end (flight_from kn o) feed.flight) e;
      marks = s.marks;
      in_one_last = λ q. let z : false ≡ true = q in cc;
      taken_one = s.taken_one;
      none_left = s.none_left;
      not_in_one = λ q. refl;
      in_flight = s.in_flight;
    };
  }

  -- the first snapshot on its way that begins
  pub stream_marked : (x : ℕ × List Change) (more : List (ℕ × List Change)) (in_one : Bool) → kn.coming ≡ Some [] → feed.flight ≡ x ∷ more → kn.position.at < x.0 → last_seq kn.position.at x.1 ≡ x.0
      → StreamAgrees o vb g stream pv leader feed kn in_one h → StreamAgrees o vb (past_mark g) stream pv leader (record feed { flight = more }) (marked_by kn feed (x ∷ more)) true h
  stream_marked x more in_one e f above ends s = record {
    put = s.put;
    opens = s.opens;
    given_in = s.given_in;
    all_taken = λ q. let none : feed.flight ≡ [] = (s.all_taken q).0 in cc;
    over_ended = s.over_ended;
    coming = marker_comes g.coming stream x more (subst (λ xs. ComingIs g.coming stream xs (Some [])) f (subst (ComingIs g.coming stream feed.flight) e s.coming));
    way = record {
      place_is = s.place_is ∙ ap (flight_end (flight_from kn kn.coming)) f ∙ sym (ap (λ n. flight_end n more) (from x.1 above ends));
      marks = ap (drop 1) (s.marks ∙ ap (flight_marks (marker_start in_one kn.position)) f);
      in_one_last = λ q. ends;
      taken_one = λ q. true_from_ne_false (is_some g.last) (λ none. let z : feed.flight ≡ [] = s.none_left none in cc);
      none_left = λ q. let none : feed.flight ≡ [] = s.none_left q in cc;
      not_in_one = λ q. let z : true ≡ false = q in cc;
      in_flight = λ q. let z : true ≡ false = q in cc;
    };
  }
    where
      from : (xs : List Change) → kn.position.at < x.0 → last_seq kn.position.at xs ≡ x.0 → flight_from (marked_by kn feed (x ∷ more)) (Some xs) ≡ x.0
      from [] a q = absurd (let same : kn.position.at ≡ x.0 = q in omega arith)
      from (y ∷ ys) a q = refl

  -- the next change
  pub stream_received : (c : Change) (later : List Change) → kn.coming ≡ Some (c ∷ later) → ((rest : List ItemLine) × (g.coming ≡ item_of_change c ∷ rest) × (map item_of_change (later ++ flight_items feed.flight) ≡ rest ++ map item_of_change (drop stream.next stream.items)))
      → StreamAgrees o vb g stream pv leader feed kn true h → StreamAgrees o vb (past_next g) stream pv leader feed (received kn (Some (c ∷ later))) true h
  stream_received c later e next s =
      let ends : last_seq c.seq later ≡ kn.position.se = sym (ap (λ o. last_seq kn.position.at (coming_items o)) e) ∙ s.in_one_last refl in
      record {
        put = s.put;
        opens = s.opens;
        given_in = s.given_in;
        all_taken = λ q. let none : c ∷ later ≡ [] = sym (ap coming_items e) ∙ (s.all_taken q).1 in cc;
        over_ended = s.over_ended;
        coming = taken_comes g.coming stream feed.flight c later (subst (ComingIs g.coming stream feed.flight) e s.coming) next;
        way = record {
          place_is = s.place_is ∙ ap (λ o. flight_end (flight_from kn o) feed.flight) e ∙ sym (ap (λ n. flight_end n feed.flight) (from later ends));
          marks = s.marks;
          in_one_last = λ q. ends;
          taken_one = s.taken_one;
          none_left = s.none_left;
          not_in_one = λ q. let z : true ≡ false = q in cc;
          in_flight = s.in_flight;
        };
      }
    where
      from : (xs : List Change) → last_seq c.seq xs ≡ kn.position.se → flight_from (received kn (Some (c ∷ later))) (Some xs) ≡ kn.position.se
      from [] q = q
      from (y ∷ ys) q = refl

-- a snapshot ends at a change of its history
covers_last : (xs h : List Change) (from end : ℕ) → Covers xs h from end → (c : Change) × IsIn c h × (c.seq ≡ end)
covers_last [] h from end covers = let same : from ≡ end = covers.reaches in absurd (omega (arith, covers.goes_on))
covers_last (x ∷ xs) h from end covers = subst (λ n. (c : Change) × IsIn c h × (c.seq ≡ n)) covers.reaches (last x xs (λ y i. covers.remains.of y i))
  where
    last : (y : Change) (ys : List Change) → ((z : Change) → IsIn z (y ∷ ys) → IsOf h z) → (c : Change) × IsIn c h × (c.seq ≡ last_seq y.seq ys)
    last y [] all = let (c, is, stands) = all y (inl refl) in (c, is, sym (ap (λ (z : Change). z.seq) (plain_stands y c stands)))
    last y (z ∷ zs) all = last z zs (λ q i. all q (inr i))

-- the frames of a consumer's feed: each change that comes fits its own, and each snapshot's end has room in its field
module _ (busy : Busy) (w : PlainWorld) (r : Chronicle) (c : Cluster) (k : ℕ) (feed : Feed) (a : AgreesIn busy w r c) (fed : (c.nodes k).link ≡ Some feed) where
  linked : Linked (ground c) (c.nodes k) (c.nodes k).coming (Some feed)
  linked = subst (Linked (ground c) (c.nodes k) (c.nodes k).coming) fed (a.sound.stands k).linked

  -- the next snapshot is whole, and its end has room in its field
  pub next_covers : (x : ℕ × List Change) (more : List (ℕ × List Change)) → feed.flight ≡ x ∷ more → Covers x.1 (hist c.tree feed.u) (flight_from (c.nodes k) (c.nodes k).coming) x.0 × (x.0 ≤ 2 ^ 48)
  next_covers x more e =
      let f : Flight (ground c) feed.u (flight_from (c.nodes k) (c.nodes k).coming) (x ∷ more) = subst (Flight (ground c) feed.u (flight_from (c.nodes k) (c.nodes k).coming)) e linked.1 in
      let (y, is, at) = covers_last x.1 (hist c.tree feed.u) (flight_from (c.nodes k) (c.nodes k).coming) x.0 f.0 in
      let most : y.seq ≤ 2 ^ 48 = (rises_in 0 top (hist c.tree feed.u) y (hist_rises top c.tree feed.u a.sound.grows) is).1 in (f.0, omega (arith, at))

  -- the next change is one of the branch, and fits its frame
  pub next_of : (x : Change) (xs : List Change) → (c.nodes k).coming ≡ Some (x ∷ xs) → IsOf (hist c.tree (c.nodes k).br) x
  next_of x xs e =
      let comes : Comes (ground c) (c.nodes k) (Some (x ∷ xs)) = subst (Comes (ground c) (c.nodes k)) e (a.sound.stands k).comes in
      ⊎_elim (λ q. let z : x ∷ xs ≡ [] = q in cc) (λ q. q.0.of x (inl refl)) comes.1

  pub next_fits : (x : Change) (xs : List Change) → (c.nodes k).coming ≡ Some (x ∷ xs) → ChangeFits x
  next_fits x xs e = fits_of (hist c.tree (c.nodes k).br) x (subst (All ChangeFits) (sym (a.hists (c.nodes k).br)) (a.fits (c.nodes k).br)) (next_of x xs e)

  -- what the lines tell of the consumer, and of the link and the stream that feed it
  module _ (n v l p at : ℕ) (g : Granted) (dialed : r.dial_of l ≡ Some (record { producer = p; node = n; vb = v })) (told : r.stream_of (Link l) v ≡ Some g) (front_is : stream_branch g ≡ feed.u)
      (last : last_seq 0 (r.held n v) ≡ at) (on : r.branch_at n v ≡ Some (stream_branch g)) where
    same_history : hist c.tree feed.u ≡ stream_history r g
    same_history = a.hists feed.u ∙ ap (hist r.tree) (sym front_is)

    -- a marker that is taken
    pub range_is_lawful : (start : ℕ) (x : ℕ × List Change) (more : List (ℕ × List Change)) → g.marks ≡ flight_marks start feed.flight → feed.flight ≡ x ∷ more → at < x.0 → LawfulRange r n v (min start at) x.0
    range_is_lawful start x more marks e above = record {
      ends = omega (arith, last, above);
      put = (
        l,
        g,
        (p, dialed, told, on),
        (start, flight_marks x.0 more, marks ∙ ap (flight_marks start) e, ap (min start) (sym last)),
        covers_last x.1 (stream_history r g) (flight_from (c.nodes k) (c.nodes k).coming) x.0 (subst (λ h. Covers x.1 h (flight_from (c.nodes k) (c.nodes k).coming) x.0) same_history (next_covers x more e).0),
      );
    }

    -- a change that is taken
    pub got_is_lawful : (x : Change) (xs : List Change) → (c.nodes k).coming ≡ Some (x ∷ xs) → at < x.seq → (later : List ItemLine) → g.coming ≡ item_of_change x ∷ later → LawfulGot r n v l x
    got_is_lawful x xs e above later next = record {
      above = omega (arith, last, above);
      put = (g, (p, dialed, told, on), subst (λ h. IsOf h x) (ap (hist c.tree) (subst (λ o. Linked (ground c) (c.nodes k) o (Some feed)) e linked).0 ∙ same_history) (next_of x xs e), (later, next));
    }

-- a state pending that is next and is taken: nothing was behind it
pub stream_pended : {o vb : ℕ} {g : Granted} {stream : PlainStream} {pv : Option Plain} {leader : Member} {feed : Feed} {kn : Member} {in_one : Bool} → feed.flight ≡ [] → coming_items kn.coming ≡ []
    → StreamAgrees o vb g stream pv leader feed kn in_one Handing.Offered → StreamAgrees o vb g stream pv leader feed kn in_one Handing.Pended
stream_pended none taken s = record {
  put = s.put;
  opens = λ e. let p = s.opens e in record { producer = p.producer; producer_is = p.producer_is; active = p.active; leads = p.leads; reached = p.reached; opened = p.opened };
  given_in = s.given_in;
  all_taken = λ q. (none, taken);
  over_ended = s.over_ended;
  coming = s.coming;
  way = s.way;
}
