-- a vBucket that goes over to a consumer's, worked by hand
use Rattle.std.specs.Prelude.{◌≡◌, ℕ, Bool, false, true, map, List, [], ◌∷◌, Option, Some, None}
use Rattle.takeover.specs.declared.give_up.GiveStep.{GiveStep}
use Rattle.takeover.specs.declared.give_up.GiveStep.TheVariants as step
use Rattle.takeover.specs.declared.give_up.GiveUp.{GiveUp}
use Rattle.vb_types.specs.declared.role.Role.{Role}
use Rattle.vb_types.specs.declared.role.Role.TheVariants as role
use Rattle.vb_types.specs.declared.status.Status.TheVariants as status
use Rattle.vb_types.specs.declared.stream.Place.TheVariants as place
use Rattle.vb_events.specs.declared.event.Event.{Event}
use Rattle.vb_events.specs.declared.event.Event.TheVariants as event
use Rattle.vb_events.specs.declared.event.StreamName.TheVariants as name
use Rattle.vb_calls.specs.State.{quiet_reply}
use Rattle.vb_calls.specs.declared.calls.VbAnswer.{VbAnswer}
use Rattle.vb_calls.specs.declared.calls.VbAnswer.TheVariants as answer
use Rattle.vb_calls.specs.declared.calls.VbCall.{VbCall}
use Rattle.vb_calls.specs.declared.calls.VbCall.TheVariants as call
use Rattle.vb_calls.specs.declared.calls.VbReply.{VbReply}
use Rattle.vb_calls.specs.Jobs.{Job, Ended, Call, Request, lift}
use Rattle.vb_calls.specs.Shelves.{no_answer}
use Rattle.dcp_producer.specs.declared.halt.Halt.{Halt}
use Rattle.dcp_producer.specs.declared.halt.Halt.TheVariants as halt
use Rattle.dcp_producer.specs.declared.yields.Yielded.{Yielded}
use Rattle.dcp_producer.specs.Giving.{Yields, given_up}
use Rattle.dcp_producer.specs.Producers.{PlainStream, Served}
use Rattle.dcp_producer.specs.Rows.{end_line, item_of, pull, removal, with_streams}
use Rattle.dcp_producer.specs.Serving.{heard}

-- what a job comes to by these replies, one after the other, and where there is no journal; and the calls that it makes
abbrev pub by_these : {A : Type 0} → List (Option VbReply) → Job A → A
by_these replies (Ended a) = a
by_these replies (Request v ask next) = by_these replies (next (no_answer ask))
by_these [] (Call v call next) = by_these [] (next None)
by_these (reply ∷ replies) (Call v call next) = by_these replies (next reply)

abbrev pub calls_by : {A : Type 0} → List (Option VbReply) → Job A → List (ℕ × VbCall)
calls_by replies (Ended a) = []
calls_by replies (Request v ask next) = calls_by replies (next (no_answer ask))
calls_by [] (Call v call next) = (v, call) ∷ calls_by [] (next None)
calls_by (reply ∷ replies) (Call v call next) = (v, call) ∷ calls_by replies (next reply)

-- a vBucket says this
abbrev pub says : VbAnswer → Option VbReply
says a = Some (quiet_reply a)

-- it gives the changes above a seqno and up to another, removals of these seqnos, and behind them it has none
abbrev pub gives_then : ℕ → ℕ → List ℕ → List (Option VbReply)
gives_then start end seqs =
    says (answer.Placed place.Memory) ∷ says (answer.Taken (record { start = start; end = end; disk = false; items = map removal seqs }))
    ∷ says (answer.Placed place.Memory) ∷ says answer.Nothing ∷ []

-- a stream of the vBucket 3, with the opaque 9 and the requested end 0, that gives it up and is in this step, with removals of these seqnos to put, which a change of role ended or did not end
abbrev pub moving : GiveStep → List ℕ → Bool → PlainStream
moving s seqs ended = record { id = 7; vb = 3; opaque = 9; until = 0; first = record { start = 0; as_sets = false }; sync = true; place = 0; unread = None; items = map removal seqs; next = 0; marked = None; reached = 0; ended = ended; gives = Some (record { step = s }) }

-- a pull of nine frames of it, and that its vBucket is given up in front of one of so many
abbrev pub pulled : PlainStream → Job (Served × Halt)
pulled stream = pull 9 (with_streams (stream ∷ []) 0)

abbrev pub yielded : ℕ → PlainStream → Job Yields
yielded frames stream = lift (given_up frames (with_streams (stream ∷ []) 0))

-- by these replies a pull told these lines, counted so many frames, said why it put no more, and made these calls; and its streams are in these steps then
pub record Pulls (stream : PlainStream) (replies : List (Option VbReply)) (lines : List Event) (count : ℕ × Halt) (calls : List (ℕ × VbCall)) (steps : List (Option GiveUp)) : Type 0 where
  pub told : (by_these replies (pulled stream)).0.events ≡ lines
  pub why : ((by_these replies (pulled stream)).0.count, (by_these replies (pulled stream)).1) ≡ count
  pub made : calls_by replies (pulled stream) ≡ calls
  pub left : map (λ s. s.gives) (by_these replies (pulled stream)).0.end.streams ≡ steps

-- in front of one of so many frames these calls were made, and these streams were left and these vBuckets told
pub record Gives (frames : ℕ) (stream : PlainStream) (replies : List (Option VbReply)) (calls : List (ℕ × VbCall)) (streams : List PlainStream) (told : List Yielded) : Type 0 where
  pub made : calls_by replies (yielded frames stream) ≡ calls
  pub left : (by_these replies (yielded frames stream)).end.streams ≡ streams
  pub given : (by_these replies (yielded frames stream)).yielded ≡ told

abbrev pub in_step : GiveStep → List (Option GiveUp)
in_step s = Some (record { step = s }) ∷ []

abbrev pub state_line : Role → Event
state_line told = event.Stated (name.Link 1) told

abbrev pub mark_line : ℕ → ℕ → Event
mark_line start end = event.Marked (name.Link 1) start end 1

-- All up to the last change, whatever end was asked for, and then pending, behind which nothing goes; its answer; the vBucket is given up, and what that tells is told; the rest, and then active; its answer; and the end, for which the stream is closed. Where the answer did not come yet, or has another opaque, where no frame is asked for, an item is not put yet or a change of role ended the stream, the vBucket is not given up; where it refuses that, the stream is ended; and a change of role at the end makes it end 2.
pub record TakesOverInRows : Type 0 where
  pub all : Pulls (moving step.SendAll [] false) (gives_then 0 2 (1 ∷ 2 ∷ [])) (mark_line 0 2 ∷ item_of 1 ∷ item_of 2 ∷ state_line role.Pending ∷ []) (4, halt.WaitState)
      ((3, call.Place 7) ∷ (3, call.Take 7) ∷ (3, call.Place 7) ∷ (3, call.Take 7) ∷ []) (in_step step.AwaitPending)
  pub saved : Pulls (moving step.SendAll [] false) (says (answer.Placed place.WaitSaved) ∷ []) [] (0, halt.WaitSaved) ((3, call.Place 7) ∷ []) (in_step step.SendAll)
  pub waits : Pulls (moving step.AwaitPending [] false) [] [] (0, halt.WaitState) [] (in_step step.AwaitPending)
  pub early : Gives 9 (moving step.AwaitPending [] false) [] [] (moving step.AwaitPending [] false ∷ []) []
  pub pending_heard : heard 9 (moving step.AwaitPending [] false) ≡ moving step.Yield [] false
  pub other_opaque : heard 8 (moving step.AwaitPending [] false) ≡ moving step.AwaitPending [] false
  pub none_awaited : heard 9 (moving step.SendAll [] false) ≡ moving step.SendAll [] false
  pub unpulled : Pulls (moving step.Yield [] false) [] [] (0, halt.WaitState) [] (in_step step.Yield)
  pub given : Gives 1 (moving step.Yield [] false) (Some (record (quiet_reply answer.Done) { ended = 5 ∷ [] }) ∷ []) ((3, call.Yield 7) ∷ [])
      (moving step.SendRest [] false ∷ []) (record { vb = 3; ended = 5 ∷ []; resolved = [] } ∷ [])
  pub unasked : Gives 0 (moving step.Yield [] false) [] [] (moving step.Yield [] false ∷ []) []
  pub unsent : Gives 9 (moving step.Yield (8 ∷ []) false) [] [] (moving step.Yield (8 ∷ []) false ∷ []) []
  pub ended : Gives 9 (moving step.Yield [] true) [] [] (moving step.Yield [] true ∷ []) []
  pub refused : Gives 9 (moving step.Yield [] false) (says (answer.Status status.NotMyVbucket) ∷ []) ((3, call.Yield 7) ∷ []) (moving step.Yield [] true ∷ []) []
  pub rest : Pulls (record (moving step.SendRest [] false) { marked = Some 2 }) (gives_then 2 3 (3 ∷ [])) (mark_line 2 3 ∷ item_of 3 ∷ state_line role.Active ∷ []) (3, halt.WaitState)
      ((3, call.Place 7) ∷ (3, call.Take 7) ∷ (3, call.Place 7) ∷ (3, call.Take 7) ∷ []) (in_step step.AwaitActive)
  pub active_heard : heard 9 (moving step.AwaitActive [] false) ≡ moving step.End [] false
  pub over : Pulls (moving step.End [] false) [] (end_line 0 ∷ []) (1, halt.Idle) ((3, call.CloseStream 7) ∷ []) []
  pub role_changed : Pulls (moving step.End [] true) [] (end_line 2 ∷ []) (1, halt.Idle) [] []
