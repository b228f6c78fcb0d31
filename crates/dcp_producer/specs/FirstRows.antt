-- the first snapshot of a stream, worked by hand
use Rattle.std.specs.Prelude.{ℕ, ◌≡◌, Bool, true, false, List, [], ◌∷◌, Option, Some, None}
use Rattle.vb_types.specs.declared.change.Act.TheVariants as act
use Rattle.vb_types.specs.declared.stream.Place.TheVariants as place
use Rattle.vb_types.specs.declared.stream.StreamAsk.{StreamAsk}
use Rattle.vb_events.specs.declared.event.Event.{Event}
use Rattle.vb_events.specs.declared.event.Event.TheVariants as event
use Rattle.vb_events.specs.declared.event.ItemAct.TheVariants as item_act
use Rattle.vb_events.specs.declared.event.StreamName.TheVariants as name
use Rattle.vb_calls.specs.declared.calls.VbAnswer.TheVariants as answer
use Rattle.vb_calls.specs.declared.calls.VbReply.{VbReply}
use Rattle.dcp_producer.specs.Firsts.{first_of}
use Rattle.dcp_producer.specs.Moves.{by_these, mark_line, pulled, says}
use Rattle.dcp_producer.specs.Producers.{PlainStream}

-- a request from a seqno in the snapshot above 2 and up to 9
abbrev pub asked_at : ℕ → StreamAsk
asked_at start = record { flags = 0; start = start; end = 99; uuid = 11; ss = 2; se = 9 }

-- its stream, behind markers up to this one, if any
abbrev pub asked_stream : ℕ → Option ℕ → PlainStream
asked_stream start marked = record { id = 7; vb = 3; opaque = 9; until = 99; first = first_of (asked_at start); sync = true; place = start; unread = None; items = []; next = 0; marked = marked; reached = start; ended = false; gives = None }

-- its vBucket gives the commit 9 of the key `a`, of a document or of a removal, from the place 5, and then nothing
abbrev pub gives_commit : Bool → List (Option VbReply)
gives_commit deleted = says (answer.Placed place.Memory) ∷ says (answer.Taken (record { start = 5; end = 9; disk = false; items = record { seq = 9; key = 97 ∷ []; act = act.Commit 4 (record { value = 120 ∷ []; cas = 50; rev = 1; flags = 0; expiry = 0; datatype = 0 }) deleted } ∷ [] })) ∷ says (answer.Placed place.Memory) ∷ says answer.Nothing ∷ []

-- the lines of a pull of it
abbrev pub told_of : ℕ → Option ℕ → Bool → List Event
told_of start marked deleted = (by_these (gives_commit deleted) (pulled (asked_stream start marked))).0.events

-- Inside its snapshot a request means the snapshot's start, and commits are sets and removals behind the first marker; at either end it means its own start, and a commit is one. Behind another marker START is its vBucket's, and a commit is one, wherever the request started.
pub record FirstsInRows : Type 0 where
  pub inside : first_of (asked_at 5) ≡ record { start = 2; as_sets = true }
  pub at_start : first_of (asked_at 2) ≡ record { start = 2; as_sets = false }
  pub at_end : first_of (asked_at 9) ≡ record { start = 9; as_sets = false }
  pub set : told_of 5 None false ≡ mark_line 2 9 ∷ event.Item (name.Link 1) 9 item_act.Set (97 ∷ []) ∷ []
  pub removal : told_of 5 None true ≡ mark_line 2 9 ∷ event.Item (name.Link 1) 9 item_act.Remove (97 ∷ []) ∷ []
  pub commit : told_of 2 None false ≡ mark_line 2 9 ∷ event.Item (name.Link 1) 9 item_act.Commit (97 ∷ []) ∷ []
  pub later : told_of 5 (Some 5) false ≡ mark_line 5 9 ∷ event.Item (name.Link 1) 9 item_act.Commit (97 ∷ []) ∷ []
