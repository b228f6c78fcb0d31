-- what a line that is refused may not tell, by its cause, and markers out of turn, to be judged by hand
use Rattle.std.specs.Prelude.{ℕ, List, [], ◌∷◌}
use Rattle.script_text.specs.declared.verb.Verb.{Verb}
use Rattle.vb_events.specs.declared.event.Answer.TheVariants as answer
use Rattle.vb_events.specs.declared.event.Cause.{Cause}
use Rattle.vb_events.specs.declared.event.Cause.TheVariants as cause
use Rattle.vb_events.specs.declared.event.Event.{Event}
use Rattle.vb_events.specs.declared.event.Event.TheVariants as event
use Rattle.transcript_law.specs.BoundRows.{LawfulHere}
use Rattle.transcript_law.specs.Chronicles.{Chronicle}
use Rattle.transcript_law.specs.Contrary.{sent_known}
use Rattle.transcript_law.specs.Followers.{first_item_line, marker_line, next_item_line}

-- whatever was read before, a line that is refused for this cause tells of nothing
abbrev pub TellsNothing : Cause → Type 0
TellsNothing why = (chronicle : Chronicle) (line : Verb) (first : Event) (lines : List Event) → LawfulHere chronicle line (first ∷ lines, answer.No why) → ⊥

-- a line that may call a disk of its node, and is refused for one of the causes that say how that went, tells of that alone: where the journal was closed, of no call that failed and of no stop; where a call failed, of one, and of no stop; and where the node stopped, of one stop, and of no call that failed
pub record TellsItsCause (line : Verb) : Type 0 where
  pub closed_failed : (chronicle : Chronicle) (n : ℕ) (lines : List Event) → LawfulHere chronicle line (event.CallFailed n ∷ lines, answer.No cause.Closed) → ⊥
  pub closed_stopped : (chronicle : Chronicle) (n : ℕ) (lines : List Event) → LawfulHere chronicle line (event.NodeStopped n ∷ lines, answer.No cause.Closed) → ⊥
  pub failed_stopped : (chronicle : Chronicle) (n : ℕ) (lines : List Event) → LawfulHere chronicle line (event.NodeStopped n ∷ lines, answer.No cause.Disk) → ⊥
  pub failed_twice : (chronicle : Chronicle) (n m : ℕ) (lines : List Event) → LawfulHere chronicle line (event.CallFailed n ∷ event.CallFailed m ∷ lines, answer.No cause.Disk) → ⊥
  pub stopped_by_failure : (chronicle : Chronicle) (n : ℕ) (lines : List Event) → LawfulHere chronicle line (event.CallFailed n ∷ lines, answer.No cause.Stopped) → ⊥
  pub stopped_twice : (chronicle : Chronicle) (n m : ℕ) (lines : List Event) → LawfulHere chronicle line (event.NodeStopped n ∷ event.NodeStopped m ∷ lines, answer.No cause.Stopped) → ⊥

-- a rollback beside them is told by none of these
pub record TellsNoRollback (line : Verb) : Type 0 where
  pub closed : (chronicle : Chronicle) (n v named to : ℕ) (lines : List Event) → LawfulHere chronicle line (event.Rolled n v named to ∷ lines, answer.No cause.Closed) → ⊥
  pub failed : (chronicle : Chronicle) (n v named to : ℕ) (lines : List Event) → LawfulHere chronicle line (event.Rolled n v named to ∷ lines, answer.No cause.Disk) → ⊥
  pub stopped : (chronicle : Chronicle) (n v named to : ℕ) (lines : List Event) → LawfulHere chronicle line (event.Rolled n v named to ∷ lines, answer.No cause.Stopped) → ⊥

-- what was read when a replica was sent both changes, each in a snapshot of its own, and took neither marker
abbrev pub two_marks : Chronicle
two_marks = sent_known (marker_line 0 1 ∷ first_item_line ∷ marker_line 1 2 ∷ next_item_line ∷ [])
