-- which kinds of answers each verb may get, what it may tell of arms, and how it meets a journal, to be judged by hand
use Rattle.std.specs.Prelude.{◌≢◌, ◌<◌, ◌≤◌, ℕ, Bool, true, false, List, [], ◌∷◌}
use Rattle.script_text.specs.declared.verb.Verb.{Verb}
use Rattle.vb_disk.specs.declared.fuse.Fuse.{Fuse}
use Rattle.vb_disk.specs.declared.fuse.Fuse.TheVariants.{Off, Stop, Fail}
use Rattle.vb_events.specs.declared.event.Answer.{Answer}
use Rattle.vb_events.specs.declared.event.Answer.TheVariants as answer
use Rattle.vb_events.specs.declared.event.Cause.TheVariants as cause
use Rattle.vb_events.specs.declared.event.Event.{Event}
use Rattle.vb_events.specs.declared.event.Event.TheVariants as event
use Rattle.vb_events.specs.declared.event.Why.{Why}
use Rattle.transcript_law.specs.BoundRows.{LawfulHere}
use Rattle.transcript_law.specs.Chronicles.{Chronicle, Taken, blank_disk, empty_chronicle, no_arm, known_batch}
use Rattle.transcript_law.specs.Journals.{within}

-- a line that counts nothing is answered by no number
pub record CountsNothing (chronicle : Chronicle) (line : Verb) : Type 0 where
  pub number : (n : ℕ) (lines : List Event) → LawfulHere chronicle line (lines, answer.Number n) → ⊥
  pub pulled : (n : ℕ) (why : Why) (lines : List Event) → LawfulHere chronicle line (lines, answer.Pulled n why) → ⊥

-- one that counts is not answered `ok`, and not as one that has frames put
pub record CountsOne (chronicle : Chronicle) (line : Verb) : Type 0 where
  pub ok : (lines : List Event) → LawfulHere chronicle line (lines, answer.Ok) → ⊥
  pub pulled : (n : ℕ) (why : Why) (lines : List Event) → LawfulHere chronicle line (lines, answer.Pulled n why) → ⊥

-- one that has frames put is answered by their count and why no more were put
pub record CountsFrames (chronicle : Chronicle) (line : Verb) : Type 0 where
  pub ok : (lines : List Event) → LawfulHere chronicle line (lines, answer.Ok) → ⊥
  pub number : (n : ℕ) (lines : List Event) → LawfulHere chronicle line (lines, answer.Number n) → ⊥

-- what was read when each vBucket has a batch on its way, a journal that is closed or not, and its node this arm
abbrev pub journal_under : Bool → Fuse → Chronicle
journal_under closed f = record empty_chronicle {
  disk_at = λ n v. record blank_disk { there = true; closed = closed; flushing = Taken (known_batch (within 1 1) []) };
  arm_at = λ n. record no_arm { fuse = f };
}

-- a line that appends a record is not answered `ok` where its journal is closed, or one of the four calls is hit; as closed where the journal is not; and as failed or stopped where no call is hit, or by an arm of the other kind
pub record MeetsJournal (line : Verb) : Type 0 where
  pub closed : (f : Fuse) (lines : List Event) → LawfulHere (journal_under true f) line (lines, answer.Ok) → ⊥
  pub opened : (f : Fuse) (lines : List Event) → LawfulHere (journal_under false f) line (lines, answer.No cause.Closed) → ⊥
  pub fails : (k : ℕ) (lines : List Event) → 0 < k → k ≤ 4 → LawfulHere (journal_under false (Fail k)) line (lines, answer.Ok) → ⊥
  pub stops : (k : ℕ) (lines : List Event) → 0 < k → k ≤ 4 → LawfulHere (journal_under false (Stop k)) line (lines, answer.Ok) → ⊥
  pub past_failure : (k : ℕ) (lines : List Event) → 4 < k → LawfulHere (journal_under false (Fail k)) line (lines, answer.No cause.Disk) → ⊥
  pub past_stop : (k : ℕ) (lines : List Event) → 4 < k → LawfulHere (journal_under false (Stop k)) line (lines, answer.No cause.Stopped) → ⊥
  pub failed : (k : ℕ) (lines : List Event) → LawfulHere (journal_under false (Stop k)) line (lines, answer.No cause.Disk) → ⊥
  pub stopped : (k : ℕ) (lines : List Event) → LawfulHere (journal_under false (Fail k)) line (lines, answer.No cause.Stopped) → ⊥
  pub unarmed : (lines : List Event) → LawfulHere (journal_under false Off) line (lines, answer.No cause.Disk) → ⊥
  pub unstopped : (lines : List Event) → LawfulHere (journal_under false Off) line (lines, answer.No cause.Stopped) → ⊥

-- a line that calls no disk tells of no call that failed, no stop and no rollback, and has neither answer, whatever arms the nodes have and whatever links were sent back
pub record FiresNothing (line : Verb) : Type 0 where
  pub disk : (chronicle : Chronicle) (lines : List Event) → LawfulHere chronicle line (lines, answer.No cause.Disk) → ⊥
  pub stopped : (chronicle : Chronicle) (lines : List Event) → LawfulHere chronicle line (lines, answer.No cause.Stopped) → ⊥
  pub call : (chronicle : Chronicle) (n : ℕ) (lines : List Event) (said : Answer) → LawfulHere chronicle line (event.CallFailed n ∷ lines, said) → ⊥
  pub stop : (chronicle : Chronicle) (n : ℕ) (lines : List Event) (said : Answer) → LawfulHere chronicle line (event.NodeStopped n ∷ lines, said) → ⊥
  pub back : (chronicle : Chronicle) (n v named to : ℕ) (lines : List Event) (said : Answer) → LawfulHere chronicle line (event.Rolled n v named to ∷ lines, said) → ⊥

-- one that calls a disk of the node n tells of the call that failed there, or of the stop, where its answer says so, whatever arms the nodes have
pub record FiresAt (n : ℕ) (line : Verb) : Type 0 where
  pub untold : (chronicle : Chronicle) → LawfulHere chronicle line ([], answer.No cause.Disk) → ⊥
  pub unstopped : (chronicle : Chronicle) → LawfulHere chronicle line ([], answer.No cause.Stopped) → ⊥
  pub elsewhere : (chronicle : Chronicle) (m : ℕ) (lines : List Event) → m ≢ n → LawfulHere chronicle line (event.CallFailed m ∷ lines, answer.No cause.Disk) → ⊥
  pub stopped_elsewhere : (chronicle : Chronicle) (m : ℕ) (lines : List Event) → m ≢ n → LawfulHere chronicle line (event.NodeStopped m ∷ lines, answer.No cause.Stopped) → ⊥
  pub ok : (chronicle : Chronicle) (m : ℕ) (lines : List Event) → LawfulHere chronicle line (event.CallFailed m ∷ lines, answer.Ok) → ⊥
