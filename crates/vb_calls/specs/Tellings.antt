-- what the tables of calls come to where no layer would notice: which calls take no memory, what some are answered at all, and how records that were read are listed
use Rattle.std.specs.Prelude.{◌≡◌, ◌≢◌, ◌⊎◌, ◌≤◌, ℕ, Bool, List, [], ◌∷◌, length, Ok, Err}
use Rattle.vb_journal.specs.declared.fault.AppendFault.TheVariants as fault
use Rattle.vb_types.specs.declared.journal.Record.TheVariants as noted
use Rattle.vb_types.specs.declared.status.Status.{Status}
use Rattle.vb_types.specs.declared.role.LogEntry.{LogEntry}
use Rattle.vb_types.specs.declared.stream.AskAnswer.{AskAnswer}
use Rattle.vb_types.specs.declared.stream.AskAnswer.TheVariants as asked
use Rattle.vb_types.specs.declared.stream.Place.{Place}
use Rattle.vb_types.specs.declared.stream.StreamAsk.{StreamAsk}
use Rattle.vb_calls.specs.Forms.{HasForm, TakesMemory}
use Rattle.vb_calls.specs.Shelves.{Book, Broken, Shut, Unread, reading_by}
use Rattle.vb_calls.specs.declared.calls.VbAnswer.{VbAnswer}
use Rattle.vb_calls.specs.declared.calls.VbAnswer.TheVariants as answer
use Rattle.vb_calls.specs.declared.calls.VbCall.TheVariants as call

-- A stream is closed, its cursor goes and spans are given up without memory; and what a follower asks for, what is due and the numbers of a vBucket are told without any.
pub record TakeNoMemory : Type 0 where
  pub closes : (id : ℕ) → TakesMemory (call.CloseStream id) → ⊥
  pub drops : (id : ℕ) → TakesMemory (call.DropCursor id) → ⊥
  pub trims : TakesMemory call.Trim → ⊥
  pub asks : TakesMemory call.Ask → ⊥
  pub dues : TakesMemory call.Due → ⊥
  pub counts : TakesMemory call.Stat → ⊥

-- a flag, and nothing else
abbrev pub IsFlag : VbAnswer → Type 0
IsFlag a = (flag : Bool) × (a ≡ answer.Flag flag)

-- what is due with what is saved, or a status
abbrev pub IsDues : VbAnswer → Type 0
IsDues a = ((seq : ℕ) × (saved : ℕ) × (a ≡ answer.Dues seq saved)) ⊎ ((st : Status) × (a ≡ answer.Status st))

-- a stream is opened, under a number that is not 0, or none is, and its request is not let through; and a log comes with it, of 25 entries at most
abbrev pub IsOpening : ℕ → VbAnswer → Type 0
IsOpening id a =
    ((log : List LogEntry) × (high : ℕ) × (from : Place) × (a ≡ answer.Opened log high from) × (id ≢ 0) × (length log ≤ 25))
    ⊎ ((said : AskAnswer) × (log : List LogEntry) × (high : ℕ) × (a ≡ answer.Asked said log high) × (said ≢ asked.Go) × (length log ≤ 25))

-- What is closed, dropped or sealed is told by a flag, what is given up by a number, and what is due with what is saved, or refused; a request for a stream by what opens one or what does not; and by no other answer.
pub record AreAnsweredSo : Type 0 where
  pub closes : (id : ℕ) (a : VbAnswer) → HasForm (call.CloseStream id) a → IsFlag a
  pub drops : (id : ℕ) (a : VbAnswer) → HasForm (call.DropCursor id) a → IsFlag a
  pub seals : (a : VbAnswer) → HasForm call.Seal a → IsFlag a
  pub trims : (a : VbAnswer) → HasForm call.Trim a → (removed : ℕ) × (a ≡ answer.Num removed)
  pub dues : (a : VbAnswer) → HasForm call.Due a → IsDues a
  pub opens : (id : ℕ) (ask : StreamAsk) (sync : Bool) (a : VbAnswer) → HasForm (call.OpenStream id ask sync) a → IsOpening id a

-- Records come in the order in which they were appended, and a book has the last first; each fault is told as itself.
pub record AreReadSo : Type 0 where
  pub order : reading_by (Ok (noted.Roll 1 ∷ noted.Roll 2 ∷ noted.Roll 3 ∷ [])) ≡ Book (noted.Roll 3 ∷ noted.Roll 2 ∷ noted.Roll 1 ∷ [])
  pub none : reading_by (Ok []) ≡ Book []
  pub closed : reading_by (Err fault.Closed) ≡ Shut
  pub failed : reading_by (Err fault.DiskFailed) ≡ Unread
  pub damaged : reading_by (Err (fault.Damaged 25)) ≡ Broken 25
