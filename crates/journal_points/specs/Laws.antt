-- what records tell, in other words
use Rattle.std.specs.Prelude.{◌≡◌, ℕ, ◌<◌, ◌≤◌, min, Bool, List, [], ◌∷◌, Some}
use Rattle.std.specs.List.{fold}
use Rattle.vb_types.specs.Histories.{upto, Rises, IsIn, Slot, last_of, plain}
use Rattle.vb_types.specs.Images.{applied, image_of, nothing}
use Rattle.vb_types.specs.declared.change.Act.TheVariants.{Remove, Commit, Abort}
use Rattle.vb_types.specs.declared.change.Change.{Change}
use Rattle.vb_types.specs.declared.doc.Doc.{Doc}
use Rattle.vb_types.specs.declared.journal.Batch.{Batch}
use Rattle.vb_types.specs.declared.journal.Record.{Record}
use Rattle.vb_types.specs.declared.journal.Record.TheVariants as noted
use Rattle.vb_types.specs.declared.role.LogEntry.{LogEntry}
use Rattle.vb_types.specs.declared.role.Role.{Role}
use Rattle.vb_types.specs.declared.role.Role.TheVariants.{Dead}
use Rattle.branch_model.specs.Journals.{roll_point, image_at}
use Rattle.branch_model.specs.Logs.{kept_to}
use Rattle.branch_model.specs.Snapshots.{Remains, Covers}
use Rattle.journal_points.specs.Points.{standing, saved, above}

-- what one more record makes of the state that a vBucket starts with
pub record RecordsTell : Type 0 where
  pub none : saved [] ≡ record { role = Dead; log = []; position = record { ss = 0; se = 0; at = 0 }; cas = 0; image = nothing }
  pub state : (js : List Record) (role : Role) (log : List LogEntry) → saved (noted.State role log ∷ js) ≡ record (saved js) { role = role; log = log }
  pub rows : (js : List Record) (b : Batch) → saved (noted.Rows b ∷ js) ≡ record { role = (saved js).role; log = b.log; position = b.position; cas = b.cas; image = fold applied (saved js).image b.items }
  pub roll : (js : List Record) (to : ℕ)
      → saved (noted.Roll to ∷ js) ≡ record { role = (saved js).role; log = kept_to to (saved js).log; position = record { ss = to; se = to; at = to }; cas = (saved js).cas; image = image_at js to }

-- behind a rollback nothing is found above the seqno that it went to
pub record RollsCut (js : List Record) (to n : ℕ) : Type 0 where
  pub point : roll_point (noted.Roll to ∷ js) n ≡ roll_point js (min n to)
  pub image : image_at (noted.Roll to ∷ js) n ≡ image_at js (min n to)

-- what has to come above `start` is sent: a whole snapshot where a change has the seqno `end`
pub record SentWhole (js : List Record) (start end : ℕ) : Type 0 where
  pub remains : Remains (above js start end) (standing js) start end
  pub covers : (c : Change) → start < end → IsIn c (standing js) → c.seq ≡ end → Covers (above js start end) (standing js) start end
  pub image : fold applied (image_of (upto (standing js) start)) (above js start end) ≡ image_of (upto (standing js) end)

-- where the seqnos of the changes that stand rise
abbrev pub SendsWhole : Type 0
SendsWhole = (js : List Record) (top start end : ℕ) → Rises 0 top (standing js) → start ≤ end → SentWhole js start end

-- c is the last change of a slot, of those that stand up to `end`
abbrev pub IsLast : Slot → List Record → ℕ → Change → Type 0
IsLast slot js end c = last_of slot (upto (standing js) end) ≡ Some c

-- what is sent: the last changes above `start`, a commit as its set or removal, and nothing else
pub record SendsLasts : Type 0 where
  pub needed : (js : List Record) (top start end : ℕ) (x : Change) → Rises 0 top (standing js) → IsIn x (above js start end)
      → (slot : Slot) × (c : Change) × IsLast slot js end c × (start < c.seq) × (x ≡ plain c)
  pub lasts : (js : List Record) (start end : ℕ) (slot : Slot) (c : Change) → IsLast slot js end c → start < c.seq → IsIn (plain c) (above js start end)
  pub removal : (js : List Record) (start end cas rev : ℕ) (c : Change) → IsLast (Slot.Committed c.key) js end c → start < c.seq → c.act ≡ Remove cas rev → IsIn c (above js start end)
  pub abort : (js : List Record) (start end number : ℕ) (c : Change) → IsLast (Slot.Pending c.key) js end c → start < c.seq → c.act ≡ Abort number → IsIn c (above js start end)
  pub commit : (js : List Record) (start end number : ℕ) (c : Change) (doc : Doc) (deleted : Bool) → IsIn c (above js start end) → c.act ≡ Commit number doc deleted → ⊥
