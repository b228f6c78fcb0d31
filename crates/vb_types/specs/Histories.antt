-- lists of changes: a front of one, the slots that a change touches, the last change of a slot
use Rattle.std.specs.Prelude.{◌≡◌, ℕ, ◌<◌, ◌≤◌, Bool, true, false, if◌then◌else◌, nat_le, ◌&&◌, List, [], ◌∷◌, Option, Some, None, ◌⊎◌}
use Rattle.std.specs.List.{filter}
use Rattle.std.specs.Option.{option_or}
use Rattle.std.specs.Str.{bytes_eq}
use Rattle.vb_types.specs.declared.change.Act.{Act}
use Rattle.vb_types.specs.declared.change.Act.TheVariants.{Set, Remove, Prepare, Commit, Abort}
use Rattle.vb_types.specs.declared.change.Change.{Change}

-- the changes of h with a seqno of at most n
abbrev pub upto : List Change → ℕ → List Change
upto h n = filter (λ c. nat_le c.seq n) h

-- the seqnos rise, above `low` and up to `high`
abbrev pub Rises : ℕ → ℕ → List Change → Type 0
Rises low high [] = low ≤ high
Rises low high (c ∷ cs) = (low < c.seq) × Rises c.seq high cs

-- one of the list
abbrev pub IsIn : Change → List Change → Type 0
IsIn c [] = ⊥
IsIn c (d ∷ ds) = (c ≡ d) ⊎ IsIn c ds

-- a key has two slots: its document, and the prepare that waits
pub data Slot : Type 0 where
  Committed : (key : List ℕ) → Slot
  Pending : (key : List ℕ) → Slot

-- a set, a removal or a commit
abbrev pub is_visible : Act → Bool
is_visible (Set doc) = true
is_visible (Remove cas rev) = true
is_visible (Prepare level doc deleted) = false
is_visible (Commit prepared doc deleted) = true
is_visible (Abort prepared) = false

-- every change touches its key's pending slot, and a visible one the committed slot too
abbrev pub touches : Slot → Change → Bool
touches (Committed key) c = bytes_eq c.key key && is_visible c.act
touches (Pending key) c = bytes_eq c.key key

-- the last change that passes
abbrev pub last_by : (Change → Bool) → List Change → Option Change
last_by test [] = None
last_by test (c ∷ cs) = option_or (last_by test cs) (if test c then Some c else None)

-- the last change of a slot
abbrev pub last_of : Slot → List Change → Option Change
last_of slot h = last_by (touches slot) h

-- a commit as the set or removal of its document
abbrev pub plain_act : Act → Act
plain_act (Set doc) = Set doc
plain_act (Remove cas rev) = Remove cas rev
plain_act (Prepare level doc deleted) = Prepare level doc deleted
plain_act (Commit prepared doc deleted) = if deleted then Remove doc.cas doc.rev else Set doc
plain_act (Abort prepared) = Abort prepared

-- a change with a commit written as the set or removal of its document
abbrev pub plain : Change → Change
plain c = record { seq = c.seq; key = c.key; act = plain_act c.act }
