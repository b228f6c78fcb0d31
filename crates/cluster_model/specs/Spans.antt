-- a history cut into spans, each of which keeps the last change of each key
use Rattle.std.specs.Prelude.{◌≡◌, ℕ, ◌<◌, ◌≤◌, nat_lt, Bool, true, false, List, [], ◌∷◌, ◌⊎◌}
use Rattle.std.specs.List.{filter, flat_map}
use Rattle.vb_types.specs.declared.change.Act.{Act}
use Rattle.vb_types.specs.declared.change.Act.TheVariants.{Set, Remove, Prepare, Commit, Abort}
use Rattle.vb_types.specs.declared.change.Change.{Change}
use Rattle.vb_types.specs.Histories.{Rises, IsIn, Slot, last_of}
use Rattle.branch_model.specs.Snapshots.{has_seq}

-- a set or a removal: what may replace another one in a span
abbrev pub is_write : Act → Bool
is_write (Set doc) = true
is_write (Remove cas rev) = true
is_write (Prepare level doc deleted) = false
is_write (Commit prepared doc deleted) = false
is_write (Abort prepared) = false

-- what a span keeps: the last change of each key (every change touches its key's pending slot)
abbrev pub kept : List Change → List Change
kept w = filter (λ c. has_seq c.seq (last_of (Slot.Pending c.key) w)) w

-- a later change of the same key stands in one span with an earlier one only where it is a write
abbrev pub Tidy : List Change → Type 0
Tidy w = (c d : Change) → IsIn c w → IsIn d w → c.key ≡ d.key → c.seq < d.seq → is_write d.act ≡ true

-- each of them is
abbrev pub AllTidy : List (List Change) → Type 0
AllTidy [] = Unit {0}
AllTidy (w ∷ ws) = Tidy w × AllTidy ws

-- in one of the spans
abbrev pub InSpans : Change → List (List Change) → Type 0
InSpans c [] = ⊥
InSpans c (w ∷ ws) = IsIn c w ⊎ InSpans c ws

-- what a take from the place `from` gives
abbrev pub taken : List (List Change) → ℕ → List Change
taken ws from = filter (λ c. nat_lt from c.seq) (flat_map kept ws)

-- the spans hold all changes of h above from and up to end, and no others above it
pub record Holds (ws : List (List Change)) (h : List Change) (from end : ℕ) : Type 0 where
  pub tidy : AllTidy ws
  pub each : (c : Change) → InSpans c ws → IsIn c h × (c.seq ≤ end)
  pub all : (c : Change) → IsIn c h → from < c.seq → c.seq ≤ end → InSpans c ws

-- spans one after another, up to end
abbrev pub InTurn : ℕ → ℕ → List (List Change) → Type 0
InTurn a end [] = a ≤ end
InTurn a end (w ∷ ws) = (b : ℕ) × Rises a b w × InTurn b end ws
