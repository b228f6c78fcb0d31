-- when a majority of a vBucket's chain holds a prepare, by what the lines tell
use Rattle.std.specs.Prelude.{◌≡◌, ℕ, ◌+◌, ◌*◌, ◌<◌, ◌≤◌, ◌⊎◌, List, [], ◌∷◌, length}
use Rattle.vb_types.specs.declared.change.Level.{Level}
use Rattle.durability.specs.Chains.{named}
use Rattle.durability.specs.Laws.{Differ, Each, HasOne, WantsSaved}
use Rattle.transcript_law.specs.LinesTold.{CountsKnown}

-- the node m acknowledged all up to p, by one of these
abbrev pub HasAcknowledged : List (ℕ × ℕ) → ℕ → ℕ → Type 0
HasAcknowledged [] m p = ⊥
HasAcknowledged (a ∷ earlier) m p = ((m ≡ a.0) × (p ≤ a.1)) ⊎ HasAcknowledged earlier m p

-- some nodes of the chain, no two the same, acknowledged all up to p. With the active node, which counts itself, they are more than half of the chain, whose unset members count. And at levels 2 and 3 the active node saved it
pub record IsHeldByMost (counts : CountsKnown) (saved p : ℕ) (level : Level) : Type 0 where
  pub members : List ℕ
  pub differ : Differ members
  pub each : Each (λ m. HasOne m (named counts.chain) × HasAcknowledged counts.acks m p) members
  pub most : 1 + length counts.chain < 2 * (1 + length members)
  pub saved_for : WantsSaved level → p ≤ saved
