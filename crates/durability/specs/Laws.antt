-- what the definitions come to, in other words: members, majorities, order
use Rattle.std.specs.Prelude.{◌≡◌, ℕ, ◌≤◌, ◌+◌, List, [], ◌∷◌, length, Some, None, ◌⊎◌}
use Rattle.vb_types.specs.declared.change.Level.{Level}
use Rattle.vb_types.specs.declared.change.Level.TheVariants.{Majority, MajorityPersistActive, PersistMajority}
use Rattle.vb_types.specs.declared.change.Pend.{Pend}
use Rattle.durability.specs.declared.waiting.Waiting.{Waiting}
use Rattle.durability.specs.Chains.{Members, named, chain_length, majority}

-- one of the list
abbrev pub Waits : Waiting → List Waiting → Type 0
Waits w [] = ⊥
Waits w (v ∷ more) = (w ≡ v) ⊎ Waits w more

-- one of the list
abbrev pub HasOne : ℕ → List ℕ → Type 0
HasOne m [] = ⊥
HasOne m (x ∷ xs) = (m ≡ x) ⊎ HasOne m xs

-- no two are the same
abbrev pub Differ : List ℕ → Type 0
Differ [] = Unit {0}
Differ (x ∷ xs) = (HasOne x xs → ⊥) × Differ xs

-- P holds of each
abbrev pub Each : (ℕ → Type 0) → List ℕ → Type 0
Each P [] = Unit {0}
Each P (x ∷ xs) = P x × Each P xs

-- distinct members of the chain, each with P, that are a majority of it together with the active node
abbrev pub HasMajority : Members → (ℕ → Type 0) → Type 0
HasMajority others P = (holders : List ℕ) × Differ holders × Each (λ m. HasOne m (named others) × P m) holders × (majority (chain_length others) ≤ length holders + 1)

-- level 2 or 3
abbrev pub WantsSaved : Level → Type 0
WantsSaved Majority = ⊥
WantsSaved MajorityPersistActive = Unit {0}
WantsSaved PersistMajority = Unit {0}

-- one of the list
abbrev pub IsPending : Pend → List Pend → Type 0
IsPending e [] = ⊥
IsPending e (d ∷ more) = (e ≡ d) ⊎ IsPending e more

-- each pending level 3 prepare up to q is saved
abbrev pub ThirdsSaved : List Pend → ℕ → ℕ → Type 0
ThirdsSaved pending q saved = (e : Pend) → IsPending e pending → e.level ≡ PersistMajority → e.seq ≤ q → e.seq ≤ saved

-- a prepare's deadline is there, and not after the clock
abbrev pub IsLate : ℕ → Waiting → Type 0
IsLate clock w = (deadline : ℕ) × (w.deadline ≡ Some deadline) × (deadline ≤ clock)

-- one prepare of the seqno 5, of a key of one byte, that is to be committed again
abbrev pub at_level : Level → List Waiting
at_level level = record { key = 107 ∷ []; seq = 5; level = level; deadline = None; waiter = 0 } ∷ []
