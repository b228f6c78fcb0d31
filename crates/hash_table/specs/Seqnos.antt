-- seqnos of prepares that wait, in order, and which of them is found
use Rattle.std.specs.Prelude.{◌≡◌, ℕ, ◌<◌, ◌≤◌, Bool, true, false, ◌&&◌, nat_eq, List, [], ◌∷◌, Option, Some, None}
use Rattle.std.specs.FinMap as map
use Rattle.std.specs.List.{count_by}
use Rattle.vb_types.specs.declared.change.Level.TheVariants.{PersistMajority}
use Rattle.vb_types.specs.declared.change.Pend.{Pend}
use Rattle.vb_types.specs.Keys.{key_cmp}

-- seqnos that do not fall, and for how many more there is room
pub record Ranked : Type 0 where
  pub list : List ℕ
  pub room : ℕ

-- one number, if it counts
abbrev pub one_if : Bool → ℕ → List ℕ
one_if true q = q ∷ []
one_if false q = []

-- the seqnos of those prepares that pass the test, each as often as one with it waits
abbrev pub AreSeqnos : (Pend → Bool) → map.FinMap key_cmp Pend → List ℕ → Type 0
AreSeqnos test pending seqs = (q : ℕ) → count_by (nat_eq q) seqs ≡ count_by (λ e. test e.1 && nat_eq q e.1.seq) (map.entries pending)

-- a prepare of this seqno waits
abbrev pub WaitsAt : map.FinMap key_cmp Pend → ℕ → Type 0
WaitsAt pending q = (key : List ℕ) × (pend : Pend) × (map.get pending key ≡ Some pend) × (pend.seq ≡ q)

-- one of level 3 does
abbrev pub ThirdWaitsAt : map.FinMap key_cmp Pend → ℕ → Type 0
ThirdWaitsAt pending q = (key : List ℕ) × (pend : Pend) × (map.get pending key ≡ Some pend) × (pend.level ≡ PersistMajority) × (pend.seq ≡ q)

-- the greatest number with P that is at most a bound, or there is none
abbrev pub IsLastUpTo : (ℕ → Type 0) → ℕ → Option ℕ → Type 0
IsLastUpTo P upto None = (q : ℕ) → P q → upto < q
IsLastUpTo P upto (Some last) = P last × (last ≤ upto) × ((q : ℕ) → P q → q ≤ upto → q ≤ last)

-- the lowest number with P that is above a bound, or there is none
abbrev pub IsFirstAbove : (ℕ → Type 0) → ℕ → Option ℕ → Type 0
IsFirstAbove P above None = (q : ℕ) → P q → q ≤ above
IsFirstAbove P above (Some first) = P first × (above < first) × ((q : ℕ) → P q → above < q → first ≤ q)
