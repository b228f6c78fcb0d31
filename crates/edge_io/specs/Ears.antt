-- what an accept does to an ear
use Rattle.std.specs.Prelude.{◌≡◌, ℕ, ◌⊎◌, List, [], ◌∷◌, Option, None, Some, refl}
use Rattle.std.specs.Coded.{Coded, code_by, coded×, coded_list, coded_ℕ}
use Rattle.dcp_io.specs.Counts.{raised}
use Rattle.dcp_io.specs.Memory.{FailsNext}
use Rattle.edge_io.specs.declared.Opened.{Opened}
use Rattle.edge_io.specs.declared.Opened.TheVariants as opened

-- The links that are to come, where an ear tells them: an accept gives the first of them, or leaves them all.
abbrev pub Accepts : {L : Type 0} → Option (List L) → Option (List L) → Opened L → Type 0
Accepts None now answer = now ≡ None
Accepts {L} (Some coming) now (opened.Is link) = (more : List L) × (coming ≡ link ∷ more) × (now ≡ Some more)
Accepts (Some coming) now opened.NoMemory = now ≡ Some coming
Accepts (Some coming) now opened.Failed = now ≡ Some coming

-- An ear in memory: the links that are to come, its calls so far, the calls that fail, and how many did.
pub record MemEar (L : Type 0) : Type 0 where
  pub coming : List L
  pub calls : ℕ
  pub fail : List ℕ
  pub faults : ℕ

-- as a tuple of its fields
abbrev pub ear_code : {L : Type 0} → Coded L → Coded (MemEar L)
ear_code {L} code =
    code_by (List L × (ℕ × (List ℕ × ℕ)))
    (coded× (coded_list code) (coded× coded_ℕ (coded× (coded_list coded_ℕ) coded_ℕ)))
    (λ e. (e.coming, (e.calls, (e.fail, e.faults)))) (λ p. record { coming = p.0; calls = p.1.0; fail = p.1.1.0; faults = p.1.1.1 }) (λ _. refl)

-- An accept in memory gives the first link; it fails at exactly the calls that are listed, and where no link is left.
abbrev pub MemAccepts : {L : Type 0} → MemEar L → MemEar L → Opened L → Type 0
MemAccepts {L} old new (opened.Is link) = ¬ FailsNext old.fail old.calls × ((more : List L) × (old.coming ≡ link ∷ more) × (new ≡ record old { coming = more; calls = raised old.calls 1 }))
MemAccepts old new opened.NoMemory = ⊥
MemAccepts old new opened.Failed = (FailsNext old.fail old.calls ⊎ (old.coming ≡ [])) × (new ≡ record old { calls = raised old.calls 1; faults = raised old.faults 1 })
