-- what became of a call that opens something
use Rattle.std.specs.Prelude.{◌≡◌, ℕ, ⊤, Result, Ok, Err}
use Rattle.std.specs.declared.alloc.AllocError.{AllocError}
use Rattle.dcp_io.specs.Counts.{raised}
use Rattle.edge_io.specs.declared.Opened.{Opened}
use Rattle.edge_io.specs.declared.Opened.TheVariants as opened

-- where it was opened, this holds of it
abbrev pub IfOpened : {T : Type 0} → Opened T → (T → Type 0) → Type 0
IfOpened (opened.Is x) P = P x
IfOpened opened.NoMemory P = ⊤
IfOpened opened.Failed P = ⊤

-- What was made was opened, and memory was short where nothing was.
abbrev pub IsOpened : {T : Type 0} → Result T AllocError → Opened T → Type 0
IsOpened (Ok x) answer = answer ≡ opened.Is x
IsOpened (Err error) answer = answer ≡ opened.NoMemory

-- A count of faults behind such a call: one more where it failed, and the same where it did not.
abbrev pub CountsFault : {T : Type 0} → ℕ → ℕ → Opened T → Type 0
CountsFault before now (opened.Is x) = now ≡ before
CountsFault before now opened.NoMemory = now ≡ before
CountsFault before now opened.Failed = now ≡ raised before 1
