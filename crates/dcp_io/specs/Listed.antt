-- calls that were chosen to fail, said call by call and in rows of numbers
use Rattle.std.specs.Prelude.{◌≡◌, ◌≢◌, ◌+◌, ◌<◌, ℕ, List, [], ◌∷◌, ◌++◌, length}
use Rattle.std.specs.List.{Contains}
use Rattle.dcp_io.specs.Memory.{MemIntake, MemOutlet, MemTakes, MemPuts}
use Rattle.dcp_io.specs.declared.Took.{Took}
use Rattle.dcp_io.specs.declared.Took.TheVariants as took
use Rattle.dcp_io.specs.declared.Put.{Put}
use Rattle.dcp_io.specs.declared.Put.TheVariants as put

-- A take whose number is listed fails, takes nothing and adds one to the count; any other does not fail and leaves the count. The number is that of the calls before, of either answer, and one.
pub record TakesAreListed (old new : MemIntake) (room : List ℕ) (answer : Took) : Type 0 where
  pub called : old.calls < 18446744073709551615 → new.calls ≡ old.calls + 1
  pub listed : old.calls < 18446744073709551615 → Contains old.fail (old.calls + 1) → (answer ≡ took.Failed) × (new.left ≡ old.left) × (new.taken ≡ old.taken)
  pub counted : answer ≡ took.Failed → old.faults < 18446744073709551615 → new.faults ≡ old.faults + 1
  pub others : old.calls < 18446744073709551615 → ¬ Contains old.fail (old.calls + 1) → (answer ≢ took.Failed) × (new.faults ≡ old.faults)
  pub none : old.fail ≡ [] → answer ≢ took.Failed
  pub kept : new.fail ≡ old.fail

-- A put, likewise: one that is listed appends nothing.
pub record PutsAreListed (old new : MemOutlet) (bytes : List ℕ) (answer : Put) : Type 0 where
  pub called : old.calls < 18446744073709551615 → new.calls ≡ old.calls + 1
  pub listed : old.calls < 18446744073709551615 → Contains old.fail (old.calls + 1) → (answer ≡ put.Failed) × (new.held ≡ old.held)
  pub counted : answer ≡ put.Failed → old.faults < 18446744073709551615 → new.faults ≡ old.faults + 1
  pub others : old.calls < 18446744073709551615 → ¬ Contains old.fail (old.calls + 1) → (answer ≢ put.Failed) × (new.faults ≡ old.faults)
  pub none : old.fail ≡ [] → answer ≢ put.Failed
  pub kept : new.fail ≡ old.fail

-- A source whose second and fourth call fail, with what is left of the bytes `abc`, its calls, how many bytes it gave, and how many calls failed.
abbrev pub second_and_fourth : List ℕ → ℕ → ℕ → ℕ → MemIntake
second_and_fourth left calls taken faults = record { left = left; calls = calls; taken = taken; fail = 2 ∷ 4 ∷ []; faults = faults }

-- Five takes of such a source into a room of two bytes: two bytes, a fault, the third byte, a fault, the end.
pub record TakesInRow : Type 0 where
  pub first : (new : MemIntake) (room : List ℕ) (answer : Took) → length room ≡ 2 → MemTakes (second_and_fourth (97 ∷ 98 ∷ 99 ∷ []) 0 0 0) new room answer
      → (answer ≡ took.Bytes 2) × (room ≡ 97 ∷ 98 ∷ []) × (new ≡ second_and_fourth (99 ∷ []) 1 2 0)
  pub second : (new : MemIntake) (room : List ℕ) (answer : Took) → length room ≡ 2 → MemTakes (second_and_fourth (99 ∷ []) 1 2 0) new room answer
      → (answer ≡ took.Failed) × (new ≡ second_and_fourth (99 ∷ []) 2 2 1)
  pub third : (new : MemIntake) (room : List ℕ) (answer : Took) → length room ≡ 2 → MemTakes (second_and_fourth (99 ∷ []) 2 2 1) new room answer
      → (answer ≡ took.Bytes 1) × (new ≡ second_and_fourth [] 3 3 1)
  pub fourth : (new : MemIntake) (room : List ℕ) (answer : Took) → length room ≡ 2 → MemTakes (second_and_fourth [] 3 3 1) new room answer
      → (answer ≡ took.Failed) × (new ≡ second_and_fourth [] 4 3 2)
  pub fifth : (new : MemIntake) (room : List ℕ) (answer : Took) → length room ≡ 2 → MemTakes (second_and_fourth [] 4 3 2) new room answer
      → (answer ≡ took.End) × (new ≡ second_and_fourth [] 5 3 2)

-- A sink whose third put fails, with what it holds, its calls, and how many failed.
abbrev pub third_only : List ℕ → ℕ → ℕ → MemOutlet
third_only held calls faults = record { held = held; calls = calls; fail = 3 ∷ []; faults = faults }

-- Four puts at such a sink, of the bytes `ab`, `c`, `d` and `e`: the third appends nothing. Where memory was short, nothing was appended either, and nothing is counted but the call.
pub record PutsInRow : Type 0 where
  pub first : (new : MemOutlet) (answer : Put) → MemPuts (third_only [] 0 0) new (97 ∷ 98 ∷ []) answer → answer ≢ put.NoMemory → (answer ≡ put.Done) × (new ≡ third_only (97 ∷ 98 ∷ []) 1 0)
  pub second : (new : MemOutlet) (answer : Put) → MemPuts (third_only (97 ∷ 98 ∷ []) 1 0) new (99 ∷ []) answer → answer ≢ put.NoMemory → (answer ≡ put.Done) × (new ≡ third_only (97 ∷ 98 ∷ 99 ∷ []) 2 0)
  pub third : (new : MemOutlet) (answer : Put) → MemPuts (third_only (97 ∷ 98 ∷ 99 ∷ []) 2 0) new (100 ∷ []) answer → (answer ≡ put.Failed) × (new ≡ third_only (97 ∷ 98 ∷ 99 ∷ []) 3 1)
  pub fourth : (new : MemOutlet) (answer : Put) → MemPuts (third_only (97 ∷ 98 ∷ 99 ∷ []) 3 1) new (101 ∷ []) answer → answer ≢ put.NoMemory → (answer ≡ put.Done) × (new ≡ third_only (97 ∷ 98 ∷ 99 ∷ 101 ∷ []) 4 1)
  pub short : (new : MemOutlet) (answer : Put) → MemPuts (third_only [] 0 0) new (97 ∷ 98 ∷ []) answer → answer ≡ put.NoMemory → new ≡ third_only [] 1 0
