-- the plain machine of the tests: the numbers that were put and not rolled back
use Rattle.std.specs.Prelude.{◌≡◌, ℕ, ◌+◌, List, [], ◌∷◌, ◌++◌, length, take, slice_get, ⊤}
use Rattle.turn_tests.specs.declared.numbers.Call.{Call}
use Rattle.turn_tests.specs.declared.numbers.Call.TheVariants.{Get, Put, Roll}
use Rattle.turn_tests.specs.declared.numbers.Reply.{Reply}
use Rattle.turn_tests.specs.declared.numbers.Reply.TheVariants.{Got, Stored, Rolled}

abbrev pub plain_step : List ℕ → Call → List ℕ × Reply
plain_step s (Get at) = (s, Got (slice_get s at))
plain_step s (Put value) = (s ++ value ∷ [], Stored (length s + 1))
plain_step s (Roll to) = (take to s, Rolled)

-- how many there are; a rollback lowers it
abbrev pub high : List ℕ → ℕ
high s = length s

abbrev pub Stands : List ℕ → List ℕ → Type 0
Stands object s = object ≡ s

-- a call has a reply of its kind
abbrev pub HasForm : Call → Reply → Type 0
HasForm (Get at) (Got value) = ⊤
HasForm (Put value) (Stored count) = ⊤
HasForm (Roll to) Rolled = ⊤
HasForm call reply = ⊥

-- a put alone takes memory
abbrev pub TakesMemory : Call → Type 0
TakesMemory (Put value) = ⊤
TakesMemory (Get at) = ⊥
TakesMemory (Roll to) = ⊥
