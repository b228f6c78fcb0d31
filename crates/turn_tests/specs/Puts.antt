-- the calls of a worker
use Rattle.std.specs.Prelude.{◌≡◌, ℕ, List, map, ◌++◌, ◌+◌, length, sum}
use Rattle.vb_turn.specs.Turning.{total}
use Rattle.turn_tests.specs.declared.numbers.Call.{Call}
use Rattle.turn_tests.specs.declared.numbers.Call.TheVariants.{Get, Put, Roll}
use Rattle.turn_tests.specs.declared.numbers.Reply.{Reply}
use Rattle.vb_turn.specs.declared.view.View.{View}

abbrev pub puts : List ℕ → List Call
puts values = map Put values

-- the calls that a seat made, in order
abbrev pub calls_of : {M : Type 0} → View M (Call × Reply) → List Call
calls_of v = map (λ t. t.1.0) v.mine

-- the seat has put these values too, in order, and nothing else
abbrev pub HasPut : {M : Type 0} → List ℕ → View M (Call × Reply) → View M (Call × Reply) → Type 0
HasPut values v w = (calls_of w ≡ calls_of v ++ puts values) × (w.parts ≡ v.parts) × (w.opening ≡ v.opening)

abbrev pub value_of : Call → ℕ
value_of (Put value) = value
value_of (Get at) = 0
value_of (Roll to) = 0

-- 1 where it is no put
abbrev pub other_of : Call → ℕ
other_of (Put value) = 0
other_of (Get at) = 1
other_of (Roll to) = 1

abbrev pub values_of : List Call → ℕ
values_of calls = total value_of calls

-- how many are no puts
abbrev pub others_of : List Call → ℕ
others_of calls = total other_of calls

-- the seat has put values that weigh as much as these, and nothing else
abbrev pub Weighs : {M : Type 0} → List ℕ → View M (Call × Reply) → View M (Call × Reply) → Type 0
Weighs values v w = (values_of (calls_of w) ≡ values_of (calls_of v) + sum values) × (others_of (calls_of w) ≡ others_of (calls_of v))
    × (length (calls_of w) ≡ length (calls_of v) + length values) × (w.parts ≡ v.parts) × (w.opening ≡ v.opening)
