-- what a history of puts leaves
use Rattle.std.proofs.Common.{◌≡◌, ℕ, suc, ◌+◌, List, [], ◌∷◌, ◌++◌, length, map, Some, refl, ap, ◌∙◌, arith, length-append}
use Rattle.std.specs.Prelude.{sum}
use Rattle.std.proofs.lemmas.List.Sums.{sum_by-cons, sum_by-append}
use Rattle.turn_tests.specs.declared.numbers.Call.{Call}
use Rattle.turn_tests.specs.declared.numbers.Call.TheVariants.{Get, Put, Roll}
use Rattle.turn_tests.specs.declared.numbers.Reply.{Reply}
use Rattle.turn_tests.specs.Plain.{plain_step, Stands}
use Rattle.vb_turn.specs.declared.view.View.{View}
use Rattle.vb_turn.specs.History.{after}
use Rattle.vb_turn.specs.Turning.{total}
use Rattle.vb_turn.specs.Seats.{ClosesWith, Gathered}
use Rattle.vb_turn.proofs.Wholes.{whole_weight}
use Rattle.vb_turn.proofs.Fronts.{placed_more}
use Rattle.turn_tests.specs.Puts.{puts, calls_of, value_of, other_of, values_of, others_of, HasPut, Weighs}

total_calls : (h : Call → ℕ) (mine : List (ℕ × (Call × Reply))) → total h (map (λ t. t.1.0) mine) ≡ total (λ t. h t.1.0) mine
total_calls h [] = refl
total_calls h (t ∷ mine) = let r = total_calls h mine in omega arith

pub puts_weigh : (xs : List ℕ) → (values_of (puts xs) ≡ sum xs) × (others_of (puts xs) ≡ 0) × (length (puts xs) ≡ length xs)
puts_weigh [] = (refl, refl, refl)
puts_weigh (x ∷ xs) = let s = sum_by-cons (λ (y : ℕ). y) x xs in let r = puts_weigh xs in let a = r.0 in let b = r.1 in let c = r.2 in (omega arith, omega arith, omega arith)

pub total_append : {X : Type 0} (h : X → ℕ) (xs ys : List X) → total h (xs ++ ys) ≡ total h xs + total h ys
total_append h [] ys = omega arith
total_append h (x ∷ xs) ys = let r = total_append h xs ys in omega arith

after_puts : (s : List ℕ) (log : List (Call × Reply)) → total (λ e. other_of e.0) log ≡ 0 → (sum (after plain_step s log) ≡ sum s + total (λ e. value_of e.0) log) × (length (after plain_step s log) ≡ length s + length log)
after_puts s [] none = (omega arith, omega arith)
after_puts s ((Put x, r) ∷ log) none = let q = after_puts (s ++ x ∷ []) log (omega arith) in let a = q.0 in let b = q.1 in let c = sum_by-append (λ (y : ℕ). y) s (x ∷ []) in let f = sum_by-cons (λ (y : ℕ). y) x [] in let d = length-append s (x ∷ []) in (omega arith, omega arith)
after_puts s ((Get at, r) ∷ log) none = absurd (omega arith)
after_puts s ((Roll to, r) ∷ log) none = absurd (omega arith)

length_map : {X Y : Type 0} (f : X → Y) (xs : List X) → length (map f xs) ≡ length xs
length_map f [] = refl
length_map f (x ∷ xs) = ap suc (length_map f xs)

pub finished : (v : View (List ℕ) (Call × Reply)) (object : List ℕ) → v.opening ≡ Some [] → others_of (calls_of v) ≡ 0 → ClosesWith Stands plain_step v object
    → (sum object ≡ values_of (calls_of v)) × (length object ≡ length (calls_of v))
finished v object is none (all, (log, front, placed, whole, tells)) =
    let there = placed_more v.seen log v.mine front placed in
    let t = tells [] is [] refl in
    let others = whole_weight (λ e. other_of e.0) log v.mine there whole in let others' = total_calls other_of v.mine in
    let values = whole_weight (λ e. value_of e.0) log v.mine there whole in let values' = total_calls value_of v.mine in
    let q = after_puts [] log (omega arith) in let a = q.0 in let b = q.1 in let c : sum object ≡ sum (after plain_step [] log) = ap sum t.1 in let d : length object ≡ length (after plain_step [] log) = ap length t.1 in
    let e = whole.0 in let f = length_map (λ t. t.1.0) v.mine in (omega arith, omega arith)

pub weighed : (values : List ℕ) (v w : View (List ℕ) (Call × Reply)) → HasPut values v w → Weighs values v w
weighed values v w (calls, parts, opening) = let p = puts_weigh values in let a = total_append value_of (calls_of v) (puts values) in let b = total_append other_of (calls_of v) (puts values) in let c = length-append (calls_of v) (puts values) in
    let d = p.0 in let e = p.1 in let f = p.2 in let h = ap values_of calls in let i = ap others_of calls in let j = ap length calls in (omega arith, omega arith, omega arith, parts, opening)

map_append : {X Y : Type 0} (f : X → Y) (xs ys : List X) → map f (xs ++ ys) ≡ map f xs ++ map f ys
map_append f [] ys = refl
map_append f (x ∷ xs) ys = ap (λ l. f x ∷ l) (map_append f xs ys)

-- the calls of a seat that took in another
pub joined : (v u w : View (List ℕ) (Call × Reply)) → Gathered v u w → (calls_of w ≡ calls_of v ++ calls_of u) × (w.parts ≡ v.parts + u.parts) × (w.opening ≡ v.opening)
joined v u w (front, (n, a, b, is), placed, apart, whole) = (ap calls_of is ∙ map_append (λ t. t.1.0) v.mine u.mine, ap (λ x. x.parts) is, ap (λ x. x.opening) is)

pub collected : (v u w : View (List ℕ) (Call × Reply)) → Gathered v u w → (values_of (calls_of w) ≡ values_of (calls_of v) + values_of (calls_of u)) × (others_of (calls_of w) ≡ others_of (calls_of v) + others_of (calls_of u)) × (length (calls_of w) ≡ length (calls_of v) + length (calls_of u))
collected v u w g = let is = (joined v u w g).0 in let a = ap values_of is in let b = ap others_of is in let c = ap length is in
    let d = total_append value_of (calls_of v) (calls_of u) in let e = total_append other_of (calls_of v) (calls_of u) in let f = length-append (calls_of v) (calls_of u) in (omega arith, omega arith, omega arith)
