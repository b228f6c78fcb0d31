-- how streams end with a change of role and with their connection
use Rattle.std.proofs.Common.{◌≡◌, ℕ, Bool, true, false, List, [], ◌∷◌, map, refl, ap, ◌∙◌, inl, inr, arith}
use Rattle.std.specs.Prelude.{if◌then◌else◌, ◌==◌, ◌&&◌, ◌||◌, not}
use Rattle.std.specs.List.{list_any}
use Rattle.std.proofs.lemmas.Bool.{and_parts, eqb-true, false_from_ne_true}
use Rattle.std.proofs.lemmas.Bool.Decides.{nat_tests}
use Rattle.vb_calls.specs.declared.calls.VbCall.TheVariants as call
use Rattle.vb_calls.specs.Programs.{Call, Made, Told}
use Rattle.dcp_producer.specs.Ending.{ended_in, end_closed, streams_closed}
use Rattle.dcp_producer.specs.Producers.{PlainProducer, PlainStream}
use Rattle.dcp_producer.specs.Endings.{IsAmong, IsNamed, AreEnded, EndsNamed, calls_in, alive, ClosesAlive}

-- a number is among these exactly where the test says so
among_test : (n : ℕ) (ids : List ℕ) → IsAmong n ids → list_any (λ i. i == n) ids ≡ true
among_test n [] there = absurd there
among_test n (m ∷ more) (inl is) = let e : (m == n) ≡ true = grind (arith, nat_tests) in ap (λ b. b || list_any (λ i. i == n) more) e
among_test n (m ∷ more) (inr there) = or_true (m == n) (list_any (λ i. i == n) more) (among_test n more there)
  where
    or_true : (a b : Bool) → b ≡ true → (a || b) ≡ true
    or_true true b is = refl
    or_true false b is = is

by_test : (n m : ℕ) (more : List ℕ) → (list_any (λ i. i == n) more ≡ true → IsAmong n more) → (b : Bool) → (m == n) ≡ b → (b || list_any (λ i. i == n) more) ≡ true → IsAmong n (m ∷ more)
by_test n m more rest true here is = inl (grind (arith, nat_tests))
by_test n m more rest false here is = inr (rest is)

test_among : (n : ℕ) (ids : List ℕ) → list_any (λ i. i == n) ids ≡ true → IsAmong n ids
test_among n [] is = absurd (cc is)
test_among n (m ∷ more) is = by_test n m more (test_among n more) (m == n) refl is

module _ (v : ℕ) (ids : List ℕ) where
  named_test : (x : PlainStream) → IsNamed v ids x → (x.vb == v && list_any (λ i. i == x.id) ids) ≡ true
  named_test x (here, there) =
      let e : (x.vb == v) ≡ true = grind (arith, nat_tests) in
      (λ i. e i && list_any (λ n. n == x.id) ids) ∙ among_test x.id ids there

  test_named : (x : PlainStream) → (x.vb == v && list_any (λ i. i == x.id) ids) ≡ true → IsNamed v ids x
  test_named x is = let (here, there) = and_parts (x.vb == v) (list_any (λ i. i == x.id) ids) is in (eqb-true x.vb v here, test_among x.id ids there)

  pub are_ended : (streams : List PlainStream) → AreEnded v ids streams (map (ended_in v ids) streams)
  are_ended [] = refl
  are_ended (x ∷ more) = (
    λ named. ap (λ b. if b then record x { ended = true } else x) (named_test x named),
    λ not_named. ap (λ b. if b then record x { ended = true } else x) (false_from_ne_true (x.vb == v && list_any (λ i. i == x.id) ids) (λ t. not_named (test_named x t))),
    are_ended more,
  )

  pub ends_named : (end : PlainProducer) → EndsNamed v ids end
  ends_named end = record { ended = are_ended end.streams; rest = refl }

-- the calls of those that are closed
closed_by : (x : PlainStream) (more : List PlainStream) → ((made : List Made) (end' : Unit {0}) → Told (streams_closed more) made end' → calls_in made ≡ map (λ stream. (stream.vb, call.CloseStream stream.id)) (alive more))
    → (b : Bool) (made : List Made) (end' : Unit {0}) → Told (if b then streams_closed more else Call x.vb (call.CloseStream x.id) (λ reply. streams_closed more)) made end'
    → calls_in made ≡ map (λ stream. (stream.vb, call.CloseStream stream.id)) (if not b then x ∷ alive more else alive more)
closed_by x more rest true made end' told = rest made end' told
closed_by x more rest false [] end' told = absurd told
closed_by x more rest false (m ∷ made) end' (at, is, told) = λ i. (at i, is i) ∷ rest made end' told i

closed_all : (streams : List PlainStream) (made : List Made) (end' : Unit {0}) → Told (streams_closed streams) made end' → calls_in made ≡ map (λ stream. (stream.vb, call.CloseStream stream.id)) (alive streams)
closed_all [] [] end' told = refl
closed_all [] (m ∷ made) end' told = absurd told
closed_all (x ∷ more) made end' told = closed_by x more (closed_all more) x.ended made end' told

pub closes_alive : (end : PlainProducer) → ClosesAlive end
unfolding end_closed
closes_alive end made end' told = closed_all end.streams made end' told
