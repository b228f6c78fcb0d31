-- streams that are the same ones, of which more may be ended
use Rattle.std.proofs.Common.{◌≡◌, ◌<◌, ◌+◌, ℕ, zero, suc, List, [], ◌∷◌, ◌++◌, length, refl, sym, ◌∙◌, subst, arith, ap, get_or, take, drop, Option}
use Rattle.std.specs.Prelude.{slice_set}
use Rattle.flow_control.specs.Rings.{PlainRing}
use Rattle.vb_calls.specs.declared.calls.VbCall.{VbCall}
use Rattle.vb_calls.specs.declared.calls.VbReply.{VbReply}
use Rattle.vb_calls.specs.Programs.{Began, Done, Ran, each}
use Rattle.vb_calls.proofs.Runs.{began_bind, each_began, each_next, ran_began, ran_bind}
use Rattle.dcp_producer.specs.declared.yields.Yielded.{Yielded}
use Rattle.dcp_producer.specs.Giving.{Given, none_given, one_given, stream_given, with_given, with_told}
use Rattle.dcp_producer.specs.Producers.{IsKept, PlainProducer, PlainStream}
use Rattle.dcp_producer.specs.Wanting.{AllPersist, Persists, Remains}
use Rattle.dcp_producer.proofs.Kept.{ids_of, kept_same}

pub persists_itself : (x : PlainStream) → Persists x x
persists_itself x = (refl, refl, refl, λ is. is)

pub persists_on : (x y z : PlainStream) → Persists x y → Persists y z → Persists x z
persists_on x y z (id, vb, opaque, ends) (id', vb', opaque', ends') = (id' ∙ id, vb' ∙ vb, opaque' ∙ opaque, λ is. ends' (ends is))

pub all_persist : (xs : List PlainStream) → AllPersist xs xs
all_persist [] = refl
all_persist (x ∷ xs) = (persists_itself x, all_persist xs)

pub persist_long : (xs ys : List PlainStream) → AllPersist xs ys → length ys ≡ length xs
persist_long [] ys is = ap length is
persist_long (x ∷ xs) [] is = absurd is
persist_long (x ∷ xs) (y ∷ ys) (one, more) = ap suc (persist_long xs ys more)

-- one of them goes on
pub persist_set : (xs ys : List PlainStream) (i : ℕ) (z d : PlainStream) → i < length ys → AllPersist xs ys → Persists (get_or ys i d) z → AllPersist xs (slice_set ys i z)
persist_set [] ys i z d below is one = absurd (let e : length ys ≡ 0 = ap length is in omega (arith, e, below))
persist_set (x ∷ xs) [] i z d below is one = absurd is
persist_set (x ∷ xs) (y ∷ ys) zero z d below (first, more) one = (persists_on x y z first one, more)
persist_set (x ∷ xs) (y ∷ ys) (suc i) z d below (first, more) one = (first, persist_set xs ys i z d (omega (arith, below)) more one)

ids_persist : (xs ys : List PlainStream) → AllPersist xs ys → ids_of ys ≡ ids_of xs
ids_persist [] ys is = ap ids_of is
ids_persist (x ∷ xs) [] is = absurd is
ids_persist (x ∷ xs) (y ∷ ys) ((id, vb, opaque, ends), more) = λ i. id i ∷ ids_persist xs ys more i

-- so they are kept as before
pub kept_persist : (base asked : ℕ) (xs ys : List PlainStream) (ring : PlainRing) → AllPersist xs ys → IsKept base asked xs ring → IsKept base asked ys ring
kept_persist base asked xs ys ring is kept = kept_same base asked xs ys ring (ids_persist xs ys is) kept

pub remains_itself : (end : PlainProducer) → Remains end end
remains_itself end = (refl, all_persist end.streams)

-- ---- one more of them has its turn

take_set : (ys : List PlainStream) (i : ℕ) (y : PlainStream) → i < length ys → take (suc i) (slice_set ys i y) ≡ take i ys ++ y ∷ []
take_set [] i y below = absurd (omega (arith, below))
take_set (z ∷ ys) zero y below = refl
take_set (z ∷ ys) (suc i) y below = ap (λ l. z ∷ l) (take_set ys i y (omega (arith, below)))

drop_set : (ys : List PlainStream) (i : ℕ) (y : PlainStream) → drop (suc i) (slice_set ys i y) ≡ drop (suc i) ys
drop_set [] i y = refl
drop_set (z ∷ ys) zero y = refl
drop_set (z ∷ ys) (suc i) y = drop_set ys i y

drop_front : (ys : List PlainStream) (i : ℕ) (d : PlainStream) → i < length ys → drop i ys ≡ get_or ys i d ∷ drop (suc i) ys
drop_front [] i d below = absurd (omega (arith, below))
drop_front (z ∷ ys) zero d below = refl
drop_front (z ∷ ys) (suc i) d below = drop_front ys i d (omega (arith, below))

heads : (x y : PlainStream) (xs ys : List PlainStream) → x ∷ xs ≡ y ∷ ys → (x ≡ y) × (xs ≡ ys)
heads x y xs ys is = (cc is, cc is)

module _ (xs ys : List PlainStream) (i : ℕ) (x : PlainStream) (below : i < length xs) (persist : AllPersist xs ys) (rest : drop i ys ≡ drop i xs) (is : x ≡ get_or ys i x) where
  low : i < length ys
  low = subst (λ n. i < n) (sym (persist_long xs ys persist)) below

  parts : (get_or ys i x ≡ get_or xs i x) × (drop (suc i) ys ≡ drop (suc i) xs)
  parts = heads (get_or ys i x) (get_or xs i x) (drop (suc i) ys) (drop (suc i) xs) (sym (drop_front ys i x low) ∙ rest ∙ drop_front xs i x below)

  there : x ≡ get_or xs i x
  there = is ∙ parts.0

  e : i + 1 ≡ suc i
  e = omega arith

  pub rest_more : (y : PlainStream) → drop (i + 1) (slice_set ys i y) ≡ drop (i + 1) xs
  rest_more y = ap (λ n. drop n (slice_set ys i y)) e ∙ drop_set ys i y ∙ parts.1 ∙ ap (λ n. drop n xs) (sym e)

  pub persist_more : (y : PlainStream) → Persists x y → AllPersist xs (slice_set ys i y)
  persist_more y one = persist_set xs ys i y x low persist (subst (λ z. Persists z y) is one)

  module _ {W : Type 0} (step : W → ℕ → VbCall → Option VbReply → W → Type 0) (yielded : List Yielded) (old mid : W)
      (before : Ran step (each one_given (take i xs) none_given) old (record { streams = take i ys; yielded = yielded }) mid) where
    pub given_more : (y : PlainStream) (told : Option Yielded) (new : W) → Ran step (stream_given x) mid (y, told) new
        → Ran step (each one_given (take (i + 1) xs) none_given) old (record { streams = take (i + 1) (slice_set ys i y); yielded = with_told told yielded }) new
    given_more y told new ran =
        let b : Given = record { streams = take i ys; yielded = yielded } in
        let same : with_given b (y, told) ≡ record { streams = take (i + 1) (slice_set ys i y); yielded = with_told told yielded } =
        λ j. record { streams = (sym (ap (λ n. take n (slice_set ys i y)) e ∙ take_set ys i y low)) j; yielded = with_told told yielded } in
        subst (λ g. Ran step (each one_given (take (i + 1) xs) none_given) old g new) same
        (each_next step one_given xs i x none_given old b mid (with_given b (y, told)) new below there before
        (ran_bind step (stream_given x) (λ z. Done (with_given b z)) mid (y, told) new (with_given b (y, told)) new ran (refl, refl)))

    -- or it began one
    pub given_began : (new : W) → Began step (stream_given x) mid new → Began step (each one_given xs none_given) old new
    given_began new began =
        let b : Given = record { streams = take i ys; yielded = yielded } in
        each_began step one_given xs i x none_given old b mid new below there before (began_bind step (stream_given x) (λ z. Done (with_given b z)) mid new began)

    -- or memory was wanting behind it
    pub given_stopped : (y : PlainStream) (told : Option Yielded) (new : W) → Ran step (stream_given x) mid (y, told) new → Began step (each one_given xs none_given) old new
    given_stopped y told new ran =
        let b : Given = record { streams = take i ys; yielded = yielded } in
        each_began step one_given xs i x none_given old b mid new below there before
        (ran_began step (stream_given x) (λ z. Done (with_given b z)) mid (y, told) new new ran refl)
