-- the stream of a vBucket, as it is found
use Rattle.std.proofs.Common.{◌≡◌, ◌≢◌, ℕ, Bool, true, false, List, [], ◌∷◌, ◌++◌, Some, None, refl, ap, ◌∙◌, subst, arith}
use Rattle.std.specs.Prelude.{◌==◌, if◌then◌else◌}
use Rattle.std.proofs.lemmas.Bool.{eqb-true, false_from_ne_true}
use Rattle.std.proofs.lemmas.Bool.Decides.{nat_tests}
use Rattle.std.proofs.lemmas.List.Elements.{All-head, All-tail, All-nil, All-cons}
use Rattle.dcp_producer.specs.Producers.{PlainStream, stream_at}
use Rattle.dcp_producer.specs.Having.{NoneOf, IsStreamOf}

abbrev IsOther : ℕ → PlainStream → Type 0
IsOther v stream = stream.vb ≢ v

-- one that is of another vBucket is passed over
passed : (v : ℕ) (x : PlainStream) (more : List PlainStream) → x.vb ≢ v → stream_at v (x ∷ more) ≡ stream_at v more
passed v x more other = ap (λ b. if b then Some x else stream_at v more) (false_from_ne_true (x.vb == v) (λ t. other (eqb-true x.vb v t)))

here : (v : ℕ) (x : PlainStream) (more : List PlainStream) → x.vb ≡ v → stream_at v (x ∷ more) ≡ Some x
here v x more is = let e : (x.vb == v) ≡ true = grind (arith, nat_tests) in ap (λ b. if b then Some x else stream_at v more) e

pub none_at : (v : ℕ) (streams : List PlainStream) → NoneOf v streams → stream_at v streams ≡ None
none_at v [] none = refl
none_at v (x ∷ more) none = passed v x more (All-head (IsOther v) x more none) ∙ none_at v more (All-tail (IsOther v) x more none)

found_behind : (v : ℕ) (stream : PlainStream) (front back : List PlainStream) → NoneOf v front → stream.vb ≡ v → stream_at v (front ++ stream ∷ back) ≡ Some stream
found_behind v stream [] back none is = here v stream back is
found_behind v stream (x ∷ front) back none is =
    passed v x (front ++ stream ∷ back) (All-head (IsOther v) x front none) ∙ found_behind v stream front back (All-tail (IsOther v) x front none) is

pub found_at : (v : ℕ) (stream : PlainStream) (streams : List PlainStream) → IsStreamOf v stream streams → stream_at v streams ≡ Some stream
found_at v stream streams is = ap (stream_at v) is.stands ∙ found_behind v stream is.front is.back is.first is.of

-- and back
none_back_by : (v : ℕ) (x : PlainStream) (more : List PlainStream) (b : Bool) → (x.vb == v) ≡ b → (if b then Some x else stream_at v more) ≡ None → (x.vb ≢ v) × (stream_at v more ≡ None)
none_back_by v x more true is none = absurd (cc none)
none_back_by v x more false is none = (grind (arith, nat_tests), none)

pub none_back : (v : ℕ) (streams : List PlainStream) → stream_at v streams ≡ None → NoneOf v streams
none_back v [] none = All-nil (IsOther v)
none_back v (x ∷ more) none =
    let (other, rest) = none_back_by v x more (x.vb == v) refl none in All-cons (IsOther v) x more other (none_back v more rest)

at_front : (v : ℕ) (x stream : PlainStream) (more : List PlainStream) → (x.vb == v) ≡ true → x ≡ stream → IsStreamOf v stream (x ∷ more)
at_front v x stream more test is = subst (λ t. IsStreamOf v t (x ∷ more)) is (record { front = []; back = more; stands = refl; of = eqb-true x.vb v test; first = All-nil (IsOther v) })

behind_it : (v : ℕ) (x stream : PlainStream) (more : List PlainStream) → x.vb ≢ v → IsStreamOf v stream more → IsStreamOf v stream (x ∷ more)
behind_it v x stream more other is = record {
  front = x ∷ is.front;
  back = is.back;
  stands = ap (λ xs. x ∷ xs) is.stands;
  of = is.of;
  first = All-cons (IsOther v) x is.front other is.first;
}

found_by : (v : ℕ) (x stream : PlainStream) (more : List PlainStream) → (stream_at v more ≡ Some stream → IsStreamOf v stream more)
    → (b : Bool) → (x.vb == v) ≡ b → (if b then Some x else stream_at v more) ≡ Some stream → IsStreamOf v stream (x ∷ more)
found_by v x stream more back true is found = at_front v x stream more is (cc found)
found_by v x stream more back false is found = behind_it v x stream more (grind (arith, nat_tests)) (back found)

pub found_back : (v : ℕ) (stream : PlainStream) (streams : List PlainStream) → stream_at v streams ≡ Some stream → IsStreamOf v stream streams
found_back v stream [] found = absurd (cc found)
found_back v stream (x ∷ more) found = found_by v x stream more (found_back v stream more) (x.vb == v) refl found
