-- the stream whose turn it is, and the streams behind its turn
use Rattle.std.proofs.Common.{◌≡◌, ◌≢◌, ◌⊎◌, ◌+◌, ◌-◌, ◌*◌, ◌<◌, ◌≤◌, ℕ, zero, suc, Bool, true, false, List, [], ◌∷◌, ◌++◌, length, refl, sym, ap, ◌∙◌, subst, inl, inr, append-nil, append_assoc, arith, Some, None}
use Rattle.std.proofs.lemmas.Bool.{false_from_ne_true, eqb-true, cases_lt}
use Rattle.std.proofs.lemmas.Bool.Decides.{nat_tests}
use Rattle.std.proofs.lemmas.List.{length-append}
use Rattle.std.proofs.lemmas.List.Elements.{All-head, All-tail, All-nil, All-cons}
use Rattle.std.proofs.Math.Seq.{take-append-add, drop-append-add}
use Rattle.std.specs.Prelude.{if◌then◌else◌, nat_lt, take, drop, slice_get, ◌==◌}
use Rattle.std.specs.List.{All, position}
use Rattle.flow_control.specs.Rings.{at_turn, next_id, passed, without}
use Rattle.dcp_producer.specs.Producers.{PlainStream, PlainProducer, Rising, replaced, ring_of, stream_of_id, with_stream, with_turn, without_stream}
use Rattle.dcp_producer.specs.Pulling.{stream_in, stream_in_turn}
use Rattle.dcp_producer.specs.Having.{AreOfOthers, IsSound}
use Rattle.dcp_producer.specs.Turns.{turns_of}
use Rattle.dcp_producer.proofs.Framing.{Same}
use Rattle.dcp_producer.proofs.Kept.{ids_of, place_same}
use Rattle.dcp_producer.proofs.Closing.{others_before, others_behind, taken_out, place_is, length_ids}

-- the stream that has its turn stands between those before and behind it, and has the first of the next turns
pub record InTurn (end : PlainProducer) : Type 0 where
  pub front : List PlainStream
  pub stream : PlainStream
  pub back : List PlainStream
  pub stands : end.streams ≡ front ++ stream ∷ back
  pub place : at_turn (ring_of end) ≡ length front
  pub order : turns_of end ≡ stream ∷ back ++ front

-- a list has a first one, or is empty
first_or_none : (xs : List PlainStream) → 0 < length xs → (x : PlainStream) × (more : List PlainStream) × (xs ≡ x ∷ more)
first_or_none [] some = absurd (omega (arith, some))
first_or_none (x ∷ more) some = (x, more, refl)

pub take_drop : (n : ℕ) (xs : List PlainStream) → take n xs ++ drop n xs ≡ xs
take_drop zero xs = refl
take_drop (suc n) [] = refl
take_drop (suc n) (x ∷ xs) = ap (λ ys. x ∷ ys) (take_drop n xs)

long_take : (n : ℕ) (xs : List PlainStream) → n ≤ length xs → length (take n xs) ≡ n
long_take zero xs few = refl
long_take (suc n) [] few = absurd (omega (arith, few))
long_take (suc n) (x ∷ xs) few = ap suc (long_take n xs (omega (arith, few)))

long_drop : (n : ℕ) (xs : List PlainStream) → n < length xs → 0 < length (drop n xs)
long_drop zero xs few = few
long_drop (suc n) [] few = absurd (omega (arith, few))
long_drop (suc n) (x ∷ xs) few = long_drop n xs (omega (arith, few))

drop_all : (xs : List PlainStream) → drop (length xs) xs ≡ []
drop_all [] = refl
drop_all (x ∷ xs) = drop_all xs

take_all : (xs : List PlainStream) → take (length xs) xs ≡ xs
take_all [] = refl
take_all (x ∷ xs) = ap (λ ys. x ∷ ys) (take_all xs)

module _ (end : PlainProducer) where
  place_by : (b : Bool) → nat_lt end.turn (length (ids_of end.streams)) ≡ b → at_turn (ring_of end) ≡ (if b then end.turn else 0)
  place_by b is = ap (λ t. if t then end.turn else 0) is

  -- before the newest had its turn
  early_turn : end.turn < length end.streams → InTurn end
  early_turn low =
      let (x, more, is) = first_or_none (drop end.turn end.streams) (long_drop end.turn end.streams low) in
      let test : nat_lt end.turn (length (ids_of end.streams)) ≡ true = ap (λ n. nat_lt end.turn n) (length_ids end.streams) ∙ grind (arith, nat_tests, low) in
      record {
        front = take end.turn end.streams;
        stream = x;
        back = more;
        stands = sym (take_drop end.turn end.streams) ∙ ap (λ ys. take end.turn end.streams ++ ys) is;
        place = place_by true test ∙ sym (long_take end.turn end.streams (omega (arith, low)));
        order = ap (λ ys. ys ++ take end.turn end.streams) is;
      }

  -- behind it
  late_turn : end.turn ≡ length end.streams → 0 < length end.streams → InTurn end
  late_turn at some =
      let (x, more, is) = first_or_none end.streams some in
      let test : nat_lt end.turn (length (ids_of end.streams)) ≡ false = ap (λ n. nat_lt end.turn n) (length_ids end.streams) ∙ grind (arith, nat_tests, at) in
      record {
        front = [];
        stream = x;
        back = more;
        stands = is;
        place = place_by false test;
        order =
            (λ i. drop (at i) end.streams ++ take (at i) end.streams) ∙ (λ i. drop_all end.streams i ++ take_all end.streams i) ∙ is
            ∙ ap (λ ys. x ∷ ys) (sym (append-nil more));
      }

  pub in_turn : IsSound end → 0 < length end.streams → InTurn end
  in_turn sound some = by (cases_lt end.turn (length end.streams))
    where
      by : (end.turn < length end.streams) ⊎ (length end.streams ≤ end.turn) → InTurn end
      by (inl low) = early_turn low
      by (inr high) = let within = sound.turn in late_turn (omega (arith, high, within)) some

-- ---- each of a list and those behind it

Pairs : (PlainStream → PlainStream → Type 0) → List PlainStream → Type 0
Pairs P [] = Unit {0}
Pairs P (x ∷ more) = All (P x) more × Pairs P more

module _ (P : PlainStream → Type 0) (x y : PlainStream) (back : List PlainStream) where
  pub all_other : (front : List PlainStream) → All P (front ++ x ∷ back) → P y → All P (front ++ y ∷ back)
  all_other [] all one = All-cons P y back one (All-tail P x back all)
  all_other (z ∷ front) all one = All-cons P z (front ++ y ∷ back) (All-head P z (front ++ x ∷ back) all) (all_other front (All-tail P z (front ++ x ∷ back) all) one)

  pub all_less : (front : List PlainStream) → All P (front ++ x ∷ back) → All P (front ++ back)
  all_less [] all = All-tail P x back all
  all_less (z ∷ front) all = All-cons P z (front ++ back) (All-head P z (front ++ x ∷ back) all) (all_less front (All-tail P z (front ++ x ∷ back) all))

  all_there : (front : List PlainStream) → All P (front ++ x ∷ back) → P x
  all_there [] all = All-head P x back all
  all_there (z ∷ front) all = all_there front (All-tail P z (front ++ x ∷ back) all)

module _ (P : PlainStream → PlainStream → Type 0) (x y : PlainStream) (before : (z : PlainStream) → P z x → P z y) (behind : (z : PlainStream) → P x z → P y z) (back : List PlainStream) where
  all_behind : (zs : List PlainStream) → All (P x) zs → All (P y) zs
  all_behind [] all = All-nil (P y)
  all_behind (z ∷ zs) all = All-cons (P y) z zs (behind z (All-head (P x) z zs all)) (all_behind zs (All-tail (P x) z zs all))

  pairs_other : (front : List PlainStream) → Pairs P (front ++ x ∷ back) → Pairs P (front ++ y ∷ back)
  unfolding Pairs
  pairs_other [] (here, more) = (all_behind back here, more)
  pairs_other (z ∷ front) (here, more) = (all_other (P z) x y back front here (before z (all_there (P z) x y back front here)), pairs_other front more)

pairs_less : (P : PlainStream → PlainStream → Type 0) (x : PlainStream) (front back : List PlainStream) → Pairs P (front ++ x ∷ back) → Pairs P (front ++ back)
unfolding Pairs
pairs_less P x [] back (here, more) = more
pairs_less P x (z ∷ front) back (here, more) = (all_less (P z) x x back front here, pairs_less P x front back more)

Below : PlainStream → PlainStream → Type 0
Below x y = x.id < y.id

Elsewhere : PlainStream → PlainStream → Type 0
Elsewhere x y = y.vb ≢ x.vb

rising_pairs : (xs : List PlainStream) → Rising xs → Pairs Below xs
unfolding Pairs Below
rising_pairs [] rise = tt
rising_pairs (x ∷ xs) (here, more) = (here, rising_pairs xs more)

pairs_rising : (xs : List PlainStream) → Pairs Below xs → Rising xs
unfolding Pairs Below
pairs_rising [] rise = tt
pairs_rising (x ∷ xs) (here, more) = (here, pairs_rising xs more)

others_pairs : (xs : List PlainStream) → AreOfOthers xs → Pairs Elsewhere xs
unfolding Pairs Elsewhere
others_pairs [] rise = tt
others_pairs (x ∷ xs) (here, more) = (here, others_pairs xs more)

pairs_others : (xs : List PlainStream) → Pairs Elsewhere xs → AreOfOthers xs
unfolding Pairs Elsewhere
pairs_others [] rise = tt
pairs_others (x ∷ xs) (here, more) = (here, pairs_others xs more)

module _ (x y : PlainStream) (id : y.id ≡ x.id) (vb : y.vb ≡ x.vb) (front back : List PlainStream) where
  pub rising_other : Rising (front ++ x ∷ back) → Rising (front ++ y ∷ back)
  unfolding Below
  rising_other rise =
      pairs_rising (front ++ y ∷ back)
      (pairs_other Below x y (λ z low. subst (λ n. z.id < n) (sym id) low) (λ z low. subst (λ n. n < z.id) (sym id) low) back front (rising_pairs (front ++ x ∷ back) rise))

  pub apart_other : AreOfOthers (front ++ x ∷ back) → AreOfOthers (front ++ y ∷ back)
  unfolding Elsewhere
  apart_other apart =
      pairs_others (front ++ y ∷ back)
      (pairs_other Elsewhere x y (λ z other. λ is. other (sym vb ∙ is)) (λ z other. λ is. other (is ∙ vb)) back front (others_pairs (front ++ x ∷ back) apart))

pub rising_less : (x : PlainStream) (front back : List PlainStream) → Rising (front ++ x ∷ back) → Rising (front ++ back)
rising_less x front back rise = pairs_rising (front ++ back) (pairs_less Below x front back (rising_pairs (front ++ x ∷ back) rise))

pub apart_less : (x : PlainStream) (front back : List PlainStream) → AreOfOthers (front ++ x ∷ back) → AreOfOthers (front ++ back)
apart_less x front back apart = pairs_others (front ++ back) (pairs_less Elsewhere x front back (others_pairs (front ++ x ∷ back) apart))

-- ---- what its turn leaves

abbrev ById : ℕ → PlainStream → Type 0
ById id stream = stream.id ≢ id

get_there : (front : List PlainStream) (stream : PlainStream) (back : List PlainStream) → slice_get (ids_of (front ++ stream ∷ back)) (length front) ≡ Some stream.id
get_there [] stream back = refl
get_there (x ∷ front) stream back = get_there front stream back

same_id : (id : ℕ) → (id == id) ≡ true
same_id id = grind (arith, nat_tests)

find_there : (front : List PlainStream) (stream : PlainStream) (back : List PlainStream) → All (ById stream.id) front → stream_of_id stream.id (front ++ stream ∷ back) ≡ Some stream
find_there [] stream back differ = ap (λ b. if b then Some stream else stream_of_id stream.id back) (same_id stream.id)
find_there (x ∷ front) stream back differ =
    ap (λ b. if b then Some x else stream_of_id stream.id (front ++ stream ∷ back)) (false_from_ne_true (x.id == stream.id) (λ t. All-head (ById stream.id) x front differ (eqb-true x.id stream.id t)))
    ∙ find_there front stream back (All-tail (ById stream.id) x front differ)

-- one in the place of another of its number
stay : (left : PlainStream) (xs : List PlainStream) → All (ById left.id) xs → replaced left xs ≡ xs
stay left [] differ = refl
stay left (x ∷ xs) differ = λ i.
    (if false_from_ne_true (x.id == left.id) (λ t. All-head (ById left.id) x xs differ (eqb-true x.id left.id t)) i then left else x)
    ∷ stay left xs (All-tail (ById left.id) x xs differ) i

replaced_there : (front : List PlainStream) (stream left : PlainStream) (back : List PlainStream) → left.id ≡ stream.id → All (ById left.id) front → All (ById left.id) back
    → replaced left (front ++ stream ∷ back) ≡ front ++ left ∷ back
replaced_there [] stream left back same before behind =
    let found : (stream.id == left.id) ≡ true = ap (λ n. stream.id == n) same ∙ same_id stream.id in
    λ i. (if found i then left else stream) ∷ stay left back behind i
replaced_there (x ∷ front) stream left back same before behind = λ i.
    (if false_from_ne_true (x.id == left.id) (λ t. All-head (ById left.id) x front before (eqb-true x.id left.id t)) i then left else x)
    ∷ replaced_there front stream left back same (All-tail (ById left.id) x front before) behind i

differ_behind : (stream : PlainStream) (back : List PlainStream) → All (λ other. stream.id < other.id) back → All (ById stream.id) back
differ_behind stream [] above = All-nil (ById stream.id)
differ_behind stream (x ∷ back) above =
    let low : stream.id < x.id = All-head (λ (other : PlainStream). stream.id < other.id) x back above in
    All-cons (ById stream.id) x back (λ is. absurd (omega (arith, low, is))) (differ_behind stream back (All-tail (λ (other : PlainStream). stream.id < other.id) x back above))

position_there : (front : List PlainStream) (stream : PlainStream) (back : List PlainStream) → All (ById stream.id) front → position (λ other. other.id == stream.id) (front ++ stream ∷ back) ≡ Some (length front)
position_there front stream back differ =
    let long : length (front ++ stream ∷ back) ≡ length front + suc (length back) = length-append front (stream ∷ back) in
    let low : nat_lt (length front) (length (front ++ stream ∷ back)) ≡ true = grind (arith, nat_tests, long) in
    ap (λ n. if nat_lt n (length (front ++ stream ∷ back)) then Some n else None) (place_is front stream back differ) ∙ ap (λ b. if b then Some (length front) else None) low

module _ (end : PlainProducer) (sound : IsSound end) (t : InTurn end) where
  rise : Rising (t.front ++ t.stream ∷ t.back)
  rise = subst Rising t.stands sound.rise

  pub before : All (ById t.stream.id) t.front
  before = others_before t.front t.stream t.back rise

  pub behind : All (ById t.stream.id) t.back
  behind = differ_behind t.stream t.back (others_behind t.front t.stream t.back rise)

  next_is : next_id (ring_of end) ≡ Some t.stream.id
  next_is = ap (slice_get (ids_of end.streams)) t.place ∙ ap (λ xs. slice_get (ids_of xs) (length t.front)) t.stands ∙ get_there t.front t.stream t.back

  -- the stream whose turn it is
  pub turn_is : stream_in_turn end ≡ Some t.stream
  turn_is = ap (λ o. stream_in o end.streams) next_is ∙ ap (stream_of_id t.stream.id) t.stands ∙ find_there t.front t.stream t.back before

  -- the connection behind its turn, with this stream in its place
  abbrev pub end_with : PlainStream → PlainProducer
  end_with left = record end { streams = t.front ++ left ∷ t.back; turn = length t.front + 1 }

  -- and with none
  abbrev pub end_less : PlainProducer
  end_less = record end { streams = t.front ++ t.back; turn = length t.front }

  pub turned_so : with_turn end ≡ end_with t.stream
  turned_so =
      ap (λ o. record end { turn = (passed (ring_of end) o).turn }) next_is
      ∙ (λ i. record end { streams = t.stands i; turn = t.place i + 1 })

  module _ (left : PlainStream) (same : Same t.stream left) where
    before_left : All (ById left.id) t.front
    before_left = subst (λ n. All (ById n) t.front) (sym same.id) before

    behind_left : All (ById left.id) t.back
    behind_left = subst (λ n. All (ById n) t.back) (sym same.id) behind

    pub went_so : with_stream left (with_turn end) ≡ end_with left
    went_so =
        ap (with_stream left) turned_so
        ∙ (λ i. record end { streams = replaced_there t.front t.stream left t.back same.id before_left behind_left i; turn = length t.front + 1 })

    pub over_so : without_stream left.id (end_with left) ≡ end_less
    over_so =
        let at : position (λ other. other == left.id) (ids_of (t.front ++ left ∷ t.back)) ≡ Some (length t.front) = place_same left.id (t.front ++ left ∷ t.back) ∙ position_there t.front left t.back before_left in
        let low : nat_lt (length t.front) (length t.front + 1) ≡ true = grind (arith, nat_tests) in
        let one : length t.front + 1 - 1 ≡ length t.front = omega arith in
        (λ i. record end { streams = taken_out t.front left t.back before_left i; turn = (without (at i) (record { ids = ids_of (t.front ++ left ∷ t.back); turn = length t.front + 1 })).turn })
        ∙ ap (λ b. record end { streams = t.front ++ t.back; turn = if b then length t.front + 1 - 1 else length t.front + 1 }) low
        ∙ ap (λ n. record end { streams = t.front ++ t.back; turn = n }) one

    -- the streams behind its turn, in theirs
    pub order_with : turns_of (end_with left) ≡ (t.back ++ t.front) ++ left ∷ []
    order_with =
        (λ i. drop-append-add t.front (left ∷ t.back) 1 i ++ take-append-add t.front (left ∷ t.back) 1 i) ∙ sym (append_assoc t.back t.front (left ∷ []))

    pub sound_with : IsSound (end_with left)
    sound_with =
        let long : length (t.front ++ left ∷ t.back) ≡ length t.front + suc (length t.back) = length-append t.front (left ∷ t.back) in
        record {
          apart = apart_other t.stream left same.id same.vb t.front t.back (subst AreOfOthers t.stands sound.apart);
          rise = rising_other t.stream left same.id same.vb t.front t.back rise;
          numbered =
              all_other (λ (stream : PlainStream). stream.id ≤ end.desk.base * 4294967296 + end.asked) t.stream left t.back t.front (subst (All (λ (stream : PlainStream). stream.id ≤ end.desk.base * 4294967296 + end.asked)) t.stands sound.numbered)
              (subst (λ n. n ≤ end.desk.base * 4294967296 + end.asked) (sym same.id)
              (all_there (λ (stream : PlainStream). stream.id ≤ end.desk.base * 4294967296 + end.asked) t.stream left t.back t.front (subst (All (λ (stream : PlainStream). stream.id ≤ end.desk.base * 4294967296 + end.asked)) t.stands sound.numbered)));
          turn = omega (arith, long);
        }

  pub order_less : turns_of end_less ≡ t.back ++ t.front
  order_less =
      let none : length t.front + 0 ≡ length t.front = omega arith in
      ap (λ n. drop n (t.front ++ t.back) ++ take n (t.front ++ t.back)) (sym none)
      ∙ (λ i. drop-append-add t.front t.back 0 i ++ take-append-add t.front t.back 0 i) ∙ ap (λ xs. t.back ++ xs) (append-nil t.front)

  pub sound_less : IsSound end_less
  sound_less =
      let long : length (t.front ++ t.back) ≡ length t.front + length t.back = length-append t.front t.back in
      record {
        apart = apart_less t.stream t.front t.back (subst AreOfOthers t.stands sound.apart);
        rise = rising_less t.stream t.front t.back rise;
        numbered = all_less (λ (stream : PlainStream). stream.id ≤ end.desk.base * 4294967296 + end.asked) t.stream t.stream t.back t.front (subst (All (λ (stream : PlainStream). stream.id ≤ end.desk.base * 4294967296 + end.asked)) t.stands sound.numbered);
        turn = omega (arith, long);
      }
