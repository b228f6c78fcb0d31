-- the streams of a producer that no change of role ended: what becomes of them as one goes on, is over, or is opened
use Rattle.std.specs.Prelude.{◌≡◌, ◌<◌, ◌≤◌, ◌+◌, ◌*◌, ◌^◌, ◌∷◌, ◌++◌, ◌⊎◌, ◌==◌, if◌then◌else◌, cond}
use Rattle.transcript_law.proofs.Words.{ℕ, suc, Bool, true, false, List, [], length, refl, sym, ap, ◌∙◌, subst, inl, inr, ⊎_elim, arith, Some, None, All, All-head, All-tail, All-weaker, eqb-true, PlainProducer, PlainStream}
use Rattle.dcp_producer.proofs.Kept.{ids_of, kept_less, kept_more, kept_same}
use Rattle.dcp_producer.specs.Producers.{IsKept, Rising, replaced, stream_at, stream_of_id, with_opened, without_id, without_place}
use Rattle.std.specs.List.{find, position_or_len, remove}
use Rattle.std.specs.Option.{option_map}
use Rattle.std.specs.Prelude.{map, nat_lt, not}
use Rattle.takeover.specs.GivingUp.{answered}
use Rattle.dcp_producer.specs.Serving.{heard}
use Rattle.std.proofs.lemmas.Bool.Decides.{nat_tests}
use Rattle.transcript_law.specs.Feeding.{HasOpen, IsOpenAt}

-- a producer's streams have numbers that rise, none above the last that it asked for
abbrev pub AreKept : PlainProducer → Type 0
AreKept end = IsKept end.desk.base end.asked end.streams (record { ids = ids_of end.streams; turn = 0 })

-- one of the streams
abbrev pub Among : PlainStream → List PlainStream → Type 0
Among t [] = ⊥
Among t (s ∷ more) = (t ≡ s) ⊎ Among t more

-- one that is found
found_among : (test : PlainStream → Bool) (streams : List PlainStream) (t : PlainStream) → find test streams ≡ Some t → Among t streams
found_among test [] t e = cc
found_among test (s ∷ more) t e = by (found_among test more t) (test s) refl
  where
    by : (find test more ≡ Some t → Among t more) → (b : Bool) → test s ≡ b → Among t (s ∷ more)
    by rest true q = let same : Some s ≡ Some t = sym (ap (λ b. cond b (Some s) (find test more)) q) ∙ e in inl cc
    by rest false q = inr (rest (sym (ap (λ b. cond b (Some s) (find test more)) q) ∙ e))

pub at_among : (v : ℕ) (streams : List PlainStream) (t : PlainStream) → stream_at v streams ≡ Some t → Among t streams
at_among v streams t e = found_among (λ s. s.vb == v) streams t e

pub id_among : (id : ℕ) (streams : List PlainStream) (t : PlainStream) → stream_of_id id streams ≡ Some t → Among t streams
id_among id streams t e = found_among (λ s. s.id == id) streams t e

-- what holds of all holds of one
pub all_among : (P : PlainStream → Type 0) (streams : List PlainStream) (t : PlainStream) → All P streams → Among t streams → P t
all_among P [] t all i = absurd i
all_among P (s ∷ more) t all i = ⊎_elim (λ e. subst P (sym e) (All-head P s more all)) (λ j. all_among P more t (All-tail P s more all) j) i

open_above : (v k low : ℕ) (streams : List PlainStream) → All (λ s. low < s.id) streams → HasOpen v k streams → low < k
open_above v k low [] all h = absurd h
open_above v k low (s ∷ more) all h = ⊎_elim
    (λ o. let l : low < s.id = All-head (λ x. low < x.id) s more all in let e : s.id ≡ k = o.1 in omega (arith, l, e))
    (λ j. open_above v k low more (All-tail (λ x. low < x.id) s more all) j) h

-- the open stream of a number is the only one
pub only_open : (v k : ℕ) (streams : List PlainStream) (t : PlainStream) → Rising streams → Among t streams → HasOpen v k streams → k ≡ t.id → IsOpenAt v k t
only_open v k [] t rise i h e = absurd i
only_open v k (s ∷ more) t rise i h e = ⊎_elim
    (λ same. ⊎_elim (λ o. subst (IsOpenAt v k) (sym same) o)
    (λ j. let l : s.id < k = open_above v k s.id more rise.0 j in let q : t.id ≡ s.id = ap (λ x. x.id) same in absurd (omega (arith, l, q, e))) h)
    (λ among. ⊎_elim (λ o. let l : s.id < t.id = all_among (λ x. s.id < x.id) more t rise.0 among in let q : s.id ≡ k = o.1 in absurd (omega (arith, l, q, e)))
    (λ j. only_open v k more t rise.1 among j e) h)
    i

-- ---- a stream that goes on

pub replaced_has : (v k : ℕ) (left : PlainStream) (streams : List PlainStream) → (k ≡ left.id → IsOpenAt v k left) → HasOpen v k streams → HasOpen v k (replaced left streams)
replaced_has v k left [] is h = absurd h
replaced_has v k left (s ∷ more) is h = ⊎_elim (λ o. inl (by o (s.id == left.id) refl)) (λ j. inr (replaced_has v k left more is j)) h
  where
    by : IsOpenAt v k s → (b : Bool) → (s.id == left.id) ≡ b → IsOpenAt v k (if b then left else s)
    by o true e = is (sym o.1 ∙ eqb-true s.id left.id e)
    by o false e = o

pub replaced_ids : (left : PlainStream) (streams : List PlainStream) → ids_of (replaced left streams) ≡ ids_of streams
replaced_ids left [] = refl
replaced_ids left (s ∷ more) = λ i. by (s.id == left.id) refl i ∷ replaced_ids left more i
  where
    by : (b : Bool) → (s.id == left.id) ≡ b → (if b then left else s).id ≡ s.id
    by true e = sym (eqb-true s.id left.id e)
    by false e = refl

-- ---- a stream that is over

pub without_cons : (id : ℕ) (s : PlainStream) (more : List PlainStream) → without_id id (s ∷ more) ≡ (if s.id == id then more else s ∷ without_id id more)
without_cons id s more = by (s.id == id)
  where
    test : PlainStream → Bool
    test x = x.id == id

    n : ℕ
    n = position_or_len test more

    place : Bool → ℕ
    place b = cond (not b) (1 + n) 0

    later : (b : Bool) → nat_lt n (length more) ≡ b → without_place (if nat_lt (1 + n) (length (s ∷ more)) then Some (1 + n) else None) (s ∷ more) ≡ s ∷ without_place (if b then Some n else None) more
    later true e =
        let same : nat_lt (1 + n) (length (s ∷ more)) ≡ true = grind (arith, nat_tests, e) in let on : 1 + n ≡ suc n = omega arith in
        ap (λ b. without_place (if b then Some (1 + n) else None) (s ∷ more)) same ∙ ap (remove (s ∷ more)) on
    later false e = let same : nat_lt (1 + n) (length (s ∷ more)) ≡ false = grind (arith, nat_tests, e) in ap (λ b. without_place (if b then Some (1 + n) else None) (s ∷ more)) same

    by : (b : Bool) → without_place (if nat_lt (place b) (length (s ∷ more)) then Some (place b) else None) (s ∷ more) ≡ (if b then more else s ∷ without_id id more)
    by true = let first : nat_lt 0 (length (s ∷ more)) ≡ true = grind (arith, nat_tests) in ap (λ b. without_place (if b then Some 0 else None) (s ∷ more)) first
    by false = later (nat_lt n (length more)) refl

pub without_has : (v k id : ℕ) (streams : List PlainStream) → (k ≡ id → ⊥) → HasOpen v k streams → HasOpen v k (without_id id streams)
without_has v k id [] other h = absurd h
without_has v k id (s ∷ more) other h = subst (HasOpen v k) (sym (without_cons id s more)) (by (without_has v k id more other) (s.id == id) refl h)
  where
    by : (HasOpen v k more → HasOpen v k (without_id id more)) → (b : Bool) → (s.id == id) ≡ b → HasOpen v k (s ∷ more) → HasOpen v k (if b then more else s ∷ without_id id more)
    by rest true e (inl o) = absurd (other (sym o.1 ∙ eqb-true s.id id e))
    by rest true e (inr j) = j
    by rest false e (inl o) = inl o
    by rest false e (inr j) = inr (rest j)

-- ---- streams that heard that a state was taken

heard_same : (o : ℕ) (s : PlainStream) → ((heard o s).id ≡ s.id) × ((heard o s).vb ≡ s.vb) × ((heard o s).ended ≡ s.ended)
heard_same o s = elim (s.opaque == o) as (λ b. let x : PlainStream = if b then record s { gives = option_map answered s.gives } else s in (x.id ≡ s.id) × (x.vb ≡ s.vb) × (x.ended ≡ s.ended)) [ true ↦ (refl, refl, refl) | false ↦ (refl, refl, refl) ]

pub heard_has : (v k o : ℕ) (streams : List PlainStream) → HasOpen v k streams → HasOpen v k (map (heard o) streams)
heard_has v k o [] h = h
heard_has v k o (s ∷ more) h = let same = heard_same o s in ⊎_elim (λ x. inl (same.1 ∙ x.0, same.0 ∙ x.1, same.2 ∙ x.2)) (λ j. inr (heard_has v k o more j)) h

-- ---- one more stream

pub opened_has : (v k : ℕ) (new : PlainStream) (streams : List PlainStream) → HasOpen v k streams ⊎ IsOpenAt v k new → HasOpen v k (streams ++ new ∷ [])
opened_has v k new [] (inl h) = absurd h
opened_has v k new [] (inr o) = inl o
opened_has v k new (s ∷ more) (inl (inl o)) = inl o
opened_has v k new (s ∷ more) (inl (inr j)) = inr (opened_has v k new more (inl j))
opened_has v k new (s ∷ more) (inr o) = inr (opened_has v k new more (inr o))

-- ---- what is kept

-- streams with the numbers that they had
pub kept_went : (end : PlainProducer) (streams : List PlainStream) → ids_of streams ≡ ids_of end.streams → AreKept end → AreKept (record end { streams = streams })
kept_went end streams same kept =
    let k = kept_same end.desk.base end.asked end.streams streams (record { ids = ids_of end.streams; turn = 0 }) same kept in
    record { ids = refl; rise = k.rise; numbered = k.numbered; turn = omega arith }

pub kept_over : (end : PlainProducer) (id : ℕ) → AreKept end → AreKept (record end { streams = without_id id end.streams })
kept_over end id kept =
    let k = kept_less end.desk.base end.asked id end.streams (record { ids = ids_of end.streams; turn = 0 }) kept in
    record { ids = refl; rise = k.rise; numbered = k.numbered; turn = omega arith }

-- one more was asked for, and opened or not
pub kept_asked : (end : PlainProducer) → AreKept end → AreKept (record end { asked = end.asked + 1 })
kept_asked end kept = record {
  ids = refl;
  rise = kept.rise;
  numbered = All-weaker (λ s. s.id ≤ end.desk.base * 2 ^ 32 + end.asked) (λ s. s.id ≤ end.desk.base * 2 ^ 32 + (end.asked + 1)) (λ s l. omega (arith, l)) end.streams kept.numbered;
  turn = omega arith;
}

pub kept_opened : (end : PlainProducer) (new : PlainStream) → new.id ≡ end.desk.base * 2 ^ 32 + (end.asked + 1) → AreKept end → AreKept (with_opened new (record end { asked = end.asked + 1 }))
kept_opened end new is kept =
    let k = kept_more end.desk.base (end.asked + 1) end.streams (record { ids = ids_of end.streams; turn = 0 }) new
    (All-weaker (λ s. s.id ≤ end.desk.base * 2 ^ 32 + end.asked) (λ s. s.id < new.id) (λ s l. omega (arith, l, is)) end.streams kept.numbered) (omega (arith, is)) (kept_asked end kept) in
    record { ids = refl; rise = k.rise; numbered = k.numbered; turn = omega arith }
