-- whose turn it is among a client's streams, and the order of turns behind it
use Rattle.std.specs.Prelude.{◌≡◌, ◌≢◌, ◌≤◌, ◌<◌, ◌++◌, ◌∷◌, ◌⊎◌, ◌==◌, nat_le, nat_lt}
use Rattle.transcript_law.proofs.Words.{ℕ, suc, Bool, true, false, List, [], length, map, take, drop, nat_tests, refl, sym, ap, ◌∙◌, subst, inl, inr, ⊎_elim, arith, take-append-drop, Some, All, All-cons, All-head, All-nil, All-tail, PlainProducer, PlainStream, eq-eqb, if◌then◌else◌, ne_eqb}
use Rattle.dcp_producer.proofs.{Framing.{Same}, Turning.{InTurn, in_turn, order_with, turn_is, turned_so}}
use Rattle.dcp_producer.specs.{Having.{AreOfOthers, IsSound, NoneOf}, Producers.{Rising, stream_at as kept_at, with_turn}, Pulling.{stream_in_turn}, Turns.{turns_of}}
use Rattle.std.proofs.lemmas.{Bool.{leb-true}, List.{drop_all, length-map, take_all}}
use Rattle.transcript_law.proofs.indexers.Streams.{AreOne}
use Rattle.transcript_law.proofs.invariant.OpenStreams.{AreKept, Among}

all_above : (id : ℕ) (streams : List PlainStream) (t : PlainStream) → All (λ s. id < s.id) streams → Among t streams → id < t.id
all_above id [] t all i = absurd i
all_above id (s ∷ more) t all i = ⊎_elim (λ e. subst (λ (x : PlainStream). id < x.id) (sym e) (All-head (λ x. id < x.id) s more all)) (λ j. all_above id more t (All-tail (λ x. id < x.id) s more all) j) i

-- streams each of which is the one of its vBucket are of different ones
none_of : (v : ℕ) (streams : List PlainStream) → ((t : PlainStream) → Among t streams → t.vb ≡ v → ⊥) → NoneOf v streams
none_of v [] none = All-nil (λ (o : PlainStream). o.vb ≢ v)
none_of v (s ∷ more) none = All-cons (λ (o : PlainStream). o.vb ≢ v) s more (none s (inl refl)) (none_of v more (λ t i. none t (inr i)))

of_others : (streams : List PlainStream) → Rising streams → AreOne streams → AreOfOthers streams
of_others [] rise one = tt
of_others (s ∷ more) rise one = (none_of s.vb more apart, of_others more rise.1 rest)
  where
    apart : (t : PlainStream) → Among t more → t.vb ≡ s.vb → ⊥
    apart t i e =
        let first : kept_at t.vb (s ∷ more) ≡ Some s = ap (λ b. if b then Some s else kept_at t.vb more) (eq-eqb s.vb t.vb (sym e)) in
        let same : Some s ≡ Some t = sym first ∙ one t (inr i) in let is : s ≡ t = cc in
        let above : s.id < t.id = all_above s.id more t rise.0 i in let even : s.id ≡ t.id = ap (λ (x : PlainStream). x.id) is in omega (arith, above, even)

    rest : AreOne more
    rest t i = sym (ap (λ b. if b then Some s else kept_at t.vb more) (ne_eqb s.vb t.vb (λ e. apart t i (sym e)))) ∙ one t (inr i)

pub among_append : (t : PlainStream) (xs ys : List PlainStream) → Among t (xs ++ ys) → Among t xs ⊎ Among t ys
among_append t [] ys i = inr i
among_append t (x ∷ xs) ys (inl e) = inl (inl e)
among_append t (x ∷ xs) ys (inr i) = ⊎_elim (λ j. inl (inr j)) (λ j. inr j) (among_append t xs ys i)

among_left : (t : PlainStream) (xs ys : List PlainStream) → Among t xs → Among t (xs ++ ys)
among_left t [] ys i = absurd i
among_left t (x ∷ xs) ys (inl e) = inl e
among_left t (x ∷ xs) ys (inr i) = inr (among_left t xs ys i)

among_right : (t : PlainStream) (xs ys : List PlainStream) → Among t ys → Among t (xs ++ ys)
among_right t [] ys i = i
among_right t (x ∷ xs) ys i = inr (among_right t xs ys i)

-- each stream has its turn
pub among_order : (end : PlainProducer) (t : PlainStream) → Among t end.streams → Among t (turns_of end)
among_order end t i = ⊎_elim (λ j. among_right t (drop end.turn end.streams) (take end.turn end.streams) j) (λ j. among_left t (drop end.turn end.streams) (take end.turn end.streams) j)
    (among_append t (take end.turn end.streams) (drop end.turn end.streams) (subst (Among t) (sym (take-append-drop end.turn end.streams)) i))

-- the stream that has its turn, and those behind it
pub record Round (end : PlainProducer) : Type 0 where
  pub stream : PlainStream
  pub behind : List PlainStream
  pub order : turns_of end ≡ stream ∷ behind
  pub turned : stream_in_turn end ≡ Some stream
  pub after : turns_of (with_turn end) ≡ behind ++ stream ∷ []

same_stream : (t : PlainStream) → Same t t
same_stream t = record { id = refl; vb = refl; opaque = refl; until = refl; ended = refl }

-- where the turn is at one of them, or at their end
early_round : (end : PlainProducer) → IsSound end → 0 < length end.streams → Round end
early_round end sound some = let t : InTurn end = in_turn end sound some in record {
  stream = t.stream;
  behind = t.back ++ t.front;
  order = t.order;
  turned = turn_is end sound t;
  after = ap turns_of (turned_so end sound t) ∙ order_with end sound t t.stream (same_stream t.stream);
}

-- and where it is behind that, as after streams were closed: the first one has it
first_turned : (end : PlainProducer) (x : PlainStream) (xs : List PlainStream) → nat_lt end.turn (suc (length (map (λ (s : PlainStream). s.id) xs))) ≡ false → (with_turn (record end { streams = x ∷ xs })).turn ≡ 1
first_turned end x xs e = cc

first_in_turn : (end : PlainProducer) (x : PlainStream) (xs : List PlainStream) → nat_lt end.turn (suc (length (map (λ (s : PlainStream). s.id) xs))) ≡ false → (x.id == x.id) ≡ true → stream_in_turn (record end { streams = x ∷ xs }) ≡ Some x
first_in_turn end x xs e same = cc

late_round : (end : PlainProducer) (x : PlainStream) (xs : List PlainStream) → suc (length xs) ≤ end.turn → Round (record end { streams = x ∷ xs })
late_round end x xs far =
    let test : nat_lt end.turn (suc (length (map (λ (s : PlainStream). s.id) xs))) ≡ false = (let long = length-map xs (λ (s : PlainStream). s.id) in grind (arith, nat_tests, far, long)) in
    record {
      stream = x;
      behind = xs;
      order = λ i. drop_all end.turn (x ∷ xs) far i ++ take_all end.turn (x ∷ xs) far i;
      turned = first_in_turn end x xs test (eq-eqb x.id x.id refl);
      after = ap (λ k. drop k (x ∷ xs) ++ take k (x ∷ xs)) (first_turned end x xs test);
    }

pub round : (end : PlainProducer) → AreKept end → AreOne end.streams → 0 < length end.streams → Round end
round end kept one some = by (nat_le end.turn (length end.streams)) refl
  where
    late : (xs : List PlainStream) → end.streams ≡ xs → 0 < length xs → length xs ≤ end.turn → Round end
    late [] e low far = absurd (omega (arith, low))
    late (x ∷ xs) e low far = subst (λ ys. Round (record end { streams = ys })) (sym e) (late_round end x xs far)

    by : (b : Bool) → nat_le end.turn (length end.streams) ≡ b → Round end
    by true e = early_round end (record { apart = of_others end.streams kept.rise one; rise = kept.rise; numbered = kept.numbered; turn = leb-true end.turn (length end.streams) e }) some
    by false e = late end.streams refl some (let l : length end.streams < end.turn = grind (arith, nat_tests, e) in omega (arith, l))
