-- whose turn it is, by the lists of those ahead and those behind
use Rattle.std.proofs.Common.{◌≡◌, ℕ, zero, suc, ◌+◌, ◌-◌, ◌<◌, ◌≤◌, Bool, true, false, [], ◌∷◌, ◌++◌, length, refl, ap, sym, ◌∙◌, subst, arith}
use Rattle.std.specs.Prelude.{nat_lt, take, drop, get_or, slice_get, Some, None, if◌then◌else◌}
use Rattle.std.proofs.Math.Seq.{drop-cons, take-suc, drop-length, take-length}
use Rattle.std.proofs.Math.Numerals.{suc-eq-add-one}
use Rattle.std.proofs.lemmas.Option.{slice_get-get_or}
use Rattle.std.proofs.lemmas.List.{append_assoc, append-nil, take-append-le, drop-append-le, length-drop, length-take-le, length-append}
use Rattle.std.proofs.lemmas.Bool.Decides.{nat_tests}
use Rattle.flow_control.specs.Rings.{PlainRing, IsRing, at_turn, next_id, passed, turned, opened}
use Rattle.flow_control.specs.Laws.{ahead, behind, in_turn, given, next_ids, Turn, RingsTurn}
use Rattle.flow_control.proofs.Closing.{closes}

-- the one at a place is next
turn_at : (r : PlainRing) (at : ℕ) → at_turn r ≡ at → at < length r.ids → in_turn r ≡ drop at r.ids ++ take at r.ids → Turn r
turn_at r at e l h =
    let id : ℕ = get_or r.ids at 0 in
    let next : next_id r ≡ Some id = ap (slice_get r.ids) e ∙ slice_get-get_or r.ids at 0 l in
    let moved : turned r ≡ record r { turn = at + 1 } = ap (passed r) next ∙ ap (λ n. record r { turn = n + 1 }) e in
    let plus : suc at ≡ at + 1 = suc-eq-add-one at in
    let step : take (at + 1) r.ids ≡ take at r.ids ++ id ∷ [] = ap (λ n. take n r.ids) (sym plus) ∙ take-suc r.ids at 0 l in
    let front : drop at r.ids ≡ id ∷ drop (at + 1) r.ids = drop-cons r.ids at 0 l ∙ ap (λ n. id ∷ drop n r.ids) plus in
    record {
      id = id;
      rest = drop (at + 1) r.ids ++ take at r.ids;
      first = h ∙ ap (λ xs. xs ++ take at r.ids) front;
      next = next;
      last = ap in_turn moved ∙ ap (λ xs. drop (at + 1) r.ids ++ xs) step ∙ sym (append_assoc (drop (at + 1) r.ids) (take at r.ids) (id ∷ []));
      had = (take at r.ids, ap behind moved ∙ step);
      ring = subst IsRing (sym moved) (omega arith);
      same = ap (λ s. s.ids) moved;
    }

-- the ring is at its end
wrapped : (r : PlainRing) → r.turn ≡ length r.ids → in_turn r ≡ drop 0 r.ids ++ take 0 r.ids
wrapped r e =
    ap (λ n. drop n r.ids ++ take n r.ids) e ∙ ap (λ xs. xs ++ take (length r.ids) r.ids) (drop-length r.ids) ∙ take-length r.ids ∙ sym (append-nil r.ids)

by_turn : (r : PlainRing) → IsRing r → (b : Bool) → nat_lt r.turn (length r.ids) ≡ b → 0 < length r.ids → Turn r
by_turn r i true e l = turn_at r r.turn (ap (λ b. if b then r.turn else 0) e) (grind (arith, nat_tests)) refl
by_turn r i false e l = turn_at r 0 (ap (λ b. if b then r.turn else 0) e) l (wrapped r (grind (arith, nat_tests)))

turn : (r : PlainRing) → IsRing r → 0 < length r.ids → Turn r
turn r i l = by_turn r i (nat_lt r.turn (length r.ids)) refl l

opens : (r : PlainRing) (id : ℕ) → IsRing r → in_turn (opened id r) ≡ (ahead r ++ id ∷ []) ++ behind r
opens r id i =
    ap (λ xs. xs ++ take r.turn (r.ids ++ id ∷ [])) (drop-append-le r.turn r.ids (id ∷ []) i) ∙ ap (λ xs. (ahead r ++ id ∷ []) ++ xs) (take-append-le r.turn r.ids (id ∷ []) i)

-- as many are in turn as are open
long : (r : PlainRing) → IsRing r → length (in_turn r) ≡ length r.ids
long r i =
    let d : length (ahead r) ≡ length r.ids - r.turn = length-drop r.turn r.ids in
    let t : length (behind r) ≡ r.turn = length-take-le r.turn r.ids i in
    let s : length (in_turn r) ≡ length (ahead r) + length (behind r) = length-append (ahead r) (behind r) in omega arith

all : (n : ℕ) (r : PlainRing) → IsRing r → n ≤ length r.ids → next_ids n r ≡ take n (in_turn r)
all zero r i l = refl
all (suc n) r i l =
    let t : Turn r = turn r i (omega arith) in
    let s : suc (length t.rest) ≡ length r.ids = sym (ap length t.first) ∙ long r i in
    let m : n ≤ length (turned r).ids = subst (λ ids. n ≤ length ids) (sym t.same) (omega arith) in
    ap (λ o. given o (next_ids n (turned r))) t.next
    ∙ ap (λ xs. t.id ∷ xs) (all n (turned r) t.ring m ∙ ap (take n) t.last ∙ take-append-le n t.rest (t.id ∷ []) (omega arith))
    ∙ ap (take (suc n)) (sym t.first)

-- with nobody open it is nobody's turn
nobody : (r : PlainRing) → r.ids ≡ [] → next_id r ≡ None
nobody r e = ap (λ ids. slice_get ids (if nat_lt r.turn (length ids) then r.turn else 0)) e

pub rings_turn : RingsTurn
rings_turn = record {
  none = refl;
  turn = turn;
  quiet = λ r e. (nobody r e, ap (passed r) (nobody r e));
  opens = opens;
  closes = closes;
  all = all;
}
