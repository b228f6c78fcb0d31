-- the parts of a gathered list, client by client
use Rattle.std.proofs.Common.{◌≡◌, ◌≢◌, ℕ, zero, suc, ◌+◌, ◌^◌, ◌<◌, ◌≤◌, ◌⊎◌, ◌||◌, Bool, true, false, List, [], ◌∷◌, ◌++◌, length, map, get_or, Some, slice_get, refl, sym, ap, ◌∙◌, subst, arith, inl, inr}
use Rattle.std.specs.Prelude.{All}
use Rattle.std.specs.List.{AllByRecursion, flat_map, list_any}
use Rattle.std.specs.Str.{bytes_eq}
use Rattle.std.proofs.lemmas.Bool.{false_from_ne_true}
use Rattle.std.proofs.lemmas.Fmt.{decimal_injective}
use Rattle.std.proofs.lemmas.Slice.Eq.{bytes_eq-Decides}
use Rattle.std.specs.Prelude.{drop}
use mathlib.Core.Logic.{dite}
use native.Mathlib.Decide.{ℕ_discrete}
use Rattle.vb_types.specs.declared.write.Write.{Write}
use Rattle.vb_calls.specs.declared.calls.VbCall.{VbCall}
use Rattle.vb_calls.specs.declared.calls.VbCall.TheVariants as call
use Rattle.vb_calls.specs.declared.calls.VbReply.{VbReply}
use Rattle.vb_turn.specs.Turning.{Placed}
use Rattle.storm_model.specs.Histories.{HasOwner, IsStore, is_by, is_call_by, is_storm_call, owner, stores, write_in}
use Rattle.storm_model.specs.Merging.{HasPlace, IsAll, OnlyIn, Rising, Stand, entries}
use Rattle.storm_model.specs.Writes.{client_name, writes_of}
use Rattle.storm_model.proofs.Owners.{AreBy, all_both, writes_by}
use Rattle.storm_model.proofs.Parts.{part_has_all}
use Rattle.storm_seats.specs.Gathering.{AllFrom, IsPart, joined}
use Rattle.storm_seats.specs.Views.{AreStoresOf, Entry, openings, placed_openings}

no : {A : Type 0} → false ≡ true → A
no e = absurd (cc e)

-- ---- places

pub stand : (log : List Entry) (mine : List (ℕ × Entry)) → Placed log mine → Stand log mine
stand log [] p = tt
stand log (m ∷ ms) p = (p 0 m (omega arith), stand log ms (λ k d l. p (suc k) d (omega arith)))

stand_front : (log : List Entry) (xs ys : List (ℕ × Entry)) → Stand log (xs ++ ys) → Stand log xs
stand_front log [] ys s = tt
stand_front log (x ∷ xs) ys s = (s.0, stand_front log xs ys s.1)

stand_behind : (log : List Entry) (xs ys : List (ℕ × Entry)) → Stand log (xs ++ ys) → Stand log ys
stand_behind log [] ys s = s
stand_behind log (x ∷ xs) ys s = stand_behind log xs ys s.1

stand_part : (log : List Entry) (parts : List (List (ℕ × Entry))) (c : ℕ) → Stand log (joined parts) → Stand log (get_or parts c [])
stand_part log [] c s = tt
stand_part log (p ∷ ps) zero s = stand_front log p (joined ps) s
stand_part log (p ∷ ps) (suc c) s = stand_part log ps c (stand_behind log p (joined ps) s)

pub stand_one : (log : List Entry) (v : ℕ) (parts : List (List (ℕ × Entry))) (c : ℕ) → Stand log (placed_openings v ++ joined parts) → Stand log (get_or parts c [])
stand_one log v parts c s = stand_part log parts c s.1.1

rising_low : (low from : ℕ) (ms : List (ℕ × Entry)) → low ≤ from → Rising from ms → Rising low ms
rising_low low from [] l r = tt
rising_low low from (m ∷ ms) l r = let h = r.0 in (omega arith, r.1)

pub rising_one : (seed writes v n : ℕ) (parts : List (List (ℕ × Entry))) (c : ℕ) → AllFrom (IsPart seed writes v) n parts → Rising 0 (get_or parts c [])
rising_one seed writes v n [] c a = tt
rising_one seed writes v n (p ∷ ps) zero a = rising_low 0 2 p (omega arith) a.0.0
rising_one seed writes v n (p ∷ ps) (suc c) a = rising_one seed writes v (suc n) ps c a.1

-- ---- whose is whose

calls_in : (part : List (ℕ × Entry)) → stores (entries part) ≡ flat_map write_in (map (λ m. m.1.0) part)
calls_in [] = refl
calls_in (m ∷ ms) = ap (λ t. write_in m.1.0 ++ t) (calls_in ms)

calls_out : (ws : List Write) → flat_map write_in (map (λ w. call.Store w 0) ws) ≡ ws
calls_out [] = refl
calls_out (w ∷ ws) = ap (λ t. w ∷ t) (calls_out ws)

stores_of : (ws : List Write) (part : List (ℕ × Entry)) → AreStoresOf ws part → stores (entries part) ≡ ws
stores_of ws part a = calls_in part ∙ ap (flat_map write_in) a ∙ calls_out ws

pub own_one : (seed writes v n : ℕ) (parts : List (List (ℕ × Entry))) (c : ℕ) → AllFrom (IsPart seed writes v) n parts → c < length parts → stores (entries (get_or parts c [])) ≡ writes_of seed (n + c) writes v
own_one seed writes v n [] c a l = absurd (omega arith)
own_one seed writes v n (p ∷ ps) zero a l = let e : n ≡ n + 0 = omega arith in stores_of (writes_of seed n writes v) p a.0.1 ∙ ap (λ k. writes_of seed k writes v) e
own_one seed writes v n (p ∷ ps) (suc c) a l = let e : suc n + c ≡ n + suc c = omega arith in own_one seed writes v (suc n) ps c a.1 (omega arith) ∙ ap (λ k. writes_of seed k writes v) e

same_bytes : (a b : List ℕ) → bytes_eq a b ≡ true → a ≡ b
same_bytes a b e = (bytes_eq-Decides a b).0 e

by_own : (d : ℕ) (w : Write) → owner w.key ≡ client_name d → is_by d w ≡ true
by_own d w o = (bytes_eq-Decides (owner w.key) (client_name d)).1 o

by_another : (c d : ℕ) (w : Write) → c < 2 ^ 64 → d < 2 ^ 64 → c ≢ d → owner w.key ≡ client_name d → is_by c w ≡ false
by_another c d w small low ne o = false_from_ne_true (is_by c w) (λ e. ne (sym (decimal_injective d c low small (ap (drop 1) (sym o ∙ same_bytes (owner w.key) (client_name c) e)))))

-- the first of two lists that are equal
head_is : {A : Type 0} (x y : A) (xs ys : List A) → x ∷ xs ≡ y ∷ ys → x ≡ y
head_is x y xs ys e = cc e

tail_is : {A : Type 0} (x y : A) (xs ys : List A) → x ∷ xs ≡ y ∷ ys → xs ≡ ys
tail_is x y xs ys e = cc e

-- ---- which part has a client's

only_both : (is : Entry → Bool) (xs ys part : List (ℕ × Entry)) → OnlyIn is xs part → OnlyIn is ys part → OnlyIn is (xs ++ ys) part
only_both is [] ys part a b = b
only_both is (x ∷ xs) ys part a b = (a.0, only_both is xs ys part a.1 b)

only_own : (is : Entry → Bool) (ms part : List (ℕ × Entry)) → ((x : ℕ) → HasPlace x ms → HasPlace x part) → OnlyIn is ms part
only_own is [] part f = tt
only_own is (m ∷ ms) part f = ((λ e. f m.0 (inl refl)), only_own is ms part (λ x h. f x (inr h)))

none_of : (c d : ℕ) (ws : List Write) (ms part : List (ℕ × Entry)) → c < 2 ^ 64 → d < 2 ^ 64 → c ≢ d → AreBy d ws → AreStoresOf ws ms → OnlyIn (is_call_by c) ms part
none_of c d ws [] part small low ne b a = tt
none_of c d [] (m ∷ ms) part small low ne b a = absurd (cc a)
none_of c d (w ∷ ws) (m ∷ ms) part small low ne b a =
    let head : m.1.0 ≡ call.Store w 0 = head_is m.1.0 (call.Store w 0) (map (λ m. m.1.0) ms) (map (λ w. call.Store w 0) ws) a in
    let other : is_call_by c m.1 ≡ false = ap (λ (k : VbCall). list_any (is_by c) (write_in k)) head ∙ ap (λ t. t || false) (by_another c d w small low ne b.0) in (
      (λ e. no (sym other ∙ e)),
      none_of c d ws ms part small low ne b.1 (tail_is m.1.0 (call.Store w 0) (map (λ m. m.1.0) ms) (map (λ w. call.Store w 0) ws) a),
    )

only_parts : (seed writes v c n : ℕ) (parts : List (List (ℕ × Entry))) (part : List (ℕ × Entry)) → c < 2 ^ 64 → n + length parts ≤ 2 ^ 64 → AllFrom (IsPart seed writes v) n parts
    → ((k : ℕ) → c ≡ n + k → k < length parts → part ≡ get_or parts k []) → OnlyIn (is_call_by c) (joined parts) part
only_parts seed writes v c n [] part small low a f = tt
only_parts seed writes v c n (p ∷ ps) part small low a f =
    only_both (is_call_by c) p (joined ps) part
    (dite (ℕ_discrete c n)
    (λ here. only_own (is_call_by c) p part (λ x h. subst (HasPlace x) (sym (f 0 (omega (arith, here)) (omega arith))) h))
    (λ other. none_of c n (writes_of seed n writes v) p part small (omega arith) other (writes_by seed n writes v) a.0.1))
    (only_parts seed writes v c (suc n) ps part small (omega arith) a.1 (λ k e l. f (suc k) (omega (arith, e)) (omega arith)))

pub only_one : (seed writes v c : ℕ) (parts : List (List (ℕ × Entry))) → c < 2 ^ 64 → length parts ≤ 2 ^ 64 → AllFrom (IsPart seed writes v) 0 parts → OnlyIn (is_call_by c) (placed_openings v ++ joined parts) (get_or parts c [])
only_one seed writes v c parts small low a =
    (λ e. no e, (λ e. no e, only_parts seed writes v c 0 parts (get_or parts c []) small (omega arith) a (λ k e l. let same : c ≡ k = omega (arith, e) in ap (λ i. get_or parts i []) same)))

-- ---- what each entry is

-- a storm's call, whose write is a client's; behind the openings it is a Store
abbrev pub Is : ℕ → ℕ → Entry → Type 0
Is clients k e = (is_storm_call e.0 ≡ true) × AllByRecursion (HasOwner clients) (write_in e.0) × ((k < 2) ⊎ IsStore e.0)

abbrev pub AreEach : ℕ → List (ℕ × Entry) → Type 0
AreEach clients mine = AllByRecursion (λ m. Is clients m.0 m.1) mine

store_is : (clients d : ℕ) (w : Write) (k : ℕ) (c : VbCall) (r : VbReply) → d < clients → owner w.key ≡ client_name d → c ≡ call.Store w 0 → Is clients k (c, r)
store_is clients d w k c r l o e = subst (λ (x : VbCall). Is clients k (x, r)) (sym e) (refl, ((d, l, by_own d w o), tt), inr refl)

each_of : (clients d : ℕ) (ws : List Write) (ms : List (ℕ × Entry)) → d < clients → AreBy d ws → AreStoresOf ws ms → AreEach clients ms
each_of clients d ws [] l b a = tt
each_of clients d [] (m ∷ ms) l b a = absurd (cc a)
each_of clients d (w ∷ ws) (m ∷ ms) l b a = (
  store_is clients d w m.0 m.1.0 m.1.1 l b.0 (head_is m.1.0 (call.Store w 0) (map (λ m. m.1.0) ms) (map (λ w. call.Store w 0) ws) a),
  each_of clients d ws ms l b.1 (tail_is m.1.0 (call.Store w 0) (map (λ m. m.1.0) ms) (map (λ w. call.Store w 0) ws) a),
)

each_part : (seed writes v clients n : ℕ) (parts : List (List (ℕ × Entry))) → n + length parts ≤ clients → AllFrom (IsPart seed writes v) n parts → AreEach clients (joined parts)
each_part seed writes v clients n [] l a = tt
each_part seed writes v clients n (p ∷ ps) l a =
    all_both (λ (m : ℕ × Entry). Is clients m.0 m.1) p (joined ps) (each_of clients n (writes_of seed n writes v) p (omega arith) (writes_by seed n writes v) a.0.1) (each_part seed writes v clients (suc n) ps (omega arith) a.1)

each_all : (seed writes v clients : ℕ) (parts : List (List (ℕ × Entry))) → length parts ≤ clients → AllFrom (IsPart seed writes v) 0 parts → AreEach clients (placed_openings v ++ joined parts)
each_all seed writes v clients parts l a = ((refl, tt, inl (omega arith)), ((refl, tt, inl (omega arith)), each_part seed writes v clients 0 parts (omega arith) a))

is_there : (clients x : ℕ) (log : List Entry) (e : Entry) (mine : List (ℕ × Entry)) → Stand log mine → AreEach clients mine → slice_get log x ≡ Some e → HasPlace x mine → Is clients x e
is_there clients x log e [] s a at h = absurd h
is_there clients x log e (m ∷ ms) s a at (inl here) =
    let same : m.1 ≡ e = cc (s.0, at, ap (slice_get log) here) in
    subst (λ (d : Entry). Is clients x d) same (subst (λ (k : ℕ). Is clients k m.1) (sym here) a.0)
is_there clients x log e (m ∷ ms) s a at (inr there) = is_there clients x log e ms s.1 a.1 at there

-- each entry of the history is one of the gathered ones
pub each_is : (seed writes v clients : ℕ) (parts : List (List (ℕ × Entry))) (log : List Entry) → length parts ≤ clients → AllFrom (IsPart seed writes v) 0 parts
    → Stand log (placed_openings v ++ joined parts) → IsAll (placed_openings v ++ joined parts) log → (x : ℕ) (e : Entry) → slice_get log x ≡ Some e → Is clients x e
each_is seed writes v clients parts log l a s all x e at =
    let mine = placed_openings v ++ joined parts in
    is_there clients x log e mine s (each_all seed writes v clients parts l a) at (part_has_all (λ d. true) log mine mine s all (only_own (λ d. true) mine mine (λ k h. h)) x e at refl)

pub all_log : (P : Entry → Type 0) (log : List Entry) → ((x : ℕ) (e : Entry) → slice_get log x ≡ Some e → P e) → AllByRecursion P log
all_log P [] f = tt
all_log P (e ∷ log) f = (f 0 e refl, all_log P log (λ x d at. f (suc x) d at))

pub all_stores : (P : Write → Type 0) (log : List Entry) → AllByRecursion (λ e. AllByRecursion P (write_in e.0)) log → AllByRecursion P (stores log)
all_stores P [] a = tt
all_stores P (e ∷ log) a = all_both P (write_in e.0) (stores log) a.0 (all_stores P log a.1)
