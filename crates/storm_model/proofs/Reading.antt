-- a reader takes all, and its image has the documents
use Rattle.std.proofs.Common.{◌≡◌, ℕ, zero, suc, ◌<◌, ◌≤◌, ◌==◌, ◌&&◌, ◌||◌, not, Bool, true, false, cond, is_some, List, [], ◌∷◌, ◌++◌, map, length, refl, ap, sym, ◌∙◌, subst, append_assoc, append-nil, arith}
use Rattle.std.specs.Prelude.{Option, Some, None, nat_le, nat_lt, if◌then◌else◌, option_map}
use Rattle.std.specs.List.{AllByRecursion, filter, find, flat_map, fold, list_any}
use Rattle.std.specs.Option.{option_or}
use Rattle.std.specs.FinMap as finite
use Rattle.std.specs.Str.{bytes_eq}
use Rattle.std.proofs.lemmas.Bool.Decides.{nat_tests}
use Rattle.std.proofs.lemmas.List.Sums.{fold-append}
use Rattle.std.proofs.lemmas.Slice.Eq.{bytes_eq-Decides}
use mathlib.Core.Logic.{dite}
use native.Mathlib.Decide.{ℕ_discrete}
use Rattle.vb_types.specs.Histories.{Slot, is_visible, last_of, plain, touches}
use Rattle.vb_types.specs.Images.{Picture, applied, nothing}
use Rattle.vb_types.specs.Lasts.{doc_by_last}
use Rattle.vb_types.specs.declared.change.Act.{Act}
use Rattle.vb_types.specs.declared.change.Change.{Change}
use Rattle.vb_types.proofs.Folds.{doc_fold}
use Rattle.vb_calls.specs.declared.calls.VbCall.TheVariants as call
use Rattle.vb_calls.specs.declared.span.Span.{Span}
use Rattle.vb_calls.specs.declared.span.Origin.{Origin}
use Rattle.vb_calls.specs.declared.span.Origin.TheVariants.{Own}
use Rattle.vb_calls.specs.declared.stream.Stream.{Stream}
use Rattle.vb_calls.specs.State.{Plain}
use Rattle.vb_calls.specs.Plain.{plain_step}
use Rattle.vb_calls.specs.Spans.{all_spans, is_whole, key_lasts, live_in, live_of, starts_below, stretch}
use Rattle.vb_calls.specs.Streams.{end_span, has_any, is_seen, items_to, may_end, moved_on, need_of, sent_as, span_items, stream_at, take_from, take_to}
use Rattle.vb_calls.proofs.Placing.{changed_at, moved_id}
use Rattle.storm_model.specs.Sums.{read, taken_in}
use Rattle.storm_model.proofs.Draining.{below, chain_front, not_below}
use Rattle.storm_model.proofs.Lining.{Chain, IsSet, Numbered, chain_rises, reader}

no : {A : Type 0} → false ≡ true → A
no e = absurd (cc e)

at_most : (a b : ℕ) (t : Bool) → nat_le a b ≡ t → a ≤ b → nat_le a b ≡ true
at_most a b true e l = e
at_most a b false e l = absurd (grind (arith, nat_tests))

not_at_most : (a b : ℕ) (t : Bool) → nat_le a b ≡ t → b < a → nat_le a b ≡ false
not_at_most a b true e l = absurd (grind (arith, nat_tests))
not_at_most a b false e l = e

lt_is : (a b : ℕ) → a < b → nat_lt a b ≡ true
lt_is a b l = below a b (nat_lt a b) refl l

lt_not : (a b : ℕ) → b ≤ a → nat_lt a b ≡ false
lt_not a b l = not_below a b (nat_lt a b) refl l

le_is : (a b : ℕ) → a ≤ b → nat_le a b ≡ true
le_is a b l = at_most a b (nat_le a b) refl l

le_not : (a b : ℕ) → b < a → nat_le a b ≡ false
le_not a b l = not_at_most a b (nat_le a b) refl l

both_false : (a : Bool) → (a && false) ≡ false
both_false true = refl
both_false false = refl

-- ---- stretches of numbered changes

-- a change stands in the stretch above one number and up to another
abbrev within : ℕ → ℕ → Change → Bool
within low high c = nat_lt low c.seq && nat_le c.seq high

in_stretch : (low high : ℕ) (c : Change) → low < c.seq → c.seq ≤ high → within low high c ≡ true
in_stretch low high c a b = (λ i. lt_is low c.seq a i && le_is c.seq high b i)

past_stretch : (low high : ℕ) (c : Change) → high < c.seq → within low high c ≡ false
past_stretch low high c a = ap (λ t. nat_lt low c.seq && t) (le_not c.seq high a) ∙ both_false (nat_lt low c.seq)

before_stretch : (low high : ℕ) (c : Change) → c.seq ≤ low → within low high c ≡ false
before_stretch low high c a = ap (λ t. t && nat_le c.seq high) (lt_not low c.seq a)

-- above the end of the stretch there is none of it
pub stretch_past : (from n low high : ℕ) (cs : List Change) → Numbered from n cs → high ≤ from → stretch low high cs ≡ []
stretch_past from n low high [] h l = refl
stretch_past from n low high (c ∷ cs) h l = let e = h.0 in
    ap (λ t. cond t (c ∷ stretch low high cs) (stretch low high cs)) (past_stretch low high c (omega (arith, e, l))) ∙ stretch_past c.seq n low high cs h.2 (omega (arith, e, l))

-- where all lie above both, the lower number does not matter
stretch_low : (from n a b high : ℕ) (cs : List Change) → Numbered from n cs → a ≤ from → b ≤ from → stretch a high cs ≡ stretch b high cs
stretch_low from n a b high [] h k l = refl
stretch_low from n a b high (c ∷ cs) h k l = let e = h.0 in
    (λ i. cond ((ap (λ t. t && nat_le c.seq high) (lt_is a c.seq (omega (arith, e, k)) ∙ sym (lt_is b c.seq (omega (arith, e, l))))) i)
    (c ∷ stretch_low c.seq n a b high cs h.2 (omega (arith, e, k)) (omega (arith, e, l)) i) (stretch_low c.seq n a b high cs h.2 (omega (arith, e, k)) (omega (arith, e, l)) i))

-- a stretch, and the one behind it
stretch_split : (from n p high : ℕ) (cs : List Change) → Numbered from n cs → p ≤ high → stretch 0 high cs ≡ stretch 0 p cs ++ stretch p high cs
stretch_split from n p high [] h l = refl
stretch_split from n p high (c ∷ cs) h l = by (nat_le c.seq p) refl (stretch_split c.seq n p high cs h.2 l)
  where
    by : (t : Bool) → nat_le c.seq p ≡ t → stretch 0 high cs ≡ stretch 0 p cs ++ stretch p high cs → stretch 0 high (c ∷ cs) ≡ stretch 0 p (c ∷ cs) ++ stretch p high (c ∷ cs)
    by true e more = let is : c.seq ≤ p = grind (arith, nat_tests) in let one = h.0 in
        ap (λ t. cond t (c ∷ stretch 0 high cs) (stretch 0 high cs)) (in_stretch 0 high c (omega (arith, one)) (omega (arith, is, l)))
        ∙ ap (λ t. c ∷ t) more
        ∙ sym ((λ i. cond (in_stretch 0 p c (omega (arith, one)) is i) (c ∷ stretch 0 p cs) (stretch 0 p cs) ++ cond (before_stretch p high c is i) (c ∷ stretch p high cs) (stretch p high cs)))
    by false e more = let is : p < c.seq = grind (arith, nat_tests) in
        let one = h.0 in
        sym (ap (λ t. t ++ stretch p high (c ∷ cs))
        (ap (λ t. cond t (c ∷ stretch 0 p cs) (stretch 0 p cs)) (past_stretch 0 p c is) ∙ stretch_past c.seq n 0 p cs h.2 (omega (arith, is)))
        ∙ stretch_low from n p 0 high (c ∷ cs) h (omega (arith, one, is)) (omega arith))

-- all of them
stretch_all : (from n : ℕ) (cs : List Change) → Numbered from n cs → (high : ℕ) → n ≤ high → stretch 0 high cs ≡ cs
stretch_all from n [] h high l = refl
stretch_all from n (c ∷ cs) h high l = let e = h.0 in let r = rises c.seq n cs h.2 in
    ap (λ t. cond t (c ∷ stretch 0 high cs) (stretch 0 high cs)) (in_stretch 0 high c (omega (arith, e)) (omega (arith, r, l))) ∙ ap (λ t. c ∷ t) (stretch_all c.seq n cs h.2 high l)
  where
    rises : (a b : ℕ) (ds : List Change) → Numbered a b ds → a ≤ b
    rises a b [] k = omega (arith, k)
    rises a b (d ∷ ds) k = let e = k.0 in let m = rises d.seq b ds k.2 in omega (arith, e, m)

any_if : (t : Bool) (c : Change) (cs : List Change) → has_any cs ≡ true → has_any (cond t (c ∷ cs) cs) ≡ true
any_if true c cs e = refl
any_if false c cs e = e

-- a stretch that begins below its end has a change
stretch_some : (from n low high : ℕ) (cs : List Change) → Numbered from n cs → from ≤ low → low < high → high ≤ n → has_any (stretch low high cs) ≡ true
stretch_some from n low high [] h a b c = absurd (omega (arith, h, a, b, c))
stretch_some from n low high (d ∷ cs) h a b c = let e = h.0 in dite (ℕ_discrete from low)
    (λ here. ap (λ t. has_any (cond t (d ∷ stretch low high cs) (stretch low high cs))) (in_stretch low high d (omega (arith, e, here)) (omega (arith, e, here, b))))
    (λ other. any_if (within low high d) d (stretch low high cs) (stretch_some d.seq n low high cs h.2 (omega (arith, e, other, a)) b c))

-- ---- the last changes of the keys

-- each puts a document, above this seqno
abbrev pub AreSets : ℕ → List Change → Type 0
AreSets low cs = AllByRecursion (λ c. (low < c.seq) × IsSet c.act) cs

stretch_sets : (from n low high : ℕ) (cs : List Change) → Numbered from n cs → AreSets low (stretch low high cs)
stretch_sets from n low high [] h = tt
stretch_sets from n low high (c ∷ cs) h = by (nat_lt low c.seq) (nat_le c.seq high) refl (stretch_sets c.seq n low high cs h.2)
  where
    by : (t u : Bool) → nat_lt low c.seq ≡ t → AreSets low (stretch low high cs) → AreSets low (cond (t && u) (c ∷ stretch low high cs) (stretch low high cs))
    by true true e more = ((grind (arith, nat_tests), h.1), more)
    by true false e more = more
    by false u e more = more

lasts_sets : (low : ℕ) (cs : List Change) → AreSets low cs → AreSets low (key_lasts cs)
lasts_sets low [] s = tt
lasts_sets low (c ∷ cs) s = by (list_any (λ d. bytes_eq d.key c.key) cs) (lasts_sets low cs s.1)
  where
    by : (t : Bool) → AreSets low (key_lasts cs) → AreSets low (if t then key_lasts cs else c ∷ key_lasts cs)
    by true more = more
    by false more = (s.0, more)

lasts_some : (cs : List Change) → has_any cs ≡ true → has_any (key_lasts cs) ≡ true
lasts_some [] e = no e
lasts_some (c ∷ []) e = refl
lasts_some (c ∷ d ∷ cs) e = by (list_any (λ x. bytes_eq x.key c.key) (d ∷ cs)) (lasts_some (d ∷ cs) refl)
  where
    by : (t : Bool) → has_any (key_lasts (d ∷ cs)) ≡ true → has_any (if t then key_lasts (d ∷ cs) else c ∷ key_lasts (d ∷ cs)) ≡ true
    by true more = more
    by false more = refl

set_seen : (a : Act) → IsSet a → is_visible a ≡ true
set_seen a s = ap is_visible s.1

-- a change of the key is among these, so the key has a last one
key_has : (low : ℕ) (q k : List ℕ) (cs : List Change) → AreSets low cs → k ≡ q → list_any (λ d. bytes_eq d.key k) cs ≡ true → is_some (last_of (Slot.Committed q) cs) ≡ true
key_has low q k [] s e any = no any
key_has low q k (c ∷ cs) s e any = by (bytes_eq c.key k) refl any (key_has low q k cs s.1 e)
  where
    some : (o : Option Change) (x : Change) → is_some (option_or o (Some x)) ≡ true
    some None x = refl
    some (Some y) x = refl

    kept : (o p : Option Change) → is_some o ≡ true → is_some (option_or o p) ≡ true
    kept None p h = no h
    kept (Some y) p h = refl

    by : (t : Bool) → bytes_eq c.key k ≡ t → (t || list_any (λ d. bytes_eq d.key k) cs) ≡ true → (list_any (λ d. bytes_eq d.key k) cs ≡ true → is_some (last_of (Slot.Committed q) cs) ≡ true)
        → is_some (last_of (Slot.Committed q) (c ∷ cs)) ≡ true
    by true h a more =
        let here : touches (Slot.Committed q) c ≡ true = (λ i. (ap (bytes_eq c.key) (sym e) ∙ h) i && set_seen c.act s.0.1 i) in
        ap (λ t. is_some (option_or (last_of (Slot.Committed q) cs) (if t then Some c else None))) here ∙ some (last_of (Slot.Committed q) cs) c
    by false h a more = kept (last_of (Slot.Committed q) cs) (if touches (Slot.Committed q) c then Some c else None) (more a)

or_some : (o p : Option Change) → is_some o ≡ true → o ≡ option_or o p
or_some None p h = no h
or_some (Some y) p h = refl

or_none : (o : Option Change) → o ≡ option_or o None
or_none None = refl
or_none (Some y) = refl

-- the last changes have the same last one of each key
lasts_last : (low : ℕ) (q : List ℕ) (cs : List Change) → AreSets low cs → last_of (Slot.Committed q) (key_lasts cs) ≡ last_of (Slot.Committed q) cs
lasts_last low q [] s = refl
lasts_last low q (c ∷ cs) s = by (list_any (λ d. bytes_eq d.key c.key) cs) refl (bytes_eq c.key q) refl (lasts_last low q cs s.1)
  where
    by : (t : Bool) → list_any (λ d. bytes_eq d.key c.key) cs ≡ t → (b : Bool) → bytes_eq c.key q ≡ b → last_of (Slot.Committed q) (key_lasts cs) ≡ last_of (Slot.Committed q) cs
        → last_of (Slot.Committed q) (if t then key_lasts cs else c ∷ key_lasts cs) ≡ last_of (Slot.Committed q) (c ∷ cs)
    by false e b h more = ap (λ o. option_or o (if touches (Slot.Committed q) c then Some c else None)) more
    by true e true h more = more ∙ or_some (last_of (Slot.Committed q) cs) (if touches (Slot.Committed q) c then Some c else None) (key_has low q c.key cs s.1 ((bytes_eq-Decides c.key q).0 h) e)
    by true e false h more = more ∙ or_none (last_of (Slot.Committed q) cs)
        ∙ ap (λ t. option_or (last_of (Slot.Committed q) cs) (if t && is_visible c.act then Some c else None)) (sym h)

-- ---- what a snapshot has

plain_set : (c : Change) → IsSet c.act → plain c ≡ c
plain_set c s = subst (λ (a : Act). plain (record { seq = c.seq; key = c.key; act = a }) ≡ record { seq = c.seq; key = c.key; act = a }) (sym s.1) refl

sent_all : (low : ℕ) (cs : List Change) → AreSets low cs → map (sent_as true) (filter (λ c. nat_lt low c.seq && is_seen false c.act) cs) ≡ cs
sent_all low [] s = refl
sent_all low (c ∷ cs) s =
    ap (λ t. map (sent_as true) (cond t (c ∷ filter (λ d. nat_lt low d.seq && is_seen false d.act) cs) (filter (λ d. nat_lt low d.seq && is_seen false d.act) cs)))
    (λ i. lt_is low c.seq s.0.0 i && set_seen c.act s.0.1 i)
    ∙ (λ i. plain_set c s.0.1 i ∷ sent_all low cs s.1 i)

own_live : (w : Span) (h : List Change) (p : ℕ) → w.origin ≡ Own → w.above ≡ p → live_in w h ≡ key_lasts (stretch p w.last h)
own_live w h p o a = ap (λ (r : Origin). live_of r (stretch w.above w.last h)) o ∙ ap (λ (k : ℕ). key_lasts (stretch k w.last h)) a

items_of_span : (id p n : ℕ) (t : Bool) (w : Span) (h : List Change) → Numbered 0 n h → w.origin ≡ Own → w.above ≡ p → span_items (reader id p t) h w ≡ key_lasts (stretch p w.last h)
items_of_span id p n t w h num o a =
    ap (λ cs. map (sent_as true) (filter (λ c. nat_lt p c.seq && is_seen false c.act) cs)) (own_live w h p o a)
    ∙ sent_all p (key_lasts (stretch p w.last h)) (lasts_sets p (stretch p w.last h) (stretch_sets 0 n p w.last h num))

abbrev ends_in : ℕ → ℕ → Span → Bool
ends_in p end w = nat_lt p w.last && nat_le w.last end

front_out : (from p end : ℕ) (front rest : List Span) → Chain from p front → filter (ends_in p end) (front ++ rest) ≡ filter (ends_in p end) rest
front_out from p end [] rest h = refl
front_out from p end (w ∷ front) rest h = let r = chain_rises w.last p front h.3 in
    ap (λ t. cond (t && nat_le w.last end) (w ∷ filter (ends_in p end) (front ++ rest)) (filter (ends_in p end) (front ++ rest))) (lt_not p w.last (omega (arith, r)))
    ∙ front_out w.last p end front rest h.3

rest_out : (from n p end : ℕ) (rest : List Span) → Chain from n rest → end ≤ from → filter (ends_in p end) rest ≡ []
rest_out from n p end [] h l = refl
rest_out from n p end (w ∷ rest) h l = let r = h.1 in
    ap (λ t. cond t (w ∷ filter (ends_in p end) rest) (filter (ends_in p end) rest)) (ap (λ b. nat_lt p w.last && b) (le_not w.last end (omega (arith, r, l))) ∙ both_false (nat_lt p w.last))
    ∙ rest_out w.last n p end rest h.3 (omega (arith, r, l))

items_are : (id p n : ℕ) (t : Bool) (front : List Span) (w : Span) (rest : List Span) (h : List Change) → Numbered 0 n h → Chain 0 p front → Chain p n (w ∷ rest)
    → items_to (reader id p t) (front ++ w ∷ rest) h w.last ≡ key_lasts (stretch p w.last h)
items_are id p n t front w rest h num a b =
    ap (λ ws. flat_map (span_items (reader id p t) h) ws)
    (front_out 0 p w.last front (w ∷ rest) a
    ∙ ap (λ u. cond u (w ∷ filter (ends_in p w.last) rest) (filter (ends_in p w.last) rest)) (λ i. lt_is p w.last b.1 i && le_is w.last w.last (omega arith) i)
    ∙ ap (λ ws. w ∷ ws) (rest_out w.last n p w.last rest b.3 (omega arith)))
    ∙ append-nil (span_items (reader id p t) h w) ∙ items_of_span id p n t w h num b.2 b.0

-- no span is of a received snapshot
starts_none : (n : ℕ) (o : Origin) → o ≡ Own → starts_below n o ≡ false
starts_none n o e = ap (starts_below n) e

all_whole : (from to end : ℕ) (ws : List Span) → Chain from to ws → is_whole end ws ≡ true
all_whole from to end [] h = refl
all_whole from to end (w ∷ ws) h =
    ap (λ t. not (nat_lt end w.last && t) && is_whole end ws) (starts_none end w.origin h.2)
    ∙ ap (λ t. not t && is_whole end ws) (both_false (nat_lt end w.last)) ∙ all_whole w.last to end ws h.3

needs_none : (id p : ℕ) (t : Bool) → need_of (reader id p t) ≡ 0
needs_none id p true = refl
needs_none id p false = refl

chain_joined : (from p n : ℕ) (front rest : List Span) → Chain from p front → Chain p n rest → Chain from n (front ++ rest)
chain_joined from p n [] rest a b = subst (λ (k : ℕ). Chain k n rest) (sym a) b
chain_joined from p n (w ∷ front) rest a b = (a.0, a.1, a.2, chain_joined w.last p n front rest a.3 b)

may_end_here : (id p n : ℕ) (t : Bool) (front : List Span) (w : Span) (rest : List Span) (h : List Change) → Numbered 0 n h → Chain 0 p front → Chain p n (w ∷ rest)
    → may_end (reader id p t) (front ++ w ∷ rest) h w.last ≡ true
may_end_here id p n t front w rest h num a b =
    let any : has_any (items_to (reader id p t) (front ++ w ∷ rest) h w.last) ≡ true =
    let r = chain_rises w.last n rest b.3 in
    ap has_any (items_are id p n t front w rest h num a b) ∙ lasts_some (stretch p w.last h) (stretch_some 0 n p w.last h num (omega arith) b.1 (omega (arith, r))) in
    (λ i. (lt_is p w.last b.1 i && all_whole 0 n w.last (front ++ w ∷ rest) (chain_joined 0 p n front (w ∷ rest) a b) i
    && (ap (λ (k : ℕ). nat_le k w.last) (needs_none id p t) ∙ le_is 0 w.last (omega arith)) i) && any i)

may_not_end : (id p : ℕ) (t : Bool) (ws : List Span) (h : List Change) (end : ℕ) → end ≤ p → may_end (reader id p t) ws h end ≡ false
may_not_end id p t ws h end l =
    ap (λ b. (b && is_whole end ws && nat_le (need_of (reader id p t)) end) && has_any (items_to (reader id p t) ws h end)) (lt_not p end l)

front_ends : (id p : ℕ) (t : Bool) (ws : List Span) (h : List Change) (from : ℕ) (front rest : List Span) → Chain from p front
    → find (λ w. may_end (reader id p t) ws h w.last) (front ++ rest) ≡ find (λ w. may_end (reader id p t) ws h w.last) rest
front_ends id p t ws h from [] rest a = refl
front_ends id p t ws h from (w ∷ front) rest a = let r = chain_rises w.last p front a.3 in
    ap (λ b. cond b (Some w) (find (λ x. may_end (reader id p t) ws h x.last) (front ++ rest))) (may_not_end id p t ws h w.last (omega (arith, r)))
    ∙ front_ends id p t ws h w.last front rest a.3

ends_next : (id p n : ℕ) (t : Bool) (front : List Span) (w : Span) (rest : List Span) (h : List Change) → Numbered 0 n h → Chain 0 p front → Chain p n (w ∷ rest)
    → end_span (reader id p t) (front ++ w ∷ rest) h ≡ Some w
ends_next id p n t front w rest h num a b =
    front_ends id p t (front ++ w ∷ rest) h 0 front (w ∷ rest) a
    ∙ ap (λ u. cond u (Some w) (find (λ x. may_end (reader id p t) (front ++ w ∷ rest) h x.last) rest)) (may_end_here id p n t front w rest h num a b)

ends_none : (id p : ℕ) (t : Bool) (front : List Span) (h : List Change) → Chain 0 p front → end_span (reader id p t) (front ++ []) h ≡ None
ends_none id p t front h a = front_ends id p t (front ++ []) h 0 front [] a

-- ---- a take

found_moved : (id end : ℕ) (ss : List Stream) (s : Stream) → stream_at id ss ≡ Some s → stream_at id (map (moved_on id end) ss) ≡ Some (moved_on id end s)
found_moved id end ss s e = changed_at (moved_on id end) (moved_id id end) id ss ∙ ap (option_map (moved_on id end)) e

same_number : (id : ℕ) (t : Bool) → (id == id) ≡ t → t ≡ true
same_number id true e = refl
same_number id false e = absurd (grind (arith, nat_tests))

moved_reader : (id p end : ℕ) (t : Bool) → moved_on id end (reader id p t) ≡ reader id end true
moved_reader id p end t = ap (λ b. if b then reader id end true else reader id p t) (same_number id (id == id) refl)

-- the image that was read so far has the documents of the changes up to the place
abbrev pub ReadTo : Picture → List Change → ℕ → Type 0
ReadTo image h p = (q : List ℕ) → finite.get image.docs q ≡ finite.get (fold applied nothing (stretch 0 p h)).docs q

read_more : (image : Picture) (h : List Change) (p n high : ℕ) → Numbered 0 n h → p ≤ high → ReadTo image h p → ReadTo (fold applied image (key_lasts (stretch p high h))) h high
read_more image h p n high num l r q =
    doc_fold image (key_lasts (stretch p high h)) q
    ∙ (λ i. doc_by_last (lasts_last p q (stretch p high h) (stretch_sets 0 n p high h num) i) (r q i))
    ∙ sym (doc_fold (fold applied nothing (stretch 0 p h)) (stretch p high h) q)
    ∙ ap (λ (x : Picture). finite.get x.docs q) (sym (fold-append applied nothing (stretch 0 p h) (stretch p high h)))
    ∙ ap (λ cs. finite.get (fold applied nothing cs).docs q) (sym (stretch_split 0 n p high h num l))

take_is : (id p : ℕ) (t : Bool) (vb : Plain) → stream_at id vb.streams ≡ Some (reader id p t) → plain_step vb (call.Take id) ≡ take_to (end_span (reader id p t) (all_spans vb.spans) vb.held) (reader id p t) vb
take_is id p t vb e = ap (λ o. take_from o vb) e

pub read_all : (k id : ℕ) (vb : Plain) (image : Picture) (p n : ℕ) (t : Bool) (front rest : List Span) → stream_at id vb.streams ≡ Some (reader id p t)
    → all_spans vb.spans ≡ front ++ rest → Chain 0 p front → Chain p n rest → Numbered 0 n vb.held → ReadTo image vb.held p → length rest ≤ k → ReadTo (read k id vb image) vb.held n
read_all zero id vb image p n t front [] e s a b num r l = subst (ReadTo image vb.held) b r
read_all zero id vb image p n t front (w ∷ rest) e s a b num r l = absurd (omega arith)
read_all (suc k) id vb image p n t front [] e s a b num r l =
    let is : plain_step vb (call.Take id) ≡ take_to None (reader id p t) vb =
    take_is id p t vb e ∙ ap (λ o. take_to o (reader id p t) vb) (ap (λ ws. end_span (reader id p t) ws vb.held) s ∙ ends_none id p t front vb.held a) in
    subst (λ took. ReadTo (read k id took.0 (taken_in took.1.answer image)) vb.held n) (sym is) (read_all k id vb image p n t front [] e s a b num r (omega arith))
read_all (suc k) id vb image p n t front (w ∷ rest) e s a b num r l =
    let next : end_span (reader id p t) (all_spans vb.spans) vb.held ≡ Some w = ap (λ ws. end_span (reader id p t) ws vb.held) s ∙ ends_next id p n t front w rest vb.held num a b in
    let is : plain_step vb (call.Take id) ≡ take_to (Some w) (reader id p t) vb = take_is id p t vb e ∙ ap (λ o. take_to o (reader id p t) vb) next in
    let now : Plain = record vb { streams = map (moved_on id w.last) vb.streams } in
    let items : items_to (reader id p t) (all_spans vb.spans) vb.held w.last ≡ key_lasts (stretch p w.last vb.held) = ap (λ ws. items_to (reader id p t) ws vb.held w.last) s ∙ items_are id p n t front w rest vb.held num a b in
    let low : p ≤ w.last = let m = b.1 in omega (arith, m) in
    let more : ReadTo (fold applied image (items_to (reader id p t) (all_spans vb.spans) vb.held w.last)) vb.held w.last =
    subst (λ cs. ReadTo (fold applied image cs) vb.held w.last) (sym items) (read_more image vb.held p n w.last num low r) in
    subst (λ took. ReadTo (read k id took.0 (taken_in took.1.answer image)) vb.held n) (sym is)
    (read_all k id now (fold applied image (items_to (reader id p t) (all_spans vb.spans) vb.held w.last)) w.last n true (front ++ w ∷ []) rest
    (found_moved id w.last vb.streams (reader id p t) e ∙ ap Some (moved_reader id p w.last t)) (s ∙ sym (append_assoc front (w ∷ []) rest)) (chain_front 0 p front w a b.0 b.1 b.2) b.3 num more (omega arith))

pub read_whole : (image : Picture) (h : List Change) (n : ℕ) → Numbered 0 n h → ReadTo image h n → (q : List ℕ) → finite.get image.docs q ≡ finite.get (fold applied nothing h).docs q
read_whole image h n num r q = r q ∙ ap (λ cs. finite.get (fold applied nothing cs).docs q) (stretch_all 0 n h num n (omega arith))
