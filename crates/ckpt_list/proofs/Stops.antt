-- where a stream's next snapshot may end
use Rattle.std.proofs.Common.{◌≡◌, ℕ, ◌<◌, ◌≤◌, Bool, true, false, cond, not, ◌&&◌, ◌||◌, leb, ltb, List, [], ◌∷◌, ◌++◌, map, max, ◌-◌, refl, ap, sym, ◌∙◌, subst, ⊎_elim, arith}
use Rattle.std.specs.Prelude.{Option, Some, None, IfSome, option_to_list}
use Rattle.std.specs.Option.{option_or, option_map}
use Rattle.std.specs.List.{filter, find, list_any}
use Rattle.std.proofs.lemmas.Bool.{leb-true, leb-false, ltb-true, ltb-false, lt-ltb, le-ltb, le-leb, lt-leb, cond-true, cond-false, cases_Bool, and_left, and_right, and_parts, and_from, or_cases, or_from}
use Rattle.std.proofs.lemmas.List.{map-append}
use Rattle.std.proofs.lemmas.List.Folds.{find-append, list_any-append, list_all-append}
use Rattle.std.proofs.lemmas.List.Elements.{filter-append, filter_agree}
use Rattle.vb_types.specs.declared.change.Change.{Change}
use Rattle.vb_types.specs.Histories.{Rises}
use Rattle.vb_calls.specs.declared.span.Span.{Span}
use Rattle.vb_calls.specs.declared.span.Origin.{Origin}
use Rattle.vb_calls.specs.declared.span.Origin.TheVariants.{Own, Received}
use Rattle.vb_calls.specs.Spans.{all_spans, is_whole, starts_below}
use Rattle.vb_calls.specs.Streams.{is_seen}
use Rattle.branch_model.proofs.Lists.{rises_le}
use Rattle.checkpoint.specs.Checkpoints.{ckpt_last, ckpt_span, items_above, has_seen}
use Rattle.ckpt_list.specs.Lists.{Ckpts, spans_of, held_of, high_of, may_stop, stop_of}
use Rattle.ckpt_list.specs.Windows.{ends_behind}
use Rattle.ckpt_list.specs.Sound.{Follow, IsSound, ends_of_whole, whole_by, end_reaching}
use Rattle.ckpt_list.proofs.Climbs.{filter_both, find_filter}
use Rattle.ckpt_list.proofs.Takes.{found_some, spanned, follow_le, follow_push}

-- a span is of a received snapshot that goes on above n and starts below it
abbrev pub splits : Span → ℕ → Bool
splits w n = ltb n w.last && starts_below n w.origin

find_alike : {X : Type 0} (p q : X → Bool) → ((x : X) → p x ≡ q x) → (xs : List X) → find p xs ≡ find q xs
find_alike p q h [] = refl
find_alike p q h (x ∷ xs) = ap (λ b. cond b (Some x) (find p xs)) (h x) ∙ ap (λ o. cond (q x) (Some x) o) (find_alike p q h xs)

ends_alike : (p q : ℕ → Bool) (low high : ℕ) (ws : List Span) → Follow low ws high → ((n : ℕ) → n ≤ high → p n ≡ q n) → find p (map (λ w. w.last) ws) ≡ find q (map (λ w. w.last) ws)
ends_alike p q low high [] f h = refl
ends_alike p q low high (w ∷ ws) f h =
    ap (λ b. cond b (Some w.last) (find p (map (λ (v : Span). v.last) ws))) (h w.last (follow_le w.last high ws f.2))
    ∙ ap (λ o. cond (q w.last) (Some w.last) o) (ends_alike p q w.last high ws f.2 h)

-- the last end is whole
pub whole_last : (low high n : ℕ) (ws : List Span) → Follow low ws high → high ≤ n → is_whole n ws ≡ true
whole_last low high n [] f m = refl
whole_last low high n (w ∷ ws) f m =
    let on : w.last ≤ high = follow_le w.last high ws f.2 in
    and_from _ _ (ap not (and_left (ltb n w.last) (starts_below n w.origin) (le-ltb n w.last (omega arith)))) (whole_last w.last high n ws f.2 m)

-- whole ends before an open span

split_on : (w : Span) (a b : ℕ) → splits w a ≡ true → a < b → b < w.last → splits w b ≡ true
split_on w a b s l m = and_from (ltb b w.last) (starts_below b w.origin) (lt-ltb b w.last m) (starts_on w.origin (and_parts (ltb a w.last) (starts_below a w.origin) s).1)
  where
    starts_on : (o : Origin) → starts_below a o ≡ true → starts_below b o ≡ true
    starts_on Own e = e
    starts_on (Received ss se) e = let k : ss < a = ltb-true ss a e in lt-ltb ss b (omega arith)

later_split : (p : ℕ → Bool) (w : Span) (n high : ℕ) (ws : List Span) → splits w n ≡ true → Follow n ws high → high < w.last → find (λ e. p e && not (splits w e)) (map (λ v. v.last) ws) ≡ None
later_split p w n high [] s f m = refl
later_split p w n high (v ∷ vs) s f m =
    let on : v.last ≤ high = follow_le v.last high vs f.2 in
    let up : n < v.last = f.1 in
    let t : splits w v.last ≡ true = split_on w n v.last s up (omega arith) in
    cond-false _ _ _ (and_right (p v.last) (not (splits w v.last)) (ap not t)) ∙ later_split p w v.last high vs t f.2 m

stop_split : (p : ℕ → Bool) (w : Span) (low high : ℕ) (ws : List Span) → Follow low ws high → high < w.last
    → whole_by (Some w) (find p (map (λ v. v.last) ws)) ≡ find (λ e. p e && not (splits w e)) (map (λ v. v.last) ws)
stop_split p w low high [] f m = refl
stop_split p w low high (v ∷ vs) f m = ⊎_elim
    (λ t. ap (whole_by (Some w)) (cond-true (p v.last) _ _ t) ∙ ⊎_elim
    (λ s. cond-true (splits w v.last) _ _ s ∙ sym (later_split p w v.last high vs s f.2 m) ∙ sym (cond-false _ _ _ (and_right (p v.last) (not (splits w v.last)) (ap not s))))
    (λ s. cond-false (splits w v.last) _ _ s ∙ sym (cond-true _ _ _ (and_from (p v.last) (not (splits w v.last)) t (ap not s))))
    (cases_Bool (splits w v.last)))
    (λ g. ap (whole_by (Some w)) (cond-false (p v.last) _ _ g) ∙ stop_split p w v.last high vs f.2 m ∙ sym (cond-false _ _ _ (and_left (p v.last) (not (splits w v.last)) g)))
    (cases_Bool (p v.last))

and_swap : (a b : Bool) → (a && b) ≡ (b && (a && true))
and_swap true true = refl
and_swap true false = refl
and_swap false true = refl
and_swap false false = refl

and_turn : (a b c : Bool) → ((a && b) && c) ≡ (b && (a && (c && true)))
and_turn true true true = refl
and_turn true true false = refl
and_turn true false true = refl
and_turn true false false = refl
and_turn false true true = refl
and_turn false true false = refl
and_turn false false true = refl
and_turn false false false = refl

whole_by_none : (o : Option ℕ) → whole_by None o ≡ o
whole_by_none None = refl
whole_by_none (Some e) = refl

stop_by : (o : Option Span) (n low high : ℕ) (ws : List Span) → Follow low ws high → ((w : Span) → o ≡ Some w → high < w.last)
    → whole_by o (find (λ e. ltb n e) (ends_of_whole ws)) ≡ find (λ e. ltb n e && is_whole e (ws ++ option_to_list o)) (map (λ w. w.last) ws)
stop_by None n low high ws f m =
    whole_by_none _ ∙ find_filter (λ e. is_whole e ws) (λ e. ltb n e) (map (λ (w : Span). w.last) ws)
    ∙ find_alike _ _ (λ e. and_swap (is_whole e ws) (ltb n e) ∙ ap (λ b. ltb n e && b) (sym (list_all-append (λ (w : Span). not (splits w e)) ws []))) (map (λ (w : Span). w.last) ws)
stop_by (Some w) n low high ws f m =
    ap (whole_by (Some w)) (find_filter (λ e. is_whole e ws) (λ e. ltb n e) (map (λ (v : Span). v.last) ws))
    ∙ stop_split (λ e. is_whole e ws && ltb n e) w low high ws f (m w refl)
    ∙ find_alike _ _ (λ e. and_turn (is_whole e ws) (ltb n e) (not (splits w e)) ∙ ap (λ b. ltb n e && b) (sym (list_all-append (λ (v : Span). not (splits v e)) ws (w ∷ [])))) (map (λ (v : Span). v.last) ws)

pub stop_of_sealed : (l : Ckpts) (n : ℕ) → IsSound l
    → whole_by (spans_of l).current (find (λ e. ltb n e) (ends_of_whole l.sealed)) ≡ find (λ e. ltb n e && is_whole e (all_spans (spans_of l))) (map (λ w. w.last) l.sealed)
stop_of_sealed l n s =
    stop_by (ckpt_span l.newest) n l.floor l.newest.above l.sealed s.spans
    (λ w e. let k = spanned l.newest w s.newest e in let a : w.above ≡ l.newest.above = k.above in let b : w.above < w.last = k.low in omega arith)

-- the whole ends that stay when a span is sealed
pub whole_pushed : (low high : ℕ) (ws : List Span) (w : Span) (ends : List ℕ) → Follow low ws high → w.above ≡ high → high < w.last → ends ≡ ends_of_whole ws → ends_behind (Some w) ends ≡ ends_of_whole (ws ++ w ∷ [])
whole_pushed low high ws w ends f at up is =
    let kept : List ℕ = filter (λ e. not (splits w e)) ends in
    let all : List Span = ws ++ w ∷ [] in
    let last : is_whole w.last all ≡ true = whole_last low w.last w.last all (follow_push low high ws w f at up) (omega arith) in
    let front : filter (λ e. is_whole e all) (map (λ (v : Span). v.last) ws) ≡ kept =
    filter_agree (λ e. is_whole e all) (λ e. is_whole e ws && not (splits w e)) (λ e. list_all-append (λ (v : Span). not (splits v e)) ws (w ∷ []) ∙ ap (λ b. is_whole e ws && b) (and_unit (not (splits w e)))) (map (λ (v : Span). v.last) ws)
    ∙ sym (filter_both (λ e. is_whole e ws) (λ e. not (splits w e)) (map (λ (v : Span). v.last) ws)) ∙ ap (filter (λ e. not (splits w e))) (sym is) in
    sym (ap (filter (λ e. is_whole e all)) (map-append (λ (v : Span). v.last) ws (w ∷ []))
    ∙ filter-append (λ e. is_whole e all) (map (λ (v : Span). v.last) ws) (w.last ∷ [])
    ∙ ap (λ l. l ++ filter (λ e. is_whole e all) (w.last ∷ [])) front
    ∙ ap (λ l. kept ++ l) (cond-true (is_whole w.last all) (w.last ∷ []) [] last))
  where
    and_unit : (b : Bool) → (b && true) ≡ b
    and_unit true = refl
    and_unit false = refl

-- the first change that a stream sees

abbrev pub sees_to : ℕ → ℕ → Bool → Change → Bool
sees_to place n sync c = ltb place c.seq && leb c.seq n && is_seen sync c.act

abbrev pub first_of : ℕ → Bool → List Change → Option ℕ
first_of place sync cs = option_map (λ c. c.seq) (find (λ c. is_seen sync c.act) (items_above place cs))

abbrev pub is_reached : Option ℕ → ℕ → Bool
is_reached None n = false
is_reached (Some v) n = leb v n

any_none : (place n : ℕ) (sync : Bool) (low high : ℕ) (cs : List Change) → Rises low high cs → n ≤ low → list_any (sees_to place n sync) cs ≡ false
any_none place n sync low high [] r m = refl
any_none place n sync low high (c ∷ cs) r m =
    let up : low < c.seq = r.0 in
    or_from _ _ (and_left (ltb place c.seq && leb c.seq n) (is_seen sync c.act) (and_right (ltb place c.seq) (leb c.seq n) (lt-leb c.seq n (omega arith)))) (any_none place n sync c.seq high cs r.1 (omega arith))

any_first : (place n : ℕ) (sync : Bool) (low high : ℕ) (cs : List Change) → Rises low high cs → list_any (sees_to place n sync) cs ≡ is_reached (first_of place sync cs) n
any_first place n sync low high [] r = refl
any_first place n sync low high (c ∷ cs) r = ⊎_elim
    (λ t. ⊎_elim
    (λ y. ⊎_elim
    (λ on. ap (λ b. b || list_any (sees_to place n sync) cs) (and_from _ _ (and_from (ltb place c.seq) (leb c.seq n) t on) y) ∙ sym on ∙ sym (ap (λ o. is_reached (option_map (λ (d : Change). d.seq) o) n) (first_seen t y)))
    (λ off. let low : n < c.seq = leb-false c.seq n off in or_from _ _ (and_left _ (is_seen sync c.act) (and_right (ltb place c.seq) (leb c.seq n) off)) (any_none place n sync c.seq high cs r.1 (omega arith))
    ∙ sym off ∙ sym (ap (λ o. is_reached (option_map (λ (d : Change). d.seq) o) n) (first_seen t y)))
    (cases_Bool (leb c.seq n)))
    (λ no. ap (λ b. b || list_any (sees_to place n sync) cs) (and_right (ltb place c.seq && leb c.seq n) (is_seen sync c.act) no) ∙ any_first place n sync c.seq high cs r.1
    ∙ sym (ap (λ o. is_reached (option_map (λ (d : Change). d.seq) o) n) (ap (find (λ (d : Change). is_seen sync d.act)) (cond-true (ltb place c.seq) _ _ t) ∙ cond-false (is_seen sync c.act) _ _ no)))
    (cases_Bool (is_seen sync c.act)))
    (λ g. ap (λ b. b || list_any (sees_to place n sync) cs) (and_left (ltb place c.seq && leb c.seq n) (is_seen sync c.act) (and_left (ltb place c.seq) (leb c.seq n) g)) ∙ any_first place n sync c.seq high cs r.1
    ∙ sym (ap (λ o. is_reached (option_map (λ (d : Change). d.seq) o) n) (ap (find (λ (d : Change). is_seen sync d.act)) (cond-false (ltb place c.seq) _ _ g))))
    (cases_Bool (ltb place c.seq))
  where
    first_seen : ltb place c.seq ≡ true → is_seen sync c.act ≡ true → find (λ (d : Change). is_seen sync d.act) (items_above place (c ∷ cs)) ≡ Some c
    first_seen t y = ap (find (λ (d : Change). is_seen sync d.act)) (cond-true (ltb place c.seq) _ _ t) ∙ cond-true (is_seen sync c.act) _ _ y

pub first_within : (place v : ℕ) (sync : Bool) (low high : ℕ) (cs : List Change) → Rises low high cs → first_of place sync cs ≡ Some v → (place < v) × (v ≤ high)
first_within place v sync low high [] r e = absurd (cc)
first_within place v sync low high (c ∷ cs) r e = ⊎_elim
    (λ t. let above : items_above place (c ∷ cs) ≡ c ∷ items_above place cs = cond-true (ltb place c.seq) _ _ t in ⊎_elim
    (λ y. let q : Some c.seq ≡ Some v = sym (ap (option_map (λ (d : Change). d.seq)) (ap (find (λ (d : Change). is_seen sync d.act)) above ∙ cond-true (is_seen sync c.act) _ _ y)) ∙ e in
    let same : c.seq ≡ v = cc in let a : place < c.seq = ltb-true place c.seq t in let b : c.seq ≤ high = rises_le c.seq high cs r.1 in (let g : place < v = omega arith in g, let g : v ≤ high = omega arith in g))
    (λ no. first_within place v sync c.seq high cs r.1 (sym (ap (option_map (λ (d : Change). d.seq)) (ap (find (λ (d : Change). is_seen sync d.act)) above ∙ cond-false (is_seen sync c.act) _ _ no)) ∙ e))
    (cases_Bool (is_seen sync c.act)))
    (λ g. first_within place v sync c.seq high cs r.1 (sym (ap (option_map (λ (d : Change). d.seq)) (ap (find (λ (d : Change). is_seen sync d.act)) (cond-false (ltb place c.seq) _ _ g))) ∙ e))
    (cases_Bool (ltb place c.seq))

any_to : (place n : ℕ) (sync : Bool) (low high : ℕ) (cs : List Change) → Rises low high cs → high ≤ n → list_any (sees_to place n sync) cs ≡ has_seen sync place cs
any_to place n sync low high [] r m = refl
any_to place n sync low high (c ∷ cs) r m =
    let on : c.seq ≤ high = rises_le c.seq high cs r.1 in
    ap (λ b. ((ltb place c.seq && b) && is_seen sync c.act) || list_any (sees_to place n sync) cs) (le-leb c.seq n (omega arith))
    ∙ ap (λ b. (b && is_seen sync c.act) || list_any (sees_to place n sync) cs) (and_unit (ltb place c.seq))
    ∙ ap (λ b. (ltb place c.seq && is_seen sync c.act) || b) (any_to place n sync c.seq high cs r.1 m)
  where
    and_unit : (b : Bool) → (b && true) ≡ b
    and_unit true = refl
    and_unit false = refl

any_above : (place n : ℕ) (sync : Bool) (cs : List Change) → list_any (sees_to place n sync) cs ≡ true → place < n
any_above place n sync [] e = absurd (cc)
any_above place n sync (c ∷ cs) e = ⊎_elim
    (λ h. let p = and_parts _ _ (and_parts (ltb place c.seq && leb c.seq n) (is_seen sync c.act) h).0 in
    let a : place < c.seq = ltb-true place c.seq p.0 in let b : c.seq ≤ n = leb-true c.seq n p.1 in omega arith)
    (λ t. any_above place n sync cs t)
    (or_cases _ _ e)

-- at the ends of sealed checkpoints

all_four : (a b c d : Bool) → a ≡ true → c ≡ true → d ≡ true → (((a && b) && c) && d) ≡ b
all_four a true c d e f g = and_from _ _ (and_from _ _ (and_from a true e refl) f) g
all_four a false c d e f g = and_left _ _ (and_left _ _ (and_right a false refl))

held_sealed : (l : Ckpts) (place n : ℕ) (sync : Bool) → IsSound l → n ≤ l.newest.above → list_any (sees_to place n sync) (held_of l) ≡ is_reached (first_of place sync l.items) n
held_sealed l place n sync s m =
    list_any-append (sees_to place n sync) l.items l.newest.items
    ∙ ap (λ b. list_any (sees_to place n sync) l.items || b) (any_none place n sync l.newest.above (ckpt_last l.newest) l.newest.items s.newest m)
    ∙ or_unit _ ∙ any_first place n sync l.floor l.newest.above l.items s.items
  where
    or_unit : (b : Bool) → (b || false) ≡ b
    or_unit true = refl
    or_unit false = refl

stop_at : (place need v n : ℕ) (w d : Bool) → place < v → d ≡ leb v n → (((ltb place n && w) && leb need n) && d) ≡ (ltb (max v need - 1) n && w)
stop_at place need v n w d l e = ⊎_elim
    (λ t. let m : max v need - 1 < n = ltb-true _ n t in
    all_four (ltb place n) w (leb need n) d (lt-ltb place n (omega arith)) (le-leb need n (omega arith)) (e ∙ le-leb v n (omega arith)) ∙ sym (ap (λ b. b && w) t))
    (λ f. let m : n ≤ max v need - 1 = ltb-false _ n f in ⊎_elim
    (λ y. let k : v ≤ n = leb-true v n y in and_left _ d (and_right (ltb place n && w) (leb need n) (lt-leb need n (omega arith))) ∙ sym (ap (λ b. b && w) f))
    (λ y. and_right ((ltb place n && w) && leb need n) d (e ∙ y) ∙ sym (ap (λ b. b && w) f))
    (cases_Bool (leb v n)))
    (cases_Bool (ltb (max v need - 1) n))

sealed_some : (l : Ckpts) (place need v : ℕ) (sync : Bool) → IsSound l → first_of place sync l.items ≡ Some v
    → find (may_stop l place need sync) (map (λ w. w.last) l.sealed) ≡ find (λ e. ltb (max v need - 1) e && is_whole e (all_spans (spans_of l))) (map (λ w. w.last) l.sealed)
sealed_some l place need v sync s e =
    ends_alike _ _ l.floor l.newest.above l.sealed s.spans
    (λ n m. stop_at place need v n (is_whole n (all_spans (spans_of l))) (list_any (sees_to place n sync) (held_of l)) (first_within place v sync l.floor l.newest.above l.items s.items e).0
    (held_sealed l place n sync s m ∙ ap (λ o. is_reached o n) e))

find_never : {X : Type 0} (xs : List X) → find (λ _. false) xs ≡ None
find_never [] = refl
find_never (x ∷ xs) = find_never xs

sealed_none : (l : Ckpts) (place need : ℕ) (sync : Bool) → IsSound l → first_of place sync l.items ≡ None → find (may_stop l place need sync) (map (λ w. w.last) l.sealed) ≡ None
sealed_none l place need sync s e =
    ends_alike _ (λ _. false) l.floor l.newest.above l.sealed s.spans
    (λ n m. and_right _ (list_any (sees_to place n sync) (held_of l)) (held_sealed l place n sync s m ∙ ap (λ o. is_reached o n) e))
    ∙ find_never (map (λ (w : Span). w.last) l.sealed)

-- at the end of the open one

held_open : (l : Ckpts) (place n : ℕ) (sync : Bool) → IsSound l → n ≡ ckpt_last l.newest
    → list_any (sees_to place n sync) (held_of l) ≡ (is_reached (first_of place sync l.items) n || has_seen sync place l.newest.items)
held_open l place n sync s m =
    list_any-append (sees_to place n sync) l.items l.newest.items
    ∙ ap (λ b. b || list_any (sees_to place n sync) l.newest.items) (any_first place n sync l.floor l.newest.above l.items s.items)
    ∙ ap (λ b. is_reached (first_of place sync l.items) n || b) (any_to place n sync l.newest.above (ckpt_last l.newest) l.newest.items s.newest (omega arith))

open_by : (l : Ckpts) (place need : ℕ) (sync : Bool) (o : Option Span) → IsSound l → ckpt_span l.newest ≡ o
    → ((n : ℕ) → n ≡ ckpt_last l.newest → list_any (sees_to place n sync) (held_of l) ≡ true) → find (may_stop l place need sync) (map (λ w. w.last) (option_to_list o)) ≡ end_reaching need o
open_by l place need sync None s e any = refl
open_by l place need sync (Some w) s e any =
    let k = spanned l.newest w s.newest e in
    let last : w.last ≡ ckpt_last l.newest = k.last in
    let above : w.above ≡ l.newest.above = k.above in
    let low : w.above < w.last = k.low in
    let follow : Follow l.floor (l.sealed ++ w ∷ []) w.last = follow_push l.floor l.newest.above l.sealed w s.spans above (omega arith) in
    let all : is_whole w.last (all_spans (spans_of l)) ≡ true = ap (λ x. is_whole w.last (l.sealed ++ option_to_list x)) e ∙ whole_last l.floor w.last w.last (l.sealed ++ w ∷ []) follow (omega arith) in
    let seen : list_any (sees_to place w.last sync) (held_of l) ≡ true = any w.last last in
    let past : ltb place w.last ≡ true = lt-ltb place w.last (any_above place w.last sync (held_of l) seen) in
    ap (λ b. cond b (Some w.last) None) (need_alone (ltb place w.last) (is_whole w.last (all_spans (spans_of l))) (leb need w.last) (list_any (sees_to place w.last sync) (held_of l)) past all seen)
  where
    need_alone : (a b c d : Bool) → a ≡ true → b ≡ true → d ≡ true → (((a && b) && c) && d) ≡ c
    need_alone a b true d e f g = and_from _ _ (and_from _ _ (and_from a b e f) refl) g
    need_alone a b false d e f g = and_left _ d (and_right (a && b) false refl)

open_none : (l : Ckpts) (place need : ℕ) (sync : Bool) (o : Option Span) → IsSound l → ckpt_span l.newest ≡ o → first_of place sync l.items ≡ None → has_seen sync place l.newest.items ≡ false
    → find (may_stop l place need sync) (map (λ w. w.last) (option_to_list o)) ≡ None
open_none l place need sync None s e f h = refl
open_none l place need sync (Some w) s e f h =
    cond-false _ _ _ (and_right _ (list_any (sees_to place w.last sync) (held_of l))
    (held_open l place w.last sync s (spanned l.newest w s.newest e).last ∙ or_from _ _ (ap (λ o. is_reached o w.last) f) h))

-- together

stop_parts : (l : Ckpts) (place need : ℕ) (sync : Bool)
    → stop_of l place need sync ≡ option_or (find (may_stop l place need sync) (map (λ w. w.last) l.sealed)) (find (may_stop l place need sync) (map (λ w. w.last) (option_to_list (ckpt_span l.newest))))
stop_parts l place need sync =
    ap (find (may_stop l place need sync)) (map-append (λ (w : Span). w.last) l.sealed (option_to_list (ckpt_span l.newest)))
    ∙ find-append (may_stop l place need sync) (map (λ (w : Span). w.last) l.sealed) (map (λ (w : Span). w.last) (option_to_list (ckpt_span l.newest)))

stop_some : (l : Ckpts) (place need v : ℕ) (sync : Bool) → IsSound l → first_of place sync l.items ≡ Some v
    → option_or (find (λ e. ltb (max v need - 1) e && is_whole e (all_spans (spans_of l))) (map (λ w. w.last) l.sealed)) (end_reaching need (spans_of l).current) ≡ stop_of l place need sync
stop_some l place need v sync s e =
    let within = first_within place v sync l.floor l.newest.above l.items s.items e in
    let low : v ≤ l.newest.above = within.1 in
    let up : l.newest.above ≤ ckpt_last l.newest = rises_le l.newest.above (ckpt_last l.newest) l.newest.items s.newest in
    ap (λ o. option_or o (end_reaching need (ckpt_span l.newest))) (sym (sealed_some l place need v sync s e))
    ∙ ap (option_or (find (may_stop l place need sync) (map (λ (w : Span). w.last) l.sealed)))
    (sym (open_by l place need sync (ckpt_span l.newest) s refl
    (λ n m. held_open l place n sync s m ∙ ap (λ o. is_reached o n || has_seen sync place l.newest.items) e ∙ ap (λ b. b || has_seen sync place l.newest.items) (le-leb v n (omega arith)))))
    ∙ sym (stop_parts l place need sync)

pub stop_of_open : (l : Ckpts) (place need : ℕ) (sync : Bool) → IsSound l → first_of place sync l.items ≡ None → has_seen sync place l.newest.items ≡ true → end_reaching need (spans_of l).current ≡ stop_of l place need sync
stop_of_open l place need sync s e h =
    sym (open_by l place need sync (ckpt_span l.newest) s refl (λ n m. held_open l place n sync s m ∙ ap (λ o. is_reached o n || has_seen sync place l.newest.items) e ∙ h))
    ∙ ap (λ o. option_or o (find (may_stop l place need sync) (map (λ (w : Span). w.last) (option_to_list (ckpt_span l.newest))))) (sym (sealed_none l place need sync s e))
    ∙ sym (stop_parts l place need sync)

pub stop_none : (l : Ckpts) (place need : ℕ) (sync : Bool) → IsSound l → first_of place sync l.items ≡ None → has_seen sync place l.newest.items ≡ false → None ≡ stop_of l place need sync
stop_none l place need sync s e h =
    sym (stop_parts l place need sync ∙ ap (λ o. option_or o (find (may_stop l place need sync) (map (λ (w : Span). w.last) (option_to_list (ckpt_span l.newest))))) (sealed_none l place need sync s e)
    ∙ open_none l place need sync (ckpt_span l.newest) s refl e h)

-- the same of what was found in parts
pub stop_or : (l : Ckpts) (place need v : ℕ) (sync : Bool) (n : ℕ) (a b r : Option ℕ) → IsSound l → first_of place sync l.items ≡ Some v → n ≡ max v need
    → a ≡ find (λ e. ltb (n - 1) e && is_whole e (all_spans (spans_of l))) (map (λ w. w.last) l.sealed) → b ≡ end_reaching need (spans_of l).current → r ≡ option_or a b
    → r ≡ stop_of l place need sync
stop_or l place need v sync n a b r s e m ea eb er =
    er ∙ ap (λ o. option_or o b) (ea ∙ ap (λ k. find (λ x. ltb (k - 1) x && is_whole x (all_spans (spans_of l))) (map (λ (w : Span). w.last) l.sealed)) m)
    ∙ ap (option_or (find (λ x. ltb (max v need - 1) x && is_whole x (all_spans (spans_of l))) (map (λ (w : Span). w.last) l.sealed))) eb
    ∙ stop_some l place need v sync s e

-- a snapshot ends with a sealed checkpoint or with the open one

find_map : (p : ℕ → Bool) (ws : List Span) → find p (map (λ w. w.last) ws) ≡ option_map (λ w. w.last) (find (λ w. p w.last) ws)
find_map p [] = refl
find_map p (w ∷ ws) = ⊎_elim
    (λ t. cond-true (p w.last) _ _ t ∙ sym (ap (option_map (λ (v : Span). v.last)) (cond-true (p w.last) _ _ t)))
    (λ f. cond-false (p w.last) _ _ f ∙ find_map p ws ∙ sym (ap (option_map (λ (v : Span). v.last)) (cond-false (p w.last) _ _ f)))
    (cases_Bool (p w.last))

some_last : (A : ℕ → Type 0) (o : Option Span) → IfSome o (λ w. A w.last) → IfSome (option_map (λ (w : Span). w.last) o) A
some_last A None h = tt
some_last A (Some w) h = h

pub stop_end : (l : Ckpts) (place need : ℕ) (sync : Bool) (r : Option ℕ) → IsSound l → r ≡ stop_of l place need sync → IfSome r (λ n. l.newest.above < n → high_of l ≤ n)
stop_end l place need sync r s e =
    let o : Option Span = find (λ w. may_stop l place need sync w.last) (all_spans (spans_of l)) in
    subst (λ x. IfSome x (λ n. l.newest.above < n → high_of l ≤ n)) (sym (e ∙ find_map (may_stop l place need sync) (all_spans (spans_of l))))
    (some_last (λ n. l.newest.above < n → high_of l ≤ n) o (found_some (λ w. may_stop l place need sync w.last) l o s refl))
