-- what goes from the front, and what stays
use Rattle.std.proofs.Common.{◌≡◌, ℕ, ◌+◌, ◌<◌, ◌≤◌, Bool, true, false, cond, not, ◌&&◌, leb, ltb, List, [], ◌∷◌, ◌++◌, length, drop, map, refl, ap, sym, ◌∙◌, subst, ⊎_elim, arith}
use Rattle.std.specs.Prelude.{Option, Some, None}
use Rattle.std.specs.Option.{option_map, option_or}
use Rattle.std.specs.List.{filter, find}
use Rattle.std.specs.List.Sorted.{IsNonDecreasingBy}
use Rattle.std.proofs.lemmas.Bool.{leb-true, leb-false, ltb-true, le-leb, lt-leb, lt-ltb, le-ltb, cond-true, cond-false, cases_Bool, and_left, and_right}
use Rattle.std.proofs.lemmas.List.Elements.{filter-append, filter_agree}
use Rattle.std.proofs.lemmas.List.Folds.{find-append}
use Rattle.std.proofs.lemmas.List.Sorted.{IsNonDecreasingBy-drop, IsNonDecreasingBy-take}
use Rattle.std.proofs.Math.Seq.{drop-append_seam, take-append_seam}
use Rattle.vb_types.specs.declared.change.Change.{Change}
use Rattle.vb_types.specs.Histories.{Rises}
use Rattle.vb_calls.specs.declared.span.Span.{Span}
use Rattle.vb_calls.specs.Spans.{is_whole, starts_below}
use Rattle.vb_calls.specs.Streams.{is_seen}
use Rattle.branch_model.proofs.Lasts.{in_filter, rises_filter}
use Rattle.branch_model.proofs.Lists.{rises_in}
use Rattle.checkpoint.specs.Checkpoints.{items_above, items_weight}
use Rattle.vb_calls.specs.declared.span.TheConstants.{MAX_WEIGHT}
use Rattle.ckpt_list.specs.Lists.{Ckpts, between}
use Rattle.ckpt_list.specs.Sound.{AreLight, Follow, HasWholes, ends_of_whole}
use Rattle.vb_calls.specs.Trims.{end_of, ended_by}
use Rattle.ckpt_list.specs.Trims.{first_if, is_first, trimmed_to}
use Rattle.ckpt_list.proofs.Climbs.{Climbs, all_kept, at_most, climbs_at, climbs_filter, climbs_follow, climbs_map, filter_both, none_kept}
use Rattle.ckpt_list.proofs.Stops.{first_of}
use Rattle.ckpt_list.proofs.Takes.{follow_le}
use Rattle.ckpt_list.proofs.Weights.{closer}

-- parts of a list that rises, rise

pub front_sorted : {X : Type 0} (n : X → ℕ) (xs ys zs : List X) → xs ++ ys ≡ zs → IsNonDecreasingBy n zs → IsNonDecreasingBy n xs
front_sorted n xs ys zs e s = subst (IsNonDecreasingBy n) (take-append_seam xs ys) (IsNonDecreasingBy-take n (length xs) (xs ++ ys) (subst (IsNonDecreasingBy n) (sym e) s))

pub back_sorted : {X : Type 0} (n : X → ℕ) (xs ys zs : List X) → xs ++ ys ≡ zs → IsNonDecreasingBy n zs → IsNonDecreasingBy n ys
back_sorted n xs ys zs e s = subst (IsNonDecreasingBy n) (drop-append_seam xs ys) (IsNonDecreasingBy-drop n (length xs) (xs ++ ys) (subst (IsNonDecreasingBy n) (sym e) s))

-- the first that a stream sees is that of the front part, or else of the other one
pub first_parts : (place : ℕ) (sync : Bool) (xs ys zs : List Change) → xs ++ ys ≡ zs → first_of place sync zs ≡ option_or (first_of place sync xs) (first_of place sync ys)
first_parts place sync xs ys zs e =
    ap (first_of place sync) (sym e)
    ∙ ap (λ cs. option_map (λ (c : Change). c.seq) (find (λ (c : Change). is_seen sync c.act) cs)) (filter-append (λ (c : Change). ltb place c.seq) xs ys)
    ∙ ap (option_map (λ (c : Change). c.seq)) (find-append (λ (c : Change). is_seen sync c.act) (items_above place xs) (items_above place ys))
    ∙ by (find (λ (c : Change). is_seen sync c.act) (items_above place xs)) (find (λ (c : Change). is_seen sync c.act) (items_above place ys))
  where
    by : (o p : Option Change) → option_map (λ (c : Change). c.seq) (option_or o p) ≡ option_or (option_map (λ (c : Change). c.seq) o) (option_map (λ (c : Change). c.seq) p)
    by None p = refl
    by (Some c) p = refl

-- a front goes, one by one

abbrev pub past : {X : Type 0} → (X → ℕ) → ℕ → List X → List X
past n to xs = filter (λ x. ltb to (n x)) xs

-- the first one goes
pub shed_one : {X : Type 0} (n : X → ℕ) (to : ℕ) (xs ys : List X) → is_first (λ x. leb (n x) to) xs ≡ true → ys ≡ drop 1 xs → past n to ys ≡ past n to xs
shed_one n to [] ys t e = absurd (cc)
shed_one n to (x ∷ xs) ys t e = ap (past n to) e ∙ sym (cond-false (ltb to (n x)) _ _ (at_most to (n x) ∙ ap not t))

sorted_beyond : {X : Type 0} (n : X → ℕ) (to : ℕ) (xs : List X) → is_first (λ x. leb (n x) to) xs ≡ false → IsNonDecreasingBy n xs → (past n to xs ≡ xs) × (filter (λ x. leb (n x) to) xs ≡ [])
sorted_beyond n to [] f s = (refl, refl)
sorted_beyond n to (x ∷ xs) f s =
    let up : to < n x = leb-false (n x) to f in (
      all_kept (λ y. ltb to (n y)) (x ∷ xs) (λ i d l. lt-ltb to _ (omega (arith, up, s 0 i d (omega arith) l))),
      none_kept (λ y. leb (n y) to) (x ∷ xs) (λ i d l. lt-leb _ to (omega (arith, up, s 0 i d (omega arith) l))),
    )

-- the first one stays, and so do all
pub shed_all : {X : Type 0} (n : X → ℕ) (to : ℕ) (xs : List X) → is_first (λ x. leb (n x) to) xs ≡ false → IsNonDecreasingBy n xs → xs ≡ past n to xs
shed_all n to xs f s = sym (sorted_beyond n to xs f s).0

pub first_none : {X Y : Type 0} (f : X → Y) (p : X → Bool) (xs : List X) → option_map f (first_if p xs) ≡ None → is_first p xs ≡ false
first_none f p [] e = refl
first_none f p (x ∷ xs) e = by (p x) e
  where
    by : (b : Bool) → option_map f (cond b (Some x) None) ≡ None → b ≡ false
    by true e = absurd (cc)
    by false e = refl

-- where the first one ends, the rest goes on
pub first_some : (to e low : ℕ) (ws vs : List Span) → option_map (λ w. w.last) (first_if (λ w. leb w.last to) ws) ≡ Some e → vs ≡ drop 1 ws
    → (is_first (λ w. leb w.last to) ws ≡ true) × (end_of e (ended_by to vs) ≡ end_of low (ended_by to ws))
first_some to e low [] vs is r = absurd (cc)
first_some to e low (w ∷ ws) vs is r = by (leb w.last to) refl is
  where
    by : (b : Bool) → leb w.last to ≡ b → option_map (λ (x : Span). x.last) (cond b (Some w) None) ≡ Some e → (leb w.last to ≡ true) × (end_of e (ended_by to vs) ≡ end_of low (ended_by to (w ∷ ws)))
    by false t is = absurd (cc)
    by true t is =
        let same : w.last ≡ e = cc in
        (t, ap (λ x. end_of x (ended_by to vs)) (sym same) ∙ ap (λ xs. end_of w.last (ended_by to xs)) r ∙ sym (ap (end_of low) (cond-true (leb w.last to) _ _ t)))

-- all stay: the end is where it was
pub ended_none : (to low : ℕ) (ws : List Span) → is_first (λ w. leb w.last to) ws ≡ false → IsNonDecreasingBy (λ (w : Span). w.last) ws → end_of low (ended_by to ws) ≡ low
ended_none to low ws f s = ap (end_of low) (sorted_beyond (λ (w : Span). w.last) to ws f s).1

-- what a trim leaves of spans

-- the whole ends above a span do not see it
gone_whole : (f : ℕ) (w : Span) (ws : List Span) → w.last ≤ f → filter (λ e. ltb f e) (ends_of_whole (w ∷ ws)) ≡ filter (λ e. ltb f e) (ends_of_whole ws)
gone_whole f w ws m =
    filter_both (λ e. is_whole e (w ∷ ws)) (λ e. ltb f e) (w.last ∷ map (λ (v : Span). v.last) ws)
    ∙ cond-false _ _ _ (and_right (is_whole w.last (w ∷ ws)) (ltb f w.last) (le-ltb f w.last m))
    ∙ filter_agree (λ e. is_whole e (w ∷ ws) && ltb f e) (λ e. is_whole e ws && ltb f e) (λ e. by e (ltb f e) refl) (map (λ (v : Span). v.last) ws)
    ∙ sym (filter_both (λ e. is_whole e ws) (λ e. ltb f e) (map (λ (v : Span). v.last) ws))
  where
    by : (e : ℕ) (b : Bool) → ltb f e ≡ b → (is_whole e (w ∷ ws) && b) ≡ (is_whole e ws && b)
    by e false t = and_right (is_whole e (w ∷ ws)) false refl ∙ sym (and_right (is_whole e ws) false refl)
    by e true t =
        let up : f < e = ltb-true f e t in
        ap (λ x. (not x && is_whole e ws) && true) (and_left (ltb e w.last) (starts_below e w.origin) (le-ltb e w.last (omega arith)))

pub climbs_past : {X : Type 0} (n : X → ℕ) (low : ℕ) (xs : List X) → Climbs n low xs → past n low xs ≡ xs
climbs_past n low xs c = all_kept (λ x. ltb low (n x)) xs (λ i d l. lt-ltb low _ (climbs_at n low xs c i d l))

-- of spans that follow one another from `low` to `high` these stay, from f on
pub record Shed (low high : ℕ) (ws : List Span) (f : ℕ) (kept : List Span) : Type 0 where
  pub up : low ≤ f
  pub follow : Follow f kept high
  pub light : (items : List Change) → AreLight items ws → AreLight items kept
  pub whole : filter (λ e. ltb f e) (ends_of_whole ws) ≡ ends_of_whole kept

all_stay : (low high : ℕ) (ws : List Span) → Follow low ws high → Shed low high ws low ws
all_stay low high ws f = record {
  up = omega arith;
  follow = f;
  light = λ items a. a;
  whole = climbs_past (λ (e : ℕ). e) low (ends_of_whole ws) (climbs_filter (λ (e : ℕ). e) _ low (map (λ (w : Span). w.last) ws) (climbs_map (λ (w : Span). w.last) low ws (climbs_follow low high ws f)));
}

pub spans_shed : (n low high : ℕ) (ws : List Span) → Follow low ws high → Shed low high ws (end_of low (ended_by n ws)) (past (λ w. w.last) n ws)
spans_shed n low high [] f = all_stay low high [] f
spans_shed n low high (w ∷ ws) f = by (spans_shed n w.last high ws f.2) (leb w.last n) (ltb n w.last) refl (at_most n w.last)
  where
    by : Shed w.last high ws (end_of w.last (ended_by n ws)) (past (λ v. v.last) n ws) → (b c : Bool) → leb w.last n ≡ b → c ≡ not (leb w.last n)
        → Shed low high (w ∷ ws) (end_of low (cond b (w ∷ ended_by n ws) (ended_by n ws))) (cond c (w ∷ past (λ v. v.last) n ws) (past (λ v. v.last) n ws))
    by r true true t u = let no = u ∙ ap not t in absurd (cc)
    by r true false t u =
        let k : low < w.last = f.1 in
        record {
          up = omega (arith, k, r.up);
          follow = r.follow;
          light = λ items a. r.light items a.1;
          whole = gone_whole (end_of w.last (ended_by n ws)) w ws r.up ∙ r.whole;
        }
    by r false false t u = let no = u ∙ ap not t in absurd (cc)
    by r false true t u =
        let m : n < w.last = leb-false w.last n t in
        let later = climbs_follow w.last high ws f.2 in
        let none : ended_by n ws ≡ [] = none_kept (λ (v : Span). leb v.last n) ws (λ i d l. lt-leb _ n (omega (arith, m, climbs_at (λ (v : Span). v.last) w.last ws later i d l))) in
        let all : past (λ (v : Span). v.last) n ws ≡ ws = all_kept (λ (v : Span). ltb n v.last) ws (λ i d l. lt-ltb n _ (omega (arith, m, climbs_at (λ (v : Span). v.last) w.last ws later i d l))) in
        subst (λ vs. Shed low high (w ∷ ws) (end_of low vs) (w ∷ past (λ v. v.last) n ws)) (sym none)
        (subst (λ vs. Shed low high (w ∷ ws) low (w ∷ vs)) (sym all) (all_stay low high (w ∷ ws) f))

-- changes of a stretch that begins at or above a seqno are above it
pub between_above : (f low high : ℕ) (items : List Change) → f ≤ low → between low high (items_above f items) ≡ between low high items
between_above f low high items m =
    filter_both (λ (c : Change). ltb f c.seq) (λ c. ltb low c.seq && leb c.seq high) items
    ∙ filter_agree (λ (c : Change). ltb f c.seq && (ltb low c.seq && leb c.seq high)) (λ c. ltb low c.seq && leb c.seq high) (λ c. by c (ltb low c.seq) refl) items
  where
    by : (c : Change) (b : Bool) → ltb low c.seq ≡ b → (ltb f c.seq && (b && leb c.seq high)) ≡ (b && leb c.seq high)
    by c false t = and_right (ltb f c.seq) false refl
    by c true t = let up : low < c.seq = ltb-true low c.seq t in ap (λ x. x && leb c.seq high) (lt-ltb f c.seq (omega arith))

-- what stands in the spans that stay is there still
above_light : (f low high : ℕ) (items : List Change) (ws : List Span) → Follow low ws high → f ≤ low → AreLight items ws → AreLight (items_above f items) ws
above_light f low high items [] follow m a = tt
above_light f low high items (w ∷ ws) follow m a =
    let at : w.above ≡ low = follow.0 in
    let k : low < w.last = follow.1 in
    (subst (λ xs. items_weight xs ≤ MAX_WEIGHT) (sym (between_above f w.above w.last items (omega arith))) a.0, above_light f w.last high items ws follow.2 (omega arith) a.1)

-- the floor behind a trim
abbrev pub floor_to : Ckpts → ℕ → ℕ
floor_to l n = end_of l.floor (ended_by n l.sealed)

pub trimmed_stands : (l : Ckpts) (ends : List ℕ) (n : ℕ) → HasWholes l ends → HasWholes (trimmed_to l n) (filter (λ e. ltb (floor_to l n) e) ends)
trimmed_stands l ends n h =
    let f : ℕ = floor_to l n in
    let s = spans_shed n l.floor l.newest.above l.sealed h.sound.spans in
    let low : f ≤ l.newest.above = follow_le f l.newest.above _ s.follow in
    record {
      sound = record {
        spans = s.follow;
        items = closer l.floor l.newest.above f l.newest.above (items_above f l.items) (rises_filter (λ c. ltb f c.seq) l.floor l.newest.above l.items h.sound.items) low
            (λ x i. let at = in_filter (λ (c : Change). ltb f c.seq) x l.items i in (ltb-true f x.seq at.1, (rises_in l.floor l.newest.above l.items x h.sound.items at.0).1));
        newest = h.sound.newest;
        cursor = h.sound.cursor;
      };
      wholes = ap (filter (λ e. ltb f e)) h.wholes ∙ s.whole;
      light = above_light f f l.newest.above l.items _ s.follow (omega arith) (s.light l.items h.light);
    }
