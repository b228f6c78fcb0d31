-- the list stays sound
use Rattle.std.proofs.Common.{◌≡◌, ◌≢◌, ℕ, zero, suc, ◌<◌, ◌≤◌, Bool, true, false, cond, not, List, [], ◌∷◌, ◌++◌, map, length, refl, ap, sym, ◌∙◌, subst, ⊎_elim, arith, append-nil}
use Rattle.std.specs.Prelude.{◌⊎◌, Option, Some, None, is_some, option_to_list, Result, Ok, Err, OnOk, OnErr}
use Rattle.std.specs.FinMap as finite
use Rattle.std.specs.FinMap.{get-insert, get-remove, get-empty, nat_cmp-IsAntisymmetric}
use Rattle.std.specs.Ordering.{nat_cmp, eq_by_cmp, is_eq}
use Rattle.std.specs.declared.cmp.Ordering.{Ordering}
use Rattle.std.specs.declared.cmp.Ordering.TheVariants.{Less, Equal, Greater}
use Rattle.std.specs.List.{filter, All}
use Rattle.std.specs.List.Sorted.{IsNonDecreasingBy}
use Rattle.std.specs.Str.{bytes_eq}
use Rattle.std.proofs.lemmas.Cmp.{nat_cmp_total}
use Rattle.std.proofs.lemmas.List.Elements.{All-nil, All-cons, All-filter}
use Rattle.std.proofs.lemmas.Bool.{cond-true, cond-false, cases_Bool}
use Rattle.vb_types.specs.declared.change.Change.{Change}
use Rattle.vb_types.specs.Histories.{Rises}
use Rattle.vb_calls.specs.declared.span.Span.{Span}
use Rattle.vb_calls.specs.declared.span.Origin.{Origin}
use Rattle.branch_model.specs.Histories.{last_seq}
use Rattle.branch_model.proofs.Lists.{rises_append}
use Rattle.branch_model.proofs.Lasts.{rises_filter}
use Rattle.vb_calls.specs.declared.span.TheConstants.{MAX_WEIGHT}
use Rattle.checkpoint.specs.Checkpoints.{Ckpt, empty_ckpt, items_weight, ckpt_last, ckpt_span, ckpt_with, item_at, span_by, entered, fits_in, fits_by}
use Rattle.cursor_set.specs.Cursors.{Places, place_of, registered, advanced, may_advance}
use Rattle.ckpt_list.specs.Lists.{Ckpts, ckpts_at, sealed_list, queued, queued_by, is_own}
use Rattle.ckpt_list.specs.Windows.{ends_behind}
use Rattle.ckpt_list.specs.Sound.{AreLight, Follow, IsSound, HasWholes, ends_of_whole}
use Rattle.ckpt_list.proofs.Climbs.{climbs_sorted, climbs_filter, climbs_map, climbs_follow, climbs_rises}
use Rattle.ckpt_list.proofs.Takes.{spanned, follow_push, follow_le}
use Rattle.ckpt_list.proofs.Stops.{whole_pushed}
use Rattle.ckpt_list.proofs.Weights.{sealed_light}

-- what rises

pub wholes_sorted : (l : Ckpts) → IsSound l → IsNonDecreasingBy (λ (e : ℕ). e) (ends_of_whole l.sealed)
wholes_sorted l s = climbs_sorted (λ (e : ℕ). e) l.floor (ends_of_whole l.sealed) (climbs_filter (λ (e : ℕ). e) _ l.floor (map (λ (w : Span). w.last) l.sealed) (climbs_map (λ (w : Span). w.last) l.floor l.sealed (climbs_follow l.floor l.newest.above l.sealed s.spans)))

pub items_sorted : (l : Ckpts) → IsSound l → IsNonDecreasingBy (λ (c : Change). c.seq) l.items
items_sorted l s = climbs_sorted (λ (c : Change). c.seq) l.floor l.items (climbs_rises l.floor l.newest.above l.items s.items)

pub spans_sorted : (l : Ckpts) → IsSound l → IsNonDecreasingBy (λ (w : Span). w.last) l.sealed
spans_sorted l s = climbs_sorted (λ (w : Span). w.last) l.floor l.sealed (climbs_follow l.floor l.newest.above l.sealed s.spans)

-- cursors

pub with_places : (l : Ckpts) (ends : List ℕ) → HasWholes l ends → (places : Places) → is_some (place_of places 0) ≡ true → HasWholes (record l { places = places }) ends
with_places l ends h places there = record {
  sound = record { spans = h.sound.spans; items = h.sound.items; newest = h.sound.newest; cursor = there };
  wholes = h.wholes;
  light = h.light;
}

some_either : {A : Type 0} (b : Bool) (x : A) (o : Option A) → is_some o ≡ true → is_some (cond b (Some x) o) ≡ true
some_either true x o e = refl
some_either false x o e = e

pub inserted_keeps : (places : Places) (id n : ℕ) → is_some (place_of places 0) ≡ true → is_some (place_of (finite.insert places id n) 0) ≡ true
inserted_keeps places id n e = ap is_some (get-insert nat_cmp_total places id n 0) ∙ some_either (eq_by_cmp nat_cmp 0 id) n (place_of places 0) e

pub advanced_keeps : (places : Places) (id n : ℕ) → is_some (place_of places 0) ≡ true → is_some (place_of (advanced places id n) 0) ≡ true
advanced_keeps places id n e = if_either (may_advance (place_of places id) n) (inserted_keeps places id n e) e
  where
    if_either : (b : Bool) → is_some (place_of (finite.insert places id n) 0) ≡ true → is_some (place_of places 0) ≡ true → is_some (place_of (cond b (finite.insert places id n) places) 0) ≡ true
    if_either true x y = x
    if_either false x y = y

pub removed_keeps : (places : Places) (id : ℕ) → id ≢ 0 → is_some (place_of places 0) ≡ true → is_some (place_of (finite.remove places id) 0) ≡ true
removed_keeps places id other e =
    ap is_some (get-remove nat_cmp_total places id 0)
    ∙ ⊎_elim (λ t. absurd (other (sym (nat_cmp-IsAntisymmetric 0 id (eq_ordering (nat_cmp 0 id) t))))) (λ f. ap is_some (cond-false (eq_by_cmp nat_cmp 0 id) None (place_of places 0) f) ∙ e) (cases_Bool (eq_by_cmp nat_cmp 0 id))
  where
    eq_ordering : (o : Ordering) → is_eq o ≡ true → o ≡ Equal
    eq_ordering Less t = absurd (cc)
    eq_ordering Equal t = refl
    eq_ordering Greater t = absurd (cc)

-- after a call that may fail
pub after : {A E T : Type 0} (r : Result A E) (P : T → Type 0) (new made old : T) → OnOk r (new ≡ made) → OnErr r (new ≡ old) → P made → P old → P new
after (Ok x) P new made old ok err pm po = subst P (sym ok) pm
after (Err e) P new made old ok err pm po = subst P (sym err) po

pub moved : (l m : Ckpts) (ends fs : List ℕ) → l ≡ m → ends ≡ fs → HasWholes l ends → HasWholes m fs
moved l m ends fs same ones h = subst (λ es. HasWholes m es) ones (subst (λ (n : Ckpts). HasWholes n ends) same h)

-- an empty list

pub view_at : (sealed : List Span) (items : List Change) (newest : Ckpt) (places : Places) (at : ℕ) (o : Origin) → sealed ≡ [] → items ≡ [] → newest ≡ empty_ckpt at o → places ≡ finite.insert finite.empty 0 at
    → record { sealed = sealed; items = items; newest = newest; places = places; floor = at } ≡ ckpts_at at o
view_at sealed items newest places at o se it ne pl = λ i. record { sealed = se i; items = it i; newest = ne i; places = pl i; floor = at }

starts : (at : ℕ) (o : Origin) → HasWholes (ckpts_at at o) []
starts at o = record {
  sound = record {
    spans = refl;
    items = omega arith;
    newest = omega arith;
    cursor = ap is_some (get-insert nat_cmp_total (finite.empty {X = ℕ} {R = nat_cmp}) 0 at 0) ∙ refl;
  };
  wholes = refl;
  light = tt;
}

pub empty_stands : (sealed : List Span) (items : List Change) (newest : Ckpt) (places : Places) (at : ℕ) (o : Origin) (wholes : List ℕ) → sealed ≡ [] → items ≡ [] → newest ≡ empty_ckpt at o
    → places ≡ finite.insert finite.empty 0 at → wholes ≡ [] → HasWholes (record { sealed = sealed; items = items; newest = newest; places = places; floor = at }) wholes
empty_stands sealed items newest places at o wholes se it ne pl wh =
    subst (λ (m : Ckpts). HasWholes m wholes) (sym (view_at sealed items newest places at o se it ne pl)) (subst (λ es. HasWholes (ckpts_at at o) es) (sym wh) (starts at o))

pub registered_first : (at : ℕ) → registered finite.empty 0 at ≡ finite.insert finite.empty 0 at
registered_first at = cond-false _ _ _ (ap is_some (get-empty nat_cmp 0))

-- the open checkpoint

pub sound_newest : (l : Ckpts) → IsSound l → (k : Ckpt) → k.above ≡ l.newest.above → Rises k.above (ckpt_last k) k.items → IsSound (record l { newest = k })
sound_newest l s k above rises = record {
  spans = subst (λ n. Follow l.floor l.sealed n) (sym above) s.spans;
  items = subst (λ n. Rises l.floor n l.items) (sym above) s.items;
  newest = rises;
  cursor = s.cursor;
}

pub with_newest : (l : Ckpts) (ends : List ℕ) → HasWholes l ends → (k : Ckpt) → k.above ≡ l.newest.above → Rises k.above (ckpt_last k) k.items → HasWholes (record l { newest = k }) ends
with_newest l ends h k above rises = record { sound = sound_newest l h.sound k above rises; wholes = h.wholes; light = h.light }

pub last_pushed : (n : ℕ) (xs : List Change) (c : Change) → last_seq n (xs ++ c ∷ []) ≡ c.seq
last_pushed n [] c = refl
last_pushed n (x ∷ xs) c = last_pushed x.seq xs c

pub put_rises : (k : Ckpt) (c : Change) → Rises k.above (ckpt_last k) k.items → ckpt_last k < c.seq → Rises k.above (ckpt_last (ckpt_with k c)) (entered k.items c)
put_rises k c r up =
    let rest : List Change = filter (λ d. not (bytes_eq d.key c.key)) k.items in
    subst (λ n. Rises k.above n (rest ++ c ∷ [])) (sym (last_pushed k.above rest c))
    (rises_append k.above (ckpt_last k) c.seq rest (c ∷ []) (rises_filter (λ d. not (bytes_eq d.key c.key)) k.above (ckpt_last k) k.items r) (up, omega arith))

pub fits_own : (own : Bool) (items : List Change) (c : Change) → fits_in own items c ≡ true → fits_in true items c ≡ true
fits_own true items c e = e
fits_own false items c e = by_item (item_at c.key items) e
  where
    by_item : (o : Option Change) → fits_by false items o c ≡ true → fits_by true items o c ≡ true
    by_item None e = e
    by_item (Some d) e = absurd (cc)

-- what a change makes

some_span : (above : ℕ) (o : Origin) (items : List Change) → 0 < length items → (w : Span) × (span_by above o items ≡ Some w)
some_span above o [] l = absurd (omega arith)
some_span above o (c ∷ cs) l = (_, refl)

pub queued_put : (l : Ckpts) (o : Origin) (c : Change) → 0 < length l.newest.items → fits_in (is_own o) l.newest.items c ≡ true → record l { newest = ckpt_with l.newest c } ≡ queued l o c
queued_put l o c some fits =
    let w = some_span l.newest.above l.newest.origin l.newest.items some in
    sym (ap (λ s. queued_by s l o c) w.1 ∙ cond-true _ _ _ fits)

queued_empty : (l : Ckpts) (o : Origin) (c : Change) (xs : List Change) → l.newest.items ≡ xs → length xs ≡ 0 → record (sealed_list l) { newest = ckpt_with (empty_ckpt (ckpt_last l.newest) o) c } ≡ queued l o c
queued_empty l o c (x ∷ xs) e n = absurd (omega arith)
queued_empty l o c [] e n =
    let none : ckpt_span l.newest ≡ None = ap (λ xs. span_by l.newest.above l.newest.origin xs) e in
    (λ i. record {
      sealed = (ap (λ s. l.sealed ++ option_to_list s) none ∙ append-nil l.sealed) i;
      items = (ap (λ xs. l.items ++ xs) e ∙ append-nil l.items) i;
      newest = ckpt_with (empty_ckpt (ckpt_last l.newest) o) c;
      places = l.places;
      floor = l.floor;
    })
    ∙ sym (ap (λ s. queued_by s l o c) none)

pub queued_new : (l : Ckpts) (o : Origin) (c : Change) → (length l.newest.items ≡ 0) ⊎ (fits_in (is_own o) l.newest.items c ≡ false)
    → record (sealed_list l) { newest = ckpt_with (empty_ckpt (ckpt_last l.newest) o) c } ≡ queued l o c
queued_new l o c h = ⊎_elim (λ n. queued_empty l o c l.newest.items refl n) (λ f. by_length (length l.newest.items) refl f) h
  where
    by_length : (n : ℕ) → length l.newest.items ≡ n → fits_in (is_own o) l.newest.items c ≡ false → record (sealed_list l) { newest = ckpt_with (empty_ckpt (ckpt_last l.newest) o) c } ≡ queued l o c
    by_length zero e f = queued_empty l o c l.newest.items refl e
    by_length (suc n) e f =
        let w = some_span l.newest.above l.newest.origin l.newest.items (omega arith) in
        sym (ap (λ s. queued_by s l o c) w.1 ∙ cond-false _ _ _ f)

-- a seal

pub wholes_below : (l : Ckpts) (w : Span) → IsSound l → ckpt_span l.newest ≡ Some w → All (λ e. e < w.last) (ends_of_whole l.sealed)
wholes_below l w s e =
    let k = spanned l.newest w s.newest e in
    let a : w.above ≡ l.newest.above = k.above in
    let b : w.above < w.last = k.low in
    All-filter _ (λ e. e < w.last) (map (λ (v : Span). v.last) l.sealed) (ends_below l.floor l.newest.above l.sealed s.spans (omega arith))
  where
    ends_below : (low high : ℕ) (ws : List Span) → Follow low ws high → high < w.last → All (λ e. e < w.last) (map (λ (v : Span). v.last) ws)
    ends_below low high [] f m = All-nil (λ e. e < w.last)
    ends_below low high (v ∷ vs) f m = All-cons (λ e. e < w.last) v.last (map (λ (u : Span). u.last) vs) (let n : v.last ≤ high = follow_le v.last high vs f.2 in omega arith) (ends_below v.last high vs f.2 m)

sealed_some : (l : Ckpts) (ends : List ℕ) (w : Span) → IsSound l → ends ≡ ends_of_whole l.sealed → ckpt_span l.newest ≡ Some w
    → IsSound (record { sealed = l.sealed ++ w ∷ []; items = l.items ++ l.newest.items; newest = empty_ckpt (ckpt_last l.newest) l.newest.origin; places = l.places; floor = l.floor })
    × (ends_behind (Some w) ends ≡ ends_of_whole (l.sealed ++ w ∷ []))
sealed_some l ends w sound wholes e =
    let s = spanned l.newest w sound.newest e in
    let above : w.above ≡ l.newest.above = s.above in
    let low : w.above < w.last = s.low in
    let up : l.newest.above < w.last = omega arith in (
      record {
        spans = subst (λ n. Follow l.floor (l.sealed ++ w ∷ []) n) s.last (follow_push l.floor l.newest.above l.sealed w sound.spans above up);
        items = rises_append l.floor l.newest.above (ckpt_last l.newest) l.items l.newest.items sound.items sound.newest;
        newest = omega arith;
        cursor = sound.cursor;
      },
      whole_pushed l.floor l.newest.above l.sealed w ends sound.spans above up wholes,
    )

-- nothing to seal
pub sealed_none : (l : Ckpts) → ckpt_span l.newest ≡ None → l ≡ sealed_list l
sealed_none l e = by_items l.newest.items refl
  where
    by_items : (xs : List Change) → l.newest.items ≡ xs → l ≡ sealed_list l
    by_items [] f = λ i. record {
      sealed = (sym (ap (λ s. l.sealed ++ option_to_list s) e ∙ append-nil l.sealed)) i;
      items = (sym (ap (λ xs. l.items ++ xs) f ∙ append-nil l.items)) i;
      newest = record { above = (sym (ap (last_seq l.newest.above) f)) i; origin = l.newest.origin; items = f i };
      places = l.places;
      floor = l.floor;
    }
    by_items (x ∷ xs) f = let some : span_by l.newest.above l.newest.origin l.newest.items ≡ span_by l.newest.above l.newest.origin (x ∷ xs) = ap (span_by l.newest.above l.newest.origin) f in absurd (cc)

-- the list with its open checkpoint sealed, and its whole ends
pub sealed_sound : (l : Ckpts) (ends : List ℕ) → IsSound l → ends ≡ ends_of_whole l.sealed → IsSound (sealed_list l) × (ends_behind (ckpt_span l.newest) ends ≡ ends_of_whole (sealed_list l).sealed)
sealed_sound l ends sound wholes = by_span (ckpt_span l.newest) refl
  where
    by_span : (o : Option Span) → ckpt_span l.newest ≡ o → IsSound (sealed_list l) × (ends_behind (ckpt_span l.newest) ends ≡ ends_of_whole (sealed_list l).sealed)
    by_span None e = subst (λ (m : Ckpts). IsSound m × (ends_behind (ckpt_span l.newest) ends ≡ ends_of_whole m.sealed)) (sealed_none l e) (sound, ap (λ o. ends_behind o ends) e ∙ wholes)
    by_span (Some w) e = subst (λ o. IsSound (record (sealed_list l) { sealed = l.sealed ++ option_to_list o }) × (ends_behind o ends ≡ ends_of_whole (l.sealed ++ option_to_list o))) (sym e) (sealed_some l ends w sound wholes e)

pub sealed_on : (l : Ckpts) (ends : List ℕ) → HasWholes l ends → items_weight l.newest.items ≤ MAX_WEIGHT → HasWholes (sealed_list l) (ends_behind (ckpt_span l.newest) ends)
sealed_on l ends h heavy =
    let s = sealed_sound l ends h.sound h.wholes in
    record { sound = s.0; wholes = s.1; light = lighter (ckpt_span l.newest) refl }
  where
    lighter : (o : Option Span) → ckpt_span l.newest ≡ o → AreLight (l.items ++ l.newest.items) (l.sealed ++ option_to_list (ckpt_span l.newest))
    lighter None e = subst (λ (m : Ckpts). AreLight m.items m.sealed) (sealed_none l e) h.light
    lighter (Some w) e = subst (λ o. AreLight (l.items ++ l.newest.items) (l.sealed ++ option_to_list o)) (sym e) (sealed_light l ends w h e heavy)
