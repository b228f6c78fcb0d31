-- several changes at once
use Rattle.std.proofs.Common.{◌≡◌, ℕ, suc, ◌+◌, ◌<◌, ◌≤◌, Bool, true, false, cond, List, [], ◌∷◌, ◌++◌, length, refl, ap, sym, ◌∙◌, subst, arith, inl, inr, length-append}
use Rattle.std.specs.Prelude.{◌&&◌, ◌⊎◌, not, nat_lt, Option, Some, None, option_to_list}
use Rattle.std.specs.List.{All, AllByRecursion, filter, fold}
use Rattle.std.specs.List.Sorted.{IsNonDecreasingBy}
use Rattle.std.specs.Str.{bytes_eq}
use Rattle.std.proofs.lemmas.Bool.Decides.{nat_tests}
use Rattle.std.proofs.lemmas.List.Sums.{fold-append, sum_by-append, sum_by-cons}
use Rattle.vb_types.specs.declared.change.Change.{Change}
use Rattle.vb_types.specs.Histories.{Rises}
use Rattle.vb_calls.specs.declared.span.Origin.TheVariants.{Own}
use Rattle.vb_calls.specs.declared.span.Span.{Span}
use Rattle.vb_calls.specs.declared.span.TheConstants.{MAX_WEIGHT}
use Rattle.vb_calls.specs.Spans.{change_weight, is_durable, starts_below}
use Rattle.checkpoint.specs.Checkpoints.{Ckpt, ckpt_last, ckpt_span, ckpt_with, cut_to, empty_ckpt, fits_in, items_weight}
use Rattle.checkpoint.proofs.Cuts.{cut_put, cut_same}
use Rattle.ckpt_list.specs.Lists.{Ckpts, high_of, queued, sealed_list}
use Rattle.ckpt_list.specs.Sound.{HasWholes, IsSound, ends_of_whole}
use Rattle.ckpt_list.specs.Windows.{ArePartsAbove, CanSeal, Sealed, count_in, ends_behind, first_of, put_in, queued_all, sealed_behind}
use Rattle.ckpt_list.proofs.Seals.{last_pushed, put_rises, queued_new, queued_put, sealed_on, sealed_sound, sound_newest, wholes_below, wholes_sorted, with_newest}

two_parts : (a b : Bool) → (a && b) ≡ true → (a ≡ true) × (b ≡ true)
two_parts true b e = (refl, e)
two_parts false b e = absurd (cc)

-- whether the open checkpoint takes a change in
abbrev pub takes_in : Ckpt → Change → Bool
takes_in k c = nat_lt 0 (length k.items) && fits_in true k.items c

-- the open checkpoint takes the change in, or it is full
module _ (P : List Ckpt × Ckpt → Type 0) (full : List Ckpt) (k : Ckpt) (c : Change) where
  pub by_room : (takes_in k c ≡ true → P (full, ckpt_with k c)) → (takes_in k c ≡ false → P (full ++ k ∷ [], ckpt_with (empty_ckpt (ckpt_last k) Own) c)) → P (put_in (full, k) c)
  by_room takes full_up = elim (takes_in k c) as (λ v. takes_in k c ≡ v → P (cond v (full, ckpt_with k c) (full ++ k ∷ [], ckpt_with (empty_ckpt (ckpt_last k) Own) c))) [
    | true ↦ λ t. takes t
    | false ↦ λ f. full_up f
  ] refl

-- the last seqno is the change's
put_last : (full : List Ckpt) (k : Ckpt) (c : Change) → ckpt_last (put_in (full, k) c).1 ≡ c.seq
put_last full k c = by_room (λ f. ckpt_last f.1 ≡ c.seq) full k c (λ t. last_pushed k.above (filter (λ d. not (bytes_eq d.key c.key)) k.items) c) (λ f. refl)

first_behind : (full : List Ckpt) (k fresh : Ckpt) → first_of (full ++ k ∷ []) fresh ≡ first_of full k
first_behind [] k fresh = refl
first_behind (w ∷ ws) k fresh = refl

-- of the first checkpoint a cut leaves what it left before
put_back : (last : ℕ) (full : List Ckpt) (k : Ckpt) (c : Change) → last < c.seq → is_durable c.act ≡ true → cut_to last (first_of (put_in (full, k) c).0 (put_in (full, k) c).1) ≡ cut_to last (first_of full k)
put_back last full k c low part =
    by_room (λ f. cut_to last (first_of f.0 f.1) ≡ cut_to last (first_of full k)) full k c
    (λ t. taken full (two_parts (nat_lt 0 (length k.items)) (fits_in true k.items c) t).1)
    (λ f. ap (cut_to last) (first_behind full k (ckpt_with (empty_ckpt (ckpt_last k) Own) c)))
  where
    taken : (ws : List Ckpt) → fits_in true k.items c ≡ true → cut_to last (first_of ws (ckpt_with k c)) ≡ cut_to last (first_of ws k)
    taken [] fits = cut_put last k c part fits low
    taken (w ∷ ws) fits = refl

-- all changes are put, of which `rest` are still to come; a cut leaves the checkpoint k that was there
pub record Puts (last : ℕ) (k : Ckpt) (all : List Change) (f : List Ckpt × Ckpt) (rest : List Change) : Type 0 where
  pub going : fold put_in f rest ≡ fold put_in ([], k) all
  pub parts : ArePartsAbove (ckpt_last f.1) rest
  pub back : cut_to last (first_of f.0 f.1) ≡ k
  pub low : last ≤ ckpt_last f.1

pub puts_begin : (last : ℕ) (k : Ckpt) (all : List Change) → Rises k.above (ckpt_last k) k.items → last ≡ ckpt_last k → ArePartsAbove (ckpt_last k) all → Puts last k all ([], k) all
puts_begin last k all rises at parts = record {
  going = refl;
  parts = parts;
  back = ap (λ n. cut_to n k) at ∙ cut_same k rises;
  low = omega (arith, at);
}

pub puts_more : (last : ℕ) (k : Ckpt) (all : List Change) (full : List Ckpt) (newest : Ckpt) (c : Change) (rest : List Change) → Puts last k all (full, newest) (c ∷ rest) → Puts last k all (put_in (full, newest) c) rest
puts_more last k all full newest c rest p =
    let up : ckpt_last newest < c.seq = p.parts.0 in
    let low : last ≤ ckpt_last newest = p.low in
    let ends : ckpt_last (put_in (full, newest) c).1 ≡ c.seq = put_last full newest c in
    record {
      going = p.going;
      parts = subst (λ n. ArePartsAbove n rest) (sym ends) p.parts.2;
      back = put_back last full newest c (omega arith) p.parts.1 ∙ p.back;
      low = omega (arith, ends);
    }

pub puts_to : (last : ℕ) (k : Ckpt) (all : List Change) (f g : List Ckpt × Ckpt) (c : Change) (cs rest : List Change) → Puts last k all f cs → cs ≡ c ∷ rest → g ≡ put_in f c → Puts last k all g rest
puts_to last k all f g c cs rest p same made = subst (λ h. Puts last k all h rest) (sym made) (puts_more last k all f.0 f.1 c rest (subst (Puts last k all f) same p))

puts_end : (last : ℕ) (k : Ckpt) (all : List Change) (f : List Ckpt × Ckpt) (rest : List Change) → Puts last k all f rest → Puts last k all (fold put_in f rest) []
puts_end last k all f [] p = p
puts_end last k all f (c ∷ cs) p = puts_end last k all (put_in f c) cs (puts_more last k all f.0 f.1 c cs p)

-- when all are put, a cut leaves the checkpoint that was there
pub all_back : (last : ℕ) (k : Ckpt) (all : List Change) (f : List Ckpt × Ckpt) → Rises k.above (ckpt_last k) k.items → last ≡ ckpt_last k → ArePartsAbove (ckpt_last k) all → f ≡ fold put_in ([], k) all → cut_to last (first_of f.0 f.1) ≡ k
all_back last k all f rises at parts put =
    ap (λ (g : List Ckpt × Ckpt). cut_to last (first_of g.0 g.1)) put ∙ (puts_end last k all ([], k) all (puts_begin last k all rises at parts)).back

-- counts

pub filter_count : {X : Type 0} (p : X → Bool) (xs : List X) → length (filter p xs) ≤ length xs
filter_count p [] = omega arith
filter_count p (x ∷ xs) =
    let rest = filter_count p xs in
    elim (p x) as (λ v. length (cond v (x ∷ filter p xs) (filter p xs)) ≤ suc (length xs)) [ true ↦ omega arith | false ↦ omega arith ]

pub span_count : (ws : List Span) (o : Option Span) → length (ws ++ option_to_list o) ≤ length ws + 1
span_count ws None = omega (arith, length-append ws [])
span_count ws (Some w) = omega (arith, length-append ws (w ∷ []))

pub ends_count : (ends : List ℕ) (o : Option Span) → length (ends_behind o ends) ≤ length ends + 1
ends_count ends None = omega arith
ends_count ends (Some w) =
    let test : ℕ → Bool = λ e. not (nat_lt e w.last && starts_below e w.origin) in
    omega (arith, length-append (filter test ends) (w.last ∷ []), filter_count test ends)

pub count_cons : (w : Ckpt) (ws : List Ckpt) → count_in (w ∷ ws) ≡ length w.items + count_in ws
count_cons w ws = sum_by-cons (λ (v : Ckpt). length v.items) w ws

-- how many changes there are in all
abbrev pub count_all : List Ckpt × Ckpt → ℕ
count_all f = count_in f.0 + length f.1.items

count_put : (full : List Ckpt) (k : Ckpt) (c : Change) → count_all (put_in (full, k) c) ≤ count_all (full, k) + 1
count_put full k c = by_room (λ f. count_all f ≤ count_all (full, k) + 1) full k c
    (λ t. let test : Change → Bool = λ d. not (bytes_eq d.key c.key) in omega (arith, length-append (filter test k.items) (c ∷ []), filter_count test k.items))
    (λ f. omega (arith, sum_by-append (λ (v : Ckpt). length v.items) full (k ∷ []), count_cons k []))

pub count_fold : (f : List Ckpt × Ckpt) (cs : List Change) → count_all (fold put_in f cs) ≤ count_all f + length cs
count_fold f [] = omega arith
count_fold f (c ∷ cs) = omega (arith, count_fold (put_in f c) cs, count_put f.0 f.1 c)

pub none_left : {X : Type 0} (xs : List X) → length xs ≡ 0 → xs ≡ []
none_left [] e = refl
none_left (x ∷ xs) e = absurd (omega arith)

-- a change weighs something
weighs_one : (c : Change) → 1 ≤ change_weight c
weighs_one c = omega arith

pub count_light : (cs : List Change) → length cs ≤ items_weight cs
count_light [] = omega arith
count_light (c ∷ cs) = omega (arith, count_light cs, weighs_one c, sum_by-cons change_weight c cs)

-- checkpoints follow one another from `above` on, and their changes rise
abbrev pub Chained : ℕ → List Ckpt → Ckpt → Type 0
Chained above [] k = (k.above ≡ above) × Rises k.above (ckpt_last k) k.items
Chained above (w ∷ ws) k = (w.above ≡ above) × Rises w.above (ckpt_last w) w.items × Chained (ckpt_last w) ws k

chained_with : (above : ℕ) (full : List Ckpt) (k : Ckpt) (c : Change) → Chained above full k → ckpt_last k < c.seq → Chained above full (ckpt_with k c)
chained_with above [] k c h up = (h.0, put_rises k c h.1 up)
chained_with above (w ∷ ws) k c h up = (h.0, h.1, chained_with (ckpt_last w) ws k c h.2 up)

chained_new : (above : ℕ) (full : List Ckpt) (k : Ckpt) (c : Change) → Chained above full k → ckpt_last k < c.seq → Chained above (full ++ k ∷ []) (ckpt_with (empty_ckpt (ckpt_last k) Own) c)
chained_new above [] k c h up = (h.0, h.1, (refl, (up, omega arith)))
chained_new above (w ∷ ws) k c h up = (h.0, h.1, chained_new (ckpt_last w) ws k c h.2 up)

pub chained_all : (above : ℕ) (f : List Ckpt × Ckpt) (cs : List Change) → Chained above f.0 f.1 → ArePartsAbove (ckpt_last f.1) cs → Chained above (fold put_in f cs).0 (fold put_in f cs).1
chained_all above f [] h p = h
chained_all above f (c ∷ cs) h p =
    chained_all above (put_in f c) cs
    (by_room (λ g. Chained above g.0 g.1) f.0 f.1 c (λ t. chained_with above f.0 f.1 c h p.0) (λ u. chained_new above f.0 f.1 c h p.0))
    (subst (λ n. ArePartsAbove n cs) (sym (put_last f.0 f.1 c)) p.2)

pub first_above : (above : ℕ) (ws : List Ckpt) (k : Ckpt) → Chained above ws k → (first_of ws k).above ≡ above
first_above above [] k h = h.0
first_above above (w ∷ ws) k h = h.0

pub first_rises : (above : ℕ) (ws : List Ckpt) (k : Ckpt) → Chained above ws k → Rises (first_of ws k).above (ckpt_last (first_of ws k)) (first_of ws k).items
first_rises above [] k h = h.1
first_rises above (w ∷ ws) k h = h.1

-- the list when full checkpoints are sealed

abbrev pub sealed_with : Ckpts → Ckpt → Ckpts
sealed_with l w = sealed_list (record l { newest = w })

abbrev pub finished : Ckpts → List Ckpt × Ckpt → Ckpts
finished l f = record (fold sealed_with l f.0) { newest = f.1 }

some_items : (n : ℕ) → nat_lt 0 n ≡ true → 0 < n
some_items n t = grind (arith, nat_tests)

not_both : (n : ℕ) (b : Bool) → (nat_lt 0 n && b) ≡ false → (n ≡ 0) ⊎ (b ≡ false)
not_both n b e = elim (nat_lt 0 n) as (λ v. nat_lt 0 n ≡ v → (v && b) ≡ false → (n ≡ 0) ⊎ (b ≡ false)) [
  | true ↦ λ t u. inr u
  | false ↦ λ t u. inl (grind (arith, nat_tests))
] refl e

-- one more change, in checkpoints that are sealed only then
queued_next : (l : Ckpts) (full : List Ckpt) (k : Ckpt) (c : Change) → queued (finished l (full, k)) Own c ≡ finished l (put_in (full, k) c)
queued_next l full k c =
    by_room (λ f. queued (finished l (full, k)) Own c ≡ finished l f) full k c
    (λ t. let p = two_parts (nat_lt 0 (length k.items)) (fits_in true k.items c) t in sym (queued_put (finished l (full, k)) Own c (some_items (length k.items) p.0) p.1))
    (λ f. sym (ap (λ (m : Ckpts). record m { newest = ckpt_with (empty_ckpt (ckpt_last k) Own) c }) (fold-append sealed_with l full (k ∷ []))
    ∙ queued_new (finished l (full, k)) Own c (not_both (length k.items) (fits_in true k.items c) f)))

pub queued_fold : (l : Ckpts) (f : List Ckpt × Ckpt) (cs : List Change) → queued_all (finished l f) cs ≡ finished l (fold put_in f cs)
queued_fold l f [] = refl
queued_fold l f (c ∷ cs) = ap (λ m. queued_all m cs) (queued_next l f.0 f.1 c) ∙ queued_fold l (put_in f c) cs

-- the sealed checkpoints of a list
abbrev pub sealed_of : Ckpts → List ℕ → Sealed
sealed_of l ends = record { spans = l.sealed; items = l.items; ends = ends }

-- a list with other sealed checkpoints, and another open one
abbrev pub list_with : Ckpts → Sealed → Ckpt → Ckpts
list_with l s k = record { sealed = s.spans; items = s.items; newest = k; places = l.places; floor = l.floor }

pub sealed_same : (l : Ckpts) (ends : List ℕ) (ws : List Ckpt) (k : Ckpt) → list_with l (fold sealed_behind (sealed_of l ends) ws) k ≡ finished l (ws, k)
sealed_same l ends [] k = refl
sealed_same l ends (w ∷ ws) k = sealed_same (sealed_with l w) (ends_behind (ckpt_span w) ends) ws k

-- whole ends may have full checkpoints behind them
pub can_seal : (l : Ckpts) (ends : List ℕ) (ws : List Ckpt) (k : Ckpt) → IsSound (record l { newest = first_of ws k }) → ends ≡ ends_of_whole l.sealed → Chained (first_of ws k).above ws k → CanSeal ends ws
can_seal l ends [] k sound wholes h = tt
can_seal l ends (w ∷ ws) k sound wholes h =
    let m : Ckpts = record l { newest = w } in
    let next = sealed_sound m ends sound wholes in
    let above = first_above (ckpt_last w) ws k h.2 in (
      subst (IsNonDecreasingBy (λ (e : ℕ). e)) (sym wholes) (wholes_sorted m sound),
      λ v at. subst (All (λ e. e < v.last)) (sym wholes) (wholes_below m v sound at),
      can_seal (sealed_list m) (ends_behind (ckpt_span w) ends) ws k (sound_newest (sealed_list m) next.0 (first_of ws k) above (first_rises (ckpt_last w) ws k h.2)) next.1 (subst (λ n. Chained n ws k) (sym above) h.2),
    )

-- the list stays sound
pub sealed_stands : (l : Ckpts) (ends : List ℕ) (ws : List Ckpt) (k : Ckpt) → HasWholes (record l { newest = first_of ws k }) ends → Chained (first_of ws k).above ws k → AllByRecursion (λ w. items_weight w.items ≤ MAX_WEIGHT) ws
    → HasWholes (list_with l (fold sealed_behind (sealed_of l ends) ws) k) (fold sealed_behind (sealed_of l ends) ws).ends
sealed_stands l ends [] k whole h light = whole
sealed_stands l ends (w ∷ ws) k whole h light =
    let m : Ckpts = record l { newest = w } in
    let above = first_above (ckpt_last w) ws k h.2 in
    let next = with_newest (sealed_list m) (ends_behind (ckpt_span w) ends) (sealed_on m ends whole light.0) (first_of ws k) above (first_rises (ckpt_last w) ws k h.2) in
    sealed_stands (sealed_list m) (ends_behind (ckpt_span w) ends) ws k next (subst (λ n. Chained n ws k) (sym above) h.2) light.1

-- what full checkpoints and an open one are to the list whose changes they took in
pub record Filling (l : Ckpts) (all : List Change) (full : List Ckpt) (k : Ckpt) : Type 0 where
  pub chain : Chained l.newest.above full k
  pub done : queued_all l all ≡ finished l (full, k)
  pub count : count_in full + length k.items ≤ length l.newest.items + length all
  pub back : (last : ℕ) → last ≡ ckpt_last l.newest → cut_to last (first_of full k) ≡ l.newest

pub filling : (l m : Ckpts) (all : List Change) (full : List Ckpt) (k : Ckpt) → IsSound l → l ≡ m → ArePartsAbove (high_of m) all → (full, k) ≡ fold put_in ([], l.newest) all → Filling l all full k
filling l m all full k sound seen given put =
    let parts : ArePartsAbove (high_of l) all = subst (λ (n : Ckpts). ArePartsAbove (high_of n) all) (sym seen) given in
    record {
      chain = subst (λ (f : List Ckpt × Ckpt). Chained l.newest.above f.0 f.1) (sym put) (chained_all l.newest.above ([], l.newest) all (refl, sound.newest) parts);
      done = queued_fold l ([], l.newest) all ∙ ap (finished l) (sym put);
      count = let counted : count_all (full, k) ≡ count_all (fold put_in ([], l.newest) all) = ap count_all put in omega (arith, counted, count_fold ([], l.newest) all);
      back = λ last at. all_back last l.newest all (full, k) sound.newest at parts put;
    }

-- no checkpoint is full
pub open_only : (l : Ckpts) (ends : List ℕ) (all : List Change) (full : List Ckpt) (k : Ckpt) → HasWholes l ends → Filling l all full k → full ≡ [] → HasWholes (record l { newest = k }) ends × (record l { newest = k } ≡ queued_all l all)
open_only l ends all full k whole f none =
    let h = subst (λ ws. Chained l.newest.above ws k) none f.chain in
    (with_newest l ends whole k h.0 h.1, ap (λ ws. finished l (ws, k)) (sym none) ∙ sym f.done)

chained_first : (l : Ckpts) (all : List Change) (full : List Ckpt) (k : Ckpt) → Filling l all full k → Chained (first_of full k).above full k
chained_first l all full k f = subst (λ n. Chained n full k) (sym (first_above l.newest.above full k f.chain)) f.chain

pub full_can_seal : (l : Ckpts) (ends : List ℕ) (all : List Change) (full : List Ckpt) (k : Ckpt) → HasWholes l ends → Filling l all full k → CanSeal ends full
full_can_seal l ends all full k whole f =
    can_seal l ends full k (sound_newest l whole.sound (first_of full k) (first_above l.newest.above full k f.chain) (first_rises l.newest.above full k f.chain)) whole.wholes (chained_first l all full k f)

-- the full ones are sealed
pub full_sealed : (l : Ckpts) (ends : List ℕ) (all : List Change) (full : List Ckpt) (k : Ckpt) (s : Sealed) → HasWholes l ends → Filling l all full k → AllByRecursion (λ w. items_weight w.items ≤ MAX_WEIGHT) full
    → s ≡ fold sealed_behind (sealed_of l ends) full → HasWholes (list_with l s k) s.ends × (list_with l s k ≡ queued_all l all)
full_sealed l ends all full k s whole f light made =
    let first = with_newest l ends whole (first_of full k) (first_above l.newest.above full k f.chain) (first_rises l.newest.above full k f.chain) in (
      subst (λ (t : Sealed). HasWholes (list_with l t k) t.ends) (sym made) (sealed_stands l ends full k first (chained_first l all full k f) light),
      ap (λ (t : Sealed). list_with l t k) made ∙ sealed_same l ends full k ∙ sym f.done,
    )
