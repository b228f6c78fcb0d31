-- links that go on behind a line, or of which it tells that they ended
use Rattle.std.specs.Prelude.{◌≡◌, ◌<◌, ◌≤◌, ◌⊎◌, ◌∷◌, ◌++◌, ◌==◌, ◌||◌, if◌then◌else◌, cond}
use Rattle.std.proofs.lemmas.Grind.{flat_map-append}
use Rattle.transcript_law.proofs.Words.{ℕ, zero, suc, arith, Bool, true, false, List, [], refl, ap, sym, ◌∙◌, subst, inl, inr, ⊎_elim, filter, flat_map, eqb-true, eqb-false, eq-eqb, cases_lt, Option, Some, None, Chronicle, Event, EndReason, PlainLink, PlainNode, PlainWorld}
use Rattle.transcript_law.proofs.Words.{after_lines, consumer_node, link_ended, link_number, links_ended, producer_node, row_at, row_out, row_put, unlinked}
use Rattle.disk_journals.specs.Books.{below}
use Rattle.node_world.specs.{Power.{all_cut, all_numbers, all_unlinked, closed_lines, down_lines, dropped, end_line, end_lines, is_this_number, is_touched, numbers, stopped_node, touches}, Worlds.{node_if}}
use Rattle.transcript_law.proofs.ends.Told.{EndsIn, goes_on, in_behind, in_front}
use Rattle.transcript_law.proofs.{invariant.{Agreement.{Agrees, IsLink}, LinkRows.{found_is_link}, Numbered.{out_other, passed, put_in, put_other, told_there}}, links.Turning.{told_alike}, verbs.StopTellings.{AreDialed, dial_told}}
use Rattle.transcript_law.specs.{Ends.{Dials, NoneAt}, LinesTold.{Dial, is_dial_at}}
use Rattle.vb_disk.specs.declared.made.Outcome.{Outcome}

-- a link of this number is among these
abbrev pub IsThere : ℕ → List PlainLink → Type 0
IsThere l links = (y : PlainLink) × IsLink y links × (link_number y ≡ l)

-- each link that is dialed is one of the world's
abbrev pub AllLinked : PlainWorld → Dials → Type 0
AllLinked w dials = (l : ℕ) (d : Dial) → dials l ≡ Some d → IsThere l w.links

-- one of the links before goes on, or its end is told
abbrev pub GoesOrEnds : List PlainLink → List Event → PlainLink → Type 0
GoesOrEnds links lines x = IsThere (link_number x) links ⊎ EndsIn (link_number x) lines

abbrev pub Kept : List PlainLink → List PlainLink → List Event → Type 0
Kept links links' lines = (x : PlainLink) → IsLink x links → GoesOrEnds links' lines x

-- ---- links that stay

pub kept_same : (links links' : List PlainLink) (lines : List Event) → links' ≡ links → Kept links links' lines
kept_same links links' lines same x i = inl (x, subst (IsLink x) (sym same) i, refl)

pub kept_front : (a b : List PlainLink) (xs ys : List Event) → Kept a b xs → Kept a b (xs ++ ys)
kept_front a b xs ys k x i = ⊎_elim (λ stays. inl stays) (λ told. inr (in_front (link_number x) xs ys told)) (k x i)

pub kept_behind : (a b : List PlainLink) (xs ys : List Event) → Kept a b ys → Kept a b (xs ++ ys)
kept_behind a b xs ys k x i = ⊎_elim (λ stays. inl stays) (λ told. inr (in_behind (link_number x) xs ys told)) (k x i)

pub kept_both : (a b c : List PlainLink) (lines : List Event) → Kept a b lines → Kept b c lines → Kept a c lines
kept_both a b c lines first second x i = ⊎_elim
    (λ (y, j, e). ⊎_elim (λ (z, k, f). inl (z, k, f ∙ e)) (λ told. inr (subst (λ l. EndsIn l lines) e told)) (second y j))
    (λ told. inr told) (first x i)

-- another one in its place
pub kept_put : (l : ℕ) (link : PlainLink) (links : List PlainLink) (lines : List Event) → link_number link ≡ l → Kept links (row_put link_number l link links) lines
kept_put l link links lines n x i = by (link_number x == l) refl
  where
    by : (b : Bool) → (link_number x == l) ≡ b → GoesOrEnds (row_put link_number l link links) lines x
    by true t = let e = eqb-true (link_number x) l t in inl (link, put_in l link links x i e, n ∙ sym e)
    by false t = inl (x, put_other l link links x i (eqb-false (link_number x) l t), refl)

-- none in its place, of which it is told that it ended
pub kept_out : (l : ℕ) (links : List PlainLink) (lines : List Event) → EndsIn l lines → Kept links (row_out link_number l links) lines
kept_out l links lines told x i = by (link_number x == l) refl
  where
    by : (b : Bool) → (link_number x == l) ≡ b → GoesOrEnds (row_out link_number l links) lines x
    by true t = inr (subst (λ k. EndsIn k lines) (sym (eqb-true (link_number x) l t)) told)
    by false t = inl (x, out_other l links x i (eqb-false (link_number x) l t), refl)

-- streams of theirs that ended
pub kept_told : (n v : ℕ) (ids : List ℕ) (links : List PlainLink) (lines : List Event) → Kept links (links_ended n v ids links) lines
kept_told n v ids links lines x i = inl (link_ended n v ids x, told_there n v ids x links i, ap (λ d. d.link) (told_alike n v ids x).dialed)

-- one more of them
pub kept_more : (links more : List PlainLink) (lines : List Event) → Kept links (links ++ more) lines
kept_more links more lines x i = inl (x, there links i, refl)
  where
    there : (links : List PlainLink) → IsLink x links → IsLink x (links ++ more)
    there [] i = absurd i
    there (z ∷ zs) i = ⊎_elim (λ e. inl e) (λ j. inr (there zs j)) i

-- a link of the list is found under its number
pub found : (links : List PlainLink) (x : PlainLink) → IsLink x links → (y : PlainLink) × (row_at link_number (link_number x) links ≡ Some y)
found [] x i = absurd i
found (z ∷ zs) x i = by (λ j. found zs x j) (link_number z == link_number x) refl
  where
    by : (IsLink x zs → (y : PlainLink) × (row_at link_number (link_number x) zs ≡ Some y)) → (b : Bool) → (link_number z == link_number x) ≡ b → (y : PlainLink) × ((if b then Some z else row_at link_number (link_number x) zs) ≡ Some y)
    by rest true t = (z, refl)
    by rest false t = ⊎_elim (λ e. absurd (eqb-false (link_number z) (link_number x) t (ap link_number (sym e)))) rest i

-- ---- a node that stops

-- what is told under each number is told
numbers_are : all_numbers ≡ below numbers
unfolding all_numbers
numbers_are = refl

below_ends : (f : ℕ → List Event) (l k : ℕ) → l < k → EndsIn l (f l) → EndsIn l (flat_map f (below k))
below_ends f l zero low told = absurd (omega (arith, low))
below_ends f l (suc k) low told = subst (EndsIn l) (sym (flat_map-append f (below k) (k ∷ []))) (⊎_elim
    (λ lower. in_front l (flat_map f (below k)) (f k ++ []) (below_ends f l k lower told))
    (λ last. let same : l ≡ k = omega (arith, low, last) in in_behind l (flat_map f (below k)) (f k ++ []) (in_front l (f k) [] (subst (λ j. EndsIn l (f j)) same told)))
    (cases_lt l k))

all_ends : (f : ℕ → List Event) (l : ℕ) → l < numbers → EndsIn l (f l) → EndsIn l (flat_map f all_numbers)
all_ends f l low told = subst (λ xs. EndsIn l (flat_map f xs)) (sym numbers_are) (below_ends f l numbers low told)

-- the end of a link of a small number that has an end there, or is this one more
pub down_ends : (n : ℕ) (also : Option ℕ) (w : PlainWorld) (l : ℕ) → l < numbers → (is_this_number l also || is_touched n (row_at link_number l w.links)) ≡ true → EndsIn l (down_lines n also w)
down_ends n also w l low test = in_front l (end_lines n also w.links) (closed_lines n (w.nodes n)) (all_ends (end_line n also w.links) l low (subst (λ b. EndsIn l (if b then Event.Ended l EndReason.Cut ∷ [] else [])) (sym test) (inl refl)))

later_of : (a b : Bool) → b ≡ true → (a || b) ≡ true
later_of true b e = refl
later_of false b e = e

passed_test : (p : PlainLink → Bool) (links : List PlainLink) (x : PlainLink) → IsLink x (filter p links) → p x ≡ true
passed_test p [] x i = absurd i
passed_test p (y ∷ ys) x i = by (λ k. passed_test p ys x k) (p y) refl i
  where
    by : (IsLink x (filter p ys) → p x ≡ true) → (b : Bool) → p y ≡ b → IsLink x (cond b (y ∷ filter p ys) (filter p ys)) → p x ≡ true
    by rest true t j = ⊎_elim (λ e. ap p e ∙ t) rest j
    by rest false t j = rest j

-- links that are taken out one after another, of which it is told
kept_unlinked : (zs : List PlainLink) (w : PlainWorld) (lines : List Event) → ((z : PlainLink) → IsLink z zs → EndsIn (link_number z) lines) → Kept w.links (all_unlinked zs w).links lines
kept_unlinked [] w lines told = kept_same w.links w.links lines refl
kept_unlinked (z ∷ zs) w lines told =
    kept_both w.links (unlinked z w).links (all_unlinked zs (unlinked z w)).links lines (kept_out (link_number z) w.links lines (told z (inl refl))) (kept_unlinked zs (unlinked z w) lines (λ y j. told y (inr j)))

if_links : (n : ℕ) (f : PlainNode → PlainNode) (w : PlainWorld) (o : Option PlainNode) → (node_if n f w o).links ≡ w.links
if_links n f w None = refl
if_links n f w (Some node) = refl

module _ (w : PlainWorld) (r : Chronicle) (a : Agrees w r) (linked : AllLinked w r.dial_of) where
  -- one that is dialed has a small number
  pub small : (l : ℕ) (d : Dial) → r.dial_of l ≡ Some d → l < 1000
  small l d e = let (x, i, s) = linked l d e in subst (λ k. k < 1000) s (a.1.ends x i).number

  -- behind that each is told ended which had an end at the node, as it was dialed
  module _ (n : ℕ) (also : Option ℕ) (w1 : PlainWorld) (d : AreDialed r w1.links) where
    pub touched_ends : (z : PlainLink) → IsLink z w1.links → touches n z ≡ true → EndsIn (link_number z) (down_lines n also w1)
    touched_ends z i t =
        let (y, at) = found w1.links z i in let is = found_is_link (link_number z) w1.links y at in
        let both : Some (dial_told y) ≡ Some (dial_told z) = sym (d y is.0) ∙ ap r.dial_of is.1 ∙ d z i in
        let same : is_dial_at n (Some (dial_told y)) ≡ true = ap (is_dial_at n) both ∙ t in
        down_ends n also w1 (link_number z) (small (link_number z) (dial_told z) (d z i)) (later_of (is_this_number (link_number z) also) _ (ap (is_touched n) at ∙ same))

    pub kept_dropped : (out : Outcome) → Kept w1.links (dropped n out w1).links (down_lines n also w1)
    kept_dropped out = subst (λ links. Kept w1.links links (down_lines n also w1)) (sym (if_links n (stopped_node out) (all_cut n w1) ((all_cut n w1).nodes n)))
        (kept_unlinked (filter (touches n) w1.links) w1 (down_lines n also w1) (λ z i. touched_ends z (passed (touches n) w1.links z i) (passed_test (touches n) w1.links z i)))

    -- so none is left that has one
    pub none_at : (lines : List Event) → Kept w.links w1.links lines → ((l : ℕ) → EndsIn l (down_lines n also w1) → EndsIn l lines) → NoneAt (after_lines r lines).dial_of n
    none_at lines kept told l = by ((after_lines r lines).dial_of l) refl
      where
        there : (dial : Dial) → r.dial_of l ≡ Some dial → is_dial_at n (Some dial) ≡ true → EndsIn l lines
        there dial was t =
            let (x, i, s) = linked l dial was in
            ⊎_elim
            (λ (y, j, e).
            let is : Some (dial_told y) ≡ Some dial = sym (d y j) ∙ ap r.dial_of (e ∙ s) ∙ was in
            told l (subst (λ k. EndsIn k (down_lines n also w1)) (e ∙ s) (touched_ends y j (ap (is_dial_at n) is ∙ t))))
            (λ ends. subst (λ k. EndsIn k lines) s ends) (kept x i)

        still : (dial : Dial) → (after_lines r lines).dial_of l ≡ Some dial → (b : Bool) → is_dial_at n (Some dial) ≡ b → b ≡ false
        still dial e false t = refl
        still dial e true t = let p = goes_on r lines l dial e in absurd (p.1 (there dial p.0 t))

        by : (o : Option Dial) → (after_lines r lines).dial_of l ≡ o → is_dial_at n o ≡ false
        by None e = refl
        by (Some dial) e = still dial e (is_dial_at n (Some dial)) refl
