-- the vBuckets that were active when a node was written down, and the ids of their new branches
use Rattle.std.specs.Prelude.{◌≡◌, ◌<◌, ◌≤◌, ◌∷◌, ◌++◌, ◌==◌, ◌||◌, ◌^◌, if◌then◌else◌, option_map, option_to_list, zip}
use Rattle.std.proofs.lemmas.Grind.{flat_map-append}
use Rattle.std.proofs.lemmas.List.Elements.{filter-append}
use Rattle.std.proofs.lemmas.List.Folds.{list_any-append}
use Rattle.transcript_law.proofs.Words.{ℕ, zero, suc, Bool, true, false, List, [], refl, ap, sym, ◌∙◌, subst, arith, All, All-head, All-tail, Option, Some, None, filter, flat_map, length, is_active, is_one_of, eqb-false, ne_eqb, Event, PlainNode, ⊎_elim, cases_lt}
use Rattle.transcript_law.proofs.verbs.StartRuns.{AllMake, AllReady, AreApart, AreFree, NotAmong, Ready}
use Rattle.branch_model.specs.Journals.{role_of}
use Rattle.disk_journals.specs.Books.{below, book_at, listed}
use Rattle.disk_journals.specs.declared.crash.TheConstants.{NUMBERS}
use Rattle.journal_points.specs.Points.{or_dead}
use Rattle.node_core.specs.Loading.{active_in, active_ones}
use Rattle.node_world.specs.Power.{any_used}
use Rattle.transcript_law.specs.LineAnswers.{MakesBranch}
use Rattle.vb_types.specs.declared.journal.Record.{Record}

-- the last role that these records tell is active
abbrev pub was_active_in : Option (List Record) → Bool
was_active_in None = false
was_active_in (Some js) = is_active (or_dead (role_of js))

-- something holds of each
abbrev pub Each : (ℕ → Type 0) → List ℕ → Type 0
Each P [] = Unit {0}
Each P (v ∷ vs) = P v × Each P vs

abbrev pub AllDiffer : List ℕ → Type 0
AllDiffer [] = Unit {0}
AllDiffer (v ∷ vs) = Each (λ u. u ≡ v → ⊥) vs × AllDiffer vs

each_more : (P Q : ℕ → Type 0) → ((v : ℕ) → P v → Q v) → (vs : List ℕ) → Each P vs → Each Q vs
each_more P Q f [] x = tt
each_more P Q f (v ∷ vs) x = (f v x.0, each_more P Q f vs x.1)

each_push : (P : ℕ → Type 0) (vs : List ℕ) (k : ℕ) → Each P vs → P k → Each P (vs ++ k ∷ [])
each_push P [] k x y = (y, tt)
each_push P (v ∷ vs) k x y = (x.0, each_push P vs k x.1 y)

each_front : (P : ℕ → Type 0) (xs ys : List ℕ) → Each P (xs ++ ys) → Each P xs × Each P ys
each_front P [] ys x = (tt, x)
each_front P (v ∷ vs) ys x = let p = each_front P vs ys x.1 in ((x.0, p.0), p.1)

differ_push : (vs : List ℕ) (k : ℕ) → AllDiffer vs → Each (λ u. u < k) vs → AllDiffer (vs ++ k ∷ [])
differ_push [] k d l = (tt, tt)
differ_push (v ∷ vs) k d l = (each_push (λ u. u ≡ v → ⊥) vs k d.0 (λ e. let z : v < k = l.0 in let y : k ≡ v = e in omega arith), differ_push vs k d.1 l.1)

all_below : (k : ℕ) → Each (λ u. u < k) (below k)
all_below zero = tt
all_below (suc k) = each_push (λ u. u < suc k) (below k) k (each_more (λ u. u < k) (λ u. u < suc k) (λ v l. omega arith) (below k) (all_below k)) (omega arith)

differ_below : (k : ℕ) → AllDiffer (below k)
differ_below zero = tt
differ_below (suc k) = differ_push (below k) k (differ_below k) (all_below k)

module _ (A : ℕ → Bool) where
  each_kept : (P : ℕ → Type 0) (vs : List ℕ) → Each P vs → Each P (filter A vs)
  each_kept P [] x = tt
  each_kept P (v ∷ vs) x = elim (A v) as (λ b. Each P (if b then v ∷ filter A vs else filter A vs)) [ true ↦ (x.0, each_kept P vs x.1) | false ↦ each_kept P vs x.1 ]

  each_filter : (P : ℕ → Type 0) → ((v : ℕ) → A v ≡ true → P v) → (vs : List ℕ) → Each P (filter A vs)
  each_filter P f [] = tt
  each_filter P f (v ∷ vs) = let more = each_filter P f vs in elim (A v) as (λ b. A v ≡ b → Each P (if b then v ∷ filter A vs else filter A vs)) [ true ↦ λ e. (f v e, more) | false ↦ λ e. more ] refl

  differ_kept : (vs : List ℕ) → AllDiffer vs → AllDiffer (filter A vs)
  differ_kept [] d = tt
  differ_kept (v ∷ vs) d = let more = differ_kept vs d.1 in elim (A v) as (λ b. AllDiffer (if b then v ∷ filter A vs else filter A vs)) [ true ↦ (each_kept (λ u. u ≡ v → ⊥) vs d.0, more) | false ↦ more ]

  each_at : (P : ℕ → Type 0) (k v : ℕ) → v < k → A v ≡ true → Each P (filter A (below k)) → P v
  each_at P zero v l e x = absurd (omega arith)
  each_at P (suc k) v l e x =
      let p = each_front P (filter A (below k)) (filter A (k ∷ [])) (subst (Each P) (filter-append A (below k) (k ∷ [])) x) in ⊎_elim
      (λ low. each_at P k v low e p.0)
      (λ high. let same : v ≡ k = omega arith in subst P (sym same) (subst (λ b. Each P (if b then k ∷ [] else [])) (ap A (sym same) ∙ e) p.1).0)
      (cases_lt v k)

-- those that were active, by their numbers
active_is : (f : ℕ → Option (List Record)) (vs : List ℕ) → flat_map active_in (flat_map (book_at f) vs) ≡ filter (λ v. was_active_in (f v)) vs
active_is f [] = refl
active_is f (v ∷ vs) =
    flat_map-append active_in (book_at f v) (flat_map (book_at f) vs) ∙ (λ i. flat_map active_in (book_at f v) ++ active_is f vs i)
    ∙ elim (f v) as (λ o. flat_map active_in (option_to_list (option_map (λ js. (v, js)) o)) ++ filter (λ u. was_active_in (f u)) vs ≡ (if was_active_in o then v ∷ filter (λ u. was_active_in (f u)) vs else filter (λ u. was_active_in (f u)) vs)) [
      | None ↦ refl
      | Some js ↦ elim (is_active (or_dead (role_of js))) as (λ b. ((if b then v ∷ [] else []) ++ []) ++ filter (λ u. was_active_in (f u)) vs ≡ (if b then v ∷ filter (λ u. was_active_in (f u)) vs else filter (λ u. was_active_in (f u)) vs)) [ true ↦ refl | false ↦ refl ]
    ]

pub active_listed : (f : ℕ → Option (List Record)) → active_ones (listed f) ≡ filter (λ v. was_active_in (f v)) (below NUMBERS)
unfolding listed
active_listed f = active_is f (below NUMBERS)

module _ (f : ℕ → Option (List Record)) where
  pub each_active : (P : ℕ → Type 0) → ((v : ℕ) → was_active_in (f v) ≡ true → P v) → Each P (active_ones (listed f))
  each_active P g = subst (Each P) (sym (active_listed f)) (each_filter (λ v. was_active_in (f v)) P g (below NUMBERS))

  pub differ_active : AllDiffer (active_ones (listed f))
  differ_active = subst AllDiffer (sym (active_listed f)) (differ_kept (λ v. was_active_in (f v)) (below NUMBERS) (differ_below NUMBERS))

  pub active_at : (P : ℕ → Type 0) (v : ℕ) → v < NUMBERS → was_active_in (f v) ≡ true → Each P (active_ones (listed f)) → P v
  active_at P v l e x = each_at (λ v. was_active_in (f v)) P NUMBERS v l e (subst (Each P) (active_listed f) x)

-- each with its id

pub ready_zip : (node : PlainNode) (vs ids : List ℕ) → Each (Ready node) vs → AllReady node (zip vs ids)
ready_zip node [] ids x = tt
ready_zip node (v ∷ vs) [] x = tt
ready_zip node (v ∷ vs) (u ∷ ids) x = (x.0, ready_zip node vs ids x.1)

not_among : (v : ℕ) (vs ids : List ℕ) → Each (λ u. u ≡ v → ⊥) vs → NotAmong v (zip vs ids)
not_among v [] ids x = tt
not_among v (w ∷ vs) [] x = tt
not_among v (w ∷ vs) (u ∷ ids) x = (x.0, not_among v vs ids x.1)

pub apart_zip : (vs ids : List ℕ) → AllDiffer vs → AreApart (zip vs ids)
apart_zip [] ids d = tt
apart_zip (v ∷ vs) [] d = tt
apart_zip (v ∷ vs) (u ∷ ids) d = (not_among v vs ids d.0, apart_zip vs ids d.1)

pub made_zip : (n : ℕ) (vs ids : List ℕ) (lines : List Event) → length vs ≤ length ids → AllMake n (zip vs ids) lines → Each (λ v. MakesBranch n v lines) vs
made_zip n [] ids lines l x = tt
made_zip n (v ∷ vs) [] lines l x = absurd (omega arith)
made_zip n (v ∷ vs) (u ∷ ids) lines l x = (x.0, made_zip n vs ids lines (omega arith) x.1)

-- as many as there are, where there are ids for all
pub zip_long : (vs ids : List ℕ) → length vs ≤ length ids → length (zip vs ids) ≡ length vs
zip_long [] ids l = refl
zip_long (v ∷ vs) [] l = absurd (omega arith)
zip_long (v ∷ vs) (u ∷ ids) l = let rest = zip_long vs ids (omega arith) in omega (arith, rest)

-- ids that are free stay so while others are used

or_false : (a b : Bool) → (a || b) ≡ false → (a ≡ false) × (b ≡ false)
or_false true b e = cc
or_false false b e = (refl, e)

other_id : (u x : ℕ) (ids : List ℕ) → (u == x) ≡ false → is_one_of x ids ≡ false → is_one_of x (u ∷ ids) ≡ false
other_id u x ids e o = ap (λ b. b || is_one_of x ids) e ∙ o

free_more : (u x : ℕ) (used : List ℕ) → is_one_of u used ≡ false → (u == x) ≡ false → is_one_of u (used ++ x ∷ []) ≡ false
free_more u x used e ne = list_any-append (λ m. m == u) used (x ∷ []) ∙ (λ i. e i || (ne_eqb x u (λ s. eqb-false u x ne (sym s)) i || false))

any_more : (x : ℕ) (used ids : List ℕ) → any_used used ids ≡ false → is_one_of x ids ≡ false → any_used (used ++ x ∷ []) ids ≡ false
any_more x used [] e o = refl
any_more x used (u ∷ ids) e o =
    let a = or_false (is_one_of u used || is_one_of u ids) (any_used used ids) e in let b = or_false (is_one_of u used) (is_one_of u ids) a.0 in let d = or_false (u == x) (is_one_of x ids) o in
    (λ i. free_more u x used b.0 d.0 i || b.1 i || any_more x used ids a.1 d.1 i)

pub free_zip : (used vs ids : List ℕ) → any_used used ids ≡ false → is_one_of 0 ids ≡ false → All (λ u. u < 2 ^ 64) ids → AreFree used (zip vs ids)
free_zip used [] ids e z s = tt
free_zip used (v ∷ vs) [] e z s = tt
free_zip used (v ∷ vs) (u ∷ ids) e z s =
    let a = or_false (is_one_of u used || is_one_of u ids) (any_used used ids) e in let b = or_false (is_one_of u used) (is_one_of u ids) a.0 in let d = or_false (u == 0) (is_one_of 0 ids) z in
    (b.0, eqb-false u 0 d.0, All-head (λ u. u < 2 ^ 64) u ids s, free_zip (used ++ u ∷ []) vs ids (any_more u used ids a.1 b.1) d.1 (All-tail (λ u. u < 2 ^ 64) u ids s))
