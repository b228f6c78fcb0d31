-- the lines of a node that stops come by rising numbers, and nothing of it goes on
use Rattle.std.proofs.Common.{◌≡◌, ℕ, zero, suc, ◌<◌, Bool, true, false, cond, ◌||◌, List, [], ◌∷◌, ◌++◌, Option, Some, None, filter, flat_map, map, length, refl, ap, sym, ◌∙◌, subst, ◌⊎◌, inl, inr, arith, is_some}
use Rattle.std.specs.Prelude.{◌↔◌, ◌==◌, if◌then◌else◌}
use Rattle.std.specs.List.{AllByRecursion}
use Rattle.std.proofs.lemmas.Bool.{eqb-true, eq-eqb}
use Rattle.std.proofs.lemmas.Bool.Decides.{nat_tests}
use Rattle.disk_journals.specs.Arms.{opens_all}
use Rattle.disk_journals.specs.Books.{Book, below}
use Rattle.node_core.specs.Flushing.{FlushResult}
use Rattle.node_core.specs.Loading.{are_short, starts_of}
use Rattle.vb_disk.specs.declared.made.Outcome.{Outcome}
use Rattle.vb_events.specs.declared.event.Answer.TheVariants as answer
use Rattle.vb_events.specs.declared.event.Cause.{Cause}
use Rattle.vb_events.specs.declared.event.Cause.TheVariants as cause
use Rattle.vb_events.specs.declared.event.EndReason.TheVariants as reason
use Rattle.vb_events.specs.declared.event.Event.{Event}
use Rattle.vb_events.specs.declared.event.Event.TheVariants as event
use Rattle.vbucket.specs.Rows.{row_at}
use Rattle.node_core.specs.Clients.{PlainClient}
use Rattle.node_world.specs.declared.arm.Arm.{Arm}
use Rattle.node_world.specs.declared.arm.Fired.{Fired}
use Rattle.node_world.specs.declared.arm.Fired.TheVariants as fired
use Rattle.node_world.specs.declared.told.Told.{Told}
use Rattle.node_world.specs.Arms.{PlainNode, fired_by}
use Rattle.node_world.specs.Links.{PlainLink, link_number, producer_node, consumer_node}
use Rattle.node_world.specs.Nodes.{done, first_cause, refusal, refused_or}
use Rattle.node_world.specs.Power.{all_cut, all_numbers, burnt_arm, crash_causes, down_lines, dropped, has_client, is_this_number, is_touched, loaded_node, not_opened, numbers, opened_at, start_if, start_one, started_by, starts_from, stopped_node, touches}
use Rattle.node_world.specs.Stops.{Climb, EndsInOrder, Has, HasEnd, HasNothing, IsOpen, LeavesNothing, StartsAtZero, StopsInOrder}
use Rattle.node_world.specs.Worlds.{PlainWorld, node_if}

-- ---- numbers that pass a test

-- one line for each that passes
lines_of : (test : ℕ → Bool) (line : ℕ → Event) (ks : List ℕ) → flat_map (λ k. if test k then line k ∷ [] else []) ks ≡ map line (filter test ks)
lines_of test line [] = refl
lines_of test line (k ∷ ks) = elim (test k) as (λ b. (cond b (line k ∷ []) [] ++ flat_map (λ k. if test k then line k ∷ [] else []) ks) ≡ map line (cond b (k ∷ filter test ks) (filter test ks))) [
  | true ↦ ap (λ es. line k ∷ es) (lines_of test line ks)
  | false ↦ lines_of test line ks
]

has_passed : (test : ℕ → Bool) (xs : List ℕ) (k : ℕ) → Has (filter test xs) k → Has xs k × (test k ≡ true)
has_passed test [] k h = absurd h
has_passed test (x ∷ xs) k h = by (test x) refl h (has_passed test xs k)
  where
    by : (b : Bool) → test x ≡ b → Has (cond b (x ∷ filter test xs) (filter test xs)) k → (Has (filter test xs) k → Has xs k × (test k ≡ true)) → Has (x ∷ xs) k × (test k ≡ true)
    by true e (inl is) rest = (inl is, ap test (sym is) ∙ e)
    by true e (inr more) rest = let r = rest more in (inr r.0, r.1)
    by false e more rest = let r = rest more in (inr r.0, r.1)

passes_has : (test : ℕ → Bool) (xs : List ℕ) (k : ℕ) → Has xs k → test k ≡ true → Has (filter test xs) k
passes_has test [] k h t = absurd h
passes_has test (x ∷ xs) k h t = by (test x) refl h (λ more. passes_has test xs k more t)
  where
    by : (b : Bool) → test x ≡ b → Has (x ∷ xs) k → (Has xs k → Has (filter test xs) k) → Has (cond b (x ∷ filter test xs) (filter test xs)) k
    by true e (inl is) rest = inl is
    by true e (inr more) rest = inr (rest more)
    by false e (inl is) rest = let other : false ≡ true = sym e ∙ ap test is ∙ t in absurd (cc other)
    by false e (inr more) rest = rest more

above_passed : (test : ℕ → Bool) (low : ℕ) (xs : List ℕ) → AllByRecursion (λ y. low < y) xs → AllByRecursion (λ y. low < y) (filter test xs)
above_passed test low [] a = tt
above_passed test low (x ∷ xs) a = elim (test x) as (λ b. AllByRecursion (λ y. low < y) (cond b (x ∷ filter test xs) (filter test xs))) [
  | true ↦ (a.0, above_passed test low xs a.1)
  | false ↦ above_passed test low xs a.1
]

climb_passed : (test : ℕ → Bool) (xs : List ℕ) → Climb xs → Climb (filter test xs)
climb_passed test [] c = tt
climb_passed test (x ∷ xs) c = elim (test x) as (λ b. Climb (cond b (x ∷ filter test xs) (filter test xs))) [
  | true ↦ (above_passed test x xs c.0, climb_passed test xs c.1)
  | false ↦ climb_passed test xs c.1
]

-- ---- the numbers below another one

above_pushed : (low n : ℕ) (xs : List ℕ) → AllByRecursion (λ y. low < y) xs → low < n → AllByRecursion (λ y. low < y) (xs ++ n ∷ [])
above_pushed low n [] a l = (l, tt)
above_pushed low n (x ∷ xs) a l = (a.0, above_pushed low n xs a.1 l)

climb_pushed : (n : ℕ) (xs : List ℕ) → Climb xs → AllByRecursion (λ y. y < n) xs → Climb (xs ++ n ∷ [])
climb_pushed n [] c b = (tt, tt)
climb_pushed n (x ∷ xs) c b = (above_pushed x n xs c.0 b.0, climb_pushed n xs c.1 b.1)

under_pushed : (n : ℕ) (xs : List ℕ) → AllByRecursion (λ y. y < n) xs → AllByRecursion (λ y. y < suc n) (xs ++ n ∷ [])
under_pushed n [] a = (omega arith, tt)
under_pushed n (x ∷ xs) a = let l : x < n = a.0 in (omega arith, under_pushed n xs a.1)

below_under : (n : ℕ) → AllByRecursion (λ y. y < n) (below n)
below_under zero = tt
below_under (suc n) = under_pushed n (below n) (below_under n)

below_climb : (n : ℕ) → Climb (below n)
below_climb zero = tt
below_climb (suc n) = climb_pushed n (below n) (below_climb n) (below_under n)

under_has : (n k : ℕ) (xs : List ℕ) → AllByRecursion (λ y. y < n) xs → Has xs k → k < n
under_has n k [] a h = absurd h
under_has n k (x ∷ xs) a (inl is) = let l : x < n = a.0 in omega arith
under_has n k (x ∷ xs) a (inr more) = under_has n k xs a.1 more

has_left : (xs ys : List ℕ) (k : ℕ) → Has xs k → Has (xs ++ ys) k
has_left [] ys k h = absurd h
has_left (x ∷ xs) ys k (inl is) = inl is
has_left (x ∷ xs) ys k (inr more) = inr (has_left xs ys k more)

has_last : (xs : List ℕ) (k : ℕ) → Has (xs ++ k ∷ []) k
has_last [] k = inl refl
has_last (x ∷ xs) k = inr (has_last xs k)

below_has : (n k : ℕ) → k < n → Has (below n) k
below_has zero k l = absurd (omega arith)
below_has (suc n) k l = by (n == k) refl (below_has n k)
  where
    lower : (n == k) ≡ false → k < n
    lower e = grind (arith, nat_tests, e, l)

    by : (b : Bool) → (n == k) ≡ b → (k < n → Has (below n) k) → Has (below n ++ n ∷ []) k
    by true e more = subst (Has (below n ++ n ∷ [])) (eqb-true n k e) (has_last (below n) n)
    by false e more = has_left (below n) (n ∷ []) k (more (lower e))

all_climb : Climb all_numbers
unfolding all_numbers
all_climb = below_climb numbers

all_has : (k : ℕ) → Has all_numbers k ↔ (k < 1000)
unfolding all_numbers
all_has k = (under_has numbers k (below numbers) (below_under numbers), below_has numbers k)

-- ---- the links and the connections of a node

is_one : (l : ℕ) (also : Option ℕ) → (is_this_number l also ≡ true) ↔ (also ≡ Some l)
is_one l None = (λ e. let no : false ≡ true = e in absurd (cc no), λ e. absurd (cc e))
is_one l (Some k) = (λ e. ap Some (sym (eqb-true l k e)), λ e. eq-eqb l k (let same : k ≡ l = cc e in sym same))

or_is : (a b : Bool) → (a || b) ≡ true → (a ≡ true) ⊎ (b ≡ true)
or_is true b e = inl refl
or_is false b e = inr e

or_left : (a b : Bool) → a ≡ true → (a || b) ≡ true
or_left true b e = refl
or_left false b e = absurd (cc e)

or_right : (a b : Bool) → b ≡ true → (a || b) ≡ true
or_right true b e = refl
or_right false b e = e

touches_is : (n : ℕ) (link : PlainLink) → (touches n link ≡ true) ↔ ((producer_node link ≡ n) ⊎ (consumer_node link ≡ n))
touches_is n link = (
  λ t. elim (or_is _ _ t) [ inl a ↦ inl (eqb-true _ n a) | inr a ↦ inr (eqb-true _ n a) ],
  λ o. elim o [ inl a ↦ or_left _ _ (eq-eqb _ n a) | inr a ↦ or_right (producer_node link == n) _ (eq-eqb _ n a) ],
)

touched_by_row : (n l : ℕ) (w : PlainWorld) (o : Option PlainLink) → row_at link_number l w.links ≡ o → (is_touched n o ≡ true) ↔ HasEnd n w l
touched_by_row n l w None at = (λ e. let no : false ≡ true = e in absurd (cc no), λ h. let no : None ≡ Some h.0 = sym at ∙ h.1 in absurd (cc no))
touched_by_row n l w (Some link) at = (
  λ t. (link, at, (touches_is n link).0 t),
  λ h. let same : link ≡ h.0 = cc (sym at ∙ h.1) in (touches_is n link).1 (subst (λ x. (producer_node x ≡ n) ⊎ (consumer_node x ≡ n)) (sym same) h.2),
)

-- whether the end of the link l is told
abbrev ends : ℕ → Option ℕ → PlainWorld → ℕ → Bool
ends n also w l = is_this_number l also || is_touched n (row_at link_number l w.links)

ends_is : (n : ℕ) (also : Option ℕ) (w : PlainWorld) (l : ℕ) → (ends n also w l ≡ true) ↔ ((also ≡ Some l) ⊎ HasEnd n w l)
ends_is n also w l =
    let touched = touched_by_row n l w (row_at link_number l w.links) refl in (
      λ t. elim (or_is _ _ t) [ inl a ↦ inl ((is_one l also).0 a) | inr a ↦ inr (touched.0 a) ],
      λ o. elim o [ inl a ↦ or_left _ _ ((is_one l also).1 a) | inr a ↦ or_right (is_this_number l also) _ (touched.1 a) ],
    )

open_is : (n c : ℕ) (w : PlainWorld) (o : Option PlainNode) → w.nodes n ≡ o → (has_client c o ≡ true) ↔ IsOpen n w c
open_is n c w None at = (λ e. let no : false ≡ true = e in absurd (cc no), λ h. let no : None ≡ Some h.0 = sym at ∙ h.1 in absurd (cc no))
open_is n c w (Some node) at = (
  λ t. by (node.clients c) refl t,
  λ h. let same : node ≡ h.0 = cc (sym at ∙ h.1) in ap (λ x. is_some (x.clients c)) same ∙ ap is_some h.3,
)
  where
    by : (o : Option PlainClient) → node.clients c ≡ o → is_some o ≡ true → IsOpen n w c
    by None e t = let no : false ≡ true = t in absurd (cc no)
    by (Some client) e t = (node, at, client, e)

-- of the numbers that pass a test
passed_is : (P : ℕ → Type 0) (test : ℕ → Bool) → ((k : ℕ) → (test k ≡ true) ↔ P k) → (k : ℕ) → Has (filter test all_numbers) k ↔ ((k < 1000) × P k)
passed_is P test is k = (
  λ h. let r = has_passed test all_numbers k h in ((all_has k).0 r.0, (is k).0 r.1),
  λ h. passes_has test all_numbers k ((all_has k).1 h.0) ((is k).1 h.1),
)

pub in_order : (n : ℕ) (also : Option ℕ) (w : PlainWorld) → EndsInOrder n also w (down_lines n also w)
in_order n also w = record {
  links = filter (ends n also w) all_numbers;
  clients = filter (λ c. has_client c (w.nodes n)) all_numbers;
  told = λ i. lines_of (ends n also w) (λ l. event.Ended l reason.Cut) all_numbers i ++ lines_of (λ c. has_client c (w.nodes n)) (λ c. event.Closed n c) all_numbers i;
  links_climb = climb_passed (ends n also w) all_numbers all_climb;
  clients_climb = climb_passed (λ c. has_client c (w.nodes n)) all_numbers all_climb;
  cut = passed_is (λ l. (also ≡ Some l) ⊎ HasEnd n w l) (ends n also w) (ends_is n also w);
  closed = passed_is (IsOpen n w) (λ c. has_client c (w.nodes n)) (λ c. open_is n c w (w.nodes n) refl);
}

-- what is left of the node, in a world where it was this
left_by : (n : ℕ) (out : Outcome) (w : PlainWorld) (o : Option PlainNode) → w.nodes n ≡ o → LeavesNothing n (node_if n (stopped_node out) w o)
left_by n out w None at node there = let no : None ≡ Some node = sym at ∙ there in absurd (cc no)
left_by n out w (Some old) at node there =
    let is : Some (stopped_node out old) ≡ Some node = sym (ap (λ b. if b then Some (stopped_node out old) else w.nodes n) (eq-eqb n n refl)) ∙ there in
    let same : stopped_node out old ≡ node = cc is in
    subst HasNothing same (refl, λ v. refl, λ c. refl)

left : (w : PlainWorld) (n : ℕ) (out : Outcome) → LeavesNothing n (dropped n out w)
left w n out = left_by n out (all_cut n w) ((all_cut n w).nodes n) refl

crashed : (w : PlainWorld) (n : ℕ) (out : Outcome) (o : Option Cause) → (refused_or o w (dropped n out w, done (down_lines n None w))).1.answer ≡ answer.Ok
    → EndsInOrder n None w (refused_or o w (dropped n out w, done (down_lines n None w))).1.events × LeavesNothing n (refused_or o w (dropped n out w, done (down_lines n None w))).0
crashed w n out None ok = (in_order n None w, left w n out)
crashed w n out (Some why) ok = let no : answer.No why ≡ answer.Ok = ok in absurd (cc no)

pub stops : (w : PlainWorld) (n : ℕ) (out : Outcome) → StopsInOrder w n out
stops w n out = record {
  crash = crashed w n out (first_cause (crash_causes w n));
  by_arm = λ told. (down_lines n None w, refl, in_order n None w);
  going_back = λ l told. (down_lines n (Some l) w, refl, in_order n (Some l) w);
  left = λ l told. (left w n out, left w n out);
}

-- ---- the clock of a node that starts

fired_clock : (n : ℕ) (arm : Arm) (f : Fired) (one : FlushResult) (told : Told) (node : PlainNode) (starts : List (ℕ × ℕ))
    → ((told' : Told) → (starts_from n starts (node, told')).0.clock ≡ 0) → (started_by n arm f one told node (starts_from n starts)).0.clock ≡ 0
fired_clock n arm fired.No one told node starts rest = rest _
fired_clock n arm fired.Failed one told node starts rest = rest _
fired_clock n arm fired.Stopped one told node starts rest = refl

starts_clock : (n : ℕ) (starts : List (ℕ × ℕ)) (node : PlainNode) (told : Told) → node.clock ≡ 0 → (starts_from n starts (node, told)).0.clock ≡ 0
starts_clock n [] node told is = is
starts_clock n (start ∷ starts) node told is =
    let came : PlainNode × FlushResult = start_one n start node in
    fired_clock n node.arm (fired_by node.arm.fuse came.0.arm.fuse) came.1 told came.0 starts (λ told'. starts_clock n starts came.0 told' is)

opened_clock : (n : ℕ) (uuids : List ℕ) (books : List Book) (node : PlainNode) → node.clock ≡ 0 → (opened_at n uuids books node).0.clock ≡ 0
opened_clock n uuids books node is = elim (are_short books uuids) as (λ b. (if b then short else whole).0.clock ≡ 0) [
  | true ↦ is
  | false ↦ starts_clock n (starts_of books uuids) (loaded_node n books (burnt_arm (length books) node.arm)) (done []) refl
]
  where
    short : PlainNode × Told
    short = (record node { arm = burnt_arm (length books) node.arm }, refusal cause.IdsShort)

    whole : PlainNode × Told
    whole = starts_from n (starts_of books uuids) (loaded_node n books (burnt_arm (length books) node.arm), done [])

pub starts : (n : ℕ) (node : PlainNode) → StartsAtZero n node
starts n node = λ uuids is. started uuids node.off is
  where
    started : (uuids : List ℕ) (off : Option (List Book)) → node.clock ≡ 0 → (start_if n uuids node off).0.clock ≡ 0
    started uuids None is = is
    started uuids (Some books) is = elim (opens_all node.arm.fuse (length books)) as (λ b. (if b then opened_at n uuids books node else not_opened n node).0.clock ≡ 0) [
      | true ↦ opened_clock n uuids books node is
      | false ↦ is
    ]
