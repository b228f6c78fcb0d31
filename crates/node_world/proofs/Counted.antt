-- how many vBuckets a node counts once it started
use Rattle.std.proofs.Common.{◌≡◌, ◌≤◌, ℕ, suc, Bool, true, false, List, [], ◌∷◌, length, filter, refl, ap, sym, ◌∙◌, subst, Option, Some, None, is_some}
use Rattle.std.specs.Prelude.{◌==◌, ◌&&◌, ◌||◌, if◌then◌else◌}
use Rattle.std.specs.List.{fold, list_any}
use Rattle.std.proofs.lemmas.Bool.{eq-eqb, eqb-true}
use Rattle.disk_journals.specs.Arms.{opens_all}
use Rattle.disk_journals.specs.Books.{Book}
use Rattle.vb_events.specs.declared.event.Answer.TheVariants as answer
use Rattle.vb_events.specs.declared.event.Cause.{Cause}
use Rattle.vb_events.specs.declared.event.Cause.TheVariants as cause
use Rattle.vb_types.specs.declared.journal.Record.{Record}
use Rattle.vb_calls.specs.declared.calls.VbCall.{VbCall}
use Rattle.vb_calls.specs.Jobs.{Call, Ended, Job, Request, after_job}
use Rattle.vb_calls.specs.Plain.{plain_step}
use Rattle.vb_calls.specs.Shelves.{Shelves, shelves_step}
use Rattle.vb_calls.specs.State.{Plain}
use Rattle.vb_calls.specs.States.{States, call_at, make_at, states_step}
use Rattle.node_core.specs.Loading.{are_short, is_there, no_states, start_job, starts_of, with_loaded}
use Rattle.node_world.specs.declared.arm.Fired.{Fired}
use Rattle.node_world.specs.declared.arm.Fired.TheVariants as fired
use Rattle.node_world.specs.declared.told.Told.{Told}
use Rattle.node_world.specs.Arms.{PlainNode, fired_by, no_arm, placed}
use Rattle.node_world.specs.Counted.{Counted, CountsBooks, has_record}
use Rattle.node_world.specs.Nodes.{done, first_cause, refusal, refused_or}
use Rattle.node_world.specs.Power.{Starting, burnt_arm, loaded_node, not_opened, opened_at, opening_told, start_at, start_books, start_causes, start_if, start_one, started_by, starts_from}
use Rattle.node_world.specs.Worlds.{PlainWorld, Outcome, on_made, with_node_at}
use Rattle.node_world.proofs.NodeCauses.{at_node}
use Rattle.node_world.proofs.Unfired.{made_as}

-- ---- tests

or_false : (a : Bool) → a ≡ (a || false)
or_false true = refl
or_false false = refl

or_true : (a : Bool) → true ≡ (a || true)
or_true true = refl
or_true false = refl

and_false : (b : Bool) → (b && false) ≡ false
and_false true = refl
and_false false = refl

grouped : (a b c : Bool) → ((a || b) || c) ≡ (a || (b || c))
grouped true b c = refl
grouped false b c = refl

no_ok : (why : Cause) → answer.No why ≡ answer.Ok → ⊥
no_ok why e = cc

-- ---- which vBuckets there are

module _ (u : ℕ) where
  -- a call makes none and takes none away
  call_leaves : (states : States) (v : ℕ) (c : VbCall) → is_some ((states_step states v c).0 u) ≡ is_some (states u)
  call_leaves states v c = by (states v) refl
    where
      at : (vb : Plain) → states v ≡ Some vb → (b : Bool) → (u == v) ≡ b → is_some (if b then Some (plain_step vb c).0 else states u) ≡ is_some (states u)
      at vb there true e = sym (ap (λ x. is_some (states x)) (eqb-true u v e) ∙ ap is_some there)
      at vb there false e = refl

      by : (o : Option Plain) → states v ≡ o → is_some ((call_at states v c o).0 u) ≡ is_some (states u)
      by None none = refl
      by (Some vb) there = at vb there (u == v) refl

  job_leaves : {A : Type 0} (job : Job A) (states : States) (shelves : Shelves) → is_some ((after_job job states shelves).0.0 u) ≡ is_some (states u)
  job_leaves (Ended a) states shelves = refl
  job_leaves (Call v c next) states shelves = let x = states_step states v c in job_leaves (next x.1) x.0 shelves ∙ call_leaves states v c
  job_leaves (Request v ask next) states shelves = let x = shelves_step shelves v ask in job_leaves (next x.1) states x.0

  -- one journal more makes the vBucket of which it has a record
  loads : (n v : ℕ) (states : States) (records : List Record) → is_some (with_loaded n states v records u) ≡ (is_some (states u) || (v == u && has_record (v, records)))
  loads n v states [] = or_false (is_some (states u)) ∙ sym (ap (λ b. is_some (states u) || b) (and_false (v == u)))
  loads n v states (last ∷ older) = made _ (states v) refl
    where
      at : (x : Plain) (b c : Bool) → (u == v) ≡ b → (v == u) ≡ c → is_some (if b then Some x else states u) ≡ (is_some (states u) || (c && true))
      at x true true e f = or_true (is_some (states u))
      at x true false e f = let no : true ≡ false = sym (eq-eqb v u (sym (eqb-true u v e))) ∙ f in cc
      at x false true e f = let no : true ≡ false = sym (eq-eqb u v (sym (eqb-true v u f))) ∙ e in cc
      at x false false e f = or_false (is_some (states u))

      again : (there : Plain) → states v ≡ Some there → (c : Bool) → (v == u) ≡ c → is_some (states u) ≡ (is_some (states u) || (c && true))
      again there is true f = let has : is_some (states u) ≡ true = ap (λ x. is_some (states x)) (sym (eqb-true v u f)) ∙ ap is_some is in has ∙ or_true (is_some (states u))
      again there is false f = or_false (is_some (states u))

      made : (x : Plain) (o : Option Plain) → states v ≡ o → is_some ((make_at states v x o).0 u) ≡ (is_some (states u) || (v == u && true))
      made x None none = at x (u == v) (v == u) refl refl
      made x (Some there) is = again there is (v == u) refl

  all_loaded : (n : ℕ) (books : List Book) (states : States) → is_some (fold (λ states book. with_loaded n states book.0 book.1) states books u) ≡ (is_some (states u) || list_any (λ book. book.0 == u && has_record book) books)
  all_loaded n [] states = or_false (is_some (states u))
  all_loaded n (book ∷ books) states =
      all_loaded n books (with_loaded n states book.0 book.1)
      ∙ ap (λ b. b || list_any (λ book. book.0 == u && has_record book) books) (loads n book.0 states book.1)
      ∙ grouped (is_some (states u)) (book.0 == u && has_record book) (list_any (λ book. book.0 == u && has_record book) books)

-- ---- a node that starts

module _ (n : ℕ) (books : List Book) where
  -- it runs, with these vBuckets and so many
  pub record Has (node : PlainNode) : Type 0 where
    pub runs : node.off ≡ None
    pub count : node.made ≡ length (filter has_record books)
    pub there : (v : ℕ) → is_some (node.vbs v) ≡ list_any (λ book. book.0 == v && has_record book) books

  -- one more vBucket takes its branch
  one_has : (start : ℕ × ℕ) (node : PlainNode) → Has node → Has (start_one n start node).0
  one_has start node has = record {
    runs = has.runs;
    count = has.count;
    there = λ v. job_leaves v (start_job n start.0 start.1) node.vbs (placed start.0 node).shelves ∙ has.there v;
  }

  all_have : (starts : List (ℕ × ℕ)) (so_far : Starting) → Has so_far.0 → (starts_from n starts so_far).1.answer ≡ answer.Ok → Has (starts_from n starts so_far).0
  all_have [] so_far has ok = has
  all_have (start ∷ starts) so_far has ok = by (fired_by so_far.0.arm.fuse (start_one n start so_far.0).0.arm.fuse) (all_have starts) ok
    where
      by : (f : Fired) → ((x : Starting) → Has x.0 → (starts_from n starts x).1.answer ≡ answer.Ok → Has (starts_from n starts x).0)
          → (started_by n so_far.0.arm f (start_one n start so_far.0).1 so_far.1 (start_one n start so_far.0).0 (starts_from n starts)).1.answer ≡ answer.Ok
          → Has (started_by n so_far.0.arm f (start_one n start so_far.0).1 so_far.1 (start_one n start so_far.0).0 (starts_from n starts)).0
      by fired.No later ok = later _ (one_has start so_far.0 has) ok
      by fired.Failed later ok = later _ (one_has start so_far.0 has) ok
      by fired.Stopped later ok = absurd (no_ok cause.Stopped ok)

  same_test : (xs : List Book) → length (filter is_there xs) ≡ length (filter has_record xs)
  same_test [] = refl
  same_test ((v, []) ∷ xs) = same_test xs
  same_test ((v, last ∷ older) ∷ xs) = ap suc (same_test xs)

  module _ (w : PlainWorld) (node : PlainNode) (there : w.nodes n ≡ Some node) (off : node.off ≡ Some books) where
    loaded_has : (arm : _) → Has (loaded_node n books arm)
    loaded_has arm = record { runs = refl; count = same_test books; there = λ v. all_loaded v n books no_states }

    opened_has : (uuids : List ℕ) → (opened_at n uuids books node).1.answer ≡ answer.Ok → Has (opened_at n uuids books node).0
    opened_has uuids = by (are_short books uuids)
      where
        by : (b : Bool) → let x : PlainNode × Told = if b then (record node { arm = burnt_arm (length books) node.arm }, refusal cause.IdsShort) else starts_from n (starts_of books uuids) (loaded_node n books (burnt_arm (length books) node.arm), done []) in x.1.answer ≡ answer.Ok → Has x.0
        by true ok = absurd (no_ok cause.IdsShort ok)
        by false ok = all_have (starts_of books uuids) (loaded_node n books (burnt_arm (length books) node.arm), done []) (loaded_has (burnt_arm (length books) node.arm)) ok

    books_have : (uuids : List ℕ) → (start_books n uuids books node).1.answer ≡ answer.Ok → Has (start_books n uuids books node).0
    books_have uuids = by (opens_all node.arm.fuse (length books))
      where
        told : (f : Fired) → (opening_told n f).answer ≡ answer.Ok → Has (not_opened n node).0
        told fired.No ok = absurd (no_ok cause.Disk ok)
        told fired.Failed ok = absurd (no_ok cause.Disk ok)
        told fired.Stopped ok = absurd (no_ok cause.Stopped ok)

        by : (b : Bool) → let x : PlainNode × Told = if b then opened_at n uuids books node else not_opened n node in x.1.answer ≡ answer.Ok → Has x.0
        by true ok = opened_has uuids ok
        by false ok = told (fired_by node.arm.fuse no_arm.fuse) ok

    start_is : (uuids : List ℕ) → on_made w n (start_at n uuids) ≡ (with_node_at w n (start_books n uuids books node).0, (start_books n uuids books node).1)
    start_is uuids = made_as w n node there (start_at n uuids) ∙ ap (λ (o : Option (List Book)). let x : PlainNode × Told = start_if n uuids node o in (with_node_at w n x.0, x.1)) off

    abbrev Comes : Outcome → Type 0
    Comes came = (now : PlainNode) × (came.0.nodes n ≡ Some now) × CountsBooks came.0 n books now

    unless : (uuids : List ℕ) (why : Option Cause) → (refused_or why w (on_made w n (start_at n uuids))).1.answer ≡ answer.Ok → Comes (refused_or why w (on_made w n (start_at n uuids)))
    unless uuids (Some why) ok = absurd (no_ok why ok)
    unless uuids None ok =
        let is = start_is uuids in
        let now : PlainNode = (start_books n uuids books node).0 in
        let has : Has now = books_have uuids (sym (ap (λ (o : Outcome). o.1.answer) is) ∙ ok) in
        let w' : PlainWorld = (on_made w n (start_at n uuids)).0 in
        let here : w'.nodes n ≡ Some now = ap (λ (o : Outcome). o.0.nodes n) is ∙ ap (λ b. if b then Some now else w.nodes n) (eq-eqb n n refl) in (
          now,
          here,
          record {
            runs = has.runs;
            count = has.count;
            there = has.there;
            full = λ v uuid none many. (at_node w' n now here has.runs).limit v uuid none (subst (λ k. 64 ≤ k) (sym has.count) many);
          },
        )

    pub counted : Counted w n books
    counted number uuids ok = unless uuids (first_cause (start_causes w n uuids)) ok
