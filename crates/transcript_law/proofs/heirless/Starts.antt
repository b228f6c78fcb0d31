-- a node that starts: each vBucket that is active there is on a branch of its own
use Rattle.std.specs.Prelude.{◌≡◌, ◌∷◌, ◌++◌, ◌&&◌, ◌||◌, ◌==◌, ◌⊎◌, if◌then◌else◌, false, not}
use Rattle.script_text.specs.declared.verb.NodeVerb.TheVariants as node_verb
use Rattle.script_text.specs.declared.verb.Verb.TheVariants as verb
use Rattle.transcript_law.proofs.Words.{ℕ, Bool, true, List, [], refl, ap, sym, ◌∙◌, subst, inl, inr, ⊎_elim, and_parts, eqb-true, eq-eqb, Option, Some, None, is_some, Answer, Chronicle, Cluster, Event, PlainWorld, Role, Verb, after_line, after_lines, after_verb}
use Rattle.transcript_law.proofs.disks.Disks.{Power}
use Rattle.transcript_law.proofs.heirless.{Barren.{Barren}, Groups.{BranchesOf, StartsApart}, Turns.{told_on}, Whole.{Calm}}
use Rattle.transcript_law.proofs.invariant.{Agreement.{Agrees, AgreesIn, PowerIsIf, idle, is_down, power_of, vb_of}, Tables.{pick}, Trees.{IsTold, new_untold}}
use Rattle.transcript_law.proofs.noted.FreedGroups.{ruled}
use Rattle.transcript_law.proofs.verbs.Tellings.{each_told}
use Rattle.transcript_law.specs.Chronicles.{ArmKnown, after_calls, after_openings, after_restart, after_restarts, after_start, after_starts, after_up, ahead, disks_of, is_off, known_down, rested, resting}
use Rattle.transcript_law.specs.{Lawfulness.{LawfulLine, LinesFrom}, LineAnswers.{MakesBranch}}
use Rattle.transcript_law.specs.LinesTold.{Conns, roles_from, with_at, with_id}
use Rattle.transcript_law.specs.Takeovers.{TellsOnly}
use Rattle.transcript_law.specs.Tellings.{TellsOf, are_all, is_of_end, is_of_start, may_tell}
use Rattle.branch_model.specs.Journals.{role_of}
use Rattle.vb_types.specs.declared.journal.Record.{Record}
use Rattle.vb_disk.specs.declared.fuse.Fuse.{Fuse}
use Rattle.vb_events.specs.declared.event.Answer.TheVariants as answer
use Rattle.vb_events.specs.declared.event.Cause.TheVariants as cause

-- ---- where it is down nobody is active by the lines

rests : (o : Option Role) → rested o ≡ Role.Active → ⊥
rests None e = cc
rests (Some Role.Active) e = cc
rests (Some Role.Replica) e = cc
rests (Some Role.Pending) e = cc
rests (Some Role.Dead) e = cc

resting_inactive : (book : List Record) → resting book ≡ Some Role.Active → ⊥
resting_inactive [] e = cc
resting_inactive (last ∷ older) e = let same : rested (role_of (last ∷ older)) ≡ Role.Active = cc in rests (role_of (last ∷ older)) same

-- nobody is active on the branch at this node
abbrev Apart : ℕ → ℕ → Chronicle → Type 0
Apart n u r = (v : ℕ) → r.role_at n v ≡ Some (Some Role.Active) → r.branch_at n v ≡ Some u → ⊥

pub apart_of : (w : PlainWorld) (r : Chronicle) → Agrees w r → (u : ℕ) → Barren (Calm r) u r → (n : ℕ) → Apart n u r
apart_of w r (c, a) u b n v active on = by (r.arm_at n).down refl
  where
    down_power : (o : Option Power) → PowerIsIf (r.arm_at n) o → (r.arm_at n).down ≡ true → is_down o ≡ true
    down_power None p e = let z : false ≡ true = sym (ap (λ (t : ArmKnown). t.down) p) ∙ e in cc
    down_power (Some power) p e = sym p.down ∙ e

    by : (d : Bool) → (r.arm_at n).down ≡ d → ⊥
    by false e = b.none_acts n v e active on
    by true e =
        let none : vb_of w n v ≡ None = (a.downs n v).vb_none (down_power (power_of w n) (a.powers n) e) in
        let z : Some (resting _) ≡ Some (Some Role.Active) = sym (a.aways n v none).role ∙ active in
        resting_inactive _ (inner z)
      where
        inner : {o : Option Role} → Some o ≡ Some (Some Role.Active) → o ≡ Some Role.Active
        inner z = cc

-- ---- its lines

abbrev is_startish : ℕ → Event → Bool
is_startish n (Event.Branch m v uuid parent fork high) = m == n
is_startish n (Event.Changed m v uuid change) = true
is_startish n (Event.CallFailed m) = true
is_startish n (Event.NodeStopped m) = true
is_startish n (Event.Ended l why) = true
is_startish n (Event.Closed m c) = true
is_startish n other = false

start_startish : (n : ℕ) (line : Event) → is_of_start n line ≡ true → is_startish n line ≡ true
start_startish n (Event.Branch m v uuid parent fork high) e = e
start_startish n (Event.Changed m v uuid change) e = refl
start_startish n (Event.CallFailed m) e = refl
start_startish n (Event.NodeStopped m) e = refl
start_startish n other e = cc

end_startish : (r : Chronicle) (n m : ℕ) (line : Event) → is_of_end r m line ≡ true → is_startish n line ≡ true
end_startish r n m (Event.Ended l why) e = refl
end_startish r n m (Event.Closed k c) e = refl
end_startish r n m other e = cc

branches_of : (n : ℕ) (lines : List Event) → are_all (is_startish n) lines ≡ true → BranchesOf n lines
branches_of n [] e = tt
branches_of n (Event.Branch m v uuid parent fork high ∷ lines) e = let p = and_parts (m == n) (are_all (is_startish n) lines) e in (eqb-true m n p.0, branches_of n lines p.1)
branches_of n (line ∷ lines) e = branches_of n lines (and_parts (is_startish n line) (are_all (is_startish n) lines) e).1

module _ (n u : ℕ) where
  -- of those that made a branch, or are active, none is on this one
  abbrev Kept : (ℕ → Type 0) → Chronicle → Type 0
  Kept P r = (v : ℕ) → (P v ⊎ (r.role_at n v ≡ Some (Some Role.Active))) → r.branch_at n v ≡ Some u → ⊥

  more : (P : ℕ → Type 0) (m q : ℕ) → ℕ → Type 0
  more P m q v = P v ⊎ ((m ≡ n) × (q ≡ v))

  branch_kept : (P : ℕ → Type 0) (r : Chronicle) (q uuid : ℕ) (parent : Option ℕ) (fork high : ℕ) → (uuid ≡ u → ⊥) → Kept P r → Kept (λ v. P v ⊎ ((n ≡ n) × (q ≡ v))) (after_line r (Event.Branch n q uuid parent fork high))
  branch_kept P r q uuid parent fork high other k v has = pick r.branch_at n q (Some uuid) (λ o. o ≡ Some u → ⊥) n v (λ s t e. let z : uuid ≡ u = cc in other z) (λ apart e. k v (was apart has) e)
    where
      roles : (d : Bool) → (n ≡ n → v ≡ q → ⊥) → roles_from d r.role_at n q n v ≡ Some (Some Role.Active) → r.role_at n v ≡ Some (Some Role.Active)
      roles false apart = λ e. e
      roles true apart = pick r.role_at n q (Some (Some Role.Active)) (λ o. o ≡ Some (Some Role.Active) → r.role_at n v ≡ Some (Some Role.Active)) n v (λ s t e. absurd (apart s t)) (λ there e. e)

      was : (n ≡ n → v ≡ q → ⊥) → ((P v ⊎ ((n ≡ n) × (q ≡ v))) ⊎ (roles_from (r.arm_at n).down r.role_at n q n v ≡ Some (Some Role.Active))) → P v ⊎ (r.role_at n v ≡ Some (Some Role.Active))
      was apart = ⊎_elim (λ x. ⊎_elim (λ p. inl p) (λ z. absurd (apart refl (sym z.1))) x) (λ e. inr (roles (r.arm_at n).down apart e))

  -- one more place for what is kept
  widen : (P Q : ℕ → Type 0) (r : Chronicle) → ((v : ℕ) → Q v → P v) → Kept P r → Kept Q r
  widen P Q r less k v has = k v (⊎_elim (λ q. inl (less v q)) (λ e. inr e) has)

  lines_kept : (P : ℕ → Type 0) (r : Chronicle) (conns : Conns) (lines : List Event) → are_all (is_startish n) lines ≡ true → LinesFrom r conns lines → IsTold r.tree u → Kept P r → Kept (λ v. P v ⊎ MakesBranch n v lines) (after_lines r lines)
  lines_kept P r conns [] a l t k = widen P (λ v. P v ⊎ MakesBranch n v []) r (λ v x. ⊎_elim (λ p. p) (λ z. absurd z) x) k
  lines_kept P r conns (Event.Branch m q uuid parent fork high ∷ lines) a l t k =
      let p = and_parts (m == n) (are_all (is_startish n) lines) a in
      let line : Event = Event.Branch m q uuid parent fork high in
      let law : LawfulLine r (Event.Branch m q uuid parent fork high) lines = ruled conns (Event.Branch m q uuid parent fork high) lines (LawfulLine r (Event.Branch m q uuid parent fork high) lines) l.0 in
      let same : n ≡ m = sym (eqb-true m n p.0) in
      let other : uuid ≡ u → ⊥ = (λ e. new_untold uuid r.tree law.new (subst (IsTold r.tree) (sym e) t)) in
      let k' : Kept (λ v. P v ⊎ ((m ≡ n) × (q ≡ v))) (after_line r (Event.Branch m q uuid parent fork high)) = subst (λ j. Kept (λ v. P v ⊎ ((j ≡ n) × (q ≡ v))) (after_line r (Event.Branch j q uuid parent fork high))) same (branch_kept P r q uuid parent fork high other k) in
      widen (λ v. (P v ⊎ ((m ≡ n) × (q ≡ v))) ⊎ MakesBranch n v lines) (λ v. P v ⊎ MakesBranch n v (Event.Branch m q uuid parent fork high ∷ lines)) (after_lines (after_line r (Event.Branch m q uuid parent fork high)) lines) (λ v x. ⊎_elim (λ z. inl (inl z)) (λ z. ⊎_elim (λ y. inl (inr y)) (λ y. inr y) z) x)
      (lines_kept (λ v. P v ⊎ ((m ≡ n) × (q ≡ v))) (after_line r (Event.Branch m q uuid parent fork high)) _ lines p.1 l.1 (told_on u r (Event.Branch m q uuid parent fork high) lines law t) k')
  lines_kept P r conns (Event.Changed m v uuid change ∷ lines) a l t k = lines_kept P (after_line r (Event.Changed m v uuid change)) _ lines a l.1 (told_on u r (Event.Changed m v uuid change) lines l.0 t) k
  lines_kept P r conns (Event.CallFailed m ∷ lines) a l t k = lines_kept P (after_line r (Event.CallFailed m)) _ lines a l.1 t k
  lines_kept P r conns (Event.NodeStopped m ∷ lines) a l t k = lines_kept P (after_line r (Event.NodeStopped m)) _ lines a l.1 t k
  lines_kept P r conns (Event.Ended j why ∷ lines) a l t k = lines_kept P (after_line r (Event.Ended j why)) _ lines a l.1 t k
  lines_kept P r conns (Event.Closed m c ∷ lines) a l t k = lines_kept P (after_line r (Event.Closed m c)) _ lines a l.1 t k
  lines_kept P r conns (other ∷ lines) a l t k = cc

  -- ---- vBuckets that were active

  restarted : (x : Chronicle) (lines : List Event) (v : ℕ) → (after_restarts x lines).role_at n v ≡ Some (Some Role.Active) → MakesBranch n v lines ⊎ (x.role_at n v ≡ Some (Some Role.Active))
  restarted x [] v e = inr e
  restarted x (Event.Branch m q uuid parent fork high ∷ lines) v e = ⊎_elim (λ makes. inl (inr makes)) (λ f. here f) (restarted (after_restart x m q) lines v e)
    where
      here : with_at x.role_at m q (Some (Some Role.Active)) n v ≡ Some (Some Role.Active) → (((m ≡ n) × (q ≡ v)) ⊎ MakesBranch n v lines) ⊎ (x.role_at n v ≡ Some (Some Role.Active))
      here = pick x.role_at m q (Some (Some Role.Active)) (λ o. o ≡ Some (Some Role.Active) → (((m ≡ n) × (q ≡ v)) ⊎ MakesBranch n v lines) ⊎ (x.role_at n v ≡ Some (Some Role.Active))) n v (λ s t e. inl (inl (sym s, sym t))) (λ apart e. inr e)
  restarted x (line ∷ lines) v e = restarted x lines v e

  on_same : (x : Chronicle) (lines : List Event) → (after_restarts x lines).branch_at ≡ x.branch_at
  on_same x [] = refl
  on_same x (Event.Branch m q uuid parent fork high ∷ lines) = on_same (after_restart x m q) lines
  on_same x (line ∷ lines) = on_same x lines

  -- ---- what the line does

  -- where the node is up behind it
  abbrev Fresh : Chronicle → Type 0
  Fresh x = (v : ℕ) → (x.arm_at n).down ≡ false → x.role_at n v ≡ Some (Some Role.Active) → x.branch_at n v ≡ Some u → ⊥

  fresh_if : (b : Bool) (x y : Chronicle) → Fresh x → Fresh y → Fresh (if b then x else y)
  fresh_if true x y one other = one
  fresh_if false x y one other = other

  fresh_of : (lines : List Event) (x : Chronicle) → Kept (λ v. MakesBranch n v lines) x → Fresh x
  fresh_of lines x k v up active on = k v (inr active) on

  fresh_restarts : (x : Chronicle) (lines : List Event) → Kept (λ v. MakesBranch n v lines) x → Fresh (after_restarts x lines)
  fresh_restarts x lines k v up active on = k v (restarted x lines v active) (sym (ap (λ (t : ℕ → ℕ → Option ℕ). t n v) (on_same x lines)) ∙ on)

  fresh_starts : (x : Chronicle) (said : Answer) → Fresh x → Fresh (after_starts x n said)
  fresh_starts x (answer.No cause.Stopped) f = λ v up active on. let z : true ≡ false = sym (ap (λ b. (if b then known_down else x.arm_at n).down) (eq-eqb n n refl)) ∙ up in cc
  fresh_starts x other f = f

  fresh_openings : (before : Fuse) (x : Chronicle) (lines : List Event) (said : Answer) → Kept (λ v. MakesBranch n v lines) x → Fresh (after_openings before x n lines said)
  fresh_openings before x lines said k = fresh_if (is_off (x.arm_at n).fuse && not (is_off before)) (record x { arm_at = with_id x.arm_at n known_down }) _ (λ v up active on. k v (inr active) on)
      (fresh_if _ x (after_starts (after_restarts (after_up n x) lines) n said) (fresh_of lines x k) (fresh_starts (after_restarts (after_up n x) lines) said (fresh_restarts (after_up n x) lines k)))

  fresh_start : (x : Chronicle) (lines : List Event) (said : Answer) → Kept (λ v. MakesBranch n v lines) x → Fresh (after_start x n lines said)
  fresh_start x lines (answer.No cause.UnknownNode) k = fresh_of lines x k
  fresh_start x lines (answer.No cause.NodeUp) k = fresh_of lines x k
  fresh_start x lines (answer.No cause.UuidZero) k = fresh_of lines x k
  fresh_start x lines (answer.No cause.UuidUsed) k = fresh_of lines x k
  fresh_start x lines said k = fresh_openings (x.arm_at n).fuse (after_calls (disks_of x n) n x) lines said k

  pub start_apart : (r : Chronicle) (conns : Conns) (uuids : List ℕ) (lines : List Event) (said : Answer) → Apart n u r → IsTold r.tree u → LinesFrom (ahead r (verb.AtNode n (node_verb.Start uuids)) said) conns lines → TellsOnly r (verb.AtNode n (node_verb.Start uuids)) lines
      → StartsApart u (verb.AtNode n (node_verb.Start uuids)) lines (after_verb r (after_lines (ahead r (verb.AtNode n (node_verb.Start uuids)) said) lines) (verb.AtNode n (node_verb.Start uuids)) lines said)
  start_apart r conns uuids lines said apart t l tells = ⊎_elim plain (λ z. absurd z) tells
    where
      plain : TellsOf r (verb.AtNode n (node_verb.Start uuids)) lines → StartsApart u (verb.AtNode n (node_verb.Start uuids)) lines (after_start (after_lines r lines) n lines said)
      plain x =
          let a : are_all (is_startish n) lines ≡ true = each_told (may_tell r (verb.AtNode n (node_verb.Start uuids))) (is_of_end r) (is_startish n) (start_startish n) (λ m stops line e. end_startish r n m line e) lines x in
          let k : Kept (λ v. MakesBranch n v lines) (after_lines r lines) = widen (λ v. ⊥ ⊎ MakesBranch n v lines) (λ v. MakesBranch n v lines) (after_lines r lines) (λ v m. inr m) (lines_kept (λ v. ⊥) r conns lines a l t (λ v has. ⊎_elim (λ z. absurd z) (apart v) has)) in
          (branches_of n lines a, fresh_start (after_lines r lines) lines said k)
