-- what the line `start` tells beside its lines, read with each of them
use Rattle.std.specs.Prelude.{◌≡◌, ◌∷◌, ◌++◌, ◌==◌, ◌&&◌, if◌then◌else◌}
use Rattle.transcript_law.proofs.Words.{ℕ, Bool, true, false, List, [], map, refl, ap, sym, ◌∙◌, eq-eqb, eqb-false, eqb-true, ne_eqb, Option, Some, not, Change, Event, Chronicle, LogEntry, after_branch, after_change, after_line, after_lines, option_map, with_at, with_entry, with_id}
use Rattle.transcript_law.proofs.invariant.Tables.{at_there}
use Rattle.transcript_law.specs.Chronicles.{ArmKnown, DiskKnown, after_calls, after_restart, after_restarts, after_up, broken_by, calls_of_append, is_off, known_log, spent, with_disk, with_record}
use Rattle.transcript_law.specs.LinesTold.{roles_from}
use Rattle.vb_disk.specs.declared.fuse.Fuse.{Fuse}
use Rattle.vb_types.specs.declared.journal.Record.TheVariants as noted
use Rattle.vb_types.specs.declared.role.Role.TheVariants as role

-- with each branch its vBucket takes writes again, and that is written down; with each change it holds one more; and where the node stops its connections end
abbrev pub told_by : Chronicle → List Event → Chronicle
told_by r [] = r
told_by r (Event.Branch n v uuid parent fork high ∷ lines) = told_by (after_restart (after_branch r n v uuid parent fork high) n v) lines
told_by r (Event.Changed n v uuid change ∷ lines) = told_by (after_change r n v uuid change) lines
told_by r (Event.NodeStopped n ∷ lines) = told_by (after_line r (Event.NodeStopped n)) lines
told_by r (other ∷ lines) = told_by r lines

-- no branch of a vBucket of this number is told; such lines tell of branches, of changes, and of calls that were hit
abbrev pub Apart : ℕ → List Event → Type 0
Apart v [] = Unit {0}
Apart v (Event.Branch m q uuid parent fork high ∷ lines) = (q ≡ v → ⊥) × Apart v lines
Apart v (Event.Changed m q uuid change ∷ lines) = Apart v lines
Apart v (Event.CallFailed m ∷ lines) = Apart v lines
Apart v (Event.NodeStopped m ∷ lines) = Apart v lines
Apart v (other ∷ lines) = ⊥

-- at most one branch of each
abbrev pub AreStarts : List Event → Type 0
AreStarts [] = Unit {0}
AreStarts (Event.Branch m v uuid parent fork high ∷ lines) = Apart v lines × AreStarts lines
AreStarts (Event.Changed m q uuid change ∷ lines) = AreStarts lines
AreStarts (Event.CallFailed m ∷ lines) = AreStarts lines
AreStarts (Event.NodeStopped m ∷ lines) = AreStarts lines
AreStarts (other ∷ lines) = ⊥

-- changes stand among them
pub apart_changes : (u n v uuid : ℕ) (cs : List Change) (lines : List Event) → Apart u lines → Apart u (map (Event.Changed n v uuid) cs ++ lines)
apart_changes u n v uuid [] lines x = x
apart_changes u n v uuid (c ∷ cs) lines x = apart_changes u n v uuid cs lines x

pub starts_changes : (n v uuid : ℕ) (cs : List Change) (lines : List Event) → AreStarts lines → AreStarts (map (Event.Changed n v uuid) cs ++ lines)
starts_changes n v uuid [] lines x = x
starts_changes n v uuid (c ∷ cs) lines x = starts_changes n v uuid cs lines x

-- and are told before the others
pub told_each_change : (r : Chronicle) (n v uuid : ℕ) (cs : List Change) (lines : List Event) → told_by r (map (Event.Changed n v uuid) cs ++ lines) ≡ told_by (after_lines r (map (Event.Changed n v uuid) cs)) lines
told_each_change r n v uuid [] lines = refl
told_each_change r n v uuid (c ∷ cs) lines = told_each_change (after_change r n v uuid c) n v uuid cs lines

-- a vBucket that took its new branch, with this log
abbrev restart_with : Option (List LogEntry) → Chronicle → ℕ → ℕ → Chronicle
restart_with log r n v =
    let f = (r.arm_at n).fuse in
    let d = r.disk_at n v in
    let what = noted.State role.Active (known_log log) in
    let active : Chronicle = record r { role_at = with_at r.role_at n v (Some (Some role.Active)) } in
    after_calls calls_of_append n (with_disk active n v (if is_off (spent calls_of_append f) && not (is_off f) then broken_by f (Some what) d else with_record what d))

-- a table in which one place is put twice, and two places in either order
at_twice : {A : Type 0} (table : ℕ → ℕ → A) (n v : ℕ) (x y : A) → with_at (with_at table n v x) n v y ≡ with_at table n v y
at_twice table n v x y = λ i m q. (elim (m == n && q == v) as (λ b. (if b then y else (if b then x else table m q)) ≡ (if b then y else table m q)) [ true ↦ refl | false ↦ refl ]) i

at_swap : {A : Type 0} (table : ℕ → ℕ → A) (n v m q : ℕ) (x y : A) → (q ≡ v → ⊥) → with_at (with_at table m q x) n v y ≡ with_at (with_at table n v y) m q x
at_swap table n v m q x y other = λ i k u. by k u (k == n && u == v) (k == m && u == q) (λ s t. other (sym (last u q (k == m) t) ∙ last u v (k == n) s)) i
  where
    last : (a b : ℕ) (t : Bool) → (t && a == b) ≡ true → a ≡ b
    last a b true e = eqb-true a b e
    last a b false e = cc

    by : (k u : ℕ) (s t : Bool) → (s ≡ true → t ≡ true → ⊥) → (if s then y else (if t then x else table k u)) ≡ (if t then x else (if s then y else table k u))
    by k u true true f = absurd (f refl refl)
    by k u true false f = refl
    by k u false true f = refl
    by k u false false f = refl

-- a node is told down or not, whatever its arm is
down_same : (arms : ℕ → ArmKnown) (n m : ℕ) (f : Fuse) → (with_id arms n (record (arms n) { fuse = f }) m).down ≡ (arms m).down
down_same arms n m f = elim (m == n) as (λ b. (m == n) ≡ b → (if b then record (arms n) { fuse = f } else arms m).down ≡ (arms m).down) [ true ↦ λ e. ap (λ k. (arms k).down) (sym (eqb-true m n e)) | false ↦ λ e. refl ] refl

-- the role of a vBucket that takes its branch is told, or was told with its branch
told_once : (r : Chronicle) (n v uuid : ℕ) (parent : Option ℕ) (fork high : ℕ) → after_restart (after_line r (Event.Branch n v uuid parent fork high)) n v ≡ after_restart (after_branch r n v uuid parent fork high) n v
told_once r n v uuid parent fork high = by (r.arm_at n).down
  where
    x : Chronicle
    x = after_restart (after_branch r n v uuid parent fork high) n v

    by : (b : Bool) → after_restart (record (after_branch r n v uuid parent fork high) { role_at = roles_from b r.role_at n v }) n v ≡ x
    by true = ap (λ t. record x { role_at = t }) (at_twice r.role_at n v (Some (Some role.Active)) (Some (Some role.Active)))
    by false = refl

-- a branch of another vBucket is told before or after it
past_branch : (r : Chronicle) (n v m q uuid : ℕ) (parent : Option ℕ) (fork high : ℕ) → (q ≡ v → ⊥)
    → after_restart (after_line r (Event.Branch m q uuid parent fork high)) n v ≡ after_line (after_restart r n v) (Event.Branch m q uuid parent fork high)
past_branch r n v m q uuid parent fork high other =
    ap (λ l. restart_with l (after_line r (Event.Branch m q uuid parent fork high)) n v) (at_there r.log_at m q (option_map (with_entry uuid fork) (r.log_at m q)) n v (λ s t. other (sym t)))
    ∙ (λ i. record last { role_at = roles_are (r.arm_at m).down i })
    ∙ (λ i. record last { role_at = roles_from (sym (down_same r.arm_at n m (spent calls_of_append (r.arm_at n).fuse)) i) (with_at r.role_at n v (Some (Some role.Active))) m q })
  where
    last : Chronicle
    last = after_branch (after_restart r n v) m q uuid parent fork high

    roles_are : (b : Bool) → with_at (roles_from b r.role_at m q) n v (Some (Some role.Active)) ≡ roles_from b (with_at r.role_at n v (Some (Some role.Active))) m q
    roles_are true = at_swap r.role_at n v m q (Some (Some role.Active)) (Some (Some role.Active)) other
    roles_are false = refl

past : (r : Chronicle) (n v : ℕ) (lines : List Event) → Apart v lines → after_restart (after_lines r lines) n v ≡ after_lines (after_restart r n v) lines
past r n v [] apart = refl
past r n v (Event.Branch m q uuid parent fork high ∷ lines) apart =
    past (after_line r (Event.Branch m q uuid parent fork high)) n v lines apart.1 ∙ ap (λ x. after_lines x lines) (past_branch r n v m q uuid parent fork high apart.0)
past r n v (Event.Changed m q uuid change ∷ lines) apart = past (after_change r m q uuid change) n v lines apart
past r n v (Event.CallFailed m ∷ lines) apart = past r n v lines apart
past r n v (Event.NodeStopped m ∷ lines) apart = past (after_line r (Event.NodeStopped m)) n v lines apart
past r n v (other ∷ lines) apart = absurd apart

-- that a node runs is told before or after a vBucket takes its branch

-- the arms then
arms_swap : (arms : ℕ → ArmKnown) (n m : ℕ) (spend : Fuse → Fuse) → (let up : ℕ → ArmKnown = with_id arms n (record (arms n) { down = false }) in let burnt : ℕ → ArmKnown = with_id arms m (record (arms m) { fuse = spend (arms m).fuse }) in
    with_id up m (record (up m) { fuse = spend (up m).fuse }) ≡ with_id burnt n (record (burnt n) { down = false }))
arms_swap arms n m spend = λ i j. by j (j == m) (j == n) (m == n) (n == m)
    (λ s t. let e : m ≡ n = sym (eqb-true j m s) ∙ eqb-true j n t in (ap (λ k. m == k) (sym e) ∙ eq-eqb m m refl, ap (λ k. n == k) e ∙ eq-eqb n n refl, ap arms e))
    (λ s t. ne_eqb m n (λ e. eqb-false j n t (eqb-true j m s ∙ e)))
    (λ s t. ne_eqb n m (λ e. eqb-false j m s (eqb-true j n t ∙ e))) i
  where
    first : ArmKnown → ArmKnown
    first a = record a { fuse = spend a.fuse }

    next : ArmKnown → ArmKnown
    next a = record a { down = false }

    by : (j : ℕ) (s t mn nm : Bool) → (s ≡ true → t ≡ true → (mn ≡ true) × (nm ≡ true) × (arms m ≡ arms n)) → (s ≡ true → t ≡ false → mn ≡ false) → (s ≡ false → t ≡ true → nm ≡ false)
        → (if s then first (if mn then next (arms n) else arms m) else (if t then next (arms n) else arms j)) ≡ (if t then next (if nm then first (arms m) else arms n) else (if s then first (arms m) else arms j))
    by j true true mn nm same f g = let x = same refl refl in ap (λ b. first (if b then next (arms n) else arms m)) x.0 ∙ ap (λ a. first (next a)) (sym x.2) ∙ sym (ap (λ b. next (if b then first (arms m) else arms n)) x.1)
    by j true false mn nm same f g = ap (λ b. first (if b then next (arms n) else arms m)) (f refl refl)
    by j false true mn nm same f g = sym (ap (λ b. next (if b then first (arms m) else arms n)) (g refl refl))
    by j false false mn nm same f g = refl

restart_up : (r : Chronicle) (n m v : ℕ) → after_restart (after_up n r) m v ≡ after_up n (after_restart r m v)
restart_up r n m v = λ i. record (after_restart r m v) {
  disk_at = with_at r.disk_at m v (disk_with (fuse_same i));
  arm_at = arms_swap r.arm_at n m (spent calls_of_append) i;
}
  where
    disk_with : Fuse → DiskKnown
    disk_with f =
        let d = r.disk_at m v in let what = noted.State role.Active (known_log (r.log_at m v)) in
        if is_off (spent calls_of_append f) && not (is_off f) then broken_by f (Some what) d else with_record what d

    fuse_same : (with_id r.arm_at n (record (r.arm_at n) { down = false }) m).fuse ≡ (r.arm_at m).fuse
    fuse_same = elim (m == n) as (λ b. (m == n) ≡ b → (if b then record (r.arm_at n) { down = false } else r.arm_at m).fuse ≡ (r.arm_at m).fuse) [ true ↦ λ e. ap (λ k. (r.arm_at k).fuse) (sym (eqb-true m n e)) | false ↦ λ e. refl ] refl

-- so all that is told behind the lines, once the node runs, may be told with each
pub up_each : (n : ℕ) (r : Chronicle) (lines : List Event) → AreStarts lines → after_restarts (after_up n (after_lines r lines)) lines ≡ told_by (after_up n r) lines
up_each n r [] are = refl
up_each n r (Event.Branch m v uuid parent fork high ∷ lines) are =
    let branched : Chronicle = after_line r (Event.Branch m v uuid parent fork high) in
    ap (λ x. after_restarts x lines) (restart_up (after_lines branched lines) n m v ∙ ap (after_up n) (past branched m v lines are.0 ∙ ap (λ x. after_lines x lines) (told_once r m v uuid parent fork high)))
    ∙ up_each n (after_restart (after_branch r m v uuid parent fork high) m v) lines are.1
    ∙ ap (λ x. told_by x lines) (sym (restart_up (after_branch r m v uuid parent fork high) n m v))
up_each n r (Event.Changed m q uuid change ∷ lines) are = up_each n (after_change r m q uuid change) lines are
up_each n r (Event.CallFailed m ∷ lines) are = up_each n r lines are
up_each n r (Event.NodeStopped m ∷ lines) are = up_each n (after_line r (Event.NodeStopped m)) lines are
up_each n r (other ∷ lines) are = absurd are

-- device calls are told before or after such lines
pub calls_before : (calls n : ℕ) (r : Chronicle) (lines : List Event) → AreStarts lines → after_calls calls n (after_lines r lines) ≡ after_lines (after_calls calls n r) lines
calls_before calls n r [] are = refl
calls_before calls n r (Event.Branch m v uuid parent fork high ∷ lines) are =
    calls_before calls n (after_line r (Event.Branch m v uuid parent fork high)) lines are.1
    ∙ (λ i. after_lines (record (after_branch (after_calls calls n r) m v uuid parent fork high) { role_at = roles_from (sym (down_same r.arm_at n m (spent calls (r.arm_at n).fuse)) i) r.role_at m v }) lines)
calls_before calls n r (Event.Changed m q uuid change ∷ lines) are = calls_before calls n (after_change r m q uuid change) lines are
calls_before calls n r (Event.CallFailed m ∷ lines) are = calls_before calls n r lines are
calls_before calls n r (Event.NodeStopped m ∷ lines) are = calls_before calls n (after_line r (Event.NodeStopped m)) lines are
calls_before calls n r (other ∷ lines) are = absurd are

-- such lines tell nothing of disks and of arms
pub same_disks : (r : Chronicle) (lines : List Event) → AreStarts lines → (after_lines r lines).disk_at ≡ r.disk_at
same_disks r [] are = refl
same_disks r (Event.Branch m v uuid parent fork high ∷ lines) are = same_disks (after_line r (Event.Branch m v uuid parent fork high)) lines are.1
same_disks r (Event.Changed m q uuid change ∷ lines) are = same_disks (after_change r m q uuid change) lines are
same_disks r (Event.CallFailed m ∷ lines) are = same_disks r lines are
same_disks r (Event.NodeStopped m ∷ lines) are = same_disks (after_line r (Event.NodeStopped m)) lines are
same_disks r (other ∷ lines) are = absurd are

pub arms_behind_starts : (r : Chronicle) (lines : List Event) → AreStarts lines → (after_lines r lines).arm_at ≡ r.arm_at
arms_behind_starts r [] are = refl
arms_behind_starts r (Event.Branch m v uuid parent fork high ∷ lines) are = arms_behind_starts (after_line r (Event.Branch m v uuid parent fork high)) lines are.1
arms_behind_starts r (Event.Changed m q uuid change ∷ lines) are = arms_behind_starts (after_change r m q uuid change) lines are
arms_behind_starts r (Event.CallFailed m ∷ lines) are = arms_behind_starts r lines are
arms_behind_starts r (Event.NodeStopped m ∷ lines) are = arms_behind_starts (after_line r (Event.NodeStopped m)) lines are
arms_behind_starts r (other ∷ lines) are = absurd are
