-- what is told of lines, and what is left by one that is refused
use Rattle.std.specs.Prelude.{◌≡◌, ◌==◌, if◌then◌else◌, option_map}
use Rattle.transcript_law.proofs.Words.{ℕ, Bool, true, false, [], refl, ap, sym, ◌∙◌, subst, eqb-true, Option, Some, None, Answer, Cause, Told, PlainNode, PlainWorld, PlainLink, LinkResult, link_number, with_node_at, on_node, on_link, refusal, refused_or}
use Rattle.disk_journals.specs.Arms.{arm_over, armed_at, fuse_at, under}
use Rattle.node_world.specs.Arms.{fired_by, fuse_or, lifted, placed}
use Rattle.node_world.specs.Power.{after_broken, after_fire, is_broken_answer, with_arm, with_broken}
use Rattle.node_world.specs.Rests.{RestsIf}
use Rattle.node_world.specs.Worlds.{arm_in}
use Rattle.node_world.specs.declared.arm.Fired.{Fired}
use Rattle.node_world.specs.declared.arm.Fired.TheVariants as fired
use Rattle.transcript_law.proofs.{invariant.JobSteps.{same_shelf, shelf_found, shelf_over}, invariant.LinkRows.{put_same}, verbs.NodeLines.{on_node_by, on_link_by}}
use Rattle.transcript_law.proofs.disks.Burning.{quiet_same}
use Rattle.transcript_law.specs.Plainness.{IsStanding}
use Rattle.vb_calls.specs.Shelves.{Shelf, Shelves, with_shelf_at}
use Rattle.vb_disk.specs.declared.fuse.Fuse.{Fuse}
use Rattle.vb_disk.specs.declared.fuse.Fuse.TheVariants.{Off}
use Rattle.vb_disk.specs.declared.made.Outcome.{Outcome}

-- this is told of a line, and it was not refused for a standing cause, or that left this and told of nothing
abbrev pub Says : {A : Type 0} → (Told → Type 0) → (A → Type 0) → A × Told → Type 0
Says P Kept x = P x.1 × ((why : Cause) → x.1.answer ≡ Answer.No why → IsStanding why → Kept x.0 × (x.1.events ≡ []))

-- an answer is no refusal for a standing cause
abbrev pub IsMade : Answer → Type 0
IsMade said = (why : Cause) → said ≡ Answer.No why → IsStanding why → ⊥

-- this is told of a line, and it was not refused for one
abbrev pub CarriesOut : (Told → Type 0) → Told → Type 0
CarriesOut P told = P told × IsMade told.answer

-- nothing
abbrev pub Anything : Told → Type 0
Anything told = Unit {0}

-- this is told of each line that is refused
abbrev pub Refuses : (Told → Type 0) → Type 0
Refuses P = (why : Cause) → P (refusal why)

-- the nodes, the ids and the links are as they were
abbrev pub Same : PlainWorld → PlainWorld → Type 0
Same w w' = ((n : ℕ) → w'.nodes n ≡ w.nodes n) × (w'.uuids ≡ w.uuids) × (w'.links ≡ w.links)

pub unchanged : (w : PlainWorld) → Same w w
unchanged w = (λ n. refl, refl, refl)

-- a node that is put as it was
pub node_same : (w : PlainWorld) (n : ℕ) (node : PlainNode) → w.nodes n ≡ Some node → Same w (with_node_at w n node)
node_same w n node known = (λ m. by m (m == n) refl, refl, refl)
  where
    by : (m : ℕ) (b : Bool) → (m == n) ≡ b → (if b then Some node else w.nodes m) ≡ w.nodes m
    by m true e = sym (ap w.nodes (eqb-true m n e) ∙ known)
    by m false e = refl

pub refused_says : {A : Type 0} (P : Told → Type 0) (Kept : A → Type 0) (before : A) (x : A × Told) (why : Option Cause) → Refuses P → Kept before → Says P Kept x → Says P Kept (refused_or why before x)
refused_says P Kept before x (Some why) refuses kept says = (refuses why, λ c e s. (kept, refl))
refused_says P Kept before x None refuses kept says = says

pub on_node_says : (P : Told → Type 0) (w : PlainWorld) (n : ℕ) (f : PlainNode → PlainNode × Told) → Refuses P
    → ((node : PlainNode) → w.nodes n ≡ Some node → Says P (λ k. k ≡ node) (f node)) → Says P (Same w) (on_node w n f)
on_node_says P w n f refuses says = on_node_by (Says P (Same w)) w n f (refuses Cause.UnknownNode, λ why e s. (unchanged w, refl))
    (λ node known. (refuses Cause.NodeDown, λ why e s. (node_same w n node known, refl)))
    (λ node known up. ((says node known).0, λ why e s. let x = (says node known).1 why e s in (subst (λ (k : PlainNode). Same w (with_node_at w n k)) (sym x.0) (node_same w n node known), x.1)))

-- the node at the end of an open link refuses nothing
pub on_link_says : (P : Told → Type 0) (w : PlainWorld) (l : ℕ) (end : PlainLink → ℕ) (f : PlainLink → PlainNode → PlainNode × LinkResult) → Refuses P
    → ((link : PlainLink) (node : PlainNode) → CarriesOut P (f link node).1.1) → Says P (Same w) (on_link w l end f)
on_link_says P w l end f refuses says = on_link_by (Says P (Same w)) w l end f (refuses Cause.LinkClosed, λ why e s. (unchanged w, refl))
    (λ link found. (refuses Cause.UnknownNode, λ why e s. ((λ n. refl, refl, put_same (link_number link) w.links link found), refl)))
    (λ link node found known. ((says link node).0, λ why e s. absurd ((says link node).1 why e s)))

-- a line under its node's arm: where it is refused for a standing cause, the arm did not fire
pub with_arm_keeps : (w : PlainWorld) (n : ℕ) (w' : PlainWorld) (told : Told) → ((why : Cause) → told.answer ≡ Answer.No why → IsStanding why → Same w w' × (told.events ≡ []))
    → (why : Cause) → (with_arm n w (w', told)).1.answer ≡ Answer.No why → IsStanding why → Same w (with_arm n w (w', told)).0 × ((with_arm n w (w', told)).1.events ≡ [])
with_arm_keeps w n w' told kept = by (fired_by f (arm_in (w'.nodes n)).fuse) refl
  where
    f : Fuse
    f = (arm_in (w.nodes n)).fuse

    out : Outcome
    out = (arm_in (w.nodes n)).out

    by : (x : Fired) → fired_by f (arm_in (w'.nodes n)).fuse ≡ x → (why : Cause) → (after_fire n out x (w', told)).1.answer ≡ Answer.No why → IsStanding why → Same w (after_fire n out x (w', told)).0 × ((after_fire n out x (w', told)).1.events ≡ [])
    by fired.No q = kept
    by fired.Failed q = λ why e s. let z : fired.No ≡ fired.Failed = sym (ap (λ o. fired_by f (arm_in o).fuse) ((kept why e s).0.0 n) ∙ quiet_same f) ∙ q in cc
    by fired.Stopped q = λ why e s. let same : Cause.Stopped ≡ why = cc in absurd (subst IsStanding (sym same) s)

-- so is a rollback that could not be written down
pub with_broken_keeps : (w before : PlainWorld) (n l : ℕ) (w' : PlainWorld) (told : Told) → ((why : Cause) → told.answer ≡ Answer.No why → IsStanding why → Same w w' × (told.events ≡ []))
    → (why : Cause) → (with_broken n l before (w', told)).1.answer ≡ Answer.No why → IsStanding why → Same w (with_broken n l before (w', told)).0 × ((with_broken n l before (w', told)).1.events ≡ [])
with_broken_keeps w before n l w' told kept = by_answer (is_broken_answer told.answer)
  where
    out : Outcome
    out = (arm_in (before.nodes n)).out

    Keeps : PlainWorld × Told → Type 0
    Keeps x = (why : Cause) → x.1.answer ≡ Answer.No why → IsStanding why → Same w x.0 × (x.1.events ≡ [])

    by : (x : Fired) → Keeps (after_broken n l out x (w', told))
    by fired.No = λ why e s. let same : Cause.Closed ≡ why = cc in absurd (subst IsStanding (sym same) s)
    by fired.Failed = λ why e s. let same : Cause.Disk ≡ why = cc in absurd (subst IsStanding (sym same) s)
    by fired.Stopped = λ why e s. let same : Cause.Stopped ≡ why = cc in absurd (subst IsStanding (sym same) s)

    came : Bool → PlainWorld × Told
    came b = if b then after_broken n l out (fired_by (arm_in (before.nodes n)).fuse (arm_in (w'.nodes n)).fuse) (w', told) else (w', told)

    by_answer : (b : Bool) → Keeps (came b)
    by_answer true = by (fired_by (arm_in (before.nodes n)).fuse (arm_in (w'.nodes n)).fuse)
    by_answer false = kept

-- a node whose arm was put over a disk and taken off again, where none was over it
pub lifted_same : (v : ℕ) (node : PlainNode) → RestsIf (node.shelves v) → lifted v (placed v node) ≡ node
lifted_same v node rests = by (node.shelves v) refl rests
  where
    f : Fuse
    f = node.arm.fuse

    back : Shelves → Option Fuse → PlainNode
    back shelves left = record node { shelves = shelves; arm = record node.arm { fuse = fuse_or f left } }

    by : (o : Option Shelf) → node.shelves v ≡ o → RestsIf o → lifted v (placed v node) ≡ node
    by None e r =
        let over : (g : Fuse) → arm_over node.shelves v g ≡ node.shelves = λ g. ap (armed_at node.shelves v g) e in
        (λ i. back (arm_over (over f i) v Off) (fuse_at (over f i) v)) ∙ (λ i. back (over Off i) (option_map (λ (shelf : Shelf). shelf.fuse) (e i)))
    by (Some shelf) e r =
        let armed : Shelves = with_shelf_at node.shelves v (under f shelf) in
        let over : arm_over node.shelves v f ≡ armed = ap (armed_at node.shelves v f) e in
        let here : armed v ≡ Some (under f shelf) = shelf_found node.shelves v (under f shelf) in
        let off : under Off shelf ≡ shelf = (λ i. record shelf { fuse = sym r i }) in
        (λ i. back (arm_over (over i) v Off) (fuse_at (over i) v))
        ∙ (λ i. back (armed_at armed v Off (here i)) (option_map (λ (s : Shelf). s.fuse) (here i)))
        ∙ (λ i. back (shelf_over node.shelves v (under f shelf) (under Off shelf) i) (Some f))
        ∙ (λ i. back (with_shelf_at node.shelves v (off i)) (Some f))
        ∙ (λ i. back (λ q. same_shelf node.shelves v shelf e q i) (Some f))
