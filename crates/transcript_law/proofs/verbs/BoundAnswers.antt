-- lines that are bound to be refused are
use Rattle.std.specs.Prelude.{◌≡◌, ◌∷◌, if◌then◌else◌}
use Rattle.transcript_law.proofs.Words.{ℕ, Bool, true, false, List, [], refl, ap, sym, ◌∙◌, inl, inr, Option, Some, None, not, is_some, eq-eqb, Cause, AdminCall, Chronicle, PlainLink, LinkResult, PlainNode, PlainWorld, Outcome, Told}
use Rattle.transcript_law.proofs.Words.{first_cause, link_number, link_outcome, node_outcome, on_link, on_node, refusal}
use Rattle.transcript_law.proofs.Words.{refused_or, row_at, with_node_at}
use Rattle.transcript_law.proofs.{invariant.Agreement.{Agrees, PowerIsIf}, disks.Disks.{power_in}, invariant.LinkRows.{found_is_link}}
use Rattle.node_world.specs.{Arms.{fired_by}, Dues.{done_step, due_in}, Nodes.{flush_line, if_up}, Worlds.{arm_in, is_off, is_up}}
use Rattle.node_world.specs.Power.{after_fire, with_arm}
use Rattle.node_world.specs.Turns.{role_outcome}
use Rattle.node_world.specs.declared.arm.Fired.TheVariants as fired
use Rattle.transcript_law.specs.Bound.{IsBound, IsNoOf, if_down, if_over, is_told_down}
use Rattle.transcript_law.specs.Chronicles.{ArmKnown, Dial}
use Rattle.vb_disk.specs.declared.fuse.Fuse.{Fuse}
use Rattle.vb_disk.specs.declared.fuse.Fuse.TheVariants.{Off, Stop, Fail}
use Rattle.vb_types.specs.declared.journal.FlushPart.TheVariants as part

-- what is told of a line that is refused
abbrev Refused : List Cause → Told → Type 0
Refused whys told = (told.events ≡ []) × IsNoOf whys told.answer

-- by whether it is bound to be
pub bound : (b : Bool) (why : Cause) (more : List Cause) (ruled : Type 0) (told : Told) → ruled → (b ≡ true → Refused (why ∷ more) told) → IsBound (if b then why ∷ more else []) ruled told.events told.answer
bound true why more ruled told rule refuses = refuses refl
bound false why more ruled told rule refuses = rule

pub bound_down : (b : Bool) (why : Cause) (more : List Cause) (ruled : Type 0) (told : Told) → ruled → (b ≡ false → Refused (why ∷ more) told) → IsBound (if b then [] else why ∷ more) ruled told.events told.answer
bound_down true why more ruled told rule refuses = rule
bound_down false why more ruled told rule refuses = refuses refl

pub one : (why : Cause) (told : Told) → told ≡ refusal why → Refused (why ∷ []) told
one why told e = (ap (λ (t : Told). t.events) e, inl (ap (λ (t : Told). t.answer) e))

-- a node that is told down is made, and does not run
down_as_off : (told : ArmKnown) (o : Option PlainNode) → PowerIsIf told (power_in o) → told.down ≡ is_off o
down_as_off told None p = ap (λ (t : ArmKnown). t.down) p
down_as_off told (Some node) p = p.down

-- lines of one node

node_refused : (w : PlainWorld) (n : ℕ) (f : PlainNode → PlainNode × Told) → is_off (w.nodes n) ≡ true → (node : PlainNode) × (w.nodes n ≡ Some node) × (on_node w n f ≡ (with_node_at w n node, refusal Cause.NodeDown))
node_refused w n f off = by (w.nodes n) refl off
  where
    by : (o : Option PlainNode) → w.nodes n ≡ o → is_off o ≡ true → (node : PlainNode) × (o ≡ Some node) × (node_outcome w n (refusal Cause.UnknownNode) o (if_up f) ≡ (with_node_at w n node, refusal Cause.NodeDown))
    by None e off = cc
    by (Some node) e off = (node, refl, ap (λ b. let x : PlainNode × Told = if b then (node, refusal Cause.NodeDown) else f node in (with_node_at w n x.0, x.1)) off)

quiet : (f : Fuse) → fired_by f f ≡ fired.No
quiet Off = refl
quiet (Stop k) = refl
quiet (Fail k) = refl

-- no arm fires in one that is refused
unfired : (w : PlainWorld) (n : ℕ) (o : Outcome) → arm_in (o.0.nodes n) ≡ arm_in (w.nodes n) → o.1 ≡ refusal Cause.NodeDown → (with_arm n w o).1 ≡ refusal Cause.NodeDown
unfired w n o same refused = ap (λ x. (after_fire n (arm_in (w.nodes n)).out x o).1) (ap (λ a. fired_by (arm_in (w.nodes n)).fuse a.fuse) same ∙ quiet (arm_in (w.nodes n)).fuse) ∙ refused

armed_refused : (w : PlainWorld) (n : ℕ) (f : PlainNode → PlainNode × Told) → is_off (w.nodes n) ≡ true → (with_arm n w (on_node w n f)).1 ≡ refusal Cause.NodeDown
armed_refused w n f off =
    let (node, known, is) = node_refused w n f off in
    unfired w n (on_node w n f) (ap (λ (o : Outcome). arm_in (o.0.nodes n)) is ∙ ap (λ b. arm_in (if b then Some node else w.nodes n)) (eq-eqb n n refl) ∙ ap arm_in (sym known)) (ap (λ (o : Outcome). o.1) is)

-- the second of the causes to refuse a line
second : (o : Option PlainNode) (rest : List (Bool × Cause)) → is_off o ≡ true → first_cause ((not (is_some o), Cause.UnknownNode) ∷ (is_off o, Cause.NodeDown) ∷ rest) ≡ Some Cause.NodeDown
second None rest e = cc
second (Some node) rest e = ap (λ b. if b then Some Cause.NodeDown else first_cause rest) e

pub role_refused : (w : PlainWorld) (n v : ℕ) (asked : AdminCall) (rest : List (Bool × Cause)) → is_off (w.nodes n) ≡ true
    → (with_arm n w (refused_or (first_cause ((not (is_some (w.nodes n)), Cause.UnknownNode) ∷ (is_off (w.nodes n), Cause.NodeDown) ∷ rest)) w (role_outcome n v asked w))).1 ≡ refusal Cause.NodeDown
role_refused w n v asked rest off =
    let o : Outcome = refused_or (first_cause ((not (is_some (w.nodes n)), Cause.UnknownNode) ∷ (is_off (w.nodes n), Cause.NodeDown) ∷ rest)) w (role_outcome n v asked w) in
    let is : o ≡ (w, refusal Cause.NodeDown) = ap (λ why. refused_or why w (role_outcome n v asked w)) (second (w.nodes n) rest off) in
    unfired w n o (ap (λ (x : Outcome). arm_in (x.0.nodes n)) is) (ap (λ (x : Outcome). x.1) is)

pub crash_refused : (w : PlainWorld) (n : ℕ) (o : Option PlainNode) (x : Outcome) → is_off o ≡ true → (refused_or (first_cause ((not (is_some o), Cause.UnknownNode) ∷ (not (is_up o), Cause.NodeDown) ∷ [])) w x).1 ≡ refusal Cause.NodeDown
crash_refused w n None x e = cc
crash_refused w n (Some node) x e = ap (λ b. (refused_or (if not (not b) then Some Cause.NodeDown else None) w x).1) e

pub node_exists : (w : PlainWorld) (o : Option PlainNode) (x : Outcome) → is_off o ≡ true → (refused_or (first_cause ((is_some o, Cause.NodeExists) ∷ [])) w x).1 ≡ refusal Cause.NodeExists
node_exists w None x e = cc
node_exists w (Some node) x e = refl

-- where the line is refused, nothing is due behind it
pub done_refused : (w : PlainWorld) (n v : ℕ) → is_off (w.nodes n) ≡ true → (done_step w n v).1 ≡ refusal Cause.NodeDown
done_refused w n v off = ap (λ o. (due_in n v o).1) (node_refused w n (flush_line n v part.Done) off).2

-- a link of which a node may be unknown
pub link_refused : (w : PlainWorld) (unknown off : Bool) (rest : List (Bool × Cause)) (x : Outcome) → off ≡ true
    → Refused (Cause.NodeDown ∷ Cause.UnknownNode ∷ []) (refused_or (first_cause ((unknown, Cause.UnknownNode) ∷ (off, Cause.NodeDown) ∷ rest)) w x).1
link_refused w true off rest x e = (refl, inr (inl refl))
link_refused w false true rest x e = (refl, inl refl)
link_refused w false false rest x e = cc

-- a node that runs does not start, nor does one that is not made
pub start_refused : (w : PlainWorld) (o : Option PlainNode) (rest : List (Bool × Cause)) (x : Outcome) → is_off o ≡ false
    → Refused (Cause.NodeUp ∷ Cause.UnknownNode ∷ []) (refused_or (first_cause ((not (is_some o), Cause.UnknownNode) ∷ (is_up o, Cause.NodeUp) ∷ rest)) w x).1
start_refused w None rest x e = (refl, inr (inl refl))
start_refused w (Some node) rest x e =
    let is : (refused_or (first_cause ((is_up (Some node), Cause.NodeUp) ∷ rest)) w x).1 ≡ refusal Cause.NodeUp = ap (λ b. (refused_or (if not b then Some Cause.NodeUp else first_cause rest) w x).1) e in
    (ap (λ (t : Told). t.events) is, inl (ap (λ (t : Told). t.answer) is))

-- lines of links

-- a link that is open is dialed
undialed : (w : PlainWorld) (r : Chronicle) (l : ℕ) → Agrees w r → r.dial_of l ≡ None → row_at link_number l w.links ≡ None
undialed w r l (c, a) none = by (row_at link_number l w.links) refl
  where
    by : (o : Option PlainLink) → row_at link_number l w.links ≡ o → o ≡ None
    by None e = refl
    by (Some link) e = let (is, number) = found_is_link l w.links link e in let d = (a.links link is).dialed in let z : None ≡ r.dial_of (link_number link) = sym none ∙ ap r.dial_of (sym number) in cc

-- by whether it is dialed
pub over : (w : PlainWorld) (r : Chronicle) (l : ℕ) (ruled : Type 0) (told : Told) → Agrees w r → ruled → (row_at link_number l w.links ≡ None → told ≡ refusal Cause.LinkClosed) → IsBound (if_over (r.dial_of l)) ruled told.events told.answer
over w r l ruled told a rule closed = by (r.dial_of l) refl
  where
    by : (o : Option Dial) → r.dial_of l ≡ o → IsBound (if_over o) ruled told.events told.answer
    by None e = one Cause.LinkClosed told (closed (undialed w r l a e))
    by (Some dial) e = rule

pub closed_link_refused : (w : PlainWorld) (l : ℕ) (end : PlainLink → ℕ) (f : PlainLink → PlainNode → PlainNode × LinkResult) → row_at link_number l w.links ≡ None → (on_link w l end f).1 ≡ refusal Cause.LinkClosed
closed_link_refused w l end f none = ap (λ o. (link_outcome w l end f o).1) none

-- ---- each line

module _ (w : PlainWorld) (r : Chronicle) (a : Agrees w r) where
  pub off_as_power : (n : ℕ) → is_told_down r n ≡ is_off (w.nodes n)
  off_as_power n = down_as_off (r.arm_at n) (w.nodes n) (a.1.powers n)

  -- of a node
  pub bound_at : (n : ℕ) (ruled : Type 0) (told : Told) → ruled → (is_off (w.nodes n) ≡ true → told ≡ refusal Cause.NodeDown) → IsBound (if_down (is_told_down r n)) ruled told.events told.answer
  bound_at n ruled told rule refused = bound (is_told_down r n) Cause.NodeDown [] ruled told rule (λ e. one Cause.NodeDown told (refused (sym (off_as_power n) ∙ e)))

  -- that changes nothing else
  pub bound_plain : (n : ℕ) (f : PlainNode → PlainNode × Told) (ruled : Type 0) → ruled → (let told = (on_node w n f).1 in IsBound (if_down (is_told_down r n)) ruled told.events told.answer)
  bound_plain n f ruled rule = bound_at n ruled (on_node w n f).1 rule (λ off. ap (λ (o : Outcome). o.1) (node_refused w n f off).2)

  -- or may write down
  pub bound_armed : (n : ℕ) (f : PlainNode → PlainNode × Told) (ruled : Type 0) → ruled → (let told = (with_arm n w (on_node w n f)).1 in IsBound (if_down (is_told_down r n)) ruled told.events told.answer)
  bound_armed n f ruled rule = bound_at n ruled (with_arm n w (on_node w n f)).1 rule (armed_refused w n f)
