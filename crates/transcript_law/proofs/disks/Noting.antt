-- what a line that appends a record has come to, and how it goes on under its node's arm
use Rattle.std.specs.Prelude.{◌≡◌, ◌∷◌, if◌then◌else◌}
use Rattle.transcript_law.proofs.Words.{ℕ, Bool, true, false, List, [], refl, sym, ◌∙◌, subst, Some, eq-eqb, Answer, Cause, Chronicle, Event, LawfulFrom, PlainNode, PlainWorld, StaysSound, after_lines, branch_of_line, first_cause, flat_map, refusal, with_branches, with_node_at}
use Rattle.transcript_law.proofs.{invariant.Agreement.{Agrees, LineGoes}, disks.ArmedLines.{ArmedCame, IsNoting}, disks.Burning.{quiet_same}, disks.Firing.{line_fires}, lines.Lines.{AreQuiet}, verbs.NodeLines.{more_used, refused_on}}
use Rattle.node_world.specs.{Arms.{fired_by}, Power.{with_arm}, Worlds.{Outcome as Came, arm_in}, declared.arm.Fired.{Fired}}
use Rattle.node_world.specs.declared.arm.Fired.TheVariants as fired

-- lines that tell the same of an append came to the same
pub came_as : (n : ℕ) (told told' : Answer → Chronicle → Chronicle) (how : Fired) (r r' : Chronicle) (w : PlainWorld) (said : Answer) → told said r ≡ told' said r' → ArmedCame n told how r w said → ArmedCame n told' how r' w said
came_as n told told' fired.No r r' w said e x = subst (Agrees w) e x
came_as n told told' fired.Failed r r' w said e x = (x.0, subst (Agrees w) e x.1)
came_as n told told' fired.Stopped r r' w said e x = (x.0, x.1, subst (Agrees w) e x.2)

-- the ids of branches that lines tell of may be used as well
pub came_used : (n : ℕ) (told : Answer → Chronicle → Chronicle) (how : Fired) (r : Chronicle) (w : PlainWorld) (said : Answer) (lines : List Event) → ArmedCame n told how r w said → ArmedCame n told how r (with_branches lines w) said
came_used n told fired.No r w said lines x = more_used w (told said r) (flat_map branch_of_line lines) x
came_used n told fired.Failed r w said lines x = (x.0, more_used w (told said r) (flat_map branch_of_line lines) x.1)
came_used n told fired.Stopped r w said lines x = (x.0, x.1, more_used w (told said r) (flat_map branch_of_line lines) x.2)

-- what a line has come to before it is asked whether the arm of the node n fired: its lines are lawful, and say nothing of those behind them
abbrev pub LineCame : ℕ → (Answer → Chronicle → Chronicle) → PlainWorld → Chronicle → Came → Type 0
LineCame n told w r x = LawfulFrom r x.1.events × AreQuiet x.1.events × ArmedCame n told (fired_by (arm_in (w.nodes n)).fuse (arm_in (x.0.nodes n)).fuse) (after_lines r x.1.events) (with_branches x.1.events x.0) x.1.answer

-- a line that is refused, and tells nothing then
pub refused_came : (n : ℕ) (told : Answer → Chronicle → Chronicle) (w : PlainWorld) (r : Chronicle) (why : Cause) → told (Answer.No why) r ≡ r → Agrees w r → LineCame n told w r (w, refusal why)
refused_came n told w r why same a = (tt, tt, subst (λ how. ArmedCame n told how r (with_branches [] w) (Answer.No why)) (sym (quiet_same (arm_in (w.nodes n)).fuse)) (subst (Agrees (with_branches [] w)) (sym same) (more_used w r [] a)))

pub kept_came : (n : ℕ) (told : Answer → Chronicle → Chronicle) (w : PlainWorld) (r : Chronicle) (node : PlainNode) (why : Cause) → w.nodes n ≡ Some node → told (Answer.No why) r ≡ r → Agrees w r
    → LineCame n told w r (with_node_at w n node, refusal why)
kept_came n told w r node why known same a =
    (tt, tt, subst (λ how. ArmedCame n told how r (with_branches [] (with_node_at w n node)) (Answer.No why)) (sym quiet) (subst (Agrees (with_branches [] (with_node_at w n node))) (sym same) (more_used (with_node_at w n node) r [] (refused_on w r n node why a known).1)))
  where
    quiet : fired_by (arm_in (w.nodes n)).fuse (arm_in ((with_node_at w n node).nodes n)).fuse ≡ fired.No
    quiet = (λ i. fired_by (arm_in (known i)).fuse (arm_in (if eq-eqb n n refl i then Some node else w.nodes n)).fuse) ∙ quiet_same node.arm.fuse

-- what holds of each of these causes holds of the first whose test holds
abbrev pub AllCauses : (Cause → Type 0) → List (Bool × Cause) → Type 0
AllCauses P [] = Unit {0}
AllCauses P (row ∷ rows) = P row.1 × AllCauses P rows

pub caused : (P : Cause → Type 0) (rows : List (Bool × Cause)) (why : Cause) → first_cause rows ≡ Some why → AllCauses P rows → P why
caused P [] why e all = cc
caused P ((true, why') ∷ rows) why e all = let same : why' ≡ why = cc in subst P same all.0
caused P ((false, why') ∷ rows) why e all = caused P rows why e all.1

-- such a line goes on, whether the arm fired or not
pub came_goes : StaysSound → (n : ℕ) (told : Answer → Chronicle → Chronicle) → IsNoting n told → (w : PlainWorld) (r : Chronicle) (x : Came) → Agrees w r → LineCame n told w r x → LineGoes r (told (with_arm n w x).1.answer) (with_arm n w x)
came_goes stays n told noting w r (w1, t) a came = line_fires stays n told noting w w1 r t.events t.answer a came.0 came.1 came.2
