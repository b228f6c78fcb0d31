-- lines that say what is to befall a node
use Rattle.std.specs.Prelude.{◌≡◌, ◌<◌, ◌==◌, if◌then◌else◌}
use Rattle.transcript_law.proofs.Words.{ℕ, Bool, true, false, refl, subst, arith, eqb-false, Chronicle, PlainWorld}
use Rattle.{node_world.specs.Arms.{fail_arm, no_arm, stop_arm}, node_world.specs.Nodes.{arm_at}, node_world.specs.Worlds.{on_made}, node_world.specs.declared.arm.Arm.{Arm}, vb_disk.specs.declared.made.Outcome.{Outcome as Left}}
use Rattle.transcript_law.specs.Chronicles.{after_armed, known_fail, no_arm as none_told, known_stop}
use Rattle.{vb_disk.specs.declared.fuse.Fuse.TheVariants.{Fail, Stop}, vb_disk.specs.declared.made.Outcome.TheVariants.{Old}}
use Rattle.transcript_law.proofs.{invariant.Agreement.{Agrees, GoesOn, IsArm}, verbs.NodeLines.{on_made_by}, invariant.Rearming.{rearmed, told_arm}}

-- the node has this arm, where it is made, and the lines tell so
arm_goes : (w : PlainWorld) (r : Chronicle) (n : ℕ) (arm : Arm) → IsArm arm.fuse → Agrees w r → GoesOn r (λ told. after_armed told n (told_arm arm) (on_made w n (arm_at arm)).1.answer) (on_made w n (arm_at arm))
arm_goes w r n arm ok a = on_made_by (λ x. GoesOn r (λ told. after_armed told n (told_arm arm) x.1.answer) x) w n (arm_at arm) (tt, a) (λ node known. (tt, rearmed w r n node arm known ok a))

-- it may fire, or there is none
above_0 : (k : ℕ) → (k == 0) ≡ false → 0 < k
above_0 k e = let ne = eqb-false k 0 e in omega (arith, ne)

stop_is : (k : ℕ) (out : Left) → IsArm (stop_arm k out).fuse × (told_arm (stop_arm k out) ≡ known_stop k out)
stop_is k out = by (k == 0) refl
  where
    by : (b : Bool) → (k == 0) ≡ b → (let arm : Arm = if b then no_arm else record { fuse = Stop k; out = out } in IsArm arm.fuse × (told_arm arm ≡ (if b then none_told else record { fuse = Stop k; out = out; down = false })))
    by true e = (tt, refl)
    by false e = (above_0 k e, refl)

fail_is : (k : ℕ) → IsArm (fail_arm k).fuse × (told_arm (fail_arm k) ≡ known_fail k)
fail_is k = by (k == 0) refl
  where
    by : (b : Bool) → (k == 0) ≡ b → (let arm : Arm = if b then no_arm else record { fuse = Fail k; out = Old } in IsArm arm.fuse × (told_arm arm ≡ (if b then none_told else record { fuse = Fail k; out = Old; down = false })))
    by true e = (tt, refl)
    by false e = (above_0 k e, refl)

-- `stop N K OUT`
pub stop_goes : (w : PlainWorld) (r : Chronicle) (n k : ℕ) (out : Left) → Agrees w r → GoesOn r (λ told. after_armed told n (known_stop k out) (on_made w n (arm_at (stop_arm k out))).1.answer) (on_made w n (arm_at (stop_arm k out)))
stop_goes w r n k out a =
    let is = stop_is k out in let came = on_made w n (arm_at (stop_arm k out)) in
    subst (λ t. GoesOn r (λ told. after_armed told n t came.1.answer) came) is.1 (arm_goes w r n (stop_arm k out) is.0 a)

-- `fail N K`
pub fail_goes : (w : PlainWorld) (r : Chronicle) (n k : ℕ) → Agrees w r → GoesOn r (λ told. after_armed told n (known_fail k) (on_made w n (arm_at (fail_arm k))).1.answer) (on_made w n (arm_at (fail_arm k)))
fail_goes w r n k a =
    let is = fail_is k in let came = on_made w n (arm_at (fail_arm k)) in
    subst (λ t. GoesOn r (λ told. after_armed told n t came.1.answer) came) is.1 (arm_goes w r n (fail_arm k) is.0 a)
