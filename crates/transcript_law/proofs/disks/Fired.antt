-- an arm that fires inside a line: the line tells of it as it is answered
use Rattle.std.specs.Prelude.{◌≡◌, ◌∷◌, ◌++◌, ◌||◌, if◌then◌else◌}
use Rattle.transcript_law.proofs.Words.{ℕ, Bool, true, false, List, [], refl, ap, sym, ◌∙◌, subst, ⊎_elim, row_at, link_number, Option, Some, None, Answer, Cause, Event, PlainWorld, Told}
use Rattle.node_core.specs.Admin.{noted_answer}
use Rattle.node_world.specs.{Arms.{fired_by}, Power.{after_broken, after_fire, all_numbers, closed_line, closed_lines, down_lines, end_line, end_lines, has_client, is_broken_answer, is_this_number, is_touched, with_arm, with_broken}, Worlds.{arm_in}}
use Rattle.node_world.specs.declared.arm.Fired.{Fired}
use Rattle.node_world.specs.declared.arm.Fired.TheVariants as fired
use Rattle.transcript_law.proofs.{invariant.Agreement.{IsArm}, disks.AppendAnswers.{AppendCame, fuse_in}, disks.ArmedSteps.{NotedBy}, disks.Burning.{breaks_under, quiet_same, stands_under}, lines.Calm.{Calm, Still, calm_each, calm_more, calm_still, either, fires_once, still_more, still_once}}
use Rattle.transcript_law.specs.{Firings.{FiresAsSaid, beside_rollbacks}, Plainness.{IsStanding}}
use Rattle.vb_calls.specs.declared.journals.Wrote.{Wrote}
use Rattle.vb_calls.specs.declared.journals.Wrote.TheVariants as wrote
use Rattle.vb_disk.specs.declared.fuse.Fuse.{Fuse}
use Rattle.vb_disk.specs.declared.made.Outcome.{Outcome}

-- lines that tell of no arm, with a refusal that is none of an arm's
pub standing_fires : (at : Option ℕ) (lines : List Event) (why : Cause) → Calm lines → IsStanding why → FiresAsSaid at lines (Answer.No why)
standing_fires at lines Cause.Disk calm s = absurd s
standing_fires at lines Cause.Stopped calm s = absurd s
standing_fires None lines other calm s = calm
standing_fires (Some n) lines other calm s = calm

-- what ends with a node tells of none
pub ends_calm : (n : ℕ) (also : Option ℕ) (w : PlainWorld) → Calm (down_lines n also w)
ends_calm n also w = calm_more (end_lines n also w.links) (closed_lines n (w.nodes n))
    (calm_each (end_line n also w.links) all_numbers (λ l. either Calm (is_this_number l also || is_touched n (row_at link_number l w.links)) _ [] refl refl))
    (calm_each (closed_line n (w.nodes n)) all_numbers (λ c. either Calm (has_client c (w.nodes n)) _ [] refl refl))

-- a line that appends a record
pub armed_fires : (Lines : List Event → Type 0) (closed : Bool) (w : PlainWorld) (n : ℕ) (w' : PlainWorld) (told : Told) → IsArm (fuse_in w n) → Calm told.events → AppendCame Lines closed w n (w', told)
    → (let x = (with_arm n w (w', told)).1 in FiresAsSaid (Some n) x.events x.answer)
armed_fires Lines closed w n w' told arm calm came = ⊎_elim (λ r. quiet (Answer.No r.0) r.1 (standing_fires (Some n) told.events r.0 calm r.2) (ap (λ o. fired_by f (arm_in o).fuse) (r.3.0 n) ∙ quiet_same f)) (λ m. by m.0 m.1 m.2 m.3) came
  where
    f : Fuse
    f = fuse_in w n

    out : Outcome
    out = (arm_in (w.nodes n)).out

    How : Fired → Type 0
    How x = let y = (after_fire n out x (w', told)).1 in FiresAsSaid (Some n) y.events y.answer

    quiet : (said : Answer) → told.answer ≡ said → FiresAsSaid (Some n) told.events said → fired_by f (fuse_in w' n) ≡ fired.No → How (fired_by f (fuse_in w' n))
    quiet said is so e = subst How (sym e) (subst (FiresAsSaid (Some n) told.events) (sym is) so)

    failed : told.answer ≡ Answer.No Cause.Disk → How fired.Failed
    failed is = subst (FiresAsSaid (Some n) (told.events ++ Event.CallFailed n ∷ [])) (sym is) (fires_once told.events (Event.CallFailed n) [] calm refl refl)

    stopped : How fired.Stopped
    stopped = fires_once told.events (Event.NodeStopped n) (down_lines n None w') calm refl (ends_calm n None w')

    by : (said : Wrote) → NotedBy closed f (fuse_in w' n) said → (said ≡ wrote.NotAsked → ⊥) → told.answer ≡ noted_answer said Answer.Ok → How (fired_by f (fuse_in w' n))
    by wrote.Stood b asked is = let s = stands_under f arm b.1 in quiet Answer.Ok is calm (ap (fired_by f) (b.2 ∙ s.left) ∙ s.quiet)
    by wrote.NotAsked b asked is = absurd (asked refl)
    by wrote.Closed b asked is = quiet (Answer.No Cause.Closed) is calm (ap (fired_by f) b.1 ∙ quiet_same f)
    by wrote.DiskFailed b asked is =
        let s = breaks_under f arm b.1 in let left = ap (fired_by f) (b.2 ∙ s.left) in
        ⊎_elim (λ h. subst How (sym (left ∙ h.1)) (failed is)) (λ h. subst How (sym (left ∙ h.1)) stopped) s.how

-- a line that takes a link's bytes, whatever came of a rollback
pub broken_fires : (n l : ℕ) (before : PlainWorld) (w : PlainWorld) (told : Told) → Still told.events → (is_broken_answer told.answer ≡ false → FiresAsSaid (Some n) (beside_rollbacks told.events) told.answer)
    → (let x = (with_broken n l before (w, told)).1 in FiresAsSaid (Some n) (beside_rollbacks x.events) x.answer)
broken_fires n l before w told still whole = by (is_broken_answer told.answer) refl
  where
    out : Outcome
    out = (arm_in (before.nodes n)).out

    how : (x : Fired) → (let y = (after_broken n l out x (w, told)).1 in FiresAsSaid (Some n) (beside_rollbacks y.events) y.answer)
    how fired.No = still_more told.events _ still refl
    how fired.Failed = still_once told.events (Event.CallFailed n) _ still refl refl refl
    how fired.Stopped = still_once told.events (Event.NodeStopped n) (down_lines n (Some l) w) still refl refl (calm_still (down_lines n (Some l) w) (ends_calm n (Some l) w))

    by : (b : Bool) → is_broken_answer told.answer ≡ b
        → (let x = (if b then after_broken n l out (fired_by (arm_in (before.nodes n)).fuse (arm_in (w.nodes n)).fuse) (w, told) else (w, told)).1 in FiresAsSaid (Some n) (beside_rollbacks x.events) x.answer)
    by true e = how (fired_by (arm_in (before.nodes n)).fuse (arm_in (w.nodes n)).fuse)
    by false e = whole e
