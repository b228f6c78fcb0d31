-- what a line that appends a record says of its node's arm, whatever the world is: where the arm fired, the record could not be appended, and the line says so
use Rattle.std.specs.Prelude.{◌≡◌, ◌⊎◌, if◌then◌else◌}
use Rattle.transcript_law.proofs.Words.{ℕ, zero, suc, Bool, true, false, refl, ap, sym, ◌∙◌, subst, arith, inl, inr, ⊎_elim, Option, Some, None, Answer, Cause}
use Rattle.node_core.specs.Admin.{noted_answer}
use Rattle.node_world.specs.Arms.{fired_by, fuse_or}
use Rattle.node_world.specs.declared.arm.Fired.{Fired}
use Rattle.node_world.specs.declared.arm.Fired.TheVariants as fired
use Rattle.transcript_law.proofs.{invariant.Agreement.{IsArm}, disks.Burning.{quiet_same, stands_under, breaks_under}, invariant.JobSteps.{shelf_found}}
use Rattle.transcript_law.specs.{LineAnswers.{IsNoted}, Plainness.{IsStanding}}
use Rattle.vb_calls.specs.Flushes.{wrote_of}
use Rattle.vb_calls.specs.Shelves.{Append, DiskFailed, Fate, Shelf, Shelves, Stood, WasClosed, after_fate, ask_at, shelf_step, shelves_step, with_shelf_at}
use Rattle.disk_journals.specs.Arms.{arm_over, armed_at, fuse_at, under}
use Rattle.vb_calls.specs.declared.journals.Wrote.{Wrote}
use Rattle.vb_calls.specs.declared.journals.Wrote.TheVariants as wrote
use Rattle.vb_disk.specs.declared.fuse.Fuse.{Fuse}
use Rattle.vb_disk.specs.declared.fuse.Fuse.TheVariants.{Off, Stop, Fail}
use Rattle.vb_journal.specs.UnderArms.{all_pass, burnt_noting}
use Rattle.vb_types.specs.declared.journal.Record.{Record}

-- what is left of an arm, by what became of an append under it to a journal that was closed or not
abbrev pub NotedBy : Bool → Fuse → Fuse → Wrote → Type 0
NotedBy closed f left wrote.Stood = (closed ≡ false) × (all_pass f ≡ true) × (left ≡ burnt_noting f)
NotedBy closed f left wrote.DiskFailed = (closed ≡ false) × (all_pass f ≡ false) × (left ≡ burnt_noting f)
NotedBy closed f left wrote.Closed = (closed ≡ true) × (left ≡ f)
NotedBy closed f left wrote.NotAsked = left ≡ f

-- an append to a journal
append_noted : (f : Fuse) (shelf : Shelf) (r : Record) → (let x = shelf_step (under f shelf) (Append r) in NotedBy shelf.is_closed f x.0.fuse (wrote_of x.1))
append_noted f shelf r = by shelf.is_closed
  where
    Came : Bool → Fate → Type 0
    Came closed fate = NotedBy closed f (after_fate (under f shelf) r fate).fuse (wrote_of fate)

    open_one : (b : Bool) → all_pass f ≡ b → Came false (if b then Stood else DiskFailed)
    open_one true e = (refl, e, refl)
    open_one false e = (refl, e, refl)

    by : (closed : Bool) → Came closed (if closed then WasClosed else if all_pass f then Stood else DiskFailed)
    by true = (refl, refl)
    by false = open_one (all_pass f) refl

-- an append finds a journal closed, or none at all
abbrev pub shut_in : Option Shelf → Bool
shut_in None = true
shut_in (Some shelf) = shelf.is_closed

-- and to the journal at v, over which the arm is, where there is one
pub step_noted : (f : Fuse) (shelves : Shelves) (v : ℕ) (r : Record) → (let x = shelves_step (arm_over shelves v f) v (Append r) in NotedBy (shut_in (shelves v)) f (fuse_or f (fuse_at x.0 v)) (wrote_of x.1))
step_noted f shelves v r = by (shelves v) refl
  where
    Came : Option Shelf → Shelves × Fate → Type 0
    Came o x = NotedBy (shut_in o) f (fuse_or f (fuse_at x.0 v)) (wrote_of x.1)

    by : (o : Option Shelf) → shelves v ≡ o → Came o (shelves_step (armed_at shelves v f o) v (Append r))
    by None e = subst (λ o. Came None (ask_at shelves v (Append r) o)) (sym e) (refl, ap (λ o. fuse_or f (fuse_in o)) e)
      where
        fuse_in : Option Shelf → Option Fuse
        fuse_in o = fuse_at (λ q. o) v
    by (Some shelf) e =
        let armed : Shelves = with_shelf_at shelves v (under f shelf) in let x = shelf_step (under f shelf) (Append r) in
        subst (λ o. Came (Some shelf) (ask_at armed v (Append r) o)) (sym (shelf_found shelves v (under f shelf)))
        (subst (λ (o : Option Shelf). NotedBy shelf.is_closed f (fuse_or f (fuse_at (λ q. o) v)) (wrote_of x.1)) (sym (shelf_found armed v x.0)) (append_noted f shelf r))

-- ---- whether it fired

-- four calls that pass do not fire it
quiet_noting : (f : Fuse) → all_pass f ≡ true → fired_by f (burnt_noting f) ≡ fired.No
quiet_noting Off e = refl
quiet_noting (Stop zero) e = refl
quiet_noting (Fail zero) e = refl
quiet_noting (Stop (suc k)) e = let s = stands_under (Stop (suc k)) (omega arith) e in ap (fired_by (Stop (suc k))) s.left ∙ s.quiet
quiet_noting (Fail (suc k)) e = let s = stands_under (Fail (suc k)) (omega arith) e in ap (fired_by (Fail (suc k))) s.left ∙ s.quiet

-- it fires only inside an append that fails
pub fires_failing : (closed : Bool) (f left : Fuse) (w : Wrote) → NotedBy closed f left w → (fired_by f left ≡ fired.No) ⊎ (w ≡ wrote.DiskFailed)
fires_failing closed f left wrote.Stood n = inl (ap (fired_by f) n.2 ∙ quiet_noting f n.1)
fires_failing closed f left wrote.DiskFailed n = inr refl
fires_failing closed f left wrote.Closed n = inl (ap (fired_by f) n.1 ∙ quiet_same f)
fires_failing closed f left wrote.NotAsked n = inl (ap (fired_by f) n ∙ quiet_same f)

-- the answer of a line, where its node's arm fired so
abbrev pub answer_fired : Fired → Answer → Answer
answer_fired fired.No said = said
answer_fired fired.Failed said = said
answer_fired fired.Stopped said = Answer.No Cause.Stopped

-- where the record was to be appended, and the line is answered `ok` otherwise
pub noted_ok : (closed : Bool) (f left : Fuse) (w : Wrote) → IsArm f → NotedBy closed f left w → (w ≡ wrote.NotAsked → ⊥) → IsNoted closed f (answer_fired (fired_by f left) (noted_answer w Answer.Ok))
noted_ok closed f left wrote.NotAsked a n asked = absurd (asked refl)
noted_ok closed f left wrote.Closed a n asked = subst (λ x. IsNoted closed f (answer_fired x (Answer.No Cause.Closed))) (sym (ap (fired_by f) n.1 ∙ quiet_same f)) n.0
noted_ok closed f left wrote.Stood a n asked =
    let s = stands_under f a n.1 in subst (λ x. IsNoted closed f (answer_fired x Answer.Ok)) (sym (ap (fired_by f) (n.2 ∙ s.left) ∙ s.quiet)) (n.0, s.answers)
noted_ok closed f left wrote.DiskFailed a n asked =
    let b = breaks_under f a n.1 in
    subst (λ g. IsNoted closed f (answer_fired (fired_by f g) (Answer.No Cause.Disk))) (sym (n.2 ∙ b.left))
    (⊎_elim (λ h. subst (λ x. IsNoted closed f (answer_fired x (Answer.No Cause.Disk))) (sym h.1) (n.0, h.0)) (λ h. subst (λ x. IsNoted closed f (answer_fired x (Answer.No Cause.Disk))) (sym h.1) (n.0, h.0)) b.how)

-- where nothing was to be appended, for a standing cause
pub noted_refused : (closed : Bool) (f left : Fuse) (why : Cause) → left ≡ f → IsStanding why → IsNoted closed f (answer_fired (fired_by f left) (Answer.No why))
noted_refused closed f left why same s = subst (λ x. IsNoted closed f (answer_fired x (Answer.No why))) (sym (ap (fired_by f) same ∙ quiet_same f)) (free why s)
  where
    free : (why : Cause) → IsStanding why → IsNoted closed f (Answer.No why)
    free Cause.Disk s = absurd s
    free Cause.Stopped s = absurd s
    free Cause.Closed s = absurd s
    free other s = tt
