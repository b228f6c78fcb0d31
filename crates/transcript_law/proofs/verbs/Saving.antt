-- the line `save`: a batch that was taken is appended, under its node's arm
use Rattle.std.specs.Prelude.{◌≡◌, if◌then◌else◌}
use Rattle.transcript_law.proofs.Words.{ℕ, false, [], refl, ap, sym, ◌∙◌, subst, Option, Some, None, option_map, eq-eqb, is_some, Answer, Cause, Chronicle, Ended, Plain, PlainNode, PlainWorld, States, after_job, on_node, refusal, StaysSound, shelf_in, vb_in, with_branches, with_node_at, with_vb_at}
use Rattle.transcript_law.proofs.{invariant.Agreement.{Agrees, DiskIsIf, LineGoes, shelf_of, vb_of}, disks.Appending.{batch_came, flush_after, noted_node}, disks.ArmedLines.{ArmedCame}, verbs.FlushLines.{There, shelf_is, there_at_vb, vb_is}, disks.Flushed.{flush_came}}
use Rattle.transcript_law.proofs.{invariant.JobSteps.{ask_on, same_shelf, shelf_found, shelf_over}, verbs.NodeLines.{on_node_by, put_same}, disks.Firing.{save_noting}, disks.Noting.{LineCame, came_goes, came_used, kept_came, refused_came}, invariant.Seats.{seat}, invariant.Tables.{none_there}}
use Rattle.{disk_journals.specs.Arms.{armed_at, under}, node_core.specs.Admin.{noted_answer}, node_core.specs.Flushing.{flush_at, flush_result}, node_world.specs.declared.told.Told.{Told}}
use Rattle.node_world.specs.{Arms.{fired_by, fuse_or, lifted, placed}, Nodes.{flush_here, save_line, with_kept, with_posts, written}, Power.{with_arm}, Worlds.{arm_in}}
use Rattle.transcript_law.specs.Chronicles.{after_append, saving}
use Rattle.vb_calls.specs.Flushes.{appended_job, save_job, wrote_of}
use Rattle.vb_calls.specs.Shelves.{Append, DiskFailed, Fate, Flush, Idle, Keep, Out, Shelf, Shelves, Stood, WasClosed, Written, shelf_step, with_shelf_at}
use Rattle.vb_calls.specs.declared.journals.Flushed.{Flushed}
use Rattle.vb_disk.specs.declared.fuse.Fuse.TheVariants.{Off}
use Rattle.vb_types.specs.declared.journal.Batch.{Batch}
use Rattle.vb_types.specs.declared.journal.FlushPart.TheVariants as part
use Rattle.vb_types.specs.declared.journal.Record.TheVariants as noted

-- an arm that is put over a journal under no arm, and taken off again
over_and_off : (node : PlainNode) (v : ℕ) (o : Option Shelf) → node.shelves v ≡ o → ((s : Shelf) → o ≡ Some s → s.fuse ≡ Off) → lifted v (placed v node) ≡ node
over_and_off node v None e unarmed =
    ap (λ o. lifted v (record node { shelves = armed_at node.shelves v node.arm.fuse o })) e
    ∙ ap (λ o. record node { shelves = armed_at node.shelves v Off o; arm = record node.arm { fuse = fuse_or node.arm.fuse (option_map (λ (s : Shelf). s.fuse) o) } }) e
over_and_off node v (Some s) e unarmed =
    let over : Shelves = with_shelf_at node.shelves v (under node.arm.fuse s) in
    ap (λ o. lifted v (record node { shelves = armed_at node.shelves v node.arm.fuse o })) e
    ∙ ap (λ o. record node { shelves = armed_at over v Off o; arm = record node.arm { fuse = fuse_or node.arm.fuse (option_map (λ (s : Shelf). s.fuse) o) } }) (shelf_found node.shelves v (under node.arm.fuse s))
    ∙ ap (λ x. record node { shelves = x })
    (shelf_over node.shelves v (under node.arm.fuse s) (under Off s) ∙ ap (λ g. with_shelf_at node.shelves v (record s { fuse = g })) (sym (unarmed s refl)) ∙ (λ i q. same_shelf node.shelves v s e q i))

-- what becomes of a batch, by what becomes of its append
abbrev saved_as : Fate → Flushed
saved_as Stood = Flushed.Saved
saved_as WasClosed = Flushed.Closed
saved_as DiskFailed = Flushed.DiskFailed

-- and what is told of it
result_of_fate : (n v : ℕ) (fate : Fate) → flush_result n v (saved_as fate) ≡ record { events = []; answer = noted_answer (wrote_of fate) Answer.Ok; resolved = [] }
result_of_fate n v Stood = refl
result_of_fate n v WasClosed = refl
result_of_fate n v DiskFailed = refl

-- what the line tells beside its lines
abbrev pub saves : ℕ → ℕ → Answer → Chronicle → Chronicle
saves n v said told = after_append told n v (saving (told.disk_at n v)) said

module _ (w : PlainWorld) (r : Chronicle) (n v : ℕ) (there : There w r n v) where
  open there use {c, a, node, at, runs, vb, known, shelf, kept}

  -- the journal under the arm
  abbrev armed : Shelf
  armed = under node.arm.fuse shelf

  abbrev over : PlainNode
  over = record node { shelves = with_shelf_at node.shelves v armed }

  placed_is : placed v node ≡ over
  placed_is = ap (λ o. record node { shelves = armed_at node.shelves v node.arm.fuse o }) kept

  abbrev st0 : States
  st0 = with_vb_at node.vbs v vb

  abbrev sh0 : Shelves
  sh0 = with_shelf_at over.shelves v armed

  unarmed : shelf.fuse ≡ Off
  unarmed = (subst (λ s. DiskIsIf (r.disk_at n v) (c.disks (seat n v)) s (Some vb)) (shelf_is w r n v there) (subst (DiskIsIf (r.disk_at n v) (c.disks (seat n v)) (shelf_of w n v)) (vb_is w r n v there) (a.disks n v))).unarmed

  -- the node after a job, and what is told
  abbrev outcome : (States × Shelves) × Flushed → PlainNode × Told
  outcome y = let x = written over (y.0, flush_result n v y.1) in (lifted v x.0, x.1)

  line_is : save_line n v node ≡ outcome (after_job (save_job v shelf.flush) st0 sh0)
  line_is =
      ap (λ (x : PlainNode). let y = written x (after_job (flush_here n v part.Save x) x.vbs x.shelves) in (lifted v y.0, y.1)) placed_is
      ∙ ap (λ y. let x = written over y in (lifted v x.0, x.1)) (flush_came n v part.Save node.vbs over.shelves vb (Some armed) known (shelf_found node.shelves v armed))

  same_vbs : st0 ≡ node.vbs
  same_vbs i q = put_same node.vbs v vb known q i

  -- where nothing was taken, nothing changes
  nothing_is : outcome ((st0, sh0), Flushed.NothingTaken) ≡ (node, refusal Cause.NothingTaken)
  nothing_is =
      (λ i. (lifted v (record over { vbs = same_vbs i; shelves = shelf_over node.shelves v armed armed i }), refusal Cause.NothingTaken))
      ∙ ap (λ x. (x, refusal Cause.NothingTaken)) (ap (lifted v) (sym placed_is) ∙ over_and_off node v (Some shelf) kept (λ s e. let same : shelf ≡ s = cc in subst (λ (x : Shelf). x.fuse ≡ Off) same unarmed))

  abbrev Came : PlainNode × Told → Type 0
  Came x = LineCame n (saves n v) w r (with_node_at w n x.0, x.1)

  module _ (b : Batch) (out : shelf.flush ≡ Out b) where
    -- what its append comes to
    abbrev wrote : Shelf × Fate
    wrote = shelf_step armed (Append (noted.Rows b))

    abbrev left : Shelf
    left = record wrote.0 { flush = flush_after b wrote.1 }

    -- the batch waits to be done, or it is gone
    kept_is : (fate : Fate) (s : Shelf) → after_job (appended_job v b (Ended Flushed.Saved) fate) st0 (with_shelf_at sh0 v s) ≡ ((st0, with_shelf_at (with_shelf_at sh0 v s) v (record s { flush = flush_after b fate })), saved_as fate)
    kept_is Stood s = ask_on st0 (with_shelf_at sh0 v s) v (Keep (Written b.position.at)) (λ done. Ended Flushed.Saved) s (record s { flush = Written b.position.at }) tt (shelf_found sh0 v s) refl
    kept_is WasClosed s = ask_on st0 (with_shelf_at sh0 v s) v (Keep Idle) (λ done. Ended Flushed.Closed) s (record s { flush = Idle }) tt (shelf_found sh0 v s) refl
    kept_is DiskFailed s = ask_on st0 (with_shelf_at sh0 v s) v (Keep Idle) (λ done. Ended Flushed.DiskFailed) s (record s { flush = Idle }) tt (shelf_found sh0 v s) refl

    job_is : after_job (save_job v (Out b)) st0 sh0 ≡ ((st0, with_shelf_at (with_shelf_at sh0 v wrote.0) v left), saved_as wrote.1)
    job_is = ask_on st0 sh0 v (Append (noted.Rows b)) (appended_job v b (Ended Flushed.Saved)) armed wrote.0 wrote.1 (shelf_found over.shelves v armed) refl ∙ kept_is wrote.1 wrote.0

    -- the node with the journal and the arm that are left
    abbrev node' : PlainNode
    node' = record node { shelves = with_shelf_at node.shelves v (under Off left); arm = record node.arm { fuse = wrote.0.fuse } }

    abbrev said : Told
    said = record { events = []; answer = noted_answer (wrote_of wrote.1) Answer.Ok }

    saved_is : outcome (after_job (save_job v (Out b)) st0 sh0) ≡ (node', said)
    saved_is =
        let s1 : Shelves = with_shelf_at sh0 v wrote.0 in let s2 : Shelves = with_shelf_at s1 v left in
        ap outcome job_is
        ∙ ap (λ told. let x = with_posts told (with_kept over (st0, s2)) in (lifted v x.0, x.1)) (result_of_fate n v wrote.1)
        ∙ (λ i. (lifted v (record over { vbs = same_vbs i; shelves = s2 }), said))
        ∙ ap (λ o. (record over { shelves = armed_at s2 v Off o; arm = record node.arm { fuse = fuse_or node.arm.fuse (option_map (λ (s : Shelf). s.fuse) o) } }, said)) (shelf_found s1 v left)
        ∙ ap (λ x. (record over { shelves = x; arm = record node.arm { fuse = wrote.0.fuse } }, said))
        (shelf_over s1 v left (under Off left) ∙ shelf_over sh0 v wrote.0 (under Off left) ∙ shelf_over over.shelves v armed (under Off left) ∙ shelf_over node.shelves v armed (under Off left))

    arms_are : fired_by (arm_in (w.nodes n)).fuse (arm_in ((with_node_at w n node').nodes n)).fuse ≡ fired_by node.arm.fuse wrote.0.fuse
    arms_are i = fired_by (arm_in (at i)).fuse (arm_in (if eq-eqb n n refl i then Some node' else w.nodes n)).fuse

    saved_came : Came (node', said)
    saved_came = (
      tt,
      tt,
      subst (λ how. ArmedCame n (saves n v) how r (with_branches [] (with_node_at w n node')) said.answer) (sym arms_are) (came_used n (saves n v) (fired_by node.arm.fuse wrote.0.fuse) r (with_node_at w n node') said.answer []
          (batch_came w (with_node_at w n node') r n v (record { arm = node.arm; off = node.off; clock = node.clock }) vb shelf c a (vb_is w r n v there) (shelf_is w r n v there) (none_there node.off runs) b out
          (noted_node w n v node (under Off left) wrote.0.fuse at))),
    )

  save_by : (flush : Flush) → shelf.flush ≡ flush → Came (outcome (after_job (save_job v flush) st0 sh0))
  save_by Idle e = subst Came (sym nothing_is) (kept_came n (saves n v) w r node Cause.NothingTaken at refl (c, a))
  save_by (Written seq) e = subst Came (sym nothing_is) (kept_came n (saves n v) w r node Cause.NothingTaken at refl (c, a))
  save_by (Out b) e = subst Came (sym (saved_is b e)) (saved_came b e)

  pub save_there : Came (save_line n v node)
  save_there = subst Came (sym line_is) (save_by shelf.flush refl)

-- a journal without a vBucket is under no arm
unarmed_blank : {w : PlainWorld} {r : Chronicle} (n v : ℕ) (node : PlainNode) → Agrees w r → w.nodes n ≡ Some node → node.vbs v ≡ None → (s : Shelf) → node.shelves v ≡ Some s → s.fuse ≡ Off
unarmed_blank {w} {r} n v node a at none s e =
    let vb_none : vb_of w n v ≡ None = ap (λ o. vb_in o v) at ∙ none in let kept : shelf_of w n v ≡ Some s = ap (λ o. shelf_in o v) at ∙ e in
    let x = subst (λ o. DiskIsIf (r.disk_at n v) (a.0.disks (seat n v)) o None) kept (subst (DiskIsIf (r.disk_at n v) (a.0.disks (seat n v)) (shelf_of w n v)) vb_none (a.1.disks n v)) in
    ap (λ (y : Shelf). y.fuse) x.2

pub save_came : (w : PlainWorld) (r : Chronicle) (n v : ℕ) → Agrees w r → LineCame n (saves n v) w r (on_node w n (save_line n v))
save_came w r n v a = on_node_by (LineCame n (saves n v) w r) w n (save_line n v) (refused_came n (saves n v) w r Cause.UnknownNode refl a) (λ node at. kept_came n (saves n v) w r node Cause.NodeDown at refl a)
    (λ node at runs. by node at runs (node.vbs v) refl)
  where
    by : (node : PlainNode) → w.nodes n ≡ Some node → is_some node.off ≡ false → (o : Option Plain) → node.vbs v ≡ o → LineCame n (saves n v) w r (with_node_at w n (save_line n v node).0, (save_line n v node).1)
    by node at runs (Some vb) e = save_there w r n v (there_at_vb w r n v a node at runs vb e)
    by node at runs None e =
        let over : PlainNode = placed v node in
        subst (λ (x : PlainNode × Told). LineCame n (saves n v) w r (with_node_at w n x.0, x.1))
        (sym (ap (λ (o : Option Plain). let z = written over (after_job (flush_at n v part.Save (is_some o)) over.vbs over.shelves) in (lifted v z.0, z.1)) e
        ∙ ap (λ x. (x, refusal Cause.UnknownVb)) (over_and_off node v (node.shelves v) refl (unarmed_blank n v node a at e))))
        (kept_came n (saves n v) w r node Cause.UnknownVb at refl a)

-- the line under its node's arm
pub save_goes : StaysSound → (w : PlainWorld) (r : Chronicle) (n v : ℕ) → Agrees w r → let x = with_arm n w (on_node w n (save_line n v)) in LineGoes r (saves n v x.1.answer) x
save_goes stays w r n v a = came_goes stays n (saves n v) (save_noting n v) w r (on_node w n (save_line n v)) a (save_came w r n v a)
