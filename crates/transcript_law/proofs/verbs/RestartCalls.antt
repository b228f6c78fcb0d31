-- a vBucket that was active takes its new branch: what the call, and the record of its role under the node's arm, make of the node
use Rattle.std.specs.Prelude.{◌≡◌, ◌∷◌}
use Rattle.transcript_law.proofs.Words.{ℕ, [], refl, ap, ◌∙◌, Option, Some, option_map, Role, Event, Plain, plain_step, PlainNode, States, with_vb_at, VbCall, VbReply, VbAnswer, Ended, after_job, after_job_bind, ending_reply, quiet_reply, fork_of, led, parent_of}
use Rattle.transcript_law.proofs.{invariant.JobSteps.{ask_on, call_on, put_found, put_over, shelf_found, shelf_over}, verbs.RoleCalls.{said_of}}
use Rattle.{disk_journals.specs.Arms.{armed_at, under}, node_core.specs.{Calls.{own_lines}, Flushing.{FlushResult}, Loading.{start_result}}, node_world.specs.Arms.{fuse_or, lifted, placed}, node_world.specs.Nodes.{with_kept}, node_world.specs.Power.{start_call, start_one}}
use Rattle.vb_calls.specs.Settling.{Resolving, also_resolved, and_settled, settled}
use Rattle.{vb_calls.specs.Flushes.{note_role_job, role_job, role_told_job, wrote_of}}
use Rattle.{vb_calls.specs.Shelves.{Append, Fate, Shelf, Shelves, after_fate, fate_of, with_shelf_at}, vb_disk.specs.declared.fuse.Fuse.TheVariants.{Off}, vb_types.specs.declared.journal.Record.{Record}}
use Rattle.vb_types.specs.declared.journal.Record.TheVariants as noted

-- a node with these journals, of which what is left of the arm is taken off
lifted_is : (node : PlainNode) (shelves : Shelves) (v : ℕ) (shelf : Shelf) → shelves v ≡ Some shelf
    → lifted v (record node { shelves = shelves }) ≡ record node { shelves = with_shelf_at shelves v (under Off shelf); arm = record node.arm { fuse = shelf.fuse } }
lifted_is node shelves v shelf is = ap (λ (o : Option Shelf). record node { shelves = armed_at shelves v Off o; arm = record node.arm { fuse = fuse_or node.arm.fuse (option_map (λ (s : Shelf). s.fuse) o) } }) is

module _ (node : PlainNode) (n v uuid : ℕ) (vb : Plain) (shelf : Shelf) (there : node.vbs v ≡ Some vb) (kept : node.shelves v ≡ Some shelf)
    (is : plain_step vb (VbCall.Promote uuid) ≡ and_settled (led vb uuid, ending_reply vb (VbAnswer.Branch uuid (parent_of vb.log) (fork_of vb.position) vb.position.at))) where
  -- what it lets the vBucket commit
  abbrev pub made : Resolving
  made = settled (led vb uuid)

  abbrev pub vb' : Plain
  vb' = made.vb

  abbrev pub what : Record
  what = noted.State Role.Active vb'.log

  -- the journal under the arm, what becomes of the append, and the journal then
  abbrev armed : Shelf
  armed = under node.arm.fuse shelf

  abbrev pub fate : Fate
  fate = fate_of armed

  abbrev pub left : Shelf
  left = after_fate armed what fate

  -- the node once the arm is placed
  abbrev over : PlainNode
  over = record node { shelves = with_shelf_at node.shelves v armed }

  placed_is : placed v node ≡ over
  placed_is = ap (λ (o : Option Shelf). record node { shelves = armed_at node.shelves v node.arm.fuse o }) kept

  abbrev pub reply : VbReply
  reply = (also_resolved (ending_reply vb (VbAnswer.Branch uuid (parent_of vb.log) (fork_of vb.position) vb.position.at)) made).1

  job_came : after_job (role_job v (VbCall.Promote uuid)) node.vbs over.shelves ≡ ((with_vb_at (with_vb_at node.vbs v vb') v vb', with_shelf_at over.shelves v left), (Some reply, wrote_of fate))
  unfolding role_job
  job_came =
      let st : States = with_vb_at node.vbs v vb' in
      call_on node.vbs over.shelves v (VbCall.Promote uuid) (role_told_job v (VbCall.Promote uuid)) vb vb' reply there is
      ∙ call_on st over.shelves v VbCall.Log (note_role_job v Role.Active reply) vb' vb' (quiet_reply (VbAnswer.Logged vb'.log)) (put_found node.vbs v vb') refl
      ∙ ask_on (with_vb_at st v vb') over.shelves v (Append what) (λ fate. Ended (Some reply, wrote_of fate)) armed left fate (shelf_found node.shelves v armed) refl

  -- the node with the vBucket on its new branch, and with this journal and this arm
  abbrev pub node' : PlainNode
  node' = record node { vbs = with_vb_at node.vbs v vb'; shelves = with_shelf_at node.shelves v (under Off left); arm = record node.arm { fuse = left.fuse } }

  lifted_came : lifted v (with_kept over (with_vb_at (with_vb_at node.vbs v vb') v vb', with_shelf_at over.shelves v left)) ≡ node'
  lifted_came =
      (λ i. lifted v (record node { vbs = put_over node.vbs v vb' vb' i; shelves = shelf_over node.shelves v armed left i }))
      ∙ lifted_is (record node { vbs = with_vb_at node.vbs v vb' }) (with_shelf_at node.shelves v left) v left (shelf_found node.shelves v left)
      ∙ ap (λ (s : Shelves). record node { vbs = with_vb_at node.vbs v vb'; shelves = s; arm = record node.arm { fuse = left.fuse } }) (shelf_over node.shelves v left (under Off left))

  -- its branch, its changes, and the answer
  abbrev pub told : FlushResult
  told = record { events = Event.Branch n v uuid (parent_of vb.log) (fork_of vb.position) vb.position.at ∷ own_lines n v reply; answer = said_of fate; resolved = [] }

  call_came : start_call n v uuid over ≡ (with_kept over (with_vb_at (with_vb_at node.vbs v vb') v vb', with_shelf_at over.shelves v left), told)
  call_came =
      ap (λ y. (with_kept over y.0, y.1)) (after_job_bind (role_job v (VbCall.Promote uuid)) (λ made. Ended (start_result n v made)) node.vbs over.shelves)
      ∙ ap (λ y. (with_kept over y.0, start_result n v y.1)) job_came

  pub start_came : start_one n (v, uuid) node ≡ (node', told)
  start_came =
      ap (λ x. let y = start_call n v uuid x in (lifted v y.0, y.1)) placed_is
      ∙ ap (λ y. (lifted v y.0, y.1)) call_came
      ∙ (λ i. (lifted_came i, told))
