-- an operator's call that changes a vBucket's role: what the call, and the record of the role under the node's arm, make of the node
use Rattle.std.specs.Prelude.{◌≡◌, if◌then◌else◌}
use Rattle.transcript_law.proofs.Words.{ℕ, false, List, refl, ap, ◌∙◌, Option, Some, None, is_some, Cause, Role, Event, Plain, plain_step, AdminCall, AdminResult, admin_call, admin_replied, role_changed, PlainNode, States, with_vb_at, VbCall, VbReply, VbAnswer}
use Rattle.transcript_law.proofs.Words.{Ended, after_job, after_job_bind, called_at, option_map, quiet_reply}
use Rattle.transcript_law.proofs.invariant.JobSteps.{ask_on, call_on, put_found, put_over, shelf_found, shelf_over}
use Rattle.{disk_journals.specs.Arms.{armed_at, under}, node_core.specs.Admin.{admin_job, admin_refused, noted_answer, role_at, role_noted}, node_world.specs.Arms.{fuse_or, lifted, placed, under_arm}, node_world.specs.Nodes.{with_kept}}
use Rattle.{node_world.specs.Turns.{called, role_called}, vb_calls.specs.Flushes.{is_refusal, note_role_job, role_of_call, role_job, role_told_job, wrote_of}, vb_calls.specs.Jobs.{Call}}
use Rattle.{vb_calls.specs.Shelves.{Append, DiskFailed, Fate, Shelf, Stood, WasClosed, Shelves, after_fate, fate_of, with_shelf_at}, vb_disk.specs.declared.fuse.Fuse.TheVariants.{Off}, vb_events.specs.declared.event.Answer.{Answer}, vb_types.specs.declared.journal.Record.{Record}}
use Rattle.vb_calls.specs.declared.journals.Wrote.TheVariants as wrote
use Rattle.vb_events.specs.declared.event.Answer.TheVariants as answer
use Rattle.vb_types.specs.declared.journal.Record.TheVariants as noted

-- the answer of a line, by what became of its record
abbrev pub said_of : Fate → Answer
said_of fate = noted_answer (wrote_of fate) answer.Ok

-- what is told of a change of role, by the vBucket's reply
abbrev pub changed_told : VbReply → List Event → Answer → AdminResult
changed_told reply lines said = record { events = lines; answer = said; ended = Some reply.ended; resolved = reply.resolved }

-- no call of it stopped its node
pub not_stopped : (fate : Fate) → said_of fate ≡ answer.No Cause.Stopped → ⊥
not_stopped Stood e = cc
not_stopped WasClosed e = cc
not_stopped DiskFailed e = cc

-- a node with these journals, of which what is left of the arm is taken off
lifted_is : (node : PlainNode) (shelves : Shelves) (v : ℕ) (shelf : Shelf) → shelves v ≡ Some shelf
    → lifted v (record node { shelves = shelves }) ≡ record node { shelves = with_shelf_at shelves v (under Off shelf); arm = record node.arm { fuse = shelf.fuse } }
lifted_is node shelves v shelf is = ap (λ (o : Option Shelf). record node { shelves = armed_at shelves v Off o; arm = record node.arm { fuse = fuse_or node.arm.fuse (option_map (λ (s : Shelf). s.fuse) o) } }) is

module _ (node : PlainNode) (n v : ℕ) (asked : AdminCall) (vb vb' : Plain) (shelf : Shelf) (there : node.vbs v ≡ Some vb) (kept : node.shelves v ≡ Some shelf) (up : node.off ≡ None) (reply : VbReply)
    (is : plain_step vb (admin_call asked) ≡ (vb', reply)) (job_is : admin_job n v asked ≡ role_at n v asked) (made : is_refusal reply.answer ≡ false) where
  abbrev pub new : Role
  new = role_of_call (admin_call asked)

  abbrev pub what : Record
  what = noted.State new vb'.log

  -- the journal under the arm, what becomes of the append, and the journal then
  abbrev armed : Shelf
  armed = under node.arm.fuse shelf

  abbrev pub fate : Fate
  fate = fate_of armed

  abbrev pub left : Shelf
  left = after_fate armed what fate

  -- the node once the arm is placed
  abbrev over : PlainNode
  over = record node { shelves = with_shelf_at node.shelves v armed }

  placed_is : placed v node ≡ over
  placed_is = ap (λ (o : Option Shelf). record node { shelves = armed_at node.shelves v node.arm.fuse o }) kept

  job_came : after_job (role_job v (admin_call asked)) node.vbs over.shelves ≡ ((with_vb_at (with_vb_at node.vbs v vb') v vb', with_shelf_at over.shelves v left), (Some reply, wrote_of fate))
  unfolding role_job
  job_came =
      let st : States = with_vb_at node.vbs v vb' in
      call_on node.vbs over.shelves v (admin_call asked) (role_told_job v (admin_call asked)) vb vb' reply there is
      ∙ ap (λ b. after_job (if b then Ended (Some reply, wrote.NotAsked) else Call v VbCall.Log (note_role_job v new reply)) st over.shelves) made
      ∙ call_on st over.shelves v VbCall.Log (note_role_job v new reply) vb' vb' (quiet_reply (VbAnswer.Logged vb'.log)) (put_found node.vbs v vb') refl
      ∙ ask_on (with_vb_at st v vb') over.shelves v (Append what) (λ fate. Ended (Some reply, wrote_of fate)) armed left fate (shelf_found node.shelves v armed) refl

  -- the node with the vBucket in its role, and with this journal and this arm
  abbrev pub node' : PlainNode
  node' = record node { vbs = with_vb_at node.vbs v vb'; shelves = with_shelf_at node.shelves v (under Off left); arm = record node.arm { fuse = left.fuse } }

  lifted_came : lifted v (with_kept over (with_vb_at (with_vb_at node.vbs v vb') v vb', with_shelf_at over.shelves v left)) ≡ node'
  lifted_came =
      (λ i. lifted v (record node { vbs = put_over node.vbs v vb' vb' i; shelves = shelf_over node.shelves v armed left i }))
      ∙ lifted_is (record node { vbs = with_vb_at node.vbs v vb' }) (with_shelf_at node.shelves v left) v left (shelf_found node.shelves v left)
      ∙ ap (λ (s : Shelves). record node { vbs = with_vb_at node.vbs v vb'; shelves = s; arm = record node.arm { fuse = left.fuse } }) (shelf_over node.shelves v left (under Off left))

  call_came : called_at n v asked over ≡ (with_kept over (with_vb_at (with_vb_at node.vbs v vb') v vb', with_shelf_at over.shelves v left), role_noted n v asked (Some reply, wrote_of fate))
  call_came =
      ap (λ j. called over (after_job j node.vbs over.shelves)) job_is
      ∙ ap (called over) (after_job_bind (role_job v (admin_call asked)) (λ wrote. Ended (role_noted n v asked wrote)) node.vbs over.shelves)
      ∙ ap (λ y. called over (y.0, role_noted n v asked y.1)) job_came

  pub role_came : (lines : List Event) → admin_replied n v asked reply ≡ role_changed reply lines → role_called n v asked node ≡ (node', changed_told reply lines (said_of fate))
  role_came lines line_is =
      ap (λ (o : Option (List _)). if is_some o then (node, admin_refused Cause.NodeDown) else under_arm v (called_at n v asked) node) up
      ∙ ap (λ x. let y = called_at n v asked x in (lifted v y.0, y.1)) placed_is
      ∙ ap (λ y. (lifted v y.0, y.1)) call_came
      ∙ (λ i. (lifted_came i, record (line_is i) { answer = noted_answer (wrote_of fate) (line_is i).answer }))
