-- the line `done`: a batch counts as saved, and then what is due is acknowledged
use Rattle.std.specs.Prelude.{◌≡◌, ◌∷◌, ◌==◌, if◌then◌else◌}
use Rattle.transcript_law.proofs.Words.{ℕ, Bool, true, false, List, [], refl, sym, subst, Option, Some, None, Event, Chronicle, PlainLink, PlainNode, PlainWorld, Outcome, StaysSound, VbReply, after_job, on_node, own_link}
use Rattle.node_core.specs.{Calls.{own_lines_if}, Flushing.{flush_result}}
use Rattle.node_world.specs.{Dues.{done_step, due_at, due_in, due_of, is_counted}, Nodes.{flush_here, all_posted, flush_line, with_kept}}
use Rattle.transcript_law.proofs.{invariant.Agreement.{Agrees, GoesOn}, lines.ClientLines.{clients_quiet, posts_of_clients}, verbs.DueLines.{due_goes}, verbs.FiredLines.{flush_steps}, verbs.FlushLines.{done_node_goes}, lines.Lines.{AreQuiet, quiet_more}, verbs.NodeLines.{as_told, on_node_by}, invariant.Ranged.{IsRanged, NodeRanged, NodeRangedIf}, verbs.Settling.{Steady, changes_quiet}}
use Rattle.transcript_law.proofs.lines.Calm.{any_job}
use Rattle.transcript_law.specs.{Chronicles.{after_done}, LawfulAnswers.{AllDurable}}
use Rattle.vb_calls.specs.Flushes.{part_job}
use Rattle.vb_calls.specs.declared.journals.Flushed.{Flushed}
use Rattle.vb_types.specs.declared.journal.FlushPart.TheVariants as part
use Rattle.vbucket.specs.Wholes.{BatchesAreWhole}

-- what a step tells says nothing of what stands behind it
own_quiet : (n v : ℕ) (o : Option VbReply) → AreQuiet (own_lines_if n v o)
own_quiet n v None = tt
own_quiet n v (Some reply) = changes_quiet n v reply.branch reply.changes

step_quiet : (n v : ℕ) (came : Flushed) → AreQuiet (flush_result n v came).events
step_quiet n v (Flushed.Took ss se at count) = elim (count == 0) as (λ b. AreQuiet (if b then [] else Event.Batch n v ss se at count ∷ [])) [ true ↦ tt | false ↦ (tt, tt) ]
step_quiet n v (Flushed.Done reply) = own_quiet n v reply
step_quiet n v other = tt

done_quiet : (w : PlainWorld) (n v : ℕ) → IsRanged w → AreQuiet (on_node w n (flush_line n v part.Done)).1.events
done_quiet w n v ranged = on_node_by (λ x. AreQuiet x.1.events) w n (flush_line n v part.Done) tt (λ node at. tt) (λ node at runs.
    let y = after_job (flush_here n v part.Done node) node.vbs node.shelves in let lines : List Event = (all_posted y.1.resolved (with_kept node y.0)).1 in
    quiet_more y.1.events lines (flush_steps (λ told. AreQuiet told.events) (λ came. Unit {0}) n v part.Done node tt (λ came any. step_quiet n v came) (λ flush. any_job (part_job v part.Done flush)))
    (let here : NodeRanged n node = subst (NodeRangedIf n) at (ranged n) in clients_quiet lines (posts_of_clients n y.1.resolved (with_kept node y.0) here.own)))

-- what is due leaves the answer
due_answer : (n v : ℕ) (o : Outcome) → (due_in n v o).1.answer ≡ o.1.answer
due_answer n v o = by_counted (is_counted o.1.answer)
  where
    by_node : (link : PlainLink) (k : Option PlainNode) → (due_at n link o.0 o.1 k).1.answer ≡ o.1.answer
    by_node link None = refl
    by_node link (Some node) = refl

    by_link : (l : Option PlainLink) → (due_of n o.0 o.1 l).1.answer ≡ o.1.answer
    by_link None = refl
    by_link (Some link) = by_node link (o.0.nodes n)

    by_counted : (b : Bool) → (if b then due_of n o.0 o.1 (own_link n v o.0.links) else o).1.answer ≡ o.1.answer
    by_counted true = by_link (own_link n v o.0.links)
    by_counted false = refl

pub done_goes : StaysSound → Steady → BatchesAreWhole → (w : PlainWorld) (r : Chronicle) (n v : ℕ) → IsRanged w → AllDurable r.made → Agrees w r → GoesOn (after_done r n v (done_step w n v).1.answer) as_told (done_step w n v)
done_goes stays steady wholes w r n v ranged calm a =
    let o : Outcome = on_node w n (flush_line n v part.Done) in
    subst (λ said. GoesOn (after_done r n v said) as_told (due_in n v o)) (sym (due_answer n v o))
    (due_goes o.0 (after_done r n v o.1.answer) n v o.1 (done_quiet w n v ranged) (done_node_goes stays steady wholes w r n v ranged a calm))
