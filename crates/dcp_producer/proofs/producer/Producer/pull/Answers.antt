use Rattle.std.proofs.Common.{[], ap, sym, ◌∙◌, refl}
use Rattle.dcp_producer.specs.Producers.{begun}
use Rattle.dcp_producer.proofs.Staying.{stays_same}
use Rattle.dcp_producer.proofs.Uncounted.{pulled_so}
use Rattle.dcp_producer.proofs.producer.Producer.pull.Goals as goal

pub returns-then-self-clause-same : goal.returns-then-self-clause-same
returns-then-self-clause-same g c = stays_same c.args.self.now.plain c.args.self.now.plain refl

pub returns-clause-ok : goal.returns-clause-ok
returns-clause-ok g c =
    let before = ap (λ i. i.connection) c.self-inside.view_is in
    let after = ap (λ i. i.connection) c.self-inside-2.view_is in
    let told = c.told-events.ensures in
    let resolved = rw c.in_ok-halt.was at c.pull-halted.ensures.resolved in
    let ran = rw c.in_ok-halt.was at c.pull-halted.ensures.ok in
    pulled_so g.A.VbAccess.step g.J.Journals.asks c.args.frames _ c.pull-halted.new.self
    (record { end = c.told-events.new.self.end; events = c.told-events.result.events; out = c.told-events.result.out.items; count = c.self-inside-2.inside.0.0.count; resolved = [] })
    c.in_ok-halt.halt c.args.self.now.plain c.args.vbs.now c.args.disks.now c.pull-halted.new.vbs c.pull-halted.new.disks (before ∙ c.self.invariant ∙ ap (λ s. begun s.end) (sym before))
    (ap (λ s. s.end) before ∙ ap (λ k. k.plain) c.self.view_is) (ap (λ s. s.end) told.rest ∙ ap (λ s. s.end) after) (told.events ∙ ap (λ s. s.events) after)
    (told.out ∙ ap (λ s. s.out) after) (ap (λ s. s.count) after) resolved ran
