use Rattle.std.proofs.Common.{ap, ◌∙◌, refl}
use Rattle.std.specs.Prelude.{slice_get}
use Rattle.dcp_producer.proofs.Kept.{stands}
use Rattle.dcp_producer.proofs.Staying.{stays_same, stays_without}
use Rattle.dcp_producer.proofs.Turns.{came_put, came_end, came_quiet}
use Rattle.dcp_producer.proofs.connection.Connection.put_next.Goals as goal

pub returns-in_err-put_frame-in-Put-clause-same : goal.returns-in_err-put_frame-in-Put-clause-same
returns-in_err-put_frame-in-Put-clause-same c = stays_same c.args.self.now.end c.put_frame.new.self.end c.in_err-put_frame-in-Put.ensures.err

pub returns-in_err-put_frame-in-End-clause-same : goal.returns-in_err-put_frame-in-End-clause-same
returns-in_err-put_frame-in-End-clause-same c =
    rw (c.in_err-put_frame-in-End.ensures.err, c.drop_stream.ensures) (stays_without c.args.self.now.end c.names-id.result.0)

pub returns-in_err-add-in-Quiet-clause-same : goal.returns-in_err-add-in-Quiet-clause-same
returns-in_err-add-in-Quiet-clause-same c = stays_same c.args.self.now.end c.args.self.now.end refl

pub returns-in_ok-put_frame-in-Put-clause-ok : goal.returns-in_ok-put_frame-in-Put-clause-ok
returns-in_ok-put_frame-in-Put-clause-ok c stream there =
    let it = stands c.self.inside.streams.items c.args.at c.index.result.now stream c.index.ensures (ap (λ s. slice_get s.end.streams c.args.at) c.self.view_is ∙ there) in
    came_put c.args.self.now c.args.quiet.now stream c.names-id.result (c.names-id.ensures ∙ ap (λ t. (t.id, t.opaque, t.vb)) it) c.args.next c.in-Put.message c.in-Put.line c.put_frame.new.self c.in-Put.is
    c.in_ok-put_frame-in-Put.ensures.ok

pub returns-in_ok-put_frame-in-Put-clause-same : goal.returns-in_ok-put_frame-in-Put-clause-same
returns-in_ok-put_frame-in-Put-clause-same c = rw c.in_ok-put_frame-in-Put.ensures.ok (stays_same c.args.self.now.end c.args.self.now.end refl)

pub returns-in_ok-put_frame-in-End-clause-ok : goal.returns-in_ok-put_frame-in-End-clause-ok
returns-in_ok-put_frame-in-End-clause-ok c stream there =
    let it = stands c.self.inside.streams.items c.args.at c.index.result.now stream c.index.ensures (ap (λ s. slice_get s.end.streams c.args.at) c.self.view_is ∙ there) in
    came_end c.args.self.now c.args.quiet.now stream c.names-id.result (c.names-id.ensures ∙ ap (λ t. (t.id, t.opaque, t.vb)) it) c.args.next c.in-End.reason c.self-in-End.inside.desk.stream
    c.drop_stream.new.self c.put_frame-in-End.new.self c.in-End.is (ap (λ s. s.end.desk.stream) (c.self-in-End.view_is ∙ c.drop_stream.ensures)) c.drop_stream.ensures
    c.in_ok-put_frame-in-End.ensures.ok

pub returns-in_ok-put_frame-in-End-clause-same : goal.returns-in_ok-put_frame-in-End-clause-same
returns-in_ok-put_frame-in-End-clause-same c =
    rw (c.in_ok-put_frame-in-End.ensures.ok, c.drop_stream.ensures) (stays_without c.args.self.now.end c.names-id.result.0)

pub returns-in_ok-add-in-Quiet-clause-ok : goal.returns-in_ok-add-in-Quiet-clause-ok
returns-in_ok-add-in-Quiet-clause-ok c stream there =
    let it = stands c.self.inside.streams.items c.args.at c.index.result.now stream c.index.ensures (ap (λ s. slice_get s.end.streams c.args.at) c.self.view_is ∙ there) in
    came_quiet c.args.self.now c.args.quiet.now stream c.names-id.result (c.names-id.ensures ∙ ap (λ t. (t.id, t.opaque, t.vb)) it) c.args.next c.in-Quiet.waits c.add.new.self c.in-Quiet.is
    c.in_ok-add-in-Quiet.ensures

pub returns-in_ok-add-in-Quiet-clause-same : goal.returns-in_ok-add-in-Quiet-clause-same
returns-in_ok-add-in-Quiet-clause-same c = stays_same c.args.self.now.end c.args.self.now.end refl

pub returns-in-Disk-clause-same : goal.returns-in-Disk-clause-same
returns-in-Disk-clause-same c = stays_same c.args.self.now.end c.args.self.now.end refl
