use Rattle.std.proofs.Common.{◌≡◌, ◌<◌, ap, false, subst, ◌∙◌, sym, arith}
use Rattle.std.specs.Prelude.{nat_le}
use Rattle.vb_calls.specs.State.{is_active}
use Rattle.vb_calls.specs.Streams.{is_in_memory, stream_at}
use Rattle.vb_calls.specs.declared.stream.Stream.{Stream}
use Rattle.vbucket.specs.Kept.{Kept, SameChanges, floored}
use Rattle.vbucket.proofs.Feeding.{opened_same}
use Rattle.vbucket.proofs.Steadying.{opened_steady}
use Rattle.vbucket.proofs.vbucket.VBucket.open_stream.Goals as goal

pub invariant_of-self-2 : goal.invariant_of-self-2
invariant_of-self-2 c =
    let v = c.self.inside in
    let s : Stream = record { id = c.args.id; ask = c.args.ask; sync = c.args.sync; place = c.args.ask.start; cursor = c.is_in_memory.result; taken = false } in
    let has : c.is_in_memory.result ≡ nat_le v.list.floor c.args.ask.start = c.is_in_memory.ensures ∙ sym (ap (λ (k : Kept). is_in_memory (floored k) c.args.ask.start) c.self.view_is) in
    opened_steady v.role v.position.at v.list v.streams.items s c.open.new.list c.open.new.streams.items c.self.invariant
    (ap (λ (k : Kept). is_active k.rest.role) c.self.view_is ∙ c.stream_refusal.ensures.active c.in_default.is)
    (c.stream_refusal.ensures.number c.in_default.is)
    (ap (λ (k : Kept). stream_at c.args.id k.rest.streams) c.self.view_is ∙ c.stream_refusal.ensures.free c.in_default.is)
    has c.in_ok-open.ensures.list c.in_ok-open.ensures.streams

pub returns-clause-list : goal.returns-clause-list
returns-clause-list c =
    let v = c.self.inside in
    let s : Stream = record { id = c.args.id; ask = c.args.ask; sync = c.args.sync; place = c.args.ask.start; cursor = c.is_in_memory.result; taken = false } in
    let number : 0 < c.args.id = c.stream_refusal.ensures.number c.in_default.is in
    subst (λ (k : Kept). SameChanges k.list c.open.new.list) c.self.view_is (opened_same v.list c.open.new.list s (omega (arith, number)) c.in_ok-open.ensures.list)
