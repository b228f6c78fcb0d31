-- an OPEN, part by part
use Rattle.std.proofs.Common.{refl, sym, ◌∙◌, append-nil}
use Rattle.mcbp_frame.specs.Spelling.{spelling}
use Rattle.mcbp_dcp.proofs.Puts.{headed, put}
use Rattle.mcbp_dcp.proofs.writer.write_open.Goals as goal

pub returns-clause-ok : goal.returns-clause-ok
unfolding spelling
returns-clause-ok c =
    let head = headed _ _ c.request.result _ c.len.result _ 0 0 (λ r k n. record r { extras = 8; key = k }) c.in_ok-put_header.ensures.ok c.request.ensures c.len.ensures.value refl in
    let seqno = put c.args.out.now.items _ _ _ _ _ head c.extend_reserved.ensures.items c.to_be_bytes.ensures in
    let flags = put c.args.out.now.items _ _ _ _ _ seqno c.extend_reserved-2.ensures.items c.to_be_bytes-2.ensures in
    put c.args.out.now.items _ _ _ _ _ flags c.extend_reserved-3.ensures.items (c.as_slice.ensures ∙ sym (append-nil _))
