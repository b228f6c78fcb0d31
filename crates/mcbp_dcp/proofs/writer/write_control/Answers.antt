-- a CONTROL, part by part
use Rattle.mcbp_frame.specs.Spelling.{spelling}
use Rattle.mcbp_dcp.proofs.Puts.{headed, put}
use Rattle.mcbp_dcp.proofs.writer.write_control.Goals as goal

pub returns-clause-ok : goal.returns-clause-ok
unfolding spelling
returns-clause-ok c =
    let head = headed _ _ c.request.result _ c.len.result _ c.len-2.result _ (λ r k n. record r { key = k; value = n }) c.in_ok-put_header.ensures.ok c.request.ensures c.len.ensures.value c.len-2.ensures.value in
    let key = put c.args.out.now.items _ _ _ _ _ head c.extend_reserved.ensures.items c.as_slice.ensures in
    put c.args.out.now.items _ _ _ _ _ key c.extend_reserved-2.ensures.items c.as_slice-2.ensures
