-- a marker, part by part
use Rattle.std.proofs.Common.{refl}
use Rattle.mcbp_frame.specs.Spelling.{spelling}
use Rattle.mcbp_dcp.proofs.Puts.{headed, put}
use Rattle.mcbp_dcp.proofs.writer.write_marker.Goals as goal

pub returns-clause-ok : goal.returns-clause-ok
unfolding spelling
returns-clause-ok c =
    let head = headed _ _ c.request.result _ 0 0 0 0 (λ r k n. record r { extras = 20 }) c.in_ok-put_header.ensures.ok c.request.ensures refl refl in
    let start = put c.args.out.now.items _ _ _ _ _ head c.extend_reserved.ensures.items c.to_be_bytes.ensures in
    let end = put c.args.out.now.items _ _ _ _ _ start c.extend_reserved-2.ensures.items c.to_be_bytes-2.ensures in
    put c.args.out.now.items _ _ _ _ _ end c.extend_reserved-3.ensures.items c.to_be_bytes-3.ensures
