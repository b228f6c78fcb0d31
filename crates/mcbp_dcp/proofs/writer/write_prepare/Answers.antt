-- a prepare, part by part
use Rattle.std.proofs.Common.{refl}
use Rattle.mcbp_frame.specs.Spelling.{spelling}
use Rattle.mcbp_dcp.proofs.Puts.{headed, put}
use Rattle.mcbp_dcp.proofs.writer.write_prepare.Goals as goal

pub returns-clause-ok : goal.returns-clause-ok
unfolding spelling
returns-clause-ok c =
    let head = headed _ _ c.request.result _ c.len.result _ c.len-2.result _ (λ r k n. record r { datatype = c.args.change.now.datatype; cas = c.args.change.now.cas; extras = 31; key = k; value = n }) c.in_ok-put_header.ensures.ok c.request.ensures c.len.ensures.value c.len-2.ensures.value in
    let seq = put c.args.out.now.items _ _ _ _ _ head c.extend_reserved.ensures.items c.to_be_bytes.ensures in
    let rev = put c.args.out.now.items _ _ _ _ _ seq c.extend_reserved-2.ensures.items c.to_be_bytes-2.ensures in
    let flags = put c.args.out.now.items _ _ _ _ _ rev c.extend_reserved-3.ensures.items c.to_be_bytes-3.ensures in
    let expiry = put c.args.out.now.items _ _ _ _ _ flags c.extend_reserved-4.ensures.items c.to_be_bytes-4.ensures in
    let lock_time = put c.args.out.now.items _ _ _ _ _ expiry c.extend_reserved-5.ensures.items c.to_be_bytes-5.ensures in
    let level = put c.args.out.now.items _ _ _ _ _ lock_time c.extend_reserved-6.ensures.items refl in
    let key = put c.args.out.now.items _ _ _ _ _ level c.extend_reserved-7.ensures.items c.as_slice.ensures in
    put c.args.out.now.items _ _ _ _ _ key c.extend_reserved-8.ensures.items c.as_slice-2.ensures
