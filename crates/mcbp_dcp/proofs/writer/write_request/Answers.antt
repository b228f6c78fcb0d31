-- a request for a stream, part by part
use Rattle.std.proofs.Common.{refl}
use Rattle.mcbp_frame.specs.Spelling.{spelling}
use Rattle.mcbp_dcp.proofs.Puts.{headed, put}
use Rattle.mcbp_dcp.proofs.writer.write_request.Goals as goal

pub returns-clause-ok : goal.returns-clause-ok
unfolding spelling
returns-clause-ok c =
    let head = headed _ _ c.request.result _ 0 0 0 0 (λ r k n. record r { extras = 48 }) c.in_ok-put_header.ensures.ok c.request.ensures refl refl in
    let flags = put c.args.out.now.items _ _ _ _ _ head c.extend_reserved.ensures.items c.to_be_bytes.ensures in
    let reserved = put c.args.out.now.items _ _ _ _ _ flags c.extend_reserved-2.ensures.items c.to_be_bytes-2.ensures in
    let start = put c.args.out.now.items _ _ _ _ _ reserved c.extend_reserved-3.ensures.items c.to_be_bytes-3.ensures in
    let end = put c.args.out.now.items _ _ _ _ _ start c.extend_reserved-4.ensures.items c.to_be_bytes-4.ensures in
    let uuid = put c.args.out.now.items _ _ _ _ _ end c.extend_reserved-5.ensures.items c.to_be_bytes-5.ensures in
    let ss = put c.args.out.now.items _ _ _ _ _ uuid c.extend_reserved-6.ensures.items c.to_be_bytes-6.ensures in
    put c.args.out.now.items _ _ _ _ _ ss c.extend_reserved-7.ensures.items c.to_be_bytes-7.ensures
