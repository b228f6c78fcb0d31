-- a header, part by part
use Rattle.std.proofs.Common.{◌∷◌, [], refl, ap}
use Rattle.mcbp_dcp.proofs.Puts.{first, put}
use Rattle.mcbp_dcp.proofs.writer.put_header.Goals as goal

pub returns-clause-ok : goal.returns-clause-ok
returns-clause-ok c =
    let magic = first _ _ _ _ _ c.reserve.ensures.items c.extend_reserved.ensures.items (ap (λ n. c.args.h.magic ∷ n ∷ []) c.number.ensures) in
    let key = put c.args.out.now.items _ _ _ _ _ magic c.extend_reserved-2.ensures.items c.to_be_bytes.ensures in
    let extras = put c.args.out.now.items _ _ _ _ _ key c.extend_reserved-3.ensures.items refl in
    let vb_or_status = put c.args.out.now.items _ _ _ _ _ extras c.extend_reserved-4.ensures.items c.to_be_bytes-2.ensures in
    let body = put c.args.out.now.items _ _ _ _ _ vb_or_status c.extend_reserved-5.ensures.items c.to_be_bytes-3.ensures in
    let opaque = put c.args.out.now.items _ _ _ _ _ body c.extend_reserved-6.ensures.items c.to_be_bytes-4.ensures in
    put c.args.out.now.items _ _ _ _ _ opaque c.extend_reserved-7.ensures.items c.to_be_bytes-5.ensures
