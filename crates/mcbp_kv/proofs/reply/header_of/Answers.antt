use Rattle.std.proofs.Common.{◌≡◌, ◌+◌, [], ◌∷◌, ◌∙◌, ap, refl, length, arith}
use Rattle.std.specs.Int.{w16, w32, to_be_bytes}
use Rattle.mcbp_frame.proofs.Headers.{header_is}
use Rattle.mcbp_frame.specs.Frames.{body_size}
use Rattle.mcbp_kv.specs.Replies.{reply_frame, reply_with}
use Rattle.mcbp_kv.proofs.reply.header_of.Goals as goal

pub returns : goal.returns
returns c =
    let frame = reply_frame (reply_with c.args.h.now c.args.extras.now c.args.value.now) in
    let size : length c.args.extras.now + length c.args.value.now ≡ body_size frame = omega arith in
    header_is frame (length c.args.extras.now) (0 ∷ 0 ∷ []) c.to_be_bytes.result c.to_be_bytes-2.result c.to_be_bytes-3.result c.to_be_bytes-4.result
    refl (λ _. 0 ∷ 0 ∷ []) (c.to_be_bytes.ensures ∙ ap (to_be_bytes w16) c.code.ensures) (c.to_be_bytes-2.ensures ∙ ap (to_be_bytes w32) size)
    c.to_be_bytes-3.ensures c.to_be_bytes-4.ensures
