use Rattle.std.proofs.Common.{[], refl}
use Rattle.mcbp_kv.proofs.Answers.{written}
use Rattle.mcbp_kv.specs.Replies.{reply_with}
use Rattle.mcbp_kv.proofs.reply.listed.Goals as goal

pub returns : goal.returns
returns c =
    written (reply_with c.args.head.now c.args.extras.now c.args.value.now) [] _ _ _ _ _ _ _ c.in_ok-out.ensures.items c.header_of.ensures
    c.in_ok-extend_from_slice.ensures.items refl c.in_ok-extend_from_slice-2.ensures.items refl c.in_ok-extend_from_slice-3.ensures.items
