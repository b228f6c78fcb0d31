use Rattle.std.proofs.Common.{refl}
use Rattle.mcbp_kv.proofs.Answers.{written}
use Rattle.mcbp_kv.specs.Replies.{reply_with}
use Rattle.mcbp_kv.proofs.reply.write_answer.Goals as goal

pub returns-clause-ok : goal.returns-clause-ok
returns-clause-ok c = written (reply_with c.args.head.now c.args.extras.now c.args.value.now) _ _ _ _ _ _ _ _ c.in_ok-reserve.ensures.items c.header_of.ensures c.extend_reserved.ensures.items refl c.extend_reserved-2.ensures.items refl c.extend_reserved-3.ensures.items
