use Rattle.mcbp_frame.proofs.Parts.{part_is}
use Rattle.mcbp_frame.proofs.frame.part.Goals as goal

pub returns : goal.returns
returns c = part_is c.args.bytes.now c.args.body.now c.in_ok-part.part c.args.from c.args.to c.requires.body c.requires.from c.requires.order c.requires.to c.in_ok-part.ensures.ok
