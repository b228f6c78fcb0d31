use Rattle.std.proofs.Common.{sym}
use Rattle.vbucket.proofs.Items.{last_some}
use Rattle.vbucket.proofs.streams.end_seq.Goals as goal

pub returns-in-Some : goal.returns-in-Some
returns-in-Some c = sym (last_some c.args.place c.args.items.now c.in-Some.item.now (sym c.in-Some.ensures.value))
