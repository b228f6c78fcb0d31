use Rattle.storm.proofs.Tail.{new_quiet}
use Rattle.storm.proofs.flushing.journal.Goals as goal

pub returns : goal.returns
returns c = new_quiet c.args.v c.new-journals.result c.add.new.self c.in_ok-new.field-0 c.new-journals.ensures c.in_ok-new.ensures c.in_ok-add.ensures.ok
