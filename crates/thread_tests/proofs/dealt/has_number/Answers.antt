use Rattle.std.proofs.Common.{◌∙◌, ap}
use Rattle.std.specs.Prelude.{is_some}
use Rattle.node_threads.proofs.Lists.{has_at}
use Rattle.thread_tests.proofs.dealt.has_number.Goals as goal

pub returns : goal.returns
returns c = c.is_some.ensures ∙ (ap is_some c.place_of.ensures ∙ has_at c.args.slots.now c.args.v)
