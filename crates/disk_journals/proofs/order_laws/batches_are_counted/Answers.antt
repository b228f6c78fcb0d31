use Rattle.std.proofs.Common.{ap}
use Rattle.vb_calls.specs.declared.journals.Flushed.TheVariants.{Took}
use Rattle.disk_journals.proofs.order_laws.batches_are_counted.Goals as goal

pub returns-clause-many : goal.returns-clause-many
returns-clause-many c = λ b e. ap (λ k. Took b.position.ss b.position.se b.position.at k) e

pub returns-clause-more : goal.returns-clause-more
returns-clause-more c = λ b e. ap (λ k. Took b.position.ss b.position.se b.position.at k) e

pub returns-clause-each : goal.returns-clause-each
returns-clause-each c = λ b n e. ap (λ k. Took b.position.ss b.position.se b.position.at k) e
