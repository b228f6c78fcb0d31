use Rattle.std.specs.Prelude.{max}
use Rattle.std.proofs.lemmas.List.{get_or-set_same, get_or-set_other}
use Rattle.durability.specs.Outstanding.{acked}
use Rattle.durability.proofs.Counts.{ack_again, none_acked}
use Rattle.durability.proofs.laws.acknowledgements_count_once.Goals as goal

pub returns-clause-kept : goal.returns-clause-kept
returns-clause-kept c = λ acks m q l. get_or-set_same acks m (max (acked acks m) q) 0 l

pub returns-clause-others : goal.returns-clause-others
returns-clause-others c = λ acks m n q h. get_or-set_other acks m n (max (acked acks m) q) 0 h

pub returns-clause-again : goal.returns-clause-again
returns-clause-again c = ack_again

pub returns-clause-none : goal.returns-clause-none
returns-clause-none c = λ m. none_acked 256 m
