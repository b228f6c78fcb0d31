-- by computing
use Rattle.std.proofs.Common.{refl}
use Rattle.vb_journal.specs.Payloads.{record_in, state_in, log_in, entries_in, batch_in}
use Rattle.vb_journal.proofs.laws.states_in_numbers.Goals as goal

pub returns-clause-active : goal.returns-clause-active
unfolding record_in state_in log_in entries_in batch_in
returns-clause-active c = refl

pub returns-clause-replica : goal.returns-clause-replica
unfolding record_in state_in log_in entries_in batch_in
returns-clause-replica c = refl

pub returns-clause-dead : goal.returns-clause-dead
unfolding record_in state_in log_in entries_in batch_in
returns-clause-dead c = refl

pub returns-clause-role : goal.returns-clause-role
unfolding record_in state_in log_in entries_in batch_in
returns-clause-role c = (refl, refl, refl)

pub returns-clause-version : goal.returns-clause-version
unfolding record_in state_in log_in entries_in batch_in
returns-clause-version c = (refl, refl)

pub returns-clause-kind : goal.returns-clause-kind
unfolding record_in state_in log_in entries_in batch_in
returns-clause-kind c = (refl, refl)

pub returns-clause-longest : goal.returns-clause-longest
unfolding record_in state_in log_in entries_in batch_in
returns-clause-longest c = refl

pub returns-clause-log : goal.returns-clause-log
unfolding record_in state_in log_in entries_in batch_in
returns-clause-log c = refl

pub returns-clause-cut : goal.returns-clause-cut
unfolding record_in state_in log_in entries_in batch_in
returns-clause-cut c = (refl, refl, refl, refl, refl, refl, refl)
