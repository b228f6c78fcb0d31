-- by computing
use Rattle.std.proofs.Common.{refl}
use Rattle.vb_journal.specs.Payloads.{record_in, log_in, entries_in, batch_in, changes_in, items_in, item_in, act_in, doc_in, doc_with}
use Rattle.vb_journal.proofs.laws.batches_in_numbers.Goals as goal

pub returns-clause-count : goal.returns-clause-count
unfolding record_in log_in entries_in batch_in changes_in items_in item_in act_in doc_in doc_with
returns-clause-count c = (refl, refl, refl, refl)

pub returns-clause-rise : goal.returns-clause-rise
unfolding record_in log_in entries_in batch_in changes_in items_in item_in act_in doc_in doc_with
returns-clause-rise c = refl

pub returns-clause-order : goal.returns-clause-order
unfolding record_in log_in entries_in batch_in changes_in items_in item_in act_in doc_in doc_with
returns-clause-order c = (refl, refl)

pub returns-clause-key : goal.returns-clause-key
unfolding record_in log_in entries_in batch_in changes_in items_in item_in act_in doc_in doc_with
returns-clause-key c = (refl, refl, refl)

pub returns-clause-majority : goal.returns-clause-majority
unfolding record_in log_in entries_in batch_in changes_in items_in item_in act_in doc_in doc_with
returns-clause-majority c = refl

pub returns-clause-persist_active : goal.returns-clause-persist_active
unfolding record_in log_in entries_in batch_in changes_in items_in item_in act_in doc_in doc_with
returns-clause-persist_active c = refl

pub returns-clause-persist : goal.returns-clause-persist
unfolding record_in log_in entries_in batch_in changes_in items_in item_in act_in doc_in doc_with
returns-clause-persist c = refl

pub returns-clause-level : goal.returns-clause-level
unfolding record_in log_in entries_in batch_in changes_in items_in item_in act_in doc_in doc_with
returns-clause-level c = (refl, refl)

pub returns-clause-flag : goal.returns-clause-flag
unfolding record_in log_in entries_in batch_in changes_in items_in item_in act_in doc_in doc_with
returns-clause-flag c = (refl, refl)

pub returns-clause-act : goal.returns-clause-act
unfolding record_in log_in entries_in batch_in changes_in items_in item_in act_in doc_in doc_with
returns-clause-act c = (refl, refl)

pub returns-clause-value : goal.returns-clause-value
unfolding record_in log_in entries_in batch_in changes_in items_in item_in act_in doc_in doc_with
returns-clause-value c = (refl, refl)
