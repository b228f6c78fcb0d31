-- by computing
use Rattle.std.proofs.Common.{refl}
use Rattle.vb_journal.specs.Payloads.{payload_of, log_bytes, batch_bytes, item_bytes, act_bytes, doc_bytes, doc_head, record_in, state_in, log_in, entries_in, batch_in, changes_in, items_in, item_in, act_in, doc_in, doc_with}
use Rattle.vb_journal.proofs.laws.payloads_in_numbers.Goals as goal

pub returns-clause-state : goal.returns-clause-state
unfolding payload_of log_bytes batch_bytes item_bytes act_bytes doc_bytes doc_head record_in state_in log_in entries_in batch_in changes_in items_in item_in act_in doc_in doc_with
returns-clause-state c = (refl, refl)

pub returns-clause-rows : goal.returns-clause-rows
unfolding payload_of log_bytes batch_bytes item_bytes act_bytes doc_bytes doc_head record_in state_in log_in entries_in batch_in changes_in items_in item_in act_in doc_in doc_with
returns-clause-rows c = (refl, refl)

pub returns-clause-roll : goal.returns-clause-roll
unfolding payload_of log_bytes batch_bytes item_bytes act_bytes doc_bytes doc_head record_in state_in log_in entries_in batch_in changes_in items_in item_in act_in doc_in doc_with
returns-clause-roll c = (refl, refl)
