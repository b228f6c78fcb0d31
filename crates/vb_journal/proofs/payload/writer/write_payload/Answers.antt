use Rattle.std.proofs.Common.{length, subst, sym, ◌≤◌}
use Rattle.vb_journal.proofs.Writable.{state_log, rows_log, rows_count}
use Rattle.vb_journal.proofs.payload.writer.write_payload.Goals as goal

pub put_log-requires : goal.put_log-requires
put_log-requires c = subst (λ log. length log ≤ 25) (sym c.as_slice.ensures) (state_log c.args.noted.now c.in-State.role c.in-State.log c.in-State.is c.requires)

pub put_batch-requires-clause-log : goal.put_batch-requires-clause-log
put_batch-requires-clause-log c = rows_log c.args.noted.now c.in-Rows.batch c.in-Rows.is c.requires

pub put_batch-requires-clause-items : goal.put_batch-requires-clause-items
put_batch-requires-clause-items c = rows_count c.args.noted.now c.in-Rows.batch c.in-Rows.is c.requires
