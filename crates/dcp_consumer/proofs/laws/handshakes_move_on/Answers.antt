use Rattle.dcp_consumer.proofs.Moves.{next_moves, is_due, granted_so, granted_other}
use Rattle.dcp_consumer.proofs.laws.handshakes_move_on.Goals as goal

pub returns : goal.returns
returns c = record { next = next_moves; due = is_due; granted = granted_so; others = granted_other }
