use Rattle.node_threads.specs.Seats.{has_row, mine_of, seat_made, seat_step}
use Rattle.node_threads.proofs.Lists.{made_quietly, told}
use Rattle.node_told.proofs.Conns.{answers, drops, hearing, outcomes, pieces, yields}
use Rattle.node_told.proofs.Disks.{dials, flushes, makes, operators, pulls}
use Rattle.node_told.proofs.Settles.{dues, settles}
use Rattle.node_told.proofs.laws.nodes_over_seats_are_told.Goals as goal

pub returns-clause-pieces : goal.returns-clause-pieces
returns-clause-pieces g c = pieces seat_step mine_of told

pub returns-clause-hearing : goal.returns-clause-hearing
returns-clause-hearing g c = hearing mine_of

pub returns-clause-answers : goal.returns-clause-answers
returns-clause-answers g c = answers seat_step mine_of told

pub returns-clause-outcomes : goal.returns-clause-outcomes
returns-clause-outcomes g c = outcomes seat_step mine_of told

pub returns-clause-pulls : goal.returns-clause-pulls
returns-clause-pulls g c = pulls seat_step g.J.Journals.asks mine_of told

pub returns-clause-yields : goal.returns-clause-yields
returns-clause-yields g c = yields seat_step mine_of told

pub returns-clause-drops : goal.returns-clause-drops
returns-clause-drops g c = drops seat_step mine_of told

pub returns-clause-dials : goal.returns-clause-dials
returns-clause-dials g c = dials seat_step g.J.Journals.asks mine_of told

pub returns-clause-operators : goal.returns-clause-operators
returns-clause-operators g c = operators seat_step g.J.Journals.asks mine_of told

pub returns-clause-flushes : goal.returns-clause-flushes
returns-clause-flushes g c = flushes seat_step g.J.Journals.asks mine_of told has_row

pub returns-clause-makes : goal.returns-clause-makes
returns-clause-makes g c = makes seat_made g.J.Journals.asks mine_of made_quietly

pub returns-clause-settles : goal.returns-clause-settles
returns-clause-settles g c = settles seat_step mine_of told

pub returns-clause-dues : goal.returns-clause-dues
returns-clause-dues g c = dues seat_step mine_of told
