use Rattle.std.proofs.Common.{◌≡◌, map}
use Rattle.node_threads.specs.Seats.{rows_of}
use Rattle.storm.specs.Clients.{AreClients}
use Rattle.storm.specs.Rows.{gives}
use Rattle.storm.proofs.clients.clients.Given as goal

abbrev pub invariant-loop-number : goal.invariant-loop-number
invariant-loop-number l = (rows_of l.slots.items ≡ map (gives l.number) (rows_of l.fn.slots.items)) × AreClients l.number (rows_of l.fn.slots.items) l.clients.items
