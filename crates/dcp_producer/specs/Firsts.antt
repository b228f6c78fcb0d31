-- how the snapshots of a stream are sent: its first one starts where its request means
use Rattle.std.specs.Prelude.{ℕ, nat_lt, if◌then◌else◌, List, map, Option, Some, None}
use Rattle.branch_model.specs.Requests.{effective_ss}
use Rattle.vb_types.specs.Histories.{plain}
use Rattle.vb_types.specs.declared.change.Change.{Change}
use Rattle.vb_types.specs.declared.stream.Snapshot.{Snapshot}
use Rattle.vb_types.specs.declared.stream.StreamAsk.{StreamAsk}
use Rattle.dcp_producer.specs.declared.first.First.{First}
use Rattle.dcp_producer.specs.Producers.{PlainStream}

-- where the first snapshot of a request starts, and whether its commits are sent as sets and removals: where that is below the request's start
abbrev pub first_of : StreamAsk → First
first_of ask = record { start = effective_ss ask.start ask.ss ask.se; as_sets = nat_lt (effective_ss ask.start ask.ss ask.se) ask.start }

-- a marker's START, by the END of the last marker that was sent, if one was
abbrev pub start_sent : Option ℕ → First → ℕ → ℕ
start_sent None first start = first.start
start_sent (Some end) first start = start

-- the items behind it
abbrev pub items_sent : Option ℕ → First → List Change → List Change
items_sent None first items = if first.as_sets then map plain items else items
items_sent (Some end) first items = items

-- a snapshot that its vBucket gave, as a stream sends it
abbrev pub as_sent : PlainStream → Snapshot → Snapshot
as_sent stream snapshot = record { start = start_sent stream.marked stream.first snapshot.start; end = snapshot.end; disk = snapshot.disk; items = items_sent stream.marked stream.first snapshot.items }
