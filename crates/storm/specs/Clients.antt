-- what a storm's clients do
use Rattle.std.specs.Prelude.{◌≡◌, ℕ, ◌==◌, ◌<◌, List, length, map, Result, IfOk, Vec}
use Rattle.std.specs.List.{AllByRecursion, filter}
use Rattle.std.specs.Global.{Global}
use Rattle.std.specs.declared.alloc.AllocError.{AllocError}
use Rattle.vb_types.specs.declared.write.Write.{Write}
use Rattle.vbucket.specs.Stands.{StandsFor}
use Rattle.node_threads.specs.declared.slot.SeatSlot.{SeatSlot}
use Rattle.node_threads.specs.Seats.{Row, rows_of}
use Rattle.storm_model.specs.declared.writes.Aimed.{Aimed}
use Rattle.storm_model.specs.Writes.{all_writes}
use Rattle.storm_seats.specs.Gathering.{AllFrom}
use Rattle.storm_seats.specs.Views.{Wrote}
use Rattle.storm.specs.declared.clients.Client.{Client}
use Rattle.storm.specs.declared.plan.Plan.{Plan}
use Rattle.storm.specs.Rows.{AllTwo, SameTurn, given}

-- those of these writes that are for vBucket v
abbrev pub writes_for : ℕ → List Aimed → List Write
writes_for v aimed = map (λ a. a.write) (filter (λ a. a.vb == v) aimed)

-- each is for one of four vBuckets
abbrev pub AreAimed : List Aimed → Type 0
AreAimed aimed = AllByRecursion (λ a. a.vb < 4) aimed

-- each seat stored those of these writes that are for its vBucket, in their order
abbrev pub HaveWritten : List Aimed → List Row → List Row → Type 0
HaveWritten aimed xs ys = AllTwo (λ v x y. SameTurn x y × Wrote StandsFor (writes_for v aimed) x.view y.view) 0 xs ys

-- so many clients, by rising number from 0, each with a seat of its own of each of these vBuckets
abbrev pub AreClients : ℕ → List Row → List Client → Type 0
AreClients count rows clients = (length clients ≡ count) × AllFrom (λ c client. (client.number ≡ c) × (rows_of client.slots.items ≡ map given rows)) 0 clients

-- each has four seats
abbrev pub HaveFour : List Client → Type 0
HaveFour clients = AllByRecursion (λ client. length client.slots.items ≡ 4) clients

-- what a client hands back: its seats, by which it stored the plan's writes
abbrev pub HasWorked : Plan → ℕ → Client → Result (Vec SeatSlot Global) AllocError → Type 0
HasWorked plan n client done = IfOk done (λ slots. HaveWritten (all_writes plan.seed client.number plan.writes) (rows_of client.slots.items) (rows_of slots.items))
