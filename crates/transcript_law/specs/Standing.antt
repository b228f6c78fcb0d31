-- which causes say where a line stands that is refused, and what such a line tells
use Rattle.std.specs.Prelude.{◌≡◌, List, []}
use Rattle.vb_events.specs.declared.event.Answer.{Answer}
use Rattle.vb_events.specs.declared.event.Answer.TheVariants as answer
use Rattle.vb_events.specs.declared.event.Cause.{Cause}
use Rattle.vb_events.specs.declared.event.Cause.TheVariants as cause
use Rattle.vb_events.specs.declared.event.Event.{Event}

-- a line that is refused for this cause was never begun
abbrev pub IsStanding : Cause → Type 0
IsStanding cause.UnknownNode = Unit {0}
IsStanding cause.NodeExists = Unit {0}
IsStanding cause.UnknownVb = Unit {0}
IsStanding cause.VbExists = Unit {0}
IsStanding cause.Limit = Unit {0}
IsStanding cause.UuidZero = Unit {0}
IsStanding cause.UuidUsed = Unit {0}
IsStanding cause.WrongRole = Unit {0}
IsStanding cause.ChainBad = Unit {0}
IsStanding cause.LinkOpen = Unit {0}
IsStanding cause.LinkClosed = Unit {0}
IsStanding cause.BatchOut = Unit {0}
IsStanding cause.NothingTaken = Unit {0}
IsStanding cause.NodeUp = Unit {0}
IsStanding cause.NodeDown = Unit {0}
IsStanding cause.IdsShort = ⊥
IsStanding cause.Stopped = ⊥
IsStanding cause.Closed = ⊥
IsStanding cause.Disk = ⊥

-- one that is tells of nothing
abbrev pub TellsIfBegun : List Event → Answer → Type 0
TellsIfBegun lines said = (why : Cause) → said ≡ answer.No why → IsStanding why → lines ≡ []
