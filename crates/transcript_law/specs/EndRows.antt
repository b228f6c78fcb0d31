-- links that end, and of which that is not told, and lines over links that go on, to be judged by hand
use Rattle.std.specs.Prelude.{ℕ, false, List, [], ◌∷◌, None}
use Rattle.script_text.specs.declared.verb.LinkVerb.{LinkVerb}
use Rattle.script_text.specs.declared.verb.Verb.{Verb}
use Rattle.script_text.specs.declared.verb.Verb.TheVariants as verb
use Rattle.vb_events.specs.declared.event.Answer.{Answer}
use Rattle.vb_events.specs.declared.event.Answer.TheVariants as answer
use Rattle.vb_events.specs.declared.event.Cause.{Cause}
use Rattle.vb_events.specs.declared.event.Cause.TheVariants as cause
use Rattle.vb_events.specs.declared.event.Event.{Event}
use Rattle.vb_events.specs.declared.event.Event.TheVariants as event
use Rattle.vb_types.specs.declared.role.Role.{Role}
use Rattle.vb_types.specs.declared.role.Role.TheVariants as role
use Rattle.transcript_law.specs.BoundRows.{LawfulHere, one_dialed}

-- where the link 1 was dialed, from the node 0 to the vBucket 0 of the node 1, this line does not tell of these lines alone, however it is answered
abbrev pub NotAlone : Verb → List Event → Type 0
NotAlone asked lines = (said : Answer) → LawfulHere one_dialed asked (lines, said) → ⊥

-- the vBucket v of the node 1 is on the branch 7, and active
abbrev pub rises : ℕ → List Event
rises v = event.Branch 1 v 7 None 0 0 ∷ event.Role 1 v role.Active ∷ []

-- it takes this role
abbrev pub turns : Role → List Event
turns said = event.Role 1 0 said ∷ []

-- a line over the link 1
abbrev pub over_one : LinkVerb → Verb
over_one what = verb.AtLink 1 what

-- it is refused for no cause
abbrev pub IsCarried : LinkVerb → Type 0
IsCarried what = (why : Cause) → LawfulHere one_dialed (over_one what) ([], answer.No why) → ⊥

-- the link l is dialed, from the node 0 to the vBucket v of the node 1
abbrev pub dials : ℕ → ℕ → Verb
dials l v = verb.Link l 0 1 v 0 false

-- another vBucket of its node is dead, and the append of that stops the node
abbrev pub turns_and_stops : List Event
turns_and_stops = event.Role 1 1 role.Dead ∷ event.NodeStopped 1 ∷ []

-- the link l is dialed for the vBucket 0 of another node
abbrev pub dials_elsewhere : ℕ → Verb
dials_elsewhere l = verb.Link l 0 2 0 0 false

-- a cause of which no disk knows
abbrev pub IsNoDisk : Cause → Type 0
IsNoDisk cause.Closed = ⊥
IsNoDisk cause.Disk = ⊥
IsNoDisk cause.Stopped = ⊥
IsNoDisk other = Unit {0}
