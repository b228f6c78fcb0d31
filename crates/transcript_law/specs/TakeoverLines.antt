-- lines of a stream that takes a vBucket over, and of its link, one after another
use Rattle.std.specs.Prelude.{◌≡◌, ◌≢◌, ◌⊎◌, ◌≤◌, ℕ, ◌^◌, ◌-◌, true, List, [], ◌∷◌, Some}
use Rattle.vb_events.specs.declared.event.EndReason.{EndReason}
use Rattle.vb_events.specs.declared.event.EndReason.TheVariants as reason
use Rattle.vb_events.specs.declared.event.Event.{Event}
use Rattle.vb_events.specs.declared.event.Event.TheVariants as event
use Rattle.vb_events.specs.declared.event.StreamName.TheVariants as name
use Rattle.vb_types.specs.declared.role.Role.TheVariants.{Active, Dead}
use Rattle.mcbp_frame.specs.declared.frame.TheConstants.{HEADER_LEN}
use Rattle.transcript_law.specs.Heirs.{IsHanded, IsKept, IsSteady, IsYielded}
use Rattle.transcript_law.specs.LinesTold.{Chronicle, Dial, Granted, Put, after_line}

-- the reasons of a stream's end: all was sent, which is that its vBucket was handed over; and the vBucket got another role
abbrev pub HANDED_OVER : ℕ
HANDED_OVER = 0

abbrev pub ROLE_CHANGED : ℕ
ROLE_CHANGED = 2

-- the link l was dialed so for a takeover
abbrev pub IsTakeover : Chronicle → ℕ → Dial → Type 0
IsTakeover chronicle l dial = (chronicle.dial_of l ≡ Some dial) × ((chronicle.takeover_of l).dialed ≡ true)

-- the answer to the state active can have come, which was put last: the consumer told since that its vBucket took over, which is active, or was given up again by now, and took all that was put, and bytes enough for an answer were moved up since
pub record MayBeOwned (chronicle : Chronicle) (l : ℕ) (dial : Dial) (g : Granted) : Type 0 where
  pub has : (chronicle.role_at dial.node dial.vb ≡ Some (Some Active)) ⊎ (chronicle.role_at dial.node dial.vb ≡ Some (Some Dead))
  pub told : (chronicle.takeover_of l).obeyed ≢ Put
  pub marks : g.marks ≡ []
  pub items : g.coming ≡ []
  pub moved : HEADER_LEN ≤ (chronicle.takeover_of l).moved

-- the vBucket of the link was handed over: it was given up, its consumer's took over, and that was answered
pub record IsTakenOver (chronicle : Chronicle) (l : ℕ) (dial : Dial) (g : Granted) : Type 0 where
  pub handed : IsHanded chronicle l dial
  pub answered : MayBeOwned chronicle l dial g

-- a marker stands before pending is stated, or behind that once the vBucket was given up
abbrev pub IsMarkedIn : Chronicle → ℕ → Dial → Type 0
IsMarkedIn chronicle l dial = IsKept chronicle l dial ⊎ IsYielded chronicle l dial

-- the stream ends with 0 exactly where its vBucket was handed over, and with 2 exactly where that got another role
abbrev pub EndsHanded : Chronicle → ℕ → Dial → Granted → ℕ → Type 0
EndsHanded chronicle l dial g why = ((why ≡ HANDED_OVER) × IsTakenOver chronicle l dial g) ⊎ ((why ≡ ROLE_CHANGED) × ((chronicle.takeover_of l).turned ≡ true))

-- the end of its stream was put, and was that it was handed over, or not
pub record HasEnded (chronicle : Chronicle) (l : ℕ) (dial : Dial) : Type 0 where
  pub stream : Granted
  pub granted : chronicle.stream_of (name.Link l) dial.vb ≡ Some stream
  pub over : stream.over ≡ true

-- the link is done where its consumer took that end, and over for a change of role where it took the other; it ends otherwise at any time
abbrev pub EndsLinked : Chronicle → ℕ → Dial → EndReason → Type 0
EndsLinked chronicle l dial reason.Done = HasEnded chronicle l dial × IsSteady chronicle l
EndsLinked chronicle l dial reason.State = HasEnded chronicle l dial × ((chronicle.takeover_of l).turned ≡ true)
EndsLinked chronicle l dial other = Unit {0}

-- a line, where it is of a link that was dialed for a takeover
abbrev pub TakeoverLine : Chronicle → Event → Type 0
TakeoverLine chronicle (event.Asked (name.Link l) n v ask high log said) = (dial : Dial) → IsTakeover chronicle l dial → (ask.flags ≡ 1) × (ask.end ≡ 2 ^ 64 - 1)
TakeoverLine chronicle (event.Marked (name.Link l) start end flags) = (dial : Dial) → IsTakeover chronicle l dial → IsMarkedIn chronicle l dial
TakeoverLine chronicle (event.Finished (name.Link l) why) = (dial : Dial) (g : Granted) → IsTakeover chronicle l dial → chronicle.stream_of (name.Link l) dial.vb ≡ Some g → EndsHanded chronicle l dial g why
TakeoverLine chronicle (event.Ended l why) = (dial : Dial) → IsTakeover chronicle l dial → EndsLinked chronicle l dial why
TakeoverLine chronicle other = Unit {0}

-- the lines of a group
abbrev pub TakeoverFrom : Chronicle → List Event → Type 0
TakeoverFrom chronicle [] = Unit {0}
TakeoverFrom chronicle (line ∷ behind) = TakeoverLine chronicle line × TakeoverFrom (after_line chronicle line) behind
