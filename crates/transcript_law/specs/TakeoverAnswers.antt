-- what a `pump` is answered where it puts frames of a stream that takes a vBucket over; and all that a group has to say of takeovers
use Rattle.std.specs.Prelude.{◌≡◌, ◌≢◌, ◌⊎◌, ℕ, true, List}
use Rattle.std.specs.List.{list_any}
use Rattle.script_text.specs.declared.verb.ClientVerb.TheVariants as client_verb
use Rattle.script_text.specs.declared.verb.LinkVerb.TheVariants as link_verb
use Rattle.script_text.specs.declared.verb.Verb.{Verb}
use Rattle.script_text.specs.declared.verb.Verb.TheVariants as verb
use Rattle.vb_events.specs.declared.event.Answer.{Answer}
use Rattle.vb_events.specs.declared.event.Answer.TheVariants as answer
use Rattle.vb_events.specs.declared.event.Event.{Event}
use Rattle.vb_events.specs.declared.event.Why.{Why}
use Rattle.vb_events.specs.declared.event.Why.TheVariants as why
use Rattle.transcript_law.specs.Heirs.{HasAnswer, IsHanded, IsOffered, TakesOn}
use Rattle.transcript_law.specs.LinesTold.{Chronicle, Dial, Granted, after_lines}
use Rattle.transcript_law.specs.TakeoverLines.{TakeoverFrom}
use Rattle.transcript_law.specs.TakeoverNotes.{is_state_of, turns_feeder}
use Rattle.transcript_law.specs.Takeovers.{TellsOnly}

-- ---- a state that waits for its answer

-- the stream of the link l, which goes on, waits for the answer to its last state: pending was put, and its vBucket was not given up yet; or active, behind that
pub record Awaits (chronicle : Chronicle) (l : ℕ) (dial : Dial) (g : Granted) : Type 0 where
  pub takes_on : TakesOn chronicle l dial g
  pub stated : IsOffered chronicle l dial ⊎ IsHanded chronicle l dial

-- it does behind these lines, and the answer is not known to have come: the state was put by one of them, or it was not answered before
pub record WaitsForState (chronicle : Chronicle) (l : ℕ) (lines : List Event) : Type 0 where
  pub dial : Dial
  pub stream : Granted
  pub awaits : Awaits (after_lines chronicle lines) l dial stream
  pub unanswered : (list_any (is_state_of l) lines ≡ true) ⊎ (HasAnswer chronicle l → ⊥)

-- a `pump` may wait for a state, and a `pull` waits for none
abbrev pub StateAwaited : Chronicle → Verb → List Event → Type 0
StateAwaited chronicle (verb.AtLink l (link_verb.Pump wanted)) lines = WaitsForState chronicle l lines
StateAwaited chronicle (verb.AtClient n c (client_verb.Pull wanted)) lines = ⊥
StateAwaited chronicle other lines = Unit {0}

-- ---- the other answers

-- behind these lines no stream of the link l waits for a state
abbrev pub NoneAwaits : Chronicle → ℕ → Type 0
NoneAwaits chronicle l = (dial : Dial) (g : Granted) → Awaits chronicle l dial g → ⊥

-- and no stream of it that takes a vBucket over goes on: such a one has always a state to put, or waits for one
abbrev pub NoneTakesOn : Chronicle → ℕ → Type 0
NoneTakesOn chronicle l = (dial : Dial) (g : Granted) → TakesOn chronicle l dial g → ⊥

-- why a `pump` of the link l stopped, behind its lines: what comes first of why it may is said
abbrev pub StopsFor : Chronicle → ℕ → Why → Type 0
StopsFor chronicle l why.WaitSaved = NoneAwaits chronicle l
StopsFor chronicle l why.Disk = NoneAwaits chronicle l
StopsFor chronicle l why.Idle = NoneTakesOn chronicle l
StopsFor chronicle l why.All = Unit {0}
StopsFor chronicle l why.Full = Unit {0}
StopsFor chronicle l why.WaitState = Unit {0}

-- what is to be put comes later: it waits for what is to be saved, or its journal can't be read
abbrev pub ComesLater : Why → Type 0
ComesLater said = (said ≡ why.WaitSaved) ⊎ (said ≡ why.Disk)

-- a vBucket is given up for the frame that is asked for next: that is put, unless it comes later
abbrev pub PutsBehind : Chronicle → ℕ → List Event → ℕ → Why → Type 0
PutsBehind chronicle l lines n said = turns_feeder (chronicle.dial_of l) lines ≡ true → (n ≢ 0) ⊎ ComesLater said

-- so a `pump` is answered
abbrev pub PumpsOn : Chronicle → Verb → List Event → Answer → Type 0
PumpsOn chronicle (verb.AtLink l (link_verb.Pump wanted)) lines (answer.Pulled n said) = StopsFor (after_lines chronicle lines) l said × PutsBehind chronicle l lines n said
PumpsOn chronicle other lines said = Unit {0}

-- ---- all together

-- a group tells of nothing else than its line may, or of a vBucket that is handed over; each line of a takeover's link stands where it may; and a `pump` of one is answered so
pub record HandsOver (chronicle : Chronicle) (asked : Verb) (lines : List Event) (said : Answer) : Type 0 where
  pub tells : TellsOnly chronicle asked lines
  pub each : TakeoverFrom chronicle lines
  pub pumps : PumpsOn chronicle asked lines said
