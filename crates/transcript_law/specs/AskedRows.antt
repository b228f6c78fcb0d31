-- lines that do not tell what was asked for, to be judged by hand
use Rattle.std.specs.Prelude.{ℕ, List, [], ◌∷◌, None}
use Rattle.script_text.specs.declared.verb.Verb.{Verb}
use Rattle.script_text.specs.declared.verb.Verb.TheVariants as verb
use Rattle.script_text.specs.declared.verb.VbVerb.{VbVerb}
use Rattle.script_text.specs.declared.verb.LinkVerb.TheVariants as link_verb
use Rattle.vb_events.specs.declared.event.Answer.TheVariants as answer
use Rattle.vb_events.specs.declared.event.Cause.TheVariants as cause
use Rattle.vb_events.specs.declared.event.Event.{Event}
use Rattle.vb_events.specs.declared.event.Event.TheVariants as event
use Rattle.vb_events.specs.declared.event.ItemAct.TheVariants as item_act
use Rattle.vb_events.specs.declared.event.StreamName.TheVariants as name
use Rattle.vb_types.specs.declared.role.Role.{Role}
use Rattle.vb_types.specs.declared.role.Role.TheVariants as role
use Rattle.vb_types.specs.declared.stream.StreamAsk.{StreamAsk}
use Rattle.vb_types.specs.declared.stream.AskAnswer.TheVariants as ask_answer
use Rattle.transcript_law.specs.BoundRows.{LawfulHere}
use Rattle.transcript_law.specs.Chronicles.{Chronicle, after_lines, empty_chronicle}
use Rattle.transcript_law.specs.Followers.{log_of, next_change}
use Rattle.transcript_law.specs.TellingRows.{NotFirst}
use Rattle.transcript_law.specs.Transcripts.{active_vb_lines}

-- whatever was read before, these lines are not those of a line that is carried out
abbrev pub NotDone : Verb → List Event → Type 0
NotDone asked lines = (chronicle : Chronicle) → LawfulHere chronicle asked (lines, answer.Ok) → ⊥

-- nor of one that a disk fails
abbrev pub NotFailed : Verb → List Event → Type 0
NotFailed asked lines = (chronicle : Chronicle) → LawfulHere chronicle asked (lines, answer.No cause.Disk) → ⊥

-- nor of one that is refused, whatever the cause
abbrev pub NotRefused : Verb → List Event → Type 0
NotRefused asked lines = (chronicle : Chronicle) (why : _) → LawfulHere chronicle asked (lines, answer.No why) → ⊥

-- a line for the vBucket 0 of the node 0
abbrev pub here : VbVerb → Verb
here what = verb.AtVb 0 0 what

-- what was read when it is active on the branch 5, with nothing
abbrev pub one_active : Chronicle
one_active = after_lines empty_chronicle (active_vb_lines 0 5)

-- the vBucket v of the node n is shown, active and with nothing
abbrev pub shown_at : ℕ → ℕ → Event
shown_at n v = event.Shown n v role.Active 5 0 0 0 0 0

-- it is on this new branch
abbrev pub made_at : ℕ → ℕ → ℕ → Event
made_at n v uuid = event.Branch n v uuid None 0 0

-- it has this role
abbrev pub in_role : ℕ → ℕ → Role → Event
in_role n v said = event.Role n v said

-- lines for the link 1
abbrev pub up_one : Verb
up_one = verb.AtLink 1 (link_verb.Up 9)

abbrev pub down_one : Verb
down_one = verb.AtLink 1 (link_verb.Down 9)

abbrev pub pump_one : Verb
pump_one = verb.AtLink 1 (link_verb.Pump 9)

-- a marker of the link l
abbrev pub marks_of : ℕ → Event
marks_of l = event.Marked (name.Link l) 0 2 1

-- its end
abbrev pub finishes : ℕ → Event
finishes l = event.Finished (name.Link l) 2

-- the vBucket v of the node n takes its change
abbrev pub gets_by : ℕ → ℕ → ℕ → Event
gets_by l n v = event.Got n v (name.Link l) next_change

-- and its marker
abbrev pub ranges_at : ℕ → ℕ → Event
ranges_at n v = event.Ranged n v 0 2

-- a request of the link l is refused
abbrev pub asks_of : ℕ → StreamAsk → Event
asks_of l ask = event.Asked (name.Link l) 0 0 ask 0 [] (ask_answer.Refuse 2)

-- an acknowledgement of the node 1 on it is counted
abbrev pub counts_of : ℕ → Event
counts_of l = event.Counted (name.Link l) 0 0 1 2

-- where the link 1 was dialed for the vBucket 0 of the node 1, its bytes do not tell of this first, however they are answered
abbrev pub NotTaken : Event → Type 0
NotTaken wrong = NotFirst down_one wrong

-- an item of the link l
abbrev pub item_of : ℕ → Event
item_of l = event.Item (name.Link l) 2 item_act.Set (9 ∷ [])

-- the vBucket v of the node n takes a log over
abbrev pub adopts_by : ℕ → ℕ → Event
adopts_by n v = event.Adopted n v (log_of 5)

-- a call of the node 0 failed
abbrev pub fails_here : Event
fails_here = event.CallFailed 0

-- the log of a vBucket that is on the branch 5
abbrev pub logged_here : Event
logged_here = event.Logged 0 0 (log_of 5)

-- the vBucket v of the node n acknowledges on the link 1
abbrev pub acks_at : ℕ → ℕ → Event
acks_at n v = event.Acknowledged (name.Link 1) n v 2 0
