-- lines of states that are put on streams, and pumps and pulls that wait for the answer to one, to be judged by hand
use Rattle.std.specs.Prelude.{◌≡◌, ℕ, List, [], ◌∷◌, ◌++◌}
use Rattle.script_text.specs.declared.verb.Verb.{Verb}
use Rattle.script_text.specs.declared.verb.Verb.TheVariants as verb
use Rattle.script_text.specs.declared.verb.ClientVerb.TheVariants as client_verb
use Rattle.script_text.specs.declared.verb.LinkVerb.TheVariants as link_verb
use Rattle.vb_events.specs.declared.event.Answer.TheVariants as answer
use Rattle.vb_events.specs.declared.event.Event.{Event}
use Rattle.vb_events.specs.declared.event.Event.TheVariants as event
use Rattle.vb_events.specs.declared.event.StreamName.TheVariants as name
use Rattle.vb_events.specs.declared.event.Why.TheVariants as why
use Rattle.vb_types.specs.declared.role.Role.{Role}
use Rattle.transcript_law.specs.BoundRows.{LawfulHere}
use Rattle.transcript_law.specs.Chronicles.{Chronicle}
use Rattle.transcript_law.specs.Crashes.{Said}
use Rattle.transcript_law.specs.Followers.{both_sent_lines}
use Rattle.transcript_law.specs.Takeovers.{IsPlainFor}
use Rattle.transcript_law.specs.Tellings.{TellsOf}

-- this state is put on the stream of the link l, and on one of the client c of the node n
abbrev pub states_on : ℕ → Role → Event
states_on l said = event.Stated (name.Link l) said

abbrev pub states_to : ℕ → ℕ → Role → Event
states_to n c said = event.Stated (name.Client n c) said

-- a pump puts both changes, and a state behind them
abbrev pub puts_state : Role → Said
puts_state said = (both_sent_lines ++ states_on 1 said ∷ [], answer.Pulled 4 why.Idle)

-- so many frames are put, as these lines tell, and the answer to a state is waited for
abbrev pub waits_for_answer : ℕ → List Event → Said
waits_for_answer n lines = (lines, answer.Pulled n why.WaitState)

-- nine frames are asked for over the link l, and by the client c of the node n
abbrev pub pumps : ℕ → Verb
pumps l = verb.AtLink l (link_verb.Pump 9)

abbrev pub pulls_at : ℕ → ℕ → Verb
pulls_at n c = verb.AtClient n c (client_verb.Pull 9)

-- no answer of this line is lawful that says so, unless it is for a link that was dialed for a takeover
abbrev pub NeverWaits : Verb → Type 0
NeverWaits asked = (chronicle : Chronicle) (n : ℕ) (lines : List Event) → IsPlainFor chronicle asked → LawfulHere chronicle asked (waits_for_answer n lines) → ⊥

-- this line may tell of that line alone
abbrev pub MayTell : Chronicle → Verb → Event → Type 0
MayTell chronicle asked line = TellsOf chronicle asked (line ∷ [])
