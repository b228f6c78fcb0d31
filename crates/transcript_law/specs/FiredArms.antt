-- scripts of arms that fire or do not, and lines behind rollbacks that links ask for, and transcripts of them to be judged by hand
use Rattle.std.specs.Prelude.{false, true, List, [], ◌∷◌, ◌++◌, Some}
use Rattle.script_text.specs.declared.verb.Verb.{Verb}
use Rattle.script_text.specs.declared.verb.Verb.TheVariants as verb
use Rattle.script_text.specs.declared.verb.VbVerb.TheVariants as vb_verb
use Rattle.script_text.specs.declared.verb.NodeVerb.TheVariants as node_verb
use Rattle.vb_disk.specs.declared.made.Outcome.TheVariants.{Old}
use Rattle.vb_events.specs.declared.event.Answer.TheVariants as answer
use Rattle.vb_events.specs.declared.event.Cause.TheVariants as cause
use Rattle.vb_events.specs.declared.event.Event.{Event}
use Rattle.vb_events.specs.declared.event.Event.TheVariants as event
use Rattle.transcript_law.specs.{Chronicles.{Chronicle, after_dial, with_point}, ClosedJournals.{sent_back_for}, Lawfulness.{LawfulGroups}}
use Rattle.transcript_law.specs.Crashes.{Said, crashed, numbered, ok, save_under, save_under_groups, groups_from_number}

-- the vBucket is sealed while a call of its node is to fail
abbrev pub seal_under : List Verb
seal_under = verb.AtNode 0 (node_verb.Fail 7) ∷ verb.AtVb 0 0 vb_verb.Seal ∷ []

abbrev pub seal_under_groups : Said → List Said
seal_under_groups sealed = ok [] ∷ sealed ∷ []

-- the change is written down while a call of that node and one of another are to fail
abbrev pub two_armed : List Verb
two_armed = verb.Node 1 ∷ verb.AtNode 1 (node_verb.Fail 1) ∷ save_under (verb.AtNode 0 (node_verb.Fail 1))

abbrev pub two_armed_groups : Said → List Said
two_armed_groups said = ok [] ∷ ok [] ∷ save_under_groups said

-- the node crashes, and starts under an arm
abbrev pub start_under : Verb → List Verb
start_under arm = verb.AtNode 0 (node_verb.Crash Old) ∷ arm ∷ verb.AtNode 0 (node_verb.Start (7 ∷ [])) ∷ []

abbrev pub start_under_groups : Said → List Said
start_under_groups started = crashed ∷ ok [] ∷ started ∷ []

-- the same with no id, where one is needed
abbrev pub start_short : Verb → List Verb
start_short arm = verb.AtNode 0 (node_verb.Crash Old) ∷ arm ∷ verb.AtNode 0 (node_verb.Start []) ∷ []

-- the node stops while it starts, behind these lines
abbrev pub stopped_starting : List Event → Said
stopped_starting lines = (lines ++ event.NodeStopped 0 ∷ [], answer.No cause.Stopped)

-- what was read when the request of the link 1 was sent back, and that of the link 2, which was dialed for the vBucket 1 of the same node, while each connection of a client was open
abbrev pub both_sent_back : Chronicle
both_sent_back = record (with_point (after_dial (sent_back_for false) 2 0 1 1 answer.Ok) 2 (Some 1)) { conn_at = λ n c. true }

-- the vBucket 1 goes back to 0
abbrev pub other_back : Event
other_back = event.Rolled 1 1 1 0

-- this line comes next, and that is told of it
abbrev pub LawfulNext : Verb → Said → Type 0
LawfulNext line told = LawfulGroups both_sent_back (numbered 1 (line ∷ [])) (groups_from_number 1 (told ∷ []))
