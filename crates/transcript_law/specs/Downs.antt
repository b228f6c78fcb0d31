-- scripts of lines for a node that is down, and over a link that ended with its node, and transcripts of them to be judged by hand
use Rattle.std.specs.Prelude.{ℕ, List, [], ◌∷◌}
use Rattle.script_text.specs.declared.verb.ScriptLine.{ScriptLine}
use Rattle.script_text.specs.declared.verb.Verb.{Verb}
use Rattle.script_text.specs.declared.verb.Verb.TheVariants as verb
use Rattle.script_text.specs.declared.verb.NodeVerb.TheVariants as node_verb
use Rattle.vb_disk.specs.declared.made.Outcome.TheVariants.{Old}
use Rattle.vb_events.specs.declared.event.Answer.TheVariants as answer
use Rattle.vb_events.specs.declared.event.Cause.{Cause}
use Rattle.vb_events.specs.declared.event.EndReason.TheVariants as reason
use Rattle.vb_events.specs.declared.event.Event.TheVariants as event
use Rattle.vb_events.specs.declared.event.Group.{Group}
use Rattle.transcript_law.specs.Chronicles.{Chronicle, after_crash, after_lines}
use Rattle.transcript_law.specs.Crashes.{Said, crashed, numbered, ok, groups_from_number}
use Rattle.transcript_law.specs.Followers.{granted_inside, marker_line}

-- a line is refused for this cause, and tells of nothing
abbrev pub refused : Cause → Said
refused why = ([], answer.No why)

-- the node crashes, and then this line comes
abbrev pub crash_and : Verb → List Verb
crash_and next = verb.AtNode 0 (node_verb.Crash Old) ∷ next ∷ []

abbrev pub crash_and_groups : Said → List Said
crash_and_groups next = crashed ∷ next ∷ []

-- it crashes and starts, and then this line comes
abbrev pub start_and : Verb → List Verb
start_and next = verb.AtNode 0 (node_verb.Crash Old) ∷ verb.AtNode 0 (node_verb.Start (7 ∷ [])) ∷ next ∷ []

abbrev pub start_and_groups : Said → Said → List Said
start_and_groups started next = crashed ∷ started ∷ next ∷ []

-- what was read when a stream of the link 1, from the node 0 to the node 1, had begun a snapshot, and then a node crashed of which no end of a link is told
abbrev pub begun_and_crashed : ℕ → Chronicle
begun_and_crashed n = after_crash (after_lines (granted_inside 2) (marker_line 0 2 ∷ [])) n Old

-- what was read when that stream was let continue; a node crashes, with which the link ends, and then this line of the link comes
abbrev pub crash_under_link : ℕ → Verb → List ScriptLine
crash_under_link n next = numbered 1 (verb.AtNode n (node_verb.Crash Old) ∷ next ∷ [])

abbrev pub crash_under_link_groups : Said → List Group
crash_under_link_groups next = groups_from_number 1 (ok (event.Ended 1 reason.Cut ∷ []) ∷ next ∷ [])
