-- scripts of appends that close a journal, and transcripts of them to be judged by hand
use Rattle.std.specs.Prelude.{Bool, true, false, List, [], ◌∷◌, Some}
use Rattle.script_text.specs.declared.verb.ScriptLine.{ScriptLine}
use Rattle.script_text.specs.declared.verb.Verb.{Verb}
use Rattle.script_text.specs.declared.verb.Verb.TheVariants as verb
use Rattle.script_text.specs.declared.verb.VbVerb.TheVariants as vb_verb
use Rattle.script_text.specs.declared.verb.NodeVerb.TheVariants as node_verb
use Rattle.script_text.specs.declared.verb.LinkVerb.TheVariants as link_verb
use Rattle.script_text.specs.declared.verb.ClientVerb.TheVariants as client_verb
use Rattle.mcbp_frame.specs.Spelling.{spelling}
use Rattle.vb_disk.specs.declared.fuse.Fuse.{Fuse}
use Rattle.vb_disk.specs.declared.made.Outcome.TheVariants.{Old}
use Rattle.vb_events.specs.declared.event.Answer.TheVariants as answer
use Rattle.vb_events.specs.declared.event.Cause.TheVariants as cause
use Rattle.vb_events.specs.declared.event.EndReason.TheVariants as reason
use Rattle.vb_events.specs.declared.event.Event.{Event}
use Rattle.vb_events.specs.declared.event.Event.TheVariants as event
use Rattle.vb_events.specs.declared.event.Group.{Group}
use Rattle.vb_types.specs.declared.role.Role.TheVariants as role
use Rattle.transcript_law.specs.Chronicles.{Chronicle, after_dial, blank_disk, empty_chronicle, with_point}
use Rattle.transcript_law.specs.Crashes.{Said, branch_line, crashed, dead_line, failed_behind, numbered, ok, restarted, groups_from_number, took}
use Rattle.transcript_law.specs.Followers.{next_change}
use Rattle.transcript_law.specs.Transcripts.{set_frame, set_told}

-- these lines, answered that the journal is closed
abbrev pub found_closed : List Event → Said
found_closed lines = (lines, answer.No cause.Closed)

-- the vBucket follows
abbrev pub follow_line : Event
follow_line = event.Role 0 0 role.Replica

-- a batch is taken, and its append fails; then the key 9 is set, and the batch of that change is to be written down
abbrev pub save_again : List Verb
save_again =
    verb.AtVb 0 0 vb_verb.Take ∷ verb.AtNode 0 (node_verb.Fail 1) ∷ verb.AtVb 0 0 vb_verb.Save ∷ verb.AtClient 0 1 (client_verb.Bytes (spelling (set_frame (9 ∷ []) (6 ∷ [])))) ∷ verb.AtVb 0 0 vb_verb.Take ∷ verb.AtVb 0 0 vb_verb.Save ∷ []

abbrev pub save_again_groups : Said → List Said
save_again_groups last =
    took ∷ ok [] ∷ failed_behind [] ∷ ok (event.Changed 0 0 5 next_change ∷ set_told 2 ∷ []) ∷ (event.Batch 0 0 2 2 2 1 ∷ [], answer.Number 1) ∷ last ∷ []

-- the same batch is taken again, as if it was given up
abbrev pub save_twice : List Verb
save_twice = verb.AtVb 0 0 vb_verb.Take ∷ verb.AtNode 0 (node_verb.Fail 1) ∷ verb.AtVb 0 0 vb_verb.Save ∷ verb.AtVb 0 0 vb_verb.Take ∷ verb.AtVb 0 0 vb_verb.Save ∷ []

abbrev pub save_twice_groups : Said → List Said
save_twice_groups last = took ∷ ok [] ∷ failed_behind [] ∷ took ∷ last ∷ []

-- no batch is taken, and one is to be written down under an arm
abbrev pub save_none : Verb → List Verb
save_none arm = arm ∷ verb.AtVb 0 0 vb_verb.Save ∷ []

abbrev pub save_none_groups : Said → List Said
save_none_groups last = ok [] ∷ last ∷ []

-- or once the append of one that was taken failed, which gives it up
abbrev pub save_given_up : List Verb
save_given_up = verb.AtVb 0 0 vb_verb.Take ∷ verb.AtNode 0 (node_verb.Fail 1) ∷ verb.AtVb 0 0 vb_verb.Save ∷ verb.AtVb 0 0 vb_verb.Save ∷ []

abbrev pub save_given_up_groups : Said → List Said
save_given_up_groups last = took ∷ ok [] ∷ failed_behind [] ∷ last ∷ []

-- the vBucket turns dead under an arm that fails a call, its node crashes and starts, and it follows then
abbrev pub follow_after_crash : List Verb
follow_after_crash = verb.AtNode 0 (node_verb.Fail 1) ∷ verb.AtVb 0 0 vb_verb.Dead ∷ verb.AtNode 0 (node_verb.Crash Old) ∷ verb.AtNode 0 (node_verb.Start (7 ∷ [])) ∷ verb.AtVb 0 0 vb_verb.Follow ∷ []

abbrev pub follow_after_crash_groups : Said → List Said
follow_after_crash_groups last = ok [] ∷ failed_behind (dead_line ∷ []) ∷ crashed ∷ restarted 0 ∷ last ∷ []

-- the node crashes, and starts under an arm that fails the append of its vBucket, which turns dead then
abbrev pub dead_after_start : List Verb
dead_after_start = verb.AtNode 0 (node_verb.Crash Old) ∷ verb.AtNode 0 (node_verb.Fail 2) ∷ verb.AtNode 0 (node_verb.Start (7 ∷ [])) ∷ verb.AtVb 0 0 vb_verb.Dead ∷ []

abbrev pub dead_after_start_groups : Said → List Said
dead_after_start_groups last = crashed ∷ ok [] ∷ failed_behind (branch_line 0 0 ∷ []) ∷ last ∷ []

-- what was read when the link 1 was dialed for the vBucket 0 of the node 1, whose journal is closed or not
abbrev pub dialed_for : Bool → Chronicle
dialed_for closed = record (after_dial empty_chronicle 1 0 1 0 answer.Ok) { disk_at = λ n v. record blank_disk { there = true; closed = closed } }

-- and when its request was sent back to 1
abbrev pub sent_back_for : Bool → Chronicle
sent_back_for closed = with_point (dialed_for closed) 1 (Some 1)

-- the same, where this is to befall each node
abbrev pub sent_back_under : Fuse → Chronicle
sent_back_under f = record (sent_back_for false) { arm_at = λ n. record { fuse = f; out = Old; down = false } }

-- its bytes are taken under an arm of that node
abbrev pub down_under : Verb → List ScriptLine
down_under arm = numbered 1 (arm ∷ verb.AtLink 1 (link_verb.Down 10) ∷ [])

abbrev pub down_under_groups : Said → List Group
down_under_groups said = groups_from_number 1 (ok [] ∷ said ∷ [])

-- a call of that node fails, which ends the link
abbrev pub fails_down : Said
fails_down = (event.CallFailed 1 ∷ event.Ended 1 reason.Disk ∷ [], answer.No cause.Disk)

-- that vBucket goes back to 0
abbrev pub back_line : Event
back_line = event.Rolled 1 0 1 0
