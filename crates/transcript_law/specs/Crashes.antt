-- scripts of arms, crashes and restarts, and transcripts of them to be judged by hand
use Rattle.std.specs.Prelude.{ℕ, ◌+◌, true, false, List, [], ◌∷◌, ◌++◌, Some, None}
use Rattle.script_text.specs.declared.verb.ScriptLine.{ScriptLine}
use Rattle.script_text.specs.declared.verb.Verb.{Verb}
use Rattle.script_text.specs.declared.verb.Verb.TheVariants as verb
use Rattle.script_text.specs.declared.verb.VbVerb.TheVariants as vb_verb
use Rattle.script_text.specs.declared.verb.NodeVerb.TheVariants as node_verb
use Rattle.script_text.specs.declared.verb.ClientVerb.TheVariants as client_verb
use Rattle.mcbp_frame.specs.Spelling.{spelling}
use Rattle.mcbp_frame.specs.declared.frame.Frame.{Frame}
use Rattle.mcbp_frame.specs.declared.frame.TheConstants.{FRAMED_REQUEST}
use Rattle.vb_disk.specs.declared.made.Outcome.{Outcome}
use Rattle.vb_disk.specs.declared.made.Outcome.TheVariants.{Old}
use Rattle.vb_types.specs.declared.change.Act.TheVariants as act
use Rattle.vb_types.specs.declared.change.Change.{Change}
use Rattle.vb_types.specs.declared.change.Level.TheVariants as level
use Rattle.vb_events.specs.declared.event.Answer.{Answer}
use Rattle.vb_events.specs.declared.event.Answer.TheVariants as answer
use Rattle.vb_events.specs.declared.event.Cause.TheVariants as cause
use Rattle.vb_events.specs.declared.event.EndReason.TheVariants as reason
use Rattle.vb_events.specs.declared.event.Event.{Event}
use Rattle.vb_events.specs.declared.event.Event.TheVariants as event
use Rattle.vb_events.specs.declared.event.Group.{Group}
use Rattle.vb_types.specs.declared.journal.Record.{Record}
use Rattle.vb_types.specs.declared.journal.Record.TheVariants as noted
use Rattle.vb_types.specs.declared.role.LogEntry.{LogEntry}
use Rattle.vb_types.specs.declared.role.Role.{Role}
use Rattle.vb_types.specs.declared.role.Role.TheVariants as role
use Rattle.transcript_law.specs.Chronicles.{Chronicle, Idle, known_batch}
use Rattle.transcript_law.specs.Contrary.{after_back}
use Rattle.transcript_law.specs.Followers.{next_change}
use Rattle.transcript_law.specs.Journals.{within}
use Rattle.transcript_law.specs.Lawfulness.{Lawful}
use Rattle.transcript_law.specs.Rollbacks.{made_log}
use Rattle.transcript_law.specs.Transcripts.{first_doc, script_line, set_frame, set_line, set_told, group_answered, group_done, active_vb_lines, change_line, shown_with_change, value_lines}

-- what is told of a line: its event lines and its answer
abbrev pub Said : Type 0
Said = List Event × Answer

-- the same where it was carried out, with nothing to count
abbrev pub ok : List Event → Said
ok events = (events, answer.Ok)

-- the lines of a script from this number on
abbrev pub numbered : ℕ → List Verb → List ScriptLine
numbered n [] = []
numbered n (said ∷ more) = script_line n said ∷ numbered (n + 1) more

-- what is told of them
abbrev pub groups_from_number : ℕ → List Said → List Group
groups_from_number n [] = []
groups_from_number n (said ∷ more) = group_answered n said.0 said.1 ∷ groups_from_number (n + 1) more

-- the key 7 is set on the branch 5, which makes the one change of its vBucket, and then come these lines
abbrev pub one_made : List Verb → List ScriptLine
one_made more =
    script_line 1 (verb.Node 0) ∷ script_line 2 (verb.AtClient 0 1 client_verb.Open) ∷ script_line 3 (verb.AtVb 0 0 (vb_verb.MakeActive 5))
    ∷ set_line 4 (7 ∷ []) (8 ∷ []) ∷ numbered 5 more

-- what is told of that script
abbrev pub one_made_groups : List Said → List Group
one_made_groups more =
    group_done 1 [] ∷ group_done 2 [] ∷ group_done 3 (active_vb_lines 0 5) ∷ group_done 4 (change_line 0 ∷ set_told 1 ∷ []) ∷ groups_from_number 5 more

-- that transcript is lawful
abbrev pub LawfulAfter : List Verb → List Said → Type 0
LawfulAfter lines told = Lawful (one_made lines) (one_made_groups told)

-- ---- what is told of single lines

-- the change is taken
abbrev pub took : Said
took = (event.Batch 0 0 1 1 1 1 ∷ [], answer.Number 1)

-- the node stops, by a line that crashes it, and by an arm, behind these lines
abbrev pub crashed : Said
crashed = ok (event.Closed 0 1 ∷ [])

abbrev pub stopped_behind : List Event → Said
stopped_behind lines = (lines ++ event.NodeStopped 0 ∷ event.Closed 0 1 ∷ [], answer.No cause.Stopped)

-- a device call fails, behind these lines
abbrev pub failed_behind : List Event → Said
failed_behind lines = (lines ++ event.CallFailed 0 ∷ [], answer.No cause.Disk)

-- the vBucket of this number makes the branch 7, at a seqno
abbrev pub branch_line : ℕ → ℕ → Event
branch_line v at = event.Branch 0 v 7 (Some 5) at at

-- the node starts, and its vBucket makes that branch
abbrev pub restarted : ℕ → Said
restarted at = ok (branch_line 0 at ∷ [])

-- the vBucket is dead
abbrev pub dead_line : Event
dead_line = event.Role 0 0 role.Dead

-- the vBucket is shown with nothing, and with its change, in this role and with this branch
abbrev pub none_shown : Role → ℕ → Said
none_shown said uuid = ok (event.Shown 0 0 said uuid 0 0 0 0 0 ∷ [])

abbrev pub one_shown : Role → ℕ → Said
one_shown said uuid = ok (shown_with_change said uuid 1 0 (value_lines (8 ∷ [])))

-- its numbers after a restart: so much counts as saved, of as much that it holds
abbrev pub stat_of : ℕ → ℕ → Said
stat_of saved high = ok (event.Stat 0 0 0 0 1 saved high ∷ [])

-- ---- arms

-- the change is taken, and written down under an arm
abbrev pub save_under : Verb → List Verb
save_under arm = verb.AtVb 0 0 vb_verb.Take ∷ arm ∷ verb.AtVb 0 0 vb_verb.Save ∷ []

abbrev pub save_under_groups : Said → List Said
save_under_groups said = took ∷ ok [] ∷ said ∷ []

-- the vBucket turns dead under an arm, and then this comes
abbrev pub dead_under : Verb → Verb → List Verb
dead_under arm next = arm ∷ verb.AtVb 0 0 vb_verb.Dead ∷ next ∷ []

abbrev pub dead_under_groups : Said → Said → List Said
dead_under_groups dead next = ok [] ∷ dead ∷ next ∷ []

-- an arm that hits the call behind those of one append: the change is written down, and then the vBucket turns dead
abbrev pub save_and_dead : List Verb
save_and_dead = verb.AtVb 0 0 vb_verb.Take ∷ verb.AtNode 0 (node_verb.Fail 5) ∷ verb.AtVb 0 0 vb_verb.Save ∷ verb.AtVb 0 0 vb_verb.Dead ∷ []

abbrev pub save_and_dead_groups : Said → List Said
save_and_dead_groups dead = took ∷ ok [] ∷ ok [] ∷ dead ∷ []

-- there is an arm that nothing met, and the node crashes and starts
abbrev pub crash_under : Verb → List Verb
crash_under arm = arm ∷ verb.AtNode 0 (node_verb.Crash Old) ∷ verb.AtNode 0 (node_verb.Start (7 ∷ [])) ∷ []

abbrev pub crash_under_groups : Said → List Said
crash_under_groups started = ok [] ∷ crashed ∷ started ∷ []

-- ---- what a crash leaves

-- these lines come, the node crashes and starts, and then comes one more
abbrev pub crash_behind : List Verb → Outcome → List ℕ → Verb → List Verb
crash_behind lines out uuids last = lines ++ verb.AtNode 0 (node_verb.Crash out) ∷ verb.AtNode 0 (node_verb.Start uuids) ∷ last ∷ []

abbrev pub crash_behind_groups : List Said → Said → Said → List Said
crash_behind_groups lines started last = lines ++ crashed ∷ started ∷ last ∷ []

-- its lines in front of the crash, where the change is taken, written down, and counts as saved
abbrev pub to_save : List Verb
to_save = verb.AtVb 0 0 vb_verb.Take ∷ verb.AtVb 0 0 vb_verb.Save ∷ []

abbrev pub saved_groups : List Said
saved_groups = took ∷ ok [] ∷ []

abbrev pub to_done : List Verb
to_done = verb.AtVb 0 0 vb_verb.Take ∷ verb.AtVb 0 0 vb_verb.Save ∷ verb.AtVb 0 0 vb_verb.Done ∷ []

abbrev pub counted_groups : List Said
counted_groups = took ∷ ok [] ∷ ([], answer.Number 1) ∷ []

-- the node stops inside a call of the save, starts, and then comes one more line
abbrev pub stopped_in : ℕ → Outcome → Verb → List Verb
stopped_in k out last = verb.AtVb 0 0 vb_verb.Take ∷ verb.AtNode 0 (node_verb.Stop k out) ∷ verb.AtVb 0 0 vb_verb.Save ∷ verb.AtNode 0 (node_verb.Start (7 ∷ [])) ∷ last ∷ []

abbrev pub stopped_in_groups : ℕ → Said → List Said
stopped_in_groups at last = took ∷ ok [] ∷ stopped_behind [] ∷ restarted at ∷ last ∷ []

-- what was read when a replica wrote the log of the branch 7 down, with the two changes of a snapshot, and went back to 0 then
abbrev pub back_noted : List Record
back_noted = noted.Roll 0 ∷ noted.Rows (known_batch (within 2 2) made_log) ∷ noted.State role.Replica [] ∷ []

abbrev pub after_noted_back : Chronicle
after_noted_back = record after_back { disk_at = λ n v. record { flushing = Idle; book = back_noted; late = None; saved = 0; taken = 0; there = true; closed = false } }

-- its node crashes and starts, and its log is shown
abbrev pub log_after_crash : List ScriptLine
log_after_crash = numbered 1 (verb.AtNode 1 (node_verb.Crash Old) ∷ verb.AtNode 1 (node_verb.Start []) ∷ verb.AtVb 1 0 vb_verb.Log ∷ [])

abbrev pub log_after_crash_groups : List LogEntry → List Group
log_after_crash_groups log = groups_from_number 1 (ok (event.Ended 1 reason.Cut ∷ []) ∷ ok [] ∷ ok (event.Logged 1 0 log ∷ []) ∷ [])

-- ---- vBuckets that come back

-- the vBucket turns dead under an arm that fails a call, and the node crashes and starts
abbrev pub dead_unwritten : Outcome → List Verb
dead_unwritten out = verb.AtNode 0 (node_verb.Fail 4) ∷ verb.AtVb 0 0 vb_verb.Dead ∷ verb.AtNode 0 (node_verb.Crash out) ∷ verb.AtNode 0 (node_verb.Start (7 ∷ [])) ∷ verb.AtVb 0 0 vb_verb.Show ∷ []

abbrev pub dead_unwritten_groups : Said → Said → List Said
dead_unwritten_groups started shown = ok [] ∷ failed_behind (dead_line ∷ []) ∷ crashed ∷ started ∷ shown ∷ []

-- the vBucket wrote its change down, and comes back; a client sets the key 9 then
abbrev pub set_restarted : List Verb
set_restarted = to_save ++ verb.AtNode 0 (node_verb.Crash Old) ∷ verb.AtNode 0 (node_verb.Start (7 ∷ [])) ∷ verb.AtClient 0 1 client_verb.Open ∷ verb.AtClient 0 1 (client_verb.Bytes (spelling (set_frame (9 ∷ []) (6 ∷ [])))) ∷ []

abbrev pub set_restarted_groups : ℕ → List Said
set_restarted_groups uuid = saved_groups ++ crashed ∷ restarted 1 ∷ ok [] ∷ ok (event.Changed 0 0 uuid next_change ∷ set_told 2 ∷ []) ∷ []

-- the key 9 is prepared, and committed, as a prepare of this seqno
abbrev pub prepared : Change
prepared = record { seq = 2; key = 9 ∷ []; act = act.Prepare level.Majority (first_doc 2 (6 ∷ [])) false }

abbrev pub commit_of : ℕ → Change
commit_of n = record { seq = 3; key = 9 ∷ []; act = act.Commit n (first_doc 2 (6 ∷ [])) false }

-- a durable write of the key 9 asks for it
abbrev pub durable_nine : Frame
durable_nine = record (set_frame (9 ∷ []) (6 ∷ [])) { magic = FRAMED_REQUEST; framing = 17 ∷ 1 ∷ [] }

-- the vBucket wrote a prepare down, and comes back; then it is sealed
abbrev pub seal_restarted : List Verb
seal_restarted = verb.AtClient 0 1 (client_verb.Bytes (spelling durable_nine)) ∷ to_save ++ verb.AtNode 0 (node_verb.Crash Old) ∷ verb.AtNode 0 (node_verb.Start (7 ∷ [])) ∷ verb.AtVb 0 0 vb_verb.Seal ∷ []

-- these lines are told as its node starts
abbrev pub seal_restarted_groups : List Event → List Said
seal_restarted_groups lines = ok (event.Changed 0 0 5 prepared ∷ []) ∷ (event.Batch 0 0 2 2 2 2 ∷ [], answer.Number 2) ∷ ok [] ∷ crashed ∷ ok lines ∷ ([], answer.Number 1) ∷ []

-- a vBucket is made under an arm that fails this call, and the node crashes and starts
abbrev pub made_under : ℕ → Outcome → List ScriptLine
made_under k out = numbered 1 (verb.Node 0 ∷ verb.AtNode 0 (node_verb.Fail k) ∷ verb.AtVb 0 0 (vb_verb.MakeActive 5) ∷ verb.AtNode 0 (node_verb.Crash out) ∷ verb.AtNode 0 (node_verb.Start (7 ∷ [])) ∷ verb.AtVb 0 0 vb_verb.Show ∷ [])

abbrev pub made_under_groups : Said → Said → List Group
made_under_groups started shown = groups_from_number 1 (ok [] ∷ ok [] ∷ failed_behind (active_vb_lines 0 5) ∷ ok [] ∷ started ∷ shown ∷ [])
