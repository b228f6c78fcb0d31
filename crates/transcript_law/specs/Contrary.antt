-- lines and states that contradict what the lines before them tell, to be judged by hand
use Rattle.std.specs.Prelude.{ℕ, false, List, [], ◌∷◌, ◌++◌, Option, Some, None}
use Rattle.vb_types.specs.declared.change.Act.TheVariants as act
use Rattle.vb_types.specs.declared.change.Change.{Change}
use Rattle.vb_types.specs.declared.change.Level.{Level}
use Rattle.vb_types.specs.declared.change.Level.TheVariants as level
use Rattle.vb_events.specs.declared.event.Answer.{Answer}
use Rattle.vb_events.specs.declared.event.Answer.TheVariants as answer
use Rattle.vb_events.specs.declared.event.Group.{Group}
use Rattle.script_text.specs.declared.verb.ScriptLine.{ScriptLine}
use Rattle.script_text.specs.declared.verb.Verb.TheVariants as verb
use Rattle.script_text.specs.declared.verb.VbVerb.TheVariants as vb_verb
use Rattle.script_text.specs.declared.verb.ClientVerb.TheVariants as client_verb
use Rattle.vb_types.specs.declared.stream.AskAnswer.TheVariants as ask_answer
use Rattle.vb_events.specs.declared.event.EndReason.TheVariants as reason
use Rattle.vb_events.specs.declared.event.Event.{Event}
use Rattle.vb_events.specs.declared.event.Event.TheVariants as event
use Rattle.vb_events.specs.declared.event.StreamName.TheVariants as name
use Rattle.vb_types.specs.declared.role.LogEntry.{LogEntry}
use Rattle.vb_types.specs.declared.role.Role.{Role}
use Rattle.vb_types.specs.declared.role.Role.TheVariants as role
use Rattle.vb_calls.specs.Plain.{Plain}
use Rattle.transcript_law.specs.Chronicles.{Chronicle, blank_disk, empty_chronicle, after_lines, after_dial}
use Rattle.transcript_law.specs.Followers.{after_both, next_change, log_of, ask_above, made_from, made_ask_lines, after_got, based, both_changed, granted_lines, adopted_lines, both_sent_lines}
use Rattle.transcript_law.specs.Rollbacks.{rolled_lines, made_log, after_active, after_dead}
use Rattle.transcript_law.specs.Transcripts.{active_vb_lines, first_doc, script_line, set_line, set_told, group_done, group_answered, change_line, one_change, value_lines}

-- what was read when the active vBucket of the branch 5, which has no change yet, holds a later change than its first one
abbrev pub later_held : Chronicle
later_held = record after_active { held = λ n v. next_change ∷ [] }

-- the vBucket 0, which made the branch 5 and is on the branch 7 now, makes its second change on this one
abbrev pub next_made : ℕ → List Event
next_made uuid = event.Changed 0 0 uuid next_change ∷ []

-- the link 1 ends
abbrev pub link_over : List Event
link_over = event.Ended 1 reason.Cut ∷ []

-- the link 1 is dialed for the same vBucket as before, after it ended
abbrev pub dialed_anew : Chronicle → Chronicle
dialed_anew before = after_dial (after_lines before link_over) 1 0 1 0 answer.Ok

-- what was read when a follower got the one change of its branch and another branch was made, and no log is known any more
abbrev pub log_forgotten : Chronicle
log_forgotten = record (after_lines after_got (active_vb_lines 1 6)) { log_at = λ n v. None }

-- that follower with the log of the other branch
abbrev pub strange : Plain
strange = record based { log = log_of 6 }

-- the first change prepares a durable set of the key 7
abbrev pub prepare_change : Change
prepare_change = record { seq = 1; key = 7 ∷ []; act = act.Prepare level.Majority (first_doc 1 (8 ∷ [])) false }

-- what was read when the vBucket 0 made that change
abbrev pub after_prepare : Chronicle
after_prepare = after_lines after_active (event.Changed 0 0 5 prepare_change ∷ [])

-- the vBucket 0 is shown with one prepare, and with these lines behind
abbrev pub prepare_shown : List Event → List Event
prepare_shown lines = event.Shown 0 0 role.Active 5 1 1 1 0 1 ∷ lines

-- the line of the key's prepare
abbrev pub prepare_lines : ℕ → Level → List Event
prepare_lines seq said = event.Prepared (7 ∷ []) seq said ∷ []

-- what was read when a follower took over the log of the branch 7, which was made from the branch 5 at 1
abbrev pub after_taken : Chronicle
after_taken = after_lines (made_from 5) (made_ask_lines 0 ask_answer.Go ++ event.Adopted 1 0 made_log ∷ [])

-- and when it went back to 0 then
abbrev pub after_back : Chronicle
after_back = after_lines after_taken (rolled_lines 1 0)

-- that follower's failover log
abbrev pub taken_log : List LogEntry → List Event
taken_log log = event.Logged 1 0 log ∷ []

-- another link asks a replica of both changes, which refuses by this log
abbrev pub refused_ask_lines : List LogEntry → List Event
refused_ask_lines log = event.Asked (name.Link 2) 1 0 (ask_above 0 0) 2 log (ask_answer.Refuse 7) ∷ []

-- what was read when the vBucket 0 follows, after it was active
abbrev pub after_follow : Chronicle
after_follow = after_lines after_active (event.Role 0 0 role.Replica ∷ [])

-- and when it was dead, and was made active again on the branch 7
abbrev pub after_promote : Chronicle
after_promote = after_lines after_dead (active_vb_lines 0 7)

-- the marker of the same snapshot, as if it came from the journal
abbrev pub disk_marker : List Event
disk_marker = event.Marked (name.Link 1) 0 2 2 ∷ []

-- the end of the link's stream, as if the end that was asked for was reached
abbrev pub done_lines : List Event
done_lines = event.Finished (name.Link 1) 0 ∷ []

-- what was read when a replica's request was granted, it took the log over, and these lines told what its producer put
abbrev pub sent_known : List Event → Chronicle
sent_known sent = after_lines (after_dial empty_chronicle 1 0 1 0 answer.Ok) (active_vb_lines 0 5 ++ event.Role 1 0 role.Replica ∷ both_changed ++ granted_lines ++ adopted_lines 5 ++ sent)

-- and what was read when it had not taken the log over yet
abbrev pub unadopted : Chronicle
unadopted = after_lines (after_dial empty_chronicle 1 0 1 0 answer.Ok) (active_vb_lines 0 5 ++ event.Role 1 0 role.Replica ∷ both_changed ++ granted_lines ++ both_sent_lines)

-- a vBucket of the node 1 takes a marker
abbrev pub range_lines : ℕ → ℕ → ℕ → List Event
range_lines v ss se = event.Ranged 1 v ss se ∷ []

-- the replica takes a change from this link
abbrev pub got_lines : ℕ → Change → List Event
got_lines l change = event.Got 1 0 (name.Link l) change ∷ []

-- a first change of another key than the branch's first
abbrev pub strange_change : Change
strange_change = record { seq = 1; key = 9 ∷ []; act = act.Set (first_doc 1 (8 ∷ [])) }

-- the key 7 is set on the branch 5, whose vBucket is sealed twice then
abbrev pub set_and_sealed : List ScriptLine
set_and_sealed =
    script_line 1 (verb.Node 0) ∷ script_line 2 (verb.AtClient 0 1 client_verb.Open) ∷ script_line 3 (verb.AtVb 0 0 (vb_verb.MakeActive 5))
    ∷ set_line 4 (7 ∷ []) (8 ∷ []) ∷ script_line 5 (verb.AtVb 0 0 vb_verb.Seal) ∷ script_line 6 (verb.AtVb 0 0 vb_verb.Seal) ∷ []

-- what is told of that script, with these answers of the seals
abbrev pub sealed_groups : ℕ → ℕ → List Group
sealed_groups first next =
    group_done 1 [] ∷ group_done 2 [] ∷ group_done 3 (active_vb_lines 0 5) ∷ group_done 4 (change_line 0 ∷ set_told 1 ∷ [])
    ∷ group_answered 5 [] (answer.Number first) ∷ group_answered 6 [] (answer.Number next) ∷ []

-- what was read when the vBucket 0 made a change and was dead then
abbrev pub after_dead_changed : Chronicle
after_dead_changed = after_lines after_active (change_line 0 ∷ event.Role 0 0 role.Dead ∷ [])

-- a dead vBucket becomes active on the branch 7, and this is told of it, behind this number
abbrev pub promotes_dead : List ScriptLine
promotes_dead = script_line 1 (verb.AtVb 0 0 (vb_verb.Promote 7)) ∷ []

abbrev pub promoted_groups : ℕ → List Event → Answer → List Group
promoted_groups number lines said = group_answered number lines said ∷ []

abbrev pub risen_lines : List Event
risen_lines = event.Branch 0 0 7 (Some 5) 0 0 ∷ event.Role 0 0 role.Active ∷ []

-- a vBucket whose log names the branch 6 alone, though it is on another one
abbrev pub logged_six : Chronicle → Chronicle
logged_six before = record (after_lines before (active_vb_lines 1 6)) { log_at = λ n v. Some (log_of 6) }

-- the replica inside the snapshot, shown with this newest branch
abbrev pub inside_newest : ℕ → List Event
inside_newest uuid = event.Shown 1 0 role.Replica uuid 1 0 2 1 0 ∷ value_lines (8 ∷ [])

-- a branch of it that leaves so
abbrev pub branch_left : Option ℕ → ℕ → ℕ → List Event
branch_left parent fork high = event.Branch 0 0 7 parent fork high ∷ []

-- and one of the replica, which has one change
abbrev pub branch_inside : ℕ → List Event
branch_inside fork = event.Branch 1 0 7 (Some 5) fork 1 ∷ []

-- what was read when the replica took the first change of two, inside their snapshot, and when it was dead then
abbrev pub inside_got : Chronicle
inside_got = after_lines (sent_known both_sent_lines) (range_lines 0 0 2 ++ got_lines 1 one_change)

abbrev pub inside_dead : Chronicle
inside_dead = after_lines inside_got (event.Role 1 0 role.Dead ∷ [])

-- and when it was active then, with no branch of its own
abbrev pub inside_active : Chronicle
inside_active = after_lines inside_got (event.Role 1 0 role.Active ∷ [])

-- that one shown with its change, in this snapshot
abbrev pub active_shown : ℕ → ℕ → List Event
active_shown ss se = event.Shown 1 0 role.Active 5 1 ss se 1 0 ∷ value_lines (8 ∷ [])

-- it is shown in this role, at this seqno in the snapshot from 0 to `se`, with so many documents and with these lines
abbrev pub inside_shown : Role → ℕ → ℕ → ℕ → List Event → List Event
inside_shown said at se docs lines = event.Shown 1 0 said 5 at 0 se docs 0 ∷ lines

-- the replica at the node 1 acknowledges all up to a seqno over this link, with all up to `saved` written down
abbrev pub acknowledged_saved : ℕ → ℕ → ℕ → List Event
acknowledged_saved l seq saved = event.Acknowledged (name.Link l) 1 0 seq saved ∷ []

-- the same with nothing written down
abbrev pub acknowledged_lines : ℕ → ℕ → List Event
acknowledged_lines l seq = acknowledged_saved l seq 0

-- the vBucket that dialed the link 2, of which no stream was granted, acknowledges nothing over it
abbrev pub ungranted_lines : List Event
ungranted_lines = event.Acknowledged (name.Link 2) 2 0 0 0 ∷ []

-- what was read when the branch 5 has these changes alone, and each vBucket holds them
abbrev pub all_have : List Change → Chronicle
all_have changes = record after_both { tree = record { id = 5; parent = None; fork = 0; own = changes } ∷ []; held = λ n v. changes }

-- a prepare of this level, at the seqno 2
abbrev pub prepared_at : Level → Change
prepared_at how = record { seq = 2; key = 7 ∷ []; act = act.Prepare how (first_doc 1 (8 ∷ [])) false }

-- the replica holds one of level 3 alone
abbrev pub third_held : Chronicle
third_held = all_have (prepared_at level.PersistMajority ∷ [])

-- the same, where all up to it counts as saved
abbrev pub third_saved : Chronicle
third_saved = record third_held { disk_at = λ n v. record blank_disk { saved = 2 } }

-- what was read when it holds a prepare of level 2 at the seqno 2 alone
abbrev pub second_held : Chronicle
second_held = all_have (prepared_at level.MajorityPersistActive ∷ [])

-- and when it holds a prepare of level 3 at the seqno 2, and behind it one of level 1
abbrev pub third_below : Chronicle
third_below = record (all_have (prepared_at level.PersistMajority ∷ record { seq = 3; key = 9 ∷ []; act = act.Prepare level.Majority (first_doc 1 (8 ∷ [])) false } ∷ [])) { snap_at = λ n v. Some (3, 3) }

-- what was read when the replica holds the second change of its branch, and not the first one
abbrev pub first_lost : Chronicle
first_lost = record after_both { held = λ n v. next_change ∷ [] }

-- what was read when the replica acknowledged all up to a seqno over the link 1
abbrev pub after_ack : ℕ → Chronicle
after_ack seq = after_lines after_both (acknowledged_lines 1 seq)

-- as if the node 0 had dialed each link itself
abbrev pub dialed_itself : Chronicle
dialed_itself = record (after_ack 2) { dial_of = λ l. Some (record { producer = 0; node = 0; vb = 0 }) }

-- and as if the node 2 had dialed the link 1 then, or the node 1 anew, whose stream was granted
abbrev pub dialed_by_another : Chronicle
dialed_by_another = after_dial (after_ack 2) 1 0 2 0 answer.Ok

abbrev pub granted_anew : Chronicle
granted_anew = after_lines (dialed_anew (after_ack 2)) granted_lines

-- what was read when the replica had both changes, as if it was on the branch 9
abbrev pub on_another : Chronicle
on_another = record after_both { branch_at = λ n v. Some 9 }

-- the active vBucket of the node 0 counts it as this member's
abbrev pub counted_lines : ℕ → ℕ → List Event
counted_lines member seq = event.Counted (name.Link 1) 0 0 member seq ∷ []

-- it is put on the branch 7, which it makes at its second change
abbrev pub new_branch_lines : List Event
new_branch_lines = event.Branch 0 0 7 (Some 5) 2 2 ∷ []

-- what was read when the replica had both changes and that vBucket was made dead
abbrev pub after_both_dead : Chronicle → Chronicle
after_both_dead before = after_lines before (event.Role 0 0 role.Dead ∷ [])
