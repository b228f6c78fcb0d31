-- a script of a replica that follows, and transcripts of it to be judged by hand
use Rattle.std.specs.Prelude.{false, ℕ, ◌^◌, ◌-◌, ◌==◌, if◌then◌else◌, List, [], ◌∷◌, ◌++◌, take, drop, Some, None}
use Rattle.node_core.specs.Clients.{new_client}
use Rattle.durability.specs.Chains.{Members}
use Rattle.script_text.specs.declared.verb.ScriptLine.{ScriptLine}
use Rattle.script_text.specs.declared.verb.Verb.TheVariants as verb
use Rattle.script_text.specs.declared.verb.VbVerb.TheVariants as vb_verb
use Rattle.script_text.specs.declared.verb.LinkVerb.TheVariants as link_verb
use Rattle.script_text.specs.declared.verb.ClientVerb.TheVariants as client_verb
use Rattle.vb_types.specs.declared.change.Act.TheVariants as act
use Rattle.vb_types.specs.declared.change.Change.{Change}
use Rattle.vb_types.specs.declared.change.Level.TheVariants as level
use Rattle.vb_types.specs.declared.stream.AskAnswer.{AskAnswer}
use Rattle.vb_types.specs.declared.stream.AskAnswer.TheVariants as ask_answer
use Rattle.vb_events.specs.declared.event.Answer.{Answer}
use Rattle.vb_events.specs.declared.event.Answer.TheVariants as answer
use Rattle.vb_events.specs.declared.event.Cause.TheVariants as cause
use Rattle.vb_events.specs.declared.event.Event.{Event}
use Rattle.vb_events.specs.declared.event.Event.TheVariants as event
use Rattle.vb_events.specs.declared.event.Group.{Group}
use Rattle.vb_events.specs.declared.event.ItemAct.TheVariants as item_act
use Rattle.vb_events.specs.declared.event.EndReason.TheVariants as reason
use Rattle.vb_events.specs.declared.event.StreamName.TheVariants as name
use Rattle.vb_events.specs.declared.event.Why.TheVariants as why
use Rattle.vb_types.specs.declared.role.LogEntry.{LogEntry}
use Rattle.vb_types.specs.Images.{image_of}
use Rattle.vb_types.specs.declared.role.Role.TheVariants as role
use Rattle.vb_types.specs.declared.stream.StreamAsk.{StreamAsk}
use Rattle.vb_calls.specs.Durable.{prepared_vb}
use Rattle.vb_calls.specs.Plain.{Plain, new_vb}
use Rattle.node_world.specs.World.{PlainWorld, empty_world, with_node_at, empty_node}
use Rattle.transcript_law.specs.Chronicles.{Chronicle, empty_chronicle, after_lines, after_dial}
use Rattle.transcript_law.specs.LineAnswers.{frames_in_lines}
use Rattle.transcript_law.specs.Transcripts.{script_line, set_line, set_told, set_write, group_answered, group_done, active_vb_lines, first_doc, one_change, change_line}

-- two keys are set on the branch 5, and a replica at the node 1 follows over the link 1, whose window is small, and is shown
abbrev pub two_followed : List ScriptLine
two_followed =
    script_line 1 (verb.Node 0) ∷ script_line 2 (verb.Node 1) ∷ script_line 3 (verb.AtClient 0 1 client_verb.Open)
    ∷ script_line 4 (verb.AtVb 0 0 (vb_verb.MakeActive 5)) ∷ script_line 5 (verb.AtVb 1 0 vb_verb.MakeReplica)
    ∷ set_line 6 (7 ∷ []) (8 ∷ []) ∷ set_line 7 (9 ∷ []) (6 ∷ [])
    ∷ script_line 8 (verb.Link 1 0 1 0 1 false) ∷ script_line 9 (verb.AtLink 1 (link_verb.Up 1000)) ∷ script_line 10 (verb.AtLink 1 (link_verb.Down 1000))
    ∷ script_line 11 (verb.AtLink 1 (link_verb.Pump 9)) ∷ script_line 12 (verb.AtLink 1 (link_verb.Down 1000)) ∷ script_line 13 (verb.AtVb 1 0 vb_verb.Show) ∷ []

-- the key 9 is set to 6 by the second change
abbrev pub next_change : Change
next_change = record { seq = 2; key = 9 ∷ []; act = act.Set (first_doc 2 (6 ∷ [])) }

-- a log of one branch, which was made at 0
abbrev pub log_of : ℕ → List LogEntry
log_of uuid = record { uuid = uuid; seq = 0 } ∷ []

-- a request for all changes above `at` of a branch, with the snapshot (ss, se]
abbrev pub ask_within : ℕ → ℕ → ℕ → ℕ → StreamAsk
ask_within ss at se uuid = record { flags = 0; start = at; end = 2 ^ 64 - 1; uuid = uuid; ss = ss; se = se }

-- the same with a complete snapshot
abbrev pub ask_above : ℕ → ℕ → StreamAsk
ask_above at uuid = ask_within at at at uuid

-- the link's request is answered, by a vBucket with this last seqno and log
abbrev pub ask_lines : StreamAsk → ℕ → List LogEntry → AskAnswer → List Event
ask_lines ask high log said = event.Asked (name.Link 1) 0 0 ask high log said ∷ []

-- the link asks for the vBucket 1, which is not made and refuses
abbrev pub other_ask_lines : List Event
other_ask_lines = event.Asked (name.Link 1) 0 1 (ask_above 0 0) 0 [] (ask_answer.Refuse 7) ∷ []

-- the link ends, and its request is granted after that
abbrev pub late_ask_lines : List Event
late_ask_lines = event.Ended 1 reason.Protocol ∷ ask_lines (ask_above 0 0) 2 (log_of 5) ask_answer.Go

-- the request of an empty replica is granted
abbrev pub granted_lines : List Event
granted_lines = ask_lines (ask_above 0 0) 2 (log_of 5) ask_answer.Go

-- the replica takes this log over
abbrev pub adopted_lines : ℕ → List Event
adopted_lines uuid = event.Adopted 1 0 (log_of uuid) ∷ []

-- a vBucket that did not dial takes the log over
abbrev pub stranger_lines : List Event
stranger_lines = event.Adopted 1 1 (log_of 5) ∷ []

-- the link ends, and the replica takes the log over after that
abbrev pub ended_lines : List Event
ended_lines = event.Ended 1 reason.Protocol ∷ adopted_lines 5

-- a marker of the link
abbrev pub marker_line : ℕ → ℕ → Event
marker_line start end = event.Marked (name.Link 1) start end 1

-- an item of the link that sets a key
abbrev pub set_item_line : ℕ → List ℕ → Event
set_item_line seq key = event.Item (name.Link 1) seq item_act.Set key

-- the item of the first change
abbrev pub first_item_line : Event
first_item_line = set_item_line 1 (7 ∷ [])

-- the item of the second change
abbrev pub next_item_line : Event
next_item_line = set_item_line 2 (9 ∷ [])

-- both changes in one snapshot
abbrev pub both_sent_lines : List Event
both_sent_lines = marker_line 0 2 ∷ first_item_line ∷ next_item_line ∷ []

-- the replica takes them
abbrev pub both_got : List Event
both_got = event.Ranged 1 0 0 2 ∷ event.Got 1 0 (name.Link 1) one_change ∷ event.Got 1 0 (name.Link 1) next_change ∷ []

-- the replica takes them, and the second one again
abbrev pub again_got : List Event
again_got = both_got ++ drop 2 both_got

-- the replica is shown with that snapshot, and with so many documents
abbrev pub replica_shown : ℕ → List Event → List Event
replica_shown docs lines = event.Shown 1 0 role.Replica 5 2 0 2 docs 0 ∷ lines

-- the lines of the two documents
abbrev pub two_docs : List Event
two_docs = event.Document (7 ∷ []) (first_doc 1 (8 ∷ [])) ∷ event.Document (9 ∷ []) (first_doc 2 (6 ∷ [])) ∷ []

-- the line of a document that no change set
abbrev pub third_doc : List Event
third_doc = event.Document (11 ∷ []) (first_doc 3 (6 ∷ [])) ∷ []

-- the active vBucket makes the two changes
abbrev pub both_changed : List Event
both_changed = event.Changed 0 0 5 one_change ∷ event.Changed 0 0 5 next_change ∷ []

-- the answer of a show by what it tells: one that tells of nothing is refused
abbrev pub show_answer : List Event → Answer
show_answer [] = answer.No cause.UnknownVb
show_answer (line ∷ lines) = answer.Ok

-- what is told of that script, but for counts of bytes: lines of the request, of the log taken over, of snapshots as sent and as got, and of the replica
abbrev pub followed_groups : List Event → List Event → List Event → List Event → List Event → List Group
followed_groups asked adopted sent got shown =
    group_done 1 [] ∷ group_done 2 [] ∷ group_done 3 []
    ∷ group_done 4 (active_vb_lines 0 5) ∷ group_done 5 (event.Role 1 0 role.Replica ∷ [])
    ∷ group_done 6 (take 1 both_changed ++ set_told 1 ∷ []) ∷ group_done 7 (drop 1 both_changed ++ set_told 2 ∷ [])
    ∷ group_done 8 [] ∷ group_answered 9 asked (answer.Number 100) ∷ group_answered 10 adopted (answer.Number 100)
    ∷ group_answered 11 sent (answer.Pulled (frames_in_lines sent) why.Full) ∷ group_answered 12 got (answer.Number 100) ∷ group_answered 13 shown (show_answer shown) ∷ []

-- the request is answered so, nothing is told of what follows, and the show is refused
abbrev pub ask_groups : List Event → List Group
ask_groups asked = followed_groups asked [] [] [] []

-- the request is granted, these lines come with its answer, nothing is told of what follows, and the show is refused
abbrev pub answered_so : List Event → List Group
answered_so adopted = followed_groups granted_lines adopted [] [] []

-- a log of this branch is taken over, nothing is told of what follows, and the show is refused
abbrev pub adopted_so : ℕ → List Group
adopted_so uuid = answered_so (adopted_lines uuid)

-- snapshots are sent so, nothing is told of what follows, and the show is refused
abbrev pub sent_so : List Event → List Group
sent_so sent = followed_groups granted_lines (adopted_lines 5) sent [] []

-- the replica takes this, and is not shown
abbrev pub got_so : List Event → List Group
got_so got = followed_groups granted_lines (adopted_lines 5) both_sent_lines got []

-- the replica is shown so
abbrev pub shown_so : List Event → List Group
shown_so shown = followed_groups granted_lines (adopted_lines 5) both_sent_lines both_got shown

-- what was read when a request from inside a snapshot up to `se` was granted
abbrev pub granted_inside : ℕ → Chronicle
granted_inside se = after_lines (after_dial empty_chronicle 1 0 1 0 answer.Ok) (active_vb_lines 0 5 ++ both_changed ++ ask_lines (ask_within 0 1 se 5) 2 (log_of 5) ask_answer.Go)

-- the same, and the link dials for the vBucket 1 now
abbrev pub dialed_elsewhere : Chronicle
dialed_elsewhere = after_dial (granted_inside 2) 1 0 1 1 answer.Ok

-- what was read when the replica has both changes, and the link 2 was dialed to it
abbrev pub after_both : Chronicle
after_both = after_dial (after_lines (after_dial empty_chronicle 1 0 1 0 answer.Ok) (active_vb_lines 0 5 ++ both_changed ++ granted_lines ++ adopted_lines 5 ++ both_sent_lines ++ both_got)) 2 1 2 0 answer.Ok

-- another link asks the replica, which refuses by its own log and the seqno that it has
abbrev pub replica_ask_lines : ℕ → List Event
replica_ask_lines high = event.Asked (name.Link 2) 1 0 (ask_above 0 0) high (log_of 5) (ask_answer.Refuse 7) ∷ []

-- what was read when the vBucket 0, with one change, is put on the branch 7, which was made at 1 from the parent, and the link 1 was dialed to it
abbrev pub made_from : ℕ → Chronicle
made_from parent = after_dial (after_lines empty_chronicle (active_vb_lines 0 5 ++ active_vb_lines 1 6 ++ change_line 0 ∷ event.Branch 0 0 7 (Some parent) 1 1 ∷ [])) 1 0 1 0 answer.Ok

-- and when that vBucket was dead then
abbrev pub made_dead : Chronicle
made_dead = after_lines (made_from 5) (event.Role 0 0 role.Dead ∷ [])

-- a follower of the branch 5 asks it for what comes above `at`
abbrev pub made_ask_lines : ℕ → AskAnswer → List Event
made_ask_lines at said = ask_lines (ask_above at 5) 1 (record { uuid = 7; seq = 1 } ∷ log_of 5) said

-- what was read when a replica took over the log of the branch 5, which has one change
abbrev pub after_adopted : Chronicle
after_adopted = after_lines empty_chronicle (active_vb_lines 0 5 ++ event.Role 1 0 role.Replica ∷ change_line 0 ∷ adopted_lines 5)

-- that replica without a change, at a position that has this end
abbrev pub empty_in : ℕ → ℕ → Plain
empty_in at se = record (new_vb 1 role.Replica 0) { position = record { ss = at; se = se; at = at }; log = log_of 5 }

-- that replica with a change of which no line tells
abbrev pub changed_in : Plain
changed_in = record (empty_in 0 1) { held = one_change ∷ [] }

-- what was read when it got the one change
abbrev pub after_got : Chronicle
after_got = after_lines after_adopted (event.Ranged 1 0 0 1 ∷ event.Got 1 0 (name.Link 1) one_change ∷ [])

-- that replica with what the change leaves, and no change on it: it went back to there
abbrev pub based : Plain
based = record (empty_in 1 1) { base = image_of (one_change ∷ []); last_cas = 1; floor = 1; saved = 1; flushed = 1 }

-- with a last CAS that has no 64 bits
abbrev pub unbounded : Plain
unbounded = record based { last_cas = 2 ^ 64 }

-- each vBucket of the node 0 is active on the branch 5, without a change
abbrev pub all_active : PlainWorld
all_active = with_node_at empty_world 0 (record empty_node { vbs = λ v. Some (new_vb 0 role.Active 5) })

-- the vBucket 0 on the branch 5, whose chain has these other members, with its first change, a prepare that is outstanding
abbrev pub prepared_in : Members → Plain
prepared_in others = prepared_vb (record (new_vb 0 role.Active 5) { others = others }) (set_write (7 ∷ []) (8 ∷ [])) (record { level = level.Majority; deadline = 0; waiter = 0 }) 1

-- the node 0 without a vBucket, whose connection 1 is told as one of this node
abbrev pub client_world : ℕ → PlainWorld
client_world n = with_node_at empty_world 0 (record empty_node { clients = λ c. if c == 1 then Some (new_client (record { node = n; client = 1; base = 0 })) else None })
