-- a takeover from the vBucket 0 of the node 0 to that of the node 1, step by step, and lines of it to be judged by hand
use Rattle.std.specs.Prelude.{◌≡◌, ℕ, ◌==◌, ◌-◌, ◌^◌, if◌then◌else◌, true, false, Bool, List, [], ◌∷◌, ◌++◌, take, Some, None}
use Rattle.script_text.specs.declared.verb.Verb.{Verb}
use Rattle.script_text.specs.declared.verb.Verb.TheVariants as verb
use Rattle.script_text.specs.declared.verb.LinkVerb.TheVariants as link_verb
use Rattle.script_text.specs.declared.verb.VbVerb.TheVariants as vb_verb
use Rattle.vb_disk.specs.declared.fuse.Fuse.{Fuse}
use Rattle.vb_events.specs.declared.event.Answer.{Answer}
use Rattle.vb_events.specs.declared.event.Answer.TheVariants as answer
use Rattle.vb_events.specs.declared.event.EndReason.{EndReason}
use Rattle.vb_events.specs.declared.event.EndReason.TheVariants as reason
use Rattle.vb_events.specs.declared.event.Event.{Event}
use Rattle.vb_events.specs.declared.event.Event.TheVariants as event
use Rattle.vb_events.specs.declared.event.StreamName.TheVariants as name
use Rattle.vb_events.specs.declared.event.Why.{Why}
use Rattle.vb_events.specs.declared.event.Why.TheVariants as why
use Rattle.vb_types.specs.declared.change.Act.TheVariants as act
use Rattle.vb_types.specs.declared.change.Change.{Change}
use Rattle.vb_types.specs.declared.journal.Record.{Record}
use Rattle.vb_types.specs.declared.role.Role.{Role}
use Rattle.vb_types.specs.declared.role.Role.TheVariants as role
use Rattle.vb_types.specs.declared.stream.AskAnswer.TheVariants as ask_answer
use Rattle.vb_types.specs.declared.stream.StreamAsk.{StreamAsk}
use Rattle.transcript_law.specs.Chronicles.{Chronicle, after_dial, after_group, after_lines, blank_disk, empty_chronicle, no_arm}
use Rattle.transcript_law.specs.Followers.{adopted_lines, ask_lines, both_changed, both_got, both_sent_lines, log_of}
use Rattle.transcript_law.specs.Heirs.{LawfulRole}
use Rattle.transcript_law.specs.Lawfulness.{LawfulAsk}
use Rattle.transcript_law.specs.LineAnswers.{LawfulAnswer}
use Rattle.transcript_law.specs.LinesTold.{Obeyed, dialed_for}
use Rattle.transcript_law.specs.TakeoverLines.{TakeoverLine}
use Rattle.transcript_law.specs.TakeoverAnswers.{HandsOver, PumpsOn}
use Rattle.transcript_law.specs.Takeovers.{TellsOnly}
use Rattle.transcript_law.specs.Undone.{LeavesNone}
use Rattle.transcript_law.specs.Transcripts.{active_vb_lines, first_doc}

-- ---- the steps

-- the replica asks with this flag for what comes above 0: 1 is for a takeover
abbrev pub asks_with : ℕ → StreamAsk
asks_with flags = record { flags = flags; start = 0; end = 2 ^ 64 - 1; uuid = 0; ss = 0; se = 0 }

-- what was read when the branch 5 has its two changes, the request of the link 1 was granted, which was dialed for a takeover, or not, its replica took the log over, and these lines were told of the stream
abbrev pub put_so : Bool → List Event → Chronicle
put_so takes sent = record (after_lines (after_dial empty_chronicle 1 0 1 0 answer.Ok) (active_vb_lines 0 5 ++ event.Role 1 0 role.Replica ∷ both_changed ++ ask_lines (asks_with (if takes then 1 else 0)) 2 (log_of 5) ask_answer.Go ++ adopted_lines 5 ++ sent)) { takeover_of = λ l. dialed_for takes }

-- both changes were put
abbrev pub put_to : Bool → Chronicle
put_to takes = put_so takes both_sent_lines

-- or the last one was not yet
abbrev pub half_put : Chronicle
half_put = put_so true (take 2 both_sent_lines)

-- the lines of the script: the producer puts frames, its bytes are taken, and those of its consumer
abbrev pub puts : Verb
puts = verb.AtLink 1 (link_verb.Pump 9)

abbrev pub takes_down : Verb
takes_down = verb.AtLink 1 (link_verb.Down 99)

abbrev pub takes_up : ℕ → Verb
takes_up wanted = verb.AtLink 1 (link_verb.Up wanted)

-- a state is put
abbrev pub states : Role → Event
states said = event.Stated (name.Link 1) said

-- a vBucket gets a role
abbrev pub gets : ℕ → ℕ → Role → Event
gets n v said = event.Role n v said

-- a vBucket gets one by a line of the script
abbrev pub follows_here : Chronicle → Chronicle
follows_here chronicle = after_group chronicle (verb.AtVb 0 0 vb_verb.Follow) (gets 0 0 role.Replica ∷ []) answer.Ok

-- the state pending is put
abbrev pub offered : Bool → Chronicle
offered takes = after_group (put_to takes) puts (states role.Pending ∷ []) (answer.Pulled 1 why.WaitState)

-- and the replica takes both changes
abbrev pub told_pending : Bool → Chronicle
told_pending takes = after_lines (offered takes) both_got

-- it took the first one alone
abbrev pub first_got : List Event
first_got = event.Ranged 1 0 0 2 ∷ event.Got 1 0 (name.Link 1) (record { seq = 1; key = 7 ∷ []; act = act.Set (first_doc 1 (8 ∷ [])) }) ∷ []

abbrev pub half_taken : Chronicle
half_taken = after_lines (offered true) first_got

-- it is pending
abbrev pub pends : Chronicle
pends = after_group (offered true) takes_down (both_got ++ gets 1 0 role.Pending ∷ []) (answer.Number 183)

-- its answer is moved up, or all but the last byte
abbrev pub heard : Chronicle
heard = after_group pends (takes_up 99) [] (answer.Number 24)

abbrev pub half_heard : Chronicle
half_heard = after_group pends (takes_up 23) [] (answer.Number 23)

-- all of it, as no more was asked for
abbrev pub just_heard : Chronicle
just_heard = after_group pends (takes_up 24) [] (answer.Number 24)

-- its producer's vBucket is given up
abbrev pub given_up : Chronicle
given_up = after_lines heard (gets 0 0 role.Dead ∷ [])

-- or it is dead by a line of the script
abbrev pub dead_here : Chronicle
dead_here = after_group heard (verb.AtVb 0 0 vb_verb.Dead) (gets 0 0 role.Dead ∷ []) answer.Ok

-- and the state active is put
abbrev pub told_active : Chronicle
told_active = after_group heard puts (gets 0 0 role.Dead ∷ states role.Active ∷ []) (answer.Pulled 1 why.WaitState)

-- and it takes the branch over
abbrev pub moved : Chronicle
moved = after_group told_active takes_down (gets 1 0 role.Active ∷ []) (answer.Number 25)

-- its answer is moved up, and the end is put
abbrev pub moved_heard : Chronicle
moved_heard = after_group moved (takes_up 99) [] (answer.Number 24)

abbrev pub finishes : ℕ → Event
finishes reason = event.Finished (name.Link 1) reason

-- the heir's vBucket is given up in turn, over another link
abbrev pub given_on : Chronicle → Chronicle
given_on chronicle = after_group chronicle (verb.AtLink 2 (link_verb.Pump 9)) (gets 1 0 role.Dead ∷ []) (answer.Pulled 1 why.WaitState)

-- the state active was put just now, by lines of a group that is not over
abbrev pub put_active_now : Chronicle
put_active_now = after_lines heard (gets 0 0 role.Dead ∷ states role.Active ∷ [])

abbrev pub ended_with : ℕ → Chronicle → Chronicle
ended_with reason chronicle = after_group chronicle puts (finishes reason ∷ []) (answer.Pulled 1 why.Idle)

-- one more change was made before the vBucket was given up, and nothing more was put
abbrev pub third_change : Change
third_change = record { seq = 3; key = 11 ∷ []; act = act.Set (first_doc 3 (6 ∷ [])) }

abbrev pub with_third : Chronicle → Chronicle
with_third chronicle = after_lines chronicle (event.Changed 0 0 5 third_change ∷ [])

abbrev pub told_active_short : Chronicle
told_active_short = after_group (with_third heard) puts (gets 0 0 role.Dead ∷ states role.Active ∷ []) (answer.Pulled 1 why.WaitState)

-- the heir is in another snapshot
abbrev pub told_active_in : ℕ × ℕ → Chronicle
told_active_in ends = record told_active { snap_at = λ n v. Some ends }

-- the link is cut
abbrev pub cut_here : Chronicle → Chronicle
cut_here chronicle = after_group chronicle (verb.AtLink 1 link_verb.Cut) (event.Ended 1 reason.Cut ∷ []) answer.Ok

-- the heir makes a change
abbrev pub heir_change : Event
heir_change = event.Changed 1 0 5 third_change

-- what was read when the marker alone was put, and pending behind it
abbrev pub marked_only : Chronicle
marked_only = after_group (put_so true (take 1 both_sent_lines)) puts (states role.Pending ∷ []) (answer.Pulled 1 why.WaitState)

-- when the state was put on the stream of another link
abbrev pub told_beside : Chronicle
told_beside = after_lines (put_to true) (event.Stated (name.Link 2) role.Pending ∷ both_got)

-- when the link was dialed anew behind the state, for a takeover, and its request granted
abbrev pub redialed : Chronicle
redialed = record (after_lines (after_dial (told_pending true) 1 0 1 0 answer.Ok) (ask_lines (asks_with 1) 2 (log_of 5) ask_answer.Go)) { takeover_of = λ l. dialed_for true }

-- when the replica is dead; and when the state active was put where it is no pending one
abbrev pub fallen : Chronicle
fallen = after_lines (told_pending true) (gets 1 0 role.Dead ∷ [])

abbrev pub told_active_early : Chronicle
told_active_early = after_lines (told_pending true) (gets 0 0 role.Dead ∷ states role.Active ∷ [])

-- as if another vBucket wrote on the branch then; and as if each vBucket was active
abbrev pub written_by_another : Chronicle
written_by_another = record told_active { writer_of = λ u. Some (2, 0) }

abbrev pub active_then : Chronicle
active_then = record told_active { role_at = λ n v. Some (Some role.Active) }

-- the vBucket 0 of the node 2 made the branch 6 before the state active is put, and before the heir is active
abbrev pub told_active_beside : Chronicle
told_active_beside = after_lines heard (gets 0 0 role.Dead ∷ event.Branch 2 0 6 None 0 0 ∷ states role.Active ∷ [])

abbrev pub moved_beside : Chronicle
moved_beside = after_lines told_active_beside (gets 1 0 role.Active ∷ [])

-- its vBucket is given up before the replica obeyed
abbrev pub given_up_early : Chronicle
given_up_early = after_lines (told_pending true) (gets 0 0 role.Dead ∷ [])

-- nobody writes on the branch any more
abbrev pub unwritten : Chronicle → Chronicle
unwritten chronicle = record chronicle { writer_of = λ u. None }

-- the replica was pending before, and takes nothing; its acknowledgements are moved up
abbrev pub untaken : Chronicle
untaken = after_group (record (offered true) { role_at = λ n v. if n == 1 then Some (Some role.Pending) else Some (Some role.Active) }) (takes_up 99) [] (answer.Number 24)

-- the vBucket is given up over the link 2
abbrev pub given_elsewhere : Chronicle
given_elsewhere = after_group heard (verb.AtLink 2 (link_verb.Pump 9)) (gets 0 0 role.Dead ∷ []) (answer.Pulled 1 why.WaitState)

-- the link's request is let continue once more
abbrev pub asked_again : Chronicle
asked_again = after_group dead_here (takes_up 99) (event.Asked (name.Link 1) 0 0 (asks_with 1) 2 (log_of 5) ask_answer.Go ∷ []) (answer.Number 24)

-- ---- roles

-- the vBucket v of the node n may get this role
abbrev pub MayGet : Chronicle → ℕ → ℕ → Role → Type 0
MayGet chronicle n v said = LawfulRole chronicle n v said

-- ---- what is written down

-- the journals of all vBuckets are closed, or not, and each node has this arm
abbrev pub journals_under : Bool → Fuse → Chronicle → Chronicle
journals_under closed f chronicle = record chronicle { disk_at = λ n v. record blank_disk { there = true; closed = closed }; arm_at = λ n. record no_arm { fuse = f } }

-- so it is answered, where it tells these lines
abbrev pub DownAnswer : Bool → Fuse → List Event → Answer → Type 0
DownAnswer closed f lines said = LawfulAnswer (journals_under closed f told_active) takes_down lines said

-- and behind it these records stand in the heir's journal
abbrev pub HasNoted : Fuse → List Event → Answer → List Record → Type 0
HasNoted f lines said book = ((after_group (journals_under false f told_active) takes_down lines said).disk_at 1 0).book ≡ book

-- the lines of a takeover of which nothing is written down, and of one whose append fails
abbrev pub rises : List Event
rises = gets 1 0 role.Active ∷ []

abbrev pub rises_failing : List Event
rises_failing = gets 1 0 role.Active ∷ event.CallFailed 1 ∷ event.Ended 1 reason.Disk ∷ []

-- a commit of the vBucket v of the node n, which it makes alone; and of the heir
abbrev pub commits_at : ℕ → ℕ → Event
commits_at n v = event.Changed n v 5 (record { seq = 3; key = 9 ∷ []; act = act.Commit 2 (first_doc 2 (6 ∷ [])) false })

abbrev pub heir_commit : Event
heir_commit = commits_at 1 0

-- a marker of another link
abbrev pub marks_beside : Event
marks_beside = event.Marked (name.Link 2) 2 4 1

-- ---- groups

-- where this is put, a `pump` may tell these lines, and so may a `down`
abbrev pub PumpTells : Chronicle → List Event → Type 0
PumpTells chronicle lines = TellsOnly chronicle puts lines

abbrev pub DownTells : Chronicle → List Event → Type 0
DownTells chronicle lines = TellsOnly chronicle takes_down lines

-- a client of the node is answered
abbrev pub answers_at : ℕ → Event
answers_at n = event.Reply n 1 []

-- ---- single lines, and answers

-- where this is put, such a line may stand
abbrev pub MayStand : Chronicle → Event → Type 0
MayStand chronicle line = TakeoverLine chronicle line

-- and a `pump` may be answered so, of which these lines are told
abbrev pub PumpSays : Chronicle → List Event → ℕ → Why → Type 0
PumpSays chronicle lines n said = PumpsOn chronicle puts lines (answer.Pulled n said) × LeavesNone chronicle puts lines (answer.Pulled n said)

-- and a whole group may hand over
abbrev pub MayHand : Chronicle → Verb → List Event → Answer → Type 0
MayHand chronicle asked lines said = HandsOver chronicle asked lines said

-- its request is let continue, with this flag
abbrev pub asked_with : ℕ → Event
asked_with flags = event.Asked (name.Link 1) 0 0 (asks_with flags) 2 (log_of 5) ask_answer.Go

-- the link ends for this reason
abbrev pub links_end : EndReason → Event
links_end said = event.Ended 1 said

-- so much is known of the link
abbrev pub KnownAs : Chronicle → Bool → ℕ → Obeyed → Type 0
KnownAs chronicle turned moved obeyed = chronicle.takeover_of 1 ≡ record { dialed = true; turned = turned; moved = moved; obeyed = obeyed }

-- its request is let continue, lawfully, with this flag
abbrev pub MayAsk : Chronicle → ℕ → Type 0
MayAsk chronicle flags = LawfulAsk chronicle 1 0 0 (asks_with flags) 2 (log_of 5) ask_answer.Go
