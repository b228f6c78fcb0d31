-- lines that leave something undone, to be judged by hand
use Rattle.std.specs.Prelude.{ℕ, Bool, true, List, [], ◌∷◌, ◌++◌}
use Rattle.script_text.specs.declared.verb.Verb.{Verb}
use Rattle.script_text.specs.declared.verb.Verb.TheVariants as verb
use Rattle.script_text.specs.declared.verb.LinkVerb.TheVariants as link_verb
use Rattle.script_text.specs.declared.verb.VbVerb.TheVariants as vb_verb
use Rattle.vb_events.specs.declared.event.Answer.TheVariants as answer
use Rattle.vb_events.specs.declared.event.Cause.TheVariants as cause
use Rattle.vb_events.specs.declared.event.Event.{Event}
use Rattle.vb_events.specs.declared.event.Event.TheVariants as event
use Rattle.vb_events.specs.declared.event.ItemAct.TheVariants as item_act
use Rattle.vb_events.specs.declared.event.StreamName.TheVariants as name
use Rattle.vb_events.specs.declared.event.Why.TheVariants as why
use Rattle.transcript_law.specs.BoundRows.{LawfulHere}
use Rattle.transcript_law.specs.Chronicles.{Chronicle, after_dial, after_group, after_line, after_lines, after_roll, blank_disk, empty_chronicle}
use Rattle.transcript_law.specs.Commits.{prepare_of}
use Rattle.transcript_law.specs.Crashes.{Said}
use Rattle.transcript_law.specs.Followers.{adopted_lines, after_both, both_changed, both_sent_lines, first_item_line, granted_lines, marker_line, next_change}
use Rattle.transcript_law.specs.Journals.{batch_lines, with_stood, within}
use Rattle.transcript_law.specs.Transcripts.{active_vb_lines}
use Rattle.transcript_law.specs.Undone.{LeavesNone}
use Rattle.vb_types.specs.declared.change.Level.{Level}

-- the replica of the node 1 is asked for a batch
abbrev pub take_here : Verb
take_here = verb.AtVb 1 0 vb_verb.Take

-- which takes none, or one of so many changes, up to a seqno in the snapshot from 0 up to 2
abbrev pub takes_none : Said
takes_none = ([], answer.Number 0)

abbrev pub takes_to : ℕ → ℕ → Said
takes_to at count = (batch_lines 2 at count, answer.Number count)

-- it is lawful that it does so, after what was read
abbrev pub LawfulTake : Chronicle → Said → Type 0
LawfulTake chronicle said = LawfulHere chronicle take_here said

-- the replica has its two changes, of which those up to this seqno were taken and stand
abbrev pub stands_to : ℕ → Chronicle
stands_to at = with_stood after_both (within 2 at ∷ []) at

-- it has them, and its journal is closed
abbrev pub shut_both : Chronicle
shut_both = record after_both { disk_at = λ n v. record blank_disk { there = true; closed = true } }

-- a batch up to this seqno was taken then, and could not be appended
abbrev pub taken_shut : ℕ → Chronicle
taken_shut at = after_group shut_both take_here (batch_lines 2 at at) (answer.Number at)

abbrev pub lost : ℕ → Chronicle
lost at = after_group (taken_shut at) (verb.AtVb 1 0 vb_verb.Save) [] (answer.No cause.Closed)

-- both changes were taken and stand, and the replica goes back to the first; it takes the second again
abbrev pub back_at_one : Chronicle
back_at_one = after_roll (with_stood after_both (within 2 2 ∷ within 1 1 ∷ []) 2) 1 0 1

abbrev pub regot : Chronicle
regot = after_line back_at_one (event.Got 1 0 (name.Link 1) next_change)

-- ---- streams

-- the producer of the link 1 is to put frames, which is lawful so, after what was read
abbrev pub LawfulPump : Chronicle → Said → Type 0
LawfulPump chronicle said = LawfulHere chronicle (verb.AtLink 1 (link_verb.Pump 9)) said

-- it puts none, as there is none, and as the window is shut
abbrev pub puts_none : Said
puts_none = ([], answer.Pulled 0 why.Idle)

abbrev pub is_shut : Said
is_shut = ([], answer.Pulled 0 why.Full)

-- and as its journal can't be read
abbrev pub unread_now : Said
unread_now = ([], answer.Pulled 0 why.Disk)

-- what was read when the link's stream was granted, and its vBucket has two changes
abbrev pub granted_both : Chronicle
granted_both = after_lines (after_dial empty_chronicle 1 0 1 0 answer.Ok) (active_vb_lines 0 5 ++ both_changed ++ granted_lines ++ adopted_lines 5)

-- the vBucket counts the changes up to this seqno as saved, and its journal is closed, or is not
abbrev pub journal_so : Bool → ℕ → Chronicle → Chronicle
journal_so closed seq chronicle = record chronicle { disk_at = λ n v. record blank_disk { there = true; saved = seq; closed = closed } }

-- it puts both, or the first of a snapshot of both, or the end, and then its journal can't be read
abbrev pub both_unread : Said
both_unread = (both_sent_lines, answer.Pulled 3 why.Disk)

abbrev pub half_unread : Said
half_unread = (marker_line 0 2 ∷ first_item_line ∷ [], answer.Pulled 2 why.Disk)

abbrev pub end_unread : Said
end_unread = (event.Finished (name.Link 1) 2 ∷ [], answer.Pulled 1 why.Disk)

-- it puts the first change of a snapshot of both, and of one that it is the whole of
abbrev pub puts_half : Said
puts_half = (marker_line 0 2 ∷ first_item_line ∷ [], answer.Pulled 2 why.Idle)

abbrev pub puts_first : Said
puts_first = (marker_line 0 1 ∷ first_item_line ∷ [], answer.Pulled 2 why.Idle)

-- it puts the stream's end
abbrev pub puts_end : Said
puts_end = (event.Finished (name.Link 1) 2 ∷ [], answer.Pulled 1 why.Idle)

-- ---- acknowledgements

-- what was read when the active vBucket made a prepare of this level, and it was put on the link's stream, in a snapshot up to `end`
abbrev pub prepare_sent : Level → ℕ → Chronicle
prepare_sent how end =
    after_lines (after_dial empty_chronicle 1 0 1 0 answer.Ok)
    (active_vb_lines 0 5 ++ event.Changed 0 0 5 (prepare_of how) ∷ granted_lines ++ adopted_lines 5 ++ marker_line 0 end ∷ event.Item (name.Link 1) 1 item_act.Prepare (9 ∷ []) ∷ [])

-- the replica takes it
abbrev pub prepare_got : Level → ℕ → List Event
prepare_got how end = event.Ranged 1 0 0 end ∷ event.Got 1 0 (name.Link 1) (prepare_of how) ∷ []

-- and acknowledges all up to here, where it wrote nothing down
abbrev pub acknowledged_too : Level → ℕ → List Event
acknowledged_too how seq = prepare_got how 1 ++ event.Acknowledged (name.Link 1) 1 0 seq 0 ∷ []

-- it took the prepare by an earlier line, and acknowledged nothing
abbrev pub prepare_held : Level → Chronicle
prepare_held how = after_lines (prepare_sent how 1) (prepare_got how 1)

-- it took the marker alone by an earlier line
abbrev pub prepare_marked : Level → Chronicle
prepare_marked how = after_lines (prepare_sent how 1) (event.Ranged 1 0 0 1 ∷ [])

-- it counts so much as saved as the prepare is put
abbrev pub prepare_saved : Level → ℕ → Chronicle
prepare_saved how saved = record (prepare_sent how 1) { disk_at = λ n v. record blank_disk { there = true; saved = saved } }

-- it takes the prepare, and a marker behind it
abbrev pub change_got : Level → List Event
change_got how = event.Got 1 0 (name.Link 1) (prepare_of how) ∷ []

abbrev pub next_marker : List Event
next_marker = event.Ranged 1 0 1 2 ∷ []

-- a line `down` of the link that tells this leaves nothing undone
abbrev pub DownLeavesNone : Chronicle → List Event → Type 0
DownLeavesNone chronicle lines = LeavesNone chronicle (verb.AtLink 1 (link_verb.Down 9)) lines (answer.Number 9)
