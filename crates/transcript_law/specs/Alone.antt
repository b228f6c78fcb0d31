-- lines each of which one clause of the law alone refuses, to be judged by hand
use Rattle.std.specs.Prelude.{ℕ, false, true, List, [], ◌∷◌, take, Some, None}
use Rattle.script_text.specs.declared.verb.ScriptLine.{ScriptLine}
use Rattle.vb_types.specs.declared.change.Act.TheVariants as act
use Rattle.vb_types.specs.declared.change.Change.{Change}
use Rattle.vb_types.specs.declared.change.Level.TheVariants.{Majority}
use Rattle.vb_events.specs.declared.event.Answer.TheVariants as answer
use Rattle.vb_types.specs.declared.stream.AskAnswer.TheVariants as ask_answer
use Rattle.vb_events.specs.declared.event.Event.{Event}
use Rattle.vb_events.specs.declared.event.Event.TheVariants as event
use Rattle.vb_events.specs.declared.event.Group.{Group}
use Rattle.vb_events.specs.declared.event.ItemAct.TheVariants as item_act
use Rattle.vb_events.specs.declared.event.StreamName.TheVariants as name
use Rattle.vb_types.specs.declared.role.Role.{Role}
use Rattle.vb_types.specs.declared.role.Role.TheVariants as role
use Rattle.transcript_law.specs.Chronicles.{Chronicle, after_dial, after_lines, empty_chronicle}
use Rattle.transcript_law.specs.Commits.{prepared_known}
use Rattle.transcript_law.specs.Contrary.{after_ack, sent_known, strange_change}
use Rattle.transcript_law.specs.Followers.{after_both, ask_above, both_sent_lines, first_item_line, granted_inside, marker_line, next_change}
use Rattle.transcript_law.specs.Rollbacks.{after_active, stream_end_lines}
use Rattle.transcript_law.specs.Transcripts.{change_line, first_doc, one_change, one_set, one_set_groups, shown_with_change, value_lines}

-- ---- changes, and what is shown

-- what was read when the branch 5 has its one change, as if its vBucket held nothing, and as if it held another one
abbrev pub held_less : Chronicle
held_less = record (after_lines after_active (change_line 0 ∷ [])) { held = λ n v. [] }

abbrev pub held_otherwise : Chronicle
held_otherwise = record (after_lines after_active (change_line 0 ∷ [])) { held = λ n v. strange_change ∷ [] }

-- it is shown with that other one
abbrev pub strange_shown : List Event
strange_shown = shown_with_change role.Active 5 1 0 (event.Document (9 ∷ []) (first_doc 1 (8 ∷ [])) ∷ [])

-- a replica inside a snapshot is shown as if a prepare waited
abbrev pub shown_waiting : List Event
shown_waiting = event.Shown 1 0 role.Replica 5 1 0 2 1 1 ∷ value_lines (8 ∷ [])

-- what was read when a vBucket prepared the key 9, and as if it did not hold that
abbrev pub prepared : Chronicle
prepared = prepared_known Majority

abbrev pub prepared_less : Chronicle
prepared_less = record prepared { held = λ n v. [] }

-- the prepare is committed, as a set of this value, and as a removal
abbrev pub commit_set : List ℕ → List Event
commit_set value = event.Changed 0 0 5 (record { seq = 2; key = 9 ∷ []; act = act.Commit 1 (first_doc 1 value) false }) ∷ []

abbrev pub commit_removal : List Event
commit_removal = event.Changed 0 0 5 (record { seq = 2; key = 9 ∷ []; act = act.Commit 1 (first_doc 1 (6 ∷ [])) true }) ∷ []

-- ---- ends of links

-- what was read when the link 1 was dialed, from the node 0 to the vBucket 0 of the node 1
abbrev pub dialed_once : Chronicle
dialed_once = after_dial empty_chronicle 1 0 1 0 answer.Ok

-- a request over it is refused by the vBucket 0 of this node
abbrev pub refused_at : ℕ → List Event
refused_at n = event.Asked (name.Link 1) n 0 (ask_above 0 0) 0 [] (ask_answer.Refuse 7) ∷ []

-- a vBucket goes back to 0 where 1 was named
abbrev pub back_at : ℕ → ℕ → List Event
back_at n v = event.Rolled n v 1 0 ∷ []

-- what was read when the replica was sent both changes, as if it held them already
abbrev pub held_before : Chronicle
held_before = record (sent_known both_sent_lines) { held = λ n v. one_change ∷ next_change ∷ [] }

abbrev pub first_before : Chronicle
first_before = record (sent_known (marker_line 0 1 ∷ first_item_line ∷ [])) { held = λ n v. one_change ∷ next_change ∷ [] }

-- a vBucket takes a marker, or the first change from the link 1
abbrev pub range_at : ℕ → ℕ → ℕ → List Event
range_at n v end = event.Ranged n v 0 end ∷ []

abbrev pub got_at : ℕ → ℕ → Change → List Event
got_at n v c = event.Got n v (name.Link 1) c ∷ []

-- as if each vBucket was on their branch then, and its link's stream was of it, so that the dial alone says whose it is
abbrev pub sent_anywhere : Chronicle
sent_anywhere = record (sent_known both_sent_lines) { branch_at = λ n v. Some 5; stream_of = λ s v. (sent_known both_sent_lines).stream_of s 0 }

-- the first change with another value
abbrev pub other_value : Change
other_value = record { seq = 1; key = 7 ∷ []; act = act.Set (first_doc 1 (9 ∷ [])) }

-- what was read when the replica has both changes, and got this role
abbrev pub both_in : Role → Chronicle
both_in said = after_lines after_both (event.Role 1 0 said ∷ [])

-- what was read when the replica acknowledged both changes, as if each vBucket was on its branch with both, with its link's stream, and in no known role
abbrev pub counts_anywhere : Chronicle
counts_anywhere = record (after_ack 2) { role_at = λ n v. None; branch_at = λ n v. Some 5; held = λ n v. one_change ∷ next_change ∷ []; stream_of = λ s v. (after_ack 2).stream_of s 0 }

-- a vBucket counts what the node 1 acknowledged
abbrev pub counts_at_vb : ℕ → ℕ → List Event
counts_at_vb n v = event.Counted (name.Link 1) n v 1 2 ∷ []

-- ---- streams

-- what was read when a stream began a snapshot, and when its end was told inside it
abbrev pub begun_one : Chronicle
begun_one = after_lines (granted_inside 2) (marker_line 0 2 ∷ [])

abbrev pub ended_inside : Chronicle
ended_inside = after_lines begun_one stream_end_lines

-- the item of the second change, as if that was a removal
abbrev pub removed_item : List Event
removed_item = event.Item (name.Link 1) 2 item_act.Remove (9 ∷ []) ∷ []

-- ---- groups

-- the lines of a short script, and its groups, so many of each
abbrev pub first_lines : ℕ → List ScriptLine
first_lines n = take n one_set

abbrev pub first_groups : ℕ → List Group
first_groups n = take n (one_set_groups 1 0 (value_lines (8 ∷ [])))
