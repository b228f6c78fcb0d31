-- sets and removals, and what stands behind them, to be judged by hand
use Rattle.std.specs.Prelude.{ℕ, List, [], ◌∷◌, Some, None}
use Rattle.mcbp_frame.specs.Spelling.{spelling}
use Rattle.mcbp_kv.specs.Answers.{bare_answer, stored_answer}
use Rattle.mcbp_kv.specs.Replies.{reply_frame}
use Rattle.mcbp_kv.specs.declared.opcodes.TheConstants.{SET}
use Rattle.script_text.specs.declared.verb.Verb.TheVariants as verb
use Rattle.script_text.specs.declared.verb.VbVerb.TheVariants as vb_verb
use Rattle.vb_events.specs.declared.event.Event.{Event}
use Rattle.vb_events.specs.declared.event.Event.TheVariants as event
use Rattle.vb_events.specs.declared.event.Group.{Group}
use Rattle.vb_types.specs.declared.change.Act.TheVariants as act
use Rattle.vb_types.specs.declared.change.Level.TheVariants.{Majority}
use Rattle.vb_types.specs.declared.role.Role.TheVariants as role
use Rattle.vb_types.specs.declared.status.Status.TheVariants.{KeyEexists}
use Rattle.transcript_law.specs.Commits.{prepare_of, the_commit}
use Rattle.transcript_law.specs.Lawfulness.{LawfulFrom, LawfulGroups}
use Rattle.transcript_law.specs.AnswerRows.{awaiting}
use Rattle.transcript_law.specs.{ClientAskRows.{serving, unopened}, ClientStreamRows.{pending}}
use Rattle.transcript_law.specs.Chronicles.{Chronicle, with_at, with_id}
use Rattle.transcript_law.specs.Transcripts.{active_vb_lines, first_doc, group_done, script_line, set_frame, shown_with_change, value_lines}

-- the vBucket 0 of the node 0 takes the document of the key 7 away by its second change
abbrev pub removal_line : Event
removal_line = event.Changed 0 0 5 (record { seq = 2; key = 7 ∷ []; act = act.Remove 2 2 })

-- it gives a prepare up
abbrev pub abort_line : Event
abort_line = event.Changed 0 0 5 (record { seq = 2; key = 9 ∷ []; act = act.Abort 1 })

-- it prepares the key 9, and commits that
abbrev pub prepare_line : Event
prepare_line = event.Changed 0 0 5 (prepare_of Majority)

abbrev pub commit_line : Event
commit_line = event.Changed 0 0 5 the_commit

-- a client of the node 1 is told what one of the node 0 ought to be
abbrev pub told_elsewhere : Event
told_elsewhere = event.Reply 1 1 (spelling (reply_frame (stored_answer SET 9 1 [])))

-- a write is told as refused
abbrev pub refusal_told : Event
refusal_told = event.Reply 0 1 (spelling (reply_frame (bare_answer SET KeyEexists 9)))

-- the key 7 is set and shown, and the line that sets it has these lines
abbrev pub one_set_told : List Event → List Group
one_set_told lines =
    group_done 1 [] ∷ group_done 2 [] ∷ group_done 3 (active_vb_lines 0 5) ∷ group_done 4 lines ∷ group_done 5 (shown_with_change role.Active 5 1 0 (value_lines (8 ∷ []))) ∷ []

-- the connection 1 of the node 0 asked by these bytes; of its two vBuckets the vBucket 0 has a prepare that waits, by which the question was so first in an earlier group, and the vBucket 1, on the branch 6, holds nothing
abbrev pub two_written : List ℕ → Chronicle
two_written bytes =
    let one = awaiting (serving pending (unopened bytes)) in record one {
      tree = record { id = 6; parent = None; fork = 0; own = [] } ∷ one.tree;
      held = with_at one.held 0 1 [];
      branch_at = with_at one.branch_at 0 1 (Some 6);
      writer_of = with_id one.writer_of 6 (Some (0, 1));
    }

-- the vBucket 1 sets the key 7 to 8, with the CAS that the prepare has
abbrev pub beside_set : Event
beside_set = event.Changed 0 1 6 (record { seq = 1; key = 7 ∷ []; act = act.Set (first_doc 2 (8 ∷ [])) })

-- a SET of it that is not to be durable
abbrev pub sets_beside : List ℕ
sets_beside = spelling (record (set_frame (7 ∷ []) (8 ∷ [])) { vb_or_status = 1 })

-- after what was read so these lines are lawful
abbrev pub LawfulBeside : List ℕ → List Event → Type 0
LawfulBeside bytes lines = LawfulFrom (two_written bytes) lines

-- a `tick` tells these lines, after whatever was read
abbrev pub NoTick : List Event → Type 0
NoTick lines = (chronicle : Chronicle) → LawfulGroups chronicle (script_line 1 (verb.AtVb 0 0 vb_verb.Tick) ∷ []) (group_done 1 lines ∷ []) → ⊥
