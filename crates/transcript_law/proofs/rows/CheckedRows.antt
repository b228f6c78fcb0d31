-- lines that a checker reads, judged by hand
use Rattle.std.proofs.Common.{Bool, List, [], ap, arith, false, inl, inr, refl, subst, sym, true, ℕ, ⊎_elim, ◌++◌, ◌∙◌, ◌∷◌, ◌≡◌, ◌≤◌}
use Rattle.std.specs.Prelude.{Option, Some, None, if◌then◌else◌, ◌==◌, ◌&&◌}
unfoldable use Rattle.mcbp_dcp.specs.DcpFrames.{dcp_frame}
unfoldable use Rattle.mcbp_dcp.specs.Messages.{read_of}
unfoldable use Rattle.mcbp_dcp.specs.Rows.{frame_row}
unfoldable use Rattle.mcbp_dcp.specs.Shapes.{shape_fault}
unfoldable use Rattle.mcbp_frame.specs.Cutting.{frames_in}
unfoldable use Rattle.mcbp_frame.specs.Frames.{first_frame, frame_of}
unfoldable use Rattle.mcbp_frame.specs.Spelling.{spelling}
unfoldable use Rattle.mcbp_kv.specs.Framing.{requirement_of}
unfoldable use Rattle.mcbp_kv.specs.Requests.{request_of}
use Rattle.dcp_producer.specs.Frames.{act_message}
use Rattle.durability.specs.{Chains.{Members}, Laws.{HasOne, WantsSaved}}
use Rattle.mcbp_dcp.specs.declared.message.DcpMsg.{DcpMsg}
use Rattle.mcbp_dcp.specs.declared.message.DcpMsg.TheVariants as msg
use Rattle.mcbp_kv.specs.declared.opcodes.TheConstants.{SET}
use Rattle.branch_model.specs.Histories.{last_seq}
use Rattle.branch_model.specs.Logs.{front, uuid_of}
use Rattle.vb_events.specs.declared.event.Event.{Event}
use Rattle.vb_events.specs.declared.event.Event.TheVariants as event
use Rattle.vb_events.specs.declared.event.ItemAct.TheVariants.{Set}
use Rattle.vb_events.specs.declared.event.StreamName.TheVariants.{Link}
use Rattle.vb_types.specs.declared.change.Act.TheVariants as act
use Rattle.vb_types.specs.declared.change.Change.{Change}
use Rattle.vb_types.specs.declared.change.Level.{Level}
use Rattle.vb_types.specs.declared.change.Level.TheVariants.{Majority, MajorityPersistActive, PersistMajority}
use Rattle.vb_types.specs.declared.change.Pend.{Pend}
use Rattle.vb_types.specs.declared.doc.Doc.{Doc}
use Rattle.vb_types.specs.declared.role.Role.{Role}
use Rattle.vb_types.specs.declared.stream.AskAnswer.TheVariants as ask_answer
use Rattle.vb_types.specs.declared.stream.Verdict.TheVariants.{Continue, Roll}
use Rattle.transcript_law.proofs.Checking.{lines_pass, passes}
use Rattle.transcript_law.proofs.rows.AckRows as acks
use Rattle.transcript_law.proofs.rows.AckRows.{branch_in, lacks_first, number_in, wrote_in}
use Rattle.transcript_law.proofs.rows.AnswerCommits as commits
use Rattle.transcript_law.proofs.rows.AnswerCommits.{commit_bytes, commit_is, level_of, names_in}
use Rattle.transcript_law.proofs.rows.Answering.{byte_at}
use Rattle.transcript_law.proofs.rows.ClientStreamEnds as ends
use Rattle.transcript_law.proofs.rows.ClientStreamItems as items
use Rattle.transcript_law.proofs.rows.ClientStreamItems.{no_skip}
use Rattle.transcript_law.proofs.rows.ClientStreamMarks as marks
use Rattle.transcript_law.proofs.rows.ClientStreamMarks.{part_put}
use Rattle.transcript_law.proofs.rows.CommitRows.{may, one_at_least, two_at_least, waits, waits_there}
use Rattle.transcript_law.proofs.rows.Contrary.{third, third_waits}
use Rattle.transcript_law.proofs.rows.Followers as followers
use Rattle.transcript_law.proofs.rows.Followers.{begun, changes, ends_within, first_item as first_link_item, next_covers, next_item as next_link_item, own_dial, own_stream, repeats, skips, strange_key, stream_is, streamed}
use Rattle.transcript_law.proofs.rows.JournalRows as journals
use Rattle.transcript_law.proofs.rows.JournalRows.{only_zero}
use Rattle.transcript_law.proofs.rows.Rollbacks.{none_put}
use Rattle.transcript_law.proofs.rows.Transcripts as whole
use Rattle.transcript_law.proofs.rows.Transcripts.{lines, two_writers}
use Rattle.transcript_law.specs.Alone.{first_groups, first_lines}
use Rattle.transcript_law.specs.AnswerRows.{awaiting, durably, makes, once, stores}
use Rattle.transcript_law.specs.Checked.{Checked, CheckedFrom, CheckedItem, CheckedMark, OfClient, OfLink}
use Rattle.transcript_law.specs.CheckedRows.{PassesAwaited, PassesCommit, PassesPut, PassesTo, last_numbered}
use Rattle.transcript_law.specs.Chronicles.{Begun, Chronicle, Dial, Granted, ItemLine, after_lines, granted}
use Rattle.transcript_law.specs.ClientStreamRows.{all_changes, asks_for, committed, durable, ended, first_item, for_another, frame_of as frame_for, fresh, holding, inside, knows, marked, next_item, one, pending, prepared, sent, snapshot, third_change, three, tree_of, two, unframed, up_to, with_streams}
use Rattle.transcript_law.specs.ClientStreams.{ClientKnown, ClientStream, stream_view, vb_in_header}
use Rattle.transcript_law.specs.ClientAskRows.{serving, unopened}
use Rattle.transcript_law.specs.Commits.{chained_known, commit_lines, count_lines, prepared_known, saved_known}
use Rattle.transcript_law.specs.Contrary.{acknowledged_lines, counted_lines, dialed_itself, done_lines, first_lost, inside_got, new_branch_lines, on_another, sent_known, third_held}
use Rattle.transcript_law.specs.Followers.{adopted_lines, after_both, ask_above, ask_lines, ask_within, first_item_line, granted_inside, log_of, made_ask_lines, made_dead, made_from, marker_line, next_change, next_item_line, set_item_line}
use Rattle.transcript_law.specs.Journals.{with_stood, within}
use Rattle.transcript_law.specs.Lawfulness.{stream_history}
use Rattle.transcript_law.specs.Majorities.{HasAcknowledged}
use Rattle.transcript_law.specs.Rollbacks.{made_log, rest_lines, rolled_lines, sent_back}
use Rattle.transcript_law.specs.StreamLaws.{IsFrontOf, IsNextItem, IsWholeIf}
use Rattle.transcript_law.specs.Transcripts.{change_line, first_doc, one_change, one_set, one_set_groups, set_dead_and_show, set_one, sets_groups, shown_after_change, two_vbs, two_vbs_groups, value_lines}

-- ---- whole transcripts

pub right : Checked one_set (one_set_groups 1 0 (value_lines (8 ∷ [])))
right = passes _ _ whole.right

-- what is shown is the document that was set
shown_is : (docs : ℕ) (behind : List Event) → Checked one_set (one_set_groups docs 0 behind) → behind ≡ value_lines (8 ∷ [])
shown_is docs behind l = (l.passes.1.1.1.1.0.0 refl).image ∙ lines

pub value : Checked one_set (one_set_groups 1 0 (value_lines (9 ∷ []))) → ⊥
value l =
    let e : value_lines (9 ∷ []) ≡ value_lines (8 ∷ []) = shown_is 1 (value_lines (9 ∷ [])) l in
    let d : first_doc 1 (9 ∷ []) ≡ first_doc 1 (8 ∷ []) = cc in
    let v : ◌≡◌ {A = List ℕ} (9 ∷ []) (8 ∷ []) = ap (λ (doc : Doc). doc.value) d in
    cc

pub missing : Checked one_set (one_set_groups 1 0 []) → ⊥
missing l = let e : [] ≡ value_lines (8 ∷ []) = shown_is 1 [] l in cc

pub number : Checked one_set (last_numbered 6) → ⊥
number l = let e : ◌≡◌ {A = List ℕ} (1 ∷ 2 ∷ 3 ∷ 4 ∷ 6 ∷ []) (1 ∷ 2 ∷ 3 ∷ 4 ∷ 5 ∷ []) = l.numbered in let n : ◌≡◌ {A = ℕ} 6 5 = cc in omega (arith, n)

pub fewer : Checked (first_lines 5) (first_groups 4) → ⊥
fewer l = let e : ◌≡◌ {A = List ℕ} (1 ∷ 2 ∷ 3 ∷ 4 ∷ []) (1 ∷ 2 ∷ 3 ∷ 4 ∷ 5 ∷ []) = l.numbered in let none : ◌≡◌ {A = List ℕ} [] (5 ∷ []) = cc in cc

pub excess : Checked (first_lines 4) (first_groups 5) → ⊥
excess l = let e : ◌≡◌ {A = List ℕ} (1 ∷ 2 ∷ 3 ∷ 4 ∷ 5 ∷ []) (1 ∷ 2 ∷ 3 ∷ 4 ∷ []) = l.numbered in let none : ◌≡◌ {A = List ℕ} (5 ∷ []) [] = cc in cc

pub own : Checked (two_vbs 6 set_one) (two_vbs_groups 6 (sets_groups (change_line 0 ∷ [])))
own = passes _ _ whole.own

pub branch : Checked (two_vbs 5 []) (two_vbs_groups 5 []) → ⊥
branch l = l.passes.1.1.1.0.0.0 refl

pub writer : Checked (two_vbs 6 set_one) (two_vbs_groups 6 (sets_groups (change_line 1 ∷ []))) → ⊥
writer l = two_writers l.passes.1.1.1.1.0.0.writer.made_or_took

pub same : Checked (two_vbs 6 set_dead_and_show) (two_vbs_groups 6 (shown_after_change 5))
same = passes _ _ whole.same

pub history : Checked (two_vbs 6 set_dead_and_show) (two_vbs_groups 6 (shown_after_change 6)) → ⊥
history l = let e : ◌≡◌ {A = List Change} [] (one_change ∷ []) = (l.passes.1.1.1.1.1.1.0.0 refl).shared (λ z. omega (arith, z)) in cc

pub counted_wrong : Checked one_set (one_set_groups 2 0 (value_lines (8 ∷ [])))
counted_wrong = record { numbered = refl; passes = right.passes }

-- ---- requests, and logs that are taken over

pub goes : CheckedFrom (made_from 5) (made_ask_lines 1 ask_answer.Go)
goes = lines_pass (made_from 5) (made_ask_lines 1 ask_answer.Go) followers.continues

pub sent_to : CheckedFrom (made_from 5) (made_ask_lines 2 (ask_answer.Roll 1))
sent_to = lines_pass (made_from 5) (made_ask_lines 2 (ask_answer.Roll 1)) followers.rolls

pub goes_on : CheckedFrom (made_from 5) (made_ask_lines 2 ask_answer.Go) → ⊥
goes_on l = let e : Roll 1 ≡ Continue = l.0.verdict.0 in cc

pub elsewhere : CheckedFrom (made_from 5) (made_ask_lines 2 (ask_answer.Roll 0)) → ⊥
elsewhere l = let e : Roll 1 ≡ Roll 0 = l.0.verdict.0 in let n : ◌≡◌ {A = ℕ} 1 0 = cc in omega (arith, n)

pub stranger : CheckedFrom (made_from 6) (made_ask_lines 1 ask_answer.Go) → ⊥
stranger l = let e : ◌≡◌ {A = List Change} (one_change ∷ []) [] = l.0.verdict.1 (omega arith) in cc

pub dead : CheckedFrom made_dead (made_ask_lines 1 ask_answer.Go) → ⊥
dead l = let e : ◌≡◌ {A = Option (Option Role)} (Some (Some Role.Dead)) (Some (Some Role.Active)) = l.0.active in let same : Role.Dead ≡ Role.Active = cc in cc

pub log : CheckedFrom (made_from 5) (ask_lines (ask_above 1 5) 1 (log_of 5) ask_answer.Go) → ⊥
log l = let e : ◌≡◌ {A = ℕ} 7 5 = ap (λ es. uuid_of (front es)) l.0.own_log in omega (arith, e)

pub high : CheckedFrom (made_from 5) (ask_lines (ask_above 1 5) 2 made_log ask_answer.Go) → ⊥
high l = let e : ◌≡◌ {A = ℕ} 2 1 = l.0.own_high in omega (arith, e)

-- the stream of a request from inside a snapshot
abbrev inside_stream : ℕ → Granted
inside_stream se = granted (ask_within 0 1 se 5) (log_of 5)

pub adopts : CheckedFrom (granted_inside 2) (adopted_lines 5)
adopts = ((1, 0, inside_stream 2, refl, refl, refl), tt)

pub adopts_other : CheckedFrom (granted_inside 2) (adopted_lines 6) → ⊥
adopts_other l = let (k, m, g, dialed, told, same) = l.0 in by (k == 1) g told same
  where
    by : (b : Bool) (g : Granted) → (if b && true then Some (inside_stream 2) else if b then None else None) ≡ Some g → log_of 6 ≡ g.log → ⊥
    by true g e same = let is : inside_stream 2 ≡ g = cc in let n : ◌≡◌ {A = ℕ} 6 5 = ap (λ es. uuid_of (front es)) (same ∙ ap (λ (x : Granted). x.log) (sym is)) in omega (arith, n)
    by false g e same = cc

-- ---- rollbacks

pub point : CheckedFrom (with_stood sent_back (within 1 1 ∷ []) 1) (rolled_lines 1 1)
point = lines_pass (with_stood sent_back (within 1 1 ∷ []) 1) (rolled_lines 1 1) journals.point

pub point_below : CheckedFrom (with_stood sent_back (within 1 1 ∷ []) 1) (rolled_lines 1 0) → ⊥
point_below l = let few : 1 ≤ 0 = l.0.farthest 1 (inl (refl, refl)) (omega arith) in omega (arith, few)

pub inside_point : CheckedFrom (with_stood sent_back (within 2 1 ∷ []) 1) (rolled_lines 1 0)
inside_point = lines_pass (with_stood sent_back (within 2 1 ∷ []) 1) (rolled_lines 1 0) journals.inside

pub not_inside : CheckedFrom (with_stood sent_back (within 2 1 ∷ []) 1) (rolled_lines 1 1) → ⊥
not_inside l = let few : 1 ≤ 0 = only_zero 1 l.0.saved in omega (arith, few)

pub point_above : CheckedFrom (with_stood sent_back (within 2 2 ∷ within 1 1 ∷ []) 2) (rolled_lines 1 2) → ⊥
point_above l = let few : 2 ≤ 1 = l.0.below in omega (arith, few)

-- ---- snapshots of links

-- a line of the link is judged by its stream
module _ (r : Chronicle) (g : Granted) (dialed : r.dial_of 1 ≡ Some own_dial) (told : r.stream_of (Link 1) 0 ≡ Some g) where
  of_link : (Rule : Granted → Type 0) → OfLink r 1 Rule → Rule g
  of_link Rule (h, stream, ruled) = subst Rule (sym (stream_is r g h dialed told stream)) ruled

  mark_of : (start end : ℕ) → OfLink r 1 (λ g. CheckedMark (stream_history r g) true g.ask g.place g.last start end) → CheckedMark (stream_history r g) true g.ask g.place g.last start end
  mark_of start end l = of_link (λ g. CheckedMark (stream_history r g) true g.ask g.place g.last start end) l

  item_of : (item : ItemLine) (b : Begun) → g.last ≡ Some b → OfLink r 1 (λ g. CheckedItem g.last item) → IsNextItem b item
  item_of item b last l = of_item item g.last b last (of_link (λ g. CheckedItem g.last item) l)
    where
      of_item : (item : ItemLine) (last : Option Begun) (b : Begun) → last ≡ Some b → CheckedItem last item → IsNextItem b item
      of_item item last b e (c, is, next) = let both : Some c ≡ Some b = sym is ∙ e in let same : c ≡ b = cc in subst (λ x. IsNextItem x item) same next

pub whole_put : CheckedFrom (granted_inside 2) (rest_lines ++ done_lines)
whole_put = (
  (_, (0, refl, refl), record { behind = tt; covers = (next_change ∷ [], next_covers); first_start = λ e. refl; first_end = λ e. omega arith }),
  (
    (_, (0, refl, refl), (_, refl, ([], record { whole = next_change ∷ []; covers = next_covers; front = refl }, λ e. refl))),
    ((_, (0, refl, refl), λ e. record { whole = next_change ∷ []; covers = next_covers; front = refl }), tt),
  ),
)

pub start : CheckedFrom (granted_inside 2) (marker_line 1 2 ∷ []) → ⊥
start l = let e : ◌≡◌ {A = ℕ} 1 0 = (mark_of (granted_inside 2) (inside_stream 2) refl refl 1 2 l.0).first_start refl in omega (arith, e)

pub short : CheckedFrom (granted_inside 3) (marker_line 0 2 ∷ []) → ⊥
short l = let few : ◌≤◌ 3 2 = (mark_of (granted_inside 3) (inside_stream 3) refl refl 0 2 l.0).first_end refl in omega (arith, few)

pub past : CheckedFrom (sent_known []) (marker_line 0 3 ∷ []) → ⊥
past l =
    let (xs, covers) = (mark_of (sent_known []) own_stream refl refl 0 3 l.0).covers in
    let least : last_seq 0 xs ≤ 2 = ends_within 0 xs (omega arith) covers.remains.of in let e : last_seq 0 xs ≡ 3 = covers.reaches in omega (arith, least, e)

pub unput : CheckedFrom (sent_known []) (marker_line 0 1 ∷ marker_line 1 2 ∷ []) → ⊥
unput l =
    let b : IsFrontOf (begun 0 1 []) [] [] = (mark_of (after_lines (sent_known []) (marker_line 0 1 ∷ [])) (streamed (begun 0 1 [])) refl refl 1 2 l.1.0).behind in
    followers.none_put b.whole b.front b.covers.reaches

pub key : CheckedFrom (sent_known []) (marker_line 0 2 ∷ set_item_line 1 (9 ∷ []) ∷ []) → ⊥
key l = strange_key (item_of (after_lines (sent_known []) (marker_line 0 2 ∷ [])) (streamed (begun 0 2 [])) refl refl (record { seq = 1; act = Set; key = 9 ∷ [] }) (begun 0 2 []) refl l.1.0)

pub skipped : CheckedFrom (sent_known []) (marker_line 0 2 ∷ next_item_line ∷ []) → ⊥
skipped l = skips (item_of (after_lines (sent_known []) (marker_line 0 2 ∷ [])) (streamed (begun 0 2 [])) refl refl next_link_item (begun 0 2 []) refl l.1.0)

pub twice : CheckedFrom (sent_known []) (marker_line 0 2 ∷ first_item_line ∷ first_item_line ∷ []) → ⊥
twice l = repeats (item_of (after_lines (sent_known []) (marker_line 0 2 ∷ first_item_line ∷ [])) (streamed (begun 0 2 (first_link_item ∷ []))) refl refl first_link_item (begun 0 2 (first_link_item ∷ [])) refl l.1.1.0)

pub part : CheckedFrom (granted_inside 2) (marker_line 0 2 ∷ done_lines) → ⊥
part l =
    let f = of_link (after_lines (granted_inside 2) (marker_line 0 2 ∷ [])) _ refl refl (λ g. ◌≡◌ {A = ℕ} 0 0 → IsWholeIf g.last) l.1.0 refl in
    none_put f.whole f.front f.covers.reaches

-- ---- acknowledgements

pub acked : CheckedFrom after_both (acknowledged_lines 1 2 ++ counted_lines 1 2)
acked = lines_pass after_both (acknowledged_lines 1 2 ++ counted_lines 1 2) acks.counted

pub ack_above : CheckedFrom after_both (acknowledged_lines 1 3) → ⊥
ack_above l = let few : ◌≤◌ 3 2 = l.0.complete (0, 2) refl in omega (arith, few)

pub ack_inside : CheckedFrom inside_got (acknowledged_lines 1 1) → ⊥
ack_inside l = let few : ◌≤◌ 1 0 = l.0.complete (0, 2) refl in omega (arith, few)

pub unsaved : CheckedFrom third_held (acknowledged_lines 1 2) → ⊥
unsaved l = let few : ◌≤◌ 2 0 = l.0.thirds (7 ∷ []) third third_waits refl (omega arith) in omega (arith, few)

pub lost : CheckedFrom first_lost (acknowledged_lines 1 2) → ⊥
lost l = lacks_first l.0.stream l.0.fed.2 (l.0.follows (0, 2) refl)

pub astray : CheckedFrom on_another (acknowledged_lines 1 2) → ⊥
astray l = let same : ◌≡◌ {A = ℕ} 9 5 = ap number_in l.0.fed.3 ∙ sym (ap branch_in l.0.fed.2) in omega (arith, same)

pub unwritten : CheckedFrom after_both (counted_lines 1 2) → ⊥
unwritten l = subst (HasOne 2) (sym (ap wrote_in l.0.granted)) l.0.wrote

-- the node that dialed
abbrev node_in : Option Dial → ℕ
node_in None = 0
node_in (Some dial) = dial.node

pub member : CheckedFrom after_both (acknowledged_lines 1 2 ++ counted_lines 2 2) → ⊥
member l = let same : ◌≡◌ {A = ℕ} 1 2 = ap node_in l.1.0.dialed in omega (arith, same)

pub itself : CheckedFrom dialed_itself (counted_lines 0 2) → ⊥
itself l = l.0.another refl

pub branched : CheckedFrom after_both (acknowledged_lines 1 2 ++ new_branch_lines ++ counted_lines 1 2) → ⊥
branched l = let same : ◌≡◌ {A = ℕ} 7 5 = ap number_in l.1.1.0.on_branch ∙ sym (ap branch_in l.1.1.0.granted) in omega (arith, same)

-- ---- commits, and answers by them

-- what was read in front of the commit
abbrev counting : Level → Members → ℕ → List (ℕ × ℕ) → Chronicle
counting how others saved told = after_lines (saved_known (chained_known (prepared_known how) others) saved) (count_lines told)

pub of_two : PassesCommit Majority (Some 1 ∷ []) 0 ((1, 1) ∷ [])
of_two = lines_pass (counting Majority (Some 1 ∷ []) 0 ((1, 1) ∷ [])) commit_lines (may Majority _ _ (record { members = 1 ∷ []; differ = (λ i. i, tt); each = ((inl refl, inl (refl, omega arith)), tt); most = omega arith; saved_for = λ w. absurd w }), tt)

pub lacking : PassesCommit Majority (Some 1 ∷ []) 0 [] → ⊥
lacking l = let x = one_at_least (l.0.backed 1 (first_doc 1 (6 ∷ [])) false refl).3 (omega arith) in absurd x.2

pub commit_below : PassesCommit Majority (Some 1 ∷ []) 0 ((1, 0) ∷ []) → ⊥
commit_below l = let x = one_at_least (l.0.backed 1 (first_doc 1 (6 ∷ [])) false refl).3 (omega arith) in ⊎_elim (λ a. let few : ◌≤◌ 1 0 = a.1 in omega (arith, few)) (λ i. absurd i) x.2

pub not_of_chain : PassesCommit Majority (Some 1 ∷ []) 0 ((2, 1) ∷ []) → ⊥
not_of_chain l = let x = one_at_least (l.0.backed 1 (first_doc 1 (6 ∷ [])) false refl).3 (omega arith) in
    ⊎_elim (λ e. ⊎_elim (λ a. let two : ◌≡◌ {A = ℕ} 1 2 = sym e ∙ a.0 in omega (arith, two)) (λ i. absurd i) x.2) (λ i. absurd i) x.1

pub counts_twice : PassesCommit Majority (Some 1 ∷ Some 2 ∷ Some 3 ∷ []) 0 ((1, 1) ∷ (1, 2) ∷ []) → ⊥
counts_twice l = let x = two_at_least (l.0.backed 1 (first_doc 1 (6 ∷ [])) false refl).3 (omega arith) in x.2 (sym (is_one x.1 x.4) ∙ is_one x.0 x.3)
  where
    is_one : (m : ℕ) → HasAcknowledged ((1, 2) ∷ (1, 1) ∷ []) m 1 → 1 ≡ m
    is_one m h = ⊎_elim (λ a. sym a.0) (λ later. ⊎_elim (λ a. sym a.0) (λ none. absurd none) later) h

pub saved : PassesCommit PersistMajority [] 1 []
saved = lines_pass (counting PersistMajority [] 1 []) commit_lines (may PersistMajority _ _ (record { members = []; differ = tt; each = tt; most = omega arith; saved_for = λ w. omega arith }), tt)

pub commit_unsaved : PassesCommit PersistMajority [] 0 [] → ⊥
commit_unsaved l =
    let (e, there, seq, held) = l.0.backed 1 (first_doc 1 (6 ∷ [])) false refl in
    let both : Some (waits PersistMajority) ≡ Some e = sym (waits_there PersistMajority) ∙ there in let same : waits PersistMajority ≡ e = cc in
    let few : ◌≤◌ 1 0 = held.saved_for (subst (λ (p : Pend). WantsSaved p.level) same tt) in omega (arith, few)

pub told : PassesAwaited pending (durably 1 9 6) (makes committed ∷ stores SET 2 [] ∷ [])
told = lines_pass (awaiting (serving pending (unopened (durably 1 9 6)))) (makes committed ∷ stores SET 2 [] ∷ []) commits.committed

pub uncommitted : PassesTo durable (durably 1 9 6) (stores SET 2 [] ∷ []) → ⊥
unfolding spelling frames_in first_frame frame_of read_of frame_row shape_fault request_of requirement_of
uncommitted l = let (g, s, c) = l.0 _ (record { own = refl; next = refl; asks = record { own = refl; write = _; wish = _; asks = refl }; long = omega arith; success = refl }) in c.told_before

pub behind_prepare : PassesTo once (durably 1 9 6) (makes prepared ∷ stores SET 2 [] ∷ []) → ⊥
unfolding spelling frames_in first_frame frame_of read_of frame_row shape_fault request_of requirement_of
behind_prepare l = let (g, s, c) = l.1.0 _ (record { own = refl; next = refl; asks = record { own = refl; write = _; wish = _; asks = refl }; long = omega arith; success = refl }) in let e : prepared.act ≡ act.Commit c.prepared c.doc c.deleted = commit_is c in cc

pub other_cas : PassesTo pending (durably 1 9 6) (makes committed ∷ stores SET 3 [] ∷ []) → ⊥
unfolding spelling frames_in first_frame frame_of read_of frame_row shape_fault request_of requirement_of
other_cas l = let (g, s, c) = l.1.0 _ (record { own = refl; next = refl; asks = record { own = refl; write = _; wish = _; asks = refl }; long = omega arith; success = refl }) in let e : ◌≡◌ {A = ℕ} 3 2 = ap (byte_at 23) (commit_bytes c s) in omega (arith, e)

pub other_level : PassesAwaited pending (durably 2 9 6) (makes committed ∷ stores SET 2 [] ∷ []) → ⊥
unfolding spelling frames_in first_frame frame_of read_of frame_row shape_fault request_of requirement_of
other_level l = let (g, s, c) = l.1.0 _ (record { own = refl; next = refl; asks = record { own = refl; write = _; wish = _; asks = refl }; long = omega arith; success = refl }) in let e : Majority ≡ MajorityPersistActive = level_of (names_in c refl) in cc

-- ---- streams of clients

-- a line is judged by the stream of the vBucket that the frame behind it names
bytes_are : (bytes : List ℕ) (more : List Event) (there : List ℕ) (rest : List Event) → event.Reply 0 1 bytes ∷ more ≡ event.Reply 0 1 there ∷ rest → there ≡ bytes
bytes_are bytes more there rest e = cc

named_by : (Rule : ClientStream → Type 0) (known : ClientKnown) (bytes : List ℕ) (more : List Event) (o : OfClient Rule known 0 1 (event.Reply 0 1 bytes ∷ more)) → known.streams (vb_in_header bytes) ≡ Some o.stream
named_by Rule known bytes more o = ap (λ b. known.streams (vb_in_header b)) (sym (bytes_are bytes more o.bytes o.stands.0 o.stands.1)) ∙ o.known_as

of_client : (Rule : ClientStream → Type 0) (known : ClientKnown) (m : DcpMsg) (v : ℕ) (g : ClientStream) (more : List Event) → vb_in_header (spelling (dcp_frame m 9 v)) ≡ v → known.streams v ≡ Some g → OfClient Rule known 0 1 (frame_for v m ∷ more) → Rule g
of_client Rule known m v g more header is o =
    let both : Some g ≡ Some o.stream = sym is ∙ ap known.streams (sym header) ∙ named_by Rule known (spelling (dcp_frame m 9 v)) more o in let same : g ≡ o.stream = cc in subst Rule (sym same) o.ruled

-- a marker of the only stream
marked_by : (changes : List Change) (g : ClientStream) (start end : ℕ) → PassesPut changes (one g) (marked 0 start end) → CheckedMark (stream_view (tree_of changes) g) g.sync g.ask g.place g.last start end
marked_by changes g start end l = of_client (λ g. CheckedMark (stream_view (tree_of changes) g) g.sync g.ask g.place g.last start end) (with_streams (one g)) (msg.SnapshotMarker start end 1) 0 g [] (marks.header start end) refl l.0

-- what was read where each vBucket holds these changes, and the connection has this stream
abbrev put_in : List Change → ClientStream → Chronicle
put_in changes g = record (holding changes changes) { clients_at = knows (with_streams (one g)) }

pub client_whole : PassesPut two (one (fresh true all_changes)) (marked 0 0 2 ++ sent 0 one_change ++ sent 0 next_change)
client_whole = lines_pass (put_in two (fresh true all_changes)) (marked 0 0 2 ++ sent 0 one_change ++ sent 0 next_change) items.both

pub all_sent : PassesPut two (one (inside true (up_to 2) two 0 2 (first_item ∷ next_item ∷ []))) (ended 0 0)
all_sent = lines_pass (put_in two (inside true (up_to 2) two 0 2 (first_item ∷ next_item ∷ []))) (ended 0 0) ends.all_sent

pub alone : PassesPut two (one (fresh true all_changes)) unframed → ⊥
alone l = by l.0.bytes l.0.stands.0 l.0.stands.1
  where
    by : (bytes : List ℕ) (more : List Event) → [] ≡ event.Reply 0 1 bytes ∷ more → ⊥
    by bytes more e = cc

pub another : PassesPut two (one (fresh true all_changes)) for_another → ⊥
another l = by l.0.bytes l.0.stands.0 l.0.stands.1
  where
    by : (bytes : List ℕ) (more : List Event) → event.Reply 0 2 (spelling (dcp_frame (msg.SnapshotMarker 0 2 1) 9 0)) ∷ [] ≡ event.Reply 0 1 bytes ∷ more → ⊥
    by bytes more e = let n : ◌≡◌ {A = ℕ} 2 1 = cc in omega (arith, n)

pub header : PassesPut two (one (fresh true all_changes)) (marked 1 0 2) → ⊥
header l = let e : None ≡ Some l.0.stream = sym (ap (one (fresh true all_changes)) marks.other_header) ∙ named_by _ (with_streams (one (fresh true all_changes))) (spelling (dcp_frame (msg.SnapshotMarker 0 2 1) 9 1)) [] l.0 in cc

pub client_start : PassesPut two (one (fresh true (asks_for 0 1 2 9))) (marked 0 1 2) → ⊥
client_start l = let e : ◌≡◌ {A = ℕ} 1 0 = (marked_by two (fresh true (asks_for 0 1 2 9)) 1 2 l).first_start refl in omega (arith, e)

pub client_short : PassesPut three (one (fresh true (asks_for 0 1 3 9))) (marked 0 0 2) → ⊥
client_short l = let few : ◌≤◌ 3 2 = (marked_by three (fresh true (asks_for 0 1 3 9)) 0 2 l).first_end refl in omega (arith, few)

pub plain_short : PassesPut three (one (fresh false (asks_for 0 1 3 9))) (marked 0 0 2) → ⊥
plain_short l = (marked_by three (fresh false (asks_for 0 1 3 9)) 0 2 l).first_end refl third_change (inr (inr (inl refl))) (omega arith) (omega arith)

pub between : PassesPut three (one (inside true all_changes three 0 2 (first_item ∷ []))) (marked 0 2 3) → ⊥
between l = part_put (marked_by three (inside true all_changes three 0 2 (first_item ∷ [])) 2 3 l).behind

pub client_skipped : PassesPut two (one (inside true all_changes two 0 2 [])) (sent 0 next_change) → ⊥
client_skipped l =
    let (b, is, next) = of_client (λ g. CheckedItem g.last next_item) (with_streams (one (inside true all_changes two 0 2 []))) (act_message next_change next_change.act) 0 (inside true all_changes two 0 2 []) [] items.next_header refl l.0 in
    let both : Some (snapshot two 0 2 []) ≡ Some b = is in let same : snapshot two 0 2 [] ≡ b = cc in no_skip (subst (λ x. IsNextItem x next_item) (sym same) next)

pub client_part : PassesPut three (one (inside true (up_to 2) three 0 2 (first_item ∷ []))) (ended 0 0) → ⊥
client_part l = part_put (of_client (λ g. ◌≡◌ {A = ℕ} 0 0 → IsWholeIf g.last) (with_streams (one (inside true (up_to 2) three 0 2 (first_item ∷ [])))) (msg.StreamEnd 0) 0 (inside true (up_to 2) three 0 2 (first_item ∷ [])) [] (ends.header 0) refl l.0 refl)
