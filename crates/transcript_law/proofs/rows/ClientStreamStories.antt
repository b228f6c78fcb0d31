-- an indexer's story, judged by hand
use Rattle.std.proofs.Common.{List, [], ap, arith, inl, inr, map, refl, sym, true, false, ℕ, ◌++◌, ◌∙◌, ◌∷◌, ◌≡◌}
use Rattle.std.specs.Prelude.{Bool, codes, option_map, Option, Some, None, ◌==◌, if◌then◌else◌}
unfoldable use Rattle.mcbp_dcp.specs.DcpFrames.{dcp_frame}
use Rattle.mcbp_dcp.specs.declared.message.DcpMsg.TheVariants as msg
unfoldable use Rattle.mcbp_dcp.specs.Messages.{read_of}
unfoldable use Rattle.mcbp_dcp.specs.Rows.{frame_row}
unfoldable use Rattle.mcbp_dcp.specs.Shapes.{shape_fault}
unfoldable use Rattle.mcbp_frame.specs.Cutting.{frames_in}
unfoldable use Rattle.mcbp_frame.specs.Frames.{first_frame, frame_of}
unfoldable use Rattle.mcbp_frame.specs.Spelling.{spelling}
use Rattle.mcbp_frame.specs.declared.frame.Frame.{Frame}
use Rattle.dcp_producer.specs.Frames.{act_message}
use Rattle.vb_types.specs.declared.change.Change.{Change}
use Rattle.branch_model.specs.Histories.{last_seq}
use Rattle.vb_types.specs.declared.stream.AskAnswer.TheVariants as ask_answer
use Rattle.vb_types.specs.declared.status.Status.TheVariants as status
use Rattle.transcript_law.specs.Chronicles.{with_id}
use Rattle.transcript_law.specs.ClientAskRows.{LawfulPulled, LawfulStory, all_lines, asked, indexed, naming, opening, pulls, puts, replies, requesting, serving, syncing}
use Rattle.transcript_law.specs.ClientFrames.{is_closed_by}
use Rattle.transcript_law.specs.ClientStreamRows.{ended, finished, first_item, fresh, inside, marked, next_item, one, sent, snapshot, tree_of, two, up_to, with_streams}
use Rattle.transcript_law.specs.ClientStreams.{ClientStream, ClientsKnown, ItemLine, StreamLine, blank_client, change_at, told_of, unclosed}
use Rattle.transcript_law.specs.Followers.{log_of, next_change}
use Rattle.transcript_law.proofs.rows.Answering.{bare_so, dcp_answer}
use Rattle.transcript_law.proofs.rows.ClientStreamAsks.{answer_of, fair, no_stream}
use Rattle.transcript_law.specs.LawfulClients.{IsNextMarker, RefusesOwn}
use Rattle.transcript_law.specs.StreamLaws.{IsFrontOf, LawfulSaid, item_of_change}
use Rattle.transcript_law.specs.Transcripts.{one_change}
use Rattle.transcript_law.proofs.rows.ClientStreamEnds.{both_whole, end_put, whole_of}
use Rattle.transcript_law.proofs.rows.ClientStreamItems.{both_next, first_next, item_put, next_of, no_twice}
use Rattle.transcript_law.proofs.rows.ClientStreamMarks.{mark_put}
use Rattle.transcript_law.proofs.rows.ClientStreams.{◌▹◌, all_between}
use Rattle.script_text.specs.declared.verb.ClientVerb.TheVariants as client_verb
use Rattle.script_text.specs.declared.verb.Verb.{Verb}
use Rattle.script_text.specs.declared.verb.Verb.TheVariants as verb
use Rattle.vb_events.specs.declared.event.Answer.TheVariants as answer
use Rattle.vb_events.specs.declared.event.Event.{Event}
use Rattle.vb_events.specs.declared.event.Why.TheVariants as why
use Rattle.transcript_law.specs.{Chronicles.{Chronicle, after_group}, StreamsTold.{Asking}}
use Rattle.transcript_law.proofs.rows.Silent.{here_answered, none_of, unbroken_of}
use Rattle.transcript_law.specs.LinesTold.{LastLine}
use Rattle.transcript_law.proofs.verbs.Handing.{hands_plain}

-- ---- a pull

-- the stream as it was granted, and behind the marker and each item
abbrev granted : ClientStream
granted = fresh true (up_to 2)

abbrev begun : ClientStream
begun = inside true (up_to 2) two 0 2 []

abbrev first_put : ClientStream
first_put = inside true (up_to 2) two 0 2 (first_item ∷ [])

abbrev all_put : ClientStream
all_put = inside true (up_to 2) two 0 2 (first_item ∷ next_item ∷ [])

two_next : IsNextMarker (tree_of two) granted 0 2
two_next = record { opens = refl; stays = refl; goes_on = λ r. r; behind = tt; starts = refl; reaches = omega arith; whole = (two, all_between two 0 2 (omega arith) (omega arith, (omega arith, omega arith)) refl) }

-- a change of the one stream that there is
changed_one : (change : ClientStream → ClientStream) (streams : ℕ → Option ClientStream) (g : ClientStream) → ((v : ℕ) → streams v ≡ one g v) → (v : ℕ) → change_at 0 change streams v ≡ one (change g) v
changed_one change streams g are v = ap (λ o. if v == 0 then option_map change o else o) (are v) ∙ by (v == 0)
  where
    by : (b : Bool) → (if b then option_map change (if b then Some g else None) else (if b then Some g else None)) ≡ (if b then Some (change g) else None)
    by true = refl
    by false = refl

-- behind a marker, two items and the end
streams_behind : (streams : ℕ → Option ClientStream) → ((v : ℕ) → streams v ≡ one granted v) → (v : ℕ)
    → change_at 0 (told_of (tree_of two) StreamLine.Ends) (change_at 0 (told_of (tree_of two) (StreamLine.Sends next_item)) (change_at 0 (told_of (tree_of two) (StreamLine.Sends first_item)) (change_at 0 (told_of (tree_of two) (StreamLine.Marks 0 2 1)) streams))) v ≡ one (finished all_put) v
streams_behind streams are = changed_one (told_of (tree_of two) StreamLine.Ends) _ all_put (changed_one (told_of (tree_of two) (StreamLine.Sends next_item)) _ first_put (changed_one (told_of (tree_of two) (StreamLine.Sends first_item)) _ begun (changed_one (told_of (tree_of two) (StreamLine.Marks 0 2 1)) streams granted are)))

-- its end was put, and nothing is left
all_over : (g : ClientStream) (b : Bool) → (if b then Some (finished all_put) else None) ≡ Some g → g.over ≡ false → ⊥
all_over g true is opens = let same : finished all_put ≡ g = cc in let e : true ≡ false = ap (λ (h : ClientStream). h.over) same ∙ opens in cc
all_over g false is opens = cc

abbrev blank_now : Asking
blank_now = (with_streams (one granted)).asking

pub counted : LawfulPulled two (with_streams (one granted)) (puts 4 all_lines)
unfolding spelling dcp_frame frames_in first_frame
counted = (
  (
    mark_put _ _ 0 0 2 granted _ refl refl refl refl refl two_next ▹ (refl, λ z. cc)
        ▹ item_put _ _ 0 one_change begun (snapshot two 0 2 []) _ refl refl refl refl refl refl refl (inl refl) (one_change, inl refl, refl) first_next ▹ (refl, λ z. cc)
        ▹ item_put _ _ 0 next_change first_put (snapshot two 0 2 (first_item ∷ [])) _ refl refl refl refl refl refl refl (inr (inl refl)) (next_change, inr (inl refl), refl) both_next ▹ (refl, λ z. cc)
        ▹ end_put _ 0 all_put [] refl refl refl refl refl both_whole (refl, omega arith) ▹ (refl, λ z. cc) ▹ tt,
    (refl, record { told = refl; most = omega arith; all = λ e. cc; only = λ e. absurd (omega (arith, e)) }),
    refl,
    refl,
    λ w no standing. cc,
    hands_plain _ _ _ _ refl refl,
    refl,
    (λ v g is opens stays. absurd (all_over g (v == 0) (sym (streams_behind (one granted) (λ w. refl) v) ∙ is) opens), refl),
    here_answered (serving two (with_streams (one granted))) pulls all_lines (answer.Pulled 4 why.Idle) (λ n c e. rw e refl) (none_of blank_now refl) (unbroken_of blank_now refl),
    tt,
    tt,
    (tt, tt),
  ),
  tt,
)

-- ---- the story

-- of no streams none is left
abbrev nothing : ℕ → Option ClientStream
nothing v = None

none_closed : (fs : List Frame) (v : ℕ) → unclosed fs nothing v ≡ None
none_closed fs v = by (is_closed_by fs v)
  where
    by : (b : Bool) → ◌≡◌ {A = Option ClientStream} (if b then None else None) None
    by true = refl
    by false = refl

-- the stream that was granted is the one that there is
granted_one : (fs : List Frame) (v : ℕ) → with_id (unclosed fs nothing) 0 (Some granted) v ≡ one granted v
granted_one fs v = ap (λ o. if v == 0 then Some granted else o) (none_closed fs v)

-- the frames that it sent before its request
abbrev sent_frames : List Frame
sent_frames = dcp_frame (msg.Open 0 1 (120 ∷ [])) 1 0 ∷ dcp_frame (msg.Control (codes "enable_sync_writes") (codes "true")) 2 0 ∷ dcp_frame (msg.Control (codes "consumer_name") (codes "x")) 3 0 ∷ []

asked_right : (l : Option LastLine) (clients : ClientsKnown) → LawfulSaid (record (serving two blank_client) { last = l; clients_at = clients }) 0 0 (up_to 2) 2 (log_of 5) ask_answer.Go
asked_right l clients = record { own_log = refl; own_high = refl; verdict = (refl, λ z. absurd (omega (arith, z))); active = refl }

refuses_none : RefusesOwn (record { opened = true; sync = true; named = true }) None (up_to 2) ask_answer.Go
refuses_none = record { unopened = λ e. cc; unknown = λ e. absurd (omega (arith, e)); takeover = λ o e. absurd (omega (arith, e)); held = λ g e o. cc }

abbrev asks_first : Verb
asks_first = verb.AtClient 0 1 (client_verb.Bytes (opening 1 ++ syncing (codes "true") ++ naming (codes "x") ++ requesting 0 (up_to 2)))

abbrev first_lines : List Event
first_lines = replies (msg.OpenAnswer 0) 1 ∷ replies (msg.ControlAnswer 0) 2 ∷ replies (msg.ControlAnswer 0) 3 ∷ asked (up_to 2) ask_answer.Go

abbrev story_asked : Chronicle
story_asked = after_group (serving two blank_client) asks_first first_lines answer.Ok

pub story : LawfulStory (indexed all_lines)
unfolding spelling dcp_frame frames_in first_frame frame_of read_of frame_row shape_fault
story = (
  (refl, λ z. dcp_answer (dcp_frame (msg.OpenAnswer 0) 1 0) refl refl refl refl refl (bare_so 80 1 status.Success) (tt, refl))
      ▹ (refl, λ z. dcp_answer (dcp_frame (msg.ControlAnswer 0) 2 0) refl refl refl refl refl (bare_so 94 2 status.Success) (tt, refl))
      ▹ (refl, λ z. dcp_answer (dcp_frame (msg.ControlAnswer 0) 3 0) refl refl refl refl refl (bare_so 94 3 status.Success) (tt, refl))
      ▹ record { own_node = refl; request = _; next = refl; numbers = refl; vb = refl; answered = asked_right _ _; own = refuses_none; reason = fair (record { opened = true; sync = true; named = true }) None no_stream (up_to 2) (omega arith, omega arith, omega arith); frame = ([], refl) } ▹ (refl, λ z. dcp_answer (answer_of ask_answer.Go) refl refl refl refl refl refl (tt, refl)) ▹ tt,
  refl,
  refl,
  refl,
  λ w no standing. cc,
  hands_plain _ _ _ _ refl refl,
  tt,
  tt,
  here_answered (serving two blank_client) asks_first first_lines answer.Ok (λ n c e. rw e refl) refl refl,
  tt,
  λ e. cc,
  (tt, tt),
)
    ▹ (
      mark_put _ _ 0 0 2 granted _ refl refl refl refl refl two_next ▹ (refl, λ z. cc)
          ▹ item_put _ _ 0 one_change begun (snapshot two 0 2 []) _ refl refl refl refl refl refl refl (inl refl) (one_change, inl refl, refl) first_next ▹ (refl, λ z. cc)
          ▹ item_put _ _ 0 next_change first_put (snapshot two 0 2 (first_item ∷ [])) _ refl refl refl refl refl refl refl (inr (inl refl)) (next_change, inr (inl refl), refl) both_next ▹ (refl, λ z. cc)
          ▹ end_put _ 0 all_put [] refl refl refl refl refl both_whole (refl, omega arith) ▹ (refl, λ z. cc) ▹ tt,
      (refl, record { told = refl; most = omega arith; all = λ e. cc; only = λ e. absurd (omega (arith, e)) }),
      refl,
      refl,
      λ w no standing. cc,
      hands_plain _ _ _ _ refl refl,
      refl,
      (λ v g is opens stays. absurd (all_over g (v == 0) (sym (streams_behind (with_id (unclosed sent_frames nothing) 0 (Some granted)) (granted_one sent_frames) v) ∙ is) opens), refl),
      here_answered story_asked pulls all_lines (answer.Pulled 4 why.Idle) (λ n c e. rw e refl) refl refl,
      tt,
      tt,
      (tt, tt),
    )
    ▹ tt

-- ---- what is not its story

-- the last item of the snapshot is to come
no_part : IsFrontOf (snapshot two 0 2 (first_item ∷ [])) (first_item ∷ []) [] → ⊥
no_part f = by f.whole f.front f.covers.reaches
  where
    by : (xs : List Change) → map item_of_change xs ≡ first_item ∷ [] → last_seq 0 xs ≡ 2 → ⊥
    by [] e r = cc
    by (x ∷ []) e r = let only : item_of_change x ≡ first_item = cc in let n : x.seq ≡ 1 = ap (λ (i : ItemLine). i.seq) only in omega (arith, n, r)
    by (x ∷ y ∷ ys) e r = cc

pub without : LawfulStory (indexed (marked 0 0 2 ++ sent 0 one_change ++ ended 0 0)) → ⊥
unfolding spelling dcp_frame frames_in first_frame frame_of read_of frame_row shape_fault
without l = no_part (whole_of _ 0 first_put [] refl l.1.0.0.1.1.1.1.0)

pub again : LawfulStory (indexed (marked 0 0 2 ++ sent 0 one_change ++ sent 0 one_change ++ ended 0 0)) → ⊥
unfolding spelling dcp_frame frames_in first_frame frame_of read_of frame_row shape_fault
again l = no_twice (next_of _ _ first_item (act_message one_change one_change.act) 0 _ first_put refl refl l.1.0.0.1.1.1.1.0 (snapshot two 0 2 (first_item ∷ [])) refl)
