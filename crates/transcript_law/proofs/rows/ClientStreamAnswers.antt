-- frames for clients that no line before tells of, judged by hand
use Rattle.std.proofs.Common.{Bool, List, [], ap, arith, refl, true, false, ℕ, ◌∙◌, ◌∷◌, ◌≡◌}
use Rattle.dcp_producer.specs.Frames.{act_message}
unfoldable use Rattle.mcbp_dcp.specs.DcpFrames.{dcp_frame}
use Rattle.mcbp_dcp.specs.declared.message.DcpMsg.TheVariants as msg
unfoldable use Rattle.mcbp_dcp.specs.Messages.{read_of}
unfoldable use Rattle.mcbp_dcp.specs.Rows.{frame_row}
unfoldable use Rattle.mcbp_dcp.specs.Shapes.{shape_fault}
unfoldable use Rattle.mcbp_frame.specs.Cutting.{frames_in}
unfoldable use Rattle.mcbp_frame.specs.Frames.{first_frame, frame_of as frame_in_bytes}
unfoldable use Rattle.mcbp_frame.specs.Spelling.{spelling}
use Rattle.vb_events.specs.declared.event.Event.TheVariants as event
use Rattle.vb_types.specs.declared.status.Status.TheVariants as status
use Rattle.transcript_law.specs.ClientAskRows.{LawfulAsked, bytes_of, opening, opens_first, that_sent, unopened}
use Rattle.transcript_law.specs.ClientStreamRows.{LawfulPut, all_changes, first_item, frame_of, inside, one, put_two, three, two}
use Rattle.transcript_law.specs.Followers.{next_change}
use Rattle.transcript_law.proofs.rows.Answering.{answered, bare_so, dcp_answer, first_byte, no_question}
use Rattle.transcript_law.proofs.rows.ClientStreams.{◌▹◌}

pub answer : LawfulAsked (unopened (opening 1)) (opens_first ∷ [])
unfolding spelling dcp_frame frames_in first_frame frame_in_bytes read_of frame_row shape_fault
answer = (λ z. dcp_answer (dcp_frame (msg.OpenAnswer 0) 1 0) refl refl refl refl refl (bare_so 80 1 status.Success) (tt, refl)) ▹ tt

pub unasked : LawfulAsked (that_sent (one put_two) []) (opens_first ∷ []) → ⊥
unfolding frames_in first_frame
unasked l = no_question (l.0 refl) refl refl

-- ---- where nothing was asked

pub marker : LawfulPut three (one put_two) (frame_of 0 (msg.SnapshotMarker 2 3 1) ∷ []) → ⊥
unfolding frames_in first_frame
marker l = no_question (l.0 refl) refl refl

pub item : LawfulPut three (one (inside true all_changes three 0 2 (first_item ∷ []))) (frame_of 0 (act_message next_change next_change.act) ∷ []) → ⊥
unfolding frames_in first_frame
item l = no_question (l.0 refl) refl refl

pub end : LawfulPut three (one put_two) (frame_of 0 (msg.StreamEnd 0) ∷ []) → ⊥
unfolding frames_in first_frame
end l = no_question (l.0 refl) refl refl

pub nothing : LawfulPut two (one put_two) (event.Reply 0 1 [] ∷ []) → ⊥
unfolding frames_in first_frame
nothing l = no_question (l.0 refl) refl refl

-- ---- where such a frame was sent

pub marker_back : LawfulAsked (that_sent (one put_two) (bytes_of 9 0 (msg.SnapshotMarker 2 3 1))) (frame_of 0 (msg.SnapshotMarker 2 3 1) ∷ []) → ⊥
unfolding spelling dcp_frame frames_in first_frame frame_in_bytes read_of frame_row shape_fault
marker_back l = let t = answered (l.0 refl) refl in let e : ◌≡◌ {A = ℕ} 128 129 = ap first_byte t.spelled ∙ t.response in omega (arith, e)

pub item_back : LawfulAsked (that_sent (one put_two) (bytes_of 9 0 (act_message next_change next_change.act))) (frame_of 0 (act_message next_change next_change.act) ∷ []) → ⊥
unfolding spelling dcp_frame frames_in first_frame frame_in_bytes read_of frame_row shape_fault
item_back l = let t = answered (l.0 refl) refl in let e : ◌≡◌ {A = ℕ} 128 129 = ap first_byte t.spelled ∙ t.response in omega (arith, e)

pub end_back : LawfulAsked (that_sent (one put_two) (bytes_of 9 0 (msg.StreamEnd 0))) (frame_of 0 (msg.StreamEnd 0) ∷ []) → ⊥
unfolding spelling dcp_frame frames_in first_frame frame_in_bytes read_of frame_row shape_fault
end_back l = let t = answered (l.0 refl) refl in let e : ◌≡◌ {A = ℕ} 128 129 = ap first_byte t.spelled ∙ t.response in omega (arith, e)

-- an answer has bytes
is_nil : List ℕ → Bool
is_nil [] = true
is_nil (b ∷ bytes) = false

pub nothing_back : LawfulAsked (that_sent (one put_two) (opening 1)) (event.Reply 0 1 [] ∷ []) → ⊥
unfolding spelling dcp_frame frames_in first_frame frame_in_bytes read_of frame_row shape_fault is_nil
nothing_back l = let t = answered (l.0 refl) refl in let e : true ≡ false = ap is_nil t.spelled in cc
