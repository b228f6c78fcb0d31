-- frames of streams that a frame of the client closed, judged by hand
use Rattle.std.proofs.Common.{List, [], ap, arith, inl, inr, refl, sym, true, false, ℕ, ⊎_elim, ◌++◌, ◌∙◌, ◌∷◌, ◌≡◌, ◌<◌}
unfoldable use Rattle.mcbp_dcp.specs.DcpFrames.{dcp_frame}
use Rattle.mcbp_dcp.specs.declared.message.DcpMsg.{DcpMsg}
use Rattle.mcbp_dcp.specs.declared.message.DcpMsg.TheVariants as msg
unfoldable use Rattle.mcbp_dcp.specs.Messages.{read_of}
unfoldable use Rattle.mcbp_dcp.specs.Rows.{frame_row}
unfoldable use Rattle.mcbp_dcp.specs.Shapes.{shape_fault}
unfoldable use Rattle.mcbp_frame.specs.Cutting.{frames_in}
unfoldable use Rattle.mcbp_frame.specs.Frames.{first_frame, frame_of as frame_cut}
unfoldable use Rattle.mcbp_frame.specs.Spelling.{spelling}
use Rattle.dcp_producer.specs.Frames.{act_message}
use Rattle.vb_events.specs.declared.event.Event.{Event}
use Rattle.transcript_law.specs.AnsweredRows.{durable_bytes}
use Rattle.transcript_law.specs.ClientAskRows.{LawfulAsked, LawfulPulled, closes_first, closing, idle, that_asked, that_sent}
use Rattle.transcript_law.specs.ClientFrames.{is_closed_by}
use Rattle.transcript_law.specs.ClientStreamRows.{all_changes, ended, frame_of, fresh, inside, marked, one, put_three, sent, two, up_to}
use Rattle.transcript_law.specs.ClientStreams.{ClientKnown, vb_in_header}
use Rattle.transcript_law.specs.Followers.{next_change}
use Rattle.transcript_law.specs.LawfulClients.{IsPut}
use Rattle.transcript_law.specs.Questions.{served_frames}
use Rattle.transcript_law.specs.Transcripts.{one_change}
use Rattle.transcript_law.proofs.rows.ClientStreamEnds.{header as end_header}
use Rattle.transcript_law.proofs.rows.ClientStreamItems.{first_header}
use Rattle.transcript_law.proofs.rows.ClientStreamMarks.{header, mark_still, two_next}
use Rattle.transcript_law.proofs.rows.ClientStreams.{bytes_are}

-- a frame that stands behind its line is of a stream that is not closed
still_of : (known : ClientKnown) (m said : DcpMsg) (v : ℕ) (more : List Event) → vb_in_header (spelling (dcp_frame said 9 v)) ≡ v → IsPut 0 1 known m (frame_of v said ∷ more) → is_closed_by (served_frames known) v ≡ false
still_of known m said v more header p =
    ap (is_closed_by (served_frames known)) (sym header) ∙ ap (λ b. is_closed_by (served_frames known) (vb_in_header b)) (sym (bytes_are (spelling (dcp_frame said 9 v)) more known m p)) ∙ p.unclosed

pub marker : LawfulAsked (that_asked (one (fresh true all_changes)) (closing 0)) (marked 0 0 2) → ⊥
unfolding spelling dcp_frame frames_in first_frame frame_cut read_of frame_row shape_fault
marker l = let e : true ≡ false = still_of _ (msg.SnapshotMarker 0 2 1) (msg.SnapshotMarker 0 2 1) 0 [] (header 0 2) l.0.put in cc

pub item : LawfulAsked (that_asked (one (inside true all_changes two 0 2 [])) (closing 0)) (sent 0 one_change) → ⊥
unfolding spelling dcp_frame frames_in first_frame frame_cut read_of frame_row shape_fault
item l = let e : true ≡ false = still_of _ (act_message l.0.change l.0.change.act) (act_message one_change one_change.act) 0 [] first_header l.0.put in cc

pub end : LawfulAsked (that_asked (one (put_three (up_to 2))) (closing 0)) (ended 0 0) → ⊥
unfolding spelling dcp_frame frames_in first_frame frame_cut read_of frame_row shape_fault
end l = let e : true ≡ false = still_of _ (msg.StreamEnd 0) (msg.StreamEnd 0) 0 [] (end_header 0) l.0.put in cc

pub behind : LawfulAsked (that_sent (one (fresh true all_changes)) (closing 0)) (closes_first ∷ marked 0 0 2) → ⊥
unfolding spelling dcp_frame frames_in first_frame frame_cut read_of frame_row shape_fault
behind l = let e : true ≡ false = still_of _ (msg.SnapshotMarker 0 2 1) (msg.SnapshotMarker 0 2 1) 0 [] (header 0 2) l.1.0.put in cc

-- ---- streams that none closed

pub other : LawfulAsked (that_asked (one (fresh true all_changes)) (closing 1)) (marked 0 0 2)
unfolding spelling dcp_frame frames_in first_frame frame_cut read_of frame_row shape_fault
other = (mark_still _ (that_asked (one (fresh true all_changes)) (closing 1)) 0 0 2 (fresh true all_changes) [] (header 0 2) refl refl refl refl two_next, ((λ z. cc), tt))

pub waits : LawfulAsked (that_sent (one (fresh true all_changes)) (durable_bytes ++ closing 0)) (marked 0 0 2)
unfolding spelling dcp_frame frames_in first_frame frame_cut read_of frame_row shape_fault
waits = (mark_still _ (that_sent (one (fresh true all_changes)) (durable_bytes ++ closing 0)) 0 0 2 (fresh true all_changes) [] (header 0 2) refl refl refl refl two_next, ((λ z. cc), tt))

pub left : LawfulPulled two (that_sent (one (fresh true all_changes)) (durable_bytes ++ closing 0)) idle → ⊥
unfolding spelling dcp_frame frames_in first_frame frame_cut read_of frame_row shape_fault
left l = ⊎_elim (λ n. n next_change (inr (inl refl)) (omega arith) (omega arith)) (λ f. let e : 2 < 0 = f.1 in omega (arith, e)) (l.0.7.0 0 (fresh true all_changes) refl refl refl).none
