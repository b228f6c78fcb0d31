-- lines of clients' streams with frames that say something else, judged by hand
use Rattle.std.proofs.Common.{List, [], ap, arith, refl, sym, true, ℕ, ◌∙◌, ◌∷◌, ◌≡◌}
use Rattle.std.specs.Prelude.{Some, slice_index}
unfoldable use Rattle.mcbp_dcp.specs.DcpFrames.{dcp_frame}
use Rattle.mcbp_dcp.specs.declared.message.DcpMsg.TheVariants as msg
unfoldable use Rattle.mcbp_dcp.specs.Messages.{read_of}
unfoldable use Rattle.mcbp_dcp.specs.Rows.{frame_row}
unfoldable use Rattle.mcbp_dcp.specs.Shapes.{shape_fault}
unfoldable use Rattle.mcbp_frame.specs.Cutting.{frames_in}
unfoldable use Rattle.mcbp_frame.specs.Frames.{first_frame, frame_of}
unfoldable use Rattle.mcbp_frame.specs.Spelling.{spelling}
use Rattle.dcp_producer.specs.Serving.{stream_verdict}
use Rattle.vb_types.specs.declared.stream.AskAnswer.TheVariants as ask_answer
use Rattle.vb_events.specs.declared.event.Event.{Event}
use Rattle.vb_events.specs.declared.event.Event.TheVariants as event
use Rattle.transcript_law.specs.ClientAskRows.{LawfulAsked, goes_as, none, requesting, that_sent}
use Rattle.transcript_law.specs.ClientFrames.{Request, request_in}
use Rattle.transcript_law.specs.ClientStreamRows.{LawfulPut, all_changes, ended_with, fresh, marked_with, one, put_three, two, three, up_to, with_streams}
use Rattle.transcript_law.specs.ClientStreams.{ClientKnown, vb_in_header}
use Rattle.transcript_law.specs.Followers.{log_of}
use Rattle.transcript_law.specs.LawfulClients.{StandsBehind}
use Rattle.transcript_law.proofs.rows.ClientStreams.{spelled_is}

-- a byte of a frame
byte_at : ℕ → List ℕ → ℕ
byte_at at bytes = slice_index bytes at

-- a marker's frame names its end
named : vb_in_header (spelling (dcp_frame (msg.SnapshotMarker 0 1 1) 9 0)) ≡ 0
unfolding spelling dcp_frame
named = refl

abbrev known : ClientKnown
known = with_streams (one (fresh true all_changes))

pub marker : LawfulPut two (one (fresh true all_changes)) (marked_with 0 2 (msg.SnapshotMarker 0 1 1)) → ⊥
unfolding byte_at spelling dcp_frame
marker l =
    let s : spelling (dcp_frame (msg.SnapshotMarker 0 1 1) 9 0) ≡ spelling (dcp_frame (msg.SnapshotMarker 0 2 1) 9 (vb_in_header (spelling (dcp_frame (msg.SnapshotMarker 0 1 1) 9 0)))) = spelled_is known (msg.SnapshotMarker 0 2 1) (spelling (dcp_frame (msg.SnapshotMarker 0 1 1) 9 0)) (fresh true all_changes) [] (ap known.streams named) l.0.put in
    let e : ◌≡◌ {A = ℕ} 1 2 = ap (byte_at 39) s in omega (arith, e)

-- an end's frame names its reason
end_named : vb_in_header (spelling (dcp_frame (msg.StreamEnd 2) 9 0)) ≡ 0
unfolding spelling dcp_frame
end_named = refl

pub end : LawfulPut three (one (put_three (up_to 2))) (ended_with 0 (msg.StreamEnd 2)) → ⊥
unfolding byte_at spelling dcp_frame
end l =
    let s : spelling (dcp_frame (msg.StreamEnd 2) 9 0) ≡ spelling (dcp_frame (msg.StreamEnd 0) 9 (vb_in_header (spelling (dcp_frame (msg.StreamEnd 2) 9 0)))) = spelled_is (with_streams (one (put_three (up_to 2)))) (msg.StreamEnd 0) (spelling (dcp_frame (msg.StreamEnd 2) 9 0)) (put_three (up_to 2)) [] (ap (with_streams (one (put_three (up_to 2)))).streams end_named) l.0.put in
    let e : ◌≡◌ {A = ℕ} 2 0 = ap (byte_at 27) s in omega (arith, e)

-- ---- answers

abbrev asks : List ℕ
asks = requesting 0 all_changes

-- the answer of a request that is let continue
abbrev go_at : ℕ → List ℕ
go_at opaque = spelling (dcp_frame (msg.StreamAnswer (stream_verdict (log_of 5) ask_answer.Go)) opaque 0)

-- a request that was sent is this one
same_request : (bytes : List ℕ) (q r : Request) → request_in bytes ≡ Some q → request_in bytes ≡ Some r → q ≡ r
same_request bytes q r is are = let e : Some q ≡ Some r = sym is ∙ are in cc

-- what goes out is its answer
goes_out : (bytes : List ℕ) (q r : Request) → request_in asks ≡ Some q → request_in asks ≡ Some r → r.frame.opaque ≡ 9 → StandsBehind 0 1 (go_at q.frame.opaque) (event.Reply 0 1 bytes ∷ []) → bytes ≡ go_at 9
goes_out bytes q r is are at (more, stands) = sent (go_at q.frame.opaque) more stands ∙ ap go_at (ap (λ (x : Request). x.frame.opaque) (same_request asks q r is are) ∙ at)
  where
    sent : (there : List ℕ) (rest : List Event) → event.Reply 0 1 bytes ∷ [] ≡ event.Reply 0 1 there ∷ rest → bytes ≡ there
    sent there rest e = cc

pub refused : LawfulAsked (that_sent none (requesting 0 all_changes)) (goes_as (log_of 5) (ask_answer.Refuse 7)) → ⊥
unfolding byte_at spelling dcp_frame frames_in first_frame frame_of read_of frame_row shape_fault
refused l = let e : ◌≡◌ {A = ℕ} 7 0 = ap (byte_at 7) (goes_out _ l.0.request _ l.0.next refl refl l.0.frame) in omega (arith, e)

pub log : LawfulAsked (that_sent none (requesting 0 all_changes)) (goes_as (log_of 6) ask_answer.Go) → ⊥
unfolding byte_at spelling dcp_frame frames_in first_frame frame_of read_of frame_row shape_fault
log l = let e : ◌≡◌ {A = ℕ} 6 5 = ap (byte_at 31) (goes_out _ l.0.request _ l.0.next refl refl l.0.frame) in omega (arith, e)
