-- what a client's connection refuses, and with which status, judged by hand
use Rattle.std.proofs.Common.{List, [], ap, arith, refl, sym, ℕ, ◌++◌, ◌∙◌, ◌∷◌, ◌≡◌}
use Rattle.std.specs.Prelude.{Option, Some, None}
unfoldable use Rattle.mcbp_dcp.specs.DcpFrames.{dcp_frame}
use Rattle.mcbp_dcp.specs.declared.message.DcpMsg.TheVariants as msg
unfoldable use Rattle.mcbp_dcp.specs.Messages.{read_of}
unfoldable use Rattle.mcbp_dcp.specs.Rows.{frame_row}
unfoldable use Rattle.mcbp_dcp.specs.Shapes.{shape_fault}
unfoldable use Rattle.mcbp_frame.specs.Cutting.{frames_in}
unfoldable use Rattle.mcbp_frame.specs.Frames.{first_frame, frame_of}
unfoldable use Rattle.mcbp_frame.specs.Spelling.{spelling}
use Rattle.dcp_producer.specs.Serving.{stream_verdict}
use Rattle.vb_types.specs.declared.stream.AskAnswer.TheVariants as ask_answer
use Rattle.vb_types.specs.declared.status.Status.TheVariants as status
use Rattle.transcript_law.specs.ClientAskRows.{LawfulAsked, asked, closing_typed, flagged, none, past_both, requesting, requesting_typed, taking_over, that_sent, typed_close_refused, typed_refused, unopened}
use Rattle.transcript_law.specs.ClientFrames.{Request, request_in, setup_after}
use Rattle.transcript_law.specs.ClientStreamRows.{all_changes, one, open_setup, put_two, up_to}
use Rattle.transcript_law.specs.ClientStreams.{ClientStream, Setup, no_setup, unclosed}
use Rattle.transcript_law.specs.Followers.{log_of}
use Rattle.transcript_law.proofs.rows.Answering.{bare_so, dcp_answer}
use Rattle.transcript_law.proofs.rows.ClientStreamAsks.{all_order, answer_of, fair, free, no_stream}
use Rattle.transcript_law.proofs.rows.ClientStreams.{◌▹◌}

-- a request that was sent is this one
pub same_request : (bytes : List ℕ) (q r : Request) → request_in bytes ≡ Some q → request_in bytes ≡ Some r → q ≡ r
same_request bytes q r is are = let e : Some q ≡ Some r = sym is ∙ are in cc

-- what was set before it, and which stream it finds, is what was so before the one that was sent
pub opens : (setup : Setup) (q r : Request) → q ≡ r → (setup_after setup q.before).opened ≡ (setup_after setup r.before).opened
opens setup q r same = ap (λ (x : Request). (setup_after setup x.before).opened) same

pub finds : (streams : ℕ → Option ClientStream) (q r : Request) → q ≡ r → unclosed q.before streams 0 ≡ unclosed r.before streams 0
finds streams q r same = ap (λ (x : Request). unclosed x.before streams 0) same

-- no answer is another
pub no_refusal : (code : ℕ) → ask_answer.Go ≡ ask_answer.Refuse code → ⊥
no_refusal code e = cc

pub no_return : (to code : ℕ) → ask_answer.Roll to ≡ ask_answer.Refuse code → ⊥
no_return to code e = cc

pub same_code : (a b : ℕ) → ask_answer.Refuse a ≡ ask_answer.Refuse b → a ≡ b
same_code a b e = cc

-- ---- flags, and connections that are not open

pub flags_go : LawfulAsked (that_sent none (requesting 0 flagged)) (asked flagged ask_answer.Go) → ⊥
flags_go l = no_refusal 4 (l.0.own.unknown (omega arith))

pub flags_other : LawfulAsked (that_sent none (requesting 0 flagged)) (asked flagged (ask_answer.Refuse 131)) → ⊥
flags_other l = let e : ◌≡◌ {A = ℕ} 131 4 = same_code 131 4 (l.0.own.unknown (omega arith)) in omega (arith, e)

pub unopened_other : LawfulAsked (unopened (requesting 0 all_changes)) (asked all_changes (ask_answer.Refuse 7)) → ⊥
unfolding spelling dcp_frame frames_in first_frame frame_of read_of frame_row shape_fault
unopened_other l = let e : ◌≡◌ {A = ℕ} 7 4 = same_code 7 4 (l.0.own.unopened (opens no_setup l.0.request _ (same_request (requesting 0 all_changes) l.0.request _ l.0.next refl))) in omega (arith, e)

pub takeover_other : LawfulAsked (that_sent none (requesting 0 taking_over)) (asked taking_over (ask_answer.Refuse 4)) → ⊥
unfolding spelling dcp_frame frames_in first_frame frame_of read_of frame_row shape_fault
takeover_other l = let e : ◌≡◌ {A = ℕ} 4 131 = same_code 4 131 (l.0.own.takeover (opens open_setup l.0.request _ (same_request (requesting 0 taking_over) l.0.request _ l.0.next refl)) refl) in omega (arith, e)

pub held_rolls : LawfulAsked (that_sent (one put_two) (requesting 0 past_both)) (asked past_both (ask_answer.Roll 0)) → ⊥
unfolding spelling dcp_frame frames_in first_frame frame_of read_of frame_row shape_fault
held_rolls l = let (code, e) = l.0.own.held put_two (finds (one put_two) l.0.request _ (same_request (requesting 0 past_both) l.0.request _ l.0.next refl)) refl in no_return 0 code e

-- ---- messages with a datatype

pub typed : LawfulAsked (that_sent none (requesting_typed (up_to 3) ++ requesting 0 all_changes)) (typed_refused ∷ asked all_changes ask_answer.Go)
unfolding spelling dcp_frame frames_in first_frame frame_of read_of frame_row shape_fault
typed = (λ z. dcp_answer (dcp_frame (msg.StreamAnswer (stream_verdict (log_of 5) (ask_answer.Refuse 4))) 8 0) refl refl refl refl refl (bare_so 83 8 status.Einval) (tt, refl)) ▹ record { own_node = refl; request = _; next = refl; numbers = refl; vb = refl; answered = record { own_log = refl; own_high = refl; verdict = (refl, λ z. absurd (omega (arith, z))); active = refl }; own = free open_setup refl; reason = fair open_setup None no_stream all_changes all_order; frame = ([], refl) } ▹ (λ z. dcp_answer (answer_of ask_answer.Go) refl refl refl refl refl refl (tt, refl)) ▹ tt

pub typed_alone : LawfulAsked (that_sent none (requesting_typed all_changes)) (asked all_changes ask_answer.Go) → ⊥
unfolding spelling dcp_frame frames_in first_frame frame_of read_of frame_row shape_fault
typed_alone l = let e : None ≡ Some l.0.request = l.0.next in cc

pub typed_close : LawfulAsked (that_sent (one put_two) (closing_typed ++ requesting 0 all_changes)) (typed_close_refused ∷ asked all_changes ask_answer.Go) → ⊥
unfolding spelling dcp_frame frames_in first_frame frame_of read_of frame_row shape_fault
typed_close l = let (code, e) = l.1.0.own.held put_two (finds (one put_two) l.1.0.request _ (same_request (closing_typed ++ requesting 0 all_changes) l.1.0.request _ l.1.0.next refl)) refl in no_refusal code e
