-- numbers for streams of clients, judged by hand
use Rattle.std.proofs.Common.{[], arith, inl, refl, ℕ, ⊎_elim, ◌≡◌, ◌≤◌, ◌<◌, ◌-◌, ◌^◌}
use Rattle.std.specs.Prelude.{Some, None}
unfoldable use Rattle.mcbp_dcp.specs.DcpFrames.{dcp_frame}
unfoldable use Rattle.mcbp_dcp.specs.Messages.{read_of}
unfoldable use Rattle.mcbp_dcp.specs.Rows.{frame_row}
unfoldable use Rattle.mcbp_dcp.specs.Shapes.{shape_fault}
unfoldable use Rattle.mcbp_frame.specs.Cutting.{frames_in}
unfoldable use Rattle.mcbp_frame.specs.Frames.{first_frame, frame_of}
unfoldable use Rattle.mcbp_frame.specs.Spelling.{spelling}
use Rattle.vb_types.specs.declared.stream.AskAnswer.TheVariants as ask_answer
use Rattle.transcript_law.specs.ClientAskRows.{LawfulAsked, asked, flagged, none, requesting, that_opened}
use Rattle.transcript_law.specs.ClientStreamRows.{all_changes, finished, open_setup, put_two}
use Rattle.transcript_law.specs.ClientStreams.{STREAM_NUMBERS, no_setup, opened_after}
use Rattle.transcript_law.proofs.rows.Answering.{dcp_answer}
use Rattle.transcript_law.proofs.rows.ClientStreamAsks.{all_order, answer_of, fair_numbered, free, goes, no_stream, refuses}
use Rattle.transcript_law.proofs.rows.ClientStreamRefusals.{judged_by, no_own}
use Rattle.transcript_law.proofs.rows.ClientStreamStatuses.{same_code}
use Rattle.transcript_law.proofs.rows.ClientStreams.{◌▹◌}

-- ---- requests of connections that asked for many

pub spent : LawfulAsked (that_opened (2 ^ 32 - 1) (requesting 0 all_changes)) (asked all_changes (ask_answer.Refuse 134))
unfolding spelling dcp_frame frames_in first_frame frame_of read_of frame_row shape_fault
spent = record { own_node = refl; request = _; next = refl; numbers = refl; vb = refl; answered = refuses _ all_changes 134 (omega arith); own = no_own all_changes 134 refl; reason = λ o z. inl (omega arith, refl); frame = ([], refl) } ▹ (λ z. dcp_answer (answer_of (ask_answer.Refuse 134)) refl refl refl refl refl refl (tt, refl)) ▹ tt

pub spent_goes : LawfulAsked (that_opened (2 ^ 32 - 1) (requesting 0 all_changes)) (asked all_changes ask_answer.Go) → ⊥
unfolding spelling dcp_frame frames_in first_frame frame_of read_of frame_row shape_fault
spent_goes l = ⊎_elim (λ e. let z : ask_answer.Go ≡ ask_answer.Refuse 134 = e.1 in cc) (λ so. let few : 2 ^ 32 - 1 < STREAM_NUMBERS = so.0 in omega (arith, few)) (judged_by (2 ^ 32 - 1) none (requesting 0 all_changes) _ all_changes ask_answer.Go l.0.request _ l.0.next refl refl refl l.0.reason)

pub last : LawfulAsked (that_opened (2 ^ 32 - 2) (requesting 0 all_changes)) (asked all_changes ask_answer.Go)
unfolding spelling dcp_frame frames_in first_frame frame_of read_of frame_row shape_fault
last = record { own_node = refl; request = _; next = refl; numbers = refl; vb = refl; answered = goes _ _; own = free open_setup refl; reason = fair_numbered open_setup None no_stream all_changes all_order (2 ^ 32 - 2) (omega arith); frame = ([], refl) } ▹ (λ z. dcp_answer (answer_of ask_answer.Go) refl refl refl refl refl refl (tt, refl)) ▹ tt

pub last_refused : LawfulAsked (that_opened (2 ^ 32 - 2) (requesting 0 all_changes)) (asked all_changes (ask_answer.Refuse 134)) → ⊥
unfolding spelling dcp_frame frames_in first_frame frame_of read_of frame_row shape_fault
last_refused l = ⊎_elim (λ e. let most : STREAM_NUMBERS ≤ 2 ^ 32 - 2 = e.0 in omega (arith, most)) (λ so. let r = so.1 in let e : ◌≡◌ {A = ℕ} 134 2 = same_code 134 2 (r.granted refl no_stream all_order (134, refl)) in omega (arith, e))
    (judged_by (2 ^ 32 - 2) none (requesting 0 all_changes) _ all_changes (ask_answer.Refuse 134) l.0.request _ l.0.next refl refl refl l.0.reason)

-- ---- which requests take a number

pub takes : opened_after open_setup None all_changes 5 ≡ 6
takes = refl

pub over : opened_after open_setup (Some (finished put_two)) all_changes 5 ≡ 6
over = refl

pub held : opened_after open_setup (Some put_two) all_changes 5 ≡ 5
held = refl

pub flags : opened_after open_setup None flagged 5 ≡ 5
flags = refl

pub unopened : opened_after no_setup None all_changes 5 ≡ 5
unopened = refl

pub none_left : opened_after open_setup None all_changes (2 ^ 32 - 1) ≡ 2 ^ 32 - 1
none_left = refl
