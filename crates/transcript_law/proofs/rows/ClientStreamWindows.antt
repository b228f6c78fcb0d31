-- windows of clients' connections, judged by hand
use Rattle.std.proofs.Common.{[], arith, refl, true, false, ◌++◌, ◌≡◌}
use Rattle.std.specs.Prelude.{codes}
unfoldable use Rattle.dcp_producer.specs.Sizes.{size_of}
unfoldable use Rattle.mcbp_dcp.specs.DcpFrames.{dcp_frame}
unfoldable use Rattle.mcbp_dcp.specs.Messages.{read_of}
unfoldable use Rattle.mcbp_dcp.specs.Rows.{frame_row}
unfoldable use Rattle.mcbp_dcp.specs.Shapes.{shape_fault}
unfoldable use Rattle.mcbp_frame.specs.Cutting.{frames_in}
unfoldable use Rattle.mcbp_frame.specs.Frames.{first_frame, frame_of}
unfoldable use Rattle.mcbp_frame.specs.Spelling.{spelling}
use Rattle.vb_events.specs.declared.event.Answer.TheVariants as answer
use Rattle.vb_events.specs.declared.event.Why.TheVariants as why
use Rattle.transcript_law.specs.ClientAskRows.{LawfulAsked, LawfulPulled, acking, full_now, idle, none, pulls, serving, sizing, waiting_now, with_window, with_window_waiting}
use Rattle.transcript_law.specs.ClientStreamRows.{all_changes, ended, fresh, inside, marked, one, put_three, sent, two, up_to}
use Rattle.transcript_law.specs.Transcripts.{one_change}
use Rattle.transcript_law.proofs.rows.ClientStreamMarks.{header, mark_still, two_next}
use Rattle.transcript_law.proofs.rows.Silent.{here_answered, none_of, unbroken_of}
use Rattle.transcript_law.proofs.verbs.Handing.{hands_plain}

-- ---- frames

pub less : LawfulAsked (with_window 100 99 [] (one (fresh true all_changes))) (marked 0 0 2)
unfolding spelling dcp_frame frames_in first_frame frame_of read_of frame_row shape_fault
less = (mark_still _ (with_window 100 99 [] (one (fresh true all_changes))) 0 0 2 (fresh true all_changes) [] (header 0 2) refl refl refl refl two_next, ((λ z. cc), tt))

pub shut : LawfulAsked (with_window 100 100 [] (one (fresh true all_changes))) (marked 0 0 2) → ⊥
unfolding spelling dcp_frame frames_in first_frame frame_of read_of frame_row shape_fault
shut l = let e : false ≡ true = l.0.put.through in cc

pub no_size : LawfulAsked (with_window 0 100 [] (one (fresh true all_changes))) (marked 0 0 2)
unfolding spelling dcp_frame frames_in first_frame frame_of read_of frame_row shape_fault
no_size = (mark_still _ (with_window 0 100 [] (one (fresh true all_changes))) 0 0 2 (fresh true all_changes) [] (header 0 2) refl refl refl refl two_next, ((λ z. cc), tt))

pub counted : LawfulAsked (with_window 44 0 [] (one (fresh true all_changes))) (marked 0 0 2 ++ sent 0 one_change) → ⊥
unfolding spelling dcp_frame frames_in first_frame frame_of read_of frame_row shape_fault
counted l = let e : false ≡ true = l.1.1.0.put.through in cc

pub item : LawfulAsked (with_window 100 100 [] (one (inside true all_changes two 0 2 []))) (sent 0 one_change) → ⊥
unfolding spelling dcp_frame frames_in first_frame frame_of read_of frame_row shape_fault
item l = let e : false ≡ true = l.0.put.through in cc

pub end : LawfulAsked (with_window 100 100 [] (one (put_three (up_to 2)))) (ended 0 0) → ⊥
unfolding spelling dcp_frame frames_in first_frame frame_of read_of frame_row shape_fault
end l = let e : false ≡ true = l.0.put.through in cc

-- ---- what the client's frames make of it

pub acked : LawfulAsked (with_window 100 100 (acking 1) (one (fresh true all_changes))) (marked 0 0 2)
unfolding spelling dcp_frame frames_in first_frame frame_of read_of frame_row shape_fault
acked = (mark_still _ (with_window 100 100 (acking 1) (one (fresh true all_changes))) 0 0 2 (fresh true all_changes) [] (header 0 2) refl refl refl refl two_next, ((λ z. cc), tt))

pub acked_waits : LawfulAsked (with_window_waiting 100 100 (acking 1) (one (fresh true all_changes))) (marked 0 0 2) → ⊥
unfolding spelling dcp_frame frames_in first_frame frame_of read_of frame_row shape_fault
acked_waits l = let e : false ≡ true = l.0.put.through in cc

pub sized : LawfulAsked (with_window 0 100 (sizing (codes "100")) (one (fresh true all_changes))) (marked 0 0 2) → ⊥
unfolding size_of spelling dcp_frame frames_in first_frame frame_of read_of frame_row shape_fault
sized l = let e : false ≡ true = l.0.put.through in cc

pub unsized : LawfulAsked (with_window 100 100 (sizing (codes "0")) (one (fresh true all_changes))) (marked 0 0 2)
unfolding size_of spelling dcp_frame frames_in first_frame frame_of read_of frame_row shape_fault
unsized = (mark_still _ (with_window 100 100 (sizing (codes "0")) (one (fresh true all_changes))) 0 0 2 (fresh true all_changes) [] (header 0 2) refl refl refl refl two_next, ((λ z. cc), tt))

-- ---- pulls

pub full : LawfulPulled two (with_window 100 100 [] none) full_now
unfolding frames_in first_frame
full = (
  (
    tt,
    (refl, record { told = refl; most = omega arith; all = λ e. cc; only = λ e. absurd (omega (arith, e)) }),
    refl,
    refl,
    (λ w no standing. cc),
    hands_plain _ _ _ _ refl refl,
    refl,
    refl,
    here_answered (serving two (with_window 100 100 [] none)) pulls [] (answer.Pulled 0 why.Full) (λ n c e. rw e refl) (none_of (with_window 100 100 [] none).asking refl) (unbroken_of (with_window 100 100 [] none).asking refl),
    tt,
    tt,
    (tt, tt),
  ),
  tt,
)

pub full_open : LawfulPulled two (with_window 100 99 [] none) full_now → ⊥
unfolding frames_in first_frame
full_open l = let e : true ≡ false = l.0.7 in cc

pub idle_shut : LawfulPulled two (with_window 100 100 [] none) idle → ⊥
unfolding frames_in first_frame
idle_shut l = let e : false ≡ true = l.0.7.1 in cc

pub waits_shut : LawfulPulled two (with_window 100 100 [] none) waiting_now → ⊥
unfolding frames_in first_frame
waits_shut l = let e : false ≡ true = l.0.7.2 in cc
