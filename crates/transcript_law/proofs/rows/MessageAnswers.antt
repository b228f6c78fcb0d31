-- answers to CLOSE_STREAM, GET_FAILOVER_LOG and requests for streams, judged by hand
use Rattle.std.specs.Prelude.{◌≡◌, ℕ, true, false, List, [], ◌++◌, slice_index, length, Option, Some, None}
use Rattle.std.proofs.Common.{refl, sym, ap, ◌∙◌, arith, subst, inl, inr}
unfoldable use Rattle.mcbp_dcp.specs.DcpFrames.{dcp_frame}
unfoldable use Rattle.mcbp_dcp.specs.Messages.{read_of}
unfoldable use Rattle.mcbp_dcp.specs.Rows.{frame_row}
unfoldable use Rattle.mcbp_dcp.specs.Shapes.{shape_fault}
unfoldable use Rattle.mcbp_frame.specs.Cutting.{frames_in}
unfoldable use Rattle.mcbp_frame.specs.Frames.{first_frame, frame_of}
unfoldable use Rattle.mcbp_frame.specs.Spelling.{spelling}
use Rattle.mcbp_dcp.specs.declared.message.DcpMsg.TheVariants as msg
use Rattle.mcbp_frame.specs.declared.frame.Frame.{Frame}
use Rattle.vb_types.specs.declared.role.LogEntry.{LogEntry}
use Rattle.vb_types.specs.declared.role.Role.{Role}
use Rattle.vb_types.specs.declared.role.Role.TheVariants.{Dead}
use Rattle.vb_types.specs.declared.status.Status.{Status}
use Rattle.vb_types.specs.declared.status.Status.TheVariants as status
use Rattle.transcript_law.proofs.Words.{⊎_elim}
use Rattle.transcript_law.proofs.answers.Statuses.{alone}
use Rattle.transcript_law.proofs.rows.MessageRows.{never}
use Rattle.transcript_law.specs.Chronicles.{Chronicle}
use Rattle.transcript_law.specs.ClientAskRows.{bytes_of, closing, closing_typed, requesting}
use Rattle.transcript_law.specs.ClientStreamRows.{all_changes, finished, knows, put_two}
use Rattle.transcript_law.specs.ClientStreams.{ClientKnown}
use Rattle.transcript_law.specs.LawfulAnswers.{Answers, AnswersFault, FitsFrame}
use Rattle.transcript_law.specs.LawfulMessages.{FitsLog, IsStatus, moment_of}
use Rattle.transcript_law.specs.MessageRows.{Finds, Fits, FitsAway, FitsUnknown, IsTold, IsToldOf, LawfulClosed, asks, fresh, knowing, log_refused, log_to, named, over, over_with, sent_behind, status_to, told_of}
use Rattle.transcript_law.specs.Questions.{Question, question_of}
use Rattle.transcript_law.specs.StreamLaws.{IsIfKnown}
use Rattle.transcript_law.specs.LawfulAnswers.{serving}

-- ---- logs

-- a dead vBucket is there
none_dead : ◌≡◌ {A = Option (Option Role)} (Some (Some Dead)) (Some None) → ⊥
none_dead e = cc

-- a log answers what it is told as
has_log : (role : Option (Option Role)) (known : Option (List LogEntry)) (log : List LogEntry) → (role ≡ Some None → ⊥) → IsIfKnown known log → FitsLog role known (asks msg.GetFailoverLog) (log_to 9 log)
unfolding dcp_frame
has_log role known log on told = record { away = λ off. absurd (on off); there = λ o. (log, told, refl) }

-- what is answered for a dead vBucket, whose log is told, is that log
the_log : (g : Frame) → FitsLog (Some (Some Dead)) (Some (named 5)) (asks msg.GetFailoverLog) g → g ≡ log_to 9 (named 5)
unfolding dcp_frame
the_log g l = let (log, told, is) = l.there none_dead in is ∙ ap (λ x. log_to 9 x) (sym told)

-- and no status alone
a_log : (known : Option (List LogEntry)) (g : Frame) → FitsLog (Some (Some Dead)) known (asks msg.GetFailoverLog) g → g.vb_or_status ≡ 0
unfolding dcp_frame
a_log known g l = let (log, told, is) = l.there none_dead in ap (λ (x : Frame). x.vb_or_status) is

pub logs_log : Fits over (asks msg.GetFailoverLog) (log_to 9 (named 5))
unfolding dcp_frame read_of frame_row shape_fault
logs_log = has_log (Some (Some Dead)) (Some (named 5)) (named 5) (λ e. none_dead e) refl

pub logs_another : Fits over (asks msg.GetFailoverLog) (log_to 9 (named 6)) → ⊥
unfolding dcp_frame read_of frame_row shape_fault
logs_another l = let e : ◌≡◌ {A = ℕ} 6 5 = ap (λ (g : Frame). slice_index g.value 7) (the_log (log_to 9 (named 6)) l) in omega (arith, e)

pub logs_empty : Fits over (asks msg.GetFailoverLog) (log_to 9 []) → ⊥
unfolding dcp_frame read_of frame_row shape_fault
logs_empty l = let e : ◌≡◌ {A = ℕ} 0 16 = ap (λ (g : Frame). length g.value) (the_log (log_to 9 []) l) in omega (arith, e)

pub logs_other_opaque : Fits over (asks msg.GetFailoverLog) (log_to 8 (named 5)) → ⊥
unfolding dcp_frame read_of frame_row shape_fault
logs_other_opaque l = let e : ◌≡◌ {A = ℕ} 8 9 = ap (λ (g : Frame). g.opaque) (the_log (log_to 8 (named 5)) l) in omega (arith, e)

pub logs_refused : Fits over (asks msg.GetFailoverLog) (log_refused (named 5)) → ⊥
unfolding dcp_frame read_of frame_row shape_fault
logs_refused l = let e : ◌≡◌ {A = ℕ} 7 0 = a_log (Some (named 5)) (log_refused (named 5)) l in omega (arith, e)

pub logs_away_there : IsTold over (asks msg.GetFailoverLog) status.NotMyVbucket → ⊥
unfolding dcp_frame read_of frame_row shape_fault
logs_away_there l = let e : ◌≡◌ {A = ℕ} 7 0 = a_log (Some (named 5)) (status_to (asks msg.GetFailoverLog) 9 status.NotMyVbucket) l in omega (arith, e)

pub logs_unknown : FitsUnknown (log_to 9 (named 6))
unfolding dcp_frame read_of frame_row shape_fault
logs_unknown = has_log (Some (Some Dead)) None (named 6) (λ e. none_dead e) tt

pub logs_unknown_away : FitsUnknown (status_to (asks msg.GetFailoverLog) 9 status.NotMyVbucket) → ⊥
unfolding dcp_frame read_of frame_row shape_fault
logs_unknown_away l = let e : ◌≡◌ {A = ℕ} 7 0 = a_log None (status_to (asks msg.GetFailoverLog) 9 status.NotMyVbucket) l in omega (arith, e)

pub logs_away : FitsAway (status_to (asks msg.GetFailoverLog) 9 status.NotMyVbucket)
unfolding dcp_frame read_of frame_row shape_fault
logs_away = record { away = λ e. alone (asks msg.GetFailoverLog) status.NotMyVbucket; there = λ on. absurd (on refl) }

pub logs_away_log : FitsAway (log_to 9 []) → ⊥
unfolding dcp_frame read_of frame_row shape_fault
logs_away_log l = let e : ◌≡◌ {A = ℕ} 0 7 = (l.away refl).header.status in omega (arith, e)

pub logs_early : IsTold fresh (asks msg.GetFailoverLog) status.Einval
unfolding dcp_frame read_of frame_row shape_fault
logs_early = alone (asks msg.GetFailoverLog) status.Einval

pub logs_early_log : Fits fresh (asks msg.GetFailoverLog) (log_to 9 (named 5)) → ⊥
unfolding dcp_frame read_of frame_row shape_fault
logs_early_log l = let e : ◌≡◌ {A = ℕ} 0 4 = l.header.status in omega (arith, e)

-- ---- requests for streams

pub told_requests_told : (g : Frame) → Fits told_of (asks (msg.StreamRequest all_changes)) g
unfolding dcp_frame read_of frame_row shape_fault
told_requests_told g = refl

pub told_requests_untold : (g : Frame) → Fits over (asks (msg.StreamRequest all_changes)) g → ⊥
unfolding dcp_frame read_of frame_row shape_fault
told_requests_untold g l = let e : false ≡ true = l in cc

pub told_requests_behind_its_line : IsToldOf (sent_behind [] (requesting 0 all_changes)) true
unfolding spelling dcp_frame frames_in first_frame frame_of read_of frame_row shape_fault
told_requests_behind_its_line = (_, refl, refl)

pub told_requests_with_more : IsToldOf (sent_behind (closing 0) (requesting 0 all_changes ++ closing 0)) true
unfolding spelling dcp_frame frames_in first_frame frame_of read_of frame_row shape_fault
told_requests_with_more = (_, refl, refl)

pub told_requests_before_its_line : IsToldOf (sent_behind (requesting 0 all_changes) (requesting 0 all_changes)) false
unfolding spelling dcp_frame frames_in first_frame frame_of read_of frame_row shape_fault
told_requests_before_its_line = (_, refl, refl)

pub told_requests_before_with_more : IsToldOf (sent_behind (closing 0 ++ requesting 0 all_changes ++ closing 0) (requesting 0 all_changes ++ closing 0)) false
unfolding spelling dcp_frame frames_in first_frame frame_of read_of frame_row shape_fault
told_requests_before_with_more = (_, refl, refl)

-- ---- CLOSE_STREAM

-- a CLOSE_STREAM that is asked next
abbrev close_frame : Frame
close_frame = record (asks msg.CloseStream) { opaque = 4 }

abbrev close_question : Question
close_question = record { before = []; frame = close_frame }

-- a status alone is its answer
closed_so : (st : Status) → IsStatus close_frame (status_to close_frame 4 st) st
unfolding dcp_frame
closed_so st = record { header = record { magic = refl; opcode = refl; key = refl; datatype = refl; status = refl; opaque = refl; framing = refl }; cas = refl; extras = refl; value = refl }

-- and has its bytes
closed_is : (g : Frame) (st : Status) → IsStatus close_frame g st → g ≡ status_to close_frame 4 st
unfolding dcp_frame
closed_is g st l = (λ i. record { magic = l.header.magic i; opcode = l.header.opcode i; datatype = l.header.datatype i; vb_or_status = l.header.status i; opaque = l.header.opaque i; cas = l.cas i; framing = l.header.framing i; extras = l.extras i; key = l.header.key i; value = l.value i })

-- what is known where it is asked
abbrev known_there : ClientKnown → Chronicle
known_there known = record (knowing (Some (Some Dead)) None) { clients_at = knows known }

abbrev FitsClosed : ClientKnown → Question → Frame → Type 0
FitsClosed known q g = FitsFrame (serving (known_there known) 0 1 known.asking) (known_there known) 0 (moment_of known known.asking q) known.asking.settings q.frame g

-- where this status fits alone, it is answered in its bytes
closed_bytes : (known : ClientKnown) (st said : Status) → question_of known.asking ≡ Some close_question → ((g : Frame) → FitsClosed known close_question g → IsStatus close_frame g said) → LawfulClosed known st
    → spelling (status_to close_frame 4 st) ≡ spelling (status_to close_frame 4 said)
unfolding dcp_frame
closed_bytes known st said next fit l = ⊎_elim
    (λ (x : Answers (known_there known) 0 1 known.asking (spelling (status_to close_frame 4 st))).
    let both : Some x.question ≡ Some close_question = sym x.next ∙ next in
    let same : x.question ≡ close_question = cc in
    x.spelled ∙ ap spelling (closed_is x.answer said (fit x.answer (subst (λ q. FitsClosed known q x.answer) same x.fits))))
    (λ (x : AnswersFault 0 1 (known_there known) known.asking (spelling (status_to close_frame 4 st)) []). let e : None ≡ Some close_question = sym x.none ∙ next in cc)
    l

pub closings_closes : IsTold (over_with (Some put_two)) (asks msg.CloseStream) status.Success
unfolding dcp_frame read_of frame_row shape_fault
closings_closes = alone (asks msg.CloseStream) status.Success

pub closings_closes_none : IsTold (over_with (Some put_two)) (asks msg.CloseStream) status.KeyEnoent → ⊥
unfolding dcp_frame read_of frame_row shape_fault
closings_closes_none l = never (asks msg.CloseStream) status.KeyEnoent status.Success refl l

pub closings_none : IsTold over (asks msg.CloseStream) status.KeyEnoent
unfolding dcp_frame read_of frame_row shape_fault
closings_none = alone (asks msg.CloseStream) status.KeyEnoent

pub closings_none_closes : IsTold over (asks msg.CloseStream) status.Success → ⊥
unfolding dcp_frame read_of frame_row shape_fault
closings_none_closes l = never (asks msg.CloseStream) status.Success status.KeyEnoent refl l

pub closings_ended : IsTold (over_with (Some (finished put_two))) (asks msg.CloseStream) status.KeyEnoent
unfolding dcp_frame read_of frame_row shape_fault
closings_ended = alone (asks msg.CloseStream) status.KeyEnoent

pub closings_ended_closes : IsTold (over_with (Some (finished put_two))) (asks msg.CloseStream) status.Success → ⊥
unfolding dcp_frame read_of frame_row shape_fault
closings_ended_closes l = never (asks msg.CloseStream) status.Success status.KeyEnoent refl l

pub closings_early : IsTold fresh (asks msg.CloseStream) status.Einval
unfolding dcp_frame read_of frame_row shape_fault
closings_early = alone (asks msg.CloseStream) status.Einval

pub closings_early_none : IsTold fresh (asks msg.CloseStream) status.KeyEnoent → ⊥
unfolding dcp_frame read_of frame_row shape_fault
closings_early_none l = never (asks msg.CloseStream) status.KeyEnoent status.Einval refl l

pub closings_found : Finds (sent_behind (closing 0) (closing 0)) (Some put_two)
unfolding spelling dcp_frame frames_in first_frame frame_of read_of frame_row shape_fault
closings_found = (_, refl, refl)

pub closings_found_behind : Finds (sent_behind (bytes_of 5 0 msg.Noop ++ closing 0) (closing 0)) (Some put_two)
unfolding spelling dcp_frame frames_in first_frame frame_of read_of frame_row shape_fault
closings_found_behind = (_, refl, refl)

pub closings_found_other : Finds (sent_behind (closing 1 ++ closing 0) (closing 0)) (Some put_two)
unfolding spelling dcp_frame frames_in first_frame frame_of read_of frame_row shape_fault
closings_found_other = (_, refl, refl)

pub closings_closed_before : Finds (sent_behind (closing 0 ++ closing 0) (closing 0)) None
unfolding spelling dcp_frame frames_in first_frame frame_of read_of frame_row shape_fault
closings_closed_before = (_, refl, refl)

pub closings_closed_behind : Finds (sent_behind (closing 0 ++ closing 0) (closing 0 ++ closing 0)) (Some put_two)
unfolding spelling dcp_frame frames_in first_frame frame_of read_of frame_row shape_fault
closings_closed_behind = (_, refl, refl)

pub closings_closed_typed : Finds (sent_behind (closing_typed ++ closing 0) (closing 0)) (Some put_two)
unfolding spelling dcp_frame frames_in first_frame frame_of read_of frame_row shape_fault
closings_closed_typed = (_, refl, refl)

pub closings_at_another : Finds (sent_behind (closing 1) (closing 1)) None
unfolding spelling dcp_frame frames_in first_frame frame_of read_of frame_row shape_fault
closings_at_another = (_, refl, refl)

pub closings_lawful : LawfulClosed (sent_behind (closing 0) (closing 0)) status.Success
unfolding spelling dcp_frame frames_in first_frame frame_of read_of frame_row shape_fault
closings_lawful = inl (record { question = close_question; next = refl; answer = status_to close_frame 4 status.Success; spelled = refl; response = refl; opcode = refl; opaque = refl; fits = closed_so status.Success; calm = inr (inr (tt, refl)) })

pub closings_not_lawful : LawfulClosed (sent_behind (closing 0) (closing 0)) status.KeyEnoent → ⊥
unfolding spelling dcp_frame frames_in first_frame frame_of read_of frame_row shape_fault
closings_not_lawful l = let e : ◌≡◌ {A = ℕ} 1 0 = ap (λ bytes. slice_index bytes 7) (closed_bytes (sent_behind (closing 0) (closing 0)) status.KeyEnoent status.Success refl (λ g x. x) l) in omega (arith, e)

pub closings_twice_lawful : LawfulClosed (sent_behind (closing 0 ++ closing 0) (closing 0)) status.KeyEnoent
unfolding spelling dcp_frame frames_in first_frame frame_of read_of frame_row shape_fault
closings_twice_lawful = inl (record { question = close_question; next = refl; answer = status_to close_frame 4 status.KeyEnoent; spelled = refl; response = refl; opcode = refl; opaque = refl; fits = closed_so status.KeyEnoent; calm = inr (inr (tt, refl)) })

pub closings_twice_not : LawfulClosed (sent_behind (closing 0 ++ closing 0) (closing 0)) status.Success → ⊥
unfolding spelling dcp_frame frames_in first_frame frame_of read_of frame_row shape_fault
closings_twice_not l = let e : ◌≡◌ {A = ℕ} 0 1 = ap (λ bytes. slice_index bytes 7) (closed_bytes (sent_behind (closing 0 ++ closing 0) (closing 0)) status.Success status.KeyEnoent refl (λ g x. x) l) in omega (arith, e)
