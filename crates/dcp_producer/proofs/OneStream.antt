-- a pull of a connection that has one stream, or none
use Rattle.std.proofs.Common.{◌≡◌, ◌+◌, ℕ, Bool, true, false, [], ◌∷◌, length, refl, sym, ap, ◌∙◌, arith, Option, Some, None}
use Rattle.std.specs.Prelude.{if◌then◌else◌, nat_lt, not, ◌==◌, slice_get}
use Rattle.std.proofs.lemmas.Bool.Decides.{nat_tests}
use Rattle.mcbp_dcp.specs.declared.message.DcpMsg.TheVariants as msg
use Rattle.mcbp_dcp.specs.DcpFrames.{dcp_frame}
use Rattle.vb_events.specs.declared.event.Event.TheVariants as event
use Rattle.vb_calls.specs.Jobs.{Ended, bind_job, repeated_job, AlwaysJob, IsRead}
use Rattle.vb_calls.specs.Programs.{Turn, More, Stop, AnyReply, AnyCall}
use Rattle.vb_calls.proofs.JobBinds.{bind_job_assoc, bind_job_same}
use Rattle.vb_calls.proofs.JobConduct.{always_so_job}
use Rattle.flow_control.specs.Windows.{is_open}
use Rattle.flow_control.specs.Rings.{PlainRing, at_turn, passed, without}
use Rattle.dcp_producer.specs.declared.halt.Halt.{Halt}
use Rattle.dcp_producer.specs.declared.halt.Halt.TheVariants as halt
use Rattle.dcp_producer.specs.declared.next_frame.NextFrame.TheVariants as next
use Rattle.dcp_producer.specs.Producers.{PlainStream, Served, without_place, without_stream}
use Rattle.dcp_producer.specs.Frames.{Next, next_frame}
use Rattle.dcp_producer.specs.Pulling.{frame_put, QuietOnes, none_quiet, quiet_halt, Pulling, pull_of, past_turn, stream_in, stream_in_turn, came, came_as, stream_went, stream_asked, turn_had, one_turn, turns_came, one_frame}
use Rattle.dcp_producer.proofs.Framing.{GoesOn, frame_same}

-- what the next frame of the one stream comes to
abbrev pub one_came : Served → Next → Turn Pulling (Served × Halt)
one_came s (next.Put m line, left) = More (pull_of (frame_put (dcp_frame m left.opaque left.vb) line (record s { end = record s.end { streams = left ∷ []; turn = 1 } })) none_quiet)
one_came s (next.End reason, left) =
    More (pull_of (frame_put (dcp_frame (msg.StreamEnd reason) left.opaque left.vb) (event.Finished s.end.desk.stream reason) (record s { end = record s.end { streams = []; turn = 0 } })) none_quiet)
one_came s (next.Quiet waits, left) = Stop (record s { end = record s.end { streams = left ∷ []; turn = 1 } }, quiet_halt (record { ids = []; waits = waits }))
one_came s (next.Disk, left) = Stop (record s { end = record s.end { streams = left ∷ []; turn = 1 } }, halt.Disk)

-- the connection with its one stream, behind so many turns
abbrev one_end : Served → PlainStream → ℕ → Served
one_end s t turn = record s { end = record s.end { streams = t ∷ []; turn = turn } }

same_id : (id : ℕ) → (id == id) ≡ true
same_id id = grind (arith, nat_tests)

-- the turn is always that of the one
one_at : (turn : ℕ) (b : Bool) → nat_lt turn 1 ≡ b → (if b then turn else 0) ≡ 0
one_at turn true is = grind (arith, nat_tests)
one_at turn false is = refl

one_next : (id turn : ℕ) → at_turn (record { ids = id ∷ []; turn = turn }) ≡ 0
one_next id turn = one_at turn (nat_lt turn 1) refl

one_turned : (s : Served) (t : PlainStream) (turn : ℕ) → past_turn (one_end s t turn) ≡ one_end s t 1
one_turned s t turn =
    let ring : PlainRing = record { ids = t.id ∷ []; turn = turn } in
    let place : at_turn ring ≡ 0 = one_next t.id turn in
    ap (λ o. one_end s t (passed ring o).turn) (ap (slice_get (t.id ∷ [])) place) ∙ ap (λ n. one_end s t (n + 1)) place

one_in_turn : (s : Served) (t : PlainStream) (turn : ℕ) → stream_in_turn (one_end s t turn).end ≡ Some t
one_in_turn s t turn =
    ap (λ n. stream_in (slice_get (t.id ∷ []) n) (t ∷ [])) (one_next t.id turn) ∙ ap (λ b. if b then Some t else None) (same_id t.id)

-- it stands in its own place
one_went : (s : Served) (t left : PlainStream) → left.id ≡ t.id → stream_went left (one_end s t 1) ≡ one_end s left 1
one_went s t left is =
    let found : (t.id == left.id) ≡ true = ap (λ n. t.id == n) is ∙ same_id t.id in
    λ i. one_end s (if found i then left else t) 1

-- its place, where it is found
abbrev one_place : Bool → Option ℕ
one_place b = if nat_lt (if not b then 1 else 0) 1 then Some (if not b then 1 else 0) else None

one_over : (s : Served) (left : PlainStream) → without_stream left.id (one_end s left 1).end ≡ record s.end { streams = []; turn = 0 }
one_over s left =
    ap (λ b. record s.end { streams = without_place (one_place b) (left ∷ []); turn = (without (one_place b) (record { ids = left.id ∷ []; turn = 1 })).turn })
    (same_id left.id)

-- so its turn comes to
one_turn_came : (s : Served) (t : PlainStream) (next : Next) → GoesOn t next → turns_came (came (one_end s t 1) none_quiet next) ≡ one_came s next
one_turn_came s t (next.Put m line, left) same =
    ap (λ u. More (pull_of (frame_put (dcp_frame m left.opaque left.vb) line u) none_quiet)) (one_went s t left same.id)
one_turn_came s t (next.End reason, left) same =
    ap (λ u. turns_came (came_as u none_quiet left (next.End reason))) (one_went s t left same.id)
    ∙ ap (λ e. More (pull_of (frame_put (dcp_frame (msg.StreamEnd reason) left.opaque left.vb) (event.Finished s.end.desk.stream reason) (record s { end = e })) none_quiet)) (one_over s left)
one_turn_came s t (next.Quiet waits, left) same = ap (λ u. Stop (u, quiet_halt (record { ids = []; waits = waits }))) (one_went s t left same.id)
one_turn_came s t (next.Disk, left) same = ap (λ u. Stop (u, halt.Disk)) (one_went s t left same.id)

-- the frame of the connection is that of its one stream
pub one_frame_of : (s : Served) (t : PlainStream) → s.end.streams ≡ t ∷ [] → is_open s.end.window ≡ true
    → one_frame (pull_of s none_quiet) ≡ bind_job (next_frame s.end.desk.stream t) (λ next. Ended (one_came s next))
unfolding one_frame one_turn
one_frame_of s t one free =
    let here : Served = one_end s t s.end.turn in
    let turned : turn_had (past_turn here) none_quiet (stream_in_turn here.end) ≡ stream_asked (one_end s t 1) none_quiet t =
    λ i. turn_had (one_turned s t s.end.turn i) none_quiet (one_in_turn s t s.end.turn i) in
    let came_so : AlwaysJob AnyReply AnyCall IsRead (λ next. turns_came (came (one_end s t 1) none_quiet next) ≡ one_came s next) (next_frame s.end.desk.stream t) =
    always_so_job AnyReply AnyCall IsRead (GoesOn t) (λ next. turns_came (came (one_end s t 1) none_quiet next) ≡ one_came s next) (next_frame s.end.desk.stream t) (one_turn_came s t) (frame_same s.end.desk.stream t) in
    (λ i. one_frame (pull_of (record s { end = record s.end { streams = one i } }) none_quiet))
    ∙ ap (λ b. if b then bind_job (repeated_job 1 one_turn (pull_of here none_quiet)) (λ turns. Ended (turns_came turns)) else Ended (Stop (here, halt.Full))) free
    ∙ ap (λ prog. bind_job prog (λ turns. Ended (turns_came turns))) turned
    ∙ bind_job_assoc (next_frame s.end.desk.stream t) (λ next. Ended (came (one_end s t 1) none_quiet next)) (λ turns. Ended (turns_came turns))
    ∙ bind_job_same AnyCall IsRead (next_frame s.end.desk.stream t) (λ next. Ended (turns_came (came (one_end s t 1) none_quiet next))) (λ next. Ended (one_came s next))
    (always_so_job AnyReply AnyCall IsRead (λ next. turns_came (came (one_end s t 1) none_quiet next) ≡ one_came s next) (λ next. Ended (turns_came (came (one_end s t 1) none_quiet next)) ≡ Ended (one_came s next)) (next_frame s.end.desk.stream t) (λ next is. ap Ended is) came_so)

-- with no stream there is none
pub no_frame_of : (s : Served) → s.end.streams ≡ [] → is_open s.end.window ≡ true → one_frame (pull_of s none_quiet) ≡ Ended (Stop (s, halt.Idle))
unfolding one_frame
no_frame_of s none free =
    (λ i. one_frame (pull_of (record s { end = record s.end { streams = none i } }) none_quiet))
    ∙ ap (λ b. if b then Ended (Stop (record s { end = record s.end { streams = [] } }, halt.Idle)) else Ended (Stop (record s { end = record s.end { streams = [] } }, halt.Full))) free
    ∙ (λ i. Ended (Stop (record s { end = record s.end { streams = sym none i } }, halt.Idle)))

-- nothing goes through a window that is shut
pub shut_frame_of : (s : Served) (q : QuietOnes) → is_open s.end.window ≡ false → one_frame (pull_of s q) ≡ Ended (Stop (s, halt.Full))
unfolding one_frame
shut_frame_of s q shut =
    ap (λ b. if b then bind_job (repeated_job (length s.end.streams) one_turn (pull_of s q)) (λ turns. Ended (turns_came turns)) else Ended (Stop (s, halt.Full))) shut
