-- connections of clients that close with questions left, judged by hand
use Rattle.std.specs.Prelude.{◌≡◌, ◌∷◌, ◌++◌}
use Rattle.transcript_law.proofs.Words.{true, false, [], refl, inl, inr, arith}
unfoldable use Rattle.mcbp_dcp.specs.Messages.{read_of}
unfoldable use Rattle.mcbp_dcp.specs.Rows.{frame_row}
unfoldable use Rattle.mcbp_frame.specs.Cutting.{frames_in}
unfoldable use Rattle.mcbp_frame.specs.Frames.{first_frame, frame_of}
unfoldable use Rattle.mcbp_frame.specs.Spelling.{spelling}
unfoldable use Rattle.mcbp_kv.specs.Framing.{requirement_of}
unfoldable use Rattle.mcbp_kv.specs.Requests.{request_of}
use Rattle.mcbp_kv.specs.Answers.{bare_answer}
use Rattle.mcbp_kv.specs.Replies.{reply_frame}
use Rattle.mcbp_kv.specs.declared.opcodes.TheConstants.{SET}
use Rattle.vb_events.specs.declared.event.Answer.TheVariants.{No, Ok}
use Rattle.vb_events.specs.declared.event.Cause.TheVariants.{NodeDown}
use Rattle.vb_events.specs.declared.event.Event.TheVariants.{NodeStopped}
use Rattle.vb_types.specs.declared.status.Status.TheVariants as status
use Rattle.transcript_law.proofs.rows.{AnswerRefusals.{why_away}, AnsweredRows.{no_vb}, Answering.{bare_so, first_number, noop_answer}}
use Rattle.transcript_law.specs.AnswerRows.{shuts, strange}
use Rattle.transcript_law.specs.AnsweredRows.{brings, durable_bytes, durable_frame, durable_refused, noop_answered, noop_bytes}
use Rattle.transcript_law.specs.BreakRows.{LawfulCrashing, LawfulSent, LawfulStopping}
use Rattle.transcript_law.specs.ClientRows.{LawfulOpened}
use Rattle.transcript_law.specs.Crashes.{ok}

pub answered : LawfulSent (noop_bytes ++ strange) (noop_answered ∷ shuts ∷ [])
unfolding spelling frames_in first_frame frame_of read_of frame_row request_of requirement_of
answered = ((λ z. noop_answer 9 refl refl refl refl (tt, refl)), ((λ opened. refl), tt))

pub alone : LawfulSent strange (shuts ∷ [])
unfolding frames_in first_frame
alone = ((λ opened. refl), tt)

pub unanswered : LawfulSent (noop_bytes ++ strange) (shuts ∷ []) → ⊥
unfolding spelling frames_in first_frame frame_of read_of frame_row
unanswered l = let e = l.0 refl in cc

pub one_unanswered : LawfulSent (noop_bytes ++ noop_bytes ++ strange) (noop_answered ∷ shuts ∷ []) → ⊥
unfolding spelling frames_in first_frame frame_of read_of frame_row request_of requirement_of
one_unanswered l = let e = l.1.0 refl in cc

pub behind_durable : LawfulSent (durable_bytes ++ noop_bytes ++ strange) (durable_refused ∷ noop_answered ∷ shuts ∷ [])
unfolding spelling frames_in first_frame frame_of read_of frame_row request_of requirement_of
behind_durable = (
  (λ z. inl (record {
    question = record { before = []; frame = durable_frame };
    next = refl;
    answer = reply_frame (bare_answer SET status.NotMyVbucket 9);
    spelled = refl;
    response = refl;
    opcode = refl;
    opaque = refl;
    fits = inr (first_number, inl (status.NotMyVbucket, bare_so SET 9 status.NotMyVbucket, why_away no_vb, λ on. absurd (no_vb on)));
    calm = inr (inr (tt, refl));
  })),
  ((λ z. noop_answer 9 refl refl refl refl (tt, refl)), ((λ opened. refl), tt)),
)

pub unanswered_behind : LawfulSent (durable_bytes ++ noop_bytes ++ strange) (durable_refused ∷ shuts ∷ []) → ⊥
unfolding spelling frames_in first_frame frame_of read_of frame_row request_of requirement_of
unanswered_behind l = let e = l.1.0 refl in cc

pub waits : LawfulSent (durable_bytes ++ strange) (shuts ∷ []) → ⊥
unfolding spelling frames_in first_frame frame_of read_of frame_row
waits l = let e = l.0 refl in cc

pub brought : LawfulOpened (brings (noop_bytes ++ strange) ∷ []) (ok (shuts ∷ []) ∷ []) → ⊥
unfolding spelling frames_in first_frame frame_of read_of frame_row
brought l = let e = l.1.1.0.0.0.1 refl in cc

pub stops : LawfulStopping durable_bytes (NodeStopped 0 ∷ shuts ∷ [])
stops = (omega arith, ((λ opened. let z : false ≡ true = opened in cc), tt))

pub other_stops : LawfulStopping durable_bytes (NodeStopped 1 ∷ shuts ∷ []) → ⊥
unfolding spelling frames_in first_frame frame_of read_of frame_row
other_stops l = let e = l.1.0 refl in cc

pub before_stop : LawfulStopping durable_bytes (shuts ∷ NodeStopped 0 ∷ []) → ⊥
unfolding spelling frames_in first_frame frame_of read_of frame_row
before_stop l = let e = l.0 refl in cc

pub crashes : LawfulCrashing 0 Ok durable_bytes (shuts ∷ [])
crashes = ((λ opened. let z : false ≡ true = opened in cc), tt)

pub other_crashes : LawfulCrashing 1 Ok durable_bytes (shuts ∷ []) → ⊥
unfolding spelling frames_in first_frame frame_of read_of frame_row
other_crashes l = let e = l.0 refl in cc

pub crash_refused : LawfulCrashing 0 (No NodeDown) durable_bytes (shuts ∷ []) → ⊥
unfolding spelling frames_in first_frame frame_of read_of frame_row
crash_refused l = let e = l.0 refl in cc
