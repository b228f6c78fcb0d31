-- answers to HELLO and NOOP, and to frames that ask nothing, judged by hand
use Rattle.std.proofs.Common.{[], ap, arith, refl, true, false, ℕ, ◌++◌, ◌∷◌, ◌≡◌, inr}
unfoldable use Rattle.mcbp_dcp.specs.Messages.{read_of}
unfoldable use Rattle.mcbp_dcp.specs.Rows.{frame_row}
unfoldable use Rattle.mcbp_dcp.specs.Shapes.{shape_fault}
unfoldable use Rattle.mcbp_frame.specs.Cutting.{frames_in}
unfoldable use Rattle.mcbp_frame.specs.Frames.{first_frame, frame_of}
unfoldable use Rattle.mcbp_frame.specs.Spelling.{spelling}
unfoldable use Rattle.mcbp_kv.specs.Framing.{requirement_of}
unfoldable use Rattle.mcbp_kv.specs.Requests.{request_of}
unfoldable use Rattle.mcbp_kv.specs.Features.{accepted, feature_bytes}
use Rattle.mcbp_kv.specs.Answers.{bare_answer, found_answer, welcome_answer}
use Rattle.mcbp_kv.specs.Replies.{reply_frame}
use Rattle.mcbp_kv.specs.declared.feature.Feature.TheVariants as feature
use Rattle.mcbp_kv.specs.declared.opcodes.TheConstants.{NOOP}
use Rattle.vb_types.specs.Images.{image_of}
use Rattle.vb_types.specs.declared.status.Status.TheVariants as status
use Rattle.transcript_law.specs.AnswerRows.{LawfulBy, LawfulTo, finds, finds_raw, for_json, formless, gets, greets, json_doc, json_once, says, unknown, welcomes}
use Rattle.transcript_law.specs.ClientRows.{noop}
use Rattle.transcript_law.proofs.rows.AnswerReads.{free, get_found, is_found}
use Rattle.transcript_law.proofs.rows.Answering.{asked_so, bare_bytes, bare_so, byte_at, found_bytes, found_so, kv_answer, welcome_bytes, welcome_so}
use Rattle.transcript_law.proofs.rows.NextRows.{seven_pending, seven_there}

pub hello : LawfulTo [] (greets (feature.Json ∷ [])) (welcomes (feature.Json ∷ []) ∷ [])
unfolding spelling frames_in first_frame frame_of read_of frame_row shape_fault request_of requirement_of accepted feature_bytes
hello = (λ z. kv_answer (reply_frame (welcome_answer 9 (feature.Json ∷ []))) refl refl refl refl refl refl (welcome_so 9 (feature.Json ∷ [])) (inr (inr (tt, refl))), tt)

pub more : LawfulTo [] (greets (feature.Json ∷ [])) (welcomes (feature.Json ∷ feature.MutationSeqnos ∷ []) ∷ []) → ⊥
unfolding spelling frames_in first_frame frame_of read_of frame_row shape_fault request_of requirement_of accepted feature_bytes
more l = let (g, s, fits) = asked_so (l.0 refl) refl refl refl in let e : ◌≡◌ {A = ℕ} 4 2 = ap (byte_at 11) (welcome_bytes (fits) s) in omega (arith, e)

pub fewer : LawfulTo [] (greets (feature.Json ∷ feature.MutationSeqnos ∷ [])) (welcomes (feature.Json ∷ []) ∷ []) → ⊥
unfolding spelling frames_in first_frame frame_of read_of frame_row shape_fault request_of requirement_of accepted feature_bytes
fewer l = let (g, s, fits) = asked_so (l.0 refl) refl refl refl in let e : ◌≡◌ {A = ℕ} 2 4 = ap (byte_at 11) (welcome_bytes (fits) s) in omega (arith, e)

pub sets : LawfulTo json_once (greets (feature.Json ∷ []) ++ gets 0 7) (welcomes (feature.Json ∷ []) ∷ finds json_doc ∷ [])
unfolding spelling frames_in first_frame frame_of read_of frame_row shape_fault request_of requirement_of accepted feature_bytes
sets = (λ z. kv_answer (reply_frame (welcome_answer 9 (feature.Json ∷ []))) refl refl refl refl refl refl (welcome_so 9 (feature.Json ∷ [])) (inr (inr (tt, refl))), (λ z. kv_answer (reply_frame (found_answer true 9 json_doc)) refl refl refl refl refl refl (get_found json_doc refl (free 0 (image_of json_once) (7 ∷ []) (seven_pending json_doc (7 ∷ []))) (seven_there json_doc) (found_so true 9 json_doc)) (inr (inr (tt, refl))), tt))

pub sets_raw : LawfulTo json_once (greets (feature.Json ∷ []) ++ gets 0 7) (welcomes (feature.Json ∷ []) ∷ finds_raw json_doc ∷ []) → ⊥
unfolding spelling frames_in first_frame frame_of read_of frame_row shape_fault request_of requirement_of accepted feature_bytes
sets_raw l = let (g, s, fits) = asked_so (l.1.0 refl) refl refl refl in let e : ◌≡◌ {A = ℕ} 0 1 = ap (byte_at 5) (found_bytes (is_found fits refl (seven_there json_doc) (seven_pending json_doc (7 ∷ []))) s) in omega (arith, e)

pub sets_back : LawfulBy for_json json_once (greets [] ++ gets 0 7) (welcomes [] ∷ finds_raw json_doc ∷ [])
unfolding spelling frames_in first_frame frame_of read_of frame_row shape_fault request_of requirement_of accepted feature_bytes
sets_back = (λ z. kv_answer (reply_frame (welcome_answer 9 ([]))) refl refl refl refl refl refl (welcome_so 9 []) (inr (inr (tt, refl))), (λ z. kv_answer (reply_frame (found_answer false 9 json_doc)) refl refl refl refl refl refl (get_found json_doc refl (free 0 (image_of json_once) (7 ∷ []) (seven_pending json_doc (7 ∷ []))) (seven_there json_doc) (found_so false 9 json_doc)) (inr (inr (tt, refl))), tt))

pub nooping : LawfulTo [] (noop 9) (says NOOP status.Success ∷ [])
unfolding spelling frames_in first_frame frame_of read_of frame_row shape_fault request_of requirement_of
nooping = (λ z. kv_answer (reply_frame (bare_answer NOOP status.Success 9)) refl refl refl refl refl refl (bare_so NOOP 9 status.Success) (inr (inr (tt, refl))), tt)

pub noop_refused : LawfulTo [] (noop 9) (says NOOP status.Einval ∷ []) → ⊥
unfolding spelling frames_in first_frame frame_of read_of frame_row shape_fault request_of requirement_of
noop_refused l = let (g, s, fits) = asked_so (l.0 refl) refl refl refl in let e : ◌≡◌ {A = ℕ} 4 0 = ap (byte_at 7) (bare_bytes fits s) in omega (arith, e)

pub formless_refused : LawfulTo [] formless (says NOOP status.Einval ∷ [])
unfolding spelling frames_in first_frame frame_of read_of frame_row shape_fault request_of requirement_of
formless_refused = (λ z. kv_answer (reply_frame (bare_answer NOOP status.Einval 9)) refl refl refl refl refl refl (bare_so NOOP 9 status.Einval) (inr (inr (tt, refl))), tt)

pub formless_taken : LawfulTo [] formless (says NOOP status.Success ∷ []) → ⊥
unfolding spelling frames_in first_frame frame_of read_of frame_row shape_fault request_of requirement_of
formless_taken l = let (g, s, fits) = asked_so (l.0 refl) refl refl refl in let e : ◌≡◌ {A = ℕ} 0 4 = ap (byte_at 7) (bare_bytes fits s) in omega (arith, e)

pub unknown_refused : LawfulTo [] unknown (says 200 status.UnknownCommand ∷ [])
unfolding spelling frames_in first_frame frame_of read_of frame_row shape_fault request_of requirement_of
unknown_refused = (λ z. kv_answer (reply_frame (bare_answer 200 status.UnknownCommand 9)) refl refl refl refl refl refl (bare_so 200 9 status.UnknownCommand) (inr (inr (tt, refl))), tt)

pub unknown_other : LawfulTo [] unknown (says 200 status.Einval ∷ []) → ⊥
unfolding spelling frames_in first_frame frame_of read_of frame_row shape_fault request_of requirement_of
unknown_other l = let (g, s, fits) = asked_so (l.0 refl) refl refl refl in let e : ◌≡◌ {A = ℕ} 4 129 = ap (byte_at 7) (bare_bytes fits s) in omega (arith, e)
