-- requests of DCP between a client's other frames, byte by byte
use Rattle.std.proofs.Common.{◌≡◌, [], ◌∷◌, ◌++◌, refl}
use Rattle.mcbp_frame.specs.Frames.{first_frame, frame_of}
use Rattle.mcbp_frame.specs.Spelling.{spelling}
use Rattle.mcbp_kv.specs.Framing.{requirement_of}
use Rattle.mcbp_kv.specs.Requests.{request_of}
use Rattle.vb_calls.specs.Programs.{Done}
use Rattle.vb_calls.specs.declared.calls.Resolution.TheVariants.{Ambiguous}
use Rattle.vb_calls.specs.declared.calls.VbCall.TheVariants.{Get}
use Rattle.client_session.specs.Answers.{reply_line}
use Rattle.client_session.specs.Asking.{AsksFirst}
use Rattle.client_session.specs.Numbers.{bare_bytes, noop_bytes, stream_bytes, get_bytes, set_bytes, new_one, answers, stream_handed, set_awaited, prepared, EndsBehind}
use Rattle.client_session.specs.Serving.{served, durable_replied, request_handled, frame_handled, turn_handled, turns_handled, bytes_handled, outcome_handled}

pub between : bytes_handled 7 (noop_bytes ++ (stream_bytes ++ get_bytes)) new_one ≡ Done (stream_handed 0 (answers (bare_bytes 0x81 0x0a 0 0 1)) get_bytes)
unfolding bytes_handled turns_handled turn_handled first_frame frame_of frame_handled request_handled request_of requirement_of reply_line spelling
between = refl

pub onward : AsksFirst 5 (Get (0x6b ∷ [])) (bytes_handled 7 [] (served (stream_handed 0 [] get_bytes).session []))
unfolding bytes_handled turns_handled turn_handled first_frame frame_of frame_handled request_handled request_of requirement_of
onward = (refl, refl)

pub waits : EndsBehind (prepared []) (set_awaited stream_bytes) (bytes_handled 7 (set_bytes ++ stream_bytes) new_one)
unfolding bytes_handled turns_handled turn_handled first_frame frame_of frame_handled request_handled request_of requirement_of durable_replied
waits = (refl, refl)

pub known : EndsBehind (prepared (record { waiter = 12884901889; how = Ambiguous } ∷ [])) (stream_handed 1 (answers (bare_bytes 0x81 0x01 0xa3 0 4)) [])
    (bytes_handled 7 (set_bytes ++ stream_bytes) new_one)
unfolding bytes_handled turns_handled turn_handled first_frame frame_of frame_handled request_handled request_of requirement_of durable_replied reply_line spelling
known = (refl, refl)

pub later : outcome_handled 7 (record { waiter = 12884901889; how = Ambiguous }) (set_awaited stream_bytes) ≡ Done (stream_handed 1 (answers (bare_bytes 0x81 0x01 0xa3 0 4)) [])
unfolding outcome_handled turns_handled turn_handled first_frame frame_of frame_handled reply_line spelling
later = refl

pub answer : bytes_handled 7 (bare_bytes 0x81 0x53 0 0 2) new_one ≡ Done new_one
unfolding bytes_handled turns_handled turn_handled first_frame frame_of frame_handled
answer = refl

pub unknown : bytes_handled 7 (bare_bytes 0x80 0x51 0 0 2) new_one ≡ Done (served new_one.session (answers (bare_bytes 0x81 0x51 0x81 0 2)))
unfolding bytes_handled turns_handled turn_handled first_frame frame_of frame_handled request_handled request_of requirement_of reply_line spelling
unknown = refl
