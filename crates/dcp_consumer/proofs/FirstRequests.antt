-- what goes out when a consumer dials, request by request
use Rattle.std.proofs.Common.{◌≡◌, ℕ, Bool, true, false, List, [], ◌∷◌, ◌++◌, map, append_assoc, append-nil}
use Rattle.std.specs.Prelude.{◌-◌, ◌==◌, if◌then◌else◌}
use Rattle.std.specs.List.{concat}
use Rattle.mcbp_frame.specs.Spelling.{spelling}
use Rattle.mcbp_dcp.specs.declared.message.DcpMsg.{DcpMsg}
use Rattle.mcbp_dcp.specs.declared.message.DcpMsg.TheVariants as msg
use Rattle.mcbp_dcp.specs.DcpFrames.{dcp_frame}
use Rattle.vb_types.specs.declared.stream.StreamAsk.{StreamAsk}
use Rattle.dcp_consumer.specs.declared.handshake.Dialed.{Dialed}
use Rattle.dcp_consumer.specs.Dialing.{open_request, buffer_request, buffer_requests, sync_request, name_request, flagged, numbered, stream_opaque, requests}

-- the messages that a buffer adds, and the opaque of the request for a stream
abbrev asked_by : Bool → ℕ → List DcpMsg
asked_by b buffer = if b then [] else buffer_request buffer ∷ []

abbrev opaque_by : Bool → ℕ
opaque_by b = if b then 4 else 5

parts_by : (b : Bool) (node buffer vb : ℕ) (ask : StreamAsk) (before : List ℕ)
    → before ++ (concat (map spelling (numbered 1 (open_request node ∷ asked_by b buffer ++ sync_request ∷ name_request node ∷ []))) ++ spelling (dcp_frame (msg.StreamRequest ask) (opaque_by b) vb))
    ≡ before ++ spelling (dcp_frame (open_request node) 1 0) ++ concat (map spelling (numbered 2 (asked_by b buffer))) ++ spelling (dcp_frame sync_request (opaque_by b - 2) 0)
    ++ spelling (dcp_frame (name_request node) (opaque_by b - 1) 0) ++ spelling (dcp_frame (msg.StreamRequest ask) (opaque_by b) vb)
parts_by true node buffer vb ask before = simp (append_assoc, append-nil)
parts_by false node buffer vb ask before = simp (append_assoc, append-nil)

-- what goes out behind other bytes
pub requests_behind : (dialed : Dialed) (ask : StreamAsk) (before : List ℕ)
    → before ++ requests dialed ask
    ≡ before ++ spelling (dcp_frame (open_request dialed.node) 1 0) ++ concat (map spelling (numbered 2 (buffer_requests dialed.buffer)))
    ++ spelling (dcp_frame sync_request (stream_opaque dialed.buffer - 2) 0) ++ spelling (dcp_frame (name_request dialed.node) (stream_opaque dialed.buffer - 1) 0)
    ++ spelling (dcp_frame (msg.StreamRequest (flagged dialed.takeover ask)) (stream_opaque dialed.buffer) dialed.vb)
unfolding requests
requests_behind dialed ask before = parts_by (dialed.buffer == 0) dialed.node dialed.buffer dialed.vb (flagged dialed.takeover ask) before
