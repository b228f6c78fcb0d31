-- the requests of a handshake, and the answers that it waits for
use Rattle.std.proofs.Common.{◌≡◌, ◌≢◌, ℕ, ◌+◌, Bool, true, false, List, [], ◌∷◌, ◌++◌, refl, ap, length, map, Option, Some}
use Rattle.std.specs.Prelude.{◌==◌, if◌then◌else◌}
use Rattle.std.proofs.lemmas.Bool.{ne_eqb}
use Rattle.mcbp_dcp.specs.declared.message.DcpMsg.{DcpMsg}
use Rattle.mcbp_dcp.specs.DcpFrames.{dcp_frame}
use Rattle.dcp_consumer.specs.Conduct.{awaited, answer_numbers}
use Rattle.dcp_consumer.specs.Dialing.{open_request, buffer_request, sync_request, name_request, first_requests, numbered}
use Rattle.dcp_consumer.specs.Machine.{dialed_consumer}
use Rattle.dcp_consumer.specs.declared.handshake.Dialed.{Dialed}
use Rattle.dcp_consumer.specs.declared.handshake.Handshake.TheVariants as handshake

-- the requests with or without one for the buffer
abbrev requests_by : Bool → ℕ → ℕ → List DcpMsg
requests_by b node buffer = open_request node ∷ (if b then [] else buffer_request buffer ∷ []) ++ sync_request ∷ name_request node ∷ []

pub plain : (node asked : ℕ) → map answer_numbers (numbered 1 (first_requests node 0)) ≡ map (λ h. awaited 0 h asked) (handshake.Opening ∷ handshake.SyncWrites ∷ handshake.Naming ∷ [])
unfolding dcp_frame
plain node asked = refl

abbrev pair : ℕ → ℕ → Option (ℕ × ℕ)
pair opaque opcode = Some (opaque, opcode)

buffered_by : (b : Bool) (node buffer : ℕ) → b ≡ false
    → map answer_numbers (numbered 1 (requests_by b node buffer)) ≡ pair 1 0x50 ∷ pair 2 0x5e ∷ pair (if b then 2 else 3) 0x5e ∷ pair (if b then 3 else 4) 0x5e ∷ []
unfolding dcp_frame
buffered_by false node buffer e = refl
buffered_by true node buffer e = cc

pub buffered : (node buffer asked : ℕ) → buffer ≢ 0
    → map answer_numbers (numbered 1 (first_requests node buffer)) ≡ map (λ h. awaited buffer h asked) (handshake.Opening ∷ handshake.Buffering ∷ handshake.SyncWrites ∷ handshake.Naming ∷ [])
buffered node buffer asked ne = buffered_by (buffer == 0) node buffer (ne_eqb buffer 0 ne)

opaque_by : (b : Bool) (node buffer : ℕ) → (if b then 4 else 5) ≡ 1 + length (requests_by b node buffer)
opaque_by true node buffer = refl
opaque_by false node buffer = refl

pub stream : (dialed : Dialed) → awaited dialed.buffer handshake.Asking (dialed_consumer dialed).asked ≡ Some (1 + length (first_requests dialed.node dialed.buffer), 0x53)
stream dialed = ap (λ n. pair n 0x53) (opaque_by (dialed.buffer == 0) dialed.node dialed.buffer)
