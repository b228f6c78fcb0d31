-- what a consumer writes when it dials, byte by byte
use Rattle.std.proofs.Common.{◌≡◌, ◌++◌, ℕ, false, true, refl}
use Rattle.std.specs.Fmt.{digits}
use Rattle.mcbp_frame.specs.Spelling.{spelling}
use Rattle.mcbp_dcp.specs.DcpFrames.{dcp_frame}
use Rattle.dcp_consumer.specs.Dialing.{requests, ask_row, dialed_row, open_bytes, buffer_bytes, sync_bytes, name_bytes, request_bytes}

pub plain : (link : ℕ) → requests (dialed_row link 0 false) ask_row ≡ open_bytes ++ sync_bytes 2 ++ name_bytes 3 ++ request_bytes 0 4
unfolding requests dcp_frame spelling digits
plain link = refl

pub buffered : (link : ℕ) → requests (dialed_row link 0x01020304 false) ask_row ≡ open_bytes ++ buffer_bytes ++ sync_bytes 3 ++ name_bytes 4 ++ request_bytes 0 5
unfolding requests dcp_frame spelling digits
buffered link = refl

pub takeover : (link : ℕ) → requests (dialed_row link 0 true) ask_row ≡ open_bytes ++ sync_bytes 2 ++ name_bytes 3 ++ request_bytes 1 4
unfolding requests dcp_frame spelling digits
takeover link = refl
