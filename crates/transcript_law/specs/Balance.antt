-- what is outstanding at a link's producer is what is on its way over the link: the stream's frames down, and the acknowledgements of their bytes up
use Rattle.std.specs.Prelude.{◌≡◌, ◌↔◌, ℕ, ◌+◌, ◌<◌, ◌≤◌, ◌^◌, ◌==◌, ◌&&◌, ◌||◌, Bool, not, if◌then◌else◌, List, [], ◌∷◌, ◌++◌, Some}
use Rattle.std.specs.Int.{w32, from_be_bytes}
use Rattle.std.specs.List.{sum_by}
use Rattle.mcbp_frame.specs.Cutting.{frames_in}
use Rattle.mcbp_frame.specs.Frames.{frame_len}
use Rattle.mcbp_frame.specs.declared.frame.Frame.{Frame}
use Rattle.mcbp_frame.specs.declared.frame.TheConstants.{HEADER_LEN, MAX_BODY_LEN, RESPONSE}
use Rattle.vbucket.specs.Rows.{row_at}
use Rattle.node_world.specs.Links.{PlainLink, link_number}
use Rattle.node_world.specs.Worlds.{PlainWorld}

-- a message of a stream, by its opcode: STREAM_END, SNAPSHOT_MARKER, MUTATION, DELETION, SET_VBUCKET_STATE, PREPARE, COMMIT or ABORT. An answer is none
abbrev pub is_of_stream : Frame → Bool
is_of_stream f =
    not (f.magic == RESPONSE)
    && (f.opcode == 0x55 || f.opcode == 0x56 || f.opcode == 0x57 || f.opcode == 0x58 || f.opcode == 0x5b || f.opcode == 0x60 || f.opcode == 0x62 || f.opcode == 0x63)

-- so many bytes of a frame are a stream's: all, those of its header too, or none
abbrev pub stream_len : Frame → ℕ
stream_len f = if is_of_stream f then frame_len f else 0

-- so many bytes a frame acknowledges: the number in the extras of a BUFFER_ACKNOWLEDGEMENT. No other frame does
abbrev pub acknowledged_by : Frame → ℕ
acknowledged_by f = if not (f.magic == RESPONSE) && f.opcode == 0x5d then from_be_bytes w32 f.extras else 0

-- the length of the stream's frames in bytes
unfoldable pub counted_in : List ℕ → ℕ
counted_in bytes = sum_by stream_len (frames_in bytes)

-- how many bytes the frames in bytes acknowledge together
unfoldable pub acknowledged_in : List ℕ → ℕ
acknowledged_in bytes = sum_by acknowledged_by (frames_in bytes)

-- on their way down are the bytes that the consumer has heard of a frame that is not whole yet, and those behind them; and so on their way up
abbrev pub Balances : PlainLink → Type 0
Balances link = link.server.window.outstanding ≡ counted_in (link.down_heard ++ link.down) + acknowledged_in (link.up_heard ++ link.up)

-- the longest frame that a reader takes
abbrev pub longest : ℕ
longest = HEADER_LEN + MAX_BODY_LEN

-- so it is of each open link that has a buffer, unless more may be outstanding than one acknowledgement can tell
abbrev pub AreBalanced : PlainWorld → Type 0
AreBalanced w =
    (l : ℕ) (link : PlainLink) → row_at link_number l w.links ≡ Some link → 0 < link.consumer.dialed.buffer → link.consumer.dialed.buffer + longest ≤ 2 ^ 32
    → Balances link

-- ---- in numbers

-- with these bytes on the ways down and up, a link is in balance exactly where so many are outstanding
abbrev pub MeansOutstanding : List ℕ → List ℕ → ℕ → Type 0
MeansOutstanding down up n =
    (link : PlainLink) → link.down_heard ++ link.down ≡ down → link.up_heard ++ link.up ≡ up → Balances link ↔ (link.server.window.outstanding ≡ n)

-- the marker of a snapshot from 0 to 1, which is in memory, with the opaque 5
abbrev pub marker_row : List ℕ
marker_row =
    0x80 ∷ 0x56 ∷ 0x00 ∷ 0x00 ∷ 0x14 ∷ 0x00 ∷ 0x00 ∷ 0x00 ∷ 0x00 ∷ 0x00 ∷ 0x00 ∷ 0x14 ∷ 0x00 ∷ 0x00 ∷ 0x00 ∷ 0x05
    ∷ 0x00 ∷ 0x00 ∷ 0x00 ∷ 0x00 ∷ 0x00 ∷ 0x00 ∷ 0x00 ∷ 0x00 ∷ 0x00 ∷ 0x00 ∷ 0x00 ∷ 0x00 ∷ 0x00 ∷ 0x00 ∷ 0x00 ∷ 0x00
    ∷ 0x00 ∷ 0x00 ∷ 0x00 ∷ 0x00 ∷ 0x00 ∷ 0x00 ∷ 0x00 ∷ 0x01 ∷ 0x00 ∷ 0x00 ∷ 0x00 ∷ 0x01 ∷ []

-- the end of that stream, by a change of role
abbrev pub end_row : List ℕ
end_row =
    0x80 ∷ 0x55 ∷ 0x00 ∷ 0x00 ∷ 0x04 ∷ 0x00 ∷ 0x00 ∷ 0x00 ∷ 0x00 ∷ 0x00 ∷ 0x00 ∷ 0x04 ∷ 0x00 ∷ 0x00 ∷ 0x00 ∷ 0x05
    ∷ 0x00 ∷ 0x00 ∷ 0x00 ∷ 0x00 ∷ 0x00 ∷ 0x00 ∷ 0x00 ∷ 0x00 ∷ 0x00 ∷ 0x00 ∷ 0x00 ∷ 0x02 ∷ []

-- the answer to CONTROL with the opaque 2
abbrev pub answer_row : List ℕ
answer_row =
    0x81 ∷ 0x5e ∷ 0x00 ∷ 0x00 ∷ 0x00 ∷ 0x00 ∷ 0x00 ∷ 0x00 ∷ 0x00 ∷ 0x00 ∷ 0x00 ∷ 0x00 ∷ 0x00 ∷ 0x00 ∷ 0x00 ∷ 0x02
    ∷ 0x00 ∷ 0x00 ∷ 0x00 ∷ 0x00 ∷ 0x00 ∷ 0x00 ∷ 0x00 ∷ 0x00 ∷ []

-- the acknowledgement of so many bytes, of one byte's number
abbrev pub bytes_row : ℕ → List ℕ
bytes_row n =
    0x80 ∷ 0x5d ∷ 0x00 ∷ 0x00 ∷ 0x04 ∷ 0x00 ∷ 0x00 ∷ 0x00 ∷ 0x00 ∷ 0x00 ∷ 0x00 ∷ 0x04 ∷ 0x00 ∷ 0x00 ∷ 0x00 ∷ 0x05
    ∷ 0x00 ∷ 0x00 ∷ 0x00 ∷ 0x00 ∷ 0x00 ∷ 0x00 ∷ 0x00 ∷ 0x00 ∷ 0x00 ∷ 0x00 ∷ 0x00 ∷ n ∷ []

-- the acknowledgement of all up to the seqno 1
abbrev pub seqno_row : List ℕ
seqno_row =
    0x80 ∷ 0x61 ∷ 0x00 ∷ 0x00 ∷ 0x08 ∷ 0x00 ∷ 0x00 ∷ 0x00 ∷ 0x00 ∷ 0x00 ∷ 0x00 ∷ 0x08 ∷ 0x00 ∷ 0x00 ∷ 0x00 ∷ 0x05
    ∷ 0x00 ∷ 0x00 ∷ 0x00 ∷ 0x00 ∷ 0x00 ∷ 0x00 ∷ 0x00 ∷ 0x00 ∷ 0x00 ∷ 0x00 ∷ 0x00 ∷ 0x00 ∷ 0x00 ∷ 0x00 ∷ 0x00 ∷ 0x01 ∷ []
