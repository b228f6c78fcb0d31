-- failover logs as bytes
use Rattle.std.specs.Prelude.{ℕ, ◌/◌, ◌++◌, List, length, map}
use Rattle.std.specs.List.{flat_map}
use Rattle.std.specs.Int.{w64, to_be_bytes}
use Rattle.std.specs.Simd.{first_chunks}
use Rattle.vb_types.specs.declared.role.LogEntry.{LogEntry}
use Rattle.mcbp_frame.specs.Frames.{big_64_at}
use Rattle.mcbp_dcp.specs.declared.shape.TheConstants.{ENTRY_LEN}

-- an entry: the branch's id, and the seqno at which it was made
abbrev pub entry_spelling : LogEntry → List ℕ
entry_spelling e = to_be_bytes w64 e.uuid ++ to_be_bytes w64 e.seq

-- a log: its entries, the newest first
abbrev pub log_spelling : List LogEntry → List ℕ
log_spelling log = flat_map entry_spelling log

-- the entry that 16 bytes are
abbrev pub entry_in : List ℕ → LogEntry
entry_in bytes = record { uuid = big_64_at bytes 0; seq = big_64_at bytes 8 }

-- the log that bytes are, 16 bytes an entry
unfoldable pub log_in : List ℕ → List LogEntry
log_in bytes = map entry_in (first_chunks ENTRY_LEN (length bytes / ENTRY_LEN) bytes)
