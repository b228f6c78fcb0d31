-- what a receipt names
use Rattle.std.specs.Prelude.{ℕ}
use Rattle.vb_types.specs.declared.journal.Record.{Record}
use Rattle.vb_types.specs.declared.journal.Record.TheVariants as noted

-- the seqno at which a vBucket stands by a record
abbrev pub seq_of : Record → ℕ
seq_of (noted.State role log) = 0
seq_of (noted.Rows batch) = batch.position.at
seq_of (noted.Roll to) = to
