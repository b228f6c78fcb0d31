-- whose turn it is: one batch at a time, from its take to its receipt
use Rattle.std.specs.Prelude.{ℕ, Option, Some, None, Result, Ok, Err}
use Rattle.flusher.specs.declared.flusher.Flusher.{Flusher}
use Rattle.flusher.specs.declared.flusher.Flusher.TheVariants.{Idle, Out, Written}
use Rattle.vb_types.specs.declared.journal.Batch.{Batch}

-- a batch is put where none is on its way
abbrev pub put_in : Flusher → Batch → Flusher
put_in Idle batch = Out batch
put_in (Out other) batch = Out other
put_in (Written receipt) batch = Written receipt

-- one that was not taken comes back
abbrev pub handed_back : Flusher → Batch → Result (Unit {0}) Batch
handed_back Idle batch = Ok tt
handed_back (Out other) batch = Err batch
handed_back (Written receipt) batch = Err batch

-- the receipt of a batch that was appended
abbrev pub receipt_in : Flusher → Option ℕ
receipt_in Idle = None
receipt_in (Out batch) = None
receipt_in (Written receipt) = Some receipt

-- once it was handed out, no batch is on its way
abbrev pub without_receipt : Flusher → Flusher
without_receipt Idle = Idle
without_receipt (Out batch) = Out batch
without_receipt (Written receipt) = Idle
