-- which answers each call may have, where a failover log has at most 25 entries and a batch can be written down; and which calls may fail for want of memory
use Rattle.std.specs.Prelude.{◌≡◌, ℕ, ◌<◌, ◌≤◌, true, length}
use Rattle.vb_types.specs.declared.stream.AskAnswer.{AskAnswer}
use Rattle.vb_types.specs.declared.stream.AskAnswer.TheVariants as ask_answer
use Rattle.vb_types.specs.declared.journal.Record.TheVariants.{Rows}
use Rattle.vb_journal.specs.Payloads.{is_writable}
use Rattle.branch_model.specs.Logs.{log_limit}
use Rattle.vb_calls.specs.declared.calls.VbCall.{VbCall}
use Rattle.vb_calls.specs.declared.calls.VbCall.TheVariants.{Get, Store, Durable, Chain, Ack, Tick, Due, OpenStream, Place, Take, CloseStream, DropCursor, Ask, Adopt, Marker, Receive, RollTo, Promote, Follow, Dead, Pend, Own, Yield, Seal, Trim, FlushTake, FlushDone, Stat, Log, Show}
use Rattle.vb_calls.specs.declared.calls.VbAnswer.{VbAnswer}
use Rattle.vb_calls.specs.declared.calls.VbAnswer.TheVariants as answer

-- this is said to a request that opens no stream
abbrev pub IsDenied : AskAnswer → Type 0
IsDenied ask_answer.Go = ⊥
IsDenied (ask_answer.Roll to) = Unit {0}
IsDenied (ask_answer.Refuse code) = Unit {0}

-- this call may have this answer
abbrev pub HasForm : VbCall → VbAnswer → Type 0
HasForm (Get key) (answer.Found doc) = Unit {0}
HasForm (Get key) (answer.Status st) = Unit {0}
HasForm (Store write clock) (answer.Stored uuid seq cas) = Unit {0}
HasForm (Store write clock) (answer.Status st) = Unit {0}
HasForm (Durable write clock level deadline waiter) (answer.Prepared seq cas) = Unit {0}
HasForm (Durable write clock level deadline waiter) (answer.Status st) = Unit {0}
HasForm (Chain chain) answer.Done = Unit {0}
HasForm (Chain chain) (answer.Status st) = Unit {0}
HasForm (Ack member seq) answer.Done = Unit {0}
HasForm (Ack member seq) (answer.Status st) = Unit {0}
HasForm (Tick clock) answer.Done = Unit {0}
HasForm (Tick clock) (answer.Status st) = Unit {0}
HasForm Due (answer.Dues seq saved) = Unit {0}
HasForm Due (answer.Status st) = Unit {0}
HasForm (OpenStream id ask sync) (answer.Asked said log high) = IsDenied said × (length log ≤ log_limit)
HasForm (OpenStream id ask sync) (answer.Opened log high from) = (0 < id) × (length log ≤ log_limit)
HasForm (Place id) (answer.Placed place) = Unit {0}
HasForm (Place id) answer.Absent = Unit {0}
HasForm (Take id) (answer.Taken snapshot) = Unit {0}
HasForm (Take id) answer.Nothing = Unit {0}
HasForm (Take id) answer.Absent = Unit {0}
HasForm (CloseStream id) (answer.Flag closed) = Unit {0}
HasForm (DropCursor id) (answer.Flag had) = Unit {0}
HasForm Ask (answer.Named ask) = Unit {0}
HasForm Ask (answer.Status st) = Unit {0}
HasForm (Adopt log) answer.Done = Unit {0}
HasForm (Adopt log) (answer.Status st) = Unit {0}
HasForm (Marker start end) (answer.Range ss se) = Unit {0}
HasForm (Marker start end) (answer.Status st) = Unit {0}
HasForm (Receive change) answer.Done = Unit {0}
HasForm (Receive change) (answer.Status st) = Unit {0}
HasForm (RollTo at image cas) (answer.Num now) = Unit {0}
HasForm (RollTo at image cas) (answer.Status st) = Unit {0}
HasForm (Promote uuid) (answer.Branch id parent fork high) = Unit {0}
HasForm (Promote uuid) (answer.Status st) = Unit {0}
HasForm Follow answer.Done = Unit {0}
HasForm Follow (answer.Status st) = Unit {0}
HasForm Dead answer.Done = Unit {0}
HasForm Dead (answer.Status st) = Unit {0}
HasForm Pend answer.Done = Unit {0}
HasForm Pend (answer.Status st) = Unit {0}
HasForm Own answer.Done = Unit {0}
HasForm Own (answer.Status st) = Unit {0}
HasForm (Yield id) answer.Done = Unit {0}
HasForm (Yield id) (answer.Status st) = Unit {0}
HasForm (Yield id) answer.Absent = Unit {0}
HasForm Seal (answer.Flag sealed) = Unit {0}
HasForm Trim (answer.Num removed) = Unit {0}
HasForm FlushTake (answer.Rows batch) = is_writable (Rows batch) ≡ true
HasForm FlushTake answer.Nothing = Unit {0}
HasForm (FlushDone receipt) (answer.Num saved) = Unit {0}
HasForm Stat (answer.Stat windows items cursors saved high) = Unit {0}
HasForm Log (answer.Logged log) = length log ≤ log_limit
HasForm Show (answer.Shown role uuid ss se at image) = Unit {0}
HasForm call answer = ⊥

-- this call may take memory, so that it fails where there is none
abbrev pub TakesMemory : VbCall → Type 0
TakesMemory (CloseStream id) = ⊥
TakesMemory (DropCursor id) = ⊥
TakesMemory Trim = ⊥
TakesMemory Ask = ⊥
TakesMemory Due = ⊥
TakesMemory Stat = ⊥
TakesMemory (Get key) = Unit {0}
TakesMemory (Store write clock) = Unit {0}
TakesMemory (Durable write clock level deadline waiter) = Unit {0}
TakesMemory (Chain chain) = Unit {0}
TakesMemory (Ack member seq) = Unit {0}
TakesMemory (Tick clock) = Unit {0}
TakesMemory (OpenStream id ask sync) = Unit {0}
TakesMemory (Place id) = Unit {0}
TakesMemory (Take id) = Unit {0}
TakesMemory (Adopt log) = Unit {0}
TakesMemory (Marker start end) = Unit {0}
TakesMemory (Receive change) = Unit {0}
TakesMemory (RollTo at image cas) = Unit {0}
TakesMemory (Promote uuid) = Unit {0}
TakesMemory Follow = Unit {0}
TakesMemory Dead = Unit {0}
TakesMemory Pend = Unit {0}
TakesMemory Own = Unit {0}
TakesMemory (Yield id) = Unit {0}
TakesMemory Seal = Unit {0}
TakesMemory FlushTake = Unit {0}
TakesMemory (FlushDone receipt) = Unit {0}
TakesMemory Log = Unit {0}
TakesMemory Show = Unit {0}
