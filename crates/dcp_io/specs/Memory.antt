-- sources and sinks in memory
use Rattle.std.specs.Prelude.{◌≡◌, ◌≤◌, ℕ, Some, true, min, List, [], ◌++◌, length, take, drop}
use Rattle.std.specs.List.{Contains}
use Rattle.dcp_io.specs.Counts.{raised}
use Rattle.dcp_io.specs.Moves.{Intake, Outlet}
use Rattle.dcp_io.specs.declared.Took.{Took}
use Rattle.dcp_io.specs.declared.Took.TheVariants as took
use Rattle.dcp_io.specs.declared.Put.{Put}
use Rattle.dcp_io.specs.declared.Put.TheVariants as put

-- A source over a slice: the bytes that are left, how many it gave and how often it was asked.
pub record SliceIntake : Type 0 where
  pub left : List ℕ
  pub taken : ℕ
  pub turns : ℕ

-- A source with chosen faults: the bytes that are left, its calls so far, how many bytes it gave, the calls that fail, and how many did.
pub record MemIntake : Type 0 where
  pub left : List ℕ
  pub calls : ℕ
  pub taken : ℕ
  pub fail : List ℕ
  pub faults : ℕ

-- A sink with chosen faults: the bytes that it was given, its calls so far, the calls that fail, and how many did.
pub record MemOutlet : Type 0 where
  pub held : List ℕ
  pub calls : ℕ
  pub fail : List ℕ
  pub faults : ℕ

-- A source over a slice as a source: it tells what is left, and has no faults.
abbrev pub slice_intake : SliceIntake → Intake
slice_intake s = record { left = Some s.left; taken = s.taken; turns = s.turns; faults = 0 }

-- A source with chosen faults as a source: each call is a turn.
abbrev pub mem_intake : MemIntake → Intake
mem_intake s = record { left = Some s.left; taken = s.taken; turns = s.calls; faults = s.faults }

-- Bytes in memory as a sink: they are what is held, and there are no faults.
abbrev pub vec_outlet : List ℕ → Outlet
vec_outlet bytes = record { held = Some bytes; faults = 0; in_memory = true }

-- A sink with chosen faults as a sink.
abbrev pub mem_outlet : MemOutlet → Outlet
mem_outlet s = record { held = Some s.held; faults = s.faults; in_memory = true }

-- The next call is one of those that fail.
abbrev pub FailsNext : List ℕ → ℕ → Type 0
FailsNext fail calls = Contains fail (raised calls 1)

-- A take from a slice gives what fits of what is left, says the end where nothing is left, and never fails.
abbrev pub SliceTakes : SliceIntake → SliceIntake → List ℕ → Took → Type 0
SliceTakes old new room (took.Bytes n) = (1 ≤ n) × (n ≡ min (length old.left) (length room)) × (take n room ≡ take n old.left)
    × (new ≡ record { left = drop n old.left; taken = raised old.taken n; turns = raised old.turns 1 })
SliceTakes old new room took.End = (old.left ≡ []) × (new ≡ record old { turns = raised old.turns 1 })
SliceTakes old new room took.Failed = ⊥

-- A take with chosen faults fails at exactly the calls that are listed, and takes nothing there; elsewhere it is as a slice's.
abbrev pub MemTakes : MemIntake → MemIntake → List ℕ → Took → Type 0
MemTakes old new room (took.Bytes n) = ¬ FailsNext old.fail old.calls × (1 ≤ n) × (n ≡ min (length old.left) (length room)) × (take n room ≡ take n old.left)
    × (new ≡ record old { left = drop n old.left; calls = raised old.calls 1; taken = raised old.taken n })
MemTakes old new room took.End = ¬ FailsNext old.fail old.calls × (old.left ≡ []) × (new ≡ record old { calls = raised old.calls 1 })
MemTakes old new room took.Failed = FailsNext old.fail old.calls × (new ≡ record old { calls = raised old.calls 1; faults = raised old.faults 1 })

-- A put with chosen faults fails at exactly the calls that are listed, and appends nothing there; elsewhere it appends all, or nothing for want of memory.
abbrev pub MemPuts : MemOutlet → MemOutlet → List ℕ → Put → Type 0
MemPuts old new bytes put.Done = ¬ FailsNext old.fail old.calls × (new ≡ record old { held = old.held ++ bytes; calls = raised old.calls 1 })
MemPuts old new bytes put.NoMemory = ¬ FailsNext old.fail old.calls × (new ≡ record old { calls = raised old.calls 1 })
MemPuts old new bytes put.Failed = FailsNext old.fail old.calls × (new ≡ record old { calls = raised old.calls 1; faults = raised old.faults 1 })
