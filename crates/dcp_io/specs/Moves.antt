-- what a take does to a source, and a put to a sink
use Rattle.std.specs.Prelude.{◌≡◌, ℕ, ◌≤◌, Bool, IsTrue, List, length, take, Option, ◌++◌}
use Rattle.std.specs.Io.KnownBytes.{Consumes, Keeps, Appends, IsAtEnd}
use Rattle.dcp_io.specs.Counts.{raised}
use Rattle.dcp_io.specs.declared.Took.{Took}
use Rattle.dcp_io.specs.declared.Took.TheVariants as took
use Rattle.dcp_io.specs.declared.Put.{Put}
use Rattle.dcp_io.specs.declared.Put.TheVariants as put

-- A source: the bytes that are left, where it tells them, how many it gave, how often it was asked, and how often it failed.
pub record Intake : Type 0 where
  pub left : Option (List ℕ)
  pub taken : ℕ
  pub turns : ℕ
  pub faults : ℕ

-- A sink: the bytes that it was given, where it tells them, how often it failed, and whether it holds them in memory of this process.
pub record Outlet : Type 0 where
  pub held : Option (List ℕ)
  pub faults : ℕ
  pub in_memory : Bool

-- What a turn gave: the next bytes, one or more; or the end, where nothing is left; or a fault, which took nothing and was counted.
abbrev pub Gave : Intake → Intake → List ℕ → Took → Type 0
Gave old new room (took.Bytes n) = (1 ≤ n) × (n ≤ length room) × Consumes old.left new.left (take n room) × (new.taken ≡ raised old.taken n) × (new.faults ≡ old.faults)
Gave old new room took.End = Keeps old.left new.left × IsAtEnd new.left × (new.taken ≡ old.taken) × (new.faults ≡ old.faults)
Gave old new room took.Failed = Keeps old.left new.left × (new.taken ≡ old.taken) × (new.faults ≡ raised old.faults 1)

-- A take is one turn, whatever it gave.
pub record Takes (old new : Intake) (room : List ℕ) (answer : Took) : Type 0 where
  pub turned : new.turns ≡ raised old.turns 1
  pub gave : Gave old new room answer

-- What became of the bytes: all were appended; or memory was short, where the sink is in memory, and none were; or a fault was counted after a front part.
abbrev pub Got : Outlet → Outlet → List ℕ → Put → Type 0
Got old new bytes put.Done = Appends old.held new.held bytes × (new.faults ≡ old.faults)
Got old new bytes put.NoMemory = IsTrue old.in_memory × Keeps old.held new.held × (new.faults ≡ old.faults)
Got old new bytes put.Failed = ((n : ℕ) × Appends old.held new.held (take n bytes)) × (new.faults ≡ raised old.faults 1)

-- A put leaves the sink where it is, in memory or outside.
pub record Puts (old new : Outlet) (bytes : List ℕ) (answer : Put) : Type 0 where
  pub stays : new.in_memory ≡ old.in_memory
  pub got : Got old new bytes answer

-- What several takes did together: they gave these bytes in so many turns.
pub record Drew (old new : Intake) (bytes : List ℕ) (turns : ℕ) : Type 0 where
  pub left : Consumes old.left new.left bytes
  pub taken : new.taken ≡ raised old.taken (length bytes)
  pub turned : new.turns ≡ raised old.turns turns

-- A front part of a text was appended.
pub record WrotePart (held now : Option (List ℕ)) (text : List ℕ) : Type 0 where
  pub part : List ℕ
  pub more : List ℕ
  pub appended : Appends held now part
  pub front : part ++ more ≡ text
