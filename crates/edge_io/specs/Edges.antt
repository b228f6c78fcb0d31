-- what the calls of a host and of an edge do
use Rattle.std.specs.Prelude.{◌≡◌, ℕ, ◌<◌, ◌-◌, Bool, true, false, List, [], ◌∷◌, Option, None, Some}
use Rattle.std.specs.List.{Contains}
use Rattle.dcp_io.specs.Counts.{raised}
use Rattle.edge_io.specs.declared.EdgeCall.{EdgeCall}
use Rattle.edge_io.specs.declared.EdgeCall.TheVariants as call
use Rattle.edge_io.specs.declared.Opened.{Opened}
use Rattle.edge_io.specs.declared.Opened.TheVariants as opened

-- A host: the random words that are to come, where it tells them, and how often it said that it is to stop.
pub record Hosted : Type 0 where
  pub words : Option (List ℕ)
  pub stops : ℕ

-- A word was drawn: the next one where they are told, and 0 where none is left.
abbrev pub Drawn : Option (List ℕ) → Option (List ℕ) → ℕ → Type 0
Drawn None now word = now ≡ None
Drawn (Some []) now word = (now ≡ Some []) × (word ≡ 0)
Drawn (Some (next ∷ more)) now word = (now ≡ Some more) × (word ≡ next)

pub record Draws (old new : Hosted) (word : ℕ) : Type 0 where
  pub drawn : Drawn old.words new.words word
  pub stops : new.stops ≡ old.stops

-- It was asked whether it is to stop. Each yes is counted.
abbrev pub AsksStop : Hosted → Hosted → Bool → Type 0
AsksStop old new true = new ≡ record old { stops = raised old.stops 1 }
AsksStop old new false = new ≡ old

-- How often the opening of a disk, a listening and a dialling failed.
pub record EdgeFaults : Type 0 where
  pub disks : ℕ
  pub ears : ℕ
  pub dials : ℕ

abbrev pub faults_of : EdgeCall → EdgeFaults → ℕ
faults_of call.OpenDisk f = f.disks
faults_of call.Listen f = f.ears
faults_of call.Dial f = f.dials

-- one more of a kind, and of no other
abbrev pub one_more : EdgeCall → EdgeFaults → EdgeFaults
one_more call.OpenDisk f = record f { disks = raised f.disks 1 }
one_more call.Listen f = record f { ears = raised f.ears 1 }
one_more call.Dial f = record f { dials = raised f.dials 1 }

-- A call of that kind was made: a failure is counted as one of its kind.
abbrev pub Opens : {T : Type 0} → EdgeCall → EdgeFaults → EdgeFaults → Opened T → Type 0
Opens kind old new (opened.Is x) = new ≡ old
Opens kind old new opened.NoMemory = new ≡ old
Opens kind old new opened.Failed = new ≡ one_more kind old

-- A disk or an ear came back that failed so often: where it did, that is counted once.
pub record TakesBack (kind : EdgeCall) (count : ℕ) (old new : EdgeFaults) : Type 0 where
  pub sound : count ≡ 0 → new ≡ old
  pub failed : 0 < count → new ≡ one_more kind old

-- An edge in memory: the random words that are to come, how often it is still to say that it goes on, how often it said that it is to stop, its calls so far by their kinds, the calls that fail, and how many did.
pub record MemEdgeState : Type 0 where
  pub words : List ℕ
  pub turns : ℕ
  pub stops : ℕ
  pub calls : EdgeFaults
  pub fail : List (EdgeCall × ℕ)
  pub faults : EdgeFaults

abbrev pub mem_host : MemEdgeState → Hosted
mem_host e = record { words = Some e.words; stops = e.stops }

-- A call of that kind fails where its number among those of its kind is listed.
abbrev pub FailsOf : EdgeCall → MemEdgeState → Type 0
FailsOf kind e = Contains e.fail (kind, raised (faults_of kind e.calls) 1)

-- A call of that kind was counted: it goes on, or is one that is listed.
abbrev pub Passes : EdgeCall → MemEdgeState → MemEdgeState → Bool → Type 0
Passes kind old new true = ¬ FailsOf kind old × (new ≡ record old { calls = one_more kind old.calls })
Passes kind old new false = FailsOf kind old × (new ≡ record old { calls = one_more kind old.calls; faults = one_more kind old.faults })

-- A call of that kind in memory fails at exactly the calls that are listed. All else stays.
abbrev pub MemOpens : {T : Type 0} → EdgeCall → MemEdgeState → MemEdgeState → Opened T → Type 0
MemOpens kind old new (opened.Is x) = ¬ FailsOf kind old × (new ≡ record old { calls = one_more kind old.calls })
MemOpens kind old new opened.NoMemory = ¬ FailsOf kind old × (new ≡ record old { calls = one_more kind old.calls })
MemOpens kind old new opened.Failed = FailsOf kind old × (new ≡ record old { calls = one_more kind old.calls; faults = one_more kind old.faults })

-- An edge in memory is to stop once it said so often that it goes on.
pub record MemStops (old new : MemEdgeState) (answer : Bool) : Type 0 where
  pub over : old.turns ≡ 0 → (answer ≡ true) × (new ≡ record old { stops = raised old.stops 1 })
  pub going : 0 < old.turns → (answer ≡ false) × (new ≡ record old { turns = old.turns - 1 })
