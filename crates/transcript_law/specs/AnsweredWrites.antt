-- that each write that is not durable is answered where it is told
use Rattle.std.specs.Prelude.{◌≡◌, ℕ, false, List, [], ◌∷◌, Some}
use Rattle.mcbp_frame.specs.Spelling.{spelling}
use Rattle.mcbp_frame.specs.declared.frame.Frame.{Frame}
use Rattle.vb_events.specs.declared.event.Event.{Event}
use Rattle.vb_events.specs.declared.event.Event.TheVariants as event
use Rattle.vb_types.specs.Statuses.{status_code}
use Rattle.vb_types.specs.declared.change.Change.{Change}
use Rattle.vb_types.specs.declared.status.Status.TheVariants.{Success}
use Rattle.transcript_law.specs.LinesTold.{is_durable}
use Rattle.transcript_law.specs.OwnChanges.{given_cas}

-- behind a change of the node n a client of that node is told next that a write was made, with the CAS that the change has
pub record IsToldNext (n : ℕ) (change : Change) (behind : List Event) : Type 0 where
  pub client : ℕ
  pub answer : Frame
  pub more : List Event
  pub next : behind ≡ event.Reply n client (spelling answer) ∷ more
  pub made : answer.vb_or_status ≡ status_code Success
  pub cas : given_cas change.act ≡ Some answer.cas

-- so it is of each set and of each removal in a group: nothing stands between it and its answer
abbrev pub AllToldNext : List Event → Type 0
AllToldNext [] = Unit {0}
AllToldNext (event.Changed n v uuid change ∷ behind) = (is_durable change.act ≡ false → IsToldNext n change behind) × AllToldNext behind
AllToldNext (line ∷ behind) = AllToldNext behind
