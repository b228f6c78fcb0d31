use Rattle.std.proofs.Common.{◌≡◌, [], ◌∷◌, refl}
use Rattle.std.specs.Prelude.{Some}
use Rattle.vb_disk.specs.Outcomes.{mem_left}
use Rattle.vb_disk.specs.declared.made.Outcome.{Outcome}
use Rattle.vb_disk.specs.declared.made.Outcome.TheVariants as outcome
use Rattle.vb_disk.proofs.laws.new_disks_are_settled.Goals as goal

each : (out : Outcome) → mem_left (record { bytes = 0 ∷ []; ready = []; past = [] }) out ≡ Some (0 ∷ [])
each outcome.Old = refl
each outcome.New = refl
each (outcome.Fill byte) = refl

pub returns : goal.returns
returns c = record { only = λ image left. left; each = each }
