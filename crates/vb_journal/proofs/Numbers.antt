-- the format in numbers
use Rattle.std.proofs.Common.{◌≡◌, ℕ, List, [], ◌∷◌, refl, ◌∙◌, arith, lit<}
use Rattle.vb_journal.specs.declared.scan.Front.TheVariants as front
use Rattle.vb_journal.specs.declared.scan.Scan.TheVariants as scan
use Rattle.vb_journal.specs.Reading.{front_of, reading, behind_gate}
use Rattle.vb_journal.specs.ReadingLaws.{InNumbers}
use Rattle.vb_journal.proofs.Fronts.{neither}
use Rattle.vb_journal.proofs.Looking.{front_open, by_head_is, overlong}
use Rattle.vb_journal.proofs.Readings.{damage_read}

-- a payload of 33,600,000 bytes is too long
too_long : (rest : List ℕ) → reading (1 ∷ 2 ∷ 0 ∷ 178 ∷ 0 ∷ rest) ≡ scan.Damaged 0
too_long rest =
    let bytes = 1 ∷ 2 ∷ 0 ∷ 178 ∷ 0 ∷ rest in
    let outside : front_of bytes ≡ front.Outside = front_open bytes (omega arith) refl ∙ by_head_is bytes (omega arith) ∙ overlong bytes (lit< tt) in
    damage_read bytes 0 (record { records = []; parts = []; behind = bytes; written = refl; joined = refl; outside = neither bytes outside; stands = refl })

pub in_numbers : InNumbers
unfolding reading front_of behind_gate
in_numbers = record {
  no_byte = refl;
  new_disk = refl;
  other_gate = refl;
  open_gate = refl;
  no_payload = refl;
  too_long = too_long;
  layout = λ r. refl;
  role = λ role log. refl;
  rows = λ batch. refl;
  roll = λ to. refl;
}
