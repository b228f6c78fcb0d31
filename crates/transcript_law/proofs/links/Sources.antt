-- where the snapshots of streams come from
use Rattle.std.specs.Prelude.{◌≡◌}
use Rattle.transcript_law.proofs.Words.{ℕ, Bool, true, false, List, refl, inl, arith, All, Begun, Change}
use Rattle.dcp_producer.specs.Frames.{marker_flags}
use Rattle.transcript_law.specs.StreamLaws.{FROM_MEMORY, IsFromSource, IsUnreplaced}
use Rattle.transcript_law.specs.StreamsTold.{is_from_disk}

-- where a snapshot is from the journal, none of its changes was replaced
abbrev pub ItemsFit : Begun → List Change → Type 0
ItemsFit b items = b.disk ≡ true → All (IsUnreplaced b.history b.end) items

-- of a marker from memory nothing more is asked
pub from_memory : (end saved : ℕ) → IsFromSource FROM_MEMORY end saved
from_memory end saved = record { source = inl refl; below = λ e. absurd (omega (arith, e)) }

-- a producer's flags tell whether a snapshot is from the journal
pub disk_told : (disk : Bool) → is_from_disk (marker_flags disk) ≡ disk
disk_told false = refl
disk_told true = refl
