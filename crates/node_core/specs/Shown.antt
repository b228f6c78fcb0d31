-- the lines that show a vBucket
use Rattle.std.specs.Prelude.{ℕ, List, ◌++◌, length, map}
use Rattle.std.specs.FinMap as finite
use Rattle.vb_types.specs.declared.doc.Doc.{Doc}
use Rattle.vb_types.specs.declared.change.Pend.{Pend}
use Rattle.vb_events.specs.declared.event.Event.{Event}
use Rattle.vb_events.specs.declared.event.Event.TheVariants as event
use Rattle.vb_types.specs.declared.role.Role.{Role}
use Rattle.vb_types.specs.Images.{Picture}

-- the line of a document
abbrev pub document_line : List ℕ × Doc → Event
document_line entry = event.Document entry.0 entry.1

-- the line of a pending prepare: its seqno and durability level
abbrev pub prepare_line : List ℕ × Pend → Event
prepare_line entry = event.Prepared entry.0 entry.1.seq entry.1.level

-- an image: its documents by key, and then its pending prepares by key
abbrev pub image_lines : Picture → List Event
image_lines image = map document_line (finite.entries image.docs) ++ map prepare_line (finite.entries image.pending)

-- the line of a vBucket that is shown, with how many documents and pending prepares follow
abbrev pub shown_line : ℕ → ℕ → Role → ℕ → ℕ → ℕ → ℕ → Picture → Event
shown_line n v role uuid ss se at image = event.Shown n v role uuid at ss se (length (finite.entries image.docs)) (length (finite.entries image.pending))
