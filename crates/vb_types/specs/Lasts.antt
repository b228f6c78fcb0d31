-- the image of a history by the last changes of its slots
use Rattle.std.specs.Prelude.{◌≡◌, ℕ, if◌then◌else◌, List, Option, Some, None}
use Rattle.std.specs.FinMap as map
use Rattle.vb_types.specs.declared.doc.Doc.{Doc}
use Rattle.vb_types.specs.declared.change.Act.{Act}
use Rattle.vb_types.specs.declared.change.Act.TheVariants.{Set, Remove, Prepare, Commit, Abort}
use Rattle.vb_types.specs.declared.change.Change.{Change}
use Rattle.vb_types.specs.declared.change.Pend.{Pend}
use Rattle.vb_types.specs.Histories.{Rises, Slot, last_of, plain}
use Rattle.vb_types.specs.Images.{Picture, applied, image_of}

-- the document that a visible act leaves
unfoldable pub doc_left : Act → Option Doc
doc_left (Set doc) = Some doc
doc_left (Remove cas rev) = None
doc_left (Prepare level doc deleted) = None
doc_left (Commit prepared doc deleted) = if deleted then None else Some doc
doc_left (Abort prepared) = None

-- the pending entry that an act leaves: a prepare's own, and none after any other
unfoldable pub pend_left : ℕ → Act → Option Pend
pend_left seq (Set doc) = None
pend_left seq (Remove cas rev) = None
pend_left seq (Prepare level doc deleted) = Some (record { seq = seq; level = level; doc = doc; deleted = deleted })
pend_left seq (Commit prepared doc deleted) = None
pend_left seq (Abort prepared) = None

-- a key's document after changes with this last visible one of the key, where `old` was there before
unfoldable pub doc_by_last : Option Change → Option Doc → Option Doc
doc_by_last None old = old
doc_by_last (Some c) old = doc_left c.act

-- its pending entry, by its last change
unfoldable pub pend_by_last : Option Change → Option Pend → Option Pend
pend_by_last None old = old
pend_by_last (Some c) old = pend_left c.seq c.act

-- a commit and the set or removal of its document have one effect
abbrev pub CommitsAsPlain : Type 0
CommitsAsPlain = (image : Picture) (c : Change) → applied image (plain c) ≡ applied image c

-- each key's document is what the key's last visible change says
abbrev pub DocsByLast : Type 0
DocsByLast = (h : List Change) (key : List ℕ) → map.get (image_of h).docs key ≡ doc_by_last (last_of (Slot.Committed key) h) None

-- where seqnos rise, each key's pending entry is what the key's last change leaves
abbrev pub PendsByLast : Type 0
PendsByLast =
    (high : ℕ) (h : List Change) (key : List ℕ) → Rises 0 high h
    → map.get (image_of h).pending key ≡ pend_by_last (last_of (Slot.Pending key) h) None
