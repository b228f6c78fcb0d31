-- what a list of changes leaves: documents, and prepares that wait
use Rattle.std.specs.Prelude.{ℕ, Bool, false, if◌then◌else◌, nat_lt, List, Option, Some, None, refl}
use Rattle.std.specs.List.{fold}
use Rattle.std.specs.Str.{bytes_eq}
use Rattle.std.specs.FinMap as map
use Rattle.vb_types.specs.Keys.{key_cmp}
use Rattle.std.specs.Coded.{Coded, code_by, coded×, coded_list, coded_ℕ}
use Rattle.vb_types.specs.contracts.doc.Doc as doc_row
use Rattle.vb_types.specs.contracts.change.Pend as pend_row
use Rattle.vb_types.specs.declared.doc.Doc.{Doc}
use Rattle.vb_types.specs.declared.change.Act.{Act}
use Rattle.vb_types.specs.declared.change.Act.TheVariants.{Set, Remove, Prepare, Commit, Abort}
use Rattle.vb_types.specs.declared.change.Change.{Change}
use Rattle.vb_types.specs.declared.change.Pend.{Pend}

-- what an image shows: each key's document, and each key's prepare that waits
pub record Picture : Type 0 where
  pub docs : map.FinMap key_cmp Doc
  pub pending : map.FinMap key_cmp Pend

-- as a pair of maps
abbrev pub picture_code : Coded Picture
picture_code =
    code_by (map.FinMap key_cmp Doc × map.FinMap key_cmp Pend)
    (coded× (map.code (coded_list coded_ℕ) doc_row.the_row.coded) (map.code (coded_list coded_ℕ) pend_row.the_row.coded))
    (λ p. (p.docs, p.pending)) (λ p. record { docs = p.0; pending = p.1 }) (λ _. refl)

-- nothing stored, nothing pending
abbrev pub nothing : Picture
nothing = record { docs = map.empty; pending = map.empty }

-- a pending entry with a lower number
abbrev pub is_older : ℕ → Option Pend → Bool
is_older seq None = false
is_older seq (Some p) = nat_lt p.seq seq

-- a change takes away the pending entry of its key with a lower number
abbrev pub settled : map.FinMap key_cmp Pend → ℕ → List ℕ → map.FinMap key_cmp Pend
settled pending seq key = if is_older seq (map.get pending key) then map.remove pending key else pending

-- what a document does to the committed side: a removal takes the key away
abbrev pub committed : map.FinMap key_cmp Doc → List ℕ → Doc → Bool → map.FinMap key_cmp Doc
committed docs key doc deleted = if deleted then map.remove docs key else map.insert docs key doc

-- the image after this act of a key, at this seqno
abbrev pub acted : Picture → ℕ → List ℕ → Act → Picture
acted image seq key (Set doc) = record { docs = map.insert image.docs key doc; pending = settled image.pending seq key }
acted image seq key (Remove cas rev) = record { docs = map.remove image.docs key; pending = settled image.pending seq key }
acted image seq key (Prepare level doc deleted) = record {
  docs = image.docs;
  pending = map.insert image.pending key (record { seq = seq; level = level; doc = doc; deleted = deleted });
}
acted image seq key (Commit prepared doc deleted) = record {
  docs = committed image.docs key doc deleted;
  pending = settled image.pending seq key;
}
acted image seq key (Abort prepared) = record { docs = image.docs; pending = settled image.pending seq key }

-- the image after one more change
abbrev pub applied : Picture → Change → Picture
applied image change = acted image change.seq change.key change.act

-- what an act says of its key's document: nothing, or which one there is after it
abbrev pub said : Act → Option (Option Doc)
said (Set doc) = Some (Some doc)
said (Remove cas rev) = Some None
said (Prepare level doc deleted) = None
said (Commit prepared doc deleted) = Some (if deleted then None else Some doc)
said (Abort prepared) = None

-- what a change says of a key's document
abbrev pub said_at : Change → List ℕ → Option (Option Doc)
said_at change key = if bytes_eq change.key key then said change.act else None

-- the image that a list of changes leaves, the oldest first
abbrev pub image_of : List Change → Picture
image_of changes = fold applied nothing changes
