-- which change a vBucket may make of its own next, by the changes that it holds
use Rattle.std.specs.Prelude.{◌≡◌, ℕ, ◌+◌, ◌-◌, ◌^◌, ◌<◌, ◌⊎◌, min, Bool, true, false, List, Option, Some, None}
use Rattle.std.specs.FinMap as finite
use Rattle.std.specs.Option.{option_map}
use Rattle.vb_types.specs.declared.change.Act.{Act}
use Rattle.vb_types.specs.declared.change.Act.TheVariants as act
use Rattle.vb_types.specs.declared.change.Change.{Change}
use Rattle.vb_types.specs.declared.change.Pend.{Pend}
use Rattle.vb_types.specs.declared.doc.Doc.{Doc}
use Rattle.vb_types.specs.Histories.{IsIn}
use Rattle.vb_types.specs.Images.{Picture, image_of}
use Rattle.branch_model.specs.Histories.{last_seq}
use Rattle.vb_calls.specs.Following.{cas_of}

-- the prepare that an act commits or gives up, by its seqno; any other act does neither
abbrev pub resolved_seq : Act → Option ℕ
resolved_seq (act.Set doc) = None
resolved_seq (act.Remove cas rev) = None
resolved_seq (act.Prepare level doc deleted) = None
resolved_seq (act.Commit prepared doc deleted) = Some prepared
resolved_seq (act.Abort prepared) = Some prepared

-- the CAS that a write gets when it is made or prepared
abbrev pub given_cas : Act → Option ℕ
given_cas (act.Set doc) = Some doc.cas
given_cas (act.Remove cas rev) = Some cas
given_cas (act.Prepare level doc deleted) = Some doc.cas
given_cas (act.Commit prepared doc deleted) = None
given_cas (act.Abort prepared) = None

-- and the revision
abbrev pub given_rev : Act → Option ℕ
given_rev (act.Set doc) = Some doc.rev
given_rev (act.Remove cas rev) = Some rev
given_rev (act.Prepare level doc deleted) = Some doc.rev
given_rev (act.Commit prepared doc deleted) = None
given_rev (act.Abort prepared) = None

-- a removal, or the prepare of one
abbrev pub is_removal : Act → Bool
is_removal (act.Set doc) = false
is_removal (act.Remove cas rev) = true
is_removal (act.Prepare level doc deleted) = deleted
is_removal (act.Commit prepared doc deleted) = false
is_removal (act.Abort prepared) = false

-- the seqno of the prepare that waits at a key, if one does
abbrev pub seq_waiting : Picture → List ℕ → Option ℕ
seq_waiting image key = option_map (λ (p : Pend). p.seq) (finite.get image.pending key)

-- the revision behind that of a key's document: 1 more, up to the greatest number of 64 bits, or 1 where there is none
abbrev pub rev_behind : Option Doc → ℕ
rev_behind None = 1
rev_behind (Some doc) = min (doc.rev + 1) (2 ^ 64 - 1)

-- a CAS of 64 bits is above that of each of the changes, or is the greatest such number
abbrev pub IsCasAbove : List Change → ℕ → Type 0
IsCasAbove held cas = (cas < 2 ^ 64) × ((cas ≡ 2 ^ 64 - 1) ⊎ ((c : Change) → IsIn c held → cas_of c.act < cas))

-- the next change of a vBucket that holds these
pub record IsNextChange (held : List Change) (change : Change) : Type 0 where
  -- its seqno is 1 more than the last one that is held, so none is left out
  pub next : change.seq ≡ last_seq 0 held + 1
  -- a key whose prepare waits gets the commit or the abort of that prepare, which it names by its seqno, and nothing else; any other key gets neither
  pub waits : resolved_seq change.act ≡ seq_waiting (image_of held) change.key
  -- a set, a removal and a prepare have a CAS above each that is held
  pub cas : (cas : ℕ) → given_cas change.act ≡ Some cas → IsCasAbove held cas
  -- and the revision behind that of the key's document
  pub rev : (rev : ℕ) → given_rev change.act ≡ Some rev → rev ≡ rev_behind (finite.get (image_of held).docs change.key)
  -- a removal, and the prepare of one, has a document to take
  pub taken : is_removal change.act ≡ true → (doc : Doc) × (finite.get (image_of held).docs change.key ≡ Some doc)
