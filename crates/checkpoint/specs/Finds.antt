-- how a checkpoint finds the change of a key
use Rattle.std.specs.Prelude.{◌≡◌, ℕ, ◌≤◌, List, [], ◌∷◌, Option, None, Some}
use Rattle.std.specs.Option.{option_map, unwrap_or}
use Rattle.vb_types.specs.Histories.{Rises}
use Rattle.vb_types.specs.declared.change.Change.{Change}
use Rattle.vb_calls.specs.declared.span.TheConstants.{MAX_WEIGHT}
use Rattle.vb_calls.specs.Spans.{change_weight}
use Rattle.branch_model.specs.Histories.{last_seq}
use Rattle.checkpoint.specs.Checkpoints.{item_at, items_weight}
use Rattle.checkpoint.specs.Runs.{change_at, lacking}

-- no two changes have one key
abbrev pub AreDistinct : List Change → Type 0
AreDistinct [] = Unit {0}
AreDistinct (c ∷ cs) = (item_at c.key cs ≡ None) × AreDistinct cs

-- one change of each key, and the seqno of each key's one
pub record Finds (items : List Change) (seqs : List ℕ → Option ℕ) : Type 0 where
  pub distinct : AreDistinct items
  pub found : (key : List ℕ) → seqs key ≡ option_map (λ c. c.seq) (item_at key items)

-- changes rise between two seqnos, and weigh so much
pub record IsMeasured (above last weight : ℕ) (items : List Change) : Type 0 where
  pub ends : last ≡ last_seq above items
  pub rises : Rises above last items
  pub weighs : weight ≡ items_weight items
  pub light : weight ≤ MAX_WEIGHT

-- the changes without the one with a seqno, if one is named
abbrev pub without : Option ℕ → List Change → List Change
without None items = items
without (Some seq) items = lacking seq items

-- what the change with a seqno weighs, if one is named
abbrev pub weight_at : Option ℕ → List Change → ℕ
weight_at None items = 0
weight_at (Some seq) items = unwrap_or (option_map change_weight (change_at seq items)) 0
