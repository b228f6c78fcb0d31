-- plans that may be carried out, and the keys of their changes
use Rattle.std.specs.Prelude.{◌≡◌, ℕ, true, List}
use Rattle.std.specs.FinMap as map
use Rattle.std.specs.List.{fold, list_all}
use Rattle.vb_types.specs.declared.change.Change.{Change}
use Rattle.vb_types.specs.Keys.{key_cmp}
use Rattle.vb_types.specs.Histories.{Rises}
use Rattle.vb_calls.specs.Spans.{is_durable}
use Rattle.vbucket.specs.declared.vbucket.settling.Plan.{Plan}

-- the changes of a plan rise from a seqno up to its last one, and are parts of durable writes
pub record IsRising (low : ℕ) (p : Plan) : Type 0 where
  pub rises : Rises low p.at p.changes
  pub durable : list_all (λ c. is_durable c.act) p.changes ≡ true

-- the keys of changes
abbrev pub keys_of : List Change → map.FinMap key_cmp (Unit {0})
keys_of cs = fold (λ keys c. map.insert keys c.key tt) map.empty cs
