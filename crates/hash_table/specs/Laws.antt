-- what the prepares by rising seqnos are, in other words
use Rattle.std.specs.Prelude.{◌≡◌, ◌↔◌, ◌⊎◌, ℕ, ◌+◌, ◌<◌, List, Some, length, slice_index_or}
use Rattle.std.specs.FinMap as map
use Rattle.std.specs.List.{Contains}
use Rattle.std.specs.declared.cmp.Ordering.TheVariants.{Less}
use Rattle.vb_types.specs.declared.change.Pend.{Pend}
use Rattle.vb_types.specs.Keys.{key_cmp}
use Rattle.hash_table.specs.Tables.{by_seqnos}

-- one has the lower seqno, or the same and the smaller key
abbrev pub IsBefore : List ℕ × Pend → List ℕ × Pend → Type 0
IsBefore one other = (one.1.seq < other.1.seq) ⊎ ((one.1.seq ≡ other.1.seq) × (key_cmp one.0 other.0 ≡ Less))

-- exactly the map's entries, each once, and each before the next
pub record ListsAll (pending : map.FinMap key_cmp Pend) (es : List (List ℕ × Pend)) : Type 0 where
  pub exactly : (key : List ℕ) (pend : Pend) → Contains es (key, pend) ↔ (map.get pending key ≡ Some pend)
  pub once : length es ≡ map.len pending
  pub rises : (k : ℕ) (d : List ℕ × Pend) → k + 1 < length es → IsBefore (slice_index_or es k d) (slice_index_or es (k + 1) d)

-- of every map
abbrev pub SeqnosRise : Type 0
SeqnosRise = (pending : map.FinMap key_cmp Pend) → ListsAll pending (by_seqnos pending)
