-- the two slots of a key, as the sides that a change may touch
use Rattle.std.specs.Prelude.{◌≡◌, ℕ, ◌==◌, Bool, true, false, List, Option, Some, None, option_map, map, nat_lt, ◌&&◌}
use Rattle.std.specs.List.{filter}
use Rattle.std.specs.FinMap as finite
use Rattle.vb_types.specs.Keys.{key_cmp}
use Rattle.vb_types.specs.Histories.{Slot, is_visible, last_of, plain}
use Rattle.vb_types.specs.declared.change.Act.{Act}
use Rattle.vb_types.specs.declared.change.Change.{Change}
use Rattle.branch_model.specs.Snapshots.{is_slot_last}
use Rattle.journal_points.specs.declared.lasts.Side.{Side}
use Rattle.journal_points.specs.declared.lasts.Side.TheVariants.{Committed, Pending}

-- whether an act touches this side of its key
abbrev pub is_of_side : Side → Act → Bool
is_of_side Committed act = is_visible act
is_of_side Pending act = true

-- a key's slot of a side
abbrev pub slot_of : Side → List ℕ → Slot
slot_of Committed key = Slot.Committed key
slot_of Pending key = Slot.Pending key

-- the seqno of each key's last change of a side
abbrev pub AreLasts : Side → List Change → finite.FinMap key_cmp ℕ → Type 0
AreLasts side h lasts = (key : List ℕ) → finite.get lasts key ≡ option_map (λ (c : Change). c.seq) (last_of (slot_of side key) h)

-- it is the seqno that is there
abbrev pub is_at : ℕ → Option ℕ → Bool
is_at n None = false
is_at n (Some seq) = seq == n

-- what is sent of a list above `start`: the last changes of all slots
abbrev pub lasts_sent : ℕ → List Change → List Change
lasts_sent start h = map plain (filter (λ c. nat_lt start c.seq && is_slot_last h c) h)
