-- how many bytes records are
use Rattle.std.specs.Prelude.{ℕ, ◌+◌, ◌*◌, length, sum_by}
use Rattle.vb_types.specs.declared.change.Act.{Act}
use Rattle.vb_types.specs.declared.change.Act.TheVariants as act
use Rattle.vb_types.specs.declared.change.Change.{Change}
use Rattle.vb_types.specs.declared.journal.Record.{Record}
use Rattle.vb_types.specs.declared.journal.Record.TheVariants as noted

-- what an act says
abbrev pub act_size : Act → ℕ
act_size (act.Set doc) = 29 + length doc.value
act_size (act.Remove cas rev) = 16
act_size (act.Prepare level doc deleted) = 31 + length doc.value
act_size (act.Commit prepared doc deleted) = 38 + length doc.value
act_size (act.Abort prepared) = 8

-- a change
abbrev pub item_size : Change → ℕ
item_size c = 10 + length c.key + act_size c.act

-- a payload
abbrev pub payload_size : Record → ℕ
payload_size (noted.State role log) = 4 + 16 * length log
payload_size (noted.Rows b) = 39 + 16 * length b.log + sum_by item_size b.items
payload_size (noted.Roll to) = 10
