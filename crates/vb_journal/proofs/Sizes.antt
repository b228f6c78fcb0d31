-- payloads are as long as their sizes say
use Rattle.std.proofs.Common.{◌≡◌, List, [], ◌∷◌, length, refl, arith, length-append}
use Rattle.std.specs.Prelude.{sum_by}
use Rattle.std.specs.List.{flat_map}
use Rattle.std.proofs.lemmas.List.Sums.{sum_by-cons}
use Rattle.vb_types.specs.declared.change.Act.{Act}
use Rattle.vb_types.specs.declared.change.Act.TheVariants as act
use Rattle.vb_types.specs.declared.change.Change.{Change}
use Rattle.vb_types.specs.declared.journal.Record.{Record}
use Rattle.vb_types.specs.declared.journal.Record.TheVariants as noted
use Rattle.vb_journal.specs.Payloads.{act_bytes, item_bytes, payload_of}
use Rattle.vb_journal.specs.Sizes.{act_size, item_size, payload_size}
use Rattle.vb_journal.proofs.Lengths.{length_doc, length_log, length_item, length_batch, length_rows}

length_act : (a : Act) → length (act_bytes a) ≡ act_size a
unfolding act_bytes
length_act (act.Set doc) = length_doc doc
length_act (act.Remove cas rev) = refl
length_act (act.Prepare level doc deleted) = omega (arith, length_doc doc)
length_act (act.Commit prepared doc deleted) = omega (arith, length_doc doc)
length_act (act.Abort prepared) = refl

length_items : (items : List Change) → length (flat_map item_bytes items) ≡ sum_by item_size items
length_items [] = refl
length_items (c ∷ items) = omega (arith, length_items items, sum_by-cons item_size c items, length_act c.act, length_item c, length-append (item_bytes c) (flat_map item_bytes items))

pub length_payload : (r : Record) → length (payload_of r) ≡ payload_size r
unfolding payload_of
length_payload (noted.State role log) = omega (arith, length_log log)
length_payload (noted.Rows b) = omega (arith, length_rows b, length_batch b, length_log b.log, length_items b.items)
length_payload (noted.Roll to) = refl
