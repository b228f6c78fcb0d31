use Rattle.std.proofs.Common.{◌≡◌, ap, sym, ◌∙◌}
use Rattle.std.specs.Option.{option_or}
use Rattle.vb_types.specs.declared.change.Change.{Change}
use Rattle.ckpt_list.proofs.Sheds.{back_sorted, first_parts, front_sorted}
use Rattle.ckpt_list.proofs.Stops.{first_of}
use Rattle.ckpt_list.proofs.parts.first_seen.Goals as goal

pub first_seen_in-requires : goal.first_seen_in-requires
first_seen_in-requires c = front_sorted (λ (d : Change). d.seq) _ _ _ c.as_slices.ensures.items c.requires

pub first_seen_in-requires-in-None : goal.first_seen_in-requires-in-None
first_seen_in-requires-in-None c = back_sorted (λ (d : Change). d.seq) _ _ _ c.as_slices.ensures.items c.requires

pub returns-in-Some : goal.returns-in-Some
returns-in-Some c =
    let back = first_of c.args.place c.args.sync c.as_slices.result.1.now in
    sym (first_parts c.args.place c.args.sync _ _ _ c.as_slices.ensures.items ∙ ap (λ o. option_or o back) (sym c.first_seen_in.ensures ∙ c.in-Some.is))

pub returns-in-None : goal.returns-in-None
returns-in-None c =
    let back = first_of c.args.place c.args.sync c.as_slices.result.1.now in
    c.first_seen_in-in-None.ensures ∙ sym (first_parts c.args.place c.args.sync _ _ _ c.as_slices.ensures.items ∙ ap (λ o. option_or o back) (sym c.first_seen_in.ensures ∙ c.in-None.is))
