use Rattle.std.proofs.Common.{leb, ltb, ap, ◌∙◌}
use Rattle.vb_types.specs.declared.change.Change.{Change}
use Rattle.vb_types.specs.Histories.{upto}
use Rattle.ckpt_list.proofs.Climbs.{filter_both}
use Rattle.ckpt_list.proofs.parts.stretch.Goals as goal

pub returns : goal.returns
returns c =
    c.count_to.ensures.front ∙ ap (λ xs. upto xs c.args.end) c.above-later.ensures.above
    ∙ filter_both (λ (d : Change). ltb c.args.place d.seq) (λ (d : Change). leb d.seq c.args.end) c.args.items.now
