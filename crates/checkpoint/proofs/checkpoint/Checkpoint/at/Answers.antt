use Rattle.std.proofs.Common.{◌≡◌, sym, ap, ◌∙◌}
use Rattle.std.specs.Prelude.{Some}
use Rattle.std.specs.Option.{option_copied, option_map}
use Rattle.checkpoint.specs.Checkpoints.{item_at}
use Rattle.checkpoint.proofs.Places.{found_at}
use Rattle.checkpoint.proofs.checkpoint.Checkpoint.at.Goals as goal

pub returns-in-Some : goal.returns-in-Some
returns-in-Some c =
    let named : option_map (λ d. d.seq) (item_at c.args.key.now c.self.inside.changes) ≡ Some c.in-Some.seq.now =
    sym (c.self.invariant.0.found c.args.key.now) ∙ sym c.get.ensures.value ∙ ap option_copied c.in-Some.is in
    c.get-in-Some.ensures ∙ found_at c.self.inside.above c.self.inside.last c.self.inside.changes c.args.key.now c.in-Some.seq.now c.self.invariant.1.rises named
    ∙ ap (λ k. item_at c.args.key.now k.items) c.self.view_is
