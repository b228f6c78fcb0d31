use Rattle.std.proofs.Common.{◌∙◌, refl, sym, ap, subst}
use Rattle.std.specs.Prelude.{replicate}
use Rattle.vb_disk.specs.Memory.{IsBlurOf}
use Rattle.vb_disk.specs.declared.made.Made.TheVariants as made
use Rattle.vb_disk.proofs.made.Made.blurred.Goals as goal

pub returns-in-Wrote : goal.returns-in-Wrote
returns-in-Wrote c =
    subst (λ m. IsBlurOf c.args.byte m (made.Wrote c.in-Wrote.at c.fill.new.self)) (sym c.in-Wrote.is) (c.fill.new.self, refl, c.fill.ensures.items (λ y e. e) ∙ ap (λ n. replicate n c.args.byte) c.in-Wrote.bytes.ok.0)
