use Rattle.std.proofs.Common.{rules, refl, ap}
use Rattle.node_core.proofs.numbered.Numbered.get_mut.Goals as goal

pub returns : goal.returns
returns g c =
    rw (← c.self.view_is) (
      (refl, λ w there. let wrote = (c.get_mut.follows.holds w).3 there in record { changed = wrote.1; others = λ other differs. wrote.2 other (search rules) }, ap (λ m. m.entries) c.get_mut.follows.holds-at-none),
      record { writes_back = tt; value = c.get_mut.ensures.value },
    )
