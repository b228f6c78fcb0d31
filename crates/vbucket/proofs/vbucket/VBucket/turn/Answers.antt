use Rattle.std.proofs.Common.{ap, subst, ◌∙◌, rules}
use Rattle.vb_calls.specs.State.{Plain}
use Rattle.vbucket.specs.Kept.{Kept}
use Rattle.vbucket.specs.Steady.{AreApart}
use Rattle.vbucket.specs.Turning.{turned_to}
use Rattle.vbucket.proofs.Dropping.{turned_none, turned_one}
use Rattle.vbucket.proofs.vbucket.VBucket.turn.Goals as goal

pub returns-clause-ok : goal.returns-clause-ok
returns-clause-ok c = search rules

pub returns-clause-none : goal.returns-clause-none
returns-clause-none c = λ zero.
    let vb : Plain = c.args.self.now.rest in
    returns-clause-ok c ∙ ap (turned_to vb c.args.role) zero ∙ turned_none vb c.args.role (subst AreApart (ap (λ (k : Kept). k.rest.streams) c.self.view_is) c.self.invariant.fed.apart)

pub returns-clause-one : goal.returns-clause-one
returns-clause-one c = λ s there dead.
    let vb : Plain = c.args.self.now.rest in
    returns-clause-ok c ∙ ap (λ r. turned_to vb r c.args.kept) dead ∙ turned_one vb c.args.kept s (subst AreApart (ap (λ (k : Kept). k.rest.streams) c.self.view_is) c.self.invariant.fed.apart) there
