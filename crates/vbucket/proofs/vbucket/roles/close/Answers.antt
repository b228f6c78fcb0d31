use Rattle.std.proofs.Common.{sym, subst}
use Rattle.std.specs.FinMap as finite
use Rattle.ckpt_list.specs.Lists.{Ckpts}
use Rattle.vbucket.specs.Steady.{CursorsAreStreams}
use Rattle.vbucket.proofs.Feeding.{dropped_same, fed_closed, fed_same}
use Rattle.vbucket.proofs.vbucket.roles.close.Goals as goal

pub returns-then-id-eq0-clause-fed : goal.returns-then-id-eq0-clause-fed
returns-then-id-eq0-clause-fed c = subst (CursorsAreStreams c.args.list.now.places) (sym c.close.ensures) (fed_same c.args.list.now.places c.args.streams.now.items c.args.id c.requires c.if-id-eq0.true)

pub returns-clause-fed : goal.returns-clause-fed
returns-clause-fed c =
    subst (λ (l : Ckpts). CursorsAreStreams l.places c.close.new.streams.items) (sym c.drop_cursor.ensures.places)
    (subst (CursorsAreStreams (finite.remove c.args.list.now.places c.args.id)) (sym c.close.ensures) (fed_closed c.args.list.now.places c.args.streams.now.items c.args.id c.requires))

pub returns-clause-list : goal.returns-clause-list
returns-clause-list c = dropped_same c.args.list.now c.drop_cursor.new.self c.args.id c.if-id-eq0.false c.drop_cursor.ensures.places
