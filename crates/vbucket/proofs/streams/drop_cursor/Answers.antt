use Rattle.std.proofs.Common.{map, sym, subst}
use Rattle.vb_calls.specs.Streams.{without_cursor}
use Rattle.ckpt_list.specs.Lists.{Ckpts}
use Rattle.vbucket.specs.Steady.{CursorsAreStreams}
use Rattle.vbucket.proofs.Feeding.{dropped_same, fed_dropped, fed_undropped}
use Rattle.vbucket.proofs.streams.drop_cursor.Goals as goal

pub returns-then-id-eq0-clause-fed : goal.returns-then-id-eq0-clause-fed
returns-then-id-eq0-clause-fed c = fed_undropped c.args.list.now.places c.args.streams.now.items c.args.id c.requires c.if-id-eq0.true

pub returns-clause-fed : goal.returns-clause-fed
returns-clause-fed c =
    subst (λ (l : Ckpts). CursorsAreStreams l.places (map (without_cursor c.args.id) c.args.streams.now.items)) (sym c.drop_cursor.ensures.places) (fed_dropped c.args.list.now.places c.args.streams.now.items c.args.id c.requires)

pub returns-clause-list : goal.returns-clause-list
returns-clause-list c = dropped_same c.args.list.now c.drop_cursor.new.self c.args.id c.if-id-eq0.false c.drop_cursor.ensures.places
