use Rattle.std.proofs.Common.{◌≡◌, ap, subst, sym, ◌∙◌, []}
use Rattle.vb_types.specs.declared.role.Role.TheVariants.{Active}
use Rattle.ckpt_list.specs.Lists.{high_of}
use Rattle.vbucket.specs.Kept.{Kept}
use Rattle.vbucket.specs.Promoting.{turned_active, unfed}
use Rattle.vbucket.specs.Laws.{AreFed}
use Rattle.vbucket.specs.Steady.{CursorsAreStreams}
use Rattle.vbucket.specs.Turning.{only_stream}
use Rattle.vbucket.specs.contracts.vbucket.VBucket as row
use Rattle.vbucket.proofs.Dropping.{is_unfed, only_zero}
use Rattle.vbucket.proofs.Fed.{feeds_none}
use Rattle.vbucket.proofs.vbucket.VBucket.turn_active.Goals as goal

pub invariant_of-self : goal.invariant_of-self
invariant_of-self c =
    let v = c.self.inside in
    let none : only_stream 0 c.deref.result.now ≡ [] = ap (only_stream 0) c.deref.ensures.value ∙ only_zero v.streams.items c.self.invariant.fed.apart in
    record {
      high = ap high_of c.drop_cursors.ensures.changes.rest ∙ c.self.invariant.high ∙ sym (ap (λ p. p.at) c.complete_at-self-inside.ensures);
      fed = subst (CursorsAreStreams c.drop_cursors.new.list.places) (none ∙ sym c.clear.ensures.items) c.drop_cursors.ensures.fed;
      feeds = subst (AreFed Active c.drop_cursors.new.list.floor) (sym c.clear.ensures.items) (feeds_none Active c.drop_cursors.new.list.floor);
    }

pub returns : goal.returns
returns c =
    let v = c.self.inside in
    let none : only_stream 0 c.deref.result.now ≡ [] = ap (only_stream 0) c.deref.ensures.value ∙ only_zero v.streams.items c.self.invariant.fed.apart in
    let list : c.drop_cursors.new.list ≡ unfed v.list =
    is_unfed v.list c.drop_cursors.new.list c.drop_cursors.ensures.changes (subst (CursorsAreStreams c.drop_cursors.new.list.places) none c.drop_cursors.ensures.fed) in
    let known = c.resolve_all.ensures in
    let now : Kept = row.the_view v in
    (λ i. let k : Kept = record {
      rest = record now.rest { role = Active; position = c.complete_at-self-inside.ensures i; streams = c.clear.ensures.items i; others = (known i).others; acks = (known i).acks; waiting = (known i).waiting };
      list = list i;
    } in k)
    ∙ ap (λ (k : Kept). turned_active k c.args.left c.args.changes.now) c.self.view_is
