use Rattle.std.proofs.Common.{◌≡◌, ap, subst, sym, ◌∙◌}
use Rattle.ckpt_list.specs.Lists.{Ckpts, high_of}
use Rattle.vbucket.specs.Laws.{AreFed}
use Rattle.vbucket.specs.Steady.{CursorsAreStreams}
use Rattle.vbucket.specs.Turning.{only_stream}
use Rattle.vbucket.proofs.Dropping.{feeds_only}
use Rattle.vbucket.proofs.vbucket.VBucket.end_streams.Goals as goal

pub invariant_of-self-2 : goal.invariant_of-self-2
invariant_of-self-2 c =
    let v = c.self.inside in
    let l = c.drop_cursors.new.list in
    let now : c.keep.new.streams.items ≡ only_stream c.args.kept v.streams.items = c.keep.ensures in
    let floor : l.floor ≡ v.list.floor = ap (λ (x : Ckpts). x.floor) (c.drop_cursors.ensures.changes.rest ∙ (λ i. record (c.in_ok-seal.ensures.ok i) { places = l.places })) in
    record {
      high = ap high_of c.drop_cursors.ensures.changes.rest ∙ ap high_of c.in_ok-seal.ensures.ok ∙ c.self.invariant.high;
      fed = subst (CursorsAreStreams l.places) (ap (only_stream c.args.kept) c.deref-2.ensures.value ∙ sym now) c.drop_cursors.ensures.fed;
      feeds = subst (AreFed c.args.role l.floor) (sym now)
          (feeds_only v.role c.args.role l.floor c.args.kept v.streams.items c.self.invariant.fed.apart c.requires (subst (λ n. AreFed v.role n v.streams.items) (sym floor) c.self.invariant.feeds));
    }
