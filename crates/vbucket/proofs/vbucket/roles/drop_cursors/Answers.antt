use Rattle.std.proofs.Common.{◌≡◌, ◌+◌, suc, false, ap, refl, sym, subst, get_or, drop, arith}
use Rattle.std.proofs.lemmas.List.{drop_all}
use Rattle.vb_calls.specs.declared.stream.Stream.{Stream}
use Rattle.cursor_set.specs.Cursors.{Places}
use Rattle.ckpt_list.specs.Lists.{Ckpts}
use Rattle.vbucket.specs.Kept.{SameChanges}
use Rattle.vbucket.proofs.Dropping.{AreGone, first_gone, gone_next, gone_past, gone_last}
use Rattle.vbucket.proofs.Feeding.{dropped_same, numbered_at, same_more}
use Rattle.vbucket.proofs.vbucket.roles.drop_cursors.Goals as goal
use Rattle.vbucket.proofs.vbucket.roles.drop_cursors.Goals.{then-stream-kept, else-stream-kept}

abbrev none : Stream
none = record { id = 0; ask = record { flags = 0; start = 0; end = 0; uuid = 0; ss = 0; se = 0 }; sync = false; place = 0; cursor = false; taken = false }

pub loop-stream-init : goal.loop-stream-init
loop-stream-init c = (record { rest = refl; zero = refl }, first_gone c.args.list.now.places c.args.streams.now c.args.kept c.requires)

pub drop_cursor-requires : goal.drop_cursor-requires
drop_cursor-requires c =
    numbered_at c.args.list.now.places c.args.streams.now c.loop-stream.stream-index none (get_or c.args.streams.now c.loop-stream.stream-index none) c.requires c.loop-stream-test.true refl

pub loop-stream-preserved : goal.loop-stream-preserved
loop-stream-preserved c =
    let first : Ckpts = c.args.list.now in
    let streams = c.args.streams.now in
    let kept = c.args.kept in
    let i = c.loop-stream.stream-index in
    let s : Stream = get_or streams i none in
    let next : suc i ≡ i + 1 = omega arith in
    let was = c.loop-stream.invariant in
    let named = numbered_at first.places streams i none s c.requires c.loop-stream-test.true refl in
    elim c.if-stream-kept.branch [
      | then-stream-kept w ↦
          let places = w.drop_cursor.ensures.places in
          subst (λ (l : Ckpts). SameChanges first l × AreGone first.places kept l.places (drop (i + 1) streams)) (sym w.list-is) (
            same_more first c.loop-stream.list w.drop_cursor.new.self was.0 (dropped_same c.loop-stream.list w.drop_cursor.new.self s.id named places),
            subst (λ n. AreGone first.places kept w.drop_cursor.new.self.places (drop n streams)) next
                (subst (λ (p : Places). AreGone first.places kept p (drop (suc i) streams)) (sym (ap (λ (l : Ckpts). l.places) places)) (gone_next first.places kept c.loop-stream.list.places streams i none s c.loop-stream-test.true refl w.if-stream-kept.true was.1)),
          )
      | else-stream-kept w ↦ subst (λ (l : Ckpts). SameChanges first l × AreGone first.places kept l.places (drop (i + 1) streams)) (sym w.list-is) (
        was.0,
        subst (λ n. AreGone first.places kept c.loop-stream.list.places (drop n streams)) next (gone_past first.places kept c.loop-stream.list.places streams i none s c.loop-stream-test.true refl w.if-stream-kept.false was.1),
      )
    ]

pub returns-clause-fed : goal.returns-clause-fed
returns-clause-fed c =
    let l : Ckpts = c.loop-stream.list in
    let was = c.loop-stream.invariant in
    let all = drop_all c.loop-stream.stream-index c.args.streams.now c.loop-stream-test.false in
    gone_last c.args.list.now.places c.args.streams.now c.args.kept l.places c.requires (subst (AreGone c.args.list.now.places c.args.kept l.places) all was.1)
