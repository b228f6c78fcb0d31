use Rattle.std.proofs.Common.{arith, ◌<◌, ◌≤◌, length, get_or, ◌∷◌, ◌++◌, [], drop, sym, ap, ◌∙◌, ◌+◌, ◌≡◌, subst}
use Rattle.std.specs.Prelude.{OnOk}
use Rattle.vb_events.specs.declared.event.Event.TheVariants as event
use Rattle.node_core.specs.Clients.{IsProducers, with_replies}
use Rattle.node_core.proofs.ClientFrames.{told_all, told_more}
use Rattle.node_core.proofs.client.deliver.Goals as goal

pub copy_line-requires : goal.copy_line-requires
copy_line-requires c =
    let items = c.as_slice-line-items.ensures in
    let below : c.loop-line.line-index < length c.args.told.now = omega (arith, c.loop-line-test.true, ap length items) in
    subst IsProducers (sym (c.line-item.is ∙ ap (λ xs. get_or xs c.loop-line.line-index c.line-item.result) items)) (c.requires c.loop-line.line-index c.line-item.result below)

pub loop-line-preserved : goal.loop-line-preserved
loop-line-preserved c =
    let n = c.args.who.node in
    let client = c.args.who.client in
    let told = c.args.told.now in
    let at = c.loop-line.line-index in
    let items = c.as_slice-line-items.ensures in
    let below : at < length told = omega (arith, c.loop-line-test.true, ap length items) in
    let line = c.line-item.is ∙ ap (λ xs. get_or xs at c.line-item.result) items in
    let front = c.in_ok-push.ensures.ok ∙ ap (λ e. c.loop-line.lines ++ e ∷ []) c.in_ok-copy_line.ensures in
    let lines = c.in_ok-push-2.ensures.ok ∙ (λ i. front i ++ event.Reply n client (c.in_ok-take_front.ensures.front i) ∷ []) in
    told_more n client told at c.line-item.result (c.args.lines.now ++ with_replies n client told c.args.out) c.loop-line.lines c.loop-line.out below line c.loop-line.invariant
    ∙ sym (λ i. lines i ++ with_replies n client (drop (at + 1) told) (c.in_ok-take_front.ensures.rest i))

pub returns : goal.returns
returns c =
    let told = c.args.told.now in
    let past : length told ≤ c.loop-line.line-index = omega (arith, c.loop-line-test.false, ap length c.as_slice-line-items.ensures) in
    let all = told_all c.args.who.node c.args.who.client told c.loop-line.line-index (c.args.lines.now ++ with_replies c.args.who.node c.args.who.client told c.args.out) c.loop-line.lines c.loop-line.out past c.loop-line.invariant in
    subst (λ lines. OnOk c.tell_alone.result (c.tell_alone.new.lines ≡ lines)) (sym all) c.tell_alone.ensures
