use Rattle.std.proofs.Common.{◌≡◌, ◌-◌, ◌+◌, ◌++◌, suc, ap, sym, ◌∙◌, arith}
use Rattle.std.specs.Prelude.{Some, option_map}
use Rattle.vb_journal.specs.Payloads.{front_map, items_in}
use Rattle.vb_journal.proofs.Items.{items_done, items_none, items_next}
use Rattle.vb_journal.proofs.payload.reader.take_items.Goals as goal

pub returns-in_default : goal.returns-in_default
returns-in_default c =
    items_none (c.args.count - c.loop.counter) c.loop.items.items c.loop.rest (omega arith) (sym c.in_ok-item.ensures ∙ ap (option_map (λ a. (a, c.take_item.new.rest))) c.in_default.is) ∙ c.loop.invariant

pub loop-preserved : goal.loop-preserved
loop-preserved c =
    let left : c.args.count - c.loop.counter ≡ suc (c.args.count - (c.loop.counter + 1)) = omega arith in
    ap (λ l. front_map (λ more. l ++ more) (items_in (c.args.count - (c.loop.counter + 1)) c.take_item.new.rest)) c.in_ok-push.ensures.items
    ∙ items_next (c.args.count - c.loop.counter) _ c.loop.items.items c.loop.rest c.in-Some.item c.take_item.new.rest left (sym c.in_ok-item.ensures ∙ ap (option_map (λ a. (a, c.take_item.new.rest))) c.in-Some.is)
    ∙ c.loop.invariant

pub returns : goal.returns
returns c = ap (λ items. Some (items, c.loop.rest)) c.from_vec.ensures ∙ items_done (c.args.count - c.loop.counter) c.loop.items.items c.loop.rest (omega arith) ∙ c.loop.invariant
