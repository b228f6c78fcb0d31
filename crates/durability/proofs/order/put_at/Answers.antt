use Rattle.std.proofs.Common.{◌≡◌, ◌+◌, ◌-◌, ◌++◌, ◌∷◌, List, take, drop, ap, ◌∙◌, arith}
use Rattle.std.proofs.lemmas.List.{length-drop}
use Rattle.durability.specs.declared.waiting.Waiting.{Waiting}
use Rattle.durability.proofs.Rising.{turned}
use Rattle.durability.proofs.order.put_at.Goals as goal

pub returns-clause-items : goal.returns-clause-items
returns-clause-items c =
    let ws : List Waiting = c.args.waiting.now.items in
    let at = c.args.at in
    let n = c.len.result - at in
    let e = length-drop at ws in
    let right : c.rotate_right.new.self.items ≡ drop at ws ++ take at ws = c.rotate_right.ensures.items ∙ ap (λ k. drop k ws ++ take k ws) (omega arith) in
    c.rotate_left.ensures.items
    ∙ ap (λ xs. drop (n + 1) xs ++ take (n + 1) xs) (c.push_front_reserved.ensures.items ∙ ap (λ xs. c.args.prepare ∷ xs) right)
    ∙ turned c.args.prepare (take at ws) (drop at ws) n (omega arith)
