use Rattle.std.proofs.Common.{◌∙◌, ◌∷◌, ◌++◌, [], Bool, ap, sym, append-nil}
use Rattle.std.specs.Prelude.{if◌then◌else◌}
use Rattle.std.proofs.lemmas.Result.{on_ok_weaker}
use Rattle.node_world.proofs.crashes.push_if.Goals as goal

pub returns-then-is_told : goal.returns-then-is_told
returns-then-is_told c = on_ok_weaker c.push.result (λ ok. ok ∙ sym (ap (λ (b : Bool). c.args.events.now ++ (if b then c.args.line ∷ [] else [])) c.if-is_told.true)) c.push.ensures.ok

pub returns : goal.returns
returns c = sym (ap (λ (b : Bool). c.args.events.now ++ (if b then c.args.line ∷ [] else [])) c.if-is_told.false ∙ append-nil c.args.events.now)
