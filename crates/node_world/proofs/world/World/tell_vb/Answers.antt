use Rattle.std.proofs.Common.{◌≡◌, sym, subst, IfOk}
use Rattle.std.proofs.lemmas.Result.{IfOk-weaker}
use Rattle.script_text.specs.declared.verb.VbVerb.{VbVerb}
use Rattle.node_world.specs.Power.{with_arm}
use Rattle.node_world.specs.Rests.{Rests}
use Rattle.node_world.specs.Stands.{WorldStands}
use Rattle.node_world.specs.World.{vb_verb_step}
use Rattle.node_world.specs.Worlds.{Outcome, PlainWorld}
use Rattle.node_world.proofs.Promoting.{dead_is, follow_is}
use Rattle.node_world.proofs.world.World.tell_vb.Goals as goal

pub returns-in-Follow : goal.returns-in-Follow
returns-in-Follow c =
    subst (λ (said : VbVerb). IfOk c.set_role_armed.result (λ told. (w : PlainWorld) → WorldStands c.args.self.now w → Rests w → WorldStands c.set_role_armed.new.self (vb_verb_step w c.args.n c.args.v said).0 × (told ≡ (vb_verb_step w c.args.n c.args.v said).1))) (sym c.in-Follow.is)
    (IfOk-weaker c.set_role_armed.result _ _ (λ told came w stands rests.
    subst (λ (o : Outcome). WorldStands c.set_role_armed.new.self (with_arm c.args.n w o).0 × (told ≡ (with_arm c.args.n w o).1)) (sym (follow_is w c.args.n c.args.v)) (came w stands rests)) c.set_role_armed.ensures)

pub returns-in-Dead : goal.returns-in-Dead
returns-in-Dead c =
    subst (λ (said : VbVerb). IfOk c.set_role_armed-in-Dead.result (λ told. (w : PlainWorld) → WorldStands c.args.self.now w → Rests w → WorldStands c.set_role_armed-in-Dead.new.self (vb_verb_step w c.args.n c.args.v said).0 × (told ≡ (vb_verb_step w c.args.n c.args.v said).1))) (sym c.in-Dead.is)
    (IfOk-weaker c.set_role_armed-in-Dead.result _ _ (λ told came w stands rests.
    subst (λ (o : Outcome). WorldStands c.set_role_armed-in-Dead.new.self (with_arm c.args.n w o).0 × (told ≡ (with_arm c.args.n w o).1)) (sym (dead_is w c.args.n c.args.v)) (came w stands rests)) c.set_role_armed-in-Dead.ensures)
