use Rattle.std.proofs.Common.{◌≡◌, ◌∷◌, length, ap, sym, subst, ◌∙◌, arith}
use Rattle.node_world.specs.World.{PlainWorld, empty_world, groups_from, world_step}
use Rattle.node_world.proofs.WorldRests.{empty_rests}
use Rattle.script_gen.specs.Scripts.{Gives}
use Rattle.dcp_main.specs.Sums.{none_kept, kept_of}
use Rattle.dcp_main.proofs.Made.{made_is_short}
use Rattle.dcp_main.proofs.summary.run_made.Goals as goal

pub loop-summary-init : goal.loop-summary-init
loop-summary-init c = record {
  plain = empty_world;
  stands = c.new-world.ensures;
  rests = empty_rests;
  rest = ap (λ script. kept_of none_kept (groups_from empty_world script)) c.new-script.ensures;
  many = omega (arith, ap length c.new-script.ensures, made_is_short c.args.seed c.args.count c.ranges.count.fits);
  told = omega arith;
}

pub loop-summary-preserved : goal.loop-summary-preserved
loop-summary-preserved c =
    let was = c.loop-summary.invariant in
    let given : c.loop-summary.script ≡ c.in-Some.line ∷ c.next.new.self = subst (λ o. Gives c.loop-summary.script o c.next.new.self) c.in-Some.is c.in_ok-line.ensures.given in
    let played = c.in_ok-play.ensures.played was.plain was.stands was.rests in
    let p : PlainWorld = (world_step was.plain c.in-Some.line).0 in
    record {
      plain = p;
      stands = played.0;
      rests = played.1;
      rest = ap (λ t. kept_of t (groups_from p c.next.new.self)) played.2 ∙ (sym (ap (λ s. kept_of c.loop-summary.summary (groups_from was.plain s)) given) ∙ was.rest);
      many = omega (arith, ap length given, ap (λ t. t.script) played.2, was.many);
      told = omega (arith, was.told, c.in_ok-play.ensures.lines, ap (λ t. t.script) played.2);
    }
