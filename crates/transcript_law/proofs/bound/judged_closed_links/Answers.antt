use Rattle.std.specs.Prelude.{◌≡◌}
use Rattle.transcript_law.proofs.Words.{refl, Answer, Cause, empty_chronicle}
use Rattle.transcript_law.proofs.rows.BoundRows.{refused_for}
use Rattle.transcript_law.specs.BoundRows.{one_dialed, one_over}
use Rattle.script_text.specs.declared.verb.Verb.TheVariants as verb
use Rattle.script_text.specs.declared.verb.LinkVerb.TheVariants as link_verb
use Rattle.transcript_law.proofs.verbs.Handing.{hands_plain}
use Rattle.transcript_law.proofs.bound.judged_closed_links.Goals as goal

pub returns : goal.returns
returns c = record {
  up = λ wanted. refused_for one_over (verb.AtLink 1 (link_verb.Up wanted)) (λ n c. refl) Cause.LinkClosed tt refl refl;
  down = λ wanted. refused_for one_over (verb.AtLink 1 (link_verb.Down wanted)) (λ n c. refl) Cause.LinkClosed tt refl refl;
  pump = λ wanted. refused_for one_over (verb.AtLink 1 (link_verb.Pump wanted)) (λ n c. refl) Cause.LinkClosed tt refl refl;
  drop = refused_for one_over (verb.AtLink 1 link_verb.Drop) (λ n c. refl) Cause.LinkClosed tt refl refl;
  cut = refused_for one_over (verb.AtLink 1 link_verb.Cut) (λ n c. refl) Cause.LinkClosed tt refl refl;
  up_undialed = λ l wanted. refused_for empty_chronicle (verb.AtLink l (link_verb.Up wanted)) (λ n c. refl) Cause.LinkClosed tt refl refl;
  down_undialed = λ l wanted. refused_for empty_chronicle (verb.AtLink l (link_verb.Down wanted)) (λ n c. refl) Cause.LinkClosed tt refl refl;
  pump_undialed = λ l wanted. refused_for empty_chronicle (verb.AtLink l (link_verb.Pump wanted)) (λ n c. refl) Cause.LinkClosed tt refl refl;
  drop_undialed = λ l. refused_for empty_chronicle (verb.AtLink l link_verb.Drop) (λ n c. refl) Cause.LinkClosed tt refl refl;
  cut_undialed = λ l. refused_for empty_chronicle (verb.AtLink l link_verb.Cut) (λ n c. refl) Cause.LinkClosed tt refl refl;
  cuts = (((((record { producer = 0; node = 1; vb = 0 }), refl), tt), tt, refl, refl, (λ w no standing. let e : Answer.Ok ≡ Answer.No w = no in cc), hands_plain _ _ _ _ refl refl, tt, tt, λ n k opens. cc, tt, tt, (refl, tt)), tt);
  other = λ wanted. refused_for one_dialed (verb.AtLink 2 (link_verb.Up wanted)) (λ n c. refl) Cause.LinkClosed tt refl refl;
}
