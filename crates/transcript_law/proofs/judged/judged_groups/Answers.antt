use Rattle.std.specs.Prelude.{◌≡◌}
use Rattle.transcript_law.proofs.Words.{ℕ, [], refl, arith, after_dead}
use Rattle.transcript_law.proofs.rows.{Groups.{Never, whole}, Silent.{shut_heard}}
use Rattle.transcript_law.specs.Contrary.{promotes_dead, promoted_groups, risen_lines}
use Rattle.transcript_law.proofs.judged.judged_groups.Goals as goal
use Rattle.vb_events.specs.declared.event.Answer.TheVariants as answer
use Rattle.vb_events.specs.declared.event.Cause.TheVariants as cause
use Rattle.transcript_law.proofs.lines.Rises.{made_here}

pub returns : goal.returns
returns c = record {
  promoted = whole after_dead promotes_dead (promoted_groups 1 risen_lines answer.Ok) refl
      (((record { new = (λ e. omega arith, tt); newest = refl; last = refl; leaves = refl }, (record { another = λ e. cc; anew = λ e. made_here _ _ _ 7 refl refl refl; pending = λ e. cc }, tt)), (refl, tt), refl), tt) (shut_heard after_dead promotes_dead (promoted_groups 1 risen_lines answer.Ok) (λ n c. refl) refl) (Never (λ l. refl));
  refused = whole after_dead promotes_dead (promoted_groups 1 [] (answer.No cause.WrongRole)) refl ((tt, tt, refl), tt) (shut_heard after_dead promotes_dead (promoted_groups 1 [] (answer.No cause.WrongRole)) (λ n c. refl) refl) (Never (λ l. refl));
  refused_told = λ l. let e : risen_lines ≡ [] = l.0.4 cause.WrongRole refl tt in cc;
  another = λ l. let e : ◌≡◌ {A = ℕ} 2 1 = l.0.3 in omega arith;
}
