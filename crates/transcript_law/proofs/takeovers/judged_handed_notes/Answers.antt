use Rattle.std.specs.Prelude.{◌≡◌, ◌<◌}
use Rattle.transcript_law.proofs.Words.{ℕ, true, false, refl, arith, inr, ⊎_elim, Some, None}
use Rattle.transcript_law.specs.LineAnswers.{Back}
use Rattle.transcript_law.proofs.takeovers.judged_handed_notes.Goals as goal

pub returns : goal.returns
returns c = record {
  stands = refl;
  breaks = refl;
  counted = refl;
  none = refl;
  answered = ((omega arith, λ e. cc, λ e. (refl, (refl, tt))), tt);
  passes = ((omega arith, λ e. cc, λ e. (refl, (refl, omega arith))), tt);
  hit = λ k few l. let passed : 4 < k = (l.0.2 refl).1.1 in omega (arith, few, passed);
  shut = λ l. let e : true ≡ false = (l.0.2 refl).1.0 in cc;
  failed = (((refl, (omega arith, omega arith)), inr refl, refl), tt);
  closed = ((refl, inr refl, refl), tt);
  unowed = λ l. ⊎_elim (λ b. let e : ◌≡◌ {A = Back} None (Some b.0) = b.1 in cc) (λ rises. let e : false ≡ true = rises in cc) l.0.1;
  beside = λ l. let e : true ≡ false = (l.0.2 refl).0 in cc;
}
