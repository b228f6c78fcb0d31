use Rattle.std.specs.Prelude.{◌≡◌}
use Rattle.transcript_law.proofs.Words.{ℕ, true, false, refl, arith}
use Rattle.transcript_law.proofs.rows.StateRows.{one_counted}
use Rattle.transcript_law.proofs.states.states_are_read.Goals as goal

pub returns : goal.returns
returns c = record {
  pending = refl;
  last = refl;
  other = refl;
  writes = refl;
  nobody = refl;
  client = λ chronicle n d put. refl;
  counted = one_counted;
  uncounted = λ p. let e : ◌≡◌ {A = ℕ} 0 1 = p.told in omega (arith, e);
  told = refl;
  beside = λ t. let z : false ≡ true = t in cc;
  to_client = λ t. let z : false ≡ true = t in cc;
  up = λ t. let z : false ≡ true = t in cc;
  down = λ t. let z : false ≡ true = t in cc;
  pull = λ t. let z : false ≡ true = t in cc;
  pull_link = λ t. let z : false ≡ true = t in cc;
}
