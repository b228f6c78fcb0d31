use Rattle.std.specs.Prelude.{◌≡◌, ◌≤◌}
use Rattle.transcript_law.proofs.Words.{ℕ, arith}
use Rattle.transcript_law.proofs.takeovers.judged_pending_seals.Goals as goal

pub returns : goal.returns
returns c = record {
  sealed = omega arith;
  changed = omega arith;
  unchanged = λ l. let e : ◌≡◌ {A = ℕ} 1 0 = l in omega (arith, e);
  two = λ l. let e : 2 ≤ 1 = l in omega (arith, e);
  active = λ l. let e : ◌≡◌ {A = ℕ} 0 1 = l in omega (arith, e);
  replica = λ l. let e : ◌≡◌ {A = ℕ} 1 0 = l in omega (arith, e);
}
