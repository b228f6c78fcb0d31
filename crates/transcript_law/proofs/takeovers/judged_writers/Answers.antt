use Rattle.std.specs.Prelude.{◌≡◌}
use Rattle.transcript_law.proofs.Words.{ℕ, refl, ap, arith, Option, Some, Role}
use Rattle.transcript_law.proofs.rows.TakeoverRows.{first_in}
use Rattle.transcript_law.proofs.takeovers.judged_writers.Goals as goal

pub returns : goal.returns
returns c = record {
  maker = refl;
  yielded = refl;
  nobody = refl;
  heir = refl;
  others = refl;
  beside = refl;
  beside_heir = refl;
  counts = refl;
  snapshot = refl;
  heir_writes = record { made_or_took = refl; on_branch = refl };
  maker_writes = λ l. let e : ◌≡◌ {A = ℕ} 1 0 = ap first_in l.made_or_took in omega (arith, e);
  early = λ l. let e : ◌≡◌ {A = Option Role} (Some Role.Pending) (Some Role.Active) = l.active in cc;
  later = λ l. let e : ◌≡◌ {A = Option (Option Role)} (Some (Some Role.Dead)) (Some (Some Role.Active)) = ap (λ r. Some r) l.active in cc;
  late = λ l. let e : ◌≡◌ {A = Option Role} (Some Role.Dead) (Some Role.Active) = l.active in cc;
}
