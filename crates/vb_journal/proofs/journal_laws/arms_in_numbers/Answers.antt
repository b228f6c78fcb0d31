use Rattle.std.proofs.Common.{refl}
use Rattle.vb_journal.proofs.journal_laws.arms_in_numbers.Goals as goal

pub returns-clause-opened : goal.returns-clause-opened
returns-clause-opened c = record { old = refl; new = refl; zero_byte = refl; one_byte = refl; other_byte = refl }

pub returns-clause-stands : goal.returns-clause-stands
returns-clause-stands c = λ out. record {
  stop_1 = refl;
  stop_2 = refl;
  stop_3 = refl;
  stop_4 = refl;
  fail_1 = refl;
  fail_2 = refl;
  fail_3 = refl;
  fail_4 = refl;
  stop_5 = refl;
  fail_5 = refl;
  none = refl;
  off = refl;
}

pub returns-clause-burns : goal.returns-clause-burns
returns-clause-burns c = record { fired = refl; fired_early = refl; passed = refl; passed_more = refl; hit = refl; done = refl }
