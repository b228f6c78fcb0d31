-- a vBucket that lets a request continue reaches the end that the request means
use Rattle.std.specs.Prelude.{◌≡◌, ◌≤◌, ◌==◌, if◌then◌else◌, nat_le}
use Rattle.transcript_law.proofs.Words.{ℕ, Bool, true, false, List, refl, arith, eqb-true, min, Option, Some, None, nat_tests, LogEntry, StreamAsk, Verdict, Continue, Roll, effective_ss, effective_se, rule, judged, upper}
use Rattle.branch_model.proofs.Ruling.{reach_zero, upper_le}
use Rattle.branch_model.specs.Logs.{Falls}

pub continues_reached : (log : List LogEntry) (high : ℕ) (ask : StreamAsk) → Falls log high → ask.ss ≤ ask.start → rule log high ask ≡ Continue → effective_se ask.start ask.ss ask.se ≤ high
continues_reached log high ask falls low = by (ask.start == 0) refl (ask.uuid == 0)
  where
    reach : ℕ
    reach = effective_se ask.start ask.ss ask.se

    judged_low : (o : Option ℕ) → upper high log ask.uuid ≡ o → judged o (effective_ss ask.start ask.ss ask.se) reach ≡ Continue → reach ≤ high
    judged_low None e q = cc
    judged_low (Some most) e q = within (nat_le reach most) refl q
      where
        within : (b : Bool) → nat_le reach most ≡ b → (if b then Continue else Roll (min (effective_ss ask.start ask.ss ask.se) most)) ≡ Continue → reach ≤ high
        within true t q = let l : most ≤ high = upper_le high log ask.uuid most falls e in grind (arith, nat_tests, t, l)
        within false t q = cc

    by : (a : Bool) → (ask.start == 0) ≡ a → (b : Bool) → (if a then Continue else if b then Roll 0 else judged (upper high log ask.uuid) (effective_ss ask.start ask.ss ask.se) reach) ≡ Continue → reach ≤ high
    by true e b q = let r : reach ≡ 0 = reach_zero ask.ss ask.se ask.start low (eqb-true ask.start 0 e) in omega (arith, r)
    by false e true q = cc
    by false e false q = judged_low (upper high log ask.uuid) refl q
