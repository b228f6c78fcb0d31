use Rattle.std.specs.Prelude.{◌≡◌, take, drop}
use Rattle.vb_calls.specs.Programs.{Ran, each}
use Rattle.dcp_producer.specs.Giving.{none_given, one_given}
use Rattle.dcp_producer.specs.Wanting.{AllPersist}
use Rattle.dcp_producer.proofs.yields.give_each.Given as goal

abbrev pub invariant-loop-at : goal.invariant-loop-at
invariant-loop-at g l = record {
  ran : Ran g.A.VbAccess.step (each one_given (take l.at l.initial.streams.items) none_given) l.initial.vbs
      (record { streams = take l.at l.streams.items; yielded = l.yielded' }) l.vbs;
  rest : drop l.at l.streams.items ≡ drop l.at l.initial.streams.items;
  persist : AllPersist l.initial.streams.items l.streams.items;
}
