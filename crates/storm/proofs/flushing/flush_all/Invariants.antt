use Rattle.vb_calls.specs.Plain.{Plain}
use Rattle.storm.specs.Ending.{Reads}
use Rattle.storm.proofs.Turns.{Flushing}
use Rattle.storm.proofs.flushing.flush_all.Given as goal

abbrev pub invariant-loop : goal.invariant-loop
invariant-loop g l = (vb : Plain) → Reads l.v l.fn.seats vb → Flushing l.v l.count l.counter vb l.seats l.journals
