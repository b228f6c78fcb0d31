use Rattle.vb_calls.specs.Plain.{Plain}
use Rattle.storm.specs.Ending.{Reads}
use Rattle.storm.proofs.Turns.{Reading}
use Rattle.storm.proofs.reading.read_all.Given as goal

abbrev pub invariant-loop : goal.invariant-loop
invariant-loop g l = (vb : Plain) → Reads l.v l.fn.seats vb → Reading l.v l.id l.count l.counter vb l.seats l.image
