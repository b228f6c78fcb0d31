use Rattle.dcp_io.specs.declared.Put.TheVariants as put
use Rattle.dcp_io.proofs.Poured.{part_of_put, put_rose}
use Rattle.dcp_io.proofs.output.put_text.Goals as goal

pub returns-in-Failed : goal.returns-in-Failed
returns-in-Failed g c = (part_of_put put.Failed c.in-Failed.ensures.moved, put_rose c.in-Failed.ensures.moved)
