use Rattle.vbucket.proofs.vbucket.VBucket.expire.Goals as goal

pub carry_out-requires-clause-rises : goal.carry_out-requires-clause-rises
carry_out-requires-clause-rises c = c.in_ok-plan.ensures.rises.rises

pub carry_out-requires-clause-durable : goal.carry_out-requires-clause-durable
carry_out-requires-clause-durable c = c.in_ok-plan.ensures.rises.durable
