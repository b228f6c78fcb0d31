-- how a node takes a vBucket over
use Rattle.std.specs.Prelude.{Option, Some, None}
use Rattle.vb_types.specs.declared.role.Role.{Role}
use Rattle.vb_types.specs.declared.role.Role.TheVariants as role
use Rattle.takeover.specs.declared.take_over.TakeOver.{TakeOver}
use Rattle.takeover.specs.declared.take_over.TakeStep.{TakeStep}
use Rattle.takeover.specs.declared.take_over.TakeStep.TheVariants.{Pend, Own}

-- no state has come
abbrev pub new_take_over : TakeOver
new_take_over = record { last = None }

-- what a state has a node do, by what the one before had it do: pending comes first, and active right behind it; nothing else is in order
abbrev pub step_at : Option TakeStep → Role → Option TakeStep
step_at None role.Pending = Some Pend
step_at (Some Pend) role.Active = Some Own
step_at last other = None

-- the node did it, or there was nothing to be done
abbrev pub with_step : Option TakeStep → TakeOver → TakeOver
with_step None t = t
with_step (Some step) t = record { last = Some step }

-- a state has come
abbrev pub told : Role → TakeOver → TakeOver
told state t = with_step (step_at t.last state) t
