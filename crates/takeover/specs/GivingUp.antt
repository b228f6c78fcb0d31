-- how a node gives a vBucket up
use Rattle.takeover.specs.declared.give_up.GiveUp.{GiveUp}
use Rattle.takeover.specs.declared.give_up.GiveStep.{GiveStep}
use Rattle.takeover.specs.declared.give_up.GiveStep.TheVariants.{SendAll, SendPending, AwaitPending, Yield, SendRest, SendActive, AwaitActive, End}

-- all that there is comes first
abbrev pub new_give_up : GiveUp
new_give_up = record { step = SendAll }

-- the step behind one that was done; those that await an answer, and the last, have none so
abbrev pub behind : GiveStep → GiveStep
behind SendAll = SendPending
behind SendPending = AwaitPending
behind AwaitPending = AwaitPending
behind Yield = SendRest
behind SendRest = SendActive
behind SendActive = AwaitActive
behind AwaitActive = AwaitActive
behind End = End

-- the step behind one whose answer came; only the two that await one go on so
abbrev pub behind_answer : GiveStep → GiveStep
behind_answer SendAll = SendAll
behind_answer SendPending = SendPending
behind_answer AwaitPending = Yield
behind_answer Yield = Yield
behind_answer SendRest = SendRest
behind_answer SendActive = SendActive
behind_answer AwaitActive = End
behind_answer End = End

-- a step was done
abbrev pub done : GiveUp → GiveUp
done g = record { step = behind g.step }

-- the other node answered
abbrev pub answered : GiveUp → GiveUp
answered g = record { step = behind_answer g.step }
