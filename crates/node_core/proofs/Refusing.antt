-- what a connection and a dial refuse
use Rattle.std.proofs.Common.{ℕ, Option}
use Rattle.vb_calls.specs.Shelves.{Ask, Got}
use Rattle.vb_calls.specs.declared.calls.VbCall.{VbCall}
use Rattle.vb_calls.specs.declared.calls.VbReply.{VbReply}
use Rattle.node_core.specs.CallLaws.{RefusesNobody, RefusesOthers}

pub refuses_others : {W : Type 0} (step : W → ℕ → VbCall → Option VbReply → W → Type 0) → RefusesOthers step
refuses_others step = record {
  bytes = λ clock piece kept old out left new fed. (fed.1, fed.2, fed.0);
  outcomes = λ clock outcome kept old out left new posted. (posted.1, posted.2, posted.0);
  frames = λ f kept old out left new answered. (answered.1, answered.2, answered.0);
  hears = λ piece kept frames left heard. heard;
}

pub refuses_nobody : (W J : Type 0) (step : W → ℕ → VbCall → Option VbReply → W → Type 0) (asks : J → ℕ → (ask : Ask) → Got ask → J → Type 0) → RefusesNobody W J step asks
refuses_nobody W J step asks = record {
  bytes = λ clock key piece old out new x. x;
  outcomes = λ clock key outcome old out new x. x;
  frames = λ key f old out new x. x;
  pulls = λ frames key old out new x. x;
  gives = λ frames key old out new x. x;
  drops = λ v old out new x. x;
  shuts = λ key old out new x. x;
  dials = λ v piece old out new x. x;
  cuts = λ v old out new x. x;
  dues = λ v old out new x. x;
}
