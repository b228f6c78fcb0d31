-- what was run to its end has begun
use Rattle.std.proofs.Common.{ℕ, Option, inr}
use Rattle.vb_calls.specs.declared.calls.VbCall.{VbCall}
use Rattle.vb_calls.specs.declared.calls.VbReply.{VbReply}
use Rattle.vb_calls.specs.Programs.{Prog, Done, Call, Ran, Began}

pub began_all : {W A : Type 0} (step : W → ℕ → VbCall → Option VbReply → W → Type 0) (prog : Prog A) (old : W) (a : A) (new : W) → Ran step prog old a new → Began step prog old new
began_all step (Done x) old a new ran = ran.1
began_all step (Call v call next) old a new ran = inr (ran.0, ran.1, ran.2, began_all step (next ran.0) ran.1 a new ran.3)
