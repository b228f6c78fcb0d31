-- what a program comes to over vBuckets whose replies are known
use Rattle.std.proofs.Common.{ℕ, Option}
use Rattle.vb_calls.specs.declared.calls.VbCall.{VbCall}
use Rattle.vb_calls.specs.declared.calls.VbReply.{VbReply}
use Rattle.vb_calls.specs.Programs.{AlwaysWith, Call, Done, Prog, after}
use Rattle.vb_calls.specs.States.{States, states_step}

module _ (replies : VbCall → Option VbReply → Type 0) (calls : ℕ → VbCall → Type 0) (Good : States → Type 0)
    (steps : (states : States) (v : ℕ) (call : VbCall) → Good states → calls v call → replies call (states_step states v call).1 × Good (states_step states v call).0) where
  -- they stay such, and the answer is one of those that it may come to
  pub after_with : {A : Type 0} (answers : A → Type 0) (prog : Prog A) (states : States) → Good states → AlwaysWith replies calls answers prog → Good (after prog states).0 × answers (after prog states).1
  after_with answers (Done a) states good always = (good, always)
  after_with answers (Call v call next) states good always =
      let step : States × Option VbReply = states_step states v call in
      let (may, stays) = steps states v call good always.0 in
      after_with answers (next step.1) step.0 stays (always.1 step.1 may)
