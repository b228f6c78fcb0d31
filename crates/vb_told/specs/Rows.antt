-- a job of two calls, and what it made
use Rattle.std.specs.Prelude.{◌≡◌, ℕ, List, [], ◌∷◌, Option, Some, None}
use Rattle.vb_calls.specs.declared.calls.VbCall.{VbCall}
use Rattle.vb_calls.specs.declared.calls.VbCall.TheVariants.{Stat, Log}
use Rattle.vb_calls.specs.declared.calls.VbReply.{VbReply}
use Rattle.vb_calls.specs.declared.calls.VbAnswer.TheVariants as answer
use Rattle.vb_calls.specs.Programs.{Made, gained}
use Rattle.vb_calls.specs.Jobs.{Job, Ended, Call, Request}
use Rattle.vb_calls.specs.Shelves.{Look, Flush}
use Rattle.vb_calls.specs.State.{quiet_reply}
use Rattle.vb_told.specs.Told.{ToldJob, FirstJobCalls}

-- asks the vBucket 3 for its numbers, looks what is on its way to its journal, and asks the vBucket for its failover log. It comes to what was on the way, with the log's reply
abbrev pub asking : Job (Flush × Option VbReply)
asking = Call 3 Stat (λ numbers. Request 3 Look (λ flush. Call 3 Log (λ log. Ended (flush, log))))

-- each call to the vBucket v of which a reply told a number
abbrev pub told_stat : ℕ → ℕ → Made
told_stat v high = (v, Stat, Some (quiet_reply (answer.Stat 0 0 1 0 high)))

abbrev pub told_log : ℕ → Made
told_log v = (v, Log, Some (quiet_reply (answer.Logged [])))

abbrev pub empty_log : Option VbReply
empty_log = Some (quiet_reply (answer.Logged []))

pub record JobsInNumbers : Type 0 where
  -- whatever number it was told, and whatever was on the way
  pub made : (high : ℕ) (flush : Flush) → ToldJob asking (told_stat 3 high ∷ told_log 3 ∷ []) (flush, empty_log)
  pub front : (high : ℕ) → FirstJobCalls asking [] × FirstJobCalls asking (told_stat 3 high ∷ []) × FirstJobCalls asking (told_stat 3 high ∷ told_log 3 ∷ [])
  -- one call less, in another order, another vBucket's, one more, or with another answer
  pub fewer : (high : ℕ) (a : Flush × Option VbReply) → ToldJob asking (told_stat 3 high ∷ []) a → ⊥
  pub turned : (high : ℕ) (a : Flush × Option VbReply) → ToldJob asking (told_log 3 ∷ told_stat 3 high ∷ []) a → ⊥
  pub other : (high : ℕ) (a : Flush × Option VbReply) → ToldJob asking (told_stat 4 high ∷ told_log 3 ∷ []) a → ⊥
  pub more : (high : ℕ) → FirstJobCalls asking (told_stat 3 high ∷ told_log 3 ∷ told_log 3 ∷ []) → ⊥
  pub ends : (high : ℕ) (flush : Flush) → ToldJob asking (told_stat 3 high ∷ told_log 3 ∷ []) (flush, None) → ⊥
  -- the list of the vBucket 3 gained both, and no other any
  pub lists : (high : ℕ) → (gained 3 (told_stat 3 high ∷ told_log 3 ∷ []) ≡ (Stat, quiet_reply (answer.Stat 0 0 1 0 high)) ∷ (Log, quiet_reply (answer.Logged [])) ∷ []) × (gained 4 (told_stat 3 high ∷ told_log 3 ∷ []) ≡ [])
