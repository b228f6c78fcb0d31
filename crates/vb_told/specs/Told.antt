-- what a job did, where others may call the same vBuckets and ask the same journals
use Rattle.std.specs.Prelude.{◌≡◌, ℕ, List, [], ◌∷◌, ◌++◌}
use Rattle.vb_calls.specs.declared.calls.VbCall.{VbCall}
use Rattle.vb_calls.specs.declared.calls.VbReply.{VbReply}
use Rattle.vb_calls.specs.Programs.{Made, gained}
use Rattle.vb_calls.specs.Jobs.{Job, Ended, Call, Request}
use Rattle.vb_calls.specs.Shelves.{Ask, Got}

-- a job made these calls, in this order, got these replies, and came to this answer, with some answers of its journals
abbrev pub ToldJob : {A : Type 0} → Job A → List Made → A → Type 0
ToldJob (Ended a) [] answer = answer ≡ a
ToldJob (Ended a) (m ∷ made) answer = ⊥
ToldJob (Call v call next) [] answer = ⊥
ToldJob (Call v call next) (m ∷ made) answer = (m.0 ≡ v) × (m.1 ≡ call) × ToldJob (next m.2) made answer
ToldJob (Request v ask next) made answer = (got : Got ask) × ToldJob (next got) made answer

-- the first calls of a job, with some answers of its journals
abbrev pub FirstJobCalls : {A : Type 0} → Job A → List Made → Type 0
FirstJobCalls (Ended a) [] = Unit {0}
FirstJobCalls (Ended a) (m ∷ made) = ⊥
FirstJobCalls (Call v call next) [] = Unit {0}
FirstJobCalls (Call v call next) (m ∷ made) = (m.0 ≡ v) × (m.1 ≡ call) × FirstJobCalls (next m.2) made
FirstJobCalls (Request v ask next) made = (got : Got ask) × FirstJobCalls (next got) made

-- each vBucket's list gained its calls, and nothing else
abbrev pub Gained : {W : Type 0} → (W → ℕ → List (VbCall × VbReply)) → List Made → W → W → Type 0
Gained mine made old new = (w : ℕ) → mine new w ≡ mine old w ++ gained w made

-- journals of which nothing is told: they answer, and what hides them stays
abbrev pub hidden_asks : {K : Type 0} → K → ℕ → (ask : Ask) → Got ask → K → Type 0
hidden_asks old v ask got new = new ≡ old
