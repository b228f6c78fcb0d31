-- what is left where memory was wanting
use Rattle.std.proofs.Common.{◌≡◌, ℕ, refl, ap, ◌∙◌, subst, inl, inr, Option, Result, Ok, Err}
use Rattle.std.specs.Prelude.{OnErr}
use Rattle.vb_calls.specs.declared.calls.VbCall.{VbCall}
use Rattle.vb_calls.specs.declared.calls.VbReply.{VbReply}
use Rattle.vb_calls.specs.Programs.{Prog, Done, Call, Ran, Began}
use Rattle.vb_calls.proofs.Runs.{began_none}
use Rattle.dcp_producer.specs.Producers.{PlainProducer, Served, begun}
use Rattle.dcp_producer.specs.Wanting.{Left, Cut}

module _ {W : Type 0} (step : W → ℕ → VbCall → Option VbReply → W → Type 0) where
  -- what a program left, it came to
  pub left_ran : (prog : Prog Served) (old : W) (end : PlainProducer) (new : W) → Left step prog old end new → (s : Served) × Ran step prog old s new × (end ≡ s.end)
  left_ran (Done s) old end new (is, same) = (s, (refl, same), is)
  left_ran (Call v call next) old end new (reply, mid, first, rest) =
      let (s, ran, is) = left_ran (next reply) mid end new rest in (s, (reply, mid, first, ran), is)

  left_began : (prog : Prog Served) (old : W) (end : PlainProducer) (new : W) → Left step prog old end new → Began step prog old new
  left_began (Done s) old end new left = left.1
  left_began (Call v call next) old end new (reply, mid, first, rest) = inr (reply, mid, first, left_began (next reply) mid end new rest)

  -- what was cut has made a front part of its calls
  pub cut_began : (prog : Prog Served) (before : PlainProducer) (old : W) (end : PlainProducer) (new : W) → Cut step prog before old end new → Began step prog old new
  cut_began prog before old end new (inl none) = began_none step prog old new none.1
  cut_began prog before old end new (inr left) = left_began prog old end new left

  -- so it is where a call began with nothing told
  pub cut_so : {T E : Type 0} (result : Result T E) (answered : Served → Prog Served) (s : Served) (plain : PlainProducer) (old : W) (end : PlainProducer) (new : W) → s ≡ begun s.end → s.end ≡ plain
      → Cut step (answered s) s.end old end new → OnErr result (Began step (answered (begun plain)) old new)
  cut_so (Ok t) answered s plain old end new begins is cut = tt
  cut_so (Err stop) answered s plain old end new begins is cut = subst (λ t. Began step (answered t) old new) (begins ∙ ap begun is) (cut_began (answered s) s.end old end new cut)
