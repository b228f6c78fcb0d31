-- the last seqno behind a write and behind a rollback
use Rattle.std.proofs.Common.{◌≡◌, ℕ, Bool, true, false, refl, ap}
use Rattle.std.specs.Prelude.{if◌then◌else◌}
use Rattle.vb_types.specs.declared.position.Position.{Position}
use Rattle.vb_types.specs.declared.status.Status.TheVariants as status
use Rattle.vb_types.specs.Images.{Picture}
use Rattle.vb_calls.specs.declared.calls.VbAnswer.TheVariants as answer
use Rattle.vb_calls.specs.declared.calls.VbReply.{VbReply}
use Rattle.vb_calls.specs.Following.{is_follower, rolled_vb}
use Rattle.vb_calls.specs.Plain.{Plain}
use Rattle.vb_calls.specs.State.{quiet_reply, refusal_reply}
use Rattle.vbucket.specs.Highs.{high_of, HighsAreLast}
use Rattle.vbucket.proofs.ReadBack.{are_read}

-- a rollback, where the vBucket follows and where it does not
abbrev roll_outcome : Plain → ℕ → Picture → ℕ → Bool → Plain × VbReply
roll_outcome vb at image cas b = if b then (rolled_vb vb at image cas, quiet_reply (answer.Num at)) else (vb, refusal_reply status.NotMyVbucket)

-- one that is answered a number went back to it
went_back : (vb : Plain) (at now cas : ℕ) (image : Picture) (b : Bool) → (roll_outcome vb at image cas b).1.answer ≡ answer.Num now
    → (high_of (roll_outcome vb at image cas b).0 ≡ at) × (now ≡ at)
went_back vb at now cas image true e = (refl, cc)
went_back vb at now cas image false e = cc

pub highs_are_last : HighsAreLast
highs_are_last = record {
  made = λ node uuid r. refl;
  told = λ vb. (_, _, _, _, refl);
  stored = λ vb write clock uuid seq cas e. let made = are_read vb write clock uuid seq cas e in ap (λ (p : Position). p.at) made.position;
  rolled = λ vb at now cas image e. went_back vb at now cas image (is_follower vb.role) e;
}
