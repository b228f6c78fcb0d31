-- the number that a vBucket shows as it is called in turns, and what a call may be answered there
use Rattle.std.specs.Prelude.{◌≡◌, ℕ, [], ◌∷◌, List}
use Rattle.vb_types.specs.Images.{Picture}
use Rattle.vb_types.specs.declared.role.Role.{Role}
use Rattle.vb_types.specs.declared.role.Role.TheVariants as role
use Rattle.vb_types.specs.declared.write.Write.{Write}
use Rattle.vb_calls.specs.declared.calls.VbAnswer.TheVariants as answer
use Rattle.vb_calls.specs.declared.calls.VbCall.{VbCall}
use Rattle.vb_calls.specs.declared.calls.VbCall.TheVariants.{RollTo, Stat, Store}
use Rattle.vb_calls.specs.declared.calls.VbReply.{VbReply}
use Rattle.vb_calls.specs.Forms.{HasForm}
use Rattle.vb_calls.specs.Plain.{Plain, new_vb, plain_step}
use Rattle.vb_calls.specs.State.{complete_position, quiet_reply}

-- the last seqno
abbrev pub high_of : Plain → ℕ
high_of vb = vb.position.at

-- the reply has one of the answers of the call
abbrev pub may_reply : VbCall → VbReply → Type 0
may_reply call reply = HasForm call reply.answer

-- a vBucket that was made shows 0. Any shows the last seqno that it tells among its numbers; behind a write that is Stored that is the write's, and behind a rollback the seqno that it went back to
pub record HighsAreLast : Type 0 where
  pub made : (node uuid : ℕ) (r : Role) → high_of (new_vb node r uuid) ≡ 0
  pub told : (vb : Plain) → (windows items cursors saved : ℕ) × ((plain_step vb Stat).1.answer ≡ answer.Stat windows items cursors saved (high_of vb))
  pub stored : (vb : Plain) (write : Write) (clock uuid seq cas : ℕ) → (plain_step vb (Store write clock)).1.answer ≡ answer.Stored uuid seq cas → high_of (plain_step vb (Store write clock)).0 ≡ seq
  pub rolled : (vb : Plain) (at now cas : ℕ) (image : Picture) → (plain_step vb (RollTo at image cas)).1.answer ≡ answer.Num now → (high_of (plain_step vb (RollTo at image cas)).0 ≡ at) × (now ≡ at)

-- a follower that stands at this seqno
abbrev pub follower_at : ℕ → Plain → Plain
follower_at seq vb = record vb { role = role.Replica; position = complete_position seq }

-- one rollback, with what is replied to it
abbrev pub rolled_back : ℕ → Picture → ℕ → List (VbCall × VbReply)
rolled_back at image cas = (RollTo at image cas, quiet_reply (answer.Num at)) ∷ []
