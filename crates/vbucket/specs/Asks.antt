-- what a request for a stream is told
use Rattle.std.specs.Prelude.{◌≡◌, ◌≢◌, ◌↔◌, ◌⊎◌, ◌≤◌, ℕ, false, Bool, List, [], ◌∷◌, ◌++◌}
use Rattle.vb_types.specs.declared.stream.AskAnswer.{AskAnswer}
use Rattle.vb_types.specs.declared.stream.AskAnswer.TheVariants.{Go, Roll as RollTo, Refuse}
use Rattle.vb_types.specs.declared.role.Role.TheVariants.{Active}
use Rattle.vb_types.specs.declared.stream.Place.{Place}
use Rattle.vb_types.specs.declared.stream.StreamAsk.{StreamAsk}
use Rattle.vb_types.specs.declared.stream.Verdict.TheVariants.{Continue, Roll}
use Rattle.branch_model.specs.Requests.{rule}
use Rattle.vb_calls.specs.declared.calls.VbCall.TheVariants.{OpenStream, Place as PlaceOf}
use Rattle.vb_calls.specs.declared.calls.VbAnswer.TheVariants.{Asked, Opened, Placed}
use Rattle.vb_calls.specs.declared.calls.VbReply.{VbReply}
use Rattle.vb_calls.specs.declared.stream.Stream.{Stream}
use Rattle.vb_calls.specs.Plain.{Plain, plain_step}
use Rattle.vb_calls.specs.State.{quiet_reply}

-- a stream is opened, and its changes come from there
abbrev pub AnswersOpened : Plain → Plain × VbReply → Place → Type 0
AnswersOpened vb after from = after.1.answer ≡ Opened vb.log vb.position.at from

-- none is opened, and this is said
abbrev pub AnswersWith : Plain → Plain × VbReply → AskAnswer → Type 0
AnswersWith vb after said = after.1.answer ≡ Asked said vb.log vb.position.at

-- a stream is opened under a number that is not 0, or none is and it is not said that one was; whatever is said, the answer has the failover log and the last seqno
abbrev pub HasLog : Plain → ℕ → Plain × VbReply → Type 0
HasLog vb id after = ((from : Place) × AnswersOpened vb after from × (id ≢ 0)) ⊎ ((said : AskAnswer) × AnswersWith vb after said × (said ≢ Go))

-- each request is answered so
abbrev pub AnswersHaveLog : Type 0
AnswersHaveLog = (vb : Plain) (id : ℕ) (ask : StreamAsk) (sync : Bool) → HasLog vb id (plain_step vb (OpenStream id ask sync))

-- a stream of this number is among these
abbrev pub IsOpen : ℕ → List Stream → Type 0
IsOpen id [] = ⊥
IsOpen id (s ∷ ss) = (s.id ≡ id) ⊎ IsOpen id ss

-- no stream can be opened under this number
abbrev pub IsTaken : Plain → ℕ → Type 0
IsTaken vb id = (id ≡ 0) ⊎ IsOpen id vb.streams

-- the request starts in the snapshot that it names, and not above the end that it wants
abbrev pub IsRanged : StreamAsk → Type 0
IsRanged ask = (ask.ss ≤ ask.start) × (ask.start ≤ ask.se) × (ask.start ≤ ask.end)

-- nothing refuses the request
abbrev pub IsHeard : Plain → ℕ → StreamAsk → Type 0
IsHeard vb id ask = (vb.role ≡ Active) × (IsTaken vb id → ⊥) × IsRanged ask

-- the vBucket with one stream more, which stands at the start of its request, has no cursor and took nothing
abbrev pub with_asked : Plain → ℕ → StreamAsk → Bool → Plain
with_asked vb id ask sync = record vb { streams = vb.streams ++ record { id = id; ask = ask; sync = sync; place = ask.start; cursor = false; taken = false } ∷ [] }

-- 0x07 unless the vBucket is active, then 0x02 for a number that is taken, then 0x22 for a range that is none; else the failover log decides, and where it lets the request continue one stream more is open: it stands where Place leaves a stream that stood at the request's start, and its changes come from where Place says
pub record OpensAs (vb : Plain) (id : ℕ) (ask : StreamAsk) (sync : Bool) (after : Plain × VbReply) : Type 0 where
  pub foreign : AnswersWith vb after (Refuse 7) ↔ (vb.role ≢ Active)
  pub taken : AnswersWith vb after (Refuse 2) ↔ ((vb.role ≡ Active) × IsTaken vb id)
  pub outside : AnswersWith vb after (Refuse 34) ↔ ((vb.role ≡ Active) × (IsTaken vb id → ⊥) × (IsRanged ask → ⊥))
  pub back : (to : ℕ) → AnswersWith vb after (RollTo to) ↔ (IsHeard vb id ask × (rule vb.log vb.position.at ask ≡ Roll to))
  pub go : ((from : Place) × AnswersOpened vb after from) ↔ (IsHeard vb id ask × (rule vb.log vb.position.at ask ≡ Continue))
  pub opens : (from : Place) → AnswersOpened vb after from → plain_step (with_asked vb id ask sync) (PlaceOf id) ≡ (after.0, quiet_reply (Placed from))

-- each request is answered in this order
abbrev pub OpensExactly : Type 0
OpensExactly = (vb : Plain) (id : ℕ) (ask : StreamAsk) (sync : Bool) → OpensAs vb id ask sync (plain_step vb (OpenStream id ask sync))
