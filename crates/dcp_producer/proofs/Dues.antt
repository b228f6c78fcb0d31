-- what is next and what is due behind the items of a stream, as numbers, and what was called and said
use Rattle.std.proofs.Common.{◌≡◌, ◌+◌, ◌≤◌, ◌<◌, ℕ, zero, suc, Bool, true, false, List, [], ◌∷◌, length, refl, sym, ap, ◌∙◌, subst, ◌⊎◌, inl, inr, arith, get_or, Option, Some, None}
use Rattle.takeover.specs.Laws.{at, number}
use Rattle.takeover.specs.declared.give_up.GiveStep.{GiveStep}
use Rattle.takeover.specs.declared.give_up.GiveStep.TheVariants as step
use Rattle.takeover.specs.declared.give_up.GiveUp.{GiveUp}
use Rattle.vb_types.specs.declared.role.Role.{Role}
use Rattle.std.specs.Prelude.{◌==◌, slice_get, nat_le}
use Rattle.std.proofs.lemmas.Bool.{false_from_ne_true, false≢true}
use Rattle.std.proofs.lemmas.Bool.Decides.{nat_tests}
use Rattle.mcbp_dcp.specs.declared.message.DcpMsg.{DcpMsg}
use Rattle.mcbp_dcp.specs.declared.message.DcpMsg.TheVariants as msg
use Rattle.vb_types.specs.declared.change.Act.{Act}
use Rattle.vb_types.specs.declared.change.Act.TheVariants as act
use Rattle.vb_types.specs.declared.change.Change.{Change}
use Rattle.vb_types.specs.declared.stream.Place.{Place}
use Rattle.vb_types.specs.declared.stream.Place.TheVariants as place
use Rattle.vb_calls.specs.declared.calls.VbAnswer.{VbAnswer}
use Rattle.vb_calls.specs.declared.calls.VbAnswer.TheVariants as answer
use Rattle.vb_calls.specs.declared.calls.VbCall.{VbCall}
use Rattle.vb_calls.specs.declared.calls.VbCall.TheVariants as call
use Rattle.vb_calls.specs.declared.calls.VbReply.{VbReply}
use Rattle.vb_calls.specs.Programs.{Made}
use Rattle.dcp_producer.specs.declared.next_frame.NextFrame.{NextFrame}
use Rattle.dcp_producer.specs.declared.next_frame.NextFrame.TheVariants as next
use Rattle.dcp_producer.specs.declared.next_frame.Waits.TheVariants as wait
use Rattle.dcp_producer.specs.Producers.{PlainStream}
use Rattle.dcp_producer.specs.Frames.{role_of, act_message, place_said, place_told, reaches_end}
use Rattle.dcp_producer.specs.Endings.{calls_in}
use Rattle.dcp_producer.specs.Ends.{IsAt, Reaches, IsSaid, AsksOn, AskedPlace, AskedTake, SaysTake, IsPromised}
use Rattle.dcp_producer.proofs.Framing.{Says, SaysOn, IsPromised as Promised, AsksMore, IsAwaiting, IsSending, IsSent}

-- ---- what is next, as a number

unfoldable pub message_tag : DcpMsg → ℕ
message_tag (msg.SnapshotMarker start end flags) = 1
message_tag (msg.SetVbucketState told) = 5
message_tag other = 0

unfoldable pub tag : NextFrame → ℕ
tag (next.Put m line) = message_tag m
tag (next.Quiet wait.Saved) = 2
tag (next.Quiet wait.Nothing) = 3
tag (next.Quiet wait.State) = 4
tag (next.End reason) = 10 + reason
tag next.Disk = 6

pub item_tag : (c : Change) (a : Act) → message_tag (act_message c a) ≡ 0
unfolding message_tag
item_tag c (act.Set doc) = refl
item_tag c (act.Remove cas rev) = refl
item_tag c (act.Prepare level doc deleted) = refl
item_tag c (act.Commit prepared doc deleted) = refl
item_tag c (act.Abort prepared) = refl

-- it is not two things
pub clash : {A : Type 0} (x : NextFrame) (n m : ℕ) → tag x ≡ n → tag x ≡ m → (n == m) ≡ false → A
clash x n m is other differ = absurd (let e : (n == m) ≡ true = grind (arith, nat_tests, is, other) in false≢true (sym differ ∙ e))

-- ---- the items, and the end that was asked for

pub none_behind : {X : Type 0} (xs : List X) (n : ℕ) → slice_get xs n ≡ None → length xs ≤ n
none_behind [] n none = omega arith
none_behind (x ∷ xs) zero none = absurd (cc none)
none_behind (x ∷ xs) (suc n) none = let e : length xs ≤ n = none_behind xs n none in omega (arith, e)

pub some_within : {X : Type 0} (xs : List X) (n : ℕ) (x : X) → slice_get xs n ≡ Some x → n < length xs
some_within [] n x some = absurd (cc some)
some_within (y ∷ xs) zero x some = omega arith
some_within (y ∷ xs) (suc n) x some = let e : n < length xs = some_within xs n x some in omega (arith, e)

pub reaches_so : (until : ℕ) (o : Option ℕ) → reaches_end until o ≡ true → (end : ℕ) × (o ≡ Some end) × (until ≤ end)
reaches_so until None is = absurd (cc is)
reaches_so until (Some end) is = (end, refl, grind (arith, nat_tests, is))

reached_so : (until : ℕ) (o : Option ℕ) → (end : ℕ) × (o ≡ Some end) × (until ≤ end) → reaches_end until o ≡ true
reached_so until o (end, is, low) = let e : nat_le until end ≡ true = grind (arith, nat_tests, low) in ap (reaches_end until) is ∙ e

-- ---- what is due behind the items of a stream that no change of role ended: 0 that its vBucket is asked, 1 its end, 2 a state, 3 that it waits

unfoldable pub kind_number : ℕ → ℕ
kind_number n = get_or (9 ∷ 0 ∷ 2 ∷ 3 ∷ 3 ∷ 0 ∷ 2 ∷ 3 ∷ 1 ∷ []) n 9

kind_by : Option GiveUp → Bool → ℕ
kind_by None true = 1
kind_by None false = 0
kind_by (Some g) reaches = kind_number (number g.step)

pub kind_of : PlainStream → ℕ
kind_of stream = kind_by stream.gives (reaches_end stream.until stream.marked)

module _ (stream : PlainStream) where
  pub at_kind : (n : ℕ) → IsAt n stream → kind_of stream ≡ kind_number n
  unfolding kind_of kind_by
  at_kind n (g, gives, is) = ap (λ o. kind_by o (reaches_end stream.until stream.marked)) gives ∙ ap kind_number is

  below_kind : stream.gives ≡ None → (Reaches stream → ⊥) → kind_of stream ≡ 0
  unfolding kind_of kind_by
  below_kind none below =
      ap (λ o. kind_by o (reaches_end stream.until stream.marked)) none
      ∙ ap (kind_by None) (false_from_ne_true (reaches_end stream.until stream.marked) (λ t. below (reaches_so stream.until stream.marked t)))

  reached_kind : stream.gives ≡ None → Reaches stream → kind_of stream ≡ 1
  unfolding kind_of kind_by
  reached_kind none reaches = ap (λ o. kind_by o (reaches_end stream.until stream.marked)) none ∙ ap (kind_by None) (reached_so stream.until stream.marked reaches)

  pub asks_kind : AsksOn stream → kind_of stream ≡ 0
  unfolding kind_number
  asks_kind asks = by asks.below
    where
      by : ((stream.gives ≡ None) × (Reaches stream → ⊥)) ⊎ IsAt 1 stream ⊎ IsAt 5 stream → kind_of stream ≡ 0
      by (inl (none, below)) = below_kind none below
      by (inr (inl first)) = at_kind 1 first
      by (inr (inr fifth)) = at_kind 5 fifth

  pub sent_kind : ((stream.gives ≡ None) × Reaches stream) ⊎ IsAt 8 stream → kind_of stream ≡ 1
  unfolding kind_number
  sent_kind (inl (none, reaches)) = reached_kind none reaches
  sent_kind (inr last) = at_kind 8 last

  pub state_kind : IsAt 2 stream ⊎ IsAt 6 stream → kind_of stream ≡ 2
  unfolding kind_number
  state_kind (inl second) = at_kind 2 second
  state_kind (inr sixth) = at_kind 6 sixth

  pub waits_kind : IsAt 3 stream ⊎ IsAt 4 stream ⊎ IsAt 7 stream → kind_of stream ≡ 3
  unfolding kind_number
  waits_kind (inl third) = at_kind 3 third
  waits_kind (inr (inl fourth)) = at_kind 4 fourth
  waits_kind (inr (inr seventh)) = at_kind 7 seventh

  -- not two of them are
  pub apart : {A : Type 0} (n m : ℕ) → kind_of stream ≡ n → kind_of stream ≡ m → (n == m) ≡ false → A
  apart n m is other differ = absurd (let e : (n == m) ≡ true = grind (arith, nat_tests, is, other) in false≢true (sym differ ∙ e))

-- the steps by what is done in them
sends_at : (g : GiveUp) (s : GiveStep) → g.step ≡ s → IsSending s → (at g ≡ 1) ⊎ (at g ≡ 5)
sends_at g step.SendAll is sends = inl (ap number is)
sends_at g step.SendRest is sends = inr (ap number is)
sends_at g step.SendPending is sends = absurd sends
sends_at g step.AwaitPending is sends = absurd sends
sends_at g step.Yield is sends = absurd sends
sends_at g step.SendActive is sends = absurd sends
sends_at g step.AwaitActive is sends = absurd sends
sends_at g step.End is sends = absurd sends

pub awaits_at : (stream : PlainStream) (g : GiveUp) → stream.gives ≡ Some g → (s : GiveStep) → g.step ≡ s → IsAwaiting s → IsAt 3 stream ⊎ IsAt 4 stream ⊎ IsAt 7 stream
awaits_at stream g gives step.AwaitPending is waits = inl (g, gives, ap number is)
awaits_at stream g gives step.Yield is waits = inr (inl (g, gives, ap number is))
awaits_at stream g gives step.AwaitActive is waits = inr (inr (g, gives, ap number is))
awaits_at stream g gives step.SendAll is waits = absurd waits
awaits_at stream g gives step.SendPending is waits = absurd waits
awaits_at stream g gives step.SendRest is waits = absurd waits
awaits_at stream g gives step.SendActive is waits = absurd waits
awaits_at stream g gives step.End is waits = absurd waits

pub tells_at : (stream : PlainStream) (g : GiveUp) → stream.gives ≡ Some g → (s : GiveStep) → g.step ≡ s → (told : Role) → role_of s ≡ Some told → IsAt 2 stream ⊎ IsAt 6 stream
tells_at stream g gives step.SendPending is told tells = inl (g, gives, ap number is)
tells_at stream g gives step.SendActive is told tells = inr (g, gives, ap number is)
tells_at stream g gives step.SendAll is told tells = absurd (cc tells)
tells_at stream g gives step.AwaitPending is told tells = absurd (cc tells)
tells_at stream g gives step.Yield is told tells = absurd (cc tells)
tells_at stream g gives step.SendRest is told tells = absurd (cc tells)
tells_at stream g gives step.AwaitActive is told tells = absurd (cc tells)
tells_at stream g gives step.End is told tells = absurd (cc tells)

pub asks_on : (stream : PlainStream) → AsksMore stream → AsksOn stream
asks_on stream more = record { behind = none_behind stream.items stream.next more.put; alive = more.alive; below = by more.below }
  where
    step_by : (g : GiveUp) → stream.gives ≡ Some g → (at g ≡ 1) ⊎ (at g ≡ 5) → ((stream.gives ≡ None) × (Reaches stream → ⊥)) ⊎ IsAt 1 stream ⊎ IsAt 5 stream
    step_by g gives (inl first) = inr (inl (g, gives, first))
    step_by g gives (inr fifth) = inr (inr (g, gives, fifth))

    by : ((stream.gives ≡ None) × (reaches_end stream.until stream.marked ≡ false)) ⊎ ((g : GiveUp) × (stream.gives ≡ Some g) × IsSending g.step)
        → ((stream.gives ≡ None) × (Reaches stream → ⊥)) ⊎ IsAt 1 stream ⊎ IsAt 5 stream
    by (inl (none, below)) = inl (none, λ reaches. false≢true (sym below ∙ reached_so stream.until stream.marked reaches))
    by (inr (g, gives, sends)) = step_by g gives (sends_at g g.step refl sends)

pub is_sent : (stream : PlainStream) → IsSent stream → ((stream.gives ≡ None) × Reaches stream) ⊎ IsAt 8 stream
is_sent stream (inl (none, reaches)) = inl (none, reaches_so stream.until stream.marked reaches)
is_sent stream (inr (g, gives, is)) = inr (g, gives, ap number is)

-- ---- what was said

pub said_so : (reply : Option VbReply) (a : VbAnswer) → Says reply a → IsSaid reply a
unfolding Says
said_so None a says = absurd says
said_so (Some r) a says = (r, refl, says)

pub says_so : (reply : Option VbReply) (a : VbAnswer) → IsSaid reply a → Says reply a
unfolding Says
says_so reply a (r, is, said) = subst (λ o. Says o a) (sym is) said

pub take_said : (from : Option VbReply) → SaysOn from → SaysTake from
take_said from (inl memory) = inl (said_so from (answer.Placed place.Memory) memory)
take_said from (inr (end, said)) = inr (end, said_so from (answer.Placed (place.Backfill end)) said)

pub promised_so : (stream : PlainStream) (made : List Made) (end : ℕ) → Promised stream made end → IsPromised stream made end
promised_so stream made end (inl unread) = inl unread
promised_so stream made end (inr (from, said, calls)) = inr (from, said_so from (answer.Placed (place.Backfill end)) said, calls)

pub place_of : (reply : Option VbReply) (from : Place) → IsSaid reply (answer.Placed from) → place_said reply ≡ Some from
place_of reply from (r, is, said) = ap place_said is ∙ ap place_told said

-- one reply says one thing
unfoldable pub answer_tag : VbAnswer → ℕ
answer_tag (answer.Taken snapshot) = 1
answer_tag answer.Nothing = 2
answer_tag other = 0

pub same_reply : (reply : Option VbReply) (a b : VbAnswer) → IsSaid reply a → IsSaid reply b → a ≡ b
same_reply reply a b (r, is, said) (t, is', said') = let e : r ≡ t = some_same r t (sym is ∙ is') in sym said ∙ ap (λ (x : VbReply). x.answer) e ∙ said'
  where
    some_same : (x y : VbReply) → Some x ≡ Some y → x ≡ y
    some_same x y e = cc e

-- ---- the calls

first_reply : List Made → Option VbReply
first_reply [] = None
first_reply (m ∷ more) = m.2

second_reply : List Made → Option VbReply
second_reply [] = None
second_reply (m ∷ []) = None
second_reply (m ∷ n ∷ more) = n.2

pub closes : List (ℕ × VbCall) → Bool
closes ((v, call.CloseStream id) ∷ more) = true
closes other = false

module _ (stream : PlainStream) (made : List Made) where
  -- one call is not two
  pub one_two : {A : Type 0} (reply reply' : Option VbReply) → AskedPlace stream made reply → AskedTake stream made reply' → A
  one_two reply reply' one (from, said, two) = absurd (let e : 1 ≡ 2 = sym (ap length one) ∙ ap length two in omega (arith, e))

  pub place_reply : (reply reply' : Option VbReply) → AskedPlace stream made reply → AskedPlace stream made reply' → reply' ≡ reply
  unfolding first_reply
  place_reply reply reply' is is' = sym (ap first_reply is') ∙ ap first_reply is

  pub take_reply : (reply reply' : Option VbReply) → AskedTake stream made reply → AskedTake stream made reply' → reply' ≡ reply
  unfolding second_reply
  take_reply reply reply' (from, said, is) (from', said', is') = sym (ap second_reply is') ∙ ap second_reply is

  pub no_close : {A : Type 0} → closes (calls_in made) ≡ false → calls_in made ≡ (stream.vb, call.CloseStream stream.id) ∷ [] → A
  unfolding closes
  no_close none is = absurd (false≢true (sym none ∙ ap closes is))

  pub none_made : made ≡ [] → closes (calls_in made) ≡ false
  unfolding closes
  none_made is = ap (λ (ms : List Made). closes (calls_in ms)) is

  pub place_made : (reply : Option VbReply) → AskedPlace stream made reply → closes (calls_in made) ≡ false
  unfolding closes
  place_made reply is = ap (λ (ms : List Made). closes (calls_in ms)) is

  pub take_made : (reply : Option VbReply) → AskedTake stream made reply → closes (calls_in made) ≡ false
  unfolding closes
  take_made reply (from, said, is) = ap (λ (ms : List Made). closes (calls_in ms)) is
