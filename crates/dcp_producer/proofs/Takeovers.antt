-- in which order a stream puts states
use Rattle.std.proofs.Common.{◌≡◌, ◌↔◌, ◌⊎◌, ◌<◌, ℕ, false, List, [], length, refl, sym, ap, ◌∙◌, subst, inl, inr, arith, Some, None}
use Rattle.std.specs.Prelude.{◌==◌}
use Rattle.std.proofs.lemmas.Bool.{false≢true}
use Rattle.mcbp_dcp.specs.declared.message.DcpMsg.TheVariants as msg
use Rattle.takeover.specs.Laws.{at, number}
use Rattle.takeover.specs.GivingUp.{done}
use Rattle.takeover.specs.declared.give_up.GiveStep.{GiveStep}
use Rattle.takeover.specs.declared.give_up.GiveStep.TheVariants as step
use Rattle.takeover.specs.declared.give_up.GiveUp.{GiveUp}
use Rattle.vb_types.specs.declared.role.Role.{Role}
use Rattle.vb_types.specs.declared.role.Role.TheVariants as role
use Rattle.vb_events.specs.declared.event.Event.{Event}
use Rattle.vb_events.specs.declared.event.Event.TheVariants as event
use Rattle.vb_events.specs.declared.event.StreamName.{StreamName}
use Rattle.vb_calls.specs.declared.calls.VbAnswer.TheVariants as answer
use Rattle.vb_calls.specs.Programs.{Made}
use Rattle.vb_told.specs.Told.{ToldJob}
use Rattle.dcp_producer.specs.declared.next_frame.NextFrame.{NextFrame}
use Rattle.dcp_producer.specs.declared.next_frame.NextFrame.TheVariants as next
use Rattle.dcp_producer.specs.Ends.{AskedTake, IsAt, IsBehind, IsPromised, IsSaid, Reaches}
use Rattle.dcp_producer.specs.Frames.{Next, next_frame, reaches_end, role_of}
use Rattle.dcp_producer.specs.Producers.{PlainStream}
use Rattle.dcp_producer.specs.Takeovers.{InOrder, IsUp, PutsNone, PutsState}
use Rattle.dcp_producer.proofs.Framing.{FrameCase, IsSending, an_item, by_role, all_sent, it_waits, no_place, a_marker, nothing, all_up, a_state, awaits, no_take, from_disk, no_disk, frame_told}
use Rattle.dcp_producer.proofs.Dues.{answer_tag, apart, asks_kind, asks_on, at_kind, awaits_at, clash, is_sent, item_tag, kind_number, message_tag, kind_of, none_behind, one_two, promised_so, said_so, same_reply, says_so, sent_kind, some_within, tag, take_reply, take_said, waits_kind}
use Rattle.dcp_producer.proofs.Ends.{ends_so, quiet_so}
use Rattle.dcp_producer.proofs.Going.{ended_asks}

-- all was sent, or a state is put without a call
abbrev Stage : ℕ → ℕ → PlainStream → List Made → Type 0
Stage n m stream made = (IsAt n stream × IsUp stream made) ⊎ (IsAt m stream × (made ≡ []))

-- what is proved of each case; the rest follows of how a stream ends and is quiet
record Orders (name : StreamName) (stream : PlainStream) (made : List Made) (x : NextFrame) (left : PlainStream) : Type 0 where
  pending : PutsState name role.Pending x ↔ (IsBehind stream × (stream.ended ≡ false) × Stage 1 2 stream made)
  active : PutsState name role.Active x ↔ (IsBehind stream × (stream.ended ≡ false) × Stage 5 6 stream made)
  others : (told : Role) (line : Event) → x ≡ next.Put (msg.SetVbucketState told) line → (line ≡ event.Stated name told) × ((told ≡ role.Pending) ⊎ (told ≡ role.Active))
  third : PutsState name role.Pending x → IsAt 3 left
  seventh : PutsState name role.Active x → IsAt 7 left
  stays : PutsNone x → left.gives ≡ stream.gives

same_step : (stream : PlainStream) (n m : ℕ) → IsAt n stream → IsAt m stream → n ≡ m
same_step stream n m (g, gives, is) (h, other, so) = let e : g ≡ h = some_same g h (sym gives ∙ other) in sym is ∙ ap at e ∙ so
  where
    some_same : (x y : GiveUp) → Some x ≡ Some y → x ≡ y
    some_same x y e = cc e

module _ (name : StreamName) (stream : PlainStream) (made : List Made) (x : NextFrame) (left : PlainStream) where
  -- no state is put
  none_so : (n : ℕ) → tag x ≡ n → (5 == n) ≡ false → left.gives ≡ stream.gives → (IsBehind stream → stream.ended ≡ false → Stage 1 2 stream made ⊎ Stage 5 6 stream made → ⊥) → Orders name stream made x left
  unfolding tag message_tag
  none_so n is differ same never = record {
    pending = (λ e. clash x 5 n (ap tag e) is differ, λ p. absurd (never p.0 p.1 (inl p.2)));
    active = (λ e. clash x 5 n (ap tag e) is differ, λ p. absurd (never p.0 p.1 (inr p.2)));
    others = λ told line e. clash x 5 n (ap tag e) is differ;
    third = λ e. clash x 5 n (ap tag e) is differ;
    seventh = λ e. clash x 5 n (ap tag e) is differ;
    stays = λ none. same;
  }

  -- where neither is due
  stage_kind : {A : Type 0} (k : ℕ) → kind_of stream ≡ k → (k == 0) ≡ false → (k == 2) ≡ false → Stage 1 2 stream made ⊎ Stage 5 6 stream made → A
  unfolding kind_number
  stage_kind k is asks_not told_not (inl (inl (first, up))) = apart stream k 0 is (at_kind stream 1 first) asks_not
  stage_kind k is asks_not told_not (inl (inr (second, none))) = apart stream k 2 is (at_kind stream 2 second) told_not
  stage_kind k is asks_not told_not (inr (inl (fifth, up))) = apart stream k 0 is (at_kind stream 5 fifth) asks_not
  stage_kind k is asks_not told_not (inr (inr (sixth, none))) = apart stream k 2 is (at_kind stream 6 sixth) told_not

  -- where its vBucket is asked, and did not say that all was sent
  stage_asked : kind_of stream ≡ 0 → (IsUp stream made → ⊥) → Stage 1 2 stream made ⊎ Stage 5 6 stream made → ⊥
  unfolding kind_number
  stage_asked is up (inl (inl (first, sent))) = up sent
  stage_asked is up (inl (inr (second, none))) = apart stream 0 2 is (at_kind stream 2 second) refl
  stage_asked is up (inr (inl (fifth, sent))) = up sent
  stage_asked is up (inr (inr (sixth, none))) = apart stream 0 2 is (at_kind stream 6 sixth) refl

  not_both : {A : Type 0} → Stage 1 2 stream made → Stage 5 6 stream made → A
  not_both (inl (first, up)) (inl (fifth, so)) = absurd (let e : 1 ≡ 5 = same_step stream 1 5 first fifth in omega (arith, e))
  not_both (inl (first, up)) (inr (sixth, so)) = absurd (let e : 1 ≡ 6 = same_step stream 1 6 first sixth in omega (arith, e))
  not_both (inr (second, up)) (inl (fifth, so)) = absurd (let e : 2 ≡ 5 = same_step stream 2 5 second fifth in omega (arith, e))
  not_both (inr (second, up)) (inr (sixth, so)) = absurd (let e : 2 ≡ 6 = same_step stream 2 6 second sixth in omega (arith, e))

  module _ (behind : IsBehind stream) (alive : stream.ended ≡ false) where
    pending_so : x ≡ next.Put (msg.SetVbucketState role.Pending) (event.Stated name role.Pending) → Stage 1 2 stream made → IsAt 3 left → Orders name stream made x left
    pending_so is stage third = record {
      pending = (λ e. (behind, alive, stage), λ p. is);
      active = (λ e. absurd (let f : next.Put (msg.SetVbucketState role.Pending) (event.Stated name role.Pending) ≡ next.Put (msg.SetVbucketState role.Active) (event.Stated name role.Active) = sym is ∙ e in cc f), λ p. not_both stage p.2);
      others = λ told line e.
          let f : next.Put (msg.SetVbucketState role.Pending) (event.Stated name role.Pending) ≡ next.Put (msg.SetVbucketState told) line = sym is ∙ e in
          let one : role.Pending ≡ told = cc f in
          let two : event.Stated name role.Pending ≡ line = cc f in
          (sym two ∙ ap (λ r. event.Stated name r) one, inl (sym one));
      third = λ e. third;
      seventh = λ e. absurd (let f : next.Put (msg.SetVbucketState role.Pending) (event.Stated name role.Pending) ≡ next.Put (msg.SetVbucketState role.Active) (event.Stated name role.Active) = sym is ∙ e in cc f);
      stays = λ none. absurd (none role.Pending (event.Stated name role.Pending) is);
    }

    active_so : x ≡ next.Put (msg.SetVbucketState role.Active) (event.Stated name role.Active) → Stage 5 6 stream made → IsAt 7 left → Orders name stream made x left
    active_so is stage seventh = record {
      pending = (λ e. absurd (let f : next.Put (msg.SetVbucketState role.Active) (event.Stated name role.Active) ≡ next.Put (msg.SetVbucketState role.Pending) (event.Stated name role.Pending) = sym is ∙ e in cc f), λ p. not_both p.2 stage);
      active = (λ e. (behind, alive, stage), λ p. is);
      others = λ told line e.
          let f : next.Put (msg.SetVbucketState role.Active) (event.Stated name role.Active) ≡ next.Put (msg.SetVbucketState told) line = sym is ∙ e in
          let one : role.Active ≡ told = cc f in
          let two : event.Stated name role.Active ≡ line = cc f in
          (sym two ∙ ap (λ r. event.Stated name r) one, inr (sym one));
      third = λ e. absurd (let f : next.Put (msg.SetVbucketState role.Active) (event.Stated name role.Active) ≡ next.Put (msg.SetVbucketState role.Pending) (event.Stated name role.Pending) = sym is ∙ e in cc f);
      seventh = λ e. seventh;
      stays = λ none. absurd (none role.Active (event.Stated name role.Active) is);
    }

    -- all was sent, and the state of the next step is put
    up_by : (g : GiveUp) → stream.gives ≡ Some g → (s : GiveStep) → g.step ≡ s → IsSending s → IsUp stream made → (told : Role) → role_of (done g).step ≡ Some told
        → x ≡ next.Put (msg.SetVbucketState told) (event.Stated name told) → left.gives ≡ Some (done (done g)) → Orders name stream made x left
    up_by g gives step.SendAll is sends up told tells comes goes =
        let one : Some role.Pending ≡ Some told = sym (ap (λ (s : GiveStep). role_of (done (record { step = s })).step) is) ∙ tells in
        let e : role.Pending ≡ told = cc one in
        pending_so (comes ∙ (λ i. next.Put (msg.SetVbucketState (sym e i)) (event.Stated name (sym e i)))) (inl ((g, gives, ap number is), up))
        (done (done g), goes, ap (λ (s : GiveStep). at (done (done (record { step = s })))) is)
    up_by g gives step.SendRest is sends up told tells comes goes =
        let one : Some role.Active ≡ Some told = sym (ap (λ (s : GiveStep). role_of (done (record { step = s })).step) is) ∙ tells in
        let e : role.Active ≡ told = cc one in
        active_so (comes ∙ (λ i. next.Put (msg.SetVbucketState (sym e i)) (event.Stated name (sym e i)))) (inl ((g, gives, ap number is), up))
        (done (done g), goes, ap (λ (s : GiveStep). at (done (done (record { step = s })))) is)
    up_by g gives step.SendPending is sends up told tells comes goes = absurd sends
    up_by g gives step.AwaitPending is sends up told tells comes goes = absurd sends
    up_by g gives step.Yield is sends up told tells comes goes = absurd sends
    up_by g gives step.SendActive is sends up told tells comes goes = absurd sends
    up_by g gives step.AwaitActive is sends up told tells comes goes = absurd sends
    up_by g gives step.End is sends up told tells comes goes = absurd sends

    -- a state alone
    alone_by : (g : GiveUp) → stream.gives ≡ Some g → (s : GiveStep) → g.step ≡ s → made ≡ [] → (told : Role) → role_of s ≡ Some told
        → x ≡ next.Put (msg.SetVbucketState told) (event.Stated name told) → left.gives ≡ Some (done g) → Orders name stream made x left
    alone_by g gives step.SendPending is none told tells comes goes =
        let e : role.Pending ≡ told = cc tells in
        pending_so (comes ∙ (λ i. next.Put (msg.SetVbucketState (sym e i)) (event.Stated name (sym e i)))) (inr ((g, gives, ap number is), none))
        (done g, goes, ap (λ (s : GiveStep). at (done (record { step = s }))) is)
    alone_by g gives step.SendActive is none told tells comes goes =
        let e : role.Active ≡ told = cc tells in
        active_so (comes ∙ (λ i. next.Put (msg.SetVbucketState (sym e i)) (event.Stated name (sym e i)))) (inr ((g, gives, ap number is), none))
        (done g, goes, ap (λ (s : GiveStep). at (done (record { step = s }))) is)
    alone_by g gives step.SendAll is none told tells comes goes = absurd (cc tells)
    alone_by g gives step.AwaitPending is none told tells comes goes = absurd (cc tells)
    alone_by g gives step.Yield is none told tells comes goes = absurd (cc tells)
    alone_by g gives step.SendRest is none told tells comes goes = absurd (cc tells)
    alone_by g gives step.AwaitActive is none told tells comes goes = absurd (cc tells)
    alone_by g gives step.End is none told tells comes goes = absurd (cc tells)

  gives_none : {A : Type 0} → stream.gives ≡ None → Stage 1 2 stream made ⊎ Stage 5 6 stream made → A
  gives_none none (inl (inl (first, up))) = absurd (let e : None ≡ Some first.0 = sym none ∙ first.1 in cc e)
  gives_none none (inl (inr (second, up))) = absurd (let e : None ≡ Some second.0 = sym none ∙ second.1 in cc e)
  gives_none none (inr (inl (fifth, up))) = absurd (let e : None ≡ Some fifth.0 = sym none ∙ fifth.1 in cc e)
  gives_none none (inr (inr (sixth, up))) = absurd (let e : None ≡ Some sixth.0 = sym none ∙ sixth.1 in cc e)

  -- where a backfill was to be read, its vBucket was not asked for more
  not_up : (end : ℕ) → IsPromised stream made end → IsUp stream made → ⊥
  not_up end (inl (unread, none)) (reply, told, (from, placed, calls)) = absurd (let e : 0 ≡ 2 = sym (ap length none) ∙ ap length calls in omega (arith, e))
  not_up end (inr (from, said, calls)) (reply, told, took) = one_two stream made from reply calls took

  went : (y : Next) → (x, left) ≡ y → left.gives ≡ y.1.gives
  went y is = ap (λ (z : Next). z.1.gives) is

  orders : FrameCase name stream made (x, left) → Orders name stream made x left
  unfolding tag message_tag answer_tag
  orders (an_item c there none is) =
      none_so 0 (ap (λ (y : Next). tag y.0) is ∙ item_tag c c.act) refl (went _ is)
      (λ behind alive stage. let within : stream.next < _ = some_within stream.items stream.next c there in absurd (omega (arith, within, behind)))
  orders (by_role put ended none is) = none_so 12 (ap (λ (y : Next). tag y.0) is) refl (went _ is) (λ behind alive stage. false≢true (sym alive ∙ ended))
  orders (all_sent put alive sent reply calls is) =
      none_so 10 (ap (λ (y : Next). tag y.0) is) refl (went _ is) (λ behind on stage. stage_kind 1 (sent_kind stream (is_sent stream sent)) refl refl stage)
  orders (it_waits more reply said calls is) =
      none_so 2 (ap (λ (y : Next). tag y.0) is) refl (went _ is) (λ behind alive. stage_asked (asks_kind stream (asks_on stream more)) (λ up. one_two stream made reply up.0 calls up.2))
  orders (no_place more reply none calls is) =
      none_so 12 (ap (λ (y : Next). tag y.0) is) refl (went _ is) (λ behind alive. stage_asked (asks_kind stream (asks_on stream more)) (λ up. one_two stream made reply up.0 calls up.2))
  orders (a_marker more from reply snapshot placed said calls is) =
      let took : AskedTake stream made reply = (from, take_said from placed, calls) in
      none_so 1 (ap (λ (y : Next). tag y.0) is) refl (went _ is)
      (λ behind alive. stage_asked (asks_kind stream (asks_on stream more))
      (λ up. let e : 1 ≡ 2 = ap answer_tag (same_reply reply (answer.Taken snapshot) answer.Nothing (said_so reply (answer.Taken snapshot) said) (subst (λ o. IsSaid o answer.Nothing) (take_reply stream made reply up.0 took up.2) up.1)) in absurd (omega (arith, e))))
  orders (nothing more none from reply placed said calls is) =
      none_so 3 (ap (λ (y : Next). tag y.0) is) refl (went _ is) (λ behind alive stage. gives_none none stage)
  orders (no_take more from reply placed not_taken none calls is) =
      let took : AskedTake stream made reply = (from, take_said from placed, calls) in
      none_so 12 (ap (λ (y : Next). tag y.0) is) refl (went _ is)
      (λ behind alive. stage_asked (asks_kind stream (asks_on stream more))
      (λ up. none (says_so reply answer.Nothing (subst (λ o. IsSaid o answer.Nothing) (take_reply stream made reply up.0 took up.2) up.1))))
  orders (from_disk more end reading snapshot promised found is) =
      none_so 1 (ap (λ (y : Next). tag y.0) is) refl (went _ is) (λ behind alive. stage_asked (asks_kind stream (asks_on stream more)) (not_up end (promised_so stream made end promised)))
  orders (no_disk more end reading promised found is) =
      none_so 6 (ap (λ (y : Next). tag y.0) is) refl (went _ is) (λ behind alive. stage_asked (asks_kind stream (asks_on stream more)) (not_up end (promised_so stream made end promised)))
  orders (awaits put alive g gives waiting none is) =
      none_so 4 (ap (λ (y : Next). tag y.0) is) refl (went _ is) (λ behind on stage. stage_kind 3 (waits_kind stream (awaits_at stream g gives g.step refl waiting)) refl refl stage)
  orders (all_up more g gives told tells from reply placed said calls is) =
      up_by (none_behind stream.items stream.next more.put) more.alive g gives g.step refl (sending more.below)
      (reply, said_so reply answer.Nothing said, (from, take_said from placed, calls)) told tells (ap (λ (y : Next). y.0) is) (went _ is)
    where
      sending : ((stream.gives ≡ None) × (reaches_end stream.until stream.marked ≡ false)) ⊎ ((h : GiveUp) × (stream.gives ≡ Some h) × IsSending h.step) → IsSending g.step
      sending (inl (none, below)) = absurd (let e : None ≡ Some g = sym none ∙ gives in cc e)
      sending (inr (h, other, sends)) = let e : Some h ≡ Some g = sym other ∙ gives in let same : h ≡ g = cc e in subst (λ (k : GiveUp). IsSending k.step) same sends
  orders (a_state put alive g gives told tells none is) =
      alone_by (none_behind stream.items stream.next put) alive g gives g.step refl none told tells (ap (λ (y : Next). y.0) is) (went _ is)

pub in_order : (name : StreamName) (stream left : PlainStream) (made : List Made) (x : NextFrame) → ToldJob (next_frame name stream) made (x, left) → InOrder name stream made x left
in_order name stream left made x told =
    let one = orders name stream made x left (frame_told name stream made (x, left) told) in
    let ends = ends_so name stream left made x told in
    let quiet = quiet_so name stream left made x told in
    record {
      pending = one.pending;
      active = one.active;
      others = one.others;
      third = one.third;
      seventh = one.seventh;
      stays = one.stays;
      passed = passed one;
      last = λ gives. (λ e. let p = ends.sent.0 e in (p.0, p.1, last_of gives p.2), λ p. ends.sent.1 (p.0, p.1, inr p.2));
      over = λ behind ended. (ends.over.1 (behind, inl ended), ended_asks name stream left made x ended told);
      quiet = λ p. quiet.states.1 p;
    }
  where
    last_of : (stream.gives ≡ None → ⊥) → ((stream.gives ≡ None) × Reaches stream) ⊎ IsAt 8 stream → IsAt 8 stream
    last_of gives (inl (none, reaches)) = absurd (gives none)
    last_of gives (inr eighth) = eighth

    at_as : (n : ℕ) → left.gives ≡ stream.gives → IsAt n left → IsAt n stream
    at_as n same (g, gives, is) = (g, sym same ∙ gives, is)

    either_as : left.gives ≡ stream.gives → IsAt 2 left ⊎ IsAt 6 left → IsAt 2 stream ⊎ IsAt 6 stream
    either_as same (inl second) = inl (at_as 2 same second)
    either_as same (inr sixth) = inr (at_as 6 same sixth)

    not_two : (n : ℕ) → IsAt n left → (n == 2) ≡ false → (n == 6) ≡ false → IsAt 2 left ⊎ IsAt 6 left → ⊥
    not_two n there two six (inl second) = let e : n ≡ 2 = same_step left n 2 there second in false≢true (sym two ∙ ap (λ m. m == 2) e)
    not_two n there two six (inr sixth) = let e : n ≡ 6 = same_step left n 6 there sixth in false≢true (sym six ∙ ap (λ m. m == 6) e)

    told_at : Orders name stream made x left → IsAt 2 left ⊎ IsAt 6 left → (told : Role) (line : Event) → x ≡ next.Put (msg.SetVbucketState told) line → (line ≡ event.Stated name told) × ((told ≡ role.Pending) ⊎ (told ≡ role.Active)) → ⊥
    told_at so there told line comes (is, inl pending) = not_two 3 (so.third (comes ∙ (λ i. next.Put (msg.SetVbucketState told) (is i)) ∙ (λ i. next.Put (msg.SetVbucketState (pending i)) (event.Stated name (pending i))))) refl refl there
    told_at so there told line comes (is, inr active) = not_two 7 (so.seventh (comes ∙ (λ i. next.Put (msg.SetVbucketState told) (is i)) ∙ (λ i. next.Put (msg.SetVbucketState (active i)) (event.Stated name (active i))))) refl refl there

    passed : Orders name stream made x left → (IsAt 2 stream ⊎ IsAt 6 stream → ⊥) → IsAt 2 left ⊎ IsAt 6 left → ⊥
    passed so never there = never (either_as (so.stays (λ told line comes. told_at so there told line comes (so.others told line comes))) there)
