-- why a stream is over, and why it is quiet
use Rattle.std.proofs.Common.{◌≡◌, ◌+◌, ◌<◌, ℕ, suc, true, false, List, [], ◌∷◌, length, refl, sym, ap, ◌∙◌, subst, ◌⊎◌, inl, inr, arith, Option, Some, None}
use Rattle.takeover.specs.declared.give_up.GiveUp.{GiveUp}
use Rattle.std.specs.Prelude.{◌==◌}
use Rattle.std.proofs.lemmas.Bool.{false≢true}
use Rattle.vb_types.specs.declared.stream.Place.{Place}
use Rattle.vb_types.specs.declared.stream.Place.TheVariants as place
use Rattle.vb_types.specs.declared.stream.Snapshot.{Snapshot}
use Rattle.vb_events.specs.declared.event.StreamName.{StreamName}
use Rattle.vb_calls.specs.declared.calls.VbAnswer.TheVariants as answer
use Rattle.vb_calls.specs.declared.calls.VbCall.TheVariants as call
use Rattle.vb_calls.specs.declared.calls.VbReply.{VbReply}
use Rattle.vb_calls.specs.Programs.{Made}
use Rattle.vb_told.specs.Told.{ToldJob}
use Rattle.dcp_producer.specs.declared.next_frame.NextFrame.{NextFrame}
use Rattle.dcp_producer.specs.declared.next_frame.NextFrame.TheVariants as next
use Rattle.dcp_producer.specs.declared.next_frame.Waits.TheVariants as wait
use Rattle.dcp_producer.specs.Producers.{PlainStream}
use Rattle.dcp_producer.specs.Frames.{Next, next_frame}
use Rattle.dcp_producer.specs.Endings.{calls_in}
use Rattle.dcp_producer.specs.Ends.{IsAt, IsBehind, Reaches, IsSaid, AsksOn, AskedPlace, AskedTake, IsPromised, IsLost, EndsSo, IsQuietSo}
use Rattle.dcp_producer.proofs.Framing.{FrameCase, an_item, by_role, all_sent, it_waits, no_place, a_marker, nothing, all_up, a_state, awaits, no_take, from_disk, no_disk, frame_told}
use Rattle.dcp_producer.proofs.Dues.{answer_tag, apart, asks_kind, asks_on, awaits_at, clash, closes, is_sent, item_tag, kind_of, message_tag, no_close, none_behind, none_made, one_two, place_made, place_of, place_reply, promised_so, said_so, same_reply, says_so, sent_kind, some_within, state_kind, tag, take_made, take_reply, take_said, tells_at, waits_kind}

abbrev both : PlainStream → List Made → NextFrame → Type 0
both stream made x = EndsSo stream made x × IsQuietSo stream made x

module _ (name : StreamName) (stream : PlainStream) (made : List Made) (x : NextFrame) where
  -- an end that is due, against a stream that asks on
  due : {A : Type 0} → AsksOn stream → (stream.ended ≡ true) ⊎ (((stream.gives ≡ None) × Reaches stream) ⊎ IsAt 8 stream) → A
  due asks (inl ended) = absurd (false≢true (sym asks.alive ∙ ended))
  due asks (inr sent) = apart stream 0 1 (asks_kind stream asks) (sent_kind stream sent) refl

  -- it is an item
  item_so : stream.next < length stream.items → tag x ≡ 0 → made ≡ [] → both stream made x
  unfolding tag message_tag
  item_so within is none = (
    record {
      sent = (λ e. clash x 10 0 (ap tag e) is refl, λ p. let b = p.0 in absurd (omega (arith, b, within)));
      over = (λ e. clash x 12 0 (ap tag e) is refl, λ p. let b = p.0 in absurd (omega (arith, b, within)));
      only = λ reason e. absurd (let t : 10 + reason ≡ 0 = sym (ap tag e) ∙ is in omega (arith, t));
      closed = (λ e. clash x 10 0 (ap tag e) is refl, no_close stream made (none_made stream made none));
      marked = λ start end flags line e. clash x 1 0 (ap tag e) is refl;
    },
    record {
      saves = (λ e. clash x 2 0 (ap tag e) is refl, λ p. let b = p.0.behind in absurd (omega (arith, b, within)));
      none = (λ e. clash x 3 0 (ap tag e) is refl, λ p. let b = p.1.behind in absurd (omega (arith, b, within)));
      states = (λ e. clash x 4 0 (ap tag e) is refl, λ p. let b = p.0 in absurd (omega (arith, b, within)));
    },
  )

  -- a change of role ended the stream
  role_so : IsBehind stream → stream.ended ≡ true → x ≡ next.End 2 → made ≡ [] → both stream made x
  unfolding tag message_tag
  role_so behind ended is none = (
    record {
      sent = (λ e. clash x 10 12 (ap tag e) (ap tag is) refl, λ p. absurd (false≢true (sym p.1 ∙ ended)));
      over = (λ e. (behind, inl ended), λ p. is);
      only = λ reason e. inr (let t : 10 + reason ≡ 12 = sym (ap tag e) ∙ ap tag is in omega (arith, t));
      closed = (λ e. clash x 10 12 (ap tag e) (ap tag is) refl, no_close stream made (none_made stream made none));
      marked = λ start end flags line e. clash x 1 12 (ap tag e) (ap tag is) refl;
    },
    record {
      saves = (λ e. clash x 2 12 (ap tag e) (ap tag is) refl, λ p. due p.0 (inl ended));
      none = (λ e. clash x 3 12 (ap tag e) (ap tag is) refl, λ p. due p.1 (inl ended));
      states = (λ e. clash x 4 12 (ap tag e) (ap tag is) refl, λ p. absurd (false≢true (sym p.1 ∙ ended)));
    },
  )

  -- all was sent
  sent_so : IsBehind stream → stream.ended ≡ false → ((stream.gives ≡ None) × Reaches stream) ⊎ IsAt 8 stream → x ≡ next.End 0 → calls_in made ≡ (stream.vb, call.CloseStream stream.id) ∷ [] → both stream made x
  unfolding tag message_tag
  sent_so behind alive reaches is calls = (
    record {
      sent = (λ e. (behind, alive, reaches), λ p. is);
      over = (λ e. clash x 12 10 (ap tag e) (ap tag is) refl, λ p. not_over p.1);
      only = λ reason e. inl (let t : 10 + reason ≡ 10 = sym (ap tag e) ∙ ap tag is in omega (arith, t));
      closed = (λ e. calls, λ p. is);
      marked = λ start end flags line e. clash x 1 10 (ap tag e) (ap tag is) refl;
    },
    record {
      saves = (λ e. clash x 2 10 (ap tag e) (ap tag is) refl, λ p. due p.0 (inr reaches));
      none = (λ e. clash x 3 10 (ap tag e) (ap tag is) refl, λ p. due p.1 (inr reaches));
      states = (λ e. clash x 4 10 (ap tag e) (ap tag is) refl, λ p. apart stream 3 1 (waits_kind stream p.2) (sent_kind stream reaches) refl);
    },
  )
    where
      not_over : (stream.ended ≡ true) ⊎ (AsksOn stream × IsLost stream made) → x ≡ next.End 2
      not_over (inl ended) = absurd (false≢true (sym alive ∙ ended))
      not_over (inr (asks, lost)) = due asks (inr reaches)

  -- neither asks its vBucket nor ends
  neither_so : (k n : ℕ) → kind_of stream ≡ k → (k == 0) ≡ false → (k == 1) ≡ false → stream.ended ≡ false → n < 10 → (1 == n) ≡ false → tag x ≡ n → made ≡ [] → IsQuietSo stream made x → both stream made x
  unfolding tag message_tag
  neither_so k n kind asks_not sent_not alive low other is none quiet = (
    record {
      sent = (λ e. absurd (let t : 10 ≡ n = sym (ap tag e) ∙ is in omega (arith, t, low)), λ p. apart stream k 1 kind (sent_kind stream p.2) sent_not);
      over = (λ e. absurd (let t : 12 ≡ n = sym (ap tag e) ∙ is in omega (arith, t, low)), λ p. not_over p.1);
      only = λ reason e. absurd (let t : 10 + reason ≡ n = sym (ap tag e) ∙ is in omega (arith, t, low));
      closed = (λ e. absurd (let t : 10 ≡ n = sym (ap tag e) ∙ is in omega (arith, t, low)), no_close stream made (none_made stream made none));
      marked = λ start end flags line e. clash x 1 n (ap tag e) is other;
    },
    quiet,
  )
    where
      not_over : (stream.ended ≡ true) ⊎ (AsksOn stream × IsLost stream made) → x ≡ next.End 2
      not_over (inl ended) = absurd (false≢true (sym alive ∙ ended))
      not_over (inr (asks, lost)) = apart stream k 0 kind (asks_kind stream asks) asks_not

  -- it is a state without a call
  told_so : IsAt 2 stream ⊎ IsAt 6 stream → stream.ended ≡ false → tag x ≡ 5 → made ≡ [] → both stream made x
  unfolding tag message_tag
  told_so there alive is none = neither_so 2 5 (state_kind stream there) refl refl alive (omega arith) refl is none (record {
    saves = (λ e. clash x 2 5 (ap tag e) is refl, λ p. apart stream 2 0 (state_kind stream there) (asks_kind stream p.0) refl);
    none = (λ e. clash x 3 5 (ap tag e) is refl, λ p. apart stream 2 0 (state_kind stream there) (asks_kind stream p.1) refl);
    states = (λ e. clash x 4 5 (ap tag e) is refl, λ p. apart stream 2 3 (state_kind stream there) (waits_kind stream p.2) refl);
  })

  -- it waits for an answer
  awaits_so : IsBehind stream → IsAt 3 stream ⊎ IsAt 4 stream ⊎ IsAt 7 stream → stream.ended ≡ false → x ≡ next.Quiet wait.State → made ≡ [] → both stream made x
  unfolding tag message_tag
  awaits_so behind there alive is none = neither_so 3 4 (waits_kind stream there) refl refl alive (omega arith) refl (ap tag is) none (record {
    saves = (λ e. clash x 2 4 (ap tag e) (ap tag is) refl, λ p. apart stream 3 0 (waits_kind stream there) (asks_kind stream p.0) refl);
    none = (λ e. clash x 3 4 (ap tag e) (ap tag is) refl, λ p. apart stream 3 0 (waits_kind stream there) (asks_kind stream p.1) refl);
    states = (λ e. (behind, alive, there), λ p. is);
  })

  module _ (asks : AsksOn stream) where
    -- so it waits for no answer
    not_waits : {A : Type 0} → IsBehind stream × (stream.ended ≡ false) × (IsAt 3 stream ⊎ IsAt 4 stream ⊎ IsAt 7 stream) → A
    not_waits p = apart stream 0 3 (asks_kind stream asks) (waits_kind stream p.2) refl

    lost_only : {A : Type 0} → (IsLost stream made → A) → IsBehind stream × ((stream.ended ≡ true) ⊎ (AsksOn stream × IsLost stream made)) → A
    lost_only then (behind, inl ended) = due asks (inl ended)
    lost_only then (behind, inr (on, lost)) = then lost

    -- its vBucket lost it
    lost_so : IsLost stream made → x ≡ next.End 2 → closes (calls_in made) ≡ false
        → ((reply : Option VbReply) → AskedPlace stream made reply → IsSaid reply (answer.Placed place.WaitSaved) → ⊥) → ((reply : Option VbReply) → AskedTake stream made reply → IsSaid reply answer.Nothing → ⊥) → both stream made x
    unfolding tag message_tag
    lost_so lost is stays no_wait no_none = (
      record {
        sent = (λ e. clash x 10 12 (ap tag e) (ap tag is) refl, λ p. due asks (inr p.2));
        over = (λ e. (asks.behind, inr (asks, lost)), λ p. is);
        only = λ reason e. inr (let t : 10 + reason ≡ 12 = sym (ap tag e) ∙ ap tag is in omega (arith, t));
        closed = (λ e. clash x 10 12 (ap tag e) (ap tag is) refl, no_close stream made stays);
        marked = λ start end flags line e. asks;
      },
      record {
        saves = (λ e. clash x 2 12 (ap tag e) (ap tag is) refl, λ p. absurd (no_wait p.1.0 p.1.2 p.1.1));
        none = (λ e. clash x 3 12 (ap tag e) (ap tag is) refl, λ p. absurd (no_none p.2.0 p.2.2 p.2.1));
        states = (λ e. clash x 4 12 (ap tag e) (ap tag is) refl, not_waits);
      },
    )

    -- it goes on, or is quiet
    goes_so : (n : ℕ) → n < 10 → tag x ≡ n → closes (calls_in made) ≡ false → (IsLost stream made → ⊥) → IsQuietSo stream made x → both stream made x
    unfolding tag message_tag
    goes_so n low is stays kept quiet = (
      record {
        sent = (λ e. absurd (let t : 10 ≡ n = sym (ap tag e) ∙ is in omega (arith, t, low)), λ p. due asks (inr p.2));
        over = (λ e. absurd (let t : 12 ≡ n = sym (ap tag e) ∙ is in omega (arith, t, low)), λ p. lost_only (λ lost. absurd (kept lost)) p);
        only = λ reason e. absurd (let t : 10 + reason ≡ n = sym (ap tag e) ∙ is in omega (arith, t, low));
        closed = (λ e. absurd (let t : 10 ≡ n = sym (ap tag e) ∙ is in omega (arith, t, low)), no_close stream made stays);
        marked = λ start end flags line e. asks;
      },
      quiet,
    )

    module _ (reply : Option VbReply) where
      placed_lost : AskedPlace stream made reply → (from : Place) → IsSaid reply (answer.Placed from) → IsLost stream made → ⊥
      placed_lost is from said (inl (reply', is', none)) = none from (subst (λ o. IsSaid o (answer.Placed from)) (sym (place_reply stream made reply reply' is is')) said)
      placed_lost is from said (inr (reply', took, no_taken, no_none)) = one_two stream made reply reply' is took

      waits_so : AskedPlace stream made reply → IsSaid reply (answer.Placed place.WaitSaved) → x ≡ next.Quiet wait.Saved → both stream made x
      unfolding tag message_tag
      waits_so is said comes = goes_so 2 (omega arith) (ap tag comes) (place_made stream made reply is) (placed_lost is place.WaitSaved said) (record {
        saves = (λ e. (asks, (reply, said, is)), λ p. comes);
        none = (λ e. clash x 3 2 (ap tag e) (ap tag comes) refl, λ p. one_two stream made reply p.2.0 is p.2.2);
        states = (λ e. clash x 4 2 (ap tag e) (ap tag comes) refl, not_waits);
      })

      took_lost : AskedTake stream made reply → (IsSaid reply answer.Nothing) ⊎ ((snapshot : Snapshot) × IsSaid reply (answer.Taken snapshot)) → IsLost stream made → ⊥
      took_lost is said (inl (reply', place, none)) = one_two stream made reply' reply place is
      took_lost is (inl said) (inr (reply', is', no_taken, no_none)) = no_none (subst (λ o. IsSaid o answer.Nothing) (sym (take_reply stream made reply reply' is is')) said)
      took_lost is (inr (snapshot, said)) (inr (reply', is', no_taken, no_none)) = no_taken snapshot (subst (λ o. IsSaid o (answer.Taken snapshot)) (sym (take_reply stream made reply reply' is is')) said)

      none_so : AskedTake stream made reply → IsSaid reply answer.Nothing → stream.gives ≡ None → x ≡ next.Quiet wait.Nothing → both stream made x
      unfolding tag message_tag
      none_so is said gives comes = goes_so 3 (omega arith) (ap tag comes) (take_made stream made reply is) (took_lost is (inl said)) (record {
        saves = (λ e. clash x 2 3 (ap tag e) (ap tag comes) refl, λ p. one_two stream made p.1.0 reply p.1.2 is);
        none = (λ e. (gives, asks, (reply, said, is)), λ p. comes);
        states = (λ e. clash x 4 3 (ap tag e) (ap tag comes) refl, not_waits);
      })

      up_so : AskedTake stream made reply → IsSaid reply answer.Nothing → (g : GiveUp) → stream.gives ≡ Some g → tag x ≡ 5 → both stream made x
      unfolding tag
      up_so is said g gives comes = goes_so 5 (omega arith) comes (take_made stream made reply is) (took_lost is (inl said)) (record {
        saves = (λ e. clash x 2 5 (ap tag e) comes refl, λ p. one_two stream made p.1.0 reply p.1.2 is);
        none = (λ e. clash x 3 5 (ap tag e) comes refl, λ p. absurd (some_none (sym gives ∙ p.0)));
        states = (λ e. clash x 4 5 (ap tag e) comes refl, not_waits);
      })
        where
          some_none : Some g ≡ None → ⊥
          some_none e = absurd (cc e)

      marker_so : AskedTake stream made reply → (snapshot : Snapshot) → IsSaid reply (answer.Taken snapshot) → tag x ≡ 1 → both stream made x
      unfolding tag answer_tag
      marker_so is snapshot said comes = goes_so 1 (omega arith) comes (take_made stream made reply is) (took_lost is (inr (snapshot, said))) (record {
        saves = (λ e. clash x 2 1 (ap tag e) comes refl, λ p. one_two stream made p.1.0 reply p.1.2 is);
        states = (λ e. clash x 4 1 (ap tag e) comes refl, not_waits);
        none = (
          λ e. clash x 3 1 (ap tag e) comes refl,
          λ p.
              absurd (let e : 1 ≡ 2 = ap answer_tag (same_reply reply (answer.Taken snapshot) answer.Nothing said (subst (λ o. IsSaid o answer.Nothing) (take_reply stream made reply p.2.0 is p.2.2) p.2.1)) in omega (arith, e)),
        );
      })

    -- a backfill was to be read, and it is its marker, or that it can't be read
    module _ (end : ℕ) where
      -- nothing was called
      uncalled : {A : Type 0} (n : ℕ) → made ≡ [] → length made ≡ suc n → A
      uncalled n none some = absurd (let e : 0 ≡ suc n = sym (ap length none) ∙ some in omega (arith, e))

      promised_made : IsPromised stream made end → closes (calls_in made) ≡ false
      promised_made (inl (unread, none)) = none_made stream made none
      promised_made (inr (from, said, calls)) = place_made stream made from calls

      promised_kept : IsPromised stream made end → IsLost stream made → ⊥
      promised_kept (inl (unread, none)) (inl (reply, calls, not_said)) = uncalled 0 none (ap length calls)
      promised_kept (inl (unread, none)) (inr (reply, (from, said, calls), no_taken, no_none)) = uncalled 1 none (ap length calls)
      promised_kept (inr (from, said, calls)) lost = placed_lost from calls (place.Backfill end) said lost

      promised_waits : IsPromised stream made end → (reply : Option VbReply) → AskedPlace stream made reply → IsSaid reply (answer.Placed place.WaitSaved) → ⊥
      promised_waits (inl (unread, none)) reply calls said = uncalled 0 none (ap length calls)
      promised_waits (inr (from, said, calls)) reply calls' said' =
          let same : answer.Placed (place.Backfill end) ≡ answer.Placed place.WaitSaved =
          same_reply from (answer.Placed (place.Backfill end)) (answer.Placed place.WaitSaved) said (subst (λ o. IsSaid o (answer.Placed place.WaitSaved)) (place_reply stream made from reply calls calls') said') in
          absurd (cc same)

      promised_takes : {A : Type 0} → IsPromised stream made end → (reply : Option VbReply) → AskedTake stream made reply → A
      promised_takes (inl (unread, none)) reply (from, said, calls) = uncalled 1 none (ap length calls)
      promised_takes (inr (from, said, calls)) reply took = one_two stream made from reply calls took

      filled_so : (n : ℕ) → n < 10 → (2 == n) ≡ false → (3 == n) ≡ false → (4 == n) ≡ false → tag x ≡ n → IsPromised stream made end → both stream made x
      unfolding tag message_tag
      filled_so n low no_saves no_none no_state is promised = goes_so n low is (promised_made promised) (promised_kept promised) (record {
        saves = (λ e. clash x 2 n (ap tag e) is no_saves, λ p. absurd (promised_waits promised p.1.0 p.1.2 p.1.1));
        none = (λ e. clash x 3 n (ap tag e) is no_none, λ p. promised_takes promised p.2.0 p.2.2);
        states = (λ e. clash x 4 n (ap tag e) is no_state, not_waits);
      })

  by_case : (left : PlainStream) → FrameCase name stream made (x, left) → both stream made x
  unfolding tag message_tag
  by_case left (an_item c there none is) = item_so (some_within stream.items stream.next c there) (ap (λ (y : Next). tag y.0) is ∙ item_tag c c.act) none
  by_case left (by_role put ended none is) = role_so (none_behind stream.items stream.next put) ended (ap (λ (y : Next). y.0) is) none
  by_case left (all_sent put alive reaches reply calls is) =
      sent_so (none_behind stream.items stream.next put) alive (is_sent stream reaches) (ap (λ (y : Next). y.0) is) (ap (λ (ms : List Made). calls_in ms) calls)
  by_case left (it_waits more reply said calls is) = waits_so (asks_on stream more) reply calls (said_so reply (answer.Placed place.WaitSaved) said) (ap (λ (y : Next). y.0) is)
  by_case left (no_place more reply none calls is) =
      lost_so (asks_on stream more) (inl (reply, calls, λ from said. no_some from (sym none ∙ place_of reply from said))) (ap (λ (y : Next). y.0) is) (place_made stream made reply calls)
      (λ reply' calls' said. no_some place.WaitSaved (sym none ∙ place_of reply place.WaitSaved (subst (λ o. IsSaid o (answer.Placed place.WaitSaved)) (place_reply stream made reply reply' calls calls') said)))
      (λ reply' took said. one_two stream made reply reply' calls took)
    where
      no_some : (from : Place) → None ≡ Some from → ⊥
      no_some from e = absurd (cc e)
  by_case left (a_marker more from reply snapshot placed said calls is) =
      marker_so (asks_on stream more) reply (from, take_said from placed, calls) snapshot (said_so reply (answer.Taken snapshot) said) (ap (λ (y : Next). tag y.0) is)
  by_case left (nothing more none from reply placed said calls is) =
      none_so (asks_on stream more) reply (from, take_said from placed, calls) (said_so reply answer.Nothing said) none (ap (λ (y : Next). y.0) is)
  by_case left (all_up more g gives told tells from reply placed said calls is) =
      up_so (asks_on stream more) reply (from, take_said from placed, calls) (said_so reply answer.Nothing said) g gives (ap (λ (y : Next). tag y.0) is)
  by_case left (a_state put alive g gives told tells none is) = told_so (tells_at stream g gives g.step refl told tells) alive (ap (λ (y : Next). tag y.0) is) none
  by_case left (awaits put alive g gives waits none is) = awaits_so (none_behind stream.items stream.next put) (awaits_at stream g gives g.step refl waits) alive (ap (λ (y : Next). y.0) is) none
  by_case left (no_take more from reply placed not_taken none calls is) =
      let took : AskedTake stream made reply = (from, take_said from placed, calls) in
      lost_so (asks_on stream more) (inr (reply, took, λ snapshot said. not_taken snapshot (says_so reply (answer.Taken snapshot) said), λ said. none (says_so reply answer.Nothing said)))
      (ap (λ (y : Next). y.0) is) (take_made stream made reply took)
      (λ reply' place said. one_two stream made reply' reply place took)
      (λ reply' took' said. none (says_so reply answer.Nothing (subst (λ o. IsSaid o answer.Nothing) (take_reply stream made reply reply' took took') said)))
  by_case left (from_disk more end reading snapshot promised found is) =
      filled_so (asks_on stream more) end 1 (omega arith) refl refl refl (ap (λ (y : Next). tag y.0) is) (promised_so stream made end promised)
  by_case left (no_disk more end reading promised found is) =
      filled_so (asks_on stream more) end 6 (omega arith) refl refl refl (ap (λ (y : Next). tag y.0) is) (promised_so stream made end promised)

pub ends_so : (name : StreamName) (stream left : PlainStream) (made : List Made) (x : NextFrame) → ToldJob (next_frame name stream) made (x, left) → EndsSo stream made x
ends_so name stream left made x told = (by_case name stream made x left (frame_told name stream made (x, left) told)).0

pub quiet_so : (name : StreamName) (stream left : PlainStream) (made : List Made) (x : NextFrame) → ToldJob (next_frame name stream) made (x, left) → IsQuietSo stream made x
quiet_so name stream left made x told = (by_case name stream made x left (frame_told name stream made (x, left) told)).1
