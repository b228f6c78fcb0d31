-- which calls make, move and take away the cursor of a stream
use Rattle.std.proofs.Common.{◌≡◌, ℕ, ◌<◌, Bool, true, false, cond, List, [], ◌∷◌, ◌++◌, map, length, refl, sym, ap, subst, ◌∙◌, inl, inr, ⊎_elim, arith}
use Rattle.std.specs.Prelude.{◌⊎◌, ◌+◌, ◌≤◌, ◌==◌, ◌&&◌, Option, Some, None, is_some, if◌then◌else◌, nat_le, nat_lt}
use Rattle.std.specs.List.{filter}
use Rattle.std.specs.Option.{option_map}
use Rattle.std.proofs.lemmas.Bool.Decides.{nat_tests}
use Rattle.vb_types.specs.declared.stream.Place.TheVariants.{Memory}
use Rattle.vb_types.specs.declared.stream.StreamAsk.{StreamAsk}
use Rattle.vb_types.specs.declared.stream.Verdict.{Verdict}
use Rattle.vb_types.specs.declared.stream.Verdict.TheVariants.{Continue, Roll}
use Rattle.vb_types.specs.declared.status.Status.{Status}
use Rattle.branch_model.specs.Requests.{rule}
use Rattle.vb_calls.specs.declared.calls.VbAnswer.{VbAnswer}
use Rattle.vb_calls.specs.declared.calls.VbAnswer.TheVariants as answer
use Rattle.vb_calls.specs.declared.calls.VbCall.{VbCall}
use Rattle.vb_calls.specs.declared.calls.VbCall.TheVariants as call
use Rattle.vb_calls.specs.declared.calls.VbReply.{VbReply}
use Rattle.vb_calls.specs.declared.stream.Stream.{Stream}
use Rattle.vb_calls.specs.Durable.{expired}
use Rattle.vb_calls.specs.Plain.{Plain, plain_step}
use Rattle.vb_calls.specs.Roles.{stream_ids}
use Rattle.vb_calls.specs.Settling.{also_resolved, and_settled}
use Rattle.vb_calls.specs.Spans.{all_spans, is_whole}
use Rattle.vb_calls.specs.State.{quiet_reply}
use Rattle.vb_calls.specs.Streams.{asked_stream, given_cursor, has_any, is_in_memory, items_to, judged_open, moved_on, need_of, new_stream, open_outcome, open_refusal, place_from, placed_by, snapshot_of, source_by, source_of, stream_at, without_cursor, without_stream}
use Rattle.vb_calls.specs.Trims.{has_cursor}
use Rattle.vbucket.specs.Cursors.{CursorsExactly, HasCursor, HasNone, IsEnded, IsOpened, IsOver, IsPlaced}
use Rattle.vbucket.proofs.Feeding.{at_changed, at_closed, at_pushed, changed, cursored, differ, flip, further, named, other_changed, own, own_changed, uncursored}
use Rattle.vbucket.proofs.Parts.{below_of, both, found}
use Rattle.vbucket.proofs.RowIs.{RowIs, StartIs, StreamsAre, Closes, Drops, Expires, Feeds, Inherits, Leads, Opens, Places, Settles, Streams, Turns, Yields, inheriting, leading, row_is}
use Rattle.vbucket.proofs.Settling.{expires, settles}
use Rattle.vbucket.proofs.Steadying.{may_open}

ended_of : (q : ℕ) (ss : List Stream) (s : Stream) → stream_at q ss ≡ Some s → IsEnded q (stream_ids ss)
ended_of q [] s e = cc
ended_of q (x ∷ xs) s e = by (x.id == q) refl e (ended_of q xs s)
  where
    by : (b : Bool) → (x.id == q) ≡ b → cond b (Some x) (stream_at q xs) ≡ Some s → (stream_at q xs ≡ Some s → IsEnded q (stream_ids xs)) → (x.id ≡ q) ⊎ IsEnded q (stream_ids xs)
    by true f e ih = inl (grind (arith, nat_tests, f))
    by false f e ih = inr (ih e)

not_ended : (q : ℕ) (ss : List Stream) → stream_at q ss ≡ None → IsEnded q (stream_ids ss) → ⊥
not_ended q [] e i = i
not_ended q (x ∷ xs) e i = let k = differ x.id q (stream_at q xs) None x e in ⊎_elim (λ j. other x.id q k.0 j) (λ j. not_ended q xs k.1 j) i
  where
    other : (a b : ℕ) → (a == b) ≡ false → a ≡ b → ⊥
    other a b e j = grind (arith, nat_tests)

same : (a b : ℕ) → (a == b) ≡ true → a ≡ b
same a b e = grind (arith, nat_tests)

-- what becomes of the stream of a number: it stays as it is, it is opened, is given a cursor, is fed, loses its cursor, or is over
data Fate (vb : Plain) (c : VbCall) (q : ℕ) (after : Plain × VbReply) : Type 0 where
  Stays : stream_at q after.0.streams ≡ stream_at q vb.streams → (IsEnded q after.1.ended → ⊥) → Fate vb c q after
  Opened : (ask : StreamAsk) (sync : Bool) → c ≡ call.OpenStream q ask sync → after.1.answer ≡ answer.Opened vb.log vb.position.at (source_of vb (asked_stream q ask sync)) → stream_at q vb.streams ≡ None → stream_at q after.0.streams ≡ Some (new_stream vb q ask sync)
      → after.1.ended ≡ [] → Fate vb c q after
  Given : (s : Stream) → c ≡ call.Place q → after.1.answer ≡ answer.Placed Memory → stream_at q vb.streams ≡ Some s → s.cursor ≡ false → stream_at q after.0.streams ≡ Some (cursored s) → after.1.ended ≡ [] → Fate vb c q after
  Fed : (s : Stream) (end : ℕ) → c ≡ call.Take q → stream_at q vb.streams ≡ Some s → s.cursor ≡ true → s.place < end → stream_at q after.0.streams ≡ Some (further end s) → after.1.ended ≡ [] → Fate vb c q after
  Dropped : (s : Stream) → c ≡ call.DropCursor q → stream_at q vb.streams ≡ Some s → stream_at q after.0.streams ≡ Some (uncursored s) → after.1.ended ≡ [] → Fate vb c q after
  Over : (s : Stream) → stream_at q vb.streams ≡ Some s → stream_at q after.0.streams ≡ None → IsOver c q after.1 → Fate vb c q after

module _ (vb : Plain) (q : ℕ) where
  none_ended : (reply : VbReply) → reply.ended ≡ [] → IsEnded q reply.ended → ⊥
  none_ended reply e i = subst (IsEnded q) e i

  -- where the streams stay, and none is ended
  idle : (c : VbCall) (after : Plain × VbReply) → after.0.streams ≡ vb.streams → after.1.ended ≡ [] → Fate vb c q after
  idle c after e none = Stays (ap (stream_at q) e) (none_ended after.1 none)

  -- where all are ended
  ended : (c : VbCall) (after : Plain × VbReply) → after.0.streams ≡ [] → after.1.ended ≡ stream_ids vb.streams → Fate vb c q after
  ended c after e all = by (stream_at q vb.streams) refl
    where
      by : (o : Option Stream) → stream_at q vb.streams ≡ o → Fate vb c q after
      by None f = Stays (ap (stream_at q) e ∙ sym f) (λ i. not_ended q vb.streams f (subst (IsEnded q) all i))
      by (Some s) f = Over s f (ap (stream_at q) e) (inr (inr (subst (IsEnded q) (sym all) (ended_of q vb.streams s f))))

  -- where they are these from now on
  abbrev Left : VbCall → List Stream → VbAnswer → Type 0
  Left c streams said = Fate vb c q (record vb { streams = streams }, quiet_reply said)

  streams_fate : {c : VbCall} {streams : List Stream} {said : VbAnswer} → StreamsAre vb c streams said → Left c streams said
  streams_fate (Opens id ask sync e) = by (q == id) refl
    where
      none : stream_at id vb.streams ≡ None
      none = (may_open vb id ask e).1

      by : (b : Bool) → (q == id) ≡ b → Left (call.OpenStream id ask sync) (vb.streams ++ new_stream vb id ask sync ∷ []) (answer.Opened vb.log vb.position.at (source_of vb (asked_stream id ask sync)))
      by true f =
          let k : id ≡ q = sym (same q id f) in
          Opened ask sync (ap (λ n. call.OpenStream n ask sync) k) refl (ap (λ n. stream_at n vb.streams) (sym k) ∙ none)
          (at_pushed q (new_stream vb id ask sync) vb.streams none ∙ ap (λ b. if b then Some (new_stream vb id ask sync) else stream_at q vb.streams) f ∙ ap (λ n. Some (new_stream vb n ask sync)) k) refl
      by false f = Stays (at_pushed q (new_stream vb id ask sync) vb.streams none ∙ ap (λ b. if b then Some (new_stream vb id ask sync) else stream_at q vb.streams) f) (λ i. i)
  streams_fate (Places id s at has there) = by (q == s.id) refl
    where
      by : (b : Bool) → (q == s.id) ≡ b → Left (call.Place id) (map (given_cursor s.id) vb.streams) (answer.Placed Memory)
      by true f =
          let own : s.id ≡ q = sym (same q s.id f) in
          let k : id ≡ q = sym (named id vb.streams s at) ∙ own in
          let here : stream_at s.id vb.streams ≡ Some s = ap (λ n. stream_at n vb.streams) (named id vb.streams s at) ∙ at in
          Given s (ap call.Place k) refl (ap (λ n. stream_at n vb.streams) (sym own) ∙ here) has (ap (λ n. stream_at n (map (given_cursor s.id) vb.streams)) (sym own) ∙ own_changed s.id cursored (λ x. refl) s vb.streams here) refl
      by false f = Stays (other_changed s.id cursored (λ x. refl) q vb.streams f) (λ i. i)
  streams_fate (Feeds id s w at has e) = by (q == s.id) refl
    where
      above : s.place < w.last
      above =
          let ws = all_spans vb.spans in
          let m = both (nat_lt s.place w.last && is_whole w.last ws && nat_le (need_of s) w.last) (has_any (items_to s ws vb.held w.last)) (found _ ws w e).1 in
          below_of s.place w.last (both (nat_lt s.place w.last) (is_whole w.last ws) (both (nat_lt s.place w.last && is_whole w.last ws) (nat_le (need_of s) w.last) m.0).0).0

      by : (b : Bool) → (q == s.id) ≡ b → Left (call.Take id) (map (moved_on s.id w.last) vb.streams) (answer.Taken (snapshot_of s (items_to s (all_spans vb.spans) vb.held w.last)))
      by true f =
          let own : s.id ≡ q = sym (same q s.id f) in
          let k : id ≡ q = sym (named id vb.streams s at) ∙ own in
          let here : stream_at s.id vb.streams ≡ Some s = ap (λ n. stream_at n vb.streams) (named id vb.streams s at) ∙ at in
          Fed s w.last (ap call.Take k) (ap (λ n. stream_at n vb.streams) (sym own) ∙ here) has above (ap (λ n. stream_at n (map (moved_on s.id w.last) vb.streams)) (sym own) ∙ own_changed s.id (further w.last) (λ x. refl) s vb.streams here) refl
      by false f = Stays (other_changed s.id (further w.last) (λ x. refl) q vb.streams f) (λ i. i)
  streams_fate (Drops id) = by (q == id) refl (stream_at q vb.streams) refl
    where
      by : (b : Bool) → (q == id) ≡ b → (o : Option Stream) → stream_at q vb.streams ≡ o → Left (call.DropCursor id) (map (without_cursor id) vb.streams) (answer.Flag (has_cursor (stream_at id vb.streams)))
      by true f None e = Stays (at_changed id uncursored (λ x. refl) q vb.streams ∙ ap (option_map (changed id uncursored (λ x. refl))) e ∙ sym e) (λ i. i)
      by true f (Some s) e =
          let k : q ≡ id = same q id f in
          Dropped s (ap call.DropCursor (sym k)) e (ap (λ n. stream_at n (map (without_cursor id) vb.streams)) k ∙ own_changed id uncursored (λ x. refl) s vb.streams (ap (λ n. stream_at n vb.streams) (sym k) ∙ e)) refl
      by false f o e = Stays (other_changed id uncursored (λ x. refl) q vb.streams f) (λ i. i)
  streams_fate (Closes id) = by (q == id) refl (stream_at q vb.streams) refl
    where
      by : (b : Bool) → (q == id) ≡ b → (o : Option Stream) → stream_at q vb.streams ≡ o → Left (call.CloseStream id) (without_stream id vb.streams) (answer.Flag (is_some (stream_at id vb.streams)))
      by true f None e = Stays (at_closed id q vb.streams ∙ ap (λ b. if b then None else stream_at q vb.streams) f ∙ sym e) (λ i. i)
      by true f (Some s) e = Over s e (at_closed id q vb.streams ∙ ap (λ b. if b then None else stream_at q vb.streams) f) (inl (ap call.CloseStream (sym (same q id f))))
      by false f o e = Stays (at_closed id q vb.streams ∙ ap (λ b. if b then None else stream_at q vb.streams) f) (λ i. i)

  yielded_fate : (id : ℕ) (s : Stream) (after : Plain × VbReply) → stream_at id vb.streams ≡ Some s → after.0.streams ≡ s ∷ [] → after.1.ended ≡ stream_ids (without_stream s.id vb.streams) → Fate vb (call.Yield id) q after
  yielded_fate id s after at one all = by (q == s.id) refl (stream_at q vb.streams) refl
    where
      left : (b : Bool) → (q == s.id) ≡ b → stream_at q (without_stream s.id vb.streams) ≡ (if b then None else stream_at q vb.streams)
      left b f = at_closed s.id q vb.streams ∙ ap (λ b. if b then None else stream_at q vb.streams) f

      kept : (b : Bool) → (q == s.id) ≡ b → stream_at q after.0.streams ≡ (if b then Some s else None)
      kept b f = ap (stream_at q) one ∙ ap (λ b. cond b (Some s) None) (flip s.id q ∙ f)

      unended : stream_at q (without_stream s.id vb.streams) ≡ None → IsEnded q after.1.ended → ⊥
      unended none i = not_ended q (without_stream s.id vb.streams) none (subst (IsEnded q) all i)

      by : (b : Bool) → (q == s.id) ≡ b → (o : Option Stream) → stream_at q vb.streams ≡ o → Fate vb (call.Yield id) q after
      by true f o e = Stays (kept true f ∙ sym (ap (λ n. stream_at n vb.streams) (same q s.id f ∙ named id vb.streams s at) ∙ at)) (unended (left true f))
      by false f None e = Stays (kept false f ∙ sym e) (unended (left false f ∙ e))
      by false f (Some t) e = Over t e (kept false f) (inr (inr (subst (IsEnded q) (sym all) (ended_of q (without_stream s.id vb.streams) t (left false f ∙ e)))))

  -- what is committed behind a call leaves the streams
  settled_fate : (c : VbCall) (start : Plain × VbReply) → ((after : Plain × VbReply) → after.0.streams ≡ start.0.streams → after.1.ended ≡ start.1.ended → Fate vb c q after) → Fate vb c q (and_settled start)
  settled_fate c start f = f (and_settled start) (ap (λ (x : Plain). x.streams) (settles start).commits.2.stays) refl

  start_fate : {c : VbCall} {start : Plain × VbReply} → StartIs vb c start → Fate vb c q (and_settled start)
  start_fate (Expires clock on) =
      let start = also_resolved (quiet_reply answer.Done) (expired clock vb) in
      settled_fate _ start (λ after e f. idle _ after (e ∙ ap (λ (x : Plain). x.streams) (expires vb clock).gives.1.stays) f)
  start_fate (Leads uuid free) = settled_fate _ (leading vb uuid) (λ after e f. ended _ after e f)
  start_fate (Inherits free) = settled_fate _ (inheriting vb) (λ after e f. ended _ after e f)
  start_fate {c = c} {start = start} other = settled_fate c start (λ after e f. idle c after e f)

  row_fate : {c : VbCall} {after : Plain × VbReply} → RowIs vb c after → Fate vb c q after
  row_fate (Streams c streams said is) = streams_fate is
  row_fate (Settles c start is) = start_fate is
  row_fate (Turns c new loud off) = ended c _ refl refl
  row_fate (Yields id s on at) = yielded_fate id s _ at refl refl
  row_fate {c = c} {after = after} other = idle c after refl refl

  -- the stream that is found
  it : (o : Option Stream) (s t : Stream) → o ≡ Some s → o ≡ Some t → s ≡ t
  it o s t e f = let k : Some s ≡ Some t = sym e ∙ f in cc

  lacks : {A : Type 0} (o : Option Stream) (s : Stream) → o ≡ None → o ≡ Some s → A
  lacks o s e f = let k : None ≡ Some s = sym e ∙ f in cc

  -- a stream with a cursor has none
  split : {A : Type 0} (s t : Stream) → s ≡ t → s.cursor ≡ false → t.cursor ≡ true → A
  split s t e f g = let k : false ≡ true = sym f ∙ ap (λ (x : Stream). x.cursor) e ∙ g in cc

  made : (c : VbCall) (after : Plain × VbReply) (place : ℕ) → Fate vb c q after → HasNone vb q → HasCursor after.0 q place → IsPlaced vb c q place after.1.answer ⊎ IsOpened vb c q place after.1.answer
  made c after place (Stays e n) none h = absurd (none place (h.0, sym e ∙ h.1, h.2, h.3))
  made c after place (Opened ask sync is said was now n) none h =
      let k : new_stream vb q ask sync ≡ h.0 = it (stream_at q after.0.streams) (new_stream vb q ask sync) h.0 now h.1 in
      inr (ask, sync, is, said ∙ ap (λ b. answer.Opened vb.log vb.position.at (source_by b)) (ap (λ (x : Stream). x.cursor) k ∙ h.2), ap (λ (x : Stream). x.place) k ∙ h.3)
  made c after place (Given s is said was has now n) none h =
      let k : cursored s ≡ h.0 = it (stream_at q after.0.streams) (cursored s) h.0 now h.1 in
      inl (is, said, (s, was, ap (λ (x : Stream). x.place) k ∙ h.3))
  made c after place (Fed s end is was has above now n) none h = absurd (none s.place (s, was, has, refl))
  made c after place (Dropped s is was now n) none h = split (uncursored s) h.0 (it (stream_at q after.0.streams) (uncursored s) h.0 now h.1) refl h.2
  made c after place (Over s was now how) none h = lacks (stream_at q after.0.streams) h.0 now h.1

  moved : (c : VbCall) (after : Plain × VbReply) (old place : ℕ) → Fate vb c q after → HasCursor vb q old → HasCursor after.0 q place → (old ≡ place) ⊎ ((c ≡ call.Take q) × (old < place))
  moved c after old place (Stays e n) g h = inl (sym g.3 ∙ ap (λ (x : Stream). x.place) (it (stream_at q vb.streams) g.0 h.0 g.1 (sym e ∙ h.1)) ∙ h.3)
  moved c after old place (Opened ask sync is said was now n) g h = lacks (stream_at q vb.streams) g.0 was g.1
  moved c after old place (Given s is said was has now n) g h = split s g.0 (it (stream_at q vb.streams) s g.0 was g.1) has g.2
  moved c after old place (Fed s end is was has above now n) g h =
      let k : s.place ≡ old = ap (λ (x : Stream). x.place) (it (stream_at q vb.streams) s g.0 was g.1) ∙ g.3 in
      let m : end ≡ place = ap (λ (x : Stream). x.place) (it (stream_at q after.0.streams) (further end s) h.0 now h.1) ∙ h.3 in
      inr (is, omega arith)
  moved c after old place (Dropped s is was now n) g h = split (uncursored s) h.0 (it (stream_at q after.0.streams) (uncursored s) h.0 now h.1) refl h.2
  moved c after old place (Over s was now how) g h = lacks (stream_at q after.0.streams) h.0 now h.1

  gone : (c : VbCall) (after : Plain × VbReply) (old : ℕ) → Fate vb c q after → HasCursor vb q old → HasNone after.0 q → IsOver c q after.1
  gone c after old (Stays e n) g none = absurd (none old (g.0, e ∙ g.1, g.2, g.3))
  gone c after old (Opened ask sync is said was now n) g none = lacks (stream_at q vb.streams) g.0 was g.1
  gone c after old (Given s is said was has now n) g none = split s g.0 (it (stream_at q vb.streams) s g.0 was g.1) has g.2
  gone c after old (Fed s end is was has above now n) g none = absurd (none end (further end s, now, has, refl))
  gone c after old (Dropped s is was now n) g none = inr (inl is)
  gone c after old (Over s was now how) g none = how

  goes_ended : (c : VbCall) (after : Plain × VbReply) → Fate vb c q after → IsEnded q after.1.ended → HasNone after.0 q
  goes_ended c after (Stays e n) i place h = n i
  goes_ended c after (Opened ask sync is said was now n) i place h = none_ended after.1 n i
  goes_ended c after (Given s is said was has now n) i place h = none_ended after.1 n i
  goes_ended c after (Fed s end is was has above now n) i place h = none_ended after.1 n i
  goes_ended c after (Dropped s is was now n) i place h = none_ended after.1 n i
  goes_ended c after (Over s was now how) i place h = lacks (stream_at q after.0.streams) h.0 now h.1

  goes_closed : HasNone (plain_step vb (call.CloseStream q)).0 q
  goes_closed place h = lacks (stream_at q (without_stream q vb.streams)) h.0 (at_closed q q vb.streams ∙ ap (λ b. if b then None else stream_at q vb.streams) (own q)) h.1

  goes_dropped : HasNone (plain_step vb (call.DropCursor q)).0 q
  goes_dropped place h = by (stream_at q vb.streams) refl
    where
      ss : List Stream
      ss = map (without_cursor q) vb.streams

      by : (o : Option Stream) → stream_at q vb.streams ≡ o → ⊥
      by None e = lacks (stream_at q ss) h.0 (at_changed q uncursored (λ x. refl) q vb.streams ∙ ap (option_map (changed q uncursored (λ x. refl))) e) h.1
      by (Some s) e = split (uncursored s) h.0 (it (stream_at q ss) (uncursored s) h.0 (own_changed q uncursored (λ x. refl) s vb.streams e) h.1) refl h.2

  makes_placed : (place : ℕ) (s : Stream) → stream_at q vb.streams ≡ Some s → s.place ≡ place → (plain_step vb (call.Place q)).1.answer ≡ answer.Placed Memory → HasCursor (plain_step vb (call.Place q)).0 q place
  makes_placed place s at p said =
      subst (λ o. (place_from o vb).1.answer ≡ answer.Placed Memory → HasCursor (place_from o vb).0 q place) (sym at) (by s.cursor (is_in_memory vb s.place) refl) said
    where
      by : (has there : Bool) → s.cursor ≡ has → (placed_by has there s vb).1.answer ≡ answer.Placed Memory → HasCursor (placed_by has there s vb).0 q place
      by true there f e = (s, at, f, p)
      by false true f e = (
        cursored s,
        ap (λ n. stream_at n (map (given_cursor s.id) vb.streams)) (sym (named q vb.streams s at)) ∙ own_changed s.id cursored (λ x. refl) s vb.streams (ap (λ n. stream_at n vb.streams) (named q vb.streams s at) ∙ at),
        refl,
        p,
      )
      by false false f e = cc

  makes_opened : (ask : StreamAsk) (sync : Bool) → (plain_step vb (call.OpenStream q ask sync)).1.answer ≡ answer.Opened vb.log vb.position.at Memory → HasCursor (plain_step vb (call.OpenStream q ask sync)).0 q ask.start
  makes_opened ask sync said = by (open_refusal vb q ask) refl said
    where
      near : (b : Bool) → source_by b ≡ Memory → b ≡ true
      near true e = refl
      near false e = cc

      judged : (v : Verdict) → open_refusal vb q ask ≡ None → (judged_open v vb q ask sync).1.answer ≡ answer.Opened vb.log vb.position.at Memory → HasCursor (judged_open v vb q ask sync).0 q ask.start
      judged Continue free e = (
        new_stream vb q ask sync,
        at_pushed q (new_stream vb q ask sync) vb.streams (may_open vb q ask free).1 ∙ ap (λ b. if b then Some (new_stream vb q ask sync) else stream_at q vb.streams) (own q),
        near (is_in_memory vb ask.start) (let k : source_by (is_in_memory vb ask.start) ≡ Memory = cc in k),
        refl,
      )
      judged (Roll to) free e = cc

      by : (why : Option Status) → open_refusal vb q ask ≡ why → (open_outcome why vb q ask sync).1.answer ≡ answer.Opened vb.log vb.position.at Memory → HasCursor (open_outcome why vb q ask sync).0 q ask.start
      by (Some st) e f = cc
      by None e f = judged (rule vb.log vb.position.at ask) e f

  makes : (c : VbCall) (place : ℕ) → IsPlaced vb c q place (plain_step vb c).1.answer ⊎ IsOpened vb c q place (plain_step vb c).1.answer → HasCursor (plain_step vb c).0 q place
  makes c place how = ⊎_elim
      (λ (k : IsPlaced vb c q place (plain_step vb c).1.answer).
      subst (λ x. (plain_step vb x).1.answer ≡ answer.Placed Memory → HasCursor (plain_step vb x).0 q place) (sym k.0) (makes_placed place k.2.0 k.2.1 k.2.2) k.1)
      (λ (k : IsOpened vb c q place (plain_step vb c).1.answer).
      subst (HasCursor (plain_step vb c).0 q) k.4
      (subst (λ x. (plain_step vb x).1.answer ≡ answer.Opened vb.log vb.position.at Memory → HasCursor (plain_step vb x).0 q k.0.start) (sym k.2) (makes_opened k.0 k.1) k.3))
      how

  goes : (c : VbCall) → IsOver c q (plain_step vb c).1 → HasNone (plain_step vb c).0 q
  goes c how = ⊎_elim
      (λ (k : c ≡ call.CloseStream q). subst (λ x. HasNone (plain_step vb x).0 q) (sym k) goes_closed)
      (λ r. ⊎_elim
      (λ (k : c ≡ call.DropCursor q). subst (λ x. HasNone (plain_step vb x).0 q) (sym k) goes_dropped)
      (λ i. goes_ended c (plain_step vb c) (row_fate (row_is vb c)) i)
      r)
      how

-- the flusher's is counted first
some_left : (vb : Plain) (windows items cursors saved high : ℕ) → (plain_step vb call.Stat).1.answer ≡ answer.Stat windows items cursors saved high → 1 ≤ cursors
some_left vb windows items cursors saved high e =
    let k : 1 + length (filter (λ s. s.cursor) vb.streams) ≡ cursors = cc in
    omega arith

pub cursors : CursorsExactly
cursors vb c id =
    let fate = row_fate vb id (row_is vb c) in
    record {
      makes = λ place how. makes vb id c place how;
      made = λ place none h. made vb id c (plain_step vb c) place fate none h;
      moved = λ old place g h. moved vb id c (plain_step vb c) old place fate g h;
      goes = λ how. goes vb id c how;
      gone = λ old g none. gone vb id c (plain_step vb c) old fate g none;
      stays = some_left (plain_step vb c).0;
    }
