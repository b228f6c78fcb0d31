-- the turns of a connection's streams
use Rattle.std.proofs.Common.{◌≡◌, ℕ, zero, suc, ◌<◌, ◌≤◌, Bool, true, false, List, [], ◌∷◌, cond, map, length, get_or, refl, sym, ap, ◌∙◌, subst, arith, Option, Some, None, Result, Ok, Err}
use Rattle.std.specs.List.{find, position, position_or_len}
use Rattle.std.proofs.lemmas.Bool.{eqb-true}
use Rattle.std.proofs.lemmas.Bool.Decides.{nat_tests}
use Rattle.std.proofs.lemmas.List.Folds.{find_at}
use Rattle.flow_control.specs.Rings.{PlainRing, next_id, turned}
use Rattle.std.specs.Prelude.{nat_lt, ◌==◌, if◌then◌else◌, slice_get, slice_set, OnErr, IfOk}
use Rattle.vb_events.specs.declared.event.Event.{Event}
use Rattle.vb_events.specs.declared.event.Event.TheVariants as event
use Rattle.vb_events.specs.declared.event.StreamName.{StreamName}
use Rattle.mcbp_dcp.specs.declared.message.DcpMsg.{DcpMsg}
use Rattle.mcbp_dcp.specs.declared.message.DcpMsg.TheVariants as msg
use Rattle.mcbp_dcp.specs.DcpFrames.{dcp_frame}
use Rattle.vb_calls.specs.declared.calls.VbCall.{VbCall}
use Rattle.vb_calls.specs.declared.calls.VbReply.{VbReply}
use Rattle.vb_calls.specs.Jobs.{Ended, RanJob, BeganJob}
use Rattle.vb_calls.specs.Programs.{Turn, More, Stop}
use Rattle.vb_calls.specs.Shelves.{Ask, Got}
use Rattle.vb_calls.proofs.JobRuns.{ran_bind_job, began_bind_job, ran_began_job}
use Rattle.dcp_producer.specs.declared.halt.Halt.TheVariants as halt
use Rattle.dcp_producer.specs.declared.next_frame.NextFrame.{NextFrame}
use Rattle.dcp_producer.specs.declared.next_frame.NextFrame.TheVariants as next
use Rattle.dcp_producer.specs.declared.next_frame.Waits.{Waits}
use Rattle.dcp_producer.specs.Producers.{PlainStream, Served, Rising, ring_of, stream_of_id, without_stream}
use Rattle.dcp_producer.specs.Frames.{next_frame}
use Rattle.dcp_producer.specs.Wanting.{standing}
use Rattle.dcp_producer.specs.Pulling.{Halting, Pulling, QuietOnes, pull_of, with_quiet, frame_put, came_as, came, is_quiet, one_turn, stream_asked, stream_in, turn_had}
use Rattle.dcp_producer.proofs.Kept.{replaced_set, stands}

pub on_err : {T E : Type 0} (r : Result T E) (P : Type 0) → P → OnErr r P
on_err (Ok t) P p = tt
on_err (Err e) P p = p

pub if_ok : {T E : Type 0} (r : Result T E) (P Q : T → Type 0) → ((t : T) → P t → Q t) → IfOk r P → IfOk r Q
if_ok (Ok t) P Q so p = so t p
if_ok (Err e) P Q so p = tt

-- the stream of a number
found_id : (id : ℕ) (streams : List PlainStream) (t : PlainStream) → stream_of_id id streams ≡ Some t → t.id ≡ id
found_id id [] t e = absurd (cc e)
found_id id (x ∷ xs) t e = by (x.id == id) refl (found_id id xs t) e
  where
    by : (b : Bool) → (x.id == id) ≡ b → (stream_of_id id xs ≡ Some t → t.id ≡ id) → cond b (Some x) (stream_of_id id xs) ≡ Some t → t.id ≡ id
    by true same more e = let here : x ≡ t = cc e in ap (λ u. u.id) (sym here) ∙ eqb-true x.id id same
    by false other more e = more e

get_past : {X : Type 0} (xs : List X) (at : ℕ) → length xs ≤ at → slice_get xs at ≡ None
get_past [] at past = refl
get_past (x ∷ xs) zero past = absurd (omega arith)
get_past (x ∷ xs) (suc at) past = get_past xs at (omega arith)

get_within : {X : Type 0} (xs : List X) (at : ℕ) → at < length xs → (x : X) × (slice_get xs at ≡ Some x)
get_within [] at low = absurd (omega arith)
get_within (x ∷ xs) zero low = (x, refl)
get_within (x ∷ xs) (suc at) low = get_within xs at (omega arith)

module _ {X : Type 0} (p : X → Bool) (xs : List X) where
  place_none : (b : Bool) → nat_lt (position_or_len p xs) (length xs) ≡ b → cond b (Some (position_or_len p xs)) None ≡ None → find p xs ≡ None
  place_none true e is = absurd (cc is)
  place_none false e is = find_at p xs ∙ get_past xs (position_or_len p xs) (let past : length xs ≤ position_or_len p xs = grind (arith, nat_tests) in past)

  place_some : (at : ℕ) (b : Bool) → nat_lt (position_or_len p xs) (length xs) ≡ b → cond b (Some (position_or_len p xs)) None ≡ Some at → (x : X) × (slice_get xs at ≡ Some x) × (find p xs ≡ Some x)
  place_some at true e is =
      let low : position_or_len p xs < length xs = grind (arith, nat_tests) in
      let here : position_or_len p xs ≡ at = cc is in
      let (x, got) = get_within xs at (subst (λ n. n < length xs) here low) in
      (x, got, find_at p xs ∙ ap (slice_get xs) here ∙ got)
  place_some at false e is = absurd (cc is)

-- a stream has its turn
module _ {W J : Type 0} (step : W → ℕ → VbCall → Option VbReply → W → Type 0) (asks : J → ℕ → (ask : Ask) → Got ask → J → Type 0) (s0 s : Served) (is : s0 ≡ s) (q : QuietOnes) (ring ring' : PlainRing)
    (ids : ring.ids ≡ map (λ stream. stream.id) s0.end.streams) (turn : ring.turn ≡ s0.end.turn) (id : ℕ) (who : next_id ring ≡ Some id) (went : ring' ≡ turned ring) where
  abbrev behind : Served
  behind = record s0 { end = record s0.end { turn = ring'.turn } }

  ring_is : ring ≡ ring_of s0.end
  ring_is = λ i. record { ids = ids i; turn = turn i }

  turn_is : one_turn (pull_of s q) ≡ turn_had behind q (stream_of_id id s0.end.streams)
  unfolding one_turn
  turn_is =
      ap (λ t. one_turn (pull_of t q)) (sym is)
      ∙ ap (λ r. turn_had (record s0 { end = record s0.end { turn = (turned r).turn } }) q (stream_in (next_id r) s0.end.streams)) (sym ring_is)
      ∙ ap (λ r. turn_had (record s0 { end = record s0.end { turn = r.turn } }) q (stream_in (next_id ring) s0.end.streams)) (sym went)
      ∙ ap (λ o. turn_had behind q (stream_in o s0.end.streams)) who

  had_quiet : (o : Option PlainStream) → stream_of_id id s0.end.streams ≡ o → is_quiet id q ≡ true → turn_had behind q o ≡ Ended (More (pull_of behind q))
  had_quiet None e quiet = refl
  had_quiet (Some t) e quiet =
      ap (λ b. if b then Ended (More (pull_of behind q)) else stream_asked behind q t) (ap (λ n. is_quiet n q) (found_id id s0.end.streams t e) ∙ quiet)

  pub turn_quiet : (old : W) (kept : J) → is_quiet id q ≡ true → RanJob step asks (one_turn (pull_of s q)) old kept (More (pull_of behind q)) old kept
  turn_quiet old kept quiet =
      subst (λ p. RanJob step asks p old kept (More (pull_of behind q)) old kept) (sym (turn_is ∙ had_quiet (stream_of_id id s0.end.streams) refl quiet)) (refl, refl, refl)

  pub turn_none : (old : W) (kept : J) → position (λ stream. stream.id == id) s0.end.streams ≡ None → RanJob step asks (one_turn (pull_of s q)) old kept (More (pull_of behind q)) old kept
  turn_none old kept none =
      subst (λ p. RanJob step asks p old kept (More (pull_of behind q)) old kept)
      (sym (turn_is ∙ ap (turn_had behind q) (place_none (λ stream. stream.id == id) s0.end.streams (nat_lt (position_or_len (λ stream. stream.id == id) s0.end.streams) (length s0.end.streams)) refl none)))
      (refl, refl, refl)

  pub turn_asked : (at : ℕ) → position (λ stream. stream.id == id) s0.end.streams ≡ Some at → is_quiet id q ≡ false
      → (t : PlainStream) × (slice_get s0.end.streams at ≡ Some t) × (one_turn (pull_of s q) ≡ stream_asked behind q t)
  turn_asked at stood loud =
      let (t, got, found) = place_some (λ stream. stream.id == id) s0.end.streams at (nat_lt (position_or_len (λ stream. stream.id == id) s0.end.streams) (length s0.end.streams)) refl stood in
      let so : (if is_quiet t.id q then Ended (More (pull_of behind q)) else stream_asked behind q t) ≡ stream_asked behind q t =
      ap (λ b. if b then Ended (More (pull_of behind q)) else stream_asked behind q t) (ap (λ n. is_quiet n q) (found_id id s0.end.streams t found) ∙ loud) in
      (t, got, turn_is ∙ ap (turn_had behind q) found ∙ so)

-- what a stream has is put
module _ (s : Served) (q : QuietOnes) (stream : PlainStream) (names : ℕ × ℕ × ℕ) (is : names ≡ (stream.id, stream.opaque, stream.vb)) (what : NextFrame) where
  pub came_put : (m : DcpMsg) (line : Event) (new : Served) → what ≡ next.Put m line → new ≡ frame_put (dcp_frame m names.1 names.2) line s → Stop (pull_of new q, None) ≡ came_as s q stream what
  came_put m line new put now =
      ap (λ t. Stop (pull_of t q, None)) (now ∙ ap (λ n. frame_put (dcp_frame m n.1 n.2) line s) is) ∙ sym (ap (came_as s q stream) put)

  pub came_end : (reason : ℕ) (name : StreamName) (mid new : Served) → what ≡ next.End reason → name ≡ s.end.desk.stream → mid ≡ record s { end = without_stream names.0 s.end }
      → new ≡ frame_put (dcp_frame (msg.StreamEnd reason) names.1 names.2) (event.Finished name reason) mid → Stop (pull_of new q, None) ≡ came_as s q stream what
  came_end reason name mid new over named dropped now =
      ap (λ t. Stop (pull_of t q, None)) (now ∙ ap (λ n. frame_put (dcp_frame (msg.StreamEnd reason) names.1 names.2) (event.Finished n reason) mid) named
      ∙ ap (λ t. frame_put (dcp_frame (msg.StreamEnd reason) names.1 names.2) (event.Finished s.end.desk.stream reason) t) dropped
      ∙ ap (λ n. frame_put (dcp_frame (msg.StreamEnd reason) n.1 n.2) (event.Finished s.end.desk.stream reason) (record s { end = without_stream n.0 s.end })) is)
      ∙ sym (ap (came_as s q stream) over)

  pub came_quiet : (for : Waits) (new : QuietOnes) → what ≡ next.Quiet for → new ≡ with_quiet names.0 for q → More (pull_of s new) ≡ came_as s q stream what
  came_quiet for new idle now =
      ap (λ t. More (pull_of s t)) (now ∙ ap (λ n. with_quiet n.0 for q) is) ∙ sym (ap (came_as s q stream) idle)

  pub came_disk : what ≡ next.Disk → Stop (pull_of s q, Some halt.Disk) ≡ came_as s q stream what
  came_disk shut = sym (ap (came_as s q stream) shut)

-- a stream is asked
module _ {W J : Type 0} (step : W → ℕ → VbCall → Option VbReply → W → Type 0) (asks : J → ℕ → (ask : Ask) → Got ask → J → Type 0) (s0 s : Served) (is : s0 ≡ s) (q : QuietOnes) (at : ℕ) (x stream : PlainStream)
    (there : x ≡ get_or s0.end.streams at x) (got : slice_get s.end.streams at ≡ Some stream) where
  it_is : x ≡ stream
  it_is = stands s0.end.streams at x stream there (ap (λ t. slice_get t.end.streams at) is ∙ got)

  pub asked_began : (old : W) (kept : J) (new : W) (left : J) → BeganJob step asks (next_frame s0.end.desk.stream x) old kept new left → BeganJob step asks (stream_asked s q stream) old kept new left
  asked_began old kept new left began =
      subst (λ t. BeganJob step asks (stream_asked t q stream) old kept new left) is
      (began_bind_job step asks (next_frame s0.end.desk.stream stream) (λ n. Ended (came s0 q n)) old kept new left (subst (λ t. BeganJob step asks (next_frame s0.end.desk.stream t) old kept new left) it_is began))

  pub asked_behind : (what : NextFrame) (stream' : PlainStream) (old : W) (kept : J) (new : W) (left : J) → RanJob step asks (next_frame s0.end.desk.stream x) old kept (what, stream') new left → BeganJob step asks (stream_asked s q stream) old kept new left
  asked_behind what stream' old kept new left ran =
      subst (λ t. BeganJob step asks (stream_asked t q stream) old kept new left) is
      (ran_began_job step asks (next_frame s0.end.desk.stream stream) (λ n. Ended (came s0 q n)) old kept (what, stream') new left new left
      (subst (λ t. RanJob step asks (next_frame s0.end.desk.stream t) old kept (what, stream') new left) it_is ran) (refl, refl))

  pub asked_ran : (what : NextFrame) (stream' : PlainStream) (old : W) (kept : J) (new : W) (left : J) (turn : Turn Pulling Halting) → Rising s0.end.streams → standing stream' ≡ standing x
      → RanJob step asks (next_frame s0.end.desk.stream x) old kept (what, stream') new left
      → turn ≡ came_as (record s0 { end = record s0.end { streams = slice_set s0.end.streams at stream' } }) q stream' what
      → RanJob step asks (stream_asked s q stream) old kept turn new left
  asked_ran what stream' old kept new left turn rise same ran came_so =
      let here : slice_get s0.end.streams at ≡ Some stream = ap (λ t. slice_get t.end.streams at) is ∙ got in
      let id : stream'.id ≡ stream.id = ap (λ n. n.0) (same ∙ ap standing it_is) in
      let to : turn ≡ came s0 q (what, stream') =
      came_so ∙ ap (λ l. came_as (record s0 { end = record s0.end { streams = l } }) q stream' what) (sym (replaced_set s0.end.streams at stream stream' rise here id)) in
      subst (λ t. RanJob step asks (stream_asked t q stream) old kept turn new left) is
      (ran_bind_job step asks (next_frame s0.end.desk.stream stream) (λ n. Ended (came s0 q n)) old kept (what, stream') new left turn new left
      (subst (λ t. RanJob step asks (next_frame s0.end.desk.stream t) old kept (what, stream') new left) it_is ran) (to, refl, refl))
