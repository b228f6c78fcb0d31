-- the streams of a connection stay different, and their numbers rise
use Rattle.std.proofs.Common.{◌≡◌, ◌≢◌, ◌+◌, ◌*◌, ◌<◌, ◌≤◌, ℕ, zero, suc, Bool, true, false, List, [], ◌∷◌, ◌++◌, length, map, refl, sym, ap, ◌∙◌, subst, arith, Option, Some, None}
use Rattle.std.specs.Prelude.{if◌then◌else◌, ◌==◌, ◌&&◌}
use Rattle.std.specs.List.{All, list_any, position, remove}
use Rattle.std.proofs.lemmas.List.{length-append}
use Rattle.std.proofs.lemmas.List.Elements.{All-head, All-tail, All-nil, All-cons, All-push}
use Rattle.mcbp_frame.specs.declared.frame.Frame.{Frame}
use Rattle.vb_types.specs.declared.stream.Place.{Place}
use Rattle.vb_types.specs.declared.stream.StreamAsk.{StreamAsk}
use Rattle.vb_calls.specs.Jobs.{AlwaysJob, IsRead}
use Rattle.vb_calls.specs.Programs.{AnyCall, AnyReply, Always, Made}
use Rattle.vb_told.specs.Told.{ToldJob}
use Rattle.vb_told.proofs.Walks.{always_told_job}
use Rattle.dcp_producer.specs.Pairs.{AnyChange, IsOneOf, PullsPairs}
use Rattle.dcp_producer.proofs.Pairs.{any_pairs}
use Rattle.flow_control.specs.declared.window.Window.{Window}
use Rattle.flow_control.specs.Rings.{closed}
use Rattle.dcp_producer.specs.declared.desk.Desk.{Desk}
use Rattle.dcp_producer.specs.declared.desk.Handshake.{Handshake}
use Rattle.dcp_producer.specs.declared.halt.Halt.{Halt}
use Rattle.dcp_producer.specs.Producers.{PlainStream, PlainProducer, Served, Rising, new_end, ring_of, with_opened, without_id, without_place, without_stream}
use Rattle.dcp_producer.specs.Ending.{ended_in, ended_by}
use Rattle.dcp_producer.specs.Pulling.{frames_put}
use Rattle.dcp_producer.specs.Serving.{next_stream, with_asked, new_stream, frame_answered, heard}
use Rattle.std.specs.Option.{option_map}
use Rattle.takeover.specs.GivingUp.{answered}
use Rattle.dcp_producer.specs.Wanting.{AllPersist}
use Rattle.dcp_producer.proofs.Persisting.{kept_persist, persist_long}
use Rattle.dcp_producer.specs.Having.{NoneOf, AreOfOthers, IsSound, AnswersSound, PullsSound}
use Rattle.dcp_producer.proofs.Kept.{kept_less, kept_ended, kept_heard}
use Rattle.dcp_producer.proofs.Closing.{length_ids, sound_kept}
use Rattle.dcp_producer.proofs.Answering.{Stays, stays_answered}
use Rattle.dcp_producer.proofs.Walking.{Ends, ends_all, ends_full, ends_there, ends_quiet}
use Rattle.dcp_producer.proofs.Story.{StopsSo, Turns, Whole, pulls}

-- ---- a new connection

pub sound_new : (desk : Desk) → IsSound (new_end desk)
sound_new desk = record { apart = tt; rise = tt; numbered = All-nil (λ (stream : PlainStream). stream.id ≤ desk.base * 4294967296 + 0); turn = omega arith }

-- ---- one stream more

apart_more : (xs : List PlainStream) (x : PlainStream) → AreOfOthers xs → NoneOf x.vb xs → AreOfOthers (xs ++ x ∷ [])
apart_more [] x apart none = (All-nil (λ (o : PlainStream). o.vb ≢ x.vb), tt)
apart_more (y ∷ xs) x (others, apart) none = (
  All-push (λ (o : PlainStream). o.vb ≢ y.vb) xs x others (λ is. All-head (λ (o : PlainStream). o.vb ≢ x.vb) y xs none (sym is)),
  apart_more xs x apart (All-tail (λ (o : PlainStream). o.vb ≢ x.vb) y xs none),
)

rising_more : (xs : List PlainStream) (x : PlainStream) → Rising xs → All (λ o. o.id < x.id) xs → Rising (xs ++ x ∷ [])
rising_more [] x rise below = (All-nil (λ (o : PlainStream). x.id < o.id), tt)
rising_more (y ∷ xs) x (above, rise) below = (
  All-push (λ (o : PlainStream). y.id < o.id) xs x above (All-head (λ (o : PlainStream). o.id < x.id) y xs below),
  rising_more xs x rise (All-tail (λ (o : PlainStream). o.id < x.id) y xs below),
)

all_below : (n m : ℕ) → n < m → (xs : List PlainStream) → All (λ o. o.id ≤ n) xs → All (λ o. o.id < m) xs
all_below n m less [] all = All-nil (λ (o : PlainStream). o.id < m)
all_below n m less (x ∷ xs) all =
    let one : x.id ≤ n = All-head (λ (o : PlainStream). o.id ≤ n) x xs all in
    All-cons (λ (o : PlainStream). o.id < m) x xs (omega (arith, one, less)) (all_below n m less xs (All-tail (λ (o : PlainStream). o.id ≤ n) x xs all))

all_within : (n m : ℕ) → n ≤ m → (xs : List PlainStream) → All (λ o. o.id ≤ n) xs → All (λ o. o.id ≤ m) xs
all_within n m less [] all = All-nil (λ (o : PlainStream). o.id ≤ m)
all_within n m less (x ∷ xs) all =
    let one : x.id ≤ n = All-head (λ (o : PlainStream). o.id ≤ n) x xs all in
    All-cons (λ (o : PlainStream). o.id ≤ m) x xs (omega (arith, one, less)) (all_within n m less xs (All-tail (λ (o : PlainStream). o.id ≤ n) x xs all))

module _ (end : PlainProducer) (sound : IsSound end) where
  abbrev last : ℕ
  last = end.desk.base * 4294967296 + end.asked

  abbrev next : ℕ
  next = end.desk.base * 4294967296 + (end.asked + 1)

  sound_asked : IsSound (with_asked end)
  sound_asked = record {
    apart = sound.apart;
    rise = sound.rise;
    numbered = all_within last next (omega arith) end.streams sound.numbered;
    turn = sound.turn;
  }

  sound_opened : (f : Frame) (ask : StreamAsk) (sync : Bool) (from : Place) → NoneOf f.vb_or_status end.streams → IsSound (with_opened (new_stream (next_stream end) f ask sync from) (with_asked end))
  sound_opened f ask sync from none =
      let x : PlainStream = new_stream (next_stream end) f ask sync from in
      let long : length (end.streams ++ x ∷ []) ≡ length end.streams + 1 = length-append end.streams (x ∷ []) in
      let turn : end.turn ≤ length end.streams = sound.turn in
      record {
        apart = apart_more end.streams x sound.apart none;
        rise = rising_more end.streams x sound.rise (all_below last next (omega arith) end.streams sound.numbered);
        numbered = All-push (λ (o : PlainStream). o.id ≤ next) end.streams x (all_within last next (omega arith) end.streams sound.numbered) (omega arith);
        turn = omega (arith, long, turn);
      }

-- ---- one stream less

others_less : (v : ℕ) (xs : List PlainStream) (at : ℕ) → NoneOf v xs → NoneOf v (remove xs at)
others_less v [] zero none = none
others_less v [] (suc at) none = none
others_less v (x ∷ xs) zero none = All-tail (λ (o : PlainStream). o.vb ≢ v) x xs none
others_less v (x ∷ xs) (suc at) none =
    All-cons (λ (o : PlainStream). o.vb ≢ v) x (remove xs at) (All-head (λ (o : PlainStream). o.vb ≢ v) x xs none) (others_less v xs at (All-tail (λ (o : PlainStream). o.vb ≢ v) x xs none))

apart_less : (xs : List PlainStream) (at : ℕ) → AreOfOthers xs → AreOfOthers (remove xs at)
apart_less [] zero apart = apart
apart_less [] (suc at) apart = apart
apart_less (x ∷ xs) zero (others, apart) = apart
apart_less (x ∷ xs) (suc at) (others, apart) = (others_less x.vb xs at others, apart_less xs at apart)

apart_place : (xs : List PlainStream) (at : Option ℕ) → AreOfOthers xs → AreOfOthers (without_place at xs)
apart_place xs None apart = apart
apart_place xs (Some at) apart = apart_less xs at apart

sound_without : (end : PlainProducer) (id : ℕ) → IsSound end → IsSound (without_stream id end)
sound_without end id sound =
    let kept = kept_less end.desk.base end.asked id end.streams (ring_of end) (sound_kept end sound) in
    record {
      apart = apart_place end.streams (position (λ stream. stream.id == id) end.streams) sound.apart;
      rise = kept.rise;
      numbered = kept.numbered;
      turn = subst (λ n. (closed id (ring_of end)).turn ≤ n) (ap length kept.ids ∙ length_ids (without_id id end.streams)) kept.turn;
    }

-- ---- a change of role

ended_vb : (s : PlainStream) (b : Bool) → (if b then record s { ended = true } else s).vb ≡ s.vb
ended_vb s true = refl
ended_vb s false = refl

module _ (v : ℕ) (ids : List ℕ) where
  none_ended : (w : ℕ) (xs : List PlainStream) → NoneOf w xs → NoneOf w (map (ended_in v ids) xs)
  none_ended w [] none = none
  none_ended w (x ∷ xs) none =
      All-cons (λ (o : PlainStream). o.vb ≢ w) (ended_in v ids x) (map (ended_in v ids) xs)
      (λ is. All-head (λ (o : PlainStream). o.vb ≢ w) x xs none (sym (ended_vb x (x.vb == v && list_any (λ i. i == x.id) ids)) ∙ is))
      (none_ended w xs (All-tail (λ (o : PlainStream). o.vb ≢ w) x xs none))

  apart_ended : (xs : List PlainStream) → AreOfOthers xs → AreOfOthers (map (ended_in v ids) xs)
  apart_ended [] apart = apart
  apart_ended (x ∷ xs) (others, apart) = (
    subst (λ w. NoneOf w (map (ended_in v ids) xs)) (sym (ended_vb x (x.vb == v && list_any (λ i. i == x.id) ids))) (none_ended x.vb xs others),
    apart_ended xs apart,
  )

  long_ended : (xs : List PlainStream) → length (map (ended_in v ids) xs) ≡ length xs
  long_ended [] = refl
  long_ended (x ∷ xs) = ap suc (long_ended xs)

  pub sound_ended : (end : PlainProducer) → IsSound end → IsSound (ended_by v ids end)
  sound_ended end sound =
      let kept = kept_ended end.desk.base end.asked v ids end.streams (ring_of end) (sound_kept end sound) in
      record { apart = apart_ended end.streams sound.apart; rise = kept.rise; numbered = kept.numbered; turn = subst (λ n. end.turn ≤ n) (sym (long_ended end.streams)) sound.turn }

-- ---- a state that was answered

heard_vb : (opaque : ℕ) (s : PlainStream) (b : Bool) → (if b then record s { gives = option_map answered s.gives } else s).vb ≡ s.vb
heard_vb opaque s true = refl
heard_vb opaque s false = refl

module _ (opaque : ℕ) where
  none_heard : (w : ℕ) (xs : List PlainStream) → NoneOf w xs → NoneOf w (map (heard opaque) xs)
  none_heard w [] none = none
  none_heard w (x ∷ xs) none =
      All-cons (λ (o : PlainStream). o.vb ≢ w) (heard opaque x) (map (heard opaque) xs)
      (λ is. All-head (λ (o : PlainStream). o.vb ≢ w) x xs none (sym (heard_vb opaque x (x.opaque == opaque)) ∙ is))
      (none_heard w xs (All-tail (λ (o : PlainStream). o.vb ≢ w) x xs none))

  apart_heard : (xs : List PlainStream) → AreOfOthers xs → AreOfOthers (map (heard opaque) xs)
  apart_heard [] apart = apart
  apart_heard (x ∷ xs) (others, apart) = (
    subst (λ w. NoneOf w (map (heard opaque) xs)) (sym (heard_vb opaque x (x.opaque == opaque))) (none_heard x.vb xs others),
    apart_heard xs apart,
  )

  long_heard : (xs : List PlainStream) → length (map (heard opaque) xs) ≡ length xs
  long_heard [] = refl
  long_heard (x ∷ xs) = ap suc (long_heard xs)

  pub sound_heard : (end : PlainProducer) → IsSound end → IsSound (record end { streams = map (heard opaque) end.streams })
  sound_heard end sound =
      let kept = kept_heard end.desk.base end.asked opaque end.streams (ring_of end) (sound_kept end sound) in
      record { apart = apart_heard end.streams sound.apart; rise = kept.rise; numbered = kept.numbered; turn = subst (λ n. end.turn ≤ n) (sym (long_heard end.streams)) sound.turn }

-- ---- streams that are the same ones

none_persist : (w : ℕ) (xs ys : List PlainStream) → AllPersist xs ys → NoneOf w xs → NoneOf w ys
none_persist w [] ys same none = subst (NoneOf w) (sym same) none
none_persist w (x ∷ xs) [] same none = absurd same
none_persist w (x ∷ xs) (y ∷ ys) ((id, vb, opaque, ends), same) none =
    All-cons (λ (o : PlainStream). o.vb ≢ w) y ys (λ is. All-head (λ (o : PlainStream). o.vb ≢ w) x xs none (sym vb ∙ is))
    (none_persist w xs ys same (All-tail (λ (o : PlainStream). o.vb ≢ w) x xs none))

apart_persist : (xs ys : List PlainStream) → AllPersist xs ys → AreOfOthers xs → AreOfOthers ys
apart_persist [] ys same apart = subst AreOfOthers (sym same) apart
apart_persist (x ∷ xs) [] same apart = absurd same
apart_persist (x ∷ xs) (y ∷ ys) ((id, vb, opaque, ends), same) (others, apart) = (
  subst (λ w. NoneOf w ys) (sym vb) (none_persist x.vb xs ys same others),
  apart_persist xs ys same apart,
)

pub sound_persists : (end : PlainProducer) (streams : List PlainStream) → AllPersist end.streams streams → IsSound end → IsSound (record end { streams = streams })
sound_persists end streams same sound =
    let kept = kept_persist end.desk.base end.asked end.streams streams (ring_of end) same (sound_kept end sound) in
    record { apart = apart_persist end.streams streams same sound.apart; rise = kept.rise; numbered = kept.numbered; turn = subst (λ n. end.turn ≤ n) (sym (persist_long end.streams streams same)) sound.turn }

-- ---- answers

sound_shaken : (end : PlainProducer) (h : Handshake) → IsSound end → IsSound (record end { handshake = h })
sound_shaken end h sound = record { apart = sound.apart; rise = sound.rise; numbered = sound.numbered; turn = sound.turn }

sound_window : (end : PlainProducer) (w : Window) → IsSound end → IsSound (record end { window = w })
sound_window end w sound = record { apart = sound.apart; rise = sound.rise; numbered = sound.numbered; turn = sound.turn }

module _ (f : Frame) (s : Served) (sound : IsSound s.end) where
  stays : Stays IsSound f s.end
  stays = record {
    same = sound;
    shaken = λ h. sound_shaken s.end h sound;
    window = λ w. sound_window s.end w sound;
    asked = sound_asked s.end sound;
    opened = λ ask sync from none. sound_opened s.end sound f ask sync from none;
    taken = λ is. sound_heard f.opaque s.end sound;
    without = λ stream there. sound_without s.end stream.id sound;
  }

  pub sound_answers : Always AnyCall AnswersSound (frame_answered f s)
  sound_answers = stays_answered IsSound f s stays

-- ---- pulls

module _ (k : ℕ) (s : Served) (sound : IsSound s.end) where
  ended_sound : (made : List Made) (left : Served) (halted : Halt) → Ends (Whole s) (Turns s) (StopsSo s) k made left halted → IsSound left.end
  ended_sound made left halted (ends_all p story same is) = subst (λ (t : Served). IsSound t.end) same story.sound
  ended_sound made left halted (ends_full n p low story shut same is) = subst (λ (t : Served). IsSound t.end) same story.sound
  ended_sound made left halted (ends_there n p low stopped same) = subst (λ (t : Served). IsSound t.end) same stopped.1.story.sound
  ended_sound made left halted (ends_quiet n p0 p low free turns same is) = subst (λ (t : Served). IsSound t.end) same turns.story.sound

  pulled_sound : (made : List Made) (r : Served × Halt) → ToldJob (frames_put k s) made r → PullsSound r
  pulled_sound made (left, halted) told = ended_sound made left halted (pulls s k made left halted sound told)

  pub sound_pulls : AlwaysJob AnyReply AnyCall IsRead PullsSound (frames_put k s)
  sound_pulls = always_told_job AnyCall IsRead (PullsPairs (IsOneOf AnyChange s.end.streams) k s) PullsSound (frames_put k s) (any_pairs k s) pulled_sound
