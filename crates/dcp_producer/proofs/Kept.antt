-- what a connection keeps of its streams: its ring has their numbers, which rise
use Rattle.std.proofs.Common.{◌≡◌, ℕ, zero, suc, ◌+◌, ◌-◌, ◌*◌, ◌^◌, ◌<◌, ◌≤◌, Bool, true, false, List, [], ◌∷◌, ◌++◌, map, length, get_or, refl, sym, ap, ◌∙◌, subst, cond, arith, Option, Some, None}
use Rattle.std.specs.Prelude.{if◌then◌else◌, ◌==◌, ◌&&◌, nat_lt, not, take, drop, slice_get, slice_set}
use Rattle.std.specs.List.{All, list_any, position, position_or_len, remove}
use Rattle.std.proofs.lemmas.Bool.Decides.{nat_tests}
use Rattle.std.proofs.lemmas.List.{length-append, length-take, length-drop, length_push}
use Rattle.std.proofs.lemmas.List.Elements.{All-nil, All-cons, All-head, All-tail, All-append, All-take, All-drop, All-push, All-weaker}
use Rattle.flow_control.specs.Rings.{PlainRing, IsRing, without, closed, opened}
use Rattle.dcp_producer.specs.Producers.{PlainStream, PlainProducer, replaced, with_opened, without_place, without_id, without_stream, Rising, IsKept}
use Rattle.dcp_producer.specs.Ending.{ended_in}
use Rattle.dcp_producer.specs.Serving.{heard, with_source, with_source_at}
use Rattle.vb_types.specs.declared.stream.Place.{Place}
use Rattle.std.specs.Option.{option_map}
use Rattle.takeover.specs.GivingUp.{answered}

abbrev pub ids_of : List PlainStream → List ℕ
ids_of streams = map (λ stream. stream.id) streams

-- what holds of the numbers of all holds of all their numbers, and the other way
pub of_ids : (P : ℕ → Type 0) (streams : List PlainStream) → All P (ids_of streams) → All (λ stream. P stream.id) streams
of_ids P [] h = All-nil (λ stream. P stream.id)
of_ids P (s ∷ more) h = All-cons (λ stream. P stream.id) s more (All-head P s.id (ids_of more) h) (of_ids P more (All-tail P s.id (ids_of more) h))

pub to_ids : (P : ℕ → Type 0) (streams : List PlainStream) → All (λ stream. P stream.id) streams → All P (ids_of streams)
to_ids P [] h = All-nil P
to_ids P (s ∷ more) h = All-cons P s.id (ids_of more) (All-head (λ stream. P stream.id) s more h) (to_ids P more (All-tail (λ stream. P stream.id) s more h))

-- each number is greater than those before
abbrev pub Up : List ℕ → Type 0
Up [] = Unit {0}
Up (n ∷ ns) = All (λ m. n < m) ns × Up ns

pub rising_up : (streams : List PlainStream) → Rising streams → Up (ids_of streams)
rising_up [] rise = tt
rising_up (s ∷ more) rise = (to_ids (λ m. s.id < m) more rise.0, rising_up more rise.1)

pub up_rising : (streams : List PlainStream) → Up (ids_of streams) → Rising streams
up_rising [] up = tt
up_rising (s ∷ more) up = (of_ids (λ m. s.id < m) more up.0, up_rising more up.1)

pub map_less : {X Y : Type 0} (f : X → Y) (xs : List X) (at : ℕ) → map f (remove xs at) ≡ remove (map f xs) at
map_less f [] zero = refl
map_less f [] (suc at) = refl
map_less f (x ∷ xs) zero = refl
map_less f (x ∷ xs) (suc at) = ap (λ ys. f x ∷ ys) (map_less f xs at)

module _ (base asked : ℕ) where
  abbrev Low : ℕ → Type 0
  Low n = n ≤ base * 2 ^ 32 + asked

  -- what is kept of the numbers alone
  kept_by : (streams : List PlainStream) (ring : PlainRing) → ring.ids ≡ ids_of streams → Up (ids_of streams) → All Low (ids_of streams) → IsRing ring → IsKept base asked streams ring
  kept_by streams ring ids up low turn = record { ids = ids; rise = up_rising streams up; numbered = of_ids Low streams low; turn = turn }

  -- other streams of the same numbers
  pub kept_same : (streams streams' : List PlainStream) (ring : PlainRing) → ids_of streams' ≡ ids_of streams → IsKept base asked streams ring → IsKept base asked streams' ring
  kept_same streams streams' ring same kept =
      kept_by streams' ring (kept.ids ∙ sym same) (subst Up (sym same) (rising_up streams kept.rise)) (subst (All Low) (sym same) (to_ids Low streams kept.numbered)) kept.turn

  -- one more
  up_more : (ns : List ℕ) (n : ℕ) → Up ns → All (λ m. m < n) ns → Up (ns ++ n ∷ [])
  up_more [] n up below = (All-nil (λ m. n < m), tt)
  up_more (m ∷ ns) n up below =
      (All-push (λ o. m < o) ns n up.0 (All-head (λ o. o < n) m ns below), up_more ns n up.1 (All-tail (λ o. o < n) m ns below))

  ids_more : (streams : List PlainStream) (stream : PlainStream) → ids_of (streams ++ stream ∷ []) ≡ ids_of streams ++ stream.id ∷ []
  ids_more [] stream = refl
  ids_more (s ∷ more) stream = ap (λ ns. s.id ∷ ns) (ids_more more stream)

  pub kept_more : (streams : List PlainStream) (ring : PlainRing) (stream : PlainStream) → All (λ other. other.id < stream.id) streams → stream.id ≤ base * 2 ^ 32 + asked
      → IsKept base asked streams ring → IsKept base asked (streams ++ stream ∷ []) (opened stream.id ring)
  kept_more streams ring stream below low kept =
      let ids : ids_of (streams ++ stream ∷ []) ≡ ids_of streams ++ stream.id ∷ [] = ids_more streams stream in
      kept_by (streams ++ stream ∷ []) (opened stream.id ring) (ap (λ ns. ns ++ stream.id ∷ []) kept.ids ∙ sym ids)
      (subst Up (sym ids) (up_more (ids_of streams) stream.id (rising_up streams kept.rise) (to_ids (λ m. m < stream.id) streams below)))
      (subst (All Low) (sym ids) (All-push Low (ids_of streams) stream.id (to_ids Low streams kept.numbered) low))
      (let turn = kept.turn in omega (arith, turn, length_push ring.ids stream.id))

  -- one less
  all_less : (P : ℕ → Type 0) (ns : List ℕ) (at : ℕ) → All P ns → All P (remove ns at)
  all_less P ns at all = All-append P (take at ns) (drop (suc at) ns) (All-take P at ns all) (All-drop P (suc at) ns all)

  up_less : (ns : List ℕ) (at : ℕ) → Up ns → Up (remove ns at)
  up_less [] zero up = tt
  up_less [] (suc at) up = tt
  up_less (n ∷ ns) zero up = up.1
  up_less (n ∷ ns) (suc at) up = (all_less (λ m. n < m) ns at up.0, up_less ns at up.1)

  ring_less : (ring : PlainRing) (at : ℕ) (b : Bool) → nat_lt at ring.turn ≡ b → IsRing ring → (if b then ring.turn - 1 else ring.turn) ≤ length (take at ring.ids ++ drop (at + 1) ring.ids)
  ring_less ring at true e turn =
      let low : at < ring.turn = grind (arith, nat_tests) in
      omega (arith, turn, low, length-append (take at ring.ids) (drop (at + 1) ring.ids), length-take at ring.ids, length-drop (at + 1) ring.ids)
  ring_less ring at false e turn =
      let past : ring.turn ≤ at = grind (arith, nat_tests) in
      omega (arith, turn, past, length-append (take at ring.ids) (drop (at + 1) ring.ids), length-take at ring.ids, length-drop (at + 1) ring.ids)

  kept_place : (streams : List PlainStream) (ring : PlainRing) (at : Option ℕ) → IsKept base asked streams ring → IsKept base asked (without_place at streams) (without at ring)
  kept_place streams ring None kept = kept
  kept_place streams ring (Some at) kept =
      let ids : ids_of (remove streams at) ≡ remove (ids_of streams) at = map_less (λ s. s.id) streams at in
      let next : at + 1 ≡ suc at = omega arith in
      kept_by (remove streams at) (without (Some at) ring) (ap (λ n. take at ring.ids ++ drop n ring.ids) next ∙ ap (λ ns. remove ns at) kept.ids ∙ sym ids)
      (subst Up (sym ids) (up_less (ids_of streams) at (rising_up streams kept.rise)))
      (subst (All Low) (sym ids) (all_less Low (ids_of streams) at (to_ids Low streams kept.numbered)))
      (ring_less ring at (nat_lt at ring.turn) refl kept.turn)

-- where a number stands among them, it stands among the streams
first_same : (id : ℕ) (streams : List PlainStream) → position_or_len (λ other. other == id) (ids_of streams) ≡ position_or_len (λ stream. stream.id == id) streams
first_same id [] = refl
first_same id (s ∷ more) = ap (λ n. cond (not (s.id == id)) (1 + n) 0) (first_same id more)

long_same : (streams : List PlainStream) → length (ids_of streams) ≡ length streams
long_same [] = refl
long_same (s ∷ more) = ap suc (long_same more)

pub place_same : (id : ℕ) (streams : List PlainStream) → position (λ other. other == id) (ids_of streams) ≡ position (λ stream. stream.id == id) streams
place_same id streams =
    ap (λ n. cond (nat_lt n (length (ids_of streams))) (Some n) None) (first_same id streams)
    ∙ ap (λ n. cond (nat_lt (position_or_len (λ stream. stream.id == id) streams) n) (Some (position_or_len (λ stream. stream.id == id) streams)) None) (long_same streams)

pub kept_less : (base asked id : ℕ) (streams : List PlainStream) (ring : PlainRing) → IsKept base asked streams ring → IsKept base asked (without_id id streams) (closed id ring)
kept_less base asked id streams ring kept =
    let at : position (λ other. other == id) ring.ids ≡ position (λ stream. stream.id == id) streams = ap (position (λ other. other == id)) kept.ids ∙ place_same id streams in
    subst (λ o. IsKept base asked (without_id id streams) (without o ring)) (sym at) (kept_place base asked streams ring (position (λ stream. stream.id == id) streams) kept)

-- a change of role gives no stream another number
ended_id : (s : PlainStream) (b : Bool) → (if b then record s { ended = true } else s).id ≡ s.id
ended_id s true = refl
ended_id s false = refl

ended_ids : (v : ℕ) (ids : List ℕ) (streams : List PlainStream) → ids_of (map (ended_in v ids) streams) ≡ ids_of streams
ended_ids v ids [] = refl
ended_ids v ids (s ∷ more) = λ i. ended_id s (s.vb == v && list_any (λ n. n == s.id) ids) i ∷ ended_ids v ids more i

pub kept_ended : (base asked v : ℕ) (ids : List ℕ) (streams : List PlainStream) (ring : PlainRing) → IsKept base asked streams ring → IsKept base asked (map (ended_in v ids) streams) ring
kept_ended base asked v ids streams ring kept = kept_same base asked streams (map (ended_in v ids) streams) ring (ended_ids v ids streams) kept

-- a stream in the place of one of its number
set_ids : (streams : List PlainStream) (at : ℕ) (stream stream' : PlainStream) → stream ≡ get_or streams at stream → stream'.id ≡ stream.id → ids_of (slice_set streams at stream') ≡ ids_of streams
set_ids [] at stream stream' there same = refl
set_ids (s ∷ more) zero stream stream' there same = ap (λ n. n ∷ ids_of more) (same ∙ ap (λ t. t.id) there)
set_ids (s ∷ more) (suc at) stream stream' there same = ap (λ ns. s.id ∷ ns) (set_ids more at stream stream' there same)

pub kept_set : (base asked : ℕ) (streams : List PlainStream) (ring : PlainRing) (at : ℕ) (stream stream' : PlainStream) → stream ≡ get_or streams at stream → stream'.id ≡ stream.id
    → IsKept base asked streams ring → IsKept base asked (slice_set streams at stream') ring
kept_set base asked streams ring at stream stream' there same kept =
    kept_same base asked streams (slice_set streams at stream') ring (set_ids streams at stream stream' there same) kept

-- the one that stands at a place
pub stands : (streams : List PlainStream) (at : ℕ) (x stream : PlainStream) → x ≡ get_or streams at x → slice_get streams at ≡ Some stream → x ≡ stream
stands [] at x stream there is = absurd (cc is)
stands (s ∷ more) zero x stream there is = let e : s ≡ stream = cc is in there ∙ e
stands (s ∷ more) (suc at) x stream there is = stands more at x stream there is

-- a stream that goes on stands where it stood
unequal : (x y : ℕ) → y < x → (x == y) ≡ false
unequal x y h = grind (arith, nat_tests)

below : (x y : ℕ) → x < y → (x == y) ≡ false
below x y h = grind (arith, nat_tests)

equal : (x y : ℕ) → x ≡ y → (x == y) ≡ true
equal x y h = grind (arith, nat_tests)

none_replaced : (stream : PlainStream) (streams : List PlainStream) → All (λ other. stream.id < other.id) streams → replaced stream streams ≡ streams
none_replaced stream [] above = refl
none_replaced stream (s ∷ more) above =
    ap (λ b. (if b then stream else s) ∷ replaced stream more) (unequal s.id stream.id (All-head (λ other. stream.id < other.id) s more above))
    ∙ ap (λ l. s ∷ l) (none_replaced stream more (All-tail (λ other. stream.id < other.id) s more above))

among : (n : ℕ) (streams : List PlainStream) (at : ℕ) (stream : PlainStream) → All (λ other. n < other.id) streams → slice_get streams at ≡ Some stream → n < stream.id
among n [] at stream above is = absurd (cc is)
among n (s ∷ more) zero stream above is = let e : s ≡ stream = cc is in subst (λ t. n < t.id) e (All-head (λ other. n < other.id) s more above)
among n (s ∷ more) (suc at) stream above is = among n more at stream (All-tail (λ other. n < other.id) s more above) is

pub replaced_set : (streams : List PlainStream) (at : ℕ) (stream stream' : PlainStream) → Rising streams → slice_get streams at ≡ Some stream → stream'.id ≡ stream.id → replaced stream' streams ≡ slice_set streams at stream'
replaced_set [] at stream stream' rise is same = absurd (cc is)
replaced_set (s ∷ more) zero stream stream' rise is same =
    let e : s ≡ stream = cc is in
    let here : s.id ≡ stream'.id = ap (λ t. t.id) e ∙ sym same in
    ap (λ b. (if b then stream' else s) ∷ replaced stream' more) (equal s.id stream'.id here)
    ∙ ap (λ l. stream' ∷ l) (none_replaced stream' more (subst (λ n. All (λ other. n < other.id) more) here rise.0))
replaced_set (s ∷ more) (suc at) stream stream' rise is same =
    let lower : s.id < stream'.id = subst (λ n. s.id < n) (sym same) (among s.id more at stream rise.0 is) in
    ap (λ b. (if b then stream' else s) ∷ replaced stream' more) (below s.id stream'.id lower)
    ∙ ap (λ l. s ∷ l) (replaced_set more at stream stream' rise.1 is same)

pub get_set : {X : Type 0} (xs : List X) (at : ℕ) (x : X) → at < length xs → slice_get (slice_set xs at x) at ≡ Some x
get_set [] at x low = absurd (omega arith)
get_set (y ∷ xs) zero x low = refl
get_set (y ∷ xs) (suc at) x low = get_set xs at x (omega arith)

-- the one that was listed last stands at the end, and without it the connection is as it was
first_last : (id : ℕ) (streams : List PlainStream) (stream : PlainStream) → stream.id ≡ id → All (λ other. other.id < id) streams
    → position_or_len (λ other. other.id == id) (streams ++ stream ∷ []) ≡ length streams
first_last id [] stream is lower = ap (λ b. cond (not b) (1 + 0) 0) (equal stream.id id is)
first_last id (s ∷ more) stream is lower =
    ap (λ b. cond (not b) (1 + position_or_len (λ other. other.id == id) (more ++ stream ∷ [])) 0) (below s.id id (All-head (λ other. other.id < id) s more lower))
    ∙ (let rest = first_last id more stream is (All-tail (λ other. other.id < id) s more lower) in omega (arith, rest))

remove_last : (streams : List PlainStream) (stream : PlainStream) → remove (streams ++ stream ∷ []) (length streams) ≡ streams
remove_last [] stream = refl
remove_last (s ∷ more) stream = ap (λ l. s ∷ l) (remove_last more stream)

last_place : (id : ℕ) (streams : List PlainStream) (stream : PlainStream) → stream.id ≡ id → All (λ other. other.id < id) streams
    → position (λ other. other.id == id) (streams ++ stream ∷ []) ≡ Some (length streams)
last_place id streams stream is lower =
    let long = length_push streams stream in
    let low : nat_lt (length streams) (length (streams ++ stream ∷ [])) ≡ true = grind (arith, nat_tests) in
    ap (λ n. cond (nat_lt n (length (streams ++ stream ∷ []))) (Some n) None) (first_last id streams stream is lower)
    ∙ ap (λ b. cond b (Some (length streams)) None) low

pub dropped_back : (end : PlainProducer) (ring : PlainRing) (id : ℕ) (stream : PlainStream) → stream.id ≡ id → id ≡ end.desk.base * 2 ^ 32 + (end.asked + 1) → ring.turn ≡ end.turn
    → IsKept end.desk.base end.asked end.streams ring → without_stream id (with_opened stream (record end { asked = end.asked + 1 })) ≡ record end { asked = end.asked + 1 }
dropped_back end ring id stream is next turn kept =
    let lower : All (λ other. other.id < id) end.streams = All-weaker (λ other. other.id ≤ end.desk.base * 2 ^ 32 + end.asked) (λ other. other.id < id) (λ other low. omega (arith, low, next)) end.streams kept.numbered in
    let there : position (λ other. other.id == id) (end.streams ++ stream ∷ []) ≡ Some (length end.streams) = last_place id end.streams stream is lower in
    let ringed : position (λ other. other == id) (ids_of (end.streams ++ stream ∷ [])) ≡ Some (length end.streams) = place_same id (end.streams ++ stream ∷ []) ∙ there in
    let long : length ring.ids ≡ length end.streams = ap length kept.ids ∙ long_same end.streams in
    let last = kept.turn in
    let stays : nat_lt (length end.streams) end.turn ≡ false = grind (arith, nat_tests) in
    let streams : without_id id (end.streams ++ stream ∷ []) ≡ end.streams = ap (λ o. without_place o (end.streams ++ stream ∷ [])) there ∙ remove_last end.streams stream in
    let turn' : (closed id (record { ids = ids_of (end.streams ++ stream ∷ []); turn = end.turn })).turn ≡ end.turn =
    ap (λ o. (without o (record { ids = ids_of (end.streams ++ stream ∷ []); turn = end.turn })).turn) ringed ∙ ap (λ b. if b then end.turn - 1 else end.turn) stays in
    λ i. record end { asked = end.asked + 1; streams = streams i; turn = turn' i }

-- an answer gives no stream another number
heard_id : (opaque : ℕ) (s : PlainStream) (b : Bool) → (if b then record s { gives = option_map answered s.gives } else s).id ≡ s.id
heard_id opaque s true = refl
heard_id opaque s false = refl

pub heard_ids : (opaque : ℕ) (streams : List PlainStream) → ids_of (map (heard opaque) streams) ≡ ids_of streams
heard_ids opaque [] = refl
heard_ids opaque (s ∷ more) = λ i. heard_id opaque s (s.opaque == opaque) i ∷ heard_ids opaque more i

pub kept_heard : (base asked opaque : ℕ) (streams : List PlainStream) (ring : PlainRing) → IsKept base asked streams ring → IsKept base asked (map (heard opaque) streams) ring
kept_heard base asked opaque streams ring kept = kept_same base asked streams (map (heard opaque) streams) ring (heard_ids opaque streams) kept

-- where its first changes come from gives no stream another number
source_id : (from : Place) (s : PlainStream) (b : Bool) → (if b then with_source from s else s).id ≡ s.id
source_id from s true = refl
source_id from s false = refl

sourced_ids : (from : Place) (id : ℕ) (streams : List PlainStream) → ids_of (map (with_source_at from id) streams) ≡ ids_of streams
sourced_ids from id [] = refl
sourced_ids from id (s ∷ more) = λ i. source_id from s (s.id == id) i ∷ sourced_ids from id more i

pub kept_sourced : (base asked : ℕ) (from : Place) (id : ℕ) (streams : List PlainStream) (ring : PlainRing) → IsKept base asked streams ring → IsKept base asked (map (with_source_at from id) streams) ring
kept_sourced base asked from id streams ring kept = kept_same base asked streams (map (with_source_at from id) streams) ring (sourced_ids from id streams) kept

-- it is known of the one that was listed last alone
source_last : (from : Place) (id : ℕ) (streams : List PlainStream) (stream : PlainStream) → stream.id ≡ id → All (λ other. other.id < id) streams
    → map (with_source_at from id) (streams ++ stream ∷ []) ≡ streams ++ with_source from stream ∷ []
source_last from id [] stream is lower = ap (λ b. (if b then with_source from stream else stream) ∷ []) (equal stream.id id is)
source_last from id (s ∷ more) stream is lower =
    ap (λ b. (if b then with_source from s else s) ∷ map (with_source_at from id) (more ++ stream ∷ [])) (below s.id id (All-head (λ other. other.id < id) s more lower))
    ∙ ap (λ l. s ∷ l) (source_last from id more stream is (All-tail (λ other. other.id < id) s more lower))

pub sourced_behind : (end : PlainProducer) (ring : PlainRing) (from : Place) (id : ℕ) (stream : PlainStream) → stream.id ≡ id → id ≡ end.desk.base * 2 ^ 32 + (end.asked + 1)
    → IsKept end.desk.base end.asked end.streams ring → map (with_source_at from id) (end.streams ++ stream ∷ []) ≡ end.streams ++ with_source from stream ∷ []
sourced_behind end ring from id stream is next kept =
    source_last from id end.streams stream is (All-weaker (λ other. other.id ≤ end.desk.base * 2 ^ 32 + end.asked) (λ other. other.id < id) (λ other low. omega (arith, low, next)) end.streams kept.numbered)
