-- a stream that is given a cursor, or moves on: it is found as before, and asked once more nothing changes
use Rattle.std.proofs.Common.{◌≡◌, ◌≢◌, ℕ, Bool, true, false, cond, List, [], ◌∷◌, map, refl, sym, ap, ◌∙◌, Option, Some, None}
use Rattle.std.specs.Prelude.{◌==◌, if◌then◌else◌, option_map}
use Rattle.std.specs.List.{find}
use Rattle.std.proofs.lemmas.Bool.{eqb-true, eq-eqb, false_from_ne_true}
use Rattle.vb_types.specs.declared.stream.Place.TheVariants.{Memory}
use Rattle.vb_calls.specs.declared.calls.VbCall.TheVariants as call
use Rattle.vb_calls.specs.declared.calls.VbReply.{VbReply}
use Rattle.vb_calls.specs.declared.stream.Stream.{Stream}
use Rattle.vb_calls.specs.Plain.{Plain}
use Rattle.vb_calls.specs.States.{States, call_at, states_step, with_vb_at}
use Rattle.vb_calls.specs.Streams.{given_cursor, is_in_memory, moved_on, place_from, place_row, place_reply, placed_by, stream_at, with_cursor_as}

-- the stream of a number has it
pub found_id : (id : ℕ) (ss : List Stream) (s : Stream) → stream_at id ss ≡ Some s → s.id ≡ id
found_id id [] s e = absurd (cc e)
found_id id (x ∷ xs) s e = by (x.id == id) refl e (found_id id xs s)
  where
    by : (b : Bool) → (x.id == id) ≡ b → cond b (Some x) (stream_at id xs) ≡ Some s → (stream_at id xs ≡ Some s → s.id ≡ id) → s.id ≡ id
    by true t f more = let same : x ≡ s = cc f in ap (λ (y : Stream). y.id) (sym same) ∙ eqb-true x.id id t
    by false t f more = more f

-- streams that are changed and keep their numbers are found by these
pub changed_at : (f : Stream → Stream) → ((s : Stream) → (f s).id ≡ s.id) → (id : ℕ) (ss : List Stream) → stream_at id (map f ss) ≡ option_map f (stream_at id ss)
changed_at f keeps id [] = refl
changed_at f keeps id (s ∷ ss) = ap (λ n. cond (n == id) (Some (f s)) (stream_at id (map f ss))) (keeps s) ∙ by (s.id == id) (changed_at f keeps id ss)
  where
    by : (b : Bool) → stream_at id (map f ss) ≡ option_map f (stream_at id ss) → cond b (Some (f s)) (stream_at id (map f ss)) ≡ option_map f (cond b (Some s) (stream_at id ss))
    by true more = refl
    by false more = more

-- one that moves on keeps its number
pub moved_id : (i e : ℕ) (s : Stream) → (moved_on i e s).id ≡ s.id
moved_id i e s = by (s.id == i)
  where
    by : (b : Bool) → Stream.id (if b then record { id = s.id; ask = s.ask; sync = s.sync; place = e; cursor = s.cursor; taken = true } else s) ≡ s.id
    by true = refl
    by false = refl

-- a stream with a cursor
abbrev pub with_cursor : Stream → Stream
with_cursor s = record { id = s.id; ask = s.ask; sync = s.sync; place = s.place; cursor = true; taken = s.taken }

-- one that is given a cursor, or loses it
pub cursor_id : (has : Bool) (i : ℕ) (s : Stream) → (with_cursor_as has i s).id ≡ s.id
cursor_id has i s = by (s.id == i)
  where
    by : (b : Bool) → Stream.id (if b then record { id = s.id; ask = s.ask; sync = s.sync; place = s.place; cursor = has; taken = s.taken } else s) ≡ s.id
    by true = refl
    by false = refl

pub given_id : (i : ℕ) (s : Stream) → (given_cursor i s).id ≡ s.id
given_id i s = cursor_id true i s

pub given_here : (id : ℕ) (ss : List Stream) (s : Stream) → stream_at id ss ≡ Some s → stream_at id (map (given_cursor id) ss) ≡ Some (with_cursor s)
given_here id ss s e =
    changed_at (given_cursor id) (given_id id) id ss ∙ ap (option_map (given_cursor id)) e
    ∙ ap (λ b. Some (if b then with_cursor s else s)) (eq-eqb s.id id (found_id id ss s e))

pub given_there : (id y : ℕ) (ss : List Stream) → y ≢ id → stream_at y (map (given_cursor id) ss) ≡ stream_at y ss
given_there id y ss ne = changed_at (given_cursor id) (given_id id) y ss ∙ by (stream_at y ss) refl
  where
    by : (o : Option Stream) → stream_at y ss ≡ o → option_map (given_cursor id) o ≡ o
    by None e = refl
    by (Some s) e = ap (λ b. Some (if b then with_cursor s else s)) (false_from_ne_true (s.id == id) (λ t. ne (sym (found_id y ss s e) ∙ eqb-true s.id id t)))

-- asked where its changes come from once more, a stream changes nothing, and is told the same
pub placed_again : (vb : Plain) (id : ℕ) → place_row (place_row vb id).0 id ≡ place_row vb id
placed_again vb id = by (stream_at id vb.streams) refl
  where
    known : (o : Option Stream) → stream_at id vb.streams ≡ o → place_row vb id ≡ place_from o vb
    known o e = ap (λ x. place_from x vb) e

    given : (s : Stream) → stream_at id vb.streams ≡ Some s → (c m : Bool) → s.cursor ≡ c → is_in_memory vb s.place ≡ m → place_row (placed_by c m s vb).0 id ≡ placed_by c m s vb
    given s e true m has at = known (Some s) e ∙ ap (λ b. placed_by b (is_in_memory vb s.place) s vb) has
    given s e false false has at = known (Some s) e ∙ (λ i. placed_by (has i) (at i) s vb)
    given s e false true has at =
        let vb' : Plain = record vb { streams = map (given_cursor s.id) vb.streams } in
        let own : s.id ≡ id = found_id id vb.streams s e in
        ap (λ x. place_from x vb')
        (ap (λ n. stream_at id (map (given_cursor n) vb.streams)) own ∙ given_here id vb.streams s e)

    by : (o : Option Stream) → stream_at id vb.streams ≡ o → place_row (place_row vb id).0 id ≡ place_row vb id
    by None e = ap (λ (x : Plain × VbReply). place_row x.0 id) (known None e) ∙ ap (λ x. place_from x vb) e ∙ sym (known None e)
    by (Some s) e =
        ap (λ (x : Plain × VbReply). place_row x.0 id) (known (Some s) e)
        ∙ given s e s.cursor (is_in_memory vb s.place) refl refl
        ∙ sym (known (Some s) e)

-- a vBucket that is put where it stands
pub with_itself : (states : States) (v : ℕ) (vb : Plain) → states v ≡ Some vb → with_vb_at states v vb ≡ states
with_itself states v vb is = λ i w. by w (w == v) refl i
  where
    by : (w : ℕ) (b : Bool) → (w == v) ≡ b → (if b then Some vb else states w) ≡ states w
    by w true e = sym is ∙ ap states (sym (eqb-true w v e))
    by w false e = refl

-- the same of the vBuckets of a node
pub place_again : (states : States) (v id : ℕ) → states_step (states_step states v (call.Place id)).0 v (call.Place id) ≡ states_step states v (call.Place id)
place_again states v id = by (states v) refl
  where
    by : (o : Option Plain) → states v ≡ o → states_step (call_at states v (call.Place id) o).0 v (call.Place id) ≡ call_at states v (call.Place id) o
    by None there = ap (call_at states v (call.Place id)) there
    by (Some vb) there =
        let r : Plain × VbReply = place_row vb id in
        let now : States = with_vb_at states v r.0 in
        let stands : now v ≡ Some r.0 = ap (λ b. if b then Some r.0 else states v) (eq-eqb v v refl) in
        ap (call_at now v (call.Place id)) stands
        ∙ (λ i. (with_vb_at now v (placed_again vb id i).0, Some (placed_again vb id i).1))
        ∙ ap (λ (s : States). (s, Some r.1)) (with_itself now v r.0 stands)

-- where a stream without a cursor is given one, and all else is as it was
module _ (states : States) (v id : ℕ) (vb : Plain) (s : Stream) (there : states v ≡ Some vb) (found : stream_at id vb.streams ≡ Some s) (none : s.cursor ≡ false) (near : is_in_memory vb s.place ≡ true) where
  abbrev pub given : Plain
  given = record vb { streams = map (given_cursor id) vb.streams }

  given_row : place_row vb id ≡ (given, place_reply Memory)
  given_row =
      ap (λ o. place_from o vb) found ∙ (λ i. placed_by (none i) (near i) s vb)
      ∙ ap (λ n. (record vb { streams = map (given_cursor n) vb.streams }, place_reply Memory)) (found_id id vb.streams s found)

  given_step : states_step states v (call.Place id) ≡ (with_vb_at states v given, Some (place_reply Memory))
  given_step = ap (call_at states v (call.Place id)) there ∙ (λ i. (with_vb_at states v (given_row i).0, Some (given_row i).1))

  -- it may be asked behind that as before it
  pub given_again : states_step (with_vb_at states v given) v (call.Place id) ≡ states_step states v (call.Place id)
  given_again = ap (λ (x : States × Option VbReply). states_step x.0 v (call.Place id)) (sym given_step) ∙ place_again states v id
