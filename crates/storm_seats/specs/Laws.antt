-- what holds of the seats of a storm, here of plain vBuckets
use Rattle.std.specs.Prelude.{◌≡◌, ℕ, ◌+◌, true, List, [], ◌++◌, ◌∷◌, length}
use Rattle.vb_types.specs.Images.{Picture}
use Rattle.vb_calls.specs.declared.calls.VbCall.{VbCall}
use Rattle.vb_calls.specs.declared.calls.VbReply.{VbReply}
use Rattle.vb_calls.specs.Plain.{Plain, plain_step}
use Rattle.vb_turn.specs.Seats.{Called, Gathered}
use Rattle.vb_turn.specs.Turning.{right}
use Rattle.vb_turn.specs.declared.view.View.{View}
use Rattle.storm_model.specs.Histories.{IsStormed, stores}
use Rattle.storm_model.specs.Limits.{is_storm}
use Rattle.storm_model.specs.Sums.{in_turn, line_of, read, storm_vb}
use Rattle.storm_model.specs.Writes.{writes_of}
use Rattle.storm_seats.specs.Draining.{IsStill, ReadBy, took}
use Rattle.storm_seats.specs.Gathering.{Gathers, Stormed}
use Rattle.storm_seats.specs.Views.{Entry, Knows, StandsAt, Wrote, openings}

-- a plain vBucket, of which it is known what it is
abbrev pub Is : Plain → Plain → Type 0
Is object vb = object ≡ vb

abbrev pub last : Plain → ℕ
last vb = vb.position.at

-- what the seat of a plain vBucket knows
abbrev pub Seat : Type 0
Seat = View Plain Entry

-- a seat that has all parts and made all calls is answered as the vBucket that it knows answers
abbrev pub LoneSeatsAreAnswered : Type 0
LoneSeatsAreAnswered =
    (x y : Seat) (vb : Plain) (c : VbCall) (reply : VbReply) → StandsAt Is x vb → Called Is plain_step last x (c, reply) y
    → (reply ≡ (plain_step vb c).1) × StandsAt Is y (plain_step vb c).0

-- A seat that took one client's seat in has that client's part behind those before. Once it has taken in all, it has the storm's history; behind it the vBucket is the one that the writes leave, and its line is that of the clients one after the other
pub record SeatsGather (seed clients writes v : ℕ) : Type 0 where
  pub next : (out : ℕ) (parts : List (List (ℕ × Entry))) (x given u w : Seat) → Gathers Is seed writes v (out + 1) parts x
      → Knows Is v given → given.seen ≡ openings v → given.mine ≡ [] → given.parts ≡ 1 → Wrote Is (writes_of seed (length parts) writes v) given u → Gathered x u w
      → (part : List (ℕ × Entry)) × Gathers Is seed writes v out (parts ++ part ∷ []) w
  pub all : (parts : List (List (ℕ × Entry))) (x : Seat) → Gathers Is seed writes v 0 parts x → length parts ≡ clients → Stormed Is seed clients writes v x
  pub stands : (x : Seat) (s : Stormed Is seed clients writes v x) → StandsAt Is x (storm_vb v (stores s.rest))
  pub line : (x : Seat) (s : Stormed Is seed clients writes v x) → line_of (storm_vb v (stores s.rest)) ≡ line_of (storm_vb v (in_turn seed clients writes v))

-- a reader that found nothing finds nothing, and what one reader takes is the same once the other has read
pub record ReadersEnd : Type 0 where
  pub still : (k id : ℕ) (vb : Plain) (image : Picture) → IsStill id vb → read k id vb image ≡ image
  pub more : (id : ℕ) (a b : Plain) → ReadBy id a b → ReadBy id a (took id b)
  pub same : (id other k : ℕ) (a b : Plain) (image : Picture) → ReadBy other a b → (id ≡ other → ⊥) → read k id b image ≡ read k id a image

-- there is a history of each storm: that of the clients one after the other
abbrev pub StormsHappen : ℕ → ℕ → ℕ → ℕ → Type 0
StormsHappen seed clients writes v = (log : List Entry) × IsStormed seed clients writes v log × (stores log ≡ in_turn seed clients writes v)
