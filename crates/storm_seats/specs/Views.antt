-- what a seat of a storm's vBucket has seen and done
use Rattle.std.specs.Prelude.{◌≡◌, ℕ, suc, ◌+◌, ◌≤◌, false, List, [], ◌∷◌, ◌++◌, length, map, Some}
use Rattle.std.specs.List.{filter}
use mathlib.Core.List.{IsPrefix}
use Rattle.vb_types.specs.declared.write.Write.{Write}
use Rattle.vb_calls.specs.declared.calls.VbCall.{VbCall}
use Rattle.vb_calls.specs.declared.calls.VbCall.TheVariants as call
use Rattle.vb_calls.specs.declared.calls.VbReply.{VbReply}
use Rattle.vb_calls.specs.Plain.{Plain, plain_step}
use Rattle.vb_turn.specs.History.{after, Legal}
use Rattle.vb_turn.specs.Turning.{all_parts}
use Rattle.vb_turn.specs.declared.view.View.{View}
use Rattle.storm_model.specs.Sums.{from_start, storm_new}

-- a call with its reply
abbrev pub Entry : Type 0
Entry = VbCall × VbReply

-- a reader asks for its stream
abbrev pub reader_opens : ℕ → VbCall
reader_opens id = call.OpenStream id from_start false

-- vBucket v is asked for the streams of both readers
abbrev pub opens_first : ℕ → Entry
opens_first v = (reader_opens 1, (plain_step (storm_new v) (reader_opens 1)).1)

abbrev pub opens_second : ℕ → Entry
opens_second v = (reader_opens 2, (plain_step (plain_step (storm_new v) (reader_opens 1)).0 (reader_opens 2)).1)

-- how the history of vBucket v begins
abbrev pub openings : ℕ → List Entry
openings v = opens_first v ∷ opens_second v ∷ []

-- these calls, at their places
abbrev pub placed_openings : ℕ → List (ℕ × Entry)
placed_openings v = (0, opens_first v) ∷ (1, opens_second v) ∷ []

-- the places rise from this one on, and lie below that one
abbrev pub RisingTo : ℕ → List (ℕ × Entry) → ℕ → Type 0
RisingTo from [] to = from ≤ to
RisingTo from (m ∷ ms) to = (from ≤ m.0) × RisingTo (suc m.0) ms to

-- the calls are Stores of these writes at clock 0, in their order
abbrev pub AreStoresOf : List Write → List (ℕ × Entry) → Type 0
AreStoresOf ws part = map (λ m. m.1.0) part ≡ map (λ w. call.Store w 0) ws

module _ {M : Type 0} (stands : M → Plain → Type 0) where
  -- Behind all that it had done, the seat stored these writes, in their order, at rising places behind all that it had seen. What it has seen begins with what it had, and is legal where that was
  pub record Wrote (ws : List Write) (x y : View M Entry) : Type 0 where
    pub part : List (ℕ × Entry)
    pub mine : y.mine ≡ x.mine ++ part
    pub rising : RisingTo (length x.seen) part (length y.seen)
    pub stores : AreStoresOf ws part
    pub front : IsPrefix x.seen y.seen
    pub legal : (o : M) → x.opening ≡ Some o → (s : Plain) → stands o s → Legal plain_step s x.seen → Legal plain_step s y.seen
    pub same : (y.opening ≡ x.opening) × (y.parts ≡ x.parts)

  -- the object stood for vBucket v as it was made, and what the seat has seen is a legal history from there on
  pub record Knows (v : ℕ) (view : View M Entry) : Type 0 where
    pub object : M
    pub opening : view.opening ≡ Some object
    pub stood : stands object (storm_new v)
    pub front : IsPrefix (openings v) view.seen
    pub legal : Legal plain_step (storm_new v) view.seen

  -- the seat has all parts, has made each call that was made, and has seen all of them; behind these the vBucket is this one
  pub record StandsAt (view : View M Entry) (vb : Plain) : Type 0 where
    pub object : M
    pub start : Plain
    pub opening : view.opening ≡ Some object
    pub stood : stands object start
    pub parts : view.parts ≡ all_parts
    pub whole : length view.mine ≡ length view.seen
    pub now : after plain_step start view.seen ≡ vb
