-- what a seat has that takes the seats of a storm's clients in
use Rattle.std.specs.Prelude.{◌≡◌, ℕ, zero, suc, ◌+◌, ◌<◌, List, [], ◌∷◌, ◌++◌, length, get_or}
use Rattle.std.specs.List.{range_with_len}
use Rattle.vb_calls.specs.Plain.{Plain}
use Rattle.vb_turn.specs.Turning.{all_parts, Orderly}
use Rattle.vb_turn.specs.declared.view.View.{View}
use Rattle.storm_model.specs.Histories.{AreStores, GathersStorm, stores, told_seqs}
use Rattle.storm_model.specs.Merging.{Rising}
use Rattle.storm_model.specs.Writes.{writes_of}
use Rattle.storm_seats.specs.Views.{AreStoresOf, Entry, Knows, openings, placed_openings}

-- one thing after the other, by rising number from here on
abbrev pub AllFrom : {A : Type 0} → (ℕ → A → Type 0) → ℕ → List A → Type 0
AllFrom P n [] = Unit {0}
AllFrom P n (x ∷ xs) = P n x × AllFrom P (suc n) xs

-- the lists one after the other
abbrev pub joined : {A : Type 0} → List (List A) → List A
joined [] = []
joined (xs ∷ xss) = xs ++ joined xss

-- client c's writes to vBucket v, behind the openings
abbrev pub IsPart : ℕ → ℕ → ℕ → ℕ → List (ℕ × Entry) → Type 0
IsPart seed writes v c part = Rising 2 part × AreStoresOf (writes_of seed c writes v) part

module _ {M : Type 0} (stands : M → Plain → Type 0) where
  -- a seat of vBucket v that has opened the readers' streams, has taken in the seats of the clients with these parts, and of whose parts so many are out
  pub record Gathers (seed writes v out : ℕ) (parts : List (List (ℕ × Entry))) (view : View M Entry) : Type 0 where
    pub knows : Knows stands v view
    pub count : view.parts + out ≡ all_parts
    pub mine : view.mine ≡ placed_openings v ++ joined parts
    pub each : AllFrom (IsPart seed writes v) 0 parts
    pub orderly : Orderly view view.seen

  -- the seat has all parts again, and its calls are all calls: the openings, and behind them the Stores that the clients gathered. Each Store is made: they have the seqnos from 1 on, in turn
  pub record Stormed (seed clients writes v : ℕ) (view : View M Entry) : Type 0 where
    pub knows : Knows stands v view
    pub all : view.parts ≡ all_parts
    pub whole : length view.mine ≡ length view.seen
    pub part : ℕ → List (ℕ × Entry)
    pub gathers : GathersStorm seed clients writes v view.seen view.mine part
    pub rest : List Entry
    pub seen : view.seen ≡ openings v ++ rest
    pub behind : AreStores rest
    pub made : told_seqs view.seen ≡ range_with_len 1 (length (stores view.seen))
