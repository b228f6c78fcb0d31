-- what holds of windows and rings, in other words
use Rattle.std.specs.Prelude.{◌≡◌, ◌≢◌, ◌↔◌, ◌⊎◌, ℕ, zero, suc, ◌+◌, ◌<◌, ◌≤◌, ◌==◌, IsTrue, List, [], ◌∷◌, ◌++◌, take, drop, length, Option, Some, None, not}
use Rattle.std.specs.List.{All, filter}
use Rattle.flow_control.specs.declared.window.Window.{Window}
use Rattle.flow_control.specs.Windows.{is_open, with_put, with_acked, with_size}
use Rattle.flow_control.specs.Rings.{PlainRing, IsRing, new_ring, next_id, turned, opened, closed}

-- what may happen to a window: a frame of a length goes, bytes are acknowledged, or it gets another size
pub data Move : Type 0 where
  Put : (len : ℕ) → Move
  Acked : (len : ℕ) → Move
  Sized : (size : ℕ) → Move

-- a frame goes only where it may and is no longer than `longest`, and no size is greater than `largest`
abbrev pub MayMove : ℕ → ℕ → Window → Move → Type 0
MayMove longest largest w (Put len) = IsTrue (is_open w) × (len ≤ longest)
MayMove longest largest w (Acked len) = 0 ≤ len
MayMove longest largest w (Sized size) = size ≤ largest

abbrev pub moved : Window → Move → Window
moved w (Put len) = with_put len w
moved w (Acked len) = with_acked len w
moved w (Sized size) = with_size size w

-- moves, one after the other
abbrev pub MayMoveAll : ℕ → ℕ → Window → List Move → Type 0
MayMoveAll longest largest w [] = w.size ≤ largest
MayMoveAll longest largest w (m ∷ ms) =
    (w.size ≤ largest) × MayMove longest largest w m × MayMoveAll longest largest (moved w m) ms

abbrev pub moved_all : Window → List Move → Window
moved_all w [] = w
moved_all w (m ∷ ms) = moved_all (moved w m) ms

-- a window is open exactly at size 0 and below its size. A frame that goes is added whole, at size 0 not at all; an acknowledgement takes its bytes away, or all that there are; a size leaves them. Whatever comes, what is outstanding stays below the greatest size and the longest frame together
pub record WindowsHold : Type 0 where
  pub opens : (w : Window) → IsTrue (is_open w) ↔ ((w.size ≡ 0) ⊎ (w.outstanding < w.size))
  pub adds : (w : Window) (len : ℕ) → 0 < w.size → (with_put len w).outstanding ≡ w.outstanding + len
  pub adds_none : (w : Window) (len : ℕ) → w.size ≡ 0 → with_put len w ≡ w
  pub takes : (w : Window) (len : ℕ) → len ≤ w.outstanding → (with_acked len w).outstanding + len ≡ w.outstanding
  pub takes_all : (w : Window) (len : ℕ) → w.outstanding ≤ len → (with_acked len w).outstanding ≡ 0
  pub sizes : (w : Window) (len : ℕ) → ((with_put len w).size ≡ w.size) × ((with_acked len w).size ≡ w.size)
  pub sized : (w : Window) (size : ℕ) → ((with_size size w).size ≡ size) × ((with_size size w).outstanding ≡ w.outstanding)
  pub bound : (longest largest : ℕ) (w : Window) (ms : List Move) → 0 < largest → w.outstanding < largest + longest
      → MayMoveAll longest largest w ms → (moved_all w ms).outstanding < largest + longest

-- those that have their turns before the oldest has its next one, and those that had theirs
abbrev pub ahead : PlainRing → List ℕ
ahead r = drop r.turn r.ids

abbrev pub behind : PlainRing → List ℕ
behind r = take r.turn r.ids

-- the streams in the order of their next turns
abbrev pub in_turn : PlainRing → List ℕ
in_turn r = ahead r ++ behind r

-- one more, if there is one
abbrev pub given : Option ℕ → List ℕ → List ℕ
given None ids = []
given (Some id) ids = id ∷ ids

-- the streams of the next n turns
abbrev pub next_ids : ℕ → PlainRing → List ℕ
next_ids zero r = []
next_ids (suc n) r = given (next_id r) (next_ids n (turned r))

-- where a stream is open one has the next turn, the first in turn; it comes last then, as the last of those behind, and all others stay in their order
pub record Turn (r : PlainRing) : Type 0 where
  pub id : ℕ
  pub rest : List ℕ
  pub first : in_turn r ≡ id ∷ rest
  pub next : next_id r ≡ Some id
  pub last : in_turn (turned r) ≡ rest ++ id ∷ []
  pub had : (earlier : List ℕ) × (behind (turned r) ≡ earlier ++ id ∷ [])
  pub ring : IsRing (turned r)
  pub same : (turned r).ids ≡ r.ids

-- all but one
abbrev pub others : ℕ → List ℕ → List ℕ
others id ids = filter (λ other. not (other == id)) ids

-- no stream stands twice
abbrev pub AreApart : List ℕ → Type 0
AreApart [] = Unit {0}
AreApart (id ∷ ids) = All (λ other. other ≢ id) ids × AreApart ids

-- one of different streams was closed: it is among neither those ahead nor those behind any more, and all others stay where they are
pub record Closes (r : PlainRing) (id : ℕ) : Type 0 where
  pub ahead : ahead (closed id r) ≡ others id (ahead r)
  pub behind : behind (closed id r) ≡ others id (behind r)
  pub ring : IsRing (closed id r)

-- streams take turns: each open one has exactly one of the next turns, as many as streams are open. One that is opened comes behind those that have their turns before the oldest, and before all others; one that is closed leaves the others in their order
pub record RingsTurn : Type 0 where
  pub none : in_turn new_ring ≡ []
  pub turn : (r : PlainRing) → IsRing r → 0 < length r.ids → Turn r
  pub quiet : (r : PlainRing) → r.ids ≡ [] → (next_id r ≡ None) × (turned r ≡ r)
  pub opens : (r : PlainRing) (id : ℕ) → IsRing r → in_turn (opened id r) ≡ (ahead r ++ id ∷ []) ++ behind r
  pub closes : (r : PlainRing) (id : ℕ) → IsRing r → AreApart r.ids → Closes r id
  pub all : (n : ℕ) (r : PlainRing) → IsRing r → n ≤ length r.ids → next_ids n r ≡ take n (in_turn r)
