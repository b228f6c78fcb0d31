-- what holds of turns, in other words
use Rattle.std.specs.Prelude.{◌≡◌, ◌↔◌, ◌⊎◌, ℕ, ◌+◌, ◌<◌, ◌≤◌, true, List, [], ◌∷◌, ◌++◌, length, take, Contains, Some, slice_get}
use mathlib.Core.Option.{some}
use mathlib.Core.List.{IsPrefix}
use lib.ListN.{get_elem?}
use Rattle.atomic_table.specs.Table.{State}
use Rattle.vb_turn.specs.History.{after, Legal, top}
use Rattle.vb_turn.specs.Turning.{all_parts, left, right, Turning}
use Rattle.vb_turn.specs.Seats.{Called, Published, Gathered, ClosesWith}
use Rattle.vb_turn.specs.declared.view.View.{View}

module _ {P C R : Type 0} (next : P → C → P × R) where
  -- the state behind the first k calls of a history
  abbrev pub behind : P → List (C × R) → ℕ → P
  behind s log k = after next s (take k log)

  -- each call of a history has the reply that the machine gives behind those before it
  abbrev pub EachAnswers : P → List (C × R) → Type 0
  EachAnswers s log = (k : ℕ) (e : C × R) → slice_get log k ≡ Some e → (next (behind s log k) e.0).1 ≡ e.1

  -- a history is legal exactly where each call answers at its place, and one that grows stays so exactly where what is new is legal from its end.
  -- Its greatest number is that of a state on the way, none shows more, and it never falls as the history grows
  pub record HistoriesSayWhatIsLegal (number : P → ℕ) : Type 0 where
    pub legal : (s : P) (log : List (C × R)) → Legal next s log ↔ EachAnswers s log
    pub grown : (s : P) (log more : List (C × R)) → Legal next s (log ++ more) ↔ (Legal next s log × Legal next (after next s log) more)
    pub high : (s : P) (log : List (C × R)) (k : ℕ) → number (behind s log k) ≤ top next number s log
    pub met : (s : P) (log : List (C × R)) → (k : ℕ) × (k ≤ length log) × (top next number s log ≡ number (behind s log k))
    pub stays : (s : P) (log more : List (C × R)) → top next number s log ≤ top next number s (log ++ more)

module _ {E : Type 0} where
  -- each own call stands in what the seat has seen, at its place, and no two at one
  abbrev pub StandApart : {M : Type 0} → View M E → Type 0
  StandApart v = ((t : ℕ × E) → Contains v.mine t → slice_get v.seen t.0 ≡ Some t.1)
      × ((i j : ℕ) (t u : ℕ × E) → slice_get v.mine i ≡ Some t → slice_get v.mine j ≡ Some u → t.0 ≡ u.0 → i ≡ j)

  -- what is seen is the seat's own calls, and nothing else
  abbrev pub AreOwn : {M : Type 0} → View M E → Type 0
  AreOwn v = ((k : ℕ) (e : E) → (slice_get v.seen k ≡ Some e) ↔ Contains v.mine (k, e)) × (length v.mine ≡ length v.seen)

module _ {M P C R : Type 0} (stands : M → P → Type 0) where
  -- from each state that the object stood for when its turn was made
  abbrev pub FromOpening : View M (C × R) → (P → Type 0) → Type 0
  FromOpening v is = (o : M) → v.opening ≡ Some o → (s : P) → stands o s → is s

module _ {M P C R : Type 0} (stands : M → P → Type 0) (next : P → C → P × R) (number : P → ℕ) where
  -- by a call a seat learns of one history of all calls, its own and those of others, and each has the machine's reply at its place. The call is the last of it, and behind each call that the seat had made.
  -- What it had seen stands where it stood. A seat with all parts has made each call of it
  pub record TurnsAreLegal : Type 0 where
    pub answers : (v w : View M (C × R)) (e : C × R) → Called stands next number v e w → FromOpening stands v (λ s. EachAnswers next s w.seen)
    pub last : (v w : View M (C × R)) (e : C × R) → Called stands next number v e w
        → (n : ℕ) × (length v.seen ≤ n) × (length w.seen ≡ n + 1) × (slice_get w.seen n ≡ Some e) × (w.mine ≡ v.mine ++ (n, e) ∷ [])
    pub later : (v w : View M (C × R)) (e : C × R) → Called stands next number v e w → (t : ℕ × (C × R)) → Contains v.mine t → t.0 + 1 < length w.seen
    pub kept : (v w : View M (C × R)) (e : C × R) → Called stands next number v e w → (k : ℕ) (x : C × R) → slice_get v.seen k ≡ Some x → slice_get w.seen k ≡ Some x
    pub apart : (v w : View M (C × R)) (e : C × R) → Called stands next number v e w → StandApart w
    pub alone : (v w : View M (C × R)) (e : C × R) → Called stands next number v e w → v.parts ≡ all_parts → AreOwn w
    pub same : (v w : View M (C × R)) (e : C × R) → Called stands next number v e w → (w.opening ≡ v.opening) × (w.parts ≡ v.parts) × (w.known ≡ v.known)

  -- what a seat may do: make a call, ask for the number, give parts away, or take a seat in
  abbrev pub Moves : View M (C × R) → View M (C × R) → Type 0
  Moves v w = ((e : C × R) × Called stands next number v e w)
      ⊎ (((n : ℕ) × Published stands next number v n w) ⊎ (((n : ℕ) × (w ≡ left n v)) ⊎ ((u : View M (C × R)) × Gathered v u w)))

  -- one after the other
  abbrev pub Leads : View M (C × R) → List (View M (C × R)) → View M (C × R) → Type 0
  Leads v [] w = v ≡ w
  Leads v (x ∷ xs) w = Moves v x × Leads x xs w

  -- a number that a seat is told is no less than that of any state that it has seen, and some state had it, on the way of a history that is legal and begins with what the seat has seen; with all parts it has seen that state itself.
  -- By its next call the seat has seen a state with that number or more. Whatever it does then, and whatever others call, a rollback too: it is never told less
  pub record NumbersHold : Type 0 where
    pub high : (v w : View M (C × R)) (n : ℕ) → Published stands next number v n w → FromOpening stands v (λ s. (k : ℕ) → number (behind next s v.seen k) ≤ n)
    pub alone : (v w : View M (C × R)) (n : ℕ) → Published stands next number v n w → v.parts ≡ all_parts → FromOpening stands v (λ s. top next number s v.seen ≡ n)
    pub shown : (v w : View M (C × R)) (n : ℕ) → Published stands next number v n w → (log : List (C × R)) × IsPrefix v.seen log
        × FromOpening stands v (λ s. EachAnswers next s log × ((k : ℕ) → number (behind next s log k) ≤ n) × ((k : ℕ) × (k ≤ length log) × (n ≡ number (behind next s log k))))
    pub seen : (v w x : View M (C × R)) (n : ℕ) (e : C × R) → Published stands next number v n w → Called stands next number w e x
        → FromOpening stands v (λ s. (k : ℕ) × (k ≤ length x.seen) × (n ≤ number (behind next s x.seen k)))
    pub again : (v w x y : View M (C × R)) (between : List (View M (C × R))) (n m : ℕ) → Published stands next number v n w → Leads w between x → Published stands next number x m y → n ≤ m

module _ {M P C R : Type 0} (stands : M → P → Type 0) (next : P → C → P × R) where
  -- a seat that is cut loses the parts that it gives away and nothing else; the new one has seen as much, and made no call. Of two that are joined the one has seen what the other has, and perhaps more; the calls of both stand at places that differ, and with all parts they are all that is seen
  pub record SeatsSplitAndJoin : Type 0 where
    pub kept : (v : View M (C × R)) (n : ℕ) → ((left n v).opening ≡ v.opening) × ((left n v).seen ≡ v.seen) × ((left n v).known ≡ v.known) × ((left n v).mine ≡ v.mine)
    pub given : (v : View M (C × R)) (n : ℕ) → ((right n v).opening ≡ v.opening) × ((right n v).seen ≡ v.seen) × ((right n v).known ≡ v.known) × ((right n v).mine ≡ [])
    pub shared : (v : View M (C × R)) (n : ℕ) → n ≤ v.parts → ((left n v).parts + (right n v).parts ≡ v.parts) × ((right n v).parts ≡ n)
    pub joined : (v u w : View M (C × R)) → Gathered v u w → (w.opening ≡ v.opening) × (w.mine ≡ v.mine ++ u.mine) × (w.parts ≡ v.parts + u.parts)
    pub seen : (v u w : View M (C × R)) → Gathered v u w → IsPrefix v.seen w.seen × IsPrefix u.seen w.seen × ((w.seen ≡ v.seen) ⊎ (w.seen ≡ u.seen))
    pub told : (v u w : View M (C × R)) → Gathered v u w → (v.known ≤ w.known) × (u.known ≤ w.known)
    pub apart : (v u w : View M (C × R)) → Gathered v u w → StandApart w
    pub alone : (v u w : View M (C × R)) → Gathered v u w → w.parts ≡ all_parts → AreOwn w

  -- only a seat with all parts closes. It has seen the whole history, each call of it is its own, and the object stands for its end
  pub record ClosingsNameTheHistory : Type 0 where
    pub all : (v : View M (C × R)) (object : M) → ClosesWith stands next v object → v.parts ≡ all_parts
    pub own : (v : View M (C × R)) (object : M) → ClosesWith stands next v object → AreOwn v
    pub answers : (v : View M (C × R)) (object : M) → ClosesWith stands next v object → FromOpening stands v (λ s. EachAnswers next s v.seen)
    pub ends : (v : View M (C × R)) (object : M) → ClosesWith stands next v object → FromOpening stands v (λ s. stands object (after next s v.seen))

-- by the rule: of what two seats have seen the one begins the other, the turn is one seat's alone, each call of the history is one seat's own, and no seat has a call of another
module _ {M E : Type 0} (good : M → List E → ℕ → Type 0) (ends : M → List E → M → Type 0) where
  pub record SeatsShareOneHistory : Type 0 where
    pub fronts : (key : M) (s : State M (View M E)) → Turning good ends key s → (i j : ℕ) (v u : View M E) → get_elem? s.views i ≡ some v → get_elem? s.views j ≡ some u
        → IsPrefix v.seen u.seen ⊎ IsPrefix u.seen v.seen
    pub one : (key : M) (s : State M (View M E)) → Turning good ends key s → (i j : ℕ) (v u : View M E) → get_elem? s.views i ≡ some v → get_elem? s.views j ≡ some u
        → v.turn ≡ true → u.turn ≡ true → i ≡ j
    pub apart : (key : M) (s : State M (View M E)) → Turning good ends key s → (i j : ℕ) (v u : View M E) → get_elem? s.views i ≡ some v → get_elem? s.views j ≡ some u
        → (k : ℕ) (e f : E) → Contains v.mine (k, e) → Contains u.mine (k, f) → i ≡ j
    pub owned : (key : M) (s : State M (View M E)) (t : Turning good ends key s) (k : ℕ) (e : E) → slice_get t.log k ≡ Some e
        → (i : ℕ) × (v : View M E) × (get_elem? s.views i ≡ some v) × Contains v.mine (k, e)
