-- the rule of a turn's table, and what each step tells. Word 0 is the number, and word 1 the turn, which is 1 while a seat has it; the object lies in slot 0, and is out with the seat that has the turn
use Rattle.std.specs.Prelude.{◌≡◌, ℕ, ◌+◌, ◌-◌, ◌<◌, ◌≤◌, true, false, if◌then◌else◌, nat_lt, ◌==◌, max, List, [], ◌∷◌, ◌++◌, map, length, All, Some, None, slice_get, slice_index}
use mathlib.Core.Option as maybe
use mathlib.Core.Option.{some}
use mathlib.Core.List.{IsPrefix}
use lib.ListN.{get_elem?}
use Rattle.atomic_table.specs.Table.{State, Me, Step, rest}
use Rattle.vb_turn.specs.declared.view.View.{View}

-- how many parts all seats have together, 2 ^ 32
abbrev pub all_parts : ℕ
all_parts = 4294967296

-- the sum of f over a list
abbrev pub total : {V : Type 0} → (V → ℕ) → List V → ℕ
total f [] = 0
total f (v ∷ vs) = f v + total f vs

-- how often x stands in the list
abbrev pub times : ℕ → List ℕ → ℕ
times x [] = 0
times x (y ∷ ys) = (if x == y then 1 else 0) + times x ys

-- 1 where x is below n
abbrev pub once_below : ℕ → ℕ → ℕ
once_below x n = if nat_lt x n then 1 else 0

module _ {E : Type 0} where
  -- where the seat's own calls stand
  abbrev pub places : List (ℕ × E) → List ℕ
  places mine = map (λ t. t.0) mine

  -- each call stands in the history at its place
  abbrev pub Placed : List E → List (ℕ × E) → Type 0
  Placed history mine = All (λ t. slice_get history t.0 ≡ Some t.1) mine

  -- no place is named twice
  abbrev pub Apart : List (ℕ × E) → Type 0
  Apart mine = (x : ℕ) → times x (places mine) ≤ 1

  -- of two histories, of which one begins the other
  abbrev pub longer : List E → List E → List E
  longer xs ys = if nat_lt (length xs) (length ys) then ys else xs

  abbrev pub shorter : List E → List E → List E
  shorter xs ys = if nat_lt (length xs) (length ys) then xs else ys

  -- the calls are all calls of the history, each once
  abbrev pub Whole : List (ℕ × E) → List E → Type 0
  Whole mine history = (length mine ≡ length history) × ((x : ℕ) → times x (places mine) ≡ once_below x (length history))

module _ {M E : Type 0} where
  -- 1 for a seat that has the turn
  abbrev pub turns : View M E → ℕ
  turns v = if v.turn then 1 else 0

  -- the view of the first seat
  abbrev pub opened : M → View M E
  opened o = record { opening = Some o; seen = []; met = []; base = []; mine = []; known = 0; parts = all_parts; turn = false }

  -- what is left of a seat that was taken in
  abbrev pub spent : View M E
  spent = record { opening = None; seen = []; met = []; base = []; mine = []; known = 0; parts = 0; turn = false }

  -- the seat has the turn, and knows the whole history
  abbrev pub holding : View M E → List E → View M E
  holding v log = record { opening = v.opening; seen = v.seen; met = v.met; base = log; mine = v.mine; known = v.known; parts = v.parts; turn = true }

  -- the call stands in the history, which the seat has seen
  abbrev pub added : View M E → E → View M E
  added v e = record { opening = v.opening; seen = v.base ++ e ∷ []; met = v.met; base = v.base ++ e ∷ []; mine = v.mine ++ (length v.base, e) ∷ []; known = v.known; parts = v.parts; turn = v.turn }

  -- the turn is given up
  abbrev pub without_turn : View M E → View M E
  without_turn v = record { opening = v.opening; seen = v.seen; met = v.met; base = []; mine = v.mine; known = v.known; parts = v.parts; turn = false }

  -- the seat was told a number
  abbrev pub knowing : View M E → ℕ → View M E
  knowing v n = record { opening = v.opening; seen = v.seen; met = v.met; base = v.base; mine = v.mine; known = n; parts = v.parts; turn = v.turn }

  -- what a seat keeps that gives n parts away, and the new seat that has them
  abbrev pub left : ℕ → View M E → View M E
  left n v = record { opening = v.opening; seen = v.seen; met = v.met; base = v.base; mine = v.mine; known = v.known; parts = v.parts - n; turn = v.turn }

  abbrev pub right : ℕ → View M E → View M E
  right n v = record { opening = v.opening; seen = v.seen; met = v.met; base = []; mine = []; known = v.known; parts = n; turn = false }

  -- two seats made one: the first, which takes the second in
  abbrev pub both : View M E → View M E → View M E
  both v w = record { opening = v.opening; seen = longer v.seen w.seen; met = shorter v.seen w.seen; base = v.base; mine = v.mine ++ w.mine; known = max v.known w.known; parts = v.parts + w.parts; turn = v.turn }

  -- the seat's own calls stand at their places, which differ. With all parts they are all calls of the history
  abbrev pub Orderly : View M E → List E → Type 0
  Orderly v log = Placed v.seen v.mine × Apart v.mine × (v.parts ≡ all_parts → Whole v.mine log)

  module _ (key : M) (log : List E) (number : ℕ) where
    -- what each seat's view is to the history and to the number word. One without parts has had nothing and does nothing
    pub record Fits (v : View M E) : Type 0 where
      pub opening : 0 < v.parts → v.opening ≡ Some key
      pub seen : IsPrefix v.seen log
      pub met : IsPrefix v.met v.seen
      pub base : v.turn ≡ true → v.base ≡ log
      pub known : v.known ≤ number
      pub idle : v.parts ≡ 0 → (v.turn ≡ false) × (v.mine ≡ [])
      pub mine : Placed v.seen v.mine

  module _ (good : M → List E → ℕ → Type 0) (ends : M → List E → M → Type 0) where
    -- there is one history of all calls, and the number word has its greatest number. At most one seat has the turn; where none has, the object is at home, and stands for the history's end.
    -- All views together have all parts, and each call of the history is one seat's own, at a place of its own
    pub record Turning (key : M) (s : State M (View M E)) : Type 0 where
      pub log : List E
      pub wide : length s.words ≡ 2
      pub sound : good key log (slice_index s.words 0)
      pub turn : slice_index s.words 1 ≡ total turns s.views
      pub one : slice_index s.words 1 ≤ 1
      pub home : slice_index s.words 1 ≡ 0 → (y : M) × (get_elem? s.homes 0 ≡ some (some y)) × ends key log y
      pub parts : total (λ v. v.parts) s.views ≡ all_parts
      pub calls : total (λ v. length v.mine) s.views ≡ length log
      pub places : (x : ℕ) → total (λ v. times x (places v.mine)) s.views ≡ once_below x (length log)
      pub each : (id : ℕ) (v : View M E) → get_elem? s.views id ≡ some v → Fits key log (slice_index s.words 0) v

    -- the turn was free, and is the seat's now; it has the object, which stands for the whole history's end
    abbrev pub Took : Me M (View M E) → Me M (View M E) → Type 0
    Took m m' = (log : List E) × (n : ℕ) × (y : M) × (m' ≡ (holding m.0 log, (0, y) ∷ m.1)) × IsPrefix m.0.seen log × (m.0.known ≤ n)
        × ((o : M) × (m.0.opening ≡ Some o) × good o log n × ends o log y)

    -- a claim finds 0 and has the turn, or changes nothing
    abbrev pub claimed : Step M → Me M (View M E) → ℕ → Me M (View M E) → Type 0
    claimed st m r m' = (r ≡ 0 → Took m m') × (¬ (r ≡ 0) → m' ≡ m)

    -- the call joined the history, at a place of its own
    abbrev pub published : maybe.Option E → Step M → Me M (View M E) → ℕ → Me M (View M E) → Type 0
    published told st m r m' = (e : E) → told ≡ some e → (m' ≡ (added m.0 e, m.1)) × Orderly m'.0 m'.0.seen

    -- the seat has the turn no longer, and no object
    abbrev pub released : Step M → Me M (View M E) → ℕ → Me M (View M E) → Type 0
    released st m r m' = m' ≡ (without_turn m.0, rest m.1)

    -- the number read is that of a history, which begins with what the seat has seen and has its calls
    abbrev pub loaded : Step M → Me M (View M E) → ℕ → Me M (View M E) → Type 0
    loaded st m r m' = (m' ≡ (knowing m.0 r, m.1)) × (m.0.known ≤ r) × IsPrefix m.0.met m.0.seen × (m.0.parts ≤ all_parts)
        × ((log : List E) × IsPrefix m.0.seen log × Orderly m.0 log × ((o : M) → m.0.opening ≡ Some o → good o log r))
