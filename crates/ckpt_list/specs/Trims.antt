-- which sealed checkpoints are needed no more
use Rattle.std.specs.Prelude.{ℕ, Bool, false, if◌then◌else◌, nat_lt, List, [], ◌∷◌, length, Option, Some, None}
use Rattle.std.specs.List.{filter}
use Rattle.vb_calls.specs.Trims.{end_of, ended_by}
use Rattle.checkpoint.specs.Checkpoints.{items_above}
use Rattle.cursor_set.specs.Cursors.{least_with}
use Rattle.ckpt_list.specs.Lists.{Ckpts}

-- the first one, if it passes
abbrev pub first_if : {X : Type 0} → (X → Bool) → List X → Option X
first_if p [] = None
first_if p (x ∷ xs) = if p x then Some x else None

-- there is a first one, and it passes
abbrev pub is_first : {X : Type 0} → (X → Bool) → List X → Bool
is_first p [] = false
is_first p (x ∷ xs) = p x

-- without the sealed checkpoints that end at most at n: the next changes lie above the last one of these
abbrev pub trimmed_to : Ckpts → ℕ → Ckpts
trimmed_to l n = record l {
  sealed = filter (λ w. nat_lt n w.last) l.sealed;
  items = items_above (end_of l.floor (ended_by n l.sealed)) l.items;
  floor = end_of l.floor (ended_by n l.sealed);
}

-- what is not above the saved number, and was given to every cursor, is needed no more
abbrev pub needless : Ckpts → ℕ → ℕ
needless l saved = least_with l.places saved

-- the list without the sealed checkpoints that are needed no more, and their number
abbrev pub trimmed : Ckpts → ℕ → Ckpts × ℕ
trimmed l saved = (trimmed_to l (needless l saved), length (ended_by (needless l saved) l.sealed))
