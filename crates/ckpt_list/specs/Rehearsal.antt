-- trims and dropped cursors in numbers: a list of five sealed spans, three cursors and a saved number, in each order of three drops and three trims
use Rattle.std.specs.Prelude.{◌≡◌, ℕ, ◌==◌, if◌then◌else◌, List, [], ◌∷◌, Option, Some, None}
use Rattle.std.specs.FinMap as finite
use Rattle.std.specs.List.{AllByRecursion}
use Rattle.vb_calls.specs.declared.span.Origin.TheVariants.{Own}
use Rattle.vb_calls.specs.declared.span.Span.{Span}
use Rattle.checkpoint.specs.Checkpoints.{empty_ckpt}
use Rattle.cursor_set.specs.Cursors.{Places, place_of}
use Rattle.ckpt_list.specs.Lists.{Ckpts}
use Rattle.ckpt_list.specs.Trims.{trimmed}

-- an own span above a seqno
abbrev pub span_to : ℕ → ℕ → Span
span_to above last = record { above = above; last = last; origin = Own }

-- five sealed spans, and these cursors
abbrev pub five : Places → Ckpts
five places = record {
  sealed = span_to 0 2 ∷ span_to 2 4 ∷ span_to 4 6 ∷ span_to 6 8 ∷ span_to 8 10 ∷ [];
  items = [];
  newest = empty_ckpt 10 Own;
  places = places;
  floor = 0;
}

-- the flusher's cursor stands at 10, and three others inside spans
abbrev pub place_in : ℕ → Option ℕ
place_in id = if id == 0 then Some 10 else (if id == 1 then Some 3 else (if id == 2 then Some 5 else (if id == 3 then Some 7 else None)))

-- what the trims tell where these moves are made, while all up to 8 is saved: 0 is a trim, another number drops its cursor
abbrev pub told_of : List ℕ → Ckpts → List ℕ
told_of [] l = []
told_of (m ∷ ms) l = if m == 0 then (trimmed l 8).1 ∷ told_of ms (trimmed l 8).0 else told_of ms (record l { places = finite.remove l.places m })

-- what the three trims tell, and each order in which they tell it
abbrev pub orders : List (List ℕ × List (List ℕ))
orders = (
  1 ∷ 0 ∷ 0 ∷ [],
  (0 ∷ 0 ∷ 0 ∷ 1 ∷ 2 ∷ 3 ∷ []) ∷ (0 ∷ 0 ∷ 0 ∷ 1 ∷ 3 ∷ 2 ∷ []) ∷ (0 ∷ 0 ∷ 0 ∷ 2 ∷ 1 ∷ 3 ∷ []) ∷ (0 ∷ 0 ∷ 0 ∷ 2 ∷ 3 ∷ 1 ∷ []) ∷ (0 ∷ 0 ∷ 0 ∷ 3 ∷ 1 ∷ 2 ∷ []) ∷ (0 ∷ 0 ∷ 0 ∷ 3 ∷ 2 ∷ 1 ∷ []) ∷
      (0 ∷ 0 ∷ 2 ∷ 0 ∷ 1 ∷ 3 ∷ []) ∷ (0 ∷ 0 ∷ 2 ∷ 0 ∷ 3 ∷ 1 ∷ []) ∷ (0 ∷ 0 ∷ 2 ∷ 3 ∷ 0 ∷ 1 ∷ []) ∷ (0 ∷ 0 ∷ 3 ∷ 0 ∷ 1 ∷ 2 ∷ []) ∷ (0 ∷ 0 ∷ 3 ∷ 0 ∷ 2 ∷ 1 ∷ []) ∷ (0 ∷ 0 ∷ 3 ∷ 2 ∷ 0 ∷ 1 ∷ []) ∷
      (0 ∷ 2 ∷ 0 ∷ 0 ∷ 1 ∷ 3 ∷ []) ∷ (0 ∷ 2 ∷ 0 ∷ 0 ∷ 3 ∷ 1 ∷ []) ∷ (0 ∷ 2 ∷ 0 ∷ 3 ∷ 0 ∷ 1 ∷ []) ∷ (0 ∷ 2 ∷ 3 ∷ 0 ∷ 0 ∷ 1 ∷ []) ∷ (0 ∷ 3 ∷ 0 ∷ 0 ∷ 1 ∷ 2 ∷ []) ∷ (0 ∷ 3 ∷ 0 ∷ 0 ∷ 2 ∷ 1 ∷ []) ∷
      (0 ∷ 3 ∷ 0 ∷ 2 ∷ 0 ∷ 1 ∷ []) ∷ (0 ∷ 3 ∷ 2 ∷ 0 ∷ 0 ∷ 1 ∷ []) ∷ (2 ∷ 0 ∷ 0 ∷ 0 ∷ 1 ∷ 3 ∷ []) ∷ (2 ∷ 0 ∷ 0 ∷ 0 ∷ 3 ∷ 1 ∷ []) ∷ (2 ∷ 0 ∷ 0 ∷ 3 ∷ 0 ∷ 1 ∷ []) ∷ (2 ∷ 0 ∷ 3 ∷ 0 ∷ 0 ∷ 1 ∷ []) ∷
      (2 ∷ 3 ∷ 0 ∷ 0 ∷ 0 ∷ 1 ∷ []) ∷ (3 ∷ 0 ∷ 0 ∷ 0 ∷ 1 ∷ 2 ∷ []) ∷ (3 ∷ 0 ∷ 0 ∷ 0 ∷ 2 ∷ 1 ∷ []) ∷ (3 ∷ 0 ∷ 0 ∷ 2 ∷ 0 ∷ 1 ∷ []) ∷ (3 ∷ 0 ∷ 2 ∷ 0 ∷ 0 ∷ 1 ∷ []) ∷ (3 ∷ 2 ∷ 0 ∷ 0 ∷ 0 ∷ 1 ∷ []) ∷ [],
) ∷
    (1 ∷ 0 ∷ 1 ∷ [], (0 ∷ 0 ∷ 1 ∷ 0 ∷ 2 ∷ 3 ∷ []) ∷ (0 ∷ 0 ∷ 1 ∷ 0 ∷ 3 ∷ 2 ∷ []) ∷ (0 ∷ 0 ∷ 1 ∷ 3 ∷ 0 ∷ 2 ∷ []) ∷ (0 ∷ 0 ∷ 3 ∷ 1 ∷ 0 ∷ 2 ∷ []) ∷ (0 ∷ 3 ∷ 0 ∷ 1 ∷ 0 ∷ 2 ∷ []) ∷ (3 ∷ 0 ∷ 0 ∷ 1 ∷ 0 ∷ 2 ∷ []) ∷ []) ∷
    (1 ∷ 0 ∷ 2 ∷ [], (0 ∷ 0 ∷ 1 ∷ 2 ∷ 0 ∷ 3 ∷ []) ∷ (0 ∷ 0 ∷ 2 ∷ 1 ∷ 0 ∷ 3 ∷ []) ∷ (0 ∷ 2 ∷ 0 ∷ 1 ∷ 0 ∷ 3 ∷ []) ∷ (2 ∷ 0 ∷ 0 ∷ 1 ∷ 0 ∷ 3 ∷ []) ∷ []) ∷ (
      1 ∷ 0 ∷ 3 ∷ [],
      (0 ∷ 0 ∷ 1 ∷ 2 ∷ 3 ∷ 0 ∷ []) ∷ (0 ∷ 0 ∷ 1 ∷ 3 ∷ 2 ∷ 0 ∷ []) ∷ (0 ∷ 0 ∷ 2 ∷ 1 ∷ 3 ∷ 0 ∷ []) ∷ (0 ∷ 0 ∷ 2 ∷ 3 ∷ 1 ∷ 0 ∷ []) ∷ (0 ∷ 0 ∷ 3 ∷ 1 ∷ 2 ∷ 0 ∷ []) ∷ (0 ∷ 0 ∷ 3 ∷ 2 ∷ 1 ∷ 0 ∷ []) ∷
          (0 ∷ 2 ∷ 0 ∷ 1 ∷ 3 ∷ 0 ∷ []) ∷ (0 ∷ 2 ∷ 0 ∷ 3 ∷ 1 ∷ 0 ∷ []) ∷ (0 ∷ 2 ∷ 3 ∷ 0 ∷ 1 ∷ 0 ∷ []) ∷ (0 ∷ 3 ∷ 0 ∷ 1 ∷ 2 ∷ 0 ∷ []) ∷ (0 ∷ 3 ∷ 0 ∷ 2 ∷ 1 ∷ 0 ∷ []) ∷ (0 ∷ 3 ∷ 2 ∷ 0 ∷ 1 ∷ 0 ∷ []) ∷
          (2 ∷ 0 ∷ 0 ∷ 1 ∷ 3 ∷ 0 ∷ []) ∷ (2 ∷ 0 ∷ 0 ∷ 3 ∷ 1 ∷ 0 ∷ []) ∷ (2 ∷ 0 ∷ 3 ∷ 0 ∷ 1 ∷ 0 ∷ []) ∷ (2 ∷ 3 ∷ 0 ∷ 0 ∷ 1 ∷ 0 ∷ []) ∷ (3 ∷ 0 ∷ 0 ∷ 1 ∷ 2 ∷ 0 ∷ []) ∷ (3 ∷ 0 ∷ 0 ∷ 2 ∷ 1 ∷ 0 ∷ []) ∷
          (3 ∷ 0 ∷ 2 ∷ 0 ∷ 1 ∷ 0 ∷ []) ∷ (3 ∷ 2 ∷ 0 ∷ 0 ∷ 1 ∷ 0 ∷ []) ∷ [],
    ) ∷
    (1 ∷ 1 ∷ 0 ∷ [], (0 ∷ 1 ∷ 0 ∷ 0 ∷ 2 ∷ 3 ∷ []) ∷ (0 ∷ 1 ∷ 0 ∷ 0 ∷ 3 ∷ 2 ∷ []) ∷ (0 ∷ 1 ∷ 0 ∷ 3 ∷ 0 ∷ 2 ∷ []) ∷ (0 ∷ 1 ∷ 3 ∷ 0 ∷ 0 ∷ 2 ∷ []) ∷ (0 ∷ 3 ∷ 1 ∷ 0 ∷ 0 ∷ 2 ∷ []) ∷ (3 ∷ 0 ∷ 1 ∷ 0 ∷ 0 ∷ 2 ∷ []) ∷ []) ∷
    (1 ∷ 1 ∷ 1 ∷ [], (0 ∷ 1 ∷ 0 ∷ 2 ∷ 0 ∷ 3 ∷ []) ∷ []) ∷
    (1 ∷ 1 ∷ 2 ∷ [], (0 ∷ 1 ∷ 0 ∷ 2 ∷ 3 ∷ 0 ∷ []) ∷ (0 ∷ 1 ∷ 0 ∷ 3 ∷ 2 ∷ 0 ∷ []) ∷ (0 ∷ 1 ∷ 3 ∷ 0 ∷ 2 ∷ 0 ∷ []) ∷ (0 ∷ 3 ∷ 1 ∷ 0 ∷ 2 ∷ 0 ∷ []) ∷ (3 ∷ 0 ∷ 1 ∷ 0 ∷ 2 ∷ 0 ∷ []) ∷ []) ∷
    (1 ∷ 2 ∷ 0 ∷ [], (0 ∷ 1 ∷ 2 ∷ 0 ∷ 0 ∷ 3 ∷ []) ∷ (0 ∷ 2 ∷ 1 ∷ 0 ∷ 0 ∷ 3 ∷ []) ∷ (2 ∷ 0 ∷ 1 ∷ 0 ∷ 0 ∷ 3 ∷ []) ∷ []) ∷
    (1 ∷ 2 ∷ 1 ∷ [], (0 ∷ 1 ∷ 2 ∷ 0 ∷ 3 ∷ 0 ∷ []) ∷ (0 ∷ 2 ∷ 1 ∷ 0 ∷ 3 ∷ 0 ∷ []) ∷ (2 ∷ 0 ∷ 1 ∷ 0 ∷ 3 ∷ 0 ∷ []) ∷ []) ∷ (
      1 ∷ 3 ∷ 0 ∷ [],
      (0 ∷ 1 ∷ 2 ∷ 3 ∷ 0 ∷ 0 ∷ []) ∷ (0 ∷ 1 ∷ 3 ∷ 2 ∷ 0 ∷ 0 ∷ []) ∷ (0 ∷ 2 ∷ 1 ∷ 3 ∷ 0 ∷ 0 ∷ []) ∷ (0 ∷ 2 ∷ 3 ∷ 1 ∷ 0 ∷ 0 ∷ []) ∷ (0 ∷ 3 ∷ 1 ∷ 2 ∷ 0 ∷ 0 ∷ []) ∷ (0 ∷ 3 ∷ 2 ∷ 1 ∷ 0 ∷ 0 ∷ []) ∷
          (2 ∷ 0 ∷ 1 ∷ 3 ∷ 0 ∷ 0 ∷ []) ∷ (2 ∷ 0 ∷ 3 ∷ 1 ∷ 0 ∷ 0 ∷ []) ∷ (2 ∷ 3 ∷ 0 ∷ 1 ∷ 0 ∷ 0 ∷ []) ∷ (3 ∷ 0 ∷ 1 ∷ 2 ∷ 0 ∷ 0 ∷ []) ∷ (3 ∷ 0 ∷ 2 ∷ 1 ∷ 0 ∷ 0 ∷ []) ∷ (3 ∷ 2 ∷ 0 ∷ 1 ∷ 0 ∷ 0 ∷ []) ∷ [],
    ) ∷
    (2 ∷ 0 ∷ 0 ∷ [], (1 ∷ 0 ∷ 0 ∷ 0 ∷ 2 ∷ 3 ∷ []) ∷ (1 ∷ 0 ∷ 0 ∷ 0 ∷ 3 ∷ 2 ∷ []) ∷ (1 ∷ 0 ∷ 0 ∷ 3 ∷ 0 ∷ 2 ∷ []) ∷ (1 ∷ 0 ∷ 3 ∷ 0 ∷ 0 ∷ 2 ∷ []) ∷ (1 ∷ 3 ∷ 0 ∷ 0 ∷ 0 ∷ 2 ∷ []) ∷ (3 ∷ 1 ∷ 0 ∷ 0 ∷ 0 ∷ 2 ∷ []) ∷ []) ∷
    (2 ∷ 0 ∷ 1 ∷ [], (1 ∷ 0 ∷ 0 ∷ 2 ∷ 0 ∷ 3 ∷ []) ∷ []) ∷
    (2 ∷ 0 ∷ 2 ∷ [], (1 ∷ 0 ∷ 0 ∷ 2 ∷ 3 ∷ 0 ∷ []) ∷ (1 ∷ 0 ∷ 0 ∷ 3 ∷ 2 ∷ 0 ∷ []) ∷ (1 ∷ 0 ∷ 3 ∷ 0 ∷ 2 ∷ 0 ∷ []) ∷ (1 ∷ 3 ∷ 0 ∷ 0 ∷ 2 ∷ 0 ∷ []) ∷ (3 ∷ 1 ∷ 0 ∷ 0 ∷ 2 ∷ 0 ∷ []) ∷ []) ∷
    (2 ∷ 1 ∷ 0 ∷ [], (1 ∷ 0 ∷ 2 ∷ 0 ∷ 0 ∷ 3 ∷ []) ∷ []) ∷
    (2 ∷ 1 ∷ 1 ∷ [], (1 ∷ 0 ∷ 2 ∷ 0 ∷ 3 ∷ 0 ∷ []) ∷ []) ∷
    (2 ∷ 2 ∷ 0 ∷ [], (1 ∷ 0 ∷ 2 ∷ 3 ∷ 0 ∷ 0 ∷ []) ∷ (1 ∷ 0 ∷ 3 ∷ 2 ∷ 0 ∷ 0 ∷ []) ∷ (1 ∷ 3 ∷ 0 ∷ 2 ∷ 0 ∷ 0 ∷ []) ∷ (3 ∷ 1 ∷ 0 ∷ 2 ∷ 0 ∷ 0 ∷ []) ∷ []) ∷
    (3 ∷ 0 ∷ 0 ∷ [], (1 ∷ 2 ∷ 0 ∷ 0 ∷ 0 ∷ 3 ∷ []) ∷ (2 ∷ 1 ∷ 0 ∷ 0 ∷ 0 ∷ 3 ∷ []) ∷ []) ∷
    (3 ∷ 0 ∷ 1 ∷ [], (1 ∷ 2 ∷ 0 ∷ 0 ∷ 3 ∷ 0 ∷ []) ∷ (2 ∷ 1 ∷ 0 ∷ 0 ∷ 3 ∷ 0 ∷ []) ∷ []) ∷
    (3 ∷ 1 ∷ 0 ∷ [], (1 ∷ 2 ∷ 0 ∷ 3 ∷ 0 ∷ 0 ∷ []) ∷ (2 ∷ 1 ∷ 0 ∷ 3 ∷ 0 ∷ 0 ∷ []) ∷ []) ∷
    (4 ∷ 0 ∷ 0 ∷ [], (1 ∷ 2 ∷ 3 ∷ 0 ∷ 0 ∷ 0 ∷ []) ∷ (1 ∷ 3 ∷ 2 ∷ 0 ∷ 0 ∷ 0 ∷ []) ∷ (2 ∷ 1 ∷ 3 ∷ 0 ∷ 0 ∷ 0 ∷ []) ∷ (2 ∷ 3 ∷ 1 ∷ 0 ∷ 0 ∷ 0 ∷ []) ∷ (3 ∷ 1 ∷ 2 ∷ 0 ∷ 0 ∷ 0 ∷ []) ∷ (3 ∷ 2 ∷ 1 ∷ 0 ∷ 0 ∷ 0 ∷ []) ∷ []) ∷ []

-- in each order
abbrev pub Rehearsed : Type 0
Rehearsed = (places : Places) → ((id : ℕ) → place_of places id ≡ place_in id) → AllByRecursion (λ g. AllByRecursion (λ o. told_of o (five places) ≡ g.0) g.1) orders
