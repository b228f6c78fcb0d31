-- what takes, changes, seals and resets make of a list, in other words
use Rattle.std.specs.Prelude.{◌≡◌, ◌≢◌, ◌↔◌, ◌⊎◌, ℕ, ◌<◌, ◌≤◌, List, [], ◌∷◌, ◌++◌, length, Some, None}
use Rattle.std.specs.FinMap as finite
use Rattle.std.specs.List.{All}
use Rattle.vb_types.specs.declared.change.Change.{Change}
use Rattle.vb_types.specs.Histories.{IsIn}
use Rattle.vb_calls.specs.declared.span.Origin.{Origin}
use Rattle.vb_calls.specs.declared.span.Span.{Span}
use Rattle.cursor_set.specs.Cursors.{place_of}
use Rattle.ckpt_list.specs.Lists.{Ckpts, ckpts_at, ends_of, held_of, high_of, moved_cursor, queued, sealed_list, taken_by}
use Rattle.ckpt_list.specs.Sound.{IsSound}
use Rattle.ckpt_list.specs.Trims.{trimmed}

-- n is one of the list
abbrev pub IsAmong : ℕ → List ℕ → Type 0
IsAmong n [] = ⊥
IsAmong n (e ∷ es) = (n ≡ e) ⊎ IsAmong n es

-- these are the live changes above `place` up to the least end of a checkpoint that is above it and not below `need`; the cursor goes there, and all else stays
pub record Gives (l m : Ckpts) (id need place : ℕ) (items : List Change) : Type 0 where
  pub end : ℕ
  pub is_end : IsAmong end (ends_of l)
  pub beyond : place < end
  pub enough : need ≤ end
  pub least : (e : ℕ) → IsAmong e (ends_of l) → place < e → need ≤ e → end ≤ e
  pub given : (c : Change) → IsIn c items ↔ (IsIn c (held_of l) × (place < c.seq) × (c.seq ≤ end))
  pub moved : place_of m.places id ≡ Some end
  pub others : (other : ℕ) → other ≢ id → place_of m.places other ≡ place_of l.places other
  pub rest : m ≡ record l { places = m.places }

-- what a take gives
abbrev pub TakesExactly : Type 0
TakesExactly = (l m : Ckpts) (id need place : ℕ) (items : List Change) → IsSound l → place_of l.places id ≡ Some place → taken_by l id need ≡ (m, Some items) → Gives l m id need place items

-- a take gives nothing exactly where the last seqno is below what is needed, or not above the cursor's place
abbrev pub NothingExactly : Type 0
NothingExactly = (l : Ckpts) (id need place : ℕ) → IsSound l → l.floor ≤ place → place_of l.places id ≡ Some place
    → ((taken_by l id need).1 ≡ None) ↔ ((high_of l < need) ⊎ (high_of l ≤ place))

-- m is l with a change: it is held, only one of its key in the open checkpoint goes, and no cursor moves
pub record Queues (l m : Ckpts) (c : Change) : Type 0 where
  pub held : IsIn c (held_of m)
  pub stay : (d : Change) → IsIn d (held_of l) → IsIn d (held_of m) ⊎ (IsIn d l.newest.items × (d.key ≡ c.key))
  pub came : (d : Change) → IsIn d (held_of m) → (d ≡ c) ⊎ IsIn d (held_of l)
  pub places : m.places ≡ l.places
  pub high : high_of m ≡ c.seq

-- whatever the list and the change
abbrev pub QueuesOne : Type 0
QueuesOne = (l : Ckpts) (o : Origin) (c : Change) → Queues l (queued l o c) c

-- a seal changes no item and moves no cursor
pub record Seals (l : Ckpts) : Type 0 where
  pub held : held_of (sealed_list l) ≡ held_of l
  pub places : (sealed_list l).places ≡ l.places
  pub high : high_of (sealed_list l) ≡ high_of l
  pub none : (sealed_list l).newest.items ≡ []

-- of every list
abbrev pub SealsAlone : Type 0
SealsAlone = (l : Ckpts) → Seals l

-- a reset leaves the cursor 0 alone, and nothing above its place
pub record Resets (at : ℕ) (o : Origin) : Type 0 where
  pub zero : place_of (ckpts_at at o).places 0 ≡ Some at
  pub others : (other : ℕ) → other ≢ 0 → place_of (ckpts_at at o).places other ≡ None
  pub held : held_of (ckpts_at at o) ≡ []
  pub high : high_of (ckpts_at at o) ≡ at

-- at every seqno
abbrev pub ResetsAlone : Type 0
ResetsAlone = (at : ℕ) (o : Origin) → Resets at o

-- a span ends above what is saved, or above some cursor
abbrev pub IsWanted : Ckpts → ℕ → Span → Type 0
IsWanted l saved w = (saved < w.last) ⊎ ((id : ℕ) × (place : ℕ) × (place_of l.places id ≡ Some place) × (place < w.last))

-- m is l after a trim of which `count` is told: a front of the sealed checkpoints goes, so many; each that goes ends at most at the saved number and at every cursor's place; the first sealed one that stays, if there is one, ends above one of these; the floor is where the last one ended that went; the open checkpoint, and each cursor, is as it was; and a live change goes exactly where it is not above the floor
pub record Trims (l m : Ckpts) (saved count : ℕ) : Type 0 where
  pub gone : List Span
  pub front : l.sealed ≡ gone ++ m.sealed
  pub number : count ≡ length gone
  pub written : All (λ w. w.last ≤ saved) gone
  pub given : (id place : ℕ) → place_of l.places id ≡ Some place → All (λ w. w.last ≤ place) gone
  pub first : (w : Span) (ws : List Span) → m.sealed ≡ w ∷ ws → IsWanted l saved w
  pub still : gone ≡ [] → m ≡ l
  pub floor : (w : Span) (ws : List Span) → gone ≡ ws ++ w ∷ [] → m.floor ≡ w.last
  pub newest : m.newest ≡ l.newest
  pub places : m.places ≡ l.places
  pub live : (c : Change) → IsIn c (held_of m) ↔ (IsIn c (held_of l) × (m.floor < c.seq))

-- of every list and saved number
abbrev pub TrimsExactly : Type 0
TrimsExactly = (l : Ckpts) (saved : ℕ) → IsSound l → Trims l (trimmed l saved).0 saved (trimmed l saved).1

-- a cursor that is put at a place is there, whether it was there before or not, and one that is dropped is not; no other one moves
pub record Puts (l : Ckpts) (id : ℕ) : Type 0 where
  pub put : (place : ℕ) → place_of (moved_cursor l id place).places id ≡ Some place
  pub others : (place other : ℕ) → other ≢ id → place_of (moved_cursor l id place).places other ≡ place_of l.places other
  pub gone : place_of (finite.remove l.places id) id ≡ None
  pub stay : (other : ℕ) → other ≢ id → place_of (finite.remove l.places id) other ≡ place_of l.places other

-- of every list and cursor
abbrev pub PutsExactly : Type 0
PutsExactly = (l : Ckpts) (id : ℕ) → Puts l id
