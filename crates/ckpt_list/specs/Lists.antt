-- the checkpoints of a vBucket and the cursors over them
use Rattle.std.specs.Prelude.{ℕ, Bool, true, false, ◌&&◌, if◌then◌else◌, nat_le, nat_lt, List, [], ◌∷◌, ◌++◌, map, Option, Some, None, option_to_list}
use Rattle.std.specs.FinMap as finite
use Rattle.std.specs.List.{filter, find, list_any}
use Rattle.vb_types.specs.declared.change.Change.{Change}
use Rattle.vb_types.specs.declared.position.Position.{Position}
use Rattle.vb_calls.specs.declared.span.Origin.{Origin}
use Rattle.vb_calls.specs.declared.span.Origin.TheVariants.{Own, Received}
use Rattle.vb_calls.specs.declared.span.Span.{Span}
use Rattle.vb_calls.specs.Spans.{Spans, all_spans, is_whole, span_position}
use Rattle.vb_calls.specs.Streams.{is_seen}
use Rattle.checkpoint.specs.Checkpoints.{Ckpt, empty_ckpt, ckpt_last, ckpt_span, ckpt_with, fits_in}
use Rattle.cursor_set.specs.Cursors.{Places, place_of}

-- the sealed checkpoints' spans and their live changes, the oldest first; the open one; the cursors; and the seqno above which changes are here
pub record Ckpts : Type 0 where
  pub sealed : List Span
  pub items : List Change
  pub newest : Ckpt
  pub places : Places
  pub floor : ℕ

-- nothing above a seqno, where the cursor 0 stands
abbrev pub ckpts_at : ℕ → Origin → Ckpts
ckpts_at at origin = record { sealed = []; items = []; newest = empty_ckpt at origin; places = finite.insert finite.empty 0 at; floor = at }

-- the last seqno
abbrev pub high_of : Ckpts → ℕ
high_of l = ckpt_last l.newest

-- the spans of all checkpoints
abbrev pub spans_of : Ckpts → Spans
spans_of l = record { sealed = l.sealed; current = ckpt_span l.newest }

-- their live changes
abbrev pub held_of : Ckpts → List Change
held_of l = l.items ++ l.newest.items

-- the open checkpoint is sealed, where it has changes
abbrev pub sealed_list : Ckpts → Ckpts
sealed_list l = record l {
  sealed = l.sealed ++ option_to_list (ckpt_span l.newest);
  items = l.items ++ l.newest.items;
  newest = empty_ckpt (ckpt_last l.newest) l.newest.origin;
}

-- the vBucket's own
abbrev pub is_own : Origin → Bool
is_own Own = true
is_own (Received ss se) = false

-- a change alone in a new checkpoint, behind sealed ones
abbrev pub opened : Ckpts → Origin → Change → Ckpts
opened l origin c = record l { newest = record { above = ckpt_last l.newest; origin = origin; items = c ∷ [] } }

-- a change enters the open checkpoint if that has changes and takes it, and else a new one
abbrev pub queued_by : Option Span → Ckpts → Origin → Change → Ckpts
queued_by None l origin c = opened l origin c
queued_by (Some w) l origin c =
    if fits_in (is_own origin) l.newest.items c then record l { newest = ckpt_with l.newest c } else opened (sealed_list l) origin c

-- a change is taken in
abbrev pub queued : Ckpts → Origin → Change → Ckpts
queued l origin c = queued_by (ckpt_span l.newest) l origin c

-- where checkpoints end, the oldest first
abbrev pub ends_of : Ckpts → List ℕ
ends_of l = map (λ w. w.last) (all_spans (spans_of l))

-- a stream at a place may be sent a snapshot up to n: n is above the place, inside no received snapshot and not below what it needs, and the stream sees a change up to there
abbrev pub may_stop : Ckpts → ℕ → ℕ → Bool → ℕ → Bool
may_stop l place need sync n =
    nat_lt place n && is_whole n (all_spans (spans_of l)) && nat_le need n && list_any (λ c. nat_lt place c.seq && nat_le c.seq n && is_seen sync c.act) (held_of l)

-- the least end of a checkpoint where a snapshot of the stream may end
abbrev pub stop_of : Ckpts → ℕ → ℕ → Bool → Option ℕ
stop_of l place need sync = find (may_stop l place need sync) (ends_of l)

-- the least end of a checkpoint that is above the place and not below `need`
abbrev pub reach_of : Ckpts → ℕ → ℕ → Option ℕ
reach_of l place need = find (λ n. nat_lt place n && nat_le need n) (ends_of l)

-- the changes above a place and up to n
abbrev pub between : ℕ → ℕ → List Change → List Change
between place n items = filter (λ c. nat_lt place c.seq && nat_le c.seq n) items

-- the cursor of a number after a take up to n
abbrev pub moved_cursor : Ckpts → ℕ → ℕ → Ckpts
moved_cursor l id n = record l { places = finite.insert l.places id n }

-- a cursor's place; 0 where it is not there
abbrev pub place_of_cursor : Option ℕ → ℕ
place_of_cursor None = 0
place_of_cursor (Some place) = place

-- what a take gives, and the list after it: the cursor of a number goes on to n, and no other moves
abbrev pub taken_to : Option ℕ → Ckpts → ℕ → ℕ → Ckpts × Option (List Change)
taken_to None l id place = (l, None)
taken_to (Some n) l id place = (moved_cursor l id n, Some (between place n (held_of l)))

-- a take by the cursor of a number, through the fewest checkpoints that reach `need`
abbrev pub taken_by : Ckpts → ℕ → ℕ → Ckpts × Option (List Change)
taken_by l id need = taken_to (reach_of l (place_of_cursor (place_of l.places id)) need) l id (place_of_cursor (place_of l.places id))

-- the position of the first checkpoint that goes on above a place
abbrev pub window_at : Option Span → Option Position
window_at None = None
window_at (Some w) = Some (span_position w.origin w.last)

-- the same, found among all
abbrev pub window_of : Ckpts → ℕ → Option Position
window_of l place = window_at (find (λ w. nat_lt place w.last) (all_spans (spans_of l)))
