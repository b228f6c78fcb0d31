-- what holds of the checkpoints of every vBucket
use Rattle.std.specs.Prelude.{◌≡◌, ℕ, ◌<◌, ◌≤◌, true, if◌then◌else◌, nat_le, nat_lt, ◌&&◌, List, [], ◌∷◌, map, Option, Some, None, is_some, refl}
use Rattle.std.specs.Coded.{Coded, code_by, coded×, coded_list, coded_ℕ}
use Rattle.std.specs.FinMap as finite
use Rattle.std.specs.List.{filter}
use Rattle.vb_types.specs.declared.change.Change.{Change}
use Rattle.vb_types.specs.contracts.change.Change as change_row
use Rattle.vb_types.specs.Histories.{Rises}
use Rattle.vb_calls.specs.declared.span.Span.{Span}
use Rattle.vb_calls.specs.contracts.span.Span as span_row
use Rattle.vb_calls.specs.Spans.{is_whole, starts_below}
use Rattle.vb_calls.specs.declared.span.TheConstants.{MAX_WEIGHT}
use Rattle.checkpoint.specs.Checkpoints.{Ckpt, ckpt_last, items_weight}
use Rattle.checkpoint.specs.Codes.{ckpt_code}
use Rattle.cursor_set.specs.Cursors.{Places, place_of}
use Rattle.ckpt_list.specs.Lists.{Ckpts, between}

-- spans follow one another from the seqno `low` to `high`, and none is empty
abbrev pub Follow : ℕ → List Span → ℕ → Type 0
Follow low [] high = low ≡ high
Follow low (w ∷ ws) high = (w.above ≡ low) × (low < w.last) × Follow w.last ws high

-- where spans end at which no later one of them goes on with a received snapshot
abbrev pub ends_of_whole : List Span → List ℕ
ends_of_whole ws = filter (λ n. is_whole n ws) (map (λ w. w.last) ws)

-- where a span ends, if there is one and it reaches `need`
abbrev pub end_reaching : ℕ → Option Span → Option ℕ
end_reaching need None = None
end_reaching need (Some w) = if nat_le need w.last then Some w.last else None

-- an end, unless an open span is of a received snapshot that goes beyond it
abbrev pub whole_by : Option Span → Option ℕ → Option ℕ
whole_by current None = None
whole_by None (Some e) = Some e
whole_by (Some w) (Some e) = if nat_lt e w.last && starts_below e w.origin then None else Some e

-- sealed spans follow one another from the floor, changes rise, those of the open checkpoint above the sealed ones, and the cursor 0 is there
pub record IsSound (l : Ckpts) : Type 0 where
  pub spans : Follow l.floor l.sealed l.newest.above
  pub items : Rises l.floor l.newest.above l.items
  pub newest : Rises l.newest.above (ckpt_last l.newest) l.newest.items
  pub cursor : is_some (place_of l.places 0) ≡ true

-- what stands in each span weighs no more than a checkpoint may
abbrev pub AreLight : List Change → List Span → Type 0
AreLight items [] = Unit {0}
AreLight items (w ∷ ws) = (items_weight (between w.above w.last items) ≤ MAX_WEIGHT) × AreLight items ws

-- the same, `ends` are the whole ends of the sealed spans, and these are light
pub record HasWholes (l : Ckpts) (ends : List ℕ) : Type 0 where
  pub sound : IsSound l
  pub wholes : ends ≡ ends_of_whole l.sealed
  pub light : AreLight l.items l.sealed

-- changes that can be written down at once: they rise, and weigh no more than a checkpoint may
pub record IsBatch (low high : ℕ) (items : List Change) : Type 0 where
  pub rises : Rises low high items
  pub light : items_weight items ≤ MAX_WEIGHT

-- checkpoints as a tuple
abbrev pub ckpts_code : Coded Ckpts
ckpts_code =
    code_by ((List Span × List Change) × (Ckpt × (Places × ℕ)))
    (coded× (coded× (coded_list span_row.the_row.coded) (coded_list change_row.the_row.coded)) (coded× ckpt_code (coded× (finite.code coded_ℕ coded_ℕ) coded_ℕ)))
    (λ l. ((l.sealed, l.items), (l.newest, (l.places, l.floor))))
    (λ p. record { sealed = p.0.0; items = p.0.1; newest = p.1.0; places = p.1.1.0; floor = p.1.1.1 })
    (λ _. refl)
