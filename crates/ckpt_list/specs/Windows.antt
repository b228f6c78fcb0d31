-- several changes at once: full checkpoints before they are sealed, and the open one behind them
use Rattle.std.specs.Prelude.{ℕ, ◌≡◌, ◌<◌, true, ◌&&◌, if◌then◌else◌, not, nat_lt, List, [], ◌∷◌, ◌++◌, length, Option, Some, None, option_to_list}
use Rattle.std.specs.List.{All, filter, fold, sum_by}
use Rattle.std.specs.List.Sorted.{IsNonDecreasingBy}
use Rattle.vb_types.specs.declared.change.Change.{Change}
use Rattle.vb_calls.specs.declared.span.Origin.TheVariants.{Own}
use Rattle.vb_calls.specs.declared.span.Span.{Span}
use Rattle.vb_calls.specs.Spans.{is_durable, starts_below}
use Rattle.checkpoint.specs.Checkpoints.{Ckpt, empty_ckpt, ckpt_last, ckpt_span, ckpt_with, fits_in}
use Rattle.ckpt_list.specs.Lists.{Ckpts, queued}

-- own changes are taken in, one after the other
abbrev pub queued_all : Ckpts → List Change → Ckpts
queued_all l changes = fold (λ m c. queued m Own c) l changes

-- prepares, commits and aborts, by seqnos that rise above `low`
abbrev pub ArePartsAbove : ℕ → List Change → Type 0
ArePartsAbove low [] = Unit {0}
ArePartsAbove low (c ∷ cs) = (low < c.seq) × (is_durable c.act ≡ true) × ArePartsAbove c.seq cs

-- full checkpoints, the oldest first, and the open one: an own change enters the open one if that has changes and takes it; else that is full, and a new one opens
abbrev pub put_in : List Ckpt × Ckpt → Change → List Ckpt × Ckpt
put_in f c =
    if nat_lt 0 (length f.1.items) && fits_in true f.1.items c then (f.0, ckpt_with f.1 c) else (f.0 ++ f.1 ∷ [], ckpt_with (empty_ckpt (ckpt_last f.1) Own) c)

-- the first of full checkpoints, or the open one
abbrev pub first_of : List Ckpt → Ckpt → Ckpt
first_of [] k = k
first_of (w ∷ ws) k = w

-- the whole ends behind one more sealed span
abbrev pub ends_behind : Option Span → List ℕ → List ℕ
ends_behind None ends = ends
ends_behind (Some w) ends = filter (λ e. not (nat_lt e w.last && starts_below e w.origin)) ends ++ w.last ∷ []

-- the sealed checkpoints' spans, their changes, and the whole ends
pub record Sealed : Type 0 where
  pub spans : List Span
  pub items : List Change
  pub ends : List ℕ

-- one more checkpoint behind them, if it has changes
abbrev pub sealed_behind : Sealed → Ckpt → Sealed
sealed_behind s w = record { spans = s.spans ++ option_to_list (ckpt_span w); items = s.items ++ w.items; ends = ends_behind (ckpt_span w) s.ends }

-- the whole ends rise and lie below each checkpoint that is sealed behind them
abbrev pub CanSeal : List ℕ → List Ckpt → Type 0
CanSeal ends [] = Unit {0}
CanSeal ends (w ∷ ws) =
    IsNonDecreasingBy (λ (e : ℕ). e) ends × ((s : Span) → ckpt_span w ≡ Some s → All (λ e. e < s.last) ends) × CanSeal (ends_behind (ckpt_span w) ends) ws

-- how many changes there are in checkpoints
abbrev pub count_in : List Ckpt → ℕ
count_in ws = sum_by (λ w. length w.items) ws
