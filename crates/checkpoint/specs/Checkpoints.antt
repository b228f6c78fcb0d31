-- a checkpoint that is open: which change enters it, and what it has then
use Rattle.std.specs.Prelude.{ℕ, ◌+◌, ◌-◌, Bool, ◌&&◌, not, nat_le, nat_lt, List, [], ◌∷◌, ◌++◌, length, Option, Some, None}
use Rattle.std.specs.List.{filter, find, list_any, sum_by}
use Rattle.std.specs.Str.{bytes_eq}
use Rattle.vb_types.specs.declared.change.Change.{Change}
use Rattle.vb_types.specs.Histories.{upto}
use Rattle.branch_model.specs.Histories.{last_seq}
use Rattle.vb_calls.specs.declared.span.Origin.{Origin}
use Rattle.vb_calls.specs.declared.span.Span.{Span}
use Rattle.vb_calls.specs.declared.span.TheConstants.{MAX_ITEMS, MAX_WEIGHT}
use Rattle.vb_calls.specs.Spans.{change_weight, is_durable}
use Rattle.vb_calls.specs.Streams.{is_seen}

-- the live changes above the seqno `above`, the oldest first, and where they come from
pub record Ckpt : Type 0 where
  pub above : ℕ
  pub origin : Origin
  pub items : List Change

-- no change yet
abbrev pub empty_ckpt : ℕ → Origin → Ckpt
empty_ckpt above origin = record { above = above; origin = origin; items = [] }

-- the seqno of the last change, or the one that the checkpoint is above
abbrev pub ckpt_last : Ckpt → ℕ
ckpt_last k = last_seq k.above k.items

-- the change of a key
abbrev pub item_at : List ℕ → List Change → Option Change
item_at key items = find (λ d. bytes_eq d.key key) items

-- what the changes weigh
abbrev pub items_weight : List Change → ℕ
items_weight items = sum_by change_weight items

-- a change of a key that is not there fits within both limits
abbrev pub fits_other : List Change → Change → Bool
fits_other items c = nat_lt (length items) MAX_ITEMS && nat_le (items_weight items + change_weight c) MAX_WEIGHT

-- a change fits in place of d, which has its key: neither is part of a durable write, and the weight is within its limit
abbrev pub fits_newer : List Change → Change → Change → Bool
fits_newer items d c = not (is_durable d.act) && not (is_durable c.act) && nat_le (items_weight items + change_weight c - change_weight d) MAX_WEIGHT

-- a change fits where its key has this change, or none; a received one replaces none
abbrev pub fits_by : Bool → List Change → Option Change → Change → Bool
fits_by own items None c = fits_other items c
fits_by own items (Some d) c = own && fits_newer items d c

-- a change, the vBucket's own or a received one, fits
abbrev pub fits_in : Bool → List Change → Change → Bool
fits_in own items c = fits_by own items (item_at c.key items) c

-- a change takes the last place; the earlier one of its key goes
abbrev pub entered : List Change → Change → List Change
entered items c = filter (λ d. not (bytes_eq d.key c.key)) items ++ c ∷ []

-- the checkpoint with a change
abbrev pub ckpt_with : Ckpt → Change → Ckpt
ckpt_with k c = record { above = k.above; origin = k.origin; items = entered k.items c }

-- the checkpoint without the changes above a seqno
abbrev pub cut_to : ℕ → Ckpt → Ckpt
cut_to last k = record { above = k.above; origin = k.origin; items = upto k.items last }

-- the changes above a place
abbrev pub items_above : ℕ → List Change → List Change
items_above place items = filter (λ c. nat_lt place c.seq) items

-- a stream at this place sees one of the changes
abbrev pub has_seen : Bool → ℕ → List Change → Bool
has_seen sync place items = list_any (λ c. nat_lt place c.seq && is_seen sync c.act) items

-- the span that the changes stand in, if there are any
abbrev pub span_by : ℕ → Origin → List Change → Option Span
span_by above origin [] = None
span_by above origin (c ∷ cs) = Some (record { above = above; last = last_seq c.seq cs; origin = origin })

-- the checkpoint's span, if it has changes
abbrev pub ckpt_span : Ckpt → Option Span
ckpt_span k = span_by k.above k.origin k.items
