-- spans: the runs of changes that a vBucket hands out as wholes
use Rattle.std.specs.Prelude.{ℕ, ◌+◌, ◌-◌, Bool, true, false, ◌||◌, ◌&&◌, not, if◌then◌else◌, nat_le, nat_lt, List, [], ◌∷◌, ◌++◌, length, Option, Some, None, option_to_list}
use Rattle.std.specs.List.{filter, list_any, list_all, sum_by}
use Rattle.std.specs.Str.{bytes_eq}
use Rattle.vb_types.specs.declared.change.Act.{Act}
use Rattle.vb_types.specs.declared.change.Act.TheVariants as act
use Rattle.vb_types.specs.declared.change.Change.{Change}
use Rattle.vb_types.specs.declared.position.Position.{Position}
use Rattle.vb_types.specs.Histories.{Slot, last_of}
use Rattle.vb_calls.specs.declared.span.Span.{Span}
use Rattle.vb_calls.specs.declared.span.Origin.{Origin}
use Rattle.vb_calls.specs.declared.span.Origin.TheVariants.{Own, Received}
use Rattle.vb_calls.specs.declared.span.TheConstants.{MAX_ITEMS, MAX_WEIGHT, BASE_WEIGHT}

-- the spans of a vBucket, the oldest first: those that no change enters any more, and the one that the next may enter
pub record Spans : Type 0 where
  pub sealed : List Span
  pub current : Option Span

-- no change yet
abbrev pub no_spans : Spans
no_spans = record { sealed = []; current = None }

-- all of them
abbrev pub all_spans : Spans → List Span
all_spans ws = ws.sealed ++ option_to_list ws.current

-- the open span is sealed, where there is one
abbrev pub with_seal : Spans → Spans
with_seal ws = record { sealed = all_spans ws; current = None }

-- the bytes of the value that an act carries
abbrev pub value_size : Act → ℕ
value_size (act.Set doc) = length doc.value
value_size (act.Remove cas rev) = 0
value_size (act.Prepare level doc deleted) = length doc.value
value_size (act.Commit prepared doc deleted) = length doc.value
value_size (act.Abort prepared) = 0

-- 64 and the lengths of key and value
abbrev pub change_weight : Change → ℕ
change_weight c = BASE_WEIGHT + length c.key + value_size c.act

-- a prepare, a commit or an abort
abbrev pub is_durable : Act → Bool
is_durable (act.Set doc) = false
is_durable (act.Remove cas rev) = false
is_durable (act.Prepare level doc deleted) = true
is_durable (act.Commit prepared doc deleted) = true
is_durable (act.Abort prepared) = true

-- a key's last change
abbrev pub last_at : List Change → List ℕ → Option Change
last_at held key = last_of (Slot.Pending key) held

-- the changes of h above `low` and up to `high`
abbrev pub stretch : ℕ → ℕ → List Change → List Change
stretch low high h = filter (λ c. nat_lt low c.seq && nat_le c.seq high) h

-- the changes that none of their key follows
abbrev pub key_lasts : List Change → List Change
key_lasts [] = []
key_lasts (c ∷ cs) = if list_any (λ d. bytes_eq d.key c.key) cs then key_lasts cs else c ∷ key_lasts cs

-- no later change of an own span has the key of a live one
abbrev pub is_live_by : Origin → Change → List Change → Bool
is_live_by Own c later = not (list_any (λ d. bytes_eq d.key c.key) later)
is_live_by (Received ss se) c later = true

-- the live ones of a span's changes: of own ones the last of each key, of received ones all
abbrev pub live_of : Origin → List Change → List Change
live_of Own cs = key_lasts cs
live_of (Received ss se) cs = cs

-- the live changes of a span of h
abbrev pub live_in : Span → List Change → List Change
live_in w h = live_of w.origin (stretch w.above w.last h)

-- how many live changes a span of h has
abbrev pub live_count : Span → List Change → ℕ
live_count w h = length (live_in w h)

-- what they weigh
abbrev pub live_weight : Span → List Change → ℕ
live_weight w h = sum_by change_weight (live_in w h)

-- a span of c alone, above the seqno `above`
abbrev pub span_of : ℕ → Origin → Change → Span
span_of above origin c = record { above = above; last = c.seq; origin = origin }

-- a span that goes on to c
abbrev pub span_to : Span → Change → Span
span_to w c = record { above = w.above; last = c.seq; origin = w.origin }

-- the span of h with c, whose key is not in it; none where a limit would be passed
abbrev pub with_other : List Change → Span → Change → Option Span
with_other h w c = if nat_le MAX_ITEMS (live_count w h) || nat_lt MAX_WEIGHT (live_weight w h + change_weight c) then None else Some (span_to w c)

-- the span of h with c in place of d, which has its key; none where either is part of a durable write, or the weight would pass the limit
abbrev pub with_newer : List Change → Span → Change → Change → Option Span
with_newer h w d c =
    if is_durable d.act || is_durable c.act || nat_lt MAX_WEIGHT (live_weight w h + change_weight c - change_weight d) then None
    else Some (span_to w c)

-- the span of h with an own change, whose key had this change before
abbrev pub with_own : List Change → Span → Option Change → Change → Option Span
with_own h w None c = with_other h w c
with_own h w (Some d) c = if nat_lt w.above d.seq then with_newer h w d c else with_other h w c

-- the span of h with a received change, which replaces none
abbrev pub with_received : List Change → Span → Option Change → Change → Option Span
with_received h w None c = with_other h w c
with_received h w (Some d) c = if nat_lt w.above d.seq then None else with_other h w c

-- the open span of h with an own change, if there is one that takes it
abbrev pub own_joined : List Change → Option Span → Option Change → Change → Option Span
own_joined h None earlier c = None
own_joined h (Some w) earlier c = with_own h w earlier c

-- the open span of h with a received change, if there is one that takes it
abbrev pub received_joined : List Change → Option Span → Option Change → Change → Option Span
received_joined h None earlier c = None
received_joined h (Some w) earlier c = with_received h w earlier c

-- the spans after a change: `joined` is the open one with it, and `alone` a new one
abbrev pub with_change : Spans → Option Span → Span → Spans
with_change ws None alone = record { sealed = all_spans ws; current = Some alone }
with_change ws (Some joined) alone = record { sealed = ws.sealed; current = Some joined }

-- a received span of a snapshot that starts below n
abbrev pub starts_below : ℕ → Origin → Bool
starts_below n Own = false
starts_below n (Received ss se) = nat_lt ss n

-- no span that goes on above n is of a received snapshot that starts below n
abbrev pub is_whole : ℕ → List Span → Bool
is_whole n ws = list_all (λ w. not (nat_lt n w.last && starts_below n w.origin)) ws

-- where a vBucket stands once it has the changes of this origin up to n: at n, and of received ones in the snapshot that they are of
abbrev pub span_position : Origin → ℕ → Position
span_position Own n = record { ss = n; se = n; at = n }
span_position (Received ss se) n = record { ss = ss; se = se; at = n }
