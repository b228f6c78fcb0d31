-- when a change opens a new span
use Rattle.std.specs.Prelude.{◌≡◌, ◌↔◌, ◌⊎◌, ℕ, Bool, ◌+◌, ◌-◌, ◌<◌, ◌≤◌, List, [], ◌∷◌, length, Some, None, is_some}
use Rattle.vb_types.specs.declared.change.Act.{Act}
use Rattle.vb_types.specs.declared.change.Act.TheVariants as act
use Rattle.vb_types.specs.declared.change.Change.{Change}
use Rattle.vb_types.specs.declared.change.Level.{Level}
use Rattle.vb_types.specs.declared.doc.Doc.{Doc}
use Rattle.vb_types.specs.declared.write.Write.{Write}
use Rattle.vb_types.specs.Histories.{Rises, IsIn}
use Rattle.vb_calls.specs.declared.calls.VbCall.TheVariants.{Store, Receive, Seal}
use Rattle.vb_calls.specs.declared.calls.VbAnswer.TheVariants.{Flag}
use Rattle.vb_calls.specs.declared.span.Span.{Span}
use Rattle.vb_calls.specs.declared.span.Origin.{Origin}
use Rattle.vb_calls.specs.declared.span.Origin.TheVariants.{Own, Received}
use Rattle.vb_calls.specs.Plain.{Plain, plain_step}
use Rattle.vb_calls.specs.Spans.{all_spans, change_weight, live_in, live_count, live_weight}
use Rattle.vbucket.specs.Laws.{Sound}

-- of the changes of h that stand in a span a received one has all live, and an own one those that none of their key follows in it
abbrev pub LivesExactly : Type 0
LivesExactly = (low at : ℕ) (h : List Change) (w : Span) (c : Change) → Rises low at h
    → IsIn c (live_in w h) ↔ ((IsIn c h × (w.above < c.seq) × (c.seq ≤ w.last)) × (w.origin ≡ Own → (d : Change) → IsIn d h → d.key ≡ c.key → c.seq < d.seq → w.last < d.seq))

-- what a change of this key with this act weighs
abbrev pub Weighs : List ℕ → Act → ℕ → Type 0
Weighs key a n = (seq : ℕ) → change_weight (record { seq = seq; key = key; act = a }) ≡ n

-- 64 and the bytes of the key, and those of the value that it carries
abbrev pub WeighsInNumbers : Type 0
WeighsInNumbers = (key : List ℕ) (doc : Doc) (level : Level) (deleted : Bool) (prepared cas rev : ℕ)
    → Weighs key (act.Set doc) (64 + length key + length doc.value)
    × Weighs key (act.Remove cas rev) (64 + length key)
    × Weighs key (act.Prepare level doc deleted) (64 + length key + length doc.value)
    × Weighs key (act.Commit prepared doc deleted) (64 + length key + length doc.value)
    × Weighs key (act.Abort prepared) (64 + length key)

-- part of a durable write: a prepare, a commit or an abort
abbrev pub IsPart : Act → Type 0
IsPart (act.Set doc) = ⊥
IsPart (act.Remove cas rev) = ⊥
IsPart (act.Prepare level doc deleted) = Unit {0}
IsPart (act.Commit prepared doc deleted) = Unit {0}
IsPart (act.Abort prepared) = Unit {0}

-- the span of h has a live change of this key
abbrev pub HasKey : List Change → Span → List ℕ → Type 0
HasKey h w key = (d : Change) × IsIn d (live_in w h) × (d.key ≡ key)

-- with c as one more live change the span of h would pass a limit: 1000 changes, or 32 MiB
abbrev pub IsFull : List Change → Span → Change → Type 0
IsFull h w c = (1000 < live_count w h + 1) ⊎ (33554432 < live_weight w h + change_weight c)

-- c may not take the place of d in the span of h: one of them is part of a durable write, or the span would weigh too much
abbrev pub KeepsOut : List Change → Span → Change → Change → Type 0
KeepsOut h w d c = (IsPart d.act ⊎ IsPart c.act) ⊎ (33554432 < live_weight w h + change_weight c - change_weight d)

-- the span of h does not take the own change c: for the live change of its key, or, where there is none, for a limit
abbrev pub ShutsOwn : List Change → Span → Change → Type 0
ShutsOwn h w c = ((d : Change) × IsIn d (live_in w h) × (d.key ≡ c.key) × KeepsOut h w d c) ⊎ ((HasKey h w c.key → ⊥) × IsFull h w c)

-- the span of h does not take the received change c: it has c's key, or a limit would be passed
abbrev pub ShutsReceived : List Change → Span → Change → Type 0
ShutsReceived h w c = HasKey h w c.key ⊎ IsFull h w c

-- c has a new span, and all others are sealed
abbrev pub StandsAlone : Plain → Origin → Change → Plain → Type 0
StandsAlone vb origin c after = (after.spans.sealed ≡ all_spans vb.spans) × (after.spans.current ≡ Some (record { above = vb.position.at; last = c.seq; origin = origin }))

-- c stands in the open span w, and the sealed ones are those from before
abbrev pub Joins : Plain → Span → Change → Plain → Type 0
Joins vb w c after = (after.spans.sealed ≡ vb.spans.sealed) × (after.spans.current ≡ Some (record { above = w.above; last = c.seq; origin = w.origin }))

-- c has a new span where none was open, or where the open one does not take it; else it stands in that one
pub record Fills (vb : Plain) (origin : Origin) (Shuts : Span → Type 0) (c : Change) (after : Plain) : Type 0 where
  pub first : vb.spans.current ≡ None → StandsAlone vb origin c after
  pub new : (w : Span) → vb.spans.current ≡ Some w → StandsAlone vb origin c after ↔ Shuts w
  pub same : (w : Span) → vb.spans.current ≡ Some w → Joins vb w c after ↔ (Shuts w → ⊥)

-- the span of a write that was made
abbrev pub OwnFills : Type 0
OwnFills = (vb : Plain) (write : Write) (clock : ℕ) (c : Change) → Sound vb → (plain_step vb (Store write clock)).1.changes ≡ c ∷ []
    → Fills vb Own (λ w. ShutsOwn vb.held w c) c (plain_step vb (Store write clock)).0

-- the span of a change that was taken from the producer
abbrev pub ReceivedFills : Type 0
ReceivedFills = (vb : Plain) (change c : Change) → Sound vb → (plain_step vb (Receive change)).1.changes ≡ c ∷ []
    → Fills vb (Received vb.position.ss vb.position.se) (λ w. ShutsReceived vb.held w c) c (plain_step vb (Receive change)).0

-- a seal closes the open span and says whether there was one; nothing else changes
abbrev pub SealsExactly : Type 0
SealsExactly = (vb : Plain)
    → ((plain_step vb Seal).0 ≡ record vb { spans = record { sealed = all_spans vb.spans; current = None } }) × ((plain_step vb Seal).1.answer ≡ Flag (is_some vb.spans.current))
