-- which plain vBuckets those that are kept stand for
use Rattle.std.specs.Prelude.{◌≡◌, ℕ, Bool, true, List, [], Option, Some, None, is_some}
use Rattle.std.specs.List.{flat_map}
use Rattle.vb_types.specs.declared.change.Change.{Change}
use Rattle.vb_calls.specs.declared.span.Span.{Span}
use Rattle.vb_calls.specs.declared.calls.VbCall.{VbCall}
use Rattle.vb_calls.specs.declared.calls.VbCall.TheVariants as call
use Rattle.vb_calls.specs.State.{Plain, image_in, is_active}
use Rattle.vb_calls.specs.Spans.{Spans, live_in, no_spans}
use Rattle.cursor_set.specs.Cursors.{place_of}
use Rattle.ckpt_list.specs.Lists.{Ckpts, spans_of, high_of}
use Rattle.vbucket.specs.Kept.{Kept}
use Rattle.vbucket.specs.Laws.{AreSpanned}
use Rattle.vbucket.specs.declared.vb_map.VbSlot.{VbSlot}
use Rattle.vbucket.specs.Rows.{row_at}
use Rattle.vb_calls.specs.States.{States}

-- all but the changes, their spans, and where these begin and were taken to: what they leave in their place
abbrev pub folded : Plain → Plain
folded s = record s { base = image_in s; held = []; spans = no_spans; floor = 0; flushed = 0 }

-- the live changes of the open span, if there is one
abbrev pub open_live : Option Span → List Change → List Change
open_live None h = []
open_live (Some w) h = live_in w h

-- the checkpoints are the spans, each with its live changes of h, up to the last seqno
pub record ListStands (l : Ckpts) (ws : Spans) (h : List Change) (at : ℕ) : Type 0 where
  pub spans : spans_of l ≡ ws
  pub items : l.items ≡ flat_map (λ w. live_in w h) ws.sealed
  pub newest : l.newest.items ≡ open_live ws.current h
  pub high : high_of l ≡ at

-- its changes, their spans, and what was taken of them to be written down
abbrev pub IsSpanned : Plain → Type 0
IsSpanned s = AreSpanned s.role s.floor s.position.at s.held s.spans s.flushed

-- what is kept stands for a vBucket: its table is what the changes leave, its checkpoints hold the live ones above the floor, the cursor 0 stands where they were taken to, and all else is equal
pub record IsKept (kept : Kept) (s : Plain) : Type 0 where
  pub spanned : IsSpanned s
  pub rest : kept.rest ≡ folded s
  pub list : ListStands kept.list s.spans s.held s.position.at
  pub floor : kept.list.floor ≡ s.floor
  pub zero : place_of kept.list.places 0 ≡ Some s.flushed

-- what a vBucket's kept state stands for
unfoldable pub StandsFor : Kept → Plain → Type 0
StandsFor kept plain = IsKept kept plain

-- a call may fail here for want of memory, as far as the role goes: a batch that is done fails at an active vBucket alone
abbrev pub MayFail : Plain → VbCall → Type 0
MayFail plain (call.FlushDone receipt) = is_active plain.role ≡ true
MayFail plain (call.Get key) = Unit {0}
MayFail plain (call.Store write clock) = Unit {0}
MayFail plain (call.Durable write clock level deadline waiter) = Unit {0}
MayFail plain (call.Chain chain) = Unit {0}
MayFail plain (call.Ack member seq) = Unit {0}
MayFail plain (call.Tick clock) = Unit {0}
MayFail plain call.Due = Unit {0}
MayFail plain (call.OpenStream id ask sync) = Unit {0}
MayFail plain (call.Place id) = Unit {0}
MayFail plain (call.Take id) = Unit {0}
MayFail plain (call.CloseStream id) = Unit {0}
MayFail plain (call.DropCursor id) = Unit {0}
MayFail plain call.Ask = Unit {0}
MayFail plain (call.Adopt log) = Unit {0}
MayFail plain (call.Marker start end) = Unit {0}
MayFail plain (call.Receive change) = Unit {0}
MayFail plain (call.RollTo at image cas) = Unit {0}
MayFail plain (call.Promote uuid) = Unit {0}
MayFail plain call.Follow = Unit {0}
MayFail plain call.Dead = Unit {0}
MayFail plain call.Pend = Unit {0}
MayFail plain call.Own = Unit {0}
MayFail plain (call.Yield id) = Unit {0}
MayFail plain call.Seal = Unit {0}
MayFail plain call.Trim = Unit {0}
MayFail plain call.FlushTake = Unit {0}
MayFail plain call.Stat = Unit {0}
MayFail plain call.Log = Unit {0}
MayFail plain call.Show = Unit {0}

-- the number of the vBucket in a slot
abbrev pub slot_number : VbSlot → ℕ
slot_number slot = slot.number

-- there is a slot of this number
abbrev pub has_slot : List VbSlot → ℕ → Bool
has_slot slots v = is_some (row_at slot_number v slots)

-- a slot is there exactly where the vBucket is, and stands for it
abbrev pub SlotStands : Option VbSlot → Option Plain → Type 0
SlotStands None None = Unit {0}
SlotStands (Some slot) (Some plain) = StandsFor slot.vb plain
SlotStands None (Some plain) = ⊥
SlotStands (Some slot) None = ⊥

-- the slots stand for the vBuckets: it is so at every number
abbrev pub SlotsStand : List VbSlot → States → Type 0
SlotsStand slots states = (v : ℕ) → SlotStands (row_at slot_number v slots) (states v)
