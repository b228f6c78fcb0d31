-- which calls are made where
use Rattle.vb_calls.specs.declared.calls.VbCall.{VbCall}
use Rattle.vb_calls.specs.declared.calls.VbCall.TheVariants as call

-- the calls that `step` hands on: all but those for a client, a durable write or a stream
abbrev pub IsOther : VbCall → Type 0
IsOther (call.Get key) = ⊥
IsOther (call.Store write clock) = ⊥
IsOther (call.Durable write clock level deadline waiter) = ⊥
IsOther (call.Chain chain) = ⊥
IsOther (call.Ack member seq) = ⊥
IsOther (call.Tick clock) = ⊥
IsOther call.Due = ⊥
IsOther (call.OpenStream id ask sync) = ⊥
IsOther (call.Place id) = ⊥
IsOther (call.Take id) = ⊥
IsOther (call.CloseStream id) = ⊥
IsOther other = Unit {0}
