-- the plain vBuckets of a node, by their numbers, and what a call makes of them
use Rattle.std.specs.Prelude.{ℕ, ◌==◌, Bool, true, false, if◌then◌else◌, Option, Some, None}
use Rattle.vb_calls.specs.Plain.{Plain, plain_step}
use Rattle.vb_calls.specs.declared.calls.VbCall.{VbCall}
use Rattle.vb_calls.specs.declared.calls.VbReply.{VbReply}

-- the vBucket at each number, where there is one
abbrev pub States : Type 0
States = ℕ → Option Plain

-- the vBuckets with this one at v
abbrev pub with_vb_at : States → ℕ → Plain → States
with_vb_at states v plain = λ w. if w == v then Some plain else states w

-- the vBuckets after the step of the one at v, and its reply
abbrev pub stepped_at : States → ℕ → Plain × VbReply → States × Option VbReply
stepped_at states v step = (with_vb_at states v step.0, Some step.1)

-- the vBuckets with a new one at v, unless one stands there, and whether it was made
abbrev pub make_at : States → ℕ → Plain → Option Plain → States × Bool
make_at states v fresh None = (with_vb_at states v fresh, true)
make_at states v fresh (Some there) = (states, false)

-- a new vBucket v, if there is none
abbrev pub states_make : States → ℕ → Plain → States × Bool
states_make states v fresh = make_at states v fresh (states v)

-- a call to the vBucket v, by what stands there
abbrev pub call_at : States → ℕ → VbCall → Option Plain → States × Option VbReply
call_at states v call None = (states, None)
call_at states v call (Some plain) = stepped_at states v (plain_step plain call)

-- a call to the vBucket v; where there is none, there is no reply
abbrev pub states_step : States → ℕ → VbCall → States × Option VbReply
states_step states v call = call_at states v call (states v)
