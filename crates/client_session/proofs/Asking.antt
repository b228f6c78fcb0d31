-- which call a request makes
use Rattle.std.proofs.Common.{◌<◌, ℕ, refl, sym, ap, subst, Some, None, Ok}
use Rattle.std.specs.Prelude.{if◌then◌else◌, List}
use Rattle.mcbp_frame.specs.declared.frame.Frame.{Frame}
use Rattle.mcbp_kv.specs.declared.durable.Durability.{Durability}
use Rattle.mcbp_kv.specs.declared.request.KvRequest.TheVariants as request
use Rattle.vb_types.specs.declared.write.Write.{Write}
use Rattle.vb_types.specs.declared.status.Status.TheVariants as status
use Rattle.vb_calls.specs.declared.calls.VbCall.{VbCall}
use Rattle.vb_calls.specs.declared.calls.VbCall.TheVariants as call
use Rattle.vb_calls.specs.Programs.{Done}
use Rattle.client_session.specs.Asking.{AsksFirst}
use Rattle.client_session.specs.Serving.{Served, MOST_DURABLE, refused, next_waiter, deadline_of, durable_called, request_handled}
use Rattle.client_session.proofs.Outcomes.{room_at}

pub get_asks : (clock : ℕ) (f : Frame) (key : List ℕ) (s : Served) → AsksFirst f.vb_or_status (call.Get key) (request_handled clock f (Ok (request.Get key)) s)
unfolding request_handled
get_asks clock f key s = (refl, refl)

pub write_asks : (clock : ℕ) (f : Frame) (write : Write) (s : Served) → AsksFirst f.vb_or_status (call.Store write clock) (request_handled clock f (Ok (request.Write write None)) s)
unfolding request_handled
write_asks clock f write s = (refl, refl)

pub durable_asks : (clock : ℕ) (f : Frame) (write : Write) (wish : Durability) (s : Served) → s.session.used < MOST_DURABLE
    → AsksFirst f.vb_or_status (call.Durable write clock wish.level (deadline_of clock wish.timeout) (next_waiter s.session)) (request_handled clock f (Ok (request.Write write (Some wish))) s)
unfolding request_handled
durable_asks clock f write wish s h =
    let c : VbCall = call.Durable write clock wish.level (deadline_of clock wish.timeout) (next_waiter s.session) in
    subst (AsksFirst f.vb_or_status c)
    (sym (ap (λ b. if b then Done (refused f status.Etmpfail s) else durable_called f c s) (room_at s.session.used h)))
    (refl, refl)
