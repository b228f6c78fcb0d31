-- the number under which a session awaits an outcome is the last one that it gave
use Rattle.std.specs.Prelude.{◌≡◌, ◌<◌, ◌+◌, ◌*◌, ◌^◌, ◌==◌, if◌then◌else◌, nat_le}
use Rattle.transcript_law.proofs.Words.{ℕ, Bool, true, false, refl, ap, sym, ◌∙◌, arith, map, nat_tests, Option, Some, None, is_some, Result, Ok, Err, Frame, KvRequest, RESPONSE, Status, PlainSession, VbReply, States, after, Done, frame_handled, request_handled, told}
use Rattle.client_session.proofs.{Conduct.{either}, Keeping.{front_of}}
use Rattle.client_session.specs.Serving.{MOST_DURABLE, Served, awaited_by, deadline_of, durable_answered, durable_called, durable_replied, frame_answered, handed, is_dcp, next_waiter, outcome_of, refused, with_lines, with_used}
use Rattle.client_session.specs.declared.session.{Awaited.{Awaited}, Who.{Who}}
use Rattle.mcbp_kv.specs.Requests.{request_of}
use Rattle.mcbp_kv.specs.declared.durable.Durability.{Durability}
use Rattle.mcbp_kv.specs.declared.request.KvRequest.TheVariants as request
use Rattle.node_core.specs.Clients.{Handling, PlainClient, client_posted}
use Rattle.transcript_law.proofs.awaiting.Frames.{not_held}
use Rattle.transcript_law.proofs.indexers.Turns.{posted_goes}
use Rattle.vb_calls.proofs.Conduct.{after_always}
use Rattle.vb_calls.specs.Programs.{Always, AnyCall}
use Rattle.vb_calls.specs.declared.calls.{Resolution.{Resolution}, Resolved.{Resolved}, VbAnswer.{VbAnswer}}
use Rattle.vb_calls.specs.declared.calls.VbAnswer.TheVariants as answer
use Rattle.vb_calls.specs.declared.calls.VbCall.TheVariants as call
use Rattle.vb_events.specs.declared.event.Event.TheVariants as event
use Rattle.vb_types.specs.declared.status.Status.TheVariants.{Etmpfail}
use Rattle.vb_types.specs.declared.write.Write.{Write}

-- a session of this connection, which gave so many numbers, and awaits the last one of them, if it awaits one
pub record Counted (who : Who) (s : PlainSession) : Type 0 where
  pub who_is : s.who ≡ who
  pub few : s.used < 2 ^ 32
  pub number : (a : Awaited) → s.awaited ≡ Some a → a.waiter ≡ s.who.base * 2 ^ 32 + s.used

module _ (who : Who) where
  idle_counted : (s : PlainSession) → s.who ≡ who → s.used < 2 ^ 32 → s.awaited ≡ None → Counted who s
  idle_counted s same few idle = record { who_is = same; few = few; number = λ a e. let z : None ≡ Some a = sym idle ∙ e in absurd (cc z) }

  answered_counted : (waiter : ℕ) (f : Frame) (how : Option Resolution) (said : VbAnswer) (t : Served) → t.session.who ≡ who → t.session.used < 2 ^ 32 → t.session.awaited ≡ None → waiter ≡ t.session.who.base * 2 ^ 32 + t.session.used
      → Counted who (durable_answered waiter f how said t).session
  answered_counted waiter f how (answer.Status st) t same few idle is = idle_counted (refused f st t).session same few idle
  answered_counted waiter f None (answer.Prepared seq cas) t same few idle is =
      record { who_is = same; few = few; number = λ a e. let k : awaited_by waiter f ≡ a = cc in sym (ap (λ (x : Awaited). x.waiter) k) ∙ is }
  answered_counted waiter f (Some how) (answer.Prepared seq cas) t same few idle is = record { who_is = same; few = few; number = λ a e. absurd (cc e) }
  answered_counted waiter f how other t same few idle is = idle_counted t.session same few idle

  replied_counted : (f : Frame) (s : Served) (reply : Option VbReply) → s.session.who ≡ who → s.session.used + 1 < 2 ^ 32 → s.session.awaited ≡ None → Counted who (durable_replied (next_waiter s.session) f (with_used s) reply).session
  unfolding durable_replied
  replied_counted f s None same few idle = record { who_is = same; few = few; number = λ a e. let z : None ≡ Some a = sym idle ∙ e in absurd (cc z) }
  replied_counted f s (Some reply) same few idle =
      answered_counted (next_waiter s.session) f (outcome_of (next_waiter s.session) reply.resolved) reply.answer (with_lines (with_used s) (map (event.Changed s.session.who.node f.vb_or_status reply.branch) reply.changes)) same few idle refl

  abbrev On : Served → Type 0
  On t = Counted who t.session

  under_most : (used : ℕ) → nat_le MOST_DURABLE used ≡ false → used + 1 < 2 ^ 32
  under_most used e = grind (arith, nat_tests)

  durable_counted : (clock : ℕ) (f : Frame) (write : Write) (wish : Durability) (s : Served) → s.session.awaited ≡ None → On s → (b : Bool) → nat_le MOST_DURABLE s.session.used ≡ b
      → Always AnyCall On (if b then Done (refused f Etmpfail s) else durable_called f (call.Durable write clock wish.level (deadline_of clock wish.timeout) (next_waiter s.session)) s)
  durable_counted clock f write wish s idle on true e = idle_counted (refused f Etmpfail s).session on.who_is on.few idle
  durable_counted clock f write wish s idle on false e = (tt, λ reply any. replied_counted f s reply on.who_is (under_most s.session.used e) idle)

  request_counted : (clock : ℕ) (f : Frame) (r : Result KvRequest Status) (s : Served) → s.session.awaited ≡ None → On s → Always AnyCall On (request_handled clock f r s)
  unfolding request_handled told
  request_counted clock f (Err st) s idle on = record { who_is = on.who_is; few = on.few; number = on.number }
  request_counted clock f (Ok request.Noop) s idle on = record { who_is = on.who_is; few = on.few; number = on.number }
  request_counted clock f (Ok (request.Hello features)) s idle on = record { who_is = on.who_is; few = on.few; number = on.number }
  request_counted clock f (Ok (request.Get key)) s idle on = (tt, λ reply any. record { who_is = on.who_is; few = on.few; number = on.number })
  request_counted clock f (Ok (request.Write write None)) s idle on = (tt, λ reply any. record { who_is = on.who_is; few = on.few; number = on.number })
  request_counted clock f (Ok (request.Write write (Some wish))) s idle on = durable_counted clock f write wish s idle on (nat_le MOST_DURABLE s.session.used) refl

  frame_counted : (clock : ℕ) (f : Frame) (s : Served) → s.session.awaited ≡ None → On s → Always AnyCall On (frame_handled clock f s)
  unfolding frame_handled
  frame_counted clock f s idle on =
      either (Always AnyCall On) (f.magic == RESPONSE) (Done s) (if is_dcp f.opcode then Done (handed f s) else frame_answered clock f s) on
      (either (Always AnyCall On) (is_dcp f.opcode) (Done (handed f s)) (frame_answered clock f s) (record { who_is = on.who_is; few = on.few; number = on.number }) (request_counted clock f (request_of s.session.settings.json f) s idle on))

  abbrev At : States × Handling → Type 0
  At x = Counted who x.1.client.session

  pub posted_counted : (clock : ℕ) (o : Resolved) (client : PlainClient) (states : States) (a : Awaited) → client.session.awaited ≡ Some a → (a.waiter == o.waiter) ≡ true → Counted who client.session
      → Counted who (after (client_posted clock o client) states).1.client.session
  posted_counted clock o client states a waits same on = (posted_goes At clock
      (λ before producer f states s free first p.
      after_always AnyCall On (frame_handled clock f (front_of f s)) states
      (frame_counted clock f (front_of f s) (not_held (is_some s.dcp) s.session.awaited free) (record { who_is = p.who_is; few = p.few; number = p.number })))
      (λ before producer fault states s free first p. record { who_is = p.who_is; few = p.few; number = p.number }) (λ f states h e p. p) (λ states h none e p. p) o client states a waits same
      (record { who_is = on.who_is; few = on.few; number = λ b e. absurd (cc e) })).0
