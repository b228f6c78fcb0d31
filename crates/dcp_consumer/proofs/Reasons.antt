-- which answers are passed over, and which frames end a link for which reason
use Rattle.std.proofs.Common.{◌≡◌, ◌≢◌, ℕ, sym, ap, ◌∙◌, subst, inl, inr, Some, None}
use Rattle.std.specs.Prelude.{◌↔◌, ◌==◌, if◌then◌else◌}
use Rattle.mcbp_frame.specs.declared.frame.Frame.{Frame}
use Rattle.vb_events.specs.declared.event.EndReason.{EndReason}
use Rattle.vb_events.specs.declared.event.EndReason.TheVariants as reason
use Rattle.dcp_consumer.specs.Conduct.{AnswersTo, Awaits, awaited, IsAnswer, Comes, Ends}
use Rattle.dcp_consumer.specs.States.{ComesTo, EndsAt}
use Rattle.dcp_consumer.specs.Machine.{PlainConsumer, over_why, moved_by, frame_step, stepped, consumer_step}
use Rattle.dcp_consumer.specs.declared.handshake.Handshake.{Handshake}
use Rattle.dcp_consumer.specs.declared.handshake.Handshake.TheVariants as handshake
use Rattle.dcp_consumer.specs.declared.handshake.ConsumerStep.{ConsumerStep}
use Rattle.dcp_consumer.specs.declared.handshake.ConsumerStep.TheVariants as step
use Rattle.dcp_consumer.specs.declared.passive_stream.Passive.TheVariants as passive
use Rattle.dcp_consumer.proofs.Steps.{awaits_live}
use Rattle.dcp_consumer.proofs.States.{comes_to_so, comes_to_itself}
use Rattle.dcp_consumer.proofs.Moves.{ends_so}

-- ---- the answer that is waited for, by its numbers

abbrev pair : ℕ → ℕ → ℕ × ℕ
pair opaque opcode = (opaque, opcode)

numbers : (opaque opcode : ℕ) (f : Frame) → f.magic ≡ 0x81 → Some (pair opaque opcode) ≡ Some (pair f.opaque f.opcode) → AnswersTo opaque opcode f
numbers opaque opcode f magic e =
    let p : pair opaque opcode ≡ pair f.opaque f.opcode = cc in (magic, sym (ap (λ q. q.0) p), sym (ap (λ q. q.1) p))

awaits : (buffer : ℕ) (h : Handshake) (n : ℕ) (f : Frame) → IsAnswer buffer h n f → Awaits buffer h n f
awaits buffer handshake.Opening n f a = numbers 1 0x50 f a.0 a.1
awaits buffer handshake.Buffering n f a = numbers 2 0x5e f a.0 a.1
awaits buffer handshake.SyncWrites n f a = numbers (if buffer == 0 then 2 else 3) 0x5e f a.0 a.1
awaits buffer handshake.Naming n f a = numbers (if buffer == 0 then 3 else 4) 0x5e f a.0 a.1
awaits buffer handshake.Asking n f a = numbers n 0x53 f a.0 a.1
awaits buffer other n f a = let e : None ≡ Some (pair f.opaque f.opcode) = a.1 in cc

named : (opaque opcode : ℕ) (f : Frame) → AnswersTo opaque opcode f → Some (pair opaque opcode) ≡ Some (pair f.opaque f.opcode)
named opaque opcode f a = λ i. Some (sym a.1 i, sym a.2 i)

is_answer : (buffer : ℕ) (h : Handshake) (n : ℕ) (f : Frame) → Awaits buffer h n f → IsAnswer buffer h n f
is_answer buffer handshake.Opening n f a = (a.0, named 1 0x50 f a)
is_answer buffer handshake.Buffering n f a = (a.0, named 2 0x5e f a)
is_answer buffer handshake.SyncWrites n f a = (a.0, named (if buffer == 0 then 2 else 3) 0x5e f a)
is_answer buffer handshake.Naming n f a = (a.0, named (if buffer == 0 then 3 else 4) 0x5e f a)
is_answer buffer handshake.Asking n f a = (a.0, named n 0x53 f a)
is_answer buffer other n f a = absurd a

comes_at : (c : PlainConsumer) (f : Frame) (s : ConsumerStep) → frame_step c f ≡ s → ComesTo c f s
comes_at c f s e = subst (ComesTo c f) e (comes_to_itself c f)

-- what is passed over is no such answer
passed_by : (buffer : ℕ) (h : Handshake) (n : ℕ) (f : Frame) → Comes buffer h n f step.Dropped → IsAnswer buffer h n f → ⊥
passed_by buffer h n f (inl over) a = over (awaits_live buffer h n f (awaits buffer h n f a))
passed_by buffer h n f (inr p) a = p.1 (awaits buffer h n f a)

pub passed_over : (c : PlainConsumer) (f : Frame) → f.magic ≡ 0x81 → (consumer_step c f ≡ (c, step.Dropped)) ↔ (awaited c.dialed.buffer c.handshake c.asked ≢ Some (f.opaque, f.opcode))
passed_over c f magic = (
  λ e a. passed_by c.dialed.buffer c.handshake c.asked f (comes_at c f step.Dropped (ap (λ p. p.1) e)) (magic, a),
  λ never. ap (λ (s : ConsumerStep). (stepped s c, s)) (comes_to_so c f step.Dropped (inr (magic, λ a. never (is_answer c.dialed.buffer c.handshake c.asked f a).1))),
)

-- ---- the reasons

by_frame : (c : PlainConsumer) (f : Frame) (why : EndReason) (s : ConsumerStep) → Ends why s → ComesTo c f s → EndsAt why c f
by_frame c f reason.Cut s e p = absurd e
by_frame c f reason.Disk s e p = absurd e
by_frame c f reason.Refused s e p =
    let q : ComesTo c f (step.Over reason.Refused) = subst (ComesTo c f) e p in (is_answer c.dialed.buffer c.handshake c.asked f q.0, q.1, q.2)
by_frame c f reason.Protocol s (inl e) p =
    let q : ComesTo c f (step.Over reason.Protocol) = subst (ComesTo c f) e p in (
      inl (q.0, is_answer c.dialed.buffer c.handshake c.asked f (subst (λ k. Awaits c.dialed.buffer k c.asked f) (sym q.0) q.1), q.2, q.3),
      λ take obeys. let z : handshake.Asking ≡ handshake.Streaming = sym q.0 ∙ obeys.0.1 in cc,
    )
by_frame c f reason.Protocol s (inr e) p =
    let q : ComesTo c f (step.Passive passive.Protocol) = subst (ComesTo c f) e p in (inr (q.0.0.0, q.0.1, q.0.2), q.1)
by_frame c f reason.Done s e p =
    let q : ComesTo c f (step.Passive (passive.End reason.Done)) = subst (ComesTo c f) e p in (q.0.0, q.1, q.2)
by_frame c f reason.State s e p =
    let q : ComesTo c f (step.Passive (passive.End reason.State)) = subst (ComesTo c f) e p in (q.0.0, q.1, q.2)

moved_so : (c : PlainConsumer) (f : Frame) (s : ConsumerStep) → ComesTo c f s → (consumer_step c f).0.handshake ≡ moved_by c.dialed.buffer s c.handshake
moved_so c f s p = ap (λ s. moved_by c.dialed.buffer s c.handshake) (comes_to_so c f s p)

ends_by_frame : (c : PlainConsumer) (f : Frame) (why : EndReason) → over_why c.handshake ≡ None → EndsAt why c f → (consumer_step c f).0.handshake ≡ handshake.Over why
ends_by_frame c f reason.Cut live p = absurd p
ends_by_frame c f reason.Disk live p = absurd p
ends_by_frame c f reason.Refused live p = moved_so c f (step.Over reason.Refused) (awaits c.dialed.buffer c.handshake c.asked f p.0, p.1, p.2)
ends_by_frame c f reason.Protocol live (inl p, none) =
    let a : Awaits c.dialed.buffer handshake.Asking c.asked f = subst (λ k. Awaits c.dialed.buffer k c.asked f) p.0 (awaits c.dialed.buffer c.handshake c.asked f p.1) in
    moved_so c f (step.Over reason.Protocol) (p.0, a, p.2, p.3)
ends_by_frame c f reason.Protocol live (inr p, none) = moved_so c f (step.Passive passive.Protocol) (((p.0, live), p.1, p.2), none)
ends_by_frame c f reason.Done live p = moved_so c f (step.Passive (passive.End reason.Done)) ((p.0, live), p.1, p.2)
ends_by_frame c f reason.State live p = moved_so c f (step.Passive (passive.End reason.State)) ((p.0, live), p.1, p.2)

pub reasons_so : (c : PlainConsumer) (f : Frame) (why : EndReason) → over_why c.handshake ≡ None → ((consumer_step c f).0.handshake ≡ handshake.Over why) ↔ EndsAt why c f
reasons_so c f why live = (
  λ e. by_frame c f why (frame_step c f) ((ends_so c f why live).0 e) (comes_to_itself c f),
  ends_by_frame c f why live,
)
