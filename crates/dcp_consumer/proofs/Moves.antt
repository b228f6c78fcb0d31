-- how a handshake moves, and how a link ends
use Rattle.std.proofs.Common.{◌≡◌, ◌≢◌, ℕ, Bool, true, false, ◌+◌, ◌<◌, [], refl, sym, ap, ◌∙◌, subst, inl, inr, Some, None}
use Rattle.std.specs.Prelude.{◌↔◌, ◌⊎◌, ◌==◌, ◌-◌, ◌^◌, nat_lt, if◌then◌else◌}
use Rattle.std.proofs.lemmas.Bool.{eq-eqb, ne_eqb, lt-ltb}
use Rattle.std.proofs.lemmas.Bool.Decides.{eqb_tells}
use Rattle.mcbp_frame.specs.declared.frame.Frame.{Frame}
use Rattle.mcbp_frame.specs.Spelling.{spelling}
use Rattle.mcbp_dcp.specs.declared.message.DcpMsg.TheVariants as msg
use Rattle.mcbp_dcp.specs.DcpFrames.{dcp_frame}
use Rattle.mcbp_dcp.proofs.DcpBack.{message_back}
use Rattle.vb_events.specs.declared.event.EndReason.{EndReason}
use Rattle.vb_events.specs.declared.event.EndReason.TheVariants as reason
use Rattle.vb_types.specs.declared.stream.StreamAsk.{StreamAsk}
use Rattle.dcp_consumer.specs.Conduct.{Awaits, IsNext, Ends, IsRequest}
use Rattle.dcp_consumer.specs.Dialing.{flagged}
use Rattle.dcp_consumer.specs.States.{ComesTo}
use Rattle.dcp_consumer.specs.Machine.{PlainConsumer, dialed_consumer, with_handshake, over_why, answered, moved_by, frame_step, stepped, consumer_step, IsDue, streaming, granted, request_again, again_by, again, ended_for}
use Rattle.dcp_consumer.specs.declared.handshake.Dialed.{Dialed}
use Rattle.dcp_consumer.specs.declared.handshake.Handshake.{Handshake}
use Rattle.dcp_consumer.specs.declared.handshake.Handshake.TheVariants as handshake
use Rattle.dcp_consumer.specs.declared.handshake.ConsumerStep.{ConsumerStep}
use Rattle.dcp_consumer.specs.declared.handshake.ConsumerStep.TheVariants as step
use Rattle.dcp_consumer.specs.declared.passive_stream.Passive.TheVariants as passive
use Rattle.dcp_consumer.proofs.States.{comes_to_so, comes_to_itself}

-- ---- one on

is_over : (why : EndReason) (h : Handshake) → handshake.Over why ≡ h → over_why h ≡ None → ⊥
is_over why h e live = let is : Some why ≡ over_why h = ap over_why e in cc

-- the handshake behind OPEN
abbrev first_next : Bool → Handshake
first_next b = if b then handshake.SyncWrites else handshake.Buffering

opening_on : (buffer : ℕ) (next : Handshake) → (((buffer == 0) ≡ true) × (buffer ≡ 0)) ⊎ (((buffer == 0) ≡ false) × (buffer ≢ 0)) → first_next (buffer == 0) ≡ next
    → IsNext buffer handshake.Opening next
opening_on buffer next (inl none) e = subst (IsNext buffer handshake.Opening) (sym (ap first_next none.0) ∙ e) none.1
opening_on buffer next (inr some) e = subst (IsNext buffer handshake.Opening) (sym (ap first_next some.0) ∙ e) some.1

next_on : (buffer : ℕ) (h next : Handshake) (n : ℕ) (f : Frame) → Awaits buffer h n f → h ≢ handshake.Asking → answered buffer h ≡ next → IsNext buffer h next
next_on buffer handshake.Opening next n f a ne e = opening_on buffer next (eqb_tells buffer 0) e
next_on buffer handshake.Buffering next n f a ne e = subst (IsNext buffer handshake.Buffering) e tt
next_on buffer handshake.SyncWrites next n f a ne e = subst (IsNext buffer handshake.SyncWrites) e tt
next_on buffer handshake.Naming next n f a ne e = subst (IsNext buffer handshake.Naming) e tt
next_on buffer handshake.Asking next n f a ne e = absurd (ne refl)
next_on buffer other next n f a ne e = absurd a

next_is_on : (buffer : ℕ) (h next : Handshake) → IsNext buffer h next → (h ≢ handshake.Asking) × (answered buffer h ≡ next)
next_is_on buffer handshake.Opening handshake.Buffering is = ((λ e. cc), ap first_next (ne_eqb buffer 0 is))
next_is_on buffer handshake.Opening handshake.SyncWrites is = ((λ e. cc), ap first_next (eq-eqb buffer 0 is))
next_is_on buffer handshake.Buffering handshake.SyncWrites is = ((λ e. cc), refl)
next_is_on buffer handshake.SyncWrites handshake.Naming is = ((λ e. cc), refl)
next_is_on buffer handshake.Naming handshake.Asking is = ((λ e. cc), refl)
next_is_on buffer h next is = absurd is

moved_next : (c : PlainConsumer) (f : Frame) (next : Handshake) (s : ConsumerStep) → ComesTo c f s → next ≢ c.handshake → over_why next ≡ None → moved_by c.dialed.buffer s c.handshake ≡ next
    → IsNext c.dialed.buffer c.handshake next × Awaits c.dialed.buffer c.handshake c.asked f × (f.vb_or_status ≡ 0)
moved_next c f next step.Answered p ne live e = (next_on c.dialed.buffer c.handshake next c.asked f p.0 p.1 e, p.0, p.2)
moved_next c f next (step.Over why) p ne live e = absurd (is_over why next e live)
moved_next c f next (step.Passive (passive.End why)) p ne live e = absurd (is_over why next e live)
moved_next c f next (step.Passive passive.Protocol) p ne live e = absurd (is_over reason.Protocol next e live)
moved_next c f next other p ne live e = absurd (ne (sym e))

pub next_moves : (c : PlainConsumer) (f : Frame) (next : Handshake) → next ≢ c.handshake → over_why next ≡ None
    → ((consumer_step c f).0.handshake ≡ next) ↔ (IsNext c.dialed.buffer c.handshake next × Awaits c.dialed.buffer c.handshake c.asked f × (f.vb_or_status ≡ 0))
next_moves c f next ne live = (
  λ e. moved_next c f next (frame_step c f) (comes_to_itself c f) ne live e,
  λ p. let on = next_is_on c.dialed.buffer c.handshake next p.0 in ap (λ s. moved_by c.dialed.buffer s c.handshake) (comes_to_so c f step.Answered (p.1, on.0, p.2)) ∙ on.1,
)

due_by : (c : PlainConsumer) (f : Frame) (s : ConsumerStep) → ComesTo c f s → IsDue s (stepped s c)
due_by c f (step.Adopt log) p = p.0
due_by c f (step.Roll point) p = p.0
due_by c f other p = tt

pub is_due : (c : PlainConsumer) (f : Frame) → IsDue (consumer_step c f).1 (consumer_step c f).0
is_due c f = due_by c f (frame_step c f) (comes_to_itself c f)

streaming_other : (h : Handshake) → h ≢ handshake.Asking → streaming h ≡ h
streaming_other handshake.Asking ne = absurd (ne refl)
streaming_other other ne = refl

pub granted_so : (c : PlainConsumer) → c.handshake ≡ handshake.Asking → granted c ≡ record c { handshake = handshake.Streaming }
granted_so c e = ap (λ h. with_handshake c (streaming h)) e

pub granted_other : (c : PlainConsumer) → c.handshake ≢ handshake.Asking → granted c ≡ c
granted_other c ne = ap (with_handshake c) (streaming_other c.handshake ne)

-- ---- the end

first_live : (b : Bool) → over_why (first_next b) ≡ None
first_live true = refl
first_live false = refl

answered_live : (buffer : ℕ) (h : Handshake) → over_why h ≡ None → over_why (answered buffer h) ≡ None
answered_live buffer handshake.Opening live = first_live (buffer == 0)
answered_live buffer handshake.Buffering live = refl
answered_live buffer handshake.SyncWrites live = refl
answered_live buffer handshake.Naming live = refl
answered_live buffer other live = live

same_reason : (first second : EndReason) → handshake.Over first ≡ handshake.Over second → first ≡ second
same_reason first second e = cc

moved_end : (c : PlainConsumer) (f : Frame) (why : EndReason) (s : ConsumerStep) → ComesTo c f s → over_why c.handshake ≡ None → moved_by c.dialed.buffer s c.handshake ≡ handshake.Over why → Ends why s
moved_end c f why step.Answered p live e = absurd (is_over why (answered c.dialed.buffer c.handshake) (sym e) (answered_live c.dialed.buffer c.handshake live))
moved_end c f why (step.Over reason.Refused) p live e = subst (λ w. Ends w (step.Over reason.Refused)) (same_reason reason.Refused why e) refl
moved_end c f why (step.Over reason.Protocol) p live e = subst (λ w. Ends w (step.Over reason.Protocol)) (same_reason reason.Protocol why e) (inl refl)
moved_end c f why (step.Over other) p live e = absurd p
moved_end c f why (step.Passive (passive.End reason.Done)) p live e = subst (λ w. Ends w (step.Passive (passive.End reason.Done))) (same_reason reason.Done why e) refl
moved_end c f why (step.Passive (passive.End reason.State)) p live e = subst (λ w. Ends w (step.Passive (passive.End reason.State))) (same_reason reason.State why e) refl
moved_end c f why (step.Passive (passive.End other)) p live e = absurd p
moved_end c f why (step.Passive passive.Protocol) p live e = subst (λ w. Ends w (step.Passive passive.Protocol)) (same_reason reason.Protocol why e) (inr refl)
moved_end c f why other p live e = absurd (is_over why c.handshake (sym e) live)

end_moves : (buffer : ℕ) (h : Handshake) (why : EndReason) (s : ConsumerStep) → Ends why s → moved_by buffer s h ≡ handshake.Over why
end_moves buffer h reason.Cut s e = absurd e
end_moves buffer h reason.Disk s e = absurd e
end_moves buffer h reason.Protocol s (inl e) = ap (λ x. moved_by buffer x h) e
end_moves buffer h reason.Protocol s (inr e) = ap (λ x. moved_by buffer x h) e
end_moves buffer h reason.Refused s e = ap (λ x. moved_by buffer x h) e
end_moves buffer h reason.Done s e = ap (λ x. moved_by buffer x h) e
end_moves buffer h reason.State s e = ap (λ x. moved_by buffer x h) e

pub ends_so : (c : PlainConsumer) (f : Frame) (why : EndReason) → over_why c.handshake ≡ None → ((consumer_step c f).0.handshake ≡ handshake.Over why) ↔ Ends why (consumer_step c f).1
ends_so c f why live = (λ e. moved_end c f why (frame_step c f) (comes_to_itself c f) live e, λ e. end_moves c.dialed.buffer c.handshake why (frame_step c f) e)

pub over_so : (c : PlainConsumer) (f : Frame) → over_why c.handshake ≢ None → consumer_step c f ≡ (c, step.Dropped)
over_so c f over = ap (λ (s : ConsumerStep). (stepped s c, s)) (comes_to_so c f step.Dropped (inl over))

-- ---- one more request

request_is : (ask : StreamAsk) (n v : ℕ) → IsRequest ask n v (spelling (dcp_frame (msg.StreamRequest ask) n v))
unfolding dcp_frame
request_is ask n v = record {
  frame = dcp_frame (msg.StreamRequest ask) n v;
  spelled = refl;
  magic = refl;
  opcode = refl;
  opaque = refl;
  vb = refl;
  read = λ fits. message_back (msg.StreamRequest ask) n v tt fits;
}

pub first_asked : (dialed : Dialed) → (dialed.buffer ≡ 0 → (dialed_consumer dialed).asked ≡ 4) × (dialed.buffer ≢ 0 → (dialed_consumer dialed).asked ≡ 5)
first_asked dialed = (λ e. ap (λ b. if b then 4 else 5) (eq-eqb dialed.buffer 0 e), λ ne. ap (λ b. if b then 4 else 5) (ne_eqb dialed.buffer 0 ne))

pub back : (c : PlainConsumer) (ask : StreamAsk) → c.handshake ≡ handshake.Asking → c.asked < 4294967295
    → ((again ask c).0 ≡ record c { asked = c.asked + 1 }) × IsRequest (flagged c.dialed.takeover ask) (c.asked + 1) c.dialed.vb (again ask c).1
back c ask e less =
    let is : again ask c ≡ request_again ask c =
    ap (λ h. again_by h ask c) e ∙ ap (λ b. if b then request_again ask c else (ended_for reason.Protocol c, [])) (lt-ltb c.asked (2 ^ 32 - 1) less) in
    let flags = flagged c.dialed.takeover ask in
    (ap (λ p. p.0) is, subst (λ p. IsRequest flags (c.asked + 1) c.dialed.vb p.1) (sym is) (request_is flags (c.asked + 1) c.dialed.vb))

pub none_left : (c : PlainConsumer) (ask : StreamAsk) → c.handshake ≡ handshake.Asking → c.asked ≡ 4294967295 → again ask c ≡ (ended_for reason.Protocol c, [])
none_left c ask e most =
    ap (λ h. again_by h ask c) e ∙ ap (λ n. if nat_lt n (2 ^ 32 - 1) then request_again ask c else (ended_for reason.Protocol c, [])) most

again_other : (h : Handshake) (c : PlainConsumer) (ask : StreamAsk) → h ≢ handshake.Asking → again_by h ask c ≡ (c, [])
again_other handshake.Asking c ask ne = absurd (ne refl)
again_other other c ask ne = refl

pub unasked : (c : PlainConsumer) (ask : StreamAsk) → c.handshake ≢ handshake.Asking → again ask c ≡ (c, [])
unasked c ask ne = again_other c.handshake c ask ne
