-- which frame comes to which step that tells no state which is in order
use Rattle.std.proofs.Common.{◌≡◌, ◌≢◌, ℕ, Bool, true, false, refl, sym, ap, ◌∙◌, subst, inl, inr, ⊎_elim, Option, Some, None, Result, Ok, Err}
use Rattle.std.specs.Prelude.{◌⊎◌, ◌==◌, if◌then◌else◌, is_some}
use Rattle.std.proofs.lemmas.Bool.{eq-eqb, ne_eqb}
use Rattle.std.proofs.lemmas.Bool.Decides.{eqb_tells}
use Rattle.mcbp_frame.specs.declared.frame.Frame.{Frame}
use Rattle.mcbp_frame.specs.declared.frame.TheConstants.{RESPONSE}
use Rattle.mcbp_dcp.specs.declared.message.DcpMsg.{DcpMsg}
use Rattle.mcbp_dcp.specs.declared.message.DcpMsg.TheVariants as msg
use Rattle.mcbp_dcp.specs.declared.message.DcpFault.{DcpFault}
use Rattle.mcbp_dcp.specs.declared.message.StreamVerdict.{StreamVerdict}
use Rattle.mcbp_dcp.specs.declared.message.StreamVerdict.TheVariants as told
use Rattle.mcbp_dcp.specs.declared.shape.TheConstants.{SUCCESS}
use Rattle.mcbp_dcp.specs.Messages.{verdict_in, read_of}
use Rattle.vb_events.specs.declared.event.EndReason.{EndReason}
use Rattle.vb_events.specs.declared.event.EndReason.TheVariants as reason
use Rattle.vb_calls.specs.declared.calls.VbCall.{VbCall}
use Rattle.dcp_consumer.specs.PassiveStreams.{call_of_message, called, passive_of, passive_read}
use Rattle.dcp_consumer.specs.Conduct.{Awaits, IsMessage, Reads, IsOfStream, Comes}
use Rattle.dcp_consumer.specs.Machine.{PlainConsumer, over_why, is_awaited, status_step, answered_with, stream_step, answer_step, response_step, is_noop, passive_step, message_step, unstated_step}
use Rattle.dcp_consumer.specs.declared.handshake.Handshake.{Handshake}
use Rattle.dcp_consumer.specs.declared.handshake.Handshake.TheVariants as handshake
use Rattle.dcp_consumer.specs.declared.handshake.ConsumerStep.{ConsumerStep}
use Rattle.dcp_consumer.specs.declared.handshake.ConsumerStep.TheVariants as step
use Rattle.dcp_consumer.specs.declared.passive_stream.Passive.TheVariants as passive
use Rattle.dcp_consumer.proofs.Answering.{awaited_so, awaited_back, awaited_magic, status_case, StatusCase, misread_back, misread_other, read_told, told_other, ReadCase, read_case}

-- ---- the step, by what came

over_by : (c : PlainConsumer) (f : Frame) (over : Option EndReason) → over_why c.handshake ≡ over → over ≢ None → unstated_step c f ≡ step.Dropped
unfolding unstated_step
over_by c f None e ne = absurd (ne refl)
over_by c f (Some why) e ne =
    ap (λ o. if is_some o then step.Dropped else if f.magic == RESPONSE then response_step c.dialed.buffer c.handshake c.asked f else message_step c.handshake f) e

pub over_step : (c : PlainConsumer) (f : Frame) → over_why c.handshake ≢ None → unstated_step c f ≡ step.Dropped
over_step c f over = over_by c f (over_why c.handshake) refl over

live_step : (c : PlainConsumer) (f : Frame) (b : Bool) → over_why c.handshake ≡ None → (f.magic == RESPONSE) ≡ b
    → unstated_step c f ≡ (if b then response_step c.dialed.buffer c.handshake c.asked f else message_step c.handshake f)
unfolding unstated_step
live_step c f b live magic =
    ap (λ o. if is_some o then step.Dropped else if f.magic == RESPONSE then response_step c.dialed.buffer c.handshake c.asked f else message_step c.handshake f) live
    ∙ ap (λ x. if x then response_step c.dialed.buffer c.handshake c.asked f else message_step c.handshake f) magic

pub awaits_live : (buffer : ℕ) (h : Handshake) (n : ℕ) (f : Frame) → Awaits buffer h n f → over_why h ≡ None
awaits_live buffer (handshake.Over why) n f a = absurd a
awaits_live buffer other n f a = refl

pub awaited_step : (c : PlainConsumer) (f : Frame) → Awaits c.dialed.buffer c.handshake c.asked f → unstated_step c f ≡ answer_step c.handshake f
awaited_step c f a =
    live_step c f true (awaits_live c.dialed.buffer c.handshake c.asked f a) (eq-eqb f.magic RESPONSE (awaited_magic c.dialed.buffer c.handshake c.asked f a))
    ∙ ap (λ b. if b then answer_step c.handshake f else step.Dropped) (awaited_so c.dialed.buffer c.handshake c.asked f a)

unawaited_by : (c : PlainConsumer) (f : Frame) (b : Bool) → over_why c.handshake ≡ None → f.magic ≡ 0x81 → (Awaits c.dialed.buffer c.handshake c.asked f → ⊥) → is_awaited c.dialed.buffer c.handshake c.asked f ≡ b
    → unstated_step c f ≡ step.Dropped
unawaited_by c f true live magic never e = absurd (never (awaited_back c.dialed.buffer c.handshake c.asked f magic e))
unawaited_by c f false live magic never e = live_step c f true live (eq-eqb f.magic RESPONSE magic) ∙ ap (λ b. if b then answer_step c.handshake f else step.Dropped) e

unawaited_at : (c : PlainConsumer) (f : Frame) (over : Option EndReason) → over_why c.handshake ≡ over → f.magic ≡ 0x81 → (Awaits c.dialed.buffer c.handshake c.asked f → ⊥) → unstated_step c f ≡ step.Dropped
unawaited_at c f None live magic never = unawaited_by c f (is_awaited c.dialed.buffer c.handshake c.asked f) live magic never refl
unawaited_at c f (Some why) over magic never = over_by c f (Some why) over (λ e. cc)

message_met : (c : PlainConsumer) (f : Frame) → IsMessage c.handshake f → unstated_step c f ≡ message_step c.handshake f
message_met c f m = live_step c f false m.1 (ne_eqb f.magic RESPONSE m.0)

-- ---- answers

status_met : (buffer : ℕ) (h : Handshake) (n : ℕ) (f : Frame) → Awaits buffer h n f → h ≢ handshake.Asking → answer_step h f ≡ status_step f.vb_or_status
status_met buffer handshake.Asking n f a ne = absurd (ne refl)
status_met buffer other n f a ne = refl

failure : (code : ℕ) → code ≢ 0 → status_step code ≡ step.Over reason.Refused
failure code ne = ap (λ b. if b then step.Answered else step.Over reason.Refused) (ne_eqb code SUCCESS ne)

refused_by : (f : Frame) → f.vb_or_status ≢ 0 → f.vb_or_status ≢ 0x23 → ReadCase f.vb_or_status (read_of f) → stream_step (answered_with f.vb_or_status (read_of f)) ≡ step.Over reason.Refused
refused_by f first second (inl r) =
    ap stream_step r.2 ∙ ap (λ t. stream_step (Ok t)) (read_told f r.0 r.1 ∙ told_other f.vb_or_status f.value first second)
refused_by f first second (inr r) = ap stream_step r.1 ∙ ap step.Over (misread_other f.vb_or_status first second)

refused_at : (buffer : ℕ) (h : Handshake) (n : ℕ) (f : Frame) → Awaits buffer h n f → f.vb_or_status ≢ 0 → (h ≡ handshake.Asking → f.vb_or_status ≢ 0x23) → answer_step h f ≡ step.Over reason.Refused
refused_at buffer handshake.Asking n f a ne other = refused_by f ne (other refl) (read_case f.vb_or_status (read_of f))
refused_at buffer h n f a ne other = failure f.vb_or_status ne

misread_by : (f : Frame) → (f.vb_or_status ≡ 0) ⊎ (f.vb_or_status ≡ 0x23) → ((t : StreamVerdict) → Reads f (msg.StreamAnswer t) → ⊥) → ReadCase f.vb_or_status (read_of f)
    → stream_step (answered_with f.vb_or_status (read_of f)) ≡ step.Over reason.Protocol
misread_by f code none (inl r) = absurd (none r.0 r.1)
misread_by f code none (inr r) = ap stream_step r.1 ∙ ap step.Over (misread_back f.vb_or_status code)

asking_step : (c : PlainConsumer) (f : Frame) → c.handshake ≡ handshake.Asking → Awaits c.dialed.buffer handshake.Asking c.asked f → unstated_step c f ≡ stream_step (answered_with f.vb_or_status (read_of f))
asking_step c f asks a = awaited_step c f (subst (λ h. Awaits c.dialed.buffer h c.asked f) (sym asks) a) ∙ ap (λ h. answer_step h f) asks

-- ---- messages

noop_step : (c : PlainConsumer) (f : Frame) → IsMessage c.handshake f → Reads f msg.Noop → unstated_step c f ≡ step.Noop f.opaque
noop_step c f m r = message_met c f m ∙ ap (λ x. if is_noop x then step.Noop f.opaque else passive_step c.handshake x) r

other_step : (c : PlainConsumer) (f : Frame) → IsMessage c.handshake f → is_noop (read_of f) ≡ false → unstated_step c f ≡ passive_step c.handshake (read_of f)
other_step c f m other = message_met c f m ∙ ap (λ b. if b then step.Noop f.opaque else passive_step c.handshake (read_of f)) other

streaming_step : (c : PlainConsumer) (f : Frame) → IsMessage c.handshake f → is_noop (read_of f) ≡ false → c.handshake ≡ handshake.Streaming → unstated_step c f ≡ step.Passive (passive_read (read_of f))
streaming_step c f m other streams = other_step c f m other ∙ ap (λ h. passive_step h (read_of f)) streams

no_noop : (read : Option (Result DcpMsg DcpFault)) → (read ≡ Some (Ok msg.Noop) → ⊥) → is_noop read ≡ false
no_noop (Some (Ok msg.Noop)) never = absurd (never refl)
no_noop other never = refl

called_other : (m : DcpMsg) (call : VbCall) → call_of_message m ≡ Some call → is_noop (Some (Ok m)) ≡ false
unfolding call_of_message
called_other msg.Noop call e = cc
called_other m call e = refl

called_so : (m : DcpMsg) (call : VbCall) → call_of_message m ≡ Some call → passive_of m ≡ passive.Call call
unfolding call_of_message
called_so (msg.StreamEnd why) call e = cc
called_so m call e = ap called e

strange_by : (o : Option VbCall) → (o ≢ None → ⊥) → called o ≡ passive.Protocol
strange_by None never = refl
strange_by (Some call) never = absurd (never (λ e. cc))

strange_of : (m : DcpMsg) → (IsOfStream m → ⊥) → passive_of m ≡ passive.Protocol
strange_of (msg.StreamEnd why) never = absurd (never tt)
strange_of m never = strange_by (call_of_message m) never

strange_read : (read : Option (Result DcpMsg DcpFault)) → ((m : DcpMsg) → read ≡ Some (Ok m) → IsOfStream m → ⊥) → passive_read read ≡ passive.Protocol
strange_read None never = refl
strange_read (Some (Err fault)) never = refl
strange_read (Some (Ok m)) never = strange_of m (never m refl)

strange_at : (h : Handshake) (f : Frame) → (h ≡ handshake.Streaming → (m : DcpMsg) → Reads f m → IsOfStream m → ⊥) → passive_step h (read_of f) ≡ step.Passive passive.Protocol
strange_at handshake.Streaming f never = ap step.Passive (strange_read (read_of f) (never refl))
strange_at other f never = refl

-- ---- each step comes where it is said to

dropped_so : (c : PlainConsumer) (f : Frame) → Comes c.dialed.buffer c.handshake c.asked f step.Dropped → unstated_step c f ≡ step.Dropped
dropped_so c f (inl over) = over_step c f over
dropped_so c f (inr p) = unawaited_at c f (over_why c.handshake) refl p.0 p.1

pub comes_so : (c : PlainConsumer) (f : Frame) (s : ConsumerStep) → Comes c.dialed.buffer c.handshake c.asked f s → unstated_step c f ≡ s
comes_so c f step.Answered p = awaited_step c f p.0 ∙ status_met c.dialed.buffer c.handshake c.asked f p.0 p.1 ∙ ap status_step p.2
comes_so c f (step.Adopt log) p = asking_step c f p.0 p.1 ∙ ap (λ r. stream_step (answered_with f.vb_or_status r)) p.2
comes_so c f (step.Roll point) p = asking_step c f p.0 p.1 ∙ ap (λ r. stream_step (answered_with f.vb_or_status r)) p.2
comes_so c f (step.Over reason.Refused) p = awaited_step c f p.0 ∙ refused_at c.dialed.buffer c.handshake c.asked f p.0 p.1 p.2
comes_so c f (step.Over reason.Protocol) p = asking_step c f p.0 p.1 ∙ misread_by f p.2 p.3 (read_case f.vb_or_status (read_of f))
comes_so c f (step.Over other) p = absurd p
comes_so c f (step.Passive (passive.Call call)) p =
    streaming_step c f p.0 (ap is_noop p.2.1 ∙ called_other p.2.0 call p.2.2) p.1 ∙ ap (λ r. step.Passive (passive_read r)) p.2.1 ∙ ap step.Passive (called_so p.2.0 call p.2.2)
comes_so c f (step.Passive (passive.End reason.Done)) p = streaming_step c f p.0 (ap is_noop p.2) p.1 ∙ ap (λ r. step.Passive (passive_read r)) p.2
comes_so c f (step.Passive (passive.End reason.State)) p =
    streaming_step c f p.0 (ap is_noop p.2.2) p.1 ∙ ap (λ r. step.Passive (passive_read r)) p.2.2
    ∙ ap (λ b. step.Passive (passive.End (if b then reason.Done else reason.State))) (ne_eqb p.2.0 0 p.2.1)
comes_so c f (step.Passive (passive.End other)) p = absurd p
comes_so c f (step.Passive passive.Protocol) p = other_step c f p.0 (no_noop (read_of f) p.1) ∙ strange_at c.handshake f p.2
comes_so c f (step.Noop opaque) p = noop_step c f p.0 p.1 ∙ ap step.Noop p.2
comes_so c f (step.State take opaque) p = absurd p
comes_so c f step.Dropped p = dropped_so c f p

-- ---- and each frame comes to one of them

-- a step, which comes so
abbrev Coming : ℕ → Handshake → ℕ → Frame → Type 0
Coming buffer h n f = (s : ConsumerStep) × Comes buffer h n f s

status_comes : (buffer : ℕ) (h : Handshake) (n : ℕ) (f : Frame) → Awaits buffer h n f → h ≢ handshake.Asking → (((f.vb_or_status == 0) ≡ true) × (f.vb_or_status ≡ 0)) ⊎ (((f.vb_or_status == 0) ≡ false) × (f.vb_or_status ≢ 0))
    → Coming buffer h n f
status_comes buffer h n f a ne (inl code) = (step.Answered, (a, ne, code.1))
status_comes buffer h n f a ne (inr code) = (step.Over reason.Refused, (a, code.1, λ e. absurd (ne e)))

refuse_comes : (buffer : ℕ) (n : ℕ) (f : Frame) (code : ℕ) → Awaits buffer handshake.Asking n f → Reads f (msg.StreamAnswer (told.Refused code)) → StatusCase f.vb_or_status → Coming buffer handshake.Asking n f
refuse_comes buffer n f code a r (inl e) =
    let is : told.Refused code ≡ verdict_in 0 f.value = read_told f (told.Refused code) r ∙ ap (λ status. verdict_in status f.value) e in cc
refuse_comes buffer n f code a r (inr (inl e)) =
    let is : told.Refused code ≡ verdict_in 0x23 f.value = read_told f (told.Refused code) r ∙ ap (λ status. verdict_in status f.value) e in cc
refuse_comes buffer n f code a r (inr (inr p)) = (step.Over reason.Refused, (a, p.0, λ e. p.1))

told_comes : (buffer : ℕ) (n : ℕ) (f : Frame) (t : StreamVerdict) → Awaits buffer handshake.Asking n f → Reads f (msg.StreamAnswer t) → Coming buffer handshake.Asking n f
told_comes buffer n f (told.Go log) a r = (step.Adopt log, (refl, a, r))
told_comes buffer n f (told.Roll point) a r = (step.Roll point, (refl, a, r))
told_comes buffer n f (told.Refused code) a r = refuse_comes buffer n f code a r (status_case f.vb_or_status)

untold_comes : (buffer : ℕ) (n : ℕ) (f : Frame) → Awaits buffer handshake.Asking n f → ((t : StreamVerdict) → Reads f (msg.StreamAnswer t) → ⊥) → StatusCase f.vb_or_status → Coming buffer handshake.Asking n f
untold_comes buffer n f a none (inl e) = (step.Over reason.Protocol, (refl, a, inl e, none))
untold_comes buffer n f a none (inr (inl e)) = (step.Over reason.Protocol, (refl, a, inr e, none))
untold_comes buffer n f a none (inr (inr p)) = (step.Over reason.Refused, (a, p.0, λ e. p.1))

stream_comes : (buffer : ℕ) (n : ℕ) (f : Frame) → Awaits buffer handshake.Asking n f → ReadCase f.vb_or_status (read_of f) → Coming buffer handshake.Asking n f
stream_comes buffer n f a (inl r) = told_comes buffer n f r.0 a r.1
stream_comes buffer n f a (inr r) = untold_comes buffer n f a r.0 (status_case f.vb_or_status)

answer_comes : (buffer : ℕ) (h : Handshake) (n : ℕ) (f : Frame) → Awaits buffer h n f → Coming buffer h n f
answer_comes buffer handshake.Asking n f a = stream_comes buffer n f a (read_case f.vb_or_status (read_of f))
answer_comes buffer h n f a = status_comes buffer h n f a (λ e. cc) (eqb_tells f.vb_or_status 0)

end_comes : (buffer : ℕ) (n : ℕ) (f : Frame) (why : ℕ) → IsMessage handshake.Streaming f → Reads f (msg.StreamEnd why) → (((why == 0) ≡ true) × (why ≡ 0)) ⊎ (((why == 0) ≡ false) × (why ≢ 0))
    → Coming buffer handshake.Streaming n f
end_comes buffer n f why m r (inl zero) = (step.Passive (passive.End reason.Done), (m, refl, subst (λ w. Reads f (msg.StreamEnd w)) zero.1 r))
end_comes buffer n f why m r (inr more) = (step.Passive (passive.End reason.State), (m, refl, (why, more.1, r)))

same_read : (f : Frame) (m k : DcpMsg) → Reads f m → Reads f k → m ≡ k
same_read f m k first second = cc

module _ (buffer n : ℕ) (f : Frame) (never : Reads f msg.Noop → ⊥) where
  call_comes : (m : DcpMsg) → IsMessage handshake.Streaming f → Reads f m → (IsOfStream m → call_of_message m ≢ None) → (o : Option VbCall) → call_of_message m ≡ o
      → Coming buffer handshake.Streaming n f
  call_comes m is r makes (Some call) e = (step.Passive (passive.Call call), (is, refl, (m, r, e)))
  call_comes m is r makes None e = (step.Passive passive.Protocol, (is, never, λ streams k read of. makes (subst IsOfStream (same_read f k m read r) of) e))

  message_comes : (m : DcpMsg) → IsMessage handshake.Streaming f → Reads f m → Coming buffer handshake.Streaming n f
  message_comes (msg.StreamEnd why) is r = end_comes buffer n f why is r (eqb_tells why 0)
  message_comes m is r = call_comes m is r (λ makes. makes) (call_of_message m) refl

  read_comes : IsMessage handshake.Streaming f → (read : Option (Result DcpMsg DcpFault)) → read_of f ≡ read → Coming buffer handshake.Streaming n f
  read_comes is (Some (Ok m)) r = message_comes m is r
  read_comes is None r = (step.Passive passive.Protocol, (is, never, λ streams m read of. cc))
  read_comes is (Some (Err fault)) r = (step.Passive passive.Protocol, (is, never, λ streams m read of. cc))

  other_comes : (h : Handshake) → IsMessage h f → Coming buffer h n f
  other_comes handshake.Streaming is = read_comes is (read_of f) refl
  other_comes h is = (step.Passive passive.Protocol, (is, never, λ streams. cc))

noop_or : (read : Option (Result DcpMsg DcpFault)) → (read ≡ Some (Ok msg.Noop)) ⊎ (read ≡ Some (Ok msg.Noop) → ⊥)
noop_or (Some (Ok msg.Noop)) = inl refl
noop_or other = inr (λ e. cc)

live_comes : (buffer : ℕ) (h : Handshake) (n : ℕ) (f : Frame) → IsMessage h f → Coming buffer h n f
live_comes buffer h n f is = ⊎_elim (λ r. (step.Noop f.opaque, (is, r, refl))) (λ never. other_comes buffer n f never h is) (noop_or (read_of f))

sent_comes : (buffer : ℕ) (h : Handshake) (n : ℕ) (f : Frame) → f.magic ≢ 0x81 → Coming buffer h n f
sent_comes buffer (handshake.Over why) n f magic = (step.Dropped, inl (λ e. cc))
sent_comes buffer h n f magic = live_comes buffer h n f (magic, refl)

awaited_comes : (buffer : ℕ) (h : Handshake) (n : ℕ) (f : Frame) → f.magic ≡ 0x81 → (b : Bool) → is_awaited buffer h n f ≡ b → Coming buffer h n f
awaited_comes buffer h n f magic true e = answer_comes buffer h n f (awaited_back buffer h n f magic e)
awaited_comes buffer h n f magic false e = (step.Dropped, inr (magic, λ a. let so : is_awaited buffer h n f ≡ true = awaited_so buffer h n f a in cc))

any_comes : (buffer : ℕ) (h : Handshake) (n : ℕ) (f : Frame) → (((f.magic == 0x81) ≡ true) × (f.magic ≡ 0x81)) ⊎ (((f.magic == 0x81) ≡ false) × (f.magic ≢ 0x81)) → Coming buffer h n f
any_comes buffer h n f (inl magic) = awaited_comes buffer h n f magic.1 (is_awaited buffer h n f) refl
any_comes buffer h n f (inr magic) = sent_comes buffer h n f magic.1

-- what the step of a frame needs
pub comes_itself : (c : PlainConsumer) (f : Frame) → Comes c.dialed.buffer c.handshake c.asked f (unstated_step c f)
comes_itself c f =
    let coming = any_comes c.dialed.buffer c.handshake c.asked f (eqb_tells f.magic 0x81) in
    subst (Comes c.dialed.buffer c.handshake c.asked f) (sym (comes_so c f coming.0 coming.1)) coming.1
