-- which states are obeyed, and what each frame comes to then
use Rattle.std.proofs.Common.{◌≡◌, ◌≢◌, ◌⊎◌, ℕ, Bool, true, false, refl, sym, ap, ◌∙◌, subst, inl, inr, ⊎_elim, Option, Some, None, Result, Ok}
use Rattle.std.specs.Prelude.{◌==◌, ◌&&◌, if◌then◌else◌}
use Rattle.std.proofs.Math.Bool.{and-false}
use Rattle.std.proofs.lemmas.Bool.{eq-eqb, ne_eqb, and_parts}
use Rattle.mcbp_frame.specs.declared.frame.Frame.{Frame}
use Rattle.mcbp_frame.specs.declared.frame.TheConstants.{RESPONSE}
use Rattle.mcbp_dcp.specs.declared.message.DcpMsg.{DcpMsg}
use Rattle.mcbp_dcp.specs.declared.message.DcpMsg.TheVariants as msg
use Rattle.mcbp_dcp.specs.declared.message.DcpFault.{DcpFault}
use Rattle.mcbp_dcp.specs.Messages.{read_of}
use Rattle.takeover.specs.declared.take_over.TakeOver.{TakeOver}
use Rattle.takeover.specs.declared.take_over.TakeStep.{TakeStep}
use Rattle.takeover.specs.declared.take_over.TakeStep.TheVariants.{Pend, Own}
use Rattle.takeover.specs.TakingOver.{step_at, with_step}
use Rattle.vb_events.specs.declared.event.EndReason.TheVariants as reason
use Rattle.vb_types.specs.declared.role.Role.{Role}
use Rattle.vb_types.specs.declared.role.Role.TheVariants as role
use Rattle.dcp_consumer.specs.PassiveStreams.{call_of_message}
use Rattle.dcp_consumer.specs.Conduct.{Comes, IsMessage, IsOfStream, Reads}
use Rattle.dcp_consumer.specs.States.{ComesTo, IsNextOf, IsNoOrder, Obeys}
use Rattle.dcp_consumer.specs.Machine.{PlainConsumer, over_why, is_streaming, state_in, state_due, takes_states, taking_of, state_told, state_or, state_of, taking_after, stepped, unstated_step, frame_step, consumer_step, ended_for}
use Rattle.dcp_consumer.specs.declared.handshake.Handshake.TheVariants as handshake
use Rattle.dcp_consumer.specs.declared.handshake.ConsumerStep.{ConsumerStep}
use Rattle.dcp_consumer.specs.declared.handshake.ConsumerStep.TheVariants as step
use Rattle.dcp_consumer.specs.declared.passive_stream.Passive.TheVariants as passive
use Rattle.dcp_consumer.proofs.Acknowledging.{streams}
use Rattle.dcp_consumer.proofs.Steps.{comes_so, comes_itself}

-- ---- a link that follows alone takes no states

no_taking : (c : PlainConsumer) → c.dialed.takeover ≡ false → taking_of c ≡ None
no_taking c none =
    ap (λ b. if is_streaming c.handshake && b then Some c.taking else None) none ∙ ap (λ b. if b then Some c.taking else None) (and-false (is_streaming c.handshake))

none_told : (b : Bool) (read : Option Role) → (if b then None else state_due None read) ≡ None
none_told true read = refl
none_told false read = refl

pub unstated : (c : PlainConsumer) (f : Frame) → c.dialed.takeover ≡ false → frame_step c f ≡ unstated_step c f
unfolding frame_step
unstated c f none =
    ap (λ t. state_or f.opaque (if f.magic == RESPONSE then None else state_due t (state_in (read_of f))) (unstated_step c f)) (no_taking c none)
    ∙ ap (λ o. state_or f.opaque o (unstated_step c f)) (none_told (f.magic == RESPONSE) (state_in (read_of f)))

-- ---- which states are told

next_so : (last : Option TakeStep) (take : TakeStep) → IsNextOf last take → step_at last (state_of take) ≡ Some take
next_so last Pend e = ap (λ l. step_at l role.Pending) e
next_so last Own e = ap (λ l. step_at l role.Active) e

told_so : (c : PlainConsumer) (f : Frame) (take : TakeStep) → Obeys c f take → state_told c f ≡ Some take
told_so c f take ((m, goes, takes), next, read) =
    ap (λ b. if b then None else state_due (taking_of c) (state_in (read_of f))) (ne_eqb f.magic RESPONSE m.0)
    ∙ (λ i. state_due (if is_streaming (goes i) && takes i then Some c.taking else None) (state_in (read i)))
    ∙ next_so c.taking.last take next

next_by : (last : Option TakeStep) (r : Role) (take : TakeStep) → step_at last r ≡ Some take → (r ≡ state_of take) × IsNextOf last take
next_by None role.Pending take e = let is : Pend ≡ take = cc in subst (λ t. (role.Pending ≡ state_of t) × IsNextOf None t) is (refl, refl)
next_by (Some Pend) role.Active take e = let is : Own ≡ take = cc in subst (λ t. (role.Active ≡ state_of t) × IsNextOf (Some Pend) t) is (refl, refl)
next_by last r take e = cc

due_by : (b : Bool) (t : TakeOver) (read : Option Role) (take : TakeStep) → state_due (if b then Some t else None) read ≡ Some take → (b ≡ true) × ((r : Role) × (read ≡ Some r) × (step_at t.last r ≡ Some take))
due_by true t (Some r) take e = (refl, (r, refl, e))
due_by true t None take e = cc
due_by false t read take e = cc

read_by : (read : Option (Result DcpMsg DcpFault)) (r : Role) → state_in read ≡ Some r → read ≡ Some (Ok (msg.SetVbucketState r))
read_by (Some (Ok (msg.SetVbucketState to))) r e = let is : to ≡ r = cc in ap (λ x. Some (Ok (msg.SetVbucketState x))) is
read_by other r e = cc

no_answer : (n : ℕ) → (n == RESPONSE) ≡ false → n ≢ 0x81
no_answer n none e = let never : true ≡ false = sym (eq-eqb n RESPONSE e) ∙ none in cc

told_by : (c : PlainConsumer) (f : Frame) (take : TakeStep) (m : Bool) → (f.magic == RESPONSE) ≡ m → (if m then None else state_due (taking_of c) (state_in (read_of f))) ≡ Some take → Obeys c f take
told_by c f take true is e = cc
told_by c f take false is e =
    let (takes, (r, read, due)) = due_by (takes_states c) c.taking (state_in (read_of f)) take e in
    let (goes, over) = and_parts (is_streaming c.handshake) c.dialed.takeover takes in
    let granted : c.handshake ≡ handshake.Streaming = (streams c.handshake).0 goes in
    let (tells, next) = next_by c.taking.last r take due in
    (((no_answer f.magic is, ap over_why granted), granted, over), next, subst (λ x. Reads f (msg.SetVbucketState x)) tells (read_by (read_of f) r read))

told_back : (c : PlainConsumer) (f : Frame) (take : TakeStep) → state_told c f ≡ Some take → Obeys c f take
told_back c f take e = told_by c f take (f.magic == RESPONSE) refl e

-- ---- a state comes to nothing else that a stream has

state_is_none : (to : Role) → IsOfStream (msg.SetVbucketState to) → ⊥
unfolding call_of_message
state_is_none to of = of refl

state_alone : (f : Frame) (to : Role) (m : DcpMsg) → Reads f (msg.SetVbucketState to) → Reads f m → IsOfStream m → ⊥
state_alone f to m told read of = let same : m ≡ msg.SetVbucketState to = cc in state_is_none to (subst IsOfStream same of)

strange_comes : (c : PlainConsumer) (f : Frame) (to : Role) → IsMessage c.handshake f → Reads f (msg.SetVbucketState to) → Comes c.dialed.buffer c.handshake c.asked f (step.Passive passive.Protocol)
strange_comes c f to m told = (m, (λ (noop : Reads f msg.Noop). cc), λ goes k read of. state_alone f to k told read of)

-- ---- each step comes where it is said to

abbrev is_strange : ConsumerStep → Bool
is_strange (step.Passive passive.Protocol) = true
is_strange other = false

untold : (c : PlainConsumer) (f : Frame) (s : ConsumerStep) → Comes c.dialed.buffer c.handshake c.asked f s → is_strange s ≡ false → (take : TakeStep) → state_told c f ≡ Some take → ⊥
untold c f s p other take e =
    let obeys : Obeys c f take = told_back c f take e in
    let same : s ≡ step.Passive passive.Protocol = sym (comes_so c f s p) ∙ comes_so c f (step.Passive passive.Protocol) (strange_comes c f (state_of take) obeys.0.0 obeys.2) in
    let never : true ≡ false = sym (ap is_strange same) ∙ other in cc

by_told : (c : PlainConsumer) (f : Frame) (s : ConsumerStep) → Comes c.dialed.buffer c.handshake c.asked f s → ((take : TakeStep) → state_told c f ≡ Some take → ⊥) → (o : Option TakeStep) → state_told c f ≡ o → frame_step c f ≡ s
unfolding frame_step
by_told c f s p never None e = ap (λ o. state_or f.opaque o (unstated_step c f)) e ∙ comes_so c f s p
by_told c f s p never (Some take) e = absurd (never take e)

state_so : (c : PlainConsumer) (f : Frame) (take : TakeStep) → Obeys c f take → frame_step c f ≡ step.State take f.opaque
unfolding frame_step
state_so c f take obeys = ap (λ o. state_or f.opaque o (unstated_step c f)) (told_so c f take obeys)

pub comes_to_so : (c : PlainConsumer) (f : Frame) (s : ConsumerStep) → ComesTo c f s → frame_step c f ≡ s
comes_to_so c f (step.State take opaque) p = state_so c f take p.0 ∙ ap (step.State take) p.1
comes_to_so c f (step.Passive passive.Protocol) p = by_told c f (step.Passive passive.Protocol) p.0 (λ take e. p.1 take (told_back c f take e)) (state_told c f) refl
comes_to_so c f s p = by_told c f s p (untold c f s p refl) (state_told c f) refl

as_told : (c : PlainConsumer) (f : Frame) (s : ConsumerStep) → Comes c.dialed.buffer c.handshake c.asked f s → IsNoOrder c f → ComesTo c f s
as_told c f (step.State take opaque) p none = absurd p
as_told c f (step.Passive passive.Protocol) p none = (p, none)
as_told c f s p none = p

-- a frame is a state that is obeyed, or comes to what it comes to anyway
pub state_case : (c : PlainConsumer) (f : Frame) → ((take : TakeStep) × Obeys c f take × (frame_step c f ≡ step.State take f.opaque)) ⊎ (IsNoOrder c f × (frame_step c f ≡ unstated_step c f))
unfolding frame_step
state_case c f = by (state_told c f) refl
  where
    by : (o : Option TakeStep) → state_told c f ≡ o → ((take : TakeStep) × Obeys c f take × (frame_step c f ≡ step.State take f.opaque)) ⊎ (IsNoOrder c f × (frame_step c f ≡ unstated_step c f))
    by None e = inr ((λ take obeys. let never : Some take ≡ None = sym (told_so c f take obeys) ∙ e in cc), ap (λ o. state_or f.opaque o (unstated_step c f)) e)
    by (Some take) e = let obeys : Obeys c f take = told_back c f take e in inl (take, obeys, state_so c f take obeys)

-- what the step of a frame needs
pub comes_to_itself : (c : PlainConsumer) (f : Frame) → ComesTo c f (frame_step c f)
comes_to_itself c f = ⊎_elim
    (λ x. subst (ComesTo c f) (sym x.2) (x.1, refl))
    (λ x. subst (ComesTo c f) (sym x.1) (as_told c f (unstated_step c f) (comes_itself c f) x.0))
    (state_case c f)

-- ---- what becomes of the consumer

pub obeyed : (c : PlainConsumer) (f : Frame) (take : TakeStep) → Obeys c f take → consumer_step c f ≡ (record c { taking = record { last = Some take } }, step.State take f.opaque)
obeyed c f take obeys =
    ap (λ (s : ConsumerStep). (stepped s c, s)) (state_so c f take obeys)
    ∙ ap (λ o. (record c { taking = with_step o c.taking }, step.State take f.opaque)) (next_so c.taking.last take obeys.1)

pub only : (c : PlainConsumer) (f : Frame) (take : TakeStep) (opaque : ℕ) → (consumer_step c f).1 ≡ step.State take opaque → Obeys c f take × (f.opaque ≡ opaque)
only c f take opaque e = subst (ComesTo c f) e (comes_to_itself c f)

pub strange : (c : PlainConsumer) (f : Frame) (to : Role) → over_why c.handshake ≡ None → f.magic ≢ 0x81 → read_of f ≡ Some (Ok (msg.SetVbucketState to)) → IsNoOrder c f
    → consumer_step c f ≡ (ended_for reason.Protocol c, step.Passive passive.Protocol)
strange c f to live magic read none =
    ap (λ (s : ConsumerStep). (stepped s c, s)) (comes_to_so c f (step.Passive passive.Protocol) (strange_comes c f to (magic, live) read, none))

stays_by : (c : PlainConsumer) (f : Frame) (s : ConsumerStep) → ComesTo c f s → IsNoOrder c f → taking_after s c.taking ≡ c.taking
stays_by c f (step.State take opaque) p none = absurd (none take p.0)
stays_by c f s p none = refl

pub stays : (c : PlainConsumer) (f : Frame) → IsNoOrder c f → (consumer_step c f).0.taking ≡ c.taking
stays c f none = stays_by c f (frame_step c f) (comes_to_itself c f) none
