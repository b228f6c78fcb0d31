-- outcomes of durable writes that clients wait for: each answer fits what the lines tell, and after it all agrees
use Rattle.std.specs.Prelude.{◌≡◌, ◌+◌, ◌∷◌, ◌++◌, if◌then◌else◌}
use Rattle.transcript_law.proofs.Words.{ℕ, List, [], refl, sym, ◌∙◌, subst, inl, inr, arith, Pend, append_assoc, Option, Some, None, Frame}
use Rattle.transcript_law.proofs.Words.{Event, PlainProducer, States, PlainNode, PlainWorld, spelling, Chronicle, after_lines}
use Rattle.transcript_law.proofs.answers.Claims.{IsOf, serves_line, write_of}
use Rattle.transcript_law.proofs.answers.Committed.{HowTold}
use Rattle.durability.specs.declared.waiting.Waiting.{Waiting}
use Rattle.transcript_law.proofs.answers.Fits.{Repeats, frame_fits, is_outcome, outcome_fits, outcome_repeats}
use Rattle.transcript_law.proofs.indexers.Hands.{Goes, answered_goes, mine, standing}
use Rattle.transcript_law.proofs.indexers.Questions.{awaited_next, owed_numbers, used_as}
use Rattle.client_session.specs.Answers.{reply_line}
use Rattle.client_session.specs.Serving.{Served, outcome_reply, outcome_answered}
use Rattle.client_session.specs.declared.session.Awaited.{Awaited}
use Rattle.client_session.specs.declared.session.Settings.{Settings}
use Rattle.mcbp_kv.specs.declared.reply.KvReply.{KvReply}
use Rattle.vb_calls.specs.declared.calls.Resolution.{Resolution}
use Rattle.transcript_law.specs.LawfulAnswers.{FitsFrame, FitsRequest, IsOutcome, serving}
use Rattle.transcript_law.specs.LawfulMessages.{Moment, moment_of}
use Rattle.transcript_law.specs.Questions.{durables_after, durables_by, settings_after, settings_by}
use Rattle.transcript_law.specs.LinesTold.{OwnChange, told_for}
use Rattle.transcript_law.specs.Unanswered.{AsksDurably}
use Rattle.mcbp_kv.specs.Replies.{reply_frame}
use Rattle.transcript_law.proofs.invariant.Owing.{IsWaitOf}

-- what became of a durable write that is awaited under a number is told to its client
pub outcome_goes : (w : PlainWorld) (n c : ℕ) (base : PlainNode) (r : Chronicle) (a : Awaited) (how : Resolution) (Claim : ℕ → Waiting → Pend → Type 0) (states : States) (before : List Event) (producer : PlainProducer) (s : Served) → s.session.awaited ≡ Some a → (a.waiter ≡ 0 → ⊥)
    → IsOf (after_lines r (before ++ s.events)) n c a Claim → HowTold n (after_lines r (before ++ s.events)) Claim (record { waiter = a.waiter; how = how }) → Goes w n c base r states (before ++ s.events) (record { session = s.session; producer = producer })
    → Goes w n c base r states (before ++ (outcome_answered a how s).events) (record { session = (outcome_answered a how s).session; producer = producer })
unfolding reply_line
outcome_goes w n c base r a how Claim states before producer s waits some owns told g =
    let so : Chronicle = after_lines r (before ++ s.events) in
    let own = mine w n c base r g in
    let (o, next) = awaited_next (so.clients_at n c).asking s.session producer.handshake own.asks a waits in
    let f : Frame = o.question.frame in
    let settings : Settings = (so.clients_at n c).asking.settings in
    let same : settings ≡ s.session.settings = own.asks.settings in
    let count : ℕ = (so.clients_at n c).asking.durables in
    let durable : AsksDurably settings f = o.durable some in
    let reply : KvReply = outcome_reply s.session.settings a how in
    let repeats : Repeats f (reply_frame reply) = outcome_repeats s.session.settings f a how o.opcode o.opaque in
    let moment : Moment = moment_of (so.clients_at n c) (so.clients_at n c).asking o.question in
    let served : Option (List OwnChange) = serving so n c (so.clients_at n c).asking in
    let fits : FitsFrame served so n moment settings f (reply_frame reply) =
    subst (λ x. FitsFrame served so n moment settings f (reply_frame (outcome_reply x a how))) same
    (frame_fits served so n moment settings f (reply_frame (outcome_reply settings a how)) durable.own (subst (FitsRequest served so n count settings f (reply_frame (outcome_reply settings a how))) (sym durable.asks) (inr (
      o.numbered some,
      outcome_fits so n f.vb_or_status settings f durable.write durable.wish a how Claim o.opcode o.opaque served
          (λ told u x p is number claim.
          let (line, rises, told_is) = serves_line so.last (λ l. told_for (l.served n c) (so.clients_at n c).asking.answered so.made) told is in
          let k = owns line u x p rises number claim o.question next in
          write_of n settings f u x p told durable.write durable.wish durable.asks (subst (IsWaitOf n settings f u x p) told_is k)) told,
    )))) in
    let after : settings_after settings f ≡ settings = (λ i. if durable.own i then settings else settings_by (durable.asks i) settings) in
    let counted : durables_after settings f count ≡ count + 1 = (λ i. if durable.own i then count else durables_by (durable.asks i) count) in
    subst (λ es. Goes w n c base r states es (record { session = record s.session { awaited = None }; producer = producer }))
    (append_assoc before s.events (Event.Reply n c (spelling (reply_frame reply)) ∷ []) ∙ (λ i. before ++ (s.events ++ Event.Reply (sym own.conn.node i) (sym own.conn.number i) (spelling (reply_frame reply)) ∷ [])))
    (answered_goes w n c base r (standing w n c base r g) (record s.session { awaited = None }) refl refl refl a waits o.question next refl (sym (subst (λ x. settings_after x f ≡ x) same after)) (omega arith) (λ l. l)
    (used_as refl (sym counted) (owed_numbers s.session.awaited a s.session.used count waits some own.asks.numbers)) (reply_frame reply) repeats.response repeats.opcode repeats.opaque fits
    (inr (inl (subst (λ x. IsOutcome settings f (reply_frame (outcome_reply x a how))) same (is_outcome settings f a durable.write durable.wish durable.asks how), g.calm))))
