-- behind a line no client is left without an answer, but one that asked for a durable write whose outcome it waits for
use Rattle.std.specs.Prelude.{◌≡◌}
use Rattle.transcript_law.proofs.Words.{ℕ, true, false, refl, sym, ap, ◌∙◌, subst, Option, Some, None, is_some, Chronicle, PlainNode, PlainWorld}
use Rattle.client_session.specs.Serving.{PlainSession}
use Rattle.client_session.specs.declared.session.Awaited.{Awaited}
use Rattle.mcbp_frame.specs.Cutting.{fault_in, frame_in, front_fault}
use Rattle.node_core.specs.Clients.{PlainClient}
use Rattle.transcript_law.proofs.indexers.Questions.{awaited_next, rest_asks}
use Rattle.transcript_law.proofs.invariant.{Agreement.{Agrees}, ClientWorlds.{ConnsAre, NodeToldIf}, ClientsTold.{ClientAgrees}, Ranged.{IsRanged, NodeRangedIf, SessionRangedIf}, Sessions.{SessionRanged, awaited_numbered}}
use Rattle.transcript_law.specs.{Feeding.{client_in}, Questions.{Question, behind_frames, question_of}, StreamsTold.{Asking}, Unanswered.{AllAnswered, AsksDurably, NoneAsks, NoneWaits}}

-- an open connection, by what its session awaits
module _ (n c : ℕ) (w : PlainWorld) (r : Chronicle) (client : PlainClient) (a : ClientAgrees w r n c client) (ranged : SessionRanged n client.session) where
  abbrev asking : Asking
  asking = (r.clients_at n c).asking

  abbrev session : PlainSession
  session = client.session

  -- nothing: all frames were served, each is answered that wants to be, and behind them no fault stands
  pub none_asked : session.awaited ≡ None → (question_of asking ≡ None) × (front_fault (behind_frames asking.bytes) ≡ None)
  none_asked free =
      let rest = ranged.rests a.alive free in
      let left = rest_asks asking session client.producer.handshake a.asks free (ap frame_in rest) in (left.0, ap front_fault left.1 ∙ ap fault_in rest)

  -- an outcome: that answers what is asked next
  none_asks : NoneAsks asking
  none_asks q asked = by session.awaited refl
    where
      by : (o : Option Awaited) → session.awaited ≡ o → AsksDurably asking.settings q.frame
      by None free = let z : None ≡ Some q = sym (none_asked free).0 ∙ asked in cc
      by (Some awaited) waits =
          let (o, is) = awaited_next asking session client.producer.handshake a.asks awaited waits in
          let both : Some o.question ≡ Some q = sym is ∙ asked in
          let same : o.question ≡ q = cc in
          subst (λ (p : Question). AsksDurably asking.settings p.frame) same (o.durable (awaited_numbered session awaited ranged.numbered waits))

  -- and nothing broken waits
  none_broken : question_of asking ≡ None → front_fault (behind_frames asking.bytes) ≡ None
  none_broken none = by session.awaited refl
    where
      by : (o : Option Awaited) → session.awaited ≡ o → front_fault (behind_frames asking.bytes) ≡ None
      by None free = (none_asked free).1
      by (Some awaited) waits =
          let (o, is) = awaited_next asking session client.producer.handshake a.asks awaited waits in
          let z : None ≡ Some o.question = sym none ∙ is in cc

  pub none_waits : NoneWaits asking
  none_waits = record { asks = none_asks; whole = none_broken }

-- all of them
pub all_answered : (w : PlainWorld) (r : Chronicle) → Agrees w r → IsRanged w → ConnsAre w r.conn_at → AllAnswered r
all_answered w r (k, agrees) ranged are n c opens = by (w.nodes n) refl (are n) (ranged n)
  where
    at : (node : PlainNode) → w.nodes n ≡ Some node → (o : Option PlainClient) → node.clients c ≡ o → is_some o ≡ true → SessionRangedIf n o → NoneWaits (r.clients_at n c).asking
    at node e None f some here = cc
    at node e (Some client) f some here = none_waits n c w r client (agrees.clients.each n c client (ap (λ p. client_in p c) e ∙ f)) here

    by : (o : Option PlainNode) → w.nodes n ≡ o → NodeToldIf (r.conn_at n) n o → NodeRangedIf n o → NoneWaits (r.clients_at n c).asking
    by None e closed there = let z : true ≡ false = sym opens ∙ closed c in cc
    by (Some node) e told there = at node e (node.clients c) refl (sym (told.told c) ∙ opens) (there.clients c)
