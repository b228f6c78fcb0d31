-- a client's connection in the middle of a call: it goes on, a frame of it is to be answered, or it is over
use Rattle.std.specs.Prelude.{◌≡◌, ◌<◌, ◌≤◌, ◌^◌, ◌∷◌, ◌++◌, ◌==◌}
use Rattle.transcript_law.proofs.answers.Calm.{durable_left}
use Rattle.transcript_law.proofs.Words.{arith, ℕ, true, false, List, [], drop, refl, sym, ap, ◌∙◌, subst, inl, Some, None, Ok, Event, Frame, RESPONSE, AreBytes, States, PlainNode, PlainWorld, Cluster, Chronicle, after_line, after_lines}
use Rattle.client_session.specs.{Serving.{PlainSession, is_dcp}}
use Rattle.client_session.specs.declared.session.Awaited.{Awaited}
use Rattle.mcbp_frame.specs.Frames.{first_frame, frame_len}
use Rattle.node_core.specs.Clients.{Handling, PlainClient}
use Rattle.transcript_law.proofs.invariant.{Agreement.{Agrees, AgreesIn, idle}, ClientsTold.{AskingIs, ClientAgrees, HasUsed}, Owed.{Owed, waits_none}, Tables.{at_here}}
use Rattle.transcript_law.proofs.indexers.{Beside.{beside}, Flows.{flow_session}, Questions.{past_asks}, Serving.{session_agrees}, Steps.{ClientStep}, Worlds.{client_here, step_quiet, stepped, stepped_same, vb_here, waited, world_with}}
use Rattle.transcript_law.proofs.lines.Telling.{LawfulBefore, before_more, told_more}
use Rattle.mcbp_frame.specs.Spelling.{spelling}
use Rattle.transcript_law.specs.{ClientStreams.{clients_frame}, Feeding.{HasFed, HasOpen}, LawfulAnswers.{AllDurable, FitsFrame, IsTimely, LawfulReply}, LawfulMessages.{moment_of}, LinesTold.{made_line}, Questions.{Question, past_answer, past_question, past_question_if, question_of, settings_after}, StreamsTold.{ClientKnown, with_at}}
use Rattle.vb_events.specs.declared.event.StreamName.{StreamName}
use Rattle.transcript_law.proofs.answers.Committed.{kept_made}
use Rattle.transcript_law.specs.{LawfulAnswers.{serving}, LinesTold.{OwnChange, is_durable}}

-- ---- an answer

-- nothing was told of the connection whose frame comes next
abbrev pub NoneTold : ℕ → ℕ → Chronicle → Type 0
NoneTold n c r = (r.clients_at n c).told ≡ None

-- what is read once the client c of the node n got an answer, and this is known of it
abbrev pub answered_as : Chronicle → ℕ → ℕ → ClientKnown → Chronicle
answered_as r n c known = record r { clients_at = with_at r.clients_at n c known; made = made_line r.made (Event.Reply n c []); changed = false }

-- an answer is to what was asked next
pub frame_told : (n c : ℕ) (bytes : List ℕ) (r : Chronicle) → NoneTold n c r → after_line r (Event.Reply n c bytes) ≡ answered_as r n c (past_answer (r.clients_at n c))
frame_told n c bytes r none = ap (λ o. record r { clients_at = clients_frame r.tree r.clients_at n c bytes o; made = made_line r.made (Event.Reply n c bytes); changed = false }) none

pub question_told : (n c : ℕ) (bytes : List ℕ) (r : Chronicle) (q : Question) → NoneTold n c r → question_of (r.clients_at n c).asking ≡ Some q
    → after_line r (Event.Reply n c bytes) ≡ answered_as r n c (record (r.clients_at n c) { asking = past_question q (r.clients_at n c).asking })
question_told n c bytes r q none next =
    frame_told n c bytes r none ∙ ap (λ o. answered_as r n c (record (r.clients_at n c) { asking = past_question_if o (r.clients_at n c).asking })) next

-- the session alone changed, to which what it awaited was answered
module _ (w : PlainWorld) (n c : ℕ) (node : PlainNode) (states : States) (client : PlainClient) (r : Chronicle) (k : Cluster) (a : AgreesIn idle (world_with w n c node states (Some client)) r k) (session : PlainSession) where
  abbrev with_session : PlainClient
  with_session = record client { session = session }

  abbrev own : ClientAgrees (world_with w n c node states (Some client)) r n c client
  own = a.clients.each n c client (client_here w n c node states (Some client))

  abbrev step : ClientStep (world_with w n c node states (Some client)) (world_with w n c node states (Some with_session)) n c
  step = step_quiet w n c node states states (Some client) (Some with_session) (λ q. refl)

  -- it has the bytes that it had
  module _ (who : session.who ≡ client.session.who) (closed : session.closed ≡ client.session.closed) (reader : session.reader ≡ client.session.reader) where
    -- and as much is known of what it asked
    pub session_kept : AskingIs (r.clients_at n c).asking session client.producer.handshake → Owed (world_with w n c node states (Some with_session)) r → AgreesIn idle (world_with w n c node states (Some with_session)) r k
    session_kept asks owed =
        stepped_same w n c node states states client with_session r k a step (λ v id has. inl has)
        (session_agrees (world_with w n c node states (Some client)) (world_with w n c node states (Some with_session)) r r n c client session own (r.clients_at n c) refl refl (refl, refl, refl) who closed
        (own.heard.bytes ∙ ap (λ l. own.heard.front ++ l) (sym reader)) asks (flow_session (r.clients_at n c).flow client.session session client.producer.handshake client.producer.window reader own.flow) refl refl refl (λ v. vb_here w n c node states (Some with_session) v ∙ sym (vb_here w n c node states (Some client) v))) owed

    -- or what it awaited was answered
    pub answered_agrees : (o : Awaited) → client.session.awaited ≡ Some o → (q : Question) → question_of (r.clients_at n c).asking ≡ Some q → session.awaited ≡ None → session.settings ≡ settings_after client.session.settings q.frame → client.session.used ≤ session.used → (client.session.used < 2 ^ 32 → session.used < 2 ^ 32)
        → HasUsed session.used (past_question q (r.clients_at n c).asking).durables → AgreesIn idle (world_with w n c node states (Some with_session)) (answered_as r n c (record (r.clients_at n c) { asking = past_question q (r.clients_at n c).asking })) k
    answered_agrees o waits q next free settings used few numbers =
        let known : ClientKnown = record (r.clients_at n c) { asking = past_question q (r.clients_at n c).asking } in
        let table : Chronicle = record r { clients_at = with_at r.clients_at n c known } in
        beside (world_with w n c node states (Some with_session)) table table.conn_at (made_line r.made (Event.Reply n c [])) r.ticks false k (λ one durable i. kept_made (λ (m : OwnChange). is_durable m.change.act) one r.made durable i)
        (stepped w n c node states states client with_session r known k a step (λ v id has. inl has)
        (session_agrees (world_with w n c node states (Some client)) (world_with w n c node states (Some with_session)) r table n c client session own known (at_here r.clients_at n c known) refl (refl, refl, refl) who closed
        (own.heard.bytes ∙ ap (λ l. own.heard.front ++ l) (sym reader)) (past_asks (r.clients_at n c).asking client.session session client.producer.handshake own.asks o q waits next reader free settings numbers)
        (flow_session (r.clients_at n c).flow client.session session client.producer.handshake client.producer.window reader own.flow) refl refl refl (λ v. vb_here w n c node states (Some with_session) v ∙ sym (vb_here w n c node states (Some client) v)))
        (waited w n c node states states client with_session r known k a step (waits_none (r.clients_at n c).asking known.asking client.session session who used few free (omega arith))))

-- an answer that fits, and does not pass over a change, is lawful
pub reply_lawful : (r : Chronicle) (n c : ℕ) (q : Question) (answer : Frame) (behind : List Event) → question_of (r.clients_at n c).asking ≡ Some q → answer.magic ≡ RESPONSE → answer.opcode ≡ q.frame.opcode → answer.opaque ≡ q.frame.opaque
    → FitsFrame (serving r n c (r.clients_at n c).asking) r n (moment_of (r.clients_at n c) (r.clients_at n c).asking q) (r.clients_at n c).asking.settings q.frame answer → IsTimely r (r.clients_at n c).asking.settings q.frame answer → LawfulReply r n c (r.clients_at n c).asking (spelling answer) behind
reply_lawful r n c q answer behind next response code number fits calm = inl (record { question = q; next = next; answer = answer; spelled = refl; response = response; opcode = code; opaque = number; fits = fits; calm = calm })

-- ---- the connection

module _ (w : PlainWorld) (n c : ℕ) (node : PlainNode) (r : Chronicle) where
  -- all lines so far are lawful, and all agrees with it
  pub record Standing (states : States) (lines : List Event) (client : PlainClient) : Type 0 where
    pub lawful : LawfulBefore r lines
    pub agrees : Agrees (world_with w n c node states (Some client)) (after_lines r lines)
    pub bytes : AreBytes client.session.reader

  -- it goes on: so it is, and no set and no removal waits to be answered; and where its session awaits nothing, nothing was changed since the answer before
  pub record Goes (states : States) (lines : List Event) (client : PlainClient) : Type 0 where
    pub lawful : LawfulBefore r lines
    pub agrees : Agrees (world_with w n c node states (Some client)) (after_lines r lines)
    pub bytes : AreBytes client.session.reader
    pub calm : AllDurable (after_lines r lines).made
    pub still : client.session.awaited ≡ None → (after_lines r lines).changed ≡ false

  pub standing : {states : States} {lines : List Event} {client : PlainClient} → Goes states lines client → Standing states lines client
  standing g = record { lawful = g.lawful; agrees = g.agrees; bytes = g.bytes }

  pub calmly : {states : States} {lines : List Event} {client : PlainClient} {a : Awaited} → Standing states lines client → client.session.awaited ≡ Some a → AllDurable (after_lines r lines).made → Goes states lines client
  calmly {a = a} g waits calm = record { lawful = g.lawful; agrees = g.agrees; bytes = g.bytes; calm = calm; still = λ free. let z : None ≡ Some a = sym free ∙ waits in cc }

  -- a request of DCP was handed up, and is not answered yet: all agrees with the connection that has it in front
  pub record HandedUp (f : Frame) (states : States) (lines : List Event) (client : PlainClient) : Type 0 where
    pub reader : List ℕ
    pub first : first_frame reader ≡ Some (Ok f)
    pub behind : client.session.reader ≡ drop (frame_len f) reader
    pub asks : (f.magic == RESPONSE) ≡ false
    pub dcp : is_dcp f.opcode ≡ true
    pub free : client.session.awaited ≡ None
    pub goes : Goes states lines (record client { session = record client.session { reader = reader } })

  -- it is over, and told so: it is no connection of the node any more, nobody else has one of its open streams, and no set and no removal waits to be answered
  pub record Over (states : States) (lines : List Event) (client : PlainClient) : Type 0 where
    pub lawful : LawfulBefore r lines
    pub agrees : Agrees (world_with w n c node states None) (after_lines r lines)
    pub calm : AllDurable (after_lines r lines).made
    pub empty : client.session.reader ≡ []
    pub closed : client.session.closed ≡ true
    pub nobody : (v id : ℕ) → HasOpen v id client.producer.streams → (who : StreamName) → HasFed (world_with w n c node states None) who n v id → ⊥

  pub data InHand (states : States) (h : Handling) : Type 0 where
    IsOpen : h.dcp ≡ None → Goes states h.events h.client → InHand states h
    IsAsked : (f : Frame) → h.dcp ≡ Some f → HandedUp f states h.events h.client → InHand states h
    IsOver : h.dcp ≡ None → Over states h.events h.client → InHand states h

  -- by which of them it is
  pub by_hand : {P : Type 0} {states : States} {h : Handling} → InHand states h → (Goes states h.events h.client → P) → ((f : Frame) → h.dcp ≡ Some f → P) → (Over states h.events h.client → P) → P
  by_hand (InHand.IsOpen none g) goes asked over = goes g
  by_hand (InHand.IsAsked f is up) goes asked over = asked f is
  by_hand (InHand.IsOver none o) goes asked over = over o

  -- what agrees of the connection
  pub mine : {states : States} {lines : List Event} {client : PlainClient} → Goes states lines client → ClientAgrees (world_with w n c node states (Some client)) (after_lines r lines) n c client
  mine {states = states} {client = client} g = g.agrees.1.clients.each n c client (client_here w n c node states (Some client))

  module _ {states : States} {lines : List Event} {client : PlainClient} (g : Standing states lines client) where
    pub stands : ClientAgrees (world_with w n c node states (Some client)) (after_lines r lines) n c client
    stands = g.agrees.1.clients.each n c client (client_here w n c node states (Some client))

    abbrev so_far : Chronicle
    so_far = after_lines r lines

    -- the session alone is another one, that has the bytes that it had
    module _ (session : PlainSession) (who : session.who ≡ client.session.who) (closed : session.closed ≡ client.session.closed) (reader : session.reader ≡ client.session.reader) where
      -- while as much is known of what it asked
      pub session_goes : AskingIs (so_far.clients_at n c).asking session client.producer.handshake → Owed (world_with w n c node states (Some (record client { session = session }))) so_far → Standing states lines (record client { session = session })
      session_goes asks owed = record {
        lawful = g.lawful;
        agrees = (g.agrees.0, session_kept w n c node states client so_far g.agrees.0 g.agrees.1 session who closed reader asks owed);
        bytes = subst AreBytes (sym reader) g.bytes;
      }

      -- or what was awaited is answered
      pub answered_goes : (o : Awaited) → client.session.awaited ≡ Some o → (q : Question) → question_of (so_far.clients_at n c).asking ≡ Some q → session.awaited ≡ None → session.settings ≡ settings_after client.session.settings q.frame → client.session.used ≤ session.used → (client.session.used < 2 ^ 32 → session.used < 2 ^ 32)
          → HasUsed session.used (past_question q (so_far.clients_at n c).asking).durables → (answer : Frame) → answer.magic ≡ RESPONSE → answer.opcode ≡ q.frame.opcode → answer.opaque ≡ q.frame.opaque → FitsFrame (serving so_far n c (so_far.clients_at n c).asking) so_far n (moment_of (so_far.clients_at n c) (so_far.clients_at n c).asking q) (so_far.clients_at n c).asking.settings q.frame answer
          → IsTimely so_far (so_far.clients_at n c).asking.settings q.frame answer → Goes states (lines ++ Event.Reply n c (spelling answer) ∷ []) (record client { session = session })
      answered_goes o waits q next free settings used few numbers answer response code number fits calm =
          let line : Event = Event.Reply n c (spelling answer) in
          let told : after_lines r (lines ++ line ∷ []) ≡ answered_as so_far n c (record (so_far.clients_at n c) { asking = past_question q (so_far.clients_at n c).asking }) = told_more r lines (line ∷ []) ∙ question_told n c (spelling answer) so_far q stands.silent next in
          record {
            lawful = before_more r lines (line ∷ []) g.lawful (λ more rest. ((λ none. reply_lawful so_far n c q answer more next response code number fits calm), rest));
            agrees = (
              g.agrees.0,
              subst (λ x. AgreesIn idle (world_with w n c node states (Some (record client { session = session }))) x g.agrees.0) (sym told)
                  (answered_agrees w n c node states client so_far g.agrees.0 g.agrees.1 session who closed reader o waits q next free settings used few numbers),
            );
            bytes = subst AreBytes (sym reader) g.bytes;
            calm = subst (λ (k : Chronicle). AllDurable k.made) (sym told) (durable_left so_far.made);
            still = λ free. ap (λ (k : Chronicle). k.changed) told;
          }
