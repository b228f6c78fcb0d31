-- the bases of client connections: a connection awaits no outcome but one for a waiter of its own base
use Rattle.std.proofs.Common.{◌≡◌, ◌≢◌, ℕ, ◌+◌, ◌*◌, ◌/◌, ◌^◌, ◌<◌, Bool, true, false, List, map, refl, ap, sym, ◌∙◌, subst, arith, Option, Some, None, Result, Ok, Err}
use Rattle.std.specs.Prelude.{◌==◌, nat_le, if◌then◌else◌}
use Rattle.std.specs.Option.{option_map}
use Rattle.std.proofs.lemmas.Bool.{eqb-true, eqb-false}
use Rattle.std.proofs.lemmas.Bool.Decides.{nat_tests}
use Rattle.mcbp_frame.specs.declared.frame.Frame.{Frame}
use Rattle.mcbp_frame.specs.declared.frame.TheConstants.{RESPONSE}
use Rattle.mcbp_kv.specs.Requests.{request_of}
use Rattle.mcbp_kv.specs.declared.request.KvRequest.{KvRequest}
use Rattle.mcbp_kv.specs.declared.request.KvRequest.TheVariants as request
use Rattle.vb_events.specs.declared.event.Event.TheVariants as event
use Rattle.vb_types.specs.declared.status.Status.{Status}
use Rattle.vb_types.specs.declared.status.Status.TheVariants as status
use Rattle.vb_calls.specs.Jobs.{after_reads}
use Rattle.vb_calls.specs.Shelves.{Shelves}
use Rattle.vb_calls.specs.Programs.{Prog, Done, after}
use Rattle.vb_calls.specs.States.{States}
use Rattle.vb_calls.specs.declared.calls.Resolution.{Resolution}
use Rattle.vb_calls.specs.declared.calls.Resolved.{Resolved}
use Rattle.vb_calls.specs.declared.calls.VbAnswer.{VbAnswer}
use Rattle.vb_calls.specs.declared.calls.VbAnswer.TheVariants as answer
use Rattle.vb_calls.specs.declared.calls.VbCall.{VbCall}
use Rattle.vb_calls.specs.declared.calls.VbCall.TheVariants as call
use Rattle.vb_calls.specs.declared.calls.VbReply.{VbReply}
use Rattle.client_session.specs.declared.session.Awaited.{Awaited}
use Rattle.client_session.specs.Serving.{PlainSession, Served, MOST_DURABLE, answered_or_awaited, asked, awaited_by, awaits, deadline_of, durable_answered, durable_called, durable_replied, frame_handled, handed, is_dcp, next_waiter, outcome_of, refused, request_handled, told, with_lines, with_used}
use Rattle.client_session.proofs.Conduct.{either}
use Rattle.client_session.proofs.Keeping.{front_of}
use Rattle.node_core.specs.Calls.{left_open}
use Rattle.node_core.specs.Clients.{ClientPulled, PlainClient, Handling, client_ended, client_fed, client_posted, client_pulled}
use Rattle.node_core.specs.Outcomes.{value_at}
use Rattle.node_core.proofs.Handlings.{fed_goes, posted_goes}
use Rattle.node_world.specs.declared.script_node.ScriptNode.{ScriptNode}
use Rattle.node_world.specs.Ends.{clients_ended}
use Rattle.node_world.specs.Nodes.{PlainNode, awaits_in, with_conn}
use Rattle.node_world.specs.Stands.{BaseStands, BasesStand, IsOfBase, NodeMatch}
use Rattle.node_world.proofs.PullReads.{client_put}

-- ---- what a session does

-- the number of a wait has the connection's base in its upper half
base_in : (base used : ℕ) → nat_le MOST_DURABLE used ≡ false → (base * 2 ^ 32 + (used + 1)) / 2 ^ 32 ≡ base
base_in base used room = let lt : used < MOST_DURABLE = grind (arith, nat_tests, room) in omega (arith, lt)

module _ (base : ℕ) where
  abbrev Of : Served → Type 0
  Of s = IsOfBase base s.session

  -- nothing is awaited
  pub free_of : (s : PlainSession) → s.who.base ≡ base → s.awaited ≡ None → IsOfBase base s
  free_of s own none = record { own = own; waits = λ waiter is. let no : false ≡ true = sym (ap (awaits waiter) none) ∙ is in cc }

  prepared_of : (a : Awaited) (how : Option Resolution) (s : Served) → a.waiter / 2 ^ 32 ≡ base → Of s → Of (answered_or_awaited a how s)
  prepared_of a None s numbered of = record { own = of.own; waits = λ waiter is. ap (λ w. w / 2 ^ 32) (sym (eqb-true a.waiter waiter is)) ∙ numbered }
  prepared_of a (Some how) s numbered of = free_of (answered_or_awaited a (Some how) s).session of.own refl

  answered_of : (waiter : ℕ) (f : Frame) (how : Option Resolution) (a : VbAnswer) (s : Served) → waiter / 2 ^ 32 ≡ base → Of s → Of (durable_answered waiter f how a s)
  answered_of waiter f how (answer.Status st) s numbered of = of
  answered_of waiter f how (answer.Prepared seq cas) s numbered of = prepared_of (awaited_by waiter f) how s numbered of
  answered_of waiter f how other s numbered of = of

  durable_of : (waiter : ℕ) (f : Frame) (s : Served) (reply : Option VbReply) → waiter / 2 ^ 32 ≡ base → Of s → Of (durable_replied waiter f s reply)
  unfolding durable_replied
  durable_of waiter f s None numbered of = of
  durable_of waiter f s (Some reply) numbered of =
      answered_of waiter f (outcome_of waiter reply.resolved) reply.answer (with_lines s (map (event.Changed s.session.who.node f.vb_or_status reply.branch) reply.changes)) numbered of

  abbrev Goes : States → Prog Served → Type 0
  Goes states prog = Of (after prog states).1

  asked_of : (states : States) (f : Frame) (c : VbCall) (s : Served) → Of s → Goes states (asked f c s)
  unfolding told
  asked_of states f c s of = of

  called_of : (states : States) (f : Frame) (c : VbCall) (s : Served) (full : Bool) → nat_le MOST_DURABLE s.session.used ≡ full → Of s → Goes states (if full then Done (refused f status.Etmpfail s) else durable_called f c s)
  called_of states f c s true e of = of
  called_of states f c s false e of =
      durable_of (next_waiter s.session) f (with_used s) _ (base_in s.session.who.base s.session.used e ∙ of.own) (record { own = of.own; waits = of.waits })

  request_goes : (states : States) (clock : ℕ) (f : Frame) (r : Result KvRequest Status) (s : Served) → Of s → Goes states (request_handled clock f r s)
  unfolding request_handled
  request_goes states clock f (Err st) s of = of
  request_goes states clock f (Ok request.Noop) s of = of
  request_goes states clock f (Ok (request.Hello features)) s of = record { own = of.own; waits = of.waits }
  request_goes states clock f (Ok (request.Get key)) s of = asked_of states f (call.Get key) s of
  request_goes states clock f (Ok (request.Write write None)) s of = asked_of states f (call.Store write clock) s of
  request_goes states clock f (Ok (request.Write write (Some wish))) s of =
      called_of states f (call.Durable write clock wish.level (deadline_of clock wish.timeout) (next_waiter s.session)) s (nat_le MOST_DURABLE s.session.used) refl of

  frame_goes : (states : States) (clock : ℕ) (f : Frame) (s : Served) → Of s → Goes states (frame_handled clock f s)
  unfolding frame_handled
  frame_goes states clock f s of =
      let answers : Prog Served = request_handled clock f (request_of s.session.settings.json f) s in
      either (Goes states) (f.magic == RESPONSE) (Done s) (if is_dcp f.opcode then Done (handed f s) else answers) of
      (either (Goes states) (is_dcp f.opcode) (Done (handed f s)) answers of (request_goes states clock f (request_of s.session.settings.json f) s of))

  front_goes : (states : States) (clock : ℕ) (f : Frame) (s : Served) → Of s → Goes states (frame_handled clock f (front_of f s))
  front_goes states clock f s of = frame_goes states clock f (front_of f s) (record { own = of.own; waits = of.waits })

  -- ---- what a client's connection does

  abbrev Came : States × Handling → Type 0
  Came x = IsOfBase base x.1.client.session

  pub fed_of : (clock : ℕ) (piece : List ℕ) (client : PlainClient) (states : States) → IsOfBase base client.session → Came (after (client_fed clock piece client) states)
  fed_of clock piece client states of =
      fed_goes Came clock (λ before producer f states s first p. front_goes states clock f s p) (λ before producer fault states s first p. record { own = p.own; waits = p.waits }) (λ f states h e p. p)
      (λ states h e p. p) piece client states of (record { own = of.own; waits = of.waits })

  pub posted_of : (clock : ℕ) (r : Resolved) (client : PlainClient) (states : States) → IsOfBase base client.session → Came (after (client_posted clock r client) states)
  posted_of clock r client states of =
      posted_goes Came clock (λ before producer f states s first p. front_goes states clock f s p) (λ before producer fault states s first p. record { own = p.own; waits = p.waits }) (λ f states h e p. p)
      (λ states h e p. p) r client states of (λ a e. free_of (record client.session { awaited = None }) of.own refl)

  pub pulled_of : (frames : ℕ) (client : PlainClient) (shelves : Shelves) (states : States) → IsOfBase base client.session → IsOfBase base (after_reads (client_pulled frames client) shelves states).1.client.session
  pulled_of frames client shelves states of = subst (λ (x : States × ClientPulled). IsOfBase base x.1.client.session) (sym (client_put frames client shelves states)) of

-- ---- the bases that are kept

-- a connection went on, and is open still
pub stays_of : (o : Option ℕ) (client left : PlainClient) → ((base : ℕ) → IsOfBase base client.session → IsOfBase base left.session) → BaseStands (Some client) o → BaseStands (Some left) o
stays_of None client left keeps h = absurd h
stays_of (Some base) client left keeps h = keeps base h

-- or it closed
pub left_of : (client : PlainClient) (o : Option ℕ) → BaseStands (Some client) o → BaseStands (left_open client) o
left_of client o h = by client.session.closed
  where
    by : (b : Bool) → BaseStands (if b then None else Some client) o
    by true = tt
    by false = h

ended_of : (v : ℕ) (ids : List ℕ) (s : Option PlainClient) (o : Option ℕ) → BaseStands s o → BaseStands (option_map (client_ended v ids) s) o
ended_of v ids None o h = tt
ended_of v ids (Some client) None h = absurd h
ended_of v ids (Some client) (Some base) h = h

-- clients are told which of their streams ended
pub bases_told : (v : ℕ) (ended : Option (List ℕ)) (bases : List (ℕ × ℕ)) (clients : ℕ → Option PlainClient) → BasesStand bases clients → BasesStand bases (clients_ended v ended clients)
bases_told v None bases clients stand = stand
bases_told v (Some ids) bases clients stand = λ c. ended_of v ids (clients c) (value_at bases c) (stand c)

-- one number's connection changes
pub bases_set : (bases bases' : List (ℕ × ℕ)) (clients : ℕ → Option PlainClient) (c : ℕ) (client : Option PlainClient) → ((d : ℕ) → d ≢ c → value_at bases' d ≡ value_at bases d) → BaseStands client (value_at bases' c)
    → BasesStand bases clients → BasesStand bases' (with_conn clients c client)
bases_set bases bases' clients c client others here stand = λ d. by d (d == c) refl
  where
    by : (d : ℕ) (b : Bool) → (d == c) ≡ b → BaseStands (if b then client else clients d) (value_at bases' d)
    by d true e = subst (λ k. BaseStands client (value_at bases' k)) (sym (eqb-true d c e)) here
    by d false e = subst (BaseStands (clients d)) (sym (others d (eqb-false d c e))) (stand d)

-- a connection of another base does not await the outcome
pub not_of_base : (seat : ScriptNode) (plain : PlainNode) (waiter c : ℕ) → value_at seat.bases c ≢ Some (waiter / 2 ^ 32) → NodeMatch seat plain → awaits_in waiter (plain.clients c) ≡ false
not_of_base seat plain waiter c other stands = by (plain.clients c) (value_at seat.bases c) refl (stands.bases c)
  where
    no : (b : Bool) → (b ≡ true → ⊥) → b ≡ false
    no true h = absurd (h refl)
    no false h = refl

    by : (s : Option PlainClient) (o : Option ℕ) → value_at seat.bases c ≡ o → BaseStands s o → awaits_in waiter s ≡ false
    by None o e h = refl
    by (Some client) None e h = absurd h
    by (Some client) (Some base) e h = no (awaits waiter client.session.awaited) (λ is. other (e ∙ ap Some (sym (h.waits waiter is))))
