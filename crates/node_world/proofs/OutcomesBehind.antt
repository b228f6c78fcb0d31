-- outcomes of durable writes, told behind other lines
use Rattle.std.proofs.Common.{◌≡◌, ℕ, Bool, false, List, [], ◌∷◌, ◌++◌, append_assoc, refl, ap, sym, ◌∙◌, Option, Some, None, subst}
use Rattle.client_session.specs.declared.session.Awaited.{Awaited}
use Rattle.client_session.specs.Conduct.{sent}
use Rattle.vb_events.specs.declared.event.Event.{Event}
use Rattle.vb_calls.specs.declared.calls.Resolved.{Resolved}
use Rattle.node_core.specs.Clients.{PlainClient}
use Rattle.client_session.specs.Serving.{PlainSession, awaits}
use Rattle.client_session.specs.Rows.{IsOutcome}
use Rattle.node_world.proofs.ClientsTold.{session_in}
use Rattle.node_world.specs.Nodes.{PlainNode, all_posted, awaits_in, posted}
use Rattle.node_world.specs.OutcomesTold.{TellsBehind, TellsOutcomes}
use Rattle.node_world.specs.Posting.{AwaitsAlone}
use Rattle.node_world.proofs.WhoAwaits.{goes}

-- ---- one outcome

-- the sessions of connections are as before
abbrev pub SameSessions : (ℕ → Option PlainClient) → (ℕ → Option PlainClient) → Type 0
SameSessions old new = (c : ℕ) → session_in (new c) ≡ session_in (old c)

-- whether a session awaits an outcome
abbrev awaits_by : ℕ → Option PlainSession → Bool
awaits_by waiter None = false
awaits_by waiter (Some session) = awaits waiter session.awaited

awaits_is : (waiter : ℕ) (o : Option PlainClient) → awaits_in waiter o ≡ awaits_by waiter (session_in o)
awaits_is waiter None = refl
awaits_is waiter (Some client) = refl

module _ (r : Resolved) (a : Awaited) where
  -- at a node with the same sessions it is awaited too
  alone_in : (c : ℕ) (node other : PlainNode) (client : PlainClient) → SameSessions node.clients other.clients → AwaitsAlone r.waiter c client a node
      → (now : PlainClient) × (now.session ≡ client.session) × AwaitsAlone r.waiter c now a other
  alone_in c node other client same alone = by (other.clients c) refl
    where
      still : (d : ℕ) → awaits_in r.waiter (other.clients d) ≡ awaits_in r.waiter (node.clients d)
      still d = awaits_is r.waiter (other.clients d) ∙ ap (awaits_by r.waiter) (same d) ∙ sym (awaits_is r.waiter (node.clients d))

      by : (o : Option PlainClient) → other.clients c ≡ o → (now : PlainClient) × (now.session ≡ client.session) × AwaitsAlone r.waiter c now a other
      by None e = let no : None ≡ Some client.session = sym (ap session_in e) ∙ same c ∙ ap session_in alone.there in absurd (cc no)
      by (Some now) e =
          let some : Some now.session ≡ Some client.session = sym (ap session_in e) ∙ same c ∙ ap session_in alone.there in
          let is : now.session ≡ client.session = cc some in (
            now,
            is,
            record {
              within = alone.within;
              there = e;
              awaited = ap (λ (s : PlainSession). s.awaited) is ∙ alone.awaited;
              mine = alone.mine;
              others = λ d lt ne. still d ∙ alone.others d lt ne;
            },
          )

  posts_tell : (later : List Resolved) (c : ℕ) (node : PlainNode) (client : PlainClient) → AwaitsAlone r.waiter c client a node → TellsBehind r client a [] (all_posted (r ∷ later) node).1
  posts_tell later c node client alone =
      let first = (goes r node).one c client a alone in
      let more = (all_posted later (posted r node).0).1 in record { frame = first.frame; is = first.is; rest = first.rest ++ more; told = ap (λ xs. xs ++ more) first.told }

  behind : (before lines events : List Event) (client now : PlainClient) → now.session ≡ client.session → TellsBehind r now a [] lines → events ≡ before ++ lines → TellsBehind r client a before events
  behind before lines events client now same tells e = record {
    frame = tells.frame;
    is = subst (λ (s : PlainSession). IsOutcome s.settings a.opcode a.opaque r.how tells.frame) same tells.is;
    rest = tells.rest;
    told = e ∙ ap (λ xs. before ++ xs) tells.told ∙ ap (λ (s : PlainSession). before ++ (sent s.who tells.frame ∷ tells.rest)) same;
  }

  grown : (client : PlainClient) (before events more all : List Event) → TellsBehind r client a before events → all ≡ events ++ more → TellsBehind r client a before all
  grown client before events more all tells e = record {
    frame = tells.frame;
    is = tells.is;
    rest = tells.rest ++ more;
    told = e ∙ ap (λ xs. xs ++ more) tells.told ∙ append_assoc before (sent client.session.who tells.frame ∷ tells.rest) more;
  }

-- the outcomes that a node with these sessions was told stand behind these lines
pub tells_if : (node other : PlainNode) (resolved : List Resolved) (before events : List Event) → SameSessions node.clients other.clients → events ≡ before ++ (all_posted resolved other).1 → TellsOutcomes node resolved before events
tells_if node other resolved before events same told r later c client a first alone =
    let (now, is, still) = alone_in r a c node other client same alone in
    behind r a before (all_posted (r ∷ later) other).1 events client now is (posts_tell r a later c other now still) (told ∙ ap (λ rs. before ++ (all_posted rs other).1) first)

-- and so they do where lines are told behind them
pub tells_more : (node : PlainNode) (resolved : List Resolved) (before events more all : List Event) → TellsOutcomes node resolved before events → all ≡ events ++ more → TellsOutcomes node resolved before all
tells_more node resolved before events more all tells e r later c client a first alone = grown r a client before events more all (tells r later c client a first alone) e
