-- outcomes are posted: who awaits one goes on, and nobody waits for nothing behind them
use Rattle.std.specs.Prelude.{◌≡◌, ◌<◌, ◌+◌, ◌*◌, ◌^◌, ◌==◌, ◌∷◌, ◌⊎◌, if◌then◌else◌}
use Rattle.transcript_law.proofs.Words.{ℕ, zero, suc, Bool, true, false, List, [], refl, ap, sym, ◌∙◌, subst, inl, inr, ⊎_elim, arith, eq-eqb, eqb-true, ne_eqb, Option, Some, None, PlainNode, States, after, left_open, with_client, with_states}
use Rattle.client_session.specs.Serving.{awaits}
use Rattle.client_session.specs.declared.session.{Awaited.{Awaited}, Who.{Who}}
use Rattle.dcp_producer.specs.Producers.{is_client}
use Rattle.node_core.specs.Clients.{Handling, PlainClient, client_posted}
unfoldable use Rattle.node_world.specs.Nodes.{awaiting}
use Rattle.node_world.specs.Nodes.{all_posted, awaiting_at, awaits_in, first_of, posted, posted_if, posted_to}
use Rattle.node_world.specs.declared.script_node.TheConstants.{MAX_CLIENTS}
use Rattle.std.proofs.lemmas.Bool.{cases_eq}
use Rattle.transcript_law.proofs.awaiting.{Frames.{Well, posted_well}, Numbers.{Counted, posted_counted}}
use Rattle.transcript_law.proofs.invariant.{AtRest.{Still}, CallsKept.{AllAt}, Ranged.{NodeRanged, posted_ranged}}
use Rattle.transcript_law.proofs.lines.SessionLines.{IsKept}
use Rattle.transcript_law.specs.Waits.{IsOutstandingAt, IsTold}
use Rattle.vb_calls.specs.declared.calls.Resolved.{Resolved}

-- ---- who awaits

-- the first connection that awaits an outcome, or none does
abbrev Found : (ℕ → Option PlainClient) → ℕ → ℕ → Type 0
Found clients waiter n = ((c : ℕ) × (awaiting clients waiter n ≡ Some c) × (awaits_in waiter (clients c) ≡ true)) ⊎ ((awaiting clients waiter n ≡ None) × ((c : ℕ) → c < n → awaits_in waiter (clients c) ≡ false))

found : (clients : ℕ → Option PlainClient) (waiter n : ℕ) → Found clients waiter n
unfolding awaiting
found clients waiter zero = inr (refl, λ c lt. absurd (omega (arith, lt)))
found clients waiter (suc n) = ⊎_elim
    (λ k. inl (k.0, ap (λ o. first_of o (awaiting_at clients waiter n)) k.1, k.2))
    (λ none. by none.0 none.1 (awaits_in waiter (clients n)) refl)
    (found clients waiter n)
  where
    by : awaiting clients waiter n ≡ None → ((c : ℕ) → c < n → awaits_in waiter (clients c) ≡ false) → (b : Bool) → awaits_in waiter (clients n) ≡ b → Found clients waiter (suc n)
    by none below true e = inl (n, ap (λ o. first_of o (awaiting_at clients waiter n)) none ∙ ap (λ b. if b then Some n else None) e, e)
    by none below false e = inr (
      ap (λ o. first_of o (awaiting_at clients waiter n)) none ∙ ap (λ b. if b then Some n else None) e,
      λ c lt. ⊎_elim (λ same. ap (λ d. awaits_in waiter (clients d)) same ∙ e) (λ ne. below c (omega (arith, lt, ne))) (cases_eq c n),
    )

-- what it awaits
awaited_of : (waiter : ℕ) (o : Option PlainClient) → awaits_in waiter o ≡ true → (client : PlainClient) × (a : Awaited) × (o ≡ Some client) × (client.session.awaited ≡ Some a) × ((a.waiter == waiter) ≡ true)
awaited_of waiter None e = absurd (cc e)
awaited_of waiter (Some client) e = by client.session.awaited refl e
  where
    by : (o : Option Awaited) → client.session.awaited ≡ o → awaits waiter o ≡ true → (client' : PlainClient) × (a : Awaited) × (Some client ≡ Some client') × (client'.session.awaited ≡ Some a) × ((a.waiter == waiter) ≡ true)
    by None is e = absurd (cc e)
    by (Some a) is e = (client, a, refl, is, e)

-- ---- nodes

-- a node whose vBuckets are at rest, whose sessions await their last numbers under bases that are apart, and each of them for what is outstanding or about to be told
pub record Good (n : ℕ) (rs : List Resolved) (node : PlainNode) : Type 0 where
  pub still : AllAt Still node.vbs
  pub ranged : NodeRanged n node
  pub counted : (c : ℕ) (client : PlainClient) → node.clients c ≡ Some client → Counted client.session.who client.session
  pub apart : (c d : ℕ) (client other : PlainClient) → node.clients c ≡ Some client → node.clients d ≡ Some other → client.session.who.base ≡ other.session.who.base → c ≡ d
  pub waits : (c : ℕ) (client : PlainClient) (a : Awaited) → c < MAX_CLIENTS → node.clients c ≡ Some client → client.session.awaited ≡ Some a → IsOutstandingAt a.waiter node.vbs ⊎ IsTold a.waiter rs

-- two sessions with two bases await under two numbers
two_numbers : (b u x y : ℕ) → u < 2 ^ 32 → y < 2 ^ 32 → b * 2 ^ 32 + u ≡ x * 2 ^ 32 + y → b ≡ x
two_numbers b u x y l m e = omega (arith, l, m, e)

module _ (n : ℕ) (r : Resolved) (rs : List Resolved) (node : PlainNode) (g : Good n (r ∷ rs) node) where
  -- nobody awaits it
  posted_none : ((c : ℕ) → c < MAX_CLIENTS → awaits_in r.waiter (node.clients c) ≡ false) → Good n rs node
  posted_none none = record {
    still = g.still;
    ranged = g.ranged;
    counted = g.counted;
    apart = g.apart;
    waits = λ c client a lt is has. ⊎_elim (λ o. inl o)
        (λ t. ⊎_elim
        (λ same. let no : awaits_in r.waiter (node.clients c) ≡ true = ap (awaits_in r.waiter) is ∙ ap (awaits r.waiter) has ∙ eq-eqb a.waiter r.waiter (sym same) in
        let z : true ≡ false = sym no ∙ none c lt in absurd (cc z))
        (λ later. inr later) t)
        (g.waits c client a lt is has);
  }

  -- one does
  module _ (c : ℕ) (client : PlainClient) (a : Awaited) (is : node.clients c ≡ Some client) (has : client.session.awaited ≡ Some a) (mine : (a.waiter == r.waiter) ≡ true) where
    abbrev y : States × Handling
    y = after (client_posted node.clock r client) node.vbs

    abbrev next : PlainNode
    next = with_client (with_states node y.0) c (left_open y.1.client)

    own : IsKept n c (Some client)
    own = subst (IsKept n c) is (g.ranged.own c)

    well : Well node.clock g.ranged.clock node.vbs y
    well = posted_well node.clock g.ranged.clock node.vbs r client node.vbs a has mine g.still (λ k o. o) (ap is_client own.0.stream)

    now : Counted client.session.who y.1.client.session
    now = posted_counted client.session.who node.clock r client node.vbs a has mine (g.counted c client is)

    -- what stands there behind it
    left_is : (b : Bool) (x : PlainClient) → (if b then None else Some y.1.client) ≡ Some x → y.1.client ≡ x
    left_is true x e = absurd (cc e)
    left_is false x e = cc

    -- this connection, or another one as it was
    at : (d : ℕ) (x : PlainClient) → next.clients d ≡ Some x → ((d ≡ c) × (y.1.client ≡ x)) ⊎ ((d ≡ c → ⊥) × (node.clients d ≡ Some x))
    at d x e = ⊎_elim
        (λ same. inl (same, left_is y.1.client.session.closed x (sym (ap (λ b. if b then left_open y.1.client else node.clients d) (eq-eqb d c same)) ∙ e)))
        (λ ne. inr (ne, sym (ap (λ b. if b then left_open y.1.client else node.clients d) (ne_eqb d c ne)) ∙ e))
        (cases_eq d c)

    -- the base of it is that of the connection that stood there
    base_at : (d : ℕ) (x : PlainClient) → next.clients d ≡ Some x → (old : PlainClient) × (node.clients d ≡ Some old) × (old.session.who ≡ x.session.who)
    base_at d x e = ⊎_elim
        (λ k. (client, ap node.clients k.0 ∙ is, sym now.who_is ∙ ap (λ (z : PlainClient). z.session.who) k.1))
        (λ k. (x, k.1, refl)) (at d x e)

    other_waits : (d : ℕ) (x : PlainClient) (b : Awaited) → (d ≡ c → ⊥) → d < MAX_CLIENTS → node.clients d ≡ Some x → x.session.awaited ≡ Some b → IsOutstandingAt b.waiter y.0 ⊎ IsTold b.waiter rs
    other_waits d x b ne lt e hold = ⊎_elim (λ o. inl (well.kept b.waiter o))
        (λ t. ⊎_elim
        (λ same.
        let p = g.counted d x e in let q = g.counted c client is in
        let m = p.number b hold in let k = q.number a has in let z : a.waiter ≡ r.waiter = eqb-true a.waiter r.waiter mine in
        let base : x.session.who.base ≡ client.session.who.base = two_numbers x.session.who.base x.session.used client.session.who.base client.session.used p.few q.few (sym m ∙ sym same ∙ sym z ∙ k) in
        absurd (ne (g.apart d c x client e is base)))
        (λ later. inr later) t)
        (g.waits d x b lt e hold)

    posted_one : NodeRanged n next → Good n rs next
    posted_one ranged = record {
      still = well.still;
      ranged = ranged;
      counted = λ d x e. ⊎_elim (λ k. subst (λ (z : PlainClient). Counted z.session.who z.session) k.1 (record { who_is = refl; few = now.few; number = now.number })) (λ k. g.counted d x k.1) (at d x e);
      apart = λ d f x z e h same.
          let p = base_at d x e in let q = base_at f z h in
          g.apart d f p.0 q.0 p.1 q.1 (ap (λ (w : Who). w.base) p.2 ∙ same ∙ sym (ap (λ (w : Who). w.base) q.2));
      waits = λ d x b lt e hold. ⊎_elim
          (λ k. inl (well.backs b (ap (λ (z : PlainClient). z.session.awaited) k.1 ∙ hold)))
          (λ k. other_waits d x b k.0 lt k.1 hold) (at d x e);
    }

  pub posted_good : Good n rs (posted r node).0
  posted_good = ⊎_elim
      (λ k.
      let m = awaited_of r.waiter (node.clients k.0) k.2 in
      subst (λ o. Good n rs (posted_to r node o).0) (sym k.1)
      (subst (λ o. Good n rs (posted_if k.0 r node o).0) (sym m.2)
      (posted_one k.0 m.0 m.1 m.2 m.3 m.4
      (subst (λ o. NodeRanged n (posted_if k.0 r node o).0) m.2 (posted_ranged n r node (Some k.0) g.ranged)))))
      (λ k. subst (λ o. Good n rs (posted_to r node o).0) (sym k.0) (posted_none k.1))
      (found node.clients r.waiter MAX_CLIENTS)

pub posts_good : (n : ℕ) (rs : List Resolved) (node : PlainNode) → Good n rs node → Good n [] (all_posted rs node).0
posts_good n [] node g = g
posts_good n (r ∷ rs) node g = posts_good n rs (posted r node).0 (posted_good n r rs node g)
