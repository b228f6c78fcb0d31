-- outcomes that are posted to the clients of a node: all lines are lawful, and after them all agrees
use Rattle.std.specs.Prelude.{zero, suc, ◌≡◌, ◌≢◌, ◌<◌, ◌+◌, ◌*◌, ◌^◌, ◌==◌, ◌∷◌, if◌then◌else◌}
use Rattle.transcript_law.proofs.Words.{ℕ, Bool, true, false, List, [], refl, ap, sym, ◌∙◌, subst, ⊎_elim, arith, eq-eqb, ne_eqb, All-head, All-tail, Option, Some, None, Event, Pend, StaysSound, States, after, left_open, with_client, with_states, PlainSession, PlainNode, PlainWorld, with_node_at, Chronicle, after_lines, LawfulFrom}
use Rattle.transcript_law.proofs.{answers.{Claims.{ClaimAt, asked_at}, Committed.{AllHowTold, HowTold, all_claimed, all_on}, Posted.{GoesUp, left_last, left_past, posted_up}}, invariant.Agreement.{Agrees}, verbs.NodeLines.{agrees_same, node_of_same_vbs}, indexers.Worlds.{world_with}, invariant.Ranged.{NodeRanged, SessionRangedIf, posted_ranged}, verbs.Requesting.{client_again, posted_comes, runs_with}, verbs.Settling.{Steady}, lines.Telling.{LawfulBefore, before_all, before_more, none_before, told_more}}
use Rattle.node_core.specs.Clients.{Handling, PlainClient, client_posted}
use Rattle.durability.specs.declared.waiting.Waiting.{Waiting}
use Rattle.std.proofs.lemmas.Bool.{cases_eq}
use Rattle.transcript_law.proofs.{invariant.{Holdings.{vb_of}, Owing.{ConnOwed, IsPast, IsWaitOf, Owed, OwedIf, OwedIn}}, lines.SessionLines.{IsKept, LeftBy, posted_at}}
use Rattle.transcript_law.specs.{Feeding.{client_in}, LawfulAnswers.{AllDurable}, Questions.{question_of}, StreamsTold.{Asking, ClientKnown}}
use Rattle.node_world.specs.Nodes.{all_posted, awaiting_at, awaits_in, first_of, posted_if, posted_to}
unfoldable use Rattle.node_world.specs.Nodes.{awaiting}
use Rattle.client_session.specs.Serving.{awaits}
use Rattle.client_session.specs.declared.session.Awaited.{Awaited}
use Rattle.node_world.specs.declared.script_node.TheConstants.{MAX_CLIENTS}
use Rattle.vb_calls.specs.declared.calls.Resolved.{Resolved}
use Rattle.transcript_law.proofs.{answers.Committed.{made_on}, invariant.Owing.{wait_for_on}}
use Rattle.transcript_law.specs.LinesTold.{LastLine, told_for}
use Rattle.transcript_law.proofs.lines.ClientLines.{posted_of}
pub use Rattle.transcript_law.proofs.lines.ClientLines.{AreOfClients, SameBeside, posts_keep, posts_of_clients}
pub use Rattle.transcript_law.proofs.invariant.Ranged.{posts_ranged}

-- where a node is there, it is as if it was put there
pub put_agrees : (w : PlainWorld) (r : Chronicle) (n : ℕ) (node : PlainNode) → w.nodes n ≡ Some node → Agrees w r → Agrees (with_node_at w n node) r
put_agrees w r n node known a = agrees_same w (with_node_at w n node) r a (node_of_same_vbs w n node node known (λ q. refl) (λ q. refl) refl)

-- who awaits an outcome awaits it under its number
awaited_by : (waiter : ℕ) (o : Option Awaited) → awaits waiter o ≡ true → (a : Awaited) × (o ≡ Some a) × ((a.waiter == waiter) ≡ true)
awaited_by waiter (Some a) e = (a, refl, e)
awaited_by waiter None e = cc

-- a connection that was found awaits it
found_waits : (clients : ℕ → Option PlainClient) (waiter count c : ℕ) → awaiting clients waiter count ≡ Some c → awaits_in waiter (clients c) ≡ true
unfolding awaiting
found_waits clients waiter zero c e = cc
found_waits clients waiter (suc count) c e = by (awaiting clients waiter count) refl e (λ k. found_waits clients waiter count c k)
  where
    here : (b : Bool) → awaits_in waiter (clients count) ≡ b → (if b then Some count else None) ≡ Some c → awaits_in waiter (clients c) ≡ true
    here true waits k = let same : count ≡ c = cc in ap (λ q. awaits_in waiter (clients q)) (sym same) ∙ waits
    here false waits k = cc

    by : (o : Option ℕ) → awaiting clients waiter count ≡ o → first_of o (awaiting_at clients waiter count) ≡ Some c → (awaiting clients waiter count ≡ Some c → awaits_in waiter (clients c) ≡ true) → awaits_in waiter (clients c) ≡ true
    by None none k earlier = here (awaits_in waiter (clients count)) refl k
    by (Some d) found k earlier = let same : d ≡ c = cc in earlier (found ∙ ap (λ q. Some q) same)

-- what is claimed of a prepare is so behind an outcome that was posted to one connection, which goes on to later numbers
module _ (w : PlainWorld) (n c : ℕ) (r : Chronicle) (node : PlainNode) (client : PlainClient) (is : node.clients c ≡ Some client) (kept : IsKept n c (Some client)) (o : Resolved) (a : Awaited) (waits : client.session.awaited ≡ Some a) (same : (a.waiter == o.waiter) ≡ true) where
  abbrev went : States × Handling
  went = after (client_posted node.clock o client) node.vbs

  abbrev told_then : Chronicle
  told_then = after_lines r went.1.events

  abbrev later : PlainNode
  later = with_client (with_states node went.0) c (left_open went.1.client)

  left : LeftBy n c went.1.client.session.closed went.1
  left = (posted_at n c node.clock client node.vbs kept o).1

  -- the connection, where it is open, and any other one
  here_is : (other : PlainClient) → later.clients c ≡ Some other → other ≡ went.1.client
  here_is other e = by went.1.client.session.closed (sym (ap (λ b. if b then left_open went.1.client else node.clients c) (eq-eqb c c refl)) ∙ e)
    where
      by : (b : Bool) → (if b then None else Some went.1.client) ≡ Some other → other ≡ went.1.client
      by true q = cc
      by false q = cc

  there_is : (d : ℕ) → (d ≡ c → ⊥) → later.clients d ≡ node.clients d
  there_is d ne = ap (λ b. if b then left_open went.1.client else node.clients d) (ne_eqb d c ne)

  up : GoesUp client.session went.1.client.session
  up = posted_up node.clock o client node.vbs a waits same

  -- it awaits none of the numbers that were given before
  awaits_other : (line : LastLine) (x : Waiting) (b : Awaited) → ConnOwed line n c told_then.made (vb_of (with_node_at w n later) n) (asked_at told_then n c) went.1.client.session → went.1.client.session.awaited ≡ Some b → x.waiter ≢ 0 → IsPast client.session x.waiter → x.waiter ≡ b.waiter → ⊥
  awaits_other line x b owed e some past number = ⊎_elim (λ z. some (number ∙ z))
      (λ z.
      let more = up.awaits b e in let few = owed.used in
      let at : x.waiter ≡ client.session.who.base * 2 ^ 32 + went.1.client.session.used = number ∙ z ∙ ap (λ who. who.base * 2 ^ 32 + went.1.client.session.used) up.who in
      past (omega (arith, more, at)) (omega (arith, few, at)))
      (owed.number b e)

  pub claim_posted : Owed (with_node_at w n later) told_then → (v : ℕ) (x : Waiting) (p : Pend) → ClaimAt r n node.clients v x p → ClaimAt told_then n later.clients v x p
  claim_posted owed v x p claim line rises =
      let k = claim line (sym (left_last r n c went.1.client.session.closed went.1 left) ∙ rises) in
      let all : OwedIn line (with_node_at w n later) told_then = subst (λ l. OwedIf l (with_node_at w n later) told_then) rises owed in
      record {
        some = k.some;
        past = λ d other e. ⊎_elim
            (λ s.
            let it : other ≡ went.1.client = here_is other (ap later.clients (sym s) ∙ e) in
            let q = subst (λ (t : PlainClient). GoesUp client.session t.session) (sym it) up in
            later_past client.session other.session x.waiter q (k.past c client is))
            (λ ne. k.past d other (sym (there_is d ne) ∙ e)) (cases_eq d c);
        own = λ d other b q e wait asks number. ⊎_elim
            (λ s.
            let at : later.clients c ≡ Some other = ap later.clients (sym s) ∙ e in
            let it : other ≡ went.1.client = here_is other at in
            let mine : ConnOwed line n c told_then.made (vb_of (with_node_at w n later) n) (asked_at told_then n c) other.session = all.each n c other (ap (λ b. client_in (if b then Some later else w.nodes n) c) (eq-eqb n n refl) ∙ at) in
            absurd (awaits_other line x b (subst (λ (t : PlainClient). ConnOwed line n c told_then.made (vb_of (with_node_at w n later) n) (asked_at told_then n c) t.session) it mine) (sym (ap (λ (t : PlainClient). t.session.awaited) it) ∙ wait) k.some (k.past c client is) number))
            (λ ne.
            let known : asked_at told_then n d ≡ asked_at r n d = ap (λ (t : ClientKnown). t.asking) (left_past r n c d went.1.client.session.closed went.1 ne left) in
            subst (λ (y : Asking). IsWaitOf n y.settings q.frame v x p (told_for (line.served n d) y.answered told_then.made)) (sym known)
            (wait_for_on n (asked_at r n d).settings q.frame v x p (line.served n d) (asked_at r n d).answered r.made told_then.made (made_on r went.1.events) (k.own d other b q (sym (there_is d ne) ∙ e) wait (ap question_of (sym known) ∙ asks) number)))
            (cases_eq d c);
      }
    where
      later_past : (s t : PlainSession) (number : ℕ) → GoesUp s t → IsPast s number → IsPast t number
      later_past s t number goes past above below =
          let rises = goes.used in
          let over : s.who.base * 2 ^ 32 + t.used < number = subst (λ b. b * 2 ^ 32 + t.used < number) (ap (λ who. who.base) goes.who) above in
          past (omega (arith, over, rises)) (subst (λ b. number < (b + 1) * 2 ^ 32) (ap (λ who. who.base) goes.who) below)

module _ (stays : StaysSound) (steady : Steady) (w : PlainWorld) (n : ℕ) where
  -- the node is put, and lines are read, after which all agrees, and no set and no removal waits to be answered
  abbrev Goes : Chronicle → PlainNode × List Event → Type 0
  Goes r came = LawfulBefore r came.1 × Agrees (with_node_at w n came.0) (after_lines r came.1) × AllDurable (after_lines r came.1).made

  -- what is claimed of each prepare whose outcome is on its way
  abbrev Claim : Chronicle → PlainNode → ℕ → Waiting → Pend → Type 0
  Claim r node v x p = ClaimAt r n node.clients v x p

  -- one outcome: what it leaves claimed, too
  abbrev Posted : Chronicle → PlainNode → PlainNode × List Event → Type 0
  Posted r node came = Goes r came × ((v : ℕ) (x : Waiting) (p : Pend) → Claim r node v x p → Claim (after_lines r came.1) came.0 v x p)

  posted_goes : (r : Chronicle) (node : PlainNode) (o : Resolved) (c : Option ℕ) → ((q : ℕ) → c ≡ Some q → awaits_in o.waiter (node.clients q) ≡ true) → NodeRanged n node → HowTold n r (Claim r node) o → AllDurable r.made → Agrees (with_node_at w n node) r → Posted r node (posted_to o node c)
  posted_goes r node o None waits ranged told calm a = ((none_before r, a, calm), λ v x p claim. claim)
  posted_goes r node o (Some c) waits ranged told calm a = by (node.clients c) refl (ranged.clients c) (ranged.own c)
    where
      by : (k : Option PlainClient) → node.clients c ≡ k → SessionRangedIf n k → IsKept n c k → Posted r node (posted_if c o node k)
      by None none there kept = ((none_before r, a, calm), λ v x p claim. claim)
      by (Some client) is there kept =
          let (awaited, waiting, number) = awaited_by o.waiter client.session.awaited (sym (ap (awaits_in o.waiter) is) ∙ waits c refl) in
          let here : Agrees (world_with w n c node node.vbs (Some client)) r = client_again w r n c node client is a in
          let came = posted_comes stays steady w n c node ranged.clock (runs_with n c node client is ranged) r client o (Claim r node) awaited waiting number there.numbered
          (λ line v x p rises same claim q asks. (claim line rises).own c client awaited q is waiting asks same) told (record { lawful = none_before r; agrees = here; bytes = there.bytes; calm = calm; still = λ free. let z : None ≡ Some awaited = sym free ∙ waiting in cc }) in
          ((came.lawful, came.agrees, came.calm), claim_posted w n c r node client is kept o awaited waiting number came.agrees.1.clients.owed)

  -- one after the other
  all_go : (r : Chronicle) (node : PlainNode) (rs : List Resolved) → NodeRanged n node → AllHowTold n r (Claim r node) rs → AllDurable r.made → Agrees (with_node_at w n node) r → Goes r (all_posted rs node)
  all_go r node [] ranged told calm a = (none_before r, a, calm)
  all_go r node (o ∷ rs) ranged told calm a =
      let c : Option ℕ = awaiting node.clients o.waiter MAX_CLIENTS in
      let one = posted_to o node c in let more = all_posted rs one.0 in
      let (first, claims) = posted_goes r node o c (found_waits node.clients o.waiter MAX_CLIENTS) ranged (All-head (HowTold n r (Claim r node)) o rs told) calm a in
      let rest = all_go (after_lines r one.1) one.0 rs (posted_ranged n o node c ranged)
      (all_claimed n (after_lines r one.1) (Claim r node) (Claim (after_lines r one.1) one.0) rs claims (all_on r one.1 (posted_of n o node c ranged.own).0 n (Claim r node) rs (All-tail (HowTold n r (Claim r node)) o rs told))) first.2 first.1 in (
        before_more r one.1 more.1 first.0 rest.0,
        subst (Agrees (with_node_at w n more.0)) (sym (told_more r one.1 more.1)) rest.1,
        subst (λ (k : Chronicle). AllDurable k.made) (sym (told_more r one.1 more.1)) rest.2,
      )

-- the node was put in the world before they were posted, where no set and no removal waited to be answered, and is put there again
pub posts_go : StaysSound → Steady → (w : PlainWorld) (r : Chronicle) (n : ℕ) (node : PlainNode) (rs : List Resolved) → NodeRanged n node → AllHowTold n r (ClaimAt r n node.clients) rs → AllDurable r.made → Agrees (with_node_at w n node) r
    → LawfulFrom r (all_posted rs node).1 × Agrees (with_node_at w n (all_posted rs node).0) (after_lines r (all_posted rs node).1) × AllDurable (after_lines r (all_posted rs node).1).made
posts_go stays steady w r n node rs ranged told calm a = let g = all_go stays steady w n r node rs ranged told calm a in (before_all r (all_posted rs node).1 g.0, g.1, g.2)
