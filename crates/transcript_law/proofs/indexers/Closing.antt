-- a connection of a client is opened, or closed by the client
use Rattle.std.specs.Prelude.{◌≡◌, ◌≤◌, ◌+◌, ◌*◌, ◌^◌, if◌then◌else◌}
use Rattle.transcript_law.proofs.Words.{ℕ, eq-eqb, [], refl, sym, ap, ◌∙◌, subst, arith, Option, Some, None, is_some, All-nil, Answer, Cause, Chronicle, ClientVerb, PlainNode, PlainStream, PlainWorld, Told, Verb, client_at, done, hang_at, on_node, refusal, verb_step, with_client, with_node_at}
use Rattle.dcp_producer.specs.declared.desk.Handshake.{Handshake}
use Rattle.node_core.specs.Clients.{PlainClient, new_client}
use Rattle.node_world.specs.{Links.{base_of}, Nodes.{hung_if}}
use Rattle.transcript_law.proofs.indexers.{Known.{no_frames}, Pulled.{world_again}, Shutting.{Shut, shut_goes}, Steps.{ClientStep, apart_less, client_carried, clients_told, fed_less, known_with, step_one}, Worlds.{client_here, step_quiet, world_with}}
use Rattle.transcript_law.proofs.invariant.{ClientWorlds.{ConnsAre, shut_then}, Agreement.{Agrees, AgreesIn, GoesOn, idle, vb_of}, ClientsTold.{AskingIs, ClientAgrees, FlowIs, KeptIs}, Owed.{OneOwed, Owed, owed_gone}, Begun.{Begins, ServesOpen, IsBegun, IsFresh, begins_fresh, owed_fresh}, Tables.{at_here, at_there}}
use Rattle.transcript_law.proofs.verbs.NodeLines.{on_node_by, refused_on}
use Rattle.transcript_law.specs.{Chronicles.{after_blank, at_line}, ClientFrames.{is_closed_by}, Feeding.{HasFed, HasOpen, client_in}, StreamsTold.{ClientKnown, blank_client, with_at}}
use Rattle.vb_events.specs.declared.event.StreamName.{StreamName}
use Rattle.vb_events.specs.declared.event.StreamName.TheVariants as name

-- nothing is known of the connection c of the node n
abbrev pub blanked : Chronicle → ℕ → ℕ → Chronicle
blanked r n c = known_with r (with_at r.clients_at n c blank_client)

-- what a line tells of it, by its answer
abbrev pub as_blank : ℕ → ℕ → Answer → Chronicle → Chronicle
as_blank n c said r = after_blank r n c said

-- ---- a new one

-- agrees with nothing
new_agrees : (w : PlainWorld) (r : Chronicle) (n base c : ℕ) → r.clients_at n c ≡ blank_client → ClientAgrees w r n c (new_client (record { node = n; client = c; base = base }))
new_agrees w r n base c blank = record {
  conn = record { node = refl; number = refl; desk = refl };
  alive = refl;
  kept = record { ids = refl; rise = tt; numbered = All-nil (λ (s : PlainStream). s.id ≤ base * 2 ^ 32 + 0); turn = omega arith };
  one = λ s i. absurd i;
  opened = λ s i. absurd i;
  asked = sym (ap (λ (k : ClientKnown). k.opened) blank);
  silent = ap (λ (k : ClientKnown). k.told) blank;
  heard = record { served = []; front = []; bytes = ap (λ (k : ClientKnown). k.bytes) blank; frames = no_frames; none = refl; sets = ap (λ (k : ClientKnown). k.setup) blank };
  asks = subst (λ (k : ClientKnown). AskingIs k.asking (new_client (record { node = n; client = c; base = base })).session Handshake.Fresh) (sym blank)
      (record { served = []; front = []; bytes = refl; frames = no_frames; sets = refl; settings = refl; answered = refl; numbers = record { most = omega arith; each = λ few. omega arith } });
  flow = subst (λ (k : ClientKnown). FlowIs k.flow (new_client (record { node = n; client = c; base = base })).session Handshake.Fresh (new_client (record { node = n; client = c; base = base })).producer.window) (sym blank)
      (record { served = []; front = []; bytes = refl; frames = no_frames; sets = refl; is = refl });
  streams = λ v. subst (λ (k : ClientKnown). KeptIs r.tree (r.branch_at n v) (r.held n v) (vb_of w n v) (is_closed_by [] v) (k.streams v) None) (sym blank) tt;
}

module _ (w : PlainWorld) (r : Chronicle) (n c : ℕ) (node : PlainNode) (a : Agrees w r) (known : w.nodes n ≡ Some node) where
  blank_here : (blanked r n c).clients_at n c ≡ blank_client
  blank_here = at_here r.clients_at n c blank_client

  abbrev before : Option PlainClient → PlainWorld
  before o = world_with w n c node node.vbs o

  agrees_before : (o : Option PlainClient) → node.clients c ≡ o → AgreesIn idle (before o) r a.0
  agrees_before o e = subst (λ x. AgreesIn idle x r a.0) (sym (world_again w n c node o known e)) a.1

  -- another connection stands there, which has no open stream that it had not
  module _ (o o' : Option PlainClient) (e : node.clients c ≡ o) where
    abbrev step : ClientStep (before o) (before o') n c
    step = step_quiet w n c node node.vbs node.vbs o o' (λ q. refl)

    stands : ((client : PlainClient) → o' ≡ Some client → ClientAgrees (before o') (blanked r n c) n c client) → ((client : PlainClient) → o' ≡ Some client → (v id : ℕ) → HasOpen v id client.producer.streams → ⊥) → Owed (before o') (blanked r n c) → AgreesIn idle (before o') (blanked r n c) a.0
    stands own none owed =
        let old = agrees_before o e in let table = with_at r.clients_at n c blank_client in
        client_carried (before o) (before o') r a.0 n c step old table
        (clients_told (before o) (before o') r table n c step old.clients (λ m d ne. at_there r.clients_at n c blank_client m d ne)
        (λ client is. own client (sym (client_here w n c node node.vbs o') ∙ is))
        (apart_less (before o) (before o') n c step (λ client is v id has. absurd (none client (sym (client_here w n c node node.vbs o') ∙ is) v id has)) old.clients.apart) owed)

    -- all else waits as it did
    one : OneOwed (before o) (before o') r (blanked r n c) n c
    one = step_one (before o) (before o') r (with_at r.clients_at n c blank_client) n c step (agrees_before o e).clients (λ m d ne. at_there r.clients_at n c blank_client m d ne)

  -- ---- it is opened, unless it is open

  pub client_goes : (base : ℕ) → (node.clients c ≡ None → IsFresh r.last w n c base) → (let x = client_at n base c node in GoesOn r (as_blank n c x.1.answer) (with_node_at w n x.0, x.1))
  client_goes base fresh = by (node.clients c) refl
    where
      new : PlainClient
      new = new_client (record { node = n; client = c; base = base })

      by : (o : Option PlainClient) → node.clients c ≡ o
          → (let x : PlainNode × Told = if is_some o then (node, refusal Cause.LinkOpen) else (with_client node c (Some (new_client (record { node = n; client = c; base = base }))), done []) in GoesOn r (as_blank n c x.1.answer) (with_node_at w n x.0, x.1))
      by (Some client) e = refused_on w r n node Cause.LinkOpen a known
      by None e = (
        tt,
        (
          a.0,
          stands None (Some (new_client (record { node = n; client = c; base = base }))) e
              (λ client is. let same : new_client (record { node = n; client = c; base = base }) ≡ client = cc in subst (ClientAgrees (before (Some (new_client (record { node = n; client = c; base = base })))) (blanked r n c) n c) same (new_agrees (before (Some (new_client (record { node = n; client = c; base = base })))) (blanked r n c) n base c blank_here))
              (λ client is v id has. let same : new_client (record { node = n; client = c; base = base }) ≡ client = cc in subst (λ (x : PlainClient). HasOpen v id x.producer.streams) (sym same) has)
              (owed_fresh (before None) (before (Some (new_client (record { node = n; client = c; base = base })))) r (blanked r n c) n c base (one None (Some (new_client (record { node = n; client = c; base = base }))) e)
              (client_here w n c node node.vbs None) (client_here w n c node node.vbs (Some (new_client (record { node = n; client = c; base = base })))) (subst (λ x. IsFresh r.last x n c base) (sym (world_again w n c node None known e)) (fresh e)) (agrees_before None e).clients.owed),
        ),
      )

  -- ---- it is closed, if it is open

  gone_first : (client : PlainClient) → node.clients c ≡ Some client → Shut w n c node (blanked r n c) client.producer.streams node.vbs
  gone_first client e =
      let old = agrees_before (Some client) e in record {
        agrees = (a.0, stands (Some client) None e (λ other is. absurd (none other is)) (λ other is v id has. none other is) (owed_gone (before (Some client)) (before None) r (blanked r n c) n c (one (Some client) None e) (client_here w n c node node.vbs None) old.clients.owed));
        nobody = λ v id has who fed. by who v id has fed (old.clients.apart n c v id who (refl, (client, client_here w n c node node.vbs (Some client), has))
            (fed_less (before (Some client)) (before None) n c (step (Some client) None e) (λ other is q j had. absurd (none other (sym (client_here w n c node node.vbs None) ∙ is))) who n v id fed));
      }
    where
      none : (other : PlainClient) → None ≡ Some other → ⊥
      none other is = cc

      by : (who : StreamName) (v id : ℕ) → HasOpen v id client.producer.streams → HasFed (before None) who n v id → who ≡ name.Client n c → ⊥
      by who v id has fed is =
          let (same, (other, there, open_it)) = subst (λ x. HasFed (before None) x n v id) is fed in none other (sym (client_here w n c node node.vbs None) ∙ there)

  pub hang_goes : (let x = hang_at c node in GoesOn r (as_blank n c x.1.answer) (with_node_at w n x.0, x.1))
  hang_goes = by (node.clients c) refl
    where
      by : (o : Option PlainClient) → node.clients c ≡ o → (let x = hung_if c node o in GoesOn r (as_blank n c x.1.answer) (with_node_at w n x.0, x.1))
      by None e = refused_on w r n node Cause.LinkClosed a known
      by (Some client) e = (tt, (shut_goes w n c node (blanked r n c) client.producer node.vbs (gone_first client e)).agrees)

-- the connection that a line opens stands there then
opened_is : (w : PlainWorld) (n c : ℕ) (node : PlainNode) (base : ℕ) → node.clients c ≡ None → client_in ((with_node_at w n (client_at n base c node).0).nodes n) c ≡ Some (new_client (record { node = n; client = c; base = base }))
opened_is w n c node base none =
    let new : PlainClient = new_client (record { node = n; client = c; base = base }) in
    ap (λ b. client_in (if b then Some (client_at n base c node).0 else w.nodes n) c) (eq-eqb n n refl)
    ∙ ap (λ (o : Option PlainClient). (let x : PlainNode × Told = if is_some o then (node, refusal Cause.LinkOpen) else (with_client node c (Some new), done []) in x.0.clients c)) none ∙ ap (λ b. if b then Some new else node.clients c) (eq-eqb c c refl)

-- the lines `client` and `hang`
pub open_line_goes : (w : PlainWorld) (r : Chronicle) (n base c : ℕ) → IsBegun w r n c (on_node w n (client_at n base c)).0 → Agrees w r → (let x = on_node w n (client_at n base c) in GoesOn r (as_blank n c x.1.answer) x)
open_line_goes w r n base c begun a =
    on_node_by (λ x. IsBegun w r n c x.0 → GoesOn r (as_blank n c x.1.answer) x) w n (client_at n base c) (λ b. (tt, a)) (λ node known b. refused_on w r n node Cause.NodeDown a known)
    (λ node known up b. client_goes w r n c node a known base (λ none. b (new_client (record { node = n; client = c; base = base })) (ap (λ o. client_in o c) known ∙ none) (opened_is w n c node base none))) begun

-- so whatever a line opens has the base of its number, which is fresh
pub begins_of : (w : PlainWorld) (number : ℕ) (line : Verb) (r : Chronicle) → ConnsAre w r.conn_at → ServesOpen r.last r.conn_at → Owed w r → Begins w line (at_line r number) (verb_step w number line).0
begins_of w number (Verb.AtClient n c ClientVerb.Open) r are serves owed = λ client none is.
    let fresh : IsFresh (at_line r number).last w n c (base_of number) = begins_fresh w r number n c owed serves (shut_then w r.conn_at n c are none) in
    subst (IsFresh (at_line r number).last w n c) (sym (by client none is)) fresh
  where
    by : (client : PlainClient) → client_in (w.nodes n) c ≡ None → client_in ((on_node w n (client_at n (base_of number) c)).0.nodes n) c ≡ Some client → client.session.who.base ≡ base_of number
    by client none = on_node_by (λ x. client_in (x.0.nodes n) c ≡ Some client → client.session.who.base ≡ base_of number) w n (client_at n (base_of number) c)
        (λ is. let z : None ≡ Some client = sym none ∙ is in absurd cc) (λ node known is. let z : None ≡ Some client = sym none ∙ ap (λ o. client_in o c) known ∙ sym (ap (λ b. client_in (if b then Some node else w.nodes n) c) (eq-eqb n n refl)) ∙ is in absurd cc)
        (λ node known up is.
        let z : Some client ≡ Some (new_client (record { node = n; client = c; base = base_of number })) = sym is ∙ opened_is w n c node (base_of number) (ap (λ o. client_in o c) (sym known) ∙ none) in
        let same : client ≡ new_client (record { node = n; client = c; base = base_of number }) = cc in ap (λ (k : PlainClient). k.session.who.base) same)
begins_of w number other r are serves owed = tt

pub hang_line_goes : (w : PlainWorld) (r : Chronicle) (n c : ℕ) → Agrees w r → (let x = on_node w n (hang_at c) in GoesOn r (as_blank n c x.1.answer) x)
hang_line_goes w r n c a = on_node_by (λ x. GoesOn r (as_blank n c x.1.answer) x) w n (hang_at c) (tt, a) (λ node known. refused_on w r n node Cause.NodeDown a known) (λ node known up. hang_goes w r n c node a known)
