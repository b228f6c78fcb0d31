-- numberings that keep apart, and what a line tells beside what its node did
use Rattle.std.proofs.Common.{◌≡◌, ◌≢◌, ℕ, Bool, true, false, List, [], ◌++◌, append-nil, refl, sym, ap, ◌∙◌, arith, Option, Some, None}
use Rattle.std.proofs.lemmas.Bool.{eq-eqb, ne_eqb}
use Rattle.std.proofs.Math.Nat.{mod-eq_of_lt, mod-lt}
use Rattle.std.specs.Prelude.{◌%◌, if◌then◌else◌, is_some}
use Rattle.client_session.specs.Serving.{PlainSession}
use Rattle.dcp_consumer.specs.Dialing.{stream_opaque}
use Rattle.disk_journals.specs.Books.{Book}
use Rattle.script_text.specs.declared.verb.ScriptLine.{ScriptLine}
use Rattle.script_text.specs.declared.verb.Verb.TheVariants as verb
use Rattle.script_text.specs.declared.verb.NodeVerb.TheVariants as node_verb
use Rattle.vb_calls.specs.declared.calls.Resolved.{Resolved}
use Rattle.vb_disk.specs.declared.fuse.Fuse.{Fuse}
use Rattle.vb_disk.specs.declared.fuse.Fuse.TheVariants as fuse
use Rattle.vb_events.specs.declared.event.Answer.TheVariants as answer
use Rattle.vb_events.specs.declared.event.Cause.{Cause}
use Rattle.vb_events.specs.declared.event.Cause.TheVariants as cause
use Rattle.vb_events.specs.declared.event.Event.{Event}
use Rattle.dcp_producer.specs.Producers.{PlainProducer}
use Rattle.node_core.specs.Clients.{PlainClient, new_client}
use Rattle.node_world.proofs.WhoAwaits.{goes}
use Rattle.node_world.specs.declared.told.Told.{Told}
use Rattle.node_world.specs.Nodes.{PlainNode, client_at, clock_at, done, if_up, posted, refusal, with_client}
use Rattle.node_world.specs.Numberings.{BasesAreApart, OpensApart, StreamsAreApart, WaitsAreApart}
use Rattle.node_world.specs.Plumbing.{ClocksAreSet, FiresOnce, GroupsAreLines, TellsInOrder}
use Rattle.node_world.specs.World.{base_of, verb_step, world_step}
use Rattle.node_world.specs.Worlds.{Outcome, PlainWorld, node_outcome, with_node_at}

-- ---- numbers

pub waits : (s t : PlainSession) → WaitsAreApart s t
waits s t = record {
  someone = omega arith;
  fits = λ base used. omega arith;
  apart = λ few many same. (omega (arith, same), omega (arith, same));
}

pub streams : (p q : PlainProducer) → StreamsAreApart p q
streams p q = record {
  someone = omega arith;
  fits = λ base asked. omega arith;
  apart = λ few many same. (omega (arith, same), omega (arith, same));
}

pub bases : (line other : ℕ) → BasesAreApart line other
bases line other = record {
  fits = mod-lt line (omega arith);
  apart = λ low lower same. sym (mod-eq_of_lt low) ∙ same ∙ mod-eq_of_lt lower;
}

no_ok : (why : Cause) → answer.No why ≡ answer.Ok → ⊥
no_ok why e = cc

-- what a line that opens a connection comes to
abbrev Opens : PlainWorld → ℕ → ℕ → ℕ → Outcome → Type 0
Opens w line n c came = came.1.answer ≡ answer.Ok → (node : PlainNode) × (client : PlainClient) × (came.0.nodes n ≡ Some node) × (node.clients c ≡ Some client)
    × (client.session.who.base ≡ line % 4294967296) × (client.session.used ≡ 0) × (client.session.awaited ≡ None) × (client.producer.desk.base ≡ line % 4294967296) × (client.producer.streams ≡ []) × (client.producer.asked ≡ 0)

pub opens : (w : PlainWorld) (line n c : ℕ) → OpensApart w line n c
opens w line n c = record { opened = by (w.nodes n) }
  where
    pick : (node : PlainNode) (down taken : Bool)
        → Opens w line n c (let x : PlainNode × Told = if down then (node, refusal cause.NodeDown) else if taken then (node, refusal cause.LinkOpen) else (with_client node c (Some (new_client (record { node = n; client = c; base = base_of line }))), done []) in (with_node_at w n x.0, x.1))
    pick node true taken e = absurd (no_ok cause.NodeDown e)
    pick node false true e = absurd (no_ok cause.LinkOpen e)
    pick node false false e = (
      with_client node c (Some (new_client (record { node = n; client = c; base = base_of line }))),
      new_client (record { node = n; client = c; base = base_of line }),
      ap (λ b. if b then Some (with_client node c (Some (new_client (record { node = n; client = c; base = base_of line })))) else w.nodes n) (eq-eqb n n refl),
      ap (λ b. if b then Some (new_client (record { node = n; client = c; base = base_of line })) else node.clients c) (eq-eqb c c refl),
      refl,
      refl,
      refl,
      refl,
      refl,
      refl,
    )

    by : (o : Option PlainNode) → Opens w line n c (node_outcome w n (refusal cause.UnknownNode) o (if_up (client_at n (base_of line) c)))
    by None = λ e. absurd (no_ok cause.UnknownNode e)
    by (Some node) = pick node (is_some node.off) (is_some (node.clients c))

-- the opaque of the first request for a stream
pub first_opaque : (buffer : ℕ) → buffer ≡ 0 → stream_opaque buffer ≡ 4
first_opaque buffer e = ap (λ b. if b then 4 else 5) (eq-eqb buffer 0 e)

pub later_opaque : (buffer : ℕ) → buffer ≢ 0 → stream_opaque buffer ≡ 5
later_opaque buffer ne = ap (λ b. if b then 4 else 5) (ne_eqb buffer 0 ne)

-- ---- arms

pub fires : (before after : Fuse) → FiresOnce before after
fires fuse.Off after = record { stopped = (λ e. cc, λ p. cc p.0.1); failed = (λ e. cc, λ p. cc p.0.1) }
fires (fuse.Stop k) fuse.Off = record { stopped = (λ e. ((k, refl), refl), λ p. refl); failed = (λ e. cc, λ p. cc p.0.1) }
fires (fuse.Stop k) (fuse.Stop j) = record { stopped = (λ e. cc, λ p. cc p.1); failed = (λ e. cc, λ p. cc p.0.1) }
fires (fuse.Stop k) (fuse.Fail j) = record { stopped = (λ e. cc, λ p. cc p.1); failed = (λ e. cc, λ p. cc p.0.1) }
fires (fuse.Fail k) fuse.Off = record { stopped = (λ e. cc, λ p. cc p.0.1); failed = (λ e. ((k, refl), refl), λ p. refl) }
fires (fuse.Fail k) (fuse.Stop j) = record { stopped = (λ e. cc, λ p. cc p.0.1); failed = (λ e. cc, λ p. cc p.1) }
fires (fuse.Fail k) (fuse.Fail j) = record { stopped = (λ e. cc, λ p. cc p.0.1); failed = (λ e. cc, λ p. cc p.1) }

-- ---- lines

pub groups : (w : PlainWorld) (line : ScriptLine) → GroupsAreLines w line
unfolding world_step
groups w line = record { number = refl; events = refl; said = refl }

module _ (w : PlainWorld) (line n nanos : ℕ) (node : PlainNode) where
  abbrev set : PlainNode
  set = record node { clock = nanos }

  came : w.nodes n ≡ Some node → node.off ≡ None → verb_step w line (verb.AtNode n (node_verb.Clock nanos)) ≡ (with_node_at w n set, done [])
  came known up =
      ap (λ o. node_outcome w n (refusal cause.UnknownNode) o (if_up (clock_at nanos))) known
      ∙ ap (λ (q : Option (List Book)). let x : PlainNode × Told = if is_some q then (node, refusal cause.NodeDown) else clock_at nanos node in (with_node_at w n x.0, x.1)) up

  others : (m : ℕ) → m ≢ n → (o : Option PlainNode) → (node_outcome w n (refusal cause.UnknownNode) o (if_up (clock_at nanos))).0.nodes m ≡ w.nodes m
  others m ne None = refl
  others m ne (Some old) = ap (λ b. if b then Some (if_up (clock_at nanos) old).0 else w.nodes m) (ne_eqb m n ne)

  links_stay : (o : Option PlainNode) → (node_outcome w n (refusal cause.UnknownNode) o (if_up (clock_at nanos))).0.links ≡ w.links
  links_stay None = refl
  links_stay (Some old) = refl

  pub clocks : ClocksAreSet w line n nanos node
  clocks = record {
    shows = λ known up. ap (λ (y : Outcome). y.0.nodes n) (came known up) ∙ ap (λ b. if b then Some set else w.nodes n) (eq-eqb n n refl);
    told = λ known up. ap (λ (y : Outcome). y.1) (came known up);
    others = λ m ne. others m ne (w.nodes n);
    links = links_stay (w.nodes n);
  }

pub outcomes : (r s : Resolved) (node : PlainNode) → TellsInOrder r s node
outcomes r s node = record {
  both = λ first second e f. (λ i. e i ++ (f i ++ [])) ∙ ap (λ x. first ++ x) (append-nil second);
  nobody = λ none. ap (λ (p : PlainNode × List Event). p.1 ++ ((posted s p.0).1 ++ [])) ((goes r node).nobody none) ∙ append-nil (posted s node).1;
  none = refl;
}
