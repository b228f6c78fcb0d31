-- a pump gives up before it puts its frames, in other words
use Rattle.std.proofs.Common.{◌≡◌, ◌≢◌, ℕ, Bool, true, false, ap, sym, ◌∙◌, map, refl, Some}
use Rattle.std.specs.Prelude.{◌==◌, if◌then◌else◌}
use Rattle.std.proofs.lemmas.Bool.{eqb-true, eq-eqb}
use Rattle.script_text.specs.declared.verb.LinkVerb.TheVariants as link_verb
use Rattle.script_text.specs.declared.verb.Verb.TheVariants as verb
use Rattle.vb_calls.specs.Jobs.{after_reads}
use Rattle.vb_calls.specs.Programs.{after}
use Rattle.vb_calls.specs.States.{States}
use Rattle.vbucket.specs.Rows.{row_at, row_put}
use Rattle.node_core.specs.GivingUp.{GiveResult, peer_gives_up}
use Rattle.node_core.specs.Peers.{PullResult, peer_pulled}
use Rattle.vb_events.specs.declared.event.Cause.TheVariants as cause
use Rattle.node_world.specs.GivesFirst.{GivesFirst, GivesNothing, PutsAlone, losing_end, losing_link, pumped_link}
use Rattle.node_world.specs.Links.{PlainLink, LinkResult, link_number, peer_of, producer_node, pump_at}
use Rattle.node_world.specs.Nodes.{PlainNode, refusal, with_states}
use Rattle.node_world.specs.World.{link_outcome, verb_step, with_link}
use Rattle.node_world.specs.Worlds.{PlainWorld, Outcome, node_outcome, with_links, with_node_at}
use Rattle.node_world.proofs.Pumping.{posted, pump_alone, pump_puts, put_last}
use Rattle.node_world.proofs.PullReads.{pump_is}
use Rattle.node_world.proofs.Rows.{row_number}

-- a node that was put in a world, and the others
pub here : (w : PlainWorld) (n : ℕ) (node : PlainNode) → (with_node_at w n node).nodes n ≡ Some node
here w n node = ap (λ b. if b then Some node else w.nodes n) (eq-eqb n n refl)

pub away : (w : PlainWorld) (n m : ℕ) (node : PlainNode) → m ≢ n → (with_node_at w n node).nodes m ≡ w.nodes m
away w n m node other = by (m == n) refl
  where
    by : (b : Bool) → (m == n) ≡ b → (if b then Some node else w.nodes m) ≡ w.nodes m
    by true e = absurd (other (eqb-true m n e))
    by false e = refl

module _ (w : PlainWorld) (number l frames : ℕ) (link : PlainLink) (producer : PlainNode) (there : row_at link_number l w.links ≡ Some link) (made : w.nodes (producer_node link) ≡ Some producer) where
  abbrev came : Outcome
  came = verb_step w number (verb.AtLink l (link_verb.Pump frames))

  abbrev gone : States × GiveResult
  gone = after (peer_gives_up frames (peer_of link)) producer.vbs

  abbrev behind : PlainNode
  behind = (posted frames link w l there producer made gone.0 gone.1 refl).0

  abbrev pulled : States × PullResult
  pulled = after_reads (peer_pulled frames (record gone.1.peer { producer = losing_end gone.1.given gone.1.peer.producer })) behind.shelves behind.vbs

  is : came ≡ put_last frames link w l there producer made gone.0 gone.1 refl pulled.0 pulled.1 refl
  is = pump_puts frames link w l there producer made gone.0 gone.1 refl pulled.0 pulled.1 refl

  pub gives_first : GivesFirst w link producer frames came
  gives_first = record {
    states = gone.0;
    gave = gone.1;
    gives = refl;
    posted = behind;
    replies = (posted frames link w l there producer made gone.0 gone.1 refl).1;
    posts = refl;
    left = pulled.0;
    put = pulled.1;
    puts = refl;
    lines = ap (λ (o : Outcome). o.1.events) is;
    said = ap (λ (o : Outcome). o.1.answer) is;
    node = ap (λ (o : Outcome). o.0.nodes (producer_node link)) is ∙ here w (producer_node link) (with_states behind pulled.0);
    others = λ m other. ap (λ (o : Outcome). o.0.nodes m) is ∙ away w (producer_node link) m (with_states behind pulled.0) other;
    links = ap (λ (o : Outcome). o.0.links) is ∙ ap (λ k. row_put link_number k (pumped_link link pulled.1) (map (losing_link (producer_node link) gone.1.given) w.links)) (sym (row_number link_number l w.links link there));
  }

  abbrev put_alone : States × PullResult
  put_alone = after_reads (peer_pulled frames (peer_of link)) producer.shelves producer.vbs

  alone_is : GivesNothing frames link → came ≡ (with_links (with_node_at w (producer_node link) (with_states producer put_alone.0)) (row_put link_number (link_number link) (pumped_link link put_alone.1) w.links), record { events = put_alone.1.events; answer = put_alone.1.answer })
  alone_is none =
      pump_alone frames link w l there none ∙ ap (link_outcome w l producer_node (pump_at frames)) there
      ∙ ap (λ o. with_link link (node_outcome w (producer_node link) (Some link, refusal cause.UnknownNode) o (pump_at frames link))) made
      ∙ ap (λ (x : PlainNode × LinkResult). with_link link (with_node_at w (producer_node link) x.0, x.1)) (pump_is frames link producer)

  pub puts_alone : GivesNothing frames link → PutsAlone w link producer frames came
  puts_alone none = record {
    left = put_alone.0;
    put = put_alone.1;
    puts = refl;
    told = ap (λ (o : Outcome). o.1) (alone_is none);
    node = ap (λ (o : Outcome). o.0.nodes (producer_node link)) (alone_is none) ∙ here w (producer_node link) (with_states producer put_alone.0);
    others = λ m other. ap (λ (o : Outcome). o.0.nodes m) (alone_is none) ∙ away w (producer_node link) m (with_states producer put_alone.0) other;
    links = ap (λ (o : Outcome). o.0.links) (alone_is none);
  }
