-- why lines for links are refused
use Rattle.std.proofs.Common.{◌≡◌, ℕ, Bool, true, false, List, [], ◌∷◌, refl, ap, ◌∙◌, subst, Some, None, is_some, sym}
use Rattle.std.specs.Prelude.{◌≢◌, ◌==◌, ◌&&◌, ◌||◌, not, if◌then◌else◌, option_and_then}
use Rattle.std.specs.List.{list_any}
use Rattle.std.proofs.lemmas.Bool.{or_left, or_right, or_from}
use Rattle.vb_events.specs.declared.event.Answer.{Answer}
use Rattle.vb_events.specs.declared.event.Answer.TheVariants as answer
use Rattle.vb_events.specs.declared.event.Cause.{Cause}
use Rattle.vb_events.specs.declared.event.Cause.TheVariants as cause
use Rattle.vb_types.specs.declared.role.Role.{Role}
use Rattle.vb_types.specs.declared.role.Role.TheVariants as role
use Rattle.vb_types.specs.declared.status.Status.TheVariants as status
use Rattle.vb_types.specs.declared.stream.StreamAsk.{StreamAsk}
use Rattle.vb_calls.specs.declared.calls.VbAnswer.TheVariants as vb_answer
use Rattle.vb_calls.specs.Following.{is_follower}
use Rattle.vb_calls.specs.Jobs.{after_reads}
use Rattle.vb_calls.specs.Programs.{after}
use Rattle.vb_calls.specs.Shelves.{Shelves}
use Rattle.vb_calls.specs.States.{States}
use Rattle.vb_calls.specs.State.{Plain, quiet_reply, refusal_reply}
use Rattle.vb_disk.specs.declared.fuse.Fuse.{Fuse}
use Rattle.vb_disk.specs.declared.fuse.Fuse.TheVariants as fuse
use Rattle.vbucket.specs.Rows.{row_at}
use Rattle.dcp_producer.specs.Dropping.{cursor_dropped}
use Rattle.dcp_producer.specs.Producers.{begun}
use Rattle.dcp_producer.specs.Pulling.{why_of, frames_put}
use Rattle.node_core.specs.Calls.{named_ask}
use Rattle.node_core.specs.Peers.{PlainPeer, PullResult, peer_pulled}
use Rattle.node_world.specs.declared.arm.Fired.{Fired}
use Rattle.node_world.specs.declared.arm.Fired.TheVariants as fired
use Rattle.node_world.specs.Arms.{fired_by}
use Rattle.node_world.specs.Causes.{AtLink, CantGoBack, Dials, DialsMade, NoLink}
use Rattle.node_world.specs.GivesFirst.{GivesFirst, losing_end}
use Rattle.node_world.specs.Links.{PlainLink, LinkResult, link_number, producer_node, consumer_node, feeds, is_taken, ask_of, moved_len, drop_at, up_at}
use Rattle.node_world.specs.Nodes.{PlainNode, done, refusal, first_cause, refused_or}
use Rattle.node_world.specs.Power.{after_broken, is_broken_answer}
use Rattle.node_world.specs.World.{ask_in, cut_outcome, down_in, down_outcome, down_step, link_step, link_outcome, on_link, pump_outcome, with_dialed, with_link}
use Rattle.node_world.specs.Worlds.{PlainWorld, Outcome, arm_in, is_off, node_outcome, vb_in, with_links}
use Rattle.node_world.proofs.GivesFirst.{gives_first}
use Rattle.node_world.proofs.PullReads.{peer_put}

-- the answer of a line that the first of five causes that holds refuses
abbrev five : Bool → Bool → Bool → Bool → Bool → Answer
five a b c d e =
    if a then answer.No cause.UnknownNode else if b then answer.No cause.NodeDown else if c then answer.No cause.UnknownVb else if d then answer.No cause.WrongRole else if e then answer.No cause.LinkOpen else answer.Ok

five_is : (before : PlainWorld) (came : Outcome) → came.1.answer ≡ answer.Ok → (a b c d e : Bool)
    → (refused_or (first_cause ((a, cause.UnknownNode) ∷ (b, cause.NodeDown) ∷ (c, cause.UnknownVb) ∷ (d, cause.WrongRole) ∷ (e, cause.LinkOpen) ∷ [])) before came).1.answer ≡ five a b c d e
five_is before came ok true b c d e = refl
five_is before came ok false true c d e = refl
five_is before came ok false false true d e = refl
five_is before came ok false false false true e = refl
five_is before came ok false false false false true = refl
five_is before came ok false false false false false = ok

-- a link that is dialed
module _ (w : PlainWorld) (l m n v buffer : ℕ) (takeover : Bool) where
  dialed_by : (line : ℕ) (a b c d e : Bool) → not (is_some (w.nodes m) && is_some (w.nodes n)) ≡ a → (is_off (w.nodes m) || is_off (w.nodes n)) ≡ b → not (is_some (vb_in (w.nodes n) v)) ≡ c → not (is_some (ask_in w n v)) ≡ d → is_taken w.links l n v ≡ e
      → (link_step w line l m n v buffer takeover).1.answer ≡ five a b c d e
  dialed_by line a b c d e is_a is_b is_c is_d is_e =
      let came : Outcome = (with_links w (with_dialed line l m n v buffer takeover w.links (ask_in w n v)), done []) in
      (λ i. (refused_or (first_cause ((is_a i, cause.UnknownNode) ∷ (is_b i, cause.NodeDown) ∷ (is_c i, cause.UnknownVb) ∷ (is_d i, cause.WrongRole) ∷ (is_e i, cause.LinkOpen) ∷ [])) w came).1.answer) ∙ five_is w came refl a b c d e

  abbrev no_vb : Bool
  no_vb = not (is_some (vb_in (w.nodes n) v))

  abbrev no_ask : Bool
  no_ask = not (is_some (ask_in w n v))

  abbrev off : Bool
  off = is_off (w.nodes m) || is_off (w.nodes n)

  abbrev taken : Bool
  taken = is_taken w.links l n v

  either : (f g : PlainLink → Bool) (links : List PlainLink) → list_any (λ link. f link || g link) links ≡ (list_any f links || list_any g links)
  either f g [] = refl
  either f g (x ∷ xs) = ap (λ b. (f x || g x) || b) (either f g xs) ∙ by (f x) (g x) (list_any f xs) (list_any g xs)
    where
      by : (a b c d : Bool) → ((a || b) || (c || d)) ≡ ((a || c) || (b || d))
      by true b c d = refl
      by false true true d = refl
      by false true false d = refl
      by false false true d = refl
      by false false false d = refl

  taken_is : is_taken w.links l n v ≡ (list_any (λ link. link_number link == l) w.links || list_any (feeds n v) w.links)
  taken_is = either (λ link. link_number link == l) (feeds n v) w.links

  second : (b : Bool) → not (b && false) ≡ true
  second true = refl
  second false = refl

  named_or : (ask : StreamAsk) (b : Bool) → not (is_some (named_ask (if b then quiet_reply (vb_answer.Named ask) else refusal_reply status.NotMyVbucket).answer)) ≡ not b
  named_or ask true = refl
  named_or ask false = refl

  asks_by : (vb : Plain) (b : Bool) → is_follower vb.role ≡ b → not (is_some (ask_of vb)) ≡ not b
  asks_by vb b e = subst (λ c. not (is_some (ask_of vb)) ≡ not c) e (named_or _ (is_follower vb.role))

  follower : (r : Role) → r ≢ role.Active → r ≢ role.Dead → is_follower r ≡ true
  follower role.Active a d = absurd (a refl)
  follower role.Replica a d = refl
  follower role.Pending a d = refl
  follower role.Dead a d = absurd (d refl)

  pub dials : Dials w l m n v buffer takeover
  dials = record {
    no_producer = λ e number. dialed_by number true off no_vb no_ask taken (ap (λ o. not (is_some o && is_some (w.nodes n))) e) refl refl refl refl;
    no_node = λ e number. dialed_by number true off no_vb no_ask taken (ap (λ o. not (is_some (w.nodes m) && is_some o)) e ∙ second (is_some (w.nodes m))) refl refl refl refl;
  }

  module _ (producer node : PlainNode) (here : w.nodes m ≡ Some producer) (there : w.nodes n ≡ Some node) where
    nodes_are : not (is_some (w.nodes m) && is_some (w.nodes n)) ≡ false
    nodes_are = λ i. not (is_some (here i) && is_some (there i))

    off_as_plain : off ≡ (is_some producer.off || is_some node.off)
    off_as_plain = λ i. is_off (here i) || is_off (there i)

    vb_is : no_vb ≡ not (is_some (node.vbs v))
    vb_is = ap (λ x. not (is_some (vb_in x v))) there

    asks : (vb : Plain) → node.vbs v ≡ Some vb → (b : Bool) → is_follower vb.role ≡ b → no_ask ≡ not b
    asks vb is b e = ap (λ x. not (is_some (option_and_then ask_of (vb_in x v)))) there ∙ ap (λ x. not (is_some (option_and_then ask_of x))) is ∙ asks_by vb b e

    -- both are running
    linked_by : (vb : Plain) → producer.off ≡ None → node.off ≡ None → node.vbs v ≡ Some vb → (b d : Bool) → is_follower vb.role ≡ b → taken ≡ d → (number : ℕ)
        → (link_step w number l m n v buffer takeover).1.answer ≡ (if not b then answer.No cause.WrongRole else if d then answer.No cause.LinkOpen else answer.Ok)
    linked_by vb up own_up is b d e f number =
        dialed_by number false false false (not b) d nodes_are (off_as_plain ∙ (λ i. is_some (up i) || is_some (own_up i))) (vb_is ∙ ap (λ x. not (is_some x)) is) (asks vb is b e) f

    second_off : (a b : Bool) → b ≡ true → (a || b) ≡ true
    second_off true b e = refl
    second_off false b e = e

    pub dials_made : DialsMade w l m n v buffer takeover producer node
    dials_made = record {
      down = λ e number. dialed_by number false true no_vb no_ask taken nodes_are (off_as_plain ∙ ap (λ b. b || is_some node.off) e) refl refl refl;
      own_down = λ e number. dialed_by number false true no_vb no_ask taken nodes_are (off_as_plain ∙ second_off (is_some producer.off) (is_some node.off) e) refl refl refl;
      no_vb = λ up own_up e number. dialed_by number false false true no_ask taken nodes_are (off_as_plain ∙ (λ i. is_some (up i) || is_some (own_up i))) (vb_is ∙ ap (λ x. not (is_some x)) e) refl refl;
      active = λ vb up own_up is e number. linked_by vb up own_up is false taken (ap is_follower e) refl number;
      dead = λ vb up own_up is e number. linked_by vb up own_up is false taken (ap is_follower e) refl number;
      taken = λ vb up own_up is follows e number.
          linked_by vb up own_up is true true (follower vb.role follows.0 follows.1) (taken_is ∙ or_left (list_any (λ link. link_number link == l) w.links) (list_any (feeds n v) w.links) e) number;
      fed = λ vb up own_up is follows e number.
          linked_by vb up own_up is true true (follower vb.role follows.0 follows.1) (taken_is ∙ or_right (list_any (λ link. link_number link == l) w.links) (list_any (feeds n v) w.links) e) number;
      dials = λ vb up own_up is follows may number.
          linked_by vb up own_up is true false (follower vb.role follows.0 follows.1) (taken_is ∙ or_from (list_any (λ link. link_number link == l) w.links) (list_any (feeds n v) w.links) may.0 may.1) number;
    }

-- where no link of a number is open, no line for it is carried out
module _ (w : PlainWorld) (l : ℕ) (none : list_any (λ link. link_number link == l) w.links ≡ false) where
  none_at : (links : List PlainLink) → list_any (λ link. link_number link == l) links ≡ false → row_at link_number l links ≡ None
  none_at [] e = refl
  none_at (x ∷ xs) e = by (link_number x == l) e (none_at xs)
    where
      by : (b : Bool) → (b || list_any (λ link. link_number link == l) xs) ≡ false → (list_any (λ link. link_number link == l) xs ≡ false → row_at link_number l xs ≡ None) → (if b then Some x else row_at link_number l xs) ≡ None
      by true e later = cc
      by false e later = later e

  closed : (end : PlainLink → ℕ) (f : PlainLink → PlainNode → PlainNode × LinkResult) → (on_link w l end f).1.answer ≡ answer.No cause.LinkClosed
  closed end f = ap (λ o. (link_outcome w l end f o).1.answer) (none_at w.links none)

  closed_down : (wanted : ℕ) → (down_step w l wanted).1.answer ≡ answer.No cause.LinkClosed
  closed_down wanted = ap (λ o. (down_outcome w l o (on_link w l consumer_node (down_in wanted))).1.answer) (none_at w.links none) ∙ closed consumer_node (down_in wanted)

  pub no_link : NoLink w l
  no_link = record {
    up = λ wanted number. closed producer_node (up_at wanted);
    down = λ wanted number. closed_down wanted;
    pump = λ frames number. ap (λ o. (pump_outcome w l frames o).1.answer) (none_at w.links none);
    drop = λ number. closed producer_node drop_at;
    cut = λ number. ap (λ o. (cut_outcome w o).1.answer) (none_at w.links none);
  }

-- an arm that fired was one that stops, or one that fails
failed_by : (f left : Fuse) → fired_by f left ≡ fired.Failed → CantGoBack f cause.Disk
failed_by fuse.Off left e = cc
failed_by (fuse.Stop k) fuse.Off e = cc
failed_by (fuse.Stop k) (fuse.Stop j) e = cc
failed_by (fuse.Stop k) (fuse.Fail j) e = cc
failed_by (fuse.Fail k) left e = tt

stopped_by : (f left : Fuse) → fired_by f left ≡ fired.Stopped → CantGoBack f cause.Stopped
stopped_by fuse.Off left e = cc
stopped_by (fuse.Stop k) left e = tt
stopped_by (fuse.Fail k) fuse.Off e = cc
stopped_by (fuse.Fail k) (fuse.Stop j) e = cc
stopped_by (fuse.Fail k) (fuse.Fail j) e = cc

closed_by : (f : Fuse) → CantGoBack f cause.Closed
closed_by fuse.Off = tt
closed_by (fuse.Stop k) = tt
closed_by (fuse.Fail k) = tt

same_why : (a b : Cause) → answer.No a ≡ answer.No b → a ≡ b
same_why a b e = cc

-- a line for an open link
module _ (w : PlainWorld) (l : ℕ) (link : PlainLink) (producer node : PlainNode) (add_link : row_at link_number l w.links ≡ Some link) (from : w.nodes (producer_node link) ≡ Some producer) (there : w.nodes (consumer_node link) ≡ Some node) where
  at_end_of : (end : PlainLink → ℕ) (f : PlainLink → PlainNode → PlainNode × LinkResult) (x : PlainNode) → w.nodes (end link) ≡ Some x → (on_link w l end f).1.answer ≡ (f link x).1.1.answer
  at_end_of end f x e = ap (λ o. (link_outcome w l end f o).1.answer) add_link ∙ ap (λ o. (with_link link (node_outcome w (end link) (Some link, refusal cause.UnknownNode) o (f link))).1.answer) e

  abbrev F : Fuse
  F = node.arm.fuse

  -- bytes for the consumer
  module _ (wanted : ℕ) where
    abbrev n : ℕ
    n = consumer_node link

    abbrev came : Outcome
    came = on_link w l consumer_node (down_in wanted)

    abbrev left : Fuse
    left = (arm_in (came.0.nodes n)).fuse

    by_fired : (f : Fired) (why : Cause) → fired_by F left ≡ f → (after_broken n l (arm_in (w.nodes n)).out f came).1.answer ≡ answer.No why → CantGoBack F why
    by_fired fired.No why is e = subst (CantGoBack F) (same_why cause.Closed why e) (closed_by F)
    by_fired fired.Failed why is e = subst (CantGoBack F) (same_why cause.Disk why e) (failed_by F left is)
    by_fired fired.Stopped why is e = subst (CantGoBack F) (same_why cause.Stopped why e) (stopped_by F left is)

    number_or : (count : ℕ) (b : Bool) (why : Cause) → is_broken_answer (if b then answer.No cause.Disk else answer.Number count) ≡ false → (if b then answer.No cause.Disk else answer.Number count) ≡ answer.No why → ⊥
    number_or count true why well e = cc
    number_or count false why well e = cc

    told_as : (why : Cause) → is_broken_answer came.1.answer ≡ false → came.1.answer ≡ answer.No why → ⊥
    told_as why well e =
        let is = at_end_of consumer_node (down_in wanted) node there in
        number_or _ _ why (sym (ap is_broken_answer is) ∙ well) (sym is ∙ e)

    by_broken : (b : Bool) (why : Cause) → is_broken_answer came.1.answer ≡ b
        → (if b then after_broken n l (arm_in (w.nodes n)).out (fired_by (arm_in (w.nodes n)).fuse left) came else came).1.answer ≡ answer.No why → CantGoBack F why
    by_broken true why is e = by_fired (fired_by (arm_in (w.nodes n)).fuse left) why (ap (λ o. fired_by (arm_in o).fuse left) (sym there)) e
    by_broken false why is e = absurd (told_as why is e)

    refused_as : (why : Cause) → (down_step w l wanted).1.answer ≡ answer.No why → CantGoBack F why
    refused_as why e = by_broken (is_broken_answer came.1.answer) why refl (sym (ap (λ o. (down_outcome w l o came).1.answer) add_link) ∙ e)

  pub at_link : AtLink w l node
  at_link = record {
    up = λ wanted number why e. let told : answer.Number (moved_len wanted link.up) ≡ answer.No why = sym (at_end_of producer_node (up_at wanted) producer from) ∙ e in cc;
    down = λ wanted number why e. refused_as wanted why e;
    pump = λ frames number why e. let g = gives_first w number l frames link producer add_link from in pumped frames (end_of g) g.posted.shelves g.posted.vbs why (ap (λ (x : States × PullResult). x.1.answer) g.puts ∙ sym g.said ∙ e);
    drop = ((after (cursor_dropped link.consumer.dialed.vb link.server) producer.vbs).1, λ number. at_end_of producer_node drop_at producer from);
    cut = λ number. ap (λ o. (cut_outcome w o).1.answer) add_link;
  }
    where
      end_of : {frames : ℕ} {came : Outcome} → GivesFirst w link producer frames came → PlainPeer
      end_of g = record g.gave.peer { producer = losing_end g.gave.given g.gave.peer.producer }

      pumped : (frames : ℕ) (peer : PlainPeer) (shelves : Shelves) (states : States) (why : Cause) → (after_reads (peer_pulled frames peer) shelves states).1.answer ≡ answer.No why → ⊥
      pumped frames peer shelves states why e =
          let put = after_reads (frames_put frames (begun peer.producer)) shelves states in
          let told : answer.Pulled put.1.0.count (why_of put.1.1) ≡ answer.No why =
          sym (ap (λ (x : States × PullResult). x.1.answer) (peer_put frames peer shelves states)) ∙ e in
          cc
