-- the lines `chain` and `tick`
use Rattle.std.specs.Prelude.{◌≡◌, ◌∷◌, if◌then◌else◌}
use Rattle.transcript_law.proofs.disks.Disks.{power_in}
use Rattle.transcript_law.proofs.Words.{ℕ, Bool, true, false, List, [], refl, ap, sym, ◌∙◌, subst, All, Option, Some, None, not, is_some, eq-eqb, Answer, Cause, Event, Plain, States, Sound, StaysSound, is_active, newest_branch, with_vb_at, call_at, quiet_reply, VbAnswer, VbCall, VbReply, Status, plain_step, refusal_reply}
use Rattle.transcript_law.proofs.Words.{Chronicle, PlainNode, PlainWorld, Told, first_cause, on_node, refusal, refused_or, vb_in, with_node_at, with_states, after_lines}
use Rattle.transcript_law.proofs.answers.{Claims.{ClaimAt, call_claims, changes_claim}, Committed.{AllHowTold, all_claimed, all_told}, Explained.{explained}, Calm.{OfDurable, durable_settled, durable_told}}
use Rattle.transcript_law.proofs.lines.Stored.{given}
use Rattle.transcript_law.specs.{Feeding.{client_in}, LawfulAnswers.{AllDurable}}
use Rattle.transcript_law.proofs.{invariant.Agreement.{clock_of, Agrees, AgreesIn, GoesOn, VbAgrees, active_counts, idle}, links.Behind.{nothing_beside, posts_behind}, invariant.Counts.{counts_agree}, verbs.Expiring.{both, expired_log, expired_told, expires}, invariant.JobSteps.{put_found, put_over}}
use Rattle.transcript_law.proofs.{verbs.NodeLines.{as_told, node_changed, node_grown, on_node_by, on_node_goes, refused_on, node_of_same_vbs, shelves_again, shelves_put, agrees_same, put_same}, invariant.Ranged.{IsRanged, NodeRanged, NodeRangedIf}, invariant.Seats.{seat}, verbs.Settling.{SettlesOn, Steady, changes_quiet, changes_told, settled_told, settles}, verbs.Writing.{mine}}
use Rattle.durability.specs.Chains.{Links, Members, is_chain}
use Rattle.node_core.specs.Calls.{own_lines}
use Rattle.node_core.specs.Flushing.{settled_result as said_of_call}
use Rattle.node_world.specs.Nodes.{chain_line, chain_made, is_active_one, settled as settled_node, tick_line}
use Rattle.vb_calls.specs.Durable.{expired, then_settled}
use Rattle.vb_calls.specs.Settling.{Resolving, also_resolved, settled, unresolved}
use Rattle.{transcript_law.specs.Chronicles.{after_chain}, vbucket.proofs.Preparing.{chain_sound}}
use Rattle.vbucket.proofs.RowIs.{Chains, Expires}

-- a call that changed the vBucket, as all agrees then, and after which it made changes of its own, which are told
module _ (stays : StaysSound) (steady : Steady) (w : PlainWorld) (r : Chronicle) (n v : ℕ) (node : PlainNode) (ranged : NodeRanged n node) (start : Plain) (u : Resolving) (reply : VbReply)
    (s : SettlesOn (with_node_at w n (with_states node (with_vb_at node.vbs v start))) r n v (unresolved start) u) (told : own_lines n v reply ≡ changes_told n v (newest_branch start.log) s.cs) (durable : All OfDurable reply.changes) (calm : AllDurable r.made) (paid : AllHowTold n (after_lines r (own_lines n v reply)) (ClaimAt r n node.clients) reply.resolved) where
  abbrev made : PlainNode
  made = with_states node (with_vb_at node.vbs v start)

  abbrev last : PlainNode
  last = with_states node (with_vb_at node.vbs v u.vb)

  abbrev lines : List Event
  lines = changes_told n v (newest_branch start.log) s.cs

  agrees : Agrees (with_node_at w n last) (after_lines r lines)
  agrees = s.agrees (with_node_at w n last) (node_grown w n v made last u.vb (λ q. sym (ap (λ (f : States). f q) (put_over node.vbs v start u.vb))) (λ q o. refl) refl) (shelves_again w n made last (λ q. refl) n v)

  abbrev settling : List Event → PlainNode × Told
  settling ls = settled_node node (with_vb_at node.vbs v u.vb, record { events = ls; answer = Answer.Ok; resolved = reply.resolved })

  settled_goes : GoesOn r as_told (with_node_at w n (settling (own_lines n v reply)).0, (settling (own_lines n v reply)).1)
  settled_goes = subst (λ (ls : List Event). GoesOn r as_told (with_node_at w n (settling ls).0, (settling ls).1)) (sym told)
      (posts_behind stays steady w r n last (record { events = lines; answer = Answer.Ok; resolved = reply.resolved }) as_told nothing_beside (record { clock = ranged.clock; clients = ranged.clients; own = ranged.own; runs = ranged.runs })
      (all_claimed n (after_lines r lines) (ClaimAt r n node.clients) (ClaimAt (after_lines r lines) n node.clients) reply.resolved (changes_claim r n v (newest_branch start.log) s.cs node.clients)
      (subst (λ (ls : List Event). AllHowTold n (after_lines r ls) (ClaimAt r n node.clients) reply.resolved) told paid))
      (subst (λ (ls : List Event). AllDurable (after_lines r ls).made) told (durable_told r n v reply.branch reply.changes durable calm)) (changes_quiet n v (newest_branch start.log) s.cs) (s.lawful, agrees))

-- `chain`
module _ (stays : StaysSound) (steady : Steady) (w : PlainWorld) (r : Chronicle) (n v : ℕ) (others : Members) (node : PlainNode) (calm : AllDurable r.made) (a : Agrees w r) (known : w.nodes n ≡ Some node) (ranged : NodeRanged n node) where
  -- the chain is told before what is committed for it
  abbrev GoesChained : PlainNode × Told → Type 0
  GoesChained x = GoesOn (after_chain r n v others x.1.answer) as_told (with_node_at w n x.0, x.1)

  module _ (vb : Plain) (has : node.vbs v ≡ Some vb) (active : is_active vb.role ≡ true) (chain : is_chain n others ≡ true) where
    abbrev chain_vb : Plain
    chain_vb = record vb { others = others }

    abbrev node1 : PlainNode
    node1 = with_states node (with_vb_at node.vbs v chain_vb)

    abbrev chained : Chronicle
    chained = after_chain r n v others Answer.Ok

    old : VbAgrees r n v (a.0.nodes (seat n v)) vb
    old = mine w r a.0 n v node vb a.1 known has

    sound : Sound chain_vb
    sound = chain_sound vb (record { active = n; others = others }) active old.sound chain

    agrees1 : AgreesIn idle (with_node_at w n node1) chained a.0
    agrees1 = counts_agree w (with_node_at w n node1) r a.0 n v vb others vb.acks (record (r.counts_at n v) { chain = others }) a.1 (ap (λ o. vb_in o v) known ∙ has) sound
        (record { chain = refl; counted = (active_counts active old.counts).counted; alone = (active_counts active old.counts).alone }) refl refl (node_changed w n v node node1 chain_vb known (λ q. refl) (λ q o. refl) refl)
        (shelves_again w n node node1 (λ q. refl) n v ∙ shelves_put w n node known n v)

    settles_on : SettlesOn (with_node_at w n node1) chained n v (unresolved chain_vb) (settled chain_vb)
    settles_on = settles steady.commits n v (with_node_at w n node1) chained a.0 node1 chain_vb agrees1 (ap (λ b. if b then Some node1 else w.nodes n) (eq-eqb n n refl)) (put_found node.vbs v chain_vb)

    abbrev reply : VbReply
    reply = (also_resolved (quiet_reply VbAnswer.Done) (settled chain_vb)).1

    told_is : own_lines n v reply ≡ changes_told n v (newest_branch vb.log) settles_on.cs
    told_is = settled_told n v (quiet_reply VbAnswer.Done) chain_vb (newest_branch vb.log) settles_on.cs refl settles_on.changes (ap newest_branch settles_on.log)

    paid : AllHowTold n (after_lines chained (own_lines n v reply)) (ClaimAt chained n node.clients) reply.resolved
    paid =
        let set : Links = record { active = n; others = others } in
        all_told chained n v reply.branch (ClaimAt chained n node.clients) reply.changes vb (VbCall.Chain set) reply.resolved tt
        (call_claims w r n v vb (VbCall.Chain set) node.clients tt a.1.clients.owed (ap (λ o. vb_in o v) known ∙ has) (λ c. ap (λ o. client_in o c) known))
        (explained vb (Chains set active) old.sound chain)

    made_goes : GoesChained (chain_made n v others node)
    made_goes =
        subst (λ o. GoesChained (settled_node node (let x = call_at node.vbs v (VbCall.Chain (record { active = n; others = others })) o in (x.0, said_of_call n v x.1)))) (sym has)
        (subst (λ b. GoesChained (settled_node node (let x : Plain × VbReply = if b then also_resolved (quiet_reply VbAnswer.Done) (settled chain_vb) else (vb, refusal_reply Status.NotMyVbucket) in (with_vb_at node.vbs v x.0, said_of_call n v (Some x.1))))) (sym active)
        (settled_goes stays steady w chained n v node ranged chain_vb (settled chain_vb) reply settles_on told_is (durable_settled chain_vb) calm paid))

  refuses : (why : Cause) → GoesChained (node, refusal why)
  refuses why = refused_on w r n node why a known

  -- by the causes to refuse it
  chain_goes : GoesChained (chain_line n v others node)
  chain_goes = by (node.vbs v) refl
    where
      rows : (vb : Plain) → node.vbs v ≡ Some vb → (active chain : Bool) → is_active vb.role ≡ active → is_chain n others ≡ chain
          → GoesChained (refused_or (first_cause ((not active, Cause.WrongRole) ∷ (not chain, Cause.ChainBad) ∷ [])) node (chain_made n v others node))
      rows vb e false chain f g = refuses Cause.WrongRole
      rows vb e true false f g = refuses Cause.ChainBad
      rows vb e true true f g = made_goes vb e f g

      by : (o : Option Plain) → node.vbs v ≡ o
          → GoesChained (refused_or (first_cause ((not (is_some o), Cause.UnknownVb) ∷ (not (is_active_one o), Cause.WrongRole) ∷ (not (is_chain n others), Cause.ChainBad) ∷ [])) node (chain_made n v others node))
      by None e = refuses Cause.UnknownVb
      by (Some vb) e = rows vb e (is_active vb.role) (is_chain n others) refl refl

-- `tick`
module _ (stays : StaysSound) (steady : Steady) (w : PlainWorld) (r : Chronicle) (n v : ℕ) (ticks : r.ticks ≡ Some (n, v)) (node : PlainNode) (calm : AllDurable r.made) (a : Agrees w r) (known : w.nodes n ≡ Some node) (ranged : NodeRanged n node) where
  abbrev Goes : PlainNode × Told → Type 0
  Goes x = GoesOn r as_told (with_node_at w n x.0, x.1)

  module _ (vb : Plain) (has : node.vbs v ≡ Some vb) where
    abbrev clock : ℕ
    clock = node.clock

    abbrev tick_at : Plain × VbReply → PlainNode × Told
    tick_at x = settled_node node (with_vb_at node.vbs v x.0, said_of_call n v (Some x.1))

    -- one that is not active has no prepare that waits for a time
    idle_goes : Goes (tick_at (vb, refusal_reply Status.NotMyVbucket))
    idle_goes = (tt, agrees_same w (with_node_at w n (with_states node (with_vb_at node.vbs v vb))) r a (node_of_same_vbs w n node (with_states node (with_vb_at node.vbs v vb)) known (put_same node.vbs v vb has) (λ q. refl) refl))

    active_goes : is_active vb.role ≡ true → Goes (tick_at (also_resolved (also_resolved (quiet_reply VbAnswer.Done) (expired clock vb)).1 (settled (expired clock vb).vb)))
    active_goes active =
        let node1 : PlainNode = with_states node (with_vb_at node.vbs v vb) in let w1 : PlainWorld = with_node_at w n node1 in
        let now : Agrees w1 r = agrees_same w w1 r a (node_of_same_vbs w n node node1 known (put_same node.vbs v vb has) (λ q. refl) refl) in
        let t : Resolving = expired clock vb in let u : Resolving = settled t.vb in
        let shows : r.clock_at n ≡ clock = a.1.clocks n ∙ ap (λ o. clock_of (power_in o)) known in
        let s : SettlesOn w1 r n v (unresolved vb) (both t u) = expires n v clock ranged.clock steady.commits w1 r now.0 node1 vb ticks shows now.1 (ap (λ b. if b then Some node1 else w.nodes n) (eq-eqb n n refl)) (put_found node.vbs v vb) active in
        let reply : VbReply = (also_resolved (also_resolved (quiet_reply VbAnswer.Done) t).1 u).1 in
        let paid : AllHowTold n (after_lines r (own_lines n v reply)) (ClaimAt r n node.clients) reply.resolved = all_told r n v reply.branch (ClaimAt r n node.clients) reply.changes vb (VbCall.Tick clock) reply.resolved shows
        (call_claims w r n v vb (VbCall.Tick clock) node.clients tt a.1.clients.owed (ap (λ o. vb_in o v) known ∙ has) (λ c. ap (λ o. client_in o c) known))
        (explained vb (Expires clock active) (mine w r a.0 n v node vb a.1 known has).sound tt) in
        settled_goes stays steady w r n v node ranged vb (both t u) reply s (expired_told n v t u (newest_branch vb.log) s.cs (ap newest_branch (expired_log clock vb)) (ap newest_branch s.log) s.changes)
        (subst (λ b. let x : Plain × VbReply = if b then then_settled (expired clock vb) else (vb, refusal_reply Status.NotMyVbucket) in All OfDurable x.1.changes) active (given vb (VbCall.Tick clock))) calm paid

    there_goes : Goes (tick_at (plain_step vb (VbCall.Tick clock)))
    there_goes = by (is_active vb.role) refl
      where
        by : (b : Bool) → is_active vb.role ≡ b → Goes (tick_at (if b then then_settled (expired clock vb) else (vb, refusal_reply Status.NotMyVbucket)))
        by true e = active_goes e
        by false e = idle_goes

  tick_goes : Goes (tick_line n v node)
  tick_goes = by (node.vbs v) refl
    where
      by : (o : Option Plain) → node.vbs v ≡ o → Goes (settled_node node (let x = call_at node.vbs v (VbCall.Tick node.clock) o in (x.0, said_of_call n v x.1)))
      by None e = refused_on w r n node Cause.UnknownVb a known
      by (Some vb) e = there_goes vb e

-- the lines of a running node
pub chain_line_goes : StaysSound → Steady → (w : PlainWorld) (r : Chronicle) (n v : ℕ) (others : Members) → IsRanged w → AllDurable r.made → Agrees w r
    → GoesOn (after_chain r n v others (on_node w n (chain_line n v others)).1.answer) as_told (on_node w n (chain_line n v others))
chain_line_goes stays steady w r n v others ranged calm a = on_node_by (λ x. GoesOn (after_chain r n v others x.1.answer) as_told x) w n (chain_line n v others) (tt, a) (λ node e. refused_on w r n node Cause.NodeDown a e)
    (λ node e up. chain_goes stays steady w r n v others node calm a e (subst (NodeRangedIf n) e (ranged n)))

pub tick_line_goes : StaysSound → Steady → (w : PlainWorld) (r : Chronicle) (n v : ℕ) → r.ticks ≡ Some (n, v) → IsRanged w → AllDurable r.made → Agrees w r → GoesOn r as_told (on_node w n (tick_line n v))
tick_line_goes stays steady w r n v ticks ranged calm a = on_node_goes w r n (tick_line n v) a (λ node e up. tick_goes stays steady w r n v ticks node calm a e (subst (NodeRangedIf n) e (ranged n)))
