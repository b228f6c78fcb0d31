-- what a `pump` keeps and tells, in what it gives up first and in the frames that it puts then
use Rattle.std.specs.Prelude.{◌≡◌, ◌∷◌, ◌++◌}
use Rattle.std.specs.List.{flat_map}
use Rattle.transcript_law.proofs.Words.{ℕ, List, [], map, refl, sym, ap, ◌∙◌, subst, Answer, Cause, Event, Option, Some, None, Outcome, PlainLink, PlainNode, PlainWorld, States, Told, after, done, link_number, on_link, peer_of, producer_node, pump_at, row_at, with_ended, with_states}
use Rattle.dcp_producer.specs.declared.yields.Yielded.{Yielded}
use Rattle.node_core.specs.GivingUp.{GiveResult, dead_line, peer_gives_up, resolved_in}
use Rattle.node_core.specs.Peers.{PullResult, peer_pulled}
use Rattle.node_world.proofs.GivesFirst.{gives_first}
use Rattle.node_world.specs.{GivesFirst.{losing_end}, Nodes.{all_posted}, Pumps.{gives_at, with_end, with_given, with_gone}, Turns.{posted_at, posted_in}, World.{pump_outcome, pump_step, put_behind}}
use Rattle.transcript_law.proofs.invariant.{AtRest.{Still, link_still, posts_in_still, still_job, still_put, still_ran, still_steps}, CallsKept.{AllIn, InWorld, ended_all}, TimelyCalls.{gives_tame, pulled_tame}}
use Rattle.transcript_law.proofs.invariant.Ranged.{IsRanged, NodeRanged, NodeRangedIf, on_link_ranged, posts_in_ranged, same_ranged, with_ended_ranged, with_node}
use Rattle.transcript_law.proofs.lines.{Calm.{Calm, Spared, all_posts_calm, calm_map, calm_more, pump_calm}, Refusals.{Anything, CarriesOut, Same, on_link_says, unchanged}}
use Rattle.transcript_law.proofs.Words.{Chronicle, StaysSound, TakesSnapshots, after_lines}
use Rattle.transcript_law.proofs.{invariant.{Agreement.{Agrees}, Carried.{link_kept}, FedLines.{pump_fed as puts_fed}, Feeding.{AllFed, AllKept, Fine}}, links.{PumpAnswers.{pump_says}, PumpWorlds.{AllKnown}}, verbs.{NodeLines.{on_link_by}, Pumping.{gave_stands}, Settling.{Steady}}}
use Rattle.transcript_law.specs.{Firings.{FiresAsSaid}, LawfulAnswers.{AllDurable}, LineAnswers.{IsPumped}, Plainness.{IsStanding}}
use Rattle.vb_calls.specs.declared.calls.Resolved.{Resolved}
use Rattle.vbucket.specs.Laws.{IsTimely}
use Rattle.transcript_law.proofs.lines.Reads.{pump_reads, pumps_read}

-- ---- streams that end as vBuckets are given up

given_ranged : (n : ℕ) (given : List Yielded) (w : PlainWorld) → IsRanged w → IsRanged (with_given n given w)
given_ranged n [] w ranged = ranged
given_ranged n (one ∷ more) w ranged = given_ranged n more (with_ended n one.vb one.ended w) (with_ended_ranged n one.vb one.ended w ranged)

given_still : (n : ℕ) (given : List Yielded) (w : PlainWorld) → InWorld Still w → InWorld Still (with_given n given w)
given_still n [] w all = all
given_still n (one ∷ more) w all = given_still n more (with_ended n one.vb one.ended w) (ended_all Still IsTimely still_steps (λ id. tt) w n one.vb one.ended all)

-- what is posted behind lines
posts_in_calm : (n : ℕ) (rs : List Resolved) (o : Outcome) → IsRanged o.0 → Calm o.1.events → Calm (posted_in n rs o).1.events
posts_in_calm n rs o ranged c = by (o.0.nodes n) (ranged n)
  where
    by : (k : Option PlainNode) → NodeRangedIf n k → Calm (posted_at n rs o.0 o.1 k).1.events
    by None here = c
    by (Some node) here = calm_more o.1.events (all_posted rs node).1 c (all_posts_calm n rs node here.own)

-- lines behind others that tell of no arm
spared_behind : (front : List Event) (told : Told) → Calm front → Spared told → FiresAsSaid None (front ++ told.events) told.answer
spared_behind front told c s = by told.answer s
  where
    by : (said : Answer) → FiresAsSaid None told.events said → FiresAsSaid None (front ++ told.events) said
    by (Answer.No Cause.Disk) x = absurd x
    by (Answer.No Cause.Stopped) x = absurd x
    by other x = calm_more front told.events c x

module _ (w : PlainWorld) (l frames : ℕ) where
  abbrev first : PlainLink → Option PlainNode → Outcome
  first link o = gives_at frames link w o

  abbrev found : Option PlainLink
  found = row_at link_number l w.links

  module _ (ranged : IsRanged w) where
    module _ (link : PlainLink) (node : PlainNode) (known : w.nodes (producer_node link) ≡ Some node) where
      abbrev n : ℕ
      n = producer_node link

      abbrev x : States × GiveResult
      x = after (peer_gives_up frames (peer_of link)) node.vbs

      abbrev gone : PlainWorld
      gone = with_gone link node x.0 x.1.peer w

      gone_ranged : IsRanged (with_given n x.1.given gone)
      gone_ranged = given_ranged n x.1.given gone (with_node w n (with_states node x.0) ranged (same_ranged n node x.0 node.made (subst (NodeRangedIf n) known (ranged n))))

      gone_still : InWorld Still w → InWorld Still (with_given n x.1.given gone)
      gone_still all = given_still n x.1.given gone (still_put w n (with_states node x.0) all (still_ran (peer_gives_up frames (peer_of link)) node.vbs (gives_tame frames (peer_of link)) (subst (AllIn Still) known (all n))))

      abbrev told : Outcome
      told = (with_given n x.1.given gone, done (map (dead_line n) x.1.given))

    gives_ranged : (link : PlainLink) (o : Option PlainNode) → w.nodes (producer_node link) ≡ o → IsRanged (first link o).0
    gives_ranged link None known = ranged
    gives_ranged link (Some node) known = posts_in_ranged (producer_node link) (flat_map resolved_in (x link node known).1.given) (told link node known) (gone_ranged link node known)

    gives_still : InWorld Still w → (link : PlainLink) (o : Option PlainNode) → w.nodes (producer_node link) ≡ o → InWorld Still (first link o).0
    gives_still all link None known = all
    gives_still all link (Some node) known = posts_in_still (producer_node link) (flat_map resolved_in (x link node known).1.given) (told link node known) (gone_ranged link node known) (gone_still link node known all)

    gives_calm : (link : PlainLink) (o : Option PlainNode) → w.nodes (producer_node link) ≡ o → Calm (first link o).1.events
    gives_calm link None known = refl
    gives_calm link (Some node) known = posts_in_calm (producer_node link) (flat_map resolved_in (x link node known).1.given) (told link node known) (gone_ranged link node known)
        (calm_map (dead_line (producer_node link)) (x link node known).1.given (λ one. refl))

    pub pump_ranged : IsRanged (pump_step w l frames).0
    pump_ranged = by found
      where
        by : (o : Option PlainLink) → IsRanged (pump_outcome w l frames o).0
        by None = ranged
        by (Some link) = on_link_ranged (first link (w.nodes (producer_node link))).0 l producer_node (pump_at frames) (gives_ranged link (w.nodes (producer_node link)) refl)
            (λ link n node here. subst (λ pump. NodeRanged n (pump link node).0) (sym (pumps_read frames)) (same_ranged n node (pump_reads frames link node).0.vbs node.made here))

    pub pump_still : InWorld Still w → InWorld Still (pump_step w l frames).0
    pump_still all = by found
      where
        by : (o : Option PlainLink) → InWorld Still (pump_outcome w l frames o).0
        by None = all
        by (Some link) =
            let o : Option PlainNode = w.nodes (producer_node link) in
            link_still (first link o).0 (gives_ranged link o refl) (gives_still all link o refl) l producer_node (pump_at frames)
            (λ link node at there. still_job (peer_pulled frames (peer_of link)) node.vbs node.shelves (pulled_tame frames (peer_of link)) there)

    pub pump_spared : Spared (pump_step w l frames).1
    pump_spared = by found
      where
        by : (o : Option PlainLink) → Spared (pump_outcome w l frames o).1
        by None = refl
        by (Some link) =
            let o : Option PlainNode = w.nodes (producer_node link) in let put : Outcome = on_link (first link o).0 l producer_node (pump_at frames) in
            spared_behind (first link o).1.events put.1 (gives_calm link o refl) (on_link_by (λ o. Spared o.1) (first link o).0 l producer_node (pump_at frames) refl (λ link found. refl) (λ link node found known. pump_calm frames link node))

  -- one that is refused for a standing cause changed nothing: where there is a link, and its node is made, frames are put
  pub pump_keeps : (why : Cause) → (pump_step w l frames).1.answer ≡ Answer.No why → IsStanding why → Same w (pump_step w l frames).0 × ((pump_step w l frames).1.events ≡ [])
  pump_keeps why e s = by found refl
    where
      Kept : Option PlainLink → Type 0
      Kept o = Same w (pump_outcome w l frames o).0 × ((pump_outcome w l frames o).1.events ≡ [])

      Refused : Option PlainLink → Type 0
      Refused o = (pump_outcome w l frames o).1.answer ≡ Answer.No why

      made : (link : PlainLink) → found ≡ Some link → (o : Option PlainNode) → w.nodes (producer_node link) ≡ o → Kept (Some link)
      made link is None none =
          let none_given : gives_at frames link w (w.nodes (producer_node link)) ≡ (w, done []) = ap (gives_at frames link w) none in
          let says = (on_link_says Anything w l producer_node (pump_at frames) (λ why. tt) (λ link node. (tt, (pump_says None frames link node).1))).1 in
          subst (λ (o : Outcome). Same w (put_behind l frames o).0 × ((put_behind l frames o).1.events ≡ [])) (sym none_given)
          (says why (ap (λ (o : Outcome). (put_behind l frames o).1.answer) (sym none_given) ∙ subst Refused is e) s)
      made link is (Some node) known =
          let g = gives_first w 0 l frames link node is known in
          let peer = record g.gave.peer { producer = losing_end g.gave.given g.gave.peer.producer } in
          let stands = subst (λ pump. CarriesOut (λ told. IsPumped None frames told.events told.answer) (pump (with_end link peer) g.posted).1.1) (pumps_read frames) (pump_says None frames (with_end link peer) g.posted) in
          absurd (stands.1 why (ap (λ (x : States × PullResult). x.1.answer) g.puts ∙ sym g.said ∙ e) s)

      by : (o : Option PlainLink) → found ≡ o → Kept found
      by None none = subst Kept (sym none) (unchanged w, refl)
      by (Some link) is = subst Kept (sym is) (made link is (w.nodes (producer_node link)) refl)

  -- each stream is that of an open link or of a client's connection
  pub pump_fed : TakesSnapshots → StaysSound → Steady → (r : Chronicle) → Agrees w r → IsRanged w → AllDurable r.made → AllKnown w r → Fine w → AllKept w → AllFed (pump_step w l frames).0
  pump_fed takes stays steady r a ranged calm all fine kept = by found refl
    where
      by : (o : Option PlainLink) → found ≡ o → AllFed (pump_step w l frames).0
      by None none = subst (λ o. AllFed (pump_outcome w l frames o).0) (sym none) fine.fed
      by (Some link) is =
          let before : Outcome = gives_at frames link w (w.nodes (producer_node link)) in
          let g = gave_stands takes stays steady w r l frames a ranged calm all link is in
          subst (λ o. AllFed (pump_outcome w l frames o).0) (sym is)
          (puts_fed before.0 (g.fed fine) (λ x i. link_kept before.0 (after_lines r before.1.events) g.agrees.0 x [] [] (g.agrees.1.links x i)) l frames)
