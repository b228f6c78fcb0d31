-- lines of a script by which nothing flows over links: each link is one that was there, whose bytes flow as they did
use Rattle.std.specs.Prelude.{◌≡◌, ℕ, ◌+◌, ◌++◌, ◌<◌, ◌^◌, List, [], ◌∷◌, if◌then◌else◌}
use Rattle.transcript_law.proofs.Words.{Bool, true, false, refl, ◌∙◌, Option, Some, None, Verb, NodeVerb, LinkVerb, Told, AdminCall, Role, PlainLink, link_number, PlainNode, PlainWorld, verb_step, row_at}
use Rattle.transcript_law.proofs.Words.{VbVerb, on_node, first_cause, node_causes}
use Rattle.node_world.specs.{Arms.{empty_node, fail_arm, stop_arm}, Nodes.{arm_at, chain_line, clock_at, done, flush_line, if_up, replica_at, save_line, tick_line, vb_at}}
use Rattle.node_world.specs.{Power.{crash_causes, down_lines, dropped, start_at, start_causes}, Turns.{admin_line, promote_causes, promote_step, role_outcome, turn_causes, turn_step}, World.{client_verb_at, cut_outcome, node_verb_step, vb_verb_step}, Worlds.{on_made, with_node_at}}
use Rattle.vb_types.specs.declared.journal.FlushPart.TheVariants as part
use Rattle.transcript_law.proofs.balance.{Leaving.{among_on, arm_on, dropped_among, made_links, out_among, refused_on, role_on, same_on}, Levels.{FlowOn}}
use Rattle.transcript_law.proofs.noted.Groups.{is_still}
use Rattle.transcript_law.proofs.links.DropRows.{drop_links}

-- one that may acknowledge more for a link
abbrev pub is_done : Verb → Bool
is_done (Verb.AtVb n v VbVerb.Done) = true
is_done other = false

module _ (w : PlainWorld) where
  on_one : (n : ℕ) (f : PlainNode → PlainNode × Told) → FlowOn w.links (on_made w n f).0.links
  on_one n f = same_on w.links (on_made w n f).0.links (made_links w n f)

  node_flows : (n : ℕ) (what : NodeVerb) → FlowOn w.links (node_verb_step w n what).0.links
  node_flows n (NodeVerb.Clock nanos) = on_one n (if_up (clock_at nanos))
  node_flows n (NodeVerb.Stop call out) = on_one n (arm_at (stop_arm call out))
  node_flows n (NodeVerb.Fail call) = on_one n (arm_at (fail_arm call))
  node_flows n (NodeVerb.Crash out) =
      refused_on w (first_cause (crash_causes w n)) (dropped n out w, done (down_lines n None w)) (among_on w.links (dropped n out w).links (dropped_among n out w))
  node_flows n (NodeVerb.Start uuids) =
      refused_on w (first_cause (start_causes w n uuids)) (on_made w n (start_at n uuids)) (on_one n (start_at n uuids))

  vb_flows : (n v : ℕ) (what : VbVerb) → is_done (Verb.AtVb n v what) ≡ false → FlowOn w.links (vb_verb_step w n v what).0.links
  vb_flows n v (VbVerb.MakeActive uuid) none = arm_on n w (on_node w n (vb_at w.uuids n v uuid)) (on_one n (if_up (vb_at w.uuids n v uuid)))
  vb_flows n v VbVerb.MakeReplica none = arm_on n w (on_node w n (replica_at n v)) (on_one n (if_up (replica_at n v)))
  vb_flows n v (VbVerb.Chain others) none = on_one n (if_up (chain_line n v others))
  vb_flows n v (VbVerb.Promote uuid) none =
      arm_on n w (promote_step w n v uuid) (refused_on w (first_cause (promote_causes w n v uuid)) (role_outcome n v (AdminCall.Promote uuid) w) (role_on n v (AdminCall.Promote uuid) w))
  vb_flows n v VbVerb.Follow none =
      arm_on n w (turn_step w n v Role.Replica AdminCall.Follow) (refused_on w (first_cause (turn_causes w n v Role.Replica)) (role_outcome n v AdminCall.Follow w) (role_on n v AdminCall.Follow w))
  vb_flows n v VbVerb.Dead none =
      arm_on n w (turn_step w n v Role.Dead AdminCall.Dead) (refused_on w (first_cause (turn_causes w n v Role.Dead)) (role_outcome n v AdminCall.Dead w) (role_on n v AdminCall.Dead w))
  vb_flows n v VbVerb.Tick none = on_one n (if_up (tick_line n v))
  vb_flows n v VbVerb.Trim none = on_one n (if_up (admin_line n v AdminCall.Trim))
  vb_flows n v VbVerb.Seal none = on_one n (if_up (admin_line n v AdminCall.Seal))
  vb_flows n v VbVerb.Take none = on_one n (if_up (flush_line n v part.Take))
  vb_flows n v VbVerb.Save none = arm_on n w (on_node w n (save_line n v)) (on_one n (if_up (save_line n v)))
  vb_flows n v VbVerb.Done none = cc
  vb_flows n v VbVerb.Stat none = on_one n (if_up (admin_line n v AdminCall.Stat))
  vb_flows n v VbVerb.Log none = on_one n (if_up (admin_line n v AdminCall.Log))
  vb_flows n v VbVerb.Show none = on_one n (if_up (admin_line n v AdminCall.Show))

  -- all others but one that is done
  pub still_flows : (number : ℕ) (line : Verb) → is_still line ≡ true → is_done line ≡ false → FlowOn w.links (verb_step w number line).0.links
  still_flows number (Verb.Node n) still none = refused_on w (first_cause (node_causes w n)) (with_node_at w n empty_node, done []) (same_on w.links w.links refl)
  still_flows number (Verb.Link l m n v buffer takeover) still none = cc
  still_flows number (Verb.AtNode n what) still none = node_flows n what
  still_flows number (Verb.AtVb n v what) still none = vb_flows n v what none
  still_flows number (Verb.AtClient n c what) still none = on_one n (if_up (client_verb_at n number c what))
  still_flows number (Verb.AtLink l (LinkVerb.Up wanted)) still none = cc
  still_flows number (Verb.AtLink l (LinkVerb.Down wanted)) still none = cc
  still_flows number (Verb.AtLink l (LinkVerb.Pump frames)) still none = cc
  still_flows number (Verb.AtLink l LinkVerb.Drop) still none = same_on w.links (verb_step w number (Verb.AtLink l LinkVerb.Drop)).0.links (drop_links w l)
  still_flows number (Verb.AtLink l LinkVerb.Cut) still none = by (row_at link_number l w.links)
    where
      by : (o : Option PlainLink) → FlowOn w.links (cut_outcome w o).0.links
      by None = same_on w.links w.links refl
      by (Some link) = among_on w.links _ (λ x i. out_among (link_number link) w.links x i)
