-- behind the group of each line no link is left that ended with it, and each that is dialed then is one of the world's
use Rattle.std.specs.Prelude.{◌≡◌, ◌⊎◌, ◌∷◌, ◌++◌, ◌==◌, ◌&&◌, ◌||◌, if◌then◌else◌}
use Rattle.transcript_law.proofs.Words.{ℕ, Bool, true, false, List, [], refl, ap, sym, ◌∙◌, subst, inl, inr, ⊎_elim, drop, take, not, eqb-true, Option, Some, None, is_some, AdminCall, Answer, Cause, Chronicle, Event, EndReason, LinkVerb, NodeVerb, Role, StreamAsk, VbReply, Verb, VbVerb, PlainLink, PlainNode, PlainWorld, Outcome, Told}
use Rattle.transcript_law.proofs.Words.{admin_line, admin_result, after, after_lines, ask_in, clock_at, consumer_node, cut_outcome, dial_of, done, empty_node, first_cause, is_taken, link_causes, link_number, moved_len, node_causes, on_node, own_link, peer_of, producer_node, promote_causes, refused_or, replica_at, replica_causes, role_outcome, row_at, turn_causes, up_at, vb_at, vb_causes, vb_in, verb_step, with_branches, with_dialed, with_id, with_links, with_node_at}
use Rattle.node_core.specs.{Admin.{admin_job, role_at}, Dials.{dial_due}}
use Rattle.node_world.proofs.Keeping.{due_dialed}
use Rattle.node_world.specs.{Arms.{fail_arm, stop_arm}, Dues.{done_step, due_at, due_in, due_of, is_counted, with_due}, Links.{new_link, peer_given, with_up}, Nodes.{arm_at, chain_line, flush_line, save_line, tick_line}, Power.{crash_causes, crash_step, down_lines, dropped, start_at, start_causes, start_step, with_arm}, World.{client_verb_at, cut_step, link_verb_step, vb_verb_step}, Worlds.{is_off, on_made}}
use Rattle.transcript_law.proofs.balance.Leaving.{made_links, node_links}
use Rattle.transcript_law.proofs.ends.{Pumps.{pump_kept, puts_kept}, Links.{AllLinked, IsThere, Kept, kept_both, kept_dropped, kept_more, kept_out, kept_put, kept_same, none_at}, Steps.{Ends, armed_ends, calm_free, dies_silent, down_line_ends, fired_free, follows_silent, rises_silent, role_ends}, Told.{EndsIn, IsNew, ahead_shrinks, goes_on, in_front, verb_shrinks}}
use Rattle.transcript_law.proofs.{disks.{Disks.{power_of}, Fired.{ends_calm}}, invariant.{Agreement.{Agrees, IsLink, is_down}, LinkRows.{found_is_link}, Ranged.{IsRanged}, Resting.{not_down, off_as_power}, Tables.{id_here}}, lines.Calm.{Calm, spared_calm}}
use Rattle.transcript_law.proofs.verbs.{BoundAnswers.{start_refused}, FiredLines.{made_calm, refused_calm, role_calm, save_calm}, StopTellings.{AreDialed, dial_told, world_dialed}}
use Rattle.transcript_law.specs.{Bound.{IsNoOf}, Chronicles.{Dial, after_group, ahead, at_line}, Ends.{AllEnded, Dials, NoneAt, NoneLeft, NoneTurned}, Firings.{FiresAsSaid, FiresInLine}, LinesTold.{is_dial_at}}
use Rattle.vb_disk.specs.declared.made.Outcome.{Outcome as Left}
use Rattle.vb_types.specs.declared.journal.FlushPart.TheVariants as part
use Rattle.node_world.specs.Links.{drop_at}

-- one that is refused for a node that runs, or is not there, stops none
never_stopped : (said : Answer) → IsNoOf (Cause.NodeUp ∷ Cause.UnknownNode ∷ []) said → said ≡ Answer.No Cause.Stopped → ⊥
never_stopped said refused s = ⊎_elim
    (λ up. let z : Answer.No Cause.NodeUp ≡ Answer.No Cause.Stopped = sym up ∙ s in cc)
    (λ more. ⊎_elim (λ unknown. let z : Answer.No Cause.UnknownNode ≡ Answer.No Cause.Stopped = sym unknown ∙ s in cc) (λ none. none) more) refused

one_of : (a b : Bool) → (a || b) ≡ true → (a ≡ true) ⊎ (b ≡ true)
one_of true b e = inl refl
one_of false b e = inr e

module _ (w : PlainWorld) (r : Chronicle) (ranged : IsRanged w) (a : Agrees w r) (linked : AllLinked w r.dial_of) where
  -- the links of a line go on or are told over, and none is left that ended with it
  abbrev pub EndsAll : Verb → Outcome → Type 0
  EndsAll line o = Kept w.links o.0.links o.1.events × AllEnded r line o.1.events o.1.answer

  abbrev Ends' : Outcome → Type 0
  Ends' o = Ends w r a linked o

  -- a line that calls no disk
  calm_all : (line : Verb) (o : Outcome) → ((said : Answer) → NoneLeft (after_lines r o.1.events).dial_of line o.1.events said) → Kept w.links o.0.links o.1.events → FiresAsSaid None o.1.events o.1.answer → EndsAll line o
  calm_all line o none kept fires = (kept, (none o.1.answer, calm_free (after_lines r o.1.events).dial_of o.1.events (spared_calm o.1 fires)))

  node_same : (n : ℕ) (f : PlainNode → PlainNode × Told) → (let o = on_node w n f in Kept w.links o.0.links o.1.events)
  node_same n f = let o = on_node w n f in kept_same w.links o.0.links o.1.events (node_links w n _ (w.nodes n) _)

  made_same : (n : ℕ) (f : PlainNode → PlainNode × Told) → (let o = on_made w n f in Kept w.links o.0.links o.1.events)
  made_same n f = let o = on_made w n f in kept_same w.links o.0.links o.1.events (made_links w n f)

  -- one that its node carries out, and may write down
  node_armed : (n : ℕ) (f : PlainNode → PlainNode × Told) → Calm (on_node w n f).1.events → Ends' (with_arm n w (on_node w n f))
  node_armed n f calm = armed_ends w r a linked n (on_node w n f) (subst (AreDialed r) (sym (node_links w n _ (w.nodes n) _)) (world_dialed w r a)) (node_same n f) calm

  due_kept : (n v : ℕ) (o : Outcome) → Kept w.links o.0.links o.1.events → (let x = due_in n v o in Kept w.links x.0.links x.1.events)
  due_kept n v o kept = by_counted (is_counted o.1.answer)
    where
      Goes : Outcome → Type 0
      Goes x = Kept w.links x.0.links x.1.events

      by_node : (link : PlainLink) (k : Option PlainNode) → Goes (due_at n link o.0 o.1 k)
      by_node link None = kept
      by_node link (Some node) = let x = after (dial_due (dial_of link)) node.vbs in let lines = o.1.events ++ x.1.events in
          kept_both w.links o.0.links _ lines (λ y i. ⊎_elim (λ stays. inl stays) (λ told. inr (in_front (link_number y) o.1.events x.1.events told)) (kept y i))
          (kept_put (link_number link) (with_due link x.1) o.0.links lines (ap (λ d. d.link) (due_dialed (dial_of link) node.vbs)))

      by_link : (l : Option PlainLink) → Goes (due_of n o.0 o.1 l)
      by_link None = kept
      by_link (Some link) = by_node link (o.0.nodes n)

      by_counted : (b : Bool) → Goes (if b then due_of n o.0 o.1 (own_link n v o.0.links) else o)
      by_counted true = by_link (own_link n v o.0.links)
      by_counted false = kept

  crash_all : (n : ℕ) (out : Left) → EndsAll (Verb.AtNode n (NodeVerb.Crash out)) (crash_step w n out)
  crash_all n out = by (first_cause (crash_causes w n))
    where
      by : (why : Option Cause) → EndsAll (Verb.AtNode n (NodeVerb.Crash out)) (refused_or why w (dropped n out w, done (down_lines n None w)))
      by (Some why) = (kept_same w.links w.links [] refl, (tt, tt))
      by None = let lines : List Event = down_lines n None w in let dials = (after_lines r lines).dial_of in let d = world_dialed w r a in
          (kept_dropped w r a linked n None w d out, (none_at w r a linked n None w d lines (kept_same w.links w.links lines refl) (λ l told. told), calm_free dials lines (ends_calm n None w)))

  cut_all : (l : ℕ) → EndsAll (Verb.AtLink l LinkVerb.Cut) (cut_step w l)
  cut_all l = by (row_at link_number l w.links) refl
    where
      by : (o : Option PlainLink) → row_at link_number l w.links ≡ o → EndsAll (Verb.AtLink l LinkVerb.Cut) (cut_outcome w o)
      by None e = (kept_same w.links w.links [] refl, (tt, tt))
      by (Some link) e = let is = found_is_link l w.links link e in (
        kept_out (link_number link) w.links (Event.Ended (link_number link) EndReason.Cut ∷ []) (inl refl),
        (subst (λ k. with_id r.dial_of k None l ≡ None) (sym is.1) (id_here r.dial_of l None), tt),
      )

  -- a node that starts has no link
  start_all : (n : ℕ) (uuids : List ℕ) → FiresInLine r (Verb.AtNode n (NodeVerb.Start uuids)) (start_step w n uuids).1.events (start_step w n uuids).1.answer → EndsAll (Verb.AtNode n (NodeVerb.Start uuids)) (start_step w n uuids)
  start_all n uuids fires = (kept (first_cause (start_causes w n uuids)), (tt, fired_free dials n o.1.events o.1.answer fires at))
    where
      o : Outcome
      o = start_step w n uuids

      dials : Dials
      dials = (after_lines r o.1.events).dial_of

      kept : (why : Option Cause) → (let x = refused_or why w (on_made w n (start_at n uuids)) in Kept w.links x.0.links x.1.events)
      kept None = made_same n (start_at n uuids)
      kept (Some why) = kept_same w.links w.links [] refl

      -- one that was not down is refused
      up : is_off (w.nodes n) ≡ false → o.1.answer ≡ Answer.No Cause.Stopped → ⊥
      up e = never_stopped o.1.answer (start_refused w (w.nodes n) (drop 2 (start_causes w n uuids)) (on_made w n (start_at n uuids)) e).1

      at : o.1.answer ≡ Answer.No Cause.Stopped → NoneAt dials n
      at s l = by ((after_lines r o.1.events).dial_of l) refl
        where
          runs : (dial : Dial) → r.dial_of l ≡ Some dial → is_dial_at n (Some dial) ≡ true → is_off (w.nodes n) ≡ false
          runs dial was t =
              let (x, i, q) = linked l dial was in let ends = a.1.ends x i in
              let same : Some (dial_told x) ≡ Some dial = sym (world_dialed w r a x i) ∙ ap r.dial_of q ∙ was in
              ⊎_elim
              (λ p. sym (off_as_power (w.nodes n)) ∙ ap (λ k. is_down (power_of w k)) (sym (eqb-true (producer_node x) n p)) ∙ not_down (power_of w (producer_node x)) ends.producer)
              (λ p. sym (off_as_power (w.nodes n)) ∙ ap (λ k. is_down (power_of w k)) (sym (eqb-true (consumer_node x) n p)) ∙ ends.consumer)
              (one_of (producer_node x == n) (consumer_node x == n) (ap (is_dial_at n) same ∙ t))

          still : (dial : Dial) → (after_lines r o.1.events).dial_of l ≡ Some dial → (b : Bool) → is_dial_at n (Some dial) ≡ b → b ≡ false
          still dial e false t = refl
          still dial e true t = absurd (up (runs dial (goes_on r o.1.events l dial e).0 t) s)

          by : (k : Option Dial) → (after_lines r o.1.events).dial_of l ≡ k → is_dial_at n k ≡ false
          by None e = refl
          by (Some dial) e = still dial e (is_dial_at n (Some dial)) refl

  refused_kept : (why : Option Cause) (x : Outcome) → Kept w.links x.0.links x.1.events → (let o = refused_or why w x in Kept w.links o.0.links o.1.events)
  refused_kept None x kept = kept
  refused_kept (Some why) x kept = kept_same w.links w.links [] refl

  dialed_kept : (number l m n v buffer : ℕ) (takeover : Bool) (o : Option StreamAsk) → Kept w.links (with_dialed number l m n v buffer takeover w.links o) []
  dialed_kept number l m n v buffer takeover None = kept_same w.links w.links [] refl
  dialed_kept number l m n v buffer takeover (Some ask) = kept_more w.links (new_link number l m n v buffer takeover ask ∷ []) []

  armed_all : (line : Verb) (o : Outcome) → ((said : Answer) → NoneLeft (after_lines r o.1.events).dial_of line o.1.events said) → Ends' o → EndsAll line o
  armed_all line o none ends = (ends.0, (none o.1.answer, ends.1))

  turn_all : (n v : ℕ) (asked : AdminCall) (job : admin_job n v asked ≡ role_at n v asked) → ((k : Option VbReply) → (let told = admin_result n v asked k in told.ended ≡ None → told.events ≡ [])) → (why : Option Cause)
      → (let o = with_arm n w (refused_or why w (role_outcome n v asked w)) in Ends' o × NoneTurned (after_lines r o.1.events).dial_of n v o.1.events)
  turn_all n v asked job silent why = role_ends w r a linked n v asked job silent why (refused_calm why w (role_outcome n v asked w) (role_calm w n v asked job ranged))

  vb_all : (n v : ℕ) (what : VbVerb) → (let o = vb_verb_step w n v what in FiresInLine r (Verb.AtVb n v what) o.1.events o.1.answer → EndsAll (Verb.AtVb n v what) o)
  vb_all n v (VbVerb.MakeActive uuid) fires = armed_all (Verb.AtVb n v (VbVerb.MakeActive uuid)) (vb_verb_step w n v (VbVerb.MakeActive uuid)) (λ said. tt) (node_armed n (vb_at w.uuids n v uuid) (made_calm w n v Role.Active uuid (λ node. vb_causes w.uuids node v uuid)))
  vb_all n v VbVerb.MakeReplica fires = armed_all (Verb.AtVb n v VbVerb.MakeReplica) (vb_verb_step w n v VbVerb.MakeReplica) (λ said. tt) (node_armed n (replica_at n v) (made_calm w n v Role.Replica 0 (λ node. replica_causes node v)))
  vb_all n v (VbVerb.Promote uuid) fires = let e = turn_all n v (AdminCall.Promote uuid) refl (rises_silent n v uuid) (first_cause (promote_causes w n v uuid)) in (e.0.0, (e.1, e.0.1))
  vb_all n v VbVerb.Follow fires = let e = turn_all n v AdminCall.Follow refl (follows_silent n v) (first_cause (turn_causes w n v Role.Replica)) in (e.0.0, (e.1, e.0.1))
  vb_all n v VbVerb.Dead fires = let e = turn_all n v AdminCall.Dead refl (dies_silent n v) (first_cause (turn_causes w n v Role.Dead)) in (e.0.0, (e.1, e.0.1))
  vb_all n v VbVerb.Save fires = armed_all (Verb.AtVb n v VbVerb.Save) (vb_verb_step w n v VbVerb.Save) (λ said. tt) (node_armed n (save_line n v) (save_calm w n v ranged))
  vb_all n v VbVerb.Done fires = calm_all (Verb.AtVb n v VbVerb.Done) (done_step w n v) (λ said. tt) (due_kept n v (on_node w n (flush_line n v part.Done)) (node_same n (flush_line n v part.Done))) fires
  vb_all n v (VbVerb.Chain others) fires = calm_all (Verb.AtVb n v (VbVerb.Chain others)) (vb_verb_step w n v (VbVerb.Chain others)) (λ said. tt) (node_same n (chain_line n v others)) fires
  vb_all n v VbVerb.Tick fires = calm_all (Verb.AtVb n v VbVerb.Tick) (vb_verb_step w n v VbVerb.Tick) (λ said. tt) (node_same n (tick_line n v)) fires
  vb_all n v VbVerb.Trim fires = calm_all (Verb.AtVb n v VbVerb.Trim) (vb_verb_step w n v VbVerb.Trim) (λ said. tt) (node_same n (admin_line n v AdminCall.Trim)) fires
  vb_all n v VbVerb.Seal fires = calm_all (Verb.AtVb n v VbVerb.Seal) (vb_verb_step w n v VbVerb.Seal) (λ said. tt) (node_same n (admin_line n v AdminCall.Seal)) fires
  vb_all n v VbVerb.Take fires = calm_all (Verb.AtVb n v VbVerb.Take) (vb_verb_step w n v VbVerb.Take) (λ said. tt) (node_same n (flush_line n v part.Take)) fires
  vb_all n v VbVerb.Stat fires = calm_all (Verb.AtVb n v VbVerb.Stat) (vb_verb_step w n v VbVerb.Stat) (λ said. tt) (node_same n (admin_line n v AdminCall.Stat)) fires
  vb_all n v VbVerb.Log fires = calm_all (Verb.AtVb n v VbVerb.Log) (vb_verb_step w n v VbVerb.Log) (λ said. tt) (node_same n (admin_line n v AdminCall.Log)) fires
  vb_all n v VbVerb.Show fires = calm_all (Verb.AtVb n v VbVerb.Show) (vb_verb_step w n v VbVerb.Show) (λ said. tt) (node_same n (admin_line n v AdminCall.Show)) fires

  link_all : (l : ℕ) (what : LinkVerb) → (let o = link_verb_step w l what in FiresInLine r (Verb.AtLink l what) o.1.events o.1.answer → EndsAll (Verb.AtLink l what) o)
  link_all l (LinkVerb.Up wanted) fires = calm_all (Verb.AtLink l (LinkVerb.Up wanted)) (link_verb_step w l (LinkVerb.Up wanted)) (λ said. tt)
      (puts_kept w l producer_node (up_at wanted) (λ link node. (with_up link (moved_len wanted link.up) (peer_given (take (moved_len wanted link.up) link.up) (peer_of link) node).1, refl, refl))) fires
  link_all l (LinkVerb.Pump frames) fires = calm_all (Verb.AtLink l (LinkVerb.Pump frames)) (link_verb_step w l (LinkVerb.Pump frames)) (λ said. tt) (pump_kept w l frames) fires
  link_all l (LinkVerb.Down wanted) fires = armed_all (Verb.AtLink l (LinkVerb.Down wanted)) (link_verb_step w l (LinkVerb.Down wanted)) (λ said. tt) (down_line_ends w r a linked l wanted)
  link_all l LinkVerb.Drop fires = calm_all (Verb.AtLink l LinkVerb.Drop) (link_verb_step w l LinkVerb.Drop) (λ said. tt) (puts_kept w l producer_node drop_at (λ link node. (link, refl, refl))) fires
  link_all l LinkVerb.Cut fires = cut_all l

  -- each line of a script
  pub line_ends : (number : ℕ) (line : Verb) → (let o = verb_step w number line in FiresInLine r line o.1.events o.1.answer → EndsAll line o)
  line_ends number (Verb.Node n) fires = calm_all (Verb.Node n) (verb_step w number (Verb.Node n)) (λ said. tt) (refused_kept (first_cause (node_causes w n)) (with_node_at w n empty_node, done []) (kept_same w.links w.links [] refl)) fires
  line_ends number (Verb.Link l m n v buffer takeover) fires = calm_all (Verb.Link l m n v buffer takeover) (verb_step w number (Verb.Link l m n v buffer takeover)) (λ said. tt)
      (refused_kept (first_cause (link_causes w l m n v)) (with_links w (with_dialed number l m n v buffer takeover w.links (ask_in w n v)), done []) (dialed_kept number l m n v buffer takeover (ask_in w n v))) fires
  line_ends number (Verb.AtNode n (NodeVerb.Clock nanos)) fires = calm_all (Verb.AtNode n (NodeVerb.Clock nanos)) (verb_step w number (Verb.AtNode n (NodeVerb.Clock nanos))) (λ said. tt) (node_same n (clock_at nanos)) fires
  line_ends number (Verb.AtNode n (NodeVerb.Stop k out)) fires = calm_all (Verb.AtNode n (NodeVerb.Stop k out)) (verb_step w number (Verb.AtNode n (NodeVerb.Stop k out))) (λ said. tt) (made_same n (arm_at (stop_arm k out))) fires
  line_ends number (Verb.AtNode n (NodeVerb.Fail k)) fires = calm_all (Verb.AtNode n (NodeVerb.Fail k)) (verb_step w number (Verb.AtNode n (NodeVerb.Fail k))) (λ said. tt) (made_same n (arm_at (fail_arm k))) fires
  line_ends number (Verb.AtNode n (NodeVerb.Crash out)) fires = crash_all n out
  line_ends number (Verb.AtNode n (NodeVerb.Start uuids)) fires = start_all n uuids fires
  line_ends number (Verb.AtVb n v what) fires = vb_all n v what fires
  line_ends number (Verb.AtClient n c what) fires = calm_all (Verb.AtClient n c what) (verb_step w number (Verb.AtClient n c what)) (λ said. tt) (node_same n (client_verb_at n number c what)) fires
  line_ends number (Verb.AtLink l what) fires = link_all l what fires

  -- a link that a line dialed is there
  pub new_there : (number : ℕ) (line : Verb) (l : ℕ) → (let o = verb_step w number line in IsNew line o.1.answer l → IsThere l o.0.links)
  new_there number (Verb.Link k m n v buffer takeover) l is = by (not (is_some (w.nodes m) && is_some (w.nodes n))) (is_off (w.nodes m) || is_off (w.nodes n)) (not (is_some (vb_in (w.nodes n) v))) (ask_in w n v) (is_taken w.links k n v) is
    where
      line : Verb
      line = Verb.Link k m n v buffer takeover

      last : (links : List PlainLink) (x : PlainLink) → IsLink x (links ++ x ∷ [])
      last [] x = inl refl
      last (z ∷ zs) x = inr (last zs x)

      by : (b c d : Bool) (o : Option StreamAsk) (e : Bool)
          → (let x = refused_or (first_cause ((b, Cause.UnknownNode) ∷ (c, Cause.NodeDown) ∷ (d, Cause.UnknownVb) ∷ (not (is_some o), Cause.WrongRole) ∷ (e, Cause.LinkOpen) ∷ [])) w (with_links w (with_dialed number k m n v buffer takeover w.links o), done []) in IsNew line x.1.answer l → IsThere l x.0.links)
      by true c d o e is = absurd is
      by false true d o e is = absurd is
      by false false true o e is = absurd is
      by false false false None e is = absurd is
      by false false false (Some ask) true is = absurd is
      by false false false (Some ask) false is = (new_link number k m n v buffer takeover ask, last w.links (new_link number k m n v buffer takeover ask), sym is)
  new_there number other l is = absurd is

-- and behind the whole group each that is dialed is one of the world's
pub all_linked : (w : PlainWorld) (r : Chronicle) (number : ℕ) (line : Verb) → AllLinked w r.dial_of
    → (let o = verb_step w number line in ((l : ℕ) → IsNew line o.1.answer l → IsThere l o.0.links) → Kept w.links o.0.links o.1.events → AllLinked (with_branches o.1.events o.0) (after_group (at_line r number) line o.1.events o.1.answer).dial_of)
all_linked w r number line linked new kept l dial e =
    let o = verb_step w number line in let r0 : Chronicle = at_line r number in
    ⊎_elim
    (λ read.
    let p = goes_on (ahead r0 line o.1.answer) o.1.events l dial read in let (x, i, s) = linked l dial (ahead_shrinks r0 line o.1.answer l dial p.0) in
    ⊎_elim (λ (y, j, t). (y, j, t ∙ s)) (λ told. absurd (p.1 (subst (λ k. EndsIn k o.1.events) s told))) (kept x i))
    (λ is. new l is)
    (verb_shrinks r0 (after_lines (ahead r0 line o.1.answer) o.1.events) line o.1.events o.1.answer l dial e)
