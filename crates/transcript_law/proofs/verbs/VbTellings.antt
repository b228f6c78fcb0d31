-- each line for a vBucket tells of nothing else than it may
use Rattle.std.specs.Prelude.{◌≡◌, ◌∷◌, ◌++◌, ◌==◌, ◌&&◌, ◌||◌, if◌then◌else◌}
use Rattle.std.specs.FinMap as finite
use Rattle.transcript_law.proofs.Words.{ℕ, Bool, true, false, List, [], refl, subst, map, eq-eqb, Option, Some, None, is_some, Cause, Chronicle, Event, EndReason, Role, VbVerb, AdminCall, AdminResult, Picture, PlainLink, PlainNode, PlainWorld, Outcome, StreamName, Told, VbAnswer, VbCall, VbReply, after, after_job}
use Rattle.transcript_law.proofs.Words.{admin_call, admin_line, admin_result, branch_lines, call_at, called_at, cut_off, document_line, first_cause, image_lines, link_number, no_node, node_outcome, on_node, own_link, prepare_line, refused_or, role_outcome, turned_after, turned_if, with_ended, with_node_at}
use Rattle.durability.specs.Chains.{Members}
use Rattle.node_core.specs.{Calls.{own_lines}, Admin.{admin_refused, promote_result, role_at, role_noted, role_result}, Dials.{dial_due}, Flushing.{flush_result}, Shown.{shown_line}}
use Rattle.node_world.specs.{Arms.{placed, under_arm}, Dues.{done_step, due_at, due_in, due_of, is_counted}, Links.{consumer_node, dial_of}, Nodes.{flush_here, all_posted, chain_causes, chain_line, chain_made, flush_line, save_line, tick_line, vb_made, with_kept}, Power.{with_arm}, Turns.{posted_at, posted_in, role_called}}
use Rattle.transcript_law.proofs.{invariant.{Agreement.{IsLink}, Ranged.{IsRanged, NodeRanged, NodeRangedIf, called_world, cut_ended_ranged}}, lines.{Calm.{AnyAsk, any_job, either}, ClientLines.{AllKept}, DialTold.{due_so}}}
use Rattle.transcript_law.proofs.verbs.{Leaving.{own_found}, NodeLines.{on_node_by}, StopTellings.{AreDialed, own_dialed, refused_dialed, role_dialed, tell_armed}}
use Rattle.transcript_law.proofs.verbs.Tellings.{Alone, Are, EndsSo, SavesSo, TakesSo, Tell, are_cons, are_map, are_more, are_own, are_posted, are_posts, changes, done_steps, flush_steps, front_of, same_place, save_steps, settles, take_steps, tell_all, tell_unless, unposted}
use Rattle.transcript_law.specs.{LinesTold.{is_dial_for}, Plainness.{IsOfClient}, Tellings.{at_vb, is_none, is_of_clients, is_of_end, is_of_role, is_of_turn}}
use Rattle.vb_calls.proofs.JobConduct.{after_job_always, always_bind_job}
use Rattle.vb_calls.specs.Flushes.{role_job}
use Rattle.vb_calls.specs.Jobs.{Ended}
use Rattle.vb_calls.specs.Programs.{AnyCall, AnyReply}
use Rattle.vb_calls.specs.declared.calls.Resolved.{Resolved}
use Rattle.vb_calls.specs.declared.calls.VbAnswer.TheVariants as answer
use Rattle.vb_calls.specs.declared.journals.Flushed.{Flushed}
use Rattle.vb_calls.specs.declared.journals.Flushed.TheVariants as flushed
use Rattle.vb_types.specs.declared.journal.FlushPart.TheVariants as part

-- what the clients of a node are told is of that node
pub of_clients : (n : ℕ) (line : Event) → IsOfClient n line → is_of_clients n line ≡ true
of_clients n (Event.Changed m u uuid change) c = eq-eqb m n c
of_clients n (Event.Reply m k bytes) c = eq-eqb m n c
of_clients n (Event.Closed m k) c = eq-eqb m n c
of_clients n (Event.Asked (StreamName.Client m k) u q ask high log said) c = eq-eqb m n c.0
of_clients n other c = absurd c

-- the first and the second of three tests
first_of : (a b c : Bool) → a ≡ true → (a || b || c) ≡ true
first_of true b c e = refl
first_of false b c e = cc

second_of : (a b c : Bool) → b ≡ true → (a || b || c) ≡ true
second_of true b c e = refl
second_of false true c e = refl
second_of false false c e = cc

module _ (r : Chronicle) (w : PlainWorld) (n v : ℕ) where
  abbrev Tells : VbVerb → List Event → Type 0
  Tells what lines = Tell (at_vb r n v what) (is_of_end r) lines

  -- ---- one that is made

  branch_are : (role : Role) (uuid : ℕ) → Are (is_of_role n v) (branch_lines n v role uuid)
  branch_are Role.Active uuid = are_cons (is_of_role n v) (Event.Branch n v uuid None 0 0) (Event.Role n v Role.Active ∷ []) (same_place n v) (are_cons (is_of_role n v) (Event.Role n v Role.Active) [] (same_place n v) refl)
  branch_are other uuid = are_cons (is_of_role n v) (Event.Role n v other) [] (same_place n v) refl

  pub made_tells : (role : Role) (uuid : ℕ) (rows : PlainNode → List (Bool × Cause)) → AreDialed r w.links → Tells VbVerb.MakeReplica (with_arm n w (on_node w n (λ node. refused_or (first_cause (rows node)) node (vb_made n v role uuid node)))).1.events
  made_tells role uuid rows d = let make : PlainNode → PlainNode × Told = λ node. refused_or (first_cause (rows node)) node (vb_made n v role uuid node) in
      tell_armed r (at_vb r n v VbVerb.MakeReplica) (is_of_role n v) n (λ line e. front_of (is_of_role n v line) _ e) (λ m e. cc) (eq-eqb n n refl) (eq-eqb n n refl) w (on_node w n make)
      (on_node_by (λ o. AreDialed r o.0.links) w n make d (λ node known. d) (λ node known up. d))
      (on_node_by (λ o. Are (is_of_role n v) o.1.events) w n make refl (λ node known. refl) (λ node known up. unless (first_cause (rows node)) node))
    where
      unless : (why : Option Cause) (node : PlainNode) → Are (is_of_role n v) (refused_or why node (vb_made n v role uuid node)).1.events
      unless None node = branch_are role uuid
      unless (Some why) node = refl

  -- ---- a change of role

  abbrev turns : Event → Bool
  turns = is_of_turn r n v

  turn_clients : (line : Event) → IsOfClient n line → turns line ≡ true
  turn_clients line c = second_of (is_of_role n v line) (is_of_clients n line) _ (of_clients n line c)

  turn_role : (role : Role) → turns (Event.Role n v role) ≡ true
  turn_role role = first_of (is_of_role n v (Event.Role n v role)) _ _ (same_place n v)

  rises : (uuid : ℕ) (o : Option VbReply) → Are turns (admin_result n v (AdminCall.Promote uuid) o).events
  rises uuid None = refl
  rises uuid (Some reply) = by reply.answer
    where
      by : (a : VbAnswer) → Are turns (promote_result n v reply a).events
      by (answer.Branch u parent fork high) =
          are_cons turns (Event.Branch n v u parent fork high) (Event.Role n v Role.Active ∷ own_lines n v reply) (first_of (is_of_role n v (Event.Branch n v u parent fork high)) _ _ (same_place n v))
          (are_cons turns (Event.Role n v Role.Active) (own_lines n v reply) (turn_role Role.Active) (changes turns n turn_clients v reply.branch reply))
      by (answer.Status st) = refl
      by other = refl

  turned_to : (role : Role) (reply : VbReply) (a : VbAnswer) → Are turns (role_result n v role reply a).events
  turned_to role reply answer.Done = are_cons turns (Event.Role n v role) [] (turn_role role) refl
  turned_to role reply other = refl

  follows : (o : Option VbReply) → Are turns (admin_result n v AdminCall.Follow o).events
  follows None = refl
  follows (Some reply) = turned_to Role.Replica reply reply.answer

  dies : (o : Option VbReply) → Are turns (admin_result n v AdminCall.Dead o).events
  dies None = refl
  dies (Some reply) = turned_to Role.Dead reply reply.answer

  module _ (asked : AdminCall) (call_are : (o : Option VbReply) → Are turns (admin_result n v asked o).events) (ranged : IsRanged w) (d : AreDialed r w.links) where
    called_are : (node : PlainNode) → Are turns (after_job (role_at n v asked) node.vbs node.shelves).1.events
    called_are node = after_job_always AnyCall AnyAsk (λ (told : AdminResult). Are turns told.events) (role_at n v asked) node.vbs node.shelves
        (always_bind_job AnyReply AnyCall AnyAsk (λ made. Unit {0}) (λ (told : AdminResult). Are turns told.events) (role_job v (admin_call asked)) (λ made. Ended (role_noted n v asked made)) (any_job (role_job v (admin_call asked))) (λ made any. call_are made.0))

    posted : (w3 : PlainWorld) (t : Told) (rs : List Resolved) → IsRanged w3 → Are turns t.events → Are turns (posted_in n rs (w3, t)).1.events
    posted w3 t rs all a = by (w3.nodes n) (all n)
      where
        by : (o : Option PlainNode) → NodeRangedIf n o → Are turns (posted_at n rs w3 t o).1.events
        by None own = a
        by (Some node) own = are_more turns t.events (all_posted rs node).1 a (are_posts turns n turn_clients rs node own.own)

    by_ended : (o : Option (List ℕ)) (w1 : PlainWorld) (told : AdminResult) → IsRanged w1 → AreDialed r w1.links → Are turns told.events → Are turns (turned_if n v w o (w1, told)).1.events
    by_ended None w1 told all e a = a
    by_ended (Some ids) w1 told all e a =
        let w2 : PlainWorld = with_ended n v ids w1 in let own = own_link n v w2.links in
        posted (cut_off own w2).0 (record { events = (cut_off own w2).1 ++ told.events; answer = told.answer }) told.resolved (cut_ended_ranged n v ids w1 all) (are_more turns (cut_off own w2).1 told.events (cut own (own_dialed r n v ids w1.links e)) a)
      where
        cut : (o : Option PlainLink) → ((link : PlainLink) → o ≡ Some link → is_dial_for n v (r.dial_of (link_number link)) ≡ true) → Are turns (cut_off o (with_ended n v ids w1)).1
        cut None own = refl
        cut (Some link) own = are_cons turns (Event.Ended (link_number link) EndReason.Cut) [] (own link refl) refl

    node_are : (job : (node : PlainNode) → Are turns (called_at n v asked node).1.events) (node : PlainNode) → Are turns (role_called n v asked node).1.events
    node_are job node = by (is_some node.off)
      where
        by : (b : Bool) → Are turns (let x : PlainNode × AdminResult = if b then (node, admin_refused Cause.NodeDown) else under_arm v (called_at n v asked) node in x.1.events)
        by true = refl
        by false = job (placed v node)

    roles : ((node : PlainNode) → Are turns (called_at n v asked node).1.events) → Are turns (role_outcome n v asked w).1.events
    roles job = by (w.nodes n) refl
      where
        by : (o : Option PlainNode) → w.nodes n ≡ o → Are turns (turned_after n v w (node_outcome w n no_node o (role_called n v asked))).1.events
        by None e = refl
        by (Some node) e = let x = role_called n v asked node in by_ended x.1.ended (with_node_at w n x.0) x.1 (called_world w n v asked node e ranged) d (node_are job node)

    role_tells : (why : Option Cause) → ((node : PlainNode) → Are turns (called_at n v asked node).1.events) → Tells VbVerb.Follow (with_arm n w (refused_or why w (role_outcome n v asked w))).1.events
    role_tells why job = tell_armed r (at_vb r n v VbVerb.Follow) turns n (λ line e. front_of (turns line) _ e) (λ m e. cc) (eq-eqb n n refl) (eq-eqb n n refl) w (refused_or why w (role_outcome n v asked w))
        (refused_dialed r why w (role_outcome n v asked w) d (role_dialed r n v asked w d)) (unless why)
      where
        unless : (why : Option Cause) → Are turns (refused_or why w (role_outcome n v asked w)).1.events
        unless None = roles job
        unless (Some cause) = refl

  pub promote_tells : (uuid : ℕ) (why : Option Cause) → IsRanged w → AreDialed r w.links → Tells (VbVerb.Promote uuid) (with_arm n w (refused_or why w (role_outcome n v (AdminCall.Promote uuid) w))).1.events
  promote_tells uuid why ranged d = role_tells (AdminCall.Promote uuid) (rises uuid) ranged d why (called_are (AdminCall.Promote uuid) (rises uuid) ranged d)

  pub follow_tells : (why : Option Cause) → IsRanged w → AreDialed r w.links → Tells VbVerb.Follow (with_arm n w (refused_or why w (role_outcome n v AdminCall.Follow w))).1.events
  follow_tells why ranged d = role_tells AdminCall.Follow follows ranged d why (called_are AdminCall.Follow follows ranged d)

  pub dead_tells : (why : Option Cause) → IsRanged w → AreDialed r w.links → Tells VbVerb.Dead (with_arm n w (refused_or why w (role_outcome n v AdminCall.Dead w))).1.events
  dead_tells why ranged d = role_tells AdminCall.Dead dies ranged d why (called_are AdminCall.Dead dies ranged d)

  -- ---- chains, and prepares whose time is up

  tick_all : (lines : List Event) → Are (is_of_clients n) lines → Tells VbVerb.Tick lines
  tick_all lines a = tell_all (is_of_clients n) (is_of_end r) (λ m e. cc) lines a

  pub chain_tells : (others : Members) (node : PlainNode) → AllKept n node → Tells VbVerb.Tick (chain_line n v others node).1.events
  chain_tells others node kept = tell_unless (is_of_clients n) (is_of_end r) (first_cause (chain_causes n v others node)) node (chain_made n v others node)
      (tick_all _ (settles (is_of_clients n) n (of_clients n) v (VbCall.Chain (record { active = n; others = others })) node kept))

  pub tick_tells : (node : PlainNode) → AllKept n node → Tells VbVerb.Tick (tick_line n v node).1.events
  tick_tells node kept = tick_all _ (settles (is_of_clients n) n (of_clients n) v (VbCall.Tick node.clock) node kept)

  -- ---- an operator's call that keeps the role

  abbrev Called : AdminCall → VbVerb → Type 0
  Called asked what = (o : Option VbReply) → Tells what (admin_result n v asked o).events

  at_call : (asked : AdminCall) (what : VbVerb) → Called asked what → (node : PlainNode) → Tells what (admin_result n v asked (call_at node.vbs v (admin_call asked) (node.vbs v)).1).events
  at_call asked what each node = each (call_at node.vbs v (admin_call asked) (node.vbs v)).1

  seal_so : Called AdminCall.Seal VbVerb.Seal
  seal_so None = refl
  seal_so (Some reply) = by reply.answer
    where
      by : (a : VbAnswer) → Tells VbVerb.Seal (admin_result n v AdminCall.Seal (Some (record reply { answer = a }))).events
      by (answer.Flag sealed) = refl
      by other = refl

  trim_so : Called AdminCall.Trim VbVerb.Trim
  trim_so None = refl
  trim_so (Some reply) = by reply.answer
    where
      by : (a : VbAnswer) → Tells VbVerb.Trim (admin_result n v AdminCall.Trim (Some (record reply { answer = a }))).events
      by (answer.Num removed) = refl
      by other = refl

  stat_so : Called AdminCall.Stat VbVerb.Stat
  stat_so None = refl
  stat_so (Some reply) = by reply.answer
    where
      by : (a : VbAnswer) → Tells VbVerb.Stat (admin_result n v AdminCall.Stat (Some (record reply { answer = a }))).events
      by (answer.Stat windows items cursors saved high) = are_cons (at_vb r n v VbVerb.Stat) (Event.Stat n v windows items cursors saved high) [] (same_place n v) refl
      by other = refl

  log_so : Called AdminCall.Log VbVerb.Log
  log_so None = refl
  log_so (Some reply) = by reply.answer
    where
      by : (a : VbAnswer) → Tells VbVerb.Log (admin_result n v AdminCall.Log (Some (record reply { answer = a }))).events
      by (answer.Logged log) = are_cons (at_vb r n v VbVerb.Log) (Event.Logged n v log) [] (same_place n v) refl
      by other = refl

  abbrev shows : Event → Bool
  shows = at_vb r n v VbVerb.Show

  image_are : (image : Picture) → Are shows (image_lines image)
  image_are image = are_more shows (map document_line (finite.entries image.docs)) (map prepare_line (finite.entries image.pending))
      (are_map shows document_line (finite.entries image.docs) (λ x. refl)) (are_map shows prepare_line (finite.entries image.pending) (λ x. refl))

  show_so : Called AdminCall.Show VbVerb.Show
  show_so None = refl
  show_so (Some reply) = by reply.answer
    where
      by : (a : VbAnswer) → Tells VbVerb.Show (admin_result n v AdminCall.Show (Some (record reply { answer = a }))).events
      by (answer.Shown role uuid ss se at image) = tell_all shows (is_of_end r) (λ m e. cc) (shown_line n v role uuid ss se at image ∷ image_lines image) (are_cons shows (shown_line n v role uuid ss se at image) (image_lines image) (λ i. same_place n v i || false) (image_are image))
      by other = refl

  pub seal_tells : (node : PlainNode) → Tells VbVerb.Seal (admin_line n v AdminCall.Seal node).1.events
  seal_tells node = at_call AdminCall.Seal VbVerb.Seal seal_so node

  pub trim_tells : (node : PlainNode) → Tells VbVerb.Trim (admin_line n v AdminCall.Trim node).1.events
  trim_tells node = at_call AdminCall.Trim VbVerb.Trim trim_so node

  pub stat_tells : (node : PlainNode) → Tells VbVerb.Stat (admin_line n v AdminCall.Stat node).1.events
  stat_tells node = at_call AdminCall.Stat VbVerb.Stat stat_so node

  pub log_tells : (node : PlainNode) → Tells VbVerb.Log (admin_line n v AdminCall.Log node).1.events
  log_tells node = at_call AdminCall.Log VbVerb.Log log_so node

  pub show_tells : (node : PlainNode) → Tells VbVerb.Show (admin_line n v AdminCall.Show node).1.events
  show_tells node = at_call AdminCall.Show VbVerb.Show show_so node

  -- ---- a step of writing down

  pub take_tells : (node : PlainNode) → Tells VbVerb.Take (flush_line n v part.Take node).1.events
  take_tells node =
      let q = at_vb r n v VbVerb.Take in let y = after_job (flush_here n v part.Take node) node.vbs node.shelves in
      let a : Alone q y.1 = flush_steps (Alone q) TakesSo n v part.Take node (refl, refl) by (take_steps v) in tell_all q (is_of_end r) (λ m e. cc) _ (unposted q y.1 (with_kept node y.0) a.0 a.1)
    where
      by : (came : Flushed) → TakesSo came → Alone (at_vb r n v VbVerb.Take) (flush_result n v came)
      by (flushed.Took ss se at count) s = (either (Are (at_vb r n v VbVerb.Take)) (count == 0) [] (Event.Batch n v ss se at count ∷ []) refl (are_cons (at_vb r n v VbVerb.Take) (Event.Batch n v ss se at count) [] (same_place n v) refl), refl)
      by flushed.BatchOut s = (refl, refl)
      by other s = absurd s

  save_so : (node : PlainNode) → Are is_none (save_line n v node).1.events
  save_so node =
      let at : PlainNode = placed v node in let y = after_job (flush_here n v part.Save at) at.vbs at.shelves in
      let a : Alone is_none y.1 = flush_steps (Alone is_none) SavesSo n v part.Save at (refl, refl) by (save_steps v) in unposted is_none y.1 (with_kept at y.0) a.0 a.1
    where
      by : (came : Flushed) → SavesSo came → Alone is_none (flush_result n v came)
      by flushed.Saved s = (refl, refl)
      by flushed.NothingTaken s = (refl, refl)
      by flushed.Closed s = (refl, refl)
      by flushed.DiskFailed s = (refl, refl)
      by other s = absurd s

  pub save_tells : AreDialed r w.links → Tells VbVerb.Save (with_arm n w (on_node w n (save_line n v))).1.events
  save_tells d = tell_armed r (at_vb r n v VbVerb.Save) is_none n (λ line e. cc) (λ m e. cc) (eq-eqb n n refl) (eq-eqb n n refl) w (on_node w n (save_line n v))
      (on_node_by (λ o. AreDialed r o.0.links) w n (save_line n v) d (λ node known. d) (λ node known up. d)) (on_node_by (λ o. Are is_none o.1.events) w n (save_line n v) refl (λ node known. refl) (λ node known up. save_so node))

  abbrev ends : Event → Bool
  ends = at_vb r n v VbVerb.Done

  done_clients : (line : Event) → IsOfClient n line → ends line ≡ true
  done_clients line c = front_of (is_of_clients n line) _ (of_clients n line c)

  done_so : (node : PlainNode) → NodeRanged n node → Are ends (flush_line n v part.Done node).1.events
  done_so node ranged =
      let y = after_job (flush_here n v part.Done node) node.vbs node.shelves in
      are_posted ends n done_clients y.1 (with_kept node y.0) ranged.own (flush_steps (λ told. Are ends told.events) EndsSo n v part.Done node refl by (done_steps v))
    where
      by : (came : Flushed) → EndsSo came → Are ends (flush_result n v came).events
      by (flushed.Done reply) s = are_own ends n v (λ uuid reply. changes ends n done_clients v uuid reply) reply
      by flushed.NothingTaken s = refl
      by other s = absurd s

  -- what is acknowledged behind it is of this vBucket
  due_are : (came : Outcome) → Are ends came.1.events → Are ends (due_in n v came).1.events
  due_are came b = by (is_counted came.1.answer)
    where
      at : (link : PlainLink) → IsLink link came.0.links × (consumer_node link ≡ n) × (link.consumer.dialed.vb ≡ v) → (o : Option PlainNode) → Are ends (due_at n link came.0 came.1 o).1.events
      at link is None = b
      at link is (Some node) = are_more ends came.1.events (after (dial_due (dial_of link)) node.vbs).1.events b
          (due_so ends link.consumer.dialed (λ h. Unit {0}) (λ seq saved i. eq-eqb (consumer_node link) n is.1 i && eq-eqb link.consumer.dialed.vb v is.2 i) (dial_of link) node.vbs refl tt)

      of : (o : Option PlainLink) → own_link n v came.0.links ≡ o → Are ends (due_of n came.0 came.1 o).1.events
      of None e = b
      of (Some link) e = at link (own_found n v came.0.links link e) (came.0.nodes n)

      by : (c : Bool) → Are ends (let x : Outcome = if c then due_of n came.0 came.1 (own_link n v came.0.links) else came in x.1.events)
      by true = of (own_link n v came.0.links) refl
      by false = b

  pub done_tells : IsRanged w → Tells VbVerb.Done (done_step w n v).1.events
  done_tells ranged = tell_all ends (is_of_end r) (λ m e. cc) (done_step w n v).1.events (due_are (on_node w n (flush_line n v part.Done))
      (on_node_by (λ o. Are ends o.1.events) w n (flush_line n v part.Done) refl (λ node known. refl) (λ node known up. done_so node (subst (NodeRangedIf n) known (ranged n)))))
