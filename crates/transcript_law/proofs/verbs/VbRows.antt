-- what the law needs of each line for a vBucket
use Rattle.std.specs.Prelude.{◌≡◌, ◌∷◌, ◌++◌, if◌then◌else◌}
use Rattle.transcript_law.proofs.indexers.Beside.{beside}
use Rattle.transcript_law.proofs.Words.{ℕ, Bool, true, false, arith, List, refl, ap, sym, subst, Option, Some, None, is_some, not, Answer, Cause, Event, Role, Chronicle, Verb, VbVerb, VerbFits, AdminCall, VbAnswer, VbCall, PlainNode, PlainWorld, Outcome, Told, LawfulAnswer, EndsWith, IsPromotion, IsTurn, IsSealed}
use Rattle.transcript_law.proofs.Words.{admin_call, admin_line, after_job, after_verb, called_at, first_cause, on_node, lift, quiet_reply, refused_or, promote_causes, turn_causes, replica_causes, role_causes, role_outcome, uuid_causes, vb_causes, vb_in, starts, stays, wholes}
use Rattle.{node_core.specs.Admin.{admin_at, admin_job, role_at}, vb_calls.specs.Durable.{expired, then_settled}, vb_calls.specs.Settling.{also_resolved, settled}}
use Rattle.node_world.specs.{Arms.{placed}, Dues.{done_step}, Nodes.{chain_causes, chain_line, chain_made, flush_line, save_line, tick_line, vb_made}, Power.{with_arm}, World.{vb_verb_step}, Worlds.{is_off}}
use Rattle.transcript_law.proofs.invariant.{Agreement.{Agrees, LineGoes}, AtRest.{Still, admin_still, chain_still, due_still, flush_still, made_rests, node_still, role_still, still_steps, tick_still, weaker}, CallsKept.{armed_all, unless_all}, Entering.{Entered, made_entered, noted_entered, save_entered, seal_entered}}
use Rattle.transcript_law.proofs.invariant.{FedClients.{less_keeps}, FedLines.{chain_keeps, due_fine, flush_keeps, made_keeps, refused_keeps, tick_keeps, unless_fine}, Feeding.{armed_fine, node_fine, role_fine}, Quiets.{Ends, dead_ends, follow_ends, promote_ends}, Unopened.{NoNew, OpensNone, step_new}}
use Rattle.transcript_law.proofs.invariant.Ranged.{IsRanged, admin_ranged, armed_ranged, chain_ranged, due_ranged, flush_ranged, kept_or, kept_ranged, on_node_ranged, role_ranged, save_ranged, tick_ranged, unless_ranged}
use Rattle.transcript_law.proofs.disks.{AppendAnswers.{AndPosts, AppendCame, ShutAgrees, came_keeps}, AppendLines.{AnyPosts, NewShutIs, NoLines, dead_came, follow_came, promote_came, replica_came, save_line_came, vb_came}, Fired.{armed_fires}}
use Rattle.transcript_law.proofs.{lines.Refusals.{Same, Says, on_node_says, refused_says}, verbs.BoundAnswers.{bound_armed, bound_at, done_refused, role_refused}}
use Rattle.transcript_law.proofs.verbs.FiredLines.{admin_spared, done_taken, due_fires, flush_spared, made_calm, refused_calm, role_calm, rows_fire, save_calm, settled_fires, take_taken}
use Rattle.transcript_law.proofs.verbs.LineAnswers.{AllTold, IsOk, KeptIn, admin_says, armed_answered, done_line_says, kept_in, new_shut_at, no_ok, opens_of, save_taken, settled_says, shut_at, take_line_says, told_of_opens}
use Rattle.transcript_law.proofs.verbs.{Branching.{replica_goes, vb_goes}, Chains.{chain_line_goes, tick_line_goes}, DoneLine.{done_goes}, FlushLines.{stat_goes, take_goes}, NodeLines.{on_node_goes}, RoleLines.{dead_line, follow_line, log_goes, promote_line, seal_goes}}
use Rattle.transcript_law.specs.LawfulAnswers.{IsStill}
use Rattle.transcript_law.proofs.verbs.{Rows.{Goes, Row, alone_row, answered_row, node_spared, told_goes}, Saving.{save_goes}, Settling.{steady}, Showing.{show_goes}, Trimming.{trim_goes, trim_says}}
use Rattle.transcript_law.proofs.verbs.{StopTellings.{AreDialed, world_dialed}, VbTellings.{chain_tells, dead_tells, done_tells, follow_tells, log_tells, made_tells, promote_tells, save_tells, seal_tells, show_tells, stat_tells, take_tells, tick_tells, trim_tells}}
use Rattle.transcript_law.specs.{Chronicles.{ahead}, Firings.{FiresAsSaid, FiresInLine, may_write}, LineAnswers.{IsTaken, KindAnswer, vb_kind}, Tellings.{TellsOf}}
use Rattle.transcript_law.specs.LineAnswers as kind
use Rattle.vb_types.specs.declared.journal.FlushPart.TheVariants as part
use Rattle.vbucket.specs.Laws.{IsTimely}

-- the answer to a line `seal`
pub seal_told : (w : PlainWorld) (r : Chronicle) (n v : ℕ) → AllTold w r → Says (λ told. IsSealed (r.role_at n v) (r.open_at n v) told.answer) (Same w) (on_node w n (admin_line n v AdminCall.Seal))
seal_told w r n v told = admin_says (λ x. IsSealed (r.role_at n v) (r.open_at n v) x.answer) w n v AdminCall.Seal refl (λ why. tt) (λ vb has. (told.0 n v vb has, λ why e s. cc))

module _ (w : PlainWorld) (n v : ℕ) where
  -- what is told of logs behind a line, and that it goes on
  abbrev EntersBy : VbVerb → Type 0
  EntersBy what = (before r : Chronicle) (lines : List Event) (said : Answer) → Entered r → Entered (after_verb before r (Verb.AtVb n v what) lines said)

  abbrev GoesBy : VbVerb → Outcome → Type 0
  GoesBy what x = (r : Chronicle) → VerbFits (Verb.AtVb n v what) → IsRanged w → IsStill r → Unit {0} → Agrees w r → LineGoes (ahead r (Verb.AtVb n v what) x.1.answer) (λ told. after_verb r told (Verb.AtVb n v what) x.1.events x.1.answer) x

  -- how a line is answered that appends a role, and what it tells of arms that fired
  noted_told : (what : VbVerb) → vb_kind what ≡ kind.Notes → (x : Told) (r : Chronicle) → KindAnswer r n v kind.Notes x.events x.answer → FiresAsSaid (Some n) x.events x.answer
      → LawfulAnswer r (Verb.AtVb n v what) x.events x.answer × FiresInLine r (Verb.AtVb n v what) x.events x.answer
  noted_told what notes x r said fired = subst (λ k. KindAnswer r n v k x.events x.answer × FiresAsSaid (if may_write k then Some n else None) x.events x.answer) (sym notes) (said, fired)

  -- a line that makes a vBucket
  module _ (role : Role) (uuid : ℕ) (rows : PlainNode → List (Bool × Cause)) where
    abbrev make : PlainNode → PlainNode × Told
    make node = refused_or (first_cause (rows node)) node (vb_made n v role uuid node)

    make_row : (what : VbVerb) → vb_kind what ≡ kind.Notes → ((closed : Bool) → NewShutIs closed w n v → AppendCame NoLines closed w n (on_node w n make)) → EntersBy what → GoesBy what (with_arm n w (on_node w n make)) → ((told : Chronicle) → IsRanged w → AreDialed told w.links → TellsOf told (Verb.AtVb n v what) (with_arm n w (on_node w n make)).1.events) → Row w (Verb.AtVb n v what) (with_arm n w (on_node w n make))
    make_row what notes came entered goes tells = let o : Outcome = on_node w n make in let x : Told = (with_arm n w o).1 in record {
      ranged = λ fits here. armed_ranged n w o (on_node_ranged w n make here (λ node up r. kept_or n node (vb_made n v role uuid node) (first_cause (rows node)) r (kept_ranged n node (vb_made n v role uuid node).0 refl (λ c. refl) refl r)));
      rests = λ r here h a all. made_rests w n v make role uuid (λ node. first_cause (rows node)) (λ node. refl) (weaker w all);
      fed = λ r here calm h a fine kept. (armed_fine n w o (node_fine w n make fine (λ node. refused_keeps node (vb_made n v role uuid node) (first_cause (rows node)) (made_keeps n v role uuid node)))).fed;
      keeps = λ rests. came_keeps NoLines (new_shut_at w n v) w n o.0 o.1 (came (new_shut_at w n v) (λ none. refl));
      bound = λ r a rule. bound_armed w r a n make _ rule;
      told = λ r fits t. noted_told what notes x r (armed_answered NoLines (r.disk_at n v).closed w r n o (t.arms n) (came (r.disk_at n v).closed (t.shut n v).1))
          (armed_fires NoLines (new_shut_at w n v) w n o.0 o.1 (t.arms n).1 (made_calm w n v role uuid rows) (came (new_shut_at w n v) (λ none. refl)));
      entered = λ before r old. entered before r x.events x.answer old;
      tells = λ r t. tells r t.ranged (world_dialed w r t.agrees);
      goes = goes;
    }

  -- one that changes its role
  module _ (asked : AdminCall) (rest : List (Bool × Cause)) where
    abbrev rows : List (Bool × Cause)
    rows = (not (is_some (w.nodes n)), Cause.UnknownNode) ∷ (is_off (w.nodes n), Cause.NodeDown) ∷ rest

    abbrev turn : Outcome
    turn = refused_or (first_cause rows) w (role_outcome n v asked w)

    role_row : (what : VbVerb) → vb_kind what ≡ kind.Notes → admin_job n v asked ≡ role_at n v asked
        → ((node : PlainNode) (ids : List ℕ) → (called_at n v asked (placed v node)).1.ended ≡ Some ids → Ends node.vbs (called_at n v asked (placed v node)).0.vbs v)
        → (Lines : List Event → Type 0) → ((closed : Bool) → ShutAgrees closed w n v → AppendCame Lines closed w n turn) → EntersBy what → GoesBy what (with_arm n w turn) → ((told : Chronicle) → IsRanged w → AreDialed told w.links → TellsOf told (Verb.AtVb n v what) (with_arm n w turn).1.events) → Row w (Verb.AtVb n v what) (with_arm n w turn)
    role_row what notes job ends Lines came entered goes tells = let y : Outcome = role_outcome n v asked w in let why : Option Cause = first_cause rows in let x : Told = (with_arm n w turn).1 in record {
      ranged = λ fits here. armed_ranged n w turn (unless_ranged w y why here (role_ranged w n v asked here));
      rests = λ r here h a all. weaker (with_arm n w turn).0 (armed_all Still IsTimely still_steps (λ id. tt) n w turn (unless_all Still IsTimely still_steps (λ id. tt) w y why all (role_still w n v asked here all)));
      fed = λ r here calm h a fine kept. (armed_fine n w turn (unless_fine w y why fine (role_fine w n v asked ends fine))).fed;
      keeps = λ rests. came_keeps Lines (shut_at w n v) w n turn.0 turn.1 (came (shut_at w n v) (λ vb e. refl));
      bound = λ r a rule. bound_at w r a n _ x rule (role_refused w n v asked rest);
      told = λ r fits t. noted_told what notes x r (armed_answered Lines (r.disk_at n v).closed w r n turn (t.arms n) (came (r.disk_at n v).closed (t.shut n v).0))
          (armed_fires Lines (shut_at w n v) w n turn.0 turn.1 (t.arms n).1 (refused_calm why w y (role_calm w n v asked job t.ranged)) (came (shut_at w n v) (λ vb e. refl)));
      entered = λ before r old. entered before r x.events x.answer old;
      tells = λ r t. tells r t.ranged (world_dialed w r t.agrees);
      goes = goes;
    }

  -- and an operator's call that keeps it
  admin_row : (what : VbVerb) (asked : AdminCall) → may_write (vb_kind what) ≡ false → admin_job n v asked ≡ lift (admin_at n v asked) → OpensNone v (admin_call asked) → EntersBy what → ((told : Chronicle) (node : PlainNode) → TellsOf told (Verb.AtVb n v what) (admin_line n v asked node).1.events)
      → ((r : Chronicle) → AllTold w r → Says (λ told. LawfulAnswer r (Verb.AtVb n v what) told.events told.answer) (Same w) (on_node w n (admin_line n v asked)))
      → ((r : Chronicle) → Agrees w r → Goes (Verb.AtVb n v what) r (on_node w n (admin_line n v asked))) → Row w (Verb.AtVb n v what) (on_node w n (admin_line n v asked))
  admin_row what asked calm job none entered tells says goes = alone_row w (Verb.AtVb n v what) n (admin_line n v asked)
      (λ r. (refl, λ told s. subst (λ b. FiresAsSaid (if b then Some n else None) told.events told.answer) (sym calm) s)) entered (λ fits node up r. admin_ranged n v asked node r) (λ node here. admin_still n v asked node)
      (λ node. less_keeps node (admin_line n v asked node).0 (subst (λ j. NoNew node.vbs (after_job j node.vbs node.shelves).0.0) (sym job) (step_new node.vbs v (admin_call asked) none)) (λ c. refl)) (λ node r. admin_spared n v asked job node) (λ told node r. tells told node) says (λ r fits ranged calm begins a. goes r a)

  -- each verb
  pub vb_row_of : (what : VbVerb) → Row w (Verb.AtVb n v what) (vb_verb_step w n v what)
  vb_row_of (VbVerb.MakeActive uuid) = make_row Role.Active uuid (λ node. vb_causes w.uuids node v uuid) (VbVerb.MakeActive uuid) refl (λ closed shut. vb_came closed w n v shut uuid)
      (λ before r lines said old. made_entered r n v Role.Active said old) (λ r fits ranged calm begins a. vb_goes starts stays w r n v fits.1 a uuid fits.2) (λ told ranged. made_tells told w n v Role.Active uuid (λ node. vb_causes w.uuids node v uuid))
  vb_row_of VbVerb.MakeReplica = make_row Role.Replica 0 (λ node. replica_causes node v) VbVerb.MakeReplica refl (λ closed shut. replica_came closed w n v shut)
      (λ before r lines said old. made_entered r n v Role.Replica said old) (λ r fits ranged calm begins a. replica_goes starts stays w r n v fits.1 a) (λ told ranged. made_tells told w n v Role.Replica 0 (λ node. replica_causes node v))
  vb_row_of (VbVerb.Chain others) = let c : VbCall = VbCall.Chain (record { active = n; others = others }) in alone_row w (Verb.AtVb n v (VbVerb.Chain others)) n (chain_line n v others)
      (λ r. (refl, λ told s. s)) (λ before r lines said old. old) (λ fits node up r. chain_ranged n v others node r) (chain_still n v others) (chain_keeps n v others)
      (λ node r. rows_fire (chain_causes n v others node) node (chain_made n v others node) (tt, (tt, (tt, tt))) (settled_fires n v c node r.own)) (λ told node r. chain_tells told w n v others node r.own)
      (λ r told. on_node_says IsOk w n (chain_line n v others) no_ok (λ node known. refused_says IsOk (λ k. k ≡ node) node (chain_made n v others node) (first_cause (chain_causes n v others node)) no_ok refl
      (settled_says n v c node (λ vb. also_resolved (quiet_reply VbAnswer.Done) (settled (record vb { others = others }))) (λ vb. refl) (λ vb. refl)))) (λ r fits ranged calm begins a. chain_line_goes stays steady w r n v others ranged calm.0 a)
  vb_row_of (VbVerb.Promote uuid) = role_row (AdminCall.Promote uuid) (role_causes Role.Active (vb_in (w.nodes n) v) ++ uuid_causes w.uuids uuid) (VbVerb.Promote uuid) refl refl (λ node. promote_ends n v uuid (placed v node).vbs (placed v node).shelves)
      (EndsWith (AndPosts AnyPosts (IsPromotion n v uuid))) (λ closed shut. promote_came AnyPosts tt closed w n v (λ node e rs x same. tt) shut uuid) (λ before r lines said old. noted_entered r n v Role.Active said old)
      (λ r fits ranged calm begins a. promote_line stays steady w r n v uuid fits.2 ranged calm.0 a) (λ told. promote_tells told w n v uuid (first_cause (promote_causes w n v uuid)))
  vb_row_of VbVerb.Follow = role_row AdminCall.Follow (role_causes Role.Replica (vb_in (w.nodes n) v)) VbVerb.Follow refl refl (λ node. follow_ends n v (placed v node).vbs (placed v node).shelves)
      (EndsWith (AndPosts AnyPosts (IsTurn n v Role.Replica))) (λ closed shut. follow_came AnyPosts tt closed w n v (λ node e rs x same. tt) shut) (λ before r lines said old. noted_entered r n v Role.Replica said old)
      (λ r fits ranged calm begins a. follow_line stays steady w r n v ranged calm.0 a) (λ told. follow_tells told w n v (first_cause (turn_causes w n v Role.Replica)))
  vb_row_of VbVerb.Dead = role_row AdminCall.Dead (role_causes Role.Dead (vb_in (w.nodes n) v)) VbVerb.Dead refl refl (λ node. dead_ends n v (placed v node).vbs (placed v node).shelves)
      (EndsWith (AndPosts AnyPosts (IsTurn n v Role.Dead))) (λ closed shut. dead_came AnyPosts tt closed w n v (λ node e rs x same. tt) shut) (λ before r lines said old. noted_entered r n v Role.Dead said old)
      (λ r fits ranged calm begins a. dead_line stays steady w r n v ranged calm.0 a) (λ told. dead_tells told w n v (first_cause (turn_causes w n v Role.Dead)))
  vb_row_of VbVerb.Tick = alone_row w (Verb.AtVb n v VbVerb.Tick) n (tick_line n v) (λ r. (refl, λ told s. s)) (λ before r lines said old. old) (λ fits node up r. tick_ranged n v node r) (tick_still n v) (tick_keeps n v)
      (λ node r. settled_fires n v (VbCall.Tick node.clock) node r.own) (λ told node r. tick_tells told w n v node r.own)
      (λ r told. on_node_says IsOk w n (tick_line n v) no_ok (λ node known. settled_says n v (VbCall.Tick node.clock) node (λ vb. then_settled (expired node.clock vb)) (λ vb. refl) (λ vb. refl)))
      (λ r fits ranged calm begins a. tick_line_goes stays steady w (record r { ticks = Some (n, v) }) n v refl ranged calm.0 (a.0, beside w r r.conn_at r.made (Some (n, v)) r.changed a.0 (λ one durable i. i) a.1))
  vb_row_of VbVerb.Seal = admin_row VbVerb.Seal AdminCall.Seal refl refl tt (λ before r lines said old. seal_entered r n v said old) (λ told. seal_tells told w n v)
      (λ r told. seal_told w r n v told) (λ r a. seal_goes stays w r n v a)
  vb_row_of VbVerb.Trim = answered_row (λ r told. Unit {0}) w (Verb.AtVb n v VbVerb.Trim) n (admin_line n v AdminCall.Trim) (λ r. (refl, λ told s. s)) (λ before r lines said old. old) (λ fits node up r. admin_ranged n v AdminCall.Trim node r) (λ node here. admin_still n v AdminCall.Trim node)
      (λ node. less_keeps node (admin_line n v AdminCall.Trim node).0 (step_new node.vbs v VbCall.Trim tt) (λ c. refl)) (λ node r. admin_spared n v AdminCall.Trim refl node) (λ told node r. trim_tells told w n v node)
      (λ r told. admin_says (λ x. Unit {0}) w n v AdminCall.Trim refl (λ why. tt) (λ vb has. (tt, λ why e s. cc))) (λ r t answered. trim_says w r n v t.agrees) (λ r fits ranged calm begins a. trim_goes stays w r n v a)
  vb_row_of VbVerb.Take = answered_row (λ r told. KeptIn w n → IsTaken n v told.events told.answer) w (Verb.AtVb n v VbVerb.Take) n (flush_line n v part.Take) (λ r. (refl, λ told s. s)) (λ before r lines said old. old) (λ fits node up r. flush_ranged n v part.Take node r)
      (flush_still n v part.Take) (flush_keeps n v part.Take) (λ node r. flush_spared n v part.Take (take_taken v) node r.own) (λ told node r. take_tells told w n v node) (λ r told. take_line_says w n v) (λ r t answered. answered (kept_in w n t.ranged)) (λ r fits ranged calm begins a. take_goes stays steady wholes w r n v ranged a)
  vb_row_of VbVerb.Save = let o : Outcome = on_node w n (save_line n v) in let x : Told = (with_arm n w o).1 in record {
    ranged = λ fits here. armed_ranged n w o (on_node_ranged w n (save_line n v) here (λ node up r. save_ranged n v node r));
    rests = λ r here h a all. weaker (with_arm n w o).0 (armed_all Still IsTimely still_steps (λ id. tt) n w o (node_still w here all n (save_line n v) (λ node at there. flush_still n v part.Save (placed v node) (kept_ranged n node (placed v node) refl (λ c. refl) refl at) there)));
    fed = λ r here calm h a fine kept. (armed_fine n w o (node_fine w n (save_line n v) fine (λ node. flush_keeps n v part.Save (placed v node)))).fed;
    keeps = λ rests. came_keeps NoLines (shut_at w n v) w n o.0 o.1 (save_line_came (shut_at w n v) w n v rests (λ vb e. refl));
    bound = λ r a rule. bound_armed w r a n (save_line n v) _ rule;
    told = λ r fits t. let came = save_line_came (r.disk_at n v).closed w n v t.rests (t.shut n v).0 in (
      (armed_answered NoLines (r.disk_at n v).closed w r n o (t.arms n) came, save_taken w r n v t.disks (r.disk_at n v).closed came),
      armed_fires NoLines (shut_at w n v) w n o.0 o.1 (t.arms n).1 (save_calm w n v t.ranged) (save_line_came (shut_at w n v) w n v t.rests (λ vb e. refl)),
    );
    tells = λ r t. save_tells r w n v (world_dialed w r t.agrees);
    entered = λ before r old. save_entered r n v x.answer old;
    goes = λ r fits ranged calm begins a. save_goes stays w r n v a;
  }
  vb_row_of VbVerb.Done = let o : Outcome = on_node w n (flush_line n v part.Done) in record {
    ranged = λ fits here. due_ranged n v o (on_node_ranged w n (flush_line n v part.Done) here (λ node up r. flush_ranged n v part.Done node r));
    rests = λ r here h a all. weaker (done_step w n v).0 (due_still n v o (node_still w here all n (flush_line n v part.Done) (flush_still n v part.Done)));
    fed = λ r here calm h a fine kept. (due_fine n v o (node_fine w n (flush_line n v part.Done) fine (flush_keeps n v part.Done))).fed;
    keeps = λ rests. (done_line_says w (opens_of w) n v (told_of_opens w)).1;
    bound = λ r a rule. bound_at w r a n _ (done_step w n v).1 rule (done_refused w n v);
    told = λ r fits t. ((done_line_says w r n v t.disks).0, due_fires n v o (node_spared w n (flush_line n v part.Done) t.ranged (λ node r. flush_spared n v part.Done (done_taken v) node r.own)));
    tells = λ r t. done_tells r w n v t.ranged;
    entered = λ before r old. old;
    goes = λ r fits ranged calm begins a. told_goes (Verb.AtVb n v VbVerb.Done) r (done_step w n v) (done_goes stays steady wholes w r n v ranged calm.0 a);
  }
  vb_row_of VbVerb.Stat = admin_row VbVerb.Stat AdminCall.Stat refl refl tt (λ before r lines said old. old) (λ told. stat_tells told w n v) (λ r told. admin_says IsOk w n v AdminCall.Stat refl no_ok (λ vb has. (tt, λ why e s. cc)))
      (λ r a. on_node_goes w r n (admin_line n v AdminCall.Stat) a (λ node e up. stat_goes w r n v node a e up))
  vb_row_of VbVerb.Log = admin_row VbVerb.Log AdminCall.Log refl refl tt (λ before r lines said old. old) (λ told. log_tells told w n v) (λ r told. admin_says IsOk w n v AdminCall.Log refl no_ok (λ vb has. (tt, λ why e s. cc)))
      (λ r a. on_node_goes w r n (admin_line n v AdminCall.Log) a (λ node e up. log_goes w r n v node a e))
  vb_row_of VbVerb.Show = admin_row VbVerb.Show AdminCall.Show refl refl tt (λ before r lines said old. old) (λ told. show_tells told w n v) (λ r told. admin_says IsOk w n v AdminCall.Show refl no_ok (λ vb has. (tt, λ why e s. cc)))
      (λ r a. on_node_goes w r n (admin_line n v AdminCall.Show) a (λ node e up. show_goes w r n v node a e))
