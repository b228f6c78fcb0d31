-- lines that append a record, each with what it has come to; and what is told of a node that starts
use Rattle.std.specs.Prelude.{◌++◌, ◌∷◌, ◌≡◌, ◌⊎◌, if◌then◌else◌, option_map}
use Rattle.transcript_law.proofs.Words.{ℕ, Bool, true, false, List, [], length, refl, ap, sym, ◌∙◌, subst, inl, inr, ⊎_elim, Option, Some, None, is_some, Answer, Cause, Event, Role, Told, Plain, plain_step, States, VbCall, VbReply, with_vb_at, Ended, after_job, after_job_bind, shelf_in, vb_in}
use Rattle.transcript_law.proofs.Words.{PlainNode, PlainWorld, AdminCall, admin_call, admin_replied, role_outcome, promote_causes, turn_causes, promote_step, turn_step, done, first_cause, on_node, refusal, refused_or, replica_at, vb_at, with_node_at, EndsWith, IsPromotion, IsTurn}
use Rattle.disk_journals.specs.{Arms.{arm_over, fuse_at, opens_all}, Books.{Book}}
use Rattle.node_core.specs.{Admin.{admin_job, noted_answer, role_at}, Flushing.{FlushResult, flush_at, flush_result}, Loading.{are_short, start_result, starts_of}}
use Rattle.node_world.specs.{Arms.{fired_by, fuse_or, lifted, placed}, Nodes.{all_posted, limit_causes, save_line, shelf_or_blank, uuid_causes, vb_made, with_disk, with_kept, with_posts, written as written_node}, Rests.{Rests, RestsIf}, Worlds.{arm_in, on_made}}
use Rattle.node_world.specs.Power.{burnt_arm, first_no, loaded_node, not_opened, opened_at, opening_told, start_at, start_call, start_causes, start_if, start_one, start_step, started_by, starts_from}
use Rattle.node_world.specs.declared.arm.Fired.{Fired}
use Rattle.node_world.specs.declared.arm.Fired.TheVariants as fired
use Rattle.transcript_law.proofs.disks.AppendAnswers.{AllStand, AndPosts, AppendCame, HasEnded, ShutAgrees, Turns, append_stands_not, fuse_here, fuse_in, not_asked, promotion_turns, refused_came, rest_turns, turn_came, unless_refused_came}
use Rattle.transcript_law.proofs.{disks.ArmedSteps.{NotedBy, shut_in, step_noted}, disks.Flushed.{flush_came, looked, refused_tells}, invariant.JobSteps.{same_shelf, shelf_found}, verbs.NodeLines.{on_made_by, on_node_by, put_same as put_states}}
use Rattle.transcript_law.proofs.lines.Refusals.{Anything, IsMade, Same, Says, lifted_same, node_same, refused_says, unchanged}
use Rattle.transcript_law.specs.Plainness.{IsStanding}
use Rattle.vb_calls.specs.Flushes.{appended_job, role_job, save_job, wrote_of}
use Rattle.vb_calls.specs.Shelves.{Append, Fate, Flush, Idle, Keep, Out, Shelf, Shelves, WasClosed, Written, ask_at, shelves_step}
use Rattle.vb_calls.specs.Shelves.{Stood as AllStood, DiskFailed as AppendFailed}
use Rattle.vb_calls.specs.State.{first_log}
use Rattle.vb_calls.specs.declared.calls.Resolved.{Resolved}
use Rattle.vb_calls.specs.declared.journals.Flushed.{Flushed}
use Rattle.vb_calls.specs.declared.journals.Wrote.{Wrote}
use Rattle.vb_calls.specs.declared.journals.Wrote.TheVariants.{Closed, DiskFailed, NotAsked, Stood}
use Rattle.vb_disk.specs.declared.fuse.Fuse.{Fuse}
use Rattle.vb_disk.specs.declared.fuse.Fuse.TheVariants.{Off}
use Rattle.vb_types.specs.declared.journal.FlushPart.TheVariants as part
use Rattle.vb_types.specs.declared.journal.Record.TheVariants as noted

-- a batch is appended

abbrev pub NoLines : List Event → Type 0
NoLines lines = Unit {0}

-- what is kept of the batch on its way leaves the arm over a disk
keep_fuse : (shelves : Shelves) (v : ℕ) (flush : Flush) → fuse_at (shelves_step shelves v (Keep flush)).0 v ≡ fuse_at shelves v
keep_fuse shelves v flush = by (shelves v) refl
  where
    by : (o : Option Shelf) → shelves v ≡ o → fuse_at (ask_at shelves v (Keep flush) o).0 v ≡ fuse_at shelves v
    by None e = refl
    by (Some shelf) e = ap (option_map (λ (s : Shelf). s.fuse)) (shelf_found shelves v (record shelf { flush = flush })) ∙ ap (option_map (λ (s : Shelf). s.fuse)) (sym e)

look_shelves : (shelves : Shelves) (v : ℕ) → (looked shelves v (shelves v)).0 ≡ shelves
look_shelves shelves v = by (shelves v) refl
  where
    by : (o : Option Shelf) → shelves v ≡ o → (looked shelves v o).0 ≡ shelves
    by None e = refl
    by (Some shelf) e = λ i q. same_shelf shelves v shelf e q i

-- what a save leaves of the arm f that is over the disk
abbrev SaveCame : Bool → Fuse → ℕ → States → Shelves → (States × Shelves) × Flushed → ℕ → Type 0
SaveCame closed f n states shelves y v = ((flush_result n v y.1).resolved ≡ []) × ((((why : Cause) × ((flush_result n v y.1).answer ≡ Answer.No why) × IsStanding why) × (y.0 ≡ (states, shelves)))
    ⊎ ((said : Wrote) × NotedBy closed f (fuse_or f (fuse_at y.0.1 v)) said × (said ≡ NotAsked → ⊥) × ((flush_result n v y.1).answer ≡ noted_answer said Answer.Ok)))

save_came : (f : Fuse) (n v : ℕ) (flush : Flush) (states : States) (shelves : Shelves) → (let armed = arm_over shelves v f in SaveCame (shut_in (shelves v)) f n states armed (after_job (save_job v flush) states armed) v)
save_came f n v Idle states shelves = (refl, inl ((Cause.NothingTaken, refl, tt), refl))
save_came f n v (Written seq) states shelves = (refl, inl ((Cause.NothingTaken, refl, tt), refl))
save_came f n v (Out batch) states shelves = let x = shelves_step (arm_over shelves v f) v (Append (noted.Rows batch)) in by x.1 x.0 (step_noted f shelves v (noted.Rows batch))
  where
    kept : (left : Shelves) (flush : Flush) (said : Wrote) → NotedBy (shut_in (shelves v)) f (fuse_or f (fuse_at left v)) said → NotedBy (shut_in (shelves v)) f (fuse_or f (fuse_at (shelves_step left v (Keep flush)).0 v)) said
    kept left flush said n = subst (λ o. NotedBy (shut_in (shelves v)) f (fuse_or f o) said) (sym (keep_fuse left v flush)) n

    by : (fate : Fate) (left : Shelves) → NotedBy (shut_in (shelves v)) f (fuse_or f (fuse_at left v)) (wrote_of fate) → SaveCame (shut_in (shelves v)) f n states (arm_over shelves v f) (after_job (appended_job v batch (Ended Flushed.Saved) fate) states left) v
    by AllStood left m = (refl, inr (Stood, kept left (Written batch.position.at) Stood m, λ e. cc, refl))
    by WasClosed left m = (refl, inr (Closed, kept left Idle Closed m, λ e. cc, refl))
    by AppendFailed left m = (refl, inr (DiskFailed, kept left Idle DiskFailed m, λ e. cc, refl))

-- where nothing was resolved, nothing is posted
posts_none : (told : FlushResult) (node : PlainNode) → told.resolved ≡ [] → with_posts told node ≡ (node, record { events = told.events ++ []; answer = told.answer })
posts_none told node none = ap (λ rs. let x = all_posted rs node in (x.0, record { events = told.events ++ x.1; answer = told.answer })) none

pub save_line_came : (closed : Bool) (w : PlainWorld) (n v : ℕ) → Rests w → ShutAgrees closed w n v → AppendCame NoLines closed w n (on_node w n (save_line n v))
save_line_came closed w n v rests shut = on_node_by (AppendCame NoLines closed w n) w n (save_line n v) (refused_came NoLines closed w n w Cause.UnknownNode tt (unchanged w))
    (λ node known. refused_came NoLines closed w n (with_node_at w n node) Cause.NodeDown tt (node_same w n node known)) (λ node known up. by node known (node.vbs v) refl)
  where
    node_came : PlainNode → (States × Shelves) × FlushResult → PlainWorld × Told
    node_came node y = let x = written_node (placed v node) y in (with_node_at w n (lifted v x.0), x.1)

    here : (node : PlainNode) → w.nodes n ≡ Some node → Same w (with_node_at w n (lifted v (placed v node)))
    here node known = subst (λ (k : PlainNode). Same w (with_node_at w n k)) (sym (lifted_same v node (subst (λ o. RestsIf (shelf_in o v)) known (rests n v)))) (node_same w n node known)

    came : (node : PlainNode) → w.nodes n ≡ Some node → (states : States) (y : (States × Shelves) × Flushed) → with_kept (placed v node) (states, arm_over node.shelves v node.arm.fuse) ≡ placed v node
        → SaveCame closed node.arm.fuse n states (arm_over node.shelves v node.arm.fuse) y v → AppendCame NoLines closed w n (node_came node (y.0, flush_result n v y.1))
    came node known states y same c =
        let node' : PlainNode = lifted v (with_kept (placed v node) y.0) in
        subst (λ (x : PlainNode × Told). AppendCame NoLines closed w n (with_node_at w n (lifted v x.0), x.1)) (sym (posts_none (flush_result n v y.1) (with_kept (placed v node) y.0) c.0))
        (⊎_elim (λ r. inl (r.0.0, r.0.1, r.0.2, subst (λ (k : PlainNode). Same w (with_node_at w n (lifted v k))) (sym (ap (with_kept (placed v node)) r.1 ∙ same)) (here node known), ap (λ ls. ls ++ []) (refused_tells n v y.1 r.0.0 r.0.1)))
        (λ m. inr (m.0, subst (λ g. NotedBy closed g (fuse_in (with_node_at w n node') n) m.0) (sym (ap (λ o. (arm_in o).fuse) known)) (subst (λ g. NotedBy closed node.arm.fuse g m.0) (sym (fuse_here w n node')) m.1), m.2, m.3, tt)) c.1)

    by : (node : PlainNode) → w.nodes n ≡ Some node → (o : Option Plain) → node.vbs v ≡ o → AppendCame NoLines closed w n (with_node_at w n (save_line n v node).0, (save_line n v node).1)
    by node known None e =
        let armed : Shelves = arm_over node.shelves v node.arm.fuse in
        subst (λ y. AppendCame NoLines closed w n (node_came node y)) (ap (λ (o : Option Plain). after_job (flush_at n v part.Save (is_some o)) node.vbs armed) (sym e))
        (refused_came NoLines closed w n (with_node_at w n (lifted v (placed v node))) Cause.UnknownVb tt (here node known))
    by node known (Some vb) e =
        let armed : Shelves = arm_over node.shelves v node.arm.fuse in let st : States = with_vb_at node.vbs v vb in
        let shelves : (looked armed v (armed v)).0 ≡ armed = look_shelves armed v in
        let same : st ≡ node.vbs = (λ i q. put_states node.vbs v vb e q i) in
        subst (λ y. AppendCame NoLines closed w n (node_came node y)) (sym (flush_came n v part.Save node.vbs armed vb (armed v) e refl))
        (subst (λ s. AppendCame NoLines closed w n (node_came node (let y = after_job (save_job v (looked armed v (armed v)).1) st s in (y.0, flush_result n v y.1)))) (sym shelves)
        (came node known st (after_job (save_job v (looked armed v (armed v)).1) st armed) (ap (λ s. with_kept (placed v node) (s, armed)) same)
        (subst (λ b. SaveCame b node.arm.fuse n st armed (after_job (save_job v (looked armed v (armed v)).1) st armed) v) (sym (ap (λ o. shut_in (shelf_in o v)) known) ∙ shut vb (ap (λ o. vb_in o v) known ∙ e))
        (save_came node.arm.fuse n v (looked armed v (armed v)).1 st node.shelves))))

-- ---- a vBucket is made

-- the journal that it gets is closed
abbrev pub NewShutIs : Bool → PlainWorld → ℕ → ℕ → Type 0
NewShutIs closed w n v = vb_in (w.nodes n) v ≡ None → (shelf_or_blank (shelf_in (w.nodes n) v)).is_closed ≡ closed

module _ (closed : Bool) (w : PlainWorld) (n v : ℕ) (shut : NewShutIs closed w n v) where
  vb_made_came : (new : Role) (uuid : ℕ) (node : PlainNode) → w.nodes n ≡ Some node → node.vbs v ≡ None → AppendCame NoLines closed w n (with_node_at w n (vb_made n v new uuid node).0, (vb_made n v new uuid node).1)
  vb_made_came new uuid node known none =
      let r = noted.State new (first_log new uuid) in let shelves : Shelves = (with_disk node v).shelves in let x = shelves_step (arm_over shelves v node.arm.fuse) v (Append r) in
      let node' : PlainNode = (vb_made n v new uuid node).0 in
      let is : shut_in (shelves v) ≡ closed = ap shut_in (shelf_found node.shelves v (shelf_or_blank (node.shelves v))) ∙ sym (ap (λ o. (shelf_or_blank (shelf_in o v)).is_closed) known) ∙ shut (ap (λ o. vb_in o v) known ∙ none) in
      inr (
        wrote_of x.1,
        subst (λ b. NotedBy b (fuse_in w n) (fuse_in (with_node_at w n node') n) (wrote_of x.1)) is
            (subst (λ g. NotedBy (shut_in (shelves v)) g (fuse_in (with_node_at w n node') n) (wrote_of x.1)) (sym (ap (λ o. (arm_in o).fuse) known)) (subst (λ g. NotedBy (shut_in (shelves v)) node.arm.fuse g (wrote_of x.1)) (sym (fuse_here w n node')) (step_noted node.arm.fuse shelves v r))),
        not_asked x.1,
        refl,
        tt,
      )

  made_came : (rows : PlainNode → List (Bool × Cause)) (new : Role) (uuid : ℕ) → ((node : PlainNode) → AllStand (rows node))
      → AppendCame NoLines closed w n (on_node w n (λ node. refused_or (first_cause ((is_some (node.vbs v), Cause.VbExists) ∷ rows node)) node (vb_made n v new uuid node)))
  made_came rows new uuid stand = on_node_by (AppendCame NoLines closed w n) w n (λ node. refused_or (first_cause ((is_some (node.vbs v), Cause.VbExists) ∷ rows node)) node (vb_made n v new uuid node))
      (refused_came NoLines closed w n w Cause.UnknownNode tt (unchanged w)) (λ node known. refused_came NoLines closed w n (with_node_at w n node) Cause.NodeDown tt (node_same w n node known)) (λ node known up. by node known (node.vbs v) refl)
    where
      Out : PlainNode × Told → Type 0
      Out x = AppendCame NoLines closed w n (with_node_at w n x.0, x.1)

      by : (node : PlainNode) → w.nodes n ≡ Some node → (o : Option Plain) → node.vbs v ≡ o → Out (refused_or (first_cause ((is_some o, Cause.VbExists) ∷ rows node)) node (vb_made n v new uuid node))
      by node known (Some vb) e = refused_came NoLines closed w n (with_node_at w n node) Cause.VbExists tt (node_same w n node known)
      by node known None e = unless_refused_came Out (rows node) node (vb_made n v new uuid node) (stand node)
          (λ why s. refused_came NoLines closed w n (with_node_at w n node) why s (node_same w n node known)) (vb_made_came new uuid node known e)

  pub vb_came : (uuid : ℕ) → AppendCame NoLines closed w n (on_node w n (vb_at w.uuids n v uuid))
  vb_came uuid = made_came (λ node. limit_causes node ++ uuid_causes w.uuids uuid) Role.Active uuid (λ node. (tt, (tt, (tt, tt))))

  pub replica_came : AppendCame NoLines closed w n (on_node w n (replica_at n v))
  replica_came = made_came limit_causes Role.Replica 0 (λ node. (tt, tt))

-- ---- a change of role

-- whatever is posted
abbrev pub AnyPosts : List Event → Type 0
AnyPosts lines = Unit {0}

module _ (Posts : List Event → Type 0) (none : Posts []) (closed : Bool) (w : PlainWorld) (n v : ℕ)
    (posts : (node : PlainNode) → w.nodes n ≡ Some node → (rs : List Resolved) (x : PlainNode) → HasEnded v node x → Posts (all_posted rs x).1) (shut : ShutAgrees closed w n v) where
  abbrev Ends : (List Event → Type 0) → List Event → Type 0
  Ends Tail lines = EndsWith (AndPosts Posts Tail) lines

  turns_came : (Tail : List Event → Type 0) (asked : AdminCall) (rows : List (Bool × Cause)) → AllStand rows → admin_job n v asked ≡ role_at n v asked
      → ((vb : Plain) → Turns Tail (plain_step vb (admin_call asked)).1 (admin_replied n v asked (plain_step vb (admin_call asked)).1)) → AppendCame (Ends Tail) closed w n (refused_or (first_cause rows) w (role_outcome n v asked w))
  turns_came Tail asked rows stand job says =
      unless_refused_came (AppendCame (Ends Tail) closed w n) rows w (role_outcome n v asked w) stand (λ why s. refused_came (Ends Tail) closed w n w why s (unchanged w)) (turn_came Tail closed n v asked job says Posts none w posts shut)

  pub promote_came : (uuid : ℕ) → AppendCame (Ends (IsPromotion n v uuid)) closed w n (promote_step w n v uuid)
  promote_came uuid = turns_came (IsPromotion n v uuid) (AdminCall.Promote uuid) (promote_causes w n v uuid) (tt, (tt, (tt, (tt, (tt, (tt, tt)))))) refl (promotion_turns n v uuid)

  pub follow_came : AppendCame (Ends (IsTurn n v Role.Replica)) closed w n (turn_step w n v Role.Replica AdminCall.Follow)
  follow_came = turns_came (IsTurn n v Role.Replica) AdminCall.Follow (turn_causes w n v Role.Replica) (tt, (tt, (tt, (tt, tt)))) refl (rest_turns n v Role.Replica)

  pub dead_came : AppendCame (Ends (IsTurn n v Role.Dead)) closed w n (turn_step w n v Role.Dead AdminCall.Dead)
  dead_came = turns_came (IsTurn n v Role.Dead) AdminCall.Dead (turn_causes w n v Role.Dead) (tt, (tt, (tt, (tt, tt)))) refl (rest_turns n v Role.Dead)

-- ---- a node that starts

told_made : (n v : ℕ) (made : Option VbReply × Wrote) → IsMade (start_result n v made).answer
told_made n v (reply, said) = append_stands_not said

start_made : (n v uuid : ℕ) (node : PlainNode) → IsMade (start_call n v uuid node).1.answer
start_made n v uuid node = subst (λ (y : (States × Shelves) × FlushResult). IsMade y.1.answer) (sym (after_job_bind (role_job v (VbCall.Promote uuid)) (λ made. Ended (start_result n v made)) node.vbs node.shelves))
    (told_made n v (after_job (role_job v (VbCall.Promote uuid)) node.vbs node.shelves).1)

-- one more that starts, and those behind it
met : (n v uuid : ℕ) (node : PlainNode) (told : Told) → IsMade told.answer → (x : Fired) (rest : PlainNode × Told → PlainNode × Told)
    → ((node' : PlainNode) (events : List Event) (said : Answer) → IsMade said → IsMade (rest (node', record { events = events; answer = said })).1.answer)
    → (let one = start_one n (v, uuid) node in IsMade (started_by n node.arm x one.1 told one.0 rest).1.answer)
met n v uuid node told m x rest made = by x
  where
    first_made : (before next : Answer) → IsMade before → IsMade next → IsMade (first_no before next)
    first_made Answer.Ok next a b = b
    first_made (Answer.Number k) next a b = a
    first_made (Answer.Pulled k why) next a b = a
    first_made (Answer.No why) next a b = a

    said : IsMade (first_no told.answer (start_one n (v, uuid) node).1.answer)
    said = first_made told.answer (start_one n (v, uuid) node).1.answer m (start_made n v uuid (placed v node))

    by : (x : Fired) → (let one = start_one n (v, uuid) node in IsMade (started_by n node.arm x one.1 told one.0 rest).1.answer)
    by fired.No = made _ _ _ said
    by fired.Failed = made _ _ _ said
    by fired.Stopped = λ why e s. let same : Cause.Stopped ≡ why = cc in subst IsStanding (sym same) s

-- its vBuckets' answers are of appends
starts_made : (n : ℕ) (starts : List (ℕ × ℕ)) (node : PlainNode) (told : Told) → IsMade told.answer → IsMade (starts_from n starts (node, told)).1.answer
starts_made n [] node told m = m
starts_made n (start ∷ starts) node told m = met n start.0 start.1 node told m (fired_by node.arm.fuse (start_one n start node).0.arm.fuse) (starts_from n starts)
    (λ node' events said made. starts_made n starts node' (record { events = events; answer = said }) made)

pub start_says : (w : PlainWorld) (n : ℕ) (uuids : List ℕ) → Says Anything (Same w) (start_step w n uuids)
start_says w n uuids = refused_says Anything (Same w) w (on_made w n (start_at n uuids)) (first_cause (start_causes w n uuids)) (λ why. tt) (unchanged w)
    (on_made_by (Says Anything (Same w)) w n (start_at n uuids) (tt, λ why e s. (unchanged w, refl)) (λ node known. by node known node.off))
  where
    Out : PlainNode × Told → Type 0
    Out x = Says Anything (Same w) (with_node_at w n x.0, x.1)

    opening : (node : PlainNode) (x : Fired) → IsMade (opening_told n x).answer
    opening node fired.No = λ why e s. let same : Cause.Disk ≡ why = cc in subst IsStanding (sym same) s
    opening node fired.Failed = λ why e s. let same : Cause.Disk ≡ why = cc in subst IsStanding (sym same) s
    opening node fired.Stopped = λ why e s. let same : Cause.Stopped ≡ why = cc in subst IsStanding (sym same) s

    by : (node : PlainNode) → w.nodes n ≡ Some node → (o : Option (List Book)) → Out (start_if n uuids node o)
    by node known None = (tt, λ why e s. (node_same w n node known, refl))
    by node known (Some books) = elim (opens_all node.arm.fuse (length books)) as (λ b. Out (if b then opened_at n uuids books node else not_opened n node)) [
      | false ↦ (tt, λ why e s. absurd (opening node (fired_by node.arm.fuse Off) why e s))
      | true ↦ elim (are_short books uuids) as (λ b. Out (if b then (record node { arm = burnt_arm (length books) node.arm }, refusal Cause.IdsShort) else starts_from n (starts_of books uuids) (loaded_node n books (burnt_arm (length books) node.arm), done []))) [
        | true ↦ (tt, λ why e s. let same : Cause.IdsShort ≡ why = cc in absurd (subst IsStanding (sym same) s))
        | false ↦ (tt, λ why e s. absurd (starts_made n (starts_of books uuids) (loaded_node n books (burnt_arm (length books) node.arm)) (done []) (λ c f t. cc) why e s))
      ]
    ]
