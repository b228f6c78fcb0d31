-- lines that append a record: refused before that for a standing cause, or answered by what became of it, and by their node's arm
use Rattle.std.specs.Prelude.{◌≡◌, ◌⊎◌, ◌==◌, ◌∷◌, ◌++◌, if◌then◌else◌, List, []}
use Rattle.transcript_law.proofs.Words.{ℕ, Bool, true, false, refl, ap, sym, ◌∙◌, subst, inl, inr, ⊎_elim, eq-eqb, eqb-true, append-nil, append_assoc, Option, Some, None, is_some, Answer, Cause, Event, Status, Role, Plain, States, VbCall, VbReply, VbAnswer, plain_step, call_at, with_vb_at, after_job, after_job_bind, Ended, PlainLink, PlainNode, PlainWorld, Told, AdminCall, AdminResult, admin_call, admin_replied, called, called_at, no_node, shelf_in, vb_in}
use Rattle.transcript_law.proofs.Words.{cut_off, own_link, unlinked, producer_node, node_if, with_ended, with_node_at, turned_after, turned_if, role_outcome, node_outcome, promote_refusal, promoted, turn_row, is_role, refusal_reply, in_role, ending_reply, role_result, refused_or, first_cause, refusal, EndsWith, IsPromotion, IsTurn, IsCarriedOut, fork_of, led, newest_branch, parent_of, stream_ids}
use Rattle.disk_journals.specs.Arms.{arm_over, armed_at, fuse_at, under}
use Rattle.node_core.specs.Admin.{admin_job, admin_refused, noted_answer, promote_cause, role_at, role_noted}
use Rattle.node_world.specs.Arms.{fired_by, fuse_or, lifted, placed, under_arm}
use Rattle.node_world.specs.Cuts.{closed_at}
use Rattle.node_world.specs.Power.{after_fire, with_arm}
use Rattle.node_core.specs.Clients.{client_ended}
use Rattle.node_world.specs.Nodes.{all_posted, with_clients_ended}
use Rattle.std.specs.Option.{option_map}
use Rattle.node_world.specs.Turns.{posted_at, posted_in, role_called}
use Rattle.node_world.specs.World.{Outcome as Came}
use Rattle.node_world.specs.Worlds.{arm_in}
use Rattle.node_world.specs.declared.arm.Fired.{Fired}
use Rattle.node_world.specs.declared.arm.Fired.TheVariants as fired
use Rattle.transcript_law.proofs.{invariant.Agreement.{IsArm}, disks.ArmedSteps.{NotedBy, answer_fired, fires_failing, noted_ok, noted_refused, shut_in, step_noted}, disks.Burning.{quiet_same}, invariant.JobSteps.{shelf_found}, links.Posting.{posts_keep}, lines.Refusals.{Same, unchanged, with_arm_keeps}}
use Rattle.transcript_law.proofs.{invariant.Settled.{settled_commits, settled_on}, verbs.Settling.{settled_told}}
use Rattle.transcript_law.specs.{LineAnswers.{IsNoted}, Plainness.{IsStanding}}
use Rattle.vb_calls.specs.Settling.{settled}
use Rattle.vb_calls.specs.Flushes.{is_refusal, log_of_reply, note_role_job, role_of_call, role_job, role_told_job, wrote_of}
use Rattle.vb_calls.specs.Jobs.{Call as Asks}
use Rattle.vb_calls.specs.Shelves.{Append, DiskFailed, Fate, Shelf, Shelves, Stood, WasClosed, shelves_step}
use Rattle.vb_calls.specs.declared.calls.Resolved.{Resolved}
use Rattle.vb_calls.specs.declared.journals.Wrote.{Wrote}
use Rattle.vb_calls.specs.declared.journals.Wrote.TheVariants as wrote
use Rattle.vb_disk.specs.declared.fuse.Fuse.{Fuse}
use Rattle.vb_disk.specs.declared.made.Outcome.{Outcome}
use Rattle.vb_types.specs.declared.journal.Record.{Record}
use Rattle.vb_types.specs.declared.journal.Record.TheVariants as noted

-- the fuse of a node's arm
abbrev pub fuse_in : PlainWorld → ℕ → Fuse
fuse_in w n = (arm_in (w.nodes n)).fuse

-- an append of a vBucket finds its journal closed
abbrev pub ShutAgrees : Bool → PlainWorld → ℕ → ℕ → Type 0
ShutAgrees closed w n v = (vb : Plain) → vb_in (w.nodes n) v ≡ Some vb → shut_in (shelf_in (w.nodes n) v) ≡ closed

-- what a line at the node n has come to that may append to a journal, which is closed or not, before it is asked whether its arm fired: it was refused for a standing cause, told of nothing, and all is as it was; or a record was to be appended, and its lines are these
abbrev pub AppendCame : (List Event → Type 0) → Bool → PlainWorld → ℕ → Came → Type 0
AppendCame Lines closed w n o = ((why : Cause) × (o.1.answer ≡ Answer.No why) × IsStanding why × Same w o.0 × (o.1.events ≡ []))
    ⊎ ((said : Wrote) × NotedBy closed (fuse_in w n) (fuse_in o.0 n) said × (said ≡ wrote.NotAsked → ⊥) × (o.1.answer ≡ noted_answer said Answer.Ok) × Lines o.1.events)

-- ---- what follows

pub fuse_same : {w w' : PlainWorld} (n : ℕ) → Same w w' → fuse_in w' n ≡ fuse_in w n
fuse_same n same = ap (λ o. (arm_in o).fuse) (same.0 n)

answer_after_fire : (x : Fired) (n : ℕ) (out : Outcome) (w : PlainWorld) (told : Told) → (after_fire n out x (w, told)).1.answer ≡ answer_fired x told.answer
answer_after_fire fired.No n out w told = refl
answer_after_fire fired.Failed n out w told = refl
answer_after_fire fired.Stopped n out w told = refl

-- it is answered as the arm says
pub came_noted : (Lines : List Event → Type 0) (closed : Bool) (w : PlainWorld) (n : ℕ) (w' : PlainWorld) (told : Told) → IsArm (fuse_in w n) → AppendCame Lines closed w n (w', told) → IsNoted closed (fuse_in w n) (with_arm n w (w', told)).1.answer
came_noted Lines closed w n w' told arm came =
    subst (IsNoted closed (fuse_in w n)) (sym (answer_after_fire (fired_by (fuse_in w n) (fuse_in w' n)) n (arm_in (w.nodes n)).out w' told))
    (⊎_elim (λ r. subst (λ a. IsNoted closed (fuse_in w n) (answer_fired (fired_by (fuse_in w n) (fuse_in w' n)) a)) (sym r.1) (noted_refused closed (fuse_in w n) (fuse_in w' n) r.0 (fuse_same n r.3) r.2))
    (λ m. subst (λ a. IsNoted closed (fuse_in w n) (answer_fired (fired_by (fuse_in w n) (fuse_in w' n)) a)) (sym m.3) (noted_ok closed (fuse_in w n) (fuse_in w' n) m.0 arm m.1 m.2)) came)

-- no answer of an append is a standing refusal
pub append_stands_not : (said : Wrote) (why : Cause) → noted_answer said Answer.Ok ≡ Answer.No why → IsStanding why → ⊥
append_stands_not wrote.Stood why e s = cc
append_stands_not wrote.NotAsked why e s = cc
append_stands_not wrote.Closed why e s = let same : Cause.Closed ≡ why = cc in subst IsStanding (sym same) s
append_stands_not wrote.DiskFailed why e s = let same : Cause.Disk ≡ why = cc in subst IsStanding (sym same) s

-- where it is refused for a standing cause, all is as it was, and it tells of nothing
pub came_keeps : (Lines : List Event → Type 0) (closed : Bool) (w : PlainWorld) (n : ℕ) (w' : PlainWorld) (told : Told) → AppendCame Lines closed w n (w', told)
    → (why : Cause) → (with_arm n w (w', told)).1.answer ≡ Answer.No why → IsStanding why → Same w (with_arm n w (w', told)).0 × ((with_arm n w (w', told)).1.events ≡ [])
came_keeps Lines closed w n w' told came = with_arm_keeps w n w' told (λ why e s. ⊎_elim (λ r. (r.3, r.4)) (λ m. absurd (append_stands_not m.0 why (sym m.3 ∙ e) s)) came)

-- where a line is answered `ok`, its own lines end so
abbrev pub Tells : (List Event → Type 0) → Told → Type 0
Tells Tail told = IsCarriedOut told.answer × (told.answer ≡ Answer.Ok → EndsWith Tail told.events)

carried_out : (said : Wrote) → IsCarriedOut (noted_answer said Answer.Ok)
carried_out wrote.Stood = tt
carried_out wrote.NotAsked = tt
carried_out wrote.Closed = tt
carried_out wrote.DiskFailed = tt

pub came_tells : (Tail : List Event → Type 0) (closed : Bool) (w : PlainWorld) (n : ℕ) (w' : PlainWorld) (told : Told) → AppendCame (EndsWith Tail) closed w n (w', told) → Tells Tail (with_arm n w (w', told)).1
came_tells Tail closed w n w' told came = by (fired_by (fuse_in w n) (fuse_in w' n)) refl
  where
    out : Outcome
    out = (arm_in (w.nodes n)).out

    quiet : Tells Tail told
    quiet = ⊎_elim (λ r. (subst IsCarriedOut (sym r.1) tt, λ ok. let z : Answer.No r.0 ≡ Answer.Ok = sym r.1 ∙ ok in cc)) (λ m. (subst IsCarriedOut (sym m.3) (carried_out m.0), λ ok. m.4)) came

    failed : (said : Wrote) → (x : Fired) → (x ≡ fired.No → ⊥) → (x ≡ fired.No) ⊎ (said ≡ wrote.DiskFailed) → told.answer ≡ noted_answer said Answer.Ok → told.answer ≡ Answer.No Cause.Disk
    failed said x ne f e = e ∙ ⊎_elim (λ z. absurd (ne z)) (λ s. ap (λ y. noted_answer y Answer.Ok) s) f

    by : (x : Fired) → fired_by (fuse_in w n) (fuse_in w' n) ≡ x → Tells Tail (after_fire n out x (w', told)).1
    by fired.No e = quiet
    by fired.Stopped e = (tt, λ ok. cc)
    by fired.Failed e =
        let disk : told.answer ≡ Answer.No Cause.Disk = ⊎_elim (λ r. let z : fired.No ≡ fired.Failed = sym (ap (fired_by (fuse_in w n)) (fuse_same n r.3) ∙ quiet_same (fuse_in w n)) ∙ e in cc)
        (λ m. failed m.0 (fired_by (fuse_in w n) (fuse_in w' n)) (λ z. let y : fired.No ≡ fired.Failed = sym z ∙ e in cc) (fires_failing closed (fuse_in w n) (fuse_in w' n) m.0 m.1) m.3) came in
        (subst IsCarriedOut (sym disk) tt, λ ok. let z : Answer.No Cause.Disk ≡ Answer.Ok = sym disk ∙ ok in cc)

-- ---- a node's line

pub not_asked : (fate : Fate) → wrote_of fate ≡ wrote.NotAsked → ⊥
not_asked Stood e = cc
not_asked WasClosed e = cc
not_asked DiskFailed e = cc

pub fuse_here : (w : PlainWorld) (n : ℕ) (node : PlainNode) → fuse_in (with_node_at w n node) n ≡ node.arm.fuse
fuse_here w n node = ap (λ b. (arm_in (if b then Some node else w.nodes n)).fuse) (eq-eqb n n refl)

-- refused as it is
pub refused_came : (Lines : List Event → Type 0) (closed : Bool) (w : PlainWorld) (n : ℕ) (w' : PlainWorld) (why : Cause) → IsStanding why → Same w w' → AppendCame Lines closed w n (w', refusal why)
refused_came Lines closed w n w' why s same = inl (why, refl, s, same, refl)

-- a table of standing causes
abbrev pub AllStand : List (Bool × Cause) → Type 0
AllStand [] = Unit {0}
AllStand (row ∷ rows) = IsStanding row.1 × AllStand rows

abbrev StandsIf : Option Cause → Type 0
StandsIf None = Unit {0}
StandsIf (Some why) = IsStanding why

first_stands : (rows : List (Bool × Cause)) → AllStand rows → StandsIf (first_cause rows)
first_stands [] s = tt
first_stands (row ∷ rows) s = elim row.0 as (λ b. StandsIf (if b then Some row.1 else first_cause rows)) [ true ↦ s.0 | false ↦ first_stands rows s.1 ]

-- a line that is refused by such a table, or has come to something
pub unless_refused_came : {A : Type 0} (P : A × Told → Type 0) (rows : List (Bool × Cause)) (before : A) (x : A × Told) → AllStand rows → ((why : Cause) → IsStanding why → P (before, refusal why)) → P x → P (refused_or (first_cause rows) before x)
unless_refused_came P rows before x s refused made = by (first_cause rows) (first_stands rows s)
  where
    by : (o : Option Cause) → StandsIf o → P (refused_or o before x)
    by None i = made
    by (Some why) i = refused why i

-- ---- a change of role

-- what is left of an arm that was put over a disk and met no append
placed_left : (f : Fuse) (shelves : Shelves) (v : ℕ) → fuse_or f (fuse_at (arm_over shelves v f) v) ≡ f
placed_left f shelves v = by (shelves v) refl
  where
    by : (o : Option Shelf) → shelves v ≡ o → fuse_or f (fuse_at (armed_at shelves v f o) v) ≡ f
    by None e = ap (λ (o : Option Shelf). fuse_or f (fuse_at (λ q. o) v)) e
    by (Some shelf) e = ap (λ (o : Option Shelf). fuse_or f (fuse_at (λ q. o) v)) (shelf_found shelves v (under f shelf))

-- lines of a kind, and behind them others of another kind
abbrev pub AndPosts : (List Event → Type 0) → (List Event → Type 0) → List Event → Type 0
AndPosts Posts Own lines = (own posts : List Event) × (lines ≡ own ++ posts) × Own own × Posts posts

-- a call for another role was refused for a standing cause, ended no stream and told of nothing, or it has these lines
abbrev pub Turns : (List Event → Type 0) → VbReply → AdminResult → Type 0
Turns Tail reply told = ((is_refusal reply.answer ≡ true) × ((why : Cause) × (told.answer ≡ Answer.No why) × IsStanding why) × (told.ended ≡ None) × (told.events ≡ []))
    ⊎ ((is_refusal reply.answer ≡ false) × (told.answer ≡ Answer.Ok) × Tail told.events × ((ids : List ℕ) × (told.ended ≡ Some ids)))

promote_standing : (st : Status) → IsStanding (promote_cause st)
promote_standing Status.Einval = tt
promote_standing other = tt

pub promotion_turns : (n v uuid : ℕ) (vb : Plain) → (let reply = (plain_step vb (VbCall.Promote uuid)).1 in Turns (IsPromotion n v uuid) reply (admin_replied n v (AdminCall.Promote uuid) reply))
promotion_turns n v uuid vb = by (promote_refusal vb uuid)
  where
    by : (o : Option Status) → (let reply = (promoted o vb uuid).1 in Turns (IsPromotion n v uuid) reply (admin_replied n v (AdminCall.Promote uuid) reply))
    by (Some st) = inl (refl, (promote_cause st, refl, promote_standing st), refl, refl)
    by None =
        let now : Plain = led vb uuid in let parent = parent_of vb.log in let fork = fork_of vb.position in let high = vb.position.at in
        let reply : VbReply = ending_reply vb (VbAnswer.Branch uuid parent fork high) in
        let told = settled_told n v reply now uuid (settled now).changes refl refl (ap newest_branch (settled_on now).log) in
        inr (refl, refl, (parent, fork, high, (settled now).changes, settled_commits now, ap (λ ls. Event.Branch n v uuid parent fork high ∷ Event.Role n v Role.Active ∷ ls) told), (stream_ids vb.streams, refl))

pub rest_turns : (n v : ℕ) (new : Role) (vb : Plain) → (let reply = (turn_row vb new).1 in Turns (IsTurn n v new) reply (role_result n v new reply reply.answer))
rest_turns n v new vb = elim (is_role vb.role new)
    as (λ b. let x : Plain × VbReply = if b then (vb, refusal_reply Status.NotMyVbucket) else (in_role vb new, ending_reply vb VbAnswer.Done) in Turns (IsTurn n v new) x.1 (role_result n v new x.1 x.1.answer))
    [ true ↦ inl (refl, (Cause.WrongRole, refl, tt), refl, refl) | false ↦ inr (refl, refl, refl, (_, refl)) ]

-- what it leaves of the arm f, and what it tells
abbrev RoleCame : (List Event → Type 0) → Bool → Fuse → (States × Shelves) × AdminResult → ℕ → Type 0
RoleCame Tail closed f x v = (((why : Cause) × (x.1.answer ≡ Answer.No why) × IsStanding why) × (x.1.ended ≡ None) × (x.1.events ≡ []))
    ⊎ ((said : Wrote) × NotedBy closed f (fuse_or f (fuse_at x.0.1 v)) said × (said ≡ wrote.NotAsked → ⊥) × (x.1.answer ≡ noted_answer said Answer.Ok) × Tail x.1.events × ((ids : List ℕ) × (x.1.ended ≡ Some ids)))

-- a node with these clients, of which a change of role may have ended streams of the vBucket v
abbrev pub HasEnded : ℕ → PlainNode → PlainNode → Type 0
HasEnded v node x = (ids : List ℕ) × ((c : ℕ) → x.clients c ≡ option_map (client_ended v ids) (node.clients c))

module _ (Tail : List Event → Type 0) (closed : Bool) (n v : ℕ) (asked : AdminCall) (job : admin_job n v asked ≡ role_at n v asked) (says : (vb : Plain) → Turns Tail (plain_step vb (admin_call asked)).1 (admin_replied n v asked (plain_step vb (admin_call asked)).1)) where
  -- its role is written down, or could not be
  appended : (f : Fuse) (shelves : Shelves) (reply : VbReply) (states : States) (r : Record) → shut_in (shelves v) ≡ closed → (let told = admin_replied n v asked reply in (told.answer ≡ Answer.Ok) → Tail told.events → ((ids : List ℕ) × (told.ended ≡ Some ids))
      → (let step = shelves_step (arm_over shelves v f) v (Append r) in RoleCame Tail closed f ((states, step.0), role_noted n v asked (Some reply, wrote_of step.1)) v))
  appended f shelves reply states r is ok tail ended =
      let step = shelves_step (arm_over shelves v f) v (Append r) in
      inr (wrote_of step.1, subst (λ b. NotedBy b f (fuse_or f (fuse_at step.0 v)) (wrote_of step.1)) is (step_noted f shelves v r), not_asked step.1, ap (noted_answer (wrote_of step.1)) ok, tail, ended)

  role_came : (f : Fuse) (states : States) (shelves : Shelves) → ((vb : Plain) → states v ≡ Some vb → shut_in (shelves v) ≡ closed) → RoleCame Tail closed f (after_job (admin_job n v asked) states (arm_over shelves v f)) v
  unfolding role_job
  role_came f states shelves shut =
      subst (λ j. RoleCame Tail closed f (after_job j states armed) v) (sym job)
      (subst (λ x. RoleCame Tail closed f x v) (sym (after_job_bind (role_job v (admin_call asked)) (λ made. Ended (role_noted n v asked made)) states armed)) (by (states v) refl))
    where
      armed : Shelves
      armed = arm_over shelves v f

      Noted : (States × Shelves) × (Option VbReply × Wrote) → Type 0
      Noted y = RoleCame Tail closed f (y.0, role_noted n v asked y.1) v

      made : (reply : VbReply) (st : States) → shut_in (shelves v) ≡ closed → (b : Bool) → is_refusal reply.answer ≡ b → Turns Tail reply (admin_replied n v asked reply)
          → Noted (after_job (if b then Ended (Some reply, wrote.NotAsked) else Asks v VbCall.Log (note_role_job v (role_of_call (admin_call asked)) reply)) st armed)
      made reply st is true e t = ⊎_elim (λ x. inl (x.1, x.2, x.3)) (λ x. let z : true ≡ false = sym e ∙ x.0 in cc) t
      made reply st is false e t = ⊎_elim (λ x. let z : true ≡ false = sym x.0 ∙ e in cc)
          (λ x. let y = call_at st v VbCall.Log (st v) in appended f shelves reply y.0 (noted.State (role_of_call (admin_call asked)) (log_of_reply y.1)) is x.1 x.2 x.3) t

      by : (o : Option Plain) → states v ≡ o → Noted (let y = call_at states v (admin_call asked) (states v) in after_job (role_told_job v (admin_call asked) y.1) y.0 armed)
      by None e = subst (λ o. Noted (let y = call_at states v (admin_call asked) o in after_job (role_told_job v (admin_call asked) y.1) y.0 armed)) (sym e) (inl ((Cause.UnknownVb, refl, tt), refl, refl))
      by (Some vb) e = subst (λ o. Noted (let y = call_at states v (admin_call asked) o in after_job (role_told_job v (admin_call asked) y.1) y.0 armed)) (sym e)
          (let x = plain_step vb (admin_call asked) in made x.1 (with_vb_at states v x.0) (shut vb e) (is_refusal x.1.answer) refl (says vb))

  -- a link that ends leaves the arms of nodes
  unlinked_fuse : (link : PlainLink) (w : PlainWorld) → fuse_in (unlinked link w) n ≡ fuse_in w n
  unlinked_fuse link w = by (w.nodes (producer_node link)) refl
    where
      by : (o : Option PlainNode) → w.nodes (producer_node link) ≡ o → (arm_in ((node_if (producer_node link) (closed_at link) w o).nodes n)).fuse ≡ fuse_in w n
      by None e = refl
      by (Some node) e = elim (n == producer_node link) as (λ b. (n == producer_node link) ≡ b → (arm_in (if b then Some (closed_at link node) else w.nodes n)).fuse ≡ fuse_in w n)
          [ true ↦ λ t. ap (λ o. (arm_in o).fuse) (sym e ∙ ap w.nodes (sym (eqb-true n (producer_node link) t))) | false ↦ λ t. refl ] refl

  cut_fuse : (own : Option PlainLink) (w : PlainWorld) → fuse_in (cut_off own w).0 n ≡ fuse_in w n
  cut_fuse None w = refl
  cut_fuse (Some link) w = unlinked_fuse link w

  -- nor does a change of role, which ends streams of clients too
  ended_fuse : (ids : List ℕ) (w : PlainWorld) → fuse_in (with_ended n v ids w) n ≡ fuse_in w n
  ended_fuse ids w = by (w.nodes n) refl
    where
      by : (o : Option PlainNode) → w.nodes n ≡ o → (arm_in ((node_if n (with_clients_ended v ids) w o).nodes n)).fuse ≡ fuse_in w n
      by None e = refl
      by (Some x) e = ap (λ b. (arm_in (if b then Some (with_clients_ended v ids x) else w.nodes n)).fuse) (eq-eqb n n refl) ∙ ap (λ o. (arm_in o).fuse) (sym e)

  -- nor does the end of a link leave another connection of a client
  abbrev HasClients : PlainNode → Option PlainNode → Type 0
  HasClients node None = Unit {0}
  HasClients node (Some x) = HasEnded v node x

  ended_clients : (ids : List ℕ) (node : PlainNode) (w : PlainWorld) (x : PlainNode) → w.nodes n ≡ Some x → ((c : ℕ) → x.clients c ≡ node.clients c) → HasClients node ((with_ended n v ids w).nodes n)
  ended_clients ids node w x at same = subst (λ o. HasClients node ((node_if n (with_clients_ended v ids) w o).nodes n)) (sym at)
      (subst (λ b. HasClients node (if b then Some (with_clients_ended v ids x) else w.nodes n)) (sym (eq-eqb n n refl)) (ids, λ c. ap (option_map (client_ended v ids)) (same c)))

  unlinked_clients : (node : PlainNode) (link : PlainLink) (w : PlainWorld) → HasClients node (w.nodes n) → HasClients node ((unlinked link w).nodes n)
  unlinked_clients node link w has = by (w.nodes (producer_node link)) refl
    where
      by : (o : Option PlainNode) → w.nodes (producer_node link) ≡ o → HasClients node ((node_if (producer_node link) (closed_at link) w o).nodes n)
      by None e = has
      by (Some x) e = elim (n == producer_node link) as (λ b. (n == producer_node link) ≡ b → HasClients node (if b then Some (closed_at link x) else w.nodes n))
          [ true ↦ λ t. subst (HasClients node) (ap w.nodes (eqb-true n (producer_node link) t) ∙ e) has | false ↦ λ t. has ] refl

  cut_clients : (node : PlainNode) (own : Option PlainLink) (w : PlainWorld) → HasClients node (w.nodes n) → HasClients node ((cut_off own w).0.nodes n)
  cut_clients node None w has = has
  cut_clients node (Some link) w has = unlinked_clients node link w has

  -- lines that end so, and behind them those of outcomes, of which this holds
  abbrev Ends : (List Event → Type 0) → List Event → Type 0
  Ends Posts lines = EndsWith (AndPosts Posts Tail) lines

  -- outcomes that are posted behind a line leave the arm
  posted_came : (Posts : List Event → Type 0) → Posts [] → (w w1 : PlainWorld) (node : PlainNode) → ((rs : List Resolved) (x : PlainNode) → HasEnded v node x → Posts (all_posted rs x).1)
      → HasClients node (w1.nodes n) → (cuts lines : List Event) (said : Wrote) (answer : Answer) (rs : List Resolved) → NotedBy closed (fuse_in w n) (fuse_in w1 n) said → (said ≡ wrote.NotAsked → ⊥) → answer ≡ noted_answer said Answer.Ok
      → Tail lines → AppendCame (Ends Posts) closed w n (posted_in n rs (w1, record { events = cuts ++ lines; answer = answer }))
  posted_came Posts none w w1 node posts has cuts lines said answer rs noted asked is tail = by (w1.nodes n) refl
    where
      by : (o : Option PlainNode) → w1.nodes n ≡ o → AppendCame (Ends Posts) closed w n (posted_at n rs w1 (record { events = cuts ++ lines; answer = answer }) o)
      by None e = inr (said, noted, asked, is, (cuts, lines, refl, (lines, [], sym (append-nil lines), tail, none)))
      by (Some x) e =
          let x' : PlainNode = (all_posted rs x).0 in let told : List Event = (all_posted rs x).1 in
          let same : fuse_in (with_node_at w1 n x') n ≡ fuse_in w1 n = fuse_here w1 n x' ∙ ap (λ a. a.fuse) (posts_keep rs x).arm ∙ ap (λ o. (arm_in o).fuse) (sym e) in
          inr (said, subst (λ f. NotedBy closed (fuse_in w n) f said) (sym same) noted, asked, is, (cuts, lines ++ told, append_assoc cuts lines told, (lines, told, refl, tail, posts rs x (subst (HasClients node) e has))))

  pub turn_came : (Posts : List Event → Type 0) → Posts [] → (w : PlainWorld) → ((node : PlainNode) → w.nodes n ≡ Some node → (rs : List Resolved) (x : PlainNode) → HasEnded v node x → Posts (all_posted rs x).1)
      → ShutAgrees closed w n v → AppendCame (Ends Posts) closed w n (role_outcome n v asked w)
  turn_came Posts none w posts shut = by_node (w.nodes n) refl
    where
      Out : PlainWorld × AdminResult → Type 0
      Out x = AppendCame (Ends Posts) closed w n (turned_after n v w x)

      by_ended : (node : PlainNode) → w.nodes n ≡ Some node → (w1 : PlainWorld) (x : PlainNode) → w1.nodes n ≡ Some x → ((c : ℕ) → x.clients c ≡ node.clients c) → (told : AdminResult) (ended : Option (List ℕ)) → (((why : Cause) × (told.answer ≡ Answer.No why) × IsStanding why) × (ended ≡ None) × (told.events ≡ []))
          ⊎ ((said : Wrote) × NotedBy closed (fuse_in w n) (fuse_in w1 n) said × (said ≡ wrote.NotAsked → ⊥) × (told.answer ≡ noted_answer said Answer.Ok) × Tail told.events × ((ids : List ℕ) × (ended ≡ Some ids)))
          → AppendCame (Ends Posts) closed w n (turned_if n v w ended (w1, told))
      by_ended node known w1 x at has told None c = ⊎_elim (λ r. inl (r.0.0, r.0.1, r.0.2, unchanged w, r.2)) (λ m. let z = m.5.1 in cc) c
      by_ended node known w1 x at has told (Some ids) c = ⊎_elim (λ r. let z = r.1 in cc)
          (λ m. let w2 : PlainWorld = with_ended n v ids w1 in let own = own_link n v w2.links in
          posted_came Posts none w (cut_off own w2).0 node (posts node known) (cut_clients node own w2 (ended_clients ids node w1 x at has)) (cut_off own w2).1 told.events m.0 told.answer told.resolved
          (subst (λ f. NotedBy closed (fuse_in w n) f m.0) (sym (cut_fuse own w2 ∙ ended_fuse ids w1)) m.1) m.2 m.3 m.4) c

      by_off : (node : PlainNode) → w.nodes n ≡ Some node → (b : Bool)
          → (let x : PlainNode × AdminResult = if b then (node, admin_refused Cause.NodeDown) else under_arm v (called_at n v asked) node in Out (with_node_at w n x.0, x.1))
      by_off node known true = inl (Cause.NodeDown, refl, tt, unchanged w, refl)
      by_off node known false =
          let f : Fuse = node.arm.fuse in let x = after_job (admin_job n v asked) node.vbs (arm_over node.shelves v f) in
          let before : fuse_in w n ≡ f = ap (λ o. (arm_in o).fuse) known in
          let node' : PlainNode = lifted v (called (placed v node) x).0 in
          by_ended node known (with_node_at w n node') node' (ap (λ b. if b then Some node' else w.nodes n) (eq-eqb n n refl)) (λ c. refl) x.1 x.1.ended
          (⊎_elim (λ r. inl r) (λ m. inr (m.0, subst (λ g. NotedBy closed g (fuse_in (with_node_at w n node') n) m.0) (sym before) (subst (λ g. NotedBy closed f g m.0) (sym (fuse_here w n node')) m.1), m.2, m.3, m.4, m.5)) (role_came f node.vbs node.shelves (λ vb e. sym (ap (λ o. shut_in (shelf_in o v)) known) ∙ shut vb (ap (λ o. vb_in o v) known ∙ e))))

      by_node : (o : Option PlainNode) → w.nodes n ≡ o → Out (node_outcome w n no_node o (role_called n v asked))
      by_node None e = inl (Cause.UnknownNode, refl, tt, unchanged w, refl)
      by_node (Some node) e = by_off node e (is_some node.off)
