-- how lines are answered, that one which is refused changes nothing, and that a change of role and a log have their lines
use Rattle.std.specs.Prelude.{◌≡◌, ◌⊎◌, ◌∷◌, ◌++◌, if◌then◌else◌}
use Rattle.transcript_law.proofs.Words.{told, admin_call, admin_replied, admin_result, AdminCall, PlainLink, consumer_node, link_number}
use Rattle.transcript_law.proofs.Words.{admin_line, called, line_of_call, call_told, promote_step, turn_step, PlainNode, PlainWorld, Outcome, done, on_link}
use Rattle.transcript_law.proofs.Words.{on_node, vb_in, Told, Bool, List, [], ap, false, refl, subst, sym, true, ℕ, ◌∙◌, inl, inr, ⊎_elim}
use Rattle.transcript_law.proofs.Words.{None, Option, Some, is_some, Chronicle, empty_chronicle, IsCarriedOut, IsLogged, IsPromotion, IsTurn, EndsWith, ShowsAreShown, TurnsAreTold}
use Rattle.transcript_law.proofs.Words.{All, All-nil, VbAnswer, VbReply, Status, is_active, own_link, refusal_reply, with_states, Plain, plain_step, States, call_at, VbCall, Answer, Cause, Event, Role, row_at, after_job, lift, with_vb_at, shelf_in}
use Rattle.disk_journals.specs.Arms.{arm_over, armed_at, under}
use Rattle.node_core.specs.{Admin.{admin_at, admin_job, noted_answer}, Flushing.{FlushResult, flush_at, flush_result, settled_by, settled_result}}
use Rattle.node_world.specs.{Arms.{fired_by, placed}, Dues.{done_step, due_at, due_in, due_of, is_counted}, Nodes.{flush_here, all_posted, flush_line, save_line, shelf_or_blank, with_kept, with_posts, written as written_node}, World.{down_in, down_outcome, down_step}, Worlds.{arm_in}}
use Rattle.node_world.specs.Power.{after_fire, with_arm}
use Rattle.node_world.specs.declared.arm.Fired.{Fired}
use Rattle.node_world.specs.declared.arm.Fired.TheVariants as fired
use Rattle.transcript_law.proofs.disks.AppendAnswers.{AppendCame, HasEnded, ShutAgrees, Tells, came_noted, came_tells, fuse_in, fuse_same}
use Rattle.transcript_law.proofs.disks.AppendLines.{NewShutIs, NoLines, dead_came, follow_came, promote_came}
use Rattle.transcript_law.proofs.{invariant.Agreement.{IsArm}, disks.ArmedSteps.{shut_in}, disks.Burning.{quiet_same}, disks.Flushed.{StepSays, done_says, flush_came, looked, refused_tells, save_says, take_says, told_flush}, invariant.JobSteps.{put_found, same_shelf, shelf_found}, verbs.NodeLines.{on_node_by, put_same as put_states}}
use Rattle.transcript_law.proofs.lines.Refusals.{Anything, CarriesOut, IsMade, Refuses, Same, Says, on_link_says, on_node_says, with_broken_keeps}
use Rattle.transcript_law.specs.{Chronicles.{DiskKnown, blank_disk}, LineAnswers.{IsAppended, IsNoted, IsOut, IsSaved, IsTaken, SealsAs, TakesAsTold, batches_in_lines}, Plainness.{AndClients, AreOwnIf, IsOfClient, IsOwnIf, IsStanding}}
use Rattle.transcript_law.proofs.{lines.ClientLines.{AllKept, AreOfClients, posts_of_clients}, invariant.{OwnClients.{posts_own}, Ranged.{IsRanged, NodeRanged, NodeRangedIf}}}
use Rattle.vb_calls.specs.declared.calls.Resolved.{Resolved}
use Rattle.node_core.specs.Clients.{PlainClient, client_ended}
use Rattle.transcript_law.proofs.{Words.{StreamName, option_map}, lines.SessionLines.{IsKept}}
use Rattle.vb_calls.specs.declared.journals.Flushed.{Flushed}
use Rattle.vb_calls.specs.Flushes.{finish_job, part_job, save_job}
use Rattle.vb_calls.specs.Shelves.{Idle, Shelf, Shelves, with_shelf_at}
use Rattle.vb_calls.specs.declared.journals.Wrote.{Wrote}
use Rattle.vb_calls.specs.declared.journals.Wrote.TheVariants as wrote
use Rattle.vb_disk.specs.declared.fuse.Fuse.{Fuse}
use Rattle.vb_types.specs.declared.journal.FlushPart.{FlushPart}
use Rattle.vb_types.specs.declared.journal.FlushPart.TheVariants as part

pub shows : ShowsAreShown
shows vb = (_, _, _, _, _, _, refl)

-- operators' calls

-- so many are sealed of a vBucket as is told of whether it changed since
abbrev pub OpensTold : PlainWorld → Chronicle → Type 0
OpensTold w r = (n v : ℕ) (vb : Plain) → vb_in (w.nodes n) v ≡ Some vb → SealsAs (r.role_at n v) (r.open_at n v) (if is_some vb.spans.current then 1 else 0)

-- and so is what was written down of it
abbrev pub DisksTold : PlainWorld → Chronicle → Type 0
DisksTold w r = (n v : ℕ) (vb : Plain) (shelf : Shelf) → vb_in (w.nodes n) v ≡ Some vb → shelf_in (w.nodes n) v ≡ Some shelf → ((r.disk_at n v).flushing ≡ told_flush shelf.flush) × ((r.disk_at n v).saved ≡ vb.saved)

-- and whether its journal is closed, of one that is there, and of one that is made
abbrev pub ShutTold : PlainWorld → Chronicle → Type 0
ShutTold w r = (n v : ℕ) → ShutAgrees (r.disk_at n v).closed w n v × NewShutIs (r.disk_at n v).closed w n v

abbrev pub AllTold : PlainWorld → Chronicle → Type 0
AllTold w r = OpensTold w r × DisksTold w r

-- a step of writing down says this
abbrev Writes : (List Event → Answer → Type 0) → PlainNode → (States × Shelves) × FlushResult → Type 0
Writes P node y = Says (λ told. P told.events told.answer) (λ k. k ≡ node) (written_node node y)

-- what is said of lines is said with those behind them of what the node posts
abbrev Grows : (List Event → Answer → Type 0) → PlainNode → Type 0
Grows P node = (lines : List Event) (rs : List Resolved) (kept : States × Shelves) (said : Answer) → P lines said → P (lines ++ (all_posted rs (with_kept node kept)).1) said

-- the connections of a node's clients are its own
abbrev pub KeptIn : PlainWorld → ℕ → Type 0
KeptIn w n = (node : PlainNode) → w.nodes n ≡ Some node → AllKept n node

pub kept_in : (w : PlainWorld) (n : ℕ) → IsRanged w → KeptIn w n
kept_in w n ranged node known = let here : NodeRanged n node = subst (NodeRangedIf n) known (ranged n) in here.own

-- lines of clients tell of no batch
no_batches : (lines : List Event) → AreOfClients lines → batches_in_lines lines ≡ []
no_batches [] c = refl
no_batches (Event.Changed n v uuid change ∷ lines) c = no_batches lines c.1
no_batches (Event.Reply n k bytes ∷ lines) c = no_batches lines c.1
no_batches (Event.Closed n k ∷ lines) c = no_batches lines c.1
no_batches (Event.Asked (StreamName.Client m k) n v ask high log said ∷ lines) c = no_batches lines c.1
no_batches (other ∷ lines) c = absurd c.0

same_batches : (lines more : List Event) → AreOfClients more → batches_in_lines (lines ++ more) ≡ batches_in_lines lines
same_batches [] more c = no_batches more c
same_batches (Event.Batch n v ss se at count ∷ lines) more c = ap (λ xs. (n, (v, count)) ∷ xs) (same_batches lines more c)
same_batches (other ∷ lines) more c = same_batches lines more c

taken_grows : (n v : ℕ) (lines more : List Event) (said : Answer) → AreOfClients more → IsTaken n v lines said → IsTaken n v (lines ++ more) said
taken_grows n v lines more Answer.Ok c x = x
taken_grows n v lines more (Answer.Number count) c x = subst (TakesAsTold n v count) (sym (same_batches lines more c)) x
taken_grows n v lines more (Answer.Pulled count said) c x = x
taken_grows n v lines more (Answer.No why) c x = same_batches lines more c ∙ x

-- a step that is refused resolves nothing
refused_resolves : (n v : ℕ) (came : Flushed) (why : Cause) → (flush_result n v came).answer ≡ Answer.No why → (flush_result n v came).resolved ≡ []
refused_resolves n v (Flushed.Done reply) why e = cc
refused_resolves n v other why e = refl

-- by the vBucket and its journal, where there is one
flush_node : (P : List Event → Answer → Type 0) (n v : ℕ) (p : FlushPart) (node : PlainNode) → Grows P node → P [] (Answer.No Cause.UnknownVb)
    → ((vb : Plain) (o : Option Shelf) → node.vbs v ≡ Some vb → node.shelves v ≡ o
    → (let x = looked node.shelves v o in StepSays n v P (with_vb_at node.vbs v vb) x.0 (after_job (part_job v p x.1) (with_vb_at node.vbs v vb) x.0)))
    → Writes P node (after_job (flush_here n v p node) node.vbs node.shelves)
flush_node P n v p node grows refuses says = by (node.vbs v) refl
  where
    unread : (o : Option Shelf) → node.shelves v ≡ o → (looked node.shelves v o).0 ≡ node.shelves
    unread None e = refl
    unread (Some shelf) e = λ i q. same_shelf node.shelves v shelf e q i

    -- and with what is posted behind it
    posted : (y : (States × Shelves) × Flushed) → P (flush_result n v y.1).events (flush_result n v y.1).answer → ((why : Cause) → (flush_result n v y.1).answer ≡ Answer.No why → IsStanding why → y.0 ≡ (node.vbs, node.shelves))
        → Writes P node (y.0, flush_result n v y.1)
    posted y says kept =
        let told : FlushResult = flush_result n v y.1 in let now : PlainNode = with_kept node y.0 in (
          grows told.events told.resolved y.0 told.answer says,
          λ why f s. (ap (λ rs. (all_posted rs now).0) (refused_resolves n v y.1 why f) ∙ ap (with_kept node) (kept why f s), (λ i. refused_tells n v y.1 why f i ++ (all_posted (refused_resolves n v y.1 why f i) now).1)),
        )

    by : (o : Option Plain) → node.vbs v ≡ o → Writes P node (after_job (flush_here n v p node) node.vbs node.shelves)
    by None e = subst (Writes P node) (ap (λ (o : Option Plain). after_job (flush_at n v p (is_some o)) node.vbs node.shelves) (sym e)) (refuses, λ why f s. (refl, refl))
    by (Some vb) e =
        let x = looked node.shelves v (node.shelves v) in let says = says vb (node.shelves v) e refl in
        subst (Writes P node) (sym (flush_came n v p node.vbs node.shelves vb (node.shelves v) e refl))
        (posted (after_job (part_job v p x.1) (with_vb_at node.vbs v vb) x.0) says.0 (λ why f s. says.1 why f s ∙ (λ i. ((λ q. put_states node.vbs v vb e q i), unread (node.shelves v) refl i))))

flush_says : (P : List Event → Answer → Type 0) (w : PlainWorld) (n v : ℕ) (p : FlushPart) → ((node : PlainNode) → w.nodes n ≡ Some node → Grows P node) → ((why : Cause) → P [] (Answer.No why))
    → ((node : PlainNode) (vb : Plain) (o : Option Shelf) → w.nodes n ≡ Some node → node.vbs v ≡ Some vb → node.shelves v ≡ o
    → (let x = looked node.shelves v o in StepSays n v P (with_vb_at node.vbs v vb) x.0 (after_job (part_job v p x.1) (with_vb_at node.vbs v vb) x.0)))
    → Says (λ told. P told.events told.answer) (Same w) (on_node w n (flush_line n v p))
flush_says P w n v p grows refuses says = on_node_says (λ told. P told.events told.answer) w n (flush_line n v p) refuses (λ node known. flush_node P n v p node (grows node known) (refuses Cause.UnknownVb) (λ vb o e f. says node vb o known e f))

-- a vBucket refuses none of the calls that keep its role
pub admin_says : (P : Told → Type 0) (w : PlainWorld) (n v : ℕ) (asked : AdminCall) → admin_job n v asked ≡ lift (admin_at n v asked) → Refuses P
    → ((vb : Plain) → vb_in (w.nodes n) v ≡ Some vb → CarriesOut P (call_told (admin_replied n v asked (plain_step vb (admin_call asked)).1)))
    → Says P (Same w) (on_node w n (admin_line n v asked))
admin_says P w n v asked job refuses says = on_node_says P w n (admin_line n v asked) refuses (λ node known.
    subst (λ j. Says P (λ k. k ≡ node) (line_of_call (called node (after_job j node.vbs node.shelves)))) (sym job) (by node known (node.vbs v) refl))
  where
    by : (node : PlainNode) → w.nodes n ≡ Some node → (o : Option Plain) → node.vbs v ≡ o
        → Says P (λ k. k ≡ node) (line_of_call (called node (let x = call_at node.vbs v (admin_call asked) o in ((x.0, node.shelves), admin_result n v asked x.1))))
    by node known None e = (refuses Cause.UnknownVb, λ why f s. (refl, refl))
    by node known (Some vb) e = let s = says vb (ap (λ o. vb_in o v) known ∙ e) in (s.0, λ why f t. absurd (s.1 why f t))

log_says : (w : PlainWorld) (n v : ℕ) → Says (Tells (IsLogged n v)) (Same w) (on_node w n (admin_line n v AdminCall.Log))
log_says w n v = admin_says (Tells (IsLogged n v)) w n v AdminCall.Log refl (λ why. (tt, λ ok. cc)) (λ vb has. ((tt, λ ok. ([], _, refl, (vb.log, refl))), λ why e s. cc))

-- a rollback that could not be written down is no standing refusal
down_made : (wanted : ℕ) (link : PlainLink) (node : PlainNode) → IsMade (down_in wanted link node).1.1.answer
down_made wanted link node = by _ _
  where
    by : (count : ℕ) (b : Bool) → IsMade (if b then Answer.No Cause.Disk else Answer.Number count)
    by count true = λ why e s. let same : Cause.Disk ≡ why = cc in subst IsStanding (sym same) s
    by count false = λ why e s. cc

pub down_line_says : (w : PlainWorld) (l wanted : ℕ) → Says Anything (Same w) (down_step w l wanted)
down_line_says w l wanted = by (row_at link_number l w.links) (on_link_says Anything w l consumer_node (down_in wanted) (λ why. tt) (λ link node. (tt, down_made wanted link node)))
  where
    by : (o : Option PlainLink) → Says Anything (Same w) (on_link w l consumer_node (down_in wanted)) → Says Anything (Same w) (down_outcome w l o (on_link w l consumer_node (down_in wanted)))
    by None kept = kept
    by (Some link) kept = (tt, with_broken_keeps w w (consumer_node link) l (on_link w l consumer_node (down_in wanted)).0 (on_link w l consumer_node (down_in wanted)).1 kept.1)

-- ---- each line

abbrev pub IsOk : Told → Type 0
IsOk told = IsCarriedOut told.answer

pub no_ok : Refuses IsOk
no_ok why = tt

-- an append finds the journal of a vBucket as it is, and so does one of a vBucket that is made
abbrev pub shut_at : PlainWorld → ℕ → ℕ → Bool
shut_at w n v = shut_in (shelf_in (w.nodes n) v)

abbrev pub new_shut_at : PlainWorld → ℕ → ℕ → Bool
new_shut_at w n v = (shelf_or_blank (shelf_in (w.nodes n) v)).is_closed

-- a call that lets an active vBucket resolve durable writes
abbrev settled_at : ℕ → ℕ → VbCall → PlainNode → PlainNode × Told
settled_at n v c node = let x = call_at node.vbs v c (node.vbs v) in with_posts (settled_result n v x.1) (with_states node x.0)

pub settled_says : (n v : ℕ) (c : VbCall) (node : PlainNode) (row : Plain → Plain × VbReply) → ((vb : Plain) → plain_step vb c ≡ (if is_active vb.role then row vb else (vb, refusal_reply Status.NotMyVbucket)))
    → ((vb : Plain) → (row vb).1.answer ≡ VbAnswer.Done) → Says IsOk (λ k. k ≡ node) (settled_at n v c node)
settled_says n v c node row is done = by (node.vbs v) refl
  where
    Out : States × Option VbReply → Type 0
    Out x = Says IsOk (λ k. k ≡ node) (with_posts (settled_result n v x.1) (with_states node x.0))

    made : (states : States) (reply : VbReply) (a : VbAnswer) → a ≡ VbAnswer.Done → Says IsOk (λ k. k ≡ node) (with_posts (settled_by n v reply a) (with_states node states))
    made states reply VbAnswer.Done e = (tt, λ why f s. cc)
    made states reply other e = cc

    there : (vb : Plain) → node.vbs v ≡ Some vb → (b : Bool) → (let x : Plain × VbReply = if b then row vb else (vb, refusal_reply Status.NotMyVbucket) in Out (with_vb_at node.vbs v x.0, Some x.1))
    there vb e true = made (with_vb_at node.vbs v (row vb).0) (row vb).1 (row vb).1.answer (done vb)
    there vb e false = (tt, λ why f s. ((λ i. with_states node (λ q. put_states node.vbs v vb e q i)), refl))

    by : (o : Option Plain) → node.vbs v ≡ o → Out (call_at node.vbs v c o)
    by None e = (tt, λ why f s. (refl, refl))
    by (Some vb) e = subst (λ (x : Plain × VbReply). Out (with_vb_at node.vbs v x.0, Some x.1)) (sym (is vb)) (there vb e (is_active vb.role))

-- what is acknowledged behind `done` leaves its answer
due_says : (P : Answer → Type 0) (w : PlainWorld) (n v : ℕ) (o : Outcome) → Says (λ told. P told.answer) (Same w) o → Says (λ told. P told.answer) (Same w) (due_in n v o)
due_says P w n v o says = by_counted (is_counted o.1.answer) refl
  where
    number : (said : Answer) (why : Cause) → is_counted said ≡ true → said ≡ Answer.No why → ⊥
    number (Answer.Number saved) why e f = cc
    number other why e f = cc

    by_node : is_counted o.1.answer ≡ true → (link : PlainLink) (k : Option PlainNode) → Says (λ told. P told.answer) (Same w) (due_at n link o.0 o.1 k)
    by_node e link None = says
    by_node e link (Some node) = (says.0, λ why f s. absurd (number o.1.answer why e f))

    by_link : is_counted o.1.answer ≡ true → (l : Option PlainLink) → Says (λ told. P told.answer) (Same w) (due_of n o.0 o.1 l)
    by_link e None = says
    by_link e (Some link) = by_node e link (o.0.nodes n)

    by_counted : (b : Bool) → is_counted o.1.answer ≡ b → Says (λ told. P told.answer) (Same w) (if b then due_of n o.0 o.1 (own_link n v o.0.links) else o)
    by_counted true e = by_link e (own_link n v o.0.links)
    by_counted false e = says

-- a batch counts as saved
finishes : (d : DiskKnown) (node : PlainNode) (n v : ℕ) (vb : Plain) (o : Option Shelf) → node.vbs v ≡ Some vb → ((shelf : Shelf) → o ≡ Some shelf → (d.flushing ≡ told_flush shelf.flush) × (d.saved ≡ vb.saved))
    → (let x = looked node.shelves v o in StepSays n v (λ lines said. IsSaved d said) (with_vb_at node.vbs v vb) x.0 (after_job (finish_job v x.1) (with_vb_at node.vbs v vb) x.0))
finishes d node n v vb None has told = (tt, λ why f s. refl)
finishes d node n v vb (Some shelf) has told =
    let x = looked node.shelves v (Some shelf) in let t = told shelf refl in done_says n v d shelf.flush (with_vb_at node.vbs v vb) x.0 vb (put_found node.vbs v vb) t.0 t.1

pub done_line_says : (w : PlainWorld) (r : Chronicle) (n v : ℕ) → AllTold w r → Says (λ told. IsSaved (r.disk_at n v) told.answer) (Same w) (done_step w n v)
done_line_says w r n v told = due_says (IsSaved (r.disk_at n v)) w n v (on_node w n (flush_line n v part.Done))
    (flush_says (λ lines said. IsSaved (r.disk_at n v) said) w n v part.Done (λ node known lines rs kept said x. x) (λ why. tt)
    (λ node vb o known has is. finishes (r.disk_at n v) node n v vb o has (λ shelf e. told.1 n v vb shelf (ap (λ k. vb_in k v) known ∙ has) (ap (λ k. shelf_in k v) known ∙ is ∙ e))))

pub take_line_says : (w : PlainWorld) (n v : ℕ) → Says (λ told. KeptIn w n → IsTaken n v told.events told.answer) (Same w) (on_node w n (flush_line n v part.Take))
take_line_says w n v = flush_says (λ lines said. KeptIn w n → IsTaken n v lines said) w n v part.Take
    (λ node known lines rs kept said x own. taken_grows n v lines (all_posted rs (with_kept node kept)).1 said (posts_of_clients n rs (with_kept node kept) (own node known)) (x own)) (λ why own. refl)
    (λ node vb o known has is. let x = looked node.shelves v o in let says = take_says n v x.1 (with_vb_at node.vbs v vb) x.0 vb (put_found node.vbs v vb) in (λ own. says.0, says.1))

-- the arm of a node is told as it is, and may fire yet
abbrev pub ArmKnown : PlainWorld → Chronicle → ℕ → Type 0
ArmKnown w r n = ((r.arm_at n).fuse ≡ fuse_in w n) × IsArm (fuse_in w n)

pub armed_answered : (Lines : List Event → Type 0) (closed : Bool) (w : PlainWorld) (r : Chronicle) (n : ℕ) (o : Outcome) → ArmKnown w r n → AppendCame Lines closed w n o → IsNoted closed (r.arm_at n).fuse (with_arm n w o).1.answer
armed_answered Lines closed w r n o a c = subst (λ f. IsNoted closed f (with_arm n w o).1.answer) (sym a.0) (came_noted Lines closed w n o.0 o.1 a.1 c)

-- where a batch is appended, or fails to be, it was taken

looks_taken : (d : DiskKnown) (v : ℕ) (f : Fuse) (shelves : Shelves) → ((shelf : Shelf) → shelves v ≡ Some shelf → d.flushing ≡ told_flush shelf.flush)
    → (let armed = arm_over shelves v f in (d.flushing ≡ told_flush (looked armed v (armed v)).1) ⊎ ((looked armed v (armed v)).1 ≡ Idle))
looks_taken d v f shelves told = by (shelves v) refl
  where
    Taken : Shelves → Type 0
    Taken armed = (d.flushing ≡ told_flush (looked armed v (armed v)).1) ⊎ ((looked armed v (armed v)).1 ≡ Idle)

    by : (o : Option Shelf) → shelves v ≡ o → Taken (armed_at shelves v f o)
    by None e = inr (ap (λ o. (looked shelves v o).1) e)
    by (Some shelf) e = let armed : Shelves = with_shelf_at shelves v (under f shelf) in inl (told shelf e ∙ ap (λ o. told_flush (looked armed v o).1) (sym (shelf_found shelves v (under f shelf))))

save_is_taken : (w : PlainWorld) (r : Chronicle) (n v : ℕ) → AllTold w r → IsAppended (r.disk_at n v) (on_node w n (save_line n v)).1.answer
save_is_taken w r n v told = on_node_by (λ x. IsAppended (r.disk_at n v) x.1.answer) w n (save_line n v) tt (λ node known. tt) (λ node known up. (by node known).0)
  where
    by : (node : PlainNode) → w.nodes n ≡ Some node → (let k = placed v node in Writes (λ lines said. IsAppended (r.disk_at n v) said) k (after_job (flush_here n v part.Save k) k.vbs k.shelves))
    by node known = flush_node (λ lines said. IsAppended (r.disk_at n v) said) n v part.Save (placed v node) (λ lines rs kept said x. x) tt (λ vb o has is.
        let armed : Shelves = arm_over node.shelves v node.arm.fuse in let x = looked armed v o in let st : States = with_vb_at node.vbs v vb in
        let taken = looks_taken (r.disk_at n v) v node.arm.fuse node.shelves (λ shelf e. (told.1 n v vb shelf (ap (λ k. vb_in k v) known ∙ has) (ap (λ k. shelf_in k v) known ∙ e)).0) in
        ⊎_elim (λ t. save_says n v (r.disk_at n v) x.1 st x.0 (t ∙ ap (λ y. told_flush (looked armed v y).1) is))
        (λ i. subst (λ f. StepSays n v (λ lines said. IsAppended (r.disk_at n v) said) st x.0 (after_job (save_job v f) st x.0)) (sym (ap (λ y. (looked armed v y).1) (sym is) ∙ i)) (tt, λ why f t. refl)) taken)

pub save_taken : (w : PlainWorld) (r : Chronicle) (n v : ℕ) → AllTold w r → (closed : Bool) → AppendCame NoLines closed w n (on_node w n (save_line n v)) → IsAppended (r.disk_at n v) (with_arm n w (on_node w n (save_line n v))).1.answer
save_taken w r n v told closed came = by how refl
  where
    d : DiskKnown
    d = r.disk_at n v

    o : Outcome
    o = on_node w n (save_line n v)

    how : Fired
    how = fired_by (fuse_in w n) (fuse_in o.0 n)

    noted : (said : Wrote) → IsAppended d (noted_answer said Answer.Ok) → IsOut d
    noted wrote.Stood a = a
    noted wrote.NotAsked a = a
    noted wrote.Closed a = a
    noted wrote.DiskFailed a = a

    -- an arm that fires does so inside an append
    by : (x : Fired) → how ≡ x → IsAppended d (after_fire n (arm_in (w.nodes n)).out x o).1.answer
    by fired.No e = save_is_taken w r n v told
    by fired.Failed e = save_is_taken w r n v told
    by fired.Stopped e = ⊎_elim (λ c. let z : fired.No ≡ fired.Stopped = sym (ap (fired_by (fuse_in w n)) (fuse_same n c.3) ∙ quiet_same (fuse_in w n)) ∙ e in cc)
        (λ c. noted c.0 (subst (IsAppended d) c.3 (save_is_taken w r n v told))) came

abbrev opens_in : Option Plain → Bool
opens_in None = false
opens_in (Some vb) = is_some vb.spans.current

abbrev disk_in : Option Plain → Option Shelf → DiskKnown
disk_in (Some vb) (Some shelf) = record blank_disk { flushing = told_flush shelf.flush; saved = vb.saved }
disk_in o s = blank_disk

-- a chronicle that tells which vBuckets of this world changed since they were sealed, and what was written down of each
abbrev pub opens_of : PlainWorld → Chronicle
opens_of w = record empty_chronicle { open_at = λ n v. opens_in (vb_in (w.nodes n) v); disk_at = λ n v. disk_in (vb_in (w.nodes n) v) (shelf_in (w.nodes n) v) }

disks_told_of : (w : PlainWorld) → DisksTold w (opens_of w)
disks_told_of w n v vb shelf e f = let is : disk_in (vb_in (w.nodes n) v) (shelf_in (w.nodes n) v) ≡ disk_in (Some vb) (Some shelf) = (λ i. disk_in (e i) (f i)) in (ap (λ (d : DiskKnown). d.flushing) is, ap (λ (d : DiskKnown). d.saved) is)

pub told_of_opens : (w : PlainWorld) → AllTold w (opens_of w)
told_of_opens w = (λ n v vb e. ap (λ o. if opens_in o then 1 else 0) (sym e), disks_told_of w)

-- where a change of role is answered `ok`, its own lines end so, with those of its node's clients behind them
turn_tells : (Own : List Event → Type 0) (w : PlainWorld) (n v : ℕ) (o : Outcome) → AppendCame (EndsWith (AndClients n Own)) (shut_at w n v) w n o → (with_arm n w o).1.answer ≡ Answer.Ok → EndsWith (AndClients n Own) (with_arm n w o).1.events
turn_tells Own w n v o c = (came_tells (AndClients n Own) (shut_at w n v) w n o.0 o.1 c).1

-- connections that are told as their node's own, where streams of theirs may have ended
own_kept : (n c v : ℕ) (ids : List ℕ) (o : Option PlainClient) → IsOwnIf n c o → IsKept n c (option_map (client_ended v ids) o)
own_kept n c v ids None own = tt
own_kept n c v ids (Some client) own = (record { node = own.0; number = own.1; stream = own.3; desk = own.2 }, own.4)

own_posts : (n v : ℕ) (w : PlainWorld) → AreOwnIf n (w.nodes n) → (node : PlainNode) → w.nodes n ≡ Some node → (rs : List Resolved) (x : PlainNode) → HasEnded v node x → All (IsOfClient n) (all_posted rs x).1
own_posts n v w own node known rs x ended =
    let here : (c : ℕ) → IsOwnIf n c (node.clients c) = subst (AreOwnIf n) known own in posts_own n rs x (λ c. subst (IsKept n c) (sym (ended.1 c)) (own_kept n c v ended.0 (node.clients c) (here c)))

pub turns_told : (n v : ℕ) → TurnsAreTold n v
turns_told n v = record {
  promote = λ uuid w number own. turn_tells (IsPromotion n v uuid) w n v (promote_step w n v uuid) (promote_came (All (IsOfClient n)) (All-nil (IsOfClient n)) (shut_at w n v) w n v (own_posts n v w own) (λ vb e. refl) uuid);
  follow = λ w number own. turn_tells (IsTurn n v Role.Replica) w n v (turn_step w n v Role.Replica AdminCall.Follow) (follow_came (All (IsOfClient n)) (All-nil (IsOfClient n)) (shut_at w n v) w n v (own_posts n v w own) (λ vb e. refl));
  dead = λ w number own. turn_tells (IsTurn n v Role.Dead) w n v (turn_step w n v Role.Dead AdminCall.Dead) (dead_came (All (IsOfClient n)) (All-nil (IsOfClient n)) (shut_at w n v) w n v (own_posts n v w own) (λ vb e. refl));
  log = λ w number. (log_says w n v).0.1;
}
