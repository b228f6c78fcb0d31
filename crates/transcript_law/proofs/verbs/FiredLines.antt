-- each line of a script tells of arms that fired as it is answered
use Rattle.std.specs.Prelude.{◌≡◌, ◌∷◌, ◌++◌, ◌==◌, if◌then◌else◌}
use Rattle.transcript_law.proofs.Words.{ℕ, Bool, true, false, List, [], refl, sym, subst, option_map, map, Option, Some, None, is_some, Answer, Cause, Event, Role, Chronicle, AdminCall, AdminResult, PlainLink, PlainNode, PlainWorld, Outcome, Told, VbAnswer, VbCall, VbReply, Status, after, with_states}
use Rattle.transcript_law.proofs.Words.{admin_call, admin_line, admin_replied, admin_result, branch_lines, call_at, call_told, called_at, consumer_node, cut_off, document_line, first_cause, image_lines, link_number, no_node, node_outcome, on_node, own_link, prepare_line}
use Rattle.transcript_law.proofs.Words.{after_job, link_outcome, at_end, refusal, refused_or, role_outcome, row_at, turned_after, turned_if, with_ended, with_link, with_node_at}
use Rattle.node_core.specs.{Calls.{own_lines, own_lines_if}, Admin.{admin_at, admin_job, admin_refused, promote_cause, role_at, role_noted}, Dials.{dial_due}, Flushing.{FlushResult, flush_answered, flush_at, flush_result, settled_by, settled_result}}
use Rattle.node_world.specs.{Arms.{placed, under_arm}, Dues.{due_at, due_in, due_of, is_counted}, Links.{dial_of}, Nodes.{flush_here, all_posted, flush_line, save_line, vb_made, with_kept, with_posts}, Power.{is_broken_answer, with_broken}, Turns.{posted_at, posted_in, role_called}, World.{down_in, down_outcome, down_step}}
use Rattle.std.specs.FinMap as finite
use Rattle.script_text.specs.declared.verb.Verb.TheVariants as verb
use Rattle.script_text.specs.declared.verb.LinkVerb.TheVariants as link_verb
use Rattle.transcript_law.proofs.{disks.AppendAnswers.{AllStand, unless_refused_came}, invariant.Ranged.{IsRanged, NodeRanged, NodeRangedIf, called_world, cut_ended_ranged}, lines.ClientLines.{AllKept}}
use Rattle.transcript_law.proofs.{lines.Calm.{AnyAsk, Calm, Spared, Still, all_posts_calm, any_job, calm_map, calm_more, dial_due_calm, down_calm, either, posts_calm, posts_spared, spared_calm}, disks.Fired.{broken_fires, standing_fires}, verbs.NodeLines.{on_node_by}}
use Rattle.transcript_law.specs.{Chronicles.{Dial}, Firings.{FiresAsSaid, FiresInLine, beside_rollbacks}}
use Rattle.vb_calls.proofs.JobConduct.{after_job_always, always_bind_job}
use Rattle.vb_calls.specs.Flushes.{batch_of_reply, flush_job, part_job, role_job, taken_job, took}
use Rattle.vb_calls.specs.Jobs.{AlwaysJob, Job, Ended, lift}
use Rattle.vb_calls.specs.Programs.{AnyCall, AnyReply}
use Rattle.vb_calls.specs.Shelves.{Flush, Idle, Out, Written}
use Rattle.vb_calls.specs.declared.calls.Resolved.{Resolved}
use Rattle.vb_calls.specs.declared.calls.VbAnswer.TheVariants as answer
use Rattle.vb_calls.specs.declared.journals.Flushed.{Flushed}
use Rattle.vb_calls.specs.declared.journals.Flushed.TheVariants as flushed
use Rattle.vb_types.specs.Images.{Picture}
use Rattle.vb_types.specs.declared.journal.Batch.{Batch}
use Rattle.vb_types.specs.declared.journal.FlushPart.{FlushPart}
use Rattle.vb_types.specs.declared.journal.FlushPart.TheVariants as part

-- ---- operators' calls

image_calm : (image : Picture) → Calm (image_lines image)
image_calm image = calm_more (map document_line (finite.entries image.docs)) (map prepare_line (finite.entries image.pending)) (calm_map document_line (finite.entries image.docs) (λ x. refl)) (calm_map prepare_line (finite.entries image.pending) (λ x. refl))

-- lines of changes tell of none
own_calm : (n v : ℕ) (reply : VbReply) → Calm (own_lines n v reply)
own_calm n v reply = calm_map (Event.Changed n v reply.branch) reply.changes (λ c. refl)

own_calm_if : (n v : ℕ) (o : Option VbReply) → Calm (own_lines_if n v o)
own_calm_if n v None = refl
own_calm_if n v (Some reply) = own_calm n v reply

-- whatever the vBucket replied
call_spared : (n v : ℕ) (asked : AdminCall) (o : Option VbReply) → Spared (call_told (admin_result n v asked o))
call_spared n v asked None = refl
call_spared n v asked (Some reply) = by asked reply.answer
  where
    promotion : (st : Status) → Spared (call_told (admin_refused (promote_cause st)))
    promotion Status.Einval = refl
    promotion other = refl

    by : (asked : AdminCall) (a : VbAnswer) → Spared (call_told (admin_replied n v asked (record reply { answer = a })))
    by (AdminCall.Promote uuid) (answer.Branch u parent fork high) = own_calm n v reply
    by (AdminCall.Promote uuid) (answer.Status st) = promotion st
    by (AdminCall.Promote uuid) other = refl
    by AdminCall.Follow answer.Done = refl
    by AdminCall.Follow other = refl
    by AdminCall.Dead answer.Done = refl
    by AdminCall.Dead other = refl
    by AdminCall.Trim (answer.Num removed) = refl
    by AdminCall.Trim other = refl
    by AdminCall.Seal (answer.Flag sealed) = refl
    by AdminCall.Seal other = refl
    by AdminCall.Stat (answer.Stat windows items cursors saved high) = refl
    by AdminCall.Stat other = refl
    by AdminCall.Show (answer.Shown role uuid ss se at image) = image_calm image
    by AdminCall.Show other = refl
    by AdminCall.Log (answer.Logged log) = refl
    by AdminCall.Log other = refl

-- a call that keeps its vBucket's role writes nothing down
pub admin_spared : (n v : ℕ) (asked : AdminCall) → admin_job n v asked ≡ lift (admin_at n v asked) → (node : PlainNode) → Spared (admin_line n v asked node).1
admin_spared n v asked job node = subst (λ j. Spared (call_told (after_job j node.vbs node.shelves).1)) (sym job) (call_spared n v asked (call_at node.vbs v (admin_call asked) (node.vbs v)).1)

-- ---- changes of role

-- what is told of one
call_calm : (n v : ℕ) (asked : AdminCall) (o : Option VbReply) → Calm (admin_result n v asked o).events
call_calm n v asked o = spared_calm (call_told (admin_result n v asked o)) (call_spared n v asked o)

pub role_calm : (w : PlainWorld) (n v : ℕ) (asked : AdminCall) → admin_job n v asked ≡ role_at n v asked → IsRanged w → Calm (role_outcome n v asked w).1.events
role_calm w n v asked job ranged = by_node (w.nodes n) refl
  where
    cuts : (o : Option PlainLink) (w1 : PlainWorld) → Calm (cut_off o w1).1
    cuts None w1 = refl
    cuts (Some link) w1 = refl

    by_ended : (o : Option (List ℕ)) (w1 : PlainWorld) (told : AdminResult) → IsRanged w1 → Calm told.events → Calm (turned_if n v w o (w1, told)).1.events
    by_ended None w1 told all c = c
    by_ended (Some ids) w1 told all c =
        let w2 : PlainWorld = with_ended n v ids w1 in let own = own_link n v w2.links in
        posted (cut_off own w2).0 (record { events = (cut_off own w2).1 ++ told.events; answer = told.answer }) told.resolved (cut_ended_ranged n v ids w1 all) (calm_more (cut_off own w2).1 told.events (cuts own w2) c)
      where
        posted : (w3 : PlainWorld) (t : Told) (rs : List Resolved) → IsRanged w3 → Calm t.events → Calm (posted_in n rs (w3, t)).1.events
        posted w3 t rs all c = by (w3.nodes n) (all n)
          where
            by : (o : Option PlainNode) → NodeRangedIf n o → Calm (posted_at n rs w3 t o).1.events
            by None r = c
            by (Some node) r = calm_more t.events (all_posted rs node).1 c (all_posts_calm n rs node r.own)

    called_calm : (node : PlainNode) → Calm (called_at n v asked node).1.events
    called_calm node = subst (λ (j : Job AdminResult). Calm (after_job j node.vbs node.shelves).1.events) (sym job)
        (after_job_always AnyCall AnyAsk (λ (told : AdminResult). Calm told.events) (role_at n v asked) node.vbs node.shelves
        (always_bind_job AnyReply AnyCall AnyAsk (λ made. Unit {0}) (λ (told : AdminResult). Calm told.events) (role_job v (admin_call asked)) (λ made. Ended (role_noted n v asked made)) (any_job (role_job v (admin_call asked))) (λ made any. call_calm n v asked made.0)))

    node_calm : (node : PlainNode) → Calm (role_called n v asked node).1.events
    node_calm node = by (is_some node.off)
      where
        by : (b : Bool) → Calm (let x : PlainNode × AdminResult = if b then (node, admin_refused Cause.NodeDown) else under_arm v (called_at n v asked) node in x.1.events)
        by true = refl
        by false = called_calm (placed v node)

    by_node : (o : Option PlainNode) → w.nodes n ≡ o → Calm (turned_after n v w (node_outcome w n no_node o (role_called n v asked))).1.events
    by_node None e = refl
    by_node (Some node) e = let x = role_called n v asked node in by_ended x.1.ended (with_node_at w n x.0) x.1 (called_world w n v asked node e ranged) (node_calm node)

pub refused_calm : {A : Type 0} (o : Option Cause) (before : A) (x : A × Told) → Calm x.1.events → Calm (refused_or o before x).1.events
refused_calm None before x c = c
refused_calm (Some why) before x c = refl

-- ---- what is written down

flushed_calm : (n v : ℕ) (came : Flushed) → Calm (flush_result n v came).events
flushed_calm n v (flushed.Took ss se at count) = either Calm (count == 0) [] (Event.Batch n v ss se at count ∷ []) refl refl
flushed_calm n v (flushed.Done reply) = own_calm_if n v reply
flushed_calm n v other = refl

-- it was not broken off
abbrev pub Taken : Flushed → Type 0
Taken flushed.DiskFailed = ⊥
Taken other = Unit {0}

taken_spared : (n v : ℕ) (came : Flushed) → Taken came → FiresAsSaid None (flush_result n v came).events (flush_result n v came).answer
taken_spared n v (flushed.Took ss se at count) t = flushed_calm n v (flushed.Took ss se at count)
taken_spared n v (flushed.Done reply) t = own_calm_if n v reply
taken_spared n v flushed.DiskFailed t = absurd t
taken_spared n v other t = refl

abbrev pub Steps : (Flushed → Type 0) → Job Flushed → Type 0
Steps P job = AlwaysJob AnyReply AnyCall AnyAsk P job

-- `take` and `done` append nothing
pub take_taken : (v : ℕ) (flush : Flush) → Steps Taken (part_job v part.Take flush)
take_taken v Idle = (tt, λ reply any. by (batch_of_reply reply))
  where
    by : (o : Option Batch) → Steps Taken (taken_job v (λ batch. Ended (took batch)) o)
    by None = tt
    by (Some batch) = (tt, λ kept. tt)
take_taken v (Out batch) = tt
take_taken v (Written seq) = tt

pub done_taken : (v : ℕ) (flush : Flush) → Steps Taken (part_job v part.Done flush)
done_taken v (Written seq) = (tt, λ kept. (tt, λ reply any. tt))
done_taken v Idle = tt
done_taken v (Out batch) = tt

pub flush_steps : (P : FlushResult → Type 0) (Q : Flushed → Type 0) (n v : ℕ) (p : FlushPart) (node : PlainNode) → P (flush_answered (Answer.No Cause.UnknownVb)) → ((came : Flushed) → Q came → P (flush_result n v came))
    → ((flush : Flush) → Steps Q (part_job v p flush)) → P (after_job (flush_here n v p node) node.vbs node.shelves).1
unfolding flush_job
flush_steps P Q n v p node none some steps = after_job_always AnyCall AnyAsk P (flush_here n v p node) node.vbs node.shelves (by (is_some (node.vbs v)))
  where
    by : (b : Bool) → AlwaysJob AnyReply AnyCall AnyAsk P (flush_at n v p b)
    by true = always_bind_job AnyReply AnyCall AnyAsk Q P (flush_job v p) (λ came. Ended (flush_result n v came)) (tt, steps) some
    by false = none

pub flush_spared : (n v : ℕ) (p : FlushPart) → ((flush : Flush) → Steps Taken (part_job v p flush)) → (node : PlainNode) → AllKept n node → Spared (flush_line n v p node).1
flush_spared n v p steps node kept =
    let y = after_job (flush_here n v p node) node.vbs node.shelves in
    posts_spared n y.1 (with_kept node y.0) kept (flush_steps (λ told. FiresAsSaid None told.events told.answer) Taken n v p node refl (taken_spared n v) steps)

-- nor does what is acknowledged behind `done`
pub due_fires : (n v : ℕ) (o : Outcome) → Spared o.1 → Spared (due_in n v o).1
due_fires n v o spared = by_counted (is_counted o.1.answer) refl
  where
    counted : (said : Answer) (more : List Event) → is_counted said ≡ true → FiresAsSaid None o.1.events said → Calm more → FiresAsSaid None (o.1.events ++ more) said
    counted (Answer.Number saved) more e x c = calm_more o.1.events more x c
    counted other more e x c = cc

    by_node : is_counted o.1.answer ≡ true → (link : PlainLink) (k : Option PlainNode) → Spared (due_at n link o.0 o.1 k).1
    by_node e link None = spared
    by_node e link (Some node) = counted o.1.answer (after (dial_due (dial_of link)) node.vbs).1.events e spared (dial_due_calm (dial_of link) node.vbs)

    by_link : is_counted o.1.answer ≡ true → (l : Option PlainLink) → Spared (due_of n o.0 o.1 l).1
    by_link e None = spared
    by_link e (Some link) = by_node e link (o.0.nodes n)

    by_counted : (b : Bool) → is_counted o.1.answer ≡ b → Spared (if b then due_of n o.0 o.1 (own_link n v o.0.links) else o).1
    by_counted true e = by_link e (own_link n v o.0.links)
    by_counted false e = spared

-- ---- chains, and prepares whose time is up

settled_spared : (n v : ℕ) (o : Option VbReply) → FiresAsSaid None (settled_result n v o).events (settled_result n v o).answer
settled_spared n v None = refl
settled_spared n v (Some reply) = by reply.answer
  where
    by : (a : VbAnswer) → FiresAsSaid None (settled_by n v reply a).events (settled_by n v reply a).answer
    by answer.Done = own_calm n v reply
    by other = refl

pub settled_fires : (n v : ℕ) (c : VbCall) (node : PlainNode) → AllKept n node → (let x = call_at node.vbs v c (node.vbs v) in Spared (with_posts (settled_result n v x.1) (with_states node x.0)).1)
settled_fires n v c node kept = let x = call_at node.vbs v c (node.vbs v) in posts_spared n (settled_result n v x.1) (with_states node x.0) kept (settled_spared n v x.1)

pub save_calm : (w : PlainWorld) (n v : ℕ) → IsRanged w → Calm (on_node w n (save_line n v)).1.events
save_calm w n v ranged = on_node_by (λ o. Calm o.1.events) w n (save_line n v) refl (λ node known. refl)
    (λ node known up.
    let at : PlainNode = placed v node in let y = after_job (flush_here n v part.Save at) at.vbs at.shelves in
    let here : NodeRanged n node = subst (NodeRangedIf n) known (ranged n) in posts_calm n y.1 (with_kept at y.0) here.own (flush_steps (λ told. Calm told.events) (λ came. Unit {0}) n v part.Save at refl (λ came any. flushed_calm n v came) (λ flush. any_job (part_job v part.Save flush))))

-- ---- vBuckets that are made

branch_calm : (n v : ℕ) (role : Role) (uuid : ℕ) → Calm (branch_lines n v role uuid)
branch_calm n v Role.Active uuid = refl
branch_calm n v other uuid = refl

pub made_calm : (w : PlainWorld) (n v : ℕ) (role : Role) (uuid : ℕ) (rows : PlainNode → List (Bool × Cause)) → Calm (on_node w n (λ node. refused_or (first_cause (rows node)) node (vb_made n v role uuid node))).1.events
made_calm w n v role uuid rows = on_node_by (λ o. Calm o.1.events) w n (λ node. refused_or (first_cause (rows node)) node (vb_made n v role uuid node)) refl (λ node known. refl)
    (λ node known up. refused_calm (first_cause (rows node)) node (vb_made n v role uuid node) (branch_calm n v role uuid))

-- ---- lines that write nothing down

pub rows_fire : {A : Type 0} (rows : List (Bool × Cause)) (before : A) (x : A × Told) → AllStand rows → Spared x.1 → Spared (refused_or (first_cause rows) before x).1
rows_fire rows before x stand so = unless_refused_came (λ y. Spared y.1) rows before x stand (λ why s. standing_fires None [] why refl s) so

-- ---- bytes of a link

-- the node at which each link was dialed is told
abbrev pub DialsTold : PlainWorld → Chronicle → Type 0
DialsTold w r = (l : ℕ) (link : PlainLink) → row_at link_number l w.links ≡ Some link → option_map (λ (d : Dial). d.node) (r.dial_of l) ≡ Some (consumer_node link)

pub down_fires : (w : PlainWorld) (r : Chronicle) (l wanted : ℕ) → DialsTold w r → (let x = (down_step w l wanted).1 in FiresInLine r (verb.AtLink l (link_verb.Down wanted)) x.events x.answer)
down_fires w r l wanted dialed = by (row_at link_number l w.links) refl
  where
    at : Option ℕ
    at = option_map (λ (d : Dial). d.node) (r.dial_of l)

    answered : (link : PlainLink) (lines : List Event) (count : ℕ) (b : Bool) → Still lines → (let said : Answer = if b then Answer.No Cause.Disk else Answer.Number count in is_broken_answer said ≡ false → FiresAsSaid (Some (consumer_node link)) (beside_rollbacks lines) said)
    answered link lines count true c = λ e. cc
    answered link lines count false c = λ e. c

    at_node : (link : PlainLink) (o : Option PlainNode) → (let x = (with_broken (consumer_node link) l w (with_link link (node_outcome w (consumer_node link) (Some link, refusal Cause.UnknownNode) o (down_in wanted link)))).1 in FiresAsSaid (Some (consumer_node link)) (beside_rollbacks x.events) x.answer)
    at_node link None = refl
    at_node link (Some node) =
        let x = with_link link (with_node_at w (consumer_node link) (down_in wanted link node).0, (down_in wanted link node).1) in
        broken_fires (consumer_node link) l w x.0 x.1 (down_calm wanted link node) (answered link x.1.events _ _ (down_calm wanted link node))

    by : (o : Option PlainLink) → row_at link_number l w.links ≡ o → (let x = (down_outcome w l o (link_outcome w l consumer_node (down_in wanted) o)).1 in FiresAsSaid at (beside_rollbacks x.events) x.answer)
    by None e = standing_fires at [] Cause.LinkClosed refl tt
    by (Some link) e = subst (λ a. let x = (with_broken (consumer_node link) l w (at_end w (consumer_node link) link (down_in wanted link))).1 in FiresAsSaid a (beside_rollbacks x.events) x.answer) (sym (dialed l link e)) (at_node link (w.nodes (consumer_node link)))
