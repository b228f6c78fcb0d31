-- each line for a vBucket tells what it was asked for
use Rattle.std.specs.Prelude.{◌≡◌, ◌≤◌, ◌+◌, ◌∷◌, ◌++◌, ◌⊎◌, if◌then◌else◌}
use Rattle.transcript_law.proofs.Words.{ℕ, Bool, true, false, List, [], length, map, refl, ap, sym, ◌∙◌, subst, append-nil, arith, inl, inr, ⊎_elim, append_assoc, filter-append, length-append, and_parts, not, Option, Some, None, is_some, Answer, Cause, Event, Role, VbVerb, AdminCall, AdminResult, PlainLink, PlainNode, PlainWorld, Outcome, Told, StreamName, VbAnswer, VbCall, VbReply, Picture}
use Rattle.transcript_law.proofs.Words.{admin_call, admin_line, admin_result, after_job, branch_lines, call_at, called_at, cut_off, document_line, first_cause, image_lines, no_node, node_outcome, on_node, own_link, prepare_line, promote_causes, refused_or, role_outcome, turned_after, turned_if, turn_causes, with_ended, with_node_at, IsPromotion, IsTurn, EndsWith, replica_causes, vb_causes}
use Rattle.node_core.specs.{Admin.{admin_job, admin_refused, noted_answer, promote_result, role_at, role_noted, role_result}, Calls.{own_lines}}
use Rattle.node_world.specs.{Arms.{fired_by, placed, under_arm}, Nodes.{all_posted, vb_made}, Power.{after_fire, down_lines, with_arm}, Turns.{posted_at, posted_in, role_called}, World.{vb_verb_step}, Worlds.{arm_in}}
use Rattle.node_world.specs.declared.arm.Fired.{Fired}
use Rattle.node_world.specs.declared.arm.Fired.TheVariants as fired
use Rattle.std.specs.FinMap as finite
use Rattle.transcript_law.proofs.disks.{AppendAnswers.{AllStand, AndPosts, AppendCame, append_stands_not, fuse_in, fuse_same, unless_refused_came}, AppendLines.{AnyPosts, NoLines, dead_came, follow_came, promote_came, replica_came, vb_came}}
use Rattle.transcript_law.proofs.{disks.Burning.{quiet_same}, invariant.Ranged.{IsRanged, NodeRangedIf, called_world, cut_ended_ranged}}
use Rattle.transcript_law.proofs.lines.{Calm.{AnyAsk, any_job}, ClientLines.{AllKept}, Refusals.{Same}}
use Rattle.transcript_law.proofs.verbs.{LineAnswers.{new_shut_at, shut_at}, NodeLines.{on_node_by}, Tellings.{Are, are_down, are_map, are_more, are_posts}}
use Rattle.transcript_law.specs.Asked.{AskedOfVb, IsLogLine, IsRefused, IsShowLine, IsStatLine, RisesOn, TellsIfDone, TellsOnce, TurnsTo, is_turn, turns_in}
use Rattle.transcript_law.specs.{Plainness.{IsOfClient}, Tellings.{is_of_image}}
use Rattle.vb_calls.proofs.JobConduct.{after_job_always, always_bind_job}
use Rattle.vb_calls.specs.Flushes.{role_job}
use Rattle.vb_calls.specs.Jobs.{Job, Ended}
use Rattle.vb_calls.specs.Programs.{AnyCall, AnyReply}
use Rattle.vb_calls.specs.declared.calls.Resolved.{Resolved}
use Rattle.vb_calls.specs.declared.calls.VbAnswer.TheVariants as answer
use Rattle.vb_calls.specs.declared.journals.Wrote.{Wrote}

-- ---- what a vBucket shows

image_is : (image : Picture) → Are is_of_image (image_lines image)
image_is image = are_more is_of_image (map document_line (finite.entries image.docs)) (map prepare_line (finite.entries image.pending))
    (are_map is_of_image document_line (finite.entries image.docs) (λ x. refl)) (are_map is_of_image prepare_line (finite.entries image.pending) (λ x. refl))

module _ (n v : ℕ) where
  abbrev Shows : AdminCall → (List Event → Type 0) → Type 0
  Shows asked Own = (o : Option VbReply) → TellsIfDone Own (admin_result n v asked o).events (admin_result n v asked o).answer

  stat_shows : Shows AdminCall.Stat (IsStatLine n v)
  stat_shows None = refl
  stat_shows (Some reply) = by reply.answer
    where
      by : (a : VbAnswer) → (let x = admin_result n v AdminCall.Stat (Some (record reply { answer = a })) in TellsIfDone (IsStatLine n v) x.events x.answer)
      by (answer.Stat windows items cursors saved high) = (windows, items, cursors, saved, high, refl)
      by other = refl

  log_shows : Shows AdminCall.Log (IsLogLine n v)
  log_shows None = refl
  log_shows (Some reply) = by reply.answer
    where
      by : (a : VbAnswer) → (let x = admin_result n v AdminCall.Log (Some (record reply { answer = a })) in TellsIfDone (IsLogLine n v) x.events x.answer)
      by (answer.Logged log) = (log, refl)
      by other = refl

  show_shows : Shows AdminCall.Show (IsShowLine n v)
  show_shows None = refl
  show_shows (Some reply) = by reply.answer
    where
      by : (a : VbAnswer) → (let x = admin_result n v AdminCall.Show (Some (record reply { answer = a })) in TellsIfDone (IsShowLine n v) x.events x.answer)
      by (answer.Shown said uuid ss se at image) = (said, uuid, at, ss, se, _, _, image_lines image, refl, image_is image)
      by other = refl

  shows : (w : PlainWorld) (asked : AdminCall) (Own : List Event → Type 0) → ((node : PlainNode) → TellsIfDone Own (admin_line n v asked node).1.events (admin_line n v asked node).1.answer)
      → (let x = (on_node w n (admin_line n v asked)).1 in TellsIfDone Own x.events x.answer)
  shows w asked Own each = on_node_by (λ o. TellsIfDone Own o.1.events o.1.answer) w n (admin_line n v asked) refl (λ node known. refl) (λ node known up. each node)

-- ---- a vBucket that gets a role

-- lines of no role and of no branch
abbrev Calm : List Event → Type 0
Calm lines = turns_in lines ≡ []

abbrev is_calm : Event → Bool
is_calm line = not (is_turn line)

calm_of : (lines : List Event) → Are is_calm lines → Calm lines
calm_of [] a = refl
calm_of (line ∷ lines) a = let p = and_parts (is_calm line) _ a in by (is_turn line) p.0 (calm_of lines p.1)
  where
    by : (b : Bool) → not b ≡ true → Calm lines → (if b then line ∷ turns_in lines else turns_in lines) ≡ []
    by true e rest = cc
    by false e rest = rest

turns_front : (xs ys : List Event) → Calm xs → turns_in (xs ++ ys) ≡ turns_in ys
turns_front xs ys c = filter-append is_turn xs ys ∙ ap (λ ls. ls ++ turns_in ys) c

-- at most so many lines of a role or a branch
abbrev Few : ℕ → List Event → Type 0
Few k lines = length (turns_in lines) ≤ k

turns_sum : (xs ys : List Event) → length (turns_in (xs ++ ys)) ≡ length (turns_in xs) + length (turns_in ys)
turns_sum xs ys = ap (λ (ls : List Event). length ls) (filter-append is_turn xs ys) ∙ length-append (turns_in xs) (turns_in ys)

few_front : (k : ℕ) (xs ys : List Event) → Calm xs → Few k ys → Few k (xs ++ ys)
few_front k xs ys c f = subst (λ (ls : List Event). length ls ≤ k) (sym (turns_front xs ys c)) f

few_more : (k : ℕ) (xs ys : List Event) → Few k xs → Calm ys → Few k (xs ++ ys)
few_more k xs ys f c =
    let s = turns_sum xs ys in let z : length (turns_in ys) ≡ 0 = ap (λ (ls : List Event). length ls) c in omega (arith, s, z, f)

clients_calm : (n : ℕ) (line : Event) → IsOfClient n line → is_calm line ≡ true
clients_calm n (Event.Changed m u uuid change) c = refl
clients_calm n (Event.Reply m k bytes) c = refl
clients_calm n (Event.Closed m k) c = refl
clients_calm n (Event.Asked (StreamName.Client m k) u v ask high log said) c = refl
clients_calm n other c = absurd c

posts_calm : (n : ℕ) (rs : List Resolved) (node : PlainNode) → AllKept n node → Calm (all_posted rs node).1
posts_calm n rs node kept = calm_of (all_posted rs node).1 (are_posts is_calm n (clients_calm n) rs node kept)

changes_calm : (n v : ℕ) (reply : VbReply) → Calm (own_lines n v reply)
changes_calm n v reply = calm_of (own_lines n v reply) (are_map is_calm (Event.Changed n v reply.branch) reply.changes (λ c. refl))

-- behind the lines of a change of role stand those of its arm
pub armed_behind : (n : ℕ) (w : PlainWorld) (came : Outcome) → (behind : List Event) × ((with_arm n w came).1.events ≡ came.1.events ++ behind) × Calm behind
armed_behind n w came = by (fired_by (arm_in (w.nodes n)).fuse (arm_in (came.0.nodes n)).fuse)
  where
    by : (f : Fired) → (behind : List Event) × ((after_fire n (arm_in (w.nodes n)).out f came).1.events ≡ came.1.events ++ behind) × Calm behind
    by fired.No = ([], sym (append-nil came.1.events), refl)
    by fired.Failed = (Event.CallFailed n ∷ [], refl, refl)
    by fired.Stopped = (Event.NodeStopped n ∷ down_lines n None came.0, refl, calm_of (down_lines n None came.0) (are_down is_calm n None came.0 (λ l touched. refl) (λ c. refl)))

-- where nothing was to be appended, no arm fired
armed_refused : (n : ℕ) (w w' : PlainWorld) (told : Told) → Same w w' → IsRefused told.events told.answer → IsRefused (with_arm n w (w', told)).1.events (with_arm n w (w', told)).1.answer
armed_refused n w w' told same r = subst (λ f. IsRefused (after_fire n (arm_in (w.nodes n)).out f (w', told)).1.events (after_fire n (arm_in (w.nodes n)).out f (w', told)).1.answer)
    (sym (ap (fired_by (fuse_in w n)) (fuse_same n same) ∙ quiet_same (fuse_in w n))) r

-- what came is told, and behind it what its arm did
armed_once : (Lines Own : List Event → Type 0) (closed : Bool) (n : ℕ) (w : PlainWorld) (came : Outcome) → AppendCame Lines closed w n came → ((said : Wrote) → came.1.answer ≡ noted_answer said Answer.Ok → Lines came.1.events → (behind : List Event) → Calm behind → Own (came.1.events ++ behind))
    → TellsOnce Own (with_arm n w came).1.events (with_arm n w came).1.answer
armed_once Lines Own closed n w came c own = ⊎_elim (λ r. inl (armed_refused n w came.0 came.1 r.3 (r.0, r.1, r.2, r.4)))
    (λ m. let b = armed_behind n w came in inr (subst Own (sym b.1) (own m.0 m.3 m.4 b.0 b.2))) c

-- ---- one that is made

branches_once : (n v uuid : ℕ) (behind : List Event) → Calm behind → RisesOn n v uuid (branch_lines n v Role.Active uuid ++ behind)
branches_once n v uuid behind c = record { parent = None; fork = 0; high = 0; front = []; behind = behind; together = refl; alone = ap (λ ls. Event.Branch n v uuid None 0 0 ∷ Event.Role n v Role.Active ∷ ls) c }

-- where a record was to be appended, these are its lines
made_lines : (w : PlainWorld) (n v : ℕ) (role : Role) (uuid : ℕ) (rows : PlainNode → List _) → ((node : PlainNode) → AllStand (rows node))
    → (let o = on_node w n (λ node. refused_or (first_cause (rows node)) node (vb_made n v role uuid node)) in IsRefused o.1.events o.1.answer ⊎ (o.1.events ≡ branch_lines n v role uuid))
made_lines w n v role uuid rows stand = on_node_by (λ o. IsRefused o.1.events o.1.answer ⊎ (o.1.events ≡ branch_lines n v role uuid)) w n (λ node. refused_or (first_cause (rows node)) node (vb_made n v role uuid node))
    (inl (Cause.UnknownNode, refl, tt, refl)) (λ node known. inl (Cause.NodeDown, refl, tt, refl))
    (λ node known up. unless_refused_came (λ x. IsRefused x.1.events x.1.answer ⊎ (x.1.events ≡ branch_lines n v role uuid)) (rows node) node (vb_made n v role uuid node) (stand node) (λ why s. inl (why, refl, s, refl)) (inr refl))

not_refused : (lines : List Event) (said : Answer) (wrote : Wrote) → said ≡ noted_answer wrote Answer.Ok → IsRefused lines said → ⊥
not_refused lines said wrote e r = append_stands_not wrote r.0 (sym e ∙ r.1) r.2

module _ (w : PlainWorld) (n v : ℕ) where
  makes_active : (uuid : ℕ) → (let x = (vb_verb_step w n v (VbVerb.MakeActive uuid)).1 in TellsOnce (RisesOn n v uuid) x.events x.answer)
  makes_active uuid =
      let o = on_node w n (λ node. refused_or (first_cause (vb_causes w.uuids node v uuid)) node (vb_made n v Role.Active uuid node)) in
      armed_once NoLines (RisesOn n v uuid) (new_shut_at w n v) n w o (vb_came (new_shut_at w n v) w n v (λ none. refl) uuid) (λ wrote e any behind c.
      ⊎_elim (λ r. absurd (not_refused o.1.events o.1.answer wrote e r)) (λ is. subst (λ ls. RisesOn n v uuid (ls ++ behind)) (sym is) (branches_once n v uuid behind c))
      (made_lines w n v Role.Active uuid (λ node. vb_causes w.uuids node v uuid) (λ node. (tt, (tt, (tt, (tt, tt)))))))

  makes_replica : (let x = (vb_verb_step w n v VbVerb.MakeReplica).1 in TellsOnce (TurnsTo n v Role.Replica) x.events x.answer)
  makes_replica =
      let o = on_node w n (λ node. refused_or (first_cause (replica_causes node v)) node (vb_made n v Role.Replica 0 node)) in
      armed_once NoLines (TurnsTo n v Role.Replica) (new_shut_at w n v) n w o (replica_came (new_shut_at w n v) w n v (λ none. refl)) (λ wrote e any behind c.
      ⊎_elim (λ r. absurd (not_refused o.1.events o.1.answer wrote e r)) (λ is. subst (λ ls. TurnsTo n v Role.Replica (ls ++ behind)) (sym is) (ap (λ ls. Event.Role n v Role.Replica ∷ ls) c))
      (made_lines w n v Role.Replica 0 (λ node. replica_causes node v) (λ node. (tt, (tt, tt)))))

-- ---- one that turns

-- a change of role has at most so many lines of this kind
module _ (n v : ℕ) (w : PlainWorld) (asked : AdminCall) (k : ℕ) (job : admin_job n v asked ≡ role_at n v asked) (call_few : (o : Option VbReply) → Few k (admin_result n v asked o).events) where
  called_few : (node : PlainNode) → Few k (called_at n v asked node).1.events
  called_few node = subst (λ (j : Job AdminResult). Few k (after_job j node.vbs node.shelves).1.events) (sym job)
      (after_job_always AnyCall AnyAsk (λ (told : AdminResult). Few k told.events) (role_at n v asked) node.vbs node.shelves
      (always_bind_job AnyReply AnyCall AnyAsk (λ made. Unit {0}) (λ (told : AdminResult). Few k told.events) (role_job v (admin_call asked)) (λ made. Ended (role_noted n v asked made)) (any_job (role_job v (admin_call asked))) (λ made any. call_few made.0)))

  cut_calm : (o : Option PlainLink) (w1 : PlainWorld) → Calm (cut_off o w1).1
  cut_calm None w1 = refl
  cut_calm (Some link) w1 = refl

  posted : (w3 : PlainWorld) (t : Told) (rs : List Resolved) → IsRanged w3 → Few k t.events → Few k (posted_in n rs (w3, t)).1.events
  posted w3 t rs all f = by (w3.nodes n) (all n)
    where
      by : (o : Option PlainNode) → NodeRangedIf n o → Few k (posted_at n rs w3 t o).1.events
      by None r = f
      by (Some node) r = few_more k t.events (all_posted rs node).1 f (posts_calm n rs node r.own)

  by_ended : (o : Option (List ℕ)) (w1 : PlainWorld) (told : AdminResult) → IsRanged w1 → Few k told.events → Few k (turned_if n v w o (w1, told)).1.events
  by_ended None w1 told all f = f
  by_ended (Some ids) w1 told all f =
      let w2 : PlainWorld = with_ended n v ids w1 in let own = own_link n v w2.links in
      posted (cut_off own w2).0 (record { events = (cut_off own w2).1 ++ told.events; answer = told.answer }) told.resolved (cut_ended_ranged n v ids w1 all) (few_front k (cut_off own w2).1 told.events (cut_calm own w2) f)

  role_few : (node : PlainNode) → Few k (role_called n v asked node).1.events
  role_few node = by (is_some node.off)
    where
      by : (b : Bool) → Few k (let x : PlainNode × AdminResult = if b then (node, admin_refused Cause.NodeDown) else under_arm v (called_at n v asked) node in x.1.events)
      by true = omega arith
      by false = called_few (placed v node)

  outcome_few : IsRanged w → Few k (role_outcome n v asked w).1.events
  outcome_few ranged = by (w.nodes n) refl
    where
      by : (o : Option PlainNode) → w.nodes n ≡ o → Few k (turned_after n v w (node_outcome w n no_node o (role_called n v asked))).1.events
      by None e = omega arith
      by (Some node) e = let x = role_called n v asked node in by_ended x.1.ended (with_node_at w n x.0) x.1 (called_world w n v asked node e ranged) (role_few node)

  turn_few : (why : Option Cause) → IsRanged w → Few k (refused_or why w (role_outcome n v asked w)).1.events
  turn_few None ranged = outcome_few ranged
  turn_few (Some why) ranged = omega arith

-- what is between is all that there is
pub none_beside : (k : ℕ) (front own behind : List Event) → Few k (front ++ (own ++ behind)) → length (turns_in own) ≡ k → Calm front × Calm behind
none_beside k front own behind f e =
    let s = turns_sum front (own ++ behind) in let t = turns_sum own behind in
    (empty (turns_in front) (omega (arith, s, t, f, e)), empty (turns_in behind) (omega (arith, s, t, f, e)))
  where
    empty : (ls : List Event) → length ls ≡ 0 → ls ≡ []
    empty [] z = refl
    empty (l ∷ ls) z = absurd (omega (arith, z))

-- a new branch and its role are all that there is of the kind
rises : (n v uuid : ℕ) (parent : Option ℕ) (fork high : ℕ) (lines front behind : List Event) → lines ≡ front ++ Event.Branch n v uuid parent fork high ∷ Event.Role n v Role.Active ∷ behind → Few 2 lines → RisesOn n v uuid lines
rises n v uuid parent fork high lines front behind e f =
    let pair : List Event = Event.Branch n v uuid parent fork high ∷ Event.Role n v Role.Active ∷ [] in
    let z = none_beside 2 front pair behind (subst (Few 2) e f) refl in record {
      parent = parent;
      fork = fork;
      high = high;
      front = front;
      behind = behind;
      together = e;
      alone = ap turns_in e ∙ turns_front front (pair ++ behind) z.0 ∙ ap (λ ls. Event.Branch n v uuid parent fork high ∷ Event.Role n v Role.Active ∷ ls) z.1;
    }

-- so is a role
turns : (n v : ℕ) (role : Role) (lines front behind : List Event) → lines ≡ front ++ Event.Role n v role ∷ behind → Few 1 lines → TurnsTo n v role lines
turns n v role lines front behind e f =
    let one : List Event = Event.Role n v role ∷ [] in
    let z = none_beside 1 front one behind (subst (Few 1) e f) refl in
    ap turns_in e ∙ turns_front front (one ++ behind) z.0 ∙ ap (λ ls. Event.Role n v role ∷ ls) z.1

-- lines that end with a line's own, what is posted, and what its arm did
beside : (lines front tail own posts behind : List Event) → lines ≡ front ++ tail → tail ≡ own ++ posts → lines ++ behind ≡ front ++ (own ++ (posts ++ behind))
beside lines front tail own posts behind e t = ap (λ ls. ls ++ behind) (e ∙ ap (λ ls. front ++ ls) t) ∙ append_assoc front (own ++ posts) behind ∙ ap (λ ls. front ++ ls) (append_assoc own posts behind)

role_rises : (n v uuid : ℕ) (o : Option VbReply) → Few 2 (admin_result n v (AdminCall.Promote uuid) o).events
role_rises n v uuid None = omega arith
role_rises n v uuid (Some reply) = by reply.answer
  where
    by : (a : VbAnswer) → Few 2 (promote_result n v reply a).events
    by (answer.Branch u parent fork high) = few_more 2 (Event.Branch n v u parent fork high ∷ Event.Role n v Role.Active ∷ []) (own_lines n v reply) (omega arith) (changes_calm n v reply)
    by (answer.Status st) = omega arith
    by other = omega arith

role_turns : (n v : ℕ) (role : Role) (reply : VbReply) (a : VbAnswer) → Few 1 (role_result n v role reply a).events
role_turns n v role reply answer.Done = omega arith
role_turns n v role reply other = omega arith

role_follows : (n v : ℕ) (o : Option VbReply) → Few 1 (admin_result n v AdminCall.Follow o).events
role_follows n v None = omega arith
role_follows n v (Some reply) = role_turns n v Role.Replica reply reply.answer

role_dies : (n v : ℕ) (o : Option VbReply) → Few 1 (admin_result n v AdminCall.Dead o).events
role_dies n v None = omega arith
role_dies n v (Some reply) = role_turns n v Role.Dead reply reply.answer

module _ (w : PlainWorld) (n v : ℕ) where
  promotes : IsRanged w → (uuid : ℕ) → (let x = (vb_verb_step w n v (VbVerb.Promote uuid)).1 in TellsOnce (RisesOn n v uuid) x.events x.answer)
  promotes ranged uuid =
      let o = refused_or (first_cause (promote_causes w n v uuid)) w (role_outcome n v (AdminCall.Promote uuid) w) in
      armed_once (EndsWith (AndPosts AnyPosts (IsPromotion n v uuid))) (RisesOn n v uuid) (shut_at w n v) n w o (promote_came AnyPosts tt (shut_at w n v) w n v (λ node e rs x same. tt) (λ vb e. refl) uuid) (λ wrote e lines behind c.
      let (front, tail, is, (own, posts, tail_is, (parent, fork, high, commits, all, own_is), any)) = lines in
      rises n v uuid parent fork high (o.1.events ++ behind) front (map (Event.Changed n v uuid) commits ++ (posts ++ behind))
      (beside o.1.events front tail own posts behind is tail_is ∙ ap (λ ls. front ++ (ls ++ (posts ++ behind))) own_is)
      (few_more 2 o.1.events behind (turn_few n v w (AdminCall.Promote uuid) 2 refl (role_rises n v uuid) (first_cause (promote_causes w n v uuid)) ranged) c))

  turned : IsRanged w → (role : Role) (asked : AdminCall) → admin_job n v asked ≡ role_at n v asked → ((o : Option VbReply) → Few 1 (admin_result n v asked o).events)
      → (let o = refused_or (first_cause (turn_causes w n v role)) w (role_outcome n v asked w) in AppendCame (EndsWith (AndPosts AnyPosts (IsTurn n v role))) (shut_at w n v) w n o
      → TellsOnce (TurnsTo n v role) (with_arm n w o).1.events (with_arm n w o).1.answer)
  turned ranged role asked job few came =
      let o = refused_or (first_cause (turn_causes w n v role)) w (role_outcome n v asked w) in
      armed_once (EndsWith (AndPosts AnyPosts (IsTurn n v role))) (TurnsTo n v role) (shut_at w n v) n w o came (λ wrote e lines behind c.
      let (front, tail, is, (own, posts, tail_is, own_is, any)) = lines in
      turns n v role (o.1.events ++ behind) front (posts ++ behind)
      (beside o.1.events front tail own posts behind is tail_is ∙ ap (λ ls. front ++ (ls ++ (posts ++ behind))) own_is)
      (few_more 1 o.1.events behind (turn_few n v w asked 1 job few (first_cause (turn_causes w n v role)) ranged) c))

  -- each verb
  pub vb_asked : IsRanged w → (what : VbVerb) → (let x = (vb_verb_step w n v what).1 in AskedOfVb n v what x.events x.answer)
  vb_asked ranged (VbVerb.MakeActive uuid) = makes_active w n v uuid
  vb_asked ranged VbVerb.MakeReplica = makes_replica w n v
  vb_asked ranged (VbVerb.Chain others) = tt
  vb_asked ranged (VbVerb.Promote uuid) = promotes ranged uuid
  vb_asked ranged VbVerb.Follow = turned ranged Role.Replica AdminCall.Follow refl (role_follows n v) (follow_came AnyPosts tt (shut_at w n v) w n v (λ node e rs x same. tt) (λ vb e. refl))
  vb_asked ranged VbVerb.Dead = turned ranged Role.Dead AdminCall.Dead refl (role_dies n v) (dead_came AnyPosts tt (shut_at w n v) w n v (λ node e rs x same. tt) (λ vb e. refl))
  vb_asked ranged VbVerb.Tick = tt
  vb_asked ranged VbVerb.Trim = tt
  vb_asked ranged VbVerb.Seal = tt
  vb_asked ranged VbVerb.Take = tt
  vb_asked ranged VbVerb.Save = tt
  vb_asked ranged VbVerb.Done = tt
  vb_asked ranged VbVerb.Stat = shows n v w AdminCall.Stat (IsStatLine n v) (λ node. stat_shows n v (call_at node.vbs v VbCall.Stat (node.vbs v)).1)
  vb_asked ranged VbVerb.Log = shows n v w AdminCall.Log (IsLogLine n v) (λ node. log_shows n v (call_at node.vbs v VbCall.Log (node.vbs v)).1)
  vb_asked ranged VbVerb.Show = shows n v w AdminCall.Show (IsShowLine n v) (λ node. show_shows n v (call_at node.vbs v VbCall.Show (node.vbs v)).1)
