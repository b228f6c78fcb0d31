-- the branches of a node that starts have ids that its line names, in their order
use Rattle.std.specs.Prelude.{◌≡◌, ◌∷◌, ◌++◌, if◌then◌else◌}
use Rattle.transcript_law.proofs.Words.{ℕ, Bool, true, false, List, [], length, map, refl, ap, sym, ◌∙◌, subst, inl, inr, ⊎_elim, append-nil, append_assoc, Option, Some, None, Cause, Change, Event, Plain, PlainNode, PlainWorld, States, Status, Told, VbCall, VbReply, plain_step, promoted, promote_refusal}
use Rattle.transcript_law.proofs.Words.{Ended, after_job, after_job_bind, call_at, done, first_cause, refusal, refused_or}
use Rattle.disk_journals.specs.{Arms.{opens_all}, Books.{Book}}
use Rattle.node_core.specs.{Calls.{own_lines}, Flushing.{FlushResult}, Loading.{active_ones, are_short, branch_in, start_job, start_result, starts_of}}
use Rattle.node_world.specs.{Arms.{fired_by, no_arm, placed}, Power.{Starting, burnt_arm, first_no, loaded_node, not_opened, opened_at, opening_told, start_at, start_causes, start_if, start_one, start_step, started_by, starts_from}, Worlds.{on_made}}
use Rattle.node_world.specs.declared.arm.Fired.{Fired}
use Rattle.node_world.specs.declared.arm.Fired.TheVariants as fired
use Rattle.std.proofs.lemmas.Grind.{flat_map-append}
use Rattle.std.specs.List.{zip}
use Rattle.transcript_law.proofs.verbs.NodeLines.{on_made_by}
use Rattle.transcript_law.specs.Asked.{AreAmong, id_of_line, ids_in}
use Rattle.vb_calls.specs.Flushes.{is_refusal, note_role_job, role_job, role_told_job, role_of_call}
use Rattle.vb_calls.specs.Jobs.{Call as Asks}
use Rattle.vb_calls.specs.Shelves.{Shelves}
use Rattle.vb_calls.specs.declared.journals.Wrote.{Wrote}
use Rattle.vb_calls.specs.declared.journals.Wrote.TheVariants as wrote

-- ---- ids among others

pub among_more : (xs ys ws vs : List ℕ) → AreAmong xs ws → AreAmong ys vs → AreAmong (xs ++ ys) (ws ++ vs)
among_more [] ys [] vs a b = b
among_more [] [] (w ∷ ws) vs a b = tt
among_more [] (y ∷ ys) (w ∷ ws) vs a b = inr (among_more [] (y ∷ ys) ws vs tt b)
among_more (x ∷ xs) ys [] vs a b = absurd a
among_more (x ∷ xs) ys (w ∷ ws) vs a b = ⊎_elim (λ h. inl (h.0, among_more xs ys ws vs h.1 b)) (λ l. inr (among_more (x ∷ xs) ys ws vs l b)) a

-- those that are left over are not used
among_zip : (xs vs ids : List ℕ) → AreAmong xs (map (λ (p : ℕ × ℕ). p.1) (zip vs ids)) → AreAmong xs ids
among_zip [] vs ids a = tt
among_zip (x ∷ xs) [] ids a = absurd a
among_zip (x ∷ xs) (v ∷ vs) [] a = absurd a
among_zip (x ∷ xs) (v ∷ vs) (id ∷ ids) a = ⊎_elim (λ h. inl (h.0, among_zip xs vs ids h.1)) (λ l. inr (among_zip (x ∷ xs) vs ids l)) a

ids_more : (lines more : List Event) → ids_in (lines ++ more) ≡ ids_in lines ++ ids_in more
ids_more lines more = flat_map-append id_of_line lines more

-- ---- one vBucket

changes_free : (n v uuid : ℕ) (cs : List Change) → ids_in (map (Event.Changed n v uuid) cs) ≡ []
changes_free n v uuid [] = refl
changes_free n v uuid (c ∷ cs) = changes_free n v uuid cs

own_free : (n v : ℕ) (reply : VbReply) → ids_in (branch_in n v reply.answer ++ own_lines n v reply) ≡ ids_in (branch_in n v reply.answer)
own_free n v reply = ids_more (branch_in n v reply.answer) (own_lines n v reply) ∙ ap (λ ids. ids_in (branch_in n v reply.answer) ++ ids) (changes_free n v reply.branch reply.changes) ∙ append-nil (ids_in (branch_in n v reply.answer))

-- it makes the branch that it is asked for, or none
branches_so : (n v uuid : ℕ) (vb : Plain) → AreAmong (ids_in (branch_in n v (plain_step vb (VbCall.Promote uuid)).1.answer)) (uuid ∷ [])
branches_so n v uuid vb = by (promote_refusal vb uuid)
  where
    by : (o : Option Status) → AreAmong (ids_in (branch_in n v (promoted o vb uuid).1.answer)) (uuid ∷ [])
    by (Some st) = tt
    by None = inl (refl, tt)

one_among : (n v uuid : ℕ) (states : States) (shelves : Shelves) → AreAmong (ids_in (after_job (start_job n v uuid) states shelves).1.events) (uuid ∷ [])
unfolding role_job
one_among n v uuid states shelves =
    subst (λ (y : (States × Shelves) × FlushResult). AreAmong (ids_in y.1.events) (uuid ∷ [])) (sym (after_job_bind (role_job v (VbCall.Promote uuid)) (λ made. Ended (start_result n v made)) states shelves)) (by (states v))
  where
    Noted : (States × Shelves) × (Option VbReply × Wrote) → Type 0
    Noted y = AreAmong (ids_in (start_result n v y.1).events) (uuid ∷ [])

    made : (reply : VbReply) (st : States) → AreAmong (ids_in (branch_in n v reply.answer)) (uuid ∷ []) → (b : Bool)
        → Noted (after_job (if b then Ended (Some reply, wrote.NotAsked) else Asks v VbCall.Log (note_role_job v (role_of_call (VbCall.Promote uuid)) reply)) st shelves)
    made reply st a true = subst (λ ids. AreAmong ids (uuid ∷ [])) (sym (own_free n v reply)) a
    made reply st a false = subst (λ ids. AreAmong ids (uuid ∷ [])) (sym (own_free n v reply)) a

    by : (o : Option Plain) → Noted (let y = call_at states v (VbCall.Promote uuid) o in after_job (role_told_job v (VbCall.Promote uuid) y.1) y.0 shelves)
    by None = tt
    by (Some vb) = let x = plain_step vb (VbCall.Promote uuid) in made x.1 (call_at states v (VbCall.Promote uuid) (Some vb)).0 (branches_so n v uuid vb) (is_refusal x.1.answer)

-- ---- all of them

module _ (n : ℕ) where
  -- the words of these starts
  abbrev words : List (ℕ × ℕ) → List ℕ
  words starts = map (λ (p : ℕ × ℕ). p.1) starts

  starts_among : (starts : List (ℕ × ℕ)) (so_far : Starting) (used : List ℕ) → AreAmong (ids_in so_far.1.events) used → AreAmong (ids_in (starts_from n starts so_far).1.events) (used ++ words starts)
  starts_among [] so_far used a = subst (AreAmong (ids_in so_far.1.events)) (sym (append-nil used)) a
  starts_among (start ∷ starts) so_far used a = by (fired_by so_far.0.arm.fuse (start_one n start so_far.0).0.arm.fuse) (starts_among starts)
    where
      one : FlushResult
      one = (start_one n start so_far.0).1

      more : AreAmong (ids_in (so_far.1.events ++ one.events)) (used ++ start.1 ∷ [])
      more = subst (λ ids. AreAmong ids (used ++ start.1 ∷ [])) (sym (ids_more so_far.1.events one.events))
          (among_more (ids_in so_far.1.events) (ids_in one.events) used (start.1 ∷ []) a (let at : PlainNode = placed start.0 so_far.0 in one_among n start.0 start.1 at.vbs at.shelves))

      -- a line of an arm has no id
      behind : (line : Event) → id_of_line line ≡ [] → AreAmong (ids_in (so_far.1.events ++ one.events ++ line ∷ [])) (used ++ start.1 ∷ [])
      behind line none = subst (λ ids. AreAmong ids (used ++ start.1 ∷ [])) (sym (ids_more (so_far.1.events ++ one.events) (line ∷ []) ∙ ap (λ ids. ids_in (so_far.1.events ++ one.events) ++ (ids ++ [])) none ∙ append-nil (ids_in (so_far.1.events ++ one.events)))) more

      longer : (ids : List ℕ) → AreAmong ids (used ++ start.1 ∷ []) → AreAmong ids (used ++ words (start ∷ starts))
      longer ids x = subst (AreAmong ids) (append_assoc used (start.1 ∷ []) (words starts)) (subst (λ k. AreAmong k ((used ++ start.1 ∷ []) ++ words starts)) (append-nil ids) (among_more ids [] (used ++ start.1 ∷ []) (words starts) x tt))

      onward : (ids : List ℕ) → AreAmong ids ((used ++ start.1 ∷ []) ++ words starts) → AreAmong ids (used ++ words (start ∷ starts))
      onward ids x = subst (AreAmong ids) (append_assoc used (start.1 ∷ []) (words starts)) x

      by : (f : Fired) → ((x : Starting) (used : List ℕ) → AreAmong (ids_in x.1.events) used → AreAmong (ids_in (starts_from n starts x).1.events) (used ++ words starts))
          → AreAmong (ids_in (started_by n so_far.0.arm f (start_one n start so_far.0).1 so_far.1 (start_one n start so_far.0).0 (starts_from n starts)).1.events) (used ++ words (start ∷ starts))
      by fired.No later =
          let x : Starting = ((start_one n start so_far.0).0, record { events = so_far.1.events ++ one.events; answer = first_no so_far.1.answer one.answer }) in
          onward (ids_in (starts_from n starts x).1.events) (later x (used ++ start.1 ∷ []) more)
      by fired.Failed later =
          let x : Starting = ((start_one n start so_far.0).0, record { events = so_far.1.events ++ one.events ++ Event.CallFailed n ∷ []; answer = first_no so_far.1.answer one.answer }) in
          onward (ids_in (starts_from n starts x).1.events) (later x (used ++ start.1 ∷ []) (behind (Event.CallFailed n) refl))
      by fired.Stopped later = longer (ids_in (so_far.1.events ++ one.events ++ Event.NodeStopped n ∷ [])) (behind (Event.NodeStopped n) refl)

  start_among : (uuids : List ℕ) (node : PlainNode) → AreAmong (ids_in (start_at n uuids node).1.events) uuids
  start_among uuids node = by node.off
    where
      opening : (f : Fired) → AreAmong (ids_in (opening_told n f).events) uuids
      opening fired.No = tt
      opening fired.Failed = tt
      opening fired.Stopped = tt

      shorts : (books : List Book) (b : Bool)
          → (let x : PlainNode × Told = if b then (record node { arm = burnt_arm (length books) node.arm }, refusal Cause.IdsShort) else starts_from n (starts_of books uuids) (loaded_node n books (burnt_arm (length books) node.arm), done []) in AreAmong (ids_in x.1.events) uuids)
      shorts books true = tt
      shorts books false = let before : Starting = (loaded_node n books (burnt_arm (length books) node.arm), done []) in
          among_zip (ids_in (starts_from n (starts_of books uuids) before).1.events) (active_ones books) uuids (starts_among (starts_of books uuids) before [] tt)

      opens : (books : List Book) (b : Bool) → (let x : PlainNode × Told = if b then opened_at n uuids books node else not_opened n node in AreAmong (ids_in x.1.events) uuids)
      opens books true = shorts books (are_short books uuids)
      opens books false = opening (fired_by node.arm.fuse no_arm.fuse)

      by : (o : Option (List Book)) → AreAmong (ids_in (start_if n uuids node o).1.events) uuids
      by None = tt
      by (Some books) = opens books (opens_all node.arm.fuse (length books))

pub start_asked : (w : PlainWorld) (n : ℕ) (uuids : List ℕ) → AreAmong (ids_in (start_step w n uuids).1.events) uuids
start_asked w n uuids = by (first_cause (start_causes w n uuids))
  where
    by : (why : Option Cause) → AreAmong (ids_in (refused_or why w (on_made w n (start_at n uuids))).1.events) uuids
    by (Some why) = tt
    by None = on_made_by (λ o. AreAmong (ids_in o.1.events) uuids) w n (start_at n uuids) tt (λ node known. start_among n uuids node)
