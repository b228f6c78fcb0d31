-- no call of a vBucket forgets who waits for a durable write
use Rattle.std.specs.Prelude.{◌≡◌, ◌≢◌, ◌∷◌, ◌++◌, ◌⊎◌, ◌+◌, ◌<◌, ◌≤◌, ◌^◌, ◌&&◌, if◌then◌else◌}
use Rattle.transcript_law.proofs.Words.{ℕ, Bool, true, false, List, [], refl, ap, sym, ◌∙◌, subst, inl, inr, ⊎_elim, arith, fold, nat_tests, ne_eqb, Option, Some, None, Change, Plain, Status, VbCall, VbReply, Sound, Write, is_active, new_cas, plain_step}
use Rattle.transcript_law.proofs.answers.Awaited.{idle_none}
use Rattle.transcript_law.specs.Waits.{ForgetsNone, IsTold, LeavesOthers, WaitsAsAsked, WaitsOrIsTold}
use Rattle.durability.proofs.Rising as rising
use Rattle.durability.specs.{Chains.{has_enough}, Laws.{Waits}, Outstanding.{above, acked, late, placed, upto}, declared.waiting.Waiting.{Waiting}}
use Rattle.std.proofs.Common.{leb, ltb}
use Rattle.std.proofs.lemmas.Bool.{cases_eq, le-leb, le-ltb}
use Rattle.std.specs.Prelude.{nat_lt}
use Rattle.vb_calls.specs.Durable.{Wish, aborted, durable_outcome, durable_refusal, outstanding, prepare_change, prepared_reply, prepared_vb}
use Rattle.vb_calls.specs.Following.{committed_act}
use Rattle.vb_calls.specs.Settling.{Resolving, and_settled, committed_by, given_up, has_seqno, may_commit, outcome_for, resolved_by, settled, settled_from, unresolved}
use Rattle.vb_calls.specs.State.{newest_branch, pending_of}
use Rattle.vb_calls.specs.declared.calls.Resolution.TheVariants as resolution
use Rattle.vb_calls.specs.declared.calls.Resolution.{Resolution}
use Rattle.vb_calls.specs.declared.calls.Resolved.{Resolved}
use Rattle.vb_calls.specs.declared.calls.VbAnswer.TheVariants as answer
use Rattle.vb_types.specs.declared.position.TheConstants.{MAX_SEQ}
use Rattle.vb_types.specs.declared.change.Act.TheVariants as act
use Rattle.vbucket.proofs.Committing.{commits}
use Rattle.vbucket.proofs.Prepares.{gone, put, waits_above}
use Rattle.vbucket.proofs.Preparing.{in_late}
use Rattle.vbucket.proofs.RowIs.{RowIs, StartIs, Adopts, Chains, Counts, Expires, Flushes, Inherits, Leads, Marks, Prepares, Receives, Rolls, Saves, Seals, Settles, Streams, Tells, Trims, Turns, Writes, Yields, row_is}
use Rattle.vbucket.proofs.Soundness.{start_sound}
use Rattle.vbucket.proofs.Storing.{seqs_at}
use Rattle.vbucket.specs.Committing.{Commits, CommitsAll, Tells as TellsWho}
use Rattle.vbucket.specs.DurableLaws.{durably}
use Rattle.vbucket.specs.Laws.{Ascend, IsTimely}
use Rattle.vbucket.specs.Settles.{IsSettled}

-- ---- outcomes that are told

pub told_left : (k : ℕ) (xs ys : List Resolved) → IsTold k xs → IsTold k (xs ++ ys)
told_left k [] ys i = absurd i
told_left k (x ∷ xs) ys i = ⊎_elim (λ e. inl e) (λ j. inr (told_left k xs ys j)) i

pub told_right : (k : ℕ) (xs ys : List Resolved) → IsTold k ys → IsTold k (xs ++ ys)
told_right k [] ys i = i
told_right k (x ∷ xs) ys i = inr (told_right k xs ys i)

-- the first of them, and those behind it
first_told : (w : Waiting) (how : Resolution) (told rest : List Resolved) → TellsWho w how told rest → w.waiter ≢ 0 → IsTold w.waiter told
first_told w how told rest t some = subst (IsTold w.waiter) (sym (t.1 some)) (inl refl)

later_told : (w : Waiting) (how : Resolution) (told rest : List Resolved) → TellsWho w how told rest → (k : ℕ) → IsTold k rest → IsTold k told
later_told w how told rest t k i = ⊎_elim (λ e. subst (IsTold k) (sym (t.0 e)) i) (λ ne. subst (IsTold k) (sym (t.1 ne)) (inr i)) (cases_eq w.waiter 0)

own_told : (w : Waiting) (how : Resolution) → w.waiter ≢ 0 → IsTold w.waiter (outcome_for w.waiter how)
own_told w how some = subst (λ b. IsTold w.waiter (if b then [] else record { waiter = w.waiter; how = how } ∷ [])) (sym (ne_eqb w.waiter 0 some)) (inl refl)

-- where all are given up, each is told
all_told : (ws : List Waiting) (w : Waiting) → w.waiter ≢ 0 → Waits w ws → IsTold w.waiter (given_up ws)
all_told [] w some i = absurd i
all_told (x ∷ ws) w some i = ⊎_elim
    (λ e. told_left w.waiter (outcome_for x.waiter resolution.Ambiguous) (given_up ws) (subst (λ (y : Waiting). IsTold w.waiter (outcome_for y.waiter resolution.Ambiguous)) e (own_told w resolution.Ambiguous some)))
    (λ j. told_right w.waiter (outcome_for x.waiter resolution.Ambiguous) (given_up ws) (all_told ws w some j)) i

-- ---- what is committed

committed_told : (vb after : Plain) (cs : List Change) (told : List Resolved) → CommitsAll vb cs told after → (w : Waiting) → w.waiter ≢ 0 → Waits w vb.waiting → Waits w after.waiting ⊎ IsTold w.waiter told
committed_told vb after [] told k w some i = inl (subst (λ (x : Plain). Waits w x.waiting) (sym k.1) i)
committed_told vb after (c ∷ cs) told k w some i = ⊎_elim
    (λ e. inr (subst (λ (y : Waiting). IsTold y.waiter told) (sym e) (first_told k.0 _ told k.2 k.4.tells (subst (λ (y : Waiting). y.waiter ≢ 0) e some))))
    (λ j. ⊎_elim (λ a. inl a) (λ b. inr (later_told k.0 _ told k.2 k.4.tells w.waiter b)) (committed_told k.3 after cs k.2 k.5 w some j))
    (subst (Waits w) k.4.lowest i)

-- behind what a call began
commits_told : (made after : Plain × VbReply) → Commits made after → (w : Waiting) → w.waiter ≢ 0 → WaitsOrIsTold w made → WaitsOrIsTold w after
commits_told made after c w some x =
    let k = c.commits in
    ⊎_elim
    (λ i. ⊎_elim (λ a. inl a) (λ t. inr (subst (IsTold w.waiter) (sym k.4) (told_right w.waiter made.1.resolved k.1 t))) (committed_told made.0 after.0 k.0 k.1 k.2 w some i))
    (λ t. inr (subst (IsTold w.waiter) (sym k.4) (told_left w.waiter made.1.resolved k.1 t))) x

-- ---- each call

-- two of them with one seqno are one
pub one_each : (ws : List Waiting) (v w : Waiting) → Ascend ws → Waits v ws → Waits w ws → v.seq ≡ w.seq → v ≡ w
one_each [] v w a i j e = absurd i
one_each (x ∷ ws) v w a i j e = ⊎_elim
    (λ s. ⊎_elim (λ t. s ∙ sym t) (λ k. let l = waits_above x.seq ws w a.0 k in let n : v.seq ≡ x.seq = ap (λ (y : Waiting). y.seq) s in absurd (omega (arith, l, n, e))) j)
    (λ k. ⊎_elim (λ t. let l = waits_above x.seq ws v a.0 k in let n : w.seq ≡ x.seq = ap (λ (y : Waiting). y.seq) t in absurd (omega (arith, l, n, e))) (λ m. one_each ws v w a.1 k m e) j) i

-- some of a vBucket's prepares were given up: this one waits, or who waits for it was told
record GaveOr (w : Waiting) (s : Resolving) : Type 0 where
  pub ascend : Ascend s.vb.waiting
  pub either : Waits w s.vb.waiting ⊎ IsTold w.waiter s.resolved

gave_one : (vb : Plain) (x w : Waiting) (s : Resolving) → Ascend vb.waiting → Waits x vb.waiting → Waits w vb.waiting → w.waiter ≢ 0 → GaveOr w s → GaveOr w (aborted s x)
gave_one vb x w s rise i j some g = by (has_seqno s.vb)
  where
    next : Resolving
    next = resolved_by (act.Abort x.seq) resolution.Ambiguous x s

    went : Waits w s.vb.waiting ⊎ IsTold w.waiter s.resolved → Waits w next.vb.waiting ⊎ IsTold w.waiter next.resolved
    went = ⊎_elim
        (λ here. ⊎_elim
        (λ e. let same : w ≡ x = one_each vb.waiting w x rise j i e in
        inr (told_right w.waiter s.resolved (outcome_for x.waiter resolution.Ambiguous) (subst (λ (y : Waiting). IsTold w.waiter (outcome_for y.waiter resolution.Ambiguous)) same (own_told w resolution.Ambiguous some))))
        (λ ne. inl ((gone x.seq s.vb.waiting g.ascend).stays w here ne))
        (cases_eq w.seq x.seq))
        (λ told. inr (told_left w.waiter s.resolved (outcome_for x.waiter resolution.Ambiguous) told))

    by : (b : Bool) → GaveOr w (if b then next else s)
    by true = record { ascend = (gone x.seq s.vb.waiting g.ascend).ascend; either = went g.either }
    by false = g

gave_all : (vb : Plain) (todo : List Waiting) (w : Waiting) (s : Resolving) → Ascend vb.waiting → ((x : Waiting) → Waits x todo → Waits x vb.waiting) → Waits w vb.waiting → w.waiter ≢ 0 → GaveOr w s → GaveOr w (fold aborted s todo)
gave_all vb [] w s rise among j some g = g
gave_all vb (x ∷ todo) w s rise among j some g = gave_all vb todo w (aborted s x) rise (λ y i. among y (inr i)) j some (gave_one vb x w s rise (among x (inl refl)) j some g)

-- no outstanding prepare has the next seqno
low : (vb : Plain) → Sound vb → (v : Waiting) → Waits v vb.waiting → v.seq < vb.position.at + 1
low vb s v i = let k = s.waits.backed v i in let m = seqs_at vb s v.key k.0 k.1 in let n = k.2 in omega arith

start_told : (vb : Plain) {made : VbCall} {start : Plain × VbReply} → StartIs vb made start → Sound vb → IsTimely made → ForgetsNone vb (and_settled start)
start_told vb (Prepares write clock wish free) s t w some i =
    let start : Plain × VbReply = (prepared_vb vb write wish (new_cas clock vb.last_cas), prepared_reply (newest_branch vb.log) (prepare_change vb write wish.level (new_cas clock vb.last_cas)) (new_cas clock vb.last_cas)) in
    commits_told start (and_settled start) (commits start (start_sound vb (Prepares write clock wish free) s t)) w some
    (inl ((put (outstanding write wish (vb.position.at + 1)) vb.waiting s.waits.ascend (λ v j e. let l = low vb s v j in omega (arith, l, e))).stays w i))
start_told vb {start = start} (Chains chain on) s t w some i = commits_told start (and_settled start) (commits start (start_sound vb (Chains chain on) s t)) w some (inl i)
start_told vb {start = start} (Counts member seq on) s t w some i = commits_told start (and_settled start) (commits start (start_sound vb (Counts member seq on) s t)) w some (inl i)
start_told vb {start = start} (Expires clock on) s t w some i =
    let g = gave_all vb (late clock vb.waiting) w (unresolved vb) s.waits.ascend (λ x j. (in_late clock vb.waiting x j).0) i some (record { ascend = s.waits.ascend; either = inl i }) in
    commits_told start (and_settled start) (commits start (start_sound vb (Expires clock on) s t)) w some g.either
start_told vb {start = start} (Saves seq) s t w some i = commits_told start (and_settled start) (commits start (start_sound vb (Saves seq) s t)) w some (inl i)
start_told vb {start = start} (Leads uuid free) s t w some i =
    commits_told start (and_settled start) (commits start (start_sound vb (Leads uuid free) s t)) w some (inr (all_told vb.waiting w some i))
start_told vb {start = start} (Inherits free) s t w some i =
    commits_told start (and_settled start) (commits start (start_sound vb (Inherits free) s t)) w some (inr (all_told vb.waiting w some i))

row_told : (vb : Plain) {made : VbCall} {after : Plain × VbReply} → RowIs vb made after → Sound vb → IsTimely made → ForgetsNone vb after
row_told vb (Tells c said) s t w some i = inl i
row_told vb (Streams c streams said is) s t w some i = inl i
row_told vb (Adopts log f) s t w some i = inl i
row_told vb (Marks start end f fits) s t w some i = inl i
row_told vb (Seals was) s t w some i = inl i
row_told vb Trims s t w some i = inl i
row_told vb (Flushes x e) s t w some i = inl i
row_told vb (Writes write clock free) s t w some i = inl i
row_told vb (Receives c a f next is) s t w some i = absurd (idle_none vb w s f i)
row_told vb (Settles c start is) s t w some i = start_told vb is s t w some i
row_told vb (Rolls at image cas f) s t w some i = absurd (idle_none vb w s f i)
row_told vb (Turns c new loud idle) s t w some i = inr (all_told vb.waiting w some i)
row_told vb (Yields id stream on at) s t w some i = inr (all_told vb.waiting w some i)

pub calls_forget_none : (vb : Plain) (made : VbCall) → Sound vb → IsTimely made → ForgetsNone vb (plain_step vb made)
calls_forget_none vb made s t = row_told vb (row_is vb made) s t

-- ---- a durable write

module _ (vb : Plain) (write : Write) (clock : ℕ) (wish : Wish) (s : Sound vb) (small : clock < 2 ^ 64) (some : wish.waiter ≢ 0) where
  abbrev kept : ℕ
  kept = new_cas clock vb.last_cas

  abbrev start : Plain × VbReply
  start = (prepared_vb vb write wish kept, prepared_reply (newest_branch vb.log) (prepare_change vb write wish.level kept) kept)

  there : durable_refusal vb write ≡ None → WaitsAsAsked write wish (vb.position.at + 1) (and_settled start)
  there free =
      commits_told start (and_settled start) (commits start (start_sound vb (Prepares write clock wish free) s small)) (outstanding write wish (vb.position.at + 1)) some
      (inl (put (outstanding write wish (vb.position.at + 1)) vb.waiting s.waits.ascend (λ v j e. let l = low vb s v j in omega (arith, l, e))).there)

  by_refusal : (seq cas : ℕ) (why : Option Status) → durable_refusal vb write ≡ why → (durable_outcome why vb write wish kept).1.answer ≡ answer.Prepared seq cas → WaitsAsAsked write wish seq (durable_outcome why vb write wish kept)
  by_refusal seq cas (Some st) e said = cc
  by_refusal seq cas None e said = let same : vb.position.at + 1 ≡ seq = cc in subst (λ n. WaitsAsAsked write wish n (and_settled start)) same (there e)

pub places : (vb : Plain) (write : Write) (clock : ℕ) (wish : Wish) (seq cas : ℕ) → Sound vb → clock < 2 ^ 64 → wish.waiter ≢ 0
    → (plain_step vb (durably write clock wish)).1.answer ≡ answer.Prepared seq cas → WaitsAsAsked write wish seq (plain_step vb (durably write clock wish))
places vb write clock wish seq cas s small some said = by_refusal vb write clock wish s small some seq cas (durable_refusal vb write) refl said

-- the lowest prepare stays the lowest
placed_later : (p w : Waiting) (ws : List Waiting) → w.seq ≤ p.seq → placed p (w ∷ ws) ≡ w ∷ placed p ws
placed_later p w ws l =
    ap (λ xs. xs ++ p ∷ above p.seq (w ∷ ws)) (rising.kept (λ v. leb v.seq p.seq) w ws (upto p.seq ws) (le-leb w.seq p.seq l) refl)
    ∙ ap (λ xs. w ∷ upto p.seq ws ++ p ∷ xs) (rising.left (λ v. ltb p.seq v.seq) w ws (above p.seq ws) (le-ltb p.seq w.seq l) refl)

seq_later : (at : ℕ) → nat_lt at MAX_SEQ ≡ false → nat_lt (at + 1) MAX_SEQ ≡ false
seq_later at e = grind (arith, nat_tests)

none_later : (a : Bool) (at : ℕ) → (a && nat_lt at MAX_SEQ) ≡ false → (a && nat_lt (at + 1) MAX_SEQ) ≡ false
none_later true at e = seq_later at e
none_later false at e = refl

-- where the lowest may not be committed, none is
settled_none : (w : Waiting) (more : List Waiting) (vb : Plain) → may_commit vb w ≡ false → (settled_from (w ∷ more) (unresolved vb)).vb ≡ vb
settled_none w more vb e = ap (λ b. (if b then committed_by (committed_act w.seq (pending_of vb w.key)) w (settled_from more) (unresolved vb) else unresolved vb).vb) e

module _ (vb : Plain) (write : Write) (wish : Wish) (cas : ℕ) (s : Sound vb) (rest : IsSettled vb) where
  abbrev new : Waiting
  new = outstanding write wish (vb.position.at + 1)

  abbrev mid : Plain
  mid = prepared_vb vb write wish cas

  still : (ws : List Waiting) (w : Waiting) → vb.waiting ≡ ws → Waits w ws → (settled mid).vb ≡ mid
  still [] w e i = absurd i
  still (x ∷ more) w e i =
      let l = low vb s x (subst (Waits x) (sym e) (inl refl)) in
      let front : placed new vb.waiting ≡ x ∷ placed new more = ap (placed new) e ∙ placed_later new x more (omega (arith, l)) in
      by (is_active vb.role)
      (ap (λ ws. (settled_from ws (unresolved mid)).vb) front ∙ settled_none x (placed new more) mid (none_later (has_enough (acked vb.acks) vb.others vb.saved x) vb.position.at (rest x more e)))
    where
      by : (b : Bool) → (settled_from mid.waiting (unresolved mid)).vb ≡ mid → (if b then settled_from mid.waiting (unresolved mid) else unresolved mid).vb ≡ mid
      by true same = same
      by false same = refl

  stays_placed : (w : Waiting) → Waits w vb.waiting → Waits w (settled mid).vb.waiting
  stays_placed w i = subst (λ (x : Plain). Waits w x.waiting) (sym (still vb.waiting w refl i)) ((put new vb.waiting s.waits.ascend (λ v j e. let l = low vb s v j in omega (arith, l, e))).stays w i)

  outcome_leaves : (why : Option Status) → LeavesOthers vb (durable_outcome why vb write wish cas)
  outcome_leaves (Some st) w i = i
  outcome_leaves None w i = stays_placed w i

pub leaves : (vb : Plain) (write : Write) (clock : ℕ) (wish : Wish) → Sound vb → IsSettled vb → LeavesOthers vb (plain_step vb (durably write clock wish))
leaves vb write clock wish s rest = outcome_leaves vb write wish (new_cas clock vb.last_cas) s rest (durable_refusal vb write)
