-- what is committed behind a call, one prepare after the other
use Rattle.std.proofs.Common.{◌≡◌, ◌≢◌, ℕ, ◌+◌, ◌<◌, Bool, true, false, List, [], ◌∷◌, ◌++◌, length, refl, sym, ap, subst, ◌∙◌, inl, arith}
use Rattle.std.specs.Prelude.{◌&&◌, Option, Some, None, if◌then◌else◌, nat_lt, unwrap_or}
use Rattle.std.proofs.lemmas.Bool.{ne_eqb, eq-eqb}
use Rattle.std.proofs.lemmas.Bool.Decides.{nat_tests}
use Rattle.std.proofs.lemmas.List.{append-nil, append_assoc, length-append}
use Rattle.std.proofs.lemmas.Slice.Eq.{bytes_eq-Decides}
use Rattle.durability.specs.declared.waiting.Waiting.{Waiting}
use Rattle.durability.specs.Chains.{has_enough, named}
use Rattle.durability.specs.Laws.{Waits}
use Rattle.durability.specs.Outstanding.{acked}
use Rattle.durability.proofs.Counts.{differ_true, enough_from, enough_saved, held_by}
use Rattle.vb_types.specs.declared.change.Act.{Act}
use Rattle.vb_types.specs.declared.change.Act.TheVariants as act
use Rattle.vb_types.specs.declared.change.Change.{Change}
use Rattle.vb_types.specs.declared.change.Pend.{Pend}
use Rattle.vb_types.specs.declared.position.TheConstants.{MAX_SEQ}
use Rattle.vb_types.specs.Images.{said}
use Rattle.vb_calls.specs.declared.calls.Resolution.{Resolution}
use Rattle.vb_calls.specs.declared.calls.Resolved.{Resolved}
use Rattle.vb_calls.specs.declared.calls.VbReply.{VbReply}
use Rattle.vb_calls.specs.State.{Plain, doc_at, image_in, is_active, newest_branch, pending_of}
use Rattle.vb_calls.specs.Following.{committed_act}
use Rattle.vb_calls.specs.Settling.{Resolving, and_settled, committed_by, has_seqno, is_empty, may_commit, outcome_for, resolved_by, resolving_change, settled, settled_from, unresolved}
use Rattle.vbucket.specs.Committing.{Commits, CommitsAll, IsAtRest, IsCommitted, Tells}
use Rattle.vbucket.specs.Laws.{Sound}
use Rattle.vbucket.specs.Settles.{IsSettled}
use Rattle.vbucket.proofs.Backing.{none_idle}
use Rattle.vbucket.proofs.Filling.{growth_fills}
use Rattle.vbucket.proofs.Prepares.{pend_gone, pend_stays}
use Rattle.vbucket.proofs.ReadBack.{docs_pushed, pends_pushed, said_there}
use Rattle.vbucket.proofs.Settling.{both_of, commit_sound, from_ends, has_seq, outcome, went_settled}
use Rattle.vbucket.proofs.Storing.{seqs_at}

-- what is told

pub tells : (w : Waiting) (how : Resolution) (rest : List Resolved) → Tells w how (outcome_for w.waiter how ++ rest) rest
tells w how rest = (λ e. ap (λ b. (if b then [] else record { waiter = w.waiter; how = how } ∷ []) ++ rest) (eq-eqb w.waiter 0 e), λ n. ap (λ b. (if b then [] else record { waiter = w.waiter; how = how } ∷ []) ++ rest) (ne_eqb w.waiter 0 n))

-- the lowest prepare is committed

module _ (s : Resolving) (w : Waiting) (more : List Waiting) (p : Pend) where
  abbrev commit : Act
  commit = act.Commit w.seq p.doc p.deleted

  abbrev change : Change
  change = resolving_change s.vb w commit

  abbrev next : Resolving
  next = resolved_by commit (outcome commit s) w s

  said_of : unwrap_or (if true then said commit else None) (doc_at s.vb w.key) ≡ (if p.deleted then None else Some p.doc)
  said_of = refl

  doc_after : doc_at next.vb w.key ≡ (if p.deleted then None else Some p.doc)
  doc_after = docs_pushed s.vb change w.key ∙ ap (λ b. unwrap_or (if b then said commit else None) (doc_at s.vb w.key)) ((bytes_eq-Decides w.key w.key).1 refl)

  pub is_committed : (rest : List Resolved) → Sound s.vb → is_active s.vb.role ≡ true → may_commit s.vb w ≡ true → s.vb.waiting ≡ w ∷ more → pending_of s.vb w.key ≡ Some p → p.seq ≡ w.seq → p.level ≡ w.level → next.vb.waiting ≡ more
      → IsCommitted s.vb w p change (outcome_for w.waiter (outcome commit s) ++ rest) rest next.vb
  is_committed rest sound on may is waits same level left =
      let t = both_of (has_enough (acked s.vb.acks) s.vb.others s.vb.saved w) (has_seqno s.vb) may in
      let free = has_seq s.vb.position.at t.1 in
      record {
        lowest = is ∙ ap (λ ws. w ∷ ws) (sym left);
        waits = (waits, same, level);
        held = held_by (acked s.vb.acks) s.vb.others s.vb.saved w (differ_true (named s.vb.others) sound.links.apart) t.0;
        saved = enough_saved (acked s.vb.acks) s.vb.others s.vb.saved w t.0;
        seqno = (refl, omega arith);
        change = (refl, refl);
        tells = tells w (outcome commit s) rest;
        position = refl;
        grows = refl;
        stands = λ e. doc_after ∙ ap (λ b. if b then None else Some p.doc) e;
        gone = λ e. doc_after ∙ ap (λ b. if b then None else Some p.doc) e;
        none = pends_pushed s.vb change w.key ∙ pend_gone s.vb.position.at (image_in s.vb) (s.vb.position.at + 1) w.key commit (seqs_at s.vb sound) (omega arith) tt;
        others = λ key n. (
          docs_pushed s.vb change key ∙ ap (λ o. unwrap_or o (doc_at s.vb key)) (said_there change key n),
          pends_pushed s.vb change key ∙ pend_stays (image_in s.vb) (s.vb.position.at + 1) w.key commit key (λ e. n (sym e)),
        );
        fills = growth_fills s.vb change next.vb sound on refl;
        stays = refl;
      }

-- the commit of a prepare that waits
commit_at : (prepared : ℕ) (o : Option Pend) (p : Pend) → o ≡ Some p → p.seq ≡ prepared → committed_act prepared o ≡ Some (act.Commit prepared p.doc p.deleted)
commit_at prepared o p e same = ap (committed_act prepared) e ∙ ap (λ t. if t then Some (act.Commit prepared p.doc p.deleted) else None) (eq-eqb p.seq prepared same)

-- from s to t prepares were committed, one after the other
pub record Committed (s t : Resolving) : Type 0 where
  pub all : (cs : List Change) × (told : List Resolved) × CommitsAll s.vb cs told t.vb × (t.changes ≡ s.changes ++ cs) × (t.resolved ≡ s.resolved ++ told)

committed_none : (s : Resolving) → Committed s s
committed_none s = record { all = ([], [], (refl, refl), sym (append-nil s.changes), sym (append-nil s.resolved)) }

pub committed_from : (ws : List Waiting) (s : Resolving) → Sound s.vb → is_active s.vb.role ≡ true → s.vb.waiting ≡ ws → Committed s (settled_from ws s)
committed_from [] s sound on is = committed_none s
committed_from (w ∷ more) s sound on is = by (may_commit s.vb w) (committed_act w.seq (pending_of s.vb w.key)) refl refl (λ a k e. committed_from more (resolved_by a (outcome a s) w s) k on e)
  where
    Rest : Act → Type 0
    Rest a = Sound (resolved_by a (outcome a s) w s).vb → (resolved_by a (outcome a s) w s).vb.waiting ≡ more → Committed (resolved_by a (outcome a s) w s) (settled_from more (resolved_by a (outcome a s) w s))

    first : (p : Pend) → may_commit s.vb w ≡ true → pending_of s.vb w.key ≡ Some p → p.seq ≡ w.seq → p.level ≡ w.level → committed_act w.seq (pending_of s.vb w.key) ≡ Some (act.Commit w.seq p.doc p.deleted) → Rest (act.Commit w.seq p.doc p.deleted)
        → Committed s (settled_from more (resolved_by (act.Commit w.seq p.doc p.deleted) (outcome (act.Commit w.seq p.doc p.deleted) s) w s))
    first p t waits same level e rest =
        let a = act.Commit w.seq p.doc p.deleted in
        let free = has_seq s.vb.position.at (both_of (has_enough (acked s.vb.acks) s.vb.others s.vb.saved w) (has_seqno s.vb) t).1 in
        let k = commit_sound a (outcome a s) w more s sound on free is e in
        let r = (rest k.0 k.1).all in
        record {
          all = (
            resolving_change s.vb w a ∷ r.0,
            outcome_for w.waiter (outcome a s) ++ r.1,
            (w, p, r.1, (resolved_by a (outcome a s) w s).vb, is_committed s w more p r.1 sound on t is waits same level k.1, r.2),
            r.3 ∙ append_assoc s.changes (resolving_change s.vb w a ∷ []) r.0,
            r.4 ∙ append_assoc s.resolved (outcome_for w.waiter (outcome a s)) r.1,
          );
        }

    by : (b : Bool) (o : Option Act) → may_commit s.vb w ≡ b → committed_act w.seq (pending_of s.vb w.key) ≡ o → ((a : Act) → Rest a) → Committed s (if b then committed_by o w (settled_from more) s else s)
    by false o t e rest = committed_none s
    by true None t e rest = committed_none s
    by true (Some a) t e rest =
        let b = sound.waits.backed w (subst (Waits w) (sym is) (inl refl)) in
        let there = commit_at w.seq (pending_of s.vb w.key) b.0 b.1 b.2 in
        let k : act.Commit w.seq b.0.doc b.0.deleted ≡ a = (let z = sym there ∙ e in cc) in
        subst (λ x. Committed s (settled_from more (resolved_by x (outcome x s) w s))) k (first b.0 t b.1 b.2 b.3 there (rest (act.Commit w.seq b.0.doc b.0.deleted)))

pub committed_settled : (vb : Plain) → Sound vb → Committed (unresolved vb) (settled vb)
committed_settled vb sound = by (is_active vb.role) refl
  where
    by : (b : Bool) → is_active vb.role ≡ b → Committed (unresolved vb) (if b then settled_from vb.waiting (unresolved vb) else unresolved vb)
    by true e = committed_from vb.waiting (unresolved vb) sound e refl
    by false e = committed_none (unresolved vb)

-- no more may be committed

pub none_rests : (vb : Plain) → vb.waiting ≡ [] → IsSettled vb
none_rests vb n = λ w more e. let z : [] ≡ w ∷ more = sym n ∙ e in cc

pub idle_rests : (vb : Plain) → Sound vb → is_active vb.role ≡ false → IsSettled vb
idle_rests vb s e = none_rests vb (none_idle vb.role vb.waiting e s.waits.only)

pub settled_rests : (vb : Plain) → Sound vb → IsSettled (settled vb).vb
settled_rests vb sound = by (is_active vb.role) refl
  where
    by : (b : Bool) → is_active vb.role ≡ b → IsSettled (if b then settled_from vb.waiting (unresolved vb) else unresolved vb).vb
    by true e = from_ends vb.waiting (unresolved vb) sound e refl
    by false e = idle_rests vb sound e

seq_free : (at : ℕ) → at < 281474976710656 → nat_lt at MAX_SEQ ≡ true
seq_free at l = grind (arith, nat_tests)

pub rests : (vb : Plain) → IsSettled vb → IsAtRest vb
rests vb r = λ w more e free saved enough.
    let t = r w more e in
    let k : may_commit vb w ≡ true = ap (λ b. b && has_seqno vb) (enough_from (acked vb.acks) vb.others vb.saved w saved enough) ∙ seq_free vb.position.at free in
    let z : true ≡ false = sym k ∙ t in cc

-- the branch of the changes

longer : (xs cs : List Change) (c : Change) → xs ++ c ∷ cs ≢ xs
longer xs cs c e = let l = length-append xs (c ∷ cs) in let k = ap length e in let m : length xs + (length cs + 1) ≡ length xs = omega arith in omega arith

branch_stays : (a b : ℕ) (xs cs : List Change) → xs ++ cs ≡ xs → (if is_empty cs then a else b) ≡ a
branch_stays a b xs [] e = refl
branch_stays a b xs (c ∷ cs) e = absurd (longer xs cs c e)

branch_new : (a b : ℕ) (xs cs : List Change) → xs ++ cs ≢ xs → (if is_empty cs then a else b) ≡ b
branch_new a b xs [] n = absurd (n (append-nil xs))
branch_new a b xs (c ∷ cs) n = refl

-- what a call comes to
pub commits : (made : Plain × VbReply) → Sound made.0 → Commits made (and_settled made)
commits made sound =
    let k = (committed_settled made.0 sound).all in
    let w = went_settled made.0 in
    let log : newest_branch (settled made.0).vb.log ≡ newest_branch made.0.log = ap (λ (x : Plain). newest_branch x.log) w.more.2.stays in
    record {
      answer = refl;
      ended = refl;
      commits = (k.0, k.1, k.2, ap (λ cs. made.1.changes ++ cs) k.3, ap (λ told. made.1.resolved ++ told) k.4);
      branch = (branch_stays made.1.branch (newest_branch (settled made.0).vb.log) made.1.changes (settled made.0).changes, λ n. branch_new made.1.branch (newest_branch (settled made.0).vb.log) made.1.changes (settled made.0).changes n ∙ log);
      rest = rests (and_settled made).0 (settled_rests made.0 sound);
    }
