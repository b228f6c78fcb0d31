-- what is committed behind a call
use Rattle.std.proofs.Common.{◌≡◌, ℕ, ◌+◌, ◌<◌, ◌≤◌, ◌^◌, Bool, true, false, List, [], ◌∷◌, ◌++◌, length, refl, sym, ap, subst, ◌∙◌, inl, arith}
use Rattle.std.specs.Prelude.{◌&&◌, ◌==◌, Option, Some, None, if◌then◌else◌, nat_lt}
use Rattle.std.specs.List.{fold}
use Rattle.std.proofs.lemmas.Bool.{eqb-true, eq-eqb}
use Rattle.std.proofs.lemmas.Bool.Decides.{nat_tests}
use Rattle.std.proofs.lemmas.List.{append-nil, append_assoc, length-append}
use Rattle.durability.specs.declared.waiting.Waiting.{Waiting}
use Rattle.durability.specs.Chains.{has_enough}
use Rattle.durability.specs.Laws.{Waits}
use Rattle.durability.specs.Outstanding.{acked, late, without}
use Rattle.vb_types.specs.declared.change.Act.{Act}
use Rattle.vb_types.specs.declared.change.Act.TheVariants as act
use Rattle.vb_types.specs.declared.change.Change.{Change}
use Rattle.vb_types.specs.declared.change.Pend.{Pend}
use Rattle.vb_types.specs.declared.position.TheConstants.{MAX_SEQ}
use Rattle.vb_calls.specs.declared.calls.Resolution.{Resolution}
use Rattle.vb_calls.specs.declared.calls.Resolution.TheVariants as resolution
use Rattle.vb_calls.specs.declared.calls.Resolved.{Resolved}
use Rattle.vb_calls.specs.declared.calls.VbReply.{VbReply}
use Rattle.vb_calls.specs.State.{Plain, image_in, is_active, newest_branch, pending_of}
use Rattle.vb_calls.specs.Following.{cas_of, committed_act}
use Rattle.vb_calls.specs.Durable.{aborted, expired}
use Rattle.vb_calls.specs.Settling.{Resolving, and_settled, committed_by, has_seqno, may_commit, outcome_for, resolved_by, resolving_change, settled, settled_from, unresolved}
use Rattle.vbucket.specs.Laws.{Ascend, Sound}
use Rattle.vbucket.specs.Settles.{AreCommits, Count, IsSettled, Resolves, Settles}
use Rattle.vbucket.proofs.Backing.{backed_resolved}
use Rattle.vbucket.proofs.Pending.{pends_fold}
use Rattle.vbucket.proofs.Prepares.{NoPrepare, front_goes}
use Rattle.vbucket.proofs.Storing.{differ_at, grown_sound, seqs_at}

-- changes that resolve prepares, one after the other

pub resolves_none : (vb : Plain) → Resolves vb vb []
resolves_none vb = record { held = sym (append-nil vb.held); counts = tt; at = omega arith; position = λ e. e; stays = refl }

pub resolves_one : (a : Act) (how : Resolution) (w : Waiting) (s : Resolving) → Resolves s.vb (resolved_by a how w s).vb (resolving_change s.vb w a ∷ [])
resolves_one a how w s = record { held = refl; counts = (refl, tt); at = refl; position = λ e. refl; stays = refl }

count_append : (n m : ℕ) (cs ds : List Change) → Count n cs → Count m ds → m ≡ n + length cs → Count n (cs ++ ds)
count_append n m [] ds c d e = subst (λ k. Count k ds) (let k : m ≡ n = omega arith in k) d
count_append n m (x ∷ cs) ds c d e = (c.0, count_append (n + 1) m cs ds c.1 d (omega arith))

pub resolves_then : (a b c : Plain) (cs ds : List Change) → Resolves a b cs → Resolves b c ds → Resolves a c (cs ++ ds)
resolves_then a b c cs ds r s = record {
  held = s.held ∙ ap (λ h. h ++ ds) r.held ∙ append_assoc a.held cs ds;
  counts = count_append a.position.at b.position.at cs ds r.counts s.counts r.at;
  at = (let l = length-append cs ds in let m = r.at in let n = s.at in omega arith);
  position = λ e. s.position (r.position e);
  stays = s.stays ∙ ap (λ (x : Plain). record x { held = c.held; position = c.position; spans = c.spans; waiting = c.waiting }) r.stays;
}

pub commits_append : (cs ds : List Change) → AreCommits cs → AreCommits ds → AreCommits (cs ++ ds)
commits_append [] ds c d = d
commits_append (x ∷ cs) ds c d = (c.0, commits_append cs ds c.1 d)

-- a commit has the document of the prepare that waits
pub commit_of : (prepared : ℕ) (o : Option Pend) (a : Act) → committed_act prepared o ≡ Some a → (p : Pend) × (o ≡ Some p) × (p.seq ≡ prepared) × (act.Commit prepared p.doc p.deleted ≡ a)
commit_of prepared None a e = cc
commit_of prepared (Some p) a e = by (p.seq == prepared) refl e
  where
    by : (b : Bool) → (p.seq == prepared) ≡ b → (if b then Some (act.Commit prepared p.doc p.deleted) else None) ≡ Some a → (q : Pend) × (Some p ≡ Some q) × (q.seq ≡ prepared) × (act.Commit prepared q.doc q.deleted ≡ a)
    by true t k = (p, refl, eqb-true p.seq prepared t, cc)
    by false t k = cc

-- what was done from s to t: commits alone
pub record Went (s t : Resolving) : Type 0 where
  pub more : (cs : List Change) × AreCommits cs × Resolves s.vb t.vb cs × (t.changes ≡ s.changes ++ cs)
  pub told : (outcomes : List Resolved) × (t.resolved ≡ s.resolved ++ outcomes)

went_none : (s : Resolving) → Went s s
went_none s = record { more = ([], tt, resolves_none s.vb, sym (append-nil s.changes)); told = ([], sym (append-nil s.resolved)) }

went_then : (a b c : Resolving) → Went a b → Went b c → Went a c
went_then a b c r s = record {
  more = (
    r.more.0 ++ s.more.0,
    commits_append r.more.0 s.more.0 r.more.1 s.more.1,
    resolves_then a.vb b.vb c.vb r.more.0 s.more.0 r.more.2 s.more.2,
    s.more.3 ∙ ap (λ xs. xs ++ s.more.0) r.more.3 ∙ append_assoc a.changes r.more.0 s.more.0,
  );
  told = (r.told.0 ++ s.told.0, s.told.1 ∙ ap (λ xs. xs ++ s.told.0) r.told.1 ∙ append_assoc a.resolved r.told.0 s.told.0);
}

-- the outcome of a commit
abbrev pub outcome : Act → Resolving → Resolution
outcome a s = resolution.Committed (newest_branch s.vb.log) (s.vb.position.at + 1) (cas_of a)

pub went_from : (ws : List Waiting) (s : Resolving) → Went s (settled_from ws s)
went_from [] s = went_none s
went_from (w ∷ more) s = by (may_commit s.vb w) (committed_act w.seq (pending_of s.vb w.key)) refl (λ a. went_from more (resolved_by a (outcome a s) w s))
  where
    by : (b : Bool) (o : Option Act) → committed_act w.seq (pending_of s.vb w.key) ≡ o → ((a : Act) → Went (resolved_by a (outcome a s) w s) (settled_from more (resolved_by a (outcome a s) w s)))
        → Went s (if b then committed_by o w (settled_from more) s else s)
    by false o e rest = went_none s
    by true None e rest = went_none s
    by true (Some a) e rest =
        let k = commit_of w.seq (pending_of s.vb w.key) a e in
        went_then s (resolved_by a (outcome a s) w s) (settled_from more (resolved_by a (outcome a s) w s))
        (record { more = (resolving_change s.vb w a ∷ [], ((w.seq, k.0.doc, k.0.deleted, sym k.3), tt), resolves_one a (outcome a s) w s, refl); told = (outcome_for w.waiter (outcome a s), refl) })
        (rest a)

pub went_settled : (vb : Plain) → Went (unresolved vb) (settled vb)
went_settled vb = by (is_active vb.role)
  where
    by : (b : Bool) → Went (unresolved vb) (if b then settled_from vb.waiting (unresolved vb) else unresolved vb)
    by true = went_from vb.waiting (unresolved vb)
    by false = went_none (unresolved vb)

-- what a call comes to
pub settles : (made : Plain × VbReply) → Settles made (and_settled made)
settles made =
    let w = went_settled made.0 in
    record { answer = refl; ended = refl; commits = (w.more.0, w.more.1, w.more.2, ap (λ cs. made.1.changes ++ cs) w.more.3) }

-- it stays sound

pub has_seq : (at : ℕ) → nat_lt at MAX_SEQ ≡ true → at < 2 ^ 48
has_seq at e = grind (arith, nat_tests)

pub both_of : (a b : Bool) → (a && b) ≡ true → (a ≡ true) × (b ≡ true)
both_of true b e = (refl, e)
both_of false b e = cc

-- an outstanding prepare is resolved
pub resolved_sound : (a : Act) (how : Resolution) (w : Waiting) (s : Resolving) → Sound s.vb → is_active s.vb.role ≡ true → s.vb.position.at < 2 ^ 48 → Waits w s.vb.waiting → NoPrepare a → cas_of a ≤ s.vb.last_cas → Sound (resolved_by a how w s).vb
resolved_sound a how w s sound on free here plain counted =
    grown_sound s.vb (resolving_change s.vb w a) s.vb.last_cas (without w.seq s.vb.waiting) sound on refl free (omega arith) counted sound.last_cas
    (backed_resolved s.vb.role (image_in s.vb) s.vb.position.at s.vb.waiting w a sound.waits (seqs_at s.vb sound) (differ_at s.vb sound) on here plain)

commit_no : (prepared : ℕ) (p : Pend) (a : Act) → act.Commit prepared p.doc p.deleted ≡ a → NoPrepare a
commit_no prepared p a e = subst NoPrepare e tt

commit_cas : (vb : Plain) (w : Waiting) (a : Act) → Sound vb → committed_act w.seq (pending_of vb w.key) ≡ Some a → cas_of a ≤ vb.last_cas
commit_cas vb w a s e =
    let k = commit_of w.seq (pending_of vb w.key) a e in
    subst (λ x. cas_of x ≤ vb.last_cas) k.3 (pends_fold vb.last_cas vb.base vb.held s.pends s.casses w.key k.0 k.1)

-- the lowest outstanding prepare is committed
pub commit_sound : (a : Act) (how : Resolution) (w : Waiting) (more : List Waiting) (s : Resolving) → Sound s.vb → is_active s.vb.role ≡ true → s.vb.position.at < 2 ^ 48 → s.vb.waiting ≡ w ∷ more
    → committed_act w.seq (pending_of s.vb w.key) ≡ Some a → Sound (resolved_by a how w s).vb × ((resolved_by a how w s).vb.waiting ≡ more)
commit_sound a how w more s sound on free is e =
    let k = commit_of w.seq (pending_of s.vb w.key) a e in (
      resolved_sound a how w s sound on free (subst (Waits w) (sym is) (inl refl)) (commit_no w.seq k.0 a k.3) (commit_cas s.vb w a sound e),
      ap (without w.seq) is ∙ front_goes w more (subst Ascend is sound.waits.ascend),
    )

-- an outstanding prepare waits at its key, so there is a commit of it
pub commit_there : (vb : Plain) (w : Waiting) → Sound vb → Waits w vb.waiting → (a : Act) × (committed_act w.seq (pending_of vb w.key) ≡ Some a)
commit_there vb w s i =
    let b = s.waits.backed w i in (
      act.Commit w.seq b.0.doc b.0.deleted,
      ap (committed_act w.seq) b.1 ∙ ap (λ t. if t then Some (act.Commit w.seq b.0.doc b.0.deleted) else None) (eq-eqb b.0.seq w.seq b.2),
    )

pub from_sound : (ws : List Waiting) (s : Resolving) → Sound s.vb → is_active s.vb.role ≡ true → s.vb.waiting ≡ ws → Sound (settled_from ws s).vb
from_sound [] s sound on is = sound
from_sound (w ∷ more) s sound on is = by (may_commit s.vb w) (committed_act w.seq (pending_of s.vb w.key)) refl refl (λ a k e. from_sound more (resolved_by a (outcome a s) w s) k on e)
  where
    Rest : Act → Type 0
    Rest a = Sound (resolved_by a (outcome a s) w s).vb → (resolved_by a (outcome a s) w s).vb.waiting ≡ more → Sound (settled_from more (resolved_by a (outcome a s) w s)).vb

    by : (b : Bool) (o : Option Act) → may_commit s.vb w ≡ b → committed_act w.seq (pending_of s.vb w.key) ≡ o → ((a : Act) → Rest a) → Sound (if b then committed_by o w (settled_from more) s else s).vb
    by false o t e rest = sound
    by true None t e rest = sound
    by true (Some a) t e rest =
        let free = has_seq s.vb.position.at (both_of (has_enough (acked s.vb.acks) s.vb.others s.vb.saved w) (has_seqno s.vb) t).1 in
        let k = commit_sound a (outcome a s) w more s sound on free is e in
        rest a k.0 k.1

pub settled_sound : (vb : Plain) → Sound vb → Sound (settled vb).vb
settled_sound vb s = by (is_active vb.role) refl
  where
    by : (b : Bool) → is_active vb.role ≡ b → Sound (if b then settled_from vb.waiting (unresolved vb) else unresolved vb).vb
    by true e = from_sound vb.waiting (unresolved vb) s e refl
    by false e = s

-- nothing more may be committed then

pub from_ends : (ws : List Waiting) (s : Resolving) → Sound s.vb → is_active s.vb.role ≡ true → s.vb.waiting ≡ ws → IsSettled (settled_from ws s).vb
from_ends [] s sound on is = λ w more e. let z : [] ≡ w ∷ more = sym is ∙ e in cc
from_ends (w ∷ more) s sound on is = by (may_commit s.vb w) (committed_act w.seq (pending_of s.vb w.key)) refl refl (λ a k e. from_ends more (resolved_by a (outcome a s) w s) k on e)
  where
    Rest : Act → Type 0
    Rest a = Sound (resolved_by a (outcome a s) w s).vb → (resolved_by a (outcome a s) w s).vb.waiting ≡ more → IsSettled (settled_from more (resolved_by a (outcome a s) w s)).vb

    by : (b : Bool) (o : Option Act) → may_commit s.vb w ≡ b → committed_act w.seq (pending_of s.vb w.key) ≡ o → ((a : Act) → Rest a) → IsSettled (if b then committed_by o w (settled_from more) s else s).vb
    by false o t e rest = λ v rest f. let k : w ∷ more ≡ v ∷ rest = sym is ∙ f in let m : w ≡ v = cc in subst (λ x. may_commit s.vb x ≡ false) m t
    by true None t e rest = let k = commit_there s.vb w sound (subst (Waits w) (sym is) (inl refl)) in let z : None ≡ Some k.0 = sym e ∙ k.1 in cc
    by true (Some a) t e rest =
        let free = has_seq s.vb.position.at (both_of (has_enough (acked s.vb.acks) s.vb.others s.vb.saved w) (has_seqno s.vb) t).1 in
        let k = commit_sound a (outcome a s) w more s sound on free is e in
        rest a k.0 k.1

-- prepares that are given up

-- what was done from s to t: changes of the vBucket's own that resolve prepares
pub record Gave (s t : Resolving) : Type 0 where
  pub gives : (cs : List Change) × Resolves s.vb t.vb cs × (t.changes ≡ s.changes ++ cs)

gave_none : (s : Resolving) → Gave s s
gave_none s = record { gives = ([], resolves_none s.vb, sym (append-nil s.changes)) }

gave_then : (a b c : Resolving) → Gave a b → Gave b c → Gave a c
gave_then a b c r s = record {
  gives = (
    r.gives.0 ++ s.gives.0,
    resolves_then a.vb b.vb c.vb r.gives.0 s.gives.0 r.gives.1 s.gives.1,
    s.gives.2 ∙ ap (λ xs. xs ++ s.gives.0) r.gives.2 ∙ append_assoc a.changes r.gives.0 s.gives.0,
  );
}

gave_one : (w : Waiting) (s : Resolving) → Gave s (aborted s w)
gave_one w s = by (has_seqno s.vb)
  where
    by : (b : Bool) → Gave s (if b then resolved_by (act.Abort w.seq) resolution.Ambiguous w s else s)
    by true = record { gives = (resolving_change s.vb w (act.Abort w.seq) ∷ [], resolves_one (act.Abort w.seq) resolution.Ambiguous w s, refl) }
    by false = gave_none s

gave_all : (todo : List Waiting) (s : Resolving) → Gave s (fold aborted s todo)
gave_all [] s = gave_none s
gave_all (w ∷ todo) s = gave_then s (aborted s w) (fold aborted (aborted s w) todo) (gave_one w s) (gave_all todo (aborted s w))

pub expires : (vb : Plain) (clock : ℕ) → Gave (unresolved vb) (expired clock vb)
expires vb clock = gave_all (late clock vb.waiting) (unresolved vb)
