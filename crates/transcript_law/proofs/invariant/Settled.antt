-- what is committed behind a call leaves the failover log, and is made of commits
use Rattle.std.specs.Prelude.{◌≡◌, ◌+◌, ◌∷◌, if◌then◌else◌}
use Rattle.transcript_law.proofs.Words.{Bool, true, false, List, [], refl, sym, Option, Some, None, All, All-nil, All-push, Act, Plain, is_active}
use Rattle.transcript_law.proofs.{verbs.Settling.{outcome}, invariant.Waiting.{IsCommit, commit_of}}
use Rattle.transcript_law.specs.Plainness.{Commits}
use Rattle.durability.specs.declared.waiting.Waiting.{Waiting}
use Rattle.vb_calls.specs.Following.{committed_act}
use Rattle.vb_calls.specs.Settling.{Resolving, committed_by, may_commit, resolved_by, settled, settled_from, unresolved}
use Rattle.vb_calls.specs.State.{pending_of}

-- from s to t
pub record CommitsOn (s t : Resolving) : Type 0 where
  pub log : t.vb.log ≡ s.vb.log
  pub all : All Commits s.changes → All Commits t.changes

commits_from : (ws : List Waiting) (s : Resolving) → CommitsOn s (settled_from ws s)
commits_from [] s = record { log = refl; all = λ c. c }
commits_from (x ∷ more) s = by (may_commit s.vb x) (committed_act x.seq (pending_of s.vb x.key)) refl (λ a. commits_from more (resolved_by a (outcome a s) x s))
  where
    by : (b : Bool) (o : Option Act) → committed_act x.seq (pending_of s.vb x.key) ≡ o → ((a : Act) → CommitsOn (resolved_by a (outcome a s) x s) (settled_from more (resolved_by a (outcome a s) x s)))
        → CommitsOn s (if b then committed_by o x (settled_from more) s else s)
    by false o e rest = record { log = refl; all = λ c. c }
    by true None e rest = record { log = refl; all = λ c. c }
    by true (Some a) e rest =
        let k : IsCommit x.seq (pending_of s.vb x.key) a = commit_of x.seq (pending_of s.vb x.key) a e in
        record { log = (rest a).log; all = λ c. (rest a).all (All-push Commits s.changes (record { seq = s.vb.position.at + 1; key = x.key; act = a }) c (x.seq, k.pend.doc, k.pend.deleted, sym k.commits)) }

pub settled_on : (vb : Plain) → CommitsOn (unresolved vb) (settled vb)
settled_on vb = by (is_active vb.role)
  where
    by : (b : Bool) → CommitsOn (unresolved vb) (if b then settled_from vb.waiting (unresolved vb) else unresolved vb)
    by true = commits_from vb.waiting (unresolved vb)
    by false = record { log = refl; all = λ c. c }

pub settled_commits : (vb : Plain) → All Commits (settled vb).changes
settled_commits vb = (settled_on vb).all (All-nil Commits)
