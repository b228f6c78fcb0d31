-- each outcome that a call tells behind which all is committed that may be is of a prepare that was outstanding, or is its own; and its commit is among the changes of the reply, or its abort, as its time was up
use Rattle.std.specs.Prelude.{◌≡◌, ◌≢◌, ◌+◌, ◌==◌, ◌∷◌, ◌++◌, cond, if◌then◌else◌}
use Rattle.transcript_law.proofs.Words.{ℕ, Bool, true, false, List, [], length, refl, ap, sym, ◌∙◌, subst, arith, inl, inr, Some, None, All, All-nil, All-cons, All-head, All-tail, All-append, All-weaker, option_map}
use Rattle.transcript_law.proofs.Words.{Change, IsIn, Pend, Plain, Role, VbCall, VbReply, Sound, Write, doc_at, eqb-true, eqb-false, is_active, is_role, length-append, new_cas, new_rev, newest_branch, written_doc}
use Rattle.transcript_law.proofs.answers.Awaited.{IsLost, IsOutstanding, IsPlaced, Stood, WasLate, committed_one, entry_of, gave_late, late_more, lost_as, start_stood}
use Rattle.branch_model.proofs.Lists.{in_right}
use Rattle.client_session.specs.Serving.{outcome_of}
use Rattle.durability.specs.{Laws.{Waits}, declared.waiting.Waiting.{Waiting}}
use Rattle.std.specs.List.{find}
use Rattle.vb_calls.specs.Durable.{is_delete}
use Rattle.vb_calls.specs.Following.{log_lacks}
use Rattle.vb_calls.specs.Roles.{is_heir, promote_refusal}
use Rattle.vb_calls.specs.Settling.{and_settled, given_up}
use Rattle.vb_calls.specs.declared.calls.Resolution.{Resolution}
use Rattle.vb_calls.specs.declared.calls.Resolution.TheVariants.{Ambiguous, Committed}
use Rattle.vb_calls.specs.declared.calls.Resolved.{Resolved}
use Rattle.vb_calls.specs.declared.calls.VbCall.TheVariants as call
use Rattle.vb_types.specs.declared.change.Act.TheVariants.{Commit}
use Rattle.vb_types.specs.declared.change.Level.{Level}
use Rattle.vb_types.specs.declared.role.Role.TheVariants.{Active, Pending}
use Rattle.vb_types.specs.declared.status.Status.TheVariants.{Einval, NotMyVbucket}
use Rattle.vbucket.proofs.Backing.{none_idle}
use Rattle.vbucket.proofs.Committing.{commits}
use Rattle.vbucket.proofs.RowIs.{StartIs, Chains, Counts, Expires, Inherits, Leads, Prepares, Saves}
use Rattle.vbucket.proofs.Soundness.{start_sound}
use Rattle.vbucket.specs.Committing.{Commits, CommitsAll}
use Rattle.vbucket.specs.Laws.{IsTimely}

-- ---- what it means

-- one of these changes, with this seqno, commits a prepare with the document that waited at its key, which has this CAS
pub record HasCommit (changes : List Change) (w : Waiting) (p : Pend) (seq cas : ℕ) : Type 0 where
  pub change : Change
  pub there : IsIn change changes
  pub seq_is : change.seq ≡ seq
  pub key_is : change.key ≡ w.key
  pub act_is : change.act ≡ Commit w.seq p.doc p.deleted
  pub cas_is : p.doc.cas ≡ cas

-- a call by which time goes on gave up this one, by one of these changes; any other call that leaves a vBucket active gives up none
abbrev pub GivesUp : VbCall → List Change → Waiting → Type 0
GivesUp (call.Tick clock) changes w = WasLate clock changes w
GivesUp other changes w = ⊥

-- an outcome of a call behind which all is committed that may be, with the branch and the changes of its reply: somebody waits for it, under the number of a prepare that was outstanding or that the call placed; and where it is committed, that is on this branch, and by one of these changes, and else it was given up
pub record IsExplained (vb : Plain) (made : VbCall) (branch : ℕ) (changes : List Change) (o : Resolved) : Type 0 where
  pub w : Waiting
  pub p : Pend
  pub stood : Stood vb made w p
  pub number : w.waiter ≡ o.waiter
  pub some : o.waiter ≢ 0
  pub commits : (uuid seq cas : ℕ) → o.how ≡ Committed uuid seq cas → (uuid ≡ branch) × HasCommit changes w p seq cas
  pub lost : o.how ≡ Ambiguous → GivesUp made changes w

-- ---- outcomes that nobody knows

lost_explained : (vb : Plain) (made : VbCall) (branch : ℕ) (changes : List Change) → Sound vb → (o : Resolved) → IsLost (λ w. Waits w vb.waiting × GivesUp made changes w) o → IsExplained vb made branch changes o
lost_explained vb made branch changes s o k =
    let e = entry_of vb s k.w k.among.0 in
    record { w = k.w; p = e.0; stood = inl e.1; number = k.number; some = k.some; commits = λ uuid seq cas is. (let z : Ambiguous ≡ Committed uuid seq cas = sym k.how ∙ is in cc); lost = λ is. k.among.1 }

-- what was given up by some changes was so by more
gives_more : (made : VbCall) (cs ds : List Change) (w : Waiting) → GivesUp made cs w → GivesUp made (cs ++ ds) w
gives_more (call.Tick clock) cs ds w g = late_more clock cs ds w g
gives_more other cs ds w g = absurd g

-- one that becomes active was not, so nothing was outstanding
none_led : (vb : Plain) (uuid : ℕ) → promote_refusal vb uuid ≡ None → is_active vb.role ≡ false
none_led vb uuid free = by (is_active vb.role) refl free
  where
    by : (b : Bool) → is_active vb.role ≡ b → (if b then Some NotMyVbucket else if uuid == 0 then Some Einval else if log_lacks vb.log uuid then None else Some Einval) ≡ None → b ≡ false
    by true e k = cc
    by false e k = refl

none_heir : (r : Role) (heir : Bool) → (if is_role r Pending then (if heir then None else Some Einval) else Some NotMyVbucket) ≡ None → is_active r ≡ false
none_heir Active heir k = cc
none_heir other heir k = refl

none_lost : (A : Waiting → Type 0) (vb : Plain) → is_active vb.role ≡ false → Sound vb → All (IsLost A) (given_up vb.waiting)
none_lost A vb off s = subst (λ ws. All (IsLost A) (given_up ws)) (sym (none_idle vb.role vb.waiting off s.waits.only)) (All-nil (IsLost A))

-- how a call begins tells only such
start_lost : (vb : Plain) {made : VbCall} {start : Plain × VbReply} → StartIs vb made start → Sound vb → All (IsLost (λ w. Waits w vb.waiting × GivesUp made start.1.changes w)) start.1.resolved
start_lost vb (Prepares write clock wish free) s = All-nil (IsLost _)
start_lost vb (Chains chain on) s = All-nil (IsLost _)
start_lost vb (Counts member seq on) s = All-nil (IsLost _)
start_lost vb (Expires clock on) s = (gave_late vb clock s).told
start_lost vb (Saves seq) s = All-nil (IsLost _)
start_lost vb (Leads uuid free) s = none_lost _ vb (none_led vb uuid free) s
start_lost vb (Inherits free) s = none_lost _ vb (none_heir vb.role (is_heir vb) free) s

-- ---- commits behind a call

-- an outcome of commits: it is of a prepare that was outstanding, and its commit is one of these changes
pub record IsTold (vb : Plain) (changes : List Change) (o : Resolved) : Type 0 where
  pub w : Waiting
  pub p : Pend
  pub stood : IsOutstanding vb w p
  pub number : w.waiter ≡ o.waiter
  pub some : o.waiter ≢ 0
  pub seq : ℕ
  pub commit : HasCommit changes w p seq p.doc.cas
  pub how : o.how ≡ Committed (newest_branch vb.log) seq p.doc.cas

in_more : (d : Change) (cs : List Change) (w : Waiting) (p : Pend) (seq cas : ℕ) → HasCommit cs w p seq cas → HasCommit (d ∷ cs) w p seq cas
in_more d cs w p seq cas k = record { change = k.change; there = inr k.there; seq_is = k.seq_is; key_is = k.key_is; act_is = k.act_is; cas_is = k.cas_is }

commits_tell : (vb after : Plain) (cs : List Change) (told : List Resolved) → CommitsAll vb cs told after → All (IsTold vb cs) told
commits_tell vb after [] told k = subst (All (IsTold vb [])) (sym k.0) (All-nil (IsTold vb []))
commits_tell vb after (c ∷ cs) told k = by (k.0.waiter == 0) refl (All-weaker (IsTold k.3 cs) (IsTold vb (c ∷ cs)) later k.2 (commits_tell k.3 after cs k.2 k.5))
  where
    later : (o : Resolved) → IsTold k.3 cs o → IsTold vb (c ∷ cs) o
    later o t = record {
      w = t.w;
      p = t.p;
      stood = committed_one vb k.3 k.0 k.1 c told k.2 k.4 t.w t.p t.stood;
      number = t.number;
      some = t.some;
      seq = t.seq;
      commit = in_more c cs t.w t.p t.seq t.p.doc.cas t.commit;
      how = t.how ∙ ap (λ (x : Plain). Committed (newest_branch x.log) t.seq t.p.doc.cas) k.4.stays;
    }

    first : Resolved
    first = record { waiter = k.0.waiter; how = Committed (newest_branch vb.log) c.seq k.1.doc.cas }

    own : k.0.waiter ≢ 0 → IsTold vb (c ∷ cs) first
    own n = record {
      w = k.0;
      p = k.1;
      stood = record { among = subst (Waits k.0) (sym k.4.lowest) (inl refl); entry = k.4.waits.0; same = k.4.waits.1 };
      number = refl;
      some = n;
      seq = c.seq;
      commit = record { change = c; there = inl refl; seq_is = refl; key_is = k.4.change.0; act_is = k.4.change.1; cas_is = refl };
      how = refl;
    }

    by : (b : Bool) → (k.0.waiter == 0) ≡ b → All (IsTold vb (c ∷ cs)) k.2 → All (IsTold vb (c ∷ cs)) told
    by true e rest = subst (All (IsTold vb (c ∷ cs))) (sym (k.4.tells.0 (eqb-true k.0.waiter 0 e))) rest
    by false e rest = let n = eqb-false k.0.waiter 0 e in subst (All (IsTold vb (c ∷ cs))) (sym (k.4.tells.1 n)) (All-cons (IsTold vb (c ∷ cs)) first k.2 (own n) rest)

-- ---- each call

-- with one of these behind them they are others
longer : (c : Change) (xs cs : List Change) → IsIn c cs → xs ++ cs ≢ xs
longer c xs [] i e = i
longer c xs (d ∷ cs) i e = let l = length-append xs (d ∷ cs) in let k = ap length e in let m : length xs + (length cs + 1) ≡ length xs = omega arith in omega arith

settled_explained : (vb : Plain) (made : VbCall) (start : Plain × VbReply) → Sound vb → Sound start.0 → ((w : Waiting) (p : Pend) → w.waiter ≢ 0 → IsOutstanding start.0 w p → Stood vb made w p) → All (IsLost (λ w. Waits w vb.waiting × GivesUp made start.1.changes w)) start.1.resolved
    → All (IsExplained vb made (and_settled start).1.branch (and_settled start).1.changes) (and_settled start).1.resolved
settled_explained vb made start s sound stood lost =
    subst (All Explained) (sym k.commits.4)
    (All-append Explained start.1.resolved k.commits.1
    (All-weaker (IsLost (Among start.1.changes)) Explained (λ o l. lost_explained vb made (and_settled start).1.branch (and_settled start).1.changes s o (lost_as (Among start.1.changes) (Among (and_settled start).1.changes) more o l)) start.1.resolved lost)
    (All-weaker (IsTold start.0 k.commits.0) Explained told k.commits.1 (commits_tell start.0 (and_settled start).0 k.commits.0 k.commits.1 k.commits.2)))
  where
    k : Commits start (and_settled start)
    k = commits start sound

    Explained : Resolved → Type 0
    Explained = IsExplained vb made (and_settled start).1.branch (and_settled start).1.changes

    Among : List Change → Waiting → Type 0
    Among cs w = Waits w vb.waiting × GivesUp made cs w

    more : (w : Waiting) → Among start.1.changes w → Among (and_settled start).1.changes w
    more w (i, g) = (i, subst (λ cs. GivesUp made cs w) (sym k.commits.3) (gives_more made start.1.changes k.commits.0 w g))

    told : (o : Resolved) → IsTold start.0 k.commits.0 o → Explained o
    told o t = record {
      w = t.w;
      p = t.p;
      stood = stood t.w t.p (λ e. t.some (sym t.number ∙ e)) t.stood;
      number = t.number;
      some = t.some;
      commits = λ uuid seq cas is.
          let same : Committed (newest_branch start.0.log) t.seq t.p.doc.cas ≡ Committed uuid seq cas = sym t.how ∙ is in
          let branch : newest_branch start.0.log ≡ uuid = cc in
          let seqno : t.seq ≡ seq = cc in
          let stamp : t.p.doc.cas ≡ cas = cc in (
            sym branch ∙ sym (k.branch.1 (λ e. longer t.commit.change start.1.changes k.commits.0 t.commit.there (sym k.commits.3 ∙ e))),
            record {
              change = t.commit.change;
              there = subst (IsIn t.commit.change) (sym k.commits.3) (in_right t.commit.change start.1.changes k.commits.0 t.commit.there);
              seq_is = t.commit.seq_is ∙ seqno;
              key_is = t.commit.key_is;
              act_is = t.commit.act_is;
              cas_is = stamp;
            },
          );
      lost = λ is. let z : Committed (newest_branch start.0.log) t.seq t.p.doc.cas ≡ Ambiguous = sym t.how ∙ is in cc;
    }

-- each outcome of a call behind which all is committed that may be
pub explained : (vb : Plain) {made : VbCall} {start : Plain × VbReply} → StartIs vb made start → Sound vb → IsTimely made → All (IsExplained vb made (and_settled start).1.branch (and_settled start).1.changes) (and_settled start).1.resolved
explained vb {made} {start} is s t = settled_explained vb made start s (start_sound vb is s t) (start_stood vb is s) (start_lost vb is s)

-- ---- by what was written

-- the prepare of a write
pub record IsPrepareOf (write : Write) (w : Waiting) (p : Pend) : Type 0 where
  pub key_is : w.key ≡ write.key
  pub cas : ℕ
  pub rev : ℕ
  pub doc_is : p.doc ≡ written_doc write cas rev
  pub deleted_is : p.deleted ≡ is_delete write.op

-- a durable write places its own prepare
pub placed_of : (vb : Plain) (write : Write) (clock : ℕ) (level : Level) (deadline waiter : ℕ) (w : Waiting) (p : Pend) → IsPlaced vb (call.Durable write clock level deadline waiter) w p → IsPrepareOf write w p × (w.waiter ≡ waiter)
placed_of vb write clock level deadline waiter w p k = (
  record {
    key_is = ap (λ (x : Waiting). x.key) k.1;
    cas = new_cas clock vb.last_cas;
    rev = new_rev (doc_at vb write.key);
    doc_is = ap (λ (x : Pend). x.doc) k.2;
    deleted_is = ap (λ (x : Pend). x.deleted) k.2;
  },
  ap (λ (x : Waiting). x.waiter) k.1,
)

-- the outcome that is told to a waiter is one of those
pub record IsOutcome (P : Resolved → Type 0) (waiter : ℕ) (how : Resolution) : Type 0 where
  pub o : Resolved
  pub is : P o
  pub number : o.waiter ≡ waiter
  pub how_is : o.how ≡ how

pub outcome_in : (P : Resolved → Type 0) (waiter : ℕ) (how : Resolution) (told : List Resolved) → All P told → outcome_of waiter told ≡ Some how → IsOutcome P waiter how
outcome_in P waiter how [] all e = absurd (cc e)
outcome_in P waiter how (o ∷ more) all e = by (o.waiter == waiter) refl e (outcome_in P waiter how more (All-tail P o more all))
  where
    by : (b : Bool) → (o.waiter == waiter) ≡ b → option_map (λ (r : Resolved). r.how) (cond b (Some o) (find (λ r. r.waiter == waiter) more)) ≡ Some how → (outcome_of waiter more ≡ Some how → IsOutcome P waiter how) → IsOutcome P waiter how
    by true q k rest = record { o = o; is = All-head P o more all; number = eqb-true o.waiter waiter q; how_is = cc }
    by false q k rest = rest k
