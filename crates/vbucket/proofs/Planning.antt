-- what a plan's changes leave of a key's prepare, and which commits it has
use Rattle.std.proofs.Common.{◌≡◌, ℕ, ◌<◌, ◌≤◌, ◌+◌, Bool, true, false, List, [], ◌∷◌, ◌++◌, length, take, get_or, refl, ap, sym, subst, ◌∙◌, arith}
use Rattle.std.specs.Prelude.{◌==◌, ◌&&◌, if◌then◌else◌, nat_lt, zero, suc, slice_index, slice_set, Option, Some, None}
use Rattle.std.specs.FinMap.{FinMap, empty, get, insert, remove}
use Rattle.std.specs.List.{fold, list_all}
use Rattle.std.specs.Str.{bytes_eq}
use Rattle.std.proofs.lemmas.List.{take_more}
use Rattle.std.proofs.lemmas.List.Sums.{fold-append}
use Rattle.std.proofs.lemmas.Slice.Eq.{bytes_eq-Decides}
use Rattle.vb_types.specs.Histories.{Rises}
use Rattle.vb_types.specs.Keys.{key_cmp}
use Rattle.vb_types.specs.Images.{Picture, acted, applied, is_older}
use Rattle.vb_types.specs.declared.change.Act.{Act}
use Rattle.vb_types.specs.declared.change.Act.TheVariants as act
use Rattle.vb_types.specs.declared.change.Change.{Change}
use Rattle.vb_types.specs.declared.change.Pend.{Pend}
use Rattle.vb_types.specs.declared.position.TheConstants.{MAX_SEQ}
use Rattle.vb_types.proofs.Laws.{get-insert_same, get-insert_other, get-remove_same, get-remove_other}
use Rattle.durability.specs.declared.waiting.Waiting.{Waiting}
use Rattle.durability.specs.Chains.{Members, committed_now, has_enough}
use Rattle.durability.specs.Outstanding.{without}
use Rattle.vb_calls.specs.declared.calls.Resolution.{Resolution}
use Rattle.vb_calls.specs.declared.calls.Resolution.TheVariants as resolution
use Rattle.vb_calls.specs.Following.{committed_act}
use Rattle.vb_calls.specs.Spans.{is_durable}
use Rattle.vbucket.specs.declared.vbucket.settling.Plan.{Plan}
use Rattle.ckpt_list.specs.Windows.{ArePartsAbove}
use Rattle.vbucket.specs.Plans.{IsRising, keys_of}
use Rattle.vbucket.specs.Settling.{commits_by, next_change, no_plan, pend_at, pend_by, resolved_seq, with_abort, with_commits, with_committed, with_next, with_resolved}

-- what is pending at a key after a change takes away what is older
gone_at : (pending : FinMap key_cmp Pend) (key q : List ℕ) (seq : ℕ) (t : Bool) → bytes_eq key q ≡ t
    → get (if is_older seq (get pending key) then remove pending key else pending) q ≡ (if t then (if is_older seq (get pending q) then None else get pending q) else get pending q)
gone_at pending key q seq true e =
    let same : key ≡ q = (bytes_eq-Decides key q).0 e in
    subst (λ x. get (if is_older seq (get pending x) then remove pending x else pending) q ≡ (if is_older seq (get pending q) then None else get pending q)) (sym same) (by (is_older seq (get pending q)))
  where
    by : (b : Bool) → get (if b then remove pending q else pending) q ≡ (if b then None else get pending q)
    by true = get-remove_same pending q
    by false = refl
gone_at pending key q seq false e = by (is_older seq (get pending key))
  where
    by : (b : Bool) → get (if b then remove pending key else pending) q ≡ get pending q
    by true = get-remove_other pending key q (λ s. let same = (bytes_eq-Decides key q).1 s in cc)
    by false = refl

-- a key's prepare that waits after one more change
pub pend_step : (image : Picture) (c : Change) (q : List ℕ) → get (applied image c).pending q ≡ pend_at q (get image.pending q) c
pend_step image c q = by c.act (bytes_eq c.key q) refl
  where
    put : (p : Pend) (t : Bool) → bytes_eq c.key q ≡ t → get (acted image c.seq c.key (act.Prepare p.level p.doc p.deleted)).pending q ≡ (if t then pend_by (act.Prepare p.level p.doc p.deleted) c.seq (get image.pending q) else get image.pending q)
    put p true e =
        let same : c.key ≡ q = (bytes_eq-Decides c.key q).0 e in
        subst (λ x. get (acted image c.seq x (act.Prepare p.level p.doc p.deleted)).pending q ≡ pend_by (act.Prepare p.level p.doc p.deleted) c.seq (get image.pending q)) (sym same) (get-insert_same image.pending q _)
    put p false e = get-insert_other image.pending c.key _ q (λ s. let same = (bytes_eq-Decides c.key q).1 s in cc)

    by : (a : Act) (t : Bool) → bytes_eq c.key q ≡ t → get (acted image c.seq c.key a).pending q ≡ (if t then pend_by a c.seq (get image.pending q) else get image.pending q)
    by (act.Set doc) t e = gone_at image.pending c.key q c.seq t e
    by (act.Remove cas rev) t e = gone_at image.pending c.key q c.seq t e
    by (act.Prepare level doc deleted) t e = put (record { seq = 0; level = level; doc = doc; deleted = deleted }) t e
    by (act.Commit prepared doc deleted) t e = gone_at image.pending c.key q c.seq t e
    by (act.Abort prepared) t e = gone_at image.pending c.key q c.seq t e

-- and after one more change of a list
pub pend_more : (base : Picture) (cs : List Change) (i : ℕ) (c d : Change) (q : List ℕ) → i < length cs → c ≡ get_or cs i d
    → get (fold applied base (take (i + 1) cs)).pending q ≡ pend_at q (get (fold applied base (take i cs)).pending q) c
pend_more base cs i c d q l e =
    ap (λ xs. get (fold applied base xs).pending q) (take_more cs i d l ∙ ap (λ x. take i cs ++ x ∷ []) (sym e))
    ∙ ap (λ (im : Picture). get im.pending q) (fold-append applied base (take i cs) (c ∷ []))
    ∙ pend_step (fold applied base (take i cs)) c q

-- changes leave what waits at a key that none of them has
left_at : (base : Picture) (keys : FinMap key_cmp (Unit {0})) (cs : List Change) (q : List ℕ) → get (fold (λ m c. insert m c.key tt) keys cs) q ≡ None → (get keys q ≡ None) × (get (fold applied base cs).pending q ≡ get base.pending q)
left_at base keys [] q e = (e, refl)
left_at base keys (c ∷ cs) q e = by (bytes_eq c.key q) refl (left_at (applied base c) (insert keys c.key tt) cs q e)
  where
    by : (t : Bool) → bytes_eq c.key q ≡ t → (get (insert keys c.key tt) q ≡ None) × (get (fold applied (applied base c) cs).pending q ≡ get (applied base c).pending q)
        → (get keys q ≡ None) × (get (fold applied base (c ∷ cs)).pending q ≡ get base.pending q)
    by true k r =
        let there : get (insert keys q tt) q ≡ Some tt = get-insert_same keys q tt in
        let gone : get (insert keys q tt) q ≡ None = subst (λ x. get (insert keys x tt) q ≡ None) ((bytes_eq-Decides c.key q).0 k) r.0 in
        let z : Some tt ≡ None = sym there ∙ gone in cc
    by false k r = (
      sym (get-insert_other keys c.key tt q (λ s. let same = (bytes_eq-Decides c.key q).1 s in cc)) ∙ r.0,
      r.1 ∙ pend_step base c q ∙ ap (λ b. if b then pend_by c.act c.seq (get base.pending q) else get base.pending q) k,
    )

pub pend_left : (base : Picture) (cs : List Change) (q : List ℕ) → get (keys_of cs) q ≡ None → get (fold applied base cs).pending q ≡ get base.pending q
pend_left base cs q e = (left_at base empty cs q e).1

-- the keys of one more change
pub keys_more : (cs : List Change) (c : Change) → keys_of (cs ++ c ∷ []) ≡ insert (keys_of cs) c.key tt
keys_more cs c = fold-append (λ (m : FinMap key_cmp (Unit {0})) (d : Change). insert m d.key tt) empty cs (c ∷ [])

-- those that are committed now are the first of the outstanding ones
pub committed_front : (acks : ℕ → ℕ) (others : Members) (saved : ℕ) (ws : List Waiting) → take (length (committed_now acks others saved ws)) ws ≡ committed_now acks others saved ws
committed_front acks others saved [] = refl
committed_front acks others saved (w ∷ ws) = by (has_enough acks others saved w) (committed_front acks others saved ws)
  where
    by : (b : Bool) → take (length (committed_now acks others saved ws)) ws ≡ committed_now acks others saved ws → take (length (if b then w ∷ committed_now acks others saved ws else [])) (w ∷ ws) ≡ (if b then w ∷ committed_now acks others saved ws else [])
    by true e = ap (λ xs. w ∷ xs) e
    by false e = refl

-- one more change rises, and is part of a durable write
rises_next : (low at : ℕ) (cs : List Change) (c : Change) → Rises low at cs → c.seq ≡ at + 1 → Rises low (at + 1) (cs ++ c ∷ [])
rises_next low at [] c r e = let l : low ≤ at = r in ((let k : low < c.seq = omega arith in k), omega arith)
rises_next low at (d ∷ cs) c r e = (r.0, rises_next d.seq at cs c r.1 e)

durable_next : (cs : List Change) (c : Change) → list_all (λ d. is_durable d.act) cs ≡ true → is_durable c.act ≡ true → list_all (λ d. is_durable d.act) (cs ++ c ∷ []) ≡ true
durable_next [] c all one = ap (λ b. b && true) one
durable_next (d ∷ cs) c all one = by (is_durable d.act) all (λ e. durable_next cs c e one)
  where
    by : (b : Bool) → (b && list_all (λ d. is_durable d.act) cs) ≡ true → (list_all (λ d. is_durable d.act) cs ≡ true → list_all (λ d. is_durable d.act) (cs ++ c ∷ []) ≡ true) → (b && list_all (λ d. is_durable d.act) (cs ++ c ∷ [])) ≡ true
    by true e more = more e
    by false e more = cc

-- one more change that is part of a durable write
rising_next : (low : ℕ) (p q : Plan) (key : List ℕ) (a : Act) → is_durable a ≡ true → q.at ≡ p.at + 1 → q.changes ≡ p.changes ++ next_change p.at key a ∷ [] → IsRising low p → IsRising low q
rising_next low p q key a d e f is = record {
  rises = subst (λ n. Rises low n q.changes) (sym e) (subst (Rises low (p.at + 1)) (sym f) (rises_next low p.at p.changes (next_change p.at key a) is.rises refl));
  durable = ap (list_all (λ c. is_durable c.act)) f ∙ durable_next p.changes (next_change p.at key a) is.durable d;
}

pub rising_resolved : (low : ℕ) (p : Plan) (a : Act) (how : Resolution) (w : Waiting) → is_durable a ≡ true → IsRising low p → IsRising low (with_resolved a how w p)
rising_resolved low p a how w d is = rising_next low p (with_resolved a how w p) w.key a d refl refl is

pub rising_with_next : (low : ℕ) (p : Plan) (key : List ℕ) (a : Act) → is_durable a ≡ true → IsRising low p → IsRising low (with_next key a p)
rising_with_next low p key a d is = rising_next low p (with_next key a p) key a d refl refl is

pub rising_none : (low : ℕ) → IsRising low (no_plan low)
rising_none low = record { rises = omega arith; durable = refl }

-- the act of a commit
pub commit_act : (q : ℕ) (pend : Option Pend) (a : Act) → committed_act q pend ≡ Some a → (is_durable a ≡ true) × (resolved_seq a ≡ Some q)
commit_act q None a e = cc
commit_act q (Some p) a e = by (p.seq == q) e
  where
    by : (b : Bool) → (if b then Some (act.Commit q p.doc p.deleted) else None) ≡ Some a → (is_durable a ≡ true) × (resolved_seq a ≡ Some q)
    by true k = let is : act.Commit q p.doc p.deleted ≡ a = cc in (ap is_durable (sym is), ap resolved_seq (sym is))
    by false k = cc

pub rising_commits : (low uuid : ℕ) (base : Picture) (ws : List Waiting) (p : Plan) → IsRising low p → IsRising low (with_commits uuid base ws p)
rising_commits low uuid base [] p is = is
rising_commits low uuid base (w ∷ ws) p is = by (nat_lt p.at MAX_SEQ) (rising_commits low uuid base ws)
  where
    More : Type 0
    More = (q : Plan) → IsRising low q → IsRising low (with_commits uuid base ws q)

    pend : Option Pend
    pend = get (fold applied base p.changes).pending w.key

    act_by : More → (o : Option Act) → committed_act w.seq pend ≡ o → IsRising low (commits_by o uuid w (with_commits uuid base ws) p)
    act_by more None e = is
    act_by more (Some a) e = more (with_committed a uuid w p) (rising_resolved low p a _ w (commit_act w.seq pend a e).0 is)

    by : (b : Bool) → More → IsRising low (if b then commits_by (committed_act w.seq pend) uuid w (with_commits uuid base ws) p else p)
    by true more = act_by more (committed_act w.seq pend) refl
    by false more = is

pub rising_aborts : (low : ℕ) (ws : List Waiting) (s : Plan × List Waiting) → IsRising low s.0 → IsRising low (fold with_abort s ws).0
rising_aborts low [] s is = is
rising_aborts low (w ∷ ws) s is = rising_aborts low ws (with_abort s w) (by (nat_lt s.0.at MAX_SEQ))
  where
    by : (b : Bool) → IsRising low (if b then (with_resolved (act.Abort w.seq) resolution.Ambiguous w s.0, without w.seq s.1) else s).0
    by true = rising_resolved low s.0 (act.Abort w.seq) resolution.Ambiguous w refl is
    by false = is

-- what may enter a list of checkpoints above a seqno
pub parts_above : (low high : ℕ) (cs : List Change) → Rises low high cs → list_all (λ c. is_durable c.act) cs ≡ true → ArePartsAbove low cs
parts_above low high [] r d = tt
parts_above low high (c ∷ cs) r d = by (is_durable c.act) refl d (parts_above c.seq high cs r.1)
  where
    by : (b : Bool) → is_durable c.act ≡ b → (b && list_all (λ c. is_durable c.act) cs) ≡ true → (list_all (λ c. is_durable c.act) cs ≡ true → ArePartsAbove c.seq cs) → ArePartsAbove low (c ∷ cs)
    by true e k more = (r.0, e, more k)
    by false e k more = cc

-- what a member acknowledged, set back
pub set_back : (acks : List ℕ) (m x : ℕ) → slice_set (slice_set acks m x) m (slice_index acks m) ≡ acks
set_back [] m x = refl
set_back (a ∷ acks) zero x = refl
set_back (a ∷ acks) (suc m) x = ap (λ xs. a ∷ xs) (set_back acks m x)
