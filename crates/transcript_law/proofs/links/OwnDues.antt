-- once a vBucket took its branch over and committed what it may, no more is due than before
use Rattle.std.specs.Prelude.{◌≡◌, ◌≢◌, ◌≤◌, ◌∷◌, ◌⊎◌}
use Rattle.std.proofs.lemmas.Slice.Eq.{bytes_eq-Decides}
use Rattle.std.specs.FinMap as finite
use Rattle.std.specs.Str.{bytes_eq}
use Rattle.transcript_law.proofs.Words.{ℕ, Bool, true, false, List, [], refl, ap, sym, ◌∙◌, subst, arith, inl, inr, ⊎_elim, Some, None, Change, Chronicle, Member, Pend, Plain, Sound, fork_of, image_in, image_of}
use Rattle.transcript_law.proofs.invariant.{Agreement.{VbAgrees, all_rise, image_is}, Waiting.{pends_low}}
use Rattle.transcript_law.proofs.links.{Acknowledging.{entry_waits}, Owing.{pend_in}}
use Rattle.transcript_law.specs.Undone.{IsDue}
use Rattle.cluster_model.proofs.Carrying.{whole_fork}
use Rattle.durability.{proofs.Dues.{due_greatest}, specs.Laws.{IsPending, ThirdsSaved, WantsSaved}, specs.Pending.{due}, specs.declared.waiting.Waiting.{Waiting}}
use Rattle.vb_calls.specs.{Durable.{pending_prepares}, Roles.{risen}, Settling.{settled, unresolved}, State.{pending_of}, declared.calls.Resolved.{Resolved}}
use Rattle.vb_types.specs.declared.change.Level.TheVariants.{PersistMajority}
use Rattle.vbucket.proofs.{Backing.{Entry, entry_is_found, found_entry}, Committing.{Committed, committed_settled}}
use Rattle.vbucket.specs.Committing.{CommitsAll, IsCommitted}

-- ---- behind one commit

module _ (vb mid : Plain) (w : Waiting) (q : Pend) (c : Change) (told rest : List Resolved) (k : IsCommitted vb w q c told rest mid) where
  -- what waits waited before
  one_waits : (key : List ℕ) (p : Pend) → pending_of mid key ≡ Some p → pending_of vb key ≡ Some p
  one_waits key p e =
      let other : key ≢ w.key = λ s. let z : Some p ≡ None = sym e ∙ ap (pending_of mid) s ∙ k.none in cc in
      sym (k.others key other).1 ∙ e

  -- what waited at its key was the prepare that it commits, which is saved if it is of level 3
  here_saved : (key : List ℕ) (p : Pend) → w.key ≡ key → pending_of vb key ≡ Some p → p.level ≡ PersistMajority → p.seq ≤ vb.saved
  here_saved key p same e third =
      let is_it : Some q ≡ Some p = sym k.waits.0 ∙ ap (pending_of vb) same ∙ e in let one : q ≡ p = cc in
      let level : w.level ≡ PersistMajority = sym k.waits.2 ∙ ap (λ (x : Pend). x.level) one ∙ third in
      let low : w.seq ≤ vb.saved = k.saved (subst WantsSaved (sym level) tt) in
      let number : p.seq ≡ w.seq = sym (ap (λ (x : Pend). x.seq) one) ∙ k.waits.1 in
      omega (arith, low, number)

  one_saved : (key : List ℕ) (p : Pend) → pending_of vb key ≡ Some p → p.level ≡ PersistMajority → (pending_of mid key ≡ Some p) ⊎ (p.seq ≤ vb.saved)
  one_saved key p e third = by (bytes_eq w.key key) refl
    where
      by : (b : Bool) → bytes_eq w.key key ≡ b → (pending_of mid key ≡ Some p) ⊎ (p.seq ≤ vb.saved)
      by true t = inr (here_saved key p ((bytes_eq-Decides w.key key).0 t) e third)
      by false t = inl ((k.others key (λ s. let z : true ≡ false = sym ((bytes_eq-Decides w.key key).1 (sym s)) ∙ t in cc)).1 ∙ e)

  same_saved : mid.saved ≡ vb.saved
  same_saved = ap (λ (x : Plain). x.saved) k.stays

-- ---- and behind all

all_wait : (vb after : Plain) (cs : List Change) (told : List Resolved) → CommitsAll vb cs told after → (key : List ℕ) (p : Pend) → pending_of after key ≡ Some p → pending_of vb key ≡ Some p
all_wait vb after [] told k key p e = subst (λ x. pending_of x key ≡ Some p) k.1 e
all_wait vb after (c ∷ cs) told k key p e = one_waits vb k.3 k.0 k.1 c told k.2 k.4 key p (all_wait k.3 after cs k.2 k.5 key p e)

all_same : (vb after : Plain) (cs : List Change) (told : List Resolved) → CommitsAll vb cs told after → after.saved ≡ vb.saved
all_same vb after [] told k = ap (λ (x : Plain). x.saved) k.1
all_same vb after (c ∷ cs) told k = all_same k.3 after cs k.2 k.5 ∙ same_saved vb k.3 k.0 k.1 c told k.2 k.4

all_saved : (vb after : Plain) (cs : List Change) (told : List Resolved) → CommitsAll vb cs told after → (key : List ℕ) (p : Pend) → pending_of vb key ≡ Some p → p.level ≡ PersistMajority → (pending_of after key ≡ Some p) ⊎ (p.seq ≤ vb.saved)
all_saved vb after [] told k key p e third = inl (subst (λ x. pending_of x key ≡ Some p) (sym k.1) e)
all_saved vb after (c ∷ cs) told k key p e third = ⊎_elim
    (λ there. ⊎_elim (λ left. inl left) (λ saved. inr (subst (λ n. p.seq ≤ n) (same_saved vb k.3 k.0 k.1 c told k.2 k.4) saved)) (all_saved k.3 after cs k.2 k.5 key p there third))
    (λ saved. inr saved)
    (one_saved vb k.3 k.0 k.1 c told k.2 k.4 key p e third)

-- ---- what is due by the lines then was due before

module _ (r : Chronicle) (n v : ℕ) (kn : Member) (fv : Plain) (held : VbAgrees r n v kn fv) (complete : fv.position.at ≡ fv.position.se) (sound : Sound (risen fv)) (r' : Chronicle) (kn' : Member) (held' : VbAgrees r' n v kn' (settled (risen fv)).vb)
    (saved : (settled (risen fv)).vb.saved ≡ (r'.disk_at n v).saved) (e : Pend) (owed : IsDue r' n v e) where
  abbrev after : Plain
  after = (settled (risen fv)).vb

  commits : Committed (unresolved (risen fv)) (settled (risen fv))
  commits = committed_settled (risen fv) sound

  same_image : image_of (r'.held n v) ≡ image_in after
  same_image = ap image_of held'.held ∙ sym (image_is held'.kept)

  abbrev key : List ℕ
  key = owed.waits.0

  before : pending_of fv key ≡ Some e
  before = all_wait (risen fv) after commits.all.0 commits.all.1 commits.all.2 key e (subst (λ i. finite.get i.pending key ≡ Some e) same_image owed.waits.1)

  waiting : IsPending e (pending_prepares fv)
  waiting =
      let es : List Entry = finite.entries (image_in fv).pending in
      entry_waits es (key, e) (found_entry es key e (sym (finite.get-entries (image_in fv).pending key) ∙ before))

  low : e.seq ≤ fork_of fv.position
  low =
      let up : e.seq ≤ fv.position.at = pends_low 0 fv.position.at kn.held key e (all_rise held.kept) (subst (λ i. finite.get i.pending key ≡ Some e) (image_is held.kept) before) in
      let fork : fork_of fv.position ≡ fv.position.at = whole_fork fv.position complete in omega (arith, up, fork)

  thirds : ThirdsSaved (pending_prepares fv) e.seq fv.saved
  thirds p is third below =
      let es : List Entry = finite.entries (image_in fv).pending in
      let (x, inside, same) = pend_in es p is in
      let found : pending_of fv x.0 ≡ Some p = finite.get-entries (image_in fv).pending x.0 ∙ entry_is_found es x (finite.entries_sorted (image_in fv).pending) inside ∙ ap Some (sym same) in
      ⊎_elim
      (λ there. let l : p.seq ≤ (r'.disk_at n v).saved = owed.thirds x.0 p (subst (λ i. finite.get i.pending x.0 ≡ Some p) (sym same_image) there) third below in
      let kept : after.saved ≡ fv.saved = all_same (risen fv) after commits.all.0 commits.all.1 commits.all.2 in omega (arith, l, saved, kept))
      (λ there. there)
      (all_saved (risen fv) after commits.all.0 commits.all.1 commits.all.2 x.0 p found third)

  pub owed_before : e.seq ≤ due (pending_prepares fv) (fork_of fv.position) fv.saved
  owed_before = due_greatest (pending_prepares fv) (fork_of fv.position) fv.saved e waiting low thirds
