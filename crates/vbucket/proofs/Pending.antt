-- a prepare that waits has a CAS that was counted
use Rattle.std.proofs.Common.{◌≡◌, ℕ, ◌≤◌, Bool, true, false, List, [], ◌∷◌, refl, sym, subst, ◌∙◌, arith}
use Rattle.std.specs.Prelude.{Some, None, if◌then◌else◌}
use Rattle.std.specs.FinMap.{FinMap, get, remove, get-empty}
use Rattle.std.specs.List.{fold}
use Rattle.std.specs.Str.{bytes_eq}
use Rattle.std.proofs.lemmas.Slice.Eq.{bytes_eq-Decides}
use Rattle.vb_types.specs.Keys.{key_cmp}
use Rattle.vb_types.specs.Images.{Picture, acted, applied, nothing, is_older}
use Rattle.vb_types.specs.declared.change.Act.{Act}
use Rattle.vb_types.specs.declared.change.Act.TheVariants as act
use Rattle.vb_types.specs.declared.change.Change.{Change}
use Rattle.vb_types.specs.declared.change.Pend.{Pend}
use Rattle.vb_types.proofs.Laws.{get-insert_same, get-insert_other, get-remove_same, get-remove_other}
use Rattle.vb_calls.specs.Following.{cas_of}
use Rattle.vbucket.specs.Laws.{CasUpTo, PendsUpTo}

-- what is there after a key was dropped, was there before
was_there : (pending : FinMap key_cmp Pend) (key q : List ℕ) (p : Pend) (gone : Bool) → get (if gone then remove pending key else pending) q ≡ Some p → get pending q ≡ Some p
was_there pending key q p false e = e
was_there pending key q p true e = by (bytes_eq key q) refl
  where
    by : (t : Bool) → bytes_eq key q ≡ t → get pending q ≡ Some p
    by true k =
        let there : get (remove pending key) key ≡ Some p = subst (λ x. get (remove pending key) x ≡ Some p) (sym ((bytes_eq-Decides key q).0 k)) e in
        let none : None ≡ Some p = sym (get-remove_same pending key) ∙ there in cc
    by false k = sym (get-remove_other pending key q (λ s. let same = (bytes_eq-Decides key q).1 s in cc)) ∙ e

acted_pends : (n : ℕ) (image : Picture) (seq : ℕ) (key : List ℕ) (a : Act) → PendsUpTo n image → cas_of a ≤ n → PendsUpTo n (acted image seq key a)
acted_pends n image seq key (act.Set doc) u l = λ q p e. u q p (was_there image.pending key q p (is_older seq (get image.pending key)) e)
acted_pends n image seq key (act.Remove cas rev) u l = λ q p e. u q p (was_there image.pending key q p (is_older seq (get image.pending key)) e)
acted_pends n image seq key (act.Commit prepared doc deleted) u l = λ q p e. u q p (was_there image.pending key q p (is_older seq (get image.pending key)) e)
acted_pends n image seq key (act.Abort prepared) u l = λ q p e. u q p (was_there image.pending key q p (is_older seq (get image.pending key)) e)
acted_pends n image seq key (act.Prepare level doc deleted) u l = λ q p e. by q p e (bytes_eq key q) refl
  where
    new : Pend
    new = record { seq = seq; level = level; doc = doc; deleted = deleted }

    by : (q : List ℕ) (p : Pend) → get (acted image seq key (act.Prepare level doc deleted)).pending q ≡ Some p → (t : Bool) → bytes_eq key q ≡ t → p.doc.cas ≤ n
    by q p e true k =
        let there : get (acted image seq key (act.Prepare level doc deleted)).pending key ≡ Some p = subst (λ x. get (acted image seq key (act.Prepare level doc deleted)).pending x ≡ Some p) (sym ((bytes_eq-Decides key q).0 k)) e in
        let same : Some new ≡ Some p = sym (get-insert_same image.pending key new) ∙ there in
        let is : new ≡ p = cc in
        subst (λ (x : Pend). x.doc.cas ≤ n) is l
    by q p e false k = u q p (sym (get-insert_other image.pending key new q (λ s. let same = (bytes_eq-Decides key q).1 s in cc)) ∙ e)

-- after changes whose CAS was counted
pub pends_fold : (n : ℕ) (image : Picture) (cs : List Change) → PendsUpTo n image → CasUpTo n cs → PendsUpTo n (fold applied image cs)
pends_fold n image [] u k = u
pends_fold n image (c ∷ cs) u k = pends_fold n (applied image c) cs (acted_pends n image c.seq c.key c.act u k.0) k.1

pub pends_more : (m n : ℕ) (image : Picture) → m ≤ n → PendsUpTo m image → PendsUpTo n image
pends_more m n image l u = λ q p e. let k : p.doc.cas ≤ m = u q p e in omega arith

pub pends_nothing : (n : ℕ) → PendsUpTo n nothing
pends_nothing n = λ q p e. let g : get nothing.pending q ≡ None = get-empty key_cmp q in cc
