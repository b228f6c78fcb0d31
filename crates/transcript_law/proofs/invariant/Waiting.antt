-- a prepare that waits was made by a change, and what it leaves to be committed fits
use Rattle.std.specs.Prelude.{◌≡◌, ◌==◌, ◌<◌, ◌≤◌, ◌^◌, ◌∷◌, ◌⊎◌, if◌then◌else◌}
use Rattle.transcript_law.proofs.Words.{Doc, Option, eqb-true, ℕ, Bool, true, false, List, [], fold, refl, ap, sym, ◌∙◌, subst, inl, inr, ⊎_elim, Some, None, All, All-head, All-tail, Act, Change, IsIn, IsKey, Pend, Picture, Rises, applied, image_of, is_older, key_cmp, nothing, rises_in, arith}
use Rattle.transcript_law.proofs.{invariant.Bounded.{Weighs}, invariant.Holdings.{ActFits, ChangeFits}}
use Rattle.branch_model.proofs.Lists.{same_seq}
use Rattle.std.proofs.lemmas.Slice.Eq.{bytes_eq-Decides}
use Rattle.std.specs.FinMap.{FinMap, get, get-empty, remove}
use Rattle.std.specs.Str.{bytes_eq}
use Rattle.vb_calls.specs.Following.{cas_of, committed_act}
use Rattle.vbucket.specs.Laws.{PendsUpTo}
use Rattle.vb_types.specs.declared.change.Level.{Level}
use Rattle.vb_types.proofs.Laws.{get-insert_other, get-insert_same, get-remove_other, get-remove_same}
use Rattle.vb_types.specs.declared.change.Act.TheVariants.{Abort, Commit, Prepare, Remove, Set}

-- this change prepared it
pub record IsFrom (key : List ℕ) (p : Pend) (c : Change) : Type 0 where
  pub key_is : c.key ≡ key
  pub seq_is : c.seq ≡ p.seq
  pub act_is : c.act ≡ Prepare p.level p.doc p.deleted

-- what waits after a key's entry was taken away waited before
was_there : (pending : FinMap key_cmp Pend) (key q : List ℕ) (p : Pend) (gone : Bool) → get (if gone then remove pending key else pending) q ≡ Some p → get pending q ≡ Some p
was_there pending key q p false e = e
was_there pending key q p true e = by (bytes_eq key q) refl
  where
    by : (t : Bool) → bytes_eq key q ≡ t → get pending q ≡ Some p
    by true k =
        let there : get (remove pending key) key ≡ Some p = subst (λ x. get (remove pending key) x ≡ Some p) (sym ((bytes_eq-Decides key q).0 k)) e in
        let none : None ≡ Some p = sym (get-remove_same pending key) ∙ there in cc
    by false k = sym (get-remove_other pending key q (λ s. let same = (bytes_eq-Decides key q).1 s in cc)) ∙ e

-- what waits after a change waited before, or was prepared by it
from_one : (image : Picture) (c : Change) (q : List ℕ) (p : Pend) → get (applied image c).pending q ≡ Some p → (get image.pending q ≡ Some p) ⊎ IsFrom q p c
from_one image c q p e = by c.act refl e
  where
    prepared : (a : Act) → c.act ≡ a → (new : Pend) → new.seq ≡ c.seq → a ≡ Prepare new.level new.doc new.deleted → get (applied image c).pending c.key ≡ Some new
        → ((k : List ℕ) → (c.key ≡ k → ⊥) → get (applied image c).pending k ≡ get image.pending k) → (get image.pending q ≡ Some p) ⊎ IsFrom q p c
    prepared a is new seq of here there = other (bytes_eq c.key q) refl
      where
        other : (t : Bool) → bytes_eq c.key q ≡ t → (get image.pending q ≡ Some p) ⊎ IsFrom q p c
        other true k =
            let key : c.key ≡ q = (bytes_eq-Decides c.key q).0 k in
            let found : Some new ≡ Some p = sym here ∙ ap (get (applied image c).pending) key ∙ e in
            let same : new ≡ p = cc in
            inr (record { key_is = key; seq_is = sym seq ∙ ap (λ (x : Pend). x.seq) same; act_is = is ∙ of ∙ ap (λ (x : Pend). Prepare x.level x.doc x.deleted) same })
        other false k = inl (sym (there q (λ s. let same = (bytes_eq-Decides c.key q).1 s in cc)) ∙ e)

    gone : (a : Act) → c.act ≡ a → (applied image c).pending ≡ (if is_older c.seq (get image.pending c.key) then remove image.pending c.key else image.pending) → (get image.pending q ≡ Some p) ⊎ IsFrom q p c
    gone a is left = inl (was_there image.pending c.key q p (is_older c.seq (get image.pending c.key)) (ap (λ m. get m q) (sym left) ∙ e))

    by : (a : Act) → c.act ≡ a → get (applied image c).pending q ≡ Some p → (get image.pending q ≡ Some p) ⊎ IsFrom q p c
    by (Set doc) is f = gone (Set doc) is (ap (λ a. (applied image (record c { act = a })).pending) is)
    by (Remove cas rev) is f = gone (Remove cas rev) is (ap (λ a. (applied image (record c { act = a })).pending) is)
    by (Commit number doc deleted) is f = gone (Commit number doc deleted) is (ap (λ a. (applied image (record c { act = a })).pending) is)
    by (Abort number) is f = gone (Abort number) is (ap (λ a. (applied image (record c { act = a })).pending) is)
    by (Prepare level doc deleted) is f =
        let new : Pend = record { seq = c.seq; level = level; doc = doc; deleted = deleted } in
        let now : (applied image c).pending ≡ (applied image (record c { act = Prepare level doc deleted })).pending = ap (λ a. (applied image (record c { act = a })).pending) is in
        prepared (Prepare level doc deleted) is new refl refl (ap (λ m. get m c.key) now ∙ get-insert_same image.pending c.key new)
        (λ k ne. ap (λ m. get m k) now ∙ get-insert_other image.pending c.key new k ne)

-- and so after several
from_more : (image : Picture) (cs : List Change) (q : List ℕ) (p : Pend) → get (fold applied image cs).pending q ≡ Some p → (get image.pending q ≡ Some p) ⊎ ((c : Change) × IsIn c cs × IsFrom q p c)
from_more image [] q p e = inl e
from_more image (c ∷ cs) q p e = ⊎_elim
    (λ f. ⊎_elim (λ g. inl g) (λ g. inr (c, inl refl, g)) (from_one image c q p f))
    (λ f. inr (f.0, inr f.1, f.2))
    (from_more (applied image c) cs q p e)

-- a prepare that waits in what changes leave was made by one of them
pub made_by : (cs : List Change) (q : List ℕ) (p : Pend) → get (image_of cs).pending q ≡ Some p → (c : Change) × IsIn c cs × IsFrom q p c
made_by cs q p e = ⊎_elim (λ f. let none : None ≡ Some p = sym (get-empty key_cmp q) ∙ f in cc) (λ f. f) (from_more nothing cs q p e)

all_at : (P : Change → Type 0) (cs : List Change) (c : Change) → All P cs → IsIn c cs → P c
all_at P [] c all i = absurd i
all_at P (x ∷ xs) c all i = ⊎_elim (λ e. subst P (sym e) (All-head P x xs all)) (λ j. all_at P xs c (All-tail P x xs all) j) i

-- a commit has the document of the prepare that waits
pub record IsCommit (seq : ℕ) (o : Option Pend) (a : Act) : Type 0 where
  pub pend : Pend
  pub is : o ≡ Some pend
  pub named : pend.seq ≡ seq
  pub commits : Commit seq pend.doc pend.deleted ≡ a

pub commit_of : (seq : ℕ) (o : Option Pend) (a : Act) → committed_act seq o ≡ Some a → IsCommit seq o a
commit_of seq None a e = cc
commit_of seq (Some p) a e = by (p.seq == seq) refl e
  where
    by : (b : Bool) → (p.seq == seq) ≡ b → (if b then Some (Commit seq p.doc p.deleted) else None) ≡ Some a → IsCommit seq (Some p) a
    by true t k = record { pend = p; is = refl; named = eqb-true p.seq seq t; commits = cc }
    by false t k = cc

-- what was prepared fits where it is committed
commit_fits : (seq : ℕ) (level : Level) (doc : Doc) (deleted : Bool) → seq < 2 ^ 64 → ActFits (Prepare level doc deleted) → ActFits (Commit seq doc deleted)
commit_fits seq level doc deleted low f = (low, f.0)

-- a prepare that waits has a key, and fits where it is committed
pub pends_fit : (cs : List Change) (q : List ℕ) (p : Pend) → All ChangeFits cs → get (image_of cs).pending q ≡ Some p → IsKey q × ActFits (Commit p.seq p.doc p.deleted)
pends_fit cs q p all e =
    let (c, i, f) = made_by cs q p e in
    let fits : ChangeFits c = all_at ChangeFits cs c all i in
    (subst IsKey f.key_is fits.key, commit_fits p.seq p.level p.doc p.deleted (subst (λ n. n < 2 ^ 64) f.seq_is fits.seq) (subst ActFits f.act_is fits.act))

-- a prepare that waits has no CAS above the last one
pub pends_weigh : (n : ℕ) (cs : List Change) → Weighs n cs → PendsUpTo n (image_of cs)
pends_weigh n cs w q p e = let (c, i, f) = made_by cs q p e in subst (λ a. cas_of a ≤ n) f.act_is (w c i)

-- a prepare that waits has a seqno up to the last one
pub pends_low : (low high : ℕ) (cs : List Change) (q : List ℕ) (p : Pend) → Rises low high cs → get (image_of cs).pending q ≡ Some p → p.seq ≤ high
pends_low low high cs q p rises e =
    let (c, i, f) = made_by cs q p e in
    let level : c.seq ≡ p.seq = f.seq_is in let most : c.seq ≤ high = (rises_in low high cs c rises i).1 in omega arith

-- and above the lowest
pub pends_above : (low high : ℕ) (cs : List Change) (q : List ℕ) (p : Pend) → Rises low high cs → get (image_of cs).pending q ≡ Some p → low < p.seq
pends_above low high cs q p rises e =
    let (c, i, f) = made_by cs q p e in
    let level : c.seq ≡ p.seq = f.seq_is in let least : low < c.seq = (rises_in low high cs c rises i).0 in omega arith

-- the prepares that wait at two keys have two seqnos
pub pends_apart : (low high : ℕ) (cs : List Change) (key other : List ℕ) (p q : Pend) → Rises low high cs → get (image_of cs).pending key ≡ Some p → get (image_of cs).pending other ≡ Some q → p.seq ≡ q.seq → key ≡ other
pends_apart low high cs key other p q rises e f same =
    let (c, i, x) = made_by cs key p e in let (d, j, y) = made_by cs other q f in
    sym x.key_is ∙ ap (λ (z : Change). z.key) (same_seq low high cs c d rises i j (x.seq_is ∙ same ∙ sym y.seq_is)) ∙ y.key_is
