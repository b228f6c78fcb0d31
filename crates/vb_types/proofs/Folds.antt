-- the image of a list is told by the last change of each slot
use Rattle.std.proofs.Common.{◌≡◌, ◌≢◌, ℕ, ◌<◌, ◌≤◌, Bool, true, false, List, [], ◌∷◌, ltb, refl, ap, sym, ◌∙◌, subst, arith}
use Rattle.std.specs.Prelude.{Option, Some, None, if◌then◌else◌, ◌&&◌}
use Rattle.std.specs.Option.{option_or}
use Rattle.std.specs.List.{fold}
use Rattle.std.specs.FinMap.{FinMap, get, remove, get-empty}
use Rattle.std.specs.Str.{bytes_eq}
use Rattle.std.proofs.lemmas.Slice.Eq.{bytes_eq-Decides}
use Rattle.std.proofs.lemmas.Bool.{lt-ltb}
use Rattle.vb_types.specs.Keys.{key_cmp}
use Rattle.vb_types.specs.Images.{Picture, acted, applied, nothing, settled, is_older}
use Rattle.vb_types.specs.declared.doc.Doc.{Doc}
use Rattle.vb_types.specs.declared.change.Pend.{Pend}
use Rattle.vb_types.specs.declared.change.Act.{Act}
use Rattle.vb_types.specs.declared.change.Act.TheVariants.{Set, Remove, Prepare, Commit, Abort}
use Rattle.vb_types.specs.declared.change.Change.{Change}
use Rattle.vb_types.specs.Histories.{Rises, Slot, touches, last_of, plain_act, is_visible}
use Rattle.vb_types.specs.Lasts.{doc_left, pend_left, doc_by_last, pend_by_last, CommitsAsPlain, DocsByLast, PendsByLast}
use Rattle.vb_types.proofs.Laws.{get-insert_same, get-insert_other, get-remove_same, get-remove_other, other_acted}

-- one change

same_key : (a b : List ℕ) → bytes_eq a b ≡ true → a ≡ b
same_key a b e = (bytes_eq-Decides a b).0 e

other_key : (a b : List ℕ) → bytes_eq a b ≡ false → a ≢ b
other_key a b e same = let k = (bytes_eq-Decides a b).1 same in cc

doc_here : (image : Picture) (seq : ℕ) (key : List ℕ) (a : Act) → get (acted image seq key a).docs key ≡ (if is_visible a then doc_left a else get image.docs key)
unfolding doc_left
doc_here image seq key (Set doc) = get-insert_same image.docs key doc
doc_here image seq key (Remove cas rev) = get-remove_same image.docs key
doc_here image seq key (Prepare level doc deleted) = refl
doc_here image seq key (Commit prepared doc true) = get-remove_same image.docs key
doc_here image seq key (Commit prepared doc false) = get-insert_same image.docs key doc
doc_here image seq key (Abort prepared) = refl

doc_visible : (image : Picture) (c : Change) (q : List ℕ) (v : Bool) → is_visible c.act ≡ v → c.key ≡ q
    → (if is_visible c.act then doc_left c.act else get image.docs c.key) ≡ doc_by_last (if v then Some c else None) (get image.docs q)
unfolding doc_by_last
doc_visible image c q true ev ek = ap (λ b. if b then doc_left c.act else get image.docs c.key) ev
doc_visible image c q false ev ek = ap (λ b. if b then doc_left c.act else get image.docs c.key) ev ∙ ap (get image.docs) ek

doc_case : (image : Picture) (c : Change) (q : List ℕ) (b : Bool) → bytes_eq c.key q ≡ b
    → get (applied image c).docs q ≡ doc_by_last (if b && is_visible c.act then Some c else None) (get image.docs q)
unfolding doc_by_last
doc_case image c q true e = subst (λ k. get (applied image c).docs k ≡ doc_by_last (if is_visible c.act then Some c else None) (get image.docs q)) (same_key c.key q e)
    (doc_here image c.seq c.key c.act ∙ doc_visible image c q (is_visible c.act) refl (same_key c.key q e))
doc_case image c q false e = other_acted image c.seq c.key c.act q (other_key c.key q e)

doc_fold_step : (o : Option Change) (b : Bool) (c : Change) (now old : Option Doc) → now ≡ doc_by_last (if b then Some c else None) old
    → doc_by_last o now ≡ doc_by_last (option_or o (if b then Some c else None)) old
unfolding doc_by_last
doc_fold_step None b c now old e = e
doc_fold_step (Some d) b c now old e = refl

-- the documents after a list
pub doc_fold : (image : Picture) (cs : List Change) (q : List ℕ) → get (fold applied image cs).docs q ≡ doc_by_last (last_of (Slot.Committed q) cs) (get image.docs q)
unfolding doc_by_last
doc_fold image [] q = refl
doc_fold image (c ∷ cs) q = doc_fold (applied image c) cs q
    ∙ doc_fold_step (last_of (Slot.Committed q) cs) (touches (Slot.Committed q) c) c (get (applied image c).docs q) (get image.docs q) (doc_case image c q (bytes_eq c.key q) refl)

-- pending entries: no number above n
pub Under : ℕ → Picture → Type 0
Under n image = (k : List ℕ) (p : Pend) → get image.pending k ≡ Some p → p.seq ≤ n

older_case : (pending : FinMap key_cmp Pend) (n seq : ℕ) (key : List ℕ) (o : Option Pend) → get pending key ≡ o → ((p : Pend) → get pending key ≡ Some p → p.seq ≤ n) → n < seq
    → get (if is_older seq o then remove pending key else pending) key ≡ None
older_case pending n seq key None e u l = e
older_case pending n seq key (Some p) e u l =
    let k = u p e in
    let t : ltb p.seq seq ≡ true = lt-ltb p.seq seq (omega arith) in
    subst (λ b. get (if b then remove pending key else pending) key ≡ None) (sym t) (get-remove_same pending key)

settled_here : (image : Picture) (n seq : ℕ) (key : List ℕ) → Under n image → n < seq → get (settled image.pending seq key) key ≡ None
unfolding Under
settled_here image n seq key u l = older_case image.pending n seq key (get image.pending key) refl (u key) l

settled_there_case : (pending : FinMap key_cmp Pend) (key q : List ℕ) (b : Bool) → key ≢ q → get (if b then remove pending key else pending) q ≡ get pending q
settled_there_case pending key q true ne = get-remove_other pending key q ne
settled_there_case pending key q false ne = refl

settled_there : (image : Picture) (seq : ℕ) (key q : List ℕ) → key ≢ q → get (settled image.pending seq key) q ≡ get image.pending q
settled_there image seq key q ne = settled_there_case image.pending key q (is_older seq (get image.pending key)) ne

pend_here : (image : Picture) (n seq : ℕ) (key : List ℕ) (a : Act) → Under n image → n < seq → get (acted image seq key a).pending key ≡ pend_left seq a
unfolding pend_left
pend_here image n seq key (Set doc) u l = settled_here image n seq key u l
pend_here image n seq key (Remove cas rev) u l = settled_here image n seq key u l
pend_here image n seq key (Prepare level doc deleted) u l = get-insert_same image.pending key _
pend_here image n seq key (Commit prepared doc deleted) u l = settled_here image n seq key u l
pend_here image n seq key (Abort prepared) u l = settled_here image n seq key u l

pend_there : (image : Picture) (seq : ℕ) (key : List ℕ) (a : Act) (q : List ℕ) → key ≢ q → get (acted image seq key a).pending q ≡ get image.pending q
pend_there image seq key (Set doc) q ne = settled_there image seq key q ne
pend_there image seq key (Remove cas rev) q ne = settled_there image seq key q ne
pend_there image seq key (Prepare level doc deleted) q ne = get-insert_other image.pending key _ q ne
pend_there image seq key (Commit prepared doc deleted) q ne = settled_there image seq key q ne
pend_there image seq key (Abort prepared) q ne = settled_there image seq key q ne

pend_case : (image : Picture) (n : ℕ) (c : Change) (q : List ℕ) (b : Bool) → Under n image → n < c.seq → bytes_eq c.key q ≡ b
    → get (applied image c).pending q ≡ pend_by_last (if b then Some c else None) (get image.pending q)
unfolding pend_by_last
pend_case image n c q true u l e = subst (λ k. get (applied image c).pending k ≡ pend_left c.seq c.act) (same_key c.key q e) (pend_here image n c.seq c.key c.act u l)
pend_case image n c q false u l e = pend_there image c.seq c.key c.act q (other_key c.key q e)

seq_or : Option Pend → ℕ
seq_or None = 0
seq_or (Some p) = p.seq

left_seq : (seq : ℕ) (a : Act) (p : Pend) → pend_left seq a ≡ Some p → p.seq ≡ seq
unfolding pend_left seq_or
left_seq seq (Set doc) p e = cc
left_seq seq (Remove cas rev) p e = cc
left_seq seq (Prepare level doc deleted) p e = sym (ap seq_or e)
left_seq seq (Commit prepared doc deleted) p e = cc
left_seq seq (Abort prepared) p e = cc

under_case : (image : Picture) (n : ℕ) (c : Change) → Under n image → n < c.seq → (k : List ℕ) (p : Pend) (b : Bool) → bytes_eq c.key k ≡ b → get (applied image c).pending k ≡ Some p → p.seq ≤ c.seq
unfolding Under pend_by_last
under_case image n c u l k p true e g =
    let s = left_seq c.seq c.act p (sym (pend_case image n c k true u l e) ∙ g) in omega arith
under_case image n c u l k p false e g =
    let s = u k p (sym (pend_case image n c k false u l e) ∙ g) in omega arith

under_applied : (image : Picture) (n : ℕ) (c : Change) → Under n image → n < c.seq → Under c.seq (applied image c)
unfolding Under
under_applied image n c u l k p g = under_case image n c u l k p (bytes_eq c.key k) refl g

pend_fold_step : (o : Option Change) (b : Bool) (c : Change) (now old : Option Pend) → now ≡ pend_by_last (if b then Some c else None) old
    → pend_by_last o now ≡ pend_by_last (option_or o (if b then Some c else None)) old
unfolding pend_by_last
pend_fold_step None b c now old e = e
pend_fold_step (Some d) b c now old e = refl

-- the pending entries after a list
pub pend_fold : (image : Picture) (a b : ℕ) (cs : List Change) (q : List ℕ) → Under a image → Rises a b cs → get (fold applied image cs).pending q ≡ pend_by_last (last_of (Slot.Pending q) cs) (get image.pending q)
unfolding pend_by_last
pend_fold image a b [] q u r = refl
pend_fold image a b (c ∷ cs) q u r = pend_fold (applied image c) c.seq b cs q (under_applied image a c u r.0) r.1
    ∙ pend_fold_step (last_of (Slot.Pending q) cs) (touches (Slot.Pending q) c) c (get (applied image c).pending q) (get image.pending q) (pend_case image a c q (bytes_eq c.key q) u r.0 refl)

pub under_nothing : (n : ℕ) → Under n nothing
unfolding Under
under_nothing n k p e = let g : get nothing.pending k ≡ None = get-empty key_cmp k in cc

acted_plain : (image : Picture) (seq : ℕ) (key : List ℕ) (a : Act) → acted image seq key (plain_act a) ≡ acted image seq key a
acted_plain image seq key (Set doc) = refl
acted_plain image seq key (Remove cas rev) = refl
acted_plain image seq key (Prepare level doc deleted) = refl
acted_plain image seq key (Commit prepared doc true) = refl
acted_plain image seq key (Commit prepared doc false) = refl
acted_plain image seq key (Abort prepared) = refl

pub commits_as_plain : CommitsAsPlain
commits_as_plain image c = acted_plain image c.seq c.key c.act

pub docs_by_last : DocsByLast
docs_by_last h key = doc_fold nothing h key ∙ ap (doc_by_last (last_of (Slot.Committed key) h)) (get-empty key_cmp key)

pub pends_by_last : PendsByLast
pends_by_last high h key r = pend_fold nothing 0 high h key (under_nothing 0) r ∙ ap (pend_by_last (last_of (Slot.Pending key) h)) (get-empty key_cmp key)
