-- outstanding prepares by rising seqnos, what one that comes or goes leaves, and what waits after a change
use Rattle.std.proofs.Common.{◌≡◌, ◌≢◌, ℕ, ◌+◌, ◌<◌, ◌≤◌, Bool, true, false, List, [], ◌∷◌, ◌++◌, length, leb, ltb, refl, sym, ap, subst, ◌∙◌, inl, inr, ⊎_elim, arith}
use Rattle.std.specs.Prelude.{◌⊎◌, Option, Some, None, if◌then◌else◌, nat_lt}
use Rattle.std.specs.FinMap as finite
use Rattle.std.specs.List.{fold}
use Rattle.std.specs.Str.{bytes_eq}
use Rattle.std.proofs.lemmas.Bool.{lt-ltb, le-ltb, le-leb, cases_lt, cases_order}
use Rattle.std.proofs.lemmas.Slice.Eq.{bytes_eq-Decides}
use Rattle.durability.specs.declared.waiting.Waiting.{Waiting}
use Rattle.durability.specs.Laws.{Waits}
use Rattle.durability.specs.Outstanding.{Rises as Climbs, above, placed, upto, without}
use Rattle.durability.proofs.Rising as rising
use Rattle.vb_types.specs.Keys.{key_cmp}
use Rattle.vb_types.specs.Histories.{Rises}
use Rattle.vb_types.specs.Images.{Picture, acted, applied, image_of, is_older, nothing}
use Rattle.vb_types.specs.declared.change.Act.{Act}
use Rattle.vb_types.specs.declared.change.Act.TheVariants as act
use Rattle.vb_types.specs.declared.change.Change.{Change}
use Rattle.vb_types.specs.declared.change.Pend.{Pend}
use Rattle.vb_types.proofs.Laws.{get-insert_same, get-insert_other, get-remove_same, get-remove_other}
use Rattle.vbucket.specs.Laws.{Above, Ascend, PendSeqsUpTo, PendsDiffer}

-- by rising seqnos

pub ascend_climbs : (n : ℕ) (ws : List Waiting) → Above n ws → Ascend ws → Climbs n ws
ascend_climbs n [] a r = tt
ascend_climbs n (w ∷ ws) a r = (let l : n < w.seq = a.0 in omega arith, ascend_climbs w.seq ws r.0 r.1)

pub waits_above : (n : ℕ) (ws : List Waiting) (v : Waiting) → Above n ws → Waits v ws → n < v.seq
waits_above n [] v a i = absurd i
waits_above n (w ∷ ws) v a i = ⊎_elim (λ e. subst (λ (x : Waiting). n < x.seq) (sym e) a.0) (λ j. waits_above n ws v a.1 j) i

above_more : (m n : ℕ) (ws : List Waiting) → m < n → Above n ws → Above m ws
above_more m n [] l a = tt
above_more m n (w ∷ ws) l a = (let k : n < w.seq = a.0 in omega arith, above_more m n ws l a.1)

rising_above : (n : ℕ) (ws : List Waiting) → Above n ws → rising.Above n ws
rising_above n [] a = tt
rising_above n (w ∷ ws) a = (a.0, rising_above n ws a.1)

-- the lowest goes
pub front_goes : (w : Waiting) (ws : List Waiting) → Ascend (w ∷ ws) → without w.seq (w ∷ ws) ≡ ws
front_goes w ws r = rising.without_first w.seq w ws refl (ascend_climbs w.seq ws r.0 r.1)

-- xs are those of ws without the one of the seqno q
pub record IsGone (q : ℕ) (ws xs : List Waiting) : Type 0 where
  pub ascend : Ascend xs
  pub was : (v : Waiting) → Waits v xs → Waits v ws × (v.seq ≢ q)
  pub stays : (v : Waiting) → Waits v ws → v.seq ≢ q → Waits v xs
  pub shorter : (v : Waiting) → Waits v ws → v.seq ≡ q → length ws ≡ length xs + 1
  pub above : (n : ℕ) → Above n ws → Above n xs

first_gone : (w : Waiting) (ws : List Waiting) → Ascend (w ∷ ws) → IsGone w.seq (w ∷ ws) ws
first_gone w ws r = record {
  ascend = r.1;
  was = λ v i. (inr i, λ e. let l = waits_above w.seq ws v r.0 i in omega arith);
  stays = λ v i n. ⊎_elim (λ e. absurd (n (ap (λ (x : Waiting). x.seq) e))) (λ j. j) i;
  shorter = λ v i e. omega arith;
  above = λ n a. a.1;
}

none_gone : (q : ℕ) (w : Waiting) (ws : List Waiting) → q < w.seq → Ascend (w ∷ ws) → IsGone q (w ∷ ws) (w ∷ ws)
none_gone q w ws l r = record {
  ascend = r;
  was = λ v i. (i, λ e. over v i e);
  stays = λ v i n. i;
  shorter = λ v i e. absurd (over v i e);
  above = λ n a. a;
}
  where
    over : (v : Waiting) → Waits v (w ∷ ws) → v.seq ≡ q → ⊥
    over v i e = ⊎_elim (λ s. let k : v.seq ≡ w.seq = ap (λ (x : Waiting). x.seq) s in omega arith) (λ j. let k = waits_above w.seq ws v r.0 j in omega arith) i

later_gone : (q : ℕ) (w : Waiting) (ws xs : List Waiting) → w.seq < q → Ascend (w ∷ ws) → IsGone q ws xs → IsGone q (w ∷ ws) (w ∷ xs)
later_gone q w ws xs l r g = record {
  ascend = (g.above w.seq r.0, g.ascend);
  was = λ v i. ⊎_elim (λ s. (inl s, λ e. let k : v.seq ≡ w.seq = ap (λ (x : Waiting). x.seq) s in omega arith)) (λ j. let k = g.was v j in (inr k.0, k.1)) i;
  stays = λ v i n. ⊎_elim (λ s. inl s) (λ j. inr (g.stays v j n)) i;
  shorter = λ v i e. ⊎_elim (λ s. let k : v.seq ≡ w.seq = ap (λ (x : Waiting). x.seq) s in absurd (omega arith)) (λ j. let k = g.shorter v j e in omega arith) i;
  above = λ n a. (a.0, g.above n a.1);
}

pub gone : (q : ℕ) (ws : List Waiting) → Ascend ws → IsGone q ws (without q ws)
gone q [] r = record { ascend = tt; was = λ v i. absurd i; stays = λ v i n. absurd i; shorter = λ v i e. absurd i; above = λ n a. tt }
gone q (w ∷ ws) r = ⊎_elim
    (λ s. subst (λ n. IsGone n (w ∷ ws) (without n (w ∷ ws))) (sym s) (subst (IsGone w.seq (w ∷ ws)) (sym (front_goes w ws r)) (first_gone w ws r)))
    (⊎_elim
    (λ l. subst (IsGone q (w ∷ ws)) (sym (rising.without_above q (w ∷ ws) (l, rising_above q ws (above_more q w.seq ws l r.0)))) (none_gone q w ws l r))
    (λ l. subst (IsGone q (w ∷ ws)) (sym (rising.without_later q w ws l)) (later_gone q w ws (without q ws) l r (gone q ws r.1))))
    (cases_order q w.seq)

-- xs are those of ws and p
pub record IsPut (p : Waiting) (ws xs : List Waiting) : Type 0 where
  pub ascend : Ascend xs
  pub was : (v : Waiting) → Waits v xs → (v ≡ p) ⊎ Waits v ws
  pub there : Waits p xs
  pub stays : (v : Waiting) → Waits v ws → Waits v xs
  pub longer : length xs ≡ length ws + 1
  pub above : (n : ℕ) → n < p.seq → Above n ws → Above n xs

first_put : (p : Waiting) (ws : List Waiting) → Above p.seq ws → Ascend ws → IsPut p ws (p ∷ ws)
first_put p ws a r = record {
  ascend = (a, r);
  was = λ v i. i;
  there = inl refl;
  stays = λ v i. inr i;
  longer = omega arith;
  above = λ n l k. (l, k);
}

later_put : (p w : Waiting) (ws xs : List Waiting) → w.seq < p.seq → Above w.seq ws → IsPut p ws xs → IsPut p (w ∷ ws) (w ∷ xs)
later_put p w ws xs l a g = record {
  ascend = (g.above w.seq l a, g.ascend);
  was = λ v i. ⊎_elim (λ s. inr (inl s)) (λ j. ⊎_elim (λ s. inl s) (λ k. inr (inr k)) (g.was v j)) i;
  there = inr g.there;
  stays = λ v i. ⊎_elim (λ s. inl s) (λ j. inr (g.stays v j)) i;
  longer = let k = g.longer in omega arith;
  above = λ n m k. (k.0, g.above n m k.1);
}

placed_first : (p w : Waiting) (ws : List Waiting) → p.seq < w.seq → Above w.seq ws → placed p (w ∷ ws) ≡ p ∷ w ∷ ws
placed_first p w ws l a =
    let k = rising.above_parts p.seq (w ∷ ws) (l, rising_above p.seq ws (above_more p.seq w.seq ws l a)) in
    ap (λ xs. xs ++ p ∷ above p.seq (w ∷ ws)) k.3 ∙ ap (λ xs. p ∷ xs) k.2

placed_later : (p w : Waiting) (ws : List Waiting) → w.seq ≤ p.seq → placed p (w ∷ ws) ≡ w ∷ placed p ws
placed_later p w ws l =
    ap (λ xs. xs ++ p ∷ above p.seq (w ∷ ws)) (rising.kept (λ v. leb v.seq p.seq) w ws (upto p.seq ws) (le-leb w.seq p.seq l) refl)
    ∙ ap (λ xs. w ∷ upto p.seq ws ++ p ∷ xs) (rising.left (λ v. ltb p.seq v.seq) w ws (above p.seq ws) (le-ltb p.seq w.seq l) refl)

pub put : (p : Waiting) (ws : List Waiting) → Ascend ws → ((v : Waiting) → Waits v ws → v.seq ≢ p.seq) → IsPut p ws (placed p ws)
put p [] r h = first_put p [] tt tt
put p (w ∷ ws) r h = ⊎_elim
    (λ l. subst (IsPut p (w ∷ ws)) (sym (placed_first p w ws l r.0)) (first_put p (w ∷ ws) (l, above_more p.seq w.seq ws l r.0) r))
    (λ l. subst (IsPut p (w ∷ ws)) (sym (placed_later p w ws l)) (later_put p w ws (placed p ws) (below l (h w (inl refl))) r.0 (put p ws r.1 (λ v i. h v (inr i)))))
    (cases_lt p.seq w.seq)
  where
    below : w.seq ≤ p.seq → w.seq ≢ p.seq → w.seq < p.seq
    below l n = ⊎_elim (λ k. k) (λ k. absurd (n (omega arith))) (cases_lt w.seq p.seq)

-- what waits after a change

-- it prepares nothing
abbrev pub NoPrepare : Act → Type 0
NoPrepare (act.Set doc) = Unit {0}
NoPrepare (act.Remove cas rev) = Unit {0}
NoPrepare (act.Prepare level doc deleted) = ⊥
NoPrepare (act.Commit prepared doc deleted) = Unit {0}
NoPrepare (act.Abort prepared) = Unit {0}

none_some : {A : Type 0} (o : Option Pend) (p : Pend) → o ≡ None → o ≡ Some p → A
none_some None p n e = cc
none_some (Some q) p n e = cc

less_lt : (m n : ℕ) → m < n → nat_lt m n ≡ true
less_lt m n l = lt-ltb m n l

dropped : (pending : finite.FinMap key_cmp Pend) (seq : ℕ) (key : List ℕ) (o : Option Pend) → finite.get pending key ≡ o → ((p : Pend) → o ≡ Some p → p.seq < seq)
    → finite.get (if is_older seq o then finite.remove pending key else pending) key ≡ None
dropped pending seq key None e h = e
dropped pending seq key (Some p) e h =
    ap (λ b. finite.get (if b then finite.remove pending key else pending) key) (less_lt p.seq seq (h p refl)) ∙ get-remove_same pending key

-- an act that prepares nothing leaves nothing waiting at its key
pub pend_gone : (n : ℕ) (image : Picture) (seq : ℕ) (key : List ℕ) (a : Act) → PendSeqsUpTo n image → n < seq → NoPrepare a → finite.get (acted image seq key a).pending key ≡ None
pend_gone n image seq key (act.Set doc) u l s = dropped image.pending seq key (finite.get image.pending key) refl (λ p e. let k = u key p e in omega arith)
pend_gone n image seq key (act.Remove cas rev) u l s = dropped image.pending seq key (finite.get image.pending key) refl (λ p e. let k = u key p e in omega arith)
pend_gone n image seq key (act.Prepare level doc deleted) u l s = absurd s
pend_gone n image seq key (act.Commit prepared doc deleted) u l s = dropped image.pending seq key (finite.get image.pending key) refl (λ p e. let k = u key p e in omega arith)
pend_gone n image seq key (act.Abort prepared) u l s = dropped image.pending seq key (finite.get image.pending key) refl (λ p e. let k = u key p e in omega arith)

-- where nothing waited, nothing waits
pub pend_none : (image : Picture) (seq : ℕ) (key : List ℕ) (a : Act) → NoPrepare a → finite.get image.pending key ≡ None → finite.get (acted image seq key a).pending key ≡ None
pend_none image seq key (act.Set doc) s e = dropped image.pending seq key (finite.get image.pending key) refl (λ p q. none_some _ p e q)
pend_none image seq key (act.Remove cas rev) s e = dropped image.pending seq key (finite.get image.pending key) refl (λ p q. none_some _ p e q)
pend_none image seq key (act.Prepare level doc deleted) s e = absurd s
pend_none image seq key (act.Commit prepared doc deleted) s e = dropped image.pending seq key (finite.get image.pending key) refl (λ p q. none_some _ p e q)
pend_none image seq key (act.Abort prepared) s e = dropped image.pending seq key (finite.get image.pending key) refl (λ p q. none_some _ p e q)

elsewhere : (pending : finite.FinMap key_cmp Pend) (key q : List ℕ) (b : Bool) → key ≢ q → finite.get (if b then finite.remove pending key else pending) q ≡ finite.get pending q
elsewhere pending key q true n = get-remove_other pending key q n
elsewhere pending key q false n = refl

-- at other keys there waits what waited
pub pend_stays : (image : Picture) (seq : ℕ) (key : List ℕ) (a : Act) (q : List ℕ) → key ≢ q → finite.get (acted image seq key a).pending q ≡ finite.get image.pending q
pend_stays image seq key (act.Set doc) q n = elsewhere image.pending key q (is_older seq (finite.get image.pending key)) n
pend_stays image seq key (act.Remove cas rev) q n = elsewhere image.pending key q (is_older seq (finite.get image.pending key)) n
pend_stays image seq key (act.Prepare level doc deleted) q n = get-insert_other image.pending key (record { seq = seq; level = level; doc = doc; deleted = deleted }) q n
pend_stays image seq key (act.Commit prepared doc deleted) q n = elsewhere image.pending key q (is_older seq (finite.get image.pending key)) n
pend_stays image seq key (act.Abort prepared) q n = elsewhere image.pending key q (is_older seq (finite.get image.pending key)) n

-- what waits after a change waited before, or is its own prepare
at_key : (n : ℕ) (image : Picture) (seq : ℕ) (key : List ℕ) (a : Act) (p : Pend) → PendSeqsUpTo n image → n < seq → finite.get (acted image seq key a).pending key ≡ Some p → p.seq ≡ seq
at_key n image seq key (act.Set doc) p u l e = none_some _ p (pend_gone n image seq key (act.Set doc) u l tt) e
at_key n image seq key (act.Remove cas rev) p u l e = none_some _ p (pend_gone n image seq key (act.Remove cas rev) u l tt) e
at_key n image seq key (act.Prepare level doc deleted) p u l e =
    let there = sym (get-insert_same image.pending key (record { seq = seq; level = level; doc = doc; deleted = deleted })) ∙ e in
    let is : record { seq = seq; level = level; doc = doc; deleted = deleted } ≡ p = cc in sym (ap (λ (x : Pend). x.seq) is)
at_key n image seq key (act.Commit prepared doc deleted) p u l e = none_some _ p (pend_gone n image seq key (act.Commit prepared doc deleted) u l tt) e
at_key n image seq key (act.Abort prepared) p u l e = none_some _ p (pend_gone n image seq key (act.Abort prepared) u l tt) e

pub pend_after_one : (n : ℕ) (image : Picture) (seq : ℕ) (key : List ℕ) (a : Act) (q : List ℕ) (p : Pend) → PendSeqsUpTo n image → n < seq → finite.get (acted image seq key a).pending q ≡ Some p
    → ((key ≢ q) × (finite.get image.pending q ≡ Some p)) ⊎ ((key ≡ q) × (p.seq ≡ seq))
pend_after_one n image seq key a q p u l e = by (bytes_eq key q) refl
  where
    by : (b : Bool) → bytes_eq key q ≡ b → ((key ≢ q) × (finite.get image.pending q ≡ Some p)) ⊎ ((key ≡ q) × (p.seq ≡ seq))
    by true t = let s = (bytes_eq-Decides key q).0 t in inr (s, at_key n image seq key a p u l (subst (λ x. finite.get (acted image seq key a).pending x ≡ Some p) (sym s) e))
    by false t =
        let m : key ≢ q = λ s. let z = (bytes_eq-Decides key q).1 s in cc in
        inl (m, sym (pend_stays image seq key a q m) ∙ e)

pub seqs_acted : (n : ℕ) (image : Picture) (seq : ℕ) (key : List ℕ) (a : Act) → PendSeqsUpTo n image → n < seq → PendSeqsUpTo seq (acted image seq key a)
seqs_acted n image seq key a u l = λ q p e. ⊎_elim (λ o. let k = u q p o.1 in omega arith) (λ o. let k = o.1 in omega arith) (pend_after_one n image seq key a q p u l e)

pub differ_acted : (n : ℕ) (image : Picture) (seq : ℕ) (key : List ℕ) (a : Act) → PendSeqsUpTo n image → n < seq → PendsDiffer image → PendsDiffer (acted image seq key a)
differ_acted n image seq key a u l d = λ q r p s e f same. ⊎_elim
    (λ o. ⊎_elim (λ x. d q r p s o.1 x.1 same) (λ x. let k = u q p o.1 in let m = x.1 in absurd (omega arith)) (pend_after_one n image seq key a r s u l f))
    (λ o. ⊎_elim (λ x. let k = u r s x.1 in let m = o.1 in absurd (omega arith)) (λ x. sym o.0 ∙ x.0) (pend_after_one n image seq key a r s u l f))
    (pend_after_one n image seq key a q p u l e)

pub seqs_more : (m n : ℕ) (image : Picture) → m ≤ n → PendSeqsUpTo m image → PendSeqsUpTo n image
seqs_more m n image l u = λ q p e. let k = u q p e in omega arith

-- after changes with rising seqnos
pub seqs_fold : (low high : ℕ) (image : Picture) (cs : List Change) → Rises low high cs → PendSeqsUpTo low image → PendSeqsUpTo high (fold applied image cs)
seqs_fold low high image [] r u = seqs_more low high image r u
seqs_fold low high image (c ∷ cs) r u = seqs_fold c.seq high (applied image c) cs r.1 (seqs_acted low image c.seq c.key c.act u r.0)

pub differ_fold : (low high : ℕ) (image : Picture) (cs : List Change) → Rises low high cs → PendSeqsUpTo low image → PendsDiffer image → PendsDiffer (fold applied image cs)
differ_fold low high image [] r u d = d
differ_fold low high image (c ∷ cs) r u d = differ_fold c.seq high (applied image c) cs r.1 (seqs_acted low image c.seq c.key c.act u r.0) (differ_acted low image c.seq c.key c.act u r.0 d)

-- of an image of changes with rising seqnos
pub image_seqs : (low high : ℕ) (cs : List Change) → Rises low high cs → PendSeqsUpTo high (image_of cs)
image_seqs low high cs r = seqs_fold low high nothing cs r (λ key p e. none_some _ p (finite.get-empty key_cmp key) e)

pub image_differ : (low high : ℕ) (cs : List Change) → Rises low high cs → PendsDiffer (image_of cs)
image_differ low high cs r = differ_fold low high nothing cs r (λ key p e. none_some _ p (finite.get-empty key_cmp key) e) (λ key q p o e f same. none_some _ p (finite.get-empty key_cmp key) e)
