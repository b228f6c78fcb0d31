-- what is held of a branch from nothing on, and what stays held
use Rattle.std.proofs.Common.{◌≡◌, ℕ, ◌<◌, ◌≤◌, List, [], ◌∷◌, ◌++◌, ltb, refl, ap, sym, ◌∙◌, subst, inl, inr, ⊎_elim, arith}
use Rattle.std.proofs.lemmas.Bool.{cases_lt, lt-ltb}
use Rattle.std.specs.List.{fold}
use Rattle.vb_types.specs.Images.{Picture, applied, image_of}
use Rattle.vb_types.specs.declared.change.Change.{Change}
use Rattle.vb_types.specs.Histories.{upto, Rises}
use Rattle.branch_model.specs.Snapshots.{HasLast, AllOf, Remains}
use Rattle.branch_model.proofs.Lists.{from_upto, upto_in, upto_all, upto_down, upto_none, upto-upto, rises_upto, rises_push}
use Rattle.branch_model.proofs.Following.{complete, remains_same}
use Rattle.branch_model.proofs.Images.{plain_stands}
use Rattle.branch_model.proofs.Lasts.{in_filter, kept_in_filter}
use Rattle.branch_model.proofs.Holding.{HoldsAt, holds_forked, holds_push, holds_whole}
use Rattle.cluster_model.specs.Clusters.{HasAll, above}

-- another history with the same front
pub all_same : (h k held : List Change) (n : ℕ) → upto h n ≡ upto k n → HasAll h held n → HasAll k held n
all_same h k held n e a = remains_same h k (upto held n) 0 n e a

-- of one that is the same further on
pub all_below : (h k held : List Change) (m n : ℕ) → m ≤ n → upto h n ≡ upto k n → HasAll h held m → HasAll k held m
all_below h k held m n l e a = all_same h k held m (upto_down h k m n l e) a

-- where the same is held up to there
pub all_kept : (h held more : List Change) (n : ℕ) → upto held n ≡ upto more n → HasAll h held n → HasAll h more n
all_kept h held more n e a = subst (λ x. Remains x h 0 n) e a

-- of less
pub all_front : (h held : List Change) (m n : ℕ) → m ≤ n → HasAll h held m → HasAll h (upto held n) m
all_front h held m n l a = all_kept h held (upto held n) m (sym (upto-upto held m n l)) a

-- nothing is asked at 0
pub all_none : (at : ℕ) (h held : List Change) → Rises 0 at held → HasAll h held 0
all_none at h held r =
    let none : upto held 0 ≡ [] = upto_none 0 at 0 held r (omega arith) in
    record {
      rises = rises_upto 0 at 0 held (omega arith) r;
      of = subst (λ x. AllOf x h) (sym none) (λ x i. absurd i);
      has = λ s c e a b. absurd (omega arith);
    }

-- it leaves the history's image
pub all_image : (top : ℕ) (h held : List Change) (n : ℕ) → Rises 0 top h → HasAll h held n → image_of (upto held n) ≡ image_of (upto h n)
all_image top h held n r a = ap (λ x. fold_from x) (sym (upto_none 0 top 0 h r (omega arith))) ∙ complete top h (upto held n) 0 n r a.rises a.of a.has
  where
    fold_from : List Change → Picture
    fold_from x = fold applied (image_of x) (upto held n)

-- what is held in all, where all of it is of h
pub all_holds : (h held : List Change) (n : ℕ) → AllOf held h → HasAll h held n → HoldsAt 0 (λ m. m ≡ n) held h
all_holds h held n of a = record {
  of = of;
  has = λ m e. subst (λ k. HasLast held h 0 k k) (sym e) (λ s c q b d. let x = a.has s c q b d in (x.0, (from_upto x.0 held n x.1).0, x.2));
}

holds_all : (at : ℕ) (h held : List Change) → Rises 0 at held → HoldsAt 0 (λ m. m ≡ at) held h → HasAll h held at
holds_all at h held r x = subst (λ l. Remains l h 0 at) (sym (upto_all 0 at at held r (omega arith))) (record { rises = r; of = x.of; has = x.has at refl })

-- what is held in all at one seqno, among others
pub holds_front : (at m : ℕ) (W : ℕ → Type 0) (h held : List Change) → Rises 0 at held → W m → HoldsAt 0 W held h → HasAll h held m
holds_front at m W h held r whole x = record {
  rises = rises_upto 0 at m held (omega arith) r;
  of = λ y i. x.of y (from_upto y held m i).0;
  has = λ s c e a b. let o = x.has m whole s c e a b in let level : o.0.seq ≡ c.seq = ap (λ (y : Change). y.seq) (plain_stands o.0 c o.2) in (o.0, upto_in o.0 held m o.1 (omega arith), o.2);
}

-- one more change at the end of both
pub all_push : (at : ℕ) (h held : List Change) (c : Change) → Rises 0 at h → Rises 0 at held → at < c.seq → HasAll h held at → HasAll (h ++ c ∷ []) (held ++ c ∷ []) c.seq
all_push at h held c rh rl l a =
    let whole : Remains held h 0 at = subst (λ x. Remains x h 0 at) (upto_all 0 at at held rl (omega arith)) a in
    holds_all c.seq (h ++ c ∷ []) (held ++ c ∷ []) (rises_push 0 at held c rl l)
    (holds_push 0 (λ m. m ≡ at) (λ m. m ≡ c.seq) at held h c rh l whole.has (λ n e. inr e) (all_holds h held at whole.of a))

-- a history that leaves h at f, with what is held above
pub all_forked : (top at f : ℕ) (h held : List Change) → Rises 0 top h → Rises 0 at held → f ≤ at → AllOf held h → HasAll h held f → HasAll (upto h f ++ above held f) held at
all_forked top at f h held rh rl l of a =
    let x = all_holds h held f of a in
    holds_all at (upto h f ++ above held f) held rl
    (holds_forked 0 (λ m. m ≡ f) (λ m. m ≡ at) top at f held h rh rl l (x.has f refl)
    (λ n e. ⊎_elim (λ m. inr (omega arith)) (λ m. inl (omega arith, omega arith)) (cases_lt f at)) x)

-- a whole snapshot above what is held
pub all_joined : (top ss se : ℕ) (h held : List Change) → Rises 0 top h → Rises 0 se held → ss ≤ se → AllOf held h → HasAll h held ss → HasLast (above held ss) h ss se se → HasAll h held se
all_joined top ss se h held rh rl l of a has =
    let x = all_holds h held ss of a in
    holds_all se h held rl
    (record { of = of; has = λ n e. subst (λ k. HasLast held h 0 k k) (sym e) (holds_whole 0 top ss se held (above held ss) h rh l (x.has ss refl) has (λ c i. (in_filter (λ y. ltb ss y.seq) c held i).0)) })

-- what is of h up to f and above ss is of h, where ss is at most f
pub all_of : (f ss : ℕ) (h held : List Change) → ss ≤ f → HasAll h held f → AllOf (above held ss) h → AllOf held h
all_of f ss h held l a of x i = ⊎_elim
    (λ (m : f < x.seq). of x (kept_in_filter (λ y. ltb ss y.seq) x held i (lt-ltb ss x.seq (omega arith))))
    (λ (m : x.seq ≤ f). a.of x (upto_in x held f i m))
    (cases_lt f x.seq)
