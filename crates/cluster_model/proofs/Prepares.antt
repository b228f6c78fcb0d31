-- commits and the prepares that they name
use Rattle.std.proofs.Common.{◌≡◌, ℕ, ◌<◌, ◌≤◌, Bool, true, false, List, [], ◌∷◌, ◌++◌, ap, sym, ◌∙◌, subst, ⊎_elim, arith}
use Rattle.vb_types.specs.Images.{Picture, image_of}
use Rattle.vb_types.specs.declared.doc.Doc.{Doc}
use Rattle.vb_types.specs.declared.change.Act.{Act}
use Rattle.vb_types.specs.declared.change.Act.TheVariants.{Set, Remove, Prepare, Commit, Abort}
use Rattle.vb_types.specs.declared.change.Change.{Change}
use Rattle.vb_types.specs.Histories.{upto, Rises, IsIn, plain_act}
use Rattle.branch_model.specs.Histories.{StandsAs, IsOf, HasPrepares}
use Rattle.branch_model.specs.Snapshots.{Follows}
use Rattle.cluster_model.specs.Clusters.{Names, Fulfils}
use Rattle.branch_model.proofs.Lists.{in_append, in_left, from_upto, upto_in, rises_in}
use Rattle.branch_model.proofs.Following.{place}
use Rattle.branch_model.proofs.Plain.{pending_from, commit_document}

-- a plain form is no commit
commit_itself : (x c : Change) (number : ℕ) (doc : Doc) (deleted : Bool) → StandsAs x c → x.act ≡ Commit number doc deleted → x ≡ c
commit_itself x c number doc deleted s e = ⊎_elim (λ q. q) (λ q. acts c.act (ap (λ (y : Change). y.act) (sym q) ∙ e)) s
  where
    acts : (a : Act) → plain_act a ≡ Commit number doc deleted → x ≡ c
    acts (Set d) q = cc
    acts (Remove cas rev) q = cc
    acts (Prepare l d f) q = cc
    acts (Commit n d true) q = cc
    acts (Commit n d false) q = cc
    acts (Abort n) q = cc

-- a front of a prepared history
pub prepared_upto : (h : List Change) (n : ℕ) → HasPrepares h → HasPrepares (upto h n)
prepared_upto h n pr c number doc deleted i e =
    let j = from_upto c h n i in
    let p = pr c number doc deleted j.0 e in
    let l : p.0.seq < c.seq = p.6 in
    let m : c.seq ≤ n = j.1 in
    (p.0, p.1, upto_in p.0 h n p.2 (omega arith), p.3, p.4, p.5, p.6)

-- one more change, which fulfils what it names
pub prepared_push : (b : ℕ) (l : List Change) (c : Change) → Rises 0 b l → b < c.seq → HasPrepares l → Fulfils (image_of l) c → HasPrepares (l ++ c ∷ [])
prepared_push b l c r less pr f x number doc deleted i e = ⊎_elim
    (λ j. let p = pr x number doc deleted j e in (p.0, p.1, in_left p.0 l (c ∷ []) p.2, p.3, p.4, p.5, p.6))
    (λ j. ⊎_elim
    (λ same.
    let g = f number doc deleted (ap (λ (y : Change). y.act) (sym same) ∙ e) in
    let q = pending_from 0 b l c.key g.0 r g.1 in
    let k = (rises_in 0 b l q.0 r q.1).1 in
    let xs : x.seq ≡ c.seq = ap (λ (y : Change). y.seq) same in
    (q.0, g.0.level, in_left q.0 l (c ∷ []) q.1, q.3 ∙ g.2, q.2 ∙ ap (λ (y : Change). y.key) (sym same), q.4 ∙ ap (λ d. Prepare g.0.level d g.0.deleted) g.3 ∙ ap (λ d. Prepare g.0.level doc d) g.4, omega arith))
    (λ n. absurd n) j)
    (in_append x l (c ∷ []) i)

-- the next change of a consumer fulfils what it names
pub next_fulfils : (top : ℕ) (h got rest : List Change) (ss se at : ℕ) (image : Picture) (c : Change) → Rises 0 top h → HasPrepares h → Follows h (place ss se at) got image → IsOf h c → Names image c → Fulfils image c
next_fulfils top h got rest ss se at image c rh pr f o n number doc deleted e =
    let g = n number doc deleted e in
    let i : IsIn c h = subst (λ x. IsIn x h) (sym (commit_itself c o.0 number doc deleted o.2 e)) o.1 in
    let d = commit_document top h got ss se at image c number doc deleted g.0 rh pr f i e g.1 g.2 in
    (g.0, g.1, g.2, d.0, d.1)
