-- who may come to write on a branch
use Rattle.std.proofs.Common.{◌≡◌, ℕ, Bool, true, false, cond, List, [], ◌∷◌, eqb, refl, ap, sym, ◌∙◌, subst, inl, inr, ⊎_elim}
use Rattle.std.specs.Prelude.{Some, None, ◌⊎◌}
use Rattle.std.proofs.lemmas.Bool.{eqb-false}
use Rattle.branch_model.specs.Trees.{branch}
use Rattle.cluster_model.specs.Clusters.{Member, Cluster, ground, put, Move, happens, run, May, MayAll, loaded, answered, owned, risen, rolled, cut, yielded, received, marked_member, sent, adopted, IsGiven, HasRight, Writes, Settled, SoundCluster}
use Rattle.branch_model.specs.Journals.{found}
use Rattle.cluster_model.proofs.Keeping.{writes_put, writes_less, no_right, sent_right, sent_active, adopted_right, adopted_active}
use Rattle.cluster_model.proofs.Receiving.{received_right, received_active, marked_right, marked_active}
use Rattle.cluster_model.proofs.Forking.{new_who}
use Rattle.cluster_model.proofs.Rising.{ceded_who}
use Rattle.cluster_model.proofs.Runs.{keeps, extends_by}

-- a move gives nobody else the right to write on a branch that is there, but where its writer gives it up for him
abbrev Passes : Cluster → Move → ℕ → ℕ → Type 0
Passes w e j u = Writes u (w.nodes j) ⊎ ((p : ℕ) × (e ≡ Move.Cede j p) × ((w.nodes p).active ≡ true) × ((w.nodes p).br ≡ u))

quiet : (w : Cluster) (e : Move) (k : ℕ) (n : Member) → ((u : ℕ) → Writes u n → Writes u (w.nodes k)) → (j u : ℕ) → Writes u (put w.nodes k n j) → Passes w e j u
quiet w e k n h j u x = inl (writes_put w.nodes k n h j u x)

own_less : (n m : Member) → m.active ≡ n.active → m.br ≡ n.br → ((u x : ℕ) → IsGiven u x m.link → IsGiven u x n.link) → (u : ℕ) → Writes u m → Writes u n
own_less n m a b h u x = ⊎_elim (λ y. inl (sym a ∙ y.0, sym b ∙ y.1)) (λ r. inr (r.0, h u r.0 r.1)) x

pub writes_by : (top : ℕ) (w : Cluster) (e : Move) → SoundCluster top w → May top w e → (j u : ℕ) → Settled (ground w) u 0 → Writes u ((happens w e).nodes j)
    → Writes u (w.nodes j) ⊎ ((p : ℕ) × (e ≡ Move.Cede j p) × ((w.nodes p).active ≡ true) × ((w.nodes p).br ≡ u))
writes_by top w (Move.Own k c) s m j u st x = let n = w.nodes k in quiet w (Move.Own k c) k (owned n c) (own_less n (owned n c) refl refl (λ y h r. no_right y h n.link r)) j u x
writes_by top w (Move.Grant k p) s m j u st x = let n = w.nodes k in quiet w (Move.Grant k p) k (answered n (w.nodes p)) (writes_less n (answered n (w.nodes p)) m.0 (λ y h r. let z : None ≡ Some h = r.0 in cc)) j u x
writes_by top w (Move.Send k p items end) s m j u st x = let n = w.nodes k in
    quiet w (Move.Send k p items end) k (sent n n.link items end) (writes_less n (sent n n.link items end) (sent_active n n.link items end ∙ m.0) (λ y h r. sent_right n n.link items end y h refl r)) j u x
writes_by top w (Move.Adopt k) s m j u st x = let n = w.nodes k in quiet w (Move.Adopt k) k (adopted n n.link) (writes_less n (adopted n n.link) (adopted_active n n.link ∙ m.0) (λ y h r. adopted_right n n.link y h refl r)) j u x
writes_by top w (Move.Marker k) s m j u st x = let n = w.nodes k in quiet w (Move.Marker k) k (marked_member n n.link) (writes_less n (marked_member n n.link) (marked_active n n.link ∙ m.0) (λ y h r. marked_right n n.link y h refl r)) j u x
writes_by top w (Move.Receive k) s m j u st x = let n = w.nodes k in quiet w (Move.Receive k) k (received n n.coming) (writes_less n (received n n.coming) (received_active n n.coming ∙ m.0) (λ y h r. received_right n n.coming y h r)) j u x
writes_by top w (Move.Cut k) s m j u st x = let n = w.nodes k in quiet w (Move.Cut k) k (cut n) (writes_less n (cut n) m (λ y h r. no_right y h n.link r)) j u x
writes_by top w (Move.Take k position cas items) s m j u st x = quiet w (Move.Take k position cas items) k (w.nodes k) (λ y r. r) j u x
writes_by top w (Move.Append k r) s m j u st x = quiet w (Move.Append k r) k (w.nodes k) (λ y z. z) j u x
writes_by top w (Move.Roll k to) s m j u st x = let n = w.nodes k in quiet w (Move.Roll k to) k (rolled n to) (writes_less n (rolled n to) m.0 (λ y h r. no_right y h n.link r)) j u x
writes_by top w (Move.Break k r) s m j u st x = quiet w (Move.Break k r) k (w.nodes k) (λ y z. z) j u x
writes_by top w (Move.Crash k stood) s m j u st x = let n = w.nodes k in let v = loaded n.br n.held (found (w.disks k).book (w.disks k).late stood) in
    quiet w (Move.Crash k stood) k v (writes_less n v refl (λ y h r. no_right y h n.link r)) j u x
writes_by top w (Move.Promote k id) s m j u st x = ⊎_elim
    (λ a. let z : None ≡ Some st.0.0 = sym m.1 ∙ ap (branch w.tree) a.1 ∙ st.0.1 in cc)
    (λ a. inl a.0) (new_who top w k id s m j u x)
writes_by top w (Move.Yield k) s m j u st x = let n = w.nodes k in quiet w (Move.Yield k) k (yielded n) (writes_less n (yielded n) refl (λ y h r. no_right y h n.link r)) j u x
writes_by top w (Move.Cede k p) s m j u st x = ⊎_elim (λ a. inr (p, ap (λ y. Move.Cede y p) (sym a.0), m.1, sym a.1)) (λ a. inl a.0) (ceded_who top w k p s m j u x)
writes_by top w (Move.Rise k) s m j u st x = let n = w.nodes k in
    quiet w (Move.Rise k) k (risen n) (λ y z. ⊎_elim (λ a. inr (n.position.at, subst (λ b. IsGiven b n.position.at n.link) a.1 m.3)) (λ r. absurd r.1) z) j u x

-- a branch on which nobody writes, nor may come to, stays so
pub lost_by : (top : ℕ) (w : Cluster) (e : Move) (u : ℕ) → SoundCluster top w → May top w e → Settled (ground w) u 0 → ((j : ℕ) → Writes u (w.nodes j) → ⊥) → (j : ℕ) → Writes u ((happens w e).nodes j) → ⊥
lost_by top w e u s m st none j x = ⊎_elim (λ y. none j y) (λ y. none y.0 (inl (y.2, y.3))) (writes_by top w e s m j u st x)

pub lost : (top : ℕ) (w : Cluster) (es : List Move) (u : ℕ) → SoundCluster top w → MayAll top w es → Settled (ground w) u 0 → ((j : ℕ) → Writes u (w.nodes j) → ⊥) → (j : ℕ) → Writes u ((run w es).nodes j) → ⊥
lost top w [] u s m st none j x = none j x
lost top w (e ∷ es) u s m st none j x =
    lost top (happens w e) es u (keeps top w e s m.0) m.1 ((extends_by top w e s m.0).settled u 0 st) (lost_by top w e u s m.0 st none) j x

-- a takeover that is cut before its end leaves nobody
pub cut_short : (top : ℕ) (w : Cluster) (k u : ℕ) → SoundCluster top w → May top w (Move.Cut k) → HasRight u (w.nodes k).link → (j : ℕ) → Writes u ((happens w (Move.Cut k)).nodes j) → ⊥
cut_short top w k u s m r j = short (eqb j k) refl
  where
    short : (q : Bool) → eqb j k ≡ q → Writes u (cond q (cut (w.nodes k)) (w.nodes j)) → ⊥
    short true e x = ⊎_elim (λ a. let z : false ≡ true = sym m ∙ a.0 in cc) (λ a. absurd a.1) x
    short false e x = eqb-false j k e (s.alone j k u x (inr r))
