-- what a consumer takes keeps a cluster sound: markers and changes
use Rattle.std.proofs.Common.{◌≡◌, ℕ, ◌<◌, ◌≤◌, Bool, true, false, cond, List, [], ◌∷◌, ◌++◌, eqb, refl, ap, sym, ◌∙◌, subst, inl, inr, ⊎_elim, arith}
use Rattle.std.specs.Prelude.{Option, Some, None, ◌⊎◌}
use Rattle.std.proofs.lemmas.List.{append-nil, append_assoc}
use Rattle.std.proofs.lemmas.Bool.{eqb-true, eq-eqb}
use Rattle.vb_types.specs.Images.{image_of}
use Rattle.vb_types.specs.declared.change.Change.{Change}
use Rattle.vb_types.specs.declared.position.Position.{Position}
use Rattle.branch_model.specs.Histories.{last_seq, HasPrepares}
use Rattle.vb_types.specs.Histories.{upto, Rises}
use Rattle.branch_model.specs.Snapshots.{HasLast, Remains, Follows, IsComplete}
use Rattle.branch_model.specs.Trees.{hist}
use Rattle.branch_model.specs.Logs.{IsFront}
use Rattle.branch_model.specs.Requests.{effective_se, reach_of, fork_of}
use Rattle.branch_model.specs.Journals.{IsPoint}
use Rattle.cluster_model.specs.Clusters.{Ground, Feed, Disk, ground, also_at, marked_by, flight_from, FirstReaches, Linked, Member, Cluster, above, member_reach, member_fork, marked_member, received, spanned_by, Move, happens, IsOpen, IsGiven, May, Settled, Comes, Names, Fulfils, NextNames, HasAll, Stands, Kept, Flight, SoundCluster}
use Rattle.branch_model.proofs.Lists.{rises_le, rises_upto, rises_append, rises_push}
use Rattle.branch_model.proofs.Following.{place, image_append, follows_complete, follows_larger, follows_step, follows_at_start, same_start, nothing_got, remains_step}
use Rattle.branch_model.proofs.Branches.{hist_rises}
use Rattle.cluster_model.proofs.Having.{all_kept, all_joined, all_of}
use Rattle.cluster_model.proofs.Prepares.{prepared_upto, prepared_push, next_fulfils}
use Rattle.branch_model.proofs.Ruling.{reach_cases}
use Rattle.cluster_model.proofs.Carrying.{above_none, above_push, upto_push, image_push, settled_down, ancestry_front, start_cases, end_cases, fork_at, ss_fork, whole_fork, fork_le, ss_le}
use Rattle.cluster_model.proofs.Fitting.{fits_self, fits_moved, kept_on, kept_spanned, stays}
use Rattle.cluster_model.proofs.Keeping.{idle_sound, all_rise}

-- receive

pub not_complete : (n : Member) → n.position.at < n.position.se → member_fork n ≡ n.position.ss
not_complete n l = ⊎_elim (λ c. let e : n.position.at ≡ n.position.se = c.0 in absurd (omega arith)) (λ c. c.1) (start_cases n.position.ss n.position.se n.position.at)

received_named : (top : ℕ) (w : Cluster) (n : Member) (c : Change) (rest : List Change) → SoundCluster top w → Stands (ground w) n → Remains (c ∷ rest) (hist w.tree n.br) n.position.at n.position.se → Names (image_of n.held) c
    → HasPrepares (upto (hist w.tree n.br) n.position.ss ++ above (n.held ++ c ∷ []) n.position.ss)
received_named top w n c rest so s r nm =
    let h = hist w.tree n.br in
    let l = upto h n.position.ss ++ above n.held n.position.ss in
    let g : Rises 0 top h = hist_rises top w.tree n.br so.grows in
    let lt : n.position.at < c.seq = r.rises.0 in
    let b : n.position.ss ≤ n.position.at = rises_le n.position.ss n.position.at (above n.held n.position.ss) s.follows.rises in
    let im : image_of n.held ≡ image_of l = s.follows.image_is ∙ image_append h n.position.ss (above n.held n.position.ss) in
    let ff : Fulfils (image_of n.held) c = next_fulfils top h (above n.held n.position.ss) rest n.position.ss n.position.se n.position.at (image_of n.held) c g (so.prepared n.br) s.follows (r.of c (inl refl)) nm in
    subst (λ x. HasPrepares (upto h n.position.ss ++ x)) (sym (above_push n.held c n.position.ss (omega arith)))
    (subst HasPrepares (append_assoc (upto h n.position.ss) (above n.held n.position.ss) (c ∷ []))
    (prepared_push n.position.at l c (rises_append 0 n.position.ss n.position.at (upto h n.position.ss) (above n.held n.position.ss) (rises_upto 0 top n.position.ss h (omega arith) g) s.follows.rises) lt s.named (subst (λ p. Fulfils p c) im ff)))

received_from : (n : Member) (c : Change) (rest : List Change) → last_seq c.seq rest ≡ n.position.se → flight_from (received n (Some (c ∷ rest))) (Some rest) ≡ n.position.se
received_from n c [] la = la
received_from n c (x ∷ rest) la = refl

first_above : (g : Ground) (u from m : ℕ) (xs : List (ℕ × List Change)) → Flight g u from xs → m ≤ from → FirstReaches m xs
first_above g u from m [] f l = tt
first_above g u from m (x ∷ more) f l = let k = rises_le from x.0 x.1 f.0.remains.rises in omega arith

received_linked : (g : Ground) (n : Member) (c : Change) (rest : List Change) (k : Option Feed) → last_seq c.seq rest ≡ n.position.se → member_reach (received n (Some (c ∷ rest))) ≤ n.position.se → Linked g n (Some (c ∷ rest)) k → Linked g (received n (Some (c ∷ rest))) (Some rest) k
received_linked g n c rest None la q lk = tt
received_linked g n c rest (Some l) la q lk =
    (lk.0, subst (λ x. Flight g l.u x l.flight) (sym (received_from n c rest la)) lk.1, first_above g l.u n.position.se (member_reach (received n (Some (c ∷ rest)))) l.flight lk.1 q)

-- one more number at a complete position
pub old_also : (p : Position) (points : List ℕ) (x : ℕ) → IsPoint x points → IsPoint x (also_at p points)
old_also p points x i = also_case (eqb p.at p.se)
  where
    also_case : (b : Bool) → IsPoint x (cond b (p.at ∷ points) points)
    also_case true = inr i
    also_case false = i

old_of_also : (p : Position) (points : List ℕ) (x m : ℕ) → m < p.at → IsPoint x (also_at p points) → IsPoint x points ⊎ (m < x)
old_of_also p points x m l = also_case (eqb p.at p.se)
  where
    also_case : (b : Bool) → IsPoint x (cond b (p.at ∷ points) points) → IsPoint x points ⊎ (m < x)
    also_case true i = ⊎_elim (λ e. let y : x ≡ p.at = e in inr (omega arith)) (λ j. inl j) i
    also_case false i = inl i

also_here : (p : Position) (points : List ℕ) → IsComplete p → IsPoint p.at (also_at p points)
also_here p points e = subst (λ b. IsPoint p.at (cond b (p.at ∷ points) points)) (sym (eq-eqb p.at p.se e)) (inl refl)

-- what is held where the node would fork then
received_forked : (top : ℕ) (w : Cluster) (n : Member) (c : Change) → SoundCluster top w → Stands (ground w) n → n.position.at < c.seq → c.seq ≤ n.position.se
    → Follows (hist w.tree n.br) (place n.position.ss n.position.se c.seq) (above (n.held ++ c ∷ []) n.position.ss) (image_of (n.held ++ c ∷ []))
    → HasAll (hist w.tree n.br) (n.held ++ c ∷ []) (fork_of (place n.position.ss n.position.se c.seq))
received_forked top w n c s t l m f =
    let h = hist w.tree n.br in
    let ss = n.position.ss in
    let more = n.held ++ c ∷ [] in
    let low : ss ≤ n.position.at = rises_le ss n.position.at (above n.held ss) t.follows.rises in
    let before : HasAll h more ss = all_kept h n.held more ss (sym (upto_push n.held c ss (omega arith))) (subst (HasAll h n.held) (not_complete n (omega arith)) t.forked) in
    ⊎_elim
    (λ d. subst (HasAll h more) (sym (d.1 ∙ d.0))
    (all_joined top ss n.position.se h more (hist_rises top w.tree n.br s.grows) (subst (λ x. Rises 0 x more) d.0 (rises_push 0 n.position.at n.held c t.rises l)) (omega arith) (all_of ss ss h more (omega arith) before f.of) before
    (subst (λ x. HasLast (above more ss) h ss x n.position.se) d.0 f.has)))
    (λ d. subst (HasAll h more) (sym d.1) before)
    (start_cases ss n.position.se c.seq)

received_points : (top : ℕ) (w : Cluster) (n : Member) (c : Change) → SoundCluster top w → Stands (ground w) n → n.position.at < c.seq → c.seq ≤ n.position.se → HasAll (hist w.tree n.br) (n.held ++ c ∷ []) (fork_of (place n.position.ss n.position.se c.seq))
    → (p : ℕ) → (b : Bool) → eqb c.seq n.position.se ≡ b → IsPoint p (cond b (c.seq ∷ n.points) n.points) → (p ≤ fork_of (place n.position.ss n.position.se c.seq)) × HasAll (hist w.tree n.br) (n.held ++ c ∷ []) p
received_points top w n c s t l m f p b e i = go b e i
  where
    h : List Change
    h = hist w.tree n.br

    old : IsPoint p n.points → (p ≤ fork_of (place n.position.ss n.position.se c.seq)) × HasAll h (n.held ++ c ∷ []) p
    old j =
        let ss : n.position.ss ≤ n.position.at = rises_le n.position.ss n.position.at (above n.held n.position.ss) t.follows.rises in
        let k = t.points p j in let pl : p ≤ member_fork n = k.0 in let fl = fork_le n ss in let fs : member_fork n ≡ n.position.ss = not_complete n (omega arith) in let sl = ss_fork (place n.position.ss n.position.se c.seq) (omega arith) in
        (omega arith, all_kept h n.held (n.held ++ c ∷ []) p (sym (upto_push n.held c p (omega arith))) k.1)

    go : (b : Bool) → eqb c.seq n.position.se ≡ b → IsPoint p (cond b (c.seq ∷ n.points) n.points) → (p ≤ fork_of (place n.position.ss n.position.se c.seq)) × HasAll h (n.held ++ c ∷ []) p
    go false e j = old j
    go true e j = ⊎_elim
        (λ x. let fk : fork_of (place n.position.ss n.position.se c.seq) ≡ c.seq = whole_fork (place n.position.ss n.position.se c.seq) (eqb-true c.seq n.position.se e) in
        let y : p ≡ c.seq = x in (omega arith, subst (HasAll h (n.held ++ c ∷ [])) (fk ∙ sym x) f))
        old j

received_stands : (top : ℕ) (w : Cluster) (n : Member) (c : Change) (rest : List Change) → SoundCluster top w → Stands (ground w) n → IsFront n.log n.br → Remains (c ∷ rest) (hist w.tree n.br) n.position.at n.position.se → Settled (ground w) n.br n.position.se → last_seq n.position.at (c ∷ rest) ≡ n.position.se → Linked (ground w) n (Some (c ∷ rest)) n.link → Names (image_of n.held) c
    → Stands (ground w) (received n (Some (c ∷ rest)))
received_stands top w n c rest so s f r se la lk nm =
    let g = ground w in
    let l : n.position.at < c.seq = r.rises.0 in
    let m : c.seq ≤ n.position.se = rises_le c.seq n.position.se rest r.rises.1 in
    let b : n.position.ss ≤ n.position.at = rises_le n.position.ss n.position.at (above n.held n.position.ss) s.follows.rises in
    let v : Member = received n (Some (c ∷ rest)) in
    let q : member_reach v ≤ n.position.se = ⊎_elim (λ x. let e : member_reach v ≡ c.seq = x.1 in omega arith) (λ x. let e : member_reach v ≡ n.position.se = x in omega arith) (reach_cases n.position.ss n.position.se c.seq) in
    let fo : Follows (hist w.tree n.br) (place n.position.ss n.position.se c.seq) (above (n.held ++ c ∷ []) n.position.ss) (image_of (n.held ++ c ∷ [])) =
    subst (λ x. Follows (hist w.tree n.br) (place n.position.ss n.position.se c.seq) x (image_of (n.held ++ c ∷ []))) (sym (above_push n.held c n.position.ss (omega arith)))
    (subst (λ i. Follows (hist w.tree n.br) (place n.position.ss n.position.se c.seq) (above n.held n.position.ss ++ c ∷ []) i) (sym (image_push n.held c))
    (follows_step c rest (hist w.tree n.br) (above n.held n.position.ss) n.position.ss n.position.se n.position.at (image_of n.held) s.follows r)) in
    let fk = received_forked top w n c so s l m fo in
    record {
      rises = rises_push 0 n.position.at n.held c s.rises l;
      follows = fo;
      settled = settled_down g n.br c.seq n.position.se m se;
      ancestry = ancestry_front g n.log n.br (member_reach n) (member_reach v) n.position.at f s.settled s.ancestry;
      comes = (f, inr (remains_step c rest (hist w.tree n.br) n.position.at n.position.se r, se, la));
      linked = received_linked g n c rest n.link la q lk;
      named = received_named top w n c rest so s r nm;
      forked = fk;
      points = λ p i. received_points top w n c so s l m fk p (eqb c.seq n.position.se) refl i;
    }

receive_moves : (p : Position) (s : ℕ) → p.ss ≤ p.at → p.at < s → s ≤ p.se → (fork_of p ≤ fork_of (record p { at = s })) × (reach_of p ≤ reach_of (record p { at = s })) × ((fork_of (record p { at = s }) ≡ fork_of p) ⊎ (reach_of p ≤ fork_of (record p { at = s })))
receive_moves p s a b c =
    let r = record p { at = s } in
    let fp : fork_of p ≡ p.ss = ⊎_elim (λ z. let y : p.at ≡ p.se = z.0 in absurd (omega arith)) (λ z. z.1) (start_cases p.ss p.se p.at) in
    let rp : reach_of p ≤ p.se = ⊎_elim (λ z. let y : reach_of p ≡ p.at = z.1 in omega arith) (λ z. let y : reach_of p ≡ p.se = z.2 in omega arith) (end_cases p) in
    let rr : reach_of r ≡ p.se = ⊎_elim
    (λ z. let y : reach_of r ≡ s = z.1 in let x : fork_of r ≡ s = z.0 in ⊎_elim (λ d. let e : s ≡ p.se = d.0 in omega arith) (λ d. let e : fork_of r ≡ p.ss = d.1 in absurd (omega arith)) (start_cases r.ss r.se r.at))
    (λ z. z.2) (end_cases r) in
    ⊎_elim
    (λ d. let e : s ≡ p.se = d.0 in let k : fork_of r ≡ s = d.1 in (omega arith, omega arith, inr (omega arith)))
    (λ d. let k : fork_of r ≡ p.ss = d.1 in (omega arith, omega arith, inl (omega arith)))
    (start_cases r.ss r.se r.at)

received_kept : (top : ℕ) (w : Cluster) (n : Member) (d : Disk) (c : Change) (rest : List Change) → SoundCluster top w → Stands (ground w) n → Kept (ground w) n d → IsFront n.log n.br → n.position.at < c.seq → c.seq ≤ n.position.se → Stands (ground w) (received n (Some (c ∷ rest)))
    → Kept (ground w) (received n (Some (c ∷ rest))) (spanned_by d n (Some (c ∷ rest)))
received_kept top w n d c rest s t kp f l m tv =
    let g = ground w in
    let v = received n (Some (c ∷ rest)) in
    let b : n.position.ss ≤ n.position.at = rises_le n.position.ss n.position.at (above n.held n.position.ss) t.follows.rises in
    let same : (x : ℕ) → x ≤ n.position.at → upto n.held x ≡ upto v.held x = λ x q. sym (upto_push n.held c x (omega arith)) in
    let mv = receive_moves n.position c.seq b l m in
    kept_spanned g v d v.position (fits_self g v tv (also_here v.position n.points)) f
    (kept_on top g g (stays top g (all_rise top w s)) n v t tv same (old_also v.position n.points)
    (λ q. fits_moved g n.br n.held v.held n.position v.position n.points v.points q same (omega arith) mv.0 mv.1 mv.2 (old_also v.position n.points) (λ x i. old_of_also v.position n.points x n.position.at l i))
    (λ z. z) d kp)

received_case : (top : ℕ) (w : Cluster) (n : Member) (d : Disk) (o : Option (List Change)) → SoundCluster top w → Stands (ground w) n → Kept (ground w) n d → Comes (ground w) n o → Linked (ground w) n o n.link → NextNames (image_of n.held) o
    → Stands (ground w) (received n o) × Kept (ground w) (received n o) (spanned_by d n o)
received_case top w n d None so s kp c lk nm = (s, kp)
received_case top w n d (Some []) so s kp c lk nm = (s, kp)
received_case top w n d (Some (x ∷ rest)) so s kp c lk nm = ⊎_elim
    (λ e. let k : x ∷ rest ≡ [] = e in cc)
    (λ r. let t = received_stands top w n x rest so s c.0 r.0 r.1 r.2 lk nm in
    (t, received_kept top w n d x rest so s kp c.0 r.0.rises.0 (rises_le x.seq n.position.se rest r.0.rises.1) t)) c.1

pub received_active : (n : Member) (o : Option (List Change)) → (received n o).active ≡ n.active
received_active n None = refl
received_active n (Some []) = refl
received_active n (Some (x ∷ rest)) = refl

pub received_right : (n : Member) (o : Option (List Change)) (u m : ℕ) → IsGiven u m (received n o).link → IsGiven u m n.link
received_right n None u m r = r
received_right n (Some []) u m r = r
received_right n (Some (x ∷ rest)) u m r = r

pub receive_keeps : (top : ℕ) (w : Cluster) (k : ℕ) → SoundCluster top w → May top w (Move.Receive k) → SoundCluster top (happens w (Move.Receive k))
receive_keeps top w k s m =
    let b = w.nodes k in
    let n = received b b.coming in
    let f : n.active ≡ false = received_active b b.coming ∙ m.0 in
    let r = received_case top w b (w.disks k) b.coming s (s.stands k) (s.kept k) (s.stands k).comes (s.stands k).linked m.1 in
    idle_sound top w k n (spanned_by (w.disks k) b b.coming) s r.0 r.1 f (received_right b b.coming)

-- marker

marked_follows : (top : ℕ) (h held : List Change) (ss se at end : ℕ) → Rises 0 top h → Rises 0 at held → at ≤ end → effective_se at ss se ≤ end
    → Follows h (place ss se at) (above held ss) (image_of held) → (s : ℕ) → ((at ≡ se) × (s ≡ at)) ⊎ ((at ≡ se → ⊥) × (s ≡ ss)) → Follows h (place s end at) (above held s) (image_of held)
marked_follows top h held ss se at end rh rl l m f s cases = ⊎_elim
    (λ c. same_start h (above held s) s end at (image_of held) l (sym c.1) (above_none 0 at s held rl (let e : s ≡ at = c.1 in omega arith))
    (follows_complete top h (above held ss) ss se at (image_of held) rh f c.0 ∙ ap (λ x. image_of (upto h x)) (sym c.0 ∙ sym c.1)))
    (λ c. subst (λ x. Follows h (place x end at) (above held x) (image_of held)) (sym c.1)
    (⊎_elim
    (λ d. same_start h (above held ss) ss end at (image_of held) l d.0 (nothing_got ss (above held ss) (subst (λ y. Rises ss y (above held ss)) d.0 f.rises))
    (follows_at_start h (above held ss) ss se at (image_of held) f d.0))
    (λ d. follows_larger top h (above held ss) ss se at end (image_of held) rh f (subst (λ y. y ≤ end) d m))
    (reach_cases ss se at)))
    cases

pub open_front : (g : Ground) (n : Member) (o : Option (List Change)) → IsOpen o → Comes g n o → IsFront n.log n.br
open_front g n None i c = absurd i
open_front g n (Some xs) i c = c.0

-- what is received above a complete position's number is nothing
pub complete_named : (g : Ground) (n : Member) (m : ℕ) → Stands g n → HasPrepares (hist g.tree n.br) → n.position.at ≤ m → HasPrepares (upto (hist g.tree n.br) m ++ above n.held m)
complete_named g n m t pr l = subst (λ x. HasPrepares (upto (hist g.tree n.br) m ++ x)) (sym (above_none 0 n.position.at m n.held t.rises l))
    (subst HasPrepares (sym (append-nil (upto (hist g.tree n.br) m))) (prepared_upto (hist g.tree n.br) m pr))

pub marked_named : (g : Ground) (n : Member) → Stands g n → HasPrepares (hist g.tree n.br) → (s : ℕ) → ((n.position.at ≡ n.position.se) × (s ≡ n.position.at)) ⊎ ((n.position.at ≡ n.position.se → ⊥) × (s ≡ n.position.ss)) → HasPrepares (upto (hist g.tree n.br) s ++ above n.held s)
marked_named g n t pr s cases = ⊎_elim
    (λ c. complete_named g n s t pr (let e : s ≡ n.position.at = c.1 in omega arith))
    (λ c. subst (λ x. HasPrepares (upto (hist g.tree n.br) x ++ above n.held x)) (sym c.1) t.named)
    cases

marked_from : (g : Ground) (u : ℕ) (n v : Member) (xs : List Change) (end : ℕ) (more : List (ℕ × List Change)) → last_seq n.position.at xs ≡ end → v.position.at ≡ n.position.at → v.position.se ≡ end → Flight g u end more → Flight g u (flight_from v (Some xs)) more
marked_from g u n v [] end more e a b f = subst (λ x. Flight g u x more) (sym (a ∙ e)) f
marked_from g u n v (x ∷ xs) end more e a b f = subst (λ y. Flight g u y more) (sym b) f

marked_stands : (top : ℕ) (w : Cluster) (n : Member) (l : Feed) (x : ℕ × List Change) (more : List (ℕ × List Change)) → SoundCluster top w → Stands (ground w) n → IsFront n.log n.br → n.br ≡ l.u
    → Flight (ground w) l.u n.position.at (x ∷ more) → member_reach n ≤ x.0 → Stands (ground w) (marked_by n l (x ∷ more))
marked_stands top w n l x more s t f e fl re =
    let g = ground w in
    let v = marked_by n l (x ∷ more) in
    let rs : Rises 0 top (hist w.tree n.br) = hist_rises top w.tree n.br s.grows in
    let r : Remains x.1 (hist w.tree n.br) n.position.at x.0 = subst (λ y. Remains x.1 (hist w.tree y) n.position.at x.0) (sym e) fl.0.remains in
    let le : n.position.at ≤ x.0 = rises_le n.position.at x.0 x.1 r.rises in
    let la : last_seq n.position.at x.1 ≡ x.0 = fl.0.reaches in
    let se : Settled g n.br x.0 = subst (λ y. Settled g y x.0) (sym e) fl.1 in
    let fv : member_fork v ≡ member_fork n = not_complete v fl.0.goes_on in
    let q : member_reach v ≤ x.0 = ⊎_elim (λ c. let y : member_reach v ≡ n.position.at = c.1 in omega arith) (λ c. let y : member_reach v ≡ x.0 = c in omega arith) (reach_cases v.position.ss x.0 n.position.at) in
    record {
      rises = t.rises;
      follows = marked_follows top (hist w.tree n.br) n.held n.position.ss n.position.se n.position.at x.0 rs t.rises le re t.follows v.position.ss (start_cases n.position.ss n.position.se n.position.at);
      settled = t.settled;
      ancestry = ancestry_front g n.log n.br (member_reach n) (member_reach v) n.position.at f t.settled t.ancestry;
      comes = (f, inr (r, se, la));
      linked = (e, marked_from g l.u n v x.1 x.0 more la refl refl fl.2, first_above g l.u x.0 (member_reach v) more fl.2 q);
      named = marked_named g n t (s.prepared n.br) v.position.ss (start_cases n.position.ss n.position.se n.position.at);
      forked = subst (HasAll (hist w.tree n.br) n.held) (sym fv) t.forked;
      points = λ p i. let y = t.points p i in let z : p ≤ member_fork n = y.0 in let zf = fork_le n (rises_le n.position.ss n.position.at (above n.held n.position.ss) t.follows.rises) in let o : member_fork n ≤ member_fork v = ss_le v zf in (omega arith, y.1);
    }

marker_moves : (p : Position) (end : ℕ) → p.ss ≤ p.at → p.at ≤ end → reach_of p ≤ end
    → (fork_of p ≤ fork_of (place (fork_of p) end p.at)) × (reach_of p ≤ reach_of (place (fork_of p) end p.at)) × ((fork_of (place (fork_of p) end p.at) ≡ fork_of p) ⊎ (reach_of p ≤ fork_of (place (fork_of p) end p.at)))
marker_moves p end a b c =
    let r = place (fork_of p) end p.at in
    let fa = fork_at p a in
    let rr : reach_of p ≤ reach_of r = ⊎_elim
    (λ z. let y : reach_of r ≡ p.at = z.1 in let x : fork_of r ≡ p.at = z.0 in ⊎_elim
    (λ d. let i : p.at ≡ end = d.0 in omega arith)
    (λ d. let i : fork_of r ≡ fork_of p = d.1 in ⊎_elim (λ h. let j : reach_of p ≡ p.at = h.1 in omega arith) (λ h. absurd (h.0 (omega arith))) (end_cases p))
    (start_cases r.ss r.se r.at))
    (λ z. let y : reach_of r ≡ end = z.2 in omega arith) (end_cases r) in
    ⊎_elim
    (λ d. let i : p.at ≡ end = d.0 in let k : fork_of r ≡ p.at = d.1 in (omega arith, rr, inr (omega arith)))
    (λ d. let k : fork_of r ≡ fork_of p = d.1 in (omega arith, rr, inl k))
    (start_cases r.ss r.se r.at)

marked_kept : (top : ℕ) (w : Cluster) (n : Member) (d : Disk) (l : Feed) (x : ℕ × List Change) (more : List (ℕ × List Change)) → SoundCluster top w → Stands (ground w) n → Kept (ground w) n d → n.position.at ≤ x.0 → member_reach n ≤ x.0
    → Stands (ground w) (marked_by n l (x ∷ more)) → Kept (ground w) (marked_by n l (x ∷ more)) d
marked_kept top w n d l x more s t kp le re tv =
    let g = ground w in
    let v = marked_by n l (x ∷ more) in
    let b : n.position.ss ≤ n.position.at = rises_le n.position.ss n.position.at (above n.held n.position.ss) t.follows.rises in
    let mv = marker_moves n.position x.0 b le re in
    kept_on top g g (stays top g (all_rise top w s)) n v t tv (λ y q. refl) (λ y i. i)
    (λ q. fits_moved g n.br n.held n.held n.position v.position n.points n.points q (λ y z. refl) (omega arith) mv.0 mv.1 mv.2 (λ y i. i) (λ y i. inl i))
    (λ z. z) d kp

marked_case : (top : ℕ) (w : Cluster) (n : Member) (d : Disk) (l : Feed) (xs : List (ℕ × List Change)) → SoundCluster top w → Stands (ground w) n → Kept (ground w) n d → IsFront n.log n.br → n.br ≡ l.u → Flight (ground w) l.u n.position.at xs → FirstReaches (member_reach n) xs
    → Stands (ground w) (marked_by n l xs) × Kept (ground w) (marked_by n l xs) d
marked_case top w n d l [] s t kp f e fl re = (t, kp)
marked_case top w n d l (x ∷ more) s t kp f e fl re =
    let tv = marked_stands top w n l x more s t f e fl re in
    (tv, marked_kept top w n d l x more s t kp (rises_le n.position.at x.0 x.1 fl.0.remains.rises) re tv)

marked_link : (top : ℕ) (w : Cluster) (n : Member) (d : Disk) (k : Option Feed) → SoundCluster top w → Stands (ground w) n → Kept (ground w) n d → IsFront n.log n.br → Linked (ground w) n (Some []) k → Stands (ground w) (marked_member n k) × Kept (ground w) (marked_member n k) d
marked_link top w n d None s t kp f lk = (t, kp)
marked_link top w n d (Some l) s t kp f lk = marked_case top w n d l l.flight s t kp f lk.0 lk.1 lk.2

marked_by_active : (n : Member) (l : Feed) (xs : List (ℕ × List Change)) → (marked_by n l xs).active ≡ n.active
marked_by_active n l [] = refl
marked_by_active n l (x ∷ more) = refl

pub marked_active : (n : Member) (k : Option Feed) → (marked_member n k).active ≡ n.active
marked_active n None = refl
marked_active n (Some l) = marked_by_active n l l.flight

marked_by_right : (n : Member) (l : Feed) (xs : List (ℕ × List Change)) (u m : ℕ) → n.link ≡ Some l → IsGiven u m (marked_by n l xs).link → IsGiven u m n.link
marked_by_right n l [] u m e r = r
marked_by_right n l (x ∷ more) u m e r = subst (λ k. IsGiven u m k) (sym e) r

pub marked_right : (n : Member) (k : Option Feed) (u m : ℕ) → n.link ≡ k → IsGiven u m (marked_member n k).link → IsGiven u m n.link
marked_right n None u m e r = r
marked_right n (Some l) u m e r = marked_by_right n l l.flight u m e r

pub marker_keeps : (top : ℕ) (w : Cluster) (k : ℕ) → SoundCluster top w → May top w (Move.Marker k) → SoundCluster top (happens w (Move.Marker k))
marker_keeps top w k s m =
    let g = ground w in
    let n = w.nodes k in
    let v = marked_member n n.link in
    let t = s.stands k in
    let a : v.active ≡ false = marked_active n n.link ∙ m.0 in
    let f : IsFront n.log n.br = (subst (λ o. Comes g n o) m.1 t.comes).0 in
    let r = marked_link top w n (w.disks k) n.link s t (s.kept k) f (subst (λ o. Linked g n o n.link) m.1 t.linked) in
    idle_sound top w k v (w.disks k) s r.0 r.1 a (λ u x h. marked_right n n.link u x refl h)
