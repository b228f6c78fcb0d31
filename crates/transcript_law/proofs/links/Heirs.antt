-- a vBucket that takes its branch over, and its member of the cluster: what it holds then, and that it has all of its branch
use Rattle.std.specs.Prelude.{◌≡◌, ◌<◌, ◌≤◌, ◌∷◌, ◌⊎◌}
use Rattle.transcript_law.proofs.Words.{ℕ, true, false, List, [], refl, ap, sym, ◌∙◌, subst, arith, inl, inr, ⊎_elim, Some, Change, Chronicle, Cluster, IsIn, IsOf, Member, Plain, Position, Rises, Role, Sound, SoundCluster, after_role, complete_position, fork_of, hist, holds_fewer, image_in, last_seq, last_seq_le, upto, with_at, with_seal}
use Rattle.transcript_law.proofs.invariant.Agreement.{VbAgrees, own_history, top}
use Rattle.transcript_law.proofs.invariant.{Holdings.{counts_if, times_if}, Lefts.{LeftUpTo, left_risen}, Majorities.{alone_counts}, Tables.{at_here}, Trees.{IsTold}, Wholes.{WholeTo, spanned_active, whole_sealed}}
use Rattle.transcript_law.proofs.links.Handed.{heir_writes}
use Rattle.transcript_law.proofs.verbs.Times.{left_untimed, untimed}
use Rattle.transcript_law.specs.Chronicles.{CountsKnown, alone}
use Rattle.branch_model.proofs.{Images.{plain_stands}, Lists.{upto_all}}
use Rattle.cluster_model.proofs.Carrying.{whole_fork}
use Rattle.cluster_model.specs.Clusters.{IsGiven, member_fork, risen as raised}
use Rattle.vb_calls.specs.Roles.{risen}

-- ---- it has all of its branch

-- the last of some changes of a history is one of it
last_of_these : (xs h : List Change) (n : ℕ) → ((x : Change) → IsIn x xs → IsOf h x) → last_seq 0 xs ≡ n → (n ≡ 0) ⊎ ((c : Change) × IsIn c h × (c.seq ≡ n))
last_of_these [] h n all e = inl (sym e)
last_of_these (x ∷ xs) h n all e = inr (subst (λ k. (c : Change) × IsIn c h × (c.seq ≡ k)) e (last x xs (λ y i. all y i)))
  where
    last : (y : Change) (ys : List Change) → ((z : Change) → IsIn z (y ∷ ys) → IsOf h z) → (c : Change) × IsIn c h × (c.seq ≡ last_seq y.seq ys)
    last y [] all = let (c, is, stands) = all y (inl refl) in (c, is, sym (ap (λ (z : Change). z.seq) (plain_stands y c stands)))
    last y (z ∷ zs) all = last z zs (λ q i. all q (inr i))

-- a history that rises ends no lower than it begins, and no lower than at each of its changes
rises_last : (a b : ℕ) (xs : List Change) → Rises a b xs → a ≤ last_seq a xs
rises_last a b [] r = omega arith
rises_last a b (x ∷ xs) r = let k = rises_last x.seq b xs r.1 in let l : a < x.seq = r.0 in omega (arith, k)

in_last : (a b : ℕ) (xs : List Change) (c : Change) → Rises a b xs → IsIn c xs → c.seq ≤ last_seq a xs
in_last a b [] c r i = absurd i
in_last a b (x ∷ xs) c r i = ⊎_elim (λ e. subst (λ (y : Change). y.seq ≤ last_seq x.seq xs) (sym e) (rises_last x.seq b xs r.1)) (λ j. in_last x.seq b xs c r.1 j) i

-- a member for which its branch was given up at its position, where it is complete, is at the branch's last change
pub whole_branch : (c : Cluster) (k : ℕ) → SoundCluster top c → (c.nodes k).position.at ≡ (c.nodes k).position.se → last_seq 0 (c.nodes k).held ≡ (c.nodes k).position.at → IsGiven (c.nodes k).br (c.nodes k).position.at (c.nodes k).link
    → last_seq 0 (hist c.tree (c.nodes k).br) ≡ (c.nodes k).position.at
whole_branch c k sound complete high given =
    let m : Member = c.nodes k in let at : ℕ = m.position.at in let h : List Change = hist c.tree m.br in
    let tip : at ≡ c.tips m.br = sound.given k m.br at given in
    let rises : Rises 0 at h = subst (λ n. Rises 0 n h) (sym tip) (sound.tops m.br) in
    let fork : member_fork m ≡ at = whole_fork m.position complete in
    let all : upto m.held (member_fork m) ≡ m.held = upto_all 0 at (member_fork m) m.held (sound.stands k).rises (omega (arith, fork)) in
    let most : last_seq 0 h ≤ at = last_seq_le 0 at 0 h (omega arith) rises in
    ⊎_elim
    (λ none. omega (arith, none, most))
    (λ (x, is, seq). let least : x.seq ≤ last_seq 0 h = in_last 0 at h x rises is in omega (arith, seq, least, most))
    (last_of_these m.held h at (λ y i. (sound.stands k).forked.of y (subst (IsIn y) (sym all) i)) high)

-- ---- it is active on it, at the end of what it holds

module _ (r : Chronicle) (n v : ℕ) (m : Member) (vb : Plain) (a : VbAgrees r n v m vb) (complete : vb.position.at ≡ vb.position.se) (sound : Sound (risen vb)) (on : r.branch_at n v ≡ Some m.br) (is_told : IsTold r.tree m.br) (named : m.br ≡ 0 → ⊥) where
  abbrev at : ℕ
  at = vb.position.at

  abbrev last : ℕ
  last = last_seq 0 (r.held n v)

  last_at : last ≡ at
  last_at = ap (last_seq 0) a.held ∙ a.high

  same_fork : fork_of (complete_position at) ≡ fork_of vb.position
  same_fork = whole_fork (complete_position at) refl ∙ sym (whole_fork vb.position complete)

  pub risen_agrees : VbAgrees (after_role r n v Role.Active) n v (raised m) (risen vb)
  risen_agrees = record {
    kept = record {
      sound = sound;
      spanned = spanned_active Role.Active vb.floor (with_seal vb.spans) at refl sound.spans;
      keeps = record { below = a.below; parts = a.parts; base = a.base; low = a.low; fits = a.fits; weighs = a.weighs; entries = a.entries; high = a.high };
      told = record { held = a.held; log = a.log; snap = at_here r.snap_at n v (Some (last, last)) ∙ ap (λ k. Some (k, k)) last_at; unlogged = a.unlogged };
      member = record { active = refl; position = ap (λ (p : Position). complete_position p.at) a.member.position; log = a.member.log };
      branch = a.branch;
      holds = holds_fewer 0 (WholeTo vb.floor (with_seal vb.spans) (complete_position at)) (WholeTo vb.floor vb.spans vb.position) m.held (own_history r n v) (λ i x. (whole_sealed vb.spans i x.0, subst (λ k. i ≤ k) same_fork x.1, x.2)) a.holds;
    };
    role = at_here r.role_at n v (Some (Some Role.Active));
    opened = at_here r.open_at n v false;
    writes = record { branch = on; is_told = is_told; writer = heir_writes r n v m.br on; named = named };
    counts = counts_if {b = true} (λ e. alone_counts r n v);
    lefts = λ e. subst (λ (t : CountsKnown). LeftUpTo t.risen at (risen vb).waiting) (sym (at_here r.counts_at n v (alone last))) (subst (λ k. LeftUpTo k at (risen vb).waiting) (sym last_at) (left_risen vb a.sound));
    times = times_if {b = true} (λ e. untimed (with_at r.counts_at n v (alone last) n v).times (risen vb).waiting (left_untimed (image_in vb)));
  }
