-- where a branch ends: at its member's last seqno, and not before what is on its way to a consumer
use Rattle.std.specs.Prelude.{◌≡◌, ◌<◌, ◌≤◌, ◌⊎◌, ◌∷◌}
use Rattle.transcript_law.proofs.Words.{ℕ, List, [], refl, ap, sym, subst, inl, inr, ⊎_elim, arith, Option, Some, None, Change, Cluster, Feed, IsIn, Member, Rises, SoundCluster, fork_of, flight_end, flight_from, ground, hist, last_seq}
use Rattle.transcript_law.proofs.invariant.Agreement.{top}
use Rattle.branch_model.proofs.Lists.{upto_in}
use Rattle.cluster_model.specs.Clusters.{Comes, Flight, Ground, Joined, Linked, Settled, Stands}

-- ---- last seqnos

last_above : (a b : ℕ) (xs : List Change) → Rises a b xs → a ≤ last_seq a xs
last_above a b [] r = omega arith
last_above a b (x ∷ xs) r = let up : a < x.seq = r.0 in let more : x.seq ≤ last_seq x.seq xs = last_above x.seq b xs r.1 in omega arith

last_most : (a b : ℕ) (xs : List Change) → Rises a b xs → last_seq a xs ≤ b
last_most a b [] r = r
last_most a b (x ∷ xs) r = last_most x.seq b xs r.1

in_last : (a b : ℕ) (xs : List Change) (c : Change) → Rises a b xs → IsIn c xs → c.seq ≤ last_seq a xs
in_last a b [] c r i = absurd i
in_last a b (x ∷ xs) c r i = ⊎_elim
    (λ e. let more : x.seq ≤ last_seq x.seq xs = last_above x.seq b xs r.1 in let same : c.seq ≡ x.seq = ap (λ (y : Change). y.seq) e in omega arith)
    (λ j. in_last x.seq b xs c r.1 j)
    i

last_is : (a : ℕ) (xs : List Change) → (last_seq a xs ≡ a) ⊎ ((x : Change) × IsIn x xs × (x.seq ≡ last_seq a xs))
last_is a [] = inl refl
last_is a (y ∷ ys) = ⊎_elim (λ e. inr (y, inl refl, sym e)) (λ z. inr (z.0, inr z.1, z.2)) (last_is y.seq ys)

-- ---- a branch ends where its member stands, which is complete and at its end
pub branch_ends : (c : Cluster) (p : ℕ) → SoundCluster top c → (c.nodes p).position.at ≡ c.tips (c.nodes p).br → last_seq 0 (c.nodes p).held ≡ (c.nodes p).position.at → fork_of (c.nodes p).position ≡ (c.nodes p).position.at
    → last_seq 0 (hist c.tree (c.nodes p).br) ≡ (c.nodes p).position.at
branch_ends c p sound tip high fork = by (last_is 0 m.held)
  where
    m : Member
    m = c.nodes p

    h : List Change
    h = hist c.tree m.br

    most : last_seq 0 h ≤ c.tips m.br
    most = last_most 0 (c.tips m.br) h (sound.tops m.br)

    by : (last_seq 0 m.held ≡ 0) ⊎ ((x : Change) × IsIn x m.held × (x.seq ≡ last_seq 0 m.held)) → last_seq 0 h ≡ m.position.at
    by (inl e) = let low = most in omega (arith, low, tip, high, e)
    by (inr (x, there, at)) =
        let low : x.seq ≤ fork_of m.position = omega (arith, at, high, fork) in
        let (y, is, stands) = (sound.stands p).forked.of x (upto_in x m.held (fork_of m.position) there low) in
        let same : x.seq ≡ y.seq = ⊎_elim (λ q. ap (λ (z : Change). z.seq) q) (λ q. ap (λ (z : Change). z.seq) q) stands in
        let all : y.seq ≤ last_seq 0 h = in_last 0 (c.tips m.br) h y (sound.tops m.br) is in
        let least = most in omega (arith, all, least, same, at, tip, high)

-- ---- what is on its way to a member ends within the branch that it is fed

flight_settled : (g : Ground) (u from : ℕ) (xs : List (ℕ × List Change)) → from ≤ g.tips u → Flight g u from xs → flight_end from xs ≤ g.tips u
flight_settled g u from [] l f = l
flight_settled g u from (x ∷ more) l f = flight_settled g u x.0 more f.1.1 f.2

from_settled : (g : Ground) (n : Member) (l : Feed) (o : Option (List Change)) → Joined g n l o → Settled g n.br n.position.at → Comes g n o → flight_from n o ≤ g.tips l.u
from_settled g n l None joined stands comes = joined.3.1
from_settled g n l (Some []) joined stands comes = subst (λ u. n.position.at ≤ g.tips u) joined stands.1
from_settled g n l (Some (x ∷ xs)) joined stands comes = ⊎_elim (λ none. let z : x ∷ xs ≡ [] = none in cc) (λ more. subst (λ u. n.position.se ≤ g.tips u) joined more.1.1) comes.1

pub way_settled : (c : Cluster) (k : ℕ) (l : Feed) → SoundCluster top c → (c.nodes k).link ≡ Some l → flight_end (flight_from (c.nodes k) (c.nodes k).coming) l.flight ≤ c.tips l.u
way_settled c k l sound fed =
    let n : Member = c.nodes k in let s : Stands (ground c) n = sound.stands k in
    let linked : Linked (ground c) n n.coming (Some l) = subst (Linked (ground c) n n.coming) fed s.linked in
    flight_settled (ground c) l.u (flight_from n n.coming) l.flight (from_settled (ground c) n l n.coming linked.0 s.settled s.comes) linked.1
