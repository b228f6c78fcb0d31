-- what a vBucket's member holds of its branch, and what may be sent of it
use Rattle.std.specs.Prelude.{◌≡◌, ◌≤◌, ◌^◌}
use Rattle.transcript_law.proofs.Words.{ℕ, List, refl, subst, arith, fork_of, hist, Change, Chronicle, Cluster, Covers, HasLast, HoldsAt, Member, Plain, Position, Rises, SoundCluster}
use Rattle.branch_model.proofs.{Holding.{holds_covers}, Lists.{rises_higher}}
use Rattle.cluster_model.proofs.{Having.{all_holds}, Held.{held_of}}
use Rattle.cluster_model.specs.Clusters.{member_fork}
use Rattle.transcript_law.proofs.invariant.{Agreement.{VbAgrees, all_rise, own_history, top}, Wholes.{WholeTo}}

-- where it would leave its branch it holds that from the start
pub fork_holds : (c : Cluster) (k : ℕ) (h : List Change) → SoundCluster top c → hist c.tree (c.nodes k).br ≡ h → HoldsAt 0 (λ n. n ≡ member_fork (c.nodes k)) (c.nodes k).held h
fork_holds c k h s e = subst (HoldsAt 0 (λ n. n ≡ member_fork (c.nodes k)) (c.nodes k).held) e (all_holds (hist c.tree (c.nodes k).br) (c.nodes k).held (member_fork (c.nodes k)) (held_of top c s.still k) (s.stands k).forked)

pub fork_held : (c : Cluster) (k : ℕ) (h : List Change) (p : Position) → SoundCluster top c → hist c.tree (c.nodes k).br ≡ h → (c.nodes k).position ≡ p → HasLast (c.nodes k).held h 0 (fork_of p) (fork_of p)
fork_held c k h p s e q = subst (λ (x : Position). HasLast (c.nodes k).held h 0 (fork_of x) (fork_of x)) q ((fork_holds c k h s e).has (member_fork (c.nodes k)) refl)

-- a whole snapshot of all that a vBucket holds is one of its branch, from any place and up to a seqno at which its spans are whole
pub held_covers : (r : Chronicle) (n v : ℕ) (m : Member) (vb : Plain) (items : List Change) (from end : ℕ) → VbAgrees r n v m vb → Rises 0 top (own_history r n v) → WholeTo vb.floor vb.spans vb.position end
    → Covers items m.held from end → Covers items (own_history r n v) from end
held_covers r n v m vb items from end a rises whole covers =
    let most : vb.position.se ≤ 2 ^ 48 = a.sound.capped in
    let within : vb.position.at ≤ vb.position.se = a.sound.within.1 in
    holds_covers 0 (WholeTo vb.floor vb.spans vb.position) top m.held (own_history r n v) items from end (rises_higher 0 vb.position.at top m.held (omega arith) (all_rise a.kept)) rises a.holds whole (omega arith) covers
