-- the ends that nodes keep are those of links
use Rattle.std.proofs.Common.{◌≡◌, ℕ, Bool, true, false, List, [], ◌∷◌, refl, ap, subst, inl, inr, ⊎_elim}
use Rattle.std.proofs.lemmas.Bool.{and_parts, eqb-true}
use Rattle.std.specs.Prelude.{◌==◌, ◌&&◌, ◌||◌, is_some}
use Rattle.node_world.specs.declared.link.Link.{Link}
use Rattle.node_world.specs.Links.{PlainLink}
use Rattle.node_world.specs.OpenEnds.{Dials, EndsAreLinks, Serves}
use Rattle.node_world.specs.Pairing.{Pairs}
use Rattle.node_world.specs.Stands.{Ends, Kept, LinkStands, WorldStands, ends_of, has_dial, has_peer}
use Rattle.node_world.specs.Worlds.{PlainWorld}

-- by their tests

served : (links : List Link) (n key : ℕ) → has_peer links n key ≡ true → Serves links n key
served [] n key e = cc
served (link ∷ links) n key e = by (served links n key) (link.producer == n && link.conn == key) refl e
  where
    by : (has_peer links n key ≡ true → Serves links n key) → (b : Bool) → (link.producer == n && link.conn == key) ≡ b → (b || has_peer links n key) ≡ true → Serves (link ∷ links) n key
    by more true t q = let p = and_parts (link.producer == n) (link.conn == key) t in inl (eqb-true link.producer n p.0, eqb-true link.conn key p.1)
    by more false t q = inr (more q)

dialed : (links : List Link) (n v : ℕ) → has_dial links n v ≡ true → Dials links n v
dialed [] n v e = cc
dialed (link ∷ links) n v e = by (dialed links n v) (link.node == n && link.vb == v) refl e
  where
    by : (has_dial links n v ≡ true → Dials links n v) → (b : Bool) → (link.node == n && link.vb == v) ≡ b → (b || has_dial links n v) ≡ true → Dials (link ∷ links) n v
    by more true t q = let p = and_parts (link.node == n) (link.vb == v) t in inl (eqb-true link.node n p.0, eqb-true link.vb v p.1)
    by more false t q = inr (more q)

-- and as each link stands

module _ (ends : Ends) where
  has_server : (links : List Link) (plain : List PlainLink) → Pairs (LinkStands ends) links plain → (n key : ℕ) → Serves links n key → is_some (ends.peers n key) ≡ true
  has_server [] plain pairs n key s = absurd s
  has_server (link ∷ links) [] pairs n key s = absurd pairs
  has_server (link ∷ links) (p ∷ ps) pairs n key s = ⊎_elim
      (λ at. subst (λ k. is_some (ends.peers k key) ≡ true) at.0 (subst (λ k. is_some (ends.peers link.producer k) ≡ true) at.1 (ap is_some pairs.0.server)))
      (λ more. has_server links ps pairs.1 n key more) s

  has_consumer : (links : List Link) (plain : List PlainLink) → Pairs (LinkStands ends) links plain → (n v : ℕ) → Dials links n v → is_some (ends.dials n v) ≡ true
  has_consumer [] plain pairs n v s = absurd s
  has_consumer (link ∷ links) [] pairs n v s = absurd pairs
  has_consumer (link ∷ links) (p ∷ ps) pairs n v s = ⊎_elim
      (λ at. subst (λ k. is_some (ends.dials k v) ≡ true) at.0 (subst (λ k. is_some (ends.dials link.node k) ≡ true) at.1 (ap is_some pairs.0.consumer)))
      (λ more. has_consumer links ps pairs.1 n v more) s

pub ends_are : (kept : Kept) (w : PlainWorld) → WorldStands kept w → EndsAreLinks kept
ends_are kept w stands = record {
  peers = λ n key. (λ e. served kept.links n key (stands.links.peers n key e), λ s. has_server (ends_of kept.nodes) kept.links w.links stands.links.each n key s);
  dials = λ n v. (λ e. dialed kept.links n v (stands.links.dials n v e), λ s. has_consumer (ends_of kept.nodes) kept.links w.links stands.links.each n v s);
}
