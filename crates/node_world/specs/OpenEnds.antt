-- the ends of links that nodes keep, and the links that they are of
use Rattle.std.specs.Prelude.{◌≡◌, ◌↔◌, ℕ, true, List, [], ◌∷◌, ◌⊎◌, is_some}
use Rattle.node_world.specs.declared.link.Link.{Link}
use Rattle.node_world.specs.Stands.{Kept, ends_of}

-- one of these links has its producer at the node n, under this key
abbrev pub Serves : List Link → ℕ → ℕ → Type 0
Serves [] n key = ⊥
Serves (link ∷ links) n key = ((link.producer ≡ n) × (link.conn ≡ key)) ⊎ Serves links n key

-- one of them is dialed by the vBucket v of the node n
abbrev pub Dials : List Link → ℕ → ℕ → Type 0
Dials [] n v = ⊥
Dials (link ∷ links) n v = ((link.node ≡ n) × (link.vb ≡ v)) ⊎ Dials links n v

-- a node keeps a producer's end exactly where an open link has it there, and a dial exactly where one was dialed for its vBucket
pub record EndsAreLinks (kept : Kept) : Type 0 where
  pub peers : (n key : ℕ) → (is_some ((ends_of kept.nodes).peers n key) ≡ true) ↔ Serves kept.links n key
  pub dials : (n v : ℕ) → (is_some ((ends_of kept.nodes).dials n v) ≡ true) ↔ Dials kept.links n v
