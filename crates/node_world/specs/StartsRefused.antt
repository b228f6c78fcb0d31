-- what a start leaves that is refused before a vBucket is loaded
use Rattle.std.specs.Prelude.{◌≡◌, ◌≢◌, ◌<◌, ℕ, false, List, length, Some}
use Rattle.disk_journals.specs.Arms.{opens_all}
use Rattle.disk_journals.specs.Books.{Book}
use Rattle.script_text.specs.declared.verb.Verb.TheVariants as verb
use Rattle.script_text.specs.declared.verb.NodeVerb.TheVariants as node_verb
use Rattle.node_core.specs.Loading.{active_ones}
use Rattle.node_world.specs.Nodes.{PlainNode}
use Rattle.node_world.specs.World.{verb_step}
use Rattle.node_world.specs.Worlds.{PlainWorld, Outcome}

-- the node n is down, with these records on its disks, in this order
abbrev pub StaysDown : ℕ → List Book → Outcome → Type 0
StaysDown n books came = (now : PlainNode) × (came.0.nodes n ≡ Some now) × (now.off ≡ Some books)

-- a node stays down with its disks as they were, where there are fewer ids than vBuckets that were active, and where a disk can't be opened; and a start leaves all other nodes and the links
pub record LeavesDisks (w : PlainWorld) (n : ℕ) (node : PlainNode) (books : List Book) : Type 0 where
  pub short : (number : ℕ) (uuids : List ℕ) → length uuids < length (active_ones books) → StaysDown n books (verb_step w number (verb.AtNode n (node_verb.Start uuids)))
  pub unopened : (number : ℕ) (uuids : List ℕ) → opens_all node.arm.fuse (length books) ≡ false → StaysDown n books (verb_step w number (verb.AtNode n (node_verb.Start uuids)))
  pub others : (number : ℕ) (uuids : List ℕ) (m : ℕ) → m ≢ n → (verb_step w number (verb.AtNode n (node_verb.Start uuids))).0.nodes m ≡ w.nodes m
  pub links : (number : ℕ) (uuids : List ℕ) → (verb_step w number (verb.AtNode n (node_verb.Start uuids))).0.links ≡ w.links
