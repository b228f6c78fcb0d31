-- how a link is opened
use Rattle.std.specs.Prelude.{◌≡◌, ◌++◌, ◌∷◌, ℕ, [], get_or, set}
use Rattle.node_core.specs.declared.out.NodeOut.{NodeOut}
use Rattle.node_world.specs.declared.script_node.ScriptNode.{ScriptNode}
use Rattle.node_world.specs.declared.told.Told.{Told}
use Rattle.node_world.specs.declared.world.LinkAsk.{LinkAsk}
use Rattle.node_world.specs.Ends.{OpensPeer}
use Rattle.node_world.specs.Lines.{out_told}
use Rattle.node_world.specs.Links.{base_of}
use Rattle.node_world.specs.Stands.{Kept}

-- a link is open: its producer's connection at the node of this place, and it stands behind the others, with what the dial handed out on its way up
pub record OpensLink (asked : LinkAsk) (serving : ℕ) (old : Kept) (out : NodeOut) (told : Told) (new : Kept) : Type 0 where
  pub server : ScriptNode
  pub found : server ≡ get_or old.nodes serving server
  pub conn : ℕ
  pub peer : ScriptNode
  pub opens : OpensPeer asked.link (base_of asked.line) server conn peer
  pub after : new ≡ record old {
    nodes = set old.nodes serving peer;
    links = old.links ++ record { number = asked.link; producer = asked.producer; conn = conn; node = asked.node; vb = asked.vb; up = out.out; down = [] } ∷ [];
  }
  pub said : told ≡ out_told out
