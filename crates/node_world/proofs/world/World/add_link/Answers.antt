use Rattle.std.proofs.Common.{◌≡◌, ◌∙◌, ◌++◌, ◌∷◌, [], get_or, set, subst}
use Rattle.node_world.specs.Ends.{OpensPeer}
use Rattle.node_world.specs.Stands.{Kept}
use Rattle.node_world.proofs.world.World.add_link.Goals as goal

pub returns : goal.returns
returns c =
    let asked = c.args.asked in
    let server = c.index_mut.result.now in
    let peer = c.open_peer.new.self in
    let up : c.push.new.self ≡ c.args.out.out = c.in_ok-push.ensures.ok ∙ (λ i. c.new-up.ensures i ++ c.as_slice.ensures i) in
    let grown : c.push-2.new.self.items ≡ c.self.inside.links.items ++ record { number = asked.link; producer = asked.producer; conn = c.in_ok-conn.conn; node = asked.node; vb = asked.vb; up = c.args.out.out; down = [] } ∷ []
    = c.in_ok-push-2.ensures.items
    ∙ (λ i. c.self.inside.links.items ++ record { number = asked.link; producer = asked.producer; conn = c.in_ok-conn.conn; node = asked.node; vb = asked.vb; up = up i; down = c.new.ensures i } ∷ []) in
    record {
      server = server;
      found = subst (λ (k : Kept). server ≡ get_or k.nodes c.args.serving server) c.self.view_is c.index_mut.ensures.value;
      conn = c.in_ok-conn.conn;
      peer = peer;
      opens = subst (λ base. OpensPeer asked.link base server c.in_ok-conn.conn peer) c.base_of.ensures c.in_ok-conn.ensures;
      after = (λ i. record { nodes = set c.self.inside.nodes.items c.args.serving peer; ids = c.self.inside.ids; links = grown i })
          ∙ (λ i. record (c.self.view_is i) {
            nodes = set (c.self.view_is i).nodes c.args.serving peer;
            links = (c.self.view_is i).links ++ record { number = asked.link; producer = asked.producer; conn = c.in_ok-conn.conn; node = asked.node; vb = asked.vb; up = c.args.out.out; down = [] } ∷ [];
          });
      said = c.of-told.ensures;
    }
