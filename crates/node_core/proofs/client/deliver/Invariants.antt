use Rattle.std.proofs.Common.{◌≡◌, ◌++◌, drop}
use Rattle.node_core.specs.Clients.{with_replies}
use Rattle.node_core.proofs.client.deliver.Given as goal

abbrev pub invariant-loop-line : goal.invariant-loop-line
invariant-loop-line l =
    l.initial.lines ++ with_replies l.who.node l.who.client l.told l.initial.out ≡ l.lines ++ with_replies l.who.node l.who.client (drop l.line-index l.told) l.out
