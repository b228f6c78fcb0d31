-- each line of a script tells what it was asked for
use Rattle.transcript_law.proofs.Words.{ℕ, Chronicle, Verb, ClientVerb, NodeVerb, PlainWorld, take_snapshots, verb_step, on_node}
use Rattle.node_world.specs.World.{client_verb_at, node_verb_step}
use Rattle.transcript_law.proofs.{indexers.Pulled.{pull_pairs}, invariant.{Agreement.{Agrees}, Ranged.{IsRanged}}, verbs.{Asking.{vb_asked}, AskingStarts.{start_asked}}}
use Rattle.transcript_law.specs.Asked.{AskedOfClient, AskedOfNode, TellsAsAsked}
use Rattle.vbucket.proofs.Ending.{takes_exactly}

node_asked : (w : PlainWorld) (n : ℕ) (what : NodeVerb) → AskedOfNode what (node_verb_step w n what).1.events
node_asked w n (NodeVerb.Clock nanos) = tt
node_asked w n (NodeVerb.Stop k out) = tt
node_asked w n (NodeVerb.Fail k) = tt
node_asked w n (NodeVerb.Crash out) = tt
node_asked w n (NodeVerb.Start uuids) = start_asked w n uuids

client_asked : (w : PlainWorld) (r : Chronicle) (number n c : ℕ) (what : ClientVerb) → IsRanged w → Agrees w r → AskedOfClient what (on_node w n (client_verb_at n number c what)).1.events
client_asked w r number n c ClientVerb.Open ranged a = tt
client_asked w r number n c (ClientVerb.Bytes bytes) ranged a = tt
client_asked w r number n c (ClientVerb.Pull wanted) ranged a = pull_pairs take_snapshots takes_exactly w r n c wanted ranged a
client_asked w r number n c ClientVerb.Hang ranged a = tt

-- each line, by what it names
pub line_asked : (w : PlainWorld) (r : Chronicle) (number : ℕ) (line : Verb) → IsRanged w → Agrees w r → (let x = (verb_step w number line).1 in TellsAsAsked line x.events x.answer)
line_asked w r number (Verb.Node n) ranged a = tt
line_asked w r number (Verb.Link l m n v buffer takeover) ranged a = tt
line_asked w r number (Verb.AtNode n what) ranged a = node_asked w n what
line_asked w r number (Verb.AtVb n v what) ranged a = vb_asked w n v ranged what
line_asked w r number (Verb.AtClient n c what) ranged a = client_asked w r number n c what ranged a
line_asked w r number (Verb.AtLink l what) ranged a = tt
