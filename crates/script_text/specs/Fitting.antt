-- which numbers the fields of a script's lines hold
use Rattle.std.specs.Prelude.{ℕ, ◌<◌, ◌≤◌, ◌^◌, List, length, Option, Some, None}
use Rattle.std.specs.List.{All}
use Rattle.vb_disk.specs.declared.made.Outcome.{Outcome}
use Rattle.vb_disk.specs.declared.made.Outcome.TheVariants as outcome
use Rattle.script_text.specs.declared.verb.{Verb.{Verb}, VbVerb.{VbVerb}, NodeVerb.{NodeVerb}, LinkVerb.{LinkVerb}, ClientVerb.{ClientVerb}, ScriptLine.{ScriptLine}}
use Rattle.script_text.specs.declared.verb.Verb.TheVariants as verb
use Rattle.script_text.specs.declared.verb.VbVerb.TheVariants as vb_verb
use Rattle.script_text.specs.declared.verb.NodeVerb.TheVariants as node_verb
use Rattle.script_text.specs.declared.verb.LinkVerb.TheVariants as link_verb
use Rattle.script_text.specs.declared.verb.ClientVerb.TheVariants as client_verb

-- a node's number
abbrev pub IsNode : ℕ → Type 0
IsNode n = n < 16

-- a vBucket's number
abbrev pub IsVb : ℕ → Type 0
IsVb v = v < 1024

-- the number of a client connection or a link
abbrev pub IsConnection : ℕ → Type 0
IsConnection c = c < 1000

-- how many bytes a link's buffer has
abbrev pub IsBuffer : ℕ → Type 0
IsBuffer b = b < 2 ^ 32

-- each number is that of a byte
abbrev pub AreBytes : List ℕ → Type 0
AreBytes bytes = All (λ b. b < 256) bytes

-- the count of a node's device calls
abbrev pub IsCall : ℕ → Type 0
IsCall k = k ≤ 1000000000

-- how many stream frames a line asks for
abbrev pub AreFrames : ℕ → Type 0
AreFrames frames = (1 ≤ frames) × (frames ≤ 1000000)

-- the byte that a crash leaves is one
abbrev pub IsOutcome : Outcome → Type 0
IsOutcome outcome.Old = Unit {0}
IsOutcome outcome.New = Unit {0}
IsOutcome (outcome.Fill byte) = byte < 256

-- a member of a chain: a node's number, or none where it is not set
abbrev pub IsMember : Option ℕ → Type 0
IsMember None = Unit {0}
IsMember (Some m) = m < 16

-- what else a line asks of a node has such numbers
abbrev pub NodeFits : NodeVerb → Type 0
NodeFits (node_verb.Clock nanos) = nanos < 2 ^ 64
NodeFits (node_verb.Stop call out) = IsCall call × IsOutcome out
NodeFits (node_verb.Fail call) = IsCall call
NodeFits (node_verb.Crash out) = IsOutcome out
NodeFits (node_verb.Start uuids) = (length uuids ≤ 64) × All (λ uuid. uuid < 2 ^ 64) uuids

-- and of a vBucket of a node
abbrev pub VbFits : VbVerb → Type 0
VbFits (vb_verb.MakeActive uuid) = uuid < 2 ^ 64
VbFits (vb_verb.Chain others) = (length others ≤ 3) × All IsMember others
VbFits (vb_verb.Promote uuid) = uuid < 2 ^ 64
VbFits other = Unit {0}

-- and of a client's connection
abbrev pub ClientFits : ClientVerb → Type 0
ClientFits (client_verb.Bytes bytes) = AreBytes bytes
ClientFits (client_verb.Pull frames) = AreFrames frames
ClientFits other = Unit {0}

-- and of a link: a line moves at most so many bytes
abbrev pub LinkFits : LinkVerb → Type 0
LinkFits (link_verb.Up bytes) = bytes ≤ 1000000000
LinkFits (link_verb.Down bytes) = bytes ≤ 1000000000
LinkFits (link_verb.Pump frames) = AreFrames frames
LinkFits link_verb.Drop = Unit {0}
LinkFits link_verb.Cut = Unit {0}

-- The numbers of a line are those of its grammar. The limits are written out: a wrong constant in
-- the reader is refused here.
abbrev pub VerbFits : Verb → Type 0
VerbFits (verb.Node n) = IsNode n
VerbFits (verb.Link l m n v b takeover) = IsConnection l × IsNode m × IsNode n × IsVb v × IsBuffer b
VerbFits (verb.AtNode n what) = IsNode n × NodeFits what
VerbFits (verb.AtVb n v what) = IsNode n × IsVb v × VbFits what
VerbFits (verb.AtClient n c what) = IsNode n × IsConnection c × ClientFits what
VerbFits (verb.AtLink l what) = IsConnection l × LinkFits what

-- each line of a script says what its grammar can say
abbrev pub ScriptFits : List ScriptLine → Type 0
ScriptFits script = All (λ line. VerbFits line.verb) script
