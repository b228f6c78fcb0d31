-- scripts of connections of clients, and transcripts of them to be judged by hand
use Rattle.std.specs.Prelude.{ℕ, List, [], ◌∷◌}
use Rattle.mcbp_frame.specs.Spelling.{spelling}
use Rattle.mcbp_frame.specs.declared.frame.TheConstants.{REQUEST}
use Rattle.mcbp_kv.specs.Answers.{bare_answer}
use Rattle.mcbp_kv.specs.Replies.{reply_frame}
use Rattle.mcbp_kv.specs.declared.opcodes.TheConstants.{NOOP}
use Rattle.script_text.specs.declared.verb.Verb.{Verb}
use Rattle.script_text.specs.declared.verb.Verb.TheVariants as verb
use Rattle.script_text.specs.declared.verb.VbVerb.TheVariants as vb_verb
use Rattle.script_text.specs.declared.verb.ClientVerb.TheVariants as client_verb
use Rattle.vb_events.specs.declared.event.Answer.TheVariants as answer
use Rattle.vb_events.specs.declared.event.Cause.{Cause}
use Rattle.vb_events.specs.declared.event.Event.{Event}
use Rattle.vb_events.specs.declared.event.Event.TheVariants as event
use Rattle.vb_types.specs.declared.status.Status.TheVariants as status
use Rattle.transcript_law.specs.{Crashes.{Said, numbered, ok, groups_from_number}, Lawfulness.{Lawful}}

-- the connection 1 of the node 0 is opened, these lines come, and that is told of them
abbrev pub LawfulOpened : List Verb → List Said → Type 0
LawfulOpened lines told = Lawful (numbered 1 (verb.Node 0 ∷ verb.AtClient 0 1 client_verb.Open ∷ lines)) (groups_from_number 1 (ok [] ∷ ok [] ∷ told))

-- a client's lines over the connection c of that node
abbrev pub opens : ℕ → Verb
opens c = verb.AtClient 0 c client_verb.Open

abbrev pub sends : ℕ → Verb
sends c = verb.AtClient 0 c (client_verb.Bytes [])

-- no frame begins so, and the connection closes
abbrev pub breaks : ℕ → Verb
breaks c = verb.AtClient 0 c (client_verb.Bytes (1 ∷ []))

-- NOOP of this opaque, and its answer
abbrev pub noop : ℕ → List ℕ
noop opaque = spelling (record { magic = REQUEST; opcode = NOOP; datatype = 0; vb_or_status = 0; opaque = opaque; cas = 0; framing = []; extras = []; key = []; value = [] })

abbrev pub nooped : ℕ → List ℕ
nooped opaque = spelling (reply_frame (bare_answer NOOP status.Success opaque))

abbrev pub asks : ℕ → Verb
asks c = verb.AtClient 0 c (client_verb.Bytes (noop 9))

abbrev pub hangs : ℕ → Verb
hangs c = verb.AtClient 0 c client_verb.Hang

-- a line that may tell of any connection of its node, and has nothing to do with one by itself
abbrev pub waits : Verb
waits = verb.AtVb 0 0 vb_verb.Tick

-- the connection c of the node n closed, and was answered with these bytes
abbrev pub closes : ℕ → ℕ → Event
closes n c = event.Closed n c

abbrev pub replies : ℕ → ℕ → List ℕ → Event
replies n c bytes = event.Reply n c bytes

-- a line that is refused for this cause, and tells of nothing
abbrev pub refused : Cause → Said
refused why = ([], answer.No why)
