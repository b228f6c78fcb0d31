-- clients that are answered, and clients that are left without an answer, to be judged by hand
use Rattle.std.specs.Prelude.{ℕ, true, false, List, [], ◌∷◌}
use Rattle.mcbp_frame.specs.Spelling.{spelling}
use Rattle.mcbp_frame.specs.declared.frame.Frame.{Frame}
use Rattle.mcbp_frame.specs.declared.frame.TheConstants.{FRAMED_REQUEST, REQUEST, RESPONSE}
use Rattle.mcbp_kv.specs.Answers.{bare_answer}
use Rattle.mcbp_kv.specs.Replies.{reply_frame}
use Rattle.mcbp_kv.specs.declared.opcodes.TheConstants.{NOOP, SET}
use Rattle.script_text.specs.declared.verb.ClientVerb.TheVariants as client_verb
use Rattle.script_text.specs.declared.verb.Verb.{Verb}
use Rattle.script_text.specs.declared.verb.Verb.TheVariants as verb
use Rattle.vb_events.specs.declared.event.Event.{Event}
use Rattle.vb_events.specs.declared.event.Event.TheVariants as event
use Rattle.vb_types.specs.declared.status.Status.TheVariants as status
use Rattle.transcript_law.specs.ClientStreams.{blank_client, with_client, with_sent_bytes}
use Rattle.transcript_law.specs.LinesTold.{Chronicle, empty_chronicle, with_at}
use Rattle.transcript_law.specs.Transcripts.{set_frame}

-- ---- what a client sends, with the opaque 9

-- NOOP
abbrev pub noop_frame : Frame
noop_frame = record { magic = REQUEST; opcode = NOOP; datatype = 0; vb_or_status = 0; opaque = 9; cas = 0; framing = []; extras = []; key = []; value = [] }

abbrev pub noop_bytes : List ℕ
noop_bytes = spelling noop_frame

-- a response to NOOP
abbrev pub response_bytes : List ℕ
response_bytes = spelling (record noop_frame { magic = RESPONSE })

-- a set of the key 7; and one that is to be durable at the level 1
abbrev pub set_bytes : List ℕ
set_bytes = spelling (set_frame (7 ∷ []) (8 ∷ []))

abbrev pub durable_frame : Frame
durable_frame = record (set_frame (7 ∷ []) (8 ∷ [])) { magic = FRAMED_REQUEST; framing = 17 ∷ 1 ∷ [] }

abbrev pub durable_bytes : List ℕ
durable_bytes = spelling durable_frame

-- a byte that begins no frame
abbrev pub broken_bytes : List ℕ
broken_bytes = 1 ∷ []

-- a line that brings these bytes over the connection 1 of the node 0
abbrev pub brings : List ℕ → Verb
brings bytes = verb.AtClient 0 1 (client_verb.Bytes bytes)

-- NOOP's answer over it
abbrev pub noop_answered : Event
noop_answered = event.Reply 0 1 (spelling (reply_frame (bare_answer NOOP status.Success 9)))

-- the durable set's: nobody knows what became of it
abbrev pub durable_unknown : Event
durable_unknown = event.Reply 0 1 (spelling (reply_frame (bare_answer SET status.SyncWriteAmbiguous 9)))

-- or it is refused, as its vBucket is not there
abbrev pub durable_refused : Event
durable_refused = event.Reply 0 1 (spelling (reply_frame (bare_answer SET status.NotMyVbucket 9)))

-- ---- what was read

-- the connection is open, and sent these bytes, of which none was answered
abbrev pub sent_alone : List ℕ → Chronicle
sent_alone bytes = record empty_chronicle { conn_at = with_at (λ n c. false) 0 1 true; clients_at = with_client empty_chronicle.clients_at 0 1 (with_sent_bytes bytes blank_client) }

-- and it is not open any more
abbrev pub sent_shut : List ℕ → Chronicle
sent_shut bytes = record (sent_alone bytes) { conn_at = λ n c. false }
