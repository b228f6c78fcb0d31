-- requests of DCP between a client's other frames, byte by byte
use Rattle.std.specs.Prelude.{◌≡◌, ℕ, ◌+◌, List, [], ◌∷◌, ◌++◌, replicate, Option, Some}
use Rattle.mcbp_frame.specs.declared.frame.Frame.{Frame}
use Rattle.vb_events.specs.declared.event.Event.{Event}
use Rattle.vb_events.specs.declared.event.Event.TheVariants as event
use Rattle.vb_calls.specs.declared.calls.Resolved.{Resolved}
use Rattle.vb_calls.specs.declared.calls.VbAnswer.TheVariants as answer
use Rattle.vb_calls.specs.declared.calls.VbReply.{VbReply}
use Rattle.vb_calls.specs.Programs.{Prog, Done, Call}
use Rattle.client_session.specs.declared.session.Who.{Who}
use Rattle.client_session.specs.Serving.{Served, served, new_session}

-- a frame without key, value and CAS: its vBucket or status, and how many extras it has, each in a last byte, its opaque in the last of four, and extras that are zeros
abbrev pub bare_bytes : ℕ → ℕ → ℕ → ℕ → ℕ → List ℕ
bare_bytes magic opcode vb extras opaque =
    magic ∷ opcode ∷ 0x00 ∷ 0x00 ∷ extras ∷ 0x00 ∷ 0x00 ∷ vb ∷ 0x00 ∷ 0x00 ∷ 0x00 ∷ extras ∷ 0x00 ∷ 0x00 ∷ 0x00 ∷ opaque ∷ replicate (8 + extras) 0x00

-- a NOOP of the opaque 1
abbrev pub noop_bytes : List ℕ
noop_bytes = bare_bytes 0x80 0x0a 0 0 1

-- a STREAM_REQUEST for vBucket 5, of the opaque 2, from 0 to 0
abbrev pub stream_bytes : List ℕ
stream_bytes = bare_bytes 0x80 0x53 5 48 2

-- the frame that it is
abbrev pub stream_frame : Frame
stream_frame = record {
  magic = 0x80;
  opcode = 0x53;
  datatype = 0;
  vb_or_status = 5;
  opaque = 2;
  cas = 0;
  framing = [];
  extras = replicate 48 0;
  key = [];
  value = [];
}

-- a GET of the key k at vBucket 5, of the opaque 3
abbrev pub get_bytes : List ℕ
get_bytes =
    0x80 ∷ 0x00 ∷ 0x00 ∷ 0x01 ∷ 0x00 ∷ 0x00 ∷ 0x00 ∷ 0x05 ∷ 0x00 ∷ 0x00 ∷ 0x00 ∷ 0x01 ∷ 0x00 ∷ 0x00 ∷ 0x00 ∷ 0x03 ∷ replicate 8 0x00 ++ 0x6b ∷ []

-- a SET of the key k to nothing at vBucket 5, which is to be durable at a majority, of the opaque 4
abbrev pub set_bytes : List ℕ
set_bytes =
    0x08 ∷ 0x01 ∷ 0x02 ∷ 0x01 ∷ 0x08 ∷ 0x00 ∷ 0x00 ∷ 0x05 ∷ 0x00 ∷ 0x00 ∷ 0x00 ∷ 0x0b ∷ 0x00 ∷ 0x00 ∷ 0x00 ∷ 0x04 ∷ replicate 8 0x00
    ++ 0x11 ∷ 0x01 ∷ replicate 8 0x00 ++ 0x6b ∷ []

-- the second connection of node 0, which has the base 3, is new
abbrev pub who_one : Who
who_one = record { node = 0; client = 1; base = 3 }

abbrev pub new_one : Served
new_one = served (new_session who_one) []

-- its lines of answers
abbrev pub answers : List ℕ → List Event
answers bytes = event.Reply 0 1 bytes ∷ []

-- it handed the STREAM_REQUEST up behind these lines, and keeps these bytes
abbrev pub stream_handed : ℕ → List Event → List ℕ → Served
stream_handed used lines bytes = record { session = record (new_session who_one) { reader = bytes; used = used }; events = lines; dcp = Some stream_frame }

-- it awaits the outcome of its first durable write, the SET, and keeps these bytes
abbrev pub set_awaited : List ℕ → Served
set_awaited bytes =
    served (record (new_session who_one) { reader = bytes; used = 1; awaited = Some (record { waiter = 12884901889; opcode = 0x01; opaque = 4 }) }) []

-- a prepare, and what is known of outcomes
abbrev pub prepared : List Resolved → Option VbReply
prepared resolved = Some (record { answer = answer.Prepared 1 65536; resolved = resolved; ended = []; branch = 9; changes = [] })

-- one call at vBucket 5 is made, and where it gets this reply the end is this
abbrev pub EndsBehind : Option VbReply → Served → Prog Served → Type 0
EndsBehind reply end (Done s) = ⊥
EndsBehind reply end (Call v made next) = (v ≡ 5) × (next reply ≡ Done end)
