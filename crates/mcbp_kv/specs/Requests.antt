-- what a client's frame asks, or the first reason to refuse it
use Rattle.std.specs.Prelude.{ℕ, ◌%◌, ◌==◌, ◌&&◌, ◌||◌, Bool, not, if◌then◌else◌, nat_lt, nat_le, List, [], ◌∷◌, length, take, drop, Option, Some, None, is_some, Result, Ok, Err}
use Rattle.std.specs.List.{list_any}
use Rattle.std.specs.Int.{w32, from_be_bytes}
use Rattle.std.specs.Result.{result_err, result_unwrap_or}
use Rattle.mcbp_frame.specs.declared.frame.Frame.{Frame}
use Rattle.vb_types.specs.Limits.{key_of}
use Rattle.vb_types.specs.declared.key.TheConstants.{MAX_KEY, MAX_VALUE}
use Rattle.vb_types.specs.declared.status.Status.{Status}
use Rattle.vb_types.specs.declared.status.Status.TheVariants as status
use Rattle.vb_types.specs.declared.write.Op.{Op}
use Rattle.vb_types.specs.declared.write.Op.TheVariants as op
use Rattle.vb_types.specs.declared.write.Write.{Write}
use Rattle.mcbp_kv.specs.Features.{accepted}
use Rattle.mcbp_kv.specs.Durable.{durability_named}
use Rattle.mcbp_kv.specs.Framing.{requirement_of}
use Rattle.mcbp_kv.specs.declared.durable.Durability.{Durability}
use Rattle.mcbp_kv.specs.declared.framing.Requirement.{Requirement}
use Rattle.mcbp_kv.specs.declared.opcodes.Command.{Command}
use Rattle.mcbp_kv.specs.declared.opcodes.Command.TheVariants as command
use Rattle.mcbp_kv.specs.declared.opcodes.TheConstants.{GET, SET, ADD, REPLACE, DELETE, NOOP, HELLO}
use Rattle.mcbp_kv.specs.declared.request.KvRequest.{KvRequest}
use Rattle.mcbp_kv.specs.declared.request.KvRequest.TheVariants as request

-- whether a number is in a list
abbrev pub is_one_of : ℕ → List ℕ → Bool
is_one_of n ns = list_any (λ m. m == n) ns

-- the opcodes of commands that write
abbrev pub write_opcodes : List ℕ
write_opcodes = SET ∷ ADD ∷ REPLACE ∷ DELETE ∷ []

-- the opcodes of a client's commands
abbrev pub client_opcodes : List ℕ
client_opcodes = GET ∷ NOOP ∷ HELLO ∷ write_opcodes

-- the opcode of a command
abbrev pub code_of : Command → ℕ
code_of command.Get = GET
code_of (command.Write op.Set) = SET
code_of (command.Write op.Add) = ADD
code_of (command.Write op.Replace) = REPLACE
code_of (command.Write op.Delete) = DELETE
code_of command.Noop = NOOP
code_of command.Hello = HELLO

-- a client command's datatype: raw, or JSON where its connection has that feature set
abbrev pub is_datatype : Bool → ℕ → Bool
is_datatype json datatype = datatype == 0 || (json && datatype == 1)

-- a level that there is, or the status that says that there is none
abbrev pub known_or_invalid : Option Durability → Result (Option Durability) Status
known_or_invalid None = Err status.DurabilityInvalidLevel
known_or_invalid (Some d) = Ok (Some d)

-- what is required of a command of this opcode; a requirement is refused at a command that writes nothing, and where there is no such level
abbrev pub required_of : ℕ → Result (Option Requirement) Status → Result (Option Durability) Status
required_of opcode (Err st) = Err st
required_of opcode (Ok None) = Ok None
required_of opcode (Ok (Some r)) = if not (is_one_of opcode write_opcodes) then Err status.NotSupported else known_or_invalid (durability_named r)

-- what a frame requires of its command
abbrev pub durable_of : Frame → Result (Option Durability) Status
durable_of f = required_of f.opcode (requirement_of f.framing)

-- a key alone
abbrev pub is_key_alone : Frame → Bool
is_key_alone f = length f.extras == 0 && is_some (key_of f.key) && length f.value == 0

-- flags and expiration, four bytes each, and a key
abbrev pub is_keyed_write : Frame → Bool
is_keyed_write f = length f.extras == 8 && is_some (key_of f.key)

-- neither extras nor key nor value
abbrev pub is_empty : Frame → Bool
is_empty f = length f.extras == 0 && length f.key == 0 && length f.value == 0

-- a name of the client's, which may be empty, and features of two bytes each
abbrev pub is_greeting : Frame → Bool
is_greeting f = length f.extras == 0 && nat_le (length f.key) MAX_KEY && length f.value % 2 == 0

-- extras, key and value are those of the opcode's row, and nothing that is to be added has a CAS
abbrev pub has_shape : ℕ → Frame → Bool
has_shape opcode f =
    if opcode == GET || opcode == DELETE then is_key_alone f
    else if opcode == NOOP then is_empty f
    else if opcode == HELLO then is_greeting f
    else is_keyed_write f && not (opcode == ADD && not (f.cas == 0))

-- a status, where something is wrong
abbrev pub when : Bool → Status → Option Status
when wrong st = if wrong then Some st else None

-- the first that there is
abbrev pub first_of : List (Option Status) → Option Status
first_of [] = None
first_of (None ∷ rest) = first_of rest
first_of (Some st ∷ rest) = Some st

-- the reasons to refuse a client's frame, in the protocol's order
abbrev pub refusals : Bool → Frame → List (Option Status)
refusals json f =
    when (not (is_one_of f.opcode client_opcodes)) status.UnknownCommand
    ∷ when (not (is_datatype json f.datatype)) status.Einval
    ∷ result_err (durable_of f)
    ∷ when (not (has_shape f.opcode f)) status.Einval
    ∷ when (nat_lt MAX_VALUE (length f.value)) status.E2big ∷ []

-- which write an opcode is
abbrev pub op_of : ℕ → Op
op_of opcode = if opcode == SET then op.Set else if opcode == ADD then op.Add else if opcode == REPLACE then op.Replace else op.Delete

-- a removal has no document: neither flags nor an expiration; its datatype is the frame's, as of any write
abbrev pub removal : Frame → Write
removal f = record { op = op.Delete; key = f.key; value = []; flags = 0; expiry = 0; datatype = f.datatype; cas = f.cas }

-- flags and expiration are the extras, four bytes each
abbrev pub stored : Frame → Write
stored f = record {
  op = op_of f.opcode;
  key = f.key;
  value = f.value;
  flags = from_be_bytes w32 (take 4 f.extras);
  expiry = from_be_bytes w32 (drop 4 f.extras);
  datatype = f.datatype;
  cas = f.cas;
}

-- the write of a frame: a removal, or one that stores
abbrev pub written : Op → Frame → Write
written op.Delete f = removal f
written other f = stored f

-- what a frame of this opcode asks that nothing is wrong with, with what is required of its write
abbrev pub request_by : ℕ → Option Durability → Frame → KvRequest
request_by opcode durable f =
    if opcode == GET then request.Get f.key
    else if opcode == NOOP then request.Noop
    else if opcode == HELLO then request.Hello (accepted f.value)
    else if opcode == DELETE then request.Write (removal f) durable
    else request.Write (stored f) durable

-- a frame is refused, or asks
abbrev pub refused_or_asks : Option Status → Option Durability → Frame → Result KvRequest Status
refused_or_asks None durable f = Ok (request_by f.opcode durable f)
refused_or_asks (Some st) durable f = Err st

-- what a client's frame asks, on a connection with or without the feature JSON
unfoldable pub request_of : Bool → Frame → Result KvRequest Status
request_of json f = refused_or_asks (first_of (refusals json f)) (result_unwrap_or (durable_of f) None) f
