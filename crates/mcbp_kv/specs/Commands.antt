-- client commands in the protocol's own words: each field of a frame, and what it holds
use Rattle.std.specs.Prelude.{◌≡◌, ◌≢◌, ℕ, ◌<◌, ◌≤◌, ◌^◌, Bool, List, [], ◌∷◌, ◌++◌, length, Option, Some, None, Ok, ◌⊎◌}
use Rattle.std.specs.Int.{w16, w32, to_be_bytes}
use Rattle.std.specs.List.{All}
use Rattle.mcbp_frame.specs.declared.frame.Frame.{Frame}
use Rattle.mcbp_frame.specs.declared.frame.TheConstants.{REQUEST, FRAMED_REQUEST, RESPONSE}
use Rattle.mcbp_frame.specs.Spelling.{Readable}
use Rattle.mcbp_frame.specs.Streams.{AreBytes}
use Rattle.vb_types.specs.Limits.{IsKey, IsValue}
use Rattle.vb_types.specs.Levels.{level_number}
use Rattle.vb_types.specs.declared.key.TheConstants.{MAX_KEY}
use Rattle.vb_types.specs.declared.write.Op.{Op}
use Rattle.vb_types.specs.declared.write.Op.TheVariants as op
use Rattle.vb_types.specs.declared.write.Write.{Write}
use Rattle.mcbp_kv.specs.Choices.{code_bytes}
use Rattle.mcbp_kv.specs.Features.{accepted}
use Rattle.mcbp_kv.specs.Fitting.{RequestFits}
use Rattle.mcbp_kv.specs.Requests.{request_of}
use Rattle.mcbp_kv.specs.Shapes.{HasDatatype, HasNothing}
use Rattle.mcbp_kv.specs.declared.durable.Durability.{Durability}
use Rattle.mcbp_kv.specs.declared.feature.Feature.{Feature}
use Rattle.mcbp_kv.specs.declared.opcodes.TheConstants.{GET, SET, ADD, REPLACE, DELETE, NOOP, HELLO}
use Rattle.mcbp_kv.specs.declared.request.KvRequest.{KvRequest}
use Rattle.mcbp_kv.specs.declared.request.KvRequest.TheVariants as request

-- a level alone: an extra of the id 1 and the length 1; half a minute counts as its timeout
pub record IsUntimed (framing : List ℕ) (d : Durability) : Type 0 where
  pub bytes : framing ≡ 0x11 ∷ level_number d.level ∷ []
  pub timeout : d.timeout ≡ 30000

-- a level and a timeout in two big-endian bytes: an extra of the id 1 and the length 3; for 0 half a minute counts
pub record IsTimed (framing : List ℕ) (d : Durability) : Type 0 where
  pub named : ℕ
  pub size : named < 2 ^ 16
  pub bytes : framing ≡ 0x13 ∷ level_number d.level ∷ to_be_bytes w16 named
  pub timeout : ((named ≡ 0) × (d.timeout ≡ 30000)) ⊎ ((1 ≤ named) × (d.timeout ≡ named))

-- the framing extras by which this is required: none, or one requirement
abbrev pub IsRequired : List ℕ → Option Durability → Type 0
IsRequired framing None = framing ≡ []
IsRequired framing (Some d) = IsUntimed framing d ⊎ IsTimed framing d

-- a request of this opcode, of either magic, that requires this
pub record IsRequest (json : Bool) (f : Frame) (code : ℕ) (durable : Option Durability) : Type 0 where
  pub magic : (f.magic ≡ REQUEST) ⊎ (f.magic ≡ FRAMED_REQUEST)
  pub opcode : f.opcode ≡ code
  pub datatype : HasDatatype json f.datatype
  pub framing : IsRequired f.framing durable

-- a key, and neither extras nor a value
pub record IsKeyAlone (f : Frame) (asked : List ℕ) : Type 0 where
  pub extras : f.extras ≡ []
  pub key : f.key ≡ asked
  pub key_size : IsKey asked
  pub value : f.value ≡ []

-- GET asks for a key's document
pub record IsGet (json : Bool) (f : Frame) (asked : List ℕ) : Type 0 where
  pub header : IsRequest json f GET None
  pub parts : IsKeyAlone f asked

-- a document to be stored: as extras the flags and then the expiration, four big-endian bytes each, and a key and a value
pub record IsStore (json : Bool) (f : Frame) (code : ℕ) (write : Write) (durable : Option Durability) : Type 0 where
  pub header : IsRequest json f code durable
  pub flags : write.flags < 2 ^ 32
  pub expiration : write.expiry < 2 ^ 32
  pub extras : f.extras ≡ to_be_bytes w32 write.flags ++ to_be_bytes w32 write.expiry
  pub key : f.key ≡ write.key
  pub key_size : IsKey write.key
  pub value : f.value ≡ write.value
  pub value_size : IsValue write.value
  pub datatype : f.datatype ≡ write.datatype
  pub cas : f.cas ≡ write.cas

-- DELETE takes a key's document away
pub record IsRemoval (json : Bool) (f : Frame) (write : Write) (durable : Option Durability) : Type 0 where
  pub header : IsRequest json f DELETE durable
  pub parts : IsKeyAlone f write.key
  pub value : write.value ≡ []
  pub flags : write.flags ≡ 0
  pub expiration : write.expiry ≡ 0
  pub datatype : f.datatype ≡ write.datatype
  pub cas : f.cas ≡ write.cas

-- SET, ADD, REPLACE and DELETE; nothing that is to be added has a CAS
abbrev pub IsWrite : Bool → Frame → Op → Write → Option Durability → Type 0
IsWrite json f op.Set write durable = IsStore json f SET write durable
IsWrite json f op.Add write durable = IsStore json f ADD write durable × (write.cas ≡ 0)
IsWrite json f op.Replace write durable = IsStore json f REPLACE write durable
IsWrite json f op.Delete write durable = IsRemoval json f write durable

-- NOOP has no parts
pub record IsNoop (json : Bool) (f : Frame) : Type 0 where
  pub header : IsRequest json f NOOP None
  pub parts : HasNothing f

-- HELLO has a name, which may be empty, and as value the numbers of features, two big-endian bytes each
pub record IsHello (json : Bool) (f : Frame) (features : List Feature) : Type 0 where
  pub header : IsRequest json f HELLO None
  pub extras : f.extras ≡ []
  pub name : length f.key ≤ MAX_KEY
  pub codes : List ℕ
  pub numbers : All (λ code. code < 2 ^ 16) codes
  pub value : f.value ≡ code_bytes codes
  pub value_size : IsValue f.value
  pub accepts : features ≡ accepted f.value

-- the frame by which this is asked
abbrev pub IsCommand : Bool → Frame → KvRequest → Type 0
IsCommand json f (request.Get key) = IsGet json f key
IsCommand json f (request.Write write durable) = IsWrite json f write.op write durable
IsCommand json f request.Noop = IsNoop json f
IsCommand json f (request.Hello features) = IsHello json f features

-- a frame that is spelled as a command is read as that command
abbrev pub SpelledIsRead : Type 0
SpelledIsRead = (json : Bool) (f : Frame) (r : KvRequest) → IsCommand json f r → request_of json f ≡ Ok r

-- and a frame of bytes that is read as a command is spelled as it, unless it is a response
abbrev pub CommandIsSpelled : Type 0
CommandIsSpelled =
    (json : Bool) (f : Frame) (r : KvRequest) → Readable f → f.magic ≢ RESPONSE → AreBytes f.framing → AreBytes f.extras → AreBytes f.value
    → request_of json f ≡ Ok r → IsCommand json f r

-- key and value of a request are its frame's
abbrev pub HasPartsOf : Frame → KvRequest → Type 0
HasPartsOf f (request.Get key) = f.key ≡ key
HasPartsOf f (request.Write write durable) = (f.key ≡ write.key) × (f.value ≡ write.value)
HasPartsOf f request.Noop = f.value ≡ []
HasPartsOf f (request.Hello features) = features ≡ accepted f.value

-- what is read of a frame of bytes has numbers that fit, and the frame's key and value
abbrev pub ReadFits : Type 0
ReadFits =
    (json : Bool) (f : Frame) (r : KvRequest) → Readable f → AreBytes f.extras → request_of json f ≡ Ok r
    → RequestFits r × HasPartsOf f r

-- the timeout of a write that a frame of bytes requires is never 0, and has room in its field
abbrev pub TimeoutsFit : Type 0
TimeoutsFit =
    (json : Bool) (f : Frame) (write : Write) (d : Durability) → AreBytes f.framing → request_of json f ≡ Ok (request.Write write (Some d))
    → (0 < d.timeout) × (d.timeout < 2 ^ 16)
