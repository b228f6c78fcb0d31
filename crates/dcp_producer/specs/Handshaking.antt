-- what OPEN and CONTROL are answered, in the protocol's numbers
use Rattle.std.specs.Prelude.{ℕ, ◌≡◌, ◌≢◌, ◌==◌, ◌<◌, ◌≤◌, ◌^◌, ◌⊎◌, Bool, List, [], ◌∷◌, ◌++◌, length, codes, decimal}
use Rattle.std.specs.List.{list_any}
use Rattle.mcbp_frame.specs.declared.frame.Frame.{Frame}
use Rattle.mcbp_frame.specs.declared.frame.TheConstants.{RESPONSE}
use Rattle.mcbp_frame.specs.Spelling.{spelling}
use Rattle.mcbp_kv.specs.Answers.{IsBare}
use Rattle.mcbp_dcp.specs.declared.message.DcpMsg.{DcpMsg}
use Rattle.mcbp_dcp.specs.declared.message.DcpMsg.TheVariants as msg
use Rattle.vb_types.specs.declared.stream.StreamAsk.{StreamAsk}
use Rattle.vb_calls.specs.Programs.{Prog, Done}
use Rattle.dcp_producer.specs.declared.desk.Handshake.{Handshake}
use Rattle.dcp_producer.specs.declared.desk.Named.{Named}
use Rattle.dcp_producer.specs.declared.desk.Named.TheVariants as named
use Rattle.dcp_producer.specs.Producers.{Served}

-- a request is answered with a status alone and without any call, and what OPEN and CONTROL set, but for the window's size, is this then; nothing else changes
pub record Gets (code : ℕ) (shaken : Handshake) (f : Frame) (s : Served) (prog : Prog Served) : Type 0 where
  pub frame : Frame
  pub is : IsBare frame f.opcode code f.opaque
  pub answered : prog ≡ Done (record { end = record s.end { handshake = shaken }; events = s.events; out = s.out ++ spelling frame; count = s.count; resolved = s.resolved })

-- a request is answered with Success alone and without any call, and the window has this size then, with as much outstanding as before; nothing else changes
pub record Sizes (size : ℕ) (f : Frame) (s : Served) (prog : Prog Served) : Type 0 where
  pub frame : Frame
  pub is : IsBare frame f.opcode 0 f.opaque
  pub answered : prog ≡ Done (record { end = record s.end { window = record { size = size; outstanding = s.end.window.outstanding } }; events = s.events; out = s.out ++ spelling frame; count = s.count; resolved = s.resolved })

-- a consumer's name
abbrev pub IsName : List ℕ → Type 0
IsName value = (1 ≤ length value) × (length value ≤ 250)

-- a consumer gave its name
abbrev pub IsGiven : Named → Type 0
IsGiven name = (name ≡ named.Nobody) → ⊥

-- a window's size: the decimal of a number that fits 32 bits
abbrev pub IsSize : List ℕ → Type 0
IsSize value = (n : ℕ) × (n < 2 ^ 32) × (value ≡ decimal n)

-- the two words of a flag
abbrev pub IsFlag : List ℕ → Type 0
IsFlag value = (value ≡ codes "true") ⊎ (value ≡ codes "false")

-- the controls that are known, each with its values
abbrev pub IsKnown : List ℕ → List ℕ → Type 0
IsKnown key value =
    ((key ≡ codes "consumer_name") × IsName value) ⊎ ((key ≡ codes "enable_sync_writes") × IsFlag value) ⊎ ((key ≡ codes "connection_buffer_size") × IsSize value)
    ⊎ ((key ≡ codes "enable_noop") × IsFlag value) ⊎ ((key ≡ codes "set_noop_interval") × IsSize value)

-- the opcodes of DCP
abbrev pub opcodes : List ℕ
opcodes = 0x50 ∷ 0x52 ∷ 0x53 ∷ 0x54 ∷ 0x55 ∷ 0x56 ∷ 0x57 ∷ 0x58 ∷ 0x5b ∷ 0x5c ∷ 0x5d ∷ 0x5e ∷ 0x60 ∷ 0x61 ∷ 0x62 ∷ 0x63 ∷ []

-- an opcode that a producer takes no request of: neither OPEN, CLOSE_STREAM, STREAM_REQUEST, GET_FAILOVER_LOG, NOOP, BUFFER_ACKNOWLEDGEMENT, CONTROL nor SEQNO_ACKNOWLEDGED
pub record IsOther (opcode : ℕ) : Type 0 where
  pub opens : opcode ≢ 0x50
  pub closes : opcode ≢ 0x52
  pub asks : opcode ≢ 0x53
  pub log : opcode ≢ 0x54
  pub noop : opcode ≢ 0x5c
  pub bytes : opcode ≢ 0x5d
  pub control : opcode ≢ 0x5e
  pub seqno : opcode ≢ 0x61

-- a frame asks, and its opcode is one of DCP's or is none
abbrev pub Asks : Frame → Bool → Type 0
Asks f known = (f.magic ≢ RESPONSE) × (list_any (λ o. o == f.opcode) opcodes ≡ known)

-- a message that is not OPEN
abbrev pub IsNoOpen : DcpMsg → Type 0
IsNoOpen m = (number flags : ℕ) (name : List ℕ) → m ≡ msg.Open number flags name → ⊥

-- a message that is no request for a stream
abbrev pub IsNoRequest : DcpMsg → Type 0
IsNoRequest m = (ask : StreamAsk) → m ≡ msg.StreamRequest ask → ⊥
