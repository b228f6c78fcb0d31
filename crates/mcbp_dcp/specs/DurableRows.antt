-- the messages of durable writes in numbers, byte by byte
use Rattle.std.specs.Prelude.{◌≡◌, ℕ, List, [], ◌∷◌, ◌++◌, Some, Ok}
use Rattle.mcbp_frame.specs.declared.frame.Frame.{Frame}
use Rattle.mcbp_frame.specs.Frames.{first_frame}
use Rattle.mcbp_frame.specs.Spelling.{spelling}
use Rattle.mcbp_dcp.specs.declared.message.DcpMsg.{DcpMsg}
use Rattle.mcbp_dcp.specs.declared.message.DcpMsg.TheVariants as msg
use Rattle.mcbp_dcp.specs.declared.message.Resolution.{Resolution}
use Rattle.mcbp_dcp.specs.Messages.{read_of}
use Rattle.mcbp_dcp.specs.DcpFrames.{dcp_frame}

-- bytes begin with a frame that says this
abbrev pub IsReadAs : List ℕ → DcpMsg → Type 0
IsReadAs bytes m = (f : Frame) × (first_frame bytes ≡ Some (Ok f)) × (read_of f ≡ Some (Ok m))

-- a message is written as these bytes, with the opaque 0x0a0b0c0d and for the vBucket 0x0102, and read from them
abbrev pub IsWrittenAs : DcpMsg → List ℕ → Type 0
IsWrittenAs m bytes = (spelling (dcp_frame m 0x0a0b0c0d 0x0102) ≡ bytes) × IsReadAs bytes m

-- what stands between the lengths and the CAS: the vBucket, then the length of the body, one byte long here, and the opaque
abbrev pub middle : ℕ → List ℕ
middle body = 0x01 ∷ 0x02 ∷ 0x00 ∷ 0x00 ∷ 0x00 ∷ body ∷ 0x0a ∷ 0x0b ∷ 0x0c ∷ 0x0d ∷ []

-- a header's CAS that says nothing, and one that does
abbrev pub no_cas : List ℕ
no_cas = 0x00 ∷ 0x00 ∷ 0x00 ∷ 0x00 ∷ 0x00 ∷ 0x00 ∷ 0x00 ∷ 0x00 ∷ []

abbrev pub some_cas : List ℕ
some_cas = 0x31 ∷ 0x32 ∷ 0x33 ∷ 0x34 ∷ 0x35 ∷ 0x36 ∷ 0x37 ∷ 0x38 ∷ []

-- two numbers of eight bytes
abbrev pub two_numbers : List ℕ
two_numbers = 0x11 ∷ 0x12 ∷ 0x13 ∷ 0x14 ∷ 0x15 ∷ 0x16 ∷ 0x17 ∷ 0x18 ∷ 0x21 ∷ 0x22 ∷ 0x23 ∷ 0x24 ∷ 0x25 ∷ 0x26 ∷ 0x27 ∷ 0x28 ∷ []

-- a key, and a value
abbrev pub some_key : List ℕ
some_key = 0x6b ∷ 0x65 ∷ 0x79 ∷ []

abbrev pub some_value : List ℕ
some_value = 0x76 ∷ 0x61 ∷ 0x6c ∷ 0x75 ∷ 0x65 ∷ []

-- a prepare with these two bytes and this value; no two of its other fields are alike
abbrev pub prepare_row : ℕ → ℕ → List ℕ → DcpMsg
prepare_row deleted level value = msg.Prepare (record {
  seq = 0x1112131415161718;
  rev = 0x2122232425262728;
  cas = 0x3132333435363738;
  flags = 0x01020304;
  expiry = 0x05060708;
  datatype = 0x01;
  deleted = deleted;
  level = level;
  key = some_key;
  value = value;
})

-- its bytes, with a body of this length: the datatype stands in the header, and the CAS; then seqno and revision, flags, expiration, these five bytes of lock time and nru, `deleted` and level
abbrev pub prepare_bytes : ℕ → List ℕ → ℕ → ℕ → List ℕ → List ℕ
prepare_bytes body passed deleted level value =
    0x80 ∷ 0x60 ∷ 0x00 ∷ 0x03 ∷ 0x1f ∷ 0x01 ∷ middle body ++ some_cas ++ two_numbers ++ 0x01 ∷ 0x02 ∷ 0x03 ∷ 0x04 ∷ 0x05 ∷ 0x06 ∷ 0x07 ∷ 0x08 ∷ passed
    ++ deleted ∷ level ∷ some_key ++ value

-- no lock time and no nru, and some
abbrev pub no_times : List ℕ
no_times = 0x00 ∷ 0x00 ∷ 0x00 ∷ 0x00 ∷ 0x00 ∷ []

abbrev pub some_times : List ℕ
some_times = 0x61 ∷ 0x62 ∷ 0x63 ∷ 0x64 ∷ 0x65 ∷ []

-- a commit or an abort
abbrev pub resolution_row : Resolution
resolution_row = record { prepared = 0x1112131415161718; seq = 0x2122232425262728; key = some_key }

-- its bytes, with this opcode, datatype and CAS
abbrev pub resolution_bytes : ℕ → ℕ → List ℕ → List ℕ
resolution_bytes opcode datatype cas = 0x80 ∷ opcode ∷ 0x00 ∷ 0x03 ∷ 0x10 ∷ datatype ∷ middle 0x13 ++ cas ++ two_numbers ++ some_key

-- an acknowledgement's bytes
abbrev pub acknowledged_bytes : List ℕ
acknowledged_bytes = 0x80 ∷ 0x61 ∷ 0x00 ∷ 0x00 ∷ 0x08 ∷ 0x00 ∷ middle 0x08 ++ no_cas ++ 0x11 ∷ 0x12 ∷ 0x13 ∷ 0x14 ∷ 0x15 ∷ 0x16 ∷ 0x17 ∷ 0x18 ∷ []
