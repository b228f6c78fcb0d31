-- which numbers the fields of a message hold, and what of a frame is not read
use Rattle.std.specs.Prelude.{◌≡◌, ◌≢◌, ◌↔◌, ◌⊎◌, ℕ, ◌+◌, ◌*◌, ◌%◌, ◌^◌, ◌<◌, ◌≤◌, ◌==◌, if◌then◌else◌, List, [], ◌∷◌, ◌++◌, length, slice_index, Some, None, Err}
use Rattle.std.specs.List.{All}
use Rattle.vb_types.specs.declared.stream.StreamAsk.{StreamAsk}
use Rattle.vb_types.specs.declared.role.LogEntry.{LogEntry}
use Rattle.mcbp_frame.specs.declared.frame.Frame.{Frame}
use Rattle.mcbp_frame.specs.declared.frame.TheConstants.{REQUEST, RESPONSE, HEADER_LEN}
use Rattle.mcbp_frame.specs.Frames.{big_16_at, part}
use Rattle.mcbp_dcp.specs.declared.row.DcpRow.{DcpRow}
use Rattle.mcbp_dcp.specs.declared.row.DcpRow.TheVariants as row
use Rattle.mcbp_dcp.specs.declared.message.DcpMsg.{DcpMsg}
use Rattle.mcbp_dcp.specs.declared.message.DcpMsg.TheVariants as msg
use Rattle.mcbp_dcp.specs.declared.message.DcpFault.TheVariants.{WrongExtras, WrongKey, WrongValue}
use Rattle.mcbp_dcp.specs.declared.message.Mutation.{Mutation}
use Rattle.mcbp_dcp.specs.declared.message.Deletion.{Deletion}
use Rattle.mcbp_dcp.specs.declared.message.Prepare.{Prepare}
use Rattle.mcbp_dcp.specs.declared.message.Resolution.{Resolution}
use Rattle.mcbp_dcp.specs.declared.message.StreamVerdict.{StreamVerdict}
use Rattle.mcbp_dcp.specs.declared.message.StreamVerdict.TheVariants as told
use Rattle.mcbp_dcp.specs.declared.shape.TheConstants.{ENTRY_LEN}
use Rattle.mcbp_dcp.specs.Messages.{read_of}
use Rattle.mcbp_dcp.specs.Shapes.{extras_size}

-- numbers of the fields of a request for a stream
pub record AskInRange (ask : StreamAsk) : Type 0 where
  pub flags : ask.flags < 2 ^ 32
  pub start : ask.start < 2 ^ 64
  pub end : ask.end < 2 ^ 64
  pub uuid : ask.uuid < 2 ^ 64
  pub ss : ask.ss < 2 ^ 64
  pub se : ask.se < 2 ^ 64

-- of a mutation
pub record MutationInRange (m : Mutation) : Type 0 where
  pub seq : m.seq < 2 ^ 64
  pub rev : m.rev < 2 ^ 64
  pub cas : m.cas < 2 ^ 64
  pub flags : m.flags < 2 ^ 32
  pub expiry : m.expiry < 2 ^ 32

-- of a deletion
pub record DeletionInRange (d : Deletion) : Type 0 where
  pub seq : d.seq < 2 ^ 64
  pub rev : d.rev < 2 ^ 64
  pub cas : d.cas < 2 ^ 64

-- of a prepare
pub record PrepareInRange (p : Prepare) : Type 0 where
  pub seq : p.seq < 2 ^ 64
  pub rev : p.rev < 2 ^ 64
  pub cas : p.cas < 2 ^ 64
  pub flags : p.flags < 2 ^ 32
  pub expiry : p.expiry < 2 ^ 32

-- of a commit or an abort
pub record ResolutionInRange (r : Resolution) : Type 0 where
  pub prepared : r.prepared < 2 ^ 64
  pub seq : r.seq < 2 ^ 64

-- of a log's entry
pub record EntryInRange (e : LogEntry) : Type 0 where
  pub uuid : e.uuid < 2 ^ 64
  pub seq : e.seq < 2 ^ 64

-- of an answer to a request for a stream
abbrev pub VerdictInRange : StreamVerdict → Type 0
VerdictInRange (told.Go log) = All EntryInRange log
VerdictInRange (told.Roll point) = point < 2 ^ 64
VerdictInRange (told.Refused status) = status < 2 ^ 16

-- each number of a message fits its field
abbrev pub InRange : DcpMsg → Type 0
InRange (msg.Open number flags name) = (number < 2 ^ 32) × (flags < 2 ^ 32)
InRange (msg.Control key value) = Unit {0}
InRange (msg.StreamRequest ask) = AskInRange ask
InRange (msg.StreamEnd reason) = reason < 2 ^ 32
InRange (msg.SnapshotMarker start end flags) = (start < 2 ^ 64) × (end < 2 ^ 64) × (flags < 2 ^ 32)
InRange (msg.Mutation change) = MutationInRange change
InRange (msg.Deletion change) = DeletionInRange change
InRange (msg.Prepare change) = PrepareInRange change
InRange (msg.Commit change) = ResolutionInRange change
InRange (msg.Abort change) = ResolutionInRange change
InRange (msg.SeqnoAcknowledged seq) = seq < 2 ^ 64
InRange msg.CloseStream = Unit {0}
InRange msg.GetFailoverLog = Unit {0}
InRange msg.Noop = Unit {0}
InRange (msg.BufferAcknowledgement bytes) = bytes < 2 ^ 32
InRange (msg.SetVbucketState role) = Unit {0}
InRange (msg.OpenAnswer status) = status < 2 ^ 16
InRange (msg.ControlAnswer status) = status < 2 ^ 16
InRange (msg.StreamAnswer told) = VerdictInRange told
InRange (msg.CloseAnswer status) = status < 2 ^ 16
InRange (msg.NoopAnswer status) = status < 2 ^ 16
InRange (msg.LogAnswer status log) = (status < 2 ^ 16) × All EntryInRange log
InRange (msg.StateAnswer status) = status < 2 ^ 16

-- extras with 0 in the fields that are not read: a request's reserved field, the lock time and nru of a mutation, between which no metadata stand, and those of a prepare
abbrev pub extras_read : DcpRow → List ℕ → List ℕ
extras_read row.Open extras = extras
extras_read row.Control extras = extras
extras_read row.StreamRequest extras = part extras 0 4 ++ 0 ∷ 0 ∷ 0 ∷ 0 ∷ [] ++ part extras 8 40
extras_read row.StreamEnd extras = extras
extras_read row.SnapshotMarker extras = extras
extras_read row.Mutation extras = part extras 0 24 ++ 0 ∷ 0 ∷ 0 ∷ 0 ∷ 0 ∷ 0 ∷ 0 ∷ []
extras_read row.Deletion extras = extras
extras_read row.Prepare extras = part extras 0 24 ++ 0 ∷ 0 ∷ 0 ∷ 0 ∷ 0 ∷ [] ++ part extras 29 2
extras_read row.Commit extras = extras
extras_read row.Abort extras = extras
extras_read row.SeqnoAcknowledged extras = extras
extras_read row.CloseStream extras = extras
extras_read row.GetFailoverLog extras = extras
extras_read row.Noop extras = extras
extras_read row.BufferAcknowledgement extras = extras
extras_read row.SetVbucketState extras = extras
extras_read row.OpenAnswer extras = extras
extras_read row.ControlAnswer extras = extras
extras_read row.StreamAnswer extras = extras
extras_read row.CloseAnswer extras = extras
extras_read row.NoopAnswer extras = extras
extras_read row.LogAnswer extras = extras
extras_read row.StateAnswer extras = extras

-- the datatype of mutations and prepares is read, and that of no other row
abbrev pub datatype_read : DcpRow → ℕ → ℕ
datatype_read row.Open datatype = 0
datatype_read row.Control datatype = 0
datatype_read row.StreamRequest datatype = 0
datatype_read row.StreamEnd datatype = 0
datatype_read row.SnapshotMarker datatype = 0
datatype_read row.Mutation datatype = datatype
datatype_read row.Deletion datatype = 0
datatype_read row.Prepare datatype = datatype
datatype_read row.Commit datatype = 0
datatype_read row.Abort datatype = 0
datatype_read row.SeqnoAcknowledged datatype = 0
datatype_read row.CloseStream datatype = 0
datatype_read row.GetFailoverLog datatype = 0
datatype_read row.Noop datatype = 0
datatype_read row.BufferAcknowledgement datatype = 0
datatype_read row.SetVbucketState datatype = 0
datatype_read row.OpenAnswer datatype = 0
datatype_read row.ControlAnswer datatype = 0
datatype_read row.StreamAnswer datatype = 0
datatype_read row.CloseAnswer datatype = 0
datatype_read row.NoopAnswer datatype = 0
datatype_read row.LogAnswer datatype = 0
datatype_read row.StateAnswer datatype = 0

-- the CAS of mutations, deletions and prepares
abbrev pub cas_read : DcpRow → ℕ → ℕ
cas_read row.Open cas = 0
cas_read row.Control cas = 0
cas_read row.StreamRequest cas = 0
cas_read row.StreamEnd cas = 0
cas_read row.SnapshotMarker cas = 0
cas_read row.Mutation cas = cas
cas_read row.Deletion cas = cas
cas_read row.Prepare cas = cas
cas_read row.Commit cas = 0
cas_read row.Abort cas = 0
cas_read row.SeqnoAcknowledged cas = 0
cas_read row.CloseStream cas = 0
cas_read row.GetFailoverLog cas = 0
cas_read row.Noop cas = 0
cas_read row.BufferAcknowledgement cas = 0
cas_read row.SetVbucketState cas = 0
cas_read row.OpenAnswer cas = 0
cas_read row.ControlAnswer cas = 0
cas_read row.StreamAnswer cas = 0
cas_read row.CloseAnswer cas = 0
cas_read row.NoopAnswer cas = 0
cas_read row.LogAnswer cas = 0
cas_read row.StateAnswer cas = 0

-- a frame with 0 in all that its row does not use, and a message's magic where it is no answer
abbrev pub frame_read : DcpRow → Frame → Frame
frame_read row f = record f {
  magic = if f.magic == RESPONSE then RESPONSE else REQUEST;
  datatype = datatype_read row f.datatype;
  cas = cas_read row f.cas;
  extras = extras_read row f.extras;
}

-- a frame has this opcode, and extras of this length
abbrev pub Carries : Frame → ℕ → ℕ → Type 0
Carries f opcode len = (f.opcode ≡ opcode) × (length f.extras ≡ len)

-- extras that no message of this opcode has: its frame has framing extras, or extras of another length than `len`, or the two bytes at this place, which say how long metadata are, are not 0
abbrev pub HasOtherExtras : Frame → ℕ → ℕ → Type 0
HasOtherExtras f len at = (f.framing ≢ []) ⊎ ((length f.extras ≢ len) ⊎ (big_16_at f.extras at ≢ 0))

-- the frames of this opcode that are no answers are WrongExtras exactly where they have such
abbrev pub RefusesExtras : ℕ → ℕ → ℕ → Type 0
RefusesExtras opcode len at = (f : Frame) → f.opcode ≡ opcode → f.magic ≢ RESPONSE → (read_of f ≡ Some (Err WrongExtras)) ↔ HasOtherExtras f len at

-- no framing extras, and extras of this length
abbrev pub HasExtras : Frame → ℕ → Type 0
HasExtras f len = (f.framing ≡ []) × (length f.extras ≡ len)

-- the frames of this opcode that are no answers are WrongExtras exactly where they have framing extras, or extras of another length
abbrev pub RefusesLengths : ℕ → ℕ → Type 0
RefusesLengths opcode len =
    (f : Frame) → f.opcode ≡ opcode → f.magic ≢ RESPONSE → (read_of f ≡ Some (Err WrongExtras)) ↔ ((f.framing ≢ []) ⊎ (length f.extras ≢ len))

-- the frames of this opcode that are no answers are WrongValue exactly where they have such extras, and a value
abbrev pub RefusesValues : ℕ → ℕ → Type 0
RefusesValues opcode len = (f : Frame) → f.opcode ≡ opcode → f.magic ≢ RESPONSE → (read_of f ≡ Some (Err WrongValue)) ↔ (HasExtras f len × (f.value ≢ []))

-- a PREPARE is WrongValue exactly where it has a value and the byte at 29 of its extras is 1, which says that it is of a removal
abbrev pub RefusesValuesOfRemovals : Type 0
RefusesValuesOfRemovals =
    (f : Frame) → f.opcode ≡ 0x60 → f.magic ≢ RESPONSE → (read_of f ≡ Some (Err WrongValue)) ↔ (HasExtras f 31 × (slice_index f.extras 29 ≡ 1) × (f.value ≢ []))

-- a SEQNO_ACKNOWLEDGED is WrongKey exactly where it has a key, and WrongValue where it has a value and no key
abbrev pub AcknowledgesBare : Type 0
AcknowledgesBare = (f : Frame) → f.opcode ≡ 0x61 → f.magic ≢ RESPONSE
    → ((read_of f ≡ Some (Err WrongKey)) ↔ (HasExtras f 8 × (f.key ≢ []))) × ((read_of f ≡ Some (Err WrongValue)) ↔ (HasExtras f 8 × (f.key ≡ []) × (f.value ≢ [])))

-- the frames of this opcode that are no answers are WrongKey exactly where they have such extras and a key, and WrongValue where they have a value and no key
abbrev pub RefusesBodies : ℕ → ℕ → Type 0
RefusesBodies opcode len = (f : Frame) → f.opcode ≡ opcode → f.magic ≢ RESPONSE
    → ((read_of f ≡ Some (Err WrongKey)) ↔ (HasExtras f len × (f.key ≢ []))) × ((read_of f ≡ Some (Err WrongValue)) ↔ (HasExtras f len × (f.key ≡ []) × (f.value ≢ [])))

-- extras that name a role: 1 active, 2 replica, 3 pending, 4 dead
abbrev pub NamesRole : Frame → Type 0
NamesRole f = HasExtras f 1 × (1 ≤ slice_index f.extras 0) × (slice_index f.extras 0 ≤ 4)

-- a SET_VBUCKET_STATE is WrongExtras exactly where it has framing extras, or extras of another length than 1, or their byte is 0 or above 4
abbrev pub RefusesOtherRoles : Type 0
RefusesOtherRoles = (f : Frame) → f.opcode ≡ 0x5b → f.magic ≢ RESPONSE
    → (read_of f ≡ Some (Err WrongExtras)) ↔ ((f.framing ≢ []) ⊎ ((length f.extras ≢ 1) ⊎ ((slice_index f.extras 0 ≡ 0) ⊎ (4 < slice_index f.extras 0))))

-- a SET_VBUCKET_STATE that names a role is WrongKey exactly where it has a key, and WrongValue where it has a value and no key
abbrev pub NamesRoleAlone : Type 0
NamesRoleAlone = (f : Frame) → f.opcode ≡ 0x5b → f.magic ≢ RESPONSE
    → ((read_of f ≡ Some (Err WrongKey)) ↔ (NamesRole f × (f.key ≢ []))) × ((read_of f ≡ Some (Err WrongValue)) ↔ (NamesRole f × (f.key ≡ []) × (f.value ≢ [])))

-- the answers of this opcode are WrongExtras exactly where they have framing extras or extras, and WrongKey where they have neither and a key
abbrev pub RefusesAnswers : ℕ → Type 0
RefusesAnswers opcode = (f : Frame) → f.opcode ≡ opcode → f.magic ≡ RESPONSE
    → ((read_of f ≡ Some (Err WrongExtras)) ↔ ((f.framing ≢ []) ⊎ (length f.extras ≢ 0))) × ((read_of f ≡ Some (Err WrongKey)) ↔ (HasExtras f 0 × (f.key ≢ [])))

-- the answers of this opcode are WrongValue exactly where they have a value and nothing before it
abbrev pub RefusesValuesOfAnswers : ℕ → Type 0
RefusesValuesOfAnswers opcode = (f : Frame) → f.opcode ≡ opcode → f.magic ≡ RESPONSE
    → (read_of f ≡ Some (Err WrongValue)) ↔ (HasExtras f 0 × (f.key ≡ []) × (f.value ≢ []))

-- no log is these bytes: they are not 16 an entry, or they are there without Success
abbrev pub IsNoLog : ℕ → List ℕ → Type 0
IsNoLog status value = ((status ≡ 0) × (length value % 16 ≢ 0)) ⊎ ((status ≢ 0) × (value ≢ []))

-- an answer to GET_FAILOVER_LOG is WrongValue exactly where its value is no log, and nothing stands before it
abbrev pub RefusesOtherLogs : Type 0
RefusesOtherLogs = (f : Frame) → f.opcode ≡ 0x54 → f.magic ≡ RESPONSE
    → (read_of f ≡ Some (Err WrongValue)) ↔ (HasExtras f 0 × (f.key ≡ []) × IsNoLog f.vb_or_status f.value)

-- an answer of this opcode has no row
abbrev pub HasNoAnswer : ℕ → Type 0
HasNoAnswer opcode = (f : Frame) → f.opcode ≡ opcode → f.magic ≡ RESPONSE → read_of f ≡ None

-- how long the answer to a request for a stream is as bytes
abbrev pub verdict_len : StreamVerdict → ℕ
verdict_len (told.Go log) = HEADER_LEN + ENTRY_LEN * length log
verdict_len (told.Roll point) = HEADER_LEN + 8
verdict_len (told.Refused status) = HEADER_LEN

-- how long a message is as bytes
abbrev pub dcp_len : DcpMsg → ℕ
dcp_len (msg.Open number flags name) = HEADER_LEN + extras_size row.Open + length name
dcp_len (msg.Control key value) = HEADER_LEN + length key + length value
dcp_len (msg.StreamRequest ask) = HEADER_LEN + extras_size row.StreamRequest
dcp_len (msg.StreamEnd reason) = HEADER_LEN + extras_size row.StreamEnd
dcp_len (msg.SnapshotMarker start end flags) = HEADER_LEN + extras_size row.SnapshotMarker
dcp_len (msg.Mutation change) = HEADER_LEN + extras_size row.Mutation + length change.key + length change.value
dcp_len (msg.Deletion change) = HEADER_LEN + extras_size row.Deletion + length change.key
dcp_len (msg.Prepare change) = HEADER_LEN + extras_size row.Prepare + length change.key + length change.value
dcp_len (msg.Commit change) = HEADER_LEN + extras_size row.Commit + length change.key
dcp_len (msg.Abort change) = HEADER_LEN + extras_size row.Abort + length change.key
dcp_len (msg.SeqnoAcknowledged seq) = HEADER_LEN + extras_size row.SeqnoAcknowledged
dcp_len msg.CloseStream = HEADER_LEN
dcp_len msg.GetFailoverLog = HEADER_LEN
dcp_len msg.Noop = HEADER_LEN
dcp_len (msg.BufferAcknowledgement bytes) = HEADER_LEN + extras_size row.BufferAcknowledgement
dcp_len (msg.SetVbucketState role) = HEADER_LEN + extras_size row.SetVbucketState
dcp_len (msg.OpenAnswer status) = HEADER_LEN
dcp_len (msg.ControlAnswer status) = HEADER_LEN
dcp_len (msg.StreamAnswer told) = verdict_len told
dcp_len (msg.CloseAnswer status) = HEADER_LEN
dcp_len (msg.NoopAnswer status) = HEADER_LEN
dcp_len (msg.LogAnswer status log) = HEADER_LEN + ENTRY_LEN * length log
dcp_len (msg.StateAnswer status) = HEADER_LEN
