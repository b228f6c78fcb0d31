-- which messages of durable writes are taken in, and as which changes
use Rattle.std.specs.Prelude.{◌≡◌, ℕ, ◌<◌, ◌⊎◌, Bool, true, false, List, [], ◌∷◌, ◌++◌, Some, Ok}
use Rattle.mcbp_frame.specs.declared.frame.Frame.{Frame}
use Rattle.mcbp_frame.specs.Frames.{first_frame}
use Rattle.mcbp_dcp.specs.declared.message.Deletion.{Deletion}
use Rattle.mcbp_dcp.specs.declared.message.Mutation.{Mutation}
use Rattle.mcbp_dcp.specs.declared.message.Prepare.{Prepare}
use Rattle.mcbp_dcp.specs.declared.message.Resolution.{Resolution}
use Rattle.mcbp_dcp.specs.DurableRows.{middle, some_cas, some_key, some_value, two_numbers}
use Rattle.mcbp_dcp.specs.MessageRows.{four_bytes, four_others, no_four}
use Rattle.vb_types.specs.Levels.{level_number}
use Rattle.mcbp_dcp.specs.Messages.{read_of}
use Rattle.vb_types.specs.Limits.{IsKey, IsValue}
use Rattle.vb_types.specs.declared.change.Act.{Act}
use Rattle.vb_types.specs.declared.change.Act.TheVariants as act
use Rattle.vb_types.specs.declared.change.Change.{Change}
use Rattle.vb_types.specs.declared.change.Level.{Level}
use Rattle.vb_types.specs.declared.doc.Doc.{Doc}
use Rattle.vb_calls.specs.declared.calls.VbCall.TheVariants as call
use Rattle.dcp_consumer.specs.PassiveStreams.{passive_read}
use Rattle.dcp_consumer.specs.declared.passive_stream.Passive.{Passive}
use Rattle.dcp_consumer.specs.declared.passive_stream.Passive.TheVariants as passive

-- a flag and its number
abbrev pub IsFlag : Bool → ℕ → Type 0
IsFlag false n = n ≡ 0
IsFlag true n = n ≡ 1

-- the change that a prepare is: with the document of its fields, the level of its number and its flag
pub record IsPrepared (p : Prepare) (c : Change) : Type 0 where
  pub level : Level
  pub deleted : Bool
  pub change : c ≡ record {
    seq = p.seq;
    key = p.key;
    act = act.Prepare level (record { value = p.value; cas = p.cas; rev = p.rev; flags = p.flags; expiry = p.expiry; datatype = p.datatype }) deleted;
  }
  pub key : IsKey p.key
  pub value : IsValue p.value
  pub numbered : p.level ≡ level_number level
  pub flagged : IsFlag deleted p.deleted

-- key, value, level or flag of a prepare is none that a change can have
abbrev pub IsUnfit : Prepare → Type 0
IsUnfit p = (IsKey p.key → ⊥) ⊎ ((IsValue p.value → ⊥) ⊎ (((p.level < 1) ⊎ (3 < p.level)) ⊎ (1 < p.deleted)))

-- the change that a commit or an abort is, with this act
abbrev pub IsResolved : Resolution → Act → Change → Type 0
IsResolved r a c = IsKey r.key × (c ≡ record { seq = r.seq; key = r.key; act = a })

-- the act of a commit: that of the prepare with this seqno, whose document the vBucket has; an empty one stands for it
abbrev pub committed : ℕ → Act
committed prepared = act.Commit prepared (record { value = []; cas = 0; rev = 0; flags = 0; expiry = 0; datatype = 0 }) false

-- the message that these bytes begin with comes to this
abbrev pub BytesCome : List ℕ → Passive → Type 0
BytesCome bytes p = (f : Frame) × (first_frame bytes ≡ Some (Ok f)) × (passive_read (read_of f) ≡ p)

-- a change of these numbers is taken in
abbrev pub durable_call : ℕ → Act → Passive
durable_call seq a = passive.Call (call.Receive (record { seq = seq; key = some_key; act = a }))

abbrev pub durable_doc : List ℕ → Doc
durable_doc value = record { value = value; cas = 0x3132333435363738; rev = 0x2122232425262728; flags = 0x01020304; expiry = 0x05060708; datatype = 0x01 }

-- the change that a mutation is: with the document of its fields, all bits of them
pub record IsStored (m : Mutation) (c : Change) : Type 0 where
  pub key : IsKey m.key
  pub value : IsValue m.value
  pub change : c ≡ record {
    seq = m.seq;
    key = m.key;
    act = act.Set (record { value = m.value; cas = m.cas; rev = m.rev; flags = m.flags; expiry = m.expiry; datatype = m.datatype });
  }

-- the change that a deletion is, with the removal's own CAS and revision
abbrev pub IsRemoved : Deletion → Change → Type 0
IsRemoved d c = IsKey d.key × (c ≡ record { seq = d.seq; key = d.key; act = act.Remove d.cas d.rev })

-- a MUTATION of those numbers with this datatype, byte by byte
abbrev pub typed_bytes : ℕ → List ℕ
typed_bytes datatype =
    0x80 ∷ 0x57 ∷ 0x00 ∷ 0x03 ∷ 0x1f ∷ datatype ∷ middle 0x27 ++ some_cas ++ two_numbers ++ four_bytes ++ four_others ++ no_four ++ 0x00 ∷ 0x00 ∷ 0x00 ∷ some_key
    ++ some_value

-- the change that it is: all bits of the datatype are the document's
abbrev pub typed_call : ℕ → Passive
typed_call datatype = durable_call 0x1112131415161718 (act.Set (record (durable_doc some_value) { datatype = datatype }))
