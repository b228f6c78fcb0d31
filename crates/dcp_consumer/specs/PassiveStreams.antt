-- what a stream's messages ask of the vBucket that follows
use Rattle.std.specs.Prelude.{ℕ, ◌==◌, Bool, true, false, if◌then◌else◌, List, [], Option, Some, None, Result, Ok}
use Rattle.std.specs.Option.{option_map}
use Rattle.mcbp_dcp.specs.declared.message.DcpMsg.{DcpMsg}
use Rattle.mcbp_dcp.specs.declared.message.DcpMsg.TheVariants as msg
use Rattle.mcbp_dcp.specs.declared.message.DcpFault.{DcpFault}
use Rattle.mcbp_dcp.specs.declared.message.Mutation.{Mutation}
use Rattle.mcbp_dcp.specs.declared.message.Deletion.{Deletion}
use Rattle.mcbp_dcp.specs.declared.message.Prepare.{Prepare}
use Rattle.mcbp_dcp.specs.declared.message.Resolution.{Resolution}
use Rattle.vb_types.specs.Levels.{level_of}
use Rattle.vb_types.specs.Limits.{key_of, value_of}
use Rattle.vb_types.specs.declared.change.Act.{Act}
use Rattle.vb_types.specs.declared.change.Act.TheVariants as act
use Rattle.vb_types.specs.declared.change.Level.{Level}
use Rattle.vb_types.specs.declared.change.Change.{Change}
use Rattle.vb_types.specs.declared.doc.Doc.{Doc}
use Rattle.vb_events.specs.declared.event.EndReason.{EndReason}
use Rattle.vb_events.specs.declared.event.EndReason.TheVariants as reason
use Rattle.vb_calls.specs.declared.calls.VbCall.{VbCall}
use Rattle.vb_calls.specs.declared.calls.VbCall.TheVariants as call
use Rattle.dcp_consumer.specs.declared.passive_stream.Passive.{Passive}
use Rattle.dcp_consumer.specs.declared.passive_stream.Passive.TheVariants as passive

-- the document of a mutation, with a value within its limit
abbrev pub mutation_doc : Mutation → List ℕ → Doc
mutation_doc m value = record { value = value; cas = m.cas; rev = m.rev; flags = m.flags; expiry = m.expiry; datatype = m.datatype }

-- the change that a mutation is, where key and value are within their limits
abbrev pub set_change : Mutation → Option (List ℕ) → Option (List ℕ) → Option Change
set_change m (Some key) (Some value) = Some (record { seq = m.seq; key = key; act = act.Set (mutation_doc m value) })
set_change m key value = None

-- the change that a deletion is, with a key within its limit
abbrev pub remove_change : Deletion → List ℕ → Change
remove_change d key = record { seq = d.seq; key = key; act = act.Remove d.cas d.rev }

-- the flag of a byte, if it is one
abbrev pub flag_of : ℕ → Option Bool
flag_of n = if n == 0 then Some false else if n == 1 then Some true else None

-- the document of a prepare, with a value within its limit
abbrev pub prepare_doc : Prepare → List ℕ → Doc
prepare_doc p value = record { value = value; cas = p.cas; rev = p.rev; flags = p.flags; expiry = p.expiry; datatype = p.datatype }

-- the change that a prepare is, where key and value are within their limits, and level and flag are such
abbrev pub prepare_change : Prepare → Option (List ℕ) → Option (List ℕ) → Option Level → Option Bool → Option Change
prepare_change p (Some key) (Some value) (Some level) (Some deleted) = Some (record { seq = p.seq; key = key; act = act.Prepare level (prepare_doc p value) deleted })
prepare_change p key value level deleted = None

-- the empty document, which stands in a commit until its vBucket puts the prepare's there
abbrev pub no_doc : Doc
no_doc = record { value = []; cas = 0; rev = 0; flags = 0; expiry = 0; datatype = 0 }

-- a commit of the prepare with this seqno
abbrev pub commit_act : ℕ → Act
commit_act prepared = act.Commit prepared no_doc false

-- the change that ends a durable write by this act, with a key within its limit
abbrev pub resolved_change : Resolution → Act → List ℕ → Change
resolved_change r a key = record { seq = r.seq; key = key; act = a }

-- the call that a stream's message makes, if it is one of those that a stream has and its parts are those of a change
unfoldable pub call_of_message : DcpMsg → Option VbCall
call_of_message (msg.SnapshotMarker start end flags) = Some (call.Marker start end)
call_of_message (msg.Mutation m) = option_map call.Receive (set_change m (key_of m.key) (value_of m.value))
call_of_message (msg.Deletion d) = option_map call.Receive (option_map (remove_change d) (key_of d.key))
call_of_message (msg.Prepare p) = option_map call.Receive (prepare_change p (key_of p.key) (value_of p.value) (level_of p.level) (flag_of p.deleted))
call_of_message (msg.Commit r) = option_map call.Receive (option_map (resolved_change r (commit_act r.prepared)) (key_of r.key))
call_of_message (msg.Abort r) = option_map call.Receive (option_map (resolved_change r (act.Abort r.prepared)) (key_of r.key))
call_of_message other = None

-- why a link ends with its stream: the stream reached its end, or its producer's vBucket changed its role
abbrev pub end_reason : ℕ → EndReason
end_reason why = if why == 0 then reason.Done else reason.State

-- a call, or a message that makes none
abbrev pub called : Option VbCall → Passive
called None = passive.Protocol
called (Some c) = passive.Call c

-- what a stream's message comes to: its end, a call to the vBucket, or what no stream has
abbrev pub passive_of : DcpMsg → Passive
passive_of (msg.StreamEnd why) = passive.End (end_reason why)
passive_of m = called (call_of_message m)

-- what the message of a frame comes to, by what was read of the frame
abbrev pub passive_read : Option (Result DcpMsg DcpFault) → Passive
passive_read (Some (Ok m)) = passive_of m
passive_read other = passive.Protocol
