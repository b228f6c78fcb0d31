-- what a change of role makes of a vBucket
use Rattle.std.specs.Prelude.{ℕ, ◌==◌, ◌&&◌, Bool, true, false, if◌then◌else◌, List, [], ◌∷◌, map, Option, Some, None, is_some}
use Rattle.std.specs.Option.{option_map}
use Rattle.vb_types.specs.declared.role.Role.{Role}
use Rattle.vb_types.specs.declared.role.Role.TheVariants as role
use Rattle.vb_types.specs.declared.role.LogEntry.{LogEntry}
use Rattle.vb_types.specs.declared.status.Status.{Status}
use Rattle.vb_types.specs.declared.status.Status.TheVariants as status
use Rattle.branch_model.specs.Logs.{front, with_entry}
use Rattle.branch_model.specs.Requests.{fork_of}
use Rattle.vb_calls.specs.declared.calls.VbAnswer.{VbAnswer}
use Rattle.vb_calls.specs.declared.calls.VbAnswer.TheVariants as answer
use Rattle.vb_calls.specs.declared.calls.VbReply.{VbReply}
use Rattle.vb_calls.specs.declared.stream.Stream.{Stream}
use Rattle.vb_calls.specs.State.{Plain, complete_position, image_in, is_active, quiet_reply, refusal_reply}
use Rattle.vb_calls.specs.Settling.{and_settled, given_up, left_prepares}
use Rattle.durability.specs.Outstanding.{no_acks}
use Rattle.vb_calls.specs.Following.{is_follower, log_lacks}
use Rattle.vb_calls.specs.Spans.{with_seal}
use Rattle.vb_calls.specs.Streams.{stream_at, without_stream}

-- the numbers of the open streams
abbrev pub stream_ids : List Stream → List ℕ
stream_ids streams = map (λ s. s.id) streams

-- a vBucket in another role, which feeds these streams: its open span is sealed, and it has no outstanding prepare, no acknowledgement, and a chain of its node alone
abbrev pub in_role_with : Plain → Role → List Stream → Plain
in_role_with vb new streams = record vb { role = new; spans = with_seal vb.spans; streams = streams; others = []; acks = no_acks; waiting = [] }

-- in another role, all its streams are ended
abbrev pub in_role : Plain → Role → Plain
in_role vb new = in_role_with vb new []

-- an answer that tells which streams were ended. Whether the durable writes stand that are waited for is not known any more
abbrev pub ending_reply : Plain → VbAnswer → VbReply
ending_reply vb said = record { answer = said; resolved = given_up vb.waiting; ended = stream_ids vb.streams; branch = 0; changes = [] }

-- the branch that the newest entry of a failover log names, if there is one
abbrev pub parent_of : List LogEntry → Option ℕ
parent_of log = option_map (λ e. e.uuid) (front log)

-- why a vBucket does not become active on this branch
abbrev pub promote_refusal : Plain → ℕ → Option Status
promote_refusal vb uuid =
    if is_active vb.role then Some status.NotMyVbucket
    else if uuid == 0 then Some status.Einval
    else if log_lacks vb.log uuid then None
    else Some status.Einval

-- a vBucket that becomes active keeps what it has, as a complete snapshot. The prepares that wait are to be committed again
abbrev pub risen : Plain → Plain
risen vb = record (in_role vb role.Active) { position = complete_position vb.position.at; waiting = left_prepares (image_in vb) }

-- on a new branch: it leaves its old one where its snapshot is whole, at its last seqno or at the snapshot's start
abbrev pub led : Plain → ℕ → Plain
led vb uuid = record (risen vb) { log = with_entry uuid (fork_of vb.position) vb.log }

-- a promotion that is refused changes nothing; once the vBucket is active, what may be committed is
abbrev pub promoted : Option Status → Plain → ℕ → Plain × VbReply
promoted (Some st) vb uuid = (vb, refusal_reply st)
promoted None vb uuid = and_settled (led vb uuid, ending_reply vb (answer.Branch uuid (parent_of vb.log) (fork_of vb.position) vb.position.at))

-- the vBucket becomes active, on a branch of its own
abbrev pub promote_row : Plain → ℕ → Plain × VbReply
promote_row vb uuid = promoted (promote_refusal vb uuid) vb uuid

-- whether two roles are one
abbrev pub is_role : Role → Role → Bool
is_role role.Active role.Active = true
is_role role.Replica role.Replica = true
is_role role.Pending role.Pending = true
is_role role.Dead role.Dead = true
is_role one other = false

-- the vBucket takes a role that it does not have yet, and keeps its position
abbrev pub turn_row : Plain → Role → Plain × VbReply
turn_row vb new =
    if is_role vb.role new then (vb, refusal_reply status.NotMyVbucket) else (in_role vb new, ending_reply vb answer.Done)

-- the vBucket is to take over from the one that it follows, and follows it still
abbrev pub pend_row : Plain → Plain × VbReply
pend_row vb = if is_follower vb.role then (in_role vb role.Pending, ending_reply vb answer.Done) else (vb, refusal_reply status.NotMyVbucket)

-- there is a branch that it is on, and it has the whole of a snapshot of it
abbrev pub is_heir : Plain → Bool
is_heir vb = is_some (front vb.log) && vb.position.at == vb.position.se

-- why a vBucket does not take over
abbrev pub own_refusal : Plain → Option Status
own_refusal vb = if is_role vb.role role.Pending then (if is_heir vb then None else Some status.Einval) else Some status.NotMyVbucket

-- a takeover that is refused changes nothing; once the vBucket is active, what may be committed is
abbrev pub owned : Option Status → Plain → Plain × VbReply
owned (Some st) vb = (vb, refusal_reply st)
owned None vb = and_settled (risen vb, ending_reply vb answer.Done)

-- the vBucket takes over from the one that it followed: it becomes active on the branch that it is on
abbrev pub own_row : Plain → Plain × VbReply
own_row vb = owned (own_refusal vb) vb

-- a vBucket that is given up for one of its streams, if that is open: it is dead, and goes on to feed this one
abbrev pub yielded : Option Stream → Plain → Plain × VbReply
yielded None vb = (vb, quiet_reply answer.Absent)
yielded (Some s) vb = (in_role_with vb role.Dead (s ∷ []), record (ending_reply vb answer.Done) { ended = stream_ids (without_stream s.id vb.streams) })

-- the vBucket is given up to the one that this stream feeds
abbrev pub yield_row : Plain → ℕ → Plain × VbReply
yield_row vb id = if is_active vb.role then yielded (stream_at id vb.streams) vb else (vb, refusal_reply status.NotMyVbucket)

-- the open span is sealed, and whether there was one
abbrev pub seal_row : Plain → Plain × VbReply
seal_row vb = (record vb { spans = with_seal vb.spans }, quiet_reply (answer.Flag (is_some vb.spans.current)))
