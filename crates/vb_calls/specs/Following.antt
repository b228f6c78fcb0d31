-- what a vBucket does as a consumer
use Rattle.std.specs.Prelude.{ℕ, Bool, true, false, ◌||◌, ◌&&◌, ◌==◌, not, if◌then◌else◌, nat_le, nat_lt, min, max, List, [], ◌∷◌, ◌++◌, length, Option, Some, None}
use Rattle.std.specs.List.{list_all}
use Rattle.vb_types.specs.declared.change.Act.{Act}
use Rattle.vb_types.specs.declared.change.Act.TheVariants as act
use Rattle.vb_types.specs.declared.change.Change.{Change}
use Rattle.vb_types.specs.declared.change.Pend.{Pend}
use Rattle.vb_types.specs.declared.role.Role.{Role}
use Rattle.vb_types.specs.declared.role.Role.TheVariants as role
use Rattle.vb_types.specs.declared.role.LogEntry.{LogEntry}
use Rattle.vb_types.specs.declared.position.Position.{Position}
use Rattle.vb_types.specs.declared.position.TheConstants.{MAX_SEQ}
use Rattle.vb_types.specs.declared.status.Status.TheVariants as status
use Rattle.vb_types.specs.Images.{Picture}
use Rattle.branch_model.specs.Logs.{log_limit, kept_to}
use Rattle.branch_model.specs.Requests.{request_of, marked}
use Rattle.vb_calls.specs.declared.calls.VbAnswer.TheVariants as answer
use Rattle.vb_calls.specs.declared.calls.VbReply.{VbReply}
use Rattle.vb_calls.specs.declared.span.Origin.TheVariants.{Received}
use Rattle.vb_calls.specs.State.{Plain, complete_position, pending_of, quiet_reply, refusal_reply}
use Rattle.vb_calls.specs.Spans.{no_spans, received_joined, span_of, with_change, with_seal, last_at}

-- takes changes from another node
abbrev pub is_follower : Role → Bool
is_follower role.Active = false
is_follower role.Replica = true
is_follower role.Pending = true
is_follower role.Dead = false

-- what the vBucket asks for
abbrev pub ask_row : Plain → VbReply
ask_row vb = if is_follower vb.role then quiet_reply (answer.Named (request_of vb.log vb.position)) else refusal_reply status.NotMyVbucket

-- seqnos do not rise with age, and all are at most n
abbrev pub log_falls : List LogEntry → ℕ → Bool
log_falls [] n = true
log_falls (e ∷ older) n = nat_le e.seq n && log_falls older e.seq

-- no entry is u's
abbrev pub log_lacks : List LogEntry → ℕ → Bool
log_lacks log u = list_all (λ e. not (e.uuid == u)) log

-- all branches differ
abbrev pub log_differs : List LogEntry → Bool
log_differs [] = true
log_differs (e ∷ older) = log_lacks older e.uuid && log_differs older

-- a log that an active vBucket may have: 1 to 25 entries, of branches above 0 that all differ, with seqnos that do not rise with age and are at most 2 ^ 48
abbrev pub is_answerable : List LogEntry → Bool
is_answerable log = nat_le 1 (length log) && nat_le (length log) log_limit && log_lacks log 0 && log_differs log && log_falls log MAX_SEQ

-- the producer's log becomes the vBucket's
abbrev pub adopt_row : Plain → List LogEntry → Plain × VbReply
adopt_row vb log =
    if is_follower vb.role then (if is_answerable log then (record vb { log = log; first = true }, quiet_reply answer.Done) else (vb, refusal_reply status.Einval))
    else (vb, refusal_reply status.NotMyVbucket)

-- a marker fits at a complete position or as the first one after a request, and does not end below what was taken or above 2 ^ 48
abbrev pub marker_fits : Position → Bool → ℕ → ℕ → Bool
marker_fits p first start end = nat_le start end && nat_le p.at end && nat_le end MAX_SEQ && (first || p.at == p.se)

-- the next snapshot begins
abbrev pub marked_vb : Plain → ℕ → ℕ → Plain
marked_vb vb start end = record vb { position = marked vb.position start end; spans = with_seal vb.spans; first = false }

-- a marker is taken where it fits
abbrev pub marker_row : Plain → ℕ → ℕ → Plain × VbReply
marker_row vb start end =
    if is_follower vb.role then (if marker_fits vb.position vb.first start end then (marked_vb vb start end, quiet_reply (answer.Range (min start vb.position.at) end)) else (vb, refusal_reply status.Erange))
    else (vb, refusal_reply status.NotMyVbucket)

-- the CAS of a change; an abort has none
abbrev pub cas_of : Act → ℕ
cas_of (act.Set doc) = doc.cas
cas_of (act.Remove cas rev) = cas
cas_of (act.Prepare level doc deleted) = doc.cas
cas_of (act.Commit prepared doc deleted) = doc.cas
cas_of (act.Abort prepared) = 0

-- a commit of the pending prepare that it names, with its document
abbrev pub committed_act : ℕ → Option Pend → Option Act
committed_act prepared None = None
committed_act prepared (Some p) = if p.seq == prepared then Some (act.Commit prepared p.doc p.deleted) else None

-- an act as it is taken in, where its key has this pending prepare, or none
abbrev pub completed_act : Option Pend → Act → Option Act
completed_act pend (act.Set doc) = Some (act.Set doc)
completed_act pend (act.Remove cas rev) = Some (act.Remove cas rev)
completed_act pend (act.Prepare level doc deleted) = Some (act.Prepare level doc deleted)
completed_act pend (act.Commit prepared doc deleted) = committed_act prepared pend
completed_act pend (act.Abort prepared) = Some (act.Abort prepared)

-- a received change is taken in at the end, in the open span or in a new one
abbrev pub with_received_change : Plain → Change → Plain × VbReply
with_received_change vb c = (
  record vb {
    held = vb.held ++ c ∷ [];
    position = record { ss = vb.position.ss; se = vb.position.se; at = c.seq };
    last_cas = max vb.last_cas (cas_of c.act);
    spans = with_change vb.spans (received_joined vb.held vb.spans.current (last_at vb.held c.key) c) (span_of vb.position.at (Received vb.position.ss vb.position.se) c);
  },
  record { answer = answer.Done; resolved = []; ended = []; branch = 0; changes = c ∷ [] },
)

-- a change with this act, if there is one
abbrev pub receive_as : Option Act → Plain → Change → Plain × VbReply
receive_as None vb c = (vb, refusal_reply status.Einval)
receive_as (Some a) vb c = with_received_change vb (record { seq = c.seq; key = c.key; act = a })

-- what stood at a seqno, as an image, and of the log the entries that were made up to there; it is all written down, and nothing above it is left
abbrev pub rolled_vb : Plain → ℕ → Picture → ℕ → Plain
rolled_vb vb at image cas = record vb {
  base = image;
  held = [];
  position = complete_position at;
  log = kept_to at vb.log;
  last_cas = max vb.last_cas cas;
  spans = no_spans;
  floor = at;
  saved = at;
  flushed = at;
}

-- a follower goes back to what stood at a seqno
abbrev pub roll_row : Plain → ℕ → Picture → ℕ → Plain × VbReply
roll_row vb at image cas = if is_follower vb.role then (rolled_vb vb at image cas, quiet_reply (answer.Num at)) else (vb, refusal_reply status.NotMyVbucket)

-- a change above what was taken, and in the snapshot
abbrev pub is_next : Position → ℕ → Bool
is_next p seq = nat_lt p.at seq && nat_le seq p.se

-- a change is taken where it comes next
abbrev pub receive_row : Plain → Change → Plain × VbReply
receive_row vb c =
    if is_follower vb.role then (if is_next vb.position c.seq then receive_as (completed_act (pending_of vb c.key) c.act) vb c else (vb, refusal_reply status.Erange))
    else (vb, refusal_reply status.NotMyVbucket)
