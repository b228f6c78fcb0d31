-- what a vBucket keeps, and what each call makes of it
use Rattle.std.specs.Prelude.{◌≡◌, ℕ, ◌+◌, Bool, true, false, if◌then◌else◌, max, List, [], ◌∷◌, map, length, Option, Some, None}
use Rattle.std.specs.List.{filter}
use Rattle.vb_types.specs.declared.change.Act.{Act}
use Rattle.vb_types.specs.declared.change.Change.{Change}
use Rattle.vb_types.specs.declared.status.Status.{Status}
use Rattle.vb_types.specs.declared.status.Status.TheVariants as status
use Rattle.vb_types.specs.declared.write.Write.{Write}
use Rattle.vb_types.specs.declared.journal.Batch.{Batch}
use Rattle.vb_types.specs.declared.position.Position.{Position}
use Rattle.vb_types.specs.declared.stream.StreamAsk.{StreamAsk}
use Rattle.vb_types.specs.Images.{Picture, applied}
use Rattle.branch_model.specs.Logs.{kept_to}
use Rattle.vb_calls.specs.declared.calls.VbAnswer.TheVariants as answer
use Rattle.vb_calls.specs.declared.calls.VbReply.{VbReply}
use Rattle.vb_calls.specs.declared.span.Origin.{Origin}
use Rattle.vb_calls.specs.declared.span.Origin.TheVariants.{Own, Received}
use Rattle.vb_calls.specs.declared.stream.Stream.{Stream}
use Rattle.vb_calls.specs.State.{Plain, complete_position, newest_branch, pending_of, quiet_reply, refusal_reply}
use Rattle.vb_calls.specs.Following.{cas_of, completed_act, is_follower, is_next}
use Rattle.vb_calls.specs.Spans.{all_spans}
use Rattle.vb_calls.specs.Streams.{is_plain, is_seen, moved_on, need_of, open_row, place_row, sent_as, snapshot_of, stream_at}
use Rattle.vb_calls.specs.Writes.{new_cas, store_refusal, write_change}
use Rattle.cursor_set.specs.Cursors.{place_of}
use Rattle.ckpt_list.specs.Trims.{trimmed}
use Rattle.ckpt_list.specs.Lists.{Ckpts, ckpts_at, between, held_of, moved_cursor, queued, sealed_list, spans_of, stop_of, window_of}

-- all but the changes, their spans, and where these begin and were taken to: its base is what all of them leave; and the checkpoints with the changes that live, which tell the rest
pub record Kept : Type 0 where
  pub rest : Plain
  pub list : Ckpts

-- the same checkpoints and changes, and the cursor 0 stands where it stood; others may differ
pub record SameChanges (l m : Ckpts) : Type 0 where
  pub rest : m ≡ record l { places = m.places }
  pub zero : place_of m.places 0 ≡ place_of l.places 0

-- after a call that seals, the open checkpoint is sealed, and streams' cursors may be gone; any other leaves the list as it was
abbrev pub SealedIf : Bool → Ckpts → Ckpts → Type 0
SealedIf true l m = SameChanges (sealed_list l) m
SealedIf false l m = m ≡ l

-- a change is queued, and the table takes it in
abbrev pub kept_behind : Kept → Origin → Change → Kept
kept_behind k origin c = record {
  rest = record k.rest { base = applied k.rest.base c };
  list = queued k.list origin c;
}

-- with a change of its own, which has this CAS
abbrev pub kept_growth : Kept → Change → ℕ → Kept × VbReply
kept_growth k c cas = (
  record (kept_behind k Own c) { rest = record (kept_behind k Own c).rest { position = complete_position c.seq; last_cas = cas } },
  record { answer = answer.Stored (newest_branch k.rest.log) c.seq cas; resolved = []; ended = []; branch = newest_branch k.rest.log; changes = c ∷ [] },
)

-- a write that is refused changes nothing
abbrev pub kept_outcome : Option Status → Kept → Write → ℕ → Kept × VbReply
kept_outcome (Some st) k write cas = (k, refusal_reply st)
kept_outcome None k write cas = kept_growth k (write_change k.rest write cas) cas

-- a write
abbrev pub kept_store : Kept → Write → ℕ → Kept × VbReply
kept_store k write clock = kept_outcome (store_refusal k.rest write) k write (new_cas clock k.rest.last_cas)

-- with a received change
abbrev pub kept_received : Kept → Change → Kept × VbReply
kept_received k c = (
  record (kept_behind k (Received k.rest.position.ss k.rest.position.se) c) {
    rest = record (kept_behind k (Received k.rest.position.ss k.rest.position.se) c).rest {
      position = record { ss = k.rest.position.ss; se = k.rest.position.se; at = c.seq };
      last_cas = max k.rest.last_cas (cas_of c.act);
    };
  },
  record { answer = answer.Done; resolved = []; ended = []; branch = 0; changes = c ∷ [] },
)

-- a change with this act, if there is one
abbrev pub kept_receive_as : Option Act → Kept → Change → Kept × VbReply
kept_receive_as None k c = (k, refusal_reply status.Einval)
kept_receive_as (Some a) k c = kept_received k (record { seq = c.seq; key = c.key; act = a })

-- a change from the producer
abbrev pub kept_receive : Kept → Change → Kept × VbReply
kept_receive k c =
    if is_follower k.rest.role then (if is_next k.rest.position c.seq then kept_receive_as (completed_act (pending_of k.rest c.key) c.act) k c else (k, refusal_reply status.Erange))
    else (k, refusal_reply status.NotMyVbucket)

-- all but the changes and their spans, with the floor of the list
abbrev pub floored : Kept → Plain
floored k = record k.rest { floor = k.list.floor }

-- what a row that changes the streams alone makes of them, and its reply
abbrev pub restreamed : (Plain → Plain × VbReply) → Kept → Plain × VbReply
restreamed row k = (record k.rest { streams = (row (floored k)).0.streams }, (row (floored k)).1)

-- a request for a stream
abbrev pub kept_open : Kept → ℕ → StreamAsk → Bool → Plain × VbReply
kept_open k id ask sync = restreamed (λ vb. open_row vb id ask sync) k

-- where a stream's changes come from, if it is open
abbrev pub kept_place : Kept → ℕ → Plain × VbReply
kept_place k id = restreamed (λ vb. place_row vb id) k

-- what a stream is sent of the changes that its cursor is given
abbrev pub sent_items : Stream → List Change → List Change
sent_items s items = map (sent_as (is_plain s)) (filter (λ c. is_seen s.sync c.act) items)

-- a take up to the end of a checkpoint, if there is one
abbrev pub kept_take_to : Option ℕ → Stream → Kept → Kept × VbReply
kept_take_to None s k = (k, quiet_reply answer.Nothing)
kept_take_to (Some end) s k = (
  record { rest = record k.rest { streams = map (moved_on s.id end) k.rest.streams }; list = moved_cursor k.list s.id end },
  quiet_reply (answer.Taken (snapshot_of s (sent_items s (between s.place end (held_of k.list))))),
)

-- a take by a stream, if it is open; one that has no cursor is given nothing
abbrev pub kept_take_from : Option Stream → Kept → Kept × VbReply
kept_take_from None k = (k, quiet_reply answer.Absent)
kept_take_from (Some s) k = kept_take_to (if s.cursor then stop_of k.list s.place (need_of s) s.sync else None) s k

-- a stream's next snapshot
abbrev pub kept_take : Kept → ℕ → Kept × VbReply
kept_take k id = kept_take_from (stream_at id k.rest.streams) k

-- the changes above a place up to the end of their checkpoint, with where the vBucket stands once it has them, and its log and last CAS
abbrev pub kept_batch : Kept → ℕ → Position → Batch
kept_batch k place p = record { position = p; cas = k.rest.last_cas; log = k.rest.log; items = between place p.at (held_of k.list) }

-- the cursor 0 goes on from a place to the end of its checkpoint, if there is one above
abbrev pub kept_flush_to : Option Position → ℕ → Kept → Kept × VbReply
kept_flush_to None place k = (k, quiet_reply answer.Nothing)
kept_flush_to (Some p) place k = (record k { list = moved_cursor k.list 0 p.at }, quiet_reply (answer.Rows (kept_batch k place p)))

-- from where the cursor 0 stands, if it is there
abbrev pub kept_flush_from : Option ℕ → Kept → Kept × VbReply
kept_flush_from None k = (k, quiet_reply answer.Nothing)
kept_flush_from (Some place) k = kept_flush_to (window_of k.list place) place k

-- the next batch
abbrev pub kept_flush : Kept → Kept × VbReply
kept_flush k = kept_flush_from (place_of k.list.places 0) k

-- without the sealed checkpoints that are needed no more, and their number
abbrev pub kept_trim : Kept → Kept × VbReply
kept_trim k = (record k { list = (trimmed k.list k.rest.saved).0 }, quiet_reply (answer.Num (trimmed k.list k.rest.saved).1))

-- numbers
abbrev pub kept_stat : Kept → VbReply
kept_stat k = quiet_reply (answer.Stat
    (length (all_spans (spans_of k.list)))
    (length (held_of k.list))
    (1 + length (filter (λ s. s.cursor) k.rest.streams))
    k.rest.saved
    k.rest.position.at)

-- the table is this image, no change is left, and all is written down
abbrev pub kept_rolled : Kept → ℕ → Picture → ℕ → Kept
kept_rolled k at image cas = record {
  rest = record k.rest { base = image; position = complete_position at; log = kept_to at k.rest.log; last_cas = max k.rest.last_cas cas; saved = at };
  list = ckpts_at at k.list.newest.origin;
}

-- a follower goes back to what stood at a seqno
abbrev pub kept_roll : Kept → ℕ → Picture → ℕ → Kept × VbReply
kept_roll k at image cas = if is_follower k.rest.role then (kept_rolled k at image cas, quiet_reply (answer.Num at)) else (k, refusal_reply status.NotMyVbucket)
