-- what a vBucket feeds to its streams
use Rattle.std.specs.Prelude.{ℕ, Bool, true, false, ◌||◌, ◌&&◌, ◌==◌, not, if◌then◌else◌, nat_le, nat_lt, List, [], ◌∷◌, ◌++◌, map, Option, Some, None, is_some}
use Rattle.std.specs.List.{filter, find, flat_map}
use Rattle.vb_types.specs.declared.change.Act.{Act}
use Rattle.vb_types.specs.declared.change.Change.{Change}
use Rattle.vb_types.specs.declared.stream.AskAnswer.{AskAnswer}
use Rattle.vb_types.specs.declared.stream.AskAnswer.TheVariants as ask_answer
use Rattle.vb_types.specs.Statuses.{status_code}
use Rattle.vb_types.specs.declared.status.Status.{Status}
use Rattle.vb_types.specs.declared.status.Status.TheVariants as status
use Rattle.vb_types.specs.declared.stream.StreamAsk.{StreamAsk}
use Rattle.vb_types.specs.declared.stream.Snapshot.{Snapshot}
use Rattle.vb_types.specs.declared.stream.Place.{Place}
use Rattle.vb_types.specs.declared.stream.Place.TheVariants.{Memory, WaitSaved}
use Rattle.vb_types.specs.declared.stream.Verdict.{Verdict}
use Rattle.vb_types.specs.declared.stream.Verdict.TheVariants.{Continue, Roll}
use Rattle.vb_types.specs.Histories.{is_visible, plain}
use Rattle.branch_model.specs.Histories.{last_seq}
use Rattle.branch_model.specs.Requests.{effective_se, rule}
use Rattle.vb_calls.specs.declared.calls.VbAnswer.TheVariants as answer
use Rattle.vb_calls.specs.declared.calls.VbReply.{VbReply}
use Rattle.vb_calls.specs.declared.stream.Stream.{Stream}
use Rattle.vb_calls.specs.declared.span.Span.{Span}
use Rattle.vb_calls.specs.State.{Plain, is_active, quiet_reply}
use Rattle.vb_calls.specs.Spans.{all_spans, live_in, is_live_by, is_whole, stretch}

-- the open stream of this number
abbrev pub stream_at : ℕ → List Stream → Option Stream
stream_at id streams = find (λ s. s.id == id) streams

-- the start lies in the snapshot that is named, and not above the end that is wanted
abbrev pub is_ranged : StreamAsk → Bool
is_ranged ask = nat_le ask.start ask.end && nat_le ask.ss ask.start && nat_le ask.start ask.se

-- why a number is not free
abbrev pub id_refusal : ℕ → Option Stream → Option Status
id_refusal id None = if id == 0 then Some status.KeyEexists else None
id_refusal id (Some s) = Some status.KeyEexists

-- the first reason, if there is one, and else the other
abbrev pub first_reason : Option Status → Option Status → Option Status
first_reason (Some st) other = Some st
first_reason None other = other

-- why a request for a stream is refused
abbrev pub open_refusal : Plain → ℕ → StreamAsk → Option Status
open_refusal vb id ask = if is_active vb.role then first_reason (id_refusal id (stream_at id vb.streams)) (if is_ranged ask then None else Some status.Erange) else Some status.NotMyVbucket

-- the least place that is served from memory
abbrev pub memory_from : Plain → ℕ
memory_from vb = vb.floor

-- all changes above this place are in memory
abbrev pub is_in_memory : Plain → ℕ → Bool
is_in_memory vb place = nat_le (memory_from vb) place

-- where the changes of a stream come from that has no cursor: from memory, where that serves, and else from there once more is saved
abbrev pub source_by : Bool → Place
source_by true = Memory
source_by false = WaitSaved

-- by where it stands
abbrev pub source_of : Plain → Stream → Place
source_of vb s = source_by (is_in_memory vb s.place)

-- a stream that is asked for, at its request's start and without a cursor
abbrev pub asked_stream : ℕ → StreamAsk → Bool → Stream
asked_stream id ask sync = record { id = id; ask = ask; sync = sync; place = ask.start; cursor = false; taken = false }

-- a stream that starts at its request's start: it has a cursor there, if that is in memory
abbrev pub new_stream : Plain → ℕ → StreamAsk → Bool → Stream
new_stream vb id ask sync = record { id = id; ask = ask; sync = sync; place = ask.start; cursor = is_in_memory vb ask.start; taken = false }

-- what is said to a request that opens no stream, with the failover log and the last seqno
abbrev pub ask_reply : Plain → AskAnswer → VbReply
ask_reply vb said = quiet_reply (answer.Asked said vb.log vb.position.at)

-- what is said of a stream that is opened, with where its changes come from
abbrev pub opened_reply : Plain → Place → VbReply
opened_reply vb from = quiet_reply (answer.Opened vb.log vb.position.at from)

-- a request that the log lets continue opens a stream; one that has to roll back changes nothing
abbrev pub judged_open : Verdict → Plain → ℕ → StreamAsk → Bool → Plain × VbReply
judged_open Continue vb id ask sync = (record vb { streams = vb.streams ++ new_stream vb id ask sync ∷ [] }, opened_reply vb (source_of vb (asked_stream id ask sync)))
judged_open (Roll to) vb id ask sync = (vb, ask_reply vb (ask_answer.Roll to))

-- a request that is refused changes nothing
abbrev pub open_outcome : Option Status → Plain → ℕ → StreamAsk → Bool → Plain × VbReply
open_outcome (Some st) vb id ask sync = (vb, ask_reply vb (ask_answer.Refuse (status_code st)))
open_outcome None vb id ask sync = judged_open (rule vb.log vb.position.at ask) vb id ask sync

-- a request for a stream
abbrev pub open_row : Plain → ℕ → StreamAsk → Bool → Plain × VbReply
open_row vb id ask sync = open_outcome (open_refusal vb id ask) vb id ask sync

-- the streams without the one of this number
abbrev pub without_stream : ℕ → List Stream → List Stream
without_stream id streams = filter (λ s. not (s.id == id)) streams

-- a stream that is closed is fed no more
abbrev pub close_row : Plain → ℕ → Plain × VbReply
close_row vb id = (record vb { streams = without_stream id vb.streams }, quiet_reply (answer.Flag (is_some (stream_at id vb.streams))))

-- the stream of this number has a cursor at its place from now on, or has none; it stays where it is
abbrev pub with_cursor_as : Bool → ℕ → Stream → Stream
with_cursor_as has id s = if s.id == id then record { id = s.id; ask = s.ask; sync = s.sync; place = s.place; cursor = has; taken = s.taken } else s

-- it has one
abbrev pub given_cursor : ℕ → Stream → Stream
given_cursor id = with_cursor_as true id

-- it has none
abbrev pub without_cursor : ℕ → Stream → Stream
without_cursor id = with_cursor_as false id

-- where a stream's changes come from
abbrev pub place_reply : Place → VbReply
place_reply from = quiet_reply (answer.Placed from)

-- by whether a stream has a cursor, and whether it stands in memory: its changes come from there where it has one or is given one, and else it waits
abbrev pub placed_by : Bool → Bool → Stream → Plain → Plain × VbReply
placed_by true there s vb = (vb, place_reply Memory)
placed_by false true s vb = (record vb { streams = map (given_cursor s.id) vb.streams }, place_reply Memory)
placed_by false false s vb = (vb, place_reply WaitSaved)

-- where the changes of a stream come from, if it is open
abbrev pub place_from : Option Stream → Plain → Plain × VbReply
place_from None vb = (vb, quiet_reply answer.Absent)
place_from (Some s) vb = placed_by s.cursor (is_in_memory vb s.place) s vb

-- where the next changes of the stream of this number come from
abbrev pub place_row : Plain → ℕ → Plain × VbReply
place_row vb id = place_from (stream_at id vb.streams) vb

-- a sync stream sees all changes, any other the sets, removals and commits
abbrev pub is_seen : Bool → Act → Bool
is_seen sync a = sync || is_visible a

-- the snapshot's end that the stream's request means, until a snapshot has reached it
abbrev pub need_of : Stream → ℕ
need_of s = if s.taken then 0 else effective_se s.ask.start s.ask.ss s.ask.se

-- a stream that is not sync is sent commits as sets and removals
abbrev pub is_plain : Stream → Bool
is_plain s = not s.sync

-- a change, or the set or removal that a commit stands as
abbrev pub sent_as : Bool → Change → Change
sent_as as_plain c = if as_plain then plain c else c

-- what a stream is sent of a span of h: the live changes above its place that it sees
abbrev pub span_items : Stream → List Change → Span → List Change
span_items s h w = map (sent_as (is_plain s)) (filter (λ c. nat_lt s.place c.seq && is_seen s.sync c.act) (live_in w h))

-- a change that stands in a span before these later changes is live in it
abbrev pub is_live_before : Span → Change → List Change → Bool
is_live_before w c later = is_live_by w.origin c (stretch w.above w.last later)

-- a change of a span is one of its items, before these later changes
abbrev pub is_item_before : Stream → Span → Change → List Change → Bool
is_item_before s w c later = nat_lt w.above c.seq && nat_le c.seq w.last && is_live_before w c later && nat_lt s.place c.seq && is_seen s.sync c.act

-- what it is sent of the spans that end above its place and at most at `end`
abbrev pub items_to : Stream → List Span → List Change → ℕ → List Change
items_to s ws h end = flat_map (span_items s h) (filter (λ w. nat_lt s.place w.last && nat_le w.last end) ws)

-- there is a change
abbrev pub has_any : List Change → Bool
has_any [] = false
has_any (c ∷ cs) = true

-- a seqno above the place, inside no received snapshot, and not below what the request needs
abbrev pub is_end_for : Stream → List Span → ℕ → Bool
is_end_for s ws end = nat_lt s.place end && is_whole end ws && nat_le (need_of s) end

-- a snapshot may end here, with a change that the stream sees
abbrev pub may_end : Stream → List Span → List Change → ℕ → Bool
may_end s ws h end = is_end_for s ws end && has_any (items_to s ws h end)

-- the first span, so the one of the least end, where a snapshot may end
abbrev pub end_span : Stream → List Span → List Change → Option Span
end_span s ws h = find (λ w. may_end s ws h w.last) ws

-- a snapshot starts at the stream's place, and ends at its last change
abbrev pub snapshot_of : Stream → List Change → Snapshot
snapshot_of s items = record { start = s.place; end = last_seq s.place items; disk = false; items = items }

-- the stream of this number after a snapshot up to `end`, to which its cursor goes with it
abbrev pub moved_on : ℕ → ℕ → Stream → Stream
moved_on id end s = if s.id == id then record { id = s.id; ask = s.ask; sync = s.sync; place = end; cursor = s.cursor; taken = true } else s

-- a take up to the end of a span, if there is one
abbrev pub take_to : Option Span → Stream → Plain → Plain × VbReply
take_to None s vb = (vb, quiet_reply answer.Nothing)
take_to (Some w) s vb = (record vb { streams = map (moved_on s.id w.last) vb.streams }, quiet_reply (answer.Taken (snapshot_of s (items_to s (all_spans vb.spans) vb.held w.last))))

-- a take by a stream, if it is open; one that has no cursor is given nothing
abbrev pub take_from : Option Stream → Plain → Plain × VbReply
take_from None vb = (vb, quiet_reply answer.Absent)
take_from (Some s) vb = take_to (if s.cursor then end_span s (all_spans vb.spans) vb.held else None) s vb

-- a stream's next snapshot
abbrev pub take_row : Plain → ℕ → Plain × VbReply
take_row vb id = take_from (stream_at id vb.streams) vb
