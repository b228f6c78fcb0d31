-- how a producer answers the frames of a connection, as programs over its node's vBuckets
use Rattle.std.specs.Prelude.{ℕ, ◌+◌, ◌*◌, ◌^◌, ◌-◌, ◌==◌, ◌&&◌, ◌||◌, not, Bool, true, false, nat_lt, nat_le, if◌then◌else◌, List, [], ◌∷◌, ◌++◌, length, map, Option, Some, None, Result, Ok, Err, codes, is_some}
use Rattle.std.specs.List.{list_any}
use Rattle.std.specs.Option.{option_map}
use Rattle.std.specs.Str.{bytes_eq}
use Rattle.mcbp_frame.specs.declared.frame.Frame.{Frame}
use Rattle.mcbp_frame.specs.declared.frame.TheConstants.{RESPONSE}
use Rattle.mcbp_frame.specs.Spelling.{spelling}
use Rattle.mcbp_kv.specs.Replies.{reply_frame}
use Rattle.mcbp_dcp.specs.declared.message.DcpMsg.{DcpMsg}
use Rattle.mcbp_dcp.specs.declared.message.DcpMsg.TheVariants as msg
use Rattle.mcbp_dcp.specs.declared.message.DcpFault.{DcpFault}
use Rattle.mcbp_dcp.specs.declared.message.StreamVerdict.{StreamVerdict}
use Rattle.mcbp_dcp.specs.declared.message.StreamVerdict.TheVariants as told
use Rattle.mcbp_dcp.specs.declared.shape.TheConstants.{MAX_NAME}
use Rattle.mcbp_dcp.specs.Rows.{dcp_opcodes}
use Rattle.mcbp_dcp.specs.DcpFrames.{dcp_frame, IsSpelledLog}
use Rattle.mcbp_dcp.specs.Messages.{read_of}
use Rattle.vb_events.specs.declared.event.Event.{Event}
use Rattle.vb_events.specs.declared.event.Event.TheVariants as event
use Rattle.vb_events.specs.declared.event.StreamName.{StreamName}
use Rattle.vb_types.specs.declared.stream.AskAnswer.{AskAnswer}
use Rattle.vb_types.specs.declared.stream.AskAnswer.TheVariants as ask_answer
use Rattle.vb_types.specs.declared.role.LogEntry.{LogEntry}
use Rattle.vb_types.specs.declared.status.Status.{Status}
use Rattle.vb_types.specs.declared.status.Status.TheVariants as status
use Rattle.vb_types.specs.declared.stream.Place.{Place}
use Rattle.vb_types.specs.declared.stream.Place.TheVariants as place
use Rattle.vb_types.specs.declared.stream.StreamAsk.{StreamAsk}
use Rattle.vb_types.specs.Statuses.{status_code}
use Rattle.vb_calls.specs.declared.calls.VbCall.TheVariants as call
use Rattle.vb_calls.specs.declared.calls.VbAnswer.{VbAnswer}
use Rattle.vb_calls.specs.declared.calls.VbAnswer.TheVariants as answer
use Rattle.vb_calls.specs.declared.calls.VbReply.{VbReply}
use Rattle.vb_calls.specs.Programs.{Prog, Done, Call}
use Rattle.takeover.specs.GivingUp.{answered, new_give_up}
use Rattle.takeover.specs.declared.give_up.GiveUp.{GiveUp}
use Rattle.dcp_producer.specs.declared.desk.Desk.{Desk}
use Rattle.dcp_producer.specs.declared.desk.Handshake.{Handshake}
use Rattle.dcp_producer.specs.declared.desk.Handshake.TheVariants as handshake
use Rattle.dcp_producer.specs.declared.desk.Named.{Named}
use Rattle.dcp_producer.specs.declared.desk.Named.TheVariants as named
use Rattle.flow_control.specs.Windows.{with_acked, with_size}
use Rattle.dcp_producer.specs.Firsts.{first_of}
use Rattle.dcp_producer.specs.Producers.{PlainStream, PlainProducer, Served, is_client, is_open, is_sync, member_of, stream_at, with_opened, without_stream}
use Rattle.dcp_producer.specs.Sizes.{size_of}

-- the connection after one more frame was put on its way
abbrev pub with_frame : Served → Frame → Served
with_frame s f = record s { out = s.out ++ spelling f }

-- the connection after one more line was told
abbrev pub with_event : Served → Event → Served
with_event s line = record s { events = s.events ++ line ∷ [] }

-- the answer to a request that has a status alone
abbrev pub status_frame : Frame → Status → Frame
status_frame f st = reply_frame (record { opcode = f.opcode; status = st; opaque = f.opaque; cas = 0; datatype = 0; extras = []; value = [] })

-- a request is answered with a status alone
unfoldable pub status_sent : Frame → Status → Served → Served
status_sent f st s = with_frame s (status_frame f st)

-- what OPEN and CONTROL set, but for the window's size
abbrev pub with_handshake : Served → Handshake → Served
with_handshake s set = record s { end = record s.end { handshake = set } }

-- OPEN: Einval where the flags have another bit than 1 or the connection is open already, NotSupported where they are 0
abbrev pub open_refusal : Handshake → ℕ → Option Status
open_refusal shaken flags =
    if nat_lt 1 flags then Some status.Einval
    else if is_open shaken then Some status.Einval
    else if flags == 0 then Some status.NotSupported
    else None

-- OPEN: the connection is open, unless it is refused
abbrev pub opened_unless : Option Status → Frame → Served → Served
opened_unless None f s = status_sent f status.Success (with_handshake s (handshake.Open false named.Nobody))
opened_unless (Some st) f s = status_sent f st s

-- the two words of a flag
abbrev pub flag_of : List ℕ → Option Bool
flag_of value = if bytes_eq value (codes "true") then Some true else if bytes_eq value (codes "false") then Some false else None

-- a consumer's name, of 1 to 250 bytes
abbrev pub is_name : List ℕ → Bool
is_name value = nat_le 1 (length value) && nat_le (length value) MAX_NAME

-- a decimal digit, at most this one
abbrev pub is_digit : ℕ → ℕ → Bool
is_digit most d = nat_le 48 d && nat_le d (48 + most)

-- which member of a chain a consumer's name says: n0 to n15, the nodes 0 to 15; any other name is a stranger's
abbrev pub named_by : List ℕ → Named
named_by (n ∷ d ∷ []) = if n == 110 && is_digit 9 d then named.Member (d - 48) else named.Stranger
named_by (n ∷ one ∷ d ∷ []) = if (n == 110 && one == 49) && is_digit 5 d then named.Member (10 + (d - 48)) else named.Stranger
named_by other = named.Stranger

-- a value that is known changes nothing
abbrev pub as_before : {T : Type 0} → Handshake → Option T → Option Handshake
as_before shaken said = option_map (λ value. shaken) said

-- CONTROL of an open connection: `enable_sync_writes` and `consumer_name` set the handshake, `enable_noop` and `set_noop_interval` change nothing, each with its values; None for any other
abbrev pub set_by : Bool → Named → List ℕ → List ℕ → Option Handshake
set_by sync_writes name key value =
    if bytes_eq key (codes "enable_sync_writes") then option_map (λ flag. handshake.Open flag name) (flag_of value)
    else if bytes_eq key (codes "consumer_name") then (if is_name value then Some (handshake.Open sync_writes (named_by value)) else None)
    else if bytes_eq key (codes "enable_noop") then as_before (handshake.Open sync_writes name) (flag_of value)
    else if bytes_eq key (codes "set_noop_interval") then as_before (handshake.Open sync_writes name) (size_of value)
    else None

-- CONTROL: nothing is set before OPEN
abbrev pub controlled : Handshake → List ℕ → List ℕ → Option Handshake
controlled handshake.Fresh key value = None
controlled (handshake.Open sync_writes name) key value = set_by sync_writes name key value

-- the size of the window that CONTROL of `connection_buffer_size` sets; none before OPEN
abbrev pub sized : Handshake → List ℕ → Option ℕ
sized handshake.Fresh value = None
sized (handshake.Open sync_writes name) value = size_of value

-- the window gets another size
abbrev pub with_window_size : ℕ → Served → Served
with_window_size size s = record s { end = record s.end { window = with_size size s.end.window } }

-- CONTROL of the window: it gets the size, or the request is refused
abbrev pub sized_as : Option ℕ → Frame → Served → Served
sized_as None f s = status_sent f status.Einval s
sized_as (Some size) f s = status_sent f status.Success (with_window_size size s)

-- CONTROL of a key of the handshake: it is set, or the request is refused
abbrev pub controlled_as : Option Handshake → Frame → Served → Served
controlled_as None f s = status_sent f status.Einval s
controlled_as (Some set) f s = status_sent f status.Success (with_handshake s set)

-- OPEN, and CONTROL of a key of the handshake, by what they set or why they are refused
abbrev pub set_answered : Result Handshake Status → Frame → Served → Served
set_answered (Ok set) f s = status_sent f status.Success (with_handshake s set)
set_answered (Err st) f s = status_sent f st s

-- what OPEN sets, unless it is refused
abbrev pub opened : Option Status → Result Handshake Status
opened None = Ok (handshake.Open false named.Nobody)
opened (Some st) = Err st

-- CONTROL
abbrev pub control_answered : Frame → List ℕ → List ℕ → Served → Served
control_answered f key value s =
    if bytes_eq key (codes "connection_buffer_size") then sized_as (sized s.end.handshake value) f s
    else controlled_as (controlled s.end.handshake key value) f s

-- refused, with this status
abbrev pub refuse : Status → AskAnswer
refuse st = ask_answer.Refuse (status_code st)

-- the failover log of a vBucket, as its answer tells it
abbrev pub log_of_answer : VbAnswer → List LogEntry
log_of_answer (answer.Asked said log high) = log
log_of_answer (answer.Opened log high from) = log
log_of_answer other = []

-- the failover log, empty where there is no such vBucket
abbrev pub log_of_reply : Option VbReply → List LogEntry
log_of_reply None = []
log_of_reply (Some reply) = log_of_answer reply.answer

-- the last seqno that a vBucket has, as its answer tells it
abbrev pub high_of_answer : VbAnswer → ℕ
high_of_answer (answer.Asked said log high) = high
high_of_answer (answer.Opened log high from) = high
high_of_answer other = 0

-- the last seqno, 0 where there is no such vBucket
abbrev pub high_of_reply : Option VbReply → ℕ
high_of_reply None = 0
high_of_reply (Some reply) = high_of_answer reply.answer

-- how a request for a stream was answered by its vBucket, which gives no other answers than these
abbrev pub verdict_of : VbAnswer → AskAnswer
verdict_of (answer.Asked said log high) = said
verdict_of (answer.Opened log high from) = ask_answer.Go
verdict_of other = refuse status.Einval

-- where there is no such vBucket, the request is refused as at one that is not active
abbrev pub ask_verdict : Option VbReply → AskAnswer
ask_verdict None = refuse status.NotMyVbucket
ask_verdict (Some reply) = verdict_of reply.answer

-- where the changes of an opened stream come from, as its vBucket's answer tells it
abbrev pub place_opened : VbAnswer → Place
place_opened (answer.Opened log high from) = from
place_opened other = place.Memory

-- the same of a reply
abbrev pub place_of_reply : Option VbReply → Place
place_of_reply None = place.Memory
place_of_reply (Some reply) = place_opened reply.answer

-- the end of a backfill, where changes come from the journal
abbrev pub unread_of : Place → Option ℕ
unread_of (place.Backfill end) = Some end
unread_of other = None

-- how many streams one connection may ask vBuckets to open
abbrev pub MOST_STREAMS : ℕ
MOST_STREAMS = 2 ^ 32 - 1

-- why the producer itself refuses a request for a stream: Einval before OPEN and for flags that are not known, NotSupported for a takeover on a client's connection, Etmpfail where it asked for so many streams that no number is left
abbrev pub request_refusal : PlainProducer → StreamAsk → Option Status
request_refusal end ask =
    if not (is_open end.handshake) then Some status.Einval
    else if nat_lt 1 ask.flags then Some status.Einval
    else if ask.flags == 1 && is_client end.desk.stream then Some status.NotSupported
    else if nat_le MOST_STREAMS end.asked then Some status.Etmpfail
    else None

-- a vBucket is asked to open a stream: nothing here refuses the request, and the connection has no stream of this vBucket
abbrev pub opens : PlainProducer → ℕ → StreamAsk → Bool
opens end v ask = not (is_some (request_refusal end ask)) && not (is_some (stream_at v end.streams))

-- the number of the next stream: no other stream of a node has it
abbrev pub next_stream : PlainProducer → ℕ
next_stream end = end.desk.base * 2 ^ 32 + (end.asked + 1)

-- one more stream was asked for
abbrev pub with_asked : PlainProducer → PlainProducer
with_asked end = record end { asked = end.asked + 1 }

-- the producer's own refusal stands before what the vBucket said
abbrev pub verdict_with : Option Status → AskAnswer → AskAnswer
verdict_with (Some st) said = refuse st
verdict_with None said = said

-- the message of an answer to a request for a stream
abbrev pub stream_verdict : List LogEntry → AskAnswer → StreamVerdict
stream_verdict log ask_answer.Go = told.Go log
stream_verdict log (ask_answer.Roll to) = told.Roll to
stream_verdict log (ask_answer.Refuse code) = told.Refused code

-- with the flag 1 a stream gives its vBucket up, from the first step
abbrev pub gives_of : ℕ → Option GiveUp
gives_of flags = if flags == 1 then Some new_give_up else None

-- a stream begins with no snapshot taken, and its consumer has all up to the start that it asked for; where its first changes come from the journal, they are still to be read
abbrev pub new_stream : ℕ → Frame → StreamAsk → Bool → Place → PlainStream
new_stream id f ask sync from = record {
  id = id;
  vb = f.vb_or_status;
  opaque = f.opaque;
  until = ask.end;
  first = first_of ask;
  sync = sync;
  place = ask.start;
  unread = unread_of from;
  items = [];
  next = 0;
  marked = None;
  reached = ask.start;
  ended = false;
  gives = gives_of ask.flags;
}

-- a request that is let continue makes a stream of this number
abbrev pub with_granted : PlainProducer → ℕ → Frame → StreamAsk → Place → AskAnswer → PlainProducer
with_granted end id f ask from ask_answer.Go = with_opened (new_stream id f ask (is_sync end.handshake) from) end
with_granted end id f ask from (ask_answer.Roll to) = end
with_granted end id f ask from (ask_answer.Refuse code) = end

-- where a stream's first changes come from is known now
abbrev pub with_source : Place → PlainStream → PlainStream
with_source from stream = record stream { unread = unread_of from }

-- the same of the stream of a number
abbrev pub with_source_at : Place → ℕ → PlainStream → PlainStream
with_source_at from id stream = if stream.id == id then with_source from stream else stream

-- a stream that was listed is one of the connection only where the vBucket lets it continue, and then where its first changes come from is known
abbrev pub kept_listed : AskAnswer → Place → ℕ → PlainProducer → PlainProducer
kept_listed ask_answer.Go from id end = record end { streams = map (with_source_at from id) end.streams }
kept_listed (ask_answer.Roll to) from id end = without_stream id end
kept_listed (ask_answer.Refuse code) from id end = without_stream id end

-- the line of an answer to a request for a stream: the last seqno and the failover log are the producer's own
abbrev pub ask_line : Desk → Frame → StreamAsk → List LogEntry → ℕ → AskAnswer → Event
ask_line desk f ask log high verdict = event.Asked desk.stream desk.node f.vb_or_status ask high log verdict

-- the answer to a request for a stream goes out, and a line tells of it
unfoldable pub stream_answered : Frame → StreamAsk → Served → List LogEntry → ℕ → AskAnswer → Served
stream_answered f ask s log high verdict = record {
  end = s.end;
  events = s.events ++ ask_line s.end.desk f ask log high verdict ∷ [];
  out = s.out ++ spelling (dcp_frame (msg.StreamAnswer (stream_verdict log verdict)) f.opaque 0);
  count = s.count;
  resolved = s.resolved;
}

-- the vBucket's answer to a request under a number of its own
abbrev pub opened_answered : Frame → StreamAsk → Served → Option VbReply → Served
opened_answered f ask s reply =
    stream_answered f ask (record s { end = with_granted (with_asked s.end) (next_stream s.end) f ask (place_of_reply reply) (ask_verdict reply) })
    (log_of_reply reply) (high_of_reply reply) (ask_verdict reply)

-- the vBucket is asked to open a stream, under a number of its own
abbrev pub opening_requested : Frame → StreamAsk → Served → Prog Served
opening_requested f ask s = Call f.vb_or_status (call.OpenStream (next_stream s.end) ask (is_sync s.end.handshake)) (λ reply. Done (opened_answered f ask s reply))

-- the vBucket's answer to a request under no number; the producer's own refusal stands before it
abbrev pub refused_answered : Frame → StreamAsk → Served → Option VbReply → Served
refused_answered f ask s reply = stream_answered f ask s (log_of_reply reply) (high_of_reply reply) (verdict_with (request_refusal s.end ask) (ask_verdict reply))

-- the vBucket is asked under the number 0, under which it opens none: it tells its failover log and its last seqno, and what stands first against the request
abbrev pub refusal_requested : Frame → StreamAsk → Served → Prog Served
refusal_requested f ask s = Call f.vb_or_status (call.OpenStream 0 ask (is_sync s.end.handshake)) (λ reply. Done (refused_answered f ask s reply))

-- STREAM_REQUEST: the vBucket is asked once, and tells its failover log and its last seqno whatever it says
unfoldable pub stream_request : Frame → StreamAsk → Served → Prog Served
stream_request f ask s = if opens s.end f.vb_or_status ask then opening_requested f ask s else refusal_requested f ask s

-- an open connection's request is answered so, and before OPEN it is Einval
abbrev pub once_open : Frame → Served → Prog Served → Prog Served
once_open f s prog = if is_open s.end.handshake then prog else Done (status_sent f status.Einval s)

-- the stream of a number is no more, and its consumer is told so
abbrev pub closed_sent : Frame → ℕ → Served → Served
closed_sent f id s = status_sent f status.Success (record s { end = without_stream id s.end })

-- CLOSE_STREAM, by the connection's stream of that vBucket: it is closed there, unless a change of role ended it; then the vBucket may know another stream by its number. Of what was taken nothing more is put
abbrev pub stream_closed : Frame → Served → Option PlainStream → Prog Served
stream_closed f s None = Done (status_sent f status.KeyEnoent s)
stream_closed f s (Some stream) =
    if stream.ended then Done (closed_sent f stream.id s)
    else Call stream.vb (call.CloseStream stream.id) (λ reply. Done (closed_sent f stream.id s))

-- CLOSE_STREAM: KeyEnoent where the connection has no stream of the vBucket; one whose end is not put counts as one
abbrev pub close_requested : Frame → Served → Prog Served
close_requested f s = once_open f s (stream_closed f s (stream_at f.vb_or_status s.end.streams))

-- the failover log, as an answer that has it tells it
abbrev pub log_given : VbAnswer → Option (List LogEntry)
log_given (answer.Logged log) = Some log
log_given other = None

-- a log that was given can be sent
abbrev pub IsSendable : Option (List LogEntry) → Type 0
IsSendable None = Unit {0}
IsSendable (Some log) = IsSpelledLog (status_code status.Success) log

-- GET_FAILOVER_LOG, by the vBucket's log; a vBucket gives no other answer
abbrev pub log_sent : Frame → Served → Option (List LogEntry) → Served
log_sent f s None = status_sent f status.Einval s
log_sent f s (Some log) = with_frame s (dcp_frame (msg.LogAnswer (status_code status.Success) log) f.opaque 0)

-- NotMyVbucket where there is no such vBucket
abbrev pub log_answered : Frame → Served → Option VbReply → Served
log_answered f s None = status_sent f status.NotMyVbucket s
log_answered f s (Some reply) = log_sent f s (log_given reply.answer)

-- GET_FAILOVER_LOG: the failover log of a vBucket, whatever its role
abbrev pub log_requested : Frame → Served → Prog Served
log_requested f s = once_open f s (Call f.vb_or_status call.Log (λ reply. Done (log_answered f s reply)))

-- a stream that is fed: of a link's connection, whose consumer may be a member of a chain, and of no client's; one that a change of role ended counts as none, also before its end is put
abbrev pub fed_stream : StreamName → Option PlainStream → Option PlainStream
fed_stream name None = None
fed_stream name (Some stream) = if is_client name || stream.ended then None else Some stream

-- whose acknowledgement of all up to a seqno it is, or why the producer refuses it: NotSupported where no such stream is fed, next Einval where the consumer's name is no member's, and Erange above what the consumer may have
abbrev pub weighed : ℕ → Option PlainStream → Option ℕ → Result ℕ Status
weighed seq None member = Err status.NotSupported
weighed seq (Some stream) None = Err status.Einval
weighed seq (Some stream) (Some member) = if nat_lt stream.reached seq then Err status.Erange else Ok member

-- the line of an acknowledgement that was counted
abbrev pub counted_line : Desk → Frame → ℕ → ℕ → Event
counted_line desk f member seq = event.Counted desk.stream desk.node f.vb_or_status member seq

-- an acknowledgement was counted: a line tells of it, and then one of each change that the vBucket made with it. There is no answer
abbrev pub counted_with : Frame → ℕ → ℕ → VbReply → Served → Served
counted_with f member seq reply s = record s {
  events = s.events ++ counted_line s.end.desk f member seq ∷ map (event.Changed s.end.desk.node f.vb_or_status reply.branch) reply.changes;
  resolved = reply.resolved;
}

-- the vBucket counted it, or refused it with a status
abbrev pub counted_by : Frame → ℕ → ℕ → VbReply → VbAnswer → Served → Served
counted_by f member seq reply (answer.Status st) s = status_sent f st s
counted_by f member seq reply other s = counted_with f member seq reply s

-- where there is no such vBucket, it is refused as at one that is not active
abbrev pub count_answered : Frame → ℕ → ℕ → Served → Option VbReply → Served
count_answered f member seq s None = status_sent f status.NotMyVbucket s
count_answered f member seq s (Some reply) = counted_by f member seq reply reply.answer s

-- the vBucket is to count a member's acknowledgement, unless that was refused
abbrev pub count_requested : Frame → ℕ → Served → Result ℕ Status → Prog Served
count_requested f seq s (Err st) = Done (status_sent f st s)
count_requested f seq s (Ok member) = Call f.vb_or_status (call.Ack member seq) (λ reply. Done (count_answered f member seq s reply))

-- SEQNO_ACKNOWLEDGED: the consumer has all up to this seqno; Einval before OPEN, as all requests are
unfoldable pub acknowledged : Frame → ℕ → Served → Prog Served
acknowledged f seq s = once_open f s (count_requested f seq s (weighed seq (fed_stream s.end.desk.stream (stream_at f.vb_or_status s.end.streams)) (member_of s.end.handshake)))

-- NOOP
abbrev pub noop_answered : Frame → Served → Served
noop_answered f s = status_sent f (if is_open s.end.handshake then status.Success else status.Einval) s

-- BUFFER_ACKNOWLEDGEMENT: so many bytes are outstanding no more; there is no answer, unless it comes before OPEN
abbrev pub bytes_acknowledged : Frame → ℕ → Served → Served
bytes_acknowledged f bytes s =
    if is_open s.end.handshake then record s { end = record s.end { window = with_acked bytes s.end.window } }
    else status_sent f status.Einval s

-- a message, by its row; a producer takes no other
abbrev pub message_answered : Frame → DcpMsg → Served → Prog Served
message_answered f (msg.Open number flags name) s = Done (opened_unless (open_refusal s.end.handshake flags) f s)
message_answered f (msg.Control key value) s = Done (control_answered f key value s)
message_answered f (msg.StreamRequest ask) s = stream_request f ask s
message_answered f (msg.SeqnoAcknowledged seq) s = acknowledged f seq s
message_answered f (msg.BufferAcknowledgement bytes) s = Done (bytes_acknowledged f bytes s)
message_answered f msg.CloseStream s = close_requested f s
message_answered f msg.GetFailoverLog s = log_requested f s
message_answered f msg.Noop s = Done (noop_answered f s)
message_answered f other s = Done (status_sent f status.Einval s)

-- a message that was read, or Einval where a part is not the row's
abbrev pub row_answered : Frame → Result DcpMsg DcpFault → Served → Prog Served
row_answered f (Err fault) s = Done (status_sent f status.Einval s)
row_answered f (Ok m) s = message_answered f m s

-- what was read of a frame: Einval where it has a datatype, or is of a row that a producer does not take
abbrev pub read_answered : Frame → Option (Result DcpMsg DcpFault) → Served → Prog Served
read_answered f None s = Done (status_sent f status.Einval s)
read_answered f (Some read) s = if f.datatype == 0 then row_answered f read s else Done (status_sent f status.Einval s)

-- a state that a stream put with this opaque was answered; a stream that waits for no answer, or gives no vBucket up, is as it was
abbrev pub heard : ℕ → PlainStream → PlainStream
heard opaque stream = if stream.opaque == opaque then record stream { gives = option_map answered stream.gives } else stream

-- a response says that a state was taken: its opcode is that of a state, and its status Success
abbrev pub is_taken : Frame → Bool
is_taken f = f.opcode == 0x5b && f.vb_or_status == 0

-- a response: that a state was taken is heard by the streams of its opaque, and any other answers nothing that is waited for, and is dropped
abbrev pub response_heard : Frame → Served → Served
response_heard f s = if is_taken f then record s { end = record s.end { streams = map (heard f.opaque) s.end.streams } } else s

-- a request is answered, with UnknownCommand where DCP has no such opcode; a response has no answer
unfoldable pub frame_answered : Frame → Served → Prog Served
frame_answered f s =
    if f.magic == RESPONSE then Done (response_heard f s)
    else if list_any (λ o. o == f.opcode) dcp_opcodes then read_answered f (read_of f) s
    else Done (status_sent f status.UnknownCommand s)
