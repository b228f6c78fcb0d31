-- what the lines of a group tell, read one after another
use Rattle.std.specs.Prelude.{ℕ, ◌==◌, ◌-◌, ◌&&◌, ◌||◌, if◌then◌else◌, nat_le, nat_lt, Bool, true, false, List, [], ◌∷◌, ◌++◌, drop, Option, Some, None}
use Rattle.std.specs.Option.{option_map}
use Rattle.std.specs.List.{filter}
use Rattle.vb_types.specs.declared.change.Change.{Change}
use Rattle.vb_types.specs.declared.stream.AskAnswer.{AskAnswer}
use Rattle.vb_types.specs.declared.stream.AskAnswer.TheVariants as ask_answer
use Rattle.vb_events.specs.declared.event.Event.{Event}
use Rattle.vb_events.specs.declared.event.Event.TheVariants as event
use Rattle.vb_events.specs.declared.event.StreamName.{StreamName}
use Rattle.vb_events.specs.declared.event.StreamName.TheVariants as name
use Rattle.vb_types.specs.declared.position.Position.{Position}
use Rattle.vb_types.specs.declared.role.LogEntry.{LogEntry}
use Rattle.vb_types.specs.declared.role.Role.{Role}
use Rattle.vb_types.specs.declared.role.Role.TheVariants.{Active, Dead, Pending, Replica}
use Rattle.vb_types.specs.declared.stream.StreamAsk.{StreamAsk}
use Rattle.vb_types.specs.Histories.{upto}
use Rattle.vb_types.specs.declared.journal.Batch.{Batch}
use Rattle.vb_types.specs.declared.journal.Record.{Record}
use Rattle.vb_types.specs.declared.journal.Record.TheVariants as noted
use Rattle.vb_disk.specs.declared.fuse.Fuse.{Fuse}
use Rattle.vb_disk.specs.declared.fuse.Fuse.TheVariants.{Off, Stop, Fail}
use Rattle.vb_disk.specs.declared.made.Outcome.{Outcome}
use Rattle.vb_disk.specs.declared.made.Outcome.TheVariants.{Old, New, Fill}
use Rattle.branch_model.specs.Histories.{last_seq}
use Rattle.branch_model.specs.Journals.{points}
use Rattle.durability.specs.Chains.{Members}
use Rattle.branch_model.specs.Logs.{front, uuid_of, with_entry, kept_to}
use Rattle.branch_model.specs.Trees.{Branch, grow, hist}
use Rattle.vb_calls.specs.State.{is_active}
pub use Rattle.vb_calls.specs.Spans.{is_durable}
pub use Rattle.transcript_law.specs.LastLines.{Conns, LastLine, OwnChange, number_of, numbered, risen_through, risen_to, served_then, told_for, with_served}
pub use Rattle.transcript_law.specs.TakeoversTold.{Answered, Obeyed, Obeys, Put, TakeoverKnown, dialed_for, with_moved, with_role, with_state}
pub use Rattle.transcript_law.specs.StreamsTold.{Begun, ClientsKnown, ItemLine, blank_client, is_from_disk, more_items, with_at, with_id}
use Rattle.transcript_law.specs.ClientStreams.{clients_line, past_turn, with_clients_of}

-- a stream that was let continue: the request, the producer's failover log, the place up to which snapshots were begun, the last one of them, whether its
-- end was put, what was put and its consumer did not take yet: the starts and ends of markers, and the items; and up to where its consumer acknowledged, each time
pub record Granted : Type 0 where
  pub ask : StreamAsk
  pub log : List LogEntry
  pub place : ℕ
  pub last : Option Begun
  pub over : Bool
  pub marks : List (ℕ × ℕ)
  pub coming : List ItemLine
  pub wrote : List ℕ

-- the node that a link dials, and the vBucket that it does so for, with its node
pub record Dial : Type 0 where
  pub producer : ℕ
  pub node : ℕ
  pub vb : ℕ

-- what counts where an active vBucket commits or gives up: the other members of its chain; what it counted since it is active there, each of a node, up to a seqno; and the last seqno that it held when it became active, up to where the prepares that wait were left by a former active node; and which changes it made of its own since, each by its seqno, and what its node's clock showed then
pub record CountsKnown : Type 0 where
  pub chain : Members
  pub acks : List (ℕ × ℕ)
  pub risen : ℕ
  pub times : List (ℕ × ℕ)

-- nobody else does, nothing was counted and no change was made, of a vBucket that held this seqno last
abbrev pub alone : ℕ → CountsKnown
alone at = record { chain = []; acks = []; risen = at; times = [] }

-- a batch of a vBucket: none is on its way; this one was taken, of which lines tell the position and the failover log; one that ends at a seqno was written down, and the vBucket does not count it as saved yet
pub data Flushing : Type 0 where
  Idle : Flushing
  Taken : Batch → Flushing
  Written : ℕ → Flushing

-- what a vBucket wrote down: the batch on its way; the records that stand, the last first, without the changes and the CAS of batches, of which lines do not tell; the record whose append was broken off, where a crash may find it; up to where all counts as saved, and up to where all was taken to be written down, also by a batch that is gone; whether it has a disk; and whether its journal is closed, which takes no record then until a crash
pub record DiskKnown : Type 0 where
  pub flushing : Flushing
  pub book : List Record
  pub late : Option Record
  pub saved : ℕ
  pub taken : ℕ
  pub there : Bool
  pub closed : Bool

-- nothing was written down
abbrev pub blank_disk : DiskKnown
blank_disk = record { flushing = Idle; book = []; late = None; saved = 0; taken = 0; there = false; closed = false }

-- the positions of the batches that stand, the last first
abbrev pub stood : DiskKnown → List Position
stood d = points d.book

-- a batch as lines tell it
abbrev pub known_batch : Position → List LogEntry → Batch
known_batch p log = record { position = p; cas = 0; log = log; items = [] }

-- what is to befall a device call of a node, what a stop in it leaves of the node's disks, and whether the node is down
pub record ArmKnown : Type 0 where
  pub fuse : Fuse
  pub out : Outcome
  pub down : Bool

-- nothing is, and the node is not down
abbrev pub no_arm : ArmKnown
no_arm = record { fuse = Off; out = Old; down = false }

-- nothing is, and the node is down
abbrev pub known_down : ArmKnown
known_down = record { fuse = Off; out = Old; down = true }

-- the line that was read last, as long as the numbers of lines rise and are below 2^32, and none for good once they did not; the branches, the newest first; the role of a vBucket of a node, where it is known, which is none before it is made; the changes that it holds, the
-- branch that it is on, and its failover log, where that is known; for each branch id, the node and the vBucket that made the branch or took it over
-- last; for each link that is not over, its dial; for each stream's name and vBucket, the stream; and for each link the point that its last request was
-- sent back to, until its consumer went back; and for each link the state that was put last on its stream, if one was, and what else is known of it where it may take a vBucket over; whether a vBucket changed since it was sealed last, took a marker, got a role or went back;
-- the start and end of the snapshot that it is in, where that is known; what it wrote down; and what counts where it commits; what each node's clock shows; the connections of
-- clients that were open before this group, but for those of a node that stopped in it; what is known of each of them and of its streams; the changes that vBuckets made of their own in this group, the last first, but for sets and removals before its last answer; the vBucket, with its node, whose prepares the line of this group gives up, where it is such a line; and whether a change was told in this group since a client was sent a frame in it
pub record Chronicle : Type 0 where
  pub last : Option LastLine
  pub tree : List Branch
  pub role_at : ℕ → ℕ → Option (Option Role)
  pub held : ℕ → ℕ → List Change
  pub branch_at : ℕ → ℕ → Option ℕ
  pub log_at : ℕ → ℕ → Option (List LogEntry)
  pub writer_of : ℕ → Option (ℕ × ℕ)
  pub dial_of : ℕ → Option Dial
  pub stream_of : StreamName → ℕ → Option Granted
  pub point_of : ℕ → Option ℕ
  pub stated_of : ℕ → Option Role
  pub takeover_of : ℕ → TakeoverKnown
  pub open_at : ℕ → ℕ → Bool
  pub snap_at : ℕ → ℕ → Option (ℕ × ℕ)
  pub disk_at : ℕ → ℕ → DiskKnown
  pub counts_at : ℕ → ℕ → CountsKnown
  pub arm_at : ℕ → ArmKnown
  pub clock_at : ℕ → ℕ
  pub conn_at : Conns
  pub clients_at : ClientsKnown
  pub made : List OwnChange
  pub ticks : Option (ℕ × ℕ)
  pub changed : Bool

-- a line of the script with this number begins
abbrev pub at_line : Chronicle → ℕ → Chronicle
at_line chronicle number = record chronicle { last = numbered chronicle.last number }

-- before the first line it is known that there is no vBucket
abbrev pub empty_chronicle : Chronicle
empty_chronicle = record {
  last = Some (record { number = 0; served = λ n c. None });
  tree = [];
  role_at = λ n v. Some None;
  held = λ n v. [];
  branch_at = λ n v. None;
  log_at = λ n v. Some [];
  writer_of = λ u. None;
  dial_of = λ l. None;
  stream_of = λ s v. None;
  point_of = λ l. None;
  stated_of = λ l. None;
  takeover_of = λ l. dialed_for false;
  open_at = λ n v. false;
  snap_at = λ n v. Some (0, 0);
  disk_at = λ n v. blank_disk;
  counts_at = λ n v. alone 0;
  arm_at = λ n. no_arm;
  clock_at = λ n. 0;
  conn_at = λ n c. false;
  clients_at = λ n c. blank_client;
  made = [];
  ticks = None;
  changed = false;
}

-- the branch that a new one was made from: the one named, or, where none is and the new one begins above 0, the one that
-- its vBucket was on
abbrev pub parent_branch : Option ℕ → ℕ → Option ℕ → Option ℕ
parent_branch (Some parent) fork before = Some parent
parent_branch None fork before = if nat_lt 0 fork then before else None

-- the changes above `low` and up to `high`
abbrev pub changes_between : ℕ → ℕ → List Change → List Change
changes_between low high changes = filter (λ c. nat_lt low c.seq) (upto changes high)

-- a vBucket whose node alone is its chain, and which counted nothing yet: what it makes of its own comes above what it holds
abbrev pub uncounted : Chronicle → ℕ → ℕ → Chronicle
uncounted chronicle n v = record chronicle { counts_at = with_at chronicle.counts_at n v (alone (last_seq 0 (chronicle.held n v))) }

-- a new branch at a vBucket, which is its writer; its own changes so far are those that the vBucket holds above the fork. Nothing was counted on it yet
abbrev pub after_branch : Chronicle → ℕ → ℕ → ℕ → Option ℕ → ℕ → ℕ → Chronicle
after_branch chronicle n v uuid parent fork high = record (uncounted chronicle n v) {
  tree = record {
    id = uuid;
    parent = parent_branch parent fork (chronicle.branch_at n v);
    fork = fork;
    own = changes_between fork high (chronicle.held n v);
  } ∷ chronicle.tree;
  branch_at = with_at chronicle.branch_at n v (Some uuid);
  log_at = with_at chronicle.log_at n v (option_map (with_entry uuid fork) (chronicle.log_at n v));
  writer_of = with_id chronicle.writer_of uuid (Some (n, v));
  snap_at = with_at chronicle.snap_at n v (Some (high, high));
}

-- the snapshot of a vBucket that gets a role, and holds these changes: one that becomes active is at their end, and any other is where it was
abbrev pub snap_in_role : Role → List Change → Option (ℕ × ℕ) → Option (ℕ × ℕ)
snap_in_role Active held before = Some (last_seq 0 held, last_seq 0 held)
snap_in_role Replica held before = before
snap_in_role Pending held before = before
snap_in_role Dead held before = before

-- this is the branch that a vBucket is on, if it is on one
abbrev pub is_branch : Option ℕ → ℕ → Bool
is_branch None u = false
is_branch (Some uuid) u = uuid == u

-- a vBucket in another role, in which nothing was counted yet; one that is active is the writer of its branch
abbrev pub after_role : Chronicle → ℕ → ℕ → Role → Chronicle
after_role chronicle n v role = record (uncounted chronicle n v) {
  role_at = with_at chronicle.role_at n v (Some (Some role));
  writer_of = λ u. if is_active role && is_branch (chronicle.branch_at n v) u then Some (n, v) else chronicle.writer_of u;
  open_at = with_at chronicle.open_at n v false;
  snap_at = with_at chronicle.snap_at n v (snap_in_role role (chronicle.held n v) (chronicle.snap_at n v));
  clients_at = with_clients_of chronicle.clients_at n (past_turn v (chronicle.held n v));
}

-- the changes that a vBucket holds, with one more
abbrev pub held_more : Chronicle → ℕ → ℕ → Change → ℕ → ℕ → List Change
held_more chronicle n v change = with_at chronicle.held n v (chronicle.held n v ++ change ∷ [])

-- one more change that a vBucket made when its node's clock showed so much
abbrev pub timed : ℕ → ℕ → CountsKnown → CountsKnown
timed seq clock counts = record counts { times = (seq, clock) ∷ counts.times }

-- one more change on a branch, which the vBucket that made it holds
abbrev pub after_change : Chronicle → ℕ → ℕ → ℕ → Change → Chronicle
after_change chronicle n v uuid change = record chronicle {
  tree = grow chronicle.tree uuid change;
  held = held_more chronicle n v change;
  open_at = with_at chronicle.open_at n v true;
  snap_at = with_at chronicle.snap_at n v (Some (change.seq, change.seq));
  made = record { node = n; vb = v; branch = uuid; change = change; clock = chronicle.clock_at n } ∷ chronicle.made;
  changed = true;
  counts_at = with_at chronicle.counts_at n v (timed change.seq (chronicle.clock_at n) (chronicle.counts_at n v));
}

-- two streams have the same name
abbrev pub is_name : StreamName → StreamName → Bool
is_name (name.Link k) (name.Link l) = k == l
is_name (name.Link k) (name.Client n c) = false
is_name (name.Client m d) (name.Link l) = false
is_name (name.Client m d) (name.Client n c) = m == n && d == c

-- the stream of this name at the vBucket v is as this from now on
abbrev pub with_stream : Chronicle → StreamName → ℕ → Option Granted → Chronicle
with_stream chronicle stream v is = record chronicle { stream_of = λ s w. if is_name s stream && w == v then is else chronicle.stream_of s w }

-- a dial is for the vBucket v of some node
abbrev pub is_dial_of : ℕ → Option Dial → Bool
is_dial_of v None = false
is_dial_of v (Some dial) = dial.vb == v

-- a line of a stream names no vBucket: that of a link is the one that the link was dialed for. Of clients' streams nothing is told here
abbrev pub is_stream_of : Chronicle → StreamName → ℕ → Bool
is_stream_of chronicle (name.Link l) v = is_dial_of v (chronicle.dial_of l)
is_stream_of chronicle (name.Client n c) v = false

-- the stream of this name is changed so
abbrev pub with_changed : Chronicle → StreamName → (Granted → Granted) → Chronicle
with_changed chronicle stream change = record chronicle {
  stream_of = λ s w. if is_name s stream && is_stream_of chronicle stream w then option_map change (chronicle.stream_of s w) else chronicle.stream_of s w;
}

-- a link's last request was sent back to this point, if it was sent back
abbrev pub with_point : Chronicle → ℕ → Option ℕ → Chronicle
with_point chronicle l point = record chronicle { point_of = with_id chronicle.point_of l point }

-- a dial has an end at the node n
abbrev pub is_dial_at : ℕ → Option Dial → Bool
is_dial_at n None = false
is_dial_at n (Some dial) = dial.producer == n || dial.node == n

-- a stream is of a link that has one
abbrev pub is_stream_at : Chronicle → ℕ → StreamName → Bool
is_stream_at chronicle n (name.Link l) = is_dial_at n (chronicle.dial_of l)
is_stream_at chronicle n (name.Client m c) = false

-- a link that ended is between nobody, has no stream and no state on it, and sends nobody back
abbrev pub after_end : Chronicle → ℕ → Chronicle
after_end chronicle l = record chronicle {
  dial_of = with_id chronicle.dial_of l None;
  stream_of = λ s w. if is_name s (name.Link l) then None else chronicle.stream_of s w;
  point_of = with_id chronicle.point_of l None;
  stated_of = with_id chronicle.stated_of l None;
}

-- the branch that the producer's vBucket of a link is on, if the link is dialed
abbrev pub fed_branch : Chronicle → Option Dial → Option ℕ
fed_branch chronicle None = None
fed_branch chronicle (Some dial) = chronicle.branch_at dial.producer dial.vb

-- a state was put on the stream of the link l: where it is active, nobody writes on the branch of the vBucket that feeds the link, until another takes it over
abbrev pub after_state : Chronicle → ℕ → Role → Chronicle
after_state chronicle l role = record chronicle {
  stated_of = with_id chronicle.stated_of l (Some role);
  writer_of = λ u. if is_active role && is_branch (fed_branch chronicle (chronicle.dial_of l)) u then None else chronicle.writer_of u;
}

-- a stream that was let continue begins where was asked, with no snapshot
abbrev pub granted : StreamAsk → List LogEntry → Granted
granted ask log = record { ask = ask; log = log; place = ask.start; last = None; over = false; marks = []; coming = []; wrote = [] }

-- a request for a stream of the vBucket v that was let continue makes the link's stream; one that was sent back waits for its consumer to go back
abbrev pub after_ask : Chronicle → ℕ → ℕ → StreamAsk → List LogEntry → AskAnswer → Chronicle
after_ask chronicle l v ask log ask_answer.Go = with_stream chronicle (name.Link l) v (Some (granted ask log))
after_ask chronicle l v ask log (ask_answer.Roll to) = with_point chronicle l (Some to)
after_ask chronicle l v ask log (ask_answer.Refuse code) = chronicle

-- the branch of a stream: the newest of its producer's log
abbrev pub stream_branch : Granted → ℕ
stream_branch g = uuid_of (front g.log)

-- the stream with one more snapshot begun, whose marker goes from `start` to `end` and has these flags, while the branches were these
abbrev pub with_begun : List Branch → ℕ → ℕ → ℕ → Granted → Granted
with_begun tree start end flags g = record {
  ask = g.ask;
  log = g.log;
  place = end;
  last = Some (record { history = hist tree (stream_branch g); from = g.place; end = end; disk = is_from_disk flags; items = [] });
  over = g.over;
  marks = g.marks ++ (start, end) ∷ [];
  coming = g.coming;
  wrote = g.wrote;
}

-- the stream with one more item of its last snapshot
abbrev pub with_item : ItemLine → Granted → Granted
with_item item g = record { ask = g.ask; log = g.log; place = g.place; last = option_map (more_items item) g.last; over = g.over; marks = g.marks; coming = g.coming ++ item ∷ []; wrote = g.wrote }

-- the stream, of which the end was put
abbrev pub finished : Granted → Granted
finished g = record { ask = g.ask; log = g.log; place = g.place; last = g.last; over = true; marks = g.marks; coming = g.coming; wrote = g.wrote }

-- the stream, of which the consumer took the next item
abbrev pub past_next : Granted → Granted
past_next g = record { ask = g.ask; log = g.log; place = g.place; last = g.last; over = g.over; marks = g.marks; coming = drop 1 g.coming; wrote = g.wrote }

-- the stream, of which the consumer took the next marker
abbrev pub past_mark : Granted → Granted
past_mark g = record { ask = g.ask; log = g.log; place = g.place; last = g.last; over = g.over; marks = drop 1 g.marks; coming = g.coming; wrote = g.wrote }

-- the stream, on which the consumer acknowledged once more
abbrev pub acknowledging : ℕ → Granted → Granted
acknowledging seq g = record { ask = g.ask; log = g.log; place = g.place; last = g.last; over = g.over; marks = g.marks; coming = g.coming; wrote = seq ∷ g.wrote }

-- a vBucket that takes the next change of a stream holds it
abbrev pub after_take : Chronicle → ℕ → ℕ → StreamName → Change → Chronicle
after_take chronicle n v stream change = with_changed (record chronicle { held = held_more chronicle n v change; open_at = with_at chronicle.open_at n v true }) stream past_next

-- a consumer that took its producer's log over is on the newest branch of it
abbrev pub after_adopt : Chronicle → ℕ → ℕ → List LogEntry → Chronicle
after_adopt chronicle n v log = record chronicle {
  branch_at = with_at chronicle.branch_at n v (option_map (λ e. e.uuid) (front log));
  log_at = with_at chronicle.log_at n v (Some log);
}

-- a dial is for the vBucket v of the node n
abbrev pub is_dial_for : ℕ → ℕ → Option Dial → Bool
is_dial_for n v None = false
is_dial_for n v (Some dial) = dial.node == n && dial.vb == v

-- a stream feeds the vBucket v of the node n
abbrev pub is_feed_of : Chronicle → ℕ → ℕ → StreamName → Bool
is_feed_of chronicle n v (name.Link l) = is_dial_for n v (chronicle.dial_of l)
is_feed_of chronicle n v (name.Client m c) = false

-- a vBucket that takes a marker is in its snapshot, and takes the next one of the stream that feeds it
abbrev pub after_range : Chronicle → ℕ → ℕ → ℕ → ℕ → Chronicle
after_range chronicle n v ss se = record chronicle {
  stream_of = λ s w. if is_feed_of chronicle n v s then option_map past_mark (chronicle.stream_of s w) else chronicle.stream_of s w;
  open_at = with_at chronicle.open_at n v false;
  snap_at = with_at chronicle.snap_at n v (Some (ss, se));
}

-- ---- arms, as device calls are counted

-- what is left of an arm behind so many device calls: it is off once the call of its number was made
abbrev pub spent : ℕ → Fuse → Fuse
spent calls Off = Off
spent calls (Stop k) = if nat_le k calls then Off else Stop (k - calls)
spent calls (Fail k) = if nat_le k calls then Off else Fail (k - calls)

-- an append makes four device calls
abbrev pub calls_of_append : ℕ
calls_of_append = 4

-- the arm of the node n after so many
abbrev pub after_calls : ℕ → ℕ → Chronicle → Chronicle
after_calls calls n chronicle = record chronicle { arm_at = with_id chronicle.arm_at n (record (chronicle.arm_at n) { fuse = spent calls (chronicle.arm_at n).fuse }) }

-- a record whose append was broken off, where a crash may find it: after a stop inside its third or fourth call, and after a failure of the fourth
abbrev pub late_record : Fuse → Record → Option Record
late_record Off r = None
late_record (Stop k) r = if nat_le 3 k then Some r else None
late_record (Fail k) r = if k == 4 then Some r else None

-- a crash finds it exactly where it leaves everything, or the byte 1
abbrev pub finds : Outcome → Bool
finds Old = false
finds New = true
finds (Fill byte) = byte == 1

-- a vBucket that went back to a seqno wrote that down; no batch is on its way any more
abbrev pub disk_back : ℕ → DiskKnown → DiskKnown
disk_back to d = record d { flushing = Idle; book = noted.Roll to ∷ d.book; saved = to; taken = to }

-- a vBucket that went back to a seqno holds the changes up to there, and keeps the entries of its log up to there; no link sends it back any more
abbrev pub after_roll : Chronicle → ℕ → ℕ → ℕ → Chronicle
after_roll chronicle n v to = record chronicle {
  held = with_at chronicle.held n v (upto (chronicle.held n v) to);
  log_at = with_at chronicle.log_at n v (option_map (kept_to to) (chronicle.log_at n v));
  point_of = λ l. if is_dial_for n v (chronicle.dial_of l) then None else chronicle.point_of l;
  open_at = with_at chronicle.open_at n v false;
  snap_at = with_at chronicle.snap_at n v (Some (to, to));
  disk_at = with_at chronicle.disk_at n v (disk_back to (chronicle.disk_at n v));
}

-- the vBucket v of the node n with this written down
abbrev pub with_disk : Chronicle → ℕ → ℕ → DiskKnown → Chronicle
with_disk chronicle n v d = record chronicle { disk_at = with_at chronicle.disk_at n v d }

-- a failover log, where it is known
abbrev pub known_log : Option (List LogEntry) → List LogEntry
known_log None = []
known_log (Some log) = log

-- a batch up to a position is on its way, with the failover log that the vBucket has then
abbrev pub after_batch : Chronicle → ℕ → ℕ → Position → Chronicle
after_batch chronicle n v p = with_disk chronicle n v (record (chronicle.disk_at n v) { flushing = Taken (known_batch p (known_log (chronicle.log_at n v))); taken = p.at })

-- one more is counted at a vBucket: the node acknowledged all up to a seqno
abbrev pub after_count : Chronicle → ℕ → ℕ → ℕ → ℕ → Chronicle
after_count chronicle n v member seq = record chronicle { counts_at = with_at chronicle.counts_at n v (record (chronicle.counts_at n v) { acks = (member, seq) ∷ (chronicle.counts_at n v).acks }) }

-- the roles behind a line of a new branch, by whether its node is told down: one that is starts, and has no line for the role, so its vBucket takes writes from its branch on
abbrev pub roles_from : Bool → (ℕ → ℕ → Option (Option Role)) → ℕ → ℕ → ℕ → ℕ → Option (Option Role)
roles_from true roles n v = with_at roles n v (Some (Some Active))
roles_from false roles n v = roles

-- a frame for a client answers the sets and removals before it, if any
abbrev pub made_line : List OwnChange → Event → List OwnChange
made_line made (event.Reply n c bytes) = filter (λ m. is_durable m.change.act) made
made_line made other = made

-- and then none was told since
abbrev pub changed_line : Bool → Event → Bool
changed_line changed (event.Reply n c bytes) = false
changed_line changed other = changed

-- a line that tells of clients alone: of their streams, or of a frame for one
abbrev pub after_client_line : Chronicle → Event → Chronicle
after_client_line chronicle line = record chronicle { clients_at = clients_line chronicle.tree chronicle.clients_at line; made = made_line chronicle.made line; changed = changed_line chronicle.changed line }

-- the open connections, but for those of the node n
abbrev pub without_node : Conns → ℕ → Conns
without_node conns n = λ m c. if m == n then false else conns m c

-- what is told with one more line; a line of another kind tells nothing of branches and of links' streams
abbrev pub after_line : Chronicle → Event → Chronicle
after_line chronicle (event.Branch n v uuid parent fork high) = record (after_branch chronicle n v uuid parent fork high) { role_at = roles_from (chronicle.arm_at n).down chronicle.role_at n v }
after_line chronicle (event.Role n v role) = after_role chronicle n v role
after_line chronicle (event.Changed n v uuid change) = after_change chronicle n v uuid change
after_line chronicle (event.Reply n c bytes) = after_client_line chronicle (event.Reply n c bytes)
after_line chronicle (event.Closed n c) = after_client_line chronicle (event.Closed n c)
after_line chronicle (event.Asked (name.Link l) n v ask high log said) = after_ask chronicle l v ask log said
after_line chronicle (event.Asked (name.Client m c) n v ask high log said) = after_client_line chronicle (event.Asked (name.Client m c) n v ask high log said)
after_line chronicle (event.Marked (name.Link l) start end flags) = with_changed chronicle (name.Link l) (with_begun chronicle.tree start end flags)
after_line chronicle (event.Marked (name.Client m c) start end flags) = after_client_line chronicle (event.Marked (name.Client m c) start end flags)
after_line chronicle (event.Item (name.Link l) seq act key) = with_changed chronicle (name.Link l) (with_item (record { seq = seq; act = act; key = key }))
after_line chronicle (event.Item (name.Client m c) seq act key) = after_client_line chronicle (event.Item (name.Client m c) seq act key)
after_line chronicle (event.Finished (name.Link l) reason) = with_changed chronicle (name.Link l) finished
after_line chronicle (event.Finished (name.Client m c) reason) = after_client_line chronicle (event.Finished (name.Client m c) reason)
after_line chronicle (event.Stated (name.Link l) role) = after_state chronicle l role
after_line chronicle (event.Stated (name.Client m c) role) = chronicle
after_line chronicle (event.Adopted n v log) = after_adopt chronicle n v log
after_line chronicle (event.Ranged n v ss se) = after_range chronicle n v ss se
after_line chronicle (event.Got n v stream change) = after_take chronicle n v stream change
after_line chronicle (event.Rolled n v named to) = after_roll chronicle n v to
after_line chronicle (event.Acknowledged stream n v seq saved) = with_changed chronicle stream (acknowledging seq)
after_line chronicle (event.Counted stream n v member seq) = after_count chronicle n v member seq
after_line chronicle (event.Batch n v ss se at count) = after_batch chronicle n v (record { ss = ss; se = se; at = at })
after_line chronicle (event.Stat n v windows items cursors saved high) = chronicle
after_line chronicle (event.CallFailed n) = chronicle
after_line chronicle (event.NodeStopped n) = record chronicle { conn_at = without_node chronicle.conn_at n }
after_line chronicle (event.Ended l reason) = after_end chronicle l
after_line chronicle (event.Shown n v role uuid at ss se docs preps) = chronicle
after_line chronicle (event.Logged n v log) = chronicle
after_line chronicle (event.Document key doc) = chronicle
after_line chronicle (event.Prepared key seq level) = chronicle

-- and with more lines
abbrev pub after_lines : Chronicle → List Event → Chronicle
after_lines chronicle [] = chronicle
after_lines chronicle (line ∷ lines) = after_lines (after_line chronicle line) lines
