-- what the lines of a transcript tell, read one after another: those of groups, and by them and their answers those of the script
use Rattle.std.specs.Prelude.{ℕ, ◌==◌, ◌&&◌, not, if◌then◌else◌, Bool, true, false, List, [], ◌∷◌, length, Option, Some, None}
use Rattle.std.specs.List.{filter, list_any}
use Rattle.script_text.specs.declared.verb.Verb.{Verb}
use Rattle.script_text.specs.declared.verb.Verb.TheVariants as verb
use Rattle.script_text.specs.declared.verb.VbVerb.TheVariants as vb_verb
use Rattle.script_text.specs.declared.verb.NodeVerb.TheVariants as node_verb
use Rattle.script_text.specs.declared.verb.LinkVerb.TheVariants as link_verb
use Rattle.script_text.specs.declared.verb.ClientVerb.TheVariants as client_verb
use Rattle.vb_events.specs.declared.event.Answer.{Answer}
use Rattle.vb_events.specs.declared.event.Answer.TheVariants as answer
use Rattle.vb_events.specs.declared.event.Event.{Event}
use Rattle.vb_events.specs.declared.event.Event.TheVariants as event
use Rattle.vb_types.specs.declared.role.LogEntry.{LogEntry}
use Rattle.vb_types.specs.declared.role.Role.{Role}
use Rattle.vb_types.specs.Histories.{upto}
use Rattle.vb_events.specs.declared.event.Cause.TheVariants as cause
use Rattle.vb_types.specs.declared.journal.Record.{Record}
use Rattle.vb_types.specs.declared.journal.Record.TheVariants as noted
use Rattle.vb_types.specs.declared.role.Role.TheVariants as role
use Rattle.vb_disk.specs.declared.fuse.Fuse.{Fuse}
use Rattle.vb_disk.specs.declared.fuse.Fuse.TheVariants.{Off, Stop, Fail}
use Rattle.vb_disk.specs.declared.made.Outcome.{Outcome}
use Rattle.vb_disk.specs.declared.made.Outcome.TheVariants.{Old}
use Rattle.disk_journals.specs.Books.{below}
use Rattle.durability.specs.Chains.{Members}
use Rattle.branch_model.specs.Journals.{found, last_log, log_of, place_of, role_of, roll_point}
pub use Rattle.transcript_law.specs.LinesTold.{ItemLine, Begun, Granted, Dial, OwnChange, CountsKnown, alone, Flushing, Idle, Taken, Written, DiskKnown, blank_disk, stood, known_batch, ArmKnown, Conns, no_arm, known_down, without_node}
pub use Rattle.transcript_law.specs.Clients.{conns_line, conns_lines, conns_verb}
use Rattle.transcript_law.specs.ClientStreams.{with_client, with_sent_bytes}
use Rattle.transcript_law.specs.TakeoverNotes.{takeovers_after}
pub use Rattle.transcript_law.specs.ClientStreams.{ClientsKnown, blank_client, clients_line}
pub use Rattle.transcript_law.specs.LinesTold.{Chronicle, LastLine, at_line, with_served, empty_chronicle, with_at, with_id, parent_branch, changes_between, uncounted, after_branch, snap_in_role, after_role, held_more, after_change, is_name, with_stream, is_dial_of, is_stream_of, with_changed}
pub use Rattle.transcript_law.specs.LinesTold.{with_point, is_dial_at, is_stream_at, after_end, after_state, fed_branch, is_branch, granted, after_ask, stream_branch, with_begun, more_items, with_item, finished, past_next, past_mark, acknowledging, after_take, after_adopt}
pub use Rattle.transcript_law.specs.LinesTold.{is_dial_for, is_feed_of, after_range, spent, calls_of_append, after_calls, late_record, finds, disk_back, after_roll, with_disk, known_log, after_batch, after_count, after_line, after_lines}

-- ---- what is written down

-- a record stands
abbrev pub with_record : Record → DiskKnown → DiskKnown
with_record r d = record d { book = r ∷ d.book }

-- a batch that was taken stands
abbrev pub batch_stands : Flushing → DiskKnown → DiskKnown
batch_stands (Taken b) d = record d { flushing = Written b.position.at; book = noted.Rows b ∷ d.book }
batch_stands other d = d

-- the record of a batch that was taken
abbrev pub batch_record : Flushing → Option Record
batch_record (Taken b) = Some (noted.Rows b)
batch_record other = None

-- a batch that could not be appended is gone
abbrev pub batch_gone : DiskKnown → DiskKnown
batch_gone d = record d { flushing = Idle }

-- the append of a record was broken off under this arm, which closes the journal
abbrev pub broken_by : Fuse → Option Record → DiskKnown → DiskKnown
broken_by f None d = d
broken_by f (Some r) d = record d { late = late_record f r; closed = true }

-- what becomes of a disk in a crash that leaves this
abbrev pub crashed_disk : Outcome → DiskKnown → DiskKnown
crashed_disk out d =
    let book = found d.book d.late (finds out) in record { flushing = Idle; book = book; late = None; saved = (place_of book).at; taken = (place_of book).at; there = d.there; closed = false }

-- the newest branch of a log, or the one before where it is empty
abbrev pub newest_or : Option ℕ → List LogEntry → Option ℕ
newest_or before [] = before
newest_or before (e ∷ older) = Some e.uuid

-- the role of a vBucket whose records tell this one last: one that was active takes no writes until it has a new branch, and neither does one of no role
abbrev pub rested : Option Role → Role
rested None = role.Dead
rested (Some role.Active) = role.Dead
rested (Some role.Replica) = role.Replica
rested (Some role.Pending) = role.Pending
rested (Some role.Dead) = role.Dead

-- the role of a vBucket that is what its records tell. One of which there is no record is not there
abbrev pub resting : List Record → Option Role
resting [] = None
resting (last ∷ older) = Some (rested (role_of (last ∷ older)))

-- a table by nodes and vBuckets, with this for each vBucket of the node n
abbrev pub with_row : {A : Type 0} → (ℕ → ℕ → A) → ℕ → (ℕ → A) → ℕ → ℕ → A
with_row table n row = λ m v. if m == n then row v else table m v

-- a node stopped, and its disks keep what this crash leaves: each vBucket is what its records tell, counted nothing yet, and the links that had an end at the node are over
abbrev pub after_crash : Chronicle → ℕ → Outcome → Chronicle
after_crash chronicle n out =
    let left : ℕ → DiskKnown = λ v. crashed_disk out (chronicle.disk_at n v) in
    record chronicle {
      role_at = with_row chronicle.role_at n (λ v. Some (resting (left v).book));
      held = with_row chronicle.held n (λ v. upto (chronicle.held n v) (place_of (left v).book).at);
      branch_at = with_row chronicle.branch_at n (λ v. newest_or (chronicle.branch_at n v) (last_log (left v).book));
      log_at = with_row chronicle.log_at n (λ v. Some (log_of (left v).book));
      open_at = with_row chronicle.open_at n (λ v. false);
      snap_at = with_row chronicle.snap_at n (λ v. Some ((place_of (left v).book).ss, (place_of (left v).book).se));
      disk_at = with_row chronicle.disk_at n left;
      counts_at = with_row chronicle.counts_at n (λ v. alone 0);
      arm_at = with_id chronicle.arm_at n known_down;
      clock_at = with_id chronicle.clock_at n 0;
      dial_of = λ l. if is_dial_at n (chronicle.dial_of l) then None else chronicle.dial_of l;
      stream_of = λ s w. if is_stream_at chronicle n s then None else chronicle.stream_of s w;
      point_of = λ l. if is_dial_at n (chronicle.dial_of l) then None else chronicle.point_of l;
      stated_of = λ l. if is_dial_at n (chronicle.dial_of l) then None else chronicle.stated_of l;
    }

-- a crash inside a line, which leaves what the arm says
abbrev pub after_stop : Chronicle → ℕ → Chronicle
after_stop chronicle n = after_crash chronicle n (chronicle.arm_at n).out

-- what an append makes of a disk: where it stands, and where it could not be made; and the record
pub record Appending : Type 0 where
  pub stands : DiskKnown → DiskKnown
  pub fails : DiskKnown → DiskKnown
  pub what : Option Record

-- of a role, and of a rollback: nothing but the record
abbrev pub appending : Record → Appending
appending r = record { stands = with_record r; fails = λ d. d; what = Some r }

-- of the batch that was taken: it waits to be done, or it is gone
abbrev pub saving : DiskKnown → Appending
saving d = record { stands = batch_stands d.flushing; fails = batch_gone; what = batch_record d.flushing }

-- the append by the vBucket v of the node n, by the answer of its line: it stands; its journal was closed; or it was broken off, and then the node may have stopped. A line that is refused for another cause appends nothing
abbrev pub after_append : Chronicle → ℕ → ℕ → Appending → Answer → Chronicle
after_append chronicle n v a answer.Ok = after_calls calls_of_append n (with_disk chronicle n v (a.stands (chronicle.disk_at n v)))
after_append chronicle n v a (answer.No cause.Closed) = with_disk chronicle n v (a.fails (chronicle.disk_at n v))
after_append chronicle n v a (answer.No cause.Disk) =
    after_calls calls_of_append n (with_disk chronicle n v (broken_by (chronicle.arm_at n).fuse a.what (a.fails (chronicle.disk_at n v))))
after_append chronicle n v a (answer.No cause.Stopped) =
    after_stop (with_disk chronicle n v (broken_by (chronicle.arm_at n).fuse a.what (a.fails (chronicle.disk_at n v)))) n
after_append chronicle n v a other = chronicle

-- the role and the log of a vBucket, as a record
abbrev pub state_of : Chronicle → ℕ → ℕ → Role → Record
state_of chronicle n v role = noted.State role (known_log (chronicle.log_at n v))

-- a line that gives the vBucket v of the node n this role
abbrev pub after_noted : Chronicle → ℕ → ℕ → Role → Answer → Chronicle
after_noted chronicle n v role said = after_append chronicle n v (appending (state_of chronicle n v role)) said

-- a vBucket that was made has a disk, whatever became of its first record
abbrev pub is_made : Answer → Bool
is_made answer.Ok = true
is_made (answer.No cause.Closed) = true
is_made (answer.No cause.Disk) = true
is_made (answer.No cause.Stopped) = true
is_made other = false

abbrev pub with_disk_there : Chronicle → ℕ → ℕ → Answer → Chronicle
with_disk_there chronicle n v said = if is_made said then with_disk chronicle n v (record (chronicle.disk_at n v) { there = true }) else chronicle

-- a line that makes the vBucket v of the node n in this role
abbrev pub after_made : Chronicle → ℕ → ℕ → Role → Answer → Chronicle
after_made chronicle n v role said = after_noted (with_disk_there chronicle n v said) n v role said

-- the rollback that a link's last request asks for, by what was read before the line: of the vBucket that dialed, to the greatest complete point of its journal up to the one that was named
abbrev pub rollback_of : Chronicle → Option Dial → Option ℕ → Option (ℕ × (ℕ × Record))
rollback_of before (Some dial) (Some named) = Some (dial.node, (dial.vb, noted.Roll (roll_point (before.disk_at dial.node dial.vb).book named)))
rollback_of before dial named = None

-- a line tells of a rollback
abbrev pub is_rollback : Event → Bool
is_rollback (event.Rolled n v named to) = true
is_rollback other = false

-- its line tells that it stands, which took its device calls; or it could not be written down
abbrev pub after_rollback : Chronicle → Option (ℕ × (ℕ × Record)) → List Event → Answer → Chronicle
after_rollback chronicle None lines said = chronicle
after_rollback chronicle (Some (n, (v, r))) lines (answer.No why) = after_append chronicle n v (appending r) (answer.No why)
after_rollback chronicle (Some (n, (v, r))) lines said = if list_any is_rollback lines then after_calls calls_of_append n chronicle else chronicle

-- a line tells that a vBucket is active. Among those of a link's bytes such a one tells that its vBucket took its branch over
abbrev pub is_rise : Event → Bool
is_rise (event.Role n v role.Active) = true
is_rise other = false

-- the first such vBucket that lines tell of, with its node
abbrev pub heir_in : List Event → Option (ℕ × ℕ)
heir_in [] = None
heir_in (event.Role n v role.Active ∷ lines) = Some (n, v)
heir_in (line ∷ lines) = heir_in lines

-- a line that moved bytes has written down what it had to, by its answer
abbrev pub as_noted : Answer → Answer
as_noted (answer.Number moved) = answer.Ok
as_noted other = other

-- where a link's bytes were taken one record is written down at most: that a vBucket which took its branch over is active; or else the rollback that it made
abbrev pub after_moved : Chronicle → Option (ℕ × ℕ) → Option (ℕ × (ℕ × Record)) → List Event → Answer → Chronicle
after_moved chronicle None back lines said = after_rollback chronicle back lines said
after_moved chronicle (Some (n, v)) back lines said = after_noted chronicle n v role.Active (as_noted said)

-- ---- a node that starts

-- how many disks a node has: those of vBuckets below the limit of their numbers
abbrev pub vb_numbers : ℕ
vb_numbers = 1024

abbrev pub disks_of : Chronicle → ℕ → ℕ
disks_of chronicle n = length (filter (λ v. (chronicle.disk_at n v).there) (below vb_numbers))

-- an arm is off that was not
abbrev pub is_off : Fuse → Bool
is_off Off = true
is_off other = false

-- a vBucket that was active took its new branch, so it takes writes again, and that is written down under the node's arm
abbrev pub after_restart : Chronicle → ℕ → ℕ → Chronicle
after_restart chronicle n v =
    let f = (chronicle.arm_at n).fuse in
    let d = chronicle.disk_at n v in
    let r = state_of chronicle n v role.Active in
    let active : Chronicle = record chronicle { role_at = with_at chronicle.role_at n v (Some (Some role.Active)) } in
    after_calls calls_of_append n (with_disk active n v (if is_off (spent calls_of_append f) && not (is_off f) then broken_by f (Some r) d else with_record r d))

-- so did each of which a line tells
abbrev pub after_restarts : Chronicle → List Event → Chronicle
after_restarts chronicle [] = chronicle
after_restarts chronicle (event.Branch n v uuid parent fork high ∷ lines) = after_restarts (after_restart chronicle n v) lines
after_restarts chronicle (line ∷ lines) = after_restarts chronicle lines

-- the node stopped while it started, or it runs
abbrev pub after_starts : Chronicle → ℕ → Answer → Chronicle
after_starts chronicle n (answer.No cause.Stopped) = after_stop chronicle n
after_starts chronicle n other = chronicle

-- the node runs
abbrev pub after_up : ℕ → Chronicle → Chronicle
after_up n chronicle = record chronicle { arm_at = with_id chronicle.arm_at n (record (chronicle.arm_at n) { down = false }) }

-- the node's disks were opened, each by one device call: where one of these was hit the node stays down, with its disks as they were
abbrev pub after_openings : Fuse → Chronicle → ℕ → List Event → Answer → Chronicle
after_openings before opened n lines said =
    if is_off (opened.arm_at n).fuse && not (is_off before) then record opened { arm_at = with_id opened.arm_at n known_down }
    else if is_short said then opened
    else after_starts (after_restarts (after_up n opened) lines) n said
  where
    is_short : Answer → Bool
    is_short (answer.No cause.IdsShort) = true
    is_short other = false

-- a line that starts a node: where it is refused before a disk is opened, nothing
abbrev pub after_start : Chronicle → ℕ → List Event → Answer → Chronicle
after_start chronicle n lines (answer.No cause.UnknownNode) = chronicle
after_start chronicle n lines (answer.No cause.NodeUp) = chronicle
after_start chronicle n lines (answer.No cause.UuidZero) = chronicle
after_start chronicle n lines (answer.No cause.UuidUsed) = chronicle
after_start chronicle n lines said = after_openings (chronicle.arm_at n).fuse (after_calls (disks_of chronicle n) n chronicle) n lines said

-- ---- lines of the script

-- the link l to the node m was dialed for the vBucket v of the node n: nothing is left of an earlier link of that number
abbrev pub after_dial : Chronicle → ℕ → ℕ → ℕ → ℕ → Answer → Chronicle
after_dial chronicle l m n v answer.Ok = record (after_end chronicle l) { dial_of = with_id chronicle.dial_of l (Some (record { producer = m; node = n; vb = v })) }
after_dial chronicle l m n v other = chronicle

-- a vBucket is sealed, unless the line was refused
abbrev pub after_seal : Chronicle → ℕ → ℕ → Answer → Chronicle
after_seal chronicle n v (answer.Number sealed) = record chronicle { open_at = with_at chronicle.open_at n v false }
after_seal chronicle n v other = chronicle

-- all up to here counts as saved, and no batch is on its way any more, unless the line was refused
abbrev pub after_done : Chronicle → ℕ → ℕ → Answer → Chronicle
after_done chronicle n v (answer.Number saved) = with_disk chronicle n v (record (chronicle.disk_at n v) { flushing = Idle; saved = saved })
after_done chronicle n v other = chronicle

-- the K-th device call of a node from now on is to be hit, none for 0
abbrev pub known_stop : ℕ → Outcome → ArmKnown
known_stop k out = if k == 0 then no_arm else record { fuse = Stop k; out = out; down = false }

abbrev pub known_fail : ℕ → ArmKnown
known_fail k = if k == 0 then no_arm else record { fuse = Fail k; out = Old; down = false }

-- the node has this arm, and runs or is down as before
abbrev pub after_armed : Chronicle → ℕ → ArmKnown → Answer → Chronicle
after_armed chronicle n arm answer.Ok = record chronicle { arm_at = with_id chronicle.arm_at n (record arm { down = (chronicle.arm_at n).down }) }
after_armed chronicle n arm other = chronicle

-- a node's clock shows this, unless the line was refused
abbrev pub after_clock : Chronicle → ℕ → ℕ → Answer → Chronicle
after_clock chronicle n nanos answer.Ok = record chronicle { clock_at = with_id chronicle.clock_at n nanos }
after_clock chronicle n nanos other = chronicle

-- a node stops, unless the line was refused
abbrev pub after_crashed : Chronicle → ℕ → Outcome → Answer → Chronicle
after_crashed chronicle n out answer.Ok = after_crash chronicle n out
after_crashed chronicle n out other = chronicle

-- a vBucket has this chain, unless the line was refused
abbrev pub after_chain : Chronicle → ℕ → ℕ → Members → Answer → Chronicle
after_chain chronicle n v others answer.Ok = record chronicle { counts_at = with_at chronicle.counts_at n v (record (chronicle.counts_at n v) { chain = others }) }
after_chain chronicle n v others other = chronicle

-- a client sent these bytes, unless the line was refused
abbrev pub after_bytes : Chronicle → ℕ → ℕ → List ℕ → Answer → Chronicle
after_bytes chronicle n c bytes answer.Ok = record chronicle { clients_at = with_client chronicle.clients_at n c (with_sent_bytes bytes (chronicle.clients_at n c)) }
after_bytes chronicle n c bytes other = chronicle

-- a connection of a client opens, or its client closes it, unless the line was refused: it sent nothing, and has no stream
abbrev pub after_blank : Chronicle → ℕ → ℕ → Answer → Chronicle
after_blank chronicle n c answer.Ok = record chronicle { clients_at = with_client chronicle.clients_at n c blank_client }
after_blank chronicle n c other = chronicle

-- a node crashes, unless the line was refused: its connections end with it
abbrev pub after_ending : Chronicle → ℕ → Answer → Chronicle
after_ending chronicle n answer.Ok = record chronicle { conn_at = without_node chronicle.conn_at n }
after_ending chronicle n other = chronicle

-- what a line of the script tells by its answer, before the lines of its group are read, which rest on it: who is a vBucket's chain, what counts as saved, what a client sent, whose prepares are given up, and whose connections end with their node
abbrev pub ahead : Chronicle → Verb → Answer → Chronicle
ahead chronicle (verb.AtVb n v (vb_verb.Chain others)) said = after_chain chronicle n v others said
ahead chronicle (verb.AtVb n v vb_verb.Done) said = after_done chronicle n v said
ahead chronicle (verb.AtVb n v vb_verb.Tick) said = record chronicle { ticks = Some (n, v) }
ahead chronicle (verb.AtClient n c (client_verb.Bytes bytes)) said = after_bytes chronicle n c bytes said
ahead chronicle (verb.AtNode n (node_verb.Crash out)) said = after_ending chronicle n said
ahead chronicle other said = chronicle

-- what a line of the script tells, by the lines of its group and its answer, behind those lines: who dials, which connections of clients begin anew, who is sealed, what was written down, what is to befall a node, what its clock shows, and who stops and starts. What was read before the line comes first
abbrev pub after_verb : Chronicle → Chronicle → Verb → List Event → Answer → Chronicle
after_verb before chronicle (verb.AtVb n v (vb_verb.MakeActive uuid)) lines said = after_made chronicle n v role.Active said
after_verb before chronicle (verb.AtVb n v vb_verb.MakeReplica) lines said = after_made chronicle n v role.Replica said
after_verb before chronicle (verb.Link l m n v buffer takeover) lines said = after_dial chronicle l m n v said
after_verb before chronicle (verb.AtLink l (link_verb.Down wanted)) lines said = after_moved chronicle (heir_in lines) (rollback_of before (before.dial_of l) (before.point_of l)) lines said
after_verb before chronicle (verb.AtVb n v (vb_verb.Promote uuid)) lines said = after_noted chronicle n v role.Active said
after_verb before chronicle (verb.AtVb n v vb_verb.Follow) lines said = after_noted chronicle n v role.Replica said
after_verb before chronicle (verb.AtVb n v vb_verb.Dead) lines said = after_noted chronicle n v role.Dead said
after_verb before chronicle (verb.AtVb n v vb_verb.Seal) lines said = after_seal chronicle n v said
after_verb before chronicle (verb.AtVb n v vb_verb.Save) lines said = after_append chronicle n v (saving (chronicle.disk_at n v)) said
after_verb before chronicle (verb.AtNode n (node_verb.Clock nanos)) lines said = after_clock chronicle n nanos said
after_verb before chronicle (verb.AtNode n (node_verb.Stop call out)) lines said = after_armed chronicle n (known_stop call out) said
after_verb before chronicle (verb.AtNode n (node_verb.Fail call)) lines said = after_armed chronicle n (known_fail call) said
after_verb before chronicle (verb.AtNode n (node_verb.Crash out)) lines said = after_crashed chronicle n out said
after_verb before chronicle (verb.AtNode n (node_verb.Start uuids)) lines said = after_start chronicle n lines said
after_verb before chronicle (verb.AtClient n c client_verb.Open) lines said = after_blank chronicle n c said
after_verb before chronicle (verb.AtClient n c client_verb.Hang) lines said = after_blank chronicle n c said
after_verb before chronicle other lines said = chronicle

-- what is read with a whole group of a line; of the connections of clients and their streams its lines tell, and then the line; and the next group has made no changes yet
abbrev pub after_group : Chronicle → Verb → List Event → Answer → Chronicle
after_group chronicle line lines said =
    let read = after_verb chronicle (after_lines (ahead chronicle line said) lines) line lines said in
    let conns = conns_verb (conns_lines chronicle.conn_at lines) line said in
    record read { last = with_served read.last read.clients_at conns read.made; takeover_of = takeovers_after read line lines said; conn_at = conns; made = []; ticks = None; changed = false }
