-- fronts: up to where a vBucket's journal has all of its branch, and what it gives a stream up to there
use Rattle.std.specs.Prelude.{◌≡◌, ℕ, ◌<◌, ◌≤◌, Bool, false, true, List, [], Option, None, Some}
use Rattle.std.specs.List.{All}
use Rattle.script_text.specs.declared.verb.ScriptLine.{ScriptLine}
use Rattle.vb_events.specs.declared.event.Group.{Group}
use Rattle.vb_types.specs.Histories.{IsIn, plain}
use Rattle.vb_types.specs.declared.change.Change.{Change}
use Rattle.vb_types.specs.declared.journal.Record.{Record}
use Rattle.vb_types.specs.declared.stream.Snapshot.{Snapshot}
use Rattle.branch_model.specs.Histories.{last_seq}
use Rattle.branch_model.specs.Snapshots.{Covers}
use Rattle.cluster_model.specs.Clusters.{HasAll, IsBatchEnd}
use Rattle.backfill.specs.Backfills.{disk_snapshot_of}
use Rattle.vb_events.specs.declared.event.Event.{Event}
use Rattle.vb_events.specs.declared.event.Event.TheVariants as event
use Rattle.vb_events.specs.declared.event.StreamName.TheVariants as name
use Rattle.mcbp_dcp.specs.declared.message.DcpMsg.TheVariants as msg
use Rattle.node_world.specs.World.{PlainWorld, shelf_in, vb_in}
use Rattle.vb_calls.specs.Plain.{Plain}
use Rattle.vb_calls.specs.Shelves.{Shelf}
use Rattle.vb_calls.specs.Spans.{all_spans, is_whole}
use Rattle.vb_calls.specs.State.{is_active}
use Rattle.transcript_law.specs.Chronicles.{Begun, Chronicle, DiskKnown, Granted, after_group, after_line, stood, stream_branch}
use Rattle.transcript_law.specs.ClientStreams.{ClientKnown, ClientStream, stream_view, vb_in_header, view}
use Rattle.transcript_law.specs.LawfulClients.{HasReached, IsPut, IsSentOf, LawfulClientMark, NoneWithin}
use Rattle.transcript_law.specs.Lawfulness.{IsWholeIf, LawfulGroup, LawfulLine, LawfulMark, known_history, meant_end, meant_start, next_marker_start, reach_after}
use Rattle.transcript_law.specs.StreamLaws.{FROM_DISK, IsUnreplaced}

-- the history of the branch that a vBucket is on, as the lines tell it
abbrev pub branch_history : Chronicle → ℕ → ℕ → List Change
branch_history chronicle n v = known_history chronicle.tree (chronicle.branch_at n v)

-- of a vBucket that wrote this down and holds this of its branch: up to `end` a batch of it stands, which counts as saved. Its branch got there, and so did it; and what it holds up to there is a whole snapshot of that
pub record IsFrontOf (d : DiskKnown) (history held : List Change) (end : ℕ) : Type 0 where
  pub stands : IsBatchEnd end (stood d)
  pub saved : end ≤ d.saved
  pub here : end ≤ last_seq 0 held
  pub branch : end ≤ last_seq 0 history
  pub whole : HasAll history held end

-- so it is of the vBucket v of the node n, as the lines tell it
abbrev pub IsFront : Chronicle → ℕ → ℕ → ℕ → Type 0
IsFront chronicle n v end = IsFrontOf (chronicle.disk_at n v) (branch_history chronicle n v) (chronicle.held n v) end

-- a snapshot that was found for a stream at the place `start` in the journal of a vBucket that holds this, up to a front of the history h. It is a whole one of what the stream is shown of the history. A stream that is shown everything gets all up to the front, and any other is shown nothing between its end and the front. Each item is the last change of a slot up to the snapshot's end, as it is written out, and the vBucket holds it
pub record IsFound (h held : List Change) (start end : ℕ) (sync : Bool) (s : Snapshot) : Type 0 where
  pub starts : s.start ≡ start
  pub covers : Covers s.items (view sync h) start s.end
  pub within : s.end ≤ end
  pub full : sync ≡ true → s.end ≡ end
  pub between : NoneWithin (view sync h) s.end end
  pub unreplaced : (x : Change) → IsIn x s.items → IsUnreplaced (view sync h) s.end x
  pub sent : (x : Change) → IsIn x s.items → (c : Change) × IsIn c held × (x ≡ plain c)

-- what these records have up to a front, for a stream at a place below it: where there is no snapshot, the stream is not shown everything, and is shown nothing up to there
pub record FindsAll (h held : List Change) (js : List Record) (end : ℕ) : Type 0 where
  pub some : (start : ℕ) (sync : Bool) (s : Snapshot) → start < end → disk_snapshot_of js start end sync ≡ Some s → IsFound h held start end sync s
  pub none : (start : ℕ) (sync : Bool) → start < end → disk_snapshot_of js start end sync ≡ None → NoneWithin (view sync h) start end × (sync ≡ true → ⊥)

-- what counts as saved of an active vBucket is a front, where no snapshot that it received goes on above it; and up to each front its journal finds all
pub record HasFronts (chronicle : Chronicle) (n v : ℕ) (vb : Plain) (shelf : Shelf) : Type 0 where
  pub made : is_active vb.role ≡ true → is_whole vb.saved (all_spans vb.spans) ≡ true → IsFront chronicle n v vb.saved
  pub found : (end : ℕ) → IsFront chronicle n v end → FindsAll (branch_history chronicle n v) (chronicle.held n v) shelf.book end

-- so it is of each
abbrev pub FrontsAreFound : Chronicle → PlainWorld → Type 0
FrontsAreFound chronicle w = (n v : ℕ) (vb : Plain) (shelf : Shelf) → vb_in (w.nodes n) v ≡ Some vb → shelf_in (w.nodes n) v ≡ Some shelf → HasFronts chronicle n v vb shelf

-- another vBucket than v of the node n
abbrev pub IsAnother : ℕ → ℕ → ℕ → ℕ → Type 0
IsAnother n v m w = n ≡ m → v ≡ w → ⊥

-- a line tells of no new branch of the vBucket v of the node n, of no log that it took over, and of no way back of it
abbrev pub StaysOn : ℕ → ℕ → Event → Type 0
StaysOn n v (event.Branch m w uuid parent fork high) = IsAnother n v m w
StaysOn n v (event.Adopted m w log) = IsAnother n v m w
StaysOn n v (event.Rolled m w named to) = IsAnother n v m w
StaysOn n v other = Unit {0}

-- a front stays one behind each such line that is lawful, and behind each lawful group of them where its node is not told down then
pub record FrontsStay : Type 0 where
  pub lines : (chronicle : Chronicle) (line : Event) (behind : List Event) (n v end : ℕ) → IsFront chronicle n v end → LawfulLine chronicle line behind → StaysOn n v line → IsFront (after_line chronicle line) n v end
  pub groups : (chronicle : Chronicle) (line : ScriptLine) (group : Group) (n v end : ℕ) → IsFront chronicle n v end → LawfulGroup chronicle line group → All (StaysOn n v) group.events
      → ((after_group chronicle line.verb group.events group.answer).arm_at n).down ≡ false → IsFront (after_group chronicle line.verb group.events group.answer) n v end

-- ---- what streams are sent of it

-- a link's stream of the vBucket v of the node n, on its branch, whose end was not put; the snapshot before was put whole, and a marker that comes next starts and ends so
pub record IsFedNext (chronicle : Chronicle) (l n v start end : ℕ) (g : Granted) : Type 0 where
  pub node : ℕ
  pub dialed : chronicle.dial_of l ≡ Some (record { producer = n; node = node; vb = v })
  pub granted : chronicle.stream_of (name.Link l) v ≡ Some g
  pub on_branch : chronicle.branch_at n v ≡ Some (stream_branch g)
  pub opens : g.over ≡ false
  pub whole : IsWholeIf g.last
  pub starts : start ≡ next_marker_start g.last g
  pub reaches : reach_after g.last g ≤ end

-- where the next marker of a client's stream starts that is at its place
abbrev pub client_start : Option Begun → ClientStream → ℕ
client_start None g = meant_start g.ask
client_start (Some b) g = g.place

-- and what it reaches at least
abbrev pub client_reach : Option Begun → ClientStream → ℕ
client_reach None g = meant_end g.ask
client_reach (Some b) g = 0

-- a client's stream of the vBucket v of the node n, on its branch, whose end is not due; the snapshot before was put whole, and a marker that comes next starts and ends so
pub record IsShownNext (chronicle : Chronicle) (n v start end : ℕ) (g : ClientStream) : Type 0 where
  pub on_branch : chronicle.branch_at n v ≡ Some g.branch
  pub opens : g.over ≡ false
  pub stays : g.turned ≡ false
  pub goes_on : HasReached g → ⊥
  pub whole : IsWholeIf g.last
  pub starts : start ≡ client_start g.last g
  pub reaches : client_reach g.last g ≤ end

-- a snapshot that its marker begins for a client's stream, from the journal
abbrev pub begun_from : Chronicle → ClientStream → ℕ → Begun
begun_from chronicle g end = record { history = stream_view chronicle.tree g; from = g.place; end = end; disk = true; items = [] }

-- an item is sent to a client's stream as it has to be, of a change that its vBucket holds
abbrev pub IsSentTo : Chronicle → ℕ → ℕ → ClientStream → ℕ → Change → Type 0
IsSentTo chronicle n v g end x = IsSentOf g (begun_from chronicle g end) (chronicle.held n v) x × IsUnreplaced (stream_view chronicle.tree g) end x

-- the marker of what the journal of its vBucket has for a stream up to a front is lawful, and so are the items of a client's
pub record FrontsAreSent : Type 0 where
  pub link : (chronicle : Chronicle) (l n v start end : ℕ) (g : Granted) (s : Snapshot) → IsFront chronicle n v end → IsFound (branch_history chronicle n v) (chronicle.held n v) g.place end true s → IsFedNext chronicle l n v start end g
      → LawfulMark chronicle (name.Link l) start s.end FROM_DISK
  pub client : (chronicle : Chronicle) (known : ClientKnown) (n c start end : ℕ) (s : Snapshot) (behind : List Event) (put : IsPut n c known (msg.SnapshotMarker start s.end FROM_DISK) behind)
      → (let v = vb_in_header put.bytes in IsFront chronicle n v end → IsFound (branch_history chronicle n v) (chronicle.held n v) put.stream.place end put.stream.sync s → IsShownNext chronicle n v start end put.stream
      → LawfulClientMark chronicle known n c start s.end FROM_DISK behind)
  pub items : (chronicle : Chronicle) (n v start end : ℕ) (g : ClientStream) (s : Snapshot) → IsFound (branch_history chronicle n v) (chronicle.held n v) g.place end g.sync s → IsShownNext chronicle n v start end g
      → (x : Change) → IsIn x s.items → IsSentTo chronicle n v g s.end x
