-- what the lines of clients' streams may tell: each stands directly before the frame that it tells of, which is spelled so for its stream
use Rattle.std.specs.Prelude.{◌≡◌, ◌⊎◌, ℕ, ◌<◌, ◌≤◌, ◌==◌, ◌&&◌, ◌||◌, Bool, true, false, not, if◌then◌else◌, nat_lt, List, ◌∷◌, Option, Some, None}
use Rattle.mcbp_dcp.specs.DcpFrames.{dcp_frame}
use Rattle.mcbp_dcp.specs.declared.message.DcpMsg.{DcpMsg}
use Rattle.mcbp_dcp.specs.declared.message.DcpMsg.TheVariants as msg
use Rattle.mcbp_frame.specs.Spelling.{spelling}
use Rattle.dcp_producer.specs.Frames.{ALL_SENT, STATE_CHANGED, act_message}
use Rattle.dcp_producer.specs.Serving.{stream_verdict}
use Rattle.flow_control.specs.Windows.{is_open as lets_through}
use Rattle.vb_events.specs.declared.event.Event.{Event}
use Rattle.vb_events.specs.declared.event.Event.TheVariants as event
use Rattle.vb_types.specs.Histories.{IsIn, plain}
use Rattle.vb_types.specs.Statuses.{status_code}
use Rattle.vb_types.specs.declared.change.Change.{Change}
use Rattle.vb_types.specs.declared.role.LogEntry.{LogEntry}
use Rattle.vb_types.specs.declared.role.Role.{Role}
use Rattle.vb_types.specs.declared.role.Role.TheVariants.{Active}
use Rattle.vb_types.specs.declared.status.Status.TheVariants as status
use Rattle.vb_types.specs.declared.stream.AskAnswer.{AskAnswer}
use Rattle.vb_types.specs.declared.stream.AskAnswer.TheVariants as ask_answer
use Rattle.vb_types.specs.declared.stream.StreamAsk.{StreamAsk}
use Rattle.branch_model.specs.Histories.{IsOf, last_seq}
use Rattle.branch_model.specs.Snapshots.{Covers}
use Rattle.branch_model.specs.Trees.{Branch}
use Rattle.transcript_law.specs.LinesTold.{Chronicle}
use Rattle.transcript_law.specs.ClientFrames.{Request, is_closed_by, request_in, setup_after}
use Rattle.transcript_law.specs.Questions.{flow_now, served_frames}
use Rattle.transcript_law.specs.ClientStreams.{Begun, ClientKnown, ClientStream, ItemLine, STREAM_NUMBERS, Setup, held_for, stream_view, unclosed, vb_in_header, view}
use Rattle.transcript_law.specs.StreamLaws.{IsFromSource, IsNextItem, IsPutWhole, IsUnreplaced, IsWholeIf, LawfulSaid, item_of_change, meant_end, meant_start}

-- ---- the frame behind a line

-- directly behind a line of the client c of the node n stands one frame for it, which is these bytes
abbrev pub StandsBehind : ℕ → ℕ → List ℕ → List Event → Type 0
StandsBehind n c bytes behind = (more : List Event) × (behind ≡ event.Reply n c bytes ∷ more)

-- there stands this message, with the opaque of the connection's stream of the vBucket that its header names, which no frame closed that was served behind the last request for a stream; and the connection's window lets it through
pub record IsPut (n c : ℕ) (known : ClientKnown) (m : DcpMsg) (behind : List Event) : Type 0 where
  pub bytes : List ℕ
  pub stands : StandsBehind n c bytes behind
  pub stream : ClientStream
  pub known_as : known.streams (vb_in_header bytes) ≡ Some stream
  pub spelled : bytes ≡ spelling (dcp_frame m stream.opaque (vb_in_header bytes))
  pub unclosed : is_closed_by (served_frames known) (vb_in_header bytes) ≡ false
  pub through : lets_through (flow_now known).window ≡ true

-- ---- requests

-- the request is refused, with a status
abbrev pub IsRefusal : AskAnswer → Type 0
IsRefusal said = (code : ℕ) × (said ≡ ask_answer.Refuse code)

-- what a connection refuses whatever its vBucket says: a request before OPEN, or with flags that are not known, is Einval, and one for a takeover is NotSupported; and no stream is let continue of a vBucket of which it has one whose end was not put
pub record RefusesOwn (setup : Setup) (had : Option ClientStream) (ask : StreamAsk) (said : AskAnswer) : Type 0 where
  pub unopened : setup.opened ≡ false → said ≡ ask_answer.Refuse (status_code status.Einval)
  pub unknown : 1 < ask.flags → said ≡ ask_answer.Refuse (status_code status.Einval)
  pub takeover : setup.opened ≡ true → ask.flags ≡ 1 → said ≡ ask_answer.Refuse (status_code status.NotSupported)
  pub held : (g : ClientStream) → had ≡ Some g → g.over ≡ false → IsRefusal said

-- no end of a stream is still to be put
abbrev pub IsFree : Option ClientStream → Type 0
IsFree had = (g : ClientStream) → had ≡ Some g → g.over ≡ false → ⊥

-- the numbers of a request are in order: it starts at or below its end, and within its snapshot
abbrev pub InOrder : StreamAsk → Type 0
InOrder ask = (ask.start ≤ ask.end) × (ask.ss ≤ ask.start) × (ask.start ≤ ask.se)

abbrev pub IsActive : Option (Option Role) → Type 0
IsActive role = role ≡ Some (Some Active)

-- for what a vBucket refuses a request: where it is not active, for that; else where the connection has a stream of it whose end was not put, for that; else where its numbers are out of order, for that. Whatever it is, another stream of the vBucket may have its number; any other request is not refused
pub record RefusesAs (role : Option (Option Role)) (had : Option ClientStream) (ask : StreamAsk) (said : AskAnswer) : Type 0 where
  pub away : (IsActive role → ⊥) → said ≡ ask_answer.Refuse (status_code status.NotMyVbucket)
  pub again : IsActive role → (g : ClientStream) → had ≡ Some g → g.over ≡ false → said ≡ ask_answer.Refuse (status_code status.KeyEexists)
  pub outside : IsActive role → IsFree had → (InOrder ask → ⊥) → (said ≡ ask_answer.Refuse (status_code status.Erange)) ⊎ (said ≡ ask_answer.Refuse (status_code status.KeyEexists))
  pub granted : IsActive role → IsFree had → InOrder ask → IsRefusal said → said ≡ ask_answer.Refuse (status_code status.KeyEexists)

-- a connection that asked for so many streams has no number left, and refuses a request for that
abbrev pub LacksNumber : ℕ → AskAnswer → Type 0
LacksNumber count said = (STREAM_NUMBERS ≤ count) × (said ≡ ask_answer.Refuse (status_code status.Etmpfail))

-- so is one refused that its connection passes on, or for its vBucket's reasons while a number is left
abbrev pub RefusesBy : Setup → ℕ → Option (Option Role) → Option ClientStream → StreamAsk → AskAnswer → Type 0
RefusesBy setup count role had ask said = setup.opened ≡ true → ask.flags ≡ 0 → LacksNumber count said ⊎ ((count < STREAM_NUMBERS) × RefusesAs role had ask said)

-- a request of a client is the next one that it sent, has the numbers of its frame, is of its own node, and is answered as each is, in a frame with its opaque
pub record LawfulClientAsk (chronicle : Chronicle) (known : ClientKnown) (n c m v : ℕ) (ask : StreamAsk) (high : ℕ) (log : List LogEntry) (said : AskAnswer) (behind : List Event) : Type 0 where
  pub own_node : m ≡ n
  pub request : Request
  pub next : request_in known.bytes ≡ Some request
  pub numbers : request.ask ≡ ask
  pub vb : request.frame.vb_or_status ≡ v
  pub answered : LawfulSaid chronicle n v ask high log said
  pub own : RefusesOwn (setup_after known.setup request.before) (unclosed request.before known.streams v) ask said
  pub reason : RefusesBy (setup_after known.setup request.before) known.opened (chronicle.role_at n v) (unclosed request.before known.streams v) ask said
  pub frame : StandsBehind n c (spelling (dcp_frame (msg.StreamAnswer (stream_verdict log said)) request.frame.opaque 0)) behind

-- ---- markers

-- no change of these lies within (low, high]
abbrev pub NoneWithin : List Change → ℕ → ℕ → Type 0
NoneWithin h low high = (x : Change) → IsIn x h → low < x.seq → x.seq ≤ high → ⊥

-- the end that was asked for is reached by the snapshot that was begun last
abbrev pub ReachedBy : ℕ → Option Begun → Type 0
ReachedBy until None = ⊥
ReachedBy until (Some b) = until ≤ b.end

abbrev pub HasReached : ClientStream → Type 0
HasReached g = ReachedBy g.ask.end g.last

-- a later marker starts at the end before, or, on a stream that is not shown everything, above that, with nothing that it is shown in between, and below its own end
abbrev pub GoesOnAt : Bool → List Change → ℕ → ℕ → ℕ → Type 0
GoesOnAt true h place start end = start ≡ place
GoesOnAt false h place start end = (place ≤ start) × (start < end) × NoneWithin h place start

-- where a marker starts: the first one where the request means
abbrev pub StartsAt : Option Begun → List Branch → ClientStream → ℕ → ℕ → Type 0
StartsAt None tree g start end = start ≡ meant_start g.ask
StartsAt (Some b) tree g start end = GoesOnAt g.sync (stream_view tree g) g.place start end

-- a first marker reaches what the request means, or, on a stream that is not shown everything, all that it is shown up to there
abbrev pub ReachesFor : Bool → List Change → ℕ → ℕ → Type 0
ReachesFor true h meant end = meant ≤ end
ReachesFor false h meant end = NoneWithin h end meant

abbrev pub ReachesMeant : Option Begun → List Branch → ClientStream → ℕ → Type 0
ReachesMeant None tree g end = ReachesFor g.sync (stream_view tree g) (meant_end g.ask) end
ReachesMeant (Some b) tree g end = Unit {0}

-- a marker comes before the stream's end, which is not due: neither was what was asked for reached, nor has its vBucket got a role; it comes behind a whole snapshot, starts where it may, reaches what the request means, and goes from the place to its end with a whole snapshot of what the stream is shown of its branch
pub record IsNextMarker (tree : List Branch) (g : ClientStream) (start end : ℕ) : Type 0 where
  pub opens : g.over ≡ false
  pub stays : g.turned ≡ false
  pub goes_on : HasReached g → ⊥
  pub behind : IsWholeIf g.last
  pub starts : StartsAt g.last tree g start end
  pub reaches : ReachesMeant g.last tree g end
  pub whole : (xs : List Change) × Covers xs (stream_view tree g) g.place end

-- a marker of a client's stream, whose snapshot comes from where its flags say
pub record LawfulClientMark (chronicle : Chronicle) (known : ClientKnown) (n c start end flags : ℕ) (behind : List Event) : Type 0 where
  pub put : IsPut n c known (msg.SnapshotMarker start end flags) behind
  pub source : IsFromSource flags end (chronicle.disk_at n (vb_in_header put.bytes)).saved
  pub marker : IsNextMarker chronicle.tree put.stream start end

-- ---- items

-- a snapshot is a stream's first one, and is named from below where the request starts: commits are sent as their documents in it
abbrev pub starts_below : ClientStream → Begun → Bool
starts_below g b = b.from == g.ask.start && nat_lt (meant_start g.ask) g.ask.start

-- so they are in a snapshot from the journal
abbrev pub writes_out : ClientStream → Begun → Bool
writes_out g b = b.disk || starts_below g b

-- a change of its vBucket as a stream is sent it in this snapshot
abbrev pub sent_in : ClientStream → Begun → Change → Change
sent_in g b c = if g.sync && not (writes_out g b) then c else plain c

-- one of these changes, as it is sent
abbrev pub IsSentOf : ClientStream → Begun → List Change → Change → Type 0
IsSentOf g b held x = (c : Change) × IsIn c held × (x ≡ sent_in g b c)

-- an item of a client's stream: of a change of what the stream is shown of its branch, as its vBucket holds it, or, where that got a role, as it held it before, which goes on with the snapshot that was begun last, before the stream's end, and where that is from the journal, was not replaced; behind it stands that change, whole
pub record LawfulClientItem (chronicle : Chronicle) (known : ClientKnown) (n c : ℕ) (item : ItemLine) (behind : List Event) : Type 0 where
  pub change : Change
  pub told : item_of_change change ≡ item
  pub put : IsPut n c known (act_message change change.act) behind
  pub opens : put.stream.over ≡ false
  pub begun : Begun
  pub last : put.stream.last ≡ Some begun
  pub shown : IsOf begun.history change
  pub held : IsSentOf put.stream begun (held_for put.stream (chronicle.held n (vb_in_header put.bytes))) change
  pub next : IsNextItem begun item
  pub unreplaced : begun.disk ≡ true → IsUnreplaced begun.history begun.end change

-- ---- ends

-- why a stream ends: its vBucket got a role, or else what was asked for was reached
abbrev pub EndsAs : Bool → ClientStream → ℕ → Type 0
EndsAs true g reason = reason ≡ STATE_CHANGED
EndsAs false g reason = (reason ≡ ALL_SENT) × HasReached g

-- the end of a client's stream comes once, behind a whole snapshot, for its reason
pub record LawfulClientEnd (known : ClientKnown) (n c reason : ℕ) (behind : List Event) : Type 0 where
  pub put : IsPut n c known (msg.StreamEnd reason) behind
  pub opens : put.stream.over ≡ false
  pub whole : IsWholeIf put.stream.last
  pub cause : EndsAs put.stream.turned put.stream reason

-- ---- what a pull may not leave

-- a stream has no change to be shown of what its vBucket holds above the place, or no snapshot was begun and the vBucket does not reach what the request means
abbrev pub HasNone : Chronicle → ℕ → ℕ → ClientStream → Type 0
HasNone chronicle n v g = NoneWithin (view g.sync (chronicle.held n v)) g.place (last_seq 0 (chronicle.held n v)) ⊎ ((g.last ≡ None) × (last_seq 0 (chronicle.held n v) < meant_end g.ask))

-- a stream has no frame to put now: its last snapshot was put to its end, its own end is not due, and nothing more is to be shown
pub record IsQuiet (chronicle : Chronicle) (n v : ℕ) (g : ClientStream) : Type 0 where
  pub whole : IsPutWhole g.last
  pub stays : g.turned ≡ false
  pub goes_on : HasReached g → ⊥
  pub active : chronicle.role_at n v ≡ Some (Some Active)
  pub none : HasNone chronicle n v g

-- a stream waits for what is to be saved: its last snapshot was put to its end, its own end is not due, and above its place its vBucket counts changes as saved, which may be on its disk alone
pub record WaitsSaved (chronicle : Chronicle) (n v : ℕ) (g : ClientStream) : Type 0 where
  pub whole : IsPutWhole g.last
  pub stays : g.turned ≡ false
  pub goes_on : HasReached g → ⊥
  pub active : chronicle.role_at n v ≡ Some (Some Active)
  pub saved : g.place < (chronicle.disk_at n v).saved

-- this holds of each stream of a connection that is not over, and that no frame closed that was served behind its last request
abbrev pub AllOpen : (ℕ → ClientStream → Type 0) → ClientKnown → Type 0
AllOpen Is known = (v : ℕ) (g : ClientStream) → known.streams v ≡ Some g → g.over ≡ false → is_closed_by (served_frames known) v ≡ false → Is v g

-- each of them is quiet
abbrev pub AllQuiet : Chronicle → ℕ → ClientKnown → Type 0
AllQuiet chronicle n known = AllOpen (IsQuiet chronicle n) known

-- or each of them is quiet or waits
abbrev pub AllRest : Chronicle → ℕ → ClientKnown → Type 0
AllRest chronicle n known = AllOpen (λ v g. IsQuiet chronicle n v g ⊎ WaitsSaved chronicle n v g) known

-- and one of them waits
pub record OneWaits (chronicle : Chronicle) (n : ℕ) (known : ClientKnown) : Type 0 where
  pub vb : ℕ
  pub stream : ClientStream
  pub known_as : known.streams vb ≡ Some stream
  pub opens : stream.over ≡ false
  pub unclosed : is_closed_by (served_frames known) vb ≡ false
  pub waits : WaitsSaved chronicle n vb stream
