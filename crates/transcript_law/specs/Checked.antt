-- what is decided of a transcript with nothing run, by the script and the lines alone: each line by what those before it tell. Each lawful transcript passes
use Rattle.std.specs.Prelude.{◌≡◌, ◌≢◌, ℕ, ◌≤◌, ◌==◌, if◌then◌else◌, Bool, true, List, [], ◌∷◌, length, map, Option, Some, None}
use Rattle.std.specs.FinMap as finite
use Rattle.dcp_producer.specs.Frames.{ALL_SENT}
use Rattle.durability.specs.Laws.{HasOne}
use Rattle.mcbp_frame.specs.Frames.{big_16_at}
use Rattle.mcbp_frame.specs.Spelling.{spelling}
use Rattle.mcbp_frame.specs.declared.frame.Frame.{Frame}
use Rattle.mcbp_frame.specs.declared.frame.TheConstants.{HEADER_LEN}
use Rattle.script_text.specs.declared.verb.ScriptLine.{ScriptLine}
use Rattle.vb_events.specs.declared.event.Event.{Event}
use Rattle.vb_events.specs.declared.event.Event.TheVariants as event
use Rattle.vb_events.specs.declared.event.Group.{Group}
use Rattle.vb_events.specs.declared.event.StreamName.TheVariants as name
use Rattle.vb_types.specs.Images.{Picture, image_of}
use Rattle.vb_types.specs.Statuses.{status_code}
use Rattle.vb_types.specs.declared.change.Act.TheVariants as act
use Rattle.vb_types.specs.declared.change.Change.{Change}
use Rattle.vb_types.specs.declared.change.Pend.{Pend}
use Rattle.vb_types.specs.declared.doc.Doc.{Doc}
use Rattle.vb_types.specs.declared.status.Status.TheVariants as status
use Rattle.vb_types.specs.declared.stream.StreamAsk.{StreamAsk}
use Rattle.branch_model.specs.Histories.{last_seq}
use Rattle.branch_model.specs.Snapshots.{Covers}
use Rattle.branch_model.specs.Trees.{IsNew}
use Rattle.transcript_law.specs.Chronicles.{Begun, Chronicle, CountsKnown, Granted, ItemLine, after_group, after_line, ahead, at_line, empty_chronicle, stood, stream_branch}
use Rattle.transcript_law.specs.ClientStreams.{ClientKnown, ClientStream, stream_view, vb_in_header}
use Rattle.transcript_law.specs.LawfulAnswers.{IsCommitted, serving}
use Rattle.transcript_law.specs.LawfulClients.{ReachesFor, StandsBehind}
use Rattle.transcript_law.specs.Lawfulness.{FollowsStream, IsFarthest, IsFed, IsStream, IsWriter, LawfulAdopt, SavesThirds, SharesWith, branch_image, shown_lines, stream_history}
use Rattle.transcript_law.specs.Majorities.{IsHeldByMost}
use Rattle.transcript_law.specs.Questions.{Question, question_of}
use Rattle.transcript_law.specs.StreamLaws.{IsNextItem, IsWholeIf, LawfulSaid, meant_end, meant_start}
use Rattle.transcript_law.specs.Unanswered.{AsksDurably}

-- ---- changes, and what is shown of them

-- the prepare that a commit names waits at its key, and a majority of the chain holds it
abbrev pub IsBacked : CountsKnown → ℕ → Picture → Change → Type 0
IsBacked counts saved image c = (prepared : ℕ) (doc : Doc) (deleted : Bool) → c.act ≡ act.Commit prepared doc deleted → (e : Pend) × (finite.get image.pending c.key ≡ Some e) × (e.seq ≡ prepared) × IsHeldByMost counts saved prepared e.level

-- a change is by its branch's writer, and a commit is of what a majority holds
pub record CheckedChange (chronicle : Chronicle) (n v uuid : ℕ) (change : Change) : Type 0 where
  pub writer : IsWriter chronicle n v uuid
  pub backed : IsBacked (chronicle.counts_at n v) (chronicle.disk_at n v).saved (image_of (chronicle.held n v)) change

-- a vBucket is followed by exactly the documents and prepares of its branch at this seqno, by their keys; the newest branch of its log shares these
pub record CheckedShow (chronicle : Chronicle) (n v uuid at : ℕ) (behind : List Event) : Type 0 where
  pub image : behind ≡ shown_lines (branch_image chronicle n v at)
  pub shared : uuid ≢ 0 → SharesWith chronicle.tree uuid (chronicle.branch_at n v) at

-- ---- snapshots

-- a marker up to `end`: what was begun before it was put whole; of what the stream is shown of its branch there is a whole snapshot from its place to there; and the first one starts where the request means, and reaches the end that it means, or all that is shown up to that
pub record CheckedMark (shown : List Change) (all : Bool) (ask : StreamAsk) (place : ℕ) (last : Option Begun) (start end : ℕ) : Type 0 where
  pub behind : IsWholeIf last
  pub covers : (xs : List Change) × Covers xs shown place end
  pub first_start : last ≡ None → start ≡ meant_start ask
  pub first_end : last ≡ None → ReachesFor all shown (meant_end ask) end

-- an item goes on with the snapshot that was begun last
abbrev pub CheckedItem : Option Begun → ItemLine → Type 0
CheckedItem last item = (b : Begun) × (last ≡ Some b) × IsNextItem b item

-- an end by which all was sent comes behind a whole snapshot
abbrev pub CheckedEnd : ℕ → Option Begun → Type 0
CheckedEnd reason last = reason ≡ ALL_SENT → IsWholeIf last

-- a state comes behind a whole snapshot, up to the last seqno of the stream's branch
abbrev pub CheckedState : Chronicle → Granted → Type 0
CheckedState chronicle g = IsWholeIf g.last × (g.place ≡ last_seq 0 (stream_history chronicle g))

-- a link has a stream, of which this is so
abbrev pub OfLink : Chronicle → ℕ → (Granted → Type 0) → Type 0
OfLink chronicle l Rule = (g : Granted) × IsStream chronicle (name.Link l) g × Rule g

-- a whole header for the client stands directly behind, and names the vBucket of a stream of the connection, of which this is so
pub record OfClient (Rule : ClientStream → Type 0) (known : ClientKnown) (n c : ℕ) (behind : List Event) : Type 0 where
  pub bytes : List ℕ
  pub stands : StandsBehind n c bytes behind
  pub long : HEADER_LEN ≤ length bytes
  pub stream : ClientStream
  pub known_as : known.streams (vb_in_header bytes) ≡ Some stream
  pub ruled : Rule stream

-- ---- acknowledgements

-- the complete number of a vBucket that holds changes up to this seqno: that, at the end of its snapshot, and else where the snapshot starts
abbrev pub complete_number : ℕ → ℕ × ℕ → ℕ
complete_number at ends = if at == ends.1 then at else ends.0

-- a vBucket acknowledges on its link's stream, of the branch that it is on, no more than its complete number; it has what a consumer of that branch has at its position, and each prepare of level 3 up to there counts as saved
pub record CheckedAck (chronicle : Chronicle) (l n v seq saved : ℕ) : Type 0 where
  pub stream : Granted
  pub fed : IsFed chronicle l n v stream
  pub complete : (ends : ℕ × ℕ) → chronicle.snap_at n v ≡ Some ends → seq ≤ complete_number (last_seq 0 (chronicle.held n v)) ends
  pub follows : (ends : ℕ × ℕ) → chronicle.snap_at n v ≡ Some ends → FollowsStream chronicle n v stream ends.0 ends.1
  pub thirds : SavesThirds (image_of (chronicle.held n v)) seq saved

-- what is counted of another node that node wrote on its link before, whose stream is of the branch that the vBucket is on
pub record CheckedCount (chronicle : Chronicle) (l n v member seq : ℕ) : Type 0 where
  pub another : member ≢ n
  pub dialed : chronicle.dial_of l ≡ Some (record { producer = n; node = member; vb = v })
  pub stream : Granted
  pub granted : chronicle.stream_of (name.Link l) v ≡ Some stream
  pub wrote : HasOne seq stream.wrote
  pub on_branch : chronicle.branch_at n v ≡ Some (stream_branch stream)

-- ---- answers to durable writes

-- a frame for a client, and none of its streams', answers the durable write that it asked by the next frame with Success
pub record SaysDurable (known : ClientKnown) (bytes : List ℕ) (question : Question) : Type 0 where
  pub own : known.told ≡ None
  pub next : question_of known.asking ≡ Some question
  pub asks : AsksDurably known.asking.settings question.frame
  pub long : HEADER_LEN ≤ length bytes
  pub success : big_16_at bytes 6 ≡ status_code status.Success

-- such a one tells a commit of its group, with its CAS, which is the commit of that write where the numbers of the script's lines rise
abbrev pub CheckedReply : Chronicle → ℕ → ℕ → List ℕ → Type 0
CheckedReply chronicle n c bytes =
    (question : Question) → (says : SaysDurable (chronicle.clients_at n c) bytes question)
    → (answer : Frame) × (bytes ≡ spelling answer) × IsCommitted n question.frame.vb_or_status (serving chronicle n c (chronicle.clients_at n c).asking) chronicle.made (chronicle.clients_at n c).asking.settings says.asks.write says.asks.wish question.frame answer

-- ---- lines

-- a line, after what was read, and in front of those behind it in its group: of these a `shown` line is read with its documents and prepares, and one of a client's stream with its frame. Any other line passes
abbrev pub CheckedLine : Chronicle → Event → List Event → Type 0
CheckedLine chronicle (event.Branch n v uuid parent fork high) behind = IsNew uuid chronicle.tree
CheckedLine chronicle (event.Changed n v uuid change) behind = CheckedChange chronicle n v uuid change
CheckedLine chronicle (event.Reply n c bytes) behind = CheckedReply chronicle n c bytes
CheckedLine chronicle (event.Asked stream n v ask high log said) behind = LawfulSaid chronicle n v ask high log said
CheckedLine chronicle (event.Adopted n v log) behind = LawfulAdopt chronicle n v log
CheckedLine chronicle (event.Marked (name.Link l) start end flags) behind = OfLink chronicle l (λ g. CheckedMark (stream_history chronicle g) true g.ask g.place g.last start end)
CheckedLine chronicle (event.Marked (name.Client n c) start end flags) behind =
    OfClient (λ g. CheckedMark (stream_view chronicle.tree g) g.sync g.ask g.place g.last start end) (chronicle.clients_at n c) n c behind
CheckedLine chronicle (event.Item (name.Link l) seq act key) behind = OfLink chronicle l (λ g. CheckedItem g.last (record { seq = seq; act = act; key = key }))
CheckedLine chronicle (event.Item (name.Client n c) seq act key) behind = OfClient (λ g. CheckedItem g.last (record { seq = seq; act = act; key = key })) (chronicle.clients_at n c) n c behind
CheckedLine chronicle (event.Finished (name.Link l) reason) behind = OfLink chronicle l (λ g. CheckedEnd reason g.last)
CheckedLine chronicle (event.Finished (name.Client n c) reason) behind = OfClient (λ g. CheckedEnd reason g.last) (chronicle.clients_at n c) n c behind
CheckedLine chronicle (event.Stated (name.Link l) role) behind = OfLink chronicle l (CheckedState chronicle)
CheckedLine chronicle (event.Stated (name.Client n c) role) behind = ⊥
CheckedLine chronicle (event.Rolled n v named to) behind = IsFarthest (stood (chronicle.disk_at n v)) named to
CheckedLine chronicle (event.Acknowledged (name.Link l) n v seq saved) behind = CheckedAck chronicle l n v seq saved
CheckedLine chronicle (event.Acknowledged (name.Client m c) n v seq saved) behind = ⊥
CheckedLine chronicle (event.Counted (name.Link l) n v member seq) behind = CheckedCount chronicle l n v member seq
CheckedLine chronicle (event.Counted (name.Client m c) n v member seq) behind = ⊥
CheckedLine chronicle (event.Shown n v role uuid at ss se docs preps) behind = at ≡ se → CheckedShow chronicle n v uuid at behind
CheckedLine chronicle other behind = Unit {0}

-- the lines of a group
abbrev pub CheckedFrom : Chronicle → List Event → Type 0
CheckedFrom chronicle [] = Unit {0}
CheckedFrom chronicle (line ∷ behind) = CheckedLine chronicle line behind × CheckedFrom (after_line chronicle line) behind

-- those of each group, as long as there are groups and lines of the script
abbrev pub AllPass : Chronicle → List ScriptLine → List Group → Type 0
AllPass chronicle (line ∷ lines) (group ∷ groups) = CheckedFrom (ahead (at_line chronicle line.line) line.verb group.answer) group.events × AllPass (after_group (at_line chronicle line.line) line.verb group.events group.answer) lines groups
AllPass chronicle script groups = Unit {0}

-- a whole transcript passes: its groups are as many as the script's lines, and have their numbers; and each of its lines passes
pub record Checked (script : List ScriptLine) (groups : List Group) : Type 0 where
  pub numbered : map (λ (group : Group). group.line) groups ≡ map (λ (line : ScriptLine). line.line) script
  pub passes : AllPass empty_chronicle script groups
