-- which transcripts are lawful
use Rattle.std.specs.Prelude.{◌≡◌, ◌≢◌, ℕ, ◌<◌, ◌≤◌, ◌⊎◌, ◌+◌, ◌^◌, ◌-◌, min, Bool, true, false, List, [], ◌∷◌, ◌++◌, length, map, Option, Some, None}
use Rattle.std.specs.FinMap as finite
use Rattle.std.specs.Option.{option_map}
use Rattle.vb_types.specs.declared.change.Act.TheVariants as act
use Rattle.vb_types.specs.declared.change.Change.{Change}
use Rattle.vb_types.specs.declared.change.Level.{Level}
use Rattle.vb_types.specs.declared.change.Level.TheVariants.{PersistMajority}
use Rattle.vb_types.specs.declared.change.Pend.{Pend}
use Rattle.vb_types.specs.declared.doc.Doc.{Doc}
use Rattle.vb_events.specs.declared.event.Event.{Event}
use Rattle.vb_events.specs.declared.event.Event.TheVariants as event
use Rattle.vb_events.specs.declared.event.Group.{Group}
use Rattle.vb_types.specs.declared.stream.AskAnswer.{AskAnswer}
use Rattle.vb_events.specs.declared.event.StreamName.{StreamName}
use Rattle.vb_events.specs.declared.event.StreamName.TheVariants as name
use Rattle.vb_disk.specs.declared.fuse.Fuse.{Fuse}
use Rattle.vb_disk.specs.declared.fuse.Fuse.TheVariants.{Stop, Fail}
use Rattle.vb_types.specs.declared.position.Position.{Position}
use Rattle.vb_types.specs.declared.role.LogEntry.{LogEntry}
use Rattle.vb_types.specs.declared.role.Role.{Role}
use Rattle.vb_types.specs.declared.role.Role.TheVariants.{Active}
use Rattle.vb_types.specs.Histories.{upto, IsIn}
use Rattle.vb_types.specs.Images.{Picture, image_of}
use Rattle.branch_model.specs.Histories.{last_seq, IsOf}
use Rattle.vb_types.specs.declared.stream.StreamAsk.{StreamAsk}
use Rattle.vb_calls.specs.{Durable.{is_delete}, Following.{is_follower}, Spans.{stretch}, Writes.{written_doc}}
use Rattle.branch_model.specs.Logs.{front, uuid_of}
use Rattle.branch_model.specs.Requests.{fork_of}
use Rattle.branch_model.specs.Snapshots.{Covers, Follows}
use Rattle.cluster_model.specs.Clusters.{above}
use Rattle.branch_model.specs.Trees.{Branch, hist, Shared, IsNew, ForksBelow}
use Rattle.script_text.specs.declared.verb.ScriptLine.{ScriptLine}
use Rattle.transcript_law.specs.Firings.{FiresInLine}
use Rattle.transcript_law.specs.Standing.{TellsIfBegun}
use Rattle.transcript_law.specs.TakeoverAnswers.{HandsOver}
pub use Rattle.transcript_law.specs.Heirs.{IsFed, IsWriter, LawfulRole, LawfulState, stream_history}
use Rattle.transcript_law.specs.Asked.{TellsAsAsked}
use Rattle.transcript_law.specs.Undone.{LeavesNone}
use Rattle.transcript_law.specs.Ends.{AllEnded}
use Rattle.transcript_law.specs.{AnsweredWrites.{AllToldNext}, Breaks.{ClosesAsBroken}}
use Rattle.transcript_law.specs.{Questions.{Question, question_of}, StreamsTold.{ClientsKnown}}
use Rattle.transcript_law.specs.Unanswered.{AllAnswered, AsksDurably}
use Rattle.transcript_law.specs.LawfulAnswers.{HasNumber, LawfulReply}
use Rattle.transcript_law.specs.LawfulClients.{LawfulClientAsk, LawfulClientEnd, LawfulClientItem, LawfulClientMark}
pub use Rattle.transcript_law.specs.StreamLaws.{GrantsAs, IsFromSource, IsFrontOf, IsIfKnown, IsNextItem, IsOfSource, IsWholeIf, LawfulSaid, LawfulVerdict, SharesFront, fed_saved, item_of_change, line_act, meant_end, meant_start}
use Rattle.transcript_law.specs.Bound.{IsAnswered}
use Rattle.transcript_law.specs.Clients.{Heard}
use Rattle.durability.specs.Laws.{HasOne}
use Rattle.transcript_law.specs.Majorities.{IsHeldByMost}
use Rattle.transcript_law.specs.OwnChanges.{IsNextChange}
use Rattle.transcript_law.specs.Chronicles.{Conns, CountsKnown, ahead, at_line, conns_line, ItemLine, Begun, Dial, Granted, Idle, Chronicle, empty_chronicle, is_stream_of, stood, stream_branch, after_line, after_group}

-- the history of a branch, if it is known
abbrev pub known_history : List Branch → Option ℕ → List Change
known_history tree None = []
known_history tree (Some uuid) = hist tree uuid

-- a known branch that has the changes of `uuid` up to n
abbrev pub SharesWith : List Branch → ℕ → Option ℕ → ℕ → Type 0
SharesWith tree uuid None n = ⊥
SharesWith tree uuid (Some known) n = Shared tree uuid known n

-- of each vBucket the role, the failover log and the snapshot are known
pub record AllKnown (chronicle : Chronicle) : Type 0 where
  pub role : (n v : ℕ) → (said : Option Role) × (chronicle.role_at n v ≡ Some said)
  pub log : (n v : ℕ) → (log : List LogEntry) × (chronicle.log_at n v ≡ Some log)
  pub snap : (n v : ℕ) → (ends : ℕ × ℕ) × (chronicle.snap_at n v ≡ Some ends)

-- the image of a vBucket's branch at a seqno
abbrev pub branch_image : Chronicle → ℕ → ℕ → ℕ → Picture
branch_image chronicle n v at = image_of (upto (known_history chronicle.tree (chronicle.branch_at n v)) at)

-- what a `shown` line says
pub record ShownLine : Type 0 where
  pub node : ℕ
  pub vb : ℕ
  pub role : Role
  pub uuid : ℕ
  pub at : ℕ
  pub ss : ℕ
  pub se : ℕ
  pub docs : ℕ
  pub preps : ℕ

-- the image that the line's vBucket ought to show
abbrev pub due_image : Chronicle → ShownLine → Picture
due_image chronicle said = branch_image chronicle said.node said.vb said.at

-- an image in lines: each document, and then each prepare that waits with its seqno and level, both by their keys
abbrev pub shown_lines : Picture → List Event
shown_lines image = map (λ e. event.Document e.0 e.1) (finite.entries image.docs) ++ map (λ e. event.Prepared e.0 e.1.seq e.1.level) (finite.entries image.pending)

-- the newest branch of a log as it is shown
abbrev pub newest_shown : List LogEntry → ℕ
newest_shown log = uuid_of (front log)

-- a vBucket with a complete snapshot shows its branch's image there: behind the line stand its documents and then its
-- prepares, by their keys, as many as the line says; the log's newest branch, if there is one, has the same changes so
-- far, and is an active vBucket's own branch
pub record LawfulShow (chronicle : Chronicle) (said : ShownLine) (behind : List Event) : Type 0 where
  pub lines : behind ≡ shown_lines (due_image chronicle said)
  pub docs_shown : said.docs ≡ length (finite.entries (due_image chronicle said).docs)
  pub preps_shown : said.preps ≡ length (finite.entries (due_image chronicle said).pending)
  pub shared : said.uuid ≢ 0 → SharesWith chronicle.tree said.uuid (chronicle.branch_at said.node said.vb) said.at
  pub active : said.role ≡ Active → chronicle.branch_at said.node said.vb ≡ Some said.uuid

-- a vBucket is shown in its role, with the newest branch of its log, or 0, and in its snapshot, where these are known, at the last change that it holds, and with what its changes leave; with a complete snapshot it
-- shows its branch
pub record LawfulShown (chronicle : Chronicle) (said : ShownLine) (behind : List Event) : Type 0 where
  pub role : IsIfKnown (chronicle.role_at said.node said.vb) (Some said.role)
  pub newest : IsIfKnown (option_map newest_shown (chronicle.log_at said.node said.vb)) said.uuid
  pub at : said.at ≡ last_seq 0 (chronicle.held said.node said.vb)
  pub snapshot : IsIfKnown (chronicle.snap_at said.node said.vb) (said.ss, said.se)
  pub left : behind ≡ shown_lines (image_of (chronicle.held said.node said.vb))
  pub docs_left : said.docs ≡ length (finite.entries (image_of (chronicle.held said.node said.vb)).docs)
  pub preps_left : said.preps ≡ length (finite.entries (image_of (chronicle.held said.node said.vb)).pending)
  pub complete : said.at ≡ said.se → LawfulShow chronicle said behind

-- a commit names the prepare that waits at its key, and has its document
abbrev pub Fulfils : Picture → Change → Type 0
Fulfils image c = (prepared : ℕ) (doc : Doc) (deleted : Bool) → c.act ≡ act.Commit prepared doc deleted → (e : Pend) × (finite.get image.pending c.key ≡ Some e) × (e.seq ≡ prepared) × (e.doc ≡ doc) × (e.deleted ≡ deleted)

-- a commit is of a prepare that a majority of the vBucket's chain holds
abbrev pub IsHeldIfCommitted : CountsKnown → ℕ → Picture → Change → Type 0
IsHeldIfCommitted counts saved image c = (prepared : ℕ) (doc : Doc) (deleted : Bool) → c.act ≡ act.Commit prepared doc deleted → (e : Pend) → finite.get image.pending c.key ≡ Some e → IsHeldByMost counts saved e.seq e.level

-- the time of a durable write may be up, where the clock showed one number as it was prepared, and shows another now: a millisecond is over, or it shows its last number
abbrev pub IsUp : ℕ → ℕ → Type 0
IsUp before now = (before + 1000000 ≤ now) ⊎ (now ≡ 2 ^ 64 - 1)

-- a change with this seqno was made when the clock showed so much
abbrev pub IsMadeAt : ℕ → ℕ → List (ℕ × ℕ) → Type 0
IsMadeAt seq clock [] = ⊥
IsMadeAt seq clock (one ∷ more) = ((seq ≡ one.0) × (clock ≡ one.1)) ⊎ IsMadeAt seq clock more

-- a vBucket gives up the prepare of this seqno: the line of the group gives up those of this vBucket whose time is up, and the vBucket made it since it is active, and so long ago that its time may be
pub record IsGivenUp (chronicle : Chronicle) (n v prepared : ℕ) : Type 0 where
  pub asked : chronicle.ticks ≡ Some (n, v)
  pub before : ℕ
  pub made : IsMadeAt prepared before (chronicle.counts_at n v).times
  pub up : IsUp before (chronicle.clock_at n)

-- a vBucket prepares what the next question of a connection of its node asks for: a durable write of this key at this vBucket, with this document or for its removal, and at this level, while the connection has a number left, and nothing was changed in the group since a client was sent a frame in it. One that is not open asks nothing: nothing is known of it
pub record IsPrepareAsked (clients : ClientsKnown) (changed : Bool) (n v : ℕ) (key : List ℕ) (level : Level) (doc : Doc) (deleted : Bool) : Type 0 where
  pub client : ℕ
  pub question : Question
  pub next : question_of (clients n client).asking ≡ Some question
  pub vb : question.frame.vb_or_status ≡ v
  pub durable : AsksDurably (clients n client).asking.settings question.frame
  pub key_is : key ≡ durable.write.key
  pub level_is : level ≡ durable.wish.level
  pub cas : ℕ
  pub rev : ℕ
  pub doc_is : doc ≡ written_doc durable.write cas rev
  pub deleted_is : deleted ≡ is_delete durable.write.op
  pub numbered : HasNumber (clients n client).asking.durables
  pub still : changed ≡ false

-- a change is made by its branch's writer, which is not known to be other than active, above all that the branch has, and where any branch was made from this one; it is the next one behind what the vBucket
-- holds; a prepare is of what a client asks; a commit is of what the vBucket prepared, and a majority of its chain holds; and an abort is of what it prepared, and has to give up
pub record LawfulChange (chronicle : Chronicle) (n v uuid : ℕ) (change : Change) : Type 0 where
  pub active : IsIfKnown (chronicle.role_at n v) (Some Active)
  pub writer : IsWriter chronicle n v uuid
  pub above_branch : last_seq 0 (hist chronicle.tree uuid) < change.seq
  pub above_forks : ForksBelow uuid change.seq chronicle.tree
  pub made : IsNextChange (chronicle.held n v) change
  pub asked : (level : Level) (doc : Doc) (deleted : Bool) → change.act ≡ act.Prepare level doc deleted → IsPrepareAsked chronicle.clients_at chronicle.changed n v change.key level doc deleted
  pub fulfils : Fulfils (image_of (chronicle.held n v)) change
  pub backed : IsHeldIfCommitted (chronicle.counts_at n v) (chronicle.disk_at n v).saved (image_of (chronicle.held n v)) change
  pub aborts : (prepared : ℕ) → change.act ≡ act.Abort prepared → IsGivenUp chronicle n v prepared

-- the newest branch of a log, if it has one
abbrev pub newest_of : List LogEntry → Option ℕ
newest_of log = option_map (λ (e : LogEntry). e.uuid) (front log)

-- where a vBucket leaves its branch that holds changes up to `high`, by the start and the end of the snapshot that it is in: there, where that is whole, and else where the snapshot starts
abbrev pub fork_in : ℕ → ℕ × ℕ → ℕ
fork_in high ends = fork_of (record { ss = ends.0; se = ends.1; at = high })

-- a new branch has an id that no branch has yet; its parent is the newest branch of its vBucket's log, or none, where that is known; it goes up to the last change that the vBucket holds, and leaves its parent where the snapshot lets it, where that is known
pub record LawfulBranch (chronicle : Chronicle) (n v uuid : ℕ) (parent : Option ℕ) (fork high : ℕ) : Type 0 where
  pub new : IsNew uuid chronicle.tree
  pub newest : IsIfKnown (option_map newest_of (chronicle.log_at n v)) parent
  pub last : high ≡ last_seq 0 (chronicle.held n v)
  pub leaves : IsIfKnown (option_map (fork_in high) (chronicle.snap_at n v)) fork

-- the link l was dialed to the node n for the vBucket v, and for no other
abbrev pub IsDialed : Chronicle → ℕ → ℕ → ℕ → Type 0
IsDialed chronicle l n v = (node : ℕ) × (chronicle.dial_of l ≡ Some (record { producer = n; node = node; vb = v }))

-- a request of a link comes over one that was dialed for it, has no flag unless that was for a takeover, and is answered as each is
pub record LawfulAsk (chronicle : Chronicle) (l n v : ℕ) (ask : StreamAsk) (high : ℕ) (log : List LogEntry) (said : AskAnswer) : Type 0 where
  pub dialed : IsDialed chronicle l n v
  pub plain : (ask.flags ≡ 0) ⊎ ((chronicle.takeover_of l).dialed ≡ true)
  pub answered : LawfulSaid chronicle n v ask high log said

-- the vBucket that dialed a link takes over the log that the link's stream was granted with
abbrev pub LawfulAdopt : Chronicle → ℕ → ℕ → List LogEntry → Type 0
LawfulAdopt chronicle n v log =
    (l m : ℕ) × (g : Granted) × (chronicle.dial_of l ≡ Some (record { producer = m; node = n; vb = v })) × (chronicle.stream_of (name.Link l) v ≡ Some g) × (log ≡ g.log)

-- a link that was dialed for a vBucket sends it back to this point
abbrev pub IsSentBack : Chronicle → ℕ → ℕ → ℕ → Type 0
IsSentBack chronicle n v point =
    (l m : ℕ) × (chronicle.dial_of l ≡ Some (record { producer = m; node = n; vb = v })) × (chronicle.point_of l ≡ Some point)

-- a seqno at which a vBucket was at the end of a snapshot, and had written all of it down, by the positions of batches that stand; 0 is one always
abbrev pub IsSavedEnd : List Position → ℕ → Type 0
IsSavedEnd [] to = to ≡ 0
IsSavedEnd (p ∷ ps) to = ((to ≡ p.at) × (p.at ≡ p.se)) ⊎ IsSavedEnd ps to

-- the greatest of them up to the seqno that is named
pub record IsFarthest (stood : List Position) (named to : ℕ) : Type 0 where
  pub saved : IsSavedEnd stood to
  pub below : to ≤ named
  pub farthest : (n : ℕ) → IsSavedEnd stood n → n ≤ named → n ≤ to

-- a vBucket goes back where its link's request was sent back: to the greatest seqno up to that point at which it had written a whole snapshot down, or to 0
abbrev pub LawfulRoll : Chronicle → ℕ → ℕ → ℕ → ℕ → Type 0
LawfulRoll chronicle n v named to = IsSentBack chronicle n v named × IsFarthest (stood (chronicle.disk_at n v)) named to

-- a batch is taken where none is on its way; it goes on where the last one that was taken ended, whether that stands or is gone, up to a seqno that the vBucket holds; it ends inside its snapshot, or with it; and it has changes, no more than the
-- vBucket holds there
pub record LawfulBatch (chronicle : Chronicle) (n v : ℕ) (p : Position) (count : ℕ) : Type 0 where
  pub idle : (chronicle.disk_at n v).flushing ≡ Idle
  pub goes_on : (chronicle.disk_at n v).taken < p.at
  pub held : p.at ≤ last_seq 0 (chronicle.held n v)
  pub starts : p.ss ≤ p.at
  pub ends : p.at ≤ p.se
  pub some : 0 < count
  pub most : count ≤ length (stretch (chronicle.disk_at n v).taken p.at (chronicle.held n v))

-- a vBucket's numbers: what counts as saved is what the lines tell, and the last seqno is that of the last change that it holds; there is the flusher's cursor, and no span is empty
pub record LawfulStat (chronicle : Chronicle) (n v windows items cursors saved high : ℕ) : Type 0 where
  pub saved_as_known : saved ≡ (chronicle.disk_at n v).saved
  pub high_held : high ≡ last_seq 0 (chronicle.held n v)
  pub flusher : 0 < cursors
  pub filled : windows ≤ items

-- a vBucket's failover log is as the lines so far tell it, where they do
abbrev pub LawfulLog : Chronicle → ℕ → ℕ → List LogEntry → Type 0
LawfulLog chronicle n v log = IsIfKnown (chronicle.log_at n v) log

-- a vBucket takes the next marker of its link's stream that was put and not taken: it is inside this snapshot from the marker's start, or from what it holds where that is less, up to the
-- marker's end, which is not below that and stands at a change of the stream's branch
pub record LawfulRange (chronicle : Chronicle) (n v ss se : ℕ) : Type 0 where
  pub ends : last_seq 0 (chronicle.held n v) ≤ se
  pub put : (l : ℕ) × (g : Granted) × IsFed chronicle l n v g × ((start : ℕ) × (later : List (ℕ × ℕ)) × (g.marks ≡ (start, se) ∷ later) × (ss ≡ min start (last_seq 0 (chronicle.held n v))))
      × ((c : Change) × IsIn c (stream_history chronicle g) × (c.seq ≡ se))

-- a change that is got comes above all that the vBucket holds; it is the next item of its link's stream that was put and not got, and a change of the stream's branch
pub record LawfulGot (chronicle : Chronicle) (n v l : ℕ) (change : Change) : Type 0 where
  pub above : last_seq 0 (chronicle.held n v) < change.seq
  pub put : (g : Granted) × IsFed chronicle l n v g × IsOf (stream_history chronicle g) change × ((later : List ItemLine) × (g.coming ≡ item_of_change change ∷ later))

-- each prepare of level 3 that waits, up to a seqno, counts as saved
abbrev pub SavesThirds : Picture → ℕ → ℕ → Type 0
SavesThirds image seq saved = (key : List ℕ) (e : Pend) → finite.get image.pending key ≡ Some e → e.level ≡ PersistMajority → e.seq ≤ seq → e.seq ≤ saved

-- what a vBucket holds is what a consumer of a stream's branch holds where the vBucket is, in the snapshot from ss to se
abbrev pub FollowsStream : Chronicle → ℕ → ℕ → Granted → ℕ → ℕ → Type 0
FollowsStream chronicle n v g ss se =
    Follows (stream_history chronicle g) (record { ss = ss; se = se; at = last_seq 0 (chronicle.held n v) }) (above (chronicle.held n v) ss) (image_of (chronicle.held n v))

-- a vBucket that follows, where its role is known, acknowledges on a link that was dialed for it and whose stream was granted, of the branch that it is on, and no more than it holds: inside a snapshot, no more than lies before its start; and it holds what its stream's branch has there, where its snapshot is known. It tells what counts as saved, which each prepare of level 3 up to there does
pub record LawfulAcknowledged (chronicle : Chronicle) (l n v seq saved : ℕ) : Type 0 where
  pub fed : (g : Granted) × IsFed chronicle l n v g
  pub role : (said : Role) → chronicle.role_at n v ≡ Some (Some said) → is_follower said ≡ true
  pub held : seq ≤ last_seq 0 (chronicle.held n v)
  pub complete : (ss se : ℕ) → chronicle.snap_at n v ≡ Some (ss, se) → last_seq 0 (chronicle.held n v) < se → seq ≤ ss
  pub saved_as_known : saved ≡ (chronicle.disk_at n v).saved
  pub thirds : SavesThirds (image_of (chronicle.held n v)) seq saved
  pub follows : (ss se : ℕ) → chronicle.snap_at n v ≡ Some (ss, se) → FollowsStream chronicle n v fed.0 ss se

-- an acknowledgement is counted at a vBucket that is active, where that is known, and that holds all up to there; as that of another node, which dialed the link for it, and wrote it there since its stream was granted, of the branch that the vBucket is on, and which is not over
pub record LawfulCounted (chronicle : Chronicle) (l n v member seq : ℕ) : Type 0 where
  pub active : IsIfKnown (chronicle.role_at n v) (Some Active)
  pub dialed : chronicle.dial_of l ≡ Some (record { producer = n; node = member; vb = v })
  pub granted : (g : Granted) × (chronicle.stream_of (name.Link l) v ≡ Some g) × (g.over ≡ false) × HasOne seq g.wrote × (chronicle.branch_at n v ≡ Some (stream_branch g))
  pub held : seq ≤ last_seq 0 (chronicle.held n v)
  pub another : member ≢ n

-- the start that a marker names behind this one: of the first one the request's, of a later one the place before it
abbrev pub next_marker_start : Option Begun → Granted → ℕ
next_marker_start None g = meant_start g.ask
next_marker_start (Some b) g = g.place

-- the end that it reaches at least: of the first one the request's
abbrev pub reach_after : Option Begun → Granted → ℕ
reach_after None g = meant_end g.ask
reach_after (Some b) g = 0

-- a marker comes before the stream's end, names its start, comes behind a whole snapshot, reaches what the request means, and goes from the place to its end with a whole snapshot of the branch
pub record IsMarker (tree : List Branch) (g : Granted) (start end : ℕ) : Type 0 where
  pub opens : g.over ≡ false
  pub starts : start ≡ next_marker_start g.last g
  pub behind : IsWholeIf g.last
  pub reaches : reach_after g.last g ≤ end
  pub whole : (xs : List Change) × Covers xs (hist tree (stream_branch g)) g.place end

-- the stream of this name, of a vBucket that it is of
abbrev pub IsStream : Chronicle → StreamName → Granted → Type 0
IsStream chronicle stream g = (v : ℕ) × (is_stream_of chronicle stream v ≡ true) × (chronicle.stream_of stream v ≡ Some g)

-- what counts as saved where a stream comes from: the vBucket that its link dials
abbrev pub stream_saved : Chronicle → StreamName → ℕ
stream_saved chronicle (name.Link l) = fed_saved chronicle (chronicle.dial_of l)
stream_saved chronicle (name.Client n c) = 0

-- a marker of a stream, whose snapshot comes from where its flags say
abbrev pub LawfulMark : Chronicle → StreamName → ℕ → ℕ → ℕ → Type 0
LawfulMark chronicle stream start end flags = (g : Granted) × IsStream chronicle stream g × IsMarker chronicle.tree g start end × IsFromSource flags end (stream_saved chronicle stream)

-- an item of a stream, before the stream's end; where its snapshot is from the journal, it tells of a change that was not replaced
abbrev pub LawfulItem : Chronicle → StreamName → ItemLine → Type 0
LawfulItem chronicle stream item = (g : Granted) × (b : Begun) × IsStream chronicle stream g × (g.over ≡ false) × (g.last ≡ Some b) × IsNextItem b item × IsOfSource b item

-- a stream that was asked for with no end, and for no takeover, ends with the reason 2
abbrev pub EndsBy : StreamAsk → ℕ → Type 0
EndsBy ask reason = ask.flags ≡ 0 → ask.end ≡ 2 ^ 64 - 1 → reason ≡ 2

-- the end of a stream comes once, behind a whole snapshot
abbrev pub LawfulFinish : Chronicle → StreamName → ℕ → Type 0
LawfulFinish chronicle stream reason = (g : Granted) × IsStream chronicle stream g × (g.over ≡ false) × IsWholeIf g.last × EndsBy g.ask reason

-- a link is dialed, and not over
abbrev pub IsOpen : Chronicle → ℕ → Type 0
IsOpen chronicle l = (dial : Dial) × (chronicle.dial_of l ≡ Some dial)

-- a device call fails only where a script said so
abbrev pub IsToFail : Fuse → Type 0
IsToFail (Fail k) = 0 < k
IsToFail other = ⊥

-- so does a node stop inside one
abbrev pub IsToStop : Fuse → Type 0
IsToStop (Stop k) = 0 < k
IsToStop other = ⊥

-- a line, after what was read, and in front of those behind it in its group; one for a client is judged by its connection, and one of a client's stream by what is known of that; what a client is sent is an answer, or the frame of the line before; and a connection closes once none of its questions is left, but where it ends with its node. No vBucket follows a client's stream
abbrev pub LawfulLine : Chronicle → Event → List Event → Type 0
LawfulLine chronicle (event.Branch n v uuid parent fork high) behind = LawfulBranch chronicle n v uuid parent fork high
LawfulLine chronicle (event.Role n v role) behind = LawfulRole chronicle n v role
LawfulLine chronicle (event.Changed n v uuid change) behind = LawfulChange chronicle n v uuid change
LawfulLine chronicle (event.Reply n c bytes) behind = (chronicle.clients_at n c).told ≡ None → LawfulReply chronicle n c (chronicle.clients_at n c).asking bytes behind
LawfulLine chronicle (event.Closed n c) behind = chronicle.conn_at n c ≡ true → question_of (chronicle.clients_at n c).asking ≡ None
LawfulLine chronicle (event.Asked (name.Link l) n v ask high log said) behind = LawfulAsk chronicle l n v ask high log said
LawfulLine chronicle (event.Asked (name.Client n c) m v ask high log said) behind = LawfulClientAsk chronicle (chronicle.clients_at n c) n c m v ask high log said behind
LawfulLine chronicle (event.Marked (name.Link l) start end flags) behind = LawfulMark chronicle (name.Link l) start end flags
LawfulLine chronicle (event.Marked (name.Client n c) start end flags) behind = LawfulClientMark chronicle (chronicle.clients_at n c) n c start end flags behind
LawfulLine chronicle (event.Item (name.Link l) seq act key) behind = LawfulItem chronicle (name.Link l) (record { seq = seq; act = act; key = key })
LawfulLine chronicle (event.Item (name.Client n c) seq act key) behind = LawfulClientItem chronicle (chronicle.clients_at n c) n c (record { seq = seq; act = act; key = key }) behind
LawfulLine chronicle (event.Finished (name.Link l) reason) behind = LawfulFinish chronicle (name.Link l) reason
LawfulLine chronicle (event.Finished (name.Client n c) reason) behind = LawfulClientEnd (chronicle.clients_at n c) n c reason behind
LawfulLine chronicle (event.Stated (name.Link l) role) behind = LawfulState chronicle l role
LawfulLine chronicle (event.Stated (name.Client n c) role) behind = ⊥
LawfulLine chronicle (event.Adopted n v log) behind = LawfulAdopt chronicle n v log
LawfulLine chronicle (event.Ranged n v ss se) behind = LawfulRange chronicle n v ss se
LawfulLine chronicle (event.Got n v (name.Link l) change) behind = LawfulGot chronicle n v l change
LawfulLine chronicle (event.Got n v (name.Client m c) change) behind = ⊥
LawfulLine chronicle (event.Rolled n v named to) behind = LawfulRoll chronicle n v named to
LawfulLine chronicle (event.Acknowledged (name.Link l) n v seq saved) behind = LawfulAcknowledged chronicle l n v seq saved
LawfulLine chronicle (event.Acknowledged (name.Client m c) n v seq saved) behind = ⊥
LawfulLine chronicle (event.Counted (name.Link l) n v member seq) behind = LawfulCounted chronicle l n v member seq
LawfulLine chronicle (event.Counted (name.Client m c) n v member seq) behind = ⊥
LawfulLine chronicle (event.Batch n v ss se at count) behind = LawfulBatch chronicle n v (record { ss = ss; se = se; at = at }) count
LawfulLine chronicle (event.Stat n v windows items cursors saved high) behind = LawfulStat chronicle n v windows items cursors saved high
LawfulLine chronicle (event.CallFailed n) behind = IsToFail (chronicle.arm_at n).fuse
LawfulLine chronicle (event.NodeStopped n) behind = IsToStop (chronicle.arm_at n).fuse
LawfulLine chronicle (event.Ended l reason) behind = IsOpen chronicle l
LawfulLine chronicle (event.Shown n v role uuid at ss se docs preps) behind =
    LawfulShown chronicle (record { node = n; vb = v; role = role; uuid = uuid; at = at; ss = ss; se = se; docs = docs; preps = preps }) behind
LawfulLine chronicle (event.Logged n v log) behind = LawfulLog chronicle n v log
LawfulLine chronicle (event.Document key doc) behind = Unit {0}
LawfulLine chronicle (event.Prepared key seq level) behind = Unit {0}

-- the lines of a group
abbrev pub LawfulFrom : Chronicle → List Event → Type 0
LawfulFrom chronicle [] = Unit {0}
LawfulFrom chronicle (line ∷ behind) = LawfulLine chronicle line behind × LawfulFrom (after_line chronicle line) behind

-- the same, with the connections of clients that are open before them
abbrev pub LinesFrom : Chronicle → Conns → List Event → Type 0
LinesFrom chronicle conns [] = Unit {0}
LinesFrom chronicle conns (line ∷ behind) = Heard conns line behind (LawfulLine chronicle line behind) × LinesFrom (after_line chronicle line) (conns_line conns line) behind

-- the group of a line of a script: its number, its lines, its answer, and what both say of arms that fired and of vBuckets that went back; one that was refused where it stood tells of nothing; none tells of anything else than its line may, and what is told of takeovers is in order; each tells what its line asked for; none leaves undone what it is for; none leaves a client without an answer; behind each set and each removal its answer stands; none closes a client's connection but where its bytes break off, or its node ends; and none ends a link of which it does not tell so
abbrev pub LawfulGroup : Chronicle → ScriptLine → Group → Type 0
LawfulGroup chronicle line group =
    LinesFrom (ahead chronicle line.verb group.answer) chronicle.conn_at group.events × IsAnswered chronicle line.verb group.events group.answer × FiresInLine chronicle line.verb group.events group.answer × (group.line ≡ line.line) × TellsIfBegun group.events group.answer × HandsOver chronicle line.verb group.events group.answer × TellsAsAsked line.verb group.events group.answer × LeavesNone chronicle line.verb group.events group.answer × AllAnswered (after_group chronicle line.verb group.events group.answer) × AllToldNext group.events × ClosesAsBroken chronicle line.verb group.events × AllEnded chronicle line.verb group.events group.answer

-- the groups of the lines of a script that come next, one for each, read behind the number of its line
abbrev pub LawfulGroups : Chronicle → List ScriptLine → List Group → Type 0
LawfulGroups chronicle [] [] = Unit {0}
LawfulGroups chronicle (line ∷ lines) [] = ⊥
LawfulGroups chronicle [] (group ∷ groups) = ⊥
LawfulGroups chronicle (line ∷ lines) (group ∷ groups) =
    LawfulGroup (at_line chronicle line.line) line group × LawfulGroups (after_group (at_line chronicle line.line) line.verb group.events group.answer) lines groups

-- a whole transcript of a script
abbrev pub Lawful : List ScriptLine → List Group → Type 0
Lawful script groups = LawfulGroups empty_chronicle script groups
