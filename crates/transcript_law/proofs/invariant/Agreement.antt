-- what is read of the lines agrees with the plain world, and both with a cluster in which what happened may happen
use Rattle.std.specs.Prelude.{◌≡◌, ◌<◌, ◌≤◌, ◌+◌, ◌*◌, ◌∷◌, ◌++◌, ◌⊎◌, ◌^◌, ◌&&◌, ◌==◌, if◌then◌else◌}
use Rattle.transcript_law.proofs.Words.{ℕ, suc, Bool, true, false, List, [], length, map, drop, take, Option, Some, None, not, nat_lt, is_some, All, concat, filter, ap, sym, ◌∙◌, option_map}
use Rattle.transcript_law.proofs.Words.{Frame, RESPONSE, spelling, Readable, dcp_frame, Change, AskAnswer, Position, LogEntry, StreamAsk, last_seq, request_of, fork_of, Covers, Branch, hist, branch, IsNew, Feed}
use Rattle.transcript_law.proofs.Words.{Member, Cluster, SoundCluster, flight_from, flight_end, Stream, Plain, is_active, is_follower, stream_at, Handshake, PlainStream, stream_verdict, act_message, STATE_CHANGED}
use Rattle.transcript_law.proofs.Words.{PlainLink, link_number, producer_node, consumer_node, PlainWorld, Outcome, is_one_of, with_branches, ItemLine, Begun, Granted}
use Rattle.transcript_law.proofs.{Words.{Chronicle, after_lines, item_of_change, LawfulFrom, PlainProducer, PlainConsumer, uuid_of, front, Dial}, invariant.Seats.{seat}, invariant.Trees.{AreTold, IdsFit}}
use Rattle.{dcp_consumer.specs.declared.handshake.Dialed.{Dialed}, dcp_producer.specs.declared.desk.Desk.{Desk}, transcript_law.proofs.links.Firsts.{request_frames, first_answers, first_count, set_after, waits_after}, transcript_law.proofs.links.Sources.{ItemsFit}}
use Rattle.transcript_law.specs.{Feeding.{HasOpen}, Undone.{newest}}
use Rattle.vb_events.specs.declared.event.StreamName.TheVariants.{Link}
use Rattle.dcp_consumer.specs.Dialing.{flagged}
use Rattle.dcp_producer.specs.Firsts.{first_of}
use Rattle.dcp_producer.specs.Frames.{marker_flags}
use Rattle.dcp_consumer.specs.declared.handshake.Handshake.TheVariants as waiting
use Rattle.mcbp_dcp.specs.declared.shape.TheConstants.{SUCCESS}
use Rattle.takeover.specs.GivingUp.{new_give_up}
use Rattle.takeover.specs.TakingOver.{new_take_over}
use Rattle.takeover.specs.declared.give_up.GiveStep.TheVariants.{AwaitActive, AwaitPending, End, SendRest, Yield}
use Rattle.takeover.specs.declared.give_up.GiveUp.{GiveUp}
use Rattle.takeover.specs.declared.take_over.TakeOver.{TakeOver}
use Rattle.takeover.specs.declared.take_over.TakeStep.{TakeStep}
use Rattle.takeover.specs.declared.take_over.TakeStep.TheVariants.{Own, Pend}
use Rattle.transcript_law.specs.StreamLaws.{IsWholeIf}
use Rattle.branch_model.specs.Requests.{effective_se}
use Rattle.{branch_model.specs.Journals.{log_of, place_of}, cluster_model.specs.Clusters.{Disk}, disk_journals.specs.Books.{Book, listed}, durability.specs.Laws.{HasOne}, vb_calls.specs.Shelves.{Shelf}}
use Rattle.{transcript_law.specs.Chronicles.{ArmKnown, DiskKnown, no_arm, resting}, vb_disk.specs.declared.fuse.Fuse.{Fuse}, vb_types.specs.declared.role.Role.{Role}}
use Rattle.vb_disk.specs.declared.fuse.Fuse.TheVariants.{Off, Stop, Fail}
use Rattle.mcbp_dcp.specs.declared.message.DcpMsg.TheVariants as msg
use Rattle.vb_types.specs.declared.stream.AskAnswer.TheVariants as ask_answer
pub use Rattle.transcript_law.proofs.disks.Disks.{DiskIsIf, Power, book_in, power_of, shelf_of}
pub use Rattle.transcript_law.proofs.invariant.ClientsTold.{ClientAgrees, ClientsApart, ClientsTold}
pub use Rattle.transcript_law.proofs.invariant.Holdings.{vb_of, DocFits, ActFits, ChangeFits, MemberAgrees, BranchAgrees, IsWriter, IsWriterIf, Writes, WritesIf, EntryFits, own_history, NodeKnown, node_known, VbContents, vb_contents, VbRow, vb_row, Keeps, VbTold, VbHeld, VbHolds, VbRowIs, VbAgrees, CountsAre, CountsIf, no_counts, active_counts, counts_if, no_lefts, TimesAre, TimesIf, no_times, active_times, times_if, IsAway, VbIsIf, AgreesAt, all_rise, image_is}

-- the frame of the answer to a request for a stream
abbrev pub answer_frame : ℕ → List LogEntry → AskAnswer → Frame
answer_frame o log said = dcp_frame (msg.StreamAnswer (stream_verdict log said)) o 0

-- the frame of a change of a stream; the opaque o and the vBucket are the stream's
abbrev pub change_frame : ℕ → ℕ → Change → Frame
change_frame o vb c = dcp_frame (act_message c c.act) o vb

-- the frames of changes
abbrev pub items_frames : ℕ → ℕ → List Change → List Frame
items_frames o vb xs = map (change_frame o vb) xs

-- how far a vBucket is handed over by a link's stream, while the consumer's follows: nothing was stated; pending is on its way; it was taken, and its answer is on its way; that came; the vBucket was given up, and its rest is sent; active is on its way
pub data Handing : Type 0 where
  Unstated : Handing
  Offered : Handing
  Pended : Handing
  Due : Handing
  Ceded : Handing
  Stated : Handing

-- the step of the stream then, of a dial that is for a takeover or not: no stream stands in one in which a state alone is put
abbrev pub gives_in : Bool → Handing → Option GiveUp
gives_in takeover Handing.Unstated = if takeover then Some new_give_up else None
gives_in takeover Handing.Offered = Some (record { step = AwaitPending })
gives_in takeover Handing.Pended = Some (record { step = AwaitPending })
gives_in takeover Handing.Due = Some (record { step = Yield })
gives_in takeover Handing.Ceded = Some (record { step = SendRest })
gives_in takeover Handing.Stated = Some (record { step = AwaitActive })

-- what the consumer was told last
abbrev pub taken_in : Handing → TakeOver
taken_in Handing.Unstated = new_take_over
taken_in Handing.Offered = new_take_over
taken_in Handing.Pended = record { last = Some Pend }
taken_in Handing.Due = record { last = Some Pend }
taken_in Handing.Ceded = record { last = Some Pend }
taken_in Handing.Stated = record { last = Some Pend }

-- the stream puts its snapshots, and no state is on its way
abbrev pub is_sending : Handing → Bool
is_sending Handing.Unstated = true
is_sending Handing.Offered = false
is_sending Handing.Pended = false
is_sending Handing.Due = false
is_sending Handing.Ceded = true
is_sending Handing.Stated = false

-- pending was taken, and nothing was put behind it
abbrev pub has_pended : Handing → Bool
has_pended Handing.Unstated = false
has_pended Handing.Offered = false
has_pended Handing.Pended = true
has_pended Handing.Due = true
has_pended Handing.Ceded = false
has_pended Handing.Stated = false

-- the state that was put last, as lines tell
abbrev pub stated_in : Handing → Option Role
stated_in Handing.Unstated = None
stated_in Handing.Offered = Some Role.Pending
stated_in Handing.Pended = Some Role.Pending
stated_in Handing.Due = Some Role.Pending
stated_in Handing.Ceded = Some Role.Pending
stated_in Handing.Stated = Some Role.Active

-- the frame of a state that is on its way
abbrev pub state_frames : ℕ → ℕ → Handing → List Frame
state_frames o vb Handing.Unstated = []
state_frames o vb Handing.Offered = dcp_frame (msg.SetVbucketState Role.Pending) o vb ∷ []
state_frames o vb Handing.Pended = []
state_frames o vb Handing.Due = []
state_frames o vb Handing.Ceded = []
state_frames o vb Handing.Stated = dcp_frame (msg.SetVbucketState Role.Active) o vb ∷ []

-- the answer to a state, which is on its way
abbrev pub state_answer : ℕ → Frame
state_answer o = dcp_frame (msg.StateAnswer SUCCESS) o 0

abbrev pub answers_in : ℕ → Handing → List Frame
answers_in o Handing.Unstated = []
answers_in o Handing.Offered = []
answers_in o Handing.Pended = state_answer o ∷ []
answers_in o Handing.Due = []
answers_in o Handing.Ceded = []
answers_in o Handing.Stated = []

-- the frame of a stream's end with this reason, where that was put
abbrev pub end_frames : ℕ → ℕ → ℕ → Bool → List Frame
end_frames o vb why false = []
end_frames o vb why true = dcp_frame (msg.StreamEnd why) o vb ∷ []

-- what is behind the snapshots: a state, and the stream's end, which comes of a change of role while the consumer follows
abbrev pub tail_frames : ℕ → ℕ → Handing → Bool → List Frame
tail_frames o vb h over = state_frames o vb h ++ end_frames o vb STATE_CHANGED over

-- snapshots, by their ends and items, without where each was taken from: true for the disk
abbrev pub flight_of : List (Bool × (ℕ × List Change)) → List (ℕ × List Change)
flight_of snapshots = map (λ s. s.1) snapshots

-- the frames of whole snapshots, the first of which starts there, and each other one where the one before it ended, and of what is behind them; the marker of each tells where it was taken from
abbrev pub flight_frames : ℕ → ℕ → List Frame → ℕ → List (Bool × (ℕ × List Change)) → List Frame
flight_frames o vb tail start [] = tail
flight_frames o vb tail start (s ∷ more) = dcp_frame (msg.SnapshotMarker start s.1.0 (marker_flags s.0)) o vb ∷ items_frames o vb s.1.1 ++ flight_frames o vb tail s.1.0 more

-- what is to come of the snapshot that the consumer is in
abbrev pub coming_items : Option (List Change) → List Change
coming_items None = []
coming_items (Some xs) = xs

-- the changes of snapshots that are on their way
abbrev pub flight_items : List (ℕ × List Change) → List Change
flight_items [] = []
flight_items (x ∷ more) = x.1 ++ flight_items more

-- the starts and ends of the markers of snapshots on their way, the first of which starts there, and each other one where the one before it ended
abbrev pub flight_marks : ℕ → List (ℕ × List Change) → List (ℕ × ℕ)
flight_marks start [] = []
flight_marks start (x ∷ more) = (start, x.0) ∷ flight_marks x.0 more

-- these are the items of the last snapshot on its way, if there is one
abbrev pub LastAgrees : List Change → List (ℕ × List Change) → Type 0
LastAgrees items [] = Unit {0}
LastAgrees items (x ∷ []) = x.1 ≡ items
LastAgrees items (x ∷ y ∷ more) = LastAgrees items (y ∷ more)

-- of the changes that are to come for a consumer the lines tell those of which the items were put; what was not put is of the last snapshot
pub record ComingIs (told : List ItemLine) (stream : PlainStream) (flight : List (ℕ × List Change)) (coming : Option (List Change)) : Type 0 where
  pub all : map item_of_change (coming_items coming ++ flight_items flight) ≡ told ++ map item_of_change (drop stream.next stream.items)
  pub last : LastAgrees stream.items flight

-- the start of the next marker for a consumer: before it took one, the one that its position means, and then the end of its snapshot
abbrev pub marker_start : Bool → Position → ℕ
marker_start true p = p.se
marker_start false p = fork_of p

-- all frames of a stream that its consumer has not taken yet
abbrev pub stream_frames : ℕ → ℕ → List Frame → Bool → Position → Option (List Change) → List (Bool × (ℕ × List Change)) → List Frame
stream_frames o vb tail in_one p coming snapshots = items_frames o vb (coming_items coming) ++ flight_frames o vb tail (marker_start in_one p) snapshots

-- the last snapshot that a stream's lines tell of is the one that its producer took last, of which so many items were put
abbrev pub BegunAgrees : Option Begun → PlainStream → Type 0
BegunAgrees None stream = stream.items ≡ []
BegunAgrees (Some b) stream = Covers stream.items b.history b.from b.end × (b.items ≡ map item_of_change (take stream.next stream.items)) × ItemsFit b stream.items

-- the vBucket that feeds it was given up for it, at the last seqno of its branch
pub record GivenUp (role : Role) (leader : Member) (given : Option ℕ) : Type 0 where
  pub dead : role ≡ Role.Dead
  pub at_tip : fork_of leader.position ≡ leader.position.at
  pub given_there : given ≡ Some leader.position.at

-- the vBucket that feeds a stream is active until it is given up for it
abbrev pub FeederIn : Handing → Role → Member → Option ℕ → Type 0
FeederIn Handing.Unstated role leader given = is_active role ≡ true
FeederIn Handing.Offered role leader given = is_active role ≡ true
FeederIn Handing.Pended role leader given = is_active role ≡ true
FeederIn Handing.Due role leader given = is_active role ≡ true
FeederIn Handing.Ceded role leader given = GivenUp role leader given
FeederIn Handing.Stated role leader given = GivenUp role leader given

-- a stream that no change of role ended is open at its producer's vBucket, which is active on the stream's branch u, or was given up for it; that reaches what the request means, before a snapshot is begun
pub record OpenAt (id : ℕ) (ask : StreamAsk) (place : ℕ) (begun : Bool) (pv : Option Plain) (leader : Member) (u : ℕ) (h : Handing) (given : Option ℕ) : Type 0 where
  pub producer : Plain
  pub producer_is : pv ≡ Some producer
  pub active : FeederIn h producer.role leader given
  pub leads : leader.br ≡ u
  pub opened : (s : Stream) × (stream_at id producer.streams ≡ Some s) × (s.ask ≡ ask) × (s.sync ≡ true) × (s.place ≡ place) × (s.taken ≡ begun)
  pub reached : begun ≡ false → effective_se ask.start ask.ss ask.se ≤ leader.position.at

-- so it is of one that was granted, under its number
abbrev pub Open : ℕ → Granted → Option Plain → Member → Feed → Handing → Type 0
Open id g pv leader feed h = OpenAt id g.ask g.place (is_some g.last) pv leader feed.u h feed.given

-- the branch was given up for a consumer exactly from then on; and once active was stated, all up to there was sent
abbrev pub GivenIn : Handing → Option ℕ → ℕ → Type 0
GivenIn Handing.Unstated given place = given ≡ None
GivenIn Handing.Offered given place = given ≡ None
GivenIn Handing.Pended given place = given ≡ None
GivenIn Handing.Due given place = given ≡ None
GivenIn Handing.Ceded given place = (n : ℕ) × (given ≡ Some n)
GivenIn Handing.Stated given place = given ≡ Some place

-- the greatest seqno
abbrev pub top : ℕ
top = 2 ^ 48

-- no marker that was sent ends above the greatest seqno
abbrev pub IsLow : Option ℕ → Type 0
IsLow None = Unit {0}
IsLow (Some end) = end ≤ top

-- a stream was asked for with an end that no seqno reaches
pub record IsEndless (stream : PlainStream) : Type 0 where
  pub until : top < stream.until
  pub marked : IsLow stream.marked

-- a stream of the vBucket vb as its producer keeps it: it is the one that the lines tell, was marked exactly where they tell of a marker, up to the place that they tell, and is of the branch that its consumer's member is fed with; no backfill of it is to be read
pub record PutAgrees (o vb : ℕ) (ask : StreamAsk) (place : ℕ) (log : List LogEntry) (begun : Option Begun) (stream : PlainStream) (u : ℕ) (fed : List LogEntry) : Type 0 where
  pub vb_is : stream.vb ≡ vb
  pub opaque_is : stream.opaque ≡ o
  pub no_end : IsEndless stream
  pub first_is : stream.first ≡ first_of ask
  pub marked_is : is_some stream.marked ≡ is_some begun
  pub sync_is : stream.sync ≡ true
  pub put_place : stream.place ≡ place
  pub none_unread : stream.unread ≡ None
  pub fits : All ChangeFits stream.items
  pub next_in : stream.next ≤ length stream.items
  pub last : BegunAgrees begun stream
  pub log_lines : log ≡ fed
  pub front_is : uuid_of (front log) ≡ u

-- the snapshots on their way, and the one that the consumer is in, if it is in one: where they end, and the markers that the lines tell of them
pub record WayIs (place : ℕ) (told : List (ℕ × ℕ)) (begun : Bool) (flight : List (ℕ × List Change)) (kn : Member) (in_one : Bool) : Type 0 where
  pub place_is : place ≡ flight_end (flight_from kn kn.coming) flight
  pub marks : told ≡ flight_marks (marker_start in_one kn.position) flight
  pub in_one_last : in_one ≡ true → last_seq kn.position.at (coming_items kn.coming) ≡ kn.position.se
  pub taken_one : in_one ≡ true → begun ≡ true
  pub none_left : begun ≡ false → flight ≡ []
  pub not_in_one : in_one ≡ false → coming_items kn.coming ≡ []
  pub in_flight : in_one ≡ false → flight ≡ [] → begun ≡ false

-- a stream that was let continue: what the lines tell of it, what its producer keeps of it, and what its consumer has of it
pub record StreamAgrees (o vb : ℕ) (g : Granted) (stream : PlainStream) (pv : Option Plain) (leader : Member) (feed : Feed) (kn : Member) (in_one : Bool) (h : Handing) : Type 0 where
  pub put : PutAgrees o vb g.ask g.place g.log g.last stream feed.u feed.log
  pub open put use *
  pub opens : stream.ended ≡ false → Open stream.id g pv leader feed h
  pub given_in : GivenIn h feed.given g.place
  pub all_taken : has_pended h ≡ true → (feed.flight ≡ []) × (coming_items kn.coming ≡ [])
  pub over_ended : g.over ≡ true → stream.ended ≡ true
  pub coming : ComingIs g.coming stream feed.flight kn.coming
  pub way : WayIs g.place g.marks (is_some g.last) feed.flight kn in_one
  pub open way use *

-- the frames on their way to an end of a link: those that it is about to take, and behind them those whose bytes it has heard or are to come
pub record QueueIs (heard moving : List ℕ) (busy all : List Frame) : Type 0 where
  pub behind : List Frame
  pub joined : all ≡ busy ++ behind
  pub bytes : heard ++ moving ≡ concat (map spelling behind)
  pub readable : All Readable all

-- to its producer, and to its consumer
abbrev pub UpIs : PlainLink → List Frame → List Frame → Type 0
UpIs link busy all = QueueIs link.up_heard link.up busy all

abbrev pub DownAgrees : PlainLink → List Frame → List Frame → Type 0
DownAgrees link busy all = QueueIs link.down_heard link.down busy all

-- the producer has answered so many of the requests of the consumer of this dial
abbrev pub ServerIs : PlainProducer → Dialed → ℕ → Type 0
ServerIs end d answered = end.handshake ≡ set_after d answered

-- the consumer has taken so many of the answers; its last request for a stream has an opaque
pub record ConsumerIs (end : PlainConsumer) (seen : ℕ) : Type 0 where
  pub waits : end.handshake ≡ waits_after end.dialed seen
  pub small : end.asked < 2 ^ 32

-- a consumer that was told no state yet
abbrev pub IsUntold : PlainConsumer → Type 0
IsUntold end = end.taking ≡ new_take_over

-- what a consumer's vBucket asks by, and whether its next marker is the first one of a stream
pub record Wants : Type 0 where
  pub log : List LogEntry
  pub position : Position
  pub first : Bool

abbrev pub wants_of : Plain → Wants
wants_of vb = record { log = vb.log; position = vb.position; first = vb.first }

-- Before the request for a stream is answered: `seen` answers were taken, `answered` were given. It is still what the consumer's vBucket asks for.
pub record AskingAt (fv : Wants) (ask : StreamAsk) (set : Handshake) (asker : PlainConsumer) (up down : List Frame) : Type 0 where
  pub answered : ℕ
  pub seen : ℕ
  pub some_left : answered ≤ first_count asker.dialed
  pub not_more : seen ≤ answered
  pub server : set ≡ set_after asker.dialed answered
  pub consumer : ConsumerIs asker seen
  pub asks : ask ≡ flagged asker.dialed.takeover (request_of fv.log fv.position)
  pub untold : IsUntold asker
  pub asked_is : up ≡ drop answered (request_frames asker.asked asker.dialed ask)
  pub said_is : down ≡ drop seen (take answered (first_answers asker.dialed))

-- so it is with the two ends; the producer has no stream, and asked its vBuckets for fewer than the consumer sent requests
pub record Asking (fv : Wants) (ask : StreamAsk) (served : PlainProducer) (asker : PlainConsumer) (up down : List Frame) : Type 0 where
  pub no_stream : served.streams ≡ []
  pub fewer : served.asked < asker.asked
  pub asking : AskingAt fv ask served.handshake asker up down
  pub open asking use *

-- an answer that grants nothing
abbrev pub IsRefused : AskAnswer → Type 0
IsRefused ask_answer.Go = ⊥
IsRefused (ask_answer.Roll to) = to < 2 ^ 64
IsRefused (ask_answer.Refuse code) = (code ≡ 0 → ⊥) × (code ≡ 0x23 → ⊥) × (code < 2 ^ 16)

-- the point that the lines tell of such an answer
abbrev pub PointAgrees : AskAnswer → Option ℕ → Type 0
PointAgrees ask_answer.Go point = ⊥
PointAgrees (ask_answer.Roll to) point = point ≡ Some to
PointAgrees (ask_answer.Refuse code) point = Unit {0}

-- after it was refused or sent back, until the consumer takes that answer
pub record RefusedAt (point : Option ℕ) (set : Handshake) (asker : PlainConsumer) (up down : List Frame) : Type 0 where
  pub said : AskAnswer
  pub refused : IsRefused said
  pub told : PointAgrees said point
  pub seen : ℕ
  pub not_more : seen ≤ first_count asker.dialed
  pub server : set ≡ set_after asker.dialed (first_count asker.dialed)
  pub consumer : ConsumerIs asker seen
  pub untold : IsUntold asker
  pub asked_is : up ≡ []
  pub said_is : down ≡ drop seen (first_answers asker.dialed) ++ answer_frame asker.asked [] said ∷ []

-- so it is with the two ends
pub record RefusedYet (point : Option ℕ) (served : PlainProducer) (asker : PlainConsumer) (up down : List Frame) : Type 0 where
  pub no_stream : served.streams ≡ []
  pub fewer : served.asked ≤ asker.asked
  pub refusal : RefusedAt point served.handshake asker up down
  pub open refusal use *

-- the streams that the producer keeps: this one, until its end was put
abbrev pub kept_stream : Bool → PlainStream → List PlainStream
kept_stream false stream = stream ∷ []
kept_stream true stream = []

-- an acknowledgement of a stream with the opaque o, of the vBucket vb, on its way to the producer: of a number of which the lines told before
abbrev pub IsSeqnoAcknowledgement : List ℕ → ℕ → ℕ → Frame → Type 0
IsSeqnoAcknowledgement wrote o vb f = (seq : ℕ) × (f ≡ dcp_frame (msg.SeqnoAcknowledged seq) o vb) × (seq < 2 ^ 64) × HasOne seq wrote

-- one of the bytes of a delivery
abbrev pub IsBytesAcknowledgement : ℕ → Frame → Type 0
IsBytesAcknowledgement o f = (bytes : ℕ) × (f ≡ dcp_frame (msg.BufferAcknowledgement bytes) o 0) × (bytes < 2 ^ 32)

abbrev pub IsAcknowledgement : List ℕ → ℕ → ℕ → Frame → Type 0
IsAcknowledgement wrote o vb f = IsSeqnoAcknowledgement wrote o vb f ⊎ IsBytesAcknowledgement o f

-- what a consumer with a stream has on its way up: acknowledgements, and answers to states
abbrev pub IsUpward : List ℕ → ℕ → ℕ → Frame → Type 0
IsUpward wrote o vb f = IsAcknowledgement wrote o vb f ⊎ (f ≡ state_answer o)

abbrev pub is_state_answer : Frame → Bool
is_state_answer f = f.magic == RESPONSE && f.opcode == 0x5b

-- of the frames on their way up these are answers to states
pub record UpwardIs (wrote : List ℕ) (o vb : ℕ) (answers up : List Frame) : Type 0 where
  pub each : All (IsUpward wrote o vb) up
  pub answers_are : filter is_state_answer up ≡ answers

-- the answer to an acknowledgement that was refused, which its consumer drops
abbrev pub is_refused_ack : Frame → Bool
is_refused_ack f = f.magic == RESPONSE && f.opcode == 0x61

-- the frames but for these
abbrev pub spoken : List Frame → List Frame
spoken frames = filter (λ f. not (is_refused_ack f)) frames

-- the producer's end of a granted stream, which has answered all requests but acknowledgements; and the frames of items that it is to put
pub record Serving (served : PlainProducer) (o : ℕ) (d : Dialed) (over : Bool) (wrote : List ℕ) (up : List Frame) : Type 0 where
  pub stream : PlainStream
  pub stream_is : served.streams ≡ kept_stream over stream
  pub numbered : stream.id ≤ served.desk.base * 2 ^ 32 + served.asked
  pub apart : served.desk.node ≡ d.node → ⊥
  pub server : ServerIs served d (first_count d)
  pub handing : Handing
  pub gives_is : stream.gives ≡ gives_in d.takeover handing
  pub dialed_so : d.takeover ≡ false → handing ≡ Handing.Unstated
  pub acks : UpwardIs wrote o d.vb (answers_in o handing) up
  pub unput : List Frame
  pub unput_is : unput ≡ items_frames o d.vb (drop stream.next stream.items)
  pub all_put : over ≡ true → unput ≡ []
  pub stated_behind : is_sending handing ≡ false → unput ≡ []

-- a consumer has taken so many of the answers that the one that granted its stream is among them
abbrev pub is_granted : Dialed → ℕ → Bool
is_granted d seen = nat_lt (first_count d) seen

-- its consumer's end: until it takes the answer that granted it, its vBucket asks for the same; and it was told of the states that it took
pub record Taking (fv : Wants) (coming : Option (List Change)) (asker : PlainConsumer) (ask : StreamAsk) (seen : ℕ) (h : Handing) : Type 0 where
  pub not_more : seen ≤ suc (first_count asker.dialed)
  pub consumer : ConsumerIs asker seen
  pub adopted : is_some coming ≡ is_granted asker.dialed seen
  pub taken_is : asker.taking ≡ taken_in h
  pub granted_first : taken_in h ≡ record { last = Some Pend } → is_granted asker.dialed seen ≡ true
  pub flag_is : asker.dialed.takeover ≡ true → ask.flags ≡ 1
  pub asks : (is_granted asker.dialed seen && not fv.first) ≡ false → (ask.start ≡ fv.position.at) × (ask.ss ≡ fv.position.ss) × (ask.se ≡ fv.position.se)

-- a failover log that goes with an answer
pub record LogFits (log : List LogEntry) : Type 0 where
  pub short : length log ≤ 25
  pub entries : All EntryFits log

-- the snapshots on their way, each with where it was taken from: true for the disk
pub record Sourced (flight : List (ℕ × List Change)) : Type 0 where
  pub snapshots : List (Bool × (ℕ × List Change))
  pub are : flight_of snapshots ≡ flight

-- after it was granted: first its answer comes, then its snapshots, and last its end; the frames that the consumer has not taken were put, or are to be put
pub record Streaming (fv : Wants) (kn : Member) (pv : Option Plain) (leader : Member) (g : Option Granted) (served : PlainProducer) (asker : PlainConsumer) (up put : List Frame) : Type 0 where
  pub granted_is : Granted
  pub told : g ≡ Some granted_is
  pub serving : Serving served asker.asked asker.dialed granted_is.over granted_is.wrote up
  pub open serving use *
  pub feed : Feed
  pub fed : kn.link ≡ Some feed
  pub sources : Sourced feed.flight
  pub open sources use *
  pub log_fits : LogFits feed.log
  pub open log_fits use *
  pub seen : ℕ
  pub taking : Taking fv kn.coming asker granted_is.ask seen serving.handing
  pub open taking use *
  pub streams : StreamAgrees asker.asked asker.dialed.vb granted_is serving.stream pv leader feed kn (is_granted asker.dialed seen && not fv.first) serving.handing
  pub all : drop seen (first_answers asker.dialed ++ answer_frame asker.asked feed.log ask_answer.Go ∷ [])
      ++ stream_frames asker.asked asker.dialed.vb (tail_frames asker.asked asker.dialed.vb serving.handing granted_is.over) (is_granted asker.dialed seen && not fv.first) kn.position kn.coming snapshots ≡ put ++ serving.unput

-- once the consumer's vBucket took its branch over: whether the answer to that came, and what the reason of the stream's end is, by whether a change of role ended the stream
abbrev pub heir_step : Bool → GiveUp
heir_step answered = if answered then record { step = End } else record { step = AwaitActive }

abbrev pub heir_answers : ℕ → Bool → List Frame
heir_answers o answered = if answered then [] else state_answer o ∷ []

abbrev pub end_reason : Bool → ℕ
end_reason ended = if ended then STATE_CHANGED else 0

-- the stream is open yet at the vBucket, which was given up
pub record OpenYet (id : ℕ) (pv : Option Plain) : Type 0 where
  pub producer : Plain
  pub producer_is : pv ≡ Some producer
  pub dead : producer.role ≡ Role.Dead
  pub opened : (s : Stream) × (stream_at id producer.streams ≡ Some s)

-- The consumer's vBucket took its branch over by this link: nothing is to come but the stream's end. The vBucket may change as it likes; no member is fed by the link any more
pub record Heir (pv : Option Plain) (g : Option Granted) (served : PlainProducer) (asker : PlainConsumer) (up put : List Frame) : Type 0 where
  pub granted_is : Granted
  pub told : g ≡ Some granted_is
  pub stream : PlainStream
  pub stream_is : served.streams ≡ kept_stream granted_is.over stream
  pub vb_is : stream.vb ≡ asker.dialed.vb
  pub opaque_is : stream.opaque ≡ asker.asked
  pub numbered : stream.id ≤ served.desk.base * 2 ^ 32 + served.asked
  pub apart : served.desk.node ≡ asker.dialed.node → ⊥
  pub whole : length stream.items ≤ stream.next
  pub last : IsWholeIf granted_is.last
  pub server : ServerIs served asker.dialed (first_count asker.dialed)
  pub answered : Bool
  pub gives_is : stream.gives ≡ Some (heir_step answered)
  pub for_takeover : asker.dialed.takeover ≡ true
  pub flag_is : granted_is.ask.flags ≡ 1
  pub owns : asker.taking ≡ record { last = Some Own }
  pub granted : asker.handshake ≡ waiting.Streaming
  pub small : asker.asked < 2 ^ 32
  pub acks : UpwardIs granted_is.wrote asker.asked asker.dialed.vb (heir_answers asker.asked answered) up
  pub over_done : granted_is.over ≡ true → stream.ended ≡ false → answered ≡ true
  pub opens : stream.ended ≡ false → granted_is.over ≡ false → OpenYet stream.id pv
  pub none_marked : granted_is.marks ≡ []
  pub none_coming : granted_is.coming ≡ []
  pub end_is : put ≡ end_frames asker.asked asker.dialed.vb (end_reason stream.ended) granted_is.over

-- lines tell of no stream, and of no state
abbrev pub IsUnsaid : Option Granted → Option Role → Type 0
IsUnsaid g said = (g ≡ None) × (said ≡ None)

-- where the two ends of a link stand, with these frames on their way to the producer and to the consumer; `said` is the state that lines tell of last
pub data EndsStand (fv : Wants) (kn : Member) (pv : Option Plain) (leader : Member) (g : Option Granted) (said : Option Role) (point : Option ℕ) (served : PlainProducer) (asker : PlainConsumer) (up down : List Frame) : Type 0 where
  IsAsking : (ask : StreamAsk) → IsUnsaid g said → Asking fv ask served asker up down → EndsStand fv kn pv leader g said point served asker up down
  IsRefusedYet : IsUnsaid g said → RefusedYet point served asker up down → EndsStand fv kn pv leader g said point served asker up down
  IsStreaming : (x : Streaming fv kn pv leader g served asker up down) → said ≡ stated_in x.serving.handing → EndsStand fv kn pv leader g said point served asker up down
  IsHeir : Heir pv g served asker up down → said ≡ Some Role.Active → EndsStand fv kn pv leader g said point served asker up down

-- the same of a link, and what its queues hold
pub record Talk (fv : Plain) (kn : Member) (pv : Option Plain) (leader : Member) (g : Option Granted) (said_last : Option Role) (point : Option ℕ) (link : PlainLink) (up down : List Frame) : Type 0 where
  pub asked : List Frame
  pub said : List Frame
  pub stands : EndsStand (wants_of fv) kn pv leader g said_last point link.server link.consumer asked (spoken said)
  pub ups : UpIs link up asked
  pub downs : DownAgrees link down said

-- the members at the two ends of a link
abbrev pub consumer_seat : PlainLink → ℕ
consumer_seat link = seat (consumer_node link) link.consumer.dialed.vb

abbrev pub producer_seat : PlainLink → ℕ
producer_seat link = seat (producer_node link) link.consumer.dialed.vb

-- a link's dial, as the lines tell it and as its two ends have it
pub record DialAgrees (told : Option Dial) (desk : Desk) (d : Dialed) : Type 0 where
  pub dialed : told ≡ Some (record { producer = desk.node; node = d.node; vb = d.vb })
  pub named : desk.stream ≡ Link d.link
  pub small : (d.node < 16) × (d.vb < 1024) × (d.buffer < 2 ^ 32)

-- the last seqno that a consumer acknowledged is the last one that the lines tell of its stream, and 0 where they tell of none
abbrev pub AckedIs : Option Granted → ℕ → Type 0
AckedIs None acked = acked ≡ 0
AckedIs (Some g) acked = acked ≡ newest g.wrote

-- so it is of a stream that is told otherwise, where its acknowledgements are not
pub acked_still : (b : Bool) (f : Granted → Granted) (o : Option Granted) (acked : ℕ) → ((g : Granted) → (f g).wrote ≡ g.wrote) → AckedIs o acked → AckedIs (if b then option_map f o else o) acked
acked_still true f None acked same x = x
acked_still true f (Some g) acked same x = x ∙ ap newest (sym (same g))
acked_still false f o acked same x = x

-- the role of a link's vBucket, by what its consumer was told last; one that took its branch over may be given up for another in turn, while the link's end is to come
abbrev pub FollowsBy : Option TakeStep → Role → Type 0
FollowsBy None role = is_follower role ≡ true
FollowsBy (Some Pend) role = role ≡ Role.Pending
FollowsBy (Some Own) role = is_follower role ≡ false

-- while a vBucket is handed over its consumer's follows
pub follows_in : (h : Handing) (role : Role) → FollowsBy (taken_in h).last role → is_follower role ≡ true
follows_in Handing.Unstated role f = f
follows_in Handing.Offered role f = f
follows_in Handing.Pended role f = ap is_follower f
follows_in Handing.Due role f = ap is_follower f
follows_in Handing.Ceded role f = ap is_follower f
follows_in Handing.Stated role f = ap is_follower f

-- a link whose frames `up` are about to be answered, and whose frames `down` are about to be taken
pub record LinkAgrees (w : PlainWorld) (r : Chronicle) (c : Cluster) (link : PlainLink) (up down : List Frame) : Type 0 where
  pub follower : Plain
  pub follower_is : vb_of w (consumer_node link) link.consumer.dialed.vb ≡ Some follower
  pub follows : FollowsBy link.consumer.taking.last follower.role
  pub dial : DialAgrees (r.dial_of (link_number link)) link.server.desk link.consumer.dialed
  pub open dial use *
  pub acks : AckedIs (r.stream_of (Link (link_number link)) link.consumer.dialed.vb) link.consumer.acked
  pub talk : Talk follower (c.nodes (consumer_seat link)) (vb_of w (producer_node link) link.consumer.dialed.vb) (c.nodes (producer_seat link)) (r.stream_of (Link (link_number link)) link.consumer.dialed.vb) (r.stated_of (link_number link)) (r.point_of (link_number link)) link up down

-- one of the links
abbrev pub IsLink : PlainLink → List PlainLink → Type 0
IsLink x [] = ⊥
IsLink x (y ∷ ys) = (x ≡ y) ⊎ IsLink x ys

-- the links differ in their numbers and in the vBuckets that they feed, and no two at one producer's node have one stream open
pub record Differ (x y : PlainLink) : Type 0 where
  pub number : link_number x ≡ link_number y → ⊥
  pub follower : consumer_node x ≡ consumer_node y → x.consumer.dialed.vb ≡ y.consumer.dialed.vb → ⊥
  pub stream : (v id : ℕ) → HasOpen v id x.server.streams → HasOpen v id y.server.streams → producer_node x ≡ producer_node y → ⊥

abbrev pub DifferFrom : PlainLink → List PlainLink → Type 0
DifferFrom x [] = Unit {0}
DifferFrom x (y ∷ ys) = Differ x y × DifferFrom x ys

abbrev pub LinksDiffer : List PlainLink → Type 0
LinksDiffer [] = Unit {0}
LinksDiffer (x ∷ xs) = DifferFrom x xs × LinksDiffer xs

-- the frames that are about to be answered or taken, by the number of the link
abbrev pub Busy : Type 0
Busy = ℕ → List Frame × List Frame

abbrev pub idle : Busy
idle = λ l. ([], [])

-- the branches of the cluster, those that the lines tell, and the ids that are used agree
pub record BranchesAgree (known told : List Branch) (uuids : List ℕ) : Type 0 where
  pub hists : (u : ℕ) → hist known u ≡ hist told u
  pub are_told : AreTold known told
  pub fits : (u : ℕ) → All ChangeFits (hist told u)
  pub rootless : hist known 0 ≡ []
  pub ids : IdsFit known
  pub used : (u : ℕ) → is_one_of u uuids ≡ false → (u ≡ 0 → ⊥) → branch known u ≡ None
  pub fresh : (u : ℕ) → is_one_of u uuids ≡ false → IsNew u told

-- an arm that may fire yet, or none
abbrev pub IsArm : Fuse → Type 0
IsArm Off = Unit {0}
IsArm (Stop k) = 0 < k
IsArm (Fail k) = 0 < k

-- what the lines tell of a node's arm, and whether it is down; the clock of one that is down stands at 0, and its disks are those that are listed by their numbers
pub record PowerIs (told : ArmKnown) (power : Power) : Type 0 where
  pub fuse : told.fuse ≡ power.arm.fuse
  pub out : told.out ≡ power.arm.out
  pub down : told.down ≡ is_some power.off
  pub zero : (books : List Book) → power.off ≡ Some books → power.clock ≡ 0
  pub may_fire : IsArm power.arm.fuse
  pub listed_so : (books : List Book) → power.off ≡ Some books → books ≡ listed (book_in books)

abbrev pub PowerIsIf : ArmKnown → Option Power → Type 0
PowerIsIf told None = told ≡ no_arm
PowerIsIf told (Some power) = PowerIs told power

-- the records of a vBucket that is not there, by whether its node is running: then it has none; one that is down has those on its disk, where it has one
abbrev pub BookBy : Option (List Book) → ℕ → Option Shelf → DiskKnown → Disk → Type 0
BookBy None v shelf told d = (d.book ≡ []) × (told.there ≡ is_some shelf)
BookBy (Some books) v shelf told d = (book_in books v ≡ (if told.there then Some d.book else None)) × (told.there ≡ false → d.book ≡ [])

-- the same, by its node
abbrev pub BookAgrees : Option Power → ℕ → Option Shelf → DiskKnown → Disk → Type 0
BookAgrees None v shelf told d = (d.book ≡ []) × (told.there ≡ false)
BookAgrees (Some power) v shelf told d = BookBy power.off v shelf told d

-- a vBucket that is not there: its member is as its records tell, and the lines tell its last role, at which it rests
pub record AwayAt (power : Option Power) (v : ℕ) (shelf : Option Shelf) (said : Option (Option Role)) (told : DiskKnown) (m : Member) (d : Disk) : Type 0 where
  pub position : m.position ≡ place_of d.book
  pub log : m.log ≡ log_of d.book
  pub role : said ≡ Some (resting d.book)
  pub book : BookAgrees power v shelf told d

-- a node is down
abbrev pub is_down : Option Power → Bool
is_down None = false
is_down (Some power) = is_some power.off

-- a node is made, and runs
abbrev pub is_running : Option Power → Bool
is_running None = false
is_running (Some power) = not (is_some power.off)

-- one that is down has no vBucket and no journal
pub record DownHolds (power : Option Power) (vb : Option Plain) (shelf : Option Shelf) : Type 0 where
  pub vb_none : is_down power ≡ true → vb ≡ None
  pub shelf_none : is_down power ≡ true → shelf ≡ None

-- nor has a link an end at it, and the node of its producer is made; links have numbers of three digits at most
pub record EndsUp (w : PlainWorld) (link : PlainLink) : Type 0 where
  pub producer : is_running (power_of w (producer_node link)) ≡ true
  pub consumer : is_down (power_of w (consumer_node link)) ≡ false
  pub number : link_number link < 1000

-- what a node's clock shows; that of one which was not made stands at 0
abbrev pub clock_of : Option Power → ℕ
clock_of None = 0
clock_of (Some power) = power.clock

-- what rests, what is to befall the nodes, and their clocks
pub record RestsIn (w : PlainWorld) (r : Chronicle) (c : Cluster) : Type 0 where
  pub powers : (n : ℕ) → PowerIsIf (r.arm_at n) (power_of w n)
  pub clocks : (n : ℕ) → r.clock_at n ≡ clock_of (power_of w n)
  pub aways : (n v : ℕ) → vb_of w n v ≡ None → AwayAt (power_of w n) v (shelf_of w n v) (r.role_at n v) (r.disk_at n v) (c.nodes (seat n v)) (c.disks (seat n v))
  pub downs : (n v : ℕ) → DownHolds (power_of w n) (vb_of w n v) (shelf_of w n v)
  pub ends : (link : PlainLink) → IsLink link w.links → EndsUp w link
  pub small : (n v : ℕ) → (r.disk_at n v).there ≡ true → v < 1024

-- the plain world, what was read of its lines, and a cluster agree
pub record AgreesIn (busy : Busy) (w : PlainWorld) (r : Chronicle) (c : Cluster) : Type 0 where
  pub sound : SoundCluster top c
  pub vbs : (n v : ℕ) → AgreesAt r n v (c.nodes (seat n v)) (vb_of w n v)
  pub disks : (n v : ℕ) → DiskIsIf (r.disk_at n v) (c.disks (seat n v)) (shelf_of w n v) (vb_of w n v)
  pub branches : BranchesAgree c.tree r.tree w.uuids
  pub open branches use *
  pub links : (link : PlainLink) → IsLink link w.links → LinkAgrees w r c link (busy (link_number link)).0 (busy (link_number link)).1
  pub differ : LinksDiffer w.links
  pub clients : ClientsTold w r
  pub rests : RestsIn w r c
  pub open rests use *

-- between two lines, where no frame is about to be answered or taken
abbrev pub Agrees : PlainWorld → Chronicle → Type 0
Agrees w r = (c : Cluster) × AgreesIn idle w r c

-- a line whose lines are lawful, and after which all agree; `told` is what else the line tells
abbrev pub GoesOn : Chronicle → (Chronicle → Chronicle) → Outcome → Type 0
GoesOn r told outcome = LawfulFrom r outcome.1.events × Agrees outcome.0 (told (after_lines r outcome.1.events))

-- the same, where the branches that its lines tell of are used
abbrev pub LineGoes : Chronicle → (Chronicle → Chronicle) → Outcome → Type 0
LineGoes r told outcome = GoesOn r told (with_branches outcome.1.events outcome.0, outcome.1)
