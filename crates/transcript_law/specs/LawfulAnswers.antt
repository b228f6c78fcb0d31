-- which answers a client may be sent: each answers the next frame that it asked something by, and says what the lines tell of that
use Rattle.std.specs.Prelude.{◌≡◌, ◌<◌, ◌≤◌, ◌+◌, ◌-◌, ◌*◌, ◌^◌, ◌⊎◌, ℕ, Bool, length, true, false, List, [], ◌∷◌, ◌++◌, Option, Some, None, Result, Ok, Err}
use Rattle.std.specs.FinMap as finite
use Rattle.client_session.specs.Rows.{seqno_part}
use Rattle.client_session.specs.Serving.{is_dcp}
use Rattle.client_session.specs.declared.session.Settings.{Settings}
use Rattle.branch_model.specs.Histories.{last_seq}
use Rattle.durability.specs.Chains.{Members, is_possible}
use Rattle.durability.specs.Laws.{Waits}
use Rattle.durability.specs.declared.waiting.Waiting.{Waiting}
use Rattle.mcbp_frame.specs.Cutting.{front_fault}
use Rattle.mcbp_frame.specs.Frames.{faulty_head}
use Rattle.mcbp_frame.specs.Spelling.{spelling}
use Rattle.mcbp_frame.specs.declared.frame.FaultyHead.{FaultyHead}
use Rattle.mcbp_frame.specs.declared.frame.Frame.{Frame}
use Rattle.mcbp_frame.specs.declared.frame.FrameFault.{FrameFault}
use Rattle.mcbp_frame.specs.declared.frame.TheConstants.{RESPONSE}
use Rattle.mcbp_kv.specs.declared.durable.Durability.{Durability}
use Rattle.mcbp_kv.specs.Answers.{IsFound, IsStored, IsWelcome, bare_answer}
use Rattle.mcbp_kv.specs.Replies.{reply_frame}
use Rattle.mcbp_kv.specs.Requests.{request_of}
use Rattle.mcbp_kv.specs.declared.durable.Durability.{Durability}
use Rattle.mcbp_kv.specs.declared.request.KvRequest.{KvRequest}
use Rattle.mcbp_kv.specs.declared.request.KvRequest.TheVariants as request
use Rattle.vb_calls.specs.Durable.{is_delete}
use Rattle.vb_calls.specs.Writes.{act_of, doc_refusal, written_doc}
use Rattle.vb_events.specs.declared.event.Event.{Event}
use Rattle.vb_events.specs.declared.event.Event.TheVariants as event
use Rattle.vbucket.specs.Laws.{Ascend, IsBacked}
use Rattle.vb_types.specs.Images.{Picture, image_of}
use Rattle.vb_types.specs.Statuses.{status_code}
use Rattle.vb_types.specs.declared.change.Act.TheVariants as act
use Rattle.vb_types.specs.declared.change.Change.{Change}
use Rattle.vb_types.specs.declared.change.Pend.{Pend}
use Rattle.vb_types.specs.declared.doc.Doc.{Doc}
use Rattle.vb_types.specs.declared.role.Role.{Role}
use Rattle.vb_types.specs.declared.status.Status.{Status}
use Rattle.vb_types.specs.declared.status.Status.TheVariants as status
use Rattle.std.specs.Option.{option_map}
use Rattle.vb_types.specs.declared.change.Level.{Level}
use Rattle.vb_types.specs.declared.write.Write.{Write}
use Rattle.transcript_law.specs.LawfulClients.{IsActive}
use Rattle.transcript_law.specs.LawfulMessages.{FitsDcp, Moment, moment_of}
pub use Rattle.transcript_law.specs.LawfulMessages.{IsStatus}
use Rattle.transcript_law.specs.LinesTold.{Chronicle, CountsKnown, LastLine, OwnChange, is_durable, told_for}
use Rattle.transcript_law.specs.Questions.{Question, behind_frames, question_of}
use Rattle.transcript_law.specs.StreamsTold.{Asking}

-- ---- answers to requests for documents

-- each of these changes is a durable write's, so no set and no removal waits to be answered
abbrev pub AllDurable : List OwnChange → Type 0
AllDurable [] = Unit {0}
AllDurable (one ∷ older) = (is_durable one.change.act ≡ true) × AllDurable older

-- a prepare waits at the key that a former active node left: it stood there when the vBucket became active, up to this seqno. Nobody knows whether its document stands, until it is committed again
abbrev pub IsLeftUndone : ℕ → Picture → List ℕ → Type 0
IsLeftUndone risen image key = (p : Pend) × (finite.get image.pending key ≡ Some p) × (p.seq ≤ risen)

-- one waits there that the vBucket made since
abbrev pub IsLocked : ℕ → Picture → List ℕ → Type 0
IsLocked risen image key = (p : Pend) × (finite.get image.pending key ≡ Some p) × (risen < p.seq)

-- a read is refused where its vBucket is not active, and where a prepare that was left waits at its key; it gets the key's document where there is one, and else that there is none
pub record FitsGet (role : Option (Option Role)) (risen : ℕ) (image : Picture) (json : Bool) (key : List ℕ) (f g : Frame) : Type 0 where
  pub away : (IsActive role → ⊥) → IsStatus f g status.NotMyVbucket
  pub left : IsActive role → IsLeftUndone risen image key → IsStatus f g status.SyncWriteReCommitInProgress
  pub found : IsActive role → (IsLeftUndone risen image key → ⊥) → (doc : Doc) → finite.get image.docs key ≡ Some doc → IsFound json g f.opaque doc
  pub none : IsActive role → (IsLeftUndone risen image key → ⊥) → finite.get image.docs key ≡ None → IsStatus f g status.KeyEnoent

-- why a write is refused: its vBucket is not active; or a prepare waits at its key, that was left or was made since; or the key's document, or that there is none, does not let it. A further reason, of its vBucket, may stand before the key's
pub record IsWhyRefused (Besides : Status → Type 0) (role : Option (Option Role)) (risen : ℕ) (image : Picture) (write : Write) (st : Status) : Type 0 where
  pub away : (IsActive role → ⊥) → st ≡ status.NotMyVbucket
  pub left : IsActive role → IsLeftUndone risen image write.key → (st ≡ status.SyncWriteReCommitInProgress) ⊎ Besides st
  pub locked : IsActive role → IsLocked risen image write.key → (st ≡ status.SyncWriteInProgress) ⊎ Besides st
  pub unfit : IsActive role → finite.get image.pending write.key ≡ None → (doc_refusal write.op write.cas (finite.get image.docs write.key) ≡ Some st) ⊎ Besides st

abbrev pub IsRefused : (Status → Type 0) → Option (Option Role) → ℕ → Picture → Write → Frame → Frame → Type 0
IsRefused Besides role risen image write f g = (st : Status) × IsStatus f g st × IsWhyRefused Besides role risen image write st

-- a vBucket that holds these changes has not so many seqnos left, beside one for each prepare that waits, of which there are at least as many as can be listed: a seqno is at most 2^48
pub record LacksSeqnos (held : List Change) (count : ℕ) (st : Status) : Type 0 where
  pub waiting : List Waiting
  pub ascend : Ascend waiting
  pub backed : (w : Waiting) → Waits w waiting → IsBacked (image_of held) w
  pub above : 2 ^ 48 < last_seq 0 held + length waiting + count
  pub said : st ≡ status.Etmpfail

-- so a write is refused; and a durable one, with which come two changes, also where its chain can have no majority
abbrev pub LacksMajority : Members → List Change → Status → Type 0
LacksMajority chain held st = LacksSeqnos held 2 st ⊎ ((is_possible chain ≡ false) × (st ≡ status.DurabilityImpossible))

-- a write was made: the last change that was told is its own, of what its vBucket held before, which let it, and no other set or removal waits to be answered; and it is told with its CAS, and its branch and seqno where the client asked for these
pub record IsMade (n v : ℕ) (held : List Change) (made : List OwnChange) (settings : Settings) (write : Write) (f g : Frame) : Type 0 where
  pub branch : ℕ
  pub change : Change
  pub clock : ℕ
  pub older : List OwnChange
  pub last : made ≡ record { node = n; vb = v; branch = branch; change = change; clock = clock } ∷ older
  pub alone : AllDurable older
  pub key : change.key ≡ write.key
  pub cas : ℕ
  pub rev : ℕ
  pub act : change.act ≡ act_of write.op (written_doc write cas rev)
  pub before : List Change
  pub behind : held ≡ before ++ change ∷ []
  pub fits : doc_refusal write.op write.cas (finite.get (image_of before).docs write.key) ≡ None
  pub told : IsStored g f.opcode f.opaque cas (seqno_part settings branch change.seq)

abbrev pub FitsWrite : Chronicle → ℕ → ℕ → Settings → Write → Frame → Frame → Type 0
FitsWrite chronicle n v settings write f g =
    IsRefused (LacksSeqnos (chronicle.held n v) 1) (chronicle.role_at n v) (chronicle.counts_at n v).risen (image_of (chronicle.held n v)) write f g ⊎ IsMade n v (chronicle.held n v) chronicle.made settings write f g

-- this change is one of these
abbrev pub IsMadeIn : OwnChange → List OwnChange → Type 0
IsMadeIn one [] = ⊥
IsMadeIn one (other ∷ older) = (one ≡ other) ⊎ IsMadeIn one older

-- a prepare of this number, key, level and document, at the vBucket v of the node n, is among these changes
pub record PreparesIn (n v number : ℕ) (name : List ℕ) (level : Level) (doc : Doc) (deleted : Bool) (told : List OwnChange) : Type 0 where
  pub first : OwnChange
  pub among : IsMadeIn first told
  pub node : first.node ≡ n
  pub vb : first.vb ≡ v
  pub seq : first.change.seq ≡ number
  pub key : first.change.key ≡ name
  pub act : first.change.act ≡ act.Prepare level doc deleted

-- a change commits this write of the vBucket v: it is made there, at the write's key, and its document is the one that the write asked for, or its removal; and it names the prepare that was told among these changes, at the level that the write asked for
pub record CommitsOf (n v : ℕ) (write : Write) (level : Level) (told : List OwnChange) (one : OwnChange) : Type 0 where
  pub at : one.vb ≡ v
  pub key : one.change.key ≡ write.key
  pub prepared : ℕ
  pub cas : ℕ
  pub rev : ℕ
  pub commits : one.change.act ≡ act.Commit prepared (written_doc write cas rev) (is_delete write.op)
  pub names : PreparesIn n v prepared write.key level (written_doc write cas rev) (is_delete write.op) told

-- a durable write is told as this commit, which was told before in this group, at a vBucket of the node: with its CAS, and its branch and seqno where the client asked for these; and it is the commit of this write, by its prepare of the group in which it was the next question, where the numbers of the script's lines rise, which number who waits
pub record IsCommitted (n v : ℕ) (served : Option (List OwnChange)) (made : List OwnChange) (settings : Settings) (write : Write) (wish : Durability) (f g : Frame) : Type 0 where
  pub one : OwnChange
  pub told_before : IsMadeIn one made
  pub here : one.node ≡ n
  pub prepared : ℕ
  pub doc : Doc
  pub deleted : Bool
  pub commits : one.change.act ≡ act.Commit prepared doc deleted
  pub told : IsStored g f.opcode f.opaque doc.cas (seqno_part settings one.branch one.change.seq)
  pub own : (told : List OwnChange) → served ≡ Some told → CommitsOf n v write wish.level told one

-- so many milliseconds have passed on a clock since it showed this, or it shows its last number
abbrev pub HavePassed : ℕ → ℕ → ℕ → Type 0
HavePassed millis since now = (since + millis * 1000000 ≤ now) ⊎ (2 ^ 64 - 1 ≤ now)

-- the prepare of this number and key was given up so long after it was made: the vBucket v of the node n made its abort, which is among these changes
pub record AbortsIn (n v prepared : ℕ) (name : List ℕ) (millis since : ℕ) (made : List OwnChange) : Type 0 where
  pub one : OwnChange
  pub told_before : IsMadeIn one made
  pub node : one.node ≡ n
  pub vb : one.vb ≡ v
  pub key : one.change.key ≡ name
  pub aborts : one.change.act ≡ act.Abort prepared
  pub late : HavePassed millis since one.clock

-- the prepare of this write of the vBucket v was told among these changes, at the level that was asked for, and waits no more for its outcome: its vBucket is not active any more, or gave it up, once the time was over that was asked for
pub record LostOf (n v : ℕ) (role : Option (Option Role)) (made : List OwnChange) (write : Write) (wish : Durability) (told : List OwnChange) : Type 0 where
  pub prepared : ℕ
  pub cas : ℕ
  pub rev : ℕ
  pub names : PreparesIn n v prepared write.key wish.level (written_doc write cas rev) (is_delete write.op) told
  pub lost : (IsActive role → ⊥) ⊎ AbortsIn n v prepared write.key wish.timeout names.first.clock made

-- of a durable write it is told that nobody knows what became of it; and so it is of this write, by its prepare of the group in which it was the next question, where the numbers of the script's lines rise
pub record IsUnsure (n v : ℕ) (served : Option (List OwnChange)) (role : Option (Option Role)) (made : List OwnChange) (write : Write) (wish : Durability) (f g : Frame) : Type 0 where
  pub said : IsStatus f g status.SyncWriteAmbiguous
  pub own : (told : List OwnChange) → served ≡ Some told → LostOf n v role made write wish told

-- a connection has a number for each of so many durable writes
abbrev pub WRITE_NUMBERS : ℕ
WRITE_NUMBERS = 2 ^ 32 - 1

-- one is left for the next, where so many were answered before
abbrev pub HasNumber : ℕ → Type 0
HasNumber count = count + 1 ≤ WRITE_NUMBERS

-- none is left, and so it is refused: its vBucket, whatever that is, is not asked
abbrev pub LacksNumbers : ℕ → Frame → Frame → Type 0
LacksNumbers count f g = (WRITE_NUMBERS < count + 1) × IsStatus f g status.Etmpfail

-- and with a number it is answered so
abbrev pub FitsNumbered : ℕ → Frame → Frame → Type 0 → Type 0
FitsNumbered count f g Fits = LacksNumbers count f g ⊎ (HasNumber count × Fits)

-- a chain that can have no majority stands before the key's reasons
abbrev pub IsImpossibleFirst : Option (Option Role) → Members → Status → Type 0
IsImpossibleFirst role chain st = IsActive role → is_possible chain ≡ false → st ≡ status.DurabilityImpossible

-- a durable write is refused for its first reason
abbrev pub IsRefusedDurably : CountsKnown → Option (Option Role) → List Change → Write → Frame → Frame → Type 0
IsRefusedDurably counts role held write f g = (st : Status) × IsStatus f g st × IsWhyRefused (LacksMajority counts.chain held) role counts.risen (image_of held) write st × IsImpossibleFirst role counts.chain st

-- it is refused, or its outcome is told: it was committed, or nobody knows
abbrev pub FitsDurable : Option (List OwnChange) → Chronicle → ℕ → ℕ → Settings → Write → Durability → Frame → Frame → Type 0
FitsDurable served chronicle n v settings write wish f g =
    IsRefusedDurably (chronicle.counts_at n v) (chronicle.role_at n v) (chronicle.held n v) write f g ⊎ IsCommitted n v served chronicle.made settings write wish f g
    ⊎ IsUnsure n v served (chronicle.role_at n v) chronicle.made write wish f g

-- each request, by what its frame asks, where so many durable writes were answered before
abbrev pub FitsRequest : Option (List OwnChange) → Chronicle → ℕ → ℕ → Settings → Frame → Frame → Result KvRequest Status → Type 0
FitsRequest served chronicle n count settings f g (Err st) = IsStatus f g st
FitsRequest served chronicle n count settings f g (Ok request.Noop) = IsStatus f g status.Success
FitsRequest served chronicle n count settings f g (Ok (request.Hello features)) = IsWelcome g f.opaque features
FitsRequest served chronicle n count settings f g (Ok (request.Get key)) = FitsGet (chronicle.role_at n f.vb_or_status) (chronicle.counts_at n f.vb_or_status).risen (image_of (chronicle.held n f.vb_or_status)) settings.json key f g
FitsRequest served chronicle n count settings f g (Ok (request.Write write None)) = FitsWrite chronicle n f.vb_or_status settings write f g
FitsRequest served chronicle n count settings f g (Ok (request.Write write (Some wish))) = FitsNumbered count f g (FitsDurable served chronicle n f.vb_or_status settings write wish f g)

-- or, where DCP has its opcode, by what message it is
abbrev pub FitsBy : Bool → Option (List OwnChange) → Chronicle → ℕ → Moment → Settings → Frame → Frame → Type 0
FitsBy true served chronicle n at settings f g = FitsDcp chronicle n at f g
FitsBy false served chronicle n at settings f g = FitsRequest served chronicle n at.durables settings f g (request_of settings.json f)

abbrev pub FitsFrame : Option (List OwnChange) → Chronicle → ℕ → Moment → Settings → Frame → Frame → Type 0
FitsFrame served chronicle n at settings f g = FitsBy (is_dcp f.opcode) served chronicle n at settings f g

-- ---- the answer to the next question

-- a write that is not to be durable is told as made
abbrev pub IsStoring : Settings → Frame → Frame → Type 0
IsStoring settings f g = (write : Write) × (request_of settings.json f ≡ Ok (request.Write write None)) × (g.vb_or_status ≡ status_code status.Success)

-- the outcome of a durable write is told: it was committed, or nobody knows
abbrev pub IsOutcome : Settings → Frame → Frame → Type 0
IsOutcome settings f g =
    (write : Write) × (wish : Durability) × (request_of settings.json f ≡ Ok (request.Write write (Some wish))) × ((g.vb_or_status ≡ status_code status.Success) ⊎ (g.vb_or_status ≡ status_code status.SyncWriteAmbiguous))

-- nothing waits to be answered, and nothing was changed in the group since a client was sent a frame in it
abbrev pub IsStill : Chronicle → Type 0
IsStill chronicle = AllDurable chronicle.made × (chronicle.changed ≡ false)

-- the durable changes of the group in which the next question of the connection was so first, where the numbers of lines rise
abbrev pub serving : Chronicle → ℕ → ℕ → Asking → Option (List OwnChange)
serving chronicle n c asking = option_map (λ (l : LastLine). told_for (l.served n c) asking.answered chronicle.made) chronicle.last

-- an answer comes in its time: it tells that a write was made which is not to be durable; or the outcome of a durable write, while no set and no removal waits to be answered; or nothing was changed since the answer before
abbrev pub IsTimely : Chronicle → Settings → Frame → Frame → Type 0
IsTimely chronicle settings f g = IsStoring settings f g ⊎ (IsOutcome settings f g × AllDurable chronicle.made) ⊎ IsStill chronicle

-- these bytes are a response to it, with its opcode and opaque, fit it, and come in their time
pub record Answers (chronicle : Chronicle) (n c : ℕ) (asking : Asking) (bytes : List ℕ) : Type 0 where
  pub question : Question
  pub next : question_of asking ≡ Some question
  pub answer : Frame
  pub spelled : bytes ≡ spelling answer
  pub response : answer.magic ≡ RESPONSE
  pub opcode : answer.opcode ≡ question.frame.opcode
  pub opaque : answer.opaque ≡ question.frame.opaque
  pub fits : FitsFrame (serving chronicle n c asking) chronicle n (moment_of (chronicle.clients_at n c) asking question) asking.settings question.frame answer
  pub calm : IsTimely chronicle asking.settings question.frame answer

-- no question is left, a fault stands behind the frames, and the answer to what its header names is Einval, which changed nothing; the connection closes
pub record AnswersFault (n c : ℕ) (chronicle : Chronicle) (asking : Asking) (bytes : List ℕ) (behind : List Event) : Type 0 where
  pub none : question_of asking ≡ None
  pub fault : FrameFault
  pub stands : front_fault (behind_frames asking.bytes) ≡ Some fault
  pub head : FaultyHead
  pub named : faulty_head fault (behind_frames asking.bytes) ≡ Some head
  pub spelled : bytes ≡ spelling (reply_frame (bare_answer head.opcode status.Einval head.opaque))
  pub closes : (more : List Event) × (behind ≡ event.Closed n c ∷ more)
  pub calm : IsStill chronicle

-- what a client is sent, but for frames of its streams
abbrev pub LawfulReply : Chronicle → ℕ → ℕ → Asking → List ℕ → List Event → Type 0
LawfulReply chronicle n c asking bytes behind = Answers chronicle n c asking bytes ⊎ AnswersFault n c chronicle asking bytes behind
