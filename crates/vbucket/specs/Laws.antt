-- what holds of every vBucket, and what a write means to the reads after it
use Rattle.std.specs.Prelude.{◌≡◌, ◌≢◌, ◌↔◌, ◌⊎◌, ℕ, Bool, true, false, ◌+◌, ◌-◌, ◌*◌, ◌/◌, ◌^◌, ◌<◌, ◌≤◌, List, [], ◌∷◌, ◌++◌, length, min, max, nat_lt, Option, Some, None}
use Rattle.std.specs.List.{filter, fold}
use Rattle.std.specs.FinMap as finite
use Rattle.vb_types.specs.declared.doc.Doc.{Doc}
use Rattle.vb_types.specs.declared.change.Act.TheVariants as act
use Rattle.vb_types.specs.declared.change.Change.{Change}
use Rattle.vb_types.specs.declared.change.Pend.{Pend}
use Rattle.vb_types.specs.Images.{Picture, applied}
use Rattle.vb_types.specs.declared.role.Role.{Role}
use Rattle.vb_types.specs.declared.role.Role.TheVariants as role
use Rattle.vb_types.specs.declared.role.LogEntry.{LogEntry}
use Rattle.vb_types.specs.declared.position.Position.{Position}
use Rattle.vb_types.specs.declared.status.Status.{Status}
use Rattle.vb_types.specs.declared.status.Status.TheVariants as status
use Rattle.vb_types.specs.declared.write.Op.{Op}
use Rattle.vb_types.specs.declared.write.Op.TheVariants as op
use Rattle.vb_types.specs.declared.write.Write.{Write}
use Rattle.vb_types.specs.Histories.{Rises, IsIn, upto}
use Rattle.durability.specs.declared.waiting.Waiting.{Waiting}
use Rattle.durability.specs.Chains.{Members, differ, is_chain, named}
use Rattle.durability.specs.Laws.{Waits}
use Rattle.durability.specs.Outstanding.{no_acks}
use Rattle.branch_model.specs.Logs.{kept_to}
use Rattle.vb_calls.specs.declared.calls.VbCall.{VbCall}
use Rattle.vb_calls.specs.declared.calls.VbCall.TheVariants.{Get, Store, Durable, Chain, Receive, RollTo}
use Rattle.vb_calls.specs.declared.calls.VbCall.TheVariants as call
use Rattle.vb_calls.specs.declared.calls.VbAnswer.{VbAnswer}
use Rattle.vb_calls.specs.declared.calls.VbAnswer.TheVariants as answer
use Rattle.vb_calls.specs.declared.calls.VbReply.{VbReply}
use Rattle.vb_calls.specs.Plain.{Plain, new_vb, plain_step}
use Rattle.vb_calls.specs.State.{complete_position, doc_at, image_in, newest_branch, pending_of}
use Rattle.vb_calls.specs.Following.{cas_of}
use Rattle.vb_calls.specs.declared.stream.Stream.{Stream}
use Rattle.vb_calls.specs.Streams.{stream_at}
use Rattle.vb_calls.specs.declared.span.Span.{Span}
use Rattle.vb_calls.specs.declared.span.Origin.{Origin}
use Rattle.vb_calls.specs.declared.span.Origin.TheVariants.{Own, Received}
use Rattle.vb_calls.specs.Spans.{Spans, all_spans, is_durable, stretch, live_count, live_weight}
use Rattle.vb_calls.specs.declared.span.TheConstants.{MAX_ITEMS, MAX_WEIGHT}

-- no change has a CAS above n
abbrev pub CasUpTo : ℕ → List Change → Type 0
CasUpTo n [] = Unit {0}
CasUpTo n (c ∷ cs) = (cas_of c.act ≤ n) × CasUpTo n cs

-- no prepare that waits has a CAS above n
abbrev pub PendsUpTo : ℕ → Picture → Type 0
PendsUpTo n image = (key : List ℕ) (p : Pend) → finite.get image.pending key ≡ Some p → p.doc.cas ≤ n

-- an active vBucket is on a branch of its own, and its snapshot is complete
abbrev pub IsOwn : Role → Position → List LogEntry → Type 0
IsOwn role.Active position log = (position ≡ complete_position position.at) × (log ≢ [])
IsOwn role.Replica position log = Unit {0}
IsOwn role.Pending position log = Unit {0}
IsOwn role.Dead position log = Unit {0}

-- an active vBucket's open span, if there is one, is of own changes
abbrev pub OpensOwn : Role → Option Span → Type 0
OpensOwn role.Active None = Unit {0}
OpensOwn role.Active (Some w) = w.origin ≡ Own
OpensOwn role.Replica current = Unit {0}
OpensOwn role.Pending current = Unit {0}
OpensOwn role.Dead current = Unit {0}

-- spans that follow one another from the seqno `low` to `high`, and none is empty
abbrev pub Follow : ℕ → List Span → ℕ → Type 0
Follow low [] high = low ≡ high
Follow low (w ∷ ws) high = (w.above ≡ low) × (low < w.last) × Follow w.last ws high

-- two changes of one key may stand in a span: of own ones where both are sets or removals, of received ones never
abbrev pub MayShare : Origin → Change → Change → Type 0
MayShare Own c d = (is_durable c.act ≡ false) × (is_durable d.act ≡ false)
MayShare (Received ss se) c d = ⊥

-- each two changes of one key may stand in a span of this origin
abbrev pub Tidy : Origin → List Change → Type 0
Tidy origin cs = (c d : Change) → IsIn c cs → IsIn d cs → c.key ≡ d.key → c.seq < d.seq → MayShare origin c d

-- so many live changes of this weight may make a span: a single one, or several within both limits
abbrev pub IsWithin : ℕ → ℕ → Type 0
IsWithin count weight = (count ≡ 1) ⊎ ((count ≤ MAX_ITEMS) × (weight ≤ MAX_WEIGHT))

-- a span of h: the changes that stand in it are tidy, one of them has its last seqno, and the live ones are within the limits
pub record IsSpan (h : List Change) (w : Span) : Type 0 where
  pub tidy : Tidy w.origin (stretch w.above w.last h)
  pub ends : (c : Change) × IsIn c h × (c.seq ≡ w.last)
  pub room : IsWithin (live_count w h) (live_weight w h)

-- all of them are spans of h
abbrev pub AllSpans : List Change → List Span → Type 0
AllSpans h [] = Unit {0}
AllSpans h (w ∷ ws) = IsSpan h w × AllSpans h ws

-- no prepare that waits has a seqno above n
abbrev pub PendSeqsUpTo : ℕ → Picture → Type 0
PendSeqsUpTo n image = (key : List ℕ) (p : Pend) → finite.get image.pending key ≡ Some p → p.seq ≤ n

-- the prepares that wait at two keys have two seqnos
abbrev pub PendsDiffer : Picture → Type 0
PendsDiffer image = (key other : List ℕ) (p q : Pend) → finite.get image.pending key ≡ Some p → finite.get image.pending other ≡ Some q → p.seq ≡ q.seq → key ≡ other

-- each of them has a seqno above n
abbrev pub Above : ℕ → List Waiting → Type 0
Above n [] = Unit {0}
Above n (w ∷ ws) = (n < w.seq) × Above n ws

-- their seqnos rise
abbrev pub Ascend : List Waiting → Type 0
Ascend [] = Unit {0}
Ascend (w ∷ ws) = Above w.seq ws × Ascend ws

-- an outstanding prepare is the one that waits at its key
abbrev pub IsBacked : Picture → Waiting → Type 0
IsBacked image w = (p : Pend) × (finite.get image.pending w.key ≡ Some p) × (p.seq ≡ w.seq) × (p.level ≡ w.level)

-- an outstanding prepare is the one of this key and seqno
abbrev pub IsOf : List ℕ → Pend → Waiting → Type 0
IsOf key p w = (w.key ≡ key) × (w.seq ≡ p.seq) × (w.level ≡ p.level)

-- only an active vBucket has outstanding prepares
abbrev pub OnlyActive : Role → List Waiting → Type 0
OnlyActive role.Active waiting = Unit {0}
OnlyActive role.Replica waiting = waiting ≡ []
OnlyActive role.Pending waiting = waiting ≡ []
OnlyActive role.Dead waiting = waiting ≡ []

-- the outstanding prepares of a vBucket in this role, with this image, whose last seqno is `at`: their seqnos rise, each is the one that waits at its key, and an active vBucket has each that waits; and where one of them has a deadline, a seqno is left for each of them
pub record AreBacked (r : Role) (image : Picture) (at : ℕ) (waiting : List Waiting) : Type 0 where
  pub only : OnlyActive r waiting
  pub ascend : Ascend waiting
  pub backed : (w : Waiting) → Waits w waiting → IsBacked image w
  pub all : r ≡ role.Active → (key : List ℕ) (p : Pend) → finite.get image.pending key ≡ Some p → (w : Waiting) × Waits w waiting × IsOf key p w
  pub left : (w : Waiting) (deadline : ℕ) → Waits w waiting → w.deadline ≡ Some deadline → at + length waiting ≤ 2 ^ 48

-- only an active vBucket has other members in its chain, and acknowledgements
abbrev pub OnlyLinked : Role → Members → List ℕ → Type 0
OnlyLinked role.Active others acks = Unit {0}
OnlyLinked role.Replica others acks = (others ≡ []) × (acks ≡ no_acks)
OnlyLinked role.Pending others acks = (others ≡ []) × (acks ≡ no_acks)
OnlyLinked role.Dead others acks = (others ≡ []) × (acks ≡ no_acks)

-- up to three other members, no two the same, and a number for each node that may acknowledge
pub record AreLinked (r : Role) (others : Members) (acks : List ℕ) : Type 0 where
  pub only : OnlyLinked r others acks
  pub few : length others ≤ 3
  pub apart : differ (named others) ≡ true
  pub each : length acks ≡ 256

-- changes that rise from the floor up to the last seqno, each in one span, which is tidy and within the limits; an active vBucket's open span is of own changes; and what was taken to be written down ends between the two
pub record AreSpanned (r : Role) (floor at : ℕ) (held : List Change) (ws : Spans) (taken : ℕ) : Type 0 where
  pub rises : Rises floor at held
  pub current : OpensOwn r ws.current
  pub spans : Follow floor (all_spans ws) at
  pub tidy : AllSpans held (all_spans ws)
  pub flushed : (floor ≤ taken) × (taken ≤ at)

-- a position in its snapshot, which ends at 2 ^ 48 at most; an active vBucket's snapshot is complete, and its branch is its own
pub record IsPlaced (r : Role) (position : Position) (log : List LogEntry) : Type 0 where
  pub capped : position.se ≤ 2 ^ 48
  pub within : (position.ss ≤ position.at) × (position.at ≤ position.se)
  pub own : IsOwn r position log

-- no CAS is above the last one, which is one of 64 bits
pub record AreStamped (last : ℕ) (base : Picture) (held : List Change) : Type 0 where
  pub casses : CasUpTo last held
  pub pends : PendsUpTo last base
  pub last_cas : last < 2 ^ 64

-- the prepares that waited at the floor have seqnos up to there, no two the same
pub record IsBase (floor : ℕ) (base : Picture) : Type 0 where
  pub low : PendSeqsUpTo floor base
  pub apart : PendsDiffer base

-- what counts for durable writes: the outstanding prepares, which are among those that wait, the chain, and what its members acknowledged
pub record AreCounted (r : Role) (image : Picture) (at : ℕ) (waiting : List Waiting) (others : Members) (acks : List ℕ) : Type 0 where
  pub waits : AreBacked r image at waiting
  pub links : AreLinked r others acks

-- an active vBucket feeds any streams, and a dead one at most the one that it was given up for
abbrev pub MayFeed : Role → List Stream → Type 0
MayFeed role.Active streams = Unit {0}
MayFeed role.Replica streams = streams ≡ []
MayFeed role.Pending streams = streams ≡ []
MayFeed role.Dead streams = length streams ≤ 1

-- the streams are such as a vBucket in this role may have, and one that has a cursor stands at the floor or above
pub record AreFed (r : Role) (floor : ℕ) (streams : List Stream) : Type 0 where
  pub few : MayFeed r streams
  pub cursors : (id : ℕ) (s : Stream) → stream_at id streams ≡ Some s → s.cursor ≡ true → floor ≤ s.place

-- seqnos rise above the floor and end at 2 ^ 48, the position lies in its snapshot, no CAS is above the last one, each change stands in one span, which is tidy and within the limits, and what was taken to be written down ends between the floor and the last seqno; the prepares that waited at the floor have seqnos up to there, no two the same, and the outstanding ones are among those that wait; and a stream that has a cursor stands at the floor or above
pub record Sound (vb : Plain) : Type 0 where
  pub spanned : AreSpanned vb.role vb.floor vb.position.at vb.held vb.spans vb.flushed
  pub open spanned use *
  pub placed : IsPlaced vb.role vb.position vb.log
  pub open placed use *
  pub stamped : AreStamped vb.last_cas vb.base vb.held
  pub open stamped use *
  pub based : IsBase vb.floor vb.base
  pub open based use *
  pub saved : vb.floor ≤ vb.saved
  pub counted : AreCounted vb.role (image_in vb) vb.position.at vb.waiting vb.others vb.acks
  pub open counted use *
  pub feeds : AreFed vb.role vb.floor vb.streams

-- a clock shows a number of 64 bits, a CAS is one, and what a vBucket goes back to has none above the one that it is told, and no prepare above its seqno, nor two of one seqno; a chain is one
abbrev pub IsTimely : VbCall → Type 0
IsTimely (call.Store write clock) = clock < 2 ^ 64
IsTimely (call.Durable write clock level deadline waiter) = clock < 2 ^ 64
IsTimely (call.Chain chain) = is_chain chain.active chain.others ≡ true
IsTimely (call.Receive change) = cas_of change.act < 2 ^ 64
IsTimely (call.RollTo at image cas) = (at ≤ 2 ^ 48) × (cas < 2 ^ 64) × PendsUpTo cas image × PendSeqsUpTo at image × PendsDiffer image
IsTimely (call.Get key) = Unit {0}
IsTimely (call.Ack member seq) = Unit {0}
IsTimely (call.Tick clock) = Unit {0}
IsTimely call.Due = Unit {0}
IsTimely (call.OpenStream id ask sync) = Unit {0}
IsTimely (call.Place id) = Unit {0}
IsTimely (call.Take id) = Unit {0}
IsTimely (call.CloseStream id) = Unit {0}
IsTimely (call.DropCursor id) = Unit {0}
IsTimely call.Ask = Unit {0}
IsTimely (call.Adopt log) = Unit {0}
IsTimely (call.Marker start end) = Unit {0}
IsTimely (call.Promote uuid) = Unit {0}
IsTimely call.Follow = Unit {0}
IsTimely call.Dead = Unit {0}
IsTimely call.Pend = Unit {0}
IsTimely call.Own = Unit {0}
IsTimely (call.Yield id) = Unit {0}
IsTimely call.Seal = Unit {0}
IsTimely call.Trim = Unit {0}
IsTimely call.FlushTake = Unit {0}
IsTimely call.Stat = Unit {0}
IsTimely call.Log = Unit {0}
IsTimely call.Show = Unit {0}
IsTimely (call.FlushDone receipt) = Unit {0}

-- a vBucket is sound when it is made
abbrev pub StartsSound : Type 0
StartsSound = (node : ℕ) (role : Role) (uuid : ℕ) → Sound (new_vb node role uuid)

-- it stays sound at each call
abbrev pub StaysSound : Type 0
StaysSound = (vb : Plain) (call : VbCall) → Sound vb → IsTimely call → Sound (plain_step vb call).0

-- no call makes the last CAS smaller, a rollback neither
abbrev pub CasNeverFalls : Type 0
CasNeverFalls = (vb : Plain) (call : VbCall) → Sound vb → vb.last_cas ≤ (plain_step vb call).0.last_cas

-- an answer to a call that was not made: a status, a request that opened no stream, no such stream, no snapshot yet
abbrev pub is_refusal : VbAnswer → Bool
is_refusal (answer.Status status) = true
is_refusal (answer.Asked said log high) = true
is_refusal answer.Absent = true
is_refusal answer.Nothing = true
is_refusal answer.Done = false
is_refusal (answer.Flag did) = false
is_refusal (answer.Num seq) = false
is_refusal (answer.Dues seq saved) = false
is_refusal (answer.Branch uuid parent fork high) = false
is_refusal (answer.Found doc) = false
is_refusal (answer.Stored uuid seq cas) = false
is_refusal (answer.Prepared seq cas) = false
is_refusal (answer.Opened log high from) = false
is_refusal (answer.Placed place) = false
is_refusal (answer.Taken snapshot) = false
is_refusal (answer.Rows batch) = false
is_refusal (answer.Stat windows items cursors saved high) = false
is_refusal (answer.Named ask) = false
is_refusal (answer.Range ss se) = false
is_refusal (answer.Logged log) = false
is_refusal (answer.Shown role uuid ss se at image) = false

-- a call that was not made changes nothing
abbrev pub RefusalsKeep : Type 0
RefusalsKeep = (vb : Plain) (call : VbCall) → is_refusal (plain_step vb call).1.answer ≡ true → ((plain_step vb call).0 ≡ vb) × ((plain_step vb call).1.changes ≡ [])

-- a vBucket that went back to a seqno: the image there stood before, nothing is held, of the log the entries that were made up to there are left, all of it is written down, and the last CAS is the larger one; all else stays
pub record IsRolled (vb : Plain) (at : ℕ) (image : Picture) (cas : ℕ) (after : Plain) : Type 0 where
  pub base : after.base ≡ image
  pub held : after.held ≡ []
  pub position : after.position ≡ complete_position at
  pub log : after.log ≡ kept_to at vb.log
  pub counted : after.last_cas ≡ max vb.last_cas cas
  pub spans : all_spans after.spans ≡ []
  pub floor : after.floor ≡ at
  pub saved : after.saved ≡ at
  pub flushed : after.flushed ≡ at
  pub stays : after
      ≡ record vb { base = after.base; held = after.held; position = after.position; log = after.log; last_cas = after.last_cas; spans = after.spans; floor = after.floor; saved = after.saved; flushed = after.flushed }

-- the changes up to a seqno are held no more, and what they leave stands before the others; all else stays but spans and floor
pub record IsFolded (vb : Plain) (to : ℕ) (after : Plain) : Type 0 where
  pub base : after.base ≡ fold applied vb.base (upto vb.held to)
  pub held : after.held ≡ filter (λ c. nat_lt to c.seq) vb.held
  pub stays : after ≡ record vb { base = after.base; held = after.held; spans = after.spans; floor = after.floor }

-- what a call does to the changes that are held: a rollback that is made leaves none, and one that is not leaves all; a trim folds those up to its floor; any other call appends those of its reply, above all that were held, and leaves what stood before them
abbrev pub Holds : VbCall → Plain → Plain × VbReply → Type 0
Holds (RollTo at image cas) vb after = (after.1.changes ≡ []) × ((after.0 ≡ vb) ⊎ ((after.1.answer ≡ answer.Num at) × IsRolled vb at image cas after.0))
Holds call.Trim vb after = (after.1.changes ≡ []) × ((after.0 ≡ vb) ⊎ IsFolded vb after.0.floor after.0)
Holds call vb after = (after.0.base ≡ vb.base) × (after.0.held ≡ vb.held ++ after.1.changes) × Rises vb.position.at after.0.position.at after.1.changes

-- the changes of a reply are those that the call appended, unless it is a rollback or a trim
abbrev pub HeldGrows : Type 0
HeldGrows = (vb : Plain) (call : VbCall) → Holds call vb (plain_step vb call)

-- a write is answered this status
abbrev pub Refused : Plain → Write → ℕ → Status → Type 0
Refused vb write clock status = (plain_step vb (Store write clock)).1.answer ≡ answer.Status status

-- a vBucket that takes writes: it is active, and has a seqno left beside one for each outstanding prepare
abbrev pub TakesWrites : Plain → Type 0
TakesWrites vb = (vb.role ≡ role.Active) × (vb.position.at + length vb.waiting + 1 ≤ 2 ^ 48)

-- the prepare that waits at this key is to be committed again: it is outstanding, and has no deadline
abbrev pub IsToCommit : Plain → List ℕ → Type 0
IsToCommit vb key = (p : Pend) × (w : Waiting) × (pending_of vb key ≡ Some p) × Waits w vb.waiting × (w.seq ≡ p.seq) × (w.deadline ≡ None)

-- the document that is there speaks against a write: an Add, or a CAS that was asked for and is another
abbrev pub Forbids : Doc → Write → Type 0
Forbids doc write = (write.op ≡ op.Add) ⊎ ((write.cas ≢ 0) × (write.cas ≢ doc.cas))

-- a write that there must be a document for
abbrev pub NeedsOne : Write → Type 0
NeedsOne write = (write.op ≡ op.Replace) ⊎ ((write.op ≡ op.Delete) ⊎ ((write.op ≡ op.Set) × (write.cas ≢ 0)))

-- NotMyVbucket exactly unless the vBucket is active
abbrev pub ForeignExactly : Type 0
ForeignExactly = (vb : Plain) (write : Write) (clock : ℕ) → Refused vb write clock status.NotMyVbucket ↔ (vb.role ≢ role.Active)

-- Etmpfail exactly where an active vBucket's next seqno, with one for each outstanding prepare behind it, would be above 2 ^ 48
abbrev pub FullExactly : Type 0
FullExactly = (vb : Plain) (write : Write) (clock : ℕ) → Refused vb write clock status.Etmpfail ↔ ((vb.role ≡ role.Active) × (2 ^ 48 < vb.position.at + length vb.waiting + 1))

-- SyncWriteReCommitInProgress exactly where the prepare that waits at the key is to be committed again
abbrev pub AgainExactly : Type 0
AgainExactly = (vb : Plain) (write : Write) (clock : ℕ) → TakesWrites vb → Refused vb write clock status.SyncWriteReCommitInProgress ↔ IsToCommit vb write.key

-- SyncWriteInProgress exactly where any other prepare waits at the key
abbrev pub PendingExactly : Type 0
PendingExactly = (vb : Plain) (write : Write) (clock : ℕ) → TakesWrites vb
    → Refused vb write clock status.SyncWriteInProgress ↔ (((p : Pend) × (pending_of vb write.key ≡ Some p)) × (IsToCommit vb write.key → ⊥))

-- KeyEexists exactly where no prepare waits at the key, and there is a document that speaks against the write
abbrev pub PresentExactly : Type 0
PresentExactly = (vb : Plain) (write : Write) (clock : ℕ) → TakesWrites vb
    → Refused vb write clock status.KeyEexists ↔ ((pending_of vb write.key ≡ None) × ((doc : Doc) × (doc_at vb write.key ≡ Some doc) × Forbids doc write))

-- KeyEnoent exactly where no prepare waits at the key, and there is no document and the write needs one
abbrev pub AbsentExactly : Type 0
AbsentExactly = (vb : Plain) (write : Write) (clock : ℕ) → TakesWrites vb → Refused vb write clock status.KeyEnoent ↔ ((pending_of vb write.key ≡ None) × (doc_at vb write.key ≡ None) × NeedsOne write)

-- a read is NotMyVbucket unless the vBucket is active, then SyncWriteReCommitInProgress where the prepare that waits at the key is to be committed again, then KeyEnoent where the key has no document, and else its document; it changes nothing
pub record ReadsAs (vb : Plain) (key : List ℕ) (after : Plain × VbReply) : Type 0 where
  pub foreign : (after.1.answer ≡ answer.Status status.NotMyVbucket) ↔ (vb.role ≢ role.Active)
  pub again : (after.1.answer ≡ answer.Status status.SyncWriteReCommitInProgress) ↔ ((vb.role ≡ role.Active) × IsToCommit vb key)
  pub none : (after.1.answer ≡ answer.Status status.KeyEnoent) ↔ ((vb.role ≡ role.Active) × (IsToCommit vb key → ⊥) × (doc_at vb key ≡ None))
  pub found : (doc : Doc) → (after.1.answer ≡ answer.Found doc) ↔ ((vb.role ≡ role.Active) × (IsToCommit vb key → ⊥) × (doc_at vb key ≡ Some doc))
  pub stays : after.0 ≡ vb

-- each read is answered so
abbrev pub ReadsExactly : Type 0
ReadsExactly = (vb : Plain) (key : List ℕ) → ReadsAs vb key (plain_step vb (Get key))

-- the key reads this document
abbrev pub Reads : Plain → List ℕ → Doc → Type 0
Reads vb key doc = (plain_step vb (Get key)).1.answer ≡ answer.Found doc

-- the key reads no document
abbrev pub ReadsNone : Plain → List ℕ → Type 0
ReadsNone vb key = (plain_step vb (Get key)).1.answer ≡ answer.Status status.KeyEnoent

-- the revision that follows the one that the key read: the first is 1, and none is above 2 ^ 64 - 1
pub record IsNextRev (vb : Plain) (key : List ℕ) (rev : ℕ) : Type 0 where
  pub first : ReadsNone vb key → rev ≡ 1
  pub next : (old : Doc) → Reads vb key old → old.rev + 1 < 2 ^ 64 → rev ≡ old.rev + 1
  pub last : (old : Doc) → Reads vb key old → 2 ^ 64 ≤ old.rev + 1 → rev ≡ 2 ^ 64 - 1

-- the document that a write puts, with this CAS
pub record IsWritten (vb : Plain) (write : Write) (given : ℕ) (doc : Doc) : Type 0 where
  pub value : doc.value ≡ write.value
  pub flags : doc.flags ≡ write.flags
  pub expiry : doc.expiry ≡ write.expiry
  pub datatype : doc.datatype ≡ write.datatype
  pub cas : doc.cas ≡ given
  pub rev : IsNextRev vb write.key doc.rev

-- the change sets the write's document, which its key then reads
abbrev pub Puts : Plain → Write → ℕ → Plain → Change → Type 0
Puts vb write cas after change = (doc : Doc) × IsWritten vb write cas doc × (change.act ≡ act.Set doc) × Reads after write.key doc

-- the change removes the document with this CAS, and its key then reads none
abbrev pub TakesAway : Plain → Write → ℕ → Plain → Change → Type 0
TakesAway vb write cas after change = (rev : ℕ) × IsNextRev vb write.key rev × (change.act ≡ act.Remove cas rev) × ReadsNone after write.key

-- a Delete takes the document away, and any other write puts one
abbrev pub Acts : Op → Plain → Write → ℕ → Plain → Change → Type 0
Acts op.Set vb write cas after change = Puts vb write cas after change
Acts op.Add vb write cas after change = Puts vb write cas after change
Acts op.Replace vb write cas after change = Puts vb write cas after change
Acts op.Delete vb write cas after change = TakesAway vb write cas after change

-- a write that was made while the clock showed this: one change with a greater CAS, the clock's without its low 16 bits where that is above the last one, which its key then reads; other keys read as before
pub record Made (vb : Plain) (write : Write) (clock : ℕ) (after : Plain × VbReply) (uuid seq cas : ℕ) : Type 0 where
  pub branch : uuid ≡ newest_branch vb.log
  pub seqno : seq ≡ vb.position.at + 1
  pub one : (change : Change) × (after.1.changes ≡ change ∷ []) × (change.seq ≡ seq) × (change.key ≡ write.key) × Acts write.op vb write cas after.0 change
  pub told : (after.1.branch ≡ uuid) × (after.1.resolved ≡ []) × (after.1.ended ≡ [])
  pub grows : after.0.held ≡ vb.held ++ after.1.changes
  pub position : after.0.position ≡ complete_position seq
  pub timed : cas ≡ max (clock / 2 ^ 16 * 2 ^ 16) (min (vb.last_cas + 1) (2 ^ 64 - 1))
  pub rises : vb.last_cas + 1 < 2 ^ 64 → vb.last_cas < cas
  pub counted : after.0.last_cas ≡ cas
  pub stays : after.0 ≡ record vb { held = after.0.held; position = after.0.position; last_cas = after.0.last_cas; spans = after.0.spans }
  pub others : (key : List ℕ) → key ≢ write.key → (plain_step after.0 (Get key)).1 ≡ (plain_step vb (Get key)).1

-- a write that is answered Stored was made
abbrev pub WritesAreRead : Type 0
WritesAreRead = (vb : Plain) (write : Write) (clock uuid seq cas : ℕ) → (plain_step vb (Store write clock)).1.answer ≡ answer.Stored uuid seq cas
    → Made vb write clock (plain_step vb (Store write clock)) uuid seq cas
