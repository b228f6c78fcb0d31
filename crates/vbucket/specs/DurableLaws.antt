-- what durable writes come to
use Rattle.std.specs.Prelude.{◌≡◌, ◌≢◌, ◌↔◌, ◌⊎◌, ℕ, ◌+◌, ◌*◌, ◌-◌, ◌/◌, ◌^◌, ◌<◌, ◌≤◌, Bool, true, List, [], ◌∷◌, ◌++◌, length, max, min, Some, None}
use Rattle.durability.specs.declared.waiting.Waiting.{Waiting}
use Rattle.durability.specs.Chains.{Links, Members, chain_length, is_chain, majority, named}
use Rattle.durability.specs.Laws.{IsLate, Waits}
use Rattle.durability.specs.Outstanding.{acked}
use Rattle.vb_types.specs.declared.change.Act.TheVariants as act
use Rattle.vb_types.specs.declared.change.Change.{Change}
use Rattle.vb_types.specs.declared.change.Level.TheVariants.{PersistMajority}
use Rattle.vb_types.specs.declared.change.Pend.{Pend}
use Rattle.vb_types.specs.declared.doc.Doc.{Doc}
use Rattle.vb_types.specs.declared.role.Role.TheVariants as role
use Rattle.vb_types.specs.declared.status.Status.{Status}
use Rattle.vb_types.specs.declared.status.Status.TheVariants as status
use Rattle.vb_types.specs.declared.write.Op.TheVariants as op
use Rattle.vb_types.specs.declared.write.Write.{Write}
use Rattle.vb_calls.specs.declared.calls.Resolution.TheVariants.{Ambiguous}
use Rattle.vb_calls.specs.declared.calls.Resolved.{Resolved}
use Rattle.vb_calls.specs.declared.calls.VbCall.{VbCall}
use Rattle.vb_calls.specs.declared.calls.VbCall.TheVariants.{Ack, Chain, Dead, Due, Durable, FlushDone, Follow, Get, Promote, Store, Tick}
use Rattle.vb_calls.specs.declared.calls.VbCall.TheVariants as call
use Rattle.vb_calls.specs.declared.calls.VbAnswer.TheVariants as answer
use Rattle.vb_calls.specs.declared.calls.VbReply.{VbReply}
use Rattle.vb_calls.specs.Durable.{Wish}
use Rattle.vb_calls.specs.Plain.{Plain, plain_step}
use Rattle.vb_calls.specs.State.{complete_position, doc_at, newest_branch, pending_of, quiet_reply}
use Rattle.vbucket.specs.Committing.{Commits, IsAtRest, Tells}
use Rattle.vbucket.specs.Laws.{Ascend, Forbids, IsTimely, IsToCommit, IsWritten, NeedsOne, Sound, is_refusal}
use Rattle.vbucket.specs.Receiving.{IsFollower}
use Rattle.vbucket.specs.Settles.{IsSettled, Resolves}
use Rattle.vbucket.specs.Turns.{MayLead}

-- a durable write
abbrev pub durably : Write → ℕ → Wish → VbCall
durably write clock wish = Durable write clock wish.level wish.deadline wish.waiter

-- it is answered this status
abbrev pub Unprepared : Plain → Write → ℕ → Wish → Status → Type 0
Unprepared vb write clock wish st = (plain_step vb (durably write clock wish)).1.answer ≡ answer.Status st

-- fewer nodes of the chain are set than a majority of it has
abbrev pub IsShort : Members → Type 0
IsShort others = 1 + length (named others) < majority (chain_length others)

-- a vBucket that prepares writes: it is active, as many nodes of its chain are set as a majority has, and there are two seqnos left beside one for each outstanding prepare
abbrev pub TakesDurable : Plain → Type 0
TakesDurable vb = (vb.role ≡ role.Active) × (IsShort vb.others → ⊥) × (vb.position.at + length vb.waiting + 2 ≤ 281474976710656)

-- why a durable write is refused, in this order: the vBucket is not active; too few nodes of the chain are set; no seqnos are left; the prepare at its key is to be committed again, or is in progress; a document speaks against it, or none is there and it needs one
pub record RefusesDurable (vb : Plain) (write : Write) (clock : ℕ) (wish : Wish) : Type 0 where
  pub foreign : Unprepared vb write clock wish status.NotMyVbucket ↔ (vb.role ≢ role.Active)
  pub short : Unprepared vb write clock wish status.DurabilityImpossible ↔ ((vb.role ≡ role.Active) × IsShort vb.others)
  pub full : Unprepared vb write clock wish status.Etmpfail ↔ ((vb.role ≡ role.Active) × (IsShort vb.others → ⊥) × (281474976710656 < vb.position.at + length vb.waiting + 2))
  pub again : TakesDurable vb → Unprepared vb write clock wish status.SyncWriteReCommitInProgress ↔ IsToCommit vb write.key
  pub pending : TakesDurable vb → Unprepared vb write clock wish status.SyncWriteInProgress ↔ (((p : Pend) × (pending_of vb write.key ≡ Some p)) × (IsToCommit vb write.key → ⊥))
  pub present : TakesDurable vb → Unprepared vb write clock wish status.KeyEexists ↔ ((pending_of vb write.key ≡ None) × ((doc : Doc) × (doc_at vb write.key ≡ Some doc) × Forbids doc write))
  pub absent : TakesDurable vb → Unprepared vb write clock wish status.KeyEnoent ↔ ((pending_of vb write.key ≡ None) × (doc_at vb write.key ≡ None) × NeedsOne write)

-- each one
abbrev pub DurableRefused : Type 0
DurableRefused = (vb : Plain) (write : Write) (clock : ℕ) (wish : Wish) → RefusesDurable vb write clock wish

-- a durable write as it was made, before anything is committed: one change prepares the write's document, with the next seqno and a new CAS; it waits at its key, and is outstanding until its deadline; every key reads as before
pub record IsPrepared (vb : Plain) (write : Write) (clock : ℕ) (wish : Wish) (made : Plain × VbReply) (seq cas : ℕ) : Type 0 where
  pub seqno : seq ≡ vb.position.at + 1
  pub timed : cas ≡ max (clock / 2 ^ 16 * 2 ^ 16) (min (vb.last_cas + 1) (2 ^ 64 - 1))
  pub rises : vb.last_cas + 1 < 2 ^ 64 → vb.last_cas < cas
  pub answer : made.1.answer ≡ answer.Prepared seq cas
  pub one : (change : Change) × (doc : Doc) × (deleted : Bool) × (made.1.changes ≡ change ∷ []) × (change.seq ≡ seq) × (change.key ≡ write.key) × (change.act ≡ act.Prepare wish.level doc deleted)
      × IsWritten vb write cas doc × ((deleted ≡ true) ↔ (write.op ≡ op.Delete)) × (pending_of made.0 write.key ≡ Some (record { seq = seq; level = wish.level; doc = doc; deleted = deleted }))
  pub waits : (w : Waiting) → Waits w made.0.waiting ↔ (Waits w vb.waiting ⊎ (w ≡ record { key = write.key; seq = seq; level = wish.level; deadline = Some wish.deadline; waiter = wish.waiter }))
  pub told : (made.1.resolved ≡ []) × (made.1.ended ≡ []) × (made.1.branch ≡ newest_branch vb.log)
  pub grows : made.0.held ≡ vb.held ++ made.1.changes
  pub position : made.0.position ≡ complete_position seq
  pub counted : made.0.last_cas ≡ cas
  pub stays : made.0 ≡ record vb { held = made.0.held; position = made.0.position; last_cas = made.0.last_cas; spans = made.0.spans; waiting = made.0.waiting }
  pub unseen : (key : List ℕ) → (plain_step made.0 (Get key)).1 ≡ (plain_step vb (Get key)).1

-- one that is answered Prepared was made, and then what may be committed is
abbrev pub DurableMade : Type 0
DurableMade = (vb : Plain) (write : Write) (clock : ℕ) (wish : Wish) (seq cas : ℕ) → Sound vb → clock < 2 ^ 64 → (plain_step vb (durably write clock wish)).1.answer ≡ answer.Prepared seq cas
    → (made : Plain × VbReply) × IsPrepared vb write clock wish made seq cas × Commits made (plain_step vb (durably write clock wish))

-- a chain is set where the vBucket is active, and what was acknowledged stays
pub record ChainsAs (vb : Plain) (chain : Links) (after : Plain × VbReply) : Type 0 where
  pub foreign : (after.1.answer ≡ answer.Status status.NotMyVbucket) ↔ (vb.role ≢ role.Active)
  pub done : (after.1.answer ≡ answer.Done) ↔ (vb.role ≡ role.Active)
  pub sets : vb.role ≡ role.Active → Commits (record vb { others = chain.others }, quiet_reply answer.Done) after

abbrev pub ChainsExactly : Type 0
ChainsExactly = (vb : Plain) (chain : Links) → Sound vb → is_chain chain.active chain.others ≡ true → ChainsAs vb chain (plain_step vb (Chain chain))

-- these are acknowledged once the member acknowledged seq: of each member the greatest
pub record Counts (vb : Plain) (member seq : ℕ) (acks : List ℕ) : Type 0 where
  pub of : acked acks member ≡ max (acked vb.acks member) seq
  pub others : (m : ℕ) → m ≢ member → acked acks m ≡ acked vb.acks m

-- NotMyVbucket unless the vBucket is active, then Erange for a seqno above its last one, which changes nothing; else the greater one is kept
pub record AcksAs (vb : Plain) (member seq : ℕ) (after : Plain × VbReply) : Type 0 where
  pub foreign : (after.1.answer ≡ answer.Status status.NotMyVbucket) ↔ (vb.role ≢ role.Active)
  pub outside : (after.1.answer ≡ answer.Status status.Erange) ↔ ((vb.role ≡ role.Active) × (vb.position.at < seq))
  pub done : (after.1.answer ≡ answer.Done) ↔ ((vb.role ≡ role.Active) × (seq ≤ vb.position.at))
  pub stays : vb.position.at < seq → (after.0 ≡ vb) × (after.1.changes ≡ []) × (after.1.resolved ≡ [])
  pub counts : vb.role ≡ role.Active → seq ≤ vb.position.at → (acks : List ℕ) × Counts vb member seq acks × Commits (record vb { acks = acks }, quiet_reply answer.Done) after

abbrev pub AcksExactly : Type 0
AcksExactly = (vb : Plain) (member seq : ℕ) → Sound vb → member < 256 → AcksAs vb member seq (plain_step vb (Ack member seq))

-- these are given up, one after the other, by these changes
abbrev pub Aborts : List Waiting → List Change → Type 0
Aborts [] [] = Unit {0}
Aborts [] (c ∷ cs) = ⊥
Aborts (w ∷ ws) [] = ⊥
Aborts (w ∷ ws) (c ∷ cs) = (c.key ≡ w.key) × (c.act ≡ act.Abort w.seq) × Aborts ws cs

-- each of these is answered Ambiguous once, if somebody waits
abbrev pub AllAmbiguous : List Waiting → List Resolved → Type 0
AllAmbiguous [] told = told ≡ []
AllAmbiguous (w ∷ ws) told = (rest : List Resolved) × Tells w Ambiguous told rest × AllAmbiguous ws rest

-- exactly the outstanding prepares with a deadline that is not after the clock are given up, by rising seqnos, and answered Ambiguous; none waits at its key then
pub record GivesUp (vb : Plain) (clock : ℕ) (made : Plain × VbReply) : Type 0 where
  pub some : (ws : List Waiting) × ((w : Waiting) → Waits w ws ↔ (Waits w vb.waiting × IsLate clock w)) × Ascend ws × Aborts ws made.1.changes × AllAmbiguous ws made.1.resolved
  pub rest : (w : Waiting) → Waits w made.0.waiting ↔ (Waits w vb.waiting × (IsLate clock w → ⊥))
  pub none : (w : Waiting) → Waits w vb.waiting → IsLate clock w → pending_of made.0 w.key ≡ None
  pub resolves : Resolves vb made.0 made.1.changes
  pub answer : made.1.answer ≡ answer.Done
  pub ended : made.1.ended ≡ []
  pub branch : (made.1.changes ≡ [] → made.1.branch ≡ 0) × (made.1.changes ≢ [] → made.1.branch ≡ newest_branch vb.log)

-- time goes on for the outstanding prepares of an active vBucket, and then what may be committed is
pub record TicksAs (vb : Plain) (clock : ℕ) (after : Plain × VbReply) : Type 0 where
  pub foreign : (after.1.answer ≡ answer.Status status.NotMyVbucket) ↔ (vb.role ≢ role.Active)
  pub done : (after.1.answer ≡ answer.Done) ↔ (vb.role ≡ role.Active)
  pub gives : vb.role ≡ role.Active → (made : Plain × VbReply) × GivesUp vb clock made × Commits made after

abbrev pub TicksExactly : Type 0
TicksExactly = (vb : Plain) (clock : ℕ) → Sound vb → TicksAs vb clock (plain_step vb (Tick clock))

-- in another role the vBucket has no outstanding prepare and no acknowledgement, and who waited is answered Ambiguous once
pub record GivesUpAll (vb : Plain) (after : Plain × VbReply) : Type 0 where
  pub told : AllAmbiguous vb.waiting after.1.resolved
  pub none : after.0.waiting ≡ []
  pub acks : (m : ℕ) → acked after.0.acks m ≡ 0
  pub others : after.0.others ≡ []
  pub branch : after.1.branch ≡ 0

abbrev pub TurnsGiveUp : Type 0
TurnsGiveUp = (vb : Plain) → (vb.role ≢ role.Replica → GivesUpAll vb (plain_step vb Follow)) × (vb.role ≢ role.Dead → GivesUpAll vb (plain_step vb Dead))

-- a promotion before anything is committed: each prepare that waits is outstanding, without a deadline and with nobody who waits, by rising seqnos, and no other; nobody acknowledged anything yet, and the chain is of the node alone
pub record LeavesAll (vb : Plain) (made : Plain × VbReply) : Type 0 where
  pub told : AllAmbiguous vb.waiting made.1.resolved
  pub waits : (w : Waiting) → Waits w made.0.waiting ↔ ((p : Pend) × (pending_of vb w.key ≡ Some p) × (w ≡ record { key = w.key; seq = p.seq; level = p.level; deadline = None; waiter = 0 }))
  pub ascend : Ascend made.0.waiting
  pub acks : (m : ℕ) → acked made.0.acks m ≡ 0
  pub others : made.0.others ≡ []
  pub holds : (made.0.held ≡ vb.held) × (made.0.base ≡ vb.base) × (made.1.changes ≡ []) × (made.1.branch ≡ 0)

abbrev pub PromotionsLeave : Type 0
PromotionsLeave = (vb : Plain) (uuid : ℕ) → Sound vb → MayLead vb uuid → (made : Plain × VbReply) × LeavesAll vb made × Commits made (plain_step vb (Promote uuid))

-- once more is written down, what may be committed then is
abbrev pub ReceiptsCommit : Type 0
ReceiptsCommit = (vb : Plain) (seq : ℕ) → Sound vb → Commits (record vb { saved = max vb.saved seq }, quiet_reply (answer.Num (max vb.saved seq))) (plain_step vb (FlushDone seq))

-- a call that resolves no prepare, and makes no change of the vBucket's own
abbrev pub IsQuiet : VbCall → Type 0
IsQuiet (call.Store write clock) = ⊥
IsQuiet (call.Durable write clock level deadline waiter) = ⊥
IsQuiet (call.Chain chain) = ⊥
IsQuiet (call.Ack member seq) = ⊥
IsQuiet (call.Tick clock) = ⊥
IsQuiet (call.Promote uuid) = ⊥
IsQuiet call.Follow = ⊥
IsQuiet call.Dead = ⊥
IsQuiet call.Pend = ⊥
IsQuiet call.Own = ⊥
IsQuiet (call.Yield id) = ⊥
IsQuiet (call.FlushDone seq) = ⊥
IsQuiet (call.Get key) = Unit {0}
IsQuiet (call.OpenStream id ask sync) = Unit {0}
IsQuiet (call.Place id) = Unit {0}
IsQuiet (call.Take id) = Unit {0}
IsQuiet (call.CloseStream id) = Unit {0}
IsQuiet (call.DropCursor id) = Unit {0}
IsQuiet call.Due = Unit {0}
IsQuiet call.Ask = Unit {0}
IsQuiet (call.Adopt log) = Unit {0}
IsQuiet (call.Marker start end) = Unit {0}
IsQuiet (call.Receive change) = Unit {0}
IsQuiet (call.RollTo at image cas) = Unit {0}
IsQuiet call.Seal = Unit {0}
IsQuiet call.Trim = Unit {0}
IsQuiet call.FlushTake = Unit {0}
IsQuiet call.Stat = Unit {0}
IsQuiet call.Log = Unit {0}
IsQuiet call.Show = Unit {0}

-- it tells no outcome and no branch; nor does a call that is refused
abbrev pub QuietOnes : Type 0
QuietOnes = (vb : Plain) (call : VbCall) → IsQuiet call ⊎ (is_refusal (plain_step vb call).1.answer ≡ true) → ((plain_step vb call).1.resolved ≡ []) × ((plain_step vb call).1.branch ≡ 0)

-- each prepare of level 3 that waits, up to n, is saved
abbrev pub ThirdsAreSaved : Plain → ℕ → Type 0
ThirdsAreSaved vb n = (key : List ℕ) (p : Pend) → pending_of vb key ≡ Some p → p.level ≡ PersistMajority → p.seq ≤ n → p.seq ≤ vb.saved

-- n lies in what a vBucket has all up to: its last seqno where its snapshot is whole, and else the snapshot's start
abbrev pub IsComplete : Plain → ℕ → Type 0
IsComplete vb n = (vb.position.at ≡ vb.position.se → n ≤ vb.position.at) × (vb.position.at ≢ vb.position.se → n ≤ vb.position.ss)

-- a vBucket may acknowledge n: the greatest seqno of a prepare that waits, that it has all up to, with each of level 3 up to it saved; 0 where there is none
pub record IsDue (vb : Plain) (n : ℕ) : Type 0 where
  pub one : 0 < n → (key : List ℕ) × (p : Pend) × (pending_of vb key ≡ Some p) × (p.seq ≡ n)
  pub complete : 0 < n → IsComplete vb n
  pub thirds : ThirdsAreSaved vb n
  pub greatest : (key : List ℕ) (p : Pend) → pending_of vb key ≡ Some p → IsComplete vb p.seq → ThirdsAreSaved vb p.seq → p.seq ≤ n

-- NotMyVbucket unless the vBucket follows, else what it may acknowledge, with what it counts as saved; nothing changes
pub record DuesAs (vb : Plain) (after : Plain × VbReply) : Type 0 where
  pub foreign : (after.1.answer ≡ answer.Status status.NotMyVbucket) ↔ (IsFollower vb.role → ⊥)
  pub tells : IsFollower vb.role → (n : ℕ) × (after.1.answer ≡ answer.Dues n vb.saved) × IsDue vb n
  pub stays : after.0 ≡ vb

abbrev pub DuesExactly : Type 0
DuesExactly = (vb : Plain) → DuesAs vb (plain_step vb Due)

-- after each call no more may be committed, also after a plain write, which commits nothing
abbrev pub StaysAtRest : Type 0
StaysAtRest = (vb : Plain) (call : VbCall) → Sound vb → IsTimely call → IsSettled vb → IsSettled (plain_step vb call).0

-- which is: where a seqno is left, the lowest outstanding prepare lacks a majority, or is not saved as its level asks
abbrev pub RestsExactly : Type 0
RestsExactly = (vb : Plain) → IsSettled vb → IsAtRest vb
