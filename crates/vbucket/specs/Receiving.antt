-- what a follower takes from its producer
use Rattle.std.specs.Prelude.{List, ◌≡◌, ◌≢◌, ◌↔◌, ◌⊎◌, ℕ, ◌^◌, ◌<◌, ◌≤◌, true, false, min, max, [], ◌∷◌, Option, Some, None}
use Rattle.vb_types.specs.declared.change.Act.{Act}
use Rattle.vb_types.specs.declared.change.Act.TheVariants as act
use Rattle.vb_types.specs.declared.change.Change.{Change}
use Rattle.vb_types.specs.declared.change.Pend.{Pend}
use Rattle.vb_types.specs.declared.role.LogEntry.{LogEntry}
use Rattle.vb_types.specs.declared.role.Role.{Role}
use Rattle.vb_types.specs.declared.role.Role.TheVariants as role
use Rattle.vb_types.specs.declared.status.Status.TheVariants as status
use Rattle.vb_types.specs.declared.stream.StreamAsk.{StreamAsk}
use Rattle.branch_model.specs.Logs.{entry_for, uuid_of}
use Rattle.branch_model.specs.Requests.{reach_of}
use Rattle.vb_calls.specs.declared.calls.VbCall.TheVariants.{Adopt, Ask, Marker, Receive}
use Rattle.vb_calls.specs.declared.calls.VbAnswer.TheVariants as answer
use Rattle.vb_calls.specs.declared.calls.VbReply.{VbReply}
use Rattle.vb_calls.specs.Plain.{Plain, plain_step}
use Rattle.vb_calls.specs.State.{pending_of}
use Rattle.vb_calls.specs.Spans.{all_spans}
use Rattle.vbucket.specs.Adopting.{IsAnswerable}

-- takes changes from another node
abbrev pub IsFollower : Role → Type 0
IsFollower r = (r ≡ role.Replica) ⊎ (r ≡ role.Pending)

-- NotMyVbucket unless the vBucket follows, then Einval for a log that no producer may answer; else the log is the vBucket's, and the next marker is the first
pub record AdoptsAs (vb : Plain) (log : List LogEntry) (after : Plain × VbReply) : Type 0 where
  pub foreign : (after.1.answer ≡ answer.Status status.NotMyVbucket) ↔ (IsFollower vb.role → ⊥)
  pub outside : (after.1.answer ≡ answer.Status status.Einval) ↔ (IsFollower vb.role × (IsAnswerable log → ⊥))
  pub taken : (after.1.answer ≡ answer.Done) ↔ (IsFollower vb.role × IsAnswerable log)
  pub adopts : IsFollower vb.role → IsAnswerable log → after.0 ≡ record vb { log = log; first = true }

-- each log is answered in this order
abbrev pub AdoptsExactly : Type 0
AdoptsExactly = (vb : Plain) (log : List LogEntry) → AdoptsAs vb log (plain_step vb (Adopt log))

-- a snapshot may begin with this marker: it ends neither below its start, nor below what was taken, nor above 2 ^ 48, and it is the first after a request or the snapshot before it is complete
pub record Fits (vb : Plain) (start end : ℕ) : Type 0 where
  pub order : start ≤ end
  pub reach : vb.position.at ≤ end
  pub cap : end ≤ 2 ^ 48
  pub turn : (vb.first ≡ true) ⊎ (vb.position.at ≡ vb.position.se)

-- NotMyVbucket unless the vBucket follows, then Erange for a marker that does not fit; else the snapshot begins, at the marker's start or below, no span is open, and the next marker is not the first
pub record MarksAs (vb : Plain) (start end : ℕ) (after : Plain × VbReply) : Type 0 where
  pub foreign : (after.1.answer ≡ answer.Status status.NotMyVbucket) ↔ (IsFollower vb.role → ⊥)
  pub outside : (after.1.answer ≡ answer.Status status.Erange) ↔ (IsFollower vb.role × (Fits vb start end → ⊥))
  pub taken : (ss se : ℕ) → (after.1.answer ≡ answer.Range ss se) ↔ ((IsFollower vb.role × Fits vb start end) × (ss ≡ min start vb.position.at) × (se ≡ end))
  pub begins : IsFollower vb.role → Fits vb start end
      → after.0 ≡ record vb { position = record { ss = min start vb.position.at; se = end; at = vb.position.at }; spans = record { sealed = all_spans vb.spans; current = None }; first = false }

-- each marker is answered in this order
abbrev pub MarkersExactly : Type 0
MarkersExactly = (vb : Plain) (start end : ℕ) → MarksAs vb start end (plain_step vb (Marker start end))

-- NotMyVbucket unless the vBucket follows; else it asks from its last seqno on, in its snapshot, without end or flags, on the branch of its log that it relies on
pub record AsksAs (vb : Plain) (after : Plain × VbReply) : Type 0 where
  pub foreign : (after.1.answer ≡ answer.Status status.NotMyVbucket) ↔ (IsFollower vb.role → ⊥)
  pub asks : (ask : StreamAsk) → (after.1.answer ≡ answer.Named ask) ↔ (IsFollower vb.role
      × (ask ≡ record { flags = 0; start = vb.position.at; end = 18446744073709551615; uuid = uuid_of (entry_for (reach_of vb.position) vb.log); ss = vb.position.ss; se = vb.position.se }))
  pub stays : after.0 ≡ vb

-- each vBucket asks so
abbrev pub AsksExactly : Type 0
AsksExactly = (vb : Plain) → AsksAs vb (plain_step vb Ask)

-- a change comes above what was taken, and in the snapshot
abbrev pub ComesNext : Plain → Change → Type 0
ComesNext vb c = (vb.position.at < c.seq) × (c.seq ≤ vb.position.se)

-- a commit of a prepare that does not wait, where this one does, or none
abbrev pub LacksPrepare : Option Pend → Act → Type 0
LacksPrepare pend (act.Set doc) = ⊥
LacksPrepare pend (act.Remove cas rev) = ⊥
LacksPrepare pend (act.Prepare level doc deleted) = ⊥
LacksPrepare pend (act.Commit prepared doc deleted) = (p : Pend) → pend ≡ Some p → p.seq ≢ prepared
LacksPrepare pend (act.Abort prepared) = ⊥

-- an act is taken as a: a commit with the document of the prepare that waits, and any other as it is
abbrev pub IsTakenAs : Option Pend → Act → Act → Type 0
IsTakenAs pend (act.Set doc) a = act.Set doc ≡ a
IsTakenAs pend (act.Remove cas rev) a = act.Remove cas rev ≡ a
IsTakenAs pend (act.Prepare level doc deleted) a = act.Prepare level doc deleted ≡ a
IsTakenAs pend (act.Commit prepared doc deleted) a = (p : Pend) × (pend ≡ Some p) × (p.seq ≡ prepared) × (act.Commit prepared p.doc p.deleted ≡ a)
IsTakenAs pend (act.Abort prepared) a = act.Abort prepared ≡ a

-- the last CAS n after an act where it was `last`: the larger of it and the act's own, which of a commit is that of the prepare that waits; an abort has none
abbrev pub CountsCas : Option Pend → Act → ℕ → ℕ → Type 0
CountsCas pend (act.Set doc) last n = n ≡ max last doc.cas
CountsCas pend (act.Remove cas rev) last n = n ≡ max last cas
CountsCas pend (act.Prepare level doc deleted) last n = n ≡ max last doc.cas
CountsCas pend (act.Commit prepared doc deleted) last n = (p : Pend) × (pend ≡ Some p) × (n ≡ max last p.doc.cas)
CountsCas pend (act.Abort prepared) last n = n ≡ last

-- NotMyVbucket unless the vBucket follows, then Erange for a change that does not come next, then Einval for a commit without its prepare; else the change is taken, and its CAS counted
pub record ReceivesAs (vb : Plain) (c : Change) (after : Plain × VbReply) : Type 0 where
  pub foreign : (after.1.answer ≡ answer.Status status.NotMyVbucket) ↔ (IsFollower vb.role → ⊥)
  pub outside : (after.1.answer ≡ answer.Status status.Erange) ↔ (IsFollower vb.role × (ComesNext vb c → ⊥))
  pub lacking : (after.1.answer ≡ answer.Status status.Einval) ↔ (IsFollower vb.role × ComesNext vb c × LacksPrepare (pending_of vb c.key) c.act)
  pub taken : (after.1.answer ≡ answer.Done) ↔ (IsFollower vb.role × ComesNext vb c × (LacksPrepare (pending_of vb c.key) c.act → ⊥))
  pub enters : after.1.answer ≡ answer.Done → (a : Act) × IsTakenAs (pending_of vb c.key) c.act a × (after.1.changes ≡ record { seq = c.seq; key = c.key; act = a } ∷ [])
  pub moves : after.1.answer ≡ answer.Done → after.0.position ≡ record { ss = vb.position.ss; se = vb.position.se; at = c.seq }
  pub stays : after.0 ≡ record vb { held = after.0.held; position = after.0.position; last_cas = after.0.last_cas; spans = after.0.spans }
  pub counts : after.1.answer ≡ answer.Done → CountsCas (pending_of vb c.key) c.act vb.last_cas after.0.last_cas

-- each change is answered in this order
abbrev pub ReceivesExactly : Type 0
ReceivesExactly = (vb : Plain) (c : Change) → ReceivesAs vb c (plain_step vb (Receive c))
