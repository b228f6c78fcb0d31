-- what no line of a script may leave undone
use Rattle.std.specs.FinMap as finite
use Rattle.std.specs.List.{list_any}
use Rattle.std.specs.Prelude.{◌≡◌, ◌≢◌, ℕ, ◌≤◌, ◌<◌, ◌⊎◌, Bool, true, false, List, [], ◌∷◌, Some, None}
use Rattle.script_text.specs.declared.verb.Verb.{Verb}
use Rattle.script_text.specs.declared.verb.Verb.TheVariants as verb
use Rattle.script_text.specs.declared.verb.ClientVerb.TheVariants as client_verb
use Rattle.script_text.specs.declared.verb.LinkVerb.TheVariants as link_verb
use Rattle.script_text.specs.declared.verb.VbVerb.TheVariants as vb_verb
use Rattle.vb_events.specs.declared.event.Answer.{Answer}
use Rattle.vb_events.specs.declared.event.Answer.TheVariants as answer
use Rattle.vb_events.specs.declared.event.Event.{Event}
use Rattle.vb_events.specs.declared.event.Event.TheVariants as event
use Rattle.vb_events.specs.declared.event.StreamName.TheVariants as name
use Rattle.vb_events.specs.declared.event.Why.TheVariants as why
use Rattle.vb_types.specs.declared.change.Change.{Change}
use Rattle.vb_types.specs.declared.change.Level.TheVariants.{PersistMajority}
use Rattle.vb_types.specs.declared.change.Pend.{Pend}
use Rattle.vb_types.specs.declared.role.Role.TheVariants.{Active}
use Rattle.vb_types.specs.Histories.{IsIn}
use Rattle.vb_types.specs.Images.{image_of}
use Rattle.branch_model.specs.Histories.{last_seq}
use Rattle.branch_model.specs.Requests.{effective_se}
use Rattle.flow_control.specs.Windows.{is_open as lets_through}
use Rattle.transcript_law.specs.Questions.{flow_now}
use Rattle.transcript_law.specs.LinesTold.{Chronicle, Dial, Granted, after_lines}
use Rattle.transcript_law.specs.TakeoverAnswers.{StateAwaited}
use Rattle.transcript_law.specs.LawfulClients.{AllQuiet, AllRest, OneWaits}
use Rattle.transcript_law.specs.Unread.{StopsForDisk}
pub use Rattle.transcript_law.specs.StreamLaws.{EndsThere, IsPutWhole}

-- ---- what is to be written down

-- each change that the vBucket v of the node n holds was taken to be written down, also by a batch that is gone
abbrev pub AllTaken : Chronicle → ℕ → ℕ → Type 0
AllTaken chronicle n v = (c : Change) → IsIn c (chronicle.held n v) → c.seq ≤ (chronicle.disk_at n v).taken

-- a `take` that has nothing to take
abbrev pub NoneToTake : Chronicle → Verb → Type 0
NoneToTake chronicle (verb.AtVb n v vb_verb.Take) = AllTaken chronicle n v
NoneToTake chronicle other = Unit {0}

-- ---- what is to be put on a stream

-- no snapshot was begun yet, and a vBucket with this last seqno does not reach the end that the request means
abbrev pub FallsShort : Granted → ℕ → Type 0
FallsShort g high = (g.last ≡ None) × (high < effective_se g.ask.start g.ask.ss g.ask.se)

-- a stream of the vBucket v of the node n has no frame to put now: its last snapshot was put to its end, the vBucket is active, so that the stream does not end, and holds nothing above the stream's place, or too little for the first snapshot that was asked for
pub record HasNoMore (chronicle : Chronicle) (n v : ℕ) (g : Granted) : Type 0 where
  pub whole : IsPutWhole g.last
  pub active : chronicle.role_at n v ≡ Some (Some Active)
  pub none : (last_seq 0 (chronicle.held n v) ≤ g.place) ⊎ FallsShort g (last_seq 0 (chronicle.held n v))

-- nor has the stream of the link l, where it has one that is not over
abbrev pub AllPut : Chronicle → ℕ → Type 0
AllPut chronicle l = (dial : Dial) (g : Granted) → chronicle.dial_of l ≡ Some dial → chronicle.stream_of (name.Link l) dial.vb ≡ Some g → g.over ≡ false → HasNoMore chronicle dial.producer dial.vb g

-- a `pump` or a `pull` that has nothing to put; the window of a client's connection is open then
abbrev pub NoneToPut : Chronicle → Verb → Type 0
NoneToPut chronicle (verb.AtLink l (link_verb.Pump wanted)) = AllPut chronicle l
NoneToPut chronicle (verb.AtClient n c (client_verb.Pull wanted)) = AllQuiet chronicle n (chronicle.clients_at n c) × (lets_through (flow_now (chronicle.clients_at n c)).window ≡ true)
NoneToPut chronicle other = Unit {0}

-- a `pull` that waits does so for one of its streams, the others have nothing to put, and its connection's window is open
abbrev pub WaitsForOne : Chronicle → Verb → Type 0
WaitsForOne chronicle (verb.AtClient n c (client_verb.Pull wanted)) = AllRest chronicle n (chronicle.clients_at n c) × OneWaits chronicle n (chronicle.clients_at n c) × (lets_through (flow_now (chronicle.clients_at n c)).window ≡ true)
WaitsForOne chronicle other = Unit {0}

-- a `pull` that is full has its connection's window shut
abbrev pub IsShutFor : Chronicle → Verb → Type 0
IsShutFor chronicle (verb.AtClient n c (client_verb.Pull wanted)) = lets_through (flow_now (chronicle.clients_at n c)).window ≡ false
IsShutFor chronicle other = Unit {0}

-- ---- what is to be acknowledged

-- the last seqno that was acknowledged, 0 for none
abbrev pub newest : List ℕ → ℕ
newest [] = 0
newest (seq ∷ before) = seq

-- a prepare waits at the vBucket v of the node n, which has all up to it: outside a snapshot, or up to where that starts; and each of level 3 that waits there, up to it, counts as saved
pub record IsDue (chronicle : Chronicle) (n v : ℕ) (e : Pend) : Type 0 where
  pub waits : (key : List ℕ) × (finite.get (image_of (chronicle.held n v)).pending key ≡ Some e)
  pub complete : (ss se : ℕ) → chronicle.snap_at n v ≡ Some (ss, se) → last_seq 0 (chronicle.held n v) ≢ se → e.seq ≤ ss
  pub thirds : (key : List ℕ) (p : Pend) → finite.get (image_of (chronicle.held n v)).pending key ≡ Some p → p.level ≡ PersistMajority → p.seq ≤ e.seq → p.seq ≤ (chronicle.disk_at n v).saved

-- each such prepare of the vBucket that the link l feeds was acknowledged on the link's stream, or one above it
abbrev pub AllAcknowledged : Chronicle → ℕ → Type 0
AllAcknowledged chronicle l = (dial : Dial) (g : Granted) → chronicle.dial_of l ≡ Some dial → chronicle.stream_of (name.Link l) dial.vb ≡ Some g → (e : Pend) → IsDue chronicle dial.node dial.vb e → e.seq ≤ newest g.wrote

-- a `down` has nothing to acknowledge
abbrev pub NoneToAcknowledge : Chronicle → Verb → Type 0
NoneToAcknowledge chronicle (verb.AtLink l (link_verb.Down wanted)) = AllAcknowledged chronicle l
NoneToAcknowledge chronicle other = Unit {0}

-- a line tells that a vBucket took something of its stream: its log, a marker, or a change
abbrev pub is_taking : Event → Bool
is_taking (event.Adopted n v log) = true
is_taking (event.Ranged n v ss se) = true
is_taking (event.Got n v stream change) = true
is_taking other = false

-- ---- by the answer

-- a line with these lines that is answered so, after what was read before it, leaves nothing undone of what it is for: a `take` takes no change only where each was taken; behind a `down` by which a vBucket took something all was acknowledged that is due; a `pump` or a `pull` is idle only where its streams have no more to put; and a `pull` waits for what is to be saved only where one of its streams does, and none has a frame, and is full only where its connection's window is shut; and they end for a journal only where a stream goes on from one that can't be read
abbrev pub LeavesNone : Chronicle → Verb → List Event → Answer → Type 0
LeavesNone chronicle asked lines (answer.Number n) = (n ≡ 0 → NoneToTake chronicle asked) × (list_any is_taking lines ≡ true → NoneToAcknowledge (after_lines chronicle lines) asked)
LeavesNone chronicle asked lines (answer.Pulled n why.Idle) = NoneToPut (after_lines chronicle lines) asked
LeavesNone chronicle asked lines (answer.Pulled n why.WaitSaved) = WaitsForOne (after_lines chronicle lines) asked
LeavesNone chronicle asked lines (answer.Pulled n why.Full) = IsShutFor (after_lines chronicle lines) asked
LeavesNone chronicle asked lines (answer.Pulled n why.WaitState) = StateAwaited chronicle asked lines
LeavesNone chronicle asked lines (answer.Pulled n why.Disk) = StopsForDisk (after_lines chronicle lines) asked
LeavesNone chronicle asked lines other = Unit {0}
