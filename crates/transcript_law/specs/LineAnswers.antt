-- which answers the lines of a script may get
use Rattle.std.specs.Prelude.{◌≡◌, ℕ, ◌+◌, ◌*◌, ◌<◌, ◌≤◌, ◌==◌, if◌then◌else◌, Bool, true, false, ◌⊎◌, max, List, [], ◌∷◌, length, Option, Some, None}
use Rattle.std.specs.List.{filter, list_any}
use Rattle.script_text.specs.declared.verb.Verb.{Verb}
use Rattle.script_text.specs.declared.verb.Verb.TheVariants as verb
use Rattle.script_text.specs.declared.verb.VbVerb.{VbVerb}
use Rattle.script_text.specs.declared.verb.VbVerb.TheVariants as vb_verb
use Rattle.script_text.specs.declared.verb.NodeVerb.TheVariants as node_verb
use Rattle.script_text.specs.declared.verb.LinkVerb.TheVariants as link_verb
use Rattle.vb_events.specs.declared.event.Answer.{Answer}
use Rattle.vb_events.specs.declared.event.Answer.TheVariants as answer
use Rattle.vb_events.specs.declared.event.Event.{Event}
use Rattle.vb_events.specs.declared.event.Event.TheVariants as event
use Rattle.vb_events.specs.declared.event.StreamName.TheVariants as name
use Rattle.vb_events.specs.declared.event.Cause.{Cause}
use Rattle.vb_events.specs.declared.event.Cause.TheVariants as cause
use Rattle.branch_model.specs.Journals.{role_of}
use Rattle.vb_types.specs.declared.journal.{Batch.{Batch}, Record.{Record}}
use Rattle.vb_types.specs.declared.journal.Record.TheVariants as noted
use Rattle.vb_types.specs.declared.role.Role.{Role}
use Rattle.vb_types.specs.declared.role.Role.TheVariants as role
use Rattle.disk_journals.specs.Books.{below}
use Rattle.vb_disk.specs.declared.fuse.Fuse.{Fuse}
use Rattle.vb_disk.specs.declared.fuse.Fuse.TheVariants.{Off, Stop, Fail}
use Rattle.transcript_law.specs.Clients.{ClientAnswer, IsCrashed}
use Rattle.transcript_law.specs.LinesTold.{Granted, is_dial_for}
use Rattle.transcript_law.specs.Ends.{Dials, NoneFor}
pub use Rattle.transcript_law.specs.Pulls.{PutsAsTold, frames_in_lines, is_frame}
use Rattle.transcript_law.specs.Chronicles.{Chronicle, Dial, DiskKnown, Taken, Written, calls_of_append, conns_lines, disks_of, is_rise, is_rollback, rollback_of, vb_numbers}

-- it was carried out, with nothing to count
abbrev pub IsCarriedOut : Answer → Type 0
IsCarriedOut answer.Ok = Unit {0}
IsCarriedOut (answer.Number n) = ⊥
IsCarriedOut (answer.Pulled n said) = ⊥
IsCarriedOut (answer.No cause) = Unit {0}

-- why a line over a link is refused, which this is told of: it is not dialed, or over, and nothing else
abbrev pub IsOver : Option Dial → Cause → Type 0
IsOver dial cause.LinkClosed = dial ≡ None
IsOver dial other = ⊥

-- over a link so many bytes were moved, and no more than were asked for
abbrev pub IsMoved : Option Dial → ℕ → Answer → Type 0
IsMoved dial wanted answer.Ok = ⊥
IsMoved dial wanted (answer.Number n) = n ≤ wanted
IsMoved dial wanted (answer.Pulled n said) = ⊥
IsMoved dial wanted (answer.No why) = IsOver dial why

-- frames of its streams were put
abbrev pub IsPumped : Option Dial → ℕ → List Event → Answer → Type 0
IsPumped dial wanted lines answer.Ok = ⊥
IsPumped dial wanted lines (answer.Number n) = ⊥
IsPumped dial wanted lines (answer.Pulled n said) = PutsAsTold wanted lines n said
IsPumped dial wanted lines (answer.No why) = IsOver dial why

-- it was cut
abbrev pub IsCut : Option Dial → Answer → Type 0
IsCut dial answer.Ok = Unit {0}
IsCut dial (answer.Number n) = ⊥
IsCut dial (answer.Pulled n said) = ⊥
IsCut dial (answer.No why) = IsOver dial why

-- the link l was dialed for the vBucket v of the node n: no link of that number was dialed that is not over, nor one for the vBucket; and it is refused as open only where one was. Any line may be refused for another cause
abbrev pub IsLinked : Dials → ℕ → ℕ → ℕ → Answer → Type 0
IsLinked dials l n v answer.Ok = (dials l ≡ None) × NoneFor dials n v
IsLinked dials l n v (answer.Number count) = ⊥
IsLinked dials l n v (answer.Pulled count said) = ⊥
IsLinked dials l n v (answer.No cause.LinkOpen) = ((dial : Dial) × (dials l ≡ Some dial)) ⊎ ((k : ℕ) × (is_dial_for n v (dials k) ≡ true))
IsLinked dials l n v (answer.No why) = Unit {0}

-- so many were sealed of one vBucket: 1 where it changed since it was sealed last, took a marker, got a role or went back, and 0 where it did not. Of one that is pending it is not known whether it was sealed since it changed, as that may be with no line, where another state pending comes
abbrev pub SealsAs : Option (Option Role) → Bool → ℕ → Type 0
SealsAs (Some (Some role.Pending)) true n = n ≤ 1
SealsAs other changed n = n ≡ (if changed then 1 else 0)

-- a vBucket was sealed
abbrev pub IsSealed : Option (Option Role) → Bool → Answer → Type 0
IsSealed at changed answer.Ok = ⊥
IsSealed at changed (answer.Number n) = SealsAs at changed n
IsSealed at changed (answer.Pulled n said) = ⊥
IsSealed at changed (answer.No cause) = Unit {0}

-- so many spans of a vBucket were given up, one by one: it is there, none of them is empty, and all that is in them counts as saved
abbrev pub IsTrimmed : DiskKnown → Answer → Type 0
IsTrimmed d answer.Ok = ⊥
IsTrimmed d (answer.Number n) = (d.there ≡ true) × (n ≤ d.saved)
IsTrimmed d (answer.Pulled n said) = ⊥
IsTrimmed d (answer.No cause) = Unit {0}

-- a cursor was taken away over the link l, 1, or there was none, 0; it was that of the link's stream, which was let continue and is not over
abbrev pub DropsOne : Chronicle → ℕ → Type 0
DropsOne chronicle l = (dial : Dial) × (g : Granted) × (chronicle.dial_of l ≡ Some dial) × (chronicle.stream_of (name.Link l) dial.vb ≡ Some g) × (g.over ≡ false)

abbrev pub IsDropped : Chronicle → ℕ → Answer → Type 0
IsDropped chronicle l answer.Ok = ⊥
IsDropped chronicle l (answer.Number n) = (n ≤ 1) × (n ≡ 1 → DropsOne chronicle l)
IsDropped chronicle l (answer.Pulled n said) = ⊥
IsDropped chronicle l (answer.No why) = IsOver (chronicle.dial_of l) why

-- of these batches the lines tell: the node, the vBucket and the count of changes of each
abbrev pub batches_in_lines : List Event → List (ℕ × (ℕ × ℕ))
batches_in_lines [] = []
batches_in_lines (event.Batch n v ss se at count ∷ lines) = (n, (v, count)) ∷ batches_in_lines lines
batches_in_lines (line ∷ lines) = batches_in_lines lines

-- the group's line tells of a batch of as many changes, and of this vBucket; with no line there was none to take
abbrev pub TakesAsTold : ℕ → ℕ → ℕ → List (ℕ × (ℕ × ℕ)) → Type 0
TakesAsTold n v count [] = count ≡ 0
TakesAsTold n v count (told ∷ []) = told ≡ (n, (v, count))
TakesAsTold n v count (told ∷ other ∷ more) = ⊥

-- a batch was taken
abbrev pub IsTaken : ℕ → ℕ → List Event → Answer → Type 0
IsTaken n v lines answer.Ok = ⊥
IsTaken n v lines (answer.Number count) = TakesAsTold n v count (batches_in_lines lines)
IsTaken n v lines (answer.Pulled count said) = ⊥
IsTaken n v lines (answer.No cause) = batches_in_lines lines ≡ []

-- a batch that was written down counts as saved: what is saved is its end, unless more was
abbrev pub SavesTo : DiskKnown → ℕ → Type 0
SavesTo d n = (end : ℕ) × (d.flushing ≡ Written end) × (n ≡ max d.saved end)

-- it does, unless the line is refused
abbrev pub IsSaved : DiskKnown → Answer → Type 0
IsSaved d answer.Ok = ⊥
IsSaved d (answer.Number n) = SavesTo d n
IsSaved d (answer.Pulled n said) = ⊥
IsSaved d (answer.No cause) = Unit {0}

-- of so many device calls none is hit
abbrev pub PassesIn : ℕ → Fuse → Type 0
PassesIn calls Off = Unit {0}
PassesIn calls (Stop k) = calls < k
PassesIn calls (Fail k) = calls < k

-- none of the four of an append is
abbrev pub PassesAppend : Fuse → Type 0
PassesAppend f = PassesIn calls_of_append f

-- one of so many device calls fails
abbrev pub FailsIn : ℕ → Fuse → Type 0
FailsIn calls (Fail k) = (0 < k) × (k ≤ calls)
FailsIn calls other = ⊥

-- the node stops inside one of so many
abbrev pub StopsIn : ℕ → Fuse → Type 0
StopsIn calls (Stop k) = (0 < k) × (k ≤ calls)
StopsIn calls other = ⊥

-- the answer of a line that appends a record: it stands exactly where its journal is not closed and the node's arm passes it, and where it does not the journal was closed, or the arm says how it failed. Any line may be refused
abbrev pub IsNoted : Bool → Fuse → Answer → Type 0
IsNoted closed f answer.Ok = (closed ≡ false) × PassesAppend f
IsNoted closed f (answer.Number n) = ⊥
IsNoted closed f (answer.Pulled n said) = ⊥
IsNoted closed f (answer.No cause.Closed) = closed ≡ true
IsNoted closed f (answer.No cause.Disk) = (closed ≡ false) × FailsIn calls_of_append f
IsNoted closed f (answer.No cause.Stopped) = (closed ≡ false) × StopsIn calls_of_append f
IsNoted closed f (answer.No why) = Unit {0}

-- the same, of the journal of the vBucket v of the node n
abbrev pub IsNotedAt : Chronicle → ℕ → ℕ → Answer → Type 0
IsNotedAt chronicle n v said = IsNoted (chronicle.disk_at n v).closed (chronicle.arm_at n).fuse said

-- a batch was taken, and is not written down yet
abbrev pub IsOut : DiskKnown → Type 0
IsOut d = (b : Batch) × (d.flushing ≡ Taken b)

-- there is one to append, where its append stands, fails, stops the node, or finds the journal closed
abbrev pub IsAppended : DiskKnown → Answer → Type 0
IsAppended d answer.Ok = IsOut d
IsAppended d (answer.No cause.Closed) = IsOut d
IsAppended d (answer.No cause.Disk) = IsOut d
IsAppended d (answer.No cause.Stopped) = IsOut d
IsAppended d other = Unit {0}

-- a rollback that a link's last request asks for, which its consumer did not make yet: a node, a vBucket, and the record
abbrev pub Back : Type 0
Back = Option (ℕ × (ℕ × Record))

-- there is one
abbrev pub IsBack : Back → Type 0
IsBack back = (what : ℕ × (ℕ × Record)) × (back ≡ Some what)

-- a record is to be written down where a link's bytes are taken: of such a rollback, or of a vBucket of which these lines tell that it took its branch over
abbrev pub IsOwed : Back → List Event → Type 0
IsOwed back lines = IsBack back ⊎ (list_any is_rise lines ≡ true)

-- there is one, where its append fails, stops the node, or finds the journal closed
abbrev pub IsBroken : Back → List Event → Answer → Type 0
IsBroken back lines (answer.No cause.Closed) = IsOwed back lines
IsBroken back lines (answer.No cause.Disk) = IsOwed back lines
IsBroken back lines (answer.No cause.Stopped) = IsOwed back lines
IsBroken back lines other = Unit {0}

-- of these rollbacks the lines tell: the node and the vBucket that went back, and where to
abbrev pub rollbacks_in_lines : List Event → List (ℕ × (ℕ × Record))
rollbacks_in_lines [] = []
rollbacks_in_lines (event.Rolled n v named to ∷ lines) = (n, (v, noted.Roll to)) ∷ rollbacks_in_lines lines
rollbacks_in_lines (line ∷ lines) = rollbacks_in_lines lines

-- there is one, and the lines tell of it, and of no other
abbrev pub GoesBack : Back → List Event → Type 0
GoesBack back lines = (what : ℕ × (ℕ × Record)) × (back ≡ Some what) × (rollbacks_in_lines lines ≡ what ∷ [])

-- a line over a link that brings bytes to its consumer may be refused for its disk besides
abbrev pub IsOverOrBroken : Option Dial → Cause → Type 0
IsOverOrBroken dial cause.Closed = Unit {0}
IsOverOrBroken dial cause.Disk = Unit {0}
IsOverOrBroken dial cause.Stopped = Unit {0}
IsOverOrBroken dial other = IsOver dial other

abbrev pub IsOverIfNo : Option Dial → Answer → Type 0
IsOverIfNo dial (answer.No why) = IsOverOrBroken dial why
IsOverIfNo dial other = Unit {0}

-- so many bytes were moved. Where the lines tell of a rollback it is the one for which the link's request had been sent back, once, and that could be written down; where they tell that a vBucket took its branch over, that could be, and none went back beside it. Or it could not, the answer says why, and no line tells that a vBucket went back
abbrev pub IsTakenDown : ℕ → Back → Bool → Fuse → List Event → Answer → Type 0
IsTakenDown wanted back closed f lines answer.Ok = ⊥
IsTakenDown wanted back closed f lines (answer.Number n) =
    (n ≤ wanted) × (list_any is_rollback lines ≡ true → GoesBack back lines × IsNoted closed f answer.Ok) × (list_any is_rise lines ≡ true → (list_any is_rollback lines ≡ false) × IsNoted closed f answer.Ok)
IsTakenDown wanted back closed f lines (answer.Pulled n said) = ⊥
IsTakenDown wanted back closed f lines (answer.No why) = IsNoted closed f (answer.No why) × IsBroken back lines (answer.No why) × (list_any is_rollback lines ≡ false)

-- the arm of the node that a link's dial is at, and whether the journal of the vBucket that it is for is closed, where that is known
abbrev pub arm_of_dial : Chronicle → Option Dial → Fuse
arm_of_dial chronicle None = Off
arm_of_dial chronicle (Some dial) = (chronicle.arm_at dial.node).fuse

abbrev pub closed_of_dial : Chronicle → Option Dial → Bool
closed_of_dial chronicle None = false
closed_of_dial chronicle (Some dial) = (chronicle.disk_at dial.node dial.vb).closed

-- the rollback that the link l waits for
abbrev pub back_of : Chronicle → ℕ → Back
back_of chronicle l = rollback_of chronicle (chronicle.dial_of l) (chronicle.point_of l)

-- a line tells that the vBucket v of the node n makes a branch
abbrev pub MakesBranch : ℕ → ℕ → List Event → Type 0
MakesBranch n v [] = ⊥
MakesBranch n v (event.Branch m q uuid parent fork high ∷ lines) = ((m ≡ n) × (q ≡ v)) ⊎ MakesBranch n v lines
MakesBranch n v (other ∷ lines) = MakesBranch n v lines

-- each vBucket of the node n that was active, by its records, makes a new one
abbrev pub AllBranch : Chronicle → ℕ → List Event → Type 0
AllBranch chronicle n lines = (v : ℕ) → role_of (chronicle.disk_at n v).book ≡ Some role.Active → MakesBranch n v lines

-- the last role that these records tell is active
abbrev pub is_role_active : Option Role → Bool
is_role_active (Some role.Active) = true
is_role_active other = false

abbrev pub was_active : DiskKnown → Bool
was_active d = is_role_active (role_of d.book)

-- so many vBuckets of a node were
abbrev pub were_active : Chronicle → ℕ → ℕ
were_active chronicle n = length (filter (λ v. was_active (chronicle.disk_at n v)) (below vb_numbers))

-- the device calls of a start: one for each disk, and an append for each vBucket that was active
abbrev pub calls_of_start : Chronicle → ℕ → ℕ
calls_of_start chronicle n = disks_of chronicle n + calls_of_append * were_active chronicle n

-- a node starts with these ids, or stays down, for a cause. It starts well exactly where its arm hits none of its calls, and where one is hit the arm says how the start failed. One that is told down is there and does not run; where a line is refused before that it tells of nothing. The ids are short only where there are fewer than vBuckets that were active, and all disks were opened
abbrev pub IsStarted : Chronicle → ℕ → List ℕ → List Event → Answer → Type 0
IsStarted chronicle n uuids lines answer.Ok = AllBranch chronicle n lines × PassesIn (calls_of_start chronicle n) (chronicle.arm_at n).fuse
IsStarted chronicle n uuids lines (answer.Number count) = ⊥
IsStarted chronicle n uuids lines (answer.Pulled count said) = ⊥
IsStarted chronicle n uuids lines (answer.No cause.Disk) = FailsIn (calls_of_start chronicle n) (chronicle.arm_at n).fuse
IsStarted chronicle n uuids lines (answer.No cause.Stopped) = StopsIn (calls_of_start chronicle n) (chronicle.arm_at n).fuse
IsStarted chronicle n uuids lines (answer.No cause.IdsShort) = (lines ≡ []) × (length uuids < were_active chronicle n) × PassesIn (disks_of chronicle n) (chronicle.arm_at n).fuse
IsStarted chronicle n uuids lines (answer.No cause.UuidZero) = (lines ≡ []) × (list_any (λ uuid. uuid == 0) uuids ≡ true)
IsStarted chronicle n uuids lines (answer.No cause.UuidUsed) = lines ≡ []
IsStarted chronicle n uuids lines (answer.No cause.UnknownNode) = (lines ≡ []) × ((chronicle.arm_at n).down ≡ false)
IsStarted chronicle n uuids lines (answer.No cause.NodeUp) = (lines ≡ []) × ((chronicle.arm_at n).down ≡ false)
IsStarted chronicle n uuids lines (answer.No why) = ⊥

-- what a line does to a vBucket, as far as its answer and its node's disks tell
pub data VbKind : Type 0 where
  Plain : VbKind
  Notes : VbKind
  Seals : VbKind
  Trims : VbKind
  Takes : VbKind
  Saves : VbKind
  Counts : VbKind

-- each verb for a vBucket is of one kind: it appends a role, seals, trims, takes a batch, appends it, counts it as saved, or does nothing that is counted
abbrev pub vb_kind : VbVerb → VbKind
vb_kind (vb_verb.MakeActive uuid) = Notes
vb_kind vb_verb.MakeReplica = Notes
vb_kind (vb_verb.Chain others) = Plain
vb_kind (vb_verb.Promote uuid) = Notes
vb_kind vb_verb.Follow = Notes
vb_kind vb_verb.Dead = Notes
vb_kind vb_verb.Tick = Plain
vb_kind vb_verb.Seal = Seals
vb_kind vb_verb.Trim = Trims
vb_kind vb_verb.Take = Takes
vb_kind vb_verb.Save = Saves
vb_kind vb_verb.Done = Counts
vb_kind vb_verb.Stat = Plain
vb_kind vb_verb.Log = Plain
vb_kind vb_verb.Show = Plain

-- how a line of a kind is answered, of the vBucket v of the node n
abbrev pub KindAnswer : Chronicle → ℕ → ℕ → VbKind → List Event → Answer → Type 0
KindAnswer chronicle n v Plain lines said = IsCarriedOut said
KindAnswer chronicle n v Notes lines said = IsNotedAt chronicle n v said
KindAnswer chronicle n v Seals lines said = IsSealed (chronicle.role_at n v) (chronicle.open_at n v) said
KindAnswer chronicle n v Trims lines said = IsTrimmed (chronicle.disk_at n v) said
KindAnswer chronicle n v Takes lines said = IsTaken n v lines said
KindAnswer chronicle n v Saves lines said = IsNotedAt chronicle n v said × IsAppended (chronicle.disk_at n v) said
KindAnswer chronicle n v Counts lines said = IsSaved (chronicle.disk_at n v) said

-- a line of a script, after what was read, by the lines that its group has and by its answer. Each verb has a row of its own, here or in its kind
abbrev pub LawfulAnswer : Chronicle → Verb → List Event → Answer → Type 0
LawfulAnswer chronicle (verb.Node n) lines said = IsCarriedOut said
LawfulAnswer chronicle (verb.Link l m n v buffer takeover) lines said = IsLinked chronicle.dial_of l n v said
LawfulAnswer chronicle (verb.AtNode n (node_verb.Clock nanos)) lines said = IsCarriedOut said
LawfulAnswer chronicle (verb.AtNode n (node_verb.Stop call out)) lines said = IsCarriedOut said
LawfulAnswer chronicle (verb.AtNode n (node_verb.Fail call)) lines said = IsCarriedOut said
LawfulAnswer chronicle (verb.AtNode n (node_verb.Crash out)) lines said = IsCrashed (conns_lines chronicle.conn_at lines) n said
LawfulAnswer chronicle (verb.AtNode n (node_verb.Start uuids)) lines said = IsStarted chronicle n uuids lines said
LawfulAnswer chronicle (verb.AtVb n v what) lines said = KindAnswer chronicle n v (vb_kind what) lines said
LawfulAnswer chronicle (verb.AtClient n c what) lines said = ClientAnswer (chronicle.conn_at n c) what lines said
LawfulAnswer chronicle (verb.AtLink l (link_verb.Up wanted)) lines said = IsMoved (chronicle.dial_of l) wanted said
LawfulAnswer chronicle (verb.AtLink l (link_verb.Down wanted)) lines said = IsTakenDown wanted (back_of chronicle l) (closed_of_dial chronicle (chronicle.dial_of l)) (arm_of_dial chronicle (chronicle.dial_of l)) lines said × IsOverIfNo (chronicle.dial_of l) said
LawfulAnswer chronicle (verb.AtLink l (link_verb.Pump wanted)) lines said = IsPumped (chronicle.dial_of l) wanted lines said
LawfulAnswer chronicle (verb.AtLink l link_verb.Drop) lines said = IsDropped chronicle l said
LawfulAnswer chronicle (verb.AtLink l link_verb.Cut) lines said = IsCut (chronicle.dial_of l) said
