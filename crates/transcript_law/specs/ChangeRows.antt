-- changes that a vBucket makes of its own, to be judged, by what was read before them
use Rattle.std.specs.Prelude.{ℕ, ◌-◌, ◌^◌, Bool, true, false, if◌then◌else◌, List, [], ◌∷◌, Option}
use Rattle.mcbp_frame.specs.Spelling.{spelling}
use Rattle.mcbp_frame.specs.declared.frame.TheConstants.{FRAMED_REQUEST}
use Rattle.script_text.specs.declared.verb.NodeVerb.TheVariants as node_verb
use Rattle.script_text.specs.declared.verb.VbVerb.TheVariants as vb_verb
use Rattle.script_text.specs.declared.verb.Verb.{Verb}
use Rattle.script_text.specs.declared.verb.Verb.TheVariants as verb
use Rattle.vb_events.specs.declared.event.Event.{Event}
use Rattle.vb_events.specs.declared.event.Event.TheVariants as event
use Rattle.vb_types.specs.declared.change.Act.{Act}
use Rattle.vb_types.specs.declared.change.Act.TheVariants as act
use Rattle.vb_types.specs.declared.change.Change.{Change}
use Rattle.vb_types.specs.declared.change.Level.TheVariants as level
use Rattle.vb_types.specs.declared.doc.Doc.{Doc}
use Rattle.transcript_law.specs.Chronicles.{Chronicle, after_lines, alone}
use Rattle.transcript_law.specs.Commits.{prepared_known}
use Rattle.transcript_law.specs.Crashes.{groups_from_number, numbered, ok}
use Rattle.transcript_law.specs.Lawfulness.{LawfulFrom, LawfulGroups}
use Rattle.transcript_law.specs.Rollbacks.{after_active}
use Rattle.transcript_law.specs.ClientStreams.{blank_client, with_client, with_sent_bytes}
use Rattle.transcript_law.specs.StreamsTold.{blank_asking}
use Rattle.transcript_law.specs.Transcripts.{change_line, set_frame}

-- a document with this CAS and this revision
abbrev pub stamped : ℕ → ℕ → Doc
stamped cas rev = record { value = 6 ∷ []; cas = cas; rev = rev; flags = 0; expiry = 0; datatype = 0 }

-- the vBucket 0 of the node 0 makes this change of a key of one byte on the branch 5
abbrev pub own_change : ℕ → ℕ → Act → Change
own_change seq key a = record { seq = seq; key = key ∷ []; act = a }

abbrev pub own_lines : ℕ → ℕ → Act → List Event
own_lines seq key a = event.Changed 0 0 5 (own_change seq key a) ∷ []

-- what was read when it set the key 7, with the CAS 1 and the revision 1
abbrev pub set_known : Chronicle
set_known = after_lines after_active (change_line 0 ∷ [])

-- when it removed that key then, with the CAS 2
abbrev pub removed_known : Chronicle
removed_known = after_lines set_known (own_lines 2 7 (act.Remove 2 2))

-- when it prepared the key 9 instead, with the CAS 1 and the seqno 1
abbrev pub waiting_known : Chronicle
waiting_known = prepared_known level.Majority

-- when a line gives up the prepares of a vBucket, while its node's clock shows so much, and that prepare was made when it showed this
abbrev pub given_known : Option (ℕ × ℕ) → ℕ → ℕ → Chronicle
given_known ticks before clock = record waiting_known { ticks = ticks; clock_at = λ n. clock; counts_at = λ n v. record (alone 0) { times = (1, before) ∷ [] } }

-- the prepare is given up then
abbrev pub abort_lines : List Event
abort_lines = own_lines 2 9 (act.Abort 1)

abbrev pub Aborts : Option (ℕ × ℕ) → ℕ → ℕ → Type 0
Aborts ticks before clock = LawfulFrom (given_known ticks before clock) abort_lines

-- the vBucket v of the node 0 gives up what waits too long, behind a line that sets the clock of the node n
abbrev pub clocks : ℕ → ℕ → Verb
clocks n nanos = verb.AtNode n (node_verb.Clock nanos)

abbrev pub gives_up : ℕ → Verb
gives_up v = verb.AtVb 0 v vb_verb.Tick

abbrev pub AbortsBehind : ℕ → ℕ → ℕ → Type 0
AbortsBehind n nanos v = LawfulGroups waiting_known (numbered 1 (clocks n nanos ∷ gives_up v ∷ [])) (groups_from_number 1 (ok [] ∷ ok abort_lines ∷ []))

-- when it gave that prepare up
abbrev pub aborted_known : Chronicle
aborted_known = after_lines waiting_known (own_lines 2 9 (act.Abort 1))

-- when it prepared the removal of the key 7 behind the set, with the CAS 2 and the seqno 2
abbrev pub removing_known : Chronicle
removing_known = after_lines set_known (own_lines 2 7 (act.Prepare level.Majority (stamped 2 2) true))

-- the greatest number of 64 bits
abbrev pub greatest : ℕ
greatest = 2 ^ 64 - 1

-- and when it set the key 7, as if with these greatest numbers
abbrev pub greatest_known : Chronicle
greatest_known = record set_known { held = λ n v. own_change 1 7 (act.Set (stamped greatest greatest)) ∷ [] }

-- a prepare of a set, and of a removal, with this CAS and this revision
abbrev pub prepares : ℕ → ℕ → Bool → Act
prepares cas rev deleted = act.Prepare level.Majority (record (stamped cas rev) { value = if deleted then [] else 6 ∷ [] }) deleted

-- while the connection 1 of the node 0 asks by these bytes, of which none was answered, and each set that was told is
abbrev pub asking : List ℕ → Chronicle → Chronicle
asking bytes chronicle = record chronicle { clients_at = with_client chronicle.clients_at 0 1 (with_sent_bytes bytes blank_client); made = []; changed = false }

-- and so many durable writes of it were answered before
abbrev pub asking_behind : ℕ → List ℕ → Chronicle → Chronicle
asking_behind count bytes chronicle = record (asking bytes chronicle) { clients_at = with_client chronicle.clients_at 0 1 (record (with_sent_bytes bytes blank_client) { asking = record blank_asking { bytes = bytes; durables = count } }) }

-- or the same connection of the node 1 does
abbrev pub asking_far : List ℕ → Chronicle → Chronicle
asking_far bytes chronicle = record chronicle { clients_at = with_client chronicle.clients_at 1 1 (with_sent_bytes bytes blank_client) }

-- the key 7 is prepared to be set to 6
abbrev pub sets_seven : List Event
sets_seven = own_lines 2 7 (prepares 2 2 false)

-- a durable SET of the key 7 to 6 with the CAS 2, which its document does not have
abbrev pub durably_unfit : List ℕ
durably_unfit = spelling (record (set_frame (7 ∷ []) (6 ∷ [])) { magic = FRAMED_REQUEST; cas = 2; framing = 17 ∷ 1 ∷ [] })

-- a durable SET of the key 7 to 6 at the vBucket 1
abbrev pub durably_beside : List ℕ
durably_beside = spelling (record (set_frame (7 ∷ []) (6 ∷ [])) { magic = FRAMED_REQUEST; vb_or_status = 1; framing = 17 ∷ 1 ∷ [] })
