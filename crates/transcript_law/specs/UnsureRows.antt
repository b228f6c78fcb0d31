-- durable writes of which it is told that nobody knows what became of them, to be judged by hand
use Rattle.std.specs.Prelude.{ℕ, List, [], ◌∷◌}
use Rattle.mcbp_frame.specs.Spelling.{spelling}
use Rattle.mcbp_frame.specs.declared.frame.TheConstants.{FRAMED_REQUEST}
use Rattle.mcbp_kv.specs.declared.opcodes.TheConstants.{SET}
use Rattle.script_text.specs.declared.verb.Verb.{Verb}
use Rattle.vb_events.specs.declared.event.Event.{Event}
use Rattle.vb_types.specs.declared.change.Act.TheVariants as act
use Rattle.vb_types.specs.declared.change.Change.{Change}
use Rattle.vb_types.specs.declared.status.Status.TheVariants as status
use Rattle.transcript_law.specs.AnswerRows.{awaiting, awaiting_by, durably, prepared_line, says, with_count}
use Rattle.transcript_law.specs.BoundRows.{LawfulHere}
use Rattle.transcript_law.specs.ClientAskRows.{resting, serving, unopened}
use Rattle.transcript_law.specs.ClientStreamRows.{committed, pending}
use Rattle.transcript_law.specs.Crashes.{Said}
use Rattle.transcript_law.specs.Lawfulness.{LawfulFrom}
use Rattle.transcript_law.specs.LinesTold.{OwnChange, alone}
use Rattle.transcript_law.specs.Transcripts.{set_frame}

-- a SET of a key of one byte that is to be durable at the level 1 within so many milliseconds
abbrev pub durably_within : ℕ → ℕ → ℕ → List ℕ
durably_within millis key value = spelling (record (set_frame (key ∷ []) (value ∷ [])) { magic = FRAMED_REQUEST; framing = 19 ∷ 1 ∷ 0 ∷ millis ∷ [] })

-- half a minute in nanoseconds, behind which it is given up where no time is asked for
abbrev pub half_a_minute : ℕ
half_a_minute = 30000000000

-- nobody knows what became of a SET
abbrev pub unknown_set : Event
unknown_set = says SET status.SyncWriteAmbiguous

-- ---- changes

-- the prepare of the key 9 is given up
abbrev pub aborted : Change
aborted = record { seq = 3; key = 9 ∷ []; act = act.Abort 2 }

-- the vBucket 0 gave up the prepare of this number and key, when its node's clock showed this
abbrev pub gave_up : ℕ → ℕ → ℕ → OwnChange
gave_up number key clock = record { node = 0; vb = 0; branch = 5; change = record { seq = 3; key = key ∷ []; act = act.Abort number }; clock = clock }

-- or committed it
abbrev pub had_committed : OwnChange
had_committed = record { node = 0; vb = 0; branch = 5; change = committed; clock = 0 }

-- that prepare, when the clock showed this
abbrev pub prepared_when : ℕ → OwnChange
prepared_when clock = record prepared_line { clock = clock }

-- ---- transcripts

-- each vBucket is active, and holds the prepare of a set of the key 9, for which the connection waits, that was told as this; these changes were told before in this group, and it sent these bytes
abbrev pub LawfulToldBy : OwnChange → List OwnChange → List ℕ → List Event → Type 0
LawfulToldBy line made bytes lines = LawfulFrom (record (awaiting_by line (serving pending (unopened bytes))) { made = made }) lines

abbrev pub LawfulTold : List OwnChange → List ℕ → List Event → Type 0
LawfulTold made bytes lines = LawfulToldBy prepared_line made bytes lines

-- each became active anew with all that it holds
abbrev pub LawfulAnew : List ℕ → List Event → Type 0
LawfulAnew bytes lines = LawfulFrom (record (awaiting (serving pending (unopened bytes))) { counts_at = λ n v. alone 2 }) lines

-- each is dead, where so many durable writes of its connection were answered before
abbrev pub LawfulGone : ℕ → List ℕ → List Event → Type 0
LawfulGone count bytes lines = LawfulFrom (awaiting (resting pending (with_count count bytes))) lines

-- where that prepare was told in this group too
abbrev pub LawfulGoneTold : ℕ → List ℕ → List Event → Type 0
LawfulGoneTold count bytes lines = LawfulFrom (record (awaiting (resting pending (with_count count bytes))) { made = prepared_line ∷ [] }) lines

-- or where the prepare was told as this
abbrev pub LawfulGoneBy : OwnChange → List Event → Type 0
LawfulGoneBy line lines = LawfulFrom (awaiting_by line (resting pending (unopened (durably 1 9 6)))) lines

-- half a minute has passed since that prepare, and this line comes, of which this is told
abbrev pub LawfulLate : List ℕ → Verb → Said → Type 0
LawfulLate bytes line said = LawfulHere (record (awaiting (serving pending (unopened bytes))) { clock_at = λ n. half_a_minute; counts_at = λ n v. record (alone 0) { times = (2, 0) ∷ [] } }) line said
