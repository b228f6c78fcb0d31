-- lines that a checker reads, to be judged by hand
use Rattle.std.specs.Prelude.{ℕ, List, [], ◌∷◌, ◌++◌, Option}
use Rattle.durability.specs.Chains.{Members}
use Rattle.vb_events.specs.declared.event.Event.{Event}
use Rattle.vb_events.specs.declared.event.Group.{Group}
use Rattle.vb_types.specs.declared.change.Change.{Change}
use Rattle.vb_types.specs.declared.change.Level.{Level}
use Rattle.vb_types.specs.declared.role.Role.TheVariants as role
use Rattle.transcript_law.specs.Alone.{first_groups}
use Rattle.transcript_law.specs.Checked.{CheckedFrom}
use Rattle.transcript_law.specs.Chronicles.{after_lines}
use Rattle.transcript_law.specs.AnswerRows.{awaiting}
use Rattle.transcript_law.specs.ClientAskRows.{serving, unopened}
use Rattle.transcript_law.specs.ClientStreamRows.{holding, knows, with_streams}
use Rattle.transcript_law.specs.ClientStreams.{ClientStream}
use Rattle.transcript_law.specs.Commits.{chained_known, commit_lines, count_lines, prepared_known, saved_known}
use Rattle.transcript_law.specs.Transcripts.{group_done, shown_with_change, value_lines}

-- the transcript of one set, whose last group has this number
abbrev pub last_numbered : ℕ → List Group
last_numbered number = first_groups 4 ++ group_done number (shown_with_change role.Active 5 1 0 (value_lines (8 ∷ []))) ∷ []

-- the commit of a prepare of this level passes, when the vBucket got this chain, so much counts as saved there, and it counts these acknowledgements
abbrev pub PassesCommit : Level → Members → ℕ → List (ℕ × ℕ) → Type 0
PassesCommit how others saved acks = CheckedFrom (after_lines (saved_known (chained_known (prepared_known how) others) saved) (count_lines acks)) commit_lines

-- where each vBucket holds these changes, and the client's open connection has these streams, the lines pass
abbrev pub PassesPut : List Change → (ℕ → Option ClientStream) → List Event → Type 0
PassesPut changes streams lines = CheckedFrom (record (holding changes changes) { clients_at = knows (with_streams streams) }) lines

-- where the client sent these bytes, too
abbrev pub PassesTo : List Change → List ℕ → List Event → Type 0
PassesTo changes bytes lines = CheckedFrom (serving changes (unopened bytes)) lines

abbrev pub PassesAwaited : List Change → List ℕ → List Event → Type 0
PassesAwaited changes bytes lines = CheckedFrom (awaiting (serving changes (unopened bytes))) lines
