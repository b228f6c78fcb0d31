-- lines of batches, of what counts as saved, and of rollbacks to it, to be judged by hand
use Rattle.std.specs.Prelude.{ℕ, true, false, List, [], ◌∷◌, map, None}
use Rattle.vb_events.specs.declared.event.Event.{Event}
use Rattle.vb_events.specs.declared.event.Event.TheVariants as event
use Rattle.vb_types.specs.declared.change.Change.{Change}
use Rattle.vb_types.specs.declared.journal.Record.{Record}
use Rattle.vb_types.specs.declared.journal.Record.TheVariants as noted
use Rattle.vb_types.specs.declared.position.Position.{Position}
use Rattle.transcript_law.specs.Chronicles.{Flushing, Idle, Taken, Chronicle, known_batch}
use Rattle.transcript_law.specs.Followers.{log_of}

-- at a seqno, in the snapshot from 0 up to `end`
abbrev pub within : ℕ → ℕ → Position
within end at = record { ss = 0; se = end; at = at }

-- a batch of that is on its way
abbrev pub taken : ℕ → ℕ → Flushing
taken end at = Taken (known_batch (within end at) [])

-- all up to there was taken: to where the batch on its way ends, or else the last one that stands
abbrev pub taken_to : Flushing → List Position → ℕ
taken_to (Taken b) stood = b.position.at
taken_to other [] = 0
taken_to other (p ∷ ps) = p.at

-- what was read, where this batch is on its way, these were written down, the last first, and all up to here counts as saved
abbrev pub with_written : Chronicle → Flushing → List Position → ℕ → Chronicle
with_written chronicle flushing stood saved = record chronicle { disk_at = λ n v. record { flushing = flushing; book = map (λ p. noted.Rows (known_batch p [])) stood; late = None; saved = saved; taken = taken_to flushing stood; there = true; closed = false } }

-- and where none is on its way
abbrev pub with_stood : Chronicle → List Position → ℕ → Chronicle
with_stood chronicle stood saved = with_written chronicle Idle stood saved

-- the replica takes a batch of so many changes up to a seqno, in the snapshot from 0 up to `end`
abbrev pub batch_lines : ℕ → ℕ → ℕ → List Event
batch_lines end at count = event.Batch 1 0 0 end at count ∷ []

-- its numbers: one span of two items, so many cursors, what counts as saved, and its last seqno
abbrev pub stat_lines : ℕ → ℕ → ℕ → List Event
stat_lines cursors saved high = event.Stat 1 0 1 2 cursors saved high ∷ []

-- a journal of one batch, a whole snapshot up to 1, with these changes
abbrev pub point_noted : List Change → List Record
point_noted items = noted.Rows (record { position = within 1 1; cas = 1; log = log_of 5; items = items }) ∷ []
