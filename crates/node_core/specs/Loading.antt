-- what a load makes of the records that the disks of a node tell
use Rattle.std.specs.Prelude.{ℕ, false, true, nat_lt, Bool, List, [], ◌∷◌, ◌++◌, length, take, zip, fold, flat_map, if◌then◌else◌, Option, Some, None}
use Rattle.branch_model.specs.Journals.{role_of}
use Rattle.branch_model.specs.Logs.{log_limit}
use Rattle.disk_journals.specs.Books.{Book}
use Rattle.journal_points.specs.Points.{or_dead, saved}
use Rattle.journal_points.specs.declared.saved.Saved.{Saved}
use Rattle.vb_calls.specs.Flushes.{role_job}
use Rattle.vb_calls.specs.Jobs.{Job, Ended, bind_job}
use Rattle.vb_calls.specs.State.{Plain, is_active, loaded_vb}
use Rattle.vb_calls.specs.States.{States, states_make}
use Rattle.vb_calls.specs.declared.calls.VbAnswer.{VbAnswer}
use Rattle.vb_calls.specs.declared.calls.VbAnswer.TheVariants as answer
use Rattle.vb_calls.specs.declared.calls.VbCall.TheVariants as call
use Rattle.vb_calls.specs.declared.calls.VbReply.{VbReply}
use Rattle.vb_calls.specs.declared.journals.Wrote.{Wrote}
use Rattle.vb_events.specs.declared.event.Answer.TheVariants as line
use Rattle.vb_events.specs.declared.event.Event.{Event}
use Rattle.vb_events.specs.declared.event.Event.TheVariants as event
use Rattle.vb_types.specs.declared.journal.Record.{Record}
use Rattle.node_core.specs.Admin.{noted_answer}
use Rattle.node_core.specs.Calls.{own_lines}
use Rattle.node_core.specs.Flushing.{FlushResult}

-- a vBucket of the node n that starts with this: it has the role, the log and the position that its records tell, and what its batches leave; all up to its position counts as saved. One that was active is dead until it has its new branch. No log has more entries than the limit
abbrev pub loaded_by : ℕ → Saved → Plain
loaded_by n s = loaded_vb n s.role (take log_limit s.log) s.position s.cas s.image

-- a record of this journal stands
abbrev pub is_there : Book → Bool
is_there (v, []) = false
is_there (v, last ∷ older) = true

-- with the vBucket v of these records, unless there is one of that number. One of which no record stands is not there
abbrev pub with_loaded : ℕ → States → ℕ → List Record → States
with_loaded n states v [] = states
with_loaded n states v (last ∷ older) = (states_make states v (loaded_by n (saved (last ∷ older)))).0

-- no vBucket
abbrev pub no_states : States
no_states = λ v. None

-- the vBuckets of the node n that start with these records
abbrev pub loaded_states : ℕ → List Book → States
loaded_states n books = fold (λ states book. with_loaded n states book.0 book.1) no_states books

-- the last role that was written down is active
abbrev pub was_active : Book → Bool
was_active book = is_active (or_dead (role_of book.1))

-- its number, if it was active
abbrev pub active_in : Book → List ℕ
active_in book = if was_active book then book.0 ∷ [] else []

-- the vBuckets that were active, in their order
abbrev pub active_ones : List Book → List ℕ
active_ones books = flat_map active_in books

-- there are too few ids for their new branches
abbrev pub are_short : List Book → List ℕ → Bool
are_short books ids = nat_lt (length ids) (length (active_ones books))

-- each of them, with the id of its new branch. Ids that are left over are not used
abbrev pub starts_of : List Book → List ℕ → List (ℕ × ℕ)
starts_of books ids = zip (active_ones books) ids

-- the line of the new branch of the vBucket v of the node n. There is none of its role
abbrev pub branch_in : ℕ → ℕ → VbAnswer → List Event
branch_in n v (answer.Branch uuid parent fork high) = event.Branch n v uuid parent fork high ∷ []
branch_in n v other = []

-- and behind it the changes that the vBucket makes at once
abbrev pub branch_lines_of_reply : ℕ → ℕ → Option VbReply → List Event
branch_lines_of_reply n v None = []
branch_lines_of_reply n v (Some reply) = branch_in n v reply.answer ++ own_lines n v reply

-- what is told of a vBucket that took its new branch, and of its record: where that could not be appended, this is the answer
abbrev pub start_result : ℕ → ℕ → Option VbReply × Wrote → FlushResult
start_result n v (reply, wrote) = record { events = branch_lines_of_reply n v reply; answer = noted_answer wrote line.Ok; resolved = [] }

-- a vBucket of the node n that was active takes its new branch, which is written down; it stays active where its record could not be appended
abbrev pub start_job : ℕ → ℕ → ℕ → Job FlushResult
start_job n v uuid = bind_job (role_job v (call.Promote uuid)) (λ made. Ended (start_result n v made))
