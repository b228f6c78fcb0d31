-- lines of roles, rollbacks and ends of streams, to be judged by hand
use Rattle.std.specs.Prelude.{ℕ, List, [], ◌∷◌, None}
use Rattle.vb_types.specs.declared.stream.AskAnswer.TheVariants as ask_answer
use Rattle.vb_events.specs.declared.event.Event.{Event}
use Rattle.vb_events.specs.declared.event.Event.TheVariants as event
use Rattle.vb_events.specs.declared.event.StreamName.TheVariants as name
use Rattle.vb_types.specs.declared.role.LogEntry.{LogEntry}
use Rattle.vb_types.specs.declared.role.Role.{Role}
use Rattle.vb_types.specs.declared.role.Role.TheVariants as role
use Rattle.transcript_law.specs.Chronicles.{Chronicle, empty_chronicle, after_lines}
use Rattle.transcript_law.specs.Followers.{log_of, made_from, made_ask_lines, marker_line, next_item_line}
use Rattle.transcript_law.specs.Transcripts.{active_vb_lines}

-- what was read when a follower of the branch 5, at 2, was sent back to 1, where the branch 7 was made
abbrev pub sent_back : Chronicle
sent_back = after_lines (made_from 5) (made_ask_lines 2 (ask_answer.Roll 1))

-- it goes back to this seqno, from where it was sent
abbrev pub rolled_lines : ℕ → ℕ → List Event
rolled_lines named to = event.Rolled 1 0 named to ∷ []

-- the end of the link's stream
abbrev pub stream_end_lines : List Event
stream_end_lines = event.Finished (name.Link 1) 2 ∷ []

-- the second change, in its snapshot
abbrev pub rest_lines : List Event
rest_lines = marker_line 0 2 ∷ next_item_line ∷ []

-- the failover log of the vBucket 0
abbrev pub log_lines : List LogEntry → List Event
log_lines log = event.Logged 0 0 log ∷ []

-- its log after the branch 7 was made at 1
abbrev pub made_log : List LogEntry
made_log = record { uuid = 7; seq = 1 } ∷ log_of 5

-- it is shown in this role and with this newest branch, with nothing
abbrev pub empty_uuid : Role → ℕ → List Event
empty_uuid said uuid = event.Shown 0 0 said uuid 0 0 0 0 0 ∷ []

abbrev pub empty_shown : Role → List Event
empty_shown said = empty_uuid said 5

-- what was read when the vBucket 0 was made active, and when it was dead then
abbrev pub after_active : Chronicle
after_active = after_lines empty_chronicle (active_vb_lines 0 5)

abbrev pub after_dead : Chronicle
after_dead = after_lines after_active (event.Role 0 0 role.Dead ∷ [])

-- and when neither its role nor its log is known any more
abbrev pub forgotten : Chronicle
forgotten = record after_dead { role_at = λ n v. None; log_at = λ n v. None }
