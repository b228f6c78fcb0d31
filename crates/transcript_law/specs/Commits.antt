-- a commit to be judged, by what was read before it, and one that was left out
use Rattle.std.specs.Prelude.{◌≡◌, ℕ, true, false, List, [], ◌∷◌, ◌++◌, map, Some, None}
use Rattle.durability.specs.Chains.{Members}
use Rattle.script_text.specs.declared.verb.Verb.TheVariants as verb
use Rattle.script_text.specs.declared.verb.VbVerb.TheVariants as vb_verb
use Rattle.vb_types.specs.declared.change.Act.TheVariants as act
use Rattle.vb_types.specs.declared.change.Change.{Change}
use Rattle.vb_types.specs.declared.change.Level.{Level}
use Rattle.vb_types.specs.declared.change.Level.TheVariants as level
use Rattle.vb_events.specs.declared.event.Answer.TheVariants as answer
use Rattle.vb_events.specs.declared.event.Cause.TheVariants as cause
use Rattle.vb_events.specs.declared.event.Event.{Event}
use Rattle.vb_events.specs.declared.event.Event.TheVariants as event
use Rattle.vb_events.specs.declared.event.StreamName.TheVariants as name
use Rattle.vb_types.specs.declared.role.Role.TheVariants as role
use Rattle.vb_disk.specs.declared.made.Outcome.TheVariants.{Old}
use Rattle.transcript_law.specs.Chronicles.{Chronicle, after_crash, ahead, after_lines, empty_chronicle}
use Rattle.transcript_law.specs.Lawfulness.{LawfulFrom}
use Rattle.transcript_law.specs.Prefixes.{FollowsBranch}
use Rattle.vb_calls.specs.{Plain.{Plain}, State.{is_active}}
use Rattle.transcript_law.specs.Transcripts.{active_vb_lines, first_doc}

-- the key 9 is prepared, at this level, and committed
abbrev pub prepare_of : Level → Change
prepare_of how = record { seq = 1; key = 9 ∷ []; act = act.Prepare how (first_doc 1 (6 ∷ [])) false }

abbrev pub the_commit : Change
the_commit = record { seq = 2; key = 9 ∷ []; act = act.Commit 1 (first_doc 1 (6 ∷ [])) false }

-- what was read when the active vBucket 0 of the node 0 prepared it
abbrev pub prepared_known : Level → Chronicle
prepared_known how = after_lines empty_chronicle (active_vb_lines 0 5 ++ event.Changed 0 0 5 (prepare_of how) ∷ [])

-- and then got this chain, and counts so much as saved
abbrev pub chained_known : Chronicle → Members → Chronicle
chained_known before others = ahead before (verb.AtVb 0 0 (vb_verb.Chain others)) answer.Ok

abbrev pub saved_known : Chronicle → ℕ → Chronicle
saved_known before saved = ahead before (verb.AtVb 0 0 vb_verb.Done) (answer.Number saved)

-- the lines by which it counts these acknowledgements, each of a node, up to a seqno
abbrev pub count_lines : List (ℕ × ℕ) → List Event
count_lines acks = map (λ a. event.Counted (name.Link 1) 0 0 a.0 a.1) acks

-- the commit is lawful then
abbrev pub Commits : Level → Members → ℕ → List (ℕ × ℕ) → Type 0
Commits how others saved acks = LawfulFrom (after_lines (saved_known (chained_known (prepared_known how) others) saved) (count_lines acks)) (event.Changed 0 0 5 the_commit ∷ [])

-- the vBucket, which counted the node 1, is dead, and then active on the branch 7
abbrev pub risen_anew : Chronicle
risen_anew = after_lines (chained_known (prepared_known level.Majority) (Some 1 ∷ [])) (count_lines ((1, 1) ∷ []) ++ event.Role 0 0 role.Dead ∷ event.Branch 0 0 7 (Some 5) 1 1 ∷ event.Role 0 0 role.Active ∷ [])

-- the same without a line of the role, as of a node that starts
abbrev pub started_anew : Chronicle
started_anew = record (after_lines (chained_known (prepared_known level.Majority) (Some 1 ∷ [])) (count_lines ((1, 1) ∷ []) ++ event.Branch 0 0 7 (Some 5) 1 1 ∷ [])) { role_at = λ n v. Some (Some role.Active) }

-- the commit on that branch
abbrev pub commit_anew : List Event
commit_anew = event.Changed 0 0 7 the_commit ∷ []

-- the commit on its own branch
abbrev pub commit_lines : List Event
commit_lines = event.Changed 0 0 5 the_commit ∷ []

-- what was read when another vBucket of its node counted the node 1 in its place
abbrev pub counted_elsewhere : Chronicle
counted_elsewhere = after_lines (chained_known (prepared_known level.Majority) (Some 1 ∷ [])) (event.Counted (name.Link 1) 0 1 1 1 ∷ [])

-- when it counted the node 1, and got its chain then
abbrev pub chained_later : Chronicle
chained_later = chained_known (after_lines (prepared_known level.Majority) (count_lines ((1, 1) ∷ []))) (Some 1 ∷ [])

-- and when a line that sets a chain was refused
abbrev pub unchained : Chronicle
unchained = ahead (prepared_known level.Majority) (verb.AtVb 0 0 (vb_verb.Chain (Some 1 ∷ []))) (answer.No cause.ChainBad)

-- what was read when it counted the node 1, and was dead then
abbrev pub counted_dead : Chronicle
counted_dead = after_lines (chained_known (prepared_known level.Majority) (Some 1 ∷ [])) (count_lines ((1, 1) ∷ []) ++ event.Role 0 0 role.Dead ∷ [])

-- it is active again, with no branch
abbrev pub active_again : List Event
active_again = event.Role 0 0 role.Active ∷ []

-- what was read then, when it got this chain
abbrev pub risen_again : Members → Chronicle
risen_again others = chained_known (after_lines counted_dead active_again) others

-- what was read when it had a chain, and its node crashed
abbrev pub crashed_chained : Chronicle
crashed_chained = after_crash (chained_known (prepared_known level.Majority) (Some 1 ∷ [])) 0 Old

-- the vBucket is active with that prepare as the lowest one that waits, and follows its branch by what was read with this chain, so much counted as saved and these acknowledgements
abbrev pub Leaves : Level → Members → ℕ → List (ℕ × ℕ) → Type 0
Leaves how others saved acks =
    (vb : Plain) × (is_active vb.role ≡ true) × (vb.position.at ≡ 1) × (vb.waiting ≡ record { key = 9 ∷ []; seq = 1; level = how; deadline = None; waiter = 0 } ∷ [])
    × FollowsBranch (after_lines (saved_known (chained_known (prepared_known how) others) saved) (count_lines acks)) 0 0 vb
