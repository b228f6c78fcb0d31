-- the lines that show vBuckets, and what is told of a script that was made, in letters
use Rattle.std.specs.Prelude.{◌≡◌, ◌⊎◌, ℕ, List, [], ◌∷◌, codes}
use Rattle.node_world.specs.World.{PlainWorld, groups, world_step}
use Rattle.script_text.specs.Lines.{ended}
use Rattle.script_text.specs.Transcript.{event_text}
use Rattle.script_text.specs.declared.verb.ScriptLine.{ScriptLine}
use Rattle.script_text.specs.declared.verb.Verb.TheVariants as verb
use Rattle.script_text.specs.declared.verb.VbVerb.TheVariants as vb_verb
use Rattle.vb_events.specs.declared.event.Answer.TheVariants as answer
use Rattle.vb_events.specs.declared.event.Cause.{Cause}
use Rattle.vb_events.specs.declared.event.Event.{Event}
use Rattle.vb_events.specs.declared.event.Event.TheVariants as event
use Rattle.vb_events.specs.declared.event.Group.{Group}
use Rattle.vb_types.specs.declared.change.Level.TheVariants.{Majority}
use Rattle.vb_types.specs.declared.role.Role.{Role}
use Rattle.vb_types.specs.declared.role.Role.TheVariants as role
use Rattle.dcp_main.specs.Summaries.{last_two, shown_lines, summary_of}

-- the line was carried out, and has one `shown` line, which is of the vBucket v of the node n
pub record ShowsOne (n v : ℕ) (g : Group) : Type 0 where
  pub role : Role
  pub uuid : ℕ
  pub at : ℕ
  pub ss : ℕ
  pub se : ℕ
  pub docs : ℕ
  pub preps : ℕ
  pub answer : g.answer ≡ answer.Ok
  pub one : shown_lines g ≡ ended (event_text (event.Shown n v role uuid at ss se docs preps))

-- the line was refused, and has none
abbrev pub ShowsNone : Group → Type 0
ShowsNone g = (why : Cause) × (g.answer ≡ answer.No why) × (shown_lines g ≡ [])

-- so is each line that shows the vBucket v of the node n
abbrev pub ShowsIfThere : PlainWorld → ℕ → ℕ → ℕ → Type 0
ShowsIfThere w number n v =
    let g = (world_step w (record { line = number; verb = verb.AtVb n v vb_verb.Show })).1 in ShowsOne n v g ⊎ ShowsNone g

-- the last two lines of a script were carried out, and show the vBucket 0 of the node 0, and that of the node 1
pub record BothShown (script : List ScriptLine) : Type 0 where
  pub first : Group
  pub second : Group
  pub last : last_two (groups script) ≡ first ∷ second ∷ []
  pub active : ShowsOne 0 0 first
  pub replica : ShowsOne 1 0 second

-- a group of this line, which was carried out and told this
abbrev pub told_at : ℕ → List Event → Group
told_at line events = record { line = line; events = events; answer = answer.Ok }

-- two vBuckets that are shown, with other lines behind, after a line of a client that was closed
abbrev pub three_groups : List Group
three_groups =
    told_at 1 (event.Closed 2 3 ∷ [])
    ∷ told_at 2 (event.Shown 4 5 role.Active 6 7 8 9 10 11 ∷ event.Prepared [] 12 Majority ∷ [])
    ∷ told_at 13 (event.Shown 14 15 role.Replica 16 17 18 19 20 21 ∷ event.Closed 22 23 ∷ event.Closed 24 25 ∷ [])
    ∷ []

-- four lines tell of them: as many as are said of the script, twelve of the transcript, and one of each vBucket
abbrev pub ThreeTold : Type 0
ThreeTold = summary_of 31 three_groups ≡ codes "script 31\ntranscript 12\nshown 4 5 active 6 7 8 9 10 11\nshown 14 15 replica 16 17 18 19 20 21\n"

-- of no group, of one, and of more than two
abbrev pub FewTold : Type 0
FewTold = (summary_of 0 [] ≡ codes "script 0\ntranscript 0\n")
    × (summary_of 1 (told_at 1 (event.Shown 4 5 role.Dead 6 7 8 9 10 11 ∷ []) ∷ []) ≡ codes "script 1\ntranscript 3\nshown 4 5 dead 6 7 8 9 10 11\n")
    × (summary_of 4 (told_at 1 (event.Shown 4 5 role.Dead 6 7 8 9 10 11 ∷ []) ∷ told_at 2 [] ∷ told_at 3 [] ∷ []) ≡ codes "script 4\ntranscript 7\n")
