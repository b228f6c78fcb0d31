-- what is told of a script that was made, in few lines
use Rattle.std.specs.Prelude.{ℕ, ◌+◌, ◌-◌, ◌==◌, if◌then◌else◌, List, [], ◌∷◌, ◌++◌, length, drop, codes, decimal}
use Rattle.std.specs.List.{flat_map}
use Rattle.node_world.specs.World.{groups}
use Rattle.script_text.specs.Lines.{ended}
use Rattle.script_text.specs.Transcript.{event_text, print_of}
use Rattle.script_text.specs.declared.verb.ScriptLine.{ScriptLine}
use Rattle.vb_events.specs.declared.event.Event.{Event}
use Rattle.vb_events.specs.declared.event.Event.TheVariants as event
use Rattle.vb_events.specs.declared.event.Group.{Group}

-- how many lines a text has: each ends with a newline
abbrev pub newlines : List ℕ → ℕ
newlines [] = 0
newlines (b ∷ text) = if b == 10 then 1 + newlines text else newlines text

-- the line of an event where a vBucket was shown, and none of another event
abbrev pub shown_line : Event → List ℕ
shown_line (event.Shown node vb role uuid at ss se docs preps) = ended (event_text (event.Shown node vb role uuid at ss se docs preps))
shown_line other = []

-- the `shown` lines of a group
abbrev pub shown_lines : Group → List ℕ
shown_lines g = flat_map shown_line g.events

-- the last two groups
abbrev pub last_two : List Group → List Group
last_two told = drop (length told - 2) told

-- what is told of so many lines of a script and of its groups: how many the lines are, how many those of the transcript, and the `shown` lines of the last
-- two groups
unfoldable pub summary_of : ℕ → List Group → List ℕ
summary_of lines told =
    codes "script " ++ (decimal lines ++ (codes "\ntranscript " ++ (decimal (newlines (print_of told)) ++ (codes "\n" ++ flat_map shown_lines (last_two told)))))

-- and of a script
abbrev pub summary_text : List ScriptLine → List ℕ
summary_text script = summary_of (length script) (groups script)
