-- how far a script has come that is being generated
use Rattle.std.specs.Prelude.{ℕ, ◌+◌, ◌-◌, ◌%◌, ◌==◌, ◌||◌, if◌then◌else◌, List, [], ◌++◌, drop}
use Rattle.script_text.specs.declared.verb.Verb.{Verb}
use Rattle.script_gen.specs.Writes.{stepped}
use Rattle.script_gen.specs.Scripts.{opening, carrying, closing, writes_from}
use Rattle.script_gen.specs.declared.generator.Part.{Part}
use Rattle.script_gen.specs.declared.generator.Part.TheVariants as part
use Rattle.script_gen.specs.declared.generator.Course.{Course}

-- the verbs of a part
abbrev pub fixed_verbs : Part → List Verb
fixed_verbs part.Opening = opening
fixed_verbs part.Writing = []
fixed_verbs part.Carrying = carrying
fixed_verbs part.Closing = closing

-- what follows behind a part, where so many writes are left, so many were made, and x was the word of the last
abbrev pub behind_part : Part → ℕ → ℕ → ℕ → List Verb
behind_part part.Closing left made x = []
behind_part other left made x = writes_from left made x ++ closing

-- the verbs that are still to come
abbrev pub verbs_left : Course → List Verb
verbs_left c = drop c.given (fixed_verbs c.part) ++ behind_part c.part c.left c.made c.word

-- the part that follows behind write i, where so many are left
abbrev pub part_behind : ℕ → ℕ → Part
part_behind i left = if i % 64 == 0 || left == 0 then part.Carrying else part.Writing

-- after one more write
abbrev pub written : Course → Course
written c = record { part = part_behind (c.made + 1) (c.left - 1); given = 0; left = c.left - 1; made = c.made + 1; word = stepped c.word }
