-- a script that is made is one that could be read
use Rattle.std.proofs.Common.{ℕ, ◌<◌, ◌^◌, length, arith}
use Rattle.node_world.specs.World.{groups}
use Rattle.script_gen.specs.Scripts.{gen_script}
use Rattle.script_gen.specs.Texts.{gen_text}
use Rattle.script_gen.proofs.Lines.{lines_stand}
use Rattle.script_gen.proofs.Spelled.{scripts_are_text}
use Rattle.transcript_law.specs.{Checked.{Checked}, Lawfulness.{Lawful}}
use Rattle.transcript_law.specs.Prefixes.{AreFollowed, known_of, world_of}
use Rattle.transcript_law.proofs.Laws.{read_is_lawful, read_is_followed, read_passes}

pub made_is_lawful : (seed count : ℕ) → count < 2 ^ 32 → Lawful (gen_script seed count) (groups (gen_script seed count))
made_is_lawful seed count small = read_is_lawful (gen_text seed count) (gen_script seed count) (scripts_are_text seed count small)

pub made_passes : (seed count : ℕ) → count < 2 ^ 32 → Checked (gen_script seed count) (groups (gen_script seed count))
made_passes seed count small = read_passes (gen_text seed count) (gen_script seed count) (scripts_are_text seed count small)

pub made_is_followed : (seed count : ℕ) → count < 2 ^ 32 → AreFollowed (known_of (gen_script seed count)) (world_of (gen_script seed count))
made_is_followed seed count small = read_is_followed (gen_text seed count) (gen_script seed count) (scripts_are_text seed count small)

pub made_is_short : (seed count : ℕ) → count < 2 ^ 32 → length (gen_script seed count) < 2 ^ 34
made_is_short seed count small = omega (arith, (lines_stand seed count).many, small)
