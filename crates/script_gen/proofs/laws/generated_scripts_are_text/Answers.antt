use Rattle.script_text.proofs.Fitting.{lines_fit}
use Rattle.script_gen.specs.Scripts.{gen_script}
use Rattle.script_gen.specs.Texts.{gen_text}
use Rattle.script_gen.proofs.Spelled.{scripts_are_text}
use Rattle.script_gen.proofs.laws.generated_scripts_are_text.Goals as goal

pub returns : goal.returns
returns c = record { text = scripts_are_text; fits = λ seed count small. lines_fit (gen_text seed count) (gen_script seed count) (scripts_are_text seed count small) }
