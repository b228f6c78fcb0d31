use Rattle.std.proofs.Common.{◌≡◌, ◌++◌, drop}
use Rattle.std.specs.Prelude.{string_bytes}
use Rattle.storm_model.specs.Texts.{lines_text}
use Rattle.storm.proofs.top.text_of.Given as goal

abbrev pub invariant-loop-line : goal.invariant-loop-line
invariant-loop-line l = (l.v ≡ l.line-index) × (lines_text 0 l.lines ≡ string_bytes l.text ++ lines_text l.v (drop l.line-index l.lines))
