use Rattle.std.proofs.Common.{◌≡◌, ◌++◌, map, drop}
use Rattle.std.specs.Option.{option_map}
use Rattle.script_text.specs.Grammar.{members_of}
use Rattle.script_text.proofs.line.members.Given as goal

abbrev pub invariant-loop-word : goal.invariant-loop-word
invariant-loop-word l =
    members_of (map (λ word. word.now) l.words) ≡ option_map (λ more. l.members ++ more) (members_of (map (λ word. word.now) (drop l.word-index l.words)))
