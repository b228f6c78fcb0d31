-- the entries so far
use Rattle.std.proofs.Common.{◌≡◌, map, take}
use Rattle.script_text.specs.Taken.{as_entry}
use Rattle.script_text.proofs.read_words.log.Given as goal

abbrev pub invariant-loop-part : goal.invariant-loop-part
invariant-loop-part l = l.log ≡ map (λ part. as_entry part.now) (take l.part-index l.part-items)
