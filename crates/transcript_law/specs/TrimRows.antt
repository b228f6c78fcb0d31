-- trims and drops, to be judged by hand
use Rattle.std.specs.Prelude.{ℕ, true, [], ◌∷◌}
use Rattle.script_text.specs.declared.verb.LinkVerb.TheVariants as link_verb
use Rattle.script_text.specs.declared.verb.Verb.TheVariants as verb
use Rattle.script_text.specs.declared.verb.VbVerb.TheVariants as vb_verb
use Rattle.vb_events.specs.declared.event.Answer.{Answer}
use Rattle.transcript_law.specs.BoundRows.{LawfulHere}
use Rattle.transcript_law.specs.Chronicles.{Chronicle, after_group, blank_disk, empty_chronicle}
use Rattle.transcript_law.specs.Contrary.{after_both_dead}
use Rattle.transcript_law.specs.Followers.{after_both}
use Rattle.transcript_law.specs.UndoneRows.{puts_end}

-- what was read when each vBucket is there, and counts all up to this seqno as saved
abbrev pub saved_there : ℕ → Chronicle
saved_there seq = record empty_chronicle { disk_at = λ n v. record blank_disk { there = true; saved = seq } }

-- a trim of the vBucket 0 of the node 0 is answered so, and tells of nothing
abbrev pub LawfulTrim : Chronicle → Answer → Type 0
LawfulTrim chronicle said = LawfulHere chronicle (verb.AtVb 0 0 vb_verb.Trim) ([], said)

-- and a drop of the link 1
abbrev pub LawfulDrop : Chronicle → Answer → Type 0
LawfulDrop chronicle said = LawfulHere chronicle (verb.AtLink 1 link_verb.Drop) ([], said)

-- what was read when the end of the link's stream was put
abbrev pub ended_stream : Chronicle
ended_stream = after_group (after_both_dead after_both) (verb.AtLink 1 (link_verb.Pump 9)) puts_end.0 puts_end.1
