-- lines that are bound to be refused, each by itself, to be judged by hand
use Rattle.std.specs.Prelude.{◌≡◌, List, [], ◌∷◌}
use Rattle.script_text.specs.declared.verb.Verb.{Verb}
use Rattle.vb_disk.specs.declared.made.Outcome.TheVariants.{Old}
use Rattle.vb_events.specs.declared.event.Answer.{Answer}
use Rattle.vb_events.specs.declared.event.Answer.TheVariants as answer
use Rattle.vb_events.specs.declared.event.Cause.{Cause}
use Rattle.vb_events.specs.declared.event.EndReason.TheVariants as reason
use Rattle.vb_events.specs.declared.event.Event.{Event}
use Rattle.vb_events.specs.declared.event.Event.TheVariants as event
use Rattle.transcript_law.specs.Chronicles.{Chronicle, after_crash, after_dial, after_lines, empty_chronicle}
use Rattle.transcript_law.specs.Crashes.{Said, numbered, groups_from_number}
use Rattle.transcript_law.specs.Lawfulness.{LawfulGroups}

-- what was read when the node 0 alone crashed
abbrev pub zero_down : Chronicle
zero_down = after_crash empty_chronicle 0 Old

-- what was read when the link 1 was dialed, from the node 0 to the vBucket 0 of the node 1, and when it was over then
abbrev pub one_dialed : Chronicle
one_dialed = after_dial empty_chronicle 1 0 1 0 answer.Ok

abbrev pub one_over : Chronicle
one_over = after_lines one_dialed (event.Ended 1 reason.Cut ∷ [])

-- this line comes, of which this is told
abbrev pub LawfulHere : Chronicle → Verb → Said → Type 0
LawfulHere chronicle line said = LawfulGroups chronicle (numbered 1 (line ∷ [])) (groups_from_number 1 (said ∷ []))

-- a line is lawful where it is refused for this cause and tells of nothing, and in no other way
pub record IsRefusedFor (chronicle : Chronicle) (why : Cause) (line : Verb) : Type 0 where
  pub refused : LawfulHere chronicle line ([], answer.No why)
  pub another : (said : Said) → (said.1 ≡ answer.No why → ⊥) → LawfulHere chronicle line said → ⊥
  pub tells : (first : Event) (lines : List Event) (said : Answer) → LawfulHere chronicle line (first ∷ lines, said) → ⊥

-- the same for one of two causes
pub record IsRefusedForOne (chronicle : Chronicle) (why other : Cause) (line : Verb) : Type 0 where
  pub refused : LawfulHere chronicle line ([], answer.No why)
  pub refused_so : LawfulHere chronicle line ([], answer.No other)
  pub another : (said : Said) → (said.1 ≡ answer.No why → ⊥) → (said.1 ≡ answer.No other → ⊥) → LawfulHere chronicle line said → ⊥
  pub tells : (first : Event) (lines : List Event) (said : Answer) → LawfulHere chronicle line (first ∷ lines, said) → ⊥
