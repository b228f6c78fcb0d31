-- behind each line it is known of the ends of streams that are on their way
use Rattle.std.specs.Prelude.{◌≡◌}
use Rattle.transcript_law.proofs.Words.{ℕ, refl, Chronicle, LinkVerb, PlainWorld, Verb, stays, take_snapshots, verb_step, with_branches}
use Rattle.node_world.specs.World.{pump_step}
use Rattle.transcript_law.proofs.invariant.Agreement.{Agrees}
use Rattle.transcript_law.proofs.noted.{EndLines.{dial_ends, still_line_ends}, EndMoves.{downs_ending, ups_ending}, Ending.{AllEnding}, Pumped.{pump_known}}
use Rattle.transcript_law.proofs.verbs.{LinkTellings.{up_tells}, Moved.{Before}, PumpNoted.{pump_ends}, PumpTellings.{pump_told}, Rows.{Tells}, Settling.{steady}, Untaken.{all_beside}}
use Rattle.transcript_law.specs.Chronicles.{after_group}

abbrev pub EndsBehind : PlainWorld → Chronicle → ℕ → Verb → Type 0
EndsBehind w r number line = let o = verb_step w number line in Agrees (with_branches o.1.events o.0) (after_group r line o.1.events o.1.answer) → AllEnding (with_branches o.1.events o.0) (after_group r line o.1.events o.1.answer)

pub up_ends_known : (w : PlainWorld) (r : Chronicle) (number l wanted : ℕ) → Before w r (Verb.AtLink l (LinkVerb.Up wanted)) → EndsBehind w r number (Verb.AtLink l (LinkVerb.Up wanted))
up_ends_known w r number l wanted b later = ups_ending stays steady w r wanted b.ranged b.calm.0 b.agrees b.handed.known b.handed.ends l (up_tells w r b.agrees l b.ranged wanted) later

pub down_ends_known : (w : PlainWorld) (r : Chronicle) (number l wanted : ℕ) → Before w r (Verb.AtLink l (LinkVerb.Down wanted)) → EndsBehind w r number (Verb.AtLink l (LinkVerb.Down wanted))
down_ends_known w r number l wanted b later = downs_ending w r l wanted b.handed.ends later

pub pump_ends_known : (w : PlainWorld) (r : Chronicle) (number l frames : ℕ) → Before w r (Verb.AtLink l (LinkVerb.Pump frames)) → EndsBehind w r number (Verb.AtLink l (LinkVerb.Pump frames))
pump_ends_known w r number l frames b later = pump_ends w r l frames b.agrees b.handed.known (pump_step w l frames) (pump_told take_snapshots stays steady w r l frames b.agrees b.ranged b.calm.0 (pump_known w r b.handed)) b.handed.ends later

pub ends_of_line : (w : PlainWorld) (r : Chronicle) (number : ℕ) (line : Verb) → Before w r line → Tells r line (verb_step w number line).1.events → EndsBehind w r number line
ends_of_line w r number (Verb.AtLink l (LinkVerb.Up wanted)) b t later = up_ends_known w r number l wanted b later
ends_of_line w r number (Verb.AtLink l (LinkVerb.Down wanted)) b t later = down_ends_known w r number l wanted b later
ends_of_line w r number (Verb.AtLink l (LinkVerb.Pump frames)) b t later = pump_ends_known w r number l frames b later
ends_of_line w r number (Verb.AtLink l LinkVerb.Drop) b t later = still_line_ends w r number (Verb.AtLink l LinkVerb.Drop) refl (all_beside r (Verb.AtLink l LinkVerb.Drop) (verb_step w number (Verb.AtLink l LinkVerb.Drop)).1.events refl t) later b.handed.ends
ends_of_line w r number (Verb.AtLink l LinkVerb.Cut) b t later = still_line_ends w r number (Verb.AtLink l LinkVerb.Cut) refl (all_beside r (Verb.AtLink l LinkVerb.Cut) (verb_step w number (Verb.AtLink l LinkVerb.Cut)).1.events refl t) later b.handed.ends
ends_of_line w r number (Verb.Link l m n v buffer takeover) b t later = dial_ends w r number l m n v buffer takeover b.handed.ends later
ends_of_line w r number (Verb.Node n) b t later = still_line_ends w r number (Verb.Node n) refl (all_beside r (Verb.Node n) (verb_step w number (Verb.Node n)).1.events refl t) later b.handed.ends
ends_of_line w r number (Verb.AtNode n what) b t later = still_line_ends w r number (Verb.AtNode n what) refl (all_beside r (Verb.AtNode n what) (verb_step w number (Verb.AtNode n what)).1.events refl t) later b.handed.ends
ends_of_line w r number (Verb.AtVb n v what) b t later = still_line_ends w r number (Verb.AtVb n v what) refl (all_beside r (Verb.AtVb n v what) (verb_step w number (Verb.AtVb n v what)).1.events refl t) later b.handed.ends
ends_of_line w r number (Verb.AtClient n c what) b t later = still_line_ends w r number (Verb.AtClient n c what) refl (all_beside r (Verb.AtClient n c what) (verb_step w number (Verb.AtClient n c what)).1.events refl t) later b.handed.ends
