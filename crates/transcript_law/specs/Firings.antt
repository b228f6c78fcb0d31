-- what a group's lines tell of arms that fired and of vBuckets that went back, as its line and its answer say
use Rattle.std.specs.Prelude.{◌≡◌, ℕ, Bool, true, false, not, List, [], ◌∷◌, Option, Some, None, if◌then◌else◌}
use Rattle.std.specs.List.{filter}
use Rattle.std.specs.Option.{option_map}
use Rattle.script_text.specs.declared.verb.Verb.{Verb}
use Rattle.script_text.specs.declared.verb.Verb.TheVariants as verb
use Rattle.script_text.specs.declared.verb.NodeVerb.TheVariants as node_verb
use Rattle.script_text.specs.declared.verb.LinkVerb.TheVariants as link_verb
use Rattle.vb_events.specs.declared.event.Answer.{Answer}
use Rattle.vb_events.specs.declared.event.Answer.TheVariants as answer
use Rattle.vb_events.specs.declared.event.Cause.TheVariants as cause
use Rattle.vb_events.specs.declared.event.Event.{Event}
use Rattle.vb_events.specs.declared.event.Event.TheVariants as event
use Rattle.transcript_law.specs.Chronicles.{Chronicle, Dial, is_rollback}
use Rattle.transcript_law.specs.LineAnswers as kind
use Rattle.transcript_law.specs.LineAnswers.{VbKind, vb_kind}

-- a line tells that an arm fired, which is that a device call failed or that a node stopped inside one; or that a vBucket went back
abbrev pub is_mishap : Event → Bool
is_mishap (event.CallFailed n) = true
is_mishap (event.NodeStopped n) = true
is_mishap (event.Rolled n v named to) = true
is_mishap other = false

-- such lines among these
abbrev pub mishaps : List Event → List Event
mishaps lines = filter is_mishap lines

-- a line of a kind may call a disk of its node
abbrev pub may_write : VbKind → Bool
may_write kind.Plain = false
may_write kind.Notes = true
may_write kind.Seals = false
may_write kind.Trims = false
may_write kind.Takes = false
may_write kind.Saves = true
may_write kind.Counts = false

-- the node at which a line of a script may call a disk, if it does: where a link's bytes are taken, that of the vBucket that dialed it. Each verb has a row of its own, here or in its kind
abbrev pub writes_at : Chronicle → Verb → Option ℕ
writes_at chronicle (verb.Node n) = None
writes_at chronicle (verb.Link l m n v buffer takeover) = None
writes_at chronicle (verb.AtNode n (node_verb.Clock nanos)) = None
writes_at chronicle (verb.AtNode n (node_verb.Stop call out)) = None
writes_at chronicle (verb.AtNode n (node_verb.Fail call)) = None
writes_at chronicle (verb.AtNode n (node_verb.Crash out)) = None
writes_at chronicle (verb.AtNode n (node_verb.Start uuids)) = Some n
writes_at chronicle (verb.AtVb n v what) = if may_write (vb_kind what) then Some n else None
writes_at chronicle (verb.AtClient n c what) = None
writes_at chronicle (verb.AtLink l (link_verb.Up wanted)) = None
writes_at chronicle (verb.AtLink l (link_verb.Down wanted)) = option_map (λ (dial : Dial). dial.node) (chronicle.dial_of l)
writes_at chronicle (verb.AtLink l (link_verb.Pump wanted)) = None
writes_at chronicle (verb.AtLink l link_verb.Drop) = None
writes_at chronicle (verb.AtLink l link_verb.Cut) = None

-- the others of these lines than those of rollbacks
abbrev pub is_other : Event → Bool
is_other line = not (is_rollback line)

abbrev pub beside_rollbacks : List Event → List Event
beside_rollbacks lines = filter is_other lines

-- what a line tells of arms that fired, which calls a disk of this node, or none, and of no vBucket that went back: where the answer is that a disk failed, of one call that failed, at that node; where it is that the node stopped, of that, once; and of neither
-- by any other answer. A line that calls no disk has neither answer
abbrev pub FiresAsSaid : Option ℕ → List Event → Answer → Type 0
FiresAsSaid (Some n) lines (answer.No cause.Disk) = mishaps lines ≡ event.CallFailed n ∷ []
FiresAsSaid (Some n) lines (answer.No cause.Stopped) = mishaps lines ≡ event.NodeStopped n ∷ []
FiresAsSaid None lines (answer.No cause.Disk) = ⊥
FiresAsSaid None lines (answer.No cause.Stopped) = ⊥
FiresAsSaid at lines said = mishaps lines ≡ []

-- of a vBucket that went back only a line `down` tells, and what of it its answer says; beside that it tells of arms that fired as any line does
abbrev pub FiresInLine : Chronicle → Verb → List Event → Answer → Type 0
FiresInLine chronicle (verb.AtLink l (link_verb.Down wanted)) lines said = FiresAsSaid (writes_at chronicle (verb.AtLink l (link_verb.Down wanted))) (beside_rollbacks lines) said
FiresInLine chronicle line lines said = FiresAsSaid (writes_at chronicle line) lines said
