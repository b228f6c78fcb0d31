-- what a line tells beside what its node did, and what becomes of clocks
use Rattle.std.specs.Prelude.{◌≡◌, ◌≢◌, ◌↔◌, ℕ, List, [], ◌∷◌, ◌++◌, Some, None}
use Rattle.script_text.specs.declared.verb.ScriptLine.{ScriptLine}
use Rattle.script_text.specs.declared.verb.Verb.TheVariants as verb
use Rattle.script_text.specs.declared.verb.NodeVerb.TheVariants as node_verb
use Rattle.vb_calls.specs.declared.calls.Resolved.{Resolved}
use Rattle.vb_disk.specs.declared.fuse.Fuse.{Fuse}
use Rattle.vb_disk.specs.declared.fuse.Fuse.TheVariants as fuse
use Rattle.vb_disk.specs.declared.made.Outcome.{Outcome}
use Rattle.vb_events.specs.declared.event.Answer.TheVariants as answer
use Rattle.vb_events.specs.declared.event.Cause.TheVariants as cause
use Rattle.vb_events.specs.declared.event.EndReason.TheVariants as reason
use Rattle.vb_events.specs.declared.event.Event.{Event}
use Rattle.vb_events.specs.declared.event.Event.TheVariants as event
use Rattle.node_world.specs.declared.arm.Fired.TheVariants as fired
use Rattle.node_world.specs.declared.told.Told.{Told}
use Rattle.node_world.specs.Arms.{PlainNode, fired_by}
use Rattle.node_world.specs.Nodes.{all_posted, posted}
use Rattle.node_world.specs.Posting.{NobodyAwaits}
use Rattle.node_world.specs.Power.{after_broken, after_fire, opening_told}
use Rattle.node_world.specs.World.{verb_step, world_step}
use Rattle.node_world.specs.Worlds.{PlainWorld}

-- an arm fired exactly where there was one and none is left, as it was to: a stop, or a failure
pub record FiresOnce (before after : Fuse) : Type 0 where
  pub stopped : fired_by before after ≡ fired.Stopped ↔ (((k : ℕ) × (before ≡ fuse.Stop k)) × (after ≡ fuse.Off))
  pub failed : fired_by before after ≡ fired.Failed ↔ (((k : ℕ) × (before ≡ fuse.Fail k)) × (after ≡ fuse.Off))

-- a call of the node n that failed inside a line is told last, and the line is answered as it was. Where it was to write down that the link l goes back, it is told, then the link's end, and the answer is that a disk failed; where the journal was closed before, the end alone, and the answer is that. No node stops then
pub record FailuresAreTold (w : PlainWorld) (n l : ℕ) (out : Outcome) (told : Told) : Type 0 where
  pub passed : after_fire n out fired.No (w, told) ≡ (w, told)
  pub world : (after_fire n out fired.Failed (w, told)).0 ≡ w
  pub lines : (after_fire n out fired.Failed (w, told)).1.events ≡ told.events ++ event.CallFailed n ∷ []
  pub said : (after_fire n out fired.Failed (w, told)).1.answer ≡ told.answer
  pub back_world : (after_broken n l out fired.Failed (w, told)).0 ≡ w
  pub back_lines : (after_broken n l out fired.Failed (w, told)).1.events ≡ told.events ++ event.CallFailed n ∷ event.Ended l reason.Disk ∷ []
  pub back_answer : (after_broken n l out fired.Failed (w, told)).1.answer ≡ answer.No cause.Disk
  pub closed_world : (after_broken n l out fired.No (w, told)).0 ≡ w
  pub closed_lines : (after_broken n l out fired.No (w, told)).1.events ≡ told.events ++ event.Ended l reason.Disk ∷ []
  pub closed_answer : (after_broken n l out fired.No (w, told)).1.answer ≡ answer.No cause.Closed

-- an opening that is hit is told alone, and the answer says how
pub record OpeningsAreTold (n : ℕ) : Type 0 where
  pub failed : opening_told n fired.Failed ≡ record { events = event.CallFailed n ∷ []; answer = answer.No cause.Disk }
  pub stopped : opening_told n fired.Stopped ≡ record { events = event.NodeStopped n ∷ []; answer = answer.No cause.Stopped }

-- a group has its line's number, and what is told of the line
pub record GroupsAreLines (w : PlainWorld) (line : ScriptLine) : Type 0 where
  pub number : (world_step w line).1.line ≡ line.line
  pub events : (world_step w line).1.events ≡ (verb_step w line.line line.verb).1.events
  pub said : (world_step w line).1.answer ≡ (verb_step w line.line line.verb).1.answer

-- a running node's clock shows what a line sets it to, which tells of nothing, and all else of the node stays
pub record ClocksAreSet (w : PlainWorld) (line n nanos : ℕ) (node : PlainNode) : Type 0 where
  pub shows : w.nodes n ≡ Some node → node.off ≡ None → (verb_step w line (verb.AtNode n (node_verb.Clock nanos))).0.nodes n ≡ Some (record node { clock = nanos })
  pub told : w.nodes n ≡ Some node → node.off ≡ None → (verb_step w line (verb.AtNode n (node_verb.Clock nanos))).1 ≡ record { events = []; answer = answer.Ok }
  pub others : (m : ℕ) → m ≢ n → (verb_step w line (verb.AtNode n (node_verb.Clock nanos))).0.nodes m ≡ w.nodes m
  pub links : (verb_step w line (verb.AtNode n (node_verb.Clock nanos))).0.links ≡ w.links

-- of two outcomes that two connections await the first is told first, with all that its connection goes on with, and then the second; where nobody awaits the first, the second alone
pub record TellsInOrder (r s : Resolved) (node : PlainNode) : Type 0 where
  pub both : (first second : List Event) → (posted r node).1 ≡ first → (posted s (posted r node).0).1 ≡ second → (all_posted (r ∷ s ∷ []) node).1 ≡ first ++ second
  pub nobody : NobodyAwaits r.waiter node → (all_posted (r ∷ s ∷ []) node).1 ≡ (posted s node).1
  pub none : (all_posted [] node).1 ≡ []
