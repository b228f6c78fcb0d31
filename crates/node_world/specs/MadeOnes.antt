-- a vBucket that was made is there and counts, whatever became of its first record
use Rattle.std.specs.Prelude.{◌≡◌, ◌≢◌, ◌<◌, ℕ, None}
use Rattle.script_text.specs.declared.verb.Verb.TheVariants as verb
use Rattle.script_text.specs.declared.verb.VbVerb.TheVariants as vb_verb
use Rattle.vb_events.specs.declared.event.Answer.TheVariants as line
use Rattle.vb_events.specs.declared.event.Cause.TheVariants as cause
use Rattle.vb_types.specs.declared.role.Role.TheVariants as role
use Rattle.node_world.specs.Arguments.{MakesVb}
use Rattle.node_world.specs.Causes.{IsFree}
use Rattle.node_world.specs.Nodes.{PlainNode}
use Rattle.node_world.specs.World.{verb_step}
use Rattle.node_world.specs.Worlds.{PlainWorld}

-- unless the node stopped, one that no cause refuses is there and counts as one more, also where its first record could not be appended
pub record MakesAnyway (w : PlainWorld) (n : ℕ) (node : PlainNode) : Type 0 where
  pub active : (number v uuid : ℕ) → node.vbs v ≡ None → node.made < 64 → uuid ≢ 0 → IsFree w uuid → (verb_step w number (verb.AtVb n v (vb_verb.MakeActive uuid))).1.answer ≢ line.No cause.Stopped
      → (now : PlainNode) × MakesVb n v role.Active uuid node now (verb_step w number (verb.AtVb n v (vb_verb.MakeActive uuid)))
  pub replica : (number v : ℕ) → node.vbs v ≡ None → node.made < 64 → (verb_step w number (verb.AtVb n v vb_verb.MakeReplica)).1.answer ≢ line.No cause.Stopped
      → (now : PlainNode) × MakesVb n v role.Replica 0 node now (verb_step w number (verb.AtVb n v vb_verb.MakeReplica))
