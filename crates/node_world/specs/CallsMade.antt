-- which call of its vBucket each line of a script makes, and what becomes of it
use Rattle.std.specs.Prelude.{◌≡◌, ◌≢◌, ℕ, true, false, List, [], ◌∷◌, ◌++◌, map, length, Some}
use Rattle.std.specs.FinMap as finite
use Rattle.durability.specs.Chains.{Members}
use Rattle.script_text.specs.declared.verb.Verb.TheVariants as verb
use Rattle.script_text.specs.declared.verb.VbVerb.TheVariants as vb_verb
use Rattle.vb_events.specs.declared.event.Answer.TheVariants as line
use Rattle.vb_events.specs.declared.event.Event.TheVariants as event
use Rattle.vb_types.specs.declared.role.LogEntry.{LogEntry}
use Rattle.vb_types.specs.declared.role.Role.{Role}
use Rattle.vb_types.specs.declared.role.Role.TheVariants as role
use Rattle.vb_types.specs.Images.{Picture}
use Rattle.vb_calls.specs.declared.calls.VbAnswer.TheVariants as answer
use Rattle.vb_calls.specs.declared.calls.VbCall.{VbCall}
use Rattle.vb_calls.specs.declared.calls.VbCall.TheVariants as call
use Rattle.vb_calls.specs.declared.calls.VbReply.{VbReply}
use Rattle.vb_calls.specs.Plain.{plain_step}
use Rattle.vb_calls.specs.State.{Plain}
use Rattle.vb_calls.specs.States.{with_vb_at}
use Rattle.node_core.specs.Shown.{image_lines}
use Rattle.node_world.specs.declared.told.Told.{Told}
use Rattle.node_world.specs.Causes.{MayJoin}
use Rattle.node_world.specs.Nodes.{PlainNode, all_posted}
use Rattle.node_world.specs.World.{verb_step}
use Rattle.node_world.specs.Worlds.{PlainWorld, Outcome}

-- the reply of a vBucket to a call
abbrev pub reply_of : Plain → VbCall → VbReply
reply_of vb asked = (plain_step vb asked).1

-- the node after this call of its vBucket v
abbrev pub node_after : ℕ → Plain → VbCall → PlainNode → PlainNode
node_after v vb asked node = record node { vbs = with_vb_at node.vbs v (plain_step vb asked).0 }

-- the node n of a world is as this now, the other nodes and the links are as they were, and this was told
pub record LeavesNode (w : PlainWorld) (n : ℕ) (node : PlainNode) (told : Told) (came : Outcome) : Type 0 where
  pub is : came.0.nodes n ≡ Some node
  pub others : (m : ℕ) → m ≢ n → came.0.nodes m ≡ w.nodes m
  pub links : came.0.links ≡ w.links
  pub said : came.1 ≡ told

-- a call that a vBucket settles prepares with: its line tells of the changes of the reply, on the branch of the reply, and behind them what came of telling its outcomes, in their order, to the clients of the node as it is then
abbrev pub Settles : PlainWorld → ℕ → ℕ → PlainNode → Plain → VbCall → Outcome → Type 0
Settles w n v node vb asked came =
    let (told, lines) = all_posted (reply_of vb asked).resolved (node_after v vb asked node) in
    LeavesNode w n told (record { events = map (event.Changed n v (reply_of vb asked).branch) (reply_of vb asked).changes ++ lines; answer = line.Ok }) came

-- a call that tells this alone
abbrev pub Tells : PlainWorld → ℕ → ℕ → PlainNode → Plain → VbCall → Told → Outcome → Type 0
Tells w n v node vb asked told came = LeavesNode w n (node_after v vb asked node) told came

-- a call of its vBucket v is what a line for the running node n comes to, where it asks the vBucket alone
pub record CallsMade (w : PlainWorld) (n v : ℕ) (node : PlainNode) (vb : Plain) : Type 0 where
  pub chain : (number : ℕ) (others : Members) → vb.role ≡ role.Active → MayJoin n others → Settles w n v node vb (call.Chain (record { active = n; others = others })) (verb_step w number (verb.AtVb n v (vb_verb.Chain others)))
  pub tick : (number : ℕ) → vb.role ≡ role.Active → Settles w n v node vb (call.Tick node.clock) (verb_step w number (verb.AtVb n v vb_verb.Tick))
  pub seal : (number : ℕ) → (reply_of vb call.Seal).answer ≡ answer.Flag true → Tells w n v node vb call.Seal (record { events = []; answer = line.Number 1 }) (verb_step w number (verb.AtVb n v vb_verb.Seal))
  pub sealed : (number : ℕ) → (reply_of vb call.Seal).answer ≡ answer.Flag false → Tells w n v node vb call.Seal (record { events = []; answer = line.Number 0 }) (verb_step w number (verb.AtVb n v vb_verb.Seal))
  pub trim : (number removed : ℕ) → (reply_of vb call.Trim).answer ≡ answer.Num removed → Tells w n v node vb call.Trim (record { events = []; answer = line.Number removed }) (verb_step w number (verb.AtVb n v vb_verb.Trim))
  pub stat : (number a b c d e : ℕ) → (reply_of vb call.Stat).answer ≡ answer.Stat a b c d e
      → Tells w n v node vb call.Stat (record { events = event.Stat n v a b c d e ∷ []; answer = line.Ok }) (verb_step w number (verb.AtVb n v vb_verb.Stat))
  pub log : (number : ℕ) (log : List LogEntry) → (reply_of vb call.Log).answer ≡ answer.Logged log
      → Tells w n v node vb call.Log (record { events = event.Logged n v log ∷ []; answer = line.Ok }) (verb_step w number (verb.AtVb n v vb_verb.Log))
  pub show : (number uuid ss se at : ℕ) (said : Role) (image : Picture) → (reply_of vb call.Show).answer ≡ answer.Shown said uuid ss se at image
      → Tells w n v node vb call.Show (record { events = event.Shown n v said uuid at ss se (length (finite.entries image.docs)) (length (finite.entries image.pending)) ∷ image_lines image; answer = line.Ok }) (verb_step w number (verb.AtVb n v vb_verb.Show))
