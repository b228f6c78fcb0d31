-- how a node hands out what an operator's call told
use Rattle.std.specs.Prelude.{◌≡◌, ◌++◌, ℕ, List, [], Some, None, is_some}
use Rattle.std.specs.Option.{option_map}
use Rattle.slab.specs.Slab.{get}
use Rattle.vb_events.specs.declared.event.Answer.TheVariants as answer
use Rattle.vb_calls.specs.declared.calls.Resolved.{Resolved}
use Rattle.vb_calls.specs.declared.journals.Wrote.{Wrote}
use Rattle.node_core.specs.declared.node.Node.{Node}
use Rattle.node_core.specs.declared.out.NodeOut.{NodeOut}
use Rattle.node_core.specs.declared.roles.AdminResult.{AdminResult}
use Rattle.node_core.specs.declared.roles.AdminResult.TheVariants as told
use Rattle.node_core.specs.declared.roles.RoleLines.{RoleLines}
use Rattle.node_core.specs.Admin.{noted_answer, role_lines}
use Rattle.node_core.specs.Outcomes.{value_at, Renumbered, conn_ended}
use Rattle.node_core.specs.Outs.{cut_lines, done_out}

-- the vBucket v has another role: its own dial is cut, each connection is told which streams ended, and the lines of both are handed out
pub record TurnsRole {W J : Type 0} (v : ℕ) (role : RoleLines) (ids : List ℕ) (resolved : List Resolved) (wrote : Wrote) (old : Node W J) (out : NodeOut) (new : Node W J) : Type 0 where
  pub said : out ≡ record (done_out (cut_lines (value_at old.dials v) ++ role_lines role) []) { answer = noted_answer wrote answer.Ok; closed = is_some (value_at old.dials v); resolved = resolved }
  pub conns : (key : ℕ) → get new.conns key ≡ option_map (conn_ended v (Some ids)) (get old.conns key)
  pub dials : Renumbered old.dials new.dials v None
  pub rest : new ≡ record old { conns = new.conns; dials = new.dials }

-- what an operator's call told is handed out, with what became of its record
abbrev pub HandsOut : {W J : Type 0} → ℕ → AdminResult → Wrote → Node W J → NodeOut → Node W J → Type 0
HandsOut v (told.Out left) wrote old out new = (out ≡ record left { answer = noted_answer wrote left.answer }) × (new ≡ old)
HandsOut v (told.Role role ids resolved) wrote old out new = TurnsRole v role ids resolved wrote old out new
