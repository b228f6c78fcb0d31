-- a line under its node's arm: what it has come to before it is asked whether the arm fired
use Rattle.std.specs.Prelude.{◌≡◌, ◌∷◌}
use Rattle.transcript_law.proofs.Words.{ℕ, true, List, [], Event, Chronicle, PlainWorld, after_lines}
use Rattle.{node_world.specs.Worlds.{is_up}, node_world.specs.declared.arm.Fired.{Fired}, transcript_law.specs.Chronicles.{Conns, after_crash}, vb_events.specs.declared.event.Answer.{Answer}}
use Rattle.node_world.specs.declared.arm.Fired.TheVariants as fired
use Rattle.vb_events.specs.declared.event.Answer.TheVariants as answer
use Rattle.vb_events.specs.declared.event.Cause.TheVariants as cause
use Rattle.transcript_law.proofs.invariant.Agreement.{Agrees}

-- lines that tell of what ends with a node: its links and its client connections
abbrev pub AreEnds : List Event → Type 0
AreEnds [] = Unit {0}
AreEnds (Event.Ended l reason ∷ lines) = AreEnds lines
AreEnds (Event.Closed n c ∷ lines) = AreEnds lines
AreEnds (other ∷ lines) = ⊥

-- what a line that appends a record at the node n tells beside its lines, by its answer: where the node stopped, what it tells where the disk failed, and the crash; and it has nothing to do with what ends with a node, nor with the connections of clients
pub record IsNoting (n : ℕ) (told : Answer → Chronicle → Chronicle) : Type 0 where
  pub stops : (r : Chronicle) → told (answer.No cause.Stopped) r ≡ after_crash (told (answer.No cause.Disk) r) n (r.arm_at n).out
  pub apart : (r : Chronicle) (lines : List Event) → AreEnds lines → told (answer.No cause.Disk) (after_lines r lines) ≡ after_lines (told (answer.No cause.Disk) r) lines
  pub dials : (r : Chronicle) → (told (answer.No cause.Disk) r).dial_of ≡ r.dial_of
  pub conns : (r : Chronicle) (conns : Conns) → told (answer.No cause.Disk) (record r { conn_at = conns }) ≡ record (told (answer.No cause.Disk) r) { conn_at = conns }

-- what a line has come to whose arm fired like this, before that is told: `r` is what was read with its lines, `w` the world, `said` its answer. An arm fires only inside an append that fails, at a node that is running
abbrev pub ArmedCame : ℕ → (Answer → Chronicle → Chronicle) → Fired → Chronicle → PlainWorld → Answer → Type 0
ArmedCame n told fired.No r w said = Agrees w (told said r)
ArmedCame n told fired.Failed r w said = (said ≡ answer.No cause.Disk) × Agrees w (told said r)
ArmedCame n told fired.Stopped r w said = (said ≡ answer.No cause.Disk) × (is_up (w.nodes n) ≡ true) × Agrees w (told said r)
