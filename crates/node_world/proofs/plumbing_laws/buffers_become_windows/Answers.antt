use Rattle.node_world.proofs.Buffers.{in_numbers, lines}
use Rattle.node_world.proofs.plumbing_laws.buffers_become_windows.Goals as goal

pub returns-clause-lines : goal.returns-clause-lines
returns-clause-lines c = λ w l m n v buffer takeover. lines w l m n v buffer takeover

pub returns-clause-numbers : goal.returns-clause-numbers
returns-clause-numbers c = λ line l m v takeover ask producer. in_numbers line l m v takeover ask producer
