-- that nobody waits for nothing: what becomes of a prepare that is outstanding, and of whom waits for it, at a call of its vBucket
use Rattle.std.specs.Prelude.{◌≡◌, ◌≢◌, ◌⊎◌, ◌<◌, ℕ, List, [], ◌∷◌, ◌==◌, if◌then◌else◌, Option, Some, None}
use Rattle.client_session.specs.declared.session.Awaited.{Awaited}
use Rattle.durability.specs.Laws.{Waits}
use Rattle.durability.specs.declared.waiting.Waiting.{Waiting}
use Rattle.vb_calls.specs.Durable.{Wish}
use Rattle.vb_calls.specs.declared.calls.Resolution.TheVariants.{Ambiguous}
use Rattle.vb_calls.specs.declared.calls.Resolved.{Resolved}
use Rattle.vb_calls.specs.declared.calls.VbReply.{VbReply}
use Rattle.node_core.specs.Clients.{PlainClient}
use Rattle.node_world.specs.Nodes.{PlainNode}
use Rattle.node_world.specs.declared.script_node.TheConstants.{MAX_CLIENTS}
use Rattle.vb_calls.specs.Plain.{Plain}
use Rattle.vb_calls.specs.States.{States}
use Rattle.vb_types.specs.declared.change.Level.TheVariants.{Majority, PersistMajority}
use Rattle.vb_types.specs.declared.write.Write.{Write}

-- who waits under this number is told one of these outcomes
abbrev pub IsTold : ℕ → List Resolved → Type 0
IsTold waiter [] = ⊥
IsTold waiter (r ∷ rs) = (r.waiter ≡ waiter) ⊎ IsTold waiter rs

-- behind a call a prepare is outstanding as it was, or who waits for it is told what became of it
abbrev pub WaitsOrIsTold : Waiting → Plain × VbReply → Type 0
WaitsOrIsTold w after = Waits w after.0.waiting ⊎ IsTold w.waiter after.1.resolved

-- so it is of each prepare that was outstanding, and for which somebody waits: 0 is nobody's number
abbrev pub ForgetsNone : Plain → Plain × VbReply → Type 0
ForgetsNone vb after = (w : Waiting) → w.waiter ≢ 0 → Waits w vb.waiting → WaitsOrIsTold w after

-- a durable write that is prepared is outstanding under the number that it was asked with, or who waits under that is told
abbrev pub WaitsAsAsked : Write → Wish → ℕ → Plain × VbReply → Type 0
WaitsAsAsked write wish seq after = WaitsOrIsTold (record { key = write.key; seq = seq; level = wish.level; deadline = Some wish.deadline; waiter = wish.waiter }) after

-- where no more may be committed, a durable write leaves all others outstanding: so no outcome but its own is told
abbrev pub LeavesOthers : Plain → Plain × VbReply → Type 0
LeavesOthers vb after = (w : Waiting) → Waits w vb.waiting → Waits w after.0.waiting

-- ---- at the vBuckets of a node

-- somebody waits under this number for a prepare that is outstanding at one of these vBuckets
pub record IsOutstandingAt (waiter : ℕ) (states : States) : Type 0 where
  pub v : ℕ
  pub vb : Plain
  pub there : states v ≡ Some vb
  pub w : Waiting
  pub among : Waits w vb.waiting
  pub number : w.waiter ≡ waiter

-- no connection of a node waits for nothing: the durable write whose outcome it awaits is outstanding there
abbrev pub NoneWaitsInVain : PlainNode → Type 0
NoneWaitsInVain node = (c : ℕ) (client : PlainClient) (a : Awaited) → c < MAX_CLIENTS → node.clients c ≡ Some client → client.session.awaited ≡ Some a → IsOutstandingAt a.waiter node.vbs

-- ---- in numbers

-- who waits under a number was told so, that nobody knows
abbrev pub told_one : ℕ → List Resolved
told_one waiter = record { waiter = waiter; how = Ambiguous } ∷ []

-- a prepare of a key of one byte, for which somebody waits under a number
abbrev pub one_waits : ℕ → Waiting
one_waits waiter = record { key = 107 ∷ []; seq = 5; level = Majority; deadline = Some 1; waiter = waiter }

-- a vBucket as this one with these prepares outstanding
abbrev pub with_waiting : Plain → List Waiting → Plain
with_waiting vb waiting = record vb { waiting = waiting }

-- its reply to a call, with these outcomes
abbrev pub with_told : VbReply → List Resolved → VbReply
with_told reply told = record reply { resolved = told }

-- a node whose every connection is this one, and whose one vBucket is this, if there is one
abbrev pub with_only : PlainNode → PlainClient → Option Plain → PlainNode
with_only node client vb = record node { clients = λ c. Some client; vbs = λ v. if v == 0 then vb else None }

-- it as one of another key, of another seqno or level, and with another time at which it is given up
abbrev pub waits_elsewhere : Waiting
waits_elsewhere = record (one_waits 7) { key = 108 ∷ [] }

abbrev pub waits_later : Waiting
waits_later = record (one_waits 7) { seq = 6 }

abbrev pub waits_higher : Waiting
waits_higher = record (one_waits 7) { level = PersistMajority }

abbrev pub waits_longer : Waiting
waits_longer = record (one_waits 7) { deadline = Some 2 }

-- with no time
abbrev pub waits_for_ever : Waiting
waits_for_ever = record (one_waits 7) { deadline = None }

-- it is what this write asks for, with this wish
pub record IsItsWish (write : Write) (wish : Wish) : Type 0 where
  pub key : write.key ≡ 107 ∷ []
  pub level : wish.level ≡ Majority
  pub deadline : wish.deadline ≡ 1
  pub waiter : wish.waiter ≡ 7

-- a node whose connection of the number c alone is there, which is this one, and that has no vBucket
abbrev pub with_one_at : PlainNode → ℕ → PlainClient → PlainNode
with_one_at node c client = record node { clients = λ d. if d == c then Some client else None; vbs = λ v. None }
