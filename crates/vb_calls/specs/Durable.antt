-- what durable writes do: at the active node, and at one that follows
use Rattle.std.specs.Prelude.{ℕ, ◌+◌, nat_lt, not, Bool, true, false, if◌then◌else◌, List, [], ◌∷◌, map, Option, Some, None}
use Rattle.std.specs.FinMap as finite
use Rattle.std.specs.List.{fold}
use Rattle.branch_model.specs.Requests.{fork_of}
use Rattle.durability.specs.declared.waiting.Waiting.{Waiting}
use Rattle.durability.specs.Chains.{Links, is_possible}
use Rattle.durability.specs.Outstanding.{late, placed, with_ack}
use Rattle.durability.specs.Pending.{due}
use Rattle.vb_types.specs.declared.change.Act.TheVariants as act
use Rattle.vb_types.specs.declared.change.Change.{Change}
use Rattle.vb_types.specs.declared.change.Level.{Level}
use Rattle.vb_types.specs.declared.change.Pend.{Pend}
use Rattle.vb_types.specs.declared.status.Status.{Status}
use Rattle.vb_types.specs.declared.status.Status.TheVariants as status
use Rattle.vb_types.specs.declared.write.Op.{Op}
use Rattle.vb_types.specs.declared.write.Op.TheVariants as op
use Rattle.vb_types.specs.declared.write.Write.{Write}
use Rattle.vb_calls.specs.declared.calls.Resolution.TheVariants as resolution
use Rattle.vb_calls.specs.declared.calls.VbAnswer.TheVariants as answer
use Rattle.vb_calls.specs.declared.calls.VbReply.{VbReply}
use Rattle.vb_calls.specs.State.{Plain, doc_at, image_in, is_active, newest_branch, quiet_reply, refusal_reply}
use Rattle.vb_calls.specs.Following.{is_follower}
use Rattle.vb_calls.specs.Settling.{Resolving, also_resolved, and_settled, has_seqno, resolved_by, unresolved}
use Rattle.vb_calls.specs.Writes.{growth, key_refusal, lacks_seqnos, new_cas, new_rev, written_doc}

-- a durable write as the call has it: when it is given up, and who waits for the outcome
pub record Wish : Type 0 where
  pub level : Level
  pub deadline : ℕ
  pub waiter : ℕ

-- why a durable write is refused, the first of its reasons: with it come two changes
abbrev pub durable_refusal : Plain → Write → Option Status
durable_refusal vb write =
    if not (is_active vb.role) then Some status.NotMyVbucket
    else if not (is_possible vb.others) then Some status.DurabilityImpossible
    else if lacks_seqnos vb 2 then Some status.Etmpfail
    else key_refusal vb write

-- a write that takes its key's document away
abbrev pub is_delete : Op → Bool
is_delete op.Set = false
is_delete op.Add = false
is_delete op.Replace = false
is_delete op.Delete = true

-- the change that prepares a write, with this CAS
abbrev pub prepare_change : Plain → Write → Level → ℕ → Change
prepare_change vb write level cas = record {
  seq = vb.position.at + 1;
  key = write.key;
  act = act.Prepare level (written_doc write cas (new_rev (doc_at vb write.key))) (is_delete write.op);
}

-- the prepare of this seqno is outstanding
abbrev pub outstanding : Write → Wish → ℕ → Waiting
outstanding write wish seq = record { key = write.key; seq = seq; level = wish.level; deadline = Some wish.deadline; waiter = wish.waiter }

-- the vBucket once a write is prepared
abbrev pub prepared_vb : Plain → Write → Wish → ℕ → Plain
prepared_vb vb write wish cas = record (growth vb (prepare_change vb write wish.level cas) cas).0 { waiting = placed (outstanding write wish (vb.position.at + 1)) vb.waiting }

-- what is told of a write that is prepared
abbrev pub prepared_reply : ℕ → Change → ℕ → VbReply
prepared_reply branch change cas = record { answer = answer.Prepared change.seq cas; resolved = []; ended = []; branch = branch; changes = change ∷ [] }

-- a durable write that is refused changes nothing
abbrev pub durable_outcome : Option Status → Plain → Write → Wish → ℕ → Plain × VbReply
durable_outcome (Some st) vb write wish cas = (vb, refusal_reply st)
durable_outcome None vb write wish cas = and_settled (prepared_vb vb write wish cas, prepared_reply (newest_branch vb.log) (prepare_change vb write wish.level cas) cas)

-- a durable write with the next CAS
abbrev pub durable_row : Plain → Write → ℕ → Wish → Plain × VbReply
durable_row vb write clock wish = durable_outcome (durable_refusal vb write) vb write wish (new_cas clock vb.last_cas)

-- a call for an active vBucket
abbrev pub if_active : Plain → Plain × VbReply → Plain × VbReply
if_active vb made = if is_active vb.role then made else (vb, refusal_reply status.NotMyVbucket)

-- the chain is set; what was acknowledged stays
abbrev pub chain_row : Plain → Links → Plain × VbReply
chain_row vb chain = if_active vb (and_settled (record vb { others = chain.others }, quiet_reply answer.Done))

-- a member acknowledged all up to a seqno that the vBucket has
abbrev pub ack_row : Plain → ℕ → ℕ → Plain × VbReply
ack_row vb member seq =
    if_active vb (if nat_lt vb.position.at seq then (vb, refusal_reply status.Erange) else and_settled (record vb { acks = with_ack vb.acks member seq }, quiet_reply answer.Done))

-- a prepare is given up, while a seqno is left
abbrev pub aborted : Resolving → Waiting → Resolving
aborted s w = if has_seqno s.vb then resolved_by (act.Abort w.seq) resolution.Ambiguous w s else s

-- the prepares whose time is up are given up, the lowest first
abbrev pub expired : ℕ → Plain → Resolving
expired clock vb = fold aborted (unresolved vb) (late clock vb.waiting)

-- a call that resolved these, and all that may be committed then
abbrev pub then_settled : Resolving → Plain × VbReply
then_settled s = and_settled (also_resolved (quiet_reply answer.Done) s)

-- the prepares whose time is up are given up
abbrev pub tick_row : Plain → ℕ → Plain × VbReply
tick_row vb clock = if_active vb (then_settled (expired clock vb))

-- the prepares that wait, by their keys
abbrev pub pending_prepares : Plain → List Pend
pending_prepares vb = map (λ e. e.1) (finite.entries (image_in vb).pending)

-- what a vBucket that follows another one may acknowledge, and up to where it has written all down
abbrev pub due_row : Plain → VbReply
due_row vb = if is_follower vb.role then quiet_reply (answer.Dues (due (pending_prepares vb) (fork_of vb.position) vb.saved) vb.saved) else refusal_reply status.NotMyVbucket
