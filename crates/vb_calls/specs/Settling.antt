-- how prepares are resolved: they are committed, in order, or given up
use Rattle.std.specs.Prelude.{ℕ, ◌+◌, ◌==◌, ◌&&◌, nat_lt, Bool, true, false, if◌then◌else◌, List, [], ◌∷◌, ◌++◌, Option, Some, None}
use Rattle.std.specs.FinMap as finite
use Rattle.std.specs.List.{flat_map, fold}
use Rattle.durability.specs.declared.waiting.Waiting.{Waiting}
use Rattle.durability.specs.Chains.{has_enough}
use Rattle.durability.specs.Outstanding.{acked, placed, without}
use Rattle.vb_types.specs.declared.change.Act.{Act}
use Rattle.vb_types.specs.declared.change.Change.{Change}
use Rattle.vb_types.specs.declared.change.Pend.{Pend}
use Rattle.vb_types.specs.declared.position.TheConstants.{MAX_SEQ}
use Rattle.vb_types.specs.Images.{Picture}
use Rattle.vb_calls.specs.declared.calls.Resolution.{Resolution}
use Rattle.vb_calls.specs.declared.calls.Resolution.TheVariants as resolution
use Rattle.vb_calls.specs.declared.calls.Resolved.{Resolved}
use Rattle.vb_calls.specs.declared.calls.VbReply.{VbReply}
use Rattle.vb_calls.specs.State.{Plain, is_active, newest_branch, pending_of}
use Rattle.vb_calls.specs.Following.{cas_of, committed_act}
use Rattle.vb_calls.specs.Writes.{growth}

-- a vBucket in the middle of a call that resolves prepares, the changes that this made, and the outcomes
pub record Resolving : Type 0 where
  pub vb : Plain
  pub changes : List Change
  pub resolved : List Resolved

-- there is no change
abbrev pub is_empty : List Change → Bool
is_empty [] = true
is_empty (c ∷ cs) = false

-- none was resolved yet
abbrev pub unresolved : Plain → Resolving
unresolved vb = record { vb = vb; changes = []; resolved = [] }

-- the outcome for who waits; nobody does under 0
abbrev pub outcome_for : ℕ → Resolution → List Resolved
outcome_for waiter how = if waiter == 0 then [] else record { waiter = waiter; how = how } ∷ []

-- nobody knows whether these stand
abbrev pub given_up : List Waiting → List Resolved
given_up waiting = flat_map (λ w. outcome_for w.waiter resolution.Ambiguous) waiting

-- the vBucket's next change, of a prepare's key
abbrev pub resolving_change : Plain → Waiting → Act → Change
resolving_change vb w a = record { seq = vb.position.at + 1; key = w.key; act = a }

-- a prepare is resolved by a change of the vBucket's own, with this outcome
abbrev pub resolved_by : Act → Resolution → Waiting → Resolving → Resolving
resolved_by a how w s = record {
  vb = record (growth s.vb (resolving_change s.vb w a) s.vb.last_cas).0 { waiting = without w.seq s.vb.waiting };
  changes = s.changes ++ resolving_change s.vb w a ∷ [];
  resolved = s.resolved ++ outcome_for w.waiter how;
}

-- there is a seqno left for one more change
abbrev pub has_seqno : Plain → Bool
has_seqno vb = nat_lt vb.position.at MAX_SEQ

-- a prepare is committed, with the document of its key's pending entry, which names it; and then what comes next
abbrev pub committed_by : Option Act → Waiting → (Resolving → Resolving) → Resolving → Resolving
committed_by None w next s = s
committed_by (Some a) w next s = next (resolved_by a (resolution.Committed (newest_branch s.vb.log) (s.vb.position.at + 1) (cas_of a)) w s)

-- a prepare may be committed: a majority of the chain has it, as its level asks, and a seqno is left
abbrev pub may_commit : Plain → Waiting → Bool
may_commit vb w = has_enough (acked vb.acks) vb.others vb.saved w && has_seqno vb

-- the outstanding prepares are committed, the lowest first, up to the first one that may not be
abbrev pub settled_from : List Waiting → Resolving → Resolving
settled_from [] s = s
settled_from (w ∷ more) s = if may_commit s.vb w then committed_by (committed_act w.seq (pending_of s.vb w.key)) w (settled_from more) s else s

-- all is committed that may be; only an active vBucket commits
abbrev pub settled : Plain → Resolving
settled vb = if is_active vb.role then settled_from vb.waiting (unresolved vb) else unresolved vb

-- the branch of the changes of a reply and of these
abbrev pub branch_of : VbReply → Resolving → ℕ
branch_of reply s = if is_empty s.changes then reply.branch else newest_branch s.vb.log

-- a reply with the changes and outcomes of what was resolved behind it
abbrev pub also_resolved : VbReply → Resolving → Plain × VbReply
also_resolved reply s = (s.vb, record reply { branch = branch_of reply s; changes = reply.changes ++ s.changes; resolved = reply.resolved ++ s.resolved })

-- a call that was made, and all that may be committed then
abbrev pub and_settled : Plain × VbReply → Plain × VbReply
and_settled made = also_resolved made.1 (settled made.0)

-- a prepare that waits, as one that is to be committed again: it has no deadline, and nobody waits for it
abbrev pub left_prepare : List ℕ × Pend → Waiting
left_prepare e = record { key = e.0; seq = e.1.seq; level = e.1.level; deadline = None; waiter = 0 }

-- all that wait in an image, by rising seqnos, of equal ones the smaller key first
abbrev pub left_prepares : Picture → List Waiting
left_prepares image = fold (λ waiting e. placed (left_prepare e) waiting) [] (finite.entries image.pending)
