-- what a call plans that resolves prepares, and what it makes of what is kept
use Rattle.std.specs.Prelude.{ℕ, ◌+◌, nat_lt, max, if◌then◌else◌, List, [], ◌∷◌, ◌++◌, Option, Some, None}
use Rattle.std.specs.FinMap as map
use Rattle.std.specs.List.{fold}
use Rattle.std.specs.Str.{bytes_eq}
use Rattle.durability.specs.declared.waiting.Waiting.{Waiting}
use Rattle.durability.specs.Chains.{Links, committed_now}
use Rattle.durability.specs.Outstanding.{acked, late, placed, with_ack, without}
use Rattle.vb_types.specs.declared.change.Act.{Act}
use Rattle.vb_types.specs.declared.change.Act.TheVariants as act
use Rattle.vb_types.specs.declared.change.Change.{Change}
use Rattle.vb_types.specs.declared.change.Level.{Level}
use Rattle.vb_types.specs.declared.change.Pend.{Pend}
use Rattle.vb_types.specs.declared.position.TheConstants.{MAX_SEQ}
use Rattle.vb_types.specs.declared.status.Status.{Status}
use Rattle.vb_types.specs.declared.status.Status.TheVariants as status
use Rattle.vb_types.specs.declared.write.Write.{Write}
use Rattle.vb_types.specs.Images.{Picture, applied, is_older}
use Rattle.vb_calls.specs.declared.calls.Resolution.{Resolution}
use Rattle.vb_calls.specs.declared.calls.Resolution.TheVariants as resolution
use Rattle.vb_calls.specs.declared.calls.Resolved.{Resolved}
use Rattle.vb_calls.specs.declared.calls.VbAnswer.{VbAnswer}
use Rattle.vb_calls.specs.declared.calls.VbAnswer.TheVariants as answer
use Rattle.vb_calls.specs.declared.calls.VbReply.{VbReply}
use Rattle.vb_calls.specs.declared.span.Origin.TheVariants.{Own}
use Rattle.vb_calls.specs.Durable.{Wish, durable_refusal, is_delete, outstanding}
use Rattle.vb_calls.specs.Following.{cas_of, committed_act}
use Rattle.vb_calls.specs.Settling.{is_empty, outcome_for}
use Rattle.vb_calls.specs.State.{Plain, complete_position, doc_at, is_active, newest_branch, quiet_reply, refusal_reply}
use Rattle.vb_calls.specs.Writes.{new_cas, new_rev, written_doc}
use Rattle.ckpt_list.specs.Lists.{queued}
use Rattle.vbucket.specs.declared.vbucket.settling.Plan.{Plan}
use Rattle.vbucket.specs.Kept.{Kept}

-- nothing is planned yet, above a seqno
abbrev pub no_plan : ℕ → Plan
no_plan at = record { at = at; changes = []; resolved = [] }

-- the next change, of this key with this act
abbrev pub next_change : ℕ → List ℕ → Act → Change
next_change at key a = record { seq = at + 1; key = key; act = a }

-- one more change
abbrev pub with_next : List ℕ → Act → Plan → Plan
with_next key a p = record { at = p.at + 1; changes = p.changes ++ next_change p.at key a ∷ []; resolved = p.resolved }

-- one more outcome, for who waits
abbrev pub with_outcome : ℕ → Resolution → List Resolved → List Resolved
with_outcome waiter how resolved = resolved ++ outcome_for waiter how

-- a prepare is resolved by the next change, with this outcome
abbrev pub with_resolved : Act → Resolution → Waiting → Plan → Plan
with_resolved a how w p = record { at = p.at + 1; changes = p.changes ++ next_change p.at w.key a ∷ []; resolved = with_outcome w.waiter how p.resolved }

-- a prepare is committed by the next change, on a branch
abbrev pub with_committed : Act → ℕ → Waiting → Plan → Plan
with_committed a uuid w p = with_resolved a (resolution.Committed uuid (p.at + 1) (cas_of a)) w p

-- a key's prepare that waits, once a change of the key with this seqno and act is made
abbrev pub pend_by : Act → ℕ → Option Pend → Option Pend
pend_by (act.Set doc) seq pend = if is_older seq pend then None else pend
pend_by (act.Remove cas rev) seq pend = if is_older seq pend then None else pend
pend_by (act.Prepare level doc deleted) seq pend = Some (record { seq = seq; level = level; doc = doc; deleted = deleted })
pend_by (act.Commit prepared doc deleted) seq pend = if is_older seq pend then None else pend
pend_by (act.Abort prepared) seq pend = if is_older seq pend then None else pend

-- a key's prepare that waits, once a change of any key is made
abbrev pub pend_at : List ℕ → Option Pend → Change → Option Pend
pend_at key pend c = if bytes_eq c.key key then pend_by c.act c.seq pend else pend

-- the commit of a prepare, where there is one, and then what comes next
abbrev pub commits_by : Option Act → ℕ → Waiting → (Plan → Plan) → Plan → Plan
commits_by None uuid w next p = p
commits_by (Some a) uuid w next p = next (with_committed a uuid w p)

-- these prepares are committed on a branch, one after the other, over what stood before the plan: up to the first that is not its key's prepare that waits, and while seqnos are left
abbrev pub with_commits : ℕ → Picture → List Waiting → Plan → Plan
with_commits uuid base [] p = p
with_commits uuid base (w ∷ more) p =
    if nat_lt p.at MAX_SEQ then commits_by (committed_act w.seq (map.get (fold applied base p.changes).pending w.key)) uuid w (with_commits uuid base more) p else p

-- the prepare that an act resolves
abbrev pub resolved_seq : Act → Option ℕ
resolved_seq (act.Set doc) = None
resolved_seq (act.Remove cas rev) = None
resolved_seq (act.Prepare level doc deleted) = None
resolved_seq (act.Commit prepared doc deleted) = Some prepared
resolved_seq (act.Abort prepared) = Some prepared

-- what is outstanding once the prepare of a seqno is resolved, if one is
abbrev pub waiting_by : Option ℕ → List Waiting → List Waiting
waiting_by None waiting = waiting
waiting_by (Some seq) waiting = without seq waiting

abbrev pub waiting_behind : List Waiting → Change → List Waiting
waiting_behind waiting c = waiting_by (resolved_seq c.act) waiting

-- a change of the vBucket's own is made
abbrev pub with_made : Kept → Change → Kept
with_made k c = record { rest = record k.rest { base = applied k.rest.base c; position = complete_position c.seq }; list = queued k.list Own c }

-- and the prepare that it resolves, if it does, is outstanding no more
abbrev pub with_own : Kept → Change → Kept
with_own k c = record (with_made k c) { rest = record (with_made k c).rest { waiting = waiting_behind k.rest.waiting c } }

-- the branch of changes of the vBucket's own, or 0
abbrev pub own_branch : ℕ → List Change → ℕ
own_branch uuid changes = if is_empty changes then 0 else uuid

-- what is told of a plan that is carried out on a branch
abbrev pub plan_reply : VbAnswer → ℕ → Plan → VbReply
plan_reply said uuid p = record { answer = said; resolved = p.resolved; ended = []; branch = own_branch uuid p.changes; changes = p.changes }

-- a plan is carried out
abbrev pub carried_out : Kept → VbAnswer → Plan → Kept × VbReply
carried_out k said p = (fold with_own k p.changes, plan_reply said (newest_branch k.rest.log) p)

-- a plan, and the commits of those of the outstanding prepares that may be committed then
abbrev pub with_ready : Plain → List Waiting → Plan → Plan
with_ready vb waiting p = with_commits (newest_branch vb.log) vb.base (committed_now (acked vb.acks) vb.others vb.saved waiting) p

-- a plan is carried out with all commits that may be made then
abbrev pub kept_settled : Kept → VbAnswer → Plan → Kept × VbReply
kept_settled k said p = carried_out k said (with_ready k.rest k.rest.waiting p)

-- a call for an active vBucket
abbrev pub if_kept_active : Kept → Kept × VbReply → Kept × VbReply
if_kept_active k made = if is_active k.rest.role then made else (k, refusal_reply status.NotMyVbucket)

-- the prepare of a write is planned
abbrev pub prepare_plan : Kept → Write → Level → ℕ → Plan
prepare_plan k write level cas =
    with_next write.key (act.Prepare level (written_doc write cas (new_rev (doc_at k.rest write.key))) (is_delete write.op)) (no_plan k.rest.position.at)

-- a prepare is outstanding, and this is the last CAS
abbrev pub kept_with_prepare : Kept → Waiting → ℕ → Kept
kept_with_prepare k w cas = record k { rest = record k.rest { last_cas = cas; waiting = placed w k.rest.waiting } }

-- a durable write that is refused changes nothing
abbrev pub kept_prepare : Option Status → Kept → Write → Wish → ℕ → Kept × VbReply
kept_prepare (Some st) k write wish cas = (k, refusal_reply st)
kept_prepare None k write wish cas =
    kept_settled (kept_with_prepare k (outstanding write wish (k.rest.position.at + 1)) cas) (answer.Prepared (k.rest.position.at + 1) cas) (prepare_plan k write wish.level cas)

-- a durable write
abbrev pub kept_durable : Kept → Write → ℕ → Wish → Kept × VbReply
kept_durable k write clock wish = kept_prepare (durable_refusal k.rest write) k write wish (new_cas clock k.rest.last_cas)

-- a chain
abbrev pub kept_chain : Kept → Links → Kept × VbReply
kept_chain k chain = if_kept_active k (kept_settled (record k { rest = record k.rest { others = chain.others } }) answer.Done (no_plan k.rest.position.at))

-- an acknowledgement
abbrev pub kept_ack : Kept → ℕ → ℕ → Kept × VbReply
kept_ack k member seq =
    if_kept_active k (
    if nat_lt k.rest.position.at seq then (k, refusal_reply status.Erange)
    else kept_settled (record k { rest = record k.rest { acks = with_ack k.rest.acks member seq } }) answer.Done (no_plan k.rest.position.at)
    )

-- a prepare is given up while a seqno is left, and is outstanding no more
abbrev pub with_abort : Plan × List Waiting → Waiting → Plan × List Waiting
with_abort s w = if nat_lt s.0.at MAX_SEQ then (with_resolved (act.Abort w.seq) resolution.Ambiguous w s.0, without w.seq s.1) else s

-- the prepares whose time is up are given up, the lowest first
abbrev pub given_up_plan : ℕ → List Waiting → Plan × List Waiting → Plan × List Waiting
given_up_plan clock waiting s = fold with_abort s (late clock waiting)

-- those are given up, and what may be committed then is
abbrev pub kept_left : Kept → Plan × List Waiting → Kept × VbReply
kept_left k s = carried_out k answer.Done (with_ready k.rest s.1 s.0)

abbrev pub kept_expired : Kept → ℕ → Kept × VbReply
kept_expired k clock = kept_left k (given_up_plan clock k.rest.waiting (no_plan k.rest.position.at, k.rest.waiting))

-- a tick of the clock
abbrev pub kept_tick : Kept → ℕ → Kept × VbReply
kept_tick k clock = if_kept_active k (kept_expired k clock)

-- all up to a seqno is written down; what is saved never falls
abbrev pub kept_saved : Kept → ℕ → Kept
kept_saved k seq = record k { rest = record k.rest { saved = max k.rest.saved seq } }

-- and what may be committed then is
abbrev pub kept_flushed : Kept → ℕ → Kept × VbReply
kept_flushed k seq =
    if is_active k.rest.role then kept_settled (kept_saved k seq) (answer.Num (max k.rest.saved seq)) (no_plan k.rest.position.at) else (kept_saved k seq, quiet_reply (answer.Num (max k.rest.saved seq)))
