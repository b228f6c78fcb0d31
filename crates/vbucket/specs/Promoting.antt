-- what is kept of a vBucket that becomes active
use Rattle.std.specs.Prelude.{ℕ, List, [], Option, Some, None}
use Rattle.std.specs.FinMap as map
use Rattle.std.specs.List.{fold}
use Rattle.durability.specs.declared.waiting.Waiting.{Waiting}
use Rattle.durability.specs.Chains.{committed_now}
use Rattle.durability.specs.Outstanding.{Known, acked, no_acks, placed}
use Rattle.vb_types.specs.declared.change.Change.{Change}
use Rattle.vb_types.specs.declared.change.Pend.{Pend}
use Rattle.vb_types.specs.declared.role.LogEntry.{LogEntry}
use Rattle.vb_types.specs.declared.role.Role.TheVariants.{Active}
use Rattle.vb_types.specs.declared.status.Status.{Status}
use Rattle.branch_model.specs.Logs.{with_entry}
use Rattle.branch_model.specs.Requests.{fork_of}
use Rattle.vb_calls.specs.declared.calls.VbAnswer.{VbAnswer}
use Rattle.vb_calls.specs.declared.calls.VbAnswer.TheVariants as answer
use Rattle.vb_calls.specs.declared.calls.VbReply.{VbReply}
use Rattle.vb_calls.specs.Roles.{own_refusal, parent_of, promote_refusal, stream_ids}
use Rattle.vb_calls.specs.Settling.{given_up, left_prepare, left_prepares}
use Rattle.vb_calls.specs.State.{Plain, complete_position, newest_branch, refusal_reply}
use Rattle.cursor_set.specs.Cursors.{Places, place_of}
use Rattle.ckpt_list.specs.Lists.{Ckpts, sealed_list}
use Rattle.vbucket.specs.declared.vbucket.settling.Plan.{Plan}
use Rattle.vbucket.specs.Kept.{Kept}
use Rattle.vbucket.specs.Settling.{own_branch, waiting_behind, with_commits, with_own}

-- the cursor 0 alone, where it stands
abbrev pub zero_at : Option ℕ → Places
zero_at None = map.empty
zero_at (Some place) = map.insert map.empty 0 place

-- no stream is fed from a list any more
abbrev pub unfed : Ckpts → Ckpts
unfed l = record l { places = zero_at (place_of l.places 0) }

-- the open checkpoint is sealed; the vBucket is active, with the chain of its node alone, and the prepares that wait are outstanding
abbrev pub kept_risen : Kept → Kept
kept_risen k = record {
  rest = record k.rest {
    role = Active;
    position = complete_position k.rest.position.at;
    streams = [];
    others = [];
    acks = no_acks;
    waiting = left_prepares k.rest.base;
  };
  list = sealed_list k.list;
}

-- what was outstanding before is given up, and nothing else is planned
abbrev pub lead_plan : Plain → Plan
lead_plan vb = record { at = vb.position.at; changes = []; resolved = given_up vb.waiting }

-- the branch, its parent, and where it begins
abbrev pub lead_answer : Plain → ℕ → VbAnswer
lead_answer vb uuid = answer.Branch uuid (parent_of vb.log) (fork_of vb.position) vb.position.at

-- one more prepare that waits is outstanding, as one that is to be committed again
abbrev pub with_left : List Waiting → List ℕ × Pend → List Waiting
with_left waiting e = placed (left_prepare e) waiting

-- the same, where these are the chain's other members, what they acknowledged and the outstanding prepares
abbrev pub risen_by : Kept → Known → Kept
risen_by k left = record (kept_risen k) { rest = record (kept_risen k).rest { others = left.others; acks = left.acks; waiting = left.waiting } }

-- once a plan is carried out that commits on a branch, no stream is fed any more, and this and the streams that were ended are told
abbrev pub leading_on : Kept → List ℕ → ℕ → VbAnswer → Plan → Kept × VbReply
leading_on k ended uuid said p = (
  record { rest = (fold with_own k p.changes).rest; list = unfed (fold with_own k p.changes).list },
  record { answer = said; resolved = p.resolved; ended = ended; branch = own_branch uuid p.changes; changes = p.changes },
)

-- where these prepares are outstanding
abbrev pub led_with : Kept → ℕ → VbAnswer → Known → Plan → Kept × VbReply
led_with k uuid said left p = leading_on (risen_by k left) (stream_ids k.rest.streams) uuid said p

-- what may be committed on a branch by a vBucket that becomes active
abbrev pub rise_plan : Plain → ℕ → Plan
rise_plan vb uuid = with_commits uuid vb.base (committed_now (acked no_acks) [] vb.saved (left_prepares vb.base)) (lead_plan vb)

-- the vBucket becomes active with the failover log that it has, and commits on a branch
abbrev pub kept_rise : Kept → ℕ → VbAnswer → Kept × VbReply
kept_rise k uuid said = leading_on (kept_risen k) (stream_ids k.rest.streams) uuid said (rise_plan k.rest uuid)

-- all but the checkpoints and the documents, once these changes are made
abbrev pub turned_active : Kept → Known → List Change → Kept
turned_active k left changes = record {
  rest = record k.rest {
    role = Active;
    position = complete_position k.rest.position.at;
    streams = [];
    others = left.others;
    acks = left.acks;
    waiting = fold waiting_behind left.waiting changes;
  };
  list = unfed k.list;
}

-- with this failover log
abbrev pub with_log : List LogEntry → Kept × VbReply → Kept × VbReply
with_log log made = (record made.0 { rest = record made.0.rest { log = log } }, made.1)

-- a promotion that is refused changes nothing
abbrev pub kept_promoted : Option Status → Kept → ℕ → Kept × VbReply
kept_promoted (Some st) k uuid = (k, refusal_reply st)
kept_promoted None k uuid = with_log (with_entry uuid (fork_of k.rest.position) k.rest.log) (kept_rise k uuid (lead_answer k.rest uuid))

-- the vBucket becomes active, on a branch of its own
abbrev pub kept_promote : Kept → ℕ → Kept × VbReply
kept_promote k uuid = kept_promoted (promote_refusal k.rest uuid) k uuid

-- a takeover that is refused changes nothing
abbrev pub kept_owned : Option Status → Kept → Kept × VbReply
kept_owned (Some st) k = (k, refusal_reply st)
kept_owned None k = kept_rise k (newest_branch k.rest.log) answer.Done

-- the vBucket becomes active on the branch that it is on
abbrev pub kept_own : Kept → Kept × VbReply
kept_own k = kept_owned (own_refusal k.rest) k
