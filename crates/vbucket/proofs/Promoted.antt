-- what is kept of a vBucket that becomes active stands for that vBucket
use Rattle.std.proofs.Common.{◌≡◌, ℕ, List, [], refl, ap, sym, subst, ◌∙◌}
use Rattle.std.specs.Prelude.{Option, Some, None}
use Rattle.std.specs.List.{fold}
use Rattle.vb_types.specs.declared.change.Change.{Change}
use Rattle.vb_types.specs.declared.role.LogEntry.{LogEntry}
use Rattle.vb_types.specs.declared.status.Status.{Status}
use Rattle.branch_model.specs.Logs.{with_entry}
use Rattle.branch_model.specs.Requests.{fork_of}
use Rattle.vb_calls.specs.declared.calls.VbAnswer.{VbAnswer}
use Rattle.vb_calls.specs.declared.calls.VbAnswer.TheVariants as answer
use Rattle.vb_calls.specs.declared.calls.VbReply.{VbReply}
use Rattle.vb_calls.specs.Roles.{ending_reply, own_refusal, own_row, owned, promote_refusal, promote_row, promoted, risen, stream_ids}
use Rattle.vb_calls.specs.Settling.{and_settled}
use Rattle.vb_calls.specs.State.{Plain, newest_branch}
use Rattle.ckpt_list.specs.Lists.{Ckpts, sealed_list}
use Rattle.vbucket.specs.Kept.{Kept, SameChanges}
use Rattle.vbucket.specs.Promoting.{kept_own, kept_owned, kept_promote, kept_promoted, kept_rise, kept_risen, lead_answer, lead_plan, rise_plan, unfed, with_log}
use Rattle.vbucket.specs.Settling.{with_own}
use Rattle.vbucket.specs.Stands.{IsKept, folded}
use Rattle.vbucket.proofs.Carrying.{own_all}
use Rattle.vbucket.proofs.Dropping.{unfed_same}
use Rattle.vbucket.proofs.Keeping.{by_folded, settled_stands}
use Rattle.vbucket.proofs.Standing.{Stands, kept_same, kept_sealed}

-- with this failover log, before anything is committed
abbrev kept_with : Kept → List LogEntry → Kept
kept_with k log = record (kept_risen k) { rest = record (kept_risen k).rest { log = log } }

abbrev risen_with : Plain → List LogEntry → Plain
risen_with s log = record (risen s) { log = log }

risen_is_kept : (k : Kept) (s : Plain) (log : List LogEntry) → IsKept k s → IsKept (kept_with k log) (risen_with s log)
risen_is_kept k s log is =
    let same : SameChanges (sealed_list k.list) (sealed_list k.list) = record { rest = refl; zero = refl } in
    kept_sealed k (kept_with k log) s (risen_with s log) is refl (ap (λ (r : Plain). (kept_with (record k { rest = r }) log).rest) is.rest) same

-- the log is the same before the changes and behind them
log_behind : (k : Kept) (log : List LogEntry) (cs : List Change) → fold with_own (kept_with k log) cs ≡ record (fold with_own (kept_risen k) cs) { rest = record (fold with_own (kept_risen k) cs).rest { log = log } }
log_behind k log cs = own_all (kept_with k log) cs ∙ ap (λ (m : Kept). let n : Kept = record m { rest = record m.rest { log = log } } in n) (sym (own_all (kept_risen k) cs))

-- where it stays
logged : (k : Kept) (uuid : ℕ) → (with_log k.rest.log (kept_rise k uuid answer.Done)).0 ≡ (kept_rise k uuid answer.Done).0
logged k uuid =
    let cs : List Change = (rise_plan k.rest uuid).changes in
    let same : (fold with_own (kept_risen k) cs).rest.log ≡ k.rest.log = ap (λ (m : Kept). m.rest.log) (own_all (kept_risen k) cs) in
    λ i. record (kept_rise k uuid answer.Done).0 { rest = record (kept_rise k uuid answer.Done).0.rest { log = sym same i } }

-- cursors of streams are not what a vBucket is told by
kept_unfed : (k : Kept) (s : Plain) → IsKept k s → IsKept (record k { list = unfed k.list }) s
kept_unfed k s is = kept_same k (record k { list = unfed k.list }) s s is refl is.rest (unfed_same k.list)

-- what is committed once it is active on the newest branch of this log, and what is told
rise_stands : (l : Ckpts) (s : Plain) (log : List LogEntry) (said : VbAnswer) → IsKept (record { rest = folded s; list = l }) s
    → Stands (with_log log (kept_rise (record { rest = folded s; list = l }) (newest_branch log) said)).0 (with_log log (kept_rise (record { rest = folded s; list = l }) (newest_branch log) said)).1
    (and_settled (risen_with s log, ending_reply s said))
rise_stands l s log said is =
    let there : Kept = record { rest = folded s; list = l } in
    let after : Plain = (and_settled (risen_with s log, ending_reply s said)).0 in
    let changes : List Change = (rise_plan (folded s) (newest_branch log)).changes in
    let made = settled_stands (kept_with there log) (risen_with s log) (record (ending_reply s said) { ended = [] }) (lead_plan (folded s)) (risen_is_kept there s log is) refl refl refl refl refl refl in (
      kept_unfed (record (fold with_own (kept_risen there) changes) { rest = record (fold with_own (kept_risen there) changes).rest { log = log } }) after
          (subst (λ (k : Kept). IsKept k after) (log_behind there log changes) made.0),
      ap (λ (r : VbReply). record r { ended = stream_ids s.streams }) made.1,
    )

pub promote_stands : (k : Kept) (s : Plain) → IsKept k s → (k' : Kept) (reply : VbReply) (uuid : ℕ) → (k', reply) ≡ kept_promote k uuid → Stands k' reply (promote_row s uuid)
promote_stands k s is k' reply uuid e = by_folded (λ x. kept_promote x uuid) k s k' reply (promote_row s uuid) is e (λ at. by at (promote_refusal s uuid))
  where
    there : Kept
    there = record { rest = folded s; list = k.list }

    by : IsKept there s → (why : Option Status) → Stands (kept_promoted why there uuid).0 (kept_promoted why there uuid).1 (promoted why s uuid)
    by at (Some st) = (at, refl)
    by at None = rise_stands k.list s (with_entry uuid (fork_of s.position) s.log) (lead_answer s uuid) at

pub own_stands : (k : Kept) (s : Plain) → IsKept k s → (k' : Kept) (reply : VbReply) → (k', reply) ≡ kept_own k → Stands k' reply (own_row s)
own_stands k s is k' reply e = by_folded kept_own k s k' reply (own_row s) is e (λ at. by at (own_refusal s))
  where
    there : Kept
    there = record { rest = folded s; list = k.list }

    by : IsKept there s → (why : Option Status) → Stands (kept_owned why there).0 (kept_owned why there).1 (owned why s)
    by at (Some st) = (at, refl)
    by at None =
        let log : List LogEntry = s.log in
        let made = rise_stands k.list s log answer.Done at in
        (subst (λ (x : Kept). IsKept x (owned None s).0) (logged there (newest_branch log)) made.0, made.1)
