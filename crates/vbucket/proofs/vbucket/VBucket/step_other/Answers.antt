use Rattle.std.proofs.Common.{◌≡◌, ap, sym, subst, ◌∙◌, Result, Ok, Err}
use Rattle.std.specs.Prelude.{ℕ, true, OnErr}
use Rattle.std.proofs.lemmas.Result.{IfOk-weaker}
use Rattle.vb_types.specs.declared.role.Role.TheVariants.{Replica, Dead}
use Rattle.vb_calls.specs.declared.calls.VbCall.{VbCall}
use Rattle.vb_calls.specs.declared.calls.VbCall.TheVariants.{FlushDone}
use Rattle.vb_calls.specs.State.{is_active}
use Rattle.vb_calls.specs.Following.{adopt_row}
use Rattle.vb_calls.specs.Plain.{Plain}
use Rattle.vbucket.specs.Kept.{Kept}
use Rattle.vbucket.specs.Settling.{kept_flushed}
use Rattle.vbucket.specs.Stands.{MayFail, StandsFor}
use Rattle.vbucket.proofs.Standing.{adopt_stands, flush_stands, mark_stands, pend_stands, receive_stands, role_stands, roll_stands, yield_stands}
use Rattle.vbucket.proofs.Keeping.{flushed_stands}
use Rattle.vbucket.proofs.Promoted.{own_stands, promote_stands}
use Rattle.vbucket.proofs.Stepping.{both, told}
use Rattle.vbucket.proofs.Trimming.{drop_stands, trim_stands}
use Rattle.vbucket.proofs.vbucket.VBucket.step_other.Goals as goal

pub returns-in-Adopt-clause-ok : goal.returns-in-Adopt-clause-ok
returns-in-Adopt-clause-ok c =
    IfOk-weaker c.adopt.result _ _ (λ reply e. told c.args.self.now c.args.call _ c.in-Adopt.is c.adopt.new.self reply (λ s kept. adopt_stands c.args.self.now s kept c.adopt.new.self reply c.in-Adopt.log (e ∙ ap (adopt_row c.args.self.now.rest) c.as_slice.ensures) c.adopt.ensures.list)) c.adopt.ensures.ok

pub returns-in-Marker-clause-ok : goal.returns-in-Marker-clause-ok
returns-in-Marker-clause-ok c =
    both c.mark.result _ _ _ c.mark.ensures.ok c.mark.ensures.list
    (λ reply e l. told c.args.self.now c.args.call _ c.in-Marker.is c.mark.new.self reply (λ s kept. mark_stands c.args.self.now s kept c.mark.new.self reply c.in-Marker.start c.in-Marker.end e l))

pub returns-in-Receive-clause-ok : goal.returns-in-Receive-clause-ok
returns-in-Receive-clause-ok c =
    IfOk-weaker c.receive.result _ _ (λ reply e. told c.args.self.now c.args.call _ c.in-Receive.is c.receive.new.self reply (λ s kept. receive_stands c.args.self.now s kept c.receive.new.self reply c.in-Receive.change e)) c.receive.ensures.ok

pub returns-in-Promote-clause-ok : goal.returns-in-Promote-clause-ok
returns-in-Promote-clause-ok c =
    IfOk-weaker c.promote.result _ _ (λ reply e. told c.args.self.now c.args.call _ c.in-Promote.is c.promote.new.self reply (λ s kept. promote_stands c.args.self.now s kept c.promote.new.self reply c.in-Promote.uuid e)) c.promote.ensures.ok

pub returns-in-RollTo-clause-ok : goal.returns-in-RollTo-clause-ok
returns-in-RollTo-clause-ok c =
    IfOk-weaker c.roll_to.result _ _ (λ reply e. told c.args.self.now c.args.call _ c.in-RollTo.is c.roll_to.new.self reply (λ s kept. roll_stands c.args.self.now s kept c.roll_to.new.self reply c.in-RollTo.at c.in-RollTo.image c.in-RollTo.cas e))
    c.roll_to.ensures.ok

pub returns-in-Follow-clause-ok : goal.returns-in-Follow-clause-ok
returns-in-Follow-clause-ok c =
    both c.set_role.result _ _ _ c.set_role.ensures.ok c.set_role.ensures.list
    (λ reply e l. told c.args.self.now c.args.call _ c.in-Follow.is c.set_role.new.self reply (λ s kept. role_stands c.args.self.now s kept c.set_role.new.self reply Replica e l))

pub returns-in-Dead-clause-ok : goal.returns-in-Dead-clause-ok
returns-in-Dead-clause-ok c =
    both c.set_role-in-Dead.result _ _ _ c.set_role-in-Dead.ensures.ok c.set_role-in-Dead.ensures.list
    (λ reply e l. told c.args.self.now c.args.call _ c.in-Dead.is c.set_role-in-Dead.new.self reply (λ s kept. role_stands c.args.self.now s kept c.set_role-in-Dead.new.self reply Dead e l))

pub returns-in-Pend-clause-ok : goal.returns-in-Pend-clause-ok
returns-in-Pend-clause-ok c =
    both c.pend.result _ _ _ c.pend.ensures.ok c.pend.ensures.list (λ reply e l. told c.args.self.now c.args.call _ c.in-Pend.is c.pend.new.self reply (λ s kept. pend_stands c.args.self.now s kept c.pend.new.self reply e l))

pub returns-in-Own-clause-ok : goal.returns-in-Own-clause-ok
returns-in-Own-clause-ok c =
    IfOk-weaker c.own.result _ _ (λ reply e. told c.args.self.now c.args.call _ c.in-Own.is c.own.new.self reply (λ s kept. own_stands c.args.self.now s kept c.own.new.self reply e)) c.own.ensures.ok

pub returns-in-Yield-clause-ok : goal.returns-in-Yield-clause-ok
returns-in-Yield-clause-ok c =
    both c.hand_over.result _ _ _ c.hand_over.ensures.ok c.hand_over.ensures.list
    (λ reply e l. told c.args.self.now c.args.call _ c.in-Yield.is c.hand_over.new.self reply (λ s kept. yield_stands c.args.self.now s kept c.hand_over.new.self reply c.in-Yield.id e l))

pub returns-in-Trim-clause-ok : goal.returns-in-Trim-clause-ok
returns-in-Trim-clause-ok c =
    told c.args.self.now c.args.call _ c.in-Trim.is c.trim.new.self c.trim.result (λ s kept. trim_stands c.args.self.now s kept c.trim.new.self c.trim.result c.trim.ensures.row c.trim.ensures.needless)

pub returns-in-DropCursor-clause-ok : goal.returns-in-DropCursor-clause-ok
returns-in-DropCursor-clause-ok c =
    told c.args.self.now c.args.call _ c.in-DropCursor.is c.drop_cursor.new.self c.drop_cursor.result
    (λ s kept. drop_stands c.args.self.now s kept c.drop_cursor.new.self c.drop_cursor.result c.in-DropCursor.id c.drop_cursor.ensures.row c.drop_cursor.ensures.list)

pub returns-in-FlushTake-clause-ok : goal.returns-in-FlushTake-clause-ok
returns-in-FlushTake-clause-ok c =
    IfOk-weaker c.flush_take.result _ _ (λ reply e. told c.args.self.now c.args.call _ c.in-FlushTake.is c.flush_take.new.self reply (λ s kept. flush_stands c.args.self.now s kept c.flush_take.new.self reply e)) c.flush_take.ensures.ok

pub returns-in-FlushDone-clause-ok : goal.returns-in-FlushDone-clause-ok
returns-in-FlushDone-clause-ok c =
    IfOk-weaker c.flush_done.result _ _
    (λ reply e. told c.args.self.now c.args.call _ c.in-FlushDone.is c.flush_done.new.self reply (λ s kept. flushed_stands c.args.self.now s kept c.flush_done.new.self reply c.in-FlushDone.receipt (e ∙ ap (kept_flushed c.args.self.now) c.seq.ensures))) c.flush_done.ensures.ok

failed : {A E : Type 0} (r : Result A E) (P Q : Type 0) → OnErr r P → (P → Q) → OnErr r Q
failed (Ok x) P Q p f = tt
failed (Err e) P Q p f = f p

only_active : (k : Kept) (call : VbCall) (receipt : ℕ) → call ≡ FlushDone receipt → is_active k.rest.role ≡ true → (s : Plain) → StandsFor k s → MayFail s call
unfolding StandsFor
only_active k call receipt is active = λ s kept. subst (MayFail s) (sym is) (ap (λ (r : Plain). is_active r.role) (sym kept.rest) ∙ active)

pub returns-in-FlushDone-clause-active : goal.returns-in-FlushDone-clause-active
returns-in-FlushDone-clause-active c = failed c.flush_done.result _ _ c.flush_done.ensures.sure (only_active c.args.self.now c.args.call c.in-FlushDone.receipt c.in-FlushDone.is)
