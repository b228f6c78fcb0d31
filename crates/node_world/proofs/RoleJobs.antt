-- changes of role, and what becomes of their records
use Rattle.std.proofs.Common.{◌≡◌, inl, inr, ℕ, Bool, true, false, [], refl, sym, ap, ◌∙◌, subst, Option, Some, None, is_some}
use Rattle.std.specs.Prelude.{◌⊎◌, if◌then◌else◌}
use Rattle.vb_events.specs.declared.event.Answer.TheVariants as line
use Rattle.vb_events.specs.declared.event.Cause.TheVariants as cause
use Rattle.vb_types.specs.declared.journal.Record.TheVariants.{State}
use Rattle.vb_types.specs.declared.role.Role.{Role}
use Rattle.vb_types.specs.declared.role.Role.TheVariants as role
use Rattle.vb_types.specs.declared.status.Status.{Status}
use Rattle.vb_types.specs.declared.status.Status.TheVariants as status
use Rattle.vb_calls.specs.declared.calls.VbAnswer.TheVariants as vb_answer
use Rattle.vb_calls.specs.declared.calls.VbCall.TheVariants as call
use Rattle.vb_calls.specs.declared.calls.VbReply.{VbReply}
use Rattle.vb_calls.specs.declared.journals.Wrote.TheVariants as wrote
use Rattle.vb_calls.specs.Flushes.{is_refusal, log_of_reply, note_role_job, role_of_call, role_job, role_told_job, wrote_of}
use Rattle.vb_calls.specs.Jobs.{Ended, Call, bind_job, after_job}
use Rattle.vb_calls.specs.Plain.{plain_step}
use Rattle.vb_calls.specs.Programs.{after}
use Rattle.vb_calls.specs.Roles.{is_role, promote_refusal, promoted, in_role, ending_reply}
use Rattle.vb_calls.specs.Shelves.{Shelf, Shelves, Stood, Append, ask_at, fate_of}
use Rattle.vb_calls.specs.State.{Plain, refusal_reply}
use Rattle.vb_calls.specs.States.{States, states_step, call_at, with_vb_at}
use Rattle.node_core.specs.declared.admin.AdminCall.{AdminCall}
use Rattle.node_core.specs.declared.admin.AdminCall.TheVariants as admin
use Rattle.node_core.specs.Admin.{AdminResult, admin_at, admin_call, admin_job, admin_refused, admin_result, noted_answer, role_noted}
use Rattle.node_world.specs.Lines.{ChangesRole}
use Rattle.node_world.specs.Nodes.{PlainNode, with_kept, with_states}
use Rattle.node_world.specs.Turns.{KeepsRole, called_at}
use Rattle.node_world.proofs.Shelved.{vb_again}

-- a call that changes no role asks nothing of journals
pub called_quiet : (n v : ℕ) (asked : AdminCall) (node : PlainNode) → KeepsRole asked → called_at n v asked node ≡ (with_states node (after (admin_at n v asked) node.vbs).0, (after (admin_at n v asked) node.vbs).1)
called_quiet n v (admin.Promote uuid) node keeps = absurd keeps
called_quiet n v admin.Follow node keeps = absurd keeps
called_quiet n v admin.Dead node keeps = absurd keeps
called_quiet n v admin.Seal node keeps = refl
called_quiet n v admin.Trim node keeps = refl
called_quiet n v admin.Stat node keeps = refl
called_quiet n v admin.Show node keeps = refl
called_quiet n v admin.Log node keeps = refl

-- the calls to become a replica, and dead, by whether they are refused
abbrev pub turn_by : Bool → Plain → Role → Plain × VbReply
turn_by b vb new = if b then (vb, refusal_reply status.NotMyVbucket) else (in_role vb new, ending_reply vb vb_answer.Done)

module _ (n v : ℕ) (asked : AdminCall) (states : States) (shelves : Shelves) where
  -- what a call comes to that was refused, or was made and is written down
  abbrev pub noted_by : States → VbReply → Bool → (States × Shelves) × AdminResult
  noted_by after_it reply b =
      after_job (bind_job (if b then Ended (Some reply, wrote.NotAsked) else Call v call.Log (note_role_job v (role_of_call (admin_call asked)) reply)) (λ made. Ended (role_noted n v asked made))) after_it shelves

  -- by the vBucket and its reply
  abbrev pub came_to : Plain × VbReply → (States × Shelves) × AdminResult
  came_to x = noted_by (with_vb_at states v x.0) x.1 (is_refusal x.1.answer)

  -- by what stands at v
  abbrev pub came_if : Option Plain → (States × Shelves) × AdminResult
  came_if None = ((states, shelves), admin_refused cause.UnknownVb)
  came_if (Some vb) = came_to (plain_step vb (admin_call asked))

  told_is : (o : Option Plain) → admin_result n v asked None ≡ admin_refused cause.UnknownVb
      → after_job (bind_job (role_told_job v (admin_call asked) (call_at states v (admin_call asked) o).1) (λ made. Ended (role_noted n v asked made))) (call_at states v (admin_call asked) o).0 shelves ≡ came_if o
  told_is None e = refl
  told_is (Some vb) e = refl

-- so it is of each change of role
pub turn_is : (n v : ℕ) (asked : AdminCall) → ChangesRole asked → (states : States) (shelves : Shelves) → after_job (admin_job n v asked) states shelves ≡ came_if n v asked states shelves (states v)
unfolding role_job
turn_is n v (admin.Promote uuid) changes states shelves = told_is n v (admin.Promote uuid) states shelves (states v) refl
turn_is n v admin.Follow changes states shelves = told_is n v admin.Follow states shelves (states v) refl
turn_is n v admin.Dead changes states shelves = told_is n v admin.Dead states shelves (states v) refl
turn_is n v admin.Seal changes states shelves = absurd changes
turn_is n v admin.Trim changes states shelves = absurd changes
turn_is n v admin.Stat changes states shelves = absurd changes
turn_is n v admin.Show changes states shelves = absurd changes
turn_is n v admin.Log changes states shelves = absurd changes

-- a vBucket refuses the call and stays as it was, and then no role is told of; or it is made, and streams end
abbrev Settles : Plain → Plain × VbReply → AdminResult → Type 0
Settles vb x told =
    ((is_refusal x.1.answer ≡ true) × (x.0 ≡ vb) × (told.resolved ≡ []) × (told.answer ≡ line.Ok → ⊥)) ⊎ ((is_refusal x.1.answer ≡ false) × (is_some told.ended ≡ true))

settles : (n v : ℕ) (vb : Plain) (asked : AdminCall) → ChangesRole asked → Settles vb (plain_step vb (admin_call asked)) (admin_result n v asked (Some (plain_step vb (admin_call asked)).1))
settles n v vb (admin.Promote uuid) changes = by (promote_refusal vb uuid)
  where
    by : (o : Option Status) → Settles vb (promoted o vb uuid) (admin_result n v (admin.Promote uuid) (Some (promoted o vb uuid).1))
    by None = inr (refl, refl)
    by (Some st) = inl (refl, refl, refl, λ ok. cc)
settles n v vb admin.Follow changes = by (is_role vb.role role.Replica)
  where
    by : (b : Bool) → Settles vb (turn_by b vb role.Replica) (admin_result n v admin.Follow (Some (turn_by b vb role.Replica).1))
    by true = inl (refl, refl, refl, λ ok. cc)
    by false = inr (refl, refl)
settles n v vb admin.Dead changes = by (is_role vb.role role.Dead)
  where
    by : (b : Bool) → Settles vb (turn_by b vb role.Dead) (admin_result n v admin.Dead (Some (turn_by b vb role.Dead).1))
    by true = inl (refl, refl, refl, λ ok. cc)
    by false = inr (refl, refl)
settles n v vb admin.Seal changes = absurd changes
settles n v vb admin.Trim changes = absurd changes
settles n v vb admin.Stat changes = absurd changes
settles n v vb admin.Show changes = absurd changes
settles n v vb admin.Log changes = absurd changes

-- where no stream ends, the vBuckets and their journals stay as they were, no durable write is resolved, and the answer is a refusal
abbrev pub StaysAs : States → Shelves → (States × Shelves) × AdminResult → Type 0
StaysAs states shelves came = (came.0 ≡ (states, shelves)) × (came.1.resolved ≡ []) × (came.1.answer ≡ line.Ok → ⊥)

stays_if : (n v : ℕ) (asked : AdminCall) → ChangesRole asked → (states : States) (shelves : Shelves) (o : Option Plain) → states v ≡ o → (came_if n v asked states shelves o).1.ended ≡ None → StaysAs states shelves (came_if n v asked states shelves o)
stays_if n v asked changes states shelves None there none = (refl, refl, λ ok. cc)
stays_if n v asked changes states shelves (Some vb) there none = by (settles n v vb asked changes)
  where
    x : Plain × VbReply
    x = plain_step vb (admin_call asked)

    told : AdminResult
    told = admin_result n v asked (Some x.1)

    by : Settles vb x told → StaysAs states shelves (came_to n v asked states shelves x)
    by (inl (refused, same, quiet, never)) =
        subst (λ b. StaysAs states shelves (noted_by n v asked states shelves (with_vb_at states v x.0) x.1 b)) (sym refused)
        (ap (λ s. (s, shelves)) (ap (with_vb_at states v) same ∙ vb_again states v vb there), quiet, never)
    by (inr (made, some)) =
        let ended : told.ended ≡ None = sym (ap (λ b. (noted_by n v asked states shelves (with_vb_at states v x.0) x.1 b).1.ended) made) ∙ none in
        let no : true ≡ false = sym some ∙ ap is_some ended in
        cc

pub turn_stays : (n v : ℕ) (asked : AdminCall) → ChangesRole asked → (node : PlainNode) → (called_at n v asked node).1.ended ≡ None
    → ((called_at n v asked node).0 ≡ node) × ((called_at n v asked node).1.resolved ≡ []) × ((called_at n v asked node).1.answer ≡ line.Ok → ⊥)
turn_stays n v asked changes node none =
    let is = turn_is n v asked changes node.vbs node.shelves in
    let (kept, quiet, never) = stays_if n v asked changes node.vbs node.shelves (node.vbs v) refl (sym (ap (λ (c : (States × Shelves) × AdminResult). c.1.ended) is) ∙ none) in
    (ap (λ (c : (States × Shelves) × AdminResult). with_kept node c.0) is ∙ ap (with_kept node) kept, ap (λ (c : (States × Shelves) × AdminResult). c.1.resolved) is ∙ quiet, λ ok. never (sym (ap (λ (c : (States × Shelves) × AdminResult). c.1.answer) is) ∙ ok))

-- a call that is made is answered as the vBucket answers, where its journal is there and its record stands
pub noted_well : (n v : ℕ) (asked : AdminCall) (states after_it : States) (shelves : Shelves) (reply : VbReply) (shelf : Shelf) → shelves v ≡ Some shelf → fate_of shelf ≡ Stood
    → (noted_by n v asked states shelves after_it reply false).1.answer ≡ (admin_result n v asked (Some reply)).answer
noted_well n v asked states after_it shelves reply shelf there sound =
    ap (λ (o : Option Shelf). noted_answer (wrote_of (ask_at shelves v (Append (State (role_of_call (admin_call asked)) (log_of_reply (states_step after_it v call.Log).1))) o).1) (admin_result n v asked (Some reply)).answer) there
    ∙ ap (λ fate. noted_answer (wrote_of fate) (admin_result n v asked (Some reply)).answer) sound
