-- a vBucket takes another role: who waited is told, and nobody waits for nothing once that is posted
use Rattle.std.specs.Prelude.{◌≡◌, ◌⊎◌}
use Rattle.transcript_law.proofs.Words.{ℕ, true, List, [], refl, sym, ◌∙◌, subst, inl, inr, ⊎_elim, Option, Some, None, AdminCall, AdminResult, PlainNode, VbCall, VbReply, after_job, Change, called_at, Ended}
use Rattle.client_session.proofs.Conduct.{either}
use Rattle.node_core.specs.Admin.{admin_job, changes_role, role_noted}
use Rattle.node_core.specs.Flushing.{resolved_in}
use Rattle.node_core.specs.declared.admin.AdminCall.TheVariants as admin
use Rattle.node_world.specs.Nodes.{all_posted}
use Rattle.transcript_law.proofs.awaiting.{Jobs.{Ends, KeptOr, SettlesOnce, settles_once}, Nodes.{bind_once, told_good, waits_of}, Posts.{Good, posts_good}}
use Rattle.transcript_law.proofs.invariant.{AtRest.{Still, still_steps}, CallsKept.{ran_job}, TimelyCalls.{admin_tame}}
use Rattle.transcript_law.specs.Waits.{NoneWaitsInVain}
use Rattle.vb_calls.specs.Flushes.{is_refusal, note_role_job, role_job, role_of_call, role_told_job, wrote_of}
use Rattle.vb_calls.specs.Jobs as job
use Rattle.vb_calls.specs.declared.calls.Resolved.{Resolved}
use Rattle.vb_calls.specs.declared.calls.VbAnswer.{VbAnswer}
use Rattle.vb_calls.specs.declared.calls.VbAnswer.TheVariants as answer
use Rattle.vb_calls.specs.declared.calls.VbCall.TheVariants as call
use Rattle.vb_calls.specs.declared.journals.Wrote.{Wrote}
use Rattle.vb_calls.specs.declared.journals.Wrote.TheVariants as wrote
use Rattle.vbucket.specs.Laws.{IsTimely}

-- it gave no role, or these are its outcomes
abbrev pub Gave : AdminResult → List Resolved → Type 0
Gave a rs = (a.ended ≡ None) ⊎ (a.resolved ≡ rs)

module _ (n v : ℕ) where
  promoted : (uuid : ℕ) (ended : List ℕ) (resolved : List Resolved) (branch : ℕ) (changes : List Change) (said : VbAnswer) (w : Wrote) → let r : VbReply = record { answer = said; resolved = resolved; ended = ended; branch = branch; changes = changes } in Gave (role_noted n v (admin.Promote uuid) (Some r, w)) resolved
  promoted uuid ended resolved branch changes (answer.Branch id parent fork high) w = inr refl
  promoted uuid ended resolved branch changes (answer.Status st) w = inl refl
  promoted uuid ended resolved branch changes other w = inl refl

  followed : (ended : List ℕ) (resolved : List Resolved) (branch : ℕ) (changes : List Change) (said : VbAnswer) (w : Wrote) → let r : VbReply = record { answer = said; resolved = resolved; ended = ended; branch = branch; changes = changes } in Gave (role_noted n v admin.Follow (Some r, w)) resolved
  followed ended resolved branch changes answer.Done w = inr refl
  followed ended resolved branch changes other w = inl refl

  died : (ended : List ℕ) (resolved : List Resolved) (branch : ℕ) (changes : List Change) (said : VbAnswer) (w : Wrote) → let r : VbReply = record { answer = said; resolved = resolved; ended = ended; branch = branch; changes = changes } in Gave (role_noted n v admin.Dead (Some r, w)) resolved
  died ended resolved branch changes answer.Done w = inr refl
  died ended resolved branch changes other w = inl refl

  module _ (asked : AdminCall) (made : VbCall) (some : (r : VbReply) (w : Wrote) → Gave (role_noted n v asked (Some r, w)) r.resolved) where
    told : (reply : Option VbReply) → Ends (λ x rs. Gave (role_noted n v asked x) rs) (resolved_in reply) (role_told_job v made reply)
    told None = inl refl
    told (Some r) = either (Ends (λ x rs. Gave (role_noted n v asked x) rs) r.resolved) (is_refusal r.answer) (Ended (Some r, wrote.NotAsked)) (job.Call v call.Log (note_role_job v (role_of_call made) r)) (some r wrote.NotAsked)
        (tt, λ logged fate. some r (wrote_of fate))

    once : IsTimely made → SettlesOnce (λ x rs. Gave (role_noted n v asked x) rs) (role_job v made)
    unfolding role_job
    once timely = inr (timely, λ reply. told reply)

  role_once : (asked : AdminCall) → changes_role asked ≡ true → SettlesOnce Gave (admin_job n v asked)
  role_once (admin.Promote uuid) e = bind_once Gave (role_noted n v (admin.Promote uuid)) (role_job v (call.Promote uuid)) (once (admin.Promote uuid) (call.Promote uuid) (λ r w. promoted uuid r.ended r.resolved r.branch r.changes r.answer w) tt)
  role_once admin.Follow e = bind_once Gave (role_noted n v admin.Follow) (role_job v call.Follow) (once admin.Follow call.Follow (λ r w. followed r.ended r.resolved r.branch r.changes r.answer w) tt)
  role_once admin.Dead e = bind_once Gave (role_noted n v admin.Dead) (role_job v call.Dead) (once admin.Dead call.Dead (λ r w. died r.ended r.resolved r.branch r.changes r.answer w) tt)
  role_once other e = cc

  -- behind such a call who waits is about to be told
  pub role_good : (asked : AdminCall) (ids : List ℕ) (node : PlainNode) → Good n [] node → changes_role asked ≡ true → (called_at n v asked node).1.ended ≡ Some ids → Good n (called_at n v asked node).1.resolved (called_at n v asked node).0
  role_good asked ids node g role gave =
      let x = after_job (admin_job n v asked) node.vbs node.shelves in
      let k = settles_once Gave (admin_job n v asked) node.vbs node.shelves (role_once asked role) g.still in
      told_good n x.1.resolved node (called_at n v asked node).0 refl (λ c. refl) refl
      (ran_job Still IsTimely still_steps (λ id. tt) (λ u made. IsTimely made) (λ u ask. Unit {0}) (λ a. Unit {0}) (λ u made t. t) (admin_job n v asked) node.vbs node.shelves (admin_tame n v asked) g.still)
      (⊎_elim (λ none. let z : None ≡ Some ids = sym none ∙ gave in absurd (cc z)) (λ same. subst (λ rs. KeptOr rs node.vbs x.0.0) (sym same) k.1) k.2) g

  pub role_waits : (asked : AdminCall) (ids : List ℕ) (node : PlainNode) → Good n [] node → changes_role asked ≡ true → (called_at n v asked node).1.ended ≡ Some ids → NoneWaitsInVain (all_posted (called_at n v asked node).1.resolved (called_at n v asked node).0).0
  role_waits asked ids node g role gave =
      let x = called_at n v asked node in
      waits_of n (all_posted x.1.resolved x.0).0 (posts_good n x.1.resolved x.0 (role_good asked ids node g role gave))
