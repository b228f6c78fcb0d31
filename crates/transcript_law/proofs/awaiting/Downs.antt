-- a line `down`: who waited at its node waits on, also where a vBucket takes its branch over
use Rattle.std.specs.Prelude.{◌≡◌, ◌⊎◌, ◌+◌, if◌then◌else◌}
use Rattle.transcript_law.proofs.Words.{ℕ, Bool, true, false, List, [], ◌∷◌, refl, ap, sym, ◌∙◌, subst, inl, inr, take, Option, Some, None, Act, Change, Plain, PlainLink, PlainNode, Role, Sound, Status, VbCall, VbReply, is_follower, is_next, is_role, newest_branch, plain_step, quiet_reply, refusal_reply, moved_len, dial_bytes, dial_of}
use Rattle.dcp_consumer.specs.declared.handshake.Dialed.{Dialed}
use Rattle.durability.specs.{Laws.{Waits}, declared.waiting.Waiting.{Waiting}}
use Rattle.node_core.proofs.Conduct.{bytes_follow}
use Rattle.node_core.specs.Conduct.{FollowsAt, IsFollowing, IsTakingOver, KeepsLink, RollsAt}
use Rattle.node_core.specs.Dials.{untold}
use Rattle.node_world.specs.{Arms.{placed}, World.{down_in}}
use Rattle.transcript_law.proofs.answers.Awaited.{idle_none}
use Rattle.transcript_law.proofs.awaiting.{Jobs.{idle_leaves}, States.{job_leaves}, Stays.{Stays, stays_kept}}
use Rattle.transcript_law.proofs.invariant.{AtRest.{Still}, CallsKept.{AllAt}}
use Rattle.transcript_law.specs.Waits.{LeavesOthers}
use Rattle.vb_calls.specs.{Following.{cas_of, committed_act, completed_act, is_answerable, marked_vb, marker_fits, receive_as, rolled_vb}, Roles.{ending_reply, in_role, is_heir, own_refusal, owned, risen}, Settling.{Resolving, committed_by, may_commit, resolved_by, settled_from, unresolved}, State.{pending_of}}
use Rattle.vb_calls.specs.declared.calls.Resolution.TheVariants.{Committed}
use Rattle.vb_calls.specs.declared.calls.VbAnswer.TheVariants as answer
use Rattle.vb_calls.specs.declared.calls.VbCall.TheVariants as call
use Rattle.vb_types.specs.declared.role.Role.TheVariants as role
use Rattle.vb_types.specs.declared.status.Status.TheVariants as status

-- a call of a dial, or the end of a stream
abbrev pub IsOfDial : VbCall → Type 0
IsOfDial (call.CloseStream id) = Unit {0}
IsOfDial other = IsFollowing other ⊎ IsTakingOver other

of_dial : (d : Dialed) (m : ℕ) (made : VbCall) → FollowsAt d m made → IsOfDial made
of_dial d m (call.CloseStream id) f = tt
of_dial d m other (own, inl f) = inl f
of_dial d m other (own, inr f) = inr f.1

-- nobody waits at a vBucket that follows
abbrev pub IdleIf : Plain → Type 0
IdleIf vb = (w : Waiting) → is_follower vb.role ≡ true → Waits w vb.waiting → ⊥

pub sound_idle : (vb : Plain) → Sound vb → IdleIf vb
sound_idle vb s w f i = idle_none vb w s f i

-- one that only its own calls leave pending is no more once it owns its branch: what is committed then leaves its role
settled_role : (ws : List Waiting) (s : Resolving) → (settled_from ws s).vb.role ≡ s.vb.role
settled_role [] s = refl
settled_role (w ∷ more) s = by (λ t. settled_role more t) (may_commit s.vb w) (committed_act w.seq (pending_of s.vb w.key))
  where
    by : ((t : Resolving) → (settled_from more t).vb.role ≡ t.vb.role) → (b : Bool) (a : Option Act) → (if b then committed_by a w (settled_from more) s else s).vb.role ≡ s.vb.role
    by rest false a = refl
    by rest true None = refl
    by rest true (Some a) = rest (resolved_by a (Committed (newest_branch s.vb.log) (s.vb.position.at + 1) (cas_of a)) w s)

module _ (vb : Plain) where
  -- it is as it was in what this speaks of
  same_idle : (x : Plain) → x.role ≡ vb.role → x.waiting ≡ vb.waiting → IdleIf vb → IdleIf x
  same_idle x roles waits idle w f i = idle w (sym (ap is_follower roles) ∙ f) (subst (Waits w) waits i)

  either_idle : (b d : Bool) (made : Plain × VbReply) (other refused : VbReply) → IdleIf made.0 → IdleIf vb → (let x : Plain × VbReply = if b then (if d then made else (vb, other)) else (vb, refused) in IdleIf x.0)
  either_idle true true made other refused now before = now
  either_idle true false made other refused now before = before
  either_idle false d made other refused now before = before

  received_idle : (a : Option Act) (c : Change) → IdleIf vb → IdleIf (receive_as a vb c).0
  received_idle None c idle = idle
  received_idle (Some a) c idle = same_idle (receive_as (Some a) vb c).0 refl refl idle

  pended_idle : (b : Bool) → IdleIf vb → (let x : Plain × VbReply = if b then (in_role vb role.Pending, ending_reply vb answer.Done) else (vb, refusal_reply status.NotMyVbucket) in IdleIf x.0)
  pended_idle true idle w f i = i
  pended_idle false idle w f i = idle w f i

  owned_idle : (why : Option Status) → IdleIf vb → IdleIf (owned why vb).0
  owned_idle (Some st) idle w f i = idle w f i
  owned_idle None idle w f i = let z : true ≡ false = sym f ∙ ap is_follower (settled_role (risen vb).waiting (unresolved (risen vb))) in cc

  dial_idle : (made : VbCall) → IsOfDial made → IdleIf vb → IdleIf (plain_step vb made).0
  dial_idle (call.CloseStream id) k idle = same_idle (plain_step vb (call.CloseStream id)).0 refl refl idle
  dial_idle (call.Adopt log) k idle = either_idle (is_follower vb.role) (is_answerable log) (record vb { log = log; first = true }, quiet_reply answer.Done) (refusal_reply status.Einval) (refusal_reply status.NotMyVbucket) (same_idle (record vb { log = log; first = true }) refl refl idle) idle
  dial_idle (call.Marker start end) k idle =
      either_idle (is_follower vb.role) (marker_fits vb.position vb.first start end) (marked_vb vb start end, _) (refusal_reply status.Erange) (refusal_reply status.NotMyVbucket) (same_idle (marked_vb vb start end) refl refl idle) idle
  dial_idle (call.Receive c) k idle =
      let a : Option Act = completed_act (pending_of vb c.key) c.act in
      either_idle (is_follower vb.role) (is_next vb.position c.seq) (receive_as a vb c) (refusal_reply status.Erange) (refusal_reply status.NotMyVbucket) (received_idle a c idle) idle
  dial_idle (call.RollTo at image cas) k idle =
      either_idle (is_follower vb.role) true (rolled_vb vb at image cas, quiet_reply (answer.Num at)) (refusal_reply status.NotMyVbucket) (refusal_reply status.NotMyVbucket) (same_idle (rolled_vb vb at image cas) refl refl idle) idle
  dial_idle call.Ask k idle = idle
  dial_idle call.Due k idle = idle
  dial_idle call.Stat k idle = idle
  dial_idle call.Show k idle = idle
  dial_idle call.Log k idle = idle
  dial_idle call.Pend k idle = pended_idle (is_follower vb.role) idle
  dial_idle call.Own k idle = owned_idle (own_refusal vb) idle
  dial_idle other (inl k) idle = absurd k
  dial_idle other (inr k) idle = absurd k

  -- who waits at it waits on: none waits at one that follows
  kept_or_idle : (b : Bool) (made : Plain) (said refused : VbReply) (w : Waiting) → is_follower vb.role ≡ b → IdleIf vb → Waits w vb.waiting → (let x : Plain × VbReply = if b then (made, said) else (vb, refused) in Waits w x.0.waiting)
  kept_or_idle true made said refused w f idle i = absurd (idle w f i)
  kept_or_idle false made said refused w f idle i = i

  received_waits : (w : Waiting) (c : Change) (other refused : VbReply) → Waits w vb.waiting → (b d : Bool) (a : Option Act) → (let x : Plain × VbReply = if b then (if d then receive_as a vb c else (vb, other)) else (vb, refused) in Waits w x.0.waiting)
  received_waits w c other refused i false d a = i
  received_waits w c other refused i true false a = i
  received_waits w c other refused i true true None = i
  received_waits w c other refused i true true (Some a) = i

  -- only a pending one takes its branch over
  pending_follows : (is_role vb.role role.Pending ≡ true) → is_follower vb.role ≡ true
  pending_follows e = by vb.role e
    where
      by : (x : Role) → is_role x role.Pending ≡ true → is_follower x ≡ true
      by role.Pending q = refl
      by role.Active q = cc
      by role.Replica q = cc
      by role.Dead q = cc

  owned_waits : (w : Waiting) → IdleIf vb → Waits w vb.waiting → (why : Option Status) → own_refusal vb ≡ why → Waits w (owned why vb).0.waiting
  owned_waits w idle i (Some st) e = i
  owned_waits w idle i None e = absurd (by (is_role vb.role role.Pending) refl e)
    where
      by : (b : Bool) → is_role vb.role role.Pending ≡ b → (if b then (if is_heir vb then None else Some status.Einval) else Some status.NotMyVbucket) ≡ None → ⊥
      by true q none = idle w (pending_follows q) i
      by false q none = cc

  dial_leaves : (made : VbCall) → IsOfDial made → IdleIf vb → LeavesOthers vb (plain_step vb made)
  dial_leaves (call.CloseStream id) k idle w i = idle_leaves vb (call.CloseStream id) tt w i
  dial_leaves (call.Adopt log) k idle w i = idle_leaves vb (call.Adopt log) tt w i
  dial_leaves (call.Marker start end) k idle w i = idle_leaves vb (call.Marker start end) tt w i
  dial_leaves (call.Receive c) k idle w i = received_waits w c (refusal_reply status.Erange) (refusal_reply status.NotMyVbucket) i (is_follower vb.role) (is_next vb.position c.seq) (completed_act (pending_of vb c.key) c.act)
  dial_leaves (call.RollTo at image cas) k idle w i = kept_or_idle (is_follower vb.role) (rolled_vb vb at image cas) (quiet_reply (answer.Num at)) (refusal_reply status.NotMyVbucket) w refl idle i
  dial_leaves call.Ask k idle w i = i
  dial_leaves call.Due k idle w i = i
  dial_leaves call.Stat k idle w i = i
  dial_leaves call.Show k idle w i = i
  dial_leaves call.Log k idle w i = i
  dial_leaves call.Pend k idle w i = kept_or_idle (is_follower vb.role) (in_role vb role.Pending) (ending_reply vb answer.Done) (refusal_reply status.NotMyVbucket) w refl idle i
  dial_leaves call.Own k idle w i = owned_waits w idle i (own_refusal vb) refl
  dial_leaves other (inl k) idle w i = absurd k
  dial_leaves other (inr k) idle w i = absurd k

pub down_stays : (wanted : ℕ) (link : PlainLink) (node : PlainNode) → AllAt Still node.vbs → Stays (Some node) (Some (down_in wanted link node).0)
down_stays wanted link node still =
    let d : Dialed = link.consumer.dialed in let x : PlainNode = placed d.vb node in
    stays_kept node (down_in wanted link node).0 (λ c. refl)
    (job_leaves IdleIf IsOfDial (λ vb made k idle. dial_idle vb made k idle) (λ id. tt) (λ vb made k idle. dial_leaves vb made k idle) (FollowsAt d) (RollsAt d) (KeepsLink (untold (dial_of link))) (λ m made f. of_dial d m made f)
    (dial_bytes (take (moved_len wanted link.down) link.down) (dial_of link)) x.vbs x.shelves (bytes_follow (take (moved_len wanted link.down) link.down) (dial_of link)) (λ v vb e. sound_idle vb (still v vb e).0))
