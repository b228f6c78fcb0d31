-- what an operator's call comes to, by what its parts came to
use Rattle.std.proofs.Common.{◌≡◌, ◌++◌, refl, ap, sym, ◌∙◌, subst, ℕ, List, [], Option, None, Some, is_some, Result, Ok, Err, OnErr}
use Rattle.std.specs.Option.{option_map}
use Rattle.slab.specs.Slab.{get}
use Rattle.vb_calls.specs.declared.calls.VbCall.{VbCall}
use Rattle.vb_calls.specs.declared.calls.Resolved.{Resolved}
use Rattle.vb_calls.specs.declared.calls.VbReply.{VbReply}
use Rattle.vb_calls.specs.declared.journals.Wrote.{Wrote}
use Rattle.vb_calls.specs.Jobs.{Ended, bind_job, RanJob, BeganJob}
use Rattle.vb_calls.specs.Shelves.{Ask, Got}
use Rattle.vb_calls.proofs.JobRuns.{ran_bind_job, began_all_job, began_bind_job, began_none_job}
use Rattle.vb_events.specs.declared.event.Answer.TheVariants as line
use Rattle.vb_events.specs.declared.event.Event.{Event}
use Rattle.node_core.specs.declared.admin.AdminCall.{AdminCall}
use Rattle.node_core.specs.declared.admin.AdminCall.TheVariants as admin
use Rattle.node_core.specs.declared.conn.Conn.{Conn}
use Rattle.node_core.specs.declared.node.Node.{Node}
use Rattle.node_core.specs.declared.out.NodeOut.{NodeOut}
use Rattle.node_core.specs.declared.roles.AdminResult.{AdminResult as Lines}
use Rattle.node_core.specs.declared.roles.AdminResult.TheVariants as lines
use Rattle.node_core.specs.Admin.{AdminResult, admin_result, admin_job, noted_answer, noted_job, role_lines, role_noted}
use Rattle.node_core.specs.Dials.{KeptDial}
use Rattle.node_core.specs.Handing.{HandsOut}
use Rattle.node_core.specs.Outs.{cut_lines, done_out, dial_ended, admin_out, Tells}
use Rattle.node_core.specs.Outcomes.{value_at, Renumbered, conn_ended, Administered}
use Rattle.node_core.proofs.Keys.{let_go}

-- where the role did not change, no connection is told of ended streams
told_nothing : (v : ℕ) (o : Option Conn) → option_map (conn_ended v None) o ≡ o
told_nothing v None = refl
told_nothing v (Some c) = refl

-- a call and what became of its record, and then what that comes to
noted_is : (n v : ℕ) (asked : AdminCall) → bind_job (noted_job v asked) (λ made. Ended (role_noted n v asked made)) ≡ admin_job n v asked
noted_is n v (admin.Promote uuid) = refl
noted_is n v admin.Follow = refl
noted_is n v admin.Dead = refl
noted_is n v admin.Seal = refl
noted_is n v admin.Trim = refl
noted_is n v admin.Stat = refl
noted_is n v admin.Show = refl
noted_is n v admin.Log = refl

-- that a record could not be appended takes the answer's place, and no other
noted_out : (d : Option KeptDial) (wrote : Wrote) (t : AdminResult)
    → record (admin_out d t) { answer = noted_answer wrote (admin_out d t).answer } ≡ admin_out d (record t { answer = noted_answer wrote t.answer })
noted_out None wrote t = refl
noted_out (Some kept) wrote t = refl

-- a change of role that was told
abbrev Gave : List ℕ → List Resolved → List Event → AdminResult
Gave ids outcomes lines = record { events = lines; answer = line.Ok; ended = Some ids; resolved = outcomes }

-- the lines of a change of role behind that of the own dial, and what became of durable writes
given_out : (d : Option KeptDial) (ids : List ℕ) (outcomes : List Resolved) (lines : List Event)
    → record (record (done_out (cut_lines d ++ lines) []) { closed = is_some d }) { resolved = outcomes } ≡ admin_out d (Gave ids outcomes lines)
given_out None ids outcomes lines = refl
given_out (Some kept) ids outcomes lines = refl

module _ {W J : Type 0} (step : W → ℕ → VbCall → Option VbReply → W → Type 0) (asks : J → ℕ → (ask : Ask) → Got ask → J → Type 0) where
  admin_ran : (n v : ℕ) (asked : AdminCall) (old : W) (kept : J) (reply : Option VbReply) (wrote : Wrote) (new : W) (left : J)
      → RanJob step asks (noted_job v asked) old kept (reply, wrote) new left → RanJob step asks (admin_job n v asked) old kept (role_noted n v asked (reply, wrote)) new left
  admin_ran n v asked old kept reply wrote new left ran =
      subst (λ job. RanJob step asks job old kept (role_noted n v asked (reply, wrote)) new left) (noted_is n v asked)
      (ran_bind_job step asks (noted_job v asked) (λ made. Ended (role_noted n v asked made)) old kept (reply, wrote) new left (role_noted n v asked (reply, wrote)) new left ran (refl, refl, refl))

  -- memory was short before the call
  pub admin_none : {T E : Type 0} (result : Result T E) (n v : ℕ) (asked : AdminCall) (old : W) (kept : J) → OnErr result (BeganJob step asks (admin_job n v asked) old kept old kept)
  admin_none (Ok t) n v asked old kept = tt
  admin_none (Err e) n v asked old kept = began_none_job step asks (admin_job n v asked) old kept old kept refl refl

  -- in the call
  pub admin_began : {T E : Type 0} (result : Result T E) (n v : ℕ) (asked : AdminCall) (old : W) (kept : J) (new : W) (left : J)
      → BeganJob step asks (noted_job v asked) old kept new left → OnErr result (BeganJob step asks (admin_job n v asked) old kept new left)
  admin_began (Ok t) n v asked old kept new left began = tt
  admin_began (Err e) n v asked old kept new left began =
      subst (λ job. BeganJob step asks job old kept new left) (noted_is n v asked) (began_bind_job step asks (noted_job v asked) (λ made. Ended (role_noted n v asked made)) old kept new left began)

  -- memory was short for telling what the call came to
  pub admin_untold : {T E : Type 0} (result : Result T E) (n v : ℕ) (asked : AdminCall) (old : W) (kept : J) (made : Option VbReply × Wrote) (new : W) (left : J)
      → RanJob step asks (noted_job v asked) old kept made new left → OnErr result (BeganJob step asks (admin_job n v asked) old kept new left)
  admin_untold result n v asked old kept made new left ran = admin_began result n v asked old kept new left (began_all_job step asks (noted_job v asked) old kept made new left ran)

  -- a call that gave no role
  only_told : (v : ℕ) (asked : AdminCall) (old : Node W J) (reply : Option VbReply) (wrote : Wrote) (out : NodeOut) (new : Node W J)
      → RanJob step asks (noted_job v asked) old.vbs old.disks (reply, wrote) new.vbs new.disks → new ≡ record old { vbs = new.vbs; disks = new.disks }
      → (admin_result new.number v asked reply).ended ≡ None → out ≡ admin_out None (admin_result new.number v asked reply)
      → Administered step asks v asked old (record out { answer = noted_answer wrote out.answer }) new
  only_told v asked old reply wrote out new ran still none said =
      let told : AdminResult = admin_result old.number v asked reply in
      let same : admin_result new.number v asked reply ≡ told = ap (λ n. admin_result n.number v asked reply) still in
      let silent : told.ended ≡ None = sym (ap (λ t. t.ended) same) ∙ none in
      record {
        told = role_noted old.number v asked (reply, wrote);
        ran = admin_ran old.number v asked old.vbs old.disks reply wrote new.vbs new.disks ran;
        said = ap {A = NodeOut} (λ o. record o { answer = noted_answer wrote o.answer }) (said ∙ ap (admin_out None) same)
            ∙ ap (λ e. admin_out (dial_ended e (value_at old.dials v)) (role_noted old.number v asked (reply, wrote))) (sym silent);
        conns = λ key. rw silent (ap (λ n. get n.conns key) still ∙ sym (told_nothing v (get old.conns key)));
        dials = λ other. rw silent (ap (λ n. value_at n.dials other) still);
        rest = still ∙ ap (λ n. record old { vbs = new.vbs; disks = new.disks; conns = n.conns; dials = n.dials }) (sym still);
      }

  -- a call that gave a role
  role_given : (v : ℕ) (asked : AdminCall) (old : Node W J) (reply : Option VbReply) (wrote : Wrote) (ids : List ℕ) (outcomes : List Resolved) (lines : List Event) (turned : NodeOut) (mid new : Node W J)
      → RanJob step asks (noted_job v asked) old.vbs old.disks (reply, wrote) mid.vbs mid.disks → mid ≡ record old { vbs = mid.vbs; disks = mid.disks }
      → admin_result mid.number v asked reply ≡ Gave ids outcomes lines → turned ≡ record (done_out (cut_lines (value_at mid.dials v) ++ lines) []) { closed = is_some (value_at mid.dials v) }
      → ((key : ℕ) → get new.conns key ≡ option_map (conn_ended v (Some ids)) (get mid.conns key)) → Renumbered mid.dials new.dials v None
      → new ≡ record mid { conns = new.conns; dials = new.dials }
      → Administered step asks v asked old (record turned { answer = noted_answer wrote turned.answer; resolved = outcomes }) new
  role_given v asked old reply wrote ids outcomes lines turned mid new ran still told_is said conns dials rest =
      let is : admin_result old.number v asked reply ≡ Gave ids outcomes lines = sym (ap (λ n. admin_result n.number v asked reply) still) ∙ told_is in
      let vbs : new.vbs ≡ mid.vbs = ap (λ n. n.vbs) rest in
      let disks : new.disks ≡ mid.disks = ap (λ n. n.disks) rest in
      let own : mid.dials ≡ old.dials = ap (λ n. n.dials) still in
      record {
        told = role_noted old.number v asked (reply, wrote);
        ran = subst (λ w. RanJob step asks (admin_job old.number v asked) old.vbs old.disks (role_noted old.number v asked (reply, wrote)) w new.disks) (sym vbs)
            (subst (λ j. RanJob step asks (admin_job old.number v asked) old.vbs old.disks (role_noted old.number v asked (reply, wrote)) mid.vbs j) (sym disks)
            (admin_ran old.number v asked old.vbs old.disks reply wrote mid.vbs mid.disks ran));
        said = ap {A = NodeOut} (λ o. record o { answer = noted_answer wrote o.answer })
            (ap {A = NodeOut} (λ o. record o { resolved = outcomes }) said ∙ given_out (value_at mid.dials v) ids outcomes lines ∙ ap (λ ds. admin_out (value_at ds v) (Gave ids outcomes lines)) own)
            ∙ noted_out (value_at old.dials v) wrote (Gave ids outcomes lines)
            ∙ ap {A = AdminResult} (λ t. admin_out (dial_ended t.ended (value_at old.dials v)) (record t { answer = noted_answer wrote t.answer })) (sym is);
        conns = λ key. conns key ∙ (λ i. option_map (conn_ended v (sym (ap (λ t. t.ended) is) i)) (get (still i).conns key));
        dials = rw is (let_go old.dials new.dials v (subst (λ ds. Renumbered ds new.dials v None) own dials));
        rest = rest ∙ ap {A = Node W J} (λ m. record m { conns = new.conns; dials = new.dials }) still
            ∙ (λ i. record old { vbs = sym vbs i; disks = sym disks i; conns = new.conns; dials = new.dials });
      }

  -- what the call told is handed out
  pub admin_handed : (v : ℕ) (asked : AdminCall) (old : Node W J) (reply : Option VbReply) (wrote : Wrote) (told : Lines) (out : NodeOut) (mid new : Node W J)
      → RanJob step asks (noted_job v asked) old.vbs old.disks (reply, wrote) mid.vbs mid.disks → mid ≡ record old { vbs = mid.vbs; disks = mid.disks }
      → Tells told (admin_result mid.number v asked reply) → HandsOut v told wrote mid out new → Administered step asks v asked old out new
  admin_handed v asked old reply wrote (lines.Out left) out mid new ran still (none, said) (is, same) =
      subst (λ n. Administered step asks v asked old out n) (sym same) (subst (λ o. Administered step asks v asked old o mid) (sym is) (only_told v asked old reply wrote left mid ran still none said))
  admin_handed v asked old reply wrote (lines.Role role ids outcomes) out mid new ran still tells hands =
      subst (λ o. Administered step asks v asked old o new) (sym hands.said)
      (role_given v asked old reply wrote ids outcomes (role_lines role) (record (done_out (cut_lines (value_at mid.dials v) ++ role_lines role) []) { closed = is_some (value_at mid.dials v) }) mid new ran still tells refl hands.conns hands.dials hands.rest)

  -- memory was short for that
  pub admin_unhanded : {A E : Type 0} (result : Result A E) (n v : ℕ) (asked : AdminCall) (old : W) (kept : J) (made : Option VbReply × Wrote) (mid new : Node W J)
      → RanJob step asks (noted_job v asked) old kept made mid.vbs mid.disks → OnErr result (new ≡ mid) → OnErr result (BeganJob step asks (admin_job n v asked) old kept new.vbs new.disks)
  admin_unhanded {A} {E} (Ok t) n v asked old kept made mid new ran same = tt
  admin_unhanded {A} {E} (Err e) n v asked old kept made mid new ran same =
      subst (λ (x : Node W J). BeganJob step asks (admin_job n v asked) old kept x.vbs x.disks) (sym same) (admin_untold {T = A} {E = E} (Err e) n v asked old kept made mid.vbs mid.disks ran)
