-- what a frame of a link leaves to commit: a vBucket that takes its branch over commits what it may
use Rattle.std.specs.Prelude.{◌≡◌, if◌then◌else◌}
use Rattle.transcript_law.proofs.Words.{ℕ, Bool, true, false, List, refl, ap, sym, ◌∙◌, subst, Option, Some, None, Frame, DialResult, Job, Plain, PlainConsumer, Role, Sound, States, VbCall, VbReply, after_job, bind_job, ending_reply, in_role, is_active, is_follower, plain_step, refusal_reply}
use Rattle.transcript_law.proofs.invariant.{AtRest.{IsAside, RestsIf, aside_rests}, CallsKept.{AllAt, put_all, ran_job}}
use Rattle.branch_model.specs.Journals.{cas_of_last, image_at}
use Rattle.dcp_consumer.specs.Machine.{consumer_step}
use Rattle.dcp_consumer.specs.declared.handshake.ConsumerStep.{ConsumerStep}
use Rattle.dcp_consumer.specs.declared.handshake.ConsumerStep.TheVariants as step
use Rattle.dcp_consumer.specs.declared.passive_stream.Passive.TheVariants as passive
use Rattle.node_core.proofs.Conduct.{Follows, FollowsIf, Goes, IsMessage, either, step_goes}
use Rattle.node_core.specs.Conduct.{IsFollowing}
use Rattle.node_core.proofs.Dues.{due_always}
use Rattle.node_core.specs.Dials.{adopt_result, again_result, call_made, due_requested, follower_ask, frame_taken, go_on_with, message_result, over_for, own_result, owned, pend_called, pended, requested_once_more, roll_back, rolled_back, step_made, with_consumer}
use Rattle.takeover.specs.declared.take_over.TakeStep.TheVariants.{Own, Pend}
use Rattle.vb_calls.proofs.JobConduct.{always_bind_job, always_lift}
use Rattle.vb_calls.specs.Flushes.{is_refusal, may_roll_job, note_role_job, read_job, role_job, role_of_call, role_told_job, roll_job, rollable_job, rolled_job}
use Rattle.vb_calls.specs.Jobs as job
use Rattle.vb_calls.specs.Jobs.{AlwaysJob, Ended, lift}
use Rattle.vb_calls.specs.Programs.{Always, AnyReply, Prog}
use Rattle.vb_calls.specs.Roles.{is_heir, is_role, owned as taken_over}
use Rattle.vb_calls.specs.Shelves.{Book, Broken, DiskFailed, Fate, Reading, Shelves, Shut, Stood, Unread, WasClosed}
use Rattle.vb_calls.specs.States.{call_at, states_step}
use Rattle.vb_calls.specs.declared.calls.VbAnswer.{VbAnswer}
use Rattle.vb_calls.specs.declared.calls.VbAnswer.TheVariants as answer
use Rattle.vb_calls.specs.declared.calls.VbCall.TheVariants as call
use Rattle.vb_calls.specs.declared.journals.Rolled.{Rolled}
use Rattle.vb_calls.specs.declared.journals.Rolled.TheVariants as rolled
use Rattle.vb_calls.specs.declared.journals.Wrote.{Wrote}
use Rattle.vb_calls.specs.declared.journals.Wrote.TheVariants as wrote
use Rattle.vb_types.specs.declared.journal.Record.{Record}
use Rattle.vb_types.specs.declared.role.LogEntry.{LogEntry}
use Rattle.vb_types.specs.declared.status.Status.TheVariants as status
use Rattle.vbucket.proofs.{Committing.{idle_rests}, Resting.{stays_at_rest}}

-- ---- calls behind which no more is to be committed than before

abbrev pub Calm : VbCall → Type 0
Calm made = (vb : Plain) → RestsIf vb → RestsIf (plain_step vb made).0

as_aside : (made : VbCall) → IsFollowing made → IsAside made
as_aside (call.CloseStream id) f = tt
as_aside other f = f

following_calm : (made : VbCall) → IsFollowing made → Calm made
following_calm made f vb rest = aside_rests vb made (as_aside made f) rest

show_calm : Calm call.Show
show_calm vb rest = rest

log_calm : Calm call.Log
log_calm vb rest = rest

-- one that is about to take its branch over is not active
pend_calm : Calm call.Pend
pend_calm vb rest = by (is_follower vb.role) refl
  where
    by : (b : Bool) → is_follower vb.role ≡ b → RestsIf (plain_step vb call.Pend).0
    by true f = subst (λ (x : Plain × VbReply). RestsIf x.0) (sym (ap (λ b. if b then (in_role vb Role.Pending, ending_reply vb answer.Done) else (vb, refusal_reply status.NotMyVbucket)) f)) (λ a. cc)
    by false f = subst (λ (x : Plain × VbReply). RestsIf x.0) (sym (ap (λ b. if b then (in_role vb Role.Pending, ending_reply vb answer.Done) else (vb, refusal_reply status.NotMyVbucket)) f)) rest

-- one that takes it over commits what it may, where it was sound
own_rests : (vb : Plain) → (vb.role ≡ Role.Pending → Sound vb) → RestsIf vb → RestsIf (plain_step vb call.Own).0
own_rests vb sound rest = by vb.role refl
  where
    by : (x : Role) → vb.role ≡ x → RestsIf (plain_step vb call.Own).0
    by Role.Pending e = λ a. stays_at_rest vb call.Own (sound e) tt (idle_rests vb (sound e) (ap is_active e))
    by other e = subst RestsIf (sym (ap (λ b. (taken_over (if b then (if is_heir vb then None else Some status.Einval) else Some status.NotMyVbucket) vb).0) (ap (λ x. is_role x Role.Pending) e))) rest

-- ---- jobs of such calls

abbrev CalmJob : {A : Type 0} → Job A → Type 0
CalmJob one = AlwaysJob AnyReply (λ v made. Calm made) (λ v ask. Unit {0}) (λ a. Unit {0}) one

abbrev CalmProg : {A : Type 0} → Prog A → Type 0
CalmProg prog = Always (λ v made. Calm made) (λ a. Unit {0}) prog

lifted : {A : Type 0} (prog : Prog A) → CalmProg prog → CalmJob (lift prog)
lifted prog calm = always_lift AnyReply (λ v made. Calm made) (λ v ask. Unit {0}) (λ a. Unit {0}) prog calm

ran_calm : {A : Type 0} (one : Job A) (states : States) (shelves : Shelves) → CalmJob one → AllAt RestsIf states → AllAt RestsIf (after_job one states shelves).0.0
ran_calm one states shelves calm all = ran_job RestsIf Calm (λ vb made k rest. k vb rest) (λ id vb rest. rest) (λ v made. Calm made) (λ v ask. Unit {0}) (λ a. Unit {0}) (λ v made k. k) one states shelves calm all

due_calm : (s : DialResult) → CalmProg (due_requested s)
due_calm s = due_always (λ t. Unit {0}) s (λ seq saved. tt) tt (λ v made. Calm made) (following_calm call.Due tt)

adopt_calm : (log : List LogEntry) (s : DialResult) → CalmProg (go_on_with log s)
unfolding go_on_with
adopt_calm log s = (following_calm (call.Adopt log) tt, λ reply any. due_calm (adopt_result log s reply))

call_calm : (made : VbCall) (s : DialResult) → IsMessage made → CalmProg (call_made made s)
unfolding call_made
call_calm made s m = (following_calm made (message made m), λ reply any. due_calm (message_result s reply))
  where
    message : (c : VbCall) → IsMessage c → IsFollowing c
    message (call.Marker start end) x = tt
    message (call.Receive change) x = tt
    message other x = absurd x

-- a rollback
module _ (v : ℕ) where
  went_back : (book : List Record) (to : ℕ) (fate : Fate) → CalmJob (rolled_job v book to fate)
  went_back book to Stood = (tt, λ got. (following_calm (call.RollTo to (image_at book to) (cas_of_last book)) tt, λ reply any. tt))
  went_back book to WasClosed = tt
  went_back book to DiskFailed = tt

  read_back : (named : ℕ) (reading : Reading) → CalmJob (read_job v named reading)
  read_back named (Book book) = (tt, λ fate. went_back book _ fate)
  read_back named Shut = tt
  read_back named Unread = tt
  read_back named (Broken place) = tt

  may_go_back : (named : ℕ) (a : VbAnswer) → CalmJob (may_roll_job v named a)
  may_go_back named (answer.Named ask) = (tt, λ reading. read_back named reading)
  may_go_back named (answer.Status st) = tt
  may_go_back named other = tt

  goes_back : (named : ℕ) (reply : Option VbReply) → CalmJob (rollable_job v named reply)
  goes_back named None = tt
  goes_back named (Some reply) = may_go_back named reply.answer

  rolls : (named : ℕ) → CalmJob (roll_job v named)
  unfolding roll_job
  rolls named = (following_calm call.Ask tt, λ reply any. goes_back named reply)

rolled_calm : (point : ℕ) (s : DialResult) (came : Rolled) → CalmProg (rolled_back point s came)
rolled_calm point s (rolled.To to) = (following_calm call.Ask tt, λ reply any. tt)
rolled_calm point s (rolled.Refused st) = tt
rolled_calm point s rolled.Closed = tt
rolled_calm point s rolled.DiskFailed = tt
rolled_calm point s (rolled.Damaged place) = tt

roll_calm : (point : ℕ) (s : DialResult) → CalmJob (roll_back point s)
unfolding roll_back
roll_calm point s = always_bind_job AnyReply (λ v made. Calm made) (λ v ask. Unit {0}) (λ a. Unit {0}) (λ a. Unit {0}) (roll_job s.dial.consumer.dialed.vb point) (λ came. lift (rolled_back point s came))
    (rolls s.dial.consumer.dialed.vb point) (λ came any. lifted (rolled_back point s came) (rolled_calm point s came))

-- a state pending
pended_calm : (opaque : ℕ) (s : DialResult) → CalmProg (pended opaque s)
unfolding pended
pended_calm opaque s = (show_calm, λ shown any. (pend_calm, λ reply any. tt))

-- ---- a frame

module _ (states : States) (shelves : Shelves) (all : AllAt RestsIf states) where
  abbrev Rested : Job DialResult → Type 0
  Rested one = AllAt RestsIf (after_job one states shelves).0.0

  -- a state active
  own_job_rests : (opaque : ℕ) (s : DialResult) → ((fv : Plain) → states s.dial.consumer.dialed.vb ≡ Some fv → fv.role ≡ Role.Pending → Sound fv) → Rested (owned opaque s)
  unfolding owned role_job
  own_job_rests opaque s sound = ran_calm (bind_job (role_told_job v call.Own came.1) (λ made. Ended (own_result opaque s made.0 made.1))) came.0 shelves
      (always_bind_job AnyReply (λ u made. Calm made) (λ u ask. Unit {0}) (λ a. Unit {0}) (λ a. Unit {0}) (role_told_job v call.Own came.1) (λ made. Ended (own_result opaque s made.0 made.1)) (told came.1) (λ made any. tt))
      (by (states v) refl)
    where
      v : ℕ
      v = s.dial.consumer.dialed.vb

      came : States × Option VbReply
      came = states_step states v call.Own

      told : (reply : Option VbReply) → CalmJob (role_told_job v call.Own reply)
      told None = tt
      told (Some reply) = either (λ (one : Job (Option VbReply × Wrote)). CalmJob one) (is_refusal reply.answer) (Ended (Some reply, wrote.NotAsked)) (job.Call v call.Log (note_role_job v (role_of_call call.Own) reply)) tt
          (log_calm, λ logged any. (tt, λ fate. tt))

      by : (o : Option Plain) → states v ≡ o → AllAt RestsIf (call_at states v call.Own o).0
      by None e = all
      by (Some fv) e = put_all RestsIf Calm (λ vb made k rest. k vb rest) (λ id vb rest. rest) states v (plain_step fv call.Own).0 all (own_rests fv (sound fv e) (all v fv e))

  step_rests : (c : PlainConsumer) (t : ConsumerStep) (s : DialResult) → Goes c t → ((fv : Plain) → states s.dial.consumer.dialed.vb ≡ Some fv → fv.role ≡ Role.Pending → Sound fv) → Rested (step_made t s)
  unfolding Goes Follows FollowsIf
  step_rests c (step.Adopt log) s goes sound = ran_calm (lift (go_on_with log s)) states shelves (lifted (go_on_with log s) (adopt_calm log s)) all
  step_rests c (step.Roll point) s goes sound = ran_calm (roll_back point s) states shelves (roll_calm point s) all
  step_rests c (step.Passive (passive.Call made)) s goes sound = ran_calm (lift (call_made made s)) states shelves (lifted (call_made made s) (call_calm made s goes.1)) all
  step_rests c (step.State Pend opaque) s goes sound = ran_calm (lift (pended opaque s)) states shelves (lifted (pended opaque s) (pended_calm opaque s)) all
  step_rests c (step.State Own opaque) s goes sound = own_job_rests opaque s sound
  step_rests c other s goes sound = all

  -- what a frame leaves to commit, where its vBucket is sound if it is to take its branch over
  pub frame_rests : (f : Frame) (s : DialResult) → ((fv : Plain) → states s.dial.consumer.dialed.vb ≡ Some fv → fv.role ≡ Role.Pending → Sound fv) → Rested (frame_taken f s)
  unfolding frame_taken
  frame_rests f s sound = let c = s.dial.consumer in step_rests c (consumer_step c f).1 (with_consumer s (consumer_step c f).0) (step_goes c f) sound
