-- which id each vBucket takes when its node starts
use Rattle.std.proofs.Common.{◌≡◌, inl, inr, ℕ, Bool, true, false, List, [], ◌∷◌, ◌++◌, append-nil, append_assoc, length, refl, ap, sym, ◌∙◌, subst, Option, Some, None}
use Rattle.std.specs.Prelude.{option_map, if◌then◌else◌}
use Rattle.disk_journals.specs.Arms.{opens_all}
use Rattle.disk_journals.specs.Books.{Book}
use Rattle.vb_calls.specs.declared.calls.VbCall.TheVariants as call
use Rattle.vb_calls.specs.declared.calls.VbReply.{VbReply}
use Rattle.vb_calls.specs.declared.journals.Wrote.{Wrote}
use Rattle.vb_calls.specs.declared.journals.Wrote.TheVariants as wrote
use Rattle.vb_calls.specs.Flushes.{is_refusal, note_role_job, role_of_call, role_job, role_told_job}
use Rattle.vb_calls.specs.Jobs.{Call, Ended, Job, after_job, bind_job}
use Rattle.vb_calls.specs.Plain.{plain_step}
use Rattle.vb_calls.specs.Shelves.{Shelves}
use Rattle.vb_calls.specs.State.{Plain}
use Rattle.vb_calls.specs.States.{States, call_at}
use Rattle.vb_events.specs.declared.event.Answer.TheVariants as line
use Rattle.vb_events.specs.declared.event.Cause.{Cause}
use Rattle.vb_events.specs.declared.event.Cause.TheVariants as cause
use Rattle.vb_events.specs.declared.event.Event.{Event}
use Rattle.vb_events.specs.declared.event.Event.TheVariants as event
use Rattle.node_core.specs.Flushing.{FlushResult}
use Rattle.node_core.specs.Loading.{are_short, branch_lines_of_reply, start_job, start_result, starts_of}
use Rattle.node_world.specs.declared.arm.Fired.{Fired}
use Rattle.node_world.specs.declared.arm.Fired.TheVariants as fired
use Rattle.node_world.specs.declared.told.Told.{Told}
use Rattle.node_world.specs.Arms.{PlainNode, fired_by, no_arm, placed}
use Rattle.node_world.specs.CallsMade.{reply_of}
use Rattle.node_world.specs.Nodes.{done, first_cause, refusal, refused_or}
use Rattle.node_world.specs.Power.{Starting, burnt_arm, first_no, loaded_node, not_opened, opened_at, opening_told, start_at, start_books, start_causes, start_if, start_one, started_by, starts_from}
use Rattle.node_world.specs.StartIds.{StartsSo, TakesIds}
use Rattle.node_world.specs.Worlds.{PlainWorld, Outcome, on_made}
use Rattle.node_world.proofs.Unfired.{made_as}

no_ok : (why : Cause) → line.No why ≡ line.Ok → ⊥
no_ok why e = cc

module _ (n : ℕ) where
  -- what a vBucket replies that is promoted, where there is one
  abbrev replied : ℕ → Option Plain → Option VbReply
  replied uuid o = option_map (λ (x : Plain). reply_of x (call.Promote uuid)) o

  abbrev behind : ℕ → Option VbReply × Wrote → Job FlushResult
  behind v made = Ended (start_result n v made)

  start_tells : (v uuid : ℕ) (states : States) (shelves : Shelves) → (after_job (start_job n v uuid) states shelves).1.events ≡ branch_lines_of_reply n v (replied uuid (states v))
  unfolding role_job
  start_tells v uuid states shelves = by (states v)
    where
      at : (states' : States) (reply : VbReply) (b : Bool) → (after_job (bind_job (if b then Ended (Some reply, wrote.NotAsked) else Call v call.Log (note_role_job v (role_of_call (call.Promote uuid)) reply)) (behind v)) states' shelves).1.events ≡ branch_lines_of_reply n v (Some reply)
      at states' reply true = refl
      at states' reply false = refl

      by : (o : Option Plain) → (after_job (bind_job (role_told_job v (call.Promote uuid) (call_at states v (call.Promote uuid) o).1) (behind v)) (call_at states v (call.Promote uuid) o).0 shelves).1.events ≡ branch_lines_of_reply n v (replied uuid o)
      by None = refl
      by (Some vb) = at (call_at states v (call.Promote uuid) (Some vb)).0 (plain_step vb (call.Promote uuid)).1 (is_refusal (plain_step vb (call.Promote uuid)).1.answer)

  one_tells : (start : ℕ × ℕ) (node : PlainNode) → (start_one n start node).1.events ≡ branch_lines_of_reply n start.0 (replied start.1 (node.vbs start.0))
  one_tells start node = start_tells start.0 start.1 node.vbs (placed start.0 node).shelves

  -- what stands behind the lines so far
  abbrev Goes : List (ℕ × ℕ) → Told → Starting → Type 0
  Goes starts told came = (later : List Event) × (came.1.events ≡ told.events ++ later) × StartsSo n starts later

  all_go : (starts : List (ℕ × ℕ)) (so_far : Starting) → (starts_from n starts so_far).1.answer ≡ line.Ok → Goes starts so_far.1 (starts_from n starts so_far)
  all_go [] so_far ok = ([], sym (append-nil so_far.1.events), refl)
  all_go (start ∷ starts) so_far ok = by (fired_by so_far.0.arm.fuse (start_one n start so_far.0).0.arm.fuse) (all_go starts) ok
    where
      by : (f : Fired) → ((x : Starting) → (starts_from n starts x).1.answer ≡ line.Ok → Goes starts x.1 (starts_from n starts x))
          → (started_by n so_far.0.arm f (start_one n start so_far.0).1 so_far.1 (start_one n start so_far.0).0 (starts_from n starts)).1.answer ≡ line.Ok
          → Goes (start ∷ starts) so_far.1 (started_by n so_far.0.arm f (start_one n start so_far.0).1 so_far.1 (start_one n start so_far.0).0 (starts_from n starts))
      by fired.No more ok =
          let one = (start_one n start so_far.0).1 in
          let (later, told, goes) = more ((start_one n start so_far.0).0, record { events = so_far.1.events ++ one.events; answer = first_no so_far.1.answer one.answer }) ok in (
            one.events ++ later,
            told ∙ append_assoc so_far.1.events one.events later,
            (so_far.0.vbs start.0, [], later, ap (λ xs. xs ++ later) (one_tells start so_far.0), inl refl, goes),
          )
      by fired.Failed more ok =
          let one = (start_one n start so_far.0).1 in
          let cf : List Event = event.CallFailed n ∷ [] in
          let (later, told, goes) = more ((start_one n start so_far.0).0, record { events = so_far.1.events ++ one.events ++ cf; answer = first_no so_far.1.answer one.answer }) ok in (
            one.events ++ (cf ++ later),
            told ∙ append_assoc (so_far.1.events ++ one.events) cf later ∙ append_assoc so_far.1.events one.events (cf ++ later),
            (so_far.0.vbs start.0, cf, later, ap (λ xs. xs ++ (cf ++ later)) (one_tells start so_far.0), inr refl, goes),
          )
      by fired.Stopped more ok = absurd (no_ok cause.Stopped ok)

  module _ (books : List Book) (w : PlainWorld) (node : PlainNode) (there : w.nodes n ≡ Some node) (off : node.off ≡ Some books) where
    abbrev Takes : List ℕ → Told → Type 0
    Takes uuids told = StartsSo n (starts_of books uuids) told.events

    opened_takes : (uuids : List ℕ) → (opened_at n uuids books node).1.answer ≡ line.Ok → Takes uuids (opened_at n uuids books node).1
    opened_takes uuids = by (are_short books uuids)
      where
        by : (b : Bool) → let x : PlainNode × Told = if b then (record node { arm = burnt_arm (length books) node.arm }, refusal cause.IdsShort) else starts_from n (starts_of books uuids) (loaded_node n books (burnt_arm (length books) node.arm), done []) in x.1.answer ≡ line.Ok → Takes uuids x.1
        by true ok = absurd (no_ok cause.IdsShort ok)
        by false ok =
            let (later, told, goes) = all_go (starts_of books uuids) (loaded_node n books (burnt_arm (length books) node.arm), done []) ok in subst (StartsSo n (starts_of books uuids)) (sym told) goes

    books_take : (uuids : List ℕ) → (start_books n uuids books node).1.answer ≡ line.Ok → Takes uuids (start_books n uuids books node).1
    books_take uuids = by (opens_all node.arm.fuse (length books))
      where
        told : (f : Fired) → (opening_told n f).answer ≡ line.Ok → Takes uuids (opening_told n f)
        told fired.No ok = absurd (no_ok cause.Disk ok)
        told fired.Failed ok = absurd (no_ok cause.Disk ok)
        told fired.Stopped ok = absurd (no_ok cause.Stopped ok)

        by : (b : Bool) → let x : PlainNode × Told = if b then opened_at n uuids books node else not_opened n node in x.1.answer ≡ line.Ok → Takes uuids x.1
        by true ok = opened_takes uuids ok
        by false ok = told (fired_by node.arm.fuse no_arm.fuse) ok

    start_is : (uuids : List ℕ) → (on_made w n (start_at n uuids)).1 ≡ (start_books n uuids books node).1
    start_is uuids = ap (λ (o : Outcome). o.1) (made_as w n node there (start_at n uuids)) ∙ ap (λ (o : Option (List Book)). (start_if n uuids node o).1) off

    unless : (uuids : List ℕ) (why : Option Cause) → (refused_or why w (on_made w n (start_at n uuids))).1.answer ≡ line.Ok → Takes uuids (refused_or why w (on_made w n (start_at n uuids))).1
    unless uuids (Some why) ok = absurd (no_ok why ok)
    unless uuids None ok = subst (Takes uuids) (sym (start_is uuids)) (books_take uuids (sym (ap (λ (t : Told). t.answer) (start_is uuids)) ∙ ok))

    pub takes_ids : TakesIds w n books
    takes_ids number uuids ok = unless uuids (first_cause (start_causes w n uuids)) ok
