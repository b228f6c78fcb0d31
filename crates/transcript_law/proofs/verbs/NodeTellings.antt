-- each line for a node tells of nothing else than it may
use Rattle.std.specs.Prelude.{◌≡◌, ◌∷◌, ◌++◌, ◌&&◌, if◌then◌else◌}
use Rattle.transcript_law.proofs.Words.{ℕ, Bool, true, false, List, [], length, refl, eq-eqb, Option, Some, None, Cause, Chronicle, Event, PlainNode, PlainWorld, Told, VbAnswer, VbCall, VbReply, after_job, done, first_cause, refusal}
use Rattle.disk_journals.specs.{Arms.{opens_all}, Books.{Book}}
use Rattle.node_core.specs.{Calls.{own_lines}, Flushing.{FlushResult}, Loading.{are_short, branch_in, start_job, start_result, starts_of}}
use Rattle.node_world.specs.{Arms.{fired_by, no_arm, placed}, Power.{Starting, burnt_arm, crash_causes, crash_step, down_lines, dropped, first_no, loaded_node, not_opened, opened_at, opening_told, start_at, start_causes, start_if, start_one, start_step, started_by, starts_from}, Worlds.{on_made}}
use Rattle.node_world.specs.declared.arm.Fired.{Fired}
use Rattle.node_world.specs.declared.arm.Fired.TheVariants as fired
use Rattle.transcript_law.proofs.{lines.Calm.{AnyAsk, any_job}, verbs.{NodeLines.{on_made_by}, StopTellings.{AreDialed, stop_ends}, Tellings.{Are, Tell, are_cons, are_map, are_more, tell_all, tell_alone, tell_front, tell_unless}}}
use Rattle.transcript_law.specs.Tellings.{is_of_end, is_of_start}
use Rattle.vb_calls.proofs.JobConduct.{after_job_always, always_bind_job}
use Rattle.vb_calls.specs.Flushes.{role_job}
use Rattle.vb_calls.specs.Jobs.{Ended}
use Rattle.vb_calls.specs.Programs.{AnyCall, AnyReply}
use Rattle.vb_calls.specs.declared.calls.VbAnswer.TheVariants as answer
use Rattle.vb_calls.specs.declared.journals.Wrote.{Wrote}
use Rattle.vb_disk.specs.declared.made.Outcome.{Outcome as Made}

pub crash_tells : (r : Chronicle) (w : PlainWorld) (n : ℕ) (out : Made) → AreDialed r w.links → Tell (is_of_end r n) (is_of_end r) (crash_step w n out).1.events
crash_tells r w n out d = tell_unless (is_of_end r n) (is_of_end r) (first_cause (crash_causes w n)) w (dropped n out w, done (down_lines n None w)) (tell_all (is_of_end r n) (is_of_end r) (λ m e. cc) (down_lines n None w) (stop_ends r n None w d (λ l e. cc)))

-- ---- a node that starts

module _ (r : Chronicle) (n : ℕ) where
  abbrev starts : Event → Bool
  starts = is_of_start n

  abbrev Starts : List Event → Type 0
  Starts lines = Tell starts (is_of_end r) lines

  -- what is told up to where it stops
  abbrev goes : Event → Bool
  goes (Event.NodeStopped m) = false
  goes line = is_of_start n line

  goes_starts : (line : Event) → goes line ≡ true → starts line ≡ true
  goes_starts (Event.NodeStopped m) e = cc
  goes_starts line e = e

  front : (xs ys : List Event) → Are goes xs → Starts ys → Starts (xs ++ ys)
  front xs ys a t = tell_front starts (is_of_end r) goes goes_starts (λ m e. cc) xs ys a t

  starts_so : (v uuid : ℕ) (node : PlainNode) → Are goes (after_job (start_job n v uuid) node.vbs node.shelves).1.events
  starts_so v uuid node = after_job_always AnyCall AnyAsk (λ (told : FlushResult). Are goes told.events) (start_job n v uuid) node.vbs node.shelves
      (always_bind_job AnyReply AnyCall AnyAsk (λ made. Unit {0}) (λ (told : FlushResult). Are goes told.events) (role_job v (VbCall.Promote uuid)) (λ made. Ended (start_result n v made)) (any_job (role_job v (VbCall.Promote uuid))) (λ made any. by made.0 made.1))
    where
      in_answer : (a : VbAnswer) → Are goes (branch_in n v a)
      in_answer (answer.Branch u parent fork high) = are_cons goes (Event.Branch n v u parent fork high) [] (eq-eqb n n refl) refl
      in_answer other = refl

      by : (o : Option VbReply) (wrote : Wrote) → Are goes (start_result n v (o, wrote)).events
      by None wrote = refl
      by (Some reply) wrote = are_more goes (branch_in n v reply.answer) (own_lines n v reply) (in_answer reply.answer) (are_map goes (Event.Changed n v reply.branch) reply.changes (λ c. eq-eqb n n refl))

  starts_are : (to_start : List (ℕ × ℕ)) (so_far : Starting) → Are goes so_far.1.events → Starts (starts_from n to_start so_far).1.events
  starts_are [] so_far a = tell_alone starts (is_of_end r) goes goes_starts (λ m e. cc) so_far.1.events a
  starts_are (start ∷ later) so_far a = by (fired_by so_far.0.arm.fuse (start_one n start so_far.0).0.arm.fuse) (starts_are later)
    where
      one : FlushResult
      one = (start_one n start so_far.0).1

      more : Are goes (so_far.1.events ++ one.events)
      more = are_more goes so_far.1.events one.events a (starts_so start.0 start.1 (placed start.0 so_far.0))

      by : (f : Fired) → ((x : Starting) → Are goes x.1.events → Starts (starts_from n later x).1.events)
          → Starts (started_by n so_far.0.arm f (start_one n start so_far.0).1 so_far.1 (start_one n start so_far.0).0 (starts_from n later)).1.events
      by fired.No rest = rest ((start_one n start so_far.0).0, record { events = so_far.1.events ++ one.events; answer = first_no so_far.1.answer one.answer }) more
      by fired.Failed rest = rest ((start_one n start so_far.0).0, record { events = so_far.1.events ++ one.events ++ Event.CallFailed n ∷ []; answer = first_no so_far.1.answer one.answer })
          (are_more goes (so_far.1.events ++ one.events) (Event.CallFailed n ∷ []) more (are_cons goes (Event.CallFailed n) [] (eq-eqb n n refl) refl))
      by fired.Stopped rest = front (so_far.1.events ++ one.events) (Event.NodeStopped n ∷ []) more (λ i. eq-eqb n n refl i && true)

  start_are : (uuids : List ℕ) (node : PlainNode) → Starts (start_at n uuids node).1.events
  start_are uuids node = by node.off
    where
      opening : (f : Fired) → Starts (opening_told n f).events
      opening fired.No = refl
      opening fired.Failed = λ i. eq-eqb n n refl i && true
      opening fired.Stopped = λ i. eq-eqb n n refl i && true

      shorts : (books : List Book) (b : Bool)
          → (let x : PlainNode × Told = if b then (record node { arm = burnt_arm (length books) node.arm }, refusal Cause.IdsShort) else starts_from n (starts_of books uuids) (loaded_node n books (burnt_arm (length books) node.arm), done []) in Starts x.1.events)
      shorts books true = refl
      shorts books false = starts_are (starts_of books uuids) (loaded_node n books (burnt_arm (length books) node.arm), done []) refl

      opens : (books : List Book) (b : Bool) → (let x : PlainNode × Told = if b then opened_at n uuids books node else not_opened n node in Starts x.1.events)
      opens books true = shorts books (are_short books uuids)
      opens books false = opening (fired_by node.arm.fuse no_arm.fuse)

      by : (o : Option (List Book)) → Starts (start_if n uuids node o).1.events
      by None = refl
      by (Some books) = opens books (opens_all node.arm.fuse (length books))

  pub start_tells : (w : PlainWorld) (uuids : List ℕ) → Starts (start_step w n uuids).1.events
  start_tells w uuids = tell_unless starts (is_of_end r) (first_cause (start_causes w n uuids)) w (on_made w n (start_at n uuids))
      (on_made_by (λ o. Starts o.1.events) w n (start_at n uuids) refl (λ node known. start_are uuids node))
