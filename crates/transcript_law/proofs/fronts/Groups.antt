-- a front stays one behind a lawful group of such lines, behind which its node runs
use Rattle.std.specs.Prelude.{◌≡◌, ◌≤◌, ◌∷◌, ◌==◌, ◌&&◌, if◌then◌else◌}
use Rattle.std.specs.List.{All, list_any}
use Rattle.transcript_law.proofs.Words.{ℕ, Bool, true, false, not, List, [], Cause, with_id, refl, ap, sym, ◌∙◌, subst, arith, inr, ⊎_elim, Option, Some, None, All-head, All-tail, Answer, Chronicle, Event, Verb, VbVerb, NodeVerb, LinkVerb, ClientVerb, LawfulLine, LogEntry, Role, IsAnswered, after_line, after_lines, after_verb, known_history, upto, with_at}
use Rattle.branch_model.specs.Journals.{last_log, place_of}
use Rattle.cluster_model.specs.Clusters.{IsBatchEnd}
use Rattle.transcript_law.proofs.{fronts.Lines.{disk_put, front_line, le_same}, noted.FreedGroups.{ruled}}
use Rattle.transcript_law.specs.Chronicles.{Appending, Conns, DiskKnown, Flushing, Idle, Taken, Written, after_append, after_calls, after_crash, after_done, after_group, after_moved, after_noted, after_openings, after_restart, after_restarts, after_rollback, after_start, after_starts, after_stop, after_up, ahead, appending, as_noted, batch_stands, broken_by, calls_of_append, conns_line, crashed_disk, disks_of, heir_in, is_made, is_off, is_rollback, known_down, known_log, newest_or, rollback_of, saving, spent, state_of, stood, with_disk, with_disk_there, with_record}
use Rattle.transcript_law.specs.Bound.{IsBound, if_down, is_told_down}
use Rattle.transcript_law.specs.{Fronts.{FrontsStay, IsFront, IsFrontOf, StaysOn, branch_history}, Lawfulness.{LinesFrom}, LineAnswers.{SavesTo}}
use Rattle.vb_disk.specs.declared.fuse.Fuse.{Fuse}
use Rattle.vb_disk.specs.declared.made.Outcome.{Outcome}
use Rattle.vb_events.specs.declared.event.Answer.TheVariants as answer
use Rattle.vb_events.specs.declared.event.Cause.TheVariants as cause
use Rattle.vb_types.specs.declared.journal.Record.{Record}
use Rattle.vb_types.specs.declared.journal.Record.TheVariants as noted
use Rattle.vb_types.specs.declared.role.Role.TheVariants as role

-- ---- the lines

pub front_lines : (r : Chronicle) (conns : Conns) (lines : List Event) (n v end : ℕ) → IsFront r n v end → LinesFrom r conns lines → All (StaysOn n v) lines → IsFront (after_lines r lines) n v end
front_lines r conns [] n v end f lawful stays = f
front_lines r conns (line ∷ lines) n v end f lawful stays =
    front_lines (after_line r line) (conns_line conns line) lines n v end
    (front_line r line lines n v end f (ruled conns line lines (LawfulLine r line lines) lawful.0) (All-head (StaysOn n v) line lines stays)) lawful.1 (All-tail (StaysOn n v) line lines stays)

-- ---- what is written down

-- a disk that has what one had
abbrev Has : ℕ → DiskKnown → DiskKnown → Type 0
Has end d d' = (IsBatchEnd end (stood d) → IsBatchEnd end (stood d')) × (d.saved ≤ d'.saved)

has_same : (end : ℕ) (d : DiskKnown) → Has end d d
has_same end d = (λ x. x, le_same d.saved)

has_broken : (end : ℕ) (f : Fuse) (o : Option Record) (d d' : DiskKnown) → Has end d d' → Has end d (broken_by f o d')
has_broken end f None d d' x = x
has_broken end f (Some r) d d' x = x

-- what a crash leaves
abbrev left_at : Chronicle → ℕ → Outcome → ℕ → DiskKnown
left_at r m out v = crashed_disk out (r.disk_at m v)

-- an append leaves it, whatever comes of it
pub record Leaves (end : ℕ) (a : Appending) (d : DiskKnown) : Type 0 where
  pub stands : Has end d (a.stands d)
  pub fails : Has end d (a.fails d)

leaves_state : (end : ℕ) (d : DiskKnown) (role : Role) (log : List LogEntry) → Leaves end (appending (noted.State role log)) d
leaves_state end d role log = record { stands = has_same end d; fails = has_same end d }

leaves_saving : (end : ℕ) (d : DiskKnown) → Leaves end (saving d) d
leaves_saving end d = record { stands = by d.flushing; fails = has_same end d }
  where
    by : (x : Flushing) → Has end d (batch_stands x d)
    by (Taken b) = (λ x. inr x, le_same d.saved)
    by Idle = has_same end d
    by (Written seq) = has_same end d

module _ (r : Chronicle) (n v end : ℕ) (f : IsFront r n v end) where
  written : (m w : ℕ) (d : DiskKnown) → Has end (r.disk_at m w) d → IsFront (with_disk r m w d) n v end
  written m w d has = disk_put r m w n v end d (branch_history r n v) (r.held n v) has.0 has.1 f

  -- a crash of another node leaves it
  crashed : (m : ℕ) (out : Outcome) → ((after_crash r m out).arm_at n).down ≡ false → IsFront (after_crash r m out) n v end
  crashed m out runs = by (n == m) refl
    where
      by : (b : Bool) → (n == m) ≡ b
          → IsFrontOf (if n == m then left_at r m out v else r.disk_at n v) (known_history r.tree (if n == m then newest_or (r.branch_at m v) (last_log (left_at r m out v).book) else r.branch_at n v)) (if n == m then upto (r.held m v) (place_of (left_at r m out v).book).at else r.held n v) end
      by true e = let z : true ≡ false = sym (ap (λ b. (if b then known_down else r.arm_at n).down) e) ∙ runs in cc
      by false e = subst (λ b. IsFrontOf (if b then left_at r m out v else r.disk_at n v) (known_history r.tree (if b then newest_or (r.branch_at m v) (last_log (left_at r m out v).book) else r.branch_at n v)) (if b then upto (r.held m v) (place_of (left_at r m out v).book).at else r.held n v) end) (sym e) f

module _ (n v end : ℕ) where
  stopped : (r : Chronicle) (m : ℕ) → IsFront r n v end → ((after_stop r m).arm_at n).down ≡ false → IsFront (after_stop r m) n v end
  stopped r m f runs = crashed r n v end f m (r.arm_at m).out runs

  -- an append
  appended : (r : Chronicle) (m w : ℕ) (a : Appending) (said : Answer) → Leaves end a (r.disk_at m w) → IsFront r n v end → ((after_append r m w a said).arm_at n).down ≡ false → IsFront (after_append r m w a said) n v end
  appended r m w a answer.Ok leaves f runs = written r n v end f m w (a.stands (r.disk_at m w)) leaves.stands
  appended r m w a (answer.No cause.Closed) leaves f runs = written r n v end f m w (a.fails (r.disk_at m w)) leaves.fails
  appended r m w a (answer.No cause.Disk) leaves f runs =
      written r n v end f m w (broken_by (r.arm_at m).fuse a.what (a.fails (r.disk_at m w))) (has_broken end (r.arm_at m).fuse a.what (r.disk_at m w) (a.fails (r.disk_at m w)) leaves.fails)
  appended r m w a (answer.No cause.Stopped) leaves f runs =
      let d : DiskKnown = broken_by (r.arm_at m).fuse a.what (a.fails (r.disk_at m w)) in
      stopped (with_disk r m w d) m (written r n v end f m w d (has_broken end (r.arm_at m).fuse a.what (r.disk_at m w) (a.fails (r.disk_at m w)) leaves.fails)) runs
  appended r m w a other leaves f runs = f

  noted_so : (r : Chronicle) (m w : ℕ) (new : Role) (said : Answer) → IsFront r n v end → ((after_noted r m w new said).arm_at n).down ≡ false → IsFront (after_noted r m w new said) n v end
  noted_so r m w new said f runs = appended r m w (appending (state_of r m w new)) said (leaves_state end (r.disk_at m w) new (known_log (r.log_at m w))) f runs

  there_so : (r : Chronicle) (m w : ℕ) (said : Answer) → IsFront r n v end → IsFront (with_disk_there r m w said) n v end
  there_so r m w said f = by (is_made said)
    where
      by : (b : Bool) → IsFront (if b then with_disk r m w (record (r.disk_at m w) { there = true }) else r) n v end
      by true = written r n v end f m w (record (r.disk_at m w) { there = true }) (λ x. x, le_same (r.disk_at m w).saved)
      by false = f

  -- a rollback that could not be written down
  rolled_so : (r : Chronicle) (back : Option (ℕ × (ℕ × Record))) (lines : List Event) (said : Answer) → IsFront r n v end → ((after_rollback r back lines said).arm_at n).down ≡ false → IsFront (after_rollback r back lines said) n v end
  rolled_so r None lines said f runs = f
  rolled_so r (Some (m, (w, what))) lines (answer.No why) f runs = by why runs
    where
      by : (why : Cause) → ((after_append r m w (appending what) (answer.No why)).arm_at n).down ≡ false → IsFront (after_append r m w (appending what) (answer.No why)) n v end
      by cause.Closed runs = written r n v end f m w (r.disk_at m w) (has_same end (r.disk_at m w))
      by cause.Disk runs = written r n v end f m w (broken_by (r.arm_at m).fuse (Some what) (r.disk_at m w)) (has_same end (r.disk_at m w))
      by cause.Stopped runs = let d : DiskKnown = broken_by (r.arm_at m).fuse (Some what) (r.disk_at m w) in stopped (with_disk r m w d) m (written r n v end f m w d (has_same end (r.disk_at m w))) runs
      by other runs = f
  rolled_so r (Some (m, (w, what))) lines said f runs = by (list_any is_rollback lines)
    where
      by : (b : Bool) → IsFront (if b then after_calls calls_of_append m r else r) n v end
      by true = f
      by false = f

  moved_so : (r : Chronicle) (heir : Option (ℕ × ℕ)) (back : Option (ℕ × (ℕ × Record))) (lines : List Event) (said : Answer) → IsFront r n v end → ((after_moved r heir back lines said).arm_at n).down ≡ false → IsFront (after_moved r heir back lines said) n v end
  moved_so r None back lines said f runs = rolled_so r back lines said f runs
  moved_so r (Some (m, w)) back lines said f runs = noted_so r m w role.Active (as_noted said) f runs

  -- ---- a node that starts

  restarted : (r : Chronicle) (m w : ℕ) → IsFront r n v end → IsFront (after_restart r m w) n v end
  restarted r m w f = by (is_off (spent calls_of_append (r.arm_at m).fuse) && not (is_off (r.arm_at m).fuse))
    where
      by : (b : Bool) → IsFrontOf (with_at r.disk_at m w (if b then broken_by (r.arm_at m).fuse (Some (state_of r m w role.Active)) (r.disk_at m w) else with_record (state_of r m w role.Active) (r.disk_at m w)) n v) (branch_history r n v) (r.held n v) end
      by true = disk_put r m w n v end (broken_by (r.arm_at m).fuse (Some (state_of r m w role.Active)) (r.disk_at m w)) (branch_history r n v) (r.held n v) (λ x. x) (le_same (r.disk_at m w).saved) f
      by false = disk_put r m w n v end (with_record (state_of r m w role.Active) (r.disk_at m w)) (branch_history r n v) (r.held n v) (λ x. x) (le_same (r.disk_at m w).saved) f

  all_restarted : (r : Chronicle) (lines : List Event) → IsFront r n v end → IsFront (after_restarts r lines) n v end
  all_restarted r [] f = f
  all_restarted r (Event.Branch m w uuid parent fork high ∷ lines) f = all_restarted (after_restart r m w) lines (restarted r m w f)
  all_restarted r (line ∷ lines) f = all_restarted r lines f

  started : (r : Chronicle) (m : ℕ) (said : Answer) → IsFront r n v end → ((after_starts r m said).arm_at n).down ≡ false → IsFront (after_starts r m said) n v end
  started r m (answer.No cause.Stopped) f runs = stopped r m f runs
  started r m other f runs = f

  -- by a test, each as long as the node runs
  either : (b : Bool) (x y : Chronicle) → (((x.arm_at n).down ≡ false) → IsFront x n v end) → (((y.arm_at n).down ≡ false) → IsFront y n v end) → (((if b then x else y).arm_at n).down ≡ false) → IsFront (if b then x else y) n v end
  either true x y f g runs = f runs
  either false x y f g runs = g runs

  opened : (before : Fuse) (r : Chronicle) (m : ℕ) (lines : List Event) (said : Answer) → IsFront r n v end → ((after_openings before r m lines said).arm_at n).down ≡ false → IsFront (after_openings before r m lines said) n v end
  opened before r m lines said f runs =
      either (is_off (r.arm_at m).fuse && not (is_off before)) (record r { arm_at = with_id r.arm_at m known_down }) _ (λ q. f)
      (λ q. either _ r (after_starts (after_restarts (after_up m r) lines) m said) (λ p. f) (λ p. started (after_restarts (after_up m r) lines) m said (all_restarted (after_up m r) lines f) p) q)
      runs

  start_so : (r : Chronicle) (m : ℕ) (lines : List Event) (said : Answer) → IsFront r n v end → ((after_start r m lines said).arm_at n).down ≡ false → IsFront (after_start r m lines said) n v end
  start_so r m lines (answer.No cause.UnknownNode) f runs = f
  start_so r m lines (answer.No cause.NodeUp) f runs = f
  start_so r m lines (answer.No cause.UuidZero) f runs = f
  start_so r m lines (answer.No cause.UuidUsed) f runs = f
  start_so r m lines said f runs = opened (r.arm_at m).fuse (after_calls (disks_of r m) m r) m lines said f runs

  -- ---- the line of the script

  -- what counts as saved only grows
  counted : (r : Chronicle) (m w : ℕ) (lines : List Event) (said : Answer) → IsAnswered r (Verb.AtVb m w VbVerb.Done) lines said → IsFront r n v end → IsFront (after_done r m w said) n v end
  counted r m w lines (answer.Number saved) is f =
      written r n v end f m w (record (r.disk_at m w) { flushing = Idle; saved = saved }) ((λ x. x), by (is_told_down r m) is)
    where
      by : (b : Bool) → IsBound (if_down b) (SavesTo (r.disk_at m w) saved) lines (answer.Number saved) → (r.disk_at m w).saved ≤ saved
      by true bound = ⊎_elim (λ e. cc) (λ none. absurd none) bound.1
      by false (stop, e, same) = omega arith
  counted r m w lines other is f = f

  ahead_so : (r : Chronicle) (line : Verb) (lines : List Event) (said : Answer) → IsAnswered r line lines said → IsFront r n v end → IsFront (ahead r line said) n v end
  ahead_so r (Verb.AtVb m w (VbVerb.Chain others)) lines answer.Ok is f = f
  ahead_so r (Verb.AtVb m w (VbVerb.Chain others)) lines other is f = f
  ahead_so r (Verb.AtVb m w VbVerb.Done) lines said is f = counted r m w lines said is f
  ahead_so r (Verb.AtVb m w VbVerb.Tick) lines said is f = f
  ahead_so r (Verb.AtClient m c (ClientVerb.Bytes bytes)) lines answer.Ok is f = f
  ahead_so r (Verb.AtClient m c (ClientVerb.Bytes bytes)) lines other is f = f
  ahead_so r (Verb.AtNode m (NodeVerb.Crash out)) lines answer.Ok is f = f
  ahead_so r (Verb.AtNode m (NodeVerb.Crash out)) lines other is f = f
  ahead_so r other lines said is f = f

  verb_so : (before r : Chronicle) (line : Verb) (lines : List Event) (said : Answer) → IsFront r n v end → ((after_verb before r line lines said).arm_at n).down ≡ false → IsFront (after_verb before r line lines said) n v end
  verb_so before r (Verb.AtVb m w (VbVerb.MakeActive uuid)) lines said f runs = noted_so (with_disk_there r m w said) m w role.Active said (there_so r m w said f) runs
  verb_so before r (Verb.AtVb m w VbVerb.MakeReplica) lines said f runs = noted_so (with_disk_there r m w said) m w role.Replica said (there_so r m w said f) runs
  verb_so before r (Verb.Link l k m w buffer takeover) lines answer.Ok f runs = f
  verb_so before r (Verb.Link l k m w buffer takeover) lines (answer.Number count) f runs = f
  verb_so before r (Verb.Link l k m w buffer takeover) lines (answer.Pulled count why) f runs = f
  verb_so before r (Verb.Link l k m w buffer takeover) lines (answer.No why) f runs = f
  verb_so before r (Verb.AtLink l (LinkVerb.Down wanted)) lines said f runs = moved_so r (heir_in lines) (rollback_of before (before.dial_of l) (before.point_of l)) lines said f runs
  verb_so before r (Verb.AtVb m w (VbVerb.Promote uuid)) lines said f runs = noted_so r m w role.Active said f runs
  verb_so before r (Verb.AtVb m w VbVerb.Follow) lines said f runs = noted_so r m w role.Replica said f runs
  verb_so before r (Verb.AtVb m w VbVerb.Dead) lines said f runs = noted_so r m w role.Dead said f runs
  verb_so before r (Verb.AtVb m w VbVerb.Seal) lines (answer.Number sealed) f runs = f
  verb_so before r (Verb.AtVb m w VbVerb.Seal) lines other f runs = f
  verb_so before r (Verb.AtVb m w VbVerb.Save) lines said f runs = appended r m w (saving (r.disk_at m w)) said (leaves_saving end (r.disk_at m w)) f runs
  verb_so before r (Verb.AtNode m (NodeVerb.Clock nanos)) lines answer.Ok f runs = f
  verb_so before r (Verb.AtNode m (NodeVerb.Clock nanos)) lines other f runs = f
  verb_so before r (Verb.AtNode m (NodeVerb.Stop call out)) lines answer.Ok f runs = f
  verb_so before r (Verb.AtNode m (NodeVerb.Stop call out)) lines other f runs = f
  verb_so before r (Verb.AtNode m (NodeVerb.Fail call)) lines answer.Ok f runs = f
  verb_so before r (Verb.AtNode m (NodeVerb.Fail call)) lines other f runs = f
  verb_so before r (Verb.AtNode m (NodeVerb.Crash out)) lines answer.Ok f runs = crashed r n v end f m out runs
  verb_so before r (Verb.AtNode m (NodeVerb.Crash out)) lines other f runs = f
  verb_so before r (Verb.AtNode m (NodeVerb.Start uuids)) lines said f runs = start_so r m lines said f runs
  verb_so before r (Verb.AtClient m c ClientVerb.Open) lines answer.Ok f runs = f
  verb_so before r (Verb.AtClient m c ClientVerb.Open) lines other f runs = f
  verb_so before r (Verb.AtClient m c ClientVerb.Hang) lines answer.Ok f runs = f
  verb_so before r (Verb.AtClient m c ClientVerb.Hang) lines other f runs = f
  verb_so before r other lines said f runs = f

-- the whole group
pub after_group_front : (r : Chronicle) (line : Verb) (lines : List Event) (said : Answer) (n v end : ℕ) → IsFront r n v end → LinesFrom (ahead r line said) r.conn_at lines → IsAnswered r line lines said → All (StaysOn n v) lines
    → ((after_group r line lines said).arm_at n).down ≡ false → IsFront (after_group r line lines said) n v end
after_group_front r line lines said n v end f lawful is stays runs =
    verb_so n v end r (after_lines (ahead r line said) lines) line lines said (front_lines (ahead r line said) r.conn_at lines n v end (ahead_so n v end r line lines said is f) lawful stays) runs

-- so it is of each
pub fronts_stay : FrontsStay
fronts_stay = record {
  lines = front_line;
  groups = λ r line group n v end f lawful stays runs. after_group_front r line.verb group.events group.answer n v end f lawful.0 lawful.1 stays runs;
}
