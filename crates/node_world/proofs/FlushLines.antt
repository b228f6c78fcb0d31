-- steps of writing a vBucket down, by the batch that is on its way
use Rattle.std.proofs.Common.{◌≡◌, ℕ, length, refl, ap, ◌∙◌, subst, sym, Option, Some, None, is_some, option_map}
use Rattle.std.specs.Prelude.{◌≢◌}
use Rattle.vb_events.specs.declared.event.Answer.{Answer}
use Rattle.vb_events.specs.declared.event.Answer.TheVariants as line
use Rattle.vb_events.specs.declared.event.Cause.TheVariants as cause
use Rattle.vb_types.specs.declared.journal.Batch.{Batch}
use Rattle.vb_types.specs.declared.journal.FlushPart.{FlushPart}
use Rattle.vb_types.specs.declared.journal.FlushPart.TheVariants as part
use Rattle.vb_types.specs.declared.journal.Record.{Record}
use Rattle.vb_types.specs.declared.journal.Record.TheVariants as noted
use Rattle.disk_journals.specs.Arms.{fuse_at}
use Rattle.vb_journal.specs.UnderArms.{burnt_noting}
use Rattle.vb_calls.specs.declared.calls.VbCall.TheVariants as call
use Rattle.vb_calls.specs.declared.journals.Flushed.{Flushed}
use Rattle.vb_calls.specs.declared.journals.Flushed.TheVariants as flushed
use Rattle.vb_calls.specs.Flushes.{appended_job, batch_of_reply, finish_job, flush_job, part_job, save_job, take_job, taken_job, took}
use Rattle.vb_calls.specs.Jobs.{Job, Ended, bind_job, after_job}
use Rattle.vb_calls.specs.Shelves.{Append, Flush, Idle, Keep, Look, Out, Shelf, Shelves, Stood, Written, after_fate, ask_at, fate_of, with_shelf_at}
use Rattle.vb_calls.specs.State.{Plain}
use Rattle.vb_calls.specs.States.{States, states_step}
use Rattle.node_core.specs.Flushing.{FlushResult, flush_at, flush_result, saved_of_reply}
use Rattle.node_world.specs.Nodes.{PlainNode, flush_here, flush_line, with_kept, written}
use Rattle.node_world.proofs.AfterPosts.{posts_arm, posts_shelves}
use Rattle.node_world.proofs.Shelved.{shelf_here}

-- what steps come to
abbrev pub steps_of : ℕ → ℕ → States → Shelves → Job Flushed → (States × Shelves) × FlushResult
steps_of n v states shelves job = after_job (bind_job job (λ came. Ended (flush_result n v came))) states shelves

-- the answer
abbrev pub answer_of : ℕ → ℕ → States → Shelves → Job Flushed → Answer
answer_of n v states shelves job = (steps_of n v states shelves job).1.answer

-- the journals that a step left stay where outcomes are told behind it
pub shelves_left : (node : PlainNode) (came : (States × Shelves) × FlushResult) → (written node came).0.shelves ≡ came.0.1
shelves_left node came = posts_shelves came.1.resolved (with_kept node came.0)

-- where there is no such vBucket, its journal stays
pub no_shelf : (n v : ℕ) (p : FlushPart) (node : PlainNode) → node.vbs v ≡ None → (flush_line n v p node).0.shelves ≡ node.shelves
no_shelf n v p node none =
    shelves_left node (after_job (flush_here n v p node) node.vbs node.shelves) ∙ ap (λ (o : Option Plain). (after_job (flush_at n v p (is_some o)) node.vbs node.shelves).0.1) none

-- the arm stays
pub flush_arm : (n v : ℕ) (p : FlushPart) (node : PlainNode) → (flush_line n v p node).0.arm ≡ node.arm
flush_arm n v p node = let came = after_job (flush_here n v p node) node.vbs node.shelves in posts_arm came.1.resolved (with_kept node came.0)

-- where there is no such vBucket
pub no_flush : (n v : ℕ) (p : FlushPart) (node : PlainNode) → node.vbs v ≡ None → (flush_line n v p node).1.answer ≡ line.No cause.UnknownVb
no_flush n v p node none = ap (λ (o : Option Plain). (after_job (flush_at n v p (is_some o)) node.vbs node.shelves).1.answer) none

module _ (n v : ℕ) where
  -- by the vBucket and its journal
  abbrev pub part_answer : FlushPart → PlainNode → Plain → Shelf → Answer
  part_answer p node vb shelf = answer_of n v node.vbs (with_shelf_at node.shelves v shelf) (part_job v p shelf.flush)

  pub flushed_as : (p : FlushPart) (node : PlainNode) (vb : Plain) (shelf : Shelf) → node.vbs v ≡ Some vb → node.shelves v ≡ Some shelf
      → after_job (flush_here n v p node) node.vbs node.shelves ≡ steps_of n v node.vbs (with_shelf_at node.shelves v shelf) (part_job v p shelf.flush)
  unfolding flush_job
  flushed_as p node vb shelf here kept =
      ap (λ (o : Option Plain). after_job (flush_at n v p (is_some o)) node.vbs node.shelves) here
      ∙ ap (λ (o : Option Shelf). steps_of n v node.vbs (ask_at node.shelves v Look o).0 (part_job v p (ask_at node.shelves v Look o).1)) kept

  pub flush_is : (p : FlushPart) (node : PlainNode) (vb : Plain) (shelf : Shelf) → node.vbs v ≡ Some vb → node.shelves v ≡ Some shelf → (flush_line n v p node).1.answer ≡ part_answer p node vb shelf
  flush_is p node vb shelf here kept = ap (λ (came : (States × Shelves) × FlushResult). came.1.answer) (flushed_as p node vb shelf here kept)

  module _ (node : PlainNode) (vb : Plain) (shelf : Shelf) where
    abbrev states : States
    states = node.vbs

    abbrev shelves : Shelves
    shelves = with_shelf_at node.shelves v shelf

    pub out_refused : shelf.flush ≢ Idle → part_answer part.Take node vb shelf ≡ line.No cause.BatchOut
    out_refused = by shelf.flush
      where
        by : (f : Flush) → f ≢ Idle → answer_of n v states shelves (take_job v f) ≡ line.No cause.BatchOut
        by Idle ne = absurd (ne refl)
        by (Out batch) ne = refl
        by (Written seq) ne = refl

    taken_by : (after_it : States) (o : Option Batch) → (count : ℕ) × (answer_of n v after_it shelves (taken_job v (λ batch. Ended (took batch)) o) ≡ line.Number count)
    taken_by after_it None = (0, refl)
    taken_by after_it (Some batch) = (length batch.items, refl)

    pub taken_count : shelf.flush ≡ Idle → (count : ℕ) × (part_answer part.Take node vb shelf ≡ line.Number count)
    taken_count idle =
        subst (λ f. (count : ℕ) × (answer_of n v states shelves (take_job v f) ≡ line.Number count)) (sym idle)
        (taken_by (states_step states v call.FlushTake).0 (batch_of_reply (states_step states v call.FlushTake).1))

    pub untaken_refused : ((batch : Batch) → shelf.flush ≢ Out batch) → part_answer part.Save node vb shelf ≡ line.No cause.NothingTaken
    untaken_refused = by shelf.flush
      where
        by : (f : Flush) → ((batch : Batch) → f ≢ Out batch) → answer_of n v states shelves (save_job v f) ≡ line.No cause.NothingTaken
        by Idle ne = refl
        by (Out batch) ne = absurd (ne batch refl)
        by (Written seq) ne = refl

    -- nothing is appended then
    pub untaken_kept : ((batch : Batch) → shelf.flush ≢ Out batch) → node.vbs v ≡ Some vb → node.shelves v ≡ Some shelf → (flush_line n v part.Save node).0.shelves v ≡ Some shelf
    untaken_kept ne here kept = ap (λ (s : Shelves). s v) (shelves_left node (after_job (flush_here n v part.Save node) node.vbs node.shelves)) ∙ ap (λ (came : (States × Shelves) × FlushResult). came.0.1 v) (flushed_as part.Save node vb shelf here kept) ∙ by shelf.flush ne
      where
        by : (f : Flush) → ((batch : Batch) → f ≢ Out batch) → (steps_of n v states shelves (save_job v f)).0.1 v ≡ Some shelf
        by Idle ne = shelf_here node.shelves v shelf
        by (Out batch) ne = absurd (ne batch refl)
        by (Written seq) ne = shelf_here node.shelves v shelf

    -- the arm over the disk burnt by one append
    pub saved_kept : fate_of shelf ≡ Stood → (batch : Batch) → shelf.flush ≡ Out batch → node.vbs v ≡ Some vb → node.shelves v ≡ Some shelf → fuse_at (flush_line n v part.Save node).0.shelves v ≡ Some (burnt_noting shelf.fuse)
    saved_kept sound batch is here kept =
        let what : Record = noted.Rows batch in
        let y : Shelf = after_fate shelf what Stood in
        let T : Shelves = with_shelf_at shelves v y in
        ap (λ (s : Shelves). fuse_at s v) (shelves_left node (after_job (flush_here n v part.Save node) node.vbs node.shelves)) ∙ ap (λ (came : (States × Shelves) × FlushResult). fuse_at came.0.1 v) (flushed_as part.Save node vb shelf here kept)
        ∙ ap (λ f. fuse_at (steps_of n v states shelves (save_job v f)).0.1 v) is
        ∙ ap (λ (o : Option Shelf). fuse_at (steps_of n v states (ask_at shelves v (Append what) o).0 (appended_job v batch (Ended flushed.Saved) (ask_at shelves v (Append what) o).1)).0.1 v) (shelf_here node.shelves v shelf)
        ∙ ap (λ fate. fuse_at (steps_of n v states (with_shelf_at shelves v (after_fate shelf what fate)) (appended_job v batch (Ended flushed.Saved) fate)).0.1 v) sound
        ∙ ap (λ (o : Option Shelf). fuse_at (ask_at T v (Keep (Written batch.position.at)) o).0 v) (shelf_here shelves v y)
        ∙ ap (option_map (λ (x : Shelf). x.fuse)) (shelf_here T v (record y { flush = Written batch.position.at }))

    pub saved_ok : fate_of shelf ≡ Stood → (batch : Batch) → shelf.flush ≡ Out batch → part_answer part.Save node vb shelf ≡ line.Ok
    saved_ok sound batch is =
        let what : Record = noted.Rows batch in
        ap (λ f. answer_of n v states shelves (save_job v f)) is
        ∙ ap (λ (o : Option Shelf). answer_of n v states (ask_at shelves v (Append what) o).0 (appended_job v batch (Ended flushed.Saved) (ask_at shelves v (Append what) o).1)) (shelf_here node.shelves v shelf)
        ∙ ap (λ fate. answer_of n v states (ask_at shelves v (Append what) (Some shelf)).0 (appended_job v batch (Ended flushed.Saved) fate)) sound

    pub unsaved_refused : ((seq : ℕ) → shelf.flush ≢ Written seq) → part_answer part.Done node vb shelf ≡ line.No cause.NothingTaken
    unsaved_refused = by shelf.flush
      where
        by : (f : Flush) → ((seq : ℕ) → f ≢ Written seq) → answer_of n v states shelves (finish_job v f) ≡ line.No cause.NothingTaken
        by Idle ne = refl
        by (Out batch) ne = refl
        by (Written seq) ne = absurd (ne seq refl)

    pub done_count : (seq : ℕ) → shelf.flush ≡ Written seq → (count : ℕ) × (part_answer part.Done node vb shelf ≡ line.Number count)
    done_count seq is = (saved_of_reply (states_step states v (call.FlushDone seq)).1, ap (λ f. answer_of n v states shelves (finish_job v f)) is)
