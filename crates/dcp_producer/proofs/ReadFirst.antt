-- what a stream puts of a backfill
use Rattle.std.proofs.Common.{◌≡◌, ◌≤◌, ℕ, zero, suc, [], ◌∷◌, List, length, refl, sym, ap, ◌∙◌, subst, ◌⊎◌, inl, inr, arith, Option, Some, None}
use Rattle.std.specs.Prelude.{if◌then◌else◌, slice_get}
use Rattle.std.proofs.lemmas.Bool.{false_from_ne_true}
use Rattle.takeover.specs.Laws.{number}
use Rattle.takeover.specs.declared.give_up.GiveStep.{GiveStep}
use Rattle.takeover.specs.declared.give_up.GiveStep.TheVariants as step
use Rattle.takeover.specs.declared.give_up.GiveUp.{GiveUp}
use Rattle.vb_types.specs.declared.stream.Snapshot.{Snapshot}
use Rattle.vb_events.specs.declared.event.StreamName.{StreamName}
use Rattle.vb_calls.specs.Jobs.{Job, Ended}
use Rattle.vb_calls.specs.Shelves.{Reading, Book, Shut, Unread, Broken}
use Rattle.backfill.specs.Backfills.{backfilled, disk_snapshot_of, found}
use Rattle.dcp_producer.specs.declared.next_frame.NextFrame.TheVariants as next
use Rattle.dcp_producer.specs.Backfilling.{BackfillsAreRead, BackfillsComeFirst, IsUnreadable, ReadsSo, read_as, replied_as}
use Rattle.dcp_producer.specs.Ends.{AsksOn, IsAt, Reaches}
use Rattle.dcp_producer.specs.Frames.{Next, STATE_CHANGED, alive_next, backfill_next, changes_next, close_sent, go_on_by, next_by, next_frame, over, place_requested, place_told, placed_next, reaches_end, read_comes, read_up, step_next, take_requested, with_unread}
use Rattle.dcp_producer.specs.Producers.{PlainStream}
use Rattle.dcp_producer.proofs.Dues.{reaches_so}

-- ---- where the next changes are asked for

none_left : {X : Type 0} (xs : List X) (n : ℕ) → length xs ≤ n → slice_get xs n ≡ None
none_left [] n behind = refl
none_left (x ∷ xs) zero behind = absurd (omega (arith, behind))
none_left (x ∷ xs) (suc n) behind = none_left xs n (omega (arith, behind))

module _ (name : StreamName) (stream : PlainStream) where
  abbrev changes : Job Next
  changes = changes_next name stream stream.unread

  step_is : (n : ℕ) (g : GiveUp) (s : GiveStep) → number s ≡ n → (n ≡ 1) ⊎ (n ≡ 5) → step_next name stream g s ≡ changes
  step_is n g step.SendAll is sends = refl
  step_is n g step.SendRest is sends = refl
  step_is n g step.SendPending is (inl one) = absurd (omega (arith, is, one))
  step_is n g step.SendPending is (inr five) = absurd (omega (arith, is, five))
  step_is n g step.AwaitPending is (inl one) = absurd (omega (arith, is, one))
  step_is n g step.AwaitPending is (inr five) = absurd (omega (arith, is, five))
  step_is n g step.Yield is (inl one) = absurd (omega (arith, is, one))
  step_is n g step.Yield is (inr five) = absurd (omega (arith, is, five))
  step_is n g step.SendActive is (inl one) = absurd (omega (arith, is, one))
  step_is n g step.SendActive is (inr five) = absurd (omega (arith, is, five))
  step_is n g step.AwaitActive is (inl one) = absurd (omega (arith, is, one))
  step_is n g step.AwaitActive is (inr five) = absurd (omega (arith, is, five))
  step_is n g step.End is (inl one) = absurd (omega (arith, is, one))
  step_is n g step.End is (inr five) = absurd (omega (arith, is, five))

  step_at : (n : ℕ) → (n ≡ 1) ⊎ (n ≡ 5) → IsAt n stream → alive_next name stream stream.gives ≡ changes
  step_at n sends (g, gives, is) = ap (alive_next name stream) gives ∙ step_is n g g.step is sends

  below_so : ((stream.gives ≡ None) × (Reaches stream → ⊥)) ⊎ IsAt 1 stream ⊎ IsAt 5 stream → alive_next name stream stream.gives ≡ changes
  below_so (inl (none, below)) =
      ap (alive_next name stream) none
      ∙ ap (λ b. if b then close_sent stream else changes) (false_from_ne_true (reaches_end stream.until stream.marked) (λ t. below (reaches_so stream.until stream.marked t)))
  below_so (inr (inl first)) = step_at 1 (inl refl) first
  below_so (inr (inr fifth)) = step_at 5 (inr refl) fifth

  pub asks_changes : AsksOn stream → next_frame name stream ≡ changes
  unfolding next_frame
  asks_changes on =
      ap (next_by name stream) (none_left stream.items stream.next on.behind)
      ∙ ap (λ b. if b then Ended (over STATE_CHANGED stream) else alive_next name stream stream.gives) on.alive ∙ below_so on.below

-- ---- a backfill that is read

-- that the journal can't be read, as a number
unreadable_tag : Job Next → ℕ
unreadable_tag (Ended (next.Disk, stream)) = 1
unreadable_tag other = 0

module _ (name : StreamName) (stream : PlainStream) (end : ℕ) (on : PlainStream → Job Next) (goes : (left : PlainStream) → unreadable_tag (on left) ≡ 0) where
  abbrev job : Job Next
  job = backfill_next name on end stream

  none_unreadable : (o : Option Snapshot) → unreadable_tag (go_on_by on (read_comes name stream (found o))) ≡ 1 → ⊥
  unfolding unreadable_tag
  none_unreadable None is = let none = goes (read_up stream) in omega (arith, is, none)
  none_unreadable (Some snapshot) is = omega (arith, is)

  unreadable : (r : Reading) → unreadable_tag (read_as r job) ≡ 1 → IsUnreadable r
  unfolding backfilled
  unreadable (Book book) is = absurd (none_unreadable (disk_snapshot_of book stream.place end stream.sync) is)
  unreadable Shut is = inl refl
  unreadable Unread is = inr (inl refl)
  unreadable (Broken at) is = inr (inr (at, refl))

  is_unreadable : (r : Reading) → IsUnreadable r → read_as r job ≡ Ended (next.Disk, stream)
  unfolding backfilled
  is_unreadable r (inl is) = ap (λ r. read_as r job) is
  is_unreadable r (inr (inl is)) = ap (λ r. read_as r job) is
  is_unreadable r (inr (inr (at, is))) = ap (λ r. read_as r job) is

  one_tag : unreadable_tag (Ended (next.Disk, stream)) ≡ 1
  unfolding unreadable_tag
  one_tag = refl

  reads_so : ReadsSo name stream end job (on (read_up stream))
  reads_so = record {
    first = refl;
    marker = λ r s is. ap (λ came. go_on_by on (read_comes name stream came)) is;
    disk = λ r. (λ is. unreadable r (ap unreadable_tag is ∙ one_tag), is_unreadable r);
    nothing = λ r is. ap (λ came. go_on_by on (read_comes name stream came)) is;
  }

place_goes : (name : StreamName) (left : PlainStream) → unreadable_tag (place_requested name left) ≡ 0
unfolding unreadable_tag
place_goes name left = refl

take_goes : (name : StreamName) (left : PlainStream) → unreadable_tag (take_requested name left) ≡ 0
unfolding unreadable_tag
take_goes name left = refl

pub come_first : BackfillsComeFirst
come_first name stream end on unread =
    subst (λ job. ReadsSo name stream end job (place_requested name (read_up stream))) (sym (asks_changes name stream on ∙ ap (changes_next name stream) unread))
    (reads_so name stream end (place_requested name) (place_goes name))

pub are_read : BackfillsAreRead
are_read name stream end reply on none says =
    subst (λ job. ReadsSo name (with_unread end stream) end job (take_requested name (read_up stream)))
    (sym (ap (replied_as (Some reply)) (asks_changes name stream on ∙ ap (changes_next name stream) none) ∙ ap (λ a. placed_next name stream (place_told a)) says))
    (reads_so name (with_unread end stream) end (take_requested name) (take_goes name))
