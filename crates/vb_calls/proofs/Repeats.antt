-- what the turns of a loop come to, from the first one on
use Rattle.std.proofs.Common.{zero, suc, arith, ◌≡◌, ◌⊎◌, ℕ, Option, refl, ap, sym, subst, inl, inr}
use Rattle.vb_calls.specs.declared.calls.VbCall.{VbCall}
use Rattle.vb_calls.specs.declared.calls.VbReply.{VbReply}
use Rattle.vb_calls.specs.Jobs.{Job, go_on_job, repeated_job, RanJob, BeganJob}
use Rattle.vb_calls.specs.Programs.{Turn, More, Stop}
use Rattle.vb_calls.specs.Repeats.{WentOn, StoppedWithin, BrokeOffWithin, HasNoTurn, TurnsAreMade}
use Rattle.vb_calls.specs.Shelves.{Ask, Got}
use Rattle.vb_calls.proofs.JobRuns.{ran_bind_job, bind_ran_job, bind_began_job, began_none_job, began_all_job, repeated_stop_job, repeated_began_job}

module _ {W J A R : Type 0} (step : W → ℕ → VbCall → Option VbReply → W → Type 0) (asks : J → ℕ → (ask : Ask) → Got ask → J → Type 0) (f : A → Job (Turn A R)) where
  -- what ended without a call and a request is where it began
  stayed : {B : Type 0} (job : Job B) (b c : B) (old : W) (kept : J) (mid new : W) (held left : J) → RanJob step asks job old kept b mid held → c ≡ b → new ≡ mid → left ≡ held → RanJob step asks job old kept c new left
  stayed job b c old kept mid new held left ran same there alike =
      subst (λ x. RanJob step asks job old kept x new left) (sym same)
      (subst (λ w. RanJob step asks job old kept b w left) (sym there) (subst (λ j. RanJob step asks job old kept b mid j) (sym alike) ran))

  -- one more turn behind those that went on
  went_next : (n : ℕ) (a : A) (old : W) (kept : J) (b : A) (mid : W) (held : J) (c : A) (new : W) (left : J) → WentOn step asks f n a old kept b mid held → RanJob step asks (f b) mid held (More c) new left → WentOn step asks f (suc n) a old kept c new left
  went_next zero a old kept b mid held c new left went turn =
      let there = subst (λ x. RanJob step asks (f x) mid held (More c) new left) went.0 turn in
      let from = subst (λ w. RanJob step asks (f a) w held (More c) new left) went.1 there in
      (c, new, left, subst (λ j. RanJob step asks (f a) old j (More c) new left) went.2 from, (refl, refl, refl))
  went_next (suc n) a old kept b mid held c new left went turn =
      (went.0, went.1, went.2, went.3, went_next n went.0 went.1 went.2 b mid held c new left went.4 turn)

  -- turns that all went on, and one more
  all_went : (n : ℕ) (a : A) (old : W) (kept : J) (b : A) (new : W) (left : J) → RanJob step asks (repeated_job n f a) old kept (More b) new left → WentOn step asks f n a old kept b new left
  all_went zero a old kept b new left ran = (cc ran.0, ran.1, ran.2)
  all_went (suc n) a old kept b new left ran =
      let (t, mid, held, first, second) = bind_ran_job step asks (repeated_job n f a) (go_on_job f) old kept (More b) new left ran in by (all_went n a old kept) t mid held first second
    where
      by : ((c : A) (mid : W) (held : J) → RanJob step asks (repeated_job n f a) old kept (More c) mid held → WentOn step asks f n a old kept c mid held)
          → (t : Turn A R) (mid : W) (held : J) → RanJob step asks (repeated_job n f a) old kept t mid held → RanJob step asks (go_on_job f t) mid held (More b) new left → WentOn step asks f (suc n) a old kept b new left
      by before (More c) mid held first second = went_next n a old kept c mid held b new left (before c mid held first) second
      by before (Stop r) mid held first second = absurd (cc second.0)

  -- one turn in front of the others
  first_turn : (n : ℕ) (a : A) (old : W) (kept : J) (c : A) (mid : W) (held : J) (t : Turn A R) (new : W) (left : J) → RanJob step asks (f a) old kept (More c) mid held → RanJob step asks (repeated_job n f c) mid held t new left → RanJob step asks (repeated_job (suc n) f a) old kept t new left
  first_turn zero a old kept c mid held t new left first rest = stayed (f a) (More c) t old kept mid new held left first rest.0 rest.1 rest.2
  first_turn (suc n) a old kept c mid held t new left first rest =
      let (u, there, seen, one, two) = bind_ran_job step asks (repeated_job n f c) (go_on_job f) mid held t new left rest in
      ran_bind_job step asks (repeated_job (suc n) f a) (go_on_job f) old kept u there seen t new left (first_turn n a old kept c mid held u there seen first one) two

  went_all : (n : ℕ) (a : A) (old : W) (kept : J) (b : A) (new : W) (left : J) → WentOn step asks f n a old kept b new left → RanJob step asks (repeated_job n f a) old kept (More b) new left
  went_all zero a old kept b new left went = (ap More went.0, went.1, went.2)
  went_all (suc n) a old kept b new left went =
      first_turn n a old kept went.0 went.1 went.2 (More b) new left went.3 (went_all n went.0 went.1 went.2 b new left went.4)

  -- what stopped within some turns stopped within one more
  stop_wider : (n : ℕ) (a : A) (old : W) (kept : J) (r : R) (new : W) (left : J) → StoppedWithin step asks f n a old kept r new left → StoppedWithin step asks f (suc n) a old kept r new left
  stop_wider n a old kept r new left so = record {
    turns = so.turns;
    fewer = omega (arith, so.fewer);
    last = so.last;
    mid = so.mid;
    held = so.held;
    went = so.went;
    stopped = so.stopped;
  }

  has_stopped : (n : ℕ) (a : A) (old : W) (kept : J) (r : R) (new : W) (left : J) → RanJob step asks (repeated_job n f a) old kept (Stop r) new left → StoppedWithin step asks f n a old kept r new left
  has_stopped zero a old kept r new left ran = absurd (cc ran.0)
  has_stopped (suc n) a old kept r new left ran =
      let (t, mid, held, first, second) = bind_ran_job step asks (repeated_job n f a) (go_on_job f) old kept (Stop r) new left ran in by (has_stopped n a old kept r new left) t mid held first second
    where
      by : (RanJob step asks (repeated_job n f a) old kept (Stop r) new left → StoppedWithin step asks f n a old kept r new left)
          → (t : Turn A R) (mid : W) (held : J) → RanJob step asks (repeated_job n f a) old kept t mid held → RanJob step asks (go_on_job f t) mid held (Stop r) new left → StoppedWithin step asks f (suc n) a old kept r new left
      by before (More c) mid held first second = record {
        turns = n;
        fewer = omega arith;
        last = c;
        mid = mid;
        held = held;
        went = all_went n a old kept c mid held first;
        stopped = second;
      }
      by before (Stop q) mid held first second =
          stop_wider n a old kept r new left (before (stayed (repeated_job n f a) (Stop q) (Stop r) old kept mid new held left first second.0 second.1 second.2))

  stopped_so : (n : ℕ) (a : A) (old : W) (kept : J) (r : R) (new : W) (left : J) → StoppedWithin step asks f n a old kept r new left → RanJob step asks (repeated_job n f a) old kept (Stop r) new left
  stopped_so n a old kept r new left so =
      repeated_stop_job step asks f n so.turns a old kept so.last so.mid so.held r new left so.fewer (went_all so.turns a old kept so.last so.mid so.held so.went) so.stopped

  -- what was begun
  abbrev Broke : ℕ → A → W → J → W → J → Type 0
  Broke n a old kept new left = HasNoTurn step asks f n old kept new left ⊎ BrokeOffWithin step asks f n a old kept new left

  begun_wider : (n : ℕ) (a : A) (old : W) (kept : J) (new : W) (left : J) → Broke n a old kept new left → BrokeOffWithin step asks f (suc n) a old kept new left
  begun_wider n a old kept new left (inl none) = record {
    turns = 0;
    fewer = omega arith;
    last = a;
    mid = old;
    held = kept;
    went = (refl, refl, refl);
    begun = began_none_job step asks (f a) old kept new left none.1 none.2;
  }
  begun_wider n a old kept new left (inr so) = record {
    turns = so.turns;
    fewer = omega (arith, so.fewer);
    last = so.last;
    mid = so.mid;
    held = so.held;
    went = so.went;
    begun = so.begun;
  }

  begun_stopped : (n : ℕ) (a : A) (old : W) (kept : J) (r : R) (new : W) (left : J) → StoppedWithin step asks f n a old kept r new left → BrokeOffWithin step asks f n a old kept new left
  begun_stopped n a old kept r new left so = record {
    turns = so.turns;
    fewer = so.fewer;
    last = so.last;
    mid = so.mid;
    held = so.held;
    went = so.went;
    begun = began_all_job step asks (f so.last) so.mid so.held (Stop r) new left so.stopped;
  }

  has_begun : (n : ℕ) (a : A) (old : W) (kept : J) (new : W) (left : J) → BeganJob step asks (repeated_job n f a) old kept new left → Broke n a old kept new left
  has_begun zero a old kept new left begun = inl (refl, begun.0, begun.1)
  has_begun (suc n) a old kept new left begun = inr (elim (bind_began_job step asks (repeated_job n f a) (go_on_job f) old kept new left begun) [
    | inl first ↦ begun_wider n a old kept new left (has_begun n a old kept new left first)
    | inr both ↦ by both.0 both.1 both.2 both.3 both.4
  ])
    where
      by : (t : Turn A R) (mid : W) (held : J) → RanJob step asks (repeated_job n f a) old kept t mid held → BeganJob step asks (go_on_job f t) mid held new left → BrokeOffWithin step asks f (suc n) a old kept new left
      by (More c) mid held first second = record {
        turns = n;
        fewer = omega arith;
        last = c;
        mid = mid;
        held = held;
        went = all_went n a old kept c mid held first;
        begun = second;
      }
      by (Stop r) mid held first second =
          let before = stayed (repeated_job n f a) (Stop r) (Stop r) old kept mid new held left first refl second.0 second.1 in
          begun_stopped (suc n) a old kept r new left (stop_wider n a old kept r new left (has_stopped n a old kept r new left before))

  begun_so : (n : ℕ) (a : A) (old : W) (kept : J) (new : W) (left : J) → Broke n a old kept new left → BeganJob step asks (repeated_job n f a) old kept new left
  begun_so n a old kept new left (inl none) = subst (λ m. BeganJob step asks (repeated_job m f a) old kept new left) (sym none.0) (none.1, none.2)
  begun_so n a old kept new left (inr so) =
      repeated_began_job step asks f n so.turns a old kept so.last so.mid so.held new left so.fewer (went_all so.turns a old kept so.last so.mid so.held so.went) so.begun

  pub turns_made : TurnsAreMade step asks f
  turns_made = record {
    all = λ n a old kept b new left. (all_went n a old kept b new left, went_all n a old kept b new left);
    stop = λ n a old kept r new left. (has_stopped n a old kept r new left, stopped_so n a old kept r new left);
    short = λ n a old kept new left. (has_begun n a old kept new left, begun_so n a old kept new left);
  }
