-- how a run of calls goes on from moment to moment
use Rattle.std.proofs.Common.{◌≡◌, inl, inr, ⊎_elim, ℕ, List, arith, subst, sym}
use Rattle.std.specs.Prelude.{Option, Some, None}
use Rattle.vb_disk.specs.Crashes.{Crashes, CountsNow, Elapses, LeavesNoMore, MayTear, IsSettled, TornFrom, AtEachMoment}
use Rattle.vb_disk.proofs.Rewritten.{unwritten_is_torn}

-- a disk stays settled where no image is added
pub stays_settled : (held held' : Option (List ℕ)) (old new : Crashes) → held' ≡ held → LeavesNoMore old new → IsSettled held old → IsSettled held' new
stays_settled None held' old new same more settled = subst (λ h. IsSettled h new) (sym same) tt
stays_settled (Some bytes) held' old new same more settled = subst (λ h. IsSettled h new) (sym same) (λ image left. settled image (more.among image left))

pub no_more_none : (c : Crashes) → LeavesNoMore c c
no_more_none c = record { later = omega arith; among = λ image left. left; nothing_else = λ t image le left. left; keeps = λ t image le left. left }

pub no_more_twice : (old mid new : Crashes) → LeavesNoMore old mid → LeavesNoMore mid new → LeavesNoMore old new
no_more_twice old mid new first second = record {
  later = omega (arith, first.later, second.later);
  among = λ image left. first.among image (second.among image left);
  nothing_else = λ t image le left. first.nothing_else t image le (second.nothing_else t image (omega (arith, le, first.later)) left);
  keeps = λ t image le left. second.keeps t image (omega (arith, le, first.later)) (first.keeps t image le left);
}

module _ (Has : List ℕ → Type 0) where
  -- at the first moment
  pub started : (c : Crashes) → CountsNow c → ((image : List ℕ) → c.leaves image → Has image) → AtEachMoment c c Has
  started c counts here = record { later = omega arith; each = λ image left. here image (counts.no_other image left); before = λ t image le left. inl left }

  -- a call more, after which a crash leaves what has it
  pub goes_on : (old mid new : Crashes) → AtEachMoment old mid Has → Elapses mid new → ((image : List ℕ) → new.leaves image → Has image) → AtEachMoment old new Has
  goes_on old mid new so_far time here = record {
    later = omega (arith, so_far.later, time.later);
    each = λ image left. ⊎_elim (so_far.each image) (here image) (time.nothing_else old.moment image so_far.later left);
    before = λ t image le left. ⊎_elim (so_far.before t image le) (λ now. inr (here image now)) (time.nothing_else t image (omega (arith, le, so_far.later)) left);
  }

  -- one that adds no image
  pub goes_on_same : (old mid new : Crashes) → AtEachMoment old mid Has → LeavesNoMore mid new → AtEachMoment old new Has
  goes_on_same old mid new so_far more = record {
    later = omega (arith, so_far.later, more.later);
    each = λ image left. so_far.each image (more.nothing_else old.moment image so_far.later left);
    before = λ t image le left. so_far.before t image le (more.nothing_else t image (omega (arith, le, so_far.later)) left);
  }

  -- one run behind another
  pub joined : (old mid new : Crashes) → AtEachMoment old mid Has → AtEachMoment mid new Has → AtEachMoment old new Has
  joined old mid new first second = record {
    later = omega (arith, first.later, second.later);
    each = λ image left. ⊎_elim (first.each image) (λ has. has) (second.before old.moment image first.later left);
    before = λ t image le left. ⊎_elim (first.before t image le) (λ has. inr has) (second.before t image (omega (arith, le, first.later)) left);
  }

-- what has this has that
pub weaker : (Has Had : List ℕ → Type 0) (old new : Crashes) → ((image : List ℕ) → Has image → Had image) → AtEachMoment old new Has → AtEachMoment old new Had
weaker Has Had old new so moments = record {
  later = moments.later;
  each = λ image left. so image (moments.each image left);
  before = λ t image le left. ⊎_elim (λ past. inl past) (λ has. inr (so image has)) (moments.before t image le left);
}

-- at each moment of a write its range is torn, and nothing else
pub write_tears : (old new : Crashes) (at n : ℕ) → CountsNow old → MayTear old new at n → AtEachMoment old new (TornFrom old.leaves at n)
write_tears old new at n counts tears =
    let Has = TornFrom old.leaves at n in
    goes_on Has old old new (started Has old counts (λ image left. (image, left, unwritten_is_torn at n image))) tears.elapses tears.follows
