-- the end of a takeover's stream, as its heir is given up in turn, and before there is one, judged by hand
use Rattle.std.specs.Prelude.{◌≡◌, ◌⊎◌, ◌≤◌}
use Rattle.transcript_law.proofs.Words.{ℕ, refl, arith, inl, inr, ⊎_elim, Option, Some, Role}
use Rattle.transcript_law.proofs.rows.TakeoverRows.{own_dial}
use Rattle.transcript_law.proofs.rows.TakeoverWaits.{as_fed}
use Rattle.transcript_law.specs.LinesTold.{Answered, Obeyed, Put}
use Rattle.transcript_law.specs.TakeoverLines.{EndsHanded}
use Rattle.transcript_law.specs.TakeoverRows.{MayStand, finishes, given_on, moved_heard, put_active_now}

pub ended_given_on : MayStand (given_on moved_heard) (finishes 0)
ended_given_on d g t has = as_fed (given_on moved_heard) _ (λ x y. EndsHanded (given_on moved_heard) 1 x y 0) refl refl
    (inl (
      refl,
      record {
        handed = record { steady = refl; stated = refl; dead = refl };
        answered = record { told = λ e. let z : ◌≡◌ {A = Obeyed} Answered Put = e in cc; has = inr refl; marks = refl; items = refl; moved = omega arith };
      },
    )) d g t.0 has

-- by the lines of the group that puts the state active the replica is pending yet
pub ended_at_once : MayStand put_active_now (finishes 0) → ⊥
ended_at_once l = ⊎_elim (λ x. ⊎_elim (λ e. no_active e) (λ e. no_dead e) x.1.answered.has) (λ x. let e : ◌≡◌ {A = ℕ} 0 2 = x.0 in omega (arith, e)) (l own_dial _ (refl, refl) refl)
  where
    no_active : ◌≡◌ {A = Option (Option Role)} (Some (Some Role.Pending)) (Some (Some Role.Active)) → ⊥
    no_active e = cc

    no_dead : ◌≡◌ {A = Option (Option Role)} (Some (Some Role.Pending)) (Some (Some Role.Dead)) → ⊥
    no_dead e = cc
