-- a node's clock shows another time, and nothing else changes
use Rattle.std.specs.Prelude.{◌≡◌}
use Rattle.transcript_law.proofs.Words.{ℕ, refl, sym, ap, ◌∙◌, subst, ⊎_elim, Some, None, Cluster, Chronicle, PlainWorld, with_id}
use Rattle.transcript_law.proofs.invariant.Agreement.{AgreesIn, Busy, IsLink, Power, PowerIs, PowerIsIf, clock_of, power_of}
use Rattle.transcript_law.proofs.invariant.Carried.{numbers}
use Rattle.transcript_law.proofs.invariant.Carrying.{Reclocked, SameOffs, off_of}
use Rattle.transcript_law.proofs.invariant.OneLink.{carries_rests}
use Rattle.transcript_law.proofs.invariant.Resting.{ends_off, rests_with}
use Rattle.transcript_law.proofs.invariant.Tables.{id_here, id_there}

-- the clock of the node n, which is running, shows another time
pub carries_clock : (busy : Busy) (w w' : PlainWorld) (r : Chronicle) (c : Cluster) (n nanos : ℕ) (power : Power) → AgreesIn busy w r c → Reclocked w w' n power nanos → power.off ≡ None → AgreesIn busy w' (record r { clock_at = with_id r.clock_at n nanos }) c
carries_clock busy w w' r c n nanos power a same runs =
    carries_rests busy busy w w' r r.arm_at clocks c a same.clients same.vbs same.shelves same.uuids same.linked
    (rests_with w w' r r' c c a.rests offs powers shown
    (λ m v none. record { vb = sym (same.vbs m v) ∙ none; shelf = same.shelves m v; row = refl; member = refl; disk = refl })
    (λ m v down. (same.vbs m v ∙ (a.downs m v).vb_none down, same.shelves m v ∙ (a.downs m v).shelf_none down))
    (λ m v e. e) (λ x i. ends_off w w' x x offs (record { dialed = refl; desk = refl }) (a.ends x (subst (IsLink x) same.linked i)))) (λ k. refl)
  where
    clocks : ℕ → ℕ
    clocks = with_id r.clock_at n nanos

    r' : Chronicle
    r' = record r { clock_at = clocks }

    offs : SameOffs w w'
    offs m = ⊎_elim
        (λ e. ap (λ k. off_of (power_of w' k)) e ∙ ap off_of same.shows ∙ sym (ap off_of same.before) ∙ ap (λ k. off_of (power_of w k)) (sym e))
        (λ ne. ap off_of (same.others m ne))
        (numbers m n)

    was : PowerIs (r.arm_at n) power
    was = subst (PowerIsIf (r.arm_at n)) same.before (a.powers n)

    powers : (m : ℕ) → PowerIsIf (r.arm_at m) (power_of w' m)
    powers m = ⊎_elim
        (λ e. subst (λ k. PowerIsIf (r.arm_at k) (power_of w' k)) (sym e)
        (subst (PowerIsIf (r.arm_at n)) (sym same.shows) (record { fuse = was.fuse; out = was.out; down = was.down; zero = λ books off. let z : None ≡ Some books = sym runs ∙ off in cc; may_fire = was.may_fire; listed_so = was.listed_so })))
        (λ ne. subst (PowerIsIf (r.arm_at m)) (sym (same.others m ne)) (a.powers m))
        (numbers m n)

    shown : (m : ℕ) → clocks m ≡ clock_of (power_of w' m)
    shown m = ⊎_elim
        (λ e. subst (λ k. clocks k ≡ clock_of (power_of w' k)) (sym e) (id_here r.clock_at n nanos ∙ sym (ap clock_of same.shows)))
        (λ ne. id_there r.clock_at n nanos m (λ e. ne (sym e)) ∙ a.clocks m ∙ sym (ap clock_of (same.others m ne)))
        (numbers m n)
