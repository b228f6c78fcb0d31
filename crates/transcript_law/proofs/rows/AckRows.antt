-- acknowledgements, judged by hand
use Rattle.std.specs.Prelude.{◌≡◌, ◌∷◌, ◌++◌}
use Rattle.transcript_law.proofs.Words.{true, ℕ, List, [], ap, inl, refl, subst, sym, ◌∙◌, ⊎_elim, arith, Option, Some, None, Granted, Role, Change, LawfulFrom, after_both, hist, image_of, is_follower, next_change, one_change, stream_branch}
use Rattle.transcript_law.proofs.{links.Acknowledging.{acked_is_lawful}, rows.Contrary.{none_waits}, rows.Followers.{changes, key_as}}
use Rattle.transcript_law.specs.{Contrary.{acknowledged_lines, counted_lines, first_lost}, Lawfulness.{FollowsStream}}
use Rattle.vb_events.specs.declared.event.StreamName.TheVariants.{Link}
use Rattle.branch_model.proofs.Lists.{last_in}
use Rattle.branch_model.specs.Snapshots.{Follows}
use Rattle.vb_types.specs.Histories.{Slot, touches}

-- what was acknowledged on a stream
abbrev pub wrote_in : Option Granted → List ℕ
wrote_in None = []
wrote_in (Some g) = g.wrote

-- the branch of a stream, and one that is known
abbrev pub branch_in : Option Granted → ℕ
branch_in None = 0
branch_in (Some g) = stream_branch g

abbrev pub number_in : Option ℕ → ℕ
number_in None = 0
number_in (Some n) = n

-- one of which no role is told may follow
pub unmade : (said : Role) → ◌≡◌ {A = Option (Option Role)} (Some None) (Some (Some said)) → is_follower said ≡ true
unmade said e = cc

-- a replica holds what its branch has, all of it
both_followed : Follows changes (record { ss = 0; se = 2; at = 2 }) changes (image_of changes)
both_followed = record { image_is = refl; rises = (omega arith, (omega arith, omega arith)); within = omega arith; of = λ x i. (x, i, inl refl); has = λ s c e a b. (c, (last_in (touches s) changes c e).0, inl refl) }

pub whole : LawfulFrom after_both (acknowledged_lines 1 2)
whole = (acked_is_lawful after_both 1 0 1 2 0 0 _ (record { at = 2; ss = 0; se = 2 }) (after_both.held 1 0) refl refl refl unmade refl refl refl (omega arith) (omega arith) refl (λ key e is third low. let z : None ≡ Some e = sym (none_waits key) ∙ is in absurd cc) both_followed, tt)

pub counted : LawfulFrom after_both (acknowledged_lines 1 2 ++ counted_lines 1 2)
counted = (whole.0, (record { active = refl; dialed = refl; granted = (_, refl, refl, inl refl, refl); held = omega arith; another = λ same. absurd (omega (arith, same)) }, tt))

-- one that lacks a change does not follow
other_key : ◌≡◌ {A = List ℕ} (9 ∷ []) (7 ∷ []) → ⊥
other_key e = cc

pub lacks_first : (g : Granted) → first_lost.stream_of (Link 1) 0 ≡ Some g → FollowsStream first_lost 1 0 g 0 2 → ⊥
lacks_first g told stream =
    let of_five : ◌≡◌ {A = ℕ} 5 (stream_branch g) = ap branch_in told in
    let follows : Follows changes (record { ss = 0; se = 2; at = 2 }) (next_change ∷ []) (image_of (next_change ∷ [])) =
    subst (λ u. Follows (hist first_lost.tree u) (record { ss = 0; se = 2; at = 2 }) (next_change ∷ []) (image_of (next_change ∷ []))) (sym of_five) stream in
    let (x, i, stands) = follows.has (Slot.Committed (7 ∷ [])) one_change refl (omega arith) (omega arith) in
    ⊎_elim (λ e. other_key (sym (ap (λ (c : Change). c.key) e) ∙ key_as x one_change stands)) (λ j. absurd j) i
