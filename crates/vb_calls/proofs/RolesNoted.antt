-- how changes of role are written down, by computing
use Rattle.std.proofs.Common.{◌≡◌, List, [], ◌∷◌, refl, ap, sym, ◌∙◌, arith, length}
use Rattle.std.specs.Prelude.{Option, Some}
use Rattle.std.specs.FinMap as finite
use Rattle.std.specs.List.{fold}
use Rattle.durability.specs.declared.waiting.Waiting.{Waiting}
use Rattle.durability.specs.Outstanding.{placed}
use Rattle.vb_types.specs.Images.{nothing}
use Rattle.vb_types.specs.Keys.{key_cmp}
use Rattle.vb_types.specs.declared.change.Pend.{Pend}
use Rattle.vb_calls.specs.declared.calls.VbAnswer.TheVariants as answer
use Rattle.vb_calls.specs.declared.calls.VbCall.TheVariants as call
use Rattle.vb_calls.specs.declared.calls.VbReply.{VbReply}
use Rattle.vb_calls.specs.declared.journals.Wrote.{Wrote}
use Rattle.vb_calls.specs.Flushes.{role_job, role_told_job}
use Rattle.vb_calls.specs.Jobs.{after_job}
use Rattle.vb_calls.specs.Numbers.{RolesInNumbers, heir}
use Rattle.vb_calls.specs.Roles.{ending_reply, risen}
use Rattle.vb_calls.specs.Settling.{and_settled, left_prepare, left_prepares}
use Rattle.vb_calls.specs.Shelves.{Shelves, open_shelf}
use Rattle.vb_calls.specs.State.{Plain}
use Rattle.vb_calls.specs.States.{States, with_vb_at}

none_of : {X : Type 0} (xs : List X) → length xs ≡ 0 → xs ≡ []
none_of [] e = refl
none_of (x ∷ xs) e = absurd (omega arith)

none_left : left_prepares nothing ≡ []
none_left = ap (fold (λ waiting e. placed (left_prepare e) waiting) []) (none_of (finite.entries nothing.pending) (sym (finite.len-entries nothing.pending) ∙ finite.len-empty key_cmp Pend))

-- the heir's vBucket once it is active with these prepares to be committed again, and what is made of it then
abbrev rises : List Waiting → Plain × VbReply
rises ws = and_settled (record (risen heir) { waiting = ws }, ending_reply heir answer.Done)

abbrev told : List Waiting → (States × Shelves) × (Option VbReply × Wrote)
told ws = after_job (role_told_job 3 call.Own (Some (rises ws).1)) (with_vb_at (λ v. Some heir) 3 (rises ws).0) (λ v. Some (open_shelf []))

pub roles_noted : RolesInNumbers
unfolding role_job
roles_noted = record {
  dead = record { how_is = refl; shelf_is = refl };
  refused = record { how_is = refl; shelf_is = refl };
  used = record { how_is = refl; shelf_is = refl };
  heir = record { how_is = ap (λ ws. (told ws).1.1) none_left; shelf_is = ap (λ ws. (told ws).0.1 3) none_left };
  early = record { how_is = refl; shelf_is = refl };
  closed = record { how_is = refl; shelf_is = refl };
  failed = record { how_is = refl; shelf_is = refl };
  taken = refl;
  absent = refl;
}
