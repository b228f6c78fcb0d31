-- who is active on a branch is who the lines name as its writer
use Rattle.std.specs.Prelude.{◌≡◌, ◌↔◌}
use Rattle.transcript_law.proofs.Words.{ℕ, true, refl, ap, sym, ◌∙◌, subst, Option, Some, None, AreFollowed, Chronicle, IsIfKnown, Plain, PlainWorld, Role, vb_in}
use Rattle.transcript_law.specs.Heirless.{WritesAsTold}
use Rattle.transcript_law.specs.Heirs.{IsWriter}
use Rattle.transcript_law.specs.Lawfulness.{AllKnown}
use Rattle.transcript_law.specs.Prefixes.{IsActiveOn}
use Rattle.vb_calls.specs.State.{is_active}

-- what is known is so
known_is : {A : Type 0} (o : Option A) (this said : A) → IsIfKnown o this → o ≡ Some said → o ≡ Some this
known_is None this said known e = cc
known_is (Some x) this said known e = ap Some known

acts : (x : Role) → is_active x ≡ true → x ≡ Role.Active
acts Role.Active e = refl
acts other e = cc

pub writes_as_told : (w : PlainWorld) (r : Chronicle) → AreFollowed r w → AllKnown r → WritesAsTold r w
writes_as_told w r a known n v uuid vb there = (forth, back)
  where
    role_is : r.role_at n v ≡ Some (Some vb.role)
    role_is = known_is (r.role_at n v) (Some vb.role) (known.role n v).0 (a.each n v vb there).role (known.role n v).1

    forth : IsActiveOn r w n v uuid vb → IsWriter r n v uuid × (r.role_at n v ≡ Some (Some Role.Active))
    forth on =
        let x = (a.each n v vb there).writer on.active in
        let z : ◌≡◌ {A = Option ℕ} (Some x.0) (Some uuid) = sym x.2.on_branch ∙ on.on_branch in
        let same : x.0 ≡ uuid = cc in
        (subst (IsWriter r n v) same x.2, role_is ∙ ap (λ (x : Role). Some (Some x)) (acts vb.role on.active))

    back : IsWriter r n v uuid × (r.role_at n v ≡ Some (Some Role.Active)) → IsActiveOn r w n v uuid vb
    back (writer, role) =
        let z : ◌≡◌ {A = Option (Option Role)} (Some (Some vb.role)) (Some (Some Role.Active)) = sym role_is ∙ role in
        let same : vb.role ≡ Role.Active = cc in
        record { there = there; active = ap is_active same; on_branch = writer.on_branch }
