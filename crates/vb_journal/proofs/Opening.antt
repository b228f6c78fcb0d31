-- a disk that is opened under an arm
use Rattle.std.proofs.Common.{◌≡◌, Bool, true, false, List, ℕ, refl, sym, ◌∙◌, ap, subst}
use Rattle.std.specs.Prelude.{if◌then◌else◌, Option, Some, None, IfSome}
use Rattle.std.specs.Option.{option_map}
use Rattle.vb_disk.specs.Arms.{hits, burnt, Burns}
use Rattle.vb_disk.specs.Outcomes.{LeftAlike, LeftBySync}
use Rattle.vb_disk.specs.declared.Put.TheVariants as put
use Rattle.vb_disk.specs.declared.fuse.Fuse.{Fuse}
use Rattle.vb_disk.specs.declared.made.Outcome.{Outcome}
use Rattle.vb_journal.specs.declared.scan.Scan.{Scan}
use Rattle.vb_journal.specs.UnderArms.{IsSettledEach, GivesUnder}

-- what it tells of the arm and of what is left
abbrev pub Opens : Option Fuse → Option Fuse → (Fuse → Type 0) → Type 0
Opens old new Then = (new ≡ option_map burnt old) × IfSome old Then

was_hit : (b : Bool) → put.Failed ≡ (if b then put.Failed else put.Done) → b ≡ true
was_hit true is = refl
was_hit false is = absurd (cc is)

was_not : (b : Bool) → put.Done ≡ (if b then put.Failed else put.Done) → b ≡ false
was_not false is = refl
was_not true is = absurd (cc is)

-- the sync of an opening was hit
pub sync_hit : (old mid : Option Fuse) (left now : Outcome → Option (List ℕ)) (held : Option (List ℕ)) → Burns old mid put.Failed → IfSome old (λ f. LeftBySync f left now held)
    → Opens old mid (λ f. (hits f ≡ true) × LeftAlike left now)
sync_hit None mid left now held burns leaves = (burns, tt)
sync_hit (Some f) mid left now held burns leaves =
    let hit = was_hit (hits f) burns.1 in (burns.0, (hit, λ out. leaves out ∙ ap (λ b. if b then left out else held) hit))

-- or it was done, and then the disk was read
module _ (old mid new : Option Fuse) (left between now : Outcome → Option (List ℕ)) (held held' : Option (List ℕ)) (burns : Burns old mid put.Done) (same : new ≡ mid) where
  pub sync_passed : Opens old new (λ f. hits f ≡ false)
  sync_passed = by_arm old burns
    where
      by_arm : (old : Option Fuse) → Burns old mid put.Done → Opens old new (λ f. hits f ≡ false)
      by_arm None burns = (same ∙ burns, tt)
      by_arm (Some f) burns = (same ∙ burns.0, was_not (hits f) burns.1)

  pub sync_settled : IfSome old (λ f. LeftBySync f left between held) → LeftAlike between now → held' ≡ held → Opens old new (λ f. (hits f ≡ false) × IsSettledEach held' now)
  sync_settled leaves alike stays = by_arm old burns leaves
    where
      by_arm : (old : Option Fuse) → Burns old mid put.Done → IfSome old (λ f. LeftBySync f left between held) → Opens old new (λ f. (hits f ≡ false) × IsSettledEach held' now)
      by_arm None burns leaves = (same ∙ burns, tt)
      by_arm (Some f) burns leaves =
          let passed = was_not (hits f) burns.1 in (same ∙ burns.0, (passed, λ out. alike out ∙ leaves out ∙ ap (λ b. if b then left out else held) passed ∙ sym stays))

  -- a read fails where no arm is told alone
  pub none_read : GivesUnder {A = Scan} mid None → Opens old new (λ f. (hits f ≡ true) × LeftAlike left now)
  none_read given = by_arm old burns
    where
      given_none : (f : Fuse) → mid ≡ Some f → ⊥
      given_none f is = let P : Option Fuse → Type 0 = λ armed. GivesUnder {A = Scan} armed None in subst P is given

      by_arm : (old : Option Fuse) → Burns old mid put.Done → Opens old new (λ f. (hits f ≡ true) × LeftAlike left now)
      by_arm None burns = (same ∙ burns, tt)
      by_arm (Some f) burns = absurd (given_none (burnt f) burns.0)
