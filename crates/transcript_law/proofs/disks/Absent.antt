-- a vBucket that is not made at a node that is running: nothing was written down of it, and it holds nothing
use Rattle.std.specs.Prelude.{◌≡◌, ◌∷◌}
use Rattle.transcript_law.proofs.Words.{ℕ, false, List, [], refl, ap, ◌∙◌, subst, arith, inl, Option, Some, None, is_some, Change, Cluster, Chronicle, Member, PlainWorld, Position, Rises, rises_in}
use Rattle.{branch_model.specs.Journals.{log_of, place_of}, cluster_model.specs.Clusters.{Disk}, disk_journals.specs.Books.{Book}, transcript_law.specs.Chronicles.{DiskKnown, resting}, vb_calls.specs.Shelves.{Shelf}}
use Rattle.transcript_law.proofs.{invariant.Agreement.{AgreesAt, AgreesIn, BookBy, BookAgrees, Busy, IsAway, Power, is_down, power_of, shelf_of, vb_of, vb_row}, invariant.Seats.{seat}}

-- its records are none
no_book : (o : Option (List Book)) (v : ℕ) (shelf : Option Shelf) (told : DiskKnown) (d : Disk) → is_some o ≡ false → BookBy o v shelf told d → d.book ≡ []
no_book None v shelf told d up x = x.0
no_book (Some books) v shelf told d up x = cc

empty_book : (p : Option Power) (v : ℕ) (shelf : Option Shelf) (told : DiskKnown) (d : Disk) → is_down p ≡ false → BookAgrees p v shelf told d → d.book ≡ []
empty_book None v shelf told d up x = x.0
empty_book (Some power) v shelf told d up x = no_book power.off v shelf told d up x

none_rise : (xs : List Change) → Rises 0 0 xs → xs ≡ []
none_rise [] x = refl
none_rise (c ∷ cs) x = let l = rises_in 0 0 (c ∷ cs) c x (inl refl) in absurd (omega (arith, l))

-- what its member has, and what the lines tell of it
pub record NothingHere (r : Chronicle) (n v : ℕ) (m : Member) (d : Disk) : Type 0 where
  pub away : IsAway (vb_row r n v) m
  pub book : d.book ≡ []
  pub position : m.position ≡ record { ss = 0; se = 0; at = 0 }
  pub names : m.log ≡ []
  pub changes : m.held ≡ []
  pub log : r.log_at n v ≡ Some []
  pub held : r.held n v ≡ []
  pub role : r.role_at n v ≡ Some None

pub nothing_here : {busy : Busy} (w : PlainWorld) (r : Chronicle) (c : Cluster) (n v : ℕ) → AgreesIn busy w r c → vb_of w n v ≡ None → is_down (power_of w n) ≡ false → NothingHere r n v (c.nodes (seat n v)) (c.disks (seat n v))
nothing_here w r c n v a none up =
    let m : Member = c.nodes (seat n v) in let d : Disk = c.disks (seat n v) in
    let x = a.aways n v none in
    let book : d.book ≡ [] = empty_book (power_of w n) v (shelf_of w n v) (r.disk_at n v) d up x.book in
    let away = subst (AgreesAt r n v m) none (a.vbs n v) in
    let position : m.position ≡ record { ss = 0; se = 0; at = 0 } = x.position ∙ ap place_of book in
    let names : m.log ≡ [] = x.log ∙ ap log_of book in
    let changes : m.held ≡ [] = none_rise m.held (subst (λ (p : Position). Rises 0 p.at m.held) position (a.sound.stands (seat n v)).rises) in
    record {
      away = away;
      book = book;
      position = position;
      names = names;
      changes = changes;
      log = away.told.log ∙ ap Some names;
      held = away.told.held ∙ changes;
      role = x.role ∙ ap (λ js. Some (resting js)) book;
    }
