-- arms over the disks of journals
use Rattle.std.proofs.Common.{◌≡◌, ℕ, Bool, true, false, List, get_or, set, refl, ap, sym, ◌∙◌, subst, Option, Some, None}
use Rattle.std.specs.Prelude.{◌==◌, ◌||◌, is_some, option_map}
use Rattle.std.proofs.lemmas.Bool.{eqb-true}
use Rattle.vb_calls.specs.Shelves.{Shelf, Shelves}
use Rattle.vb_disk.specs.Fused.{FuseStorage}
use Rattle.vb_disk.specs.declared.fuse.Fuse.{Fuse}
use Rattle.disk_journals.specs.Arms.{arm_over, armed_at, fuse_at, seen_under, under}
use Rattle.disk_journals.specs.Devices.{fuse_device}
use Rattle.disk_journals.specs.Seen.{Seen, has_seen, place_in, seen_at}
use Rattle.disk_journals.specs.Stands.{ShelfStands, ShelvesStand, StandsThere}
use Rattle.disk_journals.proofs.Asked.{none_there, with_one}
use Rattle.disk_journals.proofs.Places.{Changed, at_place, changed_has, no_place, placed_change}

-- one journal, with another arm over both
under_stands : (fuse : Fuse) (s : Seen FuseStorage) (shelf : Shelf) → ShelfStands fuse_device s shelf → ShelfStands fuse_device (seen_under fuse s) (under fuse shelf)
under_stands fuse s shelf stand = record {
  closed = stand.closed;
  book = stand.book;
  flush = stand.flush;
  arm = refl;
  leaves = record { late = stand.leaves.late; settled = stand.leaves.settled; left = stand.leaves.left };
}

-- where there is none of that number
none_at : (slots : List (Seen FuseStorage)) (v : ℕ) (shelves : Shelves) → None ≡ place_in slots v → ShelvesStand fuse_device slots shelves → shelves v ≡ None
unfolding place_in
none_at slots v shelves none stand = none_there fuse_device (shelves v) (subst (λ o. StandsThere fuse_device o (shelves v)) (no_place slots v (sym none)) (stand v))

pub unarmed_stands : (slots : List (Seen FuseStorage)) (v : ℕ) (fuse : Fuse) (shelves : Shelves) → None ≡ place_in slots v → ShelvesStand fuse_device slots shelves → ShelvesStand fuse_device slots (arm_over shelves v fuse)
unarmed_stands slots v fuse shelves none stand =
    subst (λ o. ShelvesStand fuse_device slots (armed_at shelves v fuse o)) (sym (none_at slots v shelves none stand)) stand

pub unarmed_is : (slots : List (Seen FuseStorage)) (v : ℕ) (shelves : Shelves) → None ≡ place_in slots v → ShelvesStand fuse_device slots shelves → None ≡ fuse_at shelves v
unarmed_is slots v shelves none stand = sym (ap (option_map (λ (shelf : Shelf). shelf.fuse)) (none_at slots v shelves none stand))

module _ (slots inside : List (Seen FuseStorage)) (v i : ℕ) (old new : Seen FuseStorage) (fuse : Fuse) (here : Some i ≡ place_in slots v) (same : inside ≡ slots) (is : old ≡ get_or inside i old) (now : new ≡ seen_under fuse old) where
  there : seen_at slots v ≡ Some old
  unfolding place_in
  there = at_place slots v i old (sym here) (is ∙ ap (λ xs. get_or xs i old) same)

  changed : Changed slots (set inside i new) v new
  changed = placed_change slots inside v i old here same is new (ap (λ (s : Seen FuseStorage). s.number) now)

  armed_by : (shelves : Shelves) → ShelvesStand fuse_device slots shelves → (o : Option Shelf) → StandsThere fuse_device (Some old) o → ShelvesStand fuse_device (set inside i new) (armed_at shelves v fuse o)
  armed_by shelves stand None h = absurd h
  armed_by shelves stand (Some shelf) h =
      with_one fuse_device slots (set inside i new) shelves v new (under fuse shelf) changed stand (subst (λ s. ShelfStands fuse_device s (under fuse shelf)) (sym now) (under_stands fuse old shelf h))

  pub armed_stands : (shelves : Shelves) → ShelvesStand fuse_device slots shelves → ShelvesStand fuse_device (set inside i new) (arm_over shelves v fuse)
  armed_stands shelves stand = armed_by shelves stand (shelves v) (subst (λ o. StandsThere fuse_device o (shelves v)) there (stand v))

  has_by : (w : ℕ) (b : Bool) → (w == v) ≡ b → (b || has_seen slots w) ≡ has_seen slots w
  has_by w true e = sym (ap is_some (ap (λ n. seen_at slots n) (eqb-true w v e) ∙ there))
  has_by w false e = refl

  pub armed_has : (w : ℕ) → has_seen (set inside i new) w ≡ has_seen slots w
  armed_has w = changed_has slots (set inside i new) v new changed w ∙ has_by w (w == v) refl

  is_by : (o : Option Shelf) → StandsThere fuse_device (Some old) o → Some old.journal.disk.fuse ≡ option_map (λ (shelf : Shelf). shelf.fuse) o
  is_by None h = absurd h
  is_by (Some shelf) h = ap Some (sym h.arm)

  pub armed_is : (shelves : Shelves) → ShelvesStand fuse_device slots shelves → Some old.journal.disk.fuse ≡ fuse_at shelves v
  armed_is shelves stand = is_by (shelves v) (subst (λ o. StandsThere fuse_device o (shelves v)) there (stand v))
