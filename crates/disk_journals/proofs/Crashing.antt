-- journals that end in a crash, one after the other, by rising number
use Rattle.std.proofs.Common.{◌≡◌, ℕ, zero, suc, ◌+◌, ◌≤◌, false, List, [], ◌∷◌, ◌++◌, get_or, reverse, refl, ap, sym, ◌∙◌, subst, arith, append-nil, Option, Some, None}
use Rattle.std.specs.Prelude.{◌==◌, if◌then◌else◌, remove, option_map, option_to_list}
use Rattle.std.proofs.lemmas.Bool.{eqb-true, false_from_ne_true}
use Rattle.std.proofs.lemmas.Grind.{flat_map-append}
use Rattle.vb_calls.specs.Shelves.{Shelf, Shelves, left_book}
use Rattle.vb_disk.specs.Crashes.{Only}
use Rattle.vb_disk.specs.Fused.{FuseStorage, fuse_crashes}
use Rattle.vb_disk.specs.Memory.{crashed}
use Rattle.vb_disk.specs.declared.made.Outcome.{Outcome}
use Rattle.vb_journal.specs.Surviving.{OpensTo}
use Rattle.vb_types.specs.declared.journal.Record.{Record}
use Rattle.disk_journals.specs.Books.{AreBooks, BearsBook, Book, below, book_at, listed_below}
use Rattle.disk_journals.specs.Devices.{fuse_device}
use Rattle.disk_journals.specs.Seen.{Seen, place_in, seen_at}
use Rattle.disk_journals.specs.Stands.{ShelfStands, ShelvesStand, StandsThere}
use Rattle.disk_journals.specs.declared.opening.VbDisk.{VbDisk}
use Rattle.disk_journals.proofs.Places.{at_place, no_place, numbered}

-- one number more
pub listed_more : (n : ℕ) (journals : ℕ → Option (List Record)) → listed_below (n + 1) journals ≡ listed_below n journals ++ book_at journals n
listed_more n journals =
    let next : n + 1 ≡ suc n = omega arith in
    ap (λ m. listed_below m journals) next ∙ flat_map-append (book_at journals) (below n) (n ∷ []) ∙ ap (λ bs. listed_below n journals ++ bs) (append-nil (book_at journals n))

-- one disk more
pub books_more : (disks : List (VbDisk FuseStorage)) (on : VbDisk FuseStorage) (books : List Book) (book : Book) → AreBooks disks books → BearsBook on book → AreBooks (disks ++ on ∷ []) (books ++ book ∷ [])
books_more [] on [] book are bears = (bears, tt)
books_more (d ∷ disks) on (b ∷ books) book are bears = (are.0, books_more disks on books book are.1 bears)
books_more [] on (b ∷ books) book are bears = absurd are
books_more (d ∷ disks) on [] book are bears = absurd are

-- a journal that was taken out of the list is no one's of another number
past : {D : Type 0} (slots : List (Seen D)) (i : ℕ) (s : Seen D) (w : ℕ) → s ≡ get_or slots i s → (s.number == w) ≡ false → seen_at (remove slots i) w ≡ seen_at slots w
past [] zero s w is other = refl
past [] (suc i) s w is other = refl
past (x ∷ slots) zero s w is other = sym (ap (λ (t : Seen _). if t.number == w then Some x else seen_at slots w) (sym is) ∙ ap (λ b. if b then Some x else seen_at slots w) other)
past (x ∷ slots) (suc i) s w is other = ap (λ o. if x.number == w then Some x else o) (past slots i s w is other)

-- the journals that are left stand for those of the numbers to come
abbrev pub Ahead : List (Seen FuseStorage) → List (Seen FuseStorage) → ℕ → Type 0
Ahead all slots n = (w : ℕ) → n ≤ w → seen_at slots w ≡ seen_at all w

-- the disks so far bear what the crash left of the journals below
abbrev pub Crashed : Outcome → List (Seen FuseStorage) → ℕ → List (VbDisk FuseStorage) → Type 0
Crashed out all n disks = (shelves : Shelves) → ShelvesStand fuse_device all shelves → AreBooks disks (listed_below n (λ v. option_map (left_book out) (shelves v)))

-- what a crash leaves of one disk
pub bears_left : (out : Outcome) (s : Seen FuseStorage) (shelf : Shelf) (left on : VbDisk FuseStorage) (v : ℕ) → ShelfStands fuse_device s shelf → s.number ≡ v → left.number ≡ s.number → left.disk ≡ s.journal.disk → on.number ≡ left.number
    → on.disk.disk.bytes ≡ crashed out left.disk.disk.past → Only on.disk.disk.bytes (fuse_crashes on.disk).leaves → BearsBook on (v, left_book out shelf)
bears_left out s shelf left on v stand numbered number disk same image settled = record {
  number = same ∙ number ∙ numbered;
  opens = subst (λ bytes. OpensTo (reverse (left_book out shelf)) bytes) (sym (image ∙ ap (λ (d : FuseStorage). crashed out d.disk.past) disk)) (stand.leaves.left out);
  settled = settled;
}

module _ (out : Outcome) (all slots : List (Seen FuseStorage)) (v : ℕ) (disks : List (VbDisk FuseStorage)) (ahead : Ahead all slots v) (done : Crashed out all v disks) where
  abbrev books_in : Option Shelf → List Book
  books_in o = option_to_list (option_map (λ js. (v, js)) (option_map (left_book out) o))

  more : (shelves : Shelves) (others : List (VbDisk FuseStorage)) → AreBooks others (listed_below v (λ v. option_map (left_book out) (shelves v)) ++ books_in (shelves v)) → AreBooks others (listed_below (v + 1) (λ v. option_map (left_book out) (shelves v)))
  more shelves others are = subst (λ books. AreBooks others books) (sym (listed_more v (λ v. option_map (left_book out) (shelves v)))) are

  here : (o : Option (Seen FuseStorage)) → seen_at slots v ≡ o → (shelves : Shelves) → ShelvesStand fuse_device all shelves → StandsThere fuse_device o (shelves v)
  here o there shelves stand = subst (λ p. StandsThere fuse_device p (shelves v)) (sym (ahead v (omega arith)) ∙ there) (stand v)

  -- there is no journal of this number
  pub crashed_none : None ≡ place_in slots v → Crashed out all (v + 1) disks
  unfolding place_in
  crashed_none none shelves stand =
      more shelves disks (by (shelves v) (here None (no_place slots v (sym none)) shelves stand))
    where
      by : (o : Option Shelf) → StandsThere fuse_device None o → AreBooks disks (listed_below v (λ v. option_map (left_book out) (shelves v)) ++ books_in o)
      by None h = subst (λ books. AreBooks disks books) (sym (append-nil (listed_below v (λ v. option_map (left_book out) (shelves v))))) (done shelves stand)
      by (Some shelf) h = absurd h

  pub ahead_none : Ahead all slots (v + 1)
  ahead_none w le = ahead w (omega (arith, le))

  -- there is one
  module _ (i : ℕ) (s : Seen FuseStorage) (place : Some i ≡ place_in slots v) (is : s ≡ get_or slots i s) where
    there : seen_at slots v ≡ Some s
    unfolding place_in
    there = at_place slots v i s (sym place) is

    number_is : s.number ≡ v
    unfolding place_in
    number_is = numbered slots v i s (sym place) is

    pub crashed_some : (left on : VbDisk FuseStorage) → left.number ≡ s.number → left.disk ≡ s.journal.disk → on.number ≡ left.number → on.disk.disk.bytes ≡ crashed out left.disk.disk.past → Only on.disk.disk.bytes (fuse_crashes on.disk).leaves
        → Crashed out all (v + 1) (disks ++ on ∷ [])
    crashed_some left on number disk same image settled shelves stand =
        more shelves (disks ++ on ∷ []) (by (shelves v) (here (Some s) there shelves stand))
      where
        by : (o : Option Shelf) → StandsThere fuse_device (Some s) o → AreBooks (disks ++ on ∷ []) (listed_below v (λ v. option_map (left_book out) (shelves v)) ++ books_in o)
        by None h = absurd h
        by (Some shelf) h = books_more disks on (listed_below v (λ v. option_map (left_book out) (shelves v))) (v, left_book out shelf) (done shelves stand) (bears_left out s shelf left on v h number_is number disk same image settled)

    pub ahead_some : Ahead all (remove slots i) (v + 1)
    ahead_some w le = past slots i s w is (false_from_ne_true (s.number == w) (λ e. other (sym (eqb-true s.number w e) ∙ number_is))) ∙ ahead w (omega (arith, le))
      where
        other : w ≡ v → ⊥
        other e = omega (arith, e, le)

pub crashed_first : (out : Outcome) (all : List (Seen FuseStorage)) (disks : List (VbDisk FuseStorage)) → disks ≡ [] → Crashed out all 0 disks
crashed_first out all disks none shelves stand = subst (λ ds. AreBooks ds []) (sym none) tt
