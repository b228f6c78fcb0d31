-- arms and crashes in numbers, and in other words
use Rattle.std.specs.Prelude.{◌≡◌, ℕ, ◌==◌, ◌<◌, ◌≤◌, true, false, List, ◌∷◌, Option, None, Some, find, option_map}
use Rattle.vb_calls.specs.Shelves.{Append, Shelf, shelf_step, left_book, open_shelf}
use Rattle.vb_disk.specs.declared.fuse.Fuse.{Fuse}
use Rattle.vb_disk.specs.declared.fuse.Fuse.TheVariants.{Off, Stop, Fail}
use Rattle.vb_disk.specs.declared.made.Outcome.TheVariants.{Old, New, Fill}
use Rattle.vb_types.specs.declared.journal.Record.{Record}
use Rattle.disk_journals.specs.Arms.{opens_all, under}
use Rattle.disk_journals.specs.Books.{Book, listed, opened_shelves}
use Rattle.disk_journals.specs.declared.crash.TheConstants.{NUMBERS}

-- an open journal with these records after an append under this arm
abbrev pub appended_under : Fuse → List Record → Record → Shelf
appended_under f book r = (shelf_step (under f (open_shelf book)) (Append r)).0

-- the same, where it is closed from then on, its records are those from before, and this is the record that a crash may find
pub record IsBroken (f : Fuse) (records : List Record) (r : Record) (to_find : Option Record) : Type 0 where
  pub closed : (appended_under f records r).is_closed ≡ true
  pub book : (appended_under f records r).book ≡ records
  pub late : (appended_under f records r).late ≡ to_find
  pub off : (appended_under f records r).fuse ≡ Off

-- What an append of four calls leaves that is hit at one of them. A stop at the first or the second leaves nothing of its record, a stop at the third or the fourth leaves it to the crash; a fault of the third is not written, and one of the fourth leaves it to the crash.
pub record BrokenInNumbers (book : List Record) (r : Record) : Type 0 where
  pub stop_1 : IsBroken (Stop 1) book r None
  pub stop_2 : IsBroken (Stop 2) book r None
  pub stop_3 : IsBroken (Stop 3) book r (Some r)
  pub stop_4 : IsBroken (Stop 4) book r (Some r)
  pub fail_1 : IsBroken (Fail 1) book r None
  pub fail_2 : IsBroken (Fail 2) book r None
  pub fail_3 : IsBroken (Fail 3) book r None
  pub fail_4 : IsBroken (Fail 4) book r (Some r)
  -- where none of the four is hit, it stands, and what is left of the arm is over the calls to come
  pub stop_5 : appended_under (Stop 5) book r ≡ under (Stop 1) (open_shelf (r ∷ book))
  pub fail_9 : appended_under (Fail 9) book r ≡ under (Fail 5) (open_shelf (r ∷ book))
  pub off : appended_under Off book r ≡ open_shelf (r ∷ book)

-- What each crash leaves of an append that stopped at its third call: nothing of it where all that was not synced is lost, and all where it is kept. Of one byte all over the byte 1 is the one that leaves it. Of an append that stopped earlier nothing is left, and one that was done stands.
pub record LeftInNumbers (book : List Record) (r : Record) : Type 0 where
  pub old : left_book Old (appended_under (Stop 3) book r) ≡ book
  pub new : left_book New (appended_under (Stop 3) book r) ≡ r ∷ book
  pub zero_byte : left_book (Fill 0) (appended_under (Stop 3) book r) ≡ book
  pub one_byte : left_book (Fill 1) (appended_under (Stop 3) book r) ≡ r ∷ book
  pub early : left_book New (appended_under (Stop 2) book r) ≡ book
  pub unwritten : left_book New (appended_under (Fail 3) book r) ≡ book
  pub done : left_book Old (appended_under (Stop 5) book r) ≡ r ∷ book

-- an opening is one call: which of so many pass
pub record OpensInNumbers : Type 0 where
  pub two : opens_all (Stop 3) 2 ≡ true
  pub three : opens_all (Stop 3) 3 ≡ false
  pub first : opens_all (Fail 1) 1 ≡ false
  pub none : opens_all (Fail 1) 0 ≡ true
  pub zero : opens_all (Stop 0) 9 ≡ true
  pub off : (n : ℕ) → opens_all Off n ≡ true

-- Of the journals that a crash leaves, those of the numbers that a vBucket may have are listed, each with its records, and no other.
pub record ListsAll : Type 0 where
  pub numbers : NUMBERS ≡ 1024
  pub there : (journals : ℕ → Option (List Record)) (v : ℕ) → v < NUMBERS → find (λ (b : Book). b.0 == v) (listed journals) ≡ option_map (λ js. (v, js)) (journals v)
  pub no_other : (journals : ℕ → Option (List Record)) (v : ℕ) → NUMBERS ≤ v → find (λ (b : Book). b.0 == v) (listed journals) ≡ None
  -- so those that are opened again have these records
  pub opened : (journals : ℕ → Option (List Record)) (v : ℕ) → v < NUMBERS → opened_shelves (listed journals) v ≡ option_map open_shelf (journals v)
