-- what a journal keeps of its disk, before and after its calls
use Rattle.std.proofs.Common.{◌≡◌, inl, inr, ℕ, ◌+◌, ◌^◌, ◌<◌, ◌≤◌, true, false, List, [], ◌∷◌, ◌++◌, length, refl, sym, ◌∙◌, ap, subst, arith}
use Rattle.std.specs.Prelude.{Option, Some, None, IfSome}
use Rattle.std.specs.Option.{option_map}
use Rattle.vb_types.specs.declared.journal.Record.{Record}
use Rattle.vb_disk.specs.Disks.{Storage, IsAsMade, IsReady, Stays, Syncs, Told, readied, without}
use Rattle.vb_disk.specs.declared.Put.TheVariants as put
use Rattle.vb_disk.proofs.Readied.{readied_is, readied_stays, others_stay}
use Rattle.vb_journal.specs.declared.scan.Scan.TheVariants as scan
use Rattle.vb_journal.specs.Books.{book_of, EndsAt, StandsAt, IsWhole, IsKept, NotedPart, noted_at, Noted, OldOrNew, IsSame}
use Rattle.vb_journal.specs.Reading.{reading, records_in, behind_gate, IsReadBack}
use Rattle.vb_journal.proofs.Readings.{book_read}
use Rattle.vb_journal.proofs.Noting.{ends_with, noted, noted_in_part}

-- ---- a disk as it is made

zero_byte : reading (0 ∷ []) ≡ scan.Whole [] 0
zero_byte = book_read (0 ∷ []) [] 0 (record { parts = []; gate = 0; behind = []; written = refl; joined = refl; closed = λ e. absurd (omega (arith, e)); stands = refl })

made_ends : (held : Option (List ℕ)) → IfSome held (λ bytes. bytes ≡ 0 ∷ []) → IfSome held (EndsAt 0)
made_ends None made = tt
made_ends (Some bytes) made = (ends_with bytes [] 0 (ap reading made ∙ zero_byte)).0

pub ends_whole : (end : ℕ) (held : Option (List ℕ)) → IfSome held (EndsAt end) → IfSome held IsWhole
ends_whole end None ends = tt
ends_whole end (Some bytes) ends = (end, ends)

pub kept_open : (s : Storage) (end : ℕ) → StandsAt end s → IsKept s end false
kept_open s end stands = record { whole = ends_whole end s.held stands.told; stands = λ e. stands }

pub made_kept : (s : Storage) → IsAsMade s → IsKept s 0 false
made_kept s made = kept_open s 0 (record { within = omega (arith, made.one); few = omega arith; told = made_ends s.held made.zero_byte })

made_book_of : (held : Option (List ℕ)) → IfSome held (λ bytes. bytes ≡ 0 ∷ []) → book_of held ≡ option_map (λ bytes. []) held
made_book_of None made = refl
made_book_of (Some bytes) made = ap Some (ends_with bytes [] 0 (ap reading made ∙ zero_byte)).1

pub made_book : (s : Storage) → IsAsMade s → book_of s.held ≡ option_map (λ bytes. []) s.held
made_book s made = made_book_of s.held made.zero_byte

-- ---- a disk that was read

read_ends : (held : Option (List ℕ)) (records : List Record) (end : ℕ) → IfSome held (λ bytes. reading bytes ≡ scan.Whole records end) → IfSome held (EndsAt end)
read_ends None records end read = tt
read_ends (Some bytes) records end read = (ends_with bytes records end read).0

pub read_kept : (old new : Storage) (records : List Record) (end : ℕ) → Stays old new → IfSome old.held (λ bytes. reading bytes ≡ scan.Whole records end) → end < old.size → old.size < 2 ^ 62
    → IsKept new end false
read_kept old new records end stays read within few = kept_open new end (record {
  within = omega (arith, stays.size, within);
  few = omega (arith, within, few);
  told = subst (λ held. IfSome held (EndsAt end)) (sym stays.held) (read_ends old.held records end read);
})

read_book_of : (held : Option (List ℕ)) (records : List Record) (end : ℕ) → IfSome held (λ bytes. reading bytes ≡ scan.Whole records end) → book_of held ≡ option_map (λ bytes. records) held
read_book_of None records end read = refl
read_book_of (Some bytes) records end read = ap Some (ends_with bytes records end read).1

read_are : (held : Option (List ℕ)) (records : List Record) (end : ℕ) → IfSome held (λ bytes. reading bytes ≡ scan.Whole records end) → IfSome held (λ bytes. records ≡ records_in bytes)
read_are None records end read = tt
read_are (Some bytes) records end read = sym (ends_with bytes records end read).1

-- what a disk tells after a sync and a reading
pub record WasRead (old new : Storage) (records : List Record) : Type 0 where
  pub same : IsSame old new
  pub book : book_of new.held ≡ option_map (λ bytes. records) old.held
  pub are : IfSome old.held (λ bytes. records ≡ records_in bytes)
  pub whole : IfSome old.held IsWhole

pub was_read : (old mid new : Storage) (records : List Record) (end : ℕ) → Syncs old mid put.Done → Stays mid new → mid.failures ≤ new.failures
    → IfSome mid.held (λ bytes. reading bytes ≡ scan.Whole records end) → WasRead old new records
was_read old mid new records end synced stays later read =
    let told = subst (λ held. IfSome held (λ bytes. reading bytes ≡ scan.Whole records end)) synced.stays.held read in record {
      same = record {
        stays = record {
          size = stays.size ∙ synced.stays.size;
          held = stays.held ∙ synced.stays.held;
          ready = stays.ready ∙ synced.stays.ready;
        };
        later = omega (arith, synced.counted);
      };
      book = ap book_of (stays.held ∙ synced.stays.held) ∙ read_book_of old.held records end told;
      are = read_are old.held records end told;
      whole = ends_whole end old.held (read_ends old.held records end told);
    }

-- ---- an append

-- a write behind the gate does not use up what is ready for the gate
pub gate_stays_ready : (gate n : ℕ) (ready left : List (ℕ × ℕ)) → IsReady gate 1 ready → left ≡ without (gate + 1) n ready → IsReady gate 1 left
gate_stays_ready gate n ready left is used =
    subst (IsReady gate 1) (sym used) (others_stay (gate + 1) n (gate, 1) ready (λ e. absurd (omega (arith, ap (λ w. w.0) e))) is)

-- after the reserves of an append: both writes are ready, and nothing else changed
pub record Reserved (old new : Storage) (gate n : ℕ) : Type 0 where
  pub ready : IsReady (gate + 1) n new.ready
  pub opens : IsReady gate 1 new.ready
  pub stands : StandsAt gate new
  pub held : new.held ≡ old.held
  pub failures : new.failures ≡ old.failures

are_reserved : (s : Storage) (gate n : ℕ) → StandsAt gate s → Reserved s (readied (readied s (gate + 1) n) gate 1) gate n
are_reserved s gate n stands = record {
  ready = readied_stays (gate + 1) n (s.ready ++ (gate + 1, n) ∷ []) ((gate, 1) ∷ []) (readied_is (gate + 1) n s.ready);
  opens = readied_is gate 1 (s.ready ++ (gate + 1, n) ∷ []);
  stands = record { within = stands.within; few = stands.few; told = stands.told };
  held = refl;
  failures = refl;
}

pub reserved : (old mid new : Storage) (gate n : ℕ) → mid ≡ readied old (gate + 1) n → new ≡ readied mid gate 1 → StandsAt gate old → Reserved old new gate n
reserved old mid new gate n first second stands =
    let P : Storage → Type 0 = λ s. Reserved old s gate n in
    subst P (sym (second ∙ ap (λ s. readied s gate 1) first)) (are_reserved old gate n stands)

done_ends : (old : Option (List ℕ)) (gate : ℕ) (r : Record) → IfSome old (EndsAt gate) → IsReadBack r
    → IfSome (option_map (noted_at gate (behind_gate r)) old) (EndsAt (gate + length (behind_gate r)))
done_ends None gate r ends back = tt
done_ends (Some bytes) gate r ends back = (ends_with _ _ _ (noted bytes (records_in bytes) gate ends r back)).0

done_book : (old : Option (List ℕ)) (gate : ℕ) (r : Record) → IfSome old (EndsAt gate) → IsReadBack r
    → book_of (option_map (noted_at gate (behind_gate r)) old) ≡ option_map (λ records. records ++ r ∷ []) (book_of old)
done_book None gate r ends back = refl
done_book (Some bytes) gate r ends back = ap Some (ends_with _ _ _ (noted bytes (records_in bytes) gate ends r back)).1

pub noted_whole : (old new : Storage) (gate : ℕ) (r : Record) → StandsAt gate old → IsReadBack r → Noted old new gate (behind_gate r) put.Done → IfSome new.held IsWhole
noted_whole old new gate r stands back done =
    let end = gate + length (behind_gate r) in
    ends_whole end new.held (subst (λ held. IfSome held (EndsAt end)) (sym done.1) (done_ends old.held gate r stands.told back))

pub noted_kept : (old new : Storage) (gate : ℕ) (r : Record) → StandsAt gate old → IsReadBack r → Noted old new gate (behind_gate r) put.Done → gate + length (behind_gate r) < 2 ^ 62
    → IsKept new (gate + length (behind_gate r)) false
noted_kept old new gate r stands back done few = kept_open new (gate + length (behind_gate r)) (record {
  within = omega (arith, done.0);
  few = few;
  told = subst (λ held. IfSome held (EndsAt (gate + length (behind_gate r)))) (sym done.1) (done_ends old.held gate r stands.told back);
})

pub noted_book : (old new : Storage) (gate : ℕ) (r : Record) → StandsAt gate old → IsReadBack r → Noted old new gate (behind_gate r) put.Done
    → book_of new.held ≡ option_map (λ records. records ++ r ∷ []) (book_of old.held)
noted_book old new gate r stands back done = ap book_of done.1 ∙ done_book old.held gate r stands.told back

-- where it failed, the records are those from before, or those and one more
broken : (old new : Option (List ℕ)) (gate : ℕ) (r : Record) → IfSome old (EndsAt gate) → IsReadBack r → Told (NotedPart gate (behind_gate r)) old new
    → IfSome new IsWhole × OldOrNew (book_of old) r (book_of new)
broken None None gate r ends back part = (tt, tt)
broken None (Some now) gate r ends back part = elim part [ ]
broken (Some bytes) None gate r ends back part = elim part [ ]
broken (Some bytes) (Some now) gate r ends back part = elim (noted_in_part bytes (records_in bytes) gate ends r back now part) [
  | inl old ↦ let e = ends_with now _ _ old in ((gate, e.0), inl e.1)
  | inr one ↦ let e = ends_with now _ _ one in ((gate + length (behind_gate r), e.0), inr e.1)
]

pub broken_kept : (old new : Storage) (gate end : ℕ) (r : Record) → StandsAt gate old → IsReadBack r → Noted old new gate (behind_gate r) put.Failed → IsKept new end true
broken_kept old new gate end r stands back failed = record { whole = (broken old.held new.held gate r stands.told back failed).0; stands = λ (e : true ≡ false). absurd (cc e) }

pub broken_book : (old new : Storage) (gate : ℕ) (r : Record) → StandsAt gate old → IsReadBack r → Noted old new gate (behind_gate r) put.Failed → OldOrNew (book_of old.held) r (book_of new.held)
broken_book old new gate r stands back failed = (broken old.held new.held gate r stands.told back failed).1
