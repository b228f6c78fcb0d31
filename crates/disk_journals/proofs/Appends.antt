-- what is known of one journal after an append, a read, or where memory was short for one
use Rattle.std.proofs.Common.{◌≡◌, ◌⊎◌, inl, inr, ℕ, Bool, true, false, List, [], ◌∷◌, ◌++◌, reverse, refl, ap, sym, ◌∙◌, subst, arith, Option, Some, None, IfSome, IfOk, Result, Ok, Err}
use Rattle.std.specs.Prelude.{◌&&◌, not, if◌then◌else◌}
use Rattle.std.specs.Option.{option_map}
use Rattle.std.proofs.lemmas.List.{reverse-append, reverse-reverse}
use Rattle.branch_model.specs.Journals.{found}
use Rattle.flusher.specs.Saves.{AppendedUnder, IsUncalledUnder, Saved, SavedBy, SavedUnder, append_of}
use Rattle.flusher.specs.declared.flusher.Flusher.{Flusher}
use Rattle.flusher.specs.declared.flusher.Flusher.TheVariants as flusher
use Rattle.vb_calls.specs.Flushes.{wrote_of}
use Rattle.vb_calls.specs.declared.journals.Wrote.{Wrote}
use Rattle.vb_calls.specs.Shelves.{Append, Read, Idle, Book, Shut, Fate, Stood, WasClosed, DiskFailed, Shelf, after_fate, fate_of, late_of, left_book, reading_by, reading_of}
use Rattle.vb_disk.specs.Arms.{hits, is_made, burnt}
use Rattle.vb_disk.specs.Outcomes.{LeftAlike}
use Rattle.vb_disk.specs.declared.fuse.Fuse.{Fuse}
use Rattle.vb_disk.specs.declared.fuse.Fuse.TheVariants.{Off}
use Rattle.vb_disk.specs.declared.made.Outcome.{Outcome}
use Rattle.vb_disk.specs.declared.made.Outcome.TheVariants.{New}
use Rattle.vb_journal.specs.Books.{JournalState, Appended, IsAppended, IsBroken, ReadBack, Rests, failures_of}
use Rattle.vb_journal.specs.Receipts.{seq_of}
use Rattle.vb_journal.specs.Surviving.{OpensTo}
use Rattle.vb_journal.specs.UnderArms.{all_pass, burnt_both, burnt_noting, both_pass, leaves_open, stands, with_if, AppendLeaves, ArmedBy, KeptByEach, ReadsUnder, StandsUnder}
use Rattle.vb_journal.specs.declared.fault.AppendFault.{AppendFault}
use Rattle.vb_journal.specs.declared.fault.AppendFault.TheVariants as fault
use Rattle.vb_types.specs.declared.journal.Batch.{Batch}
use Rattle.vb_types.specs.declared.journal.Record.{Record}
use Rattle.vb_types.specs.declared.journal.Record.TheVariants.{Rows}
use Rattle.disk_journals.specs.Anyhow.{AnswersAnyhow}
use Rattle.disk_journals.specs.Anyhow as anyhow
use Rattle.disk_journals.specs.Asking.{Fails, AnswersPlainly, SlotAnswers, SlotUnasked, fate_by, fate_of_wrote}
use Rattle.disk_journals.specs.Devices.{Device, fuse_over}
use Rattle.disk_journals.specs.Saving.{SavesSlot, SlotSaved, left_by}
use Rattle.disk_journals.specs.Seen.{Seen, flush_of}
use Rattle.disk_journals.specs.Stands.{LeavesAs, ShelfStands}

-- ---- arms and what an append leaves

-- an append of which no call is hit stands whatever the crash
all_stand : (f : Fuse) (out : Outcome) → all_pass f ≡ true → stands f out ≡ true
all_stand f out pass = by (both_pass f) (hits (burnt_both f)) (hits (burnt (burnt_both f))) (is_made (burnt_both f)) pass
  where
    by : (a b c m : Bool) → (a && (not b && not c)) ≡ true → (if not a then false else if b then m && leaves_open out else if c then leaves_open out else true) ≡ true
    by true false false m pass = refl
    by true false true m pass = absurd (cc pass)
    by true true c m pass = absurd (cc pass)
    by false b c m pass = absurd (cc pass)

-- one of which a call is hit stands where there is a crash that leaves it and this one leaves the gate open
broken_stands : (f : Fuse) (out : Outcome) → all_pass f ≡ false → stands f out ≡ (stands f New && leaves_open out)
broken_stands f out hit = by (both_pass f) (hits (burnt_both f)) (hits (burnt (burnt_both f))) (is_made (burnt_both f)) (leaves_open out) hit
  where
    by : (a b c m o : Bool) → (a && (not b && not c)) ≡ false
        → (if not a then false else if b then m && o else if c then o else true) ≡ ((if not a then false else if b then m && true else if c then true else true) && o)
    by true false false m o hit = absurd (cc hit)
    by true false true m o hit = refl
    by true true c true o hit = refl
    by true true c false o hit = refl
    by false b c m o hit = refl

-- the records that a crash leaves of a broken append, the first one first
found_first : (book : List Record) (r : Record) (s o : Bool) → with_if (s && o) (reverse book) r ≡ reverse (found book (if s then Some r else None) o)
found_first book r true true = sym (reverse-append (r ∷ []) book)
found_first book r true false = refl
found_first book r false o = refl

pub stood_fate : (shelf : Shelf) → shelf.is_closed ≡ false → all_pass shelf.fuse ≡ true → fate_of shelf ≡ Stood
stood_fate shelf is_open pass = ap (λ b. if b then WasClosed else if all_pass shelf.fuse then Stood else DiskFailed) is_open ∙ ap (λ b. if b then Stood else DiskFailed) pass

pub failed_fate : (shelf : Shelf) → shelf.is_closed ≡ false → all_pass shelf.fuse ≡ false → fate_of shelf ≡ DiskFailed
failed_fate shelf is_open hit = ap (λ b. if b then WasClosed else if all_pass shelf.fuse then Stood else DiskFailed) is_open ∙ ap (λ b. if b then Stood else DiskFailed) hit

pub closed_fate : (shelf : Shelf) → shelf.is_closed ≡ true → fate_of shelf ≡ WasClosed
closed_fate shelf closed = ap (λ b. if b then WasClosed else if all_pass shelf.fuse then Stood else DiskFailed) closed

told_back : (f : Fate) → fate_of_wrote (wrote_of f) ≡ f
told_back Stood = refl
told_back WasClosed = refl
told_back DiskFailed = refl

not_both : (b : Bool) → b ≡ true → b ≡ false → ⊥
not_both true e f = cc
not_both false e f = cc

none_late : (late : Option Record) (book : List Record) (b : Bool) → late ≡ None → found book late b ≡ book
none_late None book b e = refl
none_late (Some r) book b e = absurd (cc e)

module _ {D : Type 0} (dev : Device D) (s : Seen D) (j : JournalState D) (what : Record) (shelf : Shelf) (stand : ShelfStands dev s shelf) (leaving : StandsUnder dev.storage dev.armed dev.left s.journal j what) where
  abbrev new : Seen D
  new = record s { journal = j }

  is_open : s.journal.closed ≡ false → shelf.is_closed ≡ false
  is_open e = sym stand.closed ∙ e

  -- what each crash leaves, where the arm is told
  each_left : (f : Fuse) → dev.armed s.journal.disk ≡ Some f → s.journal.closed ≡ false → (out : Outcome) → IfSome (dev.left j.disk out) (OpensTo (with_if (stands f out) (reverse shelf.book) what))
  each_left f told was_open =
      let known : LeavesAs dev s.journal shelf = subst (λ o. IfSome o (λ f. LeavesAs dev s.journal shelf)) told stand.leaves in
      let leaves : IfSome (Some f) (λ f. AppendLeaves f s.journal.book (dev.left j.disk) what) =
      subst (λ o. IfSome o (λ f. AppendLeaves f s.journal.book (dev.left j.disk) what)) told (leaving was_open (known.settled (is_open was_open))) in
      subst (λ b. AppendLeaves f b (dev.left j.disk) what) (stand.book (is_open was_open)) leaves

  module _ (h : (receipt : ℕ) × IsAppended dev.storage s.journal j what receipt) where
    stood_as : (after : Option Fuse) → dev.armed j.disk ≡ after → burnt_noting shelf.fuse ≡ fuse_over after → IfSome after (λ f. LeavesAs dev j (after_fate shelf what Stood)) → ShelfStands dev new (after_fate shelf what Stood)
    stood_as after told arm leaves = record {
      closed = h.1.stays_open ∙ sym (is_open h.1.was_open);
      book = λ open_now. h.1.book ∙ ap (option_map (λ records. records ++ what ∷ [])) (stand.book open_now) ∙ ap Some (sym (reverse-append (what ∷ []) shelf.book));
      flush = stand.flush;
      arm = arm ∙ ap fuse_over (sym told);
      leaves = subst (λ o. IfSome o (λ f. LeavesAs dev j (after_fate shelf what Stood))) (sym told) leaves;
    }

    stood_by : (before : Option Fuse) → dev.armed s.journal.disk ≡ before → ArmedBy before (dev.armed j.disk) (Ok h.0) → KeptByEach before (dev.storage j.disk).held (dev.left j.disk) (Ok h.0)
        → (all_pass shelf.fuse ≡ true) × ShelfStands dev new (after_fate shelf what Stood)
    stood_by None told burns kept =
        let off : shelf.fuse ≡ Off = stand.arm ∙ ap fuse_over told in
        (ap all_pass off, stood_as None burns (ap burnt_noting off) tt)
    stood_by (Some f) told burns kept =
        let on : shelf.fuse ≡ f = stand.arm ∙ ap fuse_over told in
        let known : LeavesAs dev s.journal shelf = subst (λ o. IfSome o (λ f. LeavesAs dev s.journal shelf)) told stand.leaves in (
          ap all_pass on ∙ burns.1,
          stood_as (Some (burnt_noting f)) burns.0 (ap burnt_noting on) (record {
            late = known.late;
            settled = λ open_now. kept;
            left = λ out. subst (λ js. IfSome (dev.left j.disk out) (OpensTo (reverse js))) (sym (none_late shelf.late (what ∷ shelf.book) (leaves_open out) (known.late (is_open h.1.was_open))))
                (subst (λ js. IfSome (dev.left j.disk out) (OpensTo js)) (sym (reverse-append (what ∷ []) shelf.book))
                (subst (λ b. IfSome (dev.left j.disk out) (OpensTo (with_if b (reverse shelf.book) what))) (all_stand f out burns.1) (each_left f told h.1.was_open out)));
          }),
        )

  module _ (h : IsBroken dev.storage s.journal j what) where
    abbrev broken : Shelf
    broken = after_fate shelf what DiskFailed

    broken_as : (after : Option Fuse) → dev.armed j.disk ≡ after → burnt_noting shelf.fuse ≡ fuse_over after → IfSome after (λ f. LeavesAs dev j broken) → ShelfStands dev new broken
    broken_as after told arm leaves = record {
      closed = h.closes;
      book = λ open_now. absurd (not_both true refl open_now);
      flush = stand.flush;
      arm = arm ∙ ap fuse_over (sym told);
      leaves = subst (λ o. IfSome o (λ f. LeavesAs dev j broken)) (sym told) leaves;
    }

    broken_by : (before : Option Fuse) → dev.armed s.journal.disk ≡ before → ArmedBy before (dev.armed j.disk) (Err fault.DiskFailed)
        → ((all_pass shelf.fuse ≡ false) × ShelfStands dev new broken) ⊎ (Fails dev s new × ShelfStands dev new broken)
    broken_by None told burns =
        let off : shelf.fuse ≡ Off = stand.arm ∙ ap fuse_over told in
        inr (record { untold = told; rose = h.rose }, broken_as None burns (ap burnt_noting off) tt)
    broken_by (Some f) told burns =
        let on : shelf.fuse ≡ f = stand.arm ∙ ap fuse_over told in
        let known : LeavesAs dev s.journal shelf = subst (λ o. IfSome o (λ f. LeavesAs dev s.journal shelf)) told stand.leaves in
        inl (
          ap all_pass on ∙ burns.1,
          broken_as (Some (burnt_noting f)) burns.0 (ap burnt_noting on) (record {
            late = λ open_now. absurd (not_both true refl open_now);
            settled = λ open_now. absurd (not_both true refl open_now);
            left = λ out. subst (λ g. IfSome (dev.left j.disk out) (OpensTo (reverse (found shelf.book (late_of g what) (leaves_open out))))) (sym on)
                (subst (λ js. IfSome (dev.left j.disk out) (OpensTo js)) (found_first shelf.book what (stands f New) (leaves_open out))
                (subst (λ b. IfSome (dev.left j.disk out) (OpensTo (with_if b (reverse shelf.book) what))) (broken_stands f out burns.1) (each_left f told h.was_open out)));
          }),
        )

  -- one append, by its answer
  appended : (came : Result ℕ AppendFault) → Appended dev.storage s.journal j what came → ArmedBy (dev.armed s.journal.disk) (dev.armed j.disk) came → KeptByEach (dev.armed s.journal.disk) (dev.storage j.disk).held (dev.left j.disk) came
      → ((fate_by came ≡ fate_of shelf) × ShelfStands dev new (after_fate shelf what (fate_of shelf))) ⊎ (Fails dev s new × (fate_by came ≡ DiskFailed) × ShelfStands dev new (after_fate shelf what DiskFailed))
  appended (Ok receipt) h burns kept =
      let stood = stood_by (receipt, h) (dev.armed s.journal.disk) refl burns kept in
      let fate = stood_fate shelf (is_open h.was_open) stood.0 in
      inl (sym fate, subst (λ f. ShelfStands dev new (after_fate shelf what f)) (sym fate) stood.1)
  appended (Err fault.Closed) h burns kept =
      let fate = closed_fate shelf (sym stand.closed ∙ h.0) in
      inl (sym fate, subst (λ f. ShelfStands dev new (after_fate shelf what f)) (sym fate) (subst (λ k. ShelfStands dev (record s { journal = k }) shelf) (sym h.1) stand))
  appended (Err fault.DiskFailed) h burns kept = elim (broken_by h (dev.armed s.journal.disk) refl burns) [
    | inl plain ↦
        let fate = failed_fate shelf (is_open h.was_open) plain.0 in
        inl (sym fate, subst (λ f. ShelfStands dev new (after_fate shelf what f)) (sym fate) plain.1)
    | inr failed ↦ inr (failed.0, refl, failed.1)
  ]
  appended (Err (fault.Damaged place)) h burns kept = absurd h

module _ {D : Type 0} (dev : Device D) (s : Seen D) (j : JournalState D) where
  -- what is known of an append, whatever its disk tells
  appended_anyhow : (what : Record) (came : Result ℕ AppendFault) → Appended dev.storage s.journal j what came → AnswersAnyhow dev s (Append what) (fate_by came) (record s { journal = j })
  appended_anyhow what (Ok receipt) h = record {
    later = h.later;
    so = record {
      was_closed = (λ e. cc, λ e. absurd (not_both s.journal.closed e h.was_open));
      is_open = (λ e. h.stays_open, λ e. refl);
      failed = λ e. cc;
      book = λ e. h.book;
      batch = refl;
    };
  }
  appended_anyhow what (Err fault.Closed) h = record {
    later = omega (arith, ap (failures_of dev.storage) h.1);
    so = record {
      was_closed = (λ e. h.0, λ e. refl);
      is_open = (λ e. cc, λ e. absurd (not_both j.closed (ap (λ k. k.closed) h.1 ∙ h.0) e));
      failed = λ e. cc;
      book = λ e. cc;
      batch = refl;
    };
  }
  appended_anyhow what (Err fault.DiskFailed) h = record {
    later = h.later;
    so = record {
      was_closed = (λ e. cc, λ e. absurd (not_both s.journal.closed e h.was_open));
      is_open = (λ e. cc, λ e. absurd (not_both j.closed h.closes e));
      failed = λ e. h.rose;
      book = λ e. cc;
      batch = refl;
    };
  }
  appended_anyhow what (Err (fault.Damaged place)) h = absurd h

  -- an append, as a request
  pub append_asked : (what : Record) (came : Result ℕ AppendFault) → Appended dev.storage s.journal j what came → AppendedUnder dev.storage dev.armed dev.left what s.journal j came → SlotAnswers dev s (Append what) (fate_by came) (record s { journal = j })
  append_asked what came h under = record {
    plainly = λ shelf stand. appended dev s j what shelf stand under.stands came h under.arm under.kept_by_each;
    anyhow = appended_anyhow what came h;
  }

  -- the same, as it is told
  pub append_told : (old : Seen D) (what : Record) (came : Result ℕ AppendFault) (wrote : Wrote) → s ≡ old → wrote ≡ wrote_of (fate_by came) → Appended dev.storage s.journal j what came
      → AppendedUnder dev.storage dev.armed dev.left what s.journal j came → SlotAnswers dev old (Append what) (fate_of_wrote wrote) (record s { journal = j })
  append_told old what came wrote same said h under =
      subst (λ o. SlotAnswers dev o (Append what) (fate_of_wrote wrote) (record s { journal = j })) same
      (subst (λ f. SlotAnswers dev s (Append what) f (record s { journal = j })) (sym (told_back (fate_by came)) ∙ sym (ap fate_of_wrote said)) (append_asked what came h under))

  -- where nothing changed but what memory is ready for, and how often the disk failed
  pub stands_on : (shelf : Shelf) → ShelfStands dev s shelf → j.closed ≡ s.journal.closed → j.book ≡ s.journal.book → (dev.storage j.disk).held ≡ (dev.storage s.journal.disk).held → dev.armed j.disk ≡ dev.armed s.journal.disk
      → LeftAlike (dev.left s.journal.disk) (dev.left j.disk) → ShelfStands dev (record s { journal = j }) shelf
  stands_on shelf stand closed book held arm left = record {
    closed = closed ∙ stand.closed;
    book = λ open_now. book ∙ stand.book open_now;
    flush = stand.flush;
    arm = stand.arm ∙ ap fuse_over (sym arm);
    leaves = by (dev.armed s.journal.disk) (dev.armed j.disk) arm stand.leaves;
  }
    where
      by : (o p : Option Fuse) → p ≡ o → IfSome o (λ f. LeavesAs dev s.journal shelf) → IfSome p (λ f. LeavesAs dev j shelf)
      by None p e known = subst (λ q. IfSome q (λ f. LeavesAs dev j shelf)) (sym e) tt
      by (Some f) p e known = subst (λ q. IfSome q (λ f. LeavesAs dev j shelf)) (sym e) (record {
        late = known.late;
        settled = λ open_now out. left out ∙ known.settled open_now out ∙ sym held;
        left = λ out. subst (λ o. IfSome o (OpensTo (reverse (left_book out shelf)))) (sym (left out)) (known.left out);
      })

  -- memory was short for an append
  pub uncalled_slot : (old : Seen D) → s ≡ old → IsUncalledUnder dev.storage dev.armed dev.left s.journal j → SlotUnasked dev old (record s { journal = j })
  uncalled_slot old same h = subst (λ o. SlotUnasked dev o (record s { journal = j })) same (record {
    plainly = λ shelf stand. inl (stand.flush, stands_on shelf stand h.uncalled.closed h.uncalled.book h.uncalled.held h.same_arm h.same_left);
    anyhow = record {
      later = omega (arith, h.uncalled.failures);
      so = record { answer = refl; rests = record { book = h.uncalled.book; closed = h.uncalled.closed; batch = refl } };
    };
  })

  -- what a read gives of an open journal
  read_is : (shelf : Shelf) → shelf.is_closed ≡ false → reading_of shelf ≡ Book shelf.book
  read_is shelf e = ap (λ b. if b then Shut else Book shelf.book) e

  given : (records : List Record) (book : Option (List Record)) (js : List Record) → book ≡ Some (reverse js) → IfSome book (λ held. records ≡ held) → Book (reverse records) ≡ Book js
  given records None js is h = absurd (cc is)
  given records (Some held) js is h = ap Book (ap reverse (h ∙ same held js is) ∙ reverse-reverse js)
    where
      same : (held js : List Record) → Some held ≡ Some (reverse js) → held ≡ reverse js
      same held js e = cc

  rests_on : (shelf : Shelf) → ShelfStands dev s shelf → Rests dev.storage s.journal j → dev.armed j.disk ≡ dev.armed s.journal.disk → LeftAlike (dev.left s.journal.disk) (dev.left j.disk) → ShelfStands dev (record s { journal = j }) shelf
  rests_on shelf stand rests arm left = stands_on shelf stand rests.closed rests.book rests.disk.stays.held arm left

  unread : (a : Option Fuse) → dev.armed s.journal.disk ≡ a → ReadsUnder a (Err fault.DiskFailed) → dev.armed s.journal.disk ≡ None
  unread None e h = e
  unread (Some f) e h = absurd h

  told_some : (book : Option (List Record)) (js : List Record) → book ≡ Some js → book ≡ None → ⊥
  told_some None js e f = cc
  told_some (Some held) js e f = cc

  -- what is known of a read, whatever its disk tells
  rests_anyhow : Rests dev.storage s.journal j → anyhow.Rests s (record s { journal = j })
  rests_anyhow rests = record { book = rests.book; closed = rests.closed; batch = refl }

  told_back_first : (book : Option (List Record)) (records js : List Record) → IfSome book (λ held. records ≡ held) → Book (reverse records) ≡ Book js → IfSome book (λ held. js ≡ reverse held)
  told_back_first None records js h e = tt
  told_back_first (Some held) records js h e = sym (same (reverse records) js e) ∙ ap reverse h
    where
      same : (a b : List Record) → Book a ≡ Book b → a ≡ b
      same a b e = cc

  read_anyhow : (came : Result (List Record) AppendFault) → ReadBack dev.storage s.journal j came → AnswersAnyhow dev s Read (reading_by came) (record s { journal = j })
  read_anyhow (Ok records) h = record {
    later = h.1.disk.later;
    so = record {
      was_closed = (λ e. cc, λ e. absurd (not_both s.journal.closed e h.0));
      told = λ book e. told_back_first s.journal.book records book h.2 e;
      damaged = λ place e. cc;
      failed = λ e. cc;
      rests = rests_anyhow h.1;
    };
  }
  read_anyhow (Err fault.Closed) h = record {
    later = omega (arith, ap (failures_of dev.storage) h.1);
    so = record {
      was_closed = (λ e. h.0, λ e. refl);
      told = λ book e. cc;
      damaged = λ place e. cc;
      failed = λ e. cc;
      rests = record { book = ap (λ k. k.book) h.1; closed = ap (λ k. k.closed) h.1; batch = refl };
    };
  }
  read_anyhow (Err fault.DiskFailed) h = record {
    later = h.1.disk.later;
    so = record {
      was_closed = (λ e. cc, λ e. absurd (not_both s.journal.closed e h.0));
      told = λ book e. cc;
      damaged = λ place e. cc;
      failed = λ e. h.2;
      rests = rests_anyhow h.1;
    };
  }
  read_anyhow (Err (fault.Damaged place)) h = record {
    later = h.1.disk.later;
    so = record {
      was_closed = (λ e. cc, λ e. absurd (not_both s.journal.closed e h.0));
      told = λ book e. cc;
      damaged = λ place e. h.2;
      failed = λ e. cc;
      rests = rests_anyhow h.1;
    };
  }

  -- a read, as a request
  pub read_asked : (old : Seen D) (came : Result (List Record) AppendFault) → s ≡ old → ReadBack dev.storage s.journal j came → dev.armed j.disk ≡ dev.armed s.journal.disk → LeftAlike (dev.left s.journal.disk) (dev.left j.disk) → ReadsUnder (dev.armed s.journal.disk) came
      → SlotAnswers dev old Read (reading_by came) (record s { journal = j })
  read_asked old came same read arm left given_under =
      subst (λ o. SlotAnswers dev o Read (reading_by came) (record s { journal = j })) same (record { plainly = by came read given_under; anyhow = read_anyhow came read })
    where
      by : (came : Result (List Record) AppendFault) → ReadBack dev.storage s.journal j came → ReadsUnder (dev.armed s.journal.disk) came → AnswersPlainly dev s Read (reading_by came) (record s { journal = j })
      by (Ok records) h under shelf stand =
          let open_now : shelf.is_closed ≡ false = sym stand.closed ∙ h.0 in
          inl (given records s.journal.book shelf.book (stand.book open_now) h.2 ∙ sym (read_is shelf open_now), rests_on shelf stand h.1 arm left)
      by (Err fault.Closed) h under shelf stand =
          inl (
            sym (ap (λ b. if b then Shut else Book shelf.book) (sym stand.closed ∙ h.0)),
            subst (λ k. ShelfStands dev (record s { journal = k }) shelf) (sym h.1) stand,
          )
      by (Err fault.DiskFailed) h under shelf stand =
          inr (record { untold = unread (dev.armed s.journal.disk) refl under; rose = h.2 }, refl, rests_on shelf stand h.1 arm left)
      by (Err (fault.Damaged place)) h under shelf stand =
          absurd (told_some s.journal.book (reverse shelf.book) (stand.book (sym stand.closed ∙ h.0)) h.2)

  pub read_told : {E : Type 0} (old : Seen D) (result : Result (Result (List Record) AppendFault) E) → s ≡ old → IfOk result (ReadBack dev.storage s.journal j) → dev.armed j.disk ≡ dev.armed s.journal.disk
      → LeftAlike (dev.left s.journal.disk) (dev.left j.disk) → IfOk result (ReadsUnder (dev.armed s.journal.disk)) → IfOk result (λ came. SlotAnswers dev old Read (reading_by came) (record s { journal = j }))
  read_told old (Ok came) same read arm left under = read_asked old came same read arm left under
  read_told old (Err e) same read arm left under = tt

  -- memory was short for one
  pub unread_slot : (old : Seen D) → s ≡ old → Rests dev.storage s.journal j → dev.armed j.disk ≡ dev.armed s.journal.disk → LeftAlike (dev.left s.journal.disk) (dev.left j.disk) → SlotUnasked dev old (record s { journal = j })
  unread_slot old same rests arm left = subst (λ o. SlotUnasked dev o (record s { journal = j })) same (record {
    plainly = λ shelf stand. inl (stand.flush, rests_on shelf stand rests arm left);
    anyhow = record { later = rests.disk.later; so = record { answer = refl; rests = rests_anyhow rests } };
  })

  -- a save
  saved_by : (after : Flusher) (batch : Batch) (came : Result (Unit {0}) AppendFault) → SavedBy dev.storage (Rows batch) after s.journal j came → AppendedUnder dev.storage dev.armed dev.left (Rows batch) s.journal j (append_of (Rows batch) came)
      → SlotSaved dev batch s (record s { journal = j; flusher = after }) (fate_by came)
  saved_by after batch (Ok done) h under = record { appended = append_asked (Rows batch) (Ok (seq_of (Rows batch))) h.1 under; left = ap flush_of h.0 }
  saved_by after batch (Err why) h under = record {
    appended = append_asked (Rows batch) (Err why) h.1 under;
    left = ap flush_of h.0 ∙ gone why h.1;
  }
    where
      gone : (why : AppendFault) → Appended dev.storage s.journal j (Rows batch) (Err why) → Idle ≡ left_by batch (fate_by {T = ℕ} (Err why))
      gone fault.Closed h = refl
      gone fault.DiskFailed h = refl
      gone (fault.Damaged place) h = absurd h

  pub saves_slot : (old : Seen D) (after : Flusher) (came : Result (Unit {0}) AppendFault) (wrote : Wrote) → s ≡ old → wrote ≡ wrote_of (fate_by came) → Saved dev.storage s.flusher after s.journal j came
      → SavedUnder dev.storage dev.armed dev.left s.flusher s.journal j came → SavesSlot dev old.flusher old (record s { journal = j; flusher = after }) (fate_of_wrote wrote)
  saves_slot old after came wrote same said saved under =
      subst (λ o. SavesSlot dev o.flusher o (record s { journal = j; flusher = after }) (fate_of_wrote wrote)) same
      (subst (λ f. SavesSlot dev s.flusher s (record s { journal = j; flusher = after }) f) (sym (told_back (fate_by came)) ∙ sym (ap fate_of_wrote said)) (by s.flusher saved under))
    where
      by : (f : Flusher) → Saved dev.storage f after s.journal j came → SavedUnder dev.storage dev.armed dev.left f s.journal j came → SavesSlot dev f s (record s { journal = j; flusher = after }) (fate_by came)
      by flusher.Idle h under = absurd h
      by (flusher.Out batch) h under = saved_by after batch came h under
      by (flusher.Written receipt) h under = absurd h

  -- memory was short for it
  pub unsaved_slot : (old : Seen D) (after : Flusher) → s ≡ old → after ≡ s.flusher → IsUncalledUnder dev.storage dev.armed dev.left s.journal j → SlotUnasked dev old (record s { journal = j; flusher = after })
  unsaved_slot old after same kept h = subst (λ f. SlotUnasked dev old (record s { journal = j; flusher = f })) (sym kept) (uncalled_slot old same h)
