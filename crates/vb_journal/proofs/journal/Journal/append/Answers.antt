use Rattle.std.proofs.Common.{true, false, ◌≡◌, ◌+◌, ◌^◌, ◌<◌, ◌++◌, [], ◌∷◌, ◌∙◌, refl, length, ap, subst, sym, arith}
use Rattle.std.specs.Prelude.{List, ℕ, IfSome, option_map}
use Rattle.vb_disk.proofs.Moments.{no_more_none, no_more_twice, stays_settled}
use Rattle.vb_disk.specs.Disks.{IsReady}
use Rattle.vb_disk.specs.declared.Put.TheVariants as put
use Rattle.vb_journal.specs.Books.{JournalState, book_of, IsKept, Noted, OldOrNew}
use Rattle.vb_journal.specs.Reading.{behind_gate}
use Rattle.vb_journal.specs.Surviving.{NotesAtEachMoment, OldOrNewAtEachMoment}
use Rattle.vb_journal.specs.UnderArms.{AppendLeaves, IsSettledEach, LeavesUnder, StandsUnder, left_noting}
use Rattle.vb_journal.proofs.UnderArms.{append_leaves}
use Rattle.vb_journal.proofs.Surviving.{broken_leaves, old_or_new, opens_whole, settled_leaves}
use Rattle.vb_journal.proofs.Bearing.{reserved, noted_whole, noted_kept, noted_book, broken_kept, broken_book}
use Rattle.vb_journal.proofs.journal.Journal.append.Goals as goal

pub note-requires-clause-ready : goal.note-requires-clause-ready
note-requires-clause-ready g c =
    let s = g.D.Disk.storage in
    let gate = c.self.inside.end in
    let r = reserved (s c.self.inside.disk) (s c.reserve.new.self) (s c.reserve-2.new.self) gate c.len.result c.in_ok-reserve.ensures.ok c.in_ok-reserve-2.ensures.ok
    (c.self.invariant.kept.stands c.if-self.false) in
    subst (λ n. IsReady (gate + 1) n (s c.reserve-2.new.self).ready) (c.len.ensures ∙ sym c.deref.ensures.len) r.ready

pub note-requires-clause-opens : goal.note-requires-clause-opens
note-requires-clause-opens g c =
    let s = g.D.Disk.storage in
    let gate = c.self.inside.end in
    let r = reserved (s c.self.inside.disk) (s c.reserve.new.self) (s c.reserve-2.new.self) gate c.len.result c.in_ok-reserve.ensures.ok c.in_ok-reserve-2.ensures.ok
    (c.self.invariant.kept.stands c.if-self.false) in
    r.opens

pub invariant_of-self-in-Done : goal.invariant_of-self-in-Done
invariant_of-self-in-Done g c =
    let s = g.D.Disk.storage in
    let gate = c.self.inside.end in
    let r = reserved (s c.self.inside.disk) (s c.reserve.new.self) (s c.reserve-2.new.self) gate c.len.result c.in_ok-reserve.ensures.ok c.in_ok-reserve-2.ensures.ok
    (c.self.invariant.kept.stands c.if-self.false) in
    let behind = c.deref.ensures.value ∙ c.in_ok-behind.ensures.bytes in
    let done = subst (λ (l : List ℕ). Noted (s c.reserve-2.new.self) (s c.note.new.disk) gate l put.Done) behind c.in-Done.ensures.noted in
    let long : length (behind_gate c.args.noted.now) ≡ c.len-in-Done.result = sym (ap length behind) ∙ c.deref.ensures.len ∙ sym c.len-in-Done.ensures in
    let few : gate + length (behind_gate c.args.noted.now) < 2 ^ 62 = omega (arith, long, c.len-in-Done.ensures, c.len.ensures, c.in_ok-reserve.ensures.end) in
    let kept = noted_kept (s c.reserve-2.new.self) (s c.note.new.disk) gate c.args.noted.now r.stands c.in_ok-behind.ensures.back done few in
    record {
      kept = subst (λ n. IsKept (s c.note.new.disk) (gate + n) c.self.inside.closed) long
          (subst (λ b. IsKept (s c.note.new.disk) (gate + length (behind_gate c.args.noted.now)) b) (sym c.if-self.false) kept);
      settled = λ e. c.in-Done.ensures.settled;
      left = settled_leaves (s c.note.new.disk).held (g.D.Disk.crashes c.note.new.disk) kept.whole c.in-Done.ensures.settled;
    }

pub returns-in-Done-clause-ok : goal.returns-in-Done-clause-ok
returns-in-Done-clause-ok g c =
    let s = g.D.Disk.storage in
    let gate = c.self.inside.end in
    let r = reserved (s c.self.inside.disk) (s c.reserve.new.self) (s c.reserve-2.new.self) gate c.len.result c.in_ok-reserve.ensures.ok c.in_ok-reserve-2.ensures.ok
    (c.self.invariant.kept.stands c.if-self.false) in
    let behind = c.deref.ensures.value ∙ c.in_ok-behind.ensures.bytes in
    let done = subst (λ (l : List ℕ). Noted (s c.reserve-2.new.self) (s c.note.new.disk) gate l put.Done) behind c.in-Done.ensures.noted in
    let book = noted_book (s c.reserve-2.new.self) (s c.note.new.disk) gate c.args.noted.now r.stands c.in_ok-behind.ensures.back done in
    record {
      was_open = sym (ap (λ j. j.closed) c.self.view_is) ∙ c.if-self.false;
      stays_open = c.if-self.false;
      book = book ∙ ap (λ held. option_map (λ records. records ++ c.args.noted.now ∷ []) (book_of held)) r.held ∙ ap (λ j. option_map (λ records. records ++ c.args.noted.now ∷ []) j.book) c.self.view_is;
      names = c.of.ensures;
      later = omega (arith, r.failures, c.in-Done.ensures.counted, ap (λ j. (s j.disk).failures) c.self.view_is);
    }

pub invariant_of-self-in-Failed : goal.invariant_of-self-in-Failed
invariant_of-self-in-Failed g c =
    let s = g.D.Disk.storage in
    let gate = c.self.inside.end in
    let r = reserved (s c.self.inside.disk) (s c.reserve.new.self) (s c.reserve-2.new.self) gate c.len.result c.in_ok-reserve.ensures.ok c.in_ok-reserve-2.ensures.ok
    (c.self.invariant.kept.stands c.if-self.false) in
    let behind = c.deref.ensures.value ∙ c.in_ok-behind.ensures.bytes in
    let failed = subst (λ (l : List ℕ). Noted (s c.reserve-2.new.self) (s c.note.new.disk) gate l put.Failed) behind c.in-Failed.ensures.noted in
    let k = g.D.Disk.crashes in
    let more = no_more_twice (k c.self.inside.disk) (k c.reserve.new.self) (k c.reserve-2.new.self) c.reserve.ensures.crash c.reserve-2.ensures.crash in
    let settled = stays_settled (s c.self.inside.disk).held (s c.reserve-2.new.self).held (k c.self.inside.disk) (k c.reserve-2.new.self) r.held more (c.self.invariant.settled c.if-self.false) in
    record {
      kept = broken_kept (s c.reserve-2.new.self) (s c.note.new.disk) gate gate c.args.noted.now r.stands c.in_ok-behind.ensures.back failed;
      settled = λ (e : true ≡ false). absurd (cc e);
      left = broken_leaves (s c.reserve-2.new.self).held (s c.note.new.disk).held gate c.args.noted.now (k c.reserve-2.new.self) (k c.note.new.disk) failed
          (old_or_new (s c.reserve-2.new.self).held (k c.reserve-2.new.self) (k c.reserve-2.new.self) (k c.note.new.disk) gate c.args.noted.now r.stands.told c.in_ok-behind.ensures.back
          (g.met.D.Disk.counts_now c.reserve-2.new.self) settled (no_more_none (k c.reserve-2.new.self))
          (subst (λ (l : List ℕ). NotesAtEachMoment (s c.reserve-2.new.self).held (k c.reserve-2.new.self) (k c.note.new.disk) gate l) behind (c.note.ensures.moments settled)))
          (g.met.D.Disk.counts_now c.note.new.disk);
    }

pub returns-clause-ok : goal.returns-clause-ok
returns-clause-ok g c =
    let s = g.D.Disk.storage in
    let gate = c.self.inside.end in
    let r = reserved (s c.self.inside.disk) (s c.reserve.new.self) (s c.reserve-2.new.self) gate c.len.result c.in_ok-reserve.ensures.ok c.in_ok-reserve-2.ensures.ok
    (c.self.invariant.kept.stands c.if-self.false) in
    let behind = c.deref.ensures.value ∙ c.in_ok-behind.ensures.bytes in
    let failed = subst (λ (l : List ℕ). Noted (s c.reserve-2.new.self) (s c.note.new.disk) gate l put.Failed) behind c.in-Failed.ensures.noted in
    let book = broken_book (s c.reserve-2.new.self) (s c.note.new.disk) gate c.args.noted.now r.stands c.in_ok-behind.ensures.back failed in
    let count = ap (λ j. (s j.disk).failures) c.self.view_is in
    record {
      was_open = sym (ap (λ j. j.closed) c.self.view_is) ∙ c.if-self.false;
      closes = refl;
      book = subst (λ old. OldOrNew old c.args.noted.now (book_of (s c.note.new.disk).held)) (ap book_of r.held ∙ ap (λ j. j.book) c.self.view_is) book;
      later = omega (arith, r.failures, c.in-Failed.ensures.counted.0, count);
      rose = omega (arith, r.failures, c.in-Failed.ensures.counted.1, count);
    }

pub returns-in-Done-clause-any_moment : goal.returns-in-Done-clause-any_moment
returns-in-Done-clause-any_moment g c =
    let s = g.D.Disk.storage in
    let k = g.D.Disk.crashes in
    let gate = c.self.inside.end in
    let r = reserved (s c.self.inside.disk) (s c.reserve.new.self) (s c.reserve-2.new.self) gate c.len.result c.in_ok-reserve.ensures.ok c.in_ok-reserve-2.ensures.ok
    (c.self.invariant.kept.stands c.if-self.false) in
    let more = no_more_twice (k c.self.inside.disk) (k c.reserve.new.self) (k c.reserve-2.new.self) c.reserve.ensures.crash c.reserve-2.ensures.crash in
    let behind = c.deref.ensures.value ∙ c.in_ok-behind.ensures.bytes in
    let stands = c.self.invariant.kept.stands c.if-self.false in
    let now : JournalState g.row.D.Denot = record { disk = c.note.new.disk; book = book_of (s c.note.new.disk).held; closed = c.self.inside.closed } in
    let settled = c.self.invariant.settled c.if-self.false in
    subst (λ j. OldOrNewAtEachMoment k j now c.args.noted.now) c.self.view_is (λ was_open.
    old_or_new (s c.self.inside.disk).held (k c.self.inside.disk) (k c.reserve-2.new.self) (k c.note.new.disk) gate c.args.noted.now stands.told c.in_ok-behind.ensures.back
    (g.met.D.Disk.counts_now c.self.inside.disk) settled more
    (subst (λ held. NotesAtEachMoment held (k c.reserve-2.new.self) (k c.note.new.disk) gate (behind_gate c.args.noted.now)) r.held
    (subst (λ (l : List ℕ). NotesAtEachMoment (s c.reserve-2.new.self).held (k c.reserve-2.new.self) (k c.note.new.disk) gate l) behind
    (c.note.ensures.moments (stays_settled (s c.self.inside.disk).held (s c.reserve-2.new.self).held (k c.self.inside.disk) (k c.reserve-2.new.self) r.held more settled))))
    )

pub returns-in-Done-clause-kept : goal.returns-in-Done-clause-kept
returns-in-Done-clause-kept g c =
    let s = g.D.Disk.storage in
    let k = g.D.Disk.crashes in
    let gate = c.self.inside.end in
    let r = reserved (s c.self.inside.disk) (s c.reserve.new.self) (s c.reserve-2.new.self) gate c.len.result c.in_ok-reserve.ensures.ok c.in_ok-reserve-2.ensures.ok
    (c.self.invariant.kept.stands c.if-self.false) in
    let behind = c.deref.ensures.value ∙ c.in_ok-behind.ensures.bytes in
    let done = subst (λ (l : List ℕ). Noted (s c.reserve-2.new.self) (s c.note.new.disk) gate l put.Done) behind c.in-Done.ensures.noted in
    let settled = c.in-Done.ensures.settled in
    (settled, opens_whole (s c.note.new.disk).held (k c.note.new.disk) (noted_whole (s c.reserve-2.new.self) (s c.note.new.disk) gate c.args.noted.now r.stands c.in_ok-behind.ensures.back done) settled)

pub returns-clause-any_moment : goal.returns-clause-any_moment
returns-clause-any_moment g c =
    let s = g.D.Disk.storage in
    let k = g.D.Disk.crashes in
    let gate = c.self.inside.end in
    let r = reserved (s c.self.inside.disk) (s c.reserve.new.self) (s c.reserve-2.new.self) gate c.len.result c.in_ok-reserve.ensures.ok c.in_ok-reserve-2.ensures.ok
    (c.self.invariant.kept.stands c.if-self.false) in
    let more = no_more_twice (k c.self.inside.disk) (k c.reserve.new.self) (k c.reserve-2.new.self) c.reserve.ensures.crash c.reserve-2.ensures.crash in
    let behind = c.deref.ensures.value ∙ c.in_ok-behind.ensures.bytes in
    let stands = c.self.invariant.kept.stands c.if-self.false in
    let now : JournalState g.row.D.Denot = record { disk = c.note.new.disk; book = book_of (s c.note.new.disk).held; closed = true } in
    let settled = c.self.invariant.settled c.if-self.false in
    subst (λ j. OldOrNewAtEachMoment k j now c.args.noted.now) c.self.view_is (λ was_open.
    old_or_new (s c.self.inside.disk).held (k c.self.inside.disk) (k c.reserve-2.new.self) (k c.note.new.disk) gate c.args.noted.now stands.told c.in_ok-behind.ensures.back
    (g.met.D.Disk.counts_now c.self.inside.disk) settled more
    (subst (λ held. NotesAtEachMoment held (k c.reserve-2.new.self) (k c.note.new.disk) gate (behind_gate c.args.noted.now)) r.held
    (subst (λ (l : List ℕ). NotesAtEachMoment (s c.reserve-2.new.self).held (k c.reserve-2.new.self) (k c.note.new.disk) gate l) behind
    (c.note.ensures.moments (stays_settled (s c.self.inside.disk).held (s c.reserve-2.new.self).held (k c.self.inside.disk) (k c.reserve-2.new.self) r.held more settled))))
    )

pub returns-in-Done-clause-stands : goal.returns-in-Done-clause-stands
returns-in-Done-clause-stands g c =
    let s = g.D.Disk.storage in
    let a = g.D.Disk.armed in
    let l = g.D.Disk.left_by in
    let gate = c.self.inside.end in
    let r = reserved (s c.self.inside.disk) (s c.reserve.new.self) (s c.reserve-2.new.self) gate c.len.result c.in_ok-reserve.ensures.ok c.in_ok-reserve-2.ensures.ok
    (c.self.invariant.kept.stands c.if-self.false) in
    let behind = c.deref.ensures.value ∙ c.in_ok-behind.ensures.bytes in
    let now : JournalState g.row.D.Denot = record { disk = c.note.new.disk; book = book_of (s c.note.new.disk).held; closed = c.self.inside.closed } in
    subst (λ j. StandsUnder s a l j now c.args.noted.now) c.self.view_is (λ was_open settled.
    let settled_now : IsSettledEach (s c.reserve-2.new.self).held (l c.reserve-2.new.self) = λ out. c.reserve-2.ensures.left out ∙ c.reserve.ensures.left out ∙ settled out ∙ sym r.held in
    let noting = subst (λ (bytes : List ℕ). LeavesUnder (a c.reserve-2.new.self) (s c.reserve-2.new.self).held (l c.reserve-2.new.self) (l c.note.new.disk) (λ f out old. left_noting f out gate bytes old)) behind c.note.ensures.left in
    let leaves = append_leaves (a c.reserve-2.new.self) (s c.reserve-2.new.self).held (l c.reserve-2.new.self) (l c.note.new.disk) gate c.args.noted.now r.stands.told c.in_ok-behind.ensures.back settled_now noting in
    subst (λ armed. IfSome armed (λ f. AppendLeaves f (book_of (s c.self.inside.disk).held) (l c.note.new.disk) c.args.noted.now)) (c.reserve-2.ensures.arm ∙ c.reserve.ensures.arm)
    (subst (λ held. IfSome (a c.reserve-2.new.self) (λ f. AppendLeaves f (book_of held) (l c.note.new.disk) c.args.noted.now)) r.held leaves)
    )

pub returns-clause-stands : goal.returns-clause-stands
returns-clause-stands g c =
    let s = g.D.Disk.storage in
    let a = g.D.Disk.armed in
    let l = g.D.Disk.left_by in
    let gate = c.self.inside.end in
    let r = reserved (s c.self.inside.disk) (s c.reserve.new.self) (s c.reserve-2.new.self) gate c.len.result c.in_ok-reserve.ensures.ok c.in_ok-reserve-2.ensures.ok
    (c.self.invariant.kept.stands c.if-self.false) in
    let behind = c.deref.ensures.value ∙ c.in_ok-behind.ensures.bytes in
    let now : JournalState g.row.D.Denot = record { disk = c.note.new.disk; book = book_of (s c.note.new.disk).held; closed = true } in
    subst (λ j. StandsUnder s a l j now c.args.noted.now) c.self.view_is (λ was_open settled.
    let settled_now : IsSettledEach (s c.reserve-2.new.self).held (l c.reserve-2.new.self) = λ out. c.reserve-2.ensures.left out ∙ c.reserve.ensures.left out ∙ settled out ∙ sym r.held in
    let noting = subst (λ (bytes : List ℕ). LeavesUnder (a c.reserve-2.new.self) (s c.reserve-2.new.self).held (l c.reserve-2.new.self) (l c.note.new.disk) (λ f out old. left_noting f out gate bytes old)) behind c.note.ensures.left in
    let leaves = append_leaves (a c.reserve-2.new.self) (s c.reserve-2.new.self).held (l c.reserve-2.new.self) (l c.note.new.disk) gate c.args.noted.now r.stands.told c.in_ok-behind.ensures.back settled_now noting in
    subst (λ armed. IfSome armed (λ f. AppendLeaves f (book_of (s c.self.inside.disk).held) (l c.note.new.disk) c.args.noted.now)) (c.reserve-2.ensures.arm ∙ c.reserve.ensures.arm)
    (subst (λ held. IfSome (a c.reserve-2.new.self) (λ f. AppendLeaves f (book_of held) (l c.note.new.disk) c.args.noted.now)) r.held leaves)
    )
