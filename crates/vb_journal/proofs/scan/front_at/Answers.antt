use Rattle.std.proofs.Common.{◌+◌, inl, inr, sym, ◌∙◌, subst, arith}
use Rattle.vb_journal.specs.Books.{Taken}
use Rattle.vb_journal.specs.Reading.{holding}
use Rattle.vb_journal.proofs.Looking.{IsRead, at_end, at_closed, at_headless, at_unfit, at_whole, taken_is_read, told_is}
use Rattle.vb_journal.proofs.scan.front_at.Goals as goal
use Rattle.vb_journal.proofs.scan.front_at.Goals.{then-len-via-then-len, then-len-via-else-len+then-size-place-2}

pub returns-then-size-place-clause-found : goal.returns-then-size-place-clause-found
returns-then-size-place-clause-found g c =
    at_end _ _ c.args.place c.len-size.ensures.sound.told (omega (arith, c.len-size.ensures.size))

pub returns-then-gate-ne-OPEN-clause-found : goal.returns-then-gate-ne-OPEN-clause-found
returns-then-gate-ne-OPEN-clause-found g c =
    at_closed _ c.args.place c.fills.new.room c.fills.ensures.long (omega (arith, c.len-size.ensures.size)) _ c.len-size.ensures.sound.told
    c.if-not-fills.ensures.filled c.if-gate-ne-OPEN.true

pub returns-then-size-place-lt-HEAD_LEN-clause-found :
    goal.returns-then-size-place-lt-HEAD_LEN-clause-found
returns-then-size-place-lt-HEAD_LEN-clause-found g c =
    at_headless _ c.args.place c.fills.new.room c.fills.ensures.long (omega (arith, c.len-size.ensures.size)) _ c.len-size.ensures.sound.told
    c.if-not-fills.ensures.filled c.if-gate-ne-OPEN.false (omega (arith, c.len-size.ensures.size))

pub returns-then-len-clause-found : goal.returns-then-len-clause-found
returns-then-len-clause-found g c =
    let place = c.args.place in
    let n = c.from-len.ensures ∙ c.from_be_bytes.ensures in
    at_unfit _ place c.fills.new.room c.fills.ensures.long (omega (arith, c.len-size.ensures.size)) c.if-gate-ne-OPEN.false
    (omega (arith, c.len-size.ensures.size)) c.fills-2.new.room c.fills-2.ensures.long _ c.len-size.ensures.sound.told c.if-not-fills.ensures.filled
    (subst (λ held. IsRead held (place + 1) c.fills-2.new.room) c.fills.ensures.stays.held c.if-not-fills-2.ensures.filled)
    (elim c.then-len.branch [
      | then-len-via-then-len w ↦ inl (omega (arith, n, w.if-len.true))
      | then-len-via-else-len+then-size-place-2 w ↦ inr (omega (arith, n, c.len-size.ensures.size, w.if-size-place-2.true))
    ])

pub returns-in-Some-2-clause-found : goal.returns-in-Some-2-clause-found
returns-in-Some-2-clause-found g c =
    let place = c.args.place in
    let n = c.from-len.ensures ∙ c.from_be_bytes.ensures in
    let held = (g.D.Disk.storage c.args.disk.now).held in
    let taken = subst (Taken (g.D.Disk.storage c.fills-2.new.disk) (g.D.Disk.storage c.payload_at.new.disk) (place + 5) c.from-len.result) c.in-Some.is c.in_ok-payload.ensures.taken in
    let whole =
    at_whole _ place c.fills.new.room c.fills.ensures.long (omega (arith, c.len-size.ensures.size)) c.if-gate-ne-OPEN.false
    (omega (arith, c.len-size.ensures.size)) c.fills-2.new.room c.fills-2.ensures.long held c.in-Some.payload c.len-size.ensures.sound.told
    c.if-not-fills.ensures.filled
    (subst (λ held. IsRead held (place + 1) c.fills-2.new.room) c.fills.ensures.stays.held c.if-not-fills-2.ensures.filled)
    (subst (λ held. IsRead held (place + 5) c.in-Some.payload) (c.fills-2.ensures.stays.held ∙ c.fills.ensures.stays.held) (taken_is_read _ (place + 5) c.from-len.result c.in-Some.payload taken.0 taken.1))
    (omega (arith, n, c.if-len.false)) (omega (arith, n, c.len-size.ensures.size, c.if-size-place-2.false)) (taken.0 ∙ n) in
    told_is held place _ _ whole (λ i. holding ((sym c.in_ok-record.ensures ∙ c.in-Some-2.is) i) (sym n i))

pub returns-in-None-clause-found : goal.returns-in-None-clause-found
returns-in-None-clause-found g c =
    let place = c.args.place in
    let n = c.from-len.ensures ∙ c.from_be_bytes.ensures in
    let held = (g.D.Disk.storage c.args.disk.now).held in
    let taken = subst (Taken (g.D.Disk.storage c.fills-2.new.disk) (g.D.Disk.storage c.payload_at.new.disk) (place + 5) c.from-len.result) c.in-Some.is c.in_ok-payload.ensures.taken in
    let whole =
    at_whole _ place c.fills.new.room c.fills.ensures.long (omega (arith, c.len-size.ensures.size)) c.if-gate-ne-OPEN.false
    (omega (arith, c.len-size.ensures.size)) c.fills-2.new.room c.fills-2.ensures.long held c.in-Some.payload c.len-size.ensures.sound.told
    c.if-not-fills.ensures.filled
    (subst (λ held. IsRead held (place + 1) c.fills-2.new.room) c.fills.ensures.stays.held c.if-not-fills-2.ensures.filled)
    (subst (λ held. IsRead held (place + 5) c.in-Some.payload) (c.fills-2.ensures.stays.held ∙ c.fills.ensures.stays.held) (taken_is_read _ (place + 5) c.from-len.result c.in-Some.payload taken.0 taken.1))
    (omega (arith, n, c.if-len.false)) (omega (arith, n, c.len-size.ensures.size, c.if-size-place-2.false)) (taken.0 ∙ n) in
    told_is held place _ _ whole (λ i. holding ((sym c.in_ok-record.ensures ∙ c.in-None.is) i) (sym n i))
