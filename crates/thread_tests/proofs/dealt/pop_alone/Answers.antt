use Rattle.std.proofs.Common.{◌≡◌, ◌∙◌, ap, sym, false}
use Rattle.node_threads.specs.Seats.{has_row, rows_of}
use Rattle.thread_tests.proofs.Tables.{popped, popped_table}
use Rattle.thread_tests.proofs.dealt.pop_alone.Goals as goal

pub returns-then-has_number-clause-stay : goal.returns-then-has_number-clause-stay
returns-then-has_number-clause-stay c = popped c.args.slots.now.items c.pop.new.self.items c.in_ok-slot.slot c.in_ok-slot.ensures.items

pub returns-clause-stay : goal.returns-clause-stay
returns-clause-stay c = popped c.args.slots.now.items c.pop.new.self.items c.in_ok-slot.slot c.in_ok-slot.ensures.items

pub returns-clause-some : goal.returns-clause-some
returns-clause-some c =
    let none : has_row (rows_of c.pop.new.self.items) c.in_ok-slot.slot.number ≡ false =
    ap (λ slots. has_row (rows_of slots) c.in_ok-slot.slot.number) (sym c.deref.ensures.value) ∙ (sym c.has_number.ensures ∙ c.if-has_number.false) in
    popped_table c.args.slots.now.items c.pop.new.self.items c.in_ok-slot.slot c.in_ok-slot.ensures.items none
