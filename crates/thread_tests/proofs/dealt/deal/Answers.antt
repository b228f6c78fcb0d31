use Rattle.std.proofs.Common.{◌∙◌, sym, refl}
use Rattle.thread_tests.proofs.Tables.{dealt}
use Rattle.thread_tests.proofs.dealt.deal.Goals as goal

pub returns : goal.returns
returns g c =
    dealt c.args.v c.args.main.now c.take_in-3.new.seats c.args.one.now c.take_in.new.seats c.args.two.now c.take_in-2.new.seats _ _ _
    c.in_ok-take_in-3.ensures c.in_ok-take_in.ensures c.in_ok-take_in-2.ensures refl refl refl
    (c.split_seat-first.ensures.given.0 ∙ sym c.split_seat-second.ensures.own) (c.split_seat-second.ensures.given.0 ∙ sym c.split_seat-second.ensures.own)
    (sym c.has.ensures ∙ c.if-has.false) (sym c.has-else-has.ensures ∙ c.if-has-2.false) (sym c.has-else-has-2.ensures ∙ c.if-has-3.false)
