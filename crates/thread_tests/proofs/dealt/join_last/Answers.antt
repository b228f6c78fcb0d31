use Rattle.node_threads.specs.Seats.{rows_of}
use Rattle.thread_tests.proofs.Tables.{shared_stay}
use Rattle.thread_tests.proofs.dealt.join_last.Goals as goal

pub returns-in_err-slot : goal.returns-in_err-slot
returns-in_err-slot c = shared_stay (rows_of c.args.main.now.items) (rows_of c.pop_alone.new.slots.items) (rows_of c.args.one.now.items) (rows_of c.args.one.now.items) (rows_of c.args.two.now.items) (rows_of c.args.two.now.items) c.requires c.in_err-slot.ensures.stay (λ t a. a) (λ t a. a)

pub returns-in_err-first : goal.returns-in_err-first
returns-in_err-first c = shared_stay (rows_of c.args.main.now.items) (rows_of c.pop_alone.new.slots.items) (rows_of c.args.one.now.items) (rows_of c.pop_alone-2.new.slots.items) (rows_of c.args.two.now.items) (rows_of c.args.two.now.items) c.requires c.in_ok-slot.ensures.stay c.in_err-first.ensures.stay (λ t a. a)

pub returns-in_err-second : goal.returns-in_err-second
returns-in_err-second c = shared_stay (rows_of c.args.main.now.items) (rows_of c.pop_alone.new.slots.items) (rows_of c.args.one.now.items) (rows_of c.pop_alone-2.new.slots.items) (rows_of c.args.two.now.items) (rows_of c.pop_alone-3.new.slots.items) c.requires c.in_ok-slot.ensures.stay c.in_ok-first.ensures.stay c.in_err-second.ensures.stay

pub returns-then-first-slot : goal.returns-then-first-slot
returns-then-first-slot c = shared_stay (rows_of c.args.main.now.items) (rows_of c.pop_alone.new.slots.items) (rows_of c.args.one.now.items) (rows_of c.pop_alone-2.new.slots.items) (rows_of c.args.two.now.items) (rows_of c.pop_alone-3.new.slots.items) c.requires c.in_ok-slot.ensures.stay c.in_ok-first.ensures.stay c.in_ok-second.ensures.stay

pub returns : goal.returns
returns c = shared_stay (rows_of c.args.main.now.items) (rows_of c.pop_alone.new.slots.items) (rows_of c.args.one.now.items) (rows_of c.pop_alone-2.new.slots.items) (rows_of c.args.two.now.items) (rows_of c.pop_alone-3.new.slots.items) c.requires c.in_ok-slot.ensures.stay c.in_ok-first.ensures.stay c.in_ok-second.ensures.stay
