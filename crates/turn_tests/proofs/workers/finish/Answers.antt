use Rattle.std.proofs.Common.{◌∙◌, arith}
use Rattle.vb_turn.specs.Words.{view}
use Rattle.turn_tests.proofs.Puts.{finished, joined, collected}
use Rattle.turn_tests.proofs.workers.finish.Goals as goal

pub returns : goal.returns
returns c =
    let v = view c.args.one in let u = view c.args.two in let w = view c.join_seat.new.into in
    let j = joined v u w c.join_seat.ensures.joined in let k = collected v u w c.join_seat.ensures.joined in
    let a = k.0 in let b = k.1 in let d = k.2 in let p = c.requires.puts.0 in let q = c.requires.puts.1 in
    let f = finished w c.in-Some.numbers (j.2 ∙ c.requires.opening) (omega arith) c.in-Some.ensures in let x = f.0 in let y = f.1 in (omega arith, omega arith)
