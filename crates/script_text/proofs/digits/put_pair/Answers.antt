use Rattle.std.proofs.Common.{refl, arith}
use Rattle.script_text.proofs.Nibbles.{pair_at}
use Rattle.script_text.proofs.digits.put_pair.Goals as goal

pub returns : goal.returns
returns c =
    let p = pair_at c.args.byte (omega arith) in
    rw (p.0, p.1) refl
