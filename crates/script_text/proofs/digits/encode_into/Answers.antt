use Rattle.std.proofs.Common.{◌≡◌, ◌*◌, ◌+◌, refl, arith}
use Rattle.hex.specs.Hex.{lower_digits}
use Rattle.hex.proofs.Pairs.{encode_done, encode_step}
use Rattle.script_text.proofs.digits.encode_into.Goals as goal

pub bytes-preserved : goal.bytes-preserved
bytes-preserved c =
    rw c.put_pair.ensures (encode_step lower_digits c.args.bytes.now c.bytes.room c.bytes.i _ _ (omega arith) (omega arith) refl refl c.bytes.invariant)

pub returns : goal.returns
returns c = encode_done lower_digits c.args.bytes.now c.bytes.room c.bytes.i (omega arith) (omega arith) c.bytes.invariant
