use Rattle.std.proofs.Common.{◌≡◌, ◌∙◌, ◌*◌, ◌+◌, ◌%◌, length, slice_index, Ok, refl, arith}
use Rattle.hex.specs.Hex.{pair_value}
use Rattle.hex.proofs.HexLemmas.{decode_of-even}
use Rattle.hex.proofs.Pairs.{decode_done, decode_step}
use Rattle.script_text.proofs.digits.decode_into.Goals as goal

pub bytes-preserved : goal.bytes-preserved
bytes-preserved c =
    let digits = c.args.digits.now in
    let i = c.bytes.i in
    let byte = c.value.result * 16 + c.value-in-bytes.result in
    let pair : pair_value (slice_index digits (2 * i)) (slice_index digits (2 * i + 1)) (2 * i) ≡ Ok byte =
    rw (c.value.ensures.says, c.value-in-bytes.ensures.says) refl in
    decode_step digits c.bytes.room i byte (omega arith) (omega arith) pair c.bytes.invariant

pub returns : goal.returns
returns c =
    let digits = c.args.digits.now in
    let even : length digits % 2 ≡ 0 = omega (arith, c.requires.fits) in
    decode_of-even digits even ∙ decode_done digits c.bytes.room c.bytes.i (omega arith) (omega (arith, c.requires.fits)) c.bytes.invariant
