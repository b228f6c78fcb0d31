-- keys, and rows in numbers
use Rattle.std.proofs.Common.{◌≡◌, ◌*◌, ◌/◌, ◌%◌, ◌^◌, ◌++◌, refl, ap, arith}
use Rattle.std.specs.Prelude.{codes, decimal}
use Rattle.std.specs.Fmt.{digits}
use Rattle.mcbp_frame.specs.Spelling.{spelling}
use Rattle.script_gen.specs.Writes.{write_verb}
use Rattle.script_gen.specs.Scripts.{writes_from, gen_script}
use Rattle.script_gen.specs.Texts.{lines_to, gen_text}
use Rattle.script_gen.specs.Laws.{KeysAreNumbered}
use Rattle.script_gen.specs.Rows.{Edges, FirstStep, OneWrite, Removal, SixLines}

pub keys : KeysAreNumbered
keys = record {
  each = λ x. (x / 2 ^ 40 % 1000, omega arith, refl);
  all = λ n small. ap (λ m. codes "k" ++ decimal m) (let e : n * 2 ^ 40 / 2 ^ 40 % 1000 ≡ n = omega (arith, small) in e);
}

pub first_step : FirstStep
unfolding digits
first_step = record { word = refl; bits = refl; stores = refl; key = refl; wraps = refl }

pub edges : Edges
unfolding digits
edges = record { none = refl; below = refl; low = refl; high = refl; above = refl; first_key = refl; second_key = refl; last_key = refl; first_again = refl }

pub removal : Removal
unfolding digits spelling write_verb
removal = record { word = refl; removes = refl; sent = refl; line = refl }

pub one_write : OneWrite
unfolding digits spelling write_verb writes_from gen_script lines_to gen_text
one_write = record { verbs = refl; text = refl }

pub six_lines : SixLines
unfolding writes_from gen_script
six_lines = record { many = refl; sixth = refl; whole = refl; last = refl; more = refl; first = refl; next = refl; second = refl; none = refl }
