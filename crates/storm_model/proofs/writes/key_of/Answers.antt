use Rattle.std.proofs.Common.{rules, ◌≡◌, ◌%◌, ◌/◌, ◌^◌, sym, subst, arith}
use Rattle.vb_types.specs.Limits.{IsKey}
use Rattle.storm_model.specs.Writes.{client_key}
use Rattle.storm_model.proofs.Lengths.{short_key}
use Rattle.storm_model.proofs.writes.key_of.Goals as goal

pub key_of_bytes-requires : goal.key_of_bytes-requires
key_of_bytes-requires c =
    let e : c.as_bytes.result.now ≡ client_key c.args.client (c.args.word / 2 ^ 40 % 100) = search rules in
    subst IsKey (sym e) (short_key c.args.client (c.args.word / 2 ^ 40) (omega arith))
