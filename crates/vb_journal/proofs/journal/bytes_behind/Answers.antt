use Rattle.std.proofs.Common.{◌-◌, ◌++◌, ◌∙◌, ap, length, drop, arith, length-append}
use Rattle.std.specs.Int.{w32, to_be_bytes}
use Rattle.vb_journal.specs.Payloads.{payload_of}
use Rattle.vb_journal.proofs.Noting.{behind_made}
use Rattle.vb_journal.proofs.PayloadBack.{record_back}
use Rattle.vb_journal.proofs.Writable.{parts}
use Rattle.vb_journal.proofs.journal.bytes_behind.Goals as goal

pub overflow_cast-len : goal.overflow_cast-len
overflow_cast-len c =
    let all = ap length c.in_ok-write_payload.ensures.ok in
    omega (arith, all, length-append c.in_ok-bytes.bytes.items (payload_of c.args.noted.now), c.in_ok-bytes.ensures.len, c.len.ensures, (parts _ c.requires).1)

pub returns-clause-bytes : goal.returns-clause-bytes
returns-clause-bytes c =
    behind_made _ c.in_ok-bytes.bytes.items c.write_payload.new.out.items c.deref_mut.result.now c.set_len.new.bytes _ c.write_payload.new.out.len
    (omega (arith, c.in_ok-bytes.ensures.len)) c.in_ok-write_payload.ensures.ok (omega arith) c.deref_mut.ensures.value
    (c.set_len.ensures ∙ ap (λ n. to_be_bytes w32 (n - 4) ++ drop 4 c.deref_mut.result.now) c.len.ensures) c.in_ok-push.ensures.items

pub returns-clause-back : goal.returns-clause-back
returns-clause-back c = record {
  says = record_back _ c.in_ok-write_payload.ensures.fits c.requires;
  short = omega (arith, (parts _ c.requires).1);
}
