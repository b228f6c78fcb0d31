use Rattle.std.proofs.Common.{rules, arith, ◌∙◌, length, ap}
use Rattle.dcp_io.proofs.Drawn.{drew_none, drew_more, drew_end, drew_failed, drew_within, take_rose, length_taken}
use Rattle.dcp_io.proofs.input.read_all.Goals as goal

pub loop-turn-init : goal.loop-turn-init
loop-turn-init g c = rw c.new-bytes.ensures.items (drew_none _, search rules, search rules, search rules)

pub returns-in-Failed-clause-read : goal.returns-in-Failed-clause-read
returns-in-Failed-clause-read g c = record {
  bytes = _;
  turns = _;
  drew = drew_failed c.loop-turn.invariant.0 c.in-Failed.ensures.moved;
  limit = c.loop-turn.invariant.3;
  rose = rw c.loop-turn.invariant.1 at (take_rose c.in-Failed.ensures.moved);
}

pub returns-in-Failed-clause-turns : goal.returns-in-Failed-clause-turns
returns-in-Failed-clause-turns g c = omega (arith, drew_within (drew_failed c.loop-turn.invariant.0 c.in-Failed.ensures.moved))

pub returns-in-End-clause-read : goal.returns-in-End-clause-read
returns-in-End-clause-read g c = record {
  turns = _;
  drew = drew_end c.loop-turn.invariant.0 c.in-End.ensures.moved;
  end = c.in-End.ensures.moved.gave.1;
  limit = c.loop-turn.invariant.3;
  faults = c.in-End.ensures.moved.gave.3 ∙ c.loop-turn.invariant.1;
}

pub returns-in-End-clause-turns : goal.returns-in-End-clause-turns
returns-in-End-clause-turns g c = omega (arith, drew_within (drew_end c.loop-turn.invariant.0 c.in-End.ensures.moved))

pub returns-in-Ok-clause-turns : goal.returns-in-Ok-clause-turns
returns-in-Ok-clause-turns g c = omega (arith, drew_within (drew_more c.loop-turn.invariant.0 c.in-Bytes.ensures.moved))

pub returns-in-Err-clause-read : goal.returns-in-Err-clause-read
returns-in-Err-clause-read g c = record {
  bytes = _;
  turns = _;
  drew = drew_more c.loop-turn.invariant.0 c.in-Bytes.ensures.moved;
  faults = c.in-Bytes.ensures.moved.gave.4 ∙ c.loop-turn.invariant.1;
}

pub returns-in-Err-clause-turns : goal.returns-in-Err-clause-turns
returns-in-Err-clause-turns g c = omega (arith, drew_within (drew_more c.loop-turn.invariant.0 c.in-Bytes.ensures.moved))

pub returns-in-Ok-clause-read : goal.returns-in-Ok-clause-read
returns-in-Ok-clause-read g c = record {
  bytes = _;
  turns = _;
  drew = drew_more c.loop-turn.invariant.0 c.in-Bytes.ensures.moved;
  above = omega (arith, c.in-Ok.ensures.len, c.loop-turn.bytes.len, length_taken c.in-Bytes.count c.loop-turn.bytes.items c.take.new.room c.in-Bytes.ensures.moved.gave.1, ap length c.in-Ok.ensures.items);
  faults = c.in-Bytes.ensures.moved.gave.4 ∙ c.loop-turn.invariant.1;
}

pub loop-turn-preserved : goal.loop-turn-preserved
loop-turn-preserved g c =
    let e = c.in-Ok.ensures.items in
    let m = length_taken c.in-Bytes.count c.loop-turn.bytes.items c.take.new.room c.in-Bytes.ensures.moved.gave.1 in
    let n = c.in-Bytes.ensures.moved.gave.0 in
    rw e (
      drew_more c.loop-turn.invariant.0 c.in-Bytes.ensures.moved,
      c.in-Bytes.ensures.moved.gave.4 ∙ c.loop-turn.invariant.1,
      omega (arith, m, n, c.loop-turn.invariant),
      omega (arith, ap length e, c.in-Ok.ensures.len, m),
    )
