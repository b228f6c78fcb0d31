-- streams that are to be given their first snapshot, or a later one, and vBuckets that feed one
use Rattle.std.specs.Prelude.{ℕ, Bool, false, true, [], ◌∷◌}
use Rattle.vb_calls.specs.declared.stream.Stream.{Stream}
use Rattle.vb_calls.specs.Spans.{no_spans}
use Rattle.vb_calls.specs.State.{Plain}

-- a stream that was asked for from `start` in the snapshot from ss to se, and was given nothing yet
abbrev pub asked_for : Bool → ℕ → ℕ → ℕ → Stream
asked_for sync start ss se = record {
  id = 7;
  ask = record { flags = 0; start = start; end = 100; uuid = 9; ss = ss; se = se };
  sync = sync;
  place = start;
  cursor = true;
  taken = false;
}

-- the same stream once it was given all up to a seqno
abbrev pub given_to : ℕ → Stream → Stream
given_to seq s = record s { place = seq; taken = true }

-- that stream at a place, with a cursor or without
abbrev pub standing : Bool → ℕ → Stream
standing cursor place = record (asked_for false 0 0 0) { place = place; cursor = cursor; taken = true }

-- a vBucket whose memory begins at 5, with no changes, that feeds this stream alone
abbrev pub feeding : Plain → Bool → ℕ → Plain
feeding vb cursor place = record vb { floor = 5; held = []; spans = no_spans; streams = standing cursor place ∷ [] }
