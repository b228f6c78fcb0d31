-- where a vBucket tells no stream to go on from its journal, no stream has a backfill that is to be read
use Rattle.std.specs.Prelude.{◌≡◌}
use Rattle.transcript_law.proofs.Words.{Bool, true, false, refl, None}
use Rattle.dcp_producer.specs.Serving.{unread_of}
use Rattle.vb_calls.specs.Streams.{source_by}

-- one that is opened has none
pub none_source : (near : Bool) → unread_of (source_by near) ≡ None
none_source true = refl
none_source false = refl
