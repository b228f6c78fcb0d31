-- vBuckets that are given up, in rows
use Rattle.std.proofs.Common.{refl}
use Rattle.dcp_producer.specs.Giving.{given_up}
use Rattle.node_core.specs.GivingRows.{GivenInNumbers}

pub given_in_numbers : GivenInNumbers
unfolding given_up
given_in_numbers = record {
  given = refl;
  stream = refl;
  other = refl;
  told = refl;
  ends = refl;
  stays = refl;
  unasked = refl;
  refused = refl;
  several = refl;
}
