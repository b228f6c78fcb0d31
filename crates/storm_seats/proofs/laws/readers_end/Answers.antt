use Rattle.storm_seats.proofs.Drained.{read_more, read_still, reads_same}
use Rattle.storm_seats.proofs.laws.readers_end.Goals as goal

pub returns : goal.returns
returns c = record { still = read_still; more = read_more; same = λ id other k a b image r ne. reads_same id other k a b image r ne }
