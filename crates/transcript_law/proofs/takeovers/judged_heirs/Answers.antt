use Rattle.transcript_law.proofs.Words.{refl}
use Rattle.transcript_law.proofs.rows.TakeoverRows.{pends_beside, pends_elsewhere, pends_fallen, pends_following, pends_now, pends_producer, pends_redialed, pends_unmarked, pends_unstated, pends_untaken, rises_before, rises_cut, rises_elsewhere, rises_inside, rises_now, rises_replica, rises_short, rises_unstated, rises_written}
use Rattle.transcript_law.proofs.takeovers.judged_heirs.Goals as goal

pub returns : goal.returns
returns c = record {
  pends = pends_now;
  pends_unstated = pends_unstated;
  pends_following = pends_following;
  pends_untaken = pends_untaken;
  pends_again = λ l. l.another refl;
  pends_elsewhere = pends_elsewhere;
  pends_producer = pends_producer;
  rises = rises_now;
  rises_unstated = rises_unstated;
  rises_replica = rises_replica;
  rises_short = rises_short;
  rises_inside = rises_inside;
  rises_cut = rises_cut;
  rises_again = λ l. l.another refl;
  rises_elsewhere = rises_elsewhere;
  yields = record { another = λ e. cc; anew = λ e. cc; pending = λ e. cc };
  pends_unmarked = pends_unmarked;
  pends_beside = pends_beside;
  pends_redialed = pends_redialed;
  pends_fallen = pends_fallen;
  rises_early = rises_before;
  rises_written = rises_written;
}
