use Rattle.std.proofs.Common.{Bool, true, false, refl, sym, ap, subst, inl, inr}
use Rattle.dcp_producer.specs.Firsts.{as_sent}
use Rattle.dcp_producer.specs.Frames.{marker_flags, marker_next, read_comes, read_up, taken_next}
use Rattle.dcp_producer.specs.Items.{IsSource, MarkerOf, turn_of_it}
use Rattle.dcp_producer.proofs.Firsts.{starts_so}
use Rattle.dcp_producer.proofs.laws.markers_tell_their_source.Goals as goal

source : (disk : Bool) → IsSource disk (marker_flags disk)
source true = inr (refl, refl)
source false = inl (refl, refl)

pub returns-clause-taken : goal.returns-clause-taken
returns-clause-taken c = λ a snapshot reply is.
    subst (λ said. MarkerOf a snapshot (turn_of_it a (taken_next a.served.end.desk.stream a.stream said))) (sym is)
    (record { then = _; start = _; starts = starts_so a.stream snapshot; goes_on = refl; flags = marker_flags snapshot.disk; source = source snapshot.disk; line = refl; frame = refl })

pub returns-clause-read : goal.returns-clause-read
returns-clause-read c = λ a end reading snapshot is. (
  marker_next a.served.end.desk.stream (read_up a.stream) (as_sent a.stream snapshot),
  ap (read_comes a.served.end.desk.stream a.stream) is,
  record { then = _; start = _; starts = starts_so a.stream snapshot; goes_on = refl; flags = marker_flags snapshot.disk; source = source snapshot.disk; line = refl; frame = refl },
)
