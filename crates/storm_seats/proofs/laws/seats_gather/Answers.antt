use Rattle.std.proofs.Common.{ap, subst, arith, sym, ◌≡◌, suc, ◌+◌}
use Rattle.storm_seats.specs.Gathering.{Gathers}
use Rattle.storm_seats.specs.Laws.{Is, last}
use Rattle.storm_seats.proofs.Gathered.{line_stormed, stands_stormed, stormed, taken_in}
use Rattle.storm_seats.proofs.laws.seats_gather.Goals as goal

pub returns : goal.returns
returns c = λ seed clients writes v fits. record {
  next = λ out parts x given u w g. taken_in Is last seed writes v out parts x given u w (subst (λ n. Gathers Is seed writes v n parts x) (let e : out + 1 ≡ suc out = omega arith in e) g);
  all = λ parts x g n. stormed Is last seed clients writes v fits parts x g n;
  stands = λ x s. stands_stormed Is last seed clients writes v fits x s;
  line = λ x s. line_stormed Is last seed clients writes v fits x s;
}
