use Rattle.storm_model.specs.Sums.{opened, storm_new}
use Rattle.storm_model.proofs.AllRead.{behind_stores, same_line}
use Rattle.storm_model.proofs.laws.orders_have_one_line.Goals as goal

pub returns : goal.returns
returns c = record {
  line = λ seed clients writes v fits. same_line seed clients writes v fits;
  stores = λ v log a. behind_stores log (opened (storm_new v)) a;
}
