use Rattle.vb_disk.proofs.Readied.{one_is_used, others_stay, none_is_made}
use Rattle.vb_disk.proofs.laws.one_write_is_used_up.Goals as goal

pub returns : goal.returns
returns c = record { one = one_is_used; others = others_stay; none_made = none_is_made }
