use Rattle.std.proofs.Common.{sym, subst}
use Rattle.storm.specs.Clients.{AreAimed}
use Rattle.storm.proofs.Writing.{are_aimed}
use Rattle.storm.proofs.clients.work.Goals as goal

pub write_all-requires : goal.write_all-requires
write_all-requires g c = record { aimed = subst AreAimed (sym c.new-writes.ensures) (are_aimed c.args.plan.now.seed c.args.client.number c.args.plan.now.writes); four = c.requires }
