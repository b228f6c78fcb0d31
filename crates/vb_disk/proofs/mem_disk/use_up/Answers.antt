use Rattle.std.proofs.Common.{◌∙◌, sym}
use Rattle.vb_disk.proofs.Readied.{without_found, found_is, ready_is_found}
use Rattle.vb_disk.proofs.mem_disk.use_up.Goals as goal

pub unreachable-requires : goal.unreachable-requires
unreachable-requires c = ready_is_found c.args.at c.args.len c.args.ready.now.items c.requires (rw c.deref.ensures.value at (sym c.place_of.ensures ∙ c.in-None.is))

pub returns-clause-rest : goal.returns-clause-rest
returns-clause-rest c = c.remove.ensures.items ∙ without_found c.args.at c.args.len c.in-Some.place c.args.ready.now.items (rw c.deref.ensures.value at (sym c.place_of.ensures ∙ c.in-Some.is))

pub returns-clause-room : goal.returns-clause-room
returns-clause-room c = found_is c.args.at c.args.len c.in-Some.place c.args.ready.now.items _ (rw c.deref.ensures.value at (sym c.place_of.ensures ∙ c.in-Some.is)) c.remove.ensures.value
