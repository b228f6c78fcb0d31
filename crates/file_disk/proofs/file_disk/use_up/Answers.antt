use Rattle.std.proofs.Common.{◌∙◌, sym}
use Rattle.vb_disk.proofs.Readied.{without_found, ready_is_found}
use Rattle.file_disk.proofs.file_disk.use_up.Goals as goal

pub unreachable-requires : goal.unreachable-requires
unreachable-requires c = ready_is_found c.args.at c.args.len c.args.ready.now.items c.requires (rw c.deref.ensures.value at (sym c.place_of.ensures ∙ c.in-None.is))

pub returns : goal.returns
returns c = c.remove.ensures.items ∙ without_found c.args.at c.args.len c.in-Some.place c.args.ready.now.items (rw c.deref.ensures.value at (sym c.place_of.ensures ∙ c.in-Some.is))
