use Rattle.std.proofs.Common.{sym, ap, ◌∙◌}
use Rattle.disk_journals.specs.Seen.{stage_of}
use Rattle.disk_journals.proofs.Places.{flush_none, flush_here}
use Rattle.disk_journals.proofs.journals.DiskJournals.stage.Goals as goal

pub returns-in-None : goal.returns-in-None
returns-in-None g c = sym (ap stage_of (flush_none c.args.self.now c.args.v c.in-None.ensures.first))

pub returns-in-Some : goal.returns-in-Some
returns-in-Some g c =
    c.stage.ensures
    ∙ ap stage_of (sym (flush_here c.args.self.now c.self.inside.slots.items c.args.v c.in-Some.at c.index.result.now c.in-Some.ensures.first c.self.view_is c.index.ensures))
