use Rattle.std.proofs.Common.{sym, ap, ◌∙◌, refl}
use Rattle.disk_journals.specs.Seen.{Seen, flush_of}
use Rattle.flusher.specs.declared.flusher.Flusher.TheVariants as flusher
use Rattle.vb_calls.specs.Shelves.{Out}
use Rattle.disk_journals.specs.Devices.{device}
use Rattle.disk_journals.proofs.Asked.{placed_keeps}
use Rattle.disk_journals.proofs.Places.{seen_none, flush_here, flush_now}
use Rattle.disk_journals.proofs.Saved.{is_idle}
use Rattle.disk_journals.proofs.journals.DiskJournals.put.Goals as goal

pub put-requires-clause-idle : goal.put-requires-clause-idle
put-requires-clause-idle g c =
    is_idle c.index_mut.result.now.flusher
    (sym (flush_here c.args.self.now c.self.inside.slots.items c.args.v c.in-Some.at c.index_mut.result.now c.in-Some.ensures.first c.self.view_is c.index_mut.ensures.value) ∙ c.requires.idle)

pub returns-in-None-clause-none : goal.returns-in-None-clause-none
returns-in-None-clause-none g c = (seen_none c.args.self.now c.args.v c.in-None.ensures.first, refl)

pub returns-in-Some-clause-there : goal.returns-in-Some-clause-there
returns-in-Some-clause-there g c =
    flush_now c.args.self.now c.self.inside.slots.items c.args.v c.in-Some.at c.index_mut.result.now c.in-Some.ensures.first c.self.view_is c.index_mut.ensures.value c.put.new.self
    (ap (λ (s : Seen _). s.number) c.put.ensures)
    ∙ ap (λ (s : Seen _). flush_of s.flusher) c.put.ensures

pub returns-in-Some-clause-kept : goal.returns-in-Some-clause-kept
returns-in-Some-clause-kept g c =
    placed_keeps (device g.D.Disk.storage g.D.Disk.crashes g.D.Disk.armed g.D.Disk.left_by) c.args.self.now c.self.inside.slots.items c.args.v c.in-Some.at c.index_mut.result.now c.put.new.self (Out c.args.batch) (flusher.Out c.args.batch)
    c.in-Some.ensures.first c.self.view_is c.index_mut.ensures.value refl c.put.ensures
