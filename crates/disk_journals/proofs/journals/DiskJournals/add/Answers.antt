use Rattle.std.proofs.Common.{◌≡◌, ◌++◌, ◌∷◌, [], sym, ap, ◌∙◌, subst, List}
use Rattle.std.specs.Prelude.{◌==◌, ◌||◌}
use Rattle.disk_journals.specs.Devices.{device, fuse_over}
use Rattle.disk_journals.specs.Seen.{Seen, has_seen}
use Rattle.disk_journals.specs.Stands.{ShelfStands, ShelvesStand, blank_under}
use Rattle.vb_calls.specs.Shelves.{with_shelf_at}
use Rattle.disk_journals.proofs.Asked.{with_one}
use Rattle.disk_journals.proofs.Blank.{blank}
use Rattle.disk_journals.proofs.Places.{at_push, changed_has}
use Rattle.disk_journals.proofs.journals.DiskJournals.add.Goals as goal

pub returns-clause-ok : goal.returns-clause-ok
returns-clause-ok g c = λ fresh shelves stand.
    let dev = device g.D.Disk.storage g.D.Disk.crashes g.D.Disk.armed g.D.Disk.left_by in
    let slot : Seen _ = c.new-slot.result in
    let items = ap (λ (s : List (Seen _)). s ++ slot ∷ []) (sym c.self.view_is) ∙ sym c.in_ok-push.ensures.items in
    let shelf = blank_under (fuse_over (g.D.Disk.armed c.args.disk)) in
    let for : ShelfStands dev slot shelf = subst (λ s. ShelfStands dev s shelf) (sym c.new-slot.ensures) (blank dev c.args.v c.args.disk c.requires.made fresh) in
    subst (λ s. ShelvesStand dev s (with_shelf_at shelves c.args.v shelf)) items
    (with_one dev c.args.self.now (c.args.self.now ++ slot ∷ []) shelves c.args.v slot shelf
    (at_push c.args.self.now c.args.v slot c.requires.fresh (ap (λ (s : Seen _). s.number) c.new-slot.ensures)) stand for)

pub returns-clause-more : goal.returns-clause-more
returns-clause-more g c = λ w.
    let slot : Seen _ = c.new-slot.result in
    let items = ap (λ (s : List (Seen _)). s ++ slot ∷ []) (sym c.self.view_is) ∙ sym c.in_ok-push.ensures.items in
    subst (λ (s : List (Seen _)). has_seen s w ≡ (w == c.args.v || has_seen c.args.self.now w)) items
    (changed_has c.args.self.now (c.args.self.now ++ slot ∷ []) c.args.v slot
    (at_push c.args.self.now c.args.v slot c.requires.fresh (ap (λ (s : Seen _). s.number) c.new-slot.ensures)) w)
