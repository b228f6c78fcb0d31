use Rattle.std.proofs.Common.{◌≡◌, ◌≤◌, [], ap, sym, subst, ◌∙◌, arith}
use Rattle.checkpoint.specs.Checkpoints.{ckpt_last, items_weight}
use Rattle.ckpt_list.specs.Lists.{Ckpts}
use Rattle.ckpt_list.specs.Windows.{CanSeal, Sealed, queued_all}
use Rattle.ckpt_list.specs.Windows.{sealed_behind}
use Rattle.std.specs.List.{fold}
use Rattle.ckpt_list.proofs.Seals.{moved}
use Rattle.ckpt_list.proofs.Queues.{count_light, filling, full_can_seal, full_sealed, none_left, open_only}
use Rattle.ckpt_list.proofs.ckpt_list.CkptList.queue_all.Goals as goal

pub overflow_add-most : goal.overflow_add-most
overflow_add-most c =
    let light : items_weight c.self.inside.newest.items ≤ 33554432 = c.last-last.ensures.light in
    omega (arith, count_light c.self.inside.newest.items, light, c.len.ensures, c.len-2.ensures, c.args.changes.small, c.args.changes.ok)

pub invariant_of-self-then-windows-eq0 : goal.invariant_of-self-then-windows-eq0
invariant_of-self-then-windows-eq0 c =
    let v = c.self.inside in
    let l : Ckpts = record { sealed = v.sealed.items; items = v.items.items; newest = v.newest; places = v.cursors; floor = v.floor } in
    let f = filling l c.args.self.now c.args.changes.items c.in_ok-full.full.items c.put_all.new.newest c.self.invariant.sound c.self.view_is c.requires c.in_ok-full.ensures.ok in
    let none : c.in_ok-full.full.items ≡ [] = none_left c.in_ok-full.full.items (omega (arith, c.in_ok-full.full.ok, c.len-windows.ensures, c.if-windows-eq0.true)) in
    (open_only l v.wholes.items c.args.changes.items c.in_ok-full.full.items c.put_all.new.newest c.self.invariant f none).0

pub returns-then-windows-eq0-clause-ok : goal.returns-then-windows-eq0-clause-ok
returns-then-windows-eq0-clause-ok c =
    let v = c.self.inside in
    let l : Ckpts = record { sealed = v.sealed.items; items = v.items.items; newest = v.newest; places = v.cursors; floor = v.floor } in
    let f = filling l c.args.self.now c.args.changes.items c.in_ok-full.full.items c.put_all.new.newest c.self.invariant.sound c.self.view_is c.requires c.in_ok-full.ensures.ok in
    let none : c.in_ok-full.full.items ≡ [] = none_left c.in_ok-full.full.items (omega (arith, c.in_ok-full.full.ok, c.len-windows.ensures, c.if-windows-eq0.true)) in
    (open_only l v.wholes.items c.args.changes.items c.in_ok-full.full.items c.put_all.new.newest c.self.invariant f none).1 ∙ ap (λ m. queued_all m c.args.changes.items) c.self.view_is

pub reopen-requires : goal.reopen-requires
reopen-requires c =
    let v = c.self.inside in
    let l : Ckpts = record { sealed = v.sealed.items; items = v.items.items; newest = v.newest; places = v.cursors; floor = v.floor } in
    let f = filling l c.args.self.now c.args.changes.items c.in_ok-full.full.items c.put_all.new.newest c.self.invariant.sound c.self.view_is c.requires c.in_ok-full.ensures.ok in
    ap ckpt_last (f.back c.last-last.result c.last-last.ensures.last) ∙ sym c.last-last.ensures.last

pub invariant_of-self-in-Err : goal.invariant_of-self-in-Err
invariant_of-self-in-Err c =
    let v = c.self.inside in
    let l : Ckpts = record { sealed = v.sealed.items; items = v.items.items; newest = v.newest; places = v.cursors; floor = v.floor } in
    let f = filling l c.args.self.now c.args.changes.items c.in_ok-full.full.items c.put_all.new.newest c.self.invariant.sound c.self.view_is c.requires c.in_ok-full.ensures.ok in
    let back : c.reopen.new.newest ≡ v.newest = c.reopen.ensures ∙ f.back c.last-last.result c.last-last.ensures.last in
    let room = c.make_room.ensures in
    let same : l ≡ record { sealed = c.make_room.new.sealed.items; items = c.make_room.new.items.items; newest = c.reopen.new.newest; places = v.cursors; floor = v.floor } =
    λ i. record { sealed = (sym room.sealed) i; items = (sym room.items) i; newest = (sym back) i; places = v.cursors; floor = v.floor } in
    moved l _ _ _ same (sym room.wholes) c.self.invariant

pub returns-in-Err-clause-err : goal.returns-in-Err-clause-err
returns-in-Err-clause-err c =
    let v = c.self.inside in
    let l : Ckpts = record { sealed = v.sealed.items; items = v.items.items; newest = v.newest; places = v.cursors; floor = v.floor } in
    let f = filling l c.args.self.now c.args.changes.items c.in_ok-full.full.items c.put_all.new.newest c.self.invariant.sound c.self.view_is c.requires c.in_ok-full.ensures.ok in
    let back : c.reopen.new.newest ≡ v.newest = c.reopen.ensures ∙ f.back c.last-last.result c.last-last.ensures.last in
    let room = c.make_room.ensures in
    (λ i. record { sealed = room.sealed i; items = room.items i; newest = back i; places = v.cursors; floor = v.floor }) ∙ c.self.view_is

pub seal_all-requires-clause-items_room : goal.seal_all-requires-clause-items_room
seal_all-requires-clause-items_room c =
    let v = c.self.inside in
    let l : Ckpts = record { sealed = v.sealed.items; items = v.items.items; newest = v.newest; places = v.cursors; floor = v.floor } in
    let f = filling l c.args.self.now c.args.changes.items c.in_ok-full.full.items c.put_all.new.newest c.self.invariant.sound c.self.view_is c.requires c.in_ok-full.ensures.ok in
    omega (arith, f.count, c.len.ensures, c.len-2.ensures, c.args.changes.ok, c.in_default.ensures.items_room)

pub seal_all-requires-clause-can : goal.seal_all-requires-clause-can
seal_all-requires-clause-can c =
    let v = c.self.inside in
    let l : Ckpts = record { sealed = v.sealed.items; items = v.items.items; newest = v.newest; places = v.cursors; floor = v.floor } in
    let f = filling l c.args.self.now c.args.changes.items c.in_ok-full.full.items c.put_all.new.newest c.self.invariant.sound c.self.view_is c.requires c.in_ok-full.ensures.ok in
    subst (λ ends. CanSeal ends c.in_ok-full.full.items) (sym c.make_room.ensures.wholes) (full_can_seal l v.wholes.items c.args.changes.items c.in_ok-full.full.items c.put_all.new.newest c.self.invariant f)

pub invariant_of-self-2 : goal.invariant_of-self-2
invariant_of-self-2 c =
    let v = c.self.inside in
    let l : Ckpts = record { sealed = v.sealed.items; items = v.items.items; newest = v.newest; places = v.cursors; floor = v.floor } in
    let f = filling l c.args.self.now c.args.changes.items c.in_ok-full.full.items c.put_all.new.newest c.self.invariant.sound c.self.view_is c.requires c.in_ok-full.ensures.ok in
    let room = c.make_room.ensures in
    let old : Sealed = record { spans = v.sealed.items; items = v.items.items; ends = v.wholes.items } in
    let kept : record { spans = c.make_room.new.sealed.items; items = c.make_room.new.items.items; ends = c.make_room.new.wholes.items } ≡ old = λ i. record { spans = room.sealed i; items = room.items i; ends = room.wholes i } in
    let s : Sealed = record { spans = c.seal_all.new.sealed.items; items = c.seal_all.new.items.items; ends = c.seal_all.new.wholes.items } in
    let made : s ≡ fold sealed_behind old c.in_ok-full.full.items = c.seal_all.ensures.sealed ∙ ap (λ (t : Sealed). fold sealed_behind t c.in_ok-full.full.items) kept in
    (full_sealed l v.wholes.items c.args.changes.items c.in_ok-full.full.items c.put_all.new.newest s c.self.invariant f c.seal_all.ensures.light made).0

pub returns-clause-ok : goal.returns-clause-ok
returns-clause-ok c =
    let v = c.self.inside in
    let l : Ckpts = record { sealed = v.sealed.items; items = v.items.items; newest = v.newest; places = v.cursors; floor = v.floor } in
    let f = filling l c.args.self.now c.args.changes.items c.in_ok-full.full.items c.put_all.new.newest c.self.invariant.sound c.self.view_is c.requires c.in_ok-full.ensures.ok in
    let room = c.make_room.ensures in
    let old : Sealed = record { spans = v.sealed.items; items = v.items.items; ends = v.wholes.items } in
    let kept : record { spans = c.make_room.new.sealed.items; items = c.make_room.new.items.items; ends = c.make_room.new.wholes.items } ≡ old = λ i. record { spans = room.sealed i; items = room.items i; ends = room.wholes i } in
    let s : Sealed = record { spans = c.seal_all.new.sealed.items; items = c.seal_all.new.items.items; ends = c.seal_all.new.wholes.items } in
    let made : s ≡ fold sealed_behind old c.in_ok-full.full.items = c.seal_all.ensures.sealed ∙ ap (λ (t : Sealed). fold sealed_behind t c.in_ok-full.full.items) kept in
    (full_sealed l v.wholes.items c.args.changes.items c.in_ok-full.full.items c.put_all.new.newest s c.self.invariant f c.seal_all.ensures.light made).1 ∙ ap (λ m. queued_all m c.args.changes.items) c.self.view_is
