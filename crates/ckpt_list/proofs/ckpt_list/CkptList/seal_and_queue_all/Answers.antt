use Rattle.std.proofs.Common.{◌≡◌, ℕ, ◌<◌, ◌≤◌, List, [], ◌++◌, length, ap, sym, subst, ◌∙◌, arith, length-append}
use Rattle.std.specs.Prelude.{option_to_list}
use Rattle.std.specs.List.{All, fold}
use Rattle.std.specs.List.Sorted.{IsNonDecreasingBy}
use Rattle.vb_types.specs.declared.change.Change.{Change}
use Rattle.checkpoint.specs.Checkpoints.{Ckpt, ckpt_last, ckpt_span, empty_ckpt, items_weight}
use Rattle.ckpt_list.specs.Lists.{Ckpts, sealed_list}
use Rattle.ckpt_list.specs.Sound.{HasWholes}
use Rattle.ckpt_list.specs.Windows.{CanSeal, Sealed, ends_behind, put_in, queued_all, sealed_behind}
use Rattle.ckpt_list.proofs.Seals.{sealed_on, sealed_sound, wholes_below, wholes_sorted}
use Rattle.ckpt_list.proofs.Queues.{Filling, count_light, ends_count, filling, full_can_seal, full_sealed, span_count}
use Rattle.ckpt_list.proofs.ckpt_list.CkptList.seal_and_queue_all.Goals as goal

pub overflow_add-most : goal.overflow_add-most
overflow_add-most c =
    let light : items_weight c.self.inside.newest.items ≤ 33554432 = c.last-last.ensures.light in
    omega (arith, count_light c.self.inside.newest.items, light, c.len.ensures, c.len-2.ensures, c.args.changes.small, c.args.changes.ok)

pub seal_behind-requires-clause-rise : goal.seal_behind-requires-clause-rise
seal_behind-requires-clause-rise c = subst (IsNonDecreasingBy (λ (e : ℕ). e)) (sym (c.make_room.ensures.wholes ∙ c.self.invariant.wholes)) (wholes_sorted _ c.self.invariant.sound)

pub seal_behind-requires-clause-below : goal.seal_behind-requires-clause-below
seal_behind-requires-clause-below c = λ w at. subst (All (λ e. e < w.last)) (sym (c.make_room.ensures.wholes ∙ c.self.invariant.wholes)) (wholes_below _ w c.self.invariant.sound at)

pub seal_all-requires-clause-sealed_room : goal.seal_all-requires-clause-sealed_room
seal_all-requires-clause-sealed_room c =
    let put = c.seal_behind.ensures in
    omega (arith, ap length put.sealed, span_count c.make_room.new.sealed.items (ckpt_span c.self.inside.newest), c.in_ok-make_room.ensures.sealed_room, put.room.0, c.in_ok-full.full.ok, c.len-3.ensures)

pub seal_all-requires-clause-items_room : goal.seal_all-requires-clause-items_room
seal_all-requires-clause-items_room c =
    let v = c.self.inside in
    let l : Ckpts = record { sealed = v.sealed.items; items = v.items.items; newest = v.newest; places = v.cursors; floor = v.floor } in
    let all : List Change = c.args.changes.items in
    let full : List Ckpt = c.in_ok-full.full.items in
    let k : Ckpt = c.put_all.new.newest in
    let fresh : c.new-newest.result ≡ empty_ckpt (ckpt_last v.newest) v.newest.origin = c.new-newest.ensures ∙ (λ i. empty_ckpt (c.last-last.ensures.last i) (c.origin.ensures i)) in
    let f : Filling (sealed_list l) all full k =
    filling (sealed_list l) (sealed_list c.args.self.now) all full k (sealed_sound l v.wholes.items c.self.invariant.sound c.self.invariant.wholes).0 (ap sealed_list c.self.view_is) c.requires
    (c.in_ok-full.ensures.ok ∙ ap (λ (n : Ckpt). fold put_in ([], n) all) fresh) in
    let put = c.seal_behind.ensures in
    omega (arith, f.count, ap length put.items, length-append c.make_room.new.items.items v.newest.items, c.len.ensures, c.len-2.ensures, c.args.changes.ok, c.in_ok-make_room.ensures.items_room, put.room.1)

pub seal_all-requires-clause-wholes_room : goal.seal_all-requires-clause-wholes_room
seal_all-requires-clause-wholes_room c =
    let put = c.seal_behind.ensures in
    omega (arith, ap length put.wholes, ends_count c.make_room.new.wholes.items (ckpt_span c.self.inside.newest), c.in_ok-make_room.ensures.wholes_room, put.room.2, c.in_ok-full.full.ok, c.len-3.ensures)

pub seal_all-requires-clause-can : goal.seal_all-requires-clause-can
seal_all-requires-clause-can c =
    let v = c.self.inside in
    let l : Ckpts = record { sealed = v.sealed.items; items = v.items.items; newest = v.newest; places = v.cursors; floor = v.floor } in
    let all : List Change = c.args.changes.items in
    let full : List Ckpt = c.in_ok-full.full.items in
    let k : Ckpt = c.put_all.new.newest in
    let fresh : c.new-newest.result ≡ empty_ckpt (ckpt_last v.newest) v.newest.origin = c.new-newest.ensures ∙ (λ i. empty_ckpt (c.last-last.ensures.last i) (c.origin.ensures i)) in
    let f : Filling (sealed_list l) all full k =
    filling (sealed_list l) (sealed_list c.args.self.now) all full k (sealed_sound l v.wholes.items c.self.invariant.sound c.self.invariant.wholes).0 (ap sealed_list c.self.view_is) c.requires
    (c.in_ok-full.ensures.ok ∙ ap (λ (n : Ckpt). fold put_in ([], n) all) fresh) in
    let put = c.seal_behind.ensures in
    let ends : List ℕ = ends_behind (ckpt_span v.newest) v.wholes.items in
    subst (λ es. CanSeal es full) (sym (put.wholes ∙ ap (ends_behind (ckpt_span v.newest)) c.make_room.ensures.wholes)) (full_can_seal (sealed_list l) ends all full k (sealed_on l v.wholes.items c.self.invariant put.light) f)

pub invariant_of-self-2 : goal.invariant_of-self-2
invariant_of-self-2 c =
    let v = c.self.inside in
    let l : Ckpts = record { sealed = v.sealed.items; items = v.items.items; newest = v.newest; places = v.cursors; floor = v.floor } in
    let all : List Change = c.args.changes.items in
    let full : List Ckpt = c.in_ok-full.full.items in
    let k : Ckpt = c.put_all.new.newest in
    let fresh : c.new-newest.result ≡ empty_ckpt (ckpt_last v.newest) v.newest.origin = c.new-newest.ensures ∙ (λ i. empty_ckpt (c.last-last.ensures.last i) (c.origin.ensures i)) in
    let f : Filling (sealed_list l) all full k =
    filling (sealed_list l) (sealed_list c.args.self.now) all full k (sealed_sound l v.wholes.items c.self.invariant.sound c.self.invariant.wholes).0 (ap sealed_list c.self.view_is) c.requires
    (c.in_ok-full.ensures.ok ∙ ap (λ (n : Ckpt). fold put_in ([], n) all) fresh) in
    let put = c.seal_behind.ensures in
    let room = c.make_room.ensures in
    let ends : List ℕ = ends_behind (ckpt_span v.newest) v.wholes.items in
    let old : Sealed = record { spans = (sealed_list l).sealed; items = (sealed_list l).items; ends = ends } in
    let kept : record { spans = c.seal_behind.new.sealed.items; items = c.seal_behind.new.items.items; ends = c.seal_behind.new.wholes.items } ≡ old = λ i. record {
      spans = (put.sealed ∙ ap (λ ws. ws ++ option_to_list (ckpt_span v.newest)) room.sealed) i;
      items = (put.items ∙ ap (λ xs. xs ++ v.newest.items) room.items) i;
      ends = (put.wholes ∙ ap (ends_behind (ckpt_span v.newest)) room.wholes) i;
    } in
    let s : Sealed = record { spans = c.seal_all.new.sealed.items; items = c.seal_all.new.items.items; ends = c.seal_all.new.wholes.items } in
    let made : s ≡ fold sealed_behind old full = c.seal_all.ensures.sealed ∙ ap (λ (t : Sealed). fold sealed_behind t full) kept in
    let whole : HasWholes (sealed_list l) ends = sealed_on l v.wholes.items c.self.invariant put.light in
    (full_sealed (sealed_list l) ends all full k s whole f c.seal_all.ensures.light made).0

pub returns-clause-ok : goal.returns-clause-ok
returns-clause-ok c =
    let v = c.self.inside in
    let l : Ckpts = record { sealed = v.sealed.items; items = v.items.items; newest = v.newest; places = v.cursors; floor = v.floor } in
    let all : List Change = c.args.changes.items in
    let full : List Ckpt = c.in_ok-full.full.items in
    let k : Ckpt = c.put_all.new.newest in
    let fresh : c.new-newest.result ≡ empty_ckpt (ckpt_last v.newest) v.newest.origin = c.new-newest.ensures ∙ (λ i. empty_ckpt (c.last-last.ensures.last i) (c.origin.ensures i)) in
    let f : Filling (sealed_list l) all full k =
    filling (sealed_list l) (sealed_list c.args.self.now) all full k (sealed_sound l v.wholes.items c.self.invariant.sound c.self.invariant.wholes).0 (ap sealed_list c.self.view_is) c.requires
    (c.in_ok-full.ensures.ok ∙ ap (λ (n : Ckpt). fold put_in ([], n) all) fresh) in
    let put = c.seal_behind.ensures in
    let room = c.make_room.ensures in
    let ends : List ℕ = ends_behind (ckpt_span v.newest) v.wholes.items in
    let old : Sealed = record { spans = (sealed_list l).sealed; items = (sealed_list l).items; ends = ends } in
    let kept : record { spans = c.seal_behind.new.sealed.items; items = c.seal_behind.new.items.items; ends = c.seal_behind.new.wholes.items } ≡ old = λ i. record {
      spans = (put.sealed ∙ ap (λ ws. ws ++ option_to_list (ckpt_span v.newest)) room.sealed) i;
      items = (put.items ∙ ap (λ xs. xs ++ v.newest.items) room.items) i;
      ends = (put.wholes ∙ ap (ends_behind (ckpt_span v.newest)) room.wholes) i;
    } in
    let s : Sealed = record { spans = c.seal_all.new.sealed.items; items = c.seal_all.new.items.items; ends = c.seal_all.new.wholes.items } in
    let made : s ≡ fold sealed_behind old full = c.seal_all.ensures.sealed ∙ ap (λ (t : Sealed). fold sealed_behind t full) kept in
    let whole : HasWholes (sealed_list l) ends = sealed_on l v.wholes.items c.self.invariant put.light in
    (full_sealed (sealed_list l) ends all full k s whole f c.seal_all.ensures.light made).1 ∙ ap (λ (m : Ckpts). queued_all (sealed_list m) all) c.self.view_is
