use Rattle.std.proofs.Common.{◌≡◌, ◌<◌, ap, sym, subst, ◌∙◌, ◌++◌, take, drop, length, map, Some, arith}
use Rattle.std.specs.Option.{option_copied}
use Rattle.std.proofs.lemmas.List.{with_items_is}
use Rattle.vb_types.specs.declared.stream.Snapshot.{Snapshot}
use Rattle.vb_calls.specs.declared.calls.VbAnswer.TheVariants as answer
use Rattle.vb_calls.specs.State.{quiet_reply}
use Rattle.vb_calls.specs.Streams.{moved_on, need_of, snapshot_of, stream_at}
use Rattle.ckpt_list.specs.Lists.{between, held_of, stop_of}
use Rattle.vbucket.specs.Kept.{Kept, kept_take, sent_items}
use Rattle.vbucket.specs.contracts.vbucket.VBucket as row
use Rattle.cursor_set.specs.Cursors.{place_of}
use Rattle.vbucket.proofs.Feeding.{fed_at, zero_stays, numbered}
use Rattle.vbucket.proofs.Steadying.{may_go, moved_steady, stop_above, took}
use Rattle.vbucket.proofs.vbucket.VBucket.take.Goals as goal

pub advance-requires : goal.advance-requires
advance-requires c =
    let v = c.self.inside in
    let s = c.in-Some.stream.now in
    let there : stream_at c.args.id v.streams.items ≡ Some s = ap (stream_at c.args.id) (sym c.deref.ensures.value) ∙ sym c.stream_of.ensures ∙ ap option_copied c.in-Some.is in
    let stop : stop_of v.list s.place (need_of s) s.sync ≡ Some c.in-Some-whole_end.end = ap (λ n. stop_of v.list s.place n s.sync) (sym c.needed_end-need.ensures) ∙ sym c.whole_end.ensures.stop ∙ c.in-Some-whole_end.is in
    may_go v.list.places c.args.id v.list s.place (need_of s) s.sync c.in-Some-whole_end.end (fed_at v.list.places v.streams.items c.args.id s c.self.invariant.fed there c.if-not-stream.false) stop

pub invariant_of-self : goal.invariant_of-self
invariant_of-self c =
    let v = c.self.inside in
    let s = c.in-Some.stream.now in
    let there : stream_at c.args.id v.streams.items ≡ Some s = ap (stream_at c.args.id) (sym c.deref.ensures.value) ∙ sym c.stream_of.ensures ∙ ap option_copied c.in-Some.is in
    let moved : take v.streams.len (c.move_on.new.streams ++ drop (length c.move_on.new.streams) v.streams.items) ≡ map (moved_on c.args.id c.in-Some-whole_end.end) v.streams.items =
    with_items_is v.streams c.move_on.new.streams (omega (arith, c.move_on.auto.streams, c.deref_mut.ensures.len)) ∙ c.move_on.ensures ∙ ap (map (moved_on c.args.id c.in-Some-whole_end.end)) c.deref_mut.ensures.value in
    let stop : stop_of v.list s.place (need_of s) s.sync ≡ Some c.in-Some-whole_end.end = ap (λ n. stop_of v.list s.place n s.sync) (sym c.needed_end-need.ensures) ∙ sym c.whole_end.ensures.stop ∙ c.in-Some-whole_end.is in
    let above : s.place < c.in-Some-whole_end.end = stop_above v.list s.place (need_of s) s.sync c.in-Some-whole_end.end stop in
    moved_steady v.role v.position.at v.list v.streams.items c.args.id c.in-Some-whole_end.end s c.advance.new.self (take v.streams.len (c.move_on.new.streams ++ drop (length c.move_on.new.streams) v.streams.items)) c.self.invariant there c.if-not-stream.false above c.advance.ensures moved

pub returns-clause-ok : goal.returns-clause-ok
returns-clause-ok c =
    let v = c.self.inside in
    let s = c.in-Some.stream.now in
    let there : stream_at c.args.id v.streams.items ≡ Some s = ap (stream_at c.args.id) (sym c.deref.ensures.value) ∙ sym c.stream_of.ensures ∙ ap option_copied c.in-Some.is in
    let stop : stop_of v.list s.place (need_of s) s.sync ≡ Some c.in-Some-whole_end.end = ap (λ n. stop_of v.list s.place n s.sync) (sym c.needed_end-need.ensures) ∙ sym c.whole_end.ensures.stop ∙ c.in-Some-whole_end.is in
    let moved : take v.streams.len (c.move_on.new.streams ++ drop (length c.move_on.new.streams) v.streams.items) ≡ map (moved_on c.args.id c.in-Some-whole_end.end) v.streams.items =
    with_items_is v.streams c.move_on.new.streams (omega (arith, c.move_on.auto.streams, c.deref_mut.ensures.len)) ∙ c.move_on.ensures ∙ ap (map (moved_on c.args.id c.in-Some-whole_end.end)) c.deref_mut.ensures.value in
    let told : c.told-2.result ≡ quiet_reply (answer.Taken (snapshot_of s (sent_items s (between s.place c.in-Some-whole_end.end (held_of v.list))))) =
    c.told-2.ensures ∙ ap (λ (x : Snapshot). quiet_reply (answer.Taken x)) c.in_ok-snapshot.ensures in
    let ss = take v.streams.len (c.move_on.new.streams ++ drop (length c.move_on.new.streams) v.streams.items) in
    let new : Kept = record { rest = record (row.the_view v).rest { streams = ss }; list = c.advance.new.self } in
    subst (λ (k : Kept). (new, c.told-2.result) ≡ kept_take k c.args.id) c.self.view_is
    (took (row.the_view v) c.args.id c.in-Some-whole_end.end s c.advance.new.self ss c.told-2.result there c.if-not-stream.false stop c.advance.ensures moved told)

pub returns-clause-zero : goal.returns-clause-zero
returns-clause-zero c =
    let v = c.self.inside in
    let s = c.in-Some.stream.now in
    let there : stream_at c.args.id v.streams.items ≡ Some s = ap (stream_at c.args.id) (sym c.deref.ensures.value) ∙ sym c.stream_of.ensures ∙ ap option_copied c.in-Some.is in
    zero_stays v.list c.advance.new.self c.args.id c.in-Some-whole_end.end (numbered v.list.places v.streams.items c.args.id s c.self.invariant.fed there) c.advance.ensures
    ∙ ap (λ (k : Kept). place_of k.list.places 0) c.self.view_is
