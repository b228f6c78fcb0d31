use Rattle.std.proofs.Common.{◌≡◌, ap, sym, subst, ◌∙◌, true, Some}
use Rattle.std.specs.Option.{option_copied}
use Rattle.vb_calls.specs.Streams.{is_in_memory, stream_at}
use Rattle.vbucket.specs.Kept.{Kept, SameChanges, floored, kept_place}
use Rattle.vbucket.specs.contracts.vbucket.VBucket as row
use Rattle.vbucket.proofs.Feeding.{moved_same, numbered}
use Rattle.vbucket.proofs.Steadying.{given_steady, placed}
use Rattle.vbucket.proofs.vbucket.VBucket.place.Goals as goal

pub invariant_of-self-2 : goal.invariant_of-self-2
invariant_of-self-2 c =
    let v = c.self.inside in
    let s = c.in-Some.stream.now in
    let there : stream_at c.args.id v.streams.items ≡ Some s = ap (stream_at c.args.id) (sym c.deref.ensures.value) ∙ sym c.stream_of.ensures ∙ ap option_copied c.in-Some.is in
    let memory : is_in_memory (floored (row.the_view v)) s.place ≡ true = ap (λ (k : Kept). is_in_memory (floored k) s.place) c.self.view_is ∙ sym c.is_in_memory.ensures ∙ c.if-not-is_in_memory.false in
    given_steady v.role v.position.at v.list v.streams.items c.args.id s c.give_cursor.new.list c.give_cursor.new.streams.items c.self.invariant there memory c.in_ok-give_cursor.ensures.list c.in_ok-give_cursor.ensures.streams

pub returns-clause-ok : goal.returns-clause-ok
returns-clause-ok c =
    let v = c.self.inside in
    let s = c.in-Some.stream.now in
    let there : stream_at c.args.id v.streams.items ≡ Some s = ap (stream_at c.args.id) (sym c.deref.ensures.value) ∙ sym c.stream_of.ensures ∙ ap option_copied c.in-Some.is in
    let memory : is_in_memory (floored (row.the_view v)) s.place ≡ true = ap (λ (k : Kept). is_in_memory (floored k) s.place) c.self.view_is ∙ sym c.is_in_memory.ensures ∙ c.if-not-is_in_memory.false in
    placed (row.the_view v) c.args.id s c.give_cursor.new.streams.items c.told-2.result there c.if-stream.false memory c.in_ok-give_cursor.ensures.streams c.told-2.ensures ∙ ap (λ k. kept_place k c.args.id) c.self.view_is

pub returns-clause-list : goal.returns-clause-list
returns-clause-list c =
    let v = c.self.inside in
    let s = c.in-Some.stream.now in
    let there : stream_at c.args.id v.streams.items ≡ Some s = ap (stream_at c.args.id) (sym c.deref.ensures.value) ∙ sym c.stream_of.ensures ∙ ap option_copied c.in-Some.is in
    subst (λ (k : Kept). SameChanges k.list c.give_cursor.new.list) c.self.view_is (moved_same v.list c.give_cursor.new.list c.args.id s.place (numbered v.list.places v.streams.items c.args.id s c.self.invariant.fed there) c.in_ok-give_cursor.ensures.list)
