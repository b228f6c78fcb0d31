-- each line of a group is one line
use Rattle.std.proofs.Common.{◌≡◌, ℕ, ◌+◌, List, [], ◌∷◌, ◌++◌, length, refl, ap, ◌∙◌, arith}
use Rattle.std.specs.Prelude.{codes, decimal}
use Rattle.std.specs.List.{flat_map}
use Rattle.vb_events.specs.declared.event.Event.{Event}
use Rattle.vb_events.specs.declared.event.Event.TheVariants as event
use Rattle.vb_events.specs.declared.event.Answer.{Answer}
use Rattle.vb_events.specs.declared.event.Answer.TheVariants as answer
use Rattle.vb_events.specs.declared.event.Group.{Group}
use Rattle.script_text.specs.Lines.{ended}
use Rattle.script_text.specs.Transcript as text
use Rattle.dcp_main.specs.Summaries.{newlines}
use Rattle.dcp_main.specs.Sums.{group_lines}
use Rattle.dcp_main.proofs.Newlines.{newlines_both, in_words, words_plain, decimal_plain, hex_text_plain, place_plain, stream_plain, link_plain, extent_plain, parent_plain, role_plain, level_plain, doc_plain, act_plain, log_plain, ask_plain, request_plain, sent_plain, reason_plain, cause_plain, why_plain}

armed_in : (e : Event) → in_words (text.armed_words e) ≡ 0
armed_in (event.CallFailed node) = omega (arith, decimal_plain node)
armed_in (event.NodeStopped node) = omega (arith, decimal_plain node)
armed_in other = refl

counted_in : (e : Event) → in_words (text.counted_words e) ≡ 0
counted_in (event.Batch node vb ss se at count) = omega (arith, place_plain node vb, decimal_plain ss, decimal_plain se, decimal_plain at, decimal_plain count)
counted_in (event.Stat node vb windows items cursors saved high) =
    omega (arith, place_plain node vb, decimal_plain windows, decimal_plain items, decimal_plain cursors, decimal_plain saved, decimal_plain high)
counted_in other = armed_in other

shown_in_words : (e : Event) → in_words (text.shown_words e) ≡ 0
shown_in_words (event.Shown node vb role uuid at ss se docs preps) = omega (arith, place_plain node vb, role_plain role, decimal_plain uuid, extent_plain at ss se docs preps)
shown_in_words (event.Logged node vb log) = omega (arith, place_plain node vb, log_plain log)
shown_in_words (event.Document key doc) = omega (arith, hex_text_plain key, doc_plain doc)
shown_in_words (event.Prepared key seq level) = omega (arith, hex_text_plain key, decimal_plain seq, level_plain level)
shown_in_words other = counted_in other

acknowledged_in : (e : Event) → in_words (text.acknowledged_words e) ≡ 0
acknowledged_in (event.Acknowledged stream node vb seq saved) = omega (arith, stream_plain stream, place_plain node vb, decimal_plain seq, decimal_plain saved)
acknowledged_in (event.Counted stream node vb member seq) = omega (arith, stream_plain stream, place_plain node vb, decimal_plain member, decimal_plain seq)
acknowledged_in other = shown_in_words other

follower_in : (e : Event) → in_words (text.follower_words e) ≡ 0
follower_in (event.Adopted node vb log) = omega (arith, place_plain node vb, log_plain log)
follower_in (event.Ranged node vb ss se) = omega (arith, place_plain node vb, decimal_plain ss, decimal_plain se)
follower_in (event.Got node vb stream change) = omega (arith, place_plain node vb, stream_plain stream, decimal_plain change.seq, act_plain change.key change.act)
follower_in (event.Rolled node vb named to) = omega (arith, place_plain node vb, decimal_plain named, decimal_plain to)
follower_in (event.Ended link reason) = omega (arith, link_plain link, reason_plain reason)
follower_in other = acknowledged_in other

stream_in : (e : Event) → in_words (text.stream_words e) ≡ 0
stream_in (event.Asked stream node vb ask high log answer) = omega (arith, stream_plain stream, place_plain node vb, ask_plain ask, request_plain high log answer)
stream_in (event.Marked stream start end flags) = omega (arith, stream_plain stream, decimal_plain start, decimal_plain end, decimal_plain flags)
stream_in (event.Item stream seq act key) = omega (arith, stream_plain stream, decimal_plain seq, sent_plain act, hex_text_plain key)
stream_in (event.Finished stream reason) = omega (arith, stream_plain stream, decimal_plain reason)
stream_in (event.Stated stream role) = omega (arith, stream_plain stream, role_plain role)
stream_in other = follower_in other

event_in : (e : Event) → in_words (text.event_words e) ≡ 0
event_in (event.Branch node vb uuid parent fork high) = omega (arith, place_plain node vb, decimal_plain uuid, parent_plain parent, decimal_plain fork, decimal_plain high)
event_in (event.Role node vb role) = omega (arith, place_plain node vb, role_plain role)
event_in (event.Changed node vb uuid change) = omega (arith, place_plain node vb, decimal_plain uuid, decimal_plain change.seq, act_plain change.key change.act)
event_in (event.Reply node client bytes) = omega (arith, decimal_plain node, decimal_plain client, hex_text_plain bytes)
event_in (event.Closed node client) = omega (arith, decimal_plain node, decimal_plain client)
event_in other = stream_in other

event_plain : (e : Event) → newlines (text.event_text e) ≡ 0
unfolding text.event_text
event_plain e = words_plain (text.event_words e) (event_in e)

answer_plain : (a : Answer) → newlines (text.answer_text a) ≡ 0
answer_plain answer.Ok = refl
answer_plain (answer.Number number) = words_plain (codes "ok" ∷ decimal number ∷ []) (omega (arith, decimal_plain number))
answer_plain (answer.Pulled frames why) = words_plain (codes "ok" ∷ decimal frames ∷ text.why_text why ∷ []) (omega (arith, decimal_plain frames, why_plain why))
answer_plain (answer.No cause) = words_plain (codes "no" ∷ text.cause_text cause ∷ []) (omega (arith, cause_plain cause))

-- a line and its newline
one_line : (line : List ℕ) → newlines line ≡ 0 → newlines (ended line) ≡ 1
one_line line h = newlines_both line (10 ∷ []) ∙ ap (λ n. n + 1) h

pub event_line : (e : Event) → newlines (ended (text.event_text e)) ≡ 1
event_line e = one_line (text.event_text e) (event_plain e)

events_lines : (events : List Event) → newlines (flat_map (λ e. ended (text.event_text e)) events) ≡ length events
events_lines [] = refl
events_lines (e ∷ events) =
    let rest = flat_map (λ e. ended (text.event_text e)) events in
    omega (arith, newlines_both (ended (text.event_text e)) rest, event_line e, events_lines events)

pub group_told : (g : Group) → newlines (text.group_text g) ≡ group_lines g
unfolding text.group_text
group_told g =
    let head = ended (codes "#" ++ decimal g.line) in
    let events = flat_map (λ e. ended (text.event_text e)) g.events in
    let last = ended (text.answer_text g.answer) in
    let first : newlines head ≡ 1 = one_line (codes "#" ++ decimal g.line) (omega (arith, newlines_both (codes "#") (decimal g.line), decimal_plain g.line)) in
    omega (arith, newlines_both (head ++ events) last, newlines_both head events, first, events_lines g.events, one_line (text.answer_text g.answer) (answer_plain g.answer))
