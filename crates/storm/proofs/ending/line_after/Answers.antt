use Rattle.std.proofs.Common.{◌≡◌, ◌∙◌}
use Rattle.vb_calls.specs.Plain.{Plain}
use Rattle.storm_model.specs.declared.lines.StormLine.{StormLine}
use Rattle.storm_model.specs.Sums.{flushed, line_of, told_line}
use Rattle.storm.specs.Ending.{Reads}
use Rattle.storm.proofs.Tail.{if_ok, line_told}
use Rattle.storm.proofs.ending.line_after.Goals as goal

pub shown-requires : goal.shown-requires
shown-requires g c = (c.requires.0, (c.in_ok-high.ensures c.requires.0 c.requires.1).0)

pub read_all-requires : goal.read_all-requires
read_all-requires g c =
    let vb = c.requires.0 in
    (flushed c.in_ok-high.high vb, c.in_ok-flush_all.ensures vb (c.in_ok-docs.ensures vb (c.in_ok-high.ensures vb c.requires.1).0).0)

pub read_all-requires-2 : goal.read_all-requires-2
read_all-requires-2 g c =
    let vb = c.requires.0 in
    let one = c.in_ok-first.ensures (flushed c.in_ok-high.high vb) (c.in_ok-flush_all.ensures vb (c.in_ok-docs.ensures vb (c.in_ok-high.ensures vb c.requires.1).0).0) in
    (one.0, one.1)

pub numbers-requires-2 : goal.numbers-requires-2
numbers-requires-2 g c =
    let vb = c.requires.0 in
    let one = c.in_ok-first.ensures (flushed c.in_ok-high.high vb) (c.in_ok-flush_all.ensures vb (c.in_ok-docs.ensures vb (c.in_ok-high.ensures vb c.requires.1).0).0) in
    let two = c.in_ok-second.ensures one.0 one.1 in
    (two.0, two.1)

pub returns : goal.returns
returns g c =
    if_ok (λ (line : StormLine). line ≡ told_line c.in_ok-high.high c.in_ok-saved.saved c.in_ok-docs.docs c.in_ok-first.first c.in_ok-second.second) (λ (line : StormLine). (vb : Plain) → Reads c.args.v c.args.seats.now vb → line ≡ line_of vb) c.told_line.result c.told_line.ensures
    (λ line is vb r.
    let high = c.in_ok-high.ensures vb r in
    let docs = c.in_ok-docs.ensures vb high.0 in
    let one = c.in_ok-first.ensures (flushed c.in_ok-high.high vb) (c.in_ok-flush_all.ensures vb docs.0) in
    let two = c.in_ok-second.ensures one.0 one.1 in
    let saved = c.in_ok-saved.ensures two.0 two.1 in
    is ∙ line_told vb one.0 two.0 c.in_ok-high.high c.in_ok-saved.saved c.in_ok-docs.docs c.in_ok-first.first c.in_ok-second.second high.1 docs.1 one.2 one.3 two.2 two.3 saved.2)
