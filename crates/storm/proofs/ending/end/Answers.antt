use Rattle.std.proofs.Common.{◌≡◌, ◌++◌, ◌∷◌, [], List, sym, ap, ◌∙◌, subst}
use Rattle.vb_calls.specs.Plain.{Plain}
use Rattle.node_threads.specs.Seats.{Row, row_of}
use Rattle.storm_model.specs.declared.lines.StormLine.{StormLine}
use Rattle.storm_model.specs.Sums.{line_of}
use Rattle.storm.specs.Ending.{EndsWith, Reads}
use Rattle.storm.proofs.Tail.{if_ok, one_reads}
use Rattle.storm.proofs.ending.end.Goals as goal

pub line_after-requires : goal.line_after-requires
line_after-requires g c =
    let row = row_of c.args.slot in
    let rows : c.lend.new.self ≡ row ∷ [] = c.in-Ok.ensures.ok ∙ ap (λ (l : List Row). l ++ row ∷ []) c.new-seats.ensures in
    (c.requires.0, subst (λ (l : List Row). Reads c.args.slot.number l c.requires.0) (sym rows) (one_reads row c.requires.0 c.requires.1))

pub returns-in-Ok : goal.returns-in-Ok
returns-in-Ok g c =
    let row = row_of c.args.slot in
    let rows : c.lend.new.self ≡ row ∷ [] = c.in-Ok.ensures.ok ∙ ap (λ (l : List Row). l ++ row ∷ []) c.new-seats.ensures in
    if_ok (λ (line : StormLine). (vb : Plain) → Reads c.args.slot.number c.lend.new.self vb → line ≡ line_of vb) (EndsWith row) c.line_after.result c.line_after.ensures
    (λ line is vb s. is vb (subst (λ (l : List Row). Reads c.args.slot.number l vb) (sym rows) (one_reads row vb s)))
