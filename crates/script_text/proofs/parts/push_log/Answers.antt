use Rattle.std.proofs.Common.{◌∷◌, ◌++◌, ap, sym, ◌∙◌, arith, append_assoc}
use Rattle.std.specs.List.{flat_map}
use Rattle.std.proofs.lemmas.List.{take_all}
use Rattle.script_text.specs.Transcript.{entry_text, log_text}
use Rattle.script_text.proofs.Joins.{joined_on}
use Rattle.script_text.proofs.parts.push_log.Goals as goal

pub returns-clause-ok : goal.returns-clause-ok
returns-clause-ok c =
    let newest = c.in-Some.newest.now in
    let older = c.in-Some.older.now in
    let before = c.args.text.now.items in
    c.loop-entry.invariant
    ∙ ap (λ xs. c.push_entry.new.text.items ++ flat_map (λ entry. 44 ∷ entry_text entry) xs) (take_all c.loop-entry.entry-index older (omega arith))
    ∙ ap (λ text. text ++ flat_map (λ entry. 44 ∷ entry_text entry) older) c.in_ok-push_entry.ensures.ok
    ∙ append_assoc before (32 ∷ entry_text newest) (flat_map (λ entry. 44 ∷ entry_text entry) older)
    ∙ ap (λ text. before ++ 32 ∷ text) (sym (joined_on 44 entry_text newest older))
    ∙ ap (λ log. before ++ 32 ∷ log_text log) (sym c.in-Some.ensures.cases.0)
