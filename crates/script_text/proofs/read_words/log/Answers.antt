use Rattle.std.proofs.Common.{◌≡◌, ℕ, List, [], ◌∷◌, map, ap, sym, ◌∙◌, refl, arith, Bor}
use Rattle.std.specs.Prelude.{◌==◌, if◌then◌else◌}
use Rattle.std.specs.List.{slice_split}
use Rattle.std.proofs.lemmas.List.{take_all}
use Rattle.script_text.specs.Taken.{as_entry, as_log}
use Rattle.script_text.proofs.read_words.log.Goals as goal

entries_of_parts : (parts : List (Bor (List ℕ))) → map (λ part. as_entry part.now) parts ≡ map as_entry (map (λ part. part.now) parts)
entries_of_parts [] = refl
entries_of_parts (part ∷ parts) = ap (λ more. as_entry part.now ∷ more) (entries_of_parts parts)

pub returns : goal.returns
unfolding as_log
returns c =
    let items = c.deref-part-items.result.now in
    c.loop-part.invariant
    ∙ ap (map (λ part. as_entry part.now)) (take_all c.loop-part.part-index items (omega arith))
    ∙ entries_of_parts items
    ∙ ap (λ (parts : List (Bor (List ℕ))). map as_entry (map (λ part. part.now) parts)) c.deref-part-items.ensures.value
    ∙ ap (map as_entry) c.in_ok-parts.ensures
    ∙ sym (ap (λ t. if t then [] else map as_entry (slice_split (λ b. b == 44) c.args.word.now)) (sym c.says.ensures ∙ c.if-says.false))
