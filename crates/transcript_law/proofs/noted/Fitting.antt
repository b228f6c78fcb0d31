-- lines name the branches that they make, and none but an `up` lets a link continue
use Rattle.std.specs.Prelude.{◌≡◌, ◌∷◌, ◌++◌, ◌==◌, ◌⊎◌, if◌then◌else◌}
use Rattle.transcript_law.proofs.Words.{ℕ, Bool, true, false, List, [], refl, ap, sym, ◌∙◌, subst, inl, inr, ⊎_elim, and_parts, eqb-true, Option, Some, None, Cause, Chronicle, Event, StreamName, after_line, first_cause}
use Rattle.transcript_law.proofs.noted.Freed.{LineFits, LinesFit}
use Rattle.transcript_law.proofs.verbs.Untaken.{is_beside}
use Rattle.transcript_law.specs.Asked.{AreAmong, id_of_line, ids_in, is_turn, turns_in}
use Rattle.transcript_law.specs.Tellings.{are_all}
use Rattle.vb_types.specs.declared.stream.AskAnswer.TheVariants as ask_answer

-- no id of a branch is 0
abbrev pub AreNamed : List ℕ → Type 0
AreNamed [] = Unit {0}
AreNamed (id ∷ ids) = (id ≡ 0 → ⊥) × AreNamed ids

-- no line lets a link continue
abbrev pub is_ungranting : Event → Bool
is_ungranting (Event.Asked (StreamName.Link l) n v ask high log ask_answer.Go) = false
is_ungranting other = true

line_fits : (r : Chronicle) (line : Event) → is_ungranting line ≡ true → AreNamed (id_of_line line) → LineFits r line
line_fits r (Event.Branch n v uuid parent fork high) e named = named.0
line_fits r (Event.Asked (StreamName.Link l) n v ask high log ask_answer.Go) e named = cc
line_fits r other e named = tt

named_parts : (xs ys : List ℕ) → AreNamed (xs ++ ys) → AreNamed xs × AreNamed ys
named_parts [] ys n = (tt, n)
named_parts (x ∷ xs) ys n = let p = named_parts xs ys n.1 in ((n.0, p.0), p.1)

pub lines_fit : (r : Chronicle) (lines : List Event) → are_all is_ungranting lines ≡ true → AreNamed (ids_in lines) → LinesFit r lines
lines_fit r [] a named = tt
lines_fit r (line ∷ lines) a named =
    let p = and_parts (is_ungranting line) (are_all is_ungranting lines) a in let n = named_parts (id_of_line line) (ids_in lines) named in
    (line_fits r line p.0 n.0, lines_fit (after_line r line) lines p.1 n.1)

-- ---- by what lines tell of branches

-- of ids among others that are no 0 none is
pub among_named : (ids words : List ℕ) → AreAmong ids words → AreNamed words → AreNamed ids
among_named [] words a n = tt
among_named (id ∷ ids) [] a n = absurd a
among_named (id ∷ ids) (word ∷ words) (inl h) n = ((λ z. n.0 (sym h.0 ∙ z)), among_named ids words h.1 n.1)
among_named (id ∷ ids) (word ∷ words) (inr l) n = among_named (id ∷ ids) words l n.1

id_turn : (line : Event) → is_turn line ≡ false → id_of_line line ≡ []
id_turn (Event.Branch n v uuid parent fork high) e = cc
id_turn other e = refl

-- the ids are those of the lines of branches and roles
pub ids_turn : (lines : List Event) → ids_in lines ≡ ids_in (turns_in lines)
ids_turn [] = refl
ids_turn (line ∷ lines) = by (is_turn line) refl (ids_turn lines)
  where
    by : (b : Bool) → is_turn line ≡ b → ids_in lines ≡ ids_in (turns_in lines) → id_of_line line ++ ids_in lines ≡ ids_in (if b then line ∷ turns_in lines else turns_in lines)
    by true e rest = ap (λ ids. id_of_line line ++ ids) rest
    by false e rest = ap (λ ids. ids ++ ids_in lines) (id_turn line e) ∙ rest

-- where a cause to refuse a line holds, a first one does
pub holds_first : (front back : List (Bool × Cause)) (b : Bool) (why : Cause) → first_cause (front ++ (b, why) ∷ back) ≡ None → b ≡ false
holds_first [] back true why e = cc
holds_first [] back false why e = refl
holds_first ((true, other) ∷ front) back b why e = cc
holds_first ((false, other) ∷ front) back b why e = holds_first front back b why e
