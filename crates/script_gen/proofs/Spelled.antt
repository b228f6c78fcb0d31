-- the lines of a generated script say its verbs
use Rattle.std.proofs.Common.{◌≡◌, ℕ, zero, suc, ◌+◌, ◌%◌, ◌^◌, ◌<◌, Bool, true, false, List, [], ◌∷◌, ◌++◌, refl, ap, sym, ◌∙◌, subst, inl, inr, append_assoc, append-nil, add-one, arith}
use Rattle.std.specs.Prelude.{◌==◌, ◌||◌, if◌then◌else◌, codes}
use Rattle.std.specs.Fmt.{digits}
use Rattle.std.specs.List.{AllZip}
use Rattle.std.proofs.lemmas.Bool.{and_from, eq-eqb, cases_eq, ne_eqb}
use Rattle.std.proofs.lemmas.List.Folds.{list_all-append}
use Rattle.mcbp_frame.specs.Spelling.{spelling}
use Rattle.script_text.specs.Sayings.{Says}
use Rattle.script_text.specs.Scripts.{IsScript}
use Rattle.script_text.specs.declared.verb.Verb.{Verb}
use Rattle.script_gen.specs.Writes.{stepped, write_request, write_verb}
use Rattle.script_gen.specs.Scripts.{opening, carrying, closing, behind_write, writes_from, numbered, gen_verbs, gen_script}
use Rattle.script_gen.specs.Texts.{word_at, write_line, opening_lines, carrying_lines, closing_lines, lines_of_write, lines_to, gen_text}
use Rattle.script_gen.proofs.Bytes.{write_bytes, hex_of_write, write_hex, hex_plain}
use Rattle.script_gen.proofs.Said.{is_plain, are_plain, make_script}

-- ---- lines and verbs, side by side

abbrev Spoken : List (List ℕ) → List Verb → Type 0
Spoken lines vs = AllZip Says lines vs

spoken_on : (a b : List (List ℕ)) (vs ws : List Verb) → Spoken a vs → Spoken b ws → Spoken (a ++ b) (vs ++ ws)
spoken_on [] b [] ws h k = k
spoken_on [] b (v ∷ vs) ws h k = absurd h
spoken_on (line ∷ a) b [] ws h k = absurd h
spoken_on (line ∷ a) b (v ∷ vs) ws h k = (h.0, spoken_on a b vs ws h.1 k)

plain_on : (a b : List (List ℕ)) → are_plain a ≡ true → are_plain b ≡ true → are_plain (a ++ b) ≡ true
plain_on a b h k = list_all-append is_plain a b ∙ and_from (are_plain a) (are_plain b) h k

-- ---- the lines that are always the same

opening_spoken : Spoken opening_lines opening
unfolding digits
opening_spoken =
    (search arith, (search arith, (search arith, (search arith, (((omega arith, omega arith, tt), ([], refl, refl)), (search arith, (search arith, tt)))))))

carrying_spoken : Spoken carrying_lines carrying
unfolding digits
carrying_spoken = search arith

closing_spoken : Spoken closing_lines closing
unfolding digits
closing_spoken = search arith

-- ---- writes

write_spoken : (i x : ℕ) → i < 2 ^ 32 → Says (write_line i x) (write_verb i x)
unfolding write_verb hex_of_write digits
write_spoken i x small =
    ((omega arith, omega arith, write_bytes i x small), (codes " " ++ hex_of_write i x, (hex_of_write i x, write_hex i x small, refl), refl))

write_plain : (i x : ℕ) → i < 2 ^ 32 → is_plain (write_line i x) ≡ true
unfolding hex_of_write
write_plain i x small = hex_plain (hex_of_write i x) (spelling (write_request i x)) (write_hex i x small)

-- ---- the verbs of the first writes

-- what stands behind write i of so many
abbrev behind_in : ℕ → ℕ → List Verb
behind_in count i = if i % 64 == 0 || i == count then carrying else []

-- the first n of so many writes
unfoldable verbs_to : ℕ → ℕ → ℕ → List Verb
verbs_to seed count zero = []
verbs_to seed count (suc n) = verbs_to seed count n ++ (write_verb (suc n) (word_at seed (suc n)) ∷ behind_in count (suc n))

-- none is left exactly behind the last
last_so : (i left count : ℕ) → i + left ≡ count → (left == 0) ≡ (i == count)
last_so i left count ends =
    elim (cases_eq left 0) [
      | inl none ↦ let last : i ≡ count = omega (arith, ends, none) in eq-eqb left 0 none ∙ sym (eq-eqb i count last)
      | inr some ↦ ne_eqb left 0 some ∙ sym (ne_eqb i count (λ e. some (omega (arith, ends, e))))
    ]

behind_so : (made left count : ℕ) → suc made + left ≡ count → behind_write (made + 1) left ≡ behind_in count (suc made)
behind_so made left count ends = (λ k. if add-one made k % 64 == 0 || last_so (suc made) left count ends k then carrying else [])

-- the first writes and those from there on are all
all_writes : (left made seed count : ℕ) → made + left ≡ count → verbs_to seed count made ++ writes_from left made (word_at seed made) ≡ verbs_to seed count count
unfolding writes_from verbs_to
all_writes zero made seed count ends =
    append-nil (verbs_to seed count made) ∙ ap (verbs_to seed count) (let e : made ≡ count = omega (arith, ends) in e)
all_writes (suc left) made seed count ends =
    let front = verbs_to seed count made in
    let next = stepped (word_at seed made) in
    let here : suc made + left ≡ count = omega (arith, ends) in
    (λ k. front ++ (write_verb (add-one made k) next ∷ (behind_so made left count here k ++ writes_from left (add-one made k) next)))
    ∙ sym (append_assoc front (write_verb (suc made) next ∷ behind_in count (suc made)) (writes_from left (suc made) next))
    ∙ all_writes left (suc made) seed count here

-- ---- the whole script

when_spoken : (t : Bool) → Spoken (if t then carrying_lines else []) (if t then carrying else [])
when_spoken true = carrying_spoken
when_spoken false = tt

when_plain : (t : Bool) → are_plain (if t then carrying_lines else []) ≡ true
when_plain true = refl
when_plain false = refl

writes_spoken : (seed count n : ℕ) → n < 2 ^ 32 → Spoken (lines_to seed count n) (verbs_to seed count n)
unfolding lines_to verbs_to
writes_spoken seed count zero small = tt
writes_spoken seed count (suc n) small =
    spoken_on (lines_to seed count n) (lines_of_write seed count (suc n)) (verbs_to seed count n) _ (writes_spoken seed count n (omega (arith, small)))
    (write_spoken (suc n) (word_at seed (suc n)) small, when_spoken (suc n % 64 == 0 || suc n == count))

writes_plain : (seed count n : ℕ) → n < 2 ^ 32 → are_plain (lines_to seed count n) ≡ true
unfolding lines_to
writes_plain seed count zero small = refl
writes_plain seed count (suc n) small =
    plain_on (lines_to seed count n) (lines_of_write seed count (suc n)) (writes_plain seed count n (omega (arith, small)))
    (and_from _ _ (write_plain (suc n) (word_at seed (suc n)) small) (when_plain (suc n % 64 == 0 || suc n == count)))

pub scripts_are_text : (seed count : ℕ) → count < 2 ^ 32 → IsScript (gen_text seed count) (gen_script seed count)
unfolding gen_script gen_text verbs_to
scripts_are_text seed count small =
    let lines = opening_lines ++ lines_to seed count count in
    let verbs = opening ++ verbs_to seed count count in
    let all : gen_verbs seed count ≡ verbs ++ closing = ap (λ vs. opening ++ vs ++ closing) (all_writes count 0 seed count (omega arith)) in
    let plain = plain_on lines closing_lines (plain_on opening_lines (lines_to seed count count) refl (writes_plain seed count count small)) refl in
    let spoken = spoken_on lines closing_lines verbs closing (spoken_on opening_lines (lines_to seed count count) opening (verbs_to seed count count) opening_spoken (writes_spoken seed count count small)) closing_spoken in
    subst (λ vs. IsScript (gen_text seed count) (numbered 1 vs)) (sym all) (make_script (lines ++ closing_lines) (verbs ++ closing) plain spoken)
