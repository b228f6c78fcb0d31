-- lines, from the first on
use Rattle.std.proofs.Common.{◌≡◌, ℕ, zero, suc, ◌+◌, ◌-◌, ◌<◌, ◌≤◌, Bool, true, false, cond, List, [], ◌∷◌, length, take, drop, get_or, Option, Some, None, refl, ap, sym, ◌∙◌, inl, inr, add-one, length-drop, arith}
use Rattle.std.specs.Prelude.{◌==◌, if◌then◌else◌, nat_le, position, option_and_then, codes}
use Rattle.std.specs.Option.{option_map}
use Rattle.std.specs.Str.{bytes_eq}
use Rattle.std.specs.List.{onto_first, position_or_len}
use Rattle.std.proofs.lemmas.Bool.{cases_lt, leb-true}
use Rattle.std.proofs.lemmas.List.{take_all, length-take-le}
use Rattle.std.proofs.lemmas.List.Quantifiers.{position-Some}
use Rattle.std.proofs.lemmas.List.Sums.{fails_before_first, position_or_len_is}
use Rattle.memchr.specs.Find.{IsFirstByte, is_byte}
use Rattle.script_text.specs.Lines.{lines_of}
use Rattle.script_text.specs.Grammar.{start_line, branches_of, members_of, chain_line, chain_words, counted_verb, verb_of}
use Rattle.script_text.specs.Numbers.{node_of, vbucket_of, numbers_of}
use Rattle.script_text.specs.declared.verb.Verb.{Verb}
use Rattle.script_text.specs.declared.verb.Verb.TheVariants as verb
use Rattle.script_text.specs.declared.verb.VbVerb.TheVariants as vb_verb
use Rattle.script_text.specs.declared.verb.NodeVerb.TheVariants as node_verb
use Rattle.script_text.specs.declared.line.TheConstants.{WORDS_READ, BRANCHES, OTHERS}

-- a search for a byte finds its first place
no_pass : (t : Bool) → (t ≡ true → ⊥) → t ≡ false
no_pass true h = absurd (h refl)
no_pass false h = refl

pub first_is : (c : ℕ) (bytes : List ℕ) (at : Option ℕ) → IsFirstByte (is_byte c) bytes at → at ≡ position (λ b. b == c) bytes
first_is c bytes None h =
    let none : (k : ℕ) → k < length bytes → (get_or bytes k 0 == c) ≡ false = λ k lt. no_pass (get_or bytes k 0 == c) (h k (omega arith) lt) in
    let end = position_or_len_is (λ b. b == c) bytes (length bytes) 0 (omega arith) none (λ lt. absurd (omega arith)) in
    grind (arith, end)
first_is c bytes (Some k) h =
    let within : k < length bytes = h.0.high in
    let none : (j : ℕ) → j < k → (get_or bytes j 0 == c) ≡ false = λ j lt. no_pass (get_or bytes j 0 == c) (h.0.before j (omega arith) lt) in
    let here = position_or_len_is (λ b. b == c) bytes k 0 (omega arith) none (λ lt. h.1) in
    grind (arith, here, within)

-- a line ends at the first newline
lines_at : (bytes : List ℕ) (k : ℕ) → k < length bytes → (get_or bytes k 0 == 10) ≡ true → ((j : ℕ) → j < k → (get_or bytes j 0 == 10) ≡ false) → lines_of bytes ≡ take k bytes ∷ lines_of (drop (suc k) bytes)
lines_at [] k h here before = absurd (omega arith)
lines_at (b ∷ bytes) zero h here before = ap (λ t. cond t ([] ∷ lines_of bytes) (onto_first b (lines_of bytes))) here
lines_at (b ∷ bytes) (suc k) h here before =
    ap (λ t. cond t ([] ∷ lines_of bytes) (onto_first b (lines_of bytes))) (before 0 (omega arith))
    ∙ ap (onto_first b) (lines_at bytes k (omega arith) here (λ j lt. before (suc j) (omega arith)))

-- with no newline there is one line
lines_last : (b : ℕ) (bytes : List ℕ) → ((j : ℕ) → j < length (b ∷ bytes) → (get_or (b ∷ bytes) j 0 == 10) ≡ false) → lines_of (b ∷ bytes) ≡ (b ∷ bytes) ∷ []
lines_last b [] h = ap (λ t. cond t ([] ∷ []) (onto_first b [])) (h 0 (omega arith))
lines_last b (c ∷ bytes) h =
    ap (λ t. cond t ([] ∷ lines_of (c ∷ bytes)) (onto_first b (lines_of (c ∷ bytes)))) (h 0 (omega arith))
    ∙ ap (onto_first b) (lines_last c bytes (λ j lt. h (suc j) (omega arith)))

pub lines_first : (bytes : List ℕ) (k : ℕ) → position (λ b. b == 10) bytes ≡ Some k → lines_of bytes ≡ take k bytes ∷ lines_of (take (length bytes - (k + 1)) (drop (k + 1) bytes))
lines_first bytes k h =
    let found = position-Some (λ b. b == 10) bytes k 0 h in
    let rest : take (length bytes - (k + 1)) (drop (k + 1) bytes) ≡ drop (suc k) bytes = take_all _ _ (omega (arith, length-drop (k + 1) bytes)) ∙ ap (λ n. drop n bytes) (add-one k) in
    lines_at bytes k found.0 found.1 found.2 ∙ ap (λ more. take k bytes ∷ lines_of more) (sym rest)

none_before : (bytes : List ℕ) → position (λ b. b == 10) bytes ≡ None → length bytes ≤ position_or_len (λ b. b == 10) bytes
none_before bytes h = grind (arith)

pub lines_only : (bytes : List ℕ) → 0 < length bytes → position (λ b. b == 10) bytes ≡ None → lines_of bytes ≡ bytes ∷ []
lines_only [] some h = absurd (omega arith)
lines_only (b ∷ bytes) some h =
    let far = none_before (b ∷ bytes) h in
    lines_last b bytes (λ j lt. fails_before_first (λ b. b == 10) (b ∷ bytes) j 0 (omega arith))

-- lines of no other number of words say a verb, but that of a node that starts
pub few_words : (words : List (List ℕ)) → length words < 2 → counted_verb words ≡ None
few_words [] h = refl
few_words (word ∷ []) h = refl
few_words (word ∷ a ∷ more) h = absurd (omega arith)

pub six_words : (words : List (List ℕ)) → 6 ≤ length words → length words < 7 → counted_verb words ≡ None
six_words [] h k = absurd (omega arith)
six_words (word ∷ []) h k = refl
six_words (word ∷ a ∷ []) h k = absurd (omega arith)
six_words (word ∷ a ∷ b ∷ []) h k = absurd (omega arith)
six_words (word ∷ a ∷ b ∷ c ∷ []) h k = absurd (omega arith)
six_words (word ∷ a ∷ b ∷ c ∷ d ∷ []) h k = absurd (omega arith)
six_words (word ∷ a ∷ b ∷ c ∷ d ∷ e ∷ []) h k = refl
six_words (word ∷ a ∷ b ∷ c ∷ d ∷ e ∷ f ∷ more) h k = absurd (omega arith)

pub many_words : (words : List (List ℕ)) → 8 ≤ length words → counted_verb words ≡ None
many_words [] h = refl
many_words (word ∷ []) h = refl
many_words (word ∷ a ∷ []) h = absurd (omega arith)
many_words (word ∷ a ∷ b ∷ []) h = absurd (omega arith)
many_words (word ∷ a ∷ b ∷ c ∷ []) h = absurd (omega arith)
many_words (word ∷ a ∷ b ∷ c ∷ d ∷ []) h = absurd (omega arith)
many_words (word ∷ a ∷ b ∷ c ∷ d ∷ e ∷ []) h = refl
many_words (word ∷ a ∷ b ∷ c ∷ d ∷ e ∷ f ∷ []) h = absurd (omega arith)
many_words (word ∷ a ∷ b ∷ c ∷ d ∷ e ∷ f ∷ g ∷ more) h = refl

-- ---- a line with more words than are read says nothing

-- nor does one that starts a node on too many branches
more_than : (t : Bool) (words : List (List ℕ)) → nat_le (length words) BRANCHES ≡ t → 65 ≤ length words → (if t then numbers_of words else None) ≡ None
more_than true words e h = let few : length words ≤ 64 = leb-true (length words) BRANCHES e in absurd (omega (arith, few, h))
more_than false words e h = refl

too_many : (words : List (List ℕ)) → 65 ≤ length words → branches_of words ≡ None
too_many words h = more_than (nat_le (length words) BRANCHES) words refl h

none_started : (n : Option ℕ) → option_and_then (λ n. option_map (λ x. verb.AtNode n (node_verb.Start x)) None) n ≡ None
none_started None = refl
none_started (Some n) = refl

no_start : (node : List ℕ) (o : Option (List ℕ)) → o ≡ None → start_line node o ≡ None
no_start node o e = ap (start_line node) e ∙ none_started (node_of node)

-- nor does one that sets a chain of too many members
others_than : (t : Bool) (words : List (List ℕ)) → nat_le (length words) OTHERS ≡ t → 4 ≤ length words → (if t then members_of words else None) ≡ None
others_than true words e h = let few : length words ≤ 3 = leb-true (length words) OTHERS e in absurd (omega (arith, few, h))
others_than false words e h = refl

none_chained : (n : Option ℕ) (v : Option ℕ) → option_and_then (λ n. option_and_then (λ v. option_map (λ x. verb.AtVb n v (vb_verb.Chain x)) None) v) n ≡ None
none_chained None v = refl
none_chained (Some n) None = refl
none_chained (Some n) (Some v) = refl

no_chain : (node : List ℕ) (words : List (List ℕ)) → 5 ≤ length words → chain_words node words ≡ None
no_chain node [] h = refl
no_chain node (vb ∷ words) h =
    ap (chain_line node vb) (others_than (nat_le (length words) OTHERS) words refl (omega (arith, h))) ∙ none_chained (node_of node) (vbucket_of vb)

either_none : (t : Bool) (x y : Option Verb) → x ≡ None → y ≡ None → (if t then x else y) ≡ None
either_none true x y h k = h
either_none false x y h k = k

none_said : (words : List (List ℕ)) → 67 ≤ length words → verb_of words ≡ None
none_said [] h = refl
none_said (word ∷ []) h = refl
none_said (word ∷ node ∷ more) h =
    either_none (bytes_eq word (codes "start")) (start_line node (branches_of more)) _ (no_start node (branches_of more) (too_many more (omega (arith, h))))
    (either_none (bytes_eq word (codes "chain")) (chain_words node more) (counted_verb (word ∷ node ∷ more)) (no_chain node more (omega (arith, h)))
    (many_words (word ∷ node ∷ more) (omega (arith, h))))

pub words_read : (words : List (List ℕ)) → verb_of (take WORDS_READ words) ≡ verb_of words
words_read words =
    elim (cases_lt (length words) 67) [
      | inl few ↦ ap verb_of (take_all WORDS_READ words (omega (arith, few)))
      | inr many ↦ none_said (take WORDS_READ words) (omega (arith, length-take-le WORDS_READ words many)) ∙ sym (none_said words many)
    ]

-- lines of less than two words say nothing
pub few_said : (words : List (List ℕ)) → length words < 2 → verb_of words ≡ None
few_said [] h = refl
few_said (word ∷ []) h = refl
few_said (word ∷ node ∷ more) h = absurd (omega arith)
