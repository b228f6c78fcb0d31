-- lines by which nodes stop and start, by their spelling
use Rattle.std.proofs.Common.{◌≡◌, ℕ, ◌+◌, ◌^◌, ◌<◌, ◌≤◌, List, [], ◌∷◌, ◌++◌, length, Option, Some, None, refl, ap, sym, ◌∙◌, subst, inl, inr, arith}
use Rattle.std.specs.Prelude.{map, if◌then◌else◌, nat_le, option_and_then, codes, decimal}
use Rattle.std.specs.List.{All, flat_map, join_with_byte}
use Rattle.std.specs.Option.{option_map}
use Rattle.std.specs.Str.{bytes_eq}
use Rattle.std.proofs.lemmas.Bool.{leb-true, le-leb}
use Rattle.std.proofs.lemmas.List.{length-map}
use Rattle.std.proofs.lemmas.List.Elements.{All-cons, All-nil, All-head, All-tail, All-weaker}
use Rattle.vb_disk.specs.declared.made.Outcome.{Outcome}
use Rattle.vb_disk.specs.declared.made.Outcome.TheVariants as outcome
use Rattle.script_text.specs.{Numbers.{number_of, numbers_of, byte_of, node_of, moved_of}, Lines.{words_of}, Fitting.{IsOutcome}, Grammar.{kept_of, filled_of, stop_line, crash_line, start_line, branches_of, verb_of}, Sayings.{outcome_text, Says}, declared.line.TheConstants.{BRANCHES}, declared.numbers.TheConstants.{MOVED, BYTES}}
use Rattle.script_text.specs.declared.verb.Verb.{Verb}
use Rattle.script_text.specs.declared.verb.Verb.TheVariants as verb
use Rattle.script_text.specs.declared.verb.NodeVerb.TheVariants as node_verb
use Rattle.script_text.proofs.Decimals.{decimal-number_of, number_of-decimal}
use Rattle.script_text.proofs.Spelling.{if_yes, mapped, chained, number_below, number_moved, word_is, either, IsWord, decimal_word, one, first, in_limit, number_tail, each_tail, joined, spaced}
use Rattle.script_text.proofs.Shapes.{behind, at_node, at_node_with, IsRead, node_row, operand}

-- the text says what a crash leaves
abbrev pub SaysOutcome : List ℕ → Outcome → Type 0
SaysOutcome text out = (text ≡ outcome_text out) × IsOutcome out

-- ---- words that say a verb are its spelling

pub kept_spelled : (word : List ℕ) (out : Outcome) → kept_of word ≡ Some out → SaysOutcome word out
kept_spelled word out h =
    elim (either (bytes_eq word (codes "old")) (Some outcome.Old) (if bytes_eq word (codes "new") then Some outcome.New else None) out h) [
      | inl p ↦
          let e : outcome.Old ≡ out = cc p.1 in
          subst (λ out. SaysOutcome word out) {x = outcome.Old} e (word_is word (codes "old") p.0, tt)
      | inr more ↦
          let yes = if_yes (bytes_eq word (codes "new")) (Some outcome.New) out more in
          let e : outcome.New ≡ out = cc yes.1 in
          subst (λ out. SaysOutcome word out) {x = outcome.New} e (word_is word (codes "new") yes.0, tt)
    ]

pub filled_spelled : (word byte : List ℕ) (out : Outcome) → filled_of word byte ≡ Some out → SaysOutcome (word ++ 32 ∷ byte) out
filled_spelled word byte out h =
    let yes = if_yes (bytes_eq word (codes "fill")) (option_map outcome.Fill (byte_of byte)) out h in
    let fill = mapped outcome.Fill (byte_of byte) out yes.1 in
    let b = number_below BYTES fill.0 byte fill.1 in
    let w = word_is word (codes "fill") yes.0 in
    subst (λ out. SaysOutcome (word ++ 32 ∷ byte) out) {x = outcome.Fill fill.0} fill.2 (λ i. w i ++ 32 ∷ b.0 i, b.1)

-- what a crash leaves is in one word or in two, which are the text
pub stop_spelled : (a b text : List ℕ) (o : Option Outcome) (v : Verb) → ((out : Outcome) → o ≡ Some out → SaysOutcome text out) → stop_line a b o ≡ Some v
    → Says (codes "stop" ++ 32 ∷ (a ++ 32 ∷ (b ++ 32 ∷ text))) v
stop_spelled a b text o v said h =
    at_node (codes "stop") a (32 ∷ (b ++ 32 ∷ text)) (λ n. option_and_then (λ k. option_map (λ x. verb.AtNode n (node_verb.Stop k x)) o) (moved_of b)) v
    (λ n e.
    let call = chained (λ k. option_map (λ x. verb.AtNode n (node_verb.Stop k x)) o) (moved_of b) v e in
    let out = mapped (λ x. verb.AtNode n (node_verb.Stop call.0 x)) o v call.2 in
    let k = number_moved call.0 b call.1 in
    let left = said out.0 out.1 in
    (node_verb.Stop call.0 out.0, out.2, refl, λ i. 32 ∷ (k.0 i ++ 32 ∷ left.0 i), (k.1, left.1))) h

pub crash_spelled : (a text : List ℕ) (o : Option Outcome) (v : Verb) → ((out : Outcome) → o ≡ Some out → SaysOutcome text out) → crash_line a o ≡ Some v
    → Says (codes "crash" ++ 32 ∷ (a ++ 32 ∷ text)) v
crash_spelled a text o v said h =
    at_node_with (codes "crash") a (32 ∷ text) node_verb.Crash o v (λ out e. behind (said out e)) h

-- texts that say numbers are their decimals
numbers_spelled : (texts : List (List ℕ)) (ns : List ℕ) → numbers_of texts ≡ Some ns → (texts ≡ map decimal ns) × All (λ n. n < 2 ^ 64) ns
numbers_spelled [] ns h = let e : [] ≡ ns = cc h in (ap (map decimal) e, subst (λ ns. All (λ n. n < 2 ^ 64) ns) e (All-nil (λ n. n < 2 ^ 64)))
numbers_spelled (text ∷ texts) ns h =
    let head = chained (λ n. option_map (λ more. n ∷ more) (numbers_of texts)) (number_of text) ns h in
    let rest = mapped (λ more. head.0 ∷ more) (numbers_of texts) ns head.2 in
    let n = decimal-number_of text head.0 head.1 in
    let more = numbers_spelled texts rest.0 rest.1 in
    let all : All (λ n. n < 2 ^ 64) (head.0 ∷ rest.0) = All-cons (λ n. n < 2 ^ 64) head.0 rest.0 n.1 more.1 in
    ((λ i. n.0 i ∷ more.0 i) ∙ ap (map decimal) rest.2, subst (λ ns. All (λ n. n < 2 ^ 64) ns) rest.2 all)

pub start_spelled : (a : List ℕ) (more : List (List ℕ)) (v : Verb) → start_line a (branches_of more) ≡ Some v → Says (codes "start" ++ 32 ∷ join_with_byte 32 (a ∷ more)) v
start_spelled a more v h =
    subst (λ t. Says (codes "start" ++ 32 ∷ t) v) (sym (joined a more))
    (at_node_with (codes "start") a (flat_map (λ t. 32 ∷ t) more) node_verb.Start (branches_of more) v
    (λ uuids e.
    let few = if_yes (nat_le (length more) BRANCHES) (numbers_of more) uuids e in
    let ids = numbers_spelled more uuids few.1 in
    let as_many : length more ≡ length uuids = ap length ids.0 ∙ length-map uuids decimal in
    let most : length more ≤ 64 = leb-true (length more) BRANCHES few.0 in
    (refl, ap (flat_map (λ t. 32 ∷ t)) ids.0 ∙ spaced decimal uuids, (omega (arith, as_many, most), ids.1))) h)

-- ---- a spelling's words say the verb

abbrev out_words : Outcome → List (List ℕ)
out_words outcome.Old = codes "old" ∷ []
out_words outcome.New = codes "new" ∷ []
out_words (outcome.Fill byte) = codes "fill" ∷ decimal byte ∷ []

outcome_words : (out : Outcome) → IsOutcome out → words_of (outcome_text out) ≡ out_words out
outcome_words outcome.Old h = refl
outcome_words outcome.New h = refl
outcome_words (outcome.Fill byte) h =
    let low : byte < 2 ^ 64 = omega (arith, h) in
    ap (λ ws. codes "fill" ∷ ws) (one (decimal byte) (decimal_word byte low))

filled_read : (byte : ℕ) → byte < 256 → filled_of (codes "fill") (decimal byte) ≡ Some (outcome.Fill byte)
filled_read byte h = let low : byte < 2 ^ 64 = omega (arith, h) in ap (option_map outcome.Fill) (in_limit BYTES byte h low)

pub moved_read : (k : ℕ) → k ≤ 1000000000 → moved_of (decimal k) ≡ Some k
moved_read k h =
    let low : k < 2 ^ 64 = omega (arith, h) in
    let below : k < MOVED + 1 = omega (arith, h) in
    in_limit (MOVED + 1) k below low

stop_said : (a b : List ℕ) (out : Outcome) → IsOutcome out → verb_of (codes "stop" ∷ a ∷ b ∷ out_words out) ≡ stop_line a b (Some out)
stop_said a b outcome.Old h = refl
stop_said a b outcome.New h = refl
stop_said a b (outcome.Fill byte) h = ap (stop_line a b) (filled_read byte h)

crash_said : (a : List ℕ) (out : Outcome) → IsOutcome out → verb_of (codes "crash" ∷ a ∷ out_words out) ≡ crash_line a (Some out)
crash_said a outcome.Old h = refl
crash_said a outcome.New h = refl
crash_said a (outcome.Fill byte) h = ap (crash_line a) (filled_read byte h)

pub stop_read : (line : List ℕ) (n k : ℕ) (out : Outcome) → Says line (verb.AtNode n (node_verb.Stop k out)) → IsRead line (verb.AtNode n (node_verb.Stop k out))
stop_read line n k out h =
    let low : k < 2 ^ 64 = omega (arith, h.0.1.0) in
    node_row line n (node_verb.Stop k out) (decimal k ∷ out_words out) (λ rest. refl, λ rest. refl)
    (refl, first (decimal k) (outcome_text out) (out_words out) (decimal_word k low) (outcome_words out h.0.1.1))
    (λ a. stop_said a (decimal k) out h.0.1.1 ∙ ap (λ o. option_and_then (λ n. option_and_then (λ k. Some (verb.AtNode n (node_verb.Stop k out))) o) (node_of a)) (moved_read k h.0.1.0)) h

pub fail_read : (line : List ℕ) (n k : ℕ) → Says line (verb.AtNode n (node_verb.Fail k)) → IsRead line (verb.AtNode n (node_verb.Fail k))
fail_read line n k h =
    let low : k < 2 ^ 64 = omega (arith, h.0.1) in
    node_row line n (node_verb.Fail k) (decimal k ∷ []) (λ rest. refl, λ rest. refl) (number_tail k low)
    (λ a. operand (λ n k. verb.AtNode n (node_verb.Fail k)) (node_of a) (moved_of (decimal k)) k (moved_read k h.0.1)) h

pub crash_read : (line : List ℕ) (n : ℕ) (out : Outcome) → Says line (verb.AtNode n (node_verb.Crash out)) → IsRead line (verb.AtNode n (node_verb.Crash out))
crash_read line n out h =
    node_row line n (node_verb.Crash out) (out_words out) (λ rest. refl, λ rest. refl) (refl, outcome_words out h.0.1) (λ a. crash_said a out h.0.1) h

numbers_read : (ns : List ℕ) → All (λ n. n < 2 ^ 64) ns → numbers_of (map decimal ns) ≡ Some ns
numbers_read [] h = refl
numbers_read (n ∷ ns) h =
    ap (option_and_then (λ n. option_map (λ more. n ∷ more) (numbers_of (map decimal ns)))) (number_of-decimal n (All-head (λ n. n < 2 ^ 64) n ns h))
    ∙ ap (option_map (λ more. n ∷ more)) (numbers_read ns (All-tail (λ n. n < 2 ^ 64) n ns h))

branches_read : (ns : List ℕ) → length ns ≤ 64 → All (λ n. n < 2 ^ 64) ns → branches_of (map decimal ns) ≡ Some ns
branches_read ns few h =
    let as_many : length (map decimal ns) ≡ length ns = length-map ns decimal in
    ap (λ t. if t then numbers_of (map decimal ns) else None) (le-leb (length (map decimal ns)) BRANCHES (omega (arith, as_many, few))) ∙ numbers_read ns h

pub start_read : (line : List ℕ) (n : ℕ) (uuids : List ℕ) → Says line (verb.AtNode n (node_verb.Start uuids)) → IsRead line (verb.AtNode n (node_verb.Start uuids))
start_read line n uuids h =
    let words = All-weaker (λ n. n < 2 ^ 64) (λ n. IsWord (decimal n)) decimal_word uuids h.0.1.1 in
    node_row line n (node_verb.Start uuids) (map decimal uuids) (λ rest. refl, λ rest. refl) (each_tail decimal uuids words)
    (λ a. ap (start_line a) (branches_read uuids h.0.1.0 h.0.1.1)) h
