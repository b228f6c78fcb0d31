-- lines that set a chain, by their spelling
use Rattle.std.proofs.Common.{◌≡◌, ℕ, ◌^◌, ◌<◌, ◌≤◌, Bool, true, false, List, [], ◌∷◌, ◌++◌, length, Option, Some, None, refl, ap, sym, ◌∙◌, subst, inl, inr, arith}
use Rattle.std.specs.Prelude.{◌==◌, if◌then◌else◌, nat_le, map, option_and_then, codes, decimal}
use Rattle.std.specs.List.{All, flat_map, join_with_byte}
use Rattle.std.specs.Option.{option_map}
use Rattle.std.specs.Str.{bytes_eq}
use Rattle.std.proofs.lemmas.Bool.{leb-true, le-leb}
use Rattle.std.proofs.lemmas.List.{length-map}
use Rattle.std.proofs.lemmas.List.Elements.{All-cons, All-nil, All-head, All-tail, All-weaker}
use Rattle.script_text.specs.{Numbers.{number_of, node_of}, Fitting.{IsMember}, Grammar.{member_of, members_of, others_of, chain_line, chain_words}, Sayings.{member_text, Says}, declared.line.TheConstants.{OTHERS}, declared.numbers.TheConstants.{NODES}}
use Rattle.script_text.specs.declared.verb.Verb.{Verb}
use Rattle.script_text.specs.declared.verb.Verb.TheVariants as verb
use Rattle.script_text.specs.declared.verb.VbVerb.TheVariants as vb_verb
use Rattle.script_text.proofs.Decimals.{number_of-decimal}
use Rattle.script_text.proofs.Spelling.{if_yes, mapped, chained, number_below, word_is, either, IsWord, decimal_word, in_limit, each_tail, joined, spaced}
use Rattle.script_text.proofs.Shapes.{at_vb, vb_row, IsRead}

-- ---- words that say a chain are its spelling

member_spelled : (word : List ℕ) (m : Option ℕ) → member_of word ≡ Some m → (word ≡ member_text m) × IsMember m
member_spelled word m h =
    elim (either (bytes_eq word (codes "-")) (Some None) (option_map Some (node_of word)) m h) [
      | inl p ↦
          let e : None ≡ m = cc p.1 in
          subst (λ m. (word ≡ member_text m) × IsMember m) e (word_is word (codes "-") p.0, tt)
      | inr more ↦
          let node = mapped Some (node_of word) m more in
          subst (λ m. (word ≡ member_text m) × IsMember m) node.2 (number_below NODES node.0 word node.1)
    ]

members_spelled : (words : List (List ℕ)) (ms : List (Option ℕ)) → members_of words ≡ Some ms → (words ≡ map member_text ms) × All IsMember ms
members_spelled [] ms h = let e : [] ≡ ms = cc h in (ap (map member_text) e, subst (λ ms. All IsMember ms) e (All-nil IsMember))
members_spelled (word ∷ words) ms h =
    let head = chained (λ m. option_map (λ more. m ∷ more) (members_of words)) (member_of word) ms h in
    let rest = mapped (λ more. head.0 ∷ more) (members_of words) ms head.2 in
    let m = member_spelled word head.0 head.1 in
    let more = members_spelled words rest.0 rest.1 in
    let all : All IsMember (head.0 ∷ rest.0) = All-cons IsMember head.0 rest.0 m.1 more.1 in
    ((λ i. m.0 i ∷ more.0 i) ∙ ap (map member_text) rest.2, subst (λ ms. All IsMember ms) rest.2 all)

pub chain_spelled : (a : List ℕ) (more : List (List ℕ)) (v : Verb) → chain_words a more ≡ Some v → Says (codes "chain" ++ 32 ∷ join_with_byte 32 (a ∷ more)) v
chain_spelled a [] v h = absurd (cc h)
chain_spelled a (b ∷ words) v h =
    subst (λ t. Says (codes "chain" ++ 32 ∷ (a ++ 32 ∷ t)) v) (sym (joined b words))
    (at_vb (codes "chain") a b (flat_map (λ t. 32 ∷ t) words) vb_verb.Chain (others_of words) v
    (λ others e.
    let few = if_yes (nat_le (length words) OTHERS) (members_of words) others e in
    let ms = members_spelled words others few.1 in
    let as_many : length words ≡ length others = ap length ms.0 ∙ length-map others member_text in
    let most : length words ≤ 3 = leb-true (length words) OTHERS few.0 in
    (refl, ap (flat_map (λ t. 32 ∷ t)) ms.0 ∙ spaced member_text others, (omega (arith, as_many, most), ms.1))) h)

-- ---- a spelling's words say the chain

dash_word : IsWord (codes "-")
dash_word = All-cons (λ b. (b == 32) ≡ false) 45 [] refl (All-nil (λ b. (b == 32) ≡ false))

member_word : (m : Option ℕ) → IsMember m → IsWord (member_text m)
member_word None h = dash_word
member_word (Some m) h = let low : m < 2 ^ 64 = omega (arith, h) in decimal_word m low

dash_no_number : (m : ℕ) → number_of (codes "-") ≡ Some m → ⊥
unfolding number_of
dash_no_number m h = let bad : None ≡ Some m = h in absurd (cc bad)

-- a node's number is no dash
no_dash : (m : ℕ) (t : Bool) → m < 16 → bytes_eq (decimal m) (codes "-") ≡ t → t ≡ false
no_dash m false low h = refl
no_dash m true low h =
    let wide : m < 2 ^ 64 = omega (arith, low) in
    let e : decimal m ≡ codes "-" = word_is (decimal m) (codes "-") h in
    let none : number_of (codes "-") ≡ Some m = ap number_of (sym e) ∙ number_of-decimal m wide in
    absurd (dash_no_number m none)

member_read : (m : Option ℕ) → IsMember m → member_of (member_text m) ≡ Some m
member_read None h = refl
member_read (Some m) h =
    let low : m < 2 ^ 64 = omega (arith, h) in
    ap (λ t. if t then Some None else option_map Some (node_of (decimal m))) (no_dash m (bytes_eq (decimal m) (codes "-")) h refl)
    ∙ ap (option_map Some) (in_limit NODES m h low)

members_read : (ms : List (Option ℕ)) → All IsMember ms → members_of (map member_text ms) ≡ Some ms
members_read [] h = refl
members_read (m ∷ ms) h =
    ap (option_and_then (λ m. option_map (λ more. m ∷ more) (members_of (map member_text ms)))) (member_read m (All-head IsMember m ms h))
    ∙ ap (option_map (λ more. m ∷ more)) (members_read ms (All-tail IsMember m ms h))

others_read : (ms : List (Option ℕ)) → length ms ≤ 3 → All IsMember ms → others_of (map member_text ms) ≡ Some ms
others_read ms few h =
    let as_many : length (map member_text ms) ≡ length ms = length-map ms member_text in
    ap (λ t. if t then members_of (map member_text ms) else None) (le-leb (length (map member_text ms)) OTHERS (omega (arith, as_many, few))) ∙ members_read ms h

pub chain_read : (line : List ℕ) (n k : ℕ) (others : List (Option ℕ)) → Says line (verb.AtVb n k (vb_verb.Chain others)) → IsRead line (verb.AtVb n k (vb_verb.Chain others))
chain_read line n k others h =
    let words = All-weaker IsMember (λ m. IsWord (member_text m)) member_word others h.0.2.1 in
    vb_row line n k (vb_verb.Chain others) (map member_text others) (λ rest. refl, λ rest. refl) (each_tail member_text others words)
    (λ a b. ap (chain_line a b) (others_read others h.0.2.0 h.0.2.1)) h
