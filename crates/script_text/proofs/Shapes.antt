-- lines by what they name: how words that say one are its spelling, and how those of a spelling are read
use Rattle.std.proofs.Common.{◌≡◌, ℕ, ◌^◌, ◌<◌, false, List, ◌∷◌, ◌++◌, Option, Some, None, refl, ap, ◌∙◌, subst, arith}
use Rattle.std.specs.Prelude.{option_and_then, decimal}
use Rattle.std.specs.Option.{option_map}
use Rattle.script_text.specs.{Numbers.{node_of, vbucket_of, connection_of}, Lines.{words_of}, Grammar.{verb_of}, Scripts.{is_blank}, Fitting.{NodeFits, VbFits, ClientFits, LinkFits}, Sayings.{Says, node_words, vb_word, vb_tail, client_word, ClientTail, link_words}, declared.numbers.TheConstants.{NODES, VBUCKETS, CONNECTIONS}}
use Rattle.script_text.specs.declared.verb.{Verb.{Verb}, VbVerb.{VbVerb}, NodeVerb.{NodeVerb}, LinkVerb.{LinkVerb}, ClientVerb.{ClientVerb}}
use Rattle.script_text.specs.declared.verb.Verb.TheVariants as verb
use Rattle.script_text.proofs.Spelling.{mapped, chained, number_below, decimal_word, first, in_limit, IsTail, tailed}

-- ---- words that say a verb are its spelling, by what it names

-- what one word behind the numbers of a line says
pub behind : {word text said : List ℕ} {Fits : Type 0} → (text ≡ said) × Fits → (word ≡ word) × (32 ∷ text ≡ 32 ∷ said) × Fits
behind is = (refl, ap (λ t. 32 ∷ t) is.0, is.1)

-- a line for a node, by what stands behind its number
pub at_node : (word a rest : List ℕ) (f : ℕ → Option Verb) (v : Verb)
    → ((n : ℕ) → f n ≡ Some v → (what : NodeVerb) × (verb.AtNode n what ≡ v) × (word ≡ (node_words what).0) × (rest ≡ (node_words what).1) × NodeFits what)
    → option_and_then f (node_of a) ≡ Some v → Says (word ++ 32 ∷ (a ++ rest)) v
at_node word a rest f v said h =
    let node = chained f (node_of a) v h in
    let n = number_below NODES node.0 a node.1 in
    let is = said node.0 node.2 in
    let made = verb.AtNode node.0 is.0 in
    subst (λ v. Says (word ++ 32 ∷ (a ++ rest)) v) {x = made} is.1 ((n.1, is.4), λ i. is.2 i ++ 32 ∷ (n.0 i ++ is.3 i))

pub at_node_with : {A : Type 0} (word a rest : List ℕ) (make : A → NodeVerb) (o : Option A) (v : Verb)
    → ((x : A) → o ≡ Some x → (word ≡ (node_words (make x)).0) × (rest ≡ (node_words (make x)).1) × NodeFits (make x))
    → option_and_then (λ n. option_map (λ x. verb.AtNode n (make x)) o) (node_of a) ≡ Some v → Says (word ++ 32 ∷ (a ++ rest)) v
at_node_with word a rest make o v said h =
    at_node word a rest (λ n. option_map (λ x. verb.AtNode n (make x)) o) v
    (λ n e. let x = mapped (λ x. verb.AtNode n (make x)) o v e in let is = said x.0 x.1 in (make x.0, x.2, is.0, is.1, is.2)) h

-- a line for a vBucket of a node
pub at_vb : {A : Type 0} (word a b rest : List ℕ) (make : A → VbVerb) (o : Option A) (v : Verb)
    → ((x : A) → o ≡ Some x → (word ≡ vb_word (make x)) × (rest ≡ vb_tail (make x)) × VbFits (make x))
    → option_and_then (λ n. option_and_then (λ k. option_map (λ x. verb.AtVb n k (make x)) o) (vbucket_of b)) (node_of a) ≡ Some v
    → Says (word ++ 32 ∷ (a ++ 32 ∷ (b ++ rest))) v
at_vb word a b rest make o v said h =
    let node = chained (λ n. option_and_then (λ k. option_map (λ x. verb.AtVb n k (make x)) o) (vbucket_of b)) (node_of a) v h in
    let vb = chained (λ k. option_map (λ x. verb.AtVb node.0 k (make x)) o) (vbucket_of b) v node.2 in
    let what = mapped (λ x. verb.AtVb node.0 vb.0 (make x)) o v vb.2 in
    let n = number_below NODES node.0 a node.1 in
    let k = number_below VBUCKETS vb.0 b vb.1 in
    let is = said what.0 what.1 in
    let made = verb.AtVb node.0 vb.0 (make what.0) in
    subst (λ v. Says (word ++ 32 ∷ (a ++ 32 ∷ (b ++ rest))) v) {x = made} what.2
    ((n.1, k.1, is.2), λ i. is.0 i ++ 32 ∷ (n.0 i ++ 32 ∷ (k.0 i ++ is.1 i)))

-- a line for a client's connection
pub at_client : {A : Type 0} (word a b rest : List ℕ) (make : A → ClientVerb) (o : Option A) (v : Verb)
    → ((x : A) → o ≡ Some x → (word ≡ client_word (make x)) × ClientTail rest (make x) × ClientFits (make x))
    → option_and_then (λ n. option_and_then (λ c. option_map (λ x. verb.AtClient n c (make x)) o) (connection_of b)) (node_of a) ≡ Some v
    → Says (word ++ 32 ∷ (a ++ 32 ∷ (b ++ rest))) v
at_client word a b rest make o v said h =
    let node = chained (λ n. option_and_then (λ c. option_map (λ x. verb.AtClient n c (make x)) o) (connection_of b)) (node_of a) v h in
    let client = chained (λ c. option_map (λ x. verb.AtClient node.0 c (make x)) o) (connection_of b) v node.2 in
    let what = mapped (λ x. verb.AtClient node.0 client.0 (make x)) o v client.2 in
    let n = number_below NODES node.0 a node.1 in
    let c = number_below CONNECTIONS client.0 b client.1 in
    let is = said what.0 what.1 in
    let made = verb.AtClient node.0 client.0 (make what.0) in
    subst (λ v. Says (word ++ 32 ∷ (a ++ 32 ∷ (b ++ rest))) v) {x = made} what.2
    ((n.1, c.1, is.2), (rest, is.1, λ i. is.0 i ++ 32 ∷ (n.0 i ++ 32 ∷ (c.0 i ++ rest))))

-- a line for a link
pub at_link : {A : Type 0} (word a rest : List ℕ) (make : A → LinkVerb) (o : Option A) (v : Verb)
    → ((x : A) → o ≡ Some x → (word ≡ (link_words (make x)).0) × (rest ≡ (link_words (make x)).1) × LinkFits (make x))
    → option_and_then (λ l. option_map (λ x. verb.AtLink l (make x)) o) (connection_of a) ≡ Some v → Says (word ++ 32 ∷ (a ++ rest)) v
at_link word a rest make o v said h =
    let link = chained (λ l. option_map (λ x. verb.AtLink l (make x)) o) (connection_of a) v h in
    let what = mapped (λ x. verb.AtLink link.0 (make x)) o v link.2 in
    let l = number_below CONNECTIONS link.0 a link.1 in
    let is = said what.0 what.1 in
    let made = verb.AtLink link.0 (make what.0) in
    subst (λ v. Says (word ++ 32 ∷ (a ++ rest)) v) {x = made} what.2 ((l.1, is.2), λ i. is.0 i ++ 32 ∷ (l.0 i ++ is.1 i))

-- the last number of a line, with nothing behind it
pub then_made : {A B : Type 0} (f : A → B) (o : Option A) → option_map f o ≡ option_and_then (λ a. Some (f a)) o
then_made f None = refl
then_made f (Some a) = refl

-- ---- a spelling's words say the verb, by what it names

-- a line is read as a verb, and is not blank
abbrev pub IsRead : List ℕ → Verb → Type 0
IsRead line v = (verb_of (words_of line) ≡ Some v) × (is_blank line ≡ false)

-- a word that a line may begin with
abbrev pub IsName : List ℕ → Type 0
IsName word = ((rest : List ℕ) → words_of (word ++ 32 ∷ rest) ≡ word ∷ words_of rest) × ((rest : List ℕ) → is_blank (word ++ rest) ≡ false)

pub word_read : (line word rest : List ℕ) (words : List (List ℕ)) (v : Verb) → IsName word → line ≡ word ++ 32 ∷ rest → words_of rest ≡ words
    → verb_of (word ∷ words) ≡ Some v → IsRead line v
word_read line word rest words v name is after read =
    (ap (λ l. verb_of (words_of l)) is ∙ ap verb_of (name.0 rest ∙ ap (λ ws. word ∷ ws) after) ∙ read, ap is_blank is ∙ name.1 (32 ∷ rest))

-- the words of a line for a node, by how they are read: with whatever number, it is this that is asked
pub node_row : (line : List ℕ) (n : ℕ) (what : NodeVerb) (words : List (List ℕ)) → IsName (node_words what).0 → IsTail (node_words what).1 words
    → ((a : List ℕ) → verb_of ((node_words what).0 ∷ a ∷ words) ≡ option_and_then (λ n. Some (verb.AtNode n what)) (node_of a))
    → Says line (verb.AtNode n what) → IsRead line (verb.AtNode n what)
node_row line n what words name tail read h =
    let low : n < 2 ^ 64 = omega (arith, h.0.0) in
    word_read line (node_words what).0 (decimal n ++ (node_words what).1) (decimal n ∷ words) (verb.AtNode n what) name h.1
    (tailed (decimal n) (node_words what).1 words (decimal_word n low) tail)
    (read (decimal n) ∙ ap (option_and_then (λ n. Some (verb.AtNode n what))) (in_limit NODES n h.0.0 low))

pub link_row : (line : List ℕ) (l : ℕ) (what : LinkVerb) (words : List (List ℕ)) → IsName (link_words what).0 → IsTail (link_words what).1 words
    → ((a : List ℕ) → verb_of ((link_words what).0 ∷ a ∷ words) ≡ option_and_then (λ l. Some (verb.AtLink l what)) (connection_of a))
    → Says line (verb.AtLink l what) → IsRead line (verb.AtLink l what)
link_row line l what words name tail read h =
    let low : l < 2 ^ 64 = omega (arith, h.0.0) in
    word_read line (link_words what).0 (decimal l ++ (link_words what).1) (decimal l ∷ words) (verb.AtLink l what) name h.1
    (tailed (decimal l) (link_words what).1 words (decimal_word l low) tail)
    (read (decimal l) ∙ ap (option_and_then (λ l. Some (verb.AtLink l what))) (in_limit CONNECTIONS l h.0.0 low))

-- two numbers, and words behind them
pub numbered : (n k : ℕ) (tail : List ℕ) (words : List (List ℕ)) → n < 2 ^ 64 → k < 2 ^ 64 → IsTail tail words
    → words_of (decimal n ++ 32 ∷ (decimal k ++ tail)) ≡ decimal n ∷ decimal k ∷ words
numbered n k tail words n_low k_low h =
    first (decimal n) (decimal k ++ tail) (decimal k ∷ words) (decimal_word n n_low) (tailed (decimal k) tail words (decimal_word k k_low) h)

pub vb_row : (line : List ℕ) (n k : ℕ) (what : VbVerb) (words : List (List ℕ)) → IsName (vb_word what) → IsTail (vb_tail what) words
    → ((a b : List ℕ) → verb_of (vb_word what ∷ a ∷ b ∷ words) ≡ option_and_then (λ n. option_and_then (λ k. Some (verb.AtVb n k what)) (vbucket_of b)) (node_of a))
    → Says line (verb.AtVb n k what) → IsRead line (verb.AtVb n k what)
vb_row line n k what words name tail read h =
    let n_low : n < 2 ^ 64 = omega (arith, h.0.0) in
    let k_low : k < 2 ^ 64 = omega (arith, h.0.1) in
    word_read line (vb_word what) (decimal n ++ 32 ∷ (decimal k ++ vb_tail what)) (decimal n ∷ decimal k ∷ words) (verb.AtVb n k what) name h.1
    (numbered n k (vb_tail what) words n_low k_low tail)
    (read (decimal n) (decimal k)
    ∙ ap (option_and_then (λ n. option_and_then (λ k. Some (verb.AtVb n k what)) (vbucket_of (decimal k)))) (in_limit NODES n h.0.0 n_low)
    ∙ ap (option_and_then (λ k. Some (verb.AtVb n k what))) (in_limit VBUCKETS k h.0.1 k_low))

pub client_row : (line : List ℕ) (n c : ℕ) (what : ClientVerb) (words : List (List ℕ)) (h : Says line (verb.AtClient n c what))
    → IsName (client_word what) → IsTail h.1.0 words
    → ((a b : List ℕ) → verb_of (client_word what ∷ a ∷ b ∷ words) ≡ option_and_then (λ n. option_and_then (λ c. Some (verb.AtClient n c what)) (connection_of b)) (node_of a))
    → IsRead line (verb.AtClient n c what)
client_row line n c what words h name tail read =
    let n_low : n < 2 ^ 64 = omega (arith, h.0.0) in
    let c_low : c < 2 ^ 64 = omega (arith, h.0.1) in
    word_read line (client_word what) (decimal n ++ 32 ∷ (decimal c ++ h.1.0)) (decimal n ∷ decimal c ∷ words) (verb.AtClient n c what) name h.1.2
    (numbered n c h.1.0 words n_low c_low tail)
    (read (decimal n) (decimal c)
    ∙ ap (option_and_then (λ n. option_and_then (λ c. Some (verb.AtClient n c what)) (connection_of (decimal c)))) (in_limit NODES n h.0.0 n_low)
    ∙ ap (option_and_then (λ c. Some (verb.AtClient n c what))) (in_limit CONNECTIONS c h.0.1 c_low))

-- a number or a text behind the numbers of a line says what it says
pub operand : {A : Type 0} (make : ℕ → A → Verb) (p : Option ℕ) (o : Option A) (x : A) → o ≡ Some x
    → option_and_then (λ n. option_map (make n) o) p ≡ option_and_then (λ n. Some (make n x)) p
operand make p o x e = ap (λ o. option_and_then (λ n. option_map (make n) o) p) e

pub vb_operand : {A : Type 0} (make : A → VbVerb) (a b : List ℕ) (o : Option A) (x : A) → o ≡ Some x
    → option_and_then (λ n. option_and_then (λ k. option_map (λ x. verb.AtVb n k (make x)) o) (vbucket_of b)) (node_of a)
    ≡ option_and_then (λ n. option_and_then (λ k. Some (verb.AtVb n k (make x))) (vbucket_of b)) (node_of a)
vb_operand make a b o x e = ap (λ o. option_and_then (λ n. option_and_then (λ k. option_map (λ x. verb.AtVb n k (make x)) o) (vbucket_of b)) (node_of a)) e
