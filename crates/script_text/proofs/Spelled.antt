-- what a line says, by its spelling
use Rattle.std.proofs.Common.{◌≡◌, ℕ, ◌^◌, ◌<◌, ◌≤◌, Bool, true, false, List, [], ◌∷◌, ◌++◌, length, Option, Some, None, Result, Ok, Err, refl, ap, sym, ◌∙◌, subst, inl, inr, arith}
use Rattle.std.specs.Prelude.{◌==◌, ◌↔◌, if◌then◌else◌, nat_le, ◌&&◌, option_and_then, codes, decimal}
use Rattle.std.specs.List.{join_with_byte}
use Rattle.std.specs.Option.{option_map}
use Rattle.std.specs.Str.{bytes_eq}
use Rattle.std.proofs.lemmas.Bool.{le-leb, cases_eq, ne_eqb}
use Rattle.std.proofs.lemmas.List.{append-nil}
use Rattle.std.proofs.lemmas.List.Elements.{All-weaker, All-from_get_or}
use Rattle.std.proofs.lemmas.List.Splits.{join_with_byte-slice_split}
use Rattle.hex.specs.Hex.{decode_of, is_hex_digit}
use Rattle.hex.proofs.HexLemmas.{decode_of-ok, decode_of-digits}
use Rattle.script_text.specs.{Numbers.{number_of, node_of, vbucket_of, connection_of, moved_of, if_frames, frames_of, buffer_of}, Lines.{words_of}, Grammar.{if_decoded, hex_bytes_of, node_line, link_alone, two_words, clock_line, client_line, hang_line, up_line, down_line, pump_line, verb_of_vb, replica_line, vbucket_words, three_words, bytes_line, pull_line, promote_line, vbucket_of_four, plain_of_four, four_words, five_words, vb_line, link_mode, terms_in, linked, link_line, counted_verb, kept_of, filled_of, stop_line, fail_line, crash_line, start_line, branches_of, chain_words, verb_of}, Fitting.{AreBytes, VbFits, ClientFits, LinkFits}, Sayings.{IsHex, IsHexOf, Says, vb_word, vb_tail, client_word, ClientTail, link_words, mode_word}, declared.numbers.TheConstants.{NODES, VBUCKETS, CONNECTIONS, FRAMES, BUFFERS}}
use Rattle.script_text.specs.declared.verb.{Verb.{Verb}, VbVerb.{VbVerb}, NodeVerb.{NodeVerb}, LinkVerb.{LinkVerb}, ClientVerb.{ClientVerb}}
use Rattle.script_text.specs.declared.verb.Verb.TheVariants as verb
use Rattle.script_text.specs.declared.verb.VbVerb.TheVariants as vb_verb
use Rattle.script_text.specs.declared.verb.NodeVerb.TheVariants as node_verb
use Rattle.script_text.specs.declared.verb.LinkVerb.TheVariants as link_verb
use Rattle.script_text.specs.declared.verb.ClientVerb.TheVariants as client_verb
use Rattle.script_text.proofs.Decimals.{decimal-number_of, number_of-decimal}
use Rattle.script_text.proofs.Spelling.{if_yes, mapped, chained, number_below, number_moved, number_framed, word_is, either, by_word, no_verb, IsWord, decimal_word, one, first, in_limit, IsTail, number_tail}
use Rattle.script_text.proofs.Shapes.{behind, at_node_with, at_vb, at_client, at_link, then_made, IsRead, IsName, word_read, node_row, link_row, numbered, vb_row, client_row, operand, vb_operand}
use Rattle.script_text.proofs.Stops.{kept_spelled, filled_spelled, stop_spelled, crash_spelled, start_spelled, moved_read, stop_read, fail_read, crash_read, start_read}
use Rattle.script_text.proofs.Chains.{chain_spelled, chain_read}

-- ---- words that say a verb are its spelling

node_spelled : (a : List ℕ) (v : Verb) → node_line a ≡ Some v → Says (codes "node" ++ 32 ∷ a) v
node_spelled a v h =
    let node = mapped verb.Node (node_of a) v h in
    let n = number_below NODES node.0 a node.1 in
    subst (λ v. Says (codes "node" ++ 32 ∷ a) v) node.2 (n.1, λ i. codes "node" ++ 32 ∷ n.0 i)

-- a line that ends with the number of what it names
bare_link : (word a : List ℕ) (what : LinkVerb) (v : Verb) → word ≡ (link_words what).0 → [] ≡ (link_words what).1 → LinkFits what → link_alone what a ≡ Some v → Says (word ++ 32 ∷ a) v
bare_link word a what v is none fits h =
    subst (λ t. Says (word ++ 32 ∷ t) v) (append-nil a)
    (at_link word a [] (λ (k : ℕ). what) (Some 0) v (λ k e. (is, none, fits)) (sym (then_made (λ l. verb.AtLink l what) (connection_of a)) ∙ h))

bare_client : (word a b : List ℕ) (what : ClientVerb) (v : Verb) → word ≡ client_word what → ClientTail [] what → ClientFits what
    → option_and_then (λ n. option_map (λ x. verb.AtClient n x what) (connection_of b)) (node_of a) ≡ Some v → Says (word ++ 32 ∷ (a ++ 32 ∷ b)) v
bare_client word a b what v is none fits h =
    subst (λ t. Says (word ++ 32 ∷ (a ++ 32 ∷ t)) v) (append-nil b)
    (at_client word a b [] (λ (k : ℕ). what) (Some 0) v (λ k e. (is, none, fits))
    ((λ i. option_and_then (λ n. sym (then_made (λ x. verb.AtClient n x what) (connection_of b)) i) (node_of a)) ∙ h))

two_spelled : (word a : List ℕ) (v : Verb) → two_words word a ≡ Some v → Says (word ++ 32 ∷ a) v
two_spelled word a v h =
    by_word word (codes "node") a (node_line a) _ v (node_spelled a v)
    (by_word word (codes "cut") a (link_alone link_verb.Cut a) _ v (bare_link (codes "cut") a link_verb.Cut v refl refl tt)
    (by_word word (codes "drop") a (link_alone link_verb.Drop a) None v (bare_link (codes "drop") a link_verb.Drop v refl refl tt) (no_verb (word ++ 32 ∷ a) v)))
    h

-- what is asked of a vBucket is spelled by this word alone
abbrev IsPlain : List ℕ → VbVerb → Type 0
IsPlain word what = (word ≡ vb_word what) × (vb_tail what ≡ []) × VbFits what

-- the test of one word among others
asked : (word text : List ℕ) (it what : VbVerb) (y : Option VbVerb) → IsPlain text it → (y ≡ Some what → IsPlain word what) → (if bytes_eq word text then Some it else y) ≡ Some what → IsPlain word what
asked word text it what y plain there h =
    elim (either (bytes_eq word text) (Some it) y what h) [
      | inl p ↦ let e : it ≡ what = cc p.1 in subst (IsPlain word) e (word_is word text p.0 ∙ plain.0, plain.1, plain.2)
      | inr more ↦ there more
    ]

asked_is : (word : List ℕ) (what : VbVerb) → verb_of_vb word ≡ Some what → IsPlain word what
asked_is word what h =
    asked word (codes "show") vb_verb.Show what _ (refl, refl, tt)
    (asked word (codes "follow") vb_verb.Follow what _ (refl, refl, tt)
    (asked word (codes "dead") vb_verb.Dead what _ (refl, refl, tt)
    (asked word (codes "tick") vb_verb.Tick what _ (refl, refl, tt)
    (asked word (codes "seal") vb_verb.Seal what _ (refl, refl, tt)
    (asked word (codes "trim") vb_verb.Trim what _ (refl, refl, tt)
    (asked word (codes "take") vb_verb.Take what _ (refl, refl, tt)
    (asked word (codes "save") vb_verb.Save what _ (refl, refl, tt)
    (asked word (codes "done") vb_verb.Done what _ (refl, refl, tt)
    (asked word (codes "stat") vb_verb.Stat what _ (refl, refl, tt)
    (asked word (codes "log") vb_verb.Log what None (refl, refl, tt) (λ none. absurd (cc none))))))))))))
    h

vbucket_spelled : (word a b : List ℕ) (v : Verb) → vbucket_words word a b ≡ Some v → Says (word ++ 32 ∷ (a ++ 32 ∷ b)) v
vbucket_spelled word a b v h =
    subst (λ t. Says (word ++ 32 ∷ (a ++ 32 ∷ t)) v) (append-nil b)
    (at_vb word a b [] (λ (what : VbVerb). what) (verb_of_vb word) v (λ what e. let plain = asked_is word what e in (plain.0, sym plain.1, plain.2)) h)

three_spelled : (word a b : List ℕ) (v : Verb) → three_words word a b ≡ Some v → Says (word ++ 32 ∷ (a ++ 32 ∷ b)) v
three_spelled word a b v h =
    let rest = a ++ 32 ∷ b in
    by_word word (codes "clock") rest (clock_line a b) _ v (at_node_with (codes "clock") a (32 ∷ b) node_verb.Clock (number_of b) v (λ t e. behind (decimal-number_of b t e)))
    (by_word word (codes "client") rest (client_line a b) _ v (bare_client (codes "client") a b client_verb.Open v refl refl tt)
    (by_word word (codes "hang") rest (hang_line a b) _ v (bare_client (codes "hang") a b client_verb.Hang v refl refl tt)
    (by_word word (codes "up") rest (up_line a b) _ v (at_link (codes "up") a (32 ∷ b) link_verb.Up (moved_of b) v (λ n e. behind (number_moved n b e)))
    (by_word word (codes "down") rest (down_line a b) _ v (at_link (codes "down") a (32 ∷ b) link_verb.Down (moved_of b) v (λ n e. behind (number_moved n b e)))
    (by_word word (codes "pump") rest (pump_line a b) _ v (at_link (codes "pump") a (32 ∷ b) link_verb.Pump (frames_of b) v (λ k e. let is = number_framed k b e in behind (is.0, (is.1, is.2))))
    (by_word word (codes "fail") rest (fail_line a b) _ v (at_node_with (codes "fail") a (32 ∷ b) node_verb.Fail (moved_of b) v (λ k e. behind (number_moved k b e)))
    (by_word word (codes "crash") rest (crash_line a (kept_of b)) (vbucket_words word a b) v (crash_spelled a b (kept_of b) v (kept_spelled b)) (vbucket_spelled word a b v))))))))
    h

decoded : {E : Type 0} (r : Result (List ℕ) E) (bytes : List ℕ) → if_decoded r ≡ Some bytes → r ≡ Ok bytes
decoded (Err e) bytes h = absurd (cc h)
decoded (Ok all) bytes h = cc h

hex_parts : (text : List ℕ) (t : Bool) (x : Option (List ℕ)) (bytes : List ℕ) → (length text == 0) ≡ t → (if t then None else x) ≡ Some bytes → (0 < length text) × (x ≡ Some bytes)
hex_parts text true x bytes e h = absurd (cc h)
hex_parts text false x bytes e h = (grind (arith), h)

hex_spelled : (text bytes : List ℕ) → hex_bytes_of text ≡ Some bytes → IsHexOf text bytes
unfolding hex_bytes_of
hex_spelled text bytes h =
    let parts = hex_parts text (length text == 0) (if_decoded (decode_of text)) bytes refl h in
    record { some = parts.0; digits = decoded (decode_of text) bytes parts.1 }

-- a text of digits says bytes
pub hex_said : (text : List ℕ) → ((bytes : List ℕ) × IsHexOf text bytes) ↔ IsHex text
hex_said text =
    (λ h. let ok = decode_of-ok text h.0 h.1.digits in (h.1.some, ok.0, ok.1), λ h. let said = decode_of-digits text h.1 h.2 in (said.0, record { some = h.0; digits = said.1 }))

-- digits decode to bytes, whatever the text
decoded_bytes : (text bytes : List ℕ) → decode_of text ≡ Ok bytes → AreBytes bytes
decoded_bytes text bytes h = let ok = decode_of-ok text bytes h in All-from_get_or (λ b. b < 256) bytes 0 (λ i lt. ok.3 i)

bytes_spelled : (a b text : List ℕ) (v : Verb) → bytes_line a b (hex_bytes_of text) ≡ Some v → Says (codes "bytes" ++ 32 ∷ (a ++ 32 ∷ (b ++ 32 ∷ text))) v
bytes_spelled a b text v h =
    at_client (codes "bytes") a b (32 ∷ text) client_verb.Bytes (hex_bytes_of text) v
    (λ bytes e. let is = hex_spelled text bytes e in (refl, (text, is, refl), decoded_bytes text bytes is.digits)) h

pull_spelled : (a b frames : List ℕ) (v : Verb) → pull_line a b frames ≡ Some v → Says (codes "pull" ++ 32 ∷ (a ++ 32 ∷ (b ++ 32 ∷ frames))) v
pull_spelled a b frames v h =
    at_client (codes "pull") a b (32 ∷ frames) client_verb.Pull (frames_of frames) v
    (λ k e. let is = number_framed k frames e in (refl, ap (λ t. 32 ∷ t) is.0, (is.1, is.2))) h

-- both tests hold
both : (s t : Bool) → (s && t) ≡ true → (s ≡ true) × (t ≡ true)
both true t h = (refl, h)
both false t h = absurd (cc h)

replica_spelled : (word a b role : List ℕ) (v : Verb) → (bytes_eq word (codes "vb") && bytes_eq role (codes "replica")) ≡ true → replica_line a b ≡ Some v
    → Says (word ++ 32 ∷ (a ++ 32 ∷ (b ++ 32 ∷ role))) v
replica_spelled word a b role v t h =
    let tests = both (bytes_eq word (codes "vb")) (bytes_eq role (codes "replica")) t in
    at_vb word a b (32 ∷ role) (λ (k : ℕ). vb_verb.MakeReplica) (Some 0) v
    (λ k e. (word_is word (codes "vb") tests.0, ap (λ t. 32 ∷ t) (word_is role (codes "replica") tests.1), tt))
    ((λ i. option_and_then (λ n. sym (then_made (λ x. verb.AtVb n x vb_verb.MakeReplica) (vbucket_of b)) i) (node_of a)) ∙ h)

vbucket_of_four_spelled : (word a b c : List ℕ) (v : Verb) → vbucket_of_four word a b c ≡ Some v → Says (word ++ 32 ∷ (a ++ 32 ∷ (b ++ 32 ∷ c))) v
vbucket_of_four_spelled word a b c v h =
    let rest = a ++ 32 ∷ (b ++ 32 ∷ c) in
    elim (either (bytes_eq word (codes "vb") && bytes_eq c (codes "replica")) (replica_line a b) _ v h) [
      | inl p ↦ replica_spelled word a b c v p.0 p.1
      | inr more ↦ by_word word (codes "promote") rest (promote_line a b c) None v (at_vb (codes "promote") a b (32 ∷ c) vb_verb.Promote (number_of c) v (λ u e. behind (decimal-number_of c u e))) (no_verb (word ++ 32 ∷ rest) v) more
    ]

plain_of_four_spelled : (word a b c : List ℕ) (v : Verb) → plain_of_four word a b c ≡ Some v → Says (word ++ 32 ∷ (a ++ 32 ∷ (b ++ 32 ∷ c))) v
plain_of_four_spelled word a b c v h =
    let rest = a ++ 32 ∷ (b ++ 32 ∷ c) in
    by_word word (codes "stop") rest (stop_line a b (kept_of c)) _ v (stop_spelled a b c (kept_of c) v (kept_spelled c))
    (by_word word (codes "crash") rest (crash_line a (filled_of b c)) _ v
    (crash_spelled a (b ++ 32 ∷ c) (filled_of b c) v (filled_spelled b c))
    (by_word word (codes "pull") rest (pull_line a b c) (vbucket_of_four word a b c) v (pull_spelled a b c v) (vbucket_of_four_spelled word a b c v)))
    h

four_spelled : (word a b c : List ℕ) (v : Verb) → four_words word a b c ≡ Some v → Says (word ++ 32 ∷ (a ++ 32 ∷ (b ++ 32 ∷ c))) v
four_spelled word a b c v h =
    by_word word (codes "bytes") (a ++ 32 ∷ (b ++ 32 ∷ c)) (bytes_line a b (hex_bytes_of c)) _ v (bytes_spelled a b c v) (plain_of_four_spelled word a b c v) h

vb_spelled : (word a b role uuid : List ℕ) (v : Verb) → vb_line word a b role uuid ≡ Some v → Says (word ++ 32 ∷ (a ++ 32 ∷ (b ++ 32 ∷ (role ++ 32 ∷ uuid)))) v
vb_spelled word a b role uuid v h =
    let all = option_and_then (λ n. option_and_then (λ k. option_map (λ x. verb.AtVb n k (vb_verb.MakeActive x)) (number_of uuid)) (vbucket_of b)) (node_of a) in
    let yes = if_yes (bytes_eq word (codes "vb")) (if bytes_eq role (codes "active") then all else None) v h in
    let active = if_yes (bytes_eq role (codes "active")) all v yes.1 in
    let w = word_is word (codes "vb") yes.0 in
    let r = word_is role (codes "active") active.0 in
    at_vb word a b (32 ∷ (role ++ 32 ∷ uuid)) vb_verb.MakeActive (number_of uuid) v
    (λ u e. let is = decimal-number_of uuid u e in (w, λ i. 32 ∷ (r i ++ 32 ∷ is.0 i), is.1)) active.1

five_spelled : (word a b c d : List ℕ) (v : Verb) → five_words word a b c d ≡ Some v → Says (word ++ 32 ∷ (a ++ 32 ∷ (b ++ 32 ∷ (c ++ 32 ∷ d)))) v
five_spelled word a b c d v h =
    by_word word (codes "stop") (a ++ 32 ∷ (b ++ 32 ∷ (c ++ 32 ∷ d))) (stop_line a b (filled_of c d)) (vb_line word a b c d) v
    (stop_spelled a b (c ++ 32 ∷ d) (filled_of c d) v (filled_spelled c d)) (vb_spelled word a b c d v) h

mode_spelled : (f : List ℕ) (t : Bool) → link_mode f ≡ Some t → f ≡ mode_word t
mode_spelled f t h =
    elim (either (bytes_eq f (codes "follow")) (Some false) (if bytes_eq f (codes "takeover") then Some true else None) t h) [
      | inl p ↦ let e : false ≡ t = cc p.1 in subst (λ t. f ≡ mode_word t) e (word_is f (codes "follow") p.0)
      | inr more ↦
          let yes = if_yes (bytes_eq f (codes "takeover")) (Some true) t more in
          let e : true ≡ t = cc yes.1 in subst (λ t. f ≡ mode_word t) e (word_is f (codes "takeover") yes.0)
    ]

terms_spelled : (e f : List ℕ) (t : ℕ × Bool) → terms_in e f ≡ Some t → (e ≡ decimal t.0) × (t.0 < 2 ^ 32) × (f ≡ mode_word t.1)
unfolding terms_in
terms_spelled e f t h =
    let buffer = chained (λ b. option_map (λ m. (b, m)) (link_mode f)) (buffer_of e) t h in
    let mode = mapped (λ m. (buffer.0, m)) (link_mode f) t buffer.2 in
    let z = number_below BUFFERS buffer.0 e buffer.1 in
    subst (λ (t : ℕ × Bool). (e ≡ decimal t.0) × (t.0 < 2 ^ 32) × (f ≡ mode_word t.1)) {x = (buffer.0, mode.0)} mode.2 (z.0, z.1, mode_spelled f mode.0 mode.1)

link_spelled : (word a b c d e f : List ℕ) (v : Verb) → link_line word a b c d e f ≡ Some v → Says (word ++ 32 ∷ (a ++ 32 ∷ (b ++ 32 ∷ (c ++ 32 ∷ (d ++ 32 ∷ (e ++ 32 ∷ f)))))) v
link_spelled word a b c d e f v h =
    let yes = if_yes (bytes_eq word (codes "link")) (linked a b c d (terms_in e f)) v h in
    let link = chained (λ l. option_and_then (λ m. option_and_then (λ n. option_and_then (λ k. option_map (λ t. verb.Link l m n k t.0 t.1) (terms_in e f)) (vbucket_of d)) (node_of c)) (node_of b)) (connection_of a) v yes.1 in
    let producer = chained (λ m. option_and_then (λ n. option_and_then (λ k. option_map (λ t. verb.Link link.0 m n k t.0 t.1) (terms_in e f)) (vbucket_of d)) (node_of c)) (node_of b) v link.2 in
    let node = chained (λ n. option_and_then (λ k. option_map (λ t. verb.Link link.0 producer.0 n k t.0 t.1) (terms_in e f)) (vbucket_of d)) (node_of c) v producer.2 in
    let vb = chained (λ k. option_map (λ t. verb.Link link.0 producer.0 node.0 k t.0 t.1) (terms_in e f)) (vbucket_of d) v node.2 in
    let terms = mapped (λ (t : ℕ × Bool). verb.Link link.0 producer.0 node.0 vb.0 t.0 t.1) (terms_in e f) v vb.2 in
    let l = number_below CONNECTIONS link.0 a link.1 in
    let m = number_below NODES producer.0 b producer.1 in
    let n = number_below NODES node.0 c node.1 in
    let k = number_below VBUCKETS vb.0 d vb.1 in
    let z = terms_spelled e f terms.0 terms.1 in
    let w = word_is word (codes "link") yes.0 in
    let made = verb.Link link.0 producer.0 node.0 vb.0 terms.0.0 terms.0.1 in
    subst (λ v. Says (word ++ 32 ∷ (a ++ 32 ∷ (b ++ 32 ∷ (c ++ 32 ∷ (d ++ 32 ∷ (e ++ 32 ∷ f)))))) v) {x = made} terms.2
    ((l.1, m.1, n.1, k.1, z.1), λ i. w i ++ 32 ∷ (l.0 i ++ 32 ∷ (m.0 i ++ 32 ∷ (n.0 i ++ 32 ∷ (k.0 i ++ 32 ∷ (z.0 i ++ 32 ∷ z.2 i))))))

counted_spelled : (words : List (List ℕ)) (v : Verb) → counted_verb words ≡ Some v → Says (join_with_byte 32 words) v
counted_spelled [] v h = absurd (cc h)
counted_spelled (word ∷ []) v h = absurd (cc h)
counted_spelled (word ∷ a ∷ []) v h = two_spelled word a v h
counted_spelled (word ∷ a ∷ b ∷ []) v h = three_spelled word a b v h
counted_spelled (word ∷ a ∷ b ∷ c ∷ []) v h = four_spelled word a b c v h
counted_spelled (word ∷ a ∷ b ∷ c ∷ d ∷ []) v h = five_spelled word a b c d v h
counted_spelled (word ∷ a ∷ b ∷ c ∷ d ∷ e ∷ []) v h = absurd (cc h)
counted_spelled (word ∷ a ∷ b ∷ c ∷ d ∷ e ∷ f ∷ []) v h = link_spelled word a b c d e f v h
counted_spelled (word ∷ a ∷ b ∷ c ∷ d ∷ e ∷ f ∷ g ∷ more) v h = absurd (cc h)

words_spelled : (words : List (List ℕ)) (v : Verb) → verb_of words ≡ Some v → Says (join_with_byte 32 words) v
words_spelled [] v h = absurd (cc h)
words_spelled (word ∷ []) v h = absurd (cc h)
words_spelled (word ∷ a ∷ more) v h =
    by_word word (codes "start") (join_with_byte 32 (a ∷ more)) (start_line a (branches_of more)) _ v (start_spelled a more v)
    (by_word word (codes "chain") (join_with_byte 32 (a ∷ more)) (chain_words a more) (counted_verb (word ∷ a ∷ more)) v
    (chain_spelled a more v) (counted_spelled (word ∷ a ∷ more) v))
    h

-- ---- a spelling's words say the verb

hex_no_space : (c : ℕ) → is_hex_digit c ≡ true → (c == 32) ≡ false
hex_no_space c h =
    elim (cases_eq c 32) [
      | inl e ↦ let bad : false ≡ true = subst (λ d. is_hex_digit d ≡ true) e h in absurd (cc bad)
      | inr ne ↦ ne_eqb c 32 ne
    ]

hex_word : (text bytes : List ℕ) → decode_of text ≡ Ok bytes → IsWord text
hex_word text bytes h = All-weaker (λ c. is_hex_digit c ≡ true) (λ b. (b == 32) ≡ false) hex_no_space text (decode_of-ok text bytes h).1

in_frames : (k : ℕ) → 1 ≤ k → k ≤ 1000000 → k < 2 ^ 64 → if_frames (number_of (decimal k)) ≡ Some k
in_frames k least most low =
    ap if_frames (number_of-decimal k low)
    ∙ ap (λ t. if t && nat_le k FRAMES then Some k else None) (le-leb 1 k least)
    ∙ ap (λ t. if t then Some k else None) (le-leb k FRAMES most)

hex_read : (text bytes : List ℕ) → IsHexOf text bytes → hex_bytes_of text ≡ Some bytes
unfolding hex_bytes_of
hex_read text bytes h =
    let some = h.some in
    let here : (length text == 0) ≡ false = grind (arith) in
    ap (λ t. if t then None else if_decoded (decode_of text)) here ∙ ap if_decoded h.digits

node_read : (line : List ℕ) (n : ℕ) (what : NodeVerb) → Says line (verb.AtNode n what) → IsRead line (verb.AtNode n what)
node_read line n (node_verb.Clock t) h =
    node_row line n (node_verb.Clock t) (decimal t ∷ []) (λ rest. refl, λ rest. refl) (number_tail t h.0.1)
    (λ a. operand (λ n t. verb.AtNode n (node_verb.Clock t)) (node_of a) (number_of (decimal t)) t (number_of-decimal t h.0.1)) h
node_read line n (node_verb.Stop k out) h = stop_read line n k out h
node_read line n (node_verb.Fail k) h = fail_read line n k h
node_read line n (node_verb.Crash out) h = crash_read line n out h
node_read line n (node_verb.Start uuids) h = start_read line n uuids h

-- a line of three words that names a vBucket, by what its first word comes to
plain_read : (line : List ℕ) (n k : ℕ) (what : VbVerb) → vb_tail what ≡ [] → IsName (vb_word what)
    → ((a b : List ℕ) → verb_of (vb_word what ∷ a ∷ b ∷ []) ≡ option_and_then (λ n. option_and_then (λ k. Some (verb.AtVb n k what)) (vbucket_of b)) (node_of a))
    → Says line (verb.AtVb n k what) → IsRead line (verb.AtVb n k what)
plain_read line n k what none name read h = vb_row line n k what [] name (subst (λ t. IsTail t []) (sym none) refl) read h

vb_read : (line : List ℕ) (n k : ℕ) (what : VbVerb) → Says line (verb.AtVb n k what) → IsRead line (verb.AtVb n k what)
vb_read line n k (vb_verb.MakeActive uuid) h =
    vb_row line n k (vb_verb.MakeActive uuid) (codes "active" ∷ decimal uuid ∷ []) (λ rest. refl, λ rest. refl)
    (refl, ap (λ ws. codes "active" ∷ ws) (one (decimal uuid) (decimal_word uuid h.0.2)))
    (λ a b. vb_operand vb_verb.MakeActive a b (number_of (decimal uuid)) uuid (number_of-decimal uuid h.0.2)) h
vb_read line n k vb_verb.MakeReplica h =
    vb_row line n k vb_verb.MakeReplica (codes "replica" ∷ []) (λ rest. refl, λ rest. refl) (refl, refl)
    (λ a b i. option_and_then (λ n. then_made (λ x. verb.AtVb n x vb_verb.MakeReplica) (vbucket_of b) i) (node_of a)) h
vb_read line n k (vb_verb.Promote uuid) h =
    vb_row line n k (vb_verb.Promote uuid) (decimal uuid ∷ []) (λ rest. refl, λ rest. refl) (number_tail uuid h.0.2)
    (λ a b. vb_operand vb_verb.Promote a b (number_of (decimal uuid)) uuid (number_of-decimal uuid h.0.2)) h
vb_read line n k (vb_verb.Chain others) h = chain_read line n k others h
vb_read line n k vb_verb.Follow h = plain_read line n k vb_verb.Follow refl (λ rest. refl, λ rest. refl) (λ a b. refl) h
vb_read line n k vb_verb.Dead h = plain_read line n k vb_verb.Dead refl (λ rest. refl, λ rest. refl) (λ a b. refl) h
vb_read line n k vb_verb.Tick h = plain_read line n k vb_verb.Tick refl (λ rest. refl, λ rest. refl) (λ a b. refl) h
vb_read line n k vb_verb.Seal h = plain_read line n k vb_verb.Seal refl (λ rest. refl, λ rest. refl) (λ a b. refl) h
vb_read line n k vb_verb.Trim h = plain_read line n k vb_verb.Trim refl (λ rest. refl, λ rest. refl) (λ a b. refl) h
vb_read line n k vb_verb.Take h = plain_read line n k vb_verb.Take refl (λ rest. refl, λ rest. refl) (λ a b. refl) h
vb_read line n k vb_verb.Save h = plain_read line n k vb_verb.Save refl (λ rest. refl, λ rest. refl) (λ a b. refl) h
vb_read line n k vb_verb.Done h = plain_read line n k vb_verb.Done refl (λ rest. refl, λ rest. refl) (λ a b. refl) h
vb_read line n k vb_verb.Stat h = plain_read line n k vb_verb.Stat refl (λ rest. refl, λ rest. refl) (λ a b. refl) h
vb_read line n k vb_verb.Log h = plain_read line n k vb_verb.Log refl (λ rest. refl, λ rest. refl) (λ a b. refl) h
vb_read line n k vb_verb.Show h = plain_read line n k vb_verb.Show refl (λ rest. refl, λ rest. refl) (λ a b. refl) h

-- a line for a client's connection that brings no bytes
bare_read : (line : List ℕ) (n c : ℕ) (what : ClientVerb) (h : Says line (verb.AtClient n c what)) → h.1.0 ≡ [] → IsName (client_word what)
    → ((a b : List ℕ) → verb_of (client_word what ∷ a ∷ b ∷ []) ≡ option_and_then (λ n. option_map (λ x. verb.AtClient n x what) (connection_of b)) (node_of a))
    → IsRead line (verb.AtClient n c what)
bare_read line n c what h none name read =
    client_row line n c what [] h name (subst (λ t. IsTail t []) (sym none) refl)
    (λ a b. read a b ∙ (λ i. option_and_then (λ n. then_made (λ x. verb.AtClient n x what) (connection_of b) i) (node_of a)))

client_read : (line : List ℕ) (n c : ℕ) (what : ClientVerb) → Says line (verb.AtClient n c what) → IsRead line (verb.AtClient n c what)
client_read line n c client_verb.Open h = bare_read line n c client_verb.Open h h.1.1 (λ rest. refl, λ rest. refl) (λ a b. refl)
client_read line n c client_verb.Hang h = bare_read line n c client_verb.Hang h h.1.1 (λ rest. refl, λ rest. refl) (λ a b. refl)
client_read line n c (client_verb.Bytes bytes) h =
    let text = h.1.1.0 in
    let hex = h.1.1.1 in
    client_row line n c (client_verb.Bytes bytes) (text ∷ []) h (λ rest. refl, λ rest. refl)
    (subst (λ t. IsTail t (text ∷ [])) (sym h.1.1.2) (refl, one text (hex_word text bytes hex.digits)))
    (λ a b. ap (λ o. option_and_then (λ n. option_and_then (λ c. option_map (λ x. verb.AtClient n c (client_verb.Bytes x)) o) (connection_of b)) (node_of a)) (hex_read text bytes hex))
client_read line n c (client_verb.Pull k) h =
    let low : k < 2 ^ 64 = omega (arith, h.0.2.1) in
    client_row line n c (client_verb.Pull k) (decimal k ∷ []) h (λ rest. refl, λ rest. refl)
    (subst (λ t. IsTail t (decimal k ∷ [])) (sym h.1.1) (number_tail k low))
    (λ a b. ap (λ o. option_and_then (λ n. option_and_then (λ c. option_map (λ x. verb.AtClient n c (client_verb.Pull x)) o) (connection_of b)) (node_of a)) (in_frames k h.0.2.0 h.0.2.1 low))

-- a line for a link, with a number behind the link's
counted_read : (line : List ℕ) (l k : ℕ) (make : ℕ → LinkVerb) (o : Option ℕ) → k < 2 ^ 64 → (link_words (make k)).1 ≡ 32 ∷ decimal k → o ≡ Some k → IsName (link_words (make k)).0
    → ((a : List ℕ) → verb_of ((link_words (make k)).0 ∷ a ∷ decimal k ∷ []) ≡ option_and_then (λ l. option_map (λ x. verb.AtLink l (make x)) o) (connection_of a))
    → Says line (verb.AtLink l (make k)) → IsRead line (verb.AtLink l (make k))
counted_read line l k make o low tail is name read h =
    link_row line l (make k) (decimal k ∷ []) name (subst (λ t. IsTail t (decimal k ∷ [])) (sym tail) (number_tail k low))
    (λ a. read a ∙ operand (λ l x. verb.AtLink l (make x)) (connection_of a) o k is) h

link_read : (line : List ℕ) (l : ℕ) (what : LinkVerb) → Says line (verb.AtLink l what) → IsRead line (verb.AtLink l what)
link_read line l (link_verb.Up b) h =
    let low : b < 2 ^ 64 = omega (arith, h.0.1) in
    counted_read line l b link_verb.Up (moved_of (decimal b)) low refl (moved_read b h.0.1) (λ rest. refl, λ rest. refl) (λ a. refl) h
link_read line l (link_verb.Down b) h =
    let low : b < 2 ^ 64 = omega (arith, h.0.1) in
    counted_read line l b link_verb.Down (moved_of (decimal b)) low refl (moved_read b h.0.1) (λ rest. refl, λ rest. refl) (λ a. refl) h
link_read line l (link_verb.Pump k) h =
    let low : k < 2 ^ 64 = omega (arith, h.0.1.1) in
    counted_read line l k link_verb.Pump (frames_of (decimal k)) low refl (in_frames k h.0.1.0 h.0.1.1 low) (λ rest. refl, λ rest. refl) (λ a. refl) h
link_read line l link_verb.Drop h =
    link_row line l link_verb.Drop [] (λ rest. refl, λ rest. refl) refl (λ a. then_made (λ l. verb.AtLink l link_verb.Drop) (connection_of a)) h
link_read line l link_verb.Cut h =
    link_row line l link_verb.Cut [] (λ rest. refl, λ rest. refl) refl (λ a. then_made (λ l. verb.AtLink l link_verb.Cut) (connection_of a)) h

mode_read : (t : Bool) → link_mode (mode_word t) ≡ Some t
mode_read false = refl
mode_read true = refl

mode_alone : (t : Bool) → words_of (mode_word t) ≡ mode_word t ∷ []
mode_alone false = refl
mode_alone true = refl

terms_read : (b : ℕ) (t : Bool) → b < 2 ^ 32 → b < 2 ^ 64 → terms_in (decimal b) (mode_word t) ≡ Some (b, t)
unfolding terms_in
terms_read b t fits low =
    ap (option_and_then (λ b. option_map (λ m. (b, m)) (link_mode (mode_word t)))) (in_limit BUFFERS b fits low) ∙ ap (option_map (λ m. (b, m))) (mode_read t)

link_made_read : (line : List ℕ) (l m n k b : ℕ) (t : Bool) → Says line (verb.Link l m n k b t) → IsRead line (verb.Link l m n k b t)
link_made_read line l m n k b t h =
    let l_low : l < 2 ^ 64 = omega (arith, h.0.0) in
    let m_low : m < 2 ^ 64 = omega (arith, h.0.1) in
    let n_low : n < 2 ^ 64 = omega (arith, h.0.2) in
    let k_low : k < 2 ^ 64 = omega (arith, h.0.3) in
    let b_low : b < 2 ^ 64 = omega (arith, h.0.4) in
    let last = decimal b ∷ mode_word t ∷ [] in
    let end = 32 ∷ (decimal b ++ 32 ∷ mode_word t) in
    let terms = terms_in (decimal b) (mode_word t) in
    word_read line (codes "link") (decimal l ++ 32 ∷ (decimal m ++ 32 ∷ (decimal n ++ 32 ∷ (decimal k ++ end))))
    (decimal l ∷ decimal m ∷ decimal n ∷ decimal k ∷ last) (verb.Link l m n k b t) (λ rest. refl, λ rest. refl) h.1
    (first (decimal l) (decimal m ++ 32 ∷ (decimal n ++ 32 ∷ (decimal k ++ end))) (decimal m ∷ decimal n ∷ decimal k ∷ last) (decimal_word l l_low)
    (first (decimal m) (decimal n ++ 32 ∷ (decimal k ++ end)) (decimal n ∷ decimal k ∷ last) (decimal_word m m_low)
    (numbered n k end last n_low k_low (refl, first (decimal b) (mode_word t) (mode_word t ∷ []) (decimal_word b b_low) (mode_alone t)))))
    (ap (option_and_then (λ l. option_and_then (λ m. option_and_then (λ n. option_and_then (λ k. option_map (λ t. verb.Link l m n k t.0 t.1) terms) (vbucket_of (decimal k))) (node_of (decimal n))) (node_of (decimal m)))) (in_limit CONNECTIONS l h.0.0 l_low)
    ∙ ap (option_and_then (λ m. option_and_then (λ n. option_and_then (λ k. option_map (λ t. verb.Link l m n k t.0 t.1) terms) (vbucket_of (decimal k))) (node_of (decimal n)))) (in_limit NODES m h.0.1 m_low)
    ∙ ap (option_and_then (λ n. option_and_then (λ k. option_map (λ t. verb.Link l m n k t.0 t.1) terms) (vbucket_of (decimal k)))) (in_limit NODES n h.0.2 n_low)
    ∙ ap (option_and_then (λ k. option_map (λ t. verb.Link l m n k t.0 t.1) terms)) (in_limit VBUCKETS k h.0.3 k_low)
    ∙ ap (option_map (λ t. verb.Link l m n k t.0 t.1)) (terms_read b t h.0.4 b_low))

pub spelled_read : (line : List ℕ) (v : Verb) → Says line v → IsRead line v
spelled_read line (verb.Node n) h =
    let low : n < 2 ^ 64 = omega (arith, h.0) in
    word_read line (codes "node") (decimal n) (decimal n ∷ []) (verb.Node n) (λ rest. refl, λ rest. refl) h.1 (one (decimal n) (decimal_word n low))
    (ap (option_map verb.Node) (in_limit NODES n h.0 low))
spelled_read line (verb.Link l m n k b t) h = link_made_read line l m n k b t h
spelled_read line (verb.AtNode n what) h = node_read line n what h
spelled_read line (verb.AtVb n k what) h = vb_read line n k what h
spelled_read line (verb.AtClient n c what) h = client_read line n c what h
spelled_read line (verb.AtLink l what) h = link_read line l what h

pub lines_say : (line : List ℕ) (v : Verb) → (verb_of (words_of line) ≡ Some v) ↔ Says line v
lines_say line v = (λ h. subst (λ l. Says l v) (join_with_byte-slice_split 32 line) (words_spelled (words_of line) v h), λ h. (spelled_read line v h).0)
