-- what is read as acts and changes is their spelling, and they fit their fields
use Rattle.std.proofs.Common.{◌≡◌, ℕ, zero, suc, ◌+◌, ◌-◌, ◌≤◌, ◌++◌, Bool, true, false, List, [], ◌∷◌, length, take, drop, cond, refl, ap, sym, ◌∙◌, subst, arith, append_assoc}
use Rattle.std.specs.Prelude.{Option, Some, None, ◌==◌, ◌&&◌, nat_lt, nat_le, slice_index, slice_range, option_and_then}
use Rattle.std.specs.Int.{w64, to_be_bytes}
use Rattle.std.specs.List.{flat_map, All}
use Rattle.std.proofs.lemmas.Bool.{eqb-true}
use Rattle.std.proofs.lemmas.Bool.Decides.{nat_tests}
use Rattle.std.proofs.lemmas.List.{take-append-drop}
use Rattle.std.proofs.lemmas.List.Elements.{All-nil, All-cons}
use Rattle.vb_types.specs.declared.change.Act.{Act}
use Rattle.vb_types.specs.declared.change.Act.TheVariants as act
use Rattle.vb_types.specs.declared.change.Change.{Change}
use Rattle.vb_types.specs.declared.change.Level.{Level}
use Rattle.vb_types.specs.Levels.{level_of}
use Rattle.vb_types.proofs.Levels.{numbered}
use Rattle.vb_types.specs.declared.doc.Doc.{Doc}
use Rattle.vb_journal.specs.Fitting.{AreBytes, ActFits, ItemFits}
use Rattle.vb_journal.specs.Payloads.{doc_bytes, act_byte, act_bytes, item_bytes, flag_byte, flag_in, number_64, front_map, doc_in, remove_in, prepare_from, prepare_in, commit_from, commit_in, abort_in, act_in, key_end, item_from, item_in, items_in}
use Rattle.vb_journal.proofs.Words.{length_part, below_64, word_8, word_64, behind}
use Rattle.vb_journal.proofs.PartsOnce.{past, pair, drop_bytes, rest_bytes, doc_once}

flag_by : (n : ℕ) (f : Bool) (a b : Bool) → (n == 0) ≡ a → (n == 1) ≡ b → cond a (Some false) (cond b (Some true) None) ≡ Some f → n ≡ flag_byte f
flag_by n f true b p q e = eqb-true n 0 p ∙ ap flag_byte (let same : false ≡ f = cc in same)
flag_by n f false true p q e = eqb-true n 1 q ∙ ap flag_byte (let same : true ≡ f = cc in same)
flag_by n f false false p q e = cc

-- a flag that is read
flag_once : (n : ℕ) (f : Bool) → flag_in n ≡ Some f → n ≡ flag_byte f
flag_once n f e = flag_by n f (n == 0) (n == 1) refl refl e

-- bytes say this act under this number, with this rest
abbrev Says : ℕ → List ℕ → Act × List ℕ → Type 0
Says n bytes p = (n ≡ act_byte p.0) × (bytes ≡ act_bytes p.0 ++ p.1) × ActFits p.0

same_said : (n : ℕ) (bytes : List ℕ) (p q : Act × List ℕ) → Some p ≡ Some q → Says n bytes p → Says n bytes q
same_said n bytes p q e s = let same : p ≡ q = cc in subst (Says n bytes) same s

set_by : (bytes : List ℕ) (p : Act × List ℕ) (o : Option (Doc × List ℕ)) → AreBytes bytes → doc_in bytes ≡ o → front_map (λ d. act.Set d) o ≡ Some p → Says 1 bytes p
unfolding act_bytes
set_by bytes p None h is e = cc
set_by bytes p (Some (d, rest)) h is e = same_said 1 bytes (act.Set d, rest) p e (let (spelled, fits) = doc_once bytes d rest h is in (refl, spelled, fits))

remove_once : (bytes : List ℕ) (p : Act × List ℕ) → AreBytes bytes → remove_in bytes ≡ Some p → Says 2 bytes p
unfolding act_bytes
remove_once bytes p h e =
    let (head, e1) = past (nat_lt (length bytes) 16) _ _ e in
    let long : 16 ≤ length bytes = grind (arith, nat_tests, head) in
    same_said 2 bytes (act.Remove (number_64 bytes 0) (number_64 bytes 8), drop 16 bytes) p e1 (
      refl,
      sym (take-append-drop 16 bytes) ∙ ap (λ l. l ++ drop 16 bytes) (sym (behind bytes _ _ 8 8 (word_64 bytes 0 h (omega arith)) (word_64 bytes 8 h (omega arith)))),
      (below_64 bytes 0 h, below_64 bytes 8 h),
    )

prepare_by : (bytes : List ℕ) (p : Act × List ℕ) (l : Option Level) (f : Option Bool) (o : Option (Doc × List ℕ)) → AreBytes bytes → 2 ≤ length bytes
    → level_of (slice_index bytes 0) ≡ l → flag_in (slice_index bytes 1) ≡ f → doc_in (drop 2 bytes) ≡ o → prepare_from l f o ≡ Some p → Says 3 bytes p
unfolding act_bytes
prepare_by bytes p None f o h long a b is e = cc
prepare_by bytes p (Some l) None o h long a b is e = cc
prepare_by bytes p (Some l) (Some f) None h long a b is e = cc
prepare_by bytes p (Some l) (Some f) (Some (d, rest)) h long a b is e =
    let (spelled, fits) = doc_once (drop 2 bytes) d rest (drop_bytes 2 bytes h) is in
    same_said 3 bytes (act.Prepare l d f, rest) p e (
      refl,
      sym (take-append-drop 2 bytes) ∙ (λ i. sym (behind bytes _ _ 1 1 (word_8 bytes 0 (omega arith)) (word_8 bytes 1 (omega arith))) i ++ spelled i)
          ∙ (λ i. (numbered (slice_index bytes 0) l).0 a i ∷ flag_once (slice_index bytes 1) f b i ∷ doc_bytes d ++ rest),
      fits,
    )

commit_by : (bytes : List ℕ) (p : Act × List ℕ) (f : Option Bool) (o : Option (Doc × List ℕ)) → AreBytes bytes → 9 ≤ length bytes
    → flag_in (slice_index bytes 8) ≡ f → doc_in (drop 9 bytes) ≡ o → commit_from (number_64 bytes 0) f o ≡ Some p → Says 4 bytes p
unfolding act_bytes
commit_by bytes p None o h long b is e = cc
commit_by bytes p (Some f) None h long b is e = cc
commit_by bytes p (Some f) (Some (d, rest)) h long b is e =
    let (spelled, fits) = doc_once (drop 9 bytes) d rest (drop_bytes 9 bytes h) is in
    same_said 4 bytes (act.Commit (number_64 bytes 0) d f, rest) p e (
      refl,
      sym (take-append-drop 9 bytes) ∙ (λ i. sym (behind bytes _ _ 8 1 (word_64 bytes 0 h (omega arith)) (word_8 bytes 8 (omega arith))) i ++ spelled i)
          ∙ (λ i. to_be_bytes w64 (number_64 bytes 0) ++ flag_once (slice_index bytes 8) f b i ∷ doc_bytes d ++ rest),
      (below_64 bytes 0 h, fits),
    )

abort_once : (bytes : List ℕ) (p : Act × List ℕ) → AreBytes bytes → abort_in bytes ≡ Some p → Says 5 bytes p
unfolding act_bytes
abort_once bytes p h e =
    let (head, e1) = past (nat_lt (length bytes) 8) _ _ e in
    let long : 8 ≤ length bytes = grind (arith, nat_tests, head) in
    same_said 5 bytes (act.Abort (number_64 bytes 0), drop 8 bytes) p e1
    (refl, sym (take-append-drop 8 bytes) ∙ ap (λ l. l ++ drop 8 bytes) (sym (word_64 bytes 0 h (omega arith))), below_64 bytes 0 h)

prepare_once : (bytes : List ℕ) (p : Act × List ℕ) → AreBytes bytes → prepare_in bytes ≡ Some p → Says 3 bytes p
prepare_once bytes p h e =
    let (head, e1) = past (nat_lt (length bytes) 2) _ _ e in
    prepare_by bytes p _ _ _ h (grind (arith, nat_tests, head)) refl refl refl e1

commit_once : (bytes : List ℕ) (p : Act × List ℕ) → AreBytes bytes → commit_in bytes ≡ Some p → Says 4 bytes p
commit_once bytes p h e =
    let (head, e1) = past (nat_lt (length bytes) 9) _ _ e in
    commit_by bytes p _ _ h (grind (arith, nat_tests, head)) refl refl e1

module _ (n : ℕ) (bytes : List ℕ) (p : Act × List ℕ) (h : AreBytes bytes) where
  -- the number is the act's
  at_number : (k : ℕ) → (n == k) ≡ true → Says k bytes p → Says n bytes p
  at_number k e s = subst (λ m. Says m bytes p) (sym (eqb-true n k e)) s

  act_by : (a b c d e : Bool) → (n == 1) ≡ a → (n == 2) ≡ b → (n == 3) ≡ c → (n == 4) ≡ d → (n == 5) ≡ e
      → cond a (front_map (λ d. act.Set d) (doc_in bytes)) (cond b (remove_in bytes) (cond c (prepare_in bytes) (cond d (commit_in bytes) (cond e (abort_in bytes) None)))) ≡ Some p → Says n bytes p
  act_by true b c d e i j k l m is = at_number 1 i (set_by bytes p (doc_in bytes) h refl is)
  act_by false true c d e i j k l m is = at_number 2 j (remove_once bytes p h is)
  act_by false false true d e i j k l m is = at_number 3 k (prepare_once bytes p h is)
  act_by false false false true e i j k l m is = at_number 4 l (commit_once bytes p h is)
  act_by false false false false true i j k l m is = at_number 5 m (abort_once bytes p h is)
  act_by false false false false false i j k l m is = cc

  pub act_once : act_in n bytes ≡ Some p → Says n bytes p
  unfolding act_in
  act_once e = act_by (n == 1) (n == 2) (n == 3) (n == 4) (n == 5) refl refl refl refl refl e

-- the change of bytes with room for the key behind the head, and with this act
module _ (bytes : List ℕ) (h : AreBytes bytes) (head : 10 ≤ length bytes) (whole : 10 + slice_index bytes 9 ≤ length bytes) where
  abbrev end : ℕ
  end = 10 + slice_index bytes 9

  abbrev key : List ℕ
  key = slice_range bytes 10 end

  key_len : length key ≡ slice_index bytes 9
  key_len = let size : end - 10 ≡ slice_index bytes 9 = omega arith in ap (λ n. length (take n (drop 10 bytes))) size ∙ length_part bytes 10 (slice_index bytes 9) (omega arith)

  front_spelled : to_be_bytes w64 (number_64 bytes 0) ++ slice_index bytes 8 ∷ slice_index bytes 9 ∷ key ≡ take end bytes
  front_spelled =
      let size : end - 10 ≡ slice_index bytes 9 = omega arith in
      behind bytes _ key 10 (slice_index bytes 9)
      (behind bytes _ _ 9 1 (behind bytes _ _ 8 1 (word_64 bytes 0 h (omega arith)) (word_8 bytes 8 (omega arith))) (word_8 bytes 9 (omega arith)))
      (ap (λ n. take n (drop 10 bytes)) size)

  item_spelled : (a : Act) (rest : List ℕ) → Says (slice_index bytes 8) (drop end bytes) (a, rest) → bytes ≡ item_bytes (record { seq = number_64 bytes 0; key = key; act = a }) ++ rest
  unfolding item_bytes
  item_spelled a rest says =
      let (number, spelled, fits) = says in
      sym (take-append-drop end bytes) ∙ (λ i. sym front_spelled i ++ spelled i)
      ∙ sym (append_assoc (to_be_bytes w64 (number_64 bytes 0) ++ slice_index bytes 8 ∷ slice_index bytes 9 ∷ key) (act_bytes a) rest)
      ∙ (λ i. ((to_be_bytes w64 (number_64 bytes 0) ++ number i ∷ sym key_len i ∷ key) ++ act_bytes a) ++ rest)

-- a change is read where its key is one and its act is read
item_read : (seq : ℕ) (key : List ℕ) (t : Bool) (o : Option (Act × List ℕ)) (p : Change × List ℕ) → item_from seq (cond t (Some key) None) o ≡ Some p
    → (q : Act × List ℕ) × (t ≡ true) × (o ≡ Some q) × (record { seq = seq; key = key; act = q.0 } ≡ p.0) × (q.1 ≡ p.1)
item_read seq key false o p e = cc
item_read seq key true None p e = cc
item_read seq key true (Some q) p e = let (a, b) = pair e in (q, refl, refl, a, b)

two_tests : (a b : Bool) → (a && b) ≡ true → (a ≡ true) × (b ≡ true)
two_tests true b e = (refl, e)
two_tests false b e = cc

pub item_once : (bytes : List ℕ) (p : Change × List ℕ) → AreBytes bytes → item_in bytes ≡ Some p → (bytes ≡ item_bytes p.0 ++ p.1) × ItemFits p.0
unfolding item_in
item_once bytes p h e =
    let (head, e1) = past (nat_lt (length bytes) 10) _ _ e in
    let (whole, e2) = past (nat_lt (length bytes) (key_end bytes)) _ _ e1 in
    let end : ℕ = 10 + slice_index bytes 9 in
    let key : List ℕ = slice_range bytes 10 end in
    let (q, fits, acts, is, left) = item_read (number_64 bytes 0) key (nat_le 1 (length key) && nat_le (length key) 250) (act_in (slice_index bytes 8) (drop end bytes)) p e2 in
    let (some, short) = two_tests (nat_le 1 (length key)) (nat_le (length key) 250) fits in
    let long : 10 ≤ length bytes = grind (arith, nat_tests, head) in
    let far : end ≤ length bytes = grind (arith, nat_tests, whole) in
    let says = act_once (slice_index bytes 8) (drop end bytes) q (drop_bytes end bytes h) acts in (
      item_spelled bytes h long far q.0 q.1 says ∙ (λ i. item_bytes (is i) ++ left i),
      subst ItemFits is (record { seq = below_64 bytes 0 h; key = (grind (arith, nat_tests, some), grind (arith, nat_tests, short)); act = says.2 }),
    )

-- so many changes that are read
abbrev AreRead : ℕ → List ℕ → List Change × List ℕ → Type 0
AreRead n bytes p = (bytes ≡ flat_map item_bytes p.0 ++ p.1) × All ItemFits p.0 × (length p.0 ≡ n)

one_more : (n : ℕ) (bytes : List ℕ) (c : Change) (left : List ℕ) (p : List Change × List ℕ) → bytes ≡ item_bytes c ++ left → ItemFits c → AreRead n left p → AreRead (suc n) bytes (c ∷ p.0, p.1)
one_more n bytes c left p spelled fits read =
    let (more, fit, count) = read in
    (spelled ∙ ap (λ l. item_bytes c ++ l) more ∙ sym (append_assoc (item_bytes c) (flat_map item_bytes p.0) p.1), All-cons ItemFits c p.0 fits fit, ap suc count)

-- what is said of the changes behind the first
abbrev EachRead : ℕ → Type 0
EachRead n = (bytes : List ℕ) (p : List Change × List ℕ) → AreBytes bytes → items_in n bytes ≡ Some p → AreRead n bytes p

more_once : (n : ℕ) (bytes : List ℕ) (c : Change) (left : List ℕ) (p : List Change × List ℕ) (o : Option (List Change × List ℕ)) → EachRead n → bytes ≡ item_bytes c ++ left → ItemFits c
    → AreBytes left → items_in n left ≡ o → front_map (λ more. c ∷ more) o ≡ Some p → AreRead (suc n) bytes p
more_once n bytes c left p None later spelled fits h is e = cc
more_once n bytes c left p (Some q) later spelled fits h is e =
    let all : List Change × List ℕ = (c ∷ q.0, q.1) in let same : all ≡ p = cc in
    subst (AreRead (suc n) bytes) same (one_more n bytes c left q spelled fits (later left q h is))

first_once : (n : ℕ) (bytes : List ℕ) (p : List Change × List ℕ) (o : Option (Change × List ℕ)) → EachRead n → AreBytes bytes → item_in bytes ≡ o
    → option_and_then (λ item. front_map (λ more. item.0 ∷ more) (items_in n item.1)) o ≡ Some p → AreRead (suc n) bytes p
first_once n bytes p None later h is e = cc
first_once n bytes p (Some (c, left)) later h is e =
    let (spelled, fits) = item_once bytes (c, left) h is in
    more_once n bytes c left p (items_in n left) later spelled fits (rest_bytes bytes (item_bytes c) left h spelled) refl e

pub items_once : (n : ℕ) → EachRead n
unfolding items_in
items_once zero bytes p h e = let none : List Change × List ℕ = ([], bytes) in let same : none ≡ p = cc in subst (AreRead 0 bytes) same (refl, All-nil ItemFits, refl)
items_once (suc n) bytes p h e = first_once n bytes p (item_in bytes) (items_once n) h refl e
