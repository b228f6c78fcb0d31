-- where the lines of a generated script stand
use Rattle.std.proofs.Common.{◌≡◌, ◌⊎◌, ℕ, zero, suc, ◌+◌, ◌-◌, ◌*◌, ◌/◌, ◌%◌, ◌≤◌, Bool, true, false, List, [], ◌∷◌, ◌++◌, length, take, drop, Some, refl, ap, sym, ◌∙◌, inl, inr, append_assoc, length-append, arith}
use Rattle.std.specs.Prelude.{◌==◌, ◌||◌, if◌then◌else◌}
use Rattle.std.specs.List.{slice_get}
use Rattle.std.proofs.lemmas.Bool.{eq-eqb}
use Rattle.std.proofs.Math.Seq.{drop-append_seam}
use Rattle.script_text.specs.declared.verb.Verb.{Verb}
use Rattle.script_text.specs.declared.verb.ScriptLine.{ScriptLine}
use Rattle.script_gen.specs.Writes.{stepped, write_verb}
use Rattle.script_gen.specs.Scripts.{opening, carrying, closing, behind_write, writes_from, numbered, gen_verbs, gen_script}
use Rattle.script_gen.specs.Texts.{word_at}
use Rattle.script_gen.specs.Laws.{lines_before, lines_before_end, LinesStand}
use Rattle.script_gen.proofs.Places.{writes_long, Split, split, word_of_step}

-- ---- lists

at_seam : {A : Type 0} (xs : List A) (y : A) (ys : List A) → slice_get (xs ++ y ∷ ys) (length xs) ≡ Some y
at_seam [] y ys = refl
at_seam (x ∷ xs) y ys = at_seam xs y ys

past_seam : {A : Type 0} (xs : List A) (y : A) (ys : List A) → drop (suc (length xs)) (xs ++ y ∷ ys) ≡ ys
past_seam [] y ys = refl
past_seam (x ∷ xs) y ys = past_seam xs y ys

or_true : (t : Bool) → (t || true) ≡ true
or_true true = refl
or_true false = refl

-- ---- numbered verbs

pub numbered_long : (line : ℕ) (vs : List Verb) → length (numbered line vs) ≡ length vs
numbered_long line [] = refl
numbered_long line (v ∷ vs) = ap suc (numbered_long (line + 1) vs)

numbered_at : (first : ℕ) (vs : List Verb) (at : ℕ) (line : ScriptLine) → slice_get (numbered first vs) at ≡ Some line → line.line ≡ first + at
numbered_at first [] at line h = absurd (cc h)
numbered_at first (v ∷ vs) zero line h = let e : first ≡ line.line = (let s : record { line = first; verb = v } ≡ line = cc h in ap (λ (l : ScriptLine). l.line) s) in omega (arith, e)
numbered_at first (v ∷ vs) (suc at) line h = let e = numbered_at (first + 1) vs at line h in omega (arith, e)

pub numbered_front : (line : ℕ) (front rest : List Verb) → numbered line (front ++ rest) ≡ numbered line front ++ numbered (line + length front) rest
numbered_front line [] rest = ap (λ n. numbered n rest) (let e : line ≡ line + 0 = omega arith in e)
numbered_front line (v ∷ front) rest =
    ap (λ more. record { line = line; verb = v } ∷ more)
    (numbered_front (line + 1) front rest ∙ ap (λ n. numbered (line + 1) front ++ numbered n rest) (let e : line + 1 + length front ≡ line + suc (length front) = omega arith in e))

-- ---- a generated script

lines_many : (seed count : ℕ) → length (gen_script seed count) ≡ 9 + count + 6 * ((count + 63) / 64)
unfolding gen_script writes_from
lines_many seed zero = refl
lines_many seed (suc count) =
    let lines = numbered_long 1 (gen_verbs seed (suc count)) in
    let all = length-append (opening ++ writes_from (suc count) 0 seed) closing in
    let long = writes_long (suc count) 0 seed (omega arith) in
    omega (arith, lines, all, long)

-- the lines of write i and behind it
record Stands (seed count i later : ℕ) : Type 0 where
  front : List ScriptLine
  rest : List Verb
  is : gen_script seed count
      ≡ front ++ (record { line = lines_before i + 1; verb = write_verb i (word_at seed i) } ∷ numbered (lines_before i + 2) (behind_write i later ++ rest))
  long : length front ≡ lines_before i

-- verbs split so are lines split so
lines_split : (all front rest : List Verb) (v : Verb) (n : ℕ) → all ≡ front ++ (v ∷ rest) → length front ≡ n
    → numbered 1 all ≡ numbered 1 front ++ (record { line = n + 1; verb = v } ∷ numbered (n + 2) rest)
lines_split all front rest v n e long =
    ap (numbered 1) e ∙ numbered_front 1 front (v ∷ rest)
    ∙ (let here : 1 + length front ≡ n + 1 = omega (arith, long) in
    let next : 1 + length front + 1 ≡ n + 2 = omega (arith, long) in
    λ k. numbered 1 front ++ (record { line = here k; verb = v } ∷ numbered (next k) rest))

word_stands : (seed i : ℕ) → 1 ≤ i → word_at seed i ≡ word_at (stepped seed) (i - 1)
word_stands seed zero some = absurd (omega (arith, some))
word_stands seed (suc i) some = sym (word_of_step seed i) ∙ ap (word_at (stepped seed)) (let e : i ≡ suc i - 1 = omega arith in e)

-- parts, joined from the right
regroup : {A : Type 0} (o f : List A) (v : A) (b r c : List A) → (o ++ (f ++ (v ∷ (b ++ r)))) ++ c ≡ (o ++ f) ++ (v ∷ (b ++ (r ++ c)))
regroup o f v b r c = simp append_assoc

stands_by : (seed count i later : ℕ) → 1 ≤ i → Split count 0 seed i (word_at seed i) later → Stands seed count i later
unfolding gen_script
stands_by seed count i later some s =
    let before = s.long in
    let front = opening ++ s.front in
    let here = length-append opening s.front in
    let long : length front ≡ lines_before i = omega (arith, here, before, some) in
    let v = write_verb i (word_at seed i) in
    record {
      front = numbered 1 front;
      rest = s.rest ++ closing;
      is =
          lines_split (gen_verbs seed count) front (behind_write i later ++ (s.rest ++ closing)) v (lines_before i)
          (ap (λ vs. (opening ++ vs) ++ closing) s.is ∙ regroup opening s.front v (behind_write i later) s.rest closing) long;
      long = numbered_long 1 front ∙ long;
    }

stands : (seed count i : ℕ) → 1 ≤ i → i ≤ count → Stands seed count i (count - i)
stands seed count i some within =
    stands_by seed count i (count - i) some
    (split count 0 seed (i - 1) i (word_at seed i) (count - i) (omega (arith, some)) (omega (arith, within)) (word_stands seed i some))

-- ---- where they stand

at_place : {A : Type 0} (all front rest : List A) (x : A) (n : ℕ) → all ≡ front ++ (x ∷ rest) → length front ≡ n → slice_get all n ≡ Some x
at_place all front rest x n e long = ap (slice_get all) (sym long) ∙ ap (λ xs. slice_get xs (length front)) e ∙ at_seam front x rest

past_place : {A : Type 0} (all front rest : List A) (x : A) (n : ℕ) → all ≡ front ++ (x ∷ rest) → length front ≡ n → drop (n + 1) all ≡ rest
past_place all front rest x n e long = let next : n + 1 ≡ suc (length front) = omega (arith, long) in ap (λ k. drop k all) next ∙ ap (drop (suc (length front))) e ∙ past_seam front x rest

write_at : (seed count i later : ℕ) → Stands seed count i later
    → slice_get (gen_script seed count) (lines_before i) ≡ Some (record { line = lines_before i + 1; verb = write_verb i (word_at seed i) })
write_at seed count i later s = at_place _ s.front _ _ (lines_before i) s.is s.long

-- behind a 64th write and behind the last
is_due : (i later count : ℕ) → i + later ≡ count → (i % 64 ≡ 0) ⊎ (i ≡ count) → (i % 64 == 0 || later == 0) ≡ true
is_due i later count ends (inl full) = ap (λ t. t || later == 0) (eq-eqb (i % 64) 0 full)
is_due i later count ends (inr last) = let none : later ≡ 0 = omega (arith, ends, last) in ap (λ t. i % 64 == 0 || t) (eq-eqb later 0 none) ∙ or_true (i % 64 == 0)

carried_by : (line i later : ℕ) (rest : List Verb) → (i % 64 == 0 || later == 0) ≡ true → take 6 (numbered line (behind_write i later ++ rest)) ≡ numbered line carrying
carried_by line i later rest due = ap (λ t. take 6 (numbered line ((if t then carrying else []) ++ rest))) due

carried_at : (seed count i later : ℕ) → i + later ≡ count → (i % 64 ≡ 0) ⊎ (i ≡ count) → Stands seed count i later
    → take 6 (drop (lines_before i + 1) (gen_script seed count)) ≡ numbered (lines_before i + 2) carrying
carried_at seed count i later ends due s =
    ap (take 6) (past_place _ s.front _ _ (lines_before i) s.is s.long) ∙ carried_by (lines_before i + 2) i later s.rest (is_due i later count ends due)

last_at : (seed count : ℕ) → drop (lines_before_end count) (gen_script seed count) ≡ numbered (lines_before_end count + 1) closing
unfolding gen_script
last_at seed count =
    let all = opening ++ writes_from count 0 seed in
    let many = lines_many seed count in
    let lines = numbered_long 1 (gen_verbs seed count) in
    let both = length-append all closing in
    let long : length all ≡ lines_before_end count = omega (arith, many, lines, both) in
    let front : length (numbered 1 all) ≡ lines_before_end count = numbered_long 1 all ∙ long in
    let next : 1 + length all ≡ lines_before_end count + 1 = omega (arith, long) in
    ap (drop (lines_before_end count)) (numbered_front 1 all closing)
    ∙ ap (λ n. drop n (numbered 1 all ++ numbered (1 + length all) closing)) (sym front)
    ∙ drop-append_seam (numbered 1 all) (numbered (1 + length all) closing)
    ∙ ap (λ n. numbered n closing) next

first_at : (seed count : ℕ) → take 7 (gen_script seed count) ≡ numbered 1 opening
unfolding gen_script
first_at seed count = refl

numbers_at : (seed count at : ℕ) (line : ScriptLine) → slice_get (gen_script seed count) at ≡ Some line → line.line ≡ at + 1
unfolding gen_script
numbers_at seed count at line h = let e = numbered_at 1 (gen_verbs seed count) at line h in omega (arith, e)

pub lines_stand : (seed count : ℕ) → LinesStand seed count
lines_stand seed count = record {
  many = lines_many seed count;
  numbers = numbers_at seed count;
  first = first_at seed count;
  write = λ i some within. write_at seed count i (count - i) (stands seed count i some within);
  carried = λ i some within due. carried_at seed count i (count - i) (omega (arith, within)) due (stands seed count i some within);
  last = last_at seed count;
}
