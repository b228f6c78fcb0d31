-- what is still to come
use Rattle.std.proofs.Common.{◌≡◌, ◌≢◌, ℕ, zero, suc, ◌+◌, ◌-◌, ◌<◌, ◌%◌, Bool, true, false, List, [], ◌∷◌, ◌++◌, drop, Some, None, refl, ap, sym, ◌∙◌, append_assoc, add-one, arith}
use Rattle.std.specs.Prelude.{◌==◌, ◌||◌, if◌then◌else◌}
use Rattle.std.specs.List.{slice_get}
use Rattle.script_text.specs.declared.verb.Verb.{Verb}
use Rattle.script_gen.specs.Writes.{stepped, write_verb}
use Rattle.script_gen.specs.Scripts.{carrying, closing, writes_from}
use Rattle.script_gen.specs.Courses.{fixed_verbs, behind_part, verbs_left, part_behind, written}
use Rattle.script_gen.specs.declared.generator.Part.{Part}
use Rattle.script_gen.specs.declared.generator.Part.TheVariants as part
use Rattle.script_gen.specs.declared.generator.Course.{Course}

-- the one at a place is the first of those from there on
from_place : {A : Type 0} (xs : List A) (at : ℕ) (x : A) → slice_get xs at ≡ Some x → drop at xs ≡ x ∷ drop (suc at) xs
from_place [] at x h = absurd (cc h)
from_place (y ∷ ys) zero x h = cc h
from_place (y ∷ ys) (suc at) x h = from_place ys at x h

past_all : {A : Type 0} (xs : List A) (at : ℕ) → slice_get xs at ≡ None → drop at xs ≡ []
past_all [] zero h = refl
past_all [] (suc at) h = refl
past_all (y ∷ ys) zero h = absurd (cc h)
past_all (y ∷ ys) (suc at) h = past_all ys at h

-- a line of the part
pub fixed_given : (c : Course) (v : Verb) → slice_get (fixed_verbs c.part) c.given ≡ Some v → verbs_left c ≡ v ∷ verbs_left (record c { given = c.given + 1 })
fixed_given c v h =
    ap (λ front. front ++ behind_part c.part c.left c.made c.word)
    (from_place (fixed_verbs c.part) c.given v h ∙ ap (λ n. v ∷ drop n (fixed_verbs c.part)) (sym (add-one c.given)))

-- with all lines of the part given
behind_all : (c : Course) → slice_get (fixed_verbs c.part) c.given ≡ None → verbs_left c ≡ behind_part c.part c.left c.made c.word
behind_all c h = ap (λ front. front ++ behind_part c.part c.left c.made c.word) (past_all (fixed_verbs c.part) c.given h)

writes_behind : (p : Part) (left made x : ℕ) → p ≢ part.Closing → behind_part p left made x ≡ writes_from left made x ++ closing
writes_behind part.Opening left made x h = refl
writes_behind part.Writing left made x h = refl
writes_behind part.Carrying left made x h = refl
writes_behind part.Closing left made x h = absurd (h refl)

pub nothing_left : (c : Course) → slice_get (fixed_verbs c.part) c.given ≡ None → c.part ≡ part.Closing → verbs_left c ≡ []
nothing_left c h e = behind_all c h ∙ ap (λ p. behind_part p c.left c.made c.word) e

pub closing_left : (c : Course) → slice_get (fixed_verbs c.part) c.given ≡ None → c.part ≢ part.Closing → c.left ≡ 0 → verbs_left c ≡ closing
unfolding writes_from
closing_left c h e none =
    behind_all c h ∙ writes_behind c.part c.left c.made c.word e ∙ ap (λ left. writes_from left c.made c.word ++ closing) none

-- a write and what stands behind it
behind_is : (t : Bool) (left made x : ℕ)
    → (let p = if t then part.Carrying else part.Writing in fixed_verbs p ++ behind_part p left made x)
    ≡ ((if t then carrying else []) ++ writes_from left made x) ++ closing
behind_is true left made x = sym (append_assoc carrying (writes_from left made x) closing)
behind_is false left made x = refl

written_is : (left made x : ℕ) → 0 < left
    → writes_from left made x ++ closing
    ≡ write_verb (made + 1) (stepped x)
    ∷ (fixed_verbs (part_behind (made + 1) (left - 1)) ++ behind_part (part_behind (made + 1) (left - 1)) (left - 1) (made + 1) (stepped x))
unfolding writes_from
written_is zero made x h = absurd (omega arith)
written_is (suc left) made x h =
    ap (λ more. write_verb (made + 1) (stepped x) ∷ more)
    (sym (behind_is ((made + 1) % 64 == 0 || left == 0) left (made + 1) (stepped x))
    ∙ ap (λ n. fixed_verbs (part_behind (made + 1) n) ++ behind_part (part_behind (made + 1) n) n (made + 1) (stepped x)) (let e : left ≡ suc left - 1 = omega arith in e))

pub write_given : (c : Course) → slice_get (fixed_verbs c.part) c.given ≡ None → c.part ≢ part.Closing → 0 < c.left
    → verbs_left c ≡ write_verb (c.made + 1) (stepped c.word) ∷ verbs_left (written c)
write_given c h e some = behind_all c h ∙ writes_behind c.part c.left c.made c.word e ∙ written_is c.left c.made c.word some

pub ruleset course_steps = (fixed_given, nothing_left, closing_left, write_given)
