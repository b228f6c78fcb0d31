-- batches, what counts as saved, and rollbacks to it, judged by hand
use Rattle.std.specs.Prelude.{◌≡◌, ◌≤◌, ◌⊎◌, ◌∷◌, ◌++◌}
use Rattle.transcript_law.proofs.Words.{ℕ, [], refl, sym, arith, inl, inr, LawfulFrom, after_both, sent_back, rolled_lines}
use Rattle.vb_types.specs.declared.journal.Batch.{Batch}
use Rattle.transcript_law.specs.Chronicles.{Idle, Taken, Written}
use Rattle.transcript_law.specs.Journals.{within, taken, with_written, with_stood, batch_lines, stat_lines}
use Rattle.transcript_law.proofs.links.PumpAnswers.{two_numbers}
use Rattle.transcript_law.specs.LineAnswers.{LawfulAnswer}
use Rattle.script_text.specs.declared.verb.Verb.TheVariants as verb
use Rattle.script_text.specs.declared.verb.VbVerb.TheVariants as vb_verb
use Rattle.vb_events.specs.declared.event.Answer.TheVariants as answer
use Rattle.vb_events.specs.declared.event.Event.TheVariants as event
use Rattle.branch_model.specs.Journals.{image_at}
use Rattle.std.specs.FinMap as finite
use Rattle.transcript_law.proofs.Words.{List, subst, ap, length, ◌∙◌, Doc, Picture, image_of, one_change, after_got}
use Rattle.transcript_law.proofs.rows.Transcripts.{docs, no_entries}
use Rattle.transcript_law.specs.Lawfulness.{branch_image}
use Rattle.transcript_law.specs.Prefixes.{PointsAreBranch}
use Rattle.transcript_law.specs.Journals.{point_noted}
use Rattle.vb_events.specs.declared.event.Cause.TheVariants as cause

-- rollbacks
pub only_zero : (n : ℕ) → ((n ≡ 1) × (◌≡◌ {A = ℕ} 1 2)) ⊎ (n ≡ 0) → n ≤ 0
only_zero n (inl e) = omega (arith, e.1)
only_zero n (inr e) = omega (arith, e)

pub point : LawfulFrom (with_stood sent_back (within 1 1 ∷ []) 1) (rolled_lines 1 1)
point = (((1, 0, refl, refl), record { saved = inl (refl, refl); below = omega arith; farthest = λ n e l. l }), tt)

pub point_below : LawfulFrom (with_stood sent_back (within 1 1 ∷ []) 1) (rolled_lines 1 0) → ⊥
point_below l = omega (arith, l.0.1.farthest 1 (inl (refl, refl)) (omega arith))

pub inside : LawfulFrom (with_stood sent_back (within 2 1 ∷ []) 1) (rolled_lines 1 0)
inside = (((1, 0, refl, refl), record { saved = inr refl; below = omega arith; farthest = λ n e l. only_zero n e }), tt)

pub not_inside : LawfulFrom (with_stood sent_back (within 2 1 ∷ []) 1) (rolled_lines 1 1) → ⊥
not_inside l = omega (arith, only_zero 1 l.0.1.saved)

pub greatest : LawfulFrom (with_stood sent_back (within 2 2 ∷ within 1 1 ∷ []) 2) (rolled_lines 1 1 ++ stat_lines 1 1 0)
greatest = (
  ((1, 0, refl, refl), record { saved = inr (inl (refl, refl)); below = omega arith; farthest = λ n e l. l }),
  (record { saved_as_known = refl; high_held = refl; flusher = omega arith; filled = omega arith }, tt),
)

pub point_above : LawfulFrom (with_stood sent_back (within 2 2 ∷ within 1 1 ∷ []) 2) (rolled_lines 1 2) → ⊥
point_above l = omega (arith, l.0.1.below)

pub point_saved : LawfulFrom (with_stood sent_back (within 2 2 ∷ within 1 1 ∷ []) 2) (rolled_lines 1 1 ++ stat_lines 1 2 0) → ⊥
point_saved l = two_numbers 1 2 (omega arith) (sym l.1.0.saved_as_known)

-- the points that a journal tells
pub points_of_branch : PointsAreBranch after_got 1 0 (point_noted (one_change ∷ []))
points_of_branch p (inl e) = subst (λ q. image_at (point_noted (one_change ∷ [])) q ≡ branch_image after_got 1 0 q) (sym e) refl
points_of_branch p (inr (inl e)) = subst (λ q. image_at (point_noted (one_change ∷ [])) q ≡ branch_image after_got 1 0 q) (sym e) refl
points_of_branch p (inr (inr i)) = elim i [ ]

pub not_of_branch : PointsAreBranch after_got 1 0 (point_noted []) → ⊥
not_of_branch f =
    let images : image_of [] ≡ image_of (one_change ∷ []) = f 1 (inl refl) in
    let counts : ◌≡◌ {A = ℕ} 0 1 = sym (ap length (no_entries Doc)) ∙ ap (λ (i : Picture). length (finite.entries i.docs)) images ∙ ap length docs in
    omega arith

-- batches
pub both : LawfulFrom after_both (batch_lines 2 2 2)
both = (record { idle = refl; goes_on = omega arith; held = omega arith; starts = omega arith; ends = omega arith; some = omega arith; most = omega arith }, tt)

pub first : LawfulFrom after_both (batch_lines 2 1 1)
first = (record { idle = refl; goes_on = omega arith; held = omega arith; starts = omega arith; ends = omega arith; some = omega arith; most = omega arith }, tt)

pub beyond : LawfulFrom after_both (batch_lines 3 3 2) → ⊥
beyond l = let e : 3 ≤ 2 = l.0.held in omega (arith, e)

pub no_changes : LawfulFrom after_both (batch_lines 2 2 0) → ⊥
no_changes l = omega (arith, l.0.some)

pub more : LawfulFrom after_both (batch_lines 2 2 3) → ⊥
more l = let e : 3 ≤ 2 = l.0.most in omega (arith, e)

pub behind : LawfulFrom after_both (batch_lines 1 2 2) → ⊥
behind l = omega (arith, l.0.ends)

pub again : LawfulFrom (with_stood after_both (within 2 2 ∷ []) 0) (batch_lines 2 2 2) → ⊥
again l = omega (arith, l.0.goes_on)

pub rest : LawfulFrom (with_stood after_both (within 2 1 ∷ []) 1) (batch_lines 2 2 1)
rest = (record { idle = refl; goes_on = omega arith; held = omega arith; starts = omega arith; ends = omega arith; some = omega arith; most = omega arith }, tt)

pub rest_more : LawfulFrom (with_stood after_both (within 2 1 ∷ []) 1) (batch_lines 2 2 2) → ⊥
rest_more l = let e : 2 ≤ 1 = l.0.most in omega (arith, e)

not_idle : (b : Batch) → Taken b ≡ Idle → ⊥
not_idle b e = cc

pub batch_twice : LawfulFrom after_both (batch_lines 2 1 1 ++ batch_lines 2 2 1) → ⊥
batch_twice l = not_idle _ l.1.0.idle

pub in_front : LawfulFrom after_both (event.Batch 1 0 2 2 1 1 ∷ []) → ⊥
in_front l = omega (arith, l.0.starts)

written_idle : (n : ℕ) → Written n ≡ Idle → ⊥
written_idle n e = cc

pub undone : LawfulFrom (with_written after_both (Written 1) (within 2 1 ∷ []) 0) (batch_lines 2 2 1) → ⊥
undone l = written_idle 1 l.0.idle

-- what counts as saved
pub taken_other : LawfulAnswer after_both (verb.AtVb 1 0 vb_verb.Take) (batch_lines 2 2 2) (answer.Number 1) → ⊥
taken_other e = two_numbers 1 2 (omega arith) (sym (ap (λ (told : ℕ × (ℕ × ℕ)). told.1.1) e))

pub taken_elsewhere : LawfulAnswer after_both (verb.AtVb 2 0 vb_verb.Take) (batch_lines 2 2 2) (answer.Number 2) → ⊥
taken_elsewhere e = two_numbers 1 2 (omega arith) (ap (λ (told : ℕ × (ℕ × ℕ)). told.0) e)

none_told : (told : ℕ × (ℕ × ℕ)) (more : List (ℕ × (ℕ × ℕ))) → told ∷ more ≡ [] → ⊥
none_told told more e = cc

pub some_told : LawfulAnswer after_both (verb.AtVb 1 0 vb_verb.Take) (batch_lines 2 2 2) (answer.No cause.BatchOut) → ⊥
some_told e = none_told (1, (0, 2)) [] e

pub untaken : LawfulAnswer after_both (verb.AtVb 1 0 vb_verb.Save) [] answer.Ok → ⊥
untaken (noted, (b, e)) = not_idle b (sym e)

written_taken : (b : Batch) (n : ℕ) → Written n ≡ Taken b → ⊥
written_taken b n e = cc

pub twice : LawfulAnswer (with_written after_both (Written 2) (within 2 2 ∷ []) 0) (verb.AtVb 1 0 vb_verb.Save) [] answer.Ok → ⊥
twice (noted, (b, e)) = written_taken b 2 e

pub early : LawfulAnswer (with_written after_both (taken 2 2) [] 0) (verb.AtVb 1 0 vb_verb.Done) [] (answer.Number 2) → ⊥
early (end, e, said) = written_taken _ end (sym e)

ends_at : (m n : ℕ) → Written m ≡ Written n → m ≡ n
ends_at m n e = cc

pub falls : LawfulAnswer (with_written after_both (Written 2) (within 2 2 ∷ []) 1) (verb.AtVb 1 0 vb_verb.Done) [] (answer.Number 1) → ⊥
falls (end, e, said) = omega (arith, ends_at 2 end e, said)

pub less : LawfulAnswer (with_written after_both (Written 1) (within 2 1 ∷ []) 2) (verb.AtVb 1 0 vb_verb.Done) [] (answer.Number 1) → ⊥
less (end, e, said) = omega (arith, ends_at 1 end e, said)

pub empty_span : LawfulFrom (with_stood after_both (within 2 2 ∷ []) 2) (event.Stat 1 0 3 2 1 2 2 ∷ []) → ⊥
empty_span l = let e : 3 ≤ 2 = l.0.filled in omega (arith, e)
