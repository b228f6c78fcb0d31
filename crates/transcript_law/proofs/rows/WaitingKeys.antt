-- keys at which prepares wait, or none, where a vBucket made these changes
use Rattle.std.proofs.Common.{List, [], ap, arith, false, sym, ℕ, ◌<◌, ◌≤◌, ◌∙◌, ◌∷◌, ◌≡◌}
use Rattle.std.specs.FinMap.{get, get-empty, remove}
use Rattle.std.specs.Prelude.{Option, Some, None, if◌then◌else◌}
use Rattle.vb_types.proofs.Laws.{get-insert_other, get-insert_same}
use Rattle.vb_types.specs.Images.{Picture, image_of, is_older, nothing, settled}
use Rattle.vb_types.specs.Keys.{key_cmp}
use Rattle.vb_types.specs.declared.change.Level.TheVariants.{Majority}
use Rattle.vb_types.specs.declared.change.Pend.{Pend}
use Rattle.transcript_law.specs.AnswerRows.{once}
use Rattle.transcript_law.specs.ClientStreamRows.{pending}
use Rattle.transcript_law.specs.LawfulAnswers.{IsLeftUndone, IsLocked}
use Rattle.transcript_law.specs.Transcripts.{first_doc}
use Rattle.transcript_law.proofs.rows.NextRows.{keys_differ, seven_pending}

-- where none waits, a change of the committed side leaves none
settled_none : (seq : ℕ) (key : List ℕ) → settled nothing.pending seq key ≡ nothing.pending
settled_none seq key = ap (λ (o : Option Pend). if is_older seq o then remove nothing.pending key else nothing.pending) (get-empty key_cmp key)

-- nor do two
pub twice_pending : (a : ℕ) (one : List ℕ) (b : ℕ) (other key : List ℕ) → get (settled (settled nothing.pending a one) b other) key ≡ None
twice_pending a one b other key = ap (λ p. get (settled p b other) key) (settled_none a one) ∙ ap (λ p. get p key) (settled_none b other) ∙ get-empty key_cmp key

-- the prepare of the key 9 behind the first change
abbrev pub waits : Pend
waits = record { seq = 2; level = Majority; doc = first_doc 2 (6 ∷ []); deleted = false }

pub nine_waits : get (image_of pending).pending (9 ∷ []) ≡ Some waits
nine_waits = get-insert_same (image_of once).pending (9 ∷ []) waits

-- one that waits behind where the vBucket became active was not left, and one that waits up to there was
pub own_waits : (image : Picture) (key : List ℕ) (p : Pend) (risen : ℕ) → get image.pending key ≡ Some p → risen < p.seq → IsLeftUndone risen image key → ⊥
own_waits image key p risen there above left =
    let both : Some p ≡ Some left.0 = sym there ∙ left.1 in let same : p ≡ left.0 = cc in let seq : p.seq ≡ left.0.seq = ap (λ (q : Pend). q.seq) same in let low : left.0.seq ≤ risen = left.2 in omega (arith, above, seq, low)

pub left_waits : (image : Picture) (key : List ℕ) (p : Pend) (risen : ℕ) → get image.pending key ≡ Some p → p.seq ≤ risen → IsLocked risen image key → ⊥
left_waits image key p risen there low own =
    let both : Some p ≡ Some own.0 = sym there ∙ own.1 in let same : p ≡ own.0 = cc in let seq : p.seq ≡ own.0.seq = ap (λ (q : Pend). q.seq) same in let above : risen < own.0.seq = own.2 in omega (arith, above, seq, low)

pub nine_own : (risen : ℕ) → risen < 2 → IsLeftUndone risen (image_of pending) (9 ∷ []) → ⊥
nine_own risen above = own_waits (image_of pending) (9 ∷ []) waits risen nine_waits above

-- none waits at the key 7
pub seven_free : get (image_of pending).pending (7 ∷ []) ≡ None
seven_free = get-insert_other (image_of once).pending (9 ∷ []) waits (7 ∷ []) (keys_differ 9 7 (λ e. omega (arith, e))) ∙ seven_pending (first_doc 1 (8 ∷ [])) (7 ∷ [])
