-- bytes that were written over, and past their end
use Rattle.std.proofs.Common.{◌≡◌, ℕ, ◌+◌, ◌≤◌, List, ◌++◌, length, take, drop, refl, sym, ◌∙◌, ap, arith, length-append, length-drop, take-append-drop, append_assoc}
use Rattle.std.proofs.lemmas.List.{take_at, drop_at, take-take, length-take-le, drop-take}
use Rattle.vb_disk.specs.Disks.{written, Torn}
use Rattle.vb_disk.specs.Laws.{IsWritten}

module _ (at : ℕ) (bytes old : List ℕ) (within : at ≤ length old) where
  front : length (take at old) ≡ at
  front = length-take-le at old within

  fronts : length (take at old ++ bytes) ≡ at + length bytes
  fronts = length-append (take at old) bytes ∙ ap (λ n. n + length bytes) front

  pub is_written : IsWritten at bytes old (written at bytes old)
  is_written = record {
    there =
        ap (λ n. take n (drop at (written at bytes old))) (omega arith)
        ∙ ap (λ l. take (length bytes) (drop at l)) (append_assoc (take at old) bytes (drop (at + length bytes) old))
        ∙ ap (take (length bytes)) (drop_at (take at old) (bytes ++ drop (at + length bytes) old) at front)
        ∙ take_at bytes (drop (at + length bytes) old) (length bytes) refl;
    before =
        ap (take at) (append_assoc (take at old) bytes (drop (at + length bytes) old))
        ∙ take_at (take at old) (bytes ++ drop (at + length bytes) old) at front;
    behind = drop_at (take at old ++ bytes) _ _ fronts;
    size = omega (arith, fronts, length-append (take at old ++ bytes) (drop (at + length bytes) old), length-drop (at + length bytes) old);
  }

pub only_written : (at : ℕ) (bytes old new : List ℕ) → at ≤ length old → IsWritten at bytes old new → new ≡ written at bytes old
only_written at bytes old new within is =
    sym (take-append-drop (at + length bytes) new)
    ∙ ap (λ l. l ++ drop (at + length bytes) new) (sym (take-append-drop at (take (at + length bytes) new)))
    ∙ (λ i. is_front i ++ is_mid i ++ is.behind i)
  where
    is_front : take at (take (at + length bytes) new) ≡ take at old
    is_front = take-take at (at + length bytes) new (omega arith) ∙ is.before

    is_mid : drop at (take (at + length bytes) new) ≡ bytes
    is_mid = drop-take at (length bytes) new ∙ ap (λ n. take n (drop at new)) (omega arith) ∙ is.there

pub written_is_torn : (at : ℕ) (bytes old : List ℕ) → at ≤ length old → Torn at (length bytes) old (written at bytes old)
written_is_torn at bytes old within =
    let is = is_written at bytes old within in record {
      before = is.before;
      behind = is.behind;
      no_shorter = omega (arith, is.size);
      no_longer = omega (arith, is.size);
    }

pub unwritten_is_torn : (at n : ℕ) (old : List ℕ) → Torn at n old old
unwritten_is_torn at n old = record { before = refl; behind = refl; no_shorter = omega arith; no_longer = omega arith }
