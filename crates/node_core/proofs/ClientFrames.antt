-- a producer's lines with the frames that they tell of
use Rattle.std.proofs.Common.{◌≡◌, ◌<◌, ◌≤◌, ℕ, zero, suc, ◌+◌, List, [], ◌∷◌, ◌++◌, length, take, drop, get_or, arith, add-one, sym, ap, ◌∙◌, append_assoc}
use Rattle.std.proofs.Math.Seq.{drop-cons, drop-nil}
use Rattle.vb_events.specs.declared.event.Event.{Event}
use Rattle.vb_events.specs.declared.event.Event.TheVariants as event
use Rattle.node_core.specs.Clients.{front_len, reply_alone, with_replies}

-- one line more, with its frame
pub told_more : (n c : ℕ) (told : List Event) (i : ℕ) (line : Event) (all lines : List Event) (out : List ℕ) → i < length told → line ≡ get_or told i line
    → all ≡ lines ++ with_replies n c (drop i told) out
    → all ≡ ((lines ++ line ∷ []) ++ event.Reply n c (take (front_len out) out) ∷ []) ++ with_replies n c (drop (i + 1) told) (drop (front_len out) out)
unfolding with_replies
told_more n c told i line all lines out below is so =
    let behind : List Event = with_replies n c (drop (suc i) told) (drop (front_len out) out) in
    let next : drop i told ≡ line ∷ drop (suc i) told = drop-cons told i line below ∙ ap (λ x. x ∷ drop (suc i) told) (sym is) in
    rw add-one (so ∙ ap (λ left. lines ++ with_replies n c left out) next
    ∙ sym (append_assoc (lines ++ line ∷ []) (event.Reply n c (take (front_len out) out) ∷ []) behind ∙ append_assoc lines (line ∷ []) (event.Reply n c (take (front_len out) out) ∷ behind)))

-- all lines were told: what is left stands alone
pub told_all : (n c : ℕ) (told : List Event) (i : ℕ) (all lines : List Event) (out : List ℕ) → length told ≤ i → all ≡ lines ++ with_replies n c (drop i told) out → all ≡ lines ++ reply_alone n c out
unfolding with_replies
told_all n c told i all lines out past so = so ∙ ap (λ left. lines ++ with_replies n c left out) (none told i past)
  where
    none : (xs : List Event) (k : ℕ) → length xs ≤ k → drop k xs ≡ []
    none [] k past = drop-nil k
    none (x ∷ xs) zero past = absurd (omega (arith, past))
    none (x ∷ xs) (suc k) past = none xs k (omega (arith, past))
