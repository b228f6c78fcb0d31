-- a prepare that has what it needs is held by a majority, by what the lines tell; and what counts at a vBucket whose lines tell more
use Rattle.std.specs.Prelude.{◌≡◌, ◌+◌, ◌*◌, ◌<◌, ◌≤◌, ◌∷◌, ◌⊎◌, if◌then◌else◌, max, nat_le, slice_set}
use Rattle.std.specs.List.{filter}
use Rattle.std.proofs.lemmas.List.{get_or-set_same}
use Rattle.std.proofs.lemmas.Bool.{le-leb}
use Rattle.vb_types.specs.declared.change.Level.{Level}
use Rattle.transcript_law.proofs.Words.{ℕ, last_seq, Bool, zero, suc, true, false, List, [], length, refl, ap, sym, ◌∙◌, subst, inl, inr, ⊎_elim, arith, cases_lt, Chronicle, with_at}
use Rattle.durability.specs.{Chains.{Members, has_enough, holders, majority, chain_length, named}, Laws.{Differ, Each, HasMajority, HasOne}, Outstanding.{acked, no_acks, with_ack}, declared.waiting.Waiting.{Waiting}}
use Rattle.durability.proofs.Counts.{each_map, enough_saved, held_by, none_acked}
use Rattle.transcript_law.proofs.{invariant.Holdings.{CountsAre}, invariant.Tables.{at_here}}
use Rattle.transcript_law.specs.{Chronicles.{CountsKnown, alone}, Majorities.{HasAcknowledged, IsHeldByMost}}

-- more than half
more_than_half : (n k : ℕ) → majority n ≤ k + 1 → n < 2 * (1 + k)
more_than_half n k e = omega arith

-- what has enough is held by a majority
pub held_by_most : (told : CountsKnown) (others : Members) (acks : List ℕ) (saved : ℕ) (w : Waiting) → CountsAre told others acks → Differ (named others) → 0 < w.seq → has_enough (acked acks) others saved w ≡ true → IsHeldByMost told saved w.seq w.level
held_by_most told others acks saved w counts d low e =
    let held : HasMajority others (λ m. w.seq ≤ acked acks m) = held_by (acked acks) others saved w d e in
    record {
      members = held.0;
      differ = held.1;
      each = subst (λ ms. Each (λ m. HasOne m (named ms) × HasAcknowledged told.acks m w.seq) held.0) (sym counts.chain)
          (each_map (λ m. HasOne m (named others) × (w.seq ≤ acked acks m)) (λ m. HasOne m (named others) × HasAcknowledged told.acks m w.seq) held.0 (λ m h. (h.0, counts.counted m w.seq low h.1)) held.2);
      most = subst (λ ms. 1 + length ms < 2 * (1 + length held.0)) (sym counts.chain) (more_than_half (chain_length others) (length held.0) held.3);
      saved_for = enough_saved (acked acks) others saved w e;
    }

-- where numbers without another are those of a list, the list is longer than that without it
one_less : (x : ℕ) (ys : List ℕ) → HasOne x ys → (zs : List ℕ) × (length ys ≡ suc (length zs)) × ((m : ℕ) → HasOne m ys → (m ≡ x → ⊥) → HasOne m zs)
one_less x [] there = absurd there
one_less x (y ∷ ys) (inl is) = (ys, refl, λ m has ne. ⊎_elim (λ e. absurd (ne (e ∙ sym is))) (λ more. more) has)
one_less x (y ∷ ys) (inr there) =
    let (zs, long, rest) = one_less x ys there in (y ∷ zs, ap suc long, λ m has ne. ⊎_elim (λ e. inl e) (λ more. inr (rest m more ne)) has)

-- distinct numbers of a list are at most as many as it has
at_most : (xs ys : List ℕ) → Differ xs → Each (λ m. HasOne m ys) xs → length xs ≤ length ys
at_most [] ys d e = omega arith
at_most (x ∷ xs) ys d e =
    let (zs, long, rest) = one_less x ys e.0 in
    let less : length xs ≤ length zs = at_most xs zs d.1 (others xs d.0 e.1) in subst (λ k. suc (length xs) ≤ k) (sym long) (omega arith)
  where
    others : (more : List ℕ) → (HasOne x more → ⊥) → Each (λ m. HasOne m ys) more → Each (λ m. HasOne m (one_less x ys e.0).0) more
    others [] apart each = tt
    others (m ∷ more) apart each = ((one_less x ys e.0).2 m each.0 (λ same. apart (inl (sym same))), others more (λ i. apart (inr i)) each.1)

-- a number that passes a test is among those that do
among : (test : ℕ → Bool) (m : ℕ) (xs : List ℕ) → HasOne m xs → test m ≡ true → HasOne m (filter test xs)
among test m [] h e = absurd h
among test m (x ∷ xs) h e = by (test x) refl h (λ i. among test m xs i e)
  where
    by : (b : Bool) → test x ≡ b → HasOne m (x ∷ xs) → (HasOne m xs → HasOne m (filter test xs)) → HasOne m (if b then x ∷ filter test xs else filter test xs)
    by true t (inl is) rest = inl is
    by true t (inr i) rest = inr (rest i)
    by false t (inl is) rest = let z : true ≡ false = sym e ∙ ap test is ∙ t in cc
    by false t (inr i) rest = rest i

half_more : (n k : ℕ) → n < 2 * (1 + k) → majority n ≤ k + 1
half_more n k e = omega arith

-- and what a majority holds by what the lines tell has enough
pub most_have_it : (told : CountsKnown) (others : Members) (acks : List ℕ) (saved p : ℕ) (level : Level) → CountsAre told others acks → IsHeldByMost told saved p level → majority (chain_length others) ≤ length (holders (acked acks) others p) + 1
most_have_it told others acks saved p level counts held =
    let all : Each (λ m. HasOne m (holders (acked acks) others p)) held.members =
    each_map (λ m. HasOne m (named told.chain) × HasAcknowledged told.acks m p) (λ m. HasOne m (holders (acked acks) others p)) held.members
    (λ m h. among (λ q. nat_le p (acked acks q)) m (named others) (subst (λ ms. HasOne m (named ms)) counts.chain h.0) (le-leb p (acked acks m) (counts.alone m p h.1))) held.each in
    let few : length held.members ≤ length (holders (acked acks) others p) = at_most held.members (holders (acked acks) others p) held.differ all in
    let most : majority (chain_length others) ≤ length held.members + 1 = half_more (chain_length others) (length held.members) (subst (λ ms. 1 + length ms < 2 * (1 + length held.members)) counts.chain held.most) in omega arith

-- an active vBucket on a new branch is alone
pub alone_counts : (r : Chronicle) (n v : ℕ) → CountsAre (with_at r.counts_at n v (alone (last_seq 0 (r.held n v))) n v) [] no_acks
alone_counts r n v = subst (λ t. CountsAre t [] no_acks) (sym (at_here r.counts_at n v (alone (last_seq 0 (r.held n v))))) (record {
  chain = refl;
  counted = λ m p some most. let none : acked no_acks m ≡ 0 = none_acked 256 m in let z : 0 < p = some in let k : p ≤ acked no_acks m = most in absurd (not_both p (acked no_acks m) z k none);
  alone = λ m p told. absurd told;
})
  where
    not_both : (p k : ℕ) → 0 < p → p ≤ k → k ≡ 0 → ⊥
    not_both p k a b c = omega arith

-- what a node acknowledged where a number of a member was put
acked_put : (acks : List ℕ) (m q k : ℕ) → (acked (slice_set acks m q) k ≡ acked acks k) ⊎ ((k ≡ m) × (acked (slice_set acks m q) k ≡ q))
acked_put [] m q k = inl refl
acked_put (x ∷ xs) zero q zero = inr (refl, refl)
acked_put (x ∷ xs) zero q (suc k) = inl refl
acked_put (x ∷ xs) (suc m) q zero = inl refl
acked_put (x ∷ xs) (suc m) q (suc k) = ⊎_elim (λ e. inl e) (λ e. inr (ap suc e.0, e.1)) (acked_put xs m q k)

-- one more is counted
pub counts_more : (told : CountsKnown) (others : Members) (acks : List ℕ) (member seq : ℕ) → member < length acks → CountsAre told others acks → CountsAre (record told { acks = (member, seq) ∷ told.acks }) others (with_ack acks member seq)
counts_more told others acks member seq there x = record {
  chain = x.chain;
  counted = λ m p some most. counted m p some most (acked_put acks member (max (acked acks member) seq) m);
  alone = λ m p told. ⊎_elim (λ own. by_own m p own) (λ earlier. raised m p (acked_put acks member (max (acked acks member) seq) m) (x.alone m p earlier)) told;
}
  where
    -- the line's own number counts
    by_own : (m p : ℕ) → (m ≡ member) × (p ≤ seq) → p ≤ acked (with_ack acks member seq) m
    by_own m p (is, low) =
        let put : acked (with_ack acks member seq) member ≡ max (acked acks member) seq = get_or-set_same acks member (max (acked acks member) seq) 0 there in
        subst (λ k. p ≤ acked (with_ack acks member seq) k) (sym is) (subst (λ k. p ≤ k) (sym put) (omega arith))

    -- and no earlier one counts less
    raised : (m p : ℕ) → (acked (with_ack acks member seq) m ≡ acked acks m) ⊎ ((m ≡ member) × (acked (with_ack acks member seq) m ≡ max (acked acks member) seq)) → p ≤ acked acks m → p ≤ acked (with_ack acks member seq) m
    raised m p (inl e) low = subst (λ k. p ≤ k) (sym e) low
    raised m p (inr e) low = let k : p ≤ acked acks member = subst (λ q. p ≤ acked acks q) e.0 low in subst (λ q. p ≤ q) (sym e.1) (omega arith)

    counted : (m p : ℕ) → 0 < p → p ≤ acked (with_ack acks member seq) m → (acked (with_ack acks member seq) m ≡ acked acks m) ⊎ ((m ≡ member) × (acked (with_ack acks member seq) m ≡ max (acked acks member) seq))
        → HasAcknowledged ((member, seq) ∷ told.acks) m p
    counted m p some most (inl e) = inr (x.counted m p some (subst (λ k. p ≤ k) e most))
    counted m p some most (inr e) = ⊎_elim
        (λ above. inl (e.0, (let k : p ≤ max (acked acks member) seq = subst (λ k. p ≤ k) e.1 most in omega arith)))
        (λ low. inr (x.counted m p some (subst (λ k. p ≤ acked acks k) (sym e.0) low)))
        (cases_lt (acked acks member) p)
