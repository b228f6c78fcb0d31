-- tables by nodes and vBuckets, and ids that are used
use Rattle.std.specs.Prelude.{◌≡◌, ◌∷◌, ◌++◌, ◌==◌, ◌&&◌, ◌||◌, if◌then◌else◌}
use Rattle.transcript_law.proofs.Words.{ℕ, Bool, true, false, List, [], refl, ap, sym, ◌∙◌, subst, Option, Some, None, option_map, eqb-true, eqb-false}
use Rattle.transcript_law.proofs.Words.{eq-eqb, ne_eqb, is_one_of, Dial, Granted, Chronicle, with_at, is_dial_of, is_dial_for, with_stream, with_changed, after_end, past_mark, after_range, IsIfKnown}
use Rattle.transcript_law.proofs.Words.{list_any-append, or-true, StreamName, with_id, first_cause, is_some, Cause}

-- the table with x at (n, v) is judged at (m, w) by x there, and by the old table elsewhere
pub pick : {A : Type 0} (table : ℕ → ℕ → A) (n v : ℕ) (x : A) (P : A → Type 0) (m w : ℕ) → (m ≡ n → w ≡ v → P x) → ((m ≡ n → w ≡ v → ⊥) → P (table m w)) → P (with_at table n v x m w)
pick table n v x P m w here there = by (m == n) (w == v) refl refl
  where
    by : (a b : Bool) → (m == n) ≡ a → (w == v) ≡ b → P (if a && b then x else table m w)
    by true true e f = here (eqb-true m n e) (eqb-true w v f)
    by true false e f = there (λ s t. eqb-false w v f t)
    by false true e f = there (λ s t. eqb-false m n e s)
    by false false e f = there (λ s t. eqb-false m n e s)

pub at_here : {A : Type 0} (table : ℕ → ℕ → A) (n v : ℕ) (x : A) → with_at table n v x n v ≡ x
at_here table n v x = ap (λ b. if b && v == v then x else table n v) (eq-eqb n n refl) ∙ ap (λ b. if b then x else table n v) (eq-eqb v v refl)

pub at_there : {A : Type 0} (table : ℕ → ℕ → A) (n v : ℕ) (x : A) (m w : ℕ) → (m ≡ n → w ≡ v → ⊥) → with_at table n v x m w ≡ table m w
at_there table n v x m w other = pick table n v x (λ y. y ≡ table m w) m w (λ s t. absurd (other s t)) (λ o. refl)

-- the table with x for the id u
pub id_here : {A : Type 0} (table : ℕ → A) (u : ℕ) (x : A) → with_id table u x u ≡ x
id_here table u x = ap (λ b. if b then x else table u) (eq-eqb u u refl)

pub id_there : {A : Type 0} (table : ℕ → A) (u : ℕ) (x : A) (w : ℕ) → (u ≡ w → ⊥) → with_id table u x w ≡ table w
id_there table u x w ne = ap (λ b. if b then x else table w) (ne_eqb w u (λ e. ne (sym e)))

-- the streams of links, by the links' numbers
pub is_dialed : (dial : Option Dial) (m n v : ℕ) → dial ≡ Some (record { producer = m; node = n; vb = v }) → is_dial_of v dial ≡ true
is_dialed dial m n v e = ap (is_dial_of v) e ∙ eq-eqb v v refl

pub stream_here : (r : Chronicle) (l v : ℕ) (x : Option Granted) → (with_stream r (StreamName.Link l) v x).stream_of (StreamName.Link l) v ≡ x
stream_here r l v x =
    ap (λ b. if b && v == v then x else r.stream_of (StreamName.Link l) v) (eq-eqb l l refl) ∙ ap (λ b. if b then x else r.stream_of (StreamName.Link l) v) (eq-eqb v v refl)

pub stream_there : (r : Chronicle) (l v : ℕ) (x : Option Granted) (k q : ℕ) → (k ≡ l → ⊥) → (with_stream r (StreamName.Link l) v x).stream_of (StreamName.Link k) q ≡ r.stream_of (StreamName.Link k) q
stream_there r l v x k q ne = ap (λ b. if b && q == v then x else r.stream_of (StreamName.Link k) q) (ne_eqb k l ne)

pub changed_here : (r : Chronicle) (l v : ℕ) (f : Granted → Granted) → is_dial_of v (r.dial_of l) ≡ true
    → (with_changed r (StreamName.Link l) f).stream_of (StreamName.Link l) v ≡ option_map f (r.stream_of (StreamName.Link l) v)
changed_here r l v f dialed =
    ap (λ b. if b && is_dial_of v (r.dial_of l) then option_map f (r.stream_of (StreamName.Link l) v) else r.stream_of (StreamName.Link l) v) (eq-eqb l l refl)
    ∙ ap (λ b. if b then option_map f (r.stream_of (StreamName.Link l) v) else r.stream_of (StreamName.Link l) v) dialed

pub changed_there : (r : Chronicle) (l : ℕ) (f : Granted → Granted) (k q : ℕ) → (k ≡ l → ⊥) → (with_changed r (StreamName.Link l) f).stream_of (StreamName.Link k) q ≡ r.stream_of (StreamName.Link k) q
changed_there r l f k q ne = ap (λ b. if b && is_dial_of q (r.dial_of l) then option_map f (r.stream_of (StreamName.Link k) q) else r.stream_of (StreamName.Link k) q) (ne_eqb k l ne)

pub ended_there : (r : Chronicle) (l k q : ℕ) → (k ≡ l → ⊥) → (after_end r l).stream_of (StreamName.Link k) q ≡ r.stream_of (StreamName.Link k) q
ended_there r l k q ne = ap (λ b. if b then None else r.stream_of (StreamName.Link k) q) (ne_eqb k l ne)

-- the streams that feed a vBucket, after its next marker
pub range_here : (r : Chronicle) (l p n v ss se : ℕ) → r.dial_of l ≡ Some (record { producer = p; node = n; vb = v }) → (after_range r n v ss se).stream_of (StreamName.Link l) v ≡ option_map past_mark (r.stream_of (StreamName.Link l) v)
range_here r l p n v ss se dialed =
    let feeds : Bool → Option Granted = λ b. if b then option_map past_mark (r.stream_of (StreamName.Link l) v) else r.stream_of (StreamName.Link l) v in
    ap (λ o. feeds (is_dial_for n v o)) dialed ∙ ap (λ b. feeds (b && v == v)) (eq-eqb n n refl) ∙ ap feeds (eq-eqb v v refl)

pub range_there : (r : Chronicle) (n v ss se k q : ℕ) → is_dial_for n v (r.dial_of k) ≡ false → (after_range r n v ss se).stream_of (StreamName.Link k) q ≡ r.stream_of (StreamName.Link k) q
range_there r n v ss se k q other = ap (λ b. if b then option_map past_mark (r.stream_of (StreamName.Link k) q) else r.stream_of (StreamName.Link k) q) other

-- what is known to be this
pub if_known : {A : Type 0} (o : Option A) (x : A) → o ≡ Some x → IsIfKnown o x
if_known o x e = subst (λ p. IsIfKnown p x) (sym e) refl

-- ids that are used
pub used_before : (u : ℕ) (us more : List ℕ) → is_one_of u (us ++ more) ≡ false → is_one_of u us ≡ false
used_before u us more e = elim (is_one_of u us) as (λ a. (a || is_one_of u more) ≡ false → a ≡ false) [ true ↦ λ q. cc | false ↦ λ q. refl ] (sym (list_any-append (λ m. m == u) us more) ∙ e)

pub still_used : (u x : ℕ) (us : List ℕ) → is_one_of u us ≡ true → is_one_of u (us ++ x ∷ []) ≡ true
still_used u x us e = list_any-append (λ m. m == u) us (x ∷ []) ∙ ap (λ b. b || ((x == u) || false)) e

pub used_last : (u : ℕ) (us : List ℕ) → is_one_of u (us ++ u ∷ []) ≡ true
used_last u us = list_any-append (λ m. m == u) us (u ∷ []) ∙ ap (λ b. is_one_of u us || (b || false)) (eq-eqb u u refl) ∙ or-true (is_one_of u us)

both_false : (a b : Bool) → (a || (b || false)) ≡ false → (a ≡ false) × (b ≡ false)
both_false true b e = cc
both_false false true e = cc
both_false false false e = (refl, refl)

pub unused : (u x : ℕ) (us : List ℕ) → is_one_of u (us ++ x ∷ []) ≡ false → (is_one_of u us ≡ false) × (x ≡ u → ⊥)
unused u x us e =
    let p = both_false (is_one_of u us) (x == u) (sym (list_any-append (λ m. m == u) us (x ∷ [])) ∙ e) in
    (p.0, eqb-false x u p.1)

-- nothing is there
pub none_there : {A : Type 0} (o : Option A) → is_some o ≡ false → o ≡ None
none_there None e = refl
none_there (Some x) e = cc

-- none of these tests for a cause to refuse a line holds
abbrev pub NoneHold : List (Bool × Cause) → Type 0
NoneHold [] = Unit {0}
NoneHold (row ∷ rows) = (row.0 ≡ false) × NoneHold rows

-- where no cause is left
pub none_hold : (rows : List (Bool × Cause)) → first_cause rows ≡ None → NoneHold rows
none_hold [] e = tt
none_hold ((true, why) ∷ rows) e = cc
none_hold ((false, why) ∷ rows) e = (refl, none_hold rows e)

-- what is no case
pub never : {A : Type 0} → true ≡ false → A
never e = cc
