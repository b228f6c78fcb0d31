-- the streams of a client's producer as one is opened or closed, and what is known of them
use Rattle.std.specs.Prelude.{◌≡◌, ◌<◌, ◌∷◌, ◌++◌, ◌⊎◌, ◌==◌, if◌then◌else◌}
use Rattle.transcript_law.proofs.Words.{ℕ, Bool, true, false, List, [], refl, sym, ap, ◌∙◌, subst, inl, inr, ⊎_elim, arith, Some, None, option_or, find-append, eq-eqb, ne_eqb, eqb-true, eqb-false, PlainStream}
use Rattle.dcp_producer.specs.Producers.{Rising, stream_at as kept_at, without_id}
use Rattle.transcript_law.proofs.invariant.OpenStreams.{Among, all_among, without_cons}
use Rattle.transcript_law.specs.Feeding.{HasOpen, IsOpenAt}

-- ---- one more

-- it is the one of its vBucket, where there was none
pub at_opened_here : (v : ℕ) (streams : List PlainStream) (new : PlainStream) → kept_at v streams ≡ None → new.vb ≡ v → kept_at v (streams ++ new ∷ []) ≡ Some new
at_opened_here v streams new none is =
    find-append (λ (s : PlainStream). s.vb == v) streams (new ∷ [])
    ∙ ap (λ o. option_or o (if new.vb == v then Some new else None)) none
    ∙ ap (λ b. if b then Some new else None) (eq-eqb new.vb v is)

pub at_opened_there : (w : ℕ) (streams : List PlainStream) (new : PlainStream) → (new.vb ≡ w → ⊥) → kept_at w (streams ++ new ∷ []) ≡ kept_at w streams
at_opened_there w streams new other =
    find-append (λ (s : PlainStream). s.vb == w) streams (new ∷ [])
    ∙ ap (λ b. option_or (kept_at w streams) (if b then Some new else None)) (ne_eqb new.vb w other)
    ∙ elim (kept_at w streams) as (λ o. option_or o None ≡ o) [ None ↦ refl | Some s ↦ refl ]

pub among_opened : (t new : PlainStream) (streams : List PlainStream) → Among t (streams ++ new ∷ []) → Among t streams ⊎ (t ≡ new)
among_opened t new [] (inl e) = inr e
among_opened t new [] (inr none) = absurd none
among_opened t new (s ∷ more) (inl e) = inl (inl e)
among_opened t new (s ∷ more) (inr i) = ⊎_elim (λ j. inl (inr j)) (λ e. inr e) (among_opened t new more i)

pub open_opened : (v k : ℕ) (new : PlainStream) (streams : List PlainStream) → HasOpen v k (streams ++ new ∷ []) → HasOpen v k streams ⊎ IsOpenAt v k new
open_opened v k new [] (inl o) = inr o
open_opened v k new [] (inr none) = absurd none
open_opened v k new (s ∷ more) (inl o) = inl (inl o)
open_opened v k new (s ∷ more) (inr i) = ⊎_elim (λ j. inl (inr j)) (λ o. inr o) (open_opened v k new more i)

-- each stream is the one of its vBucket
abbrev pub AreOne : List PlainStream → Type 0
AreOne streams = (t : PlainStream) → Among t streams → kept_at t.vb streams ≡ Some t

pub one_opened : (new : PlainStream) (streams : List PlainStream) → kept_at new.vb streams ≡ None → AreOne streams → AreOne (streams ++ new ∷ [])
one_opened new streams none one t i = ⊎_elim
    (λ j. at_opened_there t.vb streams new (λ e. let z : None ≡ Some t = sym (ap (λ k. kept_at k streams) (sym e) ∙ none) ∙ one t j in cc) ∙ one t j)
    (λ e. subst (λ (x : PlainStream). kept_at x.vb (streams ++ new ∷ []) ≡ Some x) (sym e) (at_opened_here new.vb streams new none refl))
    (among_opened t new streams i)

-- ---- one less

pub among_without : (t : PlainStream) (id : ℕ) (streams : List PlainStream) → Among t (without_id id streams) → Among t streams
among_without t id [] i = absurd i
among_without t id (s ∷ more) i = by (among_without t id more) (s.id == id) (subst (Among t) (without_cons id s more) i)
  where
    by : (Among t (without_id id more) → Among t more) → (b : Bool) → Among t (if b then more else s ∷ without_id id more) → Among t (s ∷ more)
    by rest true j = inr j
    by rest false (inl e) = inl e
    by rest false (inr j) = inr (rest j)

pub open_without : (v k id : ℕ) (streams : List PlainStream) → HasOpen v k (without_id id streams) → HasOpen v k streams
open_without v k id [] h = absurd h
open_without v k id (s ∷ more) h = by (open_without v k id more) (s.id == id) (subst (HasOpen v k) (without_cons id s more) h)
  where
    by : (HasOpen v k (without_id id more) → HasOpen v k more) → (b : Bool) → HasOpen v k (if b then more else s ∷ without_id id more) → HasOpen v k (s ∷ more)
    by rest true j = inr j
    by rest false (inl o) = inl o
    by rest false (inr j) = inr (rest j)

-- none of these is of the vBucket
pub none_at : (v : ℕ) (streams : List PlainStream) → ((t : PlainStream) → Among t streams → t.vb ≡ v → ⊥) → kept_at v streams ≡ None
none_at v [] none = refl
none_at v (s ∷ more) none = ap (λ b. if b then Some s else kept_at v more) (ne_eqb s.vb v (none s (inl refl))) ∙ none_at v more (λ t i. none t (inr i))

-- the one that is found is the first one of its vBucket, and one of them
pub found_is : (v : ℕ) (streams : List PlainStream) (t : PlainStream) → kept_at v streams ≡ Some t → Among t streams × (t.vb ≡ v)
found_is v [] t e = cc
found_is v (s ∷ more) t e = by (found_is v more t) (s.vb == v) refl
  where
    by : (kept_at v more ≡ Some t → Among t more × (t.vb ≡ v)) → (b : Bool) → (s.vb == v) ≡ b → Among t (s ∷ more) × (t.vb ≡ v)
    by rest true q =
        let same : Some s ≡ Some t = sym (ap (λ b. if b then Some s else kept_at v more) q) ∙ e in
        let is : t ≡ s = cc in
        (inl is, ap (λ (x : PlainStream). x.vb) is ∙ eqb-true s.vb v q)
    by rest false q = let r = rest (sym (ap (λ b. if b then Some s else kept_at v more) q) ∙ e) in (inr r.0, r.1)

-- where none is found, none of them is of the vBucket
pub none_there : (v : ℕ) (streams : List PlainStream) → kept_at v streams ≡ None → (t : PlainStream) → Among t streams → t.vb ≡ v → ⊥
none_there v [] none t i at = absurd i
none_there v (s ∷ more) none t i at = by (λ e j. none_there v more e t j at) (s.vb == v) refl
  where
    by : (kept_at v more ≡ None → Among t more → ⊥) → (b : Bool) → (s.vb == v) ≡ b → ⊥
    by rest true q = let z : Some s ≡ None = sym (ap (λ b. if b then Some s else kept_at v more) q) ∙ none in cc
    by rest false q = ⊎_elim (λ e. eqb-false s.vb v q (ap (λ (x : PlainStream). x.vb) (sym e) ∙ at)) (λ j. rest (sym (ap (λ b. if b then Some s else kept_at v more) q) ∙ none) j) i

-- without the stream of a vBucket, which alone has the number, there is none of that vBucket
pub at_without_here : (v id : ℕ) (streams : List PlainStream) → Rising streams → ((t : PlainStream) → Among t streams → t.vb ≡ v → t.id ≡ id) → kept_at v (without_id id streams) ≡ None
at_without_here v id [] rise only = refl
at_without_here v id (s ∷ more) rise only = ap (kept_at v) (without_cons id s more) ∙ by (at_without_here v id more rise.1 (λ t i. only t (inr i))) (s.id == id) refl
  where
    by : kept_at v (without_id id more) ≡ None → (b : Bool) → (s.id == id) ≡ b → kept_at v (if b then more else s ∷ without_id id more) ≡ None
    by rest true e = none_at v more (λ t i at.
        let above : s.id < t.id = all_among (λ x. s.id < x.id) more t rise.0 i in
        let same : t.id ≡ id = only t (inr i) at in let it : s.id ≡ id = eqb-true s.id id e in omega (arith, above, same, it))
    by rest false e = ap (λ b. if b then Some s else kept_at v (without_id id more)) (ne_eqb s.vb v (λ at. eqb-false s.id id e (only s (inl refl) at))) ∙ rest

-- and of any other the same
pub at_without_there : (w id : ℕ) (streams : List PlainStream) → ((t : PlainStream) → Among t streams → t.id ≡ id → t.vb ≡ w → ⊥) → kept_at w (without_id id streams) ≡ kept_at w streams
at_without_there w id [] other = refl
at_without_there w id (s ∷ more) other = ap (kept_at w) (without_cons id s more) ∙ by (at_without_there w id more (λ t i. other t (inr i))) (s.id == id) refl
  where
    by : kept_at w (without_id id more) ≡ kept_at w more → (b : Bool) → (s.id == id) ≡ b → kept_at w (if b then more else s ∷ without_id id more) ≡ kept_at w (s ∷ more)
    by rest true e = sym (ap (λ b. if b then Some s else kept_at w more) (ne_eqb s.vb w (other s (inl refl) (eqb-true s.id id e))))
    by rest false e = ap (λ o. if s.vb == w then Some s else o) rest

-- two streams of one number are one
pub same_number : (streams : List PlainStream) (t u : PlainStream) → Rising streams → Among t streams → Among u streams → t.id ≡ u.id → t ≡ u
same_number [] t u rise i j e = absurd i
same_number (s ∷ more) t u rise (inl a) (inl b) e = a ∙ sym b
same_number (s ∷ more) t u rise (inl a) (inr j) e =
    let above : s.id < u.id = all_among (λ x. s.id < x.id) more u rise.0 j in let q : t.id ≡ s.id = ap (λ (x : PlainStream). x.id) a in absurd (omega (arith, above, q, e))
same_number (s ∷ more) t u rise (inr i) (inl b) e =
    let above : s.id < t.id = all_among (λ x. s.id < x.id) more t rise.0 i in let q : u.id ≡ s.id = ap (λ (x : PlainStream). x.id) b in absurd (omega (arith, above, q, e))
same_number (s ∷ more) t u rise (inr i) (inr j) e = same_number more t u rise.1 i j e

module _ (v : ℕ) (stream : PlainStream) (streams : List PlainStream) (rise : Rising streams) (one : AreOne streams) (found : kept_at v streams ≡ Some stream) where
  only : (t : PlainStream) → Among t streams → t.vb ≡ v → t.id ≡ stream.id
  only t i at = let same : Some t ≡ Some stream = sym (one t i) ∙ ap (λ k. kept_at k streams) at ∙ found in let is : t ≡ stream = cc in ap (λ (x : PlainStream). x.id) is

  alone : (t : PlainStream) → Among t streams → t.id ≡ stream.id → t.vb ≡ v
  alone t i e = let is = found_is v streams stream found in ap (λ (x : PlainStream). x.vb) (same_number streams t stream rise i is.0 e) ∙ is.1

  -- without it
  pub closed_here : kept_at v (without_id stream.id streams) ≡ None
  closed_here = at_without_here v stream.id streams rise only

  pub closed_there : (w : ℕ) → (w ≡ v → ⊥) → kept_at w (without_id stream.id streams) ≡ kept_at w streams
  closed_there w other = at_without_there w stream.id streams (λ t i e at. other (sym at ∙ alone t i e))

  pub one_closed : AreOne (without_id stream.id streams)
  one_closed t i =
      let j = among_without t stream.id streams i in
      at_without_there t.vb stream.id streams (λ u k e at.
      let same : Some u ≡ Some t = sym (one u k) ∙ ap (λ q. kept_at q streams) at ∙ one t j in
      let is : t ≡ u = cc in
      none_there v (without_id stream.id streams) closed_here t i (ap (λ (x : PlainStream). x.vb) is ∙ alone u k e)) ∙ one t j
