-- the streams of a client's producer, where one of them goes on
use Rattle.std.specs.Prelude.{◌≡◌, ◌∷◌, ◌⊎◌, ◌==◌, if◌then◌else◌}
use Rattle.transcript_law.proofs.Words.{ℕ, Bool, true, false, List, [], refl, sym, ap, ◌∙◌, subst, inl, inr, ⊎_elim, Some, eq-eqb, ne_eqb, eqb-true, eqb-false, PlainStream}
use Rattle.dcp_producer.specs.Producers.{Rising, replaced, stream_at as kept_at}
use Rattle.transcript_law.proofs.indexers.Streams.{AreOne, same_number}
use Rattle.transcript_law.proofs.invariant.OpenStreams.{Among}
use Rattle.transcript_law.specs.Feeding.{HasOpen, IsOpenAt}

module _ (left : PlainStream) where
  pub among_replaced : (streams : List PlainStream) (t : PlainStream) → Among t (replaced left streams) → (t ≡ left) ⊎ Among t streams
  among_replaced [] t i = absurd i
  among_replaced (s ∷ more) t i = ⊎_elim (λ e. by (s.id == left.id) e) (λ j. ⊎_elim (λ e. inl e) (λ k. inr (inr k)) (among_replaced more t j)) i
    where
      by : (b : Bool) → t ≡ (if b then left else s) → (t ≡ left) ⊎ Among t (s ∷ more)
      by true e = inl e
      by false e = inr (inl e)

  -- any but it was there
  pub others_replaced : (streams : List PlainStream) (t : PlainStream) → Among t (replaced left streams) → (t.id ≡ left.id → ⊥) → Among t streams
  others_replaced streams t i ne = ⊎_elim (λ e. absurd (ne (ap (λ (x : PlainStream). x.id) e))) (λ j. j) (among_replaced streams t i)

  pub open_replaced : (v k : ℕ) (streams : List PlainStream) → HasOpen v k (replaced left streams) → IsOpenAt v k left ⊎ HasOpen v k streams
  open_replaced v k [] h = absurd h
  open_replaced v k (s ∷ more) h = ⊎_elim (λ o. by (s.id == left.id) o) (λ j. ⊎_elim (λ o. inl o) (λ i. inr (inr i)) (open_replaced v k more j)) h
    where
      by : (b : Bool) → IsOpenAt v k (if b then left else s) → IsOpenAt v k left ⊎ HasOpen v k (s ∷ more)
      by true o = inl o
      by false o = inr (inl o)

  -- the one of its vBucket is it
  here : (v : ℕ) (streams : List PlainStream) (t : PlainStream) → ((s : PlainStream) → Among s streams → s.vb ≡ v → s.id ≡ left.id) → ((s : PlainStream) → Among s streams → s.id ≡ left.id → s.vb ≡ v) → left.vb ≡ v
      → kept_at v streams ≡ Some t → kept_at v (replaced left streams) ≡ Some left
  here v [] t only alone at e = cc
  here v (s ∷ more) t only alone at e = by (here v more t (λ x i. only x (inr i)) (λ x i. alone x (inr i)) at) (s.vb == v) refl
    where
      by : (kept_at v more ≡ Some t → kept_at v (replaced left more) ≡ Some left) → (b : Bool) → (s.vb == v) ≡ b → kept_at v (replaced left (s ∷ more)) ≡ Some left
      by rest true q =
          let same : (s.id == left.id) ≡ true = eq-eqb s.id left.id (only s (inl refl) (eqb-true s.vb v q)) in
          ap (λ b. if (if b then left else s).vb == v then Some (if b then left else s) else kept_at v (replaced left more)) same
          ∙ ap (λ b. if b then Some left else kept_at v (replaced left more)) (eq-eqb left.vb v at)
      by rest false q =
          let other : (s.id == left.id) ≡ false = ne_eqb s.id left.id (λ f. eqb-false s.vb v q (alone s (inl refl) f)) in
          ap (λ b. if (if b then left else s).vb == v then Some (if b then left else s) else kept_at v (replaced left more)) other
          ∙ ap (λ b. if b then Some s else kept_at v (replaced left more)) q
          ∙ rest (sym (ap (λ b. if b then Some s else kept_at v more) q) ∙ e)

  -- those of others are the same
  there : (q v : ℕ) (streams : List PlainStream) → ((s : PlainStream) → Among s streams → s.id ≡ left.id → s.vb ≡ v) → left.vb ≡ v → (q ≡ v → ⊥) → kept_at q (replaced left streams) ≡ kept_at q streams
  there q v [] alone at ne = refl
  there q v (s ∷ more) alone at ne = by (there q v more (λ x i. alone x (inr i)) at ne) (s.id == left.id) refl
    where
      by : kept_at q (replaced left more) ≡ kept_at q more → (b : Bool) → (s.id == left.id) ≡ b → kept_at q (replaced left (s ∷ more)) ≡ kept_at q (s ∷ more)
      by rest true f =
          let away : (left.vb == q) ≡ false = ne_eqb left.vb q (λ e. ne (sym e ∙ at)) in
          let old : (s.vb == q) ≡ false = ne_eqb s.vb q (λ e. ne (sym e ∙ alone s (inl refl) (eqb-true s.id left.id f))) in
          ap (λ b. if (if b then left else s).vb == q then Some (if b then left else s) else kept_at q (replaced left more)) f
          ∙ ap (λ b. if b then Some left else kept_at q (replaced left more)) away ∙ rest ∙ sym (ap (λ b. if b then Some s else kept_at q more) old)
      by rest false f =
          ap (λ b. if (if b then left else s).vb == q then Some (if b then left else s) else kept_at q (replaced left more)) f
          ∙ ap (λ o. if s.vb == q then Some s else o) rest

  module _ (streams : List PlainStream) (t : PlainStream) (rise : Rising streams) (one : AreOne streams) (i : Among t streams) (id : left.id ≡ t.id) (vb : left.vb ≡ t.vb) where
    only : (s : PlainStream) → Among s streams → s.vb ≡ t.vb → s.id ≡ left.id
    only s j at = let same : Some s ≡ Some t = sym (one s j) ∙ ap (λ k. kept_at k streams) at ∙ one t i in let is : s ≡ t = cc in ap (λ (x : PlainStream). x.id) is ∙ sym id

    alone : (s : PlainStream) → Among s streams → s.id ≡ left.id → s.vb ≡ t.vb
    alone s j e = ap (λ (x : PlainStream). x.vb) (same_number streams s t rise j i (e ∙ id))

    pub at_here_replaced : kept_at t.vb (replaced left streams) ≡ Some left
    at_here_replaced = here t.vb streams t only alone vb (one t i)

    pub at_there_replaced : (q : ℕ) → (q ≡ t.vb → ⊥) → kept_at q (replaced left streams) ≡ kept_at q streams
    at_there_replaced q ne = there q t.vb streams alone vb ne

    pub one_replaced : AreOne (replaced left streams)
    one_replaced s j = ⊎_elim
        (λ e. subst (λ (x : PlainStream). kept_at x.vb (replaced left streams) ≡ Some x) (sym e) (ap (λ k. kept_at k (replaced left streams)) vb ∙ at_here_replaced))
        (λ k. by s k (s.vb == t.vb) refl j) (among_replaced streams s j)
      where
        -- the stream of that number is it
        is_left : (xs : List PlainStream) → Rising xs → (s : PlainStream) → Among s (replaced left xs) → s.id ≡ left.id → s ≡ left
        is_left [] r s j e = absurd j
        is_left (x ∷ xs) r s j e = ⊎_elim (λ f. head (x.id == left.id) refl f) (λ k. is_left xs r.1 s k e) j
          where
            head : (b : Bool) → (x.id == left.id) ≡ b → s ≡ (if b then left else x) → s ≡ left
            head true q f = f
            head false q f = absurd (eqb-false x.id left.id q (ap (λ (y : PlainStream). y.id) (sym f) ∙ e))

        by : (s : PlainStream) → Among s streams → (b : Bool) → (s.vb == t.vb) ≡ b → Among s (replaced left streams) → kept_at s.vb (replaced left streams) ≡ Some s
        by s k false e j = at_there_replaced s.vb (λ f. eqb-false s.vb t.vb e f) ∙ one s k
        by s k true e j =
            let at : s.vb ≡ t.vb = eqb-true s.vb t.vb e in
            ap (λ q. kept_at q (replaced left streams)) at ∙ at_here_replaced ∙ ap Some (sym (is_left streams rise s j (only s k at)))

-- a stream in its own place
pub replaced_same : (streams : List PlainStream) (t : PlainStream) → Rising streams → Among t streams → replaced t streams ≡ streams
replaced_same streams t rise i = by streams (λ s j e. same_number streams s t rise j i e)
  where
    by : (xs : List PlainStream) → ((s : PlainStream) → Among s xs → s.id ≡ t.id → s ≡ t) → replaced t xs ≡ xs
    by [] same = refl
    by (x ∷ xs) same = λ i. head (x.id == t.id) refl i ∷ by xs (λ s j. same s (inr j)) i
      where
        head : (b : Bool) → (x.id == t.id) ≡ b → (if b then t else x) ≡ x
        head true q = sym (same x (inl refl) (eqb-true x.id t.id q))
        head false q = refl
