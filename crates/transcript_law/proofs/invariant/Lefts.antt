-- the prepares that an active vBucket has outstanding: those up to where it became active were left by a former active node, and those above it made since
use Rattle.std.specs.Prelude.{◌≡◌, ◌<◌, ◌≤◌, ◌+◌, ◌≢◌, ◌∷◌, ◌==◌, ◌&&◌, ◌||◌, not}
use Rattle.transcript_law.proofs.Words.{ℕ, Bool, true, false, List, [], refl, ap, sym, ◌∙◌, subst, inl, inr, arith, eq-eqb, eqb-true, ⊎_elim, nat_lt, nat_tests, is_some, Some, Pend, Picture, Plain, Sound, image_in, is_active, Role}
use Rattle.durability.specs.{Laws.{Waits}, Outstanding.{placed, without}, declared.waiting.Waiting.{Waiting}}
use Rattle.std.specs.FinMap as finite
use Rattle.vb_calls.specs.{Durable.{Wish, outstanding}, Settling.{left_prepares}, State.{is_left}}
use Rattle.vb_types.specs.declared.write.Write.{Write}
use Rattle.vbucket.proofs.{Backing.{are_left}, Prepares.{gone, put}, Storing.{differ_at, seqs_at}}
use Rattle.vbucket.specs.Laws.{Ascend}

-- they have no deadline exactly up to there, which is not above its last seqno
pub record LeftUpTo (risen at : ℕ) (waiting : List Waiting) : Type 0 where
  pub low : risen ≤ at
  pub each : (w : Waiting) → Waits w waiting → is_some w.deadline ≡ nat_lt risen w.seq

-- a vBucket that makes a change, which prepares nothing
pub left_on : (risen at : ℕ) (ws : List Waiting) → LeftUpTo risen at ws → LeftUpTo risen (at + 1) ws
left_on risen at ws l = record { low = (let k = l.low in omega arith); each = l.each }

-- and which resolves one
pub left_without : (risen at q : ℕ) (ws : List Waiting) → Ascend ws → LeftUpTo risen at ws → LeftUpTo risen (at + 1) (without q ws)
left_without risen at q ws rises l = record { low = (let k = l.low in omega arith); each = λ w i. l.each w ((gone q ws rises).was w i).0 }

-- and which prepares a write
pub left_placed : (risen : ℕ) (vb : Plain) (write : Write) (wish : Wish) → Sound vb → LeftUpTo risen vb.position.at vb.waiting
    → LeftUpTo risen (vb.position.at + 1) (placed (outstanding write wish (vb.position.at + 1)) vb.waiting)
left_placed risen vb write wish s l = record {
  low = (let k = l.low in omega arith);
  each = λ w i. ⊎_elim (λ e. subst (λ (x : Waiting). is_some x.deadline ≡ nat_lt risen x.seq) (sym e) (sym above)) (λ j. l.each w j) ((put new vb.waiting s.waits.ascend apart).was w i);
}
  where
    new : Waiting
    new = outstanding write wish (vb.position.at + 1)

    above : nat_lt risen (vb.position.at + 1) ≡ true
    above = let k = l.low in grind (arith, nat_tests)

    apart : (v : Waiting) → Waits v vb.waiting → v.seq ≢ vb.position.at + 1
    apart v i e = let k = s.waits.backed v i in let low = seqs_at vb s v.key k.0 k.1 in let same = k.2 in omega arith

-- nothing is outstanding
pub left_none : (at : ℕ) → LeftUpTo at at []
left_none at = record { low = omega arith; each = λ w i. absurd i }

-- one that becomes active has those alone that were left
pub left_risen : (vb : Plain) → Sound vb → LeftUpTo vb.position.at vb.position.at (left_prepares (image_in vb))
left_risen vb s = record {
  low = omega arith;
  each = λ w i. let k = (are_left (image_in vb) (differ_at vb s)).was w i in subst (λ (x : Waiting). is_some x.deadline ≡ nat_lt vb.position.at x.seq) (sym k.3) (sym (below k.1.seq (seqs_at vb s k.0 k.1 k.2)));
}
  where
    below : (q : ℕ) → q ≤ vb.position.at → nat_lt vb.position.at q ≡ false
    below q low = grind (arith, nat_tests)

-- a prepare is to be committed again where one of its seqno is outstanding without a deadline
both : (a b : Bool) → (a && not b) ≡ true → (a ≡ true) × (b ≡ false)
both true true e = cc
both true false e = (refl, refl)
both false b e = cc

left_of : (ws : List Waiting) (p : Pend) → is_left ws (Some p) ≡ true → (w : Waiting) × Waits w ws × (w.seq ≡ p.seq) × (is_some w.deadline ≡ false)
left_of [] p e = cc
left_of (v ∷ ws) p e = by (v.seq == p.seq && not (is_some v.deadline)) refl e (left_of ws p)
  where
    Found : List Waiting → Type 0
    Found xs = (w : Waiting) × Waits w xs × (w.seq ≡ p.seq) × (is_some w.deadline ≡ false)

    by : (b : Bool) → (v.seq == p.seq && not (is_some v.deadline)) ≡ b → (b || is_left ws (Some p)) ≡ true → (is_left ws (Some p) ≡ true → Found ws) → Found (v ∷ ws)
    by true t k rest = let m = both (v.seq == p.seq) (is_some v.deadline) t in (v, inl refl, eqb-true v.seq p.seq m.0, m.1)
    by false t k rest = let m = rest k in (m.0, inr m.1, m.2, m.3)

-- and else not
is_left_by : (ws : List Waiting) (p : Pend) (w : Waiting) → Waits w ws → w.seq ≡ p.seq → is_some w.deadline ≡ false → is_left ws (Some p) ≡ true
is_left_by [] p w i e n = absurd i
is_left_by (v ∷ ws) p w i e n = ⊎_elim
    (λ s. ap (λ b. b || is_left ws (Some p)) (subst (λ (x : Waiting). (x.seq == p.seq && not (is_some x.deadline)) ≡ true) s (ap (λ b. w.seq == p.seq && not b) n ∙ ap (λ b. b && true) (eq-eqb w.seq p.seq e))))
    (λ j. later (v.seq == p.seq && not (is_some v.deadline)) (is_left_by ws p w j e n)) i
  where
    later : (b : Bool) → is_left ws (Some p) ≡ true → (b || is_left ws (Some p)) ≡ true
    later true k = refl
    later false k = k

-- so the prepare that waits at a key is to be committed again exactly where it was left
pub record IsLeftExactly (risen : ℕ) (waiting : List Waiting) (p : Pend) : Type 0 where
  pub left : is_left waiting (Some p) ≡ true → p.seq ≤ risen
  pub own : is_left waiting (Some p) ≡ false → risen < p.seq

abbrev pub AreLeftExactly : ℕ → Picture → List Waiting → Type 0
AreLeftExactly risen image waiting = (key : List ℕ) (p : Pend) → finite.get image.pending key ≡ Some p → IsLeftExactly risen waiting p

is_active_role : (x : Role) → is_active x ≡ true → x ≡ Role.Active
is_active_role Role.Active e = refl
is_active_role x e = cc

pub left_exactly : (risen : ℕ) (vb : Plain) → Sound vb → is_active vb.role ≡ true → LeftUpTo risen vb.position.at vb.waiting → AreLeftExactly risen (image_in vb) vb.waiting
left_exactly risen vb s active l key p is = record { left = left; own = own }
  where
    left : is_left vb.waiting (Some p) ≡ true → p.seq ≤ risen
    left e =
        let (w, there, seq, none) = left_of vb.waiting p e in
        let not_above : nat_lt risen p.seq ≡ false = ap (nat_lt risen) (sym seq) ∙ sym (l.each w there) ∙ none in grind (arith, nat_tests)

    own : is_left vb.waiting (Some p) ≡ false → risen < p.seq
    own e =
        let (w, there, of) = s.waits.all (is_active_role vb.role active) key p is in
        by w there of.1 (is_some w.deadline) refl
      where
        by : (w : Waiting) → Waits w vb.waiting → w.seq ≡ p.seq → (b : Bool) → is_some w.deadline ≡ b → risen < p.seq
        by w there seq false none = let z : true ≡ false = sym (is_left_by vb.waiting p w there seq none) ∙ e in cc
        by w there seq true has =
            let above : nat_lt risen p.seq ≡ true = ap (nat_lt risen) (sym seq) ∙ sym (l.each w there) ∙ has in grind (arith, nat_tests)
