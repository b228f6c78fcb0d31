-- what a program that ran says of the plain states, and of the lists
use Rattle.std.proofs.Common.{◌≡◌, ℕ, zero, suc, List, [], ◌∷◌, ◌++◌, refl, sym, ap, ◌∙◌, subst, inl, inr, append_assoc, append-nil}
use Rattle.std.specs.List.{fold}
use Rattle.vb_calls.specs.declared.calls.VbCall.{VbCall}
use Rattle.vb_calls.specs.declared.calls.VbReply.{VbReply}
use Rattle.vb_calls.specs.States.{States, states_step}
use Rattle.vb_calls.specs.Programs.{Prog, Done, Call, after, after_front, bind, next_of, alone_step, listed_step, Made, Told, FirstCalls, of_one, gained, Ran, Began}

module _ {W : Type 0} (Stands : W → States → Type 0) where
  -- over an access that is alone the answer is the definition's, and the access stands for its states
  pub alone_after : {A : Type 0} (prog : Prog A) (old : W) (answer : A) (new : W) → Ran (alone_step Stands) prog old answer new → (states : States) → Stands old states → (answer ≡ (after prog states).1) × Stands new (after prog states).0
  alone_after (Done a) old answer new ran states stands = (ran.0, subst (λ w. Stands w states) (sym ran.1) stands)
  alone_after (Call v call next) old answer new ran states stands =
      let step = ran.2 states stands in
      let states' : States = (states_step states v call).0 in
      subst (λ r. (answer ≡ (after (next r) states').1) × Stands new (after (next r) states').0) step.0
      (alone_after (next ran.0) ran.1 answer new ran.3 states' step.1)

  -- where memory failed, it stands for the states after a front part of the calls
  pub alone_began : {A : Type 0} (prog : Prog A) (old new : W) → Began (alone_step Stands) prog old new → (states : States) → Stands old states → (n : ℕ) × Stands new (after_front n prog states)
  alone_began (Done a) old new begun states stands = (zero, subst (λ w. Stands w states) (sym begun) stands)
  alone_began (Call v call next) old new (inl same) states stands = (zero, subst (λ w. Stands w states) (sym same) stands)
  alone_began (Call v call next) old new (inr begun) states stands =
      let step = begun.2 states stands in
      let states' : States = (states_step states v call).0 in
      let (n, there) = alone_began (next begun.0) begun.1 new begun.3 states' step.1 in
      (suc n, subst (λ r. Stands new (after_front n (next r) states')) step.0 there)

module _ {W : Type 0} (mine : W → ℕ → List (VbCall × VbReply)) where
  -- over an access that is not alone the calls are those of the definition with the replies that its lists gained
  pub told_made : {A : Type 0} (prog : Prog A) (old : W) (answer : A) (new : W) → Ran (listed_step mine) prog old answer new → (made : List Made) × Told prog made answer × ((w : ℕ) → mine new w ≡ mine old w ++ gained w made)
  told_made (Done a) old answer new ran = ([], ran.0, λ w. ap (λ x. mine x w) ran.1 ∙ sym (append-nil (mine old w)))
  told_made (Call v call next) old answer new ran =
      let (made, told, grew) = told_made (next ran.0) ran.1 answer new ran.3 in (
        (v, call, ran.0) ∷ made,
        (refl, refl, told),
        λ w. grew w ∙ ap (λ xs. xs ++ gained w made) (ran.2 w) ∙ append_assoc (mine old w) (of_one w (v, call, ran.0)) (gained w made),
      )

  -- where memory failed, they are a front part of these calls
  pub told_began : {A : Type 0} (prog : Prog A) (old new : W) → Began (listed_step mine) prog old new → (made : List Made) × FirstCalls prog made × ((w : ℕ) → mine new w ≡ mine old w ++ gained w made)
  told_began (Done a) old new begun = ([], tt, λ w. ap (λ x. mine x w) begun ∙ sym (append-nil (mine old w)))
  told_began (Call v call next) old new (inl same) = ([], tt, λ w. ap (λ x. mine x w) same ∙ sym (append-nil (mine old w)))
  told_began (Call v call next) old new (inr begun) =
      let (made, told, grew) = told_began (next begun.0) begun.1 new begun.3 in (
        (v, call, begun.0) ∷ made,
        (refl, refl, told),
        λ w. grew w ∙ ap (λ xs. xs ++ gained w made) (begun.2 w) ∙ append_assoc (mine old w) (of_one w (v, call, begun.0)) (gained w made),
      )

-- over plain states one program after another is one function after another
pub after_bind : {A B : Type 0} (prog : Prog A) (k : A → Prog B) (states : States) → after (bind prog k) states ≡ after (k (after prog states).1) (after prog states).0
after_bind (Done a) k states = refl
after_bind (Call v call next) k states = after_bind (next (states_step states v call).1) k (states_step states v call).0

-- one item more, over plain states
abbrev pub stepped : {X A : Type 0} → (X → A → Prog A) → States × A → X → States × A
stepped f state x = after (f x state.1) state.0

-- a program for each of a list is a fold over plain states
pub after_fold : {X A : Type 0} (f : X → A → Prog A) (xs : List X) (prog : Prog A) (states : States) → after (fold (next_of f) prog xs) states ≡ fold (stepped f) (after prog states) xs
after_fold f [] prog states = refl
after_fold f (x ∷ xs) prog states =
    after_fold f xs (bind prog (f x)) states ∙ ap (λ s. fold (stepped f) s xs) (after_bind prog (f x) states)

pub ruleset readings = (alone_after, alone_began, told_made, told_began)
