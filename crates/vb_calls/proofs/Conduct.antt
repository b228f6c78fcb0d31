-- what programs do, whatever the replies
use Rattle.std.proofs.Common.{◌≡◌, ℕ, List, [], ◌∷◌, ◌++◌, append-nil, append_assoc, refl, sym, ap, ◌∙◌, subst, Option, Some, None}
use Rattle.std.specs.Prelude.{◌==◌, if◌then◌else◌}
use Rattle.std.proofs.lemmas.Bool.{eqb-true, false_from_ne_true}
use Rattle.std.specs.List.{fold}
use Rattle.vb_calls.specs.declared.calls.VbCall.{VbCall}
use Rattle.vb_calls.specs.declared.calls.VbReply.{VbReply}
use Rattle.vb_calls.specs.Plain.{Plain, plain_step}
use Rattle.vb_calls.specs.States.{States, call_at, states_step}
use Rattle.vb_calls.specs.Programs.{Prog, Done, Call, bind, next_of, after, AlwaysWith, AnyCall, Always}

module _ (replies : VbCall → Option VbReply → Type 0) (calls : ℕ → VbCall → Type 0) where
  -- one program after the other
  pub always_bind : {A B : Type 0} (between : A → Type 0) (answers : B → Type 0) (prog : Prog A) (k : A → Prog B)
      → AlwaysWith replies calls between prog → ((a : A) → between a → AlwaysWith replies calls answers (k a)) → AlwaysWith replies calls answers (bind prog k)
  always_bind between answers (Done a) k first second = second a first
  always_bind between answers (Call v call next) k first second =
      (first.0, λ reply formed. always_bind between answers (next reply) k (first.1 reply formed) second)

  -- what holds of an answer in any case holds of this one too
  pub always_so : {A : Type 0} (answers others : A → Type 0) (prog : Prog A) → ((a : A) → answers a → others a)
      → AlwaysWith replies calls answers prog → AlwaysWith replies calls others prog
  always_so answers others (Done a) so always = so a always
  always_so answers others (Call v call next) so always = (always.0, λ reply formed. always_so answers others (next reply) so (always.1 reply formed))

  pub always_both : {A : Type 0} (answers others : A → Type 0) (prog : Prog A)
      → AlwaysWith replies calls answers prog → Always AnyCall others prog → AlwaysWith replies calls (λ a. answers a × others a) prog
  always_both answers others (Done a) always any = (always, any)
  always_both answers others (Call v call next) always any =
      (always.0, λ reply formed. always_both answers others (next reply) (always.1 reply formed) (any.1 reply tt))

  -- a program for each of a list, with what holds behind each front part of it
  pub always_front : {X A : Type 0} (answers : List X → A → Type 0) (f : X → A → Prog A)
      → ((front : List X) (x : X) (a : A) → answers front a → AlwaysWith replies calls (answers (front ++ x ∷ [])) (f x a))
      → (front xs : List X) (prog : Prog A) → AlwaysWith replies calls (answers front) prog → AlwaysWith replies calls (answers (front ++ xs)) (fold (next_of f) prog xs)
  always_front answers f keep front [] prog before =
      subst (λ all. AlwaysWith replies calls (answers all) prog) (sym (append-nil front)) before
  always_front answers f keep front (x ∷ xs) prog before =
      subst (λ all. AlwaysWith replies calls (answers all) (fold (next_of f) (bind prog (f x)) xs)) (append_assoc front (x ∷ []) xs)
      (always_front answers f keep (front ++ x ∷ []) xs (bind prog (f x)) (always_bind (answers front) (answers (front ++ x ∷ [])) prog (f x) before (keep front x)))

  -- a program for each of a list, with what holds behind each
  pub always_each : {X A : Type 0} (answers : A → Type 0) (f : X → A → Prog A)
      → ((x : X) (a : A) → answers a → AlwaysWith replies calls answers (f x a))
      → (xs : List X) (prog : Prog A) → AlwaysWith replies calls answers prog → AlwaysWith replies calls answers (fold (next_of f) prog xs)
  always_each {X = X} answers f keep xs prog before = always_front (λ (front : List X). answers) f (λ (front : List X). keep) [] xs prog before

-- a step of one vBucket leaves the others as they are
pub step_elsewhere : (states : States) (v w : ℕ) (call : VbCall) (o : Option Plain) → (w ≡ v → ⊥) → (call_at states v call o).0 w ≡ states w
step_elsewhere states v w call None other = refl
step_elsewhere states v w call (Some plain) other = ap (λ b. if b then Some (plain_step plain call).0 else states w) (false_from_ne_true (w == v) (λ e. other (eqb-true w v e)))

-- so does a program that never calls it
pub after_elsewhere : {A : Type 0} (calls : ℕ → VbCall → Type 0) (answers : A → Type 0) (prog : Prog A) (states : States) (w : ℕ)
    → ((call : VbCall) → calls w call → ⊥) → Always calls answers prog → (after prog states).0 w ≡ states w
after_elsewhere calls answers (Done a) states w never always = refl
after_elsewhere calls answers (Call v call next) states w never always =
    let step : States × Option VbReply = states_step states v call in
    after_elsewhere calls answers (next step.1) step.0 w never (always.1 step.1 tt)
    ∙ step_elsewhere states v w call (states v) (λ e. never call (subst (λ n. calls n call) (sym e) always.0))

-- the answer that a program comes to
pub after_always : {A : Type 0} (calls : ℕ → VbCall → Type 0) (answers : A → Type 0) (prog : Prog A) (states : States) → Always calls answers prog → answers (after prog states).1
after_always calls answers (Done a) states always = always
after_always calls answers (Call v call next) states always =
    let step : States × Option VbReply = states_step states v call in
    after_always calls answers (next step.1) step.0 (always.1 step.1 tt)
