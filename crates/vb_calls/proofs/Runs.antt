-- laws of programs
use Rattle.std.proofs.Common.{zero, suc, ◌-◌, arith, add-one, zero-add, suc-add, ◌+◌, ◌<◌, length, take, drop, get_or, ◌≡◌, ℕ, List, [], ◌∷◌, Option, refl, sym, subst, inl, inr}
use Rattle.vb_calls.specs.declared.calls.VbCall.{VbCall}
use Rattle.vb_calls.specs.declared.calls.VbReply.{VbReply}
use Rattle.std.specs.List.{fold}
use Rattle.std.proofs.lemmas.Grind.{fold-append}
use Rattle.std.proofs.lemmas.List.{take-append-drop}
use Rattle.std.proofs.lemmas.List.Sums.{fold_more}
use Rattle.vb_calls.specs.Programs.{Prog, Done, Call, bind, next_of, each, Turn, More, Stop, go_on, repeated, Ran, Began}

module _ {W : Type 0} (step : W → ℕ → VbCall → Option VbReply → W → Type 0) where
  -- one after the other
  pub ran_bind : {A B : Type 0} (prog : Prog A) (k : A → Prog B) (old : W) (a : A) (mid : W) (b : B) (new : W) → Ran step prog old a mid → Ran step (k a) mid b new → Ran step (bind prog k) old b new
  ran_bind (Done x) k old a mid b new first second =
      subst (λ w. Ran step (k x) w b new) first.1 (subst (λ y. Ran step (k y) mid b new) first.0 second)
  ran_bind (Call v call next) k old a mid b new first second =
      (first.0, first.1, first.2, ran_bind (next first.0) k first.1 a mid b new first.3 second)

  -- one call, and the rest
  pub ran_call : {A : Type 0} (v : ℕ) (call : VbCall) (next : Option VbReply → Prog A) (old : W) (reply : Option VbReply) (mid : W) (answer : A) (new : W) → step old v call reply mid → Ran step (next reply) mid answer new → Ran step (Call v call next) old answer new
  ran_call v call next old reply mid answer new first rest = (reply, mid, first, rest)

  pub began_call : {A : Type 0} (v : ℕ) (call : VbCall) (next : Option VbReply → Prog A) (old : W) (reply : Option VbReply) (mid new : W) → step old v call reply mid → Began step (next reply) mid new → Began step (Call v call next) old new
  began_call v call next old reply mid new first rest = inr (reply, mid, first, rest)

  -- what has made no call
  pub began_none : {A : Type 0} (prog : Prog A) (old new : W) → new ≡ old → Began step prog old new
  began_none (Done x) old new same = same
  began_none (Call v call next) old new same = inl same

  -- what has begun the first has begun both
  pub began_bind : {A B : Type 0} (prog : Prog A) (k : A → Prog B) (old new : W) → Began step prog old new → Began step (bind prog k) old new
  began_bind (Done x) k old new begun = began_none (k x) old new begun
  began_bind (Call v call next) k old new (inl same) = inl same
  began_bind (Call v call next) k old new (inr more) =
      inr (more.0, more.1, more.2, began_bind (next more.0) k more.1 new more.3)

  -- what has done the first and begun the second has begun both
  pub ran_began : {A B : Type 0} (prog : Prog A) (k : A → Prog B) (old : W) (a : A) (mid new : W) → Ran step prog old a mid → Began step (k a) mid new → Began step (bind prog k) old new
  ran_began (Done x) k old a mid new first second =
      subst (λ w. Began step (k x) w new) first.1 (subst (λ y. Began step (k y) mid new) first.0 second)
  ran_began (Call v call next) k old a mid new first second =
      inr (first.0, first.1, first.2, ran_began (next first.0) k first.1 a mid new first.3 second)

  -- one more of a list
  pub each_next : {X A : Type 0} (f : X → A → Prog A) (xs : List X) (i : ℕ) (x : X) (a : A) (old : W) (b : A) (mid : W) (c : A) (new : W) → i < length xs → x ≡ get_or xs i x → Ran step (each f (take i xs) a) old b mid → Ran step (f x b) mid c new → Ran step (each f (take (i + 1) xs) a) old c new
  each_next f xs i x a old b mid c new below is before more =
      let joined = ran_bind (each f (take i xs) a) (f x) old b mid c new before more in
      subst (λ p. Ran step p old c new) (sym (fold_more (next_of f) (Done a) xs i x below))
      (subst (λ y. Ran step (bind (each f (take i xs) a) (f y)) old c new) is joined)

  began_rest : {X A : Type 0} (f : X → A → Prog A) (xs : List X) (prog : Prog A) (old new : W) → Began step prog old new → Began step (fold (next_of f) prog xs) old new
  began_rest f [] prog old new begun = begun
  began_rest f (x ∷ xs) prog old new begun = began_rest f xs (bind prog (f x)) old new (began_bind prog (f x) old new begun)

  -- one of a list, begun
  pub each_began : {X A : Type 0} (f : X → A → Prog A) (xs : List X) (i : ℕ) (x : X) (a : A) (old : W) (b : A) (mid new : W) → i < length xs → x ≡ get_or xs i x → Ran step (each f (take i xs) a) old b mid → Began step (f x b) mid new → Began step (each f xs a) old new
  each_began f xs i x a old b mid new below is before begun =
      let joined = ran_began (each f (take i xs) a) (f x) old b mid new before begun in
      let front = subst (λ p. Began step p old new) (sym (fold_more (next_of f) (Done a) xs i x below))
      (subst (λ y. Began step (bind (each f (take i xs) a) (f y)) old new) is joined) in
      let whole = began_rest f (drop (i + 1) xs) (each f (take (i + 1) xs) a) old new front in
      subst (λ ys. Began step (each f ys a) old new) (take-append-drop (i + 1) xs)
      (subst (λ p. Began step p old new) (sym (fold-append (next_of f) (Done a) (take (i + 1) xs) (drop (i + 1) xs))) whole)

  -- one more turn
  pub repeated_next : {A R : Type 0} (f : A → Prog (Turn A R)) (i : ℕ) (a : A) (old : W) (b : A) (mid : W) (c : Turn A R) (new : W) → Ran step (repeated i f a) old (More b) mid → Ran step (f b) mid c new → Ran step (repeated (i + 1) f a) old c new
  repeated_next f i a old b mid c new before turn =
      rw add-one (ran_bind (repeated i f a) (go_on f) old (More b) mid c new before turn)

  -- turns after one that stopped
  repeated_more : {A R : Type 0} (f : A → Prog (Turn A R)) (j i : ℕ) (a : A) (old : W) (r : R) (new : W) → Ran step (repeated i f a) old (Stop r) new → Ran step (repeated (j + i) f a) old (Stop r) new
  repeated_more f zero i a old r new before = rw zero-add before
  repeated_more f (suc j) i a old r new before =
      rw suc-add (ran_bind (repeated (j + i) f a) (go_on f) old (Stop r) new (Stop r) new (repeated_more f j i a old r new before) (refl, refl))

  -- a turn that stops
  pub repeated_stop : {A R : Type 0} (f : A → Prog (Turn A R)) (n i : ℕ) (a : A) (old : W) (b : A) (mid : W) (r : R) (new : W) → i < n → Ran step (repeated i f a) old (More b) mid → Ran step (f b) mid (Stop r) new → Ran step (repeated n f a) old (Stop r) new
  repeated_stop f n i a old b mid r new below before turn =
      let e : (n - (i + 1)) + (i + 1) ≡ n = omega arith in
      subst (λ m. Ran step (repeated m f a) old (Stop r) new) e
      (repeated_more f (n - (i + 1)) (i + 1) a old r new (repeated_next f i a old b mid (Stop r) new before turn))

  repeated_began_more : {A R : Type 0} (f : A → Prog (Turn A R)) (j i : ℕ) (a : A) (old new : W) → Began step (repeated i f a) old new → Began step (repeated (j + i) f a) old new
  repeated_began_more f zero i a old new begun = rw zero-add begun
  repeated_began_more f (suc j) i a old new begun = rw suc-add (began_bind (repeated (j + i) f a) (go_on f) old new (repeated_began_more f j i a old new begun))

  -- a turn that began
  pub repeated_began : {A R : Type 0} (f : A → Prog (Turn A R)) (n i : ℕ) (a : A) (old : W) (b : A) (mid new : W) → i < n → Ran step (repeated i f a) old (More b) mid → Began step (f b) mid new → Began step (repeated n f a) old new
  repeated_began f n i a old b mid new below before begun =
      let e : (n - (i + 1)) + suc i ≡ n = omega arith in
      subst (λ m. Began step (repeated m f a) old new) e
      (repeated_began_more f (n - (i + 1)) (suc i) a old new (ran_began (repeated i f a) (go_on f) old (More b) mid new before begun))

  -- a turn that stops, and what comes after the loop
  pub repeated_ended : {A R B : Type 0} (f : A → Prog (Turn A R)) (k : Turn A R → Prog B) (n i : ℕ) (a : A) (old : W) (b : A) (mid : W) (r : R) (new : W) (c : B) (end : W) → i < n → Ran step (repeated i f a) old (More b) mid → Ran step (f b) mid (Stop r) new → Ran step (k (Stop r)) new c end → Ran step (bind (repeated n f a) k) old c end
  repeated_ended f k n i a old b mid r new c end below before turn after =
      ran_bind (repeated n f a) k old (Stop r) new c end (repeated_stop f n i a old b mid r new below before turn) after

pub ruleset runs = (ran_bind, ran_began, began_bind, began_none, each_next, each_began, repeated_next, repeated_stop, repeated_began, repeated_ended)
