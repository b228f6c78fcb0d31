-- programs that are the same
use Rattle.std.proofs.Common.{◌≡◌, List, [], ◌∷◌, ◌++◌, refl, sym, ◌∙◌}
use Rattle.std.specs.List.{fold}
use Rattle.std.proofs.lemmas.Grind.{fold-append}
use Rattle.vb_calls.specs.Programs.{Prog, Done, Call, bind, next_of, each, AnyCall, Always}

pub bind_done : {A : Type 0} (prog : Prog A) → bind prog (λ a. Done a) ≡ prog
bind_done (Done a) = refl
bind_done (Call v call next) = λ i. Call v call (λ reply. bind_done (next reply) i)

pub bind_assoc : {A B C : Type 0} (prog : Prog A) (k : A → Prog B) (l : B → Prog C) → bind (bind prog k) l ≡ bind prog (λ a. bind (k a) l)
bind_assoc (Done a) k l = refl
bind_assoc (Call v call next) k l = λ i. Call v call (λ reply. bind_assoc (next reply) k l i)

-- two programs go on in the same way, where they do so from each answer that the first may come to
pub bind_same : {A B : Type 0} (prog : Prog A) (k l : A → Prog B) → Always AnyCall (λ a. k a ≡ l a) prog → bind prog k ≡ bind prog l
bind_same (Done a) k l same = same
bind_same (Call v call next) k l same = λ i. Call v call (λ reply. bind_same (next reply) k l (same.1 reply tt) i)

-- a program, and then one for each of a list
pub fold_bind : {X A : Type 0} (f : X → A → Prog A) (xs : List X) (prog : Prog A) → fold (next_of f) prog xs ≡ bind prog (each f xs)
fold_bind f [] prog = sym (bind_done prog)
fold_bind f (x ∷ xs) prog =
    fold_bind f xs (bind prog (f x)) ∙ bind_assoc prog (f x) (each f xs) ∙ (λ i. bind prog (λ a. sym (fold_bind f xs (f x a)) i))

-- one for each of two lists
pub each_append : {X A : Type 0} (f : X → A → Prog A) (xs ys : List X) (a : A) → each f (xs ++ ys) a ≡ bind (each f xs a) (each f ys)
each_append f xs ys a = fold-append (next_of f) (Done a) xs ys ∙ fold_bind f ys (each f xs a)

-- what a program for one item keeps apart, one for each of a list keeps apart
pub each_apart : {X A : Type 0} (f : X → A → Prog A) (g : A → A) → ((x : X) (a : A) → f x (g a) ≡ bind (f x a) (λ b. Done (g b)))
    → (xs : List X) (a : A) → each f xs (g a) ≡ bind (each f xs a) (λ b. Done (g b))
each_apart f g apart [] a = refl
each_apart f g apart (x ∷ xs) a =
    fold_bind f xs (f x (g a)) ∙ (λ i. bind (apart x a i) (each f xs)) ∙ bind_assoc (f x a) (λ b. Done (g b)) (each f xs)
    ∙ (λ i. bind (f x a) (λ b. each_apart f g apart xs b i)) ∙ sym (bind_assoc (f x a) (each f xs) (λ b. Done (g b)))
    ∙ (λ i. bind (sym (fold_bind f xs (f x a)) i) (λ b. Done (g b)))
