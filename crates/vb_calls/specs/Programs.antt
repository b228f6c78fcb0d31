-- what a layer does, as the calls that it makes and what it makes of their replies
use Rattle.std.specs.Prelude.{Bool, true, zero, suc, nat_eq, ◌≡◌, ℕ, List, [], ◌∷◌, ◌++◌, Option, Some, None, ◌⊎◌}
use Rattle.std.specs.List.{fold, flat_map}
use Rattle.vb_calls.specs.declared.calls.VbCall.{VbCall}
use Rattle.vb_calls.specs.declared.calls.VbReply.{VbReply}
use Rattle.vb_calls.specs.Forms.{HasForm}
use Rattle.vb_calls.specs.States.{States, states_step, states_make}
use Rattle.vb_calls.specs.State.{new_vb}
use Rattle.vb_types.specs.declared.role.Role.{Role}

-- the reply of a call, where there is one, has one of the answers of that call
abbrev pub IsReply : VbCall → Option VbReply → Type 0
IsReply call None = Unit {0}
IsReply call (Some reply) = HasForm call reply.answer

-- the calls that a layer makes, each with what it goes on to do with the reply, and its answer at the end
pub data Prog (A : Type 0) : Type 0 where
  Done : A → Prog A
  Call : ℕ → VbCall → (Option VbReply → Prog A) → Prog A

abbrev pub bind : {A B : Type 0} → Prog A → (A → Prog B) → Prog B
bind (Done a) k = k a
bind (Call v call next) k = Call v call (λ reply. bind (next reply) k)

-- one more, after a program
abbrev pub next_of : {X A : Type 0} → (X → A → Prog A) → Prog A → X → Prog A
next_of f prog x = bind prog (f x)

-- one after the other, for each of a list
abbrev pub each : {X A : Type 0} → (X → A → Prog A) → List X → A → Prog A
each f xs a = fold (next_of f) (Done a) xs

-- what one turn of a loop comes to: the loop goes on, or it stops
pub data Turn (A R : Type 0) : Type 0 where
  More : A → Turn A R
  Stop : R → Turn A R

abbrev pub go_on : {A R : Type 0} → (A → Prog (Turn A R)) → Turn A R → Prog (Turn A R)
go_on f (More a) = f a
go_on f (Stop r) = Done (Stop r)

-- at most so many turns, until one stops
abbrev pub repeated : {A R : Type 0} → ℕ → (A → Prog (Turn A R)) → A → Prog (Turn A R)
repeated zero f a = Done (More a)
repeated (suc n) f a = bind (repeated n f a) (go_on f)

-- a program over the plain states
abbrev pub after : {A : Type 0} → Prog A → States → States × A
after (Done a) states = (states, a)
after (Call v call next) states = let (states', reply) = states_step states v call in after (next reply) states'

abbrev pub Made : Type 0
Made = ℕ × VbCall × Option VbReply

-- a program made these calls, in this order, got these replies, and came to this answer
abbrev pub Told : {A : Type 0} → Prog A → List Made → A → Type 0
Told (Done a) [] answer = answer ≡ a
Told (Done a) (m ∷ made) answer = ⊥
Told (Call v call next) [] answer = ⊥
Told (Call v call next) (m ∷ made) answer = (m.0 ≡ v) × (m.1 ≡ call) × Told (next m.2) made answer

-- a program ran from one access to another, by steps of which `step` tells
abbrev pub Ran : {W A : Type 0} → (W → ℕ → VbCall → Option VbReply → W → Type 0) → Prog A → W → A → W → Type 0
Ran step (Done a) old answer new = (answer ≡ a) × (new ≡ old)
Ran step (Call v call next) old answer new =
    (reply : Option VbReply) × (mid : _) × step old v call reply mid × Ran step (next reply) mid answer new

-- it made a front part of its calls
abbrev pub Began : {W A : Type 0} → (W → ℕ → VbCall → Option VbReply → W → Type 0) → Prog A → W → W → Type 0
Began step (Done a) old new = new ≡ old
Began step (Call v call next) old new =
    (new ≡ old) ⊎ ((reply : Option VbReply) × (mid : _) × step old v call reply mid × Began step (next reply) mid new)

-- What is known of a call to an access that is alone: for all states that it stands for, the reply is the plain one, and it stands for the states after it.
abbrev pub alone_step : {W : Type 0} → (W → States → Type 0) → W → ℕ → VbCall → Option VbReply → W → Type 0
alone_step Stands old v call reply new =
    (states : States) → Stands old states → (reply ≡ (states_step states v call).1) × Stands new (states_step states v call).0

-- what is known where a vBucket is made at such an access
abbrev pub alone_made : {W : Type 0} → (W → States → Type 0) → W → ℕ → ℕ → Role → ℕ → Bool → W → Type 0
alone_made Stands old v node role uuid fresh new =
    (states : States) → Stands old states
    → (fresh ≡ (states_make states v (new_vb node role uuid)).1) × Stands new (states_make states v (new_vb node role uuid)).0

-- what one call adds to the list of a vBucket: the call and its reply, where there is one
abbrev pub one : Bool → VbCall → Option VbReply → List (VbCall × VbReply)
one true call (Some reply) = (call, reply) ∷ []
one _ call _ = []

abbrev pub of_one : ℕ → Made → List (VbCall × VbReply)
of_one w made = one (nat_eq made.0 w) made.1 made.2

-- what calls add to the list of a vBucket
abbrev pub gained : ℕ → List Made → List (VbCall × VbReply)
gained w made = flat_map (of_one w) made

-- what is known of a call to an access that is not alone: it stands at the end of its vBucket's list
abbrev pub listed_step : {W : Type 0} → (W → ℕ → List (VbCall × VbReply)) → W → ℕ → VbCall → Option VbReply → W → Type 0
listed_step mine old v call reply new = (w : ℕ) → mine new w ≡ mine old w ++ of_one w (v, call, reply)

-- the states after at most so many calls of a program
abbrev pub after_front : {A : Type 0} → ℕ → Prog A → States → States
after_front zero prog states = states
after_front (suc n) (Done a) states = states
after_front (suc n) (Call v call next) states =
    let (states', reply) = states_step states v call in after_front n (next reply) states'

-- the first calls of a program
abbrev pub FirstCalls : {A : Type 0} → Prog A → List Made → Type 0
FirstCalls (Done a) [] = Unit {0}
FirstCalls (Done a) (m ∷ made) = ⊥
FirstCalls (Call v call next) [] = Unit {0}
FirstCalls (Call v call next) (m ∷ made) = (m.0 ≡ v) × (m.1 ≡ call) × FirstCalls (next m.2) made

-- Whatever replies of one kind a program gets, each call that it makes is of another kind, and the answer that it comes to is of a third.
abbrev pub AlwaysWith : {A : Type 0} → (VbCall → Option VbReply → Type 0) → (ℕ → VbCall → Type 0) → (A → Type 0) → Prog A → Type 0
AlwaysWith replies calls answers (Done a) = answers a
AlwaysWith replies calls answers (Call v call next) =
    calls v call × ((reply : Option VbReply) → replies call reply → AlwaysWith replies calls answers (next reply))

-- any reply
abbrev pub AnyReply : VbCall → Option VbReply → Type 0
AnyReply call reply = Unit {0}

-- any call
abbrev pub AnyCall : ℕ → VbCall → Type 0
AnyCall v call = Unit {0}

-- so, whatever the replies
abbrev pub Always : {A : Type 0} → (ℕ → VbCall → Type 0) → (A → Type 0) → Prog A → Type 0
Always calls answers prog = AlwaysWith AnyReply calls answers prog

-- so, where each reply has one of the answers of its call
abbrev pub AlwaysFormed : {A : Type 0} → (ℕ → VbCall → Type 0) → (A → Type 0) → Prog A → Type 0
AlwaysFormed calls answers prog = AlwaysWith IsReply calls answers prog
