-- what a layer does with its vBuckets and their journals: the calls that it makes, what it asks of journals, and its answer at the end
use Rattle.std.specs.Prelude.{zero, suc, ◌≡◌, ℕ, List, Option, ◌⊎◌}
use Rattle.std.specs.List.{fold}
use Rattle.vb_calls.specs.declared.calls.VbCall.{VbCall}
use Rattle.vb_calls.specs.declared.calls.VbReply.{VbReply}
use Rattle.vb_calls.specs.Programs.{Prog, Turn, More, Stop}
use Rattle.vb_calls.specs.Programs as prog
use Rattle.vb_calls.specs.Shelves.{Ask, Read, Look, Flush, Got, Shelves, shelves_step}
use Rattle.vb_calls.specs.States.{States, states_step}

-- calls to vBuckets and requests to their journals, each with what the layer goes on to do with the answer
pub data Job (A : Type 0) : Type 0 where
  Ended : A → Job A
  Call : ℕ → VbCall → (Option VbReply → Job A) → Job A
  Request : ℕ → (ask : Ask) → (Got ask → Job A) → Job A

-- one job, and then what comes after its answer
abbrev pub bind_job : {A B : Type 0} → Job A → (A → Job B) → Job B
bind_job (Ended a) k = k a
bind_job (Call v call next) k = Call v call (λ reply. bind_job (next reply) k)
bind_job (Request v ask next) k = Request v ask (λ got. bind_job (next got) k)

-- one more, after a job
abbrev pub next_job : {X A : Type 0} → (X → A → Job A) → Job A → X → Job A
next_job f job x = bind_job job (f x)

-- one after the other, for each of a list
abbrev pub each_job : {X A : Type 0} → (X → A → Job A) → List X → A → Job A
each_job f xs a = fold (next_job f) (Ended a) xs

abbrev pub go_on_job : {A R : Type 0} → (A → Job (Turn A R)) → Turn A R → Job (Turn A R)
go_on_job f (More a) = f a
go_on_job f (Stop r) = Ended (Stop r)

-- at most so many turns, until one stops
abbrev pub repeated_job : {A R : Type 0} → ℕ → (A → Job (Turn A R)) → A → Job (Turn A R)
repeated_job zero f a = Ended (More a)
repeated_job (suc n) f a = bind_job (repeated_job n f a) (go_on_job f)

-- a program that asks nothing of journals
abbrev pub lift : {A : Type 0} → Prog A → Job A
lift (prog.Done a) = Ended a
lift (prog.Call v call next) = Call v call (λ reply. lift (next reply))

-- a job over the plain vBuckets and plain journals, whose disks fail as their arms say
abbrev pub after_job : {A : Type 0} → Job A → States → Shelves → (States × Shelves) × A
after_job (Ended a) states shelves = ((states, shelves), a)
after_job (Call v call next) states shelves =
    let (states', reply) = states_step states v call in after_job (next reply) states' shelves
after_job (Request v ask next) states shelves =
    let (shelves', got) = shelves_step shelves v ask in after_job (next got) states shelves'

-- what a job that reads alone makes of the plain vBuckets, and its answer, while the plain journals are these
abbrev pub after_reads : {A : Type 0} → Job A → Shelves → States → States × A
after_reads (Ended a) shelves states = (states, a)
after_reads (Call v call next) shelves states = let (states', reply) = states_step states v call in after_reads (next reply) shelves states'
after_reads (Request v ask next) shelves states = after_reads (next (shelves_step shelves v ask).1) shelves states

-- a job ran from one access and one keeper of journals to others, by steps of which `step` and `asks` tell
abbrev pub RanJob : {W J A : Type 0} → (W → ℕ → VbCall → Option VbReply → W → Type 0) → (J → ℕ → (ask : Ask) → Got ask → J → Type 0) → Job A → W → J → A → W → J → Type 0
RanJob step asks (Ended a) old kept answer new left = (answer ≡ a) × (new ≡ old) × (left ≡ kept)
RanJob step asks (Call v call next) old kept answer new left =
    (reply : Option VbReply) × (mid : _) × step old v call reply mid × RanJob step asks (next reply) mid kept answer new left
RanJob step asks (Request v ask next) old kept answer new left =
    (got : Got ask) × (mid : _) × asks kept v ask got mid × RanJob step asks (next got) old mid answer new left

-- Memory was short before a request to the journal at v was made: the journals stay, or all that is known of them is what is known where the batch on its way was looked at.
abbrev pub IsUnasked : {J : Type 0} → (J → ℕ → (ask : Ask) → Got ask → J → Type 0) → ℕ → J → J → Type 0
IsUnasked asks v old new = (new ≡ old) ⊎ ((flush : Flush) × asks old v Look flush new)

-- it made a front part of its calls and requests
abbrev pub BeganJob : {W J A : Type 0} → (W → ℕ → VbCall → Option VbReply → W → Type 0) → (J → ℕ → (ask : Ask) → Got ask → J → Type 0) → Job A → W → J → W → J → Type 0
BeganJob step asks (Ended a) old kept new left = (new ≡ old) × (left ≡ kept)
BeganJob step asks (Call v call next) old kept new left =
    ((new ≡ old) × (left ≡ kept)) ⊎ ((reply : Option VbReply) × (mid : _) × step old v call reply mid × BeganJob step asks (next reply) mid kept new left)
BeganJob step asks (Request v ask next) old kept new left =
    ((new ≡ old) × IsUnasked asks v kept left) ⊎ ((got : Got ask) × (mid : _) × asks kept v ask got mid × BeganJob step asks (next got) old mid new left)

-- no call of a vBucket
abbrev pub no_step : Unit {0} → ℕ → VbCall → Option VbReply → Unit {0} → Type 0
no_step old v call reply new = ⊥

-- a job ran that asks journals alone, and calls no vBucket
abbrev pub RanRequests : {J A : Type 0} → (J → ℕ → (ask : Ask) → Got ask → J → Type 0) → Job A → J → A → J → Type 0
RanRequests asks job kept answer left = RanJob no_step asks job tt kept answer tt left

-- it made a front part of its requests
abbrev pub BeganRequests : {J A : Type 0} → (J → ℕ → (ask : Ask) → Got ask → J → Type 0) → Job A → J → J → Type 0
BeganRequests asks job kept left = BeganJob no_step asks job tt kept tt left

-- What is known of a request to journals that are alone and whose disks fail as their arms say and not otherwise: for all journals that they stand for, the answer is the plain one, and they stand for the journals after it.
abbrev pub alone_asks : {J : Type 0} → (J → Shelves → Type 0) → J → ℕ → (ask : Ask) → Got ask → J → Type 0
alone_asks Stands old v ask got new =
    (shelves : Shelves) → Stands old shelves → (got ≡ (shelves_step shelves v ask).1) × Stands new (shelves_step shelves v ask).0

-- Whatever replies of one kind and answers of journals a job gets, each call and each request that it makes is of another kind, and the answer that it comes to is of a third.
abbrev pub AlwaysJob : {A : Type 0} → (VbCall → Option VbReply → Type 0) → (ℕ → VbCall → Type 0) → (ℕ → Ask → Type 0) → (A → Type 0) → Job A → Type 0
AlwaysJob replies calls requests answers (Ended a) = answers a
AlwaysJob replies calls requests answers (Call v call next) =
    calls v call × ((reply : Option VbReply) → replies call reply → AlwaysJob replies calls requests answers (next reply))
AlwaysJob replies calls requests answers (Request v ask next) =
    requests v ask × ((got : Got ask) → AlwaysJob replies calls requests answers (next got))

-- a request that reads, and leaves the journal as it is
abbrev pub IsRead : ℕ → Ask → Type 0
IsRead v Read = Unit {0}
IsRead v other = ⊥
