-- the streams that wait for their turns in a pull, and what is put behind one more
use Rattle.std.proofs.Common.{◌≡◌, ◌≢◌, ◌⊎◌, ℕ, Bool, true, false, List, [], ◌∷◌, ◌++◌, length, map, refl, sym, ap, ◌∙◌, subst, inl, inr, append-nil, arith}
use Rattle.std.specs.Prelude.{if◌then◌else◌, not, ◌||◌, ◌==◌}
use Rattle.std.specs.List.{All, concat, filter, flat_map, list_any}
use Rattle.std.proofs.lemmas.Bool.{false_from_ne_true, eqb-true, false≢true}
use Rattle.std.proofs.lemmas.Bool.Decides.{nat_tests}
use Rattle.std.proofs.lemmas.List.{map-append}
use Rattle.std.proofs.lemmas.List.Elements.{All-head, All-tail, filter-append}
use Rattle.std.proofs.lemmas.List.Folds.{concat-append, list_any-append}
use Rattle.std.proofs.lemmas.Grind.{flat_map-append}
use Rattle.mcbp_frame.specs.declared.frame.Frame.{Frame}
use Rattle.mcbp_frame.specs.Spelling.{spelling}
use Rattle.vb_events.specs.declared.event.Event.{Event}
use Rattle.vb_events.specs.declared.event.StreamName.{StreamName}
use Rattle.flow_control.specs.declared.window.Window.{Window}
use Rattle.dcp_producer.specs.declared.next_frame.NextFrame.{NextFrame}
use Rattle.dcp_producer.specs.declared.next_frame.NextFrame.TheVariants as next
use Rattle.dcp_producer.specs.declared.next_frame.Waits.{Waits}
use Rattle.dcp_producer.specs.declared.next_frame.Waits.TheVariants as waits
use Rattle.dcp_producer.specs.Producers.{PlainStream}
use Rattle.dcp_producer.specs.Pulling.{QuietOnes, first_wait, with_quiet, is_quiet, Pulling}
use Rattle.dcp_producer.specs.Holding.{Passes, PassAll}
use Rattle.dcp_producer.specs.Turns.{turns_of, Tried, IsTold, standing_by, StandApart, waiting, TakeTurns, NextOrder, TurnsOn}
use Rattle.dcp_producer.proofs.Turning.{before}

-- the streams that wait for their next turns in this pull
abbrev pub awake_in : QuietOnes → List PlainStream → List PlainStream
awake_in q streams = filter (λ stream. not (is_quiet stream.id q)) streams

abbrev pub awake_of : Pulling → List PlainStream
awake_of p = awake_in p.quiet (turns_of p.served.end)

-- one that was asked was quiet, and waits
abbrev pub says_wait : NextFrame → Waits
says_wait (next.Put m line) = waits.Nothing
says_wait (next.End reason) = waits.Nothing
says_wait (next.Quiet for) = for
says_wait next.Disk = waits.Nothing

-- one's journal can't be read
abbrev pub stops_at : NextFrame → Bool
stops_at (next.Put m line) = false
stops_at (next.End reason) = false
stops_at (next.Quiet for) = false
stops_at next.Disk = true

-- so it is with one of these
abbrev pub stops_in : List Tried → Bool
stops_in tries = list_any (λ t. stops_at t.next) tries

-- what these wait for, as a pull says it
abbrev pub waits_in : {X : Type 0} → (X → Waits) → List X → Waits
waits_in f [] = waits.Nothing
waits_in f (x ∷ xs) = first_wait (f x) (waits_in f xs)

pub wait_none : (a : Waits) → first_wait a waits.Nothing ≡ a
wait_none waits.Nothing = refl
wait_none waits.Saved = refl
wait_none waits.State = refl

pub wait_turned : (a b : Waits) → first_wait a b ≡ first_wait b a
wait_turned waits.Nothing waits.Nothing = refl
wait_turned waits.Nothing waits.Saved = refl
wait_turned waits.Nothing waits.State = refl
wait_turned waits.Saved waits.Nothing = refl
wait_turned waits.Saved waits.Saved = refl
wait_turned waits.Saved waits.State = refl
wait_turned waits.State waits.Nothing = refl
wait_turned waits.State waits.Saved = refl
wait_turned waits.State waits.State = refl

wait_thrice : (a b c : Waits) → first_wait a (first_wait b c) ≡ first_wait (first_wait a b) c
wait_thrice waits.Nothing b c = refl
wait_thrice waits.State b c = refl
wait_thrice waits.Saved waits.Nothing c = refl
wait_thrice waits.Saved waits.State c = refl
wait_thrice waits.Saved waits.Saved waits.Nothing = refl
wait_thrice waits.Saved waits.Saved waits.Saved = refl
wait_thrice waits.Saved waits.Saved waits.State = refl

pub waits_more : {X : Type 0} (f : X → Waits) (xs : List X) (x : X) → waits_in f (xs ++ x ∷ []) ≡ first_wait (waits_in f xs) (f x)
waits_more f [] x = wait_none (f x)
waits_more f (y ∷ xs) x = ap (first_wait (f y)) (waits_more f xs x) ∙ wait_thrice (f y) (waits_in f xs) (f x)

-- ---- the order of turns

-- those that wait, less one that is quiet
pub awake_append : (q : QuietOnes) (xs ys : List PlainStream) → awake_in q (xs ++ ys) ≡ awake_in q xs ++ awake_in q ys
awake_append q xs ys = filter-append (λ stream. not (is_quiet stream.id q)) xs ys

pub asleep : (q : QuietOnes) (x : PlainStream) (xs : List PlainStream) → is_quiet x.id q ≡ true → awake_in q (x ∷ xs) ≡ awake_in q xs
asleep q x xs is = ap (λ b. if not b then x ∷ awake_in q xs else awake_in q xs) is

pub awake : (q : QuietOnes) (x : PlainStream) (xs : List PlainStream) → is_quiet x.id q ≡ false → awake_in q (x ∷ xs) ≡ x ∷ awake_in q xs
awake q x xs is = ap (λ b. if not b then x ∷ awake_in q xs else awake_in q xs) is

pub asleep_all : (q : QuietOnes) (xs : List PlainStream) → All (λ stream. is_quiet stream.id q ≡ true) xs → awake_in q xs ≡ []
asleep_all q [] all = refl
asleep_all q (x ∷ xs) all =
    asleep q x xs (All-head (λ (stream : PlainStream). is_quiet stream.id q ≡ true) x xs all) ∙ asleep_all q xs (All-tail (λ (stream : PlainStream). is_quiet stream.id q ≡ true) x xs all)

-- behind one more that is quiet
pub quiet_more : (q : QuietOnes) (id : ℕ) (for : Waits) (n : ℕ) → is_quiet n (with_quiet id for q) ≡ (is_quiet n q || (id == n || false))
quiet_more q id for n = list_any-append (λ other. other == n) q.ids (id ∷ [])

pub or_no : (a b : Bool) → b ≡ false → (a || (b || false)) ≡ a
or_no true b is = refl
or_no false b is = ap (λ c. c || false) is

pub or_yes : (a b : Bool) → (a ≡ true) ⊎ (b ≡ true) → (a || (b || false)) ≡ true
or_yes true b is = refl
or_yes false b (inl is) = absurd (false≢true is)
or_yes false b (inr is) = ap (λ c. c || false) is

pub quiet_then : (q : QuietOnes) (id : ℕ) (for : Waits) (n : ℕ) → (is_quiet n q ≡ true) ⊎ (id ≡ n) → is_quiet n (with_quiet id for q) ≡ true
quiet_then q id for n (inl before) = quiet_more q id for n ∙ or_yes (is_quiet n q) (id == n) (inl before)
quiet_then q id for n (inr is) = quiet_more q id for n ∙ or_yes (is_quiet n q) (id == n) (inr (grind (arith, nat_tests)))

pub quiet_same : (q : QuietOnes) (id : ℕ) (for : Waits) (n : ℕ) → n ≢ id → is_quiet n (with_quiet id for q) ≡ is_quiet n q
quiet_same q id for n other = quiet_more q id for n ∙ or_no (is_quiet n q) (id == n) (false_from_ne_true (id == n) (λ t. other (sym (eqb-true id n t))))

-- the others wait as before
pub awake_same : (q : QuietOnes) (id : ℕ) (for : Waits) (xs : List PlainStream) → All (λ stream. stream.id ≢ id) xs → awake_in (with_quiet id for q) xs ≡ awake_in q xs
awake_same q id for [] differ = refl
awake_same q id for (x ∷ xs) differ = λ i.
    if not (quiet_same q id for x.id (All-head (λ (stream : PlainStream). stream.id ≢ id) x xs differ) i)
    then x ∷ awake_same q id for xs (All-tail (λ (stream : PlainStream). stream.id ≢ id) x xs differ) i
    else awake_same q id for xs (All-tail (λ (stream : PlainStream). stream.id ≢ id) x xs differ) i

-- one more try
pub takes_more : (name : StreamName) (first : List PlainStream) (tries : List Tried) (last rest : List PlainStream) (t : Tried) → TakeTurns name first tries last → last ≡ t.stream ∷ rest → IsTold name t
    → TakeTurns name first (tries ++ t ∷ []) (waiting t.next t.left rest)
takes_more name first [] last rest t turns is told = (rest, sym turns ∙ is, told, refl)
takes_more name first (u ∷ tries) last rest t (rest', is', told', more) is told =
    (rest', is', told', takes_more name (waiting u.next u.left rest') tries last rest t more is told)

pub stands_more : (first : List PlainStream) (tries : List Tried) (last streams : List PlainStream) (t : Tried) (front back : List PlainStream) → StandApart first tries last → last ≡ front ++ t.stream ∷ back → streams ≡ standing_by t.next t.left front back
    → StandApart first (tries ++ t ∷ []) streams
stands_more first [] last streams t front back stood is stands = (front, back, sym stood ∙ is, stands)
stands_more first (u ∷ tries) last streams t front back (front', back', is', stood) is stands =
    (front', back', is', stands_more (standing_by u.next u.left front' back') tries last streams t front back stood is stands)

pub flat_map_more : {X A : Type 0} (f : X → List A) (xs : List X) (x : X) → flat_map f (xs ++ x ∷ []) ≡ flat_map f xs ++ f x
flat_map_more f xs x = flat_map-append f xs (x ∷ []) ∙ ap (λ ys. flat_map f xs ++ ys) (append-nil (f x))

pub any_more : {X : Type 0} (f : X → Bool) (xs : List X) (x : X) → list_any f (xs ++ x ∷ []) ≡ (list_any f xs || (f x || false))
any_more f xs x = list_any-append f xs (x ∷ [])

pub or_none : (a b : Bool) → b ≡ false → a ≡ (a || (b || false))
or_none a b is = sym (or_no a b is)

pub or_false : (b : Bool) → (b || false) ≡ b
or_false true = refl
or_false false = refl

pub passes_more : (fs : List Frame) (f : Frame) (w mid after : Window) → PassAll fs w mid → Passes (length (spelling f)) mid after → PassAll (fs ++ f ∷ []) w after
passes_more [] f w mid after all one = (after, subst (λ x. Passes (length (spelling f)) x after) all one, refl)
passes_more (g ∷ gs) f w mid after (next, first, all) one = (next, first, passes_more gs f next mid after all one)

abbrev pub frames_of : List (Frame × Event) → List Frame
frames_of put = map (λ x. x.0) put

abbrev pub bytes_of : List (Frame × Event) → List ℕ
bytes_of put = concat (map (λ x. spelling x.0) put)

abbrev pub lines_of : List (Frame × Event) → List Event
lines_of put = map (λ x. x.1) put

pub bytes_more : (put : List (Frame × Event)) (f : Frame) (line : Event) → bytes_of (put ++ (f, line) ∷ []) ≡ bytes_of put ++ spelling f
bytes_more put f line =
    ap concat (map-append (λ (x : Frame × Event). spelling x.0) put ((f, line) ∷ []))
    ∙ concat-append (map (λ (x : Frame × Event). spelling x.0) put) (spelling f ∷ []) ∙ ap (λ bytes. bytes_of put ++ bytes) (append-nil (spelling f))

pub orders_more : (order : List PlainStream) (tries : List Tried) (mid after : List PlainStream) (t : Tried) → TurnsOn order tries mid → NextOrder t.next t.stream t.left mid after → TurnsOn order (tries ++ t ∷ []) after
orders_more order [] mid after t on one = (after, subst (λ o. NextOrder t.next t.stream t.left o after) on one, refl)
orders_more order (u ∷ tries) mid after t (next, first, on) one = (next, first, orders_more next tries mid after t on one)
