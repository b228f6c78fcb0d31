-- which state a consumer takes in the course of a line `down`, and what becomes of its link
use Rattle.std.specs.Prelude.{◌≡◌, ◌∷◌, ◌++◌, ◌&&◌, ◌||◌, ◌⊎◌}
use Rattle.transcript_law.proofs.Words.{ℕ, Bool, true, false, List, [], list_any, list_any-append, refl, ap, sym, ◌∙◌, inl, inr, ⊎_elim, eq-eqb, Some, None, Chronicle, EndReason, Event, Granted, PlainLink, Role, StreamName, after_lines}
use Rattle.node_core.specs.Dials.{is_broken}
use Rattle.transcript_law.proofs.verbs.Tellings.{are_more}
use Rattle.transcript_law.specs.{Chronicles.{heir_in}, Heirs.{IsHeir, IsTaking}, TakeoverNotes.{is_role_of}, Takeovers.{is_own_commit}, Tellings.{are_all, is_of_down}}
use Rattle.dcp_consumer.specs.declared.handshake.Dialed.{Dialed}
use Rattle.takeover.specs.declared.{take_over.TakeOver.{TakeOver}, take_over.TakeStep.TheVariants.{Own, Pend}}
use Rattle.vb_events.specs.declared.event.Event.TheVariants as event

-- none, and no line tells of its vBucket's role; or pending, which was put on its link's stream
abbrev pub NoneTaken : Dialed → TakeOver → TakeOver → List Event → Type 0
NoneTaken d before after lines = (after ≡ before) × (list_any (is_role_of d.node d.vb) lines ≡ false)

abbrev pub PendTaken : Chronicle → Dialed → TakeOver → TakeOver → Type 0
PendTaken r d before after = (before.last ≡ None) × (after.last ≡ Some Pend) × (r.stated_of d.link ≡ Some Role.Pending)

abbrev pub TakesOn : Chronicle → Dialed → TakeOver → TakeOver → List Event → Type 0
TakesOn r d before after lines = NoneTaken d before after lines ⊎ PendTaken r d before after

-- or active, by which its vBucket takes its branch over
abbrev pub OwnTaken : Dialed → TakeOver → TakeOver → List Event → Type 0
OwnTaken d before after lines = (before.last ≡ Some Pend) × (after.last ≡ Some Own) × (list_any (is_role_of d.node d.vb) lines ≡ true)

-- behind one more line that tells of no role
pub takes_more : (r : Chronicle) (d : Dialed) (before after after' : TakeOver) (lines : List Event) (tell : Event) → is_role_of d.node d.vb tell ≡ false → after' ≡ after → TakesOn r d before after lines → TakesOn r d before after' (lines ++ tell ∷ [])
takes_more r d before after after' lines tell none same = ⊎_elim
    (λ t. inl (same ∙ t.0, list_any-append (is_role_of d.node d.vb) lines (tell ∷ []) ∙ (λ i. t.1 i || (none i || false))))
    (λ t. inr (t.0, ap (λ (x : TakeOver). x.last) same ∙ t.1, t.2))

-- one that took its branch over before the line is told nothing any more
pub owns_yet : (r : Chronicle) (d : Dialed) (before after : TakeOver) (lines : List Event) → TakesOn r d before after lines → before ≡ record { last = Some Own } → after ≡ record { last = Some Own }
owns_yet r d before after lines takes owns = ⊎_elim
    (λ t. t.0 ∙ owns)
    (λ t. let z : None ≡ Some Own = sym t.0 ∙ ap (λ (x : TakeOver). x.last) owns in cc)
    takes

-- and no line tells of its role
pub owns_unturned : (r : Chronicle) (d : Dialed) (before after : TakeOver) (lines : List Event) → TakesOn r d before after lines → before.last ≡ Some Own → list_any (is_role_of d.node d.vb) lines ≡ false
owns_unturned r d before after lines takes owns = ⊎_elim (λ t. t.1) (λ t. let z : None ≡ Some Own = sym t.0 ∙ owns in cc) takes

-- one that was told nothing by now was told nothing before, and no line tells of its role
pub untaken : (r : Chronicle) (d : Dialed) (before after : TakeOver) (lines : List Event) → TakesOn r d before after lines → after.last ≡ None → NoneTaken d before after lines
untaken r d before after lines takes none = ⊎_elim (λ t. t) (λ t. let z : None ≡ Some Pend = sym none ∙ t.1 in cc) takes

-- one that was told pending, where active was put, was told so before the line
pub pended : (r : Chronicle) (d : Dialed) (before after : TakeOver) (lines : List Event) → TakesOn r d before after lines → after.last ≡ Some Pend → r.stated_of d.link ≡ Some Role.Active → before.last ≡ Some Pend
pended r d before after lines takes last active = ⊎_elim
    (λ t. sym (ap (λ (x : TakeOver). x.last) t.0) ∙ last)
    (λ t. let z : Some Role.Pending ≡ Some Role.Active = sym t.2 ∙ active in cc)
    takes

-- lines by which a vBucket takes its branch over tell of its role
pub heir_turns : (lines : List Event) (n v : ℕ) → heir_in lines ≡ Some (n, v) → list_any (is_role_of n v) lines ≡ true
heir_turns [] n v e = cc
heir_turns (event.Role m q Role.Active ∷ lines) n v e = let same : ◌≡◌ {A = ℕ × ℕ} (m, q) (n, v) = cc in ap (λ (x : ℕ × ℕ). is_role_of n v (event.Role x.0 x.1 Role.Active) || list_any (is_role_of n v) lines) same ∙ ap (λ b. b || list_any (is_role_of n v) lines) (itself n v)
  where
    itself : (n v : ℕ) → is_role_of n v (event.Role n v Role.Active) ≡ true
    itself n v = (λ i. eq-eqb n n refl i && eq-eqb v v refl i)
heir_turns (line ∷ lines) n v e = ap (λ b. is_role_of n v line || b) (heir_turns lines n v e) ∙ or_true (is_role_of n v line)
  where
    or_true : (b : Bool) → (b || true) ≡ true
    or_true true = refl
    or_true false = refl

-- ---- which lines are told

-- those of what was taken of the link's stream
abbrev pub Took : Dialed → List Event → Type 0
Took d lines = are_all (is_of_down d.link d.node d.vb) lines ≡ true

pub took_more : (d : Dialed) (lines : List Event) (tell : Event) → Took d lines → is_of_down d.link d.node d.vb tell ≡ true → Took d (lines ++ tell ∷ [])
took_more d lines tell took own = are_more (is_of_down d.link d.node d.vb) lines (tell ∷ []) took (λ i. own i && true)

-- and last that its vBucket is about to take its branch over: then nothing is to come
pub record PendsIn (r : Chronicle) (d : Dialed) (after : TakeOver) (lines : List Event) : Type 0 where
  pub front : List Event
  pub together : lines ≡ front ++ event.Role d.node d.vb Role.Pending ∷ []
  pub taken : Took d front
  pub taking : IsTaking (after_lines r front) d.node d.vb
  pub by_link : taking.given.link ≡ d.link
  pub last : after.last ≡ Some Pend
  pub stated : r.stated_of d.link ≡ Some Role.Pending
  pub none : (g : Granted) → (after_lines r lines).stream_of (StreamName.Link d.link) d.vb ≡ Some g → (g.coming ≡ []) × (g.marks ≡ [])

abbrev pub TellsIn : Chronicle → Dialed → TakeOver → List Event → Type 0
TellsIn r d after lines = Took d lines ⊎ PendsIn r d after lines

pub took_of : (r : Chronicle) (d : Dialed) (after : TakeOver) (lines : List Event) → TellsIn r d after lines → (PendsIn r d after lines → ⊥) → Took d lines
took_of r d after lines tells still = ⊎_elim (λ t. t) (λ p. absurd (still p)) tells

-- or it took its branch over, and made commits
pub record OwnsIn (r : Chronicle) (d : Dialed) (lines : List Event) : Type 0 where
  pub front : List Event
  pub commits : List Event
  pub together : lines ≡ front ++ event.Role d.node d.vb Role.Active ∷ commits
  pub taken : Took d front
  pub heir : IsHeir (after_lines r front) d.node d.vb
  pub by_link : heir.given.link ≡ d.link
  pub own : are_all (is_own_commit d.node d.vb) commits ≡ true

-- a link ends so by its consumer alone, and not because of a disk
abbrev pub is_own_end : EndReason → Bool
is_own_end EndReason.Disk = false
is_own_end EndReason.Cut = false
is_own_end other = true

pub own_is : (why : EndReason) → is_broken (Some why) ≡ false → (Some why ≡ Some EndReason.Cut → ⊥) → is_own_end why ≡ true
own_is EndReason.Disk e uncut = cc
own_is EndReason.Cut e uncut = absurd (uncut refl)
own_is other e uncut = refl

pub own_calm : (why : EndReason) → is_own_end why ≡ true → is_broken (Some why) ≡ false
own_calm EndReason.Disk e = cc
own_calm EndReason.Cut e = cc
own_calm other e = refl

-- ---- the link behind the line

-- a link that goes on: its producer's end is as it was, and its consumer's wrote more, and took a state at most
pub record DownLeft (r : Chronicle) (lines : List Event) (link link' : PlainLink) : Type 0 where
  pub server : link'.server ≡ link.server
  pub dialed : link'.consumer.dialed ≡ link.consumer.dialed
  pub heard : link'.up_heard ≡ link.up_heard
  pub out : List ℕ
  pub up : link'.up ≡ link.up ++ out
  pub takes : TakesOn r link.consumer.dialed link.consumer.taking link'.consumer.taking lines ⊎ OwnTaken link.consumer.dialed link.consumer.taking link'.consumer.taking lines
