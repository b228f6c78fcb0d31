-- what becomes of plain vBuckets that are given up, and of who waits there
use Rattle.std.proofs.Common.{◌≡◌, ◌≢◌, ℕ, Bool, true, false, cond, List, [], ◌∷◌, ◌++◌, refl, sym, ap, ◌∙◌, subst, inl, inr, arith, Option, Some, None}
use Rattle.std.specs.Prelude.{◌⊎◌, ◌==◌, nat_lt}
use Rattle.std.proofs.lemmas.Bool.{cases_eq, eq-eqb, ne_eqb}
use Rattle.std.proofs.lemmas.Bool.Decides.{nat_tests}
use Rattle.durability.specs.declared.waiting.Waiting.{Waiting}
use Rattle.dcp_producer.specs.Giving.{is_due}
use Rattle.dcp_producer.specs.Holding.{IsShut}
use Rattle.dcp_producer.specs.Producers.{PlainStream}
use Rattle.dcp_producer.specs.declared.yields.Yielded.{Yielded}
use Rattle.vb_calls.specs.Plain.{Plain, plain_step}
use Rattle.vb_calls.specs.Programs.{Prog, Done, Call, Ran, after}
use Rattle.vb_calls.specs.Roles.{yielded}
use Rattle.vb_calls.specs.Settling.{given_up, outcome_for}
use Rattle.vb_calls.specs.State.{is_active, refusal_reply}
use Rattle.vb_calls.specs.States.{States, call_at, states_step, with_vb_at}
use Rattle.vb_calls.specs.Streams.{stream_at}
use Rattle.vb_calls.specs.declared.calls.Resolution.TheVariants as resolution
use Rattle.vb_calls.specs.declared.calls.Resolved.{Resolved}
use Rattle.vb_calls.specs.declared.calls.VbAnswer.TheVariants as answer
use Rattle.vb_calls.specs.declared.calls.VbCall.{VbCall}
use Rattle.vb_calls.specs.declared.calls.VbCall.TheVariants as call
use Rattle.vb_calls.specs.declared.calls.VbReply.{VbReply}
use Rattle.vb_calls.specs.declared.stream.Stream.{Stream}
use Rattle.vb_types.specs.declared.role.Role.{Role}
use Rattle.vb_types.specs.declared.role.Role.TheVariants as role
use Rattle.vb_types.specs.declared.status.Status.TheVariants as status
use Rattle.vbucket.specs.Committing.{Tells}
use Rattle.vbucket.specs.DurableLaws.{AllAmbiguous}
use Rattle.vbucket.specs.Laws.{Sound}
use Rattle.node_core.specs.GivingLaws.{GivesAll, GivesOne, GivenOnce, IsGiven, PeerGives, AllTell, TellsWaiters, WaitersTold, YieldsAs}
use Rattle.node_core.specs.GivingUp.{peer_gives_up}
use Rattle.node_core.specs.Peers.{KeptPeer, PlainPeer}
use Rattle.node_core.proofs.GivingLaws.{due, lets_through, not_shut, peer_gives, shut, undue}

-- a call to plain vBuckets
abbrev stepping : States → ℕ → VbCall → Option VbReply → States → Type 0
stepping old v asked reply new = (new ≡ (states_step old v asked).0) × (reply ≡ (states_step old v asked).1)

some_same : {A : Type 0} (x y : A) → Some x ≡ Some y → x ≡ y
some_same x y e = cc

-- a program runs over them so
ran_plain : {A : Type 0} (prog : Prog A) (states : States) → Ran stepping prog states (after prog states).1 (after prog states).0
ran_plain (Done a) states = (refl, refl)
ran_plain (Call v asked next) states =
    let x = states_step states v asked in (x.1, x.0, (refl, refl), ran_plain (next x.1) x.0)

-- ---- a yield

-- it was given up, and nobody waits there any more, or it stays as it was
data Came (vb : Plain) (after : Plain × VbReply) : Type 0 where
  Stays : after.0 ≡ vb → after.1.answer ≢ answer.Done → Came vb after
  Gives : vb.role ≡ role.Active → after.1.answer ≡ answer.Done → after.0.role ≡ role.Dead → after.0.waiting ≡ [] → AllAmbiguous vb.waiting after.1.resolved → Came vb after

active_of : (r : Role) → is_active r ≡ true → r ≡ role.Active
active_of role.Active e = refl
active_of role.Replica e = cc
active_of role.Pending e = cc
active_of role.Dead e = cc

one_told : (w : Waiting) (rest : List Resolved) → Tells w resolution.Ambiguous (outcome_for w.waiter resolution.Ambiguous ++ rest) rest
one_told w rest = by (w.waiter == 0) refl
  where
    by : (b : Bool) → (w.waiter == 0) ≡ b → Tells w resolution.Ambiguous (cond b [] (record { waiter = w.waiter; how = resolution.Ambiguous } ∷ []) ++ rest) rest
    by true e = (λ none. refl, λ some. absurd (some (grind (arith, nat_tests, e))))
    by false e = (λ none. absurd (grind (arith, nat_tests, e, none)), λ some. refl)

all_told : (ws : List Waiting) → AllAmbiguous ws (given_up ws)
all_told [] = refl
all_told (w ∷ ws) = (given_up ws, one_told w (given_up ws), all_told ws)

came : (vb : Plain) (id : ℕ) → Came vb (plain_step vb (call.Yield id))
came vb id = by (is_active vb.role) (stream_at id vb.streams) refl
  where
    by : (b : Bool) (o : Option Stream) → is_active vb.role ≡ b → Came vb (cond b (yielded o vb) (vb, refusal_reply status.NotMyVbucket))
    by false o on = Stays refl (λ made. cc)
    by true None on = Stays refl (λ made. cc)
    by true (Some s) on = Gives (active_of vb.role on) refl refl refl (all_told vb.waiting)

-- ---- a stream's turn

data Head (states mid : States) (told : List Yielded) : Type 0 where
  Quiet : told ≡ [] → ((v : ℕ) → mid v ≡ states v) → Head states mid told
  Given : (one : Yielded) → told ≡ one ∷ [] → TellsWaiters states mid one → ((v : ℕ) → v ≢ one.vb → mid v ≡ states v) → Head states mid told

-- the vBuckets with this one in place
there : (states : States) (v : ℕ) (vb : Plain) → with_vb_at states v vb v ≡ Some vb
there states v vb = ap (λ b. cond b (Some vb) (states v)) (eq-eqb v v refl)

elsewhere : (states : States) (v : ℕ) (vb : Plain) (w : ℕ) → w ≢ v → with_vb_at states v vb w ≡ states w
elsewhere states v vb w differs = ap (λ b. cond b (Some vb) (states w)) (ne_eqb w v differs)

with_same : (states : States) (v : ℕ) (vb : Plain) → states v ≡ Some vb → (w : ℕ) → with_vb_at states v vb w ≡ states w
with_same states v vb is w =
    elim (cases_eq w v) [
      | inl same ↦ ap (with_vb_at states v vb) same ∙ there states v vb ∙ sym is ∙ ap states (sym same)
      | inr differs ↦ elsewhere states v vb w differs
    ]

module _ (stream : PlainStream) (states : States) (left : PlainStream) (told : List Yielded) (mid : States) where
  abbrev asked : VbCall
  asked = call.Yield stream.id

  -- there is such a vBucket
  at_one : (vb : Plain) (after : Plain × VbReply) (reply : Option VbReply) → states stream.vb ≡ Some vb → mid ≡ with_vb_at states stream.vb after.0 → reply ≡ Some after.1 → YieldsAs stream reply left told → Came vb after → Head states mid told
  at_one vb after reply at now said does (Stays same not) =
      Quiet (does.refused (λ (r, is, made). not (let e : after.1 ≡ r = some_same after.1 r (sym said ∙ is) in ap (λ (x : VbReply). x.answer) e ∙ made))).0
      (λ w. ap (λ (s : States). s w) now ∙ ap (λ p. with_vb_at states stream.vb p w) same ∙ with_same states stream.vb vb at w)
  at_one vb after reply at now said does (Gives active made dead none all) =
      let one : Yielded = record { vb = stream.vb; ended = after.1.ended; resolved = after.1.resolved } in
      Given one (does.done after.1 said made).0
      (record {
        was = vb;
        stood = at;
        active = active;
        rising = λ sound. sound.counted.waits.ascend;
        told = all;
        is = after.0;
        stands = ap (λ (s : States). s stream.vb) now ∙ there states stream.vb after.0;
        dead = dead;
        none = none;
      })
      (λ w differs. ap (λ (s : States). s w) now ∙ elsewhere states stream.vb after.0 w differs)

  at_any : (o : Option Plain) (reply : Option VbReply) → states stream.vb ≡ o → stepping states stream.vb asked reply mid → YieldsAs stream reply left told → Head states mid told
  at_any None reply at (now, said) does =
      let is : states_step states stream.vb asked ≡ (states, None) = ap (call_at states stream.vb asked) at in
      let silent : reply ≡ None = said ∙ ap (λ (x : States × Option VbReply). x.1) is in
      Quiet (does.refused (λ (r, e, made). let no : None ≡ Some r = sym silent ∙ e in cc)).0 (λ w. ap (λ (s : States). s w) (now ∙ ap (λ (x : States × Option VbReply). x.0) is))
  at_any (Some vb) reply at (now, said) does =
      let x = plain_step vb asked in
      let is : states_step states stream.vb asked ≡ (with_vb_at states stream.vb x.0, Some x.1) = ap (call_at states stream.vb asked) at in
      at_one vb x reply at (now ∙ ap (λ (x : States × Option VbReply). x.0) is) (said ∙ ap (λ (x : States × Option VbReply). x.1) is) does (came vb stream.id)

  head : GivesOne stepping stream states left told mid → Head states mid told
  head one = by (is_due stream) refl
    where
      by : (b : Bool) → is_due stream ≡ b → Head states mid told
      by true e = let (reply, step, does) = one.due (due stream e) in at_any (states stream.vb) reply refl step does
      by false e = let (same, stays, none) = one.other (undue stream e) in Quiet none (λ w. ap (λ (s : States). s w) same)

-- ---- streams, one after the other

record Kept (before now : States) (given : List Yielded) : Type 0 where
  pub each : AllTell before now given
  pub once : GivenOnce given
  pub others : (v : ℕ) → (IsGiven v given → ⊥) → now v ≡ before v

-- by what stood before, and by what stands now
since : (before mid now : States) (one : Yielded) → mid one.vb ≡ before one.vb → TellsWaiters mid now one → TellsWaiters before now one
since before mid now one same tells = record {
  was = tells.was;
  stood = sym same ∙ tells.stood;
  active = tells.active;
  rising = tells.rising;
  told = tells.told;
  is = tells.is;
  stands = tells.stands;
  dead = tells.dead;
  none = tells.none;
}

until : (before mid now : States) (one : Yielded) → now one.vb ≡ mid one.vb → TellsWaiters before mid one → TellsWaiters before now one
until before mid now one same tells = record {
  was = tells.was;
  stood = tells.stood;
  active = tells.active;
  rising = tells.rising;
  told = tells.told;
  is = tells.is;
  stands = same ∙ tells.stands;
  dead = tells.dead;
  none = tells.none;
}

-- what was so in the middle was so before, where these vBuckets had not changed by then
earlier : (before mid now : States) (given : List Yielded) → ((v : ℕ) → IsGiven v given → mid v ≡ before v) → AllTell mid now given → AllTell before now given
earlier before mid now [] same told = tt
earlier before mid now (one ∷ more) same (told, rest) =
    (since before mid now one (same one.vb (inl refl)) told, earlier before mid now more (λ v is. same v (inr is)) rest)

-- one that is dead in the middle is not given up behind
never : (v : ℕ) (is : Plain) (mid now : States) (given : List Yielded) → mid v ≡ Some is → is.role ≡ role.Dead → AllTell mid now given → IsGiven v given → ⊥
never v is mid now [] stands dead told none = none
never v is mid now (one ∷ more) stands dead (told, rest) (inl same) =
    let both : is ≡ told.was = some_same is told.was (sym stands ∙ ap mid same ∙ told.stood) in
    let roles : role.Dead ≡ role.Active = sym dead ∙ ap (λ (p : Plain). p.role) both ∙ told.active in
    cc
never v is mid now (one ∷ more) stands dead (told, rest) (inr later) = never v is mid now more stands dead rest later

joined : (before mid now : States) (told rest : List Yielded) → Head before mid told → Kept mid now rest → Kept before now (told ++ rest)
joined before mid now told rest (Quiet none same) kept =
    subst (λ ys. Kept before now (ys ++ rest)) (sym none) (record {
      each = earlier before mid now rest (λ v is. same v) kept.each;
      once = kept.once;
      others = λ v not. kept.others v not ∙ same v;
    })
joined before mid now told rest (Given one is tells same) kept =
    let not : IsGiven one.vb rest → ⊥ = never one.vb tells.is mid now rest tells.stands tells.dead kept.each in
    subst (λ ys. Kept before now (ys ++ rest)) (sym is) (record {
      each = (until before mid now one (kept.others one.vb not) tells, earlier before mid now rest (λ v given. same v (λ e. not (subst (λ w. IsGiven w rest) e given))) kept.each);
      once = (not, kept.once);
      others = λ v outside. kept.others v (λ given. outside (inr given)) ∙ same v (λ e. outside (inl e));
    })

all_kept : (streams : List PlainStream) (states : States) (lefts : List PlainStream) (given : List Yielded) (new : States) → GivesAll stepping streams states lefts given new → Kept states new given
all_kept [] states lefts given new (same, none, silent) =
    subst (λ ys. Kept states new ys) (sym silent) (record { each = tt; once = tt; others = λ v not. ap (λ (s : States). s v) same })
all_kept (s ∷ more) states lefts given new (left, behind, told, rest, mid, one, all, stays, is) =
    subst (λ ys. Kept states new ys) (sym is) (joined states mid new told rest (head s states left told mid one) (all_kept more mid behind rest new all))

pub waiters_told : (frames : ℕ) (peer : PlainPeer) (states : States) → WaitersTold frames peer states
waiters_told frames peer states =
    let x = after (peer_gives_up frames peer) states in
    let gives : PeerGives stepping frames (fresh peer) states x.1.given (fresh x.1.peer) x.0 = peer_gives stepping frames (fresh peer) (fresh x.1.peer) x.1.given states x.0 refl refl (ran_plain (peer_gives_up frames peer) states) in
    let kept : Kept states x.0 x.1.given = by x.1.given (fresh x.1.peer) x.0 (nat_lt 0 frames) (lets_through peer.producer) refl refl gives in
    record { each = kept.each; once = kept.once; others = kept.others }
  where
    fresh : PlainPeer → KeptPeer
    fresh p = record { plain = p; spent = false }

    held : (given : List Yielded) (left : KeptPeer) (new : States) → (frames ≡ 0) ⊎ IsShut peer.producer.window → PeerGives stepping frames (fresh peer) states given left new → Kept states new given
    held given left new why gives =
        let (same, stay, silent) = gives.held why in
        subst (λ ys. Kept states new ys) (sym silent) (record { each = tt; once = tt; others = λ v not. ap (λ (s : States). s v) same })

    by : (given : List Yielded) (left : KeptPeer) (new : States) (some through : Bool) → nat_lt 0 frames ≡ some → lets_through peer.producer ≡ through → PeerGives stepping frames (fresh peer) states given left new → Kept states new given
    by given left new true true some through gives = all_kept peer.producer.streams states gives.lefts given new (gives.put (grind (arith, nat_tests, some)) (not_shut peer.producer through))
    by given left new false through none e gives = held given left new (inl (grind (arith, nat_tests, none))) gives
    by given left new true false some closed gives = held given left new (inr (shut peer.producer closed)) gives
