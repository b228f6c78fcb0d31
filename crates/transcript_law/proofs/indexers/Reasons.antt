-- for what a client's request is refused, by its vBucket and by what its connection has
use Rattle.std.specs.Prelude.{◌≡◌, ◌≤◌, ◌<◌, ◌==◌, ◌⊎◌, ◌&&◌, if◌then◌else◌, nat_lt, nat_le, not}
use Rattle.transcript_law.proofs.Words.{ℕ, Bool, true, false, refl, sym, ap, ◌∙◌, subst, arith, nat_tests, and_parts, inl, inr, ⊎_elim, Option, Some, None, Status, StreamAsk, AskAnswer, Plain, Role, is_active, stream_at, Stream, id_refusal, first_reason, is_ranged, open_refusal, PlainProducer, Chronicle, Cluster, refuse, request_refusal, verdict_with}
use Rattle.dcp_producer.specs.Producers.{is_client, is_open}
use Rattle.dcp_producer.specs.Serving.{MOST_STREAMS}
use Rattle.transcript_law.proofs.{indexers.Setting.{open_as}, invariant.{Agreement.{VbAgrees}, ClientsTold.{setup_of}}}
use Rattle.transcript_law.specs.{ClientStreams.{STREAM_NUMBERS}, LawfulClients.{InOrder, IsActive, IsFree, IsRefusal, RefusesAs, RefusesBy}, StreamsTold.{ClientStream}}

-- ---- by the connection

-- one that was opened passes on a request with no flag, while it has a number
passes_on : (p : PlainProducer) (ask : StreamAsk) → is_open p.handshake ≡ true → ask.flags ≡ 0 → ((STREAM_NUMBERS ≤ p.asked) × (request_refusal p ask ≡ Some Status.Etmpfail)) ⊎ ((p.asked < STREAM_NUMBERS) × (request_refusal p ask ≡ None))
passes_on p ask opened zero =
    let low : nat_lt 1 ask.flags ≡ false = grind (arith, nat_tests, zero) in
    let none : (ask.flags == 1) ≡ false = ap (λ k. k == 1) zero in
    let same : request_refusal p ask ≡ (if nat_le MOST_STREAMS p.asked then Some Status.Etmpfail else None) =
    (λ i. if not (opened i) then Some Status.Einval else if low i then Some Status.Einval else if none i && is_client p.desk.stream then Some Status.NotSupported else if nat_le MOST_STREAMS p.asked then Some Status.Etmpfail else None) in
    by (nat_le MOST_STREAMS p.asked) refl same
  where
    by : (b : Bool) → nat_le MOST_STREAMS p.asked ≡ b → request_refusal p ask ≡ (if b then Some Status.Etmpfail else None)
        → ((STREAM_NUMBERS ≤ p.asked) × (request_refusal p ask ≡ Some Status.Etmpfail)) ⊎ ((p.asked < STREAM_NUMBERS) × (request_refusal p ask ≡ None))
    by true most e = inl (grind (arith, nat_tests, most), e)
    by false few e = inr (grind (arith, nat_tests, few), e)

pub reason_of : (p : PlainProducer) (role : Option (Option Role)) (had : Option ClientStream) (ask : StreamAsk) (verdict : AskAnswer) → (request_refusal p ask ≡ None → RefusesAs role had ask verdict)
    → RefusesBy (setup_of p.handshake) p.asked role had ask (verdict_with (request_refusal p ask) verdict)
reason_of p role had ask verdict given is_opened zero = ⊎_elim (λ most. inl (most.0, ap (λ o. verdict_with o verdict) most.1)) (λ few. inr (few.0, subst (RefusesAs role had ask) (sym (ap (λ o. verdict_with o verdict) few.1)) (given few.1)))
    (passes_on p ask (sym (open_as p.handshake) ∙ is_opened) zero)

-- ---- by its vBucket

module _ (role : Option (Option Role)) (had : Option ClientStream) (ask : StreamAsk) where
  pub away_as : (IsActive role → ⊥) → RefusesAs role had ask (refuse Status.NotMyVbucket)
  away_as off = record { away = λ o. refl; again = λ a g e over. absurd (off a); outside = λ a free wrong. absurd (off a); granted = λ a free order is. absurd (off a) }

  pub again_as : IsActive role → (g : ClientStream) → had ≡ Some g → g.over ≡ false → RefusesAs role had ask (refuse Status.KeyEexists)
  again_as active g e over = record { away = λ off. absurd (off active); again = λ a h f o. refl; outside = λ a free wrong. inr refl; granted = λ a free order is. refl }

  pub taken_as : IsActive role → RefusesAs role had ask (refuse Status.KeyEexists)
  taken_as active = record { away = λ off. absurd (off active); again = λ a h f o. refl; outside = λ a free wrong. inr refl; granted = λ a free order is. refl }

  module _ (active : IsActive role) (free : IsFree had) where
    pub outside_as : (InOrder ask → ⊥) → RefusesAs role had ask (refuse Status.Erange)
    outside_as wrong = record { away = λ off. absurd (off active); again = λ a g e over. absurd (free g e over); outside = λ a f n. inl refl; granted = λ a f order is. absurd (wrong order) }

    pub grant_as : InOrder ask → (said : AskAnswer) → (IsRefusal said → ⊥) → RefusesAs role had ask said
    grant_as order said grants = record { away = λ off. absurd (off active); again = λ a g e over. absurd (free g e over); outside = λ a f wrong. absurd (wrong order); granted = λ a f o is. absurd (grants is) }

-- numbers in order
in_order : (ask : StreamAsk) → is_ranged ask ≡ true → InOrder ask
in_order ask e =
    let (first, last) = and_parts (nat_le ask.start ask.end && nat_le ask.ss ask.start) (nat_le ask.start ask.se) e in
    let (a, b) = and_parts (nat_le ask.start ask.end) (nat_le ask.ss ask.start) first in
    (grind (arith, nat_tests, a), grind (arith, nat_tests, b), grind (arith, nat_tests, last))

out_of_order : (ask : StreamAsk) → is_ranged ask ≡ false → InOrder ask → ⊥
out_of_order ask e (a, b, c) =
    let x : nat_le ask.start ask.end ≡ true = grind (arith, nat_tests, a) in
    let y : nat_le ask.ss ask.start ≡ true = grind (arith, nat_tests, b) in
    let z : nat_le ask.start ask.se ≡ true = grind (arith, nat_tests, c) in
    let is : is_ranged ask ≡ true = (λ i. x i && y i && z i) in let no : true ≡ false = sym is ∙ e in cc

active_role : (x : Role) → is_active x ≡ true → x ≡ Role.Active
active_role Role.Active e = refl
active_role other e = cc

module _ (r : Chronicle) (k : Cluster) (n v p : ℕ) (pv : Plain) (agrees : VbAgrees r n v (k.nodes p) pv) (had : Option ClientStream) (ask : StreamAsk) where
  leads : is_active pv.role ≡ true → IsActive (r.role_at n v)
  leads active = agrees.role ∙ ap (λ (x : Role). Some (Some x)) (active_role pv.role active)

  follows : is_active pv.role ≡ false → IsActive (r.role_at n v) → ⊥
  follows off active = let same : Some (Some pv.role) ≡ Some (Some Role.Active) = sym agrees.role ∙ active in let is : pv.role ≡ Role.Active = cc in
      let z : true ≡ false = sym (ap is_active is) ∙ off in cc

  -- under no number
  pub zero_reason : (why : Status) → open_refusal pv 0 ask ≡ Some why → (g : ClientStream) → had ≡ Some g → g.over ≡ false → RefusesAs (r.role_at n v) had ask (refuse why)
  zero_reason why e g has over = by (is_active pv.role) (stream_at 0 pv.streams) refl e
    where
      said : (st : Status) → Some st ≡ Some why → RefusesAs (r.role_at n v) had ask (refuse st) → RefusesAs (r.role_at n v) had ask (refuse why)
      said st e given = let same : st ≡ why = cc in subst (λ x. RefusesAs (r.role_at n v) had ask (refuse x)) same given

      by : (a : Bool) (o : Option Stream) → is_active pv.role ≡ a → (if a then first_reason (id_refusal 0 o) (if is_ranged ask then None else Some Status.Erange) else Some Status.NotMyVbucket) ≡ Some why → RefusesAs (r.role_at n v) had ask (refuse why)
      by true None active f = said Status.KeyEexists f (again_as (r.role_at n v) had ask (leads active) g has over)
      by true (Some x) active f = said Status.KeyEexists f (again_as (r.role_at n v) had ask (leads active) g has over)
      by false o off f = said Status.NotMyVbucket f (away_as (r.role_at n v) had ask (follows off))

  -- and under one of its own
  module _ (id : ℕ) (free : IsFree had) where
    pub own_reason : (why : Status) → open_refusal pv id ask ≡ Some why → RefusesAs (r.role_at n v) had ask (refuse why)
    own_reason why e = by (is_active pv.role) (stream_at id pv.streams) refl e
      where
        said : (st : Status) → Some st ≡ Some why → RefusesAs (r.role_at n v) had ask (refuse st) → RefusesAs (r.role_at n v) had ask (refuse why)
        said st e given = let same : st ≡ why = cc in subst (λ x. RefusesAs (r.role_at n v) had ask (refuse x)) same given

        ranged : (zero b : Bool) → is_ranged ask ≡ b → is_active pv.role ≡ true → first_reason (if zero then Some Status.KeyEexists else None) (if b then None else Some Status.Erange) ≡ Some why → RefusesAs (r.role_at n v) had ask (refuse why)
        ranged true b q active f = said Status.KeyEexists f (taken_as (r.role_at n v) had ask (leads active))
        ranged false true q active f = cc
        ranged false false q active f = said Status.Erange f (outside_as (r.role_at n v) had ask (leads active) free (out_of_order ask q))

        by : (a : Bool) (o : Option Stream) → is_active pv.role ≡ a → (if a then first_reason (id_refusal id o) (if is_ranged ask then None else Some Status.Erange) else Some Status.NotMyVbucket) ≡ Some why → RefusesAs (r.role_at n v) had ask (refuse why)
        by true None active f = ranged (id == 0) (is_ranged ask) refl active f
        by true (Some x) active f = said Status.KeyEexists f (taken_as (r.role_at n v) had ask (leads active))
        by false o off f = said Status.NotMyVbucket f (away_as (r.role_at n v) had ask (follows off))

    -- it is not refused
    pub open_reason : is_active pv.role ≡ true → is_ranged ask ≡ true → (said : AskAnswer) → (IsRefusal said → ⊥) → RefusesAs (r.role_at n v) had ask said
    open_reason active ranged said grants = grant_as (r.role_at n v) had ask (leads active) free (in_order ask ranged) said grants
