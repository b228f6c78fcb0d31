-- what a client's producer refuses by itself, and what its vBucket says to a request for a stream
use Rattle.std.specs.Prelude.{◌≡◌, ◌<◌, ◌==◌, ◌&&◌, if◌then◌else◌, nat_le, nat_lt, not, is_some}
use Rattle.transcript_law.proofs.Words.{ℕ, Bool, true, false, List, [], refl, sym, ap, ◌∙◌, subst, arith, nat_tests, eq-eqb, eqb-false, eqb-true, Option, Some, None, Status, LogEntry, StreamAsk, AskAnswer, Cluster, Branch, Plain, is_active, stream_at, Stream, id_refusal, first_reason, is_ranged, open_refusal, PlainProducer, PlainStream, PlainWorld, Chronicle, refuse, request_refusal, verdict_with, last_seq}
use Rattle.dcp_producer.specs.Producers.{is_client, is_open, stream_at as kept_at}
use Rattle.dcp_producer.specs.Serving.{MOST_STREAMS, opens}
use Rattle.std.proofs.lemmas.Bool.{lt-ltb}
use Rattle.transcript_law.proofs.{disks.Absent.{nothing_here}, indexers.Setting.{open_as}}
use Rattle.transcript_law.proofs.invariant.{Agreement.{AgreesIn, IsRefused, idle, is_down, power_of, vb_of}, ClientsTold.{setup_of}}
use Rattle.transcript_law.specs.{ClientStreams.{STREAM_NUMBERS, has_none, takes_number}, LawfulClients.{IsRefusal, RefusesOwn}, StreamLaws.{GrantsAs, IsIfKnown, LawfulSaid, LawfulVerdict}, StreamsTold.{ClientStream}}
use Rattle.vb_types.specs.Statuses.{status_code}

-- ---- by itself

-- why it refuses, by what is set and the flags
refusal_by : Bool → Bool → Bool → Bool → Option Status
refusal_by shaken unknown takeover most =
    if not shaken then Some Status.Einval
    else if unknown then Some Status.Einval
    else if takeover then Some Status.NotSupported
    else if most then Some Status.Etmpfail
    else None

-- a takeover is refused on a client's connection
both_so : (b : Bool) → (b && true) ≡ b
both_so true = refl
both_so false = refl

refusal_is : (p : PlainProducer) (ask : StreamAsk) → is_client p.desk.stream ≡ true → request_refusal p ask ≡ refusal_by (is_open p.handshake) (nat_lt 1 ask.flags) (ask.flags == 1) (nat_le MOST_STREAMS p.asked)
unfolding refusal_by
refusal_is p ask client = ap (λ b. refusal_by (is_open p.handshake) (nat_lt 1 ask.flags) ((ask.flags == 1) && b) (nat_le MOST_STREAMS p.asked)) client
    ∙ ap (λ t. refusal_by (is_open p.handshake) (nat_lt 1 ask.flags) t (nat_le MOST_STREAMS p.asked)) (both_so (ask.flags == 1))

module _ (p : PlainProducer) (had : Option ClientStream) (ask : StreamAsk) (client : is_client p.desk.stream ≡ true) where
  unopened_so : is_open p.handshake ≡ false → request_refusal p ask ≡ Some Status.Einval
  unfolding refusal_by
  unopened_so e = refusal_is p ask client ∙ ap (λ b. refusal_by b (nat_lt 1 ask.flags) (ask.flags == 1) (nat_le MOST_STREAMS p.asked)) e

  unknown_so : 1 < ask.flags → request_refusal p ask ≡ Some Status.Einval
  unfolding refusal_by
  unknown_so above = let is : nat_lt 1 ask.flags ≡ true = grind (arith, nat_tests, above) in
      refusal_is p ask client ∙ ap (λ b. refusal_by (is_open p.handshake) b (ask.flags == 1) (nat_le MOST_STREAMS p.asked)) is ∙ by (is_open p.handshake)
    where
      by : (b : Bool) → refusal_by b true (ask.flags == 1) (nat_le MOST_STREAMS p.asked) ≡ Some Status.Einval
      by true = refl
      by false = refl

  takeover_so : is_open p.handshake ≡ true → ask.flags ≡ 1 → request_refusal p ask ≡ Some Status.NotSupported
  unfolding refusal_by
  takeover_so e one =
      let low : nat_lt 1 ask.flags ≡ false = grind (arith, nat_tests, one) in
      let is : (ask.flags == 1) ≡ true = eq-eqb ask.flags 1 one in
      refusal_is p ask client ∙ (λ i. refusal_by (e i) (low i) (is i) (nat_le MOST_STREAMS p.asked))

  refused_so : (verdict : AskAnswer) → IsRefusal verdict → (o : Option Status) → IsRefusal (verdict_with o verdict)
  refused_so verdict is None = is
  refused_so verdict is (Some st) = (status_code st, refl)

  -- where the vBucket is asked under no number
  pub own_refusal : (verdict : AskAnswer) → IsRefusal verdict → RefusesOwn (setup_of p.handshake) had ask (verdict_with (request_refusal p ask) verdict)
  own_refusal verdict is = record {
    unopened = λ e. ap (λ o. verdict_with o verdict) (unopened_so (sym (open_as p.handshake) ∙ e));
    unknown = λ above. ap (λ o. verdict_with o verdict) (unknown_so above);
    takeover = λ e one. ap (λ o. verdict_with o verdict) (takeover_so (sym (open_as p.handshake) ∙ e) one);
    held = λ g e over. refused_so verdict is (request_refusal p ask);
  }

  spent : (a u t : Bool) → refusal_by a u t true ≡ None → ⊥
  unfolding refusal_by
  spent false u t e = cc
  spent true true t e = cc
  spent true false true e = cc
  spent true false false e = cc

  -- and where it is asked to open one
  opens_none : (a : Option Status) (o : Option PlainStream) → (not (is_some a) && not (is_some o)) ≡ true → (a ≡ None) × (o ≡ None)
  opens_none None None e = (refl, refl)
  opens_none None (Some x) e = cc
  opens_none (Some st) o e = cc

  module _ (v : ℕ) (open_it : opens p v ask ≡ true) where
    pub not_refused : request_refusal p ask ≡ None
    not_refused = (opens_none (request_refusal p ask) (kept_at v p.streams) open_it).0

    pub none_kept : kept_at v p.streams ≡ None
    none_kept = (opens_none (request_refusal p ask) (kept_at v p.streams) open_it).1

    clash : {A : Type 0} (st : Status) → request_refusal p ask ≡ Some st → A
    clash st e = let z : None ≡ Some st = sym not_refused ∙ e in absurd cc

    pub own_grant : ((g : ClientStream) → had ≡ Some g → g.over ≡ false → ⊥) → (said : AskAnswer) → RefusesOwn (setup_of p.handshake) had ask said
    own_grant none said = record {
      unopened = λ e. clash Status.Einval (unopened_so (sym (open_as p.handshake) ∙ e));
      unknown = λ above. clash Status.Einval (unknown_so above);
      takeover = λ e one. clash Status.NotSupported (takeover_so (sym (open_as p.handshake) ∙ e) one);
      held = λ g e over. absurd (none g e over);
    }

    -- a number is left
    pub is_left : p.asked < STREAM_NUMBERS
    unfolding refusal_by
    is_left = by (nat_le MOST_STREAMS p.asked) refl (sym (refusal_is p ask client) ∙ not_refused)
      where
        by : (b : Bool) → nat_le MOST_STREAMS p.asked ≡ b → refusal_by (is_open p.handshake) (nat_lt 1 ask.flags) (ask.flags == 1) b ≡ None → p.asked < STREAM_NUMBERS
        by false e none = grind (arith, nat_tests, e)
        by true e none = absurd (spent (is_open p.handshake) (nat_lt 1 ask.flags) (ask.flags == 1) none)

    -- it is for no takeover
    pub is_plain : ask.flags ≡ 0
    unfolding refusal_by
    is_plain = by (is_open p.handshake) (nat_lt 1 ask.flags) refl (ask.flags == 1) refl (nat_le MOST_STREAMS p.asked) (sym (refusal_is p ask client) ∙ not_refused)
      where
        by : (a u : Bool) → nat_lt 1 ask.flags ≡ u → (t : Bool) → (ask.flags == 1) ≡ t → (m : Bool) → refusal_by a u t m ≡ None → ask.flags ≡ 0
        by true false low false other m none = let differs : ask.flags ≡ 1 → ⊥ = eqb-false ask.flags 1 other in grind (arith, nat_tests, low, differs)
        by true false low true other m none = let z : Some Status.NotSupported ≡ None = none in cc
        by true true low t other m none = let z : Some Status.Einval ≡ None = none in cc
        by false u low t other m none = let z : Some Status.Einval ≡ None = none in cc

    -- the connection is open
    pub is_opened : is_open p.handshake ≡ true
    is_opened = by (is_open p.handshake) refl
      where
        by : (b : Bool) → is_open p.handshake ≡ b → b ≡ true
        by true e = refl
        by false e = clash Status.Einval (unopened_so e)

-- ---- numbers for streams

no_other : (b : Bool) → (b && false) ≡ false
no_other true = refl
no_other false = refl

-- no flag is neither that of a takeover nor one that is not known
plain_flags : (k : ℕ) → (k == 0) ≡ (not (nat_lt 1 k) && not (k == 1))
plain_flags k = by (k == 0) refl
  where
    one : (b : Bool) → (k == 1) ≡ b → (k ≡ 0 → ⊥) → false ≡ (not (nat_lt 1 k) && not b)
    one true e some = sym (no_other (not (nat_lt 1 k)))
    one false e some =
        let differs : k ≡ 1 → ⊥ = eqb-false k 1 e in
        let low : nat_lt 1 k ≡ true = lt-ltb 1 k (omega (arith, differs, some)) in ap (λ b. not b && true) (sym low)

    by : (b : Bool) → (k == 0) ≡ b → b ≡ (not (nat_lt 1 k) && not (k == 1))
    by true e =
        let zero : k ≡ 0 = eqb-true k 0 e in
        let low : nat_lt 1 k ≡ false = grind (arith, nat_tests, zero) in
        (λ i. not (sym low i) && not (sym (ap (λ j. j == 1) zero) i))
    by false e = one (k == 1) refl (eqb-false k 0 e)

few_left : (count : ℕ) → nat_lt count STREAM_NUMBERS ≡ not (nat_le MOST_STREAMS count)
few_left count = by (nat_le MOST_STREAMS count) refl
  where
    by : (b : Bool) → nat_le MOST_STREAMS count ≡ b → nat_lt count STREAM_NUMBERS ≡ not b
    by true e = grind (arith, nat_tests, e)
    by false e = grind (arith, nat_tests, e)

-- a request takes one exactly where its vBucket is asked to open a stream
pub takes_is : (p : PlainProducer) (v : ℕ) (had : Option ClientStream) (ask : StreamAsk) → is_client p.desk.stream ≡ true → has_none had ≡ not (is_some (kept_at v p.streams)) → takes_number (setup_of p.handshake) had ask p.asked ≡ opens p v ask
unfolding refusal_by
takes_is p v had ask client none =
    (λ i. open_as p.handshake i && plain_flags ask.flags i && none i && few_left p.asked i)
    ∙ by (is_open p.handshake) (nat_lt 1 ask.flags) (ask.flags == 1) (nat_le MOST_STREAMS p.asked) (not (is_some (kept_at v p.streams)))
    ∙ ap (λ o. not (is_some o) && not (is_some (kept_at v p.streams))) (sym (refusal_is p ask client))
  where
    by : (a u t m f : Bool) → (a && (not u && not t) && f && not m) ≡ (not (is_some (refusal_by a u t m)) && f)
    by false u t m f = refl
    by true true t m f = refl
    by true false true m f = refl
    by true false false true true = refl
    by true false false true false = refl
    by true false false false true = refl
    by true false false false false = refl

-- ---- by its vBucket

-- under the number 0 a vBucket opens none
pub zero_refused : (pv : Plain) (ask : StreamAsk) → (why : Status) × (open_refusal pv 0 ask ≡ Some why)
zero_refused pv ask = by (is_active pv.role) (stream_at 0 pv.streams)
  where
    by : (a : Bool) (o : Option Stream) → (why : Status) × ((if a then first_reason (id_refusal 0 o) (if is_ranged ask then None else Some Status.Erange) else Some Status.NotMyVbucket) ≡ Some why)
    by true None = (Status.KeyEexists, refl)
    by true (Some x) = (Status.KeyEexists, refl)
    by false o = (Status.NotMyVbucket, refl)

-- a refusal has a name
pub named_refusal : (why : Status) → IsRefused (refuse why) → (tree : List Branch) (log : List LogEntry) (high : ℕ) (ask : StreamAsk) → LawfulVerdict tree log high ask (refuse why)
named_refusal why is tree log high ask = is.0

-- the producer's own has one too
pub own_named : (p : PlainProducer) (ask : StreamAsk) (verdict : AskAnswer) → is_client p.desk.stream ≡ true → ((code : ℕ) → verdict ≡ AskAnswer.Refuse code → code ≡ 0 → ⊥) → IsRefusal verdict → (tree : List Branch) (log : List LogEntry) (high : ℕ)
    → LawfulVerdict tree log high ask (verdict_with (request_refusal p ask) verdict) × IsRefusal (verdict_with (request_refusal p ask) verdict)
unfolding refusal_by
own_named p ask verdict client named is tree log high = subst Named (sym (refusal_is p ask client)) (by (is_open p.handshake) (nat_lt 1 ask.flags) (ask.flags == 1) (nat_le MOST_STREAMS p.asked))
  where
    Named : Option Status → Type 0
    Named o = LawfulVerdict tree log high ask (verdict_with o verdict) × IsRefusal (verdict_with o verdict)

    by : (a b c d : Bool) → Named (refusal_by a b c d)
    by false b c d = (λ e. omega arith, (_, refl))
    by true true c d = (λ e. omega arith, (_, refl))
    by true false true d = (λ e. omega arith, (_, refl))
    by true false false true = (λ e. omega arith, (_, refl))
    by true false false false = (subst (LawfulVerdict tree log high ask) (sym is.1) (named is.0 is.1), is)

-- what is said of a vBucket that is not made, at a node that runs
module _ (r : Chronicle) (n v : ℕ) where
  pub said_away : (w : PlainWorld) (k : Cluster) → AgreesIn idle w r k → vb_of w n v ≡ None → is_down (power_of w n) ≡ false → (ask : StreamAsk) (said : AskAnswer) → LawfulVerdict r.tree [] 0 ask said → GrantsAs (r.role_at n v) said → LawfulSaid r n v ask 0 [] said
  said_away w k a none up ask said verdict active =
      let nothing = nothing_here w r k n v a none up in
      record { own_log = subst (λ o. IsIfKnown o []) (sym nothing.log) refl; own_high = sym (ap (last_seq 0) nothing.held); verdict = verdict; active = active }
