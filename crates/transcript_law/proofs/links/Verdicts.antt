-- what is told of a request for a stream is lawful
use Rattle.std.specs.Prelude.{◌≡◌, ◌<◌, ◌≤◌, ◌∷◌, ◌==◌, if◌then◌else◌, ◌^◌, ◌⊎◌}
use Rattle.transcript_law.proofs.Words.{ℕ, Bool, true, false, cond, List, [], refl, ap, sym, ◌∙◌, subst, arith, min, inl, inr, Option, Some, None, nat_le, All, filter}
use Rattle.transcript_law.proofs.Words.{eqb-false, All-head, All-tail, AskInRange, AskAnswer, Position, LogEntry, Status, StreamAsk, Verdict, Continue, Roll, upto, last_seq, front, uuid_of, IsFront}
use Rattle.transcript_law.proofs.Words.{effective_ss, effective_se, rule, request_of, reach_of, Branch, hist, Shared, Cluster, SoundCluster, Stream, Plain, is_active, open_refusal, stream_at, Sound}
use Rattle.transcript_law.proofs.Words.{refuse, Chronicle, IsIfKnown, LawfulVerdict, IsDialed, LawfulAsk, entry_for, upper, judged, continues, rolls, is_ranged, id_refusal, first_reason}
use Rattle.transcript_law.proofs.Words.{meant_end, Role, SharesFront}
use Rattle.dcp_consumer.specs.Dialing.{flagged}
use Rattle.transcript_law.specs.StreamLaws.{GrantsAs, LawfulSaid}
use Rattle.transcript_law.proofs.invariant.Agreement.{EntryFits, IsRefused, VbAgrees, top}

-- the numbers of a request
kept_uuid : (n : ℕ) (log : List LogEntry) → All EntryFits log → uuid_of (entry_for n log) < 2 ^ 64
kept_uuid n [] fits = omega arith
kept_uuid n (e ∷ older) fits =
    let rest = filter (λ (x : LogEntry). nat_le x.seq n) older in
    elim (nat_le e.seq n) as (λ b. uuid_of (front (cond b (e ∷ rest) rest)) < 2 ^ 64) [ true ↦ (All-head EntryFits e older fits).0 | false ↦ kept_uuid n older (All-tail EntryFits e older fits) ]

-- what a vBucket asks for fits its fields
pub asks_in_range : (vb : Plain) → Sound vb → All EntryFits vb.log → AskInRange (request_of vb.log vb.position)
asks_in_range vb sound fits =
    let most : vb.position.se ≤ 2 ^ 48 = sound.capped in
    let low : vb.position.ss ≤ vb.position.at = sound.within.0 in
    let high : vb.position.at ≤ vb.position.se = sound.within.1 in
    record {
      flags = omega arith;
      start = omega (arith, most, high);
      end = omega arith;
      uuid = kept_uuid (reach_of vb.position) vb.log fits;
      ss = omega (arith, most, low, high);
      se = omega (arith, most);
    }

-- also with the flags of a dial
pub flags_in_range : (takeover : Bool) (ask : StreamAsk) → AskInRange ask → AskInRange (flagged takeover ask)
flags_in_range true ask fits = record { flags = omega arith; start = fits.start; end = fits.end; uuid = fits.uuid; ss = fits.ss; se = fits.se }
flags_in_range false ask fits = record { flags = omega arith; start = fits.start; end = fits.end; uuid = fits.uuid; ss = fits.ss; se = fits.se }

-- a request that means an end above 0 starts above 0
starts_above : (start ss se : ℕ) → ss ≤ start → 0 < effective_se start ss se → 0 < start
starts_above start ss se low = by (start == se) (start == (if start == se then start else ss)) refl refl
  where
    by : (a b : Bool) → (start == se) ≡ a → (start == (if a then start else ss)) ≡ b → 0 < (if b then start else se) → 0 < start
    by a true e f h = h
    by true false e f h = absurd (eqb-false start start f refl)
    by false false e f h =
        let other : start ≡ ss → ⊥ = eqb-false start ss f in
        grind (arith, low, other)

-- a point to roll back to fits its field
judged_low : (o : Option ℕ) (ss se to : ℕ) → judged o ss se ≡ Roll to → to ≤ ss
judged_low None ss se to e = let z : 0 ≡ to = cc in omega (arith, z)
judged_low (Some high) ss se to q = elim (nat_le se high) as (λ b. (if b then Continue else Roll (min ss high)) ≡ Roll to → to ≤ ss)
    [ true ↦ λ e. cc | false ↦ λ e. let m : min ss high ≡ to = cc in omega (arith, m) ] q

pub roll_low : (log : List LogEntry) (high : ℕ) (ask : StreamAsk) (to : ℕ) → AskInRange ask → rule log high ask ≡ Roll to → to < 2 ^ 64
roll_low log high ask to range = by (ask.start == 0) (ask.uuid == 0)
  where
    by : (a b : Bool) → (if a then Continue else if b then Roll 0 else judged (upper high log ask.uuid) (effective_ss ask.start ask.ss ask.se) (effective_se ask.start ask.ss ask.se)) ≡ Roll to → to < 2 ^ 64
    by true b e = cc
    by false true e = let z : 0 ≡ to = cc in omega (arith, z)
    by false false e =
        let l : to ≤ effective_ss ask.start ask.ss ask.se = judged_low (upper high log ask.uuid) _ _ to e in
        let h : effective_ss ask.start ask.ss ask.se < 2 ^ 64 = elim (ask.start == ask.se) as (λ c. (if c then ask.start else ask.ss) < 2 ^ 64) [ true ↦ range.start | false ↦ range.ss ] in
        omega (arith, l, h)

-- a vBucket refuses with a status that is neither success nor a rollback
code_of : (a : Bool) (o : Option Stream) (z ranged : Bool) (why : Status)
    → (if a then first_reason (elim o as (λ x. Option Status) [ None ↦ (if z then Some Status.KeyEexists else None) | Some s ↦ Some Status.KeyEexists ]) (if ranged then None else Some Status.Erange) else Some Status.NotMyVbucket) ≡ Some why
    → IsRefused (refuse why)
code_of false o z ranged why e = let same : Status.NotMyVbucket ≡ why = cc in subst (λ s. IsRefused (refuse s)) same (λ q. omega arith, λ q. omega arith, omega arith)
code_of true (Some s) z ranged why e = let same : Status.KeyEexists ≡ why = cc in subst (λ s. IsRefused (refuse s)) same (λ q. omega arith, λ q. omega arith, omega arith)
code_of true None true ranged why e = let same : Status.KeyEexists ≡ why = cc in subst (λ s. IsRefused (refuse s)) same (λ q. omega arith, λ q. omega arith, omega arith)
code_of true None false true why e = cc
code_of true None false false why e = let same : Status.Erange ≡ why = cc in subst (λ s. IsRefused (refuse s)) same (λ q. omega arith, λ q. omega arith, omega arith)

pub refusal_named : (vb : Plain) (id : ℕ) (ask : StreamAsk) (why : Status) → open_refusal vb id ask ≡ Some why → IsRefused (refuse why)
refusal_named vb id ask why e = elim (stream_at id vb.streams)
    as (λ o. (if is_active vb.role then first_reason (id_refusal id o) (if is_ranged ask then None else Some Status.Erange) else Some Status.NotMyVbucket) ≡ Some why → IsRefused (refuse why))
    [ None ↦ code_of (is_active vb.role) None (id == 0) (is_ranged ask) why | Some s ↦ code_of (is_active vb.role) (Some s) (id == 0) (is_ranged ask) why ] e

-- where it does not refuse, the vBucket is active, and the number is free
pub opens_active : (vb : Plain) (id : ℕ) (ask : StreamAsk) → open_refusal vb id ask ≡ None → is_active vb.role ≡ true
opens_active vb id ask = elim (is_active vb.role) as (λ a. (if a then first_reason (id_refusal id (stream_at id vb.streams)) (if is_ranged ask then None else Some Status.Erange) else Some Status.NotMyVbucket) ≡ None → a ≡ true)
    [ true ↦ λ e. refl | false ↦ λ e. cc ]

pub opens_free : (vb : Plain) (id : ℕ) (ask : StreamAsk) → is_active vb.role ≡ true → open_refusal vb id ask ≡ None → stream_at id vb.streams ≡ None
opens_free vb id ask active e =
    elim (stream_at id vb.streams) as (λ o. first_reason (id_refusal id o) (if is_ranged ask then None else Some Status.Erange) ≡ None → o ≡ None) [ None ↦ λ q. refl | Some s ↦ λ q. cc ]
    (sym (ap (λ b. if b then first_reason (id_refusal id (stream_at id vb.streams)) (if is_ranged ask then None else Some Status.Erange) else Some Status.NotMyVbucket) active) ∙ e)

-- a request has no flag, unless its link was dialed for a takeover
abbrev pub IsFlagged : Chronicle → ℕ → StreamAsk → Type 0
IsFlagged r l ask = (ask.flags ≡ 0) ⊎ ((r.takeover_of l).dialed ≡ true)

-- by how the link was dialed, as the lines tell
pub flags_told : (r : Chronicle) (l : ℕ) (takeover : Bool) (ask asked : StreamAsk) → (r.takeover_of l).dialed ≡ takeover → ask ≡ flagged takeover asked → IsFlagged r l ask
flags_told r l true ask asked dialed is = inr dialed
flags_told r l false ask asked dialed is = inl (ap (λ (a : StreamAsk). a.flags) is)

-- a request of an absent vBucket
pub absent_said : (r : Chronicle) (n v : ℕ) (ask : StreamAsk) → r.log_at n v ≡ Some [] → r.held n v ≡ [] → LawfulSaid r n v ask 0 [] (AskAnswer.Refuse 7)
absent_said r n v ask log held = record { own_log = subst (λ o. IsIfKnown o []) (sym log) refl; own_high = sym (ap (last_seq 0) held); verdict = λ e. omega arith; active = tt }

pub absent_lawful : (r : Chronicle) (l n v : ℕ) (ask : StreamAsk) → IsDialed r l n v → IsFlagged r l ask → r.log_at n v ≡ Some [] → r.held n v ≡ [] → LawfulAsk r l n v ask 0 [] (AskAnswer.Refuse 7)
absent_lawful r l n v ask dialed plain log held = record { dialed = dialed; plain = plain; answered = absent_said r n v ask log held }

-- the branch in front of a log, in another tree with the same histories
shares_front : (a b : List Branch) → ((u : ℕ) → hist a u ≡ hist b u) → (log : List LogEntry) (uuid br n : ℕ) → IsFront log br → Shared a uuid br n → SharesFront b uuid log n
shares_front a b same [] uuid br n f s = absurd f
shares_front a b same (e ∷ older) uuid br n f s =
    ap (λ h. upto h n) (sym (same uuid)) ∙ s ∙ ap (λ h. upto h n) (same br) ∙ ap (λ u. upto (hist b u) n) (sym f)

module _ (r : Chronicle) (c : Cluster) (sound : SoundCluster top c) (same : (u : ℕ) → hist c.tree u ≡ hist r.tree u) (n v p : ℕ) (pv : Plain) (agrees : VbAgrees r n v (c.nodes p) pv) (ask : StreamAsk) where
  -- a request that is answered by the vBucket's own log and seqno
  pub own_said : (said : AskAnswer) → LawfulVerdict r.tree pv.log pv.position.at ask said → GrantsAs (r.role_at n v) said → LawfulSaid r n v ask pv.position.at pv.log said
  own_said said verdict active = record { own_log = subst (λ o. IsIfKnown o pv.log) (sym agrees.log) refl; own_high = sym (ap (last_seq 0) agrees.held ∙ agrees.high); verdict = verdict; active = active }

  pub own_lawful : (l : ℕ) → IsDialed r l n v → IsFlagged r l ask → (said : AskAnswer) → LawfulVerdict r.tree pv.log pv.position.at ask said → GrantsAs (r.role_at n v) said → LawfulAsk r l n v ask pv.position.at pv.log said
  own_lawful l dialed plain said verdict active = record { dialed = dialed; plain = plain; answered = own_said said verdict active }

  module _ (active : is_active pv.role ≡ true) where
    leads : (c.nodes p).active ≡ true
    leads = agrees.member.active ∙ active

    in_front : IsFront pv.log (c.nodes p).br
    in_front = subst (λ l. IsFront l (c.nodes p).br) agrees.member.log (sound.leads p leads).front

    pub ruled_there : (said : Verdict) → rule pv.log pv.position.at ask ≡ said → rule (c.nodes p).log (c.nodes p).position.at ask ≡ said
    ruled_there said e = ap (λ l. rule l (c.nodes p).position.at ask) agrees.member.log ∙ ap (λ (x : Position). rule pv.log x.at ask) agrees.member.position ∙ e

    -- the lines tell that it is active
    pub active_vb_lines : r.role_at n v ≡ Some (Some Role.Active)
    active_vb_lines = agrees.role ∙ ap (λ (x : Role). Some (Some x)) (by pv.role active)
      where
        by : (x : Role) → is_active x ≡ true → x ≡ Role.Active
        by Role.Active e = refl
        by x e = cc

    -- it is let continue
    pub go_lawful : ask.ss ≤ ask.start → rule pv.log pv.position.at ask ≡ Continue → LawfulVerdict r.tree pv.log pv.position.at ask AskAnswer.Go
    go_lawful low e = (
      e,
      λ above. shares_front c.tree r.tree same pv.log ask.uuid (c.nodes p).br (meant_end ask) in_front
          (continues top c sound p ask leads (starts_above ask.start ask.ss ask.se low above) (ruled_there Continue e)),
    )

    -- it is sent back
    pub roll_lawful : (to : ℕ) → rule pv.log pv.position.at ask ≡ Roll to → LawfulVerdict r.tree pv.log pv.position.at ask (AskAnswer.Roll to)
    roll_lawful to e = (e, λ above. shares_front c.tree r.tree same pv.log ask.uuid (c.nodes p).br to in_front (rolls top c sound p ask to leads above (ruled_there (Roll to) e)))
