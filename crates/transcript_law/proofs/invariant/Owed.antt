-- how what is owed to connections goes over from one world, and what was told of it, to another
use Rattle.std.specs.Prelude.{if◌then◌else◌, ◌≡◌, ◌≢◌, ◌<◌, ◌≤◌, ◌+◌, ◌*◌, ◌^◌, ◌⊎◌}
use Rattle.transcript_law.proofs.Words.{ℕ, true, List, refl, ne_eqb, ap, sym, ◌∙◌, subst, inl, inr, ⊎_elim, arith, Option, Some, None, Pend, Plain, PlainSession, Sound, is_follower}
use Rattle.client_session.specs.declared.session.Awaited.{Awaited}
use Rattle.durability.specs.declared.waiting.Waiting.{Waiting}
use Rattle.node_core.specs.Clients.{PlainClient}
use Rattle.node_world.specs.Worlds.{PlainWorld}
use Rattle.std.proofs.lemmas.Bool.{cases_eq}
use Rattle.transcript_law.proofs.answers.Awaited.{IsOutstanding, idle_none}
use Rattle.transcript_law.proofs.invariant.Holdings.{vb_of}
use Rattle.transcript_law.specs.{Feeding.{client_in}, LinesTold.{Chronicle, LastLine, OwnChange, told_for}, Questions.{Question, question_of}, StreamsTold.{Asking}}
pub use Rattle.transcript_law.proofs.invariant.Owing.{Grows, IsIdle, IsToldIn, Later, ConnOwed, Fewer, later_on, later_same, wait_for_on, IsPast, IsWaitOf, Owed, OwedIf, OwedIn, Owing}

-- ---- vBuckets

pub fewer_same : (o o' : Option Plain) → o' ≡ o → Fewer o o'
fewer_same o o' same x p = subst (λ k. Owing k x p) same

-- by what is outstanding
pub fewer_some : (vb vb' : Plain) → ((x : Waiting) (p : Pend) → x.waiter ≢ 0 → IsOutstanding vb' x p → IsOutstanding vb x p) → Fewer (Some vb) (Some vb')
fewer_some vb vb' less x p o = (o.0, less x p o.0 o.1)

-- one that follows owes nothing
pub fewer_idle : (o : Option Plain) (vb' : Plain) → Sound vb' → is_follower vb'.role ≡ true → Fewer o (Some vb')
fewer_idle o vb' sound follows x p owing = absurd (idle_none vb' x sound follows owing.1.among)

-- nor does one that is not there, or at which nothing waits
pub fewer_none : (o o' : Option Plain) → o' ≡ None → Fewer o o'
fewer_none o o' none x p owing = absurd (subst (λ k. Owing k x p) none owing)

-- ---- worlds

-- connections wait as they did, and no vBucket owes more
pub record OwedKept (w w' : PlainWorld) (r r' : Chronicle) : Type 0 where
  pub later : Later r r'
  pub fewer : (n v : ℕ) → Fewer (vb_of w n v) (vb_of w' n v)
  pub conns : (n c : ℕ) (client' : PlainClient) → client_in (w'.nodes n) c ≡ Some client' → (client : PlainClient) × (client_in (w.nodes n) c ≡ Some client) × (client'.session ≡ client.session) × ((r'.clients_at n c).asking ≡ (r.clients_at n c).asking)

conn_fewer : (line : LastLine) (n c : ℕ) (made made' : List OwnChange) (vbs vbs' : ℕ → Option Plain) (asking : Asking) (s : PlainSession) → Grows made made' → ((v : ℕ) → Fewer (vbs v) (vbs' v)) → ConnOwed line n c made vbs asking s → ConnOwed line n c made' vbs' asking s
conn_fewer line n c made made' vbs vbs' asking s grows fewer x = record {
  base = x.base;
  used = x.used;
  number = x.number;
  past = λ v y p owing. x.past v y p (fewer v y p owing);
  own = λ a q v y p waits asks owing same. wait_for_on n asking.settings q.frame v y p (line.served n c) asking.answered made made' grows (x.own a q v y p waits asks (fewer v y p owing) same);
  unserved = x.unserved;
  upto = x.upto;
}

pub owed_in_kept : (line : LastLine) (w w' : PlainWorld) (r r' : Chronicle) → OwedKept w w' r r' → OwedIn line w r → OwedIn line w' r'
owed_in_kept line w w' r r' kept x = record {
  low = λ n v y p owing. x.low n v y p (kept.fewer n v y p owing);
  each = λ n c client' is.
      let (client, was, session, asking) = kept.conns n c client' is in
      subst (ConnOwed line n c r'.made (vb_of w' n) (r'.clients_at n c).asking) (sym session) (subst (λ k. ConnOwed line n c r'.made (vb_of w' n) k client.session) (sym asking)
      (conn_fewer line n c r.made r'.made (vb_of w n) (vb_of w' n) (r.clients_at n c).asking client.session kept.later.grows (kept.fewer n) (x.each n c client was)));
  apart = λ n c d client' other' is has same.
      let (client, was, session, asking) = kept.conns n c client' is in let (other, had, same_session, same_asking) = kept.conns n d other' has in
      x.apart n c d client other was had (ap (λ (s : PlainSession). s.who.base) (sym session) ∙ same ∙ ap (λ (s : PlainSession). s.who.base) same_session);
}

pub owed_kept : (w w' : PlainWorld) (r r' : Chronicle) → OwedKept w w' r r' → Owed w r → Owed w' r'
owed_kept w w' r r' kept owed = subst (λ o. OwedIf o w' r') (sym kept.later.last) (by r.last owed)
  where
    by : (o : Option LastLine) → OwedIf o w r → OwedIf o w' r'
    by None x = tt
    by (Some line) x = owed_in_kept line w w' r r' kept x

-- ---- a step of one connection

-- it waits under the number under which it waited, for the same question, or under none
pub record WaitsOn (asking asking' : Asking) (s s' : PlainSession) : Type 0 where
  pub who : s'.who ≡ s.who
  pub used : s.used ≤ s'.used
  pub few : s.used < 2 ^ 32 → s'.used < 2 ^ 32
  pub waits : (a : Awaited) → s'.awaited ≡ Some a → (a.waiter ≡ 0) ⊎ ((s.awaited ≡ Some a) × ((q : Question) → question_of asking' ≡ Some q → question_of asking ≡ Some q) × (asking'.settings ≡ asking.settings) × (s'.used ≡ s.used) × (asking'.answered ≡ asking.answered))
  pub answered : ((asking'.answered ≡ asking.answered) × (IsIdle s' → IsIdle s)) ⊎ (asking.answered < asking'.answered)

-- all else is as it was, and no vBucket owes more
pub record OneOwed (w w' : PlainWorld) (r r' : Chronicle) (n c : ℕ) : Type 0 where
  pub later : Later r r'
  pub fewer : (m v : ℕ) → Fewer (vb_of w m v) (vb_of w' m v)
  pub others : (m d : ℕ) → (m ≡ n → d ≡ c → ⊥) → client_in (w'.nodes m) d ≡ client_in (w.nodes m) d
  pub known : (m d : ℕ) → (m ≡ n → d ≡ c → ⊥) → (r'.clients_at m d).asking ≡ (r.clients_at m d).asking

-- one that was entered before is none of a later question
told_later : (o : Option (ℕ × List OwnChange)) (before answered : ℕ) → ((k : ℕ) (told : List OwnChange) → o ≡ Some (k, told) → k ≤ before) → before < answered → (told : List OwnChange) → told_for o answered told ≡ told
told_later None before answered upto more told = refl
told_later (Some (k, first)) before answered upto more told = let le = upto k first refl in ap (λ b. if b then first else told) (ne_eqb k answered (λ e. omega (arith, le, more, e)))

conn_waits : (line : LastLine) (n c : ℕ) (made made' : List OwnChange) (vbs vbs' : ℕ → Option Plain) (asking asking' : Asking) (s s' : PlainSession) → Grows made made' → ((v : ℕ) → Fewer (vbs v) (vbs' v)) → WaitsOn asking asking' s s' → ConnOwed line n c made vbs asking s → ConnOwed line n c made' vbs' asking' s'
conn_waits line n c made made' vbs vbs' asking asking' s s' grows fewer on x =
    let base : s'.who.base ≡ s.who.base = ap (λ who. who.base) on.who in
    let rises = on.used in
    record {
      base = subst (λ b. b ≤ line.number) (sym base) x.base;
      used = on.few x.used;
      number = λ a waits. ⊎_elim (λ z. inl z) (λ same. ⊎_elim (λ z. inl z) (λ own. let u = same.3 in inr (subst (λ b. a.waiter ≡ b * 2 ^ 32 + s'.used) (sym base) (omega (arith, own, u)))) (x.number a same.0)) (on.waits a waits);
      past = λ v y p owing above below.
          let above_it : s.who.base * 2 ^ 32 + s'.used < y.waiter = subst (λ b. b * 2 ^ 32 + s'.used < y.waiter) base above in
          x.past v y p (fewer v y p owing) (omega (arith, above_it, rises)) (subst (λ b. y.waiter < (b + 1) * 2 ^ 32) base below);
      own = λ a q v y p waits asks owing same. ⊎_elim
          (λ z. absurd (owing_some (vbs' v) y p owing (same ∙ z)))
          (λ k.
          subst (λ settings. IsWaitOf n settings q.frame v y p (told_for (line.served n c) asking'.answered made')) (sym k.2) (subst (λ m. IsWaitOf n asking.settings q.frame v y p (told_for (line.served n c) m made')) (sym k.4)
          (wait_for_on n asking.settings q.frame v y p (line.served n c) asking.answered made made' grows (x.own a q v y p k.0 (k.1 q asks) (fewer v y p owing) same)))) (on.waits a waits);
      unserved = λ idle told. ⊎_elim
          (λ k. subst (λ m. told_for (line.served n c) m told ≡ told) (sym k.0) (x.unserved (k.1 idle) told))
          (λ more. told_later (line.served n c) asking.answered asking'.answered x.upto more told) on.answered;
      upto = λ k told is. let le = x.upto k told is in ⊎_elim (λ e. let same = e.0 in omega (arith, le, same)) (λ more. omega (arith, le, more)) on.answered;
    }
  where
    owing_some : (o : Option Plain) (y : Waiting) (p : Pend) → Owing o y p → y.waiter ≢ 0
    owing_some None y p owing = absurd owing
    owing_some (Some vb) y p owing = owing.0

module _ (w w' : PlainWorld) (r r' : Chronicle) (n c : ℕ) (one : OneOwed w w' r r' n c) where
  is_it : (m d : ℕ) → ((m ≡ n) × (d ≡ c)) ⊎ (m ≡ n → d ≡ c → ⊥)
  is_it m d = ⊎_elim (λ e. ⊎_elim (λ f. inl (e, f)) (λ ne. inr (λ s t. ne t)) (cases_eq d c)) (λ ne. inr (λ s t. ne s)) (cases_eq m n)

  -- the connection is this one then
  module _ (line : LastLine) (client : PlainClient) (was : client_in (w.nodes n) c ≡ Some client) (x : OwedIn line w r) where
    one_in : (client' : PlainClient) → client_in (w'.nodes n) c ≡ Some client' → client'.session.who ≡ client.session.who → ConnOwed line n c r'.made (vb_of w' n) (r'.clients_at n c).asking client'.session → OwedIn line w' r'
    one_in client' now who own = record {
      low = λ m v y p owing. x.low m v y p (one.fewer m v y p owing);
      each = λ m d other is. ⊎_elim
          (λ s. here m d other s.0 s.1 is)
          (λ ne. there m d other ne is)
          (is_it m d);
      apart = λ m d e one' two is has same. first m d e one' two is has same (is_it m d) (is_it m e);
    }
      where
        new_is : (m d : ℕ) (other : PlainClient) → m ≡ n → d ≡ c → client_in (w'.nodes m) d ≡ Some other → other ≡ client'
        new_is m d other s t is = let z : Some other ≡ Some client' = sym is ∙ ap (λ k. client_in (w'.nodes k) d) s ∙ ap (client_in (w'.nodes n)) t ∙ now in cc

        here : (m d : ℕ) (other : PlainClient) → m ≡ n → d ≡ c → client_in (w'.nodes m) d ≡ Some other → ConnOwed line m d r'.made (vb_of w' m) (r'.clients_at m d).asking other.session
        here m d other s t is =
            subst (λ k. ConnOwed line k d r'.made (vb_of w' k) (r'.clients_at k d).asking other.session) (sym s) (subst (λ k. ConnOwed line n k r'.made (vb_of w' n) (r'.clients_at n k).asking other.session) (sym t)
            (subst (λ (k : PlainClient). ConnOwed line n c r'.made (vb_of w' n) (r'.clients_at n c).asking k.session) (sym (new_is m d other s t is)) own))

        there : (m d : ℕ) (other : PlainClient) → (m ≡ n → d ≡ c → ⊥) → client_in (w'.nodes m) d ≡ Some other → ConnOwed line m d r'.made (vb_of w' m) (r'.clients_at m d).asking other.session
        there m d other ne is =
            subst (λ k. ConnOwed line m d r'.made (vb_of w' m) k other.session) (sym (one.known m d ne))
            (conn_fewer line m d r.made r'.made (vb_of w m) (vb_of w' m) (r.clients_at m d).asking other.session one.later.grows (one.fewer m) (x.each m d other (sym (one.others m d ne) ∙ is)))

        -- what stood there before, with the base that is there now
        base_of : (m d : ℕ) (other : PlainClient) → client_in (w'.nodes m) d ≡ Some other → ((m ≡ n) × (d ≡ c)) ⊎ (m ≡ n → d ≡ c → ⊥) → (old : PlainClient) × (client_in (w.nodes m) d ≡ Some old) × (old.session.who.base ≡ other.session.who.base)
        base_of m d other is (inl s) = (
          client,
          ap (λ k. client_in (w.nodes k) d) s.0 ∙ ap (client_in (w.nodes n)) s.1 ∙ was,
          ap (λ k. k.base) (sym who) ∙ ap (λ (k : PlainClient). k.session.who.base) (sym (new_is m d other s.0 s.1 is)),
        )
        base_of m d other is (inr ne) = (other, sym (one.others m d ne) ∙ is, refl)

        first : (m d e : ℕ) (one' two : PlainClient) → client_in (w'.nodes m) d ≡ Some one' → client_in (w'.nodes m) e ≡ Some two → one'.session.who.base ≡ two.session.who.base
            → ((m ≡ n) × (d ≡ c)) ⊎ (m ≡ n → d ≡ c → ⊥) → ((m ≡ n) × (e ≡ c)) ⊎ (m ≡ n → e ≡ c → ⊥) → d ≡ e
        first m d e one' two is has same a b =
            let p = base_of m d one' is a in let q = base_of m e two has b in
            x.apart m d e p.0 q.0 p.1 q.1 (p.2 ∙ same ∙ sym q.2)

  -- as it waited
  pub owed_one : (client client' : PlainClient) → client_in (w.nodes n) c ≡ Some client → client_in (w'.nodes n) c ≡ Some client' → WaitsOn (r.clients_at n c).asking (r'.clients_at n c).asking client.session client'.session → Owed w r → Owed w' r'
  owed_one client client' was now on owed = subst (λ o. OwedIf o w' r') (sym one.later.last) (by r.last owed)
    where
      by : (o : Option LastLine) → OwedIf o w r → OwedIf o w' r'
      by None x = tt
      by (Some line) x = one_in line client was x client' now on.who
          (conn_waits line n c r.made r'.made (vb_of w n) (vb_of w' n) (r.clients_at n c).asking (r'.clients_at n c).asking client.session client'.session one.later.grows (one.fewer n) on (x.each n c client was))

  -- or for an outcome of which it is known that what waits under its number is its question's
  pub owed_await : (client client' : PlainClient) → client_in (w.nodes n) c ≡ Some client → client_in (w'.nodes n) c ≡ Some client' → client'.session.who ≡ client.session.who
      → ((line : LastLine) → r.last ≡ Some line → ConnOwed line n c r.made (vb_of w n) (r.clients_at n c).asking client.session → ConnOwed line n c r'.made (vb_of w' n) (r'.clients_at n c).asking client'.session) → Owed w r → Owed w' r'
  owed_await client client' was now who on owed = subst (λ o. OwedIf o w' r') (sym one.later.last) (by r.last refl owed)
    where
      by : (o : Option LastLine) → r.last ≡ o → OwedIf o w r → OwedIf o w' r'
      by None e x = tt
      by (Some line) e x = one_in line client was x client' now who (on line e (x.each n c client was))

  -- it is gone
  pub owed_gone : client_in (w'.nodes n) c ≡ None → Owed w r → Owed w' r'
  owed_gone gone owed = subst (λ o. OwedIf o w' r') (sym one.later.last) (by r.last owed)
    where
      old_one : (m d : ℕ) (other : PlainClient) → client_in (w'.nodes m) d ≡ Some other → (client_in (w.nodes m) d ≡ Some other) × ((r'.clients_at m d).asking ≡ (r.clients_at m d).asking)
      old_one m d other is = ⊎_elim
          (λ s. let z : Some other ≡ None = sym is ∙ ap (λ k. client_in (w'.nodes k) d) s.0 ∙ ap (client_in (w'.nodes n)) s.1 ∙ gone in absurd cc)
          (λ ne. (sym (one.others m d ne) ∙ is, one.known m d ne))
          (is_it m d)

      by : (o : Option LastLine) → OwedIf o w r → OwedIf o w' r'
      by None x = tt
      by (Some line) x = record {
        low = λ m v y p owing. x.low m v y p (one.fewer m v y p owing);
        each = λ m d other is. let k = old_one m d other is in
            subst (λ a. ConnOwed line m d r'.made (vb_of w' m) a other.session) (sym k.1) (conn_fewer line m d r.made r'.made (vb_of w m) (vb_of w' m) (r.clients_at m d).asking other.session one.later.grows (one.fewer m) (x.each m d other k.0));
        apart = λ m d e one' two is has same. x.apart m d e one' two (old_one m d one' is).0 (old_one m e two has).0 same;
      }

-- ---- how sessions go on

-- as it was
pub waits_same : (asking : Asking) (s s' : PlainSession) → s' ≡ s → WaitsOn asking asking s s'
waits_same asking s s' same = subst (λ t. WaitsOn asking asking s t) (sym same) (record { who = refl; used = omega arith; few = λ l. l; waits = λ a e. inr (e, (λ q asks. asks), refl, refl, refl); answered = inl (refl, λ idle. idle) })

-- it was answered, and waits for nothing
pub waits_none : (asking asking' : Asking) (s s' : PlainSession) → s'.who ≡ s.who → s.used ≤ s'.used → (s.used < 2 ^ 32 → s'.used < 2 ^ 32) → s'.awaited ≡ None → asking.answered < asking'.answered → WaitsOn asking asking' s s'
waits_none asking asking' s s' who used few free more = record { who = who; used = used; few = few; waits = λ a e. let z : None ≡ Some a = sym free ∙ e in absurd cc; answered = inr more }

-- or a frame is in hand, where none was awaited
pub waits_hand : (asking asking' : Asking) (s s' : PlainSession) → s'.who ≡ s.who → s.used ≤ s'.used → (s.used < 2 ^ 32 → s'.used < 2 ^ 32) → IsIdle s' → asking'.answered ≡ asking.answered → IsIdle s → WaitsOn asking asking' s s'
waits_hand asking asking' s s' who used few hand same idle = record { who = who; used = used; few = few; waits = λ a e. inl (hand a e); answered = inl (same, λ h. idle) }

-- none is awaited
pub idle_free : (s : PlainSession) → s.awaited ≡ None → IsIdle s
idle_free s free a e = let z : None ≡ Some a = sym free ∙ e in absurd cc

-- ---- a prepare is placed

-- the session of the connection c of the node n, for whose frame that is in hand the vBucket v places a prepare under its last number
module _ (w w' : PlainWorld) (r r' : Chronicle) (n c v : ℕ) (client : PlainClient) (here : client_in (w.nodes n) c ≡ Some client) (hand : (a : Awaited) → client.session.awaited ≡ Some a → a.waiter ≡ 0) (later : Later r r')
    (conns : (m d : ℕ) → client_in (w'.nodes m) d ≡ client_in (w.nodes m) d) (known : (m d : ℕ) → (r'.clients_at m d).asking ≡ (r.clients_at m d).asking)
    (there : (m q : ℕ) → (m ≡ n → q ≡ v → ⊥) → vb_of w' m q ≡ vb_of w m q)
    (placed : (x : Waiting) (p : Pend) → Owing (vb_of w' n v) x p → Owing (vb_of w n v) x p ⊎ (x.waiter ≡ client.session.who.base * 2 ^ 32 + client.session.used)) where
  -- what is owed then was owed, or has that number
  abbrev Was : ℕ → ℕ → Waiting → Pend → Type 0
  Was m q x p = Owing (vb_of w m q) x p ⊎ ((m ≡ n) × (x.waiter ≡ client.session.who.base * 2 ^ 32 + client.session.used))

  was : (m q : ℕ) (x : Waiting) (p : Pend) → Owing (vb_of w' m q) x p → Was m q x p
  was m q x p owing = ⊎_elim
      (λ e. ⊎_elim
      (λ f. ⊎_elim (λ o. inl (subst (λ k. Owing (vb_of w k q) x p) (sym e) (subst (λ k. Owing (vb_of w n k) x p) (sym f) o))) (λ number. inr (e, number))
      (placed x p (subst (λ k. Owing (vb_of w' n k) x p) f (subst (λ k. Owing (vb_of w' k q) x p) e owing))))
      (λ ne. inl (subst (λ o. Owing o x p) (there m q (λ s t. ne t)) owing)) (cases_eq q v))
      (λ ne. inl (subst (λ o. Owing o x p) (there m q (λ s t. ne s)) owing)) (cases_eq m n)

  some_of : (o : Option Plain) (x : Waiting) (p : Pend) → Owing o x p → x.waiter ≢ 0
  some_of None x p owing = absurd owing
  some_of (Some vb) x p owing = owing.0

  module _ (line : LastLine) (x : OwedIn line w r) where
    mine : ConnOwed line n c r.made (vb_of w n) (r.clients_at n c).asking client.session
    mine = x.each n c client here

    -- no other connection of the node has a number of that base
    same_base : (m d : ℕ) (other : PlainClient) → client_in (w.nodes m) d ≡ Some other → m ≡ n → other.session.who.base ≡ client.session.who.base → d ≡ c
    same_base m d other is e same = x.apart n d c other client (ap (λ k. client_in (w.nodes k) d) (sym e) ∙ is) here same

    one_is : (m d : ℕ) (other : PlainClient) → client_in (w.nodes m) d ≡ Some other → m ≡ n → d ≡ c → other ≡ client
    one_is m d other is e f = let z : Some other ≡ Some client = sym is ∙ ap (λ k. client_in (w.nodes k) d) e ∙ ap (client_in (w.nodes n)) f ∙ here in cc

    past_at : (m d : ℕ) (other : PlainClient) → client_in (w.nodes m) d ≡ Some other → m ≡ n → (number : ℕ) → number ≡ client.session.who.base * 2 ^ 32 + client.session.used → IsPast other.session number
    past_at m d other is e number at above below =
        let few = mine.used in
        let base : other.session.who.base ≡ client.session.who.base = omega (arith, at, above, below, few) in
        let one : other ≡ client = one_is m d other is e (same_base m d other is e base) in
        let over : client.session.who.base * 2 ^ 32 + client.session.used < number = subst (λ (k : PlainClient). k.session.who.base * 2 ^ 32 + k.session.used < number) one above in
        omega (arith, at, over)

    own_at : (m d : ℕ) (other : PlainClient) → client_in (w.nodes m) d ≡ Some other → m ≡ n → (a : Awaited) → other.session.awaited ≡ Some a → (number : ℕ) → number ≡ client.session.who.base * 2 ^ 32 + client.session.used → number ≢ 0 → number ≡ a.waiter → ⊥
    own_at m d other is e a waits number at some same = ⊎_elim (λ z. some (same ∙ z))
        (λ z.
        let few = mine.used in let small = (x.each m d other is).used in
        let base : other.session.who.base ≡ client.session.who.base = omega (arith, at, same, z, few, small) in
        let one : other ≡ client = one_is m d other is e (same_base m d other is e base) in
        some (same ∙ hand a (ap (λ (k : PlainClient). k.session.awaited) (sym one) ∙ waits)))
        ((x.each m d other is).number a waits)

    placed_in : OwedIn line w' r'
    placed_in = record {
      low = λ m q y p owing. ⊎_elim (λ o. x.low m q y p o) (λ k. let base = mine.base in let few = mine.used in let at = k.1 in omega (arith, base, few, at)) (was m q y p owing);
      each = λ m d other is.
          let at : client_in (w.nodes m) d ≡ Some other = sym (conns m d) ∙ is in
          let old : ConnOwed line m d r.made (vb_of w m) (r.clients_at m d).asking other.session = x.each m d other at in
          subst (λ k. ConnOwed line m d r'.made (vb_of w' m) k other.session) (sym (known m d)) (record {
            base = old.base;
            used = old.used;
            number = old.number;
            past = λ q y p owing. ⊎_elim (λ o. old.past q y p o) (λ k. past_at m d other at k.0 y.waiter k.1) (was m q y p owing);
            own = λ a q u y p waits asks owing same. ⊎_elim (λ o. wait_for_on m (r.clients_at m d).asking.settings q.frame u y p (line.served m d) (r.clients_at m d).asking.answered r.made r'.made later.grows (old.own a q u y p waits asks o same)) (λ k. absurd (own_at m d other at k.0 a waits y.waiter k.1 (some_of (vb_of w' m u) y p owing) same)) (was m u y p owing);
            unserved = old.unserved;
            upto = old.upto;
          });
      apart = λ m d e one two is has same. x.apart m d e one two (sym (conns m d) ∙ is) (sym (conns m e) ∙ has) same;
    }

  pub owed_placed : Owed w r → Owed w' r'
  owed_placed owed = subst (λ o. OwedIf o w' r') (sym later.last) (by r.last owed)
    where
      by : (o : Option LastLine) → OwedIf o w r → OwedIf o w' r'
      by None x = tt
      by (Some line) x = placed_in line x
