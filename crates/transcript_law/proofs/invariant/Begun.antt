-- what a line of a script begins with: its number is above those of all lines before it, so a connection that it opens has a base of its own
use Rattle.std.specs.Prelude.{◌≡◌, ◌<◌, ◌+◌, ◌*◌, ◌^◌, ◌%◌, ◌⊎◌, ◌&&◌, nat_lt, if◌then◌else◌}
use Rattle.transcript_law.proofs.Words.{ℕ, Bool, true, false, refl, ap, sym, ◌∙◌, subst, inl, inr, ⊎_elim, arith, nat_tests, and_parts, Option, Some, None, Pend, PlainWorld, Chronicle, Verb, ClientVerb}
use Rattle.durability.specs.declared.waiting.Waiting.{Waiting}
use Rattle.node_core.specs.Clients.{PlainClient, new_client}
use Rattle.std.proofs.{Math.Nat.{mod-eq_of_lt}, lemmas.Bool.{cases_eq}}
use Rattle.transcript_law.proofs.invariant.{Holdings.{vb_of}, Owed.{ConnOwed, OneOwed, Owed, OwedIf, OwedIn, Owing, wait_for_on}}
use Rattle.transcript_law.specs.{Feeding.{client_in}, LinesTold.{Conns, LastLine, at_line, numbered, told_for}, StreamsTold.{Asking}}

-- nothing waits, and no connection of the node n, under this base, which is that of the last line, and nothing was entered for its connection c
pub record FreshAt (line : LastLine) (w : PlainWorld) (n c base : ℕ) : Type 0 where
  pub is_line : base ≡ line.number
  pub low : (v : ℕ) (x : Waiting) (p : Pend) → Owing (vb_of w n v) x p → x.waiter < line.number * 2 ^ 32
  pub bases : (d : ℕ) (client : PlainClient) → client_in (w.nodes n) d ≡ Some client → client.session.who.base < line.number
  pub none : line.served n c ≡ None

abbrev pub IsFresh : Option LastLine → PlainWorld → ℕ → ℕ → ℕ → Type 0
IsFresh None w n c base = Unit {0}
IsFresh (Some line) w n c base = FreshAt line w n c base

-- so it is with the base of a connection that the line opens
abbrev pub IsBegun : PlainWorld → Chronicle → ℕ → ℕ → PlainWorld → Type 0
IsBegun w r n c w' = (client : PlainClient) → client_in (w.nodes n) c ≡ None → client_in (w'.nodes n) c ≡ Some client → IsFresh r.last w n c client.session.who.base

-- whatever the line is
abbrev pub Begins : PlainWorld → Verb → Chronicle → PlainWorld → Type 0
Begins w (Verb.AtClient n c ClientVerb.Open) r w' = IsBegun w r n c w'
Begins w other r w' = Unit {0}

-- a new connection is owed nothing, and nothing waits under the numbers that it is to wait under
fresh_in : (line : LastLine) (w w' : PlainWorld) (r r' : Chronicle) (n c base : ℕ) → OneOwed w w' r r' n c → client_in (w.nodes n) c ≡ None → client_in (w'.nodes n) c ≡ Some (new_client (record { node = n; client = c; base = base })) → FreshAt line w n c base → OwedIn line w r → OwedIn line w' r'
fresh_in line w w' r r' n c base one none now fresh x = record {
  low = λ m v y p owing. x.low m v y p (one.fewer m v y p owing);
  each = λ m d client is. ⊎_elim
      (λ s.
      let z : Some client ≡ Some new = sym is ∙ ap (λ k. client_in (w'.nodes k) d) s.0 ∙ ap (client_in (w'.nodes n)) s.1 ∙ now in
      let same : client ≡ new = cc in
      subst (λ k. ConnOwed line k d r'.made (vb_of w' k) (r'.clients_at k d).asking client.session) (sym s.0) (subst (λ e. ConnOwed line n e r'.made (vb_of w' n) (r'.clients_at n e).asking client.session) (sym s.1) (subst (λ (k : PlainClient). ConnOwed line n c r'.made (vb_of w' n) (r'.clients_at n c).asking k.session) (sym same) (mine (r'.clients_at n c).asking))))
      (λ ne. let old = x.each m d client (sym (one.others m d ne) ∙ is) in subst (λ k. ConnOwed line m d r'.made (vb_of w' m) k client.session) (sym (one.known m d ne)) (record {
        base = old.base;
        used = old.used;
        number = old.number;
        past = λ v y p owing. old.past v y p (one.fewer m v y p owing);
        own = λ a q v y p waits asks owing same. wait_for_on m (r.clients_at m d).asking.settings q.frame v y p (line.served m d) (r.clients_at m d).asking.answered r.made r'.made one.later.grows (old.own a q v y p waits asks (one.fewer m v y p owing) same);
        unserved = old.unserved;
        upto = old.upto;
      }))
      (is_it m d);
  apart = λ m d e client other is has same. by m d e client other is has same (is_it m d) (is_it m e);
}
  where
    new : PlainClient
    new = new_client (record { node = n; client = c; base = base })

    is_it : (m d : ℕ) → ((m ≡ n) × (d ≡ c)) ⊎ (m ≡ n → d ≡ c → ⊥)
    is_it m d = ⊎_elim (λ e. ⊎_elim (λ f. inl (e, f)) (λ ne. inr (λ s t. ne t)) (cases_eq d c)) (λ ne. inr (λ s t. ne s)) (cases_eq m n)

    mine : (asking : Asking) → ConnOwed line n c r'.made (vb_of w' n) asking new.session
    mine asking = record {
      base = let k : base ≡ line.number = fresh.is_line in omega (arith, k);
      used = omega arith;
      number = λ a e. let z : None ≡ Some a = e in absurd cc;
      past = λ v y p owing above below.
          let k : base ≡ line.number = fresh.is_line in let low = fresh.low v y p (one.fewer n v y p owing) in
          let above_line : line.number * 2 ^ 32 + 0 < y.waiter = subst (λ b. b * 2 ^ 32 + 0 < y.waiter) k above in omega (arith, above_line, low);
      own = λ a q v y p waits asks owing same. let z : None ≡ Some a = waits in absurd cc;
      unserved = λ idle told. ap (λ o. told_for o asking.answered told) fresh.none;
      upto = λ k told is. let z : None ≡ Some (k, told) = sym fresh.none ∙ is in absurd cc;
    }

    -- its base is above each other one of its node
    above : (d : ℕ) (client : PlainClient) → (d ≡ c → ⊥) → client_in (w'.nodes n) d ≡ Some client → client.session.who.base ≡ base → ⊥
    above d client ne is same = let l = fresh.bases d client (sym (one.others n d (λ s t. ne t)) ∙ is) in let k = fresh.is_line in omega (arith, l, k, same)

    base_new : (m d : ℕ) (client : PlainClient) → m ≡ n → d ≡ c → client_in (w'.nodes m) d ≡ Some client → client.session.who.base ≡ base
    base_new m d client s t is =
        let z : Some client ≡ Some new = sym is ∙ ap (λ k. client_in (w'.nodes k) d) s ∙ ap (client_in (w'.nodes n)) t ∙ now in
        let same : client ≡ new = cc in ap (λ (k : PlainClient). k.session.who.base) same

    by : (m d e : ℕ) (client other : PlainClient) → client_in (w'.nodes m) d ≡ Some client → client_in (w'.nodes m) e ≡ Some other → client.session.who.base ≡ other.session.who.base
        → ((m ≡ n) × (d ≡ c)) ⊎ (m ≡ n → d ≡ c → ⊥) → ((m ≡ n) × (e ≡ c)) ⊎ (m ≡ n → e ≡ c → ⊥) → d ≡ e
    by m d e client other is has same (inl a) (inl b) = a.1 ∙ sym b.1
    by m d e client other is has same (inl a) (inr b) = absurd (above e other (b a.0) (ap (λ k. client_in (w'.nodes k) e) (sym a.0) ∙ has) (sym same ∙ base_new m d client a.0 a.1 is))
    by m d e client other is has same (inr a) (inl b) = absurd (above d client (a b.0) (ap (λ k. client_in (w'.nodes k) d) (sym b.0) ∙ is) (same ∙ base_new m e other b.0 b.1 has))
    by m d e client other is has same (inr a) (inr b) = x.apart m d e client other (sym (one.others m d a) ∙ is) (sym (one.others m e b) ∙ has) same

pub owed_fresh : (w w' : PlainWorld) (r r' : Chronicle) (n c base : ℕ) → OneOwed w w' r r' n c → client_in (w.nodes n) c ≡ None → client_in (w'.nodes n) c ≡ Some (new_client (record { node = n; client = c; base = base })) → IsFresh r.last w n c base → Owed w r → Owed w' r'
owed_fresh w w' r r' n c base one none now fresh owed = subst (λ o. OwedIf o w' r') (sym one.later.last) (by r.last fresh owed)
  where
    by : (o : Option LastLine) → IsFresh o w n c base → OwedIf o w r → OwedIf o w' r'
    by None f x = tt
    by (Some line) f x = fresh_in line w w' r r' n c base one none now f x

-- ---- between two lines

-- the number of a line that rises is above the one before
risen_by : (before : LastLine) (number : ℕ) (line : LastLine) → numbered (Some before) number ≡ Some line → (before.number < number) × (number < 2 ^ 32) × (line ≡ record before { number = number })
risen_by before number line e = by (nat_lt before.number number && nat_lt number (2 ^ 32)) refl e
  where
    by : (b : Bool) → (nat_lt before.number number && nat_lt number (2 ^ 32)) ≡ b → (if b then Some (record before { number = number }) else None) ≡ Some line → (before.number < number) × (number < 2 ^ 32) × (line ≡ record before { number = number })
    by true t e =
        let both = and_parts (nat_lt before.number number) (nat_lt number (2 ^ 32)) t in
        let low = both.0 in let high = both.1 in
        (grind (arith, nat_tests, low), grind (arith, nat_tests, high), (let same : record before { number = number } ≡ line = cc in sym same))
    by false t e = cc

-- what is owed before a line is owed when it begins
pub owed_begins : (w : PlainWorld) (r : Chronicle) (number : ℕ) → Owed w r → Owed w (at_line r number)
owed_begins w r number owed = by r.last owed (numbered r.last number) refl
  where
    more : (before : LastLine) → before.number < number → OwedIn before w r → OwedIn (record before { number = number }) w (at_line r number)
    more before less x = record {
      low = λ n v y p owing. let l = x.low n v y p owing in omega (arith, l, less);
      each = λ n c client is. let k = x.each n c client is in record { base = (let b = k.base in omega (arith, b, less)); used = k.used; number = k.number; past = k.past; own = k.own; unserved = k.unserved; upto = k.upto };
      apart = x.apart;
    }

    by : (o : Option LastLine) → OwedIf o w r → (o' : Option LastLine) → numbered o number ≡ o' → OwedIf o' w (at_line r number)
    by None x None e = tt
    by None x (Some line) e = let z : None ≡ Some line = e in absurd cc
    by (Some before) x None e = tt
    by (Some before) x (Some line) e = let k = risen_by before number line e in subst (λ l. OwedIn l w (at_line r number)) (sym k.2) (more before k.0 x)

-- nothing is entered for a connection that is not open
abbrev pub ServesOpen : Option LastLine → Conns → Type 0
ServesOpen last conns = (line : LastLine) → last ≡ Some line → (n c : ℕ) → conns n c ≡ false → line.served n c ≡ None

-- and the number of the line is a base that nobody has
pub begins_fresh : (w : PlainWorld) (r : Chronicle) (number n c : ℕ) → Owed w r → ServesOpen r.last r.conn_at → r.conn_at n c ≡ false → IsFresh (at_line r number).last w n c (number % 2 ^ 32)
begins_fresh w r number n c owed serves shut = by r.last owed (numbered r.last number) refl (λ line is. serves line is n c shut)
  where
    by : (o : Option LastLine) → OwedIf o w r → (o' : Option LastLine) → numbered o number ≡ o' → ((line : LastLine) → o ≡ Some line → line.served n c ≡ None) → IsFresh o' w n c (number % 2 ^ 32)
    by None x None e none = tt
    by None x (Some line) e none = let z : None ≡ Some line = e in absurd cc
    by (Some before) x None e none = tt
    by (Some before) x (Some line) e none =
        let k = risen_by before number line e in let less = k.0 in let same : line.number ≡ number = ap (λ (l : LastLine). l.number) k.2 in record {
          is_line = mod-eq_of_lt k.1 ∙ sym same;
          low = λ v y p owing. let l = x.low n v y p owing in omega (arith, l, less, same);
          bases = λ d client is. let b = (x.each n d client is).base in omega (arith, b, less, same);
          none = ap (λ (l : LastLine). l.served n c) k.2 ∙ none before refl;
        }
