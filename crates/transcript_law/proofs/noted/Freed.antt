-- by lines: once active was stated on a link nobody writes on its stream's branch, as long as its consumer's vBucket is pending
use Rattle.std.specs.Prelude.{◌≡◌, ◌∷◌, ◌&&◌, ◌||◌, ◌==◌, if◌then◌else◌}
use Rattle.transcript_law.proofs.Words.{ℕ, Bool, true, false, List, [], refl, ap, sym, ◌∙◌, subst, inl, inr, ⊎_elim, eqb-true, eqb-false, eq-eqb, ne_eqb, Option, Some, None, option_map, Branch, Chronicle, Event, Granted, Role, StreamName, after_branch, after_line, after_lines, after_role, hist, is_active, stream_branch, uuid_of, with_at}
use Rattle.transcript_law.proofs.invariant.{Noted.{IsFreed}, Tables.{at_here, at_there, pick}, Trees.{IsTold, is_told_grow, is_told_here, is_told_there, new_untold}}
use Rattle.transcript_law.specs.{Clients.{Heard}, Heirs.{IsHeir, IsRisen, LawfulRole, LawfulState}, Lawfulness.{LawfulFrom, LawfulLine}}
use Rattle.transcript_law.specs.LinesTold.{Dial, after_end, after_state, fed_branch, is_branch, is_dial_at, is_feed_of, is_name, is_stream_of, roles_from, with_changed, with_id}
use Rattle.vb_types.specs.declared.stream.AskAnswer.TheVariants as ask_answer

-- a link on which active was stated, and whose consumer's vBucket is pending
pub record IsCeded (r : Chronicle) (l : ℕ) (g : Granted) : Type 0 where
  pub dial : Dial
  pub dialed : r.dial_of l ≡ Some dial
  pub stated : r.stated_of l ≡ Some Role.Active
  pub stream : r.stream_of (StreamName.Link l) dial.vb ≡ Some g
  pub pending : r.role_at dial.node dial.vb ≡ Some (Some Role.Pending)

-- each writer of a branch is of one that was made
abbrev pub AllMade : Chronicle → Type 0
AllMade r = (u n v : ℕ) → r.writer_of u ≡ Some (n, v) → IsTold r.tree u × (u ≡ 0 → ⊥)

pub record Freed (r : Chronicle) : Type 0 where
  pub made : AllMade r
  pub free : (l : ℕ) (g : Granted) → IsCeded r l g → IsFreed r (stream_branch g)
  pub apart : (k l : ℕ) (f g : Granted) → IsCeded r k f → IsCeded r l g → stream_branch f ≡ stream_branch g → k ≡ l

-- two dials are for two vBuckets
abbrev pub DialsDiffer : Chronicle → Type 0
DialsDiffer r = (k l : ℕ) (d e : Dial) → r.dial_of k ≡ Some d → r.dial_of l ≡ Some e → d.node ≡ e.node → d.vb ≡ e.vb → k ≡ l

-- ---- what tells no more of it

-- a stream is of the branch that it was of
abbrev pub SameBranch : Option Granted → Option Granted → Type 0
SameBranch o o' = (g' : Granted) → o' ≡ Some g' → (g : Granted) × (o ≡ Some g) × (stream_branch g ≡ stream_branch g')

pub record Less (r r' : Chronicle) : Type 0 where
  pub told : (u : ℕ) → IsTold r.tree u → IsTold r'.tree u
  pub writers : (u : ℕ) → r'.writer_of u ≡ r.writer_of u
  pub dials : (l : ℕ) (d : Dial) → r'.dial_of l ≡ Some d → r.dial_of l ≡ Some d
  pub states : (l : ℕ) (d : Dial) → r'.dial_of l ≡ Some d → r'.stated_of l ≡ Some Role.Active → r.stated_of l ≡ Some Role.Active
  pub streams : (l : ℕ) (d : Dial) → r'.dial_of l ≡ Some d → r'.stated_of l ≡ Some Role.Active → SameBranch (r.stream_of (StreamName.Link l) d.vb) (r'.stream_of (StreamName.Link l) d.vb)
  pub roles : (n v : ℕ) → r'.role_at n v ≡ Some (Some Role.Pending) → r.role_at n v ≡ Some (Some Role.Pending)

pub same_branch : (o : Option Granted) → SameBranch o o
same_branch o g e = (g, e, refl)

-- such a link was one
pub ceded_before : (r r' : Chronicle) → Less r r' → (l : ℕ) (g' : Granted) → IsCeded r' l g' → (g : Granted) × IsCeded r l g × (stream_branch g ≡ stream_branch g')
ceded_before r r' x l g' c = let (g, e, same) = x.streams l c.dial c.dialed c.stated g' c.stream in
    (g, record { dial = c.dial; dialed = x.dials l c.dial c.dialed; stated = x.states l c.dial c.dialed c.stated; stream = e; pending = x.roles c.dial.node c.dial.vb c.pending }, same)

-- as long as each writer is the one that it was
pub freed_by : (r r' : Chronicle) → ((u : ℕ) → IsTold r.tree u → IsTold r'.tree u) → ((u : ℕ) → r'.writer_of u ≡ r.writer_of u) → ((l : ℕ) (g' : Granted) → IsCeded r' l g' → (g : Granted) × IsCeded r l g × (stream_branch g ≡ stream_branch g')) → Freed r → Freed r'
freed_by r r' told writers before f = record {
  made = λ u n v e. let m = f.made u n v (sym (writers u) ∙ e) in (told u m.0, m.1);
  free = λ l g' c. let (g, b, same) = before l g' c in let x = f.free l g b in subst (IsFreed r') same (record { free = writers (stream_branch g) ∙ x.free; is_told = told (stream_branch g) x.is_told; named = x.named });
  apart = λ k l f' g' c d e. let (f0, b, p) = before k f' c in let (g0, q, s) = before l g' d in f.apart k l f0 g0 b q (p ∙ e ∙ sym s);
}

pub freed_less : (r r' : Chronicle) → Less r r' → Freed r → Freed r'
freed_less r r' x f = freed_by r r' x.told x.writers (ceded_before r r' x) f

pub differ_less : (r r' : Chronicle) → ((l : ℕ) (d : Dial) → r'.dial_of l ≡ Some d → r.dial_of l ≡ Some d) → DialsDiffer r → DialsDiffer r'
differ_less r r' dials differ k l d e p q = differ k l d e (dials k d p) (dials l e q)

pub less_same : (r : Chronicle) → Less r r
less_same r = record { told = λ u t. t; writers = λ u. refl; dials = λ l d e. e; states = λ l d e s. s; streams = λ l d e s. same_branch (r.stream_of (StreamName.Link l) d.vb); roles = λ n v e. e }

-- by the tables of what is told
pub less_tables : (r r' : Chronicle) → ((u : ℕ) → IsTold r.tree u → IsTold r'.tree u) → r'.writer_of ≡ r.writer_of → r'.dial_of ≡ r.dial_of → r'.stated_of ≡ r.stated_of
    → ((l v : ℕ) → SameBranch (r.stream_of (StreamName.Link l) v) (r'.stream_of (StreamName.Link l) v)) → r'.role_at ≡ r.role_at → Less r r'
less_tables r r' told writers dials states streams roles = record {
  told = told;
  writers = λ u. ap (λ (t : ℕ → Option (ℕ × ℕ)). t u) writers;
  dials = λ l d e. sym (ap (λ (t : ℕ → Option Dial). t l) dials) ∙ e;
  states = λ l d e s. sym (ap (λ (t : ℕ → Option Role). t l) states) ∙ s;
  streams = λ l d e s. streams l d.vb;
  roles = λ n v e. sym (ap (λ (t : ℕ → ℕ → Option (Option Role)). t n v) roles) ∙ e;
}

-- a stream that is changed, and not its log
pub changed_branch : (b : Bool) (f : Granted → Granted) → ((g : Granted) → (f g).log ≡ g.log) → (o : Option Granted) → SameBranch o (if b then option_map f o else o)
changed_branch false f same o g' e = (g', e, refl)
changed_branch true f same None g' e = cc
changed_branch true f same (Some g) g' e = let is : f g ≡ g' = cc in (g, refl, ap (λ log. stream_branch (record g { log = log })) (sym (same g)) ∙ ap stream_branch is)

-- ---- lines

-- a line that makes a branch names it; and what is granted had no state yet
abbrev pub LineFits : Chronicle → Event → Type 0
LineFits r (Event.Branch n v uuid parent fork high) = uuid ≡ 0 → ⊥
LineFits r (Event.Asked (StreamName.Link l) n v ask high log ask_answer.Go) = r.stated_of l ≡ None
LineFits r other = Unit {0}

abbrev pub LinesFit : Chronicle → List Event → Type 0
LinesFit r [] = Unit {0}
LinesFit r (line ∷ lines) = LineFits r line × LinesFit (after_line r line) lines

-- a line that tells of nothing here
pub quiet : (r r' : Chronicle) → r'.tree ≡ r.tree → r'.writer_of ≡ r.writer_of → r'.dial_of ≡ r.dial_of → r'.stated_of ≡ r.stated_of → r'.stream_of ≡ r.stream_of → r'.role_at ≡ r.role_at → Less r r'
quiet r r' tree writers dials states streams roles = less_tables r r' (λ u t. subst (λ k. IsTold k u) (sym tree) t) writers dials states
    (λ l v. subst (λ (t : StreamName → ℕ → Option Granted). SameBranch (r.stream_of (StreamName.Link l) v) (t (StreamName.Link l) v)) (sym streams) (same_branch (r.stream_of (StreamName.Link l) v))) roles

-- a link that ended is dialed no more
pub less_end : (r : Chronicle) (l : ℕ) → Less r (after_end r l)
less_end r l = record {
  told = λ u t. t;
  writers = λ u. refl;
  dials = λ k d. elim (k == l) as (λ b. (if b then None else r.dial_of k) ≡ Some d → r.dial_of k ≡ Some d) [ true ↦ λ e. cc | false ↦ λ e. e ];
  states = λ k d e. elim (k == l) as (λ b. (if b then None else r.stated_of k) ≡ Some Role.Active → r.stated_of k ≡ Some Role.Active) [ true ↦ λ s. cc | false ↦ λ s. s ];
  streams = λ k d e s. elim (k == l) as (λ b. SameBranch (r.stream_of (StreamName.Link k) d.vb) (if b then None else r.stream_of (StreamName.Link k) d.vb)) [ true ↦ λ g z. cc | false ↦ same_branch (r.stream_of (StreamName.Link k) d.vb) ];
  roles = λ n v e. e;
}

-- a stream that is granted where no state was put
less_go : (r : Chronicle) (l v : ℕ) (new : Granted) → r.stated_of l ≡ None → (let r' : Chronicle = record r { stream_of = λ s w. if is_name s (StreamName.Link l) && w == v then Some new else r.stream_of s w } in Less r r')
less_go r l v new none = record {
  told = λ u t. t;
  writers = λ u. refl;
  dials = λ k d e. e;
  states = λ k d e s. s;
  streams = λ k d e s. by k d.vb (k == l) refl s;
  roles = λ n u e. e;
}
  where
    by : (k w : ℕ) (b : Bool) → (k == l) ≡ b → r.stated_of k ≡ Some Role.Active → SameBranch (r.stream_of (StreamName.Link k) w) (if b && w == v then Some new else r.stream_of (StreamName.Link k) w)
    by k w true e s = let z : None ≡ Some Role.Active = sym none ∙ ap r.stated_of (sym (eqb-true k l e)) ∙ s in cc
    by k w false e s = same_branch (r.stream_of (StreamName.Link k) w)

-- a vBucket that gets a role in which it is not pending
not_pending : (r : Chronicle) (n v : ℕ) (role : Role) → (role ≡ Role.Pending → ⊥) → (m q : ℕ) → with_at r.role_at n v (Some (Some role)) m q ≡ Some (Some Role.Pending) → (r.role_at m q ≡ Some (Some Role.Pending)) × (m ≡ n → q ≡ v → ⊥)
not_pending r n v role other m q = pick r.role_at n v (Some (Some role)) (λ o. o ≡ Some (Some Role.Pending) → (r.role_at m q ≡ Some (Some Role.Pending)) × (m ≡ n → q ≡ v → ⊥)) m q
    (λ s t e. let z : role ≡ Role.Pending = cc in absurd (other z)) (λ apart e. (e, apart))

-- the role alone is another
less_role : (r : Chronicle) (n v : ℕ) (role : Role) → (role ≡ Role.Pending → ⊥) → ((u : ℕ) → (after_role r n v role).writer_of u ≡ r.writer_of u) → Less r (after_role r n v role)
less_role r n v role other writers = record {
  told = λ u t. t;
  writers = writers;
  dials = λ l d e. e;
  states = λ l d e s. s;
  streams = λ l d e s. same_branch (r.stream_of (StreamName.Link l) d.vb);
  roles = λ m q e. (not_pending r n v role other m q e).0;
}

-- one that made its branch is its writer already
pub risen_writers : (r : Chronicle) (n v : ℕ) → IsRisen r n v → (u : ℕ) → (after_role r n v Role.Active).writer_of u ≡ r.writer_of u
risen_writers r n v x u = ap (λ o. if is_branch o u then Some (n, v) else r.writer_of u) x.writer.on_branch ∙ by (x.uuid == u) refl
  where
    by : (b : Bool) → (x.uuid == u) ≡ b → (if b then Some (n, v) else r.writer_of u) ≡ r.writer_of u
    by true e = sym x.writer.made_or_took ∙ ap r.writer_of (eqb-true x.uuid u e)
    by false e = refl

module _ (r : Chronicle) (n v : ℕ) (h : IsHeir r n v) (f : Freed r) (differ : DialsDiffer r) where
  abbrev after : Chronicle
  after = after_role r n v Role.Active

  abbrev u : ℕ
  u = stream_branch h.given.stream

  heir_dial : Dial
  heir_dial = record { producer = h.given.fed.0; node = n; vb = v }

  -- its link is one of those
  own : IsCeded r h.given.link h.given.stream
  own = record { dial = record { producer = h.given.fed.0; node = n; vb = v }; dialed = h.given.fed.1; stated = h.given.stated; stream = h.given.fed.2; pending = h.pending }

  writer_is : (q : ℕ) → after.writer_of q ≡ (if u == q then Some (n, v) else r.writer_of q)
  writer_is q = ap (λ o. if is_branch o q then Some (n, v) else r.writer_of q) h.given.fed.3

  before : (l : ℕ) (g : Granted) → IsCeded after l g → IsCeded r l g × (l ≡ h.given.link → ⊥)
  before l g c =
      let p = not_pending r n v Role.Active (λ e. cc) c.dial.node c.dial.vb c.pending in (
        record { dial = c.dial; dialed = c.dialed; stated = c.stated; stream = c.stream; pending = p.0 },
        λ e. (let same : Some c.dial ≡ Some (record { producer = h.given.fed.0; node = n; vb = v }) = sym c.dialed ∙ ap r.dial_of e ∙ h.given.fed.1 in
            let is : c.dial ≡ record { producer = h.given.fed.0; node = n; vb = v } = cc in p.1 (ap (λ (d : Dial). d.node) is) (ap (λ (d : Dial). d.vb) is)),
      )

  heir_freed : Freed after
  heir_freed = record {
    made = λ q m w e. by q m w (u == q) refl (sym (writer_is q) ∙ e);
    free = λ l g c. (let b = before l g c in let old = f.free l g b.0 in record {
      free = writer_is (stream_branch g) ∙ ap (λ t. if t then Some (n, v) else r.writer_of (stream_branch g)) (ne_eqb u (stream_branch g) (λ e. b.1 (f.apart l h.given.link g h.given.stream b.0 own (sym e)))) ∙ old.free;
      is_told = old.is_told;
      named = old.named;
    });
    apart = λ k l f' g c d e. f.apart k l f' g (before k f' c).0 (before l g d).0 e;
  }
    where
      by : (q m w : ℕ) (b : Bool) → (u == q) ≡ b → (if b then Some (n, v) else r.writer_of q) ≡ Some (m, w) → IsTold r.tree q × (q ≡ 0 → ⊥)
      by q m w true t e = let x = f.free h.given.link h.given.stream own in subst (λ j. IsTold r.tree j × (j ≡ 0 → ⊥)) (eqb-true u q t) (x.is_told, x.named)
      by q m w false t e = f.made q m w e

-- one that is about to take over was told pending last
pending_freed : (r : Chronicle) (n v : ℕ) → LawfulRole r n v Role.Pending → DialsDiffer r → Freed r → Freed (after_role r n v Role.Pending)
pending_freed r n v x differ f = freed_by r (after_role r n v Role.Pending) (λ u t. t) (λ u. refl) before f
  where
    before : (l : ℕ) (g' : Granted) → IsCeded (after_role r n v Role.Pending) l g' → (g : Granted) × IsCeded r l g × (stream_branch g ≡ stream_branch g')
    before l g' c = (g', record { dial = c.dial; dialed = c.dialed; stated = c.stated; stream = c.stream; pending = was }, refl)
      where
        -- not over this link
        other : c.dial.node ≡ n → c.dial.vb ≡ v → ⊥
        other e e' =
            let given = (x.pending refl).given in
            let same : l ≡ given.link = differ l given.link c.dial (record { producer = given.fed.0; node = n; vb = v }) c.dialed given.fed.1 e e' in
            let z : Some Role.Active ≡ Some Role.Pending = sym c.stated ∙ ap r.stated_of same ∙ given.stated in cc

        was : r.role_at c.dial.node c.dial.vb ≡ Some (Some Role.Pending)
        was = pick r.role_at n v (Some (Some Role.Pending)) (λ o. o ≡ Some (Some Role.Pending) → r.role_at c.dial.node c.dial.vb ≡ Some (Some Role.Pending)) c.dial.node c.dial.vb (λ s t e. absurd (other s t)) (λ apart e. e) c.pending

-- a state
state_before : (r : Chronicle) (l : ℕ) (role : Role) (k : ℕ) → (k ≡ l → ⊥) → with_id r.stated_of l (Some role) k ≡ r.stated_of k
state_before r l role k ne = ap (λ b. if b then Some role else r.stated_of k) (ne_eqb k l ne)

pending_put : (r : Chronicle) (l : ℕ) → Freed r → Freed (after_state r l Role.Pending)
pending_put r l f = freed_by r (after_state r l Role.Pending) (λ u t. t) (λ u. refl) (λ k g c. (g, record { dial = c.dial; dialed = c.dialed; stated = was k c.stated; stream = c.stream; pending = c.pending }, refl)) f
  where
    was : (k : ℕ) → (after_state r l Role.Pending).stated_of k ≡ Some Role.Active → r.stated_of k ≡ Some Role.Active
    was k = elim (k == l) as (λ b. (if b then Some Role.Pending else r.stated_of k) ≡ Some Role.Active → r.stated_of k ≡ Some Role.Active) [ true ↦ λ e. cc | false ↦ λ e. e ]

module _ (r : Chronicle) (l : ℕ) (s : LawfulState r l Role.Active) (f : Freed r) where
  abbrev put : Chronicle
  put = after_state r l Role.Active

  abbrev of : ℕ
  of = stream_branch s.stream

  put_writer : (q : ℕ) → put.writer_of q ≡ (if of == q then None else r.writer_of q)
  put_writer q = ap (λ d. if is_branch (fed_branch r d) q then None else r.writer_of q) s.takes_on.dialed ∙ ap (λ o. if is_branch o q then None else r.writer_of q) s.writer.on_branch

  -- the link itself
  here : (g : Granted) → IsCeded put l g → s.stream ≡ g
  here g c =
      let d : Some c.dial ≡ Some s.dial = sym c.dialed ∙ s.takes_on.dialed in let same : c.dial ≡ s.dial = cc in
      let e : Some s.stream ≡ Some g = sym s.takes_on.stream ∙ ap (λ (y : Dial). r.stream_of (StreamName.Link l) y.vb) (sym same) ∙ c.stream in cc

  -- another one was
  there : (k : ℕ) (g : Granted) → (k ≡ l → ⊥) → IsCeded put k g → IsCeded r k g
  there k g ne c = record { dial = c.dial; dialed = c.dialed; stated = sym (state_before r l Role.Active k ne) ∙ c.stated; stream = c.stream; pending = c.pending }

  put_free : (k : ℕ) (g : Granted) → IsCeded put k g → IsFreed put (stream_branch g)
  put_free k g c = by (k == l) refl
    where
      none : (q : ℕ) → r.writer_of q ≡ None → put.writer_of q ≡ None
      none q e = put_writer q ∙ elim (of == q) as (λ b. (if b then None else r.writer_of q) ≡ None) [ true ↦ refl | false ↦ e ]

      by : (b : Bool) → (k == l) ≡ b → IsFreed put (stream_branch g)
      by true e =
          let is = here g (subst (λ j. IsCeded put j g) (eqb-true k l e) c) in let m = f.made of s.dial.producer s.dial.vb s.writer.made_or_took in
          subst (λ (y : Granted). IsFreed put (stream_branch y)) is (record { free = put_writer of ∙ ap (λ b. if b then None else r.writer_of of) (eq-eqb of of refl); is_told = m.0; named = m.1 })
      by false e = let x = f.free k g (there k g (eqb-false k l e) c) in record { free = none (stream_branch g) x.free; is_told = x.is_told; named = x.named }

  -- nobody else was ceded that branch
  alone : (k : ℕ) (g : Granted) → (k ≡ l → ⊥) → IsCeded put k g → of ≡ stream_branch g → ⊥
  alone k g ne c e = let x = f.free k g (there k g ne c) in let z : ◌≡◌ {A = Option (ℕ × ℕ)} None (Some (s.dial.producer, s.dial.vb)) = sym x.free ∙ ap r.writer_of (sym e) ∙ s.writer.made_or_took in cc

  active_put : Freed put
  active_put = record {
    made = λ q n v e. f.made q n v (by q (of == q) (sym (put_writer q) ∙ e));
    free = put_free;
    apart = each;
  }
    where
      by : (q : ℕ) {n v : ℕ} (b : Bool) → (if b then None else r.writer_of q) ≡ Some (n, v) → r.writer_of q ≡ Some (n, v)
      by q true e = cc
      by q false e = e

      each : (j k : ℕ) (f' g : Granted) → IsCeded put j f' → IsCeded put k g → stream_branch f' ≡ stream_branch g → j ≡ k
      each j k f' g c d e = pair (j == l) (k == l) refl refl
        where
          pair : (a b : Bool) → (j == l) ≡ a → (k == l) ≡ b → j ≡ k
          pair true true p q = eqb-true j l p ∙ sym (eqb-true k l q)
          pair true false p q = absurd (alone k g (eqb-false k l q) d (ap stream_branch (here f' (subst (λ i. IsCeded put i f') (eqb-true j l p) c)) ∙ e))
          pair false true p q = absurd (alone j f' (eqb-false j l p) c (ap stream_branch (here g (subst (λ i. IsCeded put i g) (eqb-true k l q) d)) ∙ sym e))
          pair false false p q = f.apart j k f' g (there j f' (eqb-false j l p) c) (there k g (eqb-false k l q) d) e

-- a branch that is made
branch_freed : (r : Chronicle) (n v uuid : ℕ) (parent : Option ℕ) (fork high : ℕ) (behind : List Event) → LawfulLine r (Event.Branch n v uuid parent fork high) behind → (uuid ≡ 0 → ⊥) → Freed r → Freed (after_line r (Event.Branch n v uuid parent fork high))
branch_freed r n v uuid parent fork high behind lawful named f = record {
  made = λ q m w e. made_one q m w (q == uuid) refl e;
  free = λ l g c. (let x = f.free l g (before l g c) in record { free = ap (λ b. if b then Some (n, v) else r.writer_of (stream_branch g)) (ne_eqb (stream_branch g) uuid (λ e. fresh (stream_branch g) x.is_told (sym e))) ∙ x.free; is_told = grown (stream_branch g) x.is_told; named = x.named });
  apart = λ k l f' g c d e. f.apart k l f' g (before k f' c) (before l g d) e;
}
  where
    after : Chronicle
    after = after_line r (Event.Branch n v uuid parent fork high)

    fresh : (q : ℕ) → IsTold r.tree q → uuid ≡ q → ⊥
    fresh q t e = new_untold uuid r.tree lawful.new (subst (IsTold r.tree) (sym e) t)

    grown : (q : ℕ) → IsTold r.tree q → IsTold (after_line r (Event.Branch n v uuid parent fork high)).tree q
    grown q t = is_told_there _ r.tree q (λ e. fresh q t e) t

    made_one : (q m w : ℕ) (b : Bool) → (q == uuid) ≡ b → (if b then Some (n, v) else r.writer_of q) ≡ Some (m, w) → IsTold (after_line r (Event.Branch n v uuid parent fork high)).tree q × (q ≡ 0 → ⊥)
    made_one q m w true t e = subst (λ j. IsTold (after_line r (Event.Branch n v uuid parent fork high)).tree j × (j ≡ 0 → ⊥)) (sym (eqb-true q uuid t)) (is_told_here _ r.tree, named)
    made_one q m w false t e = let x = f.made q m w e in (grown q x.0, x.1)

    roles : (b : Bool) (m q : ℕ) → roles_from b r.role_at n v m q ≡ Some (Some Role.Pending) → r.role_at m q ≡ Some (Some Role.Pending)
    roles true m q e = (not_pending r n v Role.Active (λ z. cc) m q e).0
    roles false m q e = e

    before : (l : ℕ) (g : Granted) → IsCeded (after_line r (Event.Branch n v uuid parent fork high)) l g → IsCeded r l g
    before l g c = record { dial = c.dial; dialed = c.dialed; stated = c.stated; stream = c.stream; pending = roles (r.arm_at n).down c.dial.node c.dial.vb c.pending }

-- ---- each line

link_freed : (r : Chronicle) (n v : ℕ) (role : Role) → LawfulRole r n v role → DialsDiffer r → Freed r → Freed (after_role r n v role)
link_freed r n v Role.Active x differ f = ⊎_elim (λ risen. freed_less r (after_role r n v Role.Active) (less_role r n v Role.Active (λ e. cc) (risen_writers r n v risen)) f) (λ heir. heir_freed r n v heir f differ) (x.anew refl)
link_freed r n v Role.Replica x differ f = freed_less r (after_role r n v Role.Replica) (less_role r n v Role.Replica (λ e. cc) (λ u. refl)) f
link_freed r n v Role.Pending x differ f = pending_freed r n v x differ f
link_freed r n v Role.Dead x differ f = freed_less r (after_role r n v Role.Dead) (less_role r n v Role.Dead (λ e. cc) (λ u. refl)) f

state_freed : (r : Chronicle) (l : ℕ) (role : Role) → LawfulState r l role → Freed r → Freed (after_state r l role)
state_freed r l Role.Active s f = active_put r l s f
state_freed r l Role.Pending s f = pending_put r l f
state_freed r l Role.Replica s f = absurd s.next
state_freed r l Role.Dead s f = absurd s.next

-- a stream that is changed
changed_less : (r r' : Chronicle) (test : ℕ → ℕ → Bool) (change : Granted → Granted) → ((g : Granted) → (change g).log ≡ g.log) → r'.tree ≡ r.tree → r'.writer_of ≡ r.writer_of → r'.dial_of ≡ r.dial_of → r'.stated_of ≡ r.stated_of → r'.role_at ≡ r.role_at
    → ((l v : ℕ) → r'.stream_of (StreamName.Link l) v ≡ (if test l v then option_map change (r.stream_of (StreamName.Link l) v) else r.stream_of (StreamName.Link l) v)) → Less r r'
changed_less r r' test change same tree writers dials states roles streams = less_tables r r' (λ u t. subst (λ k. IsTold k u) (sym tree) t) writers dials states
    (λ l v. subst (SameBranch (r.stream_of (StreamName.Link l) v)) (sym (streams l v)) (changed_branch (test l v) change same (r.stream_of (StreamName.Link l) v))) roles

pub line_freed : (r : Chronicle) (line : Event) (behind : List Event) → LawfulLine r line behind → LineFits r line → DialsDiffer r → Freed r → Freed (after_line r line)
line_freed r (Event.Branch n v uuid parent fork high) behind l fits differ f = branch_freed r n v uuid parent fork high behind l fits f
line_freed r (Event.Role n v role) behind l fits differ f = link_freed r n v role l differ f
line_freed r (Event.Changed n v uuid change) behind l fits differ f = freed_less r (after_line r (Event.Changed n v uuid change)) (less_tables r (after_line r (Event.Changed n v uuid change)) (λ u t. is_told_grow r.tree uuid change u t) refl refl refl (λ k w. same_branch (r.stream_of (StreamName.Link k) w)) refl) f
line_freed r (Event.Asked (StreamName.Link k) n v ask high log ask_answer.Go) behind l fits differ f = freed_less r (after_line r (Event.Asked (StreamName.Link k) n v ask high log ask_answer.Go)) (less_go r k v _ fits) f
line_freed r (Event.Asked (StreamName.Link k) n v ask high log (ask_answer.Roll to)) behind l fits differ f = freed_less r (after_line r (Event.Asked (StreamName.Link k) n v ask high log (ask_answer.Roll to))) (quiet r _ refl refl refl refl refl refl) f
line_freed r (Event.Asked (StreamName.Link k) n v ask high log (ask_answer.Refuse code)) behind l fits differ f = f
line_freed r (Event.Asked (StreamName.Client m c) n v ask high log said) behind l fits differ f = freed_less r (after_line r (Event.Asked (StreamName.Client m c) n v ask high log said)) (quiet r _ refl refl refl refl refl refl) f
line_freed r (Event.Marked (StreamName.Link k) start end flags) behind l fits differ f = freed_less r (after_line r (Event.Marked (StreamName.Link k) start end flags)) (changed_less r _ (λ j w. (j == k) && is_stream_of r (StreamName.Link k) w) _ (λ g. refl) refl refl refl refl refl (λ j w. refl)) f
line_freed r (Event.Marked (StreamName.Client m c) start end flags) behind l fits differ f = freed_less r (after_line r (Event.Marked (StreamName.Client m c) start end flags)) (quiet r _ refl refl refl refl refl refl) f
line_freed r (Event.Item (StreamName.Link k) seq act key) behind l fits differ f = freed_less r (after_line r (Event.Item (StreamName.Link k) seq act key)) (changed_less r _ (λ j w. (j == k) && is_stream_of r (StreamName.Link k) w) _ (λ g. refl) refl refl refl refl refl (λ j w. refl)) f
line_freed r (Event.Item (StreamName.Client m c) seq act key) behind l fits differ f = freed_less r (after_line r (Event.Item (StreamName.Client m c) seq act key)) (quiet r _ refl refl refl refl refl refl) f
line_freed r (Event.Finished (StreamName.Link k) why) behind l fits differ f = freed_less r (after_line r (Event.Finished (StreamName.Link k) why)) (changed_less r _ (λ j w. (j == k) && is_stream_of r (StreamName.Link k) w) _ (λ g. refl) refl refl refl refl refl (λ j w. refl)) f
line_freed r (Event.Finished (StreamName.Client m c) why) behind l fits differ f = freed_less r (after_line r (Event.Finished (StreamName.Client m c) why)) (quiet r _ refl refl refl refl refl refl) f
line_freed r (Event.Stated (StreamName.Link k) role) behind l fits differ f = state_freed r k role l f
line_freed r (Event.Stated (StreamName.Client m c) role) behind l fits differ f = f
line_freed r (Event.Ranged n v ss se) behind l fits differ f = freed_less r (after_line r (Event.Ranged n v ss se)) (changed_less r _ (λ j w. is_feed_of r n v (StreamName.Link j)) _ (λ g. refl) refl refl refl refl refl (λ j w. refl)) f
line_freed r (Event.Got n v stream change) behind l fits differ f = freed_less r (after_line r (Event.Got n v stream change)) (changed_less r _ (λ j w. is_name (StreamName.Link j) stream && is_stream_of r stream w) _ (λ g. refl) refl refl refl refl refl (λ j w. refl)) f
line_freed r (Event.Acknowledged stream n v seq saved) behind l fits differ f = freed_less r (after_line r (Event.Acknowledged stream n v seq saved)) (changed_less r _ (λ j w. is_name (StreamName.Link j) stream && is_stream_of r stream w) _ (λ g. refl) refl refl refl refl refl (λ j w. refl)) f
line_freed r (Event.Ended k why) behind l fits differ f = freed_less r (after_end r k) (less_end r k) f
line_freed r (Event.Reply n c bytes) behind l fits differ f = freed_less r (after_line r (Event.Reply n c bytes)) (quiet r _ refl refl refl refl refl refl) f
line_freed r (Event.Closed n c) behind l fits differ f = freed_less r (after_line r (Event.Closed n c)) (quiet r _ refl refl refl refl refl refl) f
line_freed r (Event.Adopted n v log) behind l fits differ f = freed_less r (after_line r (Event.Adopted n v log)) (quiet r _ refl refl refl refl refl refl) f
line_freed r (Event.Rolled n v named to) behind l fits differ f = freed_less r (after_line r (Event.Rolled n v named to)) (quiet r _ refl refl refl refl refl refl) f
line_freed r (Event.Counted stream n v member seq) behind l fits differ f = freed_less r (after_line r (Event.Counted stream n v member seq)) (quiet r _ refl refl refl refl refl refl) f
line_freed r (Event.Batch n v ss se at count) behind l fits differ f = freed_less r (after_line r (Event.Batch n v ss se at count)) (quiet r _ refl refl refl refl refl refl) f
line_freed r (Event.NodeStopped n) behind l fits differ f = freed_less r (after_line r (Event.NodeStopped n)) (quiet r _ refl refl refl refl refl refl) f
line_freed r other behind l fits differ f = f
