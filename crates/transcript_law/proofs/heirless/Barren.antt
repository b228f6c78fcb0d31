-- by lines: a branch that was made, on which nobody is active, and which no link may give an heir, stays so within a group
use Rattle.std.specs.Prelude.{◌≡◌, ◌∷◌, ◌&&◌, ◌||◌, ◌==◌, ◌⊎◌, if◌then◌else◌, false}
use Rattle.std.specs.List.{list_any}
use Rattle.transcript_law.proofs.Words.{ℕ, Bool, true, List, [], refl, ap, sym, ◌∙◌, subst, inl, inr, ⊎_elim, eqb-true, eqb-false, eq-eqb, ne_eqb, Option, Some, None, option_map, Chronicle, Event, Granted, LogEntry, Role, StreamName, after_line, after_lines, after_role, front, stream_branch, with_at}
use Rattle.transcript_law.proofs.invariant.{Tables.{pick}, Trees.{IsTold, is_told_grow, is_told_there, new_untold}}
use Rattle.transcript_law.proofs.noted.{Freed.{DialsDiffer, IsCeded, LineFits, LinesFit, differ_less}, FreedGroups.{line_dials, ruled}}
use Rattle.transcript_law.specs.{Clients.{Heard}, Heirs.{IsHeir, IsYielded, LawfulRole, LawfulState}, Lawfulness.{LawfulLine, LinesFrom}}
use Rattle.transcript_law.specs.LinesTold.{Dial, after_adopt, after_end, after_state, is_feed_of, is_name, is_stream_of, roles_from, with_id}
use Rattle.transcript_law.specs.Chronicles.{Conns}
use Rattle.transcript_law.specs.TakeoverNotes.{is_grant_of}
use Rattle.vb_types.specs.declared.stream.AskAnswer.TheVariants as ask_answer

-- a stream that goes on, of a link on whose stream pending was put last
pub record IsOffering (r : Chronicle) (l : ℕ) (g : Granted) : Type 0 where
  pub dial : Dial
  pub dialed : r.dial_of l ≡ Some dial
  pub stated : r.stated_of l ≡ Some Role.Pending
  pub stream : r.stream_of (StreamName.Link l) dial.vb ≡ Some g
  pub goes_on : g.over ≡ false

-- on the branch u nobody is active at a node that is not down; and no link that is steady, as far as is known, gives it to its consumer's vBucket
pub record Barren (steady : ℕ → Type 0) (u : ℕ) (r : Chronicle) : Type 0 where
  pub told : IsTold r.tree u
  pub none_acts : (n v : ℕ) → (r.arm_at n).down ≡ false → r.role_at n v ≡ Some (Some Role.Active) → r.branch_at n v ≡ Some u → ⊥
  pub none_offered : (l : ℕ) (g : Granted) → steady l → IsOffering r l g → stream_branch g ≡ u → ⊥
  pub none_ceded : (l : ℕ) (g : Granted) → IsCeded r l g → stream_branch g ≡ u → ⊥

-- ---- what tells no more of it

-- a stream is of the branch that it was of, and went on if it does
abbrev pub SameStream : Option Granted → Option Granted → Type 0
SameStream o o' = (g' : Granted) → o' ≡ Some g' → (g : Granted) × (o ≡ Some g) × (stream_branch g ≡ stream_branch g') × (g'.over ≡ false → g.over ≡ false)

pub same_stream : (o : Option Granted) → SameStream o o
same_stream o g e = (g, e, refl, λ goes. goes)

pub record Less (u : ℕ) (r r' : Chronicle) : Type 0 where
  pub told : IsTold r.tree u → IsTold r'.tree u
  pub acts : (n v : ℕ) → (r'.arm_at n).down ≡ false → r'.role_at n v ≡ Some (Some Role.Active) → r'.branch_at n v ≡ Some u → ((r.arm_at n).down ≡ false) × (r.role_at n v ≡ Some (Some Role.Active)) × (r.branch_at n v ≡ Some u)
  pub dials : (l : ℕ) (d : Dial) (said : Role) → r'.dial_of l ≡ Some d → r'.stated_of l ≡ Some said → r.dial_of l ≡ Some d
  pub states : (l : ℕ) (d : Dial) (said : Role) → r'.dial_of l ≡ Some d → r'.stated_of l ≡ Some said → r.stated_of l ≡ Some said
  pub streams : (l : ℕ) (d : Dial) (said : Role) → r'.dial_of l ≡ Some d → r'.stated_of l ≡ Some said → SameStream (r.stream_of (StreamName.Link l) d.vb) (r'.stream_of (StreamName.Link l) d.vb)
  pub roles : (l : ℕ) (d : Dial) (said : Role) → r'.dial_of l ≡ Some d → r'.stated_of l ≡ Some said → r'.role_at d.node d.vb ≡ Some (Some Role.Pending) → r.role_at d.node d.vb ≡ Some (Some Role.Pending)

offering_before : (u : ℕ) (r r' : Chronicle) → Less u r r' → (l : ℕ) (g' : Granted) → IsOffering r' l g' → (g : Granted) × IsOffering r l g × (stream_branch g ≡ stream_branch g')
offering_before u r r' x l g' o = let (g, e, same, on) = x.streams l o.dial Role.Pending o.dialed o.stated g' o.stream in
    (g, record { dial = o.dial; dialed = x.dials l o.dial Role.Pending o.dialed o.stated; stated = x.states l o.dial Role.Pending o.dialed o.stated; stream = e; goes_on = on o.goes_on }, same)

pub ceded_before : (u : ℕ) (r r' : Chronicle) → Less u r r' → (l : ℕ) (g' : Granted) → IsCeded r' l g' → (g : Granted) × IsCeded r l g × (stream_branch g ≡ stream_branch g')
ceded_before u r r' x l g' c = let (g, e, same, on) = x.streams l c.dial Role.Active c.dialed c.stated g' c.stream in
    (g, record { dial = c.dial; dialed = x.dials l c.dial Role.Active c.dialed c.stated; stated = x.states l c.dial Role.Active c.dialed c.stated; stream = e; pending = x.roles l c.dial Role.Active c.dialed c.stated c.pending }, same)

pub barren_less : (steady steady' : ℕ → Type 0) (u : ℕ) (r r' : Chronicle) → ((l : ℕ) → steady' l → steady l) → Less u r r' → Barren steady u r → Barren steady' u r'
barren_less steady steady' u r r' calm x b = record {
  told = x.told b.told;
  none_acts = λ n v up active on. (let (was_up, was_active, was_on) = x.acts n v up active on in b.none_acts n v was_up was_active was_on);
  none_offered = λ l g' s o e. (let (g, was, same) = offering_before u r r' x l g' o in b.none_offered l g (calm l s) was (same ∙ e));
  none_ceded = λ l g' c e. (let (g, was, same) = ceded_before u r r' x l g' c in b.none_ceded l g was (same ∙ e));
}

-- by the tables of what is told
pub less_tables : (u : ℕ) (r r' : Chronicle) → (IsTold r.tree u → IsTold r'.tree u) → r'.arm_at ≡ r.arm_at → r'.role_at ≡ r.role_at → r'.branch_at ≡ r.branch_at → r'.dial_of ≡ r.dial_of → r'.stated_of ≡ r.stated_of
    → ((l v : ℕ) → SameStream (r.stream_of (StreamName.Link l) v) (r'.stream_of (StreamName.Link l) v)) → Less u r r'
less_tables u r r' told arms roles branches dials states streams = record {
  told = told;
  acts = λ n v up active on. (sym (ap (λ t. (t n).down) arms) ∙ up, sym (ap (λ (t : ℕ → ℕ → Option (Option Role)). t n v) roles) ∙ active, sym (ap (λ (t : ℕ → ℕ → Option ℕ). t n v) branches) ∙ on);
  dials = λ l d said e s. sym (ap (λ (t : ℕ → Option Dial). t l) dials) ∙ e;
  states = λ l d said e s. sym (ap (λ (t : ℕ → Option Role). t l) states) ∙ s;
  streams = λ l d said e s. streams l d.vb;
  roles = λ l d said e s p. sym (ap (λ (t : ℕ → ℕ → Option (Option Role)). t d.node d.vb) roles) ∙ p;
}

pub quiet : (u : ℕ) (r r' : Chronicle) → r'.tree ≡ r.tree → r'.arm_at ≡ r.arm_at → r'.role_at ≡ r.role_at → r'.branch_at ≡ r.branch_at → r'.dial_of ≡ r.dial_of → r'.stated_of ≡ r.stated_of → r'.stream_of ≡ r.stream_of → Less u r r'
quiet u r r' tree arms roles branches dials states streams = less_tables u r r' (λ t. subst (λ k. IsTold k u) (sym tree) t) arms roles branches dials states
    (λ l v. subst (λ (t : StreamName → ℕ → Option Granted). SameStream (r.stream_of (StreamName.Link l) v) (t (StreamName.Link l) v)) (sym streams) (same_stream (r.stream_of (StreamName.Link l) v)))

-- a stream that is changed, and neither its log, nor so that it goes on again
changed_stream : (b : Bool) (f : Granted → Granted) → ((g : Granted) → (f g).log ≡ g.log) → ((g : Granted) → (f g).over ≡ false → g.over ≡ false) → (o : Option Granted) → SameStream o (if b then option_map f o else o)
changed_stream false f same over o g' e = (g', e, refl, λ goes. goes)
changed_stream true f same over None g' e = cc
changed_stream true f same over (Some g) g' e = let is : f g ≡ g' = cc in
    (g, refl, ap (λ log. stream_branch (record g { log = log })) (sym (same g)) ∙ ap stream_branch is, λ goes. over g (ap (λ (x : Granted). x.over) is ∙ goes))

pub changed_less : (u : ℕ) (r r' : Chronicle) (test : ℕ → ℕ → Bool) (change : Granted → Granted) → ((g : Granted) → (change g).log ≡ g.log) → ((g : Granted) → (change g).over ≡ false → g.over ≡ false) → (IsTold r.tree u → IsTold r'.tree u)
    → r'.arm_at ≡ r.arm_at → r'.role_at ≡ r.role_at → r'.branch_at ≡ r.branch_at → r'.dial_of ≡ r.dial_of → r'.stated_of ≡ r.stated_of
    → ((l v : ℕ) → r'.stream_of (StreamName.Link l) v ≡ (if test l v then option_map change (r.stream_of (StreamName.Link l) v) else r.stream_of (StreamName.Link l) v)) → Less u r r'
changed_less u r r' test change same over told arms roles branches dials states streams = less_tables u r r' told arms roles branches dials states
    (λ l v. subst (SameStream (r.stream_of (StreamName.Link l) v)) (sym (streams l v)) (changed_stream (test l v) change same over (r.stream_of (StreamName.Link l) v)))

-- a link that ended is dialed no more
pub end_less : (u : ℕ) (r : Chronicle) (l : ℕ) → Less u r (after_end r l)
end_less u r l = record {
  told = λ t. t;
  acts = λ n v up active on. (up, active, on);
  dials = λ k d said e s. (elim (k == l) as (λ b. (if b then None else r.dial_of k) ≡ Some d → r.dial_of k ≡ Some d) [ true ↦ λ e. cc | false ↦ λ e. e ]) e;
  states = λ k d said e. elim (k == l) as (λ b. (if b then None else r.stated_of k) ≡ Some said → r.stated_of k ≡ Some said) [ true ↦ λ s. cc | false ↦ λ s. s ];
  streams = λ k d said e s. elim (k == l) as (λ b. SameStream (r.stream_of (StreamName.Link k) d.vb) (if b then None else r.stream_of (StreamName.Link k) d.vb)) [ true ↦ λ g z. cc | false ↦ same_stream (r.stream_of (StreamName.Link k) d.vb) ];
  roles = λ k d said e s p. p;
}

-- a stream that is granted where no state was put
pub go_less : (u : ℕ) (r : Chronicle) (l v : ℕ) (new : Granted) → r.stated_of l ≡ None → (let r' : Chronicle = record r { stream_of = λ s w. if is_name s (StreamName.Link l) && w == v then Some new else r.stream_of s w } in Less u r r')
go_less u r l v new none = record {
  told = λ t. t;
  acts = λ n w up active on. (up, active, on);
  dials = λ k d said e s. e;
  states = λ k d said e s. s;
  streams = λ k d said e s. by said k d.vb (k == l) refl s;
  roles = λ k d said e s p. p;
}
  where
    by : (said : Role) (k w : ℕ) (b : Bool) → (k == l) ≡ b → r.stated_of k ≡ Some said → SameStream (r.stream_of (StreamName.Link k) w) (if b && w == v then Some new else r.stream_of (StreamName.Link k) w)
    by said k w true e s = let z : None ≡ Some said = sym none ∙ ap r.stated_of (sym (eqb-true k l e)) ∙ s in cc
    by said k w false e s = same_stream (r.stream_of (StreamName.Link k) w)

-- ---- lines that might tell more

-- one that becomes active on the branch is its heir; and one that is active takes no log over
abbrev pub TurnFits : ℕ → Chronicle → Event → Type 0
TurnFits u r (Event.Role n v Role.Active) = r.branch_at n v ≡ Some u → IsHeir r n v
TurnFits u r (Event.Adopted n v log) = (r.arm_at n).down ≡ false → r.role_at n v ≡ Some (Some Role.Active) → ⊥
TurnFits u r (Event.Stated (StreamName.Link l) Role.Pending) = (d : Dial) → r.dial_of l ≡ Some d → (r.arm_at d.producer).down ≡ false
TurnFits u r other = Unit {0}

abbrev pub TurnsFit : ℕ → Chronicle → List Event → Type 0
TurnsFit u r [] = Unit {0}
TurnsFit u r (line ∷ lines) = TurnFits u r line × TurnsFit u (after_line r line) lines

-- a vBucket that gets a role in which it is neither active nor pending
pub other_role : (u : ℕ) (r : Chronicle) (n v : ℕ) (role : Role) → (role ≡ Role.Active → ⊥) → (role ≡ Role.Pending → ⊥) → Less u r (after_role r n v role)
other_role u r n v role rests follows = record {
  told = λ t. t;
  acts = λ m q up active on. (up, was m q Role.Active rests active, on);
  dials = λ l d said e s. e;
  states = λ l d said e s. s;
  streams = λ l d said e s. same_stream (r.stream_of (StreamName.Link l) d.vb);
  roles = λ l d said e s p. was d.node d.vb Role.Pending follows p;
}
  where
    was : (m q : ℕ) (other : Role) → (role ≡ other → ⊥) → with_at r.role_at n v (Some (Some role)) m q ≡ Some (Some other) → r.role_at m q ≡ Some (Some other)
    was m q other apart = pick r.role_at n v (Some (Some role)) (λ o. o ≡ Some (Some other) → r.role_at m q ≡ Some (Some other)) m q (λ s t e. let z : role ≡ other = cc in absurd (apart z)) (λ there e. e)

module _ (steady : ℕ → Type 0) (u : ℕ) (r : Chronicle) (b : Barren steady u r) where
  -- the heir would be of a link by which it was ceded
  no_heir : (n v : ℕ) → IsHeir r n v → r.branch_at n v ≡ Some u → ⊥
  no_heir n v h on =
      let same : stream_branch h.given.stream ≡ u = (let z : Some (stream_branch h.given.stream) ≡ Some u = sym h.given.fed.3 ∙ on in cc) in
      b.none_ceded h.given.link h.given.stream (record { dial = record { producer = h.given.fed.0; node = n; vb = v }; dialed = h.given.fed.1; stated = h.given.stated; stream = h.given.fed.2; pending = h.pending }) same

  pub active_barren : (n v : ℕ) → (r.branch_at n v ≡ Some u → IsHeir r n v) → Barren steady u (after_role r n v Role.Active)
  active_barren n v heir = record {
    told = b.told;
    none_acts = λ m q up active on. pick r.role_at n v (Some (Some Role.Active)) (λ o. o ≡ Some (Some Role.Active) → ⊥) m q
        (λ s t e. let here : r.branch_at n v ≡ Some u = (λ i. r.branch_at (sym s i) (sym t i)) ∙ on in no_heir n v (heir here) here) (λ there e. b.none_acts m q up e on) active;
    none_offered = λ l g s o e. b.none_offered l g s (record { dial = o.dial; dialed = o.dialed; stated = o.stated; stream = o.stream; goes_on = o.goes_on }) e;
    none_ceded = λ l g c e. b.none_ceded l g (record { dial = c.dial; dialed = c.dialed; stated = c.stated; stream = c.stream; pending = was c.dial.node c.dial.vb c.pending }) e;
  }
    where
      was : (m q : ℕ) → with_at r.role_at n v (Some (Some Role.Active)) m q ≡ Some (Some Role.Pending) → r.role_at m q ≡ Some (Some Role.Pending)
      was m q = pick r.role_at n v (Some (Some Role.Active)) (λ o. o ≡ Some (Some Role.Pending) → r.role_at m q ≡ Some (Some Role.Pending)) m q (λ s t e. cc) (λ there e. e)

  -- one that is about to take over was told pending last
  pub pending_barren : (n v : ℕ) → LawfulRole r n v Role.Pending → DialsDiffer r → Barren steady u (after_role r n v Role.Pending)
  pending_barren n v x differ = record {
    told = b.told;
    none_acts = λ m q up active on. b.none_acts m q up (pick r.role_at n v (Some (Some Role.Pending)) (λ o. o ≡ Some (Some Role.Active) → r.role_at m q ≡ Some (Some Role.Active)) m q (λ s t e. cc) (λ there e. e) active) on;
    none_offered = λ l g s o e. b.none_offered l g s (record { dial = o.dial; dialed = o.dialed; stated = o.stated; stream = o.stream; goes_on = o.goes_on }) e;
    none_ceded = λ l g c e. b.none_ceded l g (record { dial = c.dial; dialed = c.dialed; stated = c.stated; stream = c.stream; pending = was l g c }) e;
  }
    where
      -- not over this link
      other : (l : ℕ) (g : Granted) (c : IsCeded (after_role r n v Role.Pending) l g) → c.dial.node ≡ n → c.dial.vb ≡ v → ⊥
      other l g c e e' =
          let given = (x.pending refl).given in
          let same : l ≡ given.link = differ l given.link c.dial (record { producer = given.fed.0; node = n; vb = v }) c.dialed given.fed.1 e e' in
          let z : Some Role.Active ≡ Some Role.Pending = sym c.stated ∙ ap r.stated_of same ∙ given.stated in cc

      was : (l : ℕ) (g : Granted) (c : IsCeded (after_role r n v Role.Pending) l g) → r.role_at c.dial.node c.dial.vb ≡ Some (Some Role.Pending)
      was l g c = pick r.role_at n v (Some (Some Role.Pending)) (λ o. o ≡ Some (Some Role.Pending) → r.role_at c.dial.node c.dial.vb ≡ Some (Some Role.Pending)) c.dial.node c.dial.vb (λ s t e. absurd (other l g c s t)) (λ apart e. e) c.pending

  -- a branch that is made is another
  pub branch_barren : (n v uuid : ℕ) (parent : Option ℕ) (fork high : ℕ) (behind : List Event) → LawfulLine r (Event.Branch n v uuid parent fork high) behind → Less u r (after_line r (Event.Branch n v uuid parent fork high))
  branch_barren n v uuid parent fork high behind lawful = record {
    told = λ t. is_told_there _ r.tree u other t;
    acts = λ m q up active on. (let p = was m q on in (up, roles (r.arm_at n).down m q p.1 active, p.0));
    dials = λ l d said e s. e;
    states = λ l d said e s. s;
    streams = λ l d said e s. same_stream (r.stream_of (StreamName.Link l) d.vb);
    roles = λ l d said e s p. pending (r.arm_at n).down d.node d.vb p;
  }
    where
      other : uuid ≡ u → ⊥
      other e = new_untold uuid r.tree lawful.new (subst (IsTold r.tree) (sym e) b.told)

      was : (m q : ℕ) → with_at r.branch_at n v (Some uuid) m q ≡ Some u → (r.branch_at m q ≡ Some u) × (m ≡ n → q ≡ v → ⊥)
      was m q = pick r.branch_at n v (Some uuid) (λ o. o ≡ Some u → (r.branch_at m q ≡ Some u) × (m ≡ n → q ≡ v → ⊥)) m q (λ s t e. let z : uuid ≡ u = cc in absurd (other z)) (λ apart e. (e, apart))

      roles : (d : Bool) (m q : ℕ) → (m ≡ n → q ≡ v → ⊥) → roles_from d r.role_at n v m q ≡ Some (Some Role.Active) → r.role_at m q ≡ Some (Some Role.Active)
      roles true m q apart = pick r.role_at n v (Some (Some Role.Active)) (λ o. o ≡ Some (Some Role.Active) → r.role_at m q ≡ Some (Some Role.Active)) m q (λ s t e. absurd (apart s t)) (λ there e. e)
      roles false m q apart = λ e. e

      pending : (d : Bool) (m q : ℕ) → roles_from d r.role_at n v m q ≡ Some (Some Role.Pending) → r.role_at m q ≡ Some (Some Role.Pending)
      pending true m q = pick r.role_at n v (Some (Some Role.Active)) (λ o. o ≡ Some (Some Role.Pending) → r.role_at m q ≡ Some (Some Role.Pending)) m q (λ s t e. cc) (λ there e. e)
      pending false m q = λ e. e

  -- a log that is taken over
  pub adopt_barren : (n v : ℕ) (log : List LogEntry) → ((r.arm_at n).down ≡ false → r.role_at n v ≡ Some (Some Role.Active) → ⊥) → Less u r (after_adopt r n v log)
  adopt_barren n v log fits = record {
    told = λ t. t;
    acts = λ m q up active on. (up, active, was m q up active on);
    dials = λ l d said e s. e;
    states = λ l d said e s. s;
    streams = λ l d said e s. same_stream (r.stream_of (StreamName.Link l) d.vb);
    roles = λ l d said e s p. p;
  }
    where
      was : (m q : ℕ) → (r.arm_at m).down ≡ false → r.role_at m q ≡ Some (Some Role.Active) → with_at r.branch_at n v (option_map (λ (e : LogEntry). e.uuid) (front log)) m q ≡ Some u → r.branch_at m q ≡ Some u
      was m q up active = pick r.branch_at n v (option_map (λ (e : LogEntry). e.uuid) (front log)) (λ o. o ≡ Some u → r.branch_at m q ≡ Some u) m q
          (λ s t e. absurd (fits (subst (λ k. (r.arm_at k).down ≡ false) s up) ((λ i. r.role_at (sym s i) (sym t i)) ∙ active))) (λ there e. e)

-- a state that is put
module _ (steady : ℕ → Type 0) (u : ℕ) (r : Chronicle) (calm : (l : ℕ) → (r.takeover_of l).turned ≡ false → steady l) (b : Barren steady u r) (l : ℕ) where
  state_there : (role other : Role) (k : ℕ) → (after_state r l role).stated_of k ≡ Some other → (k ≡ l) ⊎ (r.stated_of k ≡ Some other)
  state_there role other k = by (k == l) refl
    where
      by : (t : Bool) → (k == l) ≡ t → (if t then Some role else r.stated_of k) ≡ Some other → (k ≡ l) ⊎ (r.stated_of k ≡ Some other)
      by true e s = inl (eqb-true k l e)
      by false e s = inr s

  state_here : (role other : Role) → (after_state r l role).stated_of l ≡ Some other → role ≡ other
  state_here role other e = let z : Some role ≡ Some other = sym (ap (λ t. if t then Some role else r.stated_of l) (eq-eqb l l refl)) ∙ e in cc

  -- its stream is that of the line
  stream_is : (role : Role) (s : LawfulState r l role) (k : ℕ) (d : Dial) (g : Granted) → k ≡ l → r.dial_of k ≡ Some d → r.stream_of (StreamName.Link k) d.vb ≡ Some g → s.stream ≡ g
  stream_is role s k d g e dialed stream =
      let z : Some d ≡ Some s.dial = sym dialed ∙ ap r.dial_of e ∙ s.takes_on.dialed in let same : d ≡ s.dial = cc in
      let y : Some s.stream ≡ Some g = sym s.takes_on.stream ∙ (λ i. r.stream_of (StreamName.Link (sym e i)) (ap (λ (x : Dial). x.vb) (sym same) i)) ∙ stream in cc

  pending_put : LawfulState r l Role.Pending → ((d : Dial) → r.dial_of l ≡ Some d → (r.arm_at d.producer).down ≡ false) → Barren steady u (after_state r l Role.Pending)
  pending_put s up = record {
    told = b.told;
    none_acts = b.none_acts;
    none_offered = λ k g calm' o e. ⊎_elim
        (λ same. b.none_acts s.dial.producer s.dial.vb (up s.dial s.takes_on.dialed) s.next.active (s.writer.on_branch ∙ ap (λ (x : Granted). Some (stream_branch x)) (stream_is Role.Pending s k o.dial g same o.dialed o.stream) ∙ ap Some e))
        (λ was. b.none_offered k g calm' (record { dial = o.dial; dialed = o.dialed; stated = was; stream = o.stream; goes_on = o.goes_on }) e)
        (state_there Role.Pending Role.Pending k o.stated);
    none_ceded = λ k g c e. ⊎_elim
        (λ same. let z : Role.Pending ≡ Role.Active = state_here Role.Pending Role.Active (subst (λ j. (after_state r l Role.Pending).stated_of j ≡ Some Role.Active) same c.stated) in cc)
        (λ was. b.none_ceded k g (record { dial = c.dial; dialed = c.dialed; stated = was; stream = c.stream; pending = c.pending }) e)
        (state_there Role.Pending Role.Active k c.stated);
  }

  active_put : LawfulState r l Role.Active → Barren steady u (after_state r l Role.Active)
  active_put s = record {
    told = b.told;
    none_acts = b.none_acts;
    none_offered = λ k g calm' o e. ⊎_elim
        (λ same. let z : Role.Active ≡ Role.Pending = state_here Role.Active Role.Pending (subst (λ j. (after_state r l Role.Active).stated_of j ≡ Some Role.Pending) same o.stated) in cc)
        (λ was. b.none_offered k g calm' (record { dial = o.dial; dialed = o.dialed; stated = was; stream = o.stream; goes_on = o.goes_on }) e)
        (state_there Role.Active Role.Pending k o.stated);
    none_ceded = λ k g c e. ⊎_elim
        (λ same. b.none_offered l s.stream (calm l s.next.steady) (record { dial = s.dial; dialed = s.takes_on.dialed; stated = s.next.stated; stream = s.takes_on.stream; goes_on = s.takes_on.goes_on })
        (ap stream_branch (stream_is Role.Active s k c.dial g same c.dialed c.stream) ∙ e))
        (λ was. b.none_ceded k g (record { dial = c.dial; dialed = c.dialed; stated = was; stream = c.stream; pending = c.pending }) e)
        (state_there Role.Active Role.Active k c.stated);
  }

  pub state_barren : (role : Role) → LawfulState r l role → TurnFits u r (Event.Stated (StreamName.Link l) role) → Barren steady u (after_state r l role)
  state_barren Role.Active s fits = active_put s
  state_barren Role.Pending s fits = pending_put s fits
  state_barren Role.Replica s fits = absurd s.next
  state_barren Role.Dead s fits = absurd s.next
