-- a vBucket goes from one node to another, as the lines and the cluster have it: it is given up, the state active is put, and the other one takes its branch over
use Rattle.std.specs.Prelude.{◌≡◌, ◌≤◌, ◌==◌, ◌&&◌, if◌then◌else◌}
use Rattle.std.proofs.lemmas.Bool.{cases_eq as numbers}
use Rattle.transcript_law.proofs.Words.{ℕ, Bool, true, false, List, [], refl, ap, sym, ◌∙◌, subst, inl, inr, ⊎_elim, last_seq, eq-eqb, ne_eqb, Option, Some, None, is_active, Chronicle, Cluster, Feed, Granted, Member, Move, Plain, PlainWorld, Role, SoundCluster, StreamName, after_role, happens, keeps, put}
use Rattle.transcript_law.proofs.invariant.Agreement.{AgreesAt, VbAgrees, VbHolds, vb_of, vb_row, top}
use Rattle.transcript_law.proofs.invariant.{Holdings.{WritesIf}, OneLink.{put_here, put_there}, Seats.{seat, seats_apart}}
use Rattle.transcript_law.proofs.verbs.NodeLines.{role_here, role_row, role_there, vb_told, writers_rest}
use Rattle.cluster_model.specs.Clusters.{HasRight, IsFedOf, IsGiven, IsOpen, ceded, yielded}
use Rattle.transcript_law.specs.Heirs.{IsHeir, IsStated, LawfulRole, stream_history}
use Rattle.transcript_law.specs.LinesTold.{after_state, fed_branch, is_branch, stream_branch}

-- ---- a member that is fed otherwise

-- it has what its vBucket has
pub fed_otherwise : (r : Chronicle) (n v : ℕ) (m : Member) (feed : Option Feed) (o : Option Plain) → AgreesAt r n v m o → AgreesAt r n v (record m { link = feed }) o
fed_otherwise r n v m feed None a = record { opened = a.opened; told = a.told; branch = a.branch; active = a.active; fits = a.fits; entries = a.entries; high = a.high }
fed_otherwise r n v m feed (Some vb) a = record {
  kept = record { sound = a.sound; spanned = a.spanned; keeps = a.keeps; told = a.told; member = record { active = a.member.active; position = a.member.position; log = a.member.log }; branch = a.branch; holds = a.holds };
  role = a.role;
  opened = a.opened;
  writes = a.writes;
  counts = a.counts;
  lefts = a.lefts;
  times = a.times;
}

-- also where the branch was given up for it
pub ceded_otherwise : (r : Chronicle) (n v : ℕ) (m : Member) (feed : Option Feed) (high : ℕ) (o : Option Plain) → AgreesAt r n v m o → AgreesAt r n v (ceded m feed high) o
ceded_otherwise r n v m None high o a = a
ceded_otherwise r n v m (Some feed) high o a = fed_otherwise r n v m (Some (record feed { given = Some high })) o a

-- ---- a vBucket that is given up: the move Cede, and the line of its role

module _ (w : PlainWorld) (r : Chronicle) (c : Cluster) (n v k : ℕ) (vb : Plain) (sound : SoundCluster top c) (each : (m q : ℕ) → AgreesAt r m q (c.nodes (seat m q)) (vb_of w m q)) (known : vb_of w n v ≡ Some vb) (active : is_active vb.role ≡ true)
    (asleep : (c.nodes k).active ≡ false) (feeds : IsFedOf (c.nodes (seat n v)).br (c.nodes k).link) where
  abbrev p : ℕ
  p = seat n v

  abbrev given_lines : Chronicle
  given_lines = after_role r n v Role.Dead

  abbrev given_cluster : Cluster
  given_cluster = happens c (Move.Cede k p)

  before : VbAgrees r n v (c.nodes p) vb
  before = subst (AgreesAt r n v (c.nodes p)) known (each n v)

  leads : (c.nodes p).active ≡ true
  leads = before.member.active ∙ active

  -- its consumer is another one
  apart : p ≡ k → ⊥
  apart same = let z : true ≡ false = sym leads ∙ ap (λ j. (c.nodes j).active) same ∙ asleep in cc

  pub given_sound : SoundCluster top given_cluster
  given_sound = keeps top c (Move.Cede k p) sound (asleep, leads, feeds)

  -- all others agree as before
  pub given_there : (m q : ℕ) → (m ≡ n → q ≡ v → ⊥) → AgreesAt given_lines m q (given_cluster.nodes (seat m q)) (vb_of w m q)
  given_there m q other = ⊎_elim consumes (λ ne. subst (λ x. AgreesAt given_lines m q x (vb_of w m q)) (sym (put_there (put c.nodes p (yielded (c.nodes p))) k (ceded (c.nodes k) (c.nodes k).link (c.nodes p).position.at) (seat m q) ne ∙ put_there c.nodes p (yielded (c.nodes p)) (seat m q) (seats_apart m q n v other))) as_before) (numbers (seat m q) k)
    where
      as_before : AgreesAt given_lines m q (c.nodes (seat m q)) (vb_of w m q)
      as_before = role_there r n v Role.Dead m q (c.nodes (seat m q)) (vb_of w m q) other (writers_rest r n v Role.Dead refl) (each m q)

      consumes : seat m q ≡ k → AgreesAt given_lines m q (given_cluster.nodes (seat m q)) (vb_of w m q)
      consumes same =
          subst (λ j. AgreesAt given_lines m q (put (put c.nodes p (yielded (c.nodes p))) j (ceded (c.nodes j) (c.nodes j).link (c.nodes p).position.at) (seat m q)) (vb_of w m q)) same
          (subst (λ x. AgreesAt given_lines m q x (vb_of w m q)) (sym (put_here (put c.nodes p (yielded (c.nodes p))) (seat m q) (ceded (c.nodes (seat m q)) (c.nodes (seat m q)).link (c.nodes p).position.at)))
          (ceded_otherwise given_lines m q (c.nodes (seat m q)) (c.nodes (seat m q)).link (c.nodes p).position.at (vb_of w m q) as_before))

  -- and it agrees, where it is dead, sealed, and holds what it did
  pub given_here : (vb' : Plain) → vb'.role ≡ Role.Dead → vb'.spans.current ≡ None → VbHolds r n v (yielded (c.nodes p)) vb' → VbAgrees given_lines n v (given_cluster.nodes p) vb'
  given_here vb' dead sealed holds = subst (λ m. VbAgrees given_lines n v m vb') (sym (put_there (put c.nodes p (yielded (c.nodes p))) k (ceded (c.nodes k) (c.nodes k).link (c.nodes p).position.at) p apart ∙ put_here c.nodes p (yielded (c.nodes p))))
      (role_here r n v Role.Dead (yielded (c.nodes p)) vb' dead sealed (λ e. cc) holds)

-- ---- the state active is put

-- nobody is active on a branch that was given up for a member that is not active
pub none_leads : (c : Cluster) (k i u : ℕ) → SoundCluster top c → HasRight u (c.nodes k).link → (c.nodes k).active ≡ false → (c.nodes i).active ≡ true → (c.nodes i).br ≡ u → ⊥
none_leads c k i u sound right asleep active on =
    let same : i ≡ k = sound.alone i k u (inl (active, on)) (inr right) in let z : true ≡ false = sym active ∙ ap (λ j. (c.nodes j).active) same ∙ asleep in cc

-- so all agree, where the lines tell that nobody writes on it
pub stated_there : (r : Chronicle) (l u m q : ℕ) (x : Member) (o : Option Plain) → fed_branch r (r.dial_of l) ≡ Some u → (x.active ≡ true → x.br ≡ u → ⊥) → AgreesAt r m q x o → AgreesAt (after_state r l Role.Active) m q x o
stated_there r l u m q x None fed none a = a
stated_there r l u m q x (Some vb) fed none a =
    record { kept = a.kept; role = a.role; opened = a.opened; writes = by (is_active vb.role) refl a.writes; counts = a.counts; lefts = a.lefts; times = a.times }
  where
    by : (b : Bool) → is_active vb.role ≡ b → WritesIf b r m q x.br → WritesIf b (after_state r l Role.Active) m q x.br
    by false e y = tt
    by true e y = record {
      branch = y.branch;
      is_told = y.is_told;
      writer = (λ i. if is_branch (fed i) x.br then None else r.writer_of x.br) ∙ ap (λ t. if t then None else r.writer_of x.br) (ne_eqb u x.br (λ same. none (a.member.active ∙ e) (sym same))) ∙ y.writer;
      named = y.named;
    }

-- and nobody does
pub none_writes : (r : Chronicle) (l u : ℕ) → fed_branch r (r.dial_of l) ≡ Some u → (after_state r l Role.Active).writer_of u ≡ None
none_writes r l u fed = (λ i. if is_branch (fed i) u then None else r.writer_of u) ∙ ap (λ t. if t then None else r.writer_of u) (same_here u)
  where
    same_here : (j : ℕ) → (j == j) ≡ true
    same_here j = eq-eqb j j refl

-- ---- a vBucket that takes its branch over: the move Rise, and the line of its role

-- it may, by the lines: it is pending, it took all of its stream, by which its branch was given up, nobody writes on that, it is at the end of its snapshot and has all of the branch
pub heir_is : (r : Chronicle) (n v : ℕ) (m : Member) (vb : Plain) (s : IsStated r n v Role.Active) → VbAgrees r n v m vb → vb.role ≡ Role.Pending → r.writer_of (stream_branch s.stream) ≡ None → vb.position.at ≡ vb.position.se → last_seq 0 (stream_history r s.stream) ≡ vb.position.at → IsHeir r n v
heir_is r n v m vb s a pending free complete all = record {
  pending = a.role ∙ ap (λ (x : Role). Some (Some x)) pending;
  given = s;
  free = free;
  complete = λ ss se e. let z : ◌≡◌ {A = Option (ℕ × ℕ)} (Some (vb.position.ss, vb.position.se)) (Some (ss, se)) = sym a.snap ∙ e in let pair : ◌≡◌ {A = ℕ × ℕ} (vb.position.ss, vb.position.se) (ss, se) = cc in at ∙ complete ∙ ap (λ (p : ℕ × ℕ). p.1) pair;
  whole = at ∙ sym all;
}
  where
    at : last_seq 0 (r.held n v) ≡ vb.position.at
    at = ap (last_seq 0) a.held ∙ a.high

-- by the stream that it took
pub heir_given : (r : Chronicle) (n v : ℕ) (m : Member) (vb : Plain) (s : IsStated r n v Role.Active) (a : VbAgrees r n v m vb) (pending : vb.role ≡ Role.Pending) (free : r.writer_of (stream_branch s.stream) ≡ None) (complete : vb.position.at ≡ vb.position.se) (all : last_seq 0 (stream_history r s.stream) ≡ vb.position.at)
    → (heir_is r n v m vb s a pending free complete all).given.link ≡ s.link
unfolding heir_is
heir_given r n v m vb s a pending free complete all = refl

pub heir_lawful : (r : Chronicle) (n v : ℕ) (m : Member) (vb : Plain) (s : IsStated r n v Role.Active) → VbAgrees r n v m vb → vb.role ≡ Role.Pending → r.writer_of (stream_branch s.stream) ≡ None → vb.position.at ≡ vb.position.se → last_seq 0 (stream_history r s.stream) ≡ vb.position.at → LawfulRole r n v Role.Active
heir_lawful r n v m vb s a pending free complete all = record { another = other; anew = λ e. inr (heir_is r n v m vb s a pending free complete all); pending = λ e. cc }
  where
    other : r.role_at n v ≡ Some (Some Role.Active) → ⊥
    other e = let z : ◌≡◌ {A = Option (Option Role)} (Some (Some Role.Pending)) (Some (Some Role.Active)) = sym (a.role ∙ ap (λ (x : Role). Some (Some x)) pending) ∙ e in cc

-- a branch that was given up for a member ends where that has all of it
pub given_ends : (c : Cluster) (k u n : ℕ) → SoundCluster top c → (g : HasRight u (c.nodes k).link) → g.0 ≡ n → c.tips u ≡ n
given_ends c k u n sound g same = sym (sound.given k u g.0 g.1) ∙ same

-- the others agree as before
pub heir_there : (r : Chronicle) (n v u m q : ℕ) (k : Member) (o : Option Plain) → (m ≡ n → q ≡ v → ⊥) → r.branch_at n v ≡ Some u → r.writer_of u ≡ None → AgreesAt r m q k o → AgreesAt (after_role r n v Role.Active) m q k o
heir_there r n v u m q k o other on free a = vb_told r (after_role r n v Role.Active) m q k o (λ i. role_row r n v Role.Active m q other i) writes (λ vb x. refl) a
  where
    writes : (b : Bool) → WritesIf b r m q k.br → WritesIf b (after_role r n v Role.Active) m q k.br
    writes false x = tt
    writes true x =
        let another : u ≡ k.br → ⊥ = λ same. let z : ◌≡◌ {A = Option (ℕ × ℕ)} None (Some (m, q)) = sym free ∙ ap r.writer_of same ∙ x.writer in cc in
        record { branch = x.branch; is_told = x.is_told; writer = (λ i. if is_branch (on i) k.br then Some (n, v) else r.writer_of k.br) ∙ ap (λ t. if t then Some (n, v) else r.writer_of k.br) (ne_eqb u k.br another) ∙ x.writer; named = x.named }

-- it is the writer then
pub heir_writes : (r : Chronicle) (n v u : ℕ) → r.branch_at n v ≡ Some u → (after_role r n v Role.Active).writer_of u ≡ Some (n, v)
heir_writes r n v u on = (λ i. if is_branch (on i) u then Some (n, v) else r.writer_of u) ∙ ap (λ t. if t then Some (n, v) else r.writer_of u) (eq-eqb u u refl)

-- and the cluster is sound
pub heir_sound : (c : Cluster) (k : ℕ) → SoundCluster top c → (c.nodes k).active ≡ false → IsOpen (c.nodes k).coming → (c.nodes k).position.at ≡ (c.nodes k).position.se → IsGiven (c.nodes k).br (c.nodes k).position.at (c.nodes k).link → SoundCluster top (happens c (Move.Rise k))
heir_sound c k sound asleep opens complete given = keeps top c (Move.Rise k) sound (asleep, opens, complete, given)
