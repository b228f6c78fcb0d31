-- whole groups: on a branch without an heir nobody becomes active, and no link gives it one
use Rattle.std.specs.Prelude.{◌≡◌, ◌∷◌, ◌&&◌, ◌||◌, ◌==◌, ◌⊎◌, if◌then◌else◌, false, not}
use Rattle.std.specs.List.{list_any}
use Rattle.script_text.specs.declared.verb.ClientVerb.TheVariants as client_verb
use Rattle.script_text.specs.declared.verb.LinkVerb.TheVariants as link_verb
use Rattle.script_text.specs.declared.verb.NodeVerb.TheVariants as node_verb
use Rattle.script_text.specs.declared.verb.Verb.TheVariants as verb
use Rattle.script_text.specs.declared.verb.VbVerb.TheVariants as vb_verb
use Rattle.transcript_law.proofs.Words.{ℕ, Bool, true, List, [], refl, ap, sym, ◌∙◌, subst, inl, inr, ⊎_elim, eqb-true, eqb-false, ne_eqb, Option, Some, None, Answer, Chronicle, Event, Granted, Role, StreamName, Verb, after_line, after_lines, stream_branch, with_at}
use Rattle.transcript_law.proofs.heirless.{Barren.{Barren, Less, SameStream, quiet, same_stream}}
use Rattle.transcript_law.proofs.invariant.{Tables.{at_there, pick}, Trees.{IsTold}}
use Rattle.transcript_law.specs.Chronicles.{Appending, ArmKnown, after_append, after_armed, after_calls, after_crash, after_dial, after_made, after_moved, after_openings, after_restart, after_restarts, after_rollback, after_start, after_starts, after_up, after_verb, ahead, appending, as_noted, calls_of_append, crashed_disk, disks_of, heir_in, is_made, is_off, is_rollback, known_down, known_fail, known_stop, resting, rollback_of, saving, state_of, with_disk, with_disk_there, with_row}
use Rattle.transcript_law.specs.LinesTold.{Dial, is_dial_at, with_id}
use Rattle.vb_disk.specs.declared.fuse.Fuse.{Fuse}
use Rattle.vb_disk.specs.declared.made.Outcome.{Outcome}
use Rattle.vb_events.specs.declared.event.Answer.TheVariants as answer
use Rattle.vb_events.specs.declared.event.Cause.TheVariants as cause
use Rattle.vb_events.specs.declared.event.Event.TheVariants as event
use Rattle.vb_types.specs.declared.journal.Record.{Record}

-- the same, but for one node
record Other (n u : ℕ) (r r' : Chronicle) : Type 0 where
  told : IsTold r.tree u → IsTold r'.tree u
  acts : (m v : ℕ) → (m ≡ n → ⊥) → (r'.arm_at m).down ≡ false → r'.role_at m v ≡ Some (Some Role.Active) → r'.branch_at m v ≡ Some u → ((r.arm_at m).down ≡ false) × (r.role_at m v ≡ Some (Some Role.Active)) × (r.branch_at m v ≡ Some u)
  dials : (l : ℕ) (d : Dial) (said : Role) → r'.dial_of l ≡ Some d → r'.stated_of l ≡ Some said → r.dial_of l ≡ Some d
  states : (l : ℕ) (d : Dial) (said : Role) → r'.dial_of l ≡ Some d → r'.stated_of l ≡ Some said → r.stated_of l ≡ Some said
  streams : (l : ℕ) (d : Dial) (said : Role) → r'.dial_of l ≡ Some d → r'.stated_of l ≡ Some said → SameStream (r.stream_of (StreamName.Link l) d.vb) (r'.stream_of (StreamName.Link l) d.vb)
  roles : (l : ℕ) (d : Dial) (said : Role) → r'.dial_of l ≡ Some d → r'.stated_of l ≡ Some said → r'.role_at d.node d.vb ≡ Some (Some Role.Pending) → r.role_at d.node d.vb ≡ Some (Some Role.Pending)

-- branches that lines make are of this node
abbrev pub BranchesOf : ℕ → List Event → Type 0
BranchesOf n [] = Unit {0}
BranchesOf n (event.Branch m v uuid parent fork high ∷ lines) = (m ≡ n) × BranchesOf n lines
BranchesOf n (line ∷ lines) = BranchesOf n lines

module _ (u : ℕ) where
  beside : (n : ℕ) (r r' : Chronicle) → Less u r r' → Other n u r r'
  beside n r r' x = record { told = x.told; acts = λ m v other. x.acts m v; dials = x.dials; states = x.states; streams = x.streams; roles = x.roles }

  -- at that node nobody becomes active on the branch
  with_fresh : (n : ℕ) (r r' : Chronicle) → Other n u r r' → ((v : ℕ) → (r'.arm_at n).down ≡ false → r'.role_at n v ≡ Some (Some Role.Active) → r'.branch_at n v ≡ Some u → ⊥) → Less u r r'
  with_fresh n r r' x fresh = record { told = x.told; acts = λ m v. by m v (m == n) refl; dials = x.dials; states = x.states; streams = x.streams; roles = x.roles }
    where
      by : (m v : ℕ) (b : Bool) → (m == n) ≡ b → (r'.arm_at m).down ≡ false → r'.role_at m v ≡ Some (Some Role.Active) → r'.branch_at m v ≡ Some u → ((r.arm_at m).down ≡ false) × (r.role_at m v ≡ Some (Some Role.Active)) × (r.branch_at m v ≡ Some u)
      by m v true e up active on = let same = eqb-true m n e in absurd (fresh v (subst (λ k. (r'.arm_at k).down ≡ false) same up) (subst (λ k. r'.role_at k v ≡ Some (Some Role.Active)) same active) (subst (λ k. r'.branch_at k v ≡ Some u) same on))
      by m v false e up active on = x.acts m v (eqb-false m n e) up active on

  join_streams : (o p q : Option Granted) → SameStream o p → SameStream p q → SameStream o q
  join_streams o p q one two g e = let (f, is, same, on) = two g e in let (k, was, alike, on') = one f is in (k, was, alike ∙ same, λ goes. on' (on goes))

  other_on : (n : ℕ) (r q s : Chronicle) → Other n u r q → Other n u q s → Other n u r s
  other_on n r q s x y = record {
    told = λ t. y.told (x.told t);
    acts = λ m v other up active on. (let (up', active', on') = y.acts m v other up active on in x.acts m v other up' active' on');
    dials = λ l d said e p. x.dials l d said (y.dials l d said e p) (y.states l d said e p);
    states = λ l d said e p. x.states l d said (y.dials l d said e p) (y.states l d said e p);
    streams = λ l d said e p. join_streams (r.stream_of (StreamName.Link l) d.vb) (q.stream_of (StreamName.Link l) d.vb) (s.stream_of (StreamName.Link l) d.vb) (x.streams l d said (y.dials l d said e p) (y.states l d said e p)) (y.streams l d said e p);
    roles = λ l d said e s p. x.roles l d said (y.dials l d said e s) (y.states l d said e s) (y.roles l d said e s p);
  }

  pub less_on : (r q s : Chronicle) → Less u r q → Less u q s → Less u r s
  less_on r q s x y = record {
    told = λ t. y.told (x.told t);
    acts = λ m v up active on. (let (up', active', on') = y.acts m v up active on in x.acts m v up' active' on');
    dials = λ l d said e p. x.dials l d said (y.dials l d said e p) (y.states l d said e p);
    states = λ l d said e p. x.states l d said (y.dials l d said e p) (y.states l d said e p);
    streams = λ l d said e p. join_streams (r.stream_of (StreamName.Link l) d.vb) (q.stream_of (StreamName.Link l) d.vb) (s.stream_of (StreamName.Link l) d.vb) (x.streams l d said (y.dials l d said e p) (y.states l d said e p)) (y.streams l d said e p);
    roles = λ l d said e s p. x.roles l d said (y.dials l d said e s) (y.states l d said e s) (y.roles l d said e s p);
  }

  pub less_same : (r : Chronicle) → Less u r r
  less_same r = quiet u r r refl refl refl refl refl refl refl

  less_if : (b : Bool) (r x y : Chronicle) → Less u r x → Less u r y → Less u r (if b then x else y)
  less_if true r x y one other = one
  less_if false r x y one other = other

  other_if : (n : ℕ) (b : Bool) (r x y : Chronicle) → Other n u r x → Other n u r y → Other n u r (if b then x else y)
  other_if n true r x y one other = one
  other_if n false r x y one other = other

  -- ---- arms

  -- an arm that is another, at a node that is down as it was
  arm_less : (r : Chronicle) (n : ℕ) (arm : ArmKnown) → (arm.down ≡ false → (r.arm_at n).down ≡ false) → (let r' : Chronicle = record r { arm_at = with_id r.arm_at n arm } in Less u r r')
  arm_less r n arm down = record {
    told = λ t. t;
    acts = λ m v up active on. (by m (m == n) refl up, active, on);
    dials = λ l d said e s. e;
    states = λ l d said e s. s;
    streams = λ l d said e s. same_stream (r.stream_of (StreamName.Link l) d.vb);
    roles = λ l d said e s p. p;
  }
    where
      by : (m : ℕ) (b : Bool) → (m == n) ≡ b → (if b then arm else r.arm_at m).down ≡ false → (r.arm_at m).down ≡ false
      by m true e up = subst (λ k. (r.arm_at k).down ≡ false) (sym (eqb-true m n e)) (down up)
      by m false e up = up

  calls_less : (calls n : ℕ) (r : Chronicle) → Less u r (after_calls calls n r)
  calls_less calls n r = arm_less r n _ (λ e. e)

  disk_less : (r : Chronicle) (n v : ℕ) (d : _) → Less u r (with_disk r n v d)
  disk_less r n v d = quiet u r (with_disk r n v d) refl refl refl refl refl refl refl

  -- a node that crashes: no link has an end there any more
  crash_less : (r : Chronicle) (n : ℕ) (out : Outcome) → Less u r (after_crash r n out)
  crash_less r n out = record {
    told = λ t. t;
    acts = λ m v. acts m v _ _ (m == n);
    dials = λ l d said e s. (elim (is_dial_at n (r.dial_of l)) as (λ b. (if b then None else r.dial_of l) ≡ Some d → r.dial_of l ≡ Some d) [ true ↦ λ e. cc | false ↦ λ e. e ]) e;
    states = λ l d said e. elim (is_dial_at n (r.dial_of l)) as (λ b. (if b then None else r.stated_of l) ≡ Some said → r.stated_of l ≡ Some said) [ true ↦ λ s. cc | false ↦ λ s. s ];
    streams = λ l d said e s. elim (is_dial_at n (r.dial_of l)) as (λ b. SameStream (r.stream_of (StreamName.Link l) d.vb) (if b then None else r.stream_of (StreamName.Link l) d.vb)) [ true ↦ λ g z. cc | false ↦ same_stream (r.stream_of (StreamName.Link l) d.vb) ];
    roles = λ l d said e s p. by l d (is_dial_at n (r.dial_of l)) refl e p;
  }
    where
      acts : (m v : ℕ) (role : Option (Option Role)) (branch : Option ℕ) (b : Bool) → (if b then known_down else r.arm_at m).down ≡ false → (if b then role else r.role_at m v) ≡ Some (Some Role.Active)
          → (if b then branch else r.branch_at m v) ≡ Some u → ((r.arm_at m).down ≡ false) × (r.role_at m v ≡ Some (Some Role.Active)) × (r.branch_at m v ≡ Some u)
      acts m v role branch true up active on = cc
      acts m v role branch false up active on = (up, active, on)

      second : (a b : Bool) → (a || b) ≡ false → b ≡ false
      second true b z = cc
      second false b z = z

      by : (l : ℕ) (d : Dial) (b : Bool) → is_dial_at n (r.dial_of l) ≡ b → (if b then None else r.dial_of l) ≡ Some d → (after_crash r n out).role_at d.node d.vb ≡ Some (Some Role.Pending) → r.role_at d.node d.vb ≡ Some (Some Role.Pending)
      by l d true e f p = cc
      by l d false e f p = sym (ap (λ b. if b then Some (resting (crashed_disk out (r.disk_at n d.vb)).book) else r.role_at d.node d.vb) (second (d.producer == n) (d.node == n) (sym (ap (is_dial_at n) f) ∙ e))) ∙ p

  append_less : (r : Chronicle) (n v : ℕ) (a : Appending) (said : Answer) → Less u r (after_append r n v a said)
  append_less r n v a answer.Ok = less_on r (with_disk r n v (a.stands (r.disk_at n v))) (after_append r n v a answer.Ok) (disk_less r n v (a.stands (r.disk_at n v))) (calls_less calls_of_append n (with_disk r n v (a.stands (r.disk_at n v))))
  append_less r n v a (answer.No cause.Closed) = disk_less r n v (a.fails (r.disk_at n v))
  append_less r n v a (answer.No cause.Disk) = less_on r (with_disk r n v _) (after_append r n v a (answer.No cause.Disk)) (disk_less r n v _) (calls_less calls_of_append n (with_disk r n v _))
  append_less r n v a (answer.No cause.Stopped) = less_on r (with_disk r n v _) (after_append r n v a (answer.No cause.Stopped)) (disk_less r n v _) (crash_less (with_disk r n v _) n (r.arm_at n).out)
  append_less r n v a other = less_same r

  made_less : (r : Chronicle) (n v : ℕ) (role : Role) (said : Answer) → Less u r (after_made r n v role said)
  made_less r n v role said = less_on r (with_disk_there r n v said) (after_made r n v role said)
      (less_if (is_made said) r (with_disk r n v (record (r.disk_at n v) { there = true })) r (disk_less r n v (record (r.disk_at n v) { there = true })) (less_same r))
      (append_less (with_disk_there r n v said) n v (appending (state_of (with_disk_there r n v said) n v role)) said)

  rollback_less : (r : Chronicle) (back : Option (ℕ × (ℕ × Record))) (lines : List Event) (said : Answer) → Less u r (after_rollback r back lines said)
  rollback_less r None lines said = less_same r
  rollback_less r (Some (n, (v, x))) lines (answer.No why) = append_less r n v (appending x) (answer.No why)
  rollback_less r (Some (n, (v, x))) lines other = less_if (list_any is_rollback lines) r (after_calls calls_of_append n r) r (calls_less calls_of_append n r) (less_same r)

  moved_less : (r : Chronicle) (heir : Option (ℕ × ℕ)) (back : Option (ℕ × (ℕ × Record))) (lines : List Event) (said : Answer) → Less u r (after_moved r heir back lines said)
  moved_less r None back lines said = rollback_less r back lines said
  moved_less r (Some (n, v)) back lines said = append_less r n v (appending (state_of r n v Role.Active)) (as_noted said)

  armed_less : (r : Chronicle) (n : ℕ) (arm : ArmKnown) (said : Answer) → Less u r (after_armed r n arm said)
  armed_less r n arm answer.Ok = arm_less r n _ (λ e. e)
  armed_less r n arm other = less_same r

  -- a link that is dialed has no state
  dial_less : (r : Chronicle) (l m n v : ℕ) (said : Answer) → Less u r (after_dial r l m n v said)
  dial_less r l m n v answer.Ok = record {
    told = λ t. t;
    acts = λ k q up active on. (up, active, on);
    dials = λ k d said e s. by k d said (k == l) e s;
    states = λ k d said e. elim (k == l) as (λ b. (if b then None else r.stated_of k) ≡ Some said → r.stated_of k ≡ Some said) [ true ↦ λ s. cc | false ↦ λ s. s ];
    streams = λ k d said e s. elim (k == l) as (λ b. SameStream (r.stream_of (StreamName.Link k) d.vb) (if b then None else r.stream_of (StreamName.Link k) d.vb)) [ true ↦ λ g z. cc | false ↦ same_stream (r.stream_of (StreamName.Link k) d.vb) ];
    roles = λ k d said e s p. p;
  }
    where
      by : (k : ℕ) (d : Dial) (said : Role) (b : Bool) → (if b then Some (record { producer = m; node = n; vb = v }) else r.dial_of k) ≡ Some d → (if b then None else r.stated_of k) ≡ Some said → r.dial_of k ≡ Some d
      by k d said true e s = cc
      by k d said false e s = e
  dial_less r l m n v other = less_same r

  -- ---- a node that starts

  other_same : (n : ℕ) (r : Chronicle) → Other n u r r
  other_same n r = beside n r r (less_same r)

  -- an arm of another node
  away : (table : ℕ → ArmKnown) (n : ℕ) (arm : ArmKnown) (m : ℕ) → (m ≡ n → ⊥) → (with_id table n arm m).down ≡ false → (table m).down ≡ false
  away table n arm m other up = sym (ap (λ b. (if b then arm else table m).down) (ne_eqb m n other)) ∙ up

  restart_other : (r : Chronicle) (n v : ℕ) → Other n u r (after_restart r n v)
  restart_other r n v = record {
    told = λ t. t;
    acts = λ m q other up active on. (away r.arm_at n _ m other up, sym (at_there r.role_at n v (Some (Some Role.Active)) m q (λ s t. other s)) ∙ active, on);
    dials = λ l d said e s. e;
    states = λ l d said e s. s;
    streams = λ l d said e s. same_stream (r.stream_of (StreamName.Link l) d.vb);
    roles = λ l d said e s. pick r.role_at n v (Some (Some Role.Active)) (λ o. o ≡ Some (Some Role.Pending) → r.role_at d.node d.vb ≡ Some (Some Role.Pending)) d.node d.vb (λ a b p. cc) (λ apart p. p);
  }

  restarts_other : (r : Chronicle) (n : ℕ) (lines : List Event) → BranchesOf n lines → Other n u r (after_restarts r lines)
  restarts_other r n [] of = other_same n r
  restarts_other r n (event.Branch m v uuid parent fork high ∷ lines) of = other_on n r (after_restart r m v) (after_restarts (after_restart r m v) lines) (subst (λ k. Other n u r (after_restart r k v)) (sym of.0) (restart_other r n v)) (restarts_other (after_restart r m v) n lines of.1)
  restarts_other r n (line ∷ lines) of = restarts_other r n lines of

  up_other : (n : ℕ) (r : Chronicle) → Other n u r (after_up n r)
  up_other n r = record {
    told = λ t. t;
    acts = λ m q other up active on. (away r.arm_at n _ m other up, active, on);
    dials = λ l d said e s. e;
    states = λ l d said e s. s;
    streams = λ l d said e s. same_stream (r.stream_of (StreamName.Link l) d.vb);
    roles = λ l d said e s p. p;
  }

  starts_other : (n : ℕ) (r : Chronicle) (said : Answer) → Other n u r (after_starts r n said)
  starts_other n r (answer.No cause.Stopped) = beside n r _ (crash_less r n (r.arm_at n).out)
  starts_other n r other = other_same n r

  openings_other : (before : Fuse) (r : Chronicle) (n : ℕ) (lines : List Event) (said : Answer) → BranchesOf n lines → Other n u r (after_openings before r n lines said)
  openings_other before r n lines said of = other_if n (is_off (r.arm_at n).fuse && not (is_off before)) r (record r { arm_at = with_id r.arm_at n known_down }) _
      (beside n r _ (arm_less r n known_down (λ e. let z : true ≡ false = e in cc)))
      (other_if n _ r r (after_starts (after_restarts (after_up n r) lines) n said) (other_same n r)
      (other_on n r (after_restarts (after_up n r) lines) _ (other_on n r (after_up n r) _ (up_other n r) (restarts_other (after_up n r) n lines of)) (starts_other n (after_restarts (after_up n r) lines) said)))

  start_other : (r : Chronicle) (n : ℕ) (lines : List Event) (said : Answer) → BranchesOf n lines → Other n u r (after_start r n lines said)
  start_other r n lines (answer.No cause.UnknownNode) of = other_same n r
  start_other r n lines (answer.No cause.NodeUp) of = other_same n r
  start_other r n lines (answer.No cause.UuidZero) of = other_same n r
  start_other r n lines (answer.No cause.UuidUsed) of = other_same n r
  start_other r n lines said of = other_on n r (after_calls (disks_of r n) n r) _ (beside n r _ (calls_less (disks_of r n) n r)) (openings_other (r.arm_at n).fuse (after_calls (disks_of r n) n r) n lines said of)

  -- ---- lines of a script

  -- of a node that starts no vBucket is active on the branch
  abbrev pub StartsApart : Verb → List Event → Chronicle → Type 0
  StartsApart (verb.AtNode n (node_verb.Start uuids)) lines r = BranchesOf n lines × ((v : ℕ) → (r.arm_at n).down ≡ false → r.role_at n v ≡ Some (Some Role.Active) → r.branch_at n v ≡ Some u → ⊥)
  StartsApart other lines r = Unit {0}

  pub ahead_less : (r : Chronicle) (line : Verb) (said : Answer) → Less u r (ahead r line said)
  ahead_less r (verb.AtVb n v (vb_verb.Chain others)) answer.Ok = quiet u r _ refl refl refl refl refl refl refl
  ahead_less r (verb.AtVb n v (vb_verb.Chain others)) other = less_same r
  ahead_less r (verb.AtVb n v vb_verb.Done) (answer.Number saved) = quiet u r _ refl refl refl refl refl refl refl
  ahead_less r (verb.AtVb n v vb_verb.Done) other = less_same r
  ahead_less r (verb.AtVb n v vb_verb.Tick) said = quiet u r _ refl refl refl refl refl refl refl
  ahead_less r (verb.AtClient n c (client_verb.Bytes bytes)) answer.Ok = quiet u r _ refl refl refl refl refl refl refl
  ahead_less r (verb.AtClient n c (client_verb.Bytes bytes)) other = less_same r
  ahead_less r (verb.AtNode n (node_verb.Crash out)) answer.Ok = quiet u r _ refl refl refl refl refl refl refl
  ahead_less r (verb.AtNode n (node_verb.Crash out)) other = less_same r
  ahead_less r other said = less_same r

  pub verb_less : (before r : Chronicle) (line : Verb) (lines : List Event) (said : Answer) → StartsApart line lines (after_verb before r line lines said) → Less u r (after_verb before r line lines said)
  verb_less before r (verb.AtVb n v (vb_verb.MakeActive uuid)) lines said s = made_less r n v Role.Active said
  verb_less before r (verb.AtVb n v vb_verb.MakeReplica) lines said s = made_less r n v Role.Replica said
  verb_less before r (verb.Link l m n v buffer takeover) lines said s = dial_less r l m n v said
  verb_less before r (verb.AtLink l (link_verb.Down wanted)) lines said s = moved_less r (heir_in lines) (rollback_of before (before.dial_of l) (before.point_of l)) lines said
  verb_less before r (verb.AtVb n v (vb_verb.Promote uuid)) lines said s = append_less r n v (appending (state_of r n v Role.Active)) said
  verb_less before r (verb.AtVb n v vb_verb.Follow) lines said s = append_less r n v (appending (state_of r n v Role.Replica)) said
  verb_less before r (verb.AtVb n v vb_verb.Dead) lines said s = append_less r n v (appending (state_of r n v Role.Dead)) said
  verb_less before r (verb.AtVb n v vb_verb.Seal) lines (answer.Number sealed) s = quiet u r _ refl refl refl refl refl refl refl
  verb_less before r (verb.AtVb n v vb_verb.Seal) lines other s = less_same r
  verb_less before r (verb.AtVb n v vb_verb.Save) lines said s = append_less r n v (saving (r.disk_at n v)) said
  verb_less before r (verb.AtNode n (node_verb.Clock nanos)) lines answer.Ok s = quiet u r _ refl refl refl refl refl refl refl
  verb_less before r (verb.AtNode n (node_verb.Clock nanos)) lines other s = less_same r
  verb_less before r (verb.AtNode n (node_verb.Stop call out)) lines said s = armed_less r n (known_stop call out) said
  verb_less before r (verb.AtNode n (node_verb.Fail call)) lines said s = armed_less r n (known_fail call) said
  verb_less before r (verb.AtNode n (node_verb.Crash out)) lines answer.Ok s = crash_less r n out
  verb_less before r (verb.AtNode n (node_verb.Crash out)) lines other s = less_same r
  verb_less before r (verb.AtNode n (node_verb.Start uuids)) lines said s = with_fresh n r _ (start_other r n lines said s.0) s.1
  verb_less before r (verb.AtClient n c client_verb.Open) lines answer.Ok s = quiet u r _ refl refl refl refl refl refl refl
  verb_less before r (verb.AtClient n c client_verb.Open) lines other s = less_same r
  verb_less before r (verb.AtClient n c client_verb.Hang) lines answer.Ok s = quiet u r _ refl refl refl refl refl refl refl
  verb_less before r (verb.AtClient n c client_verb.Hang) lines other s = less_same r
  verb_less before r other lines said s = less_same r
