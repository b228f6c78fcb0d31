-- what a vBucket commits of its own behind a call: the lines of it are lawful, and after them all agrees
use Rattle.std.specs.Prelude.{◌≡◌, ◌+◌, ◌<◌, ◌∷◌, ◌++◌, ◌&&◌, ◌^◌, if◌then◌else◌, nat_lt}
use Rattle.transcript_law.proofs.verbs.Times.{fewer_times, without_was}
use Rattle.transcript_law.proofs.Words.{ℕ, Bool, true, false, List, [], map, refl, ap, sym, ◌∙◌, subst, arith, inl, nat_tests, ⊎_elim, append-nil, append_assoc, eq-eqb, Option, Some, None, Act, Change, Event, MAX_SEQ, Member, Cluster, Move, happens, Plain, is_active, newest_branch, image_of, Sound, led}
use Rattle.transcript_law.proofs.Words.{PlainNode, PlainWorld, with_node_at, with_states, with_vb_at, vb_in, Chronicle, after_change, after_lines, LawfulChange, LawfulFrom, VbReply, branch_of_line, flat_map}
use Rattle.transcript_law.proofs.{invariant.Agreement.{ActFits, Agrees, AgreesIn, ChangeFits, DiskIsIf, VbAgrees, active_counts, all_rise, idle, image_is, shelf_of, vb_of}, invariant.Carried.{places}, invariant.Carrying.{Changed, Relinked}, invariant.Lefts.{left_without}, lines.Lines.{AreQuiet}}
use Rattle.transcript_law.proofs.{verbs.NodeLines.{agrees_same, node_changed, shelves_again, shelves_put}, invariant.Seats.{seat}, invariant.Waiting.{IsCommit, commit_of, pends_above, pends_fit}, verbs.Writing.{fewer_written, is_lawful, mine, newest, written}, answers.Awaited.{IsOutstanding, resolved_stood}, invariant.Owed.{fewer_some}}
use Rattle.cluster_model.specs.Clusters.{Fulfils}
use Rattle.durability.specs.{Chains.{has_enough, named as named_of}, Laws.{Waits}, Outstanding.{acked, without}, declared.waiting.Waiting.{Waiting}}
use Rattle.{durability.proofs.Counts.{differ_true}, transcript_law.proofs.{disks.Disks.{saved_so}, invariant.Majorities.{held_by_most}}, transcript_law.specs.{Lawfulness.{IsHeldIfCommitted}, Majorities.{IsHeldByMost}}, vb_types.specs.declared.change.Pend.{Pend}}
use Rattle.std.specs.FinMap.{get}
use Rattle.vb_calls.specs.Following.{cas_of, committed_act}
use Rattle.node_core.specs.Calls.{own_lines}
use Rattle.vb_calls.specs.Settling.{Resolving, also_resolved, branch_of, committed_by, has_seqno, is_empty, may_commit, resolved_by, resolving_change, settled, settled_from, unresolved}
use Rattle.vb_calls.specs.State.{pending_of}
use Rattle.vb_calls.specs.declared.calls.Resolution.{Resolution}
use Rattle.vb_calls.specs.declared.calls.Resolution.TheVariants as resolution
use Rattle.vb_types.specs.declared.change.Act.TheVariants.{Abort, Commit, Prepare}
use Rattle.{transcript_law.{proofs.verbs.Making.{resolving_is_next}, specs.OwnChanges.{IsNextChange}}, vbucket.proofs.{Settling.{commit_sound}, Soundness.{led_sound}}}

-- the lines of changes that a vBucket made of its own
abbrev pub changes_told : ℕ → ℕ → ℕ → List Change → List Event
changes_told n v uuid cs = map (Event.Changed n v uuid) cs

-- they say nothing of those behind them
pub changes_quiet : (n v uuid : ℕ) (cs : List Change) → AreQuiet (changes_told n v uuid cs)
changes_quiet n v uuid [] = tt
changes_quiet n v uuid (c ∷ cs) = (tt, changes_quiet n v uuid cs)

-- where there is none, no branch is told
pub none_told : (n v other uuid : ℕ) (cs : List Change) → changes_told n v (if is_empty cs then other else uuid) cs ≡ changes_told n v uuid cs
none_told n v other uuid [] = refl
none_told n v other uuid (c ∷ cs) = refl

-- a vBucket stays sound where the lowest outstanding prepare is committed, and the others are outstanding then
abbrev pub CommitsSound : Type 0
CommitsSound = (a : Act) (how : Resolution) (x : Waiting) (more : List Waiting) (s : Resolving) → Sound s.vb → is_active s.vb.role ≡ true → s.vb.position.at < 2 ^ 48 → s.vb.waiting ≡ x ∷ more
    → committed_act x.seq (pending_of s.vb x.key) ≡ Some a → Sound (resolved_by a how x s).vb × ((resolved_by a how x s).vb.waiting ≡ more)

-- and where it becomes active on a new branch
pub record Steady : Type 0 where
  pub leads : (vb : Plain) (uuid : ℕ) → Sound vb → Sound (led vb uuid)
  pub commits : CommitsSound

pub steady : Steady
steady = record { leads = led_sound; commits = commit_sound }

pub has_seq : (at : ℕ) → nat_lt at MAX_SEQ ≡ true → at < 2 ^ 48
has_seq at e = grind (arith, nat_tests)

first : (a b : Bool) → (a && b) ≡ true → a ≡ true
first true b e = refl
first false b e = cc

second : (a b : Bool) → (a && b) ≡ true → b ≡ true
second true b e = e
second false b e = cc

-- a vBucket that changed once more
pub changed_on : {w w1 w' : PlainWorld} {n v : ℕ} {x y : Plain} → Changed w w1 n v x w.links → Changed w w' n v y w.links → Changed w1 w' n v y w1.links
changed_on a b = record {
  powers = λ m. b.powers m ∙ sym (a.powers m);
  here = b.here;
  there = λ m q o. b.there m q o ∙ sym (a.there m q o);
  shelves = λ m q o. b.shelves m q o ∙ sym (a.shelves m q o);
  uuids = b.uuids ∙ sym a.uuids;
  linked = b.linked ∙ sym a.linked;
}

-- one that is as it was
changed_same : {w w' : PlainWorld} {n v : ℕ} {x : Plain} → vb_of w n v ≡ Some x → Changed w w' n v x w.links → shelf_of w' n v ≡ shelf_of w n v → Relinked w w' w.links
changed_same {w = w} {w' = w'} {n = n} {v = v} known b shelf = record {
  powers = b.powers;
  vbs = λ m q. ⊎_elim
      (λ s. ap (λ k. vb_of w' k q) s.0 ∙ ap (vb_of w' n) s.1 ∙ b.here ∙ sym (ap (λ k. vb_of w k q) s.0 ∙ ap (vb_of w n) s.1 ∙ known))
      (λ o. b.there m q o) (places n v m q);
  shelves = λ m q. ⊎_elim
      (λ s. ap (λ k. shelf_of w' k q) s.0 ∙ ap (shelf_of w' n) s.1 ∙ shelf ∙ sym (ap (λ k. shelf_of w k q) s.0 ∙ ap (shelf_of w n) s.1))
      (λ o. b.shelves m q o) (places n v m q);
  uuids = b.uuids;
  linked = b.linked;
}

-- what was committed from s to t, on the vBucket's branch: the lines of it are lawful, and after them all agrees in each world in which the vBucket alone is another one, as it is then
pub record SettlesOn (w : PlainWorld) (r : Chronicle) (n v : ℕ) (s t : Resolving) : Type 0 where
  pub cs : List Change
  pub changes : t.changes ≡ s.changes ++ cs
  pub log : t.vb.log ≡ s.vb.log
  pub lawful : LawfulFrom r (changes_told n v (newest_branch s.vb.log) cs)
  pub agrees : (w' : PlainWorld) → Changed w w' n v t.vb w.links → shelf_of w' n v ≡ shelf_of w n v → Agrees w' (after_lines r (changes_told n v (newest_branch s.vb.log) cs))

pub none_settles : (w : PlainWorld) (r : Chronicle) (n v : ℕ) (s : Resolving) → Agrees w r → vb_of w n v ≡ Some s.vb → SettlesOn w r n v s s
none_settles w r n v s a known = record {
  cs = [];
  changes = sym (append-nil s.changes);
  log = refl;
  lawful = tt;
  agrees = λ w' b shelf. agrees_same w w' r a (changed_same known b shelf);
}

-- the outcome of a commit
abbrev pub outcome : Act → Resolving → Resolution
outcome a s = resolution.Committed (newest_branch s.vb.log) (s.vb.position.at + 1) (cas_of a)

-- one more is committed, and then what comes next

module _ (commits : CommitsSound) (n v : ℕ) (x : Waiting) (more : List Waiting) (s : Resolving) (w : PlainWorld) (r : Chronicle) (cl : Cluster) (node : PlainNode) (agrees : AgreesIn idle w r cl) (known : w.nodes n ≡ Some node) (has : node.vbs v ≡ Some s.vb)
    (active : is_active s.vb.role ≡ true) (is : s.vb.waiting ≡ x ∷ more) (a : Act) (commit : committed_act x.seq (pending_of s.vb x.key) ≡ Some a) (room : s.vb.position.at < 2 ^ 48)
    (enough : has_enough (acked s.vb.acks) s.vb.others s.vb.saved x ≡ true) where
  abbrev member : Member
  member = cl.nodes (seat n v)

  abbrev one : Resolving
  one = resolved_by a (outcome a s) x s

  abbrev change : Change
  change = resolving_change s.vb x a

  own : VbAgrees r n v member s.vb
  own = mine w r cl n v node s.vb agrees known has

  of : IsCommit x.seq (pending_of s.vb x.key) a
  of = commit_of x.seq (pending_of s.vb x.key) a commit

  waits : get (image_of member.held).pending x.key ≡ Some of.pend
  waits = subst (λ i. get i.pending x.key ≡ Some of.pend) (image_is own.kept) of.is

  fits : ChangeFits change
  fits =
      let f = pends_fit member.held x.key of.pend own.fits waits in
      record { seq = omega arith; key = f.0; act = subst ActFits ((λ i. Commit (of.named i) of.pend.doc of.pend.deleted) ∙ of.commits) f.1 }

  named : Fulfils (image_of member.held) change
  named number doc deleted e =
      let same : Commit x.seq of.pend.doc of.pend.deleted ≡ Commit number doc deleted = of.commits ∙ e in
      (of.pend, waits, of.named ∙ cc, cc, cc)

  -- it commits the prepare that waits at its key
  next_one : IsNextChange member.held change
  next_one = subst (λ b. IsNextChange member.held (resolving_change s.vb x b)) of.commits (resolving_is_next s.vb own.kept x (Commit x.seq of.pend.doc of.pend.deleted) of.pend waits of.named refl refl refl refl)

  -- the vBucket has saved what the lines tell
  saved_is : s.vb.saved ≡ (r.disk_at n v).saved
  saved_is = saved_so (r.disk_at n v) (cl.disks (seat n v)) (shelf_of w n v) s.vb (subst (DiskIsIf (r.disk_at n v) (cl.disks (seat n v)) (shelf_of w n v)) (ap (λ o. vb_in o v) known ∙ has) (agrees.disks n v))

  -- the prepare that waits is the outstanding one, so a majority holds it
  held : IsHeldByMost (r.counts_at n v) (r.disk_at n v).saved of.pend.seq of.pend.level
  held =
      let backed = own.sound.waits.backed x (subst (Waits x) (sym is) (inl refl)) in
      let same : of.pend ≡ backed.0 = (let z : Some of.pend ≡ Some backed.0 = sym of.is ∙ backed.1 in cc) in
      let low : 0 < of.pend.seq = pends_above 0 s.vb.position.at member.held x.key of.pend (all_rise own.kept) waits in
      let named : of.pend.seq ≡ x.seq = of.named in
      let level : x.level ≡ of.pend.level = sym (ap (λ (p : Pend). p.level) same ∙ backed.3) in
      subst (λ q. IsHeldByMost (r.counts_at n v) (r.disk_at n v).saved q of.pend.level) (sym named) (subst (IsHeldByMost (r.counts_at n v) (r.disk_at n v).saved x.seq) level
      (subst (λ k. IsHeldByMost (r.counts_at n v) k x.seq x.level) saved_is
      (held_by_most (r.counts_at n v) s.vb.others s.vb.acks s.vb.saved x (active_counts active own.counts) (differ_true (named_of s.vb.others) own.sound.links.apart) (omega arith) enough)))

  -- that is what the change commits
  backed : IsHeldIfCommitted (r.counts_at n v) (r.disk_at n v).saved (image_of member.held) change
  backed number doc deleted e p there =
      let same : of.pend ≡ p = (let z : Some of.pend ≡ Some p = sym waits ∙ there in cc) in
      subst (λ (q : Pend). IsHeldByMost (r.counts_at n v) (r.disk_at n v).saved q.seq q.level) same held

  sound : Sound one.vb × (one.vb.waiting ≡ more)
  sound = commits a (outcome a s) x more s own.sound active room is commit

  abbrev node1 : PlainNode
  node1 = with_states node (with_vb_at node.vbs v one.vb)

  abbrev w1 : PlainWorld
  w1 = with_node_at w n node1

  abbrev r1 : Chronicle
  r1 = after_change r n v member.br change

  changed : Changed w w1 n v one.vb w.links
  changed = node_changed w n v node node1 one.vb known (λ q. refl) (λ q o. refl) refl

  shelf_is : shelf_of w1 n v ≡ shelf_of w n v
  shelf_is = shelves_again w n node node1 (λ q. refl) n v ∙ shelves_put w n node known n v

  -- each other prepare was outstanding before
  stood : (y : Waiting) (p : Pend) → IsOutstanding one.vb y p → IsOutstanding s.vb y p
  stood = subst (λ b. (y : Waiting) (p : Pend) → IsOutstanding (resolved_by b (outcome a s) x s).vb y p → IsOutstanding s.vb y p) of.commits (resolved_stood s x (Commit x.seq of.pend.doc of.pend.deleted) (outcome a s) own.sound.waits.ascend refl)

  agrees1 : AgreesIn idle w1 r1 (happens cl (Move.Own (seat n v) change))
  agrees1 =
      let lefts = left_without (r.counts_at n v).risen s.vb.position.at x.seq s.vb.waiting own.sound.waits.ascend (own.lefts active) in
      written w r cl n v node s.vb agrees known has change s.vb.last_cas active refl room fits named (without x.seq s.vb.waiting) sound.0 w1 changed shelf_is (omega arith) lefts (λ t. fewer_times change.seq (r.clock_at n) (λ y i. without_was x.seq s.vb.waiting y i) t)
      (fewer_written w r cl n v node s.vb agrees known has change s.vb.last_cas active refl room fits named (without x.seq s.vb.waiting) sound.0 w1 changed shelf_is (omega arith) lefts (λ t. fewer_times change.seq (r.clock_at n) (λ y i. without_was x.seq s.vb.waiting y i) t) (fewer_some s.vb one.vb (λ y p some o. stood y p o)))

  lawful1 : LawfulChange r n v member.br change
  lawful1 = is_lawful w r cl n v node s.vb agrees known has change s.vb.last_cas active refl room fits named (without x.seq s.vb.waiting) sound.0 next_one (λ level doc deleted e. let z : Commit x.seq of.pend.doc of.pend.deleted ≡ Prepare level doc deleted = of.commits ∙ e in cc) backed (λ prepared e. let z : Commit x.seq of.pend.doc of.pend.deleted ≡ Abort prepared = of.commits ∙ e in cc)

  newest_is : newest_branch s.vb.log ≡ member.br
  newest_is = newest w r cl n v node s.vb agrees known has change s.vb.last_cas active refl room fits named (without x.seq s.vb.waiting) sound.0

  -- in terms of the branch that is told
  abbrev Then : ℕ → List Change → Type 0
  Then u cs = LawfulFrom r (changes_told n v u (change ∷ cs)) × ((w' : PlainWorld) → Changed w w' n v (settled_from more one).vb w.links → shelf_of w' n v ≡ shelf_of w n v → Agrees w' (after_lines r (changes_told n v u (change ∷ cs))))

  one_more : ((node' : PlainNode) (w' : PlainWorld) (r' : Chronicle) (cl' : Cluster) → AgreesIn idle w' r' cl' → w'.nodes n ≡ Some node' → node'.vbs v ≡ Some one.vb → SettlesOn w' r' n v one (settled_from more one)) → SettlesOn w r n v s (settled_from more one)
  one_more next =
      let rest = next node1 w1 r1 (happens cl (Move.Own (seat n v) change)) agrees1
      (ap (λ b. if b then Some node1 else w.nodes n) (eq-eqb n n refl)) (ap (λ b. if b then Some one.vb else node.vbs v) (eq-eqb v v refl)) in
      let there : Then member.br rest.cs = (
        (lawful1, subst (λ u. LawfulFrom r1 (changes_told n v u rest.cs)) newest_is rest.lawful),
        λ w' b shelf. subst (λ u. Agrees w' (after_lines r1 (changes_told n v u rest.cs))) newest_is (rest.agrees w' (changed_on changed b) (shelf ∙ sym shelf_is)),
      ) in
      let told : Then (newest_branch s.vb.log) rest.cs = subst (λ u. Then u rest.cs) (sym newest_is) there in
      record {
        cs = change ∷ rest.cs;
        changes = rest.changes ∙ append_assoc s.changes (change ∷ []) rest.cs;
        log = rest.log;
        lawful = told.0;
        agrees = told.1;
      }

module _ (commits : CommitsSound) (n v : ℕ) where
  settles_from : (ws : List Waiting) (s : Resolving) (node : PlainNode) (w : PlainWorld) (r : Chronicle) (cl : Cluster) → AgreesIn idle w r cl → w.nodes n ≡ Some node → node.vbs v ≡ Some s.vb → is_active s.vb.role ≡ true → s.vb.waiting ≡ ws
      → SettlesOn w r n v s (settled_from ws s)
  settles_from [] s node w r cl agrees known has active is = none_settles w r n v s (cl, agrees) (ap (λ o. vb_in o v) known ∙ has)
  settles_from (x ∷ more) s node w r cl agrees known has active is =
      by (may_commit s.vb x) (committed_act x.seq (pending_of s.vb x.key)) refl refl (λ a left node' w' r' cl' agrees' known' has'. settles_from more (resolved_by a (outcome a s) x s) node' w' r' cl' agrees' known' has' active left)
    where
      Rest : Act → Type 0
      Rest a = (resolved_by a (outcome a s) x s).vb.waiting ≡ more → (node' : PlainNode) (w' : PlainWorld) (r' : Chronicle) (cl' : Cluster) → AgreesIn idle w' r' cl' → w'.nodes n ≡ Some node' → node'.vbs v ≡ Some (resolved_by a (outcome a s) x s).vb
          → SettlesOn w' r' n v (resolved_by a (outcome a s) x s) (settled_from more (resolved_by a (outcome a s) x s))

      none : SettlesOn w r n v s s
      none = none_settles w r n v s (cl, agrees) (ap (λ o. vb_in o v) known ∙ has)

      by : (b : Bool) (o : Option Act) → may_commit s.vb x ≡ b → committed_act x.seq (pending_of s.vb x.key) ≡ o → ((a : Act) → Rest a) → SettlesOn w r n v s (if b then committed_by o x (settled_from more) s else s)
      by false o t e rest = none
      by true None t e rest = none
      by true (Some a) t e rest =
          let room = has_seq s.vb.position.at (second (has_enough (acked s.vb.acks) s.vb.others s.vb.saved x) (has_seqno s.vb) t) in
          let enough = first (has_enough (acked s.vb.acks) s.vb.others s.vb.saved x) (has_seqno s.vb) t in
          one_more commits n v x more s w r cl node agrees known has active is a e room enough (rest a (sound commits n v x more s w r cl node agrees known has active is a e room enough).1)

  -- all is committed that may be
  pub settles : (w : PlainWorld) (r : Chronicle) (cl : Cluster) (node : PlainNode) (vb : Plain) → AgreesIn idle w r cl → w.nodes n ≡ Some node → node.vbs v ≡ Some vb → SettlesOn w r n v (unresolved vb) (settled vb)
  settles w r cl node vb agrees known has = by (is_active vb.role) refl
    where
      by : (b : Bool) → is_active vb.role ≡ b → SettlesOn w r n v (unresolved vb) (if b then settled_from vb.waiting (unresolved vb) else unresolved vb)
      by true e = settles_from vb.waiting (unresolved vb) node w r cl agrees known has e refl
      by false e = none_settles w r n v (unresolved vb) (cl, agrees) (ap (λ o. vb_in o v) known ∙ has)

-- what is told of a reply that was settled, which had no change of its own
pub settled_told : (n v : ℕ) (reply : VbReply) (vb : Plain) (uuid : ℕ) (cs : List Change) → reply.changes ≡ [] → (settled vb).changes ≡ cs → newest_branch (settled vb).vb.log ≡ uuid → own_lines n v (also_resolved reply (settled vb)).1 ≡ changes_told n v uuid cs
settled_told n v reply vb uuid cs none is on =
    (λ i. map (Event.Changed n v (branch_of reply (settled vb))) (none i ++ (settled vb).changes))
    ∙ none_told n v reply.branch (newest_branch (settled vb).vb.log) (settled vb).changes
    ∙ (λ i. changes_told n v (on i) (is i))

-- lines of changes tell of no branch
pub none_branched : (n v uuid : ℕ) (cs : List Change) → flat_map branch_of_line (changes_told n v uuid cs) ≡ []
none_branched n v uuid [] = refl
none_branched n v uuid (c ∷ cs) = none_branched n v uuid cs
