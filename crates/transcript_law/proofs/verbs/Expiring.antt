-- the prepares whose time is up are given up: the lines of that are lawful, and after them all agrees
use Rattle.transcript_law.specs.Lawfulness.{IsGivenUp, IsHeldIfCommitted, IsUp}
use Rattle.std.specs.Prelude.{◌≡◌, ◌<◌, ◌≤◌, ◌∷◌, ◌++◌, ◌^◌, if◌then◌else◌}
use Rattle.transcript_law.proofs.Words.{ℕ, true, false, List, [], fold, refl, ap, sym, ◌∙◌, subst, arith, inl, inr, append_assoc, eq-eqb, Some, Change, Event, Member, Cluster, Move, happens, Pend, Plain, is_active, newest_branch, image_of, Sound}
use Rattle.transcript_law.proofs.Words.{PlainNode, PlainWorld, with_node_at, with_states, with_vb_at, vb_in, Chronicle, after_change, after_lines, LawfulChange, LawfulFrom}
use Rattle.transcript_law.proofs.{invariant.Agreement.{Agrees, AgreesIn, active_times, ChangeFits, VbAgrees, idle, image_is, shelf_of}, invariant.Carrying.{Changed}, invariant.Lefts.{left_without}, lines.Lines.{after_more, lawful_more}}
use Rattle.transcript_law.proofs.{verbs.NodeLines.{node_changed, shelves_again, shelves_put}, invariant.Seats.{seat}, verbs.Settling.{CommitsSound, SettlesOn, changed_on, changes_quiet, changes_told, has_seq, none_settles, settles}, invariant.Waiting.{pends_fit}, verbs.Writing.{fewer_written, is_lawful, mine, newest, written}, answers.Awaited.{resolved_stood}, invariant.Owed.{fewer_some}}
use Rattle.cluster_model.specs.Clusters.{Fulfils}
use Rattle.transcript_law.proofs.verbs.Times.{fewer_times, up_later, without_was}
use Rattle.durability.specs.{Laws.{Waits}, Outstanding.{late, without}, declared.waiting.Waiting.{Waiting}}
use Rattle.node_core.specs.Calls.{own_lines}
use Rattle.std.specs.FinMap.{get}
use Rattle.vb_calls.specs.Durable.{aborted, expired}
use Rattle.vb_calls.specs.Settling.{Resolving, also_resolved, has_seqno, is_empty, resolved_by, resolving_change, settled, unresolved}
use Rattle.vb_calls.specs.State.{quiet_reply}
use Rattle.vb_calls.specs.declared.calls.Resolution.TheVariants as resolution
use Rattle.vb_calls.specs.declared.calls.VbAnswer.{VbAnswer}
use Rattle.vb_types.specs.declared.change.Act.TheVariants.{Abort}
use Rattle.vbucket.proofs.Preparing.{AreTimed, abort_sound, ascend_late, in_late, late_timed, may_abort, timed_rest}
use Rattle.{transcript_law.proofs.verbs.Making.{resolving_is_next}, vbucket.specs.Laws.{Ascend}}

-- the lines of changes, and of others behind them
told_more : (n v uuid : ℕ) (cs ds : List Change) → changes_told n v uuid (cs ++ ds) ≡ changes_told n v uuid cs ++ changes_told n v uuid ds
told_more n v uuid [] ds = refl
told_more n v uuid (c ∷ cs) ds = ap (λ ls. Event.Changed n v uuid c ∷ ls) (told_more n v uuid cs ds)

-- they tell nothing of clocks, nor of the line that they are told by
ticks_past : (r : Chronicle) (n v uuid : ℕ) (cs : List Change) → (after_lines r (changes_told n v uuid cs)).ticks ≡ r.ticks
ticks_past r n v uuid [] = refl
ticks_past r n v uuid (c ∷ cs) = ticks_past (after_change r n v uuid c) n v uuid cs

clocks_past : (r : Chronicle) (n v uuid : ℕ) (cs : List Change) → (after_lines r (changes_told n v uuid cs)).clock_at ≡ r.clock_at
clocks_past r n v uuid [] = refl
clocks_past r n v uuid (c ∷ cs) = clocks_past (after_change r n v uuid c) n v uuid cs

-- what was made on from t
abbrev pub both : Resolving → Resolving → Resolving
both t u = record { vb = u.vb; changes = t.changes ++ u.changes; resolved = t.resolved ++ u.resolved }

-- changes of a vBucket's own from s to t, and then those that it makes once all agrees there

module _ (n v : ℕ) (s t u : Resolving) (w : PlainWorld) (r : Chronicle) (node : PlainNode) (known : w.nodes n ≡ Some node) (has : node.vbs v ≡ Some s.vb) where
  abbrev node1 : PlainNode
  node1 = with_states node (with_vb_at node.vbs v t.vb)

  abbrev w1 : PlainWorld
  w1 = with_node_at w n node1

  changed : Changed w w1 n v t.vb w.links
  changed = node_changed w n v node node1 t.vb known (λ q. refl) (λ q o. refl) refl

  shelf_is : shelf_of w1 n v ≡ shelf_of w n v
  shelf_is = shelves_again w n node node1 (λ q. refl) n v ∙ shelves_put w n node known n v

  abbrev branch_is : ℕ
  branch_is = newest_branch s.vb.log

  -- what is read once the first ones were told
  abbrev read : List Change → Chronicle
  read cs = after_lines r (changes_told n v branch_is cs)

  pub settles_then : SettlesOn w r n v s t → ((r' : Chronicle) (cl : Cluster) → (r'.ticks ≡ r.ticks) × (r'.clock_at ≡ r.clock_at) → AgreesIn idle w1 r' cl → w1.nodes n ≡ Some node1 → node1.vbs v ≡ Some t.vb → SettlesOn w1 r' n v t u) → SettlesOn w r n v s u
  settles_then first next =
      let now : Agrees w1 (read first.cs) = first.agrees w1 changed shelf_is in
      let more : SettlesOn w1 (read first.cs) n v t u =
      next (read first.cs) now.0 (ticks_past r n v branch_is first.cs, clocks_past r n v branch_is first.cs) now.1 (ap (λ b. if b then Some node1 else w.nodes n) (eq-eqb n n refl)) (ap (λ b. if b then Some t.vb else node.vbs v) (eq-eqb v v refl)) in
      let same : newest_branch t.vb.log ≡ branch_is = ap newest_branch first.log in
      let a : List Event = changes_told n v branch_is first.cs in let b : List Event = changes_told n v branch_is more.cs in
      let lines : changes_told n v branch_is (first.cs ++ more.cs) ≡ a ++ b = told_more n v branch_is first.cs more.cs in
      let later : LawfulFrom (read first.cs) b = subst (λ x. LawfulFrom (read first.cs) (changes_told n v x more.cs)) same more.lawful in
      record {
        cs = first.cs ++ more.cs;
        changes = more.changes ∙ ap (λ cs. cs ++ more.cs) first.changes ∙ append_assoc s.changes first.cs more.cs;
        log = more.log ∙ first.log;
        lawful = subst (LawfulFrom r) (sym lines) (lawful_more r a b (changes_quiet n v branch_is first.cs) first.lawful later);
        agrees = λ w' changes shelf.
            subst (λ ls. Agrees w' (after_lines r ls)) (sym lines) (subst (Agrees w') (sym (after_more r a b))
            (subst (λ x. Agrees w' (after_lines (read first.cs) (changes_told n v x more.cs))) same (more.agrees w' (changed_on changed changes) (shelf ∙ sym shelf_is))));
      }

-- what is committed then is made on from t
settles_both : (w : PlainWorld) (r : Chronicle) (n v : ℕ) (t u : Resolving) → SettlesOn w r n v (unresolved t.vb) u → SettlesOn w r n v t (both t u)
settles_both w r n v t u more = record { cs = more.cs; changes = ap (λ cs. t.changes ++ cs) more.changes; log = more.log; lawful = more.lawful; agrees = more.agrees }

-- one prepare is given up

module _ (n v : ℕ) (x : Waiting) (s : Resolving) (w : PlainWorld) (r : Chronicle) (cl : Cluster) (node : PlainNode) (agrees : AgreesIn idle w r cl) (known : w.nodes n ≡ Some node) (has : node.vbs v ≡ Some s.vb)
    (active : is_active s.vb.role ≡ true) (here : Waits x s.vb.waiting) (free : has_seqno s.vb ≡ true) (given : IsGivenUp r n v x.seq) where
  abbrev member : Member
  member = cl.nodes (seat n v)

  abbrev pub given_up : Resolving
  given_up = resolved_by (Abort x.seq) resolution.Ambiguous x s

  abbrev change : Change
  change = resolving_change s.vb x (Abort x.seq)

  own : VbAgrees r n v member s.vb
  own = mine w r cl n v node s.vb agrees known has

  room : s.vb.position.at < 2 ^ 48
  room = has_seq s.vb.position.at free

  -- it waits at its key
  waits : (p : Pend) × (get (image_of member.held).pending x.key ≡ Some p) × (p.seq ≡ x.seq)
  waits = let b = own.sound.waits.backed x here in (b.0, subst (λ i. get i.pending x.key ≡ Some b.0) (image_is own.kept) b.1, b.2)

  fits : ChangeFits change
  fits = let f = pends_fit member.held x.key waits.0 own.fits waits.1 in record { seq = (let k : s.vb.position.at < 2 ^ 48 = room in omega arith); key = f.0; act = subst (λ q. q < 2 ^ 64) waits.2 f.1.0 }

  -- no commit
  named : Fulfils (image_of member.held) change
  named number doc deleted e = cc

  unheld : IsHeldIfCommitted (r.counts_at n v) (r.disk_at n v).saved (image_of member.held) change
  unheld number doc deleted e = cc

  sound : Sound given_up.vb
  sound = abort_sound x s own.sound active free here

  newest_is : newest_branch s.vb.log ≡ member.br
  newest_is = newest w r cl n v node s.vb agrees known has change s.vb.last_cas active refl room fits named (without x.seq s.vb.waiting) sound

  lawful : LawfulChange r n v member.br change
  lawful = is_lawful w r cl n v node s.vb agrees known has change s.vb.last_cas active refl room fits named (without x.seq s.vb.waiting) sound (resolving_is_next s.vb own.kept x (Abort x.seq) waits.0 waits.1 waits.2 refl refl refl refl) (λ level doc deleted e. cc) unheld
      (λ prepared e. let z : Abort x.seq ≡ Abort prepared = e in let same : x.seq ≡ prepared = cc in subst (IsGivenUp r n v) same given)

  agrees_in : (w' : PlainWorld) → Changed w w' n v given_up.vb w.links → shelf_of w' n v ≡ shelf_of w n v → AgreesIn idle w' (after_change r n v member.br change) (happens cl (Move.Own (seat n v) change))
  agrees_in w' changes shelf =
      let lefts = left_without (r.counts_at n v).risen s.vb.position.at x.seq s.vb.waiting own.sound.waits.ascend (own.lefts active) in
      written w r cl n v node s.vb agrees known has change s.vb.last_cas active refl room fits named (without x.seq s.vb.waiting) sound w' changes shelf (omega arith) lefts (λ t. fewer_times change.seq (r.clock_at n) (λ y i. without_was x.seq s.vb.waiting y i) t)
      (fewer_written w r cl n v node s.vb agrees known has change s.vb.last_cas active refl room fits named (without x.seq s.vb.waiting) sound w' changes shelf (omega arith) lefts (λ t. fewer_times change.seq (r.clock_at n) (λ y i. without_was x.seq s.vb.waiting y i) t)
      (fewer_some s.vb given_up.vb (λ y p some o. resolved_stood s x (Abort x.seq) resolution.Ambiguous own.sound.waits.ascend refl y p o)))

  pub one_aborts : SettlesOn w r n v s given_up
  one_aborts = record {
    cs = change ∷ [];
    changes = refl;
    log = refl;
    lawful = subst (λ u. LawfulFrom r (changes_told n v u (change ∷ []))) (sym newest_is) (lawful, tt);
    agrees = λ w' changes shelf. subst (λ u. Agrees w' (after_lines r (changes_told n v u (change ∷ [])))) (sym newest_is) (happens cl (Move.Own (seat n v) change), agrees_in w' changes shelf);
  }

-- the time of these is up
abbrev AreUp : ℕ → List Waiting → Type 0
AreUp clock todo = (x : Waiting) → Waits x todo → (deadline : ℕ) × (x.deadline ≡ Some deadline) × (deadline ≤ clock)

-- so one of them is to be given up, where a line asks for that
gives_up : (n v clock deadline : ℕ) (x : Waiting) (s : Resolving) (w : PlainWorld) (r : Chronicle) (cl : Cluster) (node : PlainNode) (agrees : AgreesIn idle w r cl) (known : w.nodes n ≡ Some node) (has : node.vbs v ≡ Some s.vb)
    → is_active s.vb.role ≡ true → Waits x s.vb.waiting → x.deadline ≡ Some deadline → deadline ≤ clock → clock < 2 ^ 64 → r.clock_at n ≡ clock → r.ticks ≡ Some (n, v) → IsGivenUp r n v x.seq
gives_up n v clock deadline x s w r cl node agrees known has active here is low small shows ticks =
    let k = (active_times active (mine w r cl n v node s.vb agrees known has).times).each x here deadline is in
    record { asked = ticks; before = k.0; made = k.1; up = subst (IsUp k.0) (sym shows) (up_later k.0 deadline clock low small k.2) }

-- those of a list, the first one first, which are outstanding, and for each of which a seqno is left
module _ (n v clock : ℕ) (small : clock < 2 ^ 64) where
  expires_from : (todo : List Waiting) (s : Resolving) (node : PlainNode) (w : PlainWorld) (r : Chronicle) (cl : Cluster) → r.ticks ≡ Some (n, v) → r.clock_at n ≡ clock → AreUp clock todo → AgreesIn idle w r cl → w.nodes n ≡ Some node → node.vbs v ≡ Some s.vb → is_active s.vb.role ≡ true
      → Ascend todo → AreTimed todo s.vb.waiting → SettlesOn w r n v s (fold aborted s todo)
  expires_from [] s node w r cl ticks shows due agrees known has active rises timed = none_settles w r n v s (cl, agrees) (ap (λ o. vb_in o v) known ∙ has)
  expires_from (x ∷ todo) s node w r cl ticks shows due agrees known has active rises timed =
      let k = timed x (inl refl) in let up = due x (inl refl) in
      let sound : Sound s.vb = (mine w r cl n v node s.vb agrees known has).sound in
      let free : has_seqno s.vb ≡ true = may_abort s.vb x k.1.0 sound k.0 k.1.1 in
      let next : Resolving = resolved_by (Abort x.seq) resolution.Ambiguous x s in
      subst (λ b. SettlesOn w r n v s (fold aborted (if b then next else s) todo)) (sym free)
      (settles_then n v s next (fold aborted next todo) w r node known has (one_aborts n v x s w r cl node agrees known has active k.0 free (gives_up n v clock up.0 x s w r cl node agrees known has active k.0 up.1 up.2 small shows ticks))
      (λ r' cl' same agrees' known' has'. expires_from todo next (with_states node (with_vb_at node.vbs v next.vb)) (with_node_at w n (with_states node (with_vb_at node.vbs v next.vb))) r' cl' (same.0 ∙ ticks) (ap (λ f. f n) same.1 ∙ shows) (λ y i. due y (inr i)) agrees' known' has' active rises.1
      (timed_rest x todo s.vb.waiting rises sound.waits.ascend timed)))

  -- those that are late, and then all is committed that may be
  pub expires : CommitsSound → (w : PlainWorld) (r : Chronicle) (cl : Cluster) (node : PlainNode) (vb : Plain) → r.ticks ≡ Some (n, v) → r.clock_at n ≡ clock → AgreesIn idle w r cl → w.nodes n ≡ Some node → node.vbs v ≡ Some vb → is_active vb.role ≡ true
      → SettlesOn w r n v (unresolved vb) (both (expired clock vb) (settled (expired clock vb).vb))
  expires commits w r cl node vb ticks shows agrees known has active =
      let t : Resolving = expired clock vb in let u : Resolving = settled t.vb in
      let node1 : PlainNode = with_states node (with_vb_at node.vbs v t.vb) in
      settles_then n v (unresolved vb) t (both t u) w r node known has
      (expires_from (late clock vb.waiting) (unresolved vb) node w r cl ticks shows (λ y i. (in_late clock vb.waiting y i).1) agrees known has active (ascend_late clock vb.waiting (mine w r cl n v node vb agrees known has).sound.waits.ascend) (late_timed clock vb.waiting))
      (λ r' cl' same agrees' known' has'. settles_both (with_node_at w n node1) r' n v t u (settles commits n v (with_node_at w n node1) r' cl' node1 t.vb agrees' known' has'))

-- the failover log stays
aborts_log : (todo : List Waiting) (s : Resolving) → (fold aborted s todo).vb.log ≡ s.vb.log
aborts_log [] s = refl
aborts_log (x ∷ todo) s = aborts_log todo (aborted s x)
    ∙ elim (has_seqno s.vb) as (λ b. (if b then resolved_by (Abort x.seq) resolution.Ambiguous x s else s).vb.log ≡ s.vb.log) [ true ↦ refl | false ↦ refl ]

pub expired_log : (clock : ℕ) (vb : Plain) → (expired clock vb).vb.log ≡ vb.log
expired_log clock vb = aborts_log (late clock vb.waiting) (unresolved vb)

-- what is told of it
one_branch : (n v other uuid : ℕ) (cs ds : List Change) → changes_told n v (if is_empty ds then (if is_empty cs then other else uuid) else uuid) (cs ++ ds) ≡ changes_told n v uuid (cs ++ ds)
one_branch n v other uuid [] [] = refl
one_branch n v other uuid (c ∷ cs) [] = refl
one_branch n v other uuid cs (d ∷ ds) = refl

pub expired_told : (n v : ℕ) (t u : Resolving) (uuid : ℕ) (cs : List Change) → newest_branch t.vb.log ≡ uuid → newest_branch u.vb.log ≡ uuid → (both t u).changes ≡ cs
    → own_lines n v (also_resolved (also_resolved (quiet_reply VbAnswer.Done) t).1 u).1 ≡ changes_told n v uuid cs
expired_told n v t u uuid cs on later is =
    (λ i. changes_told n v (if is_empty u.changes then (if is_empty t.changes then 0 else on i) else later i) (t.changes ++ u.changes)) ∙ one_branch n v 0 uuid t.changes u.changes ∙ ap (changes_told n v uuid) is
