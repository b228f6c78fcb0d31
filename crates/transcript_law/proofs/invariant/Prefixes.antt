-- what a script leaves: lawful lines tell failover logs whose entries stand where the lines tell that their branches were made, and each vBucket follows its branch
use Rattle.transcript_law.specs.Chronicles.{ahead, at_line}
use Rattle.std.specs.Prelude.{◌≡◌, ◌+◌, ◌<◌, ◌≤◌, ◌∷◌, if◌then◌else◌}
use Rattle.{branch_model.specs.Journals.{IsPoint, complete_points, image_at}, cluster_model.proofs.Runs.{point_shown}, vb_calls.specs.Shelves.{Shelf}, transcript_law.specs.Prefixes.{PointsAreBranch}}
use Rattle.{vbucket.specs.{Settles.{IsSettled}}}
use Rattle.disk_journals.specs.Books.{Book}
use Rattle.node_core.specs.Clients.{PlainClient}
use Rattle.transcript_law.proofs.{invariant.Agreement.{BookBy, BookAgrees, book_in, is_down}, disks.Disks.{power_in}, invariant.Entering.{Entered, ahead_entered, lines_entered, log_entered, start_entered}}
use Rattle.transcript_law.specs.{Chronicles.{after_group}, Plainness.{AreOwnIf, IsOwnIf}, Prefixes.{off_of_node}}
use Rattle.vb_types.specs.declared.journal.Record.{Record}
use Rattle.transcript_law.proofs.awaiting.Owns.{script_awaits}
use Rattle.transcript_law.specs.OwnWaits.{AwaitTheirOwnIf}
use Rattle.transcript_law.proofs.{invariant.Agreement.{AgreesAt, DiskIsIf, shelf_of, top}, links.Followed.{own_is}}
use Rattle.transcript_law.proofs.Words.{ℕ, true, List, [], refl, ap, sym, ◌∙◌, subst, ⊎_elim, arith, Option, Some, None, All-head, All-tail, ScriptLine, VerbFits, ScriptFits, LogEntry, upto}
use Rattle.transcript_law.proofs.Words.{image_of, Ancestry, Traces, IsFront, reach_of, Branch, hist, Shared, ForksBelow, Member, Cluster, above, tells, Plain, is_active}
use Rattle.transcript_law.proofs.Words.{PlainWorld, empty_world, with_branches, verb_step, world_step, groups_from, Chronicle, empty_chronicle, after_lines, known_history}
use Rattle.transcript_law.proofs.Words.{PlainNode, is_some, world_of, known_of, FollowsBranch, AreFollowed, Bool, false}
use Rattle.transcript_law.proofs.Words.{branch}
use Rattle.transcript_law.proofs.{invariant.Agreement.{vb_of, BranchAgrees, Writes, WritesIf, VbAgrees, AgreesAt, top}}
use Rattle.transcript_law.proofs.{invariant.Agreement.{idle, AgreesIn, Agrees}, invariant.AtRest.{AreAtRest, line_rests, start_rests}, invariant.Ranged.{IsRanged, NodeRangedIf, start_ranged}, lines.SessionLines.{IsKept}, Runs.{Along, along, along_lawful, along_start, row_of}, verbs.Rows.{Row}, invariant.Seats.{seat}, invariant.Agreement.{image_is}, verbs.Showing.{history_by, same_image}}
use Rattle.transcript_law.proofs.{invariant.Tables.{if_known}, invariant.Trees.{told_below}, verbs.Writing.{forks_below}}
use Rattle.{branch_model.specs.Snapshots.{Follows}, cluster_model.specs.Clusters.{IsBranch}}
use Rattle.{transcript_law.specs.Lawfulness.{IsWriter}, transcript_law.specs.Prefixes.{world_after}}
use Rattle.{transcript_law.specs.Prefixes.{known_after, ComesFrom, IsActiveOn}}
use Rattle.transcript_law.specs.LawfulAnswers.{IsStill}
use Rattle.transcript_law.proofs.{disks.Disks.{saved_so}, invariant.Agreement.{active_counts}, invariant.Majorities.{most_have_it}}
use Rattle.transcript_law.proofs.indexers.{Beside.{numbered}, Closing.{begins_of}}
use Rattle.vbucket.proofs.Committing.{rests}
use Rattle.transcript_law.proofs.invariant.{Begun.{ServesOpen}, ClientWorlds.{ConnsAre, start_conns}, Clients.{line_heard}}

-- a connection of a node is told as the one that it is
own_at : (n : ℕ) (o : Option PlainNode) → NodeRangedIf n o → AreOwnIf n o
own_at n None ranged = tt
own_at n (Some node) ranged = λ c. by c (node.clients c) (ranged.own c)
  where
    by : (c : ℕ) (o : Option PlainClient) → IsKept n c o → IsOwnIf n c o
    by c None there = tt
    by c (Some client) there = (there.0.node, there.0.number, there.0.desk, there.0.stream, there.1)

module _ (w : PlainWorld) (r : Chronicle) (c : Cluster) (a : AgreesIn idle w r c) (entered : Entered r) where
  -- the lines' tree has the histories of the cluster's
  traces_told : (log : List LogEntry) (u n : ℕ) → Traces (Shared c.tree) log u n → Traces (Shared r.tree) log u n
  traces_told [] u n t = tt
  traces_told (e ∷ older) u n t = (ap (λ h. upto h n) (sym (a.hists e.uuid)) ∙ t.0 ∙ ap (λ h. upto h n) (a.hists u), traces_told older e.uuid e.seq t.1)

  ancestry_told : (n v u reach : ℕ) (log : List LogEntry) → r.log_at n v ≡ Some log → Ancestry c.tree log u reach → Ancestry r.tree log u reach
  ancestry_told n v u reach log is told =
      record { short = told.short; distinct = told.distinct; falls = told.falls; at_forks = log_entered r.tree (r.log_at n v) log is (entered.logs n v); traces = traces_told log u reach told.traces }

  module _ (n v : ℕ) (vb : Plain) (there : vb_of w n v ≡ Some vb) where
    abbrev member : Member
    member = c.nodes (seat n v)

    mine : VbAgrees r n v member vb
    mine = subst (AgreesAt r n v member) there (a.vbs n v)

    active_writes : is_active vb.role ≡ true → Writes r n v member.br
    active_writes active = subst (λ b. WritesIf b r n v member.br) active mine.writes

    is_writer : is_active vb.role ≡ true → (uuid : ℕ) × IsFront vb.log uuid × IsWriter r n v uuid
    is_writer active =
        let front : IsFront vb.log member.br = subst (λ l. IsFront l member.br) mine.member.log (a.sound.leads (seat n v) (mine.member.active ∙ active)).front in
        (member.br, front, record { made_or_took = (active_writes active).writer; on_branch = (active_writes active).branch })

    follows_told : Follows (known_history r.tree (r.branch_at n v)) vb.position (above (r.held n v) vb.position.ss) (image_of (r.held n v))
    follows_told = subst (λ held. Follows (known_history r.tree (r.branch_at n v)) vb.position (above held vb.position.ss) (image_of held)) (sym mine.held)
        (subst (λ h. Follows h vb.position (above member.held vb.position.ss) (image_of member.held)) (sym (history_by w r c a member.br (r.branch_at n v) mine.branch))
        (subst (λ p. Follows (hist c.tree member.br) p (above member.held p.ss) (image_of member.held)) mine.member.position (a.sound.stands (seat n v)).follows))

    log_lines : Ancestry r.tree vb.log member.br (reach_of vb.position)
    log_lines = ancestry_told n v member.br (reach_of vb.position) vb.log mine.log (subst (λ l. Ancestry c.tree l member.br (reach_of vb.position)) mine.member.log
        (subst (λ p. Ancestry c.tree member.log member.br (reach_of p)) mine.member.position (tells top c a.sound (seat n v))))

    pub follows_branch : IsSettled vb → FollowsBranch r n v vb
    follows_branch rest = record {
      sound = mine.sound;
      at_rest = rest;
      committed = λ active room first more is held. rests vb rest first more is room (λ wants. subst (λ k. first.seq ≤ k) (sym (saved_so (r.disk_at n v) (c.disks (seat n v)) (shelf_of w n v) vb (subst (DiskIsIf (r.disk_at n v) (c.disks (seat n v)) (shelf_of w n v)) there (a.disks n v)))) (held.saved_for wants))
          (most_have_it (r.counts_at n v) vb.others vb.acks (r.disk_at n v).saved first.seq first.level (active_counts active mine.counts) held);
      role = if_known (r.role_at n v) (Some vb.role) mine.role;
      held = image_is mine.kept ∙ ap image_of (sym mine.held);
      log = if_known (r.log_at n v) vb.log mine.log;
      writer = is_writer;
      follows = follows_told;
      ancestry = elim (r.branch_at n v) as (λ o. BranchAgrees o member.br → (o ≡ None → vb.log ≡ []) → ComesFrom r.tree vb.log o (reach_of vb.position))
          [ None ↦ (λ is none. none refl) | Some u ↦ (λ is none. subst (λ k. Ancestry r.tree vb.log k (reach_of vb.position)) is log_lines) ] mine.branch mine.unlogged;
      complete = λ whole. sym (same_image w r c n v vb a mine whole);
    }

    -- an active vBucket is at or above each fork made from its branch
    forks_low : (uuid : ℕ) → is_active vb.role ≡ true → r.branch_at n v ≡ Some uuid → ForksBelow uuid (vb.position.at + 1) r.tree
    forks_low uuid active on =
        let writes = active_writes active in
        let same : member.br ≡ uuid = (let z : Some member.br ≡ Some uuid = sym writes.branch ∙ on in cc) in
        let at : member.position.at ≡ vb.position.at = ap (λ p. p.at) mine.member.position in
        subst (λ u. ForksBelow u (vb.position.at + 1) r.tree) same
        (told_below c.tree r.tree member.br (vb.position.at + 1) a.are_told
        (forks_below c (seat n v) (vb.position.at + 1) c.tree (a.sound.leads (seat n v) (mine.member.active ∙ active)).tip (omega (arith, at)) a.sound.forks))

  writer_is : (n v uuid : ℕ) (vb : Plain) → IsActiveOn r w n v uuid vb → r.writer_of uuid ≡ Some (n, v)
  writer_is n v uuid vb on =
      let writes = active_writes n v vb on.there on.active in
      let same : (c.nodes (seat n v)).br ≡ uuid = (let z : Some (c.nodes (seat n v)).br ≡ Some uuid = sym writes.branch ∙ on.on_branch in cc) in
      subst (λ u. r.writer_of u ≡ Some (n, v)) same writes.writer

  one_writer : (n v m q uuid : ℕ) (vb other : Plain) → IsActiveOn r w n v uuid vb → IsActiveOn r w m q uuid other → (n ≡ m) × (v ≡ q)
  one_writer n v m q uuid vb other first second =
      let both : ◌≡◌ {A = Option (ℕ × ℕ)} (Some (n, v)) (Some (m, q)) = sym (writer_is n v uuid vb first) ∙ writer_is m q uuid other second in
      let same : ◌≡◌ {A = ℕ × ℕ} (n, v) (m, q) = cc in (ap (λ (p : ℕ × ℕ). p.0) same, ap (λ (p : ℕ × ℕ). p.1) same)

  low_fork : (uuid at : ℕ) (branch : Branch) (tree : List Branch) → ForksBelow uuid (at + 1) tree → IsBranch branch tree → branch.parent ≡ Some uuid → branch.fork ≤ at
  low_fork uuid at branch [] below is from = absurd is
  low_fork uuid at branch (b ∷ older) below is from = ⊎_elim
      (λ same. let low : branch.fork < at + 1 = subst (λ (x : Branch). x.parent ≡ Some uuid → x.fork < at + 1) (sym same) below.0 from in omega arith)
      (λ later. low_fork uuid at branch older below.1 later from)
      is

  -- what records tell of complete points is the branch's
  book_points : (n v : ℕ) (book : List Record) → (c.disks (seat n v)).book ≡ book → PointsAreBranch r n v book
  book_points n v book same = λ p i.
      ap (λ b. image_at b p) (sym same) ∙ point_shown top c a.sound.still (seat n v) p (subst (λ b. IsPoint p (complete_points b)) (sym same) i)
      ∙ ap (λ h. image_of (upto h p)) (own_is r c n v (c.nodes (seat n v)) a.hists a.rootless (branch_by (vb_of w n v) (a.vbs n v)))
    where
      branch_by : (o : Option Plain) → AgreesAt r n v (c.nodes (seat n v)) o → BranchAgrees (r.branch_at n v) (c.nodes (seat n v)).br
      branch_by None x = x.branch
      branch_by (Some vb) x = x.branch

  -- and those on the disk of a node that is down
  disks_told : (n v : ℕ) (books : List Book) (book : List Record) → off_of_node (w.nodes n) ≡ Some books → book_in books v ≡ Some book → PointsAreBranch r n v book
  disks_told n v books book down there = book_points n v book (by (w.nodes n) refl down)
    where
      none : {o : Option PlainNode} → w.nodes n ≡ o → off_of_node o ≡ Some books → vb_of w n v ≡ None
      none {o} e d = (a.downs n v).vb_none (ap (λ x. is_down (power_in x)) e ∙ off_down o d)
        where
          off_down : (o : Option PlainNode) → off_of_node o ≡ Some books → is_down (power_in o) ≡ true
          off_down None d = cc
          off_down (Some node) d = ap is_some d

      by : (o : Option PlainNode) → w.nodes n ≡ o → off_of_node o ≡ Some books → (c.disks (seat n v)).book ≡ book
      by None e d = cc
      by (Some node) e d =
          let x = subst (λ p. BookAgrees p v (shelf_of w n v) (r.disk_at n v) (c.disks (seat n v))) (ap power_in e) (a.aways n v (none e d)).book in
          let y = subst (λ o. BookBy o v (shelf_of w n v) (r.disk_at n v) (c.disks (seat n v))) d x in
          book_is (r.disk_at n v).there (sym there ∙ y.0)
        where
          book_is : (t : Bool) → Some book ≡ (if t then Some (c.disks (seat n v)).book else None) → (c.disks (seat n v)).book ≡ book
          book_is true q = cc
          book_is false q = cc

  -- what a journal tells of complete points is the branch's
  points_told : (n v : ℕ) (shelf : Shelf) → shelf_of w n v ≡ Some shelf → PointsAreBranch r n v shelf.book
  points_told n v shelf e = book_points n v shelf.book (by (vb_of w n v) (subst (λ s. DiskIsIf (r.disk_at n v) (c.disks (seat n v)) s (vb_of w n v)) e (a.disks n v)))
    where
      by : (o : Option Plain) → DiskIsIf (r.disk_at n v) (c.disks (seat n v)) (Some shelf) o → (c.disks (seat n v)).book ≡ shelf.book
      by None x = x.1 ∙ ap (λ (s : Shelf). s.book) (sym x.2)
      by (Some vb) x = x.book

  pub are_followed : AreAtRest w → IsRanged w → AwaitTheirOwnIf r.last r w → AreFollowed r w
  are_followed rest ranged awaited = record {
    points = points_told;
    disks = disks_told;
    each = λ n v vb there. follows_branch n v vb there (rest n v vb there);
    alone = one_writer;
    forks = λ n v uuid vb branch on is from. low_fork uuid vb.position.at branch r.tree (forks_low n v vb on.there uuid on.active on.on_branch) is from;
    own = λ n. own_at n (w.nodes n) (ranged n);
    awaited = awaited;
  }

-- what is awaited behind more lines
abbrev AwaitedAfter : PlainWorld → Chronicle → List ScriptLine → Type 0
AwaitedAfter w r script = let told : Chronicle = known_after r script (groups_from w script) in AwaitTheirOwnIf told.last told (world_after w script)

-- after more lines
followed_from : (w : PlainWorld) (r : Chronicle) (script : List ScriptLine) → ScriptFits script → Along w r → AreAtRest w → Entered r → AwaitedAfter w r script
    → AreFollowed (known_after r script (groups_from w script)) (world_after w script)
unfolding world_step
followed_from w r [] fits x rest entered awaited = are_followed w r x.agrees.0 x.agrees.1 entered rest x.ranged awaited
followed_from w r (line ∷ lines) fits x rest entered awaited =
    let fit = All-head (λ (x : ScriptLine). VerbFits x.verb) line lines fits in let outcome = verb_step w line.line line.verb in let row : Row w line.verb outcome = row_of w line.line line.verb in
    let r0 : Chronicle = at_line r line.line in
    let r' : Chronicle = after_group r0 line.verb outcome.1.events outcome.1.answer in let now = along w r line fit x in
    let entries = row.entered r0 (after_lines (ahead r0 line.verb outcome.1.answer) outcome.1.events) (lines_entered (ahead r0 line.verb outcome.1.answer) outcome.1.events (ahead_entered r0 line.verb outcome.1.answer (record { disks = entered.disks; logs = entered.logs; streams = entered.streams })) (along_lawful w r line fit x)) in
    followed_from (with_branches outcome.1.events outcome.0) r' lines (All-tail (λ (x : ScriptLine). VerbFits x.verb) line lines fits) now
    (line_rests w r outcome (row.rests r x.ranged x.handed x.agrees) x.agrees rest (with_branches outcome.1.events outcome.0) r' refl now.agrees)
    (record { disks = entries.disks; logs = entries.logs; streams = entries.streams }) awaited

-- after a script
pub branches_followed : (script : List ScriptLine) → ScriptFits script → AreFollowed (known_of script) (world_of script)
branches_followed script fits = followed_from empty_world empty_chronicle script fits along_start (start_rests empty_world (λ n. refl)) start_entered (script_awaits script fits)
