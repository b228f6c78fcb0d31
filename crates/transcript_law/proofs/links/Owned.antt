-- a vBucket that took its branch over commits what it may and writes down that it is active: what a line `down` comes to then
use Rattle.std.specs.Prelude.{◌≡◌, ◌∷◌, ◌++◌, ◌||◌, if◌then◌else◌}
use Rattle.transcript_law.proofs.Words.{ℕ, Bool, true, false, List, [], list_any, list_any-append, refl, ap, sym, ◌∙◌, subst, arith, inl, inr, ⊎_elim, All, append_assoc, eq-eqb, is_some, option_map, Option, Some, None, Answer, Change, DialResult, Event, PlainLink, PlainNode, PlainWorld, Readable, Role, Status, STATE_CHANGED}
use Rattle.transcript_law.proofs.Words.{Chronicle, Cluster, Dial, Granted, LawfulFrom, Member, Move, Plain, StreamName, after_job, after_lines, after_role, ending_reply, frame_taken, happens, link_number, newest_branch, row_at, row_out, row_put, unlinked, with_links}
use Rattle.transcript_law.proofs.invariant.Agreement.{AckedIs, Agrees, AgreesAt, AgreesIn, DiskIsIf, Handing, LinkAgrees, Power, PowerIs, PowerIsIf, consumer_seat, end_frames, idle, is_down, power_of, shelf_of, state_frames, stated_in, VbAgrees}
use Rattle.transcript_law.proofs.invariant.{Carried.{told_of_same}, Carrying.{BecameOver}, JobSteps.{put_found}, LinkRows.{found_is_link, put_is_found, put_out, put_twice}, OneLink.{carries_over, mine as link_mine}}
use Rattle.transcript_law.proofs.disks.{Appending.{Noted, state_came}, ArmedLines.{ArmedCame}, Burning.{BreaksUnder, StandsUnder, breaks_under, quiet_same, stands_under}, Disks.{saved_so}}
use Rattle.transcript_law.proofs.lines.Lines.{AreQuiet, after_more, lawful_more, quiet_more}
use Rattle.transcript_law.proofs.links.{Cutting.{IsClosable, closable, unlinking}, Downing.{Asker, FiredIn, Line, Phase, Reached, broken_answer, busy_at, found_now, lifted_at, link_now, next_downs, now, put_vb, same_powers, same_shelves, shelf_now, so_far, there, vb_others, vb_put}, Lifted.{lifted_noted, power_left, power_there}, Onward.{AreOnward, Kept, onward_all, onward_none, unarmed}, OwnDues.{owed_before}, Streaming.{Course, StateNext}, Takes.{OwnsIn, pended, took_of}, Unread.{heard_down, readable_down, reread_downs, unread_downs}}
use Rattle.transcript_law.proofs.links.Owning as owning
use Rattle.transcript_law.proofs.links.Streaming as at_course
use Rattle.transcript_law.proofs.links.Taking as took
use Rattle.transcript_law.proofs.verbs.{RoleLines.{other_world, power_arm, unlinked_power}, Settling.{SettlesOn, changes_quiet, changes_told, settled_told, settles, steady}}
use Rattle.transcript_law.proofs.{Words.{All-head, All-tail}, invariant.Settled.{settled_commits}, links.{Downing.{EndsSo}, Onward.{onward_beside}}, verbs.{Tellings.{are_more, same_place}, Untaken.{is_beside}}}
use Rattle.transcript_law.specs.{Plainness.{Commits}, Takeovers.{is_commit, is_own_commit}, Tellings.{are_all}}
use Rattle.std.specs.Prelude.{◌&&◌}
use Rattle.transcript_law.specs.Chronicles.{DiskKnown, after_noted, heir_in, is_rollback}
use Rattle.transcript_law.specs.Undone.{AllAcknowledged, IsDue, is_taking, newest}
use Rattle.dcp_consumer.specs.Machine.{over_why}
use Rattle.disk_journals.specs.Arms.{under}
use Rattle.node_core.specs.{Admin.{noted_answer}, Calls.{own_lines}, Dials.{heir_told, noted_for, state_met}}
use Rattle.node_world.specs.{Arms.{fired_by}, Nodes.{with_kept}, Worlds.{arm_in, is_up}, declared.{arm.Arm.{Arm}, arm.Fired.{Fired}}}
use Rattle.node_world.specs.declared.arm.Fired.TheVariants as fired
use Rattle.takeover.specs.declared.{take_over.TakeOver.{TakeOver}, take_over.TakeStep.TheVariants.{Pend}}
use Rattle.vb_calls.specs.{Flushes.{wrote_of}, Roles.{own_refusal, risen}, Settling.{settled, unresolved}, Shelves.{Append, DiskFailed, Fate, Shelf, Stood, WasClosed, after_fate, fate_of, shelf_step, with_shelf_at}}
use Rattle.vb_calls.specs.declared.calls.VbAnswer.TheVariants as reply
use Rattle.vb_disk.specs.declared.fuse.Fuse.{Fuse}
use Rattle.vb_disk.specs.declared.fuse.Fuse.TheVariants.{Off}
use Rattle.vb_events.specs.declared.event.Answer.TheVariants as answer
use Rattle.vb_events.specs.declared.event.Cause.TheVariants as cause
use Rattle.vb_events.specs.declared.event.EndReason.TheVariants.{Disk}
use Rattle.vb_journal.specs.UnderArms.{all_pass, burnt_noting}
use Rattle.vb_types.specs.declared.journal.Record.{Record}

-- ---- its lines

-- behind lines that are told before a vBucket takes its branch over, that is the first one that does
heir_onward : (lines : List Event) (n v : ℕ) (more : List Event) → AreOnward lines → heir_in (lines ++ Event.Role n v Role.Active ∷ more) ≡ Some (n, v)
heir_onward [] n v more x = refl
heir_onward (Event.Adopted m q log ∷ lines) n v more x = heir_onward lines n v more x.1
heir_onward (Event.Ranged m q ss se ∷ lines) n v more x = heir_onward lines n v more x.1
heir_onward (Event.Got m q stream change ∷ lines) n v more x = heir_onward lines n v more x.1
heir_onward (Event.Acknowledged stream m q seq saved ∷ lines) n v more x = heir_onward lines n v more x.1
heir_onward (Event.Role m q Role.Pending ∷ lines) n v more x = heir_onward lines n v more x.1
heir_onward (other ∷ lines) n v more x = absurd x.0

-- changes that a vBucket makes of its own are no rollback, and leave the dials
changes_none : (n v u : ℕ) (cs : List Change) → list_any is_rollback (changes_told n v u cs) ≡ false
changes_none n v u [] = refl
changes_none n v u (c ∷ cs) = changes_none n v u cs

changes_dials : (r : Chronicle) (n v u : ℕ) (cs : List Change) → (after_lines r (changes_told n v u cs)).dial_of ≡ r.dial_of
changes_dials r n v u [] = refl
changes_dials r n v u (c ∷ cs) = changes_dials (after_lines r (Event.Changed n v u c ∷ [])) n v u cs

changes_streams : (r : Chronicle) (n v u : ℕ) (cs : List Change) → (after_lines r (changes_told n v u cs)).stream_of ≡ r.stream_of
changes_streams r n v u [] = refl
changes_streams r n v u (c ∷ cs) = changes_streams (after_lines r (Event.Changed n v u c ∷ [])) n v u cs

changes_untaken : (n v u : ℕ) (cs : List Change) → list_any is_taking (changes_told n v u cs) ≡ false
changes_untaken n v u [] = refl
changes_untaken n v u (c ∷ cs) = changes_untaken n v u cs

first_of : (b : Bool) → (b || false) ≡ true → b ≡ true
first_of true e = refl
first_of false e = cc

own_beside : (n v u : ℕ) (cs : List Change) → are_all is_beside (changes_told n v u cs) ≡ true
own_beside n v u [] = refl
own_beside n v u (c ∷ cs) = own_beside n v u cs

-- each is one that it commits
own_commits : (n v u : ℕ) (cs : List Change) → All Commits cs → are_all (is_own_commit n v) (changes_told n v u cs) ≡ true
own_commits n v u [] all = refl
own_commits n v u (c ∷ cs) all =
    let x = All-head Commits c cs all in let is_one : is_commit c.act ≡ true = ap is_commit x.3 in
    λ i. (is_one i && same_place n v i) && own_commits n v u cs (All-tail Commits c cs all) i

-- ---- nodes

none_off : {A : Type 0} (o : Option A) → is_some o ≡ false → o ≡ None
none_off None e = refl
none_off (Some x) e = cc

module _ (line : Line) (course : Course line) (is : course.streaming.serving.handing ≡ Handing.Stated) (all : course.streaming.seen ≡ at_course.last line course) (none : (at_course.kn line course).coming ≡ Some []) (empty : course.streaming.feed.flight ≡ [])
    (e : state_frames course.at.asked line.link.consumer.dialed.vb Handing.Stated ++ end_frames course.at.asked line.link.consumer.dialed.vb STATE_CHANGED course.streaming.granted_is.over ≡ course.f ∷ (at_course.more line course ++ course.streaming.unput))
    (free : own_refusal (at_course.mine line course).follower ≡ None) where
  open line use {w, r, link, node, left as unread}
  open line.link.consumer.dialed use {node as n, vb as v, link as l}
  open course use {before.{stays, noticed, f, rest, states, at, events, met, going, at.{asked as o}, going.{cluster as c}}}

  abbrev told : Chronicle
  told = after_lines r events

  abbrev mine : LinkAgrees (now line states at) told c (link_now line at) [] (f ∷ rest)
  mine = at_course.mine line course

  abbrev s : DialResult
  s = so_far line at None events

  abbrev fuse : Fuse
  fuse = node.arm.fuse

  abbrev owned_at : Asker
  owned_at = owning.owned_at line course

  abbrev vb1 : Plain
  vb1 = risen mine.follower

  abbrev states1 : Kept
  states1 = put_vb states v vb1

  abbrev tell : Event
  tell = Event.Role n v Role.Active

  abbrev told1 : Chronicle
  told1 = after_role told n v Role.Active

  abbrev c1 : Cluster
  c1 = owning.risen_cluster line course is all none empty e free

  -- ---- it commits what it may

  -- the link, with the frames that are to be taken among what it heard
  abbrev link1 : PlainLink
  link1 = link_now line owned_at

  abbrev back : PlainLink
  back = heard_down link1 rest

  abbrev links1 : List PlainLink
  links1 = row_put link_number l back (row_put link_number l link1 w.links)

  abbrev w1 : PlainWorld
  w1 = with_links (there line states1) links1

  idle1 : AgreesIn idle w1 told1 c1
  idle1 = unread_downs (now line states1 owned_at) w1 told1 c1 l link1 rest (took.taken_over line course is all none empty e free) (found_now line states1 owned_at) (record { powers = λ m. refl; vbs = λ m q. refl; shelves = λ m q. refl; uuids = refl; linked = refl })

  abbrev node1 : PlainNode
  node1 = with_kept node (unarmed v states1)

  s2 : SettlesOn w1 told1 n v (unresolved vb1) (settled vb1)
  s2 = settles steady.commits n v w1 told1 c1 node1 vb1 idle1 (ap (λ b. if b then Some node1 else w.nodes n) (eq-eqb n n refl)) (put_found states.0 v vb1)

  abbrev vb2 : Plain
  vb2 = (settled vb1).vb

  abbrev states2 : Kept
  states2 = put_vb states v vb2

  abbrev w2 : PlainWorld
  w2 = with_links (there line states2) links1

  abbrev own : List Event
  own = changes_told n v (newest_branch vb1.log) s2.cs

  abbrev told2 : Chronicle
  told2 = after_lines told1 own

  agrees2 : Agrees w2 told2
  agrees2 = s2.agrees w2
      (record {
        powers = same_powers line states1 states2;
        here = vb_put line states states.1 owned_at vb2;
        there = λ m q other. vb_others line states states.1 owned_at owned_at vb2 m q other ∙ sym (vb_others line states states.1 owned_at owned_at vb1 m q other);
        shelves = λ m q other. same_shelves line states2 states1 refl m q;
        uuids = refl;
        linked = refl;
      })
      (same_shelves line states2 states1 refl n v)

  -- all lines
  abbrev lines3 : List Event
  lines3 = events ++ tell ∷ own

  lines_are : (events ++ tell ∷ []) ++ own_lines n v (owning.reply line course) ≡ lines3
  lines_are = ap (λ ls. (events ++ tell ∷ []) ++ ls) (settled_told n v (ending_reply mine.follower reply.Done) vb1 (newest_branch vb1.log) s2.cs refl s2.changes (ap newest_branch s2.log)) ∙ append_assoc events (tell ∷ []) own

  told_is : after_lines r lines3 ≡ told2
  told_is = after_more r events (tell ∷ own)

  lawful3 : LawfulFrom r lines3
  lawful3 = lawful_more r events (tell ∷ own) going.quiet going.lawful (owning.role_lawful line course is all none empty e free, s2.lawful)

  quiet3 : AreQuiet lines3
  quiet3 = quiet_more events (tell ∷ own) going.quiet (tt, changes_quiet n v (newest_branch vb1.log) s2.cs)

  none_back : list_any is_rollback lines3 ≡ false
  none_back = list_any-append is_rollback events (tell ∷ own) ∙ ap (λ b. b || list_any is_rollback own) (onward_none events going.onward.lines) ∙ changes_none n v (newest_branch vb1.log) s2.cs

  dials : (after_lines r lines3).dial_of ≡ r.dial_of
  dials = ap (λ (x : Chronicle). x.dial_of) told_is ∙ changes_dials told1 n v (newest_branch vb1.log) s2.cs ∙ (onward_all r events going.onward.lines).dials

  -- no more is due than was acknowledged

  abbrev kn2 : Member
  kn2 = agrees2.0.nodes (consumer_seat link)

  held2 : VbAgrees told2 n v kn2 vb2
  held2 = subst (AgreesAt told2 n v kn2) (vb_put line states states.1 owned_at vb2) (agrees2.1.vbs n v)

  saved2 : vb2.saved ≡ (told2.disk_at n v).saved
  saved2 = saved_so (told2.disk_at n v) (agrees2.0.disks (consumer_seat link)) (shelf_of w2 n v) vb2 (subst (DiskIsIf (told2.disk_at n v) (agrees2.0.disks (consumer_seat link)) (shelf_of w2 n v)) (vb_put line states states.1 owned_at vb2) (agrees2.1.disks n v))

  took_before : list_any is_taking lines3 ≡ true → list_any is_taking events ≡ true
  took_before takes = first_of (list_any is_taking events) (sym (list_any-append is_taking events (tell ∷ own) ∙ ap (λ b. list_any is_taking events || b) (changes_untaken n v (newest_branch vb1.log) s2.cs)) ∙ takes)

  acked : list_any is_taking lines3 ≡ true → AllAcknowledged (after_lines r lines3) l
  acked takes = subst (λ x. AllAcknowledged x l) (sym told_is) behind
    where
      behind : AllAcknowledged told2 l
      behind dial g dialed is_it p owed =
          let here : Dial = record { producer = link.server.desk.node; node = n; vb = v } in
          let is_here : Some dial ≡ Some here = sym dialed ∙ ap (λ (t : ℕ → Option Dial). t l) (changes_dials told1 n v (newest_branch vb1.log) s2.cs) ∙ mine.dialed in let same : dial ≡ here = cc in
          let there : told.stream_of (StreamName.Link l) v ≡ Some g = sym (ap (λ (t : StreamName → ℕ → Option Granted). t (StreamName.Link l) v) (changes_streams told1 n v (newest_branch vb1.log) s2.cs)) ∙ subst (λ (d : Dial). told2.stream_of (StreamName.Link l) d.vb ≡ Some g) same is_it in
          let newest_is : at.acked ≡ newest g.wrote = subst (λ x. AckedIs x at.acked) there mine.acks in
          let most = owed_before told n v (c.nodes (consumer_seat link)) mine.follower (at_course.vb line course) (owning.complete line course is all none empty e free) (took.sound1 line course is all none empty e free) told2 kn2 held2 saved2 p (subst (λ (d : Dial). IsDue told2 d.node d.vb p) same owed) in
          let met_now = (met (took_before takes)).1 mine.follower mine.follower_is in
          omega (arith, most, met_now, newest_is)

  told_pending : link.consumer.taking.last ≡ Some Pend
  told_pending = pended r link.consumer.dialed link.consumer.taking at.taking events going.takes (ap (λ (t : TakeOver). t.last) (owning.taking_is line course is all none empty e))
      (sym (ap (λ (t : ℕ → Option Role). t l) (onward_all r events going.onward.lines).states) ∙ course.stated ∙ ap stated_in is)

  beside3 : are_all is_beside lines3 ≡ true
  beside3 = are_more is_beside events (tell ∷ own) (onward_beside events going.onward.lines) (own_beside n v (newest_branch vb1.log) s2.cs)

  owns_in : OwnsIn r link.consumer.dialed lines3
  owns_in = record {
    front = events;
    commits = own;
    together = refl;
    taken = took_of r link.consumer.dialed at.taking events going.tells
        (λ p. let z : Some Role.Pending ≡ Some Role.Active = sym p.stated ∙ sym (ap (λ (t : ℕ → Option Role). t l) (onward_all r events going.onward.lines).states) ∙ course.stated ∙ ap stated_in is in cc);
    heir = owning.is_the_heir line course is all none empty e free;
    by_link = owning.heir_by line course is all none empty e free;
    own = own_commits n v (newest_branch vb1.log) s2.cs (subst (All Commits) s2.changes (settled_commits vb1));
  }

  -- ---- and writes down that it is active

  journal : (shelf : Shelf) × (states.1 v ≡ Some shelf) × (shelf.fuse ≡ fuse)
  journal = by (states.1 v) refl going.onward.arm
    where
      by : (o : Option Shelf) → states.1 v ≡ o → option_map (λ (x : Shelf). x.fuse) o ≡ Some fuse → (shelf : Shelf) × (states.1 v ≡ Some shelf) × (shelf.fuse ≡ fuse)
      by None q x = cc
      by (Some shelf) q x = (shelf, q, cc)

  abbrev shelf : Shelf
  shelf = journal.0

  abbrev what : Record
  what = owning.what line course

  abbrev power : Power
  power = record { arm = node.arm; off = node.off; clock = node.clock }

  was : PowerIs (told.arm_at n) power
  was = subst (PowerIsIf (told.arm_at n)) (power_there line states (now line states at).links) (going.agrees.powers n)

  runs : node.off ≡ None
  runs = none_off node.off (sym (ap is_down (power_there line states (now line states at).links)) ∙ (going.agrees.ends (link_now line at) (found_is_link l (now line states at).links (link_now line at) (found_now line states at)).0).consumer)

  -- by what becomes of its record

  abbrev left : Fate → Shelf
  left fate = after_fate shelf what fate

  abbrev kept : Fate → Kept
  kept fate = (states2.0, with_shelf_at states2.1 v (left fate))

  abbrev w3 : Fate → PlainWorld
  w3 fate = with_links (lifted_at line (kept fate)) links1

  abbrev tells : Answer → Chronicle → Chronicle
  tells said x = after_noted x n v Role.Active said

  -- the world in which the link is taken out
  abbrev over : Fate → PlainWorld
  over fate = unlinked link (lifted_at line (kept fate))

  abbrev Armed : Shelf → Type 0
  Armed x = let y = shelf_step x (Append what) in Noted w2 (w3 (fate_of shelf)) n v power (under Off y.0) y.0.fuse
      → ArmedCame n tells (fired_by fuse y.0.fuse) told2 (w3 (fate_of shelf)) (noted_answer (wrote_of y.1) answer.Ok)

  armed : ArmedCame n tells (fired_by fuse (left (fate_of shelf)).fuse) told2 (w3 (fate_of shelf)) (noted_answer (wrote_of (fate_of shelf)) answer.Ok)
  armed = subst Armed (λ i. record shelf { fuse = sym journal.2 i })
      (state_came w2 (w3 (fate_of shelf)) told2 n v power vb2 (under Off shelf) agrees2.0 agrees2.1 (vb_put line states states.1 owned_at vb2) (shelf_now line states2 shelf journal.1) runs Role.Active)
      (lifted_noted line states2 (left (fate_of shelf)) links1)

  module _ (fate : Fate) (came : fate_of shelf ≡ fate) where
    armed_so : ArmedCame n tells (fired_by fuse (left fate).fuse) told2 (w3 fate) (noted_answer (wrote_of fate) answer.Ok)
    armed_so = subst (λ t. ArmedCame n tells (fired_by fuse (left t).fuse) told2 (w3 t) (noted_answer (wrote_of t) answer.Ok)) came armed

    came_so : after_job (frame_taken f s) states.0 states.1 ≡ (kept fate, noted_for (wrote_of fate) (state_met o (heir_told (owning.reply line course) (owning.told_it line course))))
    came_so = subst (λ t. after_job (frame_taken f s) states.0 states.1 ≡ (kept t, noted_for (wrote_of t) (state_met o (heir_told (owning.reply line course) (owning.told_it line course))))) came
        (owning.own_came line course is all none empty e free shelf journal.1)

    found3 : row_at link_number l (w3 fate).links ≡ Some back
    found3 = put_is_found l (row_put link_number l link1 w.links) link1 back (found_now line states1 owned_at) refl

    -- the link is taken out
    cut : (x : Chronicle) → Agrees (w3 fate) x → Agrees (over fate) x
    cut x a =
        let la : LinkAgrees (w3 fate) x a.0 back [] [] = link_mine idle (w3 fate) x x a.0 a.0 l back a.1 found3 in
        let can : IsClosable (w3 fate) back = closable idle (w3 fate) x a.0 back [] [] a.1 la in
        let same : row_out link_number l w.links ≡ row_out link_number l links1 = sym (put_out l (row_put link_number l link1 w.links) back refl ∙ put_out l w.links link1 refl) in
        let became : BecameOver (w3 fate) (over fate) back = ⊎_elim
        (λ one. inl (record { powers = one.powers; vbs = one.vbs; shelves = one.shelves; uuids = one.uuids; linked = one.linked ∙ same }))
        (λ closed.
        let (id, pv, pv', opens, known, changed, one, at_it) = closed in
        inr (id, pv, pv', opens, known, changed, record { powers = one.powers; here = one.here; there = one.there; shelves = one.shelves; uuids = one.uuids; linked = one.linked ∙ same }, at_it))
        (unlinking stays (lifted_at line (kept fate)) link can) in
        (happens a.0 (Move.Cut (consumer_seat link)), carries_over idle idle (w3 fate) (over fate) x x a.0 l back a.1 found3 became (told_of_same l x) (λ y ne. refl))

    abbrev left_power : Power
    left_power = record power { arm = record power.arm { fuse = (left fate).fuse } }

    power_over : power_of (over fate) n ≡ Some left_power
    power_over = unlinked_power link (lifted_at line (kept fate)) n ∙ power_left line states2 (left fate) w.links

    over_up : is_up ((over fate).nodes n) ≡ is_up ((w3 fate).nodes n)
    over_up = (power_arm ((over fate).nodes n) left_power power_over).1 ∙ sym (power_arm ((w3 fate).nodes n) left_power (power_left line states2 (left fate) links1)).1

    fuse_over : (arm_in ((over fate).nodes n)).fuse ≡ (left fate).fuse
    fuse_over = ap (λ (x : Arm). x.fuse) (power_arm ((over fate).nodes n) left_power power_over).0

    over_came : ArmedCame n tells (fired_by fuse (left fate).fuse) told2 (over fate) (noted_answer (wrote_of fate) answer.Ok)
    over_came = other_world n tells (fired_by fuse (left fate).fuse) told2 (w3 fate) (over fate) (noted_answer (wrote_of fate) answer.Ok) over_up (cut (tells (noted_answer (wrote_of fate) answer.Ok) told2)) armed_so

  told_closed : (r.disk_at n v).closed ≡ shelf.is_closed
  told_closed = sym (ap (λ (t : ℕ → ℕ → DiskKnown). (t n v).closed) (onward_all r events going.onward.lines).disks)
      ∙ (subst (λ y. DiskIsIf (told.disk_at n v) (c.disks (consumer_seat link)) y (Some mine.follower)) (shelf_now line states shelf journal.1)
      (subst (DiskIsIf (told.disk_at n v) (c.disks (consumer_seat link)) (shelf_of (now line states at) n v)) mine.follower_is (going.agrees.disks n v))).closed

  -- its record can't be written down, and the link is over; it is active all the same
  shut : (fate : Fate) → fate_of shelf ≡ fate → noted_for (wrote_of fate) (state_met o (heir_told (owning.reply line course) (owning.told_it line course))) ≡ so_far line owned_at (Some Disk) ((events ++ tell ∷ []) ++ own_lines n v (owning.reply line course))
      → ArmedCame n tells (fired_by fuse (left fate).fuse) told2 (over fate) (broken_answer (fired_by fuse (left fate).fuse)) → FiredIn (fired_by fuse (left fate).fuse) (r.disk_at n v).closed fuse → Reached line rest (after_job (frame_taken f s) states.0 states.1)
  shut fate came same how inside = record {
    states = kept fate;
    at = owned_at;
    over = Some Disk;
    events = lines3;
    same = came_so fate came ∙ ap (λ y. (kept fate, y)) same ∙ ap (λ ls. (kept fate, so_far line owned_at (Some Disk) ls)) lines_are;
    phase = Phase.Owned;
    stage = record {
      lawful = lawful3;
      quiet = quiet3;
      heir = heir_onward events n v own going.onward.lines;
      pended = told_pending;
      takes_over = owns_in;
      uncut = λ q. cc;
      beside = beside3;
      ending = λ why q. subst (λ k. EndsSo line k lines3) (let z : Some Disk ≡ Some why = q in let y : Disk ≡ why = cc in y) tt;
      none_back = none_back;
      dials = dials;
      acked = acked;
      came = subst (λ g. ArmedCame n tells (fired_by fuse g) (after_lines r lines3) (over fate) (broken_answer (fired_by fuse g)) × FiredIn (fired_by fuse g) (r.disk_at n v).closed fuse) (sym (fuse_over fate came))
          (subst (λ x. ArmedCame n tells (fired_by fuse (left fate).fuse) x (over fate) (broken_answer (fired_by fuse (left fate).fuse))) (sym told_is) how, inside);
    };
  }

  by_closed : shelf.is_closed ≡ true → Reached line rest (after_job (frame_taken f s) states.0 states.1)
  by_closed closed =
      let came : fate_of shelf ≡ WasClosed = ap (λ b. if b then WasClosed else if all_pass shelf.fuse then Stood else DiskFailed) closed in
      let calm : fired_by fuse shelf.fuse ≡ fired.No = ap (fired_by fuse) journal.2 ∙ quiet_same fuse in
      shut WasClosed came refl
      (subst (λ y. ArmedCame n tells y told2 (over WasClosed) (broken_answer y)) (sym calm) (subst (λ y. ArmedCame n tells y told2 (over WasClosed) (answer.No cause.Closed)) calm (over_came WasClosed came)))
      (subst (λ y. FiredIn y (r.disk_at n v).closed fuse) (sym calm) (told_closed ∙ closed))

  by_failed : shelf.is_closed ≡ false → all_pass fuse ≡ false → Reached line rest (after_job (frame_taken f s) states.0 states.1)
  by_failed opens hit =
      let came : fate_of shelf ≡ DiskFailed = ap (λ b. if b then WasClosed else if all_pass shelf.fuse then Stood else DiskFailed) opens ∙ ap (λ b. if b then Stood else DiskFailed) (ap all_pass journal.2 ∙ hit) in
      let b : BreaksUnder fuse = breaks_under fuse was.may_fire hit in
      let off : burnt_noting shelf.fuse ≡ Off = ap burnt_noting journal.2 ∙ b.left in
      let how : (x : Fired) → fired_by fuse Off ≡ x → broken_answer x ≡ answer.No cause.Disk → ArmedCame n tells (fired_by fuse (left DiskFailed).fuse) told2 (over DiskFailed) (broken_answer (fired_by fuse (left DiskFailed).fuse)) = λ x q said.
      subst (λ a. ArmedCame n tells (fired_by fuse (left DiskFailed).fuse) told2 (over DiskFailed) a) (sym (ap broken_answer (ap (fired_by fuse) off ∙ q) ∙ said)) (over_came DiskFailed came) in
      ⊎_elim
      (λ h. shut DiskFailed came refl (how fired.Failed h.1 refl) (subst (λ y. FiredIn y (r.disk_at n v).closed fuse) (sym (ap (fired_by fuse) off ∙ h.1)) (told_closed ∙ opens, h.0)))
      (λ h. shut DiskFailed came refl (how fired.Stopped h.1 refl) (subst (λ y. FiredIn y (r.disk_at n v).closed fuse) (sym (ap (fired_by fuse) off ∙ h.1)) (told_closed ∙ opens, h.0)))
      b.how

  -- its record stands
  by_stood : shelf.is_closed ≡ false → all_pass fuse ≡ true → Reached line rest (after_job (frame_taken f s) states.0 states.1)
  by_stood opens pass =
      let came : fate_of shelf ≡ Stood = ap (λ b. if b then WasClosed else if all_pass shelf.fuse then Stood else DiskFailed) opens ∙ ap (λ b. if b then Stood else DiskFailed) (ap all_pass journal.2 ∙ pass) in
      let b : StandsUnder fuse = stands_under fuse was.may_fire pass in
      let calm : fired_by fuse (burnt_noting shelf.fuse) ≡ fired.No = ap (fired_by fuse) (ap burnt_noting journal.2 ∙ b.left) ∙ b.quiet in
      let a : Agrees (w3 Stood) (tells answer.Ok told2) = subst (λ y. ArmedCame n tells y told2 (w3 Stood) answer.Ok) calm (armed_so Stood came) in
      let good : All Readable rest = readable_down link1 rest (rest ++ mine.talk.downs.behind) (next_downs line at owned_at f rest mine.talk.said mine.talk.downs) in
      record {
        states = kept Stood;
        at = owned_at;
        over = None;
        events = lines3;
        same = came_so Stood came ∙ ap (λ ls. (kept Stood, so_far line owned_at None ls)) lines_are;
        phase = Phase.Owned;
        stage = record {
          lawful = lawful3;
          quiet = quiet3;
          heir = heir_onward events n v own going.onward.lines;
          pended = told_pending;
          takes_over = owns_in;
          uncut = λ q. cc;
          beside = beside3;
          ending = λ why q. cc;
          none_back = none_back;
          dials = dials;
          acked = acked;
          came = (
            ap over_why (at_course.granted_now line course all),
            refl,
            (told_closed ∙ opens, b.answers),
            a.0,
            subst (λ x. AgreesIn (busy_at line rest) (with_links (lifted_at line (kept Stood)) (row_put link_number l link1 w.links)) (tells answer.Ok x) a.0) (sym told_is)
                (reread_downs (w3 Stood) (with_links (lifted_at line (kept Stood)) (row_put link_number l link1 w.links)) (tells answer.Ok told2) a.0 l link1 rest good noticed.none_whole noticed.rest_left a.1 (found3 Stood came)
                (record { powers = λ m. refl; vbs = λ m q. refl; shelves = λ m q. refl; uuids = refl; linked = sym (put_twice l (row_put link_number l link1 w.links) back link1 refl ∙ put_twice l w.links link1 link1 refl) })),
          );
        };
      }

  -- it is active
  pub owned : Reached line rest (after_job (frame_taken f s) states.0 states.1)
  owned = elim shelf.is_closed as (λ b. shelf.is_closed ≡ b → Reached line rest (after_job (frame_taken f s) states.0 states.1)) [
    | true ↦ by_closed
    | false ↦ λ opens. elim (all_pass fuse) as (λ b. all_pass fuse ≡ b → Reached line rest (after_job (frame_taken f s) states.0 states.1)) [ true ↦ by_stood opens | false ↦ by_failed opens ] refl
  ] refl

-- a state active that is next: it is obeyed, or refused
pub own_next : (line : Line) (course : Course line) → StateNext line course Handing.Stated
own_next line course is all none empty e = by (own_refusal (at_course.mine line course).follower) refl
  where
    by : (o : Option Status) → own_refusal (at_course.mine line course).follower ≡ o → Reached line course.rest (after_job (frame_taken course.f (so_far line course.at None course.events)) course.states.0 course.states.1)
    by (Some st) why = owning.refused line course is all none empty e st why
    by None free = owned line course is all none empty e free
