-- a consumer that is sent back: it goes back to the greatest complete point of its journal, once that is written down, and asks again
use Rattle.std.specs.Prelude.{◌≡◌, ◌+◌, ◌<◌, ◌≤◌, ◌∷◌, ◌++◌, ◌==◌, ◌^◌, ◌-◌, if◌then◌else◌}
use Rattle.std.proofs.lemmas.Bool.{false_from_ne_true}
use Rattle.transcript_law.specs.Undone.{is_taking}
use Rattle.dcp_consumer.specs.Machine.{is_streaming}
use Rattle.std.specs.Prelude.{◌||◌}
use Rattle.transcript_law.proofs.Words.{list_any-append}
use Rattle.transcript_law.proofs.Words.{list_any}
use Rattle.transcript_law.proofs.Words.{ℕ, Bool, true, false, List, [], map, refl, ap, sym, ◌∙◌, subst, arith, inl, inr, append_assoc, Option, Some, None, option_map, vb_in, shelf_in, Dial, with_id}
use Rattle.transcript_law.proofs.Words.{nat_lt, concat, eq-eqb, ne_eqb, nat_tests, not, filter-append, All, All-nil, All-cons, All-tail, Frame, spelling, Readable, dcp_frame, Event}
use Rattle.transcript_law.proofs.Words.{StreamAsk, request_of, Cluster, Move, SoundCluster, happens, keeps, Plain, quiet_reply, refusal_reply, after_job, after_job_bind, after_job_lift, lift, Position}
use Rattle.transcript_law.proofs.Words.{with_vb_at, call_at, row_out, row_put, DialResult, with_line, roll_back, named_ask, link_number, PlainLink, StreamName, PlainWorld, with_links, unlinked}
use Rattle.transcript_law.proofs.{Words.{Chronicle, after_end, after_lines, LawfulLine}, invariant.Tables.{at_here}, invariant.Agreement.{shelf_of, DiskIsIf, IsArm, PowerIs, PowerIsIf, Power, power_of}}
use Rattle.transcript_law.proofs.invariant.Agreement.{AgreesAt, Agrees, VbAgrees, UpIs, DownAgrees, ServerIs, LinkAgrees, is_refused_ack, spoken, top, consumer_seat, AgreesIn, Busy, idle, own_history, EndsStand, FollowsBy, IsUnsaid}
use Rattle.transcript_law.proofs.{invariant.LinkRows.{put_out}, invariant.Carrying.{MemberChanged, Changed, BecameOver, Rearmed, Relinked}, links.Cutting.{unlinking}, invariant.OneLink.{put_here, put_there, disk_here, disk_there, consumer_quiet, carries_armed, carries_left, carries_same, consumer_rests, out_ends}}
use Rattle.transcript_law.proofs.{lines.Lines.{lawful_more, quiet_more, after_more}, links.Verdicts.{asks_in_range}, links.Frames.{spelled_more}, links.Firsts.{first_count}, links.Requests.{answers_past, ask_readable, request_last, waits_asking}, links.Downing.{Asker, Line, put_kept, so_far, link_now}}
use Rattle.transcript_law.proofs.{links.Downing.{Phase, there, now, gone, lifted_at, busy_at, Before, Reached, linked, moved_agrees, same_powers, shelf_now, shelves_but, found_now, vb_here, vb_put, vb_others}, invariant.Carried.{none_open, one_idle, one_none}, disks.Disks.{ShelfIs, disk_same, parts_of, power_in}}
use Rattle.transcript_law.proofs.{links.Onward.{Kept, one_back, onward_all, onward_beside, onward_level, rolled_last, unarmed}, links.Rolling.{bare_point, farthest, roll_end_of, roll_taken_of, rolled_agrees, rolled_disk, rolled_shelf, stood_came}, disks.Burning.{stands_under}}
use Rattle.branch_model.proofs.{Journaling.{ends_below, rolls_to}}
use Rattle.branch_model.specs.Journals.{Covered, IsPoint, batches, cas_of_last, complete_points, end_of, image_at, place_of, roll_point}
use Rattle.{cluster_model.specs.Clusters.{appended, rolled}, dcp_consumer.specs.Dialing.{flagged}, dcp_consumer.specs.Machine.{over_why, ended_for, request_again, again_by}, disk_journals.specs.Arms.{under}, node_world.specs.Arms.{fuse_or, lifted}, node_world.specs.Nodes.{with_kept}}
use Rattle.{mcbp_dcp.specs.declared.message.DcpMsg.TheVariants.{StreamRequest}, node_core.specs.Dials.{follower_ask, again_with, again_result, requested_once_more, rolled_back}}
use Rattle.{transcript_law.specs.Chronicles.{ArmKnown, DiskKnown, after_calls, after_roll, calls_of_append, disk_back, is_rise, rollback_of, spent}, vb_calls.specs.Following.{rolled_vb}}
use Rattle.{vb_calls.specs.declared.calls.VbAnswer.TheVariants.{Named}, vb_calls.specs.declared.calls.VbCall.TheVariants.{Ask}, vb_events.specs.declared.event.EndReason.TheVariants.{Protocol}}
use Rattle.{vb_events.specs.declared.event.Event.TheVariants.{Rolled}, vb_types.specs.declared.status.Status.TheVariants.{NotMyVbucket}}
use Rattle.transcript_law.{proofs.{links.Downing.{EndsSo}, links.Takes.{NoneTaken, Took, took_more, took_of, untaken}, verbs.{Tellings.{are_more, same_place}, Untaken.{is_beside}}}, specs.Tellings.{are_all}, specs.TakeoverNotes.{is_role_of}}
use Rattle.vb_calls.specs.Flushes.{roll_job}
use Rattle.vb_calls.specs.Shelves.{Shelf, Shelves, with_shelf_at}
use Rattle.vb_journal.specs.UnderArms.{all_pass, burnt_noting}
use Rattle.vb_disk.specs.declared.fuse.Fuse.{Fuse}
use Rattle.vb_disk.specs.declared.fuse.Fuse.TheVariants.{Off}
use Rattle.transcript_law.proofs.invariant.JobSteps.{put_over, shelf_found}
use Rattle.vb_types.specs.declared.journal.Record.TheVariants as noted
use Rattle.dcp_consumer.specs.declared.handshake.Handshake.TheVariants as waiting
use Rattle.transcript_law.proofs.{invariant.Bounded.{Weighs, rolled_reads}, links.Followed.{own_is}}
use Rattle.cluster_model.{proofs.Held.{held_at}, specs.Clusters.{HasAll}}
use Rattle.transcript_law.proofs.Words.{AskInRange, is_follower, upto}
use Rattle.takeover.specs.{TakingOver.{new_take_over}, declared.{take_over.TakeOver.{TakeOver}, take_over.TakeStep.TheVariants.{Pend}}}
use Rattle.transcript_law.{proofs.invariant.Carrying.{same_arms, same_clients}, specs.Feeding.{client_in}}

-- an answer that sends the consumer of the line back to `named`
pub record Back (line : Line) : Type 0 where
  pub before : Before line
  pub open before use *
  pub named : ℕ
  pub point : (after_lines line.r events).point_of line.link.consumer.dialed.link ≡ Some named
  pub asks : at.waiting ≡ waiting.Asking
  pub server : ServerIs line.link.server line.link.consumer.dialed (first_count line.link.consumer.dialed)
  pub untold : IsUnsaid ((after_lines line.r events).stream_of (StreamName.Link line.link.consumer.dialed.link) line.link.consumer.dialed.vb) ((after_lines line.r events).stated_of line.link.consumer.dialed.link)
  pub unstated : at.taking ≡ new_take_over
  pub no_stream : line.link.server.streams ≡ []
  pub fewer : line.link.server.asked ≤ at.asked
  pub ups : UpIs (link_now line at) [] []
  pub said : List Frame
  pub downs : DownAgrees (link_now line at) rest said
  pub none_said : spoken said ≡ []

-- a request that is flagged is in its range
flagged_in_range : (b : Bool) (ask : StreamAsk) → AskInRange ask → AskInRange (flagged b ask)
flagged_in_range true ask a = record { flags = omega arith; start = a.start; end = a.end; uuid = a.uuid; ss = a.ss; se = a.se }
flagged_in_range false ask a = record { flags = omega arith; start = a.start; end = a.end; uuid = a.uuid; ss = a.ss; se = a.se }

-- where the consumer drops all frames of two lists, it drops those of each
none_of_both : (xs ys : List Frame) → xs ++ ys ≡ [] → (xs ≡ []) × (ys ≡ [])
none_of_both [] ys e = (refl, e)
none_of_both (f ∷ xs) ys e = cc

-- a reader takes the rest of frames that it takes
readable_behind : (xs ys : List Frame) → All Readable (xs ++ ys) → All Readable ys
readable_behind [] ys good = good
readable_behind (f ∷ xs) ys good = readable_behind xs ys (All-tail Readable f (xs ++ ys) good)

module _ (line : Line) (back : Back line) where
  open line use {w, r, link, node}
  open line.link.consumer.dialed use {node as n, vb as v, link as l}
  open back use {before.{stays, f, rest, states, at, events, going, met, going.{cluster as c}}, named}

  abbrev pub k : ℕ
  k = consumer_seat link

  abbrev pub told : Chronicle
  told = after_lines r events

  abbrev pub mine : LinkAgrees (now line states at) told going.cluster (link_now line at) [] (f ∷ rest)
  mine = linked line (f ∷ rest) states at events going

  open mine use {follower as fv}

  -- it was told no state, so it follows
  pub follows : is_follower fv.role ≡ true
  follows = subst (λ (t : TakeOver). FollowsBy t.last fv.role) back.unstated mine.follows

  -- nothing was taken of a stream yet
  pub none_yet : list_any is_taking events ≡ false
  none_yet = false_from_ne_true (list_any is_taking events) (λ t. let z : true ≡ false = sym (met t).0 ∙ ap is_streaming back.asks in cc)

  -- nor was a state told
  pub none_told : NoneTaken link.consumer.dialed link.consumer.taking at.taking events
  none_told = untaken r link.consumer.dialed link.consumer.taking at.taking events going.takes (ap (λ (t : TakeOver). t.last) back.unstated)

  pub none_pended : Took link.consumer.dialed events
  none_pended = took_of r link.consumer.dialed at.taking events going.tells (λ p. let z : None ≡ Some Pend = sym (ap (λ (t : TakeOver). t.last) back.unstated) ∙ p.last in cc)

  -- the consumer drops all frames that are to come
  dropped : (spoken rest ≡ []) × (spoken back.downs.behind ≡ [])
  dropped = none_of_both (spoken rest) (spoken back.downs.behind) (sym (filter-append (λ x. not (is_refused_ack x)) rest back.downs.behind) ∙ ap spoken (sym back.downs.joined) ∙ back.none_said)

  pub none_left : spoken rest ≡ []
  none_left = dropped.0

  -- those that were not taken yet
  downs_behind : (at' : Asker) → DownAgrees (link_now line at') [] back.downs.behind
  downs_behind at' = record { behind = back.downs.behind; joined = refl; bytes = back.downs.bytes; readable = readable_behind rest back.downs.behind (subst (All Readable) back.downs.joined back.downs.readable) }

  pub agrees : VbAgrees told n v (c.nodes k) fv
  agrees = subst (AgreesAt told n v (c.nodes k)) mine.follower_is (going.agrees.vbs n v)

  -- the node's arm
  abbrev pub fuse : Fuse
  fuse = node.arm.fuse

  abbrev pub power : Power
  power = record { arm = node.arm; off = node.off; clock = node.clock }

  pub power_here : (states : Kept) → power_of (there line states) n ≡ Some power
  power_here states = ap (λ b. power_in (if b then Some (with_kept node (unarmed v states)) else w.nodes n)) (eq-eqb n n refl)

  pub was : PowerIs (told.arm_at n) power
  was = subst (PowerIsIf (told.arm_at n)) (power_here states) (going.agrees.powers n)

  -- the world with what is left of the arm
  pub lifts : (states : Kept) (links : List PlainLink) → Rearmed (with_links (there line states) links) (with_links (lifted_at line states) links) n power (lifted v (with_kept node states)).arm
  lifts states links = record {
    before = power_here states;
    armed = ap (λ b. power_in (if b then Some (lifted v (with_kept node states)) else w.nodes n)) (eq-eqb n n refl);
    others = λ m ne. ap (λ b. power_in (if b then Some (lifted v (with_kept node states)) else w.nodes m)) (ne_eqb m n ne) ∙ sym (ap (λ b. power_in (if b then Some (with_kept node (unarmed v states)) else w.nodes m)) (ne_eqb m n ne));
    vbs = λ m q. elim (m == n) as (λ b. vb_in (if b then Some (lifted v (with_kept node states)) else w.nodes m) q ≡ vb_in (if b then Some (with_kept node (unarmed v states)) else w.nodes m) q) [ true ↦ refl | false ↦ refl ];
    shelves = λ m q. elim (m == n) as (λ b. shelf_in (if b then Some (lifted v (with_kept node states)) else w.nodes m) q ≡ shelf_in (if b then Some (with_kept node (unarmed v states)) else w.nodes m) q) [ true ↦ refl | false ↦ refl ];
    clients = λ m c. elim (m == n) as (λ b. client_in (if b then Some (lifted v (with_kept node states)) else w.nodes m) c ≡ client_in (if b then Some (with_kept node (unarmed v states)) else w.nodes m) c) [ true ↦ refl | false ↦ refl ];
    uuids = refl;
    linked = refl;
  }

  -- the link is taken out: nothing is closed, since there is no stream
  same_over : (x : PlainWorld) → BecameOver x (unlinked link x) link → Relinked x (unlinked link x) (row_out link_number (link_number link) x.links)
  same_over x (inl same) = same
  same_over x (inr (id, pv, pv', opens, is, changed, one, shelf)) = none_open link.server.streams back.no_stream link.consumer.dialed.vb id opens

  pub unlinks : (x : PlainWorld) → Relinked x (unlinked link x) (row_out link_number (link_number link) x.links)
  unlinks x = same_over x (unlinking stays x link (inl back.no_stream))

  pub over_lifts : (states : Kept) → Rearmed (gone line states) (unlinked link (lifted_at line states)) n power (lifted v (with_kept node states)).arm
  over_lifts states =
      let x = unlinks (there line states) in let y = unlinks (lifted_at line states) in let z = lifts states w.links in
      let arms_there = same_arms (there line states) (gone line states) x.powers in let arms_lifted = same_arms (lifted_at line states) (unlinked link (lifted_at line states)) y.powers in
      record {
        before = arms_there n ∙ z.before;
        armed = arms_lifted n ∙ z.armed;
        others = λ m ne. arms_lifted m ∙ z.others m ne ∙ sym (arms_there m);
        clients = λ m c. same_clients (lifted_at line states) (unlinked link (lifted_at line states)) y.powers m c ∙ z.clients m c ∙ sym (same_clients (there line states) (gone line states) x.powers m c);
        vbs = λ m q. y.vbs m q ∙ z.vbs m q ∙ sym (x.vbs m q);
        shelves = λ m q. y.shelves m q ∙ z.shelves m q ∙ sym (x.shelves m q);
        uuids = y.uuids ∙ sym x.uuids;
        linked = y.linked ∙ sym x.linked;
      }

  -- what is left of the arm
  abbrev pub left : Kept → Fuse
  left states = (lifted v (with_kept node states)).arm.fuse

  pub left_of : (states : Kept) (shelf : Shelf) → states.1 v ≡ Some shelf → left states ≡ shelf.fuse
  left_of states shelf has = ap (λ (o : Option Shelf). fuse_or fuse (option_map (λ (x : Shelf). x.fuse) o)) has

  arm_told : (states : Kept) → left states ≡ spent calls_of_append fuse → (x : ArmKnown) → x ≡ told.arm_at n → ◌≡◌ {A = ArmKnown} (record { fuse = left states; out = node.arm.out; down = x.down }) (record x { fuse = spent calls_of_append x.fuse })
  arm_told states is x e =
      let f : x.fuse ≡ fuse = ap (λ (t : ArmKnown). t.fuse) e ∙ was.fuse in let o : x.out ≡ node.arm.out = ap (λ (t : ArmKnown). t.out) e ∙ was.out in
      λ i. record { fuse = (is ∙ ap (spent calls_of_append) (sym f)) i; out = sym o i; down = x.down }

  -- the burnt arm is told
  pub burnt : (states : Kept) → left states ≡ spent calls_of_append fuse → IsArm (left states) → (busy : Busy) (w1 w2 : PlainWorld) (x : Chronicle) (y : Cluster) → Rearmed w1 w2 n power (lifted v (with_kept node states)).arm
      → x.arm_at ≡ told.arm_at → AgreesIn busy w1 x y → ((j : ℕ) → idle j ≡ busy j) → Agrees w2 (after_calls calls_of_append n x)
  burnt states is fires busy w1 w2 x y same arms a but = (
    y,
    carries_same busy idle w2 w2 (after_calls calls_of_append n x) y
        (subst (λ t. AgreesIn busy w2 (record x { arm_at = with_id x.arm_at n t }) y) (arm_told states is (x.arm_at n) (ap (λ (t : ℕ → ArmKnown). t n) arms)) (carries_armed busy w1 w2 x y n power (lifted v (with_kept node states)).arm a same fires))
        (record { powers = λ m. refl; vbs = λ m q. refl; shelves = λ m q. refl; uuids = refl; linked = refl }) but,
  )

  -- its journal
  disk_before : DiskIsIf (told.disk_at n v) (c.disks k) (shelf_of (now line states at) n v) (Some fv)
  disk_before = subst (DiskIsIf (told.disk_at n v) (c.disks k) (shelf_of (now line states at) n v)) mine.follower_is (going.agrees.disks n v)

  pub journal : (shelf : Shelf) × (states.1 v ≡ Some shelf) × (shelf.fuse ≡ fuse)
  journal = by (states.1 v) refl going.onward.arm
    where
      by : (o : Option Shelf) → states.1 v ≡ o → option_map (λ (s : Shelf). s.fuse) o ≡ Some fuse → (shelf : Shelf) × (states.1 v ≡ Some shelf) × (shelf.fuse ≡ fuse)
      by None e x = cc
      by (Some shelf) e x = (shelf, e, cc)

  abbrev pub shelf : Shelf
  shelf = journal.0

  pub written : ShelfIs (told.disk_at n v) (c.disks k) (under Off shelf) (parts_of fv)
  written = subst (λ s. DiskIsIf (told.disk_at n v) (c.disks k) s (Some fv)) (shelf_now line states shelf journal.1) disk_before

  -- whether it is closed was told before the line
  pub told_closed : (r.disk_at n v).closed ≡ shelf.is_closed
  told_closed = sym (ap (λ (t : ℕ → ℕ → DiskKnown). (t n v).closed) (onward_all r events going.onward.lines).disks) ∙ written.closed

  -- where it goes back to
  abbrev pub to : ℕ
  to = roll_point shelf.book named

  told_point : roll_point (told.disk_at n v).book named ≡ to
  told_point = ap (λ b. roll_point b named) written.told_book ∙ bare_point shelf.book named

  -- what was read before the line says so
  pub rolls : rollback_of r (r.dial_of l) (r.point_of l) ≡ Some (n, (v, noted.Roll to))
  rolls =
      let same = onward_all r events going.onward.lines in
      let dial : r.dial_of l ≡ Some (record { producer = link.server.desk.node; node = n; vb = v }) = sym (ap (λ (t : ℕ → Option Dial). t l) same.dials) ∙ mine.dialed in
      let point : r.point_of l ≡ Some named = sym (ap (λ (t : ℕ → Option ℕ). t l) same.points) ∙ back.point in
      (λ i. rollback_of r (dial i) (point i)) ∙ ap (λ (t : ℕ → ℕ → DiskKnown). Some (n, (v, noted.Roll (roll_point (t n v).book named)))) (sym same.disks) ∙ ap (λ x. Some (n, (v, noted.Roll x))) told_point

  covered : Covered (c.nodes k).held (batches shelf.book)
  covered = subst (λ b. Covered (c.nodes k).held (batches b)) written.book (going.agrees.sound.kept k).book.covered

  is_point : IsPoint to (complete_points shelf.book)
  is_point = (rolls_to shelf.book named).0

  pub point_there : IsPoint to (complete_points (c.disks k).book)
  point_there = subst (λ b. IsPoint to (complete_points b)) (sym written.book) is_point

  held_there : to ≤ fv.position.at
  held_there =
      let book = (going.agrees.sound.kept k).book in
      let low : to ≤ end_of (batches shelf.book) = ends_below (c.nodes k).held (batches shelf.book) to covered is_point in
      let ends : (place_of (c.disks k).book).at ≡ end_of (batches shelf.book) = book.ends ∙ ap (λ b. end_of (batches b)) written.book in
      let reached : (place_of (c.disks k).book).at ≤ (c.nodes k).position.at = book.spot.reached in
      let level : (c.nodes k).position.at ≡ fv.position.at = ap (λ (q : Position). q.at) agrees.member.position in omega arith

  small : cas_of_last shelf.book < 2 ^ 64
  small = subst (λ b. cas_of_last b < 2 ^ 64) written.book written.cas

  -- no prepare that stands there has a CAS above the last one that the journal tells
  heavy : Weighs (cas_of_last shelf.book) (upto (c.nodes k).held to)
  heavy = subst (λ b. Weighs (cas_of_last b) (upto (c.nodes k).held to)) written.book (rolled_reads top c k going.agrees.sound to point_there).weighs

  -- its member holds the branch there
  all_there : HasAll (own_history told n v) (c.nodes k).held to
  all_there = subst (λ h. HasAll h (c.nodes k).held to) (own_is told c n v (c.nodes k) going.agrees.hists going.agrees.rootless agrees.branch) (held_at top c going.agrees.sound.still k to (inl point_there))

  abbrev pub s : DialResult
  s = so_far line at None events

  pub known : states.0 v ≡ Some fv
  known = vb_here line states at fv mine.follower_is

  pub quiet : (c.nodes k).active ≡ false
  quiet = consumer_quiet (busy_at line (f ∷ rest)) (now line states at) told c (link_now line at) [] (f ∷ rest) going.agrees mine follows

  -- the rollback stands
  module _ (opens : shelf.is_closed ≡ false) (passes : all_pass fuse ≡ true) where
    -- the vBucket after it went back
    abbrev fv' : Plain
    fv' = rolled_vb fv to (image_at shelf.book to) (cas_of_last shelf.book)

    abbrev shelf' : Shelf
    shelf' = rolled_shelf shelf to

    abbrev shelves' : Shelves
    shelves' = with_shelf_at states.1 v shelf'

    abbrev states' : Kept
    states' = put_kept states shelves' v fv'

    abbrev c' : Cluster
    c' = happens c (Move.Roll k to)

    abbrev wish : StreamAsk
    wish = request_of fv'.log fv'.position

    -- as its link is dialed
    abbrev ask : StreamAsk
    ask = flagged link.consumer.dialed.takeover wish

    abbrev rolled_line : Event
    rolled_line = Rolled n v named to

    abbrev events' : List Event
    events' = events ++ rolled_line ∷ []

    abbrev s' : DialResult
    s' = with_line s rolled_line

    sound : SoundCluster top c'
    sound = keeps top c (Move.Roll k to) going.agrees.sound (quiet, point_there)

    abbrev told' : Chronicle
    told' = after_roll told n v to

    agrees' : VbAgrees told' n v (c'.nodes k) fv'
    agrees' = subst (λ m. VbAgrees told' n v m fv') (sym (put_here c.nodes k (rolled (c.nodes k) to))) (rolled_agrees stays told n v (c.nodes k) fv shelf.book to agrees follows covered is_point held_there small heavy all_there)

    changed : MemberChanged k c c'
    changed = record { tree = refl; others = λ j ne. put_there c.nodes k (rolled (c.nodes k) to) j ne; disks = λ j ne. disk_there c.disks k (appended (c.disks k) (noted.Roll to)) j ne }

    shelf_there : shelf_of (there line states') n v ≡ Some (under Off shelf')
    shelf_there = shelf_now line states' shelf' (shelf_found states.1 v shelf')

    -- and of its journal, wherever that stands then
    disk' : (s : Option Shelf) → s ≡ Some (under Off shelf') → DiskIsIf (told'.disk_at n v) (c'.disks k) s (Some fv')
    disk' s is = disk_same (Some fv') (Some fv') (at_here told.disk_at n v (disk_back to (told.disk_at n v))) (disk_here c.disks k (appended (c.disks k) (noted.Roll to))) is refl
        (rolled_disk shelf fv to (image_at shelf.book to) (cas_of_last shelf.book) opens point_there written)

    journals : (q : ℕ) → (q ≡ v → ⊥) → shelves' q ≡ states.1 q
    journals q o = ap (λ b. if b then Some shelf' else states.1 q) (ne_eqb q v o)

    there_still : (told'.disk_at n v).there ≡ (told.disk_at n v).there
    there_still = ap (λ (d : DiskKnown). d.there) (at_here told.disk_at n v (disk_back to (told.disk_at n v)))

    -- what the program comes to

    rolled_came : after_job (roll_back named s) states.0 states.1 ≡ after_job (lift (requested_once_more s')) states'.0 states'.1
    unfolding roll_back
    rolled_came = after_job_bind (roll_job v named) (λ came. lift (rolled_back named s came)) states.0 states.1
        ∙ ap (λ y. after_job (lift (rolled_back named s y.1)) y.0.0 y.0.1) (stood_came states.0 states.1 v named fv shelf known follows journal.1 opens (ap all_pass journal.2 ∙ passes))

    asked_came : after_job (lift (requested_once_more s')) states'.0 states'.1 ≡ (states', again_with s' (again_by waiting.Asking wish s'.dial.consumer))
    asked_came = after_job_lift (requested_once_more s') states'.0 states'.1
        ∙ ap (λ o. let y = call_at states'.0 v Ask o in ((y.0, shelves'), again_result s' (follower_ask y.1))) (ap (λ b. if b then Some fv' else states.0 v) (eq-eqb v v refl))
        ∙ ap (λ b. ((with_vb_at states'.0 v fv', shelves'), again_result s' (named_ask (if b then quiet_reply (Named wish) else refusal_reply NotMyVbucket).answer))) follows
        ∙ ap (λ st. ((st, shelves'), again_result s' (Some wish))) (put_over states.0 v fv' fv')
        ∙ ap (λ h. (states', again_with s' (again_by h wish s'.dial.consumer))) back.asks

    -- it asks again

    abbrev ask_frame : Frame
    ask_frame = dcp_frame (StreamRequest ask) (at.asked + 1) v

    abbrev again : Asker
    again = record { out = at.out ++ spelling ask_frame; waiting = at.waiting; asked = at.asked + 1; acked = at.acked; taking = at.taking }

    -- what is to come and is dropped counts for nothing, so no frame is about to be taken any more
    link_agrees : at.asked + 1 < 2 ^ 32 → LinkAgrees (now line states' again) told' c' (link_now line again) [] []
    link_agrees small = record {
      follower = fv';
      follower_is = vb_put line states shelves' again fv';
      follows = mine.follows;
      acks = mine.acks;
      dial = mine.dial;
      talk = record {
        asked = ask_frame ∷ [];
        said = back.downs.behind;
        stands = EndsStand.IsAsking ask back.untold (record {
          no_stream = back.no_stream;
          fewer = let most = back.fewer in omega (arith, most);
          asking = record {
            answered = first_count link.consumer.dialed;
            seen = first_count link.consumer.dialed;
            some_left = omega arith;
            not_more = omega arith;
            server = back.server;
            consumer = record { waits = back.asks ∙ sym (waits_asking link.consumer.dialed); small = small };
            asks = refl;
            untold = back.unstated;
            asked_is = sym (request_last (at.asked + 1) link.consumer.dialed ask);
            said_is = dropped.1 ∙ sym (answers_past link.consumer.dialed);
          };
        });
        ups = record {
          behind = ask_frame ∷ [];
          joined = refl;
          bytes = ap (λ b. link.up_heard ++ b) (sym (append_assoc link.up at.out (spelling ask_frame)))
              ∙ spelled_more link.up_heard (link.up ++ at.out) [] ask_frame (subst (λ fs. link.up_heard ++ (link.up ++ at.out) ≡ concat (map spelling fs)) (sym back.ups.joined) back.ups.bytes);
          readable = All-cons Readable ask_frame [] (ask_readable (at.asked + 1) v ask small mine.small.1 (flagged_in_range link.consumer.dialed.takeover wish (asks_in_range fv' agrees'.sound agrees'.entries))) (All-nil Readable);
        };
        downs = downs_behind again;
      };
    }

    -- what is left of the arm

    left_is : left states' ≡ spent calls_of_append fuse
    left_is = left_of states' shelf' (shelf_found states.1 v shelf') ∙ ap burnt_noting journal.2 ∙ (stands_under fuse was.may_fire passes).left

    fires : IsArm (left states')
    fires = subst IsArm (sym left_is) (stands_under fuse was.may_fire passes).arm

    -- or no opaque is left, and the link is over

    over_world : Changed (now line states at) (gone line states') n v fv' (row_out link_number l (now line states at).links)
    over_world =
        let out : row_out link_number l w.links ≡ row_out link_number l (now line states at).links = sym (put_out l w.links (link_now line at) refl) in
        let same = unlinks (there line states') in
        record {
          powers = λ m. same.powers m ∙ same_powers line states states' m;
          here = same.vbs n v ∙ vb_put line states shelves' at fv';
          there = λ m q other. same.vbs m q ∙ vb_others line states shelves' at at fv' m q other;
          shelves = λ m q other. same.shelves m q ∙ shelves_but line states states' journals m q other;
          uuids = same.uuids;
          linked = same.linked ∙ out;
        }

    over_disk : DiskIsIf (told'.disk_at n v) (c'.disks k) (shelf_of (gone line states') n v) (Some fv')
    over_disk = disk' (shelf_of (gone line states') n v) ((unlinks (there line states')).shelves n v ∙ shelf_there)

    over_agrees : AgreesIn idle (gone line states') (after_end told' l) c'
    over_agrees = carries_left (busy_at line (f ∷ rest)) idle (now line states at) (gone line states') told (after_end told' l) c c' l (link_now line at) fv fv' going.agrees (found_now line states at) mine.follower_is follows follows
        over_world (roll_end_of l n v to told) changed sound (λ x ne. sym (one_idle l ([], f ∷ rest) x ne)) agrees' over_disk
        (consumer_rests (busy_at line (f ∷ rest)) (now line states at) (gone line states') told (after_end told' l) c c' l (link_now line at) fv fv' (row_out link_number l (now line states at).links)
        going.agrees (found_now line states at) mine.follower_is follows follows over_world (roll_end_of l n v to told) changed agrees' over_disk (λ m. refl) there_still
        (out_ends (busy_at line (f ∷ rest)) (now line states at) (gone line states') told c l (link_now line at) going.agrees (found_now line states at) over_world.powers over_world.linked))

    lawful : LawfulLine told rolled_line []
    lawful = ((l, link.server.desk.node, mine.dialed, back.point), farthest (told.disk_at n v).book named to told_point)

    -- its link is dialed as it was
    rolled_untaken : list_any is_taking events' ≡ false
    rolled_untaken = list_any-append is_taking events (rolled_line ∷ []) ∙ ap (λ x. x || false) none_yet

    rolled_untold : NoneTaken link.consumer.dialed link.consumer.taking at.taking events'
    rolled_untold = (none_told.0, list_any-append (is_role_of n v) events (rolled_line ∷ []) ∙ ap (λ x. x || false) none_told.1)

    rolled_beside : are_all is_beside events' ≡ true
    rolled_beside = are_more is_beside events (rolled_line ∷ []) (onward_beside events going.onward.lines) refl

    rolled_took : Took link.consumer.dialed events'
    rolled_took = took_more link.consumer.dialed events rolled_line none_pended (same_place n v)

    rolled_level : list_any is_rise events' ≡ false
    rolled_level = list_any-append is_rise events (rolled_line ∷ []) ∙ ap (λ x. x || false) (onward_level events going.onward.lines)

    rolled_dials : (after_lines r events').dial_of ≡ r.dial_of
    rolled_dials = ap (λ (x : Chronicle). x.dial_of) (after_more r events (rolled_line ∷ [])) ∙ (onward_all r events going.onward.lines).dials

    by_room : (b : Bool) → nat_lt at.asked (2 ^ 32 - 1) ≡ b → (came : Kept × DialResult) → came ≡ (states', again_with s' (if b then request_again wish s'.dial.consumer else (ended_for Protocol s'.dial.consumer, []))) → Reached line rest came
    by_room true e came q =
        let low : at.asked + 1 < 2 ^ 32 = grind (arith, nat_tests, e) in
        record {
          states = states';
          at = again;
          over = None;
          events = events';
          same = q;
          phase = Phase.Rolled;
          stage = (
            none_left,
            record {
              lawful = lawful_more r events (rolled_line ∷ []) going.quiet going.lawful (lawful, tt);
              quiet = quiet_more events (rolled_line ∷ []) going.quiet (tt, tt);
              what = noted.Roll to;
              rolls = rolls;
              dials = rolled_dials;
              none_taken = rolled_untaken;
              untold = rolled_untold;
              took = rolled_took;
              uncut = λ e. cc;
              beside = rolled_beside;
              ending = λ why q. cc;
              level = rolled_level;
              came = (
                ap over_why back.asks,
                rolled_last events n v named to,
                burnt states' left_is fires (busy_at line []) (now line states' again) (with_links (lifted_at line states') (row_put link_number l (link_now line again) w.links)) (after_lines r events') c'
                    (lifts states' (row_put link_number l (link_now line again) w.links))
                    (ap (λ (t : Chronicle). t.arm_at) (after_more r events (rolled_line ∷ [])))
                    (moved_agrees line f rest states shelves' at again events fv fv' (rolled_line ∷ []) c' going journals mine.follower_is follows follows refl refl there_still (roll_taken_of l n v to told) changed sound agrees' (disk' (shelf_of (now line states' again) n v) shelf_there) [] (link_agrees low))
                    (one_none l),
                (told_closed ∙ opens, (stands_under fuse was.may_fire passes).answers),
                one_back events n v named to going.onward.lines,
              );
            },
          );
        }
    by_room false e came q = record {
      states = states';
      at = record { out = at.out ++ []; waiting = at.waiting; asked = at.asked; acked = at.acked; taking = at.taking };
      over = Some Protocol;
      events = events';
      same = q;
      phase = Phase.Rolled;
      stage = (
        none_left,
        record {
          lawful = lawful_more r events (rolled_line ∷ []) going.quiet going.lawful (lawful, tt);
          quiet = quiet_more events (rolled_line ∷ []) going.quiet (tt, tt);
          what = noted.Roll to;
          rolls = rolls;
          dials = rolled_dials;
          none_taken = rolled_untaken;
          untold = rolled_untold;
          took = rolled_took;
          uncut = λ e. cc;
          beside = rolled_beside;
          ending = λ why q. subst (λ k. EndsSo line k events') (let z : Some Protocol ≡ Some why = q in let y : Protocol ≡ why = cc in y) tt;
          level = rolled_level;
          came = (
            rolled_last events n v named to,
            subst (λ x. Agrees (unlinked link (lifted_at line states')) (after_calls calls_of_append n (after_end x l))) (sym (after_more r events (rolled_line ∷ [])))
                (burnt states' left_is fires idle (gone line states') (unlinked link (lifted_at line states')) (after_end told' l) c' (over_lifts states') refl over_agrees (λ j. refl)),
            (told_closed ∙ opens, (stands_under fuse was.may_fire passes).answers),
            one_back events n v named to going.onward.lines,
          );
        },
      );
    }

    -- the consumer went back
    pub back_stood : Reached line rest (after_job (roll_back named s) states.0 states.1)
    back_stood = by_room (nat_lt at.asked (2 ^ 32 - 1)) refl (after_job (roll_back named s) states.0 states.1) (rolled_came ∙ asked_came)
