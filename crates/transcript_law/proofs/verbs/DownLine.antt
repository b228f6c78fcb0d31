-- the line `down`, from what agrees before it to what agrees after it
use Rattle.std.specs.Prelude.{◌≡◌, ◌∷◌, ◌++◌}
use Rattle.transcript_law.proofs.{invariant.Tables.{id_here}, links.Owing.{all_acked}}
use Rattle.transcript_law.specs.Undone.{AllAcknowledged, is_taking}
use Rattle.transcript_law.proofs.Words.{List, [], refl, ap, sym, subst, inl, Option, Some, None, EndReason, Event, Frame, StaysSound, after_job, DialResult}
use Rattle.transcript_law.proofs.Words.{frames_taken, after_lines, ℕ, drop, take, ◌∙◌, append-nil, All, frames_in, left_of, Readable, pieces_of_frames, row_at, after_job_bind, over_why}
use Rattle.transcript_law.proofs.Words.{dial_bytes, PlainLink, link_number, producer_node, consumer_node, dial_of, moved_len, down_result, PlainWorld, Outcome, with_node_at, with_link, Chronicle, Dial}
use Rattle.transcript_law.proofs.{links.Downing.{RolledAt, broken_answer, lifted_at, Asker, Line, so_far, link_now, now, Going, Stage, Reached, linked}}
use Rattle.transcript_law.proofs.{links.Downing.{busy_at}, invariant.Agreement.{LinkAgrees, DownAgrees, idle, Agrees, GoesOn}, links.Deliveries.{bytes_reached, taken_counts}}
use Rattle.transcript_law.proofs.{invariant.LinkRows.{found_is_link}, invariant.OneLink.{carries_link, carries_same}, lines.Lines.{after_more, lawful_more}, invariant.Carried.{told_of_same, one_here}}
use Rattle.transcript_law.proofs.{invariant.Carried.{one_idle, one_none, talk_same}, verbs.NodeLines.{node_of_same_vbs}}
use Rattle.{mcbp_frame.specs.Cutting.{fault_in, Parted}, node_core.specs.Dials.{bytes_counted, fault_met, with_end_line, with_last_line, rest_met, bytes_taken}, node_world.specs.Links.{left_unless}}
use Rattle.{node_world.specs.Nodes.{PlainNode, with_kept}, vb_events.specs.declared.event.EndReason.TheVariants.{Disk}}
use Rattle.vb_events.specs.declared.event.Event.TheVariants as event
use Rattle.transcript_law.proofs.{invariant.Agreement.{DiskIsIf, IsLink, consumer_seat, shelf_of}, disks.ArmedLines.{AreEnds, ArmedCame, IsNoting}, invariant.Carrying.{Relinked}, disks.Downed.{down_ends}, disks.Firing.{BrokenCame, breaks, role_noting, this_noting}, invariant.LinkRows.{out_links, put_same}, lines.Lines.{AreQuiet}, verbs.NodeLines.{agrees_same}, links.Onward.{Kept, ended_back, onward_all, onward_beside, onward_level, onward_none, over_apart, over_here, unarmed}}
use Rattle.transcript_law.proofs.Words.{Bool, true, false, list_any, list_any-append, option_map, eqb-true, eqb-false, shelf_in, unlinked, with_links, row_put, LawfulFrom, after_end, refusal, node_outcome, with_line}
use Rattle.std.specs.Prelude.{◌==◌, ◌||◌, ◌⊎◌, if◌then◌else◌}
use Rattle.disk_journals.specs.Arms.{arm_over, fuse_at, under}
use Rattle.{node_core.specs.Dials.{is_broken}, node_world.specs.Arms.{fired_by, fuse_or, lifted}, node_world.specs.Links.{down_answer}, node_world.specs.Power.{after_broken, disk_end, down_lines, with_broken}, node_world.specs.World.{at_end, down_in, down_outcome, down_step, link_outcome}, node_world.specs.Worlds.{arm_in}}
use Rattle.{node_world.specs.declared.arm.Arm.{Arm}, node_world.specs.declared.arm.Fired.{Fired}}
use Rattle.node_world.specs.declared.arm.Fired.TheVariants as fired
use Rattle.script_text.specs.declared.verb.Verb.TheVariants as verb
use Rattle.script_text.specs.declared.verb.LinkVerb.TheVariants as link_verb
use Rattle.{transcript_law.specs.Chronicles.{after_append, after_calls, after_moved, after_noted, after_rollback, after_verb, appending, as_noted, calls_of_append, heir_in, is_rise, is_rollback}, vb_calls.specs.Shelves.{Shelf}}
use Rattle.transcript_law.proofs.{invariant.Agreement.{PowerIsIf}, disks.Disks.{power_in}, links.Downing.{FiredIn}, links.PumpAnswers.{moved_few}}
use Rattle.transcript_law.specs.{Lawfulness.{IsOpen}, LineAnswers.{Back, GoesBack, IsNoted, IsOwed, IsTakenDown, arm_of_dial, back_of, closed_of_dial}}
use Rattle.vb_disk.specs.declared.fuse.Fuse.{Fuse}
use Rattle.vb_disk.specs.declared.fuse.Fuse.TheVariants.{Off}
use Rattle.vb_events.specs.declared.event.Answer.{Answer}
use Rattle.vb_events.specs.declared.event.Answer.TheVariants as answer
use Rattle.vb_events.specs.declared.event.Cause.{Cause}
use Rattle.vb_events.specs.declared.event.Cause.TheVariants as cause
use Rattle.transcript_law.proofs.lines.Rises.{no_heir}
use Rattle.transcript_law.proofs.Words.{Role, inr, ⊎_elim}
use Rattle.transcript_law.proofs.{invariant.Noted.{AllFree, AllNoted, FreeFor, NotedLink}, links.Downing.{Noticed, OwnedAt, Phase}, verbs.DownFrames.{frames_reached, open_of}}
use Rattle.transcript_law.proofs.{invariant.{AtRest.{RestsIf}, CallsKept.{AllAt}}, verbs.DownRests.{frames_rest}}
use Rattle.mcbp_frame.proofs.Pieces.{frames-left, left-left}
use Rattle.takeover.specs.declared.take_over.TakeOver.{TakeOver}
use Rattle.transcript_law.proofs.links.{Downing.{found_now}, Takes.{DownLeft, OwnTaken, TakesOn, heir_turns, own_is, owns_unturned}}
use Rattle.takeover.specs.declared.take_over.TakeStep.TheVariants.{Own, Pend}
use Rattle.transcript_law.{proofs.{Words.{Cluster, vb_in}, balance.Leaving.{dropped_among}, verbs.Leaving.{row_found}}, specs.TakeoverNotes.{is_role_of}}
use Rattle.transcript_law.proofs.verbs.DownTold.{behind_none, ended_tells, ends_level, ends_none, ends_unturned, heir_more, heir_rises, moved_heir, moved_level, moved_none, moved_one, told_of_none}
use Rattle.transcript_law.{proofs.verbs.{DownSays.{Tail, owns_alone, owns_over, says_alone, says_over, says_owns, says_took, tail_closed, tail_failed, tail_stopped}, StopTellings.{out_dialed, world_dialed}}, specs.Takeovers.{TellsOnly}}
use Rattle.transcript_law.{proofs.{balance.{Levels.{Has, has_more}, Measures.{frames_back, spelled}}, links.Downing.{EndsSo}, noted.Ending.{AllEnding, EndsAs, coming_down}, verbs.{DownEach.{each_alone, each_closed, each_failed, each_over, each_stopped}, Untaken.{is_beside}}}, specs.{TakeoverLines.{TakeoverFrom}, Tellings.{are_all}}}
use Rattle.vb_types.specs.declared.journal.Record.{Record}

-- where its lines tell that something was taken, all was acknowledged that is due, unless it is refused
abbrev pub Acknowledges : Chronicle → ℕ → List Event → Answer → Type 0
Acknowledges r l lines (answer.Number n) = list_any is_taking lines ≡ true → AllAcknowledged (after_lines r lines) l
Acknowledges r l lines other = Unit {0}

-- what is left of the link is as it was but for what its consumer wrote and took
abbrev pub Leaves : Chronicle → ℕ → List PlainLink → List PlainLink → List Event → Answer → Type 0
Leaves r l links links' lines (answer.Number n) = (link link' : PlainLink) → row_at link_number l links ≡ Some link → row_at link_number l links' ≡ Some link' → DownLeft r lines link link'
Leaves r l links links' lines other = (x : PlainLink) → IsLink x links' → link_number x ≡ l → ⊥

-- where its consumer's vBucket took its branch over before, no line tells of its role
abbrev pub Unturned : ℕ → List PlainLink → List Event → Type 0
Unturned l links lines = (link : PlainLink) → row_at link_number l links ≡ Some link → link.consumer.taking.last ≡ Some Own → list_any (is_role_of link.consumer.dialed.node link.consumer.dialed.vb) lines ≡ false

-- each line stands where it may, where an end on its way to the consumer is as lines know it
abbrev pub Each : Chronicle → ℕ → List PlainLink → List Event → Type 0
Each r l links lines = (link : PlainLink) → row_at link_number l links ≡ Some link → EndsAs (r.takeover_of l) link → TakeoverFrom r lines

-- a line `down` for the link l
abbrev DownGoes : Chronicle → ℕ → ℕ → Bool → Fuse → List PlainLink → Outcome → Type 0
DownGoes r l wanted closed f links x = GoesOn r (λ told. after_moved told (heir_in x.1.events) (back_of r l) x.1.events x.1.answer) x × IsTakenDown wanted (back_of r l) closed f x.1.events x.1.answer × Acknowledges r l x.1.events x.1.answer × Leaves r l links x.0.links x.1.events x.1.answer × Unturned l links x.1.events × TellsOnly r (verb.AtLink l (link_verb.Down wanted)) x.1.events × Each r l links x.1.events

-- one that is refused
refused_closed : (x : Chronicle) (rolls : Back) → after_rollback x rolls [] (answer.No cause.LinkClosed) ≡ x
refused_closed x None = refl
refused_closed x (Some (n, (v, what))) = refl

refused_unknown : (x : Chronicle) (rolls : Back) → after_rollback x rolls [] (answer.No cause.UnknownNode) ≡ x
refused_unknown x None = refl
refused_unknown x (Some (n, (v, what))) = refl

module _ (stays : StaysSound) (w : PlainWorld) (r : Chronicle) (link : PlainLink) (node : PlainNode) (wanted : ℕ) (found : row_at link_number (link_number link) w.links ≡ Some link) (known : w.nodes (consumer_node link) ≡ Some node)
    (a : Agrees w r) (noted : NotedLink (r.takeover_of (link_number link)) link) (free : FreeFor r link) where
  -- how many bytes are moved, those that the reader has then, and the frames among them
  abbrev moved : ℕ
  moved = moved_len wanted link.down

  abbrev bytes : List ℕ
  bytes = link.down_heard ++ take moved link.down

  -- the vBucket v of the node n is fed by the link l
  open link.consumer.dialed use {node as n, vb as v, link as l}

  abbrev line : Line
  line = record { w = w; r = r; link = link; node = node; moved = moved; left = left_of bytes; all = frames_in bytes; found = found }

  -- where the consumer's end stands before the line
  abbrev at : Asker
  at = record { out = []; waiting = link.consumer.handshake; asked = link.consumer.asked; acked = link.consumer.acked; taking = link.consumer.taking }

  abbrev start : PlainLink
  start = link_now line at

  abbrev fuse : Fuse
  fuse = node.arm.fuse

  -- whether the vBucket's journal is told closed
  abbrev closed : Bool
  closed = (r.disk_at n v).closed

  -- the node with its arm over the disk of the vBucket
  abbrev armed : Kept
  armed = (node.vbs, arm_over node.shelves v fuse)

  mine : LinkAgrees w r a.0 link [] []
  mine = a.1.links link (found_is_link l w.links link found).0

  parted : (all : List Frame) → DownAgrees link [] all → Parted all bytes (drop moved link.down)
  parted all x = subst (λ y. Parted y bytes (drop moved link.down)) (sym x.joined)
      (pieces_of_frames link.down_heard link.down x.behind moved (subst (All Readable) x.joined x.readable) x.bytes)

  -- the journal of the vBucket
  disk : DiskIsIf (r.disk_at n v) (a.0.disks (consumer_seat link)) (node.shelves v) (Some mine.follower)
  disk = subst (λ s. DiskIsIf (r.disk_at n v) (a.0.disks (consumer_seat link)) s (Some mine.follower)) (ap (λ o. shelf_in o v) known)
      (subst (DiskIsIf (r.disk_at n v) (a.0.disks (consumer_seat link)) (shelf_of w n v)) mine.follower_is (a.1.disks n v))

  journal : (shelf : Shelf) × (node.shelves v ≡ Some shelf) × (shelf.fuse ≡ Off)
  journal = by (node.shelves v) refl disk
    where
      by : (o : Option Shelf) → node.shelves v ≡ o → DiskIsIf (r.disk_at n v) (a.0.disks (consumer_seat link)) o (Some mine.follower) → (shelf : Shelf) × (node.shelves v ≡ Some shelf) × (shelf.fuse ≡ Off)
      by None e x = absurd x
      by (Some shelf) e x = (shelf, e, x.unarmed)

  abbrev shelf : Shelf
  shelf = journal.0

  armed_here : armed.1 v ≡ Some (under fuse shelf)
  armed_here = over_here node.shelves v fuse shelf journal.1

  -- once the arm is taken off, all journals are as they were
  same_shelves : (q : ℕ) → (unarmed v armed).1 q ≡ node.shelves q
  same_shelves q = elim (q == v) as (λ b. (q == v) ≡ b → (unarmed v armed).1 q ≡ node.shelves q) [
    | true ↦ λ e. ap (unarmed v armed).1 (eqb-true q v e) ∙ over_here armed.1 v Off (under fuse shelf) armed_here ∙ (λ i. Some (record shelf { fuse = sym journal.2 i })) ∙ sym journal.1 ∙ ap node.shelves (sym (eqb-true q v e))
    | false ↦ λ e. over_apart armed.1 v Off q (eqb-false q v e) ∙ over_apart node.shelves v fuse q (eqb-false q v e)
  ] refl

  begins : Relinked w (with_node_at w n (with_kept node (unarmed v armed))) w.links
  begins = node_of_same_vbs w n node (with_kept node (unarmed v armed)) known (λ q. refl) same_shelves refl

  -- the frames that come whole are about to be taken
  start_agrees : LinkAgrees (now line armed at) r a.0 start [] (frames_in bytes)
  start_agrees = let t = mine.talk in let y = parted t.said t.downs in record {
    follower = mine.follower;
    follower_is = begins.vbs (consumer_node link) link.consumer.dialed.vb ∙ mine.follower_is;
    follows = mine.follows;
    acks = mine.acks;
    dial = mine.dial;
    talk = talk_same refl (begins.vbs (producer_node link) link.consumer.dialed.vb) refl refl refl refl (record {
      asked = t.asked;
      said = t.said;
      stands = t.stands;
      ups = record { behind = t.ups.behind; joined = t.ups.joined; bytes = ap (λ b. link.up_heard ++ b) (append-nil link.up) ∙ t.ups.bytes; readable = t.ups.readable };
      downs = record { behind = y.later; joined = y.joined; bytes = y.behind; readable = t.downs.readable };
    });
  }

  start_reached : Reached line (frames_in bytes) (armed, so_far line at None [])
  start_reached = record {
    states = armed;
    at = at;
    over = None;
    events = [];
    same = refl;
    phase = Phase.Moving;
    stage = (
      record {
        lawful = tt;
        quiet = tt;
        onward = record { arm = ap (option_map (λ (s : Shelf). s.fuse)) armed_here; lines = tt };
        takes = inl (refl, refl);
        tells = inl refl;
        cluster = a.0;
        agrees = carries_link idle (busy_at line (frames_in bytes)) w (now line armed at) r r a.0 l link start a.1 found (record { dialed = refl; desk = refl })
            (record { powers = begins.powers; vbs = begins.vbs; shelves = begins.shelves; uuids = refl; linked = refl }) (λ q id has. has) (told_of_same l r) (one_idle l ([], frames_in bytes))
            (subst (λ b. LinkAgrees (now line armed at) r a.0 start b.0 b.1) (sym (one_here l ([], frames_in bytes))) start_agrees);
      },
      λ t. cc,
    );
  }

  noticed : Noticed line
  noticed = record { dialed_for = noted.dialed; free = free; none_whole = frames-left bytes; rest_left = left-left bytes }

  abbrev taken : Kept × DialResult
  taken = after_job (frames_taken (frames_in bytes) (so_far line at None [])) armed.0 armed.1

  frames_came : Reached line [] taken
  frames_came = frames_reached stays line noticed (frames_in bytes) (λ f has. has) armed (so_far line at None []) start_reached

  -- and what is acknowledged by its bytes
  came : Reached line [] (taken.0, bytes_counted (frames_in bytes) taken.1)
  came = bytes_reached line (frames_in bytes) taken frames_came (taken_counts (frames_in bytes) (so_far line at None []) armed.0 armed.1)

  -- what is told of them, and of the link's end
  abbrev known_of : Asker → Option EndReason → List Event → DialResult
  known_of at' over events = with_last_line (so_far line at' over events)

  abbrev given : Kept × DialResult
  given = after_job (dial_bytes (take moved link.down) (dial_of link)) armed.0 armed.1

  given_is : given ≡ (came.states, known_of came.at came.over came.events)
  unfolding bytes_taken
  given_is = after_job_bind (frames_taken (frames_in bytes) (so_far line at None [])) (rest_met (frames_in bytes)) armed.0 armed.1
      ∙ ap (λ y. after_job (rest_met (frames_in bytes) y.1) y.0.0 y.0.1) frames_came.same
      ∙ ap (λ o. (frames_came.states, with_last_line (bytes_counted (frames_in bytes) (fault_met o (so_far line frames_came.at frames_came.over frames_came.events))))) (ap fault_in (parted mine.talk.said mine.talk.downs).waits)
      ∙ ap (λ y. (y.0, with_last_line (bytes_counted (frames_in bytes) y.1))) (sym frames_came.same) ∙ ap (λ y. (y.0, with_last_line y.1)) came.same

  -- the world after the line and what is told of it, before the arm is looked at, and then
  abbrev outcome_of : Kept × DialResult → Outcome
  outcome_of came = let x = down_result link moved node came in with_link link (with_node_at w n (lifted v x.0), x.1)

  abbrev Goes : Kept × DialResult → Type 0
  Goes came = DownGoes r l wanted closed fuse w.links (with_broken n l w (outcome_of came))

  -- while no rollback was begun, the arm is as it was
  arm_stays : (states : Kept) → fuse_at states.1 v ≡ Some fuse → ◌≡◌ {A = PlainNode} (with_kept node (unarmed v states)) (lifted v (with_kept node states))
  arm_stays states e = ap (λ o. record (with_kept node (unarmed v states)) { arm = record node.arm { fuse = fuse_or fuse o } }) (sym e)

  -- while all agrees the link is open
  still_open : (states : Kept) (at' : Asker) (events : List Event) → Going line [] states at' events → over_why at'.waiting ≡ None
  still_open states at' events x =
      let there : LinkAgrees (now line states at') (after_lines r events) x.cluster (link_now line at') [] [] = linked line [] states at' events x in
      open_of there.talk.stands

  -- no link of its number is left
  none_left : (states : Kept) (x : PlainLink) → IsLink x (unlinked link (lifted_at line states)).links → link_number x ≡ l → ⊥
  none_left states x i = (out_links l w.links link x a.1.differ found i).1

  -- it tells of nothing else
  abbrev Says : List Event → Type 0
  Says lines = TellsOnly r (verb.AtLink l (link_verb.Down wanted)) lines

  -- what its consumer took
  abbrev Takes : Asker → List Event → Type 0
  Takes at' events = TakesOn r link.consumer.dialed link.consumer.taking at'.taking events ⊎ OwnTaken link.consumer.dialed link.consumer.taking at'.taking events

  takes_unturned : (at' : Asker) (events : List Event) → Takes at' events → link.consumer.taking.last ≡ Some Own → list_any (is_role_of n v) events ≡ false
  takes_unturned at' events takes owns = ⊎_elim (λ t. owns_unturned r link.consumer.dialed link.consumer.taking at'.taking events t owns) (λ t. let z : Some Pend ≡ Some Own = sym t.0 ∙ owns in cc) takes

  own_link : (own : PlainLink) → row_at link_number l w.links ≡ Some own → own ≡ link
  own_link own is = let z : Some own ≡ Some link = sym is ∙ found in cc

  -- the frames that come whole are on their way
  comes : (f : Frame) → Has f (frames_in bytes) → Has f (coming_down link)
  comes f has =
      let y = parted mine.talk.said mine.talk.downs in
      let all : coming_down link ≡ mine.talk.said = ap frames_in (mine.talk.downs.bytes ∙ ap spelled (sym mine.talk.downs.joined)) ∙ frames_back mine.talk.said mine.talk.downs.readable in
      subst (Has f) (sym (all ∙ y.joined)) (has_more f (frames_in bytes) y.later has)

  unturned : (lines : List Event) → (link.consumer.taking.last ≡ Some Own → list_any (is_role_of n v) lines ≡ false) → Unturned l w.links lines
  unturned lines none own is owns =
      let same : link ≡ own = (let z : Some link ≡ Some own = sym found ∙ is in cc) in
      subst (λ x. list_any (is_role_of x.consumer.dialed.node x.consumer.dialed.vb) lines ≡ false) same (none (subst (λ x. x.consumer.taking.last ≡ Some Own) (sym same) owns))

  left_open : (states : Kept) (at' : Asker) (events : List Event) → Takes at' events → Leaves r l w.links (row_put link_number l (link_now line at') w.links) events (answer.Number moved)
  left_open states at' events takes before behind has is =
      let same : link ≡ before = (let z : Some link ≡ Some before = sym found ∙ has in cc) in
      let now_is : link_now line at' ≡ behind = (let z : Some (link_now line at') ≡ Some behind = sym (found_now line states at') ∙ is in cc) in
      subst (λ x. DownLeft r events x behind) same (subst (λ x. DownLeft r events link x) now_is (record { server = refl; dialed = refl; heard = refl; out = at'.out; up = refl; takes = takes }))

  left_over : (states : Kept) (lines : List Event) → Leaves r l w.links (unlinked link (lifted_at line states)).links lines (answer.Number moved)
  left_over states lines before behind has is = let x = found_is_link l (unlinked link (lifted_at line states)).links behind is in absurd (none_left states behind x.0 x.1)

  -- the link is open at the end
  open_goes : (states : Kept) (at' : Asker) (events : List Event) → over_why at'.waiting ≡ None → LawfulFrom r events → (list_any is_rollback events ≡ true → GoesBack (back_of r l) events × IsNoted closed fuse answer.Ok)
      → (list_any is_rise events ≡ true → (list_any is_rollback events ≡ false) × IsNoted closed fuse answer.Ok) → Acknowledges r l events (answer.Number moved) → Takes at' events → Says events → (after_lines r events).dial_of ≡ r.dial_of → are_all is_beside events ≡ true
      → Agrees (with_links (lifted_at line states) (row_put link_number l (link_now line at') w.links)) (after_moved (after_lines r events) (heir_in events) (back_of r l) events (answer.Number moved)) → Goes (states, known_of at' None events)
  open_goes states at' events still lawful passes rises acks takes says dials beside agrees =
      subst (λ o. Goes (states, with_end_line o (so_far line at' None events))) (sym still)
      (subst (λ o. DownGoes r l wanted closed fuse w.links (with_broken n l w (with_link link (lifted_at line states, (left_unless o (link_now line at'), record { events = events; answer = down_answer moved o }))))) (sym still) ((lawful, agrees), (moved_few wanted link.down, passes, rises), acks, left_open states at' events takes, unturned events (takes_unturned at' events takes), says, λ own is ends. each_alone line mine.dialed events dials beside))

  -- its dial is told as before
  open_still : (events : List Event) → (after_lines r events).dial_of ≡ r.dial_of → IsOpen (after_lines r events) l
  open_still events dials = (_, ap (λ (f : ℕ → Option Dial). f l) dials ∙ (a.1.links link (found_is_link l w.links link found).0).dialed)

  -- of a link that is over nothing is due
  over_acked : (events : List Event) (why : EndReason) → AllAcknowledged (after_lines r (events ++ event.Ended l why ∷ [])) l
  over_acked events why dial g dialed is e owed =
      let none : (after_lines r (events ++ event.Ended l why ∷ [])).dial_of l ≡ None = ap (λ (x : Chronicle). x.dial_of l) (after_more r events (event.Ended l why ∷ [])) ∙ id_here (after_lines r events).dial_of l None in
      let z : None ≡ Some dial = sym none ∙ dialed in cc

  -- it is over, not because of the disk
  over_goes : (states : Kept) (at' : Asker) (why : EndReason) (events : List Event) → is_broken (Some why) ≡ false → LawfulFrom r events → AreQuiet events → (after_lines r events).dial_of ≡ r.dial_of → (list_any is_rollback (events ++ event.Ended l why ∷ []) ≡ true → GoesBack (back_of r l) (events ++ event.Ended l why ∷ []) × IsNoted closed fuse answer.Ok)
      → (list_any is_rise (events ++ event.Ended l why ∷ []) ≡ true → (list_any is_rollback (events ++ event.Ended l why ∷ []) ≡ false) × IsNoted closed fuse answer.Ok)
      → (link.consumer.taking.last ≡ Some Own → list_any (is_role_of n v) events ≡ false) → Says (events ++ event.Ended l why ∷ []) → are_all is_beside events ≡ true → EndsSo line why events → Agrees (unlinked link (lifted_at line states)) (after_moved (after_end (after_lines r events) l) (heir_in (events ++ event.Ended l why ∷ [])) (back_of r l) (events ++ event.Ended l why ∷ []) (answer.Number moved)) → Goes (states, known_of at' (Some why) events)
  over_goes states at' why events other lawful quiet dials passes rises none says beside ending agrees =
      let s : DialResult = so_far line at' (Some why) events in
      subst (λ b. Goes (states, if b then s else with_line s (event.Ended l why))) (sym other)
      (subst (λ b. DownGoes r l wanted closed fuse w.links (with_broken n l w (unlinked link (lifted_at line states), record { events = events ++ event.Ended l why ∷ []; answer = if b then answer.No cause.Disk else answer.Number moved }))) (sym other) (
        (
          lawful_more r events (event.Ended l why ∷ []) quiet lawful (open_still events dials, tt),
          subst (λ x. Agrees (unlinked link (lifted_at line states)) (after_moved x (heir_in (events ++ event.Ended l why ∷ [])) (back_of r l) (events ++ event.Ended l why ∷ []) (answer.Number moved))) (sym (after_more r events (event.Ended l why ∷ []))) agrees,
        ),
        (moved_few wanted link.down, passes, rises),
        (λ takes. over_acked events why),
        left_over states (events ++ event.Ended l why ∷ []),
        unturned (events ++ event.Ended l why ∷ []) (λ owns. ended_tells (is_role_of n v) events l why false refl (none owns)),
        says,
        (λ own is ends. each_over line mine.dialed events dials beside noted.dialed comes (subst (EndsAs (r.takeover_of l)) (own_link own is) ends) why ending),
      ))

  -- it is over because of the disk: a record could not be written down, of a rollback or of the role of a vBucket that took its branch over
  record Broken (states : Kept) (events : List Event) : Type 0 where
    noting : Answer → Chronicle → Chronicle
    is_noting : IsNoting n noting
    told_is : (more : List Event) → list_any is_rise more ≡ false → (why : Cause) (q : Chronicle) → noting (answer.No why) q ≡ after_moved q (heir_in (events ++ more)) (back_of r l) (events ++ more) (answer.No why)
    ended : (q : Chronicle) → noting (answer.No cause.Closed) (after_end q l) ≡ after_end (noting (answer.No cause.Closed) q) l
    owed : (more : List Event) → IsOwed (back_of r l) (events ++ more)
    lawful : LawfulFrom r events
    quiet : AreQuiet events
    dials : (after_lines r events).dial_of ≡ r.dial_of
    level : list_any is_rollback events ≡ false
    none : link.consumer.taking.last ≡ Some Own → list_any (is_role_of n v) events ≡ false
    says : (more : List Event) → Tail r link.consumer.dialed link.server.desk.node wanted mine.dialed more → Says (events ++ more)
    beside : are_all is_beside events ≡ true
    came : (let left : PlainWorld = unlinked link (lifted_at line states) in let how : Fired = fired_by fuse (arm_in (left.nodes n)).fuse in ArmedCame n noting how (after_lines r events) left (broken_answer how) × FiredIn how closed fuse)

  module _ (states : Kept) (at' : Asker) (events : List Event) (x : Broken states events) where
    abbrev left : PlainWorld
    left = unlinked link (lifted_at line states)

    abbrev out : Fired → Outcome
    out f = after_broken n l (arm_in (w.nodes n)).out f (left, record { events = events; answer = answer.No cause.Disk })

    abbrev how : Fired
    how = fired_by (arm_in (w.nodes n)).fuse (arm_in (left.nodes n)).fuse

    came_by : (f : Fired) → ArmedCame n x.noting f (after_lines r events) left (broken_answer f) → BrokenCame n x.noting f (after_lines r events) left
    came_by fired.No y = y
    came_by fired.Failed y = y.1
    came_by fired.Stopped y = (y.1, y.2)

    abbrev stopped : List Event
    stopped = event.NodeStopped n ∷ down_lines n (Some l) left

    told_by : (f : Fired) (q : Chronicle) → x.noting (out f).1.answer q ≡ after_moved q (heir_in (out f).1.events) (back_of r l) (out f).1.events (out f).1.answer
    told_by fired.No q = x.told_is (disk_end l) refl cause.Closed q
    told_by fired.Failed q = x.told_is (event.CallFailed n ∷ disk_end l) refl cause.Disk q
    told_by fired.Stopped q = x.told_is stopped (ends_level (down_lines n (Some l) left) (down_ends n (Some l) left)) cause.Stopped q

    broken_came : BrokenCame n x.noting how (after_lines r events) left
    broken_came = came_by how (subst (λ (g : Arm). let f = fired_by g.fuse (arm_in (left.nodes n)).fuse in ArmedCame n x.noting f (after_lines r events) left (broken_answer f)) (sym (ap arm_in known)) x.came.0)

    -- the arm says how
    answered : (f : Fired) → FiredIn f closed fuse → IsTakenDown wanted (back_of r l) closed fuse (out f).1.events (out f).1.answer
    answered fired.No i = (i, x.owed (disk_end l), behind_none is_rollback events (disk_end l) x.level refl)
    answered fired.Failed i = (i, x.owed (event.CallFailed n ∷ disk_end l), behind_none is_rollback events (event.CallFailed n ∷ disk_end l) x.level refl)
    answered fired.Stopped i = (i, x.owed stopped, behind_none is_rollback events stopped x.level (ends_none (down_lines n (Some l) left) (down_ends n (Some l) left)))

    refused : (f : Fired) → Acknowledges r l (out f).1.events (out f).1.answer
    refused fired.No = tt
    refused fired.Failed = tt
    refused fired.Stopped = tt

    none_told : (f : Fired) → Leaves r l w.links (out f).0.links (out f).1.events (out f).1.answer
    none_told fired.No = none_left states
    none_told fired.Failed = none_left states
    none_told fired.Stopped = λ y i. none_left states y (dropped_among n (arm_in (w.nodes n)).out left y i)

    says_by : (f : Fired) → Says (out f).1.events
    says_by fired.No = x.says (disk_end l) (tail_closed r link.consumer.dialed link.server.desk.node wanted mine.dialed)
    says_by fired.Failed = x.says (event.CallFailed n ∷ disk_end l) (tail_failed r link.consumer.dialed link.server.desk.node wanted mine.dialed)
    says_by fired.Stopped = x.says stopped (tail_stopped r link.consumer.dialed link.server.desk.node wanted mine.dialed left (out_dialed r l w.links (world_dialed w r a)))

    each_by : (f : Fired) → TakeoverFrom r (out f).1.events
    each_by fired.No = each_closed line mine.dialed events x.dials x.beside
    each_by fired.Failed = each_failed line mine.dialed events x.dials x.beside
    each_by fired.Stopped = each_stopped line mine.dialed events x.dials x.beside left (out_dialed r l w.links (world_dialed w r a))

    turns_none : (f : Fired) → link.consumer.taking.last ≡ Some Own → list_any (is_role_of n v) (out f).1.events ≡ false
    turns_none fired.No owns = behind_none (is_role_of n v) events (disk_end l) (x.none owns) refl
    turns_none fired.Failed owns = behind_none (is_role_of n v) events (event.CallFailed n ∷ disk_end l) (x.none owns) refl
    turns_none fired.Stopped owns = behind_none (is_role_of n v) events stopped (x.none owns) (ends_unturned n v (down_lines n (Some l) left) (down_ends n (Some l) left))

    broken_goes : Goes (states, known_of at' (Some Disk) events)
    broken_goes =
        let g = breaks stays n x.noting x.is_noting w left r events l x.ended (none_left states) (open_still events x.dials) a x.lawful x.quiet broken_came in
        ((g.0, subst (Agrees (out how).0) (told_by how (after_lines r (out how).1.events)) g.1), answered how (subst (λ (g : Arm). FiredIn (fired_by g.fuse (arm_in (left.nodes n)).fuse) closed fuse) (sym (ap arm_in known)) x.came.1), refused how, none_told how, unturned (out how).1.events (turns_none how), says_by how, λ own is ends. each_by how)

  back_broken : (states : Kept) (at' : Asker) (events : List Event) → RolledAt line (Some Disk) states at' events → Broken states events
  back_broken states at' events x = record {
    noting = λ said q. after_append q n v (appending x.what) said;
    is_noting = this_noting n v (appending x.what);
    told_is = λ more level why q. ap (λ o. after_rollback q o (events ++ more) (answer.No why)) (sym x.rolls) ∙ sym (moved_level q (back_of r l) (events ++ more) (answer.No why) (behind_none is_rise events more x.level level));
    ended = λ q. refl;
    owed = λ more. inl (_, x.rolls);
    lawful = x.lawful;
    quiet = x.quiet;
    dials = x.dials;
    level = x.came.2;
    none = λ owns. x.untold.1;
    beside = x.beside;
    says = λ more tail. says_took r link.consumer.dialed link.server.desk.node wanted mine.dialed events more x.took tail.told;
    came = (x.came.0, x.came.1);
  }

  own_broken : (states : Kept) (at' : Asker) (events : List Event) → OwnedAt line [] (Some Disk) states at' events → Broken states events
  own_broken states at' events x = record {
    noting = λ said q. after_noted q n v Role.Active said;
    is_noting = role_noting n v Role.Active;
    told_is = λ more level why q. sym (moved_heir q (back_of r l) n v (events ++ more) (answer.No why) (heir_more events more (n, v) x.heir));
    ended = λ q. refl;
    owed = λ more. inr (heir_rises (events ++ more) (n, v) (heir_more events more (n, v) x.heir));
    lawful = x.lawful;
    quiet = x.quiet;
    dials = x.dials;
    level = x.none_back;
    none = λ owns. let z : Some Pend ≡ Some Own = sym x.pended ∙ owns in cc;
    beside = x.beside;
    says = λ more tail. says_owns r link.consumer.dialed link.server.desk.node wanted mine.dialed events more x.takes_over tail.ends;
    came = x.came;
  }

  -- no line tells of a rollback
  none_back : (lines : List Event) → list_any is_rollback lines ≡ false → list_any is_rollback lines ≡ true → GoesBack (back_of r l) lines × IsNoted closed fuse answer.Ok
  none_back lines none e = let z : true ≡ false = sym e ∙ none in cc

  -- nor of a vBucket that is active
  never_rises : (lines : List Event) → list_any is_rise lines ≡ false → list_any is_rise lines ≡ true → (list_any is_rollback lines ≡ false) × IsNoted closed fuse answer.Ok
  never_rises lines level e = let z : true ≡ false = sym e ∙ level in cc

  end_goes : (states : Kept) (at' : Asker) (over : Option EndReason) (events : List Event) (phase : Phase) → Stage line phase [] states at' over events → Goes (states, known_of at' over events)
  end_goes states at' None events Phase.Moving x =
      let none = onward_none events x.0.onward.lines in let level = onward_level events x.0.onward.lines in
      open_goes states at' events (still_open states at' events x.0) x.0.lawful (none_back events none) (never_rises events level) (all_acked line states at' events x.0 x.1) (inl x.0.takes) (says_alone r link.consumer.dialed link.server.desk.node wanted mine.dialed at'.taking events x.0.tells) (onward_all r events x.0.onward.lines).dials (onward_beside events x.0.onward.lines)
      (subst (Agrees (with_links (lifted_at line states) (row_put link_number l (link_now line at') w.links))) (sym (moved_none (after_lines r events) (back_of r l) events moved level none))
      (subst (λ y. Agrees (with_links (with_node_at w n y) (row_put link_number l (link_now line at') w.links)) (after_lines r events)) (arm_stays states x.0.onward.arm)
      (x.0.cluster, carries_same (busy_at line []) idle (now line states at') (now line states at') (after_lines r events) x.0.cluster x.0.agrees (record { powers = λ m. refl; vbs = λ m q. refl; shelves = λ m q. refl; uuids = refl; linked = refl }) (one_none l))))
  end_goes states at' (Some why) events Phase.Moving x =
      let lines : List Event = events ++ event.Ended l why ∷ [] in
      let none = ended_tells is_rollback events l why false refl (onward_none events x.onward.lines) in let level = ended_tells is_rise events l why false refl (onward_level events x.onward.lines) in
      over_goes states at' why events x.not_disk x.lawful x.quiet (onward_all r events x.onward.lines).dials (none_back lines none) (never_rises lines level) x.unturned (says_over r link.consumer.dialed link.server.desk.node wanted mine.dialed x.told events why x.own_end x.tells) (onward_beside events x.onward.lines) x.ending
      (subst (Agrees (unlinked link (lifted_at line states))) (sym (moved_none (after_end (after_lines r events) l) (back_of r l) lines moved level none))
      (subst (λ y. Agrees (unlinked link (with_node_at w n y)) (after_end (after_lines r events) l)) (arm_stays states x.onward.arm) (x.cluster, x.agrees)))
  end_goes states at' None events Phase.Rolled x = open_goes states at' events x.1.came.0 x.1.lawful (λ e. ((_, x.1.rolls, x.1.came.4), x.1.came.3)) (never_rises events x.1.level) (λ takes. let z : true ≡ false = sym takes ∙ x.1.none_taken in cc) (inl (inl x.1.untold)) (says_alone r link.consumer.dialed link.server.desk.node wanted mine.dialed at'.taking events (inl x.1.took)) x.1.dials x.1.beside
      (subst (Agrees (with_links (lifted_at line states) (row_put link_number l (link_now line at') w.links))) (sym (moved_one (after_lines r events) (back_of r l) n v x.1.what events moved x.1.rolls x.1.level x.1.came.1)) x.1.came.2)
  end_goes states at' (Some Disk) events Phase.Rolled x = broken_goes states at' events (back_broken states at' events x.1)
  end_goes states at' (Some why) events Phase.Rolled x =
      let lines : List Event = events ++ event.Ended l why ∷ [] in let level = ended_tells is_rise events l why false refl x.1.level in
      over_goes states at' why events refl x.1.lawful x.1.quiet x.1.dials (λ e. ((_, x.1.rolls, ended_back events l why ∙ x.1.came.3), x.1.came.2)) (never_rises lines level) (λ owns. x.1.untold.1) (says_over r link.consumer.dialed link.server.desk.node wanted mine.dialed at'.taking events why (own_is why refl x.1.uncut) (inl x.1.took)) x.1.beside (x.1.ending why refl)
      (subst (Agrees (unlinked link (lifted_at line states))) (sym (moved_one (after_end (after_lines r events) l) (back_of r l) n v x.1.what lines moved x.1.rolls level (ended_tells is_rollback events l why true refl x.1.came.0))) x.1.came.1)
  end_goes states at' None events Phase.Owned x =
      let there : PlainWorld = with_links (lifted_at line states) (row_put link_number l (link_now line at') w.links) in
      open_goes states at' events x.came.0 x.lawful (none_back events x.none_back) (λ rises. (x.none_back, x.came.2)) x.acked (inr (x.pended, ap (λ (t : TakeOver). t.last) x.came.1, heir_turns events n v x.heir)) (owns_alone r link.consumer.dialed link.server.desk.node wanted mine.dialed events x.takes_over) x.dials x.beside
      (subst (Agrees there) (sym (moved_heir (after_lines r events) (back_of r l) n v events (answer.Number moved) x.heir))
      (x.came.3, carries_same (busy_at line []) idle there there (after_noted (after_lines r events) n v Role.Active answer.Ok) x.came.3 x.came.4 (record { powers = λ m. refl; vbs = λ m q. refl; shelves = λ m q. refl; uuids = refl; linked = refl }) (one_none l)))
  end_goes states at' (Some Disk) events Phase.Owned x = broken_goes states at' events (own_broken states at' events x)
  end_goes states at' (Some why) events Phase.Owned x =
      let lines : List Event = events ++ event.Ended l why ∷ [] in let none = ended_tells is_rollback events l why false refl x.none_back in
      over_goes states at' why events refl x.lawful x.quiet x.dials (none_back lines none) (λ rises. (none, x.came.0)) (λ owns. let z : Some Pend ≡ Some Own = sym x.pended ∙ owns in cc) (owns_over r link.consumer.dialed link.server.desk.node wanted mine.dialed events why (own_is why refl x.uncut) x.takes_over) x.beside (x.ending why refl)
      (subst (Agrees (unlinked link (lifted_at line states))) (sym (moved_heir (after_end (after_lines r events) l) (back_of r l) n v lines (answer.Number moved) (heir_more events (event.Ended l why ∷ []) (n, v) x.heir))) x.came.1)

  pub node_goes : Goes given
  node_goes = subst Goes (sym given_is) (end_goes came.states came.at came.over came.events came.phase came.stage)

  -- what it leaves to commit
  pub down_rested : AllAt RestsIf node.vbs → AllAt RestsIf given.0.0
  down_rested all = subst (λ (y : Kept). AllAt RestsIf y.0) (ap (λ (y : Kept × DialResult). y.0) came.same ∙ sym (ap (λ (y : Kept × DialResult). y.0) given_is))
      (frames_rest stays line noticed (frames_in bytes) (λ f has. has) armed (so_far line at None []) start_reached all)

-- the node of a link's consumer is there
never_gone : {w : PlainWorld} {r : Chronicle} {c : Cluster} (link : PlainLink) → w.nodes (consumer_node link) ≡ None → LinkAgrees w r c link [] [] → ⊥
never_gone link e la = let z : None ≡ Some la.follower = sym (ap (λ o. vb_in o link.consumer.dialed.vb) e) ∙ la.follower_is in cc

-- the line `down`: what it tells is lawful, all agrees after it, and it is answered as the arm of the node that its link's dial is at says
pub down_came : (stays : StaysSound) (w : PlainWorld) (r : Chronicle) (l wanted : ℕ) → Agrees w r → AllNoted w r → AllFree w r → DownGoes r l wanted (closed_of_dial r (r.dial_of l)) (arm_of_dial r (r.dial_of l)) w.links (down_step w l wanted)
down_came stays w r l wanted a noted free = by (row_at link_number l w.links) refl
  where
    at_node : (link : PlainLink) → row_at link_number (link_number link) w.links ≡ Some link → (o : Option PlainNode) → w.nodes (consumer_node link) ≡ o
        → DownGoes r (link_number link) wanted (closed_of_dial r (r.dial_of (link_number link))) (arm_of_dial r (r.dial_of (link_number link))) w.links (with_broken (consumer_node link) (link_number link) w (with_link link (node_outcome w (consumer_node link) (Some link, refusal cause.UnknownNode) o (down_in wanted link))))
    at_node link found None e =
        let w' : PlainWorld = with_links w (row_put link_number (link_number link) link w.links) in (
          (
            tt,
            subst (Agrees w') (sym (refused_unknown r (back_of r (link_number link))))
                (agrees_same w w' r a (record { powers = λ n. refl; vbs = λ n v. refl; shelves = λ n v. refl; uuids = refl; linked = put_same (link_number link) w.links link found })),
          ),
          (tt, tt, refl),
          tt,
          (λ x i. absurd (never_gone link e (a.1.links link (found_is_link (link_number link) w.links link found).0))),
          (λ own is owns. refl),
          inl refl,
          (λ own is ends. tt),
        )
    at_node link found (Some node) e =
        let dialed = (a.1.links link (found_is_link (link_number link) w.links link found).0).dialed in
        let armed = subst (λ o. PowerIsIf (r.arm_at (consumer_node link)) (power_in o)) e (a.1.powers (consumer_node link)) in
        subst (λ (x : Bool × Fuse). DownGoes r (link_number link) wanted x.0 x.1 w.links (with_broken (consumer_node link) (link_number link) w (with_link link (node_outcome w (consumer_node link) (Some link, refusal cause.UnknownNode) (Some node) (down_in wanted link)))))
        (λ i. (sym (ap (closed_of_dial r) dialed) i, sym (ap (arm_of_dial r) dialed ∙ armed.fuse) i)) (node_goes stays w r link node wanted found e a (noted link (found_is_link (link_number link) w.links link found).0) (free link (found_is_link (link_number link) w.links link found).0))

    by : (o : Option PlainLink) → row_at link_number l w.links ≡ o → DownGoes r l wanted (closed_of_dial r (r.dial_of l)) (arm_of_dial r (r.dial_of l)) w.links (down_outcome w l o (link_outcome w l consumer_node (down_in wanted) o))
    by None e = ((tt, subst (Agrees w) (sym (refused_closed r (back_of r l))) a), (tt, tt, refl), tt, (λ x i q. let z : Some x ≡ None = sym (row_found w.links x a.1.differ i) ∙ ap (λ k. row_at link_number k w.links) q ∙ e in cc), (λ own is owns. refl), inl refl, (λ own is ends. tt))
    by (Some link) e =
        let is = (found_is_link l w.links link e).1 in
        subst (λ j. DownGoes r j wanted (closed_of_dial r (r.dial_of j)) (arm_of_dial r (r.dial_of j)) w.links (with_broken (consumer_node link) j w (at_end w (consumer_node link) link (down_in wanted link)))) is
        (at_node link (subst (λ k. row_at link_number k w.links ≡ Some link) (sym is) e) (w.nodes (consumer_node link)) refl)

-- so it is among the other verbs
pub down_goes : (stays : StaysSound) (w : PlainWorld) (r : Chronicle) (l wanted : ℕ) → Agrees w r → AllNoted w r → AllFree w r → (let x = down_step w l wanted in GoesOn r (λ told. after_verb r told (verb.AtLink l (link_verb.Down wanted)) x.1.events x.1.answer) x)
down_goes stays w r l wanted a noted free = (down_came stays w r l wanted a noted free).0

pub down_answered : (stays : StaysSound) (w : PlainWorld) (r : Chronicle) (l wanted : ℕ) → Agrees w r → AllNoted w r → AllFree w r → (let x = down_step w l wanted in IsTakenDown wanted (back_of r l) (closed_of_dial r (r.dial_of l)) (arm_of_dial r (r.dial_of l)) x.1.events x.1.answer)
down_answered stays w r l wanted a noted free = (down_came stays w r l wanted a noted free).1

pub down_leaves : (stays : StaysSound) (w : PlainWorld) (r : Chronicle) (l wanted n : ℕ) → Agrees w r → AllNoted w r → AllFree w r → (let x = down_step w l wanted in x.1.answer ≡ answer.Number n → list_any is_taking x.1.events ≡ true → AllAcknowledged (after_lines r x.1.events) l)
down_leaves stays w r l wanted n a noted free e takes = let x : Outcome = down_step w l wanted in subst (Acknowledges r l x.1.events) e (down_came stays w r l wanted a noted free).2 takes

pub down_left : (stays : StaysSound) (w : PlainWorld) (r : Chronicle) (l wanted n : ℕ) → Agrees w r → AllNoted w r → AllFree w r → (let x = down_step w l wanted in x.1.answer ≡ answer.Number n → (link link' : PlainLink) → row_at link_number l w.links ≡ Some link → row_at link_number l x.0.links ≡ Some link' → DownLeft r x.1.events link link')
down_left stays w r l wanted n a noted free e = let x : Outcome = down_step w l wanted in subst (Leaves r l w.links x.0.links x.1.events) e (down_came stays w r l wanted a noted free).3

pub down_leaves_none : (stays : StaysSound) (w : PlainWorld) (r : Chronicle) (l wanted : ℕ) (why : Cause) → Agrees w r → AllNoted w r → AllFree w r → (let x = down_step w l wanted in x.1.answer ≡ answer.No why → (y : PlainLink) → IsLink y x.0.links → link_number y ≡ l → ⊥)
down_leaves_none stays w r l wanted why a noted free e = let x : Outcome = down_step w l wanted in subst (Leaves r l w.links x.0.links x.1.events) e (down_came stays w r l wanted a noted free).3

pub down_unturned : (stays : StaysSound) (w : PlainWorld) (r : Chronicle) (l wanted : ℕ) → Agrees w r → AllNoted w r → AllFree w r → Unturned l w.links (down_step w l wanted).1.events
down_unturned stays w r l wanted a noted free = (down_came stays w r l wanted a noted free).4

pub down_tells : (stays : StaysSound) (w : PlainWorld) (r : Chronicle) (l wanted : ℕ) → Agrees w r → AllNoted w r → AllFree w r → TellsOnly r (verb.AtLink l (link_verb.Down wanted)) (down_step w l wanted).1.events
down_tells stays w r l wanted a noted free = (down_came stays w r l wanted a noted free).5

-- so each line of it stands where it may
pub down_each : (stays : StaysSound) (w : PlainWorld) (r : Chronicle) (l wanted : ℕ) → Agrees w r → AllNoted w r → AllFree w r → AllEnding w r → TakeoverFrom r (down_step w l wanted).1.events
down_each stays w r l wanted a noted free ends = by (row_at link_number l w.links) refl
  where
    by : (o : Option PlainLink) → row_at link_number l w.links ≡ o → TakeoverFrom r (down_step w l wanted).1.events
    by None e = subst (λ o. TakeoverFrom r (down_outcome w l o (link_outcome w l consumer_node (down_in wanted) o)).1.events) (sym e) tt
    by (Some link) e = let i = found_is_link l w.links link e in (down_came stays w r l wanted a noted free).6 link e (subst (λ k. EndsAs (r.takeover_of k) link) i.1 (ends link i.0))
