-- the line `down` while its frames are taken one after another
use Rattle.std.specs.Prelude.{◌≡◌, ◌≤◌, ◌∷◌, ◌++◌, ◌==◌, if◌then◌else◌}
use Rattle.transcript_law.specs.Undone.{AllAcknowledged, is_taking}
use Rattle.dcp_consumer.specs.Machine.{is_streaming}
use Rattle.durability.specs.Pending.{due}
use Rattle.vb_calls.specs.Durable.{pending_prepares}
use Rattle.transcript_law.proofs.Words.{fork_of}
use Rattle.transcript_law.proofs.Words.{ℕ, Bool, true, false, List, [], drop, refl, ap, sym, ◌∙◌, subst, inl, inr, ⊎_elim, Option, Some, None}
use Rattle.transcript_law.proofs.Words.{All, All-tail, eq-eqb, eqb-true, frames_in, left_of, Frame, Readable, Event, EndReason, Cluster, Move, happens, SoundCluster, Plain, Role, is_follower, shelf_in}
use Rattle.transcript_law.proofs.Words.{Ended, row_at, row_put, row_out, with_vb_at, after_job, PlainConsumer, DialResult, frame_taken, PlainLink, link_number, PlainWorld, with_node_at, with_links}
use Rattle.transcript_law.proofs.{Words.{vb_in, Chronicle, after_end, after_line, after_lines, LawfulLine, LawfulFrom, StaysSound, unlinked}, invariant.Agreement.{DiskIsIf, shelf_of, EndsStand, wants_of, vb_of, spoken}}
use Rattle.transcript_law.proofs.{invariant.Agreement.{DownAgrees, VbAgrees, LinkAgrees, Busy, idle, top, AgreesIn, consumer_seat}, invariant.Seats.{seat}}
use Rattle.transcript_law.proofs.{invariant.Carrying.{ToldOf, TakenOf, MemberChanged, BecameOver}, links.Cutting.{IsClosable, closable, unlinking}, invariant.LinkRows.{found_is_link, put_is_found, put_twice, put_out}, invariant.OneLink.{carries_link}}
use Rattle.transcript_law.proofs.{invariant.OneLink.{carries_over, carries_consumer}, lines.Lines.{IsQuiet, AreQuiet, after_more, lawful_more, quiet_more}, invariant.Carried.{told_of_same}}
use Rattle.transcript_law.proofs.invariant.Carried.{stream_end_lines, busy_one, one_here, one_but, one_idle}
use Rattle.{dcp_consumer.specs.Machine.{answered, over_why}, dcp_consumer.specs.declared.handshake.Dialed.{Dialed}, dcp_consumer.specs.declared.handshake.Handshake.{Handshake}}
use Rattle.transcript_law.proofs.links.Firsts.{first_answers}
use Rattle.{disk_journals.specs.Arms.{arm_over, fuse_at, under}, node_core.specs.Dials.{is_broken}, node_world.specs.Arms.{fired_by, lifted}, node_world.specs.Worlds.{arm_in}, node_world.specs.declared.arm.Fired.{Fired}, std.specs.List.{list_any}, vb_calls.specs.Shelves.{Shelf, Shelves}}
use Rattle.node_world.specs.declared.arm.Fired.TheVariants as fired
use Rattle.transcript_law.specs.LineAnswers.{FailsIn, IsNoted, StopsIn, rollbacks_in_lines}
use Rattle.vb_disk.specs.declared.fuse.Fuse.{Fuse}
use Rattle.vb_disk.specs.declared.fuse.Fuse.TheVariants.{Off}
use Rattle.{transcript_law.specs.Chronicles.{DiskKnown, after_append, after_calls, after_noted, appending, calls_of_append, heir_in, is_rise, is_rollback, rollback_of}, vb_events.specs.declared.event.Answer.{Answer}, vb_types.specs.declared.journal.Record.{Record}}
use Rattle.vb_events.specs.declared.event.Answer.TheVariants as answer
use Rattle.vb_events.specs.declared.event.Cause.TheVariants as cause
use Rattle.transcript_law.proofs.{disks.ArmedLines.{ArmedCame}, invariant.Agreement.{Agrees, RestsIn}, invariant.Carrying.{Changed, SamePowers}, disks.Disks.{beside_in}, verbs.NodeLines.{shelves_again, shelves_there}, invariant.OneLink.{consumer_rests, put_ends}}
use Rattle.transcript_law.proofs.links.Onward.{AreOnward, IsOnward, Kept, onward_more, onward_same, over_apart, over_here, unarmed}
use Rattle.{node_world.specs.Nodes.{PlainNode, with_kept}, vb_events.specs.declared.event.EndReason.TheVariants.{Disk}, vb_events.specs.declared.event.StreamName.TheVariants.{Link}}
use Rattle.takeover.specs.{declared.{take_over.TakeOver.{TakeOver}, take_over.TakeStep.TheVariants.{Own, Pend}}}
use Rattle.transcript_law.proofs.{invariant.Noted.{FreeFor}, links.Takes.{NoneTaken, TakesOn, OwnsIn, TellsIn, Took, is_own_end, own_calm, owns_unturned, takes_more}}
use Rattle.mcbp_dcp.specs.declared.message.DcpMsg.TheVariants.{StreamEnd}
use Rattle.transcript_law.{proofs.{Words.{Granted, dcp_frame}, balance.Levels.{Has}, invariant.Agreement.{end_reason}, verbs.Untaken.{is_beside}}, specs.Tellings.{are_all}}
use Rattle.transcript_law.specs.TakeoverNotes.{is_role_of}
use Rattle.dcp_consumer.specs.declared.handshake.Handshake.TheVariants as waiting

-- all answers to the requests of a consumer, of which `last` is the stream's
abbrev pub all_answers : Dialed → Frame → List Frame
all_answers d last = first_answers d ++ last ∷ []

-- the consumer's end in the course of a line, but for what came and for whether the link is over: what it wrote, which answer it waits for, the opaque of its last
-- request for a stream, what it acknowledged last, and which state it was told last
pub record Asker : Type 0 where
  pub out : List ℕ
  pub waiting : Handshake
  pub asked : ℕ
  pub acked : ℕ
  pub taking : TakeOver

-- the same, waiting for that
abbrev pub waits_for : Asker → Handshake → Asker
waits_for at h = record { out = at.out; waiting = h; asked = at.asked; acked = at.acked; taking = at.taking }

-- after one more answer, by the buffer of the link
abbrev pub past : ℕ → Asker → Asker
past buffer at = waits_for at (answered buffer at.waiting)

-- what it waits for, unless the link is over
abbrev pub waiting_unless : Option EndReason → Handshake → Handshake
waiting_unless None h = h
waiting_unless (Some why) h = waiting.Over why

-- the answer of a line whose rollback could not be written down: its journal was closed before, or the call failed
abbrev pub broken_answer : Fired → Answer
broken_answer fired.No = answer.No cause.Closed
broken_answer other = answer.No cause.Disk

-- the arm fired so inside one append, to a journal that is closed or not
abbrev pub FiredIn : Fired → Bool → Fuse → Type 0
FiredIn fired.No closed f = closed ≡ true
FiredIn fired.Failed closed f = (closed ≡ false) × FailsIn calls_of_append f
FiredIn fired.Stopped closed f = (closed ≡ false) × StopsIn calls_of_append f

-- how far a line is: nothing was written down, a rollback was begun, or the vBucket took its branch over
pub data Phase : Type 0 where
  Moving : Phase
  Rolled : Phase
  Owned : Phase

-- a line `down` for a link: so many bytes are moved, and these are left in the reader
pub record Line : Type 0 where
  pub w : PlainWorld
  pub r : Chronicle
  pub link : PlainLink
  pub node : PlainNode
  pub moved : ℕ
  pub left : List ℕ
  pub all : List Frame
  pub found : row_at link_number (link_number link) w.links ≡ Some link

-- the same with this vBucket at v, and these journals
abbrev pub put_kept : Kept → Shelves → ℕ → Plain → Kept
put_kept kept shelves v fv = (with_vb_at kept.0 v fv, shelves)

-- with the journals that there were
abbrev pub put_vb : Kept → ℕ → Plain → Kept
put_vb kept v fv = put_kept kept kept.1 v fv

-- a consumer that has its stream waits for no answer
pub answered_streams : (buffer : ℕ) (h : Handshake) → is_streaming h ≡ true → is_streaming (answered buffer h) ≡ true
answered_streams buffer waiting.Streaming e = refl
answered_streams buffer other e = cc

module _ (line : Line) where
  -- the vBucket v of the node n is fed by the link l, and is the member k
  open line use {w, r, link, node, moved, left, all, found}
  open line.link.consumer.dialed use {node as n, vb as v, link as l}

  abbrev k : ℕ
  k = consumer_seat link

  -- the consumer's end in the course of the line
  abbrev pub end_of : Asker → Option EndReason → PlainConsumer
  end_of at over = record { dialed = link.consumer.dialed; handshake = waiting_unless over at.waiting; asked = at.asked; acked = at.acked; taking = at.taking }

  -- the dial then, and what was told
  abbrev pub so_far : Asker → Option EndReason → List Event → DialResult
  so_far at over events = record { dial = record { heard = left; consumer = end_of at over }; events = events; out = at.out }

  abbrev pub link_now : Asker → PlainLink
  link_now at = record { server = link.server; consumer = end_of at None; up_heard = link.up_heard; up = link.up ++ at.out; down_heard = left; down = drop moved link.down }

  -- the node with these vBuckets, and with its arm, which does not lie over a disk
  abbrev pub there : Kept → PlainWorld
  there states = with_node_at w n (with_kept node (unarmed v states))

  -- the world in the course of the line, and after the link is over
  abbrev pub now : Kept → Asker → PlainWorld
  now states at = with_links (there states) (row_put link_number l (link_now at) w.links)

  abbrev pub gone : Kept → PlainWorld
  gone states = unlinked link (there states)

  -- these frames are about to be taken
  abbrev pub busy_at : List Frame → Busy
  busy_at frames = busy_one l ([], frames)

  -- no rollback was begun: the arm lies over the disk of the vBucket as it did, and lines of other kinds were told
  pub record Onward (states : Kept) (events : List Event) : Type 0 where
    pub arm : fuse_at states.1 v ≡ Some node.arm.fuse
    pub lines : AreOnward events

  -- all agrees, while the link is open and after it is over
  pub record Going (busy : List Frame) (states : Kept) (at : Asker) (events : List Event) : Type 0 where
    pub lawful : LawfulFrom r events
    pub quiet : AreQuiet events
    pub onward : Onward states events
    pub takes : TakesOn r link.consumer.dialed link.consumer.taking at.taking events
    pub tells : TellsIn r link.consumer.dialed at.taking events
    pub cluster : Cluster
    pub agrees : AgreesIn (busy_at busy) (now states at) (after_lines r events) cluster

  -- once the vBucket took something of the stream, the link has it, and what is due was acknowledged
  abbrev pub Met : Kept → Asker → List Event → Type 0
  Met states at events =
      list_any is_taking events ≡ true → (is_streaming at.waiting ≡ true) × ((fv : Plain) → vb_of (now states at) n v ≡ Some fv → due (pending_prepares fv) (fork_of fv.position) fv.saved ≤ at.acked)

  -- the end of the link's stream came, of this reason
  pub record EndCame (turned : Bool) (events : List Event) : Type 0 where
    pub opaque : ℕ
    pub at_vb : ℕ
    pub frame : Has (dcp_frame (StreamEnd (end_reason turned)) opaque at_vb) all
    pub stream : Granted
    pub told : (after_lines r events).stream_of (Link l) v ≡ Some stream
    pub over : stream.over ≡ true

  -- where the link is over for that
  abbrev pub EndsSo : EndReason → List Event → Type 0
  EndsSo EndReason.Done events = EndCame false events
  EndsSo EndReason.State events = EndCame true events
  EndsSo other events = Unit {0}

  pub record Gone (why : EndReason) (states : Kept) (events : List Event) : Type 0 where
    pub lawful : LawfulFrom r events
    pub quiet : AreQuiet events
    pub onward : Onward states events
    pub not_disk : is_broken (Some why) ≡ false
    pub own_end : is_own_end why ≡ true
    pub ending : EndsSo why events
    pub told : TakeOver
    pub tells : TellsIn r link.consumer.dialed told events
    pub unturned : link.consumer.taking.last ≡ Some Own → list_any (is_role_of n v) events ≡ false
    pub cluster : Cluster
    pub agrees : AgreesIn idle (gone states) (after_end (after_lines r events) l) cluster

  -- the world with what is left of the arm
  abbrev pub lifted_at : Kept → PlainWorld
  lifted_at states = with_node_at w n (lifted v (with_kept node states))

  -- what a line comes to that wrote down a rollback, or could not: its link is open, or over, or over because of the disk
  abbrev pub RolledCame : Record → Option EndReason → Kept → Asker → List Event → Type 0
  RolledCame what None states at events = (over_why at.waiting ≡ None) × (list_any is_rollback events ≡ true) × Agrees (with_links (lifted_at states) (row_put link_number l (link_now at) w.links)) (after_calls calls_of_append n (after_lines r events)) × IsNoted (r.disk_at n v).closed node.arm.fuse answer.Ok × (rollbacks_in_lines events ≡ (n, (v, what)) ∷ [])
  RolledCame what (Some Disk) states at events =
      let left : PlainWorld = unlinked link (lifted_at states) in let how : Fired = fired_by node.arm.fuse (arm_in (left.nodes n)).fuse in
      ArmedCame n (λ said told. after_append told n v (appending what) said) how (after_lines r events) left (broken_answer how) × FiredIn how (r.disk_at n v).closed node.arm.fuse × (list_any is_rollback events ≡ false)
  RolledCame what (Some why) states at events = (list_any is_rollback events ≡ true) × Agrees (unlinked link (lifted_at states)) (after_calls calls_of_append n (after_end (after_lines r events) l)) × IsNoted (r.disk_at n v).closed node.arm.fuse answer.Ok × (rollbacks_in_lines events ≡ (n, (v, what)) ∷ [])

  -- it is the last that a line tells of its frames
  pub record RolledAt (over : Option EndReason) (states : Kept) (at : Asker) (events : List Event) : Type 0 where
    pub lawful : LawfulFrom r events
    pub quiet : AreQuiet events
    pub what : Record
    pub rolls : rollback_of r (r.dial_of l) (r.point_of l) ≡ Some (n, (v, what))
    pub dials : (after_lines r events).dial_of ≡ r.dial_of
    pub none_taken : list_any is_taking events ≡ false
    pub untold : NoneTaken link.consumer.dialed link.consumer.taking at.taking events
    pub took : Took link.consumer.dialed events
    pub uncut : over ≡ Some EndReason.Cut → ⊥
    pub beside : are_all is_beside events ≡ true
    pub ending : (why : EndReason) → over ≡ Some why → EndsSo why events
    pub level : list_any is_rise events ≡ false
    pub came : RolledCame what over states at events

  -- what a line comes to by which the vBucket took its branch over: its link is open, or over, or over as its role could not be written down
  abbrev pub OwnedCame : List Frame → Option EndReason → Kept → Asker → List Event → Type 0
  OwnedCame busy None states at events = (over_why at.waiting ≡ None) × (at.taking ≡ record { last = Some Own }) × IsNoted (r.disk_at n v).closed node.arm.fuse answer.Ok
      × (c : Cluster) × AgreesIn (busy_at busy) (with_links (lifted_at states) (row_put link_number l (link_now at) w.links)) (after_noted (after_lines r events) n v Role.Active answer.Ok) c
  OwnedCame busy (Some Disk) states at events =
      let left : PlainWorld = unlinked link (lifted_at states) in let how : Fired = fired_by node.arm.fuse (arm_in (left.nodes n)).fuse in
      ArmedCame n (λ said told. after_noted told n v Role.Active said) how (after_lines r events) left (broken_answer how) × FiredIn how (r.disk_at n v).closed node.arm.fuse
  OwnedCame busy (Some why) states at events = IsNoted (r.disk_at n v).closed node.arm.fuse answer.Ok × Agrees (unlinked link (lifted_at states)) (after_noted (after_end (after_lines r events) l) n v Role.Active answer.Ok)

  -- the lines tell of it
  pub record OwnedAt (busy : List Frame) (over : Option EndReason) (states : Kept) (at : Asker) (events : List Event) : Type 0 where
    pub lawful : LawfulFrom r events
    pub quiet : AreQuiet events
    pub heir : heir_in events ≡ Some (n, v)
    pub pended : link.consumer.taking.last ≡ Some Pend
    pub takes_over : OwnsIn r link.consumer.dialed events
    pub uncut : over ≡ Some EndReason.Cut → ⊥
    pub beside : are_all is_beside events ≡ true
    pub ending : (why : EndReason) → over ≡ Some why → EndsSo why events
    pub none_back : list_any is_rollback events ≡ false
    pub dials : (after_lines r events).dial_of ≡ r.dial_of
    pub acked : list_any is_taking events ≡ true → AllAcknowledged (after_lines r events) l
    pub came : OwnedCame busy over states at events

  abbrev pub Stage : Phase → List Frame → Kept → Asker → Option EndReason → List Event → Type 0
  Stage Phase.Moving busy states at None events = Going busy states at events × Met states at events
  Stage Phase.Moving busy states at (Some why) events = Gone why states events
  Stage Phase.Rolled busy states at over events = (spoken busy ≡ []) × RolledAt over states at events
  Stage Phase.Owned busy states at over events = OwnedAt busy over states at events

  pub record Reached (busy : List Frame) (came : Kept × DialResult) : Type 0 where
    pub states : Kept
    pub at : Asker
    pub over : Option EndReason
    pub events : List Event
    pub same : came ≡ (states, so_far at over events)
    pub phase : Phase
    pub stage : Stage phase busy states at over events

  pub found_now : (states : Kept) (at : Asker) → row_at link_number l (now states at).links ≡ Some (link_now at)
  found_now states at = put_is_found l w.links link (link_now at) found refl

  -- the link of the line
  pub linked : (busy : List Frame) (states : Kept) (at : Asker) (events : List Event) (g : Going busy states at events)
      → LinkAgrees (now states at) (after_lines r events) g.cluster (link_now at) [] busy
  linked busy states at events g = subst (λ b. LinkAgrees (now states at) (after_lines r events) g.cluster (link_now at) b.0 b.1) (one_here l ([], busy))
      (g.agrees.links (link_now at) (found_is_link l (now states at).links (link_now at) (found_now states at)).0)

  -- the frames behind the first, which was taken
  pub next_downs : (at at' : Asker) (f : Frame) (rest all : List Frame) (x : DownAgrees (link_now at) (f ∷ rest) all) → DownAgrees (link_now at') rest (rest ++ x.behind)
  next_downs at at' f rest all x =
      record { behind = x.behind; joined = refl; bytes = x.bytes; readable = All-tail Readable f (rest ++ x.behind) (subst (All Readable) x.joined x.readable) }

  -- where the link's ends stand, after the consumer's end is that one and it takes these frames
  abbrev pub StandsWith : (busy : List Frame) (states : Kept) (at : Asker) (events : List Event) → Going busy states at events → Asker → List Frame → Type 0
  StandsWith busy states at events g at' taken =
      let m : LinkAgrees (now states at) (after_lines r events) g.cluster (link_now at) [] busy = linked busy states at events g in
      EndsStand (wants_of m.follower) (g.cluster.nodes k) (vb_of (now states at) link.server.desk.node v) (g.cluster.nodes (seat link.server.desk.node v)) ((after_lines r events).stream_of (Link l) v) ((after_lines r events).stated_of l) ((after_lines r events).point_of l)
      link.server (end_of at' None) m.talk.asked taken

  -- the same where these are to come, of which it drops some
  abbrev pub StandsAt : (busy : List Frame) (states : Kept) (at : Asker) (events : List Event) → Going busy states at events → Asker → List Frame → Type 0
  StandsAt busy states at events g at' said = StandsWith busy states at events g at' (spoken said)

  -- an answer that is only counted, or a frame that is dropped
  pub counted : (f : Frame) (rest : List Frame) (states : Kept) (at : Asker) (h : Handshake) (events : List Event) (g : Going (f ∷ rest) states at events) → Met states at events → (is_streaming at.waiting ≡ true → is_streaming h ≡ true)
      → frame_taken f (so_far at None events) ≡ Ended (so_far (waits_for at h) None events)
      → StandsAt (f ∷ rest) states at events g (waits_for at h) (rest ++ (linked (f ∷ rest) states at events g).talk.downs.behind)
      → Reached rest (after_job (frame_taken f (so_far at None events)) states.0 states.1)
  counted f rest states at h events g met still e stands = let m = linked (f ∷ rest) states at events g in let at' : Asker = waits_for at h in record {
    states = states;
    at = at';
    over = None;
    events = events;
    same = ap (λ p. after_job p states.0 states.1) e;
    phase = Phase.Moving;
    stage = (
      record {
        lawful = g.lawful;
        quiet = g.quiet;
        onward = g.onward;
        takes = g.takes;
        tells = g.tells;
        cluster = g.cluster;
        agrees = carries_link (busy_at (f ∷ rest)) (busy_at rest) (now states at) (now states at') (after_lines r events) (after_lines r events) g.cluster l (link_now at) (link_now at')
            g.agrees (found_now states at) (record { dialed = refl; desk = refl })
            (record { powers = λ m. refl; vbs = λ m q. refl; shelves = λ m q. refl; uuids = refl; linked = sym (put_twice l w.links (link_now at) (link_now at') refl) })
            (λ q id has. has) (told_of_same l (after_lines r events)) (one_but l ([], f ∷ rest) ([], rest))
            (subst (λ b. LinkAgrees (now states at') (after_lines r events) g.cluster (link_now at') b.0 b.1) (sym (one_here l ([], rest))) (record {
              follower = m.follower;
              follower_is = m.follower_is;
              follows = m.follows;
              acks = m.acks;
              dial = m.dial;
              talk = record { asked = m.talk.asked; said = rest ++ m.talk.downs.behind; stands = stands; ups = m.talk.ups; downs = next_downs at at' f rest m.talk.said m.talk.downs };
            }));
      },
      λ t. (still (met t).0, (met t).1),
    );
  }

  -- the arms and the clients are as they were
  pub same_powers : (states states' : Kept) → SamePowers (there states) (there states')
  same_powers states states' m = elim (m == n) as (λ b. beside_in (if b then Some (with_kept node (unarmed v states')) else w.nodes m) ≡ beside_in (if b then Some (with_kept node (unarmed v states)) else w.nodes m)) [ true ↦ refl | false ↦ refl ]

  -- the world in which the link is taken out, beside the one in the course of the line
  left_out : (states states' : Kept) (at : Asker) → ((m q : ℕ) → vb_of (there states') m q ≡ vb_of (now states at) m q) → ((m q : ℕ) → shelf_of (there states') m q ≡ shelf_of (now states at) m q) → BecameOver (there states') (gone states') link → BecameOver (now states at) (gone states') (link_now at)
  left_out states states' at vbs shelves became =
      let out : row_out link_number l w.links ≡ row_out link_number l (now states at).links = sym (put_out l w.links (link_now at) refl) in
      ⊎_elim
      (λ same. inl (record { powers = λ m. same.powers m ∙ same_powers states states' m; vbs = λ m q. same.vbs m q ∙ vbs m q; shelves = λ m q. same.shelves m q ∙ shelves m q; uuids = same.uuids; linked = same.linked ∙ out }))
      (λ closed.
      let (id, pv, pv', opens, known, changed, one, shelf) = closed in
      inr (id, pv, pv', opens, sym (vbs link.server.desk.node v) ∙ known, changed, record { powers = λ m. one.powers m ∙ same_powers states states' m; here = one.here; there = λ m q o. one.there m q o ∙ vbs m q; shelves = λ m q o. one.shelves m q o ∙ shelves m q; uuids = one.uuids; linked = one.linked ∙ out }, shelf ∙ shelves link.server.desk.node v))
      became

  -- the journals of the node are the same
  pub same_shelves : (states' states : Kept) → states'.1 ≡ states.1 → (m q : ℕ) → shelf_of (there states') m q ≡ shelf_of (there states) m q
  same_shelves states' states same = shelves_again w n (with_kept node (unarmed v states)) (with_kept node (unarmed v states')) (λ q. ap (λ (s : Shelves). arm_over s v Off q) same)

  -- the link is over, and its consumer's vBucket was not changed
  pub ended_agrees : (stays : StaysSound) (busy : List Frame) (states states' : Kept) (at : Asker) (events : List Event) (r' : Chronicle) (g : Going busy states at events)
      → ((m q : ℕ) → vb_of (there states') m q ≡ vb_of (now states at) m q) → states'.1 ≡ states.1 → ToldOf l (after_lines r events) r' → AgreesIn idle (gone states') r' (happens g.cluster (Move.Cut k))
  ended_agrees stays busy states states' at events r' g vbs shelves ends =
      let told : Chronicle = after_lines r events in let la = linked busy states at events g in
      let can : IsClosable (there states') link = ⊎_elim (λ none. inl none)
      (λ one. inr (one.0, one.1, λ opens. let (on, pv, is, sound) = one.2 opens in (on, pv, vbs link.server.desk.node v ∙ is, sound)))
      (closable (busy_at busy) (now states at) told g.cluster (link_now at) [] busy g.agrees la) in
      carries_over (busy_at busy) idle (now states at) (gone states') told r' g.cluster l (link_now at) g.agrees (found_now states at)
      (left_out states states' at vbs (same_shelves states' states shelves) (unlinking stays (there states') link can)) ends
      (λ x ne. sym (one_idle l ([], busy) x ne))

  pub ended : (stays : StaysSound) (f : Frame) (rest : List Frame) (states states' : Kept) (at at' : Asker) (events : List Event) (why : EndReason) (came : Kept × DialResult) (g : Going (f ∷ rest) states at events) → is_own_end why ≡ true → EndsSo why events
      → came ≡ (states', so_far at' (Some why) events) → ((m q : ℕ) → vb_of (there states') m q ≡ vb_of (now states at) m q) → states'.1 ≡ states.1 → Reached rest came
  ended stays f rest states states' at at' events why came g other ending e vbs shelves = record {
    states = states';
    at = at';
    over = Some why;
    events = events;
    same = e;
    phase = Phase.Moving;
    stage = record {
      lawful = g.lawful;
      quiet = g.quiet;
      onward = record { arm = ap (λ s. fuse_at s v) shelves ∙ g.onward.arm; lines = g.onward.lines };
      not_disk = own_calm why other;
      own_end = other;
      ending = ending;
      told = at.taking;
      tells = g.tells;
      unturned = owns_unturned r link.consumer.dialed link.consumer.taking at.taking events g.takes;
      cluster = happens g.cluster (Move.Cut k);
      agrees = ended_agrees stays (f ∷ rest) states states' at events (after_end (after_lines r events) l) g vbs shelves (stream_end_lines (after_lines r events) l);
    };
  }

  -- where the vBucket stands among the node's
  pub vb_here : (states : Kept) (at : Asker) (fv : Plain) → vb_of (now states at) n v ≡ Some fv → states.0 v ≡ Some fv
  vb_here states at fv e = sym (ap (λ b. vb_in (if b then Some (with_kept node (unarmed v states)) else w.nodes n) v) (eq-eqb n n refl)) ∙ e

  -- the world with another vBucket there, and with the one that was there
  pub vb_put : (states : Kept) (s : Shelves) (at : Asker) (fv : Plain) → vb_of (now (put_kept states s v fv) at) n v ≡ Some fv
  vb_put states s at fv = ap (λ b. vb_in (if b then Some (with_kept node (unarmed v (put_kept states s v fv))) else w.nodes n) v) (eq-eqb n n refl)
      ∙ ap (λ b. if b then Some fv else states.0 v) (eq-eqb v v refl)

  pub vb_moved : (states : Kept) (s : Shelves) (at at' : Asker) (fv : Plain) (m q : ℕ) → (m ≡ n → q ≡ v → Some fv ≡ states.0 q) → vb_of (now (put_kept states s v fv) at') m q ≡ vb_of (now states at) m q
  vb_moved states s at at' fv m q same = by (m == n) (q == v) refl refl
    where
      by : (a b : Bool) → (m == n) ≡ a → (q == v) ≡ b
          → vb_in (if a then Some (with_kept node (unarmed v (put_kept states s v fv))) else w.nodes m) q ≡ vb_in (if a then Some (with_kept node (unarmed v states)) else w.nodes m) q
      by true true e h = ap (λ b. if b then Some fv else states.0 q) h ∙ same (eqb-true m n e) (eqb-true q v h)
      by true false e h = ap (λ b. if b then Some fv else states.0 q) h
      by false b e h = refl

  pub vb_others : (states : Kept) (s : Shelves) (at at' : Asker) (fv : Plain) (m q : ℕ) → (m ≡ n → q ≡ v → ⊥) → vb_of (now (put_kept states s v fv) at') m q ≡ vb_of (now states at) m q
  vb_others states s at at' fv m q other = vb_moved states s at at' fv m q (λ s t. absurd (other s t))

  -- the node with other vBuckets and journals, where those of other numbers are as they were
  pub shelves_but : (states states' : Kept) → ((q : ℕ) → (q ≡ v → ⊥) → states'.1 q ≡ states.1 q) → (m q : ℕ) → (m ≡ n → q ≡ v → ⊥) → shelf_of (there states') m q ≡ shelf_of (there states) m q
  shelves_but states states' journals = shelves_there w n v (with_kept node (unarmed v states)) (with_kept node (unarmed v states')) (λ q ne. over_apart states'.1 v Off q ne ∙ journals q ne ∙ sym (over_apart states.1 v Off q ne))

  -- the journal of the vBucket, without the arm over it
  pub shelf_now : (states : Kept) (shelf : Shelf) → states.1 v ≡ Some shelf → shelf_of (there states) n v ≡ Some (under Off shelf)
  shelf_now states shelf has = ap (λ b. shelf_in (if b then Some (with_kept node (unarmed v states)) else w.nodes n) v) (eq-eqb n n refl) ∙ over_here states.1 v Off shelf has

  -- the vBucket and its journal are others, of which these lines tell
  module _ (f : Frame) (rest : List Frame) (states : Kept) (shelves : Shelves) (at at' : Asker) (events : List Event) (fv fv' : Plain) (told : List Event) (c' : Cluster) (g : Going (f ∷ rest) states at events)
      (journals : (q : ℕ) → (q ≡ v → ⊥) → shelves q ≡ states.1 q) (known : vb_of (now states at) n v ≡ Some fv) (follows : is_follower fv.role ≡ true) (follows' : is_follower fv'.role ≡ true)
      (arms : (after_lines (after_lines r events) told).arm_at ≡ (after_lines r events).arm_at) (clocks : (after_lines (after_lines r events) told).clock_at ≡ (after_lines r events).clock_at) (stays : ((after_lines (after_lines r events) told).disk_at n v).there ≡ ((after_lines r events).disk_at n v).there)
      (taken : TakenOf l n v (after_lines r events) (after_lines (after_lines r events) told)) (member : MemberChanged k g.cluster c') (sound : SoundCluster top c')
      (vb : VbAgrees (after_lines (after_lines r events) told) n v (c'.nodes k) fv')
      (disk : DiskIsIf ((after_lines (after_lines r events) told).disk_at n v) (c'.disks k) (shelf_of (now (put_kept states shelves v fv') at') n v) (Some fv')) where
    abbrev before : Chronicle
    before = after_lines r events

    abbrev states' : Kept
    states' = put_kept states shelves v fv'

    changed : Changed (now states at) (now states' at') n v fv' (row_put link_number l (link_now at') (now states at).links)
    changed = record {
      powers = same_powers states states';
      here = vb_put states shelves at' fv';
      there = vb_others states shelves at at' fv';
      shelves = shelves_but states states' journals;
      uuids = refl;
      linked = sym (put_twice l w.links (link_now at) (link_now at') refl);
    }

    rests : RestsIn (now states' at') (after_lines before told) c'
    rests = consumer_rests (busy_at (f ∷ rest)) (now states at) (now states' at') before (after_lines before told) g.cluster c' l (link_now at) fv fv' (row_put link_number l (link_now at') (now states at).links)
        g.agrees (found_now states at) known follows follows' changed taken member vb disk (λ m i. record { arm = arms i m; clock = clocks i m }) stays
        (put_ends (busy_at (f ∷ rest)) (now states at) (now states' at') before g.cluster l (link_now at) (link_now at') g.agrees (found_now states at) (record { dialed = refl; desk = refl }) changed.powers changed.linked)

    -- with these frames to come
    pub moved_agrees : (left : List Frame) → LinkAgrees (now states' at') (after_lines before told) c' (link_now at') [] left → AgreesIn (busy_at left) (now states' at') (after_lines r (events ++ told)) c'
    moved_agrees left a = subst (λ x. AgreesIn (busy_at left) (now states' at') x c') (sym (after_more r events told))
        (carries_consumer (busy_at (f ∷ rest)) (busy_at left) (now states at) (now states' at') before (after_lines before told) g.cluster c' l (link_now at) (link_now at') fv fv'
        g.agrees (found_now states at) (record { dialed = refl; desk = refl }) known follows follows' changed (λ q id has. has) taken member sound (one_but l ([], f ∷ rest) ([], left)) vb disk rests
        (subst (λ b. LinkAgrees (now states' at') (after_lines before told) c' (link_now at') b.0 b.1) (sym (one_here l ([], left))) a))

  -- the vBucket made a call, of which one line tells
  pub moved_on : (f : Frame) (rest : List Frame) (states : Kept) (at at' : Asker) (events : List Event) (fv fv' : Plain) (told : Event) (c' : Cluster)
      (g : Going (f ∷ rest) states at events) → is_role_of n v told ≡ false → Took link.consumer.dialed (events ++ told ∷ []) → at'.taking ≡ at.taking → vb_of (now states at) n v ≡ Some fv → is_follower fv.role ≡ true → is_follower fv'.role ≡ true
      → IsOnward told → IsQuiet told → LawfulLine (after_lines r events) told []
      → TakenOf l n v (after_lines r events) (after_line (after_lines r events) told) → MemberChanged k g.cluster c' → SoundCluster top c'
      → VbAgrees (after_line (after_lines r events) told) n v (c'.nodes k) fv'
      → DiskIsIf ((after_line (after_lines r events) told).disk_at n v) (c'.disks k) (shelf_of (now (put_vb states v fv') at') n v) (Some fv')
      → LinkAgrees (now (put_vb states v fv') at') (after_line (after_lines r events) told) c' (link_now at') [] rest
      → Going rest (put_vb states v fv') at' (events ++ told ∷ [])
  moved_on f rest states at at' events fv fv' told c' g no_role took told_same known follows follows' onward quiet lawful taken member sound vb disk a =
      let same = onward_same (after_lines r events) told onward in
      record {
        lawful = lawful_more r events (told ∷ []) g.quiet g.lawful (lawful, tt);
        quiet = quiet_more events (told ∷ []) g.quiet (quiet, tt);
        onward = record { arm = g.onward.arm; lines = onward_more events told g.onward.lines onward };
        takes = takes_more r link.consumer.dialed link.consumer.taking at.taking at'.taking events told no_role told_same g.takes;
        tells = inl took;
        cluster = c';
        agrees = moved_agrees f rest states states.1 at at' events fv fv' (told ∷ []) c' g (λ q o. refl) known follows follows' same.arms same.clocks (ap (λ (t : ℕ → ℕ → DiskKnown). (t n v).there) same.disks) taken member sound vb disk rest a;
      }

-- what lines told of the link before the line: for what it was dialed, and that nobody writes on a branch of which active was stated; and what is left in the reader is less than a frame
pub record Noticed (line : Line) : Type 0 where
  pub dialed_for : (line.r.takeover_of line.link.consumer.dialed.link).dialed ≡ line.link.consumer.dialed.takeover
  pub free : FreeFor line.r line.link
  pub none_whole : frames_in line.left ≡ []
  pub rest_left : left_of line.left ≡ line.left

-- while the link is open, before its next frame is taken
pub record Before (line : Line) : Type 0 where
  pub stays : StaysSound
  pub noticed : Noticed line
  pub f : Frame
  pub among : Has f line.all
  pub rest : List Frame
  pub states : Kept
  pub at : Asker
  pub events : List Event
  pub going : Going line (f ∷ rest) states at events
  pub met : Met line states at events
