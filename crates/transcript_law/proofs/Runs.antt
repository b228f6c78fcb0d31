-- each script's transcript is lawful
use Rattle.std.specs.Prelude.{◌≡◌, ◌∷◌, ◌++◌, ◌==◌, if◌then◌else◌}
use Rattle.{branch_model.specs.Journals.{place_of}, transcript_law.specs.Chronicles.{LastLine, Dial, DiskKnown, Flushing, after_group, at_line, after_lines, ahead, conns_lines, conns_verb}, vb_calls.specs.Shelves.{Flush, Idle, Out, Written, Shelf}, vb_types.specs.declared.journal.Batch.{Batch}}
use Rattle.node_world.specs.{Nodes.{shelf_or_blank}, Rests.{Rests, RestsIf}, Worlds.{arm_in}}
use Rattle.transcript_law.proofs.{invariant.Agreement.{DiskIsIf, IsArm, PowerIsIf, shelf_of, vb_of}, disks.ArmedSteps.{shut_in}, disks.Disks.{FlushIs, ShelfIs, parts_of, power_in}, disks.Flushed.{told_flush}, verbs.LineAnswers.{AllTold, ArmKnown, DisksTold, ShutTold}}
use Rattle.transcript_law.proofs.Words.{ℕ, Bool, true, false, List, [], refl, ap, sym, ◌∙◌, subst, arith, Option, Some, None, ne_eqb, All-nil, All-head, All-tail, Answer, Event, ScriptLine, Verb, LinkVerb, VbVerb}
use Rattle.transcript_law.proofs.Words.{VerbFits, ScriptFits, Change, Outcome, Plain, PlainNode, hist, PlainWorld, empty_world}
use Rattle.transcript_law.proofs.Words.{with_branches, verb_step, world_step, groups_from, groups, Chronicle, empty_chronicle, after_verb, LawfulGroups, Lawful, RefusedLinesKeep, start_sound}
use Rattle.transcript_law.proofs.Words.{consumer_node, option_map}
use Rattle.transcript_law.proofs.{invariant.Seats.{seat}}
use Rattle.transcript_law.proofs.invariant.Agreement.{ChangeFits, EntryFits, AgreesAt, top, Agrees}
use Rattle.transcript_law.proofs.{verbs.FiredLines.{DialsTold}, verbs.NodeRows.{client_row_of, link_row, link_row_of, node_row, node_row_of}, verbs.AskingLines.{line_asked}, verbs.BreakLines.{line_breaks}, verbs.StoredLines.{line_next}, verbs.Undone.{leaves_none}, verbs.Rows.{AsTold, Row}, verbs.VbRows.{vb_row_of}, invariant.LinkRows.{found_is_link}}
use Rattle.transcript_law.proofs.noted.{Dialing.{dial_fits, dial_kept, dial_line}, Freed.{LinesFit}, FreedGroups.{all_free, dials_differ, group_freed}, Joint.{Handed, handed_at, handed_none}, KeptGroups.{still_kept}, Known.{AllKnown}, Lines.{still_line}, Named.{still_fits}}
use Rattle.transcript_law.proofs.verbs.{EndsKnown.{ends_of_line}, Moved.{Before, Moves}, Moving.{moves}, Rows.{Started, Tells}, Untaken.{ToldBy, hands_beside, told_by}}
use Rattle.transcript_law.proofs.invariant.{Noted.{AllKept}, Ranged.{IsRanged, start_ranged}}
use Rattle.transcript_law.proofs.Words.{Role, StreamName, is_some}
use Rattle.transcript_law.proofs.invariant.{Agreement.{VbAgrees}, Holdings.{OpenedAs}}
use Rattle.transcript_law.specs.LineAnswers.{SealsAs}
use Rattle.transcript_law.specs.Feeding.{HasFed}
use Rattle.transcript_law.proofs.{invariant.ClientWorlds.{ConnsAre, start_conns}, invariant.Clients.{line_heard}, lines.Heard.{lines_heard}}
use Rattle.transcript_law.proofs.ends.{Ended.{all_linked, line_ends, new_there}, Links.{AllLinked}}
use Rattle.transcript_law.proofs.{answers.Rests.{all_answered}, answers.Ended.{group_ended, serves_open}, indexers.Beside.{numbered}, invariant.Begun.{ServesOpen}, indexers.Closing.{begins_of}}
use Rattle.cluster_model.specs.Clusters as cluster
use Rattle.transcript_law.specs.{Asked.{TellsAsAsked}, LawfulAnswers.{IsStill}, Lawfulness.{LawfulFrom, LawfulGroup, LinesFrom}, TakeoverAnswers.{HandsOver}, TakeoverNotes.{takeovers_after}}

-- before the first line
start_hist : (u : ℕ) → hist cluster.start.tree u ≡ []
start_hist u = elim (0 == u) as (λ b. (if b then ◌++◌ {A = Change} [] [] else []) ≡ []) [ true ↦ refl | false ↦ refl ]

none_fed : (n c v id : ℕ) → HasFed empty_world (StreamName.Client n c) n v id → ⊥
none_fed n c v id has = let e = has.1.1 in cc

pub start : Agrees empty_world empty_chronicle
start = (
  cluster.start,
  record {
    sound = start_sound top;
    vbs = λ n v. record {
      opened = refl;
      told = record { held = refl; log = refl; snap = refl; unlogged = λ e. refl };
      branch = refl;
      active = refl;
      fits = All-nil ChangeFits;
      entries = All-nil EntryFits;
      high = refl;
    };
    disks = λ n v. record { told_is = refl; disk = refl; cas = omega arith };
    branches = record {
      hists = start_hist;
      are_told = tt;
      fits = λ u. All-nil ChangeFits;
      rootless = start_hist 0;
      ids = (omega arith, tt);
      used = λ u e ne. ap (λ t. if t then Some cluster.root else None) (ne_eqb 0 u (λ z. ne (sym z)));
      fresh = λ u e. tt;
    };
    links = λ x i. absurd i;
    differ = tt;
    clients = record { each = λ n c client e. cc; apart = λ n c v id who has other. let (client, is, opens) = has.1 in cc; owed = record { low = λ n v x p o. absurd o; each = λ n c client e. cc; apart = λ n c d client other is has same. cc } };
    rests = record {
      powers = λ n. refl;
      clocks = λ n. refl;
      aways = λ n v none. record { position = refl; log = refl; role = refl; book = (refl, refl) };
      downs = λ n v. record { vb_none = λ e. refl; shelf_none = λ e. refl };
      ends = λ link i. absurd i;
      small = λ n v e. cc;
    };
  },
)

-- between lines no arm is over a disk
rests_told : (w : PlainWorld) (r : Chronicle) → Agrees w r → Rests w
rests_told w r (c, a) n v = by (shelf_of w n v) (vb_of w n v) (a.disks n v)
  where
    by : (s : Option Shelf) (o : Option Plain) → DiskIsIf (r.disk_at n v) (c.disks (seat n v)) s o → RestsIf s
    by None o d = tt
    by (Some shelf) None d = ap (λ (x : Shelf). x.fuse) d.2
    by (Some shelf) (Some vb) d = d.unarmed

-- the arms of nodes are told
arms_told : (w : PlainWorld) (r : Chronicle) → Agrees w r → (n : ℕ) → ArmKnown w r n
arms_told w r (c, a) n = by (w.nodes n) refl (a.powers n)
  where
    by : (o : Option PlainNode) → w.nodes n ≡ o → PowerIsIf (r.arm_at n) (power_in o) → ((r.arm_at n).fuse ≡ (arm_in o).fuse) × IsArm (arm_in o).fuse
    by None e p = (ap (λ t. t.fuse) p, tt)
    by (Some node) e p = (p.fuse, p.may_fire)

-- and so is whether journals are closed
shut_told : (w : PlainWorld) (r : Chronicle) → Agrees w r → ShutTold w r
shut_told w r (c, a) n v = by (shelf_of w n v) (vb_of w n v) (a.disks n v)
  where
    by : (s : Option Shelf) (o : Option Plain) → DiskIsIf (r.disk_at n v) (c.disks (seat n v)) s o → ((vb : Plain) → o ≡ Some vb → shut_in s ≡ (r.disk_at n v).closed) × (o ≡ None → (shelf_or_blank s).is_closed ≡ (r.disk_at n v).closed)
    by None None d = ((λ vb e. cc), λ e. sym (ap (λ (t : DiskKnown). t.closed) d.told_is))
    by (Some shelf) None d = ((λ vb e. cc), λ e. ap (λ (x : Shelf). x.is_closed) d.2 ∙ sym (ap (λ (t : DiskKnown). t.closed) d.0.told_is))
    by None (Some vb) d = absurd d
    by (Some shelf) (Some vb) d = ((λ q e. sym d.closed), λ e. cc)

-- and at which node a link was dialed
dials_told : (w : PlainWorld) (r : Chronicle) → Agrees w r → DialsTold w r
dials_told w r (c, a) l link found =
    let is = found_is_link l w.links link found in
    subst (λ j. option_map (λ (d : Dial). d.node) (r.dial_of j) ≡ Some (consumer_node link)) is.1 (ap (option_map (λ (d : Dial). d.node)) (a.links link is.0).dialed)

-- whether a vBucket changed since it was sealed is told
seals_as : (role : Role) (told changed : Bool) → OpenedAs role told changed → SealsAs (Some (Some role)) told (if changed then 1 else 0)
seals_as Role.Pending true true x = omega arith
seals_as Role.Pending true false x = omega arith
seals_as role told changed x = ap (λ b. if b then 1 else 0) (sym x)

opens_told : (w : PlainWorld) (r : Chronicle) → Agrees w r → AllTold w r
opens_told w r (c, a) = (
  λ n v vb known.
      let x : VbAgrees r n v (c.nodes (seat n v)) vb = subst (AgreesAt r n v (c.nodes (seat n v))) known (a.vbs n v) in
      subst (λ at. SealsAs at (r.open_at n v) (if is_some vb.spans.current then 1 else 0)) (sym x.role) (seals_as vb.role (r.open_at n v) (is_some vb.spans.current) x.opened),
  disks,
)
  where
    flush_told_is : (closed : Bool) (f : Flush) (told : Flushing) (batch : Option Batch) (taken place : ℕ) → FlushIs closed f told batch taken place → told ≡ told_flush f
    flush_told_is closed Idle told batch taken place x = x.0
    flush_told_is closed (Out b) told batch taken place x = x.0
    flush_told_is closed (Written seq) told batch taken place x = x.0

    disks : DisksTold w r
    disks n v vb shelf known kept =
        let x : ShelfIs (r.disk_at n v) (c.disks (seat n v)) shelf (parts_of vb) = subst (λ s. DiskIsIf (r.disk_at n v) (c.disks (seat n v)) s (Some vb)) kept (subst (DiskIsIf (r.disk_at n v) (c.disks (seat n v)) (shelf_of w n v)) known (a.disks n v)) in
        (flush_told_is shelf.is_closed shelf.flush (r.disk_at n v).flushing (c.disks (seat n v)).batch vb.flushed (place_of (c.disks (seat n v)).book).at x.flush, x.saved)

-- all that is told
as_told_of : (w : PlainWorld) (r : Chronicle) → ConnsAre w r.conn_at → AllLinked w r.dial_of → IsRanged w → Handed w r → Agrees w r → AsTold w r
as_told_of w r are linked ranged h a = record { handed = h; agrees = a; conns = are; linked = linked; ranged = ranged; rests = rests_told w r a; disks = opens_told w r a; shut = shut_told w r a; arms = arms_told w r a; dials = dials_told w r a }

-- what the law needs of each line, by what it names
pub row_of : (w : PlainWorld) (number : ℕ) (line : Verb) → Row w line (verb_step w number line)
row_of w number (Verb.Node n) = node_row w n
row_of w number (Verb.Link l m n v buffer takeover) = link_row w number l m n v buffer takeover
row_of w number (Verb.AtNode n what) = node_row_of w n what
row_of w number (Verb.AtVb n v what) = vb_row_of w n v what
row_of w number (Verb.AtClient n c what) = client_row_of w number n c what
row_of w number (Verb.AtLink l what) = link_row_of w l what

-- what is known as a line begins
before_of : (w : PlainWorld) (r : Chronicle) (number : ℕ) (line : Verb) → VerbFits line → IsRanged w → IsStill r → Handed w r → Agrees w r → Before w (at_line r number) line
before_of w r number line fits ranged calm h a = record { fits = fits; ranged = ranged; calm = calm; handed = handed_at w r number h; agrees = numbered w r number a }

started_of : (w : PlainWorld) (r : Chronicle) (number : ℕ) (line : Verb) → ConnsAre w r.conn_at → ServesOpen r.last r.conn_at → Handed w r → Agrees w r → Started w line (at_line r number) (verb_step w number line).0
started_of w r number (Verb.AtLink l (LinkVerb.Up wanted)) are serves h a = handed_at w r number h
started_of w r number (Verb.AtLink l (LinkVerb.Down wanted)) are serves h a = handed_at w r number h
started_of w r number (Verb.AtLink l (LinkVerb.Pump wanted)) are serves h a = handed_at w r number h
started_of w r number other are serves h a = begins_of w number other r are serves a.1.clients.owed

-- a group hands vBuckets over as it may
hands_of : (w : PlainWorld) (r : Chronicle) (number : ℕ) (line : Verb) → Before w r line → (let o = verb_step w number line in Tells r line o.1.events → HandsOver r line o.1.events o.1.answer)
hands_of w r number (Verb.AtLink l (LinkVerb.Up wanted)) b t = moves.hands w r number (Verb.AtLink l (LinkVerb.Up wanted)) refl b
hands_of w r number (Verb.AtLink l (LinkVerb.Down wanted)) b t = moves.hands w r number (Verb.AtLink l (LinkVerb.Down wanted)) refl b
hands_of w r number (Verb.AtLink l (LinkVerb.Pump wanted)) b t = moves.hands w r number (Verb.AtLink l (LinkVerb.Pump wanted)) refl b
hands_of w r number (Verb.AtLink l LinkVerb.Drop) b t = let o = verb_step w number (Verb.AtLink l LinkVerb.Drop) in hands_beside r (Verb.AtLink l LinkVerb.Drop) o.1.events o.1.answer refl t
hands_of w r number (Verb.AtLink l LinkVerb.Cut) b t = let o = verb_step w number (Verb.AtLink l LinkVerb.Cut) in hands_beside r (Verb.AtLink l LinkVerb.Cut) o.1.events o.1.answer refl t
hands_of w r number (Verb.Node n) b t = let o = verb_step w number (Verb.Node n) in hands_beside r (Verb.Node n) o.1.events o.1.answer refl t
hands_of w r number (Verb.Link l m n v buffer takeover) b t = let o = verb_step w number (Verb.Link l m n v buffer takeover) in hands_beside r (Verb.Link l m n v buffer takeover) o.1.events o.1.answer refl t
hands_of w r number (Verb.AtNode n what) b t = let o = verb_step w number (Verb.AtNode n what) in hands_beside r (Verb.AtNode n what) o.1.events o.1.answer refl t
hands_of w r number (Verb.AtVb n v what) b t = let o = verb_step w number (Verb.AtVb n v what) in hands_beside r (Verb.AtVb n v what) o.1.events o.1.answer refl t
hands_of w r number (Verb.AtClient n c what) b t = let o = verb_step w number (Verb.AtClient n c what) in hands_beside r (Verb.AtClient n c what) o.1.events o.1.answer refl t

-- and of all links all is known behind it
known_of_line : (w : PlainWorld) (r : Chronicle) (number : ℕ) (line : Verb) → Before w r line
    → (let o = verb_step w number line in Tells r line o.1.events → Agrees (with_branches o.1.events o.0) (after_group r line o.1.events o.1.answer) → AllKnown (with_branches o.1.events o.0) (after_group r line o.1.events o.1.answer))
known_of_line w r number (Verb.AtLink l (LinkVerb.Up wanted)) b t a = moves.known w r number (Verb.AtLink l (LinkVerb.Up wanted)) refl b a
known_of_line w r number (Verb.AtLink l (LinkVerb.Down wanted)) b t a = moves.known w r number (Verb.AtLink l (LinkVerb.Down wanted)) refl b a
known_of_line w r number (Verb.AtLink l (LinkVerb.Pump wanted)) b t a = moves.known w r number (Verb.AtLink l (LinkVerb.Pump wanted)) refl b a
known_of_line w r number (Verb.AtLink l LinkVerb.Drop) b t a = still_line w r number (Verb.AtLink l LinkVerb.Drop) refl t tt b.agrees a b.handed.known
known_of_line w r number (Verb.AtLink l LinkVerb.Cut) b t a = still_line w r number (Verb.AtLink l LinkVerb.Cut) refl t tt b.agrees a b.handed.known
known_of_line w r number (Verb.Link l m n v buffer takeover) b t a = dial_line w r number l m n v buffer takeover b.handed.known a
known_of_line w r number (Verb.Node n) b t a = still_line w r number (Verb.Node n) refl t (line_asked w r number (Verb.Node n) b.ranged b.agrees) b.agrees a b.handed.known
known_of_line w r number (Verb.AtNode n what) b t a = still_line w r number (Verb.AtNode n what) refl t (line_asked w r number (Verb.AtNode n what) b.ranged b.agrees) b.agrees a b.handed.known
known_of_line w r number (Verb.AtVb n v what) b t a = still_line w r number (Verb.AtVb n v what) refl t (line_asked w r number (Verb.AtVb n v what) b.ranged b.agrees) b.agrees a b.handed.known
known_of_line w r number (Verb.AtClient n c what) b t a = still_line w r number (Verb.AtClient n c what) refl t (line_asked w r number (Verb.AtClient n c what) b.ranged b.agrees) b.agrees a b.handed.known

-- who was given up for a stream whose rest is sent is the writer yet
kept_of_line : (w : PlainWorld) (r : Chronicle) (number : ℕ) (line : Verb) → Before w r line
    → (let o = verb_step w number line in Tells r line o.1.events → LinesFrom (ahead r line o.1.answer) r.conn_at o.1.events → Agrees (with_branches o.1.events o.0) (after_group r line o.1.events o.1.answer)
    → AllKnown (with_branches o.1.events o.0) (after_group r line o.1.events o.1.answer) → AllKept (with_branches o.1.events o.0) (after_group r line o.1.events o.1.answer))
kept_of_line w r number (Verb.AtLink l (LinkVerb.Up wanted)) b t lines a known = moves.kept w r number (Verb.AtLink l (LinkVerb.Up wanted)) refl b lines a known
kept_of_line w r number (Verb.AtLink l (LinkVerb.Down wanted)) b t lines a known = moves.kept w r number (Verb.AtLink l (LinkVerb.Down wanted)) refl b lines a known
kept_of_line w r number (Verb.AtLink l (LinkVerb.Pump wanted)) b t lines a known = moves.kept w r number (Verb.AtLink l (LinkVerb.Pump wanted)) refl b lines a known
kept_of_line w r number (Verb.AtLink l LinkVerb.Drop) b t lines a known = still_kept w r number (Verb.AtLink l LinkVerb.Drop) refl t tt b.agrees lines b.handed.freed.made a b.handed.kept
kept_of_line w r number (Verb.AtLink l LinkVerb.Cut) b t lines a known = still_kept w r number (Verb.AtLink l LinkVerb.Cut) refl t tt b.agrees lines b.handed.freed.made a b.handed.kept
kept_of_line w r number (Verb.Link l m n v buffer takeover) b t lines a known = dial_kept w r number l m n v buffer takeover b.agrees b.handed.freed.made b.handed.kept lines a
kept_of_line w r number (Verb.Node n) b t lines a known = still_kept w r number (Verb.Node n) refl t (line_asked w r number (Verb.Node n) b.ranged b.agrees) b.agrees lines b.handed.freed.made a b.handed.kept
kept_of_line w r number (Verb.AtNode n what) b t lines a known = still_kept w r number (Verb.AtNode n what) refl t (line_asked w r number (Verb.AtNode n what) b.ranged b.agrees) b.agrees lines b.handed.freed.made a b.handed.kept
kept_of_line w r number (Verb.AtVb n v what) b t lines a known = still_kept w r number (Verb.AtVb n v what) refl t (line_asked w r number (Verb.AtVb n v what) b.ranged b.agrees) b.agrees lines b.handed.freed.made a b.handed.kept
kept_of_line w r number (Verb.AtClient n c what) b t lines a known = still_kept w r number (Verb.AtClient n c what) refl t (line_asked w r number (Verb.AtClient n c what) b.ranged b.agrees) b.agrees lines b.handed.freed.made a b.handed.kept

-- branches that its lines make are named
fits_of : (w : PlainWorld) (r : Chronicle) (number : ℕ) (line : Verb) → Before w r line → (let o = verb_step w number line in Tells r line o.1.events → LinesFrom (ahead r line o.1.answer) r.conn_at o.1.events → Agrees (with_branches o.1.events o.0) (after_group r line o.1.events o.1.answer) → LinesFit (ahead r line o.1.answer) o.1.events)
fits_of w r number (Verb.AtLink l (LinkVerb.Up wanted)) b t lines later = moves.fits w r number (Verb.AtLink l (LinkVerb.Up wanted)) refl b lines later
fits_of w r number (Verb.AtLink l (LinkVerb.Down wanted)) b t lines later = moves.fits w r number (Verb.AtLink l (LinkVerb.Down wanted)) refl b lines later
fits_of w r number (Verb.AtLink l (LinkVerb.Pump wanted)) b t lines later = moves.fits w r number (Verb.AtLink l (LinkVerb.Pump wanted)) refl b lines later
fits_of w r number (Verb.AtLink l LinkVerb.Drop) b t lines later = still_fits w r (ahead r (Verb.AtLink l LinkVerb.Drop) (verb_step w number (Verb.AtLink l LinkVerb.Drop)).1.answer) number (Verb.AtLink l LinkVerb.Drop) refl t tt
fits_of w r number (Verb.AtLink l LinkVerb.Cut) b t lines later = still_fits w r (ahead r (Verb.AtLink l LinkVerb.Cut) (verb_step w number (Verb.AtLink l LinkVerb.Cut)).1.answer) number (Verb.AtLink l LinkVerb.Cut) refl t tt
fits_of w r number (Verb.Link l m n v buffer takeover) b t lines later = dial_fits w r number l m n v buffer takeover
fits_of w r number (Verb.Node n) b t lines later = still_fits w r (ahead r (Verb.Node n) (verb_step w number (Verb.Node n)).1.answer) number (Verb.Node n) refl t (line_asked w r number (Verb.Node n) b.ranged b.agrees)
fits_of w r number (Verb.AtNode n what) b t lines later = still_fits w r (ahead r (Verb.AtNode n what) (verb_step w number (Verb.AtNode n what)).1.answer) number (Verb.AtNode n what) refl t (line_asked w r number (Verb.AtNode n what) b.ranged b.agrees)
fits_of w r number (Verb.AtVb n v what) b t lines later = still_fits w r (ahead r (Verb.AtVb n v what) (verb_step w number (Verb.AtVb n v what)).1.answer) number (Verb.AtVb n v what) refl t (line_asked w r number (Verb.AtVb n v what) b.ranged b.agrees)
fits_of w r number (Verb.AtClient n c what) b t lines later = still_fits w r (ahead r (Verb.AtClient n c what) (verb_step w number (Verb.AtClient n c what)).1.answer) number (Verb.AtClient n c what) refl t (line_asked w r number (Verb.AtClient n c what) b.ranged b.agrees)

-- and behind the whole group of a line, which is read behind its number, all agrees
pub group_agrees : (w : PlainWorld) (r : Chronicle) (number : ℕ) (line : Verb) → VerbFits line → IsRanged w → ConnsAre w r.conn_at → ServesOpen r.last r.conn_at → IsStill r → Handed w r → Agrees w r
    → (let o = verb_step w number line in Agrees (with_branches o.1.events o.0) (after_group (at_line r number) line o.1.events o.1.answer))
group_agrees w r number line fits ranged are serves calm h a =
    let o = verb_step w number line in let row : Row w line o = row_of w number line in let r0 : Chronicle = at_line r number in
    let went = (row.goes r0 fits ranged calm (started_of w r number line are serves h a) (numbered w r number a)).1 in (
      went.0,
      group_ended (with_branches o.1.events o.0) (after_verb r0 (after_lines (ahead r0 line o.1.answer) o.1.events) line o.1.events o.1.answer) (takeovers_after (after_verb r0 (after_lines (ahead r0 line o.1.answer) o.1.events) line o.1.events o.1.answer) line o.1.events o.1.answer) (conns_verb (conns_lines r.conn_at o.1.events) line o.1.answer) (row.ranged fits ranged) (line_heard r.conn_at w number are line fits).1 went.0 went.1,
    )

-- and so is all that is known of links
pub group_handed : (w : PlainWorld) (r : Chronicle) (number : ℕ) (line : Verb) → VerbFits line → IsRanged w → IsStill r → AllLinked w r.dial_of → Handed w r → Agrees w r
    → (let o = verb_step w number line in let r0 : Chronicle = at_line r number in Tells r0 line o.1.events → LinesFrom (ahead r0 line o.1.answer) r.conn_at o.1.events → Agrees (with_branches o.1.events o.0) (after_group r0 line o.1.events o.1.answer)
    → Handed (with_branches o.1.events o.0) (after_group r0 line o.1.events o.1.answer))
group_handed w r number line fits ranged calm linked h a t lines later =
    let o = verb_step w number line in let r0 : Chronicle = at_line r number in let b : Before w r0 line = before_of w r number line fits ranged calm h a in
    let known : AllKnown (with_branches o.1.events o.0) (after_group r0 line o.1.events o.1.answer) = known_of_line w r0 number line b t later in
    let freed = group_freed r0 line o.1.events o.1.answer lines (fits_of w r0 number line b t lines later) (dials_differ w r0 b.agrees.0 b.agrees.1 linked) b.handed.freed in record {
      known = known;
      freed = freed;
      free = all_free (with_branches o.1.events o.0) (after_group r0 line o.1.events o.1.answer) later.0 later.1 freed;
      kept = kept_of_line w r0 number line b t lines later known;
      ends = ends_of_line w r0 number line b t later;
    }

-- nothing is entered then but for a connection that is open
pub group_serves : (r : Chronicle) (number : ℕ) (line : Verb) (lines : List Event) (said : Answer) → (let told = after_group (at_line r number) line lines said in ServesOpen told.last told.conn_at)
group_serves r number line lines said =
    let r0 : Chronicle = at_line r number in let read : Chronicle = after_verb r0 (after_lines (ahead r0 line said) lines) line lines said in
    serves_open read.last read.clients_at read.made (conns_verb (conns_lines r.conn_at lines) line said)

pub start_serves : ServesOpen empty_chronicle.last empty_chronicle.conn_at
start_serves line e n c shut = let same : record { number = 0; served = λ m d. None } ≡ line = cc in ap (λ (l : LastLine). l.served n c) (sym same)

pub refused_keep : RefusedLinesKeep
refused_keep w number line why rests said standing = let x = (row_of w number line).keeps rests why said standing in (x.0.0, x.0.1, x.0.2, x.1)

-- all that is carried along a script
pub record Along (w : PlainWorld) (r : Chronicle) : Type 0 where
  pub ranged : IsRanged w
  pub are : ConnsAre w r.conn_at
  pub linked : AllLinked w r.dial_of
  pub serves : ServesOpen r.last r.conn_at
  pub calm : IsStill r
  pub handed : Handed w r
  pub agrees : Agrees w r

pub along_start : Along empty_world empty_chronicle
along_start = record { ranged = start_ranged; are = start_conns; linked = λ l d e. cc; serves = start_serves; calm = (tt, refl); handed = handed_none; agrees = start }

-- one line more
module _ (w : PlainWorld) (r : Chronicle) (line : ScriptLine) (fit : VerbFits line.verb) (x : Along w r) where
  abbrev outcome : Outcome
  outcome = verb_step w line.line line.verb

  abbrev r0 : Chronicle
  r0 = at_line r line.line

  abbrev pub later : PlainWorld
  later = let o = verb_step w line.line line.verb in with_branches o.1.events o.0

  abbrev pub known : Chronicle
  known = let o = verb_step w line.line line.verb in after_group (at_line r line.line) line.verb o.1.events o.1.answer

  a0 : Agrees w r0
  a0 = numbered w r line.line x.agrees

  row : Row w line.verb outcome
  row = row_of w line.line line.verb

  told : AsTold w r0
  told = as_told_of w r0 x.are x.linked x.ranged (handed_at w r line.line x.handed) a0

  pub along_lawful : LawfulFrom (ahead (at_line r line.line) line.verb (verb_step w line.line line.verb).1.answer) (verb_step w line.line line.verb).1.events
  along_lawful = (row.goes r0 fit x.ranged x.calm (started_of w r line.line line.verb x.are x.serves x.handed x.agrees) a0).0

  lines_are : LinesFrom (ahead r0 line.verb outcome.1.answer) r.conn_at outcome.1.events
  lines_are = lines_heard (ahead r0 line.verb outcome.1.answer) r.conn_at outcome.1.events along_lawful (line_heard r.conn_at w line.line x.are line.verb fit).0

  later_agrees : Agrees later known
  later_agrees = group_agrees w r line.line line.verb fit x.ranged x.are x.serves x.calm x.handed x.agrees

  pub along : Along later known
  along = record {
    ranged = row.ranged fit x.ranged;
    are = (line_heard r.conn_at w line.line x.are line.verb fit).1;
    linked = all_linked w r line.line line.verb x.linked (new_there w r0 x.ranged a0 x.linked line.line line.verb) (line_ends w r0 x.ranged a0 x.linked line.line line.verb (row.told r0 fit told).1).0;
    serves = group_serves r line.line line.verb outcome.1.events outcome.1.answer;
    calm = (tt, refl);
    handed = group_handed w r line.line line.verb fit x.ranged x.calm x.linked x.handed x.agrees (row.tells r0 told) lines_are later_agrees;
    agrees = later_agrees;
  }

  -- branches that its lines make are named
  pub group_fits : (let o = verb_step w line.line line.verb in LinesFit (ahead (at_line r line.line) line.verb o.1.answer) o.1.events)
  group_fits = fits_of w r0 line.line line.verb (before_of w r line.line line.verb fit x.ranged x.calm x.handed x.agrees) (row.tells r0 told) lines_are later_agrees

  -- and its group is lawful
  pub group_lawful : (let o = verb_step w line.line line.verb in LawfulGroup (at_line r line.line) line (record { line = line.line; events = o.1.events; answer = o.1.answer }))
  group_lawful =
      let hands : HandsOver r0 line.verb outcome.1.events outcome.1.answer = hands_of w r0 line.line line.verb (before_of w r line.line line.verb fit x.ranged x.calm x.handed x.agrees) (row.tells r0 told) in
      let by : ToldBy r0 line.verb outcome.1.events = told_by r0 line.verb outcome.1.events hands.tells in
      let judged = row.told r0 fit told in (
        lines_are,
        row.bound r0 a0 judged.0,
        judged.1,
        refl,
        λ why said standing. (row.keeps told.rests why said standing).1,
        hands,
        line_asked w r0 line.line line.verb x.ranged a0,
        leaves_none w line.line line.verb r0 x.ranged x.calm (handed_at w r line.line x.handed) a0 (λ n said. moves.awaits w r0 line.line line.verb (before_of w r line.line line.verb fit x.ranged x.calm x.handed x.agrees) n said),
        all_answered later known later_agrees (row.ranged fit x.ranged) (line_heard r.conn_at w line.line x.are line.verb fit).1,
        line_next w r0 line.line line.verb by,
        line_breaks w r0 x.ranged a0 line.line line.verb by,
        (line_ends w r0 x.ranged a0 x.linked line.line line.verb judged.1).1,
      )

lawful_from : (w : PlainWorld) (r : Chronicle) (script : List ScriptLine) → ScriptFits script → Along w r → LawfulGroups r script (groups_from w script)
unfolding world_step
lawful_from w r [] fits x = tt
lawful_from w r (line ∷ lines) fits x =
    let fit = All-head (λ (y : ScriptLine). VerbFits y.verb) line lines fits in
    (group_lawful w r line fit x, lawful_from (later w r line fit x) (known w r line fit x) lines (All-tail (λ (y : ScriptLine). VerbFits y.verb) line lines fits) (along w r line fit x))

-- the transcript of a script is lawful
pub lawful : (script : List ScriptLine) → ScriptFits script → Lawful script (groups script)
lawful script fits = lawful_from empty_world empty_chronicle script fits along_start
