-- an arm that fires inside a line
use Rattle.std.specs.Prelude.{◌≡◌, ◌∷◌, ◌++◌, ◌==◌, if◌then◌else◌}
use Rattle.std.proofs.lemmas.Grind.{flat_map-append}
use Rattle.transcript_law.proofs.Words.{ℕ, Bool, true, false, List, [], refl, ap, sym, ◌∙◌, subst, append-nil, eqb-true, Option, Some, None, Dial, filter, flat_map, eq-eqb, Event, EndReason, StreamName, StaysSound}
use Rattle.transcript_law.proofs.Words.{Cluster, PlainLink, link_number, PlainNode, PlainWorld, row_out, unlinked, with_links, branch_of_line, with_branches, Role, Chronicle, after_end, after_line, after_lines, LawfulFrom, with_id}
use Rattle.node_world.specs.{Arms.{fired_by}, Cuts.{closed_at}, Power.{after_broken, after_fire, all_cut, all_unlinked, down_lines, dropped, is_this_number, stopped_node, touches, with_arm, with_broken}, Worlds.{arm_in, is_up, node_if, with_node_if}}
use Rattle.node_world.specs.declared.arm.Fired.{Fired}
use Rattle.{vb_disk.specs.declared.fuse.Fuse.{Fuse}, vb_disk.specs.declared.made.Outcome.{Outcome}, vb_events.specs.declared.event.Answer.{Answer}, vb_types.specs.declared.journal.Record.{Record}}
use Rattle.vb_disk.specs.declared.fuse.Fuse.TheVariants.{Off, Stop, Fail}
use Rattle.node_world.specs.declared.arm.Fired.TheVariants as fired
use Rattle.vb_events.specs.declared.event.Answer.TheVariants as answer
use Rattle.vb_types.specs.declared.stream.AskAnswer.TheVariants as ask_answer
use Rattle.vb_events.specs.declared.event.Cause.TheVariants as cause
use Rattle.transcript_law.specs.{Chronicles.{Appending, ArmKnown, DiskKnown, after_append, after_crash, after_made, after_noted, after_rollback, appending, broken_by, Conns, calls_of_append, known_down, saving, spent, state_of, with_disk, with_disk_there}, Lawfulness.{IsOpen, IsToFail, IsToStop}}
use Rattle.transcript_law.proofs.{invariant.Agreement.{Agrees, AgreesIn, GoesOn, IsArm, IsLink, LineGoes, PowerIsIf, idle}, disks.ArmedLines.{AreEnds, ArmedCame, IsNoting}, verbs.Crashing.{Drops, drops}}
use Rattle.transcript_law.proofs.{disks.Disks.{power_in}, disks.Downed.{AreDialed, IsFree, down_closes, down_ends, ends_lawful, end_agrees, none_free, some_free}, indexers.Beside.{beside}, lines.Lines.{AreQuiet, after_more, lawful_more}}

-- no line tells of an arm

line_arms : (r : Chronicle) (line : Event) → (after_line r line).arm_at ≡ r.arm_at
line_arms r (Event.Branch n v uuid parent fork high) = refl
line_arms r (Event.Role n v role) = refl
line_arms r (Event.Changed n v uuid change) = refl
line_arms r (Event.Asked (StreamName.Link l) n v ask high log ask_answer.Go) = refl
line_arms r (Event.Asked (StreamName.Link l) n v ask high log (ask_answer.Roll to)) = refl
line_arms r (Event.Asked (StreamName.Link l) n v ask high log (ask_answer.Refuse code)) = refl
line_arms r (Event.Asked (StreamName.Client m c) n v ask high log said) = refl
line_arms r (Event.Marked (StreamName.Link l) start end flags) = refl
line_arms r (Event.Marked (StreamName.Client m c) start end flags) = refl
line_arms r (Event.Item (StreamName.Link l) seq act key) = refl
line_arms r (Event.Item (StreamName.Client m c) seq act key) = refl
line_arms r (Event.Finished (StreamName.Link l) reason) = refl
line_arms r (Event.Finished (StreamName.Client m c) reason) = refl
line_arms r (Event.Stated (StreamName.Link l) role) = refl
line_arms r (Event.Stated (StreamName.Client m c) role) = refl
line_arms r (Event.Adopted n v log) = refl
line_arms r (Event.Ranged n v ss se) = refl
line_arms r (Event.Got n v stream change) = refl
line_arms r (Event.Rolled n v named to) = refl
line_arms r (Event.Batch n v ss se at count) = refl
line_arms r (Event.Ended l reason) = refl
line_arms r other = refl

pub lines_arms : (r : Chronicle) (lines : List Event) → (after_lines r lines).arm_at ≡ r.arm_at
lines_arms r [] = refl
lines_arms r (line ∷ lines) = lines_arms (after_line r line) lines ∙ line_arms r line

-- the arm of a node, as the lines tell it
pub record ArmAgrees (told : ArmKnown) (o : Option PlainNode) : Type 0 where
  pub fuse : told.fuse ≡ (arm_in o).fuse
  pub out : told.out ≡ (arm_in o).out
  pub may_fire : IsArm (arm_in o).fuse

pub arm_is : (told : ArmKnown) (o : Option PlainNode) → PowerIsIf told (power_in o) → ArmAgrees told o
arm_is told None e = record { fuse = ap (λ (t : ArmKnown). t.fuse) e; out = ap (λ (t : ArmKnown). t.out) e; may_fire = tt }
arm_is told (Some node) p = record { fuse = p.fuse; out = p.out; may_fire = p.may_fire }

-- it fails a call, or stops its node, only where it was to
to_fail : (f f' : Fuse) → fired_by f f' ≡ fired.Failed → IsArm f → IsToFail f
to_fail Off f' e a = cc
to_fail (Stop k) Off e a = cc
to_fail (Stop k) (Stop j) e a = cc
to_fail (Stop k) (Fail j) e a = cc
to_fail (Fail k) f' e a = a

to_stop : (f f' : Fuse) → fired_by f f' ≡ fired.Stopped → IsArm f → IsToStop f
to_stop Off f' e a = cc
to_stop (Fail k) Off e a = cc
to_stop (Fail k) (Stop j) e a = cc
to_stop (Fail k) (Fail j) e a = cc
to_stop (Stop k) f' e a = a

-- a line under the arm of the node n: what is told of the arm is lawful
module _ (n : ℕ) (w0 : PlainWorld) (r : Chronicle) (c : Cluster) (a : AgreesIn idle w0 r c) (events : List Event) (after : Fuse) where
  abbrev r1 : Chronicle
  r1 = after_lines r events

  arm : ArmAgrees (r.arm_at n) (w0.nodes n)
  arm = arm_is (r.arm_at n) (w0.nodes n) (a.powers n)

  same : r1.arm_at n ≡ r.arm_at n
  same = ap (λ (t : ℕ → ArmKnown). t n) (lines_arms r events)

  fuse_is : (r1.arm_at n).fuse ≡ (arm_in (w0.nodes n)).fuse
  fuse_is = ap (λ (t : ArmKnown). t.fuse) same ∙ arm.fuse

  pub fails_so : fired_by (arm_in (w0.nodes n)).fuse after ≡ fired.Failed → IsToFail (r1.arm_at n).fuse
  fails_so e = subst IsToFail (sym fuse_is) (to_fail (arm_in (w0.nodes n)).fuse after e arm.may_fire)

  pub stops_so : fired_by (arm_in (w0.nodes n)).fuse after ≡ fired.Stopped → IsToStop (r1.arm_at n).fuse
  stops_so e = subst IsToStop (sym fuse_is) (to_stop (arm_in (w0.nodes n)).fuse after e arm.may_fire)

  -- what a crash leaves, after what ends with the node is told
  pub leaves_so : (lines : List Event) → ((after_lines r1 lines).arm_at n).out ≡ (arm_in (w0.nodes n)).out
  leaves_so lines = ap (λ (t : ℕ → ArmKnown). (t n).out) (lines_arms r1 lines) ∙ ap (λ (t : ArmKnown). t.out) same ∙ arm.out

  -- the node stopped: its links end, and that of the number `also`, which is none of them
  pub stopped : StaysSound → (told : Answer → Chronicle → Chronicle) → IsNoting n told → (w1 : PlainWorld) (also : Option ℕ) → IsFree also w1.links → ((l : ℕ) → is_this_number l also ≡ true → (dial : Dial) × (r1.dial_of l ≡ Some dial)) → LawfulFrom r events → AreQuiet events → fired_by (arm_in (w0.nodes n)).fuse after ≡ fired.Stopped
      → is_up (w1.nodes n) ≡ true → Agrees w1 (told (answer.No cause.Disk) r1)
      → GoesOn r (told (answer.No cause.Stopped)) (dropped n (arm_in (w0.nodes n)).out w1, record { events = events ++ Event.NodeStopped n ∷ down_lines n also w1; answer = answer.No cause.Stopped })
  stopped stays told noting w1 also free besides lawful quiet e up agrees =
      let out : Outcome = (arm_in (w0.nodes n)).out in
      let lines : List Event = down_lines n also w1 in
      let r2 : Chronicle = after_line r1 (Event.NodeStopped n) in let failed : Chronicle = told (answer.No cause.Disk) r1 in
      let agrees2 : Agrees w1 (told (answer.No cause.Disk) r2) = subst (Agrees w1) (sym (noting.conns r1 r2.conn_at)) (agrees.0, beside w1 failed r2.conn_at failed.made failed.ticks failed.changed agrees.0 (λ one durable i. i) agrees.1) in
      let d : Drops w1 (told (answer.No cause.Disk) r2) n out also = drops stays w1 (told (answer.No cause.Disk) r2) n out also agrees2 up free (λ l is. let x = besides l is in (x.0, ap (λ (f : ℕ → Option Dial). f l) (noting.dials r2) ∙ x.1)) in
      let is : told (answer.No cause.Stopped) (after_lines r2 lines) ≡ after_crash (after_lines (told (answer.No cause.Disk) r2) lines) n out
      = noting.stops (after_lines r2 lines) ∙ (λ i. after_crash (noting.apart r2 lines d.ends i) n (leaves_so (Event.NodeStopped n ∷ lines) i)) in (
        lawful_more r events (Event.NodeStopped n ∷ lines) quiet lawful (stops_so e, ends_lawful n r2 lines d.ends (down_closes n also w1) (λ c. ap (λ b. if b then false else r1.conn_at n c) (eq-eqb n n refl)) (subst (λ f. AreDialed f lines) (noting.dials r2) d.dialed)),
        subst (λ q. Agrees (dropped n out w1) (told (answer.No cause.Stopped) q)) (sym (after_more r events (Event.NodeStopped n ∷ lines))) (subst (Agrees (dropped n out w1)) (sym is) d.agrees),
      )

-- what a rollback that was broken off has come to before that is told: `r` is what was read with its lines, `w` the world. Where nothing fired its journal was closed before; and the node stopped only where it was running
abbrev pub BrokenCame : ℕ → (Answer → Chronicle → Chronicle) → Fired → Chronicle → PlainWorld → Type 0
BrokenCame n told fired.No r w = Agrees w (told (answer.No cause.Closed) r)
BrokenCame n told fired.Failed r w = Agrees w (told (answer.No cause.Disk) r)
BrokenCame n told fired.Stopped r w = (is_up (w.nodes n) ≡ true) × Agrees w (told (answer.No cause.Disk) r)

module _ (stays : StaysSound) (n : ℕ) (told : Answer → Chronicle → Chronicle) (noting : IsNoting n told) (w0 w1 : PlainWorld) (r : Chronicle) (events : List Event) where
  abbrev out : Outcome
  out = (arm_in (w0.nodes n)).out

  abbrev how : Fired
  how = fired_by (arm_in (w0.nodes n)).fuse (arm_in (w1.nodes n)).fuse

  -- a line under its node's arm, which may have fired
  pub fires : (said : Answer) → Agrees w0 r → LawfulFrom r events → AreQuiet events → ArmedCame n told how (after_lines r events) w1 said
      → GoesOn r (told (with_arm n w0 (w1, record { events = events; answer = said })).1.answer) (with_arm n w0 (w1, record { events = events; answer = said }))
  fires said (c, a) lawful quiet came = by how refl came
    where
      by : (f : Fired) → how ≡ f → ArmedCame n told f (after_lines r events) w1 said
          → GoesOn r (told (after_fire n out f (w1, record { events = events; answer = said })).1.answer) (after_fire n out f (w1, record { events = events; answer = said }))
      by fired.No e x = (lawful, x)
      by fired.Failed e x = (
        lawful_more r events (Event.CallFailed n ∷ []) quiet lawful (fails_so n w0 r c a events (arm_in (w1.nodes n)).fuse e, tt),
        subst (λ q. Agrees w1 (told said q)) (sym (after_more r events (Event.CallFailed n ∷ []))) x.1,
      )
      by fired.Stopped e x = stopped n w0 r c a events (arm_in (w1.nodes n)).fuse stays told noting w1 None (none_free w1.links) (λ l is. cc) lawful quiet e x.1 (subst (λ s. Agrees w1 (told s (after_lines r events))) x.0 x.2)

  -- a rollback of the link l that was broken off, after which the link is no more
  pub breaks : (l : ℕ) → ((q : Chronicle) → told (answer.No cause.Closed) (after_end q l) ≡ after_end (told (answer.No cause.Closed) q) l) → ((x : PlainLink) → IsLink x w1.links → link_number x ≡ l → ⊥)
      → IsOpen (after_lines r events) l → Agrees w0 r → LawfulFrom r events → AreQuiet events → BrokenCame n told how (after_lines r events) w1
      → GoesOn r (told (with_broken n l w0 (w1, record { events = events; answer = answer.No cause.Disk })).1.answer) (with_broken n l w0 (w1, record { events = events; answer = answer.No cause.Disk }))
  breaks l closed apart dialed (c, a) lawful quiet came = by how refl came
    where
      by : (f : Fired) → how ≡ f → BrokenCame n told f (after_lines r events) w1
          → GoesOn r (told (after_broken n l out f (w1, record { events = events; answer = answer.No cause.Disk })).1.answer) (after_broken n l out f (w1, record { events = events; answer = answer.No cause.Disk }))
      by fired.No e x = (
        lawful_more r events (Event.Ended l EndReason.Disk ∷ []) quiet lawful (dialed, tt),
        subst (λ q. Agrees w1 (told (answer.No cause.Closed) q)) (sym (after_more r events (Event.Ended l EndReason.Disk ∷ [])))
            (subst (Agrees w1) (sym (closed (after_lines r events))) (end_agrees w1 (told (answer.No cause.Closed) (after_lines r events)) l x apart)),
      )
      by fired.Failed e x = (
        lawful_more r events (Event.CallFailed n ∷ Event.Ended l EndReason.Disk ∷ []) quiet lawful (fails_so n w0 r c a events (arm_in (w1.nodes n)).fuse e, (dialed, tt)),
        subst (λ q. Agrees w1 (told (answer.No cause.Disk) q)) (sym (after_more r events (Event.CallFailed n ∷ Event.Ended l EndReason.Disk ∷ [])))
            (subst (Agrees w1) (sym (noting.apart (after_lines r events) (Event.Ended l EndReason.Disk ∷ []) tt)) (end_agrees w1 (told (answer.No cause.Disk) (after_lines r events)) l x apart)),
      )
      by fired.Stopped e x = stopped n w0 r c a events (arm_in (w1.nodes n)).fuse stays told noting w1 (Some l) (some_free l w1.links apart) (λ k is. subst (IsOpen (after_lines r events)) (sym (eqb-true k l is)) dialed) lawful quiet e x.0 x.1

-- lines that tell of branches

-- the world with more ids of branches
abbrev with_more : List ℕ → PlainWorld → PlainWorld
with_more more w = record { nodes = w.nodes; uuids = w.uuids ++ more; links = w.links }

more_if : (more : List ℕ) (n : ℕ) (f : PlainNode → PlainNode) (w : PlainWorld) → with_node_if n f (with_more more w) ≡ with_more more (with_node_if n f w)
more_if more n f w = elim (w.nodes n) as (λ o. node_if n f (with_more more w) o ≡ with_more more (node_if n f w o)) [ None ↦ refl | Some node ↦ refl ]

more_unlinked : (more : List ℕ) (links : List PlainLink) (w : PlainWorld) → all_unlinked links (with_more more w) ≡ with_more more (all_unlinked links w)
more_unlinked more [] w = refl
more_unlinked more (link ∷ links) w =
    ap (λ (x : PlainWorld). all_unlinked links (with_links x (row_out link_number (link_number link) w.links))) (more_if more link.server.desk.node (closed_at link) w) ∙ more_unlinked more links (unlinked link w)

more_dropped : (more : List ℕ) (n : ℕ) (out : Outcome) (w : PlainWorld) → dropped n out (with_more more w) ≡ with_more more (dropped n out w)
more_dropped more n out w = ap (with_node_if n (stopped_node out)) (more_unlinked more (filter (touches n) w.links) w) ∙ more_if more n (stopped_node out) (all_cut n w)

-- lines of what ends tell of none
none_told : (lines : List Event) → AreEnds lines → flat_map branch_of_line lines ≡ []
none_told [] a = refl
none_told (Event.Ended l reason ∷ lines) a = none_told lines a
none_told (Event.Closed n c ∷ lines) a = none_told lines a
none_told (other ∷ lines) a = absurd a

pub same_told : (events more : List Event) → flat_map branch_of_line more ≡ [] → flat_map branch_of_line (events ++ more) ≡ flat_map branch_of_line events
same_told events more none = flat_map-append branch_of_line events more ∙ ap (λ xs. flat_map branch_of_line events ++ xs) none ∙ append-nil (flat_map branch_of_line events)

-- the same, where the line may tell of branches
pub line_fires : StaysSound → (n : ℕ) (told : Answer → Chronicle → Chronicle) → IsNoting n told → (w0 w1 : PlainWorld) (r : Chronicle) (events : List Event) (said : Answer) → Agrees w0 r → LawfulFrom r events → AreQuiet events
    → ArmedCame n told (fired_by (arm_in (w0.nodes n)).fuse (arm_in (w1.nodes n)).fuse) (after_lines r events) (with_branches events w1) said
    → LineGoes r (told (with_arm n w0 (w1, record { events = events; answer = said })).1.answer) (with_arm n w0 (w1, record { events = events; answer = said }))
line_fires stays n told noting w0 w1 r events said a lawful quiet came =
    by (fired_by (arm_in (w0.nodes n)).fuse (arm_in (w1.nodes n)).fuse) (fires stays n told noting w0 (with_branches events w1) r events said a lawful quiet came)
  where
    by : (f : Fired) → GoesOn r (told (after_fire n (arm_in (w0.nodes n)).out f (with_branches events w1, record { events = events; answer = said })).1.answer) (after_fire n (arm_in (w0.nodes n)).out f (with_branches events w1, record { events = events; answer = said }))
        → LineGoes r (told (after_fire n (arm_in (w0.nodes n)).out f (w1, record { events = events; answer = said })).1.answer) (after_fire n (arm_in (w0.nodes n)).out f (w1, record { events = events; answer = said }))
    by fired.No g = g
    by fired.Failed g = (g.0, subst (λ us. Agrees (with_more us w1) (told said (after_lines r (events ++ Event.CallFailed n ∷ [])))) (sym (same_told events (Event.CallFailed n ∷ []) refl)) g.1)
    by fired.Stopped g =
        let out : Outcome = (arm_in (w0.nodes n)).out in
        let lines : List Event = events ++ Event.NodeStopped n ∷ down_lines n None w1 in (
          g.0,
          subst (λ w. Agrees w (told (answer.No cause.Stopped) (after_lines r lines)))
              (more_dropped (flat_map branch_of_line events) n out w1 ∙ ap (λ us. with_more us (dropped n out w1)) (sym (same_told events (Event.NodeStopped n ∷ down_lines n None w1) (none_told (down_lines n None w1) (down_ends n None w1))))) g.1,
        )

-- what a line tells beside its lines

-- an arm that is set anew does not matter
rearmed : (r : Chronicle) (n : ℕ) (arm : ArmKnown) (out : Outcome) → after_crash (record r { arm_at = with_id r.arm_at n arm }) n out ≡ after_crash r n out
rearmed r n arm out = λ i. record (after_crash r n out) { arm_at = λ m. by m (m == n) i }
  where
    by : (m : ℕ) (b : Bool) → (if b then known_down else (if b then arm else r.arm_at m)) ≡ (if b then known_down else r.arm_at m)
    by m true = refl
    by m false = refl

-- what is told of an append, and of what ends
apart_by : (f : Chronicle → Chronicle) → ((r : Chronicle) (l : ℕ) → f (after_end r l) ≡ after_end (f r) l) → ((r : Chronicle) (n c : ℕ) → f (after_line r (Event.Closed n c)) ≡ after_line (f r) (Event.Closed n c))
    → (r : Chronicle) (lines : List Event) → AreEnds lines → f (after_lines r lines) ≡ after_lines (f r) lines
apart_by f h g r [] a = refl
apart_by f h g r (Event.Ended l reason ∷ lines) a = apart_by f h g (after_end r l) lines a ∙ ap (λ q. after_lines q lines) (h r l)
apart_by f h g r (Event.Closed n c ∷ lines) a = apart_by f h g (after_line r (Event.Closed n c)) lines a ∙ ap (λ q. after_lines q lines) (g r n c)
apart_by f h g r (other ∷ lines) a = absurd a

-- of an append of what lines tell that do not tell of what ends
pub append_noting : (n v : ℕ) (a : Chronicle → Appending) → ((r : Chronicle) (l : ℕ) → a (after_end r l) ≡ a r) → ((r : Chronicle) (m c : ℕ) → a (after_line r (Event.Closed m c)) ≡ a r) → ((r : Chronicle) (conns : Conns) → a (record r { conn_at = conns }) ≡ a r) → IsNoting n (λ said r. after_append r n v (a r) said)
append_noting n v a same closed opened = record {
  stops = λ r.
      let d : DiskKnown = broken_by (r.arm_at n).fuse (a r).what ((a r).fails (r.disk_at n v)) in
      sym (rearmed (with_disk r n v d) n (record (r.arm_at n) { fuse = spent calls_of_append (r.arm_at n).fuse }) (r.arm_at n).out);
  apart = apart_by (λ r. after_append r n v (a r) (answer.No cause.Disk)) (λ r l. ap (λ x. after_append (after_end r l) n v x (answer.No cause.Disk)) (same r l))
      (λ r m c. ap (λ x. after_append (after_line r (Event.Closed m c)) n v x (answer.No cause.Disk)) (closed r m c));
  dials = λ r. refl;
  conns = λ r conns. ap (λ x. after_append (record r { conn_at = conns }) n v x (answer.No cause.Disk)) (opened r conns);
}

-- of this one
pub this_noting : (n v : ℕ) (a : Appending) → IsNoting n (λ said r. after_append r n v a said)
this_noting n v a = append_noting n v (λ r. a) (λ r l. refl) (λ r m c. refl) (λ r conns. refl)

-- of a role
pub role_noting : (n v : ℕ) (role : Role) → IsNoting n (λ said r. after_noted r n v role said)
role_noting n v role = append_noting n v (λ r. appending (state_of r n v role)) (λ r l. refl) (λ r m c. refl) (λ r conns. refl)

-- of the batch that was taken
pub save_noting : (n v : ℕ) → IsNoting n (λ said r. after_append r n v (saving (r.disk_at n v)) said)
save_noting n v = append_noting n v (λ r. saving (r.disk_at n v)) (λ r l. refl) (λ r m c. refl) (λ r conns. refl)

-- of a vBucket that is made
pub made_noting : (n v : ℕ) (role : Role) → IsNoting n (λ said r. after_made r n v role said)
made_noting n v role = record {
  stops = λ r. (role_noting n v role).stops (with_disk_there r n v (answer.No cause.Disk));
  apart = apart_by (λ r. after_made r n v role (answer.No cause.Disk)) (λ r l. refl) (λ r m c. refl);
  dials = λ r. refl;
  conns = λ r conns. refl;
}

-- and of a rollback, where it could not be written down
pub rollback_noting : (n v : ℕ) (record_is : Record) (lines : List Event) → IsNoting n (λ said r. after_rollback r (Some (n, (v, record_is))) lines said)
rollback_noting n v record_is lines = record { stops = (this_noting n v (appending record_is)).stops; apart = (this_noting n v (appending record_is)).apart; dials = λ r. refl; conns = λ r conns. refl }
