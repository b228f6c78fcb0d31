-- whole groups: once active was stated on a link nobody writes on its stream's branch until its consumer's vBucket takes over
use Rattle.std.specs.Prelude.{◌≡◌, ◌∷◌, ◌&&◌, ◌||◌, ◌==◌, if◌then◌else◌, not}
use Rattle.std.specs.List.{list_any}
use Rattle.script_text.specs.declared.verb.ClientVerb.TheVariants as client_verb
use Rattle.script_text.specs.declared.verb.LinkVerb.TheVariants as link_verb
use Rattle.script_text.specs.declared.verb.NodeVerb.TheVariants as node_verb
use Rattle.script_text.specs.declared.verb.Verb.TheVariants as verb
use Rattle.script_text.specs.declared.verb.VbVerb.TheVariants as vb_verb
use Rattle.takeover.specs.TakingOver.{new_take_over}
use Rattle.takeover.specs.declared.take_over.TakeOver.{TakeOver}
use Rattle.takeover.specs.declared.take_over.TakeStep.TheVariants.{Own, Pend}
use Rattle.transcript_law.proofs.Words.{ℕ, Bool, true, false, List, [], refl, ap, sym, ◌∙◌, subst, ⊎_elim, eqb-true, eqb-false, eq-eqb, ne_eqb, Option, Some, None, Answer, Chronicle, Cluster, Event, Frame, Granted, Member, Plain, PlainConsumer, PlainLink, PlainProducer, PlainWorld, Role, StreamName, Verb, after_line, after_lines, consumer_node, link_number, stream_branch, with_at}
use Rattle.transcript_law.proofs.ends.Links.{AllLinked}
use Rattle.transcript_law.proofs.invariant.{Agreement.{AgreesAt, AgreesIn, EndsStand, FollowsBy, Handing, IsLink, LinkAgrees, VbAgrees, Wants, consumer_seat, idle, stated_in, taken_in}, LinkRows.{links_apart}, Noted.{AllFree, IsFreed}, Tables.{pick}}
use Rattle.transcript_law.proofs.noted.Freed.{DialsDiffer, Freed, IsCeded, Less, LinesFit, ceded_before, differ_less, freed_by, freed_less, less_end, less_same, less_tables, line_freed, quiet, same_branch}
use Rattle.transcript_law.specs.Chronicles.{Appending, Conns, after_append, after_calls, after_crash, after_dial, after_group, after_made, after_moved, after_openings, after_restart, after_restarts, after_rollback, after_start, after_starts, after_up, after_verb, ahead, appending, as_noted, calls_of_append, crashed_disk, disks_of, heir_in, is_made, is_off, is_rollback, known_down, resting, rollback_of, saving, state_of, with_disk, with_disk_there, with_row}
use Rattle.transcript_law.specs.{Clients.{Heard}, Lawfulness.{LawfulLine, LinesFrom}}
use Rattle.transcript_law.specs.LinesTold.{Dial, is_dial_at, with_id}
use Rattle.vb_disk.specs.declared.fuse.Fuse.{Fuse}
use Rattle.vb_disk.specs.declared.made.Outcome.{Outcome}
use Rattle.vb_events.specs.declared.event.Answer.TheVariants as answer
use Rattle.vb_events.specs.declared.event.Cause.TheVariants as cause
use Rattle.vb_events.specs.declared.event.Event.TheVariants as event
use Rattle.vb_types.specs.declared.journal.Record.{Record}
use Rattle.vb_types.specs.declared.stream.AskAnswer.TheVariants as ask_answer

-- ---- lines

-- lines dial no link
pub line_dials : (r : Chronicle) (line : Event) (l : ℕ) (d : Dial) → (after_line r line).dial_of l ≡ Some d → r.dial_of l ≡ Some d
line_dials r (event.Asked (StreamName.Client n c) m v ask high log said) l d e = e
line_dials r (event.Asked (StreamName.Link k) m v ask high log ask_answer.Go) l d e = e
line_dials r (event.Asked (StreamName.Link k) m v ask high log (ask_answer.Roll to)) l d e = e
line_dials r (event.Asked (StreamName.Link k) m v ask high log (ask_answer.Refuse code)) l d e = e
line_dials r (event.Marked (StreamName.Client n c) start end flags) l d e = e
line_dials r (event.Marked (StreamName.Link k) start end flags) l d e = e
line_dials r (event.Item (StreamName.Client n c) seq act key) l d e = e
line_dials r (event.Item (StreamName.Link k) seq act key) l d e = e
line_dials r (event.Finished (StreamName.Client n c) reason) l d e = e
line_dials r (event.Finished (StreamName.Link k) reason) l d e = e
line_dials r (event.Stated (StreamName.Client n c) role) l d e = e
line_dials r (event.Stated (StreamName.Link k) role) l d e = e
line_dials r (event.Ended k why) l d e = (less_end r k).dials l d e
line_dials r other l d e = e

-- what is said of a line, whoever hears it
pub ruled : (conns : Conns) (line : Event) (behind : List Event) (rule : Type 0) → Heard conns line behind rule → rule
ruled conns (event.Reply n c bytes) behind rule h = h.1
ruled conns (event.Closed n c) behind rule h = h.1
ruled conns (event.NodeStopped n) behind rule h = h.0
ruled conns other behind rule h = h

pub lines_freed : (r : Chronicle) (conns : Conns) (lines : List Event) → LinesFrom r conns lines → LinesFit r lines → DialsDiffer r → Freed r → Freed (after_lines r lines)
lines_freed r conns [] l fits differ f = f
lines_freed r conns (line ∷ lines) l fits differ f = lines_freed (after_line r line) _ lines l.1 fits.1 (differ_less r (after_line r line) (line_dials r line) differ)
    (line_freed r line lines (ruled conns line lines (LawfulLine r line lines) l.0) fits.0 differ f)

-- ---- lines of a script

-- a row of a table that is not another's
other_row : {A : Type 0} (table : ℕ → ℕ → A) (n : ℕ) (row : ℕ → A) (m q : ℕ) → (m == n) ≡ false → with_row table n row m q ≡ table m q
other_row table n row m q e = ap (λ b. if b then row q else table m q) e

-- a node that crashes: no link has an end there any more
crash_freed : (r : Chronicle) (n : ℕ) (out : Outcome) → Freed r → Freed (after_crash r n out)
crash_freed r n out f = freed_by r (after_crash r n out) (λ u t. t) (λ u. refl) (λ l g c. (g, before l g c, refl)) f
  where
    before : (l : ℕ) (g : Granted) → IsCeded (after_crash r n out) l g → IsCeded r l g
    before l g c = by (is_dial_at n (r.dial_of l)) refl c.dialed c.stated c.stream
      where
        -- it has no end at the node
        role : is_dial_at n (r.dial_of l) ≡ false → r.dial_of l ≡ Some c.dial → (after_crash r n out).role_at c.dial.node c.dial.vb ≡ r.role_at c.dial.node c.dial.vb
        role e d = row c.dial.node c.dial.vb (second (c.dial.producer == n) (c.dial.node == n) (sym (ap (is_dial_at n) d) ∙ e))
          where
            row : (m q : ℕ) → (m == n) ≡ false → (after_crash r n out).role_at m q ≡ r.role_at m q
            row m q e = other_row r.role_at n (λ v. Some (resting (crashed_disk out (r.disk_at n v)).book)) m q e

            second : (a b : Bool) → (a || b) ≡ false → b ≡ false
            second true b z = cc
            second false b z = z

        by : (b : Bool) → is_dial_at n (r.dial_of l) ≡ b → (if b then None else r.dial_of l) ≡ Some c.dial → (if b then None else r.stated_of l) ≡ Some Role.Active → (if b then None else r.stream_of (StreamName.Link l) c.dial.vb) ≡ Some g → IsCeded r l g
        by true e d s t = cc
        by false e d s t = record { dial = c.dial; dialed = d; stated = s; stream = t; pending = sym (role e d) ∙ c.pending }

calls_freed : (calls n : ℕ) (r : Chronicle) → Freed r → Freed (after_calls calls n r)
calls_freed calls n r f = freed_less r (after_calls calls n r) (quiet r (after_calls calls n r) refl refl refl refl refl refl) f

disk_freed : (r : Chronicle) (n v : ℕ) (d : _) → Freed r → Freed (with_disk r n v d)
disk_freed r n v d f = freed_less r (with_disk r n v d) (quiet r (with_disk r n v d) refl refl refl refl refl refl) f

if_freed : (b : Bool) (x y : Chronicle) → Freed x → Freed y → Freed (if b then x else y)
if_freed true x y one other = one
if_freed false x y one other = other

append_freed : (r : Chronicle) (n v : ℕ) (a : Appending) (said : Answer) → Freed r → Freed (after_append r n v a said)
append_freed r n v a answer.Ok f = calls_freed calls_of_append n (with_disk r n v (a.stands (r.disk_at n v))) (disk_freed r n v (a.stands (r.disk_at n v)) f)
append_freed r n v a (answer.No cause.Closed) f = disk_freed r n v (a.fails (r.disk_at n v)) f
append_freed r n v a (answer.No cause.Disk) f = calls_freed calls_of_append n (with_disk r n v _) (disk_freed r n v _ f)
append_freed r n v a (answer.No cause.Stopped) f = crash_freed (with_disk r n v _) n (r.arm_at n).out (disk_freed r n v _ f)
append_freed r n v a other f = f

made_freed : (r : Chronicle) (n v : ℕ) (role : Role) (said : Answer) → Freed r → Freed (after_made r n v role said)
made_freed r n v role said f = append_freed (with_disk_there r n v said) n v (appending (state_of (with_disk_there r n v said) n v role)) said
    (if_freed (is_made said) (with_disk r n v (record (r.disk_at n v) { there = true })) r (disk_freed r n v (record (r.disk_at n v) { there = true }) f) f)

rollback_freed : (r : Chronicle) (back : Option (ℕ × (ℕ × Record))) (lines : List Event) (said : Answer) → Freed r → Freed (after_rollback r back lines said)
rollback_freed r None lines said f = f
rollback_freed r (Some (n, (v, x))) lines (answer.No why) f = append_freed r n v (appending x) (answer.No why) f
rollback_freed r (Some (n, (v, x))) lines other f = if_freed (list_any is_rollback lines) (after_calls calls_of_append n r) r (calls_freed calls_of_append n r f) f

moved_freed : (r : Chronicle) (heir : Option (ℕ × ℕ)) (back : Option (ℕ × (ℕ × Record))) (lines : List Event) (said : Answer) → Freed r → Freed (after_moved r heir back lines said)
moved_freed r None back lines said f = rollback_freed r back lines said f
moved_freed r (Some (n, v)) back lines said f = append_freed r n v (appending (state_of r n v Role.Active)) (as_noted said) f

restart_freed : (r : Chronicle) (n v : ℕ) → Freed r → Freed (after_restart r n v)
restart_freed r n v f = freed_by r (after_restart r n v) (λ u t. t) (λ u. refl) (λ l g c. (g, record { dial = c.dial; dialed = c.dialed; stated = c.stated; stream = c.stream; pending = was c.dial.node c.dial.vb c.pending }, refl)) f
  where
    was : (m q : ℕ) → with_at r.role_at n v (Some (Some Role.Active)) m q ≡ Some (Some Role.Pending) → r.role_at m q ≡ Some (Some Role.Pending)
    was m q = pick r.role_at n v (Some (Some Role.Active)) (λ o. o ≡ Some (Some Role.Pending) → r.role_at m q ≡ Some (Some Role.Pending)) m q (λ s t e. cc) (λ apart e. e)

restarts_freed : (r : Chronicle) (lines : List Event) → Freed r → Freed (after_restarts r lines)
restarts_freed r [] f = f
restarts_freed r (event.Branch n v uuid parent fork high ∷ lines) f = restarts_freed (after_restart r n v) lines (restart_freed r n v f)
restarts_freed r (line ∷ lines) f = restarts_freed r lines f

starts_freed : (r : Chronicle) (n : ℕ) (said : Answer) → Freed r → Freed (after_starts r n said)
starts_freed r n (answer.No cause.Stopped) f = crash_freed r n (r.arm_at n).out f
starts_freed r n other f = f

openings_freed : (before : Fuse) (r : Chronicle) (n : ℕ) (lines : List Event) (said : Answer) → Freed r → Freed (after_openings before r n lines said)
openings_freed before r n lines said f = if_freed (is_off (r.arm_at n).fuse && not (is_off before)) (record r { arm_at = with_id r.arm_at n known_down }) _ (freed_less r _ (quiet r _ refl refl refl refl refl refl) f)
    (if_freed _ r (after_starts (after_restarts (after_up n r) lines) n said) f (starts_freed (after_restarts (after_up n r) lines) n said (restarts_freed (after_up n r) lines (freed_less r (after_up n r) (quiet r (after_up n r) refl refl refl refl refl refl) f))))

start_freed : (r : Chronicle) (n : ℕ) (lines : List Event) (said : Answer) → Freed r → Freed (after_start r n lines said)
start_freed r n lines (answer.No cause.UnknownNode) f = f
start_freed r n lines (answer.No cause.NodeUp) f = f
start_freed r n lines (answer.No cause.UuidZero) f = f
start_freed r n lines (answer.No cause.UuidUsed) f = f
start_freed r n lines said f = openings_freed (r.arm_at n).fuse (after_calls (disks_of r n) n r) n lines said (calls_freed (disks_of r n) n r f)

-- a link that is dialed has no state
dial_freed : (r : Chronicle) (l m n v : ℕ) (said : Answer) → Freed r → Freed (after_dial r l m n v said)
dial_freed r l m n v answer.Ok f = freed_by r (after_dial r l m n v answer.Ok) (λ u t. t) (λ u. refl) (λ k g c. (g, before k g c, refl)) f
  where
    before : (k : ℕ) (g : Granted) → IsCeded (after_dial r l m n v answer.Ok) k g → IsCeded r k g
    before k g c = by (k == l) c.dialed c.stated c.stream
      where
        by : (b : Bool) → (if b then Some (record { producer = m; node = n; vb = v }) else r.dial_of k) ≡ Some c.dial → (if b then None else r.stated_of k) ≡ Some Role.Active → (if b then None else r.stream_of (StreamName.Link k) c.dial.vb) ≡ Some g → IsCeded r k g
        by true d s t = cc
        by false d s t = record { dial = c.dial; dialed = d; stated = s; stream = t; pending = c.pending }
dial_freed r l m n v (answer.No why) f = f
dial_freed r l m n v (answer.Number k) f = f
dial_freed r l m n v (answer.Pulled k why) f = f

quiet_freed : (r r' : Chronicle) → Less r r' → Freed r → Freed r'
quiet_freed r r' x f = freed_less r r' x f

ahead_freed : (r : Chronicle) (line : Verb) (said : Answer) → Freed r → Freed (ahead r line said)
ahead_freed r (verb.AtVb n v (vb_verb.Chain others)) answer.Ok f = quiet_freed r _ (quiet r _ refl refl refl refl refl refl) f
ahead_freed r (verb.AtVb n v (vb_verb.Chain others)) other f = f
ahead_freed r (verb.AtVb n v vb_verb.Done) (answer.Number saved) f = quiet_freed r _ (quiet r _ refl refl refl refl refl refl) f
ahead_freed r (verb.AtVb n v vb_verb.Done) other f = f
ahead_freed r (verb.AtVb n v vb_verb.Tick) said f = quiet_freed r _ (quiet r _ refl refl refl refl refl refl) f
ahead_freed r (verb.AtClient n c (client_verb.Bytes bytes)) answer.Ok f = quiet_freed r _ (quiet r _ refl refl refl refl refl refl) f
ahead_freed r (verb.AtClient n c (client_verb.Bytes bytes)) other f = f
ahead_freed r (verb.AtNode n (node_verb.Crash out)) answer.Ok f = quiet_freed r _ (quiet r _ refl refl refl refl refl refl) f
ahead_freed r (verb.AtNode n (node_verb.Crash out)) other f = f
ahead_freed r other said f = f

verb_freed : (before r : Chronicle) (line : Verb) (lines : List Event) (said : Answer) → Freed r → Freed (after_verb before r line lines said)
verb_freed before r (verb.AtVb n v (vb_verb.MakeActive uuid)) lines said f = made_freed r n v Role.Active said f
verb_freed before r (verb.AtVb n v vb_verb.MakeReplica) lines said f = made_freed r n v Role.Replica said f
verb_freed before r (verb.Link l m n v buffer takeover) lines said f = dial_freed r l m n v said f
verb_freed before r (verb.AtLink l (link_verb.Down wanted)) lines said f = moved_freed r (heir_in lines) (rollback_of before (before.dial_of l) (before.point_of l)) lines said f
verb_freed before r (verb.AtVb n v (vb_verb.Promote uuid)) lines said f = append_freed r n v (appending (state_of r n v Role.Active)) said f
verb_freed before r (verb.AtVb n v vb_verb.Follow) lines said f = append_freed r n v (appending (state_of r n v Role.Replica)) said f
verb_freed before r (verb.AtVb n v vb_verb.Dead) lines said f = append_freed r n v (appending (state_of r n v Role.Dead)) said f
verb_freed before r (verb.AtVb n v vb_verb.Seal) lines (answer.Number sealed) f = quiet_freed r _ (quiet r _ refl refl refl refl refl refl) f
verb_freed before r (verb.AtVb n v vb_verb.Seal) lines other f = f
verb_freed before r (verb.AtVb n v vb_verb.Save) lines said f = append_freed r n v (saving (r.disk_at n v)) said f
verb_freed before r (verb.AtNode n (node_verb.Clock nanos)) lines answer.Ok f = quiet_freed r _ (quiet r _ refl refl refl refl refl refl) f
verb_freed before r (verb.AtNode n (node_verb.Clock nanos)) lines other f = f
verb_freed before r (verb.AtNode n (node_verb.Stop call out)) lines answer.Ok f = quiet_freed r _ (quiet r _ refl refl refl refl refl refl) f
verb_freed before r (verb.AtNode n (node_verb.Stop call out)) lines other f = f
verb_freed before r (verb.AtNode n (node_verb.Fail call)) lines answer.Ok f = quiet_freed r _ (quiet r _ refl refl refl refl refl refl) f
verb_freed before r (verb.AtNode n (node_verb.Fail call)) lines other f = f
verb_freed before r (verb.AtNode n (node_verb.Crash out)) lines answer.Ok f = crash_freed r n out f
verb_freed before r (verb.AtNode n (node_verb.Crash out)) lines other f = f
verb_freed before r (verb.AtNode n (node_verb.Start uuids)) lines said f = start_freed r n lines said f
verb_freed before r (verb.AtClient n c client_verb.Open) lines answer.Ok f = quiet_freed r _ (quiet r _ refl refl refl refl refl refl) f
verb_freed before r (verb.AtClient n c client_verb.Open) lines other f = f
verb_freed before r (verb.AtClient n c client_verb.Hang) lines answer.Ok f = quiet_freed r _ (quiet r _ refl refl refl refl refl refl) f
verb_freed before r (verb.AtClient n c client_verb.Hang) lines other f = f
verb_freed before r other lines said f = f

pub ahead_dials : (r : Chronicle) (line : Verb) (said : Answer) → (ahead r line said).dial_of ≡ r.dial_of
ahead_dials r (verb.AtVb n v (vb_verb.Chain others)) answer.Ok = refl
ahead_dials r (verb.AtVb n v (vb_verb.Chain others)) other = refl
ahead_dials r (verb.AtVb n v vb_verb.Done) (answer.Number saved) = refl
ahead_dials r (verb.AtVb n v vb_verb.Done) other = refl
ahead_dials r (verb.AtClient n c (client_verb.Bytes bytes)) answer.Ok = refl
ahead_dials r (verb.AtClient n c (client_verb.Bytes bytes)) other = refl
ahead_dials r (verb.AtNode n (node_verb.Crash out)) answer.Ok = refl
ahead_dials r (verb.AtNode n (node_verb.Crash out)) other = refl
ahead_dials r other said = refl

-- so it is behind a whole group
pub group_freed : (r : Chronicle) (asked : Verb) (lines : List Event) (said : Answer) → LinesFrom (ahead r asked said) r.conn_at lines → LinesFit (ahead r asked said) lines → DialsDiffer r → Freed r → Freed (after_group r asked lines said)
group_freed r asked lines said l fits differ f =
    let read : Chronicle = after_verb r (after_lines (ahead r asked said) lines) asked lines said in
    freed_less read (after_group r asked lines said) (quiet read (after_group r asked lines said) refl refl refl refl refl refl)
    (verb_freed r (after_lines (ahead r asked said) lines) asked lines said
    (lines_freed (ahead r asked said) r.conn_at lines l fits (subst (λ (t : ℕ → Option Dial). (k j : ℕ) (d e : Dial) → t k ≡ Some d → t j ≡ Some e → d.node ≡ e.node → d.vb ≡ e.vb → k ≡ j) (sym (ahead_dials r asked said)) differ) (ahead_freed r asked said f)))

-- ---- and in the world

dial_is : (w : PlainWorld) (r : Chronicle) (c : Cluster) → AgreesIn idle w r c → AllLinked w r.dial_of → (l : ℕ) (d : Dial) → r.dial_of l ≡ Some d → (x : PlainLink) × IsLink x w.links × (link_number x ≡ l) × (x.consumer.dialed.node ≡ d.node) × (x.consumer.dialed.vb ≡ d.vb)
dial_is w r c a linked l d e =
    let (x, i, s) = linked l d e in
    let told : Some d ≡ Some (record { producer = x.server.desk.node; node = x.consumer.dialed.node; vb = x.consumer.dialed.vb }) = sym e ∙ ap r.dial_of (sym s) ∙ (a.links x i).dial.dialed in
    let same : d ≡ record { producer = x.server.desk.node; node = x.consumer.dialed.node; vb = x.consumer.dialed.vb } = cc in
    (x, i, s, sym (ap (λ (k : Dial). k.node) same), sym (ap (λ (k : Dial). k.vb) same))

-- no vBucket was dialed for twice
pub dials_differ : (w : PlainWorld) (r : Chronicle) (c : Cluster) → AgreesIn idle w r c → AllLinked w r.dial_of → DialsDiffer r
dials_differ w r c a linked k l d e p q n v =
    let (x, i, s, xn, xv) = dial_is w r c a linked k d p in let (y, j, t, yn, yv) = dial_is w r c a linked l e q in
    by k l (k == l) refl (λ ne. (links_apart x y w.links a.differ i j (λ z. ne (sym s ∙ z ∙ t))).follower (xn ∙ n ∙ sym yn) (xv ∙ v ∙ sym yv))
  where
    by : (i m : ℕ) (b : Bool) → (i == m) ≡ b → ((i ≡ m → ⊥) → ⊥) → i ≡ m
    by i m true e none = eqb-true i m e
    by i m false e none = absurd (none (eqb-false i m e))

-- once active was stated the consumer's vBucket is pending, or took over
stated_last : (h : Handing) → Some Role.Active ≡ stated_in h → (taken_in h).last ≡ Some Pend
stated_last Handing.Unstated e = cc
stated_last Handing.Offered e = cc
stated_last Handing.Pended e = refl
stated_last Handing.Due e = refl
stated_last Handing.Ceded e = refl
stated_last Handing.Stated e = refl

ends_last : (fv : Wants) (kn : Member) (pv : Option Plain) (leader : Member) (g : Option Granted) (said : Option Role) (point : Option ℕ) (served : PlainProducer) (asker : PlainConsumer) (up down : List Frame)
    → EndsStand fv kn pv leader g said point served asker up down → said ≡ Some Role.Active → (asker.taking ≡ record { last = Some Own } → ⊥) → asker.taking.last ≡ Some Pend
ends_last fv kn pv leader g said point served asker up down (EndsStand.IsAsking ask none x) e owns = let z : None ≡ Some Role.Active = sym none.1 ∙ e in cc
ends_last fv kn pv leader g said point served asker up down (EndsStand.IsRefusedYet none x) e owns = let z : None ≡ Some Role.Active = sym none.1 ∙ e in cc
ends_last fv kn pv leader g said point served asker up down (EndsStand.IsStreaming x is) e owns = ap (λ (t : TakeOver). t.last) x.taking.taken_is ∙ stated_last x.serving.handing (sym e ∙ is)
ends_last fv kn pv leader g said point served asker up down (EndsStand.IsHeir x is) e owns = absurd (owns x.owns)

pub all_free : (w : PlainWorld) (r : Chronicle) (c : Cluster) → AgreesIn idle w r c → Freed r → AllFree w r
all_free w r c a f link i g stated stream owns =
    let x = a.links link i in let d = link.consumer.dialed in
    let last = ends_last _ _ _ _ _ _ _ link.server link.consumer _ _ x.talk.stands stated owns in
    let pends : x.follower.role ≡ Role.Pending = subst (λ o. FollowsBy o x.follower.role) last x.follows in
    let vb : VbAgrees r (consumer_node link) d.vb (c.nodes (consumer_seat link)) x.follower = subst (AgreesAt r (consumer_node link) d.vb (c.nodes (consumer_seat link))) x.follower_is (a.vbs (consumer_node link) d.vb) in
    f.free (link_number link) g (record { dial = record { producer = link.server.desk.node; node = d.node; vb = d.vb }; dialed = x.dial.dialed; stated = stated; stream = stream; pending = vb.role ∙ ap (λ k. Some (Some k)) pends })
