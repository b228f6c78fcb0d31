-- where no link is dialed for a takeover, no vBucket is pending; and no records tell that one was
use Rattle.std.specs.List.{list_any}
use Rattle.std.specs.Prelude.{◌≡◌, ◌∷◌, ◌==◌, ◌&&◌, if◌then◌else◌, not, nat_le}
use Rattle.branch_model.specs.Journals.{found, role_of, roll_point}
use Rattle.script_text.specs.declared.verb.Verb.TheVariants as verb
use Rattle.script_text.specs.declared.verb.ClientVerb.TheVariants as client_verb
use Rattle.script_text.specs.declared.verb.LinkVerb.TheVariants as link_verb
use Rattle.script_text.specs.declared.verb.NodeVerb.TheVariants as node_verb
use Rattle.script_text.specs.declared.verb.VbVerb.TheVariants as vb_verb
use Rattle.transcript_law.proofs.Words.{ℕ, Bool, true, false, List, [], refl, ap, sym, ◌∙◌, subst, Option, Some, None, Answer, Chronicle, Event, Group, Lawful, LawfulFrom, LawfulGroups, LawfulLine, Role, ScriptLine, Verb, after_line, after_lines, after_verb, empty_chronicle, with_at}
use Rattle.transcript_law.proofs.invariant.Tables.{pick}
use Rattle.transcript_law.proofs.lines.Takeovers.{ahead_takeovers, group_plain, lines_takeovers, line_takeovers}
use Rattle.transcript_law.specs.Chronicles.{Appending, Conns, Dial, DiskKnown, Flushing, Idle, Taken, Written, after_append, after_calls, after_crash, after_group, after_made, after_moved, after_noted, after_openings, after_restart, after_restarts, after_rollback, after_start, after_starts, after_up, ahead, appending, as_noted, at_line, batch_record, batch_stands, broken_by, calls_of_append, crashed_disk, disk_back, disks_of, finds, heir_in, is_made, is_off, is_rollback, known_down, known_log, late_record, resting, rested, rollback_of, saving, spent, state_of, with_disk, with_disk_there, with_id, with_record, with_row}
use Rattle.transcript_law.specs.{Clients.{Heard}, Heirs.{LawfulRole}, Lawfulness.{LinesFrom}, LinesTold.{roles_from}, Prefixes.{known_after}, Takeovers.{AllFollow, NoneDialed}}
use Rattle.vb_disk.specs.declared.fuse.Fuse.{Fuse}
use Rattle.vb_disk.specs.declared.fuse.Fuse.TheVariants.{Off, Stop, Fail}
use Rattle.vb_disk.specs.declared.made.Outcome.{Outcome}
use Rattle.vb_events.specs.declared.event.Answer.TheVariants as answer
use Rattle.vb_events.specs.declared.event.Cause.TheVariants as cause
use Rattle.vb_events.specs.declared.event.Event.TheVariants as event
use Rattle.vb_events.specs.declared.event.StreamName.TheVariants as name
use Rattle.vb_types.specs.declared.journal.Record.{Record}
use Rattle.vb_types.specs.declared.journal.Record.TheVariants as noted
use Rattle.vb_types.specs.declared.role.Role.TheVariants as role
use Rattle.vb_types.specs.declared.stream.AskAnswer.TheVariants as ask_answer

-- ---- records

abbrev pub RecordRests : Record → Type 0
RecordRests (noted.State said log) = said ≡ role.Pending → ⊥
RecordRests (noted.Rows b) = Unit {0}
RecordRests (noted.Roll to) = Unit {0}

abbrev pub BookRests : List Record → Type 0
BookRests [] = Unit {0}
BookRests (x ∷ older) = RecordRests x × BookRests older

abbrev pub LateRests : Option Record → Type 0
LateRests None = Unit {0}
LateRests (Some x) = RecordRests x

pub record DiskRests (d : DiskKnown) : Type 0 where
  pub book : BookRests d.book
  pub late : LateRests d.late

-- no vBucket is pending, where P holds, nor do records tell that one was
pub record Unpended (P : Type 0) (r : Chronicle) : Type 0 where
  pub roles : P → (n v : ℕ) → r.role_at n v ≡ Some (Some role.Pending) → ⊥
  pub disks : (n v : ℕ) → DiskRests (r.disk_at n v)

role_rests : (js : List Record) → BookRests js → role_of js ≡ Some role.Pending → ⊥
role_rests [] b e = cc
role_rests (noted.State said log ∷ older) b e = let same : said ≡ role.Pending = cc in b.0 same
role_rests (noted.Rows x ∷ older) b e = role_rests older b.1 e
role_rests (noted.Roll to ∷ older) b e = role_rests older b.1 e

rested_rests : (o : Option Role) → (o ≡ Some role.Pending → ⊥) → rested o ≡ role.Pending → ⊥
rested_rests None none e = cc
rested_rests (Some role.Active) none e = cc
rested_rests (Some role.Replica) none e = cc
rested_rests (Some role.Pending) none e = none refl
rested_rests (Some role.Dead) none e = cc

resting_rests : (js : List Record) → BookRests js → ◌≡◌ {A = Option (Option Role)} (Some (resting js)) (Some (Some role.Pending)) → ⊥
resting_rests [] b e = cc
resting_rests (x ∷ older) b e = let same : rested (role_of (x ∷ older)) ≡ role.Pending = cc in rested_rests (role_of (x ∷ older)) (role_rests (x ∷ older) b) same

-- ---- tables

abbrev IsNo : Option (Option Role) → Type 0
IsNo o = o ≡ Some (Some role.Pending) → ⊥

other_role : (table : ℕ → ℕ → Option (Option Role)) (n v : ℕ) (o : Option (Option Role)) → IsNo o → ((m q : ℕ) → IsNo (table m q)) → (m q : ℕ) → IsNo (with_at table n v o m q)
other_role table n v o new old m q = pick table n v o IsNo m q (λ s t. new) (λ other. old m q)

other_disk : (table : ℕ → ℕ → DiskKnown) (n v : ℕ) (d : DiskKnown) → DiskRests d → ((m q : ℕ) → DiskRests (table m q)) → (m q : ℕ) → DiskRests (with_at table n v d m q)
other_disk table n v d new old m q = pick table n v d DiskRests m q (λ s t. new) (λ other. old m q)

row_either : {A : Type 0} (P : A → Type 0) (table : ℕ → ℕ → A) (n : ℕ) (row : ℕ → A) → ((v : ℕ) → P (row v)) → ((m v : ℕ) → P (table m v)) → (m v : ℕ) → P (with_row table n row m v)
row_either P table n row new old m v = elim (m == n) as (λ b. P (if b then row v else table m v)) [ true ↦ new v | false ↦ old m v ]

if_un : {P : Type 0} → (b : Bool) (x y : Chronicle) → Unpended P x → Unpended P y → Unpended P (if b then x else y)
if_un true x y one other = one
if_un false x y one other = other

disk_un : {P : Type 0} → (r : Chronicle) (n v : ℕ) (d : DiskKnown) → Unpended P r → DiskRests d → Unpended P (with_disk r n v d)
disk_un r n v d old new = record { roles = old.roles; disks = other_disk r.disk_at n v d new old.disks }

-- ---- lines

branch_roles : {P : Type 0} → (p : P) (b : Bool) (r : Chronicle) (n v : ℕ) → Unpended P r → (m q : ℕ) → IsNo (roles_from b r.role_at n v m q)
branch_roles p true r n v old = other_role r.role_at n v (Some (Some role.Active)) (λ e. cc) (old.roles p)
branch_roles p false r n v old = old.roles p

line_un : {P : Type 0} → (r : Chronicle) (line : Event) (behind : List Event) → (P → NoneDialed r) → Unpended P r → (P → LawfulLine r line behind) → Unpended P (after_line r line)
line_un r (event.Branch n v uuid parent fork high) behind none old l = record { roles = λ p. branch_roles p (r.arm_at n).down r n v old; disks = old.disks }
line_un r (event.Role n v said) behind none old l = record { roles = λ p. other_role r.role_at n v (Some (Some said)) (λ e. let same : said ≡ role.Pending = cc in let z : false ≡ true = sym (none p ((l p).pending same).given.link) ∙ ((l p).pending same).given.takeover in cc) (old.roles p); disks = old.disks }
line_un r (event.Changed n v uuid change) behind none old l = record { roles = old.roles; disks = old.disks }
line_un r (event.Asked (name.Link k) n v ask high log ask_answer.Go) behind none old l = record { roles = old.roles; disks = old.disks }
line_un r (event.Asked (name.Link k) n v ask high log (ask_answer.Roll to)) behind none old l = record { roles = old.roles; disks = old.disks }
line_un r (event.Asked (name.Link k) n v ask high log (ask_answer.Refuse code)) behind none old l = old
line_un r (event.Asked (name.Client m c) n v ask high log said) behind none old l = record { roles = old.roles; disks = old.disks }
line_un r (event.Marked (name.Link k) start end flags) behind none old l = record { roles = old.roles; disks = old.disks }
line_un r (event.Marked (name.Client m c) start end flags) behind none old l = record { roles = old.roles; disks = old.disks }
line_un r (event.Item (name.Link k) seq act key) behind none old l = record { roles = old.roles; disks = old.disks }
line_un r (event.Item (name.Client m c) seq act key) behind none old l = record { roles = old.roles; disks = old.disks }
line_un r (event.Finished (name.Link k) why) behind none old l = record { roles = old.roles; disks = old.disks }
line_un r (event.Finished (name.Client m c) why) behind none old l = record { roles = old.roles; disks = old.disks }
line_un r (event.Stated (name.Link k) said) behind none old l = record { roles = old.roles; disks = old.disks }
line_un r (event.Stated (name.Client m c) said) behind none old l = old
line_un r (event.Rolled n v named to) behind none old l = record { roles = old.roles; disks = other_disk r.disk_at n v (disk_back to (r.disk_at n v)) (record { book = (tt, (old.disks n v).book); late = (old.disks n v).late }) old.disks }
line_un r (event.Batch n v ss se at count) behind none old l = record { roles = old.roles; disks = other_disk r.disk_at n v _ (record { book = (old.disks n v).book; late = (old.disks n v).late }) old.disks }
line_un r (event.Reply n c bytes) behind none old l = record { roles = old.roles; disks = old.disks }
line_un r (event.Closed n c) behind none old l = record { roles = old.roles; disks = old.disks }
line_un r (event.Adopted n v log) behind none old l = record { roles = old.roles; disks = old.disks }
line_un r (event.Ranged n v ss se) behind none old l = record { roles = old.roles; disks = old.disks }
line_un r (event.Got n v stream change) behind none old l = record { roles = old.roles; disks = old.disks }
line_un r (event.Acknowledged stream n v seq saved) behind none old l = record { roles = old.roles; disks = old.disks }
line_un r (event.Counted stream n v member seq) behind none old l = record { roles = old.roles; disks = old.disks }
line_un r (event.NodeStopped n) behind none old l = record { roles = old.roles; disks = old.disks }
line_un r (event.Ended k why) behind none old l = record { roles = old.roles; disks = old.disks }
line_un r other behind none old l = old

-- what is said of a line, whoever hears it
ruled : (conns : Conns) (line : Event) (behind : List Event) (rule : Type 0) → Heard conns line behind rule → rule
ruled conns (event.Reply n c bytes) behind rule h = h.1
ruled conns (event.Closed n c) behind rule h = h.1
ruled conns (event.NodeStopped n) behind rule h = h.0
ruled conns other behind rule h = h

lines_un : {P : Type 0} → (r : Chronicle) (conns : Conns) (lines : List Event) → (P → NoneDialed r) → Unpended P r → (P → LinesFrom r conns lines) → Unpended P (after_lines r lines)
lines_un r conns [] none old l = old
lines_un r conns (line ∷ lines) none old l = lines_un (after_line r line) _ lines (λ p k. ap (λ t. (t k).dialed) (line_takeovers r line) ∙ none p k) (line_un r line lines none old (λ p. ruled conns line lines (LawfulLine r line lines) (l p).0)) (λ p. (l p).1)

-- ---- lines of a script

ahead_un : {P : Type 0} → (r : Chronicle) (line : Verb) (said : Answer) → Unpended P r → Unpended P (ahead r line said)
ahead_un r (verb.AtVb n v (vb_verb.Chain others)) answer.Ok old = record { roles = old.roles; disks = old.disks }
ahead_un r (verb.AtVb n v vb_verb.Done) (answer.Number saved) old = disk_un r n v (record (r.disk_at n v) { flushing = Idle; saved = saved }) old (record { book = (old.disks n v).book; late = (old.disks n v).late })
ahead_un r (verb.AtVb n v vb_verb.Tick) said old = record { roles = old.roles; disks = old.disks }
ahead_un r (verb.AtClient n c (client_verb.Bytes bytes)) answer.Ok old = record { roles = old.roles; disks = old.disks }
ahead_un r (verb.AtNode n (node_verb.Crash out)) answer.Ok old = record { roles = old.roles; disks = old.disks }
ahead_un r other said old = old

found_rests : (js : List Record) (late : Option Record) (stood : Bool) → BookRests js → LateRests late → BookRests (found js late stood)
found_rests js None stood b l = b
found_rests js (Some x) true b l = (l, b)
found_rests js (Some x) false b l = b

crash_un : {P : Type 0} → (r : Chronicle) (n : ℕ) (out : Outcome) → Unpended P r → Unpended P (after_crash r n out)
crash_un r n out old = record {
  roles = λ p. row_either IsNo r.role_at n (λ v. Some (resting (crashed_disk out (r.disk_at n v)).book)) (λ v. resting_rests (crashed_disk out (r.disk_at n v)).book (left v)) (old.roles p);
  disks = row_either DiskRests r.disk_at n (λ v. crashed_disk out (r.disk_at n v)) (λ v. record { book = left v; late = tt }) old.disks;
}
  where
    left : (v : ℕ) → BookRests (crashed_disk out (r.disk_at n v)).book
    left v = found_rests (r.disk_at n v).book (r.disk_at n v).late (finds out) (old.disks n v).book (old.disks n v).late

calls_un : {P : Type 0} → (calls n : ℕ) (r : Chronicle) → Unpended P r → Unpended P (after_calls calls n r)
calls_un calls n r old = record { roles = old.roles; disks = old.disks }

-- an append
late_rests : (f : Fuse) (x : Record) → RecordRests x → LateRests (late_record f x)
late_rests Off x b = tt
late_rests (Stop k) x b = elim (nat_le 3 k) as (λ t. LateRests (if t then Some x else None)) [ true ↦ b | false ↦ tt ]
late_rests (Fail k) x b = elim (k == 4) as (λ t. LateRests (if t then Some x else None)) [ true ↦ b | false ↦ tt ]

broken_rests : (f : Fuse) (o : Option Record) (d : DiskKnown) → DiskRests d → LateRests o → DiskRests (broken_by f o d)
broken_rests f None d old l = old
broken_rests f (Some x) d old l = record { book = old.book; late = late_rests f x l }

record AppendRests (a : Appending) (d : DiskKnown) : Type 0 where
  stands : DiskRests (a.stands d)
  fails : DiskRests (a.fails d)
  what : LateRests a.what

append_un : {P : Type 0} → (r : Chronicle) (n v : ℕ) (a : Appending) (said : Answer) → Unpended P r → AppendRests a (r.disk_at n v) → Unpended P (after_append r n v a said)
append_un r n v a answer.Ok old x = calls_un calls_of_append n (with_disk r n v (a.stands (r.disk_at n v))) (disk_un r n v (a.stands (r.disk_at n v)) old x.stands)
append_un r n v a (answer.No cause.Closed) old x = disk_un r n v (a.fails (r.disk_at n v)) old x.fails
append_un r n v a (answer.No cause.Disk) old x =
    let d = broken_by (r.arm_at n).fuse a.what (a.fails (r.disk_at n v)) in calls_un calls_of_append n (with_disk r n v d) (disk_un r n v d old (broken_rests (r.arm_at n).fuse a.what (a.fails (r.disk_at n v)) x.fails x.what))
append_un r n v a (answer.No cause.Stopped) old x =
    let d = broken_by (r.arm_at n).fuse a.what (a.fails (r.disk_at n v)) in crash_un (with_disk r n v d) n (r.arm_at n).out (disk_un r n v d old (broken_rests (r.arm_at n).fuse a.what (a.fails (r.disk_at n v)) x.fails x.what))
append_un r n v a other old x = old

one_rests : {P : Type 0} → (r : Chronicle) (n v : ℕ) (x : Record) → Unpended P r → RecordRests x → AppendRests (appending x) (r.disk_at n v)
one_rests r n v x old b = record { stands = record { book = (b, (old.disks n v).book); late = (old.disks n v).late }; fails = old.disks n v; what = b }

noted_un : {P : Type 0} → (r : Chronicle) (n v : ℕ) (said : Role) (by : Answer) → (said ≡ role.Pending → ⊥) → Unpended P r → Unpended P (after_noted r n v said by)
noted_un r n v said by none old = append_un r n v (appending (state_of r n v said)) by old (one_rests r n v (state_of r n v said) old none)

made_un : {P : Type 0} → (r : Chronicle) (n v : ℕ) (said : Role) (by : Answer) → (said ≡ role.Pending → ⊥) → Unpended P r → Unpended P (after_made r n v said by)
made_un r n v said by none old = noted_un (with_disk_there r n v by) n v said by none
    (if_un (is_made by) (with_disk r n v (record (r.disk_at n v) { there = true })) r (disk_un r n v (record (r.disk_at n v) { there = true }) old (record { book = (old.disks n v).book; late = (old.disks n v).late })) old)

batch_rests : (f : Flushing) (d : DiskKnown) → DiskRests d → DiskRests (batch_stands f d) × LateRests (batch_record f)
batch_rests Idle d old = (old, tt)
batch_rests (Taken b) d old = (record { book = (tt, old.book); late = old.late }, tt)
batch_rests (Written seq) d old = (old, tt)

save_un : {P : Type 0} → (r : Chronicle) (n v : ℕ) (said : Answer) → Unpended P r → Unpended P (after_append r n v (saving (r.disk_at n v)) said)
save_un r n v said old = let d = r.disk_at n v in let x = batch_rests d.flushing d (old.disks n v) in append_un r n v (saving d) said old (record { stands = x.0; fails = record { book = (old.disks n v).book; late = (old.disks n v).late }; what = x.1 })

-- what is written down where a link's bytes are taken
abbrev BackRests : Option (ℕ × (ℕ × Record)) → Type 0
BackRests None = Unit {0}
BackRests (Some (n, (v, x))) = RecordRests x

rollback_un : {P : Type 0} → (r : Chronicle) (back : Option (ℕ × (ℕ × Record))) (lines : List Event) (said : Answer) → BackRests back → Unpended P r → Unpended P (after_rollback r back lines said)
rollback_un r None lines said b old = old
rollback_un r (Some (n, (v, x))) lines (answer.No why) b old = append_un r n v (appending x) (answer.No why) old (one_rests r n v x old b)
rollback_un r (Some (n, (v, x))) lines other b old = if_un (list_any is_rollback lines) (after_calls calls_of_append n r) r (calls_un calls_of_append n r old) old

back_rests : (before : Chronicle) (dial : Option Dial) (named : Option ℕ) → BackRests (rollback_of before dial named)
back_rests before None named = tt
back_rests before (Some dial) None = tt
back_rests before (Some dial) (Some named) = tt

moved_un : {P : Type 0} → (r : Chronicle) (heir : Option (ℕ × ℕ)) (back : Option (ℕ × (ℕ × Record))) (lines : List Event) (said : Answer) → BackRests back → Unpended P r → Unpended P (after_moved r heir back lines said)
moved_un r None back lines said b old = rollback_un r back lines said b old
moved_un r (Some (n, v)) back lines said b old = noted_un r n v role.Active (as_noted said) (λ e. cc) old

-- a start
restart_un : {P : Type 0} → (r : Chronicle) (n v : ℕ) → Unpended P r → Unpended P (after_restart r n v)
restart_un r n v old =
    let f = (r.arm_at n).fuse in let d = r.disk_at n v in let x = state_of r n v role.Active in
    let active : Chronicle = record r { role_at = with_at r.role_at n v (Some (Some role.Active)) } in
    let left = if is_off (spent calls_of_append f) && not (is_off f) then broken_by f (Some x) d else with_record x d in
    calls_un calls_of_append n (with_disk active n v left) (disk_un active n v left (record { roles = λ p. other_role r.role_at n v (Some (Some role.Active)) (λ e. cc) (old.roles p); disks = old.disks })
    (elim (is_off (spent calls_of_append f) && not (is_off f)) as (λ b. DiskRests (if b then broken_by f (Some x) d else with_record x d))
    [ true ↦ broken_rests f (Some x) d (old.disks n v) (λ e. cc) | false ↦ record { book = ((λ e. cc), (old.disks n v).book); late = (old.disks n v).late } ]))

restarts_un : {P : Type 0} → (r : Chronicle) (lines : List Event) → Unpended P r → Unpended P (after_restarts r lines)
restarts_un r [] old = old
restarts_un r (event.Branch n v uuid parent fork high ∷ lines) old = restarts_un (after_restart r n v) lines (restart_un r n v old)
restarts_un r (other ∷ lines) old = restarts_un r lines old

starts_un : {P : Type 0} → (r : Chronicle) (n : ℕ) (said : Answer) → Unpended P r → Unpended P (after_starts r n said)
starts_un r n (answer.No cause.Stopped) old = crash_un r n (r.arm_at n).out old
starts_un r n other old = old

openings_un : {P : Type 0} → (before : Fuse) (r : Chronicle) (n : ℕ) (lines : List Event) (said : Answer) → Unpended P r → Unpended P (after_openings before r n lines said)
openings_un before r n lines said old = if_un (is_off (r.arm_at n).fuse && not (is_off before)) (record r { arm_at = with_id r.arm_at n known_down }) _ (record { roles = old.roles; disks = old.disks })
    (if_un _ _ _ old (starts_un (after_restarts (after_up n r) lines) n said (restarts_un (after_up n r) lines (record { roles = old.roles; disks = old.disks }))))

start_un : {P : Type 0} → (r : Chronicle) (n : ℕ) (lines : List Event) (said : Answer) → Unpended P r → Unpended P (after_start r n lines said)
start_un r n lines (answer.No cause.UnknownNode) old = old
start_un r n lines (answer.No cause.NodeUp) old = old
start_un r n lines (answer.No cause.UuidZero) old = old
start_un r n lines (answer.No cause.UuidUsed) old = old
start_un r n lines said old = openings_un (r.arm_at n).fuse (after_calls (disks_of r n) n r) n lines said (calls_un (disks_of r n) n r old)

verb_un : {P : Type 0} → (before r : Chronicle) (line : Verb) (lines : List Event) (said : Answer) → Unpended P r → Unpended P (after_verb before r line lines said)
verb_un before r (verb.AtVb n v (vb_verb.MakeActive uuid)) lines said old = made_un r n v role.Active said (λ e. cc) old
verb_un before r (verb.AtVb n v vb_verb.MakeReplica) lines said old = made_un r n v role.Replica said (λ e. cc) old
verb_un before r (verb.Link l m n v buffer takeover) lines answer.Ok old = record { roles = old.roles; disks = old.disks }
verb_un before r (verb.Link l m n v buffer takeover) lines other old = old
verb_un before r (verb.AtLink l (link_verb.Down wanted)) lines said old = moved_un r (heir_in lines) (rollback_of before (before.dial_of l) (before.point_of l)) lines said (back_rests before (before.dial_of l) (before.point_of l)) old
verb_un before r (verb.AtVb n v (vb_verb.Promote uuid)) lines said old = noted_un r n v role.Active said (λ e. cc) old
verb_un before r (verb.AtVb n v vb_verb.Follow) lines said old = noted_un r n v role.Replica said (λ e. cc) old
verb_un before r (verb.AtVb n v vb_verb.Dead) lines said old = noted_un r n v role.Dead said (λ e. cc) old
verb_un before r (verb.AtVb n v vb_verb.Seal) lines (answer.Number sealed) old = record { roles = old.roles; disks = old.disks }
verb_un before r (verb.AtVb n v vb_verb.Seal) lines other old = old
verb_un before r (verb.AtVb n v vb_verb.Save) lines said old = save_un r n v said old
verb_un before r (verb.AtNode n (node_verb.Clock nanos)) lines answer.Ok old = record { roles = old.roles; disks = old.disks }
verb_un before r (verb.AtNode n (node_verb.Clock nanos)) lines other old = old
verb_un before r (verb.AtNode n (node_verb.Stop call out)) lines answer.Ok old = record { roles = old.roles; disks = old.disks }
verb_un before r (verb.AtNode n (node_verb.Stop call out)) lines other old = old
verb_un before r (verb.AtNode n (node_verb.Fail call)) lines answer.Ok old = record { roles = old.roles; disks = old.disks }
verb_un before r (verb.AtNode n (node_verb.Fail call)) lines other old = old
verb_un before r (verb.AtNode n (node_verb.Crash out)) lines answer.Ok old = crash_un r n out old
verb_un before r (verb.AtNode n (node_verb.Crash out)) lines other old = old
verb_un before r (verb.AtNode n (node_verb.Start uuids)) lines said old = start_un r n lines said old
verb_un before r (verb.AtClient n c client_verb.Open) lines answer.Ok old = record { roles = old.roles; disks = old.disks }
verb_un before r (verb.AtClient n c client_verb.Open) lines other old = old
verb_un before r (verb.AtClient n c client_verb.Hang) lines answer.Ok old = record { roles = old.roles; disks = old.disks }
verb_un before r (verb.AtClient n c client_verb.Hang) lines other old = old
verb_un before r other lines said old = old

-- ---- whole transcripts

group_un : {P : Type 0} → (r : Chronicle) (line : Verb) (lines : List Event) (said : Answer) → (P → NoneDialed r) → Unpended P r → (P → LinesFrom (ahead r line said) r.conn_at lines) → Unpended P (after_group r line lines said)
group_un r line lines said none old l =
    let x = verb_un r (after_lines (ahead r line said) lines) line lines said (lines_un (ahead r line said) r.conn_at lines (λ p k. ap (λ t. (t k).dialed) (ahead_takeovers r line said) ∙ none p k) (ahead_un r line said old) l) in record { roles = x.roles; disks = x.disks }

known_un : {P : Type 0} → (r : Chronicle) (script : List ScriptLine) (told : List Group) → (P → AllFollow script) → (P → NoneDialed r) → Unpended P r → (P → LawfulGroups r script told) → Unpended P (known_after r script told)
known_un r [] told alone none old l = old
known_un r (line ∷ lines) [] alone none old l = old
known_un r (line ∷ lines) (group ∷ told) alone none old l =
    let r0 : Chronicle = at_line r line.line in
    known_un (after_group r0 line.verb group.events group.answer) lines told (λ p. (alone p).1) (λ p. group_plain r0 line.verb group.events group.answer (alone p).0 (none p)) (group_un r0 line.verb group.events group.answer none (record { roles = old.roles; disks = old.disks }) (λ p. (l p).0.0)) (λ p. (l p).1)

pub none_pending : (script : List ScriptLine) (told : List Group) → AllFollow script → Lawful script told → (n v : ℕ) → (known_after empty_chronicle script told).role_at n v ≡ Some (Some role.Pending) → ⊥
none_pending script told alone l = (known_un {P = Unit {0}} empty_chronicle script told (λ p. alone) (λ p k. refl) (record { roles = λ p n v e. cc; disks = λ n v. record { book = tt; late = tt } }) (λ p. l)).roles tt

-- whatever was dialed, a vBucket that starts again is not
pub none_rests : (script : List ScriptLine) (told : List Group) (n v : ℕ) (out : Outcome) → resting (crashed_disk out ((known_after empty_chronicle script told).disk_at n v)).book ≡ Some role.Pending → ⊥
none_rests script told n v out e =
    let old = (known_un {P = ⊥} empty_chronicle script told (λ p. absurd p) (λ p. absurd p) (record { roles = λ p. absurd p; disks = λ n v. record { book = tt; late = tt } }) (λ p. absurd p)).disks n v in
    let d = (known_after empty_chronicle script told).disk_at n v in
    resting_rests (crashed_disk out d).book (found_rests d.book d.late (finds out) old.book old.late) (ap Some e)
