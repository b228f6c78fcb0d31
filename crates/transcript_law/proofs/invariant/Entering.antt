-- lawful lines tell failover logs whose entries stand where the lines tell that their branches were made: those of vBuckets, of streams, and of what was written down
use Rattle.std.specs.Prelude.{◌≡◌, ◌∷◌, ◌==◌, ◌&&◌, if◌then◌else◌, not, option_map, nat_le}
use Rattle.std.specs.List.{list_any}
use Rattle.branch_model.proofs.Entries.{forks_kept, forks_take}
use Rattle.branch_model.specs.Journals.{found, log_of, roll_point}
use Rattle.script_text.specs.declared.verb.Verb.TheVariants as verb
use Rattle.script_text.specs.declared.verb.ClientVerb.TheVariants as client_verb
use Rattle.script_text.specs.declared.verb.NodeVerb.TheVariants as node_verb
use Rattle.script_text.specs.declared.verb.VbVerb.TheVariants as vb_verb
use Rattle.transcript_law.proofs.Words.{ℕ, Bool, true, false, List, [], refl, ap, sym, ◌∙◌, subst, Option, Some, None, LogEntry, Branch, eq-eqb, ne_eqb, Verb, Change, AskAnswer, Event, StreamName, StreamAsk, Role, Answer, AtForks, kept_to, with_entry, IsNew, branch, grow, longer, branch_grow, Granted, Chronicle, empty_chronicle, after_lines}
use Rattle.transcript_law.proofs.Words.{with_at, with_changed, granted, parent_branch, changes_between, after_branch, with_begun, with_item, finished, after_line, held_more, past_next, past_mark, IsIfKnown, LawfulLine, LawfulFrom, LawfulAsk}
use Rattle.transcript_law.proofs.{invariant.Tables.{pick}, invariant.Trees.{IsTold, new_untold}}
use Rattle.transcript_law.specs.Chronicles.{after_clock, Appending, ArmKnown, after_armed, after_blank, after_crashed, after_dial, after_seal, ahead, Dial, DiskKnown, Flushing, Idle, Taken, Written, after_append, after_calls, after_crash, after_made, after_moved, after_noted, after_openings, after_restart, after_restarts, after_rollback, after_start, after_starts, after_up, appending, as_noted, batch_record, batch_stands, broken_by, calls_of_append, crashed_disk, disk_back}
use Rattle.transcript_law.specs.Chronicles.{acknowledging, known_down, with_id, disks_of, finds, is_feed_of, is_made, is_name, is_off, is_rollback, is_stream_at, is_stream_of, known_log, late_record, rollback_of, saving, spent, state_of, known_batch, with_disk, with_disk_there, with_record, with_row}
use Rattle.transcript_law.specs.Lawfulness.{LawfulAdopt}
use Rattle.vb_disk.specs.declared.fuse.Fuse.{Fuse}
use Rattle.vb_disk.specs.declared.fuse.Fuse.TheVariants.{Off, Stop, Fail}
use Rattle.vb_disk.specs.declared.made.Outcome.{Outcome}
use Rattle.vb_events.specs.declared.event.Answer.TheVariants as answer
use Rattle.vb_types.specs.declared.stream.AskAnswer.TheVariants.{Go}
use Rattle.vb_events.specs.declared.event.Cause.TheVariants as cause
use Rattle.vb_events.specs.declared.event.Event.TheVariants as event
use Rattle.vb_events.specs.declared.event.StreamName.TheVariants as name
use Rattle.vb_types.specs.declared.journal.Record.{Record}
use Rattle.vb_types.specs.declared.journal.Record.TheVariants as noted
use Rattle.vb_types.specs.declared.position.Position.{Position}
use Rattle.vb_types.specs.declared.role.Role.TheVariants as role

-- logs in a tree that grows

pub forks_new : (b : Branch) (tree : List Branch) (log : List LogEntry) → IsNew b.id tree → AtForks tree log → AtForks (b ∷ tree) log
forks_new b tree [] new at = tt
forks_new b tree (e ∷ older) new at = (ap (option_map (λ (x : Branch). x.fork)) (ap (λ t. if t then Some b else branch tree e.uuid) (ne_eqb b.id e.uuid apart)) ∙ at.0, forks_new b tree older new at.1)
  where
    is_told : (o : Option Branch) → branch tree e.uuid ≡ o → option_map (λ (x : Branch). x.fork) o ≡ Some e.seq → IsTold tree e.uuid
    is_told None is told = cc
    is_told (Some x) is told = (x, is)

    apart : b.id ≡ e.uuid → ⊥
    apart same = new_untold b.id tree new (subst (IsTold tree) (sym same) (is_told (branch tree e.uuid) refl at.0))

pub forks_grow : (tree : List Branch) (log : List LogEntry) (u : ℕ) (c : Change) → AtForks tree log → AtForks (grow tree u c) log
forks_grow tree [] u c at = tt
forks_grow tree (e ∷ older) u c at = (ap (option_map (λ (b : Branch). b.fork)) (branch_grow tree u c e.uuid) ∙ same (branch tree e.uuid) ∙ at.0, forks_grow tree older u c at.1)
  where
    same : (o : Option Branch) → option_map (λ (b : Branch). b.fork) (option_map (longer u c) o) ≡ option_map (λ (b : Branch). b.fork) o
    same None = refl
    same (Some b) = refl

-- a log that is known
abbrev LogEntered : List Branch → Option (List LogEntry) → Type 0
LogEntered tree None = ⊥
LogEntered tree (Some log) = AtForks tree log

-- the log of a stream, where there is one
abbrev EnteredIf : List Branch → Option Granted → Type 0
EnteredIf tree o = (g : Granted) → o ≡ Some g → AtForks tree g.log

-- the log of a record, where it has one
abbrev pub RecordAt : List Branch → Record → Type 0
RecordAt tree (noted.State role log) = AtForks tree log
RecordAt tree (noted.Rows b) = AtForks tree b.log
RecordAt tree (noted.Roll to) = Unit {0}

abbrev pub BookAt : List Branch → List Record → Type 0
BookAt tree [] = Unit {0}
BookAt tree (x ∷ older) = RecordAt tree x × BookAt tree older

abbrev pub LateAt : List Branch → Option Record → Type 0
LateAt tree None = Unit {0}
LateAt tree (Some x) = RecordAt tree x

abbrev pub FlushingAt : List Branch → Flushing → Type 0
FlushingAt tree (Taken b) = AtForks tree b.log
FlushingAt tree other = Unit {0}

-- the logs of what was written down, or is to be
pub record DiskAt (tree : List Branch) (d : DiskKnown) : Type 0 where
  pub book : BookAt tree d.book
  pub late : LateAt tree d.late
  pub flushing : FlushingAt tree d.flushing

-- in a tree that may have grown
module _ (tree tree' : List Branch) (keeps : (log : List LogEntry) → AtForks tree log → AtForks tree' log) where
  record_kept : (x : Record) → RecordAt tree x → RecordAt tree' x
  record_kept (noted.State role log) at = keeps log at
  record_kept (noted.Rows b) at = keeps b.log at
  record_kept (noted.Roll to) at = tt

  book_kept : (js : List Record) → BookAt tree js → BookAt tree' js
  book_kept [] at = tt
  book_kept (x ∷ older) at = (record_kept x at.0, book_kept older at.1)

  late_kept : (o : Option Record) → LateAt tree o → LateAt tree' o
  late_kept None at = tt
  late_kept (Some x) at = record_kept x at

  flushing_kept : (f : Flushing) → FlushingAt tree f → FlushingAt tree' f
  flushing_kept (Taken b) at = keeps b.log at
  flushing_kept Idle at = tt
  flushing_kept (Written seq) at = tt

  disk_kept : (d : DiskKnown) → DiskAt tree d → DiskAt tree' d
  disk_kept d at = record { book = book_kept d.book at.book; late = late_kept d.late at.late; flushing = flushing_kept d.flushing at.flushing }

-- what the lines tell of logs: those of vBuckets, which are known so far, those that streams were granted with, and those that were written down
pub record Entered (r : Chronicle) : Type 0 where
  pub disks : (n v : ℕ) → DiskAt r.tree (r.disk_at n v)
  pub logs : (n v : ℕ) → LogEntered r.tree (r.log_at n v)
  pub streams : (s : StreamName) (q : ℕ) → EnteredIf r.tree (r.stream_of s q)

-- a log that the lines tell
pub log_entered : (tree : List Branch) (o : Option (List LogEntry)) (log : List LogEntry) → o ≡ Some log → LogEntered tree o → AtForks tree log
log_entered tree o log e entered = subst (LogEntered tree) e entered

-- a log that is what is known of it
known_entered : (tree : List Branch) (o : Option (List LogEntry)) (log : List LogEntry) → IsIfKnown o log → LogEntered tree o → AtForks tree log
known_entered tree None log known entered = absurd entered
known_entered tree (Some told) log known entered = subst (AtForks tree) known entered

-- a log that is changed, in a tree that may have grown
log_changed : (tree tree' : List Branch) (f : List LogEntry → List LogEntry) (o : Option (List LogEntry)) → ((log : List LogEntry) → AtForks tree log → AtForks tree' (f log)) → LogEntered tree o
    → LogEntered tree' (option_map f o)
log_changed tree tree' f None keeps entered = entered
log_changed tree tree' f (Some log) keeps entered = keeps log entered

log_kept_on : (tree tree' : List Branch) (o : Option (List LogEntry)) → ((log : List LogEntry) → AtForks tree log → AtForks tree' log) → LogEntered tree o → LogEntered tree' o
log_kept_on tree tree' None keeps entered = entered
log_kept_on tree tree' (Some log) keeps entered = keeps log entered

with_log : (tree : List Branch) (table : ℕ → ℕ → Option (List LogEntry)) (n v : ℕ) (log : Option (List LogEntry)) → LogEntered tree log → ((m q : ℕ) → LogEntered tree (table m q))
    → (m q : ℕ) → LogEntered tree (with_at table n v log m q)
with_log tree table n v log new old m q = pick table n v log (LogEntered tree) m q (λ s t. new) (λ other. old m q)

either : (tree : List Branch) (b : Bool) (x y : Option Granted) → EnteredIf tree x → EnteredIf tree y → EnteredIf tree (if b then x else y)
either tree true x y new old = new
either tree false x y new old = old

-- a stream that goes on has its log
kept_log : (tree : List Branch) (f : Granted → Granted) (o : Option Granted) → ((g : Granted) → (f g).log ≡ g.log) → EnteredIf tree o → EnteredIf tree (option_map f o)
kept_log tree f None same old g e = cc
kept_log tree f (Some x) same old g e = let is : f x ≡ g = cc in subst (AtForks tree) (sym (same x) ∙ ap (λ (y : Granted). y.log) is) (old x refl)

one_stream : (tree : List Branch) (x : Granted) → AtForks tree x.log → EnteredIf tree (Some x)
one_stream tree x at g e = let is : x ≡ g = cc in subst (λ (y : Granted). AtForks tree y.log) is at

at_disk : (r : Chronicle) (n v : ℕ) (d : DiskKnown) → DiskAt r.tree d → ((m q : ℕ) → DiskAt r.tree (r.disk_at m q)) → (m q : ℕ) → DiskAt r.tree (with_at r.disk_at n v d m q)
at_disk r n v d new old m q = pick r.disk_at n v d (DiskAt r.tree) m q (λ s t. new) (λ other. old m q)

disk_entered : (r : Chronicle) (n v : ℕ) (d : DiskKnown) → Entered r → DiskAt r.tree d → Entered (with_disk r n v d)
disk_entered r n v d old new = record { disks = at_disk r n v d new old.disks; logs = old.logs; streams = old.streams }

-- the log that a vBucket has, as it is written down
known_at : (r : Chronicle) (n v : ℕ) → Entered r → AtForks r.tree (known_log (r.log_at n v))
known_at r n v old = by (r.log_at n v) (old.logs n v)
  where
    by : (o : Option (List LogEntry)) → LogEntered r.tree o → AtForks r.tree (known_log o)
    by None e = absurd e
    by (Some log) e = e

branch_entered : (r : Chronicle) (n v uuid : ℕ) (parent : Option ℕ) (fork high : ℕ) → Entered r → IsNew uuid r.tree → Entered (after_branch r n v uuid parent fork high)
branch_entered r n v uuid parent fork high old new =
    let b : Branch = record { id = uuid; parent = parent_branch parent fork (r.branch_at n v); fork = fork; own = changes_between fork high (r.held n v) } in
    let tree : List Branch = b ∷ r.tree in
    record {
      disks = λ m q. disk_kept r.tree tree (λ log at. forks_new b r.tree log new at) (r.disk_at m q) (old.disks m q);
      logs = with_log tree r.log_at n v (option_map (with_entry uuid fork) (r.log_at n v))
          (log_changed r.tree tree (with_entry uuid fork) (r.log_at n v) (λ log at. (
            ap (λ t. option_map (λ (x : Branch). x.fork) (if t then Some b else branch r.tree uuid)) (eq-eqb uuid uuid refl),
            forks_take 24 tree (kept_to fork log) (forks_kept (λ (e : LogEntry). nat_le e.seq fork) tree log (forks_new b r.tree log new at)),
          )) (old.logs n v))
          (λ m q. log_kept_on r.tree tree (r.log_at m q) (λ log at. forks_new b r.tree log new at) (old.logs m q));
      streams = λ s q g e. forks_new b r.tree g.log new (old.streams s q g e);
    }

asked_entered : (r : Chronicle) (l n v : ℕ) (ask : StreamAsk) (high : ℕ) (log : List LogEntry) (said : AskAnswer) → Entered r → LawfulAsk r l n v ask high log said
    → Entered (after_line r (event.Asked (name.Link l) n v ask high log said))
asked_entered r l n v ask high log Go old lawful = record {
  disks = old.disks;
  logs = old.logs;
  streams = λ s q. either r.tree (is_name s (name.Link l) && q == v) (Some (granted ask log)) (r.stream_of s q) (one_stream r.tree (granted ask log) (known_entered r.tree (r.log_at n v) log lawful.answered.own_log (old.logs n v))) (old.streams s q);
}
asked_entered r l n v ask high log other old lawful = record { disks = old.disks; logs = old.logs; streams = old.streams }

adopted_entered : (r : Chronicle) (n v : ℕ) (log : List LogEntry) → Entered r → LawfulAdopt r n v log → Entered (after_line r (event.Adopted n v log))
adopted_entered r n v log old (l, m, g, dialed, told, same) =
    record { disks = old.disks; logs = with_log r.tree r.log_at n v (Some log) (subst (AtForks r.tree) (sym same) (old.streams (name.Link l) v g told)) old.logs; streams = old.streams }

-- streams that a line goes on with
going_entered : (r : Chronicle) (stream : StreamName) (f : Granted → Granted) → ((g : Granted) → (f g).log ≡ g.log) → Entered r → Entered (with_changed r stream f)
going_entered r stream f same old = record {
  disks = old.disks;
  logs = old.logs;
  streams = λ s q. either r.tree (is_name s stream && is_stream_of r stream q) (option_map f (r.stream_of s q)) (r.stream_of s q) (kept_log r.tree f (r.stream_of s q) same (old.streams s q)) (old.streams s q);
}

line_entered : (r : Chronicle) (line : Event) (behind : List Event) → Entered r → LawfulLine r line behind → Entered (after_line r line)
line_entered r (event.Branch n v uuid parent fork high) behind old lawful = let x = branch_entered r n v uuid parent fork high old lawful.new in record { disks = x.disks; logs = x.logs; streams = x.streams }
line_entered r (event.Role n v role) behind old lawful = record { disks = old.disks; logs = old.logs; streams = old.streams }
line_entered r (event.Changed n v uuid change) behind old lawful = record {
  disks = λ m q. disk_kept r.tree (grow r.tree uuid change) (λ log at. forks_grow r.tree log uuid change at) (r.disk_at m q) (old.disks m q);
  logs = λ m q. log_kept_on r.tree (grow r.tree uuid change) (r.log_at m q) (λ log at. forks_grow r.tree log uuid change at) (old.logs m q);
  streams = λ s q g e. forks_grow r.tree g.log uuid change (old.streams s q g e);
}
line_entered r (event.Asked (name.Link l) n v ask high log said) behind old lawful = asked_entered r l n v ask high log said old lawful
line_entered r (event.Asked (name.Client m c) n v ask high log said) behind old lawful = record { disks = old.disks; logs = old.logs; streams = old.streams }
line_entered r (event.Marked (name.Link l) start end flags) behind old lawful = going_entered r (name.Link l) (with_begun r.tree start end flags) (λ g. refl) old
line_entered r (event.Marked (name.Client m c) start end flags) behind old lawful = record { disks = old.disks; logs = old.logs; streams = old.streams }
line_entered r (event.Item (name.Link l) seq act key) behind old lawful = going_entered r (name.Link l) (with_item (record { seq = seq; act = act; key = key })) (λ g. refl) old
line_entered r (event.Item (name.Client m c) seq act key) behind old lawful = record { disks = old.disks; logs = old.logs; streams = old.streams }
line_entered r (event.Finished (name.Link l) reason) behind old lawful = going_entered r (name.Link l) finished (λ g. refl) old
line_entered r (event.Finished (name.Client m c) reason) behind old lawful = record { disks = old.disks; logs = old.logs; streams = old.streams }
line_entered r (event.Stated (name.Link l) role) behind old lawful = record { disks = old.disks; logs = old.logs; streams = old.streams }
line_entered r (event.Stated (name.Client n c) role) behind old lawful = absurd lawful
line_entered r (event.Reply n c bytes) behind old lawful = record { disks = old.disks; logs = old.logs; streams = old.streams }
line_entered r (event.Closed n c) behind old lawful = record { disks = old.disks; logs = old.logs; streams = old.streams }
line_entered r (event.Adopted n v log) behind old lawful = adopted_entered r n v log old lawful
line_entered r (event.Ranged n v ss se) behind old lawful = record {
  disks = old.disks;
  logs = old.logs;
  streams = λ s q. either r.tree (is_feed_of r n v s) (option_map past_mark (r.stream_of s q)) (r.stream_of s q) (kept_log r.tree past_mark (r.stream_of s q) (λ g. refl) (old.streams s q)) (old.streams s q);
}
line_entered r (event.Got n v stream change) behind old lawful = going_entered (record r { held = held_more r n v change; open_at = with_at r.open_at n v true }) stream past_next (λ g. refl) (record { disks = old.disks; logs = old.logs; streams = old.streams })
line_entered r (event.Rolled n v named to) behind old lawful = record {
  disks = at_disk r n v (disk_back to (r.disk_at n v)) (record { book = (tt, (old.disks n v).book); late = (old.disks n v).late; flushing = tt }) old.disks;
  logs = with_log r.tree r.log_at n v (option_map (kept_to to) (r.log_at n v))
      (log_changed r.tree r.tree (kept_to to) (r.log_at n v) (λ log at. forks_kept (λ (e : LogEntry). nat_le e.seq to) r.tree log at) (old.logs n v)) old.logs;
  streams = old.streams;
}
line_entered r (event.Acknowledged stream n v seq saved) behind old lawful = going_entered r stream (acknowledging seq) (λ g. refl) old
line_entered r (event.Ended l reason) behind old lawful =
    record { disks = old.disks; logs = old.logs; streams = λ s q. either r.tree (is_name s (name.Link l)) None (r.stream_of s q) (λ g e. cc) (old.streams s q) }
line_entered r (event.Batch n v ss se at count) behind old lawful =
    let d = r.disk_at n v in let p : Position = record { ss = ss; se = se; at = at } in
    disk_entered r n v (record d { flushing = Taken (known_batch p (known_log (r.log_at n v))); taken = at }) old (record { book = (old.disks n v).book; late = (old.disks n v).late; flushing = known_at r n v old })
line_entered r (event.Counted stream n v member seq) behind old lawful = record { disks = old.disks; logs = old.logs; streams = old.streams }
line_entered r (event.NodeStopped n) behind old lawful = record { disks = old.disks; logs = old.logs; streams = old.streams }
line_entered r other behind old lawful = old

pub start_entered : Entered empty_chronicle
start_entered = record { disks = λ n v. record { book = tt; late = tt; flushing = tt }; logs = λ n v. tt; streams = λ s q g e. cc }

-- the lines of a group
pub lines_entered : (r : Chronicle) (lines : List Event) → Entered r → LawfulFrom r lines → Entered (after_lines r lines)
lines_entered r [] old lawful = old
lines_entered r (line ∷ lines) old lawful = lines_entered (after_line r line) lines (line_entered r line lines old lawful.0) lawful.1

-- ---- what was written down

-- the log that records tell
log_of_at : (tree : List Branch) (js : List Record) → BookAt tree js → AtForks tree (log_of js)
log_of_at tree [] at = tt
log_of_at tree (noted.State role log ∷ older) at = at.0
log_of_at tree (noted.Rows b ∷ older) at = at.0
log_of_at tree (noted.Roll to ∷ older) at = forks_kept (λ (e : LogEntry). nat_le e.seq to) tree (log_of older) (log_of_at tree older at.1)

found_at : (tree : List Branch) (js : List Record) (late : Option Record) (stood : Bool) → BookAt tree js → LateAt tree late → BookAt tree (found js late stood)
found_at tree js None stood at late = at
found_at tree js (Some x) true at late = (late, at)
found_at tree js (Some x) false at late = at

-- a crash
row_either : {A : Type 0} (P : A → Type 0) (table : ℕ → ℕ → A) (n : ℕ) (row : ℕ → A) → ((v : ℕ) → P (row v)) → ((m v : ℕ) → P (table m v)) → (m v : ℕ) → P (with_row table n row m v)
row_either P table n row new old m v = elim (m == n) as (λ b. P (if b then row v else table m v)) [ true ↦ new v | false ↦ old m v ]

pub crash_entered : (r : Chronicle) (n : ℕ) (out : Outcome) → Entered r → Entered (after_crash r n out)
crash_entered r n out old = record {
  disks = row_either (DiskAt r.tree) r.disk_at n (λ v. crashed_disk out (r.disk_at n v)) (λ v. record { book = found_book v; late = tt; flushing = tt }) old.disks;
  logs = row_either (LogEntered r.tree) r.log_at n (λ v. Some (log_of (crashed_disk out (r.disk_at n v)).book)) (λ v. log_of_at r.tree (crashed_disk out (r.disk_at n v)).book (found_book v)) old.logs;
  streams = λ s q. either r.tree (is_stream_at r n s) None (r.stream_of s q) (λ g e. cc) (old.streams s q);
}
  where
    found_book : (v : ℕ) → BookAt r.tree (crashed_disk out (r.disk_at n v)).book
    found_book v = found_at r.tree (r.disk_at n v).book (r.disk_at n v).late (finds out) (old.disks n v).book (old.disks n v).late

calls_entered : (r : Chronicle) (calls n : ℕ) → Entered r → Entered (after_calls calls n r)
calls_entered r calls n old = record { disks = old.disks; logs = old.logs; streams = old.streams }

-- an append
late_at : (tree : List Branch) (f : Fuse) (x : Record) → RecordAt tree x → LateAt tree (late_record f x)
late_at tree Off x at = tt
late_at tree (Stop k) x at = elim (nat_le 3 k) as (λ b. LateAt tree (if b then Some x else None)) [ true ↦ at | false ↦ tt ]
late_at tree (Fail k) x at = elim (k == 4) as (λ b. LateAt tree (if b then Some x else None)) [ true ↦ at | false ↦ tt ]

broken_at : (tree : List Branch) (f : Fuse) (o : Option Record) (d : DiskKnown) → DiskAt tree d → LateAt tree o → DiskAt tree (broken_by f o d)
broken_at tree f None d at late = at
broken_at tree f (Some x) d at late = record { book = at.book; late = late_at tree f x late; flushing = at.flushing }

-- the logs of what is appended
record AppendAt (tree : List Branch) (a : Appending) (d : DiskKnown) : Type 0 where
  stands : DiskAt tree (a.stands d)
  fails : DiskAt tree (a.fails d)
  what : LateAt tree a.what

append_entered : (r : Chronicle) (n v : ℕ) (a : Appending) (said : Answer) → Entered r → AppendAt r.tree a (r.disk_at n v) → Entered (after_append r n v a said)
append_entered r n v a answer.Ok old at = calls_entered (with_disk r n v (a.stands (r.disk_at n v))) calls_of_append n (disk_entered r n v (a.stands (r.disk_at n v)) old at.stands)
append_entered r n v a (answer.No cause.Closed) old at = disk_entered r n v (a.fails (r.disk_at n v)) old at.fails
append_entered r n v a (answer.No cause.Disk) old at =
    let d = broken_by (r.arm_at n).fuse a.what (a.fails (r.disk_at n v)) in
    calls_entered (with_disk r n v d) calls_of_append n (disk_entered r n v d old (broken_at r.tree (r.arm_at n).fuse a.what (a.fails (r.disk_at n v)) at.fails at.what))
append_entered r n v a (answer.No cause.Stopped) old at =
    let d = broken_by (r.arm_at n).fuse a.what (a.fails (r.disk_at n v)) in
    crash_entered (with_disk r n v d) n (r.arm_at n).out (disk_entered r n v d old (broken_at r.tree (r.arm_at n).fuse a.what (a.fails (r.disk_at n v)) at.fails at.what))
append_entered r n v a other old at = old

one_at : (r : Chronicle) (n v : ℕ) (x : Record) → Entered r → RecordAt r.tree x → AppendAt r.tree (appending x) (r.disk_at n v)
one_at r n v x old at = record { stands = record { book = (at, (old.disks n v).book); late = (old.disks n v).late; flushing = (old.disks n v).flushing }; fails = old.disks n v; what = at }

pub noted_entered : (r : Chronicle) (n v : ℕ) (role : Role) (said : Answer) → Entered r → Entered (after_noted r n v role said)
noted_entered r n v role said old = append_entered r n v (appending (state_of r n v role)) said old (one_at r n v (state_of r n v role) old (known_at r n v old))

pub made_entered : (r : Chronicle) (n v : ℕ) (role : Role) (said : Answer) → Entered r → Entered (after_made r n v role said)
made_entered r n v role said old = noted_entered (with_disk_there r n v said) n v role said
    (elim (is_made said) as (λ b. Entered (if b then with_disk r n v (record (r.disk_at n v) { there = true }) else r))
    [ true ↦ disk_entered r n v (record (r.disk_at n v) { there = true }) old (record { book = (old.disks n v).book; late = (old.disks n v).late; flushing = (old.disks n v).flushing }) | false ↦ old ])

batch_at : (tree : List Branch) (f : Flushing) (d : DiskKnown) → FlushingAt tree f → DiskAt tree d → DiskAt tree (batch_stands f d) × LateAt tree (batch_record f)
batch_at tree Idle d f at = (at, tt)
batch_at tree (Taken b) d f at = (record { book = (f, at.book); late = at.late; flushing = tt }, f)
batch_at tree (Written seq) d f at = (at, tt)

pub save_entered : (r : Chronicle) (n v : ℕ) (said : Answer) → Entered r → Entered (after_append r n v (saving (r.disk_at n v)) said)
save_entered r n v said old =
    let d = r.disk_at n v in let at = old.disks n v in let b = batch_at r.tree d.flushing d at.flushing at in
    append_entered r n v (saving d) said old (record { stands = b.0; fails = record { book = at.book; late = at.late; flushing = tt }; what = b.1 })

down_entered : (before r : Chronicle) (dial : Option Dial) (named : Option ℕ) (lines : List Event) (said : Answer) → Entered r → Entered (after_rollback r (rollback_of before dial named) lines said)
down_entered before r None named lines said old = old
down_entered before r (Some dial) None lines said old = old
down_entered before r (Some dial) (Some named) lines said old = by said
  where
    back : Record
    back = noted.Roll (roll_point (before.disk_at dial.node dial.vb).book named)

    moved : Entered (if list_any is_rollback lines then after_calls calls_of_append dial.node r else r)
    moved = elim (list_any is_rollback lines) as (λ b. Entered (if b then after_calls calls_of_append dial.node r else r)) [ true ↦ calls_entered r calls_of_append dial.node old | false ↦ old ]

    by : (said : Answer) → Entered (after_rollback r (rollback_of before (Some dial) (Some named)) lines said)
    by (answer.No why) = append_entered r dial.node dial.vb (appending (noted.Roll (roll_point (before.disk_at dial.node dial.vb).book named))) (answer.No why) old (one_at r dial.node dial.vb (noted.Roll (roll_point (before.disk_at dial.node dial.vb).book named)) old tt)
    by answer.Ok = moved
    by (answer.Number count) = moved
    by (answer.Pulled count why) = moved

-- or that it took its branch over
pub moved_entered : (before r : Chronicle) (dial : Option Dial) (named : Option ℕ) (heir : Option (ℕ × ℕ)) (lines : List Event) (said : Answer) → Entered r → Entered (after_moved r heir (rollback_of before dial named) lines said)
moved_entered before r dial named None lines said old = down_entered before r dial named lines said old
moved_entered before r dial named (Some (n, v)) lines said old = noted_entered r n v role.Active (as_noted said) old

-- a start
restart_entered : (r : Chronicle) (n v : ℕ) → Entered r → Entered (after_restart r n v)
restart_entered r n v old =
    let f = (r.arm_at n).fuse in let d = r.disk_at n v in let x = state_of r n v role.Active in
    let at = old.disks n v in let known = known_at r n v old in
    let active : Chronicle = record r { role_at = with_at r.role_at n v (Some (Some role.Active)) } in
    let left = if is_off (spent calls_of_append f) && not (is_off f) then broken_by f (Some x) d else with_record x d in
    calls_entered (with_disk active n v left) calls_of_append n (disk_entered active n v left (record { disks = old.disks; logs = old.logs; streams = old.streams })
    (elim (is_off (spent calls_of_append f) && not (is_off f)) as (λ b. DiskAt r.tree (if b then broken_by f (Some x) d else with_record x d))
    [ true ↦ broken_at r.tree f (Some x) d at known | false ↦ record { book = (known, at.book); late = at.late; flushing = at.flushing } ]))

restarts_entered : (r : Chronicle) (lines : List Event) → Entered r → Entered (after_restarts r lines)
restarts_entered r [] old = old
restarts_entered r (event.Branch n v uuid parent fork high ∷ lines) old = restarts_entered (after_restart r n v) lines (restart_entered r n v old)
restarts_entered r (other ∷ lines) old = restarts_entered r lines old

starts_entered : (r : Chronicle) (n : ℕ) (said : Answer) → Entered r → Entered (after_starts r n said)
starts_entered r n (answer.No cause.Stopped) old = crash_entered r n (r.arm_at n).out old
starts_entered r n other old = old

if_entered : (b : Bool) (x y : Chronicle) → Entered x → Entered y → Entered (if b then x else y)
if_entered true x y one other = one
if_entered false x y one other = other

openings_entered : (before : Fuse) (r : Chronicle) (n : ℕ) (lines : List Event) (said : Answer) → Entered r → Entered (after_openings before r n lines said)
openings_entered before r n lines said old = if_entered (is_off (r.arm_at n).fuse && not (is_off before)) (record r { arm_at = with_id r.arm_at n known_down }) _ (record { disks = old.disks; logs = old.logs; streams = old.streams })
    (if_entered _ _ _ old (starts_entered (after_restarts (after_up n r) lines) n said (restarts_entered (after_up n r) lines (record { disks = old.disks; logs = old.logs; streams = old.streams }))))

pub start_line_entered : (r : Chronicle) (n : ℕ) (lines : List Event) (said : Answer) → Entered r → Entered (after_start r n lines said)
start_line_entered r n lines said old = by said
  where
    opened : (said : Answer) → Entered (after_openings (r.arm_at n).fuse (after_calls (disks_of r n) n r) n lines said)
    opened said = openings_entered (r.arm_at n).fuse (after_calls (disks_of r n) n r) n lines said (calls_entered r (disks_of r n) n old)

    by : (said : Answer) → Entered (after_start r n lines said)
    by (answer.No cause.UnknownNode) = old
    by (answer.No cause.NodeUp) = old
    by (answer.No cause.UuidZero) = old
    by (answer.No cause.UuidUsed) = old
    by said = opened said

-- ---- each line

-- what is read before the lines of a group
pub ahead_entered : (r : Chronicle) (line : Verb) (said : Answer) → Entered r → Entered (ahead r line said)
ahead_entered r (verb.AtVb n v (vb_verb.Chain others)) answer.Ok old = record { disks = old.disks; logs = old.logs; streams = old.streams }
ahead_entered r (verb.AtVb n v vb_verb.Done) (answer.Number saved) old = disk_entered r n v (record (r.disk_at n v) { flushing = Idle; saved = saved }) old (record { book = (old.disks n v).book; late = (old.disks n v).late; flushing = tt })
ahead_entered r (verb.AtVb n v vb_verb.Tick) said old = record { disks = old.disks; logs = old.logs; streams = old.streams }
ahead_entered r (verb.AtClient n c (client_verb.Bytes bytes)) answer.Ok old = record { disks = old.disks; logs = old.logs; streams = old.streams }
ahead_entered r (verb.AtNode n (node_verb.Crash out)) answer.Ok old = record { disks = old.disks; logs = old.logs; streams = old.streams }
ahead_entered r other said old = old

pub blank_entered : (r : Chronicle) (n c : ℕ) (said : Answer) → Entered r → Entered (after_blank r n c said)
blank_entered r n c answer.Ok old = record { disks = old.disks; logs = old.logs; streams = old.streams }
blank_entered r n c other old = old

pub dial_entered : (r : Chronicle) (l m n v : ℕ) (said : Answer) → Entered r → Entered (after_dial r l m n v said)
dial_entered r l m n v answer.Ok old =
    record { disks = old.disks; logs = old.logs; streams = λ s q. either r.tree (is_name s (name.Link l)) None (r.stream_of s q) (λ g e. cc) (old.streams s q) }
dial_entered r l m n v other old = old

pub seal_entered : (r : Chronicle) (n v : ℕ) (said : Answer) → Entered r → Entered (after_seal r n v said)
seal_entered r n v (answer.Number sealed) old = record { disks = old.disks; logs = old.logs; streams = old.streams }
seal_entered r n v other old = old

pub armed_entered : (r : Chronicle) (n : ℕ) (arm : ArmKnown) (said : Answer) → Entered r → Entered (after_armed r n arm said)
armed_entered r n arm answer.Ok old = record { disks = old.disks; logs = old.logs; streams = old.streams }
armed_entered r n arm other old = old

pub clock_entered : (r : Chronicle) (n nanos : ℕ) (said : Answer) → Entered r → Entered (after_clock r n nanos said)
clock_entered r n nanos answer.Ok old = record { disks = old.disks; logs = old.logs; streams = old.streams }
clock_entered r n nanos other old = old

pub crashed_entered : (r : Chronicle) (n : ℕ) (out : Outcome) (said : Answer) → Entered r → Entered (after_crashed r n out said)
crashed_entered r n out answer.Ok old = crash_entered r n out old
crashed_entered r n out other old = old
