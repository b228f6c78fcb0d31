-- lines of changes that a vBucket made of its own, read beside what other lines tell
use Rattle.std.specs.Prelude.{◌≡◌, ◌<◌, ◌∷◌, ◌++◌, ◌&&◌, if◌then◌else◌}
use Rattle.transcript_law.proofs.Words.{ℕ, Bool, true, false, not, List, [], refl, image_of, ap, sym, ◌∙◌, subst, inl, inr, ⊎_elim, Option, Some, None, Result, Ok, Err, Frame, KvRequest, Status, Change, Event, Chronicle, Role, ForksBelow, IsNew, LogEntry, option_map, after_change, after_lines, grow, hist, last_seq, map, with_at, IsIfKnown, LawfulChange, LawfulFrom}
use Rattle.transcript_law.proofs.{invariant.Carried.{places}, invariant.Tables.{at_here, at_there}}
use Rattle.transcript_law.specs.Chronicles.{CountsKnown, DiskKnown, after_calls, after_restart, broken_by, calls_of_append, is_off, spent, state_of, with_disk, with_record}
use Rattle.{vb_disk.specs.declared.fuse.Fuse.{Fuse}, vb_types.specs.declared.journal.Record.{Record}}
use Rattle.transcript_law.specs.{ClientFrames.{message_of, setup_after}, ClientStreams.{clients_line, unclosed}}
use Rattle.client_session.specs.{Serving.{is_dcp}, declared.session.Settings.{Settings}}
use Rattle.mcbp_kv.specs.Requests.{request_of}
use Rattle.mcbp_kv.specs.declared.request.KvRequest.TheVariants as request
use Rattle.transcript_law.specs.LawfulAnswers.{serving, AllDurable, FitsBy, FitsFrame, FitsGet, FitsRequest, IsCommitted, IsMade, IsRefused, IsRefusedDurably, IsUnsure, LacksSeqnos, LawfulReply, IsStill}
use Rattle.transcript_law.specs.LawfulClients.{LawfulClientAsk, RefusesBy}
use Rattle.transcript_law.specs.LawfulMessages.{FitsMessage, Moment, moment_of}
use Rattle.transcript_law.specs.LinesTold.{after_client_line, changed_line, made_line, timed}
use Rattle.transcript_law.specs.StreamLaws.{GrantsAs, LawfulSaid, LawfulVerdict}
use Rattle.transcript_law.specs.StreamsTold.{ClientsKnown}
use Rattle.vb_types.specs.declared.stream.{AskAnswer.{AskAnswer}, StreamAsk.{StreamAsk}}
use Rattle.transcript_law.specs.{Lawfulness.{Fulfils, IsHeldIfCommitted, IsMadeAt, IsPrepareAsked, IsUp, LawfulBranch, fork_in, newest_of}, OwnChanges.{IsNextChange}}
use Rattle.vb_types.specs.declared.role.Role.TheVariants.{Active}
use Rattle.transcript_law.specs.LinesTold.{LastLine, OwnChange, told_for}

-- what such a line and that of a branch read is the same in both
pub record Reads (q r : Chronicle) : Type 0 where
  pub last : r.last ≡ q.last
  pub tree : r.tree ≡ q.tree
  pub branch : r.branch_at ≡ q.branch_at
  pub held : r.held ≡ q.held
  pub writer : r.writer_of ≡ q.writer_of
  pub role : r.role_at ≡ q.role_at
  pub counts : r.counts_at ≡ q.counts_at
  pub log : r.log_at ≡ q.log_at
  pub snap : r.snap_at ≡ q.snap_at
  pub saved : (n v : ℕ) → (r.disk_at n v).saved ≡ (q.disk_at n v).saved
  pub clients : r.clients_at ≡ q.clients_at
  pub made : r.made ≡ q.made
  pub clock : r.clock_at ≡ q.clock_at
  pub ticks : r.ticks ≡ q.ticks
  pub conns : r.conn_at ≡ q.conn_at
  pub changed : r.changed ≡ q.changed

pub reads_same : (r : Chronicle) → Reads r r
reads_same r = record { last = refl; tree = refl; branch = refl; held = refl; writer = refl; role = refl; counts = refl; log = refl; snap = refl; saved = λ n v. refl; clients = refl; made = refl; clock = refl; ticks = refl; conns = refl; changed = refl }

-- it reads of a disk what counts as saved alone
pub saved_at : (disks : ℕ → ℕ → DiskKnown) (n v : ℕ) (d : DiskKnown) → d.saved ≡ (disks n v).saved → (m q : ℕ) → (with_at disks n v d m q).saved ≡ (disks m q).saved
saved_at disks n v d same m q = ⊎_elim
    (λ s. (λ i. (with_at disks n v d (s.0 i) (s.1 i)).saved) ∙ ap (λ (x : DiskKnown). x.saved) (at_here disks n v d) ∙ same ∙ sym (λ i. (disks (s.0 i) (s.1 i)).saved))
    (λ o. ap (λ (x : DiskKnown). x.saved) (at_there disks n v d m q o))
    (places n v m q)

pub disk_reads : (r : Chronicle) (n v : ℕ) (d : DiskKnown) → d.saved ≡ (r.disk_at n v).saved → Reads r (with_disk r n v d)
disk_reads r n v d same = record { last = refl; tree = refl; branch = refl; held = refl; writer = refl; role = refl; counts = refl; log = refl; snap = refl; saved = saved_at r.disk_at n v d same; clients = refl; made = refl; clock = refl; ticks = refl; conns = refl; changed = refl }

-- and nothing of device calls
pub calls_read : {q r : Chronicle} (calls n : ℕ) → Reads q r → Reads q (after_calls calls n r)
calls_read calls n s = record { last = s.last; tree = s.tree; branch = s.branch; held = s.held; writer = s.writer; role = s.role; counts = s.counts; log = s.log; snap = s.snap; saved = s.saved; clients = s.clients; made = s.made; clock = s.clock; ticks = s.ticks; conns = s.conns; changed = s.changed }

pub reads_change : (q r : Chronicle) (n v uuid : ℕ) (change : Change) → Reads q r → Reads (after_change q n v uuid change) (after_change r n v uuid change)
reads_change q r n v uuid change s = record {
  last = s.last;
  tree = ap (λ t. grow t uuid change) s.tree;
  branch = s.branch;
  held = ap (λ (h : ℕ → ℕ → List Change). with_at h n v (h n v ++ change ∷ [])) s.held;
  writer = s.writer;
  role = s.role;
  counts = λ i. with_at (s.counts i) n v (timed change.seq (s.clock i n) (s.counts i n v));
  log = s.log;
  snap = ap (λ (t : ℕ → ℕ → Option (ℕ × ℕ)). with_at t n v (Some (change.seq, change.seq))) s.snap;
  saved = s.saved;
  clients = s.clients;
  made = λ i. record { node = n; vb = v; branch = uuid; change = change; clock = s.clock i n } ∷ s.made i;
  clock = s.clock;
  ticks = s.ticks;
  conns = s.conns;
  changed = refl;
}

pub change_read : (q r : Chronicle) (n v uuid : ℕ) (change : Change) → Reads q r → LawfulChange r n v uuid change → LawfulChange q n v uuid change
change_read q r n v uuid change s l = record {
  active = subst (λ (f : ℕ → ℕ → Option (Option Role)). IsIfKnown (f n v) (Some Active)) s.role l.active;
  writer = record { made_or_took = ap (λ (f : ℕ → Option (ℕ × ℕ)). f uuid) (sym s.writer) ∙ l.writer.made_or_took; on_branch = ap (λ (f : ℕ → ℕ → Option ℕ). f n v) (sym s.branch) ∙ l.writer.on_branch };
  above_branch = subst (λ t. last_seq 0 (hist t uuid) < change.seq) s.tree l.above_branch;
  above_forks = subst (ForksBelow uuid change.seq) s.tree l.above_forks;
  made = subst (λ (h : ℕ → ℕ → List Change). IsNextChange (h n v) change) s.held l.made;
  asked = λ level doc deleted e. subst (λ (k : ClientsKnown). IsPrepareAsked k q.changed n v change.key level doc deleted) s.clients (subst (λ b. IsPrepareAsked r.clients_at b n v change.key level doc deleted) s.changed (l.asked level doc deleted e));
  fulfils = subst (λ (h : ℕ → ℕ → List Change). Fulfils (image_of (h n v)) change) s.held l.fulfils;
  backed = subst (λ (f : ℕ → ℕ → CountsKnown). IsHeldIfCommitted (f n v) (q.disk_at n v).saved (image_of (q.held n v)) change) s.counts
      (subst (λ k. IsHeldIfCommitted (r.counts_at n v) k (image_of (q.held n v)) change) (s.saved n v) (subst (λ (h : ℕ → ℕ → List Change). IsHeldIfCommitted (r.counts_at n v) (r.disk_at n v).saved (image_of (h n v)) change) s.held l.backed));
  aborts = λ prepared e. let x = l.aborts prepared e in record {
    asked = sym s.ticks ∙ x.asked;
    before = x.before;
    made = subst (λ (f : ℕ → ℕ → CountsKnown). IsMadeAt prepared x.before (f n v).times) s.counts x.made;
    up = subst (λ (f : ℕ → ℕ). IsUp x.before (f n)) s.clock x.up;
  };
}

-- a line that tells of clients alone reads the branches and what is known of clients
pub reads_client : (q r : Chronicle) (line : Event) → Reads q r → Reads (after_client_line q line) (after_client_line r line)
reads_client q r line s = record {
  last = s.last;
  tree = s.tree;
  branch = s.branch;
  held = s.held;
  writer = s.writer;
  role = s.role;
  counts = s.counts;
  log = s.log;
  snap = s.snap;
  saved = s.saved;
  clients = λ i. clients_line (s.tree i) (s.clients i) line;
  made = ap (λ made. made_line made line) s.made;
  clock = s.clock;
  ticks = s.ticks;
  conns = s.conns;
  changed = ap (λ b. changed_line b line) s.changed;
}

-- an answer to a request
said_read : (q r : Chronicle) (n v : ℕ) (ask : StreamAsk) (high : ℕ) (log : List LogEntry) (said : AskAnswer) → Reads q r → LawfulSaid r n v ask high log said → LawfulSaid q n v ask high log said
said_read q r n v ask high log said s l = record {
  own_log = subst (λ (f : ℕ → ℕ → Option (List LogEntry)). IsIfKnown (f n v) log) s.log l.own_log;
  own_high = subst (λ (h : ℕ → ℕ → List Change). high ≡ last_seq 0 (h n v)) s.held l.own_high;
  verdict = subst (λ t. LawfulVerdict t log high ask said) s.tree l.verdict;
  active = subst (λ (f : ℕ → ℕ → Option (Option Role)). GrantsAs (f n v) said) s.role l.active;
}

pub asked_read : (q r : Chronicle) (n c m v : ℕ) (ask : StreamAsk) (high : ℕ) (log : List LogEntry) (said : AskAnswer) (behind : List Event) → Reads q r
    → LawfulClientAsk r (r.clients_at n c) n c m v ask high log said behind → LawfulClientAsk q (q.clients_at n c) n c m v ask high log said behind
asked_read q r n c m v ask high log said behind s l =
    let x : LawfulClientAsk r (q.clients_at n c) n c m v ask high log said behind = subst (λ (k : ClientsKnown). LawfulClientAsk r (k n c) n c m v ask high log said behind) s.clients l in
    record { own_node = x.own_node; request = x.request; next = x.next; numbers = x.numbers; vb = x.vb; answered = said_read q r n v ask high log said s x.answered; own = x.own; reason = subst (λ (f : ℕ → ℕ → Option (Option Role)). RefusesBy (setup_after (q.clients_at n c).setup x.request.before) (q.clients_at n c).opened (f n v) (unclosed x.request.before (q.clients_at n c).streams v) ask said) s.role x.reason; frame = x.frame }

still_read : (q r : Chronicle) → Reads q r → IsStill r → IsStill q
still_read q r s still = (subst AllDurable s.made still.0, sym s.changed ∙ still.1)

-- what a client is sent reads what is known of its vBucket, and the changes of the group
pub reply_read : (q r : Chronicle) (n c : ℕ) (bytes : List ℕ) (behind : List Event) → Reads q r → LawfulReply r n c (r.clients_at n c).asking bytes behind → LawfulReply q n c (q.clients_at n c).asking bytes behind
reply_read q r n c bytes behind s l = ⊎_elim
    (λ x. inl (record {
      question = x.question;
      next = x.next;
      answer = x.answer;
      spelled = x.spelled;
      response = x.response;
      opcode = x.opcode;
      opaque = x.opaque;
      fits = subst (λ (k : ClientsKnown). FitsFrame (serving q n c (q.clients_at n c).asking) q n (moment_of (k n c) (q.clients_at n c).asking x.question) (q.clients_at n c).asking.settings x.question.frame x.answer) s.clients
          (frame_read (serving q n c (q.clients_at n c).asking) x.question.frame x.answer (moment_of (r.clients_at n c) (q.clients_at n c).asking x.question) (q.clients_at n c).asking.settings
          (subst (λ served. FitsFrame served r n (moment_of (r.clients_at n c) (q.clients_at n c).asking x.question) (q.clients_at n c).asking.settings x.question.frame x.answer)
          (λ i. option_map (λ (l : LastLine). told_for (l.served n c) (q.clients_at n c).asking.answered (s.made i)) (s.last i)) x.fits));
      calm = ⊎_elim (λ y. inl y) (λ y. inr (⊎_elim (λ z. inl (z.0, subst AllDurable s.made z.1)) (λ z. inr (still_read q r s z)) y)) x.calm;
    }))
    (λ x. inr (record { none = x.none; fault = x.fault; stands = x.stands; head = x.head; named = x.named; spelled = x.spelled; closes = x.closes; calm = still_read q r s x.calm })) (subst (λ (k : ClientsKnown). LawfulReply r n c (k n c).asking bytes behind) s.clients l)
  where
    -- of a vBucket
    at : {A : Type 0} {f g : ℕ → ℕ → A} (P : A → Type 0) (v : ℕ) → g ≡ f → P (g n v) → P (f n v)
    at P v e x = subst (λ t. P (t n v)) e x

    request_read : (served : Option (List OwnChange)) (count : ℕ) (f g : Frame) (settings : Settings) (asked : Result KvRequest Status) → FitsRequest served r n count settings f g asked → FitsRequest served q n count settings f g asked
    request_read served count f g settings (Err st) x = x
    request_read served count f g settings (Ok request.Noop) x = x
    request_read served count f g settings (Ok (request.Hello features)) x = x
    request_read served count f g settings (Ok (request.Get key)) x =
        at (λ (counts : CountsKnown). FitsGet (q.role_at n f.vb_or_status) counts.risen (image_of (q.held n f.vb_or_status)) settings.json key f g) f.vb_or_status s.counts
        (at (λ role. FitsGet role (r.counts_at n f.vb_or_status).risen (image_of (q.held n f.vb_or_status)) settings.json key f g) f.vb_or_status s.role
        (at (λ held. FitsGet (r.role_at n f.vb_or_status) (r.counts_at n f.vb_or_status).risen (image_of held) settings.json key f g) f.vb_or_status s.held x))
    request_read served count f g settings (Ok (request.Write write None)) x = ⊎_elim
        (λ y. inl (at (λ (counts : CountsKnown). IsRefused (LacksSeqnos (q.held n f.vb_or_status) 1) (q.role_at n f.vb_or_status) counts.risen (image_of (q.held n f.vb_or_status)) write f g) f.vb_or_status s.counts
        (at (λ role. IsRefused (LacksSeqnos (q.held n f.vb_or_status) 1) role (r.counts_at n f.vb_or_status).risen (image_of (q.held n f.vb_or_status)) write f g) f.vb_or_status s.role
        (at (λ held. IsRefused (LacksSeqnos held 1) (r.role_at n f.vb_or_status) (r.counts_at n f.vb_or_status).risen (image_of held) write f g) f.vb_or_status s.held y))))
        (λ y. inr (subst (λ made. IsMade n f.vb_or_status (q.held n f.vb_or_status) made settings write f g) s.made (at (λ held. IsMade n f.vb_or_status held r.made settings write f g) f.vb_or_status s.held y)))
        x
    request_read served count f g settings (Ok (request.Write write (Some wish))) x = ⊎_elim
        (λ y. inl y)
        (λ y. inr (
          y.0,
          ⊎_elim
              (λ z. inl (at (λ (counts : CountsKnown). IsRefusedDurably counts (q.role_at n f.vb_or_status) (q.held n f.vb_or_status) write f g) f.vb_or_status s.counts
              (at (λ role. IsRefusedDurably (r.counts_at n f.vb_or_status) role (q.held n f.vb_or_status) write f g) f.vb_or_status s.role
              (at (λ held. IsRefusedDurably (r.counts_at n f.vb_or_status) (r.role_at n f.vb_or_status) held write f g) f.vb_or_status s.held z))))
              (⊎_elim (λ z. inr (inl (subst (λ made. IsCommitted n f.vb_or_status served made settings write wish f g) s.made z))) (λ z. inr (inr (at (λ role. IsUnsure n f.vb_or_status served role q.made write wish f g) f.vb_or_status s.role (subst (λ made. IsUnsure n f.vb_or_status served (r.role_at n f.vb_or_status) made write wish f g) s.made z)))))
              y.1,
        ))
        x

    frame_read : (served : Option (List OwnChange)) (f g : Frame) (moment : Moment) (settings : Settings) → FitsFrame served r n moment settings f g → FitsFrame served q n moment settings f g
    frame_read served f g moment settings x = by (is_dcp f.opcode) x
      where
        by : (b : Bool) → FitsBy b served r n moment settings f g → FitsBy b served q n moment settings f g
        by true y =
            at (λ log. FitsMessage (q.role_at n f.vb_or_status) log moment f g (message_of f)) f.vb_or_status s.log
            (at (λ role. FitsMessage role (r.log_at n f.vb_or_status) moment f g (message_of f)) f.vb_or_status s.role y)
        by false y = request_read served moment.durables f g settings (request_of settings.json f) y

pub branch_read : (q r : Chronicle) (n v uuid : ℕ) (parent : Option ℕ) (fork high : ℕ) → Reads q r → LawfulBranch r n v uuid parent fork high → LawfulBranch q n v uuid parent fork high
branch_read q r n v uuid parent fork high s l = record {
  new = subst (IsNew uuid) s.tree l.new;
  newest = subst (λ (f : ℕ → ℕ → Option (List LogEntry)). IsIfKnown (option_map newest_of (f n v)) parent) s.log l.newest;
  last = subst (λ (h : ℕ → ℕ → List Change). high ≡ last_seq 0 (h n v)) s.held l.last;
  leaves = subst (λ (f : ℕ → ℕ → Option (ℕ × ℕ)). IsIfKnown (option_map (fork_in high) (f n v)) fork) s.snap l.leaves;
}

-- so they are lawful in both
pub changes_read : (q r : Chronicle) (n v uuid : ℕ) (cs : List Change) → Reads q r → LawfulFrom r (map (Event.Changed n v uuid) cs) → LawfulFrom q (map (Event.Changed n v uuid) cs)
changes_read q r n v uuid [] s l = tt
changes_read q r n v uuid (c ∷ cs) s l = (change_read q r n v uuid c s l.0, changes_read (after_change q n v uuid c) (after_change r n v uuid c) n v uuid cs (reads_change q r n v uuid c s) l.1)

pub reads_changes : (q r : Chronicle) (n v uuid : ℕ) (cs : List Change) → Reads q r → Reads (after_lines q (map (Event.Changed n v uuid) cs)) (after_lines r (map (Event.Changed n v uuid) cs))
reads_changes q r n v uuid [] s = s
reads_changes q r n v uuid (c ∷ cs) s = reads_changes (after_change q n v uuid c) (after_change r n v uuid c) n v uuid cs (reads_change q r n v uuid c s)

-- that a vBucket of a node that starts takes writes is told before them or behind them
pub restart_past : (r : Chronicle) (n v m q uuid : ℕ) (cs : List Change) → after_restart (after_lines r (map (Event.Changed m q uuid) cs)) n v ≡ after_lines (after_restart r n v) (map (Event.Changed m q uuid) cs)
restart_past r n v m q uuid [] = refl
restart_past r n v m q uuid (c ∷ cs) = restart_past (after_change r m q uuid c) n v m q uuid cs

-- nor does that tell of what counts as saved
pub restart_saved : (r : Chronicle) (n v m q : ℕ) → ((after_restart r n v).disk_at m q).saved ≡ (r.disk_at m q).saved
restart_saved r n v m q =
    let f : Fuse = (r.arm_at n).fuse in let d : DiskKnown = r.disk_at n v in let s : Record = state_of r n v Active in let hit : Bool = is_off (spent calls_of_append f) && not (is_off f) in
    saved_at r.disk_at n v (if hit then broken_by f (Some s) d else with_record s d) (elim hit as (λ b. (if b then broken_by f (Some s) d else with_record s d).saved ≡ d.saved) [ true ↦ refl | false ↦ refl ]) m q

-- roles are told before them or behind them, and they tell of no arm
pub roles_past : (roles : ℕ → ℕ → Option (Option Role)) (r : Chronicle) (n v uuid : ℕ) (cs : List Change) → after_lines (record r { role_at = roles }) (map (Event.Changed n v uuid) cs) ≡ record (after_lines r (map (Event.Changed n v uuid) cs)) { role_at = roles }
roles_past roles r n v uuid [] = refl
roles_past roles r n v uuid (c ∷ cs) = roles_past roles (after_change r n v uuid c) n v uuid cs

pub roles_same : (r : Chronicle) (n v uuid : ℕ) (cs : List Change) → (after_lines r (map (Event.Changed n v uuid) cs)).role_at ≡ r.role_at
roles_same r n v uuid [] = refl
roles_same r n v uuid (c ∷ cs) = roles_same (after_change r n v uuid c) n v uuid cs

pub arms_same : (r : Chronicle) (n v uuid : ℕ) (cs : List Change) → (after_lines r (map (Event.Changed n v uuid) cs)).arm_at ≡ r.arm_at
arms_same r n v uuid [] = refl
arms_same r n v uuid (c ∷ cs) = arms_same (after_change r n v uuid c) n v uuid cs
