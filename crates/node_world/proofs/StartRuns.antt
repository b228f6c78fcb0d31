-- vBuckets that take their new branches one after the other, and a node that starts from its disks
use Rattle.std.proofs.Common.{◌≡◌, ℕ, ◌+◌, ◌<◌, Bool, true, false, List, [], ◌∷◌, ◌++◌, drop, filter, get_or, length, map, refl, sym, ap, ◌∙◌, subst, Option, Some, None, is_some}
use Rattle.std.specs.Prelude.{if◌then◌else◌, IfSome}
use Rattle.std.proofs.lemmas.List.{drop_more}
use Rattle.slab.specs.Slab.{get}
use Rattle.disk_journals.specs.Arms.{ArmsLaid, opens_all}
use Rattle.disk_journals.specs.Books.{AreBooks, Book, opened_shelves}
use Rattle.disk_journals.specs.Devices.{fuse_device}
use Rattle.disk_journals.specs.Opening.{FaultedBy, OpensBooks, OpensNot, book_of}
use Rattle.disk_journals.specs.Stands.{ShelvesStand}
use Rattle.disk_journals.specs.declared.opening.OpenCause.TheVariants as opening
use Rattle.disk_journals.specs.declared.opening.OpenJournal.{OpenJournal}
use Rattle.disk_journals.specs.declared.opening.VbDisk.{VbDisk}
use Rattle.disk_journals.proofs.Reopened.{opened_stand, faults_hit}
use Rattle.vb_disk.specs.Arms.{burnt, burnt_by}
use Rattle.vb_disk.specs.Fused.{FuseStorage}
use Rattle.vb_disk.specs.declared.fuse.Fuse.{Fuse}
use Rattle.vb_events.specs.declared.event.Cause.TheVariants as cause
use Rattle.vbucket.specs.Stands.{SlotsStand}
use Rattle.node_core.specs.Flushing.{FlushResult}
use Rattle.node_core.specs.Loading.{are_short, is_there, loaded_states, starts_of}
use Rattle.node_core.specs.Loads.{AllBack, Loads}
use Rattle.node_core.specs.Outs.{start_by}
use Rattle.node_core.specs.Outcomes.{value_at}
use Rattle.node_core.specs.declared.conn.Conn.{Conn}
use Rattle.node_core.specs.declared.node.loading.Loaded.{Loaded}
use Rattle.node_core.specs.declared.node.starts.Started.{Started}
use Rattle.node_world.specs.declared.arm.Arm.{Arm}
use Rattle.node_world.specs.declared.arm.Fired.{Fired}
use Rattle.node_world.specs.declared.arm.Fired.TheVariants as fired
use Rattle.node_world.specs.declared.script_node.ScriptNode.{ScriptNode}
use Rattle.node_world.specs.declared.told.Told.{Told}
use Rattle.node_world.specs.Arms.{PlainNode, fired_by, no_arm}
use Rattle.node_world.specs.Ends.{KeepsEnds, dial_under, peer_under}
use Rattle.node_world.specs.Nodes.{done, refusal}
use Rattle.node_world.specs.Power.{Starting, start_if, burnt_arm, first_no, loaded_node, not_opened, opening_told, start_books, start_one, started_by, starts_from}
use Rattle.node_world.specs.Starts.{IsBare, MeetsArm, StartsDisks, StartsFrom, StartsNext, StartsOne, StartsUp, met_by, next_start}
use Rattle.node_world.specs.Stands.{NodeMatch, OffStands, client_part, node_number, peer_part}

-- ---- one after the other

-- what was told, with what one more start told
abbrev pub told_more : Told → FlushResult → Told
told_more told one = record { events = told.events ++ one.events; answer = first_no told.answer one.answer }

-- one more start, and the arm
pub starts_next : (start : ℕ × ℕ) (old mid new : ScriptNode) (one : Started) (so_far more told : Told) (over : Bool) → StartsOne start old one mid → more ≡ told_more so_far (start_by one) → MeetsArm old.arm mid more new told over
    → StartsNext start old so_far new told over
starts_next start old mid new one so_far more told over went says meets plain stands bare =
    let n = node_number old in
    let x : PlainNode × FlushResult = start_one n start plain in
    let came : NodeMatch mid x.0 × (start_by one ≡ x.1) × KeepsEnds old mid = went plain stands in
    let ends = came.2 in
    let met = meets x.0 came.0 (record { peers = λ key. ends.peers key ∙ bare.peers key; dials = λ v. ends.dials v ∙ bare.dials v }) in
    let same : met_by (node_number mid) old.arm (fired_by old.arm.fuse x.0.arm.fuse) x.0 more ≡ next_start n start plain so_far = λ i. met_by (ends.number i) (stands.arm i) (fired_by (stands.arm i).fuse x.0.arm.fuse) x.0 ((says ∙ ap (told_more so_far) came.1) i) in (
      subst (λ (y : PlainNode × Told × Bool). NodeMatch new y.0) same met.0,
      met.1 ∙ ap (λ (y : PlainNode × Told × Bool). y.1) same,
      met.2 ∙ ap (λ (y : PlainNode × Told × Bool). y.2) same,
      met.3 ∙ ends.number,
      met.4,
    )

-- the vBuckets behind it start, unless the node stopped
abbrev pub going_on : (Starting → Starting) → PlainNode × Told × Bool → Starting
going_on rest (node, told, ends) = if ends then (node, told) else rest (node, told)

pub by_next : (n : ℕ) (arm : Arm) (f : Fired) (one : FlushResult) (told : Told) (node : PlainNode) (rest : Starting → Starting) → started_by n arm f one told node rest ≡ going_on rest (met_by n arm f node (told_more told one))
by_next n arm fired.No one told node rest = refl
by_next n arm fired.Failed one told node rest = refl
by_next n arm fired.Stopped one told node rest = refl

pub starts_cons : (n : ℕ) (start : ℕ × ℕ) (starts : List (ℕ × ℕ)) (node : PlainNode) (told : Told) → starts_from n (start ∷ starts) (node, told) ≡ going_on (starts_from n starts) (next_start n start node told)
starts_cons n start starts node told =
    let x : PlainNode × FlushResult = start_one n start node in by_next n node.arm (fired_by node.arm.fuse x.0.arm.fuse) x.1 told x.0 (starts_from n starts)

-- so many of them started: the node stands for one from which the others come to the same
pub record SoFar (starts : List (ℕ × ℕ)) (plain : PlainNode) (n i : ℕ) (told : Told) (self : ScriptNode) : Type 0 where
  pub now : PlainNode
  pub stands : NodeMatch self now
  pub rest : starts_from n starts (plain, done []) ≡ starts_from n (drop i starts) (now, told)
  pub number : node_number self ≡ n
  pub bare : IsBare self

abbrev pub StartsSoFar : List (ℕ × ℕ) → ScriptNode → ℕ → Told → ScriptNode → Type 0
StartsSoFar starts old i told self = (plain : PlainNode) → NodeMatch old plain → IsBare old → SoFar starts plain (node_number old) i told self

module _ (starts : List (ℕ × ℕ)) (old : ScriptNode) where
  pub none_so_far : (told : Told) → told ≡ done [] → StartsSoFar starts old 0 told old
  none_so_far told none plain stands bare = record { now = plain; stands = stands; rest = ap (λ t. starts_from (node_number old) starts (plain, t)) (sym none); number = refl; bare = bare }

  module _ (i : ℕ) (d : ℕ × ℕ) (lt : i < length starts) (told : Told) (self : ScriptNode) (so_far : StartsSoFar starts old i told self) (told' : Told) (self' : ScriptNode) (over : Bool) (next : StartsNext (get_or starts i d) self told self' told' over) where
    abbrev start : ℕ × ℕ
    start = get_or starts i d

    came : (plain : PlainNode) (stands : NodeMatch old plain) (bare : IsBare old) → (x : PlainNode × Told × Bool) × (starts_from (node_number old) starts (plain, done []) ≡ going_on (starts_from (node_number old) (drop (i + 1) starts)) x)
        × NodeMatch self' x.0 × (told' ≡ x.1) × (over ≡ x.2) × (node_number self' ≡ node_number old) × IsBare self'
    came plain stands bare =
        let s = so_far plain stands bare in
        let n = node_number old in
        let went = next s.now s.stands s.bare in
        let same = ap (λ m. next_start m start s.now told) s.number in (
          next_start n start s.now told,
          s.rest ∙ ap (λ ss. starts_from n ss (s.now, told)) (drop_more starts i d lt) ∙ starts_cons n start (drop (i + 1) starts) s.now told,
          subst (λ (y : PlainNode × Told × Bool). NodeMatch self' y.0) same went.0,
          went.1 ∙ ap (λ (y : PlainNode × Told × Bool). y.1) same,
          went.2 ∙ ap (λ (y : PlainNode × Told × Bool). y.2) same,
          went.3 ∙ s.number,
          went.4,
        )

    -- the next ones start
    pub more_so_far : over ≡ false → StartsSoFar starts old (i + 1) told' self'
    more_so_far goes plain stands bare =
        let c = came plain stands bare in record {
          now = c.0.0;
          stands = c.2;
          rest = c.1 ∙ ap (λ b. going_on (starts_from (node_number old) (drop (i + 1) starts)) (c.0.0, c.0.1, b)) (sym c.4 ∙ goes) ∙ ap (λ t. starts_from (node_number old) (drop (i + 1) starts) (c.0.0, t)) (sym c.3);
          number = c.5;
          bare = c.6;
        }

    -- the node stopped
    pub stopped_there : over ≡ true → StartsFrom starts (done []) old told' self'
    stopped_there ends plain stands bare =
        let c = came plain stands bare in
        let n = node_number old in
        let all : starts_from n starts (plain, done []) ≡ (c.0.0, c.0.1) = c.1 ∙ ap (λ b. going_on (starts_from n (drop (i + 1) starts)) (c.0.0, c.0.1, b)) (sym c.4 ∙ ends) in (
          subst (λ (y : Starting). NodeMatch self' y.0) (sym all) c.2,
          c.3 ∙ ap (λ (y : Starting). y.1) (sym all),
          c.5,
          c.6,
        )

  -- all started
  pub all_so_far : (i : ℕ) (told : Told) (self : ScriptNode) → drop i starts ≡ [] → StartsSoFar starts old i told self → StartsFrom starts (done []) old told self
  all_so_far i told self none so_far plain stands bare =
      let s = so_far plain stands bare in
      let n = node_number old in
      let all : starts_from n starts (plain, done []) ≡ (s.now, told) = s.rest ∙ ap (λ ss. starts_from n ss (s.now, told)) none in (
        subst (λ (y : Starting). NodeMatch self y.0) (sym all) s.stands,
        ap (λ (y : Starting). y.1) (sym all),
        s.number,
        s.bare,
      )

-- ---- from disks

-- what is left of an arm behind all openings
left_burnt : (f : Fuse) (disks : List (VbDisk FuseStorage)) (books : List Book) (left : Fuse) → AreBooks disks books → ArmsLaid f disks left → left ≡ burnt_by (length books) f
left_burnt f [] [] left are laid = laid
left_burnt f (on ∷ disks) (book ∷ books) left are laid = left_burnt (burnt f) disks books left are.1 laid.1
left_burnt f [] (book ∷ books) left are laid = absurd are
left_burnt f (on ∷ disks) [] left are laid = absurd are

some_weaker : {T : Type 0} (o : Option T) (P Q : T → Type 0) → ((x : T) → P x → Q x) → IfSome o P → IfSome o Q
some_weaker None P Q f h = tt
some_weaker (Some x) P Q f h = f x h

both : {T : Type 0} (o : Option T) (P Q : T → Type 0) (R : Type 0) → is_some o ≡ true → ((x : T) → P x → Q x → R) → IfSome o P → IfSome o Q → R
both None P Q R e f p q = cc
both (Some x) P Q R e f p q = f x p q

-- a node that is down as before, with these disks and this arm
pub record IsDown (old new : ScriptNode) (back : List (VbDisk FuseStorage)) (arm : Arm) : Type 0 where
  pub same : new ≡ record old { off = new.off; arm = arm }
  pub there : is_some new.off ≡ true
  pub disks : IfSome new.off (λ disks. disks.items ≡ back)

bare_still : (old new : ScriptNode) (back : List (VbDisk FuseStorage)) (arm : Arm) → IsDown old new back arm → IsBare old → IsBare new
bare_still old new back arm down bare = record {
  peers = λ key. ap (λ (x : ScriptNode). peer_under x key) down.same ∙ bare.peers key;
  dials = λ v. ap (λ (x : ScriptNode). dial_under x v) down.same ∙ bare.dials v;
}

still_down : (old new : ScriptNode) (back : List (VbDisk FuseStorage)) (arm arm' : Arm) (plain : PlainNode) (books : List Book) → IsDown old new back arm → AreBooks back books → arm ≡ arm' → NodeMatch old (record plain { off = None }) → IsBare old
    → NodeMatch new (record plain { off = Some books; arm = arm' })
still_down old new back arm arm' plain books down are same stands bare = subst (λ (x : ScriptNode). NodeMatch x (record plain { off = Some books; arm = arm' })) (sym down.same) (record {
  slots = stands.slots;
  shelves = stands.shelves;
  made = stands.made;
  clock = stands.clock;
  clients = stands.clients;
  bases = stands.bases;
  arm = same;
  off = record { there = down.there; bear = some_weaker new.off _ _ (λ disks is. subst (λ ds. AreBooks ds books) (sym is) are) down.disks; peers = bare.peers; dials = bare.dials };
})

module _ (disks : List (VbDisk FuseStorage)) (ids : List ℕ) (old : ScriptNode) (laid : List (VbDisk FuseStorage)) (left : Fuse) (arms : ArmsLaid old.arm.fuse laid left) (bears : (books : List Book) → AreBooks disks books → AreBooks laid books) where
  -- what follows by what the openings came to
  row : (n : ℕ) (books : List Book) (plain : PlainNode) (pass short : Bool) → opens_all plain.arm.fuse (length books) ≡ pass → are_short books ids ≡ short
      → start_books n ids books plain ≡ (if pass then if short then (record plain { arm = burnt_arm (length books) plain.arm }, refusal cause.IdsShort) else starts_from n (starts_of books ids) (loaded_node n books (burnt_arm (length books) plain.arm), done []) else not_opened n plain)
  row n books plain pass short e f = λ i. if e i then if f i then (record plain { arm = burnt_arm (length books) plain.arm }, refusal cause.IdsShort) else starts_from n (starts_of books ids) (loaded_node n books (burnt_arm (length books) plain.arm), done []) else not_opened n plain

  abbrev Came : ScriptNode → Told → PlainNode × Told → Type 0
  Came new told x = NodeMatch new x.0 × (told ≡ x.1) × (node_number new ≡ node_number old) × IsBare new

  -- the arm is that of the plain node
  arm_left : (plain : PlainNode) (books : List Book) → AreBooks laid books → old.arm ≡ plain.arm → record old.arm { fuse = left } ≡ burnt_arm (length books) plain.arm
  arm_left plain books are same = (λ i. record old.arm { fuse = left_burnt old.arm.fuse laid books left are arms i }) ∙ ap (burnt_arm (length books)) same

  -- its vBuckets are loaded, and start
  module _ (loaded : Loaded FuseStorage) (loads : Loads fuse_device (node_number old) laid ids loaded) (new : ScriptNode) (told : Told) where
    abbrev risen : ScriptNode
    risen = record old { node = loaded.node; clients = []; clock = 0; made = loaded.made; arm = record old.arm { fuse = left } }

    pub starts_loaded : (starts : List (ℕ × ℕ)) (up : ScriptNode) → starts ≡ loaded.starts.items → up ≡ risen → StartsFrom starts (done []) up told new → StartsDisks disks ids old told new
    starts_loaded starts up starts_are is_up ran plain books are stands bare =
        subst (Came new told) (sym (row n books plain' true false pass (ap (λ bs. are_short bs ids) (sym opens.books_are) ∙ loads.enough)))
        (subst (λ (y : Starting). Came new told y) (ap (λ ss. starts_from n ss (node, done [])) (loads.starts ∙ ap (λ bs. starts_of bs ids) opens.books_are))
        (let went = subst (λ x. StartsFrom loaded.starts.items (done []) x told new) is_up (subst (λ ss. StartsFrom ss (done []) up told new) starts_are ran) node risen_stands risen_bare in
        subst (λ m. NodeMatch new (starts_from m loaded.starts.items (node, done [])).0 × (told ≡ (starts_from m loaded.starts.items (node, done [])).1) × (node_number new ≡ n) × IsBare new) loads.bare.number
        (went.0, went.1, went.2 ∙ loads.bare.number, went.3)))
      where
        n : ℕ
        n = node_number old

        plain' : PlainNode
        plain' = record plain { off = Some books }

        opens : OpensBooks old.arm.fuse laid books left loads.opened
        opens = opened_stand old.arm.fuse laid books left loads.opened (bears books are) arms loads.are

        pass : opens_all plain.arm.fuse (length books) ≡ true
        pass = ap (λ (a : Arm). opens_all a.fuse (length books)) (sym stands.arm) ∙ opens.pass

        node : PlainNode
        node = loaded_node n books (burnt_arm (length books) plain.arm)

        no_conn : (key : ℕ) → get loaded.node.conns key ≡ None
        no_conn key = ap (λ (slots : List (Option Conn)). get (record loaded.node.conns { slots = slots }) key) loads.bare.conns

        no_peer : (key : ℕ) → peer_part (get loaded.node.conns key) ≡ None
        no_peer key = ap peer_part (no_conn key)

        no_dial : (v : ℕ) → value_at loaded.node.dials v ≡ None
        no_dial v = ap (λ rows. value_at rows v) loads.bare.dials

        risen_bare : IsBare risen
        risen_bare = record { peers = no_peer; dials = no_dial }

        risen_stands : NodeMatch risen node
        risen_stands = record {
          slots = subst (λ bs. SlotsStand loaded.node.vbs (loaded_states n bs)) opens.books_are loads.stand;
          shelves = subst (λ slots. ShelvesStand fuse_device slots (opened_shelves books)) (sym loads.bare.disks) opens.stand;
          made = loads.made ∙ ap (λ bs. length (filter is_there bs)) opens.books_are;
          clock = refl;
          clients = record { each = λ c. tt; apart = λ c d key has also. cc; owned = λ key has. let no : false ≡ true = sym (ap (λ o. is_some (client_part o)) (no_conn key)) ∙ has in cc };
          bases = λ c. tt;
          arm = arm_left plain books (bears books are) stands.arm;
          off = stands.off;
        }

  -- there are too few ids
  pub ids_short : (back : List (VbDisk FuseStorage)) (new : ScriptNode) (told : Told) → (short : (opened : List (OpenJournal FuseStorage)) × AllBack fuse_device laid opened back × (are_short (map book_of opened) ids ≡ true))
      → IsDown old new back (record old.arm { fuse = left }) → told ≡ refusal cause.IdsShort → StartsDisks disks ids old told new
  ids_short back new told short down said plain books are stands bare =
      let opens : OpensBooks old.arm.fuse laid books left short.0 = opened_stand old.arm.fuse laid books left short.0 (bears books are) arms short.1.are in
      subst (Came new told)
      (sym (row (node_number old) books (record plain { off = Some books }) true true (ap (λ (a : Arm). opens_all a.fuse (length books)) (sym stands.arm) ∙ opens.pass) (ap (λ bs. are_short bs ids) (sym opens.books_are) ∙ short.2))) (
        still_down old new back (record old.arm { fuse = left }) (burnt_arm (length books) plain.arm) plain books down (subst (λ ds. AreBooks ds books) (sym short.1.handed) opens.closed) (arm_left plain books (bears books are) stands.arm) stands bare,
        said,
        ap (λ (x : ScriptNode). x.node.number) down.same,
        bare_still old new back (record old.arm { fuse = left }) down bare,
      )

  -- a disk was not opened
  pub not_all : (back : List (VbDisk FuseStorage)) (new : ScriptNode) (told : Told) → FaultedBy fuse_device laid opening.DiskFailed back → IsDown old new back no_arm → told ≡ opening_told (node_number old) (fired_by old.arm.fuse no_arm.fuse)
      → StartsDisks disks ids old told new
  not_all back new told faulted down said plain books are stands bare =
      let hits : OpensNot old.arm.fuse books opening.DiskFailed back = faults_hit old.arm.fuse laid books left opening.DiskFailed back (bears books are) arms faulted in
      subst (Came new told)
      (sym (row (node_number old) books (record plain { off = Some books }) false (are_short books ids) (ap (λ (a : Arm). opens_all a.fuse (length books)) (sym stands.arm) ∙ hits.0) refl)) (
        still_down old new back no_arm no_arm plain books down hits.1 refl stands bare,
        said ∙ ap (λ (a : Arm). opening_told (node_number old) (fired_by a.fuse no_arm.fuse)) stands.arm,
        ap (λ (x : ScriptNode). x.node.number) down.same,
        bare_still old new back no_arm down bare,
      )

  -- none is damaged
  pub none_damaged : (back : List (VbDisk FuseStorage)) (place : ℕ) (told : Told) (new : ScriptNode) → FaultedBy fuse_device laid (opening.Damaged place) back → StartsDisks disks ids old told new
  none_damaged back place told new faulted plain books are stands bare =
      absurd (faults_hit old.arm.fuse laid books left (opening.Damaged place) back (bears books are) arms faulted)

-- ---- a node that is down

pub starts_up : (ids : List ℕ) (old mid new : ScriptNode) (told : Told) (disks : List (VbDisk FuseStorage)) → IfSome old.off (λ d. d.items ≡ disks) → is_some old.off ≡ true → mid ≡ record old { off = None } → StartsDisks disks ids mid told new → StartsUp ids old told new
starts_up ids old mid new told disks is there taken runs plain stands down = by plain.off refl stands.off
  where
    Came : PlainNode × Told → Type 0
    Came x = NodeMatch new x.0 × (told ≡ x.1) × (node_number new ≡ node_number old) × IsBare new

    by : (o : Option (List Book)) → plain.off ≡ o → OffStands old o → Came (start_if (node_number old) ids plain o)
    by None e off = let no : false ≡ true = sym (ap is_some e) ∙ down in cc
    by (Some books) e off =
        let are : AreBooks disks books = both old.off _ _ (AreBooks disks books) there (λ d items bear. subst (λ ds. AreBooks ds books) items bear) is off.bear in
        let went = runs plain books are (subst (λ (x : ScriptNode). NodeMatch x (record plain { off = None })) (sym taken) up) (subst IsBare (sym taken) (record { peers = off.peers; dials = off.dials })) in
        subst (λ (x : PlainNode). Came (start_books (node_number old) ids books x)) (λ i. record plain { off = sym e i }) (
          subst (λ m. NodeMatch new (start_books m ids books (record plain { off = Some books })).0) (ap node_number taken) went.0,
          went.1 ∙ ap (λ m. (start_books m ids books (record plain { off = Some books })).1) (ap node_number taken),
          went.2 ∙ ap node_number taken,
          went.3,
        )
      where
        up : NodeMatch (record old { off = None }) (record plain { off = None })
        up = record { slots = stands.slots; shelves = stands.shelves; made = stands.made; clock = stands.clock; clients = stands.clients; bases = stands.bases; arm = stands.arm; off = refl }
