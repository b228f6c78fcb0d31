-- vBuckets that are made, or not
use Rattle.std.proofs.Common.{◌≡◌, ℕ, ◌+◌, Bool, true, false, List, [], ◌∷◌, ◌++◌, refl, sym, ap, ◌∙◌, subst, Option, Some, None, is_some}
use Rattle.std.specs.Prelude.{◌==◌, if◌then◌else◌, Result, Ok, Err, OnOk}
use Rattle.std.proofs.lemmas.Bool.{eqb-true}
use Rattle.vb_events.specs.declared.event.Cause.{Cause}
use Rattle.vb_events.specs.declared.event.Answer.TheVariants as line
use Rattle.vb_events.specs.declared.event.Cause.TheVariants as cause
use Rattle.vb_types.specs.declared.journal.Record.{Record}
use Rattle.vb_types.specs.declared.journal.Record.TheVariants.{State}
use Rattle.vb_types.specs.declared.role.Role.{Role}
use Rattle.vb_types.specs.declared.role.Role.TheVariants as role
use Rattle.disk_journals.specs.Devices.{fuse_device}
use Rattle.disk_journals.specs.Seen.{Seen, has_seen, seen_at}
use Rattle.disk_journals.specs.Stands.{IsBlank, ShelvesStand, StandsThere, blank_under}
use Rattle.disk_journals.proofs.UnderArms.{armed_plain}
use Rattle.vb_calls.specs.Flushes.{wrote_of}
use Rattle.vb_calls.specs.Shelves.{Append, DiskFailed, Fate, Shelf, Shelves, Stood, WasClosed, blank_shelf, shelves_step, with_shelf_at}
use Rattle.vb_calls.specs.Programs.{alone_made}
use Rattle.vb_calls.specs.State.{Plain, first_log, new_vb}
use Rattle.vb_calls.specs.States.{make_at, with_vb_at}
use Rattle.vb_disk.specs.Fused.{FuseStorage}
use Rattle.vb_disk.specs.Outcomes.{mem_left}
use Rattle.vb_disk.specs.declared.fuse.Fuse.TheVariants.{Off}
use Rattle.vb_disk.specs.declared.made.Outcome.{Outcome}
use Rattle.vb_disk.specs.declared.made.Outcome.TheVariants as outcome
use Rattle.vbucket.specs.Stands.{SlotsStand}
use Rattle.node_core.specs.declared.out.NodeOut.{NodeOut}
use Rattle.node_core.specs.Admin.{noted_answer}
use Rattle.node_core.specs.Outcomes.{value_at, Made, MadeIf}
use Rattle.node_core.specs.Outs.{made_out}
use Rattle.node_world.specs.declared.script_node.ScriptNode.{ScriptNode}
use Rattle.node_world.specs.declared.told.Told.{Told}
use Rattle.node_world.specs.Arms.{lifted, placed}
use Rattle.node_world.specs.Ends.{KeepsEnds, Carries, IsThere, AddsShelf, LiftsArm, PlacesArm}
use Rattle.node_world.specs.Lines.{out_told, counted, made_unless}
use Rattle.node_world.specs.Nodes.{PlainNode, refusal, first_cause, refused_or, limit_causes, uuid_causes, shelf_or_blank, vb_at, vb_made, replica_at, with_disk}
use Rattle.slab.specs.Slab.{get}
use Rattle.node_world.specs.Stands.{MemNode, peer_part, ClientsStand, NodeMatch, node_number}
use Rattle.node_world.proofs.Armed.{both_keep, rearmed, with_journals}
use Rattle.node_world.proofs.Nodes.{inside, off_kept, off_stays}
use Rattle.node_world.proofs.Shelved.{MemAsks, MemJournals}

-- a line by what another says of the same node
pub carried_as : (f g : PlainNode → PlainNode × Told) (old : ScriptNode) (told : Told) (new : ScriptNode) → ((plain : PlainNode) → NodeMatch old plain → f plain ≡ g plain) → Carries f old told new → Carries g old told new
carried_as f g old told new same went plain stands =
    subst (λ (x : PlainNode × Told). NodeMatch new x.0 × (told ≡ x.1) × KeepsEnds old new) (same plain stands) (went plain stands)

-- a vBucket is not made, since there is one of its number
pub unmade : (old new : ScriptNode) (there : Bool) (refused : Option Cause) (v : ℕ) (role : Role) (uuid : ℕ) → there ≡ true → IsThere v old there new
    → Carries (made_unless refused (node_number old) v role uuid) old (refusal cause.VbExists) new
unmade old new there refused v role uuid is_there asked plain stands =
    let (alike, is) = asked.0 plain stands in
    subst (λ b. Came (if b then (plain, refusal cause.VbExists) else refused_or refused plain (vb_made (node_number old) v role uuid plain))) (sym is_there ∙ is) (alike, refl, asked.1)
  where
    Came : PlainNode × Told → Type 0
    Came x = NodeMatch new x.0 × (refusal cause.VbExists ≡ x.1) × KeepsEnds old new

-- or for another cause
pub unmade_for : (old new : ScriptNode) (there : Bool) (why : Cause) (v : ℕ) (role : Role) (uuid : ℕ) → there ≡ false → IsThere v old there new
    → Carries (made_unless (Some why) (node_number old) v role uuid) old (refusal why) new
unmade_for old new there why v role uuid is_none asked plain stands =
    let (alike, is) = asked.0 plain stands in
    subst (λ b. Came (if b then (plain, refusal cause.VbExists) else (plain, refusal why))) (sym is_none ∙ is) (alike, refl, asked.1)
  where
    Came : PlainNode × Told → Type 0
    Came x = NodeMatch new x.0 × (refusal why ≡ x.1) × KeepsEnds old new

-- a disk is added for a vBucket that has none
pub adds_shelf : (old : ScriptNode) (v : ℕ) (disks : MemJournals) → ((shelves : Shelves) → ShelvesStand fuse_device old.node.disks shelves → ShelvesStand fuse_device disks (with_shelf_at shelves v (shelf_or_blank (shelves v))))
    → AddsShelf v old (with_journals old disks)
adds_shelf old v disks added = (
  λ plain stands. rearmed old disks old.arm plain.arm plain (with_shelf_at plain.shelves v (shelf_or_blank (plain.shelves v))) (added plain.shelves stands.shelves) stands.arm stands,
  record { number = refl; peers = λ key. refl; dials = λ u. refl },
  refl,
)

-- what a call that went well gives is carried on
pub on_ok : {A B T E : Type 0} (r : Result T E) → (A → B) → OnOk r A → OnOk r B
on_ok (Ok x) f a = f a
on_ok (Err e) f a = tt

-- a new disk in memory, under no arm
abbrev pub new_disk : FuseStorage
new_disk = record { disk = record { bytes = 0 ∷ []; ready = []; past = [] }; fuse = Off; failures = 0 }

-- each crash leaves it as it is
new_left : (out : Outcome) → mem_left new_disk.disk out ≡ Some (0 ∷ [])
new_left outcome.Old = refl
new_left outcome.New = refl
new_left (outcome.Fill byte) = refl

pub new_disk_added : (old : ScriptNode) (v : ℕ) (before after : MemJournals) (disk : FuseStorage) → before ≡ old.node.disks → disk ≡ new_disk → has_seen before v ≡ false
    → (IsBlank fuse_device disk → (shelves : Shelves) → ShelvesStand fuse_device before shelves → ShelvesStand fuse_device after (with_shelf_at shelves v (blank_under disk.fuse)))
    → AddsShelf v old (with_journals old after)
new_disk_added old v before after disk same is none added = adds_shelf old v after (λ shelves stand.
    let standing : ShelvesStand fuse_device before shelves = subst (λ disks. ShelvesStand fuse_device disks shelves) (sym same) stand in
    subst (λ (s : Shelf). ShelvesStand fuse_device after (with_shelf_at shelves v s)) (sym (blank (seen_at before v) (shelves v) none (standing v)))
    (subst (λ (d : FuseStorage). ShelvesStand fuse_device after (with_shelf_at shelves v (blank_under d.fuse))) is
    (added (subst (IsBlank fuse_device) (sym is) (record { told = refl; settled = new_left })) shelves standing)))
  where
    blank : (o : Option (Seen FuseStorage)) (s : Option Shelf) → is_some o ≡ false → StandsThere fuse_device o s → shelf_or_blank s ≡ blank_shelf
    blank o None e h = refl
    blank None (Some shelf) e h = absurd h
    blank (Some seen) (Some shelf) e h = cc

-- it has one already
pub has_one : (old : ScriptNode) (v : ℕ) (before : MemJournals) → before ≡ old.node.disks → has_seen before v ≡ true → AddsShelf v old (with_journals old before)
has_one old v before same has = adds_shelf old v before (λ shelves stand.
    let standing : ShelvesStand fuse_device before shelves = subst (λ disks. ShelvesStand fuse_device disks shelves) (sym same) stand in
    subst (ShelvesStand fuse_device before) (sym (again shelves (shelves v) refl (by (seen_at before v) (shelves v) has (standing v)))) standing)
  where
    by : (o : Option (Seen FuseStorage)) (s : Option Shelf) → is_some o ≡ true → StandsThere fuse_device o s → is_some s ≡ true
    by None s e h = cc
    by (Some seen) None e h = absurd h
    by (Some seen) (Some shelf) e h = refl

    again : (shelves : Shelves) (s : Option Shelf) → shelves v ≡ s → is_some s ≡ true → with_shelf_at shelves v (shelf_or_blank (shelves v)) ≡ shelves
    again shelves None e some = cc
    again shelves (Some shelf) e some = λ i u. at u (u == v) refl i
      where
        at : (u : ℕ) (b : Bool) → (u == v) ≡ b → (if b then Some (shelf_or_blank (shelves v)) else shelves u) ≡ shelves u
        at u true same = ap (λ s. Some (shelf_or_blank s)) e ∙ sym e ∙ ap shelves (sym (eqb-true u v same))
        at u false other = refl

-- how many were made is counted
counted_node : (node : ScriptNode) (plain : PlainNode) (m k : ℕ) → m ≡ k → NodeMatch node plain → NodeMatch (record node { made = m }) (record plain { made = k })
counted_node node plain m k same stands = record {
  slots = stands.slots;
  shelves = stands.shelves;
  made = same;
  clock = stands.clock;
  clients = stands.clients;
  bases = stands.bases;
  arm = stands.arm;
  off = off_stays node (record node { made = m }) plain.off refl (λ key none. none) (λ v none. none) stands.off;
}

-- one that was made is counted, whatever became of its first record
well_counted : (fate : Fate) (m : ℕ) → counted (noted_answer (wrote_of fate) line.Ok) m ≡ m + 1
well_counted Stood m = refl
well_counted WasClosed m = refl
well_counted DiskFailed m = refl

-- a vBucket is made: there is none of its number
module _ (old mid ready armed left : ScriptNode) (there : Bool) (v : ℕ) (role : Role) (uuid : ℕ) (out : NodeOut) (node : MemNode) (no : there ≡ false) (asked : IsThere v old there mid) (adds : AddsShelf v mid ready)
    (placing : PlacesArm v ready armed) (went : Made (alone_made SlotsStand) MemAsks v role uuid armed.node out node) (lifting : LiftsArm v (inside armed node) left) where
  abbrev n : ℕ
  n = node_number old

  abbrev fresh : Plain
  fresh = new_vb n role uuid

  abbrev what : Record
  what = State role (first_log role uuid)

  abbrev new : ScriptNode
  new = record left { made = counted out.answer left.made }

  kept_so_far : KeepsEnds old armed
  kept_so_far = both_keep old ready armed (both_keep old mid ready asked.1 adds.1) placing.1

  number : armed.node.number ≡ n
  number = kept_so_far.number

  stays : KeepsEnds armed (inside armed node)
  stays = record {
    number = ap (λ (x : MemNode). x.number) went.rest;
    peers = λ key. ap (λ (x : MemNode). peer_part (get x.conns key)) went.rest;
    dials = λ u. ap (λ (x : MemNode). value_at x.dials u) went.rest;
  }

  ends : KeepsEnds old left
  ends = both_keep old (inside armed node) left (both_keep old armed (inside armed node) kept_so_far stays) lifting.1

  pub makes : Carries (made_unless None n v role uuid) old (out_told out) new
  makes plain stands = subst Came (ap (λ b. if b then (plain, refusal cause.VbExists) else vb_made n v role uuid plain) (sym none_there)) (
    counted_node left (lifted v bare) (counted out.answer left.made) (plain.made + 1) counts (lifting.0 bare stands_bare),
    ap out_told said,
    record { number = ends.number; peers = ends.peers; dials = ends.dials },
  )
    where
      Came : PlainNode × Told → Type 0
      Came x = NodeMatch new x.0 × (out_told out ≡ x.1) × KeepsEnds old new

      none_there : is_some (plain.vbs v) ≡ false
      none_there = sym (asked.0 plain stands).1 ∙ no

      nothing : (o : Option Plain) → is_some o ≡ false → o ≡ None
      nothing None e = refl
      nothing (Some vb) e = cc

      none : plain.vbs v ≡ None
      none = nothing (plain.vbs v) none_there

      -- the node with its disk, under the arm
      waiting : PlainNode
      waiting = placed v (with_disk plain v)

      waits : NodeMatch armed waiting
      waits = placing.0 (with_disk plain v) (adds.0 plain (asked.0 plain stands).0)

      came : Shelves × Fate
      came = shelves_step waiting.shelves v (Append what)

      -- with the vBucket, which is not counted yet
      bare : PlainNode
      bare = record waiting { vbs = with_vb_at plain.vbs v fresh; shelves = came.0 }

      made : (went.fresh ≡ true) × SlotsStand node.vbs (with_vb_at plain.vbs v fresh)
      made = subst (λ o. (went.fresh ≡ (make_at plain.vbs v fresh o).1) × SlotsStand node.vbs (make_at plain.vbs v fresh o).0) none
          (subst (λ k. (went.fresh ≡ (make_at plain.vbs v (new_vb k role uuid) (plain.vbs v)).1) × SlotsStand node.vbs (make_at plain.vbs v (new_vb k role uuid) (plain.vbs v)).0) number (went.made_if plain.vbs waits.slots))

      noted : (fate : Fate) × MemAsks armed.node.disks v (Append what) fate node.disks × (out ≡ made_out armed.node.number v role uuid (wrote_of fate))
      noted = subst (λ b. MadeIf MemAsks armed.node.number v role uuid b armed.node.disks out node.disks) made.0 went.noted

      asked_it : (noted.0 ≡ came.1) × ShelvesStand fuse_device node.disks came.0
      asked_it = armed_plain armed.node.disks v (Append what) noted.0 node.disks noted.1 waiting.shelves waits.shelves

      said : out ≡ made_out n v role uuid (wrote_of came.1)
      said = noted.2 ∙ (λ i. made_out (number i) v role uuid (wrote_of (asked_it.0 i)))

      stands_bare : NodeMatch (inside armed node) bare
      stands_bare = record {
        slots = made.1;
        shelves = asked_it.1;
        made = waits.made;
        clock = waits.clock;
        clients = subst (λ (x : MemNode). ClientsStand armed.clients x.conns plain.clients) (sym went.rest) waits.clients;
        bases = waits.bases;
        arm = waits.arm;
        off = off_kept armed (inside armed node) plain.off refl stays waits.off;
      }

      counts : counted out.answer left.made ≡ plain.made + 1
      counts = ap (λ (x : NodeOut). counted x.answer left.made) said ∙ well_counted came.1 left.made ∙ ap (λ m. m + 1) (lifting.2 ∙ waits.made)

-- the first cause is that there is one
either : {A : Type 0} (b : Bool) (rest : Option Cause) (node : A) (x : A × Told) → (if b then (node, refusal cause.VbExists) else refused_or rest node x) ≡ refused_or (if b then Some cause.VbExists else rest) node x
either true rest node x = refl
either false rest node x = refl

pub active_as : (uuids : List ℕ) (n v uuid : ℕ) (plain : PlainNode) (refused : Option Cause) → refused ≡ first_cause (limit_causes plain ++ uuid_causes uuids uuid) → made_unless refused n v role.Active uuid plain ≡ vb_at uuids n v uuid plain
active_as uuids n v uuid plain refused is =
    ap (λ r. made_unless r n v role.Active uuid plain) is
    ∙ either (is_some (plain.vbs v)) (first_cause (limit_causes plain ++ uuid_causes uuids uuid)) plain (vb_made n v role.Active uuid plain)

pub replica_as : (n v : ℕ) (plain : PlainNode) (refused : Option Cause) → refused ≡ first_cause (limit_causes plain) → made_unless refused n v role.Replica 0 plain ≡ replica_at n v plain
replica_as n v plain refused is =
    ap (λ r. made_unless r n v role.Replica 0 plain) is
    ∙ either (is_some (plain.vbs v)) (first_cause (limit_causes plain)) plain (vb_made n v role.Replica 0 plain)
