-- what calls make of a node that is kept, and of the plain one that it stands for
use Rattle.std.proofs.Common.{◌≡◌, ℕ, Bool, true, false, List, refl, sym, ap, ◌∙◌, subst, Option, Some, None, is_some}
use Rattle.std.specs.Prelude.{◌==◌, ◌&&◌, if◌then◌else◌, IfSome}
use Rattle.std.specs.Option.{option_map}
use Rattle.std.proofs.lemmas.Bool.{eqb-true}
use Rattle.slab.specs.Slab.{Slab, get}
use Rattle.disk_journals.specs.Books.{Book}
use Rattle.disk_journals.specs.Devices.{fuse_device}
use Rattle.disk_journals.specs.Stands.{ShelvesStand}
use Rattle.vb_types.specs.declared.journal.FlushPart.{FlushPart}
use Rattle.vb_calls.specs.Jobs.{RanJob, after_job}
use Rattle.vb_calls.specs.Shelves.{Shelves}
use Rattle.vb_calls.proofs.JobReadings.{ComesTo}
use Rattle.node_core.specs.declared.conn.Conn.{Conn}
use Rattle.node_core.specs.Flushing.{FlushResult, flush_at}
use Rattle.node_world.proofs.RoleJobs.{called_quiet}
use Rattle.node_world.proofs.Shelved.{MemAsks, known_job, same_shelves}
use Rattle.vb_calls.specs.declared.calls.VbAnswer.{VbAnswer}
use Rattle.vb_calls.specs.declared.calls.VbAnswer.TheVariants as vb_answer
use Rattle.vb_calls.specs.declared.calls.VbCall.TheVariants as call
use Rattle.vb_calls.specs.declared.calls.VbReply.{VbReply}
use Rattle.vb_calls.specs.Programs.{Prog, after, alone_step}
use Rattle.vb_calls.proofs.Readings.{alone_after}
use Rattle.vb_calls.specs.State.{Plain}
use Rattle.vb_calls.specs.States.{States, states_step, call_at, with_vb_at}
use Rattle.vbucket.specs.declared.vb_map.VbSlot.{VbSlot}
use Rattle.vbucket.specs.Rows.{row_at}
use Rattle.vbucket.specs.Stands.{slot_number, has_slot, SlotStands, SlotsStand}
use Rattle.node_core.specs.declared.admin.AdminCall.{AdminCall}
use Rattle.node_core.specs.declared.admin.AdminCall.TheVariants as admin
use Rattle.node_core.specs.declared.out.NodeOut.{NodeOut}
use Rattle.node_core.specs.Dials.{KeptDial}
use Rattle.node_core.specs.Peers.{KeptPeer}
use Rattle.node_core.specs.Admin.{AdminResult, admin_call, admin_result, seal_result, show_result, log_result, stat_result, trim_result, admin_job}
use Rattle.node_core.specs.Outcomes.{Administered, Settles, Wrote, value_at}
use Rattle.node_core.specs.Outs.{admin_out, dial_ended, flush_by}
use Rattle.node_world.specs.declared.script_node.ScriptNode.{ScriptNode}
use Rattle.node_world.specs.declared.told.Told.{Told}
use Rattle.node_world.specs.Ends.{peer_under, dial_under, KeepsEnds, kept_client_ended, kept_peer_ended, with_clients_told, TellsEnds, Carries, IsThere}
use Rattle.node_world.specs.Lines.{out_told, was_there}
use Rattle.node_world.specs.Nodes.{PlainNode, flush_here, with_kept, with_states}
use Rattle.node_world.specs.Stands.{MemNode, client_part, peer_part, NodeMatch, OffStands, node_number}
use Rattle.node_world.specs.Turns.{KeepsRole, called_at, admin_line}
use Rattle.node_world.proofs.OfBase.{bases_told}
use Rattle.node_world.proofs.Conns.{told_clients, told_peers, untold_clients, untold_peers, clients_told}

-- the node with another inside
abbrev pub inside : ScriptNode → MemNode → ScriptNode
inside seat node = record seat { node = node }

same_items : {A : Type 0} (P : A → Type 0) (old new : Option A) → new ≡ old → IfSome old P → IfSome new P
same_items P old new same bear = subst (λ o. IfSome o P) (sym same) bear

-- the disks of a node that is down stay, where no end of a link comes to be
pub off_stays : (old new : ScriptNode) (o : Option (List Book)) → new.off ≡ old.off → ((key : ℕ) → peer_under old key ≡ None → peer_under new key ≡ None)
    → ((v : ℕ) → dial_under old v ≡ None → dial_under new v ≡ None) → OffStands old o → OffStands new o
off_stays old new None same peers dials off = same ∙ off
off_stays old new (Some books) same peers dials off = record {
  there = ap is_some same ∙ off.there;
  bear = same_items _ old.off new.off same off.bear;
  peers = λ key. peers key (off.peers key);
  dials = λ v. dials v (off.dials v);
}

-- where all ends stay
pub off_kept : (old new : ScriptNode) (o : Option (List Book)) → new.off ≡ old.off → KeepsEnds old new → OffStands old o → OffStands new o
off_kept old new o same keeps = off_stays old new o same (λ key none. keeps.peers key ∙ none) (λ v none. keeps.dials v ∙ none)

-- a node that is running has no disks beside its journals
pub off_up : (old new : ScriptNode) (o : Option (List Book)) → new.off ≡ old.off → o ≡ None → OffStands old o → OffStands new o
off_up old new None same up off = same ∙ off
off_up old new (Some books) same up off = cc

-- so it is with a node that has a peer, or a dial
pub peer_is_up : (node : ScriptNode) (o : Option (List Book)) (key : ℕ) (kept : KeptPeer) → peer_under node key ≡ Some kept → OffStands node o → o ≡ None
peer_is_up node None key kept has off = refl
peer_is_up node (Some books) key kept has off = let no : Some kept ≡ None = sym has ∙ off.peers key in cc

pub dial_is_up : (node : ScriptNode) (o : Option (List Book)) (v : ℕ) (kept : KeptDial) → dial_under node v ≡ Some kept → OffStands node o → o ≡ None
dial_is_up node None v kept has off = refl
dial_is_up node (Some books) v kept has off = let no : Some kept ≡ None = sym has ∙ off.dials v in cc

-- a plain node is running exactly where the one that is kept is
pub plain_up : (node : ScriptNode) (plain : PlainNode) → NodeMatch node plain → is_some plain.off ≡ is_some node.off
plain_up node plain stands = by plain.off stands.off
  where
    by : (o : Option (List Book)) → OffStands node o → is_some o ≡ is_some node.off
    by None off = sym (ap is_some off)
    by (Some books) off = sym off.there

-- a call that leaves its vBucket as it was
pub unchanged : (slots : List VbSlot) (states : States) (v : ℕ) (vb : Plain) → states v ≡ Some vb → SlotsStand slots (with_vb_at states v vb) → SlotsStand slots states
unchanged slots states v vb there stands = λ u. by u (u == v) refl (stands u)
  where
    by : (u : ℕ) (b : Bool) → (u == v) ≡ b → SlotStands (row_at slot_number u slots) (if b then Some vb else states u) → SlotStands (row_at slot_number u slots) (states u)
    by u true e s = subst (SlotStands (row_at slot_number u slots)) (sym there ∙ ap states (sym (eqb-true u v e))) s
    by u false e s = s

-- a node whose vBuckets and journals stand for these now, and whose clients were told
pub with_told : (v : ℕ) (ended : Option (List ℕ)) (old : ScriptNode) (node : MemNode) (plain : PlainNode) (states : States) (held : Shelves) → SlotsStand node.vbs states → ShelvesStand fuse_device node.disks held
    → ((key : ℕ) → client_part (get node.conns key) ≡ option_map (kept_client_ended v ended) (client_part (get old.node.conns key)))
    → OffStands (inside old node) plain.off → NodeMatch old plain → NodeMatch (inside old node) (with_clients_told v ended (with_kept plain (states, held)))
with_told v ended old node plain states held slots shelves told off stands = record {
  slots = slots;
  shelves = shelves;
  made = stands.made;
  clock = stands.clock;
  clients = clients_told v ended old.clients old.node.conns node.conns plain.clients told stands.clients;
  bases = bases_told v ended old.bases plain.clients stands.bases;
  arm = stands.arm;
  off = off;
}

-- whose clients are as before
pub with_both : (old : ScriptNode) (node : MemNode) (plain : PlainNode) (states : States) (held : Shelves) → SlotsStand node.vbs states → ShelvesStand fuse_device node.disks held → ((key : ℕ) → client_part (get node.conns key) ≡ client_part (get old.node.conns key))
    → OffStands (inside old node) plain.off → NodeMatch old plain → NodeMatch (inside old node) (with_kept plain (states, held))
with_both old node plain states held slots shelves same off stands =
    with_told 0 None old node plain states held slots shelves (λ key. same key ∙ sym (untold_clients 0 (client_part (get old.node.conns key)))) off stands

-- the journals are as before
pub with_slots : (old : ScriptNode) (node : MemNode) (plain : PlainNode) (states : States) → SlotsStand node.vbs states → node.disks ≡ old.node.disks → ((key : ℕ) → client_part (get node.conns key) ≡ client_part (get old.node.conns key))
    → OffStands (inside old node) plain.off → NodeMatch old plain → NodeMatch (inside old node) (with_states plain states)
with_slots old node plain states slots disks same off stands = with_both old node plain states plain.shelves slots (same_shelves node old.node plain.shelves disks stands.shelves) same off stands

-- an operator's call, under no arm
abbrev pub Turned : ℕ → AdminCall → ScriptNode → NodeOut → ScriptNode → Type 0
Turned v asked old out new = (plain : PlainNode) → NodeMatch old plain →
    let (node, told) = called_at (node_number old) v asked plain in
    NodeMatch new (with_clients_told v told.ended node) × (out ≡ admin_out (dial_ended told.ended (dial_under old v)) told) × TellsEnds old new v told.ended

module _ (old : ScriptNode) (v : ℕ) (asked : AdminCall) (out : NodeOut) (node : MemNode) (went : Administered (alone_step SlotsStand) MemAsks v asked old.node out node) where
  abbrev n : ℕ
  n = node_number old

  tells : TellsEnds old (inside old node) v went.told.ended
  tells = record {
    number = ap (λ (x : MemNode). x.number) went.rest;
    peers = λ key. ap peer_part (went.conns key) ∙ told_peers v went.told.ended (get old.node.conns key);
    dials = went.dials;
  }

  clients_hear : (key : ℕ) → client_part (get node.conns key) ≡ option_map (kept_client_ended v went.told.ended) (client_part (get old.node.conns key))
  clients_hear key = ap client_part (went.conns key) ∙ told_clients v went.told.ended (get old.node.conns key)

  module _ (plain : PlainNode) (stands : NodeMatch old plain) where
    abbrev came : (States × Shelves) × AdminResult
    came = after_job (admin_job n v asked) plain.vbs plain.shelves

    ran : ComesTo SlotsStand (ShelvesStand fuse_device) went.told node.vbs node.disks came
    ran = known_job (admin_job n v asked) old.node went.told node went.ran plain.vbs stands.slots plain.shelves stands.shelves

    after_call : NodeMatch (inside old node) (with_clients_told v came.1.ended (called_at n v asked plain).0)
    after_call = subst (λ (t : AdminResult). NodeMatch (inside old node) (with_clients_told v t.ended (called_at n v asked plain).0)) ran.0 (with_told v went.told.ended old node plain came.0.0 came.0.1 ran.1 ran.2 clients_hear off stands)
      where
        gone : (b : Bool) (d : Option KeptDial) → d ≡ None → (if b then None else d) ≡ None
        gone true d e = refl
        gone false d e = e

        off : OffStands (inside old node) plain.off
        off = off_stays old (inside old node) plain.off refl (λ key none. tells.peers key ∙ ap (option_map (kept_peer_ended v went.told.ended)) none)
            (λ u none. tells.dials u ∙ gone (is_some went.told.ended && u == v) (dial_under old u) none) stands.off

  pub turns : Turned v asked old out (inside old node)
  turns plain stands = (
    after_call plain stands,
    went.said ∙ ap (λ (t : AdminResult). admin_out (dial_ended t.ended (dial_under old v)) t) (ran plain stands).0,
    subst (λ (t : AdminResult). TellsEnds old (inside old node) v t.ended) (ran plain stands).0 tells,
  )

-- a call that changes no role ends no stream
quiet_seal : (a : VbAnswer) → (seal_result a).ended ≡ None
quiet_seal (vb_answer.Flag sealed) = refl
quiet_seal other = refl

quiet_trim : (a : VbAnswer) → (trim_result a).ended ≡ None
quiet_trim (vb_answer.Num removed) = refl
quiet_trim other = refl

quiet_show : (n v : ℕ) (a : VbAnswer) → (show_result n v a).ended ≡ None
quiet_show n v (vb_answer.Shown role uuid ss se at image) = refl
quiet_show n v other = refl

quiet_stat : (n v : ℕ) (a : VbAnswer) → (stat_result n v a).ended ≡ None
quiet_stat n v (vb_answer.Stat windows items cursors saved high) = refl
quiet_stat n v other = refl

quiet_log : (n v : ℕ) (a : VbAnswer) → (log_result n v a).ended ≡ None
quiet_log n v (vb_answer.Logged log) = refl
quiet_log n v other = refl

quiet : (n v : ℕ) (asked : AdminCall) → KeepsRole asked → (reply : Option VbReply) → (admin_result n v asked reply).ended ≡ None
quiet n v asked k None = refl
quiet n v (admin.Promote uuid) k (Some reply) = absurd k
quiet n v admin.Follow k (Some reply) = absurd k
quiet n v admin.Dead k (Some reply) = absurd k
quiet n v admin.Seal k (Some reply) = quiet_seal reply.answer
quiet n v admin.Trim k (Some reply) = quiet_trim reply.answer
quiet n v admin.Stat k (Some reply) = quiet_stat n v reply.answer
quiet n v admin.Show k (Some reply) = quiet_show n v reply.answer
quiet n v admin.Log k (Some reply) = quiet_log n v reply.answer

-- so all ends stay
untold : (old new : ScriptNode) (v : ℕ) (ended : Option (List ℕ)) → ended ≡ None → TellsEnds old new v ended → KeepsEnds old new
untold old new v ended none tells = record {
  number = tells.number;
  peers = λ key. tells.peers key ∙ ap (λ e. option_map (kept_peer_ended v e) (peer_under old key)) none ∙ untold_peers v (peer_under old key);
  dials = λ u. tells.dials u ∙ ap (λ (e : Option (List ℕ)). if is_some e && u == v then None else dial_under old u) none;
}

module _ (old : ScriptNode) (v : ℕ) (asked : AdminCall) (out : NodeOut) (node : MemNode) (went : Administered (alone_step SlotsStand) MemAsks v asked old.node out node) (keeps : KeepsRole asked) where
  -- `seal`, `trim`, `stat`, `log` and `show`
  pub carries_call : Carries (admin_line (node_number old) v asked) old (out_told out) (inside old node)
  carries_call plain stands =
      let (alike, said, tells) = turns old v asked out node went plain stands in
      let none = ap (λ (x : PlainNode × AdminResult). x.1.ended) (called_quiet (node_number old) v asked plain keeps) ∙ quiet (node_number old) v asked keeps (states_step plain.vbs v (admin_call asked)).1 in (
        subst (λ e. NodeMatch (inside old node) (with_clients_told v e (called_at (node_number old) v asked plain).0)) none alike,
        ap out_told said ∙ ap (λ e. out_told (admin_out (dial_ended e (dial_under old v)) (called_at (node_number old) v asked plain).1)) none,
        untold old (inside old node) v (called_at (node_number old) v asked plain).1.ended none tells,
      )

-- whether there is a vBucket
module _ (old : ScriptNode) (v : ℕ) (out : NodeOut) (node : MemNode) (went : Administered (alone_step SlotsStand) MemAsks v admin.Log old.node out node) where
  pub is_there : IsThere v old (was_there out.answer) (inside old node)
  is_there = (
    λ plain stands.
        let (alike, told, ends) = carries_call old v admin.Log out node went tt plain stands in
        by plain (plain.vbs v) refl alike (ap (λ (t : Told). was_there t.answer) told),
    untold old (inside old node) v went.told.ended ended (tells old v admin.Log out node went),
    refl,
  )
    where
      ended : went.told.ended ≡ None
      ended = let (reply, mid, stepped, ends) = went.ran in ap (λ (t : AdminResult). t.ended) ends.0 ∙ quiet (node_number old) v admin.Log tt reply

      by : (plain : PlainNode) (o : Option Plain) → plain.vbs v ≡ o → NodeMatch (inside old node) (with_states plain (call_at plain.vbs v call.Log o).0)
          → was_there out.answer ≡ was_there (admin_result (node_number old) v admin.Log (call_at plain.vbs v call.Log o).1).answer
          → NodeMatch (inside old node) plain × (was_there out.answer ≡ is_some o)
      by plain None there alike said = (record { slots = alike.slots; shelves = alike.shelves; made = alike.made; clock = alike.clock; clients = alike.clients; bases = alike.bases; arm = alike.arm; off = alike.off }, said)
      by plain (Some vb) there alike said = (
        record {
          slots = unchanged node.vbs plain.vbs v vb there alike.slots;
          shelves = alike.shelves;
          made = alike.made;
          clock = alike.clock;
          clients = alike.clients;
          bases = alike.bases;
          arm = alike.arm;
          off = alike.off;
        },
        said,
      )

-- the slots have a vBucket exactly where the plain node has it
there_in_both : (slot : Option VbSlot) (vb : Option Plain) → SlotStands slot vb → is_some slot ≡ is_some vb
there_in_both None None stands = refl
there_in_both (Some slot) (Some vb) stands = refl
there_in_both None (Some vb) stands = absurd stands
there_in_both (Some slot) None stands = absurd stands

-- a node after a step of writing a vBucket down, whose outcomes are still to be posted
abbrev pub Flushes : ℕ → FlushPart → ScriptNode → NodeOut → ScriptNode → Type 0
Flushes v part old out new = (plain : PlainNode) → NodeMatch old plain →
    let (kept, told) = after_job (flush_here (node_number old) v part plain) plain.vbs plain.shelves in
    NodeMatch new (with_kept plain kept) × (flush_by out ≡ told) × KeepsEnds old new

module _ (old : ScriptNode) (v : ℕ) (part : FlushPart) (out : NodeOut) (node : MemNode) (went : Wrote (alone_step SlotsStand) MemAsks has_slot v part old.node out node) where
  pub flushes : Flushes v part old out (inside old node)
  flushes plain stands =
      let job = flush_here (node_number old) v part plain in
      let came : (States × Shelves) × FlushResult = after_job job plain.vbs plain.shelves in
      let there : has_slot old.node.vbs v ≡ is_some (plain.vbs v) = there_in_both (row_at slot_number v old.node.vbs) (plain.vbs v) (stands.slots v) in
      let went_on : RanJob (alone_step SlotsStand) MemAsks job old.node.vbs old.node.disks went.told node.vbs node.disks =
      subst (λ b. RanJob (alone_step SlotsStand) MemAsks (flush_at (node_number old) v part b) old.node.vbs old.node.disks went.told node.vbs node.disks) there went.ran in
      let ran = known_job job old.node went.told node went_on plain.vbs stands.slots plain.shelves stands.shelves in (
        with_both old node plain came.0.0 came.0.1 ran.1 ran.2 (λ key. ap (λ (s : Slab Conn). client_part (get s key)) conns) (off_kept old (inside old node) plain.off refl keeps stands.off) stands,
        ap flush_by went.said ∙ ran.0,
        keeps,
      )
    where
      conns : node.conns ≡ old.node.conns
      conns = ap (λ (x : MemNode). x.conns) went.rest

      keeps : KeepsEnds old (inside old node)
      keeps = record {
        number = ap (λ (x : MemNode). x.number) went.rest;
        peers = λ key. ap (λ (s : Slab Conn). peer_part (get s key)) conns;
        dials = λ u. ap (λ (x : MemNode). value_at x.dials u) went.rest;
      }

-- a node after a call that let a vBucket resolve durable writes, which are still to be posted
abbrev pub SettlesBy : (PlainNode → Prog FlushResult) → ScriptNode → NodeOut → ScriptNode → Type 0
SettlesBy called old out new = (plain : PlainNode) → NodeMatch old plain →
    let (states, told) = after (called plain) plain.vbs in
    NodeMatch new (with_states plain states) × (flush_by out ≡ told) × KeepsEnds old new

-- only the vBuckets are others
module _ (old : ScriptNode) (node : MemNode) (rest : node ≡ record old.node { vbs = node.vbs }) where
  pub vbs_keep : KeepsEnds old (inside old node)
  vbs_keep = record {
    number = ap (λ (x : MemNode). x.number) rest;
    peers = λ key. ap (λ (x : MemNode). peer_part (get x.conns key)) rest;
    dials = λ u. ap (λ (x : MemNode). value_at x.dials u) rest;
  }

  pub vbs_match : (plain : PlainNode) (states : States) → SlotsStand node.vbs states → NodeMatch old plain → NodeMatch (inside old node) (with_states plain states)
  vbs_match plain states slots stands =
      with_slots old node plain states slots (ap (λ (x : MemNode). x.disks) rest) (λ key. ap (λ (x : MemNode). client_part (get x.conns key)) rest) (off_kept old (inside old node) plain.off refl vbs_keep stands.off) stands

-- so it is after such a call
pub settles : (called : PlainNode → Prog FlushResult) (old : ScriptNode) (asked : Prog FlushResult) (out : NodeOut) (node : MemNode) → ((plain : PlainNode) → NodeMatch old plain → called plain ≡ asked)
    → Settles (alone_step SlotsStand) asked old.node out node → SettlesBy called old out (inside old node)
settles called old asked out node same went plain stands =
    subst (λ (prog : Prog FlushResult). NodeMatch (inside old node) (with_states plain (after prog plain.vbs).0) × (flush_by out ≡ (after prog plain.vbs).1) × KeepsEnds old (inside old node)) (sym (same plain stands))
    (let known = alone_after SlotsStand asked old.node.vbs went.told node.vbs went.ran plain.vbs stands.slots in (
      vbs_match old node went.rest plain (after asked plain.vbs).0 known.1 stands,
      ap flush_by went.said ∙ known.0,
      vbs_keep old node went.rest,
    ))
