-- why lines are refused, in the words of the world, the earlier causes denied
use Rattle.std.specs.Prelude.{◌≡◌, ◌≢◌, ◌≤◌, ◌<◌, ◌+◌, ◌*◌, ℕ, ◌==◌, Bool, true, false, List, ◌∷◌, ◌++◌, length, Some, None, is_some, if◌then◌else◌}
use Rattle.std.specs.List.{list_any}
use Rattle.node_core.specs.Clients.{PlainClient}
use Rattle.disk_journals.specs.Arms.{opens_all, under}
use Rattle.durability.specs.Chains.{Members, named}
use Rattle.disk_journals.specs.Books.{Book}
use Rattle.node_core.specs.Loading.{active_ones}
use Rattle.script_text.specs.declared.verb.Verb.{Verb}
use Rattle.script_text.specs.declared.verb.Verb.TheVariants as verb
use Rattle.script_text.specs.declared.verb.VbVerb.TheVariants as vb_verb
use Rattle.script_text.specs.declared.verb.NodeVerb.TheVariants as node_verb
use Rattle.script_text.specs.declared.verb.LinkVerb.TheVariants as link_verb
use Rattle.script_text.specs.declared.verb.ClientVerb.TheVariants as client_verb
use Rattle.vb_events.specs.declared.event.Answer.{Answer}
use Rattle.vb_events.specs.declared.event.Answer.TheVariants as answer
use Rattle.vb_events.specs.declared.event.Cause.{Cause}
use Rattle.vb_events.specs.declared.event.Why.{Why}
use Rattle.vb_events.specs.declared.event.Cause.TheVariants as cause
use Rattle.vb_types.specs.declared.journal.Batch.{Batch}
use Rattle.vb_types.specs.declared.role.Role.TheVariants as role
use Rattle.vb_calls.specs.Shelves.{Shelf, Idle, Out, Stood, Written, fate_of}
use Rattle.vb_calls.specs.State.{Plain}
use Rattle.vb_calls.specs.Following.{log_lacks}
use Rattle.vb_disk.specs.declared.fuse.Fuse.{Fuse}
use Rattle.vb_disk.specs.declared.fuse.Fuse.TheVariants as fuse
use Rattle.vb_disk.specs.declared.made.Outcome.{Outcome}
use Rattle.vbucket.specs.Rows.{row_at}
use Rattle.node_world.specs.Links.{PlainLink, link_number, producer_node, consumer_node, feeds}
use Rattle.node_world.specs.Nodes.{PlainNode, shelf_or_blank}
use Rattle.node_world.specs.Pairing.{Differ, Each}
use Rattle.node_world.specs.World.{verb_step}
use Rattle.node_world.specs.Worlds.{PlainWorld}

-- a line at this world is answered so
abbrev pub AnsweredAs : PlainWorld → Answer → Verb → Type 0
AnsweredAs w answer line = (number : ℕ) → (verb_step w number line).1.answer ≡ answer

-- a line at this world is refused for this cause
abbrev pub RefusedFor : PlainWorld → Cause → Verb → Type 0
RefusedFor w why line = AnsweredAs w (answer.No why) line

-- a line at this world is answered with a number
abbrev pub Counts : PlainWorld → Verb → Type 0
Counts w line = (number : ℕ) → (count : ℕ) × ((verb_step w number line).1.answer ≡ answer.Number count)

-- a line at this world is not refused
abbrev pub IsDone : PlainWorld → Verb → Type 0
IsDone w line = (number : ℕ) (why : Cause) → (verb_step w number line).1.answer ≡ answer.No why → ⊥

-- a branch id was given before
abbrev pub IsGiven : PlainWorld → ℕ → Type 0
IsGiven w uuid = list_any (λ given. given == uuid) w.uuids ≡ true

-- and it was not
abbrev pub IsFree : PlainWorld → ℕ → Type 0
IsFree w uuid = list_any (λ given. given == uuid) w.uuids ≡ false

-- lines that name the node n, but for the one that makes it and the one that dials, where it is not made
pub record NoNode (w : PlainWorld) (n : ℕ) : Type 0 where
  pub vb_active : (v uuid : ℕ) → RefusedFor w cause.UnknownNode (verb.AtVb n v (vb_verb.MakeActive uuid))
  pub vb_replica : (v : ℕ) → RefusedFor w cause.UnknownNode (verb.AtVb n v vb_verb.MakeReplica)
  pub chain : (v : ℕ) (others : Members) → RefusedFor w cause.UnknownNode (verb.AtVb n v (vb_verb.Chain others))
  pub clock : (nanos : ℕ) → RefusedFor w cause.UnknownNode (verb.AtNode n (node_verb.Clock nanos))
  pub client : (c : ℕ) → RefusedFor w cause.UnknownNode (verb.AtClient n c client_verb.Open)
  pub bytes : (c : ℕ) (bytes : List ℕ) → RefusedFor w cause.UnknownNode (verb.AtClient n c (client_verb.Bytes bytes))
  pub hang : (c : ℕ) → RefusedFor w cause.UnknownNode (verb.AtClient n c client_verb.Hang)
  pub promote : (v uuid : ℕ) → RefusedFor w cause.UnknownNode (verb.AtVb n v (vb_verb.Promote uuid))
  pub follow : (v : ℕ) → RefusedFor w cause.UnknownNode (verb.AtVb n v vb_verb.Follow)
  pub dead : (v : ℕ) → RefusedFor w cause.UnknownNode (verb.AtVb n v vb_verb.Dead)
  pub seal : (v : ℕ) → RefusedFor w cause.UnknownNode (verb.AtVb n v vb_verb.Seal)
  pub trim : (v : ℕ) → RefusedFor w cause.UnknownNode (verb.AtVb n v vb_verb.Trim)
  pub take : (v : ℕ) → RefusedFor w cause.UnknownNode (verb.AtVb n v vb_verb.Take)
  pub save : (v : ℕ) → RefusedFor w cause.UnknownNode (verb.AtVb n v vb_verb.Save)
  pub done : (v : ℕ) → RefusedFor w cause.UnknownNode (verb.AtVb n v vb_verb.Done)
  pub tick : (v : ℕ) → RefusedFor w cause.UnknownNode (verb.AtVb n v vb_verb.Tick)
  pub stat : (v : ℕ) → RefusedFor w cause.UnknownNode (verb.AtVb n v vb_verb.Stat)
  pub log : (v : ℕ) → RefusedFor w cause.UnknownNode (verb.AtVb n v vb_verb.Log)
  pub show : (v : ℕ) → RefusedFor w cause.UnknownNode (verb.AtVb n v vb_verb.Show)
  pub stop : (call : ℕ) (out : Outcome) → RefusedFor w cause.UnknownNode (verb.AtNode n (node_verb.Stop call out))
  pub fail : (call : ℕ) → RefusedFor w cause.UnknownNode (verb.AtNode n (node_verb.Fail call))
  pub crash : (out : Outcome) → RefusedFor w cause.UnknownNode (verb.AtNode n (node_verb.Crash out))
  pub start : (uuids : List ℕ) → RefusedFor w cause.UnknownNode (verb.AtNode n (node_verb.Start uuids))

-- lines for the node n, where it is made, whether it is running or not
pub record AtMade (w : PlainWorld) (n : ℕ) : Type 0 where
  pub made : RefusedFor w cause.NodeExists (verb.Node n)
  pub stop : (call : ℕ) (out : Outcome) → AnsweredAs w answer.Ok (verb.AtNode n (node_verb.Stop call out))
  pub fail : (call : ℕ) → AnsweredAs w answer.Ok (verb.AtNode n (node_verb.Fail call))

-- ids for new branches: none is 0, none was given before, and none stands twice
pub record AreFree (w : PlainWorld) (uuids : List ℕ) : Type 0 where
  pub named : Each (λ uuid. uuid ≢ 0) uuids
  pub free : Each (IsFree w) uuids
  pub apart : Differ (λ one other. one ≢ other) uuids

-- none of so many device calls is the one that an arm hits
abbrev pub LiesBeyond : ℕ → Fuse → Type 0
LiesBeyond calls fuse.Off = Unit {0}
LiesBeyond calls (fuse.Stop k) = calls < k
LiesBeyond calls (fuse.Fail k) = calls < k

-- lines that name the node n, but for the one that dials, where it is made and not running, and these records stand on its disks. A start makes one device call for each disk, and four for each vBucket that was active
pub record AtDown (w : PlainWorld) (n : ℕ) (node : PlainNode) (books : List Book) : Type 0 where
  pub vb_active : (v uuid : ℕ) → RefusedFor w cause.NodeDown (verb.AtVb n v (vb_verb.MakeActive uuid))
  pub vb_replica : (v : ℕ) → RefusedFor w cause.NodeDown (verb.AtVb n v vb_verb.MakeReplica)
  pub chain : (v : ℕ) (others : Members) → RefusedFor w cause.NodeDown (verb.AtVb n v (vb_verb.Chain others))
  pub clock : (nanos : ℕ) → RefusedFor w cause.NodeDown (verb.AtNode n (node_verb.Clock nanos))
  pub client : (c : ℕ) → RefusedFor w cause.NodeDown (verb.AtClient n c client_verb.Open)
  pub bytes : (c : ℕ) (bytes : List ℕ) → RefusedFor w cause.NodeDown (verb.AtClient n c (client_verb.Bytes bytes))
  pub hang : (c : ℕ) → RefusedFor w cause.NodeDown (verb.AtClient n c client_verb.Hang)
  pub promote : (v uuid : ℕ) → RefusedFor w cause.NodeDown (verb.AtVb n v (vb_verb.Promote uuid))
  pub follow : (v : ℕ) → RefusedFor w cause.NodeDown (verb.AtVb n v vb_verb.Follow)
  pub dead : (v : ℕ) → RefusedFor w cause.NodeDown (verb.AtVb n v vb_verb.Dead)
  pub seal : (v : ℕ) → RefusedFor w cause.NodeDown (verb.AtVb n v vb_verb.Seal)
  pub trim : (v : ℕ) → RefusedFor w cause.NodeDown (verb.AtVb n v vb_verb.Trim)
  pub take : (v : ℕ) → RefusedFor w cause.NodeDown (verb.AtVb n v vb_verb.Take)
  pub save : (v : ℕ) → RefusedFor w cause.NodeDown (verb.AtVb n v vb_verb.Save)
  pub done : (v : ℕ) → RefusedFor w cause.NodeDown (verb.AtVb n v vb_verb.Done)
  pub tick : (v : ℕ) → RefusedFor w cause.NodeDown (verb.AtVb n v vb_verb.Tick)
  pub stat : (v : ℕ) → RefusedFor w cause.NodeDown (verb.AtVb n v vb_verb.Stat)
  pub log : (v : ℕ) → RefusedFor w cause.NodeDown (verb.AtVb n v vb_verb.Log)
  pub show : (v : ℕ) → RefusedFor w cause.NodeDown (verb.AtVb n v vb_verb.Show)
  pub crash : (out : Outcome) → RefusedFor w cause.NodeDown (verb.AtNode n (node_verb.Crash out))
  pub zero : (before later : List ℕ) → RefusedFor w cause.UuidZero (verb.AtNode n (node_verb.Start (before ++ 0 ∷ later)))
  pub used : (before later : List ℕ) (uuid : ℕ) → Each (λ id. id ≢ 0) (before ++ uuid ∷ later) → IsGiven w uuid → RefusedFor w cause.UuidUsed (verb.AtNode n (node_verb.Start (before ++ uuid ∷ later)))
  pub twice : (before between later : List ℕ) (uuid : ℕ) → Each (λ id. id ≢ 0) (before ++ uuid ∷ between ++ uuid ∷ later) → RefusedFor w cause.UuidUsed (verb.AtNode n (node_verb.Start (before ++ uuid ∷ between ++ uuid ∷ later)))
  pub unopened : (uuids : List ℕ) (k : ℕ) → AreFree w uuids → opens_all node.arm.fuse (length books) ≡ false → node.arm.fuse ≡ fuse.Fail k → RefusedFor w cause.Disk (verb.AtNode n (node_verb.Start uuids))
  pub stopped : (uuids : List ℕ) (k : ℕ) → AreFree w uuids → opens_all node.arm.fuse (length books) ≡ false → node.arm.fuse ≡ fuse.Stop k → RefusedFor w cause.Stopped (verb.AtNode n (node_verb.Start uuids))
  pub short : (uuids : List ℕ) → AreFree w uuids → opens_all node.arm.fuse (length books) ≡ true → length uuids < length (active_ones books) → RefusedFor w cause.IdsShort (verb.AtNode n (node_verb.Start uuids))
  pub starts : (uuids : List ℕ) → AreFree w uuids → LiesBeyond (length books + 4 * length (active_ones books)) node.arm.fuse → length (active_ones books) ≤ length uuids → AnsweredAs w answer.Ok (verb.AtNode n (node_verb.Start uuids))

-- lines that name the vBucket v of the node n, but for those that make it and the one that dials, where it is not made
pub record NoVb (w : PlainWorld) (n v : ℕ) : Type 0 where
  pub chain : (others : Members) → RefusedFor w cause.UnknownVb (verb.AtVb n v (vb_verb.Chain others))
  pub promote : (uuid : ℕ) → RefusedFor w cause.UnknownVb (verb.AtVb n v (vb_verb.Promote uuid))
  pub follow : RefusedFor w cause.UnknownVb (verb.AtVb n v vb_verb.Follow)
  pub dead : RefusedFor w cause.UnknownVb (verb.AtVb n v vb_verb.Dead)
  pub seal : RefusedFor w cause.UnknownVb (verb.AtVb n v vb_verb.Seal)
  pub trim : RefusedFor w cause.UnknownVb (verb.AtVb n v vb_verb.Trim)
  pub take : RefusedFor w cause.UnknownVb (verb.AtVb n v vb_verb.Take)
  pub save : RefusedFor w cause.UnknownVb (verb.AtVb n v vb_verb.Save)
  pub done : RefusedFor w cause.UnknownVb (verb.AtVb n v vb_verb.Done)
  pub tick : RefusedFor w cause.UnknownVb (verb.AtVb n v vb_verb.Tick)
  pub stat : RefusedFor w cause.UnknownVb (verb.AtVb n v vb_verb.Stat)
  pub log : RefusedFor w cause.UnknownVb (verb.AtVb n v vb_verb.Log)
  pub show : RefusedFor w cause.UnknownVb (verb.AtVb n v vb_verb.Show)

-- lines that name the link l, but for the one that dials, where no link of that number is open
pub record NoLink (w : PlainWorld) (l : ℕ) : Type 0 where
  pub up : (wanted : ℕ) → RefusedFor w cause.LinkClosed (verb.AtLink l (link_verb.Up wanted))
  pub down : (wanted : ℕ) → RefusedFor w cause.LinkClosed (verb.AtLink l (link_verb.Down wanted))
  pub pump : (frames : ℕ) → RefusedFor w cause.LinkClosed (verb.AtLink l (link_verb.Pump frames))
  pub drop : RefusedFor w cause.LinkClosed (verb.AtLink l link_verb.Drop)
  pub cut : RefusedFor w cause.LinkClosed (verb.AtLink l link_verb.Cut)

-- the next record of a journal stands, whose disk is called under the node's arm
abbrev pub Notes : PlainNode → Shelf → Type 0
Notes node shelf = fate_of (under node.arm.fuse shelf) ≡ Stood

-- lines for the node n, where it is made and running. The first record of a new vBucket is to stand, on a disk that is there or a new one
pub record AtNode (w : PlainWorld) (n : ℕ) (node : PlainNode) : Type 0 where
  pub up : (uuids : List ℕ) → RefusedFor w cause.NodeUp (verb.AtNode n (node_verb.Start uuids))
  pub crash : (out : Outcome) → AnsweredAs w answer.Ok (verb.AtNode n (node_verb.Crash out))
  pub vb_exists : (v uuid : ℕ) (vb : Plain) → node.vbs v ≡ Some vb → RefusedFor w cause.VbExists (verb.AtVb n v (vb_verb.MakeActive uuid)) × RefusedFor w cause.VbExists (verb.AtVb n v vb_verb.MakeReplica)
  pub limit : (v uuid : ℕ) → node.vbs v ≡ None → 64 ≤ node.made → RefusedFor w cause.Limit (verb.AtVb n v (vb_verb.MakeActive uuid)) × RefusedFor w cause.Limit (verb.AtVb n v vb_verb.MakeReplica)
  pub zero : (v : ℕ) → node.vbs v ≡ None → node.made < 64 → RefusedFor w cause.UuidZero (verb.AtVb n v (vb_verb.MakeActive 0))
  pub used : (v uuid : ℕ) → node.vbs v ≡ None → node.made < 64 → uuid ≢ 0 → IsGiven w uuid → RefusedFor w cause.UuidUsed (verb.AtVb n v (vb_verb.MakeActive uuid))
  pub active : (v uuid : ℕ) → node.vbs v ≡ None → node.made < 64 → uuid ≢ 0 → IsFree w uuid → Notes node (shelf_or_blank (node.shelves v)) → AnsweredAs w answer.Ok (verb.AtVb n v (vb_verb.MakeActive uuid))
  pub replica : (v : ℕ) → node.vbs v ≡ None → node.made < 64 → Notes node (shelf_or_blank (node.shelves v)) → AnsweredAs w answer.Ok (verb.AtVb n v vb_verb.MakeReplica)
  pub clock : (nanos : ℕ) → AnsweredAs w answer.Ok (verb.AtNode n (node_verb.Clock nanos))
  pub no_vb : (v : ℕ) → node.vbs v ≡ None → NoVb w n v
  pub no_client : (c : ℕ) (bytes : List ℕ) → node.clients c ≡ None → RefusedFor w cause.LinkClosed (verb.AtClient n c (client_verb.Bytes bytes)) × RefusedFor w cause.LinkClosed (verb.AtClient n c client_verb.Hang) × ((frames : ℕ) → RefusedFor w cause.LinkClosed (verb.AtClient n c (client_verb.Pull frames)))
  pub client : (c : ℕ) → node.clients c ≡ None → AnsweredAs w answer.Ok (verb.AtClient n c client_verb.Open)
  pub client_is_open : (c : ℕ) (client : PlainClient) → node.clients c ≡ Some client → RefusedFor w cause.LinkOpen (verb.AtClient n c client_verb.Open)
  pub bytes : (c : ℕ) (bytes : List ℕ) (client : PlainClient) → node.clients c ≡ Some client → AnsweredAs w answer.Ok (verb.AtClient n c (client_verb.Bytes bytes))
  pub hang : (c : ℕ) (client : PlainClient) → node.clients c ≡ Some client → AnsweredAs w answer.Ok (verb.AtClient n c client_verb.Hang)
  pub pull : (c frames : ℕ) (client : PlainClient) → node.clients c ≡ Some client → (count : ℕ) × (said : Why) × AnsweredAs w (answer.Pulled count said) (verb.AtClient n c (client_verb.Pull frames))

-- the other members that a chain of the node n may have: up to three, and of those that are set none is n and no two are the same
pub record MayJoin (n : ℕ) (others : Members) : Type 0 where
  pub few : length others ≤ 3
  pub away : Each (λ m. m ≢ n) (named others)
  pub apart : Differ (λ one other. one ≢ other) (named others)

-- lines for the vBucket v of the node n, where it is made and the node is running
pub record AtVb (w : PlainWorld) (n v : ℕ) (vb : Plain) : Type 0 where
  pub active : (uuid : ℕ) → vb.role ≡ role.Active → RefusedFor w cause.WrongRole (verb.AtVb n v (vb_verb.Promote uuid))
  pub zero : vb.role ≢ role.Active → RefusedFor w cause.UuidZero (verb.AtVb n v (vb_verb.Promote 0))
  pub used : (uuid : ℕ) → vb.role ≢ role.Active → uuid ≢ 0 → IsGiven w uuid → RefusedFor w cause.UuidUsed (verb.AtVb n v (vb_verb.Promote uuid))
  pub replica : vb.role ≡ role.Replica → RefusedFor w cause.WrongRole (verb.AtVb n v vb_verb.Follow)
  pub dead : vb.role ≡ role.Dead → RefusedFor w cause.WrongRole (verb.AtVb n v vb_verb.Dead)
  pub chain_idle : (others : Members) → vb.role ≢ role.Active → RefusedFor w cause.WrongRole (verb.AtVb n v (vb_verb.Chain others))
  pub chain_long : (others : Members) → vb.role ≡ role.Active → 3 < length others → RefusedFor w cause.ChainBad (verb.AtVb n v (vb_verb.Chain others))
  pub chain_own : (before later : Members) → vb.role ≡ role.Active → RefusedFor w cause.ChainBad (verb.AtVb n v (vb_verb.Chain (before ++ Some n ∷ later)))
  pub chain_twice : (before between later : Members) (m : ℕ) → vb.role ≡ role.Active → RefusedFor w cause.ChainBad (verb.AtVb n v (vb_verb.Chain (before ++ Some m ∷ between ++ Some m ∷ later)))
  pub chain : (others : Members) → vb.role ≡ role.Active → MayJoin n others → AnsweredAs w answer.Ok (verb.AtVb n v (vb_verb.Chain others))
  pub tick_idle : vb.role ≢ role.Active → RefusedFor w cause.WrongRole (verb.AtVb n v vb_verb.Tick)
  pub tick : vb.role ≡ role.Active → AnsweredAs w answer.Ok (verb.AtVb n v vb_verb.Tick)
  pub stat : AnsweredAs w answer.Ok (verb.AtVb n v vb_verb.Stat)
  pub log : AnsweredAs w answer.Ok (verb.AtVb n v vb_verb.Log)
  pub show : AnsweredAs w answer.Ok (verb.AtVb n v vb_verb.Show)
  pub seal : IsDone w (verb.AtVb n v vb_verb.Seal)
  pub trim : Counts w (verb.AtVb n v vb_verb.Trim)

-- lines for the vBucket v of the node n, where its journal is there and the next record stands under the node's arm: a change of role is written down, and each step of a batch wants the one before it
pub record AtShelf (w : PlainWorld) (n v : ℕ) (vb : Plain) (shelf : Shelf) : Type 0 where
  pub promoted : (uuid : ℕ) → vb.role ≢ role.Active → uuid ≢ 0 → IsFree w uuid → log_lacks vb.log uuid ≡ true → AnsweredAs w answer.Ok (verb.AtVb n v (vb_verb.Promote uuid))
  pub follows : vb.role ≢ role.Replica → AnsweredAs w answer.Ok (verb.AtVb n v vb_verb.Follow)
  pub dies : vb.role ≢ role.Dead → AnsweredAs w answer.Ok (verb.AtVb n v vb_verb.Dead)
  pub out : shelf.flush ≢ Idle → RefusedFor w cause.BatchOut (verb.AtVb n v vb_verb.Take)
  pub takes : shelf.flush ≡ Idle → Counts w (verb.AtVb n v vb_verb.Take)
  pub untaken : ((batch : Batch) → shelf.flush ≢ Out batch) → RefusedFor w cause.NothingTaken (verb.AtVb n v vb_verb.Save)
  pub saves : (batch : Batch) → shelf.flush ≡ Out batch → AnsweredAs w answer.Ok (verb.AtVb n v vb_verb.Save)
  pub unsaved : ((seq : ℕ) → shelf.flush ≢ Written seq) → RefusedFor w cause.NothingTaken (verb.AtVb n v vb_verb.Done)
  pub finishes : (seq : ℕ) → shelf.flush ≡ Written seq → Counts w (verb.AtVb n v vb_verb.Done)

-- a vBucket that takes a producer's changes
abbrev pub Follows : Plain → Type 0
Follows vb = (vb.role ≢ role.Active) × (vb.role ≢ role.Dead)

-- no open link has this number, and none feeds the vBucket v of the node n
abbrev pub MayLink : PlainWorld → ℕ → ℕ → ℕ → Type 0
MayLink w l n v = (list_any (λ link. link_number link == l) w.links ≡ false) × (list_any (feeds n v) w.links ≡ false)

-- `link L M N V BUF follow` and `link L M N V BUF takeover`, whatever BUF is
pub record Dials (w : PlainWorld) (l m n v buffer : ℕ) (takeover : Bool) : Type 0 where
  pub no_producer : w.nodes m ≡ None → RefusedFor w cause.UnknownNode (verb.Link l m n v buffer takeover)
  pub no_node : w.nodes n ≡ None → RefusedFor w cause.UnknownNode (verb.Link l m n v buffer takeover)

-- the same between nodes that are made
pub record DialsMade (w : PlainWorld) (l m n v buffer : ℕ) (takeover : Bool) (producer node : PlainNode) : Type 0 where
  pub down : is_some producer.off ≡ true → RefusedFor w cause.NodeDown (verb.Link l m n v buffer takeover)
  pub own_down : is_some node.off ≡ true → RefusedFor w cause.NodeDown (verb.Link l m n v buffer takeover)
  pub no_vb : producer.off ≡ None → node.off ≡ None → node.vbs v ≡ None → RefusedFor w cause.UnknownVb (verb.Link l m n v buffer takeover)
  pub active : (vb : Plain) → producer.off ≡ None → node.off ≡ None → node.vbs v ≡ Some vb → vb.role ≡ role.Active → RefusedFor w cause.WrongRole (verb.Link l m n v buffer takeover)
  pub dead : (vb : Plain) → producer.off ≡ None → node.off ≡ None → node.vbs v ≡ Some vb → vb.role ≡ role.Dead → RefusedFor w cause.WrongRole (verb.Link l m n v buffer takeover)
  pub taken : (vb : Plain) → producer.off ≡ None → node.off ≡ None → node.vbs v ≡ Some vb → Follows vb → list_any (λ link. link_number link == l) w.links ≡ true → RefusedFor w cause.LinkOpen (verb.Link l m n v buffer takeover)
  pub fed : (vb : Plain) → producer.off ≡ None → node.off ≡ None → node.vbs v ≡ Some vb → Follows vb → list_any (feeds n v) w.links ≡ true → RefusedFor w cause.LinkOpen (verb.Link l m n v buffer takeover)
  pub dials : (vb : Plain) → producer.off ≡ None → node.off ≡ None → node.vbs v ≡ Some vb → Follows vb → MayLink w l n v → AnsweredAs w answer.Ok (verb.Link l m n v buffer takeover)

-- why bytes for a consumer are refused, by the arm of its node: its vBucket can't go back, since the journal was closed before, the call that the arm hit failed, or the node stopped inside it
abbrev pub CantGoBack : Fuse → Cause → Type 0
CantGoBack (fuse.Fail k) cause.Disk = Unit {0}
CantGoBack (fuse.Stop k) cause.Stopped = Unit {0}
CantGoBack f cause.Closed = Unit {0}
CantGoBack f other = ⊥

-- lines that name the link l, but for the one that dials, where it is open and its nodes are made
pub record AtLink (w : PlainWorld) (l : ℕ) (node : PlainNode) : Type 0 where
  pub up : (wanted : ℕ) → IsDone w (verb.AtLink l (link_verb.Up wanted))
  pub down : (wanted number : ℕ) (why : Cause) → (verb_step w number (verb.AtLink l (link_verb.Down wanted))).1.answer ≡ answer.No why → CantGoBack node.arm.fuse why
  pub pump : (frames : ℕ) → IsDone w (verb.AtLink l (link_verb.Pump frames))
  pub drop : (had : Bool) × AnsweredAs w (answer.Number (if had then 1 else 0)) (verb.AtLink l link_verb.Drop)
  pub cut : AnsweredAs w answer.Ok (verb.AtLink l link_verb.Cut)

-- why lines are refused, and where they are not
pub record CausesInOrder (w : PlainWorld) : Type 0 where
  pub node : (n : ℕ) → w.nodes n ≡ None → AnsweredAs w answer.Ok (verb.Node n)
  pub no_node : (n : ℕ) → w.nodes n ≡ None → NoNode w n
  pub at_made : (n : ℕ) (node : PlainNode) → w.nodes n ≡ Some node → AtMade w n
  pub at_stopped_node : (n : ℕ) (node : PlainNode) (books : List Book) → w.nodes n ≡ Some node → node.off ≡ Some books → AtDown w n node books
  pub at_node : (n : ℕ) (node : PlainNode) → w.nodes n ≡ Some node → node.off ≡ None → AtNode w n node
  pub at_made_vb : (n v : ℕ) (node : PlainNode) (vb : Plain) → w.nodes n ≡ Some node → node.off ≡ None → node.vbs v ≡ Some vb → AtVb w n v vb
  pub at_shelf : (n v : ℕ) (node : PlainNode) (vb : Plain) (shelf : Shelf) → w.nodes n ≡ Some node → node.off ≡ None → node.vbs v ≡ Some vb → node.shelves v ≡ Some shelf → Notes node shelf → AtShelf w n v vb shelf
  pub dials : (l m n v buffer : ℕ) (takeover : Bool) → Dials w l m n v buffer takeover
  pub dials_made : (l m n v buffer : ℕ) (takeover : Bool) (producer node : PlainNode) → w.nodes m ≡ Some producer → w.nodes n ≡ Some node → DialsMade w l m n v buffer takeover producer node
  pub no_link : (l : ℕ) → list_any (λ link. link_number link == l) w.links ≡ false → NoLink w l
  pub at_link : (l : ℕ) (link : PlainLink) (producer node : PlainNode) → row_at link_number l w.links ≡ Some link → w.nodes (producer_node link) ≡ Some producer → w.nodes (consumer_node link) ≡ Some node → AtLink w l node
