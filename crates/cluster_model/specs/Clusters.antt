-- a small world: nodes that follow the branches of one tree, what they wrote down, and what may happen to them
use Rattle.std.specs.Prelude.{◌≡◌, ℕ, ◌<◌, ◌≤◌, ◌+◌, ◌==◌, nat_lt, nat_le, if◌then◌else◌, Bool, true, false, List, [], ◌∷◌, ◌++◌, Option, Some, None, ◌⊎◌}
use Rattle.std.specs.List.{filter}
use Rattle.vb_types.specs.Images.{Picture, image_of}
use Rattle.vb_types.specs.declared.change.Change.{Change}
use Rattle.std.specs.FinMap.{get}
use Rattle.vb_types.specs.declared.doc.Doc.{Doc}
use Rattle.vb_types.specs.declared.change.Pend.{Pend}
use Rattle.vb_types.specs.declared.change.Act.TheVariants.{Commit}
use Rattle.branch_model.specs.Histories.{last_seq, HasPrepares}
use Rattle.vb_types.specs.Histories.{upto, Rises, IsIn}
use Rattle.branch_model.specs.Snapshots.{Remains, Covers, Follows, IsComplete}
use Rattle.branch_model.specs.Trees.{Branch, hist, Shared, grow, Grows, AllDiffer, branch}
use Rattle.vb_types.specs.declared.role.LogEntry.{LogEntry}
use Rattle.vb_types.specs.declared.stream.Verdict.TheVariants.{Continue}
use Rattle.vb_types.specs.declared.position.Position.{Position}
use Rattle.branch_model.specs.Logs.{AncestryBy, Falls, IsFront, kept_to, with_entry}
use Rattle.branch_model.specs.Requests.{rule, request_of, reach_of, fork_of}
use Rattle.branch_model.specs.Journals.{batches, last_log, log_of, place_of, end_of, complete_points, found, IsPoint, Covered}
use Rattle.vb_types.specs.declared.journal.Batch.{Batch}
use Rattle.vb_types.specs.declared.journal.Record.{Record}
use Rattle.vb_types.specs.declared.journal.Record.TheVariants as noted

-- the tree of all branches, and for each branch the seqno at or below which nobody writes on it any more
pub record Ground : Type 0 where
  pub tree : List Branch
  pub tips : ℕ → ℕ

-- what a producer that let a consumer continue feeds it: the branch and log that it told, the snapshots on their way, each with its end, and the seqno at which the producer gave
-- the branch up for this consumer to take over, if it did
pub record Feed : Type 0 where
  pub u : ℕ
  pub log : List LogEntry
  pub flight : List (ℕ × List Change)
  pub given : Option ℕ

-- a node as a member: whether it is active, its branch, the changes that it holds, its position and log, and the seqnos at which it was complete
pub record Member : Type 0 where
  pub active : Bool
  pub br : ℕ
  pub held : List Change
  pub position : Position
  pub log : List LogEntry
  pub points : List ℕ
  pub coming : Option (List Change)  -- once the told log was adopted: what is to come of the marked snapshot
  pub link : Option Feed

-- what a node wrote down and what it is about to: its journal; the batch that it took and did not append yet; a record whose append was broken off, which a crash may find or not;
-- and the positions at which its spans end
pub record Disk : Type 0 where
  pub book : List Record
  pub batch : Option Batch
  pub late : Option Record
  pub stood : List Position

-- all nodes, and the tree of their branches
pub record Cluster : Type 0 where
  pub tree : List Branch
  pub tips : ℕ → ℕ
  pub nodes : ℕ → Member
  pub disks : ℕ → Disk

-- that of a cluster
abbrev pub ground : Cluster → Ground
ground w = record { tree = w.tree; tips = w.tips }

-- a family with another one at k
abbrev pub put : {A : Type 0} → (ℕ → A) → ℕ → A → ℕ → A
put xs k x j = if j == k then x else xs j

-- the changes above n
abbrev pub above : List Change → ℕ → List Change
above h n = filter (λ c. nat_lt n c.seq) h

-- the end that the position means
abbrev pub member_reach : Member → ℕ
member_reach n = reach_of n.position

-- the start that the position means: there a node that becomes active forks
abbrev pub member_fork : Member → ℕ
member_fork n = fork_of n.position

-- what may happen: an active node makes a change; a producer lets a consumer continue, and sends it a whole snapshot; the consumer adopts the log that it was told,
-- takes a marker, a change; it is cut off. A node takes a batch that ends where one of its spans does; appends a record; rolls back to a complete point of its journal;
-- begins an append that is broken off; crashes, and loads what its journal tells, with the broken record or without. A node becomes active on a new branch, as after a load with the role
-- active; a node becomes a replica or dead; a producer gives its branch up for one consumer, and that one takes the branch over
pub data Move : Type 0 where
  Own : (node : ℕ) (change : Change) → Move
  Grant : (node producer : ℕ) → Move
  Send : (node producer : ℕ) (items : List Change) (end : ℕ) → Move
  Adopt : (node : ℕ) → Move
  Marker : (node : ℕ) → Move
  Receive : (node : ℕ) → Move
  Cut : (node : ℕ) → Move
  Take : (node : ℕ) (position : Position) (cas : ℕ) (items : List Change) → Move
  Append : (node : ℕ) (what : Record) → Move
  Roll : (node to : ℕ) → Move
  Break : (node : ℕ) (what : Record) → Move
  Crash : (node : ℕ) (stood : Bool) → Move
  Promote : (node id : ℕ) → Move
  Yield : (node : ℕ) → Move
  Cede : (node producer : ℕ) → Move
  Rise : (node : ℕ) → Move

-- the numbers with one more, where the position is complete
abbrev pub also_at : Position → List ℕ → List ℕ
also_at p points = if p.at == p.se then p.at ∷ points else points

-- an active node after its own change
abbrev pub owned : Member → Change → Member
owned n c = record n { held = n.held ++ c ∷ []; position = record { ss = c.seq; se = c.seq; at = c.seq }; points = c.seq ∷ n.points; coming = None; link = None }

-- a consumer that a producer let continue
abbrev pub answered : Member → Member → Member
answered n p = record n { coming = None; link = Some (record { u = p.br; log = p.log; flight = []; given = None }) }

-- a consumer to which one more snapshot is on its way
abbrev pub sent : Member → Option Feed → List Change → ℕ → Member
sent n None items end = n
sent n (Some l) items end = record n { link = Some (record l { flight = l.flight ++ (end, items) ∷ [] }) }

-- a consumer that took over the branch and log that it was told
abbrev pub adopted : Member → Option Feed → Member
adopted n None = n
adopted n (Some l) = record n { br = l.u; log = l.log; coming = Some []; link = Some l }

-- a consumer that took the first marker on its way
abbrev pub marked_by : Member → Feed → List (ℕ × List Change) → Member
marked_by n l [] = n
marked_by n l (x ∷ more) = record n { position = record { ss = member_fork n; se = x.0; at = n.position.at }; coming = Some x.1; link = Some (record l { flight = more }) }

-- a consumer that took a marker, where it is fed
abbrev pub marked_member : Member → Option Feed → Member
marked_member n None = n
marked_member n (Some l) = marked_by n l l.flight

-- a consumer that took the next change of its snapshot
abbrev pub received : Member → Option (List Change) → Member
received n None = n
received n (Some []) = n
received n (Some (c ∷ rest)) = record n { held = n.held ++ c ∷ []; position = record n.position { at = c.seq }; points = also_at (record n.position { at = c.seq }) n.points; coming = Some rest }

-- a consumer that is no longer fed
abbrev pub cut : Member → Member
cut n = record n { coming = None; link = None }

-- a node that rolled back
abbrev pub rolled : Member → ℕ → Member
rolled n to = record n { held = upto n.held to; position = record { ss = to; se = to; at = to }; log = kept_to to n.log; points = filter (λ p. nat_le p to) n.points; coming = None; link = None }

-- a node that became active on a new branch
abbrev pub promoted : Member → ℕ → Member
promoted n id = record n { active = true; br = id; position = record { ss = n.position.at; se = n.position.at; at = n.position.at }; log = with_entry id (member_fork n) n.log; coming = None; link = None }

-- a node that is not active
abbrev pub yielded : Member → Member
yielded n = record n { active = false; coming = None; link = None }

-- the newest entry's id, or u
abbrev pub front_or : ℕ → List LogEntry → ℕ
front_or u [] = u
front_or u (e ∷ older) = e.uuid

-- the branch that a promotion makes: its parent is the newest one of the log, and for an empty log, which shares with nobody above 0, the node's own
abbrev pub made : Member → ℕ → Branch
made n id = record { id = id; parent = Some (front_or n.br n.log); fork = member_fork n; own = above n.held (member_fork n) }

-- a node that knows nothing
abbrev pub fresh : Member
fresh = record { active = false; br = 0; held = []; position = record { ss = 0; se = 0; at = 0 }; log = []; points = 0 ∷ []; coming = None; link = None }

-- a replica that takes its branch over
abbrev pub risen : Member → Member
risen n = record n { active = true; position = record { ss = n.position.at; se = n.position.at; at = n.position.at }; coming = None; link = None }

-- a consumer whose producer gave up its branch for it
abbrev pub ceded : Member → Option Feed → ℕ → Member
ceded n None high = n
ceded n (Some l) high = record n { link = Some (record l { given = Some high }) }

-- a node on a branch that holds this and stands where the journal tells
abbrev pub seated : ℕ → List Change → List Record → Member
seated br held js = record { active = false; br = br; held = held; position = place_of js; log = log_of js; points = complete_points js; coming = None; link = None }

-- a node that loaded its journal: of what was held, what stands up to the last point; its branch is the newest one of the last log, whatever was rolled back later, and stays where that log is empty
abbrev pub loaded : ℕ → List Change → List Record → Member
loaded br held js = seated (front_or br (last_log js)) (upto held (place_of js).at) js

-- where nothing was written
abbrev pub blank : Disk
blank = record { book = []; batch = None; late = None; stood = [] }

-- a journal that a node begins to work with
abbrev pub opened : List Record → Disk
opened js = record { book = js; batch = None; late = None; stood = [] }

-- a span ends at one more position
abbrev pub spanned : Disk → Position → Disk
spanned d p = record d { stood = p ∷ d.stood }

-- where a change was received
abbrev pub spanned_by : Disk → Member → Option (List Change) → Disk
spanned_by d n None = d
spanned_by d n (Some []) = d
spanned_by d n (Some (c ∷ rest)) = spanned d (record n.position { at = c.seq })

-- one more record stands; a batch that is appended is no longer out, and a record whose append was broken off before is lost for good
abbrev pub appended : Disk → Record → Disk
appended d (noted.State role log) = record d { book = noted.State role log ∷ d.book; late = None }
appended d (noted.Rows b) = record d { book = noted.Rows b ∷ d.book; batch = None; late = None }
appended d (noted.Roll to) = opened (noted.Roll to ∷ d.book)

-- the cluster with another node k and another disk of it
abbrev pub set_node : Cluster → ℕ → Member → Disk → Cluster
set_node w k n d = record w { nodes = put w.nodes k n; disks = put w.disks k d }

-- the cluster after a move
abbrev pub happens : Cluster → Move → Cluster
happens w (Move.Own k c) = record w { tree = grow w.tree (w.nodes k).br c; tips = put w.tips (w.nodes k).br c.seq; nodes = put w.nodes k (owned (w.nodes k) c); disks = put w.disks k (spanned (w.disks k) (owned (w.nodes k) c).position) }
happens w (Move.Grant k p) = set_node w k (answered (w.nodes k) (w.nodes p)) (w.disks k)
happens w (Move.Send k p items end) = set_node w k (sent (w.nodes k) (w.nodes k).link items end) (w.disks k)
happens w (Move.Adopt k) = set_node w k (adopted (w.nodes k) (w.nodes k).link) (w.disks k)
happens w (Move.Marker k) = set_node w k (marked_member (w.nodes k) (w.nodes k).link) (w.disks k)
happens w (Move.Receive k) = set_node w k (received (w.nodes k) (w.nodes k).coming) (spanned_by (w.disks k) (w.nodes k) (w.nodes k).coming)
happens w (Move.Cut k) = set_node w k (cut (w.nodes k)) (w.disks k)
happens w (Move.Take k position cas items) = set_node w k (w.nodes k) (record (w.disks k) { batch = Some (record { position = position; cas = cas; log = (w.nodes k).log; items = items }) })
happens w (Move.Append k r) = set_node w k (w.nodes k) (appended (w.disks k) r)
happens w (Move.Roll k to) = set_node w k (rolled (w.nodes k) to) (appended (w.disks k) (noted.Roll to))
happens w (Move.Break k r) = set_node w k (w.nodes k) (record (w.disks k) { late = Some r })
happens w (Move.Crash k stood) = set_node w k (loaded (w.nodes k).br (w.nodes k).held (found (w.disks k).book (w.disks k).late stood)) (opened (found (w.disks k).book (w.disks k).late stood))
happens w (Move.Promote k id) = record w { tree = made (w.nodes k) id ∷ w.tree; tips = put w.tips id (w.nodes k).position.at; nodes = put w.nodes k (promoted (w.nodes k) id); disks = put w.disks k (w.disks k) }
happens w (Move.Yield k) = set_node w k (yielded (w.nodes k)) (w.disks k)
happens w (Move.Cede k p) = record w { nodes = put (put w.nodes p (yielded (w.nodes p))) k (ceded (w.nodes k) (w.nodes k).link (w.nodes p).position.at) }
happens w (Move.Rise k) = set_node w k (risen (w.nodes k)) (w.disks k)

-- one of the positions
abbrev pub IsSpot : Position → List Position → Type 0
IsSpot p [] = ⊥
IsSpot p (q ∷ qs) = (p ≡ q) ⊎ IsSpot p qs

-- a batch of one of these positions ends there, or it is 0, where a journal begins
abbrev pub IsBatchEnd : ℕ → List Position → Type 0
IsBatchEnd n [] = n ≡ 0
IsBatchEnd n (p ∷ ps) = (n ≡ p.at) ⊎ IsBatchEnd n ps

-- the link is open
abbrev pub IsOpen : Option (List Change) → Type 0
IsOpen None = ⊥
IsOpen (Some xs) = Unit {0}

-- the branch u was given up at n for the consumer to take over, once it has all of it
abbrev pub IsGiven : ℕ → ℕ → Option Feed → Type 0
IsGiven u n None = ⊥
IsGiven u n (Some l) = (l.given ≡ Some n) × (l.u ≡ u)

-- at some seqno
abbrev pub HasRight : ℕ → Option Feed → Type 0
HasRight u k = (n : ℕ) × IsGiven u n k

-- who writes on the branch u, or may come to
abbrev pub Writes : ℕ → Member → Type 0
Writes u n = ((n.active ≡ true) × (n.br ≡ u)) ⊎ HasRight u n.link

-- a commit names the pending entry of its key
abbrev pub Names : Picture → Change → Type 0
Names image c = (number : ℕ) (doc : Doc) (deleted : Bool) → c.act ≡ Commit number doc deleted → (e : Pend) × (get image.pending c.key ≡ Some e) × (e.seq ≡ number)

-- and has its document
abbrev pub Fulfils : Picture → Change → Type 0
Fulfils image c = (number : ℕ) (doc : Doc) (deleted : Bool) → c.act ≡ Commit number doc deleted → (e : Pend) × (get image.pending c.key ≡ Some e) × (e.seq ≡ number) × (e.doc ≡ doc) × (e.deleted ≡ deleted)

-- the next change that comes may be taken
abbrev pub NextNames : Picture → Option (List Change) → Type 0
NextNames image None = Unit {0}
NextNames image (Some []) = Unit {0}
NextNames image (Some (c ∷ rest)) = Names image c

-- up to where a node has, or is to have, all that came on the link
abbrev pub flight_from : Member → Option (List Change) → ℕ
flight_from n None = n.position.at
flight_from n (Some []) = n.position.at
flight_from n (Some (c ∷ rest)) = n.position.se

-- and all that is on its way
abbrev pub flight_end : ℕ → List (ℕ × List Change) → ℕ
flight_end from [] = from
flight_end from (x ∷ more) = flight_end x.0 more

-- a producer, active or with the branch given up, sends a whole snapshot that goes on from there
abbrev pub MaySend : Cluster → Member → Member → Option Feed → List Change → ℕ → Type 0
MaySend w n p None items end = ⊥
MaySend w n p (Some l) items end = (l.u ≡ p.br) × Covers items (hist w.tree p.br) (flight_end (flight_from n n.coming) l.flight) end × (member_reach n ≤ end) × (end ≤ p.position.at)

-- what may be appended: the role with the log now, the batch that is out, and a rollback to a complete point, which a node that is not active makes
abbrev pub MayAppend : Member → Disk → Record → Type 0
MayAppend n d (noted.State role log) = log ≡ n.log
MayAppend n d (noted.Rows b) = d.batch ≡ Some b
MayAppend n d (noted.Roll to) = IsPoint to (complete_points d.book)

-- and what may be without more ado: a rollback that stands is a move of its own
abbrev pub MayStand : Member → Disk → Record → Type 0
MayStand n d (noted.State role log) = log ≡ n.log
MayStand n d (noted.Rows b) = d.batch ≡ Some b
MayStand n d (noted.Roll to) = ⊥

-- a producer feeds the branch u
abbrev pub IsFedOf : ℕ → Option Feed → Type 0
IsFedOf u None = ⊥
IsFedOf u (Some l) = l.u ≡ u

-- what a move needs
abbrev pub May : ℕ → Cluster → Move → Type 0
May top w (Move.Own k c) = ((w.nodes k).active ≡ true) × (c.seq ≡ (w.nodes k).position.at + 1) × (c.seq ≤ top) × Fulfils (image_of (w.nodes k).held) c
May top w (Move.Grant k p) = ((w.nodes k).active ≡ false) × ((w.nodes p).active ≡ true) × (rule (w.nodes p).log (w.nodes p).position.at (request_of (w.nodes k).log (w.nodes k).position) ≡ Continue)
May top w (Move.Send k p items end) = ((w.nodes k).active ≡ false) × MaySend w (w.nodes k) (w.nodes p) (w.nodes k).link items end
May top w (Move.Adopt k) = ((w.nodes k).active ≡ false) × ((w.nodes k).coming ≡ None)
May top w (Move.Marker k) = ((w.nodes k).active ≡ false) × ((w.nodes k).coming ≡ Some [])
May top w (Move.Receive k) = ((w.nodes k).active ≡ false) × NextNames (image_of (w.nodes k).held) (w.nodes k).coming
May top w (Move.Cut k) = (w.nodes k).active ≡ false
May top w (Move.Take k position cas items) = IsSpot position (w.disks k).stood × Covers items (w.nodes k).held (place_of (w.disks k).book).at position.at
May top w (Move.Append k r) = MayStand (w.nodes k) (w.disks k) r
May top w (Move.Roll k to) = ((w.nodes k).active ≡ false) × IsPoint to (complete_points (w.disks k).book)
May top w (Move.Break k r) = MayAppend (w.nodes k) (w.disks k) r
May top w (Move.Crash k stood) = Unit {0}
May top w (Move.Promote k id) = ((w.nodes k).active ≡ false) × (branch w.tree id ≡ None) × ((w.nodes k).position.at ≤ top)
May top w (Move.Yield k) = Unit {0}
May top w (Move.Cede k p) = ((w.nodes k).active ≡ false) × ((w.nodes p).active ≡ true) × IsFedOf (w.nodes p).br (w.nodes k).link
May top w (Move.Rise k) = ((w.nodes k).active ≡ false) × IsOpen (w.nodes k).coming × ((w.nodes k).position.at ≡ (w.nodes k).position.se) × IsGiven (w.nodes k).br (w.nodes k).position.at (w.nodes k).link

-- there is such a branch, and nobody writes on it at or below n
abbrev pub Settled : Ground → ℕ → ℕ → Type 0
Settled g u n = ((b : Branch) × (branch g.tree u ≡ Some b)) × (n ≤ g.tips u)

-- two branches share their changes up to n, for good
abbrev pub Fixed : Ground → ℕ → ℕ → ℕ → Type 0
Fixed g u v n = Shared g.tree u v n × Settled g u n × Settled g v n

-- the same branch, or two that share up to n for good
abbrev pub Kin : Ground → ℕ → ℕ → ℕ → Type 0
Kin g u v n = ((u ≡ v) × Settled g u 0) ⊎ Fixed g u v n

-- what is to come on an open link
abbrev pub Comes : Ground → Member → Option (List Change) → Type 0
Comes g n None = Unit {0}
Comes g n (Some xs) = IsFront n.log n.br × ((xs ≡ []) ⊎ (Remains xs (hist g.tree n.br) n.position.at n.position.se × Settled g n.br n.position.se × (last_seq n.position.at xs ≡ n.position.se)))

-- the snapshots that are on their way to a consumer that has all up to `from`
abbrev pub Flight : Ground → ℕ → ℕ → List (ℕ × List Change) → Type 0
Flight g u from [] = Unit {0}
Flight g u from (x ∷ more) = Covers x.1 (hist g.tree u) from x.0 × Settled g u x.0 × Flight g u x.0 more

-- before the told log is adopted, its branch is the node's or shares with it up to the effective end; afterwards it is the node's
abbrev pub Joined : Ground → Member → Feed → Option (List Change) → Type 0
Joined g n l None = Kin g n.br l.u (member_reach n) × IsFront l.log l.u × AncestryBy (Kin g) g.tree l.log l.u (member_reach n) × Settled g l.u n.position.at
Joined g n l (Some xs) = n.br ≡ l.u

-- the next snapshot ends at n at least
abbrev pub FirstReaches : ℕ → List (ℕ × List Change) → Type 0
FirstReaches n [] = Unit {0}
FirstReaches n (x ∷ more) = n ≤ x.0

-- what is on its way to a consumer is good
abbrev pub Linked : Ground → Member → Option (List Change) → Option Feed → Type 0
Linked g n o None = Unit {0}
Linked g n o (Some l) = Joined g n l o × Flight g l.u (flight_from n o) l.flight × FirstReaches (member_reach n) l.flight

-- what is held up to n is a snapshot of h from nothing: only changes of h, and of each slot the last one up to n
abbrev pub HasAll : List Change → List Change → ℕ → Type 0
HasAll h held n = Remains (upto held n) h 0 n

-- a node stands on its branch
pub record Stands (g : Ground) (n : Member) : Type 0 where
  pub rises : Rises 0 n.position.at n.held
  pub follows : Follows (hist g.tree n.br) n.position (above n.held n.position.ss) (image_of n.held)
  pub settled : Settled g n.br n.position.at
  pub ancestry : AncestryBy (Kin g) g.tree n.log n.br (member_reach n)
  pub comes : Comes g n n.coming
  pub linked : Linked g n n.coming n.link
  pub named : HasPrepares (upto (hist g.tree n.br) n.position.ss ++ above n.held n.position.ss)
  pub forked : HasAll (hist g.tree n.br) n.held (member_fork n)
  pub points : (p : ℕ) → IsPoint p n.points → (p ≤ member_fork n) × HasAll (hist g.tree n.br) n.held p

-- all changes of h within the position's snapshot, up to where it got, are held
abbrev pub Exact : List Change → List Change → Position → Type 0
Exact h held q = (c : Change) → IsIn c h → q.ss < c.seq → c.seq ≤ q.at → IsIn c held

-- how an earlier position q lies to a node's position p: what it means ends at most where the node would fork; or it is of the snapshot that the node is inside; or nothing of the branch is missing there
pub data Near (h held : List Change) (p q : Position) : Type 0 where
  Before : (l : reach_of q ≤ fork_of p) → Near h held p q
  Inside : (e : q.ss ≡ fork_of p) (l : reach_of q ≤ reach_of p) → Near h held p q
  Whole : (x : Exact h held q) → Near h held p q

-- a node on the branch br, which holds this, is at p and was complete at these points, would stand at q as well with what it held there
pub record Fits (g : Ground) (br : ℕ) (held : List Change) (p : Position) (points : List ℕ) (q : Position) : Type 0 where
  pub reached : q.at ≤ p.at
  pub starts : q.ss ≤ fork_of p
  pub follows : Follows (hist g.tree br) q (above (upto held q.at) q.ss) (image_of (upto held q.at))
  pub named : HasPrepares (upto (hist g.tree br) q.ss ++ above (upto held q.at) q.ss)
  pub near : Near (hist g.tree br) held p q
  pub forked : HasAll (hist g.tree br) held (fork_of q)
  pub below : (x : ℕ) → IsPoint x points → x ≤ q.at → x ≤ fork_of q
  pub marked : IsComplete q → IsPoint q.at points

-- a journal tells such a node, and the node that loads it stands
pub record Told (g : Ground) (br : ℕ) (held : List Change) (p : Position) (points : List ℕ) (js : List Record) : Type 0 where
  pub covered : Covered held (batches js)
  pub ends : (place_of js).at ≡ end_of (batches js)
  pub spot : Fits g br held p points (place_of js)
  pub loads : Stands g (loaded br held js)
  pub among : (x : ℕ) → IsPoint x (complete_points js) → IsPoint x points
  pub whole : IsComplete (place_of js) → IsPoint (place_of js).at (complete_points js)

-- what a node wrote down, and what it may come to write
pub record Kept (g : Ground) (n : Member) (d : Disk) : Type 0 where
  pub book : Told g n.br n.held n.position n.points d.book
  pub late : (r : Record) → d.late ≡ Some r → Told g n.br n.held n.position n.points (r ∷ d.book)
  pub batch : (b : Batch) → d.batch ≡ Some b → Told g n.br n.held n.position n.points (noted.Rows b ∷ d.book)
  pub stood : (q : Position) → IsSpot q d.stood → Fits g n.br n.held n.position n.points q
  pub front : (q : Position) → IsSpot q d.stood → IsFront n.log n.br

-- n is active and writes on its branch
pub record Leads (g : Ground) (n : Member) : Type 0 where
  pub ss_at : n.position.ss ≡ n.position.at
  pub se_at : n.position.se ≡ n.position.at
  pub tip : n.position.at ≡ g.tips n.br
  pub front : IsFront n.log n.br
  pub falls : Falls n.log n.position.at

-- nobody writes at or below a fork on the branch that it was made from
abbrev pub Forks : Ground → List Branch → Type 0
Forks g [] = Unit {0}
Forks g (b ∷ older) = ((p : ℕ) → b.parent ≡ Some p → Settled g p b.fork) × Forks g older

-- what stays true in a cluster whatever happens
pub record SoundCluster (top : ℕ) (w : Cluster) : Type 0 where
  pub grows : Grows top w.tree
  pub differ : AllDiffer w.tree
  pub forks : Forks (ground w) w.tree
  pub root : Settled (ground w) 0 0
  pub tops : (u : ℕ) → Rises 0 (w.tips u) (hist w.tree u)
  pub floors : (u : ℕ) (b : Branch) → branch w.tree u ≡ Some b → b.fork ≤ w.tips u
  pub prepared : (u : ℕ) → HasPrepares (hist w.tree u)
  pub stands : (k : ℕ) → Stands (ground w) (w.nodes k)
  pub kept : (k : ℕ) → Kept (ground w) (w.nodes k) (w.disks k)
  pub leads : (k : ℕ) → (w.nodes k).active ≡ true → Leads (ground w) (w.nodes k)
  pub alone : (j k u : ℕ) → Writes u (w.nodes j) → Writes u (w.nodes k) → j ≡ k
  pub given : (k u n : ℕ) → IsGiven u n (w.nodes k).link → n ≡ w.tips u

-- a run of moves, each of which may happen where it stands
abbrev pub MayAll : ℕ → Cluster → List Move → Type 0
MayAll top w [] = Unit {0}
MayAll top w (e ∷ es) = May top w e × MayAll top (happens w e) es

-- the cluster after a run
abbrev pub run : Cluster → List Move → Cluster
run w [] = w
run w (e ∷ es) = run (happens w e) es

-- the branch that every node starts on: it never has a change
abbrev pub root : Branch
root = record { id = 0; parent = None; fork = 0; own = [] }

-- no node has anything
abbrev pub start : Cluster
start = record { tree = root ∷ []; tips = λ u. 0; nodes = λ k. fresh; disks = λ k. blank }

-- one of the tree
abbrev pub IsBranch : Branch → List Branch → Type 0
IsBranch b [] = ⊥
IsBranch b (a ∷ older) = (b ≡ a) ⊎ IsBranch b older
