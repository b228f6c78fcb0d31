-- what a script leaves: each vBucket follows its branch. A front of a script is a script, so it is so after every line
use Rattle.std.specs.Prelude.{◌≡◌, ℕ, ◌≤◌, ◌<◌, ◌==◌, true, List, [], ◌∷◌, find, Option, Some, None, option_map}
use Rattle.disk_journals.specs.Books.{Book}
use Rattle.vb_events.specs.declared.event.Group.{Group}
use Rattle.vb_types.specs.declared.role.LogEntry.{LogEntry}
use Rattle.vb_types.specs.Images.{image_of}
use Rattle.vb_types.specs.declared.journal.Record.{Record}
use Rattle.branch_model.specs.Journals.{IsPoint, complete_points, image_at}
use Rattle.branch_model.specs.Logs.{Ancestry, IsFront}
use Rattle.branch_model.specs.Requests.{reach_of}
use Rattle.branch_model.specs.Snapshots.{Follows, IsComplete}
use Rattle.branch_model.specs.Trees.{Branch}
use Rattle.cluster_model.specs.Clusters.{above, IsBranch}
use Rattle.script_text.specs.declared.verb.ScriptLine.{ScriptLine}
use Rattle.vb_calls.specs.Plain.{Plain}
use Rattle.vb_calls.specs.Shelves.{Shelf}
use Rattle.vb_calls.specs.State.{is_active, image_in}
use Rattle.node_world.specs.World.{PlainNode, PlainWorld, empty_world, shelf_in, vb_in, world_step, groups}
use Rattle.vbucket.specs.{Laws.{Sound}, Settles.{IsSettled}}
use Rattle.transcript_law.specs.Chronicles.{Chronicle, at_line, empty_chronicle, after_group}
use Rattle.transcript_law.specs.Lawfulness.{IsIfKnown, known_history, branch_image, IsWriter}
use Rattle.transcript_law.specs.Majorities.{IsHeldByMost}
use Rattle.transcript_law.specs.OwnWaits.{AwaitTheirOwnIf}
use Rattle.transcript_law.specs.Plainness.{AreOwnIf}
use Rattle.durability.specs.declared.waiting.Waiting.{Waiting}
use Rattle.vb_types.specs.declared.position.TheConstants.{MAX_SEQ}

-- the world after these lines
abbrev pub world_after : PlainWorld → List ScriptLine → PlainWorld
world_after w [] = w
world_after w (line ∷ lines) = world_after (world_step w line).0 lines

-- what is told with these lines of a script, one group for each
abbrev pub known_after : Chronicle → List ScriptLine → List Group → Chronicle
known_after chronicle [] told = chronicle
known_after chronicle (line ∷ lines) [] = chronicle
known_after chronicle (line ∷ lines) (group ∷ told) = known_after (after_group (at_line chronicle line.line) line.verb group.events group.answer) lines told

-- the world after a script, and what its transcript tells
abbrev pub world_of : List ScriptLine → PlainWorld
world_of script = world_after empty_world script

abbrev pub known_of : List ScriptLine → Chronicle
known_of script = known_after empty_chronicle script (groups script)

-- a failover log tells where a branch comes from, up to n; on no branch it is empty
abbrev pub ComesFrom : List Branch → List LogEntry → Option ℕ → ℕ → Type 0
ComesFrom tree log None n = log ≡ []
ComesFrom tree log (Some uuid) n = Ancestry tree log uuid n

-- a vBucket has the role and the log that the lines tell, where they do, and what the changes leave that they tell that it holds; and it is, where it is
-- active, the writer of its log's newest branch. These changes are those that a consumer of its branch holds at its position; its log tells where the
-- branch comes from, as far as the position relies on it; and with a complete snapshot it has the branch's image there. One on no branch follows the
-- empty history. Each is sound, which is all that the laws of one vBucket ask of it, and nothing more may be committed there: where it is active and a seqno
-- is left, no majority holds its lowest prepare by what the lines tell, or it is not saved as its level asks
pub record FollowsBranch (chronicle : Chronicle) (n v : ℕ) (vb : Plain) : Type 0 where
  pub sound : Sound vb
  pub at_rest : IsSettled vb
  pub committed : is_active vb.role ≡ true → vb.position.at < MAX_SEQ → (w : Waiting) (more : List Waiting) → vb.waiting ≡ w ∷ more → IsHeldByMost (chronicle.counts_at n v) (chronicle.disk_at n v).saved w.seq w.level → ⊥
  pub role : IsIfKnown (chronicle.role_at n v) (Some vb.role)
  pub held : image_in vb ≡ image_of (chronicle.held n v)
  pub log : IsIfKnown (chronicle.log_at n v) vb.log
  pub writer : is_active vb.role ≡ true → (uuid : ℕ) × IsFront vb.log uuid × IsWriter chronicle n v uuid
  pub follows : Follows (known_history chronicle.tree (chronicle.branch_at n v)) vb.position (above (chronicle.held n v) vb.position.ss) (image_of (chronicle.held n v))
  pub ancestry : ComesFrom chronicle.tree vb.log (chronicle.branch_at n v) (reach_of vb.position)
  pub complete : IsComplete vb.position → image_in vb ≡ branch_image chronicle n v vb.position.at

-- each complete point that a vBucket's journal tells has the image of the vBucket's branch there
abbrev pub PointsAreBranch : Chronicle → ℕ → ℕ → List Record → Type 0
PointsAreBranch chronicle n v book = (p : ℕ) → IsPoint p (complete_points book) → image_at book p ≡ branch_image chronicle n v p

-- the disks of a node, where it is made and not running
abbrev pub off_of_node : Option PlainNode → Option (List Book)
off_of_node None = None
off_of_node (Some node) = node.off

-- the records of the disk of this number
abbrev pub book_in : List Book → ℕ → Option (List Record)
book_in books v = option_map (λ (b : Book). b.1) (find (λ (b : Book). b.0 == v) books)

-- the vBucket v of the node n is active and is on this branch
pub record IsActiveOn (chronicle : Chronicle) (w : PlainWorld) (n v uuid : ℕ) (vb : Plain) : Type 0 where
  pub there : vb_in (w.nodes n) v ≡ Some vb
  pub active : is_active vb.role ≡ true
  pub on_branch : chronicle.branch_at n v ≡ Some uuid

-- what the lines tell of each vBucket is so, and it follows its branch, at each complete point that its journal tells too, also on the disk of a node that is down; a branch has one active vBucket at most, and that has all that any branch made
-- from it shares: it never again changes what is at or below a fork. Each connection of a node is told as one of its own, and, as long as the numbers of lines rise, awaits no outcome but that of its own durable write, whose prepare alone is outstanding under its number
pub record AreFollowed (chronicle : Chronicle) (w : PlainWorld) : Type 0 where
  pub each : (n v : ℕ) (vb : Plain) → vb_in (w.nodes n) v ≡ Some vb → FollowsBranch chronicle n v vb
  pub points : (n v : ℕ) (shelf : Shelf) → shelf_in (w.nodes n) v ≡ Some shelf → PointsAreBranch chronicle n v shelf.book
  pub disks : (n v : ℕ) (books : List Book) (book : List Record) → off_of_node (w.nodes n) ≡ Some books → book_in books v ≡ Some book → PointsAreBranch chronicle n v book
  pub alone : (n v m q uuid : ℕ) (vb other : Plain) → IsActiveOn chronicle w n v uuid vb → IsActiveOn chronicle w m q uuid other → (n ≡ m) × (v ≡ q)
  pub forks : (n v uuid : ℕ) (vb : Plain) (branch : Branch) → IsActiveOn chronicle w n v uuid vb → IsBranch branch chronicle.tree → branch.parent ≡ Some uuid
      → branch.fork ≤ vb.position.at
  pub own : (n : ℕ) → AreOwnIf n (w.nodes n)
  pub awaited : AwaitTheirOwnIf chronicle.last chronicle w
