-- what a line `down` tells and leaves before a rollback: lines of other kinds, and the journals as they were under the node's arm
use Rattle.std.specs.Prelude.{◌≡◌, ◌∷◌, ◌++◌, ◌&&◌, ◌||◌, if◌then◌else◌}
use Rattle.transcript_law.proofs.Words.{ℕ, Bool, true, false, List, [], list_any, refl, ap, ◌∙◌, Option, Some, None, option_map, ne_eqb, EndReason, Event, Granted, Role, Chronicle, States, after_line, after_lines}
use Rattle.{disk_journals.specs.Arms.{arm_over, armed_at, under}, vb_calls.specs.Shelves.{Shelf, Shelves}, vb_disk.specs.declared.fuse.Fuse.{Fuse}, transcript_law.specs.{Chronicles.{acknowledging, is_dial_for, is_name, is_rise, is_rollback, is_stream_of, past_mark, past_next, stream_branch}, LineAnswers.{rollbacks_in_lines}}}
use Rattle.transcript_law.{proofs.verbs.Untaken.{is_beside}, specs.Tellings.{are_all}}
use Rattle.vb_events.specs.declared.event.StreamName.TheVariants.{Link}
use Rattle.vb_types.specs.declared.journal.Record.TheVariants as noted
use Rattle.vb_disk.specs.declared.fuse.Fuse.TheVariants.{Off}
use Rattle.transcript_law.proofs.invariant.JobSteps.{shelf_found}

-- the vBuckets of a node and their journals
abbrev pub Kept : Type 0
Kept = States × Shelves

-- the same without the arm over the disk of the vBucket v
abbrev pub unarmed : ℕ → Kept → Kept
unarmed v kept = (kept.0, arm_over kept.1 v Off)

-- journals of other numbers are as they were
pub over_apart : (shelves : Shelves) (v : ℕ) (f : Fuse) (q : ℕ) → (q ≡ v → ⊥) → arm_over shelves v f q ≡ shelves q
over_apart shelves v f q ne = elim (shelves v) as (λ o. armed_at shelves v f o q ≡ shelves q) [ None ↦ refl | Some shelf ↦ ap (λ b. if b then Some (under f shelf) else shelves q) (ne_eqb q v ne) ]

-- the journal that the arm is over
pub over_here : (shelves : Shelves) (v : ℕ) (f : Fuse) (shelf : Shelf) → shelves v ≡ Some shelf → arm_over shelves v f v ≡ Some (under f shelf)
over_here shelves v f shelf has = ap (λ o. armed_at shelves v f o v) has ∙ shelf_found shelves v (under f shelf)

-- a line that is told before a record is written down: of a log that was taken over, a snapshot that begins, a change, what was acknowledged, or that the vBucket is about to take its branch over
abbrev pub IsOnward : Event → Type 0
IsOnward (Event.Adopted n v log) = Unit {0}
IsOnward (Event.Ranged n v ss se) = Unit {0}
IsOnward (Event.Got n v stream change) = Unit {0}
IsOnward (Event.Acknowledged stream n v seq saved) = Unit {0}
IsOnward (Event.Role n v Role.Pending) = Unit {0}
IsOnward other = ⊥

abbrev pub AreOnward : List Event → Type 0
AreOnward [] = Unit {0}
AreOnward (line ∷ lines) = IsOnward line × AreOnward lines

-- the branch of the stream of the link l, as lines tell
abbrev pub branch_told : Chronicle → ℕ → ℕ → Option ℕ
branch_told r l v = option_map stream_branch (r.stream_of (Link l) v)

-- it is that of the stream before, where that is told otherwise but of the same log
branch_same : (b : Bool) (f : Granted → Granted) (o : Option Granted) → ((g : Granted) → stream_branch (f g) ≡ stream_branch g) → option_map stream_branch (if b then option_map f o else o) ≡ option_map stream_branch o
branch_same true f None same = refl
branch_same true f (Some g) same = ap Some (same g)
branch_same false f o same = refl

-- it leaves dials, arms, what was written down, where requests were sent back, the states that were put, who writes on which branch, and the branches of streams
pub record SameBeside (r r' : Chronicle) : Type 0 where
  pub dials : r'.dial_of ≡ r.dial_of
  pub arms : r'.arm_at ≡ r.arm_at
  pub clocks : r'.clock_at ≡ r.clock_at
  pub disks : r'.disk_at ≡ r.disk_at
  pub points : r'.point_of ≡ r.point_of
  pub states : r'.stated_of ≡ r.stated_of
  pub writers : (u : ℕ) → r'.writer_of u ≡ r.writer_of u
  pub tree : r'.tree ≡ r.tree
  pub branches : (l v : ℕ) → branch_told r' l v ≡ branch_told r l v

pub onward_same : (r : Chronicle) (line : Event) → IsOnward line → SameBeside r (after_line r line)
onward_same r (Event.Adopted n v log) x = record { dials = refl; arms = refl; clocks = refl; disks = refl; points = refl; states = refl; writers = λ u. refl; tree = refl; branches = λ l w. refl }
onward_same r (Event.Ranged n v ss se) x = record { dials = refl; arms = refl; clocks = refl; disks = refl; points = refl; states = refl; writers = λ u. refl; tree = refl; branches = λ l w. branch_same (is_dial_for n v (r.dial_of l)) past_mark (r.stream_of (Link l) w) (λ g. refl) }
onward_same r (Event.Got n v stream change) x = record { dials = refl; arms = refl; clocks = refl; disks = refl; points = refl; states = refl; writers = λ u. refl; tree = refl; branches = λ l w. branch_same (is_name (Link l) stream && is_stream_of r stream w) past_next (r.stream_of (Link l) w) (λ g. refl) }
onward_same r (Event.Acknowledged stream n v seq saved) x = record { dials = refl; arms = refl; clocks = refl; disks = refl; points = refl; states = refl; writers = λ u. refl; tree = refl; branches = λ l w. branch_same (is_name (Link l) stream && is_stream_of r stream w) (acknowledging seq) (r.stream_of (Link l) w) (λ g. refl) }
onward_same r (Event.Role n v Role.Pending) x = record { dials = refl; arms = refl; clocks = refl; disks = refl; points = refl; states = refl; writers = λ u. refl; tree = refl; branches = λ l w. refl }
onward_same r other x = absurd x

pub onward_all : (r : Chronicle) (lines : List Event) → AreOnward lines → SameBeside r (after_lines r lines)
onward_all r [] x = record { dials = refl; arms = refl; clocks = refl; disks = refl; points = refl; states = refl; writers = λ u. refl; tree = refl; branches = λ l w. refl }
onward_all r (line ∷ lines) x =
    let a = onward_same r line x.0 in let b = onward_all (after_line r line) lines x.1 in
    record { dials = b.dials ∙ a.dials; arms = b.arms ∙ a.arms; clocks = b.clocks ∙ a.clocks; disks = b.disks ∙ a.disks; points = b.points ∙ a.points; states = b.states ∙ a.states; writers = λ u. b.writers u ∙ a.writers u; tree = b.tree ∙ a.tree; branches = λ l v. b.branches l v ∙ a.branches l v }

-- and tells of no rollback
pub onward_none : (lines : List Event) → AreOnward lines → list_any is_rollback lines ≡ false
onward_none [] x = refl
onward_none (Event.Adopted n v log ∷ lines) x = onward_none lines x.1
onward_none (Event.Ranged n v ss se ∷ lines) x = onward_none lines x.1
onward_none (Event.Got n v stream change ∷ lines) x = onward_none lines x.1
onward_none (Event.Acknowledged stream n v seq saved ∷ lines) x = onward_none lines x.1
onward_none (Event.Role n v Role.Pending ∷ lines) x = onward_none lines x.1
onward_none (other ∷ lines) x = absurd x.0

-- and of no vBucket that is active
pub onward_level : (lines : List Event) → AreOnward lines → list_any is_rise lines ≡ false
onward_level [] x = refl
onward_level (Event.Adopted n v log ∷ lines) x = onward_level lines x.1
onward_level (Event.Ranged n v ss se ∷ lines) x = onward_level lines x.1
onward_level (Event.Got n v stream change ∷ lines) x = onward_level lines x.1
onward_level (Event.Acknowledged stream n v seq saved ∷ lines) x = onward_level lines x.1
onward_level (Event.Role n v Role.Pending ∷ lines) x = onward_level lines x.1
onward_level (other ∷ lines) x = absurd x.0

pub onward_more : (lines : List Event) (line : Event) → AreOnward lines → IsOnward line → AreOnward (lines ++ line ∷ [])
onward_more [] line x y = (y, tt)
onward_more (before ∷ lines) line x y = (x.0, onward_more lines line x.1 y)

-- behind them one of a rollback
pub rolled_last : (lines : List Event) (n v named to : ℕ) → list_any is_rollback (lines ++ Event.Rolled n v named to ∷ []) ≡ true
rolled_last [] n v named to = refl
rolled_last (line ∷ lines) n v named to = elim (is_rollback line) as (λ b. (b || list_any is_rollback (lines ++ Event.Rolled n v named to ∷ [])) ≡ true) [ true ↦ refl | false ↦ rolled_last lines n v named to ]

-- which is the only one
pub one_back : (lines : List Event) (n v named to : ℕ) → AreOnward lines → rollbacks_in_lines (lines ++ Event.Rolled n v named to ∷ []) ≡ (n, (v, noted.Roll to)) ∷ []
one_back [] n v named to x = refl
one_back (Event.Adopted m q log ∷ lines) n v named to x = one_back lines n v named to x.1
one_back (Event.Ranged m q ss se ∷ lines) n v named to x = one_back lines n v named to x.1
one_back (Event.Got m q stream change ∷ lines) n v named to x = one_back lines n v named to x.1
one_back (Event.Acknowledged stream m q seq saved ∷ lines) n v named to x = one_back lines n v named to x.1
one_back (Event.Role m q Role.Pending ∷ lines) n v named to x = one_back lines n v named to x.1
one_back (other ∷ lines) n v named to x = absurd x.0

-- a link's end is none
pub ended_back : (lines : List Event) (l : ℕ) (why : EndReason) → rollbacks_in_lines (lines ++ Event.Ended l why ∷ []) ≡ rollbacks_in_lines lines
ended_back [] l why = refl
ended_back (Event.Rolled n v named to ∷ lines) l why = ap (λ told. (n, (v, noted.Roll to)) ∷ told) (ended_back lines l why)
ended_back (other ∷ lines) l why = ended_back lines l why

-- of none of them a takeover has a word
pub onward_beside : (lines : List Event) → AreOnward lines → are_all is_beside lines ≡ true
onward_beside [] x = refl
onward_beside (Event.Adopted n v log ∷ lines) x = onward_beside lines x.1
onward_beside (Event.Ranged n v ss se ∷ lines) x = onward_beside lines x.1
onward_beside (Event.Got n v stream change ∷ lines) x = onward_beside lines x.1
onward_beside (Event.Acknowledged stream n v seq saved ∷ lines) x = onward_beside lines x.1
onward_beside (Event.Role n v Role.Pending ∷ lines) x = onward_beside lines x.1
onward_beside (other ∷ lines) x = absurd x.0
