-- lines of streams whose snapshots come from the journal, to be judged by hand
use Rattle.std.specs.Prelude.{ℕ, Bool, true, false, ◌==◌, ◌&&◌, if◌then◌else◌, List, [], ◌∷◌, map, Some, None}
use Rattle.mcbp_dcp.specs.declared.message.DcpMsg.TheVariants as msg
use Rattle.vb_types.specs.declared.change.Act.TheVariants.{Remove, Prepare, Commit, Abort}
use Rattle.vb_types.specs.declared.change.Change.{Change}
use Rattle.vb_types.specs.declared.change.Level.TheVariants.{Majority, PersistMajority}
use Rattle.vb_events.specs.declared.event.Event.{Event}
use Rattle.vb_events.specs.declared.event.Event.TheVariants as event
use Rattle.vb_events.specs.declared.event.StreamName.TheVariants as name
use Rattle.journal_points.specs.Rows.{change_of, commit_b, doc_of, prepare_b, set_a, set_b}
use Rattle.transcript_law.specs.Chronicles.{Begun, Chronicle, Granted, blank_disk, empty_chronicle, granted, is_name, with_at}
use Rattle.transcript_law.specs.ClientStreamRows.{all_changes, frame_of, fresh, holding, knows, one, tree_of, with_streams}
use Rattle.transcript_law.specs.ClientStreams.{ClientStream, view}
use Rattle.transcript_law.specs.Followers.{ask_above, ask_within, log_of}
use Rattle.transcript_law.specs.Lawfulness.{LawfulFrom}
use Rattle.transcript_law.specs.StreamLaws.{item_of_change, line_act}

-- ---- changes, and what a journal gives of them

-- a is set (1), b is prepared and committed (2, 3), as in the rows of `journal_points`; a's removal is prepared and committed (4, 5), c is prepared and given up (6, 7), and d is prepared and waits (8)
abbrev pub prepare_a : Change
prepare_a = change_of 4 97 (Prepare Majority (doc_of 40) true)

abbrev pub commit_a : Change
commit_a = change_of 5 97 (Commit 4 (doc_of 40) true)

abbrev pub prepare_c : Change
prepare_c = change_of 6 99 (Prepare Majority (doc_of 60) false)

abbrev pub abort_c : Change
abort_c = change_of 7 99 (Abort 6)

abbrev pub prepare_d : Change
prepare_d = change_of 8 100 (Prepare PersistMajority (doc_of 80) false)

abbrev pub eight : List Change
eight = set_a ∷ prepare_b ∷ commit_b ∷ prepare_a ∷ commit_a ∷ prepare_c ∷ abort_c ∷ prepare_d ∷ []

-- a's removal as it is sent, as `set_b` is b's commit
abbrev pub remove_a : Change
remove_a = change_of 5 97 (Remove 40 1)

-- what none of them replaced, as it is sent; and of the first five
abbrev pub unreplaced : List Change
unreplaced = set_b ∷ remove_a ∷ abort_c ∷ prepare_d ∷ []

abbrev pub first_two : List Change
first_two = set_b ∷ remove_a ∷ []

-- ---- a link

-- what was read when the link 1 was dialed to the vBucket 0 of the node 0, and its stream of the branch 5 is this; the branch has those changes, and this counts as saved at the vBucket and at no other
abbrev pub fed : ℕ → Granted → Chronicle
fed saved g = record empty_chronicle {
  tree = tree_of eight;
  dial_of = λ l. if l == 1 then Some (record { producer = 0; node = 1; vb = 0 }) else None;
  stream_of = λ s v. if is_name s (name.Link 1) && v == 0 then Some g else None;
  disk_at = with_at (λ n v. blank_disk) 0 0 (record blank_disk { saved = saved });
}

-- a stream that was granted, from 0, and from 1 inside a snapshot that ends at 3
abbrev pub from_start : Granted
from_start = granted (ask_above 0 0) (log_of 5)

abbrev pub from_inside : Granted
from_inside = granted (ask_within 0 1 3 5) (log_of 5)

-- a snapshot of the branch, from the journal or not, of which these were put
abbrev pub begins : Bool → ℕ → ℕ → List Change → Begun
begins disk from end put = record { history = eight; from = from; end = end; disk = disk; items = map item_of_change put }

-- the stream in it
abbrev pub within : Begun → Granted → Granted
within b g = record g { place = b.end; last = Some b }

-- so much is saved at another vBucket alone
abbrev pub saved_elsewhere : Granted → Chronicle
saved_elsewhere g = record (fed 0 g) { disk_at = with_at (λ n v. blank_disk) 1 0 (record blank_disk { saved = 8 }) }

-- a marker, an item and an end
abbrev pub marks : ℕ → ℕ → ℕ → Event
marks start end flags = event.Marked (name.Link 1) start end flags

abbrev pub sends : Change → Event
sends c = event.Item (name.Link 1) c.seq (line_act c.act) c.key

abbrev pub ends : Event
ends = event.Finished (name.Link 1) 2

-- ---- a client

-- where vBuckets hold those changes, and this counts as saved at each, and a client has this stream, the lines are lawful
abbrev pub LawfulSaved : ℕ → ClientStream → List Event → Type 0
LawfulSaved saved g lines = LawfulFrom (record (holding eight eight) { clients_at = knows (with_streams (one g)); disk_at = λ n v. record blank_disk { saved = saved } }) lines

-- a stream of all changes, in a snapshot from the journal up to `end`, of which these were put
abbrev pub put_from_disk : Bool → ℕ → List Change → ClientStream
put_from_disk sync end put = record (fresh sync all_changes) { place = end; last = Some (record { history = view sync eight; from = 0; end = end; disk = true; items = map item_of_change put }) }

-- a marker with its frame
abbrev pub marked_so : ℕ → ℕ → ℕ → List Event
marked_so start end flags = event.Marked (name.Client 0 1) start end flags ∷ frame_of 0 (msg.SnapshotMarker start end flags) ∷ []
