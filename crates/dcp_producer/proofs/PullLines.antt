-- what a producer tells as it puts the frames of its streams, and which calls it makes, whatever the replies of vBuckets and whatever its streams are
use Rattle.std.proofs.Common.{◌≡◌, ℕ, suc, List, [], ◌∷◌}
use Rattle.std.specs.List.{All}
use Rattle.std.proofs.lemmas.List.Elements.{All-cons, All-nil}
use Rattle.mcbp_frame.specs.declared.frame.Frame.{Frame}
use Rattle.vb_types.specs.declared.change.Change.{Change}
use Rattle.vb_types.specs.declared.role.Role.{Role}
use Rattle.vb_events.specs.declared.event.Event.{Event}
use Rattle.vb_events.specs.declared.event.Event.TheVariants as event
use Rattle.vb_events.specs.declared.event.StreamName.{StreamName}
use Rattle.vb_calls.specs.declared.calls.VbCall.{VbCall}
use Rattle.vb_calls.specs.declared.calls.VbCall.TheVariants as call
use Rattle.vb_calls.specs.Jobs.{AlwaysJob, IsRead}
use Rattle.vb_calls.specs.Programs.{AnyReply}
use Rattle.dcp_producer.specs.declared.halt.Halt.{Halt}
use Rattle.dcp_producer.specs.Firsts.{start_sent}
use Rattle.dcp_producer.specs.Frames.{item_line, marker_flags}
use Rattle.dcp_producer.specs.Pairs.{AnyGot, PutFew}
use Rattle.dcp_producer.specs.Producers.{PlainProducer, PlainStream, Served}
use Rattle.dcp_producer.specs.Pulling.{frame_put, frames_put}
use Rattle.dcp_producer.proofs.Gots.{got_any, got_so}
use Rattle.dcp_producer.proofs.Putting.{Lines as LinesOf, Puts as PutsOf, Takes as TakesOf, frames_come}

-- the calls that a stream makes for its next frame are of a kind
pub record Takes (kind : VbCall → Type 0) : Type 0 where
  pub places : (id : ℕ) → kind (call.Place id)
  pub takes : (id : ℕ) → kind (call.Take id)
  pub closes : (id : ℕ) → kind (call.CloseStream id)

-- the lines of a stream's frames are such
pub record Lines (L : StreamName → Event → Type 0) : Type 0 where
  pub items : (name : StreamName) (c : Change) → L name (item_line name c)
  pub markers : (name : StreamName) (start end flags : ℕ) → L name (event.Marked name start end flags)
  pub ends : (name : StreamName) (reason : ℕ) → L name (event.Finished name reason)
  pub states : (name : StreamName) (told : Role) → L name (event.Stated name told)

abbrev AnyStream : PlainStream → Type 0
AnyStream stream = Unit {0}

any_streams : (xs : List PlainStream) → All AnyStream xs
any_streams [] = All-nil AnyStream
any_streams (x ∷ xs) = All-cons AnyStream x xs tt (any_streams xs)

module _ (kind : VbCall → Type 0) (L : StreamName → Event → Type 0) (takes : Takes kind) (lines : Lines L) where
  abbrev Line : StreamName → Frame → Event → Type 0
  Line name f line = L name line

  takes_all : TakesOf AnyReply AnyGot (λ v made. kind made) AnyStream
  takes_all = record {
    places = λ stream any. takes.places stream.id;
    takes = λ stream any. takes.takes stream.id;
    closes = λ stream any. takes.closes stream.id;
    passed = λ stream c is any. tt;
    marked = λ stream reply snapshot may is any. tt;
    read = λ stream end reading snapshot may is any. tt;
    unread = λ stream unread any. tt;
    given = λ stream gives any. tt;
  }

  lines_all : LinesOf AnyReply AnyGot AnyStream Line
  lines_all = record {
    items = λ name stream c is any. lines.items name c;
    markers = λ name stream snapshot given any. lines.markers name (start_sent stream.marked stream.first snapshot.start) snapshot.end (marker_flags snapshot.disk);
    ends = λ name stream reason any. lines.ends name reason;
    states = λ name stream told one any. lines.states name told;
  }

  -- what holds of a connection after so many frames, and whatever its streams are
  module _ (Q : ℕ → Served → Type 0) (keeps : (n : ℕ) (s : Served) (end : PlainProducer) → end.desk ≡ s.end.desk → Q n s → Q n (record s { end = end }))
      (puts : (n : ℕ) (s : Served) (f : Frame) (line : Event) → L s.end.desk.stream line → Q n s → Q (suc n) (frame_put f line s)) where
    -- what a pull comes to
    abbrev pub Puts : ℕ → Served × Halt → Type 0
    Puts k put = (n : ℕ) × Q n put.0 × PutFew k n put.1

    pub pull_so : (k : ℕ) (s : Served) → Q 0 s → AlwaysJob AnyReply (λ v made. kind made) IsRead (Puts k) (frames_put k s)
    pull_so k s c =
        got_any AnyReply (λ v made. kind made) (Puts k) (frames_put k s)
        (got_so AnyReply AnyGot (λ v made. kind made) (PutsOf AnyReply AnyGot (λ v made. kind made) AnyStream Line takes_all lines_all Q keeps puts k) (Puts k) (frames_put k s) (λ put so. (so.0, so.1, so.3))
        (frames_come AnyReply AnyGot (λ v made. kind made) AnyStream Line takes_all lines_all Q keeps puts k s c (any_streams s.end.streams)))
