-- how a stream goes on behind its next frame, and how frames and lines belong together
use Rattle.std.proofs.Common.{◌≡◌, ◌+◌, ◌≤◌, ◌<◌, ℕ, Bool, true, false, List, [], ◌∷◌, refl, sym, ap, ◌∙◌, subst, ◌⊎◌, inl, inr, arith, Option, Some, None}
use Rattle.std.specs.Prelude.{max, slice_get}
use Rattle.std.specs.List.{All}
use Rattle.std.proofs.lemmas.Bool.{cases_lt, false≢true}
use Rattle.std.proofs.lemmas.List.Elements.{All-head, All-tail, All-nil, All-cons}
use Rattle.std.proofs.Math.Nat.{max-eq_left, max-eq_right}
use Rattle.mcbp_frame.specs.declared.frame.Frame.{Frame}
use Rattle.mcbp_dcp.specs.declared.message.DcpMsg.{DcpMsg}
use Rattle.mcbp_dcp.specs.declared.message.DcpMsg.TheVariants as msg
use Rattle.mcbp_dcp.specs.DcpFrames.{dcp_frame}
use Rattle.vb_types.specs.declared.change.Act.{Act}
use Rattle.vb_types.specs.declared.change.Act.TheVariants as act
use Rattle.vb_types.specs.declared.change.Change.{Change}
use Rattle.vb_types.specs.declared.role.Role.{Role}
use Rattle.takeover.specs.GivingUp.{done}
use Rattle.takeover.specs.declared.give_up.GiveUp.{GiveUp}
use Rattle.vb_types.specs.declared.stream.Snapshot.{Snapshot}
use Rattle.vb_events.specs.declared.event.Event.{Event}
use Rattle.vb_events.specs.declared.event.Event.TheVariants as event
use Rattle.vb_events.specs.declared.event.StreamName.{StreamName}
use Rattle.vb_calls.specs.declared.calls.VbAnswer.TheVariants as answer
use Rattle.vb_calls.specs.declared.calls.VbCall.{VbCall}
use Rattle.vb_calls.specs.declared.calls.VbCall.TheVariants as call
use Rattle.vb_calls.specs.Programs.{Made}
use Rattle.vb_told.specs.Told.{ToldJob}
use Rattle.dcp_producer.specs.declared.halt.Halt.{Halt}
use Rattle.dcp_producer.specs.declared.next_frame.NextFrame.{NextFrame}
use Rattle.dcp_producer.specs.declared.next_frame.NextFrame.TheVariants as next
use Rattle.dcp_producer.specs.declared.next_frame.Waits.TheVariants as waits
use Rattle.dcp_producer.specs.Producers.{PlainStream, Served}
use Rattle.dcp_producer.specs.FirstMarkers.{IsStart}
use Rattle.dcp_producer.specs.Firsts.{as_sent, items_sent, start_sent}
use Rattle.dcp_producer.specs.Frames.{Next, act_message, act_sent, marker_flags, marker_next, next_frame, read_up}
use Rattle.dcp_producer.specs.Endings.{calls_in}
use Rattle.dcp_producer.specs.Ends.{AsksOn, IsPromised}
use Rattle.dcp_producer.specs.Going.{IsGiven, IsLarger, FollowsSo, ReachesSo, IsOfStream, ComesWithLine, LinesTell}
use Rattle.dcp_producer.specs.Having.{IsSound}
use Rattle.dcp_producer.specs.Items.{IsNext}
use Rattle.dcp_producer.specs.Orders.{IsOut}
use Rattle.dcp_producer.specs.Pulling.{frames_put}
use Rattle.dcp_producer.specs.Pulls.{PullsInTurn}
use Rattle.dcp_producer.specs.Turns.{Tried, IsTold, TakeTurns, waiting, turns_of, put_by}
use Rattle.dcp_producer.proofs.Firsts.{items_so, starts_so}
use Rattle.dcp_producer.proofs.Framing.{FrameCase, an_item, by_role, all_sent, it_waits, no_place, a_marker, nothing, all_up, a_state, awaits, no_take, from_disk, no_disk, frame_told}
use Rattle.dcp_producer.proofs.Dues.{apart, asks_kind, asks_on, awaits_at, is_sent, promised_so, said_so, sent_kind, take_said, some_within, state_kind, tells_at, waits_kind}
use Rattle.dcp_producer.proofs.Pulling.{pulls_in_turn}

larger : (a b : ℕ) → (a < b) ⊎ (b ≤ a) → IsLarger a b (max a b)
larger a b (inl below) = inr (below, max-eq_right (omega arith))
larger a b (inr within) = inl (within, max-eq_left within)

some_is : {X : Type 0} (x y : X) → Some x ≡ Some y → x ≡ y
some_is x y e = cc e

none_is : {X A : Type 0} (x : X) → None ≡ Some x → A
none_is x e = absurd (cc e)

-- ---- how it goes on

not_marker : (c : Change) (a : Act) (start end flags : ℕ) → act_message c a ≡ msg.SnapshotMarker start end flags → ⊥
not_marker c (act.Set doc) start end flags is = absurd (cc is)
not_marker c (act.Remove cas rev) start end flags is = absurd (cc is)
not_marker c (act.Prepare level doc deleted) start end flags is = absurd (cc is)
not_marker c (act.Commit prepared doc deleted) start end flags is = absurd (cc is)
not_marker c (act.Abort prepared) start end flags is = absurd (cc is)

not_state : (c : Change) (a : Act) (told : Role) → act_message c a ≡ msg.SetVbucketState told → ⊥
not_state c (act.Set doc) told is = absurd (cc is)
not_state c (act.Remove cas rev) told is = absurd (cc is)
not_state c (act.Prepare level doc deleted) told is = absurd (cc is)
not_state c (act.Commit prepared doc deleted) told is = absurd (cc is)
not_state c (act.Abort prepared) told is = absurd (cc is)

put_message : DcpMsg → NextFrame → DcpMsg
put_message m (next.Put n line) = n
put_message m other = m

put_line : Event → NextFrame → Event
put_line line (next.Put m told) = told
put_line line other = line

is_disk : NextFrame → Bool
is_disk next.Disk = true
is_disk other = false

is_put : NextFrame → Bool
is_put (next.Put m line) = true
is_put other = false

module _ (name : StreamName) (stream : PlainStream) (made : List Made) (x : NextFrame) (left : PlainStream) where
  no_put : {A : Type 0} (m : DcpMsg) (line : Event) → is_put x ≡ false → x ≡ next.Put m line → A
  unfolding is_put
  no_put m line none is = absurd (false≢true (sym none ∙ ap is_put is))

  -- the calls that it makes where all is read
  abbrev Calls : Type 0
  Calls = (more : List (ℕ × VbCall)) × (calls_in made ≡ (stream.vb, call.Place stream.id) ∷ more)

  -- what is so of a stream that puts no frame, of which all but what is not read stays
  rest_so : is_put x ≡ false → left ≡ record stream { unread = left.unread } → ((c : Change) → IsNext stream c → ⊥) → (AsksOn stream → stream.unread ≡ None → Calls)
      → (x ≡ next.Disk → AsksOn stream × ((end : ℕ) × IsPromised stream made end × (left.unread ≡ Some end))) → (AsksOn stream → (x ≡ next.Disk → ⊥) → left.unread ≡ None) → ((AsksOn stream → ⊥) → left.unread ≡ stream.unread)
      → FollowsSo stream made x left × ReachesSo stream x left
  rest_so none same no_item asks disk read kept = (
    record {
      item = λ c is. absurd (no_item c is);
      asks = asks;
      marker = λ start end flags line is. no_put (msg.SnapshotMarker start end flags) line none is;
      state = λ told line is. no_put (msg.SetVbucketState told) line none is;
      still = λ out. same;
      disk = disk;
      read = read;
      kept = kept;
    },
    record {
      item = λ n m seq sent key is. no_put m (event.Item n seq sent key) none is;
      else = λ other. ap (λ (s : PlainStream). s.reached) same;
    },
  )

  -- it puts none, asks nobody, and stays
  stays_so : is_put x ≡ false → (x ≡ next.Disk → ⊥) → left ≡ stream → ((c : Change) → IsNext stream c → ⊥) → (AsksOn stream → ⊥) → FollowsSo stream made x left × ReachesSo stream x left
  stays_so none not_disk same no_item never =
      rest_so none (same ∙ (λ i. record stream { unread = (sym (ap (λ (s : PlainStream). s.unread) same)) i })) no_item (λ on unread. absurd (never on)) (λ is. absurd (not_disk is)) (λ on other. absurd (never on))
      (λ other. ap (λ (s : PlainStream). s.unread) same)

  -- it puts none, and all is read
  reads_so : is_put x ≡ false → (x ≡ next.Disk → ⊥) → left ≡ read_up stream → ((c : Change) → IsNext stream c → ⊥) → AsksOn stream → Calls → FollowsSo stream made x left × ReachesSo stream x left
  reads_so none not_disk same no_item on calls =
      rest_so none (same ∙ (λ i. record stream { unread = (sym (ap (λ (s : PlainStream). s.unread) same)) i })) no_item (λ on unread. calls) (λ is. absurd (not_disk is)) (λ on other. ap (λ (s : PlainStream). s.unread) same)
      (λ other. absurd (other on))

  nothing_next : slice_get stream.items stream.next ≡ None → (c : Change) → IsNext stream c → ⊥
  nothing_next put c is = none_is c (sym put ∙ is)

  -- it puts a state
  tells_so : (g : GiveUp) (told : Role) (unread : Option ℕ) → x ≡ next.Put (msg.SetVbucketState told) (event.Stated name told) → left ≡ record stream { gives = Some g; unread = unread } → ((c : Change) → IsNext stream c → ⊥)
      → (AsksOn stream → Calls × (unread ≡ None)) → ((AsksOn stream → ⊥) → unread ≡ stream.unread) → FollowsSo stream made x left × ReachesSo stream x left
  tells_so g told unread comes goes no_item asks kept =
      let same : left.unread ≡ unread = ap (λ (s : PlainStream). s.unread) goes in (
        record {
          item = λ c is. absurd (no_item c is);
          asks = λ on all_read. (asks on).0;
          marker = λ start end flags line marks. absurd (let e : next.Put (msg.SetVbucketState told) (event.Stated name told) ≡ next.Put (msg.SnapshotMarker start end flags) line = sym comes ∙ marks in cc e);
          state = λ other line is. goes ∙ (λ i. record stream { gives = (sym (ap (λ (s : PlainStream). s.gives) goes)) i; unread = sym same i });
          still = λ out. absurd (subst IsOut comes out);
          disk = λ is. absurd (let e : next.Put (msg.SetVbucketState told) (event.Stated name told) ≡ next.Disk = sym comes ∙ is in cc e);
          read = λ on other. same ∙ (asks on).1;
          kept = λ other. same ∙ kept other;
        },
        record {
          item = λ n m seq sent key puts. absurd (let e : next.Put (msg.SetVbucketState told) (event.Stated name told) ≡ next.Put m (event.Item n seq sent key) = sym comes ∙ puts in cc e);
          else = λ other. ap (λ (s : PlainStream). s.reached) goes;
        },
      )

  -- it puts the marker of what it was given
  marks_so : (snapshot : Snapshot) → AsksOn stream → ((c : Change) → IsNext stream c → ⊥) → (stream.unread ≡ None → Calls) → IsGiven stream made snapshot
      → ◌≡◌ {A = Next} (x, left) (marker_next name (read_up stream) (as_sent stream snapshot)) → FollowsSo stream made x left × ReachesSo stream x left
  marks_so snapshot on no_item asks given is =
      let start : ℕ = start_sent stream.marked stream.first snapshot.start in
      let items : List Change = items_sent stream.marked stream.first snapshot.items in
      let comes : x ≡ next.Put (msg.SnapshotMarker start snapshot.end (marker_flags snapshot.disk)) (event.Marked name start snapshot.end (marker_flags snapshot.disk)) = ap (λ (y : Next). y.0) is in
      let goes : left ≡ record stream { items = items; next = 0; marked = Some snapshot.end; place = snapshot.end; unread = None } = ap (λ (y : Next). y.1) is in (
        record {
          item = λ c is_next. absurd (no_item c is_next);
          asks = λ on unread. asks unread;
          marker = λ start' end flags line marks.
              let e : next.Put (msg.SnapshotMarker start snapshot.end (marker_flags snapshot.disk)) (event.Marked name start snapshot.end (marker_flags snapshot.disk)) ≡ next.Put (msg.SnapshotMarker start' end flags) line = sym comes ∙ marks in
              let a : start ≡ start' = cc e in
              let b : snapshot.end ≡ end = cc e in
              (snapshot, given, subst (IsStart stream snapshot) a (starts_so stream snapshot), sym b, items, items_so stream snapshot, goes);
          state = λ told line tells. absurd (let e : next.Put (msg.SnapshotMarker start snapshot.end (marker_flags snapshot.disk)) (event.Marked name start snapshot.end (marker_flags snapshot.disk)) ≡ next.Put (msg.SetVbucketState told) line = sym comes ∙ tells in cc e);
          still = λ out. absurd (subst IsOut comes out);
          disk = λ is_disk. absurd (let e : next.Put (msg.SnapshotMarker start snapshot.end (marker_flags snapshot.disk)) (event.Marked name start snapshot.end (marker_flags snapshot.disk)) ≡ next.Disk = sym comes ∙ is_disk in cc e);
          read = λ on other. ap (λ (s : PlainStream). s.unread) goes;
          kept = λ other. absurd (other on);
        },
        record {
          item = λ n m seq sent key puts.
              absurd (let e : next.Put (msg.SnapshotMarker start snapshot.end (marker_flags snapshot.disk)) (event.Marked name start snapshot.end (marker_flags snapshot.disk)) ≡ next.Put m (event.Item n seq sent key) = sym comes ∙ puts in cc e);
          else = λ other. ap (λ (s : PlainStream). s.reached) goes;
        },
      )

  -- what is promised and not read yet, or its vBucket was asked first
  promised_asks : (end : ℕ) → IsPromised stream made end → stream.unread ≡ None → Calls
  promised_asks end (inl (unread, none)) all_read = absurd (let e : Some end ≡ None = sym unread ∙ all_read in cc e)
  promised_asks end (inr (from, said, calls)) all_read = ([], ap (λ (ms : List Made). calls_in ms) calls)

  -- it is neither of both
  no_disk_of : (y : NextFrame) → x ≡ y → is_disk y ≡ false → x ≡ next.Disk → ⊥
  unfolding is_disk
  no_disk_of y there none is = absurd (false≢true (sym none ∙ ap is_disk (sym there ∙ is)))

  follows : FrameCase name stream made (x, left) → FollowsSo stream made x left × ReachesSo stream x left
  unfolding is_put is_disk
  follows (an_item c there none is) =
      let comes : x ≡ next.Put (act_message c c.act) (event.Item name c.seq (act_sent c.act) c.key) = ap (λ (y : Next). y.0) is in
      let goes : left ≡ record stream { next = stream.next + 1; reached = max stream.reached c.seq } = ap (λ (y : Next). y.1) is in
      let reached : left.reached ≡ max stream.reached c.seq = ap (λ (s : PlainStream). s.reached) goes in (
        record {
          item = λ d is_next. (none, goes ∙ (λ i. record stream { next = stream.next + 1; reached = sym reached i }));
          asks = λ on unread. let within : stream.next < _ = some_within stream.items stream.next c there in let behind = on.behind in absurd (omega (arith, within, behind));
          marker = λ start end flags line marks. absurd (not_marker c c.act start end flags (let e : next.Put (act_message c c.act) (event.Item name c.seq (act_sent c.act) c.key) ≡ next.Put (msg.SnapshotMarker start end flags) line = sym comes ∙ marks in cc e));
          state = λ told line tells. absurd (not_state c c.act told (let e : next.Put (act_message c c.act) (event.Item name c.seq (act_sent c.act) c.key) ≡ next.Put (msg.SetVbucketState told) line = sym comes ∙ tells in cc e));
          still = λ out. absurd (subst IsOut comes out);
          disk = λ is_disk. absurd (let e : next.Put (act_message c c.act) (event.Item name c.seq (act_sent c.act) c.key) ≡ next.Disk = sym comes ∙ is_disk in cc e);
          read = λ on other. let within : stream.next < _ = some_within stream.items stream.next c there in let behind = on.behind in absurd (omega (arith, within, behind));
          kept = λ other. ap (λ (s : PlainStream). s.unread) goes;
        },
        record {
          item = λ n m seq sent key puts.
              let e : next.Put (act_message c c.act) (event.Item name c.seq (act_sent c.act) c.key) ≡ next.Put m (event.Item n seq sent key) = sym comes ∙ puts in
              let s : c.seq ≡ seq = cc e in
              subst (IsLarger stream.reached seq) (sym reached) (subst (λ q. IsLarger stream.reached seq (max stream.reached q)) (sym s) (larger stream.reached seq (cases_lt stream.reached seq)));
          else = λ other. absurd (other name (act_message c c.act) c.seq (act_sent c.act) c.key comes);
        },
      )
  follows (by_role put ended none is) =
      stays_so (ap (λ (y : Next). is_put y.0) is) (no_disk_of (next.End 2) (ap (λ (y : Next). y.0) is) refl) (ap (λ (y : Next). y.1) is) (nothing_next put) (λ on. false≢true (sym on.alive ∙ ended))
  follows (all_sent put alive reaches reply calls is) =
      stays_so (ap (λ (y : Next). is_put y.0) is) (no_disk_of (next.End 0) (ap (λ (y : Next). y.0) is) refl) (ap (λ (y : Next). y.1) is) (nothing_next put)
      (λ on. apart stream 0 1 (asks_kind stream on) (sent_kind stream (is_sent stream reaches)) refl)
  follows (it_waits more reply said calls is) =
      reads_so (ap (λ (y : Next). is_put y.0) is) (no_disk_of (next.Quiet waits.Saved) (ap (λ (y : Next). y.0) is) refl) (ap (λ (y : Next). y.1) is) (nothing_next more.put) (asks_on stream more) ([], ap (λ (ms : List Made). calls_in ms) calls)
  follows (no_place more reply none calls is) =
      reads_so (ap (λ (y : Next). is_put y.0) is) (no_disk_of (next.End 2) (ap (λ (y : Next). y.0) is) refl) (ap (λ (y : Next). y.1) is) (nothing_next more.put) (asks_on stream more) ([], ap (λ (ms : List Made). calls_in ms) calls)
  follows (a_marker more from reply snapshot placed said calls is) =
      marks_so snapshot (asks_on stream more) (nothing_next more.put) (λ unread. ((stream.vb, call.Take stream.id) ∷ [], ap (λ (ms : List Made). calls_in ms) calls))
      (inl (reply, (from, take_said from placed, calls), said_so reply (answer.Taken snapshot) said)) is
  follows (from_disk more end reading snapshot promised found is) =
      let so : IsPromised stream made end = promised_so stream made end promised in
      marks_so snapshot (asks_on stream more) (nothing_next more.put) (promised_asks end so) (inr (end, so, reading, found)) is
  follows (no_disk more end reading promised found is) =
      let so : IsPromised stream made end = promised_so stream made end promised in
      let same : left ≡ record stream { unread = Some end } = ap (λ (y : Next). y.1) is in
      let unread : left.unread ≡ Some end = ap (λ (s : PlainStream). s.unread) same in
      let comes : x ≡ next.Disk = ap (λ (y : Next). y.0) is in
      rest_so (ap (λ (y : Next). is_put y.0) is) (same ∙ (λ i. record stream { unread = sym unread i })) (nothing_next more.put) (λ on. promised_asks end so) (λ is_disk. (asks_on stream more, (end, so, unread)))
      (λ on other. absurd (other comes)) (λ other. absurd (other (asks_on stream more)))
  follows (all_up more g gives told tells from reply placed said calls is) =
      tells_so (done (done g)) told None (ap (λ (y : Next). y.0) is) (ap (λ (y : Next). y.1) is) (nothing_next more.put)
      (λ on. (((stream.vb, call.Take stream.id) ∷ [], ap (λ (ms : List Made). calls_in ms) calls), refl)) (λ other. absurd (other (asks_on stream more)))
  follows (a_state put alive g gives told tells none is) =
      tells_so (done g) told stream.unread (ap (λ (y : Next). y.0) is) (ap (λ (y : Next). y.1) is) (nothing_next put)
      (λ on. apart stream 0 2 (asks_kind stream on) (state_kind stream (tells_at stream g gives g.step refl told tells)) refl) (λ other. refl)
  follows (awaits put alive g gives waiting none is) =
      stays_so (ap (λ (y : Next). is_put y.0) is) (no_disk_of (next.Quiet waits.State) (ap (λ (y : Next). y.0) is) refl) (ap (λ (y : Next). y.1) is) (nothing_next put)
      (λ on. apart stream 0 3 (asks_kind stream on) (waits_kind stream (awaits_at stream g gives g.step refl waiting)) refl)
  follows (nothing more gives from reply placed said calls is) =
      reads_so (ap (λ (y : Next). is_put y.0) is) (no_disk_of (next.Quiet waits.Nothing) (ap (λ (y : Next). y.0) is) refl) (ap (λ (y : Next). y.1) is) (nothing_next more.put) (asks_on stream more)
      ((stream.vb, call.Take stream.id) ∷ [], ap (λ (ms : List Made). calls_in ms) calls)
  follows (no_take more from reply placed not_taken none calls is) =
      reads_so (ap (λ (y : Next). is_put y.0) is) (no_disk_of (next.End 2) (ap (λ (y : Next). y.0) is) refl) (ap (λ (y : Next). y.1) is) (nothing_next more.put) (asks_on stream more)
      ((stream.vb, call.Take stream.id) ∷ [], ap (λ (ms : List Made). calls_in ms) calls)

pub follows_so : (name : StreamName) (stream left : PlainStream) (made : List Made) (x : NextFrame) → ToldJob (next_frame name stream) made (x, left) → FollowsSo stream made x left
follows_so name stream left made x told = (follows name stream made x left (frame_told name stream made (x, left) told)).0

pub reaches_on : (name : StreamName) (stream left : PlainStream) (made : List Made) (x : NextFrame) → ToldJob (next_frame name stream) made (x, left) → ReachesSo stream x left
reaches_on name stream left made x told = (follows name stream made x left (frame_told name stream made (x, left) told)).1

-- ---- frames and lines

module _ (name : StreamName) (stream : PlainStream) where
  item_line_of : (c : Change) (a : Act) (opaque vb : ℕ) → opaque ≡ stream.opaque → vb ≡ stream.vb → IsOfStream name stream (dcp_frame (act_message c a) opaque vb, event.Item name c.seq (act_sent a) c.key)
  unfolding dcp_frame
  item_line_of c (act.Set doc) opaque vb o v = ((refl, refl), o, v)
  item_line_of c (act.Remove cas rev) opaque vb o v = ((refl, refl), o, v)
  item_line_of c (act.Prepare level doc deleted) opaque vb o v = ((refl, refl), o, v)
  item_line_of c (act.Commit prepared doc deleted) opaque vb o v = ((refl, refl), o, v)
  item_line_of c (act.Abort prepared) opaque vb o v = ((refl, refl), o, v)

  one_line : (f : Frame × Event) → IsOfStream name stream f → All (IsOfStream name stream) (f ∷ [])
  one_line f is = All-cons (IsOfStream name stream) f [] is (All-nil (IsOfStream name stream))

  end_line_of : (reason : ℕ) → All (IsOfStream name stream) (put_by name (next.End reason) stream)
  unfolding dcp_frame
  end_line_of reason = one_line (dcp_frame (msg.StreamEnd reason) stream.opaque stream.vb, event.Finished name reason) ((refl, refl), refl, refl)

  marker_line_of : (snapshot : Snapshot) → let start : ℕ = start_sent stream.marked stream.first snapshot.start in
      IsOfStream name stream (dcp_frame (msg.SnapshotMarker start snapshot.end (marker_flags snapshot.disk)) stream.opaque stream.vb, event.Marked name start snapshot.end (marker_flags snapshot.disk))
  unfolding dcp_frame
  marker_line_of snapshot = ((refl, refl), refl, refl)

  state_line_of : (told : Role) → IsOfStream name stream (dcp_frame (msg.SetVbucketState told) stream.opaque stream.vb, event.Stated name told)
  unfolding dcp_frame
  state_line_of told = ((refl, refl), refl, refl)

  abbrev Lines : Next → Type 0
  Lines (x, left) = All (IsOfStream name stream) (put_by name x left)

  lines : (made : List Made) (y : Next) → FrameCase name stream made y → Lines y
  lines made y (an_item c there none is) = subst Lines (sym is) (one_line _ (item_line_of c c.act stream.opaque stream.vb refl refl))
  lines made y (by_role put ended none is) = subst Lines (sym is) (end_line_of 2)
  lines made y (all_sent put alive reaches reply calls is) = subst Lines (sym is) (end_line_of 0)
  lines made y (it_waits more reply said calls is) = subst Lines (sym is) (All-nil (IsOfStream name stream))
  lines made y (no_place more reply none calls is) = subst Lines (sym is) (end_line_of 2)
  lines made y (a_marker more from reply snapshot placed said calls is) = subst Lines (sym is) (one_line _ (marker_line_of snapshot))
  lines made y (from_disk more end reading snapshot promised found is) = subst Lines (sym is) (one_line _ (marker_line_of snapshot))
  lines made y (no_disk more end reading promised found is) = subst Lines (sym is) (All-nil (IsOfStream name stream))
  lines made y (all_up more g gives told tells from reply placed said calls is) = subst Lines (sym is) (one_line _ (state_line_of told))
  lines made y (a_state put alive g gives told tells none is) = subst Lines (sym is) (one_line _ (state_line_of told))
  lines made y (awaits put alive g gives waits none is) = subst Lines (sym is) (All-nil (IsOfStream name stream))
  lines made y (nothing more gives from reply placed said calls is) = subst Lines (sym is) (All-nil (IsOfStream name stream))
  lines made y (no_take more from reply placed not_taken none calls is) = subst Lines (sym is) (end_line_of 2)

told_each : (name : StreamName) (awake : List PlainStream) (tries : List Tried) (left : List PlainStream) → TakeTurns name awake tries left → All (IsTold name) tries
told_each name awake [] left turns = All-nil (IsTold name)
told_each name awake (t ∷ tries) left (rest, is, told, turns) = All-cons (IsTold name) t tries told (told_each name (waiting t.next t.left rest) tries left turns)

lines_each : (name : StreamName) (tries : List Tried) → All (IsTold name) tries → All (ComesWithLine name) tries
lines_each name [] told = All-nil (ComesWithLine name)
lines_each name (t ∷ tries) told =
    All-cons (ComesWithLine name) t tries (lines name t.stream t.made (t.next, t.left) (frame_told name t.stream t.made (t.next, t.left) (All-head (IsTold name) t tries told)))
    (lines_each name tries (All-tail (IsTold name) t tries told))

pub lines_tell : (k : ℕ) (s left : Served) (made : List Made) (halted : Halt) → IsSound s.end → ToldJob (frames_put k s) made (left, halted) → LinesTell k s made left halted
lines_tell k s left made halted sound told =
    let pull : PullsInTurn k s made left halted = pulls_in_turn s k made left halted sound told in
    record { pull = pull; each = lines_each s.end.desk.stream pull.tries (told_each s.end.desk.stream (turns_of s.end) pull.tries pull.awake pull.turns) }

-- ---- streams that a change of role ended

pub ended_asks : (name : StreamName) (stream left : PlainStream) (made : List Made) (x : NextFrame) → stream.ended ≡ true → ToldJob (next_frame name stream) made (x, left) → made ≡ []
ended_asks name stream left made x ended told = by (frame_told name stream made (x, left) told)
  where
    by : FrameCase name stream made (x, left) → made ≡ []
    by (an_item c there none is) = none
    by (by_role put on none is) = none
    by (all_sent put alive reaches reply calls is) = absurd (false≢true (sym alive ∙ ended))
    by (it_waits more reply said calls is) = absurd (false≢true (sym more.alive ∙ ended))
    by (no_place more reply none calls is) = absurd (false≢true (sym more.alive ∙ ended))
    by (a_marker more from reply snapshot placed said calls is) = absurd (false≢true (sym more.alive ∙ ended))
    by (from_disk more end reading snapshot promised found is) = absurd (false≢true (sym more.alive ∙ ended))
    by (no_disk more end reading promised found is) = absurd (false≢true (sym more.alive ∙ ended))
    by (all_up more g gives told tells from reply placed said calls is) = absurd (false≢true (sym more.alive ∙ ended))
    by (a_state put alive g gives told tells none is) = none
    by (awaits put alive g gives waits none is) = none
    by (nothing more gives from reply placed said calls is) = absurd (false≢true (sym more.alive ∙ ended))
    by (no_take more from reply placed not_taken none calls is) = absurd (false≢true (sym more.alive ∙ ended))
