-- the frames that a pull puts, each with its line
use Rattle.std.proofs.Common.{◌≡◌, ◌+◌, Bool, true, false, ℕ, zero, suc, List, [], ◌∷◌, ◌++◌, length, map, refl, sym, ap, ◌∙◌, subst, inl, inr, append-nil, append_assoc, arith, Some, Option}
use Rattle.std.specs.Prelude.{slice_get}
use Rattle.std.specs.List.{All, Contains, concat}
use Rattle.std.proofs.lemmas.List.{length-append, map-append}
use Rattle.std.proofs.lemmas.List.Elements.{All-contains_itself, All-cons, All-head, All-nil, All-push, All-tail}
use Rattle.mcbp_frame.specs.Spelling.{spelling}
use Rattle.mcbp_frame.specs.declared.frame.Frame.{Frame}
use Rattle.mcbp_dcp.specs.declared.message.DcpMsg.TheVariants as msg
use Rattle.vb_types.specs.Histories.{plain}
use Rattle.vb_types.specs.declared.change.Act.{Act}
use Rattle.vb_types.specs.declared.change.Act.TheVariants as act
use Rattle.vb_types.specs.declared.change.Change.{Change}
use Rattle.vb_types.specs.declared.stream.Snapshot.{Snapshot}
use Rattle.vb_events.specs.declared.event.Event.{Event}
use Rattle.vb_events.specs.declared.event.StreamName.{StreamName}
use Rattle.vb_calls.specs.declared.calls.VbAnswer.TheVariants as answer
use Rattle.vb_calls.specs.declared.calls.VbCall.{VbCall}
use Rattle.vb_calls.specs.declared.calls.VbCall.TheVariants as call
use Rattle.vb_calls.specs.declared.calls.VbReply.{VbReply}
use Rattle.vb_calls.specs.Jobs.{AlwaysJob, IsRead}
use Rattle.vb_calls.specs.Programs.{AnyCall, AnyReply}
use Rattle.vb_calls.specs.Shelves.{Ask, Got, Read, Reading}
use Rattle.backfill.specs.Backfills.{backfilled}
use Rattle.backfill.specs.declared.backfilled.Backfilled.TheVariants as filled
use Rattle.dcp_producer.specs.declared.halt.Halt.{Halt}
use Rattle.dcp_producer.specs.Cuts.{IsShort, pieces}
use Rattle.dcp_producer.specs.Firsts.{start_sent}
use Rattle.dcp_producer.specs.Frames.{marker_flags}
use Rattle.dcp_producer.specs.Pairs.{AlwaysGot, AnyChange, AnyGot, AreSpelled, GaveSpelled, GivesSpelled, GotSpelled, IsOneOf, IsPair, IsSpelledChange, PullsPairs, PutFew}
use Rattle.dcp_producer.specs.Producers.{PlainProducer, PlainStream, Served}
use Rattle.dcp_producer.specs.Pulling.{frame_put, frames_put}
use Rattle.dcp_producer.proofs.Firsts.{all_sent}
use Rattle.dcp_producer.proofs.Gots.{got_any, got_so}
use Rattle.dcp_producer.proofs.Headers.{pieces_are, spelled_short}
use Rattle.dcp_producer.proofs.Putting.{Lines, Puts, Takes, frames_come}

abbrev pub frame_of : Frame × Event → Frame
frame_of pair = pair.0

abbrev pub bytes_of : Frame × Event → List ℕ
bytes_of pair = spelling pair.0

abbrev pub line_of : Frame × Event → Event
line_of pair = pair.1

-- so many pairs were put behind this
pub record SoFar (P : Frame × Event → Type 0) (first : Served) (n : ℕ) (s : Served) : Type 0 where
  pub pairs : List (Frame × Event)
  pub each : All P pairs
  pub many : length pairs ≡ n
  pub told : s.events ≡ first.events ++ map line_of pairs
  pub out : s.out ≡ first.out ++ concat (map bytes_of pairs)
  pub count : s.count ≡ first.count + n
  pub resolved : s.resolved ≡ first.resolved
  pub desk : s.end.desk ≡ first.end.desk

module _ (P : Frame × Event → Type 0) (first : Served) where
  none_put : SoFar P first 0 first
  none_put = record { pairs = []; each = All-nil P; many = refl; told = sym (append-nil first.events); out = sym (append-nil first.out); count = omega arith; resolved = refl; desk = refl }

  one_put : (n : ℕ) (s : Served) (f : Frame) (line : Event) → P (f, line) → SoFar P first n s → SoFar P first (suc n) (frame_put f line s)
  one_put n s f line is so =
      let pair : Frame × Event = (f, line) in
      let many = so.many in
      let count = so.count in
      let long : length (so.pairs ++ pair ∷ []) ≡ length so.pairs + 1 = length-append so.pairs (pair ∷ []) in
      record {
        pairs = so.pairs ++ pair ∷ [];
        each = All-push P so.pairs pair so.each is;
        many = omega (arith, long, many);
        told = ap (λ ls. ls ++ line ∷ []) so.told ∙ append_assoc first.events (map line_of so.pairs) (line ∷ []) ∙ ap (λ ls. first.events ++ ls) (sym (map-append line_of so.pairs (pair ∷ [])));
        out = ap (λ bs. bs ++ spelling f) so.out ∙ append_assoc first.out (concat (map bytes_of so.pairs)) (spelling f) ∙ ap (λ bs. first.out ++ bs) (sym (bytes_more so.pairs));
        count = omega (arith, count);
        resolved = so.resolved;
        desk = so.desk;
      }
    where
      bytes_more : (pairs : List (Frame × Event)) → concat (map bytes_of (pairs ++ (f, line) ∷ [])) ≡ concat (map bytes_of pairs) ++ spelling f
      bytes_more [] = append-nil (spelling f)
      bytes_more (x ∷ pairs) = ap (λ bs. spelling x.0 ++ bs) (bytes_more pairs) ∙ sym (append_assoc (spelling x.0) (concat (map bytes_of pairs)) (spelling f))

-- ---- pairs of such streams

module _ (replies : VbCall → Option VbReply → Type 0) (gots : (ask : Ask) → Got ask → Type 0) (calls : ℕ → VbCall → Type 0) (G : PlainStream → Type 0) (takes : Takes replies gots calls G) where
  abbrev Line : StreamName → Frame → Event → Type 0
  Line name f line = IsPair G name (f, line)

  pairs_told : Lines replies gots G Line
  pairs_told = record {
    items = λ name stream c is g. inl (stream, g, c, is, refl, refl);
    markers = λ name stream snapshot given g. inr (inl (stream, g, start_sent stream.marked stream.first snapshot.start, snapshot.end, marker_flags snapshot.disk, refl, refl));
    ends = λ name stream reason g. inr (inr (inl (stream, g, reason, refl, refl)));
    states = λ name stream told one g. inr (inr (inr (stream, g, told, one, refl, refl)));
  }

  module _ (k : ℕ) (s : Served) (all : All G s.end.streams) where
    abbrev Q : ℕ → Served → Type 0
    Q n t = SoFar (IsPair G s.end.desk.stream) s n t

    keeps : (n : ℕ) (t : Served) (end : PlainProducer) → end.desk ≡ t.end.desk → Q n t → Q n (record t { end = end })
    keeps n t end same so = record { pairs = so.pairs; each = so.each; many = so.many; told = so.told; out = so.out; count = so.count; resolved = so.resolved; desk = same ∙ so.desk }

    puts : (n : ℕ) (t : Served) (f : Frame) (line : Event) → Line t.end.desk.stream f line → Q n t → Q (suc n) (frame_put f line t)
    puts n t f line is so = one_put (IsPair G s.end.desk.stream) s n t f line (subst (λ d. IsPair G d.stream (f, line)) so.desk is) so

    comes : (put : Served × Halt) → Puts replies gots calls G Line takes pairs_told Q keeps puts k put → PullsPairs G k s put
    comes (left, halted) (n, so, streams, few) = record {
      pairs = so.pairs;
      each = so.each;
      told = so.told;
      out = so.out;
      count = so.count ∙ ap (λ m. s.count + m) (sym so.many);
      few = subst (λ m. PutFew k m halted) (sym so.many) few;
      resolved = so.resolved;
      desk = so.desk;
    }

    -- each frame that is put has its line
    pub pairs_put : AlwaysGot replies gots calls (PullsPairs G k s) (frames_put k s)
    pairs_put = got_so replies gots calls (Puts replies gots calls G Line takes pairs_told Q keeps puts k) (PullsPairs G k s) (frames_put k s) comes
        (frames_come replies gots calls G Line takes pairs_told Q keeps puts k s (none_put (IsPair G s.end.desk.stream) s) all)

-- ---- of the streams of a connection, by their items

module _ (replies : VbCall → Option VbReply → Type 0) (gots : (ask : Ask) → Got ask → Type 0) (I : Change → Type 0)
    (gives : (id : ℕ) (reply : VbReply) (snapshot : Snapshot) → replies (call.Take id) (Some reply) → reply.answer ≡ answer.Taken snapshot → All I snapshot.items)
    (reads : (start end : ℕ) (sync : Bool) (reading : Reading) (snapshot : Snapshot) → gots Read reading → backfilled start end sync reading ≡ filled.Snapshot snapshot → All I snapshot.items)
    (plains : (c : Change) → I c → I (plain c)) (k : ℕ) (s : Served) where
  abbrev One : PlainStream → Type 0
  One stream = IsOneOf I s.end.streams stream

  one_takes : Takes replies gots AnyCall One
  one_takes = record {
    places = λ stream g. tt;
    takes = λ stream g. tt;
    closes = λ stream g. tt;
    passed = λ stream c is g. record { known = g.known; one = g.one; id = g.id; vb = g.vb; opaque = g.opaque; items = g.items };
    marked = λ stream reply snapshot may is g. record { known = g.known; one = g.one; id = g.id; vb = g.vb; opaque = g.opaque; items = all_sent I plains stream.marked stream.first snapshot.items (gives stream.id reply snapshot may is) };
    read = λ stream end reading snapshot may is g.
        record { known = g.known; one = g.one; id = g.id; vb = g.vb; opaque = g.opaque; items = all_sent I plains stream.marked stream.first snapshot.items (reads stream.place end stream.sync reading snapshot may is) };
    unread = λ stream o g. record { known = g.known; one = g.one; id = g.id; vb = g.vb; opaque = g.opaque; items = g.items };
    given = λ stream o g. record { known = g.known; one = g.one; id = g.id; vb = g.vb; opaque = g.opaque; items = g.items };
  }

  all_known : (xs : List PlainStream) → All (λ stream. All I stream.items) xs → All (Contains s.end.streams) xs → All One xs
  all_known [] items known = All-nil One
  all_known (x ∷ xs) items known =
      All-cons One x xs (record { known = x; one = All-head (Contains s.end.streams) x xs known; id = refl; vb = refl; opaque = refl; items = All-head (λ (stream : PlainStream). All I stream.items) x xs items })
      (all_known xs (All-tail (λ (stream : PlainStream). All I stream.items) x xs items) (All-tail (Contains s.end.streams) x xs known))

  pub own_pairs : All (λ stream. All I stream.items) s.end.streams → AlwaysGot replies gots AnyCall (PullsPairs One k s) (frames_put k s)
  own_pairs items = pairs_put replies gots AnyCall One one_takes k s (all_known s.end.streams items (All-contains_itself s.end.streams))

any_items : (xs : List Change) → All AnyChange xs
any_items [] = All-nil AnyChange
any_items (c ∷ xs) = All-cons AnyChange c xs tt (any_items xs)

all_any : (xs : List PlainStream) → All (λ stream. All AnyChange stream.items) xs
all_any [] = All-nil (λ (stream : PlainStream). All AnyChange stream.items)
all_any (x ∷ xs) = All-cons (λ (stream : PlainStream). All AnyChange stream.items) x xs (any_items x.items) (all_any xs)

pub any_pairs : (k : ℕ) (s : Served) → AlwaysJob AnyReply AnyCall IsRead (PullsPairs (IsOneOf AnyChange s.end.streams) k s) (frames_put k s)
any_pairs k s = got_any AnyReply AnyCall (PullsPairs (IsOneOf AnyChange s.end.streams) k s) (frames_put k s)
    (own_pairs AnyReply AnyGot AnyChange (λ id reply snapshot may is. any_items snapshot.items) (λ start end sync reading snapshot may is. any_items snapshot.items) (λ c any. tt) k s (all_any s.end.streams))

-- a commit that is written out has the spelling of what it stands for
spelled_plain : (c : Change) → IsSpelledChange c → IsSpelledChange (plain c)
spelled_plain c = by c.act
  where
    by : (a : Act) → IsSpelledChange (record { seq = c.seq; key = c.key; act = a }) → IsSpelledChange (plain (record { seq = c.seq; key = c.key; act = a }))
    by (act.Set doc) is = is
    by (act.Remove cas rev) is = is
    by (act.Prepare level doc deleted) is = is
    by (act.Commit prepared doc true) is = (is.1, is.1)
    by (act.Commit prepared doc false) is = (is.1, is.1)
    by (act.Abort prepared) is = is

pub spelled_pairs : (k : ℕ) (s : Served) → AreSpelled s.end.streams → AlwaysGot GivesSpelled GotSpelled AnyCall (PullsPairs (IsOneOf IsSpelledChange s.end.streams) k s) (frames_put k s)
spelled_pairs k s items = own_pairs GivesSpelled GotSpelled IsSpelledChange (λ id reply snapshot may is. subst GaveSpelled is may) (λ start end sync reading snapshot may is. may start end sync snapshot is) spelled_plain k s items

-- ---- such frames are cut by their headers

-- a stream whose items all have a spelling
pub record SpelledStream (G : PlainStream → Type 0) : Type 0 where
  pub items : (stream : PlainStream) → G stream → All IsSpelledChange stream.items

item_of : (I : Change → Type 0) (items : List Change) (n : ℕ) (c : Change) → slice_get items n ≡ Some c → All I items → I c
item_of I [] n c is all = absurd (cc is)
item_of I (x ∷ items) zero c is all = let same : x ≡ c = cc is in subst I same (All-head I x items all)
item_of I (x ∷ items) (suc n) c is all = item_of I items n c is (All-tail I x items all)

module _ (G : PlainStream → Type 0) (good : SpelledStream G) (name : StreamName) where
  pub pair_short : (pair : Frame × Event) → IsPair G name pair → IsShort pair.0
  pair_short (f, line) (inl (stream, g, c, is, frame, told)) =
      subst IsShort (sym frame) (spelled_short _ stream.opaque stream.vb (item_of IsSpelledChange stream.items stream.next c is (good.items stream g)).0)
  pair_short (f, line) (inr (inl (stream, g, start, end, flags, frame, told))) = subst IsShort (sym frame) (spelled_short (msg.SnapshotMarker start end flags) stream.opaque stream.vb tt)
  pair_short (f, line) (inr (inr (inl (stream, g, reason, frame, told)))) = subst IsShort (sym frame) (spelled_short (msg.StreamEnd reason) stream.opaque stream.vb tt)
  pair_short (f, line) (inr (inr (inr (stream, g, told, one, frame, said)))) = subst IsShort (sym frame) (spelled_short (msg.SetVbucketState told) stream.opaque stream.vb tt)

  pub pairs_short : (pairs : List (Frame × Event)) → All (IsPair G name) pairs → All IsShort (map frame_of pairs)
  pairs_short [] all = All-nil IsShort
  pairs_short (x ∷ pairs) all = All-cons IsShort x.0 (map frame_of pairs) (pair_short x (All-head (IsPair G name) x pairs all)) (pairs_short pairs (All-tail (IsPair G name) x pairs all))

-- the bytes of frames that are short are cut into those of each
pub pairs_cut : (pairs : List (Frame × Event)) (rest : List ℕ) → All IsShort (map frame_of pairs) → pieces (length pairs) (concat (map bytes_of pairs) ++ rest) ≡ map bytes_of pairs
pairs_cut pairs rest short =
    (λ i. pieces (as_long pairs i) (concat (spelled pairs i) ++ rest)) ∙ pieces_are (map frame_of pairs) rest short ∙ sym (spelled pairs)
  where
    as_long : (pairs : List (Frame × Event)) → length pairs ≡ length (map frame_of pairs)
    as_long [] = refl
    as_long (x ∷ pairs) = ap suc (as_long pairs)

    spelled : (pairs : List (Frame × Event)) → map bytes_of pairs ≡ map spelling (map frame_of pairs)
    spelled [] = refl
    spelled (x ∷ pairs) = ap (λ bs. spelling x.0 ∷ bs) (spelled pairs)
