-- what a stream's snapshot holds
use Rattle.std.specs.Prelude.{◌≡◌, ◌↔◌, ◌⊎◌, ℕ, ◌<◌, ◌≤◌, ◌==◌, true, false, if◌then◌else◌, List, [], ◌∷◌, map, Some}
use Rattle.vb_types.specs.declared.change.Act.{Act}
use Rattle.vb_types.specs.declared.change.Act.TheVariants as act
use Rattle.vb_types.specs.declared.change.Change.{Change}
use Rattle.vb_types.specs.declared.stream.Snapshot.{Snapshot}
use Rattle.vb_types.specs.Histories.{upto, IsIn, is_visible}
use Rattle.branch_model.specs.Requests.{effective_se}
use Rattle.branch_model.specs.Snapshots.{Covers, plain_view}
use Rattle.vb_calls.specs.declared.calls.VbCall.TheVariants.{Take}
use Rattle.vb_calls.specs.declared.calls.VbAnswer.TheVariants as answer
use Rattle.vb_calls.specs.declared.calls.VbReply.{VbReply}
use Rattle.vb_calls.specs.declared.stream.Stream.{Stream}
use Rattle.vb_calls.specs.declared.span.Span.{Span}
use Rattle.vb_calls.specs.declared.span.Origin.TheVariants.{Received}
use Rattle.vb_calls.specs.Plain.{Plain, plain_step}
use Rattle.vb_calls.specs.Spans.{all_spans, is_whole}
use Rattle.vb_calls.specs.Streams.{stream_at, need_of}
use Rattle.vbucket.specs.Asks.{IsOpen}
use Rattle.vbucket.specs.Laws.{Sound}

-- what a stream shows of h: a sync one all of it, any other the visible changes, each commit as the set or removal of its document
abbrev pub shown_by : Stream → List Change → List Change
shown_by s h = if s.sync then h else plain_view h

-- an act with a commit written out, as the set or the removal of its document
abbrev pub IsWrittenOut : Act → Act → Type 0
IsWrittenOut (act.Set doc) a = a ≡ act.Set doc
IsWrittenOut (act.Remove cas rev) a = a ≡ act.Remove cas rev
IsWrittenOut (act.Prepare level doc deleted) a = a ≡ act.Prepare level doc deleted
IsWrittenOut (act.Commit prepared doc true) a = a ≡ act.Remove doc.cas doc.rev
IsWrittenOut (act.Commit prepared doc false) a = a ≡ act.Set doc
IsWrittenOut (act.Abort prepared) a = a ≡ act.Abort prepared

-- x is sent for c: the same, but for a commit, which is written out exactly on a stream that is not sync
pub record IsSentFor (s : Stream) (c x : Change) : Type 0 where
  pub seq : x.seq ≡ c.seq
  pub key : x.key ≡ c.key
  pub out : s.sync ≡ false → IsWrittenOut c.act x.act
  pub as_is : s.sync ≡ true → x.act ≡ c.act

-- a whole snapshot of what a stream shows of a vBucket, above the stream's place and with all that is shown up to `end`, from where the stream goes on; no received snapshot is cut there, the request's need is reached, and each change is sent for one of the vBucket's
pub record IsSnapshot (vb : Plain) (s : Stream) (end : ℕ) (snapshot : Snapshot) : Type 0 where
  pub covers : Covers snapshot.items (shown_by s vb.held) s.place snapshot.end
  pub all : upto (shown_by s vb.held) end ≡ upto (shown_by s vb.held) snapshot.end
  pub within : (snapshot.end ≤ end) × (end ≤ vb.position.at)
  pub full : s.sync ≡ true → snapshot.end ≡ end
  pub reaches : need_of s ≤ end
  pub starts : snapshot.start ≡ s.place
  pub whole : is_whole end (all_spans vb.spans) ≡ true
  pub sent : (x : Change) → IsIn x snapshot.items → (c : Change) × IsIn c vb.held × IsSentFor s c x

-- a stream after a snapshot up to `end`, if it is the one of this number: its place is there, and its next snapshot is no first one
abbrev pub gone_on : ℕ → ℕ → Stream → Stream
gone_on id end s = if s.id == id then record s { place = end; taken = true } else s

-- what is taken is a snapshot of an open stream, which goes on from its end; nothing else changes
abbrev pub TakesSnapshots : Type 0
TakesSnapshots = (vb : Plain) (id : ℕ) (snapshot : Snapshot) → Sound vb → (plain_step vb (Take id)).1.answer ≡ answer.Taken snapshot
    → (s : Stream) × (end : ℕ) × (stream_at id vb.streams ≡ Some s) × IsSnapshot vb s end snapshot × ((plain_step vb (Take id)).0 ≡ record vb { streams = map (gone_on id end) vb.streams })

-- one of these spans ends at n
abbrev pub EndsOne : ℕ → List Span → Type 0
EndsOne n [] = ⊥
EndsOne n (w ∷ ws) = (w.last ≡ n) ⊎ EndsOne n ws

-- no span goes on above n that is of a received snapshot from below n
abbrev pub CutsNone : ℕ → List Span → Type 0
CutsNone n [] = Unit {0}
CutsNone n (w ∷ ws) = ((ss se : ℕ) → w.origin ≡ Received ss se → ss < n → w.last ≤ n) × CutsNone n ws

-- a stream's next snapshot may end at the end n of a span, above its place, where it has a cursor: it cuts no received snapshot, a first one reaches what the request needs, and there is a change for it
pub record MayEnd (vb : Plain) (s : Stream) (n : ℕ) : Type 0 where
  pub cursor : s.cursor ≡ true
  pub above : s.place < n
  pub span : EndsOne n (all_spans vb.spans)
  pub whole : CutsNone n (all_spans vb.spans)
  pub needed : s.taken ≡ false → effective_se s.ask.start s.ask.ss s.ask.se ≤ n
  pub some : (c : Change) × IsIn c vb.held × (s.place < c.seq) × (c.seq ≤ n) × ((s.sync ≡ true) ⊎ (is_visible c.act ≡ true))

-- it may end at n, and not below
abbrev pub EndsFirst : Plain → Stream → ℕ → Type 0
EndsFirst vb s n = MayEnd vb s n × ((m : ℕ) → MayEnd vb s m → n ≤ m)

-- Absent exactly where no such stream is open, Nothing exactly where it is and its snapshot may end nowhere, and else a snapshot up to the least end
pub record TakesAs (vb : Plain) (id : ℕ) (after : Plain × VbReply) : Type 0 where
  pub absent : (after.1.answer ≡ answer.Absent) ↔ (IsOpen id vb.streams → ⊥)
  pub nothing : (after.1.answer ≡ answer.Nothing) ↔ ((s : Stream) × (stream_at id vb.streams ≡ Some s) × ((n : ℕ) → MayEnd vb s n → ⊥))
  pub taken : (snapshot : Snapshot) → after.1.answer ≡ answer.Taken snapshot → (s : Stream) × (n : ℕ) × (stream_at id vb.streams ≡ Some s) × EndsFirst vb s n × IsSnapshot vb s n snapshot
  pub some : (s : Stream) (n : ℕ) → stream_at id vb.streams ≡ Some s → MayEnd vb s n → (snapshot : Snapshot) × (after.1.answer ≡ answer.Taken snapshot)

-- each take is answered so
abbrev pub TakesExactly : Type 0
TakesExactly = (vb : Plain) (id : ℕ) → Sound vb → TakesAs vb id (plain_step vb (Take id))
