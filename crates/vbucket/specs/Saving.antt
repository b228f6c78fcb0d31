-- what of a vBucket is written down, what it goes back to, and its numbers
use Rattle.std.specs.Prelude.{◌≡◌, ◌≢◌, ◌↔◌, ◌⊎◌, false, true, ℕ, ◌+◌, ◌^◌, ◌<◌, ◌≤◌, List, [], ◌∷◌, length, Some}
use Rattle.vb_types.specs.declared.change.Act.TheVariants.{Set}
use Rattle.vb_types.specs.declared.change.Change.{Change}
use Rattle.vb_types.specs.declared.doc.Doc.{Doc}
use Rattle.vb_types.specs.declared.journal.Batch.{Batch}
use Rattle.vb_types.specs.declared.position.Position.{Position}
use Rattle.vb_types.specs.declared.role.LogEntry.{LogEntry}
use Rattle.vb_types.specs.declared.role.Role.{Role}
use Rattle.vb_types.specs.declared.role.Role.TheVariants as role
use Rattle.vb_types.specs.declared.status.Status.TheVariants as status
use Rattle.vb_types.specs.Histories.{Rises, IsIn}
use Rattle.vb_types.specs.Images.{Picture}
use Rattle.vb_calls.specs.declared.calls.VbCall.TheVariants.{FlushTake, FlushDone, RollTo, Stat}
use Rattle.vb_calls.specs.declared.calls.VbAnswer.TheVariants as answer
use Rattle.vb_calls.specs.declared.calls.VbReply.{VbReply}
use Rattle.vb_calls.specs.declared.span.Span.{Span}
use Rattle.vb_calls.specs.declared.span.Origin.{Origin}
use Rattle.vb_calls.specs.declared.span.Origin.TheVariants.{Own, Received}
use Rattle.vb_calls.specs.declared.stream.Stream.{Stream}
use Rattle.vb_calls.specs.Plain.{Plain, new_vb, plain_step}
use Rattle.vb_calls.specs.State.{complete_position, image_in, loaded_vb, quiet_reply}
use Rattle.vb_calls.specs.Spans.{all_spans, live_count, live_in}
use Rattle.vbucket.specs.Laws.{PendSeqsUpTo, PendsDiffer, PendsUpTo, Sound}
use Rattle.vbucket.specs.Receiving.{IsFollower}
use Rattle.vbucket.specs.Settles.{Settles}
use Rattle.durability.specs.Outstanding.{no_acks}

-- one of the spans
abbrev pub IsOneOf : Span → List Span → Type 0
IsOneOf w [] = ⊥
IsOneOf w (v ∷ vs) = (w ≡ v) ⊎ IsOneOf w vs

-- the first span that goes on above what was taken
pub record IsNext (vb : Plain) (w : Span) : Type 0 where
  pub one : IsOneOf w (all_spans vb.spans)
  pub above : vb.flushed < w.last
  pub first : (v : Span) → IsOneOf v (all_spans vb.spans) → vb.flushed < v.last → w.last ≤ v.last

-- a batch is the rest of a span, and of no other: its changes rise, and are the live ones of the span that were not taken yet; it ends where the span does, in the snapshot that it is of; and it has the log and the last CAS
pub record IsRest (vb : Plain) (w : Span) (batch : Batch) : Type 0 where
  pub items : (c : Change) → IsIn c batch.items ↔ (IsIn c (live_in w vb.held) × (vb.flushed < c.seq))
  pub within : (c : Change) → IsIn c batch.items → (w.above < c.seq) × (c.seq ≤ w.last)
  pub rises : Rises vb.flushed w.last batch.items
  pub ends : batch.position.at ≡ w.last
  pub own : w.origin ≡ Own → batch.position ≡ complete_position w.last
  pub received : (ss se : ℕ) → w.origin ≡ Received ss se → batch.position ≡ record { ss = ss; se = se; at = w.last }
  pub cas : batch.cas ≡ vb.last_cas
  pub log : batch.log ≡ vb.log

-- a batch is the rest of the next span, and none is given exactly where all was taken; what is saved stays, and all else but what was taken
pub record FlushesAs (vb : Plain) (after : Plain × VbReply) : Type 0 where
  pub nothing : (after.1.answer ≡ answer.Nothing) ↔ (vb.flushed ≡ vb.position.at)
  pub taken : (batch : Batch) → after.1.answer ≡ answer.Rows batch → (w : Span) × IsNext vb w × IsRest vb w batch × (after.0 ≡ record vb { flushed = w.last })
  pub some : vb.flushed < vb.position.at → (batch : Batch) × (after.1.answer ≡ answer.Rows batch)
  pub saved : after.0.saved ≡ vb.saved
  pub stays : after.0 ≡ record vb { flushed = after.0.flushed }

-- each take is answered so
abbrev pub FlushesExactly : Type 0
FlushesExactly = (vb : Plain) → Sound vb → FlushesAs vb (plain_step vb FlushTake)

-- these batches are taken, one after the other, with no other call between
abbrev pub Gives : Plain → List Batch → Type 0
Gives vb [] = Unit {0}
Gives vb (b ∷ bs) = ((plain_step vb FlushTake).1.answer ≡ answer.Rows b) × Gives (plain_step vb FlushTake).0 bs

-- a change is in one of the batches
abbrev pub IsGiven : Change → List Batch → Type 0
IsGiven c [] = ⊥
IsGiven c (b ∷ bs) = IsIn c b.items ⊎ IsGiven c bs

-- each live change above what was taken is in one of the next batches
abbrev pub AllAreGiven : Type 0
AllAreGiven = (vb : Plain) (w : Span) (c : Change) → Sound vb → IsOneOf w (all_spans vb.spans) → IsIn c (live_in w vb.held) → vb.flushed < c.seq → (batches : List Batch) × Gives vb batches × IsGiven c batches

-- what is saved does not fall, reaches what the receipt says, and no more; all else stays, until what may be committed then is
pub record SavesAs (vb : Plain) (seq : ℕ) (after : Plain × VbReply) : Type 0 where
  pub told : after.1.answer ≡ answer.Num after.0.saved
  pub keeps : vb.saved ≤ after.0.saved
  pub reaches : seq ≤ after.0.saved
  pub no_more : (after.0.saved ≡ vb.saved) ⊎ (after.0.saved ≡ seq)
  pub made : Settles (record vb { saved = after.0.saved }, quiet_reply (answer.Num after.0.saved)) after

-- whatever the receipt
abbrev pub SavesExactly : Type 0
SavesExactly = (vb : Plain) (seq : ℕ) → SavesAs vb seq (plain_step vb (FlushDone seq))

-- an entry of a failover log
abbrev pub IsEntry : LogEntry → List LogEntry → Type 0
IsEntry e [] = ⊥
IsEntry e (x ∷ xs) = (e ≡ x) ⊎ IsEntry e xs

-- NotMyVbucket unless the vBucket follows; else it holds this image at the seqno and nothing above, of its log the entries up to there, and all of it is saved. No CAS falls, and the role and the streams stay
pub record RollsAs (vb : Plain) (at : ℕ) (image : Picture) (cas : ℕ) (after : Plain × VbReply) : Type 0 where
  pub foreign : (after.1.answer ≡ answer.Status status.NotMyVbucket) ↔ (IsFollower vb.role → ⊥)
  pub done : (after.1.answer ≡ answer.Num at) ↔ IsFollower vb.role
  pub holds : IsFollower vb.role → image_in after.0 ≡ image
  pub none : IsFollower vb.role → (after.0.held ≡ []) × (all_spans after.0.spans ≡ [])
  pub position : IsFollower vb.role → after.0.position ≡ complete_position at
  pub entries : IsFollower vb.role → (e : LogEntry) → IsEntry e after.0.log ↔ (IsEntry e vb.log × (e.seq ≤ at))
  pub marks : IsFollower vb.role → (after.0.floor ≡ at) × (after.0.saved ≡ at) × (after.0.flushed ≡ at)
  pub counts : IsFollower vb.role → (vb.last_cas ≤ after.0.last_cas) × (cas ≤ after.0.last_cas) × ((after.0.last_cas ≡ vb.last_cas) ⊎ (after.0.last_cas ≡ cas))
  pub stays : (after.0.node ≡ vb.node) × (after.0.role ≡ vb.role) × (after.0.streams ≡ vb.streams) × (after.0.first ≡ vb.first)

-- each rollback
abbrev pub RollsExactly : Type 0
RollsExactly = (vb : Plain) (at : ℕ) (image : Picture) (cas : ℕ) → RollsAs vb at image cas (plain_step vb (RollTo at image cas))

-- how many live changes these spans of h have
abbrev pub lives : List Change → List Span → ℕ
lives h [] = 0
lives h (w ∷ ws) = live_count w h + lives h ws

-- there are n cursors: one, and those of the streams that have one
abbrev pub AreCursors : List Stream → ℕ → Type 0
AreCursors [] n = n ≡ 1
AreCursors (s ∷ ss) n = ((s.cursor ≡ true) × ((m : ℕ) × (n ≡ m + 1) × AreCursors ss m)) ⊎ ((s.cursor ≡ false) × AreCursors ss n)

-- the numbers that a vBucket tells
pub record CountsAs (vb : Plain) (after : Plain × VbReply) (windows items cursors : ℕ) : Type 0 where
  pub told : after.1.answer ≡ answer.Stat windows items cursors vb.saved vb.position.at
  pub windows_counted : windows ≡ length (all_spans vb.spans)
  pub of_lives : items ≡ lives vb.held (all_spans vb.spans)
  pub of_cursors : AreCursors vb.streams cursors
  pub stays : after.0 ≡ vb

-- each vBucket
abbrev pub CountsExactly : Type 0
CountsExactly = (vb : Plain) → (windows items cursors : ℕ) × CountsAs vb (plain_step vb Stat) windows items cursors

-- a change of one key, and a later one
abbrev pub change_at : ℕ → Doc → Change
change_at seq doc = record { seq = seq; key = 7 ∷ []; act = Set doc }

-- a vBucket that holds both, in one span of this origin
abbrev pub held_twice : Origin → Doc → Plain
held_twice origin doc = record (new_vb 1 role.Replica 0) {
  held = change_at 1 doc ∷ change_at 2 doc ∷ [];
  position = complete_position 2;
  spans = record { sealed = []; current = Some (record { above = 0; last = 2; origin = origin }) };
}

-- of own changes the earlier one is counted no more, nor written down; of received ones it is
abbrev pub CountsInNumbers : Type 0
CountsInNumbers = (doc : Doc)
    → ((plain_step (held_twice Own doc) Stat).1.answer ≡ answer.Stat 1 1 1 0 2)
    × ((plain_step (held_twice (Received 0 2) doc) Stat).1.answer ≡ answer.Stat 1 2 1 0 2)
    × ((plain_step (held_twice Own doc) FlushTake).1.answer ≡ answer.Rows (record { position = complete_position 2; cas = 0; log = []; items = change_at 2 doc ∷ [] }))
    × ((plain_step (held_twice (Received 0 5) doc) FlushTake).1.answer ≡ answer.Rows (record { position = record { ss = 0; se = 5; at = 2 }; cas = 0; log = []; items = change_at 1 doc ∷ change_at 2 doc ∷ [] }))

-- what a vBucket is loaded of: a position of 48 bits in its snapshot, a CAS of 64 bits, and no prepare with a greater one or a greater seqno, nor two of one seqno
pub record IsLoadable (position : Position) (cas : ℕ) (image : Picture) : Type 0 where
  pub capped : position.se ≤ 2 ^ 48
  pub within : (position.ss ≤ position.at) × (position.at ≤ position.se)
  pub fits : cas < 2 ^ 64
  pub pends : PendsUpTo cas image
  pub low : PendSeqsUpTo position.at image
  pub apart : PendsDiffer image

-- a vBucket that was loaded is sound, holds the image and nothing above it, and takes no writes; any role but the active one stays
pub record LoadsAs (r : Role) (log : List LogEntry) (position : Position) (cas : ℕ) (image : Picture) (vb : Plain) : Type 0 where
  pub sound : IsLoadable position cas image → Sound vb
  pub holds : image_in vb ≡ image
  pub none : (vb.held ≡ []) × (all_spans vb.spans ≡ []) × (vb.streams ≡ [])
  pub stands : (vb.position ≡ position) × (vb.log ≡ log) × (vb.last_cas ≡ cas)
  pub alone : (vb.others ≡ []) × (vb.acks ≡ no_acks) × (vb.waiting ≡ [])
  pub marks : (vb.floor ≡ position.at) × (vb.saved ≡ position.at) × (vb.flushed ≡ position.at)
  pub dead : r ≡ role.Active → vb.role ≡ role.Dead
  pub same : r ≢ role.Active → vb.role ≡ r

-- each one
abbrev pub LoadsExactly : Type 0
LoadsExactly = (node : ℕ) (r : Role) (log : List LogEntry) (position : Position) (cas : ℕ) (image : Picture) → LoadsAs r log position cas image (loaded_vb node r log position cas image)
