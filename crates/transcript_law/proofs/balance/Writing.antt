-- what a consumer writes, and how many bytes it acknowledges with it
use Rattle.std.proofs.Common.{suc, zero, ◌≡◌, ℕ, ◌+◌, ◌<◌, List, [], ◌∷◌, ◌++◌, refl, sym, ap, ◌∙◌, subst, arith, inl, inr, ◌⊎◌, drop, length, None, Bool, true, false}
use Rattle.std.specs.Prelude.{◌^◌, min, if◌then◌else◌}
use Rattle.std.specs.List.{All, filter_map, sum_by}
use lib.ListN.{get_or}
use Rattle.std.proofs.lemmas.Nat.{be_bytes_4, from_be_bytes-to_be_bytes_4}
use Rattle.std.specs.Int.{w16, w32, w64, from_be_bytes, to_be_bytes}
use Rattle.std.proofs.lemmas.List.Elements.{All-nil, All-cons, All-head, All-tail}
use Rattle.std.proofs.lemmas.List.Sums.{sum_by-cons}
use Rattle.mcbp_frame.specs.declared.frame.Frame.{Frame}
use Rattle.mcbp_frame.specs.Cutting.{frames_in, left_of}
use Rattle.mcbp_frame.specs.Frames.{body_size}
use Rattle.mcbp_frame.specs.Spelling.{lengths, spelling, Readable}
use Rattle.mcbp_frame.proofs.Cases.{length-spelling}
use Rattle.mcbp_dcp.specs.declared.message.DcpMsg.TheVariants as msg
use Rattle.dcp_consumer.specs.declared.handshake.Dialed.{Dialed}
use Rattle.mcbp_dcp.specs.DcpFrames.{dcp_frame}
use Rattle.vb_types.specs.declared.stream.StreamAsk.{StreamAsk}
use Rattle.vb_calls.specs.Jobs.{Job, Ended, Call, Request, after_job}
use Rattle.vb_calls.specs.Shelves.{Shelves, shelves_step}
use Rattle.vb_calls.specs.States.{States, states_step}
use Rattle.dcp_consumer.specs.Counting.{counted_bytes, is_counted, counted_len}
use Rattle.dcp_consumer.specs.Machine.{over_why}
use Rattle.dcp_consumer.specs.Noops.{noop_answered}
use Rattle.dcp_consumer.specs.States.{state_answered}
use Rattle.mcbp_dcp.specs.declared.shape.TheConstants.{SUCCESS}
use Rattle.node_core.specs.Conduct.{Writes, Asks, Acknowledges, AcknowledgesBytes, AnswersNoop, AnswersState, AnswersNoops, AreNoopsOf, asks_in, writes_past, Dues, CallsAs, AnyOther, behind, bytes_written, noop_written, SomeCounts, OwesBytes, Delivers, begins, said}
use Rattle.node_core.specs.Dials.{PlainDial, DialResult, untold, dial_bytes}
use Rattle.node_core.proofs.Deliveries.{bytes_acknowledge}
use Rattle.transcript_law.specs.Balance.{acknowledged_by}
use Rattle.transcript_law.proofs.balance.Measures.{spelled}
use Rattle.transcript_law.proofs.links.Unread.{front_readable}

-- a number as four bytes of it are read back
abbrev as_read : ℕ → ℕ
as_read n = from_be_bytes w32 (to_be_bytes w32 n)

small_read : (n : ℕ) → as_read n < 2 ^ 32
small_read n = omega arith

same_bytes : (n : ℕ) → to_be_bytes w32 (as_read n) ≡ to_be_bytes w32 n
same_bytes n = be_bytes_4 (to_be_bytes w32 n) (as_read n) refl (each n) refl
  where
    each : (n i : ℕ) → get_or (to_be_bytes w32 n) i 0 < 256
    each n zero = omega arith
    each n (suc zero) = omega arith
    each n (suc (suc zero)) = omega arith
    each n (suc (suc (suc zero))) = omega arith
    each n (suc (suc (suc (suc i)))) = omega arith

-- an answer to a state is read so, whatever its opaque is
abbrev state_with : List ℕ → List ℕ
state_with bytes =
    let f : Frame = dcp_frame (msg.StateAnswer SUCCESS) 0 0 in
    (f.magic ∷ f.opcode ∷ [] ++ lengths f ++ length f.extras ∷ f.datatype ∷ [] ++ to_be_bytes w16 f.vb_or_status ++ to_be_bytes w32 (body_size f) ++ bytes ++ to_be_bytes w64 f.cas) ++ f.framing ++ f.extras ++ f.key ++ f.value

state_spelled : (opaque : ℕ) → state_answered opaque ≡ spelling (dcp_frame (msg.StateAnswer SUCCESS) (as_read opaque) 0)
unfolding dcp_frame spelling
state_spelled opaque = ap state_with (sym (same_bytes opaque))

-- the frames of what was written
abbrev pub written : ℕ → ℕ → List Writes → List Frame
written vb asked [] = []
written vb asked (Asks ask ∷ more) = dcp_frame (msg.StreamRequest ask) (asked + 1) vb ∷ written vb (asked + 1) more
written vb asked (Acknowledges seq ∷ more) = dcp_frame (msg.SeqnoAcknowledged seq) asked vb ∷ written vb asked more
written vb asked (AcknowledgesBytes bytes ∷ more) = dcp_frame (msg.BufferAcknowledgement bytes) asked 0 ∷ written vb asked more
written vb asked (AnswersNoop opaque ∷ more) = dcp_frame (msg.NoopAnswer SUCCESS) opaque 0 ∷ written vb asked more
written vb asked (AnswersState opaque ∷ more) = dcp_frame (msg.StateAnswer SUCCESS) (as_read opaque) 0 ∷ written vb asked more

pub written_is : (vb asked : ℕ) (more : List Writes) → writes_past vb asked more ≡ spelled (written vb asked more)
written_is vb asked [] = refl
written_is vb asked (Asks ask ∷ more) = ap (λ l. spelling (dcp_frame (msg.StreamRequest ask) (asked + 1) vb) ++ l) (written_is vb (asked + 1) more)
written_is vb asked (Acknowledges seq ∷ more) = ap (λ l. spelling (dcp_frame (msg.SeqnoAcknowledged seq) asked vb) ++ l) (written_is vb asked more)
written_is vb asked (AcknowledgesBytes bytes ∷ more) = ap (λ l. spelling (dcp_frame (msg.BufferAcknowledgement bytes) asked 0) ++ l) (written_is vb asked more)
written_is vb asked (AnswersNoop opaque ∷ more) = ap (λ l. noop_answered opaque ++ l) (written_is vb asked more)
written_is vb asked (AnswersState opaque ∷ more) = λ i. state_spelled opaque i ++ written_is vb asked more i

module _ (vb : ℕ) (few : vb < 2 ^ 16) where
  pub ask_readable : (o : ℕ) (ask : StreamAsk) → o < 2 ^ 32 → Readable (dcp_frame (msg.StreamRequest ask) o vb)
  unfolding dcp_frame
  ask_readable o ask low = search arith

  pub seqno_readable : (o seq : ℕ) → o < 2 ^ 32 → Readable (dcp_frame (msg.SeqnoAcknowledged seq) o vb)
  unfolding dcp_frame
  seqno_readable o seq low = search arith

bytes_readable : (o bytes : ℕ) → o < 2 ^ 32 → Readable (dcp_frame (msg.BufferAcknowledgement bytes) o 0)
unfolding dcp_frame
bytes_readable o bytes low = search arith

noop_readable : (o : ℕ) → o < 2 ^ 32 → Readable (dcp_frame (msg.NoopAnswer SUCCESS) o 0)
unfolding dcp_frame
noop_readable o low = search arith

-- numbers that fit where an opaque stands
abbrev pub Opaques : List ℕ → Type 0
Opaques ns = All (λ n. n < 2 ^ 32) ns

state_readable : (o : ℕ) → o < 2 ^ 32 → Readable (dcp_frame (msg.StateAnswer SUCCESS) o 0)
unfolding dcp_frame
state_readable o low = search arith

pub written_readable : (vb asked : ℕ) (more : List Writes) → vb < 2 ^ 16 → asked + asks_in more < 2 ^ 32 → Opaques (filter_map noop_written more) → All Readable (written vb asked more)
written_readable vb asked [] few low noops = All-nil Readable
written_readable vb asked (Asks ask ∷ more) few low noops =
    All-cons Readable (dcp_frame (msg.StreamRequest ask) (asked + 1) vb) (written vb (asked + 1) more) (ask_readable vb few (asked + 1) ask (omega arith)) (written_readable vb (asked + 1) more few (omega arith) noops)
written_readable vb asked (Acknowledges seq ∷ more) few low noops =
    All-cons Readable (dcp_frame (msg.SeqnoAcknowledged seq) asked vb) (written vb asked more) (seqno_readable vb few asked seq (omega arith)) (written_readable vb asked more few low noops)
written_readable vb asked (AcknowledgesBytes bytes ∷ more) few low noops =
    All-cons Readable (dcp_frame (msg.BufferAcknowledgement bytes) asked 0) (written vb asked more) (bytes_readable asked bytes (omega arith)) (written_readable vb asked more few low noops)
written_readable vb asked (AnswersNoop opaque ∷ more) few low noops =
    All-cons Readable (dcp_frame (msg.NoopAnswer SUCCESS) opaque 0) (written vb asked more) (noop_readable opaque (All-head (λ n. n < 2 ^ 32) opaque (filter_map noop_written more) noops))
    (written_readable vb asked more few low (All-tail (λ n. n < 2 ^ 32) opaque (filter_map noop_written more) noops))
written_readable vb asked (AnswersState opaque ∷ more) few low noops =
    All-cons Readable (dcp_frame (msg.StateAnswer SUCCESS) (as_read opaque) 0) (written vb asked more) (state_readable (as_read opaque) (small_read opaque)) (written_readable vb asked more few low noops)

-- ---- how many bytes each of them acknowledges

-- the number of each
abbrev pub sum : List ℕ → ℕ
sum ns = sum_by (λ n. n) ns

ask_names : (o vb : ℕ) (ask : StreamAsk) → acknowledged_by (dcp_frame (msg.StreamRequest ask) o vb) ≡ 0
unfolding dcp_frame
ask_names o vb ask = refl

seqno_names : (o vb seq : ℕ) → acknowledged_by (dcp_frame (msg.SeqnoAcknowledged seq) o vb) ≡ 0
unfolding dcp_frame
seqno_names o vb seq = refl

noop_names : (o : ℕ) → acknowledged_by (dcp_frame (msg.NoopAnswer SUCCESS) o 0) ≡ 0
unfolding dcp_frame
noop_names o = refl

state_names : (o : ℕ) → acknowledged_by (dcp_frame (msg.StateAnswer SUCCESS) o 0) ≡ 0
unfolding dcp_frame
state_names o = refl

pub bytes_names : (o bytes : ℕ) → bytes < 2 ^ 32 → acknowledged_by (dcp_frame (msg.BufferAcknowledgement bytes) o 0) ≡ bytes
unfolding dcp_frame
bytes_names o bytes low = from_be_bytes-to_be_bytes_4 bytes low

pub written_names : (vb asked : ℕ) (more : List Writes) → All (λ n. n < 2 ^ 32) (filter_map bytes_written more) → sum_by acknowledged_by (written vb asked more) ≡ sum (filter_map bytes_written more)
written_names vb asked [] low = refl
written_names vb asked (Asks ask ∷ more) low = sum_by-cons acknowledged_by (dcp_frame (msg.StreamRequest ask) (asked + 1) vb) (written vb (asked + 1) more) ∙ (let e = ask_names (asked + 1) vb ask in let rest = written_names vb (asked + 1) more low in omega arith)
written_names vb asked (Acknowledges seq ∷ more) low = sum_by-cons acknowledged_by (dcp_frame (msg.SeqnoAcknowledged seq) asked vb) (written vb asked more) ∙ (let e = seqno_names asked vb seq in let rest = written_names vb asked more low in omega arith)
written_names vb asked (AcknowledgesBytes bytes ∷ more) low =
    sum_by-cons acknowledged_by (dcp_frame (msg.BufferAcknowledgement bytes) asked 0) (written vb asked more)
    ∙ (let e = bytes_names asked bytes (All-head (λ n. n < 2 ^ 32) bytes (filter_map bytes_written more) low) in
    let rest = written_names vb asked more (All-tail (λ n. n < 2 ^ 32) bytes (filter_map bytes_written more) low) in
    omega (arith, sum_by-cons (λ n. n) bytes (filter_map bytes_written more)))
written_names vb asked (AnswersNoop opaque ∷ more) low = sum_by-cons acknowledged_by (dcp_frame (msg.NoopAnswer SUCCESS) opaque 0) (written vb asked more) ∙ (let e = noop_names opaque in let rest = written_names vb asked more low in omega arith)
written_names vb asked (AnswersState opaque ∷ more) low = sum_by-cons acknowledged_by (dcp_frame (msg.StateAnswer SUCCESS) (as_read opaque) 0) (written vb asked more) ∙ (let e = state_names (as_read opaque) in let rest = written_names vb asked more low in omega arith)

-- ---- the opaques of the NOOPs among frames

noops_low : (frames : List Frame) (noops : List ℕ) → AreNoopsOf frames noops → All Readable frames → Opaques noops
noops_low [] noops are good = subst Opaques (sym are) (All-nil (λ n. n < 2 ^ 32))
noops_low (f ∷ frames) noops (inl (is, (more, first, rest))) good =
    subst Opaques (sym first) (All-cons (λ n. n < 2 ^ 32) f.opaque more (All-head Readable f frames good).opaque (noops_low frames more rest (All-tail Readable f frames good)))
noops_low (f ∷ frames) noops (inr (never, rest)) good = noops_low frames noops rest (All-tail Readable f frames good)

answers_low : (frames : List Frame) (dial : PlainDial) (noops : List ℕ) → AnswersNoops frames dial noops → All Readable frames → Opaques noops
answers_low frames dial noops (taken, behind, parted, are, all) good = noops_low taken noops are (front_readable taken behind (subst (All Readable) parted good))

-- ---- a delivery

-- the answer that a dial's job comes to
calls_end : {A : Type 0} (ends : Dues → A → Type 0) (d : Dues) (job : Job A) (states : States) (shelves : Shelves) → CallsAs ends d job → (d' : Dues) × ends d' (after_job job states shelves).1
calls_end ends d (Ended a) states shelves so = (d, so)
calls_end ends d (Call v call next) states shelves so =
    let step = states_step states v call in calls_end ends (behind d call (said step.1)) (next step.1) step.0 shelves (so.1 step.1)
calls_end ends d (Request v ask next) states shelves so =
    let step = shelves_step shelves v ask in calls_end ends d (next step.1) states step.0 (so step.1)

-- a frame counts, or none does
len_if : (f : Frame) (b : Bool) → is_counted f ≡ b → counted_len f ≡ (if b then length (spelling f) else 0)
len_if f b e = ap (λ t. if t then length (spelling f) else 0) e

one_more : (f : Frame) (fs : List Frame) → counted_bytes (f ∷ fs) ≡ counted_len f + counted_bytes fs
unfolding counted_bytes
one_more f fs = sum_by-cons counted_len f fs

no_bytes : counted_bytes [] ≡ 0
unfolding counted_bytes
no_bytes = refl

-- where one does, there are bytes
some_bytes : (fs : List Frame) → SomeCounts fs → 0 < counted_bytes fs
some_bytes fs ([], f, more, are, counts) = let e = len_if f true counts in omega (arith, ap counted_bytes are, one_more f more, length-spelling f)
some_bytes [] (g ∷ before, f, more, are, counts) = cc
some_bytes (h ∷ fs) (g ∷ before, f, more, are, counts) = let rest = some_bytes fs (before, f, more, ap (drop 1) are, counts) in omega (arith, one_more h fs)

some_or_none : (fs : List Frame) → SomeCounts fs ⊎ (counted_bytes fs ≡ 0)
some_or_none [] = inr no_bytes
some_or_none (f ∷ fs) = by (is_counted f) refl (some_or_none fs)
  where
    by : (b : Bool) → is_counted f ≡ b → SomeCounts fs ⊎ (counted_bytes fs ≡ 0) → SomeCounts (f ∷ fs) ⊎ (counted_bytes (f ∷ fs) ≡ 0)
    by true is rest = inl ([], f, fs, refl, is)
    by false is (inl (before, g, more, are, counts)) = inl (f ∷ before, g, more, ap (λ l. f ∷ l) are, counts)
    by false is (inr none) = inr (let e = len_if f false is in omega (arith, one_more f fs))

-- so many bytes are acknowledged by these numbers, each of which a message can tell
abbrev pub Names : ℕ → List ℕ → Type 0
Names n ns = All (λ k. k < 2 ^ 32) ns × (sum ns ≡ n)

-- a link that goes on, with a buffer, acknowledges the bytes of the frames that count, as long as a message can tell how many
pub record Delivered (frames : List Frame) (dial : PlainDial) (told : DialResult) : Type 0 where
  pub more : List Writes
  pub out : told.out ≡ writes_past dial.consumer.dialed.vb dial.consumer.asked more
  pub asked : told.dial.consumer.asked ≡ dial.consumer.asked + asks_in more
  pub dialed : told.dial.consumer.dialed ≡ dial.consumer.dialed
  pub counts : over_why told.dial.consumer.handshake ≡ None → 0 < dial.consumer.dialed.buffer → counted_bytes frames < 2 ^ 32 → Names (counted_bytes frames) (filter_map bytes_written more)
  pub noops : All Readable frames → Opaques (filter_map noop_written more)

whole : (n : ℕ) → n < 2 ^ 32 → min n 4294967295 ≡ n
whole n low = grind (arith, low)

owed_by : (frames : List Frame) (dial : PlainDial) (bytes : List ℕ) → OwesBytes frames dial bytes → over_why dial.consumer.handshake ≡ None → 0 < dial.consumer.dialed.buffer → counted_bytes frames < 2 ^ 32
    → SomeCounts frames ⊎ (counted_bytes frames ≡ 0) → Names (counted_bytes frames) bytes
owed_by frames dial bytes owes goes buffered low (inl some) =
    subst (Names (counted_bytes frames)) (sym (owes.owed goes buffered some ∙ ap (λ n. n ∷ []) (whole (counted_bytes frames) low)))
    (All-cons (λ k. k < 2 ^ 32) (counted_bytes frames) [] low (All-nil (λ k. k < 2 ^ 32)), omega arith)
owed_by frames dial bytes owes goes buffered low (inr nothing) =
    subst (Names (counted_bytes frames)) (sym (owes.uncounted (λ some. let above = some_bytes frames some in absurd (omega arith)))) (All-nil (λ k. k < 2 ^ 32), sym nothing)

pub delivered : (piece : List ℕ) (dial : PlainDial) (states : States) (shelves : Shelves) → Delivered (frames_in (dial.heard ++ piece)) dial (after_job (dial_bytes piece dial) states shelves).1
delivered piece dial states shelves =
    let frames : List Frame = frames_in (dial.heard ++ piece) in
    let left : List ℕ = left_of (dial.heard ++ piece) in
    let came = calls_end (Delivers frames left (untold dial)) (begins AnyOther dial) (dial_bytes piece dial) states shelves (bytes_acknowledge piece dial) in
    let is : Delivers frames left (untold dial) came.0 (after_job (dial_bytes piece dial) states shelves).1 = came.1 in
    let link = is.acknowledged.link in
    let told : DialResult = (after_job (dial_bytes piece dial) states shelves).1 in
    record {
      more = link.writes.0;
      out = link.writes.1;
      asked = link.writes.2;
      dialed = link.dialed;
      counts = λ goes buffered low. subst (Names (counted_bytes frames)) (sym is.acknowledged.counted)
          (owed_by frames told.dial is.bytes is.owes goes (subst (λ (d : Dialed). 0 < d.buffer) (sym link.dialed) buffered) low (some_or_none frames));
      noops = λ good. subst Opaques (sym is.acknowledged.answered) (answers_low frames told.dial is.noops is.answers good);
    }
