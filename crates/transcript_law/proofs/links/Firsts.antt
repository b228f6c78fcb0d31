-- the requests that a consumer writes before it asks for a stream: their answers, and what each leaves at the two ends
use Rattle.std.specs.Prelude.{◌≡◌, ◌+◌, ◌<◌, ◌≤◌, ◌∷◌, ◌++◌, ◌==◌, if◌then◌else◌}
use Rattle.transcript_law.proofs.Words.{ℕ, zero, suc, true, false, List, [], length, map, drop, take, drop-nil, refl, ap, subst, arith, None, Frame, DcpMsg, dcp_frame, Handshake, PlainConsumer, Readable, StreamAsk}
use Rattle.transcript_law.proofs.Words.{Done, PlainProducer, Served, frame_answered, with_frame, open_request, sync_request, name_request, over_why}
use Rattle.dcp_consumer.specs.Dialing.{buffer_request, numbered}
use Rattle.dcp_consumer.specs.Machine.{answered, frame_step, is_streaming}
use Rattle.dcp_consumer.specs.declared.handshake.Dialed.{Dialed}
use Rattle.dcp_consumer.specs.declared.handshake.Handshake.{Handshake as Waiting}
use Rattle.dcp_consumer.specs.declared.handshake.ConsumerStep.TheVariants as step
use Rattle.dcp_consumer.specs.declared.handshake.Handshake.TheVariants as waiting
use Rattle.dcp_producer.specs.declared.desk.Handshake.TheVariants as shaken
use Rattle.dcp_producer.specs.declared.desk.Named.TheVariants as named_as
use Rattle.mcbp_dcp.specs.declared.message.DcpMsg.TheVariants as msg

-- one of the first requests: the message, its answer, what is set at the producer then, and what the consumer waits for until then
pub record First : Type 0 where
  pub request : DcpMsg
  pub answer : DcpMsg
  pub set : Handshake
  pub awaited : Waiting

-- OPEN
abbrev pub open_first : ℕ → First
open_first node = record { request = open_request node; answer = msg.OpenAnswer 0; set = shaken.Open false named_as.Nobody; awaited = waiting.Opening }

-- CONTROL `connection_buffer_size`, where there is a buffer
abbrev pub buffer_first : ℕ → First
buffer_first buffer = record { request = buffer_request buffer; answer = msg.ControlAnswer 0; set = shaken.Open false named_as.Nobody; awaited = waiting.Buffering }

abbrev pub buffer_firsts : ℕ → List First
buffer_firsts buffer = if buffer == 0 then [] else buffer_first buffer ∷ []

-- CONTROL `enable_sync_writes`
abbrev pub sync_first : First
sync_first = record { request = sync_request; answer = msg.ControlAnswer 0; set = shaken.Open true named_as.Nobody; awaited = waiting.SyncWrites }

-- CONTROL `consumer_name`
abbrev pub name_first : ℕ → First
name_first node = record { request = name_request node; answer = msg.ControlAnswer 0; set = shaken.Open true (named_as.Member node); awaited = waiting.Naming }

-- those of a dial, in order
unfoldable pub firsts : Dialed → List First
firsts d = open_first d.node ∷ (buffer_firsts d.buffer ++ (sync_first ∷ name_first d.node ∷ []))

-- how many they are
abbrev pub first_count : Dialed → ℕ
first_count d = length (firsts d)

-- their frames, and those of their answers, which are never refused
abbrev pub asks_from : ℕ → List First → List Frame
asks_from n rows = numbered n (map (λ (x : First). x.request) rows)

abbrev pub answers_from : ℕ → List First → List Frame
answers_from n rows = numbered n (map (λ (x : First). x.answer) rows)

-- the frames that a consumer writes, in order: those of dialing, and its last request for a stream, with the opaque o
abbrev pub request_frames : ℕ → Dialed → StreamAsk → List Frame
request_frames o d ask = asks_from 1 (firsts d) ++ dcp_frame (msg.StreamRequest ask) o d.vb ∷ []

-- the answers to the first of them
abbrev pub first_answers : Dialed → List Frame
first_answers d = answers_from 1 (firsts d)

-- what is set at a producer that has answered so many of them, where this was set before
abbrev pub set_by : Handshake → ℕ → List First → Handshake
set_by before zero rows = before
set_by before (suc k) [] = before
set_by before (suc k) (x ∷ rows) = set_by x.set k rows

-- what a consumer waits for that has taken so many of their answers, and behind them that to its request for a stream
abbrev pub awaited_at : ℕ → List First → Waiting
awaited_at zero [] = waiting.Asking
awaited_at (suc k) [] = waiting.Streaming
awaited_at zero (x ∷ rows) = x.awaited
awaited_at (suc k) (x ∷ rows) = awaited_at k rows

-- what is set at a producer that has answered so many requests of the consumer of this dial
abbrev pub set_after : Dialed → ℕ → Handshake
set_after d answered = set_by shaken.Fresh answered (firsts d)

-- what that consumer waits for when it has taken so many answers: those to the first requests, and to its last request for a stream
abbrev pub waits_after : Dialed → ℕ → Waiting
waits_after d seen = awaited_at seen (firsts d)

-- a request is answered with success, which changes what is set at the producer at most
pub record Succeeds (s : Served) (f answer : Frame) (set : Handshake) : Type 0 where
  pub end : PlainProducer
  pub came : frame_answered f s ≡ Done (with_frame (record s { end = end }) answer)
  pub set_is : end.handshake ≡ set
  pub desk : end.desk ≡ s.end.desk
  pub asked : end.asked ≡ s.end.asked
  pub streams : end.streams ≡ s.end.streams

-- the request with the number n is answered so where this was set before, and readers take it and its answer
pub record IsServed (n : ℕ) (before : Handshake) (x : First) : Type 0 where
  pub asks : Readable (dcp_frame x.request n 0)
  pub says : Readable (dcp_frame x.answer n 0)
  pub succeeds : (s : Served) → s.end.handshake ≡ before → Succeeds s (dcp_frame x.request n 0) (dcp_frame x.answer n 0) x.set

-- each of them is
abbrev pub AreServed : ℕ → Handshake → List First → Type 0
AreServed n before [] = Unit {0}
AreServed n before (x ∷ rows) = IsServed n before x × AreServed (n + 1) x.set rows

-- the answer with the number n is counted by the consumer that waits for it, which waits for `next` then
pub record IsTaken (d : Dialed) (n : ℕ) (next : Waiting) (x : First) : Type 0 where
  pub counted : (c : PlainConsumer) → c.dialed ≡ d → c.handshake ≡ x.awaited → frame_step c (dcp_frame x.answer n 0) ≡ step.Answered
  pub goes_on : answered d.buffer x.awaited ≡ next
  pub no_end : over_why x.awaited ≡ None
  pub no_stream : is_streaming x.awaited ≡ false

abbrev pub AreTaken : Dialed → ℕ → List First → Type 0
AreTaken d n [] = Unit {0}
AreTaken d n (x ∷ rows) = IsTaken d n (awaited_at 0 rows) x × AreTaken d (n + 1) rows

-- frames of which these are the front
abbrev pub Begin : List Frame → Frame → Type 0
Begin all f = (more : List Frame) × (all ≡ f ∷ more)

-- the one behind k others, of which the first has the number n, at the producer
pub record ServedAt (n k m : ℕ) (before : Handshake) (rows : List First) : Type 0 where
  pub row : First
  pub asked : Begin (drop k (asks_from n rows)) (dcp_frame row.request m 0)
  pub said : Begin (drop k (answers_from n rows)) (dcp_frame row.answer m 0)
  pub served : IsServed m (set_by before k rows) row
  pub set : set_by before (suc k) rows ≡ row.set

pub first_served_at : (n k m : ℕ) (before : Handshake) (rows : List First) → n + k ≡ m → AreServed n before rows → k < length rows → ServedAt n k m before rows
first_served_at n k m before [] e all less = let no : ⊥ = omega arith in absurd no
first_served_at n zero m before (x ∷ rows) e all less =
    let same : n ≡ m = omega arith in
    record {
      row = x;
      asked = (asks_from (n + 1) rows, ap (λ i. dcp_frame x.request i 0 ∷ asks_from (n + 1) rows) same);
      said = (answers_from (n + 1) rows, ap (λ i. dcp_frame x.answer i 0 ∷ answers_from (n + 1) rows) same);
      served = subst (λ i. IsServed i before x) same all.0;
      set = refl;
    }
first_served_at n (suc k) m before (x ∷ rows) e all less =
    let there = first_served_at (n + 1) k m x.set rows (omega arith) all.1 (omega arith) in
    record { row = there.row; asked = there.asked; said = there.said; served = there.served; set = there.set }

-- and at the consumer
pub record TakenAt (d : Dialed) (n k m : ℕ) (rows : List First) : Type 0 where
  pub row : First
  pub said : Begin (drop k (answers_from n rows)) (dcp_frame row.answer m 0)
  pub waits : awaited_at k rows ≡ row.awaited
  pub taken : IsTaken d m (awaited_at (suc k) rows) row

pub first_taken_at : (d : Dialed) (n k m : ℕ) (rows : List First) → n + k ≡ m → AreTaken d n rows → k < length rows → TakenAt d n k m rows
first_taken_at d n k m [] e all less = let no : ⊥ = omega arith in absurd no
first_taken_at d n zero m (x ∷ rows) e all less =
    let same : n ≡ m = omega arith in
    record {
      row = x;
      said = (answers_from (n + 1) rows, ap (λ i. dcp_frame x.answer i 0 ∷ answers_from (n + 1) rows) same);
      waits = refl;
      taken = subst (λ i. IsTaken d i (awaited_at 0 rows) x) same all.0;
    }
first_taken_at d n (suc k) m (x ∷ rows) e all less =
    let there = first_taken_at d (n + 1) k m rows (omega arith) all.1 (omega arith) in
    record { row = there.row; said = there.said; waits = there.waits; taken = there.taken }

-- no link is over while it waits, and no stream is granted before all answers were taken
pub none_over : (d : Dialed) (n k : ℕ) (rows : List First) → AreTaken d n rows → over_why (awaited_at k rows) ≡ None
none_over d n zero [] all = refl
none_over d n (suc k) [] all = refl
none_over d n zero (x ∷ rows) all = all.0.no_end
none_over d n (suc k) (x ∷ rows) all = none_over d (n + 1) k rows all.1

pub streams_last : (d : Dialed) (n k : ℕ) (rows : List First) → AreTaken d n rows → is_streaming (awaited_at k rows) ≡ true → length rows < k
streams_last d n zero [] all e = cc
streams_last d n (suc k) [] all e = omega arith
streams_last d n zero (x ∷ rows) all e = let no : is_streaming x.awaited ≡ false = all.0.no_stream in cc
streams_last d n (suc k) (x ∷ rows) all e = let behind : length rows < k = streams_last d (n + 1) k rows all.1 e in omega arith

-- behind all answers it asks for a stream, and then it has it
pub asks_last : (rows : List First) → awaited_at (length rows) rows ≡ waiting.Asking
asks_last [] = refl
asks_last (x ∷ rows) = asks_last rows

pub has_last : (rows : List First) → awaited_at (suc (length rows)) rows ≡ waiting.Streaming
has_last [] = refl
has_last (x ∷ rows) = has_last rows

-- there are as many frames as messages
pub length_numbered : (n : ℕ) (ms : List DcpMsg) → length (numbered n ms) ≡ length ms
length_numbered n [] = refl
length_numbered n (m ∷ ms) = ap suc (length_numbered (n + 1) ms)

-- where a list goes on behind its first k with an element
module _ {A : Type 0} where
  -- it is longer
  pub goes_on_short : (k : ℕ) (xs : List A) (x : A) (more : List A) → drop k xs ≡ x ∷ more → k < length xs
  goes_on_short k [] x more e = let none : drop k [] ≡ [] = drop-nil {A = A} k in cc
  goes_on_short zero (y ∷ xs) x more e = omega arith
  goes_on_short (suc k) (y ∷ xs) x more e = let less : k < length xs = goes_on_short k xs x more e in omega arith

  -- behind that element is the rest
  pub behind_first : (k : ℕ) (xs : List A) (x : A) (more : List A) → drop k xs ≡ x ∷ more → drop (suc k) xs ≡ more
  behind_first k [] x more e = let none : drop k [] ≡ [] = drop-nil {A = A} k in cc
  behind_first zero (y ∷ xs) x more e = ap (drop 1) e
  behind_first (suc k) (y ∷ xs) x more e = behind_first k xs x more e

  -- so it does with others behind it
  pub goes_on_before : (k : ℕ) (xs ys : List A) (x : A) (more : List A) → drop k xs ≡ x ∷ more → drop k (xs ++ ys) ≡ x ∷ (more ++ ys)
  goes_on_before k [] ys x more e = let none : drop k [] ≡ [] = drop-nil {A = A} k in cc
  goes_on_before zero (y ∷ xs) ys x more e = ap (λ zs. zs ++ ys) e
  goes_on_before (suc k) (y ∷ xs) ys x more e = goes_on_before k xs ys x more e

  -- its front ends with it
  pub front_ends : (k : ℕ) (xs : List A) (x : A) (more : List A) → drop k xs ≡ x ∷ more → take (suc k) xs ≡ take k xs ++ x ∷ []
  front_ends k [] x more e = let none : drop k [] ≡ [] = drop-nil {A = A} k in cc
  front_ends zero (y ∷ xs) x more e = let same : y ≡ x = cc in ap (λ z. z ∷ []) same
  front_ends (suc k) (y ∷ xs) x more e = ap (λ zs. y ∷ zs) (front_ends k xs x more e)

  -- the rest of a front is a front of the rest
  pub untaken : (n m : ℕ) (xs : List A) (x : A) (more : List A) → drop n (take m xs) ≡ x ∷ more → (n < m) × (others : List A) × (drop n xs ≡ x ∷ others)
  untaken zero zero xs x more e = cc
  untaken zero (suc m) [] x more e = cc
  untaken zero (suc m) (y ∷ xs) x more e = let s : y ≡ x = cc in (omega arith, xs, ap (λ z. z ∷ xs) s)
  untaken (suc n) zero xs x more e = cc
  untaken (suc n) (suc m) [] x more e = cc
  untaken (suc n) (suc m) (y ∷ xs) x more e = let i = untaken n m xs x more e in let l : n < m = i.0 in (omega arith, i.1, i.2)

-- the next of some answers, of which there are k, of one behind them, and of what is behind that
pub data Next (firsts : List Frame) (k : ℕ) (last f : Frame) (behind more : List Frame) (seen : ℕ) : Type 0 where
  IsFirst : (others : List Frame) → drop seen firsts ≡ f ∷ others → drop (suc seen) (firsts ++ last ∷ []) ++ behind ≡ more → Next firsts k last f behind more seen
  IsLast : seen ≡ k → last ≡ f → behind ≡ more → Next firsts k last f behind more seen
  IsBehind : seen ≡ suc k → behind ≡ f ∷ more → Next firsts k last f behind more seen

pub next_answer : (firsts : List Frame) (k : ℕ) (last f : Frame) (behind more : List Frame) (seen : ℕ) → length firsts ≡ k → seen ≤ suc k → drop seen (firsts ++ last ∷ []) ++ behind ≡ f ∷ more → Next firsts k last f behind more seen
next_answer [] k last f behind more zero len few e = let same : last ≡ f = cc in Next.IsLast (omega (arith, len)) same (ap (drop 1) e)
next_answer [] k last f behind more (suc zero) len few e = Next.IsBehind (omega (arith, len)) e
next_answer [] k last f behind more (suc (suc seen)) len few e = let no : ⊥ = omega (arith, len) in absurd no
next_answer (x ∷ xs) k last f behind more zero len few e = let same : x ≡ f = cc in Next.IsFirst xs (ap (λ y. y ∷ xs) same) (ap (drop 1) e)
next_answer (x ∷ xs) k last f behind more (suc seen) len few e = by (next_answer xs (length xs) last f behind more seen refl (omega (arith, len)) e)
  where
    by : Next xs (length xs) last f behind more seen → Next (x ∷ xs) k last f behind more (suc seen)
    by (Next.IsFirst others h b) = Next.IsFirst others h b
    by (Next.IsLast at h b) = Next.IsLast (omega (arith, len, at)) h b
    by (Next.IsBehind at b) = Next.IsBehind (omega (arith, len, at)) b
