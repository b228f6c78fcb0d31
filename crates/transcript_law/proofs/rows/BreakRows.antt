-- connections of clients that close in the group of a line, judged by hand
use Rattle.std.specs.Prelude.{◌≡◌, ◌∷◌, ◌++◌, take}
use Rattle.transcript_law.proofs.Words.{ℕ, true, false, List, [], refl, sym, ap, ◌∙◌, arith, Option, Some, None, Event, Frame, FrameFault}
unfoldable use Rattle.mcbp_frame.specs.Cutting.{frames_in}
unfoldable use Rattle.mcbp_frame.specs.Frames.{first_frame, frame_of}
unfoldable use Rattle.mcbp_frame.specs.Spelling.{spelling}
use Rattle.mcbp_frame.specs.Frames.{faulty_head}
use Rattle.mcbp_frame.specs.declared.frame.FaultyHead.{FaultyHead}
use Rattle.mcbp_frame.specs.declared.frame.FrameFault.TheVariants.{BadLengths, BadMagic}
use Rattle.mcbp_kv.specs.{Answers.{bare_answer}, Replies.{reply_frame}}
use Rattle.transcript_law.proofs.rows.Answering.{byte_at}
use Rattle.mcbp_kv.specs.declared.opcodes.TheConstants.{NOOP, SET}
use Rattle.vb_events.specs.declared.event.Event.TheVariants as event
use Rattle.vb_types.specs.declared.status.Status.TheVariants.{Einval, Success, SyncWriteAmbiguous}
use Rattle.transcript_law.specs.AnswerRows.{broken, says, shuts, shuts_other, strange}
use Rattle.transcript_law.specs.AnsweredRows.{brings, durable_bytes, durable_unknown, noop_answered, noop_bytes, sent_alone}
use Rattle.transcript_law.specs.ClientStreams.{blank_client, with_sent_bytes}
use Rattle.transcript_law.specs.BreakRows.{ClosesBehind, ClosesWaiting, NoTick}
use Rattle.transcript_law.specs.Breaks.{BreaksOff, ClosesThere, break_told}
use Rattle.transcript_law.specs.ClientRows.{LawfulOpened}
use Rattle.transcript_law.specs.Crashes.{ok}
use Rattle.transcript_law.specs.Questions.{behind_frames}

pub named : ClosesBehind broken (says NOOP Einval ∷ shuts ∷ [])
unfolding spelling frames_in first_frame frame_of
named e = record { fault = BadLengths; stands = refl; front = []; last = refl }

pub unnamed : ClosesBehind strange (shuts ∷ [])
unfolding spelling frames_in first_frame frame_of
unnamed e = record { fault = BadMagic; stands = refl; front = []; last = refl }

pub behind : ClosesBehind (noop_bytes ++ strange) (noop_answered ∷ shuts ∷ [])
unfolding spelling frames_in first_frame frame_of
behind e = record { fault = BadMagic; stands = refl; front = noop_answered ∷ []; last = refl }

pub stays : ClosesBehind noop_bytes (noop_answered ∷ [])
stays e = let z : false ≡ true = e in cc

pub whole : ClosesBehind noop_bytes (noop_answered ∷ shuts ∷ []) → ⊥
unfolding spelling frames_in first_frame frame_of
whole l = let b = l refl in let e : None ≡ Some b.fault = b.stands in cc

pub part : ClosesBehind (take 23 broken) (shuts ∷ []) → ⊥
unfolding spelling frames_in first_frame frame_of
part l = let b = l refl in let e : None ≡ Some b.fault = b.stands in cc

-- which fault it is
fault_is : (fault other : FrameFault) → Some fault ≡ Some other → fault ≡ other
fault_is fault other e = cc

-- lines that end with an answer and that the connection closed
one_line : (front : List Event) (x y z : Event) → x ∷ [] ≡ front ++ y ∷ z ∷ [] → ⊥
one_line [] x y z e = cc
one_line (w ∷ []) x y z e = cc
one_line (w ∷ v ∷ front) x y z e = cc

two_lines : (front : List Event) (a b y z : Event) → a ∷ b ∷ [] ≡ front ++ y ∷ z ∷ [] → (a ≡ y) × (b ≡ z)
two_lines [] a b y z e = (cc, cc)
two_lines (w ∷ []) a b y z e = let r : b ∷ [] ≡ y ∷ z ∷ [] = cc in cc
two_lines (w ∷ v ∷ front) a b y z e = let r : [] ≡ front ++ y ∷ z ∷ [] = cc in absurd (none_there front y (z ∷ []) r)
  where
    none_there : (front : List Event) (y : Event) (rest : List Event) → [] ≡ front ++ y ∷ rest → ⊥
    none_there [] y rest e = cc
    none_there (w ∷ front) y rest e = cc

-- the fault of `broken` is told so
told_of : (lines : List Event) (b : BreaksOff 0 1 (with_sent_bytes broken ((sent_alone []).clients_at 0 1)).asking lines) → lines ≡ b.front ++ says NOOP Einval ∷ shuts ∷ []
unfolding spelling frames_in first_frame frame_of
told_of lines b = b.last ∙ ap (λ fault. b.front ++ break_told 0 1 (faulty_head fault (behind_frames broken))) (sym (fault_is BadLengths b.fault b.stands))

pub silent : ClosesBehind broken (shuts ∷ []) → ⊥
silent l = let b = l refl in one_line b.front shuts (says NOOP Einval) shuts (told_of (shuts ∷ []) b)

bytes_of : (xs ys : List ℕ) → event.Reply 0 1 xs ≡ event.Reply 0 1 ys → xs ≡ ys
bytes_of xs ys e = cc

pub other_answer : ClosesBehind broken (noop_answered ∷ shuts ∷ []) → ⊥
unfolding spelling
other_answer l =
    let b = l refl in let g : Frame = reply_frame (bare_answer NOOP Success 9) in let h : Frame = reply_frame (bare_answer NOOP Einval 9) in
    let same : spelling g ≡ spelling h = bytes_of (spelling g) (spelling h) (two_lines b.front noop_answered shuts (says NOOP Einval) shuts (told_of (noop_answered ∷ shuts ∷ []) b)).0 in
    let e : ◌≡◌ {A = ℕ} 0 4 = ap (byte_at 7) same in omega (arith, e)

pub early : ClosesBehind broken (shuts ∷ says NOOP Einval ∷ []) → ⊥
early l = let b = l refl in let e : shuts ≡ says NOOP Einval = (two_lines b.front shuts (says NOOP Einval) (says NOOP Einval) shuts (told_of (shuts ∷ says NOOP Einval ∷ []) b)).0 in cc

pub other : ClosesBehind strange (shuts_other ∷ []) → ⊥
unfolding spelling frames_in first_frame frame_of
other l = let b = l refl in one_last b.front (b.last ∙ ap (λ fault. b.front ++ break_told 0 1 (faulty_head fault (behind_frames strange))) (sym (fault_is BadMagic b.fault b.stands)))
  where
    one_last : (front : List Event) → shuts_other ∷ [] ≡ front ++ shuts ∷ [] → ⊥
    one_last [] e = cc
    one_last (w ∷ []) e = cc
    one_last (w ∷ v ∷ front) e = cc

-- ---- behind an outcome

pub outcome : ClosesWaiting (durable_bytes ++ strange) (durable_unknown ∷ shuts ∷ [])
unfolding spelling frames_in first_frame frame_of
outcome = (record { fault = BadMagic; stands = refl; told = λ head e. cc }, tt)

same_head : (x y : FaultyHead) → Some x ≡ Some y → x ≡ y
same_head x y e = cc

pub outcome_named : ClosesWaiting (durable_bytes ++ broken) (durable_unknown ∷ says NOOP Einval ∷ shuts ∷ [])
unfolding spelling frames_in first_frame frame_of
outcome_named = (
  record {
    fault = BadLengths;
    stands = refl;
    told = λ head e. ap (λ (h : FaultyHead). Some (event.Reply 0 1 (spelling (reply_frame (bare_answer h.opcode Einval h.opaque))))) (same_head (record { opcode = 10; opaque = 9 }) head e);
  },
  tt,
)

pub outcome_whole : ClosesWaiting durable_bytes (durable_unknown ∷ shuts ∷ []) → ⊥
unfolding spelling frames_in first_frame frame_of
outcome_whole l = let b = l.0 in let e : None ≡ Some b.fault = b.stands in cc

-- the answer to the fault of `broken` stands in front
told_in_front : (before : Option Event) → ClosesThere 0 1 (with_sent_bytes (durable_bytes ++ broken) blank_client).asking before → before ≡ Some (says NOOP Einval)
unfolding spelling frames_in first_frame frame_of
told_in_front before b =
    let is : BadLengths ≡ b.fault = fault_is BadLengths b.fault b.stands in
    b.told (record { opcode = 10; opaque = 9 }) (ap (λ fault. faulty_head fault (behind_frames (durable_bytes ++ broken))) (sym is))

reply_bytes : (xs ys : List ℕ) → Some (event.Reply 0 1 xs) ≡ Some (event.Reply 0 1 ys) → xs ≡ ys
reply_bytes xs ys e = cc

pub outcome_silent : ClosesWaiting (durable_bytes ++ broken) (durable_unknown ∷ shuts ∷ []) → ⊥
unfolding spelling
outcome_silent l =
    let g : Frame = reply_frame (bare_answer SET SyncWriteAmbiguous 9) in let h : Frame = reply_frame (bare_answer NOOP Einval 9) in
    let same : spelling g ≡ spelling h = reply_bytes (spelling g) (spelling h) (told_in_front (Some durable_unknown) l.0) in
    let e : ◌≡◌ {A = ℕ} 1 10 = ap (byte_at 1) same in omega (arith, e)

pub outcome_later : ClosesWaiting (durable_bytes ++ broken) (durable_unknown ∷ says NOOP Einval ∷ noop_answered ∷ shuts ∷ []) → ⊥
unfolding spelling
outcome_later l =
    let g : Frame = reply_frame (bare_answer NOOP Success 9) in let h : Frame = reply_frame (bare_answer NOOP Einval 9) in
    let same : spelling g ≡ spelling h = reply_bytes (spelling g) (spelling h) (told_in_front (Some noop_answered) l.0) in
    let e : ◌≡◌ {A = ℕ} 0 4 = ap (byte_at 7) same in omega (arith, e)

pub outcome_other : ClosesWaiting (durable_bytes ++ strange) (durable_unknown ∷ shuts_other ∷ []) → ⊥
unfolding frames_in first_frame
outcome_other l = let b = l.0 in let e : None ≡ Some b.fault = b.stands in cc

pub stopped : ClosesWaiting noop_bytes (event.NodeStopped 0 ∷ shuts ∷ [])
stopped = tt

pub ticked : NoTick (shuts ∷ [])
unfolding frames_in first_frame
ticked l = let b = l.0.10.0 in let e : None ≡ Some b.fault = b.stands in cc

pub no_reason : LawfulOpened (brings noop_bytes ∷ []) (ok (noop_answered ∷ shuts ∷ []) ∷ []) → ⊥
unfolding spelling frames_in first_frame frame_of
no_reason l = let b = l.1.1.0.10 refl in let e : None ≡ Some b.fault = b.stands in cc

pub idle : LawfulOpened (brings [] ∷ []) (ok (shuts ∷ []) ∷ []) → ⊥
unfolding spelling frames_in first_frame frame_of
idle l = let b = l.1.1.0.10 refl in let e : None ≡ Some b.fault = b.stands in cc
