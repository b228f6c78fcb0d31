-- which frame of a client is to be answered next, as its frames are served one after another
use Rattle.std.specs.Prelude.{◌≡◌, ◌+◌, ◌++◌, ◌∷◌, if◌then◌else◌}
use Rattle.std.specs.List.{sum_by}
use Rattle.std.specs.Option.{option_map}
use Rattle.std.proofs.Math.Seq.{drop-append_seam}
use Rattle.std.proofs.lemmas.List.Sums.{sum_by-append, sum_by-cons}
use Rattle.transcript_law.proofs.Words.{ℕ, Bool, true, false, List, [], length, drop, refl, sym, ap, ◌∙◌, subst, arith, append_assoc, append-nil, Option, Some, None, Ok, Err, Frame, FrameFault, AreBytes, spelling}
use Rattle.client_session.specs.Serving.{PlainSession, is_dcp}
use Rattle.client_session.specs.declared.session.Awaited.{Awaited}
use Rattle.client_session.specs.declared.session.Settings.{Settings}
use Rattle.dcp_producer.specs.declared.desk.Handshake.{Handshake}
use Rattle.mcbp_frame.proofs.{Cases.{front, length-spelling}, Pieces.{first-spelling}, Cutting.{frames-none, frames-one}}
use Rattle.mcbp_frame.specs.{Cutting.{frame_in, frames_in}, Frames.{first_frame, frame_len}}
use Rattle.mcbp_kv.specs.Requests.{request_of}
use Rattle.transcript_law.proofs.indexers.Known.{frames_more, no_frames, setup_more}
use Rattle.transcript_law.proofs.invariant.ClientsTold.{AreAnswered, AreUsed, AskingIs, HasUsed, IsOpenQuestion, setup_of}
use Rattle.transcript_law.specs.ClientFrames.{message_of, set_by, setup_after}
use Rattle.transcript_law.specs.LawfulAnswers.{HasNumber}
use Rattle.transcript_law.specs.Questions.{Question, behind_frames, behind_other, durables_by, first_question, past_question, question_end, question_of, settings_after, unserved, unserved_by, wants_answer}
use Rattle.transcript_law.specs.StreamsTold.{Asking, Setup}
use Rattle.transcript_law.specs.Unanswered.{AsksDurably}

-- ---- among frames

-- no question is none behind a frame
none_back : (g : Frame) (o : Option Question) → option_map (behind_other g) o ≡ None → o ≡ None
none_back g None q = refl
none_back g (Some x) q = cc

-- and one is one
some_back : (g : Frame) (o : Option Question) (q : Question) → option_map (behind_other g) o ≡ Some q → (p : Question) × (o ≡ Some p) × (behind_other g p ≡ q)
some_back g None q e = cc
some_back g (Some p) q e = (p, refl, cc)

-- none of them, and none behind one more that wants no answer
pub none_more : (s : Setup) (fs : List Frame) (f : Frame) → first_question s fs ≡ None → wants_answer (setup_after s fs) f ≡ false → first_question s (fs ++ f ∷ []) ≡ None
none_more s [] f none wants = ap (λ b. if b then Some (record { before = []; frame = f }) else None) wants
none_more s (g ∷ fs) f none wants = by (λ e. none_more (set_by (message_of g) s) fs f e wants) (wants_answer s g) none
  where
    by : (first_question (set_by (message_of g) s) fs ≡ None → first_question (set_by (message_of g) s) (fs ++ f ∷ []) ≡ None) → (b : Bool)
        → (if b then Some (record { before = []; frame = g }) else option_map (behind_other g) (first_question (set_by (message_of g) s) fs)) ≡ None
        → (if b then Some (record { before = []; frame = g }) else option_map (behind_other g) (first_question (set_by (message_of g) s) (fs ++ f ∷ []))) ≡ None
    by rest true e = cc
    by rest false e = ap (option_map (behind_other g)) (rest (none_back g (first_question (set_by (message_of g) s) fs) e))

-- one more that wants one
pub first_then : (s : Setup) (fs : List Frame) (f : Frame) (more : List Frame) → first_question s fs ≡ None → wants_answer (setup_after s fs) f ≡ true → first_question s (fs ++ f ∷ more) ≡ Some (record { before = fs; frame = f })
first_then s [] f more none wants = ap (λ b. if b then Some (record { before = []; frame = f }) else option_map (behind_other f) (first_question (set_by (message_of f) s) more)) wants
first_then s (g ∷ fs) f more none wants = by (λ e. first_then (set_by (message_of g) s) fs f more e wants) (wants_answer s g) none
  where
    by : (first_question (set_by (message_of g) s) fs ≡ None → first_question (set_by (message_of g) s) (fs ++ f ∷ more) ≡ Some (record { before = fs; frame = f })) → (b : Bool)
        → (if b then Some (record { before = []; frame = g }) else option_map (behind_other g) (first_question (set_by (message_of g) s) fs)) ≡ None
        → (if b then Some (record { before = []; frame = g }) else option_map (behind_other g) (first_question (set_by (message_of g) s) (fs ++ f ∷ more))) ≡ Some (record { before = g ∷ fs; frame = f })
    by rest true e = cc
    by rest false e = ap (option_map (behind_other g)) (rest (none_back g (first_question (set_by (message_of g) s) fs) e))

-- the first one of them is the first one, whatever comes behind
pub first_still : (s : Setup) (fs more : List Frame) (q : Question) → first_question s fs ≡ Some q → first_question s (fs ++ more) ≡ Some q
first_still s [] more q e = cc
first_still s (g ∷ fs) more q e = by (λ p is. first_still (set_by (message_of g) s) fs more p is) (wants_answer s g) e
  where
    by : ((p : Question) → first_question (set_by (message_of g) s) fs ≡ Some p → first_question (set_by (message_of g) s) (fs ++ more) ≡ Some p) → (b : Bool)
        → (if b then Some (record { before = []; frame = g }) else option_map (behind_other g) (first_question (set_by (message_of g) s) fs)) ≡ Some q
        → (if b then Some (record { before = []; frame = g }) else option_map (behind_other g) (first_question (set_by (message_of g) s) (fs ++ more))) ≡ Some q
    by rest true is = is
    by rest false is = let (p, at, same) = some_back g (first_question (set_by (message_of g) s) fs) q is in ap (option_map (behind_other g)) (rest p at) ∙ ap Some same

-- ---- of a connection

-- a frame that is being answered, where it is
abbrev pub in_hand : Frame → Awaited
in_hand f = record { waiter = 0; opcode = f.opcode; opaque = f.opaque }

abbrev pub hand_if : Bool → Frame → Option Awaited
hand_if true f = Some (in_hand f)
hand_if false f = None

-- that is under no number
pub hand_zero : (b : Bool) (f : Frame) (a : Awaited) → hand_if b f ≡ Some a → a.waiter ≡ 0
hand_zero true f a e = let same : in_hand f ≡ a = cc in ap (λ (x : Awaited). x.waiter) (sym same)
hand_zero false f a e = cc

-- numbers that were used for so many writes, counted otherwise
pub used_as : {used used' count count' : ℕ} → used' ≡ used → count ≡ count' → HasUsed used count → HasUsed used' count'
used_as {used = used} {count' = count'} same is x = subst (λ n. HasUsed n count') (sym same) (subst (HasUsed used) is x)

-- where nothing is awaited a number was used for each write that was answered
pub free_numbers : (k : Asking) (session : PlainSession) (set : Handshake) → AskingIs k session set → session.awaited ≡ None → HasUsed session.used k.durables
free_numbers k session set x free = subst (λ o. AreUsed o session.used k.durables) free x.numbers

-- and one more for what is awaited under a number
pub owed_numbers : (o : Option Awaited) (a : Awaited) (used count : ℕ) → o ≡ Some a → (a.waiter ≡ 0 → ⊥) → AreUsed o used count → HasUsed used (count + 1)
owed_numbers o a used count is some x = subst (λ k. AreUsed k used count) is x some

-- a frame of DCP asks for no durable write
pub dcp_numbers : (k : Asking) (q : Question) {used : ℕ} → is_dcp q.frame.opcode ≡ true → HasUsed used k.durables → HasUsed used (past_question q k).durables
dcp_numbers k q dcp x = used_as refl (sym (ap (λ b. if b then k.durables else durables_by (request_of k.settings.json q.frame) k.durables) dcp)) x

-- the frames of its bytes are those that were served, and those that the session keeps
pub all_frames : (k : Asking) (session : PlainSession) (set : Handshake) (x : AskingIs k session set) → frames_in k.bytes ≡ x.served ++ frames_in session.reader
all_frames k session set x = ap frames_in x.bytes ∙ x.frames.cut session.reader

-- nothing is awaited: each one that was served is answered
pub none_open : (k : Asking) (session : PlainSession) (set : Handshake) (x : AskingIs k session set) → session.awaited ≡ None → first_question k.setup x.served ≡ None
none_open k session set x free = subst (λ o. AreAnswered o k x.served) free x.answered

-- what is awaited is to be answered next
pub awaited_next : (k : Asking) (session : PlainSession) (set : Handshake) (x : AskingIs k session set) (a : Awaited) → session.awaited ≡ Some a → (o : IsOpenQuestion k x.served a) × (question_of k ≡ Some o.question)
awaited_next k session set x a waits =
    let o : IsOpenQuestion k x.served a = subst (λ o. AreAnswered o k x.served) waits x.answered in
    (o, ap (first_question k.setup) (all_frames k session set x) ∙ first_still k.setup x.served (frames_in session.reader) o.question o.next)

module _ (k : Asking) (session after : PlainSession) (set set' : Handshake) (f : Frame) (bytes : AreBytes session.reader) (first : first_frame session.reader ≡ Some (Ok f)) (x : AskingIs k session set) (free : session.awaited ≡ None) where
  -- a frame that is served and wants an answer is to be answered next
  pub next_is : wants_answer (setup_of set) f ≡ true → question_of k ≡ Some (record { before = x.served; frame = f })
  next_is wants =
      let is = front session.reader f bytes first in
      let seen : frames_in session.reader ≡ f ∷ frames_in (drop (frame_len f) session.reader) =
      ap frames_in is.1 ∙ frames-one (spelling f ++ drop (frame_len f) session.reader) f (first-spelling f (drop (frame_len f) session.reader) is.0)
      ∙ ap (λ l. f ∷ frames_in l) (ap (λ n. drop n (spelling f ++ drop (frame_len f) session.reader)) (sym (length-spelling f)) ∙ drop-append_seam (spelling f) (drop (frame_len f) session.reader)) in
      ap (first_question k.setup) (all_frames k session set x ∙ ap (λ more. x.served ++ more) seen)
      ∙ first_then k.setup x.served f (frames_in (drop (frame_len f) session.reader)) (none_open k session set x free) (ap (λ s. wants_answer s f) x.sets ∙ wants)

  -- and so it is once it is taken off the session's bytes
  pub hand_asks : set_by (message_of f) (setup_of set) ≡ setup_of set' → after.reader ≡ drop (frame_len f) session.reader → after.settings ≡ session.settings → (wants_answer (setup_of set) f ≡ false → after.used ≡ session.used) → after.awaited ≡ hand_if (wants_answer (setup_of set) f) f → AskingIs k after set'
  hand_asks sets behind same used now =
      let is = front session.reader f bytes first in record {
        served = x.served ++ f ∷ [];
        front = x.front ++ spelling f;
        bytes = x.bytes ∙ ap (λ l. x.front ++ l) is.1 ∙ sym (append_assoc x.front (spelling f) (drop (frame_len f) session.reader)) ∙ ap (λ l. (x.front ++ spelling f) ++ l) (sym behind);
        frames = frames_more x.front x.served f is.0 x.frames;
        sets = setup_more k.setup x.served f ∙ ap (set_by (message_of f)) x.sets ∙ sets;
        settings = x.settings ∙ sym same;
        answered = subst (λ o. AreAnswered o k (x.served ++ f ∷ [])) (sym now) (by (wants_answer (setup_of set) f) refl);
        numbers = subst (λ o. AreUsed o after.used k.durables) (sym now) (counted (wants_answer (setup_of set) f) refl);
      }
    where
      counted : (b : Bool) → wants_answer (setup_of set) f ≡ b → AreUsed (hand_if b f) after.used k.durables
      counted true wants = λ some. absurd (some refl)
      counted false wants = used_as (used wants) refl (free_numbers k session set x free)

      by : (b : Bool) → wants_answer (setup_of set) f ≡ b → AreAnswered (hand_if b f) k (x.served ++ f ∷ [])
      by true wants = record {
        question = record { before = x.served; frame = f };
        next = first_then k.setup x.served f [] (none_open k session set x free) (ap (λ s. wants_answer s f) x.sets ∙ wants);
        last = refl;
        opcode = refl;
        opaque = refl;
        durable = λ some. absurd (some refl);
        numbered = λ some. absurd (some refl);
      }
      by false wants = none_more k.setup x.served f (none_open k session set x free) (ap (λ s. wants_answer s f) x.sets ∙ wants)

-- a question that was served last ends where the served bytes do
open_end : (k : Asking) (session : PlainSession) (set : Handshake) (x : AskingIs k session set) (q : Question) → x.served ≡ q.before ++ q.frame ∷ [] → question_end q ≡ length x.front
open_end k session set x q last =
    let one : sum_by frame_len (q.frame ∷ []) ≡ frame_len q.frame + sum_by frame_len [] = sum_by-cons frame_len q.frame [] in
    sym (x.frames.long ∙ ap (sum_by frame_len) last ∙ sum_by-append frame_len q.before (q.frame ∷ []) ∙ ap (λ n. sum_by frame_len q.before + n) (one ∙ omega arith))

-- behind it stand the bytes that the session keeps
behind_open : (k : Asking) (session : PlainSession) (set : Handshake) (x : AskingIs k session set) (q : Question) → x.served ≡ q.before ++ q.frame ∷ [] → drop (question_end q) k.bytes ≡ session.reader
behind_open k session set x q last = ap (drop (question_end q)) x.bytes ∙ ap (λ n. drop n (x.front ++ session.reader)) (open_end k session set x q last) ∙ drop-append_seam x.front session.reader

-- what was awaited is answered
pub past_asks : (k : Asking) (session after : PlainSession) (set : Handshake) (x : AskingIs k session set) (a : Awaited) (q : Question) → session.awaited ≡ Some a → question_of k ≡ Some q → after.reader ≡ session.reader → after.awaited ≡ None
    → after.settings ≡ settings_after session.settings q.frame → HasUsed after.used (past_question q k).durables → AskingIs (past_question q k) after set
past_asks k session after set x a q waits next reader free settings used =
    let (o, is) = awaited_next k session set x a waits in
    let both : Some o.question ≡ Some q = sym is ∙ next in
    let same : o.question ≡ q = cc in
    let last : x.served ≡ q.before ++ q.frame ∷ [] = o.last ∙ ap (λ (p : Question). p.before ++ p.frame ∷ []) same in
    record {
      served = [];
      front = [];
      bytes = behind_open k session set x q last ∙ sym reader;
      frames = no_frames;
      sets = ap (setup_after k.setup) (sym last) ∙ x.sets;
      settings = ap (λ (s : Settings). settings_after s q.frame) x.settings ∙ sym settings;
      answered = subst (λ o. AreAnswered o (past_question q k) []) (sym free) refl;
      numbers = subst (λ o. AreUsed o after.used (past_question q k).durables) (sym free) used;
    }

-- more bytes came
pub more_asks : (k : Asking) (session : PlainSession) (set : Handshake) (piece : List ℕ) → AskingIs k session set → AskingIs (record k { bytes = k.bytes ++ piece }) (record session { reader = session.reader ++ piece }) set
more_asks k session set piece x = record {
  served = x.served;
  front = x.front;
  bytes = ap (λ l. l ++ piece) x.bytes ∙ append_assoc x.front session.reader piece;
  frames = x.frames;
  sets = x.sets;
  settings = x.settings;
  answered = by session.awaited x.answered;
  numbers = x.numbers;
}
  where
    by : (o : Option Awaited) → AreAnswered o k x.served → AreAnswered o (record k { bytes = k.bytes ++ piece }) x.served
    by None none = none
    by (Some a) x = record { question = x.question; next = x.next; last = x.last; opcode = x.opcode; opaque = x.opaque; durable = x.durable; numbered = x.numbered }

-- and what is asked next is still what is awaited
pub more_next : (k : Asking) (session : PlainSession) (set : Handshake) (piece : List ℕ) (x : AskingIs k session set) (a : Awaited) → session.awaited ≡ Some a → (q : Question) → question_of (record k { bytes = k.bytes ++ piece }) ≡ Some q → question_of k ≡ Some q
unfolding more_asks
more_next k session set piece x a waits q asks =
    let (o, is) = awaited_next k session set x a waits in
    let after : AskingIs (record k { bytes = k.bytes ++ piece }) (record session { reader = session.reader ++ piece }) set = more_asks k session set piece x in
    let (o', is') = awaited_next (record k { bytes = k.bytes ++ piece }) (record session { reader = session.reader ++ piece }) set after a waits in
    is ∙ sym o.next ∙ o'.next ∙ sym is' ∙ asks

-- a durable write that was being answered is awaited
pub awaited_asks : (k : Asking) (session after : PlainSession) (set : Handshake) (x : AskingIs k session set) (f : Frame) (a : Awaited) (before : List Frame) → session.awaited ≡ Some (in_hand f) → question_of k ≡ Some (record { before = before; frame = f })
    → after.reader ≡ session.reader → after.settings ≡ session.settings → after.awaited ≡ Some a → a.opcode ≡ f.opcode → a.opaque ≡ f.opaque → AsksDurably session.settings f → (a.waiter ≡ 0 → ⊥) → HasNumber k.durables → HasUsed after.used (k.durables + 1) → AskingIs k after set
awaited_asks k session after set x f a before hand next reader settings waits code number durable some left used =
    let (o, is) = awaited_next k session set x (in_hand f) hand in
    let both : Some o.question ≡ Some (record { before = before; frame = f }) = sym is ∙ next in
    let same : o.question.frame ≡ f = cc in
    record {
      served = x.served;
      front = x.front;
      bytes = x.bytes ∙ ap (λ l. x.front ++ l) (sym reader);
      frames = x.frames;
      sets = x.sets;
      settings = x.settings ∙ sym settings;
      answered = subst (λ o. AreAnswered o k x.served) (sym waits) (record {
        question = o.question;
        next = o.next;
        last = o.last;
        opcode = code ∙ ap (λ (g : Frame). g.opcode) (sym same);
        opaque = number ∙ ap (λ (g : Frame). g.opaque) (sym same);
        numbered = λ some. left;
        durable = λ some. subst (AsksDurably k.settings) (sym same) (subst (λ s. AsksDurably s f) (sym x.settings) durable);
      });
      numbers = subst (λ o. AreUsed o after.used k.durables) (sym waits) (λ z. used);
    }

-- where no frame is left each is answered, and the session's bytes stand behind them
pub rest_asks : (k : Asking) (session : PlainSession) (set : Handshake) (x : AskingIs k session set) → session.awaited ≡ None → frame_in (first_frame session.reader) ≡ None → (question_of k ≡ None) × (behind_frames k.bytes ≡ session.reader)
rest_asks k session set x free first =
    let seen : frames_in k.bytes ≡ x.served = all_frames k session set x ∙ ap (λ more. x.served ++ more) (frames-none session.reader first) ∙ append-nil x.served in (
      ap (first_question k.setup) seen ∙ none_open k session set x free,
      ap (λ fs. drop (sum_by frame_len fs) k.bytes) seen ∙ ap (λ n. drop n k.bytes) (sym x.frames.long) ∙ ap (drop (length x.front)) x.bytes ∙ drop-append_seam x.front session.reader,
    )

-- the session keeps what was not served, where it keeps no whole frame but behind one that it waits for
pub unserved_is : (k : Asking) (session : PlainSession) (set : Handshake) (x : AskingIs k session set) → (session.awaited ≡ None → frame_in (first_frame session.reader) ≡ None) → unserved k ≡ session.reader
unserved_is k session set x rests = by session.awaited refl
  where
    by : (o : Option Awaited) → session.awaited ≡ o → unserved k ≡ session.reader
    by None free = let left = rest_asks k session set x free (rests free) in ap (λ o. unserved_by o k.bytes) left.0 ∙ left.1
    by (Some a) waits = let next = awaited_next k session set x a waits in ap (λ o. unserved_by o k.bytes) next.1 ∙ behind_open k session set x next.0.question next.0.last

-- so it is before a fault
pub fault_asks : (k : Asking) (session : PlainSession) (set : Handshake) (x : AskingIs k session set) (fault : FrameFault) → session.awaited ≡ None → first_frame session.reader ≡ Some (Err fault) → (question_of k ≡ None) × (behind_frames k.bytes ≡ session.reader)
fault_asks k session set x fault free first = rest_asks k session set x free (ap frame_in first)
