-- what a client is known to have sent, as its frames are served one after another
use Rattle.std.specs.Prelude.{◌≡◌, ◌+◌, ◌++◌, ◌∷◌, ◌||◌}
use Rattle.std.specs.List.{sum_by}
use Rattle.std.specs.Option.{option_map}
use Rattle.std.proofs.Math.Seq.{drop-append_seam}
use Rattle.std.proofs.lemmas.List.Sums.{sum_by-append, sum_by-cons}
use Rattle.transcript_law.proofs.Words.{ℕ, Bool, true, false, List, [], length, drop, refl, sym, ap, ◌∙◌, arith, append_assoc, length-append, list_any-append, Option, Some, None, Ok, Frame, spelling, Readable, AreBytes}
use Rattle.client_session.specs.Serving.{PlainSession}
use Rattle.dcp_producer.specs.declared.desk.Handshake.{Handshake}
use Rattle.mcbp_frame.proofs.{Cases.{front, length-spelling}, Pieces.{first-spelling}, Cutting.{frames-one}}
use Rattle.mcbp_frame.specs.{Cutting.{frames_in}, Frames.{first_frame, frame_len}}
use Rattle.transcript_law.proofs.invariant.ClientsTold.{AreFrames, HeardIs, setup_of}
use Rattle.transcript_law.specs.ClientFrames.{Request, ask_of, behind_frame, bytes_behind, closes, first_request, is_closed_by, message_of, request_end, request_in, request_or, set_by, setup_after}
use Rattle.transcript_law.specs.StreamsTold.{ClientKnown, Setup}
use Rattle.vb_types.specs.declared.stream.StreamAsk.{StreamAsk}

-- ---- one frame more

-- what more frames set
pub setup_more : (s : Setup) (fs : List Frame) (f : Frame) → setup_after s (fs ++ f ∷ []) ≡ set_by (message_of f) (setup_after s fs)
setup_more s [] f = refl
setup_more s (g ∷ fs) f = setup_more (set_by (message_of g) s) fs f

-- no request is none behind a frame
none_back : (g : Frame) (r : Option Request) → option_map (behind_frame g) r ≡ None → r ≡ None
none_back g None q = refl
none_back g (Some x) q = cc

-- none of them is a request for a stream
pub no_request_more : (fs : List Frame) (f : Frame) → first_request fs ≡ None → ask_of f ≡ None → first_request (fs ++ f ∷ []) ≡ None
no_request_more [] f none last = ap (λ o. request_or f o None) last
no_request_more (g ∷ fs) f none last = by (λ e. no_request_more fs f e last) (ask_of g) none
  where
    by : (first_request fs ≡ None → first_request (fs ++ f ∷ []) ≡ None) → (o : Option StreamAsk) → request_or g o (first_request fs) ≡ None → request_or g o (first_request (fs ++ f ∷ [])) ≡ None
    by rest (Some ask) e = cc
    by rest None e = ap (option_map (behind_frame g)) (rest (none_back g (first_request fs) e))

-- the first one behind them
pub first_behind : (fs : List Frame) (f : Frame) (ask : StreamAsk) (more : List Frame) → first_request fs ≡ None → ask_of f ≡ Some ask → first_request (fs ++ f ∷ more) ≡ Some (record { before = fs; frame = f; ask = ask })
first_behind [] f ask more none is = ap (λ o. request_or f o (first_request more)) is
first_behind (g ∷ fs) f ask more none is = by (λ e. first_behind fs f ask more e is) (ask_of g) none
  where
    by : (first_request fs ≡ None → first_request (fs ++ f ∷ more) ≡ Some (record { before = fs; frame = f; ask = ask })) → (o : Option StreamAsk) → request_or g o (first_request fs) ≡ None
        → request_or g o (first_request (fs ++ f ∷ more)) ≡ Some (record { before = g ∷ fs; frame = f; ask = ask })
    by rest (Some a) e = cc
    by rest None e = ap (option_map (behind_frame g)) (rest (none_back g (first_request fs) e))

-- which streams they close
pub closed_more : (fs : List Frame) (f : Frame) (v : ℕ) → is_closed_by (fs ++ f ∷ []) v ≡ (is_closed_by fs v || closes v f)
closed_more fs f v = list_any-append (closes v) fs (f ∷ []) ∙ ap (λ b. is_closed_by fs v || b) (one (closes v f))
  where
    one : (b : Bool) → (b || false) ≡ b
    one true = refl
    one false = refl

-- bytes that are whole frames, and the bytes of one more
pub frames_more : (bytes : List ℕ) (fs : List Frame) (f : Frame) → Readable f → AreFrames bytes fs → AreFrames (bytes ++ spelling f) (fs ++ f ∷ [])
frames_more bytes fs f good a = record {
  cut = λ rest.
      ap frames_in (append_assoc bytes (spelling f) rest) ∙ a.cut (spelling f ++ rest)
      ∙ ap (λ more. fs ++ more) (frames-one (spelling f ++ rest) f (first-spelling f rest good) ∙ ap (λ l. f ∷ frames_in l) (behind rest))
      ∙ sym (append_assoc fs (f ∷ []) (frames_in rest));
  long =
      let one : sum_by frame_len (f ∷ []) ≡ frame_len f + sum_by frame_len [] = sum_by-cons frame_len f [] in
      length-append bytes (spelling f) ∙ ap (λ k. k + length (spelling f)) a.long ∙ ap (λ k. sum_by frame_len fs + k) (length-spelling f)
      ∙ sym (sum_by-append frame_len fs (f ∷ []) ∙ ap (λ k. sum_by frame_len fs + k) (one ∙ omega arith));
}
  where
    behind : (rest : List ℕ) → drop (frame_len f) (spelling f ++ rest) ≡ rest
    behind rest = ap (λ k. drop k (spelling f ++ rest)) (sym (length-spelling f)) ∙ drop-append_seam (spelling f) rest

-- no bytes are no frames
pub no_frames : AreFrames [] []
no_frames = record { cut = λ rest. refl; long = refl }

-- ---- a frame of the session

module _ (known : ClientKnown) (session after : PlainSession) (set set' : Handshake) (f : Frame) (bytes : AreBytes session.reader) (first : first_frame session.reader ≡ Some (Ok f)) (behind : after.reader ≡ drop (frame_len f) session.reader) where
  -- it is no request for a stream, and sets what the handshake is then
  unfoldable pub heard_more : ask_of f ≡ None → set_by (message_of f) (setup_of set) ≡ setup_of set' → HeardIs known session set → HeardIs known after set'
  heard_more none sets h =
      let is = front session.reader f bytes first in
      record {
        served = h.served ++ f ∷ [];
        front = h.front ++ spelling f;
        bytes = h.bytes ∙ ap (λ l. h.front ++ l) is.1 ∙ sym (append_assoc h.front (spelling f) (drop (frame_len f) session.reader)) ∙ ap (λ l. (h.front ++ spelling f) ++ l) (sym behind);
        frames = frames_more h.front h.served f is.0 h.frames;
        none = no_request_more h.served f h.none none;
        sets = setup_more known.setup h.served f ∙ ap (set_by (message_of f)) h.sets ∙ sets;
      }

  -- it is a request for a stream, the next one that is known
  module _ (ask : StreamAsk) (asks : ask_of f ≡ Some ask) (h : HeardIs known session set) where
    abbrev pub request : Request
    request = record { before = h.served; frame = f; ask = ask }

    pub next_request : request_in known.bytes ≡ Some request
    next_request =
        let is = front session.reader f bytes first in
        let seen : frames_in session.reader ≡ f ∷ frames_in (drop (frame_len f) session.reader) =
        ap frames_in is.1 ∙ frames-one (spelling f ++ drop (frame_len f) session.reader) f (first-spelling f (drop (frame_len f) session.reader) is.0)
        ∙ ap (λ l. f ∷ frames_in l) (ap (λ k. drop k (spelling f ++ drop (frame_len f) session.reader)) (sym (length-spelling f)) ∙ drop-append_seam (spelling f) (drop (frame_len f) session.reader)) in
        ap first_request (ap frames_in h.bytes ∙ h.frames.cut session.reader ∙ ap (λ more. h.served ++ more) seen)
        ∙ first_behind h.served f ask (frames_in (drop (frame_len f) session.reader)) h.none asks

    pub bytes_left : bytes_behind request known.bytes ≡ after.reader
    bytes_left =
        let is = front session.reader f bytes first in
        let all : known.bytes ≡ (h.front ++ spelling f) ++ drop (frame_len f) session.reader = h.bytes ∙ ap (λ l. h.front ++ l) is.1 ∙ sym (append_assoc h.front (spelling f) (drop (frame_len f) session.reader)) in
        let long : request_end request ≡ length (h.front ++ spelling f) = sym (length-append h.front (spelling f) ∙ ap (λ k. k + length (spelling f)) h.frames.long ∙ ap (λ k. sum_by frame_len h.served + k) (length-spelling f)) in
        ap (drop (request_end request)) all ∙ ap (λ k. drop k ((h.front ++ spelling f) ++ drop (frame_len f) session.reader)) long
        ∙ drop-append_seam (h.front ++ spelling f) (drop (frame_len f) session.reader) ∙ sym behind
