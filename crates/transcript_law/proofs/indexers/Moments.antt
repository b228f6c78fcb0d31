-- when a frame of a client is asked, what is known of its connection is what its producer has
use Rattle.std.specs.Prelude.{◌≡◌, ◌+◌, ◌-◌, ◌++◌, if◌then◌else◌, nat_lt, take}
use Rattle.std.proofs.Math.Seq.{drop-append_seam, take-append_seam}
use Rattle.transcript_law.proofs.Words.{ℕ, Bool, true, false, List, [], length, drop, refl, sym, ap, ◌∙◌, arith, append-nil, length-append, inl, inr, Option, Some, None, Ok, Frame, AreBytes, Status, Branch, Change, Plain, PlainStream}
use Rattle.client_session.specs.Serving.{PlainSession}
use Rattle.dcp_producer.specs.declared.desk.Handshake.{Handshake}
use Rattle.mcbp_frame.proofs.Cutting.{frames-none}
use Rattle.mcbp_frame.specs.{Cutting.{frame_in, frames_in}}
unfoldable use Rattle.mcbp_frame.specs.Frames.{first_frame}
use Rattle.mcbp_frame.proofs.Cases.{front, length-spelling}
use Rattle.mcbp_frame.specs.Frames.{frame_len}
use Rattle.mcbp_frame.specs.Spelling.{spelling}
use Rattle.std.proofs.lemmas.Bool.{lt-ltb}
use Rattle.transcript_law.proofs.invariant.ClientsTold.{AreFrames, AskingIs, HeardIs, KeptIs, setup_of}
use Rattle.transcript_law.specs.ClientStreams.{unclosed}
use Rattle.transcript_law.proofs.indexers.Questions.{unserved_is}
use Rattle.transcript_law.specs.LawfulMessages.{bytes_from, close_status, moment_of}
use Rattle.transcript_law.specs.Questions.{Question, in_front, served_frames}
use Rattle.transcript_law.specs.StreamsTold.{Asking, ClientKnown, ClientStream}

-- ---- the moment

no_frame : frames_in [] ≡ []
unfolding first_frame
no_frame = frames-none [] refl

-- what stands in front of these bytes, where they are the end
front_is : (front end all : List ℕ) → all ≡ front ++ end → in_front end all ≡ front
front_is front end all is =
    let long : length all - length end ≡ length front = (let l = length-append front end in ap (λ bs. length bs - length end) is ∙ ap (λ k. k - length end) l ∙ omega arith) in
    (λ i. take (long i) (is i)) ∙ take-append_seam front end

module _ (asking : Asking) (session : PlainSession) (set : Handshake) (asks : AskingIs asking session set) (f : Frame) where
  abbrev question : Question
  question = record { before = asks.served; frame = f }

  -- the frame is at the front of the session's bytes
  rest_is : bytes_from question asking.bytes ≡ session.reader
  rest_is = (λ i. drop (sym asks.frames.long i) (asks.bytes i)) ∙ drop-append_seam asks.front session.reader

  -- no more is known behind it than the session keeps then, where a line told of it
  pub told_is : (known : ClientKnown) → AreBytes session.reader → first_frame session.reader ≡ Some (Ok f) → known.bytes ≡ drop (frame_len f) session.reader → (moment_of known asking question).told ≡ true
  told_is known bytes first behind =
      let is = front session.reader f bytes first in
      let long : length session.reader ≡ length (spelling f) + length (drop (frame_len f) session.reader) = ap length is.1 ∙ length-append (spelling f) (drop (frame_len f) session.reader) in
      let own : length (spelling f) ≡ frame_len f = length-spelling f in
      (λ i. nat_lt (length (behind i)) (length (rest_is i))) ∙ lt-ltb (length (drop (frame_len f) session.reader)) (length session.reader) (omega (arith, long, own))

-- the frames in front of those that a session keeps are those that were served
pub front_served : (front end all : List ℕ) (served : List Frame) → all ≡ front ++ end → AreFrames front served → frames_in (in_front end all) ≡ served
front_served front end all served is frames =
    ap frames_in (front_is front end all is ∙ sym (append-nil front)) ∙ frames.cut [] ∙ ap (λ fs. served ++ fs) no_frame ∙ append-nil served

-- so they are told, between two calls
pub served_is : (known : ClientKnown) (session : PlainSession) (set : Handshake) (heard : HeardIs known session set) → AskingIs known.asking session set → (session.awaited ≡ None → frame_in (first_frame session.reader) ≡ None) → served_frames known ≡ heard.served
served_is known session set heard asks rests = ap (λ end. frames_in (in_front end known.bytes)) (unserved_is known.asking session set asks rests) ∙ front_served heard.front session.reader known.bytes heard.served heard.bytes heard.frames

module _ (known : ClientKnown) (asking : Asking) (session : PlainSession) (set : Handshake) (heard : HeardIs known session set) (asks : AskingIs asking session set) (f : Frame) where
  abbrev its : Question
  its = question asking session set asks f

  -- and those before it
  before_is : frames_in (in_front (bytes_from its asking.bytes) known.bytes) ≡ heard.served
  before_is = ap (λ end. frames_in (in_front end known.bytes)) (rest_is asking session set asks f) ∙ front_served heard.front session.reader known.bytes heard.served heard.bytes heard.frames

  pub moment_is : moment_of known asking its ≡ record { setup = setup_of set; stream = unclosed heard.served known.streams f.vb_or_status; told = (moment_of known asking its).told; durables = asking.durables }
  moment_is = (λ i. record { setup = asks.sets i; stream = unclosed (before_is i) known.streams f.vb_or_status; told = (moment_of known asking its).told; durables = asking.durables })

-- ---- CLOSE_STREAM

module _ (tree : List Branch) (on : Option ℕ) (held : List Change) (pv : Option Plain) where
  -- the producer has no stream of the vBucket
  pub close_none : (closed : Bool) (known : Option ClientStream) → KeptIs tree on held pv closed known None → close_status (if closed then None else known) ≡ Status.KeyEnoent
  close_none true known x = refl
  close_none false None x = refl
  close_none false (Some g) (inl e) = let z : false ≡ true = e in cc
  close_none false (Some g) (inr over) = ap (λ b. if b then Status.KeyEnoent else Status.Success) over

  -- or it has one
  pub close_some : (closed : Bool) (known : Option ClientStream) (stream : PlainStream) → KeptIs tree on held pv closed known (Some stream) → close_status (if closed then None else known) ≡ Status.Success
  close_some closed None stream x = absurd x
  close_some true (Some g) stream x = let z : true ≡ false = x.0 in cc
  close_some false (Some g) stream x = ap (λ b. if b then Status.KeyEnoent else Status.Success) x.1.over
