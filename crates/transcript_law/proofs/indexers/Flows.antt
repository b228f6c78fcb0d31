-- the window of a client's connection, as it is known, is its producer's
use Rattle.std.specs.Prelude.{◌≡◌, ◌++◌, ◌∷◌, if◌then◌else◌}
use Rattle.std.specs.Str.{bytes_eq}
use Rattle.transcript_law.proofs.Words.{ℕ, Bool, true, false, List, [], length, drop, refl, sym, ap, ◌∙◌, subst, append_assoc, Option, Some, None, Ok, Frame, AreBytes, spelling}
use Rattle.client_session.specs.Serving.{PlainSession}
use Rattle.dcp_producer.specs.Serving.{sized}
use Rattle.dcp_producer.specs.Sizes.{size_of}
use Rattle.dcp_producer.specs.declared.desk.Handshake.{Handshake}
use Rattle.dcp_producer.specs.declared.desk.Handshake.TheVariants as handshake
use Rattle.flow_control.specs.Windows.{with_put}
use Rattle.flow_control.specs.declared.window.Window.{Window}
use Rattle.mcbp_dcp.specs.declared.message.DcpMsg.TheVariants as msg
use Rattle.mcbp_frame.proofs.Cases.{front}
use Rattle.mcbp_frame.specs.{Cutting.{frame_in, frames_in}, Frames.{first_frame, frame_len}}
use Rattle.transcript_law.proofs.indexers.{Known.{frames_more, no_frames, setup_more}, Moments.{front_served}, Questions.{unserved_is}, Setting.{SIZE}}
use Rattle.transcript_law.proofs.invariant.ClientsTold.{AskingIs, FlowIs, setup_of}
use Rattle.transcript_law.specs.ClientFrames.{message_of, set_by, setup_after}
use Rattle.transcript_law.specs.Questions.{flow_now, flow_put, in_front, resized, unserved, window_after, window_by}
use Rattle.transcript_law.specs.StreamsTold.{ClientKnown, FlowKnown, Setup}

-- ---- one frame more

window_more : (s : Setup) (w : Window) (fs : List Frame) (f : Frame) → window_after s w (fs ++ f ∷ []) ≡ window_by (message_of f) (setup_after s fs).opened (window_after s w fs)
window_more s w [] f = refl
window_more s w (g ∷ fs) f = window_more (set_by (message_of g) s) (window_by (message_of g) s.opened w) fs f

pub flow_more : (flow : FlowKnown) (session after : PlainSession) (set set' : Handshake) (w w' : Window) (f : Frame) → AreBytes session.reader → first_frame session.reader ≡ Some (Ok f) → after.reader ≡ drop (frame_len f) session.reader
    → set_by (message_of f) (setup_of set) ≡ setup_of set' → window_by (message_of f) (setup_of set).opened w ≡ w' → FlowIs flow session set w → FlowIs flow after set' w'
flow_more flow session after set set' w w' f bytes first behind sets window h =
    let is = front session.reader f bytes first in
    record {
      served = h.served ++ f ∷ [];
      front = h.front ++ spelling f;
      bytes = h.bytes ∙ ap (λ l. h.front ++ l) is.1 ∙ sym (append_assoc h.front (spelling f) (drop (frame_len f) session.reader)) ∙ ap (λ l. (h.front ++ spelling f) ++ l) (sym behind);
      frames = frames_more h.front h.served f is.0 h.frames;
      sets = setup_more flow.setup h.served f ∙ ap (set_by (message_of f)) h.sets ∙ sets;
      is = window_more flow.setup flow.window h.served f ∙ (λ i. window_by (message_of f) (h.sets i).opened (h.is i)) ∙ window;
    }

-- the session keeps the same bytes
pub flow_session : (flow : FlowKnown) (session after : PlainSession) (set : Handshake) (w : Window) → after.reader ≡ session.reader → FlowIs flow session set w → FlowIs flow after set w
flow_session flow session after set w same h = record { served = h.served; front = h.front; bytes = h.bytes ∙ ap (λ l. h.front ++ l) (sym same); frames = h.frames; sets = h.sets; is = h.is }

-- or more bytes came
pub flow_bytes : (flow : FlowKnown) (session : PlainSession) (set : Handshake) (w : Window) (piece : List ℕ) → FlowIs flow session set w → FlowIs (record flow { bytes = flow.bytes ++ piece }) (record session { reader = session.reader ++ piece }) set w
flow_bytes flow session set w piece h = record { served = h.served; front = h.front; bytes = ap (λ l. l ++ piece) h.bytes ∙ append_assoc h.front session.reader piece; frames = h.frames; sets = h.sets; is = h.is }

-- ---- what is counted

module _ (known : ClientKnown) (session : PlainSession) (set : Handshake) (w : Window) (h : FlowIs known.flow session set w) (asks : AskingIs known.asking session set) (rests : session.awaited ≡ None → frame_in (first_frame session.reader) ≡ None) where
  counted : frames_in (in_front (unserved known.asking) known.flow.bytes) ≡ h.served
  counted = ap (λ end. frames_in (in_front end known.flow.bytes)) (unserved_is known.asking session set asks rests) ∙ front_served h.front session.reader known.flow.bytes h.served h.bytes h.frames

  -- the window is the producer's
  pub now_is : (flow_now known).window ≡ w
  now_is = ap (window_after known.flow.setup known.flow.window) counted ∙ h.is

  -- and so it is behind a frame
  pub put_flows : (bytes : List ℕ) (w' : Window) → w' ≡ with_put (length bytes) w → FlowIs (flow_put bytes known) session set w'
  put_flows bytes w' put = record {
    served = [];
    front = [];
    bytes = unserved_is known.asking session set asks rests;
    frames = no_frames;
    sets = ap (setup_after known.flow.setup) counted ∙ h.sets;
    is = ap (with_put (length bytes)) now_is ∙ sym put;
  }

-- ---- CONTROL

-- another key has nothing to do with it
pub other_flows : (key value : List ℕ) (opened : Bool) (w : Window) → bytes_eq key SIZE ≡ false → window_by (Some (msg.Control key value)) opened w ≡ w
other_flows key value true w e = ap (λ b. if b then resized (size_of value) w else w) e
other_flows key value false w e = refl

-- that of its size gives it another one, where it is one
pub size_flows : (set : Handshake) (key value : List ℕ) (w : Window) (o : Option ℕ) → bytes_eq key SIZE ≡ true → sized set value ≡ o → window_by (Some (msg.Control key value)) (setup_of set).opened w ≡ resized o w
size_flows handshake.Fresh key value w o e is = subst (λ o. w ≡ resized o w) is refl
size_flows (handshake.Open sync called) key value w o e is = ap (λ b. if b then resized (size_of value) w else w) e ∙ ap (λ o. resized o w) is
