-- pieces of bytes, and bytes that begin no frame
use Rattle.std.proofs.Common.{◌≡◌, ℕ, Bool, true, List, [], ◌++◌, drop, refl, sym, ap, ◌∙◌, append_assoc, append-nil, Option, Some, None, is_some}
use Rattle.std.specs.Prelude.{◌==◌, ◌||◌, if◌then◌else◌}
use Rattle.std.proofs.lemmas.Bool.{or_right}
use Rattle.std.specs.List.{sum_by}
use Rattle.dcp_consumer.specs.Counting.{bytes_acknowledged, counted_bytes}
use Rattle.dcp_consumer.specs.Machine.{over_why}
use Rattle.mcbp_frame.proofs.Pieces.{fault_stays, frames-append, frames-spellings, left-append, left-spellings}
use Rattle.mcbp_frame.specs.Cutting.{cut_len, front_fault, frames_in, left_of}
use Rattle.mcbp_frame.specs.Frames.{frame_len}
use Rattle.mcbp_frame.specs.declared.frame.FrameFault.{FrameFault}
use Rattle.vb_calls.specs.Jobs.{Ended, bind_job, each_job}
use Rattle.vb_events.specs.declared.event.EndReason.{EndReason}
use Rattle.vb_events.specs.declared.event.EndReason.TheVariants as reason
use Rattle.node_core.specs.Dials.{PlainDial, DialResult, is_over, bytes_counted, with_last_line, bytes_taken, dial_bytes, with_end_line, fault_met, frame_taken, frames_taken, over_for, rest_met, untold}
use Rattle.node_core.specs.PieceLaws.{JoinsPieces, StopsAtFaults, WaitsForFrames}

-- with no whole frame nothing is taken away
left_whole : (bytes : List ℕ) → frames_in bytes ≡ [] → left_of bytes ≡ bytes
unfolding left_of cut_len
left_whole bytes none = ap (λ fs. drop (sum_by frame_len fs) bytes) none

-- ---- peers

no_frames : (rest : List ℕ) (fault : FrameFault) → front_fault rest ≡ Some fault → frames_in rest ≡ []
no_frames rest fault is = ap frames_in (sym (append-nil rest)) ∙ (fault_stays rest [] fault is).1

pub stops_at_faults : StopsAtFaults
stops_at_faults = record {
  later = λ piece peer faulty.
      let stays = fault_stays peer.heard piece faulty.0 faulty.1 in
      (stays.1, (faulty.0, ap front_fault (left_whole (peer.heard ++ piece) stays.1) ∙ stays.0));
  before = λ desk frames rest fault readable is.
      let none : frames_in rest ≡ [] = no_frames rest fault is in (
        frames-spellings frames rest readable ∙ ap (λ fs. frames ++ fs) none ∙ append-nil frames,
        left-spellings frames rest readable ∙ left_whole rest none,
      );
}

pub joins_pieces : JoinsPieces
joins_pieces = record {
  frames = λ one other peer. ap frames_in (sym (append_assoc peer.heard one other)) ∙ frames-append (peer.heard ++ one) other;
  left = λ one other peer. ap (λ bytes. record peer { heard = bytes }) (ap left_of (sym (append_assoc peer.heard one other)) ∙ left-append (peer.heard ++ one) other);
  kept = λ piece peer none. left_whole (peer.heard ++ piece) none;
  same = λ piece peer. refl;
}

-- ---- dials

module _ (piece : List ℕ) (dial : PlainDial) where
  abbrev bytes : List ℕ
  bytes = dial.heard ++ piece

  -- with these bytes kept
  abbrev holding : List ℕ → DialResult
  holding left = record (untold dial) { dial = record dial { heard = left } }

  -- no frame counts
  none_counted : (s : DialResult) → bytes_counted [] s ≡ s
  unfolding bytes_counted counted_bytes
  none_counted s =
      let c = s.dial.consumer in
      let last : Bool = is_over s.dial || c.dialed.buffer == 0 in
      ap (λ b. if b then s else record s { out = s.out ++ bytes_acknowledged 0 c }) (or_right last true refl)

  waits : frames_in bytes ≡ [] → dial_bytes piece dial ≡ Ended (with_last_line (fault_met (front_fault bytes) (holding bytes)))
  unfolding bytes_taken frames_taken
  waits none =
      ap (λ fs. bind_job (each_job frame_taken fs (holding (left_of bytes))) (rest_met fs)) none
      ∙ ap (λ left. Ended (with_last_line (bytes_counted [] (fault_met (front_fault left) (holding left))))) (left_whole bytes none)
      ∙ ap (λ s. Ended (with_last_line s)) (none_counted (fault_met (front_fault bytes) (holding bytes)))

  abbrev met : Option EndReason → DialResult
  met o = if is_some o then holding bytes else over_for reason.Protocol (holding bytes)

  kept : over_why dial.consumer.handshake ≡ None → frames_in bytes ≡ [] → front_fault bytes ≡ None → dial_bytes piece dial ≡ Ended (holding bytes)
  kept going none clean =
      waits none ∙ ap (λ f. Ended (with_last_line (fault_met f (holding bytes)))) clean ∙ ap (λ o. Ended (with_end_line o (holding bytes))) going

  faulty : (fault : FrameFault) → over_why dial.consumer.handshake ≡ None → frames_in bytes ≡ [] → front_fault bytes ≡ Some fault → dial_bytes piece dial ≡ Ended (with_last_line (over_for reason.Protocol (holding bytes)))
  faulty fault going none is =
      waits none ∙ ap (λ f. Ended (with_last_line (fault_met f (holding bytes)))) is ∙ ap (λ o. Ended (with_last_line (met o))) going

pub waits_for_frames : WaitsForFrames
waits_for_frames = record {
  kept = λ piece dial going none clean. kept piece dial going none clean;
  faulty = λ piece dial fault going none is. (with_last_line (over_for reason.Protocol (holding piece dial (dial.heard ++ piece))), faulty piece dial fault going none is, refl, refl);
}
