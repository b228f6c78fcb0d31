use Rattle.std.proofs.Common.{◌≡◌, ◌≤◌, ◌++◌, arith, ap, sym, ◌∙◌, length, drop, Some}
use Rattle.std.proofs.lemmas.List.{append-nil, length-drop}
use Rattle.mcbp_frame.specs.Cutting.{front_frame}
use Rattle.mcbp_frame.specs.Frames.{frame_len}
use Rattle.mcbp_frame.proofs.Cutting.{frames-none, len-none, next_frames, next_len}
use Rattle.mcbp_frame.proofs.frame.cut.Goals as goal

pub loop-frames-preserved : goal.loop-frames-preserved
loop-frames-preserved c =
    let f = c.in-Some.frame in
    let first : front_frame c.loop-frames.rest.now ≡ Some f = sym c.in_ok-frame.ensures.frame ∙ c.in-Some.is in
    let within : frame_len f ≤ length c.loop-frames.rest.now = rw c.in-Some.is at c.in_ok-frame.ensures.within in
    let behind : c.behind-rest.result.now ≡ drop (frame_len f) c.loop-frames.rest.now = c.behind-rest.ensures in
    record {
      frames = next_frames c.loop-frames.frames.items c.push.new.self.items f c.loop-frames.rest.now c.behind-rest.result.now c.in_ok-push.ensures.items behind first ∙ c.loop-frames.invariant.frames;
      len = omega (arith, next_len f c.loop-frames.rest.now c.behind-rest.result.now behind first within, c.loop-frames.invariant.len);
      within = omega (arith, ap length behind, length-drop (frame_len f) c.loop-frames.rest.now, c.loop-frames.invariant.within);
    }

pub returns-clause-frames : goal.returns-clause-frames
returns-clause-frames c = sym (append-nil c.loop-frames.frames.items) ∙ ap (λ fs. c.loop-frames.frames.items ++ fs) (sym (frames-none c.loop-frames.rest.now (sym c.in_ok-frame.ensures.frame ∙ c.in_default.is))) ∙ c.loop-frames.invariant.frames

pub returns-clause-len : goal.returns-clause-len
returns-clause-len c = omega (arith, len-none c.loop-frames.rest.now (sym c.in_ok-frame.ensures.frame ∙ c.in_default.is), c.loop-frames.invariant.len, c.loop-frames.invariant.within)
