use Rattle.std.proofs.Common.{◌+◌, ◌∙◌, [], ◌++◌, ap, arith, subst, sym}
use Rattle.std.proofs.lemmas.List.{drop_all}
use Rattle.node_core.specs.Outcomes.{Heard}
use Rattle.node_core.specs.Outs.{done_out}
use Rattle.node_world.specs.Ends.{AnswersPeer}
use Rattle.node_world.proofs.Frames.{FramesSoFar, all_up, none_up, one_up}
use Rattle.node_world.proofs.Nodes.{inside}
use Rattle.node_world.proofs.Peers.{hears_peer}
use Rattle.node_world.proofs.script_node.ScriptNode.feed_peer.Goals as goal

pub loop-frame-init : goal.loop-frame-init
loop-frame-init c =
    let old = c.args.self.now in
    let frames = c.deref-frame-items.result.now in
    let heard : Heard c.args.key c.args.piece.now old.node frames c.hear.new.self = subst (λ fs. Heard c.args.key c.args.piece.now old.node fs c.hear.new.self) (sym c.deref-frame-items.ensures.value) c.in_ok-frames.ensures.ok in
    none_up frames c.args.key c.args.piece.now old (inside old c.hear.new.self) c.new-events.result c.new-bytes.result.items
    (hears_peer old c.args.key (done_out [] []) c.hear.new.self c.args.piece.now frames heard) c.new-events.ensures c.new-bytes.ensures.items

pub loop-frame-preserved : goal.loop-frame-preserved
loop-frame-preserved c =
    let old = c.args.self.now in
    let key = c.args.key in
    let piece = c.args.piece.now in
    let frames = c.deref-frame-items.result.now in
    let i = c.loop-frame.frame-index in
    let out = c.in_ok-out.out in
    let self' = c.answer_peer.new.self in
    subst (λ es. FramesSoFar frames key piece old (i + 1) es c.hand_on.new.bytes.items self') (sym c.in_ok-hand_on.ensures.events)
    (subst (λ bs. FramesSoFar frames key piece old (i + 1) (c.loop-frame.events ++ out.events) bs self') (sym c.in_ok-hand_on.ensures.bytes)
    (one_up frames key piece old i c.frame-item.result c.loop-frame-test.true c.loop-frame.events c.loop-frame.bytes.items c.loop-frame.self self' out c.loop-frame.invariant
    (subst (λ f. AnswersPeer key f c.loop-frame.self out self') c.frame-item.is c.in_ok-out.ensures)))

pub returns : goal.returns
returns c =
    let frames = c.deref-frame-items.result.now in
    let bytes = c.loop-frame.bytes.items in
    all_up frames c.args.key c.args.piece.now c.args.self.now c.loop-frame.frame-index c.loop-frame.events bytes c.loop-frame.self c.done.result (drop_all c.loop-frame.frame-index frames (grind (arith, c.loop-frame-test.false))) c.loop-frame.invariant
    (c.done.ensures ∙ ap (done_out c.loop-frame.events) c.in_ok-answers.ensures)
