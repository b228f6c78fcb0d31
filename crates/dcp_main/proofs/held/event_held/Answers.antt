use Rattle.dcp_main.proofs.EventKinds.{held_by_kind}
use Rattle.dcp_main.proofs.held.event_held.Goals as goal

pub returns : goal.returns
returns c = held_by_kind c.args.event.now c.branch_held.ensures c.node_held.ensures c.request_held.ensures c.frame_held.ensures c.consumer_held.ensures c.acknowledged_held.ensures c.saving_held.ensures c.shown_held.ensures
