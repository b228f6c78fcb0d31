-- what a line owes behind its own work: what the link that feeds its vBucket may acknowledge
use Rattle.std.specs.Prelude.{◌≡◌, ◌≢◌, ◌≤◌, ◌<◌, ℕ, [], ◌∷◌, ◌++◌, filter, Some}
use Rattle.mcbp_dcp.specs.DcpFrames.{dcp_frame}
use Rattle.mcbp_dcp.specs.declared.message.DcpMsg.TheVariants as msg
use Rattle.mcbp_frame.specs.Spelling.{spelling}
use Rattle.vb_events.specs.declared.event.Answer.TheVariants as line
use Rattle.vb_events.specs.declared.event.Cause.{Cause}
use Rattle.vb_events.specs.declared.event.Event.TheVariants as event
use Rattle.vb_events.specs.declared.event.StreamName.TheVariants as name
use Rattle.vb_types.specs.declared.journal.FlushPart.TheVariants as part
use Rattle.vb_calls.specs.declared.calls.VbAnswer.TheVariants as answer
use Rattle.vb_calls.specs.declared.calls.VbCall.TheVariants as call
use Rattle.vb_calls.specs.Plain.{plain_step}
use Rattle.vb_calls.specs.State.{Plain}
use Rattle.vbucket.specs.Rows.{row_put}
use Rattle.dcp_consumer.specs.declared.handshake.Handshake.TheVariants as handshake
use Rattle.node_world.specs.Links.{PlainLink, feeds, link_number}
use Rattle.node_world.specs.Nodes.{PlainNode, flush_line}
use Rattle.node_world.specs.Worlds.{PlainWorld, Outcome, on_node}

-- a batch of the vBucket v of the node n is done, and nothing was acknowledged for that yet
abbrev pub batch_done : PlainWorld → ℕ → ℕ → Outcome
batch_done w n v = on_node w n (flush_line n v part.Done)

-- the vBucket v of the node n may acknowledge all up to a seqno, and this one link feeds it
pub record MayAcknowledge (w : PlainWorld) (n v seq : ℕ) (node : PlainNode) (vb : Plain) (link : PlainLink) : Type 0 where
  pub made : w.nodes n ≡ Some node
  pub here : node.vbs v ≡ Some vb
  pub due : (plain_step vb call.Due).1.answer ≡ answer.Dues seq vb.saved
  pub fed : filter (feeds n v) w.links ≡ link ∷ []

-- the link once it acknowledged all up to a seqno: that goes up behind what is on its way
abbrev pub acknowledging : ℕ → ℕ → PlainLink → PlainLink
acknowledging v seq link = record link {
  consumer = record link.consumer { acked = seq };
  up = link.up ++ spelling (dcp_frame (msg.SeqnoAcknowledged seq) link.consumer.asked v);
}

-- it is told so in one line behind all others, with what the vBucket has written down
pub record Acknowledges (n v seq : ℕ) (vb : Plain) (link : PlainLink) (before after : Outcome) : Type 0 where
  pub told : after.1 ≡ record before.1 { events = before.1.events ++ event.Acknowledged (name.Link (link_number link)) n v seq vb.saved ∷ [] }
  pub links : after.0.links ≡ row_put link_number (link_number link) (acknowledging v seq link) before.0.links

-- behind a batch that is done the link that feeds the vBucket acknowledges what that may, where its stream is granted and it is above the last seqno that was acknowledged; and nothing is told or changed elsewhere
pub record AcknowledgesDue (n v : ℕ) (before after : Outcome) : Type 0 where
  pub owed : (count seq : ℕ) (node : PlainNode) (vb : Plain) (link : PlainLink) → before.1.answer ≡ line.Number count → MayAcknowledge before.0 n v seq node vb link
      → link.consumer.handshake ≡ handshake.Streaming → link.consumer.acked < seq → Acknowledges n v seq vb link before after
  pub settled : (count seq : ℕ) (node : PlainNode) (vb : Plain) (link : PlainLink) → before.1.answer ≡ line.Number count → MayAcknowledge before.0 n v seq node vb link
      → link.consumer.handshake ≡ handshake.Streaming → seq ≤ link.consumer.acked → after.1 ≡ before.1
  pub ungranted : (link : PlainLink) → filter (feeds n v) before.0.links ≡ link ∷ [] → link.consumer.handshake ≢ handshake.Streaming → after.1 ≡ before.1
  pub unfed : filter (feeds n v) before.0.links ≡ [] → after ≡ before
  pub refused : (why : Cause) → before.1.answer ≡ line.No why → after ≡ before
