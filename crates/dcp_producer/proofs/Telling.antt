-- what a producer tells as it answers frames, and which calls it makes, whatever the replies of vBuckets
use Rattle.std.proofs.Common.{◌≡◌, ℕ, Bool, false, List, [], ◌∷◌, ◌++◌, map, sym, ◌∙◌, subst}
use Rattle.mcbp_frame.specs.declared.frame.Frame.{Frame}
use Rattle.vb_types.specs.declared.change.Change.{Change}
use Rattle.vb_types.specs.declared.role.LogEntry.{LogEntry}
use Rattle.vb_types.specs.declared.status.Status.{Status}
use Rattle.vb_types.specs.declared.stream.AskAnswer.{AskAnswer}
use Rattle.vb_types.specs.declared.stream.StreamAsk.{StreamAsk}
use Rattle.vb_events.specs.declared.event.Event.{Event}
use Rattle.vb_events.specs.declared.event.Event.TheVariants as event
use Rattle.vb_calls.specs.declared.calls.VbCall.{VbCall}
use Rattle.vb_calls.specs.declared.calls.VbCall.TheVariants as call
use Rattle.vb_calls.specs.declared.calls.VbReply.{VbReply}
use Rattle.vb_calls.specs.Programs.{Always, AnyReply}
use Rattle.dcp_producer.specs.declared.desk.Desk.{Desk}
use Rattle.dcp_producer.specs.Producers.{PlainProducer, Served, is_client}
use Rattle.dcp_producer.specs.Serving.{ask_verdict, counted_with, frame_answered, high_of_reply, log_of_reply, status_sent, stream_answered, verdict_with}
use Rattle.dcp_producer.proofs.Outcomes.{Outcomes, frame_comes}

-- the calls that a producer makes as it answers are of a kind
pub record Asks (kind : VbCall → Type 0) : Type 0 where
  pub opens : (id : ℕ) (ask : StreamAsk) (sync : Bool) → kind (call.OpenStream id ask sync)
  pub closes : (id : ℕ) → kind (call.CloseStream id)
  pub counts : (member seq : ℕ) → kind (call.Ack member seq)
  pub logs : kind call.Log

-- so are the lines that it tells at the desk d; at a client's desk it counts nothing
pub record Tells (P : List Event → Type 0) (d : Desk) : Type 0 where
  pub more : (lines more : List Event) → P lines → P more → P (lines ++ more)
  pub asked : (v : ℕ) (ask : StreamAsk) (high : ℕ) (log : List LogEntry) (said : AskAnswer) → P (event.Asked d.stream d.node v ask high log said ∷ [])
  pub counted : is_client d.stream ≡ false → (v member seq uuid : ℕ) (changes : List Change) → P (event.Counted d.stream d.node v member seq ∷ map (event.Changed d.node v uuid) changes)

module _ (kind : VbCall → Type 0) (P : List Event → Type 0) (d : Desk) (asks : Asks kind) (tells : Tells P d) where
  -- a producer at this desk, whose lines are such
  abbrev pub Producer : Served → Type 0
  Producer s = P s.events × (s.end.desk ≡ d)

  module _ (f : Frame) (s : Served) (c : Producer s) where
    refused_so : (st : Status) (end : PlainProducer) → end.desk ≡ s.end.desk → Producer (status_sent f st (record s { end = end }))
    unfolding status_sent
    refused_so st end same = (c.0, same ∙ c.1)

    asked_so : (ask : StreamAsk) (end : PlainProducer) (log : List LogEntry) (high : ℕ) (said : AskAnswer) → end.desk ≡ s.end.desk → Producer (stream_answered f ask (record s { end = end }) log high said)
    unfolding stream_answered
    asked_so ask end log high said same = (
      tells.more s.events (event.Asked end.desk.stream end.desk.node f.vb_or_status ask high log said ∷ []) c.0
          (subst (λ (k : Desk). P (event.Asked k.stream k.node f.vb_or_status ask high log said ∷ [])) (sym (same ∙ c.1)) (tells.asked f.vb_or_status ask high log said)),
      same ∙ c.1,
    )

    counted_so : (member seq : ℕ) (reply : VbReply) → is_client s.end.desk.stream ≡ false → Producer (counted_with f member seq reply s)
    counted_so member seq reply link = (
      tells.more s.events (event.Counted s.end.desk.stream s.end.desk.node f.vb_or_status member seq ∷ map (event.Changed s.end.desk.node f.vb_or_status reply.branch) reply.changes) c.0
          (subst (λ (k : Desk). P (event.Counted k.stream k.node f.vb_or_status member seq ∷ map (event.Changed k.node f.vb_or_status reply.branch) reply.changes)) (sym c.1)
          (tells.counted (subst (λ (k : Desk). is_client k.stream ≡ false) c.1 link) f.vb_or_status member seq reply.branch reply.changes)),
      c.1,
    )

    outcomes : Outcomes AnyReply Producer f s
    outcomes = record {
      dropped = λ is streams. c;
      taken = λ bytes read opened. c;
      refused = λ loud st end same. refused_so st end same;
      asked = λ ask id sync reply own end read may same. asked_so ask end (log_of_reply reply) (high_of_reply reply) (verdict_with own (ask_verdict reply)) same;
      logged = λ reply log read may is. c;
      counted = λ member seq reply link read may. counted_so member seq reply link;
    }

  -- a frame is answered
  pub frame_so : (f : Frame) (s : Served) → Producer s → Always (λ v made. kind made) Producer (frame_answered f s)
  frame_so f s c =
      frame_comes AnyReply (λ v made. kind made) Producer f s
      (record { opens = asks.opens; closes = λ stream at. asks.closes stream.id; counts = λ link. asks.counts; logs = asks.logs }) (outcomes f s c)
