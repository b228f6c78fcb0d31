-- frames of a peer: who waited waits on, or is told
use Rattle.std.specs.Prelude.{◌≡◌, ◌⊎◌, ◌==◌, ◌∷◌, if◌then◌else◌, nat_lt}
use Rattle.transcript_law.proofs.Words.{ℕ, Bool, true, false, List, [], refl, sym, subst, inl, ⊎_elim, take, Option, Some, None, Result, Ok, Err, Frame, DcpMsg, Plain, PlainLink, PlainNode, PlainStream, RESPONSE, Status, StreamAsk, States, Served, after, after_bind, begun, call_at, is_active, moved_len, peer_of, quiet_reply, refusal_reply, up_at, with_states, PeerResult, peer_result, Prog, Call, Done, frame_answered, stream_request, status_sent}
use Rattle.client_session.proofs.Conduct.{either}
use Rattle.dcp_producer.specs.Producers.{is_open, member_of, stream_at}
unfoldable use Rattle.dcp_producer.specs.Serving.{acknowledged}
use Rattle.dcp_producer.specs.Serving.{response_heard, bytes_acknowledged, closed_sent, control_answered, count_answered, count_requested, counted_by, fed_stream, log_answered, message_answered, noop_answered, open_refusal, opened_unless, opening_requested, opens, read_answered, refusal_requested, row_answered, stream_closed, weighed}
use Rattle.mcbp_dcp.specs.declared.message.DcpMsg.TheVariants as msg
use Rattle.mcbp_dcp.specs.Rows.{dcp_opcodes}
use Rattle.node_core.specs.Peers.{PlainPeer, peer_answered, peer_frames, peer_heard}
use Rattle.node_world.specs.Links.{frame_up, frames_up, untold_peer}
use Rattle.mcbp_dcp.specs.Messages.{read_of}
use Rattle.mcbp_dcp.specs.declared.message.DcpFault.{DcpFault}
use Rattle.std.specs.List.{list_any}
use Rattle.transcript_law.proofs.awaiting.{Jobs.{IsIdle, KeptOr, ran_idle, step_tells}, Nodes.{told_good, waits_of}, Posts.{Good, posts_good}}
use Rattle.transcript_law.proofs.invariant.{AtRest.{Still, still_ran}, CallsKept.{AllAt}, TimelyCalls.{Makes, peer_tame}}
use Rattle.transcript_law.specs.Waits.{IsOutstandingAt, IsTold, NoneWaitsInVain}
use Rattle.durability.specs.Outstanding.{with_ack}
use Rattle.node_core.specs.Flushing.{resolved_in}
use Rattle.vb_calls.specs.Settling.{and_settled}
use Rattle.vb_calls.specs.declared.calls.VbAnswer.TheVariants as answer
use Rattle.vb_calls.specs.declared.calls.VbCall.TheVariants as call
use Rattle.vb_types.specs.declared.status.Status.TheVariants as status

module _ (states : States) (all : AllAt Still states) where
  -- a program whose outcomes tell who does not wait on
  abbrev Goes : Prog Served → Type 0
  Goes prog = KeptOr (after prog states).1.resolved states (after prog states).0

  idle_goes : (prog : Prog Served) → Makes IsIdle prog → Goes prog
  idle_goes prog makes k some o = inl (ran_idle prog states makes k o)

  module _ (f : Frame) (s : Served) (fresh : s.resolved ≡ []) where
    none_told : (k : ℕ) (now : States) (st : Status) → IsOutstandingAt k now ⊎ IsTold k [] → IsOutstandingAt k now ⊎ IsTold k (status_sent f st s).resolved
    none_told k now st h = ⊎_elim (λ o. inl o) (λ none. absurd none) h

    counted : (member seq : ℕ) → Goes (count_requested f seq s (Ok member))
    counted member seq k some o = by (states f.vb_or_status) (step_tells states f.vb_or_status (call.Ack member seq) tt all k some o)
      where
        told : (vb : Plain) (now : States) (a b : Bool) → let x = if a then (if b then (vb, refusal_reply status.Erange) else and_settled (record vb { acks = with_ack vb.acks member seq }, quiet_reply answer.Done)) else (vb, refusal_reply status.NotMyVbucket) in
            IsOutstandingAt k now ⊎ IsTold k x.1.resolved → IsOutstandingAt k now ⊎ IsTold k (counted_by f member seq x.1 x.1.answer s).resolved
        told vb now true true h = none_told k now status.Erange h
        told vb now true false h = h
        told vb now false b h = none_told k now status.NotMyVbucket h

        by : (p : Option Plain) → let step = call_at states f.vb_or_status (call.Ack member seq) p in IsOutstandingAt k step.0 ⊎ IsTold k (resolved_in step.1) → IsOutstandingAt k step.0 ⊎ IsTold k (count_answered f member seq s step.1).resolved
        by None h = none_told k states status.NotMyVbucket h
        by (Some vb) h = told vb (call_at states f.vb_or_status (call.Ack member seq) (Some vb)).0 (is_active vb.role) (nat_lt vb.position.at seq) h

    weighed_goes : (seq : ℕ) (o : Result ℕ Status) → Goes (count_requested f seq s o)
    weighed_goes seq (Err st) = idle_goes (Done (status_sent f st s)) tt
    weighed_goes seq (Ok member) = counted member seq

    closes : (o : Option PlainStream) → Makes IsIdle (stream_closed f s o)
    closes None = tt
    closes (Some stream) = either (Makes IsIdle) stream.ended (Done (closed_sent f stream.id s)) (Call stream.vb (call.CloseStream stream.id) (λ reply. Done (closed_sent f stream.id s))) tt (tt, λ reply any. tt)

    asks : (ask : StreamAsk) → Makes IsIdle (stream_request f ask s)
    unfolding stream_request
    asks ask = either (Makes IsIdle) (opens s.end f.vb_or_status ask) (opening_requested f ask s) (refusal_requested f ask s) (tt, λ reply any. tt) (tt, λ reply any. tt)

    message_goes : (m : DcpMsg) → Goes (message_answered f m s)
    unfolding acknowledged
    message_goes (msg.Open number flags name) = idle_goes (Done (opened_unless (open_refusal s.end.handshake flags) f s)) tt
    message_goes (msg.Control key value) = idle_goes (Done (control_answered f key value s)) tt
    message_goes (msg.StreamRequest ask) = idle_goes (stream_request f ask s) (asks ask)
    message_goes (msg.SeqnoAcknowledged seq) = either Goes (is_open s.end.handshake) (count_requested f seq s (weighed seq (fed_stream s.end.desk.stream (stream_at f.vb_or_status s.end.streams)) (member_of s.end.handshake))) (Done (status_sent f status.Einval s))
        (weighed_goes seq (weighed seq (fed_stream s.end.desk.stream (stream_at f.vb_or_status s.end.streams)) (member_of s.end.handshake))) (idle_goes (Done (status_sent f status.Einval s)) tt)
    message_goes (msg.BufferAcknowledgement bytes) = idle_goes (Done (bytes_acknowledged f bytes s)) tt
    message_goes msg.CloseStream = idle_goes (message_answered f msg.CloseStream s)
        (either (Makes IsIdle) (is_open s.end.handshake) (stream_closed f s (stream_at f.vb_or_status s.end.streams)) (Done (status_sent f status.Einval s)) (closes (stream_at f.vb_or_status s.end.streams)) tt)
    message_goes msg.GetFailoverLog = idle_goes (message_answered f msg.GetFailoverLog s)
        (either (Makes IsIdle) (is_open s.end.handshake) (Call f.vb_or_status call.Log (λ reply. Done (log_answered f s reply))) (Done (status_sent f status.Einval s)) (tt, λ reply any. tt) tt)
    message_goes msg.Noop = idle_goes (Done (noop_answered f s)) tt
    message_goes other = idle_goes (Done (status_sent f status.Einval s)) tt

    row_goes : (read : Result DcpMsg DcpFault) → Goes (row_answered f read s)
    row_goes (Err fault) = idle_goes (Done (status_sent f status.Einval s)) tt
    row_goes (Ok m) = message_goes m

    read_goes : (o : Option (Result DcpMsg DcpFault)) → Goes (read_answered f o s)
    read_goes None = idle_goes (Done (status_sent f status.Einval s)) tt
    read_goes (Some read) = either Goes (f.datatype == 0) (row_answered f read s) (Done (status_sent f status.Einval s)) (row_goes read) (idle_goes (Done (status_sent f status.Einval s)) tt)

    frame_goes : Goes (frame_answered f s)
    unfolding frame_answered
    frame_goes =
        either Goes (f.magic == RESPONSE) (Done (response_heard f s)) (if list_any (λ o. o == f.opcode) dcp_opcodes then read_answered f (read_of f) s else Done (status_sent f status.UnknownCommand s)) (idle_goes (Done (response_heard f s)) tt)
        (either Goes (list_any (λ o. o == f.opcode) dcp_opcodes) (read_answered f (read_of f) s) (Done (status_sent f status.UnknownCommand s)) (read_goes (read_of f)) (idle_goes (Done (status_sent f status.UnknownCommand s)) tt))

  pub peer_goes : (f : Frame) (peer : PlainPeer) → KeptOr (after (peer_answered f peer) states).1.resolved states (after (peer_answered f peer) states).0
  peer_goes f peer =
      subst (λ (x : States × PeerResult). KeptOr x.1.resolved states x.0) (sym (after_bind (frame_answered f (begun peer.producer)) (λ s. Done (peer_result peer.heard s)) states)) (frame_goes f (begun peer.producer) refl)

frames_good : (n : ℕ) (frames : List Frame) (came : PlainNode × PeerResult) → Good n [] came.0 → Good n [] (frames_up frames came).0
frames_good n [] came g = g
frames_good n (f ∷ frames) came g =
    let x = after (peer_answered f came.1.peer) came.0.vbs in let states : PlainNode = with_states came.0 x.0 in
    frames_good n frames (frame_up f came) (posts_good n x.1.resolved states (told_good n x.1.resolved came.0 states refl (λ c. refl) refl (still_ran (peer_answered f came.1.peer) came.0.vbs (peer_tame f came.1.peer) g.still) (peer_goes came.0.vbs g.still f came.1.peer) g))

pub up_waits : (n wanted : ℕ) (link : PlainLink) (node : PlainNode) → Good n [] node → NoneWaitsInVain (up_at wanted link node).0
up_waits n wanted link node g =
    let piece : List ℕ = take (moved_len wanted link.up) link.up in
    waits_of n (up_at wanted link node).0 (frames_good n (peer_frames piece (peer_of link)) (node, untold_peer (peer_heard piece (peer_of link))) g)
