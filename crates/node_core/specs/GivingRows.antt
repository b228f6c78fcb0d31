-- vBuckets that are given up, in rows
use Rattle.std.specs.Prelude.{◌≡◌, ℕ, ◌==◌, if◌then◌else◌, Bool, false, true, List, [], ◌∷◌, Option, Some, None}
use Rattle.dcp_producer.specs.Producers.{PlainStream}
use Rattle.dcp_producer.specs.declared.yields.Yielded.{Yielded}
use Rattle.durability.specs.declared.waiting.Waiting.{Waiting}
use Rattle.takeover.specs.declared.give_up.GiveStep.TheVariants.{SendRest, Yield}
use Rattle.takeover.specs.declared.give_up.GiveUp.{GiveUp}
use Rattle.vb_calls.specs.Plain.{Plain}
use Rattle.vb_calls.specs.Programs.{after}
use Rattle.vb_calls.specs.State.{new_vb}
use Rattle.vb_calls.specs.States.{States}
use Rattle.vb_calls.specs.declared.calls.Resolution.TheVariants.{Ambiguous}
use Rattle.vb_calls.specs.declared.stream.Stream.{Stream}
use Rattle.vb_events.specs.declared.event.Answer.TheVariants as answer
use Rattle.vb_events.specs.declared.event.Event.TheVariants as event
use Rattle.vb_events.specs.declared.event.StreamName.TheVariants as name
use Rattle.vb_types.specs.declared.change.Level.TheVariants.{Majority}
use Rattle.vb_types.specs.declared.role.Role.{Role}
use Rattle.vb_types.specs.declared.role.Role.TheVariants as role
use Rattle.node_core.specs.declared.conn.Conn.TheVariants as conn
use Rattle.node_core.specs.Clients.{KeptClient, new_client}
use Rattle.node_core.specs.GivingUp.{conn_given, given_out, peer_gives_up}
use Rattle.node_core.specs.Outcomes.{client_conn, peer_conn}
use Rattle.node_core.specs.Peers.{PlainPeer, new_peer}

-- a stream of this number of a vBucket, all of which is put; it gives its vBucket up, or not
abbrev pub stream_row : ℕ → ℕ → Bool → Option GiveUp → PlainStream
stream_row id v ended gives = record { id = id; vb = v; opaque = 4; until = 100; first = record { start = 0; as_sets = false }; sync = true; place = 0; unread = None; items = []; next = 0; marked = None; reached = 0; ended = ended; gives = gives }

-- in the step in which it is given up, and behind it
abbrev pub to_yield : Option GiveUp
to_yield = Some (record { step = Yield })

abbrev pub rest_follows : Option GiveUp
rest_follows = Some (record { step = SendRest })

-- a peer with these streams
abbrev pub peer_row : List PlainStream → PlainPeer
peer_row streams = let peer = new_peer (record { stream = name.Link 6; node = 1; base = 5 }) in record peer { producer = record peer.producer { streams = streams } }

-- the stream of this number, as its vBucket has it
abbrev pub fed : ℕ → Stream
fed id = record { id = id; ask = record { uuid = 0; start = 0; end = 100; ss = 0; se = 0; flags = 0 }; sync = false; place = 0; cursor = true; taken = true }

-- a prepare with this seqno, for which this one waits
abbrev pub waits_row : ℕ → ℕ → Waiting
waits_row seq waiter = record { key = seq ∷ []; seq = seq; level = Majority; deadline = None; waiter = waiter }

-- the vBuckets 2, in this role, with the streams 7 and 8, where 21 and 22 wait; and 3, active with the stream 9, where 23 waits
abbrev pub vbs_row : Role → States
vbs_row two v =
    if v == 2 then Some (record (new_vb 1 two 6) { streams = fed 7 ∷ fed 8 ∷ []; waiting = waits_row 31 21 ∷ waits_row 32 0 ∷ waits_row 33 22 ∷ [] })
    else if v == 3 then Some (record (new_vb 1 role.Active 6) { streams = fed 9 ∷ []; waiting = waits_row 34 23 ∷ [] })
    else None

-- an indexer's connection, with a stream of either
abbrev pub indexer : Bool → Bool → KeptClient
indexer two three =
    let client = new_client (record { node = 1; client = 12; base = 13 }) in
    record { plain = record client { producer = record client.producer { streams = stream_row 8 2 two None ∷ stream_row 9 3 three None ∷ [] } }; spent = false }

-- what was given up: the vBucket 2, where the stream 8 ended, and 21 and 22 wait no more
abbrev pub two_given : Yielded
two_given = record { vb = 2; ended = 8 ∷ []; resolved = record { waiter = 21; how = Ambiguous } ∷ record { waiter = 22; how = Ambiguous } ∷ [] }

-- another one
abbrev pub four_given : Yielded
four_given = record { vb = 4; ended = 9 ∷ []; resolved = record { waiter = 24; how = Ambiguous } ∷ [] }

-- a peer's stream 7 hands the vBucket 2 over. It is given up, and what is told of it; the indexer's stream of it ends, and that of the vBucket 3 does not, which stays as it is. None is given up where no frame is asked for, or where the vBucket is a replica: then the stream is ended. A stream of the same number of another vBucket does not end. Several are told in their order, and what became of durable writes behind all lines
pub record GivenInNumbers : Type 0 where
  pub given : (after (peer_gives_up 1 (peer_row (stream_row 7 2 false to_yield ∷ []))) (vbs_row role.Active)).1.given ≡ two_given ∷ []
  pub stream : (after (peer_gives_up 1 (peer_row (stream_row 7 2 false to_yield ∷ []))) (vbs_row role.Active)).1.peer ≡ peer_row (stream_row 7 2 false rest_follows ∷ [])
  pub other : (after (peer_gives_up 1 (peer_row (stream_row 7 2 false to_yield ∷ []))) (vbs_row role.Active)).0 3 ≡ vbs_row role.Active 3
  pub told : given_out 1 (two_given ∷ []) ≡ record { events = event.Role 1 2 role.Dead ∷ []; out = []; answer = answer.Ok; closed = false; resolved = record { waiter = 21; how = Ambiguous } ∷ record { waiter = 22; how = Ambiguous } ∷ [] }
  pub ends : conn_given (two_given ∷ []) (conn.Client (indexer false false)) ≡ conn.Client (indexer true false)
  pub stays : conn_given (two_given ∷ []) (peer_conn (peer_row (stream_row 8 3 false None ∷ stream_row 7 2 false to_yield ∷ []))) ≡ peer_conn (peer_row (stream_row 8 3 false None ∷ stream_row 7 2 false to_yield ∷ []))
  pub unasked : (after (peer_gives_up 0 (peer_row (stream_row 7 2 false to_yield ∷ []))) (vbs_row role.Active)).1.given ≡ []
  pub refused : (after (peer_gives_up 1 (peer_row (stream_row 7 2 false to_yield ∷ []))) (vbs_row role.Replica)).1 ≡ record { peer = peer_row (stream_row 7 2 true to_yield ∷ []); given = [] }
  pub several : given_out 1 (two_given ∷ four_given ∷ []) ≡ record {
    events = event.Role 1 2 role.Dead ∷ event.Role 1 4 role.Dead ∷ [];
    out = [];
    answer = answer.Ok;
    closed = false;
    resolved = record { waiter = 21; how = Ambiguous } ∷ record { waiter = 22; how = Ambiguous } ∷ record { waiter = 24; how = Ambiguous } ∷ [];
  }
