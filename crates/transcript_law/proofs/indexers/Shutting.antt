-- a connection of a client that is gone: its streams are closed at their vBuckets, and all agrees
use Rattle.std.specs.Prelude.{◌≡◌, ◌∷◌, if◌then◌else◌}
use Rattle.transcript_law.proofs.Words.{with_at, ℕ, Bool, true, false, List, [], refl, sym, ◌∙◌, subst, inl, inr, Option, Some, None, States, Plain, PlainNode, PlainWorld, PlainStream, PlainProducer, Chronicle, after_lines, Call, after, with_vb_at, call_at, close_row, streams_closed}
unfoldable use Rattle.dcp_producer.specs.Ending.{end_closed}
use Rattle.node_core.specs.Clients.{Handling, PlainClient}
use Rattle.transcript_law.proofs.indexers.{Hands.{InHand, mine}, Quiet.{put_here, put_there}, Steps.{ClientStep, apart_less, client_carried, clients_told, fed_less, step_one}, Worlds.{client_here, free_own, step_at, step_quiet, vb_here, world_with}}
use Rattle.vbucket.proofs.Fed.{feeds_closed}
use Rattle.transcript_law.proofs.invariant.{Agreement.{Agrees, AgreesAt, VbAgrees}, Carried.{sound_streams}, Owed.{owed_gone}, Seats.{seat}, Tables.{at_there}}
use Rattle.transcript_law.proofs.links.Cutting.{closed_others}
use Rattle.transcript_law.specs.{ClientStreams.{blank_client}, Feeding.{HasFed, HasOpen, client_in}}
use Rattle.vb_calls.specs.declared.calls.VbCall.TheVariants as call
use Rattle.vb_events.specs.declared.event.StreamName.{StreamName}
use Rattle.vb_events.specs.declared.event.StreamName.TheVariants as name

module _ (w : PlainWorld) (n c : ℕ) (node : PlainNode) (r : Chronicle) where
  abbrev gone : States → PlainWorld
  gone states = world_with w n c node states None

  no_more : {A : Type 0} (states : States) (other : PlainClient) → client_in ((gone states).nodes n) c ≡ Some other → A
  no_more states other is = let z : None ≡ Some other = sym (client_here w n c node states None) ∙ is in absurd cc

  -- all agrees, and nobody has one of these streams open
  pub record Shut (streams : List PlainStream) (states : States) : Type 0 where
    pub agrees : Agrees (gone states) r
    pub nobody : (v id : ℕ) → HasOpen v id streams → (who : StreamName) → HasFed (gone states) who n v id → ⊥

  -- so it is behind a step of the connection that is gone
  stepped : (streams : List PlainStream) (states states' : States) → ClientStep (gone states) (gone states') n c → Shut streams states → Shut streams states'
  stepped streams states states' step s =
      let less : (other : PlainClient) → client_in ((gone states').nodes n) c ≡ Some other → (v id : ℕ) → HasOpen v id other.producer.streams → HasFed (gone states) (name.Client n c) n v id = λ other is v id has. no_more states' other is in
      record {
        agrees = (
          s.agrees.0,
          client_carried (gone states) (gone states') r s.agrees.0 n c step s.agrees.1 r.clients_at
              (clients_told (gone states) (gone states') r r.clients_at n c step s.agrees.1.clients (λ m d o. refl) (λ other is. no_more states' other is) (apart_less (gone states) (gone states') n c step less s.agrees.1.clients.apart)
              (owed_gone (gone states) (gone states') r r n c (step_one (gone states) (gone states') r r.clients_at n c step s.agrees.1.clients (λ m d o. refl)) (client_here w n c node states' None) s.agrees.1.clients.owed)),
        );
        nobody = λ v id has who fed. s.nobody v id has who (fed_less (gone states) (gone states') n c step less who n v id fed);
      }

  -- one of them is closed at its vBucket
  one_shut : (streams : List PlainStream) (states : States) (v id : ℕ) → HasOpen v id streams → Shut streams states → Shut streams (call_at states v (call.CloseStream id) (states v)).0
  one_shut streams states v id has s = by (states v) refl
    where
      by : (o : Option Plain) → states v ≡ o → Shut streams (call_at states v (call.CloseStream id) o).0
      by None none = s
      by (Some pv) there =
          let pv' : Plain = (close_row pv id).0 in let st : States = with_vb_at states v pv' in
          let agrees : VbAgrees r n v (s.agrees.0.nodes (seat n v)) pv = subst (AgreesAt r n v (s.agrees.0.nodes (seat n v))) (vb_here w n c node states None v ∙ there) (s.agrees.1.vbs n v) in
          stepped streams states st
          (step_at w n c node states st None None v id pv pv' there (put_here states v pv') (λ q other. put_there states v pv' q other)
          (record { sound = sound_streams pv pv'.streams agrees.sound (feeds_closed pv.role pv.floor id pv.streams agrees.sound.feeds); alone = refl; others = λ k ne. closed_others id k pv.streams ne })
          (free_own w n c node (gone states) s.agrees.1.differ v id (s.nobody v id has)))
          s

  -- one after another
  all_shut : (all streams : List PlainStream) → ((v id : ℕ) → HasOpen v id streams → HasOpen v id all) → (states : States) → Shut all states → Shut all (after (streams_closed streams) states).0
  all_shut all [] some states s = s
  all_shut all (stream ∷ more) some states s = by (all_shut all more (λ v id has. some v id (inr has))) stream.ended refl
    where
      by : ((st : States) → Shut all st → Shut all (after (streams_closed more) st).0) → (b : Bool) → stream.ended ≡ b → Shut all (after (streams_closed (stream ∷ more)) states).0
      by rest true e = subst (λ x. Shut all (after (if x then streams_closed more else Call stream.vb (call.CloseStream stream.id) (λ reply. streams_closed more)) states).0) (sym e) (rest states s)
      by rest false e = subst (λ x. Shut all (after (if x then streams_closed more else Call stream.vb (call.CloseStream stream.id) (λ reply. streams_closed more)) states).0) (sym e)
          (rest (call_at states stream.vb (call.CloseStream stream.id) (states stream.vb)).0 (one_shut all states stream.vb stream.id (some stream.vb stream.id (inl (refl, refl, e))) s))

  pub shut_goes : (producer : PlainProducer) (states : States) → Shut producer.streams states → Shut producer.streams (after (end_closed producer) states).0
  unfolding end_closed
  shut_goes producer states s = all_shut producer.streams producer.streams (λ v id has. has) states s

-- a connection is taken out of its node: nothing is known of it any more, and nobody else has one of its open streams
module _ (w : PlainWorld) (n c : ℕ) (node : PlainNode) (r : Chronicle) (states : States) (client : PlainClient) (a : Agrees (world_with w n c node states (Some client)) r) where
  abbrev old : PlainWorld
  old = world_with w n c node states (Some client)

  abbrev pub blanked : Chronicle
  blanked = record r { clients_at = with_at r.clients_at n c blank_client }

  step : ClientStep old (gone w n c node r states) n c
  step = step_quiet w n c node states states (Some client) None (λ q. refl)

  less : (other : PlainClient) → client_in ((gone w n c node r states).nodes n) c ≡ Some other → (v id : ℕ) → HasOpen v id other.producer.streams → HasFed old (name.Client n c) n v id
  less other is v id has = no_more w n c node r states other is

  pub gone_shut : Shut w n c node blanked client.producer.streams states
  gone_shut = record {
    agrees = (
      a.0,
      client_carried old (gone w n c node r states) r a.0 n c step a.1 (with_at r.clients_at n c blank_client)
          (clients_told old (gone w n c node r states) r (with_at r.clients_at n c blank_client) n c step a.1.clients (λ m d o. at_there r.clients_at n c blank_client m d o) (λ other is. no_more w n c node r states other is)
          (apart_less old (gone w n c node r states) n c step less a.1.clients.apart)
          (owed_gone old (gone w n c node r states) r blanked n c (step_one old (gone w n c node r states) r (with_at r.clients_at n c blank_client) n c step a.1.clients (λ m d o. at_there r.clients_at n c blank_client m d o)) (client_here w n c node states None) a.1.clients.owed)),
    );
    nobody = λ v id has who fed.
        let own : HasFed old (name.Client n c) n v id = (refl, (client, client_here w n c node states (Some client), has)) in
        let same : who ≡ name.Client n c = a.1.clients.apart n c v id who own (fed_less old (gone w n c node r states) n c step less who n v id fed) in
        let (s, (other, is, had)) = subst (λ x. HasFed (gone w n c node r states) x n v id) same fed in
        no_more w n c node r states other is;
  }

-- so it is at the end of a call
pub over : (w : PlainWorld) (n c : ℕ) (node : PlainNode) (r : Chronicle) (states : States) (h : Handling) → h.dcp ≡ None → h.client.session.closed ≡ true → InHand w n c node r states h → InHand w n c node r (after (end_closed h.client.producer) states).0 h
over w n c node r states h none closed (InHand.IsOpen open_still g) = let z : true ≡ false = sym closed ∙ (mine w n c node r g).alive in cc
over w n c node r states h none closed (InHand.IsAsked f asked up) = let z : None ≡ Some f = sym none ∙ asked in cc
over w n c node r states h none closed (InHand.IsOver unhanded o) =
    let s = shut_goes w n c node (after_lines r h.events) h.client.producer states (record { agrees = o.agrees; nobody = o.nobody }) in
    InHand.IsOver unhanded (record { lawful = o.lawful; agrees = s.agrees; calm = o.calm; empty = o.empty; closed = o.closed; nobody = s.nobody })
