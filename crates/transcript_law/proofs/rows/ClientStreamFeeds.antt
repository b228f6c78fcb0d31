-- worlds in which clients have streams, judged by hand
use Rattle.std.proofs.Common.{[], arith, inl, refl, ℕ, ◌∷◌, ◌≡◌}
use Rattle.vb_types.specs.declared.role.Role.TheVariants as role
use Rattle.vb_types.specs.declared.stream.StreamAsk.{StreamAsk}
use Rattle.vb_events.specs.declared.event.StreamName.{StreamName}
use Rattle.vb_events.specs.declared.event.StreamName.TheVariants as name
use Rattle.vb_calls.specs.declared.stream.Stream.{Stream}
use Rattle.dcp_producer.specs.Producers.{PlainStream}
use Rattle.transcript_law.specs.Feeding.{StreamsAreFed}
use Rattle.transcript_law.specs.FeedingRows.{GoesOn, has_clients, has_one, streaming, two_nodes, up}

-- a link and a client have two names
two_names : (l n c : ℕ) → ◌≡◌ {A = StreamName} (name.Client n c) (name.Link l) → ⊥
two_names l n c e = cc

module _ (stream : PlainStream) (on : GoesOn stream) where
  pub unopened : StreamsAreFed (two_nodes (has_clients [] (stream ∷ []) []) up []) → ⊥
  unopened f = f.opened (name.Client 0 1) 0 0 stream.id (refl, (_, refl, inl (on.0, refl, on.1)))

  pub with_link : (ask : StreamAsk) (s : Stream) → StreamsAreFed (two_nodes (has_clients (s ∷ []) (stream ∷ []) []) (has_one role.Replica) (streaming 1 ask stream ∷ [])) → ⊥
  with_link ask s f = two_names 1 0 1 (f.apart (name.Client 0 1) (name.Link 1) 0 0 stream.id (refl, (_, refl, inl (on.0, refl, on.1))) (streaming 1 ask stream, refl, record { producer = refl; stream = inl (on.0, refl, on.1) }))

  pub twice : (s : Stream) → StreamsAreFed (two_nodes (has_clients (s ∷ []) (stream ∷ []) (stream ∷ [])) up []) → ⊥
  twice s f = one_number (f.apart (name.Client 0 1) (name.Client 0 2) 0 0 stream.id (refl, (_, refl, inl (on.0, refl, on.1))) (refl, (_, refl, inl (on.0, refl, on.1))))
    where
      one_number : ◌≡◌ {A = StreamName} (name.Client 0 1) (name.Client 0 2) → ⊥
      one_number e = let n : ◌≡◌ {A = ℕ} 1 2 = cc in omega (arith, n)
