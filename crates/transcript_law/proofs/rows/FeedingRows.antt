-- worlds of two nodes, judged by hand
use Rattle.std.specs.Prelude.{◌≡◌, ◌∷◌, ◌==◌, if◌then◌else◌}
use Rattle.transcript_law.proofs.Words.{ℕ, Bool, true, false, [], refl, sym, ap, ◌∙◌, subst, inl, inr, ⊎_elim, eqb-true, arith, Option, Some, None, Role, Plain, PlainLink, PlainNode, link_number, producer_node, consumer_node, vb_in}
use Rattle.vb_types.specs.declared.stream.StreamAsk.{StreamAsk}
use Rattle.dcp_producer.specs.Producers.{PlainStream}
use Rattle.vb_calls.specs.declared.stream.Stream.{Stream}
use Rattle.takeover.specs.declared.take_over.TakeStep.{TakeStep}
use Rattle.transcript_law.specs.Feeding.{FollowsOrOwns, HasFed, IsLinked, IsOf, LinksAreFed, StreamsAreFed}
use Rattle.transcript_law.specs.FeedingRows.{GoesOn, down, feeding, has_one, has_streams, one_node, owning, streaming, streaming_both, two_nodes, up}
use Rattle.node_world.specs.Worlds.{is_up}
use Rattle.vb_calls.specs.Following.{is_follower}
use Rattle.vb_calls.specs.State.{new_vb}
use Rattle.vb_events.specs.declared.event.StreamName.{StreamName}
use Rattle.vb_events.specs.declared.event.StreamName.TheVariants.{Client, Link}

module _ (ask : StreamAsk) where
  abbrev link : PlainLink
  link = feeding 1 ask

  -- a link that is open is that one
  only : (producer consumer : PlainNode) (l : ℕ) (x : PlainLink) → IsLinked (two_nodes producer consumer (link ∷ [])) l x → (link ≡ x) × (1 ≡ l)
  only producer consumer l x is = by (1 == l) refl is
    where
      by : (b : Bool) → (1 == l) ≡ b → (if b then Some link else None) ≡ Some x → (link ≡ x) × (1 ≡ l)
      by true e f = (cc, eqb-true 1 l e)
      by false e f = cc

  pub fed : LinksAreFed (two_nodes up (has_one Role.Replica) (link ∷ []))
  fed = record {
    number = λ l x is. let o = only up (has_one Role.Replica) l x is in subst (λ (y : PlainLink). link_number y ≡ l) o.0 o.1;
    follows = λ l x is.
        let o = only up (has_one Role.Replica) l x is in
        subst (λ (y : PlainLink). (vb : Plain) × (vb_in ((two_nodes up (has_one Role.Replica) (link ∷ [])).nodes (consumer_node y)) y.consumer.dialed.vb ≡ Some vb) × FollowsOrOwns vb.role y) o.0 (new_vb 1 Role.Replica 5, refl, inl (refl, λ e. cc));
    runs = λ l x is.
        let o = only up (has_one Role.Replica) l x is in
        subst (λ (y : PlainLink). (is_up ((two_nodes up (has_one Role.Replica) (link ∷ [])).nodes (consumer_node y)) ≡ true) × (is_up ((two_nodes up (has_one Role.Replica) (link ∷ [])).nodes (producer_node y)) ≡ true)) o.0 (refl, refl);
    apart = λ l k x y is has e f. sym (only up (has_one Role.Replica) l x is).1 ∙ (only up (has_one Role.Replica) k y has).1;
  }

  pub producer_down : LinksAreFed (two_nodes down (has_one Role.Replica) (link ∷ [])) → ⊥
  producer_down f = let e : false ≡ true = (f.runs 1 link refl).1 in cc

  pub producer_unmade : LinksAreFed (one_node (has_one Role.Replica) (link ∷ [])) → ⊥
  producer_unmade f = let e : false ≡ true = (f.runs 1 link refl).1 in cc

  pub consumer_down : LinksAreFed (two_nodes up down (link ∷ [])) → ⊥
  consumer_down f = let e : false ≡ true = (f.runs 1 link refl).0 in cc

  pub no_vb : LinksAreFed (two_nodes up up (link ∷ [])) → ⊥
  no_vb f = let x = f.follows 1 link refl in let e : None ≡ Some x.0 = x.1 in cc

  -- the vBucket that is there has this role
  role_is : (said : Role) → LinksAreFed (two_nodes up (has_one said) (link ∷ [])) → is_follower said ≡ true
  role_is said f =
      let x = f.follows 1 link refl in
      let same : Some (new_vb 1 said 5) ≡ Some x.0 = x.1 in
      let is : new_vb 1 said 5 ≡ x.0 = cc in ap (λ (vb : Plain). is_follower vb.role) is ∙ ⊎_elim (λ y. y.0) (λ y. let z : ◌≡◌ {A = Option TakeStep} None (Some TakeStep.Own) = y.1 in cc) x.2

  pub active : LinksAreFed (two_nodes up (has_one Role.Active) (link ∷ [])) → ⊥
  active f = let e : false ≡ true = role_is Role.Active f in cc

  pub dead : LinksAreFed (two_nodes up (has_one Role.Dead) (link ∷ [])) → ⊥
  dead f = let e : false ≡ true = role_is Role.Dead f in cc

  -- one that took its branch over by the link follows nobody
  abbrev heir : PlainLink
  heir = owning 1 ask

  only_heir : (said : Role) (l : ℕ) (x : PlainLink) → IsLinked (two_nodes up (has_one said) (heir ∷ [])) l x → (heir ≡ x) × (1 ≡ l)
  only_heir said l x is = by (1 == l) refl is
    where
      by : (b : Bool) → (1 == l) ≡ b → (if b then Some heir else None) ≡ Some x → (heir ≡ x) × (1 ≡ l)
      by true e f = (cc, eqb-true 1 l e)
      by false e f = cc

  owned_as : (said : Role) → is_follower said ≡ false → LinksAreFed (two_nodes up (has_one said) (heir ∷ []))
  owned_as said feeds = record {
    number = λ l x is. let o = only_heir said l x is in subst (λ (y : PlainLink). link_number y ≡ l) o.0 o.1;
    follows = λ l x is.
        let o = only_heir said l x is in
        subst (λ (y : PlainLink). (vb : Plain) × (vb_in ((two_nodes up (has_one said) (heir ∷ [])).nodes (consumer_node y)) y.consumer.dialed.vb ≡ Some vb) × FollowsOrOwns vb.role y) o.0 (new_vb 1 said 5, refl, inr (feeds, refl));
    runs = λ l x is.
        let o = only_heir said l x is in
        subst (λ (y : PlainLink). (is_up ((two_nodes up (has_one said) (heir ∷ [])).nodes (consumer_node y)) ≡ true) × (is_up ((two_nodes up (has_one said) (heir ∷ [])).nodes (producer_node y)) ≡ true)) o.0 (refl, refl);
    apart = λ l k x y is has e f. sym (only_heir said l x is).1 ∙ (only_heir said k y has).1;
  }

  pub owner : LinksAreFed (two_nodes up (has_one Role.Active) (heir ∷ []))
  owner = owned_as Role.Active refl

  pub gone_on : LinksAreFed (two_nodes up (has_one Role.Dead) (heir ∷ []))
  gone_on = owned_as Role.Dead refl

  pub owns_none : LinksAreFed (two_nodes up (has_one Role.Replica) (heir ∷ [])) → ⊥
  owns_none f =
      let x = f.follows 1 heir refl in
      let same : Some (new_vb 1 Role.Replica 5) ≡ Some x.0 = x.1 in
      let is : new_vb 1 Role.Replica 5 ≡ x.0 = cc in
      ⊎_elim (λ y. y.1 refl) (λ y. let z : true ≡ false = ap (λ (vb : Plain). is_follower vb.role) is ∙ y.0 in cc) x.2

  pub twice : LinksAreFed (two_nodes up (has_one Role.Replica) (link ∷ feeding 2 ask ∷ [])) → ⊥
  twice f = let e : ◌≡◌ {A = ℕ} 1 2 = f.apart 1 2 link (feeding 2 ask) refl refl refl refl in omega arith

-- ---- streams

-- there is no link, and no client
nobody : (s : Stream) (who : StreamName) → HasFed (two_nodes (has_streams (s ∷ [])) up []) who 0 0 s.id → ⊥
nobody s (Link l) (x, is, of) = let e : None ≡ Some x = is in absurd (cc e)
nobody s (Client m c) (own, (client, is, has)) = let e : None ≡ Some client = is in absurd (cc e)

pub unlinked : (s : Stream) → StreamsAreFed (two_nodes (has_streams (s ∷ [])) up []) → ⊥
unlinked s f = let x = f.fed 0 0 s.id (inl refl) in nobody s x.0 x.1

-- the number of a link
abbrev link_of : StreamName → ℕ
link_of (Link l) = l
link_of (Client n c) = 0

module _ (ask : StreamAsk) (stream : PlainStream) (on : GoesOn stream) where
  -- the link has it
  of_link : (l : ℕ) → IsOf 0 0 stream.id (streaming l ask stream)
  of_link l = record { producer = refl; stream = inl (on.0, refl, on.1) }

  pub unopened : StreamsAreFed (two_nodes (has_streams []) (has_one Role.Replica) (streaming 1 ask stream ∷ [])) → ⊥
  unopened f = f.opened (Link 1) 0 0 stream.id (streaming 1 ask stream, refl, of_link 1)

  pub second : (first : PlainStream) → StreamsAreFed (two_nodes (has_streams []) (has_one Role.Replica) (streaming_both 1 ask first stream ∷ [])) → ⊥
  second first f = f.opened (Link 1) 0 0 stream.id (streaming_both 1 ask first stream, refl, record { producer = refl; stream = inr (inl (on.0, refl, on.1)) })

  pub shared : (s : Stream) → StreamsAreFed (two_nodes (has_streams (s ∷ [])) (has_one Role.Replica) (streaming 1 ask stream ∷ streaming 2 ask stream ∷ [])) → ⊥
  shared s f = let e : ◌≡◌ {A = ℕ} 1 2 = ap link_of (f.apart (Link 1) (Link 2) 0 0 stream.id (streaming 1 ask stream, refl, of_link 1) (streaming 2 ask stream, refl, of_link 2)) in omega arith
