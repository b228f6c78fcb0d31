-- a vBucket is given up for the consumer of one link: all streams of it end but that one's, and all else agrees as before
use Rattle.std.specs.Prelude.{◌≡◌, ◌⊎◌, ◌∷◌, ◌==◌, if◌then◌else◌}
use Rattle.transcript_law.proofs.Words.{ℕ, true, false, List, [], refl, ap, sym, ◌∙◌, subst, inl, inr, ⊎_elim, Option, Some, None, list_any, eqb-true, holds_fewer, without_stream, with_seal, refusal_reply, stream_ids}
use Rattle.transcript_law.proofs.Words.{Chronicle, Cluster, Feed, Member, Move, Plain, PlainLink, PlainStream, PlainWorld, Role, SoundCluster, Sound, StaysSound, Status, Stream, StreamName, VbCall, after_role, consumer_node, happens, is_active, is_follower, link_ended, link_number, plain_step, producer_node, put, row_at, row_put, stream_at}
use Rattle.transcript_law.proofs.{disks.Disks.{parts_of}, links.Cutting.{closed_others}, links.Handed.{given_here, given_sound, given_there}, links.Turning.{Beside, Remade, TurnedOf, agrees_turned, as_before, rests_turned, turned_disks}, verbs.NodeLines.{role_row}}
use Rattle.transcript_law.proofs.invariant.Agreement.{AgreesAt, AgreesIn, Differ, IsLink, LinkAgrees, LinksDiffer, VbAgrees, consumer_seat, idle, own_history, vb_of}
use Rattle.transcript_law.proofs.invariant.Carried.{active_feeds, all_vbs, branches_again, consumer_made, consumers_apart, differ_ends, fed_same, ids_same, numbers, stream_opened}
use Rattle.transcript_law.proofs.invariant.{Carrying.{FedMember, NoNewStream, SameEnds}, ClientsKept.{among_open, link_none}, ClientsTurned.{StreamsEnded, all_listed, id_listed, open_at}, LinkFeeds.{link_feeds}, LinkRows.{differ_put, found_is_link, links_apart, put_links}, OneLink.{put_here, put_there}, Owing.{later_same}, Seats.{seat, seats_apart}, Wholes.{WholeTo, spanned_sealed, whole_sealed}}
use Rattle.{cluster_model.specs.Clusters.{IsFedOf, ceded, yielded}, node_core.specs.Clients.{PlainClient, client_ended}, transcript_law.specs.Feeding.{HasOpen, client_in}, vb_calls.specs.Roles.{in_role_with, yielded as given}}

-- a member that is fed otherwise
pub fed_ceded : (m : Member) (feed : Option Feed) (high : ℕ) → FedMember m (ceded m feed high)
fed_ceded m None high = fed_same m
fed_ceded m (Some feed) high = record { active = refl; br = refl; held = refl; position = refl; log = refl }

module _ (stays : StaysSound) (w w' : PlainWorld) (r : Chronicle) (c : Cluster) (l : ℕ) (link link' : PlainLink) (vb : Plain) (s : Stream) (a : AgreesIn idle w r c) (found : row_at link_number l w.links ≡ Some link)
    (known : vb_of w (producer_node link) link.consumer.dialed.vb ≡ Some vb) (active : is_active vb.role ≡ true) (id : ℕ) (opened : stream_at id vb.streams ≡ Some s) (own : HasOpen link.consumer.dialed.vb id link.server.streams) where
  abbrev n : ℕ
  n = producer_node link

  abbrev v : ℕ
  v = link.consumer.dialed.vb

  abbrev k : ℕ
  k = consumer_seat link

  abbrev p : ℕ
  p = seat n v

  -- it is dead then, and that stream alone is left
  abbrev pub left_vb : Plain
  left_vb = in_role_with vb Role.Dead (s ∷ [])

  abbrev pub over : List ℕ
  over = stream_ids (without_stream s.id vb.streams)

  abbrev lines : Chronicle
  lines = after_role r n v Role.Dead

  abbrev after : Cluster
  after = happens c (Move.Cede k p)

  abbrev links : List PlainLink
  links = row_put link_number l link' w.links

  is_link : IsLink link w.links × (link_number link ≡ l)
  is_link = found_is_link l w.links link found

  mine : LinkAgrees w r c link [] []
  mine = a.links link is_link.0

  -- a stream that is found has the number that was asked for
  number_is : (streams : List Stream) (t : Stream) → stream_at id streams ≡ Some t → t.id ≡ id
  number_is [] t e = cc
  number_is (x ∷ xs) t e = elim (x.id == id) as (λ b. (x.id == id) ≡ b → (if b then Some x else stream_at id xs) ≡ Some t → t.id ≡ id)
      [ true ↦ λ q z. (let same : x ≡ t = cc in ap (λ (y : Stream). y.id) (sym same) ∙ eqb-true x.id id q) | false ↦ λ q z. number_is xs t z ] refl e

  -- each other one ends
  listed : (x : ℕ) (t : Stream) → (x ≡ id → ⊥) → stream_at x vb.streams ≡ Some t → list_any (λ i. i == x) over ≡ true
  listed x t ne e = id_listed x (without_stream s.id vb.streams) t (closed_others s.id x vb.streams (λ q. ne (q ∙ number_is vb.streams s opened)) ∙ e)

  before : VbAgrees r n v (c.nodes p) vb
  before = subst (AgreesAt r n v (c.nodes p)) known (a.vbs n v)

  step_is : (plain_step vb (VbCall.Yield id)).0 ≡ left_vb
  step_is = ap (λ b. (if b then given (stream_at id vb.streams) vb else (vb, refusal_reply Status.NotMyVbucket)).0) active ∙ ap (λ o. (given o vb).0) opened

  module _ (asleep : (c.nodes k).active ≡ false) (feeds : IsFedOf (c.nodes p).br (c.nodes k).link) (became : TurnedOf w w' n v left_vb over links) (uuids : w'.uuids ≡ w.uuids) (same : SameEnds link link') (less : NoNewStream link link')
      (agrees : LinkAgrees w' lines after (link_ended n v over link') [] []) where
    here : VbAgrees lines n v (after.nodes p) left_vb
    here = given_here w r c n v k vb a.sound a.vbs known active asleep feeds left_vb refl refl (record {
      sound = subst Sound step_is (stays vb (VbCall.Yield id) before.sound tt);
      spanned = spanned_sealed vb.role Role.Dead vb.spans vb.position before.spanned;
      keeps = before.keeps;
      told = before.told;
      member = record { active = refl; position = before.member.position; log = before.member.log };
      branch = before.branch;
      holds = holds_fewer 0 (WholeTo vb.floor (with_seal vb.spans) vb.position) (WholeTo vb.floor vb.spans vb.position) (c.nodes p).held (own_history r n v) (λ i x. (whole_sealed vb.spans i x.0, x.1, x.2)) before.holds;
    })

    -- members beside it
    still : (j : ℕ) → (j ≡ p → ⊥) → (j ≡ k → ⊥) → after.nodes j ≡ c.nodes j
    still j other apart = put_there (put c.nodes p (yielded (c.nodes p))) k (ceded (c.nodes k) (c.nodes k).link (c.nodes p).position.at) j apart ∙ put_there c.nodes p (yielded (c.nodes p)) j other

    members : (j : ℕ) → (j ≡ p → ⊥) → FedMember (c.nodes j) (after.nodes j)
    members j other = ⊎_elim
        (λ e. subst (λ x. FedMember (c.nodes x) (after.nodes x)) (sym e)
        (subst (FedMember (c.nodes k)) (sym (put_here (put c.nodes p (yielded (c.nodes p))) k (ceded (c.nodes k) (c.nodes k).link (c.nodes p).position.at))) (fed_ceded (c.nodes k) (c.nodes k).link (c.nodes p).position.at)))
        (λ ne. subst (FedMember (c.nodes j)) (sym (still j other ne)) (fed_same (c.nodes j)))
        (numbers j k)

    absent : (m q : ℕ) → (m ≡ n → q ≡ v → ⊥) → vb_of w m q ≡ None → after.nodes (seat m q) ≡ c.nodes (seat m q)
    absent m q other none = still (seat m q) (seats_apart m q n v other) (consumer_made w r c link [] [] mine m q none)

    -- the other links
    apart : (x : PlainLink) → IsLink x w.links → (link_number x ≡ l → ⊥) → Differ link x
    apart x i ne = links_apart link x w.links a.differ is_link.0 i (λ e. ne (sym e ∙ is_link.1))

    beside : (x : PlainLink) → IsLink x w.links → Differ link x → Beside n v over vb left_vb c after x
    beside x i d = record {
      member = λ other. still (consumer_seat x) (seats_apart (consumer_node x) x.consumer.dialed.vb n v other) (consumers_apart link x d);
      own = λ e f. (active_feeds vb.role active, refl);
      listed = λ y has at.
          let (pv, there, follows, t, at_y, on) = stream_opened w r c x [] [] (a.links x i) v y has in
          let is : Some pv ≡ Some vb = sym there ∙ ap (λ m. vb_of w m x.consumer.dialed.vb) at ∙ ap (vb_of w n) on ∙ known in let one : pv ≡ vb = cc in
          listed y t (λ e. d.stream v id own (subst (λ j. HasOpen v j x.server.streams) e has) (sym at)) (subst (λ (z : Plain). stream_at y z.streams ≡ Some t) one at_y);
    }

    remade : (x : PlainLink) → IsLink x links → Remade w w' lines n v over vb left_vb c after x
    remade x i = ⊎_elim
        (λ e. record { from = link; is_link = is_link.0; same = subst (SameEnds link) (sym e) same; less = subst (NoNewStream link) (sym e) less; goes = inl (subst (λ y. LinkAgrees w' lines after (link_ended n v over y) [] []) (sym e) agrees) })
        (λ j. as_before x j.0 (beside x j.0 (apart x j.0 j.1)))
        (put_links l w.links link link' x a.differ found (ap (λ d. d.link) same.dialed ∙ is_link.1) i)

    -- no client has that stream
    conns : (d : ℕ) (client : PlainClient) → client_in (w.nodes n) d ≡ Some client → StreamsEnded v client (client_ended v over client)
    conns d client is = all_listed v over client (λ y among at opens.
        let (t, at_y) = open_at w r n v d vb client known (a.clients.each n d client is) y among at opens in
        listed y.id t (λ e. link_none w a.clients.apart l n v id (link_feeds w a.differ l n v id link is_link.0 is_link.1 refl own) d
        (client, is, subst (λ j. HasOpen v j client.producer.streams) e (subst (λ q. HasOpen q y.id client.producer.streams) at (among_open y client.producer.streams among opens)))) at_y)

    differ : LinksDiffer links
    differ = differ_put l w.links link link' (ap (λ d. d.link) same.dialed ∙ is_link.1) a.differ (λ y i ne. let d = apart y i ne in differ_ends link link' y same d (λ q j has has_y e. d.stream q j (less q j has) has_y e)) found

    pub given_agrees : AgreesIn idle w' lines after
    given_agrees = agrees_turned w w' r lines c after n v over links vb left_vb a known became differ members absent (λ j. refl) (λ j q. refl) (λ j. refl) (λ j. refl) remade conns
        (given_sound w r c n v k vb a.sound a.vbs known active asleep feeds)
        (all_vbs w w' n v left_vb (λ m q o. AgreesAt lines m q (after.nodes (seat m q)) o) became.here became.there here (λ m q other. given_there w r c n v k vb a.sound a.vbs known active asleep feeds m q other))
        (turned_disks w w' r lines c after n v vb left_vb over a known became (λ m q. refl) (λ j. refl) refl)
        (branches_again refl refl (ids_same uuids) a.branches)
        (rests_turned w w' r lines c after n v over links vb left_vb a known became differ members absent (λ j. refl) (λ j q. refl) (λ j. refl) (λ j. refl) remade conns (λ m. refl) refl (role_row r n v Role.Dead) (λ j ne. refl))
        (λ m d. refl) (λ u t. refl) (later_same _ _ refl refl) (λ x y o. absurd o.1.among)
