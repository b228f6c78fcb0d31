-- a link whose stream sends what is left of its vBucket: its consumer has the right to the branch, which no other one has
use Rattle.std.specs.Prelude.{◌≡◌, ◌⊎◌, ◌∷◌, ◌==◌, if◌then◌else◌}
use Rattle.std.specs.List.{All}
use Rattle.takeover.specs.{GivingUp.{new_give_up}, Laws.{at as step_number}, declared.give_up.GiveStep.TheVariants.{SendRest}, declared.give_up.GiveUp.{GiveUp}}
use Rattle.cluster_model.specs.Clusters.{HasRight, IsGiven}
use Rattle.transcript_law.proofs.Words.{ℕ, Bool, true, false, List, [], refl, ap, sym, ◌∙◌, subst, arith, inl, inr, eqb-true, Option, Some, None, All-cons, All-head, All-nil, Chronicle, Cluster, Frame, Granted, Member, Plain, PlainConsumer, PlainLink, PlainProducer, PlainWorld, Role, consumer_node, link_number, producer_node, row_put, stream_branch}
use Rattle.transcript_law.proofs.invariant.{Agreement.{AgreesIn, Differ, EndsStand, FeederIn, Handing, IsLink, LinkAgrees, Wants, consumer_seat, gives_in, heir_step, idle, kept_stream, producer_seat}, LinkRows.{links_apart}, Noted.{KeptFor, KeptLink}, Seats.{seats_apart}}
use Rattle.transcript_law.specs.Heirs.{IsWriter}
use Rattle.vb_events.specs.declared.event.StreamName.TheVariants.{Link}

-- a link that stays where another one is put
pub put_keeps : (l : ℕ) (link' : PlainLink) (links : List PlainLink) (x : PlainLink) → IsLink x links → (link_number x ≡ l → ⊥) → IsLink x (row_put link_number l link' links)
put_keeps l link' [] x i ne = absurd i
put_keeps l link' (z ∷ zs) x i ne = by (λ k. put_keeps l link' zs x k ne) (link_number z == l) refl i
  where
    by : (IsLink x zs → IsLink x (row_put link_number l link' zs)) → (b : Bool) → (link_number z == l) ≡ b → (x ≡ z) ⊎ IsLink x zs → IsLink x (if b then link' ∷ zs else z ∷ row_put link_number l link' zs)
    by rest true t (inl same) = absurd (ne (ap link_number same ∙ eqb-true (link_number z) l t))
    by rest true t (inr k) = inr k
    by rest false t (inl same) = inl same
    by rest false t (inr k) = inr (rest k)

abbrev number : Option GiveUp → ℕ
number None = 0
number (Some g) = step_number g

-- in that step the vBucket was given up, and nothing was told behind
rest_handing : (b : Bool) (h : Handing) (g : GiveUp) → gives_in b h ≡ Some g → step_number g ≡ 5 → h ≡ Handing.Ceded
rest_handing b Handing.Ceded g e q = refl
rest_handing true Handing.Unstated g e q = let same : new_give_up ≡ g = cc in let z : ◌≡◌ {A = ℕ} 1 5 = ap step_number same ∙ q in absurd (omega (arith, z))
rest_handing false Handing.Unstated g e q = cc
rest_handing b Handing.Offered g e q = let z : ◌≡◌ {A = ℕ} 3 5 = ap number e ∙ q in absurd (omega (arith, z))
rest_handing b Handing.Pended g e q = let z : ◌≡◌ {A = ℕ} 3 5 = ap number e ∙ q in absurd (omega (arith, z))
rest_handing b Handing.Due g e q = let z : ◌≡◌ {A = ℕ} 4 5 = ap number e ∙ q in absurd (omega (arith, z))
rest_handing b Handing.Stated g e q = let z : ◌≡◌ {A = ℕ} 7 5 = ap number e ∙ q in absurd (omega (arith, z))

heir_rests : (b : Bool) (g : GiveUp) → Some (heir_step b) ≡ Some g → step_number g ≡ 5 → ⊥
heir_rests true g e q = let z : ◌≡◌ {A = ℕ} 8 5 = ap number e ∙ q in omega (arith, z)
heir_rests false g e q = let z : ◌≡◌ {A = ℕ} 7 5 = ap number e ∙ q in omega (arith, z)

-- who is the writer for such a stream is so yet, if it is by who has the right
kept_one_by : {fv : Wants} {kn : Member} {pv : Option Plain} {leader : Member} {g : Option Granted} {said : Option Role} {point : Option ℕ} {served : PlainProducer} {asker : PlainConsumer} {up down : List Frame} (r r' : Chronicle) (n v : ℕ) (told told' : Option Granted) → told' ≡ told
    → ((u : ℕ) → HasRight leader.br kn.link → IsWriter r n v u → IsWriter r' n v u) → EndsStand fv kn pv leader g said point served asker up down → All (KeptFor r n v told) served.streams → All (KeptFor r' n v told') served.streams
kept_one_by r r' n v told told' same writes (EndsStand.IsAsking ask none t) all = subst (All (KeptFor r' n v told')) (sym t.no_stream) (All-nil (KeptFor r' n v told'))
kept_one_by r r' n v told told' same writes (EndsStand.IsRefusedYet none t) all = subst (All (KeptFor r' n v told')) (sym t.no_stream) (All-nil (KeptFor r' n v told'))
kept_one_by {kn = kn} {leader = leader} {served = served} {asker = asker} r r' n v told told' same writes (EndsStand.IsStreaming t stated) all = by t.granted_is.over t.stream_is
  where
    right : t.stream.gives ≡ Some (record { step = SendRest }) → t.stream.ended ≡ false → HasRight leader.br kn.link
    right step alive =
        let ceded : t.handing ≡ Handing.Ceded = rest_handing asker.dialed.takeover t.handing (record { step = SendRest }) (sym t.gives_is ∙ step) refl in
        let at = t.streams.opens alive in
        let given = subst (λ h. FeederIn h at.producer.role leader t.feed.given) ceded at.active in
        (leader.position.at, subst (IsGiven leader.br leader.position.at) (sym t.fed) (given.given_there, sym at.leads))

    by : (over : Bool) → served.streams ≡ kept_stream over t.stream → All (KeptFor r' n v told') served.streams
    by true e = subst (All (KeptFor r' n v told')) (sym e) (All-nil (KeptFor r' n v told'))
    by false e = subst (All (KeptFor r' n v told')) (sym e) (All-cons (KeptFor r' n v told') t.stream [] (λ g q step alive. writes (stream_branch g) (right step alive) (old g (sym same ∙ q) step alive)) (All-nil (KeptFor r' n v told')))
      where
        old : KeptFor r n v told t.stream
        old = All-head (KeptFor r n v told) t.stream [] (subst (All (KeptFor r n v told)) e all)
kept_one_by {served = served} r r' n v told told' same writes (EndsStand.IsHeir t stated) all = by t.granted_is.over t.stream_is
  where
    by : (over : Bool) → served.streams ≡ kept_stream over t.stream → All (KeptFor r' n v told') served.streams
    by true e = subst (All (KeptFor r' n v told')) (sym e) (All-nil (KeptFor r' n v told'))
    by false e = subst (All (KeptFor r' n v told')) (sym e) (All-cons (KeptFor r' n v told') t.stream [] (λ g q step alive. absurd (heir_rests t.answered (record { step = SendRest }) (sym t.gives_is ∙ step) refl)) (All-nil (KeptFor r' n v told')))

pub kept_by_right : (w : PlainWorld) (r : Chronicle) (c : Cluster) (x : PlainLink) (r' : Chronicle) → LinkAgrees w r c x [] [] → r'.stream_of (Link (link_number x)) x.consumer.dialed.vb ≡ r.stream_of (Link (link_number x)) x.consumer.dialed.vb
    → ((u : ℕ) → HasRight (c.nodes (producer_seat x)).br (c.nodes (consumer_seat x)).link → IsWriter r (producer_node x) x.consumer.dialed.vb u → IsWriter r' (producer_node x) x.consumer.dialed.vb u) → KeptLink r x → KeptLink r' x
kept_by_right w r c x r' la same writes kept = kept_one_by r r' (producer_node x) x.consumer.dialed.vb (r.stream_of (Link (link_number x)) x.consumer.dialed.vb) (r'.stream_of (Link (link_number x)) x.consumer.dialed.vb) same writes la.talk.stands kept

-- no other link has that right
pub one_right : (w : PlainWorld) (r : Chronicle) (c : Cluster) → AgreesIn idle w r c → (x y : PlainLink) → IsLink x w.links → IsLink y w.links → (link_number x ≡ link_number y → ⊥) → (u : ℕ) → HasRight u (c.nodes (consumer_seat x)).link → HasRight u (c.nodes (consumer_seat y)).link → ⊥
one_right w r c a x y i j ne u rx ry =
    let apart : Differ x y = links_apart x y w.links a.differ i j ne in
    seats_apart (consumer_node x) x.consumer.dialed.vb (consumer_node y) y.consumer.dialed.vb apart.follower (a.sound.alone (consumer_seat x) (consumer_seat y) u (inr rx) (inr ry))
