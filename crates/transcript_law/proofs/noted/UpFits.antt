-- the line `up`: where it lets its link continue, no state was put on the link's stream before
use Rattle.std.specs.Prelude.{◌≡◌, ◌∷◌, ◌&&◌, ◌||◌, ◌==◌, ◌⊎◌, if◌then◌else◌}
use Rattle.std.specs.List.{list_any}
use Rattle.takeover.specs.GivingUp.{new_give_up}
use Rattle.takeover.specs.declared.give_up.GiveStep.{GiveStep}
use Rattle.takeover.specs.declared.give_up.GiveStep.TheVariants.{AwaitActive, AwaitPending, End, SendActive, SendAll, SendPending, SendRest, Yield}
use Rattle.takeover.specs.declared.give_up.GiveUp.{GiveUp}
use Rattle.transcript_law.proofs.Words.{ℕ, Bool, true, false, List, [], refl, ap, sym, ◌∙◌, subst, inl, inr, ⊎_elim, and_parts, eq-eqb, eqb-true, Option, Some, None, Answer, Cause, Chronicle, Event, Frame, LinkVerb, Member, Outcome, Plain, PlainConsumer, PlainLink, PlainNode, PlainProducer, PlainStream, PlainWorld, Role, StreamName, Verb, after_line, after_lines, link_number, link_outcome, moved_len, node_outcome, on_link, peer_of, producer_node, refusal, row_at, row_put, take, up_at, with_branches, with_link, with_links, with_node_at, with_up}
use Rattle.node_core.specs.Peers.{PeerResult}
use Rattle.node_world.specs.Links.{peer_given}
use Rattle.transcript_law.proofs.invariant.Agreement.{Agrees, EndsStand, Handing, LinkAgrees, Wants, gives_in, heir_step, kept_stream, stated_in}
use Rattle.transcript_law.proofs.invariant.LinkRows.{found_is_link, put_is_found}
use Rattle.transcript_law.proofs.noted.{Freed.{LineFits, LinesFit}, FreedGroups.{ruled}, Upping.{IsNew, UpCame, UpStreams}}
use Rattle.transcript_law.proofs.verbs.Tellings.{each_told}
use Rattle.transcript_law.specs.Chronicles.{after_group}
use Rattle.transcript_law.specs.Lawfulness.{LawfulLine, LinesFrom}
use Rattle.transcript_law.specs.LinesTold.{Conns, Dial, Granted, granted}
use Rattle.transcript_law.specs.TakeoverNotes.{is_grant_of}
use Rattle.transcript_law.specs.Tellings.{TellsOf, are_all, at_link, is_of_clients, is_of_end, is_of_up, may_tell}
use Rattle.vb_types.specs.declared.stream.AskAnswer.TheVariants as ask_answer

-- the step of one that is at it
abbrev step_in : Option GiveUp → GiveStep
step_in None = SendAll
step_in (Some g) = g.step

-- where a stream was granted just now, no state was put
new_unsaid : (takeover : Bool) (h : Handing) → (gives_in takeover h ≡ None) ⊎ (gives_in takeover h ≡ Some new_give_up) → stated_in h ≡ None
new_unsaid takeover Handing.Unstated e = refl
new_unsaid takeover Handing.Offered (inl e) = cc
new_unsaid takeover Handing.Offered (inr e) = let z : AwaitPending ≡ SendAll = ap step_in e in cc
new_unsaid takeover Handing.Pended (inl e) = cc
new_unsaid takeover Handing.Pended (inr e) = let z : AwaitPending ≡ SendAll = ap step_in e in cc
new_unsaid takeover Handing.Due (inl e) = cc
new_unsaid takeover Handing.Due (inr e) = let z : Yield ≡ SendAll = ap step_in e in cc
new_unsaid takeover Handing.Ceded (inl e) = cc
new_unsaid takeover Handing.Ceded (inr e) = let z : SendRest ≡ SendAll = ap step_in e in cc
new_unsaid takeover Handing.Stated (inl e) = cc
new_unsaid takeover Handing.Stated (inr e) = let z : AwaitActive ≡ SendAll = ap step_in e in cc

new_follows : {A : Type 0} (answered : Bool) → (Some (heir_step answered) ≡ None) ⊎ (Some (heir_step answered) ≡ Some new_give_up) → A
new_follows answered (inl e) = cc
new_follows true (inr e) = let z : End ≡ SendAll = ap step_in e in cc
new_follows false (inr e) = let z : AwaitActive ≡ SendAll = ap step_in e in cc

none_said : (fv : Wants) (kn : Member) (pv : Option Plain) (leader : Member) (g : Option Granted) (said : Option Role) (point : Option ℕ) (served : PlainProducer) (asker : PlainConsumer) (up down : List Frame) → EndsStand fv kn pv leader g said point served asker up down
    → (o : Granted) → g ≡ Some o → o.over ≡ false → ((s : PlainStream) (more : List PlainStream) → served.streams ≡ s ∷ more → IsNew s) → said ≡ None
none_said fv kn pv leader g said point served asker up down (EndsStand.IsAsking ask none x) o told goes new = none.1
none_said fv kn pv leader g said point served asker up down (EndsStand.IsRefusedYet none x) o told goes new = none.1
none_said fv kn pv leader g said point served asker up down (EndsStand.IsStreaming x is) o told goes new =
    let both : Some x.granted_is ≡ Some o = sym x.told ∙ told in let same : x.granted_is ≡ o = cc in
    let fresh : IsNew x.serving.stream = new x.serving.stream [] (x.serving.stream_is ∙ ap (λ b. kept_stream b x.serving.stream) (ap (λ (t : Granted). t.over) same ∙ goes)) in
    is ∙ new_unsaid asker.dialed.takeover x.serving.handing (⊎_elim (λ e. inl (sym x.serving.gives_is ∙ e)) (λ e. inr (sym x.serving.gives_is ∙ e)) fresh.gives)
none_said fv kn pv leader g said point served asker up down (EndsStand.IsHeir x is) o told goes new =
    let both : Some x.granted_is ≡ Some o = sym x.told ∙ told in let same : x.granted_is ≡ o = cc in
    let fresh : IsNew x.stream = new x.stream [] (x.stream_is ∙ ap (λ b. kept_stream b x.stream) (ap (λ (t : Granted). t.over) same ∙ goes)) in
    new_follows x.answered (⊎_elim (λ e. inl (sym x.gives_is ∙ e)) (λ e. inr (sym x.gives_is ∙ e)) fresh.gives)

-- ---- its lines

module _ (l : ℕ) where
  abbrev pub is_calm : Event → Bool
  is_calm (Event.Asked (StreamName.Link k) n v ask high log said) = k == l
  is_calm (Event.Asked (StreamName.Client m c) n v ask high log said) = true
  is_calm (Event.Counted (StreamName.Link k) n v member seq) = true
  is_calm (Event.Changed n v uuid change) = true
  is_calm (Event.Reply n c bytes) = true
  is_calm (Event.Closed n c) = true
  is_calm other = false

  client_calm : (n : ℕ) (line : Event) → is_of_clients n line ≡ true → is_calm line ≡ true
  client_calm n (Event.Changed m v uuid change) e = refl
  client_calm n (Event.Asked (StreamName.Client m c) k v ask high log said) e = refl
  client_calm n (Event.Reply m c bytes) e = refl
  client_calm n (Event.Closed m c) e = refl
  client_calm n other e = cc

  up_calm : (line : Event) → is_of_up l line ≡ true → is_calm line ≡ true
  up_calm (Event.Asked (StreamName.Link k) n v ask high log said) e = e
  up_calm (Event.Counted (StreamName.Link k) n v member seq) e = refl
  up_calm other e = cc

  or_calm : (a b : Bool) (q : Bool) → (a ≡ true → q ≡ true) → (b ≡ true → q ≡ true) → (a || b) ≡ true → q ≡ true
  or_calm true b q f g e = f refl
  or_calm false b q f g e = g e

  may_calm : (dial : Option Dial) (wanted : ℕ) (line : Event) → at_link dial l (LinkVerb.Up wanted) line ≡ true → is_calm line ≡ true
  may_calm None wanted line e = cc
  may_calm (Some dial) wanted line e = or_calm (is_of_up l line) (is_of_clients dial.producer line) (is_calm line) (up_calm line) (client_calm dial.producer line) e

  no_stop : (dial : Option Dial) (wanted m : ℕ) → at_link dial l (LinkVerb.Up wanted) (Event.NodeStopped m) ≡ true → ⊥
  no_stop None wanted m e = cc
  no_stop (Some dial) wanted m e = cc

  pub all_calm : (r : Chronicle) (wanted : ℕ) (lines : List Event) → TellsOf r (Verb.AtLink l (LinkVerb.Up wanted)) lines → are_all is_calm lines ≡ true
  all_calm r wanted lines t = each_told (may_tell r (Verb.AtLink l (LinkVerb.Up wanted))) (is_of_end r) is_calm (may_calm (r.dial_of l) wanted) (λ m stops line e. absurd (no_stop (r.dial_of l) wanted m stops)) lines t

  -- they tell of no state, and dial no link
  calm_stated : (r : Chronicle) (line : Event) → is_calm line ≡ true → ((after_line r line).stated_of ≡ r.stated_of) × ((after_line r line).dial_of ≡ r.dial_of)
  calm_stated r (Event.Asked (StreamName.Link k) n v ask high log ask_answer.Go) e = (refl, refl)
  calm_stated r (Event.Asked (StreamName.Link k) n v ask high log (ask_answer.Roll to)) e = (refl, refl)
  calm_stated r (Event.Asked (StreamName.Link k) n v ask high log (ask_answer.Refuse code)) e = (refl, refl)
  calm_stated r (Event.Asked (StreamName.Client m c) n v ask high log said) e = (refl, refl)
  calm_stated r (Event.Counted (StreamName.Link k) n v member seq) e = (refl, refl)
  calm_stated r (Event.Changed n v uuid change) e = (refl, refl)
  calm_stated r (Event.Reply n c bytes) e = (refl, refl)
  calm_stated r (Event.Closed n c) e = (refl, refl)
  calm_stated r other e = cc

  lines_stated : (r : Chronicle) (lines : List Event) → are_all is_calm lines ≡ true → (after_lines r lines).stated_of ≡ r.stated_of
  lines_stated r [] a = refl
  lines_stated r (line ∷ lines) a = let p = and_parts (is_calm line) (are_all is_calm lines) a in lines_stated (after_line r line) lines p.1 ∙ (calm_stated r line p.0).0

  -- the link's stream at this vBucket, which is not over
  abbrev IsOpen : Chronicle → ℕ → Type 0
  IsOpen r v = (g : Granted) × (r.stream_of (StreamName.Link l) v ≡ Some g) × (g.over ≡ false)

  calm_open : (r : Chronicle) (v : ℕ) (line : Event) → is_calm line ≡ true → IsOpen r v → IsOpen (after_line r line) v
  calm_open r v (Event.Asked (StreamName.Link k) n q ask high log ask_answer.Go) e o =
      elim (l == k && v == q) as (λ b. (g : Granted) × ((if b then Some (granted ask log) else r.stream_of (StreamName.Link l) v) ≡ Some g) × (g.over ≡ false)) [ true ↦ (granted ask log, refl, refl) | false ↦ o ]
  calm_open r v (Event.Asked (StreamName.Link k) n q ask high log (ask_answer.Roll to)) e o = o
  calm_open r v (Event.Asked (StreamName.Link k) n q ask high log (ask_answer.Refuse code)) e o = o
  calm_open r v (Event.Asked (StreamName.Client m c) n q ask high log said) e o = o
  calm_open r v (Event.Counted (StreamName.Link k) n q member seq) e o = o
  calm_open r v (Event.Changed n q uuid change) e o = o
  calm_open r v (Event.Reply n c bytes) e o = o
  calm_open r v (Event.Closed n c) e o = o
  calm_open r v other e o = cc

  lines_open : (r : Chronicle) (v : ℕ) (lines : List Event) → are_all is_calm lines ≡ true → IsOpen r v → IsOpen (after_lines r lines) v
  lines_open r v [] a o = o
  lines_open r v (line ∷ lines) a o = let p = and_parts (is_calm line) (are_all is_calm lines) a in lines_open (after_line r line) v lines p.1 (calm_open r v line p.0 o)

  grant_open : (r : Chronicle) (line : Event) (behind : List Event) → LawfulLine r line behind → is_grant_of l line ≡ true → (dial : Dial) → r.dial_of l ≡ Some dial → IsOpen (after_line r line) dial.vb
  grant_open r (Event.Asked (StreamName.Link k) n v ask high log ask_answer.Go) behind lawful e dial d =
      let k_is : k ≡ l = eqb-true k l e in let (node, told) = lawful.dialed in
      let both : Some dial ≡ Some (record { producer = n; node = node; vb = v }) = sym d ∙ ap r.dial_of (sym k_is) ∙ told in let same : dial ≡ record { producer = n; node = node; vb = v } = cc in
      (granted ask log, ap (λ b. if b then Some (granted ask log) else r.stream_of (StreamName.Link l) dial.vb) (λ i. eq-eqb l k (sym k_is) i && eq-eqb dial.vb v (ap (λ (t : Dial). t.vb) same) i), refl)
  grant_open r other behind lawful e dial d = cc

  grants_open : (r : Chronicle) (conns : Conns) (lines : List Event) → LinesFrom r conns lines → are_all is_calm lines ≡ true → list_any (is_grant_of l) lines ≡ true → (dial : Dial) → r.dial_of l ≡ Some dial → IsOpen (after_lines r lines) dial.vb
  grants_open r conns [] lawful a g dial d = cc
  grants_open r conns (line ∷ lines) lawful a g dial d =
      let p = and_parts (is_calm line) (are_all is_calm lines) a in
      by p (is_grant_of l line) refl g (grants_open (after_line r line) _ lines lawful.1 p.1)
    where
      by : (is_calm line ≡ true) × (are_all is_calm lines ≡ true) → (b : Bool) → is_grant_of l line ≡ b → (b || list_any (is_grant_of l) lines) ≡ true
          → (list_any (is_grant_of l) lines ≡ true → (dial : Dial) → (after_line r line).dial_of l ≡ Some dial → IsOpen (after_lines (after_line r line) lines) dial.vb) → IsOpen (after_lines (after_line r line) lines) dial.vb
      by p true e g rest = lines_open (after_line r line) dial.vb lines p.1 (grant_open r line lines (ruled conns line lines (LawfulLine r line lines) lawful.0) e dial d)
      by p false e g rest = rest g dial (ap (λ t. t l) (calm_stated r line p.0).1 ∙ d)

  -- ---- they fit

  none_fits : (r : Chronicle) (line : Event) → is_calm line ≡ true → (is_grant_of l line ≡ false) ⊎ (r.stated_of l ≡ None) → LineFits r line
  none_fits r (Event.Branch n v uuid parent fork high) e none = cc
  none_fits r (Event.Asked (StreamName.Link k) n v ask high log ask_answer.Go) e (inl none) = let z : true ≡ false = sym e ∙ none in cc
  none_fits r (Event.Asked (StreamName.Link k) n v ask high log ask_answer.Go) e (inr none) = ap r.stated_of (eqb-true k l e) ∙ none
  none_fits r other e none = tt

  both_false : (a b : Bool) → (a || b) ≡ false → (a ≡ false) × (b ≡ false)
  both_false true b e = cc
  both_false false b e = (refl, e)

  calm_fit : (r : Chronicle) (lines : List Event) → are_all is_calm lines ≡ true → (list_any (is_grant_of l) lines ≡ false) ⊎ (r.stated_of l ≡ None) → LinesFit r lines
  calm_fit r [] a none = tt
  calm_fit r (line ∷ lines) a (inl none) =
      let p = and_parts (is_calm line) (are_all is_calm lines) a in let q = both_false (is_grant_of l line) (list_any (is_grant_of l) lines) none in
      (none_fits r line p.0 (inl q.0), calm_fit (after_line r line) lines p.1 (inl q.1))
  calm_fit r (line ∷ lines) a (inr none) =
      let p = and_parts (is_calm line) (are_all is_calm lines) a in
      (none_fits r line p.0 (inr none), calm_fit (after_line r line) lines p.1 (inr (ap (λ t. t l) (calm_stated r line p.0).0 ∙ none)))

-- ---- the line

module _ (w : PlainWorld) (r : Chronicle) (wanted : ℕ) (a : Agrees w r) where
  abbrev asked : ℕ → Verb
  asked l = Verb.AtLink l (LinkVerb.Up wanted)

  abbrev Fits : ℕ → Outcome → Type 0
  Fits l o = TellsOf r (asked l) o.1.events → LinesFrom r r.conn_at o.1.events → Agrees (with_branches o.1.events o.0) (after_group r (asked l) o.1.events o.1.answer) → LinesFit r o.1.events

  module _ (link : PlainLink) (node : PlainNode) (found : row_at link_number (link_number link) w.links ≡ Some link) where
    abbrev n : ℕ
    n = moved_len wanted link.up

    abbrev came : PlainNode × PeerResult
    came = peer_given (take n link.up) (peer_of link) node

    abbrev link' : PlainLink
    link' = with_up link n came.1

    -- a stream that is there was granted just now
    news : (ss ss' : List PlainStream) → UpStreams came.1.events (link_number link) ss ss' → list_any (is_grant_of (link_number link)) came.1.events ≡ true → (s : PlainStream) (more : List PlainStream) → ss' ≡ s ∷ more → IsNew s
    news [] [] u g s more e = cc
    news [] (s' ∷ ss') u g s more e = let same : s' ≡ s = cc in subst IsNew same u.1
    news (s0 ∷ ss) [] u g s more e = cc
    news (s0 ∷ ss) (s' ∷ ss') u g s more e = let z : true ≡ false = sym g ∙ u.0 in cc

    up_fits : UpCame came.1.events wanted n link link' → Fits (link_number link) (with_link link (with_node_at w (producer_node link) (up_at wanted link node).0, (up_at wanted link node).1))
    up_fits c t lawful later = by (list_any (is_grant_of (link_number link)) came.1.events) refl
      where
        lines : List Event
        lines = came.1.events

        calm : are_all (is_calm (link_number link)) came.1.events ≡ true
        calm = all_calm (link_number link) r wanted came.1.events t

        before : LinkAgrees w r a.0 link [] []
        before = a.1.links link (found_is_link (link_number link) w.links link found).0

        behind : LinkAgrees (with_branches came.1.events (with_link link (with_node_at w (producer_node link) (up_at wanted link node).0, (up_at wanted link node).1)).0) (after_group r (asked (link_number link)) came.1.events (Answer.Number n)) later.0 link' [] []
        behind = later.1.links link' (found_is_link (link_number link) (row_put link_number (link_number link) link' w.links) link' (put_is_found (link_number link) w.links link link' found refl)).0

        by : (b : Bool) → list_any (is_grant_of (link_number link)) came.1.events ≡ b → LinesFit r came.1.events
        by false g = calm_fit (link_number link) r came.1.events calm (inl g)
        by true g =
            let o = grants_open (link_number link) r r.conn_at came.1.events lawful calm g (record { producer = link.server.desk.node; node = link.consumer.dialed.node; vb = link.consumer.dialed.vb }) before.dial.dialed in
            let said = none_said _ _ _ _ _ _ _ _ _ _ _ behind.talk.stands o.0 o.1 o.2 (news link.server.streams link'.server.streams c.streams g) in
            calm_fit (link_number link) r came.1.events calm (inr (sym (ap (λ t. t (link_number link)) (lines_stated (link_number link) r came.1.events calm)) ∙ said))

  pub ups_fit : (came_up : (link : PlainLink) (node : PlainNode) (found : row_at link_number (link_number link) w.links ≡ Some link) → w.nodes (producer_node link) ≡ Some node
      → (let x = peer_given (take (moved_len wanted link.up) link.up) (peer_of link) node in UpCame x.1.events wanted (moved_len wanted link.up) link (with_up link (moved_len wanted link.up) x.1)))
      → (l : ℕ) → Fits l (on_link w l producer_node (up_at wanted))
  ups_fit came_up l = by (row_at link_number l w.links) refl
    where
      at : (link : PlainLink) → row_at link_number (link_number link) w.links ≡ Some link → (o : Option PlainNode) → w.nodes (producer_node link) ≡ o
          → Fits (link_number link) (with_link link (node_outcome w (producer_node link) (Some link, refusal Cause.UnknownNode) o (up_at wanted link)))
      at link found None e = λ t lawful later. tt
      at link found (Some node) e = up_fits link node found (came_up link node found e)

      by : (o : Option PlainLink) → row_at link_number l w.links ≡ o → Fits l (link_outcome w l producer_node (up_at wanted) o)
      by None e = λ t lawful later. tt
      by (Some link) e = let same = (found_is_link l w.links link e).1 in
          subst (λ k. Fits k (link_outcome w k producer_node (up_at wanted) (Some link))) same (at link (ap (λ k. row_at link_number k w.links) same ∙ e) (w.nodes (producer_node link)) refl)
