-- a line that has a producer put frames, behind what it gives up
use Rattle.std.specs.Prelude.{◌≡◌, ◌≤◌, ◌⊎◌, ◌&&◌, ◌==◌, ◌∷◌, ◌++◌, if◌then◌else◌, nat_lt}
use Rattle.transcript_law.proofs.Words.{ℕ, Bool, List, [], true, false, refl, ap, sym, ◌∙◌, subst, inl, inr, Some, StaysSound, TakesSnapshots, row_at, Stream, Plain}
use Rattle.transcript_law.proofs.Words.{PlainLink, link_number, producer_node, pump_at, PlainNode, Event, LawfulFrom, PlainStream}
use Rattle.transcript_law.proofs.Words.{PlainWorld, on_link, Chronicle, after_lines, Answer, Option, None, Outcome, Why, All, All-cons, All-head, All-nil, is_active, stream_at}
use Rattle.{transcript_law.specs.Undone.{AllPut}}
use Rattle.transcript_law.proofs.invariant.Agreement.{Agrees, EndsStand, GoesOn, Handing, LinkAgrees, consumer_seat, gives_in, kept_stream, producer_seat, spoken, stated_in, vb_of, wants_of}
use Rattle.transcript_law.proofs.invariant.{Feeding.{Fine}, LinkRows.{found_is_link}, Noted.{CameIf, KeptFor, NotedStream}, Tables.{at_here}, Ranged.{IsRanged}}
use Rattle.transcript_law.proofs.links.{PumpWorlds.{AllKnown, LinkKnown, owned_none, Stopped}}
use Rattle.transcript_law.proofs.{lines.Lines.{AreQuiet, after_more, lawful_more}, lines.ClientLines.{AreOfClients, clients_quiet, kept_beside}}
use Rattle.{node_core.proofs.GivingLaws.{due, shut, undue}, node_core.specs.GivingLaws.{IsDue}, node_world.specs.Pumps.{gives_at}, node_world.specs.GivesFirst.{GivesNothing}, node_world.specs.Pairing.{Each}, node_world.specs.World.{pump_outcome, pump_step}}
use Rattle.takeover.specs.{GivingUp.{new_give_up}, Laws.{at as step_number}, declared.give_up.GiveStep.TheVariants.{AwaitActive, AwaitPending, End, SendRest, Yield}, declared.give_up.GiveStep.{GiveStep}, declared.give_up.GiveUp.{GiveUp}}
use Rattle.mcbp_frame.specs.declared.frame.TheConstants.{HEADER_LEN}
use Rattle.{dcp_producer.specs.Giving.{is_due}, transcript_law.specs.{Heirs.{IsOffered, IsWriter, MayBeAnswered, TakesOn}, LawfulAnswers.{AllDurable}, LinesTold.{Dial, TakeoverKnown}, TakeoverLines.{TakeoverFrom}, Tellings.{are_all, is_of_clients}}}
use Rattle.transcript_law.proofs.{invariant.Agreement.{FeederIn, IsLink, Streaming, heir_step}, invariant.Noted.{NotedLink}, lines.Pulling.{lets_through}, links.StateTurns.{handed_is}, links.Yields.{stream_left}}
use Rattle.transcript_law.proofs.Words.{Granted, Role, StreamName, and_parts, consumer_node, after_line, after_role, arith, eqb-true, nat_tests, stream_branch}
use Rattle.transcript_law.proofs.verbs.{Giving.{IsDueAt, found_left, gives_alone, gives_posted, active_before, left_agreed, left_calm, link_left, none_coming, none_marked, pending_before, posted, posted_fine, posted_lines, posted_told, role_of_left, stream_left_told, told_lawful, writer_before, writer_left}, NodeLines.{as_told}, Settling.{Steady}}
use Rattle.transcript_law.proofs.verbs.PumpOthers.{YieldBeside, yields_beside}
use Rattle.transcript_law.proofs.verbs.PumpFrames.{frames_on, made, no_pulled}
use Rattle.std.proofs.Common.{length-drop}
use Rattle.transcript_law.proofs.Words.{Change, drop, length, map, item_of_change}
use Rattle.transcript_law.proofs.invariant.Agreement.{flight_items, has_pended}

-- lines of clients say nothing of a takeover
clients_hands : (r : Chronicle) (lines : List Event) → AreOfClients lines → TakeoverFrom r lines
clients_hands r [] c = tt
clients_hands r (Event.Changed n v uuid change ∷ lines) c = (tt, clients_hands (after_line r (Event.Changed n v uuid change)) lines c.1)
clients_hands r (Event.Reply n k bytes ∷ lines) c = (tt, clients_hands (after_line r (Event.Reply n k bytes)) lines c.1)
clients_hands r (Event.Closed n k ∷ lines) c = (tt, clients_hands (after_line r (Event.Closed n k)) lines c.1)
clients_hands r (Event.Asked (StreamName.Client m k) n v ask high log said ∷ lines) c = (tt, clients_hands (after_line r (Event.Asked (StreamName.Client m k) n v ask high log said)) lines c.1)
clients_hands r (other ∷ lines) c = absurd c.0

-- lines behind others
pub hands_behind : (r : Chronicle) (lines more : List Event) → TakeoverFrom r lines → TakeoverFrom (after_lines r lines) more → TakeoverFrom r (lines ++ more)
hands_behind r [] more first last = last
hands_behind r (line ∷ lines) more first last = (first.0, hands_behind (after_line r line) lines more first.1 last)

-- a stream that sends the rest is not at its end
is_end : GiveStep → Bool
is_end End = true
is_end other = false

ends : Option GiveUp → Bool
ends None = false
ends (Some g) = is_end g.step

rest_no_end : ◌≡◌ {A = Option GiveUp} (Some (record { step = SendRest })) (Some (record { step = End })) → ⊥
unfolding ends is_end
rest_no_end e = let z : false ≡ true = ap ends e in cc

-- the one stream of a link, which was to be given up, sends the rest
pub record YieldLink (link x : PlainLink) : Type 0 where
  pub stream : PlainStream
  pub one : link.server.streams ≡ stream ∷ []
  pub yields : stream.gives ≡ Some (record { step = Yield })
  pub left : x.server.streams ≡ stream_left stream ∷ []
  pub consumer : x.consumer ≡ link.consumer
  pub heard : x.up_heard ≡ link.up_heard
  pub up : x.up ≡ link.up
  pub down_heard : x.down_heard ≡ link.down_heard
  pub down : x.down ≡ link.down

-- no stream of it is to be given up, if frames may be put
abbrev pub NotYields : PlainStream → Type 0
NotYields stream = stream.ended ≡ false → stream.gives ≡ Some (record { step = Yield }) → ⊥

abbrev pub NoneYields : ℕ → PlainLink → Type 0
NoneYields frames link = nat_lt 0 frames ≡ true → lets_through link.server ≡ true → Each NotYields link.server.streams

-- nothing is left where all was taken
none_rests : {A B : Type 0} (f : A → B) (told : List B) (xs : List A) → [] ≡ told ++ map f xs → xs ≡ []
none_rests f [] [] e = refl
none_rests f [] (x ∷ xs) e = cc
none_rests f (y ∷ told) xs e = cc

none_left : (n : ℕ) (xs : List Change) → drop n xs ≡ [] → length xs ≤ n
none_left n xs e = let left = length-drop n xs in let none : length (drop n xs) ≡ 0 = ap length e in omega (arith, left, none)

-- what a whole pump comes to
pub record PumpsOut (r : Chronicle) (l : ℕ) (o : Outcome) : Type 0 where
  pub goes : GoesOn r as_told o
  pub hands : TakeoverFrom r o.1.events
  pub stops : (n : ℕ) (why : Why) → o.1.answer ≡ Answer.Pulled n why → Stopped (after_lines r o.1.events) l why

-- a vBucket was given up, as lines tell it: what they told before, and what they tell behind it
pub record GaveFirst (frames l : ℕ) (r : Chronicle) (o : Outcome) : Type 0 where
  pub dial : Dial
  pub told : List Event
  pub together : o.1.events ≡ Event.Role dial.producer dial.vb Role.Dead ∷ told
  pub stream : Granted
  pub takes_on : TakesOn r l dial stream
  pub writer : IsWriter r dial.producer dial.vb (stream_branch stream)
  pub offered : IsOffered r l dial
  pub answered : MayBeAnswered r l dial stream Role.Pending
  pub clients : are_all (is_of_clients dial.producer) told ≡ true
  pub takes_then : TakesOn (after_lines r o.1.events) l dial stream
  pub dead : (after_lines r o.1.events).role_at dial.producer dial.vb ≡ Some (Some Role.Dead)
  pub stated : (after_lines r o.1.events).stated_of l ≡ Some Role.Pending
  pub free : (x : PlainLink) → row_at link_number l o.0.links ≡ Some x → lets_through x.server ≡ true
  pub some : nat_lt 0 frames ≡ true

-- what was given up is told lawfully, and all agrees behind it, before frames are put
pub record Gave (w : PlainWorld) (frames l : ℕ) (r : Chronicle) (link : PlainLink) (o : Outcome) : Type 0 where
  pub first : (o.1.events ≡ []) ⊎ GaveFirst frames l r o
  pub lawful : LawfulFrom r o.1.events
  pub quiet : AreQuiet o.1.events
  pub agrees : Agrees o.0 (after_lines r o.1.events)
  pub calm : AllDurable (after_lines r o.1.events).made
  pub hands : TakeoverFrom r o.1.events
  pub known : (x : PlainLink) → row_at link_number l o.0.links ≡ Some x → LinkKnown (after_lines r o.1.events) (after_lines r o.1.events) x
  pub left : (x : PlainLink) × (row_at link_number l o.0.links ≡ Some x) × (((x ≡ link) × NoneYields frames link) ⊎ YieldLink link x)
  pub beside : (x : PlainLink) → IsLink x o.0.links → (link_number x ≡ l → ⊥) → (y : PlainLink) × IsLink y w.links × (((x ≡ y) × (o.1.events ≡ [])) ⊎ YieldBeside o.1.events y x)
  pub fed : Fine w → Fine o.0

module _ (takes : TakesSnapshots) (stays : StaysSound) where
  -- ---- what a pump gives up before

  -- of the streams of a link one is due where its step is the fourth
  due_handing : (b : Bool) (h : Handing) (g : GiveUp) → gives_in b h ≡ Some g → step_number g ≡ 4 → h ≡ Handing.Due
  due_handing b Handing.Due g e q = refl
  due_handing true Handing.Unstated g e q = let same : new_give_up ≡ g = cc in let z : ◌≡◌ {A = ℕ} 1 4 = ap step_number same ∙ q in absurd (omega (arith, z))
  due_handing false Handing.Unstated g e q = cc
  due_handing b Handing.Offered g e q = let same : ◌≡◌ {A = GiveUp} (record { step = AwaitPending }) g = cc in let z : ◌≡◌ {A = ℕ} 3 4 = ap step_number same ∙ q in absurd (omega (arith, z))
  due_handing b Handing.Pended g e q = let same : ◌≡◌ {A = GiveUp} (record { step = AwaitPending }) g = cc in let z : ◌≡◌ {A = ℕ} 3 4 = ap step_number same ∙ q in absurd (omega (arith, z))
  due_handing b Handing.Ceded g e q = let same : ◌≡◌ {A = GiveUp} (record { step = SendRest }) g = cc in let z : ◌≡◌ {A = ℕ} 5 4 = ap step_number same ∙ q in absurd (omega (arith, z))
  due_handing b Handing.Stated g e q = let same : ◌≡◌ {A = GiveUp} (record { step = AwaitActive }) g = cc in let z : ◌≡◌ {A = ℕ} 7 4 = ap step_number same ∙ q in absurd (omega (arith, z))

  heir_undue : (b : Bool) (g : GiveUp) → Some (heir_step b) ≡ Some g → step_number g ≡ 4 → ⊥
  heir_undue true g e q = let same : ◌≡◌ {A = GiveUp} (record { step = End }) g = cc in let z : ◌≡◌ {A = ℕ} 8 4 = ap step_number same ∙ q in omega (arith, z)
  heir_undue false g e q = let same : ◌≡◌ {A = GiveUp} (record { step = AwaitActive }) g = cc in let z : ◌≡◌ {A = ℕ} 7 4 = ap step_number same ∙ q in omega (arith, z)

  -- a stream's number is the one under which it is found
  number_is : (id : ℕ) (streams : List Stream) (s : Stream) → stream_at id streams ≡ Some s → s.id ≡ id
  number_is id [] s e = cc
  number_is id (x ∷ xs) s e = by (x.id == id) refl (number_is id xs s) e
    where
      by : (b : Bool) → (x.id == id) ≡ b → (stream_at id xs ≡ Some s → s.id ≡ id) → (if b then Some x else stream_at id xs) ≡ Some s → s.id ≡ id
      by true t rest q = let same : x ≡ s = cc in ap (λ (y : Stream). y.id) (sym same) ∙ eqb-true x.id id t
      by false t rest q = rest q

  module _ (steady : Steady) (w : PlainWorld) (r : Chronicle) (l frames : ℕ) (a : Agrees w r) (ranged : IsRanged w) (calm : AllDurable r.made) (all : AllKnown w r) where
    module _ (link : PlainLink) (found : row_at link_number l w.links ≡ Some link) where
      abbrev is_link : IsLink link w.links
      is_link = (found_is_link l w.links link found).0

      known : LinkKnown r r link
      known = all link is_link

      abbrev la : LinkAgrees w r a.0 link [] []
      la = a.1.links link is_link

      abbrev Goal : Type 0
      Goal = Gave w frames l r link (gives_at frames link w (w.nodes (producer_node link)))

      -- the producer's node is made
      abbrev node : PlainNode
      node = (made w r a link is_link).0

      there : w.nodes (producer_node link) ≡ Some node
      there = (made w r a link is_link).1

      -- the link that is found is this one
      one_link : (x : PlainLink) → row_at link_number l w.links ≡ Some x → link ≡ x
      one_link x e = let z : Some link ≡ Some x = sym found ∙ e in cc

      -- nothing is given up
      alone_goes : GivesNothing frames link → NoneYields frames link → Goal
      alone_goes none rests = subst (Gave w frames l r link) (sym (gives_alone w link node frames l found there none))
          (record { first = inl refl; lawful = tt; quiet = tt; agrees = a; calm = calm; hands = tt; known = λ x e. subst (LinkKnown r r) (one_link x e) known; left = (link, found, inl (refl, rests)); beside = λ x i ne. (x, i, inl (refl, refl)); fed = λ fine. fine })

      -- its one stream is not due
      undue_goes : (t : PlainStream) → link.server.streams ≡ t ∷ [] → (IsDue t → ⊥) → NotYields t → Goal
      undue_goes t one other rests = alone_goes (inr (inr (subst (Each (λ stream. IsDue stream → ⊥)) (sym one) (other, tt)))) (λ p q. subst (Each NotYields) (sym one) (rests, tt))

      none_goes : link.server.streams ≡ [] → Goal
      none_goes none = alone_goes (inr (inr (subst (Each (λ stream. IsDue stream → ⊥)) (sym none) tt))) (λ p q. subst (Each NotYields) (sym none) tt)

      -- a vBucket is given up, and then frames are put
      given_goes : (t : PlainStream) (p : Plain) (o : Stream) (d : IsDueAt w link t p o frames) (s : Streaming (wants_of la.follower) (a.0.nodes (consumer_seat link)) (vb_of w (producer_node link) link.consumer.dialed.vb) (a.0.nodes (producer_seat link)) (r.stream_of (StreamName.Link (link_number link)) link.consumer.dialed.vb) link.server link.consumer la.talk.asked (spoken la.talk.said))
          → r.stated_of (link_number link) ≡ stated_in s.handing → s.stream ≡ t → s.handing ≡ Handing.Due → link.consumer.dialed.takeover ≡ true → s.granted_is.over ≡ false → Goal
      given_goes t p o d s stated mine handed takeover left =
          let n : ℕ = producer_node link in let vb : ℕ = link.consumer.dialed.vb in
          let link' : PlainLink = link_left stays steady w r l link node found there a t p o frames d in
          let posts : PlainNode × List Event = posted stays steady w r l link node found there a t p o frames d s stated mine handed takeover left ranged calm in
          let r1 : Chronicle = after_role r n vb Role.Dead in
          let told : List Event = Event.Role n vb Role.Dead ∷ posts.1 in
          let q : Chronicle = after_lines r told in
          let clients = posted_lines stays steady w r l link node found there a t p o frames d s stated mine handed takeover left ranged calm in
          let number : link_number link ≡ l = (found_is_link l w.links link found).1 in
          let takes : (k : Chronicle) → k.dial_of l ≡ Some (record { producer = n; node = consumer_node link; vb = vb }) → (k.takeover_of l).dialed ≡ true → k.stream_of (StreamName.Link l) vb ≡ Some s.granted_is → TakesOn k l (record { producer = n; node = consumer_node link; vb = vb }) s.granted_is = λ k e f h. record { dialed = e; takeover = f; stream = h; goes_on = left } in
          let x : NotedStream (r.takeover_of (link_number link)) t = All-head (NotedStream (r.takeover_of (link_number link))) t [] (subst (All (NotedStream (r.takeover_of (link_number link)))) d.one known.noted.each) in
          let known' : LinkKnown q q link' = record {
            noted = subst (λ (f : ℕ → TakeoverKnown). NotedLink (f (link_number link)) link') (sym (role_of_left stays steady w r l link node found there a t p o frames d s stated mine handed takeover left ranged calm)) (record {
              dialed = known.noted.dialed;
              each = All-cons (NotedStream (r.takeover_of (link_number link))) (stream_left t) [] (record { turned = x.turned; came = tt }) (All-nil (NotedStream (r.takeover_of (link_number link))));
            });
            owned = owned_none (q.takeover_of (link_number link')) (stream_left t) rest_no_end;
            kept = All-cons (KeptFor q n vb (q.stream_of (StreamName.Link (link_number link)) vb)) (stream_left t) [] (λ g e step alive.
                let both : Some s.granted_is ≡ Some g = sym s.told ∙ sym (stream_left_told stays steady w r l link node found there a t p o frames d s stated mine handed takeover left ranged calm) ∙ e in let it : s.granted_is ≡ g = cc in
                subst (λ (y : Granted). IsWriter q n vb (stream_branch y)) it (writer_left stays steady w r l link node found there a t p o frames d s stated mine handed takeover left ranged calm))
                (All-nil (KeptFor q n vb (q.stream_of (StreamName.Link (link_number link)) vb)));
          } in
          subst (Gave w frames l r link) (sym (gives_posted stays steady w r l link node found there a t p o frames d)) (record {
            first = inr (record {
              dial = record { producer = n; node = consumer_node link; vb = vb };
              told = posts.1;
              together = refl;
              stream = s.granted_is;
              takes_on = takes r (ap r.dial_of (sym number) ∙ la.dial.dialed) (ap (λ k. (r.takeover_of k).dialed) (sym number) ∙ known.noted.dialed ∙ takeover) (ap (λ k. r.stream_of (StreamName.Link k) vb) (sym number) ∙ s.told);
              writer = writer_before stays steady w r l link node found there a t p o frames d s stated mine handed takeover left;
              offered = record { steady = ap (λ k. (r.takeover_of k).turned) (sym number) ∙ x.turned ∙ d.going; stated = ap r.stated_of (sym number) ∙ stated ∙ ap stated_in handed; active = active_before stays steady w r l link node found there a t p o frames d s stated mine handed takeover left };
              answered = record {
                has = pending_before stays steady w r l link node found there a t p o frames d s stated mine handed takeover left;
                marks = none_marked stays steady w r l link node found there a t p o frames d s stated mine handed takeover left;
                items = none_coming stays steady w r l link node found there a t p o frames d s stated mine handed takeover left;
                moved = subst (λ k. HEADER_LEN ≤ (r.takeover_of k).moved) number (subst (CameIf (r.takeover_of (link_number link)).moved) d.yields x.came);
              };
              clients = posted_told stays steady w r l link node found there a t p o frames d s stated mine handed takeover left ranged calm;
              takes_then = takes q (kept_beside (λ (k : Chronicle). k.dial_of l) (λ k m v u y. refl) (λ k e. refl) r1 posts.1 clients ∙ ap r.dial_of (sym number) ∙ la.dial.dialed)
                  (kept_beside (λ (k : Chronicle). (k.takeover_of l).dialed) (λ k m v u y. refl) (λ k e. refl) r1 posts.1 clients ∙ ap (λ k. (r.takeover_of k).dialed) (sym number) ∙ known.noted.dialed ∙ takeover)
                  (kept_beside (λ (k : Chronicle). k.stream_of (StreamName.Link l) vb) (λ k m v u y. refl) (λ k e. refl) r1 posts.1 clients ∙ ap (λ k. r.stream_of (StreamName.Link k) vb) (sym number) ∙ s.told);
              dead = kept_beside (λ (k : Chronicle). k.role_at n vb) (λ k m v u y. refl) (λ k e. refl) r1 posts.1 clients ∙ at_here r.role_at n vb (Some (Some Role.Dead));
              stated = kept_beside (λ (k : Chronicle). k.stated_of l) (λ k m v u y. refl) (λ k e. refl) r1 posts.1 clients ∙ ap r.stated_of (sym number) ∙ stated ∙ ap stated_in handed;
              free = λ y e. let both : Some link' ≡ Some y = sym (found_left stays steady w r l link node found there a t p o frames d) ∙ e in let it : link' ≡ y = cc in
                  subst (λ (z : PlainLink). lets_through z.server ≡ true) it (and_parts (nat_lt 0 frames) (lets_through link.server) d.free).1;
              some = (and_parts (nat_lt 0 frames) (lets_through link.server) d.free).0;
            });
            lawful = told_lawful stays steady w r l link node found there a t p o frames d s stated mine handed takeover left ranged calm;
            quiet = (tt, clients_quiet posts.1 clients);
            agrees = left_agreed stays steady w r l link node found there a t p o frames d s stated mine handed takeover left ranged calm;
            calm = left_calm stays steady w r l link node found there a t p o frames d s stated mine handed takeover left ranged calm;
            hands = (tt, clients_hands r1 posts.1 clients);
            known = λ y e.
                let both : Some link' ≡ Some y = sym (found_left stays steady w r l link node found there a t p o frames d) ∙ e in let it : link' ≡ y = cc in subst (LinkKnown q q) it known';
            left = (link', found_left stays steady w r l link node found there a t p o frames d, inr (record { stream = t; one = d.one; yields = d.yields; left = refl; consumer = refl; heard = refl; up = refl; down_heard = refl; down = refl }));
            beside = λ x i ne.
                let (y, j, z) = yields_beside w r l link found a t p o frames d posts.1 (posted_told stays steady w r l link node found there a t p o frames d s stated mine handed takeover left ranged calm) clients link' number x i ne in (y, j, inr z);
            fed = posted_fine stays steady w r l link node found there a t p o frames d;
          })

      module _ (s : Streaming (wants_of la.follower) (a.0.nodes (consumer_seat link)) (vb_of w (producer_node link) link.consumer.dialed.vb) (a.0.nodes (producer_seat link)) (r.stream_of (StreamName.Link (link_number link)) link.consumer.dialed.vb) link.server link.consumer la.talk.asked (spoken la.talk.said))
          (stated : r.stated_of (link_number link) ≡ stated_in s.handing) (left : s.granted_is.over ≡ false) where
        one : link.server.streams ≡ s.stream ∷ []
        one = s.stream_is ∙ ap (λ b. kept_stream b s.stream) left

        -- all of its items are put then
        all_put : s.stream.gives ≡ Some (record { step = Yield }) → length s.stream.items ≤ s.stream.next
        all_put yields =
            let handed : s.handing ≡ Handing.Due = due_handing link.consumer.dialed.takeover s.handing (record { step = Yield }) (sym s.gives_is ∙ yields) refl in
            let taken = s.streams.all_taken (ap has_pended handed) in
            none_left s.stream.next s.stream.items (none_rests item_of_change (s.granted_is.coming) (drop s.stream.next s.stream.items)
            (ap (map item_of_change) (λ i. sym taken.1 i ++ flight_items (sym taken.0 i)) ∙ s.streams.coming.all))

        gives_goes : IsDue s.stream → is_due s.stream ≡ true → (nat_lt 0 frames && lets_through link.server) ≡ true → Goal
        gives_goes due is free =
            let (g, gives, fourth) = due.step in
            let handed : s.handing ≡ Handing.Due = due_handing link.consumer.dialed.takeover s.handing g (sym s.gives_is ∙ gives) fourth in
            let at = s.streams.opens due.alive in
            let active : is_active at.producer.role ≡ true = subst (λ h. FeederIn h at.producer.role (a.0.nodes (producer_seat link)) s.feed.given) handed at.active in
            let takeover : link.consumer.dialed.takeover ≡ true = handed_is link.consumer.dialed.takeover s.handing s.dialed_so (λ q. let z : Handing.Due ≡ Handing.Unstated = sym handed ∙ q in cc) in
            let o : Stream = at.opened.0 in
            let d : IsDueAt w link s.stream at.producer o frames = record {
              free = free;
              one = one;
              due = is;
              yields = s.gives_is ∙ ap (gives_in link.consumer.dialed.takeover) handed;
              going = due.alive;
              vb_is = s.streams.vb_is;
              there = at.producer_is;
              active = active;
              opened = at.opened.1;
              numbered = number_is s.stream.id at.producer.streams o at.opened.1;
            } in
            given_goes s.stream at.producer o d s stated refl handed takeover left

        turn_goes : Goal
        turn_goes = by (nat_lt 0 frames) refl (lets_through link.server) refl (is_due s.stream) refl
          where
            by : (x : Bool) → nat_lt 0 frames ≡ x → (y : Bool) → lets_through link.server ≡ y → (z : Bool) → is_due s.stream ≡ z → Goal
            by false e y f z g = alone_goes (inl (grind (arith, nat_tests, e))) (λ p q. let z : false ≡ true = sym e ∙ p in cc)
            by true e false f z g = alone_goes (inr (inl (shut link.server f))) (λ p q. let z : false ≡ true = sym f ∙ q in cc)
            by true e true f false g = undue_goes s.stream one (undue s.stream g) (λ going yields. undue s.stream g (record { step = (record { step = Yield }, yields, refl); behind = all_put yields; alive = going }))
            by true e true f true g = gives_goes (due s.stream g) g (λ i. e i && f i)

      stands_goes : EndsStand (wants_of la.follower) (a.0.nodes (consumer_seat link)) (vb_of w (producer_node link) link.consumer.dialed.vb) (a.0.nodes (producer_seat link)) (r.stream_of (StreamName.Link (link_number link)) link.consumer.dialed.vb) (r.stated_of (link_number link)) (r.point_of (link_number link)) link.server link.consumer la.talk.asked (spoken la.talk.said)
          → Goal
      stands_goes (EndsStand.IsAsking ask none t) = none_goes t.no_stream
      stands_goes (EndsStand.IsRefusedYet none t) = none_goes t.no_stream
      stands_goes (EndsStand.IsStreaming t stated) = by t.granted_is.over refl
        where
          by : (b : Bool) → t.granted_is.over ≡ b → Goal
          by true e = none_goes (t.stream_is ∙ ap (λ b. kept_stream b t.stream) e)
          by false e = turn_goes t stated e
      stands_goes (EndsStand.IsHeir t stated) = by t.granted_is.over refl
        where
          by : (b : Bool) → t.granted_is.over ≡ b → Goal
          by true e = none_goes (t.stream_is ∙ ap (λ b. kept_stream b t.stream) e)
          by false e = undue_goes t.stream (t.stream_is ∙ ap (λ b. kept_stream b t.stream) e) (λ due. heir_undue t.answered due.step.0 (sym t.gives_is ∙ due.step.1) due.step.2) (λ going yields. heir_undue t.answered (record { step = Yield }) (sym t.gives_is ∙ yields) refl)

    -- all that was given up
    pub gave : (link : PlainLink) → row_at link_number l w.links ≡ Some link → Gave w frames l r link (gives_at frames link w (w.nodes (producer_node link)))
    gave link found = stands_goes link found (a.1.links link (found_is_link l w.links link found).0).talk.stands

    -- a line `pump`
    pub pump_came : PumpsOut r l (pump_step w l frames)
    pump_came = by (row_at link_number l w.links) refl
      where
        by : (o : Option PlainLink) → row_at link_number l w.links ≡ o → PumpsOut r l (pump_step w l frames)
        by None e = subst (PumpsOut r l) (sym (ap (pump_outcome w l frames) e)) (record { goes = (tt, a); hands = tt; stops = λ n why q. absurd (no_pulled q) })
        by (Some link) e =
            let first : Outcome = gives_at frames link w (w.nodes (producer_node link)) in
            let g = gave link e in
            let put = frames_on takes stays first.0 (after_lines r first.1.events) l frames g.agrees g.known in
            let came : Outcome = on_link first.0 l producer_node (pump_at frames) in
            subst (PumpsOut r l) (sym (ap (pump_outcome w l frames) e)) (record {
              goes = (
                lawful_more r first.1.events came.1.events g.quiet g.lawful put.goes.0,
                subst (Agrees came.0) (sym (after_more r first.1.events came.1.events)) put.goes.1,
              );
              hands = hands_behind r first.1.events came.1.events g.hands put.hands;
              stops = λ k why q. subst (λ y. Stopped y l why) (sym (after_more r first.1.events came.1.events)) (put.stops k why q);
            })

  -- what a pump gives up, of any link
  pub gave_stands : (steady : Steady) (w : PlainWorld) (r : Chronicle) (l frames : ℕ) → Agrees w r → IsRanged w → AllDurable r.made → AllKnown w r → (link : PlainLink) → row_at link_number l w.links ≡ Some link
      → Gave w frames l r link (gives_at frames link w (w.nodes (producer_node link)))
  gave_stands steady w r l frames a ranged calm all link found = gave steady w r l frames a ranged calm all link found

  -- one that is idle left nothing to put
  pub pump_leaves : (steady : Steady) (w : PlainWorld) (r : Chronicle) (l frames n : ℕ) → Agrees w r → IsRanged w → AllDurable r.made → AllKnown w r → (let x = pump_step w l frames in x.1.answer ≡ Answer.Pulled n Why.Idle → AllPut (after_lines r x.1.events) l)
  pump_leaves steady w r l frames n a ranged calm all e = (((pump_came steady w r l frames a ranged calm all).stops n Why.Idle e).idle refl).0

  -- and none ends for a journal yet
  pub pump_reads : (steady : Steady) (w : PlainWorld) (r : Chronicle) (l frames n : ℕ) → Agrees w r → IsRanged w → AllDurable r.made → AllKnown w r → (pump_step w l frames).1.answer ≡ Answer.Pulled n Why.Disk → ⊥
  pump_reads steady w r l frames n a ranged calm all e = ((pump_came steady w r l frames a ranged calm all).stops n Why.Disk e).unread refl
