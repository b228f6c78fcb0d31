-- the line `pump`: what is known of its link behind it, and that a state it waits for was not answered
use Rattle.std.specs.Prelude.{◌≡◌, ◌⊎◌, ◌∷◌, ◌++◌}
use Rattle.std.specs.List.{All, list_any}
use Rattle.takeover.specs.declared.give_up.GiveStep.TheVariants.{AwaitActive, AwaitPending, SendAll, SendRest, Yield}
use Rattle.transcript_law.proofs.Words.{ℕ, Bool, true, false, List, [], refl, ap, sym, ◌∙◌, subst, inl, inr, ⊎_elim, Some, All-head, Answer, Chronicle, LinkVerb, Outcome, PlainLink, PlainStream, PlainWorld, Verb, Why, StreamName, after_lines, link_number, producer_node, row_at}
use Rattle.node_world.specs.World.{with_branches}
use Rattle.transcript_law.proofs.invariant.{Agreement.{Agrees, Handing, IsLink}, Carried.{numbers}, LinkRows.{found_is_link, row_found}, Noted.{AllKept}}
use Rattle.transcript_law.proofs.links.{PumpWorlds.{HasStep, kept_as, StatesOn, StepsOn, step_is}, Yields.{stream_left}}
use Rattle.transcript_law.proofs.noted.{Known.{AllKnown, LinkKnown, ObeyedIf, ObeyedOn}, Moments.{Moment, Stands, gives_at, last_at, stands_of, step_of}, Others.{moved_known}, Pumping.{PumpCame, PumpStreams, PutsNone, PutsState, link_pump}}
use Rattle.transcript_law.proofs.verbs.PumpTellings.{Goes, Holds, Moved, PumpTold}
use Rattle.transcript_law.specs.{Chronicles.{after_group}, LinesTold.{Answered, Put, TakeoverKnown}, TakeoverAnswers.{StateAwaited}, TakeoverNotes.{is_state_of}}
use Rattle.transcript_law.proofs.Words.{Frame, PlainConsumer, append_assoc, frames_in}
use Rattle.transcript_law.proofs.{balance.Levels.{Has}, balance.Measures.{frames_back, frames_front, spelled}, invariant.Agreement.{end_reason}, links.PumpEnds.{end_as}, noted.Ending.{AllEnding, coming_down, end_there, has_end, obeyed_turned, turned_same}, noted.Groups.{read_with}, verbs.PumpOthers.{WireSame}}

-- ---- its stream

put_state : (s s' : PlainStream) → StatesOn s s' → PutsState s s'
put_state s s' (inl (e, f)) = inl (ap step_of e, f)
put_state s s' (inr (e, f)) = inr (inr (ap step_of e), f)

puts_as : (puts : Bool) (s s' : PlainStream) → StepsOn puts s s' → (s'.ended ≡ s.ended) × (((puts ≡ false) × PutsNone s s') ⊎ ((puts ≡ true) × PutsState s s'))
puts_as puts s s' (ended, inl (none, same)) = (ended, inl (none, inl same))
puts_as puts s s' (ended, inr (some, states)) = (ended, inr (some, put_state s s' states))

-- behind what was given up
puts_left : (puts : Bool) (s s' : PlainStream) → s.gives ≡ Some (record { step = Yield }) → StepsOn puts (stream_left s) s' → (s'.ended ≡ s.ended) × (((puts ≡ false) × PutsNone s s') ⊎ ((puts ≡ true) × PutsState s s'))
puts_left puts s s' yields (ended, inl (none, same)) = (ended, inl (none, inr same))
puts_left puts s s' yields (ended, inr (some, inl (e, f))) = let z : Some SendRest ≡ Some SendAll = ap step_is e in cc
puts_left puts s s' yields (ended, inr (some, inr (e, f))) = (ended, inr (some, inr (inl (ap step_of yields), f)))

one_step : (puts : Bool) (s s' : PlainStream) → HasStep puts s' (s ∷ []) → StepsOn puts s s'
one_step puts s s' (inl here) = here
one_step puts s s' (inr there) = absurd there

no_now : (puts : Bool) (now : List PlainStream) → All (λ s. HasStep puts s []) now → now ≡ []
no_now puts [] all = refl
no_now puts (s ∷ ss) all = absurd (All-head (λ s. HasStep puts s []) s ss all)

-- as many as one
goes_streams : (puts : Bool) (first now : List PlainStream) → ((s : PlainStream) (more : List PlainStream) → first ≡ s ∷ more → first ≡ s ∷ []) → Goes puts first now → PumpStreams puts first now
goes_streams puts [] now alone (inl all) = no_now puts now all
goes_streams puts [] now alone (inr (t, e, yields, rest)) = cc
goes_streams puts (s ∷ ss) [] alone goes = tt
goes_streams puts (s ∷ ss) (s' ∷ ss') alone (inl all) =
    puts_as puts s s' (one_step puts s s' (subst (HasStep puts s') (alone s ss refl) (All-head (λ y. HasStep puts y (s ∷ ss)) s' ss' all)))
goes_streams puts (s ∷ ss) (s' ∷ ss') alone (inr (t, e, yields, all)) =
    let same : t ≡ s = cc in
    subst (λ y. (s'.ended ≡ y.ended) × (((puts ≡ false) × PutsNone y s') ⊎ ((puts ≡ true) × PutsState y s'))) same
    (puts_left puts t s' yields (one_step puts (stream_left t) s' (All-head (λ y. HasStep puts y (stream_left t ∷ [])) s' ss' all)))

-- ---- what was waited for

-- a stream that waits for the answer to its state is at a moment at which that is not known to have come
none_answered : (t : TakeoverKnown) (link : PlainLink) (takeover : Bool) (m : Moment) → (gives_at takeover m ≡ Some (record { step = AwaitPending })) ⊎ (gives_at takeover m ≡ Some (record { step = AwaitActive })) → ObeyedIf t link (gives_at takeover m) (last_at m) → t.obeyed ≡ Answered → ⊥
none_answered t link true (Moment.Follows Handing.Unstated) (inl e) known answered = let z : Some SendAll ≡ Some AwaitPending = ap step_is e in cc
none_answered t link true (Moment.Follows Handing.Unstated) (inr e) known answered = let z : Some SendAll ≡ Some AwaitActive = ap step_is e in cc
none_answered t link false (Moment.Follows Handing.Unstated) (inl e) known answered = cc
none_answered t link false (Moment.Follows Handing.Unstated) (inr e) known answered = cc
none_answered t link takeover (Moment.Follows Handing.Offered) e known answered = let z : Put ≡ Answered = sym known ∙ answered in cc
none_answered t link takeover (Moment.Follows Handing.Pended) e known answered = known.0 answered
none_answered t link takeover (Moment.Follows Handing.Due) (inl e) known answered = let z : Some Yield ≡ Some AwaitPending = ap step_is e in cc
none_answered t link takeover (Moment.Follows Handing.Due) (inr e) known answered = let z : Some Yield ≡ Some AwaitActive = ap step_is e in cc
none_answered t link takeover (Moment.Follows Handing.Ceded) (inl e) known answered = let z : Some SendRest ≡ Some AwaitPending = ap step_is e in cc
none_answered t link takeover (Moment.Follows Handing.Ceded) (inr e) known answered = let z : Some SendRest ≡ Some AwaitActive = ap step_is e in cc
none_answered t link takeover (Moment.Follows Handing.Stated) e known answered = let z : Put ≡ Answered = sym known ∙ answered in cc
none_answered t link takeover (Moment.Owns false) e known answered = known.0.0 answered
none_answered t link takeover (Moment.Owns true) (inl e) known answered = let z = ap step_is e in cc
none_answered t link takeover (Moment.Owns true) (inr e) known answered = let z = ap step_is e in cc

module _ (w : PlainWorld) (r : Chronicle) (l frames : ℕ) (a : Agrees w r) (all : AllKnown w r) (o : Outcome) (told : PumpTold w r l frames o) where
  module _ (link : PlainLink) (found : row_at link_number l w.links ≡ Some link) where
    abbrev is : IsLink link w.links
    is = (found_is_link l w.links link found).0

    abbrev number : link_number link ≡ l
    number = (found_is_link l w.links link found).1

    alone : (s : PlainStream) (more : List PlainStream) → link.server.streams ≡ s ∷ more → link.server.streams ≡ s ∷ []
    alone s more e = (stands_of w r a.0 link (a.1.links link is) s more e).alone

    -- what became of it
    pub pump_link : (link' : PlainLink) × (row_at link_number l o.0.links ≡ Some link') × PumpCame o.1.events link link'
    pump_link = let (link', found', m) = told.came link found in (
      link',
      found',
      record {
        consumer = m.consumer;
        heard = m.heard;
        up = m.up;
        streams = subst (λ k. PumpStreams (list_any (is_state_of k) o.1.events) link.server.streams link'.server.streams) (sym number)
            (goes_streams (list_any (is_state_of l) o.1.events) link.server.streams link'.server.streams alone m.streams);
      },
    )

    -- a state that it waits for
    unanswered : Holds link.server.streams → (r.takeover_of l).obeyed ≡ Answered → ⊥
    unanswered held = by link.server.streams refl held
      where
        by : (ss : List PlainStream) → link.server.streams ≡ ss → Holds ss → (r.takeover_of l).obeyed ≡ Answered → ⊥
        by [] e none = absurd none
        by (s ∷ ss) e (inl (going, waits)) =
            let y : Stands link s = stands_of w r a.0 link (a.1.links link is) s ss e in
            let known : ObeyedOn (r.takeover_of l) link s = subst (λ k. ObeyedOn (r.takeover_of k) link s) number (All-head (ObeyedOn (r.takeover_of (link_number link)) link) s ss (subst (All (ObeyedOn (r.takeover_of (link_number link)) link)) e (all link is).obeyed)) in
            none_answered (r.takeover_of l) link link.consumer.dialed.takeover y.moment (⊎_elim (λ q. inl (sym y.gives ∙ q)) (λ q. inr (sym y.gives ∙ q)) waits)
            (subst (ObeyedIf (r.takeover_of l) link (gives_at link.consumer.dialed.takeover y.moment)) y.last (subst (λ g. ObeyedIf (r.takeover_of l) link g link.consumer.taking.last) y.gives known))
        by (s ∷ ss) e (inr there) = let one : s ∷ ss ≡ s ∷ [] = sym e ∙ alone s ss e in let none : ss ≡ [] = cc in absurd (subst Holds none there)

  -- a pump that waits for a state does so by the lines
  pub state_awaited : (n : ℕ) → o.1.answer ≡ Answer.Pulled n Why.WaitState → StateAwaited r (Verb.AtLink l (LinkVerb.Pump frames)) o.1.events
  state_awaited n q =
      let (dial, g, awaits) = (told.stops n Why.WaitState q).state refl in
      record { dial = dial; stream = g; awaits = awaits; unanswered = ⊎_elim (λ s. inl s) (λ x. inr (unanswered x.0 x.1 x.2)) (told.waits n q) }

  -- ---- all links behind it

  abbrev asked : Verb
  asked = Verb.AtLink l (LinkVerb.Pump frames)

  abbrev world : PlainWorld
  world = with_branches o.1.events o.0

  abbrev after : Chronicle
  after = after_group r asked o.1.events o.1.answer

  -- the link itself
  link_known : (y : PlainLink) → row_at link_number l w.links ≡ Some y → Agrees world after → (link' : PlainLink) → row_at link_number l o.0.links ≡ Some link' → PumpCame o.1.events y link' → LinkKnown (after.takeover_of (link_number link')) link'
  link_known y fy agrees link' found' c =
      let there : IsLink y w.links × (link_number y ≡ l) = found_is_link l w.links y fy in
      subst (λ k. LinkKnown ((after_group r (Verb.AtLink k (LinkVerb.Pump frames)) o.1.events o.1.answer).takeover_of (link_number link')) link') there.1
      (link_pump w world r a.0 o.1.events frames o.1.answer y link' c (a.1.links y there.0) (subst (λ k. Agrees world (after_group r (Verb.AtLink k (LinkVerb.Pump frames)) o.1.events o.1.answer)) (sym there.1) agrees)
      (found_is_link l o.0.links link' found').0 (told.grants (link_number y)) (all y there.0))

  own : (x : PlainLink) → IsLink x o.0.links → link_number x ≡ l → Agrees world after → LinkKnown (after.takeover_of (link_number x)) x
  own x i e agrees =
      let (y, fy) = told.had x i e in let (link', found', c) = pump_link y fy in
      let found_x : row_at link_number l o.0.links ≡ Some x = subst (λ k. row_at link_number k o.0.links ≡ Some x) e (row_found o.0.links x told.goes.1.1.differ i) in
      let both : Some link' ≡ Some x = sym found' ∙ found_x in let one : link' ≡ x = cc in
      subst (λ k. LinkKnown (after.takeover_of (link_number k)) k) one (link_known y fy agrees link' found' c)

  pub pump_knows : Agrees world after → AllKnown world after
  pump_knows agrees = moved_known w world r l (LinkVerb.Pump frames) o.1.events o.1.answer agrees (λ k ne. told.grants k) (λ x i. ⊎_elim (λ e. inl (own x i e agrees)) (λ ne. let (y, j, z, same) = told.others x i ne in inr (ne, y, j, z)) (numbers (link_number x) l)) all

  -- and who writes for one that sends what is left
  pub pump_keeps : AllKept world after
  pump_keeps x i = kept_as (after_lines r o.1.events) after (producer_node x) x.consumer.dialed.vb ((after_lines r o.1.events).stream_of (StreamName.Link (link_number x)) x.consumer.dialed.vb) (after.stream_of (StreamName.Link (link_number x)) x.consumer.dialed.vb) x.server.streams
      (λ u y. record { made_or_took = y.made_or_took; on_branch = y.on_branch }) refl (told.kept x i)

  -- ---- and what ends on their way say

  has_either : (f : Frame) (xs ys : List Frame) → Has f (xs ++ ys) → Has f xs ⊎ Has f ys
  has_either f [] ys h = inr h
  has_either f (x ∷ xs) ys (inl e) = inl (inl e)
  has_either f (x ∷ xs) ys (inr h) = ⊎_elim (λ k. inl (inr k)) (λ k. inr k) (has_either f xs ys h)

  -- the frames on their way, and those that were put
  came_down : (y x : PlainLink) (i : IsLink y w.links) (m : Moved r l o.1.events y x) → coming_down x ≡ coming_down y ++ m.ends.put
  came_down y x i m =
      let downs = (a.1.links y i).talk.downs in let said : List Frame = (a.1.links y i).talk.said in
      (λ k. frames_in (m.down_heard k ++ m.down k)) ∙ ap frames_in (sym (append_assoc y.down_heard y.down m.out))
      ∙ frames_front (y.down_heard ++ y.down) m.out said downs.readable (downs.bytes ∙ ap spelled (sym downs.joined))
      ∙ ap (λ fs. coming_down y ++ fs) (ap frames_in m.ends.wrote ∙ frames_back m.ends.put m.ends.readable)

  ends_same : (x : PlainLink) → IsLink x o.0.links → Agrees world after → has_end (coming_down x) ≡ true → (after.takeover_of (link_number x)).turned ≡ (r.takeover_of (link_number x)).turned
  ends_same x i agrees some = turned_same world r asked o.1.events o.1.answer agrees x i some (told.grants (link_number x)) (obeyed_turned ((read_with r asked o.1.events o.1.answer).dial_of (link_number x)) asked o.1.events o.1.answer (link_number x) (r.takeover_of (link_number x)) refl)

  -- by what was before it
  abbrev Before : PlainLink → Type 0
  Before x = x.consumer.dialed.takeover ≡ true → (b : Bool) (o v : ℕ) → Has (end_as b o v) (coming_down x) → (r.takeover_of (link_number x)).turned ≡ b

  own_ends : AllEnding w r → (y x : PlainLink) → IsLink y w.links → Moved r l o.1.events y x → Before x
  own_ends ending y x i m takes b o v has =
      let there : Has (end_as b o v) (coming_down y ++ m.ends.put) = subst (Has (end_as b o v)) (came_down y x i m) has in
      let dials : y.consumer.dialed.takeover ≡ true = ap (λ (c : PlainConsumer). c.dialed.takeover) (sym m.consumer) ∙ takes in
      ap (λ (c : PlainConsumer). (r.takeover_of c.dialed.link).turned) m.consumer
      ∙ ⊎_elim (λ k. ending y i dials b o v k) (λ k. m.ends.ends b o v k dials) (has_either (end_as b o v) (coming_down y) m.ends.put there)

  other_ends : AllEnding w r → (y x : PlainLink) → IsLink y w.links → WireSame y x → Before x
  other_ends ending y x i m takes b o v has =
      let there : Has (end_as b o v) (coming_down y) = subst (Has (end_as b o v)) (λ k. frames_in (m.down_heard k ++ m.down k)) has in
      ap (λ (c : PlainConsumer). (r.takeover_of c.dialed.link).turned) m.consumer ∙ ending y i (ap (λ (c : PlainConsumer). c.dialed.takeover) (sym m.consumer) ∙ takes) b o v there

  own_before : AllEnding w r → (x : PlainLink) → IsLink x o.0.links → link_number x ≡ l → Before x
  own_before ending x i e =
      let (y, fy) = told.had x i e in let (link', found', m) = told.came y fy in
      let found_x : row_at link_number l o.0.links ≡ Some x = subst (λ k. row_at link_number k o.0.links ≡ Some x) e (row_found o.0.links x told.goes.1.1.differ i) in
      let both : Some link' ≡ Some x = sym found' ∙ found_x in let one : link' ≡ x = cc in
      subst Before one (own_ends ending y link' (found_is_link l w.links y fy).0 m)

  pub pump_ends : AllEnding w r → Agrees world after → AllEnding world after
  pump_ends ending agrees x i takes b o v has =
      ends_same x i agrees (end_there (end_reason b) o v (coming_down x) has)
      ∙ ⊎_elim (λ e. own_before ending x i e) (λ ne. let (y, j, z, same) = told.others x i ne in other_ends ending y x j same) (numbers (link_number x) l) takes b o v has
