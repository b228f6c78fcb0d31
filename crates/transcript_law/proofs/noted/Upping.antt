-- the line `up`: what is known of the link's answers behind it, by what came up
use Rattle.std.specs.Prelude.{◌≡◌, ◌<◌, ◌≤◌, ◌+◌, ◌-◌, ◌∷◌, ◌++◌, ◌&&◌, ◌||◌, ◌==◌, ◌⊎◌, if◌then◌else◌, nat_lt, min}
use Rattle.std.specs.List.{All, list_any}
use Rattle.std.proofs.lemmas.List.{length-drop, take-append-drop}
use Rattle.std.proofs.lemmas.Bool.Decides.{nat_tests}
use Rattle.mcbp_frame.specs.declared.frame.TheConstants.{HEADER_LEN}
use Rattle.mcbp_frame.proofs.Pieces.{frames-append, frames-left}
use Rattle.takeover.specs.GivingUp.{new_give_up}
use Rattle.takeover.specs.declared.give_up.GiveStep.{GiveStep}
use Rattle.takeover.specs.declared.give_up.GiveStep.TheVariants.{AwaitActive, AwaitPending, End, SendActive, SendAll, SendPending, SendRest, Yield}
use Rattle.takeover.specs.declared.give_up.GiveUp.{GiveUp}
use Rattle.takeover.specs.declared.take_over.TakeStep.{TakeStep}
use Rattle.takeover.specs.declared.take_over.TakeStep.TheVariants.{Own, Pend}
use Rattle.transcript_law.proofs.Words.{ℕ, Bool, true, false, not, List, [], length, drop, take, filter, refl, ap, sym, ◌∙◌, subst, arith, inl, inr, ⊎_elim, append-nil, append_assoc, eq-eqb, Option, Some, None, All-cons, All-head, All-nil, Answer, Chronicle, Cluster, Event, Frame, LinkVerb, PlainConsumer, PlainLink, PlainStream, PlainWorld, Verb, frames_in, left_of, link_number, moved_len}
use Rattle.transcript_law.proofs.balance.Measures.{spelled}
use Rattle.transcript_law.proofs.invariant.{Agreement.{Agrees, IsLink, LinkAgrees, is_state_answer, state_answer}, Noted.{CameIf, CameIn, NotedStream}}
use Rattle.transcript_law.proofs.noted.{Groups.{dial_at, known_is, read_with, turned_at}, Known.{ComesUp, IsComing, LinkKnown, ObeyedIf, ObeyedIn, ObeyedOn}, Moments.{HasCome, IsDone, IsDoneIn, Stands, asked_is, came, come_along, come_answers, comes_later, done_answers, end_last, gives_at, last_at, left_over, stands_of, yield_last}}
use Rattle.transcript_law.specs.Chronicles.{after_group}
use Rattle.transcript_law.specs.{LinesTold.{Answered, Obeyed, Obeys, Put, TakeoverKnown, with_moved}, TakeoversTold.{with_all_moved}}
use Rattle.transcript_law.specs.TakeoverNotes.{is_ended, is_grant_of, is_pump_of, stream_over, takeover_after, turned_after, turns_feeder}

-- a stream that was granted just now
pub record IsNew (s : PlainStream) : Type 0 where
  pub goes : s.ended ≡ false
  pub gives : (s.gives ≡ None) ⊎ (s.gives ≡ Some new_give_up)

-- one that heard an answer, or none
abbrev pub HeardAs : PlainStream → PlainStream → Type 0
HeardAs s s' = (s'.ended ≡ s.ended) × ((s'.gives ≡ s.gives) ⊎ (((s.gives ≡ Some (record { step = AwaitPending })) × (s'.gives ≡ Some (record { step = Yield }))) ⊎ ((s.gives ≡ Some (record { step = AwaitActive })) × (s'.gives ≡ Some (record { step = End })))))

abbrev pub UpStreams : List Event → ℕ → List PlainStream → List PlainStream → Type 0
UpStreams lines l [] [] = Unit {0}
UpStreams lines l [] (s' ∷ ss') = (list_any (is_grant_of l) lines ≡ true) × IsNew s'
UpStreams lines l (s ∷ ss) [] = Unit {0}
UpStreams lines l (s ∷ ss) (s' ∷ ss') = (list_any (is_grant_of l) lines ≡ false) × HeardAs s s'

-- what became of a link of which n bytes were moved up
pub record UpCame (lines : List Event) (wanted n : ℕ) (link link' : PlainLink) : Type 0 where
  pub consumer : link'.consumer ≡ link.consumer
  pub many : n ≡ moved_len wanted link.up
  pub up : link'.up ≡ drop n link.up
  pub heard : link'.up_heard ≡ left_of (link.up_heard ++ take n link.up)
  pub streams : UpStreams lines (link_number link) link.server.streams link'.server.streams

-- ---- what is known of answers then

moved_put : (wanted n : ℕ) (b : Bool) (o : Obeyed) → o ≡ Put → (if b then with_all_moved o else o) ≡ Put
moved_put wanted n true o e = ap with_all_moved e
moved_put wanted n false o e = e

moved_told : (b : Bool) (o : Obeyed) → (o ≡ Put → ⊥) → (if b then with_all_moved o else o) ≡ Put → ⊥
moved_told true Put none e = none refl
moved_told true Obeys none e = cc
moved_told true Answered none e = cc
moved_told false o none e = none e

moved_answered : (b : Bool) (o : Obeyed) → (b ≡ true → ⊥) → (o ≡ Answered → ⊥) → (if b then with_all_moved o else o) ≡ Answered → ⊥
moved_answered true o less none e = less refl
moved_answered false o less none e = none e

module _ (lines : List Event) (wanted n : ℕ) (link link' : PlainLink) (c : UpCame lines wanted n link link') (s s' : PlainStream) (b : Stands link s) (x : Stands link' s') (t t' : TakeoverKnown)
    (moved : t'.moved ≡ t.moved + n) (obeyed : t'.obeyed ≡ (if nat_lt n wanted then with_all_moved t.obeyed else t.obeyed)) where
  abbrev took : List Frame
  took = frames_in (link.up_heard ++ take n link.up)

  frames : frames_in (link.up_heard ++ link.up) ≡ took ++ frames_in (link'.up_heard ++ link'.up)
  frames = ap (λ l. frames_in (link.up_heard ++ l)) (sym (take-append-drop n link.up)) ∙ ap frames_in (sym (append_assoc link.up_heard (take n link.up) (drop n link.up)))
      ∙ frames-append (link.up_heard ++ take n link.up) (drop n link.up) ∙ ap (λ fs. took ++ fs) (ap frames_in (λ i. sym c.heard i ++ sym c.up i))

  fewer : length link.up ≡ n + length link'.up
  fewer = let d : length link'.up ≡ length link.up - n = ap (λ (l : List ℕ). length l) c.up ∙ length-drop n link.up in let m : n ≤ length link.up = subst (λ k. k ≤ length link.up) (sym c.many) (grind (arith)) in omega (arith, d, m)

  -- the frames on their way, before and behind it
  before_is : took ++ frames_in (link'.up_heard ++ link'.up) ≡ b.asked
  before_is = sym frames ∙ asked_is link s b

  last_is : link.consumer.taking.last ≡ last_at x.moment
  last_is = ap (λ (k : PlainConsumer). k.taking.last) (sym c.consumer) ∙ x.last

  -- an answer that was on its way and is
  same_done : IsDone s.gives link.consumer.taking.last → filter is_state_answer (took ++ frames_in (link'.up_heard ++ link'.up)) ≡ state_answer link.consumer.asked ∷ []
  same_done d = ap (filter is_state_answer) before_is ∙ b.answers ∙ done_answers link.consumer.asked link.consumer.dialed.takeover b.moment (subst (λ g. IsDone g (last_at b.moment)) b.gives (subst (IsDone s.gives) b.last d))

  later_done : IsDone s'.gives link'.consumer.taking.last → filter is_state_answer (frames_in (link'.up_heard ++ link'.up)) ≡ state_answer link'.consumer.asked ∷ []
  later_done d = ap (filter is_state_answer) (asked_is link' s' x) ∙ x.answers ∙ done_answers link'.consumer.asked link'.consumer.dialed.takeover x.moment (subst (λ g. IsDone g (last_at x.moment)) x.gives (subst (IsDone s'.gives) x.last d))

  later_come : HasCome s'.gives → filter is_state_answer (frames_in (link'.up_heard ++ link'.up)) ≡ []
  later_come d = ap (filter is_state_answer) (asked_is link' s' x) ∙ x.answers ∙ come_answers link'.consumer.asked link'.consumer.dialed.takeover x.moment (subst HasCome x.gives d)

  opaque_is : state_answer link'.consumer.asked ≡ state_answer link.consumer.asked
  opaque_is = ap (λ (k : PlainConsumer). state_answer k.asked) c.consumer

  -- not all was moved
  some_left : filter is_state_answer (frames_in (link'.up_heard ++ link'.up)) ≡ state_answer link'.consumer.asked ∷ [] → nat_lt n wanted ≡ true → ⊥
  some_left left e =
      let none : length link'.up ≡ 0 = let f = fewer in let m : n ≡ min wanted (length link.up) = c.many in grind (arith, nat_tests, f, m, e) in
      let frames_none : frames_in (link'.up_heard ++ link'.up) ≡ [] = ap (λ l. frames_in (link'.up_heard ++ l)) (empty link'.up none) ∙ ap frames_in (append-nil link'.up_heard) ∙ ap frames_in c.heard ∙ frames-left (link.up_heard ++ take n link.up) in
      let z : [] ≡ state_answer link'.consumer.asked ∷ [] = sym (ap (filter is_state_answer) frames_none) ∙ left in cc
    where
      empty : (l : List ℕ) → length l ≡ 0 → l ≡ []
      empty [] z = refl
      empty (k ∷ l) z = absurd (omega (arith, z))

  comes_yet : IsDone s.gives link.consumer.taking.last → IsDone s'.gives link'.consumer.taking.last → IsComing t link → IsComing t' link'
  comes_yet d d' old =
      let left = later_done d' in let none : filter is_state_answer took ≡ [] = left_over took (frames_in (link'.up_heard ++ link'.up)) (state_answer link.consumer.asked) (same_done d) (left ∙ ap (λ f. f ∷ []) opaque_is) in (
        (λ e. moved_answered (nat_lt n wanted) t.obeyed (some_left left) old.0 (sym obeyed ∙ e)),
        subst (λ k. ComesUp k link') (sym moved) (comes_later link link' n took frames fewer t.moved none old.1),
      )

  came_now : IsDone s.gives link.consumer.taking.last → HasCome s'.gives → IsComing t link → HEADER_LEN ≤ t'.moved
  came_now d h old =
      let left = later_come h in
      subst (λ k. HEADER_LEN ≤ k) (sym moved) (came link link' n took frames fewer t.moved (come_along took (frames_in (link'.up_heard ++ link'.up)) (state_answer link.consumer.asked) (same_done d) left)
      (x.wrote ∙ ap spelled (sym (asked_is link' s' x))) old.1)

  -- where its step is what it was
  more : CameIf t.moved s.gives → CameIf t'.moved s.gives
  more = by s.gives
    where
      above : HEADER_LEN ≤ t.moved → HEADER_LEN ≤ t'.moved
      above k = subst (λ m. HEADER_LEN ≤ m) (sym moved) (omega (arith, k))

      in_step : (step : GiveStep) → CameIn t.moved step → CameIn t'.moved step
      in_step SendAll k = tt
      in_step SendPending k = tt
      in_step AwaitPending k = tt
      in_step Yield k = above k
      in_step SendRest k = tt
      in_step SendActive k = tt
      in_step AwaitActive k = tt
      in_step End k = above k

      by : (g : Option GiveUp) → CameIf t.moved g → CameIf t'.moved g
      by None k = tt
      by (Some g) k = in_step g.step k

  same_step : s'.gives ≡ s.gives → ObeyedIf t link s.gives link.consumer.taking.last → ObeyedIf t' link' s'.gives link'.consumer.taking.last
  same_step same old = by s'.gives link'.consumer.taking.last (λ d. comes_yet (subst (λ g. IsDone g link.consumer.taking.last) same (subst (IsDone s'.gives) last_same d)) d) (subst (λ g. ObeyedIf t link g link'.consumer.taking.last) (sym same) (subst (ObeyedIf t link s.gives) (sym last_same) old))
    where
      last_same : link'.consumer.taking.last ≡ link.consumer.taking.last
      last_same = ap (λ (k : PlainConsumer). k.taking.last) c.consumer

      put : t.obeyed ≡ Put → t'.obeyed ≡ Put
      put e = obeyed ∙ moved_put wanted n (nat_lt n wanted) t.obeyed e

      still : (t.obeyed ≡ Put → ⊥) → t'.obeyed ≡ Put → ⊥
      still none e = moved_told (nat_lt n wanted) t.obeyed none (sym obeyed ∙ e)

      in_step : (step : GiveStep) (last : Option TakeStep) → (IsDoneIn step last → IsComing t link → IsComing t' link') → ObeyedIn t link step last → ObeyedIn t' link' step last
      in_step SendAll last yet k = tt
      in_step SendPending last yet k = tt
      in_step AwaitPending None yet k = put k
      in_step AwaitPending (Some Pend) yet k = yet tt k
      in_step AwaitPending (Some Own) yet k = tt
      in_step Yield last yet k = tt
      in_step SendRest last yet k = tt
      in_step SendActive last yet k = tt
      in_step AwaitActive None yet k = tt
      in_step AwaitActive (Some Pend) yet k = put k
      in_step AwaitActive (Some Own) yet k = (yet tt k.0, still k.1)
      in_step End last yet k = still k

      by : (g : Option GiveUp) (last : Option TakeStep) → (IsDone g last → IsComing t link → IsComing t' link') → ObeyedIf t link g last → ObeyedIf t' link' g last
      by None last yet k = tt
      by (Some g) last yet k = in_step g.step last yet k

  -- where an answer came
  answered_step : (((s.gives ≡ Some (record { step = AwaitPending })) × (s'.gives ≡ Some (record { step = Yield }))) ⊎ ((s.gives ≡ Some (record { step = AwaitActive })) × (s'.gives ≡ Some (record { step = End }))))
      → ObeyedIf t link s.gives link.consumer.taking.last → CameIf t'.moved s'.gives × ObeyedIf t' link' s'.gives link'.consumer.taking.last
  answered_step (inl (e, f)) old =
      let last : link.consumer.taking.last ≡ Some Pend = last_is ∙ yield_last link'.consumer.dialed.takeover x.moment (sym x.gives ∙ f) in
      let coming : IsComing t link = subst (λ l. ObeyedIf t link (Some (record { step = AwaitPending })) l) last (subst (λ g. ObeyedIf t link g link.consumer.taking.last) e old) in
      let done : IsDone s.gives link.consumer.taking.last = subst (λ g. IsDone g link.consumer.taking.last) (sym e) (subst (IsDone (Some (record { step = AwaitPending }))) (sym last) tt) in
      (subst (CameIf t'.moved) (sym f) (came_now done (subst HasCome (sym f) tt) coming), subst (λ g. ObeyedIf t' link' g link'.consumer.taking.last) (sym f) tt)
  answered_step (inr (e, f)) old =
      let last : link.consumer.taking.last ≡ Some Own = last_is ∙ end_last link'.consumer.dialed.takeover x.moment (sym x.gives ∙ f) in
      let both : IsComing t link × (t.obeyed ≡ Put → ⊥) = subst (λ l. ObeyedIf t link (Some (record { step = AwaitActive })) l) last (subst (λ g. ObeyedIf t link g link.consumer.taking.last) e old) in
      let done : IsDone s.gives link.consumer.taking.last = subst (λ g. IsDone g link.consumer.taking.last) (sym e) (subst (IsDone (Some (record { step = AwaitActive }))) (sym last) tt) in
      (subst (CameIf t'.moved) (sym f) (came_now done (subst HasCome (sym f) tt) both.0), subst (λ g. ObeyedIf t' link' g link'.consumer.taking.last) (sym f) (λ z. moved_told (nat_lt n wanted) t.obeyed both.1 (sym obeyed ∙ z)))

  pub stream_up : HeardAs s s' → t'.turned ≡ t.turned → NotedStream t s → ObeyedOn t link s → NotedStream t' s' × ObeyedOn t' link' s'
  stream_up (ended, inl same) turned noted old = (record { turned = turned ∙ noted.turned ∙ sym ended; came = subst (CameIf t'.moved) (sym same) (more noted.came) }, same_step same old)
  stream_up (ended, inr went) turned noted old = let y = answered_step went old in (record { turned = turned ∙ noted.turned ∙ sym ended; came = y.0 }, y.1)

-- one that was granted just now
module _ (t' : TakeoverKnown) (link' : PlainLink) (s' : PlainStream) (new : IsNew s') (turned : t'.turned ≡ false) where
  new_came : CameIf t'.moved s'.gives
  new_came = ⊎_elim (λ e. subst (CameIf t'.moved) (sym e) tt) (λ e. subst (CameIf t'.moved) (sym e) tt) new.gives

  new_obeyed : ObeyedOn t' link' s'
  new_obeyed = ⊎_elim (λ e. subst (λ g. ObeyedIf t' link' g link'.consumer.taking.last) (sym e) tt) (λ e. subst (λ g. ObeyedIf t' link' g link'.consumer.taking.last) (sym e) tt) new.gives

  pub stream_new : NotedStream t' s' × ObeyedOn t' link' s'
  stream_new = (record { turned = turned ∙ sym new.goes; came = new_came }, new_obeyed)

-- ---- a link

-- what is known of a link with at most one stream is known of that
pub link_of : (t : TakeoverKnown) (link : PlainLink) → t.dialed ≡ link.consumer.dialed.takeover → ((s : PlainStream) (more : List PlainStream) → link.server.streams ≡ s ∷ more → (link.server.streams ≡ s ∷ []) × (NotedStream t s × ObeyedOn t link s)) → LinkKnown t link
link_of t link dialed each = record { noted = record { dialed = dialed; each = noted link.server.streams refl }; obeyed = obeyed link.server.streams refl }
  where
    noted : (ss : List PlainStream) → link.server.streams ≡ ss → All (NotedStream t) link.server.streams
    noted [] e = subst (All (NotedStream t)) (sym e) (All-nil (NotedStream t))
    noted (s ∷ ss) e = let x = each s ss e in subst (All (NotedStream t)) (sym x.0) (All-cons (NotedStream t) s [] x.1.0 (All-nil (NotedStream t)))

    obeyed : (ss : List PlainStream) → link.server.streams ≡ ss → All (ObeyedOn t link) link.server.streams
    obeyed [] e = subst (All (ObeyedOn t link)) (sym e) (All-nil (ObeyedOn t link))
    obeyed (s ∷ ss) e = let x = each s ss e in subst (All (ObeyedOn t link)) (sym x.0) (All-cons (ObeyedOn t link) s [] x.1.1 (All-nil (ObeyedOn t link)))

module _ (w w' : PlainWorld) (r : Chronicle) (k : Cluster) (lines : List Event) (wanted n : ℕ) (link link' : PlainLink) (c : UpCame lines wanted n link link') (b : LinkAgrees w r k link [] [])
    (a : Agrees w' (after_group r (Verb.AtLink (link_number link) (LinkVerb.Up wanted)) lines (Answer.Number n))) (there : IsLink link' w'.links) (known : LinkKnown (r.takeover_of (link_number link)) link) where
  abbrev asked : Verb
  asked = Verb.AtLink (link_number link) (LinkVerb.Up wanted)

  abbrev l : ℕ
  l = link_number link

  abbrev read : Chronicle
  read = read_with r asked lines (Answer.Number n)

  abbrev t : TakeoverKnown
  t = r.takeover_of l

  same_number : link_number link' ≡ l
  same_number = ap (λ (k : PlainConsumer). k.dialed.link) c.consumer

  abbrev told : TakeoverKnown
  told = with_moved wanted n t

  abbrev t' : TakeoverKnown
  t' = record told { turned = turned_after read asked lines l told.turned }

  now_is : (after_group r asked lines (Answer.Number n)).takeover_of l ≡ t'
  now_is = known_is w' r asked lines (Answer.Number n) a l ∙ ap (λ (b : Bool). let k : TakeoverKnown = if b then told else t in record k { turned = turned_after read asked lines l k.turned }) (eq-eqb l l refl)

  turned_here : list_any (is_grant_of l) lines ≡ false → (s : PlainStream) (more : List PlainStream) → link'.server.streams ≡ s ∷ more → turns_feeder (Some (dial_at link')) lines ≡ false → t'.turned ≡ t.turned
  turned_here none s more e turns =
      subst (λ k. turned_after read asked lines k t.turned ≡ (t.turned || (turns_feeder (Some (dial_at link')) lines && true))) same_number (turned_at w' r asked lines (Answer.Number n) a link' there t.turned (subst (λ k. list_any (is_grant_of k) lines ≡ false) (sym same_number) none) s more e)
      ∙ ap (λ b. t.turned || (b && true)) turns ∙ or_none t.turned
    where
      or_none : (b : Bool) → (b || false) ≡ b
      or_none true = refl
      or_none false = refl

  turned_new : list_any (is_grant_of l) lines ≡ true → t'.turned ≡ false
  turned_new some = by (list_any (is_grant_of l) lines) some
    where
      by : (b : Bool) → b ≡ true → (if b then false else (if is_ended (stream_over read l (read.dial_of l)) then told.turned else told.turned || (turns_feeder (read.dial_of l) lines && not (is_pump_of l asked)))) ≡ false
      by true e = refl
      by false e = cc

  pub link_up : turns_feeder (Some (dial_at link')) lines ≡ false → LinkKnown ((after_group r asked lines (Answer.Number n)).takeover_of (link_number link')) link'
  link_up turns = subst (λ k. LinkKnown ((after_group r asked lines (Answer.Number n)).takeover_of k) link') (sym same_number) (subst (λ k. LinkKnown k link') (sym now_is)
      (link_of t' link' (known.noted.dialed ∙ ap (λ (k : PlainConsumer). k.dialed.takeover) (sym c.consumer)) (λ s' more e.
      let x = stands_of w' (after_group r asked lines (Answer.Number n)) a.0 link' (a.1.links link' there) s' more e in (x.alone, by link.server.streams refl s' more e x))))
    where
      by : (ss : List PlainStream) → link.server.streams ≡ ss → (s' : PlainStream) (more : List PlainStream) → link'.server.streams ≡ s' ∷ more → Stands link' s' → NotedStream t' s' × ObeyedOn t' link' s'
      by [] e s' more e' x = let y = subst (λ k. UpStreams lines l k (s' ∷ more)) e (subst (UpStreams lines l link.server.streams) e' c.streams) in stream_new t' link' s' y.1 (turned_new y.0)
      by (s ∷ ss) e s' more e' x =
          let y = subst (λ k. UpStreams lines l k (s' ∷ more)) e (subst (UpStreams lines l link.server.streams) e' c.streams) in
          let before = stands_of w r k link b s ss e in
          stream_up lines wanted n link link' c s s' before x t t' refl refl y.1 (turned_here y.0 s' more e' turns)
          (All-head (NotedStream t) s ss (subst (All (NotedStream t)) e known.noted.each)) (All-head (ObeyedOn t link) s ss (subst (All (ObeyedOn t link)) e known.obeyed))
