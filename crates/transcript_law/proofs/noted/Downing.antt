-- the line `down`: what is known of the link's answers behind it, by what its consumer took
use Rattle.std.specs.Prelude.{◌≡◌, ◌<◌, ◌≤◌, ◌+◌, ◌∷◌, ◌++◌, ◌&&◌, ◌||◌, ◌==◌, ◌⊎◌, if◌then◌else◌}
use Rattle.std.specs.List.{All, list_any}
use Rattle.mcbp_frame.specs.declared.frame.TheConstants.{HEADER_LEN}
use Rattle.takeover.specs.declared.give_up.GiveStep.{GiveStep}
use Rattle.takeover.specs.declared.give_up.GiveStep.TheVariants.{AwaitActive, AwaitPending, End, SendActive, SendAll, SendPending, SendRest, Yield}
use Rattle.takeover.specs.declared.give_up.GiveUp.{GiveUp}
use Rattle.takeover.specs.declared.take_over.TakeStep.{TakeStep}
use Rattle.takeover.specs.declared.take_over.TakeStep.TheVariants.{Own, Pend}
use Rattle.transcript_law.proofs.Words.{ℕ, Bool, true, false, not, List, [], length, filter, refl, ap, sym, ◌∙◌, subst, arith, inl, inr, ⊎_elim, append_assoc, append-nil, filter-append, eq-eqb, Option, Some, None, All-head, All-tail, Answer, Chronicle, Cluster, Event, Frame, LinkVerb, PlainConsumer, PlainLink, PlainStream, PlainWorld, Readable, Verb, frames_in, link_number}
use Rattle.transcript_law.proofs.balance.Measures.{frames_back, frames_front, spelled}
use Rattle.transcript_law.proofs.invariant.{Agreement.{Agrees, Handing, IsLink, LinkAgrees, is_state_answer, state_answer}, Noted.{CameIf, NotedStream}}
use Rattle.transcript_law.proofs.noted.{Groups.{dial_at, known_is, read_with, turned_at}, Known.{ComesUp, IsComing, LinkKnown, ObeyedIf, ObeyedOn, obeyed_kept}, Moments.{Moment, Stands, asked_is, gives_at, last_at, answers_at, stands_of, step_of, written_answer}}
use Rattle.transcript_law.proofs.noted.{Staying.{IsNoAnswer, comes_more}, Upping.{link_of}}
use Rattle.transcript_law.specs.Chronicles.{after_group}
use Rattle.transcript_law.specs.{LinesTold.{Answered, Obeyed, Obeys, Put, TakeoverKnown, with_role}}
use Rattle.transcript_law.specs.TakeoverNotes.{is_grant_of, obeyed_after, turned_after, turns_consumer, turns_feeder}

-- ---- what a consumer wrote, and whether it obeyed a state

-- no state: it answers none, and tells of no role
pub record ObeyedNone (link link' : PlainLink) (wrote : List Frame) (turns : Bool) : Type 0 where
  pub taking : link'.consumer.taking ≡ link.consumer.taking
  pub none : All IsNoAnswer wrote
  pub turned : turns ≡ false

-- or the next one, which it answers once; as it takes over it tells of that
pub record ObeyedNext (link link' : PlainLink) (wrote : List Frame) (turns : Bool) : Type 0 where
  pub next : ((link.consumer.taking.last ≡ None) × (link'.consumer.taking.last ≡ Some Pend)) ⊎ ((link.consumer.taking.last ≡ Some Pend) × (link'.consumer.taking.last ≡ Some Own) × (turns ≡ true))
  pub before : List Frame
  pub behind : List Frame
  pub answer : Frame
  pub is_answer : is_state_answer answer ≡ true
  pub wrote_is : wrote ≡ before ++ answer ∷ behind
  pub none_before : All IsNoAnswer before

-- what became of a link that goes on, whose consumer took bytes
pub record DownCame (lines : List Event) (link link' : PlainLink) : Type 0 where
  pub server : link'.server ≡ link.server
  pub dialed : link'.consumer.dialed ≡ link.consumer.dialed
  pub heard : link'.up_heard ≡ link.up_heard
  pub wrote : List Frame
  pub good : All Readable wrote
  pub up : link'.up ≡ link.up ++ spelled wrote
  pub obeyed : (s : PlainStream) → Stands link s → Stands link' s → ObeyedNone link link' wrote (turns_consumer (Some (dial_at link)) lines) ⊎ ObeyedNext link link' wrote (turns_consumer (Some (dial_at link)) lines)

-- ---- where the stream stands then

-- it waits for the state, and no answer is on its way
abbrev pub WaitsAt : ℕ → Bool → Moment → GiveStep → Type 0
WaitsAt o takeover m step = (gives_at takeover m ≡ Some (record { step = step })) × (answers_at o m ≡ [])

some_none : {A : Type 0} {x : A} → Some x ≡ None → ⊥
some_none e = cc

own_pend : Some Own ≡ Some Pend → ⊥
own_pend e = cc

pub pends_at : (o : ℕ) (takeover : Bool) (m m' : Moment) → gives_at takeover m ≡ gives_at takeover m' → last_at m ≡ None → last_at m' ≡ Some Pend → WaitsAt o takeover m AwaitPending
pends_at o takeover m m' e f g = by takeover m m' (ap step_of e) f g
  where
    -- a stream that begins is in the first step, in which no consumer was told anything
    fresh : (takeover : Bool) (m' : Moment) → step_of (gives_at takeover (Moment.Follows Handing.Unstated)) ≡ step_of (gives_at takeover m') → last_at m' ≡ Some Pend → ⊥
    fresh true (Moment.Follows Handing.Unstated) e g = cc
    fresh true (Moment.Follows Handing.Offered) e g = cc
    fresh true (Moment.Follows Handing.Pended) e g = let z : Some SendAll ≡ Some AwaitPending = e in cc
    fresh true (Moment.Follows Handing.Due) e g = let z : Some SendAll ≡ Some Yield = e in cc
    fresh true (Moment.Follows Handing.Ceded) e g = let z : Some SendAll ≡ Some SendRest = e in cc
    fresh true (Moment.Follows Handing.Stated) e g = let z : Some SendAll ≡ Some AwaitActive = e in cc
    fresh true (Moment.Owns answered) e g = cc
    fresh false (Moment.Follows Handing.Unstated) e g = cc
    fresh false (Moment.Follows Handing.Offered) e g = cc
    fresh false (Moment.Follows Handing.Pended) e g = cc
    fresh false (Moment.Follows Handing.Due) e g = cc
    fresh false (Moment.Follows Handing.Ceded) e g = cc
    fresh false (Moment.Follows Handing.Stated) e g = cc
    fresh false (Moment.Owns answered) e g = cc

    by : (takeover : Bool) (m m' : Moment) → step_of (gives_at takeover m) ≡ step_of (gives_at takeover m') → last_at m ≡ None → last_at m' ≡ Some Pend → WaitsAt o takeover m AwaitPending
    by takeover (Moment.Follows Handing.Unstated) m' e f g = absurd (fresh takeover m' e g)
    by takeover (Moment.Follows Handing.Offered) m' e f g = (refl, refl)
    by takeover (Moment.Follows Handing.Pended) m' e f g = let z : Some Pend ≡ None = f in absurd (some_none z)
    by takeover (Moment.Follows Handing.Due) m' e f g = let z : Some Pend ≡ None = f in absurd (some_none z)
    by takeover (Moment.Follows Handing.Ceded) m' e f g = let z : Some Pend ≡ None = f in absurd (some_none z)
    by takeover (Moment.Follows Handing.Stated) m' e f g = let z : Some Pend ≡ None = f in absurd (some_none z)
    by takeover (Moment.Owns answered) m' e f g = let z : Some Own ≡ None = f in absurd (some_none z)

pub owns_at : (o : ℕ) (takeover : Bool) (m m' : Moment) → gives_at takeover m ≡ gives_at takeover m' → last_at m ≡ Some Pend → last_at m' ≡ Some Own → WaitsAt o takeover m AwaitActive
owns_at o takeover m m' e f g = by m m' (ap step_of e) f g
  where
    -- it took over, and waits for the answer to active, or that came
    over : (h : Handing) (m' : Moment) → last_at m' ≡ Some Own → step_of (gives_at takeover m') ≡ step_of (gives_at takeover (Moment.Follows h)) → (step_of (gives_at takeover (Moment.Follows h)) ≡ Some AwaitActive) ⊎ (step_of (gives_at takeover (Moment.Follows h)) ≡ Some End)
    over h (Moment.Follows Handing.Unstated) g e = cc
    over h (Moment.Follows Handing.Offered) g e = cc
    over h (Moment.Follows Handing.Pended) g e = cc
    over h (Moment.Follows Handing.Due) g e = cc
    over h (Moment.Follows Handing.Ceded) g e = cc
    over h (Moment.Follows Handing.Stated) g e = cc
    over h (Moment.Owns true) g e = inr (sym e)
    over h (Moment.Owns false) g e = inl (sym e)

    never : (h : Handing) (step : GiveStep) → (AwaitActive ≡ step → ⊥) → (End ≡ step → ⊥) → (m' : Moment) → last_at m' ≡ Some Own → step_of (gives_at takeover m') ≡ step_of (gives_at takeover (Moment.Follows h)) → step_of (gives_at takeover (Moment.Follows h)) ≡ Some step → ⊥
    never h step one other m' g e is = ⊎_elim (λ a. one (let z : Some AwaitActive ≡ Some step = sym a ∙ is in cc)) (λ a. other (let z : Some End ≡ Some step = sym a ∙ is in cc)) (over h m' g e)

    by : (m m' : Moment) → step_of (gives_at takeover m) ≡ step_of (gives_at takeover m') → last_at m ≡ Some Pend → last_at m' ≡ Some Own → WaitsAt o takeover m AwaitActive
    by (Moment.Follows Handing.Unstated) m' e f g = let z : None ≡ Some Pend = f in absurd (some_none (sym z))
    by (Moment.Follows Handing.Offered) m' e f g = let z : None ≡ Some Pend = f in absurd (some_none (sym z))
    by (Moment.Follows Handing.Pended) m' e f g = absurd (never Handing.Pended AwaitPending (λ z. cc) (λ z. cc) m' g (sym e) refl)
    by (Moment.Follows Handing.Due) m' e f g = absurd (never Handing.Due Yield (λ z. cc) (λ z. cc) m' g (sym e) refl)
    by (Moment.Follows Handing.Ceded) m' e f g = absurd (never Handing.Ceded SendRest (λ z. cc) (λ z. cc) m' g (sym e) refl)
    by (Moment.Follows Handing.Stated) m' e f g = (refl, refl)
    by (Moment.Owns answered) m' e f g = let z : Some Own ≡ Some Pend = f in absurd (own_pend z)

none_filtered : (fs : List Frame) → All IsNoAnswer fs → filter is_state_answer fs ≡ []
none_filtered [] none = refl
none_filtered (f ∷ fs) none = ap (λ b. if b then f ∷ filter is_state_answer fs else filter is_state_answer fs) (All-head IsNoAnswer f fs none) ∙ none_filtered fs (All-tail IsNoAnswer f fs none)

-- ---- what is known of its answers

module _ (lines : List Event) (link link' : PlainLink) (c : DownCame lines link link') (s : PlainStream) (b : Stands link s) (x : Stands link' s) (t t' : TakeoverKnown) where
  abbrev turns : Bool
  turns = turns_consumer (Some (dial_at link)) lines

  gives_same : gives_at link.consumer.dialed.takeover b.moment ≡ gives_at link.consumer.dialed.takeover x.moment
  gives_same = sym b.gives ∙ x.gives ∙ ap (λ d. gives_at d.takeover x.moment) c.dialed

  -- behind all that was on its way up
  frames : frames_in (link'.up_heard ++ link'.up) ≡ frames_in (link.up_heard ++ link.up) ++ c.wrote
  frames = ap frames_in ((λ i. c.heard i ++ c.up i) ∙ sym (append_assoc link.up_heard link.up (spelled c.wrote)))
      ∙ frames_front (link.up_heard ++ link.up) (spelled c.wrote) b.asked b.readable b.wrote ∙ ap (λ fs. frames_in (link.up_heard ++ link.up) ++ fs) (frames_back c.wrote c.good)

  -- a state that was on its way is obeyed, and its answer is on its way
  obeyed_now : (o : ObeyedNext link link' c.wrote (turns_consumer (Some (dial_at link)) lines)) → answers_at link.consumer.asked b.moment ≡ [] → ComesUp t'.moved link'
  obeyed_now o none =
      let front : List Frame = frames_in (link.up_heard ++ link.up) ++ o.before in
      written_answer link link' t'.moved o.before o.behind o.answer o.is_answer
      (filter-append is_state_answer (frames_in (link.up_heard ++ link.up)) o.before ∙ (λ i. (ap (filter is_state_answer) (asked_is link s b) ∙ b.answers ∙ none) i ++ none_filtered o.before o.none_before i))
      (frames ∙ ap (λ fs. frames_in (link.up_heard ++ link.up) ++ fs) o.wrote_is ∙ sym (append_assoc (frames_in (link.up_heard ++ link.up)) o.before (o.answer ∷ o.behind)))
      (c.up ∙ ap (λ fs. link.up ++ spelled fs) o.wrote_is)

  comes_in : (o : ObeyedNext link link' c.wrote (turns_consumer (Some (dial_at link)) lines)) → answers_at link.consumer.asked b.moment ≡ [] → t.obeyed ≡ Put → (t'.obeyed ≡ (if turns then Obeys else t.obeyed)) → IsComing t' link'
  comes_in o none put e = ((λ f. never turns (sym e ∙ f)), obeyed_now o none)
    where
      never : (q : Bool) → (if q then Obeys else t.obeyed) ≡ Answered → ⊥
      never true z = cc
      never false z = let y : Put ≡ Answered = sym put ∙ z in cc

  pub stream_obeyed : ObeyedNext link link' c.wrote (turns_consumer (Some (dial_at link)) lines) → t'.obeyed ≡ (if turns then Obeys else t.obeyed) → t'.turned ≡ t.turned → NotedStream t s → ObeyedOn t link s → NotedStream t' s × ObeyedOn t' link' s
  stream_obeyed o e turned noted old = ⊎_elim
      (λ n. let at = pends_at link.consumer.asked link.consumer.dialed.takeover b.moment x.moment gives_same (sym b.last ∙ n.0) (sym x.last ∙ n.1) in
      let g : s.gives ≡ Some (record { step = AwaitPending }) = b.gives ∙ at.0 in
      let put : t.obeyed ≡ Put = subst (λ l. ObeyedIf t link (Some (record { step = AwaitPending })) l) n.0 (subst (λ y. ObeyedIf t link y link.consumer.taking.last) g old) in
      (record { turned = turned ∙ noted.turned; came = subst (CameIf t'.moved) (sym g) tt }, subst (λ y. ObeyedIf t' link' y link'.consumer.taking.last) (sym g) (subst (ObeyedIf t' link' (Some (record { step = AwaitPending }))) (sym n.1) (comes_in o at.1 put e))))
      (λ n. let at = owns_at link.consumer.asked link.consumer.dialed.takeover b.moment x.moment gives_same (sym b.last ∙ n.0) (sym x.last ∙ n.1) in
      let g : s.gives ≡ Some (record { step = AwaitActive }) = b.gives ∙ at.0 in
      let put : t.obeyed ≡ Put = subst (λ l. ObeyedIf t link (Some (record { step = AwaitActive })) l) n.0 (subst (λ y. ObeyedIf t link y link.consumer.taking.last) g old) in
      (record { turned = turned ∙ noted.turned; came = subst (CameIf t'.moved) (sym g) tt }, subst (λ y. ObeyedIf t' link' y link'.consumer.taking.last) (sym g) (subst (ObeyedIf t' link' (Some (record { step = AwaitActive }))) (sym n.1) (comes_in o at.1 put e, λ z. (let y : Obeys ≡ Put = sym (ap (λ q. if q then Obeys else t.obeyed) n.2) ∙ sym e ∙ z in cc)))))
      o.next

-- ---- a link

module _ (w w' : PlainWorld) (r : Chronicle) (k : Cluster) (lines : List Event) (wanted : ℕ) (said : Answer) (link link' : PlainLink) (c : DownCame lines link link') (b : LinkAgrees w r k link [] [])
    (a : Agrees w' (after_group r (Verb.AtLink (link_number link) (LinkVerb.Down wanted)) lines said)) (there : IsLink link' w'.links)
    (none : list_any (is_grant_of (link_number link)) lines ≡ false) (apart : turns_feeder (Some (dial_at link)) lines ≡ false) (known : LinkKnown (r.takeover_of (link_number link)) link) where
  abbrev asked : Verb
  asked = Verb.AtLink (link_number link) (LinkVerb.Down wanted)

  abbrev l : ℕ
  l = link_number link

  abbrev after : Chronicle
  after = after_group r asked lines said

  abbrev read : Chronicle
  read = read_with r asked lines said

  abbrev t : TakeoverKnown
  t = r.takeover_of l

  same_number : link_number link' ≡ l
  same_number = ap (λ d. d.link) c.dialed

  same_dial : dial_at link' ≡ dial_at link
  same_dial i = record { producer = (c.server i).desk.node; node = (c.dialed i).node; vb = (c.dialed i).vb }

  abbrev told : Bool → TakeoverKnown
  told q = if q then with_role t else t

  abbrev now : Bool → TakeoverKnown
  now q = record (told q) { turned = turned_after read asked lines l (told q).turned }

  turns_here : Bool
  turns_here = turns_consumer (Some (dial_at link)) lines

  now_is : after.takeover_of l ≡ now (turns_consumer (Some (dial_at link)) lines)
  now_is = known_is w' r asked lines said a l
      ∙ ap (λ (q : Bool). let m : TakeoverKnown = if q && turns_consumer (read.dial_of l) lines then with_role t else t in record m { turned = turned_after read asked lines l m.turned }) (eq-eqb l l refl)
      ∙ ap (λ d. now (turns_consumer d lines)) (subst (λ j. after.dial_of j ≡ Some (dial_at link')) same_number (a.1.links link' there).dial.dialed ∙ ap Some same_dial)

  told_turned : (q : Bool) → (told q).turned ≡ t.turned
  told_turned true = refl
  told_turned false = refl

  told_moved : (q : Bool) → q ≡ false → (told q).moved ≡ t.moved
  told_moved true e = cc
  told_moved false e = refl

  told_obeyed : (q : Bool) → (told q).obeyed ≡ (if q then Obeys else t.obeyed)
  told_obeyed true = refl
  told_obeyed false = refl

  told_dialed : (q : Bool) → (told q).dialed ≡ t.dialed
  told_dialed true = refl
  told_dialed false = refl

  or_none : (q : Bool) → (q || false) ≡ q
  or_none true = refl
  or_none false = refl

  turned_here : (q : Bool) (s : PlainStream) (more : List PlainStream) → link'.server.streams ≡ s ∷ more → (now q).turned ≡ t.turned
  turned_here q s more e =
      subst (λ j. turned_after read asked lines j (told q).turned ≡ ((told q).turned || (turns_feeder (Some (dial_at link')) lines && true))) same_number
      (turned_at w' r asked lines said a link' there (told q).turned (subst (λ j. list_any (is_grant_of j) lines ≡ false) (sym same_number) none) s more e)
      ∙ ap (λ u. (told q).turned || (u && true)) (ap (λ d. turns_feeder (Some d) lines) same_dial ∙ apart) ∙ or_none (told q).turned ∙ told_turned q

  stream_at : (s : PlainStream) (more : List PlainStream) → link'.server.streams ≡ s ∷ more → (let q = turns_consumer (Some (dial_at link)) lines in (link'.server.streams ≡ s ∷ []) × (NotedStream (now q) s × ObeyedOn (now q) link' s))
  stream_at s more e =
      let q = turns_consumer (Some (dial_at link)) lines in
      let before : link.server.streams ≡ s ∷ more = ap (λ y. y.streams) (sym c.server) ∙ e in
      let x = stands_of w' after a.0 link' (a.1.links link' there) s more e in let y = stands_of w r k link b s more before in
      let noted = All-head (NotedStream t) s more (subst (All (NotedStream t)) before known.noted.each) in let old = All-head (ObeyedOn t link) s more (subst (All (ObeyedOn t link)) before known.obeyed) in (
        x.alone,
        ⊎_elim
            (λ o. (
              record { turned = turned_here q s more e ∙ noted.turned; came = subst (λ m. CameIf m s.gives) (sym (told_moved q o.turned)) noted.came },
              subst (λ m. ObeyedIf (now q) link' s.gives m.last) (sym o.taking)
                  (obeyed_kept t (now q) link link' (told_moved q o.turned) (told_obeyed q ∙ ap (λ u. if u then Obeys else t.obeyed) o.turned)
                  (λ n comes. comes_more link link' y.asked c.wrote n y.readable y.wrote c.good o.none c.heard c.up comes) s.gives link.consumer.taking.last old),
            ))
            (λ o. stream_obeyed lines link link' c s y x t (now q) o (told_obeyed q) (turned_here q s more e) noted old) (c.obeyed s y x),
      )

  pub link_down : LinkKnown (after.takeover_of (link_number link')) link'
  link_down = let q = turns_consumer (Some (dial_at link)) lines in subst (λ j. LinkKnown (after.takeover_of j) link') (sym same_number) (subst (λ m. LinkKnown m link') (sym now_is)
      (link_of (now q) link' (told_dialed q ∙ known.noted.dialed ∙ ap (λ d. d.takeover) (sym c.dialed)) stream_at))
