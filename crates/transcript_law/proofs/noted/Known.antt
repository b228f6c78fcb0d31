-- what is known of answers to states, behind whole groups: what lines tell of it is as far as the link's stream is, and as its consumer was told
use Rattle.std.specs.Prelude.{◌≡◌, ◌≤◌, ◌+◌, ◌∷◌, ◌++◌, ◌||◌, if◌then◌else◌}
use Rattle.std.specs.List.{All}
use Rattle.mcbp_frame.specs.declared.frame.TheConstants.{HEADER_LEN}
use Rattle.takeover.specs.declared.give_up.GiveStep.{GiveStep}
use Rattle.takeover.specs.declared.give_up.GiveStep.TheVariants.{AwaitActive, AwaitPending, End, SendActive, SendAll, SendPending, SendRest, Yield}
use Rattle.takeover.specs.declared.give_up.GiveUp.{GiveUp}
use Rattle.takeover.specs.declared.take_over.TakeStep.{TakeStep}
use Rattle.takeover.specs.declared.take_over.TakeStep.TheVariants.{Own, Pend}
use Rattle.transcript_law.proofs.Words.{ℕ, Bool, List, [], length, refl, ap, sym, ◌∙◌, subst, Option, Some, None, All-cons, All-head, All-nil, All-tail, Chronicle, Frame, PlainLink, PlainStream, PlainWorld, link_number, frames_in}
use Rattle.transcript_law.proofs.balance.Measures.{spelled}
use Rattle.transcript_law.proofs.invariant.{Agreement.{IsLink, is_state_answer}, Noted.{CameIf, NotedLink, NotedStream}}
use Rattle.transcript_law.specs.LinesTold.{Answered, Put, TakeoverKnown}

-- the frames behind the first answer to a state
abbrev pub behind_answer : List Frame → List Frame
behind_answer [] = []
behind_answer (f ∷ more) = if is_state_answer f then more else behind_answer more

-- the bytes of those on their way up a link
abbrev pub bytes_behind : PlainLink → ℕ
bytes_behind link = length (spelled (behind_answer (frames_in (link.up_heard ++ link.up))))

-- an answer is on its way up: with its own bytes, of which some may have been moved, more than those behind it were not
abbrev pub ComesUp : ℕ → PlainLink → Type 0
ComesUp moved link = HEADER_LEN + bytes_behind link ≤ moved + length link.up

-- it is not known to have come
abbrev pub IsComing : TakeoverKnown → PlainLink → Type 0
IsComing t link = (t.obeyed ≡ Answered → ⊥) × ComesUp t.moved link

-- by the step of the stream, where it waits, and by what its consumer was told last: the state is on its way down, or the answer is on its way up. One that took over told of that
abbrev pub ObeyedIn : TakeoverKnown → PlainLink → GiveStep → Option TakeStep → Type 0
ObeyedIn t link AwaitPending None = t.obeyed ≡ Put
ObeyedIn t link AwaitPending (Some Pend) = IsComing t link
ObeyedIn t link AwaitPending (Some Own) = Unit {0}
ObeyedIn t link AwaitActive None = Unit {0}
ObeyedIn t link AwaitActive (Some Pend) = t.obeyed ≡ Put
ObeyedIn t link AwaitActive (Some Own) = IsComing t link × (t.obeyed ≡ Put → ⊥)
ObeyedIn t link SendAll last = Unit {0}
ObeyedIn t link SendPending last = Unit {0}
ObeyedIn t link Yield last = Unit {0}
ObeyedIn t link SendRest last = Unit {0}
ObeyedIn t link SendActive last = Unit {0}
ObeyedIn t link End last = t.obeyed ≡ Put → ⊥

abbrev pub ObeyedIf : TakeoverKnown → PlainLink → Option GiveUp → Option TakeStep → Type 0
ObeyedIf t link None last = Unit {0}
ObeyedIf t link (Some g) last = ObeyedIn t link g.step last

abbrev pub ObeyedOn : TakeoverKnown → PlainLink → PlainStream → Type 0
ObeyedOn t link stream = ObeyedIf t link stream.gives link.consumer.taking.last

-- of a link: whether it was dialed for a takeover, whether its vBucket turned, and how far its states were answered
pub record LinkKnown (t : TakeoverKnown) (link : PlainLink) : Type 0 where
  pub noted : NotedLink t link
  pub obeyed : All (ObeyedOn t link) link.server.streams

abbrev pub AllKnown : PlainWorld → Chronicle → Type 0
AllKnown w r = (link : PlainLink) → IsLink link w.links → LinkKnown (r.takeover_of (link_number link)) link

-- ---- a link that stays, but for its streams that a change of role ended

-- streams by pairs: they go on as they did, or are ended
abbrev pub StreamsOn : Bool → List PlainStream → List PlainStream → Type 0
StreamsOn turns [] [] = Unit {0}
StreamsOn turns [] (s ∷ ss) = ⊥
StreamsOn turns (s ∷ ss) [] = ⊥
StreamsOn turns (s ∷ ss) (s' ∷ ss') = ((s'.gives ≡ s.gives) × (s'.ended ≡ (s.ended || turns))) × StreamsOn turns ss ss'

-- what is kept of a link that was y and is x
pub record Remains (turns : Bool) (y x : PlainLink) : Type 0 where
  pub dialed : x.consumer.dialed ≡ y.consumer.dialed
  pub taking : x.consumer.taking ≡ y.consumer.taking
  pub coming : (moved : ℕ) → ComesUp moved y → ComesUp moved x
  pub streams : StreamsOn turns y.server.streams x.server.streams

-- what is known of its answers is kept with it, as long as nothing more is told of them
module _ (t t' : TakeoverKnown) (y x : PlainLink) (moved : t'.moved ≡ t.moved) (obeyed : t'.obeyed ≡ t.obeyed) (coming : (n : ℕ) → ComesUp n y → ComesUp n x) where
  comes : IsComing t y → IsComing t' x
  comes c = ((λ e. c.0 (sym obeyed ∙ e)), subst (λ n. ComesUp n x) (sym moved) (coming t.moved c.1))

  obeyed_in : (step : GiveStep) (last : Option TakeStep) → ObeyedIn t y step last → ObeyedIn t' x step last
  obeyed_in AwaitPending None o = obeyed ∙ o
  obeyed_in AwaitPending (Some Pend) o = comes o
  obeyed_in AwaitPending (Some Own) o = tt
  obeyed_in AwaitActive None o = tt
  obeyed_in AwaitActive (Some Pend) o = obeyed ∙ o
  obeyed_in AwaitActive (Some Own) o = (comes o.0, λ e. o.1 (sym obeyed ∙ e))
  obeyed_in SendAll last o = tt
  obeyed_in SendPending last o = tt
  obeyed_in Yield last o = tt
  obeyed_in SendRest last o = tt
  obeyed_in SendActive last o = tt
  obeyed_in End last o = λ e. o (sym obeyed ∙ e)

  pub obeyed_kept : (g : Option GiveUp) (last : Option TakeStep) → ObeyedIf t y g last → ObeyedIf t' x g last
  obeyed_kept None last o = tt
  obeyed_kept (Some g) last o = obeyed_in g.step last o

  pub obeyed_on : (turns : Bool) (ss ss' : List PlainStream) → x.consumer.taking ≡ y.consumer.taking → StreamsOn turns ss ss' → All (ObeyedOn t y) ss → All (ObeyedOn t' x) ss'
  obeyed_on turns [] [] same on all = All-nil (ObeyedOn t' x)
  obeyed_on turns [] (s ∷ ss) same on all = absurd on
  obeyed_on turns (s ∷ ss) [] same on all = absurd on
  obeyed_on turns (s ∷ ss) (s' ∷ ss') same on all = All-cons (ObeyedOn t' x) s' ss'
      (obeyed_kept s'.gives x.consumer.taking.last (subst (λ g. ObeyedIf t y g x.consumer.taking.last) (sym on.0.0) (subst (λ k. ObeyedIf t y s.gives k.last) (sym same) (All-head (ObeyedOn t y) s ss all))))
      (obeyed_on turns ss ss' same on.1 (All-tail (ObeyedOn t y) s ss all))

-- and whether it turned is known again
pub noted_on : (t t' : TakeoverKnown) (turns : Bool) (ss ss' : List PlainStream) → t'.moved ≡ t.moved → ((s' : PlainStream) (more : List PlainStream) → ss' ≡ s' ∷ more → t'.turned ≡ (t.turned || turns)) → StreamsOn turns ss ss' → All (NotedStream t) ss → All (NotedStream t') ss'
noted_on t t' turns ss ss' moved turned on all = by ss ss' (λ s' more e. turned s' more e) on all
  where
    each : (ss ss' : List PlainStream) → t'.turned ≡ (t.turned || turns) → StreamsOn turns ss ss' → All (NotedStream t) ss → All (NotedStream t') ss'
    each [] [] e on all = All-nil (NotedStream t')
    each [] (s ∷ ss) e on all = absurd on
    each (s ∷ ss) [] e on all = absurd on
    each (s ∷ ss) (s' ∷ ss') e on all = let old = All-head (NotedStream t) s ss all in All-cons (NotedStream t') s' ss' (record {
      turned = e ∙ ap (λ b. b || turns) old.turned ∙ sym on.0.1;
      came = subst (CameIf t'.moved) (sym on.0.0) (subst (λ m. CameIf m s.gives) (sym moved) old.came);
    }) (each ss ss' e on.1 (All-tail (NotedStream t) s ss all))

    by : (ss ss' : List PlainStream) → ((s' : PlainStream) (more : List PlainStream) → ss' ≡ s' ∷ more → t'.turned ≡ (t.turned || turns)) → StreamsOn turns ss ss' → All (NotedStream t) ss → All (NotedStream t') ss'
    by ss [] turned on all = All-nil (NotedStream t')
    by ss (s' ∷ ss') turned on all = each ss (s' ∷ ss') (turned s' ss' refl) on all

pub remains_known : (t t' : TakeoverKnown) (turns : Bool) (y x : PlainLink) → Remains turns y x → t'.dialed ≡ t.dialed → t'.moved ≡ t.moved → t'.obeyed ≡ t.obeyed
    → ((s' : PlainStream) (more : List PlainStream) → x.server.streams ≡ s' ∷ more → t'.turned ≡ (t.turned || turns)) → LinkKnown t y → LinkKnown t' x
remains_known t t' turns y x on dialed moved obeyed turned known = record {
  noted = record { dialed = dialed ∙ known.noted.dialed ∙ ap (λ d. d.takeover) (sym on.dialed); each = noted_on t t' turns y.server.streams x.server.streams moved turned on.streams known.noted.each };
  obeyed = obeyed_on t t' y x moved obeyed on.coming turns y.server.streams x.server.streams on.taking on.streams known.obeyed;
}
