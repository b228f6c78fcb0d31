-- the line `pump`: what is known of the link's answers behind it, by what its producer put
use Rattle.std.specs.Prelude.{◌≡◌, ◌≤◌, ◌∷◌, ◌++◌, ◌&&◌, ◌||◌, ◌==◌, ◌⊎◌, if◌then◌else◌}
use Rattle.std.specs.List.{All, list_any}
use Rattle.takeover.specs.declared.give_up.GiveStep.TheVariants.{AwaitActive, AwaitPending, SendAll, SendRest, Yield}
use Rattle.takeover.specs.declared.give_up.GiveUp.{GiveUp}
use Rattle.takeover.specs.declared.take_over.TakeStep.{TakeStep}
use Rattle.takeover.specs.declared.take_over.TakeStep.TheVariants.{Own, Pend}
use Rattle.transcript_law.proofs.Words.{ℕ, Bool, true, false, not, List, [], refl, ap, sym, ◌∙◌, subst, inl, inr, ⊎_elim, eq-eqb, Option, Some, None, All-head, Answer, Chronicle, Cluster, Event, LinkVerb, PlainConsumer, PlainLink, PlainStream, PlainWorld, Verb, frames_in, link_number}
use Rattle.transcript_law.proofs.invariant.{Agreement.{Agrees, Handing, IsLink, LinkAgrees}, Noted.{CameIf, NotedStream}}
use Rattle.transcript_law.proofs.noted.{Groups.{dial_at, known_is, read_with, turned_at}, Known.{ComesUp, LinkKnown, ObeyedIf, ObeyedOn, behind_answer, obeyed_kept}, Moments.{Moment, Stands, gives_at, last_at, stands_of, step_of, yield_last}, Upping.{link_of}}
use Rattle.transcript_law.specs.Chronicles.{after_group}
use Rattle.transcript_law.specs.LinesTold.{Put, TakeoverKnown, with_state}
use Rattle.transcript_law.specs.TakeoverNotes.{is_grant_of, is_state_of, turned_after, turns_feeder}

-- a stream on which no state was put: it stands where it did, or its vBucket was given up for it; or a state was put, pending first, and active once it was given up
abbrev pub PutsNone : PlainStream → PlainStream → Type 0
PutsNone s s' = (s'.gives ≡ s.gives) ⊎ (s'.gives ≡ Some (record { step = SendRest }))

abbrev pub PutsState : PlainStream → PlainStream → Type 0
PutsState s s' = ((step_of s.gives ≡ Some SendAll) × (s'.gives ≡ Some (record { step = AwaitPending }))) ⊎ (((step_of s.gives ≡ Some Yield) ⊎ (step_of s.gives ≡ Some SendRest)) × (s'.gives ≡ Some (record { step = AwaitActive })))

abbrev pub PumpStreams : Bool → List PlainStream → List PlainStream → Type 0
PumpStreams puts [] ss' = ss' ≡ []
PumpStreams puts (s ∷ ss) [] = Unit {0}
PumpStreams puts (s ∷ ss) (s' ∷ ss') = (s'.ended ≡ s.ended) × (((puts ≡ false) × PutsNone s s') ⊎ ((puts ≡ true) × PutsState s s'))

-- what became of the link
pub record PumpCame (lines : List Event) (link link' : PlainLink) : Type 0 where
  pub consumer : link'.consumer ≡ link.consumer
  pub heard : link'.up_heard ≡ link.up_heard
  pub up : link'.up ≡ link.up
  pub streams : PumpStreams (list_any (is_state_of (link_number link)) lines) link.server.streams link'.server.streams

-- what its consumer did by then
begins_last : (takeover : Bool) (m : Moment) → step_of (gives_at takeover m) ≡ Some SendAll → last_at m ≡ None
begins_last takeover (Moment.Follows Handing.Unstated) e = refl
begins_last takeover (Moment.Follows Handing.Offered) e = refl
begins_last takeover (Moment.Follows Handing.Pended) e = let z : Some AwaitPending ≡ Some SendAll = e in cc
begins_last takeover (Moment.Follows Handing.Due) e = let z : Some Yield ≡ Some SendAll = e in cc
begins_last takeover (Moment.Follows Handing.Ceded) e = let z : Some SendRest ≡ Some SendAll = e in cc
begins_last takeover (Moment.Follows Handing.Stated) e = let z : Some AwaitActive ≡ Some SendAll = e in cc
begins_last takeover (Moment.Owns true) e = cc
begins_last takeover (Moment.Owns false) e = cc

given_last : (takeover : Bool) (m : Moment) → (step_of (gives_at takeover m) ≡ Some Yield) ⊎ (step_of (gives_at takeover m) ≡ Some SendRest) → last_at m ≡ Some Pend
given_last true (Moment.Follows Handing.Unstated) (inl e) = let z : Some SendAll ≡ Some Yield = e in cc
given_last true (Moment.Follows Handing.Unstated) (inr e) = let z : Some SendAll ≡ Some SendRest = e in cc
given_last false (Moment.Follows Handing.Unstated) (inl e) = cc
given_last false (Moment.Follows Handing.Unstated) (inr e) = cc
given_last takeover (Moment.Follows Handing.Offered) (inl e) = cc
given_last takeover (Moment.Follows Handing.Offered) (inr e) = cc
given_last takeover (Moment.Follows Handing.Pended) e = refl
given_last takeover (Moment.Follows Handing.Due) e = refl
given_last takeover (Moment.Follows Handing.Ceded) e = refl
given_last takeover (Moment.Follows Handing.Stated) e = refl
given_last takeover (Moment.Owns true) (inl e) = cc
given_last takeover (Moment.Owns true) (inr e) = cc
given_last takeover (Moment.Owns false) (inl e) = cc
given_last takeover (Moment.Owns false) (inr e) = cc

module _ (w w' : PlainWorld) (r : Chronicle) (k : Cluster) (lines : List Event) (wanted : ℕ) (said : Answer) (link link' : PlainLink) (c : PumpCame lines link link') (b : LinkAgrees w r k link [] [])
    (a : Agrees w' (after_group r (Verb.AtLink (link_number link) (LinkVerb.Pump wanted)) lines said)) (there : IsLink link' w'.links)
    (none : list_any (is_grant_of (link_number link)) lines ≡ false) (known : LinkKnown (r.takeover_of (link_number link)) link) where
  abbrev asked : Verb
  asked = Verb.AtLink (link_number link) (LinkVerb.Pump wanted)

  abbrev l : ℕ
  l = link_number link

  abbrev after : Chronicle
  after = after_group r asked lines said

  abbrev read : Chronicle
  read = read_with r asked lines said

  abbrev t : TakeoverKnown
  t = r.takeover_of l

  same_number : link_number link' ≡ l
  same_number = ap (λ (y : PlainConsumer). y.dialed.link) c.consumer

  abbrev told : Bool → TakeoverKnown
  told q = if q then with_state t else t

  abbrev now : Bool → TakeoverKnown
  now q = record (told q) { turned = turned_after read asked lines l (told q).turned }

  now_is : after.takeover_of l ≡ now (list_any (is_state_of l) lines)
  now_is = known_is w' r asked lines said a l
      ∙ ap (λ (q : Bool). let m : TakeoverKnown = if q && list_any (is_state_of l) lines then with_state t else t in record m { turned = turned_after read asked lines l m.turned }) (eq-eqb l l refl)

  told_turned : (q : Bool) → (told q).turned ≡ t.turned
  told_turned true = refl
  told_turned false = refl

  told_dialed : (q : Bool) → (told q).dialed ≡ t.dialed
  told_dialed true = refl
  told_dialed false = refl

  -- by this line its vBucket is given up over it alone
  and_not : (x y : Bool) (q : Bool) → y ≡ true → (x || (q && not y)) ≡ x
  and_not true y q e = refl
  and_not false y true e = ap not e
  and_not false y false e = refl

  turned_here : (q : Bool) (s : PlainStream) (more : List PlainStream) → link'.server.streams ≡ s ∷ more → (now q).turned ≡ t.turned
  turned_here q s more e =
      subst (λ j. turned_after read asked lines j (told q).turned ≡ ((told q).turned || (turns_feeder (Some (dial_at link')) lines && not (l == j)))) same_number
      (turned_at w' r asked lines said a link' there (told q).turned (subst (λ j. list_any (is_grant_of j) lines ≡ false) (sym same_number) none) s more e)
      ∙ and_not (told q).turned (l == l) (turns_feeder (Some (dial_at link')) lines) (eq-eqb l l refl) ∙ told_turned q

  -- ---- its stream

  module _ (s s' : PlainStream) (y : Stands link s) (ended : s'.ended ≡ s.ended) (noted : NotedStream t s) (old : ObeyedOn t link s) where
    last_same : link'.consumer.taking.last ≡ link.consumer.taking.last
    last_same = ap (λ (j : PlainConsumer). j.taking.last) c.consumer

    gives_step : step_of s.gives ≡ step_of (gives_at link.consumer.dialed.takeover y.moment)
    gives_step = ap step_of y.gives

    -- the bytes on their way up are those that there were
    comes_same : (n : ℕ) → ComesUp n link → ComesUp n link'
    comes_same n come = subst (λ (bs : List ℕ × List ℕ). ComesUp n (record link' { up_heard = bs.0; up = bs.1 })) (λ i. (sym c.heard i, sym c.up i)) come

    abbrev Kept : TakeoverKnown → Type 0
    Kept t' = CameIf t'.moved s'.gives × ObeyedOn t' link' s'

    kept_as : (t' : TakeoverKnown) → t'.moved ≡ t.moved → t'.obeyed ≡ t.obeyed → PutsNone s s' → Kept t'
    kept_as t' moved obeyed (inl same) = (
      subst (CameIf t'.moved) (sym same) (subst (λ m. CameIf m s.gives) (sym moved) noted.came),
      subst (λ g. ObeyedIf t' link' g link'.consumer.taking.last) (sym same) (subst (ObeyedIf t' link' s.gives) (sym last_same)
          (obeyed_kept t t' link link' moved obeyed (λ n come. comes_same n come) s.gives link.consumer.taking.last old)),
    )
    kept_as t' moved obeyed (inr e) = (subst (CameIf t'.moved) (sym e) tt, subst (λ g. ObeyedIf t' link' g link'.consumer.taking.last) (sym e) tt)

    put_as : (t' : TakeoverKnown) → t'.obeyed ≡ Put → PutsState s s' → Kept t'
    put_as t' put (inl (e, f)) =
        let last : link'.consumer.taking.last ≡ None = last_same ∙ y.last ∙ begins_last link.consumer.dialed.takeover y.moment (sym gives_step ∙ e) in
        (subst (CameIf t'.moved) (sym f) tt, subst (λ g. ObeyedIf t' link' g link'.consumer.taking.last) (sym f) (subst (ObeyedIf t' link' (Some (record { step = AwaitPending }))) (sym last) put))
    put_as t' put (inr (e, f)) =
        let last : link'.consumer.taking.last ≡ Some Pend = last_same ∙ y.last ∙ given_last link.consumer.dialed.takeover y.moment (⊎_elim (λ z. inl (sym gives_step ∙ z)) (λ z. inr (sym gives_step ∙ z)) e) in
        (subst (CameIf t'.moved) (sym f) tt, subst (λ g. ObeyedIf t' link' g link'.consumer.taking.last) (sym f) (subst (ObeyedIf t' link' (Some (record { step = AwaitActive }))) (sym last) put))

    kept_by : (q : Bool) → ((q ≡ false) × PutsNone s s') ⊎ ((q ≡ true) × PutsState s s') → Kept (now q)
    kept_by false (inl (e, p)) = kept_as (now false) refl refl p
    kept_by false (inr (e, p)) = cc
    kept_by true (inl (e, p)) = cc
    kept_by true (inr (e, p)) = put_as (now true) refl p

  abbrev q : Bool
  q = list_any (is_state_of l) lines

  stream_at : (s' : PlainStream) (more : List PlainStream) → link'.server.streams ≡ s' ∷ more → (link'.server.streams ≡ s' ∷ []) × (NotedStream (now q) s' × ObeyedOn (now q) link' s')
  stream_at s' more e = ((stands_of w' after a.0 link' (a.1.links link' there) s' more e).alone, by link.server.streams refl (subst (PumpStreams q link.server.streams) e c.streams))
    where
      by : (ss : List PlainStream) → link.server.streams ≡ ss → PumpStreams q link.server.streams (s' ∷ more) → NotedStream (now q) s' × ObeyedOn (now q) link' s'
      by [] e' p = let z : s' ∷ more ≡ [] = subst (λ ss. PumpStreams q ss (s' ∷ more)) e' p in cc
      by (s ∷ ss) e' p =
          let x = subst (λ ss. PumpStreams q ss (s' ∷ more)) e' p in let y = stands_of w r k link b s ss e' in
          let noted = All-head (NotedStream t) s ss (subst (All (NotedStream t)) e' known.noted.each) in let old = All-head (ObeyedOn t link) s ss (subst (All (ObeyedOn t link)) e' known.obeyed) in
          let kept = kept_by s s' y x.0 noted old q x.1 in
          (record { turned = turned_here q s' more e ∙ noted.turned ∙ sym x.0; came = kept.0 }, kept.1)

  pub link_pump : LinkKnown (after.takeover_of (link_number link')) link'
  link_pump = subst (λ j. LinkKnown (after.takeover_of j) link') (sym same_number) (subst (λ m. LinkKnown m link') (sym now_is)
      (link_of (now q) link' (told_dialed q ∙ known.noted.dialed ∙ ap (λ (j : PlainConsumer). j.dialed.takeover) (sym c.consumer)) stream_at))
