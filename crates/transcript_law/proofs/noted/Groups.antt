-- what is noted of links behind a whole group, by what became of each link
use Rattle.std.specs.Prelude.{◌≡◌, ◌∷◌, ◌&&◌, ◌||◌, ◌==◌, if◌then◌else◌}
use Rattle.std.specs.List.{list_any}
use Rattle.transcript_law.proofs.Words.{ℕ, Bool, true, false, not, List, [], refl, ap, sym, ◌∙◌, subst, inl, and_parts, Option, Some, None, Answer, Chronicle, Cluster, Event, Frame, Granted, LinkVerb, Member, Plain, PlainConsumer, PlainLink, PlainProducer, PlainStream, PlainWorld, Position, Role, StreamName, Verb, after_lines, link_number}
use Rattle.transcript_law.proofs.invariant.Agreement.{Agrees, AgreesIn, EndsStand, IsLink, LinkAgrees, Wants, idle, kept_stream}
use Rattle.transcript_law.proofs.lines.Takeovers.{read_takeovers}
use Rattle.transcript_law.proofs.noted.Known.{AllKnown, LinkKnown, Remains, remains_known}
use Rattle.transcript_law.proofs.verbs.Untaken.{is_apart, is_beside}
use Rattle.transcript_law.specs.Chronicles.{after_group, after_verb, ahead}
use Rattle.transcript_law.specs.LinesTold.{Dial, TakeoverKnown}
use Rattle.transcript_law.specs.TakeoverNotes.{is_ended, is_grant_of, is_pump_of, obeyed_after, stream_over, takeover_after, turned_after, turns_feeder}
use Rattle.transcript_law.specs.Tellings.{are_all}

-- a link's dial, as its ends have it
abbrev pub dial_at : PlainLink → Dial
dial_at link = record { producer = link.server.desk.node; node = link.consumer.dialed.node; vb = link.consumer.dialed.vb }

-- what is read with a group, before what is noted of links
abbrev pub read_with : Chronicle → Verb → List Event → Answer → Chronicle
read_with r asked lines said = after_verb r (after_lines (ahead r asked said) lines) asked lines said

-- ---- a stream that its producer keeps is not over

kept_on : (over : Bool) (stream s : PlainStream) (more : List PlainStream) → s ∷ more ≡ kept_stream over stream → over ≡ false
kept_on true stream s more e = cc
kept_on false stream s more e = refl

ends_on : (fv : Wants) (kn : Member) (pv : Option Plain) (leader : Member) (g : Option Granted) (said : Option Role) (point : Option ℕ) (served : PlainProducer) (asker : PlainConsumer) (up down : List Frame) → EndsStand fv kn pv leader g said point served asker up down
    → (s : PlainStream) (more : List PlainStream) → served.streams ≡ s ∷ more → is_ended g ≡ false
ends_on fv kn pv leader g said point served asker up down (EndsStand.IsAsking ask none x) s more e = let z : [] ≡ s ∷ more = sym x.no_stream ∙ e in cc
ends_on fv kn pv leader g said point served asker up down (EndsStand.IsRefusedYet none x) s more e = let z : [] ≡ s ∷ more = sym x.no_stream ∙ e in cc
ends_on fv kn pv leader g said point served asker up down (EndsStand.IsStreaming x is) s more e = ap is_ended x.told ∙ kept_on x.granted_is.over x.serving.stream s more (sym e ∙ x.serving.stream_is)
ends_on fv kn pv leader g said point served asker up down (EndsStand.IsHeir x is) s more e = ap is_ended x.told ∙ kept_on x.granted_is.over x.stream s more (sym e ∙ x.stream_is)

pub goes_on : (w : PlainWorld) (r : Chronicle) (c : Cluster) (link : PlainLink) (up down : List Frame) → LinkAgrees w r c link up down → (s : PlainStream) (more : List PlainStream) → link.server.streams ≡ s ∷ more
    → is_ended (stream_over r (link_number link) (r.dial_of (link_number link))) ≡ false
goes_on w r c link up down a s more e = ap (λ d. is_ended (stream_over r (link_number link) d)) a.dial.dialed ∙ ends_on _ _ _ _ _ _ _ link.server link.consumer _ _ a.talk.stands s more e

-- ---- by what lines tell

-- none of these lets a link continue
no_grant : (l : ℕ) (line : Event) → is_beside line ≡ true → is_grant_of l line ≡ false
no_grant l (Event.Asked (StreamName.Link k) n v ask high log said) e = cc
no_grant l other e = refl

pub no_grants : (l : ℕ) (lines : List Event) → are_all is_beside lines ≡ true → list_any (is_grant_of l) lines ≡ false
no_grants l [] a = refl
no_grants l (line ∷ lines) a = let p = and_parts (is_beside line) (are_all is_beside lines) a in λ i. no_grant l line p.0 i || no_grants l lines p.1 i

-- whether it turned, where nothing of it is granted and its stream goes on
pub turned_is : (read : Chronicle) (asked : Verb) (lines : List Event) (l : ℕ) (before : Bool) → list_any (is_grant_of l) lines ≡ false → is_ended (stream_over read l (read.dial_of l)) ≡ false
    → turned_after read asked lines l before ≡ (before || (turns_feeder (read.dial_of l) lines && not (is_pump_of l asked)))
turned_is read asked lines l before none goes = by (list_any (is_grant_of l) lines) (is_ended (stream_over read l (read.dial_of l))) none goes
  where
    more : Bool
    more = before || (turns_feeder (read.dial_of l) lines && not (is_pump_of l asked))

    by : (a b : Bool) → a ≡ false → b ≡ false → (if a then false else if b then before else more) ≡ more
    by true b e f = cc
    by false true e f = cc
    by false false e f = refl

-- ---- lines that are for no link, or cut one

abbrev pub is_still : Verb → Bool
is_still (Verb.Link l m n v buffer takeover) = false
is_still other = is_apart other

still_obeyed : (dial : Option Dial) (asked : Verb) (lines : List Event) (said : Answer) (l : ℕ) (t : TakeoverKnown) → is_still asked ≡ true → obeyed_after dial asked lines said l t ≡ t
still_obeyed dial (Verb.Link k m n v buffer takeover) lines said l t e = cc
still_obeyed dial (Verb.AtLink k (LinkVerb.Up wanted)) lines said l t e = cc
still_obeyed dial (Verb.AtLink k (LinkVerb.Down wanted)) lines said l t e = cc
still_obeyed dial (Verb.AtLink k (LinkVerb.Pump wanted)) lines said l t e = cc
still_obeyed dial (Verb.AtLink k LinkVerb.Drop) lines said l t e = refl
still_obeyed dial (Verb.AtLink k LinkVerb.Cut) lines said l t e = refl
still_obeyed dial (Verb.Node n) lines said l t e = refl
still_obeyed dial (Verb.AtNode n what) lines said l t e = refl
still_obeyed dial (Verb.AtVb n v what) lines said l t e = refl
still_obeyed dial (Verb.AtClient n c what) lines said l t e = refl

still_pumps : (l : ℕ) (asked : Verb) → is_still asked ≡ true → is_pump_of l asked ≡ false
still_pumps l (Verb.AtLink k (LinkVerb.Pump wanted)) e = cc
still_pumps l other e = refl

-- each link is one that was there, whose streams are ended where the vBucket that feeds it got a role
abbrev pub RemainOn : List Event → List PlainLink → List PlainLink → Type 0
RemainOn lines links links' = (x : PlainLink) → IsLink x links' → (y : PlainLink) × IsLink y links × Remains (turns_feeder (Some (dial_at x)) lines) y x

and_true : (a b : Bool) → b ≡ false → (a && not b) ≡ a
and_true true b e = ap not e
and_true false b e = refl

-- what is known of a link once these lines are told
module _ (w' : PlainWorld) (r : Chronicle) (asked : Verb) (lines : List Event) (said : Answer) (a : Agrees w' (after_group r asked lines said)) where
  abbrev read : Chronicle
  read = read_with r asked lines said

  pub known_is : (l : ℕ) → takeover_after read asked lines said l (read.takeover_of l) ≡ takeover_after read asked lines said l (r.takeover_of l)
  known_is l i = takeover_after read asked lines said l (read_takeovers r asked lines said i l)

  -- whether it turned, by its dial
  pub turned_at : (x : PlainLink) → IsLink x w'.links → (before : Bool) → list_any (is_grant_of (link_number x)) lines ≡ false → (s : PlainStream) (more : List PlainStream) → x.server.streams ≡ s ∷ more
      → turned_after read asked lines (link_number x) before ≡ (before || (turns_feeder (Some (dial_at x)) lines && not (is_pump_of (link_number x) asked)))
  turned_at x i before none s more e =
      let mine : LinkAgrees w' (after_group r asked lines said) a.0 x [] [] = a.1.links x i in
      turned_is read asked lines (link_number x) before none (goes_on w' (after_group r asked lines said) a.0 x [] [] mine s more e)
      ∙ ap (λ d. before || (turns_feeder d lines && not (is_pump_of (link_number x) asked))) mine.dial.dialed

  -- one that is not the line's
  pub link_known : (y x : PlainLink) → IsLink x w'.links → list_any (is_grant_of (link_number x)) lines ≡ false → is_pump_of (link_number x) asked ≡ false
      → obeyed_after (read.dial_of (link_number x)) asked lines said (link_number x) (r.takeover_of (link_number x)) ≡ r.takeover_of (link_number x)
      → Remains (turns_feeder (Some (dial_at x)) lines) y x → LinkKnown (r.takeover_of (link_number y)) y → LinkKnown ((after_group r asked lines said).takeover_of (link_number x)) x
  link_known y x i none pumps same on old =
      let l = link_number x in let t : TakeoverKnown = r.takeover_of l in let turns = turns_feeder (Some (dial_at x)) lines in
      let now : TakeoverKnown = record t { turned = turned_after read asked lines l t.turned } in
      let is : takeover_after read asked lines said l (read.takeover_of l) ≡ now = known_is l ∙ ap (λ (k : TakeoverKnown). record k { turned = turned_after read asked lines l k.turned }) same in
      let known = subst (λ k. LinkKnown (r.takeover_of k) y) (ap (λ d. d.link) (sym on.dialed)) old in
      subst (λ k. LinkKnown k x) (sym is)
      (remains_known t now turns y x on refl refl refl (λ s more e. turned_at x i t.turned none s more e ∙ ap (λ b. t.turned || b) (and_true turns (is_pump_of l asked) pumps)) known)

  pub still_known : is_still asked ≡ true → are_all is_beside lines ≡ true → (w : PlainWorld) → RemainOn lines w.links w'.links → AllKnown w r → AllKnown w' (after_group r asked lines said)
  still_known still beside w on all x i = let (y, j, remains) = on x i in
      link_known y x i (no_grants (link_number x) lines beside) (still_pumps (link_number x) asked still) (still_obeyed (read.dial_of (link_number x)) asked lines said (link_number x) (r.takeover_of (link_number x)) still) remains (all y j)
