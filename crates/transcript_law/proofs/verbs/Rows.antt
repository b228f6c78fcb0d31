-- all that the law needs of a line, in one record
use Rattle.std.specs.Prelude.{◌≡◌}
use Rattle.transcript_law.proofs.Words.{ℕ, List, [], refl, sym, subst, false, is_some, Answer, Cause, Event, Chronicle, LinkVerb, Verb, VerbFits, PlainNode, PlainWorld, Outcome, Told, LawfulAnswer, IsAnswered, after_verb, on_node}
use Rattle.node_world.specs.Rests.{Rests}
use Rattle.transcript_law.proofs.invariant.{Agreement.{Agrees, GoesOn, LineGoes}, Begun.{Begins}, AtRest.{RestsIf, Still, node_still, weaker}, CallsKept.{AllAt, InWorld}, ClientWorlds.{ConnsAre}, Entering.{Entered}, Feeding.{AllFed, AllKept, Fine, node_fine}, FedClients.{Keeps}, Ranged.{IsRanged, NodeRanged, NodeRangedIf, on_node_ranged}}
use Rattle.transcript_law.proofs.{ends.Links.{AllLinked}, noted.Joint.{Handed}}
use Rattle.transcript_law.proofs.lines.{Calm.{Spared}, Refusals.{Same, Says}}
use Rattle.transcript_law.proofs.verbs.{BoundAnswers.{bound_plain}, FiredLines.{DialsTold}, LineAnswers.{AllTold, ArmKnown, ShutTold, opens_of, told_of_opens}, NodeLines.{line_goes_on, on_node_by}}
use Rattle.transcript_law.specs.LawfulAnswers.{IsStill}
use Rattle.transcript_law.specs.{Bound.{IsBound, bound_by, if_down, is_told_down}, Chronicles.{ahead}, Firings.{FiresInLine}, Plainness.{IsStanding}, Tellings.{TellsOf}}

-- what a chronicle tells of a world with which it agrees
pub record AsTold (w : PlainWorld) (r : Chronicle) : Type 0 where
  pub agrees : Agrees w r
  pub rests : Rests w
  pub disks : AllTold w r
  pub shut : ShutTold w r
  pub arms : (n : ℕ) → ArmKnown w r n
  pub dials : DialsTold w r
  pub conns : ConnsAre w r.conn_at
  pub linked : AllLinked w r.dial_of
  pub ranged : IsRanged w
  pub handed : Handed w r

-- what else is known as a line begins: where it moves bytes of a link, all that is known of links
abbrev pub Started : PlainWorld → Verb → Chronicle → PlainWorld → Type 0
Started w (Verb.AtLink l (LinkVerb.Up wanted)) r w' = Handed w r
Started w (Verb.AtLink l (LinkVerb.Down wanted)) r w' = Handed w r
Started w (Verb.AtLink l (LinkVerb.Pump wanted)) r w' = Handed w r
Started w other r w' = Begins w other r w'

-- it tells of nothing else than it may; of a `down` and a `pump`, by which a vBucket may be handed over, more is said elsewhere
abbrev pub Tells : Chronicle → Verb → List Event → Type 0
Tells r (Verb.AtLink l (LinkVerb.Down wanted)) lines = Unit {0}
Tells r (Verb.AtLink l (LinkVerb.Pump wanted)) lines = Unit {0}
Tells r other lines = TellsOf r other lines

untold : (r : Chronicle) (line : Verb) → Tells r line []
untold r (Verb.AtLink l (LinkVerb.Down wanted)) = tt
untold r (Verb.AtLink l (LinkVerb.Pump wanted)) = tt
untold r other = refl

-- all that the law needs of a line that leaves this world and tells this
pub record Row (w : PlainWorld) (line : Verb) (came : Outcome) : Type 0 where
  -- clocks and connections are in their limits, nothing more may be committed where a vBucket is active, and each stream is that of an open link
  pub ranged : VerbFits line → IsRanged w → IsRanged came.0
  pub rests : (r : Chronicle) → IsRanged w → Handed w r → Agrees w r → InWorld Still w → InWorld RestsIf came.0
  pub fed : (r : Chronicle) → IsRanged w → IsStill r → Handed w r → Agrees w r → Fine w → AllKept w → AllFed came.0
  -- one that is refused changes nothing, and it is refused where it is bound to be
  pub keeps : Rests w → (why : Cause) → came.1.answer ≡ Answer.No why → IsStanding why → Same w came.0 × (came.1.events ≡ [])
  pub bound : (r : Chronicle) → Agrees w r → LawfulAnswer r line came.1.events came.1.answer → IsAnswered r line came.1.events came.1.answer
  pub tells : (r : Chronicle) → AsTold w r → Tells r line came.1.events
  -- it is answered as it may be, and tells of arms that fired as it is answered
  pub told : (r : Chronicle) → VerbFits line → AsTold w r → LawfulAnswer r line came.1.events came.1.answer × FiresInLine r line came.1.events came.1.answer
  -- the entries of logs stand where lines told that their branches were made; its lines are lawful, and all agrees behind it
  pub entered : (before r : Chronicle) → Entered r → Entered (after_verb before r line came.1.events came.1.answer)
  pub goes : (r : Chronicle) → VerbFits line → IsRanged w → IsStill r → Started w line r came.0 → Agrees w r → LineGoes (ahead r line came.1.answer) (λ told. after_verb r told line came.1.events came.1.answer) came

-- its lines, where they tell of no branch
abbrev pub Goes : Verb → Chronicle → Outcome → Type 0
Goes line r came = GoesOn (ahead r line came.1.answer) (λ told. after_verb r told line came.1.events came.1.answer) came

pub told_goes : (line : Verb) (r : Chronicle) (came : Outcome) → Goes line r came → LineGoes (ahead r line came.1.answer) (λ told. after_verb r told line came.1.events came.1.answer) came
told_goes line r came goes = line_goes_on (ahead r line came.1.answer) (λ told. after_verb r told line came.1.events came.1.answer) came goes

-- a line that its node carries out alone, and that calls no disk: by what it makes of its node and tells
pub node_spared : (w : PlainWorld) (n : ℕ) (f : PlainNode → PlainNode × Told) → IsRanged w → ((node : PlainNode) → NodeRanged n node → Spared (f node).1) → Spared (on_node w n f).1
node_spared w n f ranged spared = on_node_by (λ o. Spared o.1) w n f refl (λ node known. refl) (λ node known up. spared node (subst (NodeRangedIf n) known (ranged n)))

pub answered_row : (answered : Chronicle → Told → Type 0) (w : PlainWorld) (line : Verb) (n : ℕ) (f : PlainNode → PlainNode × Told)
    → ((r : Chronicle) → (bound_by r line ≡ if_down (is_told_down r n)) × ((told : Told) → Spared told → FiresInLine r line told.events told.answer))
    → ((before r : Chronicle) (lines : List Event) (said : Answer) → Entered r → Entered (after_verb before r line lines said))
    → (VerbFits line → (node : PlainNode) → is_some node.off ≡ false → NodeRanged n node → NodeRanged n (f node).0) → ((node : PlainNode) → NodeRanged n node → AllAt Still node.vbs → AllAt Still (f node).0.vbs)
    → ((node : PlainNode) → Keeps node (f node).0) → ((node : PlainNode) → NodeRanged n node → Spared (f node).1) → ((r : Chronicle) (node : PlainNode) → NodeRanged n node → Tells r line (f node).1.events)
    → ((r : Chronicle) → AllTold w r → Says (answered r) (Same w) (on_node w n f))
    → ((r : Chronicle) → AsTold w r → answered r (on_node w n f).1 → LawfulAnswer r line (on_node w n f).1.events (on_node w n f).1.answer)
    → ((r : Chronicle) → VerbFits line → IsRanged w → IsStill r → Started w line r (on_node w n f).0 → Agrees w r → Goes line r (on_node w n f)) → Row w line (on_node w n f)
answered_row answered w line n f quiet entered ranged still less spared tells says judged goes = let x : Told = (on_node w n f).1 in record {
  ranged = λ fits all. on_node_ranged w n f all (ranged fits);
  rests = λ r here h a all. weaker (on_node w n f).0 (node_still w here all n f still);
  fed = λ r here calm h a fine kept. (node_fine w n f fine less).fed;
  keeps = λ rests. (says (opens_of w) (told_of_opens w)).1;
  bound = λ r a rule. let ruled : Type 0 = LawfulAnswer r line x.events x.answer in subst (λ whys. IsBound whys ruled x.events x.answer) (sym (quiet r).0) (bound_plain w r a n f ruled rule);
  tells = λ r t. on_node_by (λ o. Tells r line o.1.events) w n f (untold r line) (λ node known. untold r line) (λ node known up. tells r node (subst (NodeRangedIf n) known (t.ranged n)));
  told = λ r fits t. (judged r t (says r t.disks).0, (quiet r).1 x (node_spared w n f t.ranged spared));
  entered = λ before r old. entered before r x.events x.answer old;
  goes = λ r fits here calm begins a. told_goes line r (on_node w n f) (goes r fits here calm begins a);
}

-- the same, where its lawful answer is all that is said of it
pub alone_row : (w : PlainWorld) (line : Verb) (n : ℕ) (f : PlainNode → PlainNode × Told)
    → ((r : Chronicle) → (bound_by r line ≡ if_down (is_told_down r n)) × ((told : Told) → Spared told → FiresInLine r line told.events told.answer))
    → ((before r : Chronicle) (lines : List Event) (said : Answer) → Entered r → Entered (after_verb before r line lines said))
    → (VerbFits line → (node : PlainNode) → is_some node.off ≡ false → NodeRanged n node → NodeRanged n (f node).0) → ((node : PlainNode) → NodeRanged n node → AllAt Still node.vbs → AllAt Still (f node).0.vbs)
    → ((node : PlainNode) → Keeps node (f node).0) → ((node : PlainNode) → NodeRanged n node → Spared (f node).1) → ((r : Chronicle) (node : PlainNode) → NodeRanged n node → Tells r line (f node).1.events)
    → ((r : Chronicle) → AllTold w r → Says (λ told. LawfulAnswer r line told.events told.answer) (Same w) (on_node w n f))
    → ((r : Chronicle) → VerbFits line → IsRanged w → IsStill r → Started w line r (on_node w n f).0 → Agrees w r → Goes line r (on_node w n f)) → Row w line (on_node w n f)
alone_row w line n f quiet entered ranged still less spared tells says goes =
    answered_row (λ r told. LawfulAnswer r line told.events told.answer) w line n f quiet entered ranged still less spared tells says (λ r t answered. answered) goes
