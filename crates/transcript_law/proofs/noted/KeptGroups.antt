-- whole groups by which active is stated on no link: a vBucket that was given up for a stream whose rest is sent is the writer of its branch yet
use Rattle.std.specs.Prelude.{◌≡◌, ◌∷◌, ◌==◌, ◌⊎◌, if◌then◌else◌}
use Rattle.std.specs.List.{list_any}
use Rattle.takeover.specs.declared.give_up.GiveStep.{GiveStep}
use Rattle.takeover.specs.declared.give_up.GiveStep.TheVariants.{AwaitActive, End, SendRest}
use Rattle.takeover.specs.declared.give_up.GiveUp.{GiveUp}
use Rattle.transcript_law.proofs.Words.{ℕ, Bool, true, false, List, [], refl, ap, sym, ◌∙◌, subst, ⊎_elim, All, All-cons, All-head, All-nil, All-tail, Option, Some, None, Answer, Chronicle, Cluster, Event, Frame, Granted, LinkVerb, Member, Plain, PlainConsumer, PlainLink, PlainProducer, PlainStream, PlainWorld, StreamName, Verb, link_number, producer_node, stream_branch, verb_step, with_branches}
use Rattle.transcript_law.proofs.invariant.{Agreement.{Agrees, AgreesAt, AgreesIn, EndsStand, IsLink, LinkAgrees, VbAgrees, Wants, idle, kept_stream, producer_seat, vb_of}, Holdings.{BranchAgrees}, Noted.{AllKept, KeptFor, KeptLink}}
use Rattle.transcript_law.proofs.noted.{Freed.{AllMade}, Groups.{RemainOn, dial_at, is_still, no_grants}, KeptLines.{Went, group_went, is_dial, is_unceding, none_first}, Known.{Remains, StreamsOn}, Lines.{apart_still, line_remain}, Others.{GrantsAlone, OthersRemain}}
use Rattle.transcript_law.proofs.verbs.{Tellings.{are_also}, Untaken.{all_beside, is_beside}}
use Rattle.transcript_law.specs.{Asked.{TellsAsAsked}, Chronicles.{after_group, ahead}, Heirs.{IsWriter}, Lawfulness.{LinesFrom}, LinesTold.{Dial}, TakeoverNotes.{is_grant_of, turns_feeder}, Tellings.{TellsOf, are_all}}

-- lines that are for no link state nothing
unceding : (line : Event) → is_beside line ≡ true → is_unceding line ≡ true
unceding (Event.Stated (StreamName.Link l) role) e = cc
unceding other e = refl

-- ---- the branch that such a vBucket is on, by what agrees behind a group

-- the step of a stream
abbrev pub step_in : Option GiveUp → Option GiveStep
step_in None = None
step_in (Some g) = Some g.step

module _ (w : PlainWorld) (r : Chronicle) (n v : ℕ) (told : Option Granted) where
  -- a stream whose rest is sent is of the branch that its vBucket is on
  abbrev pub OnBranch : PlainStream → Type 0
  OnBranch s = s.ended ≡ false → s.gives ≡ Some (record { step = SendRest }) → (g : Granted) → told ≡ Some g → (stream_branch g ≡ 0 → ⊥) → r.branch_at n v ≡ Some (stream_branch g)

  one_on : (over : Bool) (stream : PlainStream) → OnBranch stream → (streams : List PlainStream) → streams ≡ kept_stream over stream → All OnBranch streams
  one_on true s on streams e = subst (All OnBranch) (sym e) (All-nil OnBranch)
  one_on false s on streams e = subst (All OnBranch) (sym e) (All-cons OnBranch s [] on (All-nil OnBranch))

  none_on : (streams : List PlainStream) → streams ≡ [] → All OnBranch streams
  none_on streams e = subst (All OnBranch) (sym e) (All-nil OnBranch)

  -- one that handed its vBucket over sends nothing more
  heir_on : (answered : Bool) (s : PlainStream) → s.gives ≡ Some (if answered then record { step = End } else record { step = AwaitActive }) → OnBranch s
  heir_on true s is going rest g e named = let z : Some End ≡ Some SendRest = ap step_in (sym is ∙ rest) in cc
  heir_on false s is going rest g e named = let z : Some AwaitActive ≡ Some SendRest = ap step_in (sym is ∙ rest) in cc

branch_is : (o : Option ℕ) (br u : ℕ) → BranchAgrees o br → u ≡ br → (u ≡ 0 → ⊥) → o ≡ Some u
branch_is None br u b e named = absurd (named (e ∙ b))
branch_is (Some k) br u b e named = ap Some (sym b ∙ sym e)

module _ (w : PlainWorld) (r : Chronicle) (c : Cluster) (a : AgreesIn idle w r c) (link : PlainLink) (la : LinkAgrees w r c link [] []) where
  abbrev n : ℕ
  n = producer_node link

  abbrev vb : ℕ
  vb = link.consumer.dialed.vb

  abbrev told : Option Granted
  told = r.stream_of (StreamName.Link (link_number link)) vb

  stands_on : {fv : Wants} {kn : Member} {said : _} {point : _} {up down : List Frame} → EndsStand fv kn (vb_of w n vb) (c.nodes (producer_seat link)) told said point link.server link.consumer up down → All (OnBranch w r n vb told) link.server.streams
  stands_on (EndsStand.IsAsking ask none x) = none_on w r n vb told link.server.streams x.no_stream
  stands_on (EndsStand.IsRefusedYet none x) = none_on w r n vb told link.server.streams x.no_stream
  stands_on (EndsStand.IsHeir x said) = one_on w r n vb told x.granted_is.over x.stream (heir_on w r n vb told x.answered x.stream x.gives_is) link.server.streams x.stream_is
  stands_on (EndsStand.IsStreaming x said) = one_on w r n vb told x.granted_is.over x.serving.stream (λ going rest g e named.
      let o = x.streams.opens going in
      let both : Some x.granted_is ≡ Some g = sym x.told ∙ e in let it : x.granted_is ≡ g = cc in
      let agrees : VbAgrees r n vb (c.nodes (producer_seat link)) o.producer = subst (AgreesAt r n vb (c.nodes (producer_seat link))) o.producer_is (a.vbs n vb) in
      branch_is (r.branch_at n vb) (c.nodes (producer_seat link)).br (stream_branch g) agrees.branch (ap stream_branch (sym it) ∙ x.streams.front_is ∙ sym o.leads) named) link.server.streams x.serving.stream_is

  ends_on : All (OnBranch w r n vb told) link.server.streams
  ends_on = stands_on la.talk.stands

-- ---- streams whose rest is sent behind a group sent it before

abbrev pub IsSending : PlainStream → Type 0
IsSending s = (s.gives ≡ Some (record { step = SendRest })) × (s.ended ≡ false)

abbrev pub RestsOn : List PlainStream → List PlainStream → Type 0
RestsOn ss [] = Unit {0}
RestsOn [] (s' ∷ ss') = (IsSending s' → ⊥) × RestsOn [] ss'
RestsOn (s ∷ ss) (s' ∷ ss') = (IsSending s' → IsSending s) × RestsOn ss ss'

pub streams_rest : (turns : Bool) (ss ss' : List PlainStream) → StreamsOn turns ss ss' → RestsOn ss ss'
streams_rest turns [] [] on = tt
streams_rest turns [] (s ∷ ss) on = absurd on
streams_rest turns (s ∷ ss) [] on = absurd on
streams_rest turns (s ∷ ss) (s' ∷ ss') on = ((λ x. (sym on.0.0 ∙ x.0, (none_first s.ended turns (sym on.0.1 ∙ x.1)).0)), streams_rest turns ss ss' on.1)

pub rests_same : (ss : List PlainStream) → RestsOn ss ss
rests_same [] = tt
rests_same (s ∷ ss) = ((λ x. x), rests_same ss)

-- a link whose streams send no rest
pub none_kept : (r : Chronicle) (n v : ℕ) (told : Option Granted) (ss : List PlainStream) → RestsOn [] ss → All (KeptFor r n v told) ss
none_kept r n v told [] none = All-nil (KeptFor r n v told)
none_kept r n v told (s ∷ ss) none = All-cons (KeptFor r n v told) s ss (λ g e rest going. absurd (none.0 (rest, going))) (none_kept r n v told ss none.1)

module _ (w w' : PlainWorld) (r : Chronicle) (asked : Verb) (lines : List Event) (said : Answer) (a : Agrees w r) (from : LinesFrom (ahead r asked said) r.conn_at lines) (made : AllMade r) (b : Agrees w' (after_group r asked lines said)) where
  abbrev r' : Chronicle
  r' = after_group r asked lines said

  module _ (y x : PlainLink) (i : IsLink y w.links) (j : IsLink x w'.links) (dialed : x.consumer.dialed ≡ y.consumer.dialed) (apart : is_dial (link_number x) 0 asked said ≡ false) (grants : list_any (is_grant_of (link_number x)) lines ≡ false) (cedes : are_all is_unceding lines ≡ true) where
    abbrev v : ℕ
    v = x.consumer.dialed.vb

    abbrev l : ℕ
    l = link_number x

    went : (u : ℕ) → Went l u r r'
    went u = group_went l u r asked lines said from apart grants cedes

    -- the same vBucket feeds it
    dial_before : r.dial_of l ≡ Some (record { producer = producer_node y; node = x.consumer.dialed.node; vb = v })
    dial_before = subst (λ d. r.dial_of d.link ≡ Some (record { producer = producer_node y; node = d.node; vb = d.vb })) (sym dialed) (a.1.links y i).dial.dialed

    same_feeder : producer_node y ≡ producer_node x
    same_feeder =
        let both : Some (record { producer = producer_node y; node = x.consumer.dialed.node; vb = v }) ≡ Some (dial_at x) = sym dial_before ∙ (went 0).dials (dial_at x) (b.1.links x j).dial.dialed in
        let is : record { producer = producer_node y; node = x.consumer.dialed.node; vb = v } ≡ dial_at x = cc in ap (λ (d : Dial). d.producer) is

    abbrev Before : PlainStream → Type 0
    Before = KeptFor r (producer_node x) v (r.stream_of (StreamName.Link l) v)

    abbrev Behind : PlainStream → Type 0
    Behind = KeptFor r' (producer_node x) v (r'.stream_of (StreamName.Link l) v)

    abbrev On : PlainStream → Type 0
    On = OnBranch w' r' (producer_node x) v (r'.stream_of (StreamName.Link l) v)

    one_kept : (s s' : PlainStream) → (IsSending s' → IsSending s) → Before s → On s' → Behind s'
    one_kept s s' sends before on g' told rest going =
        let (g, was, same) = (went (stream_branch g')).streams v g' told in
        let sent = sends (rest, going) in
        let writer : IsWriter r (producer_node x) v (stream_branch g') = subst (IsWriter r (producer_node x) v) same (before g was sent.0 sent.1) in
        let is = made (stream_branch g') (producer_node x) v writer.made_or_took in
        record { made_or_took = (went (stream_branch g')).writers is.0 (producer_node x) v writer.made_or_took; on_branch = on going rest g' told is.1 }

    all_kept : (ss ss' : List PlainStream) → RestsOn ss ss' → All Before ss → All On ss' → All Behind ss'
    all_kept ss [] rests before on = All-nil Behind
    all_kept [] (s' ∷ ss') rests before on = All-cons Behind s' ss' (λ g told rest going. absurd (rests.0 (rest, going))) (all_kept [] ss' rests.1 before (All-tail On s' ss' on))
    all_kept (s ∷ ss) (s' ∷ ss') rests before on = All-cons Behind s' ss' (one_kept s s' rests.0 (All-head Before s ss before) (All-head On s' ss' on)) (all_kept ss ss' rests.1 (All-tail Before s ss before) (All-tail On s' ss' on))

    pub link_kept : RestsOn y.server.streams x.server.streams → KeptLink r y → KeptLink r' x
    link_kept rests old = all_kept y.server.streams x.server.streams rests
        (subst (λ n. All (KeptFor r n v (r.stream_of (StreamName.Link l) v)) y.server.streams) same_feeder (subst (λ d. All (KeptFor r (producer_node y) d.vb (r.stream_of (StreamName.Link d.link) d.vb)) y.server.streams) (sym dialed) old))
        (ends_on w' r' b.0 b.1 x (b.1.links x j))

-- ---- lines that are for no link, or cut one

not_dialed : (l u : ℕ) (line : Verb) (said : Answer) → is_still line ≡ true → is_dial l u line said ≡ false
not_dialed l u (Verb.Link k m n v buffer takeover) said e = cc
not_dialed l u other said e = refl

pub still_kept : (w : PlainWorld) (r : Chronicle) (number : ℕ) (line : Verb) → is_still line ≡ true
    → (let o = verb_step w number line in TellsOf r line o.1.events → TellsAsAsked line o.1.events o.1.answer → Agrees w r → LinesFrom (ahead r line o.1.answer) r.conn_at o.1.events → AllMade r → Agrees (with_branches o.1.events o.0) (after_group r line o.1.events o.1.answer)
    → AllKept w r → AllKept (with_branches o.1.events o.0) (after_group r line o.1.events o.1.answer))
still_kept w r number line still t asked a from made b kept x j =
    let o = verb_step w number line in
    let beside : are_all is_beside o.1.events ≡ true = all_beside r line o.1.events (apart_still line still) t in
    let (y, i, on) = line_remain w r a.0 a.1 number line still t asked x j in
    link_kept w (with_branches o.1.events o.0) r line o.1.events o.1.answer a from made b y x i j on.dialed (not_dialed (link_number x) 0 line o.1.answer still) (no_grants (link_number x) o.1.events beside) (are_also is_unceding is_beside unceding o.1.events beside)
    (streams_rest (turns_feeder (Some (dial_at x)) o.1.events) y.server.streams x.server.streams on.streams) (kept y i)

-- ---- a line that moves bytes of the link k, and states active on none: where its own link is kept, so are all

pub moved_kept : (w w' : PlainWorld) (r : Chronicle) (k : ℕ) (what : LinkVerb) (lines : List Event) (said : Answer) → (let asked = Verb.AtLink k what in let after = after_group r asked lines said in Agrees w r → LinesFrom (ahead r asked said) r.conn_at lines → AllMade r → Agrees w' after → GrantsAlone k lines → are_all is_unceding lines ≡ true
    → OthersRemain k lines w.links w'.links (λ x. KeptLink after x) → AllKept w r → AllKept w' after)
moved_kept w w' r k what lines said a from made b grants cedes remain kept x j = ⊎_elim (λ own. own)
    (λ (other, y, i, on). link_kept w w' r (Verb.AtLink k what) lines said a from made b y x i j on.dialed refl (grants (link_number x) other) cedes
    (streams_rest (turns_feeder (Some (dial_at x)) lines) y.server.streams x.server.streams on.streams) (kept y i))
    (remain x j)
