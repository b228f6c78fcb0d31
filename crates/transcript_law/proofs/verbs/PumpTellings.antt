-- the line `pump`: it tells nothing else than it may, each line of a takeover stands where it may, and it is answered so
use Rattle.std.specs.Prelude.{◌≡◌, ◌≢◌, ◌⊎◌, ◌∷◌, ◌++◌, ◌||◌, if◌then◌else◌, nat_lt}
use Rattle.transcript_law.proofs.Words.{ℕ, zero, suc, Bool, true, false, List, [], length, filter, refl, ap, sym, ◌∙◌, subst, inl, inr, ⊎_elim, arith, nat_tests, and_parts, list_any, list_any-append, Option, Some, None, All, Dial, Answer, Chronicle, Event, LinkVerb, Outcome, Verb, Why}
use Rattle.transcript_law.proofs.Words.{PlainLink, PlainStream, PlainWorld, StaysSound, TakesSnapshots, after_lines, is_frame, frames_in_lines, link_number, on_link, producer_node, pump_at, row_at}
use Rattle.node_world.specs.{Pairing.{Each}, Pumps.{gives_at}, World.{pump_outcome, pump_step}}
use Rattle.takeover.specs.declared.give_up.GiveStep.TheVariants.{AwaitActive, AwaitPending, SendRest, Yield}
use Rattle.transcript_law.proofs.invariant.{Agreement.{Agrees, GoesOn, IsLink, LinkAgrees}, LinkRows.{found_is_link, row_found}, Ranged.{IsRanged}}
use Rattle.transcript_law.proofs.{lines.Lines.{after_more, lawful_more}, lines.Pulling.{lets_through}, links.PumpWorlds.{AllKnown, HasStep, Stopped, Waited, step_is}, links.Yields.{stream_left}}
use Rattle.transcript_law.proofs.verbs.{NodeLines.{as_told}, PumpFirst.{IsFirst, frames_first}, PumpFrames.{PutLink, PutsOn, all_state, frames_on, no_pulled}, Pumping.{Gave, GaveFirst, NoneYields, NotYields, YieldLink, gave, hands_behind}, Settling.{Steady}, Tellings.{tell_all}}
use Rattle.transcript_law.specs.{LawfulAnswers.{AllDurable}, TakeoverAnswers.{ComesLater, HandsOver, PumpsOn, PutsBehind, StopsFor}, TakeoverLines.{TakeoverFrom}, TakeoverNotes.{is_grant_of, is_state_of, turns_feeder}, Takeovers.{GivesUp, MovesAt, TellsOnly}, Tellings.{are_all, are_told, at_link, is_of_clients, is_of_end, is_of_pump}}
use Rattle.transcript_law.proofs.{noted.Groups.{dial_at}, noted.Known.{Remains}, verbs.PumpOthers.{WireSame, YieldBeside, yield_wire, alone_remains, beside_remains, no_client_grants, no_grants, no_roles, yield_kept}, invariant.Carried.{numbers}, invariant.Noted.{AllKept, KeptLink}}
use Rattle.transcript_law.proofs.{lines.Takeovers.{lines_takeovers}, links.PumpEnds.{PutsSo, ends_as}}
use Rattle.transcript_law.specs.LinesTold.{TakeoverKnown}

-- ---- by what single lines tell of

pump_frame : (l : ℕ) (line : Event) → is_of_pump l line ≡ true → is_frame line ≡ true
pump_frame l (Event.Marked stream start end flags) q = refl
pump_frame l (Event.Item stream seq act key) q = refl
pump_frame l (Event.Finished stream reason) q = refl
pump_frame l (Event.Stated stream role) q = refl
pump_frame l other q = cc

some_frames : (l : ℕ) (lines : List Event) → are_all (is_of_pump l) lines ≡ true → (lines ≡ [] → ⊥) → frames_in_lines lines ≡ 0 → ⊥
some_frames l [] own some e = some refl
some_frames l (line ∷ lines) own some e =
    let p = and_parts (is_of_pump l line) (are_all (is_of_pump l) lines) own in
    let z : suc (length (filter is_frame lines)) ≡ 0 = ap (λ (b : Bool). length (if b then line ∷ filter is_frame lines else filter is_frame lines)) (sym (pump_frame l line p.0)) ∙ e in omega (arith, z)

no_feeder : (l : ℕ) (dial : Option Dial) (lines : List Event) → are_all (is_of_pump l) lines ≡ true → turns_feeder dial lines ≡ false
no_feeder l None lines own = refl
no_feeder l (Some dial) lines own = no_roles l dial.producer dial.vb lines own

no_state : (l n : ℕ) (line : Event) → is_of_clients n line ≡ true → is_state_of l line ≡ false
no_state l n (Event.Stated stream role) q = cc
no_state l n other q = refl

no_states : (l n : ℕ) (lines : List Event) → are_all (is_of_clients n) lines ≡ true → list_any (is_state_of l) lines ≡ false
no_states l n [] own = refl
no_states l n (line ∷ lines) own = let p = and_parts (is_of_clients n line) (are_all (is_of_clients n) lines) own in λ i. no_state l n line p.0 i || no_states l n lines p.1 i

-- ---- by lines in front of which nothing is given up

tells_alone : (r : Chronicle) (l frames : ℕ) (es more : List Event) → es ≡ [] → are_told (λ line. at_link (r.dial_of l) l (LinkVerb.Pump frames) line) (is_of_end r) more ≡ true → TellsOnly r (Verb.AtLink l (LinkVerb.Pump frames)) (es ++ more)
tells_alone r l frames es more none told = subst (λ es. TellsOnly r (Verb.AtLink l (LinkVerb.Pump frames)) (es ++ more)) (sym none) (inl told)

turns_alone : (r : Chronicle) (l : ℕ) (es more : List Event) → es ≡ [] → are_all (is_of_pump l) more ≡ true → turns_feeder (r.dial_of l) (es ++ more) ≡ true → ⊥
turns_alone r l es more none own turned =
    let turned_more : turns_feeder (r.dial_of l) more ≡ true = subst (λ es. turns_feeder (r.dial_of l) (es ++ more) ≡ true) none turned in
    let z : false ≡ true = sym (no_feeder l (r.dial_of l) more own) ∙ turned_more in cc

-- frames that were put are counted
counts_some : (l : ℕ) (lines : List Event) (n : ℕ) (why : Why) → are_all (is_of_pump l) lines ≡ true → n ≡ frames_in_lines lines → (lines ≡ [] → ⊥) ⊎ ComesLater why → (n ≢ 0) ⊎ ComesLater why
counts_some l lines n why own told (inl some) = inl (λ zero_is. some_frames l lines own some (sym told ∙ zero_is))
counts_some l lines n why own told (inr later) = inr later

-- ---- streams that wait for the answer to a state

abbrev pub AwaitsOn : PlainStream → Type 0
AwaitsOn x = (x.ended ≡ false) × ((x.gives ≡ Some (record { step = AwaitPending })) ⊎ (x.gives ≡ Some (record { step = AwaitActive })))

abbrev pub Holds : List PlainStream → Type 0
Holds [] = ⊥
Holds (x ∷ xs) = AwaitsOn x ⊎ Holds xs

holds_of : (streams : List PlainStream) → Waited streams → Each NotYields streams → Holds streams
holds_of [] waited rests = absurd waited
holds_of (x ∷ xs) (inl (going, inl e)) rests = inl (going, inl e)
holds_of (x ∷ xs) (inl (going, inr (inl e))) rests = absurd (rests.0 going e)
holds_of (x ∷ xs) (inl (going, inr (inr e))) rests = inl (going, inr e)
holds_of (x ∷ xs) (inr there) rests = inr (holds_of xs there rests.1)

-- one that sends the rest does not wait
left_waits : (t : PlainStream) → Waited (stream_left t ∷ []) → ⊥
left_waits t (inl (going, inl e)) = let z : Some SendRest ≡ Some AwaitPending = ap step_is e in cc
left_waits t (inl (going, inr (inl e))) = let z : Some SendRest ≡ Some Yield = ap step_is e in cc
left_waits t (inl (going, inr (inr e))) = let z : Some SendRest ≡ Some AwaitActive = ap step_is e in cc
left_waits t (inr there) = there

-- ---- the link behind it

-- its streams stand as they did, but for a state that was put; or its vBucket was given up before
abbrev pub Goes : Bool → List PlainStream → List PlainStream → Type 0
Goes puts first now = All (λ s. HasStep puts s first) now ⊎ ((t : PlainStream) × (first ≡ t ∷ []) × (t.gives ≡ Some (record { step = Yield })) × All (λ s. HasStep puts s (stream_left t ∷ [])) now)

pub record Moved (r : Chronicle) (l : ℕ) (lines : List Event) (x x' : PlainLink) : Type 0 where
  pub consumer : x'.consumer ≡ x.consumer
  pub heard : x'.up_heard ≡ x.up_heard
  pub up : x'.up ≡ x.up
  pub streams : Goes (list_any (is_state_of l) lines) x.server.streams x'.server.streams
  pub down_heard : x'.down_heard ≡ x.down_heard
  pub out : List ℕ
  pub down : x'.down ≡ x.down ++ out
  pub ends : PutsSo r x out

-- ---- all together

pub record PumpTold (w : PlainWorld) (r : Chronicle) (l frames : ℕ) (o : Outcome) : Type 0 where
  pub goes : GoesOn r as_told o
  pub hands : TakeoverFrom r o.1.events
  pub tells : TellsOnly r (Verb.AtLink l (LinkVerb.Pump frames)) o.1.events
  pub stops : (n : ℕ) (why : Why) → o.1.answer ≡ Answer.Pulled n why → Stopped (after_lines r o.1.events) l why
  pub puts : (n : ℕ) (why : Why) → o.1.answer ≡ Answer.Pulled n why → PutsBehind r l o.1.events n why
  pub waits : (n : ℕ) → o.1.answer ≡ Answer.Pulled n Why.WaitState → (list_any (is_state_of l) o.1.events ≡ true) ⊎ ((x : PlainLink) × (row_at link_number l w.links ≡ Some x) × Holds x.server.streams)
  pub came : (x : PlainLink) → row_at link_number l w.links ≡ Some x → (x' : PlainLink) × (row_at link_number l o.0.links ≡ Some x') × Moved r l o.1.events x x'
  pub kept : AllKept o.0 (after_lines r o.1.events)
  pub grants : (k : ℕ) → list_any (is_grant_of k) o.1.events ≡ false
  pub had : (x : PlainLink) → IsLink x o.0.links → link_number x ≡ l → (y : PlainLink) × (row_at link_number l w.links ≡ Some y)
  pub others : (x : PlainLink) → IsLink x o.0.links → (link_number x ≡ l → ⊥) → (y : PlainLink) × IsLink y w.links × Remains (turns_feeder (Some (dial_at x)) o.1.events) y x × WireSame y x

module _ (takes : TakesSnapshots) (stays : StaysSound) (steady : Steady) (w : PlainWorld) (r : Chronicle) (l frames : ℕ) (a : Agrees w r) (ranged : IsRanged w) (calm : AllDurable r.made) (all : AllKnown w r) where
  module _ (link : PlainLink) (e : row_at link_number l w.links ≡ Some link) where
    abbrev first : Outcome
    first = gives_at frames link w (w.nodes (producer_node link))

    abbrev mid : Chronicle
    mid = after_lines r first.1.events

    abbrev came : Outcome
    came = on_link first.0 l producer_node (pump_at frames)

    abbrev lines : List Event
    lines = first.1.events ++ came.1.events

    g : Gave w frames l r link first
    g = gave takes stays steady w r l frames a ranged calm all link e

    put : PutsOn first.0 frames mid l came
    put = frames_on takes stays first.0 mid l frames g.agrees g.known

    abbrev is : IsLink link w.links
    is = (found_is_link l w.links link e).0

    abbrev la : LinkAgrees w r a.0 link [] []
    la = a.1.links link is

    dialed : (d : Dial) × (r.dial_of l ≡ Some d)
    dialed = (_, ap r.dial_of (sym (found_is_link l w.links link e).1) ∙ la.dial.dialed)

    first_states : list_any (is_state_of l) first.1.events ≡ false
    first_states = ⊎_elim (λ none. ap (list_any (is_state_of l)) none) (λ (f : GaveFirst frames l r first). ap (list_any (is_state_of l)) f.together ∙ no_states l f.dial.producer f.told f.clients) g.first

    all_states : list_any (is_state_of l) lines ≡ list_any (is_state_of l) came.1.events
    all_states = list_any-append (is_state_of l) first.1.events came.1.events ∙ ap (λ b. b || list_any (is_state_of l) came.1.events) first_states

    -- ---- what it tells

    frames_tell : are_told (λ line. at_link (r.dial_of l) l (LinkVerb.Pump frames) line) (is_of_end r) came.1.events ≡ true
    frames_tell = subst (λ dial. are_told (λ line. at_link dial l (LinkVerb.Pump frames) line) (is_of_end r) came.1.events ≡ true) (sym dialed.1) (tell_all (is_of_pump l) (is_of_end r) (λ m e. cc) came.1.events put.own)

    gives_up : (f : GaveFirst frames l r first) → GivesUp r l f.dial lines
    gives_up f = record {
      told = f.told;
      frames = came.1.events;
      together = ap (λ es. es ++ came.1.events) f.together;
      stream = f.stream;
      takes_on = f.takes_on;
      writer = f.writer;
      offered = f.offered;
      answered = f.answered;
      clients = f.clients;
      put = put.own;
    }

    tells_by : (first.1.events ≡ []) ⊎ GaveFirst frames l r first → TellsOnly r (Verb.AtLink l (LinkVerb.Pump frames)) lines
    tells_by (inl none) = tells_alone r l frames first.1.events came.1.events none frames_tell
    tells_by (inr f) = inr (subst (λ d. MovesAt r d l (LinkVerb.Pump frames) lines) (sym f.takes_on.dialed) (gives_up f))

    tells : TellsOnly r (Verb.AtLink l (LinkVerb.Pump frames)) lines
    tells = tells_by g.first

    -- ---- what is put behind what is given up

    firsts : GaveFirst frames l r first → IsFirst came
    firsts f = by frames refl
      where
        by : (k : ℕ) → k ≡ frames → IsFirst came
        by zero same = let z : false ≡ true = ap (nat_lt 0) same ∙ f.some in cc
        by (suc k) same = subst (λ j. IsFirst (on_link first.0 l producer_node (pump_at j))) same
            (frames_first takes stays first.0 mid l k g.agrees g.known (record { dial = f.dial; stream = f.stream; takes_on = f.takes_then; dead = f.dead; stated = f.stated }) f.free)

    puts_by : (first.1.events ≡ []) ⊎ GaveFirst frames l r first → (n : ℕ) (why : Why) → came.1.answer ≡ Answer.Pulled n why → PutsBehind r l lines n why
    puts_by (inl none) n why q turned = absurd (turns_alone r l first.1.events came.1.events none put.own turned)
    puts_by (inr f) n why q turned = counts_some l came.1.events n why put.own (put.counted n why q).told (firsts f n why q)

    puts : (n : ℕ) (why : Why) → came.1.answer ≡ Answer.Pulled n why → PutsBehind r l lines n why
    puts = puts_by g.first

    -- ---- for what it waits

    asks_some : (n : ℕ) → came.1.answer ≡ Answer.Pulled n Why.WaitState → nat_lt 0 frames ≡ true
    asks_some n q = by (nat_lt 0 frames) refl
      where
        by : (b : Bool) → nat_lt 0 frames ≡ b → nat_lt 0 frames ≡ true
        by true t = t
        by false t =
            let told = put.counted n Why.WaitState q in let none : frames ≡ 0 = grind (arith, nat_tests, t) in let most = told.most in
            absurd (all_state (sym (told.only (omega (arith, none, most)))))

    abbrev Waits : Type 0
    Waits = (list_any (is_state_of l) lines ≡ true) ⊎ ((x : PlainLink) × (row_at link_number l w.links ≡ Some x) × Holds x.server.streams)

    has_state : list_any (is_state_of l) came.1.events ≡ true → list_any (is_state_of l) lines ≡ true
    has_state s = all_states ∙ s

    held : (y : PlainLink) → ((y ≡ link) × NoneYields frames link) ⊎ YieldLink link y → nat_lt 0 frames ≡ true → Waited y.server.streams → lets_through y.server ≡ true → Holds link.server.streams
    held y (inl (same, rests)) some waited free = holds_of link.server.streams (subst (λ (k : PlainLink). Waited k.server.streams) same waited) (rests some (subst (λ (k : PlainLink). lets_through k.server ≡ true) same free))
    held y (inr m) some waited free = absurd (left_waits m.stream (subst Waited m.left waited))

    waits_by : (n : ℕ) → came.1.answer ≡ Answer.Pulled n Why.WaitState → (list_any (is_state_of l) came.1.events ≡ true) ⊎ ((x : PlainLink) × (row_at link_number l first.0.links ≡ Some x) × Waited x.server.streams × (lets_through x.server ≡ true)) → Waits
    waits_by n q (inl s) = inl (has_state s)
    waits_by n q (inr (x, found_x, waited, free)) =
        let (y, found_y, how) = g.left in
        let both : Some x ≡ Some y = sym found_x ∙ found_y in let one : x ≡ y = cc in
        inr (link, e, held y how (asks_some n q) (subst (λ (k : PlainLink). Waited k.server.streams) one waited) (subst (λ (k : PlainLink). lets_through k.server ≡ true) one free))

    waits : (n : ℕ) → came.1.answer ≡ Answer.Pulled n Why.WaitState → Waits
    waits n q = waits_by n q (put.waits n q)

    -- ---- the link behind it

    -- what is known of it was so before
    puts_before : (y : PlainLink) (out : List ℕ) → y.consumer ≡ link.consumer → PutsSo mid y out → PutsSo r link out
    puts_before y out same x = ends_as mid r y link out same (λ k. ap (λ (q : ℕ → TakeoverKnown). (q k).turned) (lines_takeovers r first.1.events)) x

    moved_by : (y x' : PlainLink) → ((y ≡ link) × NoneYields frames link) ⊎ YieldLink link y → PutLink mid l came.1.events y x' → Moved r l lines link x'
    moved_by y x' (inl (same, rests)) p = record {
      consumer = p.consumer ∙ ap (λ (k : PlainLink). k.consumer) same;
      heard = p.heard ∙ ap (λ (k : PlainLink). k.up_heard) same;
      up = p.up ∙ ap (λ (k : PlainLink). k.up) same;
      down_heard = p.down_heard ∙ ap (λ (k : PlainLink). k.down_heard) same;
      out = p.out;
      down = p.down ∙ ap (λ (k : PlainLink). k.down ++ p.out) same;
      ends = puts_before y p.out (ap (λ (k : PlainLink). k.consumer) same) p.ends;
      streams = inl (subst (λ (b : Bool). All (λ s. HasStep b s link.server.streams) x'.server.streams) (sym all_states)
          (subst (λ (k : PlainLink). All (λ s. HasStep (list_any (is_state_of l) came.1.events) s k.server.streams) x'.server.streams) same p.steps));
    }
    moved_by y x' (inr m) p = record {
      consumer = p.consumer ∙ m.consumer;
      heard = p.heard ∙ m.heard;
      up = p.up ∙ m.up;
      down_heard = p.down_heard ∙ m.down_heard;
      out = p.out;
      down = p.down ∙ ap (λ bs. bs ++ p.out) m.down;
      ends = puts_before y p.out m.consumer p.ends;
      streams = inr (
        m.stream,
        m.one,
        m.yields,
        subst (λ (b : Bool). All (λ s. HasStep b s (stream_left m.stream ∷ [])) x'.server.streams) (sym all_states)
            (subst (λ (ss : List PlainStream). All (λ s. HasStep (list_any (is_state_of l) came.1.events) s ss) x'.server.streams) m.left p.steps),
      );
    }

    moved : (x' : PlainLink) × (row_at link_number l came.0.links ≡ Some x') × Moved r l lines link x'
    moved = let (y, found_y, how) = g.left in let (x', found', p) = put.came y found_y in (x', found', moved_by y x' how p)

    -- ---- the other links

    grants_by : (first.1.events ≡ []) ⊎ GaveFirst frames l r first → (k : ℕ) → list_any (is_grant_of k) first.1.events ≡ false
    grants_by (inl none) k = ap (list_any (is_grant_of k)) none
    grants_by (inr f) k = ap (list_any (is_grant_of k)) f.together ∙ no_client_grants f.dial.producer k f.told f.clients

    grants : (k : ℕ) → list_any (is_grant_of k) lines ≡ false
    grants k = list_any-append (is_grant_of k) first.1.events came.1.events ∙ (λ i. grants_by g.first k i || no_grants l k came.1.events put.own i)

    remains_by : (x y : PlainLink) → IsLink y w.links → ((x ≡ y) × (first.1.events ≡ [])) ⊎ YieldBeside first.1.events y x → Remains (turns_feeder (Some (dial_at x)) lines) y x
    remains_by x y k (inl (same, none)) = subst (λ z. Remains (turns_feeder (Some (dial_at x)) lines) z x) same (alone_remains l first.1.events came.1.events x none put.own)
    remains_by x y k (inr z) = beside_remains w r a.0 a.1 l first.1.events came.1.events y x k z put.own

    wire_by : (x y : PlainLink) → ((x ≡ y) × (first.1.events ≡ [])) ⊎ YieldBeside first.1.events y x → WireSame y x
    wire_by x y (inl (same, none)) = subst (λ z. WireSame z x) same (record { consumer = refl; down_heard = refl; down = refl })
    wire_by x y (inr b) = yield_wire first.1.events y x b

    others : (x : PlainLink) → IsLink x came.0.links → (link_number x ≡ l → ⊥) → (y : PlainLink) × IsLink y w.links × Remains (turns_feeder (Some (dial_at x)) lines) y x × WireSame y x
    others x i ne = let (y, k, how) = g.beside x (put.beside x i ne) ne in (y, k, remains_by x y k how, wire_by x y how)

    -- ---- who writes

    mid_known : (y : PlainLink) → IsLink y first.0.links → link_number y ≡ l → KeptLink mid y
    mid_known y i q = (g.known y (subst (λ k. row_at link_number k first.0.links ≡ Some y) q (row_found first.0.links y g.agrees.1.differ i))).kept

    mid_beside : (y z : PlainLink) → IsLink z w.links → ((y ≡ z) × (first.1.events ≡ [])) ⊎ YieldBeside first.1.events z y → KeptLink mid y
    mid_beside y z j (inl (same, none)) = subst (λ es. KeptLink (after_lines r es) y) (sym none) (subst (KeptLink r) (sym same) (all z j).kept)
    mid_beside y z j (inr b) = yield_kept r first.1.events z y b (all z j).kept

    mid_kept : AllKept first.0 mid
    mid_kept y i = ⊎_elim (λ q. mid_known y i q) (λ ne. let (z, j, how) = g.beside y i ne in mid_beside y z j how) (numbers (link_number y) l)

    kept : AllKept came.0 (after_lines mid came.1.events)
    kept = put.kept mid_kept

  -- a line `pump`
  pub pump_told : PumpTold w r l frames (pump_step w l frames)
  pump_told = by (row_at link_number l w.links) refl
    where
      by : (o : Option PlainLink) → row_at link_number l w.links ≡ o → PumpTold w r l frames (pump_step w l frames)
      by None e = subst (PumpTold w r l frames) (sym (ap (pump_outcome w l frames) e)) (record {
        goes = (tt, a);
        hands = tt;
        tells = inl refl;
        stops = λ n why q. absurd (no_pulled q);
        puts = λ n why q. absurd (no_pulled q);
        waits = λ n q. absurd (no_pulled q);
        came = λ x q. let z : None ≡ Some x = sym e ∙ q in cc;
        kept = λ x i. (all x i).kept;
        grants = λ k. refl;
        had = λ x i q. (x, subst (λ k. row_at link_number k w.links ≡ Some x) q (row_found w.links x a.1.differ i));
        others = λ x i ne. (x, i, alone_remains l [] [] x refl refl, record { consumer = refl; down_heard = refl; down = refl });
      })
      by (Some link) e = subst (PumpTold w r l frames) (sym (ap (pump_outcome w l frames) e)) (record {
        goes = (
          lawful_more r (first link e).1.events (came link e).1.events (g link e).quiet (g link e).lawful (put link e).goes.0,
          subst (Agrees (came link e).0) (sym (after_more r (first link e).1.events (came link e).1.events)) (put link e).goes.1,
        );
        hands = hands_behind r (first link e).1.events (came link e).1.events (g link e).hands (put link e).hands;
        tells = tells link e;
        stops = λ n why q. subst (λ y. Stopped y l why) (sym (after_more r (first link e).1.events (came link e).1.events)) ((put link e).stops n why q);
        puts = puts link e;
        waits = waits link e;
        kept = λ x i. subst (λ q. KeptLink q x) (sym (after_more r (first link e).1.events (came link e).1.events)) (kept link e x i);
        grants = grants link e;
        had = λ x i q. (link, e);
        others = others link e;
        came = λ x q. let both : Some link ≡ Some x = sym e ∙ q in let it : link ≡ x = cc in let (x', found', m) = moved link e in (x', found', subst (λ k. Moved r l (lines link e) k x') it m);
      })

-- why it stopped, as it is said
stops_for : (q : Chronicle) (l : ℕ) (why : Why) → Stopped q l why → StopsFor q l why
stops_for q l Why.WaitSaved x = x.saved refl
stops_for q l Why.Disk x = absurd (x.unread refl)
stops_for q l Why.Idle x = (x.idle refl).1
stops_for q l Why.All x = tt
stops_for q l Why.Full x = tt
stops_for q l Why.WaitState x = tt

-- so vBuckets are handed over by it
pub pump_hands : (w : PlainWorld) (r : Chronicle) (l frames : ℕ) (o : Outcome) → PumpTold w r l frames o → HandsOver r (Verb.AtLink l (LinkVerb.Pump frames)) o.1.events o.1.answer
pump_hands w r l frames o told = record { tells = told.tells; each = told.hands; pumps = by o.1.answer refl }
  where
    by : (said : Answer) → o.1.answer ≡ said → PumpsOn r (Verb.AtLink l (LinkVerb.Pump frames)) o.1.events said
    by (Answer.Pulled n why) q = (stops_for (after_lines r o.1.events) l why (told.stops n why q), told.puts n why q)
    by other q = tt
