-- no line of a script hands a vBucket over: what it tells of is what its line may tell, and each vBucket that becomes active makes its branch
use Rattle.std.specs.Prelude.{◌≡◌, ◌≤◌, ◌∷◌, ◌++◌, ◌&&◌, ◌||◌}
use Rattle.transcript_law.proofs.Words.{ℕ, Bool, true, false, not, List, [], length, refl, ap, sym, ◌∙◌, subst, arith, inl, ⊎_elim, and_parts, list_any, Option, Some, None, Answer, Cause, Chronicle, ClientVerb, Event, Granted, LinkVerb, NodeVerb, Role, StreamName, Verb, VbVerb, Why, after_line, after_lines}
use Rattle.transcript_law.proofs.lines.Takeovers.{line_takeovers, lines_takeovers}
use Rattle.transcript_law.proofs.lines.Rises.{is_level, level_turn, level_turns, made_among, made_level, none_rise}
use Rattle.transcript_law.proofs.verbs.{Asking.{none_beside}, Tellings.{each_told}}
use Rattle.transcript_law.specs.Asked.{RisesOn, TellsAsAsked, TellsOnce, TurnsTo, turns_in}
use Rattle.transcript_law.specs.Chronicles.{is_rise}
use Rattle.transcript_law.specs.Heirs.{LawfulState, TakesOn}
use Rattle.transcript_law.specs.LinesTold.{Dial, TakeoverKnown}
use Rattle.transcript_law.specs.TakeoverAnswers.{HandsOver, PumpsOn, StopsFor}
use Rattle.transcript_law.specs.TakeoverLines.{TakeoverFrom, TakeoverLine}
use Rattle.transcript_law.specs.TakeoverNotes.{is_role_of, turns_feeder}
use Rattle.transcript_law.specs.Takeovers.{IsPlainFor, MovesAt, NoneDialed, TellsMove, all_made}
use Rattle.transcript_law.specs.Tellings.{TellsOf, are_all, at_client, at_link, at_node, at_vb, is_of_end, is_of_pump, may_tell}

-- a line of a link, or a line for one, of which nothing is told that takes a vBucket over
abbrev pub is_plain : Chronicle → Event → Bool
is_plain r (Event.Asked (StreamName.Link l) n v ask high log said) = not (r.takeover_of l).dialed
is_plain r (Event.Marked (StreamName.Link l) start end flags) = not (r.takeover_of l).dialed
is_plain r (Event.Finished (StreamName.Link l) why) = not (r.takeover_of l).dialed
is_plain r (Event.Ended l why) = not (r.takeover_of l).dialed
is_plain r other = true

abbrev pub goes_plain : Chronicle → Verb → Bool
goes_plain r (Verb.AtLink l what) = not (r.takeover_of l).dialed
goes_plain r other = true

-- such a link is dialed for no takeover
untaken : (b : Bool) → not b ≡ true → b ≡ true → ⊥
untaken true e f = cc
untaken false e f = cc

line_plain : (r : Chronicle) (line : Event) → is_plain r line ≡ true → TakeoverLine r line
line_plain r (Event.Asked (StreamName.Link l) n v ask high log said) e = λ dial t. absurd (untaken (r.takeover_of l).dialed e t.1)
line_plain r (Event.Marked (StreamName.Link l) start end flags) e = λ dial t. absurd (untaken (r.takeover_of l).dialed e t.1)
line_plain r (Event.Finished (StreamName.Link l) why) e = λ dial g t has. absurd (untaken (r.takeover_of l).dialed e t.1)
line_plain r (Event.Ended l why) e = λ dial t. absurd (untaken (r.takeover_of l).dialed e t.1)
line_plain r other e = tt

-- so it is behind each line
plain_on : (r r' : Chronicle) (line : Event) → r'.takeover_of ≡ r.takeover_of → is_plain r' line ≡ is_plain r line
plain_on r r' (Event.Asked (StreamName.Link l) n v ask high log said) e = ap (λ (t : ℕ → TakeoverKnown). not (t l).dialed) e
plain_on r r' (Event.Marked (StreamName.Link l) start end flags) e = ap (λ (t : ℕ → TakeoverKnown). not (t l).dialed) e
plain_on r r' (Event.Finished (StreamName.Link l) why) e = ap (λ (t : ℕ → TakeoverKnown). not (t l).dialed) e
plain_on r r' (Event.Ended l why) e = ap (λ (t : ℕ → TakeoverKnown). not (t l).dialed) e
plain_on r r' other e = refl

lines_plain_on : (r r' : Chronicle) (lines : List Event) → r'.takeover_of ≡ r.takeover_of → are_all (is_plain r) lines ≡ true → are_all (is_plain r') lines ≡ true
lines_plain_on r r' [] e a = refl
lines_plain_on r r' (line ∷ lines) e a = let p = and_parts (is_plain r line) (are_all (is_plain r) lines) a in λ i. (plain_on r r' line e ∙ p.0) i && lines_plain_on r r' lines e p.1 i

lines_plain : (r : Chronicle) (lines : List Event) → are_all (is_plain r) lines ≡ true → TakeoverFrom r lines
lines_plain r [] a = tt
lines_plain r (line ∷ lines) a = let p = and_parts (is_plain r line) (are_all (is_plain r) lines) a in (line_plain r line p.0, lines_plain (after_line r line) lines (lines_plain_on r (after_line r line) lines (line_takeovers r line) p.1))

-- a `pump` of such a link tells of no role
unturned : (l : ℕ) (line : Event) → is_of_pump l line ≡ true → (n v : ℕ) → is_role_of n v line ≡ false
unturned l (Event.Role m u role) e n v = cc
unturned l other e n v = refl

pump_unturned : (r : Chronicle) (l wanted n v : ℕ) (lines : List Event) → TellsOf r (Verb.AtLink l (LinkVerb.Pump wanted)) lines → list_any (is_role_of n v) lines ≡ false
pump_unturned r l wanted n v lines t = none_of lines (each_told (may_tell r (Verb.AtLink l (LinkVerb.Pump wanted))) (is_of_end r) (λ line. not (is_role_of n v line)) (λ line e. ap not (at (r.dial_of l) line e)) (λ m stops line e. ap not (ended m line e)) lines t)
  where
    at : (dial : Option Dial) (line : Event) → at_link dial l (LinkVerb.Pump wanted) line ≡ true → is_role_of n v line ≡ false
    at None line e = cc
    at (Some dial) line e = unturned l line e n v

    ended : (m : ℕ) (line : Event) → is_of_end r m line ≡ true → is_role_of n v line ≡ false
    ended m (Event.Role k u role) e = cc
    ended m other e = refl

    none_of : (lines : List Event) → are_all (λ line. not (is_role_of n v line)) lines ≡ true → list_any (is_role_of n v) lines ≡ false
    none_of [] a = refl
    none_of (line ∷ lines) a = let p = and_parts (not (is_role_of n v line)) (are_all (λ line. not (is_role_of n v line)) lines) a in λ i. calm (is_role_of n v line) p.0 i || none_of lines p.1 i
      where
        calm : (b : Bool) → not b ≡ true → b ≡ false
        calm true e = cc
        calm false e = refl

none_turned : (r : Chronicle) (l wanted : ℕ) (dial : Option Dial) (lines : List Event) → TellsOf r (Verb.AtLink l (LinkVerb.Pump wanted)) lines → turns_feeder dial lines ≡ true → ⊥
none_turned r l wanted None lines t e = cc
none_turned r l wanted (Some dial) lines t e = let z : false ≡ true = sym (pump_unturned r l wanted dial.producer dial.vb lines t) ∙ e in cc

pumps_plain : (r : Chronicle) (asked : Verb) (lines : List Event) (said : Answer) → TellsOf r asked lines → goes_plain r asked ≡ true → PumpsOn r asked lines said
pumps_plain r (Verb.AtLink l (LinkVerb.Pump wanted)) lines (Answer.Pulled n why) t e = (stops why, λ turns. absurd (none_turned r l wanted (r.dial_of l) lines t turns))
  where
    none : (dial : Dial) (g : Granted) → TakesOn (after_lines r lines) l dial g → ⊥
    none dial g on = untaken (r.takeover_of l).dialed e (ap (λ (t : ℕ → TakeoverKnown). (t l).dialed) (sym (lines_takeovers r lines)) ∙ on.takeover)

    stops : (why : Why) → StopsFor (after_lines r lines) l why
    stops Why.WaitSaved = λ dial g x. none dial g x.takes_on
    stops Why.Disk = λ dial g x. none dial g x.takes_on
    stops Why.Idle = none
    stops Why.All = tt
    stops Why.Full = tt
    stops Why.WaitState = tt
pumps_plain r other lines said t e = tt

-- by what its line may tell, and where no link in it is dialed for a takeover, a group hands no vBucket over
pub hands_plain : (r : Chronicle) (asked : Verb) (lines : List Event) (said : Answer) → TellsOf r asked lines → (are_all (is_plain r) lines && goes_plain r asked) ≡ true → HandsOver r asked lines said
hands_plain r asked lines said t e = let p = and_parts (are_all (is_plain r) lines) (goes_plain r asked) e in record { tells = inl t; each = lines_plain r lines p.0; pumps = pumps_plain r asked lines said t p.1 }

-- so it is where none is dialed at all
pub plain_all : (r : Chronicle) (asked : Verb) (lines : List Event) → NoneDialed r → (are_all (is_plain r) lines && goes_plain r asked) ≡ true
plain_all r asked lines none = λ i. each lines i && goes asked i
  where
    here : (l : ℕ) → not (r.takeover_of l).dialed ≡ true
    here l = ap not (none l)

    one : (line : Event) → is_plain r line ≡ true
    one (Event.Asked (StreamName.Link l) n v ask high log said) = here l
    one (Event.Marked (StreamName.Link l) start end flags) = here l
    one (Event.Finished (StreamName.Link l) why) = here l
    one (Event.Ended l why) = here l
    one other = refl

    each : (lines : List Event) → are_all (is_plain r) lines ≡ true
    each [] = refl
    each (line ∷ lines) = λ i. one line i && each lines i

    goes : (asked : Verb) → goes_plain r asked ≡ true
    goes (Verb.AtLink l what) = here l
    goes other = refl

pub hands_none : (r : Chronicle) (asked : Verb) (lines : List Event) (said : Answer) → TellsOf r asked lines → NoneDialed r → HandsOver r asked lines said
hands_none r asked lines said t none = hands_plain r asked lines said t (plain_all r asked lines none)

-- so it is of a line that is refused, and tells of nothing
pub refused_none : (r : Chronicle) (asked : Verb) (why : Cause) → HandsOver r asked [] (Answer.No why)
refused_none r (Verb.AtLink l (LinkVerb.Pump wanted)) why = record { tells = inl refl; each = tt; pumps = tt }
refused_none r other why = record { tells = inl refl; each = tt; pumps = tt }

-- and such a group tells of nothing else than its line may
no_move : (r : Chronicle) (asked : Verb) (lines : List Event) → IsPlainFor r asked → TellsMove r asked lines → ⊥
no_move r (Verb.AtLink l what) lines plain moves = by (r.dial_of l) what moves
  where
    never : (k : ℕ) (xs : List Event) → k ≡ l → ((after_lines r xs).takeover_of k).dialed ≡ true → ⊥
    never k xs same e = let z : false ≡ true = sym plain ∙ ap (λ j. (r.takeover_of j).dialed) (sym same) ∙ ap (λ (t : ℕ → TakeoverKnown). (t k).dialed) (sym (lines_takeovers r xs)) ∙ e in cc

    by : (dial : Option Dial) (what : LinkVerb) → MovesAt r dial l what lines → ⊥
    by None what m = m
    by (Some dial) (LinkVerb.Up wanted) m = m
    by (Some dial) (LinkVerb.Down wanted) m = ⊎_elim (λ x. never x.taking.given.link x.front x.by_link x.taking.given.takeover) (λ x. never x.heir.given.link x.front x.by_link x.heir.given.takeover) m
    by (Some dial) (LinkVerb.Pump wanted) m = never l [] refl m.takes_on.takeover
    by (Some dial) LinkVerb.Drop m = m
    by (Some dial) LinkVerb.Cut m = m
no_move r other lines plain moves = moves

pub tells_of : (r : Chronicle) (asked : Verb) (lines : List Event) (said : Answer) → IsPlainFor r asked → HandsOver r asked lines said → TellsOf r asked lines
tells_of r asked lines said plain h = ⊎_elim (λ t. t) (λ m. absurd (no_move r asked lines plain m)) h.tells

-- nor does any state stand in it
pub none_stated : (r : Chronicle) (l : ℕ) (role : Role) → NoneDialed r → LawfulState r l role → ⊥
none_stated r l role none s = let z : false ≡ true = sym (none l) ∙ s.takes_on.takeover in cc

-- ---- lines that tell of no vBucket that is active

level_told : (r : Chronicle) (asked : Verb) → ((line : Event) → may_tell r asked line ≡ true → is_level line ≡ true) → (lines : List Event) → TellsOf r asked lines → list_any is_rise lines ≡ false
level_told r asked none lines t = none_rise lines (each_told (may_tell r asked) (is_of_end r) is_level none (λ m stops line e. ended m line e) lines t)
  where
    ended : (m : ℕ) (line : Event) → is_of_end r m line ≡ true → is_level line ≡ true
    ended m (Event.Role n v Role.Active) e = cc
    ended m other e = refl

at_level : (dial : Option Dial) (l : ℕ) (what : LinkVerb) (line : Event) → at_link dial l what line ≡ true → is_level line ≡ true
at_level None l what (Event.Role n v Role.Active) e = cc
at_level (Some dial) l (LinkVerb.Up wanted) (Event.Role n v Role.Active) e = cc
at_level (Some dial) l (LinkVerb.Down wanted) (Event.Role n v Role.Active) e = cc
at_level (Some dial) l (LinkVerb.Pump frames) (Event.Role n v Role.Active) e = cc
at_level (Some dial) l LinkVerb.Drop (Event.Role n v Role.Active) e = cc
at_level (Some dial) l LinkVerb.Cut (Event.Role n v Role.Active) e = cc
at_level dial l what other e = refl

node_level : (r : Chronicle) (n : ℕ) (what : NodeVerb) (line : Event) → at_node r n what line ≡ true → is_level line ≡ true
node_level r n (NodeVerb.Clock nanos) (Event.Role m v Role.Active) e = cc
node_level r n (NodeVerb.Stop k out) (Event.Role m v Role.Active) e = cc
node_level r n (NodeVerb.Fail k) (Event.Role m v Role.Active) e = cc
node_level r n (NodeVerb.Crash out) (Event.Role m v Role.Active) e = cc
node_level r n (NodeVerb.Start uuids) (Event.Role m v Role.Active) e = cc
node_level r n what other e = refl

client_level : (n c : ℕ) (what : ClientVerb) (line : Event) → at_client n c what line ≡ true → is_level line ≡ true
client_level n c ClientVerb.Open (Event.Role m v Role.Active) e = cc
client_level n c (ClientVerb.Bytes bytes) (Event.Role m v Role.Active) e = cc
client_level n c (ClientVerb.Pull wanted) (Event.Role m v Role.Active) e = cc
client_level n c ClientVerb.Hang (Event.Role m v Role.Active) e = cc
client_level n c what other e = refl

-- a line for a vBucket in which it stays in its role
stays_level : (r : Chronicle) (n v : ℕ) (what : VbVerb) → ((m u : ℕ) → at_vb r n v what (Event.Role m u Role.Active) ≡ false) → (line : Event) → at_vb r n v what line ≡ true → is_level line ≡ true
stays_level r n v what none (Event.Role m u Role.Active) e = let z : false ≡ true = sym (none m u) ∙ e in cc
stays_level r n v what none other e = refl

-- a `down` tells of none
pub no_rise : (r : Chronicle) (l wanted : ℕ) (lines : List Event) → TellsOf r (Verb.AtLink l (LinkVerb.Down wanted)) lines → list_any is_rise lines ≡ false
no_rise r l wanted = level_told r (Verb.AtLink l (LinkVerb.Down wanted)) (at_level (r.dial_of l) l (LinkVerb.Down wanted))

-- ---- lines by which one becomes active

-- its branch stands directly in front
rises_made : (n v uuid : ℕ) (lines : List Event) → RisesOn n v uuid lines → all_made None lines ≡ true
rises_made n v uuid lines x =
    let pair : List Event = Event.Branch n v uuid x.parent x.fork x.high ∷ Event.Role n v Role.Active ∷ [] in
    let few : length (turns_in (x.front ++ (pair ++ x.behind))) ≤ 2 = subst (λ (ls : List Event). length (turns_in ls) ≤ 2) x.together (subst (λ (ts : List Event). length ts ≤ 2) (sym x.alone) (omega arith)) in
    let z = none_beside 2 x.front pair x.behind few refl in
    subst (λ ls. all_made None ls ≡ true) (sym x.together) (made_among n v uuid x.parent x.fork x.high None x.front x.behind (level_turns x.front z.0) (level_turns x.behind z.1))

once_made : (Own : List Event → Type 0) (lines : List Event) (said : Answer) → (Own lines → all_made None lines ≡ true) → TellsOnce Own lines said → all_made None lines ≡ true
once_made Own lines said each t = ⊎_elim (λ r. subst (λ ls. all_made None ls ≡ true) (sym r.3) refl) each t

turn_made : (n v : ℕ) (role : Role) (lines : List Event) → (role ≡ Role.Active → ⊥) → TurnsTo n v role lines → all_made None lines ≡ true
turn_made n v role lines rests t = made_level None lines (level_turn n v role lines rests t)

-- ---- each line

vb_made : (r : Chronicle) (n v : ℕ) (what : VbVerb) (lines : List Event) (said : Answer) → TellsOf r (Verb.AtVb n v what) lines → TellsAsAsked (Verb.AtVb n v what) lines said → all_made None lines ≡ true
vb_made r n v (VbVerb.MakeActive uuid) lines said t a = once_made (RisesOn n v uuid) lines said (rises_made n v uuid lines) a
vb_made r n v (VbVerb.Promote uuid) lines said t a = once_made (RisesOn n v uuid) lines said (rises_made n v uuid lines) a
vb_made r n v VbVerb.MakeReplica lines said t a = once_made (TurnsTo n v Role.Replica) lines said (turn_made n v Role.Replica lines (λ e. cc)) a
vb_made r n v VbVerb.Follow lines said t a = once_made (TurnsTo n v Role.Replica) lines said (turn_made n v Role.Replica lines (λ e. cc)) a
vb_made r n v VbVerb.Dead lines said t a = once_made (TurnsTo n v Role.Dead) lines said (turn_made n v Role.Dead lines (λ e. cc)) a
vb_made r n v (VbVerb.Chain others) lines said t a = made_level None lines (level_told r (Verb.AtVb n v (VbVerb.Chain others)) (stays_level r n v (VbVerb.Chain others) (λ m u. refl)) lines t)
vb_made r n v VbVerb.Tick lines said t a = made_level None lines (level_told r (Verb.AtVb n v VbVerb.Tick) (stays_level r n v VbVerb.Tick (λ m u. refl)) lines t)
vb_made r n v VbVerb.Trim lines said t a = made_level None lines (level_told r (Verb.AtVb n v VbVerb.Trim) (stays_level r n v VbVerb.Trim (λ m u. refl)) lines t)
vb_made r n v VbVerb.Seal lines said t a = made_level None lines (level_told r (Verb.AtVb n v VbVerb.Seal) (stays_level r n v VbVerb.Seal (λ m u. refl)) lines t)
vb_made r n v VbVerb.Take lines said t a = made_level None lines (level_told r (Verb.AtVb n v VbVerb.Take) (stays_level r n v VbVerb.Take (λ m u. refl)) lines t)
vb_made r n v VbVerb.Save lines said t a = made_level None lines (level_told r (Verb.AtVb n v VbVerb.Save) (stays_level r n v VbVerb.Save (λ m u. refl)) lines t)
vb_made r n v VbVerb.Done lines said t a = made_level None lines (level_told r (Verb.AtVb n v VbVerb.Done) (stays_level r n v VbVerb.Done (λ m u. refl)) lines t)
vb_made r n v VbVerb.Stat lines said t a = made_level None lines (level_told r (Verb.AtVb n v VbVerb.Stat) (stays_level r n v VbVerb.Stat (λ m u. refl)) lines t)
vb_made r n v VbVerb.Log lines said t a = made_level None lines (level_told r (Verb.AtVb n v VbVerb.Log) (stays_level r n v VbVerb.Log (λ m u. refl)) lines t)
vb_made r n v VbVerb.Show lines said t a = made_level None lines (level_told r (Verb.AtVb n v VbVerb.Show) (stays_level r n v VbVerb.Show (λ m u. refl)) lines t)

pub each_made : (r : Chronicle) (asked : Verb) (lines : List Event) (said : Answer) → TellsOf r asked lines → TellsAsAsked asked lines said → all_made None lines ≡ true
each_made r (Verb.Node n) lines said t a = made_level None lines (level_told r (Verb.Node n) (λ line e. cc) lines t)
each_made r (Verb.Link l m n v buffer takeover) lines said t a = made_level None lines (level_told r (Verb.Link l m n v buffer takeover) (λ line e. cc) lines t)
each_made r (Verb.AtNode n what) lines said t a = made_level None lines (level_told r (Verb.AtNode n what) (node_level r n what) lines t)
each_made r (Verb.AtVb n v what) lines said t a = vb_made r n v what lines said t a
each_made r (Verb.AtClient n c what) lines said t a = made_level None lines (level_told r (Verb.AtClient n c what) (client_level n c what) lines t)
each_made r (Verb.AtLink l what) lines said t a = made_level None lines (level_told r (Verb.AtLink l what) (at_level (r.dial_of l) l what) lines t)
