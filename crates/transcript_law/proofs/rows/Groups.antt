-- the groups of a transcript that is judged by hand: their lines, then their answers, and then what they say of arms
use Rattle.std.specs.Prelude.{◌≡◌, ◌∷◌, ◌==◌, ◌&&◌, if◌then◌else◌}
use Rattle.transcript_law.proofs.Words.{Bool, not, true, false, List, [], refl, ap, sym, ◌∙◌, subst, list_any, and_parts, eqb-true, Option, Some, None, Answer, Cause, Event, ScriptLine, Verb, Chronicle, IsAnswered, LawfulGroups, Group}
use Rattle.transcript_law.specs.{Chronicles.{after_group, ahead, at_line}, Firings.{FiresInLine}, Lawfulness.{LinesFrom}, Standing.{IsStanding, TellsIfBegun}, Tellings.{are_all, are_told, is_of_end, may_tell as may_tell_of}, LinesTold.{after_lines}, Undone.{LeavesNone, NoneToAcknowledge, NoneToPut, NoneToTake, WaitsForOne, is_taking, IsShutFor}}
use Rattle.vb_events.specs.declared.event.Why.TheVariants as why
use Rattle.script_text.specs.declared.verb.Verb.TheVariants as verb
use Rattle.script_text.specs.declared.verb.VbVerb.TheVariants as vb_verb
use Rattle.script_text.specs.declared.verb.ClientVerb.TheVariants as client_verb
use Rattle.script_text.specs.declared.verb.LinkVerb.TheVariants as link_verb
use Rattle.script_text.specs.declared.verb.NodeVerb.TheVariants as node_verb
use Rattle.transcript_law.proofs.rows.AskedTests.{asked_so, is_asked_so}
use Rattle.transcript_law.proofs.verbs.Handing.{goes_plain, hands_plain, is_plain}
use Rattle.transcript_law.proofs.rows.Ended.{AreEnded, Undialed, all_quiet, dials_none, is_quiet, quiet_ended, undialed_ended}
unfoldable use Rattle.transcript_law.proofs.rows.Silent.{AreHeard}
use Rattle.transcript_law.proofs.lines.Stored.{is_settled, settled_next}
use Rattle.transcript_law.specs.{AnsweredWrites.{AllToldNext}, Breaks.{AllBreak, ClosesAsBroken, is_closing}, StreamsTold.{ClientsKnown}}
use Rattle.vb_events.specs.declared.event.Event.TheVariants as event
use Rattle.vb_events.specs.declared.event.Answer.TheVariants as answer
use Rattle.vb_events.specs.declared.event.Cause.TheVariants as cause

-- the lines of the groups
abbrev pub AreTold : Chronicle → List ScriptLine → List Group → Type 0
AreTold chronicle [] [] = Unit {0}
AreTold chronicle (line ∷ lines) [] = ⊥
AreTold chronicle [] (group ∷ groups) = ⊥
AreTold chronicle (line ∷ lines) (group ∷ groups) = LinesFrom (ahead (at_line chronicle line.line) line.verb group.answer) chronicle.conn_at group.events × AreTold (after_group (at_line chronicle line.line) line.verb group.events group.answer) lines groups

-- their answers
abbrev pub AreAnswered : Chronicle → List ScriptLine → List Group → Type 0
AreAnswered chronicle [] [] = Unit {0}
AreAnswered chronicle (line ∷ lines) [] = ⊥
AreAnswered chronicle [] (group ∷ groups) = ⊥
AreAnswered chronicle (line ∷ lines) (group ∷ groups) =
    IsAnswered (at_line chronicle line.line) line.verb group.events group.answer × AreAnswered (after_group (at_line chronicle line.line) line.verb group.events group.answer) lines groups

-- what both say of arms that fired
abbrev pub AreFired : Chronicle → List ScriptLine → List Group → Type 0
AreFired chronicle [] [] = Unit {0}
AreFired chronicle (line ∷ lines) [] = ⊥
AreFired chronicle [] (group ∷ groups) = ⊥
AreFired chronicle (line ∷ lines) (group ∷ groups) =
    FiresInLine (at_line chronicle line.line) line.verb group.events group.answer × AreFired (after_group (at_line chronicle line.line) line.verb group.events group.answer) lines groups

-- whether a take takes changes, a down takes nothing, and no pump or pull is idle
abbrev pub takes_some : Answer → Bool
takes_some (answer.Number n) = not (n == 0)
takes_some other = true

abbrev pub is_done : Verb → List Event → Answer → Bool
is_done asked lines (answer.Pulled n why.WaitState) = false
is_done asked lines (answer.Pulled n why.Disk) = false
is_done (verb.AtVb n v vb_verb.Take) lines said = takes_some said
is_done (verb.AtLink l (link_verb.Down wanted)) lines said = not (list_any is_taking lines)
is_done other lines (answer.Pulled n why.Idle) = false
is_done other lines (answer.Pulled n why.WaitSaved) = false
is_done other lines (answer.Pulled n why.Full) = false
is_done other lines said = true

done_so : (chronicle : Chronicle) (asked : Verb) (lines : List Event) (said : Answer) → is_done asked lines said ≡ true → LeavesNone chronicle asked lines said
done_so chronicle asked lines (answer.Number n) e = (λ z. by asked (subst (λ k. is_done asked lines (answer.Number k) ≡ true) z e), λ t. taken asked e t)
  where
    by : (asked : Verb) → is_done asked lines (answer.Number 0) ≡ true → NoneToTake chronicle asked
    by (verb.AtVb n v vb_verb.Take) f = cc
    by other f = tt

    taken : (asked : Verb) → is_done asked lines (answer.Number n) ≡ true → list_any is_taking lines ≡ true → NoneToAcknowledge (after_lines chronicle lines) asked
    taken (verb.AtLink l (link_verb.Down wanted)) f t = let z : false ≡ true = ap not (sym t) ∙ f in cc
    taken other f t = tt
done_so chronicle asked lines (answer.Pulled n why.Idle) e = idle asked e
  where
    idle : (asked : Verb) → is_done asked lines (answer.Pulled n why.Idle) ≡ true → NoneToPut (after_lines chronicle lines) asked
    idle (verb.AtLink l (link_verb.Pump wanted)) f = cc
    idle (verb.AtClient n c (client_verb.Pull wanted)) f = cc
    idle other f = tt
done_so chronicle asked lines (answer.Pulled n why.WaitSaved) e = waits asked e
  where
    waits : (asked : Verb) → is_done asked lines (answer.Pulled n why.WaitSaved) ≡ true → WaitsForOne (after_lines chronicle lines) asked
    waits (verb.AtClient n c (client_verb.Pull wanted)) f = cc
    waits other f = tt
done_so chronicle asked lines (answer.Pulled n why.Full) e = shut asked e
  where
    shut : (asked : Verb) → is_done asked lines (answer.Pulled n why.Full) ≡ true → IsShutFor (after_lines chronicle lines) asked
    shut (verb.AtClient n c (client_verb.Pull wanted)) f = cc
    shut other f = tt
done_so chronicle asked lines (answer.Pulled n why.WaitState) e = cc
done_so chronicle asked lines (answer.Pulled n why.Disk) e = cc
done_so chronicle asked lines other e = tt

-- whether each has its line's number, tells of nothing where it was refused before its line was begun, of nothing else than its line may, and what its line asked for
abbrev pub may_tell : List Event → Cause → Bool
may_tell [] why = true
may_tell (line ∷ lines) cause.IdsShort = true
may_tell (line ∷ lines) cause.Stopped = true
may_tell (line ∷ lines) cause.Closed = true
may_tell (line ∷ lines) cause.Disk = true
may_tell (line ∷ lines) other = false

abbrev pub is_answered_so : List Event → Answer → Bool
is_answered_so lines (answer.No why) = may_tell lines why
is_answered_so lines other = true

-- a line closes no connection, but of a node that ends
abbrev pub is_unclosed : List Event → Bool
is_unclosed [] = true
is_unclosed (event.Closed n c ∷ lines) = false
is_unclosed (event.NodeStopped n ∷ lines) = true
is_unclosed (line ∷ lines) = is_unclosed lines

abbrev pub closes_none : Verb → List Event → Bool
closes_none (verb.AtClient n c (client_verb.Bytes bytes)) lines = not (list_any is_closing lines)
closes_none (verb.AtNode n (node_verb.Crash out)) lines = true
closes_none other lines = is_unclosed lines

unclosed : (clients : ClientsKnown) (before : Option Event) (lines : List Event) → is_unclosed lines ≡ true → AllBreak clients before lines
unclosed clients before [] e = tt
unclosed clients before (event.Closed n c ∷ lines) e = cc
unclosed clients before (event.NodeStopped n ∷ lines) e = tt
unclosed clients before (line ∷ lines) e = unclosed clients (Some line) lines e

breaks_so : (chronicle : Chronicle) (asked : Verb) (lines : List Event) → closes_none asked lines ≡ true → ClosesAsBroken chronicle asked lines
breaks_so chronicle (verb.AtClient n c (client_verb.Bytes bytes)) lines e = λ closes. let z : false ≡ true = ap not (sym closes) ∙ e in cc
breaks_so chronicle (verb.AtNode n (node_verb.Crash out)) lines e = tt
breaks_so chronicle other lines e = unclosed chronicle.clients_at None lines e

-- and where a line tells nothing
pub nothing_closed : (chronicle : Chronicle) (asked : Verb) → ClosesAsBroken chronicle asked []
nothing_closed chronicle (verb.AtClient n c (client_verb.Bytes bytes)) = λ e. cc
nothing_closed chronicle (verb.AtNode n (node_verb.Crash out)) = tt
nothing_closed chronicle other = tt

-- and no link in it is dialed for a takeover
abbrev pub are_plain : Chronicle → Verb → List Event → Bool
are_plain chronicle asked lines = are_all (is_plain chronicle) lines && goes_plain chronicle asked

abbrev pub in_line : Chronicle → List ScriptLine → List Group → Bool
in_line chronicle [] [] = true
in_line chronicle (line ∷ lines) [] = false
in_line chronicle [] (group ∷ groups) = false
in_line chronicle (line ∷ lines) (group ∷ groups) =
    group.line == line.line
    && (is_answered_so group.events group.answer && (are_told (may_tell_of (at_line chronicle line.line) line.verb) (is_of_end (at_line chronicle line.line)) group.events && (is_asked_so line.verb group.events group.answer && (closes_none line.verb group.events && (are_plain (at_line chronicle line.line) line.verb group.events && in_line (after_group (at_line chronicle line.line) line.verb group.events group.answer) lines groups)))))

-- and leaves nothing undone, by its line alone, and none dials
abbrev pub all_done : List ScriptLine → List Group → Bool
all_done (line ∷ lines) (group ∷ groups) = is_done line.verb group.events group.answer && all_done lines groups
all_done lines groups = true

abbrev pub in_order : Chronicle → List ScriptLine → List Group → Bool
in_order chronicle script told = in_line chronicle script told && (all_done script told && dials_none script)

tells_so : (lines : List Event) (said : Answer) → is_answered_so lines said ≡ true → TellsIfBegun lines said
tells_so lines (answer.No c) e why said standing = let same : c ≡ why = cc in by lines c e (subst IsStanding (sym same) standing)
  where
    by : (lines : List Event) (c : Cause) → may_tell lines c ≡ true → IsStanding c → lines ≡ []
    by [] c e s = refl
    by (line ∷ lines) cause.IdsShort e s = absurd s
    by (line ∷ lines) cause.Stopped e s = absurd s
    by (line ∷ lines) cause.Closed e s = absurd s
    by (line ∷ lines) cause.Disk e s = absurd s
    by (line ∷ lines) other e s = cc
tells_so lines other e why said standing = cc

-- what of groups is not so
abbrev pub AreParts : Chronicle → List ScriptLine → List Group → Type 0
AreParts chronicle [] [] = Unit {0}
AreParts chronicle (line ∷ lines) [] = ⊥
AreParts chronicle [] (group ∷ groups) = ⊥
AreParts chronicle (line ∷ lines) (group ∷ groups) =
    (LinesFrom (ahead (at_line chronicle line.line) line.verb group.answer) chronicle.conn_at group.events × IsAnswered (at_line chronicle line.line) line.verb group.events group.answer × FiresInLine (at_line chronicle line.line) line.verb group.events group.answer)
    × AreParts (after_group (at_line chronicle line.line) line.verb group.events group.answer) lines groups

-- what they leave undone
abbrev pub AreLeft : Chronicle → List ScriptLine → List Group → Type 0
AreLeft chronicle (line ∷ lines) (group ∷ groups) = LeavesNone (at_line chronicle line.line) line.verb group.events group.answer × AreLeft (after_group (at_line chronicle line.line) line.verb group.events group.answer) lines groups
AreLeft chronicle lines groups = Unit {0}

all_left : (chronicle : Chronicle) (script : List ScriptLine) (told : List Group) → all_done script told ≡ true → AreLeft chronicle script told
all_left chronicle (line ∷ lines) (group ∷ groups) o =
    let one = and_parts (is_done line.verb group.events group.answer) (all_done lines groups) o in (done_so (at_line chronicle line.line) line.verb group.events group.answer one.0, all_left (after_group (at_line chronicle line.line) line.verb group.events group.answer) lines groups one.1)
all_left chronicle [] groups o = tt
all_left chronicle (line ∷ lines) [] o = tt

-- which answers stand behind their sets and removals
abbrev pub AreStored : List Group → Type 0
AreStored [] = Unit {0}
AreStored (group ∷ groups) = AllToldNext group.events × AreStored groups

-- none has to, where none is told
abbrev pub none_stored : List Group → Bool
none_stored [] = true
none_stored (group ∷ groups) = are_all is_settled group.events && none_stored groups

pub all_stored : (told : List Group) → none_stored told ≡ true → AreStored told
all_stored [] o = tt
all_stored (group ∷ groups) o = let both = and_parts (are_all is_settled group.events) (none_stored groups) o in (settled_next group.events both.0, all_stored groups both.1)

-- with all of these in order, too
abbrev pub in_place : Chronicle → List ScriptLine → List Group → Bool
in_place chronicle script told = in_order chronicle script told && none_stored told

-- no link is left that ended: nothing was ever dialed, no line ends a link, or each is told over
pub data Ended (chronicle : Chronicle) (script : List ScriptLine) (told : List Group) : Type 0 where
  Never : Undialed chronicle → Ended chronicle script told
  Quiet : all_quiet script told ≡ true → Ended chronicle script told
  Told : AreEnded chronicle script told → Ended chronicle script told

pub fired_all : (chronicle : Chronicle) (script : List ScriptLine) (told : List Group) → all_quiet script told ≡ true → AreFired chronicle script told → AreEnded chronicle script told
fired_all chronicle (line ∷ lines) (group ∷ groups) o f =
    let both = and_parts (is_quiet line.verb group.answer) (all_quiet lines groups) o in
    (quiet_ended (at_line chronicle line.line) line.verb group.events group.answer both.0 f.0, fired_all (after_group (at_line chronicle line.line) line.verb group.events group.answer) lines groups both.1 f.1)
fired_all chronicle [] groups o f = tt
fired_all chronicle (line ∷ lines) [] o f = tt

fired_parts : (chronicle : Chronicle) (script : List ScriptLine) (told : List Group) → AreParts chronicle script told → AreFired chronicle script told
fired_parts chronicle [] [] p = tt
fired_parts chronicle (line ∷ lines) [] p = absurd p
fired_parts chronicle [] (group ∷ groups) p = absurd p
fired_parts chronicle (line ∷ lines) (group ∷ groups) p = (p.0.2, fired_parts (after_group (at_line chronicle line.line) line.verb group.events group.answer) lines groups p.1)

ended_so : (chronicle : Chronicle) (script : List ScriptLine) (told : List Group) → dials_none script ≡ true → AreParts chronicle script told → Ended chronicle script told → AreEnded chronicle script told
ended_so chronicle script told o p (Never none) = undialed_ended chronicle script told o none
ended_so chronicle script told o p (Quiet q) = fired_all chronicle script told q (fired_parts chronicle script told p)
ended_so chronicle script told o p (Told e) = e

-- and all of it
pub whole_left : (chronicle : Chronicle) (script : List ScriptLine) (told : List Group) → in_line chronicle script told ≡ true → AreParts chronicle script told → AreLeft chronicle script told → AreHeard chronicle script told → AreStored told → AreEnded chronicle script told → LawfulGroups chronicle script told
unfolding AreHeard
whole_left chronicle [] [] o p d h s e = tt
whole_left chronicle (line ∷ lines) [] o p d h s e = absurd p
whole_left chronicle [] (group ∷ groups) o p d h s e = absurd p
whole_left chronicle (line ∷ lines) (group ∷ groups) o p d h s e =
    let next : Chronicle = after_group (at_line chronicle line.line) line.verb group.events group.answer in
    let one = and_parts (group.line == line.line) _ o in
    let two = and_parts (is_answered_so group.events group.answer) _ one.1 in
    let three = and_parts (are_told (may_tell_of (at_line chronicle line.line) line.verb) (is_of_end (at_line chronicle line.line)) group.events) _ two.1 in
    let four = and_parts (is_asked_so line.verb group.events group.answer) _ three.1 in
    let five = and_parts (closes_none line.verb group.events) _ four.1 in
    let six = and_parts (are_plain (at_line chronicle line.line) line.verb group.events) (in_line next lines groups) five.1 in
    ((p.0.0, p.0.1, p.0.2, eqb-true group.line line.line one.0, tells_so group.events group.answer two.0, hands_plain (at_line chronicle line.line) line.verb group.events group.answer three.0 six.0, asked_so line.verb group.events group.answer four.0, d.0, h.0, s.0, breaks_so (at_line chronicle line.line) line.verb group.events five.0, e.0), whole_left next lines groups six.1 p.1 d.1 h.1 s.1 e.1)

pub whole_stored : (chronicle : Chronicle) (script : List ScriptLine) (told : List Group) → in_order chronicle script told ≡ true → AreParts chronicle script told → AreHeard chronicle script told → AreStored told → Ended chronicle script told → LawfulGroups chronicle script told
whole_stored chronicle script told o p h s e = let two = and_parts (in_line chronicle script told) _ o in let three = and_parts (all_done script told) (dials_none script) two.1 in whole_left chronicle script told two.0 p (all_left chronicle script told three.0) h s (ended_so chronicle script told three.1 p e)

pub whole : (chronicle : Chronicle) (script : List ScriptLine) (told : List Group) → in_place chronicle script told ≡ true → AreParts chronicle script told → AreHeard chronicle script told → Ended chronicle script told → LawfulGroups chronicle script told
whole chronicle script told o p h e = let two = and_parts (in_order chronicle script told) (none_stored told) o in whole_stored chronicle script told two.0 p h (all_stored told two.1) e

-- the parts, each by itself
pub parts : (chronicle : Chronicle) (script : List ScriptLine) (told : List Group) → AreTold chronicle script told → AreAnswered chronicle script told → AreFired chronicle script told → AreParts chronicle script told
parts chronicle [] [] t a f = tt
parts chronicle (line ∷ lines) [] t a f = absurd t
parts chronicle [] (group ∷ groups) t a f = absurd t
parts chronicle (line ∷ lines) (group ∷ groups) t a f = ((t.0, a.0, f.0), parts (after_group (at_line chronicle line.line) line.verb group.events group.answer) lines groups t.1 a.1 f.1)

pub both_left : (chronicle : Chronicle) (script : List ScriptLine) (told : List Group) → in_line chronicle script told ≡ true → AreTold chronicle script told → AreAnswered chronicle script told → AreFired chronicle script told → AreLeft chronicle script told → AreHeard chronicle script told → AreStored told → AreEnded chronicle script told → LawfulGroups chronicle script told
both_left chronicle script told o t a f d h s e = whole_left chronicle script told o (parts chronicle script told t a f) d h s e

pub both_stored : (chronicle : Chronicle) (script : List ScriptLine) (told : List Group) → in_order chronicle script told ≡ true → AreTold chronicle script told → AreAnswered chronicle script told → AreFired chronicle script told → AreHeard chronicle script told → AreStored told → Ended chronicle script told → LawfulGroups chronicle script told
both_stored chronicle script told o t a f h s e = whole_stored chronicle script told o (parts chronicle script told t a f) h s e

pub both : (chronicle : Chronicle) (script : List ScriptLine) (told : List Group) → in_place chronicle script told ≡ true → AreTold chronicle script told → AreAnswered chronicle script told → AreFired chronicle script told → AreHeard chronicle script told → Ended chronicle script told → LawfulGroups chronicle script told
both chronicle script told o t a f h e = whole chronicle script told o (parts chronicle script told t a f) h e
