-- the numbers of a script's lines rise, and nothing else that is read tells of them
use Rattle.std.specs.List.{onto_first}
use Rattle.std.specs.Prelude.{◌≡◌, ◌⊎◌, ◌<◌, ◌≤◌, ◌+◌, ◌^◌, ◌∷◌, ◌++◌, ◌==◌, ◌&&◌, nat_lt, if◌then◌else◌}
use Rattle.transcript_law.proofs.Words.{Role, list_any, not, verb_step, with_branches, ℕ, Bool, true, false, List, [], length, flat_map, refl, ap, sym, ◌∙◌, inl, inr, ⊎_elim, arith, nat_tests, Option, Some, None, Answer, Chronicle, Event, ScriptLine, Verb, empty_chronicle, empty_world, groups_from, world_step, PlainWorld, known_of}
use Rattle.script_text.specs.{Grammar.{verb_of}, Lines.{lines_of, words_of}, Scripts.{is_blank, said_from, verb_line_in, verb_lines}}
unfoldable use Rattle.script_text.specs.Scripts.{line_said}
use Rattle.script_text.specs.declared.verb.Verb.TheVariants as verb
use Rattle.script_text.specs.declared.verb.ClientVerb.TheVariants as client_verb
use Rattle.script_text.specs.declared.verb.LinkVerb.TheVariants as link_verb
use Rattle.script_text.specs.declared.verb.NodeVerb.TheVariants as node_verb
use Rattle.script_text.specs.declared.verb.VbVerb.TheVariants as vb_verb
use Rattle.vb_disk.specs.declared.fuse.Fuse.{Fuse}
use Rattle.vb_events.specs.declared.event.Answer.TheVariants as answer
use Rattle.vb_events.specs.declared.event.Cause.TheVariants as cause
use Rattle.vb_events.specs.declared.event.Event.TheVariants as event
use Rattle.vb_events.specs.declared.event.StreamName.TheVariants as name
use Rattle.vb_types.specs.declared.journal.Record.{Record}
use Rattle.vb_types.specs.declared.stream.AskAnswer.TheVariants as ask_answer
use Rattle.transcript_law.specs.Chronicles.{Appending, Conns, after_append, after_calls, after_group, after_line, after_lines, after_made, after_moved, after_openings, after_restart, after_restarts, after_rollback, after_start, after_starts, after_up, after_verb, ahead, as_noted, at_line, appending, calls_of_append, conns_lines, conns_verb, disks_of, heir_in, is_made, is_off, is_rollback, known_down, rollback_of, saving, state_of, with_disk, with_disk_there, with_id}
use Rattle.transcript_law.specs.{LinesTold.{ClientsKnown, LastLine, OwnChange, number_of, numbered, risen_through, risen_to, with_served}, Prefixes.{known_after}}

-- ---- numbers

onto_count : (b : ℕ) (ls : List (List ℕ)) → length (onto_first b ls) ≤ length ls + 1
onto_count b [] = omega arith
onto_count b (l ∷ ls) = omega arith

lines_few : (bytes : List ℕ) → length (lines_of bytes) ≤ length bytes
lines_few [] = omega arith
lines_few (b ∷ bytes) = let few = lines_few bytes in let one = onto_count b (lines_of bytes) in
    elim (b == 10) as (λ (t : Bool). length (if t then [] ∷ lines_of bytes else onto_first b (lines_of bytes)) ≤ length (b ∷ bytes)) [ true ↦ omega (arith, few) | false ↦ omega (arith, few, one) ]

-- a number above the last one
risen_on : (before number : ℕ) → before < number → number < 2 ^ 32 → risen_to (Some before) number ≡ Some number
risen_on before number above small = let a : nat_lt before number ≡ true = grind (arith, nat_tests, above) in let b : nat_lt number (2 ^ 32) ≡ true = grind (arith, nat_tests, small) in
    λ i. if a i && b i then Some number else None

-- behind a front of the lines it rose as well
none_through : (lines : List ScriptLine) → risen_through None lines ≡ None
none_through [] = refl
none_through (line ∷ lines) = none_through lines

pub front_rises : (last : Option ℕ) (front rest : List ScriptLine) (line : ℕ) → risen_through last (front ++ rest) ≡ Some line → (before : ℕ) × (risen_through last front ≡ Some before)
front_rises None [] rest line e = let z : None ≡ Some line = sym (none_through rest) ∙ e in absurd (cc z)
front_rises (Some before) [] rest line e = (before, refl)
front_rises last (first ∷ front) rest line e = front_rises (risen_to last first.line) front rest line e

-- what a line says is no verb, or one with its number
abbrev line_in : ℕ → List ℕ → List ScriptLine
line_in number l = verb_line_in (line_said number l)

line_is : (number : ℕ) (l : List ℕ) → (line_in number l ≡ []) ⊎ ((v : Verb) × (line_in number l ≡ record { line = number; verb = v } ∷ []))
unfolding line_said
line_is number l = by (is_blank l) refl (verb_of (words_of l)) refl
  where
    by : (b : Bool) → is_blank l ≡ b → (o : Option Verb) → verb_of (words_of l) ≡ o → (line_in number l ≡ []) ⊎ ((v : Verb) × (line_in number l ≡ record { line = number; verb = v } ∷ []))
    by true e o f = inl (rw e refl)
    by false e None f = inl (rw e (rw f refl))
    by false e (Some v) f = inr (v, rw e (rw f refl))

rise_from : (before number : ℕ) (ls : List (List ℕ)) → before < number → number + length ls ≤ 2 ^ 32 → (line : ℕ) × (risen_through (Some before) (flat_map verb_line_in (said_from number ls)) ≡ Some line)
rise_from before number [] above few = (before, refl)
rise_from before number (l ∷ ls) above few =
    let later : List ScriptLine = flat_map verb_line_in (said_from (number + 1) ls) in
    let more : (before' : ℕ) → before' < number + 1 → (line : ℕ) × (risen_through (Some before') later ≡ Some line) = λ before' less. rise_from before' (number + 1) ls less (omega (arith, few)) in
    ⊎_elim
    (λ none. let rest = more before (omega (arith, above)) in (rest.0, ap (λ es. risen_through (Some before) (es ++ later)) none ∙ rest.1))
    (λ (v, is).
    let rest = more number (omega arith) in
    (rest.0, ap (λ es. risen_through (Some before) (es ++ later)) is ∙ ap (λ o. risen_through o later) (risen_on before number above (omega (arith, few))) ∙ rest.1))
    (line_is number l)

pub lines_rise : (bytes : List ℕ) → length bytes < 2 ^ 32 → (line : ℕ) × (risen_through (Some 0) (verb_lines bytes) ≡ Some line)
lines_rise bytes small = let few = lines_few bytes in rise_from 0 1 (lines_of bytes) (omega arith) (omega (arith, few, small))

-- ---- what is read

line_last : (r : Chronicle) (line : Event) → (after_line r line).last ≡ r.last
line_last r (event.Asked (name.Client n c) m v ask high log said) = refl
line_last r (event.Asked (name.Link l) m v ask high log ask_answer.Go) = refl
line_last r (event.Asked (name.Link l) m v ask high log (ask_answer.Roll to)) = refl
line_last r (event.Asked (name.Link l) m v ask high log (ask_answer.Refuse code)) = refl
line_last r (event.Marked (name.Client n c) start end flags) = refl
line_last r (event.Marked (name.Link l) start end flags) = refl
line_last r (event.Item (name.Client n c) seq act key) = refl
line_last r (event.Item (name.Link l) seq act key) = refl
line_last r (event.Finished (name.Client n c) reason) = refl
line_last r (event.Finished (name.Link l) reason) = refl
line_last r (event.Stated (name.Client n c) role) = refl
line_last r (event.Stated (name.Link l) role) = refl
line_last r other = refl

pub lines_last : (r : Chronicle) (lines : List Event) → (after_lines r lines).last ≡ r.last
lines_last r [] = refl
lines_last r (line ∷ lines) = lines_last (after_line r line) lines ∙ line_last r line

-- ---- lines of a script

-- one or the other of three, where each has the same last line
pick : (b : Bool) (x y : Chronicle) (k : Option LastLine) → x.last ≡ k → y.last ≡ k → (if b then x else y).last ≡ k
pick true x y k e f = e
pick false x y k e f = f

append_same : (r : Chronicle) (n v : ℕ) (a : Appending) (said : Answer) → (after_append r n v a said).last ≡ r.last
append_same r n v a answer.Ok = refl
append_same r n v a (answer.No cause.Closed) = refl
append_same r n v a (answer.No cause.Disk) = refl
append_same r n v a (answer.No cause.Stopped) = refl
append_same r n v a other = refl

made_same : (r : Chronicle) (n v : ℕ) (role : Role) (said : Answer) → (after_made r n v role said).last ≡ r.last
made_same r n v role said = append_same (with_disk_there r n v said) n v (appending (state_of (with_disk_there r n v said) n v role)) said ∙ pick (is_made said) (with_disk r n v (record (r.disk_at n v) { there = true })) r r.last refl refl

rollback_same : (r : Chronicle) (back : Option (ℕ × (ℕ × Record))) (lines : List Event) (said : Answer) → (after_rollback r back lines said).last ≡ r.last
rollback_same r None lines said = refl
rollback_same r (Some (n, (v, x))) lines (answer.No why) = append_same r n v (appending x) (answer.No why)
rollback_same r (Some (n, (v, x))) lines other = pick (list_any is_rollback lines) (after_calls calls_of_append n r) r r.last refl refl

moved_same : (r : Chronicle) (heir : Option (ℕ × ℕ)) (back : Option (ℕ × (ℕ × Record))) (lines : List Event) (said : Answer) → (after_moved r heir back lines said).last ≡ r.last
moved_same r None back lines said = rollback_same r back lines said
moved_same r (Some (n, v)) back lines said = append_same r n v (appending (state_of r n v Role.Active)) (as_noted said)

restarts_same : (r : Chronicle) (lines : List Event) → (after_restarts r lines).last ≡ r.last
restarts_same r [] = refl
restarts_same r (event.Branch n v uuid parent fork high ∷ lines) = restarts_same (after_restart r n v) lines
restarts_same r (line ∷ lines) = restarts_same r lines

starts_same : (r : Chronicle) (n : ℕ) (said : Answer) → (after_starts r n said).last ≡ r.last
starts_same r n (answer.No cause.Stopped) = refl
starts_same r n other = refl

openings_same : (before : Fuse) (r : Chronicle) (n : ℕ) (lines : List Event) (said : Answer) → (after_openings before r n lines said).last ≡ r.last
openings_same before r n lines (answer.No cause.IdsShort) = pick (is_off (r.arm_at n).fuse && not (is_off before)) (record r { arm_at = with_id r.arm_at n known_down }) r r.last refl refl
openings_same before r n lines other =
    pick (is_off (r.arm_at n).fuse && not (is_off before)) (record r { arm_at = with_id r.arm_at n known_down }) (after_starts (after_restarts (after_up n r) lines) n other) r.last refl
    (starts_same (after_restarts (after_up n r) lines) n other ∙ restarts_same (after_up n r) lines)

start_same : (r : Chronicle) (n : ℕ) (lines : List Event) (said : Answer) → (after_start r n lines said).last ≡ r.last
start_same r n lines (answer.No cause.UnknownNode) = refl
start_same r n lines (answer.No cause.NodeUp) = refl
start_same r n lines (answer.No cause.UuidZero) = refl
start_same r n lines (answer.No cause.UuidUsed) = refl
start_same r n lines said = openings_same (r.arm_at n).fuse (after_calls (disks_of r n) n r) n lines said

ahead_last : (r : Chronicle) (line : Verb) (said : Answer) → (ahead r line said).last ≡ r.last
ahead_last r (verb.AtClient n c (client_verb.Bytes bytes)) answer.Ok = refl
ahead_last r (verb.AtClient n c (client_verb.Bytes bytes)) other = refl
ahead_last r (verb.AtVb n v (vb_verb.Chain others)) answer.Ok = refl
ahead_last r (verb.AtVb n v (vb_verb.Chain others)) other = refl
ahead_last r (verb.AtVb n v vb_verb.Done) (answer.Number saved) = refl
ahead_last r (verb.AtVb n v vb_verb.Done) other = refl
ahead_last r (verb.AtNode n (node_verb.Crash out)) answer.Ok = refl
ahead_last r (verb.AtNode n (node_verb.Crash out)) other = refl
ahead_last r other said = refl

verb_last : (before r : Chronicle) (line : Verb) (lines : List Event) (said : Answer) → (after_verb before r line lines said).last ≡ r.last
verb_last before r (verb.AtVb n v (vb_verb.MakeActive uuid)) lines said = made_same r n v Role.Active said
verb_last before r (verb.AtVb n v vb_verb.MakeReplica) lines said = made_same r n v Role.Replica said
verb_last before r (verb.Link l m n v buffer takeover) lines answer.Ok = refl
verb_last before r (verb.Link l m n v buffer takeover) lines other = refl
verb_last before r (verb.AtLink l (link_verb.Down wanted)) lines said = moved_same r (heir_in lines) (rollback_of before (before.dial_of l) (before.point_of l)) lines said
verb_last before r (verb.AtVb n v (vb_verb.Promote uuid)) lines said = append_same r n v (appending (state_of r n v Role.Active)) said
verb_last before r (verb.AtVb n v vb_verb.Follow) lines said = append_same r n v (appending (state_of r n v Role.Replica)) said
verb_last before r (verb.AtVb n v vb_verb.Dead) lines said = append_same r n v (appending (state_of r n v Role.Dead)) said
verb_last before r (verb.AtVb n v vb_verb.Seal) lines (answer.Number sealed) = refl
verb_last before r (verb.AtVb n v vb_verb.Seal) lines other = refl
verb_last before r (verb.AtVb n v vb_verb.Save) lines said = append_same r n v (saving (r.disk_at n v)) said
verb_last before r (verb.AtNode n (node_verb.Clock nanos)) lines answer.Ok = refl
verb_last before r (verb.AtNode n (node_verb.Clock nanos)) lines other = refl
verb_last before r (verb.AtNode n (node_verb.Stop call out)) lines answer.Ok = refl
verb_last before r (verb.AtNode n (node_verb.Stop call out)) lines other = refl
verb_last before r (verb.AtNode n (node_verb.Fail call)) lines answer.Ok = refl
verb_last before r (verb.AtNode n (node_verb.Fail call)) lines other = refl
verb_last before r (verb.AtNode n (node_verb.Crash out)) lines answer.Ok = refl
verb_last before r (verb.AtNode n (node_verb.Crash out)) lines other = refl
verb_last before r (verb.AtNode n (node_verb.Start uuids)) lines said = start_same r n lines said
verb_last before r (verb.AtClient n c client_verb.Open) lines answer.Ok = refl
verb_last before r (verb.AtClient n c client_verb.Open) lines other = refl
verb_last before r (verb.AtClient n c client_verb.Hang) lines answer.Ok = refl
verb_last before r (verb.AtClient n c client_verb.Hang) lines other = refl
verb_last before r other lines said = refl

-- what is entered when a group ends is no number
served_number : (last : Option LastLine) (clients : ClientsKnown) (conns : Conns) (made : List OwnChange) → number_of (with_served last clients conns made) ≡ number_of last
served_number None clients conns made = refl
served_number (Some line) clients conns made = refl

-- so it is behind a whole group
pub group_last : (r : Chronicle) (line : Verb) (lines : List Event) (said : Answer) → number_of (after_group r line lines said).last ≡ number_of r.last
group_last r line lines said =
    let read : Chronicle = after_verb r (after_lines (ahead r line said) lines) line lines said in
    served_number read.last read.clients_at (conns_verb (conns_lines r.conn_at lines) line said) read.made ∙ ap number_of (verb_last r (after_lines (ahead r line said) lines) line lines said ∙ lines_last (ahead r line said) lines ∙ ahead_last r line said)

pub line_number : (o : Option LastLine) (number : ℕ) → number_of (numbered o number) ≡ risen_to (number_of o) number
line_number None number = refl
line_number (Some before) number = elim (nat_lt before.number number && nat_lt number (2 ^ 32)) as (λ (b : Bool). number_of (if b then Some (record before { number = number }) else None) ≡ (if b then Some number else None)) [ true ↦ refl | false ↦ refl ]

from_last : (w : PlainWorld) (r : Chronicle) (script : List ScriptLine) → number_of (known_after r script (groups_from w script)).last ≡ risen_through (number_of r.last) script
unfolding world_step
from_last w r [] = refl
from_last w r (line ∷ lines) =
    let o = verb_step w line.line line.verb in
    let r0 : Chronicle = at_line r line.line in
    from_last (with_branches o.1.events o.0) (after_group r0 line.verb o.1.events o.1.answer) lines ∙ ap (λ last. risen_through last lines) (group_last r0 line.verb o.1.events o.1.answer ∙ line_number r.last line.line)

pub script_last : (script : List ScriptLine) → number_of (known_of script).last ≡ risen_through (Some 0) script
script_last script = from_last empty_world empty_chronicle script
