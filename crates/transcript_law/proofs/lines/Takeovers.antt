-- what is told of links that may take a vBucket over is told by whole groups alone
use Rattle.std.specs.Prelude.{◌≡◌, ◌∷◌, ◌==◌, ◌&&◌, nat_lt, if◌then◌else◌}
use Rattle.transcript_law.proofs.Words.{Role, list_any, not, ℕ, zero, suc, take, Bool, true, false, List, [], refl, ap, sym, ◌∙◌, subst, Option, Some, None, Answer, Chronicle, Event, Group, ScriptLine, Verb, empty_chronicle}
use Rattle.script_text.specs.declared.verb.Verb.TheVariants as verb
use Rattle.script_text.specs.declared.verb.ClientVerb.TheVariants as client_verb
use Rattle.script_text.specs.declared.verb.LinkVerb.TheVariants as link_verb
use Rattle.script_text.specs.declared.verb.NodeVerb.TheVariants as node_verb
use Rattle.script_text.specs.declared.verb.VbVerb.TheVariants as vb_verb
use Rattle.vb_disk.specs.declared.fuse.Fuse.{Fuse}
use Rattle.vb_events.specs.declared.event.Answer.TheVariants as answer
use Rattle.vb_events.specs.declared.event.Cause.TheVariants as cause
use Rattle.vb_events.specs.declared.event.Event.TheVariants as event
use Rattle.vb_events.specs.declared.event.StreamName.TheVariants as name
use Rattle.vb_types.specs.declared.journal.Record.{Record}
use Rattle.vb_types.specs.declared.stream.AskAnswer.TheVariants as ask_answer
use Rattle.transcript_law.specs.Chronicles.{Appending, after_append, after_calls, after_group, after_line, after_lines, after_made, after_moved, after_openings, after_restart, after_restarts, after_rollback, after_start, after_starts, after_up, after_verb, ahead, as_noted, at_line, appending, calls_of_append, disks_of, heir_in, is_made, is_off, is_rollback, known_down, rollback_of, saving, state_of, with_disk, with_disk_there, with_id}
use Rattle.transcript_law.specs.LinesTold.{Dial, TakeoverKnown, dialed_for, with_moved, with_role, with_state}
use Rattle.transcript_law.specs.TakeoverNotes.{is_state_of, obeyed_after, turns_consumer}
use Rattle.transcript_law.specs.Prefixes.{known_after}
use Rattle.transcript_law.specs.Takeovers.{AllFollow, FollowsAlone, IsPlainFor, NoneDialed}

pub line_takeovers : (r : Chronicle) (line : Event) → (after_line r line).takeover_of ≡ r.takeover_of
line_takeovers r (event.Asked (name.Client n c) m v ask high log said) = refl
line_takeovers r (event.Asked (name.Link l) m v ask high log ask_answer.Go) = refl
line_takeovers r (event.Asked (name.Link l) m v ask high log (ask_answer.Roll to)) = refl
line_takeovers r (event.Asked (name.Link l) m v ask high log (ask_answer.Refuse code)) = refl
line_takeovers r (event.Marked (name.Client n c) start end flags) = refl
line_takeovers r (event.Marked (name.Link l) start end flags) = refl
line_takeovers r (event.Item (name.Client n c) seq act key) = refl
line_takeovers r (event.Item (name.Link l) seq act key) = refl
line_takeovers r (event.Finished (name.Client n c) reason) = refl
line_takeovers r (event.Finished (name.Link l) reason) = refl
line_takeovers r (event.Stated (name.Client n c) role) = refl
line_takeovers r (event.Stated (name.Link l) role) = refl
line_takeovers r other = refl

pub lines_takeovers : (r : Chronicle) (lines : List Event) → (after_lines r lines).takeover_of ≡ r.takeover_of
lines_takeovers r [] = refl
lines_takeovers r (line ∷ lines) = lines_takeovers (after_line r line) lines ∙ line_takeovers r line

-- ---- lines of a script

-- one or the other of two, where each tells the same of them
pick : (b : Bool) (x y : Chronicle) (k : ℕ → TakeoverKnown) → x.takeover_of ≡ k → y.takeover_of ≡ k → (if b then x else y).takeover_of ≡ k
pick true x y k e f = e
pick false x y k e f = f

append_same : (r : Chronicle) (n v : ℕ) (a : Appending) (said : Answer) → (after_append r n v a said).takeover_of ≡ r.takeover_of
append_same r n v a answer.Ok = refl
append_same r n v a (answer.No cause.Closed) = refl
append_same r n v a (answer.No cause.Disk) = refl
append_same r n v a (answer.No cause.Stopped) = refl
append_same r n v a other = refl

made_same : (r : Chronicle) (n v : ℕ) (role : Role) (said : Answer) → (after_made r n v role said).takeover_of ≡ r.takeover_of
made_same r n v role said = append_same (with_disk_there r n v said) n v (appending (state_of (with_disk_there r n v said) n v role)) said ∙ pick (is_made said) (with_disk r n v (record (r.disk_at n v) { there = true })) r r.takeover_of refl refl

rollback_same : (r : Chronicle) (back : Option (ℕ × (ℕ × Record))) (lines : List Event) (said : Answer) → (after_rollback r back lines said).takeover_of ≡ r.takeover_of
rollback_same r None lines said = refl
rollback_same r (Some (n, (v, x))) lines (answer.No why) = append_same r n v (appending x) (answer.No why)
rollback_same r (Some (n, (v, x))) lines other = pick (list_any is_rollback lines) (after_calls calls_of_append n r) r r.takeover_of refl refl

moved_same : (r : Chronicle) (heir : Option (ℕ × ℕ)) (back : Option (ℕ × (ℕ × Record))) (lines : List Event) (said : Answer) → (after_moved r heir back lines said).takeover_of ≡ r.takeover_of
moved_same r None back lines said = rollback_same r back lines said
moved_same r (Some (n, v)) back lines said = append_same r n v (appending (state_of r n v Role.Active)) (as_noted said)

restarts_same : (r : Chronicle) (lines : List Event) → (after_restarts r lines).takeover_of ≡ r.takeover_of
restarts_same r [] = refl
restarts_same r (event.Branch n v uuid parent fork high ∷ lines) = restarts_same (after_restart r n v) lines
restarts_same r (line ∷ lines) = restarts_same r lines

starts_same : (r : Chronicle) (n : ℕ) (said : Answer) → (after_starts r n said).takeover_of ≡ r.takeover_of
starts_same r n (answer.No cause.Stopped) = refl
starts_same r n other = refl

openings_same : (before : Fuse) (r : Chronicle) (n : ℕ) (lines : List Event) (said : Answer) → (after_openings before r n lines said).takeover_of ≡ r.takeover_of
openings_same before r n lines (answer.No cause.IdsShort) = pick (is_off (r.arm_at n).fuse && not (is_off before)) (record r { arm_at = with_id r.arm_at n known_down }) r r.takeover_of refl refl
openings_same before r n lines other =
    pick (is_off (r.arm_at n).fuse && not (is_off before)) (record r { arm_at = with_id r.arm_at n known_down }) (after_starts (after_restarts (after_up n r) lines) n other) r.takeover_of refl
    (starts_same (after_restarts (after_up n r) lines) n other ∙ restarts_same (after_up n r) lines)

start_same : (r : Chronicle) (n : ℕ) (lines : List Event) (said : Answer) → (after_start r n lines said).takeover_of ≡ r.takeover_of
start_same r n lines (answer.No cause.UnknownNode) = refl
start_same r n lines (answer.No cause.NodeUp) = refl
start_same r n lines (answer.No cause.UuidZero) = refl
start_same r n lines (answer.No cause.UuidUsed) = refl
start_same r n lines said = openings_same (r.arm_at n).fuse (after_calls (disks_of r n) n r) n lines said

pub ahead_takeovers : (r : Chronicle) (line : Verb) (said : Answer) → (ahead r line said).takeover_of ≡ r.takeover_of
ahead_takeovers r (verb.AtClient n c (client_verb.Bytes bytes)) answer.Ok = refl
ahead_takeovers r (verb.AtClient n c (client_verb.Bytes bytes)) other = refl
ahead_takeovers r (verb.AtVb n v (vb_verb.Chain others)) answer.Ok = refl
ahead_takeovers r (verb.AtVb n v (vb_verb.Chain others)) other = refl
ahead_takeovers r (verb.AtVb n v vb_verb.Done) (answer.Number saved) = refl
ahead_takeovers r (verb.AtVb n v vb_verb.Done) other = refl
ahead_takeovers r (verb.AtNode n (node_verb.Crash out)) answer.Ok = refl
ahead_takeovers r (verb.AtNode n (node_verb.Crash out)) other = refl
ahead_takeovers r other said = refl

pub verb_takeovers : (before r : Chronicle) (line : Verb) (lines : List Event) (said : Answer) → (after_verb before r line lines said).takeover_of ≡ r.takeover_of
verb_takeovers before r (verb.AtVb n v (vb_verb.MakeActive uuid)) lines said = made_same r n v Role.Active said
verb_takeovers before r (verb.AtVb n v vb_verb.MakeReplica) lines said = made_same r n v Role.Replica said
verb_takeovers before r (verb.Link l m n v buffer takeover) lines answer.Ok = refl
verb_takeovers before r (verb.Link l m n v buffer takeover) lines other = refl
verb_takeovers before r (verb.AtLink l (link_verb.Down wanted)) lines said = moved_same r (heir_in lines) (rollback_of before (before.dial_of l) (before.point_of l)) lines said
verb_takeovers before r (verb.AtVb n v (vb_verb.Promote uuid)) lines said = append_same r n v (appending (state_of r n v Role.Active)) said
verb_takeovers before r (verb.AtVb n v vb_verb.Follow) lines said = append_same r n v (appending (state_of r n v Role.Replica)) said
verb_takeovers before r (verb.AtVb n v vb_verb.Dead) lines said = append_same r n v (appending (state_of r n v Role.Dead)) said
verb_takeovers before r (verb.AtVb n v vb_verb.Seal) lines (answer.Number sealed) = refl
verb_takeovers before r (verb.AtVb n v vb_verb.Seal) lines other = refl
verb_takeovers before r (verb.AtVb n v vb_verb.Save) lines said = append_same r n v (saving (r.disk_at n v)) said
verb_takeovers before r (verb.AtNode n (node_verb.Clock nanos)) lines answer.Ok = refl
verb_takeovers before r (verb.AtNode n (node_verb.Clock nanos)) lines other = refl
verb_takeovers before r (verb.AtNode n (node_verb.Stop call out)) lines answer.Ok = refl
verb_takeovers before r (verb.AtNode n (node_verb.Stop call out)) lines other = refl
verb_takeovers before r (verb.AtNode n (node_verb.Fail call)) lines answer.Ok = refl
verb_takeovers before r (verb.AtNode n (node_verb.Fail call)) lines other = refl
verb_takeovers before r (verb.AtNode n (node_verb.Crash out)) lines answer.Ok = refl
verb_takeovers before r (verb.AtNode n (node_verb.Crash out)) lines other = refl
verb_takeovers before r (verb.AtNode n (node_verb.Start uuids)) lines said = start_same r n lines said
verb_takeovers before r (verb.AtClient n c client_verb.Open) lines answer.Ok = refl
verb_takeovers before r (verb.AtClient n c client_verb.Open) lines other = refl
verb_takeovers before r (verb.AtClient n c client_verb.Hang) lines answer.Ok = refl
verb_takeovers before r (verb.AtClient n c client_verb.Hang) lines other = refl
verb_takeovers before r other lines said = refl

-- ---- none is dialed

-- so it is behind a whole group of a line that dials no link for a takeover
either : (b : Bool) (x y : TakeoverKnown) → x.dialed ≡ false → y.dialed ≡ false → (if b then x else y).dialed ≡ false
either true x y e f = e
either false x y e f = f

obeyed_plain : (dial : Option Dial) (asked : Verb) (lines : List Event) (said : Answer) (l : ℕ) (t : TakeoverKnown) → FollowsAlone asked → t.dialed ≡ false → (obeyed_after dial asked lines said l t).dialed ≡ false
obeyed_plain dial (verb.AtLink k (link_verb.Pump wanted)) lines said l t alone e = either (k == l && list_any (is_state_of l) lines) (with_state t) t e e
obeyed_plain dial (verb.AtLink k (link_verb.Down wanted)) lines said l t alone e = either (k == l && turns_consumer dial lines) (with_role t) t e e
obeyed_plain dial (verb.AtLink k (link_verb.Up wanted)) lines (answer.Number n) l t alone e = either (k == l) (with_moved wanted n t) t e e
obeyed_plain dial (verb.Link k m n v buffer takeover) lines answer.Ok l t alone e = either (k == l) (dialed_for takeover) t alone e
obeyed_plain dial other lines said l t alone e = e

-- what is read with a group tells of links what was told before it
pub read_takeovers : (r : Chronicle) (line : Verb) (lines : List Event) (said : Answer) → (after_verb r (after_lines (ahead r line said) lines) line lines said).takeover_of ≡ r.takeover_of
read_takeovers r line lines said = verb_takeovers r (after_lines (ahead r line said) lines) line lines said ∙ lines_takeovers (ahead r line said) lines ∙ ahead_takeovers r line said

pub group_plain : (r : Chronicle) (line : Verb) (lines : List Event) (said : Answer) → FollowsAlone line → NoneDialed r → NoneDialed (after_group r line lines said)
group_plain r line lines said alone none l =
    let read : Chronicle = after_verb r (after_lines (ahead r line said) lines) line lines said in
    obeyed_plain (read.dial_of l) line lines said l (read.takeover_of l) alone (ap (λ (t : ℕ → TakeoverKnown). (t l).dialed) (read_takeovers r line lines said) ∙ none l)

-- nor is the one that a line names
pub plain_for : (r : Chronicle) (line : Verb) → NoneDialed r → IsPlainFor r line
plain_for r (verb.AtLink l what) none = none l
plain_for r other none = tt

-- whatever lines are told
known_plain : (r : Chronicle) (script : List ScriptLine) (told : List Group) → AllFollow script → NoneDialed r → NoneDialed (known_after r script told)
known_plain r [] told alone none = none
known_plain r (line ∷ lines) [] alone none = none
known_plain r (line ∷ lines) (group ∷ told) alone none = known_plain (after_group (at_line r line.line) line.verb group.events group.answer) lines told alone.1 (group_plain (at_line r line.line) line.verb group.events group.answer alone.0 none)

pub none_known : (script : List ScriptLine) (told : List Group) → AllFollow script → NoneDialed (known_after empty_chronicle script told)
none_known script told alone = known_plain empty_chronicle script told alone (λ l. refl)

-- a front of such a script is one
pub front_follows : (k : ℕ) (script : List ScriptLine) → AllFollow script → AllFollow (take k script)
front_follows zero script alone = tt
front_follows (suc k) [] alone = tt
front_follows (suc k) (line ∷ lines) alone = (alone.0, front_follows k lines alone.1)
