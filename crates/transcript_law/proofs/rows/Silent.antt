-- that no client is left without an answer, in transcripts that are judged by hand: behind lines by which no client sends anything there is nothing to be answered
use Rattle.std.specs.Prelude.{◌≡◌, ◌∷◌, ◌++◌, ◌==◌, ◌&&◌, if◌then◌else◌}
use Rattle.transcript_law.proofs.Words.{ℕ, Bool, not, true, false, List, [], refl, sym, ap, ◌∙◌, subst, and_parts, eqb-true, list_any, Option, Some, None, Answer, Cause, Event, Role, ScriptLine, Verb, Chronicle, drop, empty_chronicle, Group}
use Rattle.script_text.specs.declared.verb.Verb.TheVariants as verb
use Rattle.script_text.specs.declared.verb.ClientVerb.TheVariants as client_verb
use Rattle.script_text.specs.declared.verb.LinkVerb.TheVariants as link_verb
use Rattle.script_text.specs.declared.verb.NodeVerb.TheVariants as node_verb
use Rattle.script_text.specs.declared.verb.VbVerb.TheVariants as vb_verb
use Rattle.client_session.proofs.Chunks.{nothing}
use Rattle.mcbp_frame.proofs.Cutting.{frames-none}
use Rattle.std.specs.List.{sum_by}
use Rattle.mcbp_frame.specs.Frames.{frame_len}
use Rattle.mcbp_frame.specs.Cutting.{fault_in, frame_in, frames_in, front_fault}
use Rattle.vb_disk.specs.declared.fuse.Fuse.{Fuse}
use Rattle.vb_events.specs.declared.event.Answer.TheVariants as answer
use Rattle.vb_events.specs.declared.event.Cause.TheVariants as cause
use Rattle.vb_events.specs.declared.event.Event.TheVariants as event
use Rattle.vb_events.specs.declared.event.StreamName.TheVariants as name
use Rattle.vb_types.specs.declared.journal.Record.{Record}
use Rattle.vb_types.specs.declared.stream.AskAnswer.TheVariants as ask_answer
use Rattle.transcript_law.specs.Chronicles.{Appending, Conns, after_append, after_calls, after_group, after_line, after_lines, after_made, after_moved, after_openings, after_restart, after_restarts, after_rollback, after_start, after_starts, after_up, after_verb, ahead, as_noted, at_line, appending, calls_of_append, conns_lines, conns_verb, disks_of, heir_in, is_made, is_off, is_rollback, known_down, rollback_of, saving, state_of, with_disk, with_at, with_disk_there, with_id}
use Rattle.transcript_law.specs.ClientFrames.{Request, request_in}
use Rattle.transcript_law.specs.ClientStreams.{ClientKnown, ClientsKnown, StreamLine, blank_client, clients_frame, past_asked, past_turn, with_client}
use Rattle.transcript_law.specs.Questions.{behind_frames, first_question, past_answer, past_question_if, question_of}
use Rattle.transcript_law.specs.StreamsTold.{Asking}
use Rattle.transcript_law.specs.Unanswered.{AllAnswered, NoneWaits}

-- nothing is asked, and nothing is broken
pub none_next : (k : Asking) → question_of k ≡ None → front_fault (behind_frames k.bytes) ≡ None → NoneWaits k
none_next k none whole = record { asks = λ q is. let z : None ≡ Some q = sym none ∙ is in cc; whole = λ z. whole }

-- ---- nothing was sent

-- no byte asks nothing
pub none_of : (k : Asking) → k.bytes ≡ [] → question_of k ≡ None
none_of k e = ap (λ b. first_question k.setup (frames_in b)) e ∙ ap (first_question k.setup) (frames-none [] (ap frame_in nothing))

-- and breaks nothing
pub unbroken_of : (k : Asking) → k.bytes ≡ [] → front_fault (behind_frames k.bytes) ≡ None
unbroken_of k e = ap (λ b. front_fault (behind_frames b)) e ∙ ap (λ fs. front_fault (drop (sum_by frame_len fs) [])) (frames-none [] (ap frame_in nothing)) ∙ ap fault_in nothing

none_waits : (k : Asking) → k.bytes ≡ [] → NoneWaits k
none_waits k e = none_next k (none_of k e) (unbroken_of k e)

-- no client has sent a byte that is not answered
abbrev pub Silent : ClientsKnown → Type 0
Silent clients = (n c : ℕ) → (clients n c).asking.bytes ≡ []

pub silent_answered : (r : Chronicle) → Silent r.clients_at → AllAnswered r
silent_answered r silent n c opens = none_waits (r.clients_at n c).asking (silent n c)

-- nor is one left where no connection is open
pub shut_answered : (r : Chronicle) → ((n c : ℕ) → r.conn_at n c ≡ false) → AllAnswered r
shut_answered r shut n c opens = let z : true ≡ false = sym opens ∙ shut n c in cc

-- ---- one connection

pub put_silent : (clients : ClientsKnown) (n c : ℕ) (k : ClientKnown) → Silent clients → k.asking.bytes ≡ [] → Silent (with_client clients n c k)
put_silent clients n c k silent e m d = elim (m == n && d == c) as (λ b. (if b then k else clients m d).asking.bytes ≡ []) [ true ↦ e | false ↦ silent m d ]

-- one that sent bytes, and was answered
pub twice_silent : (clients : ClientsKnown) (n c : ℕ) (sent k : ClientKnown) → Silent clients → k.asking.bytes ≡ [] → Silent (with_client (with_client clients n c sent) n c k)
twice_silent clients n c sent k silent e m d = elim (m == n && d == c) as (λ b. (if b then k else (if b then sent else clients m d)).asking.bytes ≡ []) [ true ↦ e | false ↦ silent m d ]

past_silent : (k : ClientKnown) → k.asking.bytes ≡ [] → (past_answer k).asking.bytes ≡ []
past_silent k e = ap (λ o. (past_question_if o k.asking).bytes) (none_of k.asking e) ∙ e

asked_silent : (o : Option Request) (v : ℕ) (log : _) (said : _) (k : ClientKnown) → k.asking.bytes ≡ [] → (past_asked o v log said k).asking.bytes ≡ []
asked_silent None v log said k e = e
asked_silent (Some r) v log said k e = e

-- ---- lines

line_silent : (r : Chronicle) (line : Event) → Silent r.clients_at → Silent (after_line r line).clients_at
line_silent r (event.Role n v role) silent = λ m c. elim (m == n) as (λ b. (if b then past_turn v (r.held n v) (r.clients_at m c) else r.clients_at m c).asking.bytes ≡ []) [ true ↦ silent m c | false ↦ silent m c ]
line_silent r (event.Reply n c bytes) silent = by (r.clients_at n c).told
  where
    by : (told : Option StreamLine) → Silent (clients_frame r.tree r.clients_at n c bytes told)
    by None = put_silent r.clients_at n c (past_answer (r.clients_at n c)) silent (past_silent (r.clients_at n c) (silent n c))
    by (Some line) = put_silent r.clients_at n c _ silent (silent n c)
line_silent r (event.Closed n c) silent = put_silent r.clients_at n c blank_client silent refl
line_silent r (event.Asked (name.Client n c) m v ask high log said) silent = put_silent r.clients_at n c _ silent (asked_silent (request_in (r.clients_at n c).bytes) v log said (r.clients_at n c) (silent n c))
line_silent r (event.Asked (name.Link l) m v ask high log ask_answer.Go) silent = silent
line_silent r (event.Asked (name.Link l) m v ask high log (ask_answer.Roll to)) silent = silent
line_silent r (event.Asked (name.Link l) m v ask high log (ask_answer.Refuse code)) silent = silent
line_silent r (event.Marked (name.Client n c) start end flags) silent = put_silent r.clients_at n c _ silent (silent n c)
line_silent r (event.Marked (name.Link l) start end flags) silent = silent
line_silent r (event.Item (name.Client n c) seq act key) silent = put_silent r.clients_at n c _ silent (silent n c)
line_silent r (event.Item (name.Link l) seq act key) silent = silent
line_silent r (event.Finished (name.Client n c) reason) silent = put_silent r.clients_at n c _ silent (silent n c)
line_silent r (event.Finished (name.Link l) reason) silent = silent
line_silent r (event.Stated (name.Client n c) role) silent = silent
line_silent r (event.Stated (name.Link l) role) silent = silent
line_silent r other silent = silent

pub lines_silent : (r : Chronicle) (lines : List Event) → Silent r.clients_at → Silent (after_lines r lines).clients_at
lines_silent r [] silent = silent
lines_silent r (line ∷ lines) silent = lines_silent (after_line r line) lines (line_silent r line silent)

-- ---- lines of a script

-- one or the other of three, where each has the same connections
pick : (b : Bool) (x y : Chronicle) (k : ClientsKnown) → x.clients_at ≡ k → y.clients_at ≡ k → (if b then x else y).clients_at ≡ k
pick true x y k e f = e
pick false x y k e f = f

append_same : (r : Chronicle) (n v : ℕ) (a : Appending) (said : Answer) → (after_append r n v a said).clients_at ≡ r.clients_at
append_same r n v a answer.Ok = refl
append_same r n v a (answer.No cause.Closed) = refl
append_same r n v a (answer.No cause.Disk) = refl
append_same r n v a (answer.No cause.Stopped) = refl
append_same r n v a other = refl

made_same : (r : Chronicle) (n v : ℕ) (role : Role) (said : Answer) → (after_made r n v role said).clients_at ≡ r.clients_at
made_same r n v role said = append_same (with_disk_there r n v said) n v (appending (state_of (with_disk_there r n v said) n v role)) said ∙ pick (is_made said) (with_disk r n v (record (r.disk_at n v) { there = true })) r r.clients_at refl refl

rollback_same : (r : Chronicle) (back : Option (ℕ × (ℕ × Record))) (lines : List Event) (said : Answer) → (after_rollback r back lines said).clients_at ≡ r.clients_at
rollback_same r None lines said = refl
rollback_same r (Some (n, (v, x))) lines (answer.No why) = append_same r n v (appending x) (answer.No why)
rollback_same r (Some (n, (v, x))) lines other = pick (list_any is_rollback lines) (after_calls calls_of_append n r) r r.clients_at refl refl

moved_same : (r : Chronicle) (heir : Option (ℕ × ℕ)) (back : Option (ℕ × (ℕ × Record))) (lines : List Event) (said : Answer) → (after_moved r heir back lines said).clients_at ≡ r.clients_at
moved_same r None back lines said = rollback_same r back lines said
moved_same r (Some (n, v)) back lines said = append_same r n v (appending (state_of r n v Role.Active)) (as_noted said)

restarts_same : (r : Chronicle) (lines : List Event) → (after_restarts r lines).clients_at ≡ r.clients_at
restarts_same r [] = refl
restarts_same r (event.Branch n v uuid parent fork high ∷ lines) = restarts_same (after_restart r n v) lines
restarts_same r (line ∷ lines) = restarts_same r lines

starts_same : (r : Chronicle) (n : ℕ) (said : Answer) → (after_starts r n said).clients_at ≡ r.clients_at
starts_same r n (answer.No cause.Stopped) = refl
starts_same r n other = refl

openings_same : (before : Fuse) (r : Chronicle) (n : ℕ) (lines : List Event) (said : Answer) → (after_openings before r n lines said).clients_at ≡ r.clients_at
openings_same before r n lines (answer.No cause.IdsShort) = pick (is_off (r.arm_at n).fuse && not (is_off before)) (record r { arm_at = with_id r.arm_at n known_down }) r r.clients_at refl refl
openings_same before r n lines other =
    pick (is_off (r.arm_at n).fuse && not (is_off before)) (record r { arm_at = with_id r.arm_at n known_down }) (after_starts (after_restarts (after_up n r) lines) n other) r.clients_at refl
    (starts_same (after_restarts (after_up n r) lines) n other ∙ restarts_same (after_up n r) lines)

start_same : (r : Chronicle) (n : ℕ) (lines : List Event) (said : Answer) → (after_start r n lines said).clients_at ≡ r.clients_at
start_same r n lines (answer.No cause.UnknownNode) = refl
start_same r n lines (answer.No cause.NodeUp) = refl
start_same r n lines (answer.No cause.UuidZero) = refl
start_same r n lines (answer.No cause.UuidUsed) = refl
start_same r n lines said = openings_same (r.arm_at n).fuse (after_calls (disks_of r n) n r) n lines said

-- a client sends nothing by a line, or no byte
abbrev pub sends_none : Verb → Bool
sends_none (verb.AtClient n c (client_verb.Bytes (b ∷ bytes))) = false
sends_none other = true

ahead_silent : (r : Chronicle) (line : Verb) (said : Answer) → sends_none line ≡ true → Silent r.clients_at → Silent (ahead r line said).clients_at
ahead_silent r (verb.AtClient n c (client_verb.Bytes [])) answer.Ok e silent = put_silent r.clients_at n c _ silent (ap (λ l. l ++ []) (silent n c))
ahead_silent r (verb.AtClient n c (client_verb.Bytes [])) other e silent = silent
ahead_silent r (verb.AtClient n c (client_verb.Bytes (b ∷ bytes))) said e silent = cc
ahead_silent r (verb.AtVb n v (vb_verb.Chain others)) answer.Ok e silent = silent
ahead_silent r (verb.AtVb n v (vb_verb.Chain others)) other e silent = silent
ahead_silent r (verb.AtVb n v vb_verb.Done) (answer.Number saved) e silent = silent
ahead_silent r (verb.AtVb n v vb_verb.Done) other e silent = silent
ahead_silent r (verb.AtNode n (node_verb.Crash out)) answer.Ok e silent = silent
ahead_silent r (verb.AtNode n (node_verb.Crash out)) other e silent = silent
ahead_silent r other said e silent = silent

-- with the connections that another has
same_silent : (k l : ClientsKnown) → k ≡ l → Silent l → Silent k
same_silent k l e silent n c = ap (λ (t : ClientsKnown). (t n c).asking.bytes) e ∙ silent n c

verb_silent : (before r : Chronicle) (line : Verb) (lines : List Event) (said : Answer) → Silent r.clients_at → Silent (after_verb before r line lines said).clients_at
verb_silent before r (verb.AtVb n v (vb_verb.MakeActive uuid)) lines said silent = same_silent _ _ (made_same r n v Role.Active said) silent
verb_silent before r (verb.AtVb n v vb_verb.MakeReplica) lines said silent = same_silent _ _ (made_same r n v Role.Replica said) silent
verb_silent before r (verb.Link l m n v buffer takeover) lines answer.Ok silent = silent
verb_silent before r (verb.Link l m n v buffer takeover) lines other silent = silent
verb_silent before r (verb.AtLink l (link_verb.Down wanted)) lines said silent = same_silent _ _ (moved_same r (heir_in lines) (rollback_of before (before.dial_of l) (before.point_of l)) lines said) silent
verb_silent before r (verb.AtVb n v (vb_verb.Promote uuid)) lines said silent = same_silent _ _ (append_same r n v (appending (state_of r n v Role.Active)) said) silent
verb_silent before r (verb.AtVb n v vb_verb.Follow) lines said silent = same_silent _ _ (append_same r n v (appending (state_of r n v Role.Replica)) said) silent
verb_silent before r (verb.AtVb n v vb_verb.Dead) lines said silent = same_silent _ _ (append_same r n v (appending (state_of r n v Role.Dead)) said) silent
verb_silent before r (verb.AtVb n v vb_verb.Seal) lines (answer.Number sealed) silent = silent
verb_silent before r (verb.AtVb n v vb_verb.Seal) lines other silent = silent
verb_silent before r (verb.AtVb n v vb_verb.Save) lines said silent = same_silent _ _ (append_same r n v (saving (r.disk_at n v)) said) silent
verb_silent before r (verb.AtNode n (node_verb.Stop call out)) lines answer.Ok silent = silent
verb_silent before r (verb.AtNode n (node_verb.Stop call out)) lines other silent = silent
verb_silent before r (verb.AtNode n (node_verb.Fail call)) lines answer.Ok silent = silent
verb_silent before r (verb.AtNode n (node_verb.Fail call)) lines other silent = silent
verb_silent before r (verb.AtNode n (node_verb.Clock nanos)) lines answer.Ok silent = silent
verb_silent before r (verb.AtNode n (node_verb.Clock nanos)) lines other silent = silent
verb_silent before r (verb.AtNode n (node_verb.Crash out)) lines answer.Ok silent = silent
verb_silent before r (verb.AtNode n (node_verb.Crash out)) lines other silent = silent
verb_silent before r (verb.AtNode n (node_verb.Start uuids)) lines said silent = same_silent _ _ (start_same r n lines said) silent
verb_silent before r (verb.AtClient n c client_verb.Open) lines answer.Ok silent = put_silent r.clients_at n c blank_client silent refl
verb_silent before r (verb.AtClient n c client_verb.Open) lines other silent = silent
verb_silent before r (verb.AtClient n c client_verb.Hang) lines answer.Ok silent = put_silent r.clients_at n c blank_client silent refl
verb_silent before r (verb.AtClient n c client_verb.Hang) lines other silent = silent
verb_silent before r other lines said silent = silent

-- and so it is behind its whole group
pub group_silent : (r : Chronicle) (line : Verb) (lines : List Event) (said : Answer) → sends_none line ≡ true → Silent r.clients_at → Silent (after_group r line lines said).clients_at
group_silent r line lines said e silent = verb_silent r (after_lines (ahead r line said) lines) line lines said (lines_silent (ahead r line said) lines (ahead_silent r line said e silent))

-- a line that is refused opens nothing
pub refused_shut : (r : Chronicle) (line : Verb) (why : Cause) → ((n c : ℕ) → r.conn_at n c ≡ false) → AllAnswered (after_group r line [] (answer.No why))
refused_shut r line why shut = shut_answered (after_group r line [] (answer.No why)) (λ n c. ap (λ (k : Conns). k n c) (by line) ∙ shut n c)
  where
    by : (line : Verb) → conns_verb r.conn_at line (answer.No why) ≡ r.conn_at
    by (verb.AtClient n c client_verb.Open) = refl
    by (verb.AtClient n c client_verb.Hang) = refl
    by other = refl

-- ---- transcripts

-- behind each group no client is left without an answer
unfoldable pub AreHeard : Chronicle → List ScriptLine → List Group → Type 0
AreHeard r (line ∷ lines) (group ∷ groups) = let next : Chronicle = after_group (at_line r line.line) line.verb group.events group.answer in AllAnswered next × AreHeard next lines groups
AreHeard r lines groups = Unit {0}

-- so it is where none sends anything
abbrev pub all_silent : List ScriptLine → Bool
all_silent [] = true
all_silent (line ∷ lines) = sends_none line.verb && all_silent lines

pub silent_heard : (r : Chronicle) (script : List ScriptLine) (told : List Group) → Silent r.clients_at → all_silent script ≡ true → AreHeard r script told
unfolding AreHeard
silent_heard r [] told silent o = tt
silent_heard r (line ∷ lines) [] silent o = tt
silent_heard r (line ∷ lines) (group ∷ groups) silent o =
    let one = and_parts (sends_none line.verb) (all_silent lines) o in
    let next : Silent (after_group (at_line r line.line) line.verb group.events group.answer).clients_at = group_silent (at_line r line.line) line.verb group.events group.answer one.0 silent in
    (silent_answered (after_group (at_line r line.line) line.verb group.events group.answer) next, silent_heard (after_group (at_line r line.line) line.verb group.events group.answer) lines groups next one.1)

-- and where it is so behind a line and behind those that come then
pub heard_by : (r : Chronicle) (line : ScriptLine) (lines : List ScriptLine) (group : Group) (groups : List Group) → (let next : Chronicle = after_group (at_line r line.line) line.verb group.events group.answer in AllAnswered next → AreHeard next lines groups → AreHeard r (line ∷ lines) (group ∷ groups))
unfolding AreHeard
heard_by r line lines group groups here more = (here, more)

-- behind the last line there is nothing to be answered
pub heard_all : (r : Chronicle) → AreHeard r [] []
unfolding AreHeard
heard_all r = tt

-- where only the connection 1 of the node 0 has sent bytes
pub one_answered : (r : Chronicle) → ((n c : ℕ) → (n == 0 && c == 1) ≡ false → (r.clients_at n c).asking.bytes ≡ []) → NoneWaits (r.clients_at 0 1).asking → AllAnswered r
one_answered r others here n c opens = by (n == 0 && c == 1) refl
  where
    by : (b : Bool) → (n == 0 && c == 1) ≡ b → NoneWaits (r.clients_at n c).asking
    by true e = let both = and_parts (n == 0) (c == 1) e in subst (λ k. NoneWaits (r.clients_at k c).asking) (sym (eqb-true n 0 both.0)) (subst (λ d. NoneWaits (r.clients_at 0 d).asking) (sym (eqb-true c 1 both.1)) here)
    by false e = none_waits (r.clients_at n c).asking (others n c e)

-- so it is behind one line
pub here_answered : (r : Chronicle) (line : Verb) (lines : List Event) (said : Answer)
    → (let next : Chronicle = after_group r line lines said in ((n c : ℕ) → (n == 0 && c == 1) ≡ false → (next.clients_at n c).asking.bytes ≡ []) → question_of (next.clients_at 0 1).asking ≡ None → front_fault (behind_frames (next.clients_at 0 1).asking.bytes) ≡ None → AllAnswered next)
here_answered r line lines said others none whole = let next : Chronicle = after_group r line lines said in one_answered next others (none_next (next.clients_at 0 1).asking none whole)

-- before the first line none has
pub silent_start : Silent empty_chronicle.clients_at
silent_start n c = refl

-- nor is one where no connection is open, and none opens
abbrev pub opens_none : Verb → Bool
opens_none (verb.AtClient n c client_verb.Open) = false
opens_none other = true

conns_shut : (conns : Conns) (lines : List Event) → ((n c : ℕ) → conns n c ≡ false) → (n c : ℕ) → conns_lines conns lines n c ≡ false
conns_shut conns [] shut = shut
conns_shut conns (event.Closed m d ∷ lines) shut = conns_shut (with_at conns m d false) lines (λ n c. elim (n == m && c == d) as (λ b. (if b then false else conns n c) ≡ false) [ true ↦ refl | false ↦ shut n c ])
conns_shut conns (line ∷ lines) shut = conns_shut conns lines shut

verb_shut : (conns : Conns) (line : Verb) (said : Answer) → opens_none line ≡ true → ((n c : ℕ) → conns n c ≡ false) → (n c : ℕ) → conns_verb conns line said n c ≡ false
verb_shut conns (verb.AtClient m d client_verb.Open) said e shut = cc
verb_shut conns (verb.AtClient m d client_verb.Hang) answer.Ok e shut = λ n c. elim (n == m && c == d) as (λ b. (if b then false else conns n c) ≡ false) [ true ↦ refl | false ↦ shut n c ]
verb_shut conns (verb.AtClient m d client_verb.Hang) other e shut = shut
verb_shut conns other said e shut = shut

abbrev pub all_shut : List ScriptLine → Bool
all_shut [] = true
all_shut (line ∷ lines) = opens_none line.verb && all_shut lines

pub shut_heard : (r : Chronicle) (script : List ScriptLine) (told : List Group) → ((n c : ℕ) → r.conn_at n c ≡ false) → all_shut script ≡ true → AreHeard r script told
unfolding AreHeard
shut_heard r [] told shut o = tt
shut_heard r (line ∷ lines) [] shut o = tt
shut_heard r (line ∷ lines) (group ∷ groups) shut o =
    let one = and_parts (opens_none line.verb) (all_shut lines) o in
    let next = verb_shut (conns_lines r.conn_at group.events) line.verb group.answer one.0 (conns_shut r.conn_at group.events shut) in
    (shut_answered (after_group (at_line r line.line) line.verb group.events group.answer) next, shut_heard (after_group (at_line r line.line) line.verb group.events group.answer) lines groups next one.1)
