-- which links these lines tell ended, and that nothing else is told of dials but that a link is dialed
use Rattle.std.specs.Prelude.{◌≡◌, ◌⊎◌, ◌∷◌, ◌++◌, ◌==◌, ◌&&◌, if◌then◌else◌}
use Rattle.transcript_law.proofs.Words.{ℕ, Bool, true, false, List, [], refl, sym, ◌∙◌, inl, inr, ⊎_elim, not, Option, Some, None, list_any, eqb-true, eqb-false, Answer, Cause, ClientVerb, Chronicle, Event, LinkVerb, NodeVerb, Role, StreamName, Verb, VbVerb, after_line, after_lines, after_verb, with_id}
use Rattle.script_text.specs.declared.verb.LinkVerb.TheVariants as link_verb
use Rattle.transcript_law.specs.Chronicles.{Appending, Dial, after_append, after_crash, after_made, after_moved, after_noted, after_openings, after_restarts, after_restart, after_rollback, after_start, after_starts, after_up, after_calls, ahead, appending, as_noted, broken_by, disks_of, heir_in, is_made, is_off, is_rollback, known_down, calls_of_append, rollback_of, saving, state_of, with_disk, with_disk_there}
use Rattle.transcript_law.specs.LinesTold.{is_dial_at}
use Rattle.vb_disk.specs.declared.fuse.Fuse.{Fuse}
use Rattle.vb_disk.specs.declared.made.Outcome.{Outcome}
use Rattle.vb_types.specs.declared.journal.Record.{Record}
use Rattle.vb_types.specs.declared.stream.AskAnswer.TheVariants as ask_answer

-- these lines tell that the link l ended
abbrev pub EndsIn : ℕ → List Event → Type 0
EndsIn l [] = ⊥
EndsIn l (Event.Ended k why ∷ lines) = (l ≡ k) ⊎ EndsIn l lines
EndsIn l (line ∷ lines) = EndsIn l lines

pub in_front : (l : ℕ) (xs ys : List Event) → EndsIn l xs → EndsIn l (xs ++ ys)
in_front l [] ys i = absurd i
in_front l (Event.Ended k why ∷ xs) ys i = ⊎_elim (λ e. inl e) (λ j. inr (in_front l xs ys j)) i
in_front l (line ∷ xs) ys i = in_front l xs ys i

pub in_behind : (l : ℕ) (xs ys : List Event) → EndsIn l ys → EndsIn l (xs ++ ys)
in_behind l [] ys i = i
in_behind l (Event.Ended k why ∷ xs) ys i = inr (in_behind l xs ys i)
in_behind l (line ∷ xs) ys i = in_behind l xs ys i

-- ---- dials

-- a link that is dialed in what is read then was dialed before
abbrev pub Shrinks : Chronicle → Chronicle → Type 0
Shrinks r r' = (l : ℕ) (d : Dial) → r'.dial_of l ≡ Some d → r.dial_of l ≡ Some d

line_shrinks : (r : Chronicle) (line : Event) → Shrinks r (after_line r line)
line_shrinks r (Event.Branch n v uuid parent fork high) l d e = e
line_shrinks r (Event.Role n v role) l d e = e
line_shrinks r (Event.Changed n v uuid change) l d e = e
line_shrinks r (Event.Asked (StreamName.Link k) n v ask high log ask_answer.Go) l d e = e
line_shrinks r (Event.Asked (StreamName.Link k) n v ask high log (ask_answer.Roll to)) l d e = e
line_shrinks r (Event.Asked (StreamName.Link k) n v ask high log (ask_answer.Refuse code)) l d e = e
line_shrinks r (Event.Asked (StreamName.Client m c) n v ask high log said) l d e = e
line_shrinks r (Event.Marked (StreamName.Link k) start end flags) l d e = e
line_shrinks r (Event.Marked (StreamName.Client m c) start end flags) l d e = e
line_shrinks r (Event.Item (StreamName.Link k) seq act key) l d e = e
line_shrinks r (Event.Item (StreamName.Client m c) seq act key) l d e = e
line_shrinks r (Event.Finished (StreamName.Link k) reason) l d e = e
line_shrinks r (Event.Finished (StreamName.Client m c) reason) l d e = e
line_shrinks r (Event.Stated (StreamName.Link k) role) l d e = e
line_shrinks r (Event.Stated (StreamName.Client m c) role) l d e = e
line_shrinks r (Event.Adopted n v log) l d e = e
line_shrinks r (Event.Ranged n v ss se) l d e = e
line_shrinks r (Event.Got n v stream change) l d e = e
line_shrinks r (Event.Rolled n v named to) l d e = e
line_shrinks r (Event.Batch n v ss se at count) l d e = e
line_shrinks r (Event.Ended k reason) l d e = by (l == k) e
  where
    by : (b : Bool) → (if b then None else r.dial_of l) ≡ Some d → r.dial_of l ≡ Some d
    by true q = cc
    by false q = q
line_shrinks r other l d e = e

-- one that is dialed behind these lines was so before, and they do not tell that it ended
pub goes_on : (r : Chronicle) (lines : List Event) (l : ℕ) (d : Dial) → (after_lines r lines).dial_of l ≡ Some d → (r.dial_of l ≡ Some d) × (EndsIn l lines → ⊥)
goes_on r [] l d e = (e, λ i. i)
goes_on r (Event.Ended k why ∷ lines) l d e = let later = goes_on (after_line r (Event.Ended k why)) lines l d e in by (l == k) refl later.0 later.1
  where
    by : (b : Bool) → (l == k) ≡ b → (if b then None else r.dial_of l) ≡ Some d → (EndsIn l lines → ⊥) → (r.dial_of l ≡ Some d) × ((l ≡ k) ⊎ EndsIn l lines → ⊥)
    by true t q none = cc
    by false t q none = (q, λ i. ⊎_elim (λ same. eqb-false l k t same) none i)
goes_on r (line ∷ lines) l d e = let later = goes_on (after_line r line) lines l d e in (line_shrinks r line l d later.0, later.1)

-- ---- what a line of the script tells by its answer

pub ahead_shrinks : (r : Chronicle) (line : Verb) (said : Answer) → Shrinks r (ahead r line said)
ahead_shrinks r (Verb.AtVb n v (VbVerb.Chain others)) Answer.Ok l d e = e
ahead_shrinks r (Verb.AtVb n v VbVerb.Done) (Answer.Number saved) l d e = e
ahead_shrinks r (Verb.AtVb n v VbVerb.Tick) said l d e = e
ahead_shrinks r (Verb.AtClient n c (ClientVerb.Bytes bytes)) Answer.Ok l d e = e
ahead_shrinks r (Verb.AtNode n (NodeVerb.Crash out)) Answer.Ok l d e = e
ahead_shrinks r other said l d e = e

crash_shrinks : (r : Chronicle) (n : ℕ) (out : Outcome) → Shrinks r (after_crash r n out)
crash_shrinks r n out l d e = by (is_dial_at n (r.dial_of l)) e
  where
    by : (b : Bool) → (if b then None else r.dial_of l) ≡ Some d → r.dial_of l ≡ Some d
    by true q = cc
    by false q = q

append_shrinks : (r : Chronicle) (n v : ℕ) (a : Appending) (said : Answer) → Shrinks r (after_append r n v a said)
append_shrinks r n v a Answer.Ok l d e = e
append_shrinks r n v a (Answer.No Cause.Closed) l d e = e
append_shrinks r n v a (Answer.No Cause.Disk) l d e = e
append_shrinks r n v a (Answer.No Cause.Stopped) l d e = crash_shrinks (with_disk r n v (broken_by (r.arm_at n).fuse a.what (a.fails (r.disk_at n v)))) n (r.arm_at n).out l d e
append_shrinks r n v a other l d e = e

noted_shrinks : (r : Chronicle) (n v : ℕ) (role : Role) (said : Answer) → Shrinks r (after_noted r n v role said)
noted_shrinks r n v role said = append_shrinks r n v (appending (state_of r n v role)) said

made_shrinks : (r : Chronicle) (n v : ℕ) (role : Role) (said : Answer) → Shrinks r (after_made r n v role said)
made_shrinks r n v role said l d e = by (is_made said) (noted_shrinks (with_disk_there r n v said) n v role said l d e)
  where
    by : (b : Bool) → (if b then with_disk r n v (record (r.disk_at n v) { there = true }) else r).dial_of l ≡ Some d → r.dial_of l ≡ Some d
    by true q = q
    by false q = q

rollback_shrinks : (r : Chronicle) (back : Option (ℕ × (ℕ × Record))) (lines : List Event) (said : Answer) → Shrinks r (after_rollback r back lines said)
rollback_shrinks r None lines said l d e = e
rollback_shrinks r (Some (n, (v, x))) lines (Answer.No why) l d e = append_shrinks r n v (appending x) (Answer.No why) l d e
rollback_shrinks r (Some (n, (v, x))) lines other l d e = by (list_any is_rollback lines) e
  where
    by : (b : Bool) → (if b then after_calls calls_of_append n r else r).dial_of l ≡ Some d → r.dial_of l ≡ Some d
    by true q = q
    by false q = q

moved_shrinks : (r : Chronicle) (heir : Option (ℕ × ℕ)) (back : Option (ℕ × (ℕ × Record))) (lines : List Event) (said : Answer) → Shrinks r (after_moved r heir back lines said)
moved_shrinks r None back lines said l d e = rollback_shrinks r back lines said l d e
moved_shrinks r (Some (n, v)) back lines said l d e = noted_shrinks r n v Role.Active (as_noted said) l d e

restarts_shrink : (r : Chronicle) (lines : List Event) → Shrinks r (after_restarts r lines)
restarts_shrink r [] l d e = e
restarts_shrink r (Event.Branch n v uuid parent fork high ∷ lines) l d e = restarts_shrink (after_restart r n v) lines l d e
restarts_shrink r (other ∷ lines) l d e = restarts_shrink r lines l d e

starts_shrink : (r : Chronicle) (n : ℕ) (said : Answer) → Shrinks r (after_starts r n said)
starts_shrink r n (Answer.No Cause.Stopped) l d e = crash_shrinks r n (r.arm_at n).out l d e
starts_shrink r n other l d e = e

either : (r : Chronicle) (b : Bool) (x y : Chronicle) → Shrinks r x → Shrinks r y → Shrinks r (if b then x else y)
either r true x y one other = one
either r false x y one other = other

openings_shrink : (before : Fuse) (r : Chronicle) (n : ℕ) (lines : List Event) (said : Answer) → Shrinks r (after_openings before r n lines said)
openings_shrink before r n lines said = either r (is_off (r.arm_at n).fuse && not (is_off before)) (record r { arm_at = with_id r.arm_at n known_down }) _ (λ l d e. e)
    (either r _ _ _ (λ l d e. e) (λ l d e. restarts_shrink (after_up n r) lines l d (starts_shrink (after_restarts (after_up n r) lines) n said l d e)))

start_shrinks : (r : Chronicle) (n : ℕ) (lines : List Event) (said : Answer) → Shrinks r (after_start r n lines said)
start_shrinks r n lines said = by said
  where
    opened : (said : Answer) → Shrinks r (after_openings (r.arm_at n).fuse (after_calls (disks_of r n) n r) n lines said)
    opened said = openings_shrink (r.arm_at n).fuse (after_calls (disks_of r n) n r) n lines said

    by : (said : Answer) → Shrinks r (after_start r n lines said)
    by (Answer.No Cause.UnknownNode) l d e = e
    by (Answer.No Cause.NodeUp) l d e = e
    by (Answer.No Cause.UuidZero) l d e = e
    by (Answer.No Cause.UuidUsed) l d e = e
    by said l d e = opened said l d e

-- the link that is dialed anew
abbrev pub IsNew : Verb → Answer → ℕ → Type 0
IsNew (Verb.Link k m n v buffer takeover) Answer.Ok l = l ≡ k
IsNew other said l = ⊥

-- each other one that is dialed behind a line was so behind its lines
pub verb_shrinks : (before r : Chronicle) (line : Verb) (lines : List Event) (said : Answer) (l : ℕ) (d : Dial) → (after_verb before r line lines said).dial_of l ≡ Some d → (r.dial_of l ≡ Some d) ⊎ IsNew line said l
verb_shrinks before r (Verb.Link k m n v buffer takeover) lines Answer.Ok l d e = by (l == k) refl e
  where
    by : (b : Bool) → (l == k) ≡ b → (if b then Some (record { producer = m; node = n; vb = v }) else r.dial_of l) ≡ Some d → (r.dial_of l ≡ Some d) ⊎ (l ≡ k)
    by true t q = inr (eqb-true l k t)
    by false t q = inl q
verb_shrinks before r (Verb.Link k m n v buffer takeover) lines other l d e = inl e
verb_shrinks before r (Verb.AtVb n v (VbVerb.MakeActive uuid)) lines said l d e = inl (made_shrinks r n v Role.Active said l d e)
verb_shrinks before r (Verb.AtVb n v VbVerb.MakeReplica) lines said l d e = inl (made_shrinks r n v Role.Replica said l d e)
verb_shrinks before r (Verb.AtVb n v (VbVerb.Promote uuid)) lines said l d e = inl (noted_shrinks r n v Role.Active said l d e)
verb_shrinks before r (Verb.AtVb n v VbVerb.Follow) lines said l d e = inl (noted_shrinks r n v Role.Replica said l d e)
verb_shrinks before r (Verb.AtVb n v VbVerb.Dead) lines said l d e = inl (noted_shrinks r n v Role.Dead said l d e)
verb_shrinks before r (Verb.AtVb n v VbVerb.Seal) lines (Answer.Number sealed) l d e = inl e
verb_shrinks before r (Verb.AtVb n v VbVerb.Seal) lines other l d e = inl e
verb_shrinks before r (Verb.AtVb n v VbVerb.Save) lines said l d e = inl (append_shrinks r n v (saving (r.disk_at n v)) said l d e)
verb_shrinks before r (Verb.AtLink k (LinkVerb.Down wanted)) lines said l d e = inl (moved_shrinks r (heir_in lines) (rollback_of before (before.dial_of k) (before.point_of k)) lines said l d e)
verb_shrinks before r (Verb.AtNode n (NodeVerb.Clock nanos)) lines Answer.Ok l d e = inl e
verb_shrinks before r (Verb.AtNode n (NodeVerb.Clock nanos)) lines other l d e = inl e
verb_shrinks before r (Verb.AtNode n (NodeVerb.Stop call out)) lines Answer.Ok l d e = inl e
verb_shrinks before r (Verb.AtNode n (NodeVerb.Stop call out)) lines other l d e = inl e
verb_shrinks before r (Verb.AtNode n (NodeVerb.Fail call)) lines Answer.Ok l d e = inl e
verb_shrinks before r (Verb.AtNode n (NodeVerb.Fail call)) lines other l d e = inl e
verb_shrinks before r (Verb.AtNode n (NodeVerb.Crash out)) lines Answer.Ok l d e = inl (crash_shrinks r n out l d e)
verb_shrinks before r (Verb.AtNode n (NodeVerb.Crash out)) lines other l d e = inl e
verb_shrinks before r (Verb.AtNode n (NodeVerb.Start uuids)) lines said l d e = inl (start_shrinks r n lines said l d e)
verb_shrinks before r (Verb.AtClient n c ClientVerb.Open) lines Answer.Ok l d e = inl e
verb_shrinks before r (Verb.AtClient n c ClientVerb.Open) lines other l d e = inl e
verb_shrinks before r (Verb.AtClient n c ClientVerb.Hang) lines Answer.Ok l d e = inl e
verb_shrinks before r (Verb.AtClient n c ClientVerb.Hang) lines other l d e = inl e
verb_shrinks before r other lines said l d e = inl e
