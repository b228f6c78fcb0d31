-- links that end, in groups that are judged by hand
use Rattle.std.specs.Prelude.{◌≡◌, ◌⊎◌, ◌∷◌, ◌==◌, ◌&&◌, if◌then◌else◌}
use Rattle.transcript_law.proofs.Words.{ℕ, Bool, true, false, List, [], refl, ap, sym, ◌∙◌, inl, inr, ⊎_elim, and_parts, Option, Some, None, Answer, Cause, Chronicle, Event, LinkVerb, NodeVerb, ScriptLine, Verb, VbVerb, after_lines, Group}
use Rattle.transcript_law.proofs.ends.{Steps.{calm_free, fail_free}, Told.{IsNew, ahead_shrinks, goes_on, verb_shrinks}}
use Rattle.transcript_law.specs.{BoundRows.{one_dialed}, TellingRows.{ends_at}, Chronicles.{Dial, after_group, ahead, at_line}, Ends.{AllEnded, Dials, NoneLeft, NoneStopped}, Firings.{FiresAsSaid, FiresInLine, beside_rollbacks, writes_at}, LinesTold.{is_dial_at, is_dial_for}}

-- of each group
abbrev pub AreEnded : Chronicle → List ScriptLine → List Group → Type 0
AreEnded chronicle (line ∷ lines) (group ∷ groups) = AllEnded (at_line chronicle line.line) line.verb group.events group.answer × AreEnded (after_group (at_line chronicle line.line) line.verb group.events group.answer) lines groups
AreEnded chronicle lines groups = Unit {0}

-- ---- where no link was ever dialed

abbrev pub Undialed : Chronicle → Type 0
Undialed r = (l : ℕ) → r.dial_of l ≡ None

-- nor is one
abbrev pub dials_no : Verb → Bool
dials_no (Verb.Link l m n v buffer takeover) = false
dials_no other = true

abbrev pub dials_none : List ScriptLine → Bool
dials_none [] = true
dials_none (line ∷ lines) = dials_no line.verb && dials_none lines

-- what follows from what was dialed
none_then : (r r' : Chronicle) → Undialed r → ((l : ℕ) (d : Dial) → r'.dial_of l ≡ Some d → r.dial_of l ≡ Some d) → Undialed r'
none_then r r' none shrinks l = by (r'.dial_of l) refl
  where
    by : (o : Option Dial) → r'.dial_of l ≡ o → o ≡ None
    by None e = refl
    by (Some d) e = let z : None ≡ Some d = sym (none l) ∙ shrinks l d e in cc

none_left : (dials : Dials) → ((l : ℕ) → dials l ≡ None) → (line : Verb) (lines : List Event) (said : Answer) → NoneLeft dials line lines said
none_left dials none (Verb.AtNode n (NodeVerb.Crash out)) lines Answer.Ok = λ l. ap (is_dial_at n) (none l)
none_left dials none (Verb.AtVb n v (VbVerb.Promote uuid)) lines said = inr (λ l. ap (is_dial_for n v) (none l))
none_left dials none (Verb.AtVb n v VbVerb.Follow) lines said = inr (λ l. ap (is_dial_for n v) (none l))
none_left dials none (Verb.AtVb n v VbVerb.Dead) lines said = inr (λ l. ap (is_dial_for n v) (none l))
none_left dials none (Verb.AtLink l LinkVerb.Cut) lines Answer.Ok = none l
none_left dials none other lines said = tt

none_stopped : (dials : Dials) → ((l : ℕ) → dials l ≡ None) → (lines : List Event) → NoneStopped dials lines
none_stopped dials none [] = tt
none_stopped dials none (Event.NodeStopped n ∷ lines) = (λ l. ap (is_dial_at n) (none l), none_stopped dials none lines)
none_stopped dials none (line ∷ lines) = none_stopped dials none lines

pub undialed_ended : (r : Chronicle) (script : List ScriptLine) (told : List Group) → dials_none script ≡ true → Undialed r → AreEnded r script told
undialed_ended r (line ∷ lines) (group ∷ groups) o none =
    let both = and_parts (dials_no line.verb) (dials_none lines) o in let r0 : Chronicle = at_line r line.line in
    let read : Chronicle = after_lines r0 group.events in let dials : (l : ℕ) → read.dial_of l ≡ None = none_then r0 read none (λ l d e. (goes_on r0 group.events l d e).0) in (
      (none_left read.dial_of dials line.verb group.events group.answer, none_stopped read.dial_of dials group.events),
      undialed_ended (after_group r0 line.verb group.events group.answer) lines groups both.1 (none_then r0 (after_group r0 line.verb group.events group.answer) none (λ l d e.
          ⊎_elim
          (λ went. ahead_shrinks r0 line.verb group.answer l d (goes_on (ahead r0 line.verb group.answer) group.events l d went).0)
          (λ new. absurd (never line.verb group.answer l both.0 new))
          (verb_shrinks r0 (after_lines (ahead r0 line.verb group.answer) group.events) line.verb group.events group.answer l d e))),
    )
  where
    never : (line : Verb) (said : Answer) (l : ℕ) → dials_no line ≡ true → IsNew line said l → ⊥
    never (Verb.Link k m n v buffer takeover) said l o new = cc
    never other said l o new = absurd new
undialed_ended r [] groups o none = tt
undialed_ended r (line ∷ lines) [] o none = tt

-- ---- where no line ends a link

abbrev pub is_quiet : Verb → Answer → Bool
is_quiet (Verb.AtNode n (NodeVerb.Crash out)) said = false
is_quiet (Verb.AtVb n v (VbVerb.Promote uuid)) said = false
is_quiet (Verb.AtVb n v VbVerb.Follow) said = false
is_quiet (Verb.AtVb n v VbVerb.Dead) said = false
is_quiet (Verb.AtLink l LinkVerb.Cut) said = false
is_quiet other (Answer.No Cause.Stopped) = false
is_quiet other said = true

abbrev pub all_quiet : List ScriptLine → List Group → Bool
all_quiet (line ∷ lines) (group ∷ groups) = is_quiet line.verb group.answer && all_quiet lines groups
all_quiet lines groups = true

-- one that does not stop its node tells of no stop
free : (dials : Dials) (at : Option ℕ) (lines : List Event) (said : Answer) → (said ≡ Answer.No Cause.Stopped → ⊥) → FiresAsSaid at lines said → NoneStopped dials lines
free dials at lines (Answer.No Cause.Stopped) goes f = absurd (goes refl)
free dials None lines (Answer.No Cause.Disk) goes f = absurd f
free dials (Some n) lines (Answer.No Cause.Disk) goes f = fail_free dials n lines f
free dials None lines other goes f = calm_free dials lines f
free dials (Some n) lines other goes f = calm_free dials lines f

-- rollbacks beside
beside_free : (dials : Dials) (lines : List Event) → NoneStopped dials (beside_rollbacks lines) → NoneStopped dials lines
beside_free dials [] s = tt
beside_free dials (Event.NodeStopped n ∷ lines) s = (s.0, beside_free dials lines s.1)
beside_free dials (line ∷ lines) s = beside_free dials lines s

fires_free : (r : Chronicle) (dials : Dials) (line : Verb) (lines : List Event) (said : Answer) → (said ≡ Answer.No Cause.Stopped → ⊥) → FiresInLine r line lines said → NoneStopped dials lines
fires_free r dials (Verb.AtLink l (LinkVerb.Down wanted)) lines said goes f = beside_free dials lines (free dials (writes_at r (Verb.AtLink l (LinkVerb.Down wanted))) (beside_rollbacks lines) said goes f)
fires_free r dials line lines said goes f = free dials (writes_at r line) lines said goes f

goes_on_so : (line : Verb) (said : Answer) → is_quiet line said ≡ true → said ≡ Answer.No Cause.Stopped → ⊥
goes_on_so line (Answer.No Cause.Stopped) o e = stops line o
  where
    stops : (line : Verb) → is_quiet line (Answer.No Cause.Stopped) ≡ true → ⊥
    stops (Verb.AtNode n (NodeVerb.Crash out)) o = cc
    stops (Verb.AtVb n v (VbVerb.Promote uuid)) o = cc
    stops (Verb.AtVb n v VbVerb.Follow) o = cc
    stops (Verb.AtVb n v VbVerb.Dead) o = cc
    stops (Verb.AtLink l LinkVerb.Cut) o = cc
    stops other o = cc
goes_on_so line other o e = cc

quiet_left : (dials : Dials) (line : Verb) (lines : List Event) (said : Answer) → is_quiet line said ≡ true → NoneLeft dials line lines said
quiet_left dials (Verb.AtNode n (NodeVerb.Crash out)) lines said o = cc
quiet_left dials (Verb.AtVb n v (VbVerb.Promote uuid)) lines said o = cc
quiet_left dials (Verb.AtVb n v VbVerb.Follow) lines said o = cc
quiet_left dials (Verb.AtVb n v VbVerb.Dead) lines said o = cc
quiet_left dials (Verb.AtLink l LinkVerb.Cut) lines said o = cc
quiet_left dials other lines said o = tt

pub quiet_ended : (r : Chronicle) (line : Verb) (lines : List Event) (said : Answer) → is_quiet line said ≡ true → FiresInLine r line lines said → AllEnded r line lines said
quiet_ended r line lines said o f = let dials : Dials = (after_lines r lines).dial_of in (quiet_left dials line lines said o, fires_free r dials line lines said (goes_on_so line said o) f)

-- one that is refused and tells of nothing
pub refused_ended : (r : Chronicle) (line : Verb) (why : Cause) → AllEnded r line [] (Answer.No why)
refused_ended r (Verb.AtVb n v (VbVerb.Promote uuid)) why = (inl refl, tt)
refused_ended r (Verb.AtVb n v VbVerb.Follow) why = (inl refl, tt)
refused_ended r (Verb.AtVb n v VbVerb.Dead) why = (inl refl, tt)
refused_ended r (Verb.AtNode n (NodeVerb.Crash out)) why = (tt, tt)
refused_ended r (Verb.AtLink l LinkVerb.Cut) why = (tt, tt)
refused_ended r other why = (tt, tt)

-- ---- where the link 1 was dialed, from the node 0 to the vBucket 0 of the node 1, and is told over

pub one_cut : (n l : ℕ) → is_dial_at n ((after_lines one_dialed (ends_at 1 ∷ [])).dial_of l) ≡ false
one_cut n l = elim (l == 1) as (λ b. is_dial_at n (if b then None else if b then Some (record { producer = 0; node = 1; vb = 0 }) else None) ≡ false) [ true ↦ refl | false ↦ refl ]

pub one_unfed : (n v l : ℕ) → is_dial_for n v ((after_lines one_dialed (ends_at 1 ∷ [])).dial_of l) ≡ false
one_unfed n v l = elim (l == 1) as (λ b. is_dial_for n v (if b then None else if b then Some (record { producer = 0; node = 1; vb = 0 }) else None) ≡ false) [ true ↦ refl | false ↦ refl ]
