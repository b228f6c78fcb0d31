-- behind a whole group: a branch without an heir is without one
use Rattle.std.specs.Prelude.{◌≡◌, ◌∷◌, ◌&&◌, ◌||◌, ◌==◌, ◌⊎◌, if◌then◌else◌, false, not}
use Rattle.std.specs.List.{list_any}
use Rattle.script_text.specs.declared.verb.LinkVerb.TheVariants as link_verb
use Rattle.script_text.specs.declared.verb.Verb.TheVariants as verb
use Rattle.transcript_law.proofs.Words.{ℕ, Bool, true, List, [], refl, ap, sym, ◌∙◌, subst, inl, inr, ⊎_elim, eq-eqb, eqb-true, Option, Some, None, Answer, Chronicle, Event, Granted, Role, StreamName, Verb, after_lines, stream_branch}
use Rattle.transcript_law.proofs.heirless.{Barren.{Barren, IsOffering, TurnsFit, barren_less}, Groups.{StartsApart, ahead_less, verb_less}, Lines.{Steady, lines_barren}}
use Rattle.transcript_law.proofs.lines.Takeovers.{ahead_takeovers, read_takeovers}
use Rattle.transcript_law.proofs.noted.{Freed.{DialsDiffer, IsCeded, LinesFit, differ_less}, FreedGroups.{ahead_dials}}
use Rattle.transcript_law.specs.Chronicles.{after_dial, after_group, after_verb, ahead}
use Rattle.transcript_law.specs.{Lawfulness.{LinesFrom}}
use Rattle.transcript_law.specs.LinesTold.{Dial, TakeoverKnown, dialed_for}
use Rattle.transcript_law.specs.TakeoverNotes.{is_ended, is_grant_of, is_pump_of, is_state_of, obeyed_after, stream_over, takeover_after, turns_consumer, turns_feeder}
use Rattle.vb_events.specs.declared.event.Answer.TheVariants as answer

-- a stream is steady as far as is known between lines
abbrev pub Calm : Chronicle → ℕ → Type 0
Calm r l = (r.takeover_of l).turned ≡ false

-- the line dials the link
abbrev DialsNow : Verb → Answer → ℕ → Type 0
DialsNow (verb.Link k m n v buffer takeover) answer.Ok l = l ≡ k
DialsNow other said l = ⊥

if_turned : (b : Bool) (s t : TakeoverKnown) → s.turned ≡ t.turned → (if b then s else t).turned ≡ t.turned
if_turned true s t e = e
if_turned false s t e = refl

-- it is as it was, unless the link is dialed
obeyed_turned : (dial : Option Dial) (asked : Verb) (lines : List Event) (said : Answer) (l : ℕ) (t : TakeoverKnown) → ((obeyed_after dial asked lines said l t).turned ≡ t.turned) ⊎ DialsNow asked said l
obeyed_turned dial (verb.AtLink k (link_verb.Pump wanted)) lines said l t = inl (if_turned (k == l && list_any (is_state_of l) lines) _ t refl)
obeyed_turned dial (verb.AtLink k (link_verb.Down wanted)) lines said l t = inl (if_turned (k == l && turns_consumer dial lines) _ t refl)
obeyed_turned dial (verb.AtLink k (link_verb.Up wanted)) lines (answer.Number n) l t = inl (if_turned (k == l) _ t refl)
obeyed_turned dial (verb.AtLink k (link_verb.Up wanted)) lines other l t = inl refl
obeyed_turned dial (verb.AtLink k link_verb.Drop) lines said l t = inl refl
obeyed_turned dial (verb.AtLink k link_verb.Cut) lines said l t = inl refl
obeyed_turned dial (verb.Link k m n v buffer takeover) lines answer.Ok l t = by (k == l) refl
  where
    by : (b : Bool) → (k == l) ≡ b → ((if b then dialed_for takeover else t).turned ≡ t.turned) ⊎ (l ≡ k)
    by true e = inr (sym (eqb-true k l e))
    by false e = inl refl
obeyed_turned dial other lines said l t = inl refl

neither : (ended before more : Bool) → (if ended then before else (before || more)) ≡ false → before ≡ false
neither true before more e = e
neither false true more e = cc
neither false false more e = refl

-- what is steady behind a group was so, or was let continue in it
steady_before : (r read : Chronicle) (asked : Verb) (lines : List Event) (said : Answer) (l : ℕ) → read.takeover_of ≡ r.takeover_of → (DialsNow asked said l → ⊥) → (takeover_after read asked lines said l (read.takeover_of l)).turned ≡ false → Steady r.takeover_of lines [] l
steady_before r read asked lines said l same undialed = by (list_any (is_grant_of l) lines) refl
  where
    was : (obeyed_after (read.dial_of l) asked lines said l (read.takeover_of l)).turned ≡ false → Steady r.takeover_of lines [] l
    was e = ⊎_elim (λ z. inl (ap (λ (t : ℕ → TakeoverKnown). (t l).turned) (sym same) ∙ sym z ∙ e)) (λ d. absurd (undialed d)) (obeyed_turned (read.dial_of l) asked lines said l (read.takeover_of l))

    by : (b : Bool) → list_any (is_grant_of l) lines ≡ b
        → (if b then false else if is_ended (stream_over read l (read.dial_of l)) then (obeyed_after (read.dial_of l) asked lines said l (read.takeover_of l)).turned else ((obeyed_after (read.dial_of l) asked lines said l (read.takeover_of l)).turned || (turns_feeder (read.dial_of l) lines && not (is_pump_of l asked)))) ≡ false
        → Steady r.takeover_of lines [] l
    by true e c = inr (e, refl)
    by false e c = was (neither (is_ended (stream_over read l (read.dial_of l))) (obeyed_after (read.dial_of l) asked lines said l (read.takeover_of l)).turned (turns_feeder (read.dial_of l) lines && not (is_pump_of l asked)) c)

module _ (u : ℕ) (r : Chronicle) (asked : Verb) (lines : List Event) (said : Answer) where
  abbrev begun : Chronicle
  begun = ahead r asked said

  abbrev told : Chronicle
  told = after_lines (ahead r asked said) lines

  abbrev pub read : Chronicle
  read = after_verb r (after_lines (ahead r asked said) lines) asked lines said

  abbrev after : Chronicle
  after = after_group r asked lines said

  -- one that is dialed has no state
  undialed : (asked : Verb) (l : ℕ) → DialsNow asked said l → (after_verb r told asked lines said).stated_of l ≡ Some Role.Pending → ⊥
  undialed (verb.Link k m n v buffer takeover) l d e = by said d e
    where
      by : (said : Answer) → DialsNow (verb.Link k m n v buffer takeover) said l → (after_dial told k m n v said).stated_of l ≡ Some Role.Pending → ⊥
      by answer.Ok d e = let z : None ≡ Some Role.Pending = sym (ap (λ b. if b then None else told.stated_of l) (eq-eqb l k d)) ∙ e in cc
      by other d e = absurd d
  undialed other l d e = absurd d

  was_steady : (l : ℕ) → read.stated_of l ≡ Some Role.Pending → Calm after l → Steady r.takeover_of lines [] l
  was_steady l stated calm = steady_before r read asked lines said l (read_takeovers r asked lines said) (λ d. undialed asked l d stated) calm

  pub group_barren : LinesFrom begun r.conn_at lines → LinesFit begun lines → TurnsFit u begun lines → StartsApart u asked lines read → DialsDiffer r → Barren (Calm r) u r → Barren (Calm after) u after
  group_barren l fits turns starts differ b =
      let b1 : Barren (Steady r.takeover_of lines lines) u begun = barren_less (Calm r) (Steady r.takeover_of lines lines) u r begun (λ k s. ⊎_elim (λ x. x) (λ x. let z : true ≡ false = sym x.0 ∙ x.1 in cc) s) (ahead_less u r asked said) b in
      let apart : DialsDiffer begun = differ_less r begun (λ k d e. sym (ap (λ (t : ℕ → Option Dial). t k) (ahead_dials r asked said)) ∙ e) differ in
      let b2 : Barren (Steady r.takeover_of lines []) u told = lines_barren r.takeover_of lines u begun r.conn_at lines (ahead_takeovers r asked said) l fits turns apart b1 in
      let b3 : Barren (Steady r.takeover_of lines []) u read = barren_less (Steady r.takeover_of lines []) (Steady r.takeover_of lines []) u told read (λ k s. s) (verb_less u r told asked lines said starts) b2 in
      record {
        told = b3.told;
        none_acts = b3.none_acts;
        none_offered = λ k g s o e. b3.none_offered k g (was_steady k o.stated s) (record { dial = o.dial; dialed = o.dialed; stated = o.stated; stream = o.stream; goes_on = o.goes_on }) e;
        none_ceded = λ k g c e. b3.none_ceded k g (record { dial = c.dial; dialed = c.dialed; stated = c.stated; stream = c.stream; pending = c.pending }) e;
      }
