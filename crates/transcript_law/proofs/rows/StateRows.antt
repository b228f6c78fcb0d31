-- lines of states, and pumps and pulls that wait for the answer to one, judged by hand
use Rattle.std.specs.Prelude.{◌≡◌, ◌∷◌, ◌++◌}
use Rattle.transcript_law.proofs.Words.{ℕ, true, false, List, [], refl, ap, sym, ◌∙◌, arith, Answer, Chronicle, Event, LawfulLine, Role, StreamName, Verb, after_line, after_lines}
use Rattle.transcript_law.proofs.lines.Takeovers.{ahead_takeovers, line_takeovers, lines_takeovers}
use Rattle.transcript_law.proofs.verbs.Handing.{none_stated}
use Rattle.transcript_law.specs.BoundRows.{LawfulHere}
use Rattle.transcript_law.specs.Chronicles.{Conns, ahead, at_line, conns_line}
use Rattle.transcript_law.specs.LineAnswers.{PutsAsTold}
use Rattle.transcript_law.specs.Lawfulness.{LinesFrom}
use Rattle.transcript_law.specs.LinesTold.{TakeoverKnown}
use Rattle.transcript_law.specs.StateRows.{pumps, states_on, waits_for_answer}
use Rattle.transcript_law.specs.Takeovers.{IsPlainFor, NoneDialed}
use Rattle.vb_events.specs.declared.event.Why.TheVariants as why

-- none stands in front of, behind or between lawful lines
no_state : (r : Chronicle) (behind : List Event) (stream : StreamName) (put : Role) → NoneDialed r → LawfulLine r (Event.Stated stream put) behind → ⊥
no_state r behind (StreamName.Link l) put none s = none_stated r l put none s
no_state r behind (StreamName.Client n c) put none s = s

pub none_told : (r : Chronicle) (conns : Conns) (front behind : List Event) (stream : StreamName) (put : Role) → NoneDialed r → LinesFrom r conns (front ++ Event.Stated stream put ∷ behind) → ⊥
none_told r conns [] behind stream put none l = no_state r behind stream put none l.0
none_told r conns (line ∷ front) behind stream put none l = none_told (after_line r line) (conns_line conns line) front behind stream put (λ k. ap (λ (t : ℕ → TakeoverKnown). (t k).dialed) (line_takeovers r line) ∙ none k) l.1

-- so no group tells of one
pub none_here : (chronicle : Chronicle) (asked : Verb) (front behind : List Event) (stream : StreamName) (put : Role) (said : Answer) → NoneDialed chronicle → LawfulHere chronicle asked (front ++ Event.Stated stream put ∷ behind, said) → ⊥
none_here chronicle asked front behind stream put said none l =
    let r : Chronicle = at_line chronicle 1 in
    none_told (ahead r asked said) r.conn_at front behind stream put (λ k. ap (λ (t : ℕ → TakeoverKnown). (t k).dialed) (ahead_takeovers r asked said) ∙ none k) l.0.0

-- nor does a pump of a link wait that was dialed for none
pub none_awaited : (k : ℕ) (chronicle : Chronicle) (n : ℕ) (lines : List Event) → IsPlainFor chronicle (pumps k) → LawfulHere chronicle (pumps k) (waits_for_answer n lines) → ⊥
none_awaited k chronicle n lines plain l =
    let z : false ≡ true = sym plain ∙ ap (λ (t : ℕ → TakeoverKnown). (t k).dialed) (sym (lines_takeovers (at_line chronicle 1) lines)) ∙ l.0.7.awaits.takes_on.takeover in cc

pub one_counted : PutsAsTold 9 (states_on 1 Role.Pending ∷ []) 1 why.Idle
one_counted = record { told = refl; most = omega arith; all = λ e. cc; only = λ e. absurd (omega (arith, e)) }
