-- trims and drops, judged by hand
use Rattle.std.specs.Prelude.{◌≡◌, ◌≤◌, ◌<◌}
use Rattle.transcript_law.proofs.Words.{ℕ, Bool, true, false, refl, ap, sym, ◌∙◌, subst, arith, Option, Some, None, Answer, Cause, Chronicle, Dial, Granted, empty_chronicle}
use Rattle.transcript_law.proofs.rows.Followers.{own_dial}
use Rattle.transcript_law.proofs.verbs.Handing.{hands_plain}
use Rattle.transcript_law.specs.Chronicles.{after_dial}
use Rattle.transcript_law.specs.LineAnswers.{DropsOne}
use Rattle.transcript_law.specs.LinesTold.{at_line}
use Rattle.transcript_law.specs.TrimRows.{LawfulDrop, LawfulTrim, ended_stream, saved_there}
use Rattle.transcript_law.specs.UndoneRows.{granted_both}
use Rattle.vb_events.specs.declared.event.StreamName.TheVariants as name

-- ---- trims

pub none : LawfulTrim (saved_there 2) (Answer.Number 0)
none = ((tt, (refl, omega arith), refl, refl, (λ w no standing. let e : Answer.Number 0 ≡ Answer.No w = no in cc), hands_plain _ _ _ _ refl refl, tt, (λ z. tt, λ t. tt), (λ n c opens. cc), tt, tt, (tt, tt)), tt)

pub each : LawfulTrim (saved_there 2) (Answer.Number 2)
each = ((tt, (refl, omega arith), refl, refl, (λ w no standing. let e : Answer.Number 2 ≡ Answer.No w = no in cc), hands_plain _ _ _ _ refl refl, tt, (λ z. tt, λ t. tt), (λ n c opens. cc), tt, tt, (tt, tt)), tt)

pub more : (n : ℕ) → 2 < n → LawfulTrim (saved_there 2) (Answer.Number n) → ⊥
more n above l = let low : n ≤ 2 = l.0.1.1 in omega (arith, low, above)

pub unsaved : LawfulTrim (saved_there 0) (Answer.Number 1) → ⊥
unsaved l = let low : 1 ≤ 0 = l.0.1.1 in omega (arith, low)

pub absent : (n : ℕ) → LawfulTrim empty_chronicle (Answer.Number n) → ⊥
absent n l = let e : false ≡ true = l.0.1.0 in cc

pub refused : LawfulTrim empty_chronicle (Answer.No Cause.UnknownVb)
refused = ((tt, tt, refl, refl, (λ w no standing. refl), hands_plain _ _ _ _ refl refl, tt, tt, (λ n c opens. cc), tt, tt, (tt, tt)), tt)

-- ---- drops

pub one : LawfulDrop granted_both (Answer.Number 1)
one = ((tt, (omega arith, λ e. (own_dial, _, refl, refl, refl)), refl, refl, (λ w no standing. let e : Answer.Number 1 ≡ Answer.No w = no in cc), hands_plain _ _ _ _ refl refl, tt, (λ z. tt, λ t. tt), (λ n c opens. cc), tt, tt, (tt, tt)), tt)

-- none is taken away
none_of : ◌≡◌ {A = ℕ} 0 1 → ⊥
none_of e = omega (arith, e)

pub no_cursor : LawfulDrop granted_both (Answer.Number 0)
no_cursor = ((tt, (omega arith, λ e. absurd (none_of e)), refl, refl, (λ w no standing. let e : Answer.Number 0 ≡ Answer.No w = no in cc), hands_plain _ _ _ _ refl refl, tt, (λ z. tt, λ t. tt), (λ n c opens. cc), tt, tt, (tt, tt)), tt)

pub two : LawfulDrop granted_both (Answer.Number 2) → ⊥
two l = let few : 2 ≤ 1 = l.0.1.0 in omega (arith, few)

pub no_stream : LawfulDrop (after_dial empty_chronicle 1 0 1 0 Answer.Ok) (Answer.Number 1) → ⊥
no_stream l = let (dial, g, dialed, granted, over) = l.0.1.1 refl in let e : None ≡ Some g = granted in cc

pub no_stream_none : LawfulDrop (after_dial empty_chronicle 1 0 1 0 Answer.Ok) (Answer.Number 0)
no_stream_none = ((tt, (omega arith, λ e. absurd (none_of e)), refl, refl, (λ w no standing. let e : Answer.Number 0 ≡ Answer.No w = no in cc), hands_plain _ _ _ _ refl refl, tt, (λ z. tt, λ t. tt), (λ n c opens. cc), tt, tt, (tt, tt)), tt)

-- the link's stream, where it is told over
over_in : Option Granted → Bool
over_in None = true
over_in (Some g) = g.over

over_drops : (read : Chronicle) → read.dial_of 1 ≡ Some own_dial → over_in (read.stream_of (name.Link 1) 0) ≡ true → DropsOne read 1 → ⊥
unfolding over_in
over_drops read is over (dial, g, dialed, granted, goes_on) =
    let both : Some own_dial ≡ Some dial = sym is ∙ dialed in
    let same : own_dial ≡ dial = cc in
    let there : read.stream_of (name.Link 1) 0 ≡ Some g = subst (λ (d : Dial). read.stream_of (name.Link 1) d.vb ≡ Some g) (sym same) granted in
    let e : true ≡ false = sym over ∙ ap over_in there ∙ goes_on in cc

pub ended : LawfulDrop ended_stream (Answer.Number 1) → ⊥
unfolding over_in
ended l = over_drops (at_line ended_stream 1) refl refl (l.0.1.1 refl)

pub ended_none : LawfulDrop ended_stream (Answer.Number 0)
ended_none = ((tt, (omega arith, λ e. absurd (none_of e)), refl, refl, (λ w no standing. let e : Answer.Number 0 ≡ Answer.No w = no in cc), hands_plain _ _ _ _ refl refl, tt, (λ z. tt, λ t. tt), (λ n c opens. cc), tt, tt, (tt, tt)), tt)

pub closed : LawfulDrop granted_both (Answer.No Cause.LinkClosed) → ⊥
closed l = let e : Some own_dial ≡ None = l.0.1 in cc
