-- what the lines `up`, `down` and `pump` come to, beside what all lines do: joined from the proofs of each
use Rattle.std.specs.Prelude.{◌≡◌}
use Rattle.transcript_law.proofs.Words.{ℕ, Bool, true, false, Answer, Chronicle, LinkVerb, PlainWorld, Verb, VerbFits, Why, with_branches, verb_step}
use Rattle.transcript_law.proofs.invariant.{Agreement.{Agrees}, Noted.{AllKept}, Ranged.{IsRanged}}
use Rattle.transcript_law.proofs.noted.{Freed.{LinesFit}, Joint.{Handed}, Known.{AllKnown}}
use Rattle.transcript_law.specs.{Chronicles.{after_group, ahead}, LawfulAnswers.{IsStill}, Lawfulness.{LinesFrom}, TakeoverAnswers.{HandsOver, StateAwaited}}

-- a line that moves bytes of a link
abbrev pub is_moving : Verb → Bool
is_moving (Verb.AtLink l (LinkVerb.Up wanted)) = true
is_moving (Verb.AtLink l (LinkVerb.Down wanted)) = true
is_moving (Verb.AtLink l (LinkVerb.Pump wanted)) = true
is_moving other = false

-- all that is known as a line begins
pub record Before (w : PlainWorld) (r : Chronicle) (line : Verb) : Type 0 where
  pub fits : VerbFits line
  pub ranged : IsRanged w
  pub calm : IsStill r
  pub handed : Handed w r
  pub agrees : Agrees w r

-- a group hands vBuckets over as it may; behind it all is known of links; who was given up for a stream whose rest is sent is the writer yet; a `pump` waits for a state only where one waits for its answer; and a branch that is made is named, and no state was put on a stream that is granted
pub record Moves : Type 0 where
  pub hands : (w : PlainWorld) (r : Chronicle) (number : ℕ) (line : Verb) → is_moving line ≡ true → Before w r line → (let o = verb_step w number line in HandsOver r line o.1.events o.1.answer)
  pub known : (w : PlainWorld) (r : Chronicle) (number : ℕ) (line : Verb) → is_moving line ≡ true → Before w r line
      → (let o = verb_step w number line in Agrees (with_branches o.1.events o.0) (after_group r line o.1.events o.1.answer) → AllKnown (with_branches o.1.events o.0) (after_group r line o.1.events o.1.answer))
  pub kept : (w : PlainWorld) (r : Chronicle) (number : ℕ) (line : Verb) → is_moving line ≡ true → Before w r line
      → (let o = verb_step w number line in LinesFrom (ahead r line o.1.answer) r.conn_at o.1.events → Agrees (with_branches o.1.events o.0) (after_group r line o.1.events o.1.answer) → AllKnown (with_branches o.1.events o.0) (after_group r line o.1.events o.1.answer)
      → AllKept (with_branches o.1.events o.0) (after_group r line o.1.events o.1.answer))
  pub awaits : (w : PlainWorld) (r : Chronicle) (number : ℕ) (line : Verb) → Before w r line → (n : ℕ) → (let x = (verb_step w number line).1 in x.answer ≡ Answer.Pulled n Why.WaitState → StateAwaited r line x.events)
  pub fits : (w : PlainWorld) (r : Chronicle) (number : ℕ) (line : Verb) → is_moving line ≡ true → Before w r line → (let o = verb_step w number line in LinesFrom (ahead r line o.1.answer) r.conn_at o.1.events → Agrees (with_branches o.1.events o.0) (after_group r line o.1.events o.1.answer) → LinesFit (ahead r line o.1.answer) o.1.events)
