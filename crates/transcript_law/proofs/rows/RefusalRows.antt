-- lines that are refused, judged by hand
use Rattle.std.specs.Prelude.{◌≡◌, ◌∷◌}
use Rattle.transcript_law.proofs.Words.{ℕ, List, [], refl, Some, Answer, Cause, Event, Chronicle, Verb}
use Rattle.transcript_law.specs.Firings.{FiresAsSaid, FiresInLine}
use Rattle.transcript_law.specs.RefusalRows.{TellsItsCause, TellsNoRollback, TellsNothing}
use Rattle.transcript_law.specs.Standing.{IsStanding}

some_is_not_none : (line : Event) (lines : List Event) → line ∷ lines ≡ [] → ⊥
some_is_not_none line lines e = cc

pub tells_nothing : (why : Cause) → IsStanding why → TellsNothing why
tells_nothing why standing chronicle line first lines l = some_is_not_none first lines (l.0.4 why refl standing)

stop_fail : (n m : ℕ) (xs ys : List Event) → Event.NodeStopped n ∷ xs ≡ Event.CallFailed m ∷ ys → ⊥
stop_fail n m xs ys e = cc

fail_is_no_stop : (n m : ℕ) (xs ys : List Event) → Event.CallFailed n ∷ xs ≡ Event.NodeStopped m ∷ ys → ⊥
fail_is_no_stop n m xs ys e = cc

back_fail : (n v named to m : ℕ) (xs ys : List Event) → Event.Rolled n v named to ∷ xs ≡ Event.CallFailed m ∷ ys → ⊥
back_fail n v named to m xs ys e = cc

back_stop : (n v named to m : ℕ) (xs ys : List Event) → Event.Rolled n v named to ∷ xs ≡ Event.NodeStopped m ∷ ys → ⊥
back_stop n v named to m xs ys e = cc

two_one : (a b c : Event) (xs : List Event) → a ∷ b ∷ xs ≡ c ∷ [] → ⊥
two_one a b c xs e = cc

module _ (line : Verb) (at : (chronicle : Chronicle) (lines : List Event) (said : Answer) → FiresInLine chronicle line lines said → FiresAsSaid (Some 0) lines said) where
  pub its_cause : TellsItsCause line
  its_cause = record {
    closed_failed = λ chronicle n lines l. some_is_not_none (Event.CallFailed n) _ (at chronicle (Event.CallFailed n ∷ lines) (Answer.No Cause.Closed) l.0.2);
    closed_stopped = λ chronicle n lines l. some_is_not_none (Event.NodeStopped n) _ (at chronicle (Event.NodeStopped n ∷ lines) (Answer.No Cause.Closed) l.0.2);
    failed_stopped = λ chronicle n lines l. stop_fail n 0 _ [] (at chronicle (Event.NodeStopped n ∷ lines) (Answer.No Cause.Disk) l.0.2);
    failed_twice = λ chronicle n m lines l. two_one (Event.CallFailed n) (Event.CallFailed m) (Event.CallFailed 0) _ (at chronicle (Event.CallFailed n ∷ Event.CallFailed m ∷ lines) (Answer.No Cause.Disk) l.0.2);
    stopped_by_failure = λ chronicle n lines l. fail_is_no_stop n 0 _ [] (at chronicle (Event.CallFailed n ∷ lines) (Answer.No Cause.Stopped) l.0.2);
    stopped_twice = λ chronicle n m lines l. two_one (Event.NodeStopped n) (Event.NodeStopped m) (Event.NodeStopped 0) _ (at chronicle (Event.NodeStopped n ∷ Event.NodeStopped m ∷ lines) (Answer.No Cause.Stopped) l.0.2);
  }

  pub no_rollback : TellsNoRollback line
  no_rollback = record {
    closed = λ chronicle n v named to lines l. some_is_not_none (Event.Rolled n v named to) _ (at chronicle (Event.Rolled n v named to ∷ lines) (Answer.No Cause.Closed) l.0.2);
    failed = λ chronicle n v named to lines l. back_fail n v named to 0 _ [] (at chronicle (Event.Rolled n v named to ∷ lines) (Answer.No Cause.Disk) l.0.2);
    stopped = λ chronicle n v named to lines l. back_stop n v named to 0 _ [] (at chronicle (Event.Rolled n v named to ∷ lines) (Answer.No Cause.Stopped) l.0.2);
  }
