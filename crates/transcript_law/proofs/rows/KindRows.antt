-- answers and lines of each verb, judged by hand
use Rattle.std.specs.Prelude.{◌≡◌, ◌<◌, ◌≤◌, ◌∷◌}
use Rattle.transcript_law.proofs.Words.{ℕ, Bool, true, false, List, [], ap, subst, arith, Some, None, Answer, Cause, Event, Why, Chronicle, Verb, LawfulAnswer}
use Rattle.transcript_law.proofs.lines.Calm.{spared_calm}
use Rattle.transcript_law.specs.Bound.{IsBound, bound_by}
use Rattle.transcript_law.specs.BoundRows.{LawfulHere}
use Rattle.transcript_law.specs.Firings.{FiresAsSaid, FiresInLine, mishaps}
use Rattle.transcript_law.specs.KindRows.{CountsFrames, CountsNothing, CountsOne, FiresAt, FiresNothing, MeetsJournal, journal_under}
use Rattle.transcript_law.specs.LineAnswers.{IsNoted}
use Rattle.vb_disk.specs.declared.fuse.Fuse.{Fuse}
use Rattle.vb_disk.specs.declared.fuse.Fuse.TheVariants.{Off, Stop, Fail}

module _ (chronicle : Chronicle) (line : Verb) (free : bound_by chronicle line ≡ []) where
  -- it may be carried out, and is answered as its verb says
  ruled : (lines : List Event) (said : Answer) → LawfulHere chronicle line (lines, said) → LawfulAnswer chronicle line lines said
  ruled lines said l = subst (λ b. IsBound b (LawfulAnswer chronicle line lines said) lines said) free l.0.1

  pub counts_nothing : ((n : ℕ) (lines : List Event) → LawfulAnswer chronicle line lines (Answer.Number n) → ⊥) → ((n : ℕ) (why : Why) (lines : List Event) → LawfulAnswer chronicle line lines (Answer.Pulled n why) → ⊥) → CountsNothing chronicle line
  counts_nothing number pulled = record { number = λ n lines l. number n lines (ruled lines (Answer.Number n) l); pulled = λ n why lines l. pulled n why lines (ruled lines (Answer.Pulled n why) l) }

  pub counts_one : ((lines : List Event) → LawfulAnswer chronicle line lines Answer.Ok → ⊥) → ((n : ℕ) (why : Why) (lines : List Event) → LawfulAnswer chronicle line lines (Answer.Pulled n why) → ⊥) → CountsOne chronicle line
  counts_one none pulled = record { ok = λ lines l. none lines (ruled lines Answer.Ok l); pulled = λ n why lines l. pulled n why lines (ruled lines (Answer.Pulled n why) l) }

  pub counts_frames : ((lines : List Event) → LawfulAnswer chronicle line lines Answer.Ok → ⊥) → ((n : ℕ) (lines : List Event) → LawfulAnswer chronicle line lines (Answer.Number n) → ⊥) → CountsFrames chronicle line
  counts_frames none number = record { ok = λ lines l. none lines (ruled lines Answer.Ok l); number = λ n lines l. number n lines (ruled lines (Answer.Number n) l) }

-- ---- journals

no_less : (k : ℕ) → k ≤ 4 → 4 < k → ⊥
no_less k most more = omega (arith, most, more)

pub meets_journal : (line : Verb) → ((closed : Bool) (f : Fuse) (lines : List Event) (said : Answer) → LawfulHere (journal_under closed f) line (lines, said) → IsNoted closed f said) → MeetsJournal line
meets_journal line noted = record {
  closed = λ f lines l. let e : true ≡ false = (noted true f lines Answer.Ok l).0 in cc;
  opened = λ f lines l. let e : false ≡ true = noted false f lines (Answer.No Cause.Closed) l in cc;
  fails = λ k lines some most l. no_less k most (noted false (Fail k) lines Answer.Ok l).1;
  stops = λ k lines some most l. no_less k most (noted false (Stop k) lines Answer.Ok l).1;
  past_failure = λ k lines more l. no_less k (noted false (Fail k) lines (Answer.No Cause.Disk) l).1.1 more;
  past_stop = λ k lines more l. no_less k (noted false (Stop k) lines (Answer.No Cause.Stopped) l).1.1 more;
  failed = λ k lines l. (noted false (Stop k) lines (Answer.No Cause.Disk) l).1;
  stopped = λ k lines l. (noted false (Fail k) lines (Answer.No Cause.Stopped) l).1;
  unarmed = λ lines l. (noted false Off lines (Answer.No Cause.Disk) l).1;
  unstopped = λ lines l. (noted false Off lines (Answer.No Cause.Stopped) l).1;
}

-- ---- arms

some_is_not_none : (line : Event) (lines : List Event) → line ∷ lines ≡ [] → ⊥
some_is_not_none line lines e = cc

pub fires_nothing : (line : Verb) → ((chronicle : Chronicle) (lines : List Event) (said : Answer) → FiresInLine chronicle line lines said → FiresAsSaid None lines said) → FiresNothing line
fires_nothing line none = record {
  disk = λ chronicle lines l. none chronicle lines (Answer.No Cause.Disk) l.0.2;
  stopped = λ chronicle lines l. none chronicle lines (Answer.No Cause.Stopped) l.0.2;
  call = λ chronicle n lines said l. some_is_not_none (Event.CallFailed n) (mishaps lines) (spared_calm (record { events = Event.CallFailed n ∷ lines; answer = said }) (none chronicle (Event.CallFailed n ∷ lines) said l.0.2));
  stop = λ chronicle n lines said l. some_is_not_none (Event.NodeStopped n) (mishaps lines) (spared_calm (record { events = Event.NodeStopped n ∷ lines; answer = said }) (none chronicle (Event.NodeStopped n ∷ lines) said l.0.2));
  back = λ chronicle n v named to lines said l. some_is_not_none (Event.Rolled n v named to) (mishaps lines) (spared_calm (record { events = Event.Rolled n v named to ∷ lines; answer = said }) (none chronicle (Event.Rolled n v named to ∷ lines) said l.0.2));
}

-- the node of a line that tells of an arm
node_of : List Event → ℕ
node_of (Event.CallFailed n ∷ lines) = n
node_of (Event.NodeStopped n ∷ lines) = n
node_of other = 0

none_some : (line : Event) (lines : List Event) → [] ≡ line ∷ lines → ⊥
none_some line lines e = cc

pub fires_at : (n : ℕ) (line : Verb) → ((chronicle : Chronicle) (lines : List Event) (said : Answer) → FiresInLine chronicle line lines said → FiresAsSaid (Some n) lines said) → FiresAt n line
unfolding node_of
fires_at n line at = record {
  untold = λ chronicle l. none_some (Event.CallFailed n) [] (at chronicle [] (Answer.No Cause.Disk) l.0.2);
  unstopped = λ chronicle l. none_some (Event.NodeStopped n) [] (at chronicle [] (Answer.No Cause.Stopped) l.0.2);
  elsewhere = λ chronicle m lines other l. other (ap node_of (at chronicle (Event.CallFailed m ∷ lines) (Answer.No Cause.Disk) l.0.2));
  stopped_elsewhere = λ chronicle m lines other l. other (ap node_of (at chronicle (Event.NodeStopped m ∷ lines) (Answer.No Cause.Stopped) l.0.2));
  ok = λ chronicle m lines l. some_is_not_none (Event.CallFailed m) (mishaps lines) (at chronicle (Event.CallFailed m ∷ lines) Answer.Ok l.0.2);
}
