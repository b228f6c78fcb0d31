-- jobs of programs, and first calls that go on
use Rattle.std.proofs.Common.{◌≡◌, List, [], ◌∷◌, ◌++◌, Option, None, refl}
use Rattle.vb_calls.specs.Programs.{Prog, Done, Made, Told, FirstCalls}
use Rattle.vb_calls.specs.Programs as prog
use Rattle.vb_calls.specs.Jobs.{Job, Ended, Call, Request, lift}
use Rattle.vb_calls.specs.Shelves.{no_answer}
use Rattle.vb_told.specs.Told.{ToldJob, FirstJobCalls}
use Rattle.vb_told.specs.Laws.{JobsTellTheirCalls}

module _ {A : Type 0} where
  told_of_lift : (p : Prog A) (made : List Made) (answer : A) → ToldJob (lift p) made answer → Told p made answer
  told_of_lift (Done a) [] answer told = told
  told_of_lift (Done a) (m ∷ made) answer told = told
  told_of_lift (prog.Call v call next) [] answer told = told
  told_of_lift (prog.Call v call next) (m ∷ made) answer told = (told.0, told.1, told_of_lift (next m.2) made answer told.2)

  lift_of_told : (p : Prog A) (made : List Made) (answer : A) → Told p made answer → ToldJob (lift p) made answer
  lift_of_told (Done a) [] answer told = told
  lift_of_told (Done a) (m ∷ made) answer told = told
  lift_of_told (prog.Call v call next) [] answer told = told
  lift_of_told (prog.Call v call next) (m ∷ made) answer told = (told.0, told.1, lift_of_told (next m.2) made answer told.2)

  first_of_lift : (p : Prog A) (made : List Made) → FirstJobCalls (lift p) made → FirstCalls p made
  first_of_lift (Done a) [] first = first
  first_of_lift (Done a) (m ∷ made) first = first
  first_of_lift (prog.Call v call next) [] first = first
  first_of_lift (prog.Call v call next) (m ∷ made) first = (first.0, first.1, first_of_lift (next m.2) made first.2)

  lift_of_first : (p : Prog A) (made : List Made) → FirstCalls p made → FirstJobCalls (lift p) made
  lift_of_first (Done a) [] first = first
  lift_of_first (Done a) (m ∷ made) first = first
  lift_of_first (prog.Call v call next) [] first = first
  lift_of_first (prog.Call v call next) (m ∷ made) first = (first.0, first.1, lift_of_first (next m.2) made first.2)

  -- a job whose calls find no vBucket, and whose requests find no journal
  ending : (job : Job A) → (more : List Made) × (answer : A) × ToldJob job more answer
  ending (Ended a) = ([], a, refl)
  ending (Call v call next) = let (more, answer, told) = ending (next None) in ((v, call, None) ∷ more, answer, (refl, refl, told))
  ending (Request v ask next) = let (more, answer, told) = ending (next (no_answer ask)) in (more, answer, (no_answer ask, told))

  goes_on : (job : Job A) (made : List Made) → FirstJobCalls job made → (more : List Made) × (answer : A) × ToldJob job (made ++ more) answer
  goes_on (Ended a) [] first = ([], a, refl)
  goes_on (Ended a) (m ∷ made) first = absurd first
  goes_on (Call v call next) [] first = ending (Call v call next)
  goes_on (Call v call next) (m ∷ made) first =
      let (more, answer, told) = goes_on (next m.2) made first.2 in (more, answer, (first.0, first.1, told))
  goes_on (Request v ask next) made first =
      let (more, answer, told) = goes_on (next first.0) made first.1 in (more, answer, (first.0, told))

  front_of : (job : Job A) (made more : List Made) (answer : A) → ToldJob job (made ++ more) answer → FirstJobCalls job made
  front_of (Ended a) [] more answer told = tt
  front_of (Ended a) (m ∷ made) more answer told = told
  front_of (Call v call next) [] more answer told = tt
  front_of (Call v call next) (m ∷ made) more answer told = (told.0, told.1, front_of (next m.2) made more answer told.2)
  front_of (Request v ask next) made more answer told = (told.0, front_of (next told.0) made more answer told.1)

  pub tell : JobsTellTheirCalls A
  tell = record {
    whole = λ p made answer. (told_of_lift p made answer, lift_of_told p made answer);
    first = λ p made. (first_of_lift p made, lift_of_first p made);
    fronts = λ job made. (goes_on job made, λ more. front_of job made more.0 more.1 more.2);
  }
