-- what a pull puts, in turn, and why it puts no more, in words beside the definitions
use Rattle.std.specs.Prelude.{ℕ, ◌+◌, ◌<◌, ◌≤◌, ◌≡◌, ◌⊎◌, ◌↔◌, List, [], ◌∷◌, ◌++◌, length, map}
use Rattle.std.specs.List.{concat}
use Rattle.mcbp_frame.specs.Spelling.{spelling}
use Rattle.vb_calls.specs.Programs.{Made}
use Rattle.dcp_producer.specs.declared.halt.Halt.{Halt}
use Rattle.dcp_producer.specs.declared.halt.Halt.TheVariants as halt
use Rattle.dcp_producer.specs.declared.next_frame.NextFrame.TheVariants as next
use Rattle.dcp_producer.specs.declared.next_frame.Waits.{Waits}
use Rattle.dcp_producer.specs.declared.next_frame.Waits.TheVariants as waits
use Rattle.dcp_producer.specs.Holding.{IsShut}
use Rattle.dcp_producer.specs.Orders.{AreBetween, AreOut, Stops, most_calls, total}
use Rattle.dcp_producer.specs.Producers.{PlainStream, Served}
use Rattle.dcp_producer.specs.Turns.{Tried, StandApart, TakeTurns, TurnsOn, turns_of, put_in, made_in}

-- one of the streams that were asked waits for this
abbrev pub OneWaits : Waits → List Tried → Type 0
OneWaits for [] = ⊥
OneWaits for (t ∷ more) = (t.next ≡ next.Quiet for) ⊎ OneWaits for more

-- the journal of one of the streams that were asked can't be read
abbrev pub OneStops : List Tried → Type 0
OneStops [] = ⊥
OneStops (t ∷ more) = (t.next ≡ next.Disk) ⊎ OneStops more

-- A pull of k frames asked these streams, one after the other, always the first of those that waited for their turns; a stream that put a frame came last, and one that was over or quiet waited no more. The turn is then behind the last stream that put a frame. Each left all others as they were, and nothing else of the connection changed but the window and whose turn it is. Their frames are what was put and told. All were put exactly where it says so. Else it was first the window that was shut; or next one's journal can't be read, at which the pull ended; or next no stream waited for its turn any more: then it says that one waits for the answer to a state exactly where one of them said so, next that one waits for what is to be saved exactly where one said that, and that there was no more where none said either
pub record PullsInTurn (k : ℕ) (s : Served) (made : List Made) (left : Served) (halted : Halt) : Type 0 where
  pub tries : List Tried
  pub awake : List PlainStream
  pub turns : TakeTurns s.end.desk.stream (turns_of s.end) tries awake
  pub order : TurnsOn (turns_of s.end) tries (turns_of left.end)
  pub stand : StandApart s.end.streams tries left.end.streams
  pub calls : made ≡ made_in tries
  pub stops : Stops tries
  pub few : length (put_in s.end.desk.stream tries) ≤ k
  pub out : left.out ≡ s.out ++ concat (map (λ x. spelling x.0) (put_in s.end.desk.stream tries))
  pub told : left.events ≡ s.events ++ map (λ x. x.1) (put_in s.end.desk.stream tries)
  pub count : left.count ≡ s.count + length (put_in s.end.desk.stream tries)
  pub resolved : left.resolved ≡ s.resolved
  pub rest : left.end ≡ record s.end { streams = left.end.streams; turn = left.end.turn; window = left.end.window }
  pub all : (halted ≡ halt.All) ↔ (length (put_in s.end.desk.stream tries) ≡ k)
  pub full : (halted ≡ halt.Full) ↔ ((length (put_in s.end.desk.stream tries) < k) × IsShut left.end.window)
  pub disk : (halted ≡ halt.Disk) ↔ ((length (put_in s.end.desk.stream tries) < k) × (IsShut left.end.window → ⊥) × OneStops tries)
  pub states : (halted ≡ halt.WaitState) ↔ ((length (put_in s.end.desk.stream tries) < k) × (IsShut left.end.window → ⊥) × (OneStops tries → ⊥) × OneWaits waits.State tries)
  pub saves : (halted ≡ halt.WaitSaved)
      ↔ ((length (put_in s.end.desk.stream tries) < k) × (IsShut left.end.window → ⊥) × (OneStops tries → ⊥) × (OneWaits waits.State tries → ⊥) × OneWaits waits.Saved tries)
  pub idle : (halted ≡ halt.Idle)
      ↔ ((length (put_in s.end.desk.stream tries) < k) × (IsShut left.end.window → ⊥) × (OneStops tries → ⊥) × (OneWaits waits.State tries → ⊥) × (OneWaits waits.Saved tries → ⊥))
  pub quiet : (halted ≡ halt.WaitState) ⊎ (halted ≡ halt.WaitSaved) ⊎ (halted ≡ halt.Idle) → awake ≡ []

-- so streams take turns
pub record TurnsTaken (k : ℕ) (s : Served) (made : List Made) (left : Served) (halted : Halt) : Type 0 where
  pub pull : PullsInTurn k s made left halted
  pub between : AreBetween s.end.desk.stream (turns_of s.end) pull.tries
  pub out : AreOut pull.tries

-- and ask little
pub record AsksLittle (k : ℕ) (s : Served) (made : List Made) (left : Served) (halted : Halt) : Type 0 where
  pub pull : PullsInTurn k s made left halted
  pub little : length made ≤ total (map (λ t. most_calls t.stream.ended t.next) pull.tries)
