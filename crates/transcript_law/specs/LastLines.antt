-- the line of a script that was read last, and in which group the next question of each connection was the first to be answered
use Rattle.std.specs.Prelude.{ℕ, ◌==◌, ◌^◌, ◌&&◌, if◌then◌else◌, nat_lt, Bool, List, [], ◌∷◌, Option, Some, None, is_some}
use Rattle.std.specs.Option.{option_map}
use Rattle.vb_types.specs.declared.change.Change.{Change}
use Rattle.script_text.specs.declared.verb.ScriptLine.{ScriptLine}
use Rattle.transcript_law.specs.Questions.{question_of}
use Rattle.transcript_law.specs.StreamsTold.{Asking, ClientsKnown}

-- a change that the vBucket v of the node n made of its own, on its branch, and what its node's clock showed then
pub record OwnChange : Type 0 where
  pub node : ℕ
  pub vb : ℕ
  pub branch : ℕ
  pub change : Change
  pub clock : ℕ

-- the connections of clients that are open, by their nodes and their numbers
abbrev pub Conns : Type 0
Conns = ℕ → ℕ → Bool

-- the number of the line of a script that was read last; and for each connection of a client whose question stays open, how many it was answered before that, and the durable changes that were told in the first group behind which it did
pub record LastLine : Type 0 where
  pub number : ℕ
  pub served : ℕ → ℕ → Option (ℕ × List OwnChange)

-- the number of a line behind one of that number: none where it does not rise
abbrev pub risen_to : Option ℕ → ℕ → Option ℕ
risen_to None number = None
risen_to (Some before) number = if nat_lt before number && nat_lt number (2 ^ 32) then Some number else None

-- behind all these lines
abbrev pub risen_through : Option ℕ → List ScriptLine → Option ℕ
risen_through last [] = last
risen_through last (line ∷ lines) = risen_through (risen_to last line.line) lines

-- the number of the last line
abbrev pub number_of : Option LastLine → Option ℕ
number_of last = option_map (λ (l : LastLine). l.number) last

-- the last line is one of this number
abbrev pub numbered : Option LastLine → ℕ → Option LastLine
numbered None number = None
numbered (Some before) number = if nat_lt before.number number && nat_lt number (2 ^ 32) then Some (record before { number = number }) else None

-- the durable changes that were told in the group in which the next question was the first to be answered: that of an earlier line, or this one
abbrev pub told_for : Option (ℕ × List OwnChange) → ℕ → List OwnChange → List OwnChange
told_for None answered made = made
told_for (Some (k, told)) answered made = if k == answered then told else made

-- those that are known when a group ends, of a connection that is open and has a question then
abbrev pub served_then : Bool → Option (ℕ × List OwnChange) → Asking → List OwnChange → Option (ℕ × List OwnChange)
served_then opened old k made = if opened && is_some (question_of k) then Some (k.answered, told_for old k.answered made) else None

abbrev pub with_served : Option LastLine → ClientsKnown → Conns → List OwnChange → Option LastLine
with_served last clients conns made = option_map (λ (l : LastLine). record l { served = λ n c. served_then (conns n c) (l.served n c) (clients n c).asking made }) last
