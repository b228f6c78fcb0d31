-- lines that tell of something that they may not, to be judged by hand
use Rattle.std.specs.Prelude.{ℕ, List, [], ◌∷◌, None}
use Rattle.script_text.specs.declared.verb.Verb.{Verb}
use Rattle.vb_events.specs.declared.event.Answer.{Answer}
use Rattle.vb_events.specs.declared.event.EndReason.{EndReason}
use Rattle.vb_events.specs.declared.event.EndReason.TheVariants as reason
use Rattle.vb_events.specs.declared.event.Event.{Event}
use Rattle.vb_events.specs.declared.event.Event.TheVariants as event
use Rattle.vb_events.specs.declared.event.StreamName.TheVariants as name
use Rattle.vb_types.specs.declared.role.Role.TheVariants as role
use Rattle.vb_types.specs.declared.stream.AskAnswer.TheVariants as ask_answer
use Rattle.vb_types.specs.declared.stream.StreamAsk.{StreamAsk}
use Rattle.transcript_law.specs.BoundRows.{LawfulHere, one_dialed}
use Rattle.transcript_law.specs.Chronicles.{Chronicle}
use Rattle.transcript_law.specs.Takeovers.{IsPlainFor}
use Rattle.transcript_law.specs.Transcripts.{change_line, one_change}

-- whatever was read before and however it is answered, this line does not tell of this first, nor behind any line, unless it is for a link that was dialed for a takeover
pub record MayNotTell (asked : Verb) (wrong : Event) : Type 0 where
  pub first : (chronicle : Chronicle) (lines : List Event) (said : Answer) → IsPlainFor chronicle asked → LawfulHere chronicle asked (wrong ∷ lines, said) → ⊥
  pub later : (chronicle : Chronicle) (before : Event) (lines : List Event) (said : Answer) → IsPlainFor chronicle asked → LawfulHere chronicle asked (before ∷ wrong ∷ lines, said) → ⊥

-- where the link 1 was dialed for the vBucket 0 of the node 1 from the node 0, this line does not tell of this first, however it is answered
abbrev pub NotFirst : Verb → Event → Type 0
NotFirst asked wrong = (lines : List Event) (said : Answer) → LawfulHere one_dialed asked (wrong ∷ lines, said) → ⊥

-- nor directly behind the line that the node n stopped
abbrev pub NotBehindStop : Verb → ℕ → Event → Type 0
NotBehindStop asked n wrong = (lines : List Event) (said : Answer) → LawfulHere one_dialed asked (event.NodeStopped n ∷ wrong ∷ lines, said) → ⊥

-- the vBucket v of the node n is a replica
abbrev pub turns_at : ℕ → ℕ → Event
turns_at n v = event.Role n v role.Replica

-- it is on the branch 7
abbrev pub branches_at : ℕ → ℕ → Event
branches_at n v = event.Branch n v 7 None 0 0

-- a client of the node 0 is answered
abbrev pub replies : Event
replies = event.Reply 0 1 []

-- the link l ended
abbrev pub ends_at : ℕ → Event
ends_at l = event.Ended l reason.Cut

-- it ended for this reason
abbrev pub ends_for : ℕ → EndReason → Event
ends_for l why = event.Ended l why

-- a client of the node n makes a change, the client c there asks for a stream, and it is answered
abbrev pub makes_at : ℕ → Event
makes_at n = event.Changed n 0 5 one_change

abbrev pub asks_at : ℕ → ℕ → StreamAsk → Event
asks_at n c ask = event.Asked (name.Client n c) n 0 ask 0 [] (ask_answer.Refuse 7)

abbrev pub says_to : ℕ → ℕ → Event
says_to n c = event.Reply n c []

-- a line tells of no request of the client c of the node n, of no answer to it, and not that it is let go
pub record NoneOf (asked : Verb) (n c : ℕ) : Type 0 where
  pub request : (ask : StreamAsk) → MayNotTell asked (asks_at n c ask)
  pub answer : MayNotTell asked (says_to n c)
  pub closing : MayNotTell asked (event.Closed n c)

-- nor of any client of the node n, or of a change there
pub record NoneAt (asked : Verb) (n : ℕ) : Type 0 where
  pub change : MayNotTell asked (makes_at n)
  pub clients : (c : ℕ) → NoneOf asked n c

-- the same of lines for which the link 1 is as it was dialed
pub record NoneFirstAt (asked : Verb) (n : ℕ) : Type 0 where
  pub change : NotFirst asked (makes_at n)
  pub request : (c : ℕ) (ask : StreamAsk) → NotFirst asked (asks_at n c ask)
  pub answer : (c : ℕ) → NotFirst asked (says_to n c)
  pub closing : (c : ℕ) → NotFirst asked (event.Closed n c)

-- the node n stopped
abbrev pub stops_at : ℕ → Event
stops_at n = event.NodeStopped n

-- the vBucket 0 of the node 0 makes its change
abbrev pub changes_here : Event
changes_here = change_line 0

-- a batch of this vBucket
abbrev pub batch_at : ℕ → ℕ → Event
batch_at n v = event.Batch n v 1 1 1 1

-- its numbers, and its log
abbrev pub stat_at : ℕ → ℕ → Event
stat_at n v = event.Stat n v 0 0 1 0 0

abbrev pub log_at : ℕ → ℕ → Event
log_at n v = event.Logged n v []
