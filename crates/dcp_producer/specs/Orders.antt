-- what follows from taking turns, in words beside the definitions
use Rattle.std.specs.Prelude.{ℕ, ◌+◌, ◌≤◌, ◌≡◌, ◌≢◌, Bool, ◌==◌, if◌then◌else◌, List, [], ◌∷◌, ◌++◌, length, map}
use Rattle.std.specs.List.{All}
use Rattle.mcbp_dcp.specs.declared.message.DcpMsg.TheVariants as msg
use Rattle.vb_events.specs.declared.event.StreamName.{StreamName}
use Rattle.dcp_producer.specs.declared.next_frame.NextFrame.{NextFrame}
use Rattle.dcp_producer.specs.declared.next_frame.NextFrame.TheVariants as next
use Rattle.dcp_producer.specs.declared.next_frame.Waits.TheVariants as waits
use Rattle.dcp_producer.specs.Producers.{PlainStream}
use Rattle.dcp_producer.specs.Turns.{Tried, TakeTurns, made_in}

-- a frame was put, and the stream goes on
abbrev pub IsPut : NextFrame → Type 0
IsPut (next.Put m line) = Unit {0}
IsPut other = ⊥

-- it was quiet, or is over
abbrev pub IsOut : NextFrame → Type 0
IsOut (next.Put m line) = ⊥
IsOut other = Unit {0}

-- the stream of this number is not asked in any of these turns
abbrev pub IsNotAsked : ℕ → List Tried → Type 0
IsNotAsked id tries = All (λ t. t.stream.id ≢ id) tries

-- no two of these streams have one number
abbrev pub AreDifferent : List PlainStream → Type 0
AreDifferent [] = Unit {0}
AreDifferent (stream ∷ more) = All (λ other. other.id ≢ stream.id) more × AreDifferent more

-- between a turn in which a stream put a frame and its next one, just those streams are asked that waited when it was put, as they stood then, each once and in their order; and it goes on as it was left
pub record Between (name : StreamName) (first : List PlainStream) (front between : List Tried) (u v : Tried) : Type 0 where
  pub waited : List PlainStream
  pub turns : TakeTurns name first front (u.stream ∷ waited)
  pub asked : map (λ t. t.stream) between ≡ waited
  pub again : v.stream ≡ u.left

-- so it is with each two turns of a stream, with none of it between them
abbrev pub AreBetween : StreamName → List PlainStream → List Tried → Type 0
AreBetween name first tries =
    (front between back : List Tried) (u v : Tried) → tries ≡ front ++ u ∷ (between ++ v ∷ back) → IsPut u.next → v.stream.id ≡ u.stream.id → IsNotAsked u.stream.id between
    → Between name first front between u v

-- and who was quiet, or is over, is asked no more
abbrev pub AreOut : List Tried → Type 0
AreOut tries = (front back : List Tried) (u : Tried) → tries ≡ front ++ u ∷ back → IsOut u.next → IsNotAsked u.stream.id back

-- where a journal can't be read, that was the last turn
abbrev pub Stops : List Tried → Type 0
Stops tries = (front back : List Tried) (u : Tried) → tries ≡ front ++ u ∷ back → u.next ≡ next.Disk → back ≡ []

-- how many calls a turn makes at most: two for a marker or a state, or where the stream is quiet, but for none where it waits for the answer to a state; one for an end of reason 0; none for any other frame, and for the end of a stream that a change of role ended; two for that of a stream that its vBucket lost; and one where its journal can't be read
abbrev pub most_calls : Bool → NextFrame → ℕ
most_calls ended (next.Put (msg.SnapshotMarker start end flags) line) = 2
most_calls ended (next.Put (msg.SetVbucketState role) line) = 2
most_calls ended (next.Put m line) = 0
most_calls ended (next.End reason) = if reason == 0 then 1 else if ended then 0 else 2
most_calls ended (next.Quiet waits.State) = 0
most_calls ended (next.Quiet for) = 2
most_calls ended next.Disk = 1

abbrev pub total : List ℕ → ℕ
total [] = 0
total (n ∷ more) = n + total more

-- all turns together make at most as many
abbrev pub AskLittle : List Tried → Type 0
AskLittle tries = length (made_in tries) ≤ total (map (λ t. most_calls t.stream.ended t.next) tries)
