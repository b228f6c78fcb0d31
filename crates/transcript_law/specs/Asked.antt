-- that each line of a script tells what it was asked for
use Rattle.std.specs.Prelude.{◌≡◌, ◌⊎◌, ℕ, ◌*◌, Bool, true, false, List, [], ◌∷◌, ◌++◌, length, Option}
use Rattle.std.specs.List.{filter, flat_map}
use Rattle.script_text.specs.declared.verb.Verb.{Verb}
use Rattle.script_text.specs.declared.verb.Verb.TheVariants as verb
use Rattle.script_text.specs.declared.verb.VbVerb.{VbVerb}
use Rattle.script_text.specs.declared.verb.VbVerb.TheVariants as vb_verb
use Rattle.script_text.specs.declared.verb.NodeVerb.{NodeVerb}
use Rattle.script_text.specs.declared.verb.NodeVerb.TheVariants as node_verb
use Rattle.script_text.specs.declared.verb.ClientVerb.{ClientVerb}
use Rattle.script_text.specs.declared.verb.ClientVerb.TheVariants as client_verb
use Rattle.vb_events.specs.declared.event.Answer.{Answer}
use Rattle.vb_events.specs.declared.event.Answer.TheVariants as answer
use Rattle.vb_events.specs.declared.event.Cause.{Cause}
use Rattle.vb_events.specs.declared.event.Event.{Event}
use Rattle.vb_events.specs.declared.event.Event.TheVariants as event
use Rattle.vb_types.specs.declared.role.LogEntry.{LogEntry}
use Rattle.vb_types.specs.declared.role.Role.{Role}
use Rattle.vb_types.specs.declared.role.Role.TheVariants as role
use Rattle.transcript_law.specs.Pulls.{frames_in_lines}
use Rattle.transcript_law.specs.Standing.{IsStanding}
use Rattle.transcript_law.specs.Tellings.{are_all, is_of_image}

-- ---- what a vBucket shows

-- the vBucket v of the node n is shown once, and behind that what it has
abbrev pub IsShowLine : ℕ → ℕ → List Event → Type 0
IsShowLine n v lines = (said : Role) × (uuid at ss se docs preps : ℕ) × (image : List Event) × (lines ≡ event.Shown n v said uuid at ss se docs preps ∷ image) × (are_all is_of_image image ≡ true)

-- its numbers, once
abbrev pub IsStatLine : ℕ → ℕ → List Event → Type 0
IsStatLine n v lines = (windows items cursors saved high : ℕ) × (lines ≡ event.Stat n v windows items cursors saved high ∷ [])

-- its failover log, once
abbrev pub IsLogLine : ℕ → ℕ → List Event → Type 0
IsLogLine n v lines = (log : List LogEntry) × (lines ≡ event.Logged n v log ∷ [])

-- these lines where it is carried out, and none where it is refused
abbrev pub TellsIfDone : (List Event → Type 0) → List Event → Answer → Type 0
TellsIfDone Own lines answer.Ok = Own lines
TellsIfDone Own lines (answer.Number n) = ⊥
TellsIfDone Own lines (answer.Pulled n said) = ⊥
TellsIfDone Own lines (answer.No why) = lines ≡ []

-- ---- a vBucket that gets a role

-- a branch that is made, or a role
abbrev pub is_turn : Event → Bool
is_turn (event.Branch n v uuid parent fork high) = true
is_turn (event.Role n v said) = true
is_turn other = false

-- the lines of these kinds
abbrev pub turns_in : List Event → List Event
turns_in lines = filter is_turn lines

-- of them there is one, of this role of the vBucket v of the node n
abbrev pub TurnsTo : ℕ → ℕ → Role → List Event → Type 0
TurnsTo n v said lines = turns_in lines ≡ event.Role n v said ∷ []

-- of them there are two: the vBucket v of the node n is on a new branch with this id, and directly behind that it is active
pub record RisesOn (n v uuid : ℕ) (lines : List Event) : Type 0 where
  pub parent : Option ℕ
  pub fork : ℕ
  pub high : ℕ
  pub front : List Event
  pub behind : List Event
  pub together : lines ≡ front ++ event.Branch n v uuid parent fork high ∷ event.Role n v role.Active ∷ behind
  pub alone : turns_in lines ≡ event.Branch n v uuid parent fork high ∷ event.Role n v role.Active ∷ []

-- it was refused where it stood, and tells of nothing
abbrev pub IsRefused : List Event → Answer → Type 0
IsRefused lines said = (why : Cause) × (said ≡ answer.No why) × IsStanding why × (lines ≡ [])

-- or it tells of its change of role, also where a disk fails
abbrev pub TellsOnce : (List Event → Type 0) → List Event → Answer → Type 0
TellsOnce Own lines said = IsRefused lines said ⊎ Own lines

-- ---- a node that starts

-- the ids of new branches, in their order
abbrev pub id_of_line : Event → List ℕ
id_of_line (event.Branch n v uuid parent fork high) = uuid ∷ []
id_of_line other = []

abbrev pub ids_in : List Event → List ℕ
ids_in lines = flat_map id_of_line lines

-- ids that stand among these, in the same order
abbrev pub AreAmong : List ℕ → List ℕ → Type 0
AreAmong [] words = Unit {0}
AreAmong (id ∷ ids) [] = ⊥
AreAmong (id ∷ ids) (word ∷ words) = ((id ≡ word) × AreAmong ids words) ⊎ AreAmong (id ∷ ids) words

-- ---- what a client is sent

-- each frame of a stream has its line and its reply, and nothing else is sent
abbrev pub ArePairs : List Event → Type 0
ArePairs lines = length lines ≡ 2 * frames_in_lines lines

-- ---- by the line of the script

abbrev pub AskedOfNode : NodeVerb → List Event → Type 0
AskedOfNode (node_verb.Clock nanos) lines = Unit {0}
AskedOfNode (node_verb.Stop k out) lines = Unit {0}
AskedOfNode (node_verb.Fail k) lines = Unit {0}
AskedOfNode (node_verb.Crash out) lines = Unit {0}
AskedOfNode (node_verb.Start uuids) lines = AreAmong (ids_in lines) uuids

abbrev pub AskedOfVb : ℕ → ℕ → VbVerb → List Event → Answer → Type 0
AskedOfVb n v (vb_verb.MakeActive uuid) lines said = TellsOnce (RisesOn n v uuid) lines said
AskedOfVb n v vb_verb.MakeReplica lines said = TellsOnce (TurnsTo n v role.Replica) lines said
AskedOfVb n v (vb_verb.Chain others) lines said = Unit {0}
AskedOfVb n v (vb_verb.Promote uuid) lines said = TellsOnce (RisesOn n v uuid) lines said
AskedOfVb n v vb_verb.Follow lines said = TellsOnce (TurnsTo n v role.Replica) lines said
AskedOfVb n v vb_verb.Dead lines said = TellsOnce (TurnsTo n v role.Dead) lines said
AskedOfVb n v vb_verb.Tick lines said = Unit {0}
AskedOfVb n v vb_verb.Seal lines said = Unit {0}
AskedOfVb n v vb_verb.Trim lines said = Unit {0}
AskedOfVb n v vb_verb.Take lines said = Unit {0}
AskedOfVb n v vb_verb.Save lines said = Unit {0}
AskedOfVb n v vb_verb.Done lines said = Unit {0}
AskedOfVb n v vb_verb.Stat lines said = TellsIfDone (IsStatLine n v) lines said
AskedOfVb n v vb_verb.Log lines said = TellsIfDone (IsLogLine n v) lines said
AskedOfVb n v vb_verb.Show lines said = TellsIfDone (IsShowLine n v) lines said

abbrev pub AskedOfClient : ClientVerb → List Event → Type 0
AskedOfClient client_verb.Open lines = Unit {0}
AskedOfClient (client_verb.Bytes bytes) lines = Unit {0}
AskedOfClient (client_verb.Pull wanted) lines = ArePairs lines
AskedOfClient client_verb.Hang lines = Unit {0}

-- a line tells what it was asked for, and of the vBucket and the ids that it names
abbrev pub TellsAsAsked : Verb → List Event → Answer → Type 0
TellsAsAsked (verb.Node n) lines said = Unit {0}
TellsAsAsked (verb.Link l m n v buffer takeover) lines said = Unit {0}
TellsAsAsked (verb.AtNode n what) lines said = AskedOfNode what lines
TellsAsAsked (verb.AtVb n v what) lines said = AskedOfVb n v what lines said
TellsAsAsked (verb.AtClient n c what) lines said = AskedOfClient what lines
TellsAsAsked (verb.AtLink l what) lines said = Unit {0}
