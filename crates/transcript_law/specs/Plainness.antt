-- what holds of every line of the plain world
use Rattle.std.specs.Prelude.{◌≡◌, ℕ, Bool, false, List, [], ◌∷◌, ◌++◌, map, Option, Some, None}
use Rattle.std.specs.List.{All}
use Rattle.node_core.specs.Clients.{PlainClient}
use Rattle.script_text.specs.declared.verb.Verb.{Verb}
use Rattle.script_text.specs.declared.verb.Verb.TheVariants as verb
use Rattle.script_text.specs.declared.verb.VbVerb.TheVariants as vb_verb
use Rattle.vb_events.specs.declared.event.Answer.TheVariants as answer
use Rattle.vb_events.specs.declared.event.Cause.{Cause}
use Rattle.vb_types.specs.Images.{Picture}
use Rattle.vb_events.specs.declared.event.Event.{Event}
use Rattle.vb_events.specs.declared.event.Event.TheVariants as event
use Rattle.vb_events.specs.declared.event.StreamName.TheVariants as name
use Rattle.vb_types.specs.declared.change.Act.TheVariants as act
use Rattle.vb_types.specs.declared.change.Change.{Change}
use Rattle.vb_types.specs.declared.doc.Doc.{Doc}
use Rattle.vb_types.specs.declared.role.LogEntry.{LogEntry}
use Rattle.vb_types.specs.declared.role.Role.{Role}
pub use Rattle.transcript_law.specs.Standing.{IsStanding}
use Rattle.vb_types.specs.declared.role.Role.TheVariants as role
use Rattle.vb_calls.specs.declared.calls.VbAnswer.TheVariants as vb_answer
use Rattle.vb_calls.specs.declared.calls.VbCall.TheVariants as call
use Rattle.vb_calls.specs.Plain.{Plain, plain_step}
use Rattle.node_world.specs.{Nodes.{PlainNode}, Rests.{Rests}, World.{PlainWorld, verb_step}}

-- a Show shows
abbrev pub ShowsAreShown : Type 0
ShowsAreShown = (vb : Plain) → (role : Role) × (uuid : ℕ) × (ss : ℕ) × (se : ℕ) × (at : ℕ) × (image : Picture)
    × ((plain_step vb call.Show).1.answer ≡ vb_answer.Shown role uuid ss se at image)

-- a line that is refused for a cause which says where it stands changes no node and no link, makes no branch, and tells of nothing, in a world in which no arm is over a disk, as it is between lines
abbrev pub RefusedLinesKeep : Type 0
RefusedLinesKeep = (w : PlainWorld) (number : ℕ) (line : Verb) (why : Cause) → Rests w → (verb_step w number line).1.answer ≡ answer.No why → IsStanding why
    → ((n : ℕ) → (verb_step w number line).0.nodes n ≡ w.nodes n) × ((verb_step w number line).0.uuids ≡ w.uuids) × ((verb_step w number line).0.links ≡ w.links) × ((verb_step w number line).1.events ≡ [])

-- lines that end with such a tail
abbrev pub EndsWith : (List Event → Type 0) → List Event → Type 0
EndsWith Tail lines = (front tail : List Event) × (lines ≡ front ++ tail) × Tail tail

-- a change that commits a prepare
abbrev pub Commits : Change → Type 0
Commits c = (prepared : ℕ) × (doc : Doc) × (deleted : Bool) × (c.act ≡ act.Commit prepared doc deleted)

-- a new branch, then the role that its vBucket has on it, and then the prepares that it commits there at once
abbrev pub IsPromotion : ℕ → ℕ → ℕ → List Event → Type 0
IsPromotion n v uuid lines = (parent : Option ℕ) × (fork high : ℕ) × (commits : List Change) × All Commits commits
    × (lines ≡ event.Branch n v uuid parent fork high ∷ event.Role n v role.Active ∷ map (event.Changed n v uuid) commits)

-- a role
abbrev pub IsTurn : ℕ → ℕ → Role → List Event → Type 0
IsTurn n v said lines = lines ≡ event.Role n v said ∷ []

-- a failover log
abbrev pub IsLogged : ℕ → ℕ → List Event → Type 0
IsLogged n v lines = (log : List LogEntry) × (lines ≡ event.Logged n v log ∷ [])

-- a line of a client of the node n: of a change that it made, of a request of it for a stream, of an answer to it, or of its connection that closed
abbrev pub IsOfClient : ℕ → Event → Type 0
IsOfClient n (event.Changed m v uuid change) = m ≡ n
IsOfClient n (event.Asked (name.Client m c) k v ask high log said) = (m ≡ n) × (k ≡ n)
IsOfClient n (event.Reply m c bytes) = m ≡ n
IsOfClient n (event.Closed m c) = m ≡ n
IsOfClient n other = ⊥

-- such lines, and behind them what the node's clients were told of durable writes, and what came of the frames behind those
abbrev pub AndClients : ℕ → (List Event → Type 0) → List Event → Type 0
AndClients n Own lines = (own clients : List Event) × (lines ≡ own ++ clients) × Own own × All (IsOfClient n) clients

-- each connection of a node is told as the one that it is, by its session and by its producer, and is open
abbrev pub IsOwnIf : ℕ → ℕ → Option PlainClient → Type 0
IsOwnIf n c None = Unit {0}
IsOwnIf n c (Some client) = (client.session.who.node ≡ n) × (client.session.who.client ≡ c) × (client.producer.desk.node ≡ n) × (client.producer.desk.stream ≡ name.Client n c) × (client.session.closed ≡ false)

abbrev pub AreOwnIf : ℕ → Option PlainNode → Type 0
AreOwnIf n None = Unit {0}
AreOwnIf n (Some node) = (c : ℕ) → IsOwnIf n c (node.clients c)

-- where a line is answered `ok`, its own lines end so
abbrev pub IsToldAs : (List Event → Type 0) → Verb → Type 0
IsToldAs Tail line = (w : PlainWorld) (number : ℕ) → (verb_step w number line).1.answer ≡ answer.Ok → EndsWith Tail (verb_step w number line).1.events

-- the same at the node n, whose connections are told as its own, with what its clients are told
abbrev pub IsToldAt : ℕ → (List Event → Type 0) → Verb → Type 0
IsToldAt n Own line = (w : PlainWorld) (number : ℕ) → AreOwnIf n (w.nodes n) → (verb_step w number line).1.answer ≡ answer.Ok → EndsWith (AndClients n Own) (verb_step w number line).1.events

-- a promotion that is answered `ok` is told as its branch, its role and what it lets the vBucket commit, another change of role as the role, and a log as its line; what the node's clients are told with a change of role comes behind it
pub record TurnsAreTold (n v : ℕ) : Type 0 where
  pub promote : (uuid : ℕ) → IsToldAt n (IsPromotion n v uuid) (verb.AtVb n v (vb_verb.Promote uuid))
  pub follow : IsToldAt n (IsTurn n v role.Replica) (verb.AtVb n v vb_verb.Follow)
  pub dead : IsToldAt n (IsTurn n v role.Dead) (verb.AtVb n v vb_verb.Dead)
  pub log : IsToldAs (IsLogged n v) (verb.AtVb n v vb_verb.Log)
