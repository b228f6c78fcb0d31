-- groups in which a vBucket goes from one node to another; and what is told where there is none
use Rattle.std.specs.Prelude.{◌≡◌, ◌⊎◌, ℕ, ◌==◌, ◌&&◌, ◌||◌, Bool, true, false, List, [], ◌∷◌, ◌++◌, Option, Some, None}
use Rattle.script_text.specs.declared.verb.LinkVerb.{LinkVerb}
use Rattle.script_text.specs.declared.verb.LinkVerb.TheVariants as link_verb
use Rattle.script_text.specs.declared.verb.ScriptLine.{ScriptLine}
use Rattle.script_text.specs.declared.verb.Verb.{Verb}
use Rattle.script_text.specs.declared.verb.Verb.TheVariants as verb
use Rattle.vb_events.specs.declared.event.EndReason.TheVariants as reason
use Rattle.vb_events.specs.declared.event.Event.{Event}
use Rattle.vb_events.specs.declared.event.Event.TheVariants as event
use Rattle.vb_types.specs.declared.change.Act.{Act}
use Rattle.vb_types.specs.declared.change.Act.TheVariants as act
use Rattle.vb_types.specs.declared.role.Role.TheVariants as role
use Rattle.transcript_law.specs.Heirs.{IsHeir, IsOffered, IsTaking, IsWriter, MayBeAnswered, TakesOn}
use Rattle.transcript_law.specs.LinesTold.{Chronicle, Dial, Granted, after_lines, stream_branch}
use Rattle.transcript_law.specs.Tellings.{TellsOf, are_all, are_told, is_of_clients, is_of_disk, is_of_down, is_of_end, is_of_pump}

-- ---- in the group of a `pump`

-- it begins as the active vBucket that feeds the link l is given up, which writes on the stream's branch, and of which pending was stated and can have been answered; behind that stand what clients of the node are told of it, and what comes of the frames that they sent behind; and then frames of the link's stream
pub record GivesUp (chronicle : Chronicle) (l : ℕ) (dial : Dial) (lines : List Event) : Type 0 where
  pub told : List Event
  pub frames : List Event
  pub together : lines ≡ event.Role dial.producer dial.vb role.Dead ∷ (told ++ frames)
  pub stream : Granted
  pub takes_on : TakesOn chronicle l dial stream
  pub writer : IsWriter chronicle dial.producer dial.vb (stream_branch stream)
  pub offered : IsOffered chronicle l dial
  pub answered : MayBeAnswered chronicle l dial stream role.Pending
  pub clients : are_all (is_of_clients dial.producer) told ≡ true
  pub put : are_all (is_of_pump l) frames ≡ true

-- ---- in the group of a `down`

-- the link l is over, and was not cut
abbrev pub is_of_over : ℕ → Event → Bool
is_of_over l (event.Ended k reason.Cut) = false
is_of_over l (event.Ended k why) = k == l
is_of_over l other = false

-- behind what it took of the stream of the link l, the vBucket v of the node n is about to take its branch over; and behind that nothing is taken
pub record IsAboutTo (chronicle : Chronicle) (l n v : ℕ) (lines : List Event) : Type 0 where
  pub front : List Event
  pub behind : List Event
  pub together : lines ≡ front ++ event.Role n v role.Pending ∷ behind
  pub taken : are_all (is_of_down l n v) front ≡ true
  pub taking : IsTaking (after_lines chronicle front) n v
  pub by_link : taking.given.link ≡ l
  pub over : are_all (is_of_over l) behind ≡ true

-- a commit
abbrev pub is_commit : Act → Bool
is_commit (act.Commit prepared doc deleted) = true
is_commit other = false

-- one that the vBucket v of the node n makes
abbrev pub is_own_commit : ℕ → ℕ → Event → Bool
is_own_commit n v (event.Changed m u uuid change) = is_commit change.act && (m == n && u == v)
is_own_commit n v other = false

-- behind what it took it takes its branch over; behind that stand its commits that need nobody else; and then the end of the link, or what befell a disk of the node
pub record TakesOver (chronicle : Chronicle) (l n v : ℕ) (lines : List Event) : Type 0 where
  pub front : List Event
  pub commits : List Event
  pub behind : List Event
  pub together : lines ≡ front ++ event.Role n v role.Active ∷ (commits ++ behind)
  pub taken : are_all (is_of_down l n v) front ≡ true
  pub heir : IsHeir (after_lines chronicle front) n v
  pub by_link : heir.given.link ≡ l
  pub own : are_all (is_own_commit n v) commits ≡ true
  pub over : are_told (λ line. is_of_over l line || is_of_disk n line) (is_of_end chronicle) behind ≡ true

-- ---- by the line of the script

-- of the vBucket that feeds a link a `pump` may tell so, and of the one that the link was dialed for a `down`
abbrev pub MovesAt : Chronicle → Option Dial → ℕ → LinkVerb → List Event → Type 0
MovesAt chronicle None l what lines = ⊥
MovesAt chronicle (Some dial) l (link_verb.Up wanted) lines = ⊥
MovesAt chronicle (Some dial) l (link_verb.Down wanted) lines = IsAboutTo chronicle l dial.node dial.vb lines ⊎ TakesOver chronicle l dial.node dial.vb lines
MovesAt chronicle (Some dial) l (link_verb.Pump frames) lines = GivesUp chronicle l dial lines
MovesAt chronicle (Some dial) l link_verb.Drop lines = ⊥
MovesAt chronicle (Some dial) l link_verb.Cut lines = ⊥

-- no other line of a script hands a vBucket over
abbrev pub TellsMove : Chronicle → Verb → List Event → Type 0
TellsMove chronicle (verb.AtLink l what) lines = MovesAt chronicle (chronicle.dial_of l) l what lines
TellsMove chronicle other lines = ⊥

-- a group tells of nothing else than its line may, or of a vBucket that is handed over
abbrev pub TellsOnly : Chronicle → Verb → List Event → Type 0
TellsOnly chronicle asked lines = TellsOf chronicle asked lines ⊎ TellsMove chronicle asked lines

-- ---- where there is none

-- no link is dialed for a takeover
abbrev pub NoneDialed : Chronicle → Type 0
NoneDialed chronicle = (l : ℕ) → (chronicle.takeover_of l).dialed ≡ false

-- a line of a script dials none for one, and no line of a script does
abbrev pub FollowsAlone : Verb → Type 0
FollowsAlone (verb.Link l m n v buffer takeover) = takeover ≡ false
FollowsAlone other = Unit {0}

abbrev pub AllFollow : List ScriptLine → Type 0
AllFollow [] = Unit {0}
AllFollow (line ∷ lines) = FollowsAlone line.verb × AllFollow lines

-- nor is the one that the line of the script names, where it names one
abbrev pub IsPlainFor : Chronicle → Verb → Type 0
IsPlainFor chronicle (verb.AtLink l what) = (chronicle.takeover_of l).dialed ≡ false
IsPlainFor chronicle other = Unit {0}

-- this line makes a branch of the vBucket v of the node n
abbrev pub makes_at : ℕ → ℕ → Option Event → Bool
makes_at n v (Some (event.Branch m u uuid parent fork high)) = m == n && u == v
makes_at n v other = false

-- each vBucket that becomes active does so directly behind the line of a branch that it makes
abbrev pub all_made : Option Event → List Event → Bool
all_made before [] = true
all_made before (event.Role n v role.Active ∷ lines) = makes_at n v before && all_made (Some (event.Role n v role.Active)) lines
all_made before (line ∷ lines) = all_made (Some line) lines
