-- which connections of clients are open, by the lines of a transcript: one opens with `client`, and it is over with `hang`, and where a line tells that it closed
use Rattle.std.specs.Prelude.{◌≡◌, ℕ, Bool, true, false, List, [], ◌∷◌}
use Rattle.script_text.specs.declared.verb.ClientVerb.{ClientVerb}
use Rattle.script_text.specs.declared.verb.ClientVerb.TheVariants as client_verb
use Rattle.script_text.specs.declared.verb.Verb.{Verb}
use Rattle.script_text.specs.declared.verb.Verb.TheVariants as verb
use Rattle.vb_events.specs.declared.event.Answer.{Answer}
use Rattle.vb_events.specs.declared.event.Answer.TheVariants as answer
use Rattle.vb_events.specs.declared.event.Cause.TheVariants as cause
use Rattle.vb_events.specs.declared.event.Event.{Event}
use Rattle.vb_events.specs.declared.event.Event.TheVariants as event
use Rattle.transcript_law.specs.LinesTold.{Conns, with_at}
use Rattle.transcript_law.specs.Pulls.{PutsAsTold}

-- the open ones with one more line
abbrev pub conns_line : Conns → Event → Conns
conns_line conns (event.Closed n c) = with_at conns n c false
conns_line conns other = conns

-- and with more lines
abbrev pub conns_lines : Conns → List Event → Conns
conns_lines conns [] = conns
conns_lines conns (line ∷ lines) = conns_lines (conns_line conns line) lines

-- what a line of the script does to them, behind the lines of its group
abbrev pub conns_verb : Conns → Verb → Answer → Conns
conns_verb conns (verb.AtClient n c client_verb.Open) answer.Ok = with_at conns n c true
conns_verb conns (verb.AtClient n c client_verb.Hang) answer.Ok = with_at conns n c false
conns_verb conns other said = conns

-- a node has none
abbrev pub AllClosed : Conns → ℕ → Type 0
AllClosed conns n = (c : ℕ) → conns n c ≡ false

-- what a line says of them, in front of those behind it: one is answered, by what else rules answers, and told closed, by what else rules that, where it is open; and of a node that stopped each is told closed behind that. Any other line is ruled by what else was read alone
abbrev pub Heard : Conns → Event → List Event → Type 0 → Type 0
Heard conns (event.Reply n c bytes) behind ruled = (conns n c ≡ true) × ruled
Heard conns (event.Closed n c) behind ruled = (conns n c ≡ true) × ruled
Heard conns (event.NodeStopped n) behind ruled = ruled × AllClosed (conns_lines conns behind) n
Heard conns other behind ruled = ruled

-- a line of an open connection, or of one that is not: it opens where it is not open, and is refused as open where it is; where the node is not there, or down, it is not open
abbrev pub IsOpened : Bool → Answer → Type 0
IsOpened opened answer.Ok = opened ≡ false
IsOpened opened (answer.Number n) = ⊥
IsOpened opened (answer.Pulled n said) = ⊥
IsOpened opened (answer.No cause.LinkOpen) = opened ≡ true
IsOpened opened (answer.No cause.UnknownNode) = opened ≡ false
IsOpened opened (answer.No cause.NodeDown) = opened ≡ false
IsOpened opened (answer.No why) = ⊥

-- a line over it is carried out exactly where it is open; where it is not, it is refused as closed, or because its node is not there, or down
abbrev pub IsReached : Bool → Answer → Type 0
IsReached opened answer.Ok = opened ≡ true
IsReached opened (answer.Number n) = ⊥
IsReached opened (answer.Pulled n said) = ⊥
IsReached opened (answer.No cause.LinkClosed) = opened ≡ false
IsReached opened (answer.No cause.UnknownNode) = opened ≡ false
IsReached opened (answer.No cause.NodeDown) = opened ≡ false
IsReached opened (answer.No why) = ⊥

-- so is a pull, which puts frames of streams as the lines of its group tell
abbrev pub IsPulled : Bool → ℕ → List Event → Answer → Type 0
IsPulled opened wanted lines answer.Ok = ⊥
IsPulled opened wanted lines (answer.Number n) = ⊥
IsPulled opened wanted lines (answer.Pulled n said) = (opened ≡ true) × PutsAsTold wanted lines n said
IsPulled opened wanted lines (answer.No cause.LinkClosed) = opened ≡ false
IsPulled opened wanted lines (answer.No cause.UnknownNode) = opened ≡ false
IsPulled opened wanted lines (answer.No cause.NodeDown) = opened ≡ false
IsPulled opened wanted lines (answer.No why) = ⊥

-- each line of a client, by the lines of its group
abbrev pub ClientAnswer : Bool → ClientVerb → List Event → Answer → Type 0
ClientAnswer opened client_verb.Open lines said = IsOpened opened said
ClientAnswer opened (client_verb.Bytes bytes) lines said = IsReached opened said
ClientAnswer opened (client_verb.Pull wanted) lines said = IsPulled opened wanted lines said
ClientAnswer opened client_verb.Hang lines said = IsReached opened said

-- a node that crashed has none left behind the lines that tell so
abbrev pub IsCrashed : Conns → ℕ → Answer → Type 0
IsCrashed conns n answer.Ok = AllClosed conns n
IsCrashed conns n (answer.Number count) = ⊥
IsCrashed conns n (answer.Pulled count said) = ⊥
IsCrashed conns n (answer.No why) = Unit {0}
