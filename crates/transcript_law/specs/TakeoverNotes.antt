-- what a whole group tells of links that may take a vBucket over
use Rattle.std.specs.Prelude.{ℕ, ◌==◌, ◌&&◌, ◌||◌, not, if◌then◌else◌, Bool, false, List, Option, Some, None}
use Rattle.std.specs.List.{list_any}
use Rattle.script_text.specs.declared.verb.LinkVerb.TheVariants as link_verb
use Rattle.script_text.specs.declared.verb.Verb.{Verb}
use Rattle.script_text.specs.declared.verb.Verb.TheVariants as verb
use Rattle.vb_events.specs.declared.event.Answer.{Answer}
use Rattle.vb_events.specs.declared.event.Answer.TheVariants as answer
use Rattle.vb_events.specs.declared.event.Event.{Event}
use Rattle.vb_events.specs.declared.event.Event.TheVariants as event
use Rattle.vb_events.specs.declared.event.StreamName.TheVariants as name
use Rattle.vb_types.specs.declared.stream.AskAnswer.TheVariants as ask_answer
use Rattle.transcript_law.specs.LinesTold.{Chronicle, Dial, Granted, TakeoverKnown, dialed_for, with_moved, with_role, with_state}

-- ---- lines by what they tell of a link

-- a vBucket got a role
abbrev pub is_role_of : ℕ → ℕ → Event → Bool
is_role_of n v (event.Role m u role) = m == n && u == v
is_role_of n v other = false

-- a state was put on the link's stream
abbrev pub is_state_of : ℕ → Event → Bool
is_state_of l (event.Stated (name.Link k) role) = k == l
is_state_of l other = false

-- its request was let continue
abbrev pub is_grant_of : ℕ → Event → Bool
is_grant_of l (event.Asked (name.Link k) n v ask high log ask_answer.Go) = k == l
is_grant_of l other = false

-- ---- its ends and its stream

-- the vBucket that feeds it got a role, and the one that it was dialed for
abbrev pub turns_feeder : Option Dial → List Event → Bool
turns_feeder None lines = false
turns_feeder (Some dial) lines = list_any (is_role_of dial.producer dial.vb) lines

abbrev pub turns_consumer : Option Dial → List Event → Bool
turns_consumer None lines = false
turns_consumer (Some dial) lines = list_any (is_role_of dial.node dial.vb) lines

-- the stream of a link that was dialed so, if it has one
abbrev pub stream_over : Chronicle → ℕ → Option Dial → Option Granted
stream_over chronicle l None = None
stream_over chronicle l (Some dial) = chronicle.stream_of (name.Link l) dial.vb

-- its end was put
abbrev pub is_ended : Option Granted → Bool
is_ended None = false
is_ended (Some g) = g.over

-- the line of the script puts frames on the link
abbrev pub is_pump_of : ℕ → Verb → Bool
is_pump_of l (verb.AtLink k (link_verb.Pump wanted)) = k == l
is_pump_of l other = false

-- ---- behind a group

-- whether the vBucket that feeds the link got a role otherwise, where the stream goes on. One that is granted begins anew; and by a `pump` it is given up over this link alone
abbrev pub turned_after : Chronicle → Verb → List Event → ℕ → Bool → Bool
turned_after read asked lines l before =
    if list_any (is_grant_of l) lines then false
    else if is_ended (stream_over read l (read.dial_of l)) then before
    else before || (turns_feeder (read.dial_of l) lines && not (is_pump_of l asked))

-- what is known of its last state, and what was moved up since. A link that is dialed begins anew
abbrev pub obeyed_after : Option Dial → Verb → List Event → Answer → ℕ → TakeoverKnown → TakeoverKnown
obeyed_after dial (verb.AtLink k (link_verb.Pump wanted)) lines said l t = if k == l && list_any (is_state_of l) lines then with_state t else t
obeyed_after dial (verb.AtLink k (link_verb.Down wanted)) lines said l t = if k == l && turns_consumer dial lines then with_role t else t
obeyed_after dial (verb.AtLink k (link_verb.Up wanted)) lines (answer.Number n) l t = if k == l then with_moved wanted n t else t
obeyed_after dial (verb.Link k m n v buffer takeover) lines answer.Ok l t = if k == l then dialed_for takeover else t
obeyed_after dial other lines said l t = t

-- both, by what is read with the group
abbrev pub takeover_after : Chronicle → Verb → List Event → Answer → ℕ → TakeoverKnown → TakeoverKnown
takeover_after read asked lines said l t =
    let known = obeyed_after (read.dial_of l) asked lines said l t in
    record known { turned = turned_after read asked lines l known.turned }

abbrev pub takeovers_after : Chronicle → Verb → List Event → Answer → ℕ → TakeoverKnown
takeovers_after read asked lines said = λ l. takeover_after read asked lines said l (read.takeover_of l)
