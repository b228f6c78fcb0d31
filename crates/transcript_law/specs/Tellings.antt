-- of what each line of a script may tell at all, by what was told before it
use Rattle.std.specs.Prelude.{◌≡◌, ℕ, ◌==◌, ◌&&◌, ◌||◌, Bool, true, false, List, [], ◌∷◌, Option, Some, None}
use Rattle.script_text.specs.declared.verb.Verb.{Verb}
use Rattle.script_text.specs.declared.verb.Verb.TheVariants as verb
use Rattle.script_text.specs.declared.verb.VbVerb.{VbVerb}
use Rattle.script_text.specs.declared.verb.VbVerb.TheVariants as vb_verb
use Rattle.script_text.specs.declared.verb.NodeVerb.{NodeVerb}
use Rattle.script_text.specs.declared.verb.NodeVerb.TheVariants as node_verb
use Rattle.script_text.specs.declared.verb.LinkVerb.{LinkVerb}
use Rattle.script_text.specs.declared.verb.LinkVerb.TheVariants as link_verb
use Rattle.script_text.specs.declared.verb.ClientVerb.{ClientVerb}
use Rattle.script_text.specs.declared.verb.ClientVerb.TheVariants as client_verb
use Rattle.vb_events.specs.declared.event.EndReason.TheVariants as reason
use Rattle.vb_events.specs.declared.event.Event.{Event}
use Rattle.vb_events.specs.declared.event.Event.TheVariants as event
use Rattle.vb_events.specs.declared.event.StreamName.TheVariants as name
use Rattle.transcript_law.specs.LinesTold.{Chronicle, Dial, is_dial_at, is_dial_for}

-- ---- lines by what they tell of

-- nothing
abbrev pub is_none : Event → Bool
is_none line = false

-- clients of the node n: a change that they make, a request of one for a stream, an answer to one, or one that is let go
abbrev pub is_of_clients : ℕ → Event → Bool
is_of_clients n (event.Changed m v uuid change) = m == n
is_of_clients n (event.Asked (name.Client m c) k v ask high log said) = m == n
is_of_clients n (event.Reply m c bytes) = m == n
is_of_clients n (event.Closed m c) = m == n
is_of_clients n other = false

-- the client c of the node n: the same, of no other connection
abbrev pub is_of_client : ℕ → ℕ → Event → Bool
is_of_client n c (event.Changed m v uuid change) = m == n
is_of_client n c (event.Asked (name.Client m d) k v ask high log said) = m == n && d == c
is_of_client n c (event.Reply m d bytes) = m == n && d == c
is_of_client n c (event.Closed m d) = m == n && d == c
is_of_client n c other = false

-- frames of a stream of the client c of the node n, and what it is sent
abbrev pub is_of_pull : ℕ → ℕ → Event → Bool
is_of_pull n c (event.Marked (name.Client m d) start end flags) = m == n && d == c
is_of_pull n c (event.Item (name.Client m d) seq act key) = m == n && d == c
is_of_pull n c (event.Finished (name.Client m d) reason) = m == n && d == c
is_of_pull n c (event.Stated (name.Client m d) role) = m == n && d == c
is_of_pull n c (event.Reply m d bytes) = m == n && d == c
is_of_pull n c other = false

-- what ends with the node n: a link that has an end there is cut, and a client of it is let go
abbrev pub is_of_end : Chronicle → ℕ → Event → Bool
is_of_end chronicle n (event.Ended l reason.Cut) = is_dial_at n (chronicle.dial_of l)
is_of_end chronicle n (event.Closed m c) = m == n
is_of_end chronicle n other = false

-- a disk of the node n: a call failed, or the node stopped inside one
abbrev pub is_of_disk : ℕ → Event → Bool
is_of_disk n (event.CallFailed m) = m == n
is_of_disk n (event.NodeStopped m) = m == n
is_of_disk n other = false

-- the vBucket v of the node n in another role, or on a new branch
abbrev pub is_of_role : ℕ → ℕ → Event → Bool
is_of_role n v (event.Branch m u uuid parent fork high) = m == n && u == v
is_of_role n v (event.Role m u role) = m == n && u == v
is_of_role n v other = false

-- the link that feeds the vBucket v of the node n is cut
abbrev pub is_of_feed : Chronicle → ℕ → ℕ → Event → Bool
is_of_feed chronicle n v (event.Ended l reason.Cut) = is_dial_for n v (chronicle.dial_of l)
is_of_feed chronicle n v other = false

-- a change of role: the link that fed the vBucket, the role, and what the node's clients are told then
abbrev pub is_of_turn : Chronicle → ℕ → ℕ → Event → Bool
is_of_turn chronicle n v line = is_of_role n v line || is_of_clients n line || is_of_feed chronicle n v line

-- a node that starts: its vBuckets' branches, and the changes that they make at once
abbrev pub is_of_start : ℕ → Event → Bool
is_of_start n (event.Branch m v uuid parent fork high) = m == n
is_of_start n (event.Changed m v uuid change) = m == n
is_of_start n (event.CallFailed m) = m == n
is_of_start n (event.NodeStopped m) = m == n
is_of_start n other = false

-- a batch of this vBucket, an acknowledgement of it, its numbers, and its log
abbrev pub is_of_batch : ℕ → ℕ → Event → Bool
is_of_batch n v (event.Batch m u ss se at count) = m == n && u == v
is_of_batch n v other = false

abbrev pub is_of_ack : ℕ → ℕ → Event → Bool
is_of_ack n v (event.Acknowledged stream m u seq saved) = m == n && u == v
is_of_ack n v other = false

abbrev pub is_of_stat : ℕ → ℕ → Event → Bool
is_of_stat n v (event.Stat m u windows items cursors saved high) = m == n && u == v
is_of_stat n v other = false

abbrev pub is_of_log : ℕ → ℕ → Event → Bool
is_of_log n v (event.Logged m u log) = m == n && u == v
is_of_log n v other = false

-- a document that is shown, or a prepare that waits
abbrev pub is_of_image : Event → Bool
is_of_image (event.Document key doc) = true
is_of_image (event.Prepared key seq level) = true
is_of_image other = false

-- this vBucket is shown
abbrev pub is_of_show : ℕ → ℕ → Event → Bool
is_of_show n v (event.Shown m u role uuid at ss se docs preps) = m == n && u == v
is_of_show n v other = false

-- the link l is cut
abbrev pub is_of_cut : ℕ → Event → Bool
is_of_cut l (event.Ended k reason.Cut) = k == l
is_of_cut l other = false

-- what comes up the link l: a request that is answered, or an acknowledgement that is counted
abbrev pub is_of_up : ℕ → Event → Bool
is_of_up l (event.Asked (name.Link k) n v ask high log said) = k == l
is_of_up l (event.Counted (name.Link k) n v member seq) = k == l
is_of_up l other = false

-- frames of its stream
abbrev pub is_of_pump : ℕ → Event → Bool
is_of_pump l (event.Marked (name.Link k) start end flags) = k == l
is_of_pump l (event.Item (name.Link k) seq act key) = k == l
is_of_pump l (event.Finished (name.Link k) reason) = k == l
is_of_pump l (event.Stated (name.Link k) role) = k == l
is_of_pump l other = false

-- what the vBucket v of the node n takes from it, and writes back; and its end, which is no cut
abbrev pub is_of_down : ℕ → ℕ → ℕ → Event → Bool
is_of_down l n v (event.Adopted m u log) = m == n && u == v
is_of_down l n v (event.Ranged m u ss se) = m == n && u == v
is_of_down l n v (event.Got m u (name.Link k) change) = k == l && (m == n && u == v)
is_of_down l n v (event.Rolled m u named to) = m == n && u == v
is_of_down l n v (event.Acknowledged (name.Link k) m u seq saved) = k == l && (m == n && u == v)
is_of_down l n v (event.Ended k reason.Cut) = false
is_of_down l n v (event.Ended k why) = k == l
is_of_down l n v other = false

-- ---- by the line of the script

abbrev pub at_node : Chronicle → ℕ → NodeVerb → Event → Bool
at_node chronicle n (node_verb.Crash out) line = is_of_end chronicle n line
at_node chronicle n (node_verb.Start uuids) line = is_of_start n line
at_node chronicle n other line = is_none line

abbrev pub at_vb : Chronicle → ℕ → ℕ → VbVerb → Event → Bool
at_vb chronicle n v (vb_verb.MakeActive uuid) line = is_of_role n v line || is_of_disk n line
at_vb chronicle n v vb_verb.MakeReplica line = is_of_role n v line || is_of_disk n line
at_vb chronicle n v (vb_verb.Chain others) line = is_of_clients n line
at_vb chronicle n v (vb_verb.Promote uuid) line = is_of_turn chronicle n v line || is_of_disk n line
at_vb chronicle n v vb_verb.Follow line = is_of_turn chronicle n v line || is_of_disk n line
at_vb chronicle n v vb_verb.Dead line = is_of_turn chronicle n v line || is_of_disk n line
at_vb chronicle n v vb_verb.Tick line = is_of_clients n line
at_vb chronicle n v vb_verb.Seal line = is_none line
at_vb chronicle n v vb_verb.Trim line = is_none line
at_vb chronicle n v vb_verb.Take line = is_of_batch n v line
at_vb chronicle n v vb_verb.Save line = is_of_disk n line
at_vb chronicle n v vb_verb.Done line = is_of_clients n line || is_of_ack n v line
at_vb chronicle n v vb_verb.Stat line = is_of_stat n v line
at_vb chronicle n v vb_verb.Log line = is_of_log n v line
at_vb chronicle n v vb_verb.Show line = is_of_show n v line || is_of_image line

abbrev pub at_client : ℕ → ℕ → ClientVerb → Event → Bool
at_client n c (client_verb.Bytes bytes) line = is_of_client n c line
at_client n c (client_verb.Pull wanted) line = is_of_pull n c line
at_client n c other line = is_none line

-- a link has the ends that it was dialed with: its producer's node and that node's clients, and the vBucket that it is for and its node's disk
abbrev pub at_link : Option Dial → ℕ → LinkVerb → Event → Bool
at_link None l what line = is_none line
at_link (Some dial) l (link_verb.Up wanted) line = is_of_up l line || is_of_clients dial.producer line
at_link (Some dial) l (link_verb.Down wanted) line = is_of_down l dial.node dial.vb line || is_of_disk dial.node line
at_link (Some dial) l (link_verb.Pump frames) line = is_of_pump l line
at_link (Some dial) l link_verb.Drop line = is_none line
at_link (Some dial) l link_verb.Cut line = is_of_cut l line

-- what a line may tell, up to where a node stops
abbrev pub may_tell : Chronicle → Verb → Event → Bool
may_tell chronicle (verb.Node n) line = is_none line
may_tell chronicle (verb.Link l m n v buffer takeover) line = is_none line
may_tell chronicle (verb.AtNode n what) line = at_node chronicle n what line
may_tell chronicle (verb.AtVb n v what) line = at_vb chronicle n v what line
may_tell chronicle (verb.AtClient n c what) line = at_client n c what line
may_tell chronicle (verb.AtLink l what) line = at_link (chronicle.dial_of l) l what line

-- so it is of each line
abbrev pub are_all : (Event → Bool) → List Event → Bool
are_all test [] = true
are_all test (line ∷ lines) = test line && are_all test lines

-- so it is of each line up to where a node stops, and behind that each tells what ends with it
abbrev pub are_told : (Event → Bool) → (ℕ → Event → Bool) → List Event → Bool
are_told may ends [] = true
are_told may ends (event.NodeStopped n ∷ lines) = may (event.NodeStopped n) && are_all (ends n) lines
are_told may ends (line ∷ lines) = may line && are_told may ends lines

-- a group tells of nothing else than its line may, by what was read before it
abbrev pub TellsOf : Chronicle → Verb → List Event → Type 0
TellsOf chronicle asked lines = are_told (may_tell chronicle asked) (is_of_end chronicle) lines ≡ true
