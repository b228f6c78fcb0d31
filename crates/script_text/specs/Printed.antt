-- lines and causes of a transcript in letters, no two numbers of a line alike
use Rattle.std.specs.Prelude.{◌≡◌, [], Some, None, codes}
use Rattle.vb_events.specs.declared.event.Cause.{Cause}
use Rattle.vb_events.specs.declared.event.Cause.TheVariants as cause
use Rattle.vb_events.specs.declared.event.Event.TheVariants as event
use Rattle.vb_events.specs.declared.event.ItemAct.TheVariants as sent
use Rattle.vb_events.specs.declared.event.StreamName.TheVariants as stream
use Rattle.vb_types.specs.declared.role.Role.TheVariants as role
use Rattle.script_text.specs.Transcript.{cause_text, event_text}
use Rattle.script_text.specs.Wordings.{IsWordOf}

-- the causes of every day
pub record CausesInLetters : Type 0 where
  pub unknown_node : IsWordOf Cause cause_text cause.UnknownNode (codes "unknown-node")
  pub node_exists : IsWordOf Cause cause_text cause.NodeExists (codes "node-exists")
  pub unknown_vb : IsWordOf Cause cause_text cause.UnknownVb (codes "unknown-vb")
  pub vb_exists : IsWordOf Cause cause_text cause.VbExists (codes "vb-exists")
  pub limit : IsWordOf Cause cause_text cause.Limit (codes "limit")
  pub uuid_zero : IsWordOf Cause cause_text cause.UuidZero (codes "uuid-zero")
  pub uuid_used : IsWordOf Cause cause_text cause.UuidUsed (codes "uuid-used")
  pub wrong_role : IsWordOf Cause cause_text cause.WrongRole (codes "wrong-role")
  pub link_open : IsWordOf Cause cause_text cause.LinkOpen (codes "link-open")
  pub link_closed : IsWordOf Cause cause_text cause.LinkClosed (codes "link-closed")

-- the lines of branches, roles and vBuckets, and of streams
pub record LinesInLetters : Type 0 where
  pub branch : event_text (event.Branch 1 2 3 (Some 4) 5 6) ≡ codes "branch 1 2 3 4 5 6"
  pub first : event_text (event.Branch 1 2 3 None 5 6) ≡ codes "branch 1 2 3 - 5 6"
  pub roles : event_text (event.Role 1 2 role.Replica) ≡ codes "role 1 2 replica"
  pub shown : event_text (event.Shown 1 2 role.Dead 3 4 5 6 7 8) ≡ codes "shown 1 2 dead 3 4 5 6 7 8"
  pub document : event_text (event.Document [] (record { value = []; cas = 1; rev = 2; flags = 3; expiry = 4; datatype = 5 })) ≡ codes "doc - 1 2 3 4 5 -"
  pub range : event_text (event.Ranged 1 2 3 4) ≡ codes "range 1 2 3 4"
  pub rolled : event_text (event.Rolled 1 2 3 4) ≡ codes "rolled 1 2 3 4"
  pub marked : event_text (event.Marked (stream.Link 1) 2 3 4) ≡ codes "mark L1 2 3 4"
  pub item : event_text (event.Item (stream.Link 1) 2 sent.Remove []) ≡ codes "item L1 2 remove -"
  pub finished : event_text (event.Finished (stream.Link 1) 2) ≡ codes "fin L1 2"
  pub state_pending : event_text (event.Stated (stream.Link 1) role.Pending) ≡ codes "state L1 pending"
  pub state_active : event_text (event.Stated (stream.Link 4294967295) role.Active) ≡ codes "state L4294967295 active"
  pub closed : event_text (event.Closed 1 2) ≡ codes "closed 1 2"
