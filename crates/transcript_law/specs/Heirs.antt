-- which vBucket writes on a branch, and how one comes to: it makes the branch, or takes it over from the vBucket that fed it
use Rattle.std.specs.Prelude.{◌≡◌, ◌≢◌, ◌⊎◌, ℕ, ◌≤◌, true, false, List, [], Some, None}
use Rattle.vb_events.specs.declared.event.StreamName.TheVariants as name
use Rattle.vb_types.specs.declared.change.Change.{Change}
use Rattle.vb_types.specs.declared.role.Role.{Role}
use Rattle.mcbp_frame.specs.declared.frame.TheConstants.{HEADER_LEN}
use Rattle.vb_types.specs.declared.role.Role.TheVariants.{Active, Dead, Pending, Replica}
use Rattle.branch_model.specs.Histories.{last_seq}
use Rattle.branch_model.specs.Trees.{hist}
use Rattle.transcript_law.specs.LinesTold.{Answered, Chronicle, Dial, Granted, alone, stream_branch}
use Rattle.transcript_law.specs.StreamLaws.{IsWholeIf}

-- the vBucket v of the node n is the branch's writer, and is on that branch
pub record IsWriter (chronicle : Chronicle) (n v uuid : ℕ) : Type 0 where
  pub made_or_took : chronicle.writer_of uuid ≡ Some (n, v)
  pub on_branch : chronicle.branch_at n v ≡ Some uuid

-- the link l was dialed for the vBucket v of the node n, and has this stream, of the branch that the vBucket is on
abbrev pub IsFed : Chronicle → ℕ → ℕ → ℕ → Granted → Type 0
IsFed chronicle l n v g = (m : ℕ) × (chronicle.dial_of l ≡ Some (record { producer = m; node = n; vb = v })) × (chronicle.stream_of (name.Link l) v ≡ Some g) × (chronicle.branch_at n v ≡ Some (stream_branch g))

-- the history of a stream's branch
abbrev pub stream_history : Chronicle → Granted → List Change
stream_history chronicle g = hist chronicle.tree (stream_branch g)

-- a vBucket that made the branch that it is on: its node alone is the chain, and nothing was counted yet, at the end of what it holds
pub record IsRisen (chronicle : Chronicle) (n v : ℕ) : Type 0 where
  pub uuid : ℕ
  pub writer : IsWriter chronicle n v uuid
  pub anew : chronicle.counts_at n v ≡ alone (last_seq 0 (chronicle.held n v))

-- the link l was dialed so, for a takeover, and has this stream, which goes on
pub record TakesOn (chronicle : Chronicle) (l : ℕ) (dial : Dial) (g : Granted) : Type 0 where
  pub dialed : chronicle.dial_of l ≡ Some dial
  pub takeover : (chronicle.takeover_of l).dialed ≡ true
  pub stream : chronicle.stream_of (name.Link l) dial.vb ≡ Some g
  pub goes_on : g.over ≡ false

-- a vBucket is fed by a stream for a takeover, whose last state that was put is this one; and it took all that was put on it
pub record IsStated (chronicle : Chronicle) (n v : ℕ) (role : Role) : Type 0 where
  pub link : ℕ
  pub stream : Granted
  pub fed : IsFed chronicle link n v stream
  pub takeover : (chronicle.takeover_of link).dialed ≡ true
  pub stated : chronicle.stated_of link ≡ Some role
  pub marks : stream.marks ≡ []
  pub items : stream.coming ≡ []

-- a vBucket takes the branch over that it follows: it is pending, by its stream its branch was given up for it, nobody writes on that, and it has all of it
pub record IsHeir (chronicle : Chronicle) (n v : ℕ) : Type 0 where
  pub pending : chronicle.role_at n v ≡ Some (Some Pending)
  pub given : IsStated chronicle n v Active
  pub free : chronicle.writer_of (stream_branch given.stream) ≡ None
  pub complete : (ss se : ℕ) → chronicle.snap_at n v ≡ Some (ss, se) → last_seq 0 (chronicle.held n v) ≡ se
  pub whole : last_seq 0 (chronicle.held n v) ≡ last_seq 0 (stream_history chronicle given.stream)

-- a vBucket is about to take its branch over: it is a replica, by its stream it is to be given the branch
pub record IsTaking (chronicle : Chronicle) (n v : ℕ) : Type 0 where
  pub replica : chronicle.role_at n v ≡ Some (Some Replica)
  pub given : IsStated chronicle n v Pending

-- a vBucket gets a role that it was not known to have; it becomes active on a branch that it made, or as the heir of the one that it follows; and pending as it is about to take that over
pub record LawfulRole (chronicle : Chronicle) (n v : ℕ) (role : Role) : Type 0 where
  pub another : chronicle.role_at n v ≢ Some (Some role)
  pub anew : role ≡ Active → IsRisen chronicle n v ⊎ IsHeir chronicle n v
  pub pending : role ≡ Pending → IsTaking chronicle n v

-- ---- what the vBucket that feeds a link came to

-- it has had no other role since the link's stream was granted, but for being given up over the link
abbrev pub IsSteady : Chronicle → ℕ → Type 0
IsSteady chronicle l = (chronicle.takeover_of l).turned ≡ false

-- nothing was stated, and it is active
pub record IsKept (chronicle : Chronicle) (l : ℕ) (dial : Dial) : Type 0 where
  pub steady : IsSteady chronicle l
  pub unstated : chronicle.stated_of l ≡ None
  pub active : chronicle.role_at dial.producer dial.vb ≡ Some (Some Active)

-- pending was stated, and it is active yet
pub record IsOffered (chronicle : Chronicle) (l : ℕ) (dial : Dial) : Type 0 where
  pub steady : IsSteady chronicle l
  pub stated : chronicle.stated_of l ≡ Some Pending
  pub active : chronicle.role_at dial.producer dial.vb ≡ Some (Some Active)

-- pending was stated, and it was given up over the link, whose consumer's vBucket is pending
pub record IsYielded (chronicle : Chronicle) (l : ℕ) (dial : Dial) : Type 0 where
  pub steady : IsSteady chronicle l
  pub stated : chronicle.stated_of l ≡ Some Pending
  pub dead : chronicle.role_at dial.producer dial.vb ≡ Some (Some Dead)
  pub pending : chronicle.role_at dial.node dial.vb ≡ Some (Some Pending)

-- and active was stated as well
pub record IsHanded (chronicle : Chronicle) (l : ℕ) (dial : Dial) : Type 0 where
  pub steady : IsSteady chronicle l
  pub stated : chronicle.stated_of l ≡ Some Active
  pub dead : chronicle.role_at dial.producer dial.vb ≡ Some (Some Dead)

-- ---- answers to states

-- the answer to the state that was put last on the link l can have come: the consumer's vBucket has this role and took all that was put, and bytes enough for an answer were moved up since
pub record MayBeAnswered (chronicle : Chronicle) (l : ℕ) (dial : Dial) (g : Granted) (role : Role) : Type 0 where
  pub has : chronicle.role_at dial.node dial.vb ≡ Some (Some role)
  pub marks : g.marks ≡ []
  pub items : g.coming ≡ []
  pub moved : HEADER_LEN ≤ (chronicle.takeover_of l).moved

-- it is known to have come: the consumer told of the role, and all was moved up since
abbrev pub HasAnswer : Chronicle → ℕ → Type 0
HasAnswer chronicle l = (chronicle.takeover_of l).obeyed ≡ Answered

-- ---- states

-- the next state on the link l, behind what was stated before it: pending comes first, of an active vBucket, and active once that was given up, to one that is pending. Nothing else is stated
abbrev pub IsNextState : Chronicle → ℕ → Dial → Role → Type 0
IsNextState chronicle l dial Pending = IsKept chronicle l dial
IsNextState chronicle l dial Active = IsYielded chronicle l dial
IsNextState chronicle l dial Replica = ⊥
IsNextState chronicle l dial Dead = ⊥

-- a state on the link l stands in its order on a takeover's stream, behind a whole snapshot that ends at the last seqno of the branch, of which the vBucket that feeds the link is the writer
pub record LawfulState (chronicle : Chronicle) (l : ℕ) (role : Role) : Type 0 where
  pub dial : Dial
  pub stream : Granted
  pub takes_on : TakesOn chronicle l dial stream
  pub next : IsNextState chronicle l dial role
  pub writer : IsWriter chronicle dial.producer dial.vb (stream_branch stream)
  pub whole : IsWholeIf stream.last
  pub all : stream.place ≡ last_seq 0 (stream_history chronicle stream)
