-- the state of the plain vBucket, and what every call may answer
use Rattle.std.specs.Prelude.{ℕ, ◌==◌, ◌&&◌, not, Bool, true, false, if◌then◌else◌, List, [], ◌∷◌, Option, Some, None, is_some}
use Rattle.std.specs.FinMap as finite
use Rattle.std.specs.List.{fold, list_any}
use Rattle.durability.specs.declared.waiting.Waiting.{Waiting}
use Rattle.durability.specs.Chains.{Members}
use Rattle.durability.specs.Outstanding.{no_acks}
use Rattle.vb_types.specs.Images.{Picture, nothing, applied}
use Rattle.vb_types.specs.declared.change.Pend.{Pend}
use Rattle.vb_types.specs.declared.doc.Doc.{Doc}
use Rattle.vb_types.specs.declared.change.Change.{Change}
use Rattle.vb_types.specs.declared.role.Role.{Role}
use Rattle.vb_types.specs.declared.role.Role.TheVariants as role
use Rattle.vb_types.specs.declared.role.LogEntry.{LogEntry}
use Rattle.vb_types.specs.declared.position.Position.{Position}
use Rattle.vb_types.specs.declared.status.Status.{Status}
use Rattle.vb_types.specs.declared.status.Status.TheVariants as status
use Rattle.vb_calls.specs.declared.calls.VbAnswer.{VbAnswer}
use Rattle.vb_calls.specs.declared.calls.VbAnswer.TheVariants as answer
use Rattle.vb_calls.specs.declared.calls.VbReply.{VbReply}
use Rattle.vb_calls.specs.declared.stream.Stream.{Stream}
use Rattle.vb_calls.specs.Spans.{Spans, no_spans}

-- a vBucket of a node: what stood before the changes that it has held, and these, the oldest first; its failover log, the newest entry first; the spans that its changes stand in, and the streams that it feeds; and whether no marker came since it last took a log over. The changes lie above `floor`; all up to `saved` is known to be written down, and all up to `flushed` was taken to be. Of durable writes it has the chain's other members, what each member acknowledged, and the prepares that are outstanding, by rising seqnos, while it is active
pub record Plain : Type 0 where
  pub node : ℕ
  pub role : Role
  pub base : Picture
  pub held : List Change
  pub position : Position
  pub log : List LogEntry
  pub last_cas : ℕ
  pub spans : Spans
  pub streams : List Stream
  pub first : Bool
  pub floor : ℕ
  pub saved : ℕ
  pub flushed : ℕ
  pub others : Members
  pub acks : List ℕ
  pub waiting : List Waiting

-- takes writes
abbrev pub is_active : Role → Bool
is_active role.Active = true
is_active role.Replica = false
is_active role.Pending = false
is_active role.Dead = false

-- a complete snapshot that holds up to one seqno
abbrev pub complete_position : ℕ → Position
complete_position seq = record { ss = seq; se = seq; at = seq }

-- an active vBucket is on its own branch; any other has no history yet
abbrev pub first_log : Role → ℕ → List LogEntry
first_log role.Active uuid = record { uuid = uuid; seq = 0 } ∷ []
first_log role.Replica uuid = []
first_log role.Pending uuid = []
first_log role.Dead uuid = []

-- a vBucket that was just made
abbrev pub new_vb : ℕ → Role → ℕ → Plain
new_vb node role uuid = record {
  node = node;
  role = role;
  base = nothing;
  held = [];
  position = complete_position 0;
  log = first_log role uuid;
  last_cas = 0;
  spans = no_spans;
  streams = [];
  first = false;
  floor = 0;
  saved = 0;
  flushed = 0;
  others = [];
  acks = no_acks;
  waiting = [];
}

-- a vBucket that was written down takes writes again once it is promoted, not at once
abbrev pub loaded_role : Role → Role
loaded_role role.Active = role.Dead
loaded_role role.Replica = role.Replica
loaded_role role.Pending = role.Pending
loaded_role role.Dead = role.Dead

-- a vBucket of this role, with this log, at this position, whose last CAS and image were these
abbrev pub loaded_vb : ℕ → Role → List LogEntry → Position → ℕ → Picture → Plain
loaded_vb node role log position cas image = record {
  node = node;
  role = loaded_role role;
  base = image;
  held = [];
  position = position;
  log = log;
  last_cas = cas;
  spans = no_spans;
  streams = [];
  first = false;
  floor = position.at;
  saved = position.at;
  flushed = position.at;
  others = [];
  acks = no_acks;
  waiting = [];
}

-- the newest branch of a failover log, or 0
abbrev pub newest_branch : List LogEntry → ℕ
newest_branch [] = 0
newest_branch (entry ∷ older) = entry.uuid

-- its documents and the prepares that wait: what the changes leave of what stood before them
abbrev pub image_in : Plain → Picture
image_in plain = fold applied plain.base plain.held

-- the document of a key
abbrev pub doc_at : Plain → List ℕ → Option Doc
doc_at plain key = finite.get (image_in plain).docs key

-- the prepare of a key that waits
abbrev pub pending_of : Plain → List ℕ → Option Pend
pending_of plain key = finite.get (image_in plain).pending key

-- an answer to a call that makes no change
abbrev pub quiet_reply : VbAnswer → VbReply
quiet_reply answer = record { answer = answer; resolved = []; ended = []; branch = 0; changes = [] }

-- a status, for a call that is refused
abbrev pub refusal_reply : Status → VbReply
refusal_reply status = quiet_reply (answer.Status status)

-- the document that was asked for
abbrev pub doc_reply : Option Doc → VbReply
doc_reply None = refusal_reply status.KeyEnoent
doc_reply (Some doc) = quiet_reply (answer.Found doc)

-- a prepare that waits is to be committed again, as a former active node left it: it has no deadline
abbrev pub is_left : List Waiting → Option Pend → Bool
is_left waiting None = false
is_left waiting (Some p) = list_any (λ w. w.seq == p.seq && not (is_some w.deadline)) waiting

-- a document is shown, unless its key's prepare is to be committed again
abbrev pub get_reply : Bool → Option Doc → VbReply
get_reply true doc = refusal_reply status.SyncWriteReCommitInProgress
get_reply false doc = doc_reply doc

-- a get is answered where writes are taken
abbrev pub get_row : Plain → List ℕ → VbReply
get_row plain key = if is_active plain.role then get_reply (is_left plain.waiting (pending_of plain key)) (doc_at plain key) else refusal_reply status.NotMyVbucket

-- the failover log
abbrev pub log_row : Plain → VbReply
log_row plain = quiet_reply (answer.Logged plain.log)

-- the role, the newest branch, the position and all documents
abbrev pub show_row : Plain → VbReply
show_row plain = quiet_reply (answer.Shown plain.role (newest_branch plain.log) plain.position.ss plain.position.se plain.position.at (image_in plain))
