-- what each call of a node comes to, by its own clauses, over an access that tells its calls
use Rattle.std.specs.Prelude.{◌≡◌, ◌⊎◌, ℕ, Bool, List, Option, Some}
use Rattle.slab.specs.Slab.{get}
use Rattle.mcbp_frame.specs.declared.frame.Frame.{Frame}
use Rattle.vb_calls.specs.declared.calls.VbCall.{VbCall}
use Rattle.vb_calls.specs.declared.calls.VbReply.{VbReply}
use Rattle.vb_calls.specs.declared.calls.Resolved.{Resolved}
use Rattle.vb_calls.specs.Flushes.{wrote_of}
use Rattle.vb_calls.specs.Jobs.{BeganJob}
use Rattle.vb_calls.specs.Programs.{Began}
use Rattle.vb_calls.specs.Shelves.{Ask, Fate, Got}
use Rattle.vb_events.specs.declared.event.Cause.TheVariants as cause
use Rattle.vb_types.specs.declared.journal.FlushPart.{FlushPart}
use Rattle.vb_types.specs.declared.role.Role.{Role}
use Rattle.node_core.specs.declared.admin.AdminCall.{AdminCall}
use Rattle.node_core.specs.declared.conn.Conn.{Conn}
use Rattle.node_core.specs.declared.node.Node.{Node}
use Rattle.node_core.specs.declared.out.NodeOut.{NodeOut}
use Rattle.node_core.specs.Admin.{admin_job}
use Rattle.node_core.specs.Dials.{KeptDial, dial_bytes, dial_due}
use Rattle.node_core.specs.Flushing.{chain_changed, flush_at, ticked}
use Rattle.node_core.specs.GivingUp.{GaveUpAt, Ungiven}
use Rattle.node_core.specs.Outcomes.{value_at, FedAt, Stopped, Heard, Unheard, PostedAt, Unposted, AnsweredAt, Unanswered, PulledAt, Halted, DroppedAt, DialDueAt, DialFedAt, DialStopped, DialUndue, Administered, Settles, Wrote, Made, HalfMade}
use Rattle.node_core.specs.Outs.{refused_out, made_out, flush_out, dial_ended, admin_out}
use Rattle.node_told.specs.Told.{FirstOfJob, ToldOfJob, Quiet, PieceTold, PieceBegan, OutcomeTold, OutcomeBegan, AnswerTold, AnswerBegan, PullTold, PullBegan, YieldTold, YieldBegan, DropTold, DialTold, DueTold, FirstOfProg, ToldProg}

module _ {W : Type 0} (J : Type 0) (mine : W → ℕ → List (VbCall × VbReply)) where
  -- bytes of a peer
  pub record HearingCallsNothing : Type 0 where
    pub heard : (key : ℕ) (piece : List ℕ) (old : Node W J) (frames : List Frame) (new : Node W J) → Heard key piece old frames new → Quiet mine old.vbs new.vbs
    pub unheard : (key : ℕ) (old new : Node W J) → Unheard key old new → Quiet mine old.vbs new.vbs

module _ {W : Type 0} (J : Type 0) (step : W → ℕ → VbCall → Option VbReply → W → Type 0) (mine : W → ℕ → List (VbCall × VbReply)) where
  -- bytes of a client
  pub record PiecesAreTold : Type 0 where
    pub fed : (clock key : ℕ) (piece : List ℕ) (old : Node W J) (out : NodeOut) (new : Node W J) → FedAt step clock key piece (get old.conns key) old out new → PieceTold mine clock piece (get old.conns key) out old.vbs new.vbs
    pub stopped : (clock key : ℕ) (piece : List ℕ) (old new : Node W J) → Stopped step clock key piece old new → (found : Conn) × (get old.conns key ≡ Some found) × PieceBegan mine clock piece found old.vbs new.vbs

  -- the outcome of a durable write
  pub record OutcomesAreTold : Type 0 where
    pub posted : (clock key : ℕ) (outcome : Resolved) (old : Node W J) (out : NodeOut) (new : Node W J) → PostedAt step clock key outcome (get old.conns key) old out new → OutcomeTold mine clock outcome (get old.conns key) out old.vbs new.vbs
    pub stopped : (clock key : ℕ) (outcome : Resolved) (old new : Node W J) → Unposted step clock key outcome old new → (found : Conn) × (get old.conns key ≡ Some found) × OutcomeBegan mine clock outcome found old.vbs new.vbs

  -- a peer's frame
  pub record AnswersAreTold : Type 0 where
    pub answered : (key : ℕ) (f : Frame) (old : Node W J) (out : NodeOut) (new : Node W J) → AnsweredAt step key f (get old.conns key) old out new → AnswerTold mine f (get old.conns key) out old.vbs new.vbs
    pub stopped : (key : ℕ) (f : Frame) (old new : Node W J) → Unanswered step key f old new → (found : Conn) × (get old.conns key ≡ Some found) × AnswerBegan mine f found old.vbs new.vbs

  -- vBuckets that are to be given up in front of a pull
  pub record YieldsAreTold : Type 0 where
    pub given : (frames key : ℕ) (old : Node W J) (out : NodeOut) (new : Node W J) → GaveUpAt step frames key (get old.conns key) old out new → YieldTold mine old.number frames (get old.conns key) out old.vbs new.vbs
    pub stopped : (frames key : ℕ) (old new : Node W J) → Ungiven step frames key old new → (found : Conn) × (get old.conns key ≡ Some found) × YieldBegan mine frames found old.vbs new.vbs

  -- a stream's cursor that is taken away
  pub record DropsAreTold : Type 0 where
    pub dropped : (v key : ℕ) (old : Node W J) (out : NodeOut) (new : Node W J) → DroppedAt step v (get old.conns key) old out new → DropTold mine v (get old.conns key) out old.vbs new.vbs

  -- a chain that is set, and a tick
  pub record SettlesAreTold : Type 0 where
    pub chained : (v : ℕ) (links : _) (old : Node W J) (out : NodeOut) (new : Node W J) → Settles step (chain_changed old.number v links) old out new
        → ToldProg mine (chain_changed old.number v links) (λ told. out ≡ flush_out told) old.vbs new.vbs
    pub unchained : (v : ℕ) (links : _) (old new : Node W J) → Began step (chain_changed old.number v links) old.vbs new.vbs → FirstOfProg mine (chain_changed old.number v links) old.vbs new.vbs
    pub ticked_once : (v clock : ℕ) (old : Node W J) (out : NodeOut) (new : Node W J) → Settles step (ticked old.number v clock) old out new
        → ToldProg mine (ticked old.number v clock) (λ told. out ≡ flush_out told) old.vbs new.vbs
    pub unticked : (v clock : ℕ) (old new : Node W J) → Began step (ticked old.number v clock) old.vbs new.vbs → FirstOfProg mine (ticked old.number v clock) old.vbs new.vbs

  -- what is due once more is written down
  pub record DuesAreTold : Type 0 where
    pub acknowledged : (v : ℕ) (old : Node W J) (out : NodeOut) (new : Node W J) → DialDueAt step v (value_at old.dials v) old out new → DueTold mine (value_at old.dials v) out old.vbs new.vbs
    pub stopped : (v : ℕ) (old new : Node W J) → DialUndue step v old new → (found : KeptDial) × (value_at old.dials v ≡ Some found) × FirstOfProg mine (dial_due found.plain) old.vbs new.vbs

module _ {W J : Type 0} (step : W → ℕ → VbCall → Option VbReply → W → Type 0) (asks : J → ℕ → (ask : Ask) → Got ask → J → Type 0) (mine : W → ℕ → List (VbCall × VbReply)) where
  -- frames that are pulled
  pub record PullsAreTold : Type 0 where
    pub pulled : (frames key : ℕ) (old : Node W J) (out : NodeOut) (new : Node W J) → PulledAt step asks frames key (get old.conns key) old out new → PullTold mine frames (get old.conns key) out old.vbs new.vbs
    pub stopped : (frames key : ℕ) (old new : Node W J) → Halted step asks frames key old new → (found : Conn) × (get old.conns key ≡ Some found) × PullBegan mine frames found old.vbs new.vbs

  -- bytes of a dial's producer
  pub record DialsAreTold : Type 0 where
    pub fed : (v : ℕ) (piece : List ℕ) (old : Node W J) (out : NodeOut) (new : Node W J) → DialFedAt step asks v piece (value_at old.dials v) old out new → DialTold mine piece (value_at old.dials v) out old.vbs new.vbs
    pub stopped : (v : ℕ) (piece : List ℕ) (old new : Node W J) → DialStopped step asks v piece old new → (found : KeptDial) × (value_at old.dials v ≡ Some found) × FirstOfJob mine (dial_bytes piece found.plain) old.vbs new.vbs

  -- an operator's call
  pub record OperatorsAreTold : Type 0 where
    pub carried_out : (v : ℕ) (asked : AdminCall) (old : Node W J) (out : NodeOut) (new : Node W J) → Administered step asks v asked old out new
        → ToldOfJob mine (admin_job old.number v asked) (λ told. out ≡ admin_out (dial_ended told.ended (value_at old.dials v)) told) old.vbs new.vbs
    pub stopped : (v : ℕ) (asked : AdminCall) (old new : Node W J) → BeganJob step asks (admin_job old.number v asked) old.vbs old.disks new.vbs new.disks → FirstOfJob mine (admin_job old.number v asked) old.vbs new.vbs

  -- a step of writing a vBucket down, where the access has it
  pub record FlushesAreTold (has : W → ℕ → Bool) : Type 0 where
    pub made : (v : ℕ) (part : FlushPart) (old : Node W J) (out : NodeOut) (new : Node W J) → Wrote step asks has v part old out new
        → ToldOfJob mine (flush_at old.number v part (has old.vbs v)) (λ told. out ≡ flush_out told) old.vbs new.vbs
    pub stopped : (v : ℕ) (part : FlushPart) (old new : Node W J) → BeganJob step asks (flush_at old.number v part (has old.vbs v)) old.vbs old.disks new.vbs new.disks
        → FirstOfJob mine (flush_at old.number v part (has old.vbs v)) old.vbs new.vbs

module _ {W J : Type 0} (made : W → ℕ → ℕ → Role → ℕ → Bool → W → Type 0) (asks : J → ℕ → (ask : Ask) → Got ask → J → Type 0) (mine : W → ℕ → List (VbCall × VbReply)) where
  -- a vBucket that is to be made: what became of its first record is some answer of its journal
  pub record MakesAreTold : Type 0 where
    pub noted : (v : ℕ) (role : Role) (uuid : ℕ) (old : Node W J) (out : NodeOut) (new : Node W J) → Made made asks v role uuid old out new
        → (((fate : Fate) × (out ≡ made_out old.number v role uuid (wrote_of fate))) ⊎ (out ≡ refused_out cause.VbExists)) × Quiet mine old.vbs new.vbs
    pub stopped : (v : ℕ) (role : Role) (uuid : ℕ) (old new : Node W J) → HalfMade made asks v role uuid old new → Quiet mine old.vbs new.vbs
