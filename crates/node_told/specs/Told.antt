-- what a node's calls come to, where others call the same vBuckets
use Rattle.std.specs.Prelude.{◌≡◌, ℕ, List, [], Option, Some, None}
use Rattle.vb_calls.specs.declared.calls.VbCall.{VbCall}
use Rattle.vb_calls.specs.declared.calls.VbReply.{VbReply}
use Rattle.vb_calls.specs.declared.calls.Resolved.{Resolved}
use Rattle.vb_calls.specs.Programs.{Prog, Made, Told, FirstCalls}
use Rattle.vb_calls.specs.Jobs.{Job}
use Rattle.vb_events.specs.declared.event.Cause.TheVariants as cause
use Rattle.dcp_producer.specs.Dropping.{cursor_dropped}
use Rattle.mcbp_frame.specs.declared.frame.Frame.{Frame}
use Rattle.vb_told.specs.Told.{ToldJob, FirstJobCalls, Gained}
use Rattle.node_core.specs.declared.conn.Conn.{Conn}
use Rattle.node_core.specs.declared.conn.Conn.TheVariants as conn
use Rattle.node_core.specs.declared.out.NodeOut.{NodeOut}
use Rattle.node_core.specs.Clients.{client_fed, client_posted, client_pulled}
use Rattle.node_core.specs.Dials.{KeptDial, dial_bytes, dial_due}
use Rattle.node_core.specs.GivingUp.{given_out, peer_gives_up}
use Rattle.node_core.specs.Outcomes.{producer_in}
use Rattle.node_core.specs.Outs.{done_out, refused_out, client_out, client_pull_out, peer_out, pull_out, dial_out, dropped_out}
use Rattle.node_core.specs.Peers.{peer_answered, peer_pulled}

module _ {W : Type 0} (mine : W → ℕ → List (VbCall × VbReply)) where
  -- a program's calls were made, with the replies that the lists gained, and it came to an answer of this kind
  pub record ToldProg {A : Type 0} (prog : Prog A) (is : A → Type 0) (old new : W) : Type 0 where
    pub answer : A
    pub made : List Made
    pub told : Told prog made answer
    pub grew : Gained mine made old new
    pub so : is answer

  -- the first of a program's calls were made
  pub record FirstOfProg {A : Type 0} (prog : Prog A) (old new : W) : Type 0 where
    pub made : List Made
    pub first : FirstCalls prog made
    pub grew : Gained mine made old new

  -- a job's calls were made, with the replies that the lists gained and some answers of its journals, and it came to an answer of this kind
  pub record ToldOfJob {A : Type 0} (job : Job A) (is : A → Type 0) (old new : W) : Type 0 where
    pub answer : A
    pub made : List Made
    pub told : ToldJob job made answer
    pub grew : Gained mine made old new
    pub so : is answer

  -- the first of a job's calls were made
  pub record FirstOfJob {A : Type 0} (job : Job A) (old new : W) : Type 0 where
    pub made : List Made
    pub first : FirstJobCalls job made
    pub grew : Gained mine made old new

  -- nothing was called
  abbrev pub Quiet : W → W → Type 0
  Quiet old new = Gained mine [] old new

  -- nothing was called, and the call was refused
  abbrev pub Refused : NodeOut → W → W → Type 0
  Refused out old new = (out ≡ refused_out cause.LinkClosed) × Quiet old new

  -- a client's connection was given bytes. Any other, and none, is refused
  abbrev pub PieceTold : ℕ → List ℕ → Option Conn → NodeOut → W → W → Type 0
  PieceTold clock piece (Some (conn.Client kept)) out old new = ToldProg (client_fed clock piece kept.plain) (λ h. out ≡ client_out h) old new
  PieceTold clock piece (Some (conn.Peer kept)) out old new = Refused out old new
  PieceTold clock piece None out old new = Refused out old new

  -- memory was short meanwhile
  abbrev pub PieceBegan : ℕ → List ℕ → Conn → W → W → Type 0
  PieceBegan clock piece (conn.Client kept) old new = FirstOfProg (client_fed clock piece kept.plain) old new
  PieceBegan clock piece (conn.Peer kept) old new = ⊥

  -- a client's connection was told what became of a durable write
  abbrev pub OutcomeTold : ℕ → Resolved → Option Conn → NodeOut → W → W → Type 0
  OutcomeTold clock outcome (Some (conn.Client kept)) out old new = ToldProg (client_posted clock outcome kept.plain) (λ h. out ≡ client_out h) old new
  OutcomeTold clock outcome (Some (conn.Peer kept)) out old new = Refused out old new
  OutcomeTold clock outcome None out old new = Refused out old new

  abbrev pub OutcomeBegan : ℕ → Resolved → Conn → W → W → Type 0
  OutcomeBegan clock outcome (conn.Client kept) old new = FirstOfProg (client_posted clock outcome kept.plain) old new
  OutcomeBegan clock outcome (conn.Peer kept) old new = ⊥

  -- a peer's connection answered a frame. Any other, and none, is refused
  abbrev pub AnswerTold : Frame → Option Conn → NodeOut → W → W → Type 0
  AnswerTold f (Some (conn.Peer kept)) out old new = ToldProg (peer_answered f kept.plain) (λ told. out ≡ peer_out told) old new
  AnswerTold f (Some (conn.Client kept)) out old new = Refused out old new
  AnswerTold f None out old new = Refused out old new

  abbrev pub AnswerBegan : Frame → Conn → W → W → Type 0
  AnswerBegan f (conn.Peer kept) old new = FirstOfProg (peer_answered f kept.plain) old new
  AnswerBegan f (conn.Client kept) old new = ⊥

  -- a connection was asked for frames of its streams. Where there is none, that is refused
  abbrev pub PullTold : ℕ → Option Conn → NodeOut → W → W → Type 0
  PullTold frames (Some (conn.Client kept)) out old new = ToldOfJob (client_pulled frames kept.plain) (λ told. out ≡ client_pull_out told) old new
  PullTold frames (Some (conn.Peer kept)) out old new = ToldOfJob (peer_pulled frames kept.plain) (λ told. out ≡ pull_out told) old new
  PullTold frames None out old new = Refused out old new

  abbrev pub PullBegan : ℕ → Conn → W → W → Type 0
  PullBegan frames (conn.Client kept) old new = FirstOfJob (client_pulled frames kept.plain) old new
  PullBegan frames (conn.Peer kept) old new = FirstOfJob (peer_pulled frames kept.plain) old new

  -- a connection of the node of this number was to give vBuckets up: a client's gives none up, and calls nothing. Where there is none, that is refused
  abbrev pub YieldTold : ℕ → ℕ → Option Conn → NodeOut → W → W → Type 0
  YieldTold number frames (Some (conn.Client kept)) out old new = (out ≡ given_out number []) × Quiet old new
  YieldTold number frames (Some (conn.Peer kept)) out old new = ToldProg (peer_gives_up frames kept.plain) (λ told. out ≡ given_out number told.given) old new
  YieldTold number frames None out old new = Refused out old new

  abbrev pub YieldBegan : ℕ → Conn → W → W → Type 0
  YieldBegan frames (conn.Client kept) old new = ⊥
  YieldBegan frames (conn.Peer kept) old new = FirstOfProg (peer_gives_up frames kept.plain) old new

  -- the cursor of a connection's stream of the vBucket v was taken away. Where there is no connection, that is refused
  abbrev pub DropTold : ℕ → Option Conn → NodeOut → W → W → Type 0
  DropTold v (Some found) out old new = ToldProg (cursor_dropped v (producer_in found)) (λ had. out ≡ dropped_out had) old new
  DropTold v None out old new = Refused out old new

  -- a dial was given bytes. Where there is none, they are refused
  abbrev pub DialTold : List ℕ → Option KeptDial → NodeOut → W → W → Type 0
  DialTold piece (Some kept) out old new = ToldOfJob (dial_bytes piece kept.plain) (λ told. out ≡ dial_out told) old new
  DialTold piece None out old new = Refused out old new

  -- what is due was acknowledged, if anything is; where there is no dial, nothing was called and nothing is told
  abbrev pub DueTold : Option KeptDial → NodeOut → W → W → Type 0
  DueTold (Some kept) out old new = ToldProg (dial_due kept.plain) (λ told. out ≡ done_out told.events told.out) old new
  DueTold None out old new = (out ≡ done_out [] []) × Quiet old new
