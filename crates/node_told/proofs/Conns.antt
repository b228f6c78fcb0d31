-- the calls of a node that are of a connection
use Rattle.std.proofs.Common.{◌≡◌, ◌∙◌, ℕ, Bool, List, Option, Some, None, ap}
use Rattle.slab.specs.Slab.{get}
use Rattle.dcp_producer.specs.Dropping.{cursor_dropped}
use Rattle.mcbp_frame.specs.declared.frame.Frame.{Frame}
use Rattle.vb_calls.specs.declared.calls.VbCall.{VbCall}
use Rattle.vb_calls.specs.declared.calls.VbReply.{VbReply}
use Rattle.vb_calls.specs.declared.calls.Resolved.{Resolved}
use Rattle.vb_told.specs.Laws.{ListsCalls}
use Rattle.node_core.specs.declared.conn.Conn.{Conn}
use Rattle.node_core.specs.declared.conn.Conn.TheVariants as conn
use Rattle.node_core.specs.declared.node.Node.{Node}
use Rattle.node_core.specs.declared.out.NodeOut.{NodeOut}
use Rattle.node_core.specs.Clients.{Handling, client_fed, client_posted}
use Rattle.dcp_producer.specs.declared.yields.Yielded.{Yielded}
use Rattle.node_core.specs.GivingUp.{GaveUpAt, ConnGaveUp, ConnUngiven, GiveResult, given_out, peer_gives_up}
use Rattle.node_core.specs.Outcomes.{FedAt, ConnFed, ConnStopped, PostedAt, ConnPosted, ConnUnposted, AnsweredAt, ConnAnswered, ConnUnanswered, DroppedAt, producer_in}
use Rattle.node_core.specs.Outs.{client_out, peer_out, dropped_out}
use Rattle.node_core.specs.Peers.{PeerResult, peer_answered}
use Rattle.node_told.specs.Told.{PieceTold, PieceBegan, OutcomeTold, OutcomeBegan, AnswerTold, AnswerBegan, YieldTold, YieldBegan, DropTold}
use Rattle.node_told.specs.Laws.{PiecesAreTold, OutcomesAreTold, AnswersAreTold, YieldsAreTold, DropsAreTold, HearingCallsNothing}
use Rattle.node_told.proofs.Ran.{quiet, told, first}

abbrev vbs_of : {W J : Type 0} → Node W J → W
vbs_of n = n.vbs

module _ {W J : Type 0} (mine : W → ℕ → List (VbCall × VbReply)) where
  pub hearing : HearingCallsNothing J mine
  hearing = record {
    heard = λ key piece old frames new h. quiet mine old.vbs new.vbs (ap vbs_of h.rest);
    unheard = λ key old new u. quiet mine old.vbs new.vbs (ap vbs_of u.rest);
  }

module _ {W : Type 0} (step : W → ℕ → VbCall → Option VbReply → W → Type 0) (mine : W → ℕ → List (VbCall × VbReply)) (lists : ListsCalls step mine) where
  conn_fed : (clock : ℕ) (piece : List ℕ) (found : Conn) (old : W) (out : NodeOut) (left : Conn) (new : W) → ConnFed step clock piece found old out left new → PieceTold mine clock piece (Some found) out old new
  conn_fed clock piece (conn.Client kept) old out (conn.Client left) new f = told step mine lists (client_fed clock piece kept.plain) (λ (h : Handling). out ≡ client_out h) old f.2.0 new f.2.1 f.2.2
  conn_fed clock piece (conn.Client kept) old out (conn.Peer left) new f = absurd f
  conn_fed clock piece (conn.Peer kept) old out left new f = (f.1, quiet mine old new f.0)

  stopped : (clock : ℕ) (piece : List ℕ) (found : Conn) (old new : W) → ConnStopped step clock piece found old new → PieceBegan mine clock piece found old new
  stopped clock piece (conn.Client kept) old new s = first step mine lists (client_fed clock piece kept.plain) old new s.1
  stopped clock piece (conn.Peer kept) old new s = s

  conn_posted : (clock : ℕ) (outcome : Resolved) (found : Conn) (old : W) (out : NodeOut) (left : Conn) (new : W) → ConnPosted step clock outcome found old out left new → OutcomeTold mine clock outcome (Some found) out old new
  conn_posted clock outcome (conn.Client kept) old out (conn.Client left) new f = told step mine lists (client_posted clock outcome kept.plain) (λ (h : Handling). out ≡ client_out h) old f.2.0 new f.2.1 f.2.2
  conn_posted clock outcome (conn.Client kept) old out (conn.Peer left) new f = absurd f
  conn_posted clock outcome (conn.Peer kept) old out left new f = (f.1, quiet mine old new f.0)

  unposted : (clock : ℕ) (outcome : Resolved) (found : Conn) (old new : W) → ConnUnposted step clock outcome found old new → OutcomeBegan mine clock outcome found old new
  unposted clock outcome (conn.Client kept) old new s = first step mine lists (client_posted clock outcome kept.plain) old new s.1
  unposted clock outcome (conn.Peer kept) old new s = s

  conn_answered : (f : Frame) (found : Conn) (old : W) (out : NodeOut) (left : Conn) (new : W) → ConnAnswered step f found old out left new → AnswerTold mine f (Some found) out old new
  conn_answered f (conn.Peer kept) old out (conn.Peer left) new a = told step mine lists (peer_answered f kept.plain) (λ (r : PeerResult). out ≡ peer_out r) old a.2.0 new a.2.1 a.2.2
  conn_answered f (conn.Peer kept) old out (conn.Client left) new a = absurd a
  conn_answered f (conn.Client kept) old out left new a = (a.1, quiet mine old new a.0)

  unanswered : (f : Frame) (found : Conn) (old new : W) → ConnUnanswered step f found old new → AnswerBegan mine f found old new
  unanswered f (conn.Peer kept) old new s = first step mine lists (peer_answered f kept.plain) old new s.1
  unanswered f (conn.Client kept) old new s = s

  conn_gave : (number frames : ℕ) (found : Conn) (old : W) (given : List Yielded) (out : NodeOut) (left : Conn) (new : W) → ConnGaveUp step frames found old given left new → out ≡ given_out number given → YieldTold mine number frames (Some found) out old new
  conn_gave number frames (conn.Client kept) old given out left new g said = (said ∙ ap (given_out number) g.1, quiet mine old new g.0)
  conn_gave number frames (conn.Peer kept) old given out (conn.Peer left) new g said =
      told step mine lists (peer_gives_up frames kept.plain) (λ (r : GiveResult). out ≡ given_out number r.given) old (record { peer = left.plain; given = given }) new g.2 said
  conn_gave number frames (conn.Peer kept) old given out (conn.Client left) new g said = absurd g

  ungiven : (frames : ℕ) (found : Conn) (old new : W) → ConnUngiven step frames found old new → YieldBegan mine frames found old new
  ungiven frames (conn.Peer kept) old new s = first step mine lists (peer_gives_up frames kept.plain) old new s.1
  ungiven frames (conn.Client kept) old new s = s

module _ {W J : Type 0} (step : W → ℕ → VbCall → Option VbReply → W → Type 0) (mine : W → ℕ → List (VbCall × VbReply)) (lists : ListsCalls step mine) where
  fed : (clock key : ℕ) (piece : List ℕ) (found : Option Conn) (old : Node W J) (out : NodeOut) (new : Node W J) → FedAt step clock key piece found old out new → PieceTold mine clock piece found out old.vbs new.vbs
  fed clock key piece None old out new f = (f.0, quiet mine old.vbs new.vbs (ap vbs_of f.1))
  fed clock key piece (Some found) old out new f = conn_fed step mine lists clock piece found old.vbs out f.left new.vbs f.fed

  pub pieces : PiecesAreTold J step mine
  pieces = record {
    fed = λ clock key piece old out new f. fed clock key piece (get old.conns key) old out new f;
    stopped = λ clock key piece old new s. (s.found, s.had, stopped step mine lists clock piece s.found old.vbs new.vbs s.stopped);
  }

  posted : (clock key : ℕ) (outcome : Resolved) (found : Option Conn) (old : Node W J) (out : NodeOut) (new : Node W J) → PostedAt step clock key outcome found old out new → OutcomeTold mine clock outcome found out old.vbs new.vbs
  posted clock key outcome None old out new f = (f.0, quiet mine old.vbs new.vbs (ap vbs_of f.1))
  posted clock key outcome (Some found) old out new f = conn_posted step mine lists clock outcome found old.vbs out f.left new.vbs f.posted

  pub outcomes : OutcomesAreTold J step mine
  outcomes = record {
    posted = λ clock key outcome old out new f. posted clock key outcome (get old.conns key) old out new f;
    stopped = λ clock key outcome old new s. (s.found, s.had, unposted step mine lists clock outcome s.found old.vbs new.vbs s.stopped);
  }

  answered : (key : ℕ) (f : Frame) (found : Option Conn) (old : Node W J) (out : NodeOut) (new : Node W J) → AnsweredAt step key f found old out new → AnswerTold mine f found out old.vbs new.vbs
  answered key f None old out new a = (a.0, quiet mine old.vbs new.vbs (ap vbs_of a.1))
  answered key f (Some found) old out new a = conn_answered step mine lists f found old.vbs out a.left new.vbs a.answered

  pub answers : AnswersAreTold J step mine
  answers = record {
    answered = λ key f old out new a. answered key f (get old.conns key) old out new a;
    stopped = λ key f old new s. (s.found, s.had, unanswered step mine lists f s.found old.vbs new.vbs s.stopped);
  }

  gave : (frames key : ℕ) (found : Option Conn) (old : Node W J) (out : NodeOut) (new : Node W J) → GaveUpAt step frames key found old out new → YieldTold mine old.number frames found out old.vbs new.vbs
  gave frames key None old out new g = (g.0, quiet mine old.vbs new.vbs (ap vbs_of g.1))
  gave frames key (Some found) old out new g = conn_gave step mine lists old.number frames found old.vbs g.given out g.left new.vbs g.gave g.said

  pub yields : YieldsAreTold J step mine
  yields = record {
    given = λ frames key old out new g. gave frames key (get old.conns key) old out new g;
    stopped = λ frames key old new s. (s.found, s.had, ungiven step mine lists frames s.found old.vbs new.vbs s.ungiven);
  }

  dropped : (v : ℕ) (found : Option Conn) (old : Node W J) (out : NodeOut) (new : Node W J) → DroppedAt step v found old out new → DropTold mine v found out old.vbs new.vbs
  dropped v None old out new d = (d.0, quiet mine old.vbs new.vbs (ap vbs_of d.1))
  dropped v (Some found) old out new d = told step mine lists (cursor_dropped v (producer_in found)) (λ (had : Bool). out ≡ dropped_out had) old.vbs d.had new.vbs d.ran d.said

  pub drops : DropsAreTold J step mine
  drops = record { dropped = λ v key old out new d. dropped v (get old.conns key) old out new d }
