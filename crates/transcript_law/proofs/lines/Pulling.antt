-- what a peer's connection comes to as its producer puts the frames of its streams in turn, and which calls it makes, whatever the replies of vBuckets
use Rattle.std.specs.Prelude.{◌≡◌, ◌∷◌, ◌++◌, ◌==◌, ◌||◌, nat_lt}
use Rattle.transcript_law.proofs.Words.{ℕ, suc, Bool, List, [], ◌∙◌, subst, Event, Frame, VbCall, Halt, PlainProducer, Served, States, begun, frames_put}
pub use Rattle.dcp_producer.proofs.PullLines.{Lines, Puts, Takes, pull_so}
pub use Rattle.dcp_producer.specs.Pairs.{PutFew}
use Rattle.dcp_producer.specs.Pulling.{frame_put}
use Rattle.dcp_producer.specs.declared.desk.Desk.{Desk}
use Rattle.node_core.specs.Peers.{PlainPeer, PullResult, peer_pulled, pull_result}
use Rattle.transcript_law.proofs.Words.{StreamName}
use Rattle.vb_calls.specs.Programs.{AnyReply}
use Rattle.vb_calls.proofs.JobConduct.{after_job_always, always_bind_job}
use Rattle.vb_calls.specs.Jobs.{IsRead, after_job}
use Rattle.vb_calls.specs.Shelves.{Shelves}

-- a connection's window lets a frame through
abbrev pub lets_through : PlainProducer → Bool
lets_through end = end.window.size == 0 || nat_lt end.window.outstanding end.window.size

module _ (kind : VbCall → Type 0) (L : StreamName → Event → Type 0) (takes : Takes kind) (lines : Lines L) where
  -- ---- what is told of a pull of a peer's connection at the desk d

  module _ (P : List Event → Type 0) (d : Desk) (more : (lines : List Event) (line : Event) → L d.stream line → P lines → P (lines ++ line ∷ []))
      (R : PullResult → Type 0) (comes : (heard : List ℕ) (put : Served × Halt) → P put.0.events → R (pull_result heard put)) where
    abbrev pub Tells : ℕ → Served → Type 0
    Tells n s = P s.events × (s.end.desk ≡ d)

    pub pulled_so : (k : ℕ) (peer : PlainPeer) (states : States) (shelves : Shelves) → P [] → peer.producer.desk ≡ d → R (after_job (peer_pulled k peer) states shelves).1
    pulled_so k peer states shelves none at = after_job_always (λ v made. kind made) IsRead R (peer_pulled k peer) states shelves
        (always_bind_job AnyReply (λ v made. kind made) IsRead (Puts kind L takes lines Tells keeps puts k) R (frames_put k (begun peer.producer)) _ (pull_so kind L takes lines Tells keeps puts k (begun peer.producer) (none, at)) (λ put c. comes peer.heard put c.1.0))
      where
        keeps : (n : ℕ) (s : Served) (end : PlainProducer) → end.desk ≡ s.end.desk → Tells n s → Tells n (record s { end = end })
        keeps n s end same c = (c.0, same ∙ c.1)

        puts : (n : ℕ) (s : Served) (f : Frame) (line : Event) → L s.end.desk.stream line → Tells n s → Tells (suc n) (frame_put f line s)
        puts n s f line is c = (more s.events line (subst (λ (k : Desk). L k.stream line) c.1 is) c.0, c.1)
