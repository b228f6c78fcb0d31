-- what is noted of a link behind whole groups, where its stream may give its vBucket up: it is the dial's, and as far as the stream is
use Rattle.std.specs.Prelude.{◌≡◌, ◌≤◌, false}
use Rattle.std.specs.List.{All}
use Rattle.mcbp_frame.specs.declared.frame.TheConstants.{HEADER_LEN}
use Rattle.takeover.specs.declared.give_up.GiveStep.{GiveStep}
use Rattle.takeover.specs.declared.give_up.GiveStep.TheVariants.{AwaitActive, AwaitPending, End, SendActive, SendAll, SendPending, SendRest, Yield}
use Rattle.takeover.specs.declared.give_up.GiveUp.{GiveUp}
use Rattle.transcript_law.proofs.Words.{ℕ, Option, Some, None, Chronicle, PlainLink, PlainStream, PlainWorld, link_number, producer_node}
use Rattle.transcript_law.proofs.invariant.Agreement.{IsLink}
use Rattle.transcript_law.specs.{Heirs.{IsWriter}, LinesTold.{TakeoverKnown}}
use Rattle.takeover.specs.declared.take_over.TakeStep.TheVariants.{Own}
use Rattle.transcript_law.proofs.Words.{Granted, Role, stream_branch}
use Rattle.vb_events.specs.declared.event.StreamName.TheVariants.{Link}
use Rattle.transcript_law.proofs.invariant.Trees.{IsTold}

-- bytes enough for an answer were moved up since the state that was put last, where the answer to that came
abbrev pub CameIn : ℕ → GiveStep → Type 0
CameIn moved SendAll = Unit {0}
CameIn moved SendPending = Unit {0}
CameIn moved AwaitPending = Unit {0}
CameIn moved Yield = HEADER_LEN ≤ moved
CameIn moved SendRest = Unit {0}
CameIn moved SendActive = Unit {0}
CameIn moved AwaitActive = Unit {0}
CameIn moved End = HEADER_LEN ≤ moved

abbrev pub CameIf : ℕ → Option GiveUp → Type 0
CameIf moved None = Unit {0}
CameIf moved (Some g) = CameIn moved g.step

-- a stream that goes on: whether the vBucket that feeds it got another role, and what came
pub record NotedStream (t : TakeoverKnown) (stream : PlainStream) : Type 0 where
  pub turned : t.turned ≡ stream.ended
  pub came : CameIf t.moved stream.gives

pub record NotedLink (t : TakeoverKnown) (link : PlainLink) : Type 0 where
  pub dialed : t.dialed ≡ link.consumer.dialed.takeover
  pub each : All (NotedStream t) link.server.streams

-- so it is of each link, between groups; `takeover_of` is the same behind each line of a group (line_takeovers)
abbrev pub AllNoted : PlainWorld → Chronicle → Type 0
AllNoted w r = (link : PlainLink) → IsLink link w.links → NotedLink (r.takeover_of (link_number link)) link

-- a branch that lines tell of, on which nobody writes
pub record IsFreed (r : Chronicle) (u : ℕ) : Type 0 where
  pub free : r.writer_of u ≡ None
  pub is_told : IsTold r.tree u
  pub named : u ≡ 0 → ⊥

-- so is the stream's branch once active was stated, until the consumer's vBucket takes it over
abbrev pub FreeFor : Chronicle → PlainLink → Type 0
FreeFor r link = (g : Granted) → r.stated_of (link_number link) ≡ Some Role.Active → r.stream_of (Link (link_number link)) link.consumer.dialed.vb ≡ Some g → (link.consumer.taking ≡ record { last = Some Own } → ⊥) → IsFreed r (stream_branch g)

abbrev pub AllFree : PlainWorld → Chronicle → Type 0
AllFree w r = (link : PlainLink) → IsLink link w.links → FreeFor r link

-- while a stream puts what is left of a vBucket that was given up for it, that is the writer of the branch yet
abbrev pub KeptFor : Chronicle → ℕ → ℕ → Option Granted → PlainStream → Type 0
KeptFor r n v told stream = (g : Granted) → told ≡ Some g → stream.gives ≡ Some (record { step = SendRest }) → stream.ended ≡ false → IsWriter r n v (stream_branch g)

abbrev pub KeptLink : Chronicle → PlainLink → Type 0
KeptLink r link = All (KeptFor r (producer_node link) link.consumer.dialed.vb (r.stream_of (Link (link_number link)) link.consumer.dialed.vb)) link.server.streams

-- so it is of each link
abbrev pub AllKept : PlainWorld → Chronicle → Type 0
AllKept w r = (link : PlainLink) → IsLink link w.links → KeptLink r link
