-- for what a line closes a connection of a client
use Rattle.std.specs.Prelude.{◌≡◌, ℕ, Bool, true, false, List, [], ◌∷◌, ◌++◌, Option, Some, None}
use Rattle.std.specs.List.{list_any}
use Rattle.mcbp_frame.specs.Cutting.{front_fault}
use Rattle.mcbp_frame.specs.Frames.{faulty_head}
use Rattle.mcbp_frame.specs.Spelling.{spelling}
use Rattle.mcbp_frame.specs.declared.frame.FaultyHead.{FaultyHead}
use Rattle.mcbp_frame.specs.declared.frame.FrameFault.{FrameFault}
use Rattle.mcbp_kv.specs.Answers.{bare_answer}
use Rattle.mcbp_kv.specs.Replies.{reply_frame}
use Rattle.script_text.specs.declared.verb.ClientVerb.TheVariants as client_verb
use Rattle.script_text.specs.declared.verb.NodeVerb.TheVariants as node_verb
use Rattle.script_text.specs.declared.verb.Verb.{Verb}
use Rattle.script_text.specs.declared.verb.Verb.TheVariants as verb
use Rattle.vb_events.specs.declared.event.Event.{Event}
use Rattle.vb_events.specs.declared.event.Event.TheVariants as event
use Rattle.vb_types.specs.declared.status.Status.TheVariants.{Einval}
use Rattle.transcript_law.specs.LinesTold.{Chronicle}
use Rattle.transcript_law.specs.Questions.{behind_frames}
use Rattle.transcript_law.specs.ClientStreams.{with_sent_bytes}
use Rattle.transcript_law.specs.StreamsTold.{Asking, ClientsKnown}

-- a line tells that a connection closed
abbrev pub is_closing : Event → Bool
is_closing (event.Closed n c) = true
is_closing other = false

-- the client c of the node n is told Einval, where the header of a faulty frame says what it asks; and its connection closes
abbrev pub break_told : ℕ → ℕ → Option FaultyHead → List Event
break_told n c None = event.Closed n c ∷ []
break_told n c (Some head) = event.Reply n c (spelling (reply_frame (bare_answer head.opcode Einval head.opaque))) ∷ event.Closed n c ∷ []

-- of the bytes that a client sent, and was not answered, those behind the whole frames break the rules of a header; these lines end with what is told of that
pub record BreaksOff (n c : ℕ) (k : Asking) (lines : List Event) : Type 0 where
  pub fault : FrameFault
  pub stands : front_fault (behind_frames k.bytes) ≡ Some fault
  pub front : List Event
  pub last : lines ≡ front ++ break_told n c (faulty_head fault (behind_frames k.bytes))

-- a connection closed for such a fault, directly behind this line: the answer to the fault, if it has one
pub record ClosesThere (n c : ℕ) (k : Asking) (before : Option Event) : Type 0 where
  pub fault : FrameFault
  pub stands : front_fault (behind_frames k.bytes) ≡ Some fault
  pub told : (head : FaultyHead) → faulty_head fault (behind_frames k.bytes) ≡ Some head → before ≡ Some (event.Reply n c (spelling (reply_frame (bare_answer head.opcode Einval head.opaque))))

-- so does each that these lines tell of, behind this one, up to where a node stopped
abbrev pub AllBreak : ClientsKnown → Option Event → List Event → Type 0
AllBreak clients before [] = Unit {0}
AllBreak clients before (event.Closed n c ∷ behind) = ClosesThere n c (clients n c).asking before × AllBreak clients (Some (event.Closed n c)) behind
AllBreak clients before (event.NodeStopped n ∷ behind) = Unit {0}
AllBreak clients before (line ∷ behind) = AllBreak clients (Some line) behind

-- a line that brings bytes closes their connection only so; and any other line but a crash closes only connections of clients that wait with such bytes for an outcome
abbrev pub ClosesAsBroken : Chronicle → Verb → List Event → Type 0
ClosesAsBroken chronicle (verb.AtClient n c (client_verb.Bytes bytes)) lines = list_any is_closing lines ≡ true → BreaksOff n c (with_sent_bytes bytes (chronicle.clients_at n c)).asking lines
ClosesAsBroken chronicle (verb.AtNode n (node_verb.Crash out)) lines = Unit {0}
ClosesAsBroken chronicle other lines = AllBreak chronicle.clients_at None lines
