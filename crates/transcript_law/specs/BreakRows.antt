-- lines that close a connection of a client, to be judged by hand
use Rattle.std.specs.Prelude.{ℕ, false, List, [], ◌∷◌, None}
use Rattle.script_text.specs.declared.verb.NodeVerb.TheVariants as node_verb
use Rattle.vb_disk.specs.declared.fuse.Fuse.TheVariants.{Stop}
use Rattle.vb_disk.specs.declared.made.Outcome.TheVariants.{Old}
use Rattle.vb_events.specs.declared.event.Answer.{Answer}
use Rattle.vb_events.specs.declared.event.Event.{Event}
use Rattle.transcript_law.specs.AnsweredRows.{brings, sent_alone}
use Rattle.script_text.specs.declared.verb.Verb.TheVariants as verb
use Rattle.script_text.specs.declared.verb.VbVerb.TheVariants as vb_verb
use Rattle.transcript_law.specs.Breaks.{AllBreak, ClosesAsBroken}
use Rattle.transcript_law.specs.Chronicles.{ahead}
use Rattle.transcript_law.specs.Lawfulness.{LawfulFrom, LawfulGroups}
use Rattle.transcript_law.specs.Transcripts.{group_done, script_line}

-- the connection 1 of the node 0 sent nothing that was not answered, and the line that brings these bytes tells these lines
abbrev pub ClosesBehind : List ℕ → List Event → Type 0
ClosesBehind bytes lines = ClosesAsBroken (sent_alone []) (brings bytes) lines

-- that connection waits with these bytes for the outcome of a durable write, and these lines of another line of the script are told
abbrev pub ClosesWaiting : List ℕ → List Event → Type 0
ClosesWaiting bytes lines = AllBreak (sent_alone bytes).clients_at None lines

-- that connection sent these bytes, of which none was answered, and these lines are told of it
abbrev pub LawfulSent : List ℕ → List Event → Type 0
LawfulSent bytes lines = LawfulFrom (sent_alone bytes) lines

-- while each node is to stop in its next device call
abbrev pub LawfulStopping : List ℕ → List Event → Type 0
LawfulStopping bytes lines = LawfulFrom (record (sent_alone bytes) { arm_at = λ n. record { fuse = Stop 1; out = Old; down = false } }) lines

-- and behind a line that crashes the node n, with this answer
abbrev pub LawfulCrashing : ℕ → Answer → List ℕ → List Event → Type 0
LawfulCrashing n said bytes lines = LawfulFrom (ahead (sent_alone bytes) (verb.AtNode n (node_verb.Crash Old)) said) lines

-- a `tick` tells these lines, where no client sent anything that was not answered
abbrev pub NoTick : List Event → Type 0
NoTick lines = LawfulGroups (sent_alone []) (script_line 1 (verb.AtVb 0 0 vb_verb.Tick) ∷ []) (group_done 1 lines ∷ []) → ⊥
