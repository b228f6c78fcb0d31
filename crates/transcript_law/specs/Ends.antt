-- that each link which ends is told ended, by the dials that are known
use Rattle.std.specs.Prelude.{◌≡◌, ◌⊎◌, ℕ, false, List, [], ◌∷◌, Option, None}
use Rattle.script_text.specs.declared.verb.LinkVerb.TheVariants as link_verb
use Rattle.script_text.specs.declared.verb.NodeVerb.TheVariants as node_verb
use Rattle.script_text.specs.declared.verb.VbVerb.TheVariants as vb_verb
use Rattle.script_text.specs.declared.verb.Verb.{Verb}
use Rattle.script_text.specs.declared.verb.Verb.TheVariants as verb
use Rattle.vb_events.specs.declared.event.Answer.{Answer}
use Rattle.vb_events.specs.declared.event.Answer.TheVariants as answer
use Rattle.vb_events.specs.declared.event.Event.{Event}
use Rattle.vb_events.specs.declared.event.Event.TheVariants as event
use Rattle.transcript_law.specs.Asked.{turns_in}
use Rattle.transcript_law.specs.LinesTold.{Chronicle, Dial, after_lines, is_dial_at, is_dial_for}

-- which links are dialed, and not told over
abbrev pub Dials : Type 0
Dials = ℕ → Option Dial

-- none of them has an end at the node n
abbrev pub NoneAt : Dials → ℕ → Type 0
NoneAt dials n = (l : ℕ) → is_dial_at n (dials l) ≡ false

-- none feeds the vBucket v of the node n
abbrev pub NoneFor : Dials → ℕ → ℕ → Type 0
NoneFor dials n v = (l : ℕ) → is_dial_for n v (dials l) ≡ false

-- none has an end at a node of which these lines tell that it stopped
abbrev pub NoneStopped : Dials → List Event → Type 0
NoneStopped dials [] = Unit {0}
NoneStopped dials (event.NodeStopped n ∷ lines) = NoneAt dials n × NoneStopped dials lines
NoneStopped dials (line ∷ lines) = NoneStopped dials lines

-- none feeds the vBucket v of the node n, unless these lines tell of no new branch and no role
abbrev pub NoneTurned : Dials → ℕ → ℕ → List Event → Type 0
NoneTurned dials n v lines = (turns_in lines ≡ []) ⊎ NoneFor dials n v

-- by the line of the script: of a node that crashed, a vBucket that changed its role, and a link that was cut
abbrev pub NoneLeft : Dials → Verb → List Event → Answer → Type 0
NoneLeft dials (verb.AtNode n (node_verb.Crash out)) lines answer.Ok = NoneAt dials n
NoneLeft dials (verb.AtVb n v (vb_verb.Promote uuid)) lines said = NoneTurned dials n v lines
NoneLeft dials (verb.AtVb n v vb_verb.Follow) lines said = NoneTurned dials n v lines
NoneLeft dials (verb.AtVb n v vb_verb.Dead) lines said = NoneTurned dials n v lines
NoneLeft dials (verb.AtLink l link_verb.Cut) lines answer.Ok = dials l ≡ None
NoneLeft dials other lines said = Unit {0}

-- behind the lines of its group no link is left that ended with this line of the script: each was told over. None has an end at a node that crashed, or stopped inside it, none feeds a vBucket that it gave another role, and the one that it cut is over
abbrev pub AllEnded : Chronicle → Verb → List Event → Answer → Type 0
AllEnded chronicle asked lines said = NoneLeft (after_lines chronicle lines).dial_of asked lines said × NoneStopped (after_lines chronicle lines).dial_of lines
