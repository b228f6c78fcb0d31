-- scripts, and transcripts of them to be judged by hand
use Rattle.std.specs.Prelude.{◌≡◌, ℕ, false, List, [], ◌∷◌, ◌++◌, Some, None, Ok}
use Rattle.std.specs.Int.{w32, to_be_bytes}
use Rattle.mcbp_frame.specs.declared.frame.Frame.{Frame}
use Rattle.mcbp_frame.specs.declared.frame.TheConstants.{REQUEST}
use Rattle.mcbp_frame.specs.Cutting.{frames_in}
use Rattle.mcbp_frame.specs.Spelling.{spelling}
use Rattle.mcbp_kv.specs.Answers.{stored_answer}
use Rattle.mcbp_kv.specs.Replies.{reply_frame}
use Rattle.mcbp_kv.specs.Requests.{request_of}
use Rattle.mcbp_kv.specs.declared.request.KvRequest.TheVariants as request
use Rattle.mcbp_kv.specs.declared.opcodes.TheConstants.{SET}
use Rattle.script_text.specs.declared.verb.ScriptLine.{ScriptLine}
use Rattle.script_text.specs.declared.verb.Verb.{Verb}
use Rattle.script_text.specs.declared.verb.Verb.TheVariants as verb
use Rattle.script_text.specs.declared.verb.VbVerb.TheVariants as vb_verb
use Rattle.script_text.specs.declared.verb.ClientVerb.TheVariants as client_verb
use Rattle.vb_types.specs.Limits.{IsKey, IsValue}
use Rattle.vb_types.specs.declared.change.Act.TheVariants as act
use Rattle.vb_types.specs.declared.change.Change.{Change}
use Rattle.vb_types.specs.declared.doc.Doc.{Doc}
use Rattle.vb_events.specs.declared.event.Answer.{Answer}
use Rattle.vb_events.specs.declared.event.Answer.TheVariants as answer
use Rattle.vb_events.specs.declared.event.Event.{Event}
use Rattle.vb_events.specs.declared.event.Event.TheVariants as event
use Rattle.vb_events.specs.declared.event.Group.{Group}
use Rattle.vb_types.specs.declared.role.Role.{Role}
use Rattle.vb_types.specs.declared.role.Role.TheVariants as role
use Rattle.vb_types.specs.declared.write.Op.TheVariants as op
use Rattle.vb_types.specs.declared.write.Write.{Write}
use Rattle.transcript_law.specs.Chronicles.{Chronicle, empty_chronicle, after_lines}

-- a line of a script, with its number
abbrev pub script_line : ℕ → Verb → ScriptLine
script_line number said = record { line = number; verb = said }

-- to set a key, without flags and expiration
abbrev pub set_write : List ℕ → List ℕ → Write
set_write key value = record { op = op.Set; key = key; value = value; flags = 0; expiry = 0; datatype = 0; cas = 0 }

-- the frame that asks for that at the vBucket 0
abbrev pub set_frame : List ℕ → List ℕ → Frame
set_frame key value = record {
  magic = REQUEST;
  opcode = SET;
  datatype = 0;
  vb_or_status = 0;
  opaque = 9;
  cas = 0;
  framing = [];
  extras = to_be_bytes w32 0 ++ to_be_bytes w32 0;
  key = key;
  value = value;
}

-- the line of this number sets a key at the vBucket 0 of the node 0
abbrev pub set_line : ℕ → List ℕ → List ℕ → ScriptLine
set_line number key value = script_line number (verb.AtClient 0 1 (client_verb.Bytes (spelling (set_frame key value))))

-- what the client is told of it: that it was made, with this CAS value
abbrev pub set_told : ℕ → Event
set_told cas = event.Reply 0 1 (spelling (reply_frame (stored_answer SET 9 cas [])))

-- a frame that sets a key is whole, and asks for that write
abbrev pub SetLinesAsk : Type 0
SetLinesAsk = (key value : List ℕ) → IsKey key → IsValue value
    → (frames_in (spelling (set_frame key value)) ≡ set_frame key value ∷ []) × (request_of false (set_frame key value) ≡ Ok (request.Write (set_write key value) None))

-- what is told of the line of this number, with this answer
abbrev pub group_answered : ℕ → List Event → Answer → Group
group_answered number events said = record { line = number; events = events; answer = said }

-- the same where it was carried out, with nothing to count
abbrev pub group_done : ℕ → List Event → Group
group_done number events = group_answered number events answer.Ok

-- the lines of an active vBucket of the node 0, made on a branch
abbrev pub active_vb_lines : ℕ → ℕ → List Event
active_vb_lines v uuid = event.Branch 0 v uuid None 0 0 ∷ event.Role 0 v role.Active ∷ []

-- the first document of a key, with this CAS value
abbrev pub first_doc : ℕ → List ℕ → Doc
first_doc cas value = record { value = value; cas = cas; rev = 1; flags = 0; expiry = 0; datatype = 0 }

-- the key 7 is set to 8 by the first change
abbrev pub one_change : Change
one_change = record { seq = 1; key = 7 ∷ []; act = act.Set (first_doc 1 (8 ∷ [])) }

-- the vBucket v of the node 0 makes that change on the branch 5
abbrev pub change_line : ℕ → Event
change_line v = event.Changed 0 v 5 one_change

-- the vBucket 0 of the node 0 is shown with one change, which is all that it has
abbrev pub shown_with_change : Role → ℕ → ℕ → ℕ → List Event → List Event
shown_with_change said uuid docs preps lines = event.Shown 0 0 said uuid 1 1 1 docs preps ∷ lines

-- the line of the key's document, with this value
abbrev pub value_lines : List ℕ → List Event
value_lines value = event.Document (7 ∷ []) (first_doc 1 value) ∷ []

-- the key 7 is set on the branch 5 and shown
abbrev pub one_set : List ScriptLine
one_set =
    script_line 1 (verb.Node 0) ∷ script_line 2 (verb.AtClient 0 1 client_verb.Open) ∷ script_line 3 (verb.AtVb 0 0 (vb_verb.MakeActive 5))
    ∷ set_line 4 (7 ∷ []) (8 ∷ []) ∷ script_line 5 (verb.AtVb 0 0 vb_verb.Show) ∷ []

-- what is told of that script: its `shown` line counts so many documents and prepares, and has these lines behind it
abbrev pub one_set_groups : ℕ → ℕ → List Event → List Group
one_set_groups docs preps lines =
    group_done 1 [] ∷ group_done 2 [] ∷ group_done 3 (active_vb_lines 0 5)
    ∷ group_done 4 (change_line 0 ∷ set_told 1 ∷ []) ∷ group_done 5 (shown_with_change role.Active 5 docs preps lines) ∷ []

-- two active vBuckets of the node 0, the second on this branch
abbrev pub two_vbs : ℕ → List ScriptLine → List ScriptLine
two_vbs uuid more =
    script_line 1 (verb.Node 0) ∷ script_line 2 (verb.AtClient 0 1 client_verb.Open) ∷ script_line 3 (verb.AtVb 0 0 (vb_verb.MakeActive 5))
    ∷ script_line 4 (verb.AtVb 0 1 (vb_verb.MakeActive uuid)) ∷ more

-- what is told of them
abbrev pub two_vbs_groups : ℕ → List Group → List Group
two_vbs_groups uuid more =
    group_done 1 [] ∷ group_done 2 [] ∷ group_done 3 (active_vb_lines 0 5) ∷ group_done 4 (active_vb_lines 1 uuid) ∷ more

-- the key 7 is set at the vBucket 0
abbrev pub set_one : List ScriptLine
set_one = set_line 5 (7 ∷ []) (8 ∷ []) ∷ []

-- the line of the set tells these changes, and then that it was made
abbrev pub sets_groups : List Event → List Group
sets_groups changes = group_done 5 (changes ++ set_told 1 ∷ []) ∷ []

-- nothing is set, and the vBucket 0 turns dead and is shown, or is shown as it is
abbrev pub dead_and_show : List ScriptLine
dead_and_show = script_line 5 (verb.AtVb 0 0 vb_verb.Dead) ∷ script_line 6 (verb.AtVb 0 0 vb_verb.Show) ∷ []

abbrev pub show_alone : List ScriptLine
show_alone = script_line 5 (verb.AtVb 0 0 vb_verb.Show) ∷ []

-- the key 7 is set there, it turns dead, and is shown
abbrev pub set_dead_and_show : List ScriptLine
set_dead_and_show = set_line 5 (7 ∷ []) (8 ∷ []) ∷ script_line 6 (verb.AtVb 0 0 vb_verb.Dead) ∷ script_line 7 (verb.AtVb 0 0 vb_verb.Show) ∷ []

-- what was read when both vBuckets are on the branch 5, as a replica and its active are
abbrev pub both_on_one : Chronicle
both_on_one = record (after_lines empty_chronicle (active_vb_lines 0 5 ++ active_vb_lines 1 6)) { branch_at = λ n v. Some 5 }

-- after its change the vBucket 0 is dead, and is shown with this newest branch
abbrev pub shown_after_change : ℕ → List Group
shown_after_change uuid = group_done 5 (change_line 0 ∷ set_told 1 ∷ []) ∷ group_done 6 (event.Role 0 0 role.Dead ∷ []) ∷ group_done 7 (shown_with_change role.Dead uuid 1 0 (value_lines (8 ∷ []))) ∷ []

-- with no change it is dead, and is shown with this newest branch
abbrev pub shown_dead : ℕ → List Group
shown_dead uuid = group_done 5 (event.Role 0 0 role.Dead ∷ []) ∷ group_done 6 (event.Shown 0 0 role.Dead uuid 0 0 0 0 0 ∷ []) ∷ []

-- with no change it is shown as the active one that it is, with this newest branch
abbrev pub shown_active : ℕ → List Group
shown_active uuid = group_done 5 (event.Shown 0 0 role.Active uuid 0 0 0 0 0 ∷ []) ∷ []

-- what was read when the vBucket 1 is put on the branch 7, which was made from the branch 5 at this seqno
abbrev pub forked_at : ℕ → Chronicle
forked_at fork = after_lines empty_chronicle (active_vb_lines 0 5 ++ event.Branch 0 1 7 (Some 5) fork fork ∷ [])
