-- a transcript that is read back line by line
use Rattle.std.specs.Prelude.{◌≡◌, ◌≢◌, ℕ, ◌+◌, ◌==◌, if◌then◌else◌, List, [], ◌∷◌, ◌++◌, length, Option, Some, None, option_and_then, Result, Ok, Err, codes, decimal}
use Rattle.std.specs.List.{All, flat_map, slice_split}
use Rattle.std.specs.Str.{bytes_eq}
use Rattle.vb_events.specs.declared.event.Group.{Group}
use Rattle.script_text.specs.Lines.{ended}
use Rattle.script_text.specs.Transcript.{event_text, answer_text, print_of}
use Rattle.script_text.specs.Held.{IsGroupHeld}
use Rattle.script_text.specs.TakenLines.{line_taken}
use Rattle.script_text.specs.declared.read_lines.Line.{Line}
use Rattle.script_text.specs.declared.read_lines.Line.TheVariants as line
use Rattle.script_text.specs.declared.read_transcript.{Opened.{Opened}, Reading.{Reading}}
use Rattle.script_text.specs.declared.script.BadLine.{BadLine}

-- ---- what is to be read

-- the bytes are the text of these groups
pub record IsTranscript (bytes : List ℕ) (groups : List Group) : Type 0 where
  pub printed : bytes ≡ print_of groups
  pub held : All IsGroupHeld groups

-- a transcript begins with these bytes
pub record GoesOn (front : List ℕ) : Type 0 where
  pub groups : List Group
  pub more : List ℕ
  pub begins : print_of groups ≡ front ++ more
  pub held : All IsGroupHeld groups

-- no byte is a newline
abbrev pub IsPlain : List ℕ → Type 0
IsPlain text = All (λ b. b ≢ 10) text

-- The line of this number, from 1, is the first that is none of a transcript or out of place: some transcript begins with the
-- lines before it, and none with these and this one. Where it has no newline, or where there is no such line, the bytes are no
-- transcript.
pub record BreaksAt (bytes : List ℕ) (number : ℕ) : Type 0 where
  pub lines : List (List ℕ)
  pub rest : List ℕ
  pub joined : bytes ≡ flat_map ended lines ++ rest
  pub plain : All IsPlain lines
  pub number_is : number ≡ length lines + 1
  pub before : GoesOn (flat_map ended lines)
  pub whole : (text more : List ℕ) → rest ≡ ended text ++ more → IsPlain text → ¬ GoesOn (flat_map ended lines ++ ended text)
  pub last : IsPlain rest → (groups : List Group) → ¬ IsTranscript bytes groups

-- ---- how it is read

-- a line's text, without its newline
unfoldable pub line_text : Line → List ℕ
line_text (line.Head number) = codes "#" ++ decimal number
line_text (line.Event e) = event_text e
line_text (line.Answer a) = answer_text a

-- what a line was taken for, if that has the line's text
abbrev pub if_text : List ℕ → Option Line → Option Line
if_text text None = None
if_text text (Some l) = if bytes_eq (line_text l) text then Some l else None

-- what a line is
unfoldable pub line_of : List ℕ → Option Line
line_of text = if_text text (line_taken text)

-- What is read once this line stands behind these groups and, where there is one, the group whose answer is still to come; none
-- where the line is out of place: a head inside a group, or another line outside one.
abbrev pub put_behind : List Group → Option Opened → Line → Option Reading
put_behind groups None (line.Head number) = Some (record { groups = groups; opened = Some (record { line = number; events = [] }) })
put_behind groups None (line.Event e) = None
put_behind groups None (line.Answer a) = None
put_behind groups (Some o) (line.Head number) = None
put_behind groups (Some o) (line.Event e) = Some (record { groups = groups; opened = Some (record { line = o.line; events = o.events ++ e ∷ [] }) })
put_behind groups (Some o) (line.Answer a) =
    Some (record { groups = groups ++ (record { line = o.line; events = o.events; answer = a }) ∷ []; opened = None })

-- the same of all that was read
abbrev pub put_line : Reading → Line → Option Reading
put_line reading l = put_behind reading.groups reading.opened l

-- the same of a line's text
abbrev pub put_text : Reading → List ℕ → Option Reading
put_text reading text = option_and_then (put_line reading) (line_of text)

-- what follows from what was read, or the line of this number is bad
abbrev pub or_bad : ℕ → Option Reading → (Reading → Result (List Group) BadLine) → Result (List Group) BadLine
or_bad number None more = Err (record { line = number })
or_bad number (Some reading) more = more reading

-- the groups, or the line of this number is bad where an answer is still to come
abbrev pub if_closed : ℕ → List Group → Option Opened → Result (List Group) BadLine
if_closed number groups None = Ok groups
if_closed number groups (Some o) = Err (record { line = number })

-- what the end of the bytes makes of what was read: behind the last newline stands nothing
abbrev pub at_end : ℕ → Reading → List ℕ → Result (List Group) BadLine
at_end number reading [] = if_closed number reading.groups reading.opened
at_end number reading (b ∷ text) = Err (record { line = number })

-- what is read of lines, the first of this number, and of what stands behind the last newline
abbrev pub read_from : ℕ → Reading → List (List ℕ) → Result (List Group) BadLine
read_from number reading [] = Err (record { line = number })
read_from number reading (last ∷ []) = at_end number reading last
read_from number reading (text ∷ next ∷ more) = or_bad number (put_text reading text) (λ r. read_from (number + 1) r (next ∷ more))

-- the lines of bytes, and what stands behind the last newline
abbrev pub cut_lines : List ℕ → List (List ℕ)
cut_lines bytes = slice_split (λ b. b == 10) bytes

-- nothing is read yet
abbrev pub none_read : Reading
none_read = record { groups = []; opened = None }

-- what is read of a transcript
unfoldable pub transcript_of : List ℕ → Result (List Group) BadLine
transcript_of bytes = read_from 1 none_read (cut_lines bytes)
