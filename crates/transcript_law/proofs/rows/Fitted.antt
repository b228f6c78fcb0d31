-- the scripts that are judged by hand say what their grammar can say, and what their lines that set a key ask
use Rattle.std.specs.Prelude.{◌≡◌, ◌<◌, ◌∷◌, ◌++◌}
use Rattle.transcript_law.proofs.Words.{ℕ, false, List, [], None, sym, ap, ◌∙◌, append-nil, arith, All-nil, All-cons, Frame, frames_in, spelling, Readable, IsKey, IsValue, VerbFits, ScriptFits}
use Rattle.transcript_law.proofs.Words.{ScriptLine, two_followed, one_set}
use Rattle.{mcbp_frame.proofs.Pieces.{frames-spellings}, mcbp_kv.proofs.Commands.{spelled_is_read}, mcbp_kv.specs.Commands.{IsCommand}, mcbp_kv.specs.declared.request.KvRequest.TheVariants.{Write}}
use Rattle.{std.proofs.lemmas.List.Elements.{All-from_recursion}, transcript_law.specs.Transcripts.{set_write, set_frame, set_line, SetLinesAsk}}

-- a frame that is spelled is cut out whole
one_frame : (f : Frame) → Readable f → frames_in (spelling f) ≡ f ∷ []
unfolding frames_in
one_frame f r = ap frames_in (sym (append-nil (spelling f ++ []) ∙ append-nil (spelling f))) ∙ frames-spellings (f ∷ []) [] (All-cons Readable f [] r (All-nil Readable))

-- a set of a key of one byte, to a value of one byte
set_fits : (number key value : ℕ) → key < 256 → value < 256 → VerbFits (set_line number (key ∷ []) (value ∷ [])).verb
unfolding spelling
set_fits number key value k v = (omega arith, omega arith, All-from_recursion (λ b. b < 256) (spelling (set_frame (key ∷ []) (value ∷ []))) (search arith))

pub one_fits : ScriptFits one_set
one_fits = All-from_recursion (λ (line : ScriptLine). VerbFits line.verb) one_set
    (omega arith, ((omega arith, omega arith, tt), ((omega arith, omega arith, omega arith), (set_fits 4 7 8 (omega arith) (omega arith), ((omega arith, omega arith, tt), tt)))))

pub followed_fits : ScriptFits two_followed
followed_fits = All-from_recursion (λ (line : ScriptLine). VerbFits line.verb) two_followed (omega arith, (omega arith, ((omega arith, omega arith, tt), ((omega arith, omega arith, omega arith), ((omega arith, omega arith, tt), (set_fits 6 7 8 (omega arith) (omega arith), (set_fits 7 9 6 (omega arith) (omega arith), ((omega arith, omega arith, omega arith, omega arith, omega arith), ((omega arith, omega arith), ((omega arith, omega arith), ((omega arith, (omega arith, omega arith)), ((omega arith, omega arith), ((omega arith, omega arith, tt), tt)))))))))))))

set_readable : (key value : List ℕ) → IsKey key → IsValue value → Readable (set_frame key value)
set_readable key value k v = search arith

set_is_command : (key value : List ℕ) → IsKey key → IsValue value → IsCommand false (set_frame key value) (Write (set_write key value) None)
set_is_command key value k v = search arith

-- a line that sets a key asks for that write
pub sets_ask : SetLinesAsk
sets_ask key value k v = (one_frame (set_frame key value) (set_readable key value k v), spelled_is_read false (set_frame key value) (Write (set_write key value) None) (set_is_command key value k v))
