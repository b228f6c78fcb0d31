use Rattle.std.proofs.Common.{◌≡◌, List, Result, sym, subst}
use Rattle.std.specs.Prelude.{MatchResult}
use Rattle.std.proofs.lemmas.Result.{IfOk-weaker}
use Rattle.vb_events.specs.declared.event.Group.{Group}
use Rattle.script_text.specs.ReadBack.{IsTranscript, BreaksAt, transcript_of}
use Rattle.script_text.specs.declared.script.BadLine.{BadLine}
use Rattle.script_text.proofs.Breaks.{judged}
use Rattle.script_text.proofs.read_transcript.parse_transcript.Goals as goal

pub returns : goal.returns
returns c =
    let bytes = c.args.bytes.now in
    let says : Result (List Group) BadLine → Type 0 = λ r. MatchResult r (IsTranscript bytes) (λ bad. BreaksAt bytes bad.line) in
    IfOk-weaker c.read.result (λ read. read ≡ transcript_of bytes) says (λ read e. subst says (sym e) (judged bytes)) c.read.ensures
