use Rattle.transcript_law.proofs.lines.Takeovers.{none_known, plain_for}
use Rattle.transcript_law.proofs.verbs.{Handing.{each_made, none_stated, tells_of}, NodeLines.{risen_anew}}
use Rattle.transcript_law.proofs.takeovers.none_is_handed_over.Goals as goal

pub returns : goal.returns
returns c = record {
  made = λ chronicle line group none l. each_made chronicle line.verb group.events group.answer (tells_of chronicle line.verb group.events group.answer (plain_for chronicle line.verb none) l.5) l.6;
  risen = λ chronicle n v uuid parent fork high. risen_anew chronicle n v uuid parent fork high;
  tells = tells_of;
  stated = none_stated;
  none = none_known;
}
